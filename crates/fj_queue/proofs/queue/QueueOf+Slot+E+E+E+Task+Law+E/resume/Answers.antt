use borrow.Author.Rules.{lives}
use Rattle.std.proofs.Common.{rules, arith, ◌≡◌, ◌+◌, ◌*◌, [], ◌∷◌, Some, subst, sym, refl}
use Rattle.std.proofs.lemmas.Grind.{common_steps}
use Rattle.fj_queue.specs.Cell.{IsFor, progress, stops_of}
use Rattle.fj_queue.proofs.Counts.{opens, is_home}
use Rattle.fj_queue.proofs.Calls.{even_home, begins_with}
use Rattle.fj_queue.specs.declared.view.Start.{Start}
use Rattle.fj_queue.proofs.queue.QueueOf+Slot+E+E+E+Task+Law+E.resume.Goals as goal

pub new-requires : goal.new-requires
new-requires g c = let items : c.push.new.self.items ≡ Some c.args.slot ∷ [] = first_of (search rules, grind (arith, common_steps)) in
    let prog : 2 * (c.done.result + c.stop_count.result) ≡ progress c.args.slot = (let d : c.done.result ≡ c.args.slot.done = search rules in let n : c.stop_count.result ≡ stops_of c.args.slot.halt = search rules in let o = is_home c.args.slot (even_home c.args.slot c.requires.1.1.1.1.1.1.1) in omega arith) in
    opens g.E.Engine.meaning c.any-plan.result.value c.args.slot _ _ _ _ _ _ refl refl refl (search rules) (search rules) prog (search rules) items c.submitted-sent.ensures.sized (subst (λ q. IsFor g.E.Engine.meaning q c.args.slot) (sym c.any-plan.ensures) c.requires.1.1.1.1.1.1.0) c.all_answered-answered.ensures.only (even_home c.args.slot c.requires.1.1.1.1.1.1.1)

pub any-plan-requires : goal.any-plan-requires
any-plan-requires g c κs within = search (rules, lives, within.0, within.1) depth 40 fits 40000

pub returns-in-Ok-clause-ok : goal.returns-in-Ok-clause-ok
returns-in-Ok-clause-ok g c = let about : Start g.row.E.Denot g.row.E-Task.Denot = record { plan = c.any-plan.result; sent = c.submitted-sent.result; heard = c.told-heard.result; answered = c.all_answered-answered.result } in
    (search rules, begins_with g.plan c.args.slot about c.in-Ok.seat.me (search rules) c.any-plan.ensures (search rules) (search rules) c.all_answered-answered.ensures.each)
