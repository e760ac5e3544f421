use Rattle.std.proofs.Common.{◌≡◌, pos, Some, sym, ap, ◌∙◌}
use Rattle.fj_meaning.specs.Statement.{has_pending}
use Rattle.fj_run_pending.specs.declared.held.Held.{Held}
use Rattle.fj_run_pending.specs.Plain.{holders}
use Rattle.fj_run_pending.proofs.Asked.{id_absent, id_at}
use Rattle.fj_run_pending.proofs.pick.has_number.Goals as goal

pub returns-in-Some : goal.returns-in-Some
returns-in-Some c =
    let tag : c.index.result.now.tag.0 ≡ c.args.id = ap (λ (h : Held). h.tag.0) c.index.ensures ∙ c.in-Some.ensures.some.1 c.index.result.now in
    sym (id_at c.args.unit c.args.helds.now.items c.in-Some.at c.index.result.now c.requires c.in-Some.ensures.some.0 (sym c.index.ensures))
    ∙ ap (λ n. has_pending (holders c.args.helds.now.items) (Some c.args.unit) (Some (pos n))) tag

pub returns-in-None : goal.returns-in-None
returns-in-None c = sym (id_absent c.args.unit c.args.id c.args.helds.now.items c.in-None.ensures.none)
