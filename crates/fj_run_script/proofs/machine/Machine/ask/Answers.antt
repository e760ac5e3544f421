use Rattle.std.proofs.Common.{◌≡◌, false, Some, None, Err, option_map, refl, sym, ap, ◌∙◌, subst, inr}
use Rattle.fj_connect.specs.Linked.{Linked}
use Rattle.fj_world.specs.Giving.{GivesOf}
use Rattle.std.proofs.Math.Logic.{∥∥₁_elim}
use Rattle.std.proofs.Props.{props}
use Rattle.fj_run_script.proofs.GivingUp.{first_loss, first_some, lost_is, only_first, fails_for, fails_to}
use Rattle.fj_run_script.proofs.Tallies.{not_both, not_stopped}
use Rattle.fj_world.specs.Conduct.{IsDueAsk}
use Rattle.fj_run_script.specs.Tallying.{due_of, first_lost}
use Rattle.fj_run_script.proofs.Counting.{going_asked, may_ask}
use Rattle.fj_run_script.proofs.Spending.{may_prop}
use Rattle.fj_run_script.specs.Admitting.{MayAsk}
use Rattle.fj_run_script.specs.Failing.{IsLoss}
use Rattle.fj_run_script.specs.Going.{OwesAsGiven}
use Rattle.fj_run_script.specs.declared.tally.Tally.{Tally}
use Rattle.fj_run_script.specs.Kept.{HaveKept, MayKeep}
use Rattle.fj_run_script.specs.Machine.{rest_of}
use Rattle.fj_run_script.proofs.Kept.{files_prop, follows_ok, gives_prop, gives_same, lost_files, none_kept}
use Rattle.fj_run_script.proofs.machine.Machine.ask.Goals as goal

pub returns-then-self-clause-fails : goal.returns-then-self-clause-fails
returns-then-self-clause-fails g c = λ tells r e going over stopped. absurd (not_both c.args.self.now.tally.over c.if-self.true going)

pub returns-in-Ok-clause-fails : goal.returns-in-Ok-clause-fails
returns-in-Ok-clause-fails g c = λ tells r e going over stopped.
    let goes = c.admit.ensures.admitted.over ∙ ap (λ t. t.over) c.next_ask.ensures.tally ∙ going in
    absurd (not_both c.admit.new.self.tally.over over goes)

pub returns-in-Err-clause-fails : goal.returns-in-Err-clause-fails
returns-in-Err-clause-fails g c = λ tells r e going over stopped.
    let m = c.args.self.now in
    let mid = c.next_ask.new.self in
    let taken = g.W.Sink.taken in
    let goes : mid.tally.over ≡ false = ap (λ t. t.over) c.next_ask.ensures.tally ∙ going in
    fails_to _ (g.W.Sink.tells c.args.out.now) (taken c.args.out.now) (taken c.next_ask.new.out) r m mid _ refl refl
    (fails_for _ (λ lost. c.lose.new.self.lost ≡ Some lost) (g.W.Sink.tells c.args.out.now) (taken c.args.out.now) (taken c.next_ask.new.out) r m mid
    (λ lost e. ap Err (only_first mid.tally.lost mid.tally.over c.in-Err.lost lost mid.tally.lost_over goes (sym c.lose.ensures.lost ∙ e)))
    (λ e. c.lose.ensures.lost ∙ ap (λ o. first_lost o c.in-Err.lost) (first_some mid.tally.lost mid.tally.over mid.tally.lost_over goes) ∙ ap Some (lost_is e)) (c.in-Err.ensures.fails tells r e))

pub returns-then-self-clause-short : goal.returns-then-self-clause-short
returns-then-self-clause-short g c = λ tells r e idle going over. absurd (not_both c.args.self.now.tally.over c.if-self.true going)

pub returns-in-Ok-clause-short : goal.returns-in-Ok-clause-short
returns-in-Ok-clause-short g c = λ tells r e idle going over.
    absurd (not_both c.admit.new.self.tally.over over (c.admit.ensures.admitted.over ∙ ap (λ t. t.over) c.next_ask.ensures.tally ∙ going))

pub returns-in-Err-clause-short : goal.returns-in-Err-clause-short
returns-in-Err-clause-short g c = λ tells r e idle going over. c.in-Err.ensures.short tells r e

pub returns-in-Ok-clause-on : goal.returns-in-Ok-clause-on
returns-in-Ok-clause-on g c = λ going over.
    let m = c.args.self.now in
    let mid = c.next_ask.new.self in
    let new = c.admit.new.self in
    let a = c.admit.ensures.admitted in
    let spent = c.in-Ok.ensures.spends in
    going_asked m new going mid c.in-Ok.ask c.requires.idle (follows_ok _ _ c.next_ask.result mid c.in-Ok.ask c.in-Ok.is (c.next_ask.ensures.follows going.at)).0 c.next_ask.ensures.deck c.next_ask.ensures.tally c.in-Ok.ensures.sent c.in-Ok.ensures.slots c.next_ask.ensures.heard
    c.admit.ensures.deck c.admit.ensures.at c.admit.ensures.state c.admit.ensures.due.left c.admit.ensures.due.owed (subst (IsDueAsk (due_of new.tally.hand)) a.asked c.admit.ensures.due.due) spent.0 spent.1

pub returns-in-Err-clause-on : goal.returns-in-Err-clause-on
returns-in-Err-clause-on g c = λ going over. absurd (not_both c.lose.new.self.over c.lose.ensures.over over)

pub admit-requires-clause-may : goal.admit-requires-clause-may
admit-requires-clause-may g c =
    let m = c.args.self.now in
    let mid = c.next_ask.new.self in
    subst (λ (t : Tally). MayAsk c.in-Ok.ask t.owed.items t.left) (sym c.next_ask.ensures.tally)
    (∥∥₁_elim c.requires.going (may_prop c.in-Ok.ask m.tally.owed.items m.tally.left) (λ f.
    let on = f c.if-self.false in
    let spent = c.in-Ok.ensures.spends in
    may_ask c.in-Ok.ask m mid c.requires.idle
    (subst (λ l. OwesAsGiven m.tally.hand m.tally.owed.items m.state.sent.items l.items) (sym c.next_ask.ensures.heard) (c.requires.owes c.if-self.false)) c.in-Ok.ensures.sent c.in-Ok.ensures.slots on.asks spent.0 spent.1))

pub returns-in-Err-clause-reason : goal.returns-in-Err-clause-reason
returns-in-Err-clause-reason g c = λ going over.
    let mid = c.next_ask.new.self in
    let goes : mid.tally.over ≡ false = ap (λ t. t.over) c.next_ask.ensures.tally ∙ going in
    let fits = ∥∥₁_elim c.requires.going (hlevel props) (λ f. let on = f going in (c.next_ask.ensures.follows on.at).fits on.sound) in
    inr (
      c.lose.ensures.stopped ∙ not_stopped mid.tally.stopped mid.tally.over mid.tally.stop goes,
      subst IsLoss (sym c.lose.ensures.lost) (first_loss mid.tally.lost mid.tally.over c.in-Err.lost mid.tally.lost_over goes (λ e. fits (c.in-Err.is ∙ ap Err e))),
    )

pub returns-in-Ok-clause-gives : goal.returns-in-Ok-clause-gives
returns-in-Ok-clause-gives g c =
    let mid = c.next_ask.new.self in
    let new = c.admit.new.self in
    let asked : GivesOf MayKeep mid c.in-Ok.ask = ∥∥₁_elim c.requires.going (gives_prop mid c.in-Ok.ask)
    (λ f. (follows_ok _ _ c.next_ask.result mid c.in-Ok.ask c.in-Ok.is (c.next_ask.ensures.follows (f c.if-self.false).at)).1) in
    subst (GivesOf MayKeep new) (sym c.admit.ensures.admitted.asked) (gives_same mid new c.in-Ok.ask c.admit.ensures.deck c.admit.ensures.at c.admit.ensures.state asked)

pub returns-in-Ok-clause-keeps : goal.returns-in-Ok-clause-keeps
returns-in-Ok-clause-keeps g c =
    let m = c.args.self.now in
    let new = c.admit.new.self in
    let goes = c.admit.ensures.admitted.over ∙ ap (λ t. t.over) c.next_ask.ensures.tally in
    record {
      given_up = λ going over stopped. absurd (not_both new.tally.over over (goes ∙ going));
      asked = λ going idle. none_kept m new (c.admit.ensures.kept ∙ c.next_ask.ensures.kept) going;
      none = λ going stopped. none_kept m new (c.admit.ensures.kept ∙ c.next_ask.ensures.kept) going;
      stopped = λ going stopped. absurd (not_both new.tally.over (new.tally.stop stopped) (goes ∙ going));
    }

pub returns-in-Err-clause-keeps : goal.returns-in-Err-clause-keeps
returns-in-Err-clause-keeps g c =
    let m = c.args.self.now in
    let mid = c.next_ask.new.self in
    let lost = c.lose.new.self in
    let kept : m.tally.over ≡ false → mid.kept ≡ None = λ going. none_kept m mid c.next_ask.ensures.kept going in
    record {
      given_up = λ going over stopped.
          let have = ∥∥₁_elim c.requires.going (files_prop mid.state.core.names mid.state.core.units) (λ f. lost_files _ _ c.next_ask.result mid c.in-Err.lost c.in-Err.is (c.next_ask.ensures.follows (f going).at)) in
          subst (λ o. HaveKept (option_map (λ (k : Linked g.row.F.Denot). k.name) o) mid.state.core.names mid.state.core.units (rest_of mid)) (sym (kept going)) have;
      asked = λ going idle. kept going;
      none = λ going stopped. kept going;
      stopped = λ going stopped.
          absurd (not_both lost.stopped stopped (c.lose.ensures.stopped ∙ not_stopped mid.tally.stopped mid.tally.over mid.tally.stop (ap (λ t. t.over) c.next_ask.ensures.tally ∙ going)));
    }

pub returns-then-self-clause-keeps : goal.returns-then-self-clause-keeps
returns-then-self-clause-keeps g c =
    let over = c.if-self.true in
    let never : c.args.self.now.tally.over ≡ false → ⊥ = λ going. not_both c.args.self.now.tally.over over going in
    record { given_up = λ going. absurd (never going); asked = λ going. absurd (never going); none = λ going. absurd (never going); stopped = λ going. absurd (never going) }
