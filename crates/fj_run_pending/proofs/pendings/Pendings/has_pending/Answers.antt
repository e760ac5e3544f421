use Rattle.std.proofs.Common.{◌≡◌, ℤ, Some, None, sym, ap, ◌∙◌, rules}
use Rattle.std.proofs.lemmas.Int.{to_z-of_z}
use mir.Val.{to_z, of_z}
use mir.Syntax.{w64}
use Rattle.std.specs.Prelude.{is_some}
use Rattle.fj_meaning.specs.Statement.{has_pending}
use Rattle.fj_run_pending.specs.Plain.{holders}
use Rattle.fj_run_pending.proofs.Idle.{own_is}
use Rattle.fj_run_pending.proofs.pendings.Pendings.has_pending.Goals as goal

pub returns-in-None : goal.returns-in-None
returns-in-None c =
    c.is_some.ensures ∙ ap is_some c.first_of_unit.ensures ∙ own_is c.args.unit c.self.inside.helds.items
    ∙ ap (λ hs. has_pending (holders hs) (Some c.args.unit) None) c.self.view_is ∙ sym (ap (has_pending (holders c.args.self.now) (Some c.args.unit)) c.in-None.is)

pub returns-in-Some : goal.returns-in-Some
returns-in-Some c =
    let same : to_z w64 (of_z w64 c.in-Some.id) ≡ c.in-Some.id = search (rules, to_z-of_z) in
    c.has_id.ensures ∙ ap (λ (i : ℤ). has_pending (holders c.self.inside.helds.items) (Some c.args.unit) (Some i)) same ∙ ap (λ hs. has_pending (holders hs) (Some c.args.unit) (Some c.in-Some.id)) c.self.view_is
    ∙ sym (ap (has_pending (holders c.args.self.now) (Some c.args.unit)) c.in-Some.is)
