use Rattle.std.proofs.Common.{◌≡◌, true, false, sym, ◌∙◌, inl, inr}
use Rattle.std.specs.Prelude.{◌⊎◌, is_some}
use Rattle.fj_statement.specs.Units.{is_outside}
use Rattle.fj_meaning_jobs.specs.Core.{Core, connected_at}
use Rattle.fj_run_units.specs.Files.{files_of}
use Rattle.fj_run_units.specs.Units.{connected_of}
use Rattle.fj_run_statements.specs.State.{core_of}
use Rattle.fj_run_statements.proofs.FailingLemmas.{still_as}
use Rattle.fj_run_statements.proofs.OpeningLemmas.{found_some, meant, opens_numbered}
use Rattle.fj_run_statements.proofs.opening.open.Goals as goal
use Rattle.fj_run_statements.proofs.opening.open.Goals.{else-is_outside-via-then-is_outside+else-is_none, else-is_outside-via-else-is_outside}

pub returns-clause-doing : goal.returns-clause-doing
returns-clause-doing g c = λ tells variables st asks.
    let core : Core = core_of (files_of (g.D.Disk.held c.args.disk.now)) c.args.core.now in
    let within : (is_outside c.args.unit ≡ false) ⊎ (is_some (connected_at core.units c.in-Some.number) ≡ true) = elim c.else-is_outside.branch [
      | else-is_outside-via-then-is_outside+else-is_none w ↦ inr (found_some connected_of _ _ w.find.ensures w.if-is_none.ensures)
      | else-is_outside-via-else-is_outside w ↦ inl (sym c.is_outside.ensures ∙ w.if-is_outside.false)
    ] in
    meant g.D.File.FileStore.told g.D.File.FileStore.bytes variables st _ c.open_numbered.result _ _ (opens_numbered core c.args.unit c.in-Some.number c.args.spec.now (sym c.number.ensures ∙ c.in-Some.is) within) (c.open_numbered.ensures.doing tells variables st asks)

pub returns-clause-stays : goal.returns-clause-stays
returns-clause-stays g c = λ tells.
    let core : Core = core_of (files_of (g.D.Disk.held c.args.disk.now)) c.args.core.now in
    let within : (is_outside c.args.unit ≡ false) ⊎ (is_some (connected_at core.units c.in-Some.number) ≡ true) = elim c.else-is_outside.branch [
      | else-is_outside-via-then-is_outside+else-is_none w ↦ inr (found_some connected_of _ _ w.find.ensures w.if-is_none.ensures)
      | else-is_outside-via-else-is_outside w ↦ inl (sym c.is_outside.ensures ∙ w.if-is_outside.false)
    ] in
    still_as c.open_numbered.result _ _ (g.D.Disk.held c.args.disk.now) (g.D.Disk.held c.open_numbered.new.disk) (opens_numbered core c.args.unit c.in-Some.number c.args.spec.now (sym c.number.ensures ∙ c.in-Some.is) within)
    (c.open_numbered.ensures.stays tells)
