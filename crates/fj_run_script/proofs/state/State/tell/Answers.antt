use Rattle.std.proofs.Common.{◌≡◌, List, ◌∷◌, Some, IfOk, inl, refl, sym, ap, ◌∙◌, subst, ◌+◌, ◌-◌, ◌≤◌, length, max, arith}
use Rattle.fj_meaning.specs.State.{Files, Entry}
use Rattle.fj_meaning.specs.Statement.{Stated, control_by}
use Rattle.fj_meaning_jobs.specs.Core.{Core, Connected}
use Rattle.fj_meaning_turns.specs.Run.{Run}
use Rattle.fj_meaning_turns.specs.Few.{most_jobs}
use Rattle.fj_meaning_turns.specs.Turns.{halted_slots}
use Rattle.fj_run_pending.specs.Plain.{held, entries}
use Rattle.fj_run_pending.specs.Waits.{waited_of}
use Rattle.fj_run_statements.specs.State.{core_of}
use Rattle.fj_run_units.specs.Files.{files_of}
use Rattle.fj_run_script.specs.Machine.{run_in}
use Rattle.fj_run_script.specs.Turned.{IsTurn}
use Rattle.fj_run_script.proofs.Beginnings.{told_run, tells_turn, tells_doing}
use Rattle.fj_meaning_turns.specs.Passing.{output_of}
use Rattle.fj_meaning.specs.Transfers.{star_limit}
use Rattle.fj_run_units.specs.Having.{HaveFiles}
use Rattle.fj_run_script.proofs.Failures.{fails_from, fails_still}
use Rattle.fj_run_script.specs.Spending.{Spends}
use Rattle.fj_run_script.proofs.Spending.{halted_few, ok_spends}
use Rattle.fj_run_script.proofs.Numbering.{given_left, named_left, untold_left}
use Rattle.fj_run_script.proofs.Stepping.{given_up}
use Rattle.fj_run_items.specs.declared.lost.Lost.TheVariants.{Memory}
use Rattle.fj_run_script.proofs.state.State.tell.Goals as goal

pub returns-in-Ok-tell_all-clause-turn : goal.returns-in-Ok-tell_all-clause-turn
returns-in-Ok-tell_all-clause-turn g c = λ tells more stage.
    let told = g.F.FileStore.told in
    let bytes = g.F.FileStore.bytes in
    let s = c.args.self.now in
    let variables = c.args.variables.now in
    let st : Stated = (c.args.lined.now, control_by c.args.lined.now.what) in
    let files : Files = files_of (g.D.Disk.held c.args.disk.now) in
    let run : Run = run_in variables (st ∷ more) files s stage in
    let es : List Entry = waited_of c.args.whose (entries s.core.pending) in
    let new = c.tell_all.new.core in
    let left : Run = record run { core = core_of files new; book = held new.pending } in
    subst (λ t'. IfOk c.resume.result (λ t. IsTurn told bytes variables (st ∷ more) (files_of (g.D.Disk.held c.resume.new.disk)) c.resume.new.self t t'))
    (tells_turn st es run left c.in-Ok.slots c.in-Ok-tell_all.condition
    (told_run st es run (core_of files new) (held new.pending) (c.in-Ok-tell_all.ensures.core c.args.variables.now files c.requires.kinds) c.in-Ok-tell_all.ensures.left)
    (c.in-Ok.ensures.halted ∙ ap (λ (us : List Connected). halted_slots es us) c.as_slice-units.ensures.units) c.in-Ok-tell_all.ensures.condition)
    (c.resume.ensures.turn tells more stage)

pub returns-in-Ok-tell_all-clause-fails : goal.returns-in-Ok-tell_all-clause-fails
returns-in-Ok-tell_all-clause-fails g c = λ tells more stage.
    let told = g.F.FileStore.told in
    let bytes = g.F.FileStore.bytes in
    let s = c.args.self.now in
    let variables = c.args.variables.now in
    let st : Stated = (c.args.lined.now, control_by c.args.lined.now.what) in
    let files : Files = files_of (g.D.Disk.held c.args.disk.now) in
    let run : Run = run_in variables (st ∷ more) files s stage in
    let es : List Entry = waited_of c.args.whose (entries s.core.pending) in
    let new = c.tell_all.new.core in
    let left : Run = record run { core = core_of files new; book = held new.pending } in
    let due = tells_turn st es run left c.in-Ok.slots c.in-Ok-tell_all.condition
    (told_run st es run (core_of files new) (held new.pending) (c.in-Ok-tell_all.ensures.core c.args.variables.now files c.requires.kinds) c.in-Ok-tell_all.ensures.left)
    (c.in-Ok.ensures.halted ∙ ap (λ (us : List Connected). halted_slots es us) c.as_slice-units.ensures.units) c.in-Ok-tell_all.ensures.condition in
    fails_from c.args.out.now c.resume.new.out s.core new c.resume.new.self.core c.resume.result _ _ _ _ _ _ c.tell_all.ensures.keeps.output (ap output_of due) (λ s. absurd s) (λ k. k)
    (ap (λ (k : Core). k.tells) (c.in-Ok-tell_all.ensures.core c.args.variables.now files c.requires.kinds))
    (ap Some (tells_doing st es run c.in-Ok.slots c.in-Ok-tell_all.condition (core_of files new) (c.in-Ok-tell_all.ensures.core c.args.variables.now files c.requires.kinds)
    (c.in-Ok.ensures.halted ∙ ap (λ (us : List Connected). halted_slots es us) c.as_slice-units.ensures.units) c.in-Ok-tell_all.ensures.condition)) (c.resume.ensures.fails tells more stage)

pub invariant_of-self-2-clause-given : goal.invariant_of-self-2-clause-given
invariant_of-self-2-clause-given g c =
    let s = c.args.self.now in
    given_left s.sent.items s.core.pending c.tell_all.new.core.pending c.tell_all.ensures.some s.given

pub invariant_of-self-2-clause-named : goal.invariant_of-self-2-clause-named
invariant_of-self-2-clause-named g c =
    let s = c.args.self.now in
    named_left s.core.next c.tell_all.new.core.next s.core.pending c.tell_all.new.core.pending c.tell_all.ensures.next c.tell_all.ensures.some s.named

pub invariant_of-self-2-clause-untold : goal.invariant_of-self-2-clause-untold
invariant_of-self-2-clause-untold g c =
    let s = c.args.self.now in
    untold_left s.told.items s.core.pending c.tell_all.new.core.pending c.tell_all.ensures.some s.untold

pub returns-in-Ok-tell_all-clause-holds : goal.returns-in-Ok-tell_all-clause-holds
returns-in-Ok-tell_all-clause-holds g c = λ kept. c.resume.ensures.holds (subst (λ o. o.begun ≤ star_limit) (sym c.tell_all.ensures.keeps.output) kept)

pub returns-in-Ok-tell_all-clause-fits : goal.returns-in-Ok-tell_all-clause-fits
returns-in-Ok-tell_all-clause-fits g c = λ sound have kept.
    let s = c.args.self.now in
    let new = c.tell_all.new.core in
    let names = subst (λ ns. HaveFiles ns s.core.units) (sym c.tell_all.ensures.keeps.names) have in
    c.resume.ensures.fits sound (subst (HaveFiles new.names) (sym c.tell_all.ensures.units) names) (subst (λ o. o.begun ≤ star_limit) (sym c.tell_all.ensures.keeps.output) kept)

pub returns-in-Err-clause-fails : goal.returns-in-Err-clause-fails
returns-in-Err-clause-fails g c = λ tells more stage.
    fails_still c.args.out.now c.args.self.now.core c.args.self.now.core (given_up (Memory c.in-Err.error)) _ _ _ (λ e. cc) (λ e. cc) (λ fits. inl (record { may = tt; units = refl; files = refl }))

pub returns-in-Err-tell_all-clause-fails : goal.returns-in-Err-tell_all-clause-fails
returns-in-Err-tell_all-clause-fails g c = λ tells more stage.
    fails_still c.args.out.now c.args.self.now.core c.tell_all.new.core (given_up (Memory c.in-Err-tell_all.error)) _ _ _ (λ e. cc) (λ e. cc) (λ fits. inl (record { may = tt; units = c.tell_all.ensures.units; files = refl }))

pub returns-in-Ok-tell_all-clause-spends : goal.returns-in-Ok-tell_all-clause-spends
returns-in-Ok-tell_all-clause-spends g c =
    let s = c.args.self.now in
    let es : List Entry = waited_of c.args.whose (entries s.core.pending) in
    let are : c.in-Ok.slots ≡ halted_slots es s.core.units = c.in-Ok.ensures.halted ∙ ap (λ (us : List Connected). halted_slots es us) c.as_slice-units.ensures.units in
    let slots : length c.in-Ok.slots ≤ length s.core.units = subst (λ l. length l ≤ length s.core.units) (sym are) (halted_few es s.core.units) in
    let few : (length c.in-Ok.slots - 0) + max (length s.core.units) 2 ≤ most_jobs = omega (arith, slots, c.as_slice-units.ensures.few) in
    ok_spends c.resume.result ((length c.in-Ok.slots - 0) + max (length s.core.units) 2) most_jobs c.resume.new.self few
    (subst (λ us. IfOk c.resume.result (λ t. Spends ((length c.in-Ok.slots - 0) + max (length us) 2) t c.resume.new.self)) c.tell_all.ensures.units c.resume.ensures.spends)
