use Rattle.std.proofs.Common.{◌≡◌, List, ◌∷◌, IfOk, refl, sym, subst, ap, ◌∙◌, ◌++◌, map, Some, None}
use Rattle.fj_meaning.specs.State.{Files, Entry}
use Rattle.fj_meaning.specs.Statement.{Stated, control_by}
use Rattle.fj_meaning_turns.specs.Run.{Run, Waiting}
use Rattle.fj_run_pending.specs.Plain.{held, entries}
use Rattle.fj_run_pending.specs.Waits.{waited_of}
use Rattle.fj_run_statements.specs.Fitting.{IsKept}
use Rattle.fj_run_units.specs.Files.{files_of}
use Rattle.fj_run_script.specs.Machine.{run_in}
use Rattle.fj_run_script.specs.Turned.{IsTurn}
use Rattle.fj_run_script.proofs.Beginnings.{none_of, waits_more, waits_none}
use Rattle.fj_run_script.proofs.Numbering.{unsettled_slot}
use Rattle.fj_run_script.proofs.Stepping.{kept_steps, same_keeps}
use Rattle.fj_meaning.specs.Telling.{tell_of}
use Rattle.fj_meaning_turns.specs.Passing.{output_of}
use Rattle.fj_meaning_turns.specs.Turns.{doing_told, unsettled, waited_now}
use Rattle.fj_run_pending.specs.Plain.{tells_of}
use Rattle.fj_run_script.proofs.Failures.{fails_from, fails_went}
use Rattle.fj_run_script.proofs.state.State.wait_for.Goals as goal

pub returns-in-Some-clause-turn : goal.returns-in-Some-clause-turn
returns-in-Some-clause-turn g c = λ tells more stage.
    let told = g.F.FileStore.told in
    let bytes = g.F.FileStore.bytes in
    let s = c.args.self.now in
    let variables = c.args.variables.now in
    let st : Stated = (c.args.lined.now, control_by c.args.lined.now.what) in
    let files : Files = files_of (g.D.Disk.held c.args.disk.now) in
    let run : Run = run_in variables (st ∷ more) files s stage in
    let es : List Entry = waited_of c.args.whose (entries s.core.pending) in
    subst (λ t'. IsTurn told bytes variables (st ∷ more) files c.settle.new.self c.settle.result t')
    (sym (waits_more st run es c.in-Some.slot (sym (c.requires.whose (entries s.core.pending))) (sym (c.in-Some.ensures.slot (none_of _ c.requires.from)))))
    (c.settle.ensures.turn variables (st ∷ more) files stage Waiting refl)

pub returns-in-Some-clause-steps : goal.returns-in-Some-clause-steps
returns-in-Some-clause-steps g c =
    kept_steps c.args.out.now c.args.disk.now c.args.self.now.core c.settle.new.self.core c.settle.result (same_keeps c.args.self.now.core c.settle.new.self.core c.settle.ensures.core)

pub returns-in-None-clause-turn : goal.returns-in-None-clause-turn
returns-in-None-clause-turn g c = λ tells more stage.
    let told = g.F.FileStore.told in
    let bytes = g.F.FileStore.bytes in
    let s = c.args.self.now in
    let variables = c.args.variables.now in
    let st : Stated = (c.args.lined.now, control_by c.args.lined.now.what) in
    let files : Files = files_of (g.D.Disk.held c.args.disk.now) in
    let run : Run = run_in variables (st ∷ more) files s stage in
    let es : List Entry = waited_of c.args.whose (entries s.core.pending) in
    subst (λ t'. IfOk c.tell.result (λ t. IsTurn told bytes variables (st ∷ more) (files_of (g.D.Disk.held c.tell.new.disk)) c.tell.new.self t t'))
    (sym (waits_none st run es (sym (c.requires.whose (entries s.core.pending))) (sym (c.in-None.ensures.slot (none_of _ c.requires.from)))))
    (c.tell.ensures.turn tells more stage)

pub returns-in-None-clause-fails : goal.returns-in-None-clause-fails
returns-in-None-clause-fails g c = λ tells more stage.
    let told = g.F.FileStore.told in
    let bytes = g.F.FileStore.bytes in
    let s = c.args.self.now in
    let variables = c.args.variables.now in
    let st : Stated = (c.args.lined.now, control_by c.args.lined.now.what) in
    let files : Files = files_of (g.D.Disk.held c.args.disk.now) in
    let run : Run = run_in variables (st ∷ more) files s stage in
    let es : List Entry = waited_of c.args.whose (entries s.core.pending) in
    let w : waited_now st run ≡ es = sym (c.requires.whose (entries s.core.pending)) in
    let u : unsettled es (held s.core.pending) ≡ None = sym (c.in-None.ensures.slot (none_of _ c.requires.from)) in
    fails_from c.args.out.now c.tell.new.out s.core s.core c.tell.new.self.core c.tell.result _ _ _ _ _ _ refl (ap output_of (sym (waits_none st run es w u)))
    (λ s. s) (λ k. ap (λ xs. unsettled xs run.book) w ∙ u) (ap (λ xs. tells_of s.core.tells ++ map (tell_of st.0.line) xs) (sym w))
    (ap (λ xs. Some (doing_told variables st xs run.core)) (sym w)) (c.tell.ensures.fails tells more stage)

pub settle-requires-clause-slot : goal.settle-requires-clause-slot
settle-requires-clause-slot g c =
    let s = c.args.self.now in
    (unsettled_slot s.sent.items s.told.items (waited_of c.args.whose (entries s.core.pending)) s.core.pending c.in-Some.slot s.sent_slots s.given s.untold (sym (c.in-Some.ensures.slot (none_of _ c.requires.from)))).0

pub settle-requires-clause-owed : goal.settle-requires-clause-owed
settle-requires-clause-owed g c =
    let s = c.args.self.now in
    (unsettled_slot s.sent.items s.told.items (waited_of c.args.whose (entries s.core.pending)) s.core.pending c.in-Some.slot s.sent_slots s.given s.untold (sym (c.in-Some.ensures.slot (none_of _ c.requires.from)))).1

pub returns-in-Some-clause-fails : goal.returns-in-Some-clause-fails
returns-in-Some-clause-fails g c = λ tells more stage. fails_went c.args.out.now c.args.out.now c.args.self.now.core c.settle.new.self.core c.settle.result _ _ _

pub returns-in-Some-clause-holds : goal.returns-in-Some-clause-holds
returns-in-Some-clause-holds g c = λ kept. subst IsKept (sym c.settle.ensures.core) kept
