use Rattle.std.proofs.Common.{◌≡◌, ◌+◌, ◌≤◌, List, length, Some, None, Err, IfSome, IfNone, refl, sym, ap, subst, ◌∙◌, arith}
use Rattle.fj_meaning.specs.State.{Files}
use Rattle.fj_meaning.specs.Statement.{Stated}
use Rattle.std.specs.Option.{option_map}
use Rattle.fj_run_statements.specs.State.{core_of}
use Rattle.fj_run_units.specs.Files.{files_of}
use Rattle.fj_meaning_turns.specs.Few.{most_jobs}
use Rattle.fj_meaning_turns.specs.Run.{Run, Start}
use Rattle.fj_meaning_turns.specs.Turns.{Asked, turn_start}
use Rattle.fj_meaning_looks.specs.Looking.{goes_until, turn_until}
use Rattle.fj_meaning_looks.proofs.Going.{goes_turn}
use Rattle.fj_meaning_turns.specs.Passing.{passed_by}
use Rattle.fj_run_script.specs.Machine.{rest_of, run_at, stage_of}
use Rattle.fj_run_script.specs.Turned.{IsAsked}
use Rattle.fj_run_script.specs.declared.stage.Stage.TheVariants as stage
use Rattle.fj_run_script.proofs.AtHand.{behind_jobs, behind_same}
use Rattle.fj_run_script.proofs.GivingUp.{fails_for, fails_like, passed_at}
use Rattle.fj_run_script.proofs.NextAsks.{behind_at, here_at}
use Rattle.fj_run_script.proofs.Counting.{files_at, have_start}
use Rattle.fj_run_script.specs.Spending.{Spends, Spent, jobs_at}
use Rattle.fj_run_script.proofs.Spending.{from_next}
use Rattle.fj_run_script.proofs.Kept.{asks_on, gave_up}
use Rattle.fj_run_script.proofs.machine.Machine.begin_next.Goals as goal

pub returns-in-Ok-clause-asks : goal.returns-in-Ok-clause-asks
returns-in-Ok-clause-asks g c = λ looks tells none.
    let told = g.F.FileStore.told in
    let bytes = g.F.FileStore.bytes in
    let m = c.args.self.now in
    let files : Files = files_of (g.D.Disk.held c.args.disk.now) in
    let after : Files = files_of (g.D.Disk.held c.turn.new.disk) in
    let r : Run = run_at files m Start in
    let h = here_at m c.requires.at in
    let it = c.in-Ok.ensures.turn tells r h.0 (behind_at m) (ap (λ s. option_map (run_at files m) (stage_of told bytes m.deck.variables (rest_of m) (core_of files m.state.core) s)) c.put_start.ensures) h.1 in
    subst (λ (a : Asked). IfSome c.asked_by.result (λ ask. IsAsked told bytes after c.asked_by.new.self ask a)) (sym (goes_turn looks h.0 (behind_at m) r h.1 none))
    (subst (λ (more : List Stated). IfSome c.asked_by.result (λ ask. IsAsked told bytes after c.asked_by.new.self ask (turn_until looks more (turn_start h.0 r)))) (behind_same m c.turn.new.self c.turn.ensures.deck c.turn.ensures.place)
    (c.asked_by.ensures.asks looks after (turn_start h.0 r) it))

pub returns-in-Ok-clause-passes : goal.returns-in-Ok-clause-passes
returns-in-Ok-clause-passes g c = λ looks tells none.
    let told = g.F.FileStore.told in
    let bytes = g.F.FileStore.bytes in
    let m = c.args.self.now in
    let files : Files = files_of (g.D.Disk.held c.args.disk.now) in
    let after : Files = files_of (g.D.Disk.held c.turn.new.disk) in
    let r : Run = run_at files m Start in
    let h = here_at m c.requires.at in
    let it = c.in-Ok.ensures.turn tells r h.0 (behind_at m) (ap (λ s. option_map (run_at files m) (stage_of told bytes m.deck.variables (rest_of m) (core_of files m.state.core) s)) c.put_start.ensures) h.1 in
    let new = c.asked_by.new.self in
    subst (λ (a : Asked). IfNone c.asked_by.result ((new.state.stage ≡ stage.Start) × (a ≡ goes_until looks (rest_of new) (run_at after new Start)))) (sym (goes_turn looks h.0 (behind_at m) r h.1 none))
    (subst (λ (more : List Stated). IfNone c.asked_by.result ((new.state.stage ≡ stage.Start) × (turn_until looks more (turn_start h.0 r) ≡ goes_until looks (rest_of new) (run_at after new Start)))) (behind_same m c.turn.new.self c.turn.ensures.deck c.turn.ensures.place)
    (c.asked_by.ensures.passes looks after (turn_start h.0 r) it))

pub returns-in-Ok-clause-passed : goal.returns-in-Ok-clause-passed
returns-in-Ok-clause-passed g c = λ tells.
    let told = g.F.FileStore.told in
    let bytes = g.F.FileStore.bytes in
    let m = c.args.self.now in
    let files : Files = files_of (g.D.Disk.held c.args.disk.now) in
    let after : Files = files_of (g.D.Disk.held c.turn.new.disk) in
    let r : Run = run_at files m Start in
    let h = here_at m c.requires.at in
    let it = c.in-Ok.ensures.turn tells r h.0 (behind_at m) (ap (λ s. option_map (run_at files m) (stage_of told bytes m.deck.variables (rest_of m) (core_of files m.state.core) s)) c.put_start.ensures) h.1 in
    subst (λ o. IfNone c.asked_by.result (o ≡ Some (run_at after c.asked_by.new.self Start))) (sym (passed_at h.0 (behind_at m) r h.1))
    (subst (λ (more : List Stated). IfNone c.asked_by.result (passed_by more (turn_start h.0 r) ≡ Some (run_at after c.asked_by.new.self Start))) (behind_same m c.turn.new.self c.turn.ensures.deck c.turn.ensures.place)
    (c.asked_by.ensures.passed after (turn_start h.0 r) it))

pub returns-in-Err-clause-fails : goal.returns-in-Err-clause-fails
returns-in-Err-clause-fails g c = λ tells.
    let told = g.F.FileStore.told in
    let bytes = g.F.FileStore.bytes in
    let m = c.args.self.now in
    let files : Files = files_of (g.D.Disk.held c.args.disk.now) in
    let r : Run = run_at files m Start in
    let h = here_at m c.requires.at in
    let taken = g.W.Sink.taken in
    fails_for _ _ (g.W.Sink.tells c.args.out.now) (taken c.args.out.now) (taken c.turn.new.out) r m _ (λ lost e. cc (c.in-Err.is, e)) (λ e. cc (c.in-Err.is, e))
    (fails_like _ (g.W.Sink.tells c.args.out.now) (taken c.args.out.now) (taken c.turn.new.out) r m _ _ refl refl (c.in-Err.ensures.fails tells r h.0 (behind_at m) (ap (λ s. option_map (run_at files m) (stage_of told bytes m.deck.variables (rest_of m) (core_of files m.state.core) s)) c.put_start.ensures) h.1))

pub returns-in-Ok-clause-follows : goal.returns-in-Ok-clause-follows
returns-in-Ok-clause-follows g c = λ start i.
    let m = c.args.self.now in
    let h = here_at m c.requires.at in
    let files = files_at m.state.stage m.state.core.names m.state.core.units h.0.0.what start (i.files h.0 (behind_at m) h.1) in
    let have = have_start _ m.state.core.names m.state.core.units h.0.0.what c.put_start.ensures files in
    let f = c.in-Ok.ensures.files h.0 (behind_at m) h.1 have in
    let kept = c.in-Ok.ensures.holds i.kept in
    let few : m.state.ending ≡ None → m.state.core.next ≤ c.turn.new.self.at.place + 1 = λ none. let a = i.few none in let p = c.turn.ensures.place in omega (arith, a, p) in
    let by = c.asked_by.ensures in
    asks_on _ _ _ c.asked_by.result (by.on _ f.0 (behind_at m) f.1 f.2 c.in-Ok.ensures.counts few kept)
    (by.gives _ f.0 (behind_at m) f.1 f.2 c.in-Ok.ensures.counts few kept, by.start _ f.0 (behind_at m) f.1 f.2 c.in-Ok.ensures.counts few kept)

pub returns-in-Ok-clause-sent : goal.returns-in-Ok-clause-sent
returns-in-Ok-clause-sent g c = c.asked_by.ensures.sent _ c.in-Ok.ensures.counts

pub returns-in-Ok-clause-still : goal.returns-in-Ok-clause-still
returns-in-Ok-clause-still g c = c.asked_by.ensures.still _ c.in-Ok.ensures.counts

pub returns-in-Ok-clause-slots : goal.returns-in-Ok-clause-slots
returns-in-Ok-clause-slots g c = c.asked_by.ensures.slots _ c.in-Ok.ensures.counts

pub returns-in-Ok-clause-spends : goal.returns-in-Ok-clause-spends
returns-in-Ok-clause-spends g c =
    let m = c.args.self.now in
    let spends = subst (λ s. Spends (jobs_at s (length m.state.core.units)) c.in-Ok.turned c.turn.new.self.state) c.put_start.ensures c.in-Ok.ensures.spends in
    subst (λ jobs. IfSome c.asked_by.result (λ ask. Spent ask jobs c.asked_by.new.self)) (ap (λ n. most_jobs + n) (behind_jobs m c.turn.new.self c.turn.ensures.deck c.turn.ensures.place) ∙ from_next (length m.deck.statements) m.at.place c.requires.at)
    (c.asked_by.ensures.spends most_jobs spends _ c.in-Ok.ensures.counts)

pub returns-in-Err-clause-follows : goal.returns-in-Err-clause-follows
returns-in-Err-clause-follows g c = λ start i.
    let m = c.args.self.now in
    let h = here_at m c.requires.at in
    let files = files_at m.state.stage m.state.core.names m.state.core.units h.0.0.what start (i.files h.0 (behind_at m) h.1) in
    let have = have_start _ m.state.core.names m.state.core.units h.0.0.what c.put_start.ensures files in
    gave_up _ _ _ c.in-Err.lost (c.in-Err.ensures.vain h.0 (behind_at m) h.1 have)
    (λ sound lost. c.turn.ensures.fits sound h.0 (behind_at m) h.1 have (λ no. absurd (no c.put_start.ensures)) i.kept (c.in-Err.is ∙ ap Err lost))

pub returns-in-Ok-clause-started : goal.returns-in-Ok-clause-started
returns-in-Ok-clause-started g c = c.asked_by.ensures.started
