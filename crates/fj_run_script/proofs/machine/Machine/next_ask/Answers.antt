use Rattle.std.proofs.Common.{◌≡◌, ◌+◌, ◌<◌, ◌≤◌, ◌^◌, List, ◌∷◌, length, None, Err, IfOk, OnErr, refl, sym, ap, ◌∙◌, subst, arith}
use Rattle.fj_statement.specs.Sound.{IsSound}
use Rattle.fj_meaning.specs.State.{Files}
use Rattle.fj_meaning.specs.Statement.{Stated}
use Rattle.fj_run_units.specs.Files.{files_of}
use Rattle.fj_meaning_turns.specs.Run.{Run, Start}
use Rattle.fj_meaning_turns.specs.Turns.{Turn, turn, Asked}
use Rattle.fj_meaning_looks.specs.Inquiring.{looks_by}
use Rattle.fj_meaning_looks.specs.Looking.{asked_until, turn_until}
use Rattle.fj_meaning_looks.proofs.Going.{asked_begun, asked_start}
use Rattle.fj_meaning_turns.specs.Passing.{passed_by}
use Rattle.fj_run_statements.specs.State.{core_of}
use Rattle.fj_meaning_looks.proofs.Rests.{HasBegun}
use Rattle.fj_run_script.specs.Machine.{rest_of, run_at, stage_at}
use Rattle.fj_run_script.specs.Short.{IsShort}
use Rattle.fj_run_script.specs.Turned.{IsAsked}
use Rattle.fj_run_script.specs.declared.tally.Tally.{Tally}
use Rattle.fj_run_script.proofs.AtHand.{behind_jobs, behind_same}
use Rattle.fj_run_script.proofs.Failures.{on_err_by}
use Rattle.fj_run_script.proofs.GivingUp.{fails_behind, fails_for, fails_run, passed_at, passes_one}
use Rattle.fj_run_script.proofs.NextAsks.{at_start, begun_stage, behind_at, done_asked, ended_asked, here_at, not_ended, rests_asked, run_known, some_same}
use Rattle.fj_run_script.proofs.Shortly.{hand_short, rest_long, short_as}
use Rattle.fj_run_script.proofs.Stepping.{then_steps}
use Rattle.fj_run_script.specs.Spending.{Spent, jobs_at, jobs_from, jobs_left}
use Rattle.fj_run_script.proofs.Spending.{from_next, is_none_by, ok_lives, some_ended}
use Rattle.fj_run_script.proofs.Counting.{room_kept}
use Rattle.fj_world.specs.declared.ask.Ask.TheVariants as ask
use Rattle.fj_run_script.proofs.Kept.{asks_on, follows_by, gave_up}
use Rattle.fj_run_script.proofs.machine.Machine.next_ask.Goals as goal
use Rattle.fj_run_script.proofs.machine.Machine.next_ask.Goals.{then-is_some-via-then-is_some, then-is_some-via-else-is_some+then-self-len}

pub returns-in-Ok-clause-asks : goal.returns-in-Ok-clause-asks
returns-in-Ok-clause-asks g c = λ tells r known.
    let told = g.F.FileStore.told in
    let bytes = g.F.FileStore.bytes in
    let m = c.args.self.now in
    let files : Files = files_of (g.D.Disk.held c.args.disk.now) in
    let low : m.at.place < length m.deck.statements = omega arith in
    let h = here_at m low in
    let k = run_known (run_at files m) (stage_at told bytes files m) r known in
    let rest : r.rest ≡ h.0 ∷ behind_at m = ap (λ (x : Run). x.rest) (sym k.2) ∙ h.1 in
    let t : Turn = turn h.0 r.stage r in
    let after : Files = files_of (g.D.Disk.held c.ask_or_go.new.disk) in
    let none : r.ending ≡ None = ap (λ (x : Run). x.ending) (sym k.2) ∙ not_ended m.state.ending (sym c.is_some.ensures ∙ c.if-is_some.false) in
    let looks = looks_by c.args.to_look in
    let begun = begun_stage told bytes m.deck.variables (rest_of m) (core_of files m.state.core) m.state.stage k.0 k.1 c.in_default.not-Start in
    subst (λ (a : Asked). IfOk c.ask_or_go.result (λ ask. IsAsked told bytes after c.ask_or_go.new.self ask a)) (sym (asked_begun looks h.0 (behind_at m) r none rest (subst (λ (x : Run). HasBegun x.stage) k.2 begun)))
    (subst (λ (more : List Stated). IfOk c.ask_or_go.result (λ ask. IsAsked told bytes after c.ask_or_go.new.self ask (turn_until looks more t))) (behind_same m c.turn.new.self c.turn.ensures.deck c.turn.ensures.place)
    (c.ask_or_go.ensures.asks (c.turn.ensures.steps.telling.0 tells) t (c.in-Ok.ensures.turn tells r h.0 (behind_at m) known h.1)))

pub returns-in-Ok-clause-steps : goal.returns-in-Ok-clause-steps
returns-in-Ok-clause-steps g c =
    then_steps c.args.out.now c.turn.new.out c.ask_or_go.new.out c.args.disk.now c.turn.new.disk c.ask_or_go.new.disk c.args.self.now.state.core c.turn.new.self.state.core c.ask_or_go.new.self.state.core
    c.in-Ok.turned c.ask_or_go.result c.in-Ok.ensures.steps c.ask_or_go.ensures.steps

pub returns-in-Ok-clause-fails : goal.returns-in-Ok-clause-fails
returns-in-Ok-clause-fails g c = λ tells r known.
    let told = g.F.FileStore.told in
    let bytes = g.F.FileStore.bytes in
    let m = c.args.self.now in
    let files : Files = files_of (g.D.Disk.held c.args.disk.now) in
    let low : m.at.place < length m.deck.statements = omega arith in
    let h = here_at m low in
    let k = run_known (run_at files m) (stage_at told bytes files m) r known in
    let rest : r.rest ≡ h.0 ∷ behind_at m = ap (λ (x : Run). x.rest) (sym k.2) ∙ h.1 in
    let t : Turn = turn h.0 r.stage r in
    let tells_out = g.W.Sink.tells in
    let taken = g.W.Sink.taken in
    let out = c.args.out.now in
    let out' = c.turn.new.out in
    let same = behind_same m c.turn.new.self c.turn.ensures.deck c.turn.ensures.place in
    on_err_by c.ask_or_go.result _ _
    (λ f. fails_behind _ (tells_out out) (tells_out out') (taken out) (taken out') (taken c.ask_or_go.new.out) 1 r f.0 m _ c.ask_or_go.new.self
    (passes_one r f.0 (passed_at h.0 (behind_at m) r rest ∙ ap (λ (more : List Stated). passed_by more t) (sym same) ∙ f.1)) c.turn.ensures.steps.telling_out.0 c.in-Ok.ensures.steps.output (c.turn.ensures.steps.own tells)
    (ap (λ (x : Tally). x.hand) c.turn.ensures.tally) f.2)
    (c.ask_or_go.ensures.fails (c.turn.ensures.steps.telling.0 tells) t (c.in-Ok.ensures.turn tells r h.0 (behind_at m) known h.1))

pub returns-in-Err-clause-fails : goal.returns-in-Err-clause-fails
returns-in-Err-clause-fails g c = λ tells r known.
    let m = c.args.self.now in
    let low : m.at.place < length m.deck.statements = omega arith in
    let h = here_at m low in
    let taken = g.W.Sink.taken in
    fails_for _ _ (g.W.Sink.tells c.args.out.now) (taken c.args.out.now) (taken c.turn.new.out) r m _ (λ lost e. cc (c.in-Err.is, e)) (λ e. cc (c.in-Err.is, e))
    (c.in-Err.ensures.fails tells r h.0 (behind_at m) known h.1)

pub returns-then-is_some-clause-asks : goal.returns-then-is_some-clause-asks
returns-then-is_some-clause-asks g c = λ tells r known.
    let looks = looks_by c.args.to_look in
    let told = g.F.FileStore.told in
    let bytes = g.F.FileStore.bytes in
    let m = c.args.self.now in
    let files : Files = files_of (g.D.Disk.held c.args.disk.now) in
    let k = run_known (run_at files m) (stage_at told bytes files m) r known in
    elim c.then-is_some.branch [
      | then-is_some-via-then-is_some w ↦ rests_asked looks told bytes files m r known (ended_asked looks files m k.0 r k.2 (sym c.is_some.ensures ∙ w.if-is_some.true))
      | then-is_some-via-else-is_some+then-self-len w ↦
          let low : length m.deck.statements ≤ m.at.place = omega arith in
          rests_asked looks told bytes files m r known (done_asked looks files m k.0 r k.2 (sym c.is_some.ensures ∙ w.if-is_some.false) low)
    ]

pub returns-in-Ok-clause-short : goal.returns-in-Ok-clause-short
returns-in-Ok-clause-short g c = λ tells r known.
    let told = g.F.FileStore.told in
    let bytes = g.F.FileStore.bytes in
    let m = c.args.self.now in
    let files : Files = files_of (g.D.Disk.held c.args.disk.now) in
    let low : m.at.place < length m.deck.statements = omega arith in
    let h = here_at m low in
    let k = run_known (run_at files m) (stage_at told bytes files m) r known in
    let rest : r.rest ≡ h.0 ∷ behind_at m = ap (λ (x : Run). x.rest) (sym k.2) ∙ h.1 in
    let t : Turn = turn h.0 r.stage r in
    let none : r.ending ≡ None = ap (λ (x : Run). x.ending) (sym k.2) ∙ not_ended m.state.ending (sym c.is_some.ensures ∙ c.if-is_some.false) in
    let looks = looks_by c.args.to_look in
    let left = rest_of c.ask_or_go.new.self in
    let begun = begun_stage told bytes m.deck.variables (rest_of m) (core_of files m.state.core) m.state.stage k.0 k.1 c.in_default.not-Start in
    subst (λ (a : Asked). OnErr c.ask_or_go.result (IsShort looks a left)) (sym (asked_begun looks h.0 (behind_at m) r none rest (subst (λ (x : Run). HasBegun x.stage) k.2 begun)))
    (subst (λ (more : List Stated). OnErr c.ask_or_go.result (IsShort looks (turn_until looks more t) left)) (behind_same m c.turn.new.self c.turn.ensures.deck c.turn.ensures.place)
    (c.ask_or_go.ensures.short (c.turn.ensures.steps.telling.0 tells) t (c.in-Ok.ensures.turn tells r h.0 (behind_at m) known h.1)))

pub returns-in-Err-clause-short : goal.returns-in-Err-clause-short
returns-in-Err-clause-short g c = λ tells r known.
    let told = g.F.FileStore.told in
    let bytes = g.F.FileStore.bytes in
    let m = c.args.self.now in
    let files : Files = files_of (g.D.Disk.held c.args.disk.now) in
    let low : m.at.place < length m.deck.statements = omega arith in
    let h = here_at m low in
    let k = run_known (run_at files m) (stage_at told bytes files m) r known in
    let rest : r.rest ≡ h.0 ∷ behind_at m = ap (λ (x : Run). x.rest) (sym k.2) ∙ h.1 in
    let none : r.ending ≡ None = ap (λ (x : Run). x.ending) (sym k.2) ∙ not_ended m.state.ending (sym c.is_some.ensures ∙ c.if-is_some.false) in
    let looks = looks_by c.args.to_look in
    let begun = begun_stage told bytes m.deck.variables (rest_of m) (core_of files m.state.core) m.state.stage k.0 k.1 c.in_default.not-Start in
    subst (λ (a : Asked). IsShort looks a (rest_of c.turn.new.self)) (sym (asked_begun looks h.0 (behind_at m) r none rest (subst (λ (x : Run). HasBegun x.stage) k.2 begun)))
    (short_as looks (turn_until looks (behind_at m) (turn h.0 r.stage r)) (h.0 ∷ behind_at m) (rest_of c.turn.new.self)
    (rest_long m c.turn.new.self c.turn.ensures.deck c.turn.ensures.place ∙ ap length h.1) (hand_short looks h.0 (behind_at m) r rest))

pub returns-in-Start-clause-short : goal.returns-in-Start-clause-short
returns-in-Start-clause-short g c = λ tells r known.
    let told = g.F.FileStore.told in
    let bytes = g.F.FileStore.bytes in
    let m = c.args.self.now in
    let looks = looks_by c.args.to_look in
    let files : Files = files_of (g.D.Disk.held c.args.disk.now) in
    let first : Run = run_at files m Start in
    let none = not_ended m.state.ending (sym c.is_some.ensures ∙ c.if-is_some.false) in
    subst (λ (x : Run). OnErr c.go.result (IsShort looks (asked_until looks x) (rest_of c.go.new.self))) (some_same first r (sym (at_start told bytes files m c.in-Start.is) ∙ known))
    (subst (λ (a : Asked). OnErr c.go.result (IsShort looks a (rest_of c.go.new.self))) (sym (asked_start looks first none refl)) (c.go.ensures.short tells))

pub returns-in-Ok-clause-follows : goal.returns-in-Ok-clause-follows
returns-in-Ok-clause-follows g c = λ i.
    let m = c.args.self.now in
    let low : m.at.place < length m.deck.statements = omega arith in
    let h = here_at m low in
    let f = c.in-Ok.ensures.files h.0 (behind_at m) h.1 (i.files h.0 (behind_at m) h.1) in
    let few : m.state.ending ≡ None → m.state.core.next ≤ c.turn.new.self.at.place + 1 = λ none. let a = i.few none in let p = c.turn.ensures.place in omega (arith, a, p) in
    follows_by _ _ _ c.ask_or_go.result c.ask_or_go.new.self (λ sound. subst IsSound (sym c.turn.ensures.deck) sound)
    (c.ask_or_go.ensures.follows m.state f.0 (behind_at m) f.1 f.2 c.in-Ok.ensures.counts few (c.in-Ok.ensures.holds i.kept))

pub returns-in-Ok-clause-sent : goal.returns-in-Ok-clause-sent
returns-in-Ok-clause-sent g c = c.ask_or_go.ensures.sent c.args.self.now.state c.in-Ok.ensures.counts

pub returns-in-Ok-clause-slots : goal.returns-in-Ok-clause-slots
returns-in-Ok-clause-slots g c = c.ask_or_go.ensures.slots c.args.self.now.state c.in-Ok.ensures.counts

pub ask_or_go-requires-clause-room : goal.ask_or_go-requires-clause-room
ask_or_go-requires-clause-room g c = λ no. room_kept c.in-Ok.turned c.args.self.now.state c.turn.new.self.state c.in-Ok.ensures.counts no c.requires.room

pub returns-in-Ok-clause-spends : goal.returns-in-Ok-clause-spends
returns-in-Ok-clause-spends g c =
    let m = c.args.self.now in
    let statements = length m.deck.statements in
    let low : m.at.place < statements = omega arith in
    let none : m.state.ending ≡ None = is_none_by m.state.ending (sym c.is_some.ensures ∙ c.if-is_some.false) in
    let jobs = jobs_at m.state.stage (length m.state.core.units) in
    ok_lives c.ask_or_go.result m c.ask_or_go.new.self (jobs + jobs_from statements (m.at.place + 1)) none low
    (subst (λ n. IfOk c.ask_or_go.result (λ ask. Spent ask (jobs + n) c.ask_or_go.new.self)) (behind_jobs m c.turn.new.self c.turn.ensures.deck c.turn.ensures.place)
    (c.ask_or_go.ensures.spends jobs c.in-Ok.ensures.spends m.state c.in-Ok.ensures.counts))

pub returns-then-is_some-clause-spends : goal.returns-then-is_some-clause-spends
returns-then-is_some-clause-spends g c =
    let m = c.args.self.now in
    elim c.then-is_some.branch [
      | then-is_some-via-then-is_some w ↦ (λ none inside. some_ended m.state.ending (sym c.is_some.ensures ∙ w.if-is_some.true) none, λ alive. alive)
      | then-is_some-via-else-is_some+then-self-len w ↦ (λ none inside. absurd (omega arith), λ alive. alive)
    ]

pub returns-in-Err-clause-follows : goal.returns-in-Err-clause-follows
returns-in-Err-clause-follows g c = λ i.
    let m = c.args.self.now in
    let low : m.at.place < length m.deck.statements = omega arith in
    let h = here_at m low in
    let have = i.files h.0 (behind_at m) h.1 in
    gave_up _ _ _ c.in-Err.lost (c.in-Err.ensures.vain h.0 (behind_at m) h.1 have)
    (λ sound lost.
    let few = i.few (is_none_by m.state.ending (sym c.is_some.ensures ∙ c.if-is_some.false)) in
    let within = sound.few in
    let next : m.state.core.next + 1 < 2 ^ 32 = omega (arith, few, low, within) in
    c.turn.ensures.fits sound h.0 (behind_at m) h.1 have (λ no. next) i.kept (c.in-Err.is ∙ ap Err lost))

pub returns-then-is_some-clause-follows : goal.returns-then-is_some-clause-follows
returns-then-is_some-clause-follows g c = λ i. asks_on _ _ c.args.self.now ask.Finished (record { files = i.files; few = i.few; kept = i.kept }) tt

-- ---- where the statement at hand is to begin

pub returns-in-Start-clause-asks : goal.returns-in-Start-clause-asks
returns-in-Start-clause-asks g c = λ tells r known.
    let told = g.F.FileStore.told in
    let bytes = g.F.FileStore.bytes in
    let m = c.args.self.now in
    let looks = looks_by c.args.to_look in
    let files : Files = files_of (g.D.Disk.held c.args.disk.now) in
    let after : Files = files_of (g.D.Disk.held c.go.new.disk) in
    let first : Run = run_at files m Start in
    let none = not_ended m.state.ending (sym c.is_some.ensures ∙ c.if-is_some.false) in
    subst (λ (x : Run). IfOk c.go.result (λ ask. IsAsked told bytes after c.go.new.self ask (asked_until looks x))) (some_same first r (sym (at_start told bytes files m c.in-Start.is) ∙ known))
    (subst (λ (a : Asked). IfOk c.go.result (λ ask. IsAsked told bytes after c.go.new.self ask a)) (sym (asked_start looks first none refl)) (c.go.ensures.asks tells c.in-Start.is))

pub returns-in-Start-clause-follows : goal.returns-in-Start-clause-follows
returns-in-Start-clause-follows g c = λ i. c.go.ensures.follows c.in-Start.is i

pub returns-in-Start-clause-spends : goal.returns-in-Start-clause-spends
returns-in-Start-clause-spends g c =
    let m = c.args.self.now in
    let statements = length m.deck.statements in
    let low : m.at.place < statements = omega arith in
    let none : m.state.ending ≡ None = is_none_by m.state.ending (sym c.is_some.ensures ∙ c.if-is_some.false) in
    let jobs = jobs_from statements m.at.place in
    let left : jobs_from statements m.at.place ≡ jobs_left m = sym (from_next statements m.at.place low) ∙ sym (ap (λ s. jobs_at s (length m.state.core.units) + jobs_from statements (m.at.place + 1)) c.in-Start.is) in
    ok_lives c.go.result m c.go.new.self (jobs_left m) none low (subst (λ n. IfOk c.go.result (λ ask. Spent ask n c.go.new.self)) left c.go.ensures.spends)

pub returns-in-Start-clause-fails : goal.returns-in-Start-clause-fails
returns-in-Start-clause-fails g c = λ tells r known.
    let m = c.args.self.now in
    let files : Files = files_of (g.D.Disk.held c.args.disk.now) in
    let first : Run = run_at files m Start in
    let taken = g.W.Sink.taken in
    on_err_by c.go.result _ _
    (fails_run _ (g.W.Sink.tells c.args.out.now) (taken c.args.out.now) (taken c.go.new.out) first r m c.go.new.self (some_same first r (sym (at_start g.F.FileStore.told g.F.FileStore.bytes files m c.in-Start.is) ∙ known)))
    (c.go.ensures.fails tells)

pub go-requires-clause-start : goal.go-requires-clause-start
go-requires-clause-start g c = c.in-Start.is
