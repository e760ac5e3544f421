use Rattle.std.proofs.Common.{◌≤◌, ◌<◌, ◌∷◌, false, true, sym, ap, subst, ◌∙◌, IfSome, length, refl, arith}
use Rattle.fj_statement.specs.Sound.{IsSound}
use Rattle.fj_meaning.specs.State.{Files}
use Rattle.fj_meaning_turns.specs.Run.{Start}
use Rattle.fj_meaning_turns.specs.Turns.{Asked, turn_start}
use Rattle.fj_meaning_looks.specs.Inquiring.{looks_by}
use Rattle.fj_meaning_looks.specs.Looking.{goes_until, turn_until}
use Rattle.fj_meaning_looks.proofs.Going.{goes_turn}
use Rattle.fj_run_units.specs.Files.{files_of}
use Rattle.fj_run_script.specs.Machine.{rest_of, run_at}
use Rattle.fj_run_script.specs.Short.{IsShort}
use Rattle.fj_run_script.specs.Turned.{IsAsked}
use Rattle.fj_run_script.proofs.GivingUp.{fails_behind, fails_for}
use Rattle.fj_run_script.proofs.Going.{goes_more, goes_none, goes_same, none_has, still_none}
use Rattle.fj_run_script.proofs.NextAsks.{behind_at, ends_asked, here_at, rest_none, stops_at}
use Rattle.fj_run_script.proofs.Shortly.{hand_short, rest_long, short_as}
use Rattle.fj_run_script.proofs.Stepping.{went, given_up, then_steps, err_steps, ok_steps}
use Rattle.fj_run_script.specs.Fitting.{HasRoom}
use Rattle.fj_run_script.specs.Going.{KeepsToSlots, SentFor}
use Rattle.fj_run_script.specs.Spending.{Spent, jobs_from}
use Rattle.fj_run_script.proofs.Spending.{from_later, spent_here, spent_le}
use Rattle.fj_world.specs.Giving.{GivesOf}
use Rattle.fj_world.specs.declared.ask.Ask.TheVariants as ask
use Rattle.fj_run_script.specs.Kept.{MayKeep}
use Rattle.fj_run_script.proofs.Kept.{asks_on, follows_err, follows_ok}
use Rattle.fj_run_script.proofs.machine.Machine.go.Goals as goal

pub loop-self-init : goal.loop-self-init
loop-self-init g c = goes_none (looks_by c.args.to_look) g.W.Sink.tells g.W.Sink.taken g.W.Sink.count g.D.Disk.tells g.D.Disk.held g.D.Disk.count g.D.Disk.refusals c.args.out.now c.args.disk.now c.args.self.now

pub loop-self-preserved : goal.loop-self-preserved
loop-self-preserved g c =
    let looks = looks_by c.args.to_look in
    let mid = c.stops_here.new.self in
    let it = goes_same c.stops_here.ensures.same c.loop-self.invariant in
    let files : Files = files_of (g.D.Disk.held c.loop-self.disk) in
    let none = still_none looks files c.loop-self.self mid c.stops_here.result c.stops_here.ensures.same (c.stops_here.ensures.stops files) false c.if-stops_here.false in
    goes_more looks g.W.Sink.tells g.W.Sink.taken g.W.Sink.count g.D.Disk.tells g.D.Disk.held g.D.Disk.count g.D.Disk.refusals c.args.out.now c.loop-self.out c.begin_next.new.out c.args.disk.now c.loop-self.disk c.begin_next.new.disk
    c.args.self.now mid c.begin_next.new.self c.in-Ok.asked it c.in-Ok.ensures.steps (λ t. none_has c.in-Ok.asked _ c.in_default.is (c.in-Ok.ensures.passes looks t none))
    (none_has c.in-Ok.asked _ c.in_default.is c.in-Ok.ensures.started)
    (λ t. none_has c.in-Ok.asked _ c.in_default.is (c.in-Ok.ensures.passed t)) c.begin_next.ensures.deck c.begin_next.ensures.tally c.begin_next.ensures.kept c.begin_next.ensures.looks
    (λ h i. let f = follows_ok _ _ c.begin_next.result c.begin_next.new.self c.in-Ok.asked c.in-Ok.is (c.begin_next.ensures.follows h i) in (none_has c.in-Ok.asked _ c.in_default.is f.1.1, f.0)) (none_has c.in-Ok.asked _ c.in_default.is c.in-Ok.ensures.still) c.begin_next.ensures.heard
    (let e = none_has c.in-Ok.asked _ c.in_default.is c.in-Ok.ensures.at in omega (arith, e))

pub begin_next-requires-clause-names : goal.begin_next-requires-clause-names
begin_next-requires-clause-names g c = λ t.
    let it = goes_same c.stops_here.ensures.same c.loop-self.invariant in
    let tells = it.steps.telling.1 t in
    it.steps.names tells (c.requires.names tells)

pub begin_next-requires-clause-room : goal.begin_next-requires-clause-room
begin_next-requires-clause-room g c = let it = goes_same c.stops_here.ensures.same c.loop-self.invariant in subst (λ l. HasRoom l.items) (sym it.sent) c.requires.room

-- ---- at a look

pub returns-then-stops_here-clause-asks : goal.returns-then-stops_here-clause-asks
returns-then-stops_here-clause-asks g c = λ tells start.
    let looks = looks_by c.args.to_look in
    let told = g.F.FileStore.told in
    let bytes = g.F.FileStore.bytes in
    let mid = c.stops_here.new.self in
    let it = goes_same c.stops_here.ensures.same c.loop-self.invariant in
    let files : Files = files_of (g.D.Disk.held c.loop-self.disk) in
    let due = still_none looks files c.loop-self.self mid c.stops_here.result c.stops_here.ensures.same (c.stops_here.ensures.stops files) true c.if-stops_here.true in
    let k = it.goes tells start in
    subst (λ (a : Asked). IsAsked told bytes files mid ask.Finished a) (sym k.1) (stops_at looks told bytes files mid k.0 due)

pub returns-then-stops_here-clause-follows : goal.returns-then-stops_here-clause-follows
returns-then-stops_here-clause-follows g c = λ start i. let it = goes_same c.stops_here.ensures.same c.loop-self.invariant in asks_on _ _ c.stops_here.new.self ask.Finished (it.on start i).1 tt

pub returns-then-stops_here-clause-spends : goal.returns-then-stops_here-clause-spends
returns-then-stops_here-clause-spends g c =
    let it = goes_same c.stops_here.ensures.same c.loop-self.invariant in
    spent_here c.args.self.now c.stops_here.new.self (it.start c.requires.start) it.deck it.at

pub returns-then-stops_here-clause-sent : goal.returns-then-stops_here-clause-sent
returns-then-stops_here-clause-sent g c = let it = goes_same c.stops_here.ensures.same c.loop-self.invariant in ap (λ l. l.items) it.sent

pub returns-then-stops_here-clause-heard : goal.returns-then-stops_here-clause-heard
returns-then-stops_here-clause-heard g c = (goes_same c.stops_here.ensures.same c.loop-self.invariant).heard

pub returns-then-stops_here-clause-steps : goal.returns-then-stops_here-clause-steps
returns-then-stops_here-clause-steps g c =
    let it = goes_same c.stops_here.ensures.same c.loop-self.invariant in
    ok_steps c.args.out.now c.loop-self.out c.args.disk.now c.loop-self.disk c.args.self.now.state.core c.stops_here.new.self.state.core (went (tt {0})) (tt {0}) ask.Finished refl it.steps

pub returns-then-stops_here-clause-deck : goal.returns-then-stops_here-clause-deck
returns-then-stops_here-clause-deck g c = (goes_same c.stops_here.ensures.same c.loop-self.invariant).deck

pub returns-then-stops_here-clause-tally : goal.returns-then-stops_here-clause-tally
returns-then-stops_here-clause-tally g c = (goes_same c.stops_here.ensures.same c.loop-self.invariant).tally

pub returns-then-stops_here-clause-kept : goal.returns-then-stops_here-clause-kept
returns-then-stops_here-clause-kept g c = (goes_same c.stops_here.ensures.same c.loop-self.invariant).kept

pub returns-then-stops_here-clause-looks : goal.returns-then-stops_here-clause-looks
returns-then-stops_here-clause-looks g c = (goes_same c.stops_here.ensures.same c.loop-self.invariant).looks_are

-- ---- where it is given up

pub returns-in-Err-clause-fails : goal.returns-in-Err-clause-fails
returns-in-Err-clause-fails g c = λ tells.
    let it = goes_same c.stops_here.ensures.same c.loop-self.invariant in
    let m = c.args.self.now in
    let half = c.stops_here.new.self in
    let p = it.passed tells in
    let taken = g.W.Sink.taken in
    fails_behind _ (g.W.Sink.tells c.args.out.now) (g.W.Sink.tells c.loop-self.out) (taken c.args.out.now) (taken c.loop-self.out) (taken c.begin_next.new.out) p.0
    (run_at (files_of (g.D.Disk.held c.args.disk.now)) m Start) (run_at (files_of (g.D.Disk.held c.loop-self.disk)) half Start) m half c.begin_next.new.self p.1 it.steps.telling_out.0 it.steps.output (it.steps.own tells) (ap (λ t. t.hand) it.tally)
    (fails_for _ _ (g.W.Sink.tells c.loop-self.out) (taken c.loop-self.out) (taken c.begin_next.new.out) (run_at (files_of (g.D.Disk.held c.loop-self.disk)) half Start) half c.begin_next.new.self
    (λ lost e. cc) (λ e. cc) (c.in-Err.ensures.fails (it.steps.telling.0 tells)))

pub returns-in-Err-clause-short : goal.returns-in-Err-clause-short
returns-in-Err-clause-short g c = λ tells.
    let looks = looks_by c.args.to_look in
    let mid = c.stops_here.new.self in
    let new = c.begin_next.new.self in
    let it = goes_same c.stops_here.ensures.same c.loop-self.invariant in
    let files : Files = files_of (g.D.Disk.held c.loop-self.disk) in
    let none = still_none looks files c.loop-self.self mid c.stops_here.result c.stops_here.ensures.same (c.stops_here.ensures.stops files) false c.if-stops_here.false in
    let low : mid.at.place < length mid.deck.statements = rw c.stops_here.ensures.same (omega arith) in
    let h = here_at mid low in
    let k = it.goes tells c.requires.start in
    subst (λ (a : Asked). IsShort looks a (rest_of new)) (sym (k.1 ∙ goes_turn looks h.0 (behind_at mid) (run_at files mid Start) h.1 none))
    (short_as looks (turn_until looks (behind_at mid) (turn_start h.0 (run_at files mid Start))) (h.0 ∷ behind_at mid) (rest_of new)
    (rest_long mid new c.begin_next.ensures.deck c.in-Err.ensures.still_at ∙ ap length h.1) (hand_short looks h.0 (behind_at mid) (run_at files mid Start) h.1))

pub returns-in-Err-clause-steps : goal.returns-in-Err-clause-steps
returns-in-Err-clause-steps g c =
    let it = goes_same c.stops_here.ensures.same c.loop-self.invariant in
    let m = c.args.self.now in
    let half = c.stops_here.new.self in
    let new = c.begin_next.new in
    then_steps c.args.out.now c.loop-self.out new.out c.args.disk.now c.loop-self.disk new.disk m.state.core half.state.core new.self.state.core (tt {0}) (given_up c.in-Err.lost) it.steps
    (err_steps c.loop-self.out new.out c.loop-self.disk new.disk half.state.core new.self.state.core c.begin_next.result c.in-Err.lost c.in-Err.is c.begin_next.ensures.steps)

pub returns-in-Err-clause-heard : goal.returns-in-Err-clause-heard
returns-in-Err-clause-heard g c = c.begin_next.ensures.heard ∙ (goes_same c.stops_here.ensures.same c.loop-self.invariant).heard

pub returns-in-Err-clause-follows : goal.returns-in-Err-clause-follows
returns-in-Err-clause-follows g c = λ start i.
    let it = goes_same c.stops_here.ensures.same c.loop-self.invariant in
    let k = it.on start i in
    follows_err _ _ _ _ c.begin_next.result c.begin_next.new.self c.in-Err.lost c.in-Err.is (λ sound. subst (λ d. IsSound d) (sym it.deck) sound) (c.begin_next.ensures.follows k.0 k.1)

pub returns-in-Err-clause-deck : goal.returns-in-Err-clause-deck
returns-in-Err-clause-deck g c = c.begin_next.ensures.deck ∙ (goes_same c.stops_here.ensures.same c.loop-self.invariant).deck

pub returns-in-Err-clause-tally : goal.returns-in-Err-clause-tally
returns-in-Err-clause-tally g c = c.begin_next.ensures.tally ∙ (goes_same c.stops_here.ensures.same c.loop-self.invariant).tally

pub returns-in-Err-clause-kept : goal.returns-in-Err-clause-kept
returns-in-Err-clause-kept g c = c.begin_next.ensures.kept ∙ (goes_same c.stops_here.ensures.same c.loop-self.invariant).kept

pub returns-in-Err-clause-looks : goal.returns-in-Err-clause-looks
returns-in-Err-clause-looks g c = c.begin_next.ensures.looks ∙ (goes_same c.stops_here.ensures.same c.loop-self.invariant).looks_are

-- ---- where one asks

pub returns-in-Some-clause-asks : goal.returns-in-Some-clause-asks
returns-in-Some-clause-asks g c = λ tells start.
    let looks = looks_by c.args.to_look in
    let mid = c.stops_here.new.self in
    let new = c.begin_next.new.self in
    let it = goes_same c.stops_here.ensures.same c.loop-self.invariant in
    let files : Files = files_of (g.D.Disk.held c.loop-self.disk) in
    let after : Files = files_of (g.D.Disk.held c.begin_next.new.disk) in
    let none = still_none looks files c.loop-self.self mid c.stops_here.result c.stops_here.ensures.same (c.stops_here.ensures.stops files) false c.if-stops_here.false in
    let k = it.goes tells start in
    subst (λ (a : Asked). IsAsked g.F.FileStore.told g.F.FileStore.bytes after new c.in-Some.ask a) (sym k.1)
    (subst (λ o. IfSome o (λ ask. IsAsked g.F.FileStore.told g.F.FileStore.bytes after new ask (goes_until looks (rest_of mid) (run_at files mid Start)))) c.in-Some.is
    (c.in-Ok.ensures.asks looks (it.steps.telling.0 tells) none))

pub returns-in-Some-clause-steps : goal.returns-in-Some-clause-steps
returns-in-Some-clause-steps g c =
    let it = goes_same c.stops_here.ensures.same c.loop-self.invariant in
    let m = c.args.self.now in
    let half = c.stops_here.new.self in
    let new = c.begin_next.new in
    then_steps c.args.out.now c.loop-self.out new.out c.args.disk.now c.loop-self.disk new.disk m.state.core half.state.core new.self.state.core (tt {0}) (went c.in-Some.ask) it.steps
    (ok_steps c.loop-self.out new.out c.loop-self.disk new.disk half.state.core new.self.state.core c.begin_next.result c.in-Ok.asked c.in-Some.ask c.in-Ok.is c.begin_next.ensures.steps)

pub returns-in-Some-clause-follows : goal.returns-in-Some-clause-follows
returns-in-Some-clause-follows g c = λ start i.
    let it = goes_same c.stops_here.ensures.same c.loop-self.invariant in
    let new = c.begin_next.new.self in
    let k = it.on start i in
    let f = follows_ok _ _ c.begin_next.result new c.in-Ok.asked c.in-Ok.is (c.begin_next.ensures.follows k.0 k.1) in
    asks_on _ _ new c.in-Some.ask f.0 (subst (λ o. IfSome o (GivesOf MayKeep new)) c.in-Some.is f.1.0)

pub returns-in-Some-clause-sent : goal.returns-in-Some-clause-sent
returns-in-Some-clause-sent g c =
    let it = goes_same c.stops_here.ensures.same c.loop-self.invariant in
    let new = c.begin_next.new.self.state.sent.items in
    subst (λ l. SentFor c.in-Some.ask l.items new) it.sent (subst (λ o. IfSome o (λ ask. SentFor ask c.stops_here.new.self.state.sent.items new)) c.in-Some.is c.in-Ok.ensures.sent)

pub returns-in-Some-clause-heard : goal.returns-in-Some-clause-heard
returns-in-Some-clause-heard g c = c.begin_next.ensures.heard ∙ (goes_same c.stops_here.ensures.same c.loop-self.invariant).heard

pub returns-in-Some-clause-slots : goal.returns-in-Some-clause-slots
returns-in-Some-clause-slots g c = subst (λ o. IfSome o (λ ask. KeepsToSlots ask c.begin_next.new.self.state)) c.in-Some.is c.in-Ok.ensures.slots

pub returns-in-Some-clause-spends : goal.returns-in-Some-clause-spends
returns-in-Some-clause-spends g c =
    let m = c.args.self.now in
    let half = c.stops_here.new.self in
    let new = c.begin_next.new.self in
    let it = goes_same c.stops_here.ensures.same c.loop-self.invariant in
    let statements = length m.deck.statements in
    let spent = subst (λ o. IfSome o (λ ask. Spent ask (jobs_from (length half.deck.statements) half.at.place) new)) c.in-Some.is c.in-Ok.ensures.spends in
    spent_le c.in-Some.ask new (jobs_from statements half.at.place) (jobs_from statements m.at.place) (from_later statements m.at.place half.at.place it.at)
    (subst (λ d. Spent c.in-Some.ask (jobs_from (length d.statements) half.at.place) new) it.deck spent)

pub returns-in-Some-clause-deck : goal.returns-in-Some-clause-deck
returns-in-Some-clause-deck g c = c.begin_next.ensures.deck ∙ (goes_same c.stops_here.ensures.same c.loop-self.invariant).deck

pub returns-in-Some-clause-tally : goal.returns-in-Some-clause-tally
returns-in-Some-clause-tally g c = c.begin_next.ensures.tally ∙ (goes_same c.stops_here.ensures.same c.loop-self.invariant).tally

pub returns-in-Some-clause-kept : goal.returns-in-Some-clause-kept
returns-in-Some-clause-kept g c = c.begin_next.ensures.kept ∙ (goes_same c.stops_here.ensures.same c.loop-self.invariant).kept

pub returns-in-Some-clause-looks : goal.returns-in-Some-clause-looks
returns-in-Some-clause-looks g c = c.begin_next.ensures.looks ∙ (goes_same c.stops_here.ensures.same c.loop-self.invariant).looks_are

-- ---- where none is left

pub returns-clause-asks : goal.returns-clause-asks
returns-clause-asks g c = λ tells start.
    let looks = looks_by c.args.to_look in
    let told = g.F.FileStore.told in
    let bytes = g.F.FileStore.bytes in
    let half = c.loop-self.self in
    let files : Files = files_of (g.D.Disk.held c.loop-self.disk) in
    let low : length half.deck.statements ≤ half.at.place = omega arith in
    let k = c.loop-self.invariant.goes tells start in
    subst (λ (a : Asked). IsAsked told bytes files half ask.Finished a) (sym k.1) (ends_asked looks told bytes files half k.0 (rest_none half low))

pub returns-clause-spends : goal.returns-clause-spends
returns-clause-spends g c = λ none inside. absurd (omega arith)

pub returns-clause-follows : goal.returns-clause-follows
returns-clause-follows g c = λ start i. asks_on _ _ c.loop-self.self ask.Finished (c.loop-self.invariant.on start i).1 tt

pub returns-clause-steps : goal.returns-clause-steps
returns-clause-steps g c = ok_steps c.args.out.now c.loop-self.out c.args.disk.now c.loop-self.disk c.args.self.now.state.core c.loop-self.self.state.core (went (tt {0})) (tt {0}) ask.Finished refl c.loop-self.invariant.steps
