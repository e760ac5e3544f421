use Rattle.std.proofs.Common.{◌≡◌, ◌+◌, ◌≤◌, length, ap, sym, subst, IfSome, IfOk, OnErr, arith}
use Rattle.fj_statement.specs.Sound.{IsSound}
use Rattle.fj_meaning.specs.State.{Files}
use Rattle.fj_run_units.specs.Files.{files_of}
use Rattle.fj_meaning_turns.specs.Run.{Start}
use Rattle.fj_meaning_turns.specs.Turns.{Asked}
use Rattle.fj_meaning_looks.specs.Inquiring.{looks_by}
use Rattle.fj_run_script.specs.Turned.{IsAsked}
use Rattle.fj_run_script.specs.Machine.{rest_of, run_at}
use Rattle.fj_run_script.specs.Short.{IsShort}
use Rattle.fj_run_script.proofs.Failures.{on_err_by}
use Rattle.fj_run_script.proofs.GivingUp.{fails_like}
use Rattle.fj_run_script.proofs.Going.{none_has}
use Rattle.fj_run_script.specs.Fitting.{HasRoom}
use Rattle.fj_run_script.specs.Spending.{Spent, jobs_from}
use Rattle.fj_run_script.proofs.Spending.{from_later, ok_spent}
use Rattle.fj_world.specs.Giving.{GivesOf}
use Rattle.fj_run_script.specs.Kept.{MayKeep}
use Rattle.fj_run_script.proofs.Kept.{asks_on, follows_by}
use Rattle.fj_run_script.specs.declared.machine.AtHand.{AtHand}
use Rattle.fj_run_script.proofs.machine.Machine.ask_or_go.Goals as goal

pub returns-in-None-clause-fails : goal.returns-in-None-clause-fails
returns-in-None-clause-fails g c = λ tells t i.
    let files : Files = files_of (g.D.Disk.held c.args.disk.now) in
    let m = c.args.self.now in
    let mid = c.asked_by.new.self in
    let taken = g.W.Sink.taken in
    let passed = none_has c.asked_by.result _ c.in-None.is (c.asked_by.ensures.passed files t i) in
    let r = run_at files mid Start in
    on_err_by c.go.result _ _
    (λ f. (r, passed, fails_like _ (g.W.Sink.tells c.args.out.now) (taken c.args.out.now) (taken c.go.new.out) r m mid c.go.new.self (ap (λ s. s.core.output) c.asked_by.ensures.state) (ap (λ t. t.hand) c.asked_by.ensures.tally) f))
    (c.go.ensures.fails tells)

pub returns-in-Some-clause-follows : goal.returns-in-Some-clause-follows
returns-in-Some-clause-follows g c = λ s st more here have counts few kept.
    let new = c.asked_by.new.self in
    asks_on _ _ new c.in-Some.ask (c.asked_by.ensures.on s st more here have counts few kept)
    (subst (λ o. IfSome o (GivesOf MayKeep new)) c.in-Some.is (c.asked_by.ensures.gives s st more here have counts few kept))

pub returns-in-None-clause-follows : goal.returns-in-None-clause-follows
returns-in-None-clause-follows g c = λ s st more here have counts few kept.
    follows_by _ _ _ c.go.result c.go.new.self (λ sound. subst (λ d. IsSound d) (sym c.asked_by.ensures.deck) sound)
    (c.go.ensures.follows (c.in-None.ensures.start s st more here have counts few kept) (c.asked_by.ensures.on s st more here have counts few kept))

pub go-requires-clause-room : goal.go-requires-clause-room
go-requires-clause-room g c = subst (λ s. HasRoom s.sent.items) (sym c.asked_by.ensures.state) (c.requires.room c.in-None.ensures.behind)

pub returns-in-Some-clause-spends : goal.returns-in-Some-clause-spends
returns-in-Some-clause-spends g c = λ jobs spends s counts.
    let m = c.args.self.now in
    subst (λ o. IfSome o (λ ask. Spent ask (jobs + jobs_from (length m.deck.statements) (m.at.place + 1)) c.asked_by.new.self)) c.in-Some.is (c.asked_by.ensures.spends jobs spends s counts)

pub returns-in-None-clause-spends : goal.returns-in-None-clause-spends
returns-in-None-clause-spends g c = λ jobs spends s counts.
    let m = c.args.self.now in
    let mid = c.asked_by.new.self in
    let statements = length m.deck.statements in
    let place : mid.at.place ≡ m.at.place + 1 = ap (λ (a : AtHand). a.place) c.in-None.ensures.at in
    let past : m.at.place + 1 ≤ mid.at.place = omega (arith, place) in
    let spent = subst (λ d. IfOk c.go.result (λ ask. Spent ask (jobs_from (length d.statements) mid.at.place) c.go.new.self)) c.asked_by.ensures.deck c.go.ensures.spends in
    let few_jobs = from_later statements (m.at.place + 1) mid.at.place past in
    ok_spent c.go.result c.go.new.self (jobs_from statements mid.at.place) (jobs + jobs_from statements (m.at.place + 1)) (omega (arith, few_jobs)) spent

pub returns-in-None-clause-asks : goal.returns-in-None-clause-asks
returns-in-None-clause-asks g c = λ tells t i.
    let files : Files = files_of (g.D.Disk.held c.args.disk.now) in
    let k = none_has c.asked_by.result _ c.in-None.is (c.asked_by.ensures.passes (looks_by c.args.to_look) files t i) in
    subst (λ (a : Asked). IfOk c.go.result (λ ask. IsAsked g.F.FileStore.told g.F.FileStore.bytes (files_of (g.D.Disk.held c.go.new.disk)) c.go.new.self ask a)) (sym k.1) (c.go.ensures.asks tells k.0)

pub returns-in-None-clause-short : goal.returns-in-None-clause-short
returns-in-None-clause-short g c = λ tells t i.
    let files : Files = files_of (g.D.Disk.held c.args.disk.now) in
    let looks = looks_by c.args.to_look in
    let k = none_has c.asked_by.result _ c.in-None.is (c.asked_by.ensures.passes looks files t i) in
    subst (λ (a : Asked). OnErr c.go.result (IsShort looks a (rest_of c.go.new.self))) (sym k.1) (c.go.ensures.short tells)

pub go-requires-clause-start : goal.go-requires-clause-start
go-requires-clause-start g c = c.in-None.ensures.started
