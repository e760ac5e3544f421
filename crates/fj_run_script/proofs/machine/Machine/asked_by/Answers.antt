use Rattle.std.proofs.Common.{◌+◌, List, drop, length, vec_capacity, ap, subst, refl, sym}
use Rattle.fj_meaning.specs.Statement.{Stated, stated}
use Rattle.fj_meaning_turns.specs.Passing.{passed_by}
use Rattle.fj_run_script.specs.Machine.{rest_of}
use Rattle.fj_run_script.specs.Turned.{IsTurn}
use Rattle.fj_run_script.proofs.NextAsks.{passes_goes, pausing_asks, stops_asks}
use Rattle.fj_run_script.proofs.Known.{start_may}
use Rattle.fj_run_script.proofs.Looks.{room_behind}
use Rattle.fj_run_script.specs.Going.{Counts, HaveTurned}
use Rattle.fj_run_script.proofs.Kept.{gives_asked}
use Rattle.fj_run_script.proofs.Counting.{on_paused, on_passed, on_stopped}
use Rattle.fj_run_script.specs.Going.{DoesNotPause}
use Rattle.fj_run_script.specs.Spending.{Spends}
use Rattle.fj_run_script.proofs.Spending.{none_ended, spent_paused}
use Rattle.fj_run_script.proofs.machine.Machine.asked_by.Goals as goal

pub returns-in-Passes-clause-passes : goal.returns-in-Passes-clause-passes
returns-in-Passes-clause-passes g c = λ looks files t i.
    let told = g.F.FileStore.told in
    let bytes = g.F.FileStore.bytes in
    let m = c.args.self.now in
    let more : List Stated = drop (m.at.place + 1) (stated m.deck.statements) in
    let it = subst (λ x. IsTurn told bytes m.deck.variables (rest_of m) files m.state x t) c.in-Passes.is i in
    (it.0, passes_goes looks told bytes files m more t it.1)

pub returns-in-Passes-clause-passed : goal.returns-in-Passes-clause-passed
returns-in-Passes-clause-passed g c = λ files t i.
    let m = c.args.self.now in
    let more : List Stated = drop (m.at.place + 1) (stated m.deck.statements) in
    let it = subst (λ x. IsTurn g.F.FileStore.told g.F.FileStore.bytes m.deck.variables (rest_of m) files m.state x t) c.in-Passes.is i in
    ap (passed_by more) it.1

pub returns-in-Pauses-clause-on : goal.returns-in-Pauses-clause-on
returns-in-Pauses-clause-on g c = λ s st more here have counts few kept.
    let m = c.args.self.now in
    on_paused m s st more few kept c.in-Pauses.ask here (subst (λ t. HaveTurned t m.state st.0.what) c.in-Pauses.is have) (subst (λ t. Counts t s m.state) c.in-Pauses.is counts)

pub returns-in-Pauses-clause-gives : goal.returns-in-Pauses-clause-gives
returns-in-Pauses-clause-gives g c = λ s st more here have counts few kept.
    let m = c.args.self.now in
    gives_asked m c.in-Pauses.ask st more here (subst (λ t. HaveTurned t m.state st.0.what) c.in-Pauses.is have).1

pub returns-in-Pauses-clause-sent : goal.returns-in-Pauses-clause-sent
returns-in-Pauses-clause-sent g c = λ s counts.
    let m = c.args.self.now in
    (subst (λ t. Counts t s m.state) c.in-Pauses.is counts).1

pub returns-in-Pauses-clause-slots : goal.returns-in-Pauses-clause-slots
returns-in-Pauses-clause-slots g c = λ s counts.
    let m = c.args.self.now in
    (subst (λ t. Counts t s m.state) c.in-Pauses.is counts).3

pub returns-in-Passes-clause-on : goal.returns-in-Passes-clause-on
returns-in-Passes-clause-on g c = λ s st more here have counts few kept.
    let m = c.args.self.now in
    let at = subst (λ t. HaveTurned t m.state st.0.what) c.in-Passes.is have in
    let more_is = subst (λ t. Counts t s m.state) c.in-Passes.is counts in
    on_passed m s st more few kept _ refl refl refl at more_is.0 more_is.2

pub returns-in-Passes-clause-start : goal.returns-in-Passes-clause-start
returns-in-Passes-clause-start g c = λ s st more here have counts few kept.
    let m = c.args.self.now in
    (subst (λ t. HaveTurned t m.state st.0.what) c.in-Passes.is have).0

pub returns-in-Passes-clause-still : goal.returns-in-Passes-clause-still
returns-in-Passes-clause-still g c = λ s counts.
    let m = c.args.self.now in
    (subst (λ t. Counts t s m.state) c.in-Passes.is counts).1

pub returns-in-Stops-clause-on : goal.returns-in-Stops-clause-on
returns-in-Stops-clause-on g c = λ s st more here have counts few kept.
    let m = c.args.self.now in
    on_stopped m s st more few kept (subst (λ t. HaveTurned t m.state st.0.what) c.in-Stops.is have) (subst (λ t. Counts t s m.state) c.in-Stops.is counts).1

pub returns-in-Stops-clause-sent : goal.returns-in-Stops-clause-sent
returns-in-Stops-clause-sent g c = λ s counts.
    let m = c.args.self.now in
    ap (λ l. l.items) (subst (λ t. Counts t s m.state) c.in-Stops.is counts).0

pub returns-in-Passes-clause-behind : goal.returns-in-Passes-clause-behind
returns-in-Passes-clause-behind g c = subst DoesNotPause (sym c.in-Passes.is) tt

pub returns-in-Pauses-clause-spends : goal.returns-in-Pauses-clause-spends
returns-in-Pauses-clause-spends g c = λ jobs spends s counts.
    let m = c.args.self.now in
    spent_paused c.in-Pauses.ask m jobs (subst (λ t. Spends jobs t m.state) c.in-Pauses.is spends)

pub returns-in-Stops-clause-spends : goal.returns-in-Stops-clause-spends
returns-in-Stops-clause-spends g c = λ jobs spends s counts none inside.
    let m = c.args.self.now in
    none_ended m.state.ending (subst (λ t. Counts t s m.state) c.in-Stops.is counts).1 none

pub returns-in-Pauses-clause-asks : goal.returns-in-Pauses-clause-asks
returns-in-Pauses-clause-asks g c = λ looks files t i.
    let told = g.F.FileStore.told in
    let bytes = g.F.FileStore.bytes in
    let m = c.args.self.now in
    pausing_asks looks told bytes files m (drop (m.at.place + 1) (stated m.deck.statements)) t c.in-Pauses.ask (subst (λ x. IsTurn told bytes m.deck.variables (rest_of m) files m.state x t) c.in-Pauses.is i)

pub returns-in-Stops-clause-asks : goal.returns-in-Stops-clause-asks
returns-in-Stops-clause-asks g c = λ looks files t i.
    let told = g.F.FileStore.told in
    let bytes = g.F.FileStore.bytes in
    let m = c.args.self.now in
    let it = subst (λ x. IsTurn told bytes m.deck.variables (rest_of m) files m.state x t) c.in-Stops.is i in
    stops_asks looks told bytes files m (drop (m.at.place + 1) (stated m.deck.statements)) t it.0 it.1

pub returns-in-Passes-clause-started : goal.returns-in-Passes-clause-started
returns-in-Passes-clause-started g c = c.requires.starts c.in-Passes.is

pub invariant_of-self : goal.invariant_of-self
invariant_of-self g c =
    let m = c.args.self.now in
    record {
      kinds = m.kinds;
      hand = start_may m.deck.statements (m.at.place + 1) m.state.stage (c.requires.starts c.in-Passes.is);
      refused = m.refused;
      room = room_behind (length m.looks.items) (vec_capacity m.looks) m.deck.statements m.at.place m.room;
    }
