use Rattle.std.proofs.Common.{◌≡◌, false, true, cond, None, refl, sym, ap, subst, ◌∙◌, arith}
use Rattle.fj_meaning.specs.State.{Files}
use Rattle.fj_meaning_turns.specs.Turns.{asked}
use Rattle.fj_meaning_looks.specs.Inquiring.{looks_by}
use Rattle.fj_meaning_looks.proofs.Never.{asked_never}
use Rattle.fj_run_units.specs.Files.{files_of}
use Rattle.fj_run_script.specs.Turned.{IsAsked}
use Rattle.fj_run_script.specs.Machine.{run_of}
use Rattle.fj_run_script.specs.Tallying.{owed_at}
use Rattle.fj_run_script.specs.declared.hand.Hand.TheVariants.{Idle}
use Rattle.fj_run_script.proofs.GivingUp.{given_up_told}
use Rattle.fj_run_script.proofs.Scripting.{asks_of, asked_told}
use Rattle.fj_run_script.proofs.Shortly.{short_told}
use Rattle.fj_run_script.proofs.Tallies.{asking}
use Rattle.std.proofs.Math.Logic.{∥∥₁_elim, ∥∥₁_map}
use Rattle.fj_run_script.specs.Going.{asked_for}
use Rattle.fj_run_script.proofs.Counting.{at_most_one, owes_prop, room_for, room_prop, still_going}
use Rattle.fj_run_script.proofs.script.RunnerScript.ask.Goals as goal

pub returns-clause-asks : goal.returns-clause-asks
returns-clause-asks g c =
    let told = g.D.File.FileStore.told in
    let bytes = g.D.File.FileStore.bytes in
    let count = g.D.File.FileStore.count in
    let old = c.args.self.now in
    let m = old.machine.now in
    let new = c.next_of.new.machine in
    let disk = old.disk.now in
    let after = c.next_of.new.disk in
    let it = c.next_of.ensures in
    let files : Files = files_of (g.D.Disk.held disk) in
    let files_after : Files = files_of (g.D.Disk.held after) in
    let same : new.tally.left ≡ m.tally.left = it.due.left in
    let idle : m.tally.hand ≡ Idle = asking m.tally.hand c.requires in
    asks_of _ _ _ _ c.next_of.result new.tally.hand new.tally.over new.tally.left new.tally.owed.items refl refl (λ slot. refl) refl it.due.due new.tally.submits new.tally.settles
    (omega (arith, same)) refl (λ slot. ap (λ o. owed_at o.items slot) it.due.owed) it.due.over it.due.ends
    (λ s.
    let was : m.tally.stopped ≡ true = sym it.due.stopped ∙ s in
    let still = it.rests (m.tally.stop was) in
    (was, ap (λ d. cond (g.D.Disk.told d) (run_of told bytes (files_of (g.D.Disk.held d)) new) None) still.1 ∙ ap (λ k. cond (g.D.Disk.told disk) (run_of told bytes files k) None) still.0))
    (record {
      same_out = refl;
      same_disk = refl;
      same_machine = refl;
      leaves = it.leaves;
      gives_up = given_up_told (g.W.Sink.tells old.out.now) (g.W.Sink.taken old.out.now) (g.W.Sink.taken c.next_of.new.out) (g.D.Disk.told disk) (run_of told bytes files m) m new
          (λ t. it.fails ((g.met.D.Disk.decided disk).0 t));
      short = short_told (looks_by false) (g.D.Disk.told disk) (run_of told bytes files m) m new (λ t. it.short ((g.met.D.Disk.decided disk).0 t));
      asking = record {
        outside = λ going d. idle;
        same_disk = λ asks. absurd (asks idle);
        units = λ asks. absurd (asks idle);
        at = λ asks. absurd (asks idle);
        submits = λ asks. absurd (asks idle);
      };
      stays = λ over. let still = it.rests over in (still.0, ap g.W.Sink.taken still.2, still.1);
      reason = it.reason;
      keeps = it.keeps;
    })
    (λ r e over. asked_told told bytes count files_after new (g.D.Disk.told disk) (g.D.Disk.told after) (run_of told bytes files m) r (asked r) c.next_of.result e
    (λ t. (g.met.D.Disk.decided after).1 (it.leaves.telling.0 ((g.met.D.Disk.decided disk).0 t)))
    (λ t known. subst (IsAsked told bytes files_after new c.next_of.result) (asked_never r) (it.asks ((g.met.D.Disk.decided disk).0 t) r known over)))

pub returns-clause-gives : goal.returns-clause-gives
returns-clause-gives g c = c.next_of.ensures.gives

pub next_of-requires-clause-room : goal.next_of-requires-clause-room
next_of-requires-clause-room g c = λ over.
    let old = c.args.self.now in
    let m = old.machine.now in
    ∥∥₁_elim old.on (room_prop m.state.sent.items) (λ f. room_for m.state.sent.items m.tally.left (asked_for m.tally.hand) (at_most_one m.tally.hand) (f over).sent)

pub next_of-requires-clause-owes : goal.next_of-requires-clause-owes
next_of-requires-clause-owes g c = λ over.
    let old = c.args.self.now in
    let m = old.machine.now in
    ∥∥₁_elim old.on (owes_prop m.tally.hand m.tally.owed.items m.state.sent.items m.state.told.items) (λ f. (f over).owes)

pub next_of-requires-clause-going : goal.next_of-requires-clause-going
next_of-requires-clause-going g c = c.args.self.now.on

pub invariant_of-self : goal.invariant_of-self
invariant_of-self g c =
    let old = c.args.self.now in
    let m = old.machine.now in
    let new = c.next_of.new.machine in
    let it = c.next_of.ensures in
    record {
      names = λ t. it.names (it.leaves.telling.1 t);
      on = ∥∥₁_map old.on (λ f over. it.on (f (still_going m.tally.over new.tally.over it.due.over over)) over);
    }
