use Rattle.std.proofs.Common.{cond, None, refl, ap, sym, subst, arith}
use Rattle.fj_meaning.specs.State.{Files}
use Rattle.fj_meaning_turns.specs.Turns.{told_of}
use Rattle.fj_run_units.specs.Files.{files_of}
use Rattle.fj_run_script.specs.Machine.{run_of}
use Rattle.fj_world.specs.Conduct.{IsSettling, is_done}
use Rattle.fj_run_script.specs.Tallying.{due_of}
use Rattle.fj_run_script.proofs.GivingUp.{given_up_told, only_stop, rests_give_up, rests_ask}
use Rattle.fj_run_script.proofs.Scripting.{run_same, if_told, rests_leaves}
use Rattle.fj_run_script.proofs.Tallies.{settling_runs, not_both}
use Rattle.std.proofs.Math.Logic.{∥∥₁_elim, ∥∥₁_map}
use Rattle.fj_run_units.specs.Names.{AreInUse}
use Rattle.std.proofs.Props.{props}
use Rattle.fj_run_script.proofs.Kept.{have_at_prop, none_kept}
use Rattle.fj_run_script.proofs.Counting.{awaits_due, on_same, room_for, room_prop, still_going}
use Rattle.fj_run_script.proofs.stretch.StretchScript.told.Goals as goal

pub returns : goal.returns
returns g c =
    let told = g.D.File.FileStore.told in
    let bytes = g.D.File.FileStore.bytes in
    let old = c.args.self.now in
    let m = old.machine.now in
    let new = c.hear.new.self in
    let files : Files = files_of (g.D.Disk.held old.disk.now) in
    let it = c.hear.ensures in
    record {
      due = ap due_of it.hand;
      left = it.left;
      uses = refl;
      owed = it.owed;
      over = it.over;
      stopped = λ d. (it.halts d).0;
      stops = λ s. let k = it.stops s in (k.0, ap (λ o. cond (g.D.Disk.told old.disk.now) o None) (run_same told bytes files m new it.rests.deck k.2 k.1));
      keeps = λ d. (it.halts d).1;
      leads = record {
        same_out = refl;
        same_disk = refl;
        same_machine = refl;
        leaves = rests_leaves old.out.now old.disk.now m new it.rests;
        gives_up = given_up_told (g.W.Sink.tells old.out.now) (g.W.Sink.taken old.out.now) (g.W.Sink.taken old.out.now) (g.D.Disk.told old.disk.now) (run_of told bytes files m) m new
            (λ _. rests_give_up told bytes (g.W.Sink.tells old.out.now) (g.W.Sink.taken old.out.now) files m new (λ idle. subst (λ h. IsSettling (due_of h)) idle c.requires) it.rests);
        short = λ r e idle. absurd (subst (λ h. IsSettling (due_of h)) idle c.requires);
        asking = rests_ask old.disk.now m new it.rests (λ going over stop. absurd (only_stop (is_done c.args.told) m.tally.over new.tally.over new.tally.stopped it.goes it.halts going over stop));
        stays = λ over. absurd (not_both m.tally.over over (settling_runs m.tally.hand m.tally.over m.tally.left m.tally.owed.items m.tally.settles c.requires));
        reason = it.reason;
        keeps = record {
          given_up = λ going over stop. absurd (only_stop (is_done c.args.told) m.tally.over new.tally.over new.tally.stopped it.goes it.halts going over stop);
          asked = λ going idle. absurd (subst (λ h. IsSettling (due_of h)) idle c.requires);
          none = λ going stopped. none_kept m new it.kept going;
          stopped = λ going stopped st more here.
              let k = it.stops stopped in
              ∥∥₁_elim old.on (have_at_prop new.state.stage new.state.core.names new.state.core.units st.0.what) (λ f. (on_same m new it.rests.deck k.2 k.1 (f going).at).files st more here);
        };
      };
      told = λ s reply e over is. if_told (g.D.Disk.told old.disk.now) (run_of told bytes files m) (run_of told bytes files new) s (told_of s reply) e (λ _ known. it.told files s reply known over is);
    }

pub invariant_of-self : goal.invariant_of-self
invariant_of-self g c =
    let old = c.args.self.now in
    let m = old.machine.now in
    let new = c.hear.new.self in
    let it = c.hear.ensures in
    record {
      names = λ t. subst (λ ns. AreInUse ns (g.D.Disk.held old.disk.now).in_use) (sym it.rests.names) (old.names t);
      on = ∥∥₁_map old.on (λ f over. it.on (f (still_going m.tally.over new.tally.over it.over over)) over);
    }

pub hear-requires-clause-room : goal.hear-requires-clause-room
hear-requires-clause-room g c =
    let old = c.args.self.now in
    let m = old.machine.now in
    ∥∥₁_elim old.on (room_prop m.state.told.items) (λ f. room_for m.state.told.items m.tally.left 0 (omega arith) (f (settling_runs m.tally.hand m.tally.over m.tally.left m.tally.owed.items m.tally.settles c.requires)).told)

pub hear-requires-clause-owed : goal.hear-requires-clause-owed
hear-requires-clause-owed g c =
    let old = c.args.self.now in
    let m = old.machine.now in
    ∥∥₁_elim old.on (hlevel props) (λ f. (awaits_due m.tally.hand m.state c.requires (f (settling_runs m.tally.hand m.tally.over m.tally.left m.tally.owed.items m.tally.settles c.requires)).awaited).owed)

pub hear-requires-clause-waits : goal.hear-requires-clause-waits
hear-requires-clause-waits g c =
    let old = c.args.self.now in
    let m = old.machine.now in
    ∥∥₁_elim old.on (hlevel props) (λ f. (awaits_due m.tally.hand m.state c.requires (f (settling_runs m.tally.hand m.tally.over m.tally.left m.tally.owed.items m.tally.settles c.requires)).awaited).waits)
