use Rattle.std.proofs.Common.{cond, None, refl, ap, sym, ◌∙◌, subst}
use Rattle.fj_meaning.specs.State.{Files}
use Rattle.fj_run_units.specs.Files.{files_of}
use Rattle.fj_run_script.specs.Machine.{run_of}
use Rattle.fj_world.specs.Conduct.{IsSubmitting}
use Rattle.fj_run_script.specs.Tallying.{due_of}
use Rattle.fj_run_script.proofs.GivingUp.{given_up_told, rests_give_up, rests_ask}
use Rattle.fj_run_script.proofs.Scripting.{run_same, rests_leaves, took_by}
use Rattle.fj_run_script.proofs.Tallies.{submitting_runs, not_both}
use Rattle.std.proofs.Math.Logic.{∥∥₁_map}
use Rattle.fj_run_units.specs.Names.{AreInUse}
use Rattle.fj_run_script.proofs.Counting.{still_going}
use Rattle.fj_run_script.proofs.stretch.StretchScript.took.Goals as goal

pub returns : goal.returns
returns g c =
    let told = g.D.File.FileStore.told in
    let bytes = g.D.File.FileStore.bytes in
    let old = c.args.self.now in
    let m = old.machine.now in
    let new = c.take_number.new.self in
    let files : Files = files_of (g.D.Disk.held old.disk.now) in
    let it = c.take_number.ensures in
    let same = ap (λ o. cond (g.D.Disk.told old.disk.now) o None) (run_same told bytes files m new it.rests.deck it.at it.state) in
    record {
      due = ap due_of it.hand;
      left = it.left;
      uses = refl;
      owed = it.owed;
      over = it.over;
      refused = it.refused;
      goes = it.goes;
      stops = λ s. sym it.stopped ∙ s;
      leads = record {
        same_out = refl;
        same_disk = refl;
        same_machine = refl;
        leaves = rests_leaves old.out.now old.disk.now m new it.rests;
        gives_up = given_up_told (g.W.Sink.tells old.out.now) (g.W.Sink.taken old.out.now) (g.W.Sink.taken old.out.now) (g.D.Disk.told old.disk.now) (run_of told bytes files m) m new
            (λ _. rests_give_up told bytes (g.W.Sink.tells old.out.now) (g.W.Sink.taken old.out.now) files m new (λ idle. subst (λ h. IsSubmitting (due_of h)) idle c.requires.submitting) it.rests);
        short = λ r e idle. absurd (subst (λ h. IsSubmitting (due_of h)) idle c.requires.submitting);
        asking = rests_ask old.disk.now m new it.rests (λ going over stop. c.requires.submitting);
        stays = λ over. absurd (not_both m.tally.over over (submitting_runs m.tally.hand m.tally.over m.tally.left m.tally.submits c.requires.submitting));
        reason = it.reason;
        keeps = it.keeps;
      };
      took = λ s e over. took_by c.args.number _ (same ∙ e);
    }

pub invariant_of-self : goal.invariant_of-self
invariant_of-self g c =
    let old = c.args.self.now in
    let m = old.machine.now in
    let new = c.take_number.new.self in
    let it = c.take_number.ensures in
    record {
      names = λ t. subst (λ ns. AreInUse ns (g.D.Disk.held old.disk.now).in_use) (sym it.rests.names) (old.names t);
      on = ∥∥₁_map old.on (λ f over. it.on (f (still_going m.tally.over new.tally.over it.over over)) over);
    }
