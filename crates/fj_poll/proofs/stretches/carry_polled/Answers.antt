use Rattle.std.proofs.Common.{None, IsSome, slice_get, refl, sym, ap, ◌∙◌, subst}
use Rattle.std.proofs.Math.Logic.{∥∥₁_map}
use Rattle.std.proofs.lemmas.Grind.{merely}
use Rattle.fj_meaning.specs.State.{Files}
use Rattle.fj_meaning.specs.Statement.{stated}
use Rattle.fj_bay.specs.Meaning.{bay_meaning}
use Rattle.fj_crew.proofs.Planning.{fitting_sound}
use Rattle.fj_meaning_looks.specs.Inquiring.{Question}
use Rattle.fj_run_units.specs.Files.{files_of}
use Rattle.fj_run_script.specs.Going.{IsGoing}
use Rattle.fj_run_script.specs.Looking.{HasLooked, question_in}
use Rattle.fj_run_script.proofs.NextAsks.{some_same}
use Rattle.fj_job.proofs.Fresh.{fit}
use Rattle.fj_poll.proofs.UnderWay.{first_way, far, sound_still, put_still, looked_way, none_then, before_then, ran_then, ended_then, cut_then, looks_fall}
use Rattle.fj_poll.proofs.stretches.carry_polled.Goals as goal

pub stretches-init : goal.stretches-init
stretches-init g c = record {
  way = first_way g.W.Sink.tells g.W.Sink.taken g.W.Sink.count g.D.Disk.tells g.D.Disk.held g.D.Disk.count g.D.Disk.refusals g.D.File.FileStore.told g.D.File.FileStore.bytes
      (bay_meaning g.D.File.FileStore.told g.D.File.FileStore.bytes g.D.File.FileStore.count) c.args.out.now c.args.disk.now c.args.machine.now c.args.slots.now c.requires.begins c.requires.looks c.requires.fresh
      (fit (bay_meaning g.D.File.FileStore.told g.D.File.FileStore.bytes g.D.File.FileStore.count) c.args.slots.now c.requires.fresh);
  names = c.requires.names;
  on = merely (λ over. c.requires.begins.on);
}

pub carry_stretch-requires-clause-ready : goal.carry_stretch-requires-clause-ready
carry_stretch-requires-clause-ready g c κs within = c.stretches.invariant.way.ready

pub carry_stretch-requires-clause-sound : goal.carry_stretch-requires-clause-sound
carry_stretch-requires-clause-sound g c κs within = λ told at l e s ts is jobs.
    let u = c.stretches.invariant.way in
    let t = u.leaves.telling.1 told in
    fitting_sound (bay_meaning g.D.File.FileStore.told g.D.File.FileStore.bytes g.D.File.FileStore.count) (u.way t).here.slots c.stretches.slots (u.way t).here.fit at l e s ts is jobs

pub returns-in-None : goal.returns-in-None
returns-in-None g c =
    let u = c.stretches.invariant.way in
    let it = c.carry_stretch.ensures in
    let m1 = c.carry_stretch.new.machine in
    let tells_out = g.W.Sink.tells in let taken = g.W.Sink.taken in let count_out = g.W.Sink.count in
    let tells = g.D.Disk.tells in let held = g.D.Disk.held in let count = g.D.Disk.count in let refusals = g.D.Disk.refusals in
    let told = g.D.File.FileStore.told in let bytes = g.D.File.FileStore.bytes in
    let meaning = bay_meaning g.D.File.FileStore.told g.D.File.FileStore.bytes g.D.File.FileStore.count in
    let come = λ (t : g.D.Disk.tells c.args.disk.now). it.comes (stated c.args.machine.now.deck.statements) c.args.out.now c.args.disk.now c.args.machine.now (u.way t).here in
    let none = sym (c.in-None.ensures.question (files_of (g.D.Disk.held c.carry_stretch.new.disk))) in
    rw c.inquired.ensures.same (record {
      names = λ t. it.names (u.leaves.telling.0 t);
      on = it.on;
      carried = record {
        home = it.ready.home;
        same = it.ready.sixteen ∙ sym c.requires.fresh.sixteen;
        leaves = far tells_out taken count_out tells held count refusals told bytes meaning _ _ _ _ _ _ _ u _ _ _ c.carry_stretch.new.slots it.leaves;
        sound = sound_still tells_out taken count_out tells held count refusals told bytes meaning _ _ _ _ _ _ _ u _ _ _ c.carry_stretch.new.slots it.leaves;
        put = put_still tells_out taken count_out tells held count refusals told bytes meaning _ _ _ _ _ _ _ u _ _ _ c.carry_stretch.new.slots it.leaves;
        none = none_then tells_out taken count_out tells held count refusals told bytes meaning _ _ _ _ _ _ _ u _ _ _ c.carry_stretch.new.slots it.leaves come none;
        none_before = before_then tells_out taken count_out tells held count refusals told bytes meaning _ _ _ _ _ _ _ u _ _ _ c.carry_stretch.new.slots it.leaves come none;
        ran = ran_then tells_out taken count_out tells held count refusals told bytes meaning _ _ _ _ _ _ _ u _ _ _ c.carry_stretch.new.slots it.leaves come none;
        cut = cut_then tells_out taken count_out tells held count refusals told bytes meaning _ _ _ _ _ _ _ u _ _ _ c.carry_stretch.new.slots it.leaves come none;
        ended = ended_then tells_out taken count_out tells held count refusals told bytes meaning _ _ _ _ _ _ _ u _ _ _ c.carry_stretch.new.slots it.leaves come none;
      };
    })

pub looked-requires : goal.looked-requires
looked-requires g c = λ files. subst (λ o. IsSome o) (c.in-Some.ensures.question files ∙ ap (question_in files) (sym c.inquired.ensures.same)) refl

pub stretches-preserved : goal.stretches-preserved
stretches-preserved g c =
    let u = c.stretches.invariant.way in
    let it = c.carry_stretch.ensures in
    let no_files : Files = λ name. None in
    let told = g.D.File.FileStore.told in let bytes = g.D.File.FileStore.bytes in
    let h = subst (λ m. HasLooked told bytes c.done_at-done.result m c.looked.new.self) c.inquired.ensures.same c.looked.ensures.looks in
    let asked = some_same _ _ (c.in-Some.ensures.question no_files ∙ h.is no_files) in
    record {
      way = looked_way g.W.Sink.tells g.W.Sink.taken g.W.Sink.count g.D.Disk.tells g.D.Disk.held g.D.Disk.count g.D.Disk.refusals told bytes (bay_meaning g.D.File.FileStore.told g.D.File.FileStore.bytes g.D.File.FileStore.count)
          _ _ _ _ _ _ _ u _ _ _ c.carry_stretch.new.slots it.leaves it.ready c.looked.new.self c.done_at-done.result h
          (λ l e. c.done_at-done.ensures.some l (ap (λ (q : Question). slice_get c.carry_stretch.new.slots.slots q.slot) asked ∙ e))
          (λ e. c.done_at-done.ensures.none (ap (λ (q : Question). slice_get c.carry_stretch.new.slots.slots q.slot) asked ∙ e))
          (λ t. it.comes (stated c.args.machine.now.deck.statements) c.args.out.now c.args.disk.now c.args.machine.now (u.way t).here);
      names = λ t. rw h.state (it.names (it.leaves.telling.1 t));
      on = ∥∥₁_map it.on (λ f over. c.looked.ensures.on (subst IsGoing (sym c.inquired.ensures.same) (f (sym (ap (λ k. k.over) h.tally) ∙ over))));
    }

pub stretches-smaller : goal.stretches-smaller
stretches-smaller g c =
    let told = g.D.File.FileStore.told in let bytes = g.D.File.FileStore.bytes in
    let h = subst (λ m. HasLooked told bytes c.done_at-done.result m c.looked.new.self) c.inquired.ensures.same c.looked.ensures.looks in
    looks_fall told bytes c.done_at-done.result c.stretches.machine c.carry_stretch.new.machine c.looked.new.self c.carry_stretch.ensures.leaves.deck h
