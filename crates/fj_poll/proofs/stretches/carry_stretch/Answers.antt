use denote.Exit.{no}
use denote.Param.Send.{param_send, arg_send}
use Rattle.std.proofs.Common.{sym, ◌∙◌, refl}
use Rattle.fj_bay.specs.Meaning.{bay_meaning}
use Rattle.fj_bay.proofs.Sends.{job_sends}
use Rattle.fj_run_end.proofs.Ended.{bays_full}
use Rattle.fj_job.proofs.Leading.{runner_rests}
use Rattle.fj_job.proofs.Served.{showing}
use Rattle.fj_poll.proofs.Cuts.{has_come, told_by, not_stopped}
use Rattle.fj_poll.proofs.Sends.{stretch_sends}
use Rattle.fj_poll.proofs.stretches.carry_stretch.Goals as goal

pub serve_with-requires-send-S : goal.serve_with-requires-send-S
serve_with-requires-send-S g c κs within = param_send 0 _ (arg_send _ no _ (stretch_sends _ _ _ _ _ _ _ _ _ c.type_bounds.send-W c.type_bounds.send-D c.type_bounds.send-D-File))

pub serve_with-requires-send-S-Gear-Job : goal.serve_with-requires-send-S-Gear-Job
serve_with-requires-send-S-Gear-Job g c κs within = param_send 3 _ (arg_send _ no _ (job_sends _ _ c.type_bounds.send-D-File))

pub serve_with-requires-clause-few : goal.serve_with-requires-clause-few
serve_with-requires-clause-few g c κs within = λ at l e. c.requires.ready.few at l e

pub serve_with-requires-clause-owed : goal.serve_with-requires-clause-owed
serve_with-requires-clause-owed g c κs within = λ at l low e. c.requires.ready.owed at l low e

pub serve_with-requires-clause-home : goal.serve_with-requires-clause-home
serve_with-requires-clause-home g c κs within = λ at l e. c.requires.ready.home at l e

pub serve_with-requires-clause-counted : goal.serve_with-requires-clause-counted
serve_with-requires-clause-counted g c κs within = λ at l e. c.requires.ready.counted at l e

pub serve_with-requires-clause-sound : goal.serve_with-requires-clause-sound
serve_with-requires-clause-sound g c κs within = λ some at l e s ts is jobs. c.requires.sound (c.tells_so.ensures.0 (told_by (g.D.Disk.told c.args.disk.now) _ some)) at l e s ts is jobs

pub returns-clause-leaves : goal.returns-clause-leaves
returns-clause-leaves g c =
    let rests = runner_rests g.W.Sink.tells g.W.Sink.taken g.W.Sink.count g.D.Disk.tells g.D.Disk.count g.D.Disk.refusals (λ r. r.out.ghost_name) (λ r. r.disk.ghost_name) (λ r. r.machine.ghost_name) (λ r. r.out.now) (λ r. r.disk.now) (λ r. r.machine.now)
    _ (λ a b h. record { same_out = h.same_out; same_disk = h.same_disk; same_machine = h.same_machine; leaves = h.leaves }) _ c.serve_with.new.script c.serve_with.ensures.leads in
    let m = c.machine-1.given.1 (sym rests.same_machine) in
    let d = c.disk-1.given.1 (sym rests.same_disk) in
    let o = c.out-1.given.1 (sym rests.same_out) in
    rw (o, d, m) rests.leaves

pub returns-clause-names : goal.returns-clause-names
returns-clause-names g c = λ t.
    let rests = runner_rests g.W.Sink.tells g.W.Sink.taken g.W.Sink.count g.D.Disk.tells g.D.Disk.count g.D.Disk.refusals (λ r. r.out.ghost_name) (λ r. r.disk.ghost_name) (λ r. r.machine.ghost_name) (λ r. r.out.now) (λ r. r.disk.now) (λ r. r.machine.now)
    _ (λ a b h. record { same_out = h.same_out; same_disk = h.same_disk; same_machine = h.same_machine; leaves = h.leaves }) _ c.serve_with.new.script c.serve_with.ensures.leads in
    let m = c.machine-1.given.1 (sym rests.same_machine) in
    let d = c.disk-1.given.1 (sym rests.same_disk) in
    rw (d, m) (c.serve_with.new.script.names (rests.leaves.telling.0 t))

pub returns-clause-on : goal.returns-clause-on
returns-clause-on g c =
    let rests = runner_rests g.W.Sink.tells g.W.Sink.taken g.W.Sink.count g.D.Disk.tells g.D.Disk.count g.D.Disk.refusals (λ r. r.out.ghost_name) (λ r. r.disk.ghost_name) (λ r. r.machine.ghost_name) (λ r. r.out.now) (λ r. r.disk.now) (λ r. r.machine.now)
    _ (λ a b h. record { same_out = h.same_out; same_disk = h.same_disk; same_machine = h.same_machine; leaves = h.leaves }) _ c.serve_with.new.script c.serve_with.ensures.leads in
    let m = c.machine-1.given.1 (sym rests.same_machine) in
    rw m c.serve_with.new.script.on

pub returns-clause-ready : goal.returns-clause-ready
returns-clause-ready g c =
    let rests = runner_rests g.W.Sink.tells g.W.Sink.taken g.W.Sink.count g.D.Disk.tells g.D.Disk.count g.D.Disk.refusals (λ r. r.out.ghost_name) (λ r. r.disk.ghost_name) (λ r. r.machine.ghost_name) (λ r. r.out.now) (λ r. r.disk.now) (λ r. r.machine.now)
    _ (λ a b h. record { same_out = h.same_out; same_disk = h.same_disk; same_machine = h.same_machine; leaves = h.leaves }) _ c.serve_with.new.script c.serve_with.ensures.leads in
    let m = c.machine-1.given.1 (sym rests.same_machine) in
    rw m (record {
      idle = c.serve_with.ensures.again.idle;
      sixteen = c.serve_with.ensures.keeps.long ∙ c.requires.ready.sixteen;
      few = λ at l e. c.serve_with.ensures.again.few at l e;
      owed = λ at l low e. c.serve_with.ensures.owed at l low e;
      home = λ at l e. c.serve_with.ensures.home at l e;
      counted = λ at l e. c.serve_with.ensures.counted at l e;
    })

pub returns-clause-comes : goal.returns-clause-comes
returns-clause-comes g c = λ origin out0 disk0 m0 b.
    let rests = runner_rests g.W.Sink.tells g.W.Sink.taken g.W.Sink.count g.D.Disk.tells g.D.Disk.count g.D.Disk.refusals (λ r. r.out.ghost_name) (λ r. r.disk.ghost_name) (λ r. r.machine.ghost_name) (λ r. r.out.now) (λ r. r.disk.now) (λ r. r.machine.now)
    _ (λ a b h. record { same_out = h.same_out; same_disk = h.same_disk; same_machine = h.same_machine; leaves = h.leaves }) _ c.serve_with.new.script c.serve_with.ensures.leads in
    let m = c.machine-1.given.1 (sym rests.same_machine) in
    let o = c.out-1.given.1 (sym rests.same_out) in
    let d = c.disk-1.given.1 (sym rests.same_disk) in
    let meaning = bay_meaning g.D.File.FileStore.told g.D.File.FileStore.bytes g.D.File.FileStore.count in
    let old = c.args.machine.now in
    let known = showing (g.D.Disk.told c.args.disk.now) _ b.run (c.tells_so.ensures.1 (b.leaves.telling.0 b.on)) b.is in
    let running = not_stopped old.tally.stopped old.tally.over old.tally.stop b.going in
    rw (o, d, m) (has_come meaning _ g.W.Sink.tells g.W.Sink.taken g.W.Sink.count g.D.Disk.tells g.D.Disk.count g.D.Disk.refusals g.D.Disk.told g.D.Disk.held g.D.File.FileStore.told g.D.File.FileStore.bytes
    (λ r. r.out.now) (λ r. r.disk.now) (λ r. r.machine.now) origin out0 disk0 m0 _ c.serve_with.new.script c.args.slots.now c.serve_with.new.slots
    (record { over = λ a. refl; stopped = λ a. refl; state = λ a. refl; due = λ a. refl; leaves = λ a b h. h.leaves; gives_up = λ a b h. h.gives_up; asking = λ a b h. h.asking; stays = λ a b h. h.stays; reason = λ a b h. h.reason; keeps = λ a b h. h.keeps }) (λ a b h. h.short)
    c.serve_with.ensures.leads b (c.serve_with.ensures.alone b.run b.slots known running b.fit) (λ over. c.serve_with.ensures.gave_up b.run b.slots known running b.going b.fit over)
    (bays_full g.D.File.FileStore.told g.D.File.FileStore.bytes g.D.File.FileStore.count))
