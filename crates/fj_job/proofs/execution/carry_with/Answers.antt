use denote.Exit.{no}
use denote.Param.Send.{param_send, arg_send}
use Rattle.std.proofs.Common.{sym, ap, ◌∙◌, refl}
use Rattle.fj_bay.specs.Meaning.{bay_meaning}
use Rattle.fj_bay.proofs.Sends.{job_sends}
use Rattle.fj_meaning.specs.Statement.{stated}
use Rattle.fj_meaning_turns.specs.Serving.{first_run, fresh_slots}
use Rattle.fj_run_units.specs.Files.{files_of}
use Rattle.fj_meaning_looks.proofs.Losing.{lost_at}
use Rattle.fj_run_end.proofs.Ended.{bays_full}
use Rattle.fj_job.proofs.Fresh.{few, owed, fresh_at, fit, sound_fresh}
use Rattle.fj_job.proofs.Leading.{leaves_same, but_deck, runner_rests}
use Rattle.fj_job.proofs.Sends.{runner_sends}
use Rattle.fj_job.proofs.Served.{showing, has_run}
use Rattle.fj_job.proofs.CutRuns.{run_cut}
use Rattle.fj_job.proofs.CutEnds.{has_ended}
use Rattle.fj_job.proofs.execution.carry_with.Goals as goal

pub serve_with-requires-send-S : goal.serve_with-requires-send-S
serve_with-requires-send-S g c κs within = param_send 0 _ (arg_send _ no _ (runner_sends _ _ _ _ _ _ _ _ _ c.type_bounds.send-W c.type_bounds.send-D c.type_bounds.send-D-File))

pub serve_with-requires-send-S-Gear-Job : goal.serve_with-requires-send-S-Gear-Job
serve_with-requires-send-S-Gear-Job g c κs within = param_send 3 _ (arg_send _ no _ (job_sends _ _ c.type_bounds.send-D-File))

pub serve_with-requires-clause-few : goal.serve_with-requires-clause-few
serve_with-requires-clause-few g c κs within = λ at l e.
    few (bay_meaning g.D.File.FileStore.told g.D.File.FileStore.bytes g.D.File.FileStore.count) c.args.slots.now c.requires.fresh c.args.machine.now.tally.left c.requires.begins.few at l e

pub serve_with-requires-clause-owed : goal.serve_with-requires-clause-owed
serve_with-requires-clause-owed g c κs within = λ at l _ e.
    owed (bay_meaning g.D.File.FileStore.told g.D.File.FileStore.bytes g.D.File.FileStore.count) c.args.slots.now c.requires.fresh c.args.machine.now.tally.owed.items c.requires.begins.owed at l e

pub serve_with-requires-clause-home : goal.serve_with-requires-clause-home
serve_with-requires-clause-home g c κs within = λ at l e.
    (fresh_at (bay_meaning g.D.File.FileStore.told g.D.File.FileStore.bytes g.D.File.FileStore.count) c.args.slots.now c.requires.fresh at l e).home

pub returns-clause-leaves : goal.returns-clause-leaves
returns-clause-leaves g c =
    let rests = runner_rests g.W.Sink.tells g.W.Sink.taken g.W.Sink.count g.D.Disk.tells g.D.Disk.count g.D.Disk.refusals (λ r. r.out.ghost_name) (λ r. r.disk.ghost_name) (λ r. r.machine.ghost_name) (λ r. r.out.now) (λ r. r.disk.now) (λ r. r.machine.now)
    _ (λ a b h. record { same_out = h.same_out; same_disk = h.same_disk; same_machine = h.same_machine; leaves = h.leaves }) _ c.serve_with.new.script c.serve_with.ensures.leads in
    let m = c.machine-1.given.1 (sym rests.same_machine) in
    let d = c.disk-1.given.1 (sym rests.same_disk) in
    let o = c.out-1.given.1 (sym rests.same_out) in
    rw (o, d, m) rests.leaves

pub returns-clause-names : goal.returns-clause-names
returns-clause-names g c = λ t.
    let rests = runner_rests g.W.Sink.tells g.W.Sink.taken g.W.Sink.count g.D.Disk.tells g.D.Disk.count g.D.Disk.refusals (λ r. r.out.ghost_name) (λ r. r.disk.ghost_name) (λ r. r.machine.ghost_name) (λ r. r.out.now) (λ r. r.disk.now) (λ r. r.machine.now)
    _ (λ a b h. record { same_out = h.same_out; same_disk = h.same_disk; same_machine = h.same_machine; leaves = h.leaves }) _ c.serve_with.new.script c.serve_with.ensures.leads in
    let m = c.machine-1.given.1 (sym rests.same_machine) in
    let d = c.disk-1.given.1 (sym rests.same_disk) in
    rw (d, m) (c.serve_with.new.script.names (rests.leaves.telling.0 t))

pub returns-clause-on : goal.returns-clause-on
returns-clause-on g c =
    let rests = runner_rests g.W.Sink.tells g.W.Sink.taken g.W.Sink.count g.D.Disk.tells g.D.Disk.count g.D.Disk.refusals (λ r. r.out.ghost_name) (λ r. r.disk.ghost_name) (λ r. r.machine.ghost_name) (λ r. r.out.now) (λ r. r.disk.now) (λ r. r.machine.now)
    _ (λ a b h. record { same_out = h.same_out; same_disk = h.same_disk; same_machine = h.same_machine; leaves = h.leaves }) _ c.serve_with.new.script c.serve_with.ensures.leads in
    let m = c.machine-1.given.1 (sym rests.same_machine) in
    rw m c.serve_with.new.script.on

pub returns-clause-ran : goal.returns-clause-ran
returns-clause-ran g c = λ t over.
    let rests = runner_rests g.W.Sink.tells g.W.Sink.taken g.W.Sink.count g.D.Disk.tells g.D.Disk.count g.D.Disk.refusals (λ r. r.out.ghost_name) (λ r. r.disk.ghost_name) (λ r. r.machine.ghost_name) (λ r. r.out.now) (λ r. r.disk.now) (λ r. r.machine.now)
    _ (λ a b h. record { same_out = h.same_out; same_disk = h.same_disk; same_machine = h.same_machine; leaves = h.leaves }) _ c.serve_with.new.script c.serve_with.ensures.leads in
    let m = c.machine-1.given.1 (sym rests.same_machine) in
    let d = c.disk-1.given.1 (sym rests.same_disk) in
    let meaning = bay_meaning g.D.File.FileStore.told g.D.File.FileStore.bytes g.D.File.FileStore.count in
    let old = c.args.machine.now in
    let files = files_of (g.D.Disk.held c.args.disk.now) in
    let known = showing (g.D.Disk.told c.args.disk.now) _ (first_run old.deck.variables (stated old.deck.statements) files) (c.tells_so.ensures t) (c.requires.begins.run files) in
    let alone = c.serve_with.ensures.alone (first_run old.deck.variables (stated old.deck.statements) files) fresh_slots known c.requires.begins.running (fit meaning c.args.slots.now c.requires.fresh) in
    rw (d, m) (has_run meaning _ g.D.File.FileStore.told g.D.File.FileStore.bytes old.deck files (files_of (g.D.Disk.held c.serve_with.new.script.disk.now)) c.serve_with.new.script.machine.now
    c.serve_with.new.slots c.serve_with.new.script (g.D.Disk.told c.serve_with.new.script.disk.now) alone (sym (ap (λ k. k.tally.over) m) ∙ over) refl)

pub serve_with-requires-clause-counted : goal.serve_with-requires-clause-counted
serve_with-requires-clause-counted g c κs within = λ at l e.
    (fresh_at (bay_meaning g.D.File.FileStore.told g.D.File.FileStore.bytes g.D.File.FileStore.count) c.args.slots.now c.requires.fresh at l e).sound.counted

pub serve_with-requires-clause-sound : goal.serve_with-requires-clause-sound
serve_with-requires-clause-sound g c κs within = λ some at l e s ts is jobs.
    sound_fresh (bay_meaning g.D.File.FileStore.told g.D.File.FileStore.bytes g.D.File.FileStore.count) c.args.slots.now c.requires.fresh at l e s ts is jobs

pub returns-clause-ended : goal.returns-clause-ended
returns-clause-ended g c = λ t over ending ends.
    let rests = runner_rests g.W.Sink.tells g.W.Sink.taken g.W.Sink.count g.D.Disk.tells g.D.Disk.count g.D.Disk.refusals (λ r. r.out.ghost_name) (λ r. r.disk.ghost_name) (λ r. r.machine.ghost_name) (λ r. r.out.now) (λ r. r.disk.now) (λ r. r.machine.now)
    _ (λ a b h. record { same_out = h.same_out; same_disk = h.same_disk; same_machine = h.same_machine; leaves = h.leaves }) _ c.serve_with.new.script c.serve_with.ensures.leads in
    let m = c.machine-1.given.1 (sym rests.same_machine) in
    let meaning = bay_meaning g.D.File.FileStore.told g.D.File.FileStore.bytes g.D.File.FileStore.count in
    let old = c.args.machine.now in
    let files = files_of (g.D.Disk.held c.args.disk.now) in
    let known = showing (g.D.Disk.told c.args.disk.now) _ (first_run old.deck.variables (stated old.deck.statements) files) (c.tells_so.ensures t) (c.requires.begins.run files) in
    let alone = c.serve_with.ensures.alone (first_run old.deck.variables (stated old.deck.statements) files) fresh_slots known c.requires.begins.running (fit meaning c.args.slots.now c.requires.fresh) in
    rw m (has_ended meaning _ g.D.File.FileStore.told g.D.File.FileStore.bytes old.deck files (files_of (g.D.Disk.held c.serve_with.new.script.disk.now)) c.serve_with.new.script.machine.now
    c.serve_with.new.slots c.serve_with.new.script (g.D.Disk.told c.serve_with.new.script.disk.now) alone (sym (ap (λ k. k.tally.over) m) ∙ over) refl rests.leaves.deck ending (sym (ap (λ k. k.state.ending) m) ∙ ends))

pub returns-clause-cut : goal.returns-clause-cut
returns-clause-cut g c = λ t sound over.
    let rests = runner_rests g.W.Sink.tells g.W.Sink.taken g.W.Sink.count g.D.Disk.tells g.D.Disk.count g.D.Disk.refusals (λ r. r.out.ghost_name) (λ r. r.disk.ghost_name) (λ r. r.machine.ghost_name) (λ r. r.out.now) (λ r. r.disk.now) (λ r. r.machine.now)
    _ (λ a b h. record { same_out = h.same_out; same_disk = h.same_disk; same_machine = h.same_machine; leaves = h.leaves }) _ c.serve_with.new.script c.serve_with.ensures.leads in
    let m = c.machine-1.given.1 (sym rests.same_machine) in
    let o = c.out-1.given.1 (sym rests.same_out) in
    let d = c.disk-1.given.1 (sym rests.same_disk) in
    let meaning = bay_meaning g.D.File.FileStore.told g.D.File.FileStore.bytes g.D.File.FileStore.count in
    let old = c.args.machine.now in
    let files = files_of (g.D.Disk.held c.args.disk.now) in
    let first = first_run old.deck.variables (stated old.deck.statements) files in
    let known = showing (g.D.Disk.told c.args.disk.now) _ first (c.tells_so.ensures t) (c.requires.begins.run files) in
    let alone = c.serve_with.ensures.alone first fresh_slots known c.requires.begins.running (fit meaning c.args.slots.now c.requires.fresh) in
    let lost = c.serve_with.ensures.gave_up first fresh_slots known c.requires.begins.running c.requires.begins.going (fit meaning c.args.slots.now c.requires.fresh) (sym (ap (λ k. k.tally.over) m) ∙ over) in
    rw (o, d, m) (run_cut meaning _ g.W.Sink.tells g.W.Sink.taken g.W.Sink.count g.D.Disk.tells g.D.Disk.count g.D.Disk.refusals g.D.Disk.told g.D.Disk.held g.D.File.FileStore.told g.D.File.FileStore.bytes
    (λ r. r.out.now) (λ r. r.disk.now) (λ r. r.machine.now) old.deck files c.args.out.now c.args.disk.now old (stated old.deck.statements)
    _ c.serve_with.new.script c.serve_with.new.slots (λ _. alone) (lost_at meaning _ first fresh_slots (stated old.deck.statements) _ _ _ lost)
    (record { over = λ a. refl; stopped = λ a. refl; state = λ a. refl; due = λ a. refl; leaves = λ a b h. h.leaves; gives_up = λ a b h. h.gives_up; asking = λ a b h. h.asking; stays = λ a b h. h.stays; reason = λ a b h. h.reason; keeps = λ a b h. h.keeps }) sound c.requires.begins
    (but_deck g.W.Sink.tells g.W.Sink.taken g.W.Sink.count g.D.Disk.tells g.D.Disk.count g.D.Disk.refusals _ _ _ _ _ _ (leaves_same g.W.Sink.tells g.W.Sink.taken g.W.Sink.count g.D.Disk.tells g.D.Disk.count g.D.Disk.refusals c.args.out.now c.args.disk.now old)) refl t
    (bays_full g.D.File.FileStore.told g.D.File.FileStore.bytes g.D.File.FileStore.count))
