use Rattle.std.proofs.Common.{◌≡◌, false, None, OnOk, sym, subst}
use Rattle.std.specs.FinSet as set
use Rattle.fj_meaning_jobs.specs.Desking.{all_left}
use Rattle.fj_run_units.specs.Files.{files_of}
use Rattle.fj_run_end.specs.Closing.{AreAsDue, AreNamed, AreSeated, IfClear, names_left}
use Rattle.fj_run_end.specs.Finding.{AreSpared, IsFoundOf, OfEach}
use Rattle.fj_run_end.specs.Fitting.{HaveTheirOwn}
use Rattle.fj_run_end.proofs.Desking.{slot_runs, slots_each}
use Rattle.fj_run_end.proofs.Finding.{slots_leave}
use Rattle.fj_run_end.proofs.Holding.{units_own, others_run}
use Rattle.fj_run_end.proofs.completion.finish.Goals as goal

pub returns-clause-files : goal.returns-clause-files
returns-clause-files g c = λ tells fit desks holds seats.
    let all = c.what_remains-all.result.items in
    let own = subst (HaveTheirOwn g.D.File.FileStore.count c.args.names.now all) (sym c.as_slice.ensures.units) (units_own g.D.File.FileStore.told g.D.File.FileStore.bytes g.D.File.FileStore.count c.args.slots all c.what_remains-all.ensures.each c.args.names.now c.args.units.now fit) in
    subst (λ us. OnOk c.close_each.result (files_of (g.D.Disk.held c.close_each.new.disk) ≡ all_left desks us (files_of (g.D.Disk.held c.args.disk.now)))) c.as_slice.ensures.units
    (c.close_each.ensures.files tells own desks (c.what_remains-all.ensures.desks desks holds) (subst (AreSeated desks) (sym c.as_slice.ensures.units) seats))

pub returns-clause-due : goal.returns-clause-due
returns-clause-due g c = λ tells fit none desks holds seats named.
    let all = c.what_remains-all.result.items in
    let own = subst (HaveTheirOwn g.D.File.FileStore.count c.args.names.now all) (sym c.as_slice.ensures.units) (units_own g.D.File.FileStore.told g.D.File.FileStore.bytes g.D.File.FileStore.count c.args.slots all c.what_remains-all.ensures.each c.args.names.now c.args.units.now fit) in
    subst (λ us. AreAsDue (g.D.Disk.refusals c.args.disk.now) (g.D.Disk.refusals c.close_each.new.disk) (g.D.Disk.held c.close_each.new.disk) (all_left desks us (files_of (g.D.Disk.held c.args.disk.now)))) c.as_slice.ensures.units
    (c.close_each.ensures.due tells own none desks (c.what_remains-all.ensures.desks desks holds) (subst (AreSeated desks) (sym c.as_slice.ensures.units) seats)
    (subst (AreNamed desks) (sym c.as_slice.ensures.units) named))

pub returns-clause-running : goal.returns-clause-running
returns-clause-running g c = λ tells fit none.
    let all = c.what_remains-all.result.items in
    let own = subst (HaveTheirOwn g.D.File.FileStore.count c.args.names.now all) (sym c.as_slice.ensures.units) (units_own g.D.File.FileStore.told g.D.File.FileStore.bytes g.D.File.FileStore.count c.args.slots all c.what_remains-all.ensures.each c.args.names.now c.args.units.now fit) in
    slots_each g.D.File.FileStore.told g.D.File.FileStore.bytes g.D.File.FileStore.count c.args.slots.slots all c.what_remains-all.ensures.each
    (λ u it. set.contains (g.D.Disk.held c.close_each.new.disk).hurt u.name ≡ false → it.stop ≡ None) (λ u l. set.contains (g.D.Disk.held c.close_each.new.disk).hurt u.name ≡ false → l.halt ≡ None)
    (λ u l it is running clear. slot_runs g.D.File.FileStore.told g.D.File.FileStore.bytes g.D.File.FileStore.count l it is (running clear)) c.args.units.now
    (subst (λ us. IfClear (g.D.Disk.held c.close_each.new.disk) us all (λ it. it.stop ≡ None)) c.as_slice.ensures.units (c.close_each.ensures.running tells own none))

pub returns-clause-found : goal.returns-clause-found
returns-clause-found g c = λ tells fit.
    let all = c.what_remains-all.result.items in
    let own = subst (HaveTheirOwn g.D.File.FileStore.count c.args.names.now all) (sym c.as_slice.ensures.units) (units_own g.D.File.FileStore.told g.D.File.FileStore.bytes g.D.File.FileStore.count c.args.slots all c.what_remains-all.ensures.each c.args.names.now c.args.units.now fit) in
    slots_leave g.D.File.FileStore.told g.D.File.FileStore.bytes g.D.File.FileStore.count c.args.slots.slots all c.what_remains-all.ensures.each (files_of (g.D.Disk.held c.close_each.new.disk)) (g.D.Disk.refusals c.args.disk.now) (g.D.Disk.refusals c.close_each.new.disk) c.args.units.now
    (subst (λ us. OfEach us all (λ u it. IsFoundOf g.D.File.FileStore.told g.D.File.FileStore.bytes it u.name (files_of (g.D.Disk.held c.close_each.new.disk) u.name) (g.D.Disk.refusals c.args.disk.now) (g.D.Disk.refusals c.close_each.new.disk))) c.as_slice.ensures.units
    (c.close_each.ensures.found tells own))

pub returns-clause-spared : goal.returns-clause-spared
returns-clause-spared g c = λ tells fit.
    let all = c.what_remains-all.result.items in
    let own = subst (HaveTheirOwn g.D.File.FileStore.count c.args.names.now all) (sym c.as_slice.ensures.units) (units_own g.D.File.FileStore.told g.D.File.FileStore.bytes g.D.File.FileStore.count c.args.slots all c.what_remains-all.ensures.each c.args.names.now c.args.units.now fit) in
    subst (λ us. AreSpared us (g.D.Disk.held c.args.disk.now) (g.D.Disk.held c.close_each.new.disk)) c.as_slice.ensures.units (c.close_each.ensures.spared tells own)

pub returns-clause-off : goal.returns-clause-off
returns-clause-off g c = λ fit.
    let all = c.what_remains-all.result.items in
    let own = subst (HaveTheirOwn g.D.File.FileStore.count c.args.names.now all) (sym c.as_slice.ensures.units) (units_own g.D.File.FileStore.told g.D.File.FileStore.bytes g.D.File.FileStore.count c.args.slots all c.what_remains-all.ensures.each c.args.names.now c.args.units.now fit) in
    subst (λ us. c.close_each.new.names ≡ names_left us c.args.names.now) c.as_slice.ensures.units (c.close_each.ensures.off own)

pub returns-clause-others : goal.returns-clause-others
returns-clause-others g c = λ fit. others_run g.D.File.FileStore.told g.D.File.FileStore.bytes g.D.File.FileStore.count c.args.slots c.args.units.now fit.held

pub returns-clause-remains : goal.returns-clause-remains
returns-clause-remains g c = record { all = c.what_remains-all.result.items; each = c.what_remains-all.ensures.each; memory = c.close_each.ensures.memory }
