use Rattle.std.proofs.Common.{◌≡◌, ◌-◌, List, length, map, take, drop, None, OnOk, sym, ap, ◌∙◌, subst}
use Rattle.fj_meaning_jobs.specs.Desking.{all_left}
use Rattle.fj_run_units.specs.Files.{files_of}
use Rattle.fj_run_units.specs.Units.{connected_of}
use Rattle.fj_run_end.specs.Closing.{AreSeated, AreNamed, AreAsDue, IfClear, names_left}
use Rattle.fj_run_end.specs.Finding.{IsFoundOf, OfEach, AreSpared}
use Rattle.fj_run_end.specs.Fitting.{HaveTheirOwn}
use Rattle.fj_run_end.proofs.Returning.{both_tell, either_lacks}
use Rattle.fj_run_end.proofs.Each.{parted, own_then, desks_rest, lack_rest, spared_each, due_each, clear_each, found_each, files_each}
use Rattle.fj_run_end.proofs.closing.+close_each.Goals as goal

pub returns-clause-off : goal.returns-clause-off
returns-clause-off g t c = λ own.
    let each = parted connected_of c.args.units.now c.unit-item.result c.in-len1-up.len_at_least c.unit-item.is in
    let u = connected_of c.unit-item.result in
    let us = map connected_of (take (length c.args.units.now - 1) (drop 1 c.args.units.now)) in
    let has = subst (HaveTheirOwn g.D.File.FileStore.count c.args.names.now c.args.all.now.items) each own in
    let rest = own_then c.args.all.now.items c.close_unit-first.new.all.items g.D.File.FileStore.count c.args.names.now c.close_unit-first.new.names u us c.close_unit-first.ensures.others has c.close_unit-first.ensures.off in
    subst (λ (xs : List _). c.close_each-then.new.names ≡ names_left xs c.args.names.now) (sym each)
    (c.close_each-then.ensures.off rest ∙ ap (names_left us) (c.close_unit-first.ensures.off has.0))

pub returns-clause-spared : goal.returns-clause-spared
returns-clause-spared g t c = λ tells own.
    let each = parted connected_of c.args.units.now c.unit-item.result c.in-len1-up.len_at_least c.unit-item.is in
    let u = connected_of c.unit-item.result in
    let us = map connected_of (take (length c.args.units.now - 1) (drop 1 c.args.units.now)) in
    let has = subst (HaveTheirOwn g.D.File.FileStore.count c.args.names.now c.args.all.now.items) each own in
    let rest = own_then c.args.all.now.items c.close_unit-first.new.all.items g.D.File.FileStore.count c.args.names.now c.close_unit-first.new.names u us c.close_unit-first.ensures.others has c.close_unit-first.ensures.off in
    let still = c.close_unit-first.ensures.telling.0 tells in
    subst (λ xs. AreSpared xs (g.D.Disk.held c.args.disk.now) (g.D.Disk.held c.close_each-then.new.disk)) (sym each)
    (spared_each u us (g.D.Disk.held c.args.disk.now) (g.D.Disk.held c.close_unit-first.new.disk) (g.D.Disk.held c.close_each-then.new.disk) (c.close_unit-first.ensures.spared tells has.0)
    (c.close_each-then.ensures.spared still rest))

pub returns-clause-files : goal.returns-clause-files
returns-clause-files g t c = λ tells own desks are seats.
    let each = parted connected_of c.args.units.now c.unit-item.result c.in-len1-up.len_at_least c.unit-item.is in
    let u = connected_of c.unit-item.result in
    let us = map connected_of (take (length c.args.units.now - 1) (drop 1 c.args.units.now)) in
    let has = subst (HaveTheirOwn g.D.File.FileStore.count c.args.names.now c.args.all.now.items) each own in
    let rest = own_then c.args.all.now.items c.close_unit-first.new.all.items g.D.File.FileStore.count c.args.names.now c.close_unit-first.new.names u us c.close_unit-first.ensures.others has c.close_unit-first.ensures.off in
    let still = c.close_unit-first.ensures.telling.0 tells in
    subst (λ xs. OnOk c.after.result (files_of (g.D.Disk.held c.close_each-then.new.disk) ≡ all_left desks xs (files_of (g.D.Disk.held c.args.disk.now)))) (sym each)
    (files_each u us desks (files_of (g.D.Disk.held c.args.disk.now)) (files_of (g.D.Disk.held c.close_unit-first.new.disk)) (files_of (g.D.Disk.held c.close_each-then.new.disk))
    c.close_unit-first.result c.close_each-then.result c.after.result c.after.ensures (subst (AreSeated desks) each seats)
    (λ d e. c.close_unit-first.ensures.files tells has.0 desks d are e)
    (c.close_each-then.ensures.files still rest desks
    (desks_rest c.args.all.now.items c.close_unit-first.new.all.items u.slot c.close_unit-first.ensures.others c.close_unit-first.ensures.gone g.D.File.FileStore.told g.D.File.FileStore.bytes desks are)
    (subst (AreSeated desks) each seats).1))

pub returns-clause-due : goal.returns-clause-due
returns-clause-due g t c = λ tells own none desks are seats named.
    let each = parted connected_of c.args.units.now c.unit-item.result c.in-len1-up.len_at_least c.unit-item.is in
    let u = connected_of c.unit-item.result in
    let us = map connected_of (take (length c.args.units.now - 1) (drop 1 c.args.units.now)) in
    let has = subst (HaveTheirOwn g.D.File.FileStore.count c.args.names.now c.args.all.now.items) each own in
    let rest = own_then c.args.all.now.items c.close_unit-first.new.all.items g.D.File.FileStore.count c.args.names.now c.close_unit-first.new.names u us c.close_unit-first.ensures.others has c.close_unit-first.ensures.off in
    let still = c.close_unit-first.ensures.telling.0 tells in
    let told = both_tell c.close_unit-first.result c.close_each-then.result c.after.result c.after.ensures none in
    subst (λ xs. AreAsDue (g.D.Disk.refusals c.args.disk.now) (g.D.Disk.refusals c.close_each-then.new.disk) (g.D.Disk.held c.close_each-then.new.disk) (all_left desks xs (files_of (g.D.Disk.held c.args.disk.now)))) (sym each)
    (due_each u us desks (g.D.Disk.held c.args.disk.now) (g.D.Disk.held c.close_unit-first.new.disk) (g.D.Disk.held c.close_each-then.new.disk)
    (g.D.Disk.refusals c.args.disk.now) (g.D.Disk.refusals c.close_unit-first.new.disk) (g.D.Disk.refusals c.close_each-then.new.disk)
    (c.close_unit-first.ensures.own tells) (c.close_each-then.ensures.own still) has.2 (c.close_each-then.ensures.spared still rest) (subst (AreSeated desks) each seats) (subst (AreNamed desks) each named)
    (λ d e n. c.close_unit-first.ensures.due tells has.0 told.0 desks d are e n)
    (c.close_each-then.ensures.due still rest told.1 desks
    (desks_rest c.args.all.now.items c.close_unit-first.new.all.items u.slot c.close_unit-first.ensures.others c.close_unit-first.ensures.gone g.D.File.FileStore.told g.D.File.FileStore.bytes desks are)
    (subst (AreSeated desks) each seats).1 (subst (AreNamed desks) each named).1))

pub returns-clause-running : goal.returns-clause-running
returns-clause-running g t c = λ tells own none.
    let each = parted connected_of c.args.units.now c.unit-item.result c.in-len1-up.len_at_least c.unit-item.is in
    let u = connected_of c.unit-item.result in
    let us = map connected_of (take (length c.args.units.now - 1) (drop 1 c.args.units.now)) in
    let has = subst (HaveTheirOwn g.D.File.FileStore.count c.args.names.now c.args.all.now.items) each own in
    let rest = own_then c.args.all.now.items c.close_unit-first.new.all.items g.D.File.FileStore.count c.args.names.now c.close_unit-first.new.names u us c.close_unit-first.ensures.others has c.close_unit-first.ensures.off in
    let still = c.close_unit-first.ensures.telling.0 tells in
    let told = both_tell c.close_unit-first.result c.close_each-then.result c.after.result c.after.ensures none in
    subst (λ xs. IfClear (g.D.Disk.held c.close_each-then.new.disk) xs c.args.all.now.items (λ it. it.stop ≡ None)) (sym each)
    (clear_each c.args.all.now.items c.close_unit-first.new.all.items u us c.close_unit-first.ensures.others has.1 has.2 (g.D.Disk.held c.close_unit-first.new.disk) (g.D.Disk.held c.close_each-then.new.disk)
    (c.close_each-then.ensures.spared still rest) (λ it. it.stop ≡ None) (c.close_unit-first.ensures.running tells has.0 told.0) (c.close_each-then.ensures.running still rest told.1))

pub returns-clause-found : goal.returns-clause-found
returns-clause-found g t c = λ tells own.
    let each = parted connected_of c.args.units.now c.unit-item.result c.in-len1-up.len_at_least c.unit-item.is in
    let u = connected_of c.unit-item.result in
    let us = map connected_of (take (length c.args.units.now - 1) (drop 1 c.args.units.now)) in
    let has = subst (HaveTheirOwn g.D.File.FileStore.count c.args.names.now c.args.all.now.items) each own in
    let rest = own_then c.args.all.now.items c.close_unit-first.new.all.items g.D.File.FileStore.count c.args.names.now c.close_unit-first.new.names u us c.close_unit-first.ensures.others has c.close_unit-first.ensures.off in
    let still = c.close_unit-first.ensures.telling.0 tells in
    subst (λ xs. OfEach xs c.args.all.now.items (λ v it. IsFoundOf g.D.File.FileStore.told g.D.File.FileStore.bytes it v.name (files_of (g.D.Disk.held c.close_each-then.new.disk) v.name)
    (g.D.Disk.refusals c.args.disk.now) (g.D.Disk.refusals c.close_each-then.new.disk))) (sym each)
    (found_each c.args.all.now.items c.close_unit-first.new.all.items u us c.close_unit-first.ensures.others has.1 has.2 (g.D.Disk.held c.close_unit-first.new.disk) (g.D.Disk.held c.close_each-then.new.disk)
    (c.close_each-then.ensures.spared still rest) g.D.File.FileStore.told g.D.File.FileStore.bytes (g.D.Disk.refusals c.args.disk.now) (g.D.Disk.refusals c.close_unit-first.new.disk) (g.D.Disk.refusals c.close_each-then.new.disk)
    (c.close_unit-first.ensures.own tells) (c.close_each-then.ensures.own still) (c.close_unit-first.ensures.found tells has.0) (c.close_each-then.ensures.found still rest))

pub returns-clause-memory : goal.returns-clause-memory
returns-clause-memory g t c =
    either_lacks c.close_unit-first.result c.close_each-then.result c.after.result c.after.ensures c.close_unit-first.ensures.memory
    (λ e. lack_rest c.args.all.now.items c.close_unit-first.new.all.items c.unit-item.result.slot c.close_unit-first.ensures.others c.close_unit-first.ensures.gone (c.close_each-then.ensures.memory e))
