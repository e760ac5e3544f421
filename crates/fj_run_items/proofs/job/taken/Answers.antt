use Rattle.std.proofs.Common.{◌≡◌, ◌∙◌, length, map, arith}
use Rattle.std.proofs.lemmas.List.{length-map}
use Rattle.std.proofs.lemmas.Result.{err_from_is_err_and}
use Rattle.fj_store.specs.Storage.{cell_at}
use Rattle.fj_run_items.specs.declared.lost.Lost.TheVariants.{Unfit}
use Rattle.fj_run_items.proofs.Finds.{not_passed, numbered, input_runs}
use Rattle.fj_store.specs.Places.{places_in}
use Rattle.fj_run_items.specs.Gathering.{all_items}
use Rattle.fj_run_items.proofs.Takes.{run_counted, run_low, run_taken, run_values, runs_size, taken_moved, taken_values}
use Rattle.fj_run_items.proofs.job.taken.Goals as goal

pub take_out-requires-2 : goal.take_out-requires-2
take_out-requires-2 c =
    let size : length (places_in c.as_slice.result.now) ≡ c.in_ok-gathered.gathered.size =
    runs_size c.args.variables.now (all_items c.args.t.now) c.in_ok-gathered.gathered c.in_ok-runs.runs c.as_slice.result.now c.in_ok-gathered.ensures.gathered c.in_ok-runs.ensures.runs c.as_slice.ensures in
    omega (arith, size)

pub returns-clause-moved : goal.returns-clause-moved
returns-clause-moved c =
    taken_moved c.args.variables.now c.args.store.now c.args.t.now c.in_ok-gathered.gathered c.in_ok-runs.runs c.as_slice.result.now c.in_ok-moved.moved c.requires c.in_ok-gathered.ensures.gathered c.in_ok-runs.ensures.runs c.as_slice.ensures
    c.in_ok-moved.ensures.moved

pub returns-clause-vars : goal.returns-clause-vars
returns-clause-vars c =
    taken_values c.args.variables.now c.args.store.now c.take_out-2.new.self c.args.t.now c.in_ok-gathered.gathered c.in_ok-runs.runs c.as_slice.result.now c.requires c.in_ok-gathered.ensures.gathered c.in_ok-runs.ensures.runs c.as_slice.ensures
    c.in_ok-moved.ensures.ok

pub returns-clause-numbered : goal.returns-clause-numbered
returns-clause-numbered c =
    let size : length (places_in c.as_slice.result.now) ≡ c.in_ok-gathered.gathered.size =
    runs_size c.args.variables.now (all_items c.args.t.now) c.in_ok-gathered.gathered c.in_ok-runs.runs c.as_slice.result.now c.in_ok-gathered.ensures.gathered c.in_ok-runs.ensures.runs c.as_slice.ensures in
    let mapped = length-map (places_in c.as_slice.result.now) (cell_at c.args.store.now) in
    numbered (map (cell_at c.args.store.now) (places_in c.as_slice.result.now)) c.in_ok-moved.moved c.in_ok-moved.ensures.moved (omega (arith, size, mapped))

pub returns-in_err-runs-clause-fits : goal.returns-in_err-runs-clause-fits
returns-in_err-runs-clause-fits c = λ is reads.
    let p = err_from_is_err_and c.from_residual-in_err-runs.result c.from_residual-in_err-runs.ensures.1 in
    let runs = input_runs c.args.variables.now c.args.t.now c.in_ok-gathered.gathered is reads c.in_ok-gathered.ensures.gathered in
    not_passed c.from_residual-in_err-runs.result c.in_err-runs.field-0.0 p.0 Unfit p.1 p.2 (c.in_err-runs.ensures.fits runs.0 runs.1)

-- ---- those of one run alone

pub take_out-requires : goal.take_out-requires
take_out-requires c = run_low c.in-Some.run' (omega arith)

pub returns-in-Some-clause-moved : goal.returns-in-Some-clause-moved
returns-in-Some-clause-moved c = c.in_ok-take_out.ensures.moved ∙ run_taken c.args.variables.now c.args.store.now c.args.t.now c.in-Some.run' c.requires c.in-Some.ensures

pub returns-in-Some-clause-vars : goal.returns-in-Some-clause-vars
returns-in-Some-clause-vars c = run_values c.args.variables.now c.args.store.now c.take_out.new.self c.args.t.now c.in-Some.run' c.requires c.in-Some.ensures c.in_ok-take_out.ensures.ok

pub returns-in-Some-clause-numbered : goal.returns-in-Some-clause-numbered
returns-in-Some-clause-numbered c = run_counted c.args.store.now c.in-Some.run' c.in_ok-take_out.field-0 c.in_ok-take_out.ensures.moved (omega arith)
