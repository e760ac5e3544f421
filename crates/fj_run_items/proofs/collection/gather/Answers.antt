use Rattle.std.proofs.Common.{◌≡◌, ◌∙◌, [], refl, sym, ap}
use Rattle.std.specs.List.{flat_map}
use Rattle.std.proofs.lemmas.Result.{err_from_is_err_and}
use Rattle.fj_meaning.specs.Items.{places_of}
use Rattle.fj_meaning.specs.Needs.{group_places}
use Rattle.fj_run_items.specs.Gathering.{members_in}
use Rattle.fj_run_items.specs.declared.lost.Lost.TheVariants.{Unfit}
use Rattle.fj_run_items.proofs.Finds.{not_passed, items_found, group_found}
use Rattle.fj_run_items.proofs.Gathers.{none_yet, no_members, group_members}
use Rattle.fj_run_items.proofs.collection.gather.Goals as goal

pub returns-in-Unformatted-clause-gathered : goal.returns-in-Unformatted-clause-gathered
returns-in-Unformatted-clause-gathered c =
    no_members c.args.variables.now c.args.t.now c.add_items.new.gathered c.as_slice.result.now (ap members_in c.in-Unformatted.is) c.as_slice.ensures
    (c.in_ok-add_items.ensures.more [] (none_yet c.args.variables.now _ c.new.ensures.items refl))

pub returns-in-Explicit-clause-gathered : goal.returns-in-Explicit-clause-gathered
returns-in-Explicit-clause-gathered c =
    no_members c.args.variables.now c.args.t.now c.add_items.new.gathered c.as_slice.result.now (ap members_in c.in-Explicit.is) c.as_slice.ensures
    (c.in_ok-add_items.ensures.more [] (none_yet c.args.variables.now _ c.new.ensures.items refl))

pub returns-in-Listed-clause-gathered : goal.returns-in-Listed-clause-gathered
returns-in-Listed-clause-gathered c =
    no_members c.args.variables.now c.args.t.now c.add_items.new.gathered c.as_slice.result.now (ap members_in c.in-Listed.is) c.as_slice.ensures
    (c.in_ok-add_items.ensures.more [] (none_yet c.args.variables.now _ c.new.ensures.items refl))

pub returns-in_ok-add_members-in-Group-clause-gathered : goal.returns-in_ok-add_members-in-Group-clause-gathered
returns-in_ok-add_members-in-Group-clause-gathered c =
    group_members c.args.variables.now c.args.t.now c.add_members.new.gathered c.as_slice.result.now c.as_slice-in-Group.result.now c.in-Group.vars (ap members_in c.in-Group.is) c.as_slice.ensures c.as_slice-in-Group.ensures
    (c.in_ok-add_members-in-Group.ensures.more c.as_slice.result.now (c.in_ok-add_items.ensures.more [] (none_yet c.args.variables.now _ c.new.ensures.items refl)))

pub returns-in_err-add_items-clause-fits : goal.returns-in_err-add_items-clause-fits
returns-in_err-add_items-clause-fits c = λ is.
    let p = err_from_is_err_and c.from_residual.result c.from_residual.ensures.1 in
    let found = items_found c.args.variables.now c.args.t.now c.as_slice.result.now 0 is c.as_slice.ensures refl in
    not_passed c.from_residual.result c.in_err-add_items.field-0.0 p.0 Unfit p.1 p.2 (c.in_err-add_items.ensures.fits found)

pub returns-in_err-add_members-in-Group-clause-fits : goal.returns-in_err-add_members-in-Group-clause-fits
returns-in_err-add_members-in-Group-clause-fits c = λ is.
    let p = err_from_is_err_and c.from_residual-in_err-add_members-in-Group.result c.from_residual-in_err-add_members-in-Group.ensures.1 in
    let group : group_places c.args.variables.now c.args.t.now.control ≡ flat_map (places_of c.args.variables.now) c.as_slice-in-Group.result.now =
    ap (group_places c.args.variables.now) c.in-Group.is ∙ ap (flat_map (places_of c.args.variables.now)) (sym c.as_slice-in-Group.ensures) in
    let found = group_found c.args.variables.now c.args.t.now c.as_slice.result.now c.as_slice-in-Group.result.now c.add_items.new.gathered.size is c.as_slice.ensures group c.in_ok-add_items.ensures.size in
    not_passed c.from_residual-in_err-add_members-in-Group.result c.in_err-add_members-in-Group.field-0.0 p.0 Unfit p.1 p.2 (c.in_err-add_members-in-Group.ensures.fits found)
