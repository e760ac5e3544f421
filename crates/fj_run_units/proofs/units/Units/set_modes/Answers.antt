use Rattle.std.proofs.Common.{◌≡◌, List, map, refl, sym, ap, ◌∙◌, subst, ◌<◌, length}
use Rattle.std.specs.Prelude.{HoldsAt}
use Rattle.fj_meaning_jobs.specs.Core.{Connected as PlainConnected, connected_at}
use Rattle.fj_run_units.specs.Having.{HaveFiles}
use Rattle.fj_run_units.specs.Units.{connected_of, with_modes}
use Rattle.fj_run_units.specs.declared.connected.Connected.{Connected}
use Rattle.fj_run_units.proofs.Having.{have_changed}
use Rattle.fj_run_units.proofs.UnitLemmas.{modes_set}
use Rattle.fj_run_units.proofs.units.Units.set_modes.Goals as goal

pub invariant_of-self : goal.invariant_of-self
invariant_of-self c =
    let xs : List Connected = c.self.inside.list.items in
    let at_place : (c.in-Some.at < length xs) × HoldsAt (λ (u : Connected). u.number ≡ c.args.number) xs c.in-Some.at = rw (sym c.deref.ensures.value) c.in-Some.ensures.some in
    (modes_set xs c.in-Some.at c.args.number c.args.modes c.index_mut.result.now _ refl at_place.0 c.index_mut.ensures.value at_place.1 c.self.invariant).1

pub returns-in-Some-clause-modes : goal.returns-in-Some-clause-modes
returns-in-Some-clause-modes c =
    let xs : List Connected = c.self.inside.list.items in
    let at_place : (c.in-Some.at < length xs) × HoldsAt (λ (u : Connected). u.number ≡ c.args.number) xs c.in-Some.at = rw (sym c.deref.ensures.value) c.in-Some.ensures.some in
    (modes_set xs c.in-Some.at c.args.number c.args.modes c.index_mut.result.now _ refl at_place.0 c.index_mut.ensures.value at_place.1 c.self.invariant).0
    ∙ ap (λ us. with_modes us (connected_at us c.args.number) c.args.modes) c.self.view_is

pub returns-in-Some-clause-files : goal.returns-in-Some-clause-files
returns-in-Some-clause-files c = λ names have.
    let xs : List Connected = c.self.inside.list.items in
    let us : List PlainConnected = map connected_of xs in
    let at_place : (c.in-Some.at < length xs) × HoldsAt (λ (u : Connected). u.number ≡ c.args.number) xs c.in-Some.at = rw (sym c.deref.ensures.value) c.in-Some.ensures.some in
    subst (HaveFiles names) (sym (modes_set xs c.in-Some.at c.args.number c.args.modes c.index_mut.result.now _ refl at_place.0 c.index_mut.ensures.value at_place.1 c.self.invariant).0)
    (have_changed names us c.args.number c.args.modes c.self.invariant.numbers (subst (HaveFiles names) (sym c.self.view_is) have))
