use Rattle.std.proofs.Common.{◌≡◌, List, map, rules, not, Some, sym, ap, ◌∙◌, subst}
use Rattle.std.specs.Prelude.{◌==◌}
use Rattle.std.proofs.lemmas.Fn.{filter_same}
use Rattle.fj_meaning_jobs.specs.Core.{Connected as PlainConnected, connected_at, without_connected}
use Rattle.fj_run_units.specs.Having.{HaveFiles}
use Rattle.fj_run_units.specs.Names.{left_of}
use Rattle.fj_run_units.specs.Units.{connected_of}
use Rattle.fj_run_units.proofs.Having.{have_left}
use Rattle.fj_run_units.proofs.UnitLemmas.{left_is, left_apart}
use Rattle.fj_run_units.proofs.units.Units.remove.Goals as goal

pub invariant_of-self : goal.invariant_of-self
invariant_of-self c =
    left_apart c.args.number c.self.inside.list.items c.retain.new.self.items (filter_same _ (λ u. not (u.number == c.args.number)) _ (λ x b f' k. search rules) _ _ c.retain.ensures.filtered) c.self.invariant

pub returns-clause-left : goal.returns-clause-left
returns-clause-left c =
    left_is c.args.number c.self.inside.list.items c.retain.new.self.items (filter_same _ (λ u. not (u.number == c.args.number)) _ (λ x b f' k. search rules) _ _ c.retain.ensures.filtered)
    ∙ ap (without_connected c.args.number) c.self.view_is

pub returns-clause-files : goal.returns-clause-files
returns-clause-files c = λ names u found have.
    let us : List PlainConnected = map connected_of c.self.inside.list.items in
    let left : map connected_of c.retain.new.self.items ≡ without_connected c.args.number us =
    left_is c.args.number c.self.inside.list.items c.retain.new.self.items (filter_same _ (λ u. not (u.number == c.args.number)) _ (λ x b f' k. search rules) _ _ c.retain.ensures.filtered) in
    let P : List PlainConnected → Type 0 = λ vs. HaveFiles (left_of names u.name) vs in
    subst P (sym left) (have_left names us c.args.number u c.self.invariant.numbers (subst (λ vs. connected_at vs c.args.number ≡ Some u) (sym c.self.view_is) found) (subst (HaveFiles names) (sym c.self.view_is) have))
