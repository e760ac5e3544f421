use Rattle.std.proofs.Common.{◌≡◌, ◌<◌, List, true, is_none, sym, ap, subst, ◌∙◌}
use Rattle.std.specs.Prelude.{IfNone}
use Rattle.std.specs.List.{list_any}
use Rattle.fj_value.specs.declared.value.Value.{Value}
use Rattle.fj_store.specs.Places.{places_of}
use Rattle.fj_store.specs.Slots.{all_read}
use Rattle.fj_store.specs.Tables.{element_at}
use Rattle.fj_store.proofs.slots.Slots.at_run.Goals as goal

pub returns-clause-none : goal.returns-clause-none
returns-clause-none c =
    let same : c.self.inside.values ≡ all_read c.args.self.now = sym c.self.invariant.read ∙ ap all_read c.self.view_is in
    let P : List (List Value) → Type 0 = λ rows. IfNone c.at_run.result (0 < c.args.run.count → list_any (λ place. is_none (element_at rows place)) (places_of c.args.run) ≡ true) in
    subst P same c.at_run.ensures.none
