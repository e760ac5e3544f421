use Rattle.std.proofs.Common.{◌≡◌, List, true, false, sym, ap, subst, ◌∙◌}
use Rattle.std.specs.Prelude.{IfSome}
use Rattle.fj_value.specs.declared.place.Place.{Place}
use Rattle.fj_value.specs.declared.value.Value.{Value}
use Rattle.fj_store.specs.Slots.{all_read}
use Rattle.fj_store.specs.Tables.{element_at}
use Rattle.fj_store.specs.Variables.{is_undefined}
use Rattle.fj_store.proofs.slots.Slots.is_filled.Goals as goal

pub returns : goal.returns
returns c =
    let same : c.self.inside.values ≡ all_read c.args.self.now = sym c.self.invariant.read ∙ ap all_read c.self.view_is in
    let P : List (List Value) → Type 0 = λ rows. c.is_filled.result ≡ true → (place : Place) → place.var ≡ c.args.var → IfSome (element_at rows place) (λ value. is_undefined value ≡ false) in
    subst P same c.is_filled.ensures
