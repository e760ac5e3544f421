-- Each item has a data descriptor, in order, unless one is wanting.
use Rattle.std.proofs.Common.{◌≡◌, false, List, [], ◌∷◌, length, refl, ap}
use Rattle.fj_value.specs.declared.edit.EditModes.{EditModes}
use Rattle.fj_format.specs.Unfolding as step
use Rattle.fj_format.specs.Unfolding.{Steps}
use Rattle.fj_control.specs.Steps.{control}
use Rattle.fj_control.specs.Paired.{paired, modes_behind, items_in, has_lacking}

module _ {A : Type 0} where
  pub in_order : (l : Steps) (modes : EditModes) (items : List A) → has_lacking (paired modes (control l (length items)) items) ≡ false → items_in (paired modes (control l (length items)) items) ≡ items
  in_order [] modes [] h = refl
  in_order [] modes (x ∷ items) h = let no : ⊥ = cc in absurd no
  in_order (step.edit e ∷ rest) modes [] h = refl
  in_order (step.edit e ∷ rest) modes (x ∷ items) h = ap (λ l. x ∷ l) (in_order rest modes items h)
  in_order (step.colon ∷ rest) modes [] h = refl
  in_order (step.colon ∷ rest) modes (x ∷ items) h = in_order rest modes (x ∷ items) h
  in_order (step.string s ∷ rest) modes items h = in_order rest modes items h
  in_order (step.tab n ∷ rest) modes items h = in_order rest modes items h
  in_order (step.left n ∷ rest) modes items h = in_order rest modes items h
  in_order (step.right n ∷ rest) modes items h = in_order rest modes items h
  in_order (step.slash ∷ rest) modes items h = in_order rest modes items h
  in_order (step.mode m ∷ rest) modes items h = in_order rest (modes_behind m modes) items h
