-- Texts as they are compared.
use Rattle.std.proofs.Common.{◌≡◌, ◌≢◌, ℕ, Bool, false, List, length, map, inl, inr, sym, ap, ◌∙◌, rules}
use Rattle.std.specs.Bool.{Decides}
use Rattle.std.specs.Str.{bytes_eq}
use Rattle.std.proofs.lemmas.Bool.{cases_Bool}
use Rattle.std.proofs.lemmas.List.{length-map}
use Rattle.std.proofs.lemmas.Slice.Eq.{bytes_eq-Decides}

tested : (xs ys : List ℕ) (r : Bool) → Decides r (xs ≡ ys) → r ≡ bytes_eq xs ys
tested xs ys r h = search (rules, bytes_eq-Decides)

-- a text of another length is another text
pub other_length : (f : ℕ → ℕ) (xs ys : List ℕ) → length xs ≢ length ys → bytes_eq (map f xs) ys ≡ false
other_length f xs ys other = elim (cases_Bool (bytes_eq (map f xs) ys)) [
  | inl e ↦ absurd (other (sym (length-map xs f) ∙ ap length ((bytes_eq-Decides (map f xs) ys).0 e)))
  | inr e ↦ e
]

pub either_way : (xs ys : List ℕ) → bytes_eq xs ys ≡ bytes_eq ys xs
either_way xs ys = let is = bytes_eq-Decides xs ys in tested ys xs (bytes_eq xs ys) (λ e. sym (is.0 e), λ e. is.1 (sym e))
