-- How many characters stand before the first that a test stops at.
use Rattle.std.proofs.Common.{◌≡◌, ℕ, ◌+◌, ◌<◌, ◌≤◌, Bool, not, cond, ltb, List, [], ◌∷◌, length, get_or, drop, Option, Some, None, unwrap_or, slice_get, sym, ap, ◌∙◌, inl, inr, arith}
use Rattle.std.proofs.lemmas.Bool.{cases_lt}
use Rattle.std.proofs.lemmas.Bool.Decides.{nat_tests}
use Rattle.std.proofs.lemmas.List.Sums.{prefix_len-le-length}
use Rattle.std.proofs.lemmas.List.{drop_more, drop_all}
use Rattle.std.proofs.lemmas.Option.{slice_get_within, get_or_from_slice_get, slice_get-get_or, none-some}
use Rattle.std.specs.List.{position, position_or_len}

place_within : (n len : ℕ) → n < len → unwrap_or (cond (ltb n len) (Some n) None) len ≡ n
place_within n len h = grind (arith, nat_tests)

place_past : (n len : ℕ) → len ≤ n → n ≤ len → unwrap_or (cond (ltb n len) (Some n) None) len ≡ n
place_past n len h k = grind (arith, nat_tests)

pub width_is : (stops : ℕ → Bool) (xs : List ℕ) → unwrap_or (position stops xs) (length xs) ≡ position_or_len stops xs
width_is stops xs =
    let n = position_or_len stops xs in
    elim (cases_lt n (length xs)) [
      | inl h ↦ place_within n (length xs) h
      | inr h ↦ place_past n (length xs) h (prefix_len-le-length (λ x. not (stops x)) xs)
    ]

pub width-le : (stops : ℕ → Bool) (xs : List ℕ) → position_or_len stops xs ≤ length xs
width-le stops xs = prefix_len-le-length (λ x. not (stops x)) xs

-- a list from a place on, at an element of it and past its end
pub drop_at_some : (xs : List ℕ) (at c : ℕ) → slice_get xs at ≡ Some c → drop at xs ≡ c ∷ drop (at + 1) xs
drop_at_some xs at c e = drop_more xs at 0 (slice_get_within xs at c e) ∙ ap (λ x. x ∷ drop (at + 1) xs) (get_or_from_slice_get xs at c 0 e)

past_end : (xs : List ℕ) (at : ℕ) → slice_get xs at ≡ None → length xs ≤ at
past_end xs at e = elim (cases_lt at (length xs)) [
  | inl h ↦ absurd (none-some (get_or xs at 0) (sym e ∙ slice_get-get_or xs at 0 h))
  | inr h ↦ h
]

pub drop_at_none : (xs : List ℕ) (at : ℕ) → slice_get xs at ≡ None → drop at xs ≡ []
drop_at_none xs at e = drop_all at xs (past_end xs at e)

pub get_at : (xs : List ℕ) (at : ℕ) → at < length xs → slice_get xs at ≡ Some (get_or xs at 0)
get_at xs at h = slice_get-get_or xs at 0 h

-- the width that code finds
pub width_found : (stops : ℕ → Bool) (xs rest : List ℕ) (place : Option ℕ) (width : ℕ) → place ≡ position stops rest → width ≡ unwrap_or place (length rest) → rest ≡ xs → width ≡ position_or_len stops xs
width_found stops xs rest place width found is same =
    is ∙ ap (λ p. unwrap_or p (length rest)) found ∙ width_is stops rest ∙ ap (position_or_len stops) same
