-- A list that is cut at the first element that passes, and a text at its first line feed.
use Rattle.std.proofs.Common.{◌≡◌, ℕ, ◌+◌, ◌-◌, ◌<◌, ◌≤◌, Bool, false, cond, List, [], ◌∷◌, length, take, drop, Some, None, eqb, ltb, ◌==◌, refl, arith}
use Rattle.std.specs.List.{slice_split, after_first, position, position_or_len}
use Rattle.std.specs.Str.Lines.{lines, strip_carriage_return}
use Rattle.std.proofs.lemmas.Bool.Decides.{nat_tests}
use Rattle.std.proofs.lemmas.List.{drop_all, take_rest}
use Rattle.std.proofs.lemmas.List.Splits.{length-slice_split, slice_split_first, slice_split_none}
use Rattle.std.proofs.lemmas.List.Sums.{fails_before_first}

-- what stands behind the element, as a slice has it
abbrev pub behind : {X : Type 0} → ℕ → List X → List X
behind n xs = take (length xs - (n + 1)) (drop (n + 1) xs)

pub at_first : (at len n : ℕ) → cond (ltb at len) (Some at) None ≡ Some n → (n ≡ at) × (at < len)
at_first at len n h = (grind (arith, nat_tests), grind (arith, nat_tests))

pub no_first : (at len : ℕ) → cond (ltb at len) (Some at) None ≡ None → len ≤ at
no_first at len h = grind (arith, nat_tests)

pub first_split : {X : Type 0} (p : X → Bool) (xs : List X) (n : ℕ) → position p xs ≡ Some n → slice_split p xs ≡ take n xs ∷ slice_split p (behind n xs)
first_split p [] n h = cc
first_split p (x ∷ xs) n h =
    let at = at_first _ _ n h in
    rw (at.0, take_rest) (slice_split_first p (x ∷ xs) x at.1)

pub first_cut : {X : Type 0} (p : X → Bool) (xs : List X) (n : ℕ) → position p xs ≡ Some n → slice_split p xs ≡ take n xs ∷ slice_split p (drop (n + 1) xs)
first_cut p [] n h = cc
first_cut p (x ∷ xs) n h = let at = at_first _ _ n h in rw at.0 (slice_split_first p (x ∷ xs) x at.1)

pub no_split : {X : Type 0} (p : X → Bool) (xs : List X) → position p xs ≡ None → slice_split p xs ≡ xs ∷ []
no_split p xs h = slice_split_none p xs (λ k d below. fails_before_first p xs k d (omega (arith, no_first _ _ h)))

-- ---- lines

-- some part comes first
some_part : (parts : List (List ℕ)) → 0 < length parts → (part : List ℕ) × (more : List (List ℕ)) × (parts ≡ part ∷ more)
some_part [] some = absurd (omega arith)
some_part (part ∷ parts) some = (part, parts, refl)

-- a line that ends at a line feed
pub first_line : (text : List ℕ) (n : ℕ) → position (λ b. eqb b 10) text ≡ Some n → lines text ≡ strip_carriage_return (take n text) ∷ lines (behind n text)
first_line text n h = let some = some_part (slice_split (λ b. eqb b 10) (behind n text)) (omega (arith, length-slice_split (λ b. eqb b 10) (behind n text))) in rw (first_split (λ b. eqb b 10) text n h, some.2) refl

-- a text without a line feed
pub only_line : (text : List ℕ) → position (λ b. eqb b 10) text ≡ None → (length text == 0) ≡ false → lines text ≡ text ∷ []
only_line text h some = rw (no_split (λ b. eqb b 10) text h, some) refl

pub behind_first : (p : ℕ → Bool) (xs : List ℕ) (n : ℕ) → position p xs ≡ Some n → behind n xs ≡ after_first p xs
behind_first p xs n h = let at = at_first _ _ n h in rw (at.0, take_rest) refl

pub behind_none : (p : ℕ → Bool) (xs : List ℕ) → position p xs ≡ None → after_first p xs ≡ []
behind_none p xs h = drop_all (position_or_len p xs + 1) xs (omega (arith, no_first _ _ h))
