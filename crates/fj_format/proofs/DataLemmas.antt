-- Which items have a data edit descriptor.
use Rattle.std.proofs.Common.{ℕ, zero, suc, ◌+◌, ◌≡◌, ◌<◌, Bool, true, false, ◌||◌, List, [], ◌∷◌, ◌++◌, length, drop, get_or, nat_lt, refl, sym, subst, ap, ◌∙◌, arith, add-one, append-nil}
use Rattle.std.proofs.lemmas.Bool.Decides.{nat_tests}
use Rattle.std.proofs.lemmas.List.Folds.{list_any-append}
use Rattle.fj_format.specs.declared.item.FormatItem.{FormatItem}
use Rattle.fj_format.specs.declared.item.FormatItem.TheVariants as item
use Rattle.fj_format.specs.Unfolding.{Steps, repeated, pass, written_out, is_data, has_data}
use Rattle.fj_format.proofs.UnfoldingLaws.{written_out-Group}

pub no_data_repeated : (n : ℕ) (s : Steps) → has_data s ≡ false → has_data (repeated n s) ≡ false
no_data_repeated zero s h = refl
no_data_repeated (suc n) s h = list_any-append is_data s (repeated n s) ∙ ap (λ b. b || has_data (repeated n s)) h ∙ no_data_repeated n s h

pub data_repeated : (n : ℕ) (s : Steps) → 0 < n → has_data (repeated n s) ≡ has_data s
data_repeated zero s h = absurd (omega arith)
data_repeated (suc n) s h = list_any-append is_data s (repeated n s) ∙ by_case (has_data s) refl
  where
    by_case : (b : Bool) → has_data s ≡ b → (has_data s || has_data (repeated n s)) ≡ has_data s
    by_case true e = rw e refl
    by_case false e = ap (λ b. b || has_data (repeated n s)) e ∙ no_data_repeated n s e ∙ sym e

pub group_data : (r : ℕ) (xs : List FormatItem) → 0 < r → has_data (written_out (item.Group r xs)) ≡ has_data (pass xs)
group_data r xs h = ap has_data (written_out-Group r xs) ∙ data_repeated r (pass xs) h

pub none_of_zero : (xs : List FormatItem) → has_data (written_out (item.Group 0 xs)) ≡ false
none_of_zero xs = ap has_data (written_out-Group 0 xs)

above_zero : (r : ℕ) → nat_lt 0 (suc r) ≡ true
above_zero r = grind (arith, nat_tests)

pub field_data : (r : ℕ) (s : Steps) → has_data s ≡ true → nat_lt 0 r ≡ has_data (repeated r s)
field_data zero s h = refl
field_data (suc r) s h = above_zero r ∙ sym (data_repeated (suc r) s (omega arith) ∙ h)

pass-drop_suc : (at : ℕ) (xs : List FormatItem) (x : FormatItem) → at < length xs → x ≡ get_or xs at x → pass (drop at xs) ≡ written_out x ++ pass (drop (suc at) xs)
pass-drop_suc zero [] x h e = absurd (omega arith)
pass-drop_suc zero (y ∷ xs) x h e = ap (λ z. written_out z ++ pass xs) (sym e)
pass-drop_suc (suc n) [] x h e = absurd (omega arith)
pass-drop_suc (suc n) (y ∷ xs) x h e = pass-drop_suc n xs x (omega arith) e

pub pass-drop : (at : ℕ) (xs : List FormatItem) (x : FormatItem) → at < length xs → x ≡ get_or xs at x → pass (drop at xs) ≡ written_out x ++ pass (drop (at + 1) xs)
pass-drop at xs x h e = subst (λ n. pass (drop at xs) ≡ written_out x ++ pass (drop n xs)) (sym (add-one at)) (pass-drop_suc at xs x h e)

pub data_here : (i : ℕ) (xs : List FormatItem) (x : FormatItem) → i < length xs → x ≡ get_or xs i x → has_data (pass (drop i xs)) ≡ (has_data (written_out x) || has_data (pass (drop (i + 1) xs)))
data_here i xs x lt e = ap has_data (pass-drop i xs x lt e) ∙ list_any-append is_data (written_out x) (pass (drop (i + 1) xs))

or_true : (b : Bool) → (b || true) ≡ true
or_true true = refl
or_true false = refl

-- the last of some items has one
pub last_data : (xs : List FormatItem) (x : FormatItem) → has_data (written_out x) ≡ true → has_data (pass (xs ++ x ∷ [])) ≡ true
last_data [] x h = ap has_data (append-nil (written_out x)) ∙ h
last_data (y ∷ xs) x h =
    list_any-append is_data (written_out y) (pass (xs ++ x ∷ [])) ∙ ap (λ b. has_data (written_out y) || b) (last_data xs x h) ∙ or_true (has_data (written_out y))
