-- How many elementary steps an item and a list of items have.
use Rattle.std.proofs.Common.{ℕ, zero, suc, ◌+◌, ◌*◌, ◌≡◌, List, [], ◌∷◌, ◌++◌, length, take, get_or, min, inl, inr, refl, sym, ap, ◌∙◌, arith, length-append, append_assoc, append-nil, ◌<◌}
use Rattle.std.proofs.lemmas.Bool.{cases_lt}
use Rattle.std.proofs.lemmas.List.{take_more}
use Rattle.std.proofs.Math.Nat.{zero-mul, suc-mul}
use Rattle.fj_value.specs.declared.edit.Edit.{Edit}
use Rattle.fj_format.specs.declared.item.FormatItem.{FormatItem}
use Rattle.fj_format.specs.declared.item.FormatItem.TheVariants as item
use Rattle.fj_format.specs.Unfolding.{edit, slash, Steps, repeated, written_out, pass}
use Rattle.fj_format.proofs.UnfoldingLaws.{written_out-Field, written_out-Group, written_out-Slash}

length-repeated : (n : ℕ) (steps : Steps) → length (repeated n steps) ≡ n * length steps
length-repeated zero steps = sym (zero-mul (length steps))
length-repeated (suc n) steps = omega (arith, suc-mul n (length steps), length-append steps (repeated n steps), length-repeated n steps)

-- a product up to a bound
min-times : (r n c : ℕ) → min (r * min n c) c ≡ min (r * n) c
min-times zero n c = ap (λ k. min k c) (zero-mul (min n c) ∙ sym (zero-mul n))
min-times (suc r) n c =
    elim (cases_lt c n) [
      | inl above ↦ (let e : min n c ≡ c = omega arith in omega (arith, suc-mul r (min n c), suc-mul r n))
      | inr within ↦ ap (λ k. min (suc r * k) c) (omega arith)
    ]

pub field_count : (n r : ℕ) (e : Edit) → n ≡ min (r * 1) 1000001 → n ≡ min (length (written_out (item.Field r e))) 1000001
field_count n r e h = h ∙ ap (λ k. min k 1000001) (sym (ap length (written_out-Field r e) ∙ length-repeated r (edit e ∷ [])))

pub slash_count : (n r : ℕ) → n ≡ min (r * 1) 1000001 → n ≡ min (length (written_out (item.Slash r))) 1000001
slash_count n r h = h ∙ ap (λ k. min k 1000001) (sym (ap length (written_out-Slash r) ∙ length-repeated r (slash ∷ [])))

pub group_count : (n m r : ℕ) (xs : List FormatItem) → m ≡ min (length (pass xs)) 1000001 → n ≡ min (r * m) 1000001 →
    n ≡ min (length (written_out (item.Group r xs))) 1000001
group_count n m r xs e h =
    h ∙ ap (λ k. min (r * k) 1000001) e ∙ min-times r (length (pass xs)) 1000001 ∙
    ap (λ k. min k 1000001) (sym (ap length (written_out-Group r xs) ∙ length-repeated r (pass xs)))

pass-append : (xs ys : List FormatItem) → pass (xs ++ ys) ≡ pass xs ++ pass ys
pass-append [] ys = refl
pass-append (x ∷ xs) ys = ap (λ l. written_out x ++ l) (pass-append xs ys) ∙ sym (append_assoc (written_out x) (pass xs) (pass ys))

-- one item more
length-pass_more : (xs : List FormatItem) (x : FormatItem) → length (pass (xs ++ x ∷ [])) ≡ length (pass xs) + length (written_out x)
length-pass_more xs x =
    ap length (pass-append xs (x ∷ [])) ∙ length-append (pass xs) (written_out x ++ []) ∙ ap (λ l. length (pass xs) + length l) (append-nil (written_out x))

pub counts_more : (xs : List FormatItem) (i : ℕ) (x : FormatItem) (count more new : ℕ) → i < length xs → x ≡ get_or xs i x →
    count ≡ min (length (pass (take i xs))) 1000001 → more ≡ min (length (written_out x)) 1000001 → new ≡ min (count + more) 1000001 →
    new ≡ min (length (pass (take (i + 1) xs))) 1000001
counts_more xs i x count more new within is so_far one sum =
    let front : take (i + 1) xs ≡ take i xs ++ x ∷ [] = take_more xs i x within ∙ ap (λ y. take i xs ++ y ∷ []) (sym is) in
    let total : length (pass (take (i + 1) xs)) ≡ length (pass (take i xs)) + length (written_out x) = ap (λ l. length (pass l)) front ∙ length-pass_more (take i xs) x in
    omega arith
