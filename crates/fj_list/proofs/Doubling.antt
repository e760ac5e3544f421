-- Doubling marks, a piece at a time.
use Rattle.std.proofs.Common.{◌≡◌, ℕ, ◌+◌, ◌-◌, ◌<◌, ◌≤◌, cond, eqb, true, false, List, [], ◌∷◌, ◌++◌, length, get_or, take, drop, sym, ap, ◌∙◌, arith, append_assoc, append-nil}
use Rattle.std.proofs.Math.Seq.{take-append_seam}
use Rattle.std.proofs.lemmas.List.{take_more, take-append-drop, take-append-le, drop-append-le, drop_at, drop-take, length-take, length-take-le}
use Rattle.std.proofs.lemmas.Grind.{flat_map-append}
use Rattle.fj_list.specs.ListText.{doubled}

doubled_push : (mark c : ℕ) (xs : List ℕ) → doubled mark (xs ++ c ∷ []) ≡ doubled mark xs ++ cond (eqb c mark) (c ∷ c ∷ []) (c ∷ [])
doubled_push mark c xs = flat_map-append (λ x. cond (eqb x mark) (x ∷ x ∷ []) (x ∷ [])) xs (c ∷ []) ∙ ap (λ ys. doubled mark xs ++ ys) (append-nil (cond (eqb c mark) (c ∷ c ∷ []) (c ∷ [])))

drop_push : (xs : List ℕ) (start i : ℕ) → start ≤ i → i < length xs → drop start (take (i + 1) xs) ≡ drop start (take i xs) ++ get_or xs i 0 ∷ []
drop_push xs start i within inside =
    let long : length (take i xs) ≡ i = length-take-le i xs (omega arith) in
    ap (drop start) (take_more xs i 0 inside) ∙ drop-append-le start (take i xs) (get_or xs i 0 ∷ []) (omega arith)

-- one more character that is no mark
pub other_more : (mark start i : ℕ) (xs out first : List ℕ) → start ≤ i → i < length xs → eqb (get_or xs i 0) mark ≡ false
    → out ++ drop start (take i xs) ≡ first ++ doubled mark (take i xs)
    → out ++ drop start (take (i + 1) xs) ≡ first ++ doubled mark (take (i + 1) xs)
other_more mark start i xs out first within inside other before =
    let c = get_or xs i 0 in
    ap (λ ys. out ++ ys) (drop_push xs start i within inside)
    ∙ sym (append_assoc out (drop start (take i xs)) (c ∷ []))
    ∙ ap (λ ys. ys ++ c ∷ []) before
    ∙ append_assoc first (doubled mark (take i xs)) (c ∷ [])
    ∙ ap (λ b. first ++ (doubled mark (take i xs) ++ cond b (c ∷ c ∷ []) (c ∷ []))) (sym other)
    ∙ ap (λ ys. first ++ ys) (sym (doubled_push mark c (take i xs)))
    ∙ ap (λ ys. first ++ doubled mark ys) (sym (take_more xs i 0 inside))

-- one more mark
pub mark_more : (mark start i : ℕ) (xs out first : List ℕ) → start ≤ i → i < length xs → eqb (get_or xs i 0) mark ≡ true
    → out ++ drop start (take i xs) ≡ first ++ doubled mark (take i xs)
    → (out ++ drop start (take (i + 1) xs)) ++ drop i (take (i + 1) xs) ≡ first ++ doubled mark (take (i + 1) xs)
mark_more mark start i xs out first within inside same before =
    let c = get_or xs i 0 in
    let long : length (take i xs) ≡ i = length-take-le i xs (omega arith) in
    let end : drop i (take (i + 1) xs) ≡ c ∷ [] = ap (drop i) (take_more xs i 0 inside) ∙ drop_at (take i xs) (c ∷ []) i long in
    ap (λ ys. (out ++ ys) ++ drop i (take (i + 1) xs)) (drop_push xs start i within inside)
    ∙ ap (λ ys. (out ++ (drop start (take i xs) ++ c ∷ [])) ++ ys) end
    ∙ ap (λ ys. ys ++ c ∷ []) (sym (append_assoc out (drop start (take i xs)) (c ∷ [])))
    ∙ append_assoc (out ++ drop start (take i xs)) (c ∷ []) (c ∷ [])
    ∙ ap (λ ys. ys ++ c ∷ c ∷ []) before
    ∙ append_assoc first (doubled mark (take i xs)) (c ∷ c ∷ [])
    ∙ ap (λ b. first ++ (doubled mark (take i xs) ++ cond b (c ∷ c ∷ []) (c ∷ []))) (sym same)
    ∙ ap (λ ys. first ++ ys) (sym (doubled_push mark c (take i xs)))
    ∙ ap (λ ys. first ++ doubled mark ys) (sym (take_more xs i 0 inside))

-- a slice with its last place included
pub slice_is : (xs : List ℕ) (start i : ℕ) → start ≤ i → take (i + 1 - start) (drop start xs) ≡ drop start (take (i + 1) xs)
slice_is xs start i within =
    let whole : start + (i + 1 - start) ≡ i + 1 = omega arith in
    sym (drop-take start (i + 1 - start) xs) ∙ ap (λ n. drop start (take n xs)) whole

-- what stood in front stays in front
pub take_grown : (old out more : List ℕ) → take (length old) out ≡ old → take (length old) (out ++ more) ≡ old
take_grown old out more e = take-append-le (length old) out more (omega (arith, ap length e, length-take (length old) out)) ∙ e

pub front_grown : (old more mid new : List ℕ) → mid ≡ old ++ more → take (length mid) new ≡ mid → take (length old) new ≡ old
front_grown old more mid new grown kept =
    ap (take (length old)) (sym (take-append-drop (length mid) new) ∙ ap (λ l. l ++ drop (length mid) new) (kept ∙ grown) ∙ append_assoc old more (drop (length mid) new))
    ∙ take-append_seam old (more ++ drop (length mid) new)
