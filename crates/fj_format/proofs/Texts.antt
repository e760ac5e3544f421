-- The text of a format as it grows.
use Rattle.std.proofs.Common.{ℕ, suc, ◌+◌, ◌≡◌, ◌<◌, Bool, true, false, cond, eqb, List, [], ◌∷◌, ◌++◌, length, take, get_or, map, codes, refl, sym, ap, ◌∙◌, arith, append_assoc}
use Rattle.std.proofs.lemmas.List.{take_more, length-map, length-take-le, map-append}
use Rattle.std.proofs.lemmas.Bool.Decides.{nat_tests}
use Rattle.std.specs.List.{join_with_byte}
use Rattle.fj_format.specs.declared.item.FormatItem.{FormatItem}
use Rattle.fj_format.specs.Printing.{doubled, separator, item_text}

doubled-append : (s t : List ℕ) → doubled (s ++ t) ≡ doubled s ++ doubled t
doubled-append [] t = refl
doubled-append (c ∷ s) t = by_test (eqb c 39) (doubled-append s t)
  where
    by_test : (b : Bool) → doubled (s ++ t) ≡ doubled s ++ doubled t →
        cond b (codes "''" ++ doubled (s ++ t)) (c ∷ doubled (s ++ t)) ≡ cond b (codes "''" ++ doubled s) (c ∷ doubled s) ++ doubled t
    by_test true e = ap (λ l. 39 ∷ 39 ∷ l) e
    by_test false e = ap (λ l. c ∷ l) e

-- one character more
pub string_more : (s : List ℕ) (i : ℕ) (start before after : List ℕ) → i < length s → before ≡ start ++ doubled (take i s) →
    after ≡ before ++ doubled (get_or s i 0 ∷ []) → after ≡ start ++ doubled (take (i + 1) s)
string_more s i start before after within so_far more =
    let front : doubled (take (i + 1) s) ≡ doubled (take i s) ++ doubled (get_or s i 0 ∷ []) =
    ap doubled (take_more s i 0 within) ∙ doubled-append (take i s) (get_or s i 0 ∷ [])
    in
    more ∙ ap (λ l. l ++ doubled (get_or s i 0 ∷ [])) so_far ∙ append_assoc start (doubled (take i s)) (doubled (get_or s i 0 ∷ [])) ∙ ap (λ l. start ++ l) (sym front)

not_first : (n : ℕ) → separator (suc n) ≡ codes ","
not_first n = ap (λ b. cond b [] (codes ",")) (is_false n)
  where
    is_false : (n : ℕ) → eqb (suc n) 0 ≡ false
    is_false n = grind (arith, nat_tests)

join_more : (texts : List (List ℕ)) (t : List ℕ) → join_with_byte 44 (texts ++ t ∷ []) ≡ join_with_byte 44 texts ++ (separator (length texts) ++ t)
join_more [] t = refl
join_more (x ∷ []) t = refl
join_more (x ∷ y ∷ texts) t =
    ap (λ l. x ++ 44 ∷ l) (join_more (y ∷ texts) t ∙ ap (λ l. join_with_byte 44 (y ∷ texts) ++ (l ++ t)) (not_first (length texts) ∙ sym (not_first (suc (length texts))))) ∙
    sym (append_assoc x (44 ∷ join_with_byte 44 (y ∷ texts)) (separator (suc (suc (length texts))) ++ t))

-- one item more
pub items_more : (items : List FormatItem) (i : ℕ) (x : FormatItem) (start before between after : List ℕ) → i < length items → x ≡ get_or items i x →
    before ≡ start ++ join_with_byte 44 (map item_text (take i items)) → between ≡ before ++ separator i → after ≡ between ++ item_text x →
    after ≡ start ++ join_with_byte 44 (map item_text (take (i + 1) items))
items_more items i x start before between after within is so_far comma text =
    let front : take (i + 1) items ≡ take i items ++ x ∷ [] = take_more items i x within ∙ ap (λ y. take i items ++ y ∷ []) (sym is) in
    let count : length (map item_text (take i items)) ≡ i = length-map (take i items) item_text ∙ length-take-le i items (omega arith) in
    let texts : List (List ℕ) = map item_text (take i items) in
    let joined : join_with_byte 44 (map item_text (take (i + 1) items)) ≡ join_with_byte 44 texts ++ (separator i ++ item_text x) =
    ap (λ l. join_with_byte 44 (map item_text l)) front ∙ ap (join_with_byte 44) (map-append item_text (take i items) (x ∷ [])) ∙ join_more texts (item_text x) ∙
    ap (λ n. join_with_byte 44 texts ++ (separator n ++ item_text x)) count
    in
    text ∙ ap (λ l. l ++ item_text x) comma ∙ append_assoc before (separator i) (item_text x) ∙ ap (λ l. l ++ (separator i ++ item_text x)) so_far ∙
    append_assoc start (join_with_byte 44 texts) (separator i ++ item_text x) ∙ ap (λ l. start ++ l) (sym joined)
