-- Draws and transfers one by one.
use Rattle.std.proofs.Common.{◌≡◌, ℕ, zero, suc, ◌+◌, ◌-◌, ◌*◌, ◌<◌, List, [], ◌∷◌, ◌++◌, length, append_assoc, append-nil, add-one, ap, sym, refl, ◌∙◌, lit<, codes, rules, arith}
use Rattle.std.specs.List.{All}
use Rattle.std.proofs.lemmas.Nat.{mod_below}
use Rattle.std.proofs.lemmas.List.Elements.{All-cons}
use Rattle.fj_gen.specs.Laws.{DrawsAreInRange}
use Rattle.fj_gen.specs.Draws.{next_state, drawn, state_after, draws}
use Rattle.std.specs.Fmt.{decimal}
use Rattle.fj_gen.specs.Generated.{opening_text, closing_text, output_text, transfer_text, transfers_text, generated_text}

two_draws : (count n state : ℕ) → transfers_text count (draws (suc (suc n)) state)
    ≡ transfer_text count (drawn (next_state state)) (drawn (next_state (next_state state))) ++ transfers_text (count + 1) (draws n (next_state (next_state state)))
unfolding draws transfers_text
two_draws count n state = rw (add-one count) refl

-- one transfer more stands before the rest
pub next_transfer : (before count state : ℕ) (text : List ℕ) → before < count
    → (text ++ transfer_text before (drawn (next_state state)) (drawn (next_state (next_state state))))
    ++ transfers_text (before + 1) (draws (2 * (count - (before + 1))) (next_state (next_state state)))
    ≡ text ++ transfers_text before (draws (2 * (count - before)) state)
next_transfer before count state text within =
    let left : 2 * (count - before) ≡ suc (suc (2 * (count - (before + 1)))) = omega arith in
    append_assoc text _ _
    ∙ ap (λ xs. text ++ xs)
    (sym (ap (λ n. transfers_text before (draws n state)) left ∙ two_draws before (2 * (count - (before + 1))) state))

-- the same, of what was pushed
pub drawn_twice : (count before state : ℕ) (old new : List ℕ) (second first_draw second_draw : ℕ) → before < count
    → second ≡ next_state (next_state state) → first_draw ≡ drawn (next_state state) → second_draw ≡ drawn (next_state (next_state state))
    → new ≡ old ++ transfer_text before first_draw second_draw
    → new ++ transfers_text (before + 1) (draws (2 * (count - (before + 1))) second) ≡ old ++ transfers_text before (draws (2 * (count - before)) state)
drawn_twice count before state old new second first_draw second_draw within is_second is_first_draw is_second_draw pushed =
    rw (pushed, is_second, is_first_draw, is_second_draw) (next_transfer before count state old within)

-- nothing is left behind the last transfer
pub last_transfer : (before count state : ℕ) → before ≡ count → transfers_text before (draws (2 * (count - before)) state) ≡ []
unfolding draws transfers_text
last_transfer before count state e =
    let none : 2 * (count - before) ≡ 0 = omega arith in
    ap (λ n. transfers_text before (draws n state)) none

-- a deck whose transfers were all pushed
pub deck_is : (seed count before state : ℕ) (transfers closing : List ℕ) → before ≡ count
    → transfers ++ transfers_text before (draws (2 * (count - before)) state) ≡ opening_text ++ transfers_text 0 (draws (2 * count) seed)
    → closing ≡ closing_text → transfers ++ closing ≡ generated_text seed count
unfolding generated_text
deck_is seed count before state transfers closing all pushed is =
    let done : transfers ≡ opening_text ++ transfers_text 0 (draws (2 * count) seed) =
    sym (append-nil transfers) ∙ ap (λ xs. transfers ++ xs) (sym (last_transfer before count state all)) ∙ pushed in
    ap (λ xs. xs ++ closing) done ∙ ap (λ xs. (opening_text ++ transfers_text 0 (draws (2 * count) seed)) ++ xs) is

nine : (old a b c d e f g h i : List ℕ) → ((((((((old ++ a) ++ b) ++ c) ++ d) ++ e) ++ f) ++ g) ++ h) ++ i ≡ old ++ (a ++ b ++ c ++ d ++ e ++ f ++ g ++ h ++ i)
nine old a b c d e f g h i = simp append_assoc

-- the two statements of a transfer, pushed piece by piece
pub output_is : (old : List ℕ) (element unit value : ℕ) {t1 t2 t3 t4 t5 t6 t7 t8 t9 e v u k : List ℕ}
    → t1 ≡ old ++ codes "V(" → t2 ≡ t1 ++ e → t3 ≡ t2 ++ codes ") = " → t4 ≡ t3 ++ v → t5 ≡ t4 ++ codes "\nWRITE(" → t6 ≡ t5 ++ u
    → t7 ≡ t6 ++ codes ",'(I6)',ASYNCHRONOUS='YES') V(" → t8 ≡ t7 ++ k → t9 ≡ t8 ++ codes ")\n"
    → e ≡ decimal element → v ≡ decimal value → u ≡ decimal unit → k ≡ decimal element
    → t9 ≡ old ++ output_text element unit value
unfolding output_text
output_is old element unit value {e} {v} {u} {k} p1 p2 p3 p4 p5 p6 p7 p8 p9 is_e is_v is_u is_k =
    rw (p9, p8, p7, p6, p5, p4, p3, p2, p1, is_e, is_v, is_u, is_k)
    (nine old (codes "V(") (decimal element) (codes ") = ") (decimal value) (codes "\nWRITE(") (decimal unit)
    (codes ",'(I6)',ASYNCHRONOUS='YES') V(") (decimal element) (codes ")\n"))

-- ---- laws of draws

in_range : (state : ℕ) → next_state state < 2147483648
unfolding next_state
in_range state = mod_below (state * 1103515245 + 12345) 2147483648 (lit< tt)

draw_in_range : (state : ℕ) → state < 2147483648 → drawn state < 32768
unfolding drawn
draw_in_range state below = omega arith

each_in_range : (count state : ℕ) → All (λ draw. draw < 32768) (draws count state)
unfolding draws
each_in_range zero state = search rules
each_in_range (suc count) state = All-cons (λ draw. draw < 32768) _ _ (draw_in_range (next_state state) (in_range state)) (each_in_range count (next_state state))

as_many : (count state : ℕ) → length (draws count state) ≡ count
unfolding draws
as_many zero state = refl
as_many (suc count) state = ap suc (as_many count (next_state state))

goes_on : (count others state : ℕ) → draws (count + others) state ≡ draws count state ++ draws others (state_after count state)
unfolding draws state_after
goes_on zero others state = let e : 0 + others ≡ others = omega arith in ap (λ n. draws n state) e
goes_on (suc count) others state =
    let e : suc count + others ≡ suc (count + others) = omega arith in
    ap (λ n. draws n state) e ∙ ap (λ xs. drawn (next_state state) ∷ xs) (goes_on count others (next_state state))

pub draws_in_range : DrawsAreInRange
draws_in_range = record { state = in_range; drawn = each_in_range; length = as_many; more = goes_on }
