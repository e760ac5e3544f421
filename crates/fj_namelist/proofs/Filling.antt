-- A constant given to elements, one at a time.
use Rattle.std.proofs.Common.{◌≡◌, ℕ, zero, suc, ◌+◌, ◌<◌, ◌≤◌, true, false, cond, ltb, List, ap, ◌∙◌, arith}
use Rattle.std.proofs.lemmas.Bool.Decides.{nat_tests}
use Rattle.fj_value.specs.declared.value.Cell.{Cell}
use Rattle.fj_value.specs.declared.condition.Condition.TheVariants.{Error}
use Rattle.fj_list.specs.declared.constant.Form.{Form}
use Rattle.fj_namelist.specs.declared.place.Elements.{Elements}
use Rattle.fj_namelist.specs.GroupInput.{Result, ended, constant_read, given_to, filled}

below : (i n : ℕ) → i < n → ltb i n ≡ true
below i n h = grind (arith, nat_tests)

not_below : (i n : ℕ) → n ≤ i → ltb i n ≡ false
not_below i n h = grind (arith, nat_tests)

pub fill_none : (e : Elements) (form : Form) (cs : List ℕ) (n i : ℕ) (cells : List Cell) (next : ℕ → List Cell → Result) → 0 < n → e.count ≤ i → filled e form cs n i cells next ≡ ended cells (Error 23)
fill_none e form cs zero i cells next some past = absurd (omega arith)
fill_none e form cs (suc n) i cells next some past =
    ap (λ b. cond b (given_to (constant_read e.kind form cs) e i cells (λ cells'. filled e form cs n (i + 1) cells' next)) (ended cells (Error 23))) (not_below i e.count past)

pub fill_on : (e : Elements) (form : Form) (cs : List ℕ) (n m i : ℕ) (cells : List Cell) (next : ℕ → List Cell → Result) → n ≡ suc m → i < e.count
    → filled e form cs n i cells next ≡ given_to (constant_read e.kind form cs) e i cells (λ cells'. filled e form cs m (i + 1) cells' next)
fill_on e form cs n m i cells next is there =
    ap (λ k. filled e form cs k i cells next) is
    ∙ ap (λ b. cond b (given_to (constant_read e.kind form cs) e i cells (λ cells'. filled e form cs m (i + 1) cells' next)) (ended cells (Error 23))) (below i e.count there)

pub fill_all : (e : Elements) (form : Form) (cs : List ℕ) (n i : ℕ) (cells : List Cell) (next : ℕ → List Cell → Result) → n ≡ 0 → filled e form cs n i cells next ≡ next i cells
fill_all e form cs n i cells next is = ap (λ k. filled e form cs k i cells next) is
