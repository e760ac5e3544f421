-- The cells of items: how many they are, and where those of a variable stand.
use Rattle.std.proofs.Common.{◌≡◌, ◌⊎◌, ℕ, zero, suc, ◌+◌, ◌<◌, ◌≤◌, eqb, cond, not, ◌&&◌, Bool, true, false, List, [], ◌∷◌, ◌++◌, length, map, All, refl, sym, ap, subst, ◌∙◌, inl, inr, arith, append_assoc, append-nil, length-append}
use Rattle.std.specs.List.{position_or_len, flat_map}
use Rattle.std.proofs.lemmas.Bool.Decides.{eqb_tells, nat_tests}
use Rattle.std.proofs.lemmas.List.{map-append}
use Rattle.std.proofs.lemmas.List.Folds.{position_or_len_push, prefix_len-append}
use Rattle.std.proofs.lemmas.List.Elements.{All-nil, All-cons, All-push}
use Rattle.fj_value.specs.declared.place.Place.{Place}
use Rattle.fj_value.specs.declared.value.Cell.{Cell}
use Rattle.fj_moved.specs.Moved.{IsOrdered}
use Rattle.fj_moved.specs.declared.moved.Moved.{Moved}
use Rattle.fj_store.specs.Places.{same_place, counted_from}
use Rattle.fj_store.specs.Variables.{is_at, with_item, moved_from, moved_of}
use Rattle.fj_store.proofs.CopyLemmas.{AreFree}
use Rattle.fj_store.proofs.TakingLemmas.{position_low}

-- ---- an item more

-- its cell is there, or comes behind the others
record Adds (m new : Moved) (c : Cell) : Type 0 where
  more : List Cell
  is : (more ≡ []) ⊎ (more ≡ c ∷ [])
  cells : new.cells ≡ m.cells ++ more
  found : position_or_len (is_at c.place) m.cells < length m.cells + length more

adds_by : (m : Moved) (c : Cell) (b : Bool) → eqb (position_or_len (is_at c.place) m.cells) (length m.cells) ≡ b
    → Adds m (record { cells = cond b (m.cells ++ c ∷ []) m.cells; order = m.order ++ position_or_len (is_at c.place) m.cells ∷ [] }) c
adds_by m c true e =
    let low : position_or_len (is_at c.place) m.cells ≤ length m.cells = position_low (is_at c.place) m.cells in
    record { more = c ∷ []; is = inr refl; cells = refl; found = omega (arith, low) }
adds_by m c false e =
    let low : position_or_len (is_at c.place) m.cells ≤ length m.cells = position_low (is_at c.place) m.cells in
    record { more = []; is = inl refl; cells = sym (append-nil m.cells); found = grind (arith, nat_tests, low) }

adds : (m : Moved) (c : Cell) → Adds m (with_item m c) c
adds m c = adds_by m c (eqb (position_or_len (is_at c.place) m.cells) (length m.cells)) refl

-- ---- how many they are

-- each of so many items has a cell, and there are no more cells than items
pub record IsCounted (m : Moved) (n : ℕ) : Type 0 where
  pub ordered : IsOrdered m
  pub items : length m.order ≡ n
  pub cells : length m.cells ≤ n

few_more : (more : List Cell) (c : Cell) → (more ≡ []) ⊎ (more ≡ c ∷ []) → length more ≤ 1
few_more more c is = elim is [
  | inl none ↦ let e : length more ≡ 0 = ap length none in omega (arith, e)
  | inr one ↦ let e : length more ≡ 1 = ap length one in omega (arith, e)
]

counted_item : (m : Moved) (c : Cell) (n : ℕ) → IsCounted m n → IsCounted (with_item m c) (n + 1)
counted_item m c n h =
    let a : Adds m (with_item m c) c = adds m c in
    let long : length (with_item m c).cells ≡ length m.cells + length a.more = ap length a.cells ∙ length-append m.cells a.more in
    let few : length a.more ≤ 1 = few_more a.more c a.is in
    let Low : ℕ → Type 0 = λ k. k < length (with_item m c).cells in
    let low : position_or_len (is_at c.place) m.cells < length (with_item m c).cells = let f = a.found in omega (arith, long, f) in
    let before : All Low m.order = λ k d at. (let old = h.ordered k d at in omega (arith, long, old)) in
    record {
      ordered = All-push Low m.order (position_or_len (is_at c.place) m.cells) before low;
      items = length-append m.order (position_or_len (is_at c.place) m.cells ∷ []) ∙ ap (λ k. k + 1) h.items;
      cells = let old = h.cells in omega (arith, long, few, old);
    }

counted : (cells : List Cell) (m : Moved) (n : ℕ) → IsCounted m n → IsCounted (moved_from m cells) (n + length cells)
counted [] m n h = let e : n ≡ n + 0 = omega arith in subst (IsCounted m) e h
counted (c ∷ cells) m n h =
    let e : (n + 1) + length cells ≡ n + length (c ∷ cells) = omega arith in
    subst (IsCounted (moved_from (with_item m c) cells)) e (counted cells (with_item m c) (n + 1) (counted_item m c n h))

pub items_counted : (cells : List Cell) → IsCounted (moved_of cells) (length cells)
items_counted cells =
    let e : 0 + length cells ≡ length cells = omega arith in
    subst (IsCounted (moved_of cells)) e (counted cells (record { cells = []; order = [] }) 0 (record { ordered = All-nil (λ k. k < 0); items = refl; cells = omega arith }))

-- ---- where the cells of a variable stand

abbrev first_of : ℕ → Place
first_of var = record { var = var; index = 1 }

-- so many cells stand from that of its first place on
abbrev pub HasRun : List Cell → ℕ → ℕ → Type 0
HasRun cells var n = let p : Place = record { var = var; index = 1 } in position_or_len (is_at p) cells + n ≤ length cells

no_run : (cells : List Cell) (var : ℕ) → HasRun cells var 0
no_run cells var = let low = position_low (is_at (first_of var)) cells in omega (arith, low)

found_in : (p : Place) (cells more : List Cell) → position_or_len (is_at p) (cells ++ more)
    ≡ cond (eqb (position_or_len (is_at p) cells) (length cells)) (length cells + position_or_len (is_at p) more) (position_or_len (is_at p) cells)
found_in p cells more = prefix_len-append (λ x. not (is_at p x)) cells more

-- cells that come behind leave it there
run_stays : (cells more : List Cell) (var n : ℕ) → HasRun cells var n → HasRun (cells ++ more) var n
run_stays cells more var zero h = no_run (cells ++ more) var
run_stays cells more var (suc n) h =
    let here : eqb (position_or_len (is_at (first_of var)) cells) (length cells) ≡ false = grind (arith, nat_tests, h) in
    let same : position_or_len (is_at (first_of var)) (cells ++ more) ≡ position_or_len (is_at (first_of var)) cells =
    found_in (first_of var) cells more ∙ ap (λ b. cond b (length cells + position_or_len (is_at (first_of var)) more) (position_or_len (is_at (first_of var)) cells)) here in
    let long : length (cells ++ more) ≡ length cells + length more = length-append cells more in
    omega (arith, same, long, h)

grown : (cells : List Cell) (m : Moved) → (more : List Cell) × ((moved_from m cells).cells ≡ m.cells ++ more)
grown [] m = ([], sym (append-nil m.cells))
grown (c ∷ cells) m =
    let a : Adds m (with_item m c) c = adds m c in
    let rest = grown cells (with_item m c) in
    (a.more ++ rest.0, rest.1 ∙ ap (λ xs. xs ++ rest.0) a.cells ∙ append_assoc m.cells a.more rest.0)

run_kept : (cells : List Cell) (m : Moved) (var n : ℕ) → HasRun m.cells var n → HasRun (moved_from m cells).cells var n
run_kept cells m var n h =
    let g = grown cells m in
    subst (λ xs. HasRun xs var n) (sym g.1) (run_stays m.cells g.0 var n h)

-- a place that no cell has is not that of the next one
not_next : (cells : List Cell) (c : Cell) (p : Place) → position_or_len (is_at p) cells ≡ length cells → same_place p c.place ≡ false → position_or_len (is_at p) (cells ++ c ∷ []) ≡ length (cells ++ c ∷ [])
not_next cells c p new apart =
    let test : eqb (position_or_len (is_at p) cells) (length cells) ≡ true = rw new (grind (arith, nat_tests)) in
    let long : length (cells ++ c ∷ []) ≡ length cells + 1 = length-append cells (c ∷ []) in
    position_or_len_push (is_at p) cells c
    ∙ ap (λ b. cond b (length cells + cond (is_at p c) 0 1) (position_or_len (is_at p) cells)) test
    ∙ ap (λ b. length cells + cond b 0 1) apart
    ∙ sym long

fresh_item : (m : Moved) (c : Cell) → position_or_len (is_at c.place) m.cells ≡ length m.cells → (with_item m c).cells ≡ m.cells ++ c ∷ []
fresh_item m c new =
    let test : eqb (position_or_len (is_at c.place) m.cells) (length m.cells) ≡ true = rw new (grind (arith, nat_tests)) in
    ap (λ b. cond b (m.cells ++ c ∷ []) m.cells) test

module _ (f : Place → Cell) (at : (p : Place) → (f p).place ≡ p) where
  -- places of a variable that no cell has come behind all others
  pub run_added : (var from n : ℕ) (m : Moved) → AreFree var from m.cells → (moved_from m (map f (counted_from var from n))).cells ≡ m.cells ++ map f (counted_from var from n)
  run_added var from zero m free = sym (append-nil m.cells)
  run_added var from (suc n) m free =
      let p : Place = record { var = var; index = from } in
      let new : position_or_len (is_at (f p).place) m.cells ≡ length m.cells = ap (λ q. position_or_len (is_at q) m.cells) (at p) ∙ free from (omega arith) in
      let put : (with_item m (f p)).cells ≡ m.cells ++ f p ∷ [] = fresh_item m (f p) new in
      let apart : (k : ℕ) → from + 1 ≤ k → (let q : Place = record { var = var; index = k } in same_place q (f p).place ≡ false) =
      λ k high. (let q : Place = record { var = var; index = k } in let later : eqb k from ≡ false = grind (arith, nat_tests, high) in ap (same_place q) (at p) ∙ grind (arith, nat_tests, later)) in
      let next : AreFree var (from + 1) (m.cells ++ f p ∷ []) =
      λ k high. (let q : Place = record { var = var; index = k } in not_next m.cells (f p) q (free k (omega (arith, high))) (apart k high)) in
      run_added var (from + 1) n (with_item m (f p)) (subst (AreFree var (from + 1)) (sym put) next)
      ∙ ap (λ xs. xs ++ map f (counted_from var (from + 1) n)) put
      ∙ append_assoc m.cells (f p ∷ []) (map f (counted_from var (from + 1) n))

  run_length : (var n from : ℕ) → length (map f (counted_from var from n)) ≡ n
  run_length var zero from = refl
  run_length var (suc n) from = ap suc (run_length var n (from + 1))

  run_comes : (var n : ℕ) (cells : List Cell) → AreFree var 1 cells → HasRun (cells ++ map f (counted_from var 1 n)) var n
  run_comes var zero cells free = no_run (cells ++ []) var
  run_comes var (suc n) cells free =
      let p : Place = first_of var in
      let run : List Cell = map f (counted_from var 1 (suc n)) in
      let none : position_or_len (is_at p) cells ≡ length cells = free 1 (omega arith) in
      let test : eqb (position_or_len (is_at p) cells) (length cells) ≡ true = rw none (grind (arith, nat_tests)) in
      let here : is_at p (f p) ≡ true = ap (same_place p) (at p) ∙ grind (arith, nat_tests) in
      let first : position_or_len (is_at p) run ≡ 0 = ap (λ b. cond (not b) (1 + position_or_len (is_at p) (map f (counted_from var (1 + 1) n))) 0) here in
      let where_is : position_or_len (is_at p) (cells ++ run) ≡ length cells + position_or_len (is_at p) run =
      found_in p cells run ∙ ap (λ b. cond b (length cells + position_or_len (is_at p) run) (position_or_len (is_at p) cells)) test in
      let long : length (cells ++ run) ≡ length cells + length run = length-append cells run in
      let count : length run ≡ suc n = run_length var (suc n) 1 in
      omega (arith, first, where_is, long, count)

  -- cells of another variable leave its places free
  other_item : (v : ℕ) (m : Moved) (c : Cell) → (c.place.var ≡ v → ⊥) → AreFree v 1 m.cells → AreFree v 1 (with_item m c).cells
  other_item v m c apart free =
      let a : Adds m (with_item m c) c = adds m c in
      let P : List Cell → Type 0 = λ xs. AreFree v 1 (m.cells ++ xs) in
      let behind : AreFree v 1 (m.cells ++ c ∷ []) =
      λ k high. (
      let q : Place = record { var = v; index = k } in
      let other : eqb v c.place.var ≡ false = elim (eqb_tells v c.place.var) [ inl same ↦ absurd (apart (sym same.1)) | inr far ↦ far.0 ] in
      let none : same_place q c.place ≡ false = ap (λ b. b && eqb k c.place.index) other in
      not_next m.cells c q (free k high) none) in
      let all : P a.more = elim a.is [ inl none ↦ subst P (sym none) (subst (AreFree v 1) (sym (append-nil m.cells)) free) | inr one ↦ subst P (sym one) behind ] in
      subst (AreFree v 1) (sym a.cells) all

  other_run : (v var from n : ℕ) (m : Moved) → (var ≡ v → ⊥) → AreFree v 1 m.cells → AreFree v 1 (moved_from m (map f (counted_from var from n))).cells
  other_run v var from zero m apart free = free
  other_run v var from (suc n) m apart free =
      let p : Place = record { var = var; index = from } in
      let far : (f p).place.var ≡ v → ⊥ = λ e. apart (sym (ap (λ (q : Place). q.var) (at p)) ∙ e) in
      other_run v var (from + 1) n (with_item m (f p)) apart (other_item v m (f p) far free)

  module _ (count : ℕ → ℕ) where
    abbrev places : ℕ → List Place
    places v = counted_from v 1 (count v)

    -- each variable has all its cells one behind another, or none
    abbrev AreRuns : List Cell → Type 0
    AreRuns cells = (v : ℕ) → AreFree v 1 cells ⊎ HasRun cells v (count v)

    own_run : (w : ℕ) (m : Moved) → AreRuns m.cells → HasRun (moved_from m (map f (places w))).cells w (count w)
    own_run w m runs = elim (runs w) [
      | inl free ↦ subst (λ xs. HasRun xs w (count w)) (sym (run_added w 1 (count w) m free)) (run_comes w (count w) m.cells free)
      | inr run ↦ run_kept (map f (places w)) m w (count w) run
    ]

    runs_more : (w : ℕ) (m : Moved) → AreRuns m.cells → AreRuns (moved_from m (map f (places w))).cells
    runs_more w m runs v = elim (eqb_tells w v) [
      | inl same ↦ inr (subst (λ x. HasRun (moved_from m (map f (places w))).cells x (count x)) same.1 (own_run w m runs))
      | inr other ↦ elim (runs v) [
        | inl free ↦ inl (other_run v w 1 (count w) m other.1 free)
        | inr run ↦ inr (run_kept (map f (places w)) m v (count v) run)
      ]
    ]

    abbrev all_places : List ℕ → List Place
    all_places vars = flat_map places vars

    from_append : (xs ys : List Cell) (m : Moved) → moved_from m (xs ++ ys) ≡ moved_from (moved_from m xs) ys
    from_append [] ys m = refl
    from_append (x ∷ xs) ys m = from_append xs ys (with_item m x)

    runs_from : (vars : List ℕ) (m : Moved) → AreRuns m.cells → All (λ v. HasRun (moved_from m (map f (all_places vars))).cells v (count v)) vars
    runs_from [] m runs = All-nil (λ v. HasRun m.cells v (count v))
    runs_from (w ∷ vars) m runs =
        let mid : Moved = moved_from m (map f (places w)) in
        let split : moved_from m (map f (all_places (w ∷ vars))) ≡ moved_from mid (map f (all_places vars)) =
        ap (moved_from m) (map-append f (places w) (all_places vars)) ∙ from_append (map f (places w)) (map f (all_places vars)) m in
        let P : Moved → Type 0 = λ (it : Moved). All (λ v. HasRun it.cells v (count v)) (w ∷ vars) in
        let Q : ℕ → Type 0 = λ v. HasRun (moved_from mid (map f (all_places vars))).cells v (count v) in
        subst P (sym split) (All-cons Q w vars (run_kept (map f (all_places vars)) mid w (count w) (own_run w m runs)) (runs_from vars mid (runs_more w m runs)))

    -- the variables of a group have their cells one behind another
    pub runs_of : (vars : List ℕ) → All (λ v. HasRun (moved_of (map f (all_places vars))).cells v (count v)) vars
    runs_of vars = runs_from vars (record { cells = []; order = [] }) (λ v. inl (λ k high. refl))
