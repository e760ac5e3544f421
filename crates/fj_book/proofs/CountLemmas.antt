-- Counts of the transfers that hold a place.
use Rattle.std.proofs.Common.{◌≡◌, ℕ, zero, suc, ◌+◌, ◌-◌, ◌<◌, ◌≤◌, ◌%◌, ◌^◌, ◌&&◌, ◌||◌, cond, not, leb, ltb, Bool, true, false, List, [], ◌∷◌, ◌++◌, length, take, drop, get_or, map, replicate, remove, set, slice_get, append-nil, Option, Some, None, refl, sym, ap, subst, ◌∙◌, inl, inr, arith}
use Rattle.std.proofs.Math.Nat.{add-mod_right, mod-eq_of_lt}
use Rattle.std.proofs.lemmas.Bool.{false≢true, cases_lt}
use Rattle.std.proofs.lemmas.Bool.Decides.{eqb_tells, nat_tests}
use Rattle.std.proofs.lemmas.Grind.{flat_map-append}
use Rattle.std.proofs.lemmas.List.{take_more, take-append-drop}
use Rattle.std.proofs.lemmas.List.Folds.{list_any-append}
use Rattle.std.proofs.lemmas.List.Sums.{count_by-le-length, sum_by-append}
use Rattle.std.proofs.lemmas.Option.{slice_get_past}
use Rattle.std.specs.List.{list_any, count_by, sum_by}
use Rattle.std.specs.Option.{option_map, option_and_then}
use Rattle.fj_value.specs.declared.place.Place.{Place}
use Rattle.fj_store.specs.declared.run.Run.{Run}
use Rattle.fj_store.specs.Places.{same_place, is_among, has_twice, counted_from, places_of, places_in}
use Rattle.fj_store.specs.Tables.{element_in, element_at}
use Rattle.fj_store.proofs.ListLemmas.{set_same, set_other}
use Rattle.fj_store.proofs.PlaceLemmas.{other_var, below_first, from_first}
use Rattle.fj_store.proofs.TableLemmas.{places_tell}
use Rattle.fj_store.proofs.TakingLemmas.{run_at}
use Rattle.fj_book.specs.declared.pending.Pending.{Pending}
use Rattle.fj_book.specs.Counting.{holds_in, IsCounted, AreCounted, IsKept}
use Rattle.fj_book.specs.Entries.{IsAscending}
use Rattle.fj_book.proofs.AnyLemmas.{any_or, any_never, item_at, none_left}
use Rattle.fj_store.proofs.RunLemmas.{any_same}
use Rattle.fj_book.proofs.RowLemmas.{AreAdded}

-- ---- a table that is added to

-- the numbers of places are added to, and wrap
abbrev pub AreRaised : ℕ → List Place → List (List ℕ) → List (List ℕ) → Type 0
AreRaised by places start now = (p : Place) → element_at now p ≡ cond (is_among places p) (option_map (λ n. (n + by) % 2 ^ 64) (element_at start p)) (element_at start p)

among_is : (var first n : ℕ) (p : Place) → p.var ≡ var → is_among (counted_from var first n) p ≡ (leb first p.index && ltb p.index (first + n))
among_is var first n p same = elim (cases_lt p.index first) [
  | inl low ↦ below_first var first n p low ∙ sym (ap (λ b. b && ltb p.index (first + n)) (let e : leb first p.index ≡ false = grind (arith, nat_tests) in e))
  | inr high ↦
      let yes : leb first p.index ≡ true = grind (arith, nat_tests) in
      from_first var first n p same high ∙ (let e : ltb (p.index - first) n ≡ ltb p.index (first + n) = grind (arith, nat_tests) in e) ∙ sym (ap (λ b. b && ltb p.index (first + n)) yes)
]

cond_none : (f : ℕ → ℕ) (b : Bool) (o : Option ℕ) → o ≡ None → o ≡ cond b (option_map f o) o
cond_none f true o none = none ∙ sym (ap (option_map f) none)
cond_none f false o none = refl

-- the elements of a row that is added to from a place up to another
in_row : (by from to first count : ℕ) (row row' : List ℕ) (b : Bool) (index : ℕ) → AreAdded by from to row row' → ((at : ℕ) → at < length row → (leb from at && ltb at to) ≡ (leb first (at + 1) && ltb (at + 1) (first + count)))
    → b ≡ (leb first index && ltb index (first + count)) → element_in index row' ≡ cond b (option_map (λ n. (n + by) % 2 ^ 64) (element_in index row)) (element_in index row)
in_row by from to first count row row' b zero adds places test = cond_none (λ n. (n + by) % 2 ^ 64) b None refl
in_row by from to first count row row' b (suc at) adds places test =
    let f : ℕ → ℕ = λ n. (n + by) % 2 ^ 64 in
    adds at ∙ elim (cases_lt at (length row)) [
      | inl low ↦
          let one : at + 1 ≡ suc at = omega arith in
          let same : (leb from at && ltb at to) ≡ b = places at low ∙ ap (λ i. leb first i && ltb i (first + count)) one ∙ sym test in
          ap (λ c. cond c (option_map f (slice_get row at)) (slice_get row at)) same
      | inr past ↦
          let none : slice_get row at ≡ None = slice_get_past row at past in
          sym (cond_none f (leb from at && ltb at to) (slice_get row at) none) ∙ cond_none f b (slice_get row at) none
    ]

pub run_raised : (rows : List (List ℕ)) (row row' : List ℕ) (run : Run) (by from to : ℕ) → slice_get rows run.var ≡ Some row → AreAdded by from to row row'
    → ((at : ℕ) → at < length row → (leb from at && ltb at to) ≡ (leb run.first (at + 1) && ltb (at + 1) (run.first + run.count))) → AreRaised by (places_of run) rows (set rows run.var row')
run_raised rows row row' run by from to found adds places p =
    let f : ℕ → ℕ = λ n. (n + by) % 2 ^ 64 in
    elim (eqb_tells p.var run.var) [
      | inl same ↦
          let new : element_at (set rows run.var row') p ≡ element_in p.index row' =
          ap (λ v. option_and_then (element_in p.index) (slice_get (set rows run.var row') v)) same.1 ∙ ap (option_and_then (element_in p.index)) (set_same rows run.var row' row found) in
          let old : element_at rows p ≡ element_in p.index row = ap (λ v. option_and_then (element_in p.index) (slice_get rows v)) same.1 ∙ ap (option_and_then (element_in p.index)) found in
          new ∙ in_row by from to run.first run.count row row' (is_among (places_of run) p) p.index adds places (among_is run.var run.first run.count p same.1)
          ∙ ap (λ o. cond (is_among (places_of run) p) (option_map f o) o) (sym old)
      | inr other ↦
          ap (option_and_then (element_in p.index)) (set_other rows run.var p.var row' other.1)
          ∙ sym (ap (λ b. cond b (option_map f (element_at rows p)) (element_at rows p)) (other_var run.var run.first run.count p other.1))
    ]

-- a run of a variable that there is not
pub lost_raised : (rows : List (List ℕ)) (run : Run) (by : ℕ) → slice_get rows run.var ≡ None → AreRaised by (places_of run) rows rows
lost_raised rows run by lost p =
    let f : ℕ → ℕ = λ n. (n + by) % 2 ^ 64 in
    elim (eqb_tells p.var run.var) [
      | inl same ↦ cond_none f (is_among (places_of run) p) (element_at rows p) (ap (λ v. option_and_then (element_in p.index) (slice_get rows v)) same.1 ∙ ap (option_and_then (element_in p.index)) lost)
      | inr other ↦ sym (ap (λ b. cond b (option_map f (element_at rows p)) (element_at rows p)) (other_var run.var run.first run.count p other.1))
    ]

or_false : (a b : Bool) → (a || b) ≡ false → (a ≡ false) × (b ≡ false)
or_false true b e = absurd (false≢true (sym e))
or_false false b e = (refl, e)

or_true : (a b : Bool) → b ≡ true → (a || b) ≡ true
or_true true b e = refl
or_true false b e = e

-- of distinct places one is not in two parts
apart : (xs ys : List Place) (p : Place) → has_twice (xs ++ ys) ≡ false → is_among ys p ≡ true → is_among xs p ≡ false
apart [] ys p once there = refl
apart (q ∷ xs) ys p once there =
    let parts = or_false (is_among (xs ++ ys) q) (has_twice (xs ++ ys)) once in
    elim (places_tell p q) [
      | inl same ↦
          let twice : is_among (xs ++ ys) p ≡ true = list_any-append (same_place p) xs ys ∙ or_true (is_among xs p) (is_among ys p) there in
          absurd (false≢true (sym parts.0 ∙ ap (is_among (xs ++ ys)) (sym same.1) ∙ twice))
      | inr other ↦ ap (λ b. b || is_among xs p) other.0 ∙ apart xs ys p parts.1 there
    ]

pub raise_step : (by : ℕ) (start now new : List (List ℕ)) (runs : List Run) (i : ℕ) (run : Run) → i < length runs → run ≡ get_or runs i run → has_twice (places_in runs) ≡ false
    → AreRaised by (places_in (take i runs)) start now → AreRaised by (places_of run) now new → AreRaised by (places_in (take (i + 1) runs)) start new
raise_step by start now new runs i run low is once so_far step p =
    let f : ℕ → ℕ = λ n. (n + by) % 2 ^ 64 in
    let a : Bool = is_among (places_in (take i runs)) p in
    let b : Bool = is_among (places_of run) p in
    let both : is_among (places_in (take (i + 1) runs)) p ≡ (a || b) =
    ap (λ rs. is_among (places_in rs) p) (take_more runs i run low ∙ ap (λ r. take i runs ++ r ∷ []) (sym is))
    ∙ ap (λ ps. is_among ps p) (flat_map-append places_of (take i runs) (run ∷ []) ∙ ap (λ ps. places_in (take i runs) ++ ps) (append-nil (places_of run)))
    ∙ list_any-append (same_place p) (places_in (take i runs)) (places_of run) in
    let whole : places_in runs ≡ places_in (take i runs) ++ places_in (drop i runs) = ap places_in (sym (take-append-drop i runs)) ∙ flat_map-append places_of (take i runs) (drop i runs) in
    let behind : is_among (places_in (drop i runs)) p ≡ (b || is_among (places_in (drop (i + 1) runs)) p) = ap (λ rs. is_among (places_in rs) p) (run_at runs i run low is) ∙ list_any-append (same_place p) (places_of run) (places_in (drop (i + 1) runs)) in
    let differ : b ≡ true → a ≡ false = λ e. apart (places_in (take i runs)) (places_in (drop i runs)) p (ap has_twice (sym whole) ∙ once) (behind ∙ ap (λ z. z || is_among (places_in (drop (i + 1) runs)) p) e) in
    let go : (x y : Bool) (o : Option ℕ) → (y ≡ true → x ≡ false) → cond y (option_map f (cond x (option_map f o) o)) (cond x (option_map f o) o) ≡ cond (x || y) (option_map f o) o =
    λ x y o. elim y as (λ z. (z ≡ true → x ≡ false) → cond z (option_map f (cond x (option_map f o) o)) (cond x (option_map f o) o) ≡ cond (x || z) (option_map f o) o) [
      | true ↦ λ h. let no : x ≡ false = h refl in ap (λ w. option_map f (cond w (option_map f o) o)) no ∙ sym (ap (λ w. cond (w || true) (option_map f o) o) no)
      | false ↦ λ h. elim x as (λ w. cond w (option_map f o) o ≡ cond (w || false) (option_map f o) o) [ true ↦ refl | false ↦ refl ]
    ] in
    step p ∙ ap (λ o. cond b (option_map f o) o) (so_far p) ∙ go a b (element_at start p) differ ∙ sym (ap (λ z. cond z (option_map f (element_at start p)) (element_at start p)) both)

pub none_raised : (by : ℕ) (start : List (List ℕ)) → AreRaised by [] start start
none_raised by start p = refl

-- the number behind one that was added to
raised_behind : (by : ℕ) (b : Bool) (o : Option ℕ) (n : ℕ) → cond b (option_map (λ m. (m + by) % 2 ^ 64) o) o ≡ Some n → (m : ℕ) × ((o ≡ Some m) × (cond b ((m + by) % 2 ^ 64) m ≡ n))
raised_behind by true None n e = cc
raised_behind by true (Some m) n e = (m, (refl, cc))
raised_behind by false None n e = cc
raised_behind by false (Some m) n e = (m, (refl, cc))

-- ---- counts and tests

count_cons : {X : Type 0} → (f : X → Bool) (x : X) (xs : List X) → count_by f (x ∷ xs) ≡ cond (f x) 1 0 + count_by f xs
count_cons {X} f x xs =
    let one : sum_by (λ (y : X). cond (f y) 1 0) (x ∷ []) ≡ cond (f x) 1 0 = omega arith in
    sum_by-append (λ (y : X). cond (f y) 1 0) (x ∷ []) xs ∙ ap (λ n. n + count_by f xs) one

pub any_counted : {X : Type 0} → (f : X → Bool) (xs : List X) → ltb 0 (count_by f xs) ≡ list_any f xs
any_counted f [] = refl
any_counted {X} f (x ∷ xs) =
    let go : (b : Bool) → ltb 0 (cond b 1 0 + count_by f xs) ≡ (b || list_any f xs) =
    λ b. elim b as (λ z. ltb 0 (cond z 1 0 + count_by f xs) ≡ (z || list_any f xs)) [
      | true ↦ grind (arith, nat_tests)
      | false ↦ (let e : 0 + count_by f xs ≡ count_by f xs = omega arith in ap (ltb 0) e) ∙ any_counted f xs
    ] in
    ap (ltb 0) (count_cons f x xs) ∙ go (f x)

count_append : {X : Type 0} → (f : X → Bool) (xs : List X) (x : X) → count_by f (xs ++ x ∷ []) ≡ count_by f xs + cond (f x) 1 0
count_append {X} f xs x =
    let one : sum_by (λ (y : X). cond (f y) 1 0) (x ∷ []) ≡ cond (f x) 1 0 = omega arith in
    sum_by-append (λ (y : X). cond (f y) 1 0) xs (x ∷ []) ∙ ap (λ n. count_by f xs + n) one

count_remove : {X : Type 0} → (f : X → Bool) (xs : List X) (i : ℕ) (x : X) → i < length xs → get_or xs i x ≡ x → count_by f (remove xs i) + cond (f x) 1 0 ≡ count_by f xs
count_remove f [] i x low is = absurd (omega arith)
count_remove f (y ∷ xs) zero x low is = ap (λ z. count_by f xs + cond (f z) 1 0) (sym is) ∙ (let e : count_by f xs + cond (f y) 1 0 ≡ cond (f y) 1 0 + count_by f xs = omega arith in e) ∙ sym (count_cons f y xs)
count_remove f (y ∷ xs) (suc i) x low is =
    let rest = count_remove f xs i x (omega arith) is in
    ap (λ n. n + cond (f x) 1 0) (count_cons f y (remove xs i))
    ∙ (let e : (cond (f y) 1 0 + count_by f (remove xs i)) + cond (f x) 1 0 ≡ cond (f y) 1 0 + (count_by f (remove xs i) + cond (f x) 1 0) = omega arith in e)
    ∙ ap (λ n. cond (f y) 1 0 + n) rest
    ∙ sym (count_cons f y xs)

-- ---- directions

pub in_same : (input : Bool) (p : Place) (e : Pending) → e.input ≡ input → holds_in input p e ≡ is_among e.places p
in_same true p e same = ap (λ b. b && is_among e.places p) same
in_same false p e same = ap (λ b. not b && is_among e.places p) same

pub in_other : (input : Bool) (p : Place) (e : Pending) → e.input ≡ not input → holds_in input p e ≡ false
in_other true p e same = ap (λ b. b && is_among e.places p) same
in_other false p e same = ap (λ b. not b && is_among e.places p) same

-- ---- runs in place of their places

-- one transfer more is looked at
pub hold_step : (input b : Bool) (entries : List Pending) (at : ℕ) (e : Pending) (places : List Place) → at < length entries → e ≡ get_or entries at e → b ≡ list_any (λ place. holds_in input place e) places
    → list_any (λ place. list_any (holds_in input place) (drop at entries)) places ≡ (b || list_any (λ place. list_any (holds_in input place) (drop (at + 1) entries)) places)
hold_step input b entries at e places low is made =
    ap (λ es. list_any (λ place. list_any (holds_in input place) es) places) (item_at entries at e low is)
    ∙ any_or (λ place. holds_in input place e) (λ place. list_any (holds_in input place) (drop (at + 1) entries)) places
    ∙ ap (λ c. c || list_any (λ place. list_any (holds_in input place) (drop (at + 1) entries)) places) (sym made)

pub none_holds : (input : Bool) (entries : List Pending) (at : ℕ) (places : List Place) → length entries ≤ at → false ≡ list_any (λ place. list_any (holds_in input place) (drop at entries)) places
none_holds input entries at places past = sym (ap (λ es. list_any (λ place. list_any (holds_in input place) es) places) (none_left entries at past) ∙ any_never places)

pub one_holds : (input : Bool) (e : Pending) (places : List Place) → e.input ≡ input → list_any (is_among e.places) places ≡ list_any (λ place. holds_in input place e) places
one_holds input e places same = any_same (is_among e.places) (λ place. holds_in input place e) (λ p. sym (in_same input p e same)) places

pub other_holds : (input : Bool) (e : Pending) (places : List Place) → e.input ≡ not input → false ≡ list_any (λ place. holds_in input place e) places
other_holds input e places same = sym (any_same (λ place. holds_in input place e) (λ place. false) (λ p. in_other input p e same) places ∙ any_never places)

-- a test of numbers in a row, and of the places of a run
pub any_counted_at : (rows : List (List ℕ)) (row : List ℕ) (places : List Place) (holds : Place → Bool) → map Some row ≡ map (element_at rows) places → ((p : Place) (n : ℕ) → element_at rows p ≡ Some n → holds p ≡ ltb 0 n) → list_any (ltb 0) row ≡ list_any holds places
any_counted_at rows [] [] holds read there = refl
any_counted_at rows [] (p ∷ places) holds read there = cc
any_counted_at rows (n ∷ row) [] holds read there = cc
any_counted_at rows (n ∷ row) (p ∷ places) holds read there =
    let here : Some n ≡ element_at rows p = cc in
    let rest : map Some row ≡ map (element_at rows) places = cc in
    ap (λ b. b || list_any (ltb 0) row) (sym (there p n (sym here))) ∙ ap (λ b. holds p || b) (any_counted_at rows row places holds rest there)

-- ---- a transfer more, and a transfer less

pub counted_more : (input : Bool) (start now : List (List ℕ)) (entries : List Pending) (e : Pending) → IsCounted input start entries → AreRaised 1 e.places start now → length entries < 18446744073709551615
    → ((p : Place) → holds_in input p e ≡ is_among e.places p) → IsCounted input now (entries ++ e ∷ [])
counted_more input start now entries e counted raised few holds p n here =
    let b : Bool = is_among e.places p in
    let behind = raised_behind 1 b (element_at start p) n (sym (raised p) ∙ here) in
    let m : ℕ = behind.0 in
    let was : m ≡ count_by (holds_in input p) entries = counted p m behind.1.0 in
    let low : m < 18446744073709551615 = let le = count_by-le-length (holds_in input p) entries in omega (arith, was, le, few) in
    let go : (c : Bool) → cond c ((m + 1) % 2 ^ 64) m ≡ m + cond c 1 0 = λ c. elim c as (λ z. cond z ((m + 1) % 2 ^ 64) m ≡ m + cond z 1 0) [
      | true ↦ mod-eq_of_lt {n = m + 1} {m = 2 ^ 64} (omega (arith, low))
      | false ↦ (let z : m ≡ m + 0 = omega arith in z)
    ] in
    sym behind.1.1 ∙ go b ∙ ap (λ k. k + cond b 1 0) was ∙ ap (λ c. count_by (holds_in input p) entries + cond c 1 0) (sym (holds p)) ∙ sym (count_append (holds_in input p) entries e)

pub counted_still : (input : Bool) (start : List (List ℕ)) (entries : List Pending) (e : Pending) → IsCounted input start entries → ((p : Place) → holds_in input p e ≡ false) → IsCounted input start (entries ++ e ∷ [])
counted_still input start entries e counted holds p n here =
    counted p n here ∙ sym (count_append (holds_in input p) entries e ∙ ap (λ b. count_by (holds_in input p) entries + cond b 1 0) (holds p) ∙ (let z : count_by (holds_in input p) entries + 0 ≡ count_by (holds_in input p) entries = omega arith in z))

pub counted_less : (input : Bool) (start now : List (List ℕ)) (entries : List Pending) (at : ℕ) (e : Pending) → at < length entries → length entries < 18446744073709551616 → get_or entries at e ≡ e → IsCounted input start entries
    → AreRaised 18446744073709551615 e.places start now → ((p : Place) → holds_in input p e ≡ is_among e.places p) → IsCounted input now (remove entries at)
counted_less input start now entries at e low few is counted raised holds p n here =
    let b : Bool = is_among e.places p in
    let behind = raised_behind 18446744073709551615 b (element_at start p) n (sym (raised p) ∙ here) in
    let m : ℕ = behind.0 in
    let was : m ≡ count_by (holds_in input p) entries = counted p m behind.1.0 in
    let most = count_by-le-length (holds_in input p) entries in
    let rest : count_by (holds_in input p) (remove entries at) + cond b 1 0 ≡ m = ap (λ c. count_by (holds_in input p) (remove entries at) + cond c 1 0) (sym (holds p)) ∙ count_remove (holds_in input p) entries at e low is ∙ sym was in
    let go : (c : Bool) → count_by (holds_in input p) (remove entries at) + cond c 1 0 ≡ m → cond c ((m + 18446744073709551615) % 2 ^ 64) m ≡ count_by (holds_in input p) (remove entries at) =
    λ c. elim c as (λ z. count_by (holds_in input p) (remove entries at) + cond z 1 0 ≡ m → cond z ((m + 18446744073709551615) % 2 ^ 64) m ≡ count_by (holds_in input p) (remove entries at)) [
      | true ↦ λ h.
          let k : ℕ = count_by (holds_in input p) (remove entries at) in
          let turned : m + 18446744073709551615 ≡ k + 2 ^ 64 = omega (arith, h) in
          ap (λ x. x % 2 ^ 64) turned ∙ add-mod_right k (2 ^ 64) ∙ mod-eq_of_lt {n = k} {m = 2 ^ 64} (omega (arith, h, was, most, few))
      | false ↦ λ h. (let z : m ≡ count_by (holds_in input p) (remove entries at) = omega (arith, h) in z)
    ] in
    sym behind.1.1 ∙ go b rest

pub counted_left : (input : Bool) (start : List (List ℕ)) (entries : List Pending) (at : ℕ) (e : Pending) → at < length entries → get_or entries at e ≡ e → IsCounted input start entries → ((p : Place) → holds_in input p e ≡ false)
    → IsCounted input start (remove entries at)
counted_left input start entries at e low is counted holds p n here =
    let stays : count_by (holds_in input p) (remove entries at) + 0 ≡ count_by (holds_in input p) (remove entries at) = omega arith in
    counted p n here ∙ sym (count_remove (holds_in input p) entries at e low is) ∙ ap (λ b. count_by (holds_in input p) (remove entries at) + cond b 1 0) (holds p) ∙ stays

-- ---- tables where nothing is held

zero_in : (n m k : ℕ) → element_in k (replicate m 0) ≡ Some n → n ≡ 0
zero_in n m zero e = cc
zero_in n zero (suc k) e = cc
zero_in n (suc m) (suc zero) e = cc
zero_in n (suc m) (suc (suc k)) e = zero_in n m (suc k) e

pub zero_at : {A : Type 0} → (f : A → ℕ) (xs : List A) (p : Place) (n : ℕ) → element_at (map (λ x. replicate (f x) 0) xs) p ≡ Some n → n ≡ 0
zero_at {A} f xs p n = go xs p.var
  where
    go : (ys : List A) (var : ℕ) → option_and_then (element_in p.index) (slice_get (map (λ x. replicate (f x) 0) ys) var) ≡ Some n → n ≡ 0
    go [] zero e = cc
    go [] (suc var) e = cc
    go (y ∷ ys) zero e = zero_in n (f y) p.index e
    go (y ∷ ys) (suc var) e = go ys var e

-- ---- a new book

pub none_kept : {A : Type 0} → (f : A → ℕ) (xs : List A) (entries : List Pending) (inputs outputs : List (List ℕ)) → entries ≡ [] → inputs ≡ map (λ x. replicate (f x) 0) xs → outputs ≡ map (λ x. replicate (f x) 0) xs → IsKept entries inputs outputs
none_kept {A} f xs entries inputs outputs empty ins outs =
    let counted : (input : Bool) (table : List (List ℕ)) → table ≡ map (λ x. replicate (f x) 0) xs → IsCounted input table [] = λ input table is p n here. zero_at f xs p n (ap (λ rows. element_at rows p) (sym is) ∙ here) in
    let kept : IsKept [] inputs outputs = record { ascending = λ i j d lt within. absurd (omega arith); inputs_counted = counted true inputs ins; outputs_counted = counted false outputs outs } in
    let P : List Pending → Type 0 = λ es. IsKept es inputs outputs in
    subst P (sym empty) kept

pub kept_as : (entries left : List Pending) (inputs outputs : List (List ℕ)) → left ≡ entries → IsAscending entries → AreCounted entries inputs outputs → IsKept left inputs outputs
kept_as entries left inputs outputs same up counted =
    let P : List Pending → Type 0 = λ es. IsKept es inputs outputs in subst P (sym same) (record { ascending = up; inputs_counted = counted.0; outputs_counted = counted.1 })
