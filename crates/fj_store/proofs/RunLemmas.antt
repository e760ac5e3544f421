-- Runs beside one another, and rows of a table at the places of a run.
use Rattle.std.proofs.Common.{◌≡◌, ℕ, zero, suc, ◌+◌, ◌-◌, ◌<◌, ◌≤◌, ◌&&◌, ◌||◌, max, min, eqb, ltb, Bool, true, false, List, [], ◌∷◌, length, map, take, drop, Option, Some, None, is_none, Result, Ok, Err, refl, sym, ap, subst, ◌∙◌, inl, inr, arith}
use Rattle.std.specs.List.{list_any}
use Rattle.std.specs.Option.{option_and_then}
use Rattle.std.specs.Prelude.{slice_get, IfOk, IfSome}
use Rattle.std.proofs.lemmas.Bool.{cases_lt, false≢true}
use Rattle.std.proofs.lemmas.Option.{slice_get_past}
use Rattle.std.proofs.lemmas.Bool.Decides.{eqb_tells, nat_tests}
use Rattle.std.proofs.lemmas.List.{length-map, take_all}
use Rattle.std.proofs.lemmas.List.Folds.{list_any_at}
use Rattle.fj_value.specs.declared.place.Place.{Place}
use Rattle.fj_store.specs.Places.{is_among, counted_from}
use Rattle.fj_store.specs.Tables.{element_in, element_at}
use Rattle.fj_store.proofs.PlaceLemmas.{length-counted_from, other_var, below_first, from_first, counted_at}

-- ---- two runs

no_test : (b : Bool) → (b && false) ≡ false
no_test true = refl
no_test false = refl

apart : (var first n other from m : ℕ) → eqb other var ≡ false → list_any (is_among (counted_from var first n)) (counted_from other from m) ≡ false
apart var first n other from zero ne = refl
apart var first n other from (suc m) ne =
    let here : is_among (counted_from var first n) (record { var = other; index = from }) ≡ false = other_var var first n (record { var = other; index = from }) (λ e. elim (eqb_tells other var) [
      | inl same ↦ absurd (let never : false ≡ true = sym ne ∙ same.0 in cc)
      | inr differ ↦ differ.1 e
    ]) in
    rw here (apart var first n other (from + 1) m ne)

-- runs of one variable
one_var : (var first n from m : ℕ) → list_any (is_among (counted_from var first n)) (counted_from var from m) ≡ ltb (max from first) (min (from + m) (first + n))
one_var var first n from zero = let none : ltb (max from first) (min (from + 0) (first + n)) ≡ false = grind (arith, nat_tests) in sym none
one_var var first n from (suc m) =
    let p : Place = record { var = var; index = from } in
    let rest = one_var var first n (from + 1) m in
    elim (cases_lt from first) [
      | inl low ↦
          let here : is_among (counted_from var first n) p ≡ false = below_first var first n p low in
          let same : ltb (max (from + 1) first) (min ((from + 1) + m) (first + n)) ≡ ltb (max from first) (min (from + suc m) (first + n)) = grind (arith, nat_tests) in
          rw here (rest ∙ same)
      | inr high ↦
          let here : is_among (counted_from var first n) p ≡ ltb (from - first) n = from_first var first n p refl (omega arith) in
          elim (cases_lt (from - first) n) [
            | inl within ↦
                let yes : ltb (from - first) n ≡ true = grind (arith, nat_tests) in
                let all : ltb (max from first) (min (from + suc m) (first + n)) ≡ true = grind (arith, nat_tests) in
                rw (here ∙ yes) (sym all)
            | inr past ↦
                let no : ltb (from - first) n ≡ false = grind (arith, nat_tests) in
                let all : ltb (max from first) (min (from + suc m) (first + n)) ≡ false = grind (arith, nat_tests) in
                let none : ltb (max (from + 1) first) (min ((from + 1) + m) (first + n)) ≡ false = grind (arith, nat_tests) in
                rw (here ∙ no) (rest ∙ none ∙ sym all)
          ]
    ]

pub meet_is : (var first n other from m : ℕ) → list_any (is_among (counted_from var first n)) (counted_from other from m) ≡ (eqb other var && ltb (max from first) (min (from + m) (first + n)))
meet_is var first n other from m = elim (eqb_tells other var) [
  | inl same ↦ ap (λ v. list_any (is_among (counted_from var first n)) (counted_from v from m)) same.1 ∙ one_var var first n from m ∙ sym (ap (λ b. b && ltb (max from first) (min (from + m) (first + n))) same.0)
  | inr differ ↦ apart var first n other from m differ.0 ∙ sym (ap (λ b. b && ltb (max from first) (min (from + m) (first + n))) differ.0)
]

-- ---- a row at the places of a run

cut : {T : Type 0} → (row : List T) (k : ℕ) → k < length row → (x : T) × ((slice_get row k ≡ Some x) × (drop k row ≡ x ∷ drop (suc k) row))
cut [] k low = absurd (let never : ⊥ = omega (arith, low) in never)
cut (x ∷ row) zero low = (x, (refl, refl))
cut (x ∷ row) (suc k) low = cut row k (omega arith)

pub row_at : {T : Type 0} → (rows : List (List T)) (row : List T) (var k n : ℕ) → slice_get rows var ≡ Some row → k + n ≤ length row → map Some (take n (drop k row)) ≡ map (element_at rows) (counted_from var (k + 1) n)
row_at rows row var k zero found low = refl
row_at {T} rows row var k (suc n) found low =
    let here = cut row k (omega arith) in
    let next : k + 1 ≡ suc k = omega arith in
    let place : Place = record { var = var; index = suc k } in
    let there : element_at rows place ≡ Some here.0 = ap (option_and_then (element_in (suc k))) found ∙ here.1.0 in
    let rest : map Some (take n (drop (k + 1) row)) ≡ map (element_at rows) (counted_from var ((k + 1) + 1) n) = row_at rows row var (k + 1) n found (omega arith) in
    ap (λ xs. map Some (take (suc n) xs)) here.1.1
    ∙ ap (λ xs. Some here.0 ∷ xs) (ap (λ j. map Some (take n (drop j row))) (sym next) ∙ rest)
    ∙ ap (λ o. o ∷ map (element_at rows) (counted_from var ((k + 1) + 1) n)) (sym there)
    ∙ ap (λ j. element_at rows (record { var = var; index = j }) ∷ map (element_at rows) (counted_from var ((k + 1) + 1) n)) (sym next)

-- a whole row
pub row_whole : {T : Type 0} → (rows : List (List T)) (row row' : List T) (var first n : ℕ) → slice_get rows var ≡ Some row → row' ≡ row → first ≡ 1 → n ≡ length row → map Some row' ≡ map (element_at rows) (counted_from var first n)
row_whole rows row row' var first n found same begins ends =
    ap (map Some) (same ∙ sym (take_all n row (omega (arith, ends))))
    ∙ row_at rows row var 0 n found (omega (arith, ends))
    ∙ ap (λ k. map (element_at rows) (counted_from var k n)) (sym begins)

-- what follows where something was shared
pub shared_so : {X E : Type 0} {P Q : X → Type 0} → (r : Result (Option X) E) → ((x : X) → P x → Q x) → IfOk r (λ o. IfSome o P) → IfOk r (λ o. IfSome o Q)
shared_so (Ok (Some x)) follows h = follows x h
shared_so (Ok None) follows h = h
shared_so (Err e) follows h = h

pub shared_is : {T : Type 0} → (rows : List (List T)) (places : List Place) (o : Option (List T)) (row : List T) → o ≡ Some row → IfSome o (λ xs. map Some xs ≡ map (element_at rows) places) → map Some row ≡ map (element_at rows) places
shared_is {T} rows places o row is h = let P : Option (List T) → Type 0 = λ z. IfSome z (λ xs. map Some xs ≡ map (element_at rows) places) in subst P is h

-- a place that there is not
pub lost_at : {T : Type 0} → (rows : List (List T)) (var first n k : ℕ) → k < n → element_at rows (record { var = var; index = first + k }) ≡ None → list_any (λ place. is_none (element_at rows place)) (counted_from var first n) ≡ true
lost_at {T} rows var first n k low lost =
    let d : Place = record { var = var; index = first } in
    list_any_at (λ (place : Place). is_none (element_at rows place)) (counted_from var first n) k d (omega (arith, low, length-counted_from var first n))
    (ap (λ p. is_none (element_at rows p)) (counted_at var first n k d low) ∙ ap (λ (o : Option T). is_none o) lost)

-- the last place of a run that ends behind a row
pub lost_end : {T : Type 0} → (rows : List (List T)) (row : List T) (var first k n : ℕ) → slice_get rows var ≡ Some row → first ≡ k + 1 → 0 < n → length row < k + n
    → list_any (λ place. is_none (element_at rows place)) (counted_from var first n) ≡ true
lost_end {T} rows row var first k n found is some past =
    let last : first + (n - 1) ≡ suc (k + (n - 1)) = omega arith in
    let none : slice_get row (k + (n - 1)) ≡ None = slice_get_past row (k + (n - 1)) (omega arith) in
    let there : element_at rows (record { var = var; index = first + (n - 1) }) ≡ None =
    ap (option_and_then (element_in (first + (n - 1)))) found ∙ ap (λ i. element_in i row) last ∙ none in
    lost_at rows var first n (n - 1) (omega arith) there

-- ---- tests of the places of a run

pub any_mapped : {X Y : Type 0} → (f : Y → Bool) (g : X → Y) (xs : List X) → list_any f (map g xs) ≡ list_any (λ x. f (g x)) xs
any_mapped f g [] = refl
any_mapped f g (x ∷ xs) = ap (λ b. f (g x) || b) (any_mapped f g xs)

pub any_same : {X : Type 0} → (f g : X → Bool) → ((x : X) → f x ≡ g x) → (xs : List X) → list_any f xs ≡ list_any g xs
any_same f g same [] = refl
any_same f g same (x ∷ xs) = ap (λ b. b || list_any f xs) (same x) ∙ ap (λ b. g x || b) (any_same f g same xs)

-- a test of what stands at the places of a run, by its row
pub any_at_run : {T : Type 0} → (rows : List (List T)) (row : List T) (places : List Place) (f : T → Bool) (test : Option T → Bool) (g : Place → Bool) → map Some row ≡ map (element_at rows) places
    → ((x : T) → f x ≡ test (Some x)) → ((p : Place) → g p ≡ test (element_at rows p)) → list_any f row ≡ list_any g places
any_at_run {T} rows row places f test g read same there =
    any_same f (λ x. test (Some x)) same row
    ∙ sym (any_mapped test (λ (x : T). Some x) row)
    ∙ ap (list_any test) read
    ∙ any_mapped test (element_at rows) places
    ∙ sym (any_same g (λ p. test (element_at rows p)) there places)

-- where one place is not there
pub any_lost : {T : Type 0} → (rows : List (List T)) (places : List Place) (test : Option T → Bool) (g : Place → Bool) → list_any (λ place. is_none (element_at rows place)) places ≡ true → test None ≡ true
    → ((p : Place) → g p ≡ test (element_at rows p)) → true ≡ list_any g places
any_lost {T} rows [] test g lost passes there = absurd (false≢true lost)
any_lost {T} rows (p ∷ places) test g lost passes there =
    let go : (o : Option T) → element_at rows p ≡ o → (is_none o || list_any (λ place. is_none (element_at rows place)) places) ≡ true → true ≡ (g p || list_any g places) =
    λ o. elim o as (λ z. element_at rows p ≡ z → (is_none z || list_any (λ place. is_none (element_at rows place)) places) ≡ true → true ≡ (g p || list_any g places)) [
      | None ↦ λ is e. let here : g p ≡ true = there p ∙ ap test is ∙ passes in sym (ap (λ b. b || list_any g places) here)
      | Some x ↦ λ is e. any_lost rows places test g e passes there ∙ or_more (g p) (list_any g places) (any_lost rows places test g e passes there)
    ] in
    go (element_at rows p) refl lost
  where
    or_more : (a b : Bool) → true ≡ b → b ≡ (a || b)
    or_more true b e = sym e
    or_more false b e = refl

-- ---- what is read at the places of a run

pub run_long : {T : Type 0} → (rows : List (List T)) (row : List T) (var first n : ℕ) → map Some row ≡ map (element_at rows) (counted_from var first n) → length row ≡ n
run_long {T} rows row var first n read =
    sym (length-map row (λ (y : T). Some y)) ∙ ap length read ∙ length-map (counted_from var first n) (element_at rows) ∙ length-counted_from var first n

-- none of them passes a test that no element of the variable passes
pub none_in_run : {T : Type 0} → (p : T → Bool) (rows : List (List T)) (values : List T) (var first n : ℕ) → ((place : Place) → place.var ≡ var → IfSome (element_at rows place) (λ x. p x ≡ false))
    → map Some values ≡ map (element_at rows) (counted_from var first n) → list_any p values ≡ false
none_in_run p rows [] var first n none read = refl
none_in_run p rows (x ∷ values) var first zero none read = absurd (let never : ⊥ = cc in never)
none_in_run p rows (x ∷ values) var first (suc n) none read =
    let place : Place = record { var = var; index = first } in
    let here : Some x ≡ element_at rows place = cc in
    let rest : map Some values ≡ map (element_at rows) (counted_from var (first + 1) n) = cc in
    ap (λ b. b || list_any p values) (subst (λ o. IfSome o (λ y. p y ≡ false)) (sym here) (none place refl)) ∙ none_in_run p rows values var (first + 1) n none rest
