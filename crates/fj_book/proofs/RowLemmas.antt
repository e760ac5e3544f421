-- Numbers in two parts, which wrap.
use Rattle.std.proofs.Common.{◌≡◌, ℕ, zero, suc, ◌+◌, ◌-◌, ◌<◌, ◌≤◌, ◌%◌, ◌^◌, ◌&&◌, ◌||◌, cond, leb, ltb, Bool, true, false, List, [], ◌∷◌, length, map, take, drop, slice_get, set, All, Option, Some, None, refl, sym, ap, subst, ◌∙◌, inl, inr, arith, length-drop, length-take}
use Rattle.std.proofs.Math.Nat.{add-mod-mod, mod-eq_of_lt}
use Rattle.std.proofs.lemmas.Bool.Decides.{eqb_tells, nat_tests}
use Rattle.std.proofs.lemmas.Bool.{cases_lt}
use Rattle.std.proofs.lemmas.List.Elements.{All-head, All-tail, All-map, All-take, All-drop, All-weaker}
use Rattle.std.proofs.lemmas.Option.{slice_get-map, slice_get_past}
use Rattle.std.specs.List.{list_any}
use Rattle.std.specs.Option.{option_map}
use Rattle.fj_store.proofs.ListLemmas.{set_same, set_other}

-- ---- numbers that are added to, from a place up to another

abbrev pub added : ℕ → ℕ → ℕ
added by n = (n + by) % 2 ^ 64

abbrev pub AreAdded : ℕ → ℕ → ℕ → List ℕ → List ℕ → Type 0
AreAdded by from to old new = (at : ℕ) → slice_get new at ≡ cond (leb from at && ltb at to) (option_map (λ n. (n + by) % 2 ^ 64) (slice_get old at)) (slice_get old at)

pub none_added : (by from : ℕ) (old : List ℕ) → AreAdded by from from old old
none_added by from old at = let no : (leb from at && ltb at from) ≡ false = grind (arith, nat_tests) in sym (ap (λ b. cond b (option_map (λ n. (n + by) % 2 ^ 64) (slice_get old at)) (slice_get old at)) no)

pub add_step : (by from at : ℕ) (old now : List ℕ) (x : ℕ) → from ≤ at → AreAdded by from at old now → slice_get now at ≡ Some x → AreAdded by from (at + 1) old (set now at ((x + by) % 2 ^ 64))
add_step by from at old now x low so_far here k = elim (eqb_tells k at) [
  | inl same ↦
      let f : ℕ → ℕ = λ n. (n + by) % 2 ^ 64 in
      let before : (leb from at && ltb at at) ≡ false = grind (arith, nat_tests) in
      let behind : (leb from at && ltb at (at + 1)) ≡ true = grind (arith, nat_tests) in
      let was : slice_get old at ≡ Some x = sym (so_far at ∙ ap (λ b. cond b (option_map f (slice_get old at)) (slice_get old at)) before) ∙ here in
      let P : ℕ → Type 0 = λ n. slice_get (set now at ((x + by) % 2 ^ 64)) n ≡ cond (leb from n && ltb n (at + 1)) (option_map f (slice_get old n)) (slice_get old n) in
      subst P (sym same.1) (set_same now at ((x + by) % 2 ^ 64) x here ∙ sym (ap (λ b. cond b (option_map f (slice_get old at)) (slice_get old at)) behind ∙ ap (option_map f) was))
  | inr other ↦
      let f : ℕ → ℕ = λ n. (n + by) % 2 ^ 64 in
      let same : (leb from k && ltb k at) ≡ (leb from k && ltb k (at + 1)) = ap (λ b. leb from k && b) (let e : ltb k at ≡ ltb k (at + 1) = grind (arith, nat_tests) in e) in
      set_other now at k ((x + by) % 2 ^ 64) other.1 ∙ so_far k ∙ ap (λ b. cond b (option_map f (slice_get old k)) (slice_get old k)) same
]

-- what is added to one part is added to the sum
pub sum_more : (all by n : ℕ) → ((all + by) % 2 ^ 64 + n) % 2 ^ 64 ≡ ((all + n) % 2 ^ 64 + by) % 2 ^ 64
sum_more all by n =
    let left : ((all + by) % 2 ^ 64 + n) % 2 ^ 64 ≡ (n + (all + by)) % 2 ^ 64 = ap (λ m. m % 2 ^ 64) (let e : (all + by) % 2 ^ 64 + n ≡ n + (all + by) % 2 ^ 64 = omega arith in e) ∙ add-mod-mod n (all + by) (2 ^ 64) in
    let right : ((all + n) % 2 ^ 64 + by) % 2 ^ 64 ≡ (by + (all + n)) % 2 ^ 64 = ap (λ m. m % 2 ^ 64) (let e : (all + n) % 2 ^ 64 + by ≡ by + (all + n) % 2 ^ 64 = omega arith in e) ∙ add-mod-mod by (all + n) (2 ^ 64) in
    left ∙ ap (λ m. m % 2 ^ 64) (let e : n + (all + by) ≡ by + (all + n) = omega arith in e) ∙ sym right

pub part_more : (all by n : ℕ) → (all + (n + by) % 2 ^ 64) % 2 ^ 64 ≡ ((all + n) % 2 ^ 64 + by) % 2 ^ 64
part_more all by n =
    let right : ((all + n) % 2 ^ 64 + by) % 2 ^ 64 ≡ (by + (all + n)) % 2 ^ 64 = ap (λ m. m % 2 ^ 64) (let e : (all + n) % 2 ^ 64 + by ≡ by + (all + n) % 2 ^ 64 = omega arith in e) ∙ add-mod-mod by (all + n) (2 ^ 64) in
    add-mod-mod all (n + by) (2 ^ 64) ∙ ap (λ m. m % 2 ^ 64) (let e : all + (n + by) ≡ by + (all + n) = omega arith in e) ∙ sym right

abbrev pub sums : ℕ → List ℕ → List ℕ
sums all each = map (λ n. (all + n) % 2 ^ 64) each

-- added to all of them
pub all_added : (all by from to : ℕ) (each now : List ℕ) → sums all each ≡ now → from ≡ 0 → to ≡ length each → AreAdded by from to now (sums ((all + by) % 2 ^ 64) each)
all_added all by from to each now view zeroth whole at =
    let f : ℕ → ℕ = λ n. (n + by) % 2 ^ 64 in
    let read : slice_get now at ≡ option_map (λ n. (all + n) % 2 ^ 64) (slice_get each at) = ap (λ xs. slice_get xs at) (sym view) ∙ slice_get-map (λ n. (all + n) % 2 ^ 64) each at in
    slice_get-map (λ n. ((all + by) % 2 ^ 64 + n) % 2 ^ 64) each at
    ∙ elim (cases_lt at (length each)) [
      | inl low ↦
          let yes : (leb from at && ltb at to) ≡ true = grind (arith, nat_tests) in
          let go : (o : Option ℕ) → option_map (λ n. ((all + by) % 2 ^ 64 + n) % 2 ^ 64) o ≡ option_map f (option_map (λ n. (all + n) % 2 ^ 64) o) =
          λ o. elim o as (λ z. option_map (λ n. ((all + by) % 2 ^ 64 + n) % 2 ^ 64) z ≡ option_map f (option_map (λ n. (all + n) % 2 ^ 64) z)) [ None ↦ refl | Some n ↦ ap (λ m. Some m) (sum_more all by n) ] in
          go (slice_get each at) ∙ sym (ap (λ b. cond b (option_map f (slice_get now at)) (slice_get now at)) yes ∙ ap (option_map f) read)
      | inr past ↦
          let no : (leb from at && ltb at to) ≡ false = grind (arith, nat_tests) in
          let none : slice_get each at ≡ None = slice_get_past each at past in
          ap (option_map (λ n. ((all + by) % 2 ^ 64 + n) % 2 ^ 64)) none
          ∙ sym (ap (λ b. cond b (option_map f (slice_get now at)) (slice_get now at)) no ∙ read ∙ ap (option_map (λ n. (all + n) % 2 ^ 64)) none)
    ]

-- added to some of them
pub part_added : (all by from to : ℕ) (each each' now : List ℕ) → sums all each ≡ now → AreAdded by from to each each' → AreAdded by from to now (sums all each')
part_added all by from to each each' now view parts at =
    let f : ℕ → ℕ = λ n. (n + by) % 2 ^ 64 in
    let g : ℕ → ℕ = λ n. (all + n) % 2 ^ 64 in
    let read : slice_get now at ≡ option_map g (slice_get each at) = ap (λ xs. slice_get xs at) (sym view) ∙ slice_get-map g each at in
    let go : (b : Bool) (o : Option ℕ) → option_map g (cond b (option_map f o) o) ≡ cond b (option_map f (option_map g o)) (option_map g o) =
    λ b o. elim b as (λ z. option_map g (cond z (option_map f o) o) ≡ cond z (option_map f (option_map g o)) (option_map g o)) [
      | true ↦ elim o as (λ z. option_map g (option_map f z) ≡ option_map f (option_map g z)) [ None ↦ refl | Some n ↦ ap (λ m. Some m) (part_more all by n) ]
      | false ↦ refl
    ] in
    slice_get-map g each' at ∙ ap (option_map g) (parts at) ∙ go (leb from at && ltb at to) (slice_get each at)
    ∙ ap (λ o. cond (leb from at && ltb at to) (option_map f o) o) (sym read)

-- ---- tests

pub any_mapped_part : (all from n : ℕ) (each now : List ℕ) → sums all each ≡ now → list_any (λ m. ltb 0 ((all + m) % 2 ^ 64)) (take n (drop from each)) ≡ list_any (ltb 0) (take n (drop from now))
any_mapped_part all from n each now view = ap (λ xs. list_any (λ m. ltb 0 ((all + m) % 2 ^ 64)) xs) refl ∙ go from n each ∙ ap (λ xs. list_any (ltb 0) (take n (drop from xs))) view
  where
    front : (k : ℕ) (xs : List ℕ) → list_any (λ m. ltb 0 ((all + m) % 2 ^ 64)) (take k xs) ≡ list_any (ltb 0) (take k (sums all xs))
    front zero xs = refl
    front (suc k) [] = refl
    front (suc k) (x ∷ xs) = ap (λ b. ltb 0 ((all + x) % 2 ^ 64) || b) (front k xs)

    go : (i k : ℕ) (xs : List ℕ) → list_any (λ m. ltb 0 ((all + m) % 2 ^ 64)) (take k (drop i xs)) ≡ list_any (ltb 0) (take k (drop i (sums all xs)))
    go zero k xs = front k xs
    go (suc i) k [] = front k []
    go (suc i) k (x ∷ xs) = go i k xs

any_same : (b : Bool) (xs : List ℕ) → All (λ n. ltb 0 n ≡ b) xs → list_any (ltb 0) xs ≡ (ltb 0 (length xs) && b)
any_same b [] h = refl
any_same b (x ∷ xs) h =
    let once : (c d : Bool) → (c || (d && c)) ≡ c = λ c d. elim c as (λ z. (z || (d && z)) ≡ z) [ true ↦ refl | false ↦ elim d as (λ z. (z && false) ≡ false) [ true ↦ refl | false ↦ refl ] ] in
    let more : ltb 0 (suc (length xs)) ≡ true = grind (arith, nat_tests) in
    ap (λ c. c || list_any (ltb 0) xs) (All-head (λ n. ltb 0 n ≡ b) x xs h)
    ∙ ap (λ c. b || c) (any_same b xs (All-tail (λ n. ltb 0 n ≡ b) x xs h))
    ∙ once b (ltb 0 (length xs)) ∙ sym (ap (λ c. c && b) more)

-- where nothing was counted by itself
pub any_of_same : (all from to : ℕ) (each now : List ℕ) → sums all each ≡ now → All (λ n. n ≡ 0) each → all < 2 ^ 64 → from ≤ to → to ≤ length now → list_any (ltb 0) (take (to - from) (drop from now)) ≡ (ltb from to && ltb 0 all)
any_of_same all from to each now view zeros fits order low =
    let P : ℕ → Type 0 = λ n. ltb 0 n ≡ ltb 0 all in
    let one : (n : ℕ) → n ≡ 0 → P ((all + n) % 2 ^ 64) = λ n e. ap (ltb 0) (mod-eq_of_lt {n = all + n} {m = 2 ^ 64} (omega (arith, e, fits)) ∙ (let z : all + n ≡ all = omega (arith, e) in z)) in
    let seen : All P now = subst (All P) view (All-map P (λ n. (all + n) % 2 ^ 64) each (All-weaker (λ n. n ≡ 0) (λ n. P ((all + n) % 2 ^ 64)) one each zeros)) in
    let cut : List ℕ = take (to - from) (drop from now) in
    let long : length cut ≡ to - from = omega (arith, length-take (to - from) (drop from now), length-drop from now, order, low) in
    let same : ltb 0 (length cut) ≡ ltb from to = ap (ltb 0) long ∙ grind (arith, nat_tests) in
    any_same (ltb 0 all) cut (All-take P (to - from) (drop from now) (All-drop P from now seen)) ∙ ap (λ b. b && ltb 0 all) same
