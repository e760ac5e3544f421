-- Units by their numbers: one that is found, one that is replaced, one that goes and one that comes.
use Rattle.std.proofs.Common.{◌≡◌, ℕ, suc, ◌+◌, ◌<◌, ◌≤◌, Bool, true, false, not, List, [], ◌∷◌, map, length, Some, None, refl, sym, ap, ◌∙◌, subst, ◌⊎◌, inl, inr, ◌||◌, arith, length-append}
use Rattle.std.specs.Prelude.{◌==◌, if◌then◌else◌, filter, nat_lt}
use Rattle.std.specs.List.{All}
use Rattle.std.specs.Str.{bytes_eq}
use Rattle.std.proofs.lemmas.Bool.{eq-eqb, eqb-true, eqb-false, ltb-true, lt-ltb, le-ltb, or_left, or_right, cases_lt}
use Rattle.std.proofs.lemmas.Bool.Decides.{eqb_tells}
use Rattle.std.proofs.lemmas.Slice.Eq.{bytes_eq-Decides}
use Rattle.std.proofs.lemmas.List.Elements.{All-cons, All-head, All-tail, All-append, All-filter, All-map, All-weaker, filter_passes}
use Rattle.std.proofs.lemmas.List.Folds.{list_any-append}
use Rattle.std.proofs.lemmas.List.Kept.{AllPairs-cons, AllPairs-filter}
use Rattle.std.proofs.lemmas.Map.Views.{any-filter_same}
use Rattle.fj_connect.specs.Connection.{Connection}
use Rattle.fj_connect.specs.Positions.{ended}
use Rattle.fj_meaning.specs.Connecting.{most_units}
use Rattle.fj_meaning.specs.UnitLaws.{Ascends, OneUnit, is_connected, joined}
use Rattle.fj_meaning.specs.State.{Files, Unit, found, with_unit, inserted, without_unit, without_file, left}
use Rattle.fj_meaning.proofs.Lists.{no, pairs_head, pairs_tail, pairs_append, pairs_map, pairs_weaker, all_both, any_map, any_same, no_longer_both}
use Rattle.fj_meaning.proofs.Walk.{Missing, found_is, not_true}

-- ---- names

pub bytes_are : (xs ys : List ℕ) → xs ≡ ys → bytes_eq xs ys ≡ true
bytes_are xs ys e = (bytes_eq-Decides xs ys).1 e

pub bytes_differ : (xs ys : List ℕ) → (xs ≡ ys → ⊥) → bytes_eq xs ys ≡ false
bytes_differ xs ys ne = by (bytes_eq xs ys) refl
  where
    by : (b : Bool) → bytes_eq xs ys ≡ b → b ≡ false
    by true e = absurd (ne ((bytes_eq-Decides xs ys).0 e))
    by false e = refl

-- ---- one that is found

pub found_all : (P : Unit → Type 0) (us : List Unit) (n : ℕ) (u : Unit) → All P us → found us n ≡ Some u → P u
found_all P [] n u h e = cc
found_all P (x ∷ xs) n u h e = by (found_all P xs n u (All-tail P x xs h)) (x.number == n) e
  where
    by : (found xs n ≡ Some u → P u) → (b : Bool) → (if b then Some x else found xs n) ≡ Some u → P u
    by rest true k = let same : x ≡ u = cc in subst P same (All-head P x xs h)
    by rest false k = rest k

pub found_connected : (us : List Unit) (n : ℕ) (u : Unit) → found us n ≡ Some u → is_connected us n ≡ true
found_connected [] n u e = cc
found_connected (x ∷ xs) n u e = by (found_connected xs n u) (x.number == n) e
  where
    by : (found xs n ≡ Some u → is_connected xs n ≡ true) → (b : Bool) → (if b then Some x else found xs n) ≡ Some u → (b || is_connected xs n) ≡ true
    by rest true k = refl
    by rest false k = rest k

-- no other has its number
only_found : (us : List Unit) (n : ℕ) (u : Unit) → Ascends us → found us n ≡ Some u → All (λ (x : Unit). (x.number == n) ≡ true → x ≡ u) us
only_found [] n u h e = cc
only_found (x ∷ xs) n u h e = by (only_found xs n u (pairs_tail (λ (a b : Unit). a.number < b.number) x xs h)) (x.number == n) refl e
  where
    by : (found xs n ≡ Some u → All (λ (y : Unit). (y.number == n) ≡ true → y ≡ u) xs) → (b : Bool) → (x.number == n) ≡ b → (if b then Some x else found xs n) ≡ Some u → All (λ (y : Unit). (y.number == n) ≡ true → y ≡ u) (x ∷ xs)
    by rest true k g = All-cons (λ (y : Unit). (y.number == n) ≡ true → y ≡ u) x xs (λ _. let same : x ≡ u = cc in same)
        (All-weaker (λ (y : Unit). x.number < y.number) (λ (y : Unit). (y.number == n) ≡ true → y ≡ u) (λ y lt j. absurd (omega (arith, lt, eqb-true x.number n k, eqb-true y.number n j))) xs (pairs_head (λ (a b : Unit). a.number < b.number) x xs h))
    by rest false k g = All-cons (λ (y : Unit). (y.number == n) ≡ true → y ≡ u) x xs (λ j. no (sym k ∙ j)) (rest g)

-- ---- one that is replaced by one with its number and its file

pub length_map : {X Y : Type 0} (f : X → Y) (xs : List X) → length (map f xs) ≡ length xs
length_map f [] = refl
length_map f (x ∷ xs) = ap (λ k. suc k) (length_map f xs)

abbrev pub swap : Unit → Unit → Unit
swap new x = if x.number == new.number then new else x

pub swap_number : (new x : Unit) → (swap new x).number ≡ x.number
swap_number new x = elim (eqb_tells x.number new.number) [
  | inl a ↦ ap (λ b. (if b then new else x).number) a.0 ∙ sym a.1
  | inr a ↦ ap (λ b. (if b then new else x).number) a.0
]

module _ (us : List Unit) (n : ℕ) (u new : Unit) (ascends : Ascends us) (at : found us n ≡ Some u) (number : new.number ≡ u.number) (name : new.connection.name ≡ u.connection.name) where
  swap_name : All (λ (x : Unit). (swap new x).connection.name ≡ x.connection.name) us
  swap_name = All-weaker (λ (x : Unit). (x.number == n) ≡ true → x ≡ u) (λ (x : Unit). (swap new x).connection.name ≡ x.connection.name) (λ x f. by x (x.number == new.number) refl f) us (only_found us n u ascends at)
    where
      by : (x : Unit) (b : Bool) → (x.number == new.number) ≡ b → ((x.number == n) ≡ true → x ≡ u) → (if b then new else x).connection.name ≡ x.connection.name
      by x true e f =
          let here : x.number ≡ n = eqb-true x.number new.number e ∙ number ∙ found_is us n u at in
          name ∙ ap (λ (v : Unit). v.connection.name) (sym (f (eq-eqb x.number n here)))
      by x false e f = refl

  pub swap_joined : new.connection ≡ u.connection → All (λ (x : Unit). joined (swap new x) ≡ joined x) us
  swap_joined same = All-weaker (λ (x : Unit). (x.number == n) ≡ true → x ≡ u) (λ (x : Unit). joined (swap new x) ≡ joined x) (λ x f. by x (x.number == new.number) refl f) us (only_found us n u ascends at)
    where
      pair : joined new ≡ joined u
      pair = ap (λ k. joined (record new { number = k })) number ∙ ap (λ c. joined (record u { connection = c })) same

      by : (x : Unit) (b : Bool) → (x.number == new.number) ≡ b → ((x.number == n) ≡ true → x ≡ u) → joined (if b then new else x) ≡ joined x
      by x true e f =
          let here : x.number ≡ n = eqb-true x.number new.number e ∙ number ∙ found_is us n u at in
          pair ∙ ap joined (sym (f (eq-eqb x.number n here)))
      by x false e f = refl

  pub replaced_ascend : Ascends (with_unit new us)
  replaced_ascend =
      pairs_map (λ (a b : Unit). a.number < b.number) (swap new) us
      (pairs_weaker (λ (a b : Unit). a.number < b.number) (λ (a b : Unit). (swap new a).number < (swap new b).number) us (λ a b lt. omega (arith, lt, swap_number new a, swap_number new b)) ascends)

  pub replaced_few : length us ≤ most_units → length (with_unit new us) ≤ most_units
  replaced_few h = subst (λ k. k ≤ most_units) (sym (length_map (swap new) us)) h

  pub replaced_one : OneUnit us → OneUnit (with_unit new us)
  replaced_one h =
      All-map (λ (a : Unit). All (λ (b : Unit). a.connection.name ≡ b.connection.name → a.number ≡ b.number) (with_unit new us)) (swap new) us
      (all_both (λ (a : Unit). (swap new a).connection.name ≡ a.connection.name) (λ (a : Unit). All (λ (b : Unit). a.connection.name ≡ b.connection.name → a.number ≡ b.number) us)
      (λ (a : Unit). All (λ (b : Unit). (swap new a).connection.name ≡ b.connection.name → (swap new a).number ≡ b.number) (with_unit new us)) us (λ a e k. inner a e k) swap_name h)
    where
      inner : (a : Unit) → (swap new a).connection.name ≡ a.connection.name → All (λ (b : Unit). a.connection.name ≡ b.connection.name → a.number ≡ b.number) us
          → All (λ (b : Unit). (swap new a).connection.name ≡ b.connection.name → (swap new a).number ≡ b.number) (with_unit new us)
      inner a e k =
          All-map (λ (b : Unit). (swap new a).connection.name ≡ b.connection.name → (swap new a).number ≡ b.number) (swap new) us
          (all_both (λ (b : Unit). (swap new b).connection.name ≡ b.connection.name) (λ (b : Unit). a.connection.name ≡ b.connection.name → a.number ≡ b.number)
          (λ (b : Unit). (swap new a).connection.name ≡ (swap new b).connection.name → (swap new a).number ≡ (swap new b).number) us
          (λ b f g same. swap_number new a ∙ g (sym e ∙ same ∙ f) ∙ sym (swap_number new b)) swap_name k)

  pub replaced_away : (files : Files) → All (λ (x : Unit). files x.connection.name ≡ None) us → All (λ (x : Unit). files x.connection.name ≡ None) (with_unit new us)
  replaced_away files h =
      All-map (λ (x : Unit). files x.connection.name ≡ None) (swap new) us
      (all_both (λ (x : Unit). (swap new x).connection.name ≡ x.connection.name) (λ (x : Unit). files x.connection.name ≡ None) (λ (x : Unit). files (swap new x).connection.name ≡ None) us (λ x e k. ap files e ∙ k) swap_name h)

pub replaced_connected : (us : List Unit) (new : Unit) (k : ℕ) → is_connected (with_unit new us) k ≡ is_connected us k
replaced_connected us new k =
    any_map (swap new) (λ (x : Unit). x.number == k) us
    ∙ any_same (λ (x : Unit). (swap new x).number == k) (λ (x : Unit). x.number == k) us (λ x. ap (λ m. m == k) (swap_number new x))

-- ---- one that goes

pub gone_connected : (us : List Unit) (n k : ℕ) → (k == n) ≡ false → is_connected us k ≡ true → is_connected (without_unit n us) k ≡ true
gone_connected us n k ne h = any-filter_same (λ (x : Unit). x.number == k) (λ (x : Unit). not (x.number == n)) true kept us ∙ h
  where
    kept : (x : Unit) → (x.number == k) ≡ true → not (x.number == n) ≡ true
    kept x e = ap (λ m. not (m == n)) (eqb-true x.number k e) ∙ ap not ne

pub gone_one : (us : List Unit) (n : ℕ) → OneUnit us → OneUnit (without_unit n us)
gone_one us n h =
    All-filter (λ (x : Unit). not (x.number == n)) (λ (a : Unit). All (λ (b : Unit). a.connection.name ≡ b.connection.name → a.number ≡ b.number) (without_unit n us)) us
    (All-weaker (λ (a : Unit). All (λ (b : Unit). a.connection.name ≡ b.connection.name → a.number ≡ b.number) us) (λ (a : Unit). All (λ (b : Unit). a.connection.name ≡ b.connection.name → a.number ≡ b.number) (without_unit n us))
    (λ a k. All-filter (λ (x : Unit). not (x.number == n)) (λ (b : Unit). a.connection.name ≡ b.connection.name → a.number ≡ b.number) us k) us h)

left_away : (c : Connection) (keep : Bool) (files : Files) (name : List ℕ) → bytes_eq name c.name ≡ false → files name ≡ None → (left c keep files) name ≡ None
left_away c true files name e h = ap (λ b. if b then Some (ended c).bytes else files name) e ∙ h
left_away c false files name e h = ap (λ b. if b then None else files name) e ∙ h

pub gone_away : (us : List Unit) (files : Files) (n : ℕ) (u : Unit) (keep : Bool) → found us n ≡ Some u → OneUnit us → All (λ (x : Unit). files x.connection.name ≡ None) us
    → All (λ (x : Unit). (left u.connection keep files) x.connection.name ≡ None) (without_unit u.number us)
gone_away us files n u keep at one h =
    all_both (λ (x : Unit). bytes_eq x.connection.name u.connection.name ≡ false) (λ (x : Unit). files x.connection.name ≡ None) (λ (x : Unit). (left u.connection keep files) x.connection.name ≡ None)
    (without_unit u.number us) (λ x e k. left_away u.connection keep files x.connection.name e k) others (All-filter (λ (x : Unit). not (x.number == u.number)) (λ (x : Unit). files x.connection.name ≡ None) us h)
  where
    differ : (x : Unit) → not (x.number == u.number) ≡ true → (u.connection.name ≡ x.connection.name → u.number ≡ x.number) → bytes_eq x.connection.name u.connection.name ≡ false
    differ x k f = bytes_differ x.connection.name u.connection.name (λ e. eqb-false x.number u.number (not_true (x.number == u.number) k) (sym (f (sym e))))

    others : All (λ (x : Unit). bytes_eq x.connection.name u.connection.name ≡ false) (without_unit u.number us)
    others =
        all_both (λ (x : Unit). not (x.number == u.number) ≡ true) (λ (x : Unit). u.connection.name ≡ x.connection.name → u.number ≡ x.number) (λ (x : Unit). bytes_eq x.connection.name u.connection.name ≡ false)
        (without_unit u.number us) (λ x k f. differ x k f) (filter_passes (λ (x : Unit). not (x.number == u.number)) us)
        (All-filter (λ (x : Unit). not (x.number == u.number)) (λ (x : Unit). u.connection.name ≡ x.connection.name → u.number ≡ x.number) us
        (found_all (λ (a : Unit). All (λ (b : Unit). a.connection.name ≡ b.connection.name → a.number ≡ b.number) us) us n u one at))

-- ---- one that comes

abbrev below : Unit → Unit → Bool
below new x = nat_lt x.number new.number

abbrev above : Unit → Unit → Bool
above new x = nat_lt new.number x.number

pub all_inserted : (P : Unit → Type 0) (new : Unit) (us : List Unit) → P new → All P us → All P (inserted new us)
all_inserted P new us p h = All-append P (filter (below new) us) (new ∷ filter (above new) us) (All-filter (below new) P us h) (All-cons P new (filter (above new) us) p (All-filter (above new) P us h))

pub come_connected : (us : List Unit) (new : Unit) (k : ℕ) → (k == new.number) ≡ false → is_connected us k ≡ true → is_connected (inserted new us) k ≡ true
come_connected us new k ne h = list_any-append (λ (x : Unit). x.number == k) (filter (below new) us) (new ∷ filter (above new) us) ∙ by (cases_lt k new.number)
  where
    low : k < new.number → is_connected (filter (below new) us) k ≡ true
    low lt = any-filter_same (λ (x : Unit). x.number == k) (below new) true (λ x e. lt-ltb x.number new.number (omega (arith, lt, eqb-true x.number k e))) us ∙ h

    high : new.number < k → is_connected (filter (above new) us) k ≡ true
    high lt = any-filter_same (λ (x : Unit). x.number == k) (above new) true (λ x e. lt-ltb new.number x.number (omega (arith, lt, eqb-true x.number k e))) us ∙ h

    by : (k < new.number) ⊎ (new.number ≤ k) → (is_connected (filter (below new) us) k || is_connected (new ∷ filter (above new) us) k) ≡ true
    by (inl lt) = or_left (is_connected (filter (below new) us) k) (is_connected (new ∷ filter (above new) us) k) (low lt)
    by (inr le) =
        let other : k ≡ new.number → ⊥ = eqb-false k new.number ne in
        or_right (is_connected (filter (below new) us) k) (is_connected (new ∷ filter (above new) us) k)
        (or_right (new.number == k) (is_connected (filter (above new) us) k) (high (more k new.number le other)))
      where
        more : (a b : ℕ) → b ≤ a → (a ≡ b → ⊥) → b < a
        more a b le ne = omega (arith, le, ne)

pub come_ascend : (us : List Unit) (new : Unit) → Ascends us → Ascends (inserted new us)
come_ascend us new h =
    pairs_append R (filter (below new) us) (new ∷ filter (above new) us) (AllPairs-filter R (below new) us h)
    (AllPairs-cons R new (filter (above new) us) higher (AllPairs-filter R (above new) us h))
    (All-weaker (λ (x : Unit). nat_lt x.number new.number ≡ true) (λ (x : Unit). All (R x) (new ∷ filter (above new) us)) (λ x e. both x (ltb-true x.number new.number e)) (filter (below new) us) (filter_passes (below new) us))
  where
    R : Unit → Unit → Type 0
    R a b = a.number < b.number

    higher : All (R new) (filter (above new) us)
    higher = All-weaker (λ (x : Unit). nat_lt new.number x.number ≡ true) (R new) (λ x e. ltb-true new.number x.number e) (filter (above new) us) (filter_passes (above new) us)

    both : (x : Unit) → x.number < new.number → All (R x) (new ∷ filter (above new) us)
    both x lt = All-cons (R x) new (filter (above new) us) lt (All-weaker (R new) (R x) (λ y gt. omega (arith, lt, gt)) (filter (above new) us) higher)

pub come_few : (us : List Unit) (new : Unit) → nat_lt (length us) most_units ≡ true → length (inserted new us) ≤ most_units
come_few us new h =
    let whole : length (inserted new us) ≡ length (filter (below new) us) + length (new ∷ filter (above new) us) = length-append (filter (below new) us) (new ∷ filter (above new) us) in
    let parts : length (filter (below new) us) + length (filter (above new) us) ≤ length us = no_longer_both (below new) (above new) us (λ x e. le-ltb new.number x.number (less x e)) in
    let room : length us < most_units = ltb-true (length us) most_units h in
    omega (arith, whole, parts, room)
  where
    less : (x : Unit) → nat_lt x.number new.number ≡ true → x.number ≤ new.number
    less x e = omega (arith, ltb-true x.number new.number e)

pub come_one : (us : List Unit) (new : Unit) → Missing new.number new.connection.name us → OneUnit us → OneUnit (inserted new us)
come_one us new m h =
    all_inserted (λ (a : Unit). All (λ (b : Unit). a.connection.name ≡ b.connection.name → a.number ≡ b.number) (inserted new us)) new us
    (all_inserted (λ (b : Unit). new.connection.name ≡ b.connection.name → new.number ≡ b.number) new us (λ _. refl)
    (All-weaker (λ (b : Unit). bytes_eq b.connection.name new.connection.name ≡ false) (λ (b : Unit). new.connection.name ≡ b.connection.name → new.number ≡ b.number) (λ b e same. never b e (sym same)) us m.file))
    (all_both (λ (a : Unit). bytes_eq a.connection.name new.connection.name ≡ false) (λ (a : Unit). All (λ (b : Unit). a.connection.name ≡ b.connection.name → a.number ≡ b.number) us)
    (λ (a : Unit). All (λ (b : Unit). a.connection.name ≡ b.connection.name → a.number ≡ b.number) (inserted new us)) us
    (λ a e k. all_inserted (λ (b : Unit). a.connection.name ≡ b.connection.name → a.number ≡ b.number) new us (λ same. never a e same) k) m.file h)
  where
    never : {P : Type 0} (b : Unit) → bytes_eq b.connection.name new.connection.name ≡ false → b.connection.name ≡ new.connection.name → P
    never b e same = no (sym e ∙ bytes_are b.connection.name new.connection.name same)

pub come_away : (us : List Unit) (files : Files) (new : Unit) → All (λ (x : Unit). files x.connection.name ≡ None) us
    → All (λ (x : Unit). (without_file new.connection.name files) x.connection.name ≡ None) (inserted new us)
come_away us files new h =
    all_inserted (λ (x : Unit). (without_file new.connection.name files) x.connection.name ≡ None) new us
    (ap (λ b. if b then None else files new.connection.name) (bytes_are new.connection.name new.connection.name refl))
    (All-weaker (λ (x : Unit). files x.connection.name ≡ None) (λ (x : Unit). (without_file new.connection.name files) x.connection.name ≡ None) (λ x k. either (bytes_eq x.connection.name new.connection.name) x k) us h)
  where
    either : (b : Bool) (x : Unit) → files x.connection.name ≡ None → (if b then None else files x.connection.name) ≡ None
    either true x k = refl
    either false x k = k
