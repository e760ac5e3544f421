-- Units have the files that are out: after one is connected, after one is closed, and where one has other modes.
use Rattle.std.proofs.Common.{◌≡◌, ℕ, Bool, true, false, not, ◌&&◌, ◌||◌, List, [], ◌∷◌, ◌++◌, Option, Some, None, refl, sym, ap, ◌∙◌, subst, inl, inr, arith}
use Rattle.std.specs.Prelude.{◌==◌, if◌then◌else◌, filter, nat_lt}
use Rattle.std.specs.List.{list_any}
use Rattle.std.specs.Str.{bytes_eq}
use Rattle.std.proofs.lemmas.Bool.{ne_eqb}
use Rattle.std.proofs.lemmas.Bool.Decides.{eqb_tells, nat_tests}
use Rattle.fj_modes.specs.declared.modes.Modes.{Modes}
use Rattle.fj_meaning_jobs.specs.Core.{Connected, connected_at, has_name, inserted, with_connected, without_connected}
use Rattle.fj_run_units.specs.Having.{Differ, DifferInFile, HaveFiles, same_file}
use Rattle.fj_run_units.specs.Names.{stands, left_of}
use Rattle.fj_run_units.specs.Units.{AreApart, AreOthers, is_taken, with_modes}
use Rattle.fj_run_units.proofs.Files.{agree, any_append, bytes_same, is_same, stands-left_of, stands-vain}

pub bytes_back : (a b : List ℕ) → bytes_eq a b ≡ bytes_eq b a
bytes_back a b = agree _ _ (λ e. bytes_same b a (sym (is_same a b e))) (λ e. bytes_same a b (sym (is_same b a e)))

not_both : true ≡ false → ⊥
not_both e = cc

-- ---- the unit of a number

number_is : (a n : ℕ) → (a == n) ≡ true → a ≡ n
number_is a n e = elim (eqb_tells a n) [ inl x ↦ x.1 | inr x ↦ absurd (not_both (sym e ∙ x.0)) ]

-- it has its file
pub found_has : (us : List Connected) (n : ℕ) (u : Connected) → connected_at us n ≡ Some u → has_name us u.name ≡ true
found_has [] n u e = cc
found_has (v ∷ us) n u e = by (v.number == n) e (found_has us n u)
  where
    by : (b : Bool) → (if b then Some v else connected_at us n) ≡ Some u → (connected_at us n ≡ Some u → has_name us u.name ≡ true) → (bytes_eq u.name v.name || has_name us u.name) ≡ true
    by true is rest = ap (λ c. c || has_name us u.name) (bytes_same u.name v.name (ap (λ (x : Connected). x.name) (let same : u ≡ v = cc in same)))
    by false is rest = ap (λ c. bytes_eq u.name v.name || c) (rest is) ∙ last (bytes_eq u.name v.name)
      where
        last : (b : Bool) → (b || true) ≡ true
        last true = refl
        last false = refl

-- where no other has the number nothing is taken off
without_others : (n : ℕ) (us : List Connected) → AreOthers n us → without_connected n us ≡ us
without_others n [] h = refl
without_others n (v ∷ us) h =
    ap (λ b. if not b then v ∷ without_connected n us else without_connected n us) (ne_eqb v.number n h.0) ∙ ap (λ l. v ∷ l) (without_others n us h.1)

-- nor where none has it
none_first : (us : List Connected) (n : ℕ) (v : Connected) → (if v.number == n then Some v else connected_at us n) ≡ None → ((v.number == n) ≡ false) × (connected_at us n ≡ None)
none_first us n v e = by (v.number == n) e
  where
    by : (b : Bool) → (if b then Some v else connected_at us n) ≡ None → (b ≡ false) × (connected_at us n ≡ None)
    by true is = absurd (let bad : ⊥ = cc in bad)
    by false is = (refl, is)

pub without_none : (n : ℕ) (us : List Connected) → connected_at us n ≡ None → without_connected n us ≡ us
without_none n [] e = refl
without_none n (v ∷ us) e =
    let f = none_first us n v e in
    ap (λ b. if not b then v ∷ without_connected n us else without_connected n us) f.0 ∙ ap (λ l. v ∷ l) (without_none n us f.1)

-- it is connected no more
pub gone_from : (n : ℕ) (us : List Connected) → connected_at (without_connected n us) n ≡ None
gone_from n [] = refl
gone_from n (v ∷ us) = by (v.number == n) refl (gone_from n us)
  where
    by : (b : Bool) → (v.number == n) ≡ b → connected_at (without_connected n us) n ≡ None → connected_at (if not b then v ∷ without_connected n us else without_connected n us) n ≡ None
    by true e rest = rest
    by false e rest = ap (λ c. if c then Some v else connected_at (without_connected n us) n) e ∙ rest

-- ---- some of the units

less_if : (p : Connected → Bool) (b : Bool) (v : Connected) (us : List Connected) → p v ≡ false → list_any p us ≡ false → list_any p (if b then v ∷ us else us) ≡ false
less_if p true v us first rest = ap (λ c. c || list_any p us) first ∙ rest
less_if p false v us first rest = rest

neither : (a b : Bool) → (a || b) ≡ false → (a ≡ false) × (b ≡ false)
neither true b e = absurd (not_both e)
neither false b e = (refl, e)

less_any : (p r : Connected → Bool) (us : List Connected) → list_any p us ≡ false → list_any p (filter r us) ≡ false
less_any p r [] e = e
less_any p r (v ∷ us) e = let n = neither (p v) (list_any p us) e in less_if p (r v) v (filter r us) n.0 (less_any p r us n.1)

module _ (alike : Connected → Connected → Bool) where
  differ_if : (b : Bool) (v : Connected) (us : List Connected) → list_any (alike v) us ≡ false → Differ alike us → Differ alike (if b then v ∷ us else us)
  differ_if true v us e d = (e, d)
  differ_if false v us e d = d

  pub differ_filter : (p : Connected → Bool) (us : List Connected) → Differ alike us → Differ alike (filter p us)
  differ_filter p [] d = tt
  differ_filter p (v ∷ us) d = differ_if (p v) v (filter p us) (less_any (alike v) p us d.0) (differ_filter p us d.1)

-- ---- one is closed

pub left_has : (us : List Connected) (n : ℕ) (u : Connected) (q : List ℕ) → AreApart us → DifferInFile us → connected_at us n ≡ Some u
    → has_name (without_connected n us) q ≡ (not (bytes_eq q u.name) && has_name us q)
left_has [] n u q apart differ e = cc
left_has (v ∷ us) n u q apart differ e = by (v.number == n) refl e (left_has us n u q apart.1 differ.1)
  where
    here : (b : Bool) → bytes_eq q v.name ≡ b → has_name us q ≡ (not b && (b || has_name us q))
    here true is = ap (has_name us) (is_same q v.name is) ∙ differ.0
    here false is = refl

    there : (b : Bool) → bytes_eq q v.name ≡ b → connected_at us n ≡ Some u → has_name (without_connected n us) q ≡ (not (bytes_eq q u.name) && has_name us q)
        → (b || has_name (without_connected n us) q) ≡ (not (bytes_eq q u.name) && (b || has_name us q))
    there false is found rest = rest
    there true is found rest = ap (λ c. not c && true) (sym (other (bytes_eq q u.name) refl))
      where
        other : (b : Bool) → bytes_eq q u.name ≡ b → b ≡ false
        other true e = absurd (not_both (sym (found_has us n u found) ∙ ap (has_name us) (sym (is_same q u.name e) ∙ is_same q v.name is) ∙ differ.0))
        other false e = refl

    by : (b : Bool) → (v.number == n) ≡ b → (if b then Some v else connected_at us n) ≡ Some u
        → (connected_at us n ≡ Some u → has_name (without_connected n us) q ≡ (not (bytes_eq q u.name) && has_name us q))
        → has_name (if not b then v ∷ without_connected n us else without_connected n us) q ≡ (not (bytes_eq q u.name) && (bytes_eq q v.name || has_name us q))
    by true is found rest =
        let same : v ≡ u = cc in
        ap (λ l. has_name l q) (without_others n us (subst (λ m. AreOthers m us) (number_is v.number n is) apart.0))
        ∙ here (bytes_eq q v.name) refl
        ∙ ap (λ (x : Connected). not (bytes_eq q x.name) && (bytes_eq q v.name || has_name us q)) same
    by false is found rest = there (bytes_eq q v.name) refl found (rest found)

pub have_left : (names : List (List ℕ)) (us : List Connected) (n : ℕ) (u : Connected) → AreApart us → connected_at us n ≡ Some u → HaveFiles names us
    → HaveFiles (left_of names u.name) (without_connected n us)
have_left names us n u apart found have = (
  λ q. stands-left_of names u.name q ∙ ap (λ b. not (bytes_eq u.name q) && b) (have.0 q) ∙ ap (λ b. not b && has_name us q) (bytes_back u.name q)
      ∙ sym (left_has us n u q apart have.1 found),
  differ_filter same_file (λ (v : Connected). not (v.number == n)) us have.1,
)

-- ---- one is connected

other_way : (a n : ℕ) → (a == n) ≡ false → nat_lt n a ≡ not (nat_lt a n)
other_way a n e = grind (arith, nat_tests)

-- those of lower numbers, and those of higher ones
both_sides : (p : Connected → Bool) (us : List Connected) (n : ℕ) → connected_at us n ≡ None
    → (list_any p (filter (λ (v : Connected). nat_lt v.number n) us) || list_any p (filter (λ (v : Connected). nat_lt n v.number) us)) ≡ list_any p us
both_sides p [] n e = refl
both_sides p (v ∷ us) n e =
    let f = none_first us n v e in
    by (nat_lt v.number n) (nat_lt n v.number) (other_way v.number n f.0) (both_sides p us n f.1)
  where
    lows : List Connected
    lows = filter (λ (w : Connected). nat_lt w.number n) us

    highs : List Connected
    highs = filter (λ (w : Connected). nat_lt n w.number) us

    turned : (a b c d : Bool) → (b || c) ≡ d → (b || (a || c)) ≡ (a || d)
    turned true true c d x = refl
    turned true false c d x = refl
    turned false b c d x = x

    grouped : (a b c d : Bool) → (b || c) ≡ d → ((a || b) || c) ≡ (a || d)
    grouped true b c d x = refl
    grouped false b c d x = x

    by : (b c : Bool) → c ≡ not b → (list_any p lows || list_any p highs) ≡ list_any p us
        → (list_any p (if b then v ∷ lows else lows) || list_any p (if c then v ∷ highs else highs)) ≡ (p v || list_any p us)
    by true true x rest = absurd (not_both x)
    by true false x rest = grouped (p v) (list_any p lows) (list_any p highs) (list_any p us) rest
    by false true x rest = turned (p v) (list_any p lows) (list_any p highs) (list_any p us) rest
    by false false x rest = absurd (not_both (sym x))

inserted_has : (u : Connected) (us : List Connected) (q : List ℕ) → connected_at us u.number ≡ None → has_name (inserted u us) q ≡ (has_name us q || bytes_eq q u.name)
inserted_has u us q none =
    let p : Connected → Bool = λ (v : Connected). bytes_eq q v.name in
    any_append p (filter (λ (v : Connected). nat_lt v.number u.number) us) (u ∷ filter (λ (v : Connected). nat_lt u.number v.number) us)
    ∙ turned _ _ _ _ (both_sides p us u.number none)
  where
    turned : (a b c d : Bool) → (a || c) ≡ d → (a || (b || c)) ≡ (d || b)
    turned true b c true x = refl
    turned true b c false x = absurd (not_both x)
    turned false true c true x = refl
    turned false true c false x = refl
    turned false false c d x = x ∙ plain d
      where
        plain : (b : Bool) → b ≡ (b || false)
        plain true = refl
        plain false = refl

one_way : (a n : ℕ) → nat_lt a n ≡ true → nat_lt n a ≡ false
one_way a n e = grind (arith, nat_tests)

module _ (alike : Connected → Connected → Bool) (back : (u v : Connected) → alike u v ≡ alike v u) where
  -- the units of two lists, none of the first alike to one of the second
  abbrev AreClear : List Connected → List Connected → Type 0
  AreClear [] ys = Unit {0}
  AreClear (x ∷ xs) ys = (list_any (alike x) ys ≡ false) × AreClear xs ys

  differ_join : (xs ys : List Connected) → Differ alike xs → Differ alike ys → AreClear xs ys → Differ alike (xs ++ ys)
  differ_join [] ys dx dy clear = dy
  differ_join (x ∷ xs) ys dx dy clear = (any_append (alike x) xs ys ∙ ap (λ b. b || list_any (alike x) ys) dx.0 ∙ clear.0, differ_join xs ys dx.1 dy clear.1)

  -- one more in the second
  clear_more : (y : Connected) (xs ys : List Connected) → list_any (alike y) xs ≡ false → AreClear xs ys → AreClear xs (y ∷ ys)
  clear_more y [] ys e c = tt
  clear_more y (x ∷ xs) ys e c =
      let n = neither (alike y x) (list_any (alike y) xs) e in
      (ap (λ b. b || list_any (alike x) ys) (back x y ∙ n.0) ∙ c.0, clear_more y xs ys n.1 c.1)

  clear_filters : (p r : Connected → Bool) (us : List Connected) → ((v : Connected) → p v ≡ true → r v ≡ false) → Differ alike us → AreClear (filter p us) (filter r us)
  clear_filters p r [] apart d = tt
  clear_filters p r (v ∷ us) apart d = by (p v) (r v) (apart v) (clear_filters p r us apart d.1)
    where
      by : (b c : Bool) → (b ≡ true → c ≡ false) → AreClear (filter p us) (filter r us) → AreClear (if b then v ∷ filter p us else filter p us) (if c then v ∷ filter r us else filter r us)
      by true true f rest = absurd (not_both (f refl))
      by true false f rest = (less_any (alike v) r us d.0, rest)
      by false true f rest = clear_more v (filter p us) (filter r us) (less_any (alike v) p us d.0) rest
      by false false f rest = rest

  pub inserted_differ : (u : Connected) (us : List Connected) → Differ alike us → list_any (alike u) us ≡ false → Differ alike (inserted u us)
  inserted_differ u us d free =
      let low : Connected → Bool = λ (v : Connected). nat_lt v.number u.number in
      let high : Connected → Bool = λ (v : Connected). nat_lt u.number v.number in
      differ_join (filter low us) (u ∷ filter high us) (differ_filter alike low us d) (less_any (alike u) high us free, differ_filter alike high us d)
      (clear_more u (filter low us) (filter high us) (less_any (alike u) low us free) (clear_filters low high us (λ v e. one_way v.number u.number e) d))

pub have_more : (names : List (List ℕ)) (us : List Connected) (u : Connected) → connected_at us u.number ≡ None → has_name us u.name ≡ false → HaveFiles names us
    → HaveFiles (names ++ u.name ∷ []) (inserted u us)
have_more names us u none free have = (
  λ q. any_append (λ (other : List ℕ). bytes_eq other q) names (u.name ∷ []) ∙ ap (λ b. b || (bytes_eq u.name q || false)) (have.0 q)
      ∙ ap (λ b. has_name us q || b) (plain (bytes_eq u.name q) ∙ bytes_back u.name q) ∙ sym (inserted_has u us q none),
  inserted_differ same_file (λ v w. bytes_back v.name w.name) u us have.1 free,
)
  where
    plain : (b : Bool) → (b || false) ≡ b
    plain true = refl
    plain false = refl

-- ---- one has other modes

same_others : (new : Connected) (us : List Connected) → AreOthers new.number us → with_connected new us ≡ us
same_others new [] h = refl
same_others new (v ∷ us) h = ap (λ b. (if b then new else v) ∷ with_connected new us) (ne_eqb v.number new.number h.0) ∙ ap (λ l. v ∷ l) (same_others new us h.1)

changed_has : (us : List Connected) (u new : Connected) (q : List ℕ) → AreApart us → connected_at us new.number ≡ Some u → new.name ≡ u.name → has_name (with_connected new us) q ≡ has_name us q
changed_has [] u new q apart e same = refl
changed_has (v ∷ us) u new q apart e same = by (v.number == new.number) refl e (changed_has us u new q apart.1)
  where
    by : (b : Bool) → (v.number == new.number) ≡ b → (if b then Some v else connected_at us new.number) ≡ Some u
        → (connected_at us new.number ≡ Some u → new.name ≡ u.name → has_name (with_connected new us) q ≡ has_name us q)
        → has_name ((if b then new else v) ∷ with_connected new us) q ≡ (bytes_eq q v.name || has_name us q)
    by true is found rest =
        let it : v ≡ u = cc in
        ap (λ l. bytes_eq q new.name || has_name l q) (same_others new us (subst (λ m. AreOthers m us) (number_is v.number new.number is) apart.0))
        ∙ ap (λ n. bytes_eq q n || has_name us q) (same ∙ ap (λ (x : Connected). x.name) (sym it))
    by false is found rest = ap (λ b. bytes_eq q v.name || b) (rest found same)

changed_differ : (us : List Connected) (u new : Connected) → AreApart us → connected_at us new.number ≡ Some u → new.name ≡ u.name → DifferInFile us → DifferInFile (with_connected new us)
changed_differ [] u new apart e same d = tt
changed_differ (v ∷ us) u new apart e same d = by (v.number == new.number) refl e (changed_differ us u new apart.1)
  where
    by : (b : Bool) → (v.number == new.number) ≡ b → (if b then Some v else connected_at us new.number) ≡ Some u
        → (connected_at us new.number ≡ Some u → new.name ≡ u.name → DifferInFile us → DifferInFile (with_connected new us))
        → DifferInFile ((if b then new else v) ∷ with_connected new us)
    by true is found rest =
        let it : v ≡ u = cc in
        subst (λ l. DifferInFile (new ∷ l)) (sym (same_others new us (subst (λ m. AreOthers m us) (number_is v.number new.number is) apart.0)))
        (ap (has_name us) (same ∙ ap (λ (x : Connected). x.name) (sym it)) ∙ d.0, d.1)
    by false is found rest = (changed_has us u new v.name apart.1 found same ∙ d.0, rest found same d.1)

found_number : (us : List Connected) (n : ℕ) (u : Connected) → connected_at us n ≡ Some u → u.number ≡ n
found_number [] n u e = cc
found_number (v ∷ us) n u e = by (v.number == n) refl e (found_number us n u)
  where
    by : (b : Bool) → (v.number == n) ≡ b → (if b then Some v else connected_at us n) ≡ Some u → (connected_at us n ≡ Some u → u.number ≡ n) → u.number ≡ n
    by true is found rest = ap (λ (x : Connected). x.number) (let same : u ≡ v = cc in same) ∙ number_is v.number n is
    by false is found rest = rest found

pub have_changed : (names : List (List ℕ)) (us : List Connected) (n : ℕ) (modes : Modes) → AreApart us → HaveFiles names us → HaveFiles names (with_modes us (connected_at us n) modes)
have_changed names us n modes apart have = by (connected_at us n) refl
  where
    by : (o : Option Connected) → connected_at us n ≡ o → HaveFiles names (with_modes us o modes)
    by None e = have
    by (Some u) e =
        let found : connected_at us u.number ≡ Some u = ap (connected_at us) (found_number us n u e) ∙ e in
        let new : Connected = record u { modes = modes } in
        (λ q. have.0 q ∙ sym (changed_has us u new q apart found refl), changed_differ us u new apart found refl have.1)

-- ---- a file that no unit has

-- none but the unit of that number
pub free_without : (us : List Connected) (n : ℕ) (name : List ℕ) → is_taken us n name ≡ false → has_name (without_connected n us) name ≡ false
free_without [] n name e = refl
free_without (v ∷ us) n name e = by (v.number == n) (bytes_eq v.name name) (bytes_back name v.name) e (free_without us n name)
  where
    by : (b c : Bool) → bytes_eq name v.name ≡ c → ((not b && c) || is_taken us n name) ≡ false → (is_taken us n name ≡ false → has_name (without_connected n us) name ≡ false)
        → has_name (if not b then v ∷ without_connected n us else without_connected n us) name ≡ false
    by true c is free rest = rest free
    by false true is free rest = absurd (not_both free)
    by false false is free rest = ap (λ c. c || has_name (without_connected n us) name) is ∙ rest free

-- ---- a name that was entered in vain

pub have_vain : (names : List (List ℕ)) (us : List Connected) (name : List ℕ) → stands names name ≡ false → HaveFiles names us → HaveFiles (left_of (names ++ name ∷ []) name) us
have_vain names us name free have = (λ q. sym (stands-vain names name q free) ∙ have.0 q, have.1)
