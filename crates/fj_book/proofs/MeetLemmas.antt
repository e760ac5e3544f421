-- Where parts of a statement meet, and the first transfer of a unit.
use Rattle.std.proofs.Common.{◌≡◌, ℕ, suc, ◌<◌, ◌≤◌, ◌||◌, cond, Bool, true, false, List, [], ◌∷◌, ◌++◌, get_or, Some, None, All, refl, sym, ap, ◌∙◌, inl, inr, arith}
use Rattle.std.proofs.lemmas.Bool.{false≢true}
use Rattle.std.proofs.lemmas.Bool.Decides.{nat_tests}
use Rattle.std.proofs.lemmas.List.Elements.{All-cons}
use Rattle.std.specs.List.{list_any, find}
use Rattle.fj_value.specs.declared.place.Place.{Place}
use Rattle.fj_store.specs.Places.{same_place, is_among, has_twice}
use Rattle.fj_store.proofs.TableLemmas.{places_tell}
use Rattle.fj_book.specs.declared.pending.Pending.{Pending}
use Rattle.fj_book.specs.Entries.{is_of_unit, tag_of, IsAscending}
use Rattle.fj_book.specs.Meeting.{Meets, two_specifiers, specifier_and_item, specifier_and_internal_file, item_and_internal_file}
use Rattle.fj_book.specs.Prohibitions.{Need, defines_twice}
use Rattle.fj_book.proofs.BookLemmas.{tail_ascends}

-- ---- places among others

same_itself : (p : Place) → same_place p p ≡ true
same_itself p = grind (arith, nat_tests)

same_is : (p q : Place) → same_place p q ≡ true → p ≡ q
same_is p q e = elim (places_tell p q) [ inl same ↦ same.1 | inr other ↦ absurd (false≢true (sym other.0 ∙ e)) ]

or_right : (a b : Bool) → b ≡ true → (a || b) ≡ true
or_right true b e = refl
or_right false b e = e

pub among_after : (before behind : List Place) (p : Place) → is_among (before ++ p ∷ behind) p ≡ true
among_after [] behind p = ap (λ b. b || is_among behind p) (same_itself p)
among_after (q ∷ before) behind p = or_right (same_place p q) (is_among (before ++ p ∷ behind) p) (among_after before behind p)

pub twice_around : (before between behind : List Place) (p : Place) → has_twice (before ++ p ∷ between ++ p ∷ behind) ≡ true
twice_around [] between behind p = ap (λ b. b || has_twice (between ++ p ∷ behind)) (among_after between behind p)
twice_around (q ∷ before) between behind p = or_right (is_among (before ++ p ∷ between ++ p ∷ behind) q) (has_twice (before ++ p ∷ between ++ p ∷ behind)) (twice_around before between behind p)

-- a place of a list cuts it in two
among_cuts : (places : List Place) (p : Place) → is_among places p ≡ true → (between : List Place) × (behind : List Place) × (places ≡ between ++ p ∷ behind)
among_cuts [] p e = absurd (false≢true e)
among_cuts (q ∷ places) p e =
    elim (places_tell p q) [
      | inl same ↦ ([], places, ap (λ z. z ∷ places) (sym same.1))
      | inr other ↦
          let rest = among_cuts places p (sym (ap (λ b. b || is_among places p) other.0) ∙ e) in
          (q ∷ rest.0, rest.1, ap (λ z. q ∷ z) rest.2)
    ]

abbrev Cuts : List Place → Type 0
Cuts places = (p : Place) × (before : List Place) × (between : List Place) × (behind : List Place) × (places ≡ before ++ p ∷ between ++ p ∷ behind)

twice_cuts : (places : List Place) → has_twice places ≡ true → Cuts places
twice_cuts [] e = absurd (false≢true e)
twice_cuts (q ∷ places) e =
    let go : (b : Bool) → is_among places q ≡ b → (b || has_twice places) ≡ true → Cuts (q ∷ places) =
    λ b. elim b as (λ z. is_among places q ≡ z → (z || has_twice places) ≡ true → Cuts (q ∷ places)) [
      | true ↦ λ here h. let cut = among_cuts places q here in (q, [], cut.0, cut.1, ap (λ z. q ∷ z) cut.2)
      | false ↦ λ here h. let cut = twice_cuts places h in (cut.0, q ∷ cut.1, cut.2, cut.3, ap (λ z. q ∷ z) cut.4)
    ] in
    go (is_among places q) refl e

-- ---- a place of two lists

pub common_found : (ps qs : List Place) (p : Place) → is_among ps p ≡ true → is_among qs p ≡ true → list_any (is_among qs) ps ≡ true
common_found [] qs p e f = absurd (false≢true e)
common_found (q ∷ ps) qs p e f =
    elim (places_tell p q) [
      | inl same ↦ ap (λ b. b || list_any (is_among qs) ps) (ap (is_among qs) (sym same.1) ∙ f)
      | inr other ↦ or_right (is_among qs q) (list_any (is_among qs) ps) (common_found ps qs p (sym (ap (λ b. b || is_among ps p) other.0) ∙ e) f)
    ]

abbrev Common : List Place → List Place → Type 0
Common ps qs = (p : Place) × (is_among ps p ≡ true) × (is_among qs p ≡ true)

common_at : (ps qs : List Place) → list_any (is_among qs) ps ≡ true → Common ps qs
common_at [] qs e = absurd (false≢true e)
common_at (q ∷ ps) qs e =
    let go : (b : Bool) → is_among qs q ≡ b → (b || list_any (is_among qs) ps) ≡ true → Common (q ∷ ps) qs =
    λ b. elim b as (λ z. is_among qs q ≡ z → (z || list_any (is_among qs) ps) ≡ true → Common (q ∷ ps) qs) [
      | true ↦ λ here h. (q, ap (λ c. c || is_among ps q) (same_itself q), here)
      | false ↦ λ here h. let rest = common_at ps qs h in (rest.0, or_right (same_place rest.0 q) (is_among ps rest.0) rest.1, rest.2)
    ] in
    go (is_among qs q) refl e

-- ---- the parts of a statement

pub meets_broken : (n : Need) (p : Place) → Meets n p → defines_twice n ≡ true
meets_broken n p (two_specifiers before between behind e) =
    ap (λ b. b || (list_any (is_among n.items) n.specifiers || (list_any (is_among n.internal) n.specifiers || list_any (is_among n.internal) n.items))) (ap has_twice e ∙ twice_around before between behind p)
meets_broken n p (specifier_and_item e f) =
    or_right (has_twice n.specifiers) (list_any (is_among n.items) n.specifiers || (list_any (is_among n.internal) n.specifiers || list_any (is_among n.internal) n.items))
    (ap (λ b. b || (list_any (is_among n.internal) n.specifiers || list_any (is_among n.internal) n.items)) (common_found n.specifiers n.items p e f))
meets_broken n p (specifier_and_internal_file e f) =
    or_right (has_twice n.specifiers) (list_any (is_among n.items) n.specifiers || (list_any (is_among n.internal) n.specifiers || list_any (is_among n.internal) n.items))
    (or_right (list_any (is_among n.items) n.specifiers) (list_any (is_among n.internal) n.specifiers || list_any (is_among n.internal) n.items)
    (ap (λ b. b || list_any (is_among n.internal) n.items) (common_found n.specifiers n.internal p e f)))
meets_broken n p (item_and_internal_file e f) =
    or_right (has_twice n.specifiers) (list_any (is_among n.items) n.specifiers || (list_any (is_among n.internal) n.specifiers || list_any (is_among n.internal) n.items))
    (or_right (list_any (is_among n.items) n.specifiers) (list_any (is_among n.internal) n.specifiers || list_any (is_among n.internal) n.items)
    (or_right (list_any (is_among n.internal) n.specifiers) (list_any (is_among n.internal) n.items) (common_found n.items n.internal p e f)))

abbrev Somewhere : Need → Type 0
Somewhere n = (p : Place) × Meets n p

one_of_four : (n : Need) (a b c d : Bool) → (a ≡ true → Somewhere n) → (b ≡ true → Somewhere n) → (c ≡ true → Somewhere n) → (d ≡ true → Somewhere n) → (a || (b || (c || d))) ≡ true → Somewhere n
one_of_four n true b c d one two three four e = one refl
one_of_four n false true c d one two three four e = two refl
one_of_four n false false true d one two three four e = three refl
one_of_four n false false false d one two three four e = four e

pub meets_cause : (n : Need) → defines_twice n ≡ true → (p : Place) × Meets n p
meets_cause n e =
    one_of_four n (has_twice n.specifiers) (list_any (is_among n.items) n.specifiers) (list_any (is_among n.internal) n.specifiers) (list_any (is_among n.internal) n.items)
    (λ h. let cut = twice_cuts n.specifiers h in (cut.0, two_specifiers cut.1 cut.2 cut.3 cut.4))
    (λ h. let common = common_at n.specifiers n.items h in (common.0, specifier_and_item common.1 common.2))
    (λ h. let common = common_at n.specifiers n.internal h in (common.0, specifier_and_internal_file common.1 common.2))
    (λ h. let common = common_at n.items n.internal h in (common.0, item_and_internal_file common.1 common.2))
    e

-- ---- the first transfer of a unit

pub first_of_unit : (book : List Pending) (unit : ℕ) (e : Pending) → find (is_of_unit unit) book ≡ Some e → is_of_unit unit e ≡ true
first_of_unit [] unit e found = cc
first_of_unit (x ∷ book) unit e found =
    let go : (b : Bool) → is_of_unit unit x ≡ b → cond b (Some x) (find (is_of_unit unit) book) ≡ Some e → is_of_unit unit e ≡ true =
    λ b. elim b as (λ z. is_of_unit unit x ≡ z → cond z (Some x) (find (is_of_unit unit) book) ≡ Some e → is_of_unit unit e ≡ true) [
      | true ↦ λ here h. let same : x ≡ e = cc in ap (is_of_unit unit) (sym same) ∙ here
      | false ↦ λ here h. first_of_unit book unit e h
    ] in
    go (is_of_unit unit x) refl found

pub first_is_least : (book : List Pending) (unit : ℕ) (e : Pending) → IsAscending book → find (is_of_unit unit) book ≡ Some e → All (λ other. is_of_unit unit other ≡ true → tag_of e ≤ tag_of other) book
first_is_least [] unit e up found = cc
first_is_least (x ∷ book) unit e up found =
    let P : Pending → Type 0 = λ other. is_of_unit unit other ≡ true → tag_of e ≤ tag_of other in
    let go : (b : Bool) → is_of_unit unit x ≡ b → cond b (Some x) (find (is_of_unit unit) book) ≡ Some e → All P (x ∷ book) =
    λ b. elim b as (λ z. is_of_unit unit x ≡ z → cond z (Some x) (find (is_of_unit unit) book) ≡ Some e → All P (x ∷ book)) [
      | true ↦ λ here h.
          let same : x ≡ e = cc in
          let low : tag_of x ≡ tag_of e = ap tag_of same in
          All-cons P x book (λ of_unit. omega arith) (λ k d within of_unit. let above : tag_of x < tag_of (get_or book k d) = up 0 (suc k) d (omega arith) (omega arith) in omega arith)
      | false ↦ λ here h. All-cons P x book (λ of_unit. absurd (false≢true (sym here ∙ of_unit))) (first_is_least book unit e (tail_ascends x book up) h)
    ] in
    go (is_of_unit unit x) refl found

pub none_of_unit : (book : List Pending) (unit : ℕ) → find (is_of_unit unit) book ≡ None → All (λ other. is_of_unit unit other ≡ false) book
none_of_unit [] unit none = λ k d within. absurd (omega arith)
none_of_unit (x ∷ book) unit none =
    let P : Pending → Type 0 = λ other. is_of_unit unit other ≡ false in
    let go : (b : Bool) → is_of_unit unit x ≡ b → cond b (Some x) (find (is_of_unit unit) book) ≡ None → All P (x ∷ book) =
    λ b. elim b as (λ z. is_of_unit unit x ≡ z → cond z (Some x) (find (is_of_unit unit) book) ≡ None → All P (x ∷ book)) [
      | true ↦ λ here h. cc
      | false ↦ λ here h. All-cons P x book here (none_of_unit book unit h)
    ] in
    go (is_of_unit unit x) refl none
