-- A value that the elements of a list replace, one after another, where at most one of them does.
use Rattle.std.proofs.Common.{◌≡◌, ◌⊎◌, Bool, true, false, not, List, [], ◌∷◌, ◌++◌, map, Option, Some, None, refl, sym, ap, ◌∙◌, inl, inr}
use Rattle.std.specs.Prelude.{if◌then◌else◌, filter}
use Rattle.fj_meaning_jobs.proofs.Apart.{Each, each_filter, each_both}

abbrev pub over : {V : Type 0} → Option V → V → V
over None x = x
over (Some v) x = v

abbrev pub through : {X V : Type 0} → (X → Option V) → List X → V → V
through t [] x = x
through t (u ∷ us) x = through t us (over (t u) x)

abbrev Nones : {X V : Type 0} → (X → Option V) → List X → Type 0
Nones t us = Each (λ u. t u ≡ None) us

abbrev pub AtMostOne : {X V : Type 0} → (X → Option V) → List X → Type 0
AtMostOne t [] = Unit {0}
AtMostOne t (u ∷ us) = ((t u ≡ None) ⊎ Nones t us) × AtMostOne t us

-- ---- other elements that replace the same

pub through_same : {X V : Type 0} → (t s : X → Option V) (us : List X) (x : V) → Each (λ u. t u ≡ s u) us → through t us x ≡ through s us x
through_same t s [] x h = refl
through_same t s (u ∷ us) x h = ap (λ o. through t us (over o x)) h.0 ∙ through_same t s us (over (s u) x) h.1

pub through_map : {X V : Type 0} → (t : X → Option V) (g : X → X) (us : List X) (x : V) → through t (map g us) x ≡ through (λ u. t (g u)) us x
through_map t g [] x = refl
through_map t g (u ∷ us) x = through_map t g us (over (t (g u)) x)

pub one_same : {X V : Type 0} → (t s : X → Option V) (us : List X) → Each (λ u. t u ≡ s u) us → AtMostOne s us → AtMostOne t us
one_same t s [] e h = tt
one_same t s (u ∷ us) e h = (by h.0, one_same t s us e.1 h.1)
  where
    by : (s u ≡ None) ⊎ Nones s us → (t u ≡ None) ⊎ Nones t us
    by (inl a) = inl (e.0 ∙ a)
    by (inr a) = inr (each_both (λ v. t v ≡ s v) (λ v. s v ≡ None) (λ v. t v ≡ None) us (λ v p q. p ∙ q) e.1 a)

none_kept : {X V : Type 0} → (t : X → Option V) (p : X → Bool) (u : X) (us : List X) → (t u ≡ None) ⊎ Nones t us → (t u ≡ None) ⊎ Nones t (filter p us)
none_kept t p u us (inl a) = inl a
none_kept t p u us (inr a) = inr (each_filter (λ v. t v ≡ None) p us a)

pub one_filter : {X V : Type 0} → (t : X → Option V) (p : X → Bool) (us : List X) → AtMostOne t us → AtMostOne t (filter p us)
one_filter t p [] h = tt
one_filter t p (u ∷ us) h = by (p u) (one_filter t p us h.1)
  where
    by : (b : Bool) → AtMostOne t (filter p us) → AtMostOne t (if b then u ∷ filter p us else filter p us)
    by true k = (none_kept t p u us h.0, k)
    by false k = k

-- ---- another order

through_none : {X V : Type 0} → (t : X → Option V) (us : List X) (x : V) → Nones t us → through t us x ≡ x
through_none t [] x h = refl
through_none t (u ∷ us) x h = ap (λ o. through t us (over o x)) h.0 ∙ through_none t us x h.1

through_append : {X V : Type 0} → (t : X → Option V) (us vs : List X) (x : V) → through t (us ++ vs) x ≡ through t vs (through t us x)
through_append t [] vs x = refl
through_append t (u ∷ us) vs x = through_append t us vs (over (t u) x)

turned : {X V : Type 0} → (t : X → Option V) (u : X) (us : List X) (x : V) → (t u ≡ None) ⊎ Nones t us → over (t u) (through t us x) ≡ through t us (over (t u) x)
turned t u us x (inl e) = ap (λ o. over o (through t us x)) e ∙ sym (ap (λ o. through t us (over o x)) e)
turned t u us x (inr h) = ap (over (t u)) (through_none t us x h) ∙ sym (through_none t us (over (t u) x) h)

-- those of one kind first, and then the others
pub parted : {X V : Type 0} → (t : X → Option V) (p r : X → Bool) (us : List X) (x : V) → AtMostOne t us → Each (λ u. r u ≡ not (p u)) us
    → through t (filter p us ++ filter r us) x ≡ through t us x
parted t p r [] x o h = refl
parted t p r (u ∷ us) x o h = by (p u) (r u) h.0 (parted t p r us (over (t u) x) o.1 h.1)
  where
    by : (b c : Bool) → c ≡ not b → through t (filter p us ++ filter r us) (over (t u) x) ≡ through t us (over (t u) x)
        → through t ((if b then u ∷ filter p us else filter p us) ++ (if c then u ∷ filter r us else filter r us)) x ≡ through t us (over (t u) x)
    by true true e k = cc
    by true false e k = k
    by false true e k =
        through_append t (filter p us) (u ∷ filter r us) x
        ∙ ap (through t (filter r us)) (turned t u (filter p us) x (none_kept t p u us o.0))
        ∙ sym (through_append t (filter p us) (filter r us) (over (t u) x))
        ∙ k
    by false false e k = cc

-- one more between them, that replaces nothing
pub between : {X V : Type 0} → (t : X → Option V) (p r : X → Bool) (us : List X) (new : X) (x : V) → AtMostOne t us → Each (λ u. r u ≡ not (p u)) us → t new ≡ None
    → through t (filter p us ++ new ∷ filter r us) x ≡ through t us x
between t p r us new x o h e =
    through_append t (filter p us) (new ∷ filter r us) x
    ∙ ap (λ a. through t (filter r us) (over a (through t (filter p us) x))) e
    ∙ sym (through_append t (filter p us) (filter r us) x)
    ∙ parted t p r us x o h
