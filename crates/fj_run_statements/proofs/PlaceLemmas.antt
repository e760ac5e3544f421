-- Places of runs, each once.
use Rattle.std.proofs.Common.{◌≡◌, ℕ, zero, suc, ◌+◌, ◌-◌, ◌<◌, ◌≤◌, ◌⊎◌, max, length, take, get_or, All, ◌||◌, ◌&&◌, inl, inr, Bool, true, false, List, [], ◌∷◌, ◌++◌, Result, Ok, Err, refl, sym, ap, subst, ◌∙◌, arith, append-nil}
use Rattle.std.specs.Prelude.{◌==◌, min, nat_lt, if◌then◌else◌, IfOk}
use Rattle.std.specs.List.{sum_by}
use Rattle.std.specs.List.Sorted.{IsNonDecreasingBy, IsPermutation}
use Rattle.std.proofs.lemmas.Bool.{eq-eqb, ne_eqb, eqb-true, lt-ltb}
use Rattle.std.proofs.lemmas.Grind.{flat_map-append}
use Rattle.std.proofs.lemmas.List.{take_more, get_or-take, get_or_default, length-take}
use Rattle.std.proofs.lemmas.List.Elements.{All-head, All-tail}
use Rattle.std.proofs.lemmas.List.Folds.{list_any-append}
use Rattle.std.proofs.lemmas.List.Sorted.{sum_by-IsPermutation}
use Rattle.std.proofs.lemmas.List.Sums.{sum_by-cons}
use Rattle.fj_value.specs.declared.place.Place.{Place}
use Rattle.fj_store.specs.declared.run.Run.{Run}
use Rattle.fj_store.specs.Places.{same_place, is_among, has_twice, counted_from, places_of, places_in}
use Rattle.fj_store.proofs.StoreLemmas.{whole}
use Rattle.fj_store.proofs.TableLemmas.{places_tell}
use Rattle.fj_run_statements.specs.Places.{key_of, reached_at}

clash : true ≡ false → ⊥
clash e = cc

place_is : (p q : Place) → same_place p q ≡ true → p ≡ q
place_is p q t = elim (places_tell p q) [ inl same ↦ same.1 | inr other ↦ absurd (clash (sym t ∙ other.0)) ]

itself : (p : Place) → same_place p p ≡ true
itself p = ap (λ b. b && (p.index == p.index)) (eq-eqb p.var p.var refl) ∙ eq-eqb p.index p.index refl

parts : (a b : Bool) → (a || b) ≡ false → (a ≡ false) × (b ≡ false)
parts true b e = absurd (clash e)
parts false b e = (refl, e)

behind : (a : Bool) → (a || true) ≡ true
behind true = refl
behind false = refl

and_false : (a : Bool) → (a && false) ≡ false
and_false true = refl
and_false false = refl

or_false : (a : Bool) → (a || false) ≡ a
or_false true = refl
or_false false = refl

joined_once : (xs ys : List Place) → has_twice xs ≡ false → has_twice ys ≡ false → ((p : Place) → is_among xs p ≡ true → is_among ys p ≡ false) → has_twice (xs ++ ys) ≡ false
joined_once [] ys h k apart = k
joined_once (x ∷ xs) ys h k apart =
    let both : (is_among xs x ≡ false) × (has_twice xs ≡ false) = parts (is_among xs x) (has_twice xs) h in
    let here : is_among (x ∷ xs) x ≡ true = ap (λ b. b || is_among xs x) (itself x) in
    ap (λ b. b || has_twice (xs ++ ys)) (list_any-append (same_place x) xs ys ∙ ap (λ b. b || is_among ys x) both.0 ∙ apart x here)
    ∙ joined_once xs ys both.1 k (λ p e. apart p (ap (λ b. same_place p x || b) e ∙ behind (same_place p x)))

-- ---- the places of a run

lesser_out : (var m first n : ℕ) → m < first → is_among (counted_from var first n) (record { var = var; index = m }) ≡ false
lesser_out var m first zero h = refl
lesser_out var m first (suc n) h =
    ap (λ b. ((var == var) && b) || is_among (counted_from var (first + 1) n) (record { var = var; index = m })) (ne_eqb m first (λ e. omega arith))
    ∙ ap (λ b. b || is_among (counted_from var (first + 1) n) (record { var = var; index = m })) (and_false (var == var))
    ∙ lesser_out var m (first + 1) n (omega arith)

counted_once : (var first n : ℕ) → has_twice (counted_from var first n) ≡ false
counted_once var first zero = refl
counted_once var first (suc n) =
    ap (λ b. b || has_twice (counted_from var (first + 1) n)) (lesser_out var first (first + 1) n (omega arith)) ∙ counted_once var (first + 1) n

-- ---- the places of runs

-- they are those of the runs, and none twice
pub record AreOnce (runs : List Run) (places : List Place) : Type 0 where
  pub once : has_twice places ≡ false
  pub same : (p : Place) → is_among places p ≡ is_among (places_in runs) p

pub once_none : AreOnce [] []
once_none = record { once = refl; same = λ p. refl }

-- those of one run alone
pub alone_once : (run : Run) (runs : List Run) → runs ≡ run ∷ [] → has_twice (places_in runs) ≡ false
alone_once run runs is = ap (λ l. has_twice (places_in l)) is ∙ ap has_twice (append-nil (places_of run)) ∙ counted_once run.var run.first run.count

pub alone_places : (run : Run) (runs : List Run) → runs ≡ run ∷ [] → places_in runs ≡ places_of run
alone_places run runs is = ap places_in is ∙ append-nil (places_of run)

pub alone_same : (runs : List Run) (run : Run) (places : List Place) (p : Place) → length runs ≡ 1 → run ≡ get_or runs 0 run → places ≡ places_of run → is_among places p ≡ is_among (places_in runs) p
alone_same [] run places p one first is = absurd (omega (arith, one))
alone_same (r ∷ []) run places p one first is = ap (λ l. is_among l p) (is ∙ ap places_of first ∙ sym (append-nil (places_of r)))
alone_same (r ∷ s ∷ rest) run places p one first is = absurd (omega (arith, one))

pub alone_told : {E : Type 0} → (runs : List Run) (run : Run) (r : Result (List Place) E) → length runs ≡ 1 → run ≡ get_or runs 0 run → IfOk r (λ places. places ≡ places_of run)
    → IfOk r (λ places. (p : Place) → is_among places p ≡ is_among (places_in runs) p)
alone_told runs run (Ok places) one first is = λ p. alone_same runs run places p one first is
alone_told runs run (Err e) one first is = tt

-- ---- which places a run has

abbrev HasAt : ℕ → ℕ → ℕ → Place → Type 0
HasAt var first n p = (p.var ≡ var) × (first ≤ p.index) × (p.index < first + n)

in_counted_by : (var first n : ℕ) (p : Place) (b : Bool) → same_place p (record { var = var; index = first }) ≡ b → (is_among (counted_from var (first + 1) n) p ≡ true → HasAt var (first + 1) n p)
    → (b || is_among (counted_from var (first + 1) n) p) ≡ true → HasAt var first (suc n) p
in_counted_by var first n p true e rest t =
    let is : p ≡ record { var = var; index = first } = place_is p (record { var = var; index = first }) e in
    let index : p.index ≡ first = ap (λ (q : Place). q.index) is in
    (ap (λ (q : Place). q.var) is, omega arith, omega arith)
in_counted_by var first n p false e rest t =
    let there : HasAt var (first + 1) n p = rest t in (there.0, omega (arith, there.1), omega (arith, there.2))

in_counted : (var first n : ℕ) (p : Place) → is_among (counted_from var first n) p ≡ true → HasAt var first n p
in_counted var first zero p t = absurd (clash (sym t))
in_counted var first (suc n) p t = in_counted_by var first n p (same_place p (record { var = var; index = first })) refl (in_counted var (first + 1) n p) t

counted_in_by : (var first n : ℕ) (p : Place) (b : Bool) → (p.index == first) ≡ b → (first + 1 ≤ p.index → is_among (counted_from var (first + 1) n) p ≡ true) → first ≤ p.index
    → (b || is_among (counted_from var (first + 1) n) p) ≡ true
counted_in_by var first n p true e rest low = refl
counted_in_by var first n p false e rest low =
    let other : p.index ≡ first → ⊥ = λ q. clash (sym (eq-eqb p.index first q) ∙ e) in rest (omega (arith, other, low))

counted_in : (var first n : ℕ) (p : Place) → p.var ≡ var → first ≤ p.index → p.index < first + n → is_among (counted_from var first n) p ≡ true
counted_in var first zero p v low high = absurd (omega arith)
counted_in var first (suc n) p v low high =
    ap (λ b. (b && (p.index == first)) || is_among (counted_from var (first + 1) n) p) (eq-eqb p.var var v)
    ∙ counted_in_by var first n p (p.index == first) refl (λ more. counted_in var (first + 1) n p v more (omega arith)) low

agree : (a b : Bool) → (a ≡ true → b ≡ true) → (b ≡ true → a ≡ true) → a ≡ b
agree true b f g = sym (f refl)
agree false true f g = g refl
agree false false f g = refl

either : (a b : Bool) → (a || b) ≡ true → (a ≡ true) ⊎ (b ≡ true)
either true b e = inl refl
either false b e = inr e

front_of : (a b : Bool) → a ≡ true → (a || b) ≡ true
front_of a b e = ap (λ x. x || b) e

back_of : (a b : Bool) → b ≡ true → (a || b) ≡ true
back_of a b e = ap (λ x. a || x) e ∙ behind a

not_true : (b : Bool) → (b ≡ true → ⊥) → b ≡ false
not_true true f = absurd (f refl)
not_true false f = refl

before_or : (a b : ℕ) → (a < b) ⊎ (b ≤ a)
before_or a zero = inr (omega arith)
before_or zero (suc b) = inl (omega arith)
before_or (suc a) (suc b) = elim (before_or a b) [ inl low ↦ inl (omega (arith, low)) | inr high ↦ inr (omega (arith, high)) ]

-- one run more
in_more : (runs : List Run) (r : Run) (p : Place) → is_among (places_in (runs ++ r ∷ [])) p ≡ (is_among (places_in runs) p || is_among (places_of r) p)
in_more runs r p =
    ap (λ l. is_among l p) (flat_map-append places_of runs (r ∷ []))
    ∙ list_any-append (same_place p) (places_in runs) (places_in (r ∷ []))
    ∙ ap (λ b. is_among (places_in runs) p || b) (list_any-append (same_place p) (places_of r) [] ∙ or_false (is_among (places_of r) p))

-- ---- runs in order

-- behind runs, all places of lesser variables are in front of a run; those of its own variable end somewhere, and all in front of
-- that end, from its first on, are there
pub record IsDue (runs : List Run) (r : Run) (front : ℕ) : Type 0 where
  pub below : (p : Place) → is_among (places_in runs) p ≡ true → (p.var < r.var) ⊎ ((p.var ≡ r.var) × (p.index < front))
  pub covered : (p : Place) → p.var ≡ r.var → r.first ≤ p.index → p.index < front → is_among (places_in runs) p ≡ true

-- the places of the runs are there, each once; and what is due to a run that comes behind them
pub record AreGathered (runs : List Run) (var end : ℕ) (places : List Place) : Type 0 where
  pub once : AreOnce runs places
  pub due : (s : Run) → s.first < 4294967296 → All (λ (r : Run). key_of r ≤ key_of s) runs → IsDue runs s (reached_at var end s)

-- of a run those that are not in front of that end
once_more : (runs : List Run) (r : Run) (front skipped : ℕ) (before after : List Place) → AreOnce runs before → IsDue runs r front → skipped ≡ min (front - r.first) r.count
    → after ≡ before ++ counted_from r.var (r.first + skipped) (r.count - skipped) → AreOnce (runs ++ r ∷ []) after
once_more runs r front skipped before after h due is more =
    let tail : List Place = counted_from r.var (r.first + skipped) (r.count - skipped) in
    subst (AreOnce (runs ++ r ∷ [])) (sym more) (record {
      once = joined_once before tail h.once (counted_once r.var (r.first + skipped) (r.count - skipped)) (λ p e. not_true (is_among tail p) (λ t. apart p (sym (h.same p) ∙ e) t));
      same = λ p.
          list_any-append (same_place p) before tail ∙ ap (λ b. b || is_among tail p) (h.same p)
          ∙ agree (is_among (places_in runs) p || is_among tail p) (is_among (places_in runs) p || is_among (places_of r) p) (to p) (from p)
          ∙ sym (in_more runs r p);
    })
  where
    rest : List Place
    rest = counted_from r.var (r.first + skipped) (r.count - skipped)

    apart : (p : Place) → is_among (places_in runs) p ≡ true → is_among rest p ≡ true → ⊥
    apart p e t =
        let there = in_counted r.var (r.first + skipped) (r.count - skipped) p t in
        elim (due.below p e) [ inl lesser ↦ omega (arith, there.0, lesser) | inr same ↦ omega (arith, there.1, there.2, same.1) ]

    to : (p : Place) → (is_among (places_in runs) p || is_among rest p) ≡ true → (is_among (places_in runs) p || is_among (places_of r) p) ≡ true
    to p t = elim (either (is_among (places_in runs) p) (is_among rest p) t) [
      | inl old ↦ front_of (is_among (places_in runs) p) (is_among (places_of r) p) old
      | inr new ↦
          let there = in_counted r.var (r.first + skipped) (r.count - skipped) p new in
          back_of (is_among (places_in runs) p) (is_among (places_of r) p) (counted_in r.var r.first r.count p there.0 (omega (arith, there.1)) (omega (arith, there.1, there.2)))
    ]

    from : (p : Place) → (is_among (places_in runs) p || is_among (places_of r) p) ≡ true → (is_among (places_in runs) p || is_among rest p) ≡ true
    from p t = elim (either (is_among (places_in runs) p) (is_among (places_of r) p) t) [
      | inl old ↦ front_of (is_among (places_in runs) p) (is_among rest p) old
      | inr new ↦
          let there = in_counted r.var r.first r.count p new in
          elim (before_or p.index (r.first + skipped)) [
            | inl low ↦
                front_of (is_among (places_in runs) p) (is_among rest p) (due.covered p there.0 there.1 (omega (arith, there.1, there.2, low)))
            | inr high ↦
                back_of (is_among (places_in runs) p) (is_among rest p) (counted_in r.var (r.first + skipped) (r.count - skipped) p there.0 high (omega (arith, there.1, there.2, high)))
          ]
    ]

-- the next run

due_next : (runs : List Run) (r s : Run) (front : ℕ) → IsDue runs r front → r.first < 4294967296 → s.first < 4294967296 → key_of r ≤ key_of s
    → IsDue (runs ++ r ∷ []) s (reached_at r.var (max front (r.first + r.count)) s)
due_next runs r s front due small other_small order = by (s.var == r.var) refl
  where
    end : ℕ
    end = max front (r.first + r.count)

    ends : (p : Place) → is_among (places_in (runs ++ r ∷ [])) p ≡ true → (p.var < r.var) ⊎ ((p.var ≡ r.var) × (p.index < end))
    ends p t = elim (either (is_among (places_in runs) p) (is_among (places_of r) p) (sym (in_more runs r p) ∙ t)) [
      | inl old ↦ elim (due.below p old) [ inl lesser ↦ inl lesser | inr same ↦ inr (same.0, omega (arith, same.1)) ]
      | inr new ↦ let there = in_counted r.var r.first r.count p new in inr (there.0, omega (arith, there.2))
    ]

    by : (b : Bool) → (s.var == r.var) ≡ b → IsDue (runs ++ r ∷ []) s (if b then end else 0)
    by true e =
        let same : s.var ≡ r.var = eqb-true s.var r.var e in
        record {
          below = λ p t. elim (ends p t) [ inl lesser ↦ inl (omega (arith, lesser)) | inr at ↦ inr (at.0 ∙ sym same, at.1) ];
          covered = λ p v low high.
              elim (before_or p.index (r.first + r.count)) [
                | inl here ↦
                    in_more runs r p ∙ back_of (is_among (places_in runs) p) (is_among (places_of r) p) (counted_in r.var r.first r.count p (v ∙ same) (omega (arith, low)) here)
                | inr past ↦
                    in_more runs r p
                    ∙ front_of (is_among (places_in runs) p) (is_among (places_of r) p) (due.covered p (v ∙ same) (omega (arith, low)) (omega (arith, high, past)))
              ];
        }
    by false e =
        let other : s.var ≡ r.var → ⊥ = λ q. clash (sym (eq-eqb s.var r.var q) ∙ e) in
        let less : r.var < s.var = omega (arith, other) in
        record {
          below = λ p t. elim (ends p t) [ inl lesser ↦ inl (omega (arith, lesser, less)) | inr at ↦ inl (omega (arith, at.0, less)) ];
          covered = λ p v low high. absurd (omega (arith, high));
        }

pub gathered_none : (var : ℕ) → AreGathered [] var 0 []
gathered_none var = record {
  once = once_none;
  due = λ s small below. record {
    below = λ p t. absurd (clash (sym t));
    covered = λ p v low high. absurd (none p s (s.var == var) high);
  };
}
  where
    none : (p : Place) (s : Run) (b : Bool) → p.index < (if b then 0 else 0) → ⊥
    none p s true high = omega (arith, high)
    none p s false high = omega (arith, high)

lesser_keys : (runs : List Run) (i : ℕ) (r : Run) → i < length runs → r ≡ get_or runs i r → IsNonDecreasingBy key_of runs → All (λ (x : Run). key_of x ≤ key_of r) (take i runs)
lesser_keys runs i r low is ascends = λ k d h.
    let front : k < i = omega (arith, length-take i runs, h) in
    let at : get_or (take i runs) k d ≡ get_or runs k d = get_or-take i runs k d front in
    let last : get_or runs i d ≡ r = get_or_default runs i d r low ∙ sym is in
    let up : key_of (get_or runs k d) ≤ key_of (get_or runs i d) = ascends k i d (omega arith) low in
    subst (λ (x : Run). key_of (get_or (take i runs) k d) ≤ key_of x) last (subst (λ (x : Run). key_of x ≤ key_of (get_or runs i d)) (sym at) up)

last_all : (P : Run → Type 0) (xs : List Run) (x : Run) → All P (xs ++ x ∷ []) → P x
last_all P [] x h = All-head P x [] h
last_all P (y ∷ xs) x h = last_all P xs x (All-tail P y (xs ++ x ∷ []) h)

pub gathered_more : (runs : List Run) (i : ℕ) (r : Run) (var end front skipped end' : ℕ) (before after : List Place) → i < length runs → r ≡ get_or runs i r → IsNonDecreasingBy key_of runs
    → r.first < 4294967296 → front ≡ reached_at var end r → skipped ≡ min (front - r.first) r.count → after ≡ before ++ counted_from r.var (r.first + skipped) (r.count - skipped)
    → end' ≡ max front (r.first + r.count) → AreGathered (take i runs) var end before → AreGathered (take (i + 1) runs) r.var end' after
gathered_more runs i r var end front skipped end' before after low is ascends small front_is skipped_is more end_is h =
    let due : IsDue (take i runs) r front = subst (IsDue (take i runs) r) (sym front_is) (h.due r small (lesser_keys runs i r low is ascends)) in
    let all : take i runs ++ r ∷ [] ≡ take (i + 1) runs = ap (λ x. take i runs ++ x ∷ []) is ∙ sym (take_more runs i r low) in
    subst (λ rs. AreGathered rs r.var end' after) all (record {
      once = once_more (take i runs) r front skipped before after h.once due skipped_is more;
      due = λ s other_small below.
          subst (λ e. IsDue (take i runs ++ r ∷ []) s (reached_at r.var e s)) (sym end_is) (due_next (take i runs) r s front due small other_small (last_all (λ (x : Run). key_of x ≤ key_of s) (take i runs) r below));
    })

-- ---- the same places in another order

abbrev weight : Place → Run → ℕ
weight p r = if is_among (places_of r) p then 1 else 0

weighs : (p : Place) (a : Bool) (n : ℕ) (rest : Bool) → rest ≡ nat_lt 0 n → (a || rest) ≡ nat_lt 0 ((if a then 1 else 0) + n)
weighs p true n rest e = let more : 0 < 1 + n = omega arith in sym (lt-ltb 0 (1 + n) more)
weighs p false n rest e = let same : n ≡ 0 + n = omega arith in e ∙ ap (λ m. nat_lt 0 m) same

among_weight : (p : Place) (runs : List Run) → is_among (places_in runs) p ≡ nat_lt 0 (sum_by (weight p) runs)
among_weight p [] = refl
among_weight p (r ∷ runs) =
    list_any-append (same_place p) (places_of r) (places_in runs) ∙ weighs p (is_among (places_of r) p) (sum_by (weight p) runs) (is_among (places_in runs) p) (among_weight p runs)
    ∙ ap (λ n. nat_lt 0 n) (sym (sum_by-cons (weight p) r runs))

moved_same : (runs others : List Run) (p : Place) → IsPermutation runs others → is_among (places_in others) p ≡ is_among (places_in runs) p
moved_same runs others p moves = among_weight p others ∙ ap (λ n. nat_lt 0 n) (sum_by-IsPermutation (weight p) runs others moves) ∙ sym (among_weight p runs)

pub gathered_all : (it : List Place) (runs ordered : List Run) (i var end : ℕ) (places : List Place) → IsPermutation runs ordered → length ordered ≤ i
    → AreGathered (take i ordered) var end places → it ≡ places → (p : Place) → is_among it p ≡ is_among (places_in runs) p
gathered_all it runs ordered i var end places moves past h is p =
    ap (λ l. is_among l p) is ∙ h.once.same p ∙ ap (λ rs. is_among (places_in rs) p) (whole ordered i past) ∙ moved_same runs ordered p moves
