-- Lists of connected units.
use Rattle.std.proofs.Common.{◌≡◌, ℕ, zero, suc, ◌<◌, ◌≤◌, arith, Bool, true, false, not, List, [], ◌∷◌, ◌++◌, map, length, get_or, Some, refl, sym, ap, subst, ◌∙◌}
use Rattle.std.proofs.Math.ListN.{set, get_or-map}
use Rattle.std.proofs.lemmas.List.{length-map, map-set}
use Rattle.std.proofs.lemmas.Bool.{eq-eqb, ne_eqb}
use Rattle.std.proofs.lemmas.Bool.Decides.{nat_tests}
use Rattle.std.specs.Prelude.{◌==◌, if◌then◌else◌, filter, nat_lt, HoldsAt}
use Rattle.fj_modes.specs.declared.modes.Modes.{Modes}
use Rattle.fj_meaning_jobs.specs.Core.{Connected as PlainConnected, connected_at, inserted, with_connected, without_connected}
use Rattle.fj_run_units.specs.Units.{AreApart, AreOthers, StandApart, connected_of, has_slot, same_slot, with_modes}
use Rattle.fj_run_units.specs.declared.connected.Connected.{Connected}
use Rattle.fj_run_units.proofs.Having.{differ_filter, inserted_differ}
use Rattle.fj_run_units.proofs.Slots.{slots_kept}

filter_map : {X Y : Type 0} → (g : X → Y) (q : Y → Bool) (xs : List X) → filter q (map g xs) ≡ map g (filter (λ x. q (g x)) xs)
filter_map g q [] = refl
filter_map g q (x ∷ xs) = by (q (g x)) (filter_map g q xs)
  where
    by : (b : Bool) → filter q (map g xs) ≡ map g (filter (λ y. q (g y)) xs) → (if b then g x ∷ filter q (map g xs) else filter q (map g xs)) ≡ map g (if b then x ∷ filter (λ y. q (g y)) xs else filter (λ y. q (g y)) xs)
    by true e = ap (λ l. g x ∷ l) e
    by false e = e

others_if : (n : ℕ) (b : Bool) (u : PlainConnected) (us : List PlainConnected) → (u.number ≡ n → ⊥) → AreOthers n us → AreOthers n (if b then u ∷ us else us)
others_if n true u us d h = (d, h)
others_if n false u us d h = h

others_filter : (n : ℕ) (p : PlainConnected → Bool) (us : List PlainConnected) → AreOthers n us → AreOthers n (filter p us)
others_filter n p [] h = tt
others_filter n p (u ∷ us) h = others_if n (p u) u (filter p us) h.0 (others_filter n p us h.1)

apart_if : (b : Bool) (u : PlainConnected) (us : List PlainConnected) → AreOthers u.number us → AreApart us → AreApart (if b then u ∷ us else us)
apart_if true u us d h = (d, h)
apart_if false u us d h = h

apart_filter : (p : PlainConnected → Bool) (us : List PlainConnected) → AreApart us → AreApart (filter p us)
apart_filter p [] h = tt
apart_filter p (u ∷ us) h = apart_if (p u) u (filter p us) (others_filter u.number p us h.0) (apart_filter p us h.1)

-- what is left where the unit of a number is taken off
pub left_is : (n : ℕ) (xs ys : List Connected) → ys ≡ filter (λ (u : Connected). not (u.number == n)) xs → map connected_of ys ≡ without_connected n (map connected_of xs)
left_is n xs ys e = ap (map connected_of) e ∙ sym (filter_map connected_of (λ (u : PlainConnected). not (u.number == n)) xs)

pub left_apart : (n : ℕ) (xs ys : List Connected) → ys ≡ filter (λ (u : Connected). not (u.number == n)) xs → StandApart (map connected_of xs) → StandApart (map connected_of ys)
left_apart n xs ys e h =
    let kept : PlainConnected → Bool = λ (u : PlainConnected). not (u.number == n) in
    subst StandApart (sym (left_is n xs ys e)) (record { numbers = apart_filter kept (map connected_of xs) h.numbers; slots = differ_filter same_slot kept (map connected_of xs) h.slots })

pub filter_push : {X : Type 0} (p : X → Bool) (xs : List X) (x : X) → filter p (xs ++ x ∷ []) ≡ filter p xs ++ filter p (x ∷ [])
filter_push p [] x = refl
filter_push p (y ∷ ys) x = by (p y) (filter_push p ys x)
  where
    by : (b : Bool) → filter p (ys ++ x ∷ []) ≡ filter p ys ++ filter p (x ∷ [])
        → (if b then y ∷ filter p (ys ++ x ∷ []) else filter p (ys ++ x ∷ [])) ≡ (if b then y ∷ filter p ys else filter p ys) ++ filter p (x ∷ [])
    by true e = ap (λ l. y ∷ l) e
    by false e = e

-- ---- a unit more

abbrev AreBelow : ℕ → List PlainConnected → Type 0
AreBelow n [] = Unit {0}
AreBelow n (u ∷ us) = (u.number < n) × AreBelow n us

abbrev AreAbove : ℕ → List PlainConnected → Type 0
AreAbove n [] = Unit {0}
AreAbove n (u ∷ us) = (n < u.number) × AreAbove n us

below_filter : (n : ℕ) (us : List PlainConnected) → AreBelow n (filter (λ (u : PlainConnected). nat_lt u.number n) us)
below_filter n [] = tt
below_filter n (u ∷ us) = by (nat_lt u.number n) refl (below_filter n us)
  where
    by : (b : Bool) → nat_lt u.number n ≡ b → AreBelow n (filter (λ (v : PlainConnected). nat_lt v.number n) us)
        → AreBelow n (if b then u ∷ filter (λ (v : PlainConnected). nat_lt v.number n) us else filter (λ (v : PlainConnected). nat_lt v.number n) us)
    by true e h = (grind (arith, nat_tests), h)
    by false e h = h

above_filter : (n : ℕ) (us : List PlainConnected) → AreAbove n (filter (λ (u : PlainConnected). nat_lt n u.number) us)
above_filter n [] = tt
above_filter n (u ∷ us) = by (nat_lt n u.number) refl (above_filter n us)
  where
    by : (b : Bool) → nat_lt n u.number ≡ b → AreAbove n (filter (λ (v : PlainConnected). nat_lt n v.number) us)
        → AreAbove n (if b then u ∷ filter (λ (v : PlainConnected). nat_lt n v.number) us else filter (λ (v : PlainConnected). nat_lt n v.number) us)
    by true e h = (grind (arith, nat_tests), h)
    by false e h = h

others_above : (m n : ℕ) (us : List PlainConnected) → m ≤ n → AreAbove n us → AreOthers m us
others_above m n [] le h = tt
others_above m n (u ∷ us) le h = (λ e. absurd (omega (arith, h.0)), others_above m n us le h.1)

others_join : (m : ℕ) (ls : List PlainConnected) (n : PlainConnected) (bs : List PlainConnected) → m < n.number → AreOthers m ls → AreAbove n.number bs → AreOthers m (ls ++ n ∷ bs)
others_join m [] n bs lt h above = (λ e. absurd (omega arith), others_above m n.number bs (omega arith) above)
others_join m (a ∷ ls) n bs lt h above = (h.0, others_join m ls n bs lt h.1 above)

apart_join : (ls : List PlainConnected) (n : PlainConnected) (bs : List PlainConnected) → AreApart ls → AreApart bs → AreBelow n.number ls → AreAbove n.number bs → AreApart (ls ++ n ∷ bs)
apart_join [] n bs ha hb below above = (others_above n.number n.number bs (omega arith) above, hb)
apart_join (a ∷ ls) n bs ha hb below above = (others_join a.number ls n bs below.0 ha.0 above, apart_join ls n bs ha.1 hb below.1 above)

pub inserted_apart : (n : PlainConnected) (us : List PlainConnected) → has_slot us n.slot ≡ false → StandApart us → StandApart (inserted n us)
inserted_apart n us free h = record {
  numbers = apart_join (filter (λ (u : PlainConnected). nat_lt u.number n.number) us) n (filter (λ (u : PlainConnected). nat_lt n.number u.number) us)
      (apart_filter (λ (u : PlainConnected). nat_lt u.number n.number) us h.numbers) (apart_filter (λ (u : PlainConnected). nat_lt n.number u.number) us h.numbers)
      (below_filter n.number us) (above_filter n.number us);
  slots = inserted_differ same_slot (λ u v. back v.slot u.slot) n us h.slots free;
}
  where
    back : (a b : ℕ) → (a == b) ≡ (b == a)
    back a b = grind (arith, nat_tests)

map_append : {X Y : Type 0} (f : X → Y) (xs ys : List X) → map f (xs ++ ys) ≡ map f xs ++ map f ys
map_append f [] ys = refl
map_append f (x ∷ xs) ys = ap (λ l. f x ∷ l) (map_append f xs ys)

pub map_push : {X Y : Type 0} (f : X → Y) (xs : List X) (x : X) (ys : List Y) → map f (xs ++ x ∷ []) ++ ys ≡ map f xs ++ f x ∷ ys
map_push f [] x ys = refl
map_push f (z ∷ zs) x ys = ap (λ l. f z ∷ l) (map_push f zs x ys)

joined : {X : Type 0} (xs : List X) (y : X) (zs : List X) → (xs ++ y ∷ []) ++ zs ≡ xs ++ y ∷ zs
joined [] y zs = refl
joined (x ∷ xs) y zs = ap (λ l. x ∷ l) (joined xs y zs)

pub inserted_is : (xs old none nothing below above pushed all : List Connected) (new : Connected) → old ≡ xs → none ≡ [] → nothing ≡ []
    → below ≡ none ++ filter (λ (u : Connected). nat_lt u.number new.number) old → above ≡ nothing ++ filter (λ (u : Connected). nat_lt new.number u.number) old
    → pushed ≡ below ++ new ∷ [] → all ≡ pushed ++ above → map connected_of all ≡ inserted (connected_of new) (map connected_of xs)
inserted_is xs old none nothing below above pushed all new eo en em eb ea ep el =
    let low : List Connected = filter (λ (u : Connected). nat_lt u.number new.number) xs in
    let high : List Connected = filter (λ (u : Connected). nat_lt new.number u.number) xs in
    let is_below : below ≡ low = rw (eb, en, eo) refl in
    let is_above : above ≡ high = rw (ea, em, eo) refl in
    let is_all : all ≡ low ++ new ∷ high = rw (el, ep, is_below, is_above) (joined low new high) in
    ap (map connected_of) is_all ∙ map_append connected_of low (new ∷ high)
    ∙ ap (λ l. l ++ connected_of new ∷ map connected_of high) (sym (filter_map connected_of (λ (u : PlainConnected). nat_lt u.number new.number) xs))
    ∙ ap (λ l. filter (λ (u : PlainConnected). nat_lt u.number new.number) (map connected_of xs) ++ connected_of new ∷ l) (sym (filter_map connected_of (λ (u : PlainConnected). nat_lt new.number u.number) xs))

-- ---- a unit in place of another of its number

others_at : (m at : ℕ) (us : List PlainConnected) (d : PlainConnected) → AreOthers m us → at < length us → (get_or us at d).number ≡ m → ⊥
others_at m at [] d h lt e = omega arith
others_at m zero (u ∷ us) d h lt e = h.0 e
others_at m (suc at) (u ∷ us) d h lt e = others_at m at us d h.1 (omega arith) e

pub found_at : (at : ℕ) (us : List PlainConnected) (d : PlainConnected) → AreApart us → at < length us → connected_at us (get_or us at d).number ≡ Some (get_or us at d)
found_at at [] d h lt = absurd (omega arith)
found_at zero (u ∷ us) d h lt = ap (λ t. if t then Some u else connected_at us u.number) (eq-eqb u.number u.number refl)
found_at (suc at) (u ∷ us) d h lt =
    ap (λ t. if t then Some u else connected_at us (get_or us at d).number) (ne_eqb u.number (get_or us at d).number (λ e. others_at u.number at us d h.0 (omega arith) (sym e)))
    ∙ found_at at us d h.1 (omega arith)

kept_others : (n : ℕ) (new : PlainConnected) (us : List PlainConnected) → new.number ≡ n → AreOthers n us → with_connected new us ≡ us
kept_others n new [] e h = refl
kept_others n new (u ∷ us) e h =
    ap (λ t. (if t then new else u) ∷ with_connected new us) (ne_eqb u.number new.number (λ x. h.0 (x ∙ e)))
    ∙ ap (λ l. u ∷ l) (kept_others n new us e h.1)

pub placed_at : (at : ℕ) (us : List PlainConnected) (d new : PlainConnected) → AreApart us → at < length us → new.number ≡ (get_or us at d).number → set us at new ≡ with_connected new us
placed_at at [] d new h lt e = absurd (omega arith)
placed_at zero (u ∷ us) d new h lt e =
    sym (ap (λ t. (if t then new else u) ∷ with_connected new us) (eq-eqb u.number new.number (sym e)) ∙ ap (λ l. new ∷ l) (kept_others u.number new us e h.0))
placed_at (suc at) (u ∷ us) d new h lt e =
    ap (λ l. u ∷ l) (placed_at at us d new h.1 (omega arith) e)
    ∙ sym (ap (λ t. (if t then new else u) ∷ with_connected new us) (ne_eqb u.number new.number (λ x. others_at u.number at us d h.0 (omega arith) (sym e ∙ sym x))))

others_placed : (m at : ℕ) (us : List PlainConnected) (d new : PlainConnected) → AreOthers m us → new.number ≡ (get_or us at d).number → at < length us → AreOthers m (set us at new)
others_placed m at [] d new h e lt = absurd (omega arith)
others_placed m zero (u ∷ us) d new h e lt = (λ x. h.0 (sym e ∙ x), h.1)
others_placed m (suc at) (u ∷ us) d new h e lt = (h.0, others_placed m at us d new h.1 e (omega arith))

pub apart_placed : (at : ℕ) (us : List PlainConnected) (d new : PlainConnected) → AreApart us → at < length us → new.number ≡ (get_or us at d).number → AreApart (set us at new)
apart_placed at [] d new h lt e = absurd (omega arith)
apart_placed zero (u ∷ us) d new h lt e = (kept_number e h.0, h.1)
  where
    kept_number : new.number ≡ u.number → AreOthers u.number us → AreOthers new.number us
    kept_number x others = subst (λ n. AreOthers n us) (sym x) others
apart_placed (suc at) (u ∷ us) d new h lt e = (others_placed u.number at us d new h.0 e (omega arith), apart_placed at us d new h.1 (omega arith) e)

-- the unit at a place has other modes
pub modes_set : (xs : List Connected) (at n : ℕ) (m : Modes) (x y : Connected) → connected_of y ≡ (let u : PlainConnected = connected_of x in record u { modes = m }) → at < length xs → x ≡ get_or xs at x
    → HoldsAt (λ (u : Connected). u.number ≡ n) xs at → StandApart (map connected_of xs)
    → (map connected_of (set xs at y) ≡ with_modes (map connected_of xs) (connected_at (map connected_of xs) n) m) × StandApart (map connected_of (set xs at y))
modes_set xs at n m x y becomes low is holds h =
    let us : List PlainConnected = map connected_of xs in
    let u : PlainConnected = connected_of x in
    let new : PlainConnected = record u { modes = m } in
    let within : at < length us = omega (arith, length-map xs connected_of) in
    let here : get_or us at u ≡ u = get_or-map connected_of xs at x ∙ ap connected_of (sym is) in
    let number : x.number ≡ n = ap (λ (y : Connected). y.number) is ∙ holds x in
    let same : new.number ≡ (get_or us at u).number = ap (λ (y : PlainConnected). y.number) (sym here) in
    let written : map connected_of (set xs at y) ≡ set us at new = map-set connected_of xs at y ∙ ap (set us at) becomes in
    let found : connected_at us n ≡ Some u =
    ap (connected_at us) (sym number ∙ same) ∙ found_at at us u h.numbers within ∙ ap Some here in (
      written ∙ placed_at at us u new h.numbers within same ∙ ap (λ o. with_modes us o m) (sym found),
      subst StandApart (sym written) (record {
        numbers = apart_placed at us u new h.numbers within same;
        slots = slots_kept at us u new (ap (λ (y : PlainConnected). y.slot) (sym here)) h.slots;
      }),
    )
