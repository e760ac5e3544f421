-- Units whose slots and numbers differ.
use Rattle.std.proofs.Common.{◌≡◌, ℕ, ◌<◌, ◌≤◌, Bool, true, false, List, [], ◌∷◌, map, length, Some, refl, sym, ap, ◌∙◌, subst, inl, inr, arith}
use Rattle.std.specs.Prelude.{nat_lt, if◌then◌else◌, filter, ◌==◌}
use Rattle.std.proofs.lemmas.Bool.{eq-eqb, ne_eqb, ltb-true}
use Rattle.std.proofs.lemmas.Bool.Decides.{eqb_tells}
use Rattle.fj_meaning_jobs.specs.Core.{Connected, connected_at, with_connected, inserted}
use Rattle.fj_meaning_jobs.specs.Desks.{most_slots}
use Rattle.fj_meaning_jobs.proofs.Apart.{Each, each_filter, each_append, each_imp, each_both, each_map, Differs, Apart, apart_filter, apart_append, apart_map}
use Rattle.fj_meaning_jobs.proofs.Counting.{no_longer}
use Rattle.fj_meaning_turns.proofs.Slots.{length_mapped}

abbrev pub slot_of : Connected → ℕ
slot_of u = u.slot

abbrev pub number_of : Connected → ℕ
number_of u = u.number

pub record Seated (us : List Connected) : Type 0 where
  pub inside : Each (λ (u : Connected). u.slot < most_slots) us
  pub slots : Apart slot_of us
  pub numbers : Apart number_of us

pub few_seated : (us : List Connected) → Seated us → length us ≤ most_slots
few_seated us h =
    let few = no_longer most_slots (map slot_of us) (apart_map slot_of (λ x. x) slot_of us (λ x. refl) h.slots) (each_map (λ x. x < most_slots) slot_of us h.inside) in
    omega (arith, few, length_mapped slot_of us)

pub filter_seated : (p : Connected → Bool) (us : List Connected) → Seated us → Seated (filter p us)
filter_seated p us h = record {
  inside = each_filter (λ (u : Connected). u.slot < most_slots) p us h.inside;
  slots = apart_filter slot_of p us h.slots;
  numbers = apart_filter number_of p us h.numbers;
}

-- ---- a unit becomes another, at the same slot

each_unmap : {X : Type 0} → (P : ℕ → Type 0) (f : X → ℕ) (xs : List X) → Each P (map f xs) → Each (λ x. P (f x)) xs
each_unmap P f [] h = tt
each_unmap P f (x ∷ xs) h = (h.0, each_unmap P f xs h.1)

apart_unmap : {X : Type 0} → (f : X → ℕ) (xs : List X) → Apart (λ x. x) (map f xs) → Apart f xs
apart_unmap f [] h = tt
apart_unmap f (x ∷ xs) h = (each_unmap (λ n. n ≡ f x → ⊥) f xs h.0, apart_unmap f xs h.1)

unchanged : (new : Connected) (us : List Connected) → Differs number_of new.number us → with_connected new us ≡ us
unchanged new [] d = refl
unchanged new (x ∷ us) d = ap (λ b. (if b then new else x) ∷ with_connected new us) (ne_eqb x.number new.number d.0) ∙ ap (λ l. x ∷ l) (unchanged new us d.1)

with_maps : (f : Connected → ℕ) (new u : Connected) (n : ℕ) (us : List Connected) → Apart number_of us → connected_at us n ≡ Some u → new.number ≡ n → f new ≡ f u → map f (with_connected new us) ≡ map f us
with_maps f new u n [] a e is same = cc
with_maps f new u n (x ∷ us) a e is same =
    elim (eqb_tells x.number n) [
      | inl b ↦
          let z : Some x ≡ Some u = ap (λ k. if k then Some x else connected_at us n) (sym b.0) ∙ e in
          let here : x ≡ u = cc in
          let test : (x.number == new.number) ≡ true = eq-eqb x.number new.number (b.1 ∙ sym is) in
          ap (λ k. f (if k then new else x) ∷ map f (with_connected new us)) test
          ∙ ap (λ k. k ∷ map f (with_connected new us)) (same ∙ ap f (sym here))
          ∙ ap (λ l. f x ∷ map f l) (unchanged new us (subst (λ k. Differs number_of k us) (b.1 ∙ sym is) a.0))
      | inr b ↦
          let later : connected_at us n ≡ Some u = ap (λ k. if k then Some x else connected_at us n) (sym b.0) ∙ e in
          let test : (x.number == new.number) ≡ false = ne_eqb x.number new.number (λ q. b.1 (q ∙ is)) in
          ap (λ k. f (if k then new else x) ∷ map f (with_connected new us)) test ∙ ap (λ l. f x ∷ l) (with_maps f new u n us a.1 later is same)
    ]

pub found_number : (us : List Connected) (n : ℕ) (u : Connected) → connected_at us n ≡ Some u → u.number ≡ n
found_number [] n u e = cc
found_number (x ∷ us) n u e =
    elim (eqb_tells x.number n) [
      | inl b ↦ (let z : Some x ≡ Some u = ap (λ k. if k then Some x else connected_at us n) (sym b.0) ∙ e in let here : x ≡ u = cc in ap number_of (sym here) ∙ b.1)
      | inr b ↦ found_number us n u (ap (λ k. if k then Some x else connected_at us n) (sym b.0) ∙ e)
    ]

pub with_seated : (new u : Connected) (n : ℕ) (us : List Connected) → Seated us → connected_at us n ≡ Some u → new.number ≡ n → new.slot ≡ u.slot → Seated (with_connected new us)
with_seated new u n us h e is same =
    let slots = with_maps slot_of new u n us h.numbers e is same in
    let numbers = with_maps number_of new u n us h.numbers e is (is ∙ sym (found_number us n u e)) in
    record {
      inside = each_unmap (λ k. k < most_slots) slot_of (with_connected new us) (subst (Each (λ k. k < most_slots)) (sym slots) (each_map (λ k. k < most_slots) slot_of us h.inside));
      slots = apart_unmap slot_of (with_connected new us) (subst (Apart (λ x. x)) (sym slots) (apart_map slot_of (λ x. x) slot_of us (λ x. refl) h.slots));
      numbers = apart_unmap number_of (with_connected new us) (subst (Apart (λ x. x)) (sym numbers) (apart_map number_of (λ x. x) number_of us (λ x. refl) h.numbers));
    }

-- ---- a unit more

filter_true : (p : Connected → Bool) (us : List Connected) → Each (λ u. p u ≡ true) (filter p us)
filter_true p [] = tt
filter_true p (x ∷ us) = by (p x) refl (filter_true p us)
  where
    by : (b : Bool) → p x ≡ b → Each (λ u. p u ≡ true) (filter p us) → Each (λ u. p u ≡ true) (if b then x ∷ filter p us else filter p us)
    by true e h = (e, h)
    by false e h = h

cross : (f : Connected → ℕ) (p q : Connected → Bool) (us : List Connected) → ((u : Connected) → p u ≡ true → q u ≡ true → ⊥) → Apart f us → Each (λ y. Differs f (f y) (filter p us)) (filter q us)
cross f p q [] never a = tt
cross f p q (x ∷ us) never a = by (p x) (q x) refl refl (cross f p q us never a.1)
  where
    by : (b c : Bool) → p x ≡ b → q x ≡ c → Each (λ y. Differs f (f y) (filter p us)) (filter q us)
        → Each (λ y. Differs f (f y) (if b then x ∷ filter p us else filter p us)) (if c then x ∷ filter q us else filter q us)
    by true true e g h = absurd (never x e g)
    by true false e g h =
        each_both (λ y. Differs f (f y) (filter p us)) (λ y. f y ≡ f x → ⊥) (λ y. Differs f (f y) (x ∷ filter p us)) (filter q us) (λ y d ne. ((λ s. ne (sym s)), d)) h (each_filter (λ y. f y ≡ f x → ⊥) q us a.0)
    by false true e g h = (each_filter (λ y. f y ≡ f x → ⊥) p us a.0, h)
    by false false e g h = h

pub inserted_seated : (new : Connected) (us : List Connected) → Seated us → new.slot < most_slots → Differs slot_of new.slot us → Seated (inserted new us)
inserted_seated new us h inside free =
    let before : Connected → Bool = λ u. nat_lt u.number new.number in
    let behind : Connected → Bool = λ u. nat_lt new.number u.number in
    let never : (u : Connected) → before u ≡ true → behind u ≡ true → ⊥ = λ u a b. apart_both u a b in
    record {
      inside = each_append (λ (u : Connected). u.slot < most_slots) (filter before us) (new ∷ filter behind us) (each_filter (λ (u : Connected). u.slot < most_slots) before us h.inside)
          (inside, each_filter (λ (u : Connected). u.slot < most_slots) behind us h.inside);
      slots = apart_append slot_of (filter before us) (new ∷ filter behind us) (apart_filter slot_of before us h.slots)
          (each_filter (λ (u : Connected). u.slot ≡ new.slot → ⊥) behind us free, apart_filter slot_of behind us h.slots)
          (each_filter (λ (u : Connected). u.slot ≡ new.slot → ⊥) before us free, cross slot_of before behind us never h.slots);
      numbers = apart_append number_of (filter before us) (new ∷ filter behind us) (apart_filter number_of before us h.numbers)
          (each_imp (λ u. behind u ≡ true) (λ (u : Connected). u.number ≡ new.number → ⊥) (filter behind us) (λ u t e. above u t e) (filter_true behind us), apart_filter number_of behind us h.numbers)
          (each_imp (λ u. before u ≡ true) (λ (u : Connected). u.number ≡ new.number → ⊥) (filter before us) (λ u t e. below u t e) (filter_true before us), cross number_of before behind us never h.numbers);
    }
  where
    apart_both : (u : Connected) → nat_lt u.number new.number ≡ true → nat_lt new.number u.number ≡ true → ⊥
    apart_both u a b = absurd (omega (arith, ltb-true u.number new.number a, ltb-true new.number u.number b))

    above : (u : Connected) → nat_lt new.number u.number ≡ true → u.number ≡ new.number → ⊥
    above u t e = absurd (omega (arith, ltb-true new.number u.number t, e))

    below : (u : Connected) → nat_lt u.number new.number ≡ true → u.number ≡ new.number → ⊥
    below u t e = absurd (omega (arith, ltb-true u.number new.number t, e))
