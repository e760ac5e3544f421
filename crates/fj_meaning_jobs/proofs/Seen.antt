-- Units with their slots, and connected units.
use Rattle.std.proofs.Common.{◌≡◌, ℕ, not, List, [], ◌∷◌, map, Some, None, slice_get, refl, sym, ap, ◌∙◌, subst, inl, inr, ◌||◌}
use Rattle.std.specs.Prelude.{◌==◌, ◌&&◌, if◌then◌else◌, Option, IsSome}
use Rattle.std.specs.List.{list_any}
use Rattle.std.specs.Str.{bytes_eq}
use Rattle.std.proofs.lemmas.Bool.{eq-eqb, ne_eqb}
use Rattle.std.proofs.lemmas.Bool.Decides.{eqb_tells}
use Rattle.fj_meaning.specs.State as plain
use Rattle.fj_meaning.specs.State.{found}
use Rattle.fj_meaning.specs.Needs.{unit_of_file}
use Rattle.fj_meaning_jobs.specs.Core.{Connected, connected_at, unit_named}
use Rattle.fj_meaning_jobs.specs.Desks.{Desk}
use Rattle.fj_meaning_jobs.specs.Both.{Both}
use Rattle.fj_meaning_jobs.specs.Forgetting.{IsSeen, bay_at}
use Rattle.fj_meaning_jobs.proofs.Apart.{Each, Apart, Differs}

abbrev pub Seen : List Desk → List Connected → List plain.Unit → Type 0
Seen desks us vs = Both (IsSeen desks) us vs

-- a unit that is connected
pub record At (desks : List Desk) (vs : List plain.Unit) (number : ℕ) (u : Connected) : Type 0 where
  pub it : plain.Unit
  pub found_is : found vs number ≡ Some it
  pub number_is : it.number ≡ number
  pub own_number : u.number ≡ number
  pub seen : IsSeen desks u it

pub at_unit : (desks : List Desk) (us : List Connected) (vs : List plain.Unit) (number : ℕ) (u : Connected) → Seen desks us vs → connected_at us number ≡ Some u → At desks vs number u
at_unit desks [] [] number u b e = cc
at_unit desks [] (v ∷ vs) number u b e = absurd b
at_unit desks (x ∷ us) [] number u b e = absurd b
at_unit desks (x ∷ us) (v ∷ vs) number u b e =
    elim (eqb_tells x.number number) [
      | inl a ↦
          let z : Some x ≡ Some u = ap (λ k. if k then Some x else connected_at us number) (sym a.0) ∙ e in
          let same : x ≡ u = cc in
          record {
            it = v;
            found_is = ap (λ k. if k then Some v else found vs number) (eq-eqb v.number number (sym b.0.number ∙ a.1));
            number_is = sym b.0.number ∙ a.1;
            own_number = sym (ap (λ (y : Connected). y.number) same) ∙ a.1;
            seen = subst (λ y. IsSeen desks y v) same b.0;
          }
      | inr a ↦
          let rest = at_unit desks us vs number u b.1 (ap (λ k. if k then Some x else connected_at us number) (sym a.0) ∙ e) in
          record {
            it = rest.it;
            found_is = ap (λ k. if k then Some v else found vs number) (ne_eqb v.number number (λ q. a.1 (b.0.number ∙ q))) ∙ rest.found_is;
            number_is = rest.number_is;
            own_number = rest.own_number;
            seen = rest.seen;
          }
    ]

pub not_at_unit : (desks : List Desk) (us : List Connected) (vs : List plain.Unit) (number : ℕ) → Seen desks us vs → connected_at us number ≡ None
    → (found vs number ≡ None) × Differs (λ (u : Connected). u.number) number us × Differs (λ (v : plain.Unit). v.number) number vs
not_at_unit desks [] [] number b e = (refl, tt, tt)
not_at_unit desks [] (v ∷ vs) number b e = absurd b
not_at_unit desks (x ∷ us) [] number b e = absurd b
not_at_unit desks (x ∷ us) (v ∷ vs) number b e =
    elim (eqb_tells x.number number) [
      | inl a ↦ absurd (let z : Some x ≡ None = ap (λ k. if k then Some x else connected_at us number) (sym a.0) ∙ e in cc)
      | inr a ↦
          let rest = not_at_unit desks us vs number b.1 (ap (λ k. if k then Some x else connected_at us number) (sym a.0) ∙ e) in (
            ap (λ k. if k then Some v else found vs number) (ne_eqb v.number number (λ q. a.1 (b.0.number ∙ q))) ∙ rest.0,
            (a.1, rest.1),
            ((λ q. a.1 (b.0.number ∙ q)), rest.2),
          )
    ]

pub slot_differs : (us : List Connected) (number : ℕ) (u : Connected) (k : ℕ) → Differs (λ (x : Connected). x.slot) k us → connected_at us number ≡ Some u → u.slot ≡ k → ⊥
slot_differs [] number u k d e q = cc
slot_differs (x ∷ us) number u k d e q =
    elim (eqb_tells x.number number) [
      | inl a ↦ let z : Some x ≡ Some u = ap (λ b. if b then Some x else connected_at us number) (sym a.0) ∙ e in let same : x ≡ u = cc in d.0 (ap (λ (y : Connected). y.slot) same ∙ q)
      | inr a ↦ slot_differs us number u k d.1 (ap (λ b. if b then Some x else connected_at us number) (sym a.0) ∙ e) q
    ]

-- each unit has a desk
pub seated : (desks : List Desk) (us : List Connected) (vs : List plain.Unit) → Seen desks us vs → Each (λ (u : Connected). IsSome (slice_get desks u.slot)) us
seated desks [] vs b = tt
seated desks (u ∷ us) [] b = absurd b
seated desks (u ∷ us) (v ∷ vs) b = (by (slice_get desks u.slot) b.0.bay, seated desks us vs b.1)
  where
    by : (o : Option Desk) → bay_at o ≡ Some (record { connection = Some v.connection; halt = v.halt }) → IsSome o
    by None e = cc
    by (Some d) e = refl

-- ---- other desks

abbrev pub Others : List Desk → List Desk → ℕ → Type 0
Others desks behind slot = (k : ℕ) → (k ≡ slot → ⊥) → slice_get behind k ≡ slice_get desks k

pub seen_if : (desks behind : List Desk) (u : Connected) (v : plain.Unit) → bay_at (slice_get behind u.slot) ≡ bay_at (slice_get desks u.slot) → IsSeen desks u v → IsSeen behind u v
seen_if desks behind u v e s = record { number = s.number; name = s.name; modes = s.modes; bay = e ∙ s.bay }

pub both_if : (desks behind : List Desk) (us : List Connected) (vs : List plain.Unit) → Each (λ (u : Connected). bay_at (slice_get behind u.slot) ≡ bay_at (slice_get desks u.slot)) us → Seen desks us vs → Seen behind us vs
both_if desks behind [] [] h b = tt
both_if desks behind [] (v ∷ vs) h b = absurd b
both_if desks behind (u ∷ us) [] h b = absurd b
both_if desks behind (u ∷ us) (v ∷ vs) h b = (seen_if desks behind u v h.0 b.0, both_if desks behind us vs h.1 b.1)

others_each : (desks behind : List Desk) (slot : ℕ) (us : List Connected) → Others desks behind slot → Differs (λ (u : Connected). u.slot) slot us
    → Each (λ (u : Connected). bay_at (slice_get behind u.slot) ≡ bay_at (slice_get desks u.slot)) us
others_each desks behind slot [] o d = tt
others_each desks behind slot (u ∷ us) o d = (ap bay_at (o u.slot d.0), others_each desks behind slot us o d.1)

pub both_other : (desks behind : List Desk) (slot : ℕ) (us : List Connected) (vs : List plain.Unit) → Others desks behind slot → Differs (λ (u : Connected). u.slot) slot us → Seen desks us vs → Seen behind us vs
both_other desks behind slot us vs o d b = both_if desks behind us vs (others_each desks behind slot us o d) b

-- where the bay at the slot is the same, all are
pub both_same : (desks behind : List Desk) (slot : ℕ) (us : List Connected) (vs : List plain.Unit) → Others desks behind slot → bay_at (slice_get behind slot) ≡ bay_at (slice_get desks slot) → Seen desks us vs → Seen behind us vs
both_same desks behind slot us vs o h b = both_if desks behind us vs (all us) b
  where
    all : (xs : List Connected) → Each (λ (u : Connected). bay_at (slice_get behind u.slot) ≡ bay_at (slice_get desks u.slot)) xs
    all [] = tt
    all (x ∷ xs) = (elim (eqb_tells x.slot slot) [ inl a ↦ ap (λ k. bay_at (slice_get behind k)) a.1 ∙ h ∙ ap (λ k. bay_at (slice_get desks k)) (sym a.1) | inr a ↦ ap bay_at (o x.slot a.1) ], all xs)

-- ---- a change of one unit

map_none : {X : Type 0} → (number : X → ℕ) (n : ℕ) (g : X → X) (xs : List X) → Differs number n xs → ((x : X) → (number x ≡ n → ⊥) → g x ≡ x) → map g xs ≡ xs
map_none number n g [] d f = refl
map_none number n g (x ∷ xs) d f = ap (λ y. y ∷ map g xs) (f x d.0) ∙ ap (λ l. x ∷ l) (map_none number n g xs d.1 f)

pub both_at : (desks behind : List Desk) (us : List Connected) (vs : List plain.Unit) (number : ℕ) (u : Connected) (g : Connected → Connected) (h : plain.Unit → plain.Unit)
    → Seen desks us vs → Apart (λ (x : Connected). x.slot) us → Apart (λ (y : plain.Unit). y.number) vs → connected_at us number ≡ Some u → Others desks behind u.slot
    → ((y : plain.Unit) → y.number ≡ number → IsSeen desks u y → IsSeen behind (g u) (h y))
    → ((x : Connected) → (x.number ≡ number → ⊥) → g x ≡ x) → ((y : plain.Unit) → (y.number ≡ number → ⊥) → h y ≡ y) → Seen behind (map g us) (map h vs)
both_at desks behind [] [] number u g h b slots numbers e o f gs hs = tt
both_at desks behind [] (v ∷ vs) number u g h b slots numbers e o f gs hs = absurd b
both_at desks behind (x ∷ us) [] number u g h b slots numbers e o f gs hs = absurd b
both_at desks behind (x ∷ us) (v ∷ vs) number u g h b slots numbers e o f gs hs =
    elim (eqb_tells x.number number) [
      | inl a ↦
          let z : Some x ≡ Some u = ap (λ k. if k then Some x else connected_at us number) (sym a.0) ∙ e in
          let same : x ≡ u = cc in
          let is : v.number ≡ number = sym b.0.number ∙ a.1 in
          let none : Differs (λ (y : plain.Unit). y.number) number vs = subst (λ k. Differs (λ (y : plain.Unit). y.number) k vs) is numbers.0 in
          let slot : Differs (λ (y : Connected). y.slot) u.slot us = subst (λ k. Differs (λ (y : Connected). y.slot) k us) (ap (λ (y : Connected). y.slot) same) slots.0 in (
            subst (λ y. IsSeen behind (g y) (h v)) (sym same) (f v is (subst (λ y. IsSeen desks y v) same b.0)),
            subst (λ l. Seen behind l (map h vs)) (sym (map_none (λ (y : Connected). y.number) number g us (numbers_too desks us vs number b.1 none) gs))
                (subst (λ l. Seen behind us l) (sym (map_none (λ (y : plain.Unit). y.number) number h vs none hs))
                (both_other desks behind u.slot us vs o slot b.1)),
          )
      | inr a ↦
          let rest : connected_at us number ≡ Some u = ap (λ k. if k then Some x else connected_at us number) (sym a.0) ∙ e in (
            subst (λ y. IsSeen behind y (h v)) (sym (gs x a.1)) (subst (λ y. IsSeen behind x y) (sym (hs v (λ q. a.1 (b.0.number ∙ q))))
                (seen_if desks behind x v (ap bay_at (o x.slot (λ q. slot_differs us number u x.slot slots.0 rest (sym q)))) b.0)),
            both_at desks behind us vs number u g h b.1 slots.1 numbers.1 rest o f gs hs,
          )
    ]
  where
    numbers_too : (desks : List Desk) (us : List Connected) (vs : List plain.Unit) (n : ℕ) → Seen desks us vs → Differs (λ (y : plain.Unit). y.number) n vs → Differs (λ (y : Connected). y.number) n us
    numbers_too desks [] [] n b d = tt
    numbers_too desks [] (w ∷ ws) n b d = absurd b
    numbers_too desks (y ∷ ys) [] n b d = absurd b
    numbers_too desks (y ∷ ys) (w ∷ ws) n b d = ((λ q. d.0 (sym b.0.number ∙ q)), numbers_too desks ys ws n b.1 d.1)

-- ---- numbers

pub numbers_apart : (desks : List Desk) (us : List Connected) (vs : List plain.Unit) → Seen desks us vs → Apart (λ (v : plain.Unit). v.number) vs → Apart (λ (x : Connected). x.number) us
numbers_apart desks [] [] b h = tt
numbers_apart desks [] (v ∷ vs) b h = absurd b
numbers_apart desks (x ∷ us) [] b h = absurd b
numbers_apart desks (x ∷ us) (v ∷ vs) b h = (differ us vs b.1 h.0, numbers_apart desks us vs b.1 h.1)
  where
    differ : (us : List Connected) (vs : List plain.Unit) → Seen desks us vs → Differs (λ (w : plain.Unit). w.number) v.number vs → Differs (λ (y : Connected). y.number) x.number us
    differ [] [] c d = tt
    differ [] (w ∷ ws) c d = absurd c
    differ (y ∷ ys) [] c d = absurd c
    differ (y ∷ ys) (w ∷ ws) c d = ((λ q. d.0 (sym c.0.number ∙ q ∙ b.0.number)), differ ys ws c.1 d.1)

-- ---- names

pub named_same : (desks : List Desk) (us : List Connected) (vs : List plain.Unit) (name : List ℕ) → Seen desks us vs → unit_named us name ≡ unit_of_file vs name
named_same desks [] [] name b = refl
named_same desks [] (v ∷ vs) name b = absurd b
named_same desks (u ∷ us) [] name b = absurd b
named_same desks (u ∷ us) (v ∷ vs) name b =
    ap (λ n. if bytes_eq n name then Some u.number else unit_named us name) b.0.name
    ∙ ap (λ k. if bytes_eq v.connection.name name then Some k else unit_named us name) b.0.number
    ∙ ap (λ o. if bytes_eq v.connection.name name then Some v.number else o) (named_same desks us vs name b.1)

pub taken_same : (desks : List Desk) (us : List Connected) (vs : List plain.Unit) (number : ℕ) (name : List ℕ) → Seen desks us vs
    → list_any (λ (u : Connected). not (u.number == number) && bytes_eq u.name name) us ≡ list_any (λ (v : plain.Unit). not (v.number == number) && bytes_eq v.connection.name name) vs
taken_same desks [] [] number name b = refl
taken_same desks [] (v ∷ vs) number name b = absurd b
taken_same desks (u ∷ us) [] number name b = absurd b
taken_same desks (u ∷ us) (v ∷ vs) number name b =
    ap (λ k. (not (k == number) && bytes_eq u.name name) || list_any (λ (x : Connected). not (x.number == number) && bytes_eq x.name name) us) b.0.number
    ∙ ap (λ n. (not (v.number == number) && bytes_eq n name) || list_any (λ (x : Connected). not (x.number == number) && bytes_eq x.name name) us) b.0.name
    ∙ ap (λ k. (not (v.number == number) && bytes_eq v.connection.name name) || k) (taken_same desks us vs number name b.1)
