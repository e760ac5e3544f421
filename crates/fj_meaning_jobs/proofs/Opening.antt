-- OPEN over desks.
use Rattle.std.proofs.Common.{◌≡◌, ℕ, zero, suc, ◌+◌, ◌<◌, ◌≤◌, Bool, true, false, not, List, [], ◌∷◌, ◌++◌, map, length, Option, Some, None, slice_get, refl, sym, ap, ◌∙◌, subst, inl, inr, Result, Ok, Err, arith}
use Rattle.std.specs.Prelude.{◌==◌, if◌then◌else◌, filter, nat_lt}
use Rattle.std.specs.List.{list_any}
use Rattle.std.proofs.lemmas.Bool.{cases_Bool, ltb-true, ltb-false}
use Rattle.std.proofs.lemmas.Bool.Decides.{eqb_tells}
use Rattle.std.proofs.lemmas.List.{length-map}
use Rattle.fj_value.specs.declared.condition.Condition.{Condition}
use Rattle.fj_value.specs.declared.condition.Condition.TheVariants.{Fine, Error}
use Rattle.fj_modes.specs.Modes.{settled}
use Rattle.fj_modes.specs.Modes as mode
use Rattle.fj_modes.specs.declared.modes.Modes.{Modes}
use Rattle.fj_modes.specs.declared.specifiers.OpenSpec.{OpenSpec}
use Rattle.fj_connect.specs.Connection.{Connection}
use Rattle.fj_connect.specs.Opening.{opened_file}
use Rattle.fj_bay.specs.Bay.{Bay}
use Rattle.fj_bay.specs.Jobs.{attach}
use Rattle.fj_bay.specs.Serving.{serve}
use Rattle.fj_meaning.specs.State.{State, Files, found, without_file}
use Rattle.fj_meaning.specs.State as plain
use Rattle.fj_meaning.specs.Connecting as plainly
use Rattle.fj_meaning.specs.Connecting.{file_due, keeps_name, most_units}
use Rattle.fj_meaning_jobs.specs.Core.{Core, Connected, connected_at, inserted, without_connected}
use Rattle.fj_meaning_jobs.specs.Desks.{Desk, carry, condition_in, most_slots}
use Rattle.fj_meaning_jobs.specs.Doing.{Doing, Desked, acted, finishes}
use Rattle.fj_statement.specs.declared.unit.UnitRef.{UnitRef}
use Rattle.fj_statement.specs.Units.{is_outside}
use Rattle.fj_meaning_jobs.specs.Acting.{keeps, free_from, is_taken, attaches, connects_at, connects, opens_with, opens, opens_unit, changes, detaches}
use Rattle.fj_meaning_jobs.specs.Forgetting.{bay_at}
use Rattle.fj_meaning_jobs.proofs.Apart.{Each, Apart, Differs, differs_any, apart_split, apart_map, each_map, filter_each}
use Rattle.fj_meaning_jobs.proofs.Counting.{no_longer, no_shorter}
use Rattle.fj_meaning_jobs.proofs.Carrying.{Serves, serves_at}
use Rattle.fj_meaning_jobs.proofs.Seen.{Seen, At, at_unit, not_at_unit, both_other, taken_same}
use Rattle.fj_meaning_jobs.proofs.Tied.{Tied, ActTied, Free, entries_later, placed_later}
use Rattle.fj_meaning_jobs.proofs.Closing.{both_filter, detaches_tied, halt_none, keeps_same}
use Rattle.fj_meaning_jobs.proofs.Changing.{changes_tied}

-- ---- free slots

pub record FreeSlot (us : List Connected) (from n slot : ℕ) : Type 0 where
  pub inside : slot < from + n
  pub differs : Differs (λ (u : Connected). u.slot) slot us

pub free_found : (us : List Connected) (from n slot : ℕ) → free_from us from n ≡ Some slot → FreeSlot us from n slot
free_found us from zero slot e = cc
free_found us from (suc n) slot e =
    elim (cases_Bool (list_any (λ (u : Connected). u.slot == from) us)) [
      | inl a ↦
          let f = free_found us (from + 1) n slot (ap (λ b. if b then free_from us (from + 1) n else Some from) (sym a) ∙ e) in
          record { inside = omega (arith, f.inside); differs = f.differs }
      | inr a ↦
          let z : Some from ≡ Some slot = ap (λ b. if b then free_from us (from + 1) n else Some from) (sym a) ∙ e in
          let s : from ≡ slot = cc in
          record { inside = omega (arith, s); differs = subst (λ k. Differs (λ (u : Connected). u.slot) k us) s (differs_any (λ (u : Connected). u.slot) from us a) }
    ]

none_free : (us : List Connected) (from n : ℕ) → free_from us from n ≡ None → (k : ℕ) → from ≤ k → k < from + n → list_any (λ (u : Connected). u.slot == k) us ≡ true
none_free us from zero e k l h = absurd (omega (arith, l, h))
none_free us from (suc n) e k l h =
    elim (cases_Bool (list_any (λ (u : Connected). u.slot == from) us)) [
      | inl a ↦ elim (eqb_tells k from) [
        | inl b ↦ subst (λ j. list_any (λ (u : Connected). u.slot == j) us ≡ true) (sym b.1) a
        | inr b ↦ none_free us (from + 1) n (ap (λ c. if c then free_from us (from + 1) n else Some from) (sym a) ∙ e) k (omega (arith, l, b.1)) (omega (arith, h))
      ]
      | inr a ↦ absurd (let z : Some from ≡ None = ap (λ b. if b then free_from us (from + 1) n else Some from) (sym a) ∙ e in cc)
    ]

get_inside : {X : Type 0} → (xs : List X) (k : ℕ) (x : X) → slice_get xs k ≡ Some x → k < length xs
get_inside [] zero x e = cc
get_inside [] (suc k) x e = cc
get_inside (y ∷ xs) zero x e = omega (arith)
get_inside (y ∷ xs) (suc k) x e = omega (arith, get_inside xs k x e)

housed : (desks : List Desk) (us : List Connected) (vs : List plain.Unit) → Seen desks us vs → Each (λ (u : Connected). u.slot < length desks) us
housed desks [] [] b = tt
housed desks [] (v ∷ vs) b = absurd b
housed desks (u ∷ us) [] b = absurd b
housed desks (u ∷ us) (v ∷ vs) b = (by (slice_get desks u.slot) refl b.0.bay, housed desks us vs b.1)
  where
    by : (o : Option Desk) → slice_get desks u.slot ≡ o → bay_at o ≡ Some (record { connection = Some v.connection; halt = v.halt }) → u.slot < length desks
    by None q e = cc
    by (Some d) q e = get_inside desks u.slot d q

both_length : (desks : List Desk) (us : List Connected) (vs : List plain.Unit) → Seen desks us vs → length us ≡ length vs
both_length desks [] [] b = refl
both_length desks [] (v ∷ vs) b = absurd b
both_length desks (u ∷ us) [] b = absurd b
both_length desks (u ∷ us) (v ∷ vs) b = ap suc (both_length desks us vs b.1)

-- with a free slot there are fewer than 16 units, and else no fewer
pub fewer : (p : Desked) (s : State) (slot : ℕ) → Tied p s → FreeSlot p.core.units 0 most_slots slot → nat_lt (length s.units) most_units ≡ true
fewer p s slot t f =
    let slots : List ℕ = slot ∷ map (λ (u : Connected). u.slot) p.core.units in
    let most : length slots ≤ 16 = no_longer 16 slots
    (each_map (λ k. k ≡ slot → ⊥) (λ (u : Connected). u.slot) p.core.units f.differs, apart_map (λ (u : Connected). u.slot) (λ k. k) (λ (u : Connected). u.slot) p.core.units (λ u. refl) t.slots.apart)
    (f.inside, each_map (λ k. k < 16) (λ (u : Connected). u.slot) p.core.units (subst (λ n. Each (λ (u : Connected). u.slot < n) p.core.units) t.slots.sixteen (housed p.desks p.core.units s.units t.same.units))) in
    lt_is (length s.units) 16 (omega (arith, most, length-map p.core.units (λ (u : Connected). u.slot), both_length p.desks p.core.units s.units t.same.units))
  where
    lt_is : (a b : ℕ) → a < b → nat_lt a b ≡ true
    lt_is a b h = elim (cases_Bool (nat_lt a b)) [ inl e ↦ e | inr e ↦ absurd (omega (arith, h, ltb-false a b e)) ]

pub no_fewer : (p : Desked) (s : State) → Tied p s → free_from p.core.units 0 most_slots ≡ None → nat_lt (length s.units) most_units ≡ false
no_fewer p s t e =
    let least = no_shorter (λ (u : Connected). u.slot) 16 p.core.units (λ k l. none_free p.core.units 0 16 e k (omega (arith)) (omega (arith, l))) in
    elim (cases_Bool (nat_lt (length s.units) 16)) [
      | inl a ↦ absurd (omega (arith, ltb-true (length s.units) 16 a, least, both_length p.desks p.core.units s.units t.same.units))
      | inr a ↦ a
    ]

-- ---- a unit that is connected

both_append : (desks : List Desk) (us xs : List Connected) (vs ys : List plain.Unit) → Seen desks us vs → Seen desks xs ys → Seen desks (us ++ xs) (vs ++ ys)
both_append desks [] xs [] ys b d = d
both_append desks [] xs (v ∷ vs) ys b d = absurd b
both_append desks (u ∷ us) xs [] ys b d = absurd b
both_append desks (u ∷ us) xs (v ∷ vs) ys b d = (b.0, both_append desks us xs vs ys b.1 d)

-- above it stand those that do not stand below it
above : {X : Type 0} → (number : X → ℕ) (n : ℕ) (xs : List X) → Differs number n xs → filter (λ x. nat_lt n (number x)) xs ≡ filter (λ x. not (nat_lt (number x) n)) xs
above {X = X} number n xs d = filter_each (λ x. nat_lt n (number x)) (λ x. not (nat_lt (number x) n)) xs (each xs d)
  where
    one : (k : ℕ) → (k ≡ n → ⊥) → nat_lt n k ≡ not (nat_lt k n)
    one k ne = elim (cases_Bool (nat_lt k n)) [
      | inl a ↦ elim (cases_Bool (nat_lt n k)) [ inl b ↦ absurd (omega (arith, ltb-true k n a, ltb-true n k b)) | inr b ↦ b ∙ sym (ap not a) ]
      | inr a ↦ elim (cases_Bool (nat_lt n k)) [ inl b ↦ b ∙ sym (ap not a) | inr b ↦ absurd (ne (omega (arith, ltb-false k n a, ltb-false n k b))) ]
    ]

    each : (xs : List X) → Differs number n xs → Each (λ x. nat_lt n (number x) ≡ not (nat_lt (number x) n)) xs
    each [] d = tt
    each (x ∷ xs) d = (one (number x) d.0, each xs d.1)

differs_but : (us : List Connected) (new : Connected) (k : ℕ) → Differs (λ (u : Connected). u.slot) k (filter (λ (u : Connected). nat_lt u.number new.number) us ++ new ∷ filter (λ (u : Connected). not (nat_lt u.number new.number)) us)
    → (new.slot ≡ k → ⊥) × Differs (λ (u : Connected). u.slot) k us
differs_but us new k d =
    let two = parts (filter (λ (u : Connected). nat_lt u.number new.number) us) (filter (λ (u : Connected). not (nat_lt u.number new.number)) us) d in
    (two.0, whole (λ (u : Connected). nat_lt u.number new.number) us two.1 two.2)
  where
    parts : (xs ys : List Connected) → Differs (λ (u : Connected). u.slot) k (xs ++ new ∷ ys) → (new.slot ≡ k → ⊥) × Differs (λ (u : Connected). u.slot) k xs × Differs (λ (u : Connected). u.slot) k ys
    parts [] ys d = (d.0, tt, d.1)
    parts (x ∷ xs) ys d = let r = parts xs ys d.1 in (r.0, (d.0, r.1), r.2)

    whole : (q : Connected → Bool) (xs : List Connected) → Differs (λ (u : Connected). u.slot) k (filter q xs) → Differs (λ (u : Connected). u.slot) k (filter (λ x. not (q x)) xs) → Differs (λ (u : Connected). u.slot) k xs
    whole q [] d e = tt
    whole q (x ∷ xs) d e = by (q x) d e (whole q xs)
      where
        by : (b : Bool) → Differs (λ (u : Connected). u.slot) k (if b then x ∷ filter q xs else filter q xs) → Differs (λ (u : Connected). u.slot) k (if not b then x ∷ filter (λ z. not (q z)) xs else filter (λ z. not (q z)) xs)
            → (Differs (λ (u : Connected). u.slot) k (filter q xs) → Differs (λ (u : Connected). u.slot) k (filter (λ z. not (q z)) xs) → Differs (λ (u : Connected). u.slot) k xs) → Differs (λ (u : Connected). u.slot) k (x ∷ xs)
        by true d e f = (d.0, f d.1 e)
        by false d e f = (e.0, f d e.1)

attached : (p : Desked) (s : State) (number slot : ℕ) (c : Connection) → Tied p s → Differs (λ (u : Connected). u.number) number p.core.units → Differs (λ (v : plain.Unit). v.number) number s.units → FreeSlot p.core.units 0 most_slots slot
    → ActTied (acted p.desks (attaches p.core number slot (Ok c))) (plainly.with_opened s number (Ok c))
unfolding serve
attached p s number slot c t new_us new_vs f =
    subst (λ o. ActTied (acted behind (finishes core (condition_in o.1))) (meant, Fine)) (sym job.outcome_is) (
      refl,
      record {
        same = record {
          vars = t.same.vars;
          book = entries_later p.desks behind p.core.book job.reaches.later t.slots.placed ∙ t.same.book;
          units = both_append behind (filter (λ (u : Connected). nat_lt u.number number) p.core.units) (new_u ∷ filter (λ (u : Connected). nat_lt number u.number) p.core.units)
              (filter (λ (v : plain.Unit). nat_lt v.number number) s.units) (new_v ∷ filter (λ (v : plain.Unit). nat_lt number v.number) s.units)
              (both_filter behind p.core.units s.units (λ k. nat_lt k number) others)
              (record { number = refl; name = refl; modes = refl; bay = job.reaches.here }, both_filter behind p.core.units s.units (λ k. nat_lt number k) others);
          files = ap (without_file c.name) t.same.files;
          output = t.same.output;
          next = t.same.next;
          new_unit = t.same.new_unit;
          tells = t.same.tells;
        };
        slots = record {
          apart = subst (λ l. Apart (λ (u : Connected). u.slot) (filter (λ (u : Connected). nat_lt u.number number) p.core.units ++ new_u ∷ l)) (sym us_above)
              (apart_split (λ (u : Connected). u.slot) (λ (u : Connected). nat_lt u.number number) p.core.units new_u t.slots.apart f.differs);
          idle = λ k l d. let two = differs_but p.core.units new_u k (subst (λ r. Differs (λ (u : Connected). u.slot) k (filter (λ (u : Connected). nat_lt u.number number) p.core.units ++ new_u ∷ r)) us_above d) in
              ap bay_at (job.reaches.others k (λ q. two.0 (sym q))) ∙ t.slots.idle k l two.1;
          sixteen = job.reaches.later.long ∙ t.slots.sixteen;
          placed = placed_later p.desks behind p.core.book job.reaches.later t.slots.placed;
        };
        numbers = subst (λ l. Apart (λ (v : plain.Unit). v.number) (filter (λ (v : plain.Unit). nat_lt v.number number) s.units ++ new_v ∷ l)) (sym vs_above)
            (apart_split (λ (v : plain.Unit). v.number) (λ (v : plain.Unit). nat_lt v.number number) s.units new_v t.numbers new_vs);
      },
    )
  where
    behind : List Desk
    behind = carry p.desks slot (attach (Some c))

    new_u : Connected
    new_u = record { number = number; slot = slot; name = c.name; modes = c.modes }

    new_v : plain.Unit
    new_v = record { number = number; connection = c; halt = None }

    core : Core
    core = record (p.core) { units = inserted new_u p.core.units; files = without_file c.name p.core.files }

    meant : State
    meant = record s { units = plain.inserted new_v s.units; files = without_file c.name s.files }

    us_above : filter (λ (u : Connected). nat_lt number u.number) p.core.units ≡ filter (λ (u : Connected). not (nat_lt u.number number)) p.core.units
    us_above = above (λ (u : Connected). u.number) number p.core.units new_us

    vs_above : filter (λ (v : plain.Unit). nat_lt number v.number) s.units ≡ filter (λ (v : plain.Unit). not (nat_lt v.number number)) s.units
    vs_above = above (λ (v : plain.Unit). v.number) number s.units new_vs

    empty : Bay
    empty = record { connection = None; halt = None }

    job : Serves p.desks slot (attach (Some c)) empty
    job = serves_at p.desks slot (attach (Some c)) empty (t.slots.idle slot f.inside f.differs)

    others : Seen behind p.core.units s.units
    others = both_other p.desks behind slot p.core.units s.units job.reaches.others f.differs t.same.units

connects_tied : (p : Desked) (s : State) (number : ℕ) (spec : OpenSpec) (modes : Modes) → Tied p s → Differs (λ (u : Connected). u.number) number p.core.units → Differs (λ (v : plain.Unit). v.number) number s.units
    → ActTied (acted p.desks (connects number spec modes p.core)) (plainly.connects s number spec modes)
connects_tied p s number spec modes t new_us new_vs = by (free_from p.core.units 0 most_slots) refl
  where
    due : List ℕ
    due = file_due spec number

    opened : (slot : ℕ) → FreeSlot p.core.units 0 most_slots slot → (r : Result Connection Condition) → ActTied (acted p.desks (attaches p.core number slot r)) (plainly.with_opened s number r)
    opened slot f (Err condition) = (refl, t)
    opened slot f (Ok c) = attached p s number slot c t new_us new_vs f

    by : (o : Option ℕ) → free_from p.core.units 0 most_slots ≡ o → ActTied (acted p.desks (connects_at number spec modes p.core o)) (plainly.connects s number spec modes)
    by None e = subst (λ b. ActTied (p, Error 9) (if b then plainly.with_opened s number (opened_file (s.files due) due spec modes) else (s, Error 9))) (sym (no_fewer p s t e)) (refl, t)
    by (Some slot) e =
        let f = free_found p.core.units 0 most_slots slot e in
        subst (λ b. ActTied (acted p.desks (attaches p.core number slot (opened_file (p.core.files due) due spec modes))) (if b then plainly.with_opened s number (opened_file (s.files due) due spec modes) else (s, Error 9))) (sym (fewer p s slot t f))
        (subst (λ fs. ActTied (acted p.desks (attaches p.core number slot (opened_file (fs due) due spec modes))) (plainly.with_opened s number (opened_file (s.files due) due spec modes))) (sym t.same.files)
        (opened slot f (opened_file (s.files due) due spec modes)))

-- ---- OPEN

pub gone_differs : {X : Type 0} → (number : X → ℕ) (n : ℕ) (xs : List X) → Differs number n (filter (λ x. not (number x == n)) xs)
gone_differs number n [] = tt
gone_differs number n (x ∷ xs) =
    elim (eqb_tells (number x) n) [
      | inl a ↦ subst (λ b. Differs number n (if not b then x ∷ filter (λ y. not (number y == n)) xs else filter (λ y. not (number y == n)) xs)) (sym a.0) (gone_differs number n xs)
      | inr a ↦ subst (λ b. Differs number n (if not b then x ∷ filter (λ y. not (number y == n)) xs else filter (λ y. not (number y == n)) xs)) (sym a.0) (a.1, gone_differs number n xs)
    ]

taken_tied : (p : Desked) (s : State) (number : ℕ) (name : List ℕ) → Tied p s → (next : Doing) (meant : State × Condition) → ActTied (acted p.desks next) meant
    → ActTied (acted p.desks (if is_taken p.core number name then finishes p.core (Error 7) else next)) (if plainly.is_taken s number name then (s, Error 7) else meant)
taken_tied p s number name t next meant h =
    subst (λ b. ActTied (acted p.desks (if b then finishes p.core (Error 7) else next)) (if plainly.is_taken s number name then (s, Error 7) else meant)) (sym (taken_same p.desks p.core.units s.units number name t.same.units))
    (by (plainly.is_taken s number name))
  where
    by : (b : Bool) → ActTied (acted p.desks (if b then finishes p.core (Error 7) else next)) (if b then (s, Error 7) else meant)
    by true = (refl, t)
    by false = h

new_tied : (p : Desked) (s : State) (number : ℕ) (spec : OpenSpec) → Tied p s → connected_at p.core.units number ≡ None → (r : Result Modes Condition)
    → ActTied (acted p.desks (opens_with p.core number spec None r)) (plainly.opens_with s number spec None r)
new_tied p s number spec t e (Err condition) = (refl, t)
new_tied p s number spec t e (Ok modes) =
    let none = not_at_unit p.desks p.core.units s.units number t.same.units e in
    taken_tied p s number (file_due spec number) t (connects number spec modes p.core) (plainly.connects s number spec modes) (connects_tied p s number spec modes t none.1 none.2)

other_tied : (p : Desked) (s : State) (number : ℕ) (spec : OpenSpec) (u : Connected) (at : At p.desks s.units number u) → Tied p s → connected_at p.core.units number ≡ Some u → Free number s.units → (r : Result Modes Condition)
    → ActTied (acted p.desks (opens_with p.core number spec (Some u) r)) (plainly.opens_with s number spec (Some at.it) r)
other_tied p s number spec u at t e free (Err condition) = (refl, t)
other_tied p s number spec u at t e free (Ok modes) =
    taken_tied p s number (file_due spec number) t (detaches p.core u (keeps u) (connects number spec modes)) (plainly.connects (plain.disconnected s at.it (plain.keeps at.it)) number spec modes)
    (subst (λ k. ActTied (acted p.desks (detaches p.core u k (connects number spec modes))) (plainly.connects (plain.disconnected s at.it (plain.keeps at.it)) number spec modes)) (sym (keeps_same p s number u at))
    (detaches_tied p s number u at (plain.keeps at.it) (connects number spec modes) (plainly.connects (plain.disconnected s at.it (plain.keeps at.it)) number spec modes) t e (halt_none p s number u at free)
    (λ q is x. connects_tied q (plain.disconnected s at.it (plain.keeps at.it)) number spec modes x
    (subst (λ l. Differs (λ (y : Connected). y.number) number l) (sym is) (subst (λ k. Differs (λ (y : Connected). y.number) k (without_connected u.number p.core.units)) at.own_number (gone_differs (λ (y : Connected). y.number) u.number p.core.units)))
    (subst (λ k. Differs (λ (v : plain.Unit). v.number) k (plain.without_unit at.it.number s.units)) at.number_is (gone_differs (λ (v : plain.Unit). v.number) at.it.number s.units)))))

pub opens_tied : (p : Desked) (s : State) (number : ℕ) (spec : OpenSpec) → Tied p s → Free number s.units
    → ActTied (acted p.desks (opens p.core number spec (connected_at p.core.units number))) (plainly.opens s number spec (found s.units number))
opens_tied p s number spec t free = by (connected_at p.core.units number) refl
  where
    by : (o : Option Connected) → connected_at p.core.units number ≡ o → ActTied (acted p.desks (opens p.core number spec o)) (plainly.opens s number spec (found s.units number))
    by None e =
        subst (λ o. ActTied (acted p.desks (opens p.core number spec None)) (plainly.opens s number spec o)) (sym (not_at_unit p.desks p.core.units s.units number t.same.units e).0)
        (new_tied p s number spec t e (settled spec))
    by (Some u) e =
        subst (λ o. ActTied (acted p.desks (opens p.core number spec (Some u))) (plainly.opens s number spec o)) (sym at.found_is)
        (subst (λ n. ActTied (acted p.desks (if keeps_name n spec spec.file then changes p.core u (mode.changed u.modes spec) else opens_with p.core number spec (Some u) (settled spec))) (plainly.opens s number spec (Some at.it)))
        (sym at.seen.name) (which (keeps_name at.it.connection.name spec spec.file)))
      where
        at : At p.desks s.units number u
        at = at_unit p.desks p.core.units s.units number u t.same.units e

        which : (b : Bool) → ActTied (acted p.desks (if b then changes p.core u (mode.changed u.modes spec) else opens_with p.core number spec (Some u) (settled spec)))
            (if b then plainly.with_modes s at.it (mode.changed at.it.connection.modes spec) else plainly.opens_with s number spec (Some at.it) (settled spec))
        which true = changes_tied p s number u at spec t e
        which false = other_tied p s number spec u at t e free (settled spec)

pub opens_unit_tied : (p : Desked) (s : State) (ref : UnitRef) (number : ℕ) (spec : OpenSpec) → Tied p s → Free number s.units
    → ActTied (acted p.desks (opens_unit p.core ref number spec (connected_at p.core.units number))) (plainly.opens_unit s ref number spec (found s.units number))
opens_unit_tied p s ref number spec t free = by (connected_at p.core.units number) refl (opens_tied p s number spec t free)
  where
    outside : (b : Bool) (d : Doing) (m : State × Condition) → ActTied (acted p.desks d) m → ActTied (acted p.desks (if b then finishes p.core (Error 3) else d)) (if b then (s, Error 3) else m)
    outside true d m h = (refl, t)
    outside false d m h = h

    by : (o : Option Connected) → connected_at p.core.units number ≡ o → ActTied (acted p.desks (opens p.core number spec o)) (plainly.opens s number spec (found s.units number))
        → ActTied (acted p.desks (opens_unit p.core ref number spec o)) (plainly.opens_unit s ref number spec (found s.units number))
    by None e h =
        let none = (not_at_unit p.desks p.core.units s.units number t.same.units e).0 in
        subst (λ o. ActTied (acted p.desks (opens_unit p.core ref number spec None)) (plainly.opens_unit s ref number spec o)) (sym none)
        (outside (is_outside ref) (opens p.core number spec None) (plainly.opens s number spec None) (subst (λ o. ActTied (acted p.desks (opens p.core number spec None)) (plainly.opens s number spec o)) none h))
    by (Some u) e h =
        let at : At p.desks s.units number u = at_unit p.desks p.core.units s.units number u t.same.units e in
        subst (λ o. ActTied (acted p.desks (opens p.core number spec (Some u))) (plainly.opens_unit s ref number spec o)) (sym at.found_is)
        (subst (λ o. ActTied (acted p.desks (opens p.core number spec (Some u))) (plainly.opens s number spec o)) at.found_is h)
