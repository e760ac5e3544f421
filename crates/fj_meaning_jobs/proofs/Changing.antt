-- OPEN of the file that is connected, over desks.
use Rattle.std.proofs.Common.{◌≡◌, ℕ, Bool, true, false, List, [], ◌∷◌, Some, refl, sym, ap, ◌∙◌, subst, inl, inr, Ok, Err}
use Rattle.std.specs.Prelude.{◌==◌, if◌then◌else◌}
use Rattle.std.proofs.lemmas.Bool.{eq-eqb, ne_eqb}
use Rattle.std.proofs.lemmas.Bool.Decides.{eqb_tells}
use Rattle.fj_value.specs.declared.condition.Condition.TheVariants.{Fine, Error}
use Rattle.fj_modes.specs.Modes as mode
use Rattle.fj_modes.specs.declared.modes.Modes.{Modes}
use Rattle.fj_modes.specs.declared.specifiers.OpenSpec.{OpenSpec}
use Rattle.fj_bay.specs.Jobs.{change}
use Rattle.fj_bay.specs.Serving.{serve}
use Rattle.fj_meaning.specs.State.{State, found, with_unit}
use Rattle.fj_meaning.specs.State as plain
use Rattle.fj_meaning.specs.Connecting as plainly
use Rattle.fj_meaning_jobs.specs.Core.{Connected, connected_at, with_connected}
use Rattle.fj_meaning_jobs.specs.Desks.{Desk, carry, condition_in}
use Rattle.fj_meaning_jobs.specs.Doing.{Desked, acted, finishes}
use Rattle.fj_meaning_jobs.specs.Acting.{changes}
use Rattle.fj_meaning_jobs.specs.Forgetting.{IsSeen}
use Rattle.fj_meaning_jobs.proofs.Apart.{Each, Apart, Differs}
use Rattle.fj_meaning_jobs.proofs.Carrying.{Reaches, serves_at}
use Rattle.fj_meaning_jobs.proofs.Seen.{At, both_at, numbers_apart}
use Rattle.fj_meaning_jobs.proofs.Tied.{Tied, ActTied, bay_of, entries_later, placed_later, idle_else, replaced_numbers}

-- the units, where one has other modes
changed_tied : (p : Desked) (s : State) (number : ℕ) (u : Connected) (at : At p.desks s.units number u) (behind : List Desk) (modes : Modes) → Tied p s → connected_at p.core.units number ≡ Some u
    → Reaches p.desks behind u.slot (record { connection = Some (record (at.it.connection) { modes = modes }); halt = at.it.halt })
    → Tied (record { core = record (p.core) { units = with_connected (record u { modes = modes }) p.core.units }; desks = behind })
    (record s { units = with_unit (record (at.it) { connection = record (at.it.connection) { modes = modes } }) s.units })
changed_tied p s number u at behind modes t e r = record {
  same = record {
    vars = t.same.vars;
    book = entries_later p.desks behind p.core.book r.later t.slots.placed ∙ t.same.book;
    units = both_at p.desks behind p.core.units s.units number u (λ x. if x.number == u.number then new_u else x) (λ v. if v.number == at.it.number then new else v) t.same.units t.slots.apart t.numbers e r.others
        (λ y is seen. subst (λ z. IsSeen behind z (if y.number == at.it.number then new else y)) (sym (ap (λ b. if b then new_u else u) (eq-eqb u.number u.number refl)))
        (subst (λ z. IsSeen behind new_u z) (sym (ap (λ b. if b then new else y) (eq-eqb y.number at.it.number (is ∙ sym at.number_is))))
        (record { number = at.seen.number; name = at.seen.name; modes = refl; bay = r.here })))
        (λ x ne. ap (λ b. if b then new_u else x) (ne_eqb x.number u.number (λ q. ne (q ∙ at.own_number))))
        (λ y ne. ap (λ b. if b then new else y) (ne_eqb y.number at.it.number (λ q. ne (q ∙ at.number_is))));
    files = t.same.files;
    output = t.same.output;
    next = t.same.next;
    new_unit = t.same.new_unit;
    tells = t.same.tells;
  };
  slots = record {
    apart = slots_apart t.slots.apart;
    idle = λ k l d. idle_else p.desks behind p.core.units number u t.slots.idle e r.others k l (back k d);
    sixteen = r.later.long ∙ t.slots.sixteen;
    placed = placed_later p.desks behind p.core.book r.later t.slots.placed;
  };
  numbers = replaced_numbers new s.units t.numbers;
}
  where
    new_u : Connected
    new_u = record u { modes = modes }

    new : plain.Unit
    new = record (at.it) { connection = record (at.it.connection) { modes = modes } }

    -- only one unit has the number
    whole : (us : List Connected) → connected_at us number ≡ Some u → Apart (λ (x : Connected). x.number) us → Each (λ (x : Connected). x.number ≡ u.number → x ≡ u) us
    whole [] e h = tt
    whole (x ∷ us) e h =
        elim (eqb_tells x.number number) [
          | inl a ↦
              let z : Some x ≡ Some u = ap (λ k. if k then Some x else connected_at us number) (sym a.0) ∙ e in
              let same : x ≡ u = cc in
              ((λ q. same), none us (subst (λ y. Differs (λ (z : Connected). z.number) y.number us) same h.0))
          | inr a ↦ ((λ q. absurd (a.1 (q ∙ at.own_number))), whole us (ap (λ k. if k then Some x else connected_at us number) (sym a.0) ∙ e) h.1)
        ]
      where
        none : (xs : List Connected) → Differs (λ (z : Connected). z.number) u.number xs → Each (λ (y : Connected). y.number ≡ u.number → y ≡ u) xs
        none [] d = tt
        none (y ∷ ys) d = ((λ q. absurd (d.0 q)), none ys d.1)

    unit_is : Each (λ (x : Connected). x.number ≡ u.number → x ≡ u) p.core.units
    unit_is = whole p.core.units e (numbers_apart p.desks p.core.units s.units t.same.units t.numbers)

    slot_same : (x : Connected) → (x.number ≡ u.number → x ≡ u) → (if x.number == u.number then new_u else x).slot ≡ x.slot
    slot_same x f = elim (eqb_tells x.number u.number) [
      | inl a ↦ ap (λ b. (if b then new_u else x).slot) a.0 ∙ sym (ap (λ (y : Connected). y.slot) (f a.1))
      | inr a ↦ ap (λ b. (if b then new_u else x).slot) a.0
    ]

    differs_too : (k n : ℕ) (xs : List Connected) → Each (λ (x : Connected). x.number ≡ u.number → x ≡ u) xs → k ≡ n → Differs (λ (x : Connected). x.slot) n xs → Differs (λ (x : Connected). x.slot) k (with_connected new_u xs)
    differs_too k n [] f q d = tt
    differs_too k n (x ∷ xs) f q d = ((λ r. d.0 (sym (slot_same x f.0) ∙ r ∙ q)), differs_too k n xs f.1 q d.1)

    apart_too : (xs : List Connected) → Each (λ (x : Connected). x.number ≡ u.number → x ≡ u) xs → Apart (λ (x : Connected). x.slot) xs → Apart (λ (x : Connected). x.slot) (with_connected new_u xs)
    apart_too [] f h = tt
    apart_too (x ∷ xs) f h = (differs_too (if x.number == u.number then new_u else x).slot x.slot xs f.1 (slot_same x f.0) h.0, apart_too xs f.1 h.1)

    slots_apart : Apart (λ (x : Connected). x.slot) p.core.units → Apart (λ (x : Connected). x.slot) (with_connected new_u p.core.units)
    slots_apart h = apart_too p.core.units unit_is h

    back_each : (k : ℕ) (xs : List Connected) → Each (λ (x : Connected). x.number ≡ u.number → x ≡ u) xs → Differs (λ (x : Connected). x.slot) k (with_connected new_u xs) → Differs (λ (x : Connected). x.slot) k xs
    back_each k [] f d = tt
    back_each k (x ∷ xs) f d = ((λ q. d.0 (slot_same x f.0 ∙ q)), back_each k xs f.1 d.1)

    back : (k : ℕ) → Differs (λ (x : Connected). x.slot) k (with_connected new_u p.core.units) → Differs (λ (x : Connected). x.slot) k p.core.units
    back k d = back_each k p.core.units unit_is d

pub changes_tied : (p : Desked) (s : State) (number : ℕ) (u : Connected) (at : At p.desks s.units number u) (spec : OpenSpec) → Tied p s → connected_at p.core.units number ≡ Some u
    → ActTied (acted p.desks (changes p.core u (mode.changed u.modes spec))) (plainly.with_modes s at.it (mode.changed at.it.connection.modes spec))
unfolding serve
changes_tied p s number u at spec t e =
    subst (λ m. ActTied (acted p.desks (changes p.core u (mode.changed m spec))) (plainly.with_modes s at.it (mode.changed at.it.connection.modes spec))) (sym at.seen.modes)
    (by (mode.is_conflict at.it.connection.modes spec))
  where
    new : Modes
    new = record (at.it.connection.modes) { edit = mode.edit_asked at.it.connection.modes.edit spec }

    by : (b : Bool) → ActTied (acted p.desks (changes p.core u (if b then Err (Error 8) else Ok new))) (plainly.with_modes s at.it (if b then Err (Error 8) else Ok new))
    by true = (refl, t)
    by false =
        let job = serves_at p.desks u.slot (change new.edit) (bay_of at.it) at.seen.bay in
        subst (λ o. ActTied (acted (carry p.desks u.slot (change new.edit)) (finishes (record (p.core) { units = with_connected (record u { modes = new }) p.core.units }) (condition_in o.1)))
        (record s { units = with_unit (record (at.it) { connection = record (at.it.connection) { modes = new } }) s.units }, Fine)) (sym job.outcome_is)
        (refl, changed_tied p s number u at (carry p.desks u.slot (change new.edit)) new t e job.reaches)
