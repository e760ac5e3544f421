-- CLOSE and END over desks.
use Rattle.std.proofs.Common.{◌≡◌, ℕ, Bool, true, false, not, List, [], ◌∷◌, Option, Some, None, slice_get, refl, sym, ap, ◌∙◌, subst, inl, inr}
use Rattle.std.specs.Prelude.{◌==◌, ◌&&◌, if◌then◌else◌, filter, unwrap_or, option_map}
use Rattle.std.proofs.lemmas.Bool.{eq-eqb, ne_eqb}
use Rattle.std.specs.Str.{bytes_eq}
use Rattle.std.proofs.lemmas.Bool.Decides.{eqb_tells}
use Rattle.std.proofs.lemmas.Slice.Eq.{bytes_eq-Decides}
use Rattle.fj_value.specs.declared.condition.Condition.{Condition}
use Rattle.fj_value.specs.declared.condition.Condition.TheVariants.{Fine, Error}
use Rattle.fj_modes.specs.declared.modes.Modes.{Modes}
use Rattle.fj_connect.specs.Connection.{Connection}
use Rattle.fj_connect.specs.Positions.{ended}
use Rattle.fj_bay.specs.Jobs.{detach, done}
use Rattle.fj_bay.specs.Serving.{serve}
use Rattle.fj_bay.proofs.Keeping.{ended_kept}
use Rattle.fj_meaning.specs.State.{State, Files, found, with_file, without_file, without_unit}
use Rattle.fj_meaning.specs.State as plain
use Rattle.fj_meaning.specs.Connecting as plainly
use Rattle.fj_meaning.specs.Statement as meant
use Rattle.fj_meaning_jobs.specs.Core.{Core, Connected, connected_at, without_connected}
use Rattle.fj_meaning_jobs.specs.Desks.{Desk, Outcome, carry, outcome, connection_in}
use Rattle.fj_meaning_jobs.specs.Doing.{Doing, Desked, acted, finishes}
use Rattle.fj_meaning_jobs.specs.Acting.{keeps, left, disconnected, came_out, once_out, detaches, closes, closes_anyway, all_closed, unit_at}
use Rattle.fj_meaning_jobs.specs.Forgetting.{IsSeen, bay_at}
use Rattle.fj_meaning_jobs.proofs.Apart.{Each, Apart, Differs, each_filter, apart_filter}
use Rattle.fj_meaning_jobs.proofs.Carrying.{Serves, serves_at}
use Rattle.fj_meaning_jobs.proofs.Seen.{Seen, At, at_unit, not_at_unit, both_other, slot_differs}
use Rattle.fj_meaning_jobs.proofs.Tied.{Tied, ActTied, Free, bay_of, entries_later, placed_later, each_found}

-- ---- lists

pub both_filter : (desks : List Desk) (us : List Connected) (vs : List plain.Unit) (q : ℕ → Bool) → Seen desks us vs
    → Seen desks (filter (λ (u : Connected). q u.number) us) (filter (λ (v : plain.Unit). q v.number) vs)
both_filter desks [] [] q b = tt
both_filter desks [] (v ∷ vs) q b = absurd b
both_filter desks (u ∷ us) [] q b = absurd b
both_filter desks (u ∷ us) (v ∷ vs) q b = by (q u.number) (q v.number) (ap q b.0.number) (both_filter desks us vs q b.1)
  where
    by : (x y : Bool) → x ≡ y → Seen desks (filter (λ (w : Connected). q w.number) us) (filter (λ (w : plain.Unit). q w.number) vs)
        → Seen desks (if x then u ∷ filter (λ (w : Connected). q w.number) us else filter (λ (w : Connected). q w.number) us)
        (if y then v ∷ filter (λ (w : plain.Unit). q w.number) vs else filter (λ (w : plain.Unit). q w.number) vs)
    by true true e h = (b.0, h)
    by true false e h = cc
    by false true e h = cc
    by false false e h = h

-- the slots of the other units
slots_elsewhere : (us : List Connected) (number : ℕ) (u : Connected) → Apart (λ (x : Connected). x.slot) us → connected_at us number ≡ Some u
    → Differs (λ (x : Connected). x.slot) u.slot (filter (λ (x : Connected). not (x.number == number)) us)
slots_elsewhere [] number u h e = tt
slots_elsewhere (x ∷ us) number u h e =
    elim (eqb_tells x.number number) [
      | inl a ↦
          let z : Some x ≡ Some u = ap (λ k. if k then Some x else connected_at us number) (sym a.0) ∙ e in
          let same : x ≡ u = cc in
          subst (λ b. Differs (λ (y : Connected). y.slot) u.slot (if not b then x ∷ filter (λ (y : Connected). not (y.number == number)) us else filter (λ (y : Connected). not (y.number == number)) us)) (sym a.0)
          (each_filter (λ (y : Connected). y.slot ≡ u.slot → ⊥) (λ (y : Connected). not (y.number == number)) us (subst (λ (y : Connected). Differs (λ (w : Connected). w.slot) y.slot us) same h.0))
      | inr a ↦
          let more : connected_at us number ≡ Some u = ap (λ k. if k then Some x else connected_at us number) (sym a.0) ∙ e in
          subst (λ b. Differs (λ (y : Connected). y.slot) u.slot (if not b then x ∷ filter (λ (y : Connected). not (y.number == number)) us else filter (λ (y : Connected). not (y.number == number)) us)) (sym a.0)
          ((λ q. slot_differs us number u x.slot h.0 more (sym q)), slots_elsewhere us number u h.1 more)
    ]

none_of : (desks : List Desk) (us : List Connected) (vs : List plain.Unit) (number slot : ℕ) → Seen desks us vs → Differs (λ (v : plain.Unit). v.number) number vs → Each (λ (u : Connected). u.number ≡ number → u.slot ≡ slot) us
none_of desks [] [] number slot b d = tt
none_of desks [] (v ∷ vs) number slot b d = absurd b
none_of desks (u ∷ us) [] number slot b d = absurd b
none_of desks (u ∷ us) (v ∷ vs) number slot b d = ((λ q. absurd (d.0 (sym b.0.number ∙ q))), none_of desks us vs number slot b.1 d.1)

-- a unit has one slot
one_slot : (desks : List Desk) (us : List Connected) (vs : List plain.Unit) (number : ℕ) (u : Connected) → Seen desks us vs → Apart (λ (v : plain.Unit). v.number) vs → connected_at us number ≡ Some u
    → Each (λ (x : Connected). x.number ≡ number → x.slot ≡ u.slot) us
one_slot desks [] [] number u b h e = tt
one_slot desks [] (v ∷ vs) number u b h e = absurd b
one_slot desks (x ∷ us) [] number u b h e = absurd b
one_slot desks (x ∷ us) (v ∷ vs) number u b h e =
    elim (eqb_tells x.number number) [
      | inl a ↦
          let z : Some x ≡ Some u = ap (λ k. if k then Some x else connected_at us number) (sym a.0) ∙ e in
          let same : x ≡ u = cc in
          ((λ q. ap (λ (y : Connected). y.slot) same), none_of desks us vs number u.slot b.1 (subst (λ k. Differs (λ (y : plain.Unit). y.number) k vs) (sym b.0.number ∙ a.1) h.0))
      | inr a ↦ ((λ q. absurd (a.1 q)), one_slot desks us vs number u b.1 h.1 (ap (λ k. if k then Some x else connected_at us number) (sym a.0) ∙ e))
    ]

differs_back : (us : List Connected) (number slot k : ℕ) → Each (λ (u : Connected). u.number ≡ number → u.slot ≡ slot) us → (k ≡ slot → ⊥) → Differs (λ (u : Connected). u.slot) k (filter (λ (u : Connected). not (u.number == number)) us)
    → Differs (λ (u : Connected). u.slot) k us
differs_back [] number slot k h ne d = tt
differs_back (u ∷ us) number slot k h ne d =
    elim (eqb_tells u.number number) [
      | inl a ↦ (
        (λ q. ne (sym q ∙ h.0 a.1)),
        differs_back us number slot k h.1 ne (subst (λ b. Differs (λ (x : Connected). x.slot) k (if not b then u ∷ filter (λ (x : Connected). not (x.number == number)) us else filter (λ (x : Connected). not (x.number == number)) us)) a.0 d),
      )
      | inr a ↦
          let both : Differs (λ (x : Connected). x.slot) k (u ∷ filter (λ (x : Connected). not (x.number == number)) us) =
          subst (λ b. Differs (λ (x : Connected). x.slot) k (if not b then u ∷ filter (λ (x : Connected). not (x.number == number)) us else filter (λ (x : Connected). not (x.number == number)) us)) a.0 d in
          (both.0, differs_back us number slot k h.1 ne both.1)
    ]

-- ---- one unit

file_left : (name : List ℕ) (c : Connection) (keep : Bool) (files : Files) → name ≡ c.name → left name (Some (ended c)) keep files ≡ plain.left c keep files
file_left name c keep files e = ap (λ n. if keep then with_file n (ended c).bytes files else without_file n files) e

-- a unit is disconnected
pub out_tied : (p : Desked) (s : State) (number : ℕ) (u : Connected) (at : At p.desks s.units number u) (keep : Bool) → Tied p s → connected_at p.core.units number ≡ Some u → at.it.halt ≡ None
    → Tied (record { core = disconnected p.core u keep (detach (Some (ended at.it.connection)), done Fine); desks = carry p.desks u.slot (detach None) }) (plain.disconnected s at.it keep)
unfolding serve
out_tied p s number u at keep t e none = record {
  same = record {
    vars = t.same.vars;
    book = entries_later p.desks behind p.core.book job.reaches.later t.slots.placed ∙ t.same.book;
    units = subst (λ k. Seen behind (filter (λ (x : Connected). not (x.number == k)) p.core.units) (filter (λ (v : plain.Unit). not (v.number == at.it.number)) s.units)) (sym at.own_number)
        (subst (λ k. Seen behind (filter (λ (x : Connected). not (x.number == number)) p.core.units) (filter (λ (v : plain.Unit). not (v.number == k)) s.units)) (sym at.number_is)
        (both_other p.desks behind u.slot (filter (λ (x : Connected). not (x.number == number)) p.core.units) (filter (λ (v : plain.Unit). not (v.number == number)) s.units) job.reaches.others
        (slots_elsewhere p.core.units number u t.slots.apart e)
        (both_filter p.desks p.core.units s.units (λ k. not (k == number)) t.same.units)));
    files = file_left u.name at.it.connection keep p.core.files at.seen.name ∙ ap (plain.left at.it.connection keep) t.same.files;
    output = t.same.output;
    next = t.same.next;
    new_unit = t.same.new_unit;
    tells = t.same.tells;
  };
  slots = record {
    apart = apart_filter (λ (x : Connected). x.slot) (λ (x : Connected). not (x.number == u.number)) p.core.units t.slots.apart;
    idle = λ k l d. elim (eqb_tells k u.slot) [
      | inl a ↦ ap (λ j. bay_at (slice_get behind j)) a.1 ∙ job.reaches.here ∙ ap (λ h. Some (record { connection = None; halt = h })) none
      | inr a ↦ ap bay_at (job.reaches.others k a.1) ∙ t.slots.idle k l (differs_back p.core.units number u.slot k (one_slot p.desks p.core.units s.units number u t.same.units t.numbers e) a.1
          (subst (λ n. Differs (λ (x : Connected). x.slot) k (filter (λ (x : Connected). not (x.number == n)) p.core.units)) at.own_number d))
    ];
    sixteen = job.reaches.later.long ∙ t.slots.sixteen;
    placed = placed_later p.desks behind p.core.book job.reaches.later t.slots.placed;
  };
  numbers = apart_filter (λ (v : plain.Unit). v.number) (λ (v : plain.Unit). not (v.number == at.it.number)) s.units t.numbers;
}
  where
    behind : List Desk
    behind = carry p.desks u.slot (detach None)

    job : Serves p.desks u.slot (detach None) (bay_of at.it)
    job = serves_at p.desks u.slot (detach None) (bay_of at.it) at.seen.bay

pub comes_out : (u : Connected) (o : Outcome) (c : Connection) → connection_in o.0 ≡ Some c → c.name ≡ u.name → came_out u o ≡ true
comes_out u o c e named = ap (λ place. unwrap_or (option_map (λ (x : Connection). bytes_eq x.name u.name) place) false) e ∙ (bytes_eq-Decides c.name u.name).1 named

-- at the slot of a unit its connection comes out
pub gone_out : (P : Doing → Type 0) (desks : List Desk) (u : Connected) (v : plain.Unit) → IsSeen desks u v → (core : Core) (keep : Bool) (next : Core → Doing)
    → P (next (disconnected core u keep (detach (Some (ended v.connection)), done Fine))) → P (once_out core u keep next (outcome desks u.slot (detach None)))
unfolding serve
gone_out P desks u v seen core keep next h =
    let is = (serves_at desks u.slot (detach None) (bay_of v) seen.bay).outcome_is in
    subst (λ o. P (once_out core u keep next o)) (sym is)
    (subst (λ b. P (if b then next (disconnected core u keep (detach (Some (ended v.connection)), done Fine)) else finishes core (Error 1)))
    (sym (comes_out u (detach (Some (ended v.connection)), done Fine) (ended v.connection) refl ((ended_kept v.connection).named ∙ sym seen.name))) h)

-- a job that detaches, and what comes behind it
pub detaches_tied : (p : Desked) (s : State) (number : ℕ) (u : Connected) (at : At p.desks s.units number u) (keep : Bool) (next : Core → Doing) (meaning : State × Condition) → Tied p s → connected_at p.core.units number ≡ Some u
    → at.it.halt ≡ None
    → ((q : Desked) → q.core.units ≡ without_connected u.number p.core.units → Tied q (plain.disconnected s at.it keep) → ActTied (acted q.desks (next q.core)) meaning) → ActTied (acted p.desks (detaches p.core u keep next)) meaning
detaches_tied p s number u at keep next meaning t e none f =
    gone_out (λ d. ActTied (acted (carry p.desks u.slot (detach None)) d) meaning) p.desks u at.it at.seen p.core keep next
    (f (record { core = disconnected p.core u keep (detach (Some (ended at.it.connection)), done Fine); desks = carry p.desks u.slot (detach None) }) refl (out_tied p s number u at keep t e none))

pub halt_none : (p : Desked) (s : State) (number : ℕ) (u : Connected) (at : At p.desks s.units number u) → Free number s.units → at.it.halt ≡ None
halt_none p s number u at free = each_found (λ v. v.number ≡ number → v.halt ≡ None) s.units number at.it free at.found_is at.number_is

-- ---- CLOSE

pub keeps_same : (p : Desked) (s : State) (number : ℕ) (u : Connected) (at : At p.desks s.units number u) → keeps u ≡ plain.keeps at.it
keeps_same p s number u at = ap (λ (m : Modes). not m.scratch) at.seen.modes

close_found : (p : Desked) (s : State) (number : ℕ) (u : Connected) (at : At p.desks s.units number u) (keep : Option Bool) → Tied p s → connected_at p.core.units number ≡ Some u → Free number s.units
    → ActTied (acted p.desks (closes p.core keep (Some u))) (plainly.closes s keep (Some at.it))
close_found p s number u at keep t e free =
    subst (λ k. ActTied (acted p.desks (if unwrap_or keep false && k then finishes p.core (Error 4) else detaches p.core u (unwrap_or keep (keeps u)) (λ new. finishes new Fine))) (plainly.closes s keep (Some at.it)))
    (sym (ap (λ (m : Modes). m.scratch) at.seen.modes)) (by (unwrap_or keep false && at.it.connection.modes.scratch))
  where
    by : (b : Bool) → ActTied (acted p.desks (if b then finishes p.core (Error 4) else detaches p.core u (unwrap_or keep (keeps u)) (λ new. finishes new Fine)))
        (if b then (s, Error 4) else (plain.disconnected s at.it (unwrap_or keep (plain.keeps at.it)), Fine))
    by true = (refl, t)
    by false =
        subst (λ k. ActTied (acted p.desks (detaches p.core u (unwrap_or keep k) (λ new. finishes new Fine))) (plain.disconnected s at.it (unwrap_or keep (plain.keeps at.it)), Fine)) (sym (keeps_same p s number u at))
        (detaches_tied p s number u at (unwrap_or keep (plain.keeps at.it)) (λ new. finishes new Fine) (plain.disconnected s at.it (unwrap_or keep (plain.keeps at.it)), Fine) t e (halt_none p s number u at free) (λ q is x. (refl, x)))

pub closes_tied : (p : Desked) (s : State) (keep : Option Bool) (number : Option ℕ) → Tied p s → ((n : ℕ) → number ≡ Some n → Free n s.units)
    → ActTied (acted p.desks (closes p.core keep (unit_at p.core number))) (plainly.closes s keep (meant.unit_at s number))
closes_tied p s keep None t free = (refl, t)
closes_tied p s keep (Some number) t free = by (connected_at p.core.units number) refl
  where
    by : (o : Option Connected) → connected_at p.core.units number ≡ o → ActTied (acted p.desks (closes p.core keep o)) (plainly.closes s keep (found s.units number))
    by None e = subst (λ o. ActTied (p, Fine) (plainly.closes s keep o)) (sym (not_at_unit p.desks p.core.units s.units number t.same.units e).0) (refl, t)
    by (Some u) e =
        let at = at_unit p.desks p.core.units s.units number u t.same.units e in
        subst (λ o. ActTied (acted p.desks (closes p.core keep (Some u))) (plainly.closes s keep o)) (sym at.found_is) (close_found p s number u at keep t e (free number refl))

pub closes_anyway_tied : (p : Desked) (s : State) (keep : Option Bool) (condition : Condition) (number : Option ℕ) → Tied p s → ((n : ℕ) → number ≡ Some n → Free n s.units)
    → ActTied (acted p.desks (closes_anyway p.core keep condition (unit_at p.core number))) (plainly.closes_anyway s keep (meant.unit_at s number), condition)
closes_anyway_tied p s keep condition None t free = (refl, t)
closes_anyway_tied p s keep condition (Some number) t free = by (connected_at p.core.units number) refl
  where
    by : (o : Option Connected) → connected_at p.core.units number ≡ o → ActTied (acted p.desks (closes_anyway p.core keep condition o)) (plainly.closes_anyway s keep (found s.units number), condition)
    by None e = subst (λ o. ActTied (p, condition) (plainly.closes_anyway s keep o, condition)) (sym (not_at_unit p.desks p.core.units s.units number t.same.units e).0) (refl, t)
    by (Some u) e =
        let at = at_unit p.desks p.core.units s.units number u t.same.units e in
        subst (λ o. ActTied (acted p.desks (closes_anyway p.core keep condition (Some u))) (plainly.closes_anyway s keep o, condition)) (sym at.found_is)
        (subst (λ k. ActTied (acted p.desks (detaches p.core u (k && unwrap_or keep true) (λ new. finishes new condition))) (plain.disconnected s at.it (plain.keeps at.it && unwrap_or keep true), condition)) (sym (keeps_same p s number u at))
        (detaches_tied p s number u at (plain.keeps at.it && unwrap_or keep true) (λ new. finishes new condition) (plain.disconnected s at.it (plain.keeps at.it && unwrap_or keep true), condition) t e
        (halt_none p s number u at (free number refl)) (λ q is x. (refl, x))))

-- ---- END

filter_differs : {X : Type 0} → (number : X → ℕ) (n : ℕ) (xs : List X) → Differs number n xs → filter (λ x. not (number x == n)) xs ≡ xs
filter_differs number n [] d = refl
filter_differs number n (x ∷ xs) d =
    ap (λ b. if not b then x ∷ filter (λ y. not (number y == n)) xs else filter (λ y. not (number y == n)) xs) (ne_eqb (number x) n d.0) ∙ ap (λ l. x ∷ l) (filter_differs number n xs d.1)

-- without the first one, the others
rest_left : {X : Type 0} → (number : X → ℕ) (x : X) (xs : List X) → Differs number (number x) xs → filter (λ y. not (number y == number x)) (x ∷ xs) ≡ xs
rest_left number x xs d =
    ap (λ b. if not b then x ∷ filter (λ y. not (number y == number x)) xs else filter (λ y. not (number y == number x)) xs) (eq-eqb (number x) (number x) refl) ∙ filter_differs number (number x) xs d

differ_too : (desks : List Desk) (us : List Connected) (vs : List plain.Unit) (n m : ℕ) → n ≡ m → Seen desks us vs → Differs (λ (v : plain.Unit). v.number) m vs → Differs (λ (u : Connected). u.number) n us
differ_too desks [] [] n m e b d = tt
differ_too desks [] (v ∷ vs) n m e b d = absurd b
differ_too desks (u ∷ us) [] n m e b d = absurd b
differ_too desks (u ∷ us) (v ∷ vs) n m e b d = ((λ q. d.0 (sym b.0.number ∙ q ∙ e)), differ_too desks us vs n m e b.1 d.1)

abbrev pub AllFree : List plain.Unit → Type 0
AllFree vs = Each (λ (v : plain.Unit). v.halt ≡ None) vs

all_tied : (us : List Connected) (vs : List plain.Unit) (p : Desked) (s : State) (condition : Condition) → Tied p s → p.core.units ≡ us → s.units ≡ vs → AllFree vs
    → ActTied (acted p.desks (all_closed us p.core condition)) (record s { units = []; files = plain.files_closed vs s.files }, condition)
all_tied [] [] p s condition t a b free = (refl, subst (λ l. Tied p (record s { units = l })) b t)
all_tied [] (v ∷ vs) p s condition t a b free = absurd (subst (λ l. Seen p.desks [] l) b (subst (λ l. Seen p.desks l s.units) a t.same.units))
all_tied (u ∷ us) [] p s condition t a b free = absurd (subst (λ l. Seen p.desks (u ∷ us) l) b (subst (λ l. Seen p.desks l s.units) a t.same.units))
all_tied (u ∷ us) (v ∷ vs) p s condition t a b free =
    detaches_tied p s u.number u at (keeps u) (λ new. all_closed us new condition) (record s { units = []; files = plain.files_closed (v ∷ vs) s.files }, condition) t found_u free.0
    (λ q is x.
    let left_u : q.core.units ≡ us = is ∙ ap (without_connected u.number) a ∙ rest_left (λ (y : Connected). y.number) u us (differ_too p.desks us vs u.number v.number seen.0.number seen.1 numbers.0) in
    let left_v : without_unit v.number s.units ≡ vs = ap (without_unit v.number) b ∙ rest_left (λ (y : plain.Unit). y.number) v vs numbers.0 in
    subst (λ k. ActTied (acted q.desks (all_closed us q.core condition)) (record s { units = []; files = plain.files_closed vs (plain.left v.connection k s.files) }, condition)) (keeps_v)
    (all_tied us vs q (plain.disconnected s v (keeps u)) condition x left_u left_v free.1))
  where
    seen : Seen p.desks (u ∷ us) (v ∷ vs)
    seen = subst (λ l. Seen p.desks (u ∷ us) l) b (subst (λ l. Seen p.desks l s.units) a t.same.units)

    numbers : Apart (λ (y : plain.Unit). y.number) (v ∷ vs)
    numbers = subst (λ l. Apart (λ (y : plain.Unit). y.number) l) b t.numbers

    found_u : connected_at p.core.units u.number ≡ Some u
    found_u = ap (λ l. connected_at l u.number) a ∙ ap (λ k. if k then Some u else connected_at us u.number) (eq-eqb u.number u.number refl)

    at : At p.desks s.units u.number u
    at = record {
      it = v;
      found_is = ap (λ l. found l u.number) b ∙ ap (λ k. if k then Some v else found vs u.number) (eq-eqb v.number u.number (sym seen.0.number));
      number_is = sym seen.0.number;
      own_number = refl;
      seen = seen.0;
    }

    keeps_v : keeps u ≡ plain.keeps v
    keeps_v = ap (λ (m : Modes). not m.scratch) seen.0.modes

pub ends_tied : (p : Desked) (s : State) (condition : Condition) → Tied p s → AllFree s.units → ActTied (acted p.desks (all_closed p.core.units p.core condition)) (plain.all_closed s, condition)
ends_tied p s condition t free = all_tied p.core.units s.units p s condition t refl refl free
