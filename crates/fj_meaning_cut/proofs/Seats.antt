-- Each pending transfer has its job at the slot of its unit.
use Rattle.std.proofs.Common.{◌≡◌, ℕ, ℤ, zero, suc, Bool, true, false, not, List, [], ◌∷◌, ◌++◌, map, Option, Some, None, slice_get, refl, sym, ap, ◌∙◌, subst, inl, inr, ◌||◌, ◌&&◌}
use Rattle.std.specs.Prelude.{◌==◌, if◌then◌else◌, filter, nat_lt, option_map, unwrap_or}
use Rattle.std.specs.List.{list_any}
use Rattle.std.proofs.lemmas.Bool.{eq-eqb, ne_eqb}
use Rattle.std.proofs.lemmas.Bool.Decides.{eqb_tells}
use Rattle.fj_value.specs.declared.condition.Condition.{Condition}
use Rattle.fj_value.specs.declared.condition.Condition.TheVariants.{Fine}
use Rattle.fj_value.specs.declared.condition.Rule.{Rule}
use Rattle.fj_modes.specs.declared.modes.Modes.{Modes}
use Rattle.fj_modes.specs.declared.specifiers.OpenSpec.{OpenSpec}
use Rattle.fj_modes.specs.declared.asked.Wanted.{Wanted}
use Rattle.fj_modes.specs.declared.motion.Motion.{Motion}
use Rattle.fj_statement.specs.declared.unit.UnitRef.{UnitRef}
use Rattle.fj_statement.specs.declared.unit.UnitRef.TheVariants as unit
use Rattle.fj_moved.specs.declared.moved.Moved.{Moved}
use Rattle.fj_control.specs.Steps.{Given}
use Rattle.fj_statement.specs.declared.deck.Variable.{Variable}
use Rattle.fj_statement.specs.declared.statement.Statement.{Statement}
use Rattle.fj_statement.specs.declared.statement.Statement.TheVariants as statement
use Rattle.fj_statement.specs.declared.statement.Transfer.{Transfer}
use Rattle.fj_bay.specs.Halt.{halts}
use Rattle.fj_meaning.specs.Needs.{number_of, number_given, unit_about}
use Rattle.fj_meaning.specs.State.{Files, Entry}
use Rattle.fj_meaning.specs.Statement.{Stated, Ending, file_asked}
use Rattle.fj_meaning.specs.Telling.{of_unit, is_asynchronous, condition_of, tells_id, waited_in}
use Rattle.fj_meaning.specs.Transfers.{moved_in}
use Rattle.fj_meaning_jobs.specs.Core.{Core, Pending, Connected, connected_at, unit_named, with_connected, inserted, without_connected}
use Rattle.fj_meaning_jobs.specs.Desks.{Desk, Outcome, Brought, brought_by, carry, log_at, log_length, entry_with, entry_of}
use Rattle.fj_meaning_jobs.specs.Desks as desks
use Rattle.fj_meaning_jobs.specs.Doing.{Doing, finishes, gives, awaits, Desked, acted}
use Rattle.fj_meaning_jobs.specs.Desking.{begun_at, entries, told_core, completed, goes_on, desk_step, fresh}
use Rattle.fj_meaning_jobs.specs.Acting.{pending_of, finishes_behind, transferred, transfer_at, keeps, disconnected, came_out, closes, closes_anyway, all_closed, connects, opens_unit, moves, asks_connection, inquires, if_numbered, unit_at, own, doing}
use Rattle.fj_meaning_jobs.proofs.Apart.{Each, each_imp, each_filter, each_append}
use Rattle.fj_meaning_jobs.proofs.Walking.{either, unit_by, closes_by, anyway_by, connects_by, open_by, doing_by}
use Rattle.fj_meaning_turns.specs.Turns.{halted_slots, ends_halts, rule_of}
use Rattle.fj_meaning_turns.specs.Inside.{waited_at, does, cut_desks}
use Rattle.fj_meaning_turns.proofs.Seated.{found_number}
use Rattle.fj_meaning_turns.proofs.Statements.{acts_are, step_is}
use Rattle.fj_meaning_turns.proofs.Decks.{cut_on}
use Rattle.fj_meaning_cut.proofs.Units.{found_without, apart_from}

-- its unit is at its slot
abbrev pub HasSeat : List Connected → Pending → Type 0
HasSeat us e = (u : Connected) × (connected_at us e.unit ≡ Some u) × (u.slot ≡ e.slot)

abbrev pub AreSeated : Core → Type 0
AreSeated core = Each (HasSeat core.units) core.book

-- none is of that unit
abbrev Gone : ℕ → Core → Type 0
Gone n core = Each (λ (e : Pending). e.unit ≡ n → ⊥) core.book

none_seated : (core : Core) → core.book ≡ [] → AreSeated core
none_seated core e = subst (λ es. Each (HasSeat core.units) es) (sym e) tt

-- the other units are found as before
abbrev Keeps : ℕ → List Connected → List Connected → Type 0
Keeps n old new = (m : ℕ) → (m ≡ n → ⊥) → connected_at new m ≡ connected_at old m

kept : (n : ℕ) (old new : List Connected) (book : List Pending) → Keeps n old new → Each (λ (e : Pending). e.unit ≡ n → ⊥) book → Each (HasSeat old) book → Each (HasSeat new) book
kept n old new [] k d h = tt
kept n old new (e ∷ es) k d h = ((h.0.0, k e.unit d.0 ∙ h.0.1, h.0.2), kept n old new es k d.1 h.1)

-- ---- units that change

found_with : (new : Connected) (us : List Connected) → Keeps new.number us (with_connected new us)
found_with new [] m ne = refl
found_with new (x ∷ us) m ne = elim (eqb_tells x.number new.number) [
  | inl a ↦
      ap (λ b. connected_at ((if b then new else x) ∷ with_connected new us) m) a.0
      ∙ ap (λ b. if b then Some new else connected_at (with_connected new us) m) (ne_eqb new.number m (λ q. ne (sym q)))
      ∙ found_with new us m ne
      ∙ sym (ap (λ b. if b then Some x else connected_at us m) (ne_eqb x.number m (λ q. ne (sym q ∙ a.1))))
  | inr a ↦ ap (λ b. connected_at ((if b then new else x) ∷ with_connected new us) m) a.0 ∙ ap (λ o. if x.number == m then Some x else o) (found_with new us m ne)
]

found_filter : (p : ℕ → Bool) (us : List Connected) (m : ℕ) → p m ≡ true → connected_at (filter (λ (u : Connected). p u.number) us) m ≡ connected_at us m
found_filter p [] m h = refl
found_filter p (x ∷ us) m h = elim (eqb_tells x.number m) [
  | inl a ↦
      ap (λ b. connected_at (if b then x ∷ filter (λ (u : Connected). p u.number) us else filter (λ (u : Connected). p u.number) us) m) (ap p a.1 ∙ h)
      ∙ ap (λ o. if x.number == m then Some x else o) (found_filter p us m h)
  | inr a ↦ by (p x.number) a.0 (found_filter p us m h)
]
  where
    by : (b : Bool) → (x.number == m) ≡ false → connected_at (filter (λ (u : Connected). p u.number) us) m ≡ connected_at us m
        → connected_at (if b then x ∷ filter (λ (u : Connected). p u.number) us else filter (λ (u : Connected). p u.number) us) m ≡ (if x.number == m then Some x else connected_at us m)
    by true f e = ap (λ o. if x.number == m then Some x else o) e
    by false f e = e ∙ sym (ap (λ k. if k then Some x else connected_at us m) f)

pub missing_filter : (p : ℕ → Bool) (us : List Connected) (m : ℕ) → p m ≡ false → connected_at (filter (λ (u : Connected). p u.number) us) m ≡ None
missing_filter p [] m h = refl
missing_filter p (x ∷ us) m h = elim (eqb_tells x.number m) [
  | inl a ↦
      ap (λ b. connected_at (if b then x ∷ filter (λ (u : Connected). p u.number) us else filter (λ (u : Connected). p u.number) us) m) (ap p a.1 ∙ h) ∙ missing_filter p us m h
  | inr a ↦ by (p x.number) a.0 (missing_filter p us m h)
]
  where
    by : (b : Bool) → (x.number == m) ≡ false → connected_at (filter (λ (u : Connected). p u.number) us) m ≡ None
        → connected_at (if b then x ∷ filter (λ (u : Connected). p u.number) us else filter (λ (u : Connected). p u.number) us) m ≡ None
    by true f e = ap (λ k. if k then Some x else connected_at (filter (λ (u : Connected). p u.number) us) m) f ∙ e
    by false f e = e

found_left : (us vs : List Connected) (m : ℕ) → connected_at vs m ≡ None → connected_at (us ++ vs) m ≡ connected_at us m
found_left [] vs m e = e
found_left (x ∷ us) vs m e = ap (λ o. if x.number == m then Some x else o) (found_left us vs m e)

found_right : (us vs : List Connected) (m : ℕ) → connected_at us m ≡ None → connected_at (us ++ vs) m ≡ connected_at vs m
found_right [] vs m e = refl
found_right (x ∷ us) vs m e = elim (eqb_tells x.number m) [
  | inl a ↦ absurd (let z : Some x ≡ None = ap (λ k. if k then Some x else connected_at us m) (sym a.0) ∙ e in cc)
  | inr a ↦
      ap (λ k. if k then Some x else connected_at (us ++ vs) m) a.0 ∙ found_right us vs m (ap (λ k. if k then Some x else connected_at us m) (sym a.0) ∙ e)
]

found_inserted : (new : Connected) (us : List Connected) → Keeps new.number us (inserted new us)
found_inserted new us m ne = by (nat_lt m new.number) refl
  where
    other : (vs : List Connected) → connected_at (new ∷ vs) m ≡ connected_at vs m
    other vs = ap (λ k. if k then Some new else connected_at vs m) (ne_eqb new.number m (λ q. ne (sym q)))

    by : (b : Bool) → nat_lt m new.number ≡ b → connected_at (inserted new us) m ≡ connected_at us m
    by true e =
        found_left (filter (λ (u : Connected). nat_lt u.number new.number) us) (new ∷ filter (λ (u : Connected). nat_lt new.number u.number) us) m
        (other (filter (λ (u : Connected). nat_lt new.number u.number) us) ∙ missing_filter (nat_lt new.number) us m (apart_from m new.number ne ∙ ap not e))
        ∙ found_filter (λ n. nat_lt n new.number) us m e
    by false e =
        found_right (filter (λ (u : Connected). nat_lt u.number new.number) us) (new ∷ filter (λ (u : Connected). nat_lt new.number u.number) us) m (missing_filter (λ n. nat_lt n new.number) us m e)
        ∙ other (filter (λ (u : Connected). nat_lt new.number u.number) us) ∙ found_filter (nat_lt new.number) us m (apart_from m new.number ne ∙ ap not e)

-- ---- what a statement leaves

-- however its jobs go
abbrev Ends : Doing → Type 0
Ends (finishes core condition) = AreSeated core
Ends (gives slot job core next) = (number : ℕ) → Ends (next number)
Ends (awaits slot job core next) = (o : Outcome) → Ends (next o)

behind_ends : (u : Connected) (core : Core) (condition : Condition) → AreSeated core → Ends (finishes_behind u core condition)
behind_ends u core condition h = either Ends (halts condition) _ _ (λ number. h) h

transferred_ends : (control : ℕ → List Given) (variables : List Variable) (line : ℕ) (core : Core) (t : Transfer) (moved : Moved) (u : Connected) → AreSeated core → connected_at core.units u.number ≡ Some u
    → Ends (transferred control variables line core t moved u)
transferred_ends control variables line core t moved u h at =
    either Ends (is_asynchronous t) _ _ (λ number. each_append (HasSeat core.units) core.book (pending_of variables core t u number ∷ []) h ((u, at, refl), tt)) (λ o. behind_ends u _ _ h)

transfer_ends : (control : ℕ → List Given) (variables : List Variable) (line : ℕ) (core : Core) (t : Transfer) (moved : Moved) (ref : UnitRef) → AreSeated core → Ends (transfer_at control variables line core t moved ref)
transfer_ends control variables line core t moved unit.Star h = h
transfer_ends control variables line core t moved (unit.Internal file) h = h
transfer_ends control variables line core t moved (unit.Number n) h =
    unit_by Ends control variables line core t moved (connected_at core.units n) (λ condition. h)
    (λ u e. transferred_ends control variables line core t moved u h (ap (connected_at core.units) (found_number core.units n u e) ∙ e))
transfer_ends control variables line core t moved (unit.Held place n) h =
    unit_by Ends control variables line core t moved (connected_at core.units n) (λ condition. h)
    (λ u e. transferred_ends control variables line core t moved u h (ap (connected_at core.units) (found_number core.units n u e) ∙ e))
transfer_ends control variables line core t moved (unit.New place n) h =
    unit_by Ends control variables line core t moved (connected_at core.units n) (λ condition. h)
    (λ u e. transferred_ends control variables line core t moved u h (ap (connected_at core.units) (found_number core.units n u e) ∙ e))

-- a unit that goes, of which none is pending
without_seated : (core : Core) (u : Connected) (n : ℕ) (keep : Bool) (o : Outcome) → AreSeated core → Gone n core → u.number ≡ n → AreSeated (disconnected core u keep o)
without_seated core u n keep o h gone e =
    kept u.number core.units (without_connected u.number core.units) core.book (found_without core.units u.number) (subst (λ k. Gone k core) (sym e) gone) h

-- the unit of that number, and none of it is pending
abbrev GoneAt : Option ℕ → Core → Type 0
GoneAt number core = (n : ℕ) → number ≡ Some n → Gone n core

by_number : (us : List Connected) (number : Option ℕ) (u : Connected) (core : Core) → core.units ≡ us → unit_at core number ≡ Some u → (n : ℕ) × (number ≡ Some n) × (u.number ≡ n)
by_number us None u core same e = cc
by_number us (Some n) u core same e = (n, refl, found_number core.units n u e)

closes_ends : (core : Core) (keep : Option Bool) (number : Option ℕ) → AreSeated core → GoneAt number core → Ends (closes core keep (unit_at core number))
closes_ends core keep number h gone =
    closes_by Ends core keep (unit_at core number) (λ condition. h)
    (λ u e. let at = by_number core.units number u core refl e in (λ o. either Ends (came_out u o) _ _ (without_seated core u at.0 (unwrap_or keep (keeps u)) o h (gone at.0 at.1) at.2) h))

anyway_ends : (core : Core) (keep : Option Bool) (condition : Condition) (number : Option ℕ) → AreSeated core → GoneAt number core → Ends (closes_anyway core keep condition (unit_at core number))
anyway_ends core keep condition number h gone =
    anyway_by Ends core keep condition (unit_at core number) h
    (λ u e. let at = by_number core.units number u core refl e in (λ o. either Ends (came_out u o) _ _ (without_seated core u at.0 (keeps u && unwrap_or keep true) o h (gone at.0 at.1) at.2) h))

end_ends : (us : List Connected) (core : Core) (condition : Condition) → core.book ≡ [] → Ends (all_closed us core condition)
end_ends [] core condition e = none_seated core e
end_ends (u ∷ us) core condition e = λ o. either Ends (came_out u o) _ _ (end_ends us (disconnected core u (keeps u) o) condition e) (none_seated core e)

connects_ends : (core : Core) (number : ℕ) (spec : OpenSpec) (modes : Modes) → AreSeated core → Gone number core → Ends (connects number spec modes core)
connects_ends core number spec modes h gone =
    connects_by Ends core number spec modes (λ condition. h)
    (λ slot c free e. let new : Connected = record { number = number; slot = slot; name = c.name; modes = c.modes } in λ o. kept number core.units (inserted new core.units) core.book (found_inserted new core.units) gone h)

open_ends : (core : Core) (ref : UnitRef) (number : Option ℕ) (spec : OpenSpec) → AreSeated core → GoneAt number core → Ends (if_numbered core number (λ n. opens_unit core ref n spec (connected_at core.units n)))
open_ends core ref number spec h gone =
    open_by Ends core ref spec number (λ condition. h)
    (λ n u modes is e. let new : Connected = record u { modes = modes } in
    λ o. kept u.number core.units (with_connected new core.units) core.book (found_with new core.units) (subst (λ k. Gone k core) (sym (found_number core.units n u e)) (gone n is)) h)
    (λ n modes is e. connects_ends core n spec modes h (gone n is))
    (λ n u modes is e other. λ o. either Ends (came_out u o) _ _
    (connects_ends (disconnected core u (keeps u) o) n spec modes (without_seated core u n (keeps u) o h (gone n is) (found_number core.units n u e)) (gone n is)) h)

moves_ends : (core : Core) (how : Motion) (o : Option Connected) → AreSeated core → Ends (moves core how o)
moves_ends core how None h = h
moves_ends core how (Some u) h = λ o. h

inquires_ends : (variables : List Variable) (core : Core) (number : Option ℕ) (file : Option (List ℕ)) (asked : List Wanted) (id : Option ℤ) (o : Option Connected) → AreSeated core → Ends (inquires variables core number file asked id o)
inquires_ends variables core number file asked id None h = h
inquires_ends variables core number file asked id (Some u) h = either Ends (list_any (λ (w : Wanted). asks_connection w.what) asked) _ _ (λ o. h) h

-- ---- each kind of statement, once the transfers that it waits for are told

abbrev Left : Statement → Core → Type 0
Left (statement.OpenUnit u spec iostat) core = GoneAt (number_of u) core
Left (statement.CloseUnit u keep iostat) core = GoneAt (number_of u) core
Left statement.End core = core.book ≡ []
Left _ core = Unit {0}

module _ (control : ℕ → List Given) (variables : List Variable) (line : ℕ) (core : Core) where
  own_ends : (st : Statement) → AreSeated core → Left st core → Ends (own control variables line core st)
  own_ends (statement.Assign to from) h l = h
  own_ends (statement.OpenUnit u spec iostat) h l = open_ends core u (number_of u) spec h l
  own_ends (statement.CloseUnit u keep iostat) h l = closes_ends core keep (number_of u) h l
  own_ends (statement.WaitFor u id iostat) h l = h
  own_ends (statement.Move how u iostat) h l = moves_ends core how (unit_at core (number_of u)) h
  own_ends (statement.Inquire subject asked id iostat _) h l =
      let number = unit_about (unit_named core.units) subject in inquires_ends variables core number (file_asked subject) asked (number_given core.vars id) (unit_at core number) h
  own_ends (statement.Transfer t) h l = transfer_ends control variables line core t (moved_in variables core.vars t) t.unit h
  own_ends statement.End h l = end_ends core.units core Fine l

  doing_ends : (st : Statement) (condition : Condition) → AreSeated core → Left st core → Ends (doing control variables line core st condition)
  doing_ends st condition h l =
      doing_by Ends control variables line core st (own_ends st h l) (λ vars condition. h)
      (λ u keep iostat condition is. anyway_ends core keep condition (number_of u) h (subst (λ s. Left s core) is l))
      (λ condition is. end_ends core.units core condition (subst (λ s. Left s core) is l)) condition

halts_end : (slots : List ℕ) (core : Core) (next : Doing) → Ends next → Ends (ends_halts slots core next)
halts_end [] core next h = h
halts_end (slot ∷ slots) core next h = λ number. halts_end slots core next h

-- ---- those that are told

with_unit : (e : Pending) (o : Option Brought) → (entry_with e o).unit ≡ e.unit
with_unit e None = refl
with_unit e (Some o) = refl

with_id : (e : Pending) (o : Option Brought) → (entry_with e o).id ≡ e.id
with_id e None = refl
with_id e (Some o) = refl

pub unit_kept : (ds : List Desk) (e : Pending) → (entry_of ds e).unit ≡ e.unit
unit_kept ds e = with_unit e (option_map brought_by (log_at (slice_get ds e.slot) e.number))

pub id_kept : (ds : List Desk) (e : Pending) → (entry_of ds e).id ≡ e.id
id_kept ds e = with_id e (option_map brought_by (log_at (slice_get ds e.slot) e.number))

first_told : (x : Entry) (es : List Entry) → tells_id (x ∷ es) x.id ≡ true
first_told x es = ap (λ b. b || tells_id es x.id) (eq-eqb x.id x.id refl)

also_told : (x : Entry) (es : List Entry) (id : ℕ) → tells_id es id ≡ true → tells_id (x ∷ es) id ≡ true
also_told x es id h = by (x.id == id)
  where
    by : (b : Bool) → (b || tells_id es id) ≡ true
    by true = refl
    by false = h

module _ (ds : List Desk) where
  all_told : (book : List Pending) → Each (λ (e : Pending). tells_id (map (entry_of ds) book) e.id ≡ true) book
  all_told [] = tt
  all_told (e ∷ es) = (
    subst (λ id. tells_id (map (entry_of ds) (e ∷ es)) id ≡ true) (id_kept ds e) (first_told (entry_of ds e) (map (entry_of ds) es)),
    each_imp (λ (x : Pending). tells_id (map (entry_of ds) es) x.id ≡ true) (λ (x : Pending). tells_id (map (entry_of ds) (e ∷ es)) x.id ≡ true) es
        (λ x h. also_told (entry_of ds e) (map (entry_of ds) es) x.id h) (all_told es),
  )

  unit_told : (n : ℕ) (book : List Pending) → Each (λ (e : Pending). e.unit ≡ n → tells_id (of_unit (map (entry_of ds) book) (Some n)) e.id ≡ true) book
  unit_told n [] = tt
  unit_told n (e ∷ es) = (
    (λ same. let is : ((entry_of ds e).unit == n) ≡ true = eq-eqb _ n (unit_kept ds e ∙ same) in
        ap (λ b. tells_id (if b then entry_of ds e ∷ rest else rest) e.id) is
        ∙ subst (λ id. tells_id (entry_of ds e ∷ rest) id ≡ true) (id_kept ds e) (first_told (entry_of ds e) rest)),
    each_imp (λ (x : Pending). x.unit ≡ n → tells_id rest x.id ≡ true) (λ (x : Pending). x.unit ≡ n → tells_id (of_unit (map (entry_of ds) (e ∷ es)) (Some n)) x.id ≡ true) es
        (λ x h same. by ((entry_of ds e).unit == n) x.id (h same)) (unit_told n es),
  )
    where
      rest : List Entry
      rest = of_unit (map (entry_of ds) es) (Some n)

      by : (b : Bool) (id : ℕ) → tells_id rest id ≡ true → tells_id (if b then entry_of ds e ∷ rest else rest) id ≡ true
      by true id h = also_told (entry_of ds e) rest id h
      by false id h = h

-- what is not told stays
stays : (P : Pending → Type 0) (told : Pending → Bool) (book : List Pending) → Each (λ (e : Pending). P e → told e ≡ true) book → Each (λ (e : Pending). P e → ⊥) (filter (λ (e : Pending). not (told e)) book)
stays P told [] h = tt
stays P told (e ∷ es) h = by (told e) refl (stays P told es h.1)
  where
    by : (b : Bool) → told e ≡ b → Each (λ (x : Pending). P x → ⊥) (filter (λ (x : Pending). not (told x)) es)
        → Each (λ (x : Pending). P x → ⊥) (if not b then e ∷ filter (λ (x : Pending). not (told x)) es else filter (λ (x : Pending). not (told x)) es)
    by true is rest = rest
    by false is rest = ((λ p. let z : false ≡ true = sym is ∙ h.0 p in cc), rest)

none_stays : (told : Pending → Bool) (book : List Pending) → Each (λ (e : Pending). told e ≡ true) book → filter (λ (e : Pending). not (told e)) book ≡ []
none_stays told [] h = refl
none_stays told (e ∷ es) h = ap (λ b. if not b then e ∷ filter (λ (x : Pending). not (told x)) es else filter (λ (x : Pending). not (told x)) es) h.0 ∙ none_stays told es h.1

module _ (variables : List Variable) (line : ℕ) (p : Desked) where
  gone_told : (number : Option ℕ) → GoneAt number (told_core variables line (of_unit (entries p) number) p.core)
  gone_told None n e = cc
  gone_told (Some k) n e =
      let same : k ≡ n = cc in
      subst (λ m. Gone m (told_core variables line (of_unit (entries p) (Some k)) p.core)) same
      (stays (λ (x : Pending). x.unit ≡ k) (λ (x : Pending). tells_id (of_unit (entries p) (Some k)) x.id) p.core.book (unit_told p.desks k p.core.book))

  left_told : (st : Statement) → Left st (told_core variables line (waited_in (entries p) p.core.vars st) p.core)
  left_told (statement.Assign to from) = tt
  left_told (statement.OpenUnit u spec iostat) = gone_told (number_of u)
  left_told (statement.CloseUnit u keep iostat) = gone_told (number_of u)
  left_told (statement.WaitFor u id iostat) = tt
  left_told (statement.Move how u iostat) = tt
  left_told (statement.Inquire subject asked id iostat _) = tt
  left_told (statement.Transfer t) = tt
  left_told statement.End = none_stays (λ (x : Pending). tells_id (entries p) x.id) p.core.book (all_told p.desks p.core.book)

-- ---- decks

does_ends : (variables : List Variable) (st : Stated) (p : Desked) → AreSeated p.core → Ends (does variables st p)
does_ends variables st p h =
    let told : List Entry = waited_at st p in
    let new : Core = told_core variables st.0.line told p.core in
    halts_end (halted_slots told p.core.units) new _
    (doing_ends st.1 variables st.0.line new st.0.what (condition_of told) (each_filter (HasSeat p.core.units) (λ (e : Pending). not (tells_id told e.id)) p.core.book h) (left_told variables st.0.line p st.0.what))

acted_seated : (ds : List Desk) (d : Doing) → Ends d → AreSeated (acted ds d).0.core
acted_seated ds (finishes core condition) h = h
acted_seated ds (gives slot job core next) h = acted_seated (carry ds slot job) (next (log_length (slice_get ds slot))) (h (log_length (slice_get ds slot)))
acted_seated ds (awaits slot job core next) h = acted_seated (carry ds slot job) (next (desks.outcome ds slot job)) (h (desks.outcome ds slot job))

step_seated : (variables : List Variable) (st : Stated) (p : Desked) → AreSeated p.core → AreSeated (desk_step variables st p).0.core
step_seated variables st p h = subst (λ d. AreSeated d.0.core) (sym (step_is variables st p)) (by (rule_of variables st p.core))
  where
    by : (o : Option Rule) → AreSeated (goes_on st.1 variables st.0.line st.0.what p o).0.core
    by (Some rule) = h
    by None = subst (λ d. AreSeated (completed variables st.0.line st.0.what d).0.core) (acts_are variables st p) (acted_seated p.desks (does variables st p) (does_ends variables st p h))

seated_on : (variables : List Variable) (deck : List Stated) (index : ℕ) (p : Desked) (statement : Stated) (before : Desked) → AreSeated p.core → cut_desks variables index deck p ≡ Some (statement, before) → AreSeated before.core
seated_on variables [] index p statement before h e = cc
seated_on variables (st ∷ more) zero p statement before h e =
    let here : p ≡ before = ap (λ (o : Option (Stated × Desked)). elim o as (λ _. Desked) [ None ↦ p | Some x ↦ x.1 ]) e in subst (λ q. AreSeated q.core) here h
seated_on variables (st ∷ more) (suc index) p statement before h e =
    by (desk_step variables (begun_at p st) p).1 refl (λ f. seated_on variables more index (desk_step variables (begun_at p st) p).0 statement before (step_seated variables (begun_at p st) p h) f)
  where
    by : (o : Option Ending) → (desk_step variables (begun_at p st) p).1 ≡ o → (cut_desks variables index more (desk_step variables (begun_at p st) p).0 ≡ Some (statement, before) → AreSeated before.core) → AreSeated before.core
    by (Some x) f later =
        absurd (let z : None ≡ Some (statement, before) = sym (ap (λ o. elim o as (λ _. Option (Stated × Desked)) [ None ↦ cut_desks variables index more (desk_step variables (begun_at p st) p).0 | Some y ↦ None ]) f) ∙ e in cc)
    by None f later = later (sym (cut_on variables index st more p f) ∙ e)

-- just before each statement
pub seated_before : (variables : List Variable) (deck : List Stated) (files : Files) (index : ℕ) (statement : Stated) (before : Desked) → cut_desks variables index deck (fresh variables files) ≡ Some (statement, before)
    → AreSeated before.core
seated_before variables deck files index statement before e = seated_on variables deck index (fresh variables files) statement before tt e
