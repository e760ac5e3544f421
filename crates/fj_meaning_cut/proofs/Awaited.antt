-- A job that a statement waits for is at a unit of it, or is a connection's at a slot that no unit has.
use Rattle.std.proofs.Common.{◌≡◌, ◌⊎◌, ℕ, ℤ, zero, suc, ◌<◌, arith, Bool, true, false, List, [], ◌∷◌, map, Option, Some, None, slice_get, refl, sym, ap, ◌∙◌, subst, inl, inr, ◌||◌, ◌&&◌}
use Rattle.std.specs.Prelude.{◌==◌, if◌then◌else◌, filter, option_map}
use Rattle.std.specs.List.{All, AllPairs, list_any}
use Rattle.std.specs.Str.{bytes_eq}
use Rattle.std.proofs.lemmas.Bool.{eq-eqb, ne_eqb, eqb-true}
use Rattle.std.proofs.lemmas.Bool.Decides.{eqb_tells}
use Rattle.std.proofs.lemmas.List.Elements.{All-head, All-tail}
use Rattle.std.proofs.lemmas.Slice.Eq.{bytes_eq-Decides}
use Rattle.fj_value.specs.declared.condition.Condition.{Condition}
use Rattle.fj_value.specs.declared.condition.Condition.TheVariants.{Fine}
use Rattle.fj_modes.specs.declared.modes.Modes.{Modes}
use Rattle.fj_modes.specs.declared.specifiers.OpenSpec.{OpenSpec}
use Rattle.fj_statement.specs.declared.unit.Subject.TheVariants as subject
use Rattle.fj_modes.specs.declared.asked.Wanted.{Wanted}
use Rattle.fj_modes.specs.declared.motion.Motion.{Motion}
use Rattle.fj_statement.specs.declared.unit.UnitRef.{UnitRef}
use Rattle.fj_statement.specs.declared.unit.UnitRef.TheVariants as unit
use Rattle.fj_moved.specs.declared.moved.Moved.{Moved}
use Rattle.fj_control.specs.Steps.{Given}
use Rattle.fj_statement.specs.declared.deck.Variable.{Variable}
use Rattle.fj_statement.specs.declared.statement.Statement.{Statement}
use Rattle.fj_statement.specs.declared.statement.Statement.TheVariants as statement
use Rattle.fj_statement.specs.declared.statement.Transfer.{Transfer}
use Rattle.fj_bay.specs.Halt.{halts}
use Rattle.fj_meaning.specs.Needs.{number_of, number_given, number_of_subject, unit_about, unit_of_file}
use Rattle.fj_meaning.specs.State.{Files, Entry, start}
use Rattle.fj_meaning.specs.Statement.{Stated, file_asked}
use Rattle.fj_meaning.specs.Telling.{of_unit, of_id, waited_by, is_asynchronous, condition_of, tells_id, waited_in}
use Rattle.fj_meaning.specs.Transfers.{moved_in}
use Rattle.fj_meaning.proofs.Lists.{pairs_head, pairs_tail}
use Rattle.fj_meaning.proofs.Sound.{Sound}
use Rattle.fj_meaning.proofs.Tells.{rising}
use Rattle.fj_meaning_jobs.specs.Core.{Core, Pending, Connected, connected_at, unit_named}
use Rattle.fj_meaning_jobs.specs.Desks.{Desk, Outcome, carry, log_length, entry_of}
use Rattle.fj_meaning_jobs.specs.Desks as desks
use Rattle.fj_meaning_jobs.specs.Doing.{Doing, finishes, gives, awaits, Desked}
use Rattle.fj_meaning_jobs.specs.Desking.{entries, told_core, fresh}
use Rattle.fj_meaning_jobs.specs.Acting.{finishes_behind, transferred, transfer_at, keeps, disconnected, came_out, closes, closes_anyway, all_closed, connects, opens_unit, moves, asks_connection, inquires, if_numbered, unit_at, own, doing}
use Rattle.fj_meaning_jobs.proofs.Apart.{Each, each_imp, Differs, Apart}
use Rattle.fj_meaning_jobs.proofs.Seen.{numbers_apart, named_same}
use Rattle.fj_meaning_jobs.proofs.Walking.{unit_by, closes_by, anyway_by, connects_by, open_by, doing_by}
use Rattle.fj_meaning_turns.specs.Turns.{halted_slots, ends_halts, doing_told}
use Rattle.fj_meaning_turns.specs.Inside.{waited_at, does, walked}
use Rattle.fj_meaning_turns.specs.Run.{Run}
use Rattle.fj_meaning_turns.specs.Cutting.{StopAt}
use Rattle.fj_meaning_turns.specs.Standing.{Waits}
use Rattle.fj_meaning_turns.proofs.Meant.{CutTied, cut_of_deck}
use Rattle.fj_meaning_cut.specs.Others.{Names, names_of, has_file}
use Rattle.fj_meaning_cut.specs.Awaiting.{WaitsBy, AwaitedUnit, IsFree, StopsAt, StopsAreAwaited}
use Rattle.fj_meaning_cut.proofs.Units.{each_found, found_behind}
use Rattle.fj_meaning_cut.proofs.Deck.{cut_sound}
use Rattle.fj_meaning_cut.proofs.Points.{at_point}
use Rattle.fj_meaning_cut.proofs.Seats.{HasSeat, seated_before, unit_kept, id_kept}
use Rattle.fj_meaning_cut.proofs.Stops.{names_same}

-- ---- units and their files

or_right : (a b : Bool) → b ≡ true → (a || b) ≡ true
or_right true b h = refl
or_right false b h = h

same_name : (name : List ℕ) → bytes_eq name name ≡ true
same_name name = (bytes_eq-Decides name name).1 refl

file_there : (us : List Connected) (n : ℕ) (u : Connected) → connected_at us n ≡ Some u → has_file us u.slot u.name ≡ true
file_there [] n u e = cc
file_there (x ∷ us) n u e = elim (eqb_tells x.number n) [
  | inl a ↦
      let z : Some x ≡ Some u = ap (λ k. if k then Some x else connected_at us n) (sym a.0) ∙ e in
      let same : x ≡ u = cc in
      subst (λ (y : Connected). has_file (y ∷ us) u.slot u.name ≡ true) (sym same)
      (ap (λ b. (b && bytes_eq u.name u.name) || has_file us u.slot u.name) (eq-eqb u.slot u.slot refl) ∙ ap (λ b. b || has_file us u.slot u.name) (same_name u.name))
  | inr a ↦ or_right _ (has_file us u.slot u.name) (file_there us n u (ap (λ k. if k then Some x else connected_at us n) (sym a.0) ∙ e))
]

none_there : (us : List Connected) (slot : ℕ) → Differs (λ (u : Connected). u.slot) slot us → IsFree us slot
none_there [] slot d = refl
none_there (x ∷ us) slot d = ap (λ b. b || list_any (λ (u : Connected). u.slot == slot) us) (ne_eqb x.slot slot d.0) ∙ none_there us slot d.1

by_number : (core : Core) (number : Option ℕ) (u : Connected) → unit_at core number ≡ Some u → (n : ℕ) × (number ≡ Some n) × (connected_at core.units n ≡ Some u)
by_number core None u e = cc
by_number core (Some n) u e = (n, refl, e)

-- ---- each kind of statement

module _ (what : Statement) (names : Names) (unit_named_by : List ℕ → Option ℕ) where
  -- a unit of the statement has its file at the slot, or no unit is there
  abbrev IsPlace : List Connected → ℕ → Type 0
  IsPlace us slot = ((n : ℕ) × (name : List ℕ) × WaitsBy unit_named_by what n × (names n ≡ Some name) × (has_file us slot name ≡ true)) ⊎ IsFree us slot

  abbrev Places : Doing → Type 0
  Places (finishes core condition) = Unit {0}
  Places (gives slot job core next) = (number : ℕ) → Places (next number)
  Places (awaits slot job core next) = IsPlace core.units slot × ((o : Outcome) → Places (next o))

  either : (b : Bool) (x y : Doing) → (b ≡ true → Places x) → (b ≡ false → Places y) → Places (if b then x else y)
  either true x y h k = h refl
  either false x y h k = k refl

  -- the unit of a number by which the statement waits
  abbrev MayWait : Option ℕ → Type 0
  MayWait number = (n : ℕ) → number ≡ Some n → WaitsBy unit_named_by what n

  -- units are named as they are just before the statement
  abbrev IsNamed : Core → Type 0
  IsNamed core = (n : ℕ) → names n ≡ names_of core.units n

  place_of : (core : Core) (number : Option ℕ) (u : Connected) → IsNamed core → MayWait number → unit_at core number ≡ Some u → IsPlace core.units u.slot
  place_of core number u named w e =
      let at = by_number core number u e in
      inl (at.0, u.name, w at.0 at.1, named at.0 ∙ ap (option_map (λ (x : Connected). x.name)) at.2, file_there core.units at.0 u at.2)

  behind_places : (u : Connected) (core : Core) (condition : Condition) → Places (finishes_behind u core condition)
  behind_places u core condition = either (halts condition) _ _ (λ e number. tt) (λ e. tt)

  transferred_places : (control : ℕ → List Given) (variables : List Variable) (line : ℕ) (core : Core) (t : Transfer) (moved : Moved) (u : Connected) → (is_asynchronous t ≡ false → IsPlace core.units u.slot)
      → Places (transferred control variables line core t moved u)
  transferred_places control variables line core t moved u at = either (is_asynchronous t) _ _ (λ e number. tt) (λ e. (at e, λ o. behind_places u _ _))

  transfer_places : (control : ℕ → List Given) (variables : List Variable) (line : ℕ) (core : Core) (t : Transfer) (moved : Moved) (ref : UnitRef) → IsNamed core
      → (is_asynchronous t ≡ false → MayWait (number_of ref)) → Places (transfer_at control variables line core t moved ref)
  transfer_places control variables line core t moved unit.Star named w = tt
  transfer_places control variables line core t moved (unit.Internal file) named w = tt
  transfer_places control variables line core t moved (unit.Number n) named w =
      unit_by Places control variables line core t moved (connected_at core.units n) (λ condition. tt) (λ u e. transferred_places control variables line core t moved u (λ k. place_of core (Some n) u named (w k) e))
  transfer_places control variables line core t moved (unit.Held place n) named w =
      unit_by Places control variables line core t moved (connected_at core.units n) (λ condition. tt) (λ u e. transferred_places control variables line core t moved u (λ k. place_of core (Some n) u named (w k) e))
  transfer_places control variables line core t moved (unit.New place n) named w =
      unit_by Places control variables line core t moved (connected_at core.units n) (λ condition. tt) (λ u e. transferred_places control variables line core t moved u (λ k. place_of core (Some n) u named (w k) e))

  closes_places : (core : Core) (keep : Option Bool) (number : Option ℕ) → IsNamed core → MayWait number → Places (closes core keep (unit_at core number))
  closes_places core keep number named w =
      closes_by Places core keep (unit_at core number) (λ condition. tt) (λ u e. (place_of core number u named w e, λ o. either (came_out u o) _ _ (λ i. tt) (λ i. tt)))

  anyway_places : (core : Core) (keep : Option Bool) (condition : Condition) (number : Option ℕ) → IsNamed core → MayWait number → Places (closes_anyway core keep condition (unit_at core number))
  anyway_places core keep condition number named w =
      anyway_by Places core keep condition (unit_at core number) tt (λ u e. (place_of core number u named w e, λ o. either (came_out u o) _ _ (λ i. tt) (λ i. tt)))

  -- END, unit after unit
  end_places : (us : List Connected) (core : Core) (condition : Condition) → ((n : ℕ) → WaitsBy unit_named_by what n) → Apart (λ (u : Connected). u.number) us
      → Each (λ (u : Connected). connected_at core.units u.number ≡ Some u) us → Each (λ (u : Connected). names u.number ≡ Some u.name) us → Places (all_closed us core condition)
  end_places [] core condition w apart found named = tt
  end_places (u ∷ us) core condition w apart found named = (
    inl (u.number, u.name, w u.number, named.0, file_there core.units u.number u found.0),
    λ o. either (came_out u o) _ _
        (λ i. end_places us (disconnected core u (keeps u) o) condition w apart.1
        (found_behind core.units u us apart.0 found.1)
        named.1)
        (λ i. tt),
  )

  connects_places : (core : Core) (number : ℕ) (spec : OpenSpec) (modes : Modes) → Places (connects number spec modes core)
  connects_places core number spec modes = connects_by Places core number spec modes (λ condition. tt) (λ slot c free e. (inr (none_there core.units slot free.differs), λ o. tt))

  open_places : (core : Core) (ref : UnitRef) (number : Option ℕ) (spec : OpenSpec) → IsNamed core → MayWait number → Places (if_numbered core number (λ n. opens_unit core ref n spec (connected_at core.units n)))
  open_places core ref number spec named w =
      open_by Places core ref spec number (λ condition. tt) (λ n u modes is e. (place_of core number u named w (ap (unit_at core) is ∙ e), λ o. tt)) (λ n modes is e. connects_places core n spec modes)
      (λ n u modes is e other. (place_of core number u named w (ap (unit_at core) is ∙ e), λ o. either (came_out u o) _ _ (λ i. connects_places (disconnected core u (keeps u) o) n spec modes) (λ i. tt)))

  moves_places : (core : Core) (how : Motion) (number : Option ℕ) (o : Option Connected) → IsNamed core → MayWait number → unit_at core number ≡ o → Places (moves core how o)
  moves_places core how number None named w e = tt
  moves_places core how number (Some u) named w e = (place_of core number u named w e, λ o. tt)

  inquires_places : (variables : List Variable) (core : Core) (number : Option ℕ) (file : Option (List ℕ)) (asked : List Wanted) (id : Option ℤ) (o : Option Connected) → IsNamed core
      → (list_any (λ (w : Wanted). asks_connection w.what) asked ≡ true → MayWait number) → unit_at core number ≡ o → Places (inquires variables core number file asked id o)
  inquires_places variables core number file asked id None named w e = tt
  inquires_places variables core number file asked id (Some u) named w e =
      either (list_any (λ (w : Wanted). asks_connection w.what) asked) _ _ (λ k. (place_of core number u named (w k) e, λ o. tt)) (λ k. tt)

-- its own, and what is done in its place
module _ (control : ℕ → List Given) (variables : List Variable) (line : ℕ) (core : Core) (apart : Apart (λ (u : Connected). u.number) core.units) where
  abbrev In : Statement → Doing → Type 0
  In st d = Places st (names_of core.units) (unit_named core.units) d

  ended : (condition : Condition) → In statement.End (all_closed core.units core condition)
  ended condition =
      let found = each_found core.units apart in
      end_places statement.End (names_of core.units) (unit_named core.units) core.units core condition (λ n. tt) apart found
      (each_imp (λ (u : Connected). connected_at core.units u.number ≡ Some u) (λ (u : Connected). names_of core.units u.number ≡ Some u.name) core.units (λ u e. ap (option_map (λ (x : Connected). x.name)) e) found)

  own_places : (st : Statement) → In st (own control variables line core st)
  own_places (statement.Assign to from) = tt
  own_places (statement.OpenUnit u spec iostat) =
      open_places (statement.OpenUnit u spec iostat) (names_of core.units) (unit_named core.units) core u (number_of u) spec (λ n. refl) (λ n e. e)
  own_places (statement.CloseUnit u keep iostat) =
      closes_places (statement.CloseUnit u keep iostat) (names_of core.units) (unit_named core.units) core keep (number_of u) (λ n. refl) (λ n e. e)
  own_places (statement.WaitFor u id iostat) = tt
  own_places (statement.Move how u iostat) =
      moves_places (statement.Move how u iostat) (names_of core.units) (unit_named core.units) core how (number_of u) (unit_at core (number_of u)) (λ n. refl) (λ n e. e) refl
  own_places (statement.Inquire subject asked id iostat done) =
      let number = unit_about (unit_named core.units) subject in
      inquires_places (statement.Inquire subject asked id iostat done) (names_of core.units) (unit_named core.units) variables core number (file_asked subject) asked (number_given core.vars id) (unit_at core number) (λ n. refl) (λ k n e. inl (k, e)) refl
  own_places (statement.Transfer t) =
      transfer_places (statement.Transfer t) (names_of core.units) (unit_named core.units) control variables line core t (moved_in variables core.vars t) t.unit (λ n. refl) (λ k n e. (k, e))
  own_places statement.End = ended Fine

  doing_places : (st : Statement) (condition : Condition) → In st (doing control variables line core st condition)
  doing_places st condition =
      doing_by (In st) control variables line core st (own_places st) (λ vars condition. tt)
      (λ u keep iostat condition is. subst (λ s. In s (closes_anyway core keep condition (unit_at core (number_of u)))) (sym is)
      (anyway_places (statement.CloseUnit u keep iostat) (names_of core.units) (unit_named core.units) core keep condition (number_of u) (λ n. refl) (λ n e. e)))
      (λ condition is. subst (λ s. In s (all_closed core.units core condition)) (sym is) (ended condition)) condition

module _ (what : Statement) (names : Names) (unit_named_by : List ℕ → Option ℕ) where
  halts_places : (slots : List ℕ) (core : Core) (next : Doing) → Places what names unit_named_by next → Places what names unit_named_by (ends_halts slots core next)
  halts_places [] core next h = h
  halts_places (slot ∷ slots) core next h = λ number. halts_places slots core next h

  places_at : (jobs : ℕ) (ds : List Desk) (d : Doing) → Places what names unit_named_by d → Places what names unit_named_by (walked jobs ds d).1
  places_at = at_point (λ ds d. Places what names unit_named_by d) (λ ds slot job core next h. h (log_length (slice_get ds slot))) (λ ds slot job core next h. h.1 (desks.outcome ds slot job))

told_places : (variables : List Variable) (st : Stated) (told : List Entry) (core : Core) → Apart (λ (u : Connected). u.number) core.units
    → Places st.0.what (names_of core.units) (unit_named core.units) (doing_told variables st told core)
told_places variables st told core apart =
    let new : Core = told_core variables st.0.line told core in
    halts_places st.0.what (names_of core.units) (unit_named core.units) (halted_slots told core.units) new _ (doing_places st.1 variables st.0.line new apart st.0.what (condition_of told))

-- ---- the transfers that it waits for

no_id : (p : Entry → Bool) (id : ℕ) (es : List Entry) → All (λ (e : Entry). id < e.id) es → tells_id (filter p es) id ≡ false
no_id p id [] h = refl
no_id p id (e ∷ es) h = by (p e) (no_id p id es (All-tail (λ (x : Entry). id < x.id) e es h))
  where
    by : (b : Bool) → tells_id (filter p es) id ≡ false → tells_id (if b then e ∷ filter p es else filter p es) id ≡ false
    by true rest = ap (λ b. b || tells_id (filter p es) id) (ne_eqb e.id id (λ q. let less = All-head (λ (x : Entry). id < x.id) e es h in absurd (omega (arith, less, q)))) ∙ rest
    by false rest = rest

at_place : (P : Entry → Type 0) (es : List Entry) (k : ℕ) (t : Entry) → All P es → slice_get es k ≡ Some t → P t
at_place P [] k t h e = cc
at_place P (x ∷ es) zero t h e = let same : x ≡ t = cc in subst P same (All-head P x es h)
at_place P (x ∷ es) (suc k) t h e = at_place P es k t (All-tail P x es h) e

-- one that is told by its identifier passes, since no other has that
passes : (p : Entry → Bool) (es : List Entry) (k : ℕ) (t : Entry) → AllPairs rising es → slice_get es k ≡ Some t → tells_id (filter p es) t.id ≡ true → p t ≡ true
passes p [] k t r e h = cc
passes p (x ∷ es) zero t r e h = let same : x ≡ t = cc in subst (λ (y : Entry). tells_id (filter p (x ∷ es)) y.id ≡ true → p y ≡ true) same (by (p x) refl) h
  where
    by : (b : Bool) → p x ≡ b → tells_id (filter p (x ∷ es)) x.id ≡ true → p x ≡ true
    by true is told = is
    by false is told =
        absurd (let z : true ≡ false = sym told ∙ ap (λ b. tells_id (if b then x ∷ filter p es else filter p es) x.id) is ∙ no_id p x.id es (pairs_head rising x es r) in cc)
passes p (x ∷ es) (suc k) t r e h = passes p es k t (pairs_tail rising x es r) e (by (p x) h)
  where
    by : (b : Bool) → tells_id (if b then x ∷ filter p es else filter p es) t.id ≡ true → tells_id (filter p es) t.id ≡ true
    by true told =
        let less : x.id < t.id = at_place (rising x) es k t (pairs_head rising x es r) e in
        sym (ap (λ b. b || tells_id (filter p es) t.id) (ne_eqb x.id t.id (λ q. absurd (omega (arith, q, less))))) ∙ told
    by false told = told

of_one : (es : List Entry) (k : ℕ) (t : Entry) (number : Option ℕ) → AllPairs rising es → slice_get es k ≡ Some t → tells_id (of_unit es number) t.id ≡ true → number ≡ Some t.unit
of_one es k t None r e h = cc
of_one es k t (Some n) r e h = ap Some (sym (eqb-true t.unit n (passes (λ (x : Entry). x.unit == n) es k t r e h)))

-- those of an identifier are of the unit, too
of_id_told : (p : Entry → Bool) (es : List Entry) (id : ℕ) → tells_id (filter p es) id ≡ true → tells_id es id ≡ true
of_id_told p [] id h = h
of_id_told p (e ∷ es) id h = by (p e) (of_id_told p es id) h
  where
    by : (b : Bool) → (tells_id (filter p es) id ≡ true → tells_id es id ≡ true) → tells_id (if b then e ∷ filter p es else filter p es) id ≡ true → tells_id (e ∷ es) id ≡ true
    by true later told = here (e.id == id) later told
      where
        here : (b : Bool) → (tells_id (filter p es) id ≡ true → tells_id es id ≡ true) → (b || tells_id (filter p es) id) ≡ true → (b || tells_id es id) ≡ true
        here true later told = refl
        here false later told = later told
    by false later told = or_right (e.id == id) (tells_id es id) (later told)

wait_told : (es : List Entry) (number : Option ℕ) (id : Option ℤ) (told : ℕ) → tells_id (waited_by es number id) told ≡ true → tells_id (of_unit es number) told ≡ true
wait_told es number None told h = h
wait_told es number (Some id) told h = by (halts (condition_of (of_id es number id))) h
  where
    by : (b : Bool) → tells_id (if b then of_unit es number else of_id es number id) told ≡ true → tells_id (of_unit es number) told ≡ true
    by true h = h
    by false h = of_id_told _ (of_unit es number) told h

-- so a transfer that the statement waits for is of a unit at which it waits
module _ (unit_named_by : List ℕ → Option ℕ) (p : Desked) (k : ℕ) (t : Entry) (r : AllPairs rising (entries p)) (e : slice_get (entries p) k ≡ Some t) where
  waits_by : (st : Statement) → tells_id (waited_in (entries p) p.core.vars st) t.id ≡ true → WaitsBy unit_named_by st t.unit
  waits_by (statement.Assign to from) h = cc
  waits_by (statement.OpenUnit u spec iostat) h = of_one (entries p) k t (number_of u) r e h
  waits_by (statement.CloseUnit u keep iostat) h = of_one (entries p) k t (number_of u) r e h
  waits_by (statement.WaitFor u id iostat) h = of_one (entries p) k t (number_of u) r e (wait_told (entries p) (number_of u) (number_given p.core.vars id) t.id h)
  waits_by (statement.Move how u iostat) h = of_one (entries p) k t (number_of u) r e h
  waits_by (statement.Inquire about asked id iostat None) h = cc
  waits_by (statement.Inquire about asked id iostat (Some false)) h = cc
  waits_by (statement.Inquire about asked id iostat (Some true)) h =
      let number = number_of_subject about in
      inr (refl, of_one (entries p) k t number r e (wait_told (entries p) number (number_given p.core.vars id) t.id h))
  waits_by (statement.Transfer x) h = by (is_asynchronous x) h
    where
      by : (b : Bool) → tells_id (if b then [] else of_unit (entries p) (number_of x.unit)) t.id ≡ true → (b ≡ false) × (number_of x.unit ≡ Some t.unit)
      by true h = cc
      by false h = (refl, of_one (entries p) k t (number_of x.unit) r e h)
  waits_by statement.End h = tt

-- ---- the law

waits_same : (f g : List ℕ → Option ℕ) (st : Statement) (n : ℕ) → ((name : List ℕ) → f name ≡ g name) → WaitsBy f st n → WaitsBy g st n
waits_same f g (statement.Assign to from) n h w = w
waits_same f g (statement.OpenUnit u spec iostat) n h w = w
waits_same f g (statement.CloseUnit u keep iostat) n h w = w
waits_same f g (statement.WaitFor u id iostat) n h w = w
waits_same f g (statement.Move how u iostat) n h w = w
waits_same f g (statement.Inquire (subject.Unit u) asked id iostat _) n h w = w
waits_same f g (statement.Inquire (subject.File name) asked id iostat _) n h (inl w) = inl (w.0, sym (h name) ∙ w.1)
waits_same f g (statement.Inquire (subject.File name) asked id iostat _) n h (inr w) = inr w
waits_same f g (statement.Transfer t) n h w = w
waits_same f g statement.End n h w = w

pending_entry : (ds : List Desk) (book : List Pending) (k : ℕ) (e : Pending) → slice_get book k ≡ Some e → slice_get (map (entry_of ds) book) k ≡ Some (entry_of ds e)
pending_entry ds [] k e h = cc
pending_entry ds (x ∷ es) zero e h = let same : x ≡ e = cc in ap (λ y. Some (entry_of ds y)) same
pending_entry ds (x ∷ es) (suc k) e h = pending_entry ds es k e h

seat_of : (us : List Connected) (book : List Pending) (k : ℕ) (e : Pending) → Each (HasSeat us) book → slice_get book k ≡ Some e → HasSeat us e
seat_of us [] k e h g = cc
seat_of us (x ∷ es) zero e h g = let same : x ≡ e = cc in subst (HasSeat us) same h.0
seat_of us (x ∷ es) (suc k) e h g = seat_of us es k e h.1 g

module _ (variables : List Variable) (deck : List Stated) (files : Files) (slot : ℕ) (run : Run) (ds : List Desk) (stop : StopAt variables deck (fresh variables files) slot run ds) where
  abbrev before : Desked
  before = stop.before

  abbrev what : Statement
  what = stop.statement.0.what

  it : CutTied variables deck stop.index (start variables files) stop.statement stop.before
  it = cut_of_deck variables deck files stop.index stop.statement stop.before stop.reached

  abbrev names : Names
  names = names_of before.core.units

  sound : Sound it.state
  sound = cut_sound variables deck files stop.index stop.statement it.state it.cut_is

  every : Places what names (unit_named before.core.units) (does variables stop.statement before)
  every = told_places variables stop.statement (waited_at stop.statement before) before.core (numbers_apart before.desks before.core.units it.state.units it.tied.same.units it.tied.numbers)

  -- in the words of the state
  unit_is : (n : ℕ) (name : List ℕ) → WaitsBy (unit_named before.core.units) what n → names n ≡ Some name → AwaitedUnit it.state what
  unit_is n name w e = record {
    number = n;
    waits = waits_same (unit_named before.core.units) (unit_of_file it.state.units) what n (λ x. named_same before.desks before.core.units it.state.units x it.tied.same.units) w;
    name = name;
    named = sym (names_same before.desks before.core.units it.state.units it.tied.same.units n) ∙ e;
  }

  own_at : IsPlace what names (unit_named before.core.units) run.core.units slot → ((u : AwaitedUnit it.state what) × (has_file run.core.units slot u.name ≡ true)) ⊎ IsFree run.core.units slot
  unfolding unit_is
  own_at (inl (n, name, w, e, there)) = inl (unit_is n name w e, there)
  own_at (inr free) = inr free

  told_at : Waits stop.statement stop.before slot run ds → (u : AwaitedUnit it.state what) × (has_file run.core.units slot u.name ≡ true)
  unfolding unit_is
  told_at w =
      let e : Pending = w.transfer in
      let seat = seat_of before.core.units before.core.book w.at e (seated_before variables deck files stop.index stop.statement before stop.reached) w.pending in
      let rise : AllPairs rising (entries before) = subst (AllPairs rising) (sym it.tied.same.book) sound.rise in
      let waits : WaitsBy (unit_named before.core.units) what (entry_of before.desks e).unit =
      waits_by (unit_named before.core.units) before w.at (entry_of before.desks e) rise (pending_entry before.desks before.core.book w.at e w.pending) what
      (ap (tells_id (waited_at stop.statement before)) (id_kept before.desks e) ∙ w.tells) in (
        unit_is e.unit seat.0.name (subst (WaitsBy (unit_named before.core.units) what) (unit_kept before.desks e) waits) (ap (option_map (λ (x : Connected). x.name)) seat.1),
        ap (λ (us : List Connected). has_file us slot seat.0.name) (ap (λ (c : Core). c.units) w.core)
            ∙ ap (λ k. has_file before.core.units k seat.0.name) (sym (seat.2 ∙ w.place)) ∙ file_there before.core.units e.unit seat.0 seat.1,
      )

  stop_place : ((u : AwaitedUnit it.state what) × (has_file run.core.units slot u.name ≡ true)) ⊎ IsFree run.core.units slot
  stop_place = elim stop.learnt [
    | inl w ↦ inl (told_at w)
    | inr a ↦ own_at (subst (λ d. Places what names (unit_named before.core.units) d) a.awaited (places_at what names (unit_named before.core.units) a.jobs before.desks (does variables stop.statement before) every)).0
  ]

  stops_at : StopsAt variables deck files stop.index stop.statement slot run
  stops_at = record { state = it.state; cut_is = it.cut_is; place = stop_place }

pub stops_are_awaited : StopsAreAwaited
stops_are_awaited variables deck files slot run ds stop = stops_at variables deck files slot run ds stop
