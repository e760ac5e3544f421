-- What a statement does to pending transfers.
use Rattle.std.proofs.Common.{◌≡◌, ℕ, ◌+◌, Bool, true, false, not, List, [], ◌∷◌, ◌++◌, map, Option, Some, None, refl, sym, ap, ◌∙◌, subst, ◌&&◌}
use Rattle.std.specs.Prelude.{if◌then◌else◌, filter}
use Rattle.std.specs.List.{All, AllPairs}
use Rattle.std.proofs.lemmas.Bool.{and_left}
use Rattle.std.proofs.lemmas.List.Elements.{All-head, All-tail, All-map}
use Rattle.fj_value.specs.declared.condition.Condition.{Condition}
use Rattle.fj_value.specs.declared.condition.Condition.TheVariants.{Fine, EndOfFile, EndOfRecord, Error}
use Rattle.fj_value.specs.declared.condition.Rule.{Rule}
use Rattle.fj_statement.specs.declared.unit.UnitRef.{UnitRef}
use Rattle.fj_statement.specs.declared.unit.UnitRef.TheVariants as unit
use Rattle.fj_modes.specs.Modes.{usual_edit}
use Rattle.fj_control.specs.Steps.{Given}
use Rattle.fj_transfer.specs.Change.{changed}
use Rattle.fj_transfer.specs.Printing.{printed}
use Rattle.fj_transfer.specs.Transfer.{Done, transfer_by, is_formatted, ends_record}
use Rattle.fj_statement.specs.declared.deck.Variable.{Variable}
use Rattle.fj_statement.specs.declared.deck.Lined.{Lined}
use Rattle.fj_statement.specs.declared.statement.Transfer.{Transfer}
use Rattle.fj_statement.specs.declared.statement.Statement.{Statement}
use Rattle.fj_statement.specs.declared.statement.Statement.TheVariants as statement
use Rattle.fj_book.specs.Prohibitions.{prohibited}
use Rattle.fj_meaning.specs.Needs.{need, holders, number_of}
use Rattle.fj_meaning.specs.Telling.{waited, condition_of, is_asynchronous, tell_of}
use Rattle.fj_meaning.specs.Transfers.{moved_by, spec_of, layout_of, refusal, entry_of, unless_halted, carried_out, made_pending, unless_refused, on_unit, star_limit, printed_to, transfer_at}
use Rattle.fj_meaning.specs.State.{State, Files, Unit, Entry, found, is_fine, start}
use Rattle.fj_meaning.specs.Statement.{Stated, Ran, Ending, begun_in, step, own, acts, goes_on, executed, unit_at, stated, control_by, prohibition}
use Rattle.fj_meaning.specs.Reaching.{is_later, fits, becomes_pending}
use Rattle.fj_meaning.specs.PendingLaws.{Turns}
use Rattle.fj_meaning.proofs.Lists.{no, pairs_none}
use Rattle.fj_meaning.proofs.Tells.{rising, chosen, left}
use Rattle.fj_meaning.proofs.Walk.{Ways, acts_walk}
use Rattle.fj_meaning.proofs.Begun.{with_later}
use Rattle.fj_meaning.proofs.Reached.{told, told_book, later_waits, later_told}

-- the pending transfers are the same, and so are the next identifier and what was told
pub record Same (s t : State) : Type 0 where
  pub book : t.book ≡ s.book
  pub next : t.next ≡ s.next
  pub tells : t.tells ≡ s.tells

same_ways : (variables : List Variable) (what : Statement) (s : State) → is_later what ≡ false → Ways variables what s (Same s)
same_ways variables what s h = record {
  same = record { book = refl; next = refl; tells = refl };
  defines = λ t v k. record { book = k.book; next = k.next; tells = k.tells };
  prints = λ o. record { book = refl; next = refl; tells = refl };
  moves = λ v n u c at name. record { book = refl; next = refl; tells = refl };
  leaves = λ n u keep e at. record { book = refl; next = refl; tells = refl };
  opens = λ t n c k book e missing room. record { book = k.book; next = k.next; tells = k.tells };
  pends = λ t n u done is later at name. no (sym h ∙ ap is_later is ∙ later);
  closes = λ e. record { book = refl; next = refl; tells = refl };
}

-- what is left of the pending transfers where none begins, and where one begins
abbrev Out : State → Bool → State → Type 0
Out s b t = (b ≡ false → Same s t) × (b ≡ true → (e : Entry) × (e.id ≡ s.next) × (t.book ≡ s.book ++ e ∷ []) × (t.next ≡ s.next + 1) × (t.tells ≡ s.tells))

module _ (control : ℕ → List Given) (variables : List Variable) (s : State) (t : Transfer) (later : is_asynchronous t ≡ true) where
  unchanged : Out s false s
  unchanged = (λ _. record { book = refl; next = refl; tells = refl }, λ k. no k)

  begun : (u : Unit) (done : Done) → Out s true (made_pending variables s t (moved_by variables s t) u done).0
  begun u done = (λ k. no (sym k), λ _. (entry_of variables s t u (unless_halted u.halt u.connection t.input (moved_by variables s t).cells done), refl, refl, refl, refl))

  fitting_out : (u : Unit) (condition : Condition) → Out s (is_fine condition) (unless_refused control variables s t (moved_by variables s t) u condition).0
  fitting_out u Fine = subst (λ b. Out s true (if b then made_pending variables s t (moved_by variables s t) u done else carried_out variables s t (moved_by variables s t) u done).0) (sym later) (begun u done)
    where
      done : Done
      done = transfer_by control u.connection (spec_of variables s t (moved_by variables s t).cells) (moved_by variables s t)
  fitting_out u EndOfFile = (λ _. record { book = refl; next = refl; tells = refl }, λ k. no k)
  fitting_out u EndOfRecord = (λ _. record { book = refl; next = refl; tells = refl }, λ k. no k)
  fitting_out u (Error n) = (λ _. record { book = refl; next = refl; tells = refl }, λ k. no k)

  unit_out : (o : Option Unit) → Out s (fits variables s t o) (on_unit control variables s t (moved_by variables s t) o).0
  unit_out None = (λ _. record { book = refl; next = refl; tells = refl }, λ k. no k)
  unit_out (Some u) = fitting_out u (refusal u.connection.modes t (layout_of variables (moved_by variables s t).cells t.control))

  ref_out : (ref : UnitRef) → Out s (fits variables s t (unit_at s (number_of ref))) (transfer_at control variables s t (moved_by variables s t) ref).0
  ref_out unit.Star = star (is_asynchronous t) later
    where
      star : (b : Bool) → b ≡ true → Out s false (record s { output = (if b then (s.output, Error 2) else (if not (is_formatted (spec_of variables s t (moved_by variables s t).cells).layout) then (s.output, Error 16) else printed_to (ends_record (spec_of variables s t (moved_by variables s t).cells)) s.output (printed star_limit s.output.begun (spec_of variables s t (moved_by variables s t).cells) control (changed (spec_of variables s t (moved_by variables s t).cells).edit usual_edit) (moved_by variables s t)))).0 })
      star true k = unchanged
      star false k = no k
  ref_out (unit.Number n) = unit_out (found s.units n)
  ref_out (unit.Held place n) = unit_out (found s.units n)
  ref_out (unit.New place n) = unit_out (found s.units n)
  ref_out (unit.Internal file) = (λ _. record { book = refl; next = refl; tells = refl }, λ k. no k)

  later_out : Out s (becomes_pending variables s (statement.Transfer t)) (own control variables s (statement.Transfer t)).0
  later_out = subst (λ b. Out s (b && fits variables s t (unit_at s (number_of t.unit))) (own control variables s (statement.Transfer t)).0) (sym later) (ref_out t.unit)

-- ---- one statement

abbrev pub Stays : List Variable → Stated → State → State → Type 0
Stays variables st s after =
    (after.tells ≡ s.tells ++ map (tell_of st.0.line) (waited s st.0.what))
    × (becomes_pending variables s st.0.what ≡ false → (after.book ≡ left (chosen s st.0.what).q s.book) × (after.next ≡ s.next))
    × (becomes_pending variables s st.0.what ≡ true → (e : Entry) × (e.id ≡ s.next) × (after.book ≡ s.book ++ e ∷ []) × (after.next ≡ s.next + 1) × (waited s st.0.what ≡ []))

not_pending : (variables : List Variable) (s : State) (what : Statement) → is_later what ≡ false → becomes_pending variables s what ≡ false
not_pending variables s (statement.Assign to from) h = refl
not_pending variables s (statement.OpenUnit u spec iostat) h = refl
not_pending variables s (statement.CloseUnit u keep iostat) h = refl
not_pending variables s (statement.WaitFor u id iostat) h = refl
not_pending variables s (statement.Move how u iostat) h = refl
not_pending variables s (statement.Inquire subject asked id iostat _) h = refl
not_pending variables s (statement.Transfer t) h = and_left (is_asynchronous t) (fits variables s t (unit_at s (number_of t.unit))) h
not_pending variables s statement.End h = refl

module _ (control : ℕ → List Given) (variables : List Variable) (line : ℕ) (s : State) (rises : AllPairs rising s.book) where
  now_stays : (what : Statement) → is_later what ≡ false
      → Stays variables (record { line = line; what = what }, control) s (acts control variables (told variables line what s) what (condition_of (waited s what))).0
  now_stays what h =
      let same : Same (told variables line what s) (acts control variables (told variables line what s) what (condition_of (waited s what))).0
      = acts_walk control variables what (told variables line what s) (Same (told variables line what s)) (condition_of (waited s what)) (same_ways variables what (told variables line what s) h) in
      (same.tells, λ _. (same.book ∙ told_book variables line what s rises, same.next), λ k. no (sym (not_pending variables s what h) ∙ k))

  later_stays : (t : Transfer) → is_asynchronous t ≡ true
      → Stays variables (record { line = line; what = statement.Transfer t }, control) s
      (acts control variables (told variables line (statement.Transfer t) s) (statement.Transfer t) (condition_of (waited s (statement.Transfer t)))).0
  later_stays t h = subst (λ (x : State). Stays variables (record { line = line; what = statement.Transfer t }, control) s x) (sym acted) found_out
    where
      none : waited s (statement.Transfer t) ≡ []
      none = later_waits s t h

      acted : (acts control variables (told variables line (statement.Transfer t) s) (statement.Transfer t) (condition_of (waited s (statement.Transfer t)))).0 ≡ (own control variables s (statement.Transfer t)).0
      acted =
          ap (λ es. (acts control variables (told variables line (statement.Transfer t) s) (statement.Transfer t) (condition_of es)).0) none
          ∙ ap (λ x. (own control variables x (statement.Transfer t)).0) (later_told variables line t s h)

      kept : s.book ≡ left (chosen s (statement.Transfer t)).q s.book
      kept = sym (ap (λ (x : State). x.book) (later_told variables line t s h)) ∙ told_book variables line (statement.Transfer t) s rises

      no_more : s.tells ≡ s.tells ++ map (tell_of line) (waited s (statement.Transfer t))
      no_more = sym (ap (λ (x : State). x.tells) (later_told variables line t s h))

      tells_same : (b : Bool) → Out s b (own control variables s (statement.Transfer t)).0 → (own control variables s (statement.Transfer t)).0.tells ≡ s.tells
      tells_same true out = (out.1 refl).4
      tells_same false out = (out.0 refl).tells

      out : Out s (becomes_pending variables s (statement.Transfer t)) (own control variables s (statement.Transfer t)).0
      out = later_out control variables s t h

      found_out : Stays variables (record { line = line; what = statement.Transfer t }, control) s (own control variables s (statement.Transfer t)).0
      found_out = (
        tells_same (becomes_pending variables s (statement.Transfer t)) out ∙ no_more,
        λ k. ((out.0 k).book ∙ kept, (out.0 k).next),
        λ k. ((out.1 k).0, (out.1 k).1, (out.1 k).2, (out.1 k).3, none),
      )

  acts_stays : (what : Statement) (b : Bool) → is_later what ≡ b
      → Stays variables (record { line = line; what = what }, control) s (acts control variables (told variables line what s) what (condition_of (waited s what))).0
  acts_stays what false h = now_stays what h
  acts_stays (statement.Assign to from) true h = no h
  acts_stays (statement.OpenUnit u spec iostat) true h = no h
  acts_stays (statement.CloseUnit u keep iostat) true h = no h
  acts_stays (statement.WaitFor u id iostat) true h = no h
  acts_stays (statement.Move how u iostat) true h = no h
  acts_stays (statement.Inquire subject asked id iostat _) true h = no h
  acts_stays (statement.Transfer t) true h = later_stays t h
  acts_stays statement.End true h = no h

pub stays : (variables : List Variable) (st : Stated) (s : State) → AllPairs rising s.book → prohibited s.vars (holders s.book) (need variables s st.0.what) ≡ None → Stays variables st s (step variables st s).0
unfolding step
stays variables st s rises allowed = subst (λ o. Stays variables st s (goes_on st.1 variables st.0.line st.0.what s o).0) (sym allowed) (acts_stays st.1 variables st.0.line s rises st.0.what (is_later st.0.what) refl)

pub turns : (variables : List Variable) (st : Stated) (s : State) → AllPairs rising s.book → prohibited s.vars (holders s.book) (need variables s st.0.what) ≡ None → Turns variables st s (step variables st s).0
turns variables st s rises allowed =
    let all = stays variables st s rises allowed in record { told = (chosen s st.0.what).q; are_waited = (chosen s st.0.what).are; tells = all.0; stays = all.1; begins = all.2 }

pub prohibited_is : (variables : List Variable) (st : Stated) (s : State) (rule : Rule) → prohibited s.vars (holders s.book) (need variables s st.0.what) ≡ Some rule → step variables st s ≡ (s, Some (prohibition st.0.line rule))
unfolding step
prohibited_is variables st s rule e = ap (goes_on st.1 variables st.0.line st.0.what s) e

pub stopped : (variables : List Variable) (st : Stated) (s : State) (rule : Rule) → prohibited s.vars (holders s.book) (need variables s st.0.what) ≡ Some rule → (step variables st s).0 ≡ s
stopped variables st s rule e = ap (λ (x : State × Option Ending). x.0) (prohibited_is variables st s rule e)

-- ---- a deck without ASYNCHRONOUS='YES'

abbrev Quiet : State → Type 0
Quiet s = (s.book ≡ []) × (s.tells ≡ [])

quiet_step : (variables : List Variable) (st : Stated) (s : State) → is_later st.0.what ≡ false → Quiet s → Quiet (step variables st s).0
quiet_step variables st s h q = by (prohibited s.vars (holders s.book) (need variables s st.0.what)) refl
  where
    by : (o : Option Rule) → prohibited s.vars (holders s.book) (need variables s st.0.what) ≡ o → Quiet (step variables st s).0
    by (Some rule) e = subst Quiet (sym (stopped variables st s rule e)) q
    by None e =
        let all = stays variables st s (subst (AllPairs rising) (sym q.0) (pairs_none rising)) e in
        let none : waited s st.0.what ≡ [] = (chosen s st.0.what).are ∙ ap (filter (chosen s st.0.what).q) q.0 in
        ((all.1 (not_pending variables s st.0.what h)).0 ∙ ap (left (chosen s st.0.what).q) q.0, all.0 ∙ ap (λ l. l ++ map (tell_of st.0.line) (waited s st.0.what)) q.1 ∙ ap (λ es. map (tell_of st.0.line) es) none)

quiet_executed : (variables : List Variable) (sts : List Stated) (s : State) → All (λ (st : Stated). is_later st.0.what ≡ false) sts → Quiet s → Quiet (executed variables sts s).state
quiet_executed variables [] s h q = q
quiet_executed variables (st ∷ more) s h q =
    by (quiet_step variables (begun_in s st) s (with_later _ st.0.what ∙ All-head (λ (x : Stated). is_later x.0.what ≡ false) st more h) q)
    (quiet_executed variables more (step variables (begun_in s st) s).0 (All-tail (λ (x : Stated). is_later x.0.what ≡ false) st more h)) (step variables (begun_in s st) s).1
  where
    after : State
    after = (step variables (begun_in s st) s).0

    by : Quiet after → (Quiet after → Quiet (executed variables more after).state) → (o : Option Ending)
        → Quiet (elim o as (λ _. Ran) [ None ↦ executed variables more after | Some e ↦ record { state = after; ending = Some e } ]).state
    by here rest None = rest here
    by here rest (Some e) = here

pub quiet : (variables : List Variable) (statements : List Lined) (files : Files) → All (λ (lined : Lined). is_later lined.what ≡ false) statements
    → (executed variables (stated statements) (start variables files)).state.tells ≡ []
quiet variables statements files h =
    (quiet_executed variables (stated statements) (start variables files)
    (All-map (λ (st : Stated). is_later st.0.what ≡ false) (λ (lined : Lined). (lined, control_by lined.what)) statements h) (refl, refl)).1
