-- A transfer that becomes pending and is awaited, beside the same one carried out at once.
use Rattle.std.proofs.Common.{◌≡◌, ◌≢◌, ℕ, ◌+◌, ◌<◌, Bool, true, false, not, List, [], ◌∷◌, ◌++◌, map, get_or, Option, Some, None, refl, sym, ap, ◌∙◌, subst, ◌&&◌, ◌||◌, arith}
use Rattle.std.specs.Prelude.{◌==◌, if◌then◌else◌, filter, is_some}
use Rattle.std.specs.List.{All}
use Rattle.std.proofs.lemmas.Bool.{eq-eqb, eqb-true, ne_eqb}
use Rattle.std.proofs.lemmas.List.Elements.{All-head, All-tail, All-weaker}
use Rattle.fj_value.specs.Condition.{code_of}
use Rattle.fj_value.specs.declared.condition.Condition.{Condition}
use Rattle.fj_value.specs.declared.condition.Condition.TheVariants.{Fine, EndOfFile, EndOfRecord, Error}
use Rattle.fj_control.specs.Steps.{Given}
use Rattle.fj_connect.specs.Connection.{Connection}
use Rattle.fj_moved.specs.declared.moved.Moved.{Moved}
use Rattle.fj_transfer.specs.Transfer.{Done, transfer_by, unfitness}
use Rattle.fj_statement.specs.Units.{number_of}
use Rattle.fj_statement.specs.declared.deck.Variable.{Variable}
use Rattle.fj_statement.specs.declared.statement.Transfer.{Transfer}
use Rattle.fj_statement.specs.declared.statement.Statement.{Statement}
use Rattle.fj_statement.specs.declared.statement.Statement.TheVariants as statement
use Rattle.fj_book.specs.Prohibitions.{prohibited}
use Rattle.fj_store.specs.Variables.{Variables}
use Rattle.fj_meaning.specs.State.{State, Files, Unit, Entry, Tell, found, with_unit, is_fine, halts}
use Rattle.fj_meaning.specs.Needs.{need, holders}
use Rattle.fj_meaning.specs.Items.{given_back}
use Rattle.fj_meaning.specs.Telling.{of_unit, graver, condition_of, waited, is_told, ends_halt, tell_of, after_tells, with_size, with_input}
use Rattle.fj_meaning.specs.Transfers.{moved_by, spec_of, layout_of, refusal, unless_halted, halt_behind, unless_refused, on_unit, transfer_at, entry_of, without_values, with_number, with_values}
use Rattle.fj_meaning.specs.Statement.{Stated, Ending, step, own, acts, acts_after, goes_on, completed, uncaught, unit_at}
use Rattle.fj_meaning.specs.Reaching.{reached, fits, becomes_pending, cause_of}
use Rattle.fj_meaning.proofs.Lists.{no, filter_where, filter_false}
use Rattle.fj_meaning.proofs.Tells.{no_tells, no_cause}
use Rattle.fj_meaning.proofs.Walk.{found_is}
use Rattle.fj_meaning.proofs.Units.{found_all}
use Rattle.fj_meaning.proofs.AtOnce.{numbered_at}
use Rattle.fj_meaning.proofs.Sound.{Sound, caused}
use Rattle.fj_meaning.proofs.Reached.{sound_reached}
use Rattle.fj_meaning_laws.specs.LaterLaws.{at_once, begun, awaited, on_line, IsAllowed}

-- ---- the last one of a list

last_alone : (p : Entry → Bool) (es : List Entry) (e : Entry) → All (λ x. p x ≡ false) es → p e ≡ true → filter p (es ++ e ∷ []) ≡ e ∷ []
last_alone p [] e none is = ap (λ b. if b then e ∷ [] else []) is
last_alone p (x ∷ es) e none is =
    ap (λ b. if b then x ∷ filter p (es ++ e ∷ []) else filter p (es ++ e ∷ [])) (All-head (λ y. p y ≡ false) x es none)
    ∙ last_alone p es e (All-tail (λ y. p y ≡ false) x es none) is

all_before : (p : Entry → Bool) (es : List Entry) (e : Entry) → All (λ x. p x ≡ true) es → p e ≡ false → filter p (es ++ e ∷ []) ≡ es
all_before p [] e all is = ap (λ b. if b then e ∷ [] else []) is
all_before p (x ∷ es) e all is =
    ap (λ b. if b then x ∷ filter p (es ++ e ∷ []) else filter p (es ++ e ∷ [])) (All-head (λ y. p y ≡ true) x es all)
    ∙ ap (λ l. x ∷ l) (all_before p es e (All-tail (λ y. p y ≡ true) x es all) is)

-- ---- conditions

graver_fine : (c : Condition) → graver c Fine ≡ c
graver_fine Fine = refl
graver_fine EndOfFile = refl
graver_fine EndOfRecord = refl
graver_fine (Error n) = refl

is_fine_so : (c : Condition) → is_fine c ≡ true → c ≡ Fine
is_fine_so Fine e = refl
is_fine_so EndOfFile e = no e
is_fine_so EndOfRecord e = no e
is_fine_so (Error n) e = no e

-- of a unit that is open for asynchronous transfer, or is not
fit_then : (b : Bool) (c : Condition) → is_fine (if not b then Error 2 else c) ≡ true → c ≡ Fine
fit_then true c e = is_fine_so c e
fit_then false c e = no e

waits_then : (control : ℕ → List Given) (variables : List Variable) (s : State) (t : Transfer) (c : Condition) → acts control variables s (awaited t) c ≡ (s, c)
waits_then control variables s t Fine = refl
waits_then control variables s t EndOfFile = refl
waits_then control variables s t EndOfRecord = refl
waits_then control variables s t (Error n) = refl

-- ---- the halt of the unit begins and ends

module _ (u : Unit) (c : Connection) (k : Condition) (e : Entry) (number : e.unit ≡ u.number) (condition : e.condition ≡ k) (free : u.halt ≡ None) where
  abbrev halted : Unit
  halted = record u { connection = c; halt = halt_behind None k }

  abbrev moved_on : Unit
  moved_on = record u { connection = c }

  abbrev told : Unit → Unit
  told x = record x { halt = if ends_halt (e ∷ []) x then None else x.halt }

  ended : (h : Bool) → ◌≡◌ {A = Option Condition} (if (true && h) || false then None else (if h then Some k else None)) None
  ended true = refl
  ended false = refl

  same_unit : told halted ≡ moved_on
  same_unit =
      ap (λ b. record u { connection = c; halt = if (b && halts e.condition) || false then None else halt_behind None k }) (eq-eqb e.unit u.number number)
      ∙ ap (λ (x : Condition). record u { connection = c; halt = if (true && halts x) || false then None else halt_behind None k }) condition
      ∙ ap (λ h. record u { connection = c; halt = h }) (ended (halts k))
      ∙ ap (λ h. record u { connection = c; halt = h }) (sym free)

  other_unit : (x : Unit) → (x.number == u.number) ≡ false → told x ≡ x
  other_unit x h =
      ap (λ b. record x { halt = if (b && halts e.condition) || false then None else x.halt }) (ne_eqb e.unit x.number (λ same. no (sym (ap (λ b. b) h) ∙ eq-eqb x.number u.number (sym same ∙ number))))

  each_unit : (b : Bool) (x : Unit) → (x.number == u.number) ≡ b → told (if b then halted else x) ≡ (if b then moved_on else x)
  each_unit true x h = same_unit
  each_unit false x h = other_unit x h

  all_units : (us : List Unit) → map told (with_unit halted us) ≡ with_unit moved_on us
  all_units [] = refl
  all_units (x ∷ us) = ap (λ y. y ∷ map told (with_unit halted us)) (each_unit (x.number == u.number) x refl) ∙ ap (λ l. (if x.number == u.number then moved_on else x) ∷ l) (all_units us)

-- ---- the two ways

module _ (variables : List Variable) (control : ℕ → List Given) (line n : ℕ) (t : Transfer) (s : State) (u : Unit) where
  abbrev moved : Moved
  moved = moved_by variables s t

  abbrev done : Done
  done = transfer_by control u.connection (spec_of variables s t moved.cells) moved

  abbrev entry : Done → Entry
  entry d = entry_of variables s t u d

  abbrev without : Variables
  without = without_values variables t moved s.vars

  -- behind the first of the two statements
  abbrev pending : Option Condition → Done → State
  pending halt d = record s {
    vars = without;
    book = s.book ++ entry d ∷ [];
    units = with_unit (record u { connection = d.connection; halt = halt_behind halt d.condition }) s.units;
    next = s.next + 1;
  }

  -- behind the transfer at once, before IOSTAT=
  abbrev carried : Done → State
  carried d = record s { vars = with_values variables t moved d s.vars; units = with_unit (record u { connection = d.connection }) s.units }

  -- and behind the telling
  abbrev told_last : Done → State
  told_last d = record (carried d) { next = s.next + 1; tells = s.tells ++ tell_of line (entry d) ∷ [] }

  values_same : (d : Done) → with_input variables (entry d) without ≡ with_values variables t moved d s.vars
  values_same d = by t.input
    where
      by : (b : Bool) → (if b then with_size variables t.size d.count (given_back variables (if b then d.cells else []) without) else without)
          ≡ (if b then with_size variables t.size d.count (given_back variables d.cells without) else without)
      by true = refl
      by false = refl

  module _ (below : All (λ (e : Entry). e.id < s.next) s.book) (free : u.halt ≡ None) where
    book_same : (d : Done) → filter (λ e. not (is_told (entry d ∷ []) e)) (s.book ++ entry d ∷ []) ≡ s.book
    book_same d =
        all_before (λ e. not (is_told (entry d ∷ []) e)) s.book (entry d)
        (All-weaker (λ (e : Entry). e.id < s.next) (λ e. not (is_told (entry d ∷ []) e) ≡ true) (λ e lt. ap (λ b. not (b || false)) (ne_eqb s.next e.id (λ same. absurd (omega (arith, lt, same))))) s.book below)
        (ap (λ b. not (b || false)) (eq-eqb s.next s.next refl))

    told_is : (d : Done) → after_tells variables line (entry d ∷ []) (pending None d) ≡ told_last d
    told_is d =
        ap (λ v. record (told_last d) { vars = v; book = filter (λ e. not (is_told (entry d ∷ []) e)) (s.book ++ entry d ∷ []); units = map (told u d.connection d.condition (entry d) refl refl free) (with_unit (halted u d.connection d.condition (entry d) refl refl free) s.units) }) (values_same d)
        ∙ ap (λ b. record (told_last d) { book = b; units = map (told u d.connection d.condition (entry d) refl refl free) (with_unit (halted u d.connection d.condition (entry d) refl refl free) s.units) }) (book_same d)
        ∙ ap (λ us. record (told_last d) { units = us }) (all_units u d.connection d.condition (entry d) refl refl free s.units)

    -- WAIT
    waits : (d : Done) → (number_of t.unit ≡ Some n) → u.number ≡ n → All (λ (e : Entry). e.unit ≢ n) s.book → waited (pending None d) (awaited t) ≡ entry d ∷ []
    waits d is number none =
        ap (of_unit (s.book ++ entry d ∷ [])) is
        ∙ last_alone (λ e. e.unit == n) s.book (entry d) (All-weaker (λ (e : Entry). e.unit ≢ n) (λ e. (e.unit == n) ≡ false) (λ e ne. ne_eqb e.unit n ne) s.book none) (eq-eqb u.number n number)

    wait_step : (d : Done) → number_of t.unit ≡ Some n → u.number ≡ n → All (λ (e : Entry). e.unit ≢ n) s.book
        → acts_after control variables line (awaited t) (pending None d) (waited (pending None d) (awaited t))
        ≡ (record (told_last d) { vars = with_number variables t.iostat (code_of d.condition) (told_last d).vars }, uncaught line t.iostat d.condition)
    wait_step d is number none =
        ap (acts_after control variables line (awaited t) (pending None d)) (waits d is number none)
        ∙ ap (λ x. completed variables line (awaited t) (acts control variables x (awaited t) (graver d.condition Fine))) (told_is d)
        ∙ ap (λ c. completed variables line (awaited t) (acts control variables (told_last d) (awaited t) c)) (graver_fine d.condition)
        ∙ ap (completed variables line (awaited t)) (waits_then control variables (told_last d) t d.condition)

-- a unit that is connected and that the transfer fits
fitting : (variables : List Variable) (s : State) (t : Transfer) (n : ℕ) (o : Option Unit) → number_of t.unit ≡ Some n → found s.units n ≡ o → becomes_pending variables s (begun t) ≡ true
    → (u : Unit) × (o ≡ Some u) × (unfitness u.connection.modes (layout_of variables (moved_by variables s t).cells t.control) t.input (is_some t.advance) (is_some t.rec) (is_some t.pos) ≡ Fine)
    × (u.connection.modes.asynchronous ≡ true)
fitting variables s t n o is at pends = by o (ap (λ x. fits variables s later x) (sym at) ∙ ap (λ x. fits variables s later (unit_at s x)) (sym is) ∙ pends)
  where
    later : Transfer
    later = record t { asynchronous = Some true; id = None; iostat = None }

    open_for : (b : Bool) (c : Condition) → is_fine (if not b then Error 2 else c) ≡ true → b ≡ true
    open_for true c e = refl
    open_for false c e = no e

    by : (x : Option Unit) → fits variables s later x ≡ true
        → (u : Unit) × (x ≡ Some u) × (unfitness u.connection.modes (layout_of variables (moved_by variables s t).cells t.control) t.input (is_some t.advance) (is_some t.rec) (is_some t.pos) ≡ Fine)
        × (u.connection.modes.asynchronous ≡ true)
    by None e = no e
    by (Some u) e = (u, refl, fit_then u.connection.modes.asynchronous _ e, open_for u.connection.modes.asynchronous _ e)

none_waited : (n : ℕ) (es : List Entry) → All (λ (e : Entry). e.unit ≢ n) es → filter (λ (e : Entry). e.unit == n) es ≡ []
none_waited n es none =
    filter_where (λ (e : Entry). e.unit == n) (λ e. false) es (All-weaker (λ (e : Entry). e.unit ≢ n) (λ e. (e.unit == n) ≡ false) (λ e ne. ne_eqb e.unit n ne) es none) ∙ filter_false es

module _ (variables : List Variable) (control : ℕ → List Given) (line n : ℕ) (t : Transfer) (s : State) (u : Unit)
    (is : number_of t.unit ≡ Some n) (at : found s.units n ≡ Some u)
    (fit : unfitness u.connection.modes (layout_of variables (moved_by variables s t).cells t.control) t.input (is_some t.advance) (is_some t.rec) (is_some t.pos) ≡ Fine) where
  abbrev what : Done
  what = done variables control line n t s u

  abbrev carried_on : State
  carried_on = carried variables control line n t s u what

  once_own : own control variables s (at_once t) ≡ (carried_on, what.condition)
  once_own =
      numbered_at control variables s (record t { asynchronous = None; id = None }) (moved_by variables s t) t.unit n is
      ∙ ap (on_unit control variables s (record t { asynchronous = None; id = None }) (moved_by variables s t)) at
      ∙ ap (unless_refused control variables s (record t { asynchronous = None; id = None }) (moved_by variables s t) u) fit

  abbrev IsOnce : State × Option Ending
  IsOnce = (record carried_on { vars = with_number variables t.iostat (code_of what.condition) carried_on.vars }, uncaught line t.iostat what.condition)

  once_step : All (λ (e : Entry). e.unit ≢ n) s.book → IsAllowed variables s (at_once t) → step variables (on_line line control (at_once t)) s ≡ IsOnce
  unfolding step
  once_step none allowed =
      ap (goes_on control variables line (at_once t) s) allowed
      ∙ ap (acts_after control variables line (at_once t) s) (ap (of_unit s.book) is ∙ none_waited n s.book none)
      ∙ ap (λ x. completed variables line (at_once t) (own control variables x (at_once t))) (no_tells variables line s)
      ∙ ap (completed variables line (at_once t)) once_own

  module _ (open_for : u.connection.modes.asynchronous ≡ true) (free : u.halt ≡ None) where
    abbrev begun_so : State
    begun_so = pending variables control line n t s u None what

    later_own : own control variables s (begun t) ≡ (begun_so, Fine)
    later_own =
        numbered_at control variables s (record t { asynchronous = Some true; id = None; iostat = None }) (moved_by variables s t) t.unit n is
        ∙ ap (on_unit control variables s (record t { asynchronous = Some true; id = None; iostat = None }) (moved_by variables s t)) at
        ∙ ap (λ b. unless_refused control variables s (record t { asynchronous = Some true; id = None; iostat = None }) (moved_by variables s t) u (if not b then Error 2 else unfitness u.connection.modes (layout_of variables (moved_by variables s t).cells t.control) t.input (is_some t.advance) (is_some t.rec) (is_some t.pos))) open_for
        ∙ ap (unless_refused control variables s (record t { asynchronous = Some true; id = None; iostat = None }) (moved_by variables s t) u) fit
        ∙ ap (λ h. (pending variables control line n t s u h (unless_halted h u.connection t.input (moved_by variables s t).cells what), Fine)) free

    later_step : IsAllowed variables s (begun t) → step variables (on_line line control (begun t)) s ≡ (begun_so, None)
    unfolding step
    later_step allowed =
        ap (goes_on control variables line (begun t) s) allowed
        ∙ ap (λ x. completed variables line (begun t) (own control variables x (begun t))) (no_tells variables line s)
        ∙ ap (completed variables line (begun t)) later_own

    wait_after : All (λ (e : Entry). e.id < s.next) s.book → All (λ (e : Entry). e.unit ≢ n) s.book → IsAllowed variables begun_so (awaited t)
        → step variables (on_line line control (awaited t)) begun_so ≡ (record IsOnce.0 { next = s.next + 1; tells = s.tells ++ tell_of line (entry variables control line n t s u what) ∷ [] }, IsOnce.1)
    unfolding step
    wait_after below none allowed =
        ap (goes_on control variables line (awaited t) begun_so) allowed
        ∙ wait_step variables control line n t s u below free what is (found_is s.units n u at) none

    both : All (λ (e : Entry). e.id < s.next) s.book → All (λ (e : Entry). e.unit ≢ n) s.book → IsAllowed variables s (at_once t) → (allowed : IsAllowed variables s (begun t))
        → IsAllowed variables (step variables (on_line line control (begun t)) s).0 (awaited t)
        → let once = step variables (on_line line control (at_once t)) s in
        step variables (on_line line control (awaited t)) (step variables (on_line line control (begun t)) s).0
        ≡ (record once.0 { next = s.next + 1; tells = s.tells ++ record { line = line; unit = n; id = s.next; condition = (own control variables s (at_once t)).1 } ∷ [] }, once.1)
    both below none first allowed last =
        ap (λ (x : State × Option Ending). step variables (on_line line control (awaited t)) x.0) (later_step allowed)
        ∙ wait_after below none (subst (λ (x : State × Option Ending). IsAllowed variables x.0 (awaited t)) (later_step allowed) last)
        ∙ ap (λ (k : Tell). (record IsOnce.0 { next = s.next + 1; tells = s.tells ++ k ∷ [] }, IsOnce.1)) same_tell
        ∙ ap (λ (x : State × Option Ending). (record x.0 { next = s.next + 1; tells = s.tells ++ record { line = line; unit = n; id = s.next; condition = (own control variables s (at_once t)).1 } ∷ [] }, x.1)) (sym (once_step none first))
      where
        same_tell : tell_of line (entry variables control line n t s u what) ≡ record { line = line; unit = n; id = s.next; condition = (own control variables s (at_once t)).1 }
        same_tell =
            ap (λ m. record { line = line; unit = m; id = s.next; condition = what.condition }) (found_is s.units n u at)
            ∙ ap (λ c. record { line = line; unit = n; id = s.next; condition = c }) (sym (ap (λ (x : State × Condition). x.1) once_own))

free_then : (s : State) (n : ℕ) (u : Unit) → All (caused s.book) s.units → found s.units n ≡ Some u → All (λ (e : Entry). e.unit ≢ n) s.book → u.halt ≡ None
free_then s n u halts at none =
    found_all (caused s.book) s.units n u halts at
    ∙ ap (cause_of s.book) (found_is s.units n u at)
    ∙ no_cause n s.book (All-weaker (λ (e : Entry). e.unit ≢ n) (λ e. (e.unit == n) ≡ false) (λ e ne. ne_eqb e.unit n ne) s.book none)

pub later_is : (variables : List Variable) (sts : List Stated) (files : Files) (control : ℕ → List Given) (line n : ℕ) (t : Transfer) →
    let s = reached variables sts files in
    let once = step variables (on_line line control (at_once t)) s in
    let first = step variables (on_line line control (begun t)) s in
    number_of t.unit ≡ Some n → All (λ (e : Entry). e.unit ≢ n) s.book → becomes_pending variables s (begun t) ≡ true →
    IsAllowed variables s (at_once t) → IsAllowed variables s (begun t) → IsAllowed variables first.0 (awaited t) →
    (first.1 ≡ None)
    × (step variables (on_line line control (awaited t)) first.0
    ≡ (record once.0 { next = s.next + 1; tells = s.tells ++ record { line = line; unit = n; id = s.next; condition = (own control variables s (at_once t)).1 } ∷ [] }, once.1))
later_is variables sts files control line n t is none pends first allowed last =
    let s = reached variables sts files in
    let sound : Sound s = sound_reached variables sts files in
    let u = fitting variables s t n (found s.units n) is refl pends in
    let free = free_then s n u.0 sound.halts u.1 none in (
      ap (λ (x : State × Option Ending). x.1) (later_step variables control line n t s u.0 is u.1 u.2 u.3 free allowed),
      both variables control line n t s u.0 is u.1 u.2 u.3 free sound.below none first allowed last,
    )
