-- What a statement adds to the output on unit `*`: it prints behind what is there, and a record that is not open has no character.
use Rattle.std.proofs.Common.{◌≡◌, ℕ, ◌+◌, ◌-◌, ◌<◌, ◌≤◌, Bool, true, false, not, ◌||◌, List, [], ◌∷◌, ◌++◌, length, take, drop, length-append, take-append-drop, Option, Some, None, Result, Ok, Err, refl, sym, ap, ◌∙◌, subst, append_assoc, append-nil, arith}
use Rattle.std.proofs.lemmas.List.{take-take, take-append-le}
use Rattle.std.specs.Prelude.{◌==◌, if◌then◌else◌, nat_lt}
use Rattle.std.proofs.lemmas.Bool.Decides.{nat_tests}
use Rattle.fj_value.specs.declared.condition.Condition.{Condition}
use Rattle.fj_value.specs.declared.condition.Condition.TheVariants.{Fine, EndOfFile, EndOfRecord, Error}
use Rattle.fj_value.specs.declared.edit.EditModes.{EditModes}
use Rattle.fj_modes.specs.Modes.{settled, usual_edit}
use Rattle.fj_modes.specs.declared.modes.Modes.{Modes}
use Rattle.fj_modes.specs.declared.specifiers.OpenSpec.{OpenSpec}
use Rattle.fj_statement.specs.Units.{is_outside}
use Rattle.fj_statement.specs.declared.unit.UnitRef.{UnitRef}
use Rattle.fj_statement.specs.declared.unit.UnitRef.TheVariants as unit
use Rattle.fj_modes.specs.declared.motion.Motion.{Motion}
use Rattle.fj_modes.specs.declared.motion.Motion.TheVariants as motion
use Rattle.fj_line.specs.Line.{LineState, empty_line, written, moved}
use Rattle.fj_line.specs.Actions.{Action, put, move, end_record, meet, AtHand}
use Rattle.fj_line.specs.Records.{texts_from, texts_of}
use Rattle.fj_control.specs.Steps.{Given}
use Rattle.fj_connect.specs.Connection.{Connection}
use Rattle.fj_list.specs.ListText.{text_of}
use Rattle.fj_moved.specs.declared.moved.Moved.{Moved}
use Rattle.fj_transfer.specs.Change.{changed}
use Rattle.fj_transfer.specs.declared.transfer.TransferSpec.{TransferSpec}
use Rattle.fj_transfer.specs.declared.transfer.Layout.{Layout}
use Rattle.fj_transfer.specs.declared.transfer.Layout.TheVariants.{Unformatted, Explicit, Listed, Group}
use Rattle.fj_transfer.specs.Printing.{Printed, printed, printed_of, if_fine, record_actions, actions_by}
use Rattle.fj_transfer.specs.Transfer.{is_formatted, is_explicit, ends_record}
use Rattle.fj_statement.specs.declared.deck.Variable.{Variable}
use Rattle.fj_statement.specs.declared.deck.Lined.{Lined}
use Rattle.fj_statement.specs.declared.statement.Transfer.{Transfer}
use Rattle.fj_statement.specs.declared.statement.Statement.{Statement}
use Rattle.fj_statement.specs.declared.statement.Statement.TheVariants as statement
use Rattle.fj_book.specs.Prohibitions.{prohibited}
use Rattle.fj_value.specs.declared.condition.Rule.{Rule}
use Rattle.fj_run_items.specs.Handing.{whole_records}
use Rattle.fj_meaning.specs.Needs.{need, holders}
use Rattle.fj_meaning.specs.Telling.{is_asynchronous, after_tells, waited, condition_of}
use Rattle.fj_meaning.specs.Transfers.{moved_by, spec_of, transferred, unless_refused, on_unit, star_limit, with_printed, printed_to, on_star, transfer_at}
use Rattle.fj_meaning.specs.Connecting.{file_due, keeps_file, with_modes, is_taken, most_units, with_opened, connects, without_old, opens_with, opens, opens_unit, closes, closes_anyway, moves}
use Rattle.fj_meaning.specs.State.{State, Files, Unit, Output, found, disconnected, keeps, start}
use Rattle.fj_meaning.specs.Statement.{Stated, Ending, Ran, begun_in, own, instead, acts, goes_on, step, executed, stated, plain_execution}

-- where no record is open, none has characters
abbrev pub IsClosed : Output → Type 0
IsClosed o = o.is_open ≡ false → o.begun ≡ 0

-- more was printed, or nothing, and no fewer characters are in records that have ended
pub record Follows (o p : Output) : Type 0 where
  pub more : List ℕ
  pub text : p.text ≡ o.text ++ more
  pub ended : length o.text - o.begun ≤ length p.text - p.begun
  pub closed : IsClosed o → IsClosed p

pub follows_same : (o p : Output) → p ≡ o → Follows o p
follows_same o p e = record {
  more = [];
  text = ap (λ (x : Output). x.text) e ∙ sym (append-nil o.text);
  ended = subst (λ (x : Output). length o.text - o.begun ≤ length x.text - x.begun) (sym e) (omega arith);
  closed = λ c. subst (λ (x : Output). IsClosed x) (sym e) c;
}

pub follows_on : (o p q : Output) → Follows o p → Follows p q → Follows o q
follows_on o p q f g = record {
  more = f.more ++ g.more;
  text = g.text ∙ ap (λ x. x ++ g.more) f.text ∙ append_assoc o.text f.more g.more;
  ended = let first = f.ended in let second = g.ended in omega (arith, first, second);
  closed = λ c. g.closed (f.closed c);
}

-- the records that ended go on
pub records_follow : (o p : Output) → Follows o p → (part : List ℕ) × (whole_records p ≡ whole_records o ++ part)
records_follow o p f =
    let count = length o.text - o.begun in
    let whole = whole_records p in
    let front : take count whole ≡ whole_records o =
    take-take count (length p.text - p.begun) p.text f.ended ∙ ap (take count) f.text ∙ take-append-le count o.text f.more (omega arith) in
    (drop count whole, sym (take-append-drop count whole) ∙ ap (λ t. t ++ drop count whole) front)

-- ---- what ends with the end of a record

-- records were ended, and the one that is open has no character
pub record Ended (p : Printed) : Type 0 where
  pub some : 0 < length p.records
  pub none : p.«open» ≡ []

one_more : (text : List ℕ) (texts : List (List ℕ)) → Ended (printed_of texts) → Ended (printed_of (text ∷ texts))
one_more text [] e = let h = e.some in absurd (omega arith)
one_more text (last ∷ []) e = let h = e.some in absurd (omega arith)
one_more text (next ∷ other ∷ more) e = record { some = omega arith; none = e.none }

ended_texts : (line : LineState) (actions : List Action) → Ended (printed_of (texts_from line (actions ++ end_record ∷ [])))
ended_texts line [] = record { some = omega arith; none = refl }
ended_texts line (put chars ∷ more) = ended_texts (written chars line) more
ended_texts line (move how ∷ more) = ended_texts (moved how line) more
ended_texts line (end_record ∷ more) = one_more line.text _ (ended_texts empty_line more)
ended_texts line (meet condition ∷ more) = ended_texts line more

-- actions that end with the end of a record
abbrev EndsSo : List Action → Type 0
EndsSo actions = (front : List Action) × (actions ≡ front ++ end_record ∷ [])

last_record : (records : List (List ℕ)) (text : List ℕ) → EndsSo (record_actions (records ++ text ∷ []))
last_record [] text = (put text ∷ [], refl)
last_record (first ∷ more) text = let rest = last_record more text in (put first ∷ end_record ∷ rest.0, ap (λ x. put first ∷ end_record ∷ x) rest.1)

ends_so : (layout : Layout) (control : ℕ → List Given) (modes : EditModes) (advance : Bool) (m : Moved) → is_formatted layout ≡ true → (advance || not (is_explicit layout)) ≡ true
    → EndsSo (actions_by layout control modes advance m)
ends_so Unformatted control modes advance m f e = cc
ends_so (Explicit format) control modes true m f e = (_, refl)
ends_so (Explicit format) control modes false m f e = cc
ends_so Listed control modes advance m f e = (_, refl)
ends_so (Group name members) control modes advance m f e = last_record (_ ∷ _) _

-- ---- unit `*`

pub not_none : (n : ℕ) → 0 < n → (n == 0) ≡ false
not_none n h = grind (arith, nat_tests)

counted : (begun : ℕ) (p : Printed) → Ended p → ((if length p.records == 0 then begun else 0) + length p.«open») ≡ 0
counted begun p e = rw (not_none (length p.records) e.some, e.none) refl

closed_by : (output : Output) (p : Printed) (ends : Bool) → (ends ≡ true → Ended p) → IsClosed (with_printed ends output p)
closed_by output p true e = λ _. counted output.begun p (e refl)
closed_by output p false e = λ k. cc

more_ended : (text : List ℕ) (begun : ℕ) (records : List (List ℕ)) (open_now : List ℕ)
    → length text - begun ≤ length (text ++ text_of records ++ open_now) - ((if length records == 0 then begun else 0) + length open_now)
more_ended text begun [] open_now = omega (arith, length-append (text ++ []) open_now, length-append text [])
more_ended text begun (first ∷ more) open_now =
    rw (not_none (length (first ∷ more)) (omega arith))
    omega (arith, length-append (text ++ text_of (first ∷ more)) open_now, length-append text (text_of (first ∷ more)))

follows_printed : (output : Output) (ends : Bool) (actions : List Action) (hand : Result AtHand Condition) → (ends ≡ true → EndsSo actions) → Follows output (printed_to ends output (if_fine actions hand)).0
follows_printed output ends actions (Err condition) e = follows_same _ _ refl
follows_printed output ends actions (Ok hand) e =
    let p : Printed = printed_of (texts_of actions) in
    record {
      more = text_of p.records ++ p.«open»;
      text = append_assoc output.text (text_of p.records) p.«open»;
      ended = more_ended output.text output.begun p.records p.«open»;
      closed = λ c. closed_by output p ends (λ k. let so = e k in subst (λ (x : List Action). Ended (printed_of (texts_of x))) (sym so.1) (ended_texts empty_line so.0));
    }

module _ (control : ℕ → List Given) (variables : List Variable) (s : State) where
  star_follows : (t : Transfer) (m : Moved) (spec : TransferSpec) → Follows s.output (on_star control s t m spec).0.output
  star_follows t m spec = by (is_asynchronous t) (is_formatted spec.layout) refl
    where
      by : (later formatted : Bool) → is_formatted spec.layout ≡ formatted
          → Follows s.output (if later then (s.output, Error 2) else (if not formatted then (s.output, Error 16) else printed_to (ends_record spec) s.output (printed star_limit s.output.begun spec control (changed spec.edit usual_edit) m))).0
      by true formatted k = follows_same _ _ refl
      by false false k = follows_same _ _ refl
      by false true k = follows_printed s.output (ends_record spec) (actions_by spec.layout control (changed spec.edit usual_edit) spec.advance m) _
          (λ e. ends_so spec.layout control (changed spec.edit usual_edit) spec.advance m k e)

-- ---- other statements leave the output

either : (b : Bool) (x y : State × Condition) (o : Output) → x.0.output ≡ o → y.0.output ≡ o → (if b then x else y).0.output ≡ o
either true x y o e f = e
either false x y o e f = f

module _ (s : State) where
  opened_same : (n : ℕ) (result : Result Connection Condition) → (with_opened s n result).0.output ≡ s.output
  opened_same n (Err condition) = refl
  opened_same n (Ok c) = refl

  modes_same : (u : Unit) (result : Result Modes Condition) → (with_modes s u result).0.output ≡ s.output
  modes_same u (Err condition) = refl
  modes_same u (Ok modes) = refl

  connects_same : (n : ℕ) (spec : OpenSpec) (modes : Modes) → (connects s n spec modes).0.output ≡ s.output
  connects_same n spec modes = either (nat_lt (length s.units) most_units) _ _ _ (opened_same n _) refl

without_same : (s : State) (n : ℕ) (spec : OpenSpec) (modes : Modes) (old : Option Unit) → (connects (without_old s old) n spec modes).0.output ≡ s.output
without_same s n spec modes None = connects_same s n spec modes
without_same s n spec modes (Some u) = connects_same (disconnected s u (keeps u)) n spec modes

module _ (control : ℕ → List Given) (variables : List Variable) (s : State) where
  opens_with_same : (n : ℕ) (spec : OpenSpec) (old : Option Unit) (result : Result Modes Condition) → (opens_with s n spec old result).0.output ≡ s.output
  opens_with_same n spec old (Err condition) = refl
  opens_with_same n spec old (Ok modes) = either (is_taken s n (file_due spec n)) _ _ _ refl (without_same s n spec modes old)

  opens_same : (n : ℕ) (spec : OpenSpec) (old : Option Unit) → (opens s n spec old).0.output ≡ s.output
  opens_same n spec None = opens_with_same n spec None (settled spec)
  opens_same n spec (Some u) = either (keeps_file u spec spec.file) _ _ _ (modes_same s u _) (opens_with_same n spec (Some u) (settled spec))

  opens_unit_same : (ref : UnitRef) (n : ℕ) (spec : OpenSpec) (old : Option Unit) → (opens_unit s ref n spec old).0.output ≡ s.output
  opens_unit_same ref n spec None = either (is_outside ref) _ _ _ refl (opens_same n spec None)
  opens_unit_same ref n spec (Some u) = opens_same n spec (Some u)

  closes_same : (keep : Option Bool) (old : Option Unit) → (closes s keep old).0.output ≡ s.output
  closes_same keep None = refl
  closes_same keep (Some u) = either _ _ _ _ refl refl

  anyway_same : (keep : Option Bool) (old : Option Unit) → (closes_anyway s keep old).output ≡ s.output
  anyway_same keep None = refl
  anyway_same keep (Some u) = refl

  moves_same : (how : Motion) (old : Option Unit) → (moves s how old).0.output ≡ s.output
  moves_same how None = refl
  moves_same motion.Flush (Some u) = refl
  moves_same motion.Backspace (Some u) = refl
  moves_same motion.Rewind (Some u) = refl
  moves_same motion.Endfile (Some u) = refl

  transferred_same : (t : Transfer) (m : Moved) (u : Unit) → (transferred control variables s t m u).0.output ≡ s.output
  transferred_same t m u = either (is_asynchronous t) _ _ _ refl refl

  refused_same : (t : Transfer) (m : Moved) (u : Unit) (condition : Condition) → (unless_refused control variables s t m u condition).0.output ≡ s.output
  refused_same t m u Fine = transferred_same t m u
  refused_same t m u EndOfFile = refl
  refused_same t m u EndOfRecord = refl
  refused_same t m u (Error n) = refl

  unit_same : (t : Transfer) (m : Moved) (old : Option Unit) → (on_unit control variables s t m old).0.output ≡ s.output
  unit_same t m None = refl
  unit_same t m (Some u) = refused_same t m u _

  instead_same : (what : Statement) → (instead variables s what).output ≡ s.output
  instead_same (statement.Assign to from) = refl
  instead_same (statement.OpenUnit u spec iostat) = refl
  instead_same (statement.CloseUnit unit.Star keep iostat) = refl
  instead_same (statement.CloseUnit (unit.Number n) keep iostat) = anyway_same keep (found s.units n)
  instead_same (statement.CloseUnit (unit.Held place n) keep iostat) = anyway_same keep (found s.units n)
  instead_same (statement.CloseUnit (unit.New place n) keep iostat) = anyway_same keep (found s.units n)
  instead_same (statement.CloseUnit (unit.Internal file) keep iostat) = refl
  instead_same (statement.WaitFor u id iostat) = refl
  instead_same (statement.Move how u iostat) = refl
  instead_same (statement.Inquire subject asked id iostat _) = refl
  instead_same (statement.Transfer t) = refl
  instead_same statement.End = refl

module _ (control : ℕ → List Given) (variables : List Variable) (s : State) where
  transfer_follows : (t : Transfer) (m : Moved) (ref : UnitRef) → Follows s.output (transfer_at control variables s t m ref).0.output
  transfer_follows t m unit.Star = star_follows control variables s t m (spec_of variables s t m.cells)
  transfer_follows t m (unit.Internal file) = follows_same _ _ refl
  transfer_follows t m (unit.Number n) = follows_same _ _ (unit_same control variables s t m (found s.units n))
  transfer_follows t m (unit.Held place n) = follows_same _ _ (unit_same control variables s t m (found s.units n))
  transfer_follows t m (unit.New place n) = follows_same _ _ (unit_same control variables s t m (found s.units n))

  own_follows : (what : Statement) → Follows s.output (own control variables s what).0.output
  own_follows (statement.Assign to from) = follows_same _ _ refl
  own_follows (statement.OpenUnit unit.Star spec iostat) = follows_same _ _ refl
  own_follows (statement.OpenUnit (unit.Number n) spec iostat) = follows_same _ _ (opens_unit_same control variables s (unit.Number n) n spec (found s.units n))
  own_follows (statement.OpenUnit (unit.Held place n) spec iostat) = follows_same _ _ (opens_unit_same control variables s (unit.Held place n) n spec (found s.units n))
  own_follows (statement.OpenUnit (unit.New place n) spec iostat) = follows_same _ _ (opens_unit_same control variables s (unit.New place n) n spec (found s.units n))
  own_follows (statement.OpenUnit (unit.Internal file) spec iostat) = follows_same _ _ refl
  own_follows (statement.CloseUnit unit.Star keep iostat) = follows_same _ _ refl
  own_follows (statement.CloseUnit (unit.Number n) keep iostat) = follows_same _ _ (closes_same control variables s keep (found s.units n))
  own_follows (statement.CloseUnit (unit.Held place n) keep iostat) = follows_same _ _ (closes_same control variables s keep (found s.units n))
  own_follows (statement.CloseUnit (unit.New place n) keep iostat) = follows_same _ _ (closes_same control variables s keep (found s.units n))
  own_follows (statement.CloseUnit (unit.Internal file) keep iostat) = follows_same _ _ refl
  own_follows (statement.WaitFor u id iostat) = follows_same _ _ refl
  own_follows (statement.Move how unit.Star iostat) = follows_same _ _ refl
  own_follows (statement.Move how (unit.Number n) iostat) = follows_same _ _ (moves_same control variables s how (found s.units n))
  own_follows (statement.Move how (unit.Held place n) iostat) = follows_same _ _ (moves_same control variables s how (found s.units n))
  own_follows (statement.Move how (unit.New place n) iostat) = follows_same _ _ (moves_same control variables s how (found s.units n))
  own_follows (statement.Move how (unit.Internal file) iostat) = follows_same _ _ refl
  own_follows (statement.Inquire subject asked id iostat _) = follows_same _ _ refl
  own_follows (statement.Transfer t) = transfer_follows t (moved_by variables s t) t.unit
  own_follows statement.End = follows_same _ _ refl

  acts_follows : (what : Statement) (condition : Condition) → Follows s.output (acts control variables s what condition).0.output
  acts_follows what Fine = own_follows what
  acts_follows what EndOfFile = follows_same _ _ (instead_same control variables s what)
  acts_follows what EndOfRecord = follows_same _ _ (instead_same control variables s what)
  acts_follows what (Error n) = follows_same _ _ (instead_same control variables s what)

goes_follows : (control : ℕ → List Given) (variables : List Variable) (line : ℕ) (what : Statement) (s : State) (rule : Option Rule)
    → Follows s.output (goes_on control variables line what s rule).0.output
goes_follows control variables line what s (Some rule) = follows_same _ _ refl
goes_follows control variables line what s None = acts_follows control variables (after_tells variables line (waited s what) s) what (condition_of (waited s what))

pub step_follows : (variables : List Variable) (st : Stated) (s : State) → Follows s.output (step variables st s).0.output
unfolding step
step_follows variables st s = goes_follows st.1 variables st.0.line st.0.what s (prohibited s.vars (holders s.book) (need variables s st.0.what))

pub executed_follows : (variables : List Variable) (sts : List Stated) (s : State) → Follows s.output (executed variables sts s).state.output
executed_follows variables [] s = follows_same _ _ refl
executed_follows variables (st ∷ more) s = by (λ next. executed_follows variables more next) (step variables (begun_in s st) s) (step_follows variables (begun_in s st) s)
  where
    by : ((next : State) → Follows next.output (executed variables more next).state.output) → (done : State × Option Ending) → Follows s.output done.0.output
        → Follows s.output (elim done.1 as (λ _. Ran) [ None ↦ executed variables more done.0 | Some e ↦ record { state = done.0; ending = Some e } ]).state.output
    by rest (next, None) k = follows_on _ _ _ k (rest next)
    by rest (next, Some e) k = k

pub outputs_are_closed : (variables : List Variable) (statements : List Lined) (files : Files) → IsClosed (plain_execution variables statements files).output
outputs_are_closed variables statements files = (executed_follows variables (stated statements) (start variables files)).closed (λ _. refl)
