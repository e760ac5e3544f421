-- What a statement's own action, and what is done in its place, may make of a state.
use Rattle.std.proofs.Common.{◌≡◌, ℕ, Bool, true, false, not, List, [], ◌∷◌, length, Option, Some, None, Result, Ok, Err, refl, sym, ap, ◌∙◌, subst, ◌&&◌}
use Rattle.std.specs.Prelude.{◌==◌, if◌then◌else◌, nat_lt, unwrap_or}
use Rattle.std.specs.List.{All, list_any}
use Rattle.std.specs.Str.{bytes_eq}
use Rattle.std.proofs.lemmas.Bool.{eqb-true}
use Rattle.std.proofs.lemmas.List.Elements.{All-nil, All-cons, All-filter, All-weaker, filter_passes}
use Rattle.fj_value.specs.declared.condition.Condition.{Condition}
use Rattle.fj_value.specs.declared.condition.Condition.TheVariants.{Fine, EndOfFile, EndOfRecord, Error}
use Rattle.fj_modes.specs.Modes.{settled, usual_edit}
use Rattle.fj_modes.specs.Modes as mode
use Rattle.fj_modes.specs.declared.modes.Modes.{Modes}
use Rattle.fj_modes.specs.declared.specifiers.OpenSpec.{OpenSpec}
use Rattle.fj_modes.specs.declared.specifiers.FileStatus.TheVariants.{Unknown}
use Rattle.fj_statement.specs.declared.unit.UnitRef.{UnitRef}
use Rattle.fj_statement.specs.declared.unit.UnitRef.TheVariants as unit
use Rattle.fj_modes.specs.declared.motion.Motion.{Motion}
use Rattle.fj_modes.specs.declared.motion.Motion.TheVariants as motion
use Rattle.fj_moved.specs.declared.moved.Moved.{Moved}
use Rattle.fj_connect.specs.Connection.{Connection}
use Rattle.fj_connect.specs.Opening.{bytes_opened, connected_to, opened_file}
use Rattle.fj_connect.specs.Positions.{moved}
use Rattle.fj_connect.specs.declared.spot.Positioning.{Positioning}
use Rattle.fj_connect.specs.declared.spot.Positioning.TheVariants as positioning
use Rattle.fj_control.specs.Steps.{Given}
use Rattle.fj_transfer.specs.Change.{changed}
use Rattle.fj_transfer.specs.declared.transfer.TransferSpec.{TransferSpec}
use Rattle.fj_transfer.specs.Printing.{Printed, printed}
use Rattle.fj_transfer.specs.Transfer.{Done, transfer_by, is_formatted, ends_record}
use Rattle.fj_statement.specs.declared.deck.Variable.{Variable}
use Rattle.fj_statement.specs.declared.statement.Transfer.{Transfer}
use Rattle.fj_statement.specs.declared.statement.Statement.{Statement}
use Rattle.fj_statement.specs.declared.statement.Statement.TheVariants as statement
use Rattle.fj_store.specs.Variables.{Variables}
use Rattle.fj_meaning.specs.Telling.{is_asynchronous}
use Rattle.fj_meaning.specs.Transfers.{moved_by, spec_of, layout_of, refusal, refused, with_values, carried_out, made_pending, transferred, unless_refused, on_unit, star_limit, printed_to, on_star, on_file, transfer_at, transfers_nothing}
use Rattle.fj_meaning.specs.Connecting.{file_due, keeps_file, with_modes, is_taken, most_units, with_opened, connects, without_old, opens_with, opens, opens_unit, closes, closes_anyway, with_move, moves}
use Rattle.fj_meaning.specs.State.{State, Unit, Output, found, with_unit, inserted, without_unit, without_file, disconnected, keeps, all_closed}
use Rattle.fj_statement.specs.Units.{is_outside, number_of}
use Rattle.fj_meaning.specs.Statement.{own, instead, acts, if_numbered, unit_at}
use Rattle.fj_meaning.proofs.Lists.{none_passes, all_both}
use Rattle.fj_bay.proofs.Keeping.{moved_kept, transfer_kept}
use Rattle.fj_meaning.proofs.Tells.{emptied}

-- no unit has this number, and none this file
pub record Missing (n : ℕ) (name : List ℕ) (units : List Unit) : Type 0 where
  pub number : All (λ (u : Unit). (u.number == n) ≡ false) units
  pub file : All (λ (u : Unit). bytes_eq u.connection.name name ≡ false) units

-- the changes that there are, at a statement in a state, each of which leaves what P says
pub record Ways (variables : List Variable) (what : Statement) (s : State) (P : State → Type 0) : Type 0 where
  pub same : P s
  pub defines : (t : State) (v : Variables) → P t → P (record t { vars = v })
  pub prints : (o : Output) → P (record s { output = o })
  pub moves : (v : Variables) (n : ℕ) (u : Unit) (c : Connection) → found s.units n ≡ Some u → c.name ≡ u.connection.name
      → P (record s { vars = v; units = with_unit (record u { connection = c }) s.units })
  pub leaves : (n : ℕ) (u : Unit) (keep : Bool) → emptied what ≡ Some n → found s.units n ≡ Some u → P (disconnected s u keep)
  pub opens : (t : State) (n : ℕ) (c : Connection) → P t → t.book ≡ s.book → emptied what ≡ Some n → Missing n c.name t.units → nat_lt (length t.units) most_units ≡ true
      → P (record t { units = inserted (record { number = n; connection = c; halt = None }) t.units; files = without_file c.name t.files })
  pub pends : (t : Transfer) (n : ℕ) (u : Unit) (done : Done) → what ≡ statement.Transfer t → is_asynchronous t ≡ true → found s.units n ≡ Some u → done.connection.name ≡ u.connection.name
      → P (made_pending variables s t (moved_by variables s t) u done).0
  pub closes : what ≡ statement.End → P (all_closed s)

abbrev Leads : List ℕ → Result Connection Condition → Type 0
Leads name (Ok c) = c.name ≡ name
Leads name (Err condition) = Prim.Unit {0}

opened_leads : (name : List ℕ) (spec : OpenSpec) (modes : Modes) (there : Option (List ℕ)) → Leads name (opened_file there name spec modes)
opened_leads name spec modes there = by (bytes_opened (unwrap_or spec.status Unknown) there)
  where
    by : (result : Result (List ℕ) Condition) → Leads name (connected_to modes name result)
    by (Ok bytes) = refl
    by (Err condition) = tt

pub found_is : (us : List Unit) (n : ℕ) (u : Unit) → found us n ≡ Some u → u.number ≡ n
found_is [] n u e = cc
found_is (x ∷ xs) n u e = by (found_is xs n u) (x.number == n) refl e
  where
    by : (found xs n ≡ Some u → u.number ≡ n) → (b : Bool) → (x.number == n) ≡ b → (if b then Some x else found xs n) ≡ Some u → u.number ≡ n
    by rest true k h = let same : x ≡ u = cc in ap (λ (v : Unit). v.number) (sym same) ∙ eqb-true x.number n k
    by rest false k h = rest h

pub found_none : (us : List Unit) (n : ℕ) → found us n ≡ None → All (λ (u : Unit). (u.number == n) ≡ false) us
found_none [] n e = All-nil (λ (u : Unit). (u.number == n) ≡ false)
found_none (x ∷ xs) n e = by (found_none xs n) (x.number == n) refl e
  where
    by : (found xs n ≡ None → All (λ (u : Unit). (u.number == n) ≡ false) xs) → (b : Bool) → (x.number == n) ≡ b → (if b then Some x else found xs n) ≡ None → All (λ (u : Unit). (u.number == n) ≡ false) (x ∷ xs)
    by rest true k h = cc
    by rest false k h = All-cons (λ (u : Unit). (u.number == n) ≡ false) x xs k (rest h)

pub not_true : (b : Bool) → not b ≡ true → b ≡ false
not_true true e = sym e
not_true false e = refl

-- the unit's own connection is left, and no other has the file
missing_behind : (us : List Unit) (n : ℕ) (name : List ℕ) → list_any (λ (u : Unit). not (u.number == n) && bytes_eq u.connection.name name) us ≡ false → Missing n name (without_unit n us)
missing_behind us n name e = record {
  number = others;
  file = all_both (λ (u : Unit). (u.number == n) ≡ false) (λ (u : Unit). (not (u.number == n) && bytes_eq u.connection.name name) ≡ false) (λ (u : Unit). bytes_eq u.connection.name name ≡ false) (without_unit n us)
      (λ u k h. ap (λ b. not b && bytes_eq u.connection.name name) (sym k) ∙ h) others
      (All-filter (λ (u : Unit). not (u.number == n)) (λ (u : Unit). (not (u.number == n) && bytes_eq u.connection.name name) ≡ false) us (none_passes (λ (u : Unit). not (u.number == n) && bytes_eq u.connection.name name) us e));
}
  where
    others : All (λ (u : Unit). (u.number == n) ≡ false) (without_unit n us)
    others =
        All-weaker (λ (u : Unit). not (u.number == n) ≡ true) (λ (u : Unit). (u.number == n) ≡ false) (λ u k. not_true (u.number == n) k) (without_unit n us)
        (filter_passes (λ (u : Unit). not (u.number == n)) us)

missing_at : (us : List Unit) (n : ℕ) (name : List ℕ) → found us n ≡ None → list_any (λ (u : Unit). not (u.number == n) && bytes_eq u.connection.name name) us ≡ false → Missing n name us
missing_at us n name k e = record {
  number = found_none us n k;
  file = all_both (λ (u : Unit). (u.number == n) ≡ false) (λ (u : Unit). (not (u.number == n) && bytes_eq u.connection.name name) ≡ false) (λ (u : Unit). bytes_eq u.connection.name name ≡ false) us
      (λ u i h. ap (λ b. not b && bytes_eq u.connection.name name) (sym i) ∙ h) (found_none us n k)
      (none_passes (λ (u : Unit). not (u.number == n) && bytes_eq u.connection.name name) us e);
}

module _ (control : ℕ → List Given) (variables : List Variable) (what : Statement) (s : State) (P : State → Type 0) (w : Ways variables what s P) where
  -- ---- OPEN

  with_opened_walk : (t : State) (n : ℕ) (name : List ℕ) (result : Result Connection Condition) → P t → t.book ≡ s.book → emptied what ≡ Some n → Missing n name t.units
      → nat_lt (length t.units) most_units ≡ true → Leads name result → P (with_opened t n result).0
  with_opened_walk t n name (Err condition) p b e m l k = p
  with_opened_walk t n name (Ok c) p b e m l k = w.opens t n c p b e (subst (λ file. Missing n file t.units) (sym k) m) l

  connects_walk : (t : State) (n : ℕ) (spec : OpenSpec) (modes : Modes) → P t → t.book ≡ s.book → emptied what ≡ Some n → Missing n (file_due spec n) t.units → P (connects t n spec modes).0
  connects_walk t n spec modes p b e m = by (nat_lt (length t.units) most_units) refl
    where
      by : (few : Bool) → nat_lt (length t.units) most_units ≡ few
          → P (if few then with_opened t n (opened_file (t.files (file_due spec n)) (file_due spec n) spec modes) else (t, Error 9)).0
      by true l = with_opened_walk t n (file_due spec n) (opened_file (t.files (file_due spec n)) (file_due spec n) spec modes) p b e m l (opened_leads (file_due spec n) spec modes (t.files (file_due spec n)))
      by false l = p

  opens_with_walk : (n : ℕ) (spec : OpenSpec) (old : Option Unit) (result : Result Modes Condition) → found s.units n ≡ old → emptied what ≡ Some n → P (opens_with s n spec old result).0
  opens_with_walk n spec old (Err condition) k e = w.same
  opens_with_walk n spec old (Ok modes) k e = by (is_taken s n (file_due spec n)) refl
    where
      left_for : (o : Option Unit) → found s.units n ≡ o → is_taken s n (file_due spec n) ≡ false → P (connects (without_old s o) n spec modes).0
      left_for None i j = connects_walk s n spec modes w.same refl e (missing_at s.units n (file_due spec n) i j)
      left_for (Some u) i j =
          connects_walk (disconnected s u (keeps u)) n spec modes (w.leaves n u (keeps u) e i) refl e
          (subst (λ m. Missing n (file_due spec n) (without_unit m s.units)) (sym (found_is s.units n u i)) (missing_behind s.units n (file_due spec n) j))

      by : (taken : Bool) → is_taken s n (file_due spec n) ≡ taken → P (if taken then (s, Error 7) else connects (without_old s old) n spec modes).0
      by true j = w.same
      by false j = left_for old k j

  with_modes_walk : (n : ℕ) (u : Unit) (result : Result Modes Condition) → found s.units n ≡ Some u → P (with_modes s u result).0
  with_modes_walk n u (Err condition) k = w.same
  with_modes_walk n u (Ok modes) k = w.moves s.vars n u (record u.connection { modes = modes }) k refl

  opens_walk : (n : ℕ) (spec : OpenSpec) (old : Option Unit) → found s.units n ≡ old → emptied what ≡ Some n → P (opens s n spec old).0
  opens_walk n spec None k e = opens_with_walk n spec None (settled spec) k e
  opens_walk n spec (Some u) k e = by (keeps_file u spec spec.file)
    where
      by : (b : Bool) → P (if b then with_modes s u (mode.changed u.connection.modes spec) else opens_with s n spec (Some u) (settled spec)).0
      by true = with_modes_walk n u (mode.changed u.connection.modes spec) k
      by false = opens_with_walk n spec (Some u) (settled spec) k e

  opens_unit_walk : (u : UnitRef) (n : ℕ) (spec : OpenSpec) (old : Option Unit) → found s.units n ≡ old → emptied what ≡ Some n → P (opens_unit s u n spec old).0
  opens_unit_walk u n spec None k e = by (is_outside u)
    where
      by : (b : Bool) → P (if b then (s, Error 3) else opens s n spec None).0
      by true = w.same
      by false = opens_walk n spec None k e
  opens_unit_walk u n spec (Some old) k e = opens_walk n spec (Some old) k e

  -- ---- CLOSE and the motions

  closes_walk : (n : ℕ) (keep : Option Bool) (old : Option Unit) → found s.units n ≡ old → emptied what ≡ Some n → P (closes s keep old).0
  closes_walk n keep None k e = w.same
  closes_walk n keep (Some u) k e = by (unwrap_or keep false && u.connection.modes.scratch)
    where
      kept : State × Condition
      kept = (s, Error 4)

      gone : State × Condition
      gone = (disconnected s u (unwrap_or keep (keeps u)), Fine)

      by : (b : Bool) → P (if b then kept else gone).0
      by true = w.same
      by false = w.leaves n u (unwrap_or keep (keeps u)) e k

  anyway_walk : (n : ℕ) (keep : Option Bool) (old : Option Unit) → found s.units n ≡ old → emptied what ≡ Some n → P (closes_anyway s keep old)
  anyway_walk n keep None k e = w.same
  anyway_walk n keep (Some u) k e = w.leaves n u (keeps u && unwrap_or keep true) e k

  move_walk : (n : ℕ) (u : Unit) (how : Positioning) → found s.units n ≡ Some u → P (with_move s u (moved u.connection how)).0
  move_walk n u how k = w.moves s.vars n u (moved u.connection how).0 k (moved_kept u.connection how).named

  moves_walk : (n : ℕ) (how : Motion) (old : Option Unit) → found s.units n ≡ old → P (moves s how old).0
  moves_walk n how None k = w.same
  moves_walk n motion.Flush (Some u) k = w.same
  moves_walk n motion.Backspace (Some u) k = move_walk n u positioning.Backspace k
  moves_walk n motion.Rewind (Some u) k = move_walk n u positioning.Rewind k
  moves_walk n motion.Endfile (Some u) k = move_walk n u positioning.Endfile k

  -- ---- READ and WRITE

  refused_walk : (t : Transfer) (moved : Moved) (condition : Condition) → P (refused variables s t moved condition).0
  refused_walk t moved condition = w.defines s (refused variables s t moved condition).0.vars w.same

  transferred_walk : (t : Transfer) (n : ℕ) (u : Unit) → what ≡ statement.Transfer t → found s.units n ≡ Some u → P (transferred control variables s t (moved_by variables s t) u).0
  transferred_walk t n u is k = by (is_asynchronous t) refl
    where
      done : Done
      done = transfer_by control u.connection (spec_of variables s t (moved_by variables s t).cells) (moved_by variables s t)

      name : done.connection.name ≡ u.connection.name
      name = (transfer_kept control u.connection (spec_of variables s t (moved_by variables s t).cells) (moved_by variables s t)).named

      by : (b : Bool) → is_asynchronous t ≡ b → P (if b then made_pending variables s t (moved_by variables s t) u done else carried_out variables s t (moved_by variables s t) u done).0
      by true e = w.pends t n u done is e k name
      by false e = w.moves (with_values variables t (moved_by variables s t) done s.vars) n u done.connection k name

  unit_walk : (t : Transfer) (n : ℕ) (old : Option Unit) → what ≡ statement.Transfer t → found s.units n ≡ old → P (on_unit control variables s t (moved_by variables s t) old).0
  unit_walk t n None is k = refused_walk t (moved_by variables s t) (Error 1)
  unit_walk t n (Some u) is k = by (refusal u.connection.modes t (layout_of variables (moved_by variables s t).cells t.control))
    where
      by : (condition : Condition) → P (unless_refused control variables s t (moved_by variables s t) u condition).0
      by Fine = transferred_walk t n u is k
      by EndOfFile = refused_walk t (moved_by variables s t) EndOfFile
      by EndOfRecord = refused_walk t (moved_by variables s t) EndOfRecord
      by (Error code) = refused_walk t (moved_by variables s t) (Error code)

  printed_walk : (ends : Bool) (result : Result Printed Condition) → P (record s { output = (printed_to ends s.output result).0 })
  printed_walk ends (Err condition) = w.same
  printed_walk ends (Ok p) = w.prints (printed_to ends s.output (Ok p)).0

  star_walk : (t : Transfer) (moved : Moved) (spec : TransferSpec) → P (on_star control s t moved spec).0
  star_walk t moved spec = by (is_asynchronous t) (not (is_formatted spec.layout))
    where
      by : (later unfit : Bool) → P (record s { output = (if later then (s.output, Error 2) else (if unfit then (s.output, Error 16) else printed_to (ends_record spec) s.output (printed star_limit s.output.begun spec control (changed spec.edit usual_edit) moved))).0 })
      by true unfit = w.same
      by false true = w.same
      by false false = printed_walk (ends_record spec) (printed star_limit s.output.begun spec control (changed spec.edit usual_edit) moved)

  transfer_walk : (t : Transfer) (ref : UnitRef) → what ≡ statement.Transfer t → P (transfer_at control variables s t (moved_by variables s t) ref).0
  transfer_walk t unit.Star is = star_walk t (moved_by variables s t) (spec_of variables s t (moved_by variables s t).cells)
  transfer_walk t (unit.Number n) is = unit_walk t n (found s.units n) is refl
  transfer_walk t (unit.Held place n) is = unit_walk t n (found s.units n) is refl
  transfer_walk t (unit.New place n) is = unit_walk t n (found s.units n) is refl
  transfer_walk t (unit.Internal file) is = w.defines s (on_file control variables s t (moved_by variables s t) file).0.vars w.same

  nothing_walk : (t : Transfer) → P (transfers_nothing variables s t)
  nothing_walk t = w.defines s (transfers_nothing variables s t).vars w.same

pub own_walk : (control : ℕ → List Given) (variables : List Variable) (what : Statement) (s : State) (P : State → Type 0) → Ways variables what s P → P (own control variables s what).0
own_walk control variables (statement.Assign to from) s P w = w.defines s (own control variables s (statement.Assign to from)).0.vars w.same
own_walk control variables (statement.OpenUnit u spec iostat) s P w = by (number_of u) refl
  where
    by : (o : Option ℕ) → number_of u ≡ o → P (if_numbered s o (λ n. opens_unit s u n spec (found s.units n))).0
    by None e = w.same
    by (Some n) e = opens_unit_walk control variables (statement.OpenUnit u spec iostat) s P w u n spec (found s.units n) refl e
own_walk control variables (statement.CloseUnit u keep iostat) s P w = by (number_of u) refl
  where
    by : (o : Option ℕ) → number_of u ≡ o → P (closes s keep (unit_at s o)).0
    by None e = w.same
    by (Some n) e = closes_walk control variables (statement.CloseUnit u keep iostat) s P w n keep (found s.units n) refl e
own_walk control variables (statement.WaitFor u id iostat) s P w = w.same
own_walk control variables (statement.Move how u iostat) s P w = by (number_of u)
  where
    by : (o : Option ℕ) → P (moves s how (unit_at s o)).0
    by None = w.same
    by (Some n) = moves_walk control variables (statement.Move how u iostat) s P w n how (found s.units n) refl
own_walk control variables (statement.Inquire subject asked id iostat done) s P w = w.defines s (own control variables s (statement.Inquire subject asked id iostat done)).0.vars w.same
own_walk control variables (statement.Transfer t) s P w = transfer_walk control variables (statement.Transfer t) s P w t t.unit refl
own_walk control variables statement.End s P w = w.closes refl

instead_walk : (control : ℕ → List Given) (variables : List Variable) (what : Statement) (s : State) (P : State → Type 0) → Ways variables what s P → P (instead variables s what)
instead_walk control variables (statement.Assign to from) s P w = w.same
instead_walk control variables (statement.OpenUnit u spec iostat) s P w = w.same
instead_walk control variables (statement.CloseUnit u keep iostat) s P w = by (number_of u) refl
  where
    by : (o : Option ℕ) → number_of u ≡ o → P (closes_anyway s keep (unit_at s o))
    by None e = w.same
    by (Some n) e = anyway_walk control variables (statement.CloseUnit u keep iostat) s P w n keep (found s.units n) refl e
instead_walk control variables (statement.WaitFor u id iostat) s P w = w.same
instead_walk control variables (statement.Move how u iostat) s P w = w.same
instead_walk control variables (statement.Inquire subject asked id iostat done) s P w = w.defines s (instead variables s (statement.Inquire subject asked id iostat done)).vars w.same
instead_walk control variables (statement.Transfer t) s P w = nothing_walk control variables (statement.Transfer t) s P w t
instead_walk control variables statement.End s P w = w.closes refl

pub acts_walk : (control : ℕ → List Given) (variables : List Variable) (what : Statement) (s : State) (P : State → Type 0) (condition : Condition) → Ways variables what s P
    → P (acts control variables s what condition).0
acts_walk control variables what s P Fine w = own_walk control variables what s P w
acts_walk control variables what s P EndOfFile w = instead_walk control variables what s P w
acts_walk control variables what s P EndOfRecord w = instead_walk control variables what s P w
acts_walk control variables what s P (Error n) w = instead_walk control variables what s P w
