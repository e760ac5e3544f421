-- Variables are as they are declared.
use Rattle.std.proofs.Common.{◌≡◌, ℕ, zero, suc, Bool, true, false, set, List, [], ◌∷◌, ◌++◌, length, map, take, replicate, Option, Some, None, Result, Ok, Err, slice_get, unwrap_or, length-append, refl, sym, ap, subst, ◌∙◌, inl, inr, arith}
use Rattle.std.specs.Prelude.{◌≤◌, ◌&&◌, ◌⊎◌, ℤ, if◌then◌else◌, option_and_then, pos, nat_lt}
use Rattle.std.specs.Option.{option_map_or}
use Rattle.std.proofs.lemmas.Bool.{eqb-true}
use Rattle.std.proofs.lemmas.List.{length-set, length-replicate, length-take-le}
use Rattle.fj_value.proofs.DigitLaws.{fits_bits-fits}
use Rattle.fj_value.specs.Condition.{code_of}
use Rattle.fj_value.specs.declared.condition.Condition.{Condition}
use Rattle.fj_value.specs.declared.condition.Condition.TheVariants.{Fine, EndOfFile, EndOfRecord, Error}
use Rattle.fj_value.specs.declared.condition.Rule.{Rule}
use Rattle.fj_value.specs.Kind.{IsOfKind}
use Rattle.fj_value.specs.declared.kind.Kind.{Kind}
use Rattle.fj_value.specs.declared.kind.Kind.TheVariants.{Int4, Int8, Logical, Chars}
use Rattle.fj_value.specs.declared.place.Place.{Place}
use Rattle.fj_value.specs.declared.value.Cell.{Cell}
use Rattle.fj_value.specs.declared.value.Value.{Value}
use Rattle.fj_value.specs.declared.value.Value.TheVariants as value
use Rattle.fj_modes.specs.Modes.{settled}
use Rattle.fj_modes.specs.Modes as mode
use Rattle.fj_modes.specs.declared.modes.Modes.{Modes}
use Rattle.fj_modes.specs.declared.specifiers.OpenSpec.{OpenSpec}
use Rattle.fj_statement.specs.declared.unit.InternalFile.{InternalFile}
use Rattle.fj_statement.specs.declared.unit.UnitRef.{UnitRef}
use Rattle.fj_statement.specs.declared.unit.UnitRef.TheVariants as unit
use Rattle.fj_modes.specs.declared.motion.Motion.{Motion}
use Rattle.fj_modes.specs.declared.motion.Motion.TheVariants as motion
use Rattle.fj_moved.specs.declared.moved.Moved.{Moved}
use Rattle.fj_connect.specs.Connection.{Connection}
use Rattle.fj_connect.specs.Opening.{opened_file}
use Rattle.fj_control.specs.Steps.{Given}
use Rattle.fj_transfer.specs.Transfer.{Done, transfer_by}
use Rattle.fj_statement.specs.declared.deck.Variable.{Variable}
use Rattle.fj_statement.specs.declared.statement.Transfer.{Transfer}
use Rattle.fj_statement.specs.declared.statement.Statement.{Statement}
use Rattle.fj_statement.specs.declared.statement.Statement.TheVariants as statement
use Rattle.fj_internal.specs.Internal.{Put, Taken, read_inside, written_inside}
use Rattle.fj_book.specs.Prohibitions.{prohibited}
use Rattle.fj_store.specs.Kinds.{is_of_kind, of_kind}
use Rattle.fj_store.specs.Tables.{element_at, element_in, row_with, with_element, with_cells}
use Rattle.fj_store.specs.Variables.{Variables, value_at, with_value, undefined_at}
use Rattle.fj_store.proofs.TableLemmas.{places_tell, at_same, at_other, with_missing}
use Rattle.fj_meaning.specs.Items.{kind_of, value_for, given_back, operand_places, value_of}
use Rattle.fj_statement.specs.Units.{is_outside, number_from_code}
use Rattle.fj_meaning.specs.Needs.{need, holders, number_of, given_number, unit_asked}
use Rattle.fj_meaning.specs.Inquiring.{inquired, none_pending}
use Rattle.fj_meaning.specs.Telling.{count_for, with_size, with_input, with_inputs, is_asynchronous, waited, condition_of, after_tells}
use Rattle.fj_meaning.specs.Transfers.{without_values, with_number, moved_by, spec_in, spec_of, layout_of, refusal, carried_out, made_pending, transferred, unless_refused, on_unit, file_cells, with_taken, with_put, inside, transfer_at}
use Rattle.fj_meaning.specs.Transfers as transfer
use Rattle.fj_meaning.specs.Connecting.{file_due, keeps_file, with_modes, is_taken, most_units, with_opened, connects, without_old, opens_with, opens, opens_unit, closes, closes_anyway, moves}
use Rattle.fj_meaning.specs.State.{State, Files, Unit, Entry, elements, found, disconnected, keeps, start}
use Rattle.fj_meaning.specs.Statement.{Stated, Ran, Ending, begun_in, if_numbered, new_place, with_new_unit, converted, assigned, about, file_asked, unit_at, iostat_of, own, instead, acts, goes_on, step, executed}
use Rattle.fj_meaning.proofs.Lists.{no}
use Rattle.fj_meaning.specs.VariableLaws.{AreAsDeclared}
use Rattle.fj_meaning.specs.Reaching.{reached}

-- ---- a value as a kind has it

abbrev IsFor : Kind → Value → Type 0
IsFor kind v = (v ≡ value.Undefined) ⊎ IsOfKind kind v

undefined_is : (kind : Kind) → IsFor kind value.Undefined
undefined_is kind = inl refl

told_kind : (kind : Kind) (v : Value) → is_of_kind kind v ≡ true → IsOfKind kind v
told_kind Int4 (value.Int z) e = fits_bits-fits 32 z e
told_kind Int8 (value.Int z) e = fits_bits-fits 64 z e
told_kind Logical (value.Log b) e = tt
told_kind (Chars n) (value.Chars cs) e = eqb-true (length cs) n e
told_kind _ _ e = no e

of_kind_is : (kind : Kind) (v : Value) → IsFor kind (of_kind kind v)
of_kind_is kind v = by (is_of_kind kind v) refl
  where
    by : (b : Bool) → is_of_kind kind v ≡ b → IsFor kind (if b then v else value.Undefined)
    by true e = inr (told_kind kind v e)
    by false e = undefined_is kind

filled : (n : ℕ) (cs : List ℕ) → length (take n (cs ++ replicate n 32)) ≡ n
filled n cs =
    let long : n ≤ length (cs ++ replicate n 32) = omega (arith, length-append cs (replicate {A = ℕ} n 32), length-replicate {A = ℕ} n 32) in
    length-take-le n (cs ++ replicate n 32) long

converted_is : (kind : Kind) (v : Value) → IsFor kind (converted kind v)
converted_is Int4 v = of_kind_is Int4 v
converted_is Int8 v = of_kind_is Int8 v
converted_is Logical v = of_kind_is Logical v
converted_is (Chars n) value.Undefined = of_kind_is (Chars n) value.Undefined
converted_is (Chars n) (value.Int z) = of_kind_is (Chars n) (value.Int z)
converted_is (Chars n) (value.Log b) = of_kind_is (Chars n) (value.Log b)
converted_is (Chars n) (value.Chars cs) = inr (filled n cs)

-- ---- the elements of a table

set_lengths : (rows : Variables) (i : ℕ) (row new : List Value) → slice_get rows i ≡ Some row → length new ≡ length row → map length (set rows i new) ≡ map length rows
set_lengths [] i row new at same = refl
set_lengths (r ∷ rows) zero row new at same = ap (λ n. n ∷ map length rows) (same ∙ ap (λ o. length (unwrap_or o row)) (sym at))
set_lengths (r ∷ rows) (suc i) row new at same = ap (λ ns. length r ∷ ns) (set_lengths rows i row new at same)

row_length : (index : ℕ) (v : Value) (row : List Value) → length (row_with index v row) ≡ length row
row_length zero v row = refl
row_length (suc n) v row = length-set row n v

lengths_stay : (rows : Variables) (p : Place) (v : Value) → map length (with_element rows p v) ≡ map length rows
lengths_stay rows p v = by (slice_get rows p.var) refl
  where
    by : (o : Option (List Value)) → slice_get rows p.var ≡ o → map length (option_map_or (λ row. set rows p.var (row_with p.index v row)) o rows) ≡ map length rows
    by None e = refl
    by (Some row) e = set_lengths rows p.var row (row_with p.index v row) e (row_length p.index v row)

-- ---- the start

abbrev IsNone : Option Value → Type 0
IsNone o = unwrap_or o value.Undefined ≡ value.Undefined

none_at : (n at : ℕ) → IsNone (slice_get (replicate n value.Undefined) at)
none_at zero at = refl
none_at (suc n) zero = refl
none_at (suc n) (suc at) = none_at n at

none_in : (n index : ℕ) → IsNone (element_in index (replicate n value.Undefined))
none_in n zero = refl
none_in n (suc at) = none_at n at

abbrev none_defined : List Variable → Variables
none_defined variables = map (λ (v : Variable). replicate (elements v) value.Undefined) variables

none_there : (variables : List Variable) (var index : ℕ) → IsNone (option_and_then (element_in index) (slice_get (none_defined variables) var))
none_there [] var index = refl
none_there (v ∷ vs) zero index = none_in (elements v) index
none_there (v ∷ vs) (suc var) index = none_there vs var index

lengths_are : (variables : List Variable) → map length (none_defined variables) ≡ map elements variables
lengths_are [] = refl
lengths_are (v ∷ vs) = ap (λ n. n ∷ map length (none_defined vs)) (length-replicate (elements v) value.Undefined) ∙ ap (λ ns. elements v ∷ ns) (lengths_are vs)

-- ---- what a statement does to them

module _ (variables : List Variable) where
  abbrev Are : Variables → Type 0
  Are vars = AreAsDeclared variables vars

  begun_so : Are (none_defined variables)
  begun_so = record {
    many = lengths_are variables;
    kinds = λ p. inl (none_there variables p.var p.index);
  }

  set_kinds : (vars : Variables) (p : Place) (v : Value) (o : Option Value) → element_at vars p ≡ o → Are vars → IsFor (kind_of variables p.var) v
      → (q : Place) → IsFor (kind_of variables q.var) (value_at (with_value vars p v) q)
  set_kinds vars p v None e are is q = subst (λ (w : Variables). IsFor (kind_of variables q.var) (value_at w q)) (sym (with_missing vars p v e)) (are.kinds q)
  set_kinds vars p v (Some old) e are is q = elim (places_tell p q) [
    | inl same ↦
        let there : value_at (with_value vars p v) p ≡ v = ap (λ o. unwrap_or o value.Undefined) (at_same vars p v old e) in
        subst (λ (z : Place). IsFor (kind_of variables z.var) (value_at (with_value vars p v) z)) same.1 (subst (IsFor (kind_of variables p.var)) (sym there) is)
    | inr other ↦
        let stays : value_at (with_value vars p v) q ≡ value_at vars q = ap (λ o. unwrap_or o value.Undefined) (at_other vars p q v other.0) in
        subst (IsFor (kind_of variables q.var)) (sym stays) (are.kinds q)
  ]

  set_so : (vars : Variables) (p : Place) (v : Value) → Are vars → IsFor (kind_of variables p.var) v → Are (with_value vars p v)
  set_so vars p v are is = record { many = lengths_stay vars p v ∙ are.many; kinds = set_kinds vars p v (element_at vars p) refl are is }

  cells_so : (made : Cell → Value) (cells : List Cell) (vars : Variables) → ((cell : Cell) → IsFor (kind_of variables cell.place.var) (made cell)) → Are vars → Are (with_cells made cells vars)
  cells_so made [] vars fit are = are
  cells_so made (cell ∷ cells) vars fit are = cells_so made cells (with_value vars cell.place (made cell)) fit (set_so vars cell.place (made cell) are (fit cell))

  given_so : (cells : List Cell) (vars : Variables) → Are vars → Are (given_back variables cells vars)
  given_so cells vars are = cells_so (value_for variables) cells vars (λ cell. of_kind_is (kind_of variables cell.place.var) cell.value) are

  size_so : (size : Option Place) (count : Option ℕ) (vars : Variables) → Are vars → Are (with_size variables size count vars)
  size_so None count vars are = are
  size_so (Some p) (Some n) vars are = set_so vars p (count_for variables p (Some n)) are (of_kind_is (kind_of variables p.var) (value.Int (pos n)))
  size_so (Some p) None vars are = set_so vars p value.Undefined are (undefined_is (kind_of variables p.var))

  number_so : (place : Option Place) (n : ℤ) (vars : Variables) → Are vars → Are (with_number variables place n vars)
  number_so None n vars are = are
  number_so (Some p) n vars are = set_so vars p (of_kind (kind_of variables p.var) (value.Int n)) are (of_kind_is (kind_of variables p.var) (value.Int n))

  assigned_so : (places : List Place) (v : Value) (vars : Variables) → Are vars → Are (assigned variables places v vars)
  assigned_so [] v vars are = are
  assigned_so (p ∷ places) v vars are =
      assigned_so places v (with_value vars p (converted (kind_of variables p.var) v)) (set_so vars p (converted (kind_of variables p.var) v) are (converted_is (kind_of variables p.var) v))

  -- the items of an input, of which SIZE= is one place more
  input_so : (input : Bool) (size : Option Place) (count : Option ℕ) (before now : Variables) → Are before → Are now → Are (if input then with_size variables size count now else before)
  input_so true size count before now was are = size_so size count now are
  input_so false size count before now was are = was

  without_so : (t : Transfer) (moved : Moved) (vars : Variables) → Are vars → Are (without_values variables t moved vars)
  without_so t moved vars are =
      input_so t.input t.size None vars (undefined_at moved.cells vars) are
      (cells_so (λ (cell : Cell). value.Undefined) moved.cells vars (λ cell. undefined_is (kind_of variables cell.place.var)) are)

  with_so : (t : Transfer) (cells : List Cell) (count : Option ℕ) (vars : Variables) → Are vars → Are (transfer.with_cells variables t cells count vars)
  with_so t cells count vars are = input_so t.input t.size count vars (given_back variables cells vars) are (given_so cells vars are)

  told_so : (es : List Entry) (vars : Variables) → Are vars → Are (with_inputs variables es vars)
  told_so [] vars are = are
  told_so (e ∷ es) vars are =
      told_so es (with_input variables e vars) (input_so e.input e.size e.count vars (given_back variables e.cells vars) are (given_so e.cells vars are))

  -- ---- OPEN, CLOSE and the motions leave them

  either : (b : Bool) (x y : State × Condition) (s : State) → x.0.vars ≡ s.vars → y.0.vars ≡ s.vars → (if b then x else y).0.vars ≡ s.vars
  either true x y s h k = h
  either false x y s h k = k

  opened_leaves : (s : State) (n : ℕ) (result : Result Connection Condition) → (with_opened s n result).0.vars ≡ s.vars
  opened_leaves s n (Err condition) = refl
  opened_leaves s n (Ok c) = refl

  connects_leaves : (s : State) (n : ℕ) (spec : OpenSpec) (modes : Modes) → (connects s n spec modes).0.vars ≡ s.vars
  connects_leaves s n spec modes =
      either (nat_lt (length s.units) most_units) (with_opened s n (opened_file (s.files (file_due spec n)) (file_due spec n) spec modes)) (s, Error 9) s
      (opened_leaves s n (opened_file (s.files (file_due spec n)) (file_due spec n) spec modes)) refl

  old_leaves : (s : State) (old : Option Unit) → (without_old s old).vars ≡ s.vars
  old_leaves s None = refl
  old_leaves s (Some u) = refl

  opens_with_leaves : (s : State) (n : ℕ) (spec : OpenSpec) (old : Option Unit) (result : Result Modes Condition) → (opens_with s n spec old result).0.vars ≡ s.vars
  opens_with_leaves s n spec old (Err condition) = refl
  opens_with_leaves s n spec old (Ok modes) =
      either (is_taken s n (file_due spec n)) (s, Error 7) (connects (without_old s old) n spec modes) s refl (connects_leaves (without_old s old) n spec modes ∙ old_leaves s old)

  modes_leave : (s : State) (u : Unit) (result : Result Modes Condition) → (with_modes s u result).0.vars ≡ s.vars
  modes_leave s u (Err condition) = refl
  modes_leave s u (Ok modes) = refl

  opens_leaves : (s : State) (n : ℕ) (spec : OpenSpec) (old : Option Unit) → (opens s n spec old).0.vars ≡ s.vars
  opens_leaves s n spec None = opens_with_leaves s n spec None (settled spec)
  opens_leaves s n spec (Some u) =
      either (keeps_file u spec spec.file) (with_modes s u (mode.changed u.connection.modes spec)) (opens_with s n spec (Some u) (settled spec)) s
      (modes_leave s u (mode.changed u.connection.modes spec)) (opens_with_leaves s n spec (Some u) (settled spec))

  opens_unit_leaves : (s : State) (u : UnitRef) (n : ℕ) (spec : OpenSpec) (old : Option Unit) → (opens_unit s u n spec old).0.vars ≡ s.vars
  opens_unit_leaves s u n spec None = either (is_outside u) (s, Error 3) (opens s n spec None) s refl (opens_leaves s n spec None)
  opens_unit_leaves s u n spec (Some old) = opens_leaves s n spec (Some old)

  numbered_leaves : (s : State) (u : UnitRef) (spec : OpenSpec) (o : Option ℕ) → (if_numbered s o (λ n. opens_unit s u n spec (found s.units n))).0.vars ≡ s.vars
  numbered_leaves s u spec None = refl
  numbered_leaves s u spec (Some n) = opens_unit_leaves s u n spec (found s.units n)

  closes_leaves : (s : State) (keep : Option Bool) (old : Option Unit) → (closes s keep old).0.vars ≡ s.vars
  closes_leaves s keep None = refl
  closes_leaves s keep (Some u) = either (unwrap_or keep false && u.connection.modes.scratch) (s, Error 4) (disconnected s u (unwrap_or keep (keeps u)), Fine) s refl refl

  anyway_leaves : (s : State) (keep : Option Bool) (old : Option Unit) → (closes_anyway s keep old).vars ≡ s.vars
  anyway_leaves s keep None = refl
  anyway_leaves s keep (Some u) = refl

  moves_leaves : (s : State) (how : Motion) (old : Option Unit) → (moves s how old).0.vars ≡ s.vars
  moves_leaves s how None = refl
  moves_leaves s motion.Flush (Some u) = refl
  moves_leaves s motion.Backspace (Some u) = refl
  moves_leaves s motion.Rewind (Some u) = refl
  moves_leaves s motion.Endfile (Some u) = refl

  left_so : (vars before : Variables) → vars ≡ before → Are before → Are vars
  left_so vars before same are = subst Are (sym same) are

  -- ---- READ and WRITE

  transferred_so : (control : ℕ → List Given) (s : State) (t : Transfer) (moved : Moved) (u : Unit) → Are s.vars → Are (transferred control variables s t moved u).0.vars
  transferred_so control s t moved u are = by (is_asynchronous t)
    where
      done : Done
      done = transfer_by control u.connection (spec_of variables s t moved.cells) moved

      by : (later : Bool) → Are (if later then made_pending variables s t moved u done else carried_out variables s t moved u done).0.vars
      by true = number_so t.id (pos s.next) (without_values variables t moved s.vars) (without_so t moved s.vars are)
      by false = with_so t done.cells done.count (without_values variables t moved s.vars) (without_so t moved s.vars are)

  unit_so : (control : ℕ → List Given) (s : State) (t : Transfer) (moved : Moved) (old : Option Unit) → Are s.vars → Are (on_unit control variables s t moved old).0.vars
  unit_so control s t moved None are = without_so t moved s.vars are
  unit_so control s t moved (Some u) are = by (refusal u.connection.modes t (layout_of variables moved.cells t.control))
    where
      by : (condition : Condition) → Are (unless_refused control variables s t moved u condition).0.vars
      by Fine = transferred_so control s t moved u are
      by EndOfFile = without_so t moved s.vars are
      by EndOfRecord = without_so t moved s.vars are
      by (Error n) = without_so t moved s.vars are

  inside_so : (control : ℕ → List Given) (vars : Variables) (t : Transfer) (moved : Moved) (file : InternalFile) → Are vars → Are (inside control variables vars t moved file).0
  inside_so control vars t moved file are = by t.input
    where
      taken : Taken
      taken = read_inside control (file_cells variables vars file) (spec_in variables vars t moved.cells) moved

      put : Put
      put = written_inside control (file_cells variables vars file) (spec_in variables vars t moved.cells) moved

      by : (input : Bool) → Are (if input then with_taken variables vars t moved taken else with_put variables vars put).0
      by true = with_so t taken.cells taken.count (without_values variables t moved vars) (without_so t moved vars are)
      by false = given_so put.elements vars are

  transfer_so : (control : ℕ → List Given) (s : State) (t : Transfer) (ref : UnitRef) → Are s.vars → Are (transfer_at control variables s t (moved_by variables s t) ref).0.vars
  transfer_so control s t unit.Star are = are
  transfer_so control s t (unit.Number n) are = unit_so control s t (moved_by variables s t) (found s.units n) are
  transfer_so control s t (unit.Held place n) are = unit_so control s t (moved_by variables s t) (found s.units n) are
  transfer_so control s t (unit.New place n) are = unit_so control s t (moved_by variables s t) (found s.units n) are
  transfer_so control s t (unit.Internal file) are = inside_so control s.vars t (moved_by variables s t) file are

  -- ---- a statement

  own_so : (control : ℕ → List Given) (s : State) (what : Statement) → Are s.vars → Are (own control variables s what).0.vars
  own_so control s (statement.Assign to from) are = assigned_so (operand_places variables to) (value_of s.vars from) s.vars are
  own_so control s (statement.OpenUnit u spec iostat) are =
      left_so (if_numbered s (number_of u) (λ n. opens_unit s u n spec (found s.units n))).0.vars s.vars (numbered_leaves s u spec (number_of u)) are
  own_so control s (statement.CloseUnit u keep iostat) are =
      left_so (closes s keep (unit_at s (number_of u))).0.vars s.vars (closes_leaves s keep (unit_at s (number_of u))) are
  own_so control s (statement.WaitFor u id iostat) are = are
  own_so control s (statement.Move how u iostat) are = left_so (moves s how (unit_at s (number_of u))).0.vars s.vars (moves_leaves s how (unit_at s (number_of u))) are
  own_so control s (statement.Inquire subject asked id iostat _) are =
      given_so (inquired (about s (unit_asked s subject) (file_asked subject) (given_number s id) (unit_at s (unit_asked s subject))) asked) s.vars are
  own_so control s (statement.Transfer t) are = transfer_so control s t t.unit are
  own_so control s statement.End are = are

  instead_so : (s : State) (what : Statement) → Are s.vars → Are (instead variables s what).vars
  instead_so s (statement.Assign to from) are = are
  instead_so s (statement.OpenUnit u spec iostat) are = are
  instead_so s (statement.CloseUnit u keep iostat) are =
      left_so (closes_anyway s keep (unit_at s (number_of u))).vars s.vars (anyway_leaves s keep (unit_at s (number_of u))) are
  instead_so s (statement.WaitFor u id iostat) are = are
  instead_so s (statement.Move how u iostat) are = are
  instead_so s (statement.Inquire subject asked id iostat _) are = given_so (none_pending asked) s.vars are
  instead_so s (statement.Transfer t) are = without_so t (moved_by variables s t) s.vars are
  instead_so s statement.End are = are

  acts_so : (control : ℕ → List Given) (s : State) (what : Statement) (condition : Condition) → Are s.vars → Are (acts control variables s what condition).0.vars
  acts_so control s what Fine are = own_so control s what are
  acts_so control s what EndOfFile are = instead_so s what are
  acts_so control s what EndOfRecord are = instead_so s what are
  acts_so control s what (Error n) are = instead_so s what are

  goes_so : (control : ℕ → List Given) (line : ℕ) (what : Statement) (s : State) (rule : Option Rule) → Are s.vars → Are (goes_on control variables line what s rule).0.vars
  goes_so control line what s (Some rule) are = are
  goes_so control line what s None are =
      let es = waited s what in
      let done = acts control variables (after_tells variables line es s) what (condition_of es) in
      number_so (iostat_of what) (code_of done.1) (with_new_unit variables what done.1 done.0.new_unit done.0.vars)
      (number_so (new_place what done.1) (number_from_code done.0.new_unit) done.0.vars (acts_so control (after_tells variables line es s) what (condition_of es) (told_so es s.vars are)))

  step_so : (st : Stated) (s : State) → Are s.vars → Are (step variables st s).0.vars
  unfolding step
  step_so st s are = goes_so st.1 st.0.line st.0.what s (prohibited s.vars (holders s.book) (need variables s st.0.what)) are

  executed_so : (sts : List Stated) (s : State) → Are s.vars → Are (executed variables sts s).state.vars
  executed_so [] s are = are
  executed_so (st ∷ more) s are = by (executed_so more (step variables (begun_in s st) s).0 (step_so (begun_in s st) s are)) (step variables (begun_in s st) s).1
    where
      by : Are (executed variables more (step variables (begun_in s st) s).0).state.vars → (o : Option Ending)
          → Are (elim o as (λ _. Ran) [ None ↦ executed variables more (step variables (begun_in s st) s).0 | Some e ↦ record { state = (step variables (begun_in s st) s).0; ending = Some e } ]).state.vars
      by rest None = rest
      by rest (Some e) = step_so (begun_in s st) s are

  pub reached_so : (sts : List Stated) (files : Files) → AreAsDeclared variables (reached variables sts files).vars
  reached_so sts files = executed_so sts (start variables files) begun_so
