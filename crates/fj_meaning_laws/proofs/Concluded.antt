-- What becomes of a statement's condition.
use Rattle.std.proofs.Common.{◌≡◌, ◌≢◌, ℕ, ℤ, pos, negsuc, Bool, true, false, List, [], ◌∷◌, map, Option, Some, None, refl, sym, ap, ◌∙◌, subst}
use Rattle.std.specs.Prelude.{if◌then◌else◌}
use Rattle.fj_value.specs.Condition.{code_of}
use Rattle.fj_value.specs.declared.condition.Condition.{Condition}
use Rattle.fj_value.specs.declared.condition.Condition.TheVariants.{Fine, EndOfFile, EndOfRecord, Error}
use Rattle.fj_value.specs.declared.condition.Rule.{Rule}
use Rattle.fj_value.specs.declared.place.Place.{Place}
use Rattle.fj_value.specs.declared.value.Value.{Value}
use Rattle.fj_value.specs.declared.value.Value.TheVariants as value
use Rattle.fj_control.specs.Steps.{Given}
use Rattle.fj_statement.specs.declared.deck.Variable.{Variable}
use Rattle.fj_statement.specs.declared.statement.Statement.{Statement}
use Rattle.fj_statement.specs.declared.statement.Statement.TheVariants as statement
use Rattle.fj_book.specs.Prohibitions.{prohibited}
use Rattle.fj_store.specs.Kinds.{of_kind}
use Rattle.fj_store.specs.Tables.{element_at, with_element}
use Rattle.fj_store.specs.Variables.{Variables, with_value}
use Rattle.fj_store.proofs.TableLemmas.{at_same, with_missing}
use Rattle.fj_meaning.specs.Items.{kind_of}
use Rattle.fj_meaning.specs.Needs.{need, holders}
use Rattle.fj_meaning.specs.State.{State, Unit, Entry}
use Rattle.fj_meaning.specs.Telling.{waited, condition_of, ends_halt, after_tells}
use Rattle.fj_meaning.specs.Transfers.{with_number}
use Rattle.fj_meaning.specs.UnitLaws.{joined, connections}
use Rattle.fj_meaning.specs.Statement.{Stated, Ending, ended, error_stop, step, own, instead, acts, iostat_of, with_new_unit, next_new, new_place, defines, uncaught, ends, completed, acts_after, goes_on}
use Rattle.fj_meaning.proofs.Lists.{no}
use Rattle.fj_meaning_laws.specs.Naming.{HasStatus, of_open, of_close, of_wait, of_motion, of_inquire, of_transfer}
use Rattle.fj_meaning_laws.specs.Concluding.{IsCode, fine, file_ended, record_ended, error, Closes, by_close, by_end, IsUntouched, Concludes, ConditionsConclude}
use Rattle.fj_meaning_laws.proofs.Membership.{some_is}

coded : (c : Condition) → IsCode c (code_of c)
coded Fine = fine
coded EndOfFile = file_ended
coded EndOfRecord = record_ended
coded (Error n) = error

-- ---- IOSTAT=

status_is : (st : Statement) (p : Place) → HasStatus st p → iostat_of st ≡ Some p
status_is _ p of_open = refl
status_is _ p of_close = refl
status_is _ p of_wait = refl
status_is _ p of_motion = refl
status_is _ p of_inquire = refl
status_is _ p (of_transfer e) = e

is_status : (st : Statement) (p : Place) → iostat_of st ≡ Some p → HasStatus st p
is_status (statement.Assign to from) p e = absurd (let never : ◌≡◌ {A = Option Place} None (Some p) = e in cc)
is_status (statement.OpenUnit u spec iostat) p e = subst (λ o. HasStatus (statement.OpenUnit u spec o) p) (sym e) of_open
is_status (statement.CloseUnit u keep iostat) p e = subst (λ o. HasStatus (statement.CloseUnit u keep o) p) (sym e) of_close
is_status (statement.WaitFor u id iostat) p e = subst (λ o. HasStatus (statement.WaitFor u id o) p) (sym e) of_wait
is_status (statement.Move how u iostat) p e = subst (λ o. HasStatus (statement.Move how u o) p) (sym e) of_motion
is_status (statement.Inquire about asked id iostat look) p e = subst (λ o. HasStatus (statement.Inquire about asked id o look) p) (sym e) of_inquire
is_status (statement.Transfer t) p e = of_transfer e
is_status statement.End p e = absurd (let never : ◌≡◌ {A = Option Place} None (Some p) = e in cc)

no_status : (st : Statement) → ((p : Place) → HasStatus st p → ⊥) → iostat_of st ≡ None
no_status st none = by (iostat_of st) refl
  where
    by : (o : Option Place) → iostat_of st ≡ o → iostat_of st ≡ None
    by None e = e
    by (Some p) e = absurd (none p (is_status st p e))

-- what stands at a place that was given a value
given_then : (vars : Variables) (p : Place) (x v : Value) → element_at (with_value vars p x) p ≡ Some v → v ≡ x
given_then vars p x v e = by (element_at vars p) refl
  where
    by : (o : Option Value) → element_at vars p ≡ o → v ≡ x
    by None h = absurd (let never : ◌≡◌ {A = Option Value} None (Some v) = sym h ∙ sym (ap (λ w. element_at w p) (with_missing vars p x h)) ∙ e in cc)
    by (Some y) h = sym (some_is x v (sym (at_same vars p x y h) ∙ e))

number_then : (variables : List Variable) (o : Option Place) (p : Place) (n : ℤ) (vars : Variables) (v : Value) → o ≡ Some p
    → element_at (with_number variables o n vars) p ≡ Some v → v ≡ of_kind (kind_of variables p.var) (value.Int n)
number_then variables o p n vars v e h =
    given_then vars p (of_kind (kind_of variables p.var) (value.Int n)) v (sym (ap (λ q. element_at (with_number variables q n vars) p) e) ∙ h)

-- ---- how it ends the deck

is_end : Statement → Bool
is_end statement.End = true
is_end _ = false

uncaught_ends : (line : ℕ) (st : Statement) (c : Condition) → iostat_of st ≡ None → c ≢ Fine → ends line st c ≡ Some (error_stop line (code_of c))
uncaught_ends line st Fine e other = absurd (other refl)
uncaught_ends line (statement.Assign to from) EndOfFile e other = refl
uncaught_ends line (statement.Assign to from) EndOfRecord e other = refl
uncaught_ends line (statement.Assign to from) (Error n) e other = refl
uncaught_ends line (statement.OpenUnit u spec iostat) EndOfFile e other = ap (λ o. uncaught line o EndOfFile) e
uncaught_ends line (statement.OpenUnit u spec iostat) EndOfRecord e other = ap (λ o. uncaught line o EndOfRecord) e
uncaught_ends line (statement.OpenUnit u spec iostat) (Error n) e other = ap (λ o. uncaught line o (Error n)) e
uncaught_ends line (statement.CloseUnit u keep iostat) EndOfFile e other = ap (λ o. uncaught line o EndOfFile) e
uncaught_ends line (statement.CloseUnit u keep iostat) EndOfRecord e other = ap (λ o. uncaught line o EndOfRecord) e
uncaught_ends line (statement.CloseUnit u keep iostat) (Error n) e other = ap (λ o. uncaught line o (Error n)) e
uncaught_ends line (statement.WaitFor u id iostat) EndOfFile e other = ap (λ o. uncaught line o EndOfFile) e
uncaught_ends line (statement.WaitFor u id iostat) EndOfRecord e other = ap (λ o. uncaught line o EndOfRecord) e
uncaught_ends line (statement.WaitFor u id iostat) (Error n) e other = ap (λ o. uncaught line o (Error n)) e
uncaught_ends line (statement.Move how u iostat) EndOfFile e other = ap (λ o. uncaught line o EndOfFile) e
uncaught_ends line (statement.Move how u iostat) EndOfRecord e other = ap (λ o. uncaught line o EndOfRecord) e
uncaught_ends line (statement.Move how u iostat) (Error n) e other = ap (λ o. uncaught line o (Error n)) e
uncaught_ends line (statement.Inquire about asked id iostat look) EndOfFile e other = ap (λ o. uncaught line o EndOfFile) e
uncaught_ends line (statement.Inquire about asked id iostat look) EndOfRecord e other = ap (λ o. uncaught line o EndOfRecord) e
uncaught_ends line (statement.Inquire about asked id iostat look) (Error n) e other = ap (λ o. uncaught line o (Error n)) e
uncaught_ends line (statement.Transfer t) EndOfFile e other = ap (λ o. uncaught line o EndOfFile) e
uncaught_ends line (statement.Transfer t) EndOfRecord e other = ap (λ o. uncaught line o EndOfRecord) e
uncaught_ends line (statement.Transfer t) (Error n) e other = ap (λ o. uncaught line o (Error n)) e
uncaught_ends line statement.End EndOfFile e other = refl
uncaught_ends line statement.End EndOfRecord e other = refl
uncaught_ends line statement.End (Error n) e other = refl

caught_goes : (line : ℕ) (st : Statement) (p : Place) (c : Condition) → HasStatus st p → ends line st c ≡ None
caught_goes line _ p c of_open = refl
caught_goes line _ p c of_close = refl
caught_goes line _ p c of_wait = refl
caught_goes line _ p c of_motion = refl
caught_goes line _ p c of_inquire = refl
caught_goes line _ p c (of_transfer e) = ap (λ o. uncaught line o c) e

fine_none : (line : ℕ) (o : Option Place) → uncaught line o Fine ≡ None
fine_none line None = refl
fine_none line (Some p) = refl

fine_goes : (line : ℕ) (st : Statement) → (st ≡ statement.End → ⊥) → ends line st Fine ≡ None
fine_goes line (statement.Assign to from) other = refl
fine_goes line (statement.OpenUnit u spec iostat) other = fine_none line iostat
fine_goes line (statement.CloseUnit u keep iostat) other = fine_none line iostat
fine_goes line (statement.WaitFor u id iostat) other = fine_none line iostat
fine_goes line (statement.Move how u iostat) other = fine_none line iostat
fine_goes line (statement.Inquire about asked id iostat look) other = fine_none line iostat
fine_goes line (statement.Transfer t) other = fine_none line t.iostat
fine_goes line statement.End other = absurd (other refl)

-- ---- what is left out

told_joined : (told : List Entry) (us : List Unit) → map joined (map (λ (u : Unit). record u { halt = if ends_halt told u then None else u.halt }) us) ≡ map joined us
told_joined told [] = refl
told_joined told (u ∷ us) = ap (λ l. joined u ∷ l) (told_joined told us)

same_states : (s t : State) → connections t ≡ connections s → t.files ≡ s.files → t.output ≡ s.output → t.next ≡ s.next → t.new_unit ≡ s.new_unit → IsUntouched s t
same_states s t a b c d e = record { units = a; files = b; output = c; next = (d, e) }

instead_same : (variables : List Variable) (s : State) (st : Statement) → (Closes st → ⊥) → IsUntouched s (instead variables s st)
instead_same variables s (statement.Assign to from) other = same_states s s refl refl refl refl refl
instead_same variables s (statement.OpenUnit u spec iostat) other = same_states s s refl refl refl refl refl
instead_same variables s (statement.CloseUnit u keep iostat) other = absurd (other by_close)
instead_same variables s (statement.WaitFor u id iostat) other = same_states s s refl refl refl refl refl
instead_same variables s (statement.Move how u iostat) other = same_states s s refl refl refl refl refl
instead_same variables s (statement.Inquire about asked id iostat look) other = record { units = refl; files = refl; output = refl; next = (refl, refl) }
instead_same variables s (statement.Transfer t) other = record { units = refl; files = refl; output = refl; next = (refl, refl) }
instead_same variables s statement.End other = absurd (other by_end)

acts_told : (control : ℕ → List Given) (variables : List Variable) (s : State) (st : Statement) (c : Condition) → c ≢ Fine → acts control variables s st c ≡ (instead variables s st, c)
acts_told control variables s st Fine other = absurd (other refl)
acts_told control variables s st EndOfFile other = refl
acts_told control variables s st EndOfRecord other = refl
acts_told control variables s st (Error n) other = refl

none_new : (st : Statement) (c : Condition) → c ≢ Fine → new_place st c ≡ None
none_new st Fine other = absurd (other refl)
none_new (statement.Assign to from) EndOfFile other = refl
none_new (statement.Assign to from) EndOfRecord other = refl
none_new (statement.Assign to from) (Error n) other = refl
none_new (statement.OpenUnit u spec iostat) EndOfFile other = refl
none_new (statement.OpenUnit u spec iostat) EndOfRecord other = refl
none_new (statement.OpenUnit u spec iostat) (Error n) other = refl
none_new (statement.CloseUnit u keep iostat) EndOfFile other = refl
none_new (statement.CloseUnit u keep iostat) EndOfRecord other = refl
none_new (statement.CloseUnit u keep iostat) (Error n) other = refl
none_new (statement.WaitFor u id iostat) EndOfFile other = refl
none_new (statement.WaitFor u id iostat) EndOfRecord other = refl
none_new (statement.WaitFor u id iostat) (Error n) other = refl
none_new (statement.Move how u iostat) EndOfFile other = refl
none_new (statement.Move how u iostat) EndOfRecord other = refl
none_new (statement.Move how u iostat) (Error n) other = refl
none_new (statement.Inquire about asked id iostat look) EndOfFile other = refl
none_new (statement.Inquire about asked id iostat look) EndOfRecord other = refl
none_new (statement.Inquire about asked id iostat look) (Error n) other = refl
none_new (statement.Transfer t) EndOfFile other = refl
none_new (statement.Transfer t) EndOfRecord other = refl
none_new (statement.Transfer t) (Error n) other = refl
none_new statement.End EndOfFile other = refl
none_new statement.End EndOfRecord other = refl
none_new statement.End (Error n) other = refl

module _ (variables : List Variable) (st : Stated) (s : State) where
  abbrev what : Statement
  what = st.0.what

  abbrev line : ℕ
  line = st.0.line

  abbrev es : List Entry
  es = waited s what

  abbrev told : State
  told = after_tells variables line es s

  abbrev done : State × Condition
  done = acts st.1 variables told what (condition_of es)

  untouched : condition_of es ≢ Fine → (Closes what → ⊥) → IsUntouched s (defines variables what done)
  untouched other open_still =
      let is : done ≡ (instead variables told what, condition_of es) = acts_told st.1 variables told what (condition_of es) other in
      subst (λ (x : State × Condition). IsUntouched s (defines variables what x)) (sym is) (record {
        units = same.units ∙ told_joined es s.units;
        files = same.files;
        output = same.output;
        next = (same.next.0, ap (λ o. next_new o (instead variables told what).new_unit) (none_new what (condition_of es) other) ∙ same.next.1);
      })
    where
      same : IsUntouched told (instead variables told what)
      same = instead_same variables told what open_still

  by_done : (after : State × Option Ending) → after ≡ completed variables line what done
      → (condition_of es ≢ Fine → (done.1 ≡ condition_of es) × ((Closes what → ⊥) → IsUntouched s after.0))
      × (condition_of es ≡ Fine → done.1 ≡ (own st.1 variables told what).1)
      × ((p : Place) → HasStatus what p → (after.1 ≡ None) × ((v : Value) → element_at after.0.vars p ≡ Some v → v ≡ of_kind (kind_of variables p.var) (value.Int (code_of done.1))))
      × (((p : Place) → HasStatus what p → ⊥) → done.1 ≢ Fine → after.1 ≡ Some (error_stop line (code_of done.1)))
      × (done.1 ≡ Fine → ((what ≡ statement.End → ⊥) → after.1 ≡ None) × (what ≡ statement.End → after.1 ≡ Some ended))
  by_done after is = (
    λ other. (
      ap (λ (x : State × Condition). x.1) (acts_told st.1 variables told what (condition_of es) other),
      λ h. subst (λ (x : State × Option Ending). IsUntouched s x.0) (sym is) (untouched other h),
    ),
    λ e. ap (λ c. (acts st.1 variables told what c).1) e,
    λ p h. (
      ap (λ (x : State × Option Ending). x.1) is ∙ caught_goes line what p done.1 h,
      λ v e. number_then variables (iostat_of what) p (code_of done.1) (with_new_unit variables what done.1 done.0.new_unit done.0.vars) v (status_is what p h)
          (sym (ap (λ (x : State × Option Ending). element_at x.0.vars p) is) ∙ e),
    ),
    λ none other. ap (λ (x : State × Option Ending). x.1) is ∙ uncaught_ends line what done.1 (no_status what none) other,
    λ e. (
      λ other. ap (λ (x : State × Option Ending). x.1) is ∙ ap (ends line what) e ∙ fine_goes line what other,
      λ end. ap (λ (x : State × Option Ending). x.1) is ∙ ap (ends line what) e ∙ ap (λ w. ends line w Fine) end,
    ),
  )

pub conclude : ConditionsConclude
unfolding step
conclude variables st s allowed =
    let is : step variables st s ≡ completed variables st.0.line st.0.what (done variables st s) = ap (goes_on st.1 variables st.0.line st.0.what s) allowed in
    let all = by_done variables st s (step variables st s) is in record {
      condition = (done variables st s).1;
      code = code_of (done variables st s).1;
      is_code = coded (done variables st s).1;
      told = all.0;
      own = all.1;
      caught = all.2;
      uncaught = all.3;
      ends = all.4;
    }
