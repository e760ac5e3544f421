-- The statement at hand of a machine: it has its number once it has begun, and nothing else of it differs from the one in the deck.
use Rattle.std.proofs.Common.{◌≡◌, ℕ, zero, suc, ◌+◌, Bool, List, [], ◌∷◌, drop, length, slice_get, slice_set, Option, Some, None, IfSome, unwrap_or, refl, sym, ap, subst, ◌∙◌}
use Rattle.std.specs.Option.{option_map, option_map_or}
use Rattle.fj_value.specs.declared.place.Place.{Place}
use Rattle.fj_value.specs.declared.value.Value.{Value}
use Rattle.fj_outside.specs.declared.outside.FileStore.{Ghosts}
use Rattle.fj_statement.specs.Sound.{IsFile, IsGiven, IsSoundStatement, IsUnit, Variables}
use Rattle.fj_statement.specs.Units.{begun, held_number, internal_of, number_due, number_held, numbered as unit_numbered, unit_of, with_number}
use Rattle.fj_statement.specs.declared.deck.Lined.{Lined}
use Rattle.fj_statement.specs.declared.unit.UnitRef.{UnitRef}
use Rattle.fj_statement.specs.declared.unit.UnitRef.TheVariants as unit
use Rattle.fj_statement.specs.declared.unit.Subject.TheVariants as subject
use Rattle.fj_statement.specs.declared.statement.Statement.{Statement}
use Rattle.fj_statement.specs.declared.statement.Statement.TheVariants as statement
use Rattle.fj_statement.specs.declared.deck.Variable.{Variable}
use Rattle.fj_store.specs.Variables.{value_at}
use Rattle.fj_bay.specs.Jobs.{Job as Task}
use Rattle.fj_bay.specs.Plain.{reply_of, task_of}
use Rattle.fj_meaning.specs.Statement.{Stated, begins, control_by, stated}
use Rattle.fj_meaning.proofs.Begun.{begun_with, with_twice}
use Rattle.fj_meaning_jobs.specs.Core.{Connected, Core}
use Rattle.fj_meaning_turns.specs.Run.{Run, Stage as PlainStage, Start, Waiting, Acting, Awaiting}
use Rattle.fj_meaning_turns.specs.Turns.{begun_for, hand_at, settles, turn, turn_act, turn_begun, turn_on, turn_wait}
use Rattle.fj_meaning_turns.specs.Passing.{knows_on, told_on}
use Rattle.fj_meaning_cut.specs.Turning.{doing_on}
use Rattle.fj_run_statements.specs.Doing.{then_of}
use Rattle.fj_run_statements.specs.Calling.{calls_disk, may_await, may_close}
use Rattle.fj_run_statements.specs.declared.doing.Then.{Then}
use Rattle.fj_run_statements.specs.declared.doing.Then.TheVariants as then
use Rattle.fj_run_script.specs.Closing.{may_be_at}
use Rattle.fj_run_script.specs.Going.{HaveAt}
use Rattle.fj_run_script.specs.Handing.{number_by, put_in}
use Rattle.fj_run_script.specs.Machine.{numbered, rest_of, stage_of}
use Rattle.fj_run_script.specs.Spending.{jobs_from}
use Rattle.fj_run_script.specs.declared.machine.AtHand.{AtHand}
use Rattle.fj_run_script.specs.declared.machine.Machine.{Machine}
use Rattle.fj_run_script.specs.declared.stage.Stage.{Stage}
use Rattle.fj_run_script.specs.declared.stage.Stage.TheVariants as stage

some_same : {X : Type 0} (x y : X) → Some x ≡ Some y → x ≡ y
some_same x y e = ap (λ o. unwrap_or o x) e

-- ---- the same place of the same deck

module _ {F : Type 0} {ghosts : Ghosts F} (m m' : Machine F ghosts) where
  pub same_place : m'.at ≡ m.at → m'.at.place ≡ m.at.place
  same_place at = ap (λ (a : AtHand). a.place) at

  pub rest_same : m'.deck ≡ m.deck → m'.at ≡ m.at → rest_of m' ≡ rest_of m
  rest_same deck at =
      ap (λ (a : AtHand). numbered a.number (drop a.place (stated m'.deck.statements))) at ∙ ap (λ d. numbered m.at.number (drop m.at.place (stated d.statements))) deck

  pub behind_same : m'.deck ≡ m.deck → m'.at.place ≡ m.at.place → drop (m'.at.place + 1) (stated m'.deck.statements) ≡ drop (m.at.place + 1) (stated m.deck.statements)
  behind_same deck place = ap (λ d. drop (m'.at.place + 1) (stated d.statements)) deck ∙ ap (λ n. drop (n + 1) (stated m.deck.statements)) place

  pub behind_jobs : m'.deck ≡ m.deck → m'.at.place ≡ m.at.place → jobs_from (length m'.deck.statements) (m'.at.place + 1) ≡ jobs_from (length m.deck.statements) (m.at.place + 1)
  behind_jobs deck place = ap (λ d. jobs_from (length d.statements) (m'.at.place + 1)) deck ∙ ap (λ n. jobs_from (length m.deck.statements) (n + 1)) place

-- ---- what a number does not change

control_with : (n : ℕ) (w : Statement) → control_by (with_number n w) ≡ control_by w
control_with n (statement.Assign to from) = refl
control_with n (statement.OpenUnit u spec iostat) = refl
control_with n (statement.CloseUnit u keep iostat) = refl
control_with n (statement.WaitFor u id iostat) = refl
control_with n (statement.Move how u iostat) = refl
control_with n (statement.Inquire (subject.Unit u) asked id iostat _) = refl
control_with n (statement.Inquire (subject.File name) asked id iostat _) = refl
control_with n (statement.Transfer t) = refl
control_with n statement.End = refl

close_with : (n : ℕ) (w : Statement) → may_close (with_number n w) ≡ may_close w
close_with n (statement.Assign to from) = refl
close_with n (statement.OpenUnit u spec iostat) = refl
close_with n (statement.CloseUnit u keep iostat) = refl
close_with n (statement.WaitFor u id iostat) = refl
close_with n (statement.Move how u iostat) = refl
close_with n (statement.Inquire (subject.Unit u) asked id iostat _) = refl
close_with n (statement.Inquire (subject.File name) asked id iostat _) = refl
close_with n (statement.Transfer t) = refl
close_with n statement.End = refl

calls_with : (n : ℕ) (w : Statement) → calls_disk (with_number n w) ≡ calls_disk w
calls_with n (statement.Assign to from) = refl
calls_with n (statement.OpenUnit u spec iostat) = refl
calls_with n (statement.CloseUnit u keep iostat) = refl
calls_with n (statement.WaitFor u id iostat) = refl
calls_with n (statement.Move how u iostat) = refl
calls_with n (statement.Inquire (subject.Unit u) asked id iostat _) = refl
calls_with n (statement.Inquire (subject.File name) asked id iostat _) = refl
calls_with n (statement.Transfer t) = refl
calls_with n statement.End = refl

is_unit_with : (vs : Variables) (n : ℕ) (u : UnitRef) → IsUnit vs u → IsUnit vs (unit_numbered n u)
is_unit_with vs n unit.Star s = s
is_unit_with vs n (unit.Number k) s = s
is_unit_with vs n (unit.Held place k) s = s
is_unit_with vs n (unit.New place k) s = s
is_unit_with vs n (unit.Internal file) s = s

star_with : (n : ℕ) (u : UnitRef) → unit_numbered n u ≡ unit.Star → u ≡ unit.Star
star_with n unit.Star e = refl
star_with n (unit.Number k) e = cc
star_with n (unit.Held place k) e = cc
star_with n (unit.New place k) e = cc
star_with n (unit.Internal file) e = cc

internal_with : (n : ℕ) (u : UnitRef) → internal_of (unit_numbered n u) ≡ internal_of u
internal_with n unit.Star = refl
internal_with n (unit.Number k) = refl
internal_with n (unit.Held place k) = refl
internal_with n (unit.New place k) = refl
internal_with n (unit.Internal file) = refl

pub sound_with : (vs : Variables) (n : ℕ) (w : Statement) → IsSoundStatement vs w → IsSoundStatement vs (with_number n w)
sound_with vs n (statement.Assign to from) s = s
sound_with vs n (statement.OpenUnit u spec iostat) s = (is_unit_with vs n u s.0, s.1)
sound_with vs n (statement.CloseUnit u keep iostat) s = (is_unit_with vs n u s.0, s.1)
sound_with vs n (statement.WaitFor u id iostat) s = (is_unit_with vs n u s.0, s.1, s.2)
sound_with vs n (statement.Move how u iostat) s = (is_unit_with vs n u s.0, s.1)
sound_with vs n (statement.Inquire (subject.Unit u) asked id iostat _) s = record { subject_is = is_unit_with vs n u s.subject_is; questions = s.questions; id_is = s.id_is; iostat_is = s.iostat_is }
sound_with vs n (statement.Inquire (subject.File name) asked id iostat _) s = s
sound_with vs n (statement.Transfer t) s = record {
  unit_is = is_unit_with vs n t.unit s.unit_is;
  file_is = subst (λ o. IfSome o (IsFile vs)) (sym (internal_with n t.unit)) s.file_is;
  allowed = record {
    id_needs_asynchronous = s.allowed.id_needs_asynchronous;
    size_needs_advance = s.allowed.size_needs_advance;
    advance_needs_format = s.allowed.advance_needs_format;
    blank_needs_format = s.allowed.blank_needs_format;
    decimal_needs_format = s.allowed.decimal_needs_format;
    delim_needs_format = s.allowed.delim_needs_format;
    pad_needs_format = s.allowed.pad_needs_format;
    sign_needs_format = s.allowed.sign_needs_format;
    record_excludes_position = s.allowed.record_excludes_position;
    record_excludes_lists = s.allowed.record_excludes_lists;
    group_excludes_items = s.allowed.group_excludes_items;
    star_has_no_record = λ e. s.allowed.star_has_no_record (star_with n t.unit e);
    star_has_no_position = λ e. s.allowed.star_has_no_position (star_with n t.unit e);
    internal = λ given.
        let is_internal = s.allowed.internal (subst IsGiven (internal_with n t.unit) given) in
        record { has_format = is_internal.has_format; has_no_record = is_internal.has_no_record; has_no_position = is_internal.has_no_position; has_no_advance = is_internal.has_no_advance; is_at_once = is_internal.is_at_once };
    read_has_places = s.allowed.read_has_places;
    read_has_widths = s.allowed.read_has_widths;
  };
  items = s.items;
  members = s.members;
  rec = s.rec;
  pos = s.pos;
  id = s.id;
  size = s.size;
  iostat = s.iostat;
}
sound_with vs n statement.End s = s

-- ---- the number put in, and put back

unit_back : (u : UnitRef) → unit_numbered (held_number u) u ≡ u
unit_back unit.Star = refl
unit_back (unit.Number m) = refl
unit_back (unit.Held place m) = refl
unit_back (unit.New place m) = refl
unit_back (unit.Internal file) = refl

pub with_held : (w : Statement) → with_number (number_held w) w ≡ w
with_held (statement.Assign to from) = refl
with_held (statement.OpenUnit u spec iostat) = ap (λ x. statement.OpenUnit x spec iostat) (unit_back u)
with_held (statement.CloseUnit u keep iostat) = ap (λ x. statement.CloseUnit x keep iostat) (unit_back u)
with_held (statement.WaitFor u id iostat) = ap (λ x. statement.WaitFor x id iostat) (unit_back u)
with_held (statement.Move how u iostat) = ap (λ x. statement.Move how x iostat) (unit_back u)
with_held (statement.Inquire (subject.Unit u) asked id iostat done) = ap (λ x. statement.Inquire (subject.Unit x) asked id iostat done) (unit_back u)
with_held (statement.Inquire (subject.File name) asked id iostat _) = refl
with_held (statement.Transfer t) = ap (λ x. statement.Transfer (record t { unit = x })) (unit_back t.unit)
with_held statement.End = refl

pub number_back : (o : Option ℕ) (w : Statement) → with_number (number_held w) (put_in o w) ≡ w
number_back None w = with_held w
number_back (Some n) w = with_twice n (number_held w) w ∙ with_held w

pub put_sound : (vs : Variables) (o : Option ℕ) (w : Statement) → IsSoundStatement vs w → IsSoundStatement vs (put_in o w)
put_sound vs None w s = s
put_sound vs (Some n) w s = sound_with vs n w s

await_with : (n : ℕ) (w : Statement) (next : Then) → may_await (with_number n w) next ≡ may_await w next
await_with n w (then.Closes number keep next) = close_with n w
await_with n w _ = refl

may_with : {F : Type 0} (n : ℕ) (w : Statement) (s : Stage F) → may_be_at (with_number n w) s ≡ may_be_at w s
may_with n w stage.Start = refl
may_with n w (stage.Waiting whose from) = refl
may_with n w (stage.Resuming slots next condition) = refl
may_with n w (stage.Going next number) = refl
may_with n w (stage.Awaiting slot number next) = await_with n w next
may_with n w (stage.Answered next job answer) = await_with n w next

pub may_put : {F : Type 0} (o : Option ℕ) (w : Statement) (s : Stage F) → may_be_at (put_in o w) s ≡ may_be_at w s
may_put None w s = refl
may_put (Some n) w s = may_with n w s

-- ---- the statement at hand

-- with its number, and those behind it
pub hand_put : (o : Option ℕ) (l : Lined) (more : List Stated) → numbered o ((l, control_by l.what) ∷ more) ≡ (record l { what = put_in o l.what }, control_by (put_in o l.what)) ∷ more
hand_put None l more = refl
hand_put (Some n) l more = ap (λ f. (record l { what = with_number n l.what }, f) ∷ more) (sym (control_with n l.what))

-- ---- its turn, as it has its number

pub calls_hand : (first hand : Stated) (stage : PlainStage) (r : Run) → hand_at first stage r ≡ hand → calls_disk hand.0.what ≡ calls_disk first.0.what
calls_hand first hand Start r e = ap (λ (x : Stated). calls_disk x.0.what) (sym e) ∙ calls_with _ first.0.what
calls_hand first hand Waiting r e = ap (λ (x : Stated). calls_disk x.0.what) (sym e)
calls_hand first hand (Acting does) r e = ap (λ (x : Stated). calls_disk x.0.what) (sym e)
calls_hand first hand (Awaiting slot number next) r e = ap (λ (x : Stated). calls_disk x.0.what) (sym e)

pub comes_on : (first hand : Stated) (more : List Stated) (stage : PlainStage) (r : Run) → r.rest ≡ first ∷ more → hand_at first stage r ≡ hand
    → turn first stage r ≡ turn_on hand stage (record r { rest = hand ∷ more })
comes_on first hand more Start r h e =
    ap (λ l. turn_begun (begun_for r first) (record r { rest = begun_for r first ∷ drop 1 l })) h ∙ ap (λ x. turn_begun x (record r { rest = x ∷ more })) e
comes_on first hand more Waiting r h e = ap (λ l. turn_wait first (record r { rest = l })) h ∙ ap (λ x. turn_wait x (record r { rest = x ∷ more })) e
comes_on first hand more (Acting does) r h e = ap (λ l. turn_act first does (record r { rest = l })) h ∙ ap (λ x. turn_act x does (record r { rest = x ∷ more })) e
comes_on first hand more (Awaiting slot number next) r h e =
    ap (λ l. settles slot (Awaiting slot number next) (record r { rest = l })) h ∙ ap (λ x. settles slot (Awaiting slot number next) (record r { rest = x ∷ more })) e

pub knows_with : (x : Stated) (stage : PlainStage) (r : Run) (rest : List Stated) → knows_on x stage (record r { rest = rest }) → knows_on x stage r
knows_with x Start r rest k = k
knows_with x Waiting r rest k = k
knows_with x (Acting does) r rest k = k
knows_with x (Awaiting slot number next) r rest k = k

pub doing_with : (x : Stated) (stage : PlainStage) (r : Run) (rest : List Stated) → doing_on x stage (record r { rest = rest }) ≡ doing_on x stage r
doing_with x Start r rest = refl
doing_with x Waiting r rest = refl
doing_with x (Acting does) r rest = refl
doing_with x (Awaiting slot number next) r rest = refl

pub told_with : (x : Stated) (stage : PlainStage) (r : Run) (rest : List Stated) → told_on x stage (record r { rest = rest }) ≡ told_on x stage r
told_with x Start r rest = refl
told_with x Waiting r rest = refl
told_with x (Acting does) r rest = refl
told_with x (Awaiting slot number next) r rest = refl

-- ---- what it is, by its stage

control_put : (o : Option ℕ) (w : Statement) → control_by (put_in o w) ≡ control_by w
control_put None w = refl
control_put (Some n) w = control_with n w

begun_put : (at : Place → Value) (new : ℕ) (o : Option ℕ) (w : Statement) → begun at new (put_in o w) ≡ begun at new w
begun_put at new None w = refl
begun_put at new (Some n) w = begun_with at new n w

-- a statement of the deck with its number
abbrev pub hand_with : Option ℕ → Lined → Stated
hand_with o l = (record l { what = put_in o l.what }, control_by (put_in o l.what))

-- as it begins
pub began : (core : Core) (l : Lined) (since : Option ℕ) (r : Run) → r.core ≡ core
    → begun_for r (hand_with since l) ≡ hand_with (Some (option_map_or (number_due (value_at core.vars) core.new_unit) (unit_of l.what) 0)) l
began core l since r same =
    ap (λ (k : Core). begins k.vars k.new_unit (hand_with since l)) same
    ∙ ap (λ w. (record l { what = w }, control_by (put_in since l.what))) (begun_put (value_at core.vars) core.new_unit since l.what)
    ∙ ap (λ f. (record l { what = begun (value_at core.vars) core.new_unit l.what }, f)) (control_put since l.what ∙ sym (control_put (Some (option_map_or (number_due (value_at core.vars) core.new_unit) (unit_of l.what) 0)) l.what))

module _ {F : Type 0} (told : F → Bool) (bytes : F → List ℕ) (variables : List Variable) (core : Core) (l : Lined) (since : Option ℕ) (more : List Stated) (r : Run) (same : r.core ≡ core) where
  abbrev due : Option ℕ
  due = Some (option_map_or (number_due (value_at core.vars) core.new_unit) (unit_of l.what) 0)

  abbrev first : Stated
  first = hand_with since l

  past : (x stage : PlainStage) → Some x ≡ Some stage → hand_at first x r ≡ first → hand_at first stage r ≡ first
  past x stage e h = subst (λ y. hand_at first y r ≡ first) (some_same x stage e) h

  pub hand_due : (s : Stage F) (stage : PlainStage) → stage_of told bytes variables (hand_with since l ∷ more) core s ≡ Some stage
      → hand_at (hand_with since l) stage r ≡ hand_with (number_by s (Some (option_map_or (number_due (value_at core.vars) core.new_unit) (unit_of l.what) 0)) since) l
  hand_due stage.Start stage e = subst (λ y. hand_at (hand_with since l) y r ≡ hand_with (Some (option_map_or (number_due (value_at core.vars) core.new_unit) (unit_of l.what) 0)) l) (some_same Start stage e) (began core l since r same)
  hand_due (stage.Waiting whose from) stage e = past Waiting stage e refl
  hand_due (stage.Resuming slots next condition) stage e = past _ stage e refl
  hand_due (stage.Going next number) stage e = past _ stage e refl
  hand_due (stage.Awaiting slot number next) stage e = past _ stage e refl
  hand_due (stage.Answered next job answer) stage e = by (task_of told bytes job) e
    where
      by : (o : Option Task) → option_map (λ task. Acting (then_of variables (hand_with since l) core next (task, reply_of answer))) o ≡ Some stage → hand_at (hand_with since l) stage r ≡ hand_with since l
      by None e = cc
      by (Some task) e = past _ stage e refl

  pub stage_due : (s : Stage F) (stage : PlainStage) → stage_of told bytes variables (hand_with since l ∷ more) core s ≡ Some stage
      → stage_of told bytes variables (hand_with (number_by s (Some (option_map_or (number_due (value_at core.vars) core.new_unit) (unit_of l.what) 0)) since) l ∷ more) core s ≡ Some stage
  stage_due stage.Start stage e = e
  stage_due (stage.Waiting whose from) stage e = e
  stage_due (stage.Resuming slots next condition) stage e = e
  stage_due (stage.Going next number) stage e = e
  stage_due (stage.Awaiting slot number next) stage e = e
  stage_due (stage.Answered next job answer) stage e = e

-- units and files at its stage
pub have_due : {F : Type 0} (s : Stage F) (names : List (List ℕ)) (us : List Connected) (due since : Option ℕ) (l : Lined) → HaveAt s names us (put_in since l.what) → HaveAt s names us (put_in (number_by s due since) l.what)
have_due stage.Start names us due since l h = h
have_due (stage.Waiting whose from) names us due since l h = h
have_due (stage.Resuming slots next condition) names us due since l h = h
have_due (stage.Going next number) names us due since l h = h
have_due (stage.Awaiting slot number next) names us due since l h = h
have_due (stage.Answered next job answer) names us due since l h = h

-- ---- the deck is as it was

pub set_back : (sts : List Lined) (at : ℕ) (l none back : Lined) → slice_get sts at ≡ Some l → back ≡ l → slice_set (slice_set sts at none) at back ≡ sts
set_back [] at l none back e same = cc
set_back (x ∷ xs) zero l none back e same = ap (λ y. y ∷ xs) (same ∙ sym (some_same x l e))
set_back (x ∷ xs) (suc n) l none back e same = ap (λ ys. x ∷ ys) (set_back xs n l none back e same)

pub deck_back : (sts sts1 sts2 : List Lined) (place : ℕ) (l none : Lined) (o : Option ℕ) (held : ℕ) (w1 w2 : Statement) → slice_get sts place ≡ Some l → sts1 ≡ slice_set sts place none → w1 ≡ put_in o l.what
    → held ≡ number_held l.what → w2 ≡ with_number held w1 → sts2 ≡ slice_set sts1 place (record l { what = w2 }) → sts2 ≡ sts
deck_back sts sts1 sts2 place l none o held w1 w2 item out put held_is back in_again =
    let same : w2 ≡ l.what = back ∙ ap (λ k. with_number k w1) held_is ∙ ap (with_number (number_held l.what)) put ∙ number_back o l.what in
    in_again ∙ ap (λ xs. slice_set xs place (record l { what = w2 })) out ∙ set_back sts place l none (record l { what = w2 }) item (ap (λ w. record l { what = w }) same)
