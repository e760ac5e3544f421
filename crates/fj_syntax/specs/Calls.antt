-- The input/output statements from their tokens: what is given for each specifier.
use Rattle.std.specs.Prelude.{Bool, false, not, List, [], ◌∷◌, ◌++◌, Option, Some, None}
use Rattle.fj_modes.specs.declared.asked.Question.TheVariants as question
use Rattle.fj_modes.specs.declared.motion.Motion.{Motion}
use Rattle.fj_modes.specs.ModeWords.{status_words, access_words, position_words, action_words, delim_words, disposition_words, form_words, blank_words, decimal_words, sign_words, answer_words}
use Rattle.fj_syntax.specs.declared.words.Keyword.TheVariants as keyword
use Rattle.fj_syntax.specs.declared.words.Specifier.TheVariants as specifier
use Rattle.fj_modes.specs.declared.specifiers.OpenSpec.{OpenSpec}
pub use Rattle.fj_syntax.specs.declared.written.OnUnit.{OnUnit}
use Rattle.fj_syntax.specs.declared.written.Asking.{Asking}
use Rattle.fj_syntax.specs.declared.written.Inquire.{Inquire}
use Rattle.fj_syntax.specs.declared.written.Subject.{Subject}
use Rattle.fj_syntax.specs.declared.written.Subject.TheVariants as subject
use Rattle.fj_syntax.specs.declared.written.Transfer.{Transfer}
use Rattle.fj_syntax.specs.declared.written.Unit.{Unit}
use Rattle.fj_syntax.specs.Arguments.{Argument, Given, given_for, whole_call_of}
use Rattle.fj_syntax.specs.Given.{given_at, place_given, integer_given, mode_at, file_given, unit_given, unit_at, unit_opened, format_given, group_given, recl_given}
use Rattle.fj_syntax.specs.Parts.{Tokens, Operand}
use Rattle.fj_syntax.specs.Reading.{◌>>=◌}
use Rattle.fj_syntax.specs.Words.{Specifier}

-- ---- the statements

-- a unit and IOSTAT= beside what else a statement says
abbrev pub on_unit : {A : Type 0} → Unit → A → List Argument → Option (OnUnit A)
on_unit unit what args = do
  iostat ← given_at place_given specifier.Iostat args
  Some (record { unit = unit; what = what; iostat = iostat })

unfoldable pub open_of : Tokens → Option (OnUnit OpenSpec)
open_of ts = do
  args ← whole_call_of keyword.Open ts
  file ← given_at file_given specifier.File args
  status ← mode_at status_words specifier.Status args
  access ← mode_at access_words (specifier.Property question.Access) args
  formatted ← mode_at form_words (specifier.Property question.Form) args
  recl ← given_at recl_given (specifier.Property question.Recl) args
  position ← mode_at position_words specifier.Position args
  action ← mode_at action_words (specifier.Property question.Action) args
  blank_zero ← mode_at blank_words (specifier.Property question.Blank) args
  delim ← mode_at delim_words (specifier.Property question.Delim) args
  pad ← mode_at answer_words (specifier.Property question.Pad) args
  comma ← mode_at decimal_words (specifier.Property question.Decimal) args
  plus ← mode_at sign_words (specifier.Property question.Sign) args
  asynchronous ← mode_at answer_words (specifier.Property question.Asynchronous) args
  unit ← unit_opened args
  on_unit unit (record {
    file = file;
    status = status;
    access = access;
    formatted = formatted;
    recl = recl;
    position = position;
    action = action;
    blank_zero = blank_zero;
    delim = delim;
    pad = pad;
    comma = comma;
    plus = plus;
    asynchronous = asynchronous;
  }) args

abbrev pub close_of : Tokens → Option (OnUnit (Option Bool))
close_of ts = do
  args ← whole_call_of keyword.Close ts
  keep ← mode_at disposition_words specifier.Status args
  unit ← unit_at false args
  on_unit unit keep args

abbrev pub wait_of : Tokens → Option (OnUnit (Option Operand))
wait_of ts = do
  args ← whole_call_of keyword.Wait ts
  id ← given_at integer_given specifier.Id args
  unit ← unit_at false args
  on_unit unit id args

abbrev pub move_of : Motion → Tokens → Option (OnUnit Motion)
move_of how ts = do
  args ← whole_call_of (keyword.Move how) ts
  unit ← unit_at false args
  on_unit unit how args

-- the question of a specifier, with the place for its answer; other specifiers of INQUIRE ask nothing
abbrev pub asking : Specifier → Given → Option (List Asking)
asking (specifier.Property q) value = place_given value >>= (λ d. Some (record { what = q; place = d } ∷ []))
asking s value = Some []

-- the questions, in order
abbrev pub asked_of : List Argument → Option (List Asking)
asked_of [] = Some []
asked_of (a ∷ args) = do
  one ← asking a.specifier a.value
  more ← asked_of args
  Some (one ++ more)

-- a unit or a file, and not both
abbrev pub subject_from : Option Given → Option Given → Option Subject
subject_from None (Some f) = file_given f >>= (λ name. Some (subject.File name))
subject_from (Some u) None = unit_given false u >>= (λ n. Some (subject.Unit n))
subject_from u f = None

abbrev pub subject_of : List Argument → Option Subject
subject_of args = subject_from (given_for specifier.Unit args) (given_for specifier.File args)

unfoldable pub inquire_of : Tokens → Option Inquire
inquire_of ts = do
  args ← whole_call_of keyword.Inquire ts
  about ← subject_of args
  asked ← asked_of args
  id ← given_at integer_given specifier.Id args
  iostat ← given_at place_given specifier.Iostat args
  Some (record { about = about; asked = asked; id = id; iostat = iostat })

-- only WRITE takes an asterisk for its unit
unfoldable pub transfer_of : Bool → List Argument → List Operand → Option Transfer
transfer_of input args items = do
  unit ← unit_at (not input) args
  format ← given_at format_given specifier.Fmt args
  group ← given_at group_given specifier.Nml args
  advance ← mode_at answer_words specifier.Advance args
  asynchronous ← mode_at answer_words (specifier.Property question.Asynchronous) args
  blank_zero ← mode_at blank_words (specifier.Property question.Blank) args
  comma ← mode_at decimal_words (specifier.Property question.Decimal) args
  delim ← mode_at delim_words (specifier.Property question.Delim) args
  pad ← mode_at answer_words (specifier.Property question.Pad) args
  plus ← mode_at sign_words (specifier.Property question.Sign) args
  rec ← given_at integer_given specifier.Rec args
  pos ← given_at integer_given (specifier.Property question.Pos) args
  id ← given_at place_given specifier.Id args
  size ← given_at place_given (specifier.Property question.Size) args
  iostat ← given_at place_given specifier.Iostat args
  Some (record {
    input = input;
    unit = unit;
    format = format;
    group = group;
    advance = advance;
    asynchronous = asynchronous;
    blank_zero = blank_zero;
    comma = comma;
    delim = delim;
    pad = pad;
    plus = plus;
    rec = rec;
    pos = pos;
    id = id;
    size = size;
    iostat = iostat;
    items = items;
  })
