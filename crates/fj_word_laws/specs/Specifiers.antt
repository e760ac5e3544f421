-- What each specifier gives, and each of its words: one field of the statement, and no other (ISO/IEC 1539-1:2004, 9.4.5, 9.4.6, 9.5.1, 9.9.1).
use Prim.Native.String.{String}
use Rattle.std.specs.Prelude.{◌≡◌, Bool, true, false, List, [], ◌∷◌, map, Option, Some, None, codes}
use Rattle.fj_value.specs.declared.edit.Delim.TheVariants as delim
use Rattle.fj_modes.specs.OpenSpec.{bare}
use Rattle.fj_modes.specs.declared.asked.Question.{Question}
use Rattle.fj_modes.specs.declared.asked.Question.TheVariants as question
use Rattle.fj_modes.specs.declared.specifiers.OpenSpec.{OpenSpec}
use Rattle.fj_modes.specs.declared.specifiers.FileStatus.TheVariants as status
use Rattle.fj_modes.specs.declared.specifiers.Access.TheVariants as access
use Rattle.fj_modes.specs.declared.specifiers.Start.TheVariants as start
use Rattle.fj_modes.specs.declared.specifiers.Action.TheVariants as action
use Rattle.fj_syntax.specs.Calls.{open_of, close_of, inquire_of}
use Rattle.fj_syntax.specs.KnownLaws.{behind_unit, a_place, a_number, texts}
use Rattle.fj_syntax.specs.Parts.{Tokens}
use Rattle.fj_syntax.specs.Statement.{transfer_from}
use Rattle.fj_syntax.specs.declared.operand.Designator.{Designator}
use Rattle.fj_syntax.specs.declared.operand.Operand.{Operand}
use Rattle.fj_syntax.specs.declared.operand.Operand.TheVariants as operand
use Rattle.fj_syntax.specs.declared.token.Sign.TheVariants.{Unsigned}
use Rattle.fj_syntax.specs.declared.written.Inquire.{Inquire}
use Rattle.fj_syntax.specs.declared.written.OnUnit.{OnUnit}
use Rattle.fj_syntax.specs.declared.written.Transfer.{Transfer}
use Rattle.fj_syntax.specs.declared.written.Unit.TheVariants as unit
use Rattle.fj_syntax.specs.declared.written.Subject.TheVariants as subject
use Rattle.fj_syntax.specs.declared.written.Format.TheVariants as format
use Rattle.fj_syntax.specs.declared.written.Written.TheVariants as written

-- the variable N and the number 5, as they are read
abbrev pub variable : Designator
variable = record { name = codes "N"; number = None }

abbrev pub number : Operand
number = operand.Number Unsigned 5

-- on unit 5, without IOSTAT=
abbrev pub on_unit_5 : {A : Type 0} → A → OnUnit A
on_unit_5 what = record { unit = unit.Number 5; what = what; iostat = None }

-- a READ or WRITE on unit 5 in which nothing else is given
abbrev pub bare_transfer : Bool → Transfer
bare_transfer input = record {
  input = input;
  unit = unit.Number 5;
  format = None;
  group = None;
  advance = None;
  asynchronous = None;
  blank_zero = None;
  comma = None;
  delim = None;
  pad = None;
  plus = None;
  rec = None;
  pos = None;
  id = None;
  size = None;
  iostat = None;
  items = [];
}

-- OPEN(5,SPECIFIER='WORD') of each word, in order
abbrev pub opens : String → String → List OpenSpec → Type 0
opens specifier words specs = map (λ v. open_of (behind_unit (codes specifier) v)) (texts words) ≡ map (λ spec. Some (on_unit_5 spec)) specs

-- READ or WRITE(5,SPECIFIER=value) of each value, in order
abbrev pub transfers : Bool → String → Tokens → List Transfer → Type 0
transfers input specifier values ts = map (λ v. transfer_from input (behind_unit (codes specifier) v)) values ≡ map (λ (t : Transfer). Some (written.Transfer t)) ts

-- OPEN (9.4.5)
pub record OpenGives : Type 0 where
  pub status : opens "STATUS" "OLD NEW SCRATCH REPLACE UNKNOWN" (map (λ m. record bare { status = Some m }) (status.Old ∷ status.New ∷ status.Scratch ∷ status.Replace ∷ status.Unknown ∷ []))
  pub access : opens "ACCESS" "SEQUENTIAL DIRECT STREAM" (map (λ m. record bare { access = Some m }) (access.Sequential ∷ access.Direct ∷ access.Stream ∷ []))
  pub form : opens "FORM" "FORMATTED UNFORMATTED" (map (λ m. record bare { formatted = Some m }) (true ∷ false ∷ []))
  pub position : opens "POSITION" "ASIS REWIND APPEND" (map (λ m. record bare { position = Some m }) (start.AsIs ∷ start.Rewind ∷ start.Append ∷ []))
  pub action : opens "ACTION" "READ WRITE READWRITE" (map (λ m. record bare { action = Some m }) (action.Read ∷ action.Write ∷ action.ReadWrite ∷ []))
  pub blank : opens "BLANK" "NULL ZERO" (map (λ m. record bare { blank_zero = Some m }) (false ∷ true ∷ []))
  pub decimal : opens "DECIMAL" "COMMA POINT" (map (λ m. record bare { comma = Some m }) (true ∷ false ∷ []))
  pub delim : opens "DELIM" "APOSTROPHE QUOTE NONE" (map (λ m. record bare { delim = Some m }) (delim.Apostrophe ∷ delim.Quote ∷ delim.Plain ∷ []))
  pub pad : opens "PAD" "YES NO" (map (λ m. record bare { pad = Some m }) (true ∷ false ∷ []))
  pub sign : opens "SIGN" "PLUS SUPPRESS PROCESSOR_DEFINED" (map (λ m. record bare { plus = Some m }) (true ∷ false ∷ false ∷ []))
  pub asynchronous : opens "ASYNCHRONOUS" "YES NO" (map (λ m. record bare { asynchronous = Some m }) (true ∷ false ∷ []))
  pub file : opens "FILE" "DATA" (map (λ m. record bare { file = Some m }) (codes "DATA" ∷ []))
  pub recl : map (λ v. open_of (behind_unit (codes "RECL") v)) a_number ≡ Some (on_unit_5 (record bare { recl = Some 5 })) ∷ []

-- READ (9.5.1)
pub record ReadGives : Type 0 where
  pub blank : transfers true "BLANK" (texts "NULL ZERO") (map (λ m. record (bare_transfer true) { blank_zero = Some m }) (false ∷ true ∷ []))
  pub pad : transfers true "PAD" (texts "YES NO") (map (λ m. record (bare_transfer true) { pad = Some m }) (true ∷ false ∷ []))
  pub size : transfers true "SIZE" (a_place) (map (λ m. record (bare_transfer true) { size = Some m }) (variable ∷ []))
  pub decimal : transfers true "DECIMAL" (texts "COMMA POINT") (map (λ m. record (bare_transfer true) { comma = Some m }) (true ∷ false ∷ []))
  pub advance : transfers true "ADVANCE" (texts "YES NO") (map (λ m. record (bare_transfer true) { advance = Some m }) (true ∷ false ∷ []))
  pub asynchronous : transfers true "ASYNCHRONOUS" (texts "YES NO") (map (λ m. record (bare_transfer true) { asynchronous = Some m }) (true ∷ false ∷ []))
  pub rec_number : transfers true "REC" (a_number) (map (λ m. record (bare_transfer true) { rec = Some m }) (number ∷ []))
  pub rec_place : transfers true "REC" (a_place) (map (λ m. record (bare_transfer true) { rec = Some m }) (operand.Place variable ∷ []))
  pub pos_number : transfers true "POS" (a_number) (map (λ m. record (bare_transfer true) { pos = Some m }) (number ∷ []))
  pub pos_place : transfers true "POS" (a_place) (map (λ m. record (bare_transfer true) { pos = Some m }) (operand.Place variable ∷ []))
  pub id : transfers true "ID" (a_place) (map (λ m. record (bare_transfer true) { id = Some m }) (variable ∷ []))
  pub iostat : transfers true "IOSTAT" (a_place) (map (λ m. record (bare_transfer true) { iostat = Some m }) (variable ∷ []))
  pub group : transfers true "NML" (a_place) (map (λ m. record (bare_transfer true) { group = Some m }) (codes "N" ∷ []))
  pub format : transfers true "FMT" (texts "(I5)") (map (λ m. record (bare_transfer true) { format = Some m }) (format.Literal (codes "(I5)") ∷ []))

-- WRITE (9.5.1)
pub record WriteGives : Type 0 where
  pub delim : transfers false "DELIM" (texts "APOSTROPHE QUOTE NONE") (map (λ m. record (bare_transfer false) { delim = Some m }) (delim.Apostrophe ∷ delim.Quote ∷ delim.Plain ∷ []))
  pub sign : transfers false "SIGN" (texts "PLUS SUPPRESS PROCESSOR_DEFINED") (map (λ m. record (bare_transfer false) { plus = Some m }) (true ∷ false ∷ false ∷ []))
  pub decimal : transfers false "DECIMAL" (texts "COMMA POINT") (map (λ m. record (bare_transfer false) { comma = Some m }) (true ∷ false ∷ []))
  pub advance : transfers false "ADVANCE" (texts "YES NO") (map (λ m. record (bare_transfer false) { advance = Some m }) (true ∷ false ∷ []))
  pub asynchronous : transfers false "ASYNCHRONOUS" (texts "YES NO") (map (λ m. record (bare_transfer false) { asynchronous = Some m }) (true ∷ false ∷ []))
  pub rec_number : transfers false "REC" (a_number) (map (λ m. record (bare_transfer false) { rec = Some m }) (number ∷ []))
  pub rec_place : transfers false "REC" (a_place) (map (λ m. record (bare_transfer false) { rec = Some m }) (operand.Place variable ∷ []))
  pub pos_number : transfers false "POS" (a_number) (map (λ m. record (bare_transfer false) { pos = Some m }) (number ∷ []))
  pub pos_place : transfers false "POS" (a_place) (map (λ m. record (bare_transfer false) { pos = Some m }) (operand.Place variable ∷ []))
  pub id : transfers false "ID" (a_place) (map (λ m. record (bare_transfer false) { id = Some m }) (variable ∷ []))
  pub iostat : transfers false "IOSTAT" (a_place) (map (λ m. record (bare_transfer false) { iostat = Some m }) (variable ∷ []))
  pub group : transfers false "NML" (a_place) (map (λ m. record (bare_transfer false) { group = Some m }) (codes "N" ∷ []))
  pub format : transfers false "FMT" (texts "(I5)") (map (λ m. record (bare_transfer false) { format = Some m }) (format.Literal (codes "(I5)") ∷ []))

-- CLOSE (9.4.6.1): whether the file is kept
abbrev pub CloseGives : Type 0
CloseGives = map (λ v. close_of (behind_unit (codes "STATUS") v)) (texts "KEEP DELETE") ≡ Some (on_unit_5 (Some true)) ∷ Some (on_unit_5 (Some false)) ∷ []

-- INQUIRE (9.9.1): each specifier asks its own question
abbrev pub asking : Question → Option Inquire
asking q = Some (record { about = subject.Unit (unit.Number 5); asked = record { what = q; place = variable } ∷ []; id = None; iostat = None })

abbrev pub asks : String → Question → Type 0
asks specifier q = map (λ v. inquire_of (behind_unit (codes specifier) v)) a_place ≡ asking q ∷ []

pub record InquireAsks : Type 0 where
  pub exist : asks "EXIST" question.Exist
  pub opened : asks "OPENED" question.Opened
  pub number : asks "NUMBER" question.Number
  pub named : asks "NAMED" question.Named
  pub name : asks "NAME" question.Name
  pub access : asks "ACCESS" question.Access
  pub form : asks "FORM" question.Form
  pub recl : asks "RECL" question.Recl
  pub nextrec : asks "NEXTREC" question.Nextrec
  pub pos : asks "POS" question.Pos
  pub size : asks "SIZE" question.Size
  pub blank : asks "BLANK" question.Blank
  pub delim : asks "DELIM" question.Delim
  pub pad : asks "PAD" question.Pad
  pub decimal : asks "DECIMAL" question.Decimal
  pub sign : asks "SIGN" question.Sign
  pub action : asks "ACTION" question.Action
  pub asynchronous : asks "ASYNCHRONOUS" question.Asynchronous
  pub pending : asks "PENDING" question.Pending
