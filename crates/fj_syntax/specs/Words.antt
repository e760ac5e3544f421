-- What the words of the grammar stand for (ISO/IEC 1539-1:2004, clauses 4, 5 and 9, in part).
use denote.Enum.Bare.{sameb}
use Rattle.std.specs.Prelude.{ℕ, Bool, true, false, List, [], ◌∷◌, map, Option, Some, None, if◌then◌else◌, codes}
use Rattle.std.specs.List.{list_any}
use Rattle.std.specs.Str.{bytes_eq}
use Rattle.fj_modes.specs.declared.asked.Question.{Question}
use Rattle.fj_modes.specs.declared.asked.Question.TheVariants.{Access, Form, Recl, Action, Blank, Delim, Pad, Decimal, Sign, Asynchronous, Size, Pos, Exist, Opened, Number, Named, Name, Nextrec, Pending}
use Rattle.fj_modes.specs.declared.motion.Motion.TheVariants as motion
use Rattle.fj_modes.specs.ModeWords.{Table}
use Rattle.fj_syntax.specs.contracts.words.Specifier.{the_type}
use Rattle.fj_modes.specs.contracts.asked.Question.{the_type as the_question}
pub use Rattle.fj_syntax.specs.declared.words.Keyword.{Keyword}
use Rattle.fj_syntax.specs.declared.words.Keyword.TheVariants as keyword
pub use Rattle.fj_syntax.specs.declared.words.Specifier.{Specifier}
use Rattle.fj_syntax.specs.declared.words.Specifier.TheVariants.{Unit, File, Fmt, Nml, Iostat, Id, Status, Position, Advance, Rec, Newunit, Property}

-- the words that begin a statement or declaration; none of them is a name
abbrev pub keywords : Table Keyword
keywords =
    (codes "INTEGER", keyword.Integer) ∷ (codes "LOGICAL", keyword.Logical) ∷ (codes "CHARACTER", keyword.Character) ∷ (codes "NAMELIST", keyword.Namelist)
    ∷ (codes "OPEN", keyword.Open) ∷ (codes "CLOSE", keyword.Close) ∷ (codes "READ", keyword.Transfer true) ∷ (codes "WRITE", keyword.Transfer false) ∷ (codes "WAIT", keyword.Wait)
    ∷ (codes "BACKSPACE", keyword.Move motion.Backspace) ∷ (codes "REWIND", keyword.Move motion.Rewind) ∷ (codes "ENDFILE", keyword.Move motion.Endfile) ∷ (codes "FLUSH", keyword.Move motion.Flush)
    ∷ (codes "INQUIRE", keyword.Inquire) ∷ (codes "END", keyword.End) ∷ []

-- the words of the properties that INQUIRE asks (9.9.1)
abbrev pub properties : Table Question
properties =
    (codes "ACCESS", Access) ∷ (codes "FORM", Form) ∷ (codes "RECL", Recl) ∷ (codes "ACTION", Action) ∷ (codes "BLANK", Blank) ∷ (codes "DELIM", Delim) ∷ (codes "PAD", Pad)
    ∷ (codes "DECIMAL", Decimal) ∷ (codes "SIGN", Sign) ∷ (codes "ASYNCHRONOUS", Asynchronous) ∷ (codes "SIZE", Size) ∷ (codes "POS", Pos) ∷ (codes "EXIST", Exist)
    ∷ (codes "OPENED", Opened) ∷ (codes "NUMBER", Number) ∷ (codes "NAMED", Named) ∷ (codes "NAME", Name) ∷ (codes "NEXTREC", Nextrec) ∷ (codes "PENDING", Pending) ∷ []

-- the words before an equals sign (9.4.5, 9.4.6, 9.5.1, 9.6.1, 9.9.1), and NEWUNIT= (ISO/IEC 1539-1:2010, 9.5.6.12)
abbrev pub specifiers : Table Specifier
specifiers =
    (codes "UNIT", Unit) ∷ (codes "FILE", File) ∷ (codes "FMT", Fmt) ∷ (codes "NML", Nml) ∷ (codes "IOSTAT", Iostat) ∷ (codes "ID", Id) ∷ (codes "STATUS", Status)
    ∷ (codes "POSITION", Position) ∷ (codes "ADVANCE", Advance) ∷ (codes "REC", Rec) ∷ (codes "NEWUNIT", Newunit) ∷ map (λ row. (row.0, Property row.1)) properties

-- what stands beside a word in a table
abbrev pub meaning_of : {M : Type 0} → Table M → List ℕ → Option M
meaning_of [] word = None
meaning_of (row ∷ rows) word = if bytes_eq row.0 word then Some row.1 else meaning_of rows word

unfoldable pub keyword_of : List ℕ → Option Keyword
keyword_of word = meaning_of keywords word

unfoldable pub specifier_of : List ℕ → Option Specifier
specifier_of word = meaning_of specifiers word

abbrev pub same_specifier : Specifier → Specifier → Bool
same_specifier (Property p) (Property q) = sameb the_question p q
same_specifier a b = sameb the_type a b

-- the specifiers of each input/output statement beside UNIT and IOSTAT (9.4.5, 9.4.6, 9.5.1, 9.6.1, 9.7, 9.8, 9.9.1)
abbrev pub others_of : Keyword → List Specifier
others_of keyword.Open = File ∷ Newunit ∷ Status ∷ Position ∷ map Property (Access ∷ Form ∷ Recl ∷ Action ∷ Blank ∷ Delim ∷ Pad ∷ Decimal ∷ Sign ∷ Asynchronous ∷ [])
others_of keyword.Close = Status ∷ []
others_of (keyword.Transfer true) = Fmt ∷ Nml ∷ Advance ∷ Id ∷ Rec ∷ map Property (Asynchronous ∷ Blank ∷ Decimal ∷ Pad ∷ Pos ∷ Size ∷ [])
others_of (keyword.Transfer false) = Fmt ∷ Nml ∷ Advance ∷ Id ∷ Rec ∷ map Property (Asynchronous ∷ Decimal ∷ Delim ∷ Pos ∷ Sign ∷ [])
others_of keyword.Wait = Id ∷ []
others_of keyword.Inquire = File ∷ Id ∷ map (λ row. Property row.1) properties
others_of k = []

abbrev pub takes : Keyword → Specifier → Bool
takes k s = list_any (λ one. same_specifier one s) (Unit ∷ Iostat ∷ others_of k)
