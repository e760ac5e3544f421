-- The statement that tokens are, all of them (ISO/IEC 1539-1:2004, clauses 5, 7 and 9, in part).
use Rattle.std.specs.Prelude.{ℕ, Bool, ◌==◌, List, [], ◌∷◌, Option, Some, None, if◌then◌else◌, codes}
use Rattle.std.specs.Str.{bytes_eq}
use Rattle.fj_value.specs.declared.kind.Kind.{Kind}
use Rattle.fj_value.specs.declared.kind.Kind.TheVariants.{Int4, Int8, Logical, Chars}
use Rattle.fj_modes.specs.declared.motion.Motion.{Motion}
use Rattle.fj_modes.specs.declared.motion.Motion.TheVariants as motion
use Rattle.fj_syntax.specs.Arguments.{call_of}
use Rattle.fj_syntax.specs.Calls.{open_of, close_of, wait_of, move_of, inquire_of, transfer_of}
use Rattle.fj_syntax.specs.Given.{bare_unit}
use Rattle.fj_syntax.specs.Parts.{Tokens, Operand, is_from_to, is_name, name_of, designator_of, operand_of, parted, list_of}
use Rattle.fj_syntax.specs.Reading.{◌>>=◌}
use Rattle.fj_syntax.specs.Tokens.{Word, Number, Mark, LeftParenthesis, RightParenthesis, Comma, Equals, Slash, DoubleColon, Unsigned}
use Rattle.fj_syntax.specs.Words.{Keyword, keyword_of}
use Rattle.fj_syntax.specs.declared.words.Keyword.TheVariants as keyword
pub use Rattle.fj_syntax.specs.declared.written.Written.{Written}
use Rattle.fj_syntax.specs.declared.written.Written.TheVariants as written

-- ---- declarations (5.1, 5.4)

-- a number, or KEYWORD= and a number
abbrev pub value_of : List ℕ → Tokens → Option ℕ
value_of word (Number Unsigned n ∷ []) = Some n
value_of word (Word w ∷ Mark Equals ∷ Number Unsigned n ∷ []) = if bytes_eq w word then Some n else None
value_of word ts = None

-- the same in parentheses, or the default where none opens; and what is behind it
abbrev pub number_in : List ℕ → ℕ → Tokens → Option (ℕ × Tokens)
number_in word default (Mark LeftParenthesis ∷ ts) = do
  sides ← parted RightParenthesis ts
  n ← value_of word sides.0
  Some (n, sides.1)
number_in word default ts = Some (default, ts)

abbrev pub integer_kind : ℕ → Option Kind
integer_kind n = if n == 4 then Some Int4 else (if n == 8 then Some Int8 else None)

abbrev pub character_kind : ℕ → Option Kind
character_kind n = if is_from_to 1 65536 n then Some (Chars n) else None

-- behind `::` or `, ASYNCHRONOUS ::`
abbrev pub behind_colons : Tokens → Tokens
behind_colons (Mark DoubleColon ∷ ts) = ts
behind_colons (Mark Comma ∷ Word w ∷ Mark DoubleColon ∷ ts) = if bytes_eq w (codes "ASYNCHRONOUS") then ts else Mark Comma ∷ Word w ∷ Mark DoubleColon ∷ ts
behind_colons ts = ts

abbrev pub declaration_of : Option Kind → Tokens → Option Written
declaration_of kind ts = do
  k ← kind
  entities ← list_of designator_of (behind_colons ts)
  Some (written.Declaration (record { kind = k; entities = entities }))

-- / group / names
abbrev pub group_of : Tokens → Option Written
group_of (Mark Slash ∷ Word name ∷ Mark Slash ∷ ts) = if is_name name then (do
  members ← list_of name_of ts
  Some (written.Group (record { name = name; members = members }))) else None
group_of ts = None

-- ---- statements

-- designator = operand
abbrev pub assignment_of : Tokens → Option Written
assignment_of ts = do
  sides ← parted Equals ts
  to ← designator_of sides.0
  from ← operand_of sides.1
  Some (written.Assignment (record { to = to; from = from }))

-- no items, or some
abbrev pub items_of : Tokens → Option (List Operand)
items_of [] = Some []
items_of (t ∷ ts) = list_of operand_of (t ∷ ts)

-- (arguments) items
abbrev pub transfer_from : Bool → Tokens → Option Written
transfer_from input ts = do
  call ← call_of (keyword.Transfer input) ts
  items ← items_of call.1
  t ← transfer_of input call.0 items
  Some (written.Transfer t)

-- a bare unit, or arguments
abbrev pub motion_from : Motion → Tokens → Option Written
motion_from how (Mark LeftParenthesis ∷ ts) = move_of how (Mark LeftParenthesis ∷ ts) >>= (λ m. Some (written.Move m))
motion_from how ts = bare_unit ts >>= (λ u. Some (written.Move (record { unit = u; what = how; iostat = None })))

-- END alone, or END FILE
abbrev pub end_from : Tokens → Option Written
end_from [] = Some written.End
end_from (Word w ∷ ts) = if bytes_eq w (codes "FILE") then motion_from motion.Endfile ts else None
end_from ts = None

-- what a keyword begins: INTEGER is INTEGER(4), and CHARACTER is CHARACTER(1)
unfoldable pub begun_by : Keyword → Tokens → Option Written
begun_by keyword.Integer ts = number_in (codes "KIND") 4 ts >>= (λ n. declaration_of (integer_kind n.0) n.1)
begun_by keyword.Logical ts = declaration_of (Some Logical) ts
begun_by keyword.Character ts = number_in (codes "LEN") 1 ts >>= (λ n. declaration_of (character_kind n.0) n.1)
begun_by keyword.Namelist ts = group_of ts
begun_by keyword.Open ts = open_of ts >>= (λ o. Some (written.Open o))
begun_by keyword.Close ts = close_of ts >>= (λ c. Some (written.Close c))
begun_by (keyword.Transfer input) ts = transfer_from input ts
begun_by keyword.Wait ts = wait_of ts >>= (λ w. Some (written.Wait w))
begun_by (keyword.Move how) ts = motion_from how ts
begun_by keyword.Inquire ts = inquire_of ts >>= (λ i. Some (written.Inquire i))
begun_by keyword.End ts = end_from ts

-- what does not begin with a keyword is an assignment
abbrev pub begun : Option Keyword → Tokens → Tokens → Option Written
begun (Some k) whole ts = begun_by k ts
begun None whole ts = assignment_of whole

unfoldable pub written_of : Tokens → Option Written
written_of (Word w ∷ ts) = begun (keyword_of w) (Word w ∷ ts) ts
written_of ts = None
