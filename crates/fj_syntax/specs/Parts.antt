-- The parts of a statement: names, designators and operands, and lists of them (ISO/IEC 1539-1:2004, clauses 3, 4 and 6, in part).
use denote.Enum.Bare.{sameb}
use Rattle.std.specs.Prelude.{ℕ, ◌+◌, Bool, false, ◌&&◌, nat_le, List, [], ◌∷◌, take, drop, position, Option, Some, None, is_none, option_map, if◌then◌else◌}
use Rattle.std.specs.List.{slice_split}
use Rattle.fj_syntax.specs.contracts.token.Mark.{the_type}
pub use Rattle.fj_syntax.specs.declared.operand.Designator.{Designator}
pub use Rattle.fj_syntax.specs.declared.operand.Operand.{Operand}
pub use Rattle.fj_syntax.specs.declared.operand.Operand.TheVariants.{Number, Truth, Literal, Place}
use Rattle.fj_syntax.specs.Reading.{◌>>=◌, each}
use Rattle.fj_syntax.specs.Tokens.{Token, Word, Number, Literal, Truth, Mark, AMark, LeftParenthesis, RightParenthesis, Comma, Unsigned}
use Rattle.fj_syntax.specs.Words.{keyword_of}

abbrev pub Tokens : Type 0
Tokens = List Token

-- the token is this mark
abbrev pub is_mark : AMark → Token → Bool
is_mark m (Mark n) = sameb the_type n m
is_mark m t = false

abbrev pub is_from_to : ℕ → ℕ → ℕ → Bool
is_from_to low high n = nat_le low n && nat_le n high

-- a keyword is no name
abbrev pub is_name : List ℕ → Bool
is_name w = is_none (keyword_of w)

abbrev pub name_of : Tokens → Option (List ℕ)
name_of (Word w ∷ []) = if is_name w then Some w else None
name_of ts = None

abbrev pub named : List ℕ → Option ℕ → Option Designator
named w n = if is_name w then Some (record { name = w; number = n }) else None

-- a name, or a name and a number from 1 to 1,000,000 in parentheses
abbrev pub designator_of : Tokens → Option Designator
designator_of (Word w ∷ []) = named w None
designator_of (Word w ∷ Mark LeftParenthesis ∷ Number Unsigned n ∷ Mark RightParenthesis ∷ []) = if is_from_to 1 1000000 n then named w (Some n) else None
designator_of ts = None

-- a literal or a designator
abbrev pub operand_of : Tokens → Option Operand
operand_of (Number sign amount ∷ []) = Some (Number sign amount)
operand_of (Truth truth ∷ []) = Some (Truth truth)
operand_of (Literal text ∷ []) = Some (Literal text)
operand_of ts = designator_of ts >>= (λ d. Some (Place d))

-- ---- lists

-- the tokens before the first such mark, and those behind it
abbrev pub parted : AMark → Tokens → Option (Tokens × Tokens)
parted m ts = option_map (λ n. (take n ts, drop (n + 1) ts)) (position (is_mark m) ts)

-- the parts between commas
abbrev pub cut : Tokens → List Tokens
cut ts = slice_split (is_mark Comma) ts

-- each part between commas
abbrev pub list_of : {X : Type 0} → (Tokens → Option X) → Tokens → Option (List X)
list_of part ts = each part (cut ts)
