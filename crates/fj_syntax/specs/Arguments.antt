-- The arguments of an input/output statement (ISO/IEC 1539-1:2004, 9.4.5, 9.5.1): by specifiers in any order, each at most once.
use Rattle.std.specs.Prelude.{ℕ, ◌+◌, ◌-◌, Bool, true, ◌&&◌, ◌==◌, List, [], ◌∷◌, take, drop, length, Option, Some, None, is_none, option_map, if◌then◌else◌}
use Rattle.std.specs.List.{find, list_all}
pub use Rattle.fj_syntax.specs.declared.operand.Given.{Given}
pub use Rattle.fj_syntax.specs.declared.operand.Given.TheVariants.{Asterisk, Operand as AnOperand}
pub use Rattle.fj_syntax.specs.declared.operand.Argument.{Argument}
use Rattle.fj_syntax.specs.declared.words.Specifier.TheVariants.{Unit, Fmt}
use Rattle.fj_syntax.specs.Parts.{Tokens, is_mark, operand_of, cut}
use Rattle.fj_syntax.specs.Reading.{◌>>=◌}
use Rattle.fj_syntax.specs.Tokens.{Token, Word, Mark, LeftParenthesis, RightParenthesis, Equals, Asterisk}
use Rattle.fj_syntax.specs.Words.{Keyword, Specifier, specifier_of, same_specifier, takes}

-- an asterisk or an operand
abbrev pub given_of : Tokens → Option Given
given_of (Mark Asterisk ∷ []) = Some Asterisk
given_of ts = operand_of ts >>= (λ o. Some (AnOperand o))

-- the argument for a specifier
abbrev pub argument_for : Option Specifier → Tokens → Option Argument
argument_for s ts = do
  specifier ← s
  value ← given_of ts
  Some (record { specifier = specifier; value = value })

-- SPECIFIER = value, or a value alone where it may stand for a specifier
abbrev pub argument_of : Option Specifier → Tokens → Option Argument
argument_of bare (Word w ∷ Mark Equals ∷ value) = argument_for (specifier_of w) value
argument_of bare ts = argument_for bare ts

-- what a bare argument stands for behind a part: a format behind a bare unit
abbrev pub next_bare : Option Specifier → Tokens → Option Specifier
next_bare bare (Word w ∷ Mark Equals ∷ value) = None
next_bare (Some Unit) ts = Some Fmt
next_bare bare ts = None

-- the arguments of parts, of which the first may be bare and stand for this specifier
abbrev pub arguments_from : Option Specifier → List Tokens → Option (List Argument)
arguments_from bare [] = Some []
arguments_from bare (part ∷ parts) = do
  a ← argument_of bare part
  more ← arguments_from (next_bare bare part) parts
  Some (a ∷ more)

-- the unit may stand bare as the first argument
abbrev pub arguments_of : Tokens → Option (List Argument)
arguments_of ts = arguments_from (Some Unit) (cut ts)

-- what is given for a specifier
abbrev pub given_for : Specifier → List Argument → Option Given
given_for s args = option_map (λ a. a.value) (find (λ a. same_specifier a.specifier s) args)

-- no specifier stands twice
abbrev pub are_once : List Argument → Bool
are_once [] = true
are_once (a ∷ args) = is_none (given_for a.specifier args) && are_once args

-- how many parentheses are open behind a token
abbrev pub depth_behind : ℕ → Token → ℕ
depth_behind depth t = if is_mark LeftParenthesis t then depth + 1 else (if is_mark RightParenthesis t then depth - 1 else depth)

-- how many tokens stand before the right parenthesis that closes, where so many are open
abbrev pub closing : ℕ → Tokens → Option ℕ
closing depth [] = None
closing depth (t ∷ ts) = if (depth == 0) && is_mark RightParenthesis t then Some 0 else option_map (λ n. 1 + n) (closing (depth_behind depth t) ts)

-- the statement takes each specifier that stands there
abbrev pub are_taken : Keyword → List Argument → Bool
are_taken k args = list_all (λ a. takes k a.specifier) args

-- arguments of a statement in parentheses, and the tokens behind them
abbrev pub call_of : Keyword → Tokens → Option (List Argument × Tokens)
call_of k (Mark LeftParenthesis ∷ ts) = do
  n ← closing 0 ts
  args ← arguments_of (take n ts)
  if are_once args && are_taken k args then Some (args, drop (n + 1) ts) else None
call_of k ts = None

-- the same, and nothing behind them
abbrev pub whole_call_of : Keyword → Tokens → Option (List Argument)
whole_call_of k ts = do
  call ← call_of k ts
  if length call.1 == 0 then Some call.0 else None
