-- A text without the blanks and the case that have no effect, and with each string in one piece.
use Rattle.std.specs.Prelude.{ℕ, ◌==◌, if◌then◌else◌, List, [], ◌∷◌, ◌++◌}
use Rattle.fj_format.specs.declared.symbol.Symbol.{Symbol}
use Rattle.fj_format.specs.declared.symbol.Symbol.TheVariants.{Other}
use Rattle.fj_format.specs.Symbols.{is_blank, is_quote, symbol_of}

-- a character outside strings, or a whole string
pub data Mark : Type 0 where
  symbol : Symbol → Mark
  string : List ℕ → Mark

abbrev pub Marks : Type 0
Marks = List Mark

abbrev mutual
  -- the marks of a text that begins outside strings
  pub outside : List ℕ → Marks
  outside [] = []
  outside (c ∷ t) = if is_blank c then outside t else (if is_quote c then inside c [] t else symbol (symbol_of c) ∷ outside t)

  -- the same behind the first characters of a string with this delimiter; one without an end is nothing that a format has
  pub inside : ℕ → List ℕ → List ℕ → Marks
  inside q s [] = symbol Other ∷ []
  inside q s (c ∷ t) = if c == q then closing q s t else inside q (s ++ c ∷ []) t

  -- the same behind a delimiter, which ends the string unless it is doubled
  pub closing : ℕ → List ℕ → List ℕ → Marks
  closing q s [] = string s ∷ []
  closing q s (c ∷ t) =
      if c == q then inside q (s ++ q ∷ []) t
      else string s ∷ (if is_blank c then outside t else (if is_quote c then inside c [] t else symbol (symbol_of c) ∷ outside t))
