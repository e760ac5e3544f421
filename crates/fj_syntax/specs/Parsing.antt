-- What parsing a line answers.
use Rattle.std.specs.Prelude.{◌≡◌, ℕ, List, [], ◌∷◌, map, All, Result, Ok, Err, Option, Some, None}
use Rattle.fj_syntax.specs.Reading.{SyntaxFault, Memory, NotAStatement}
use Rattle.fj_syntax.specs.Statement.{Written, written_of}
use Rattle.fj_syntax.specs.Tokens.{Token, AreTokens, IsWordText}
use Rattle.fj_syntax.specs.declared.written.Written.TheVariants as written

-- the line has these tokens, with blanks between them and a comment behind them
abbrev pub IsStatement : List ℕ → Written → Type 0
IsStatement line w = (tokens : List Token) × AreTokens line tokens × (written_of tokens ≡ Some w)

-- empty but for blanks and a comment
abbrev pub IsBlankLine : List ℕ → Type 0
IsBlankLine line = AreTokens line []

-- this statement and no other, and not blank
pub record IsOnlyStatement (line : List ℕ) (statement : Written) : Type 0 where
  pub is : IsStatement line statement
  pub only : (other : Written) → IsStatement line other → other ≡ statement
  pub some : IsBlankLine line → ⊥

-- neither blank nor a statement
pub record IsNoStatement (line : List ℕ) : Type 0 where
  pub some : IsBlankLine line → ⊥
  pub none : (statement : Written) → IsStatement line statement → ⊥

-- unless memory ran out
abbrev pub Parses : List ℕ → Result (Option Written) SyntaxFault → Type 0
Parses line (Ok None) = IsBlankLine line
Parses line (Ok (Some statement)) = IsOnlyStatement line statement
Parses line (Err (Memory error)) = Unit {0}
Parses line (Err NotAStatement) = IsNoStatement line

-- ---- laws

-- a line has at most one list of tokens, and is at most one statement, and none where it is blank
pub record OneReading : Type 0 where
  pub tokens : (line : List ℕ) (tokens other : List Token) → AreTokens line tokens → AreTokens line other → other ≡ tokens
  pub statement : (line : List ℕ) (s other : Written) → IsStatement line s → IsStatement line other → s ≡ other
  pub blank : (line : List ℕ) (s : Written) → IsBlankLine line → IsStatement line s → ⊥

-- the names that a declaration gives
abbrev pub names_given : Written → List (List ℕ)
names_given (written.Declaration d) = map (λ e. e.name) d.entities
names_given (written.Group g) = g.name ∷ []
names_given w = []

-- it is what some bytes of a line write
abbrev pub IsWord : List ℕ → Type 0
IsWord word = (bytes line : List ℕ) × IsWordText word bytes line

-- what is declared has a word for its name
pub record NamesAreWords : Type 0 where
  pub are_words : (line : List ℕ) (s : Written) → IsStatement line s → All IsWord (names_given s)
