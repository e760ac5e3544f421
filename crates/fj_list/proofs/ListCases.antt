-- Worked cases of the definitions of list-directed text.
use Rattle.std.proofs.Common.{◌≡◌, ℤ, true, false, List, [], ◌∷◌, map, pos, negsuc, refl}
use Rattle.std.specs.Prelude.{codes}
use Rattle.fj_value.specs.Digits.{number_in}
use Rattle.fj_value.specs.declared.kind.Kind.TheVariants.{Int4, Chars}
use Rattle.fj_value.specs.declared.edit.Delim.TheVariants.{Quote}
use Rattle.fj_value.specs.declared.edit.EditModes.{EditModes}
use Rattle.fj_value.specs.declared.value.Cell.{Cell}
use Rattle.fj_value.specs.declared.value.Value.{Value}
use Rattle.fj_value.specs.declared.value.Value.TheVariants as value
use Rattle.fj_value.specs.declared.condition.Condition.TheVariants.{EndOfFile, Error}
use Rattle.fj_list.specs.Stream.{records_in, records_behind}
use Rattle.fj_list.specs.ListText.{listed}
use Rattle.fj_list.specs.ListInput.{Outcome, list_input}

-- four integers that are 1, and six characters
abbrev cells : List Cell
cells = map (λ at. record { place = record { var = at; index = 1 }; kind = Int4; value = value.Int (pos 1) }) (0 ∷ 1 ∷ 2 ∷ 3 ∷ [])

abbrev words : List Cell
words = record { place = record { var = 0; index = 1 }; kind = Chars 6; value = value.Chars (codes "######") } ∷ []

abbrev integers : Outcome → List Value
integers outcome = map (λ (cell : Cell). cell.value) outcome.cells

abbrev modes : EditModes
modes = record { blank_zero = false; comma = false; delim = Quote; pad = true; plus = true }

abbrev ints : List ℤ → List Value
ints zs = map (λ z. value.Int z) zs

-- the definitions give what is worked out by hand
pub record AreRight : Type 0 where
  pub repeats : integers (list_input false (codes "2*4,,9" ∷ []) EndOfFile cells (0 ∷ 1 ∷ 2 ∷ 3 ∷ [])) ≡ ints (pos 4 ∷ pos 4 ∷ pos 1 ∷ pos 9 ∷ [])
  pub slash : integers (list_input false (codes "7 /" ∷ []) EndOfFile cells (0 ∷ 1 ∷ [])) ≡ ints (pos 7 ∷ pos 1 ∷ pos 1 ∷ pos 1 ∷ [])
  pub semicolon : integers (list_input true (codes "1;-2" ∷ []) EndOfFile cells (0 ∷ 1 ∷ [])) ≡ ints (pos 1 ∷ negsuc 1 ∷ pos 1 ∷ pos 1 ∷ [])
  pub next_record : (list_input false (codes "1," ∷ codes "2 3" ∷ codes "4" ∷ []) EndOfFile cells (0 ∷ 1 ∷ [])).left ≡ codes "4" ∷ []
  pub same_record : (list_input false (codes "1," ∷ codes "2" ∷ []) EndOfFile cells (0 ∷ [])).left ≡ codes "2" ∷ []
  pub no_items : (list_input false (codes "1" ∷ codes "2" ∷ []) EndOfFile cells []).left ≡ codes "2" ∷ []
  pub wrong : (list_input false (codes "x" ∷ []) EndOfFile cells (0 ∷ [])).condition ≡ Error 13
  pub too_great : (list_input false (codes "2147483648" ∷ []) EndOfFile cells (0 ∷ [])).condition ≡ Error 14
  pub ended : (list_input false (codes "1" ∷ []) (Error 15) cells (0 ∷ 1 ∷ [])).condition ≡ Error 15
  pub doubled : integers (list_input false (codes "'it''s'" ∷ []) EndOfFile words (0 ∷ [])) ≡ value.Chars (codes "it's  ") ∷ []
  pub continued : integers (list_input false (codes "'ab" ∷ codes "cd'" ∷ []) EndOfFile words (0 ∷ [])) ≡ value.Chars (codes "abcd  ") ∷ []
  pub unclosed : (list_input false (codes "'ab" ∷ []) EndOfFile words (0 ∷ [])).condition ≡ EndOfFile
  pub written : listed modes (value.Log true ∷ value.Chars (codes "a\"b") ∷ []) ≡ codes " T \"a\"\"b\"" ∷ []
  pub nothing : listed modes [] ≡ codes " " ∷ []

pub are_right : AreRight
unfolding number_in records_in records_behind
are_right = record { repeats = refl; slash = refl; semicolon = refl; next_record = refl; same_record = refl; no_items = refl; wrong = refl; too_great = refl; ended = refl; doubled = refl; continued = refl; unclosed = refl; written = refl; nothing = refl }
