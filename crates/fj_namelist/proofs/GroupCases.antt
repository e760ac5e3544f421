-- Worked cases of the definitions of namelist text.
use Rattle.std.proofs.Common.{◌≡◌, ℕ, true, false, List, [], ◌∷◌, map, take, pos, refl}
use Rattle.std.specs.Prelude.{codes}
use Rattle.fj_value.specs.Digits.{number_in}
use Rattle.fj_value.specs.declared.kind.Kind.TheVariants.{Int4, Chars}
use Rattle.fj_value.specs.declared.edit.Delim.TheVariants.{Quote}
use Rattle.fj_value.specs.declared.edit.EditModes.{EditModes}
use Rattle.fj_value.specs.declared.value.Cell.{Cell}
use Rattle.fj_value.specs.declared.value.Value.{Value}
use Rattle.fj_value.specs.declared.value.Value.TheVariants as value
use Rattle.fj_value.specs.declared.condition.Condition.{Condition}
use Rattle.fj_value.specs.declared.condition.Condition.TheVariants.{Fine, EndOfFile, Error}
use Rattle.fj_moved.specs.declared.moved.GroupMember.{GroupMember}
use Rattle.fj_list.specs.ListInput.{Outcome}
use Rattle.fj_namelist.specs.GroupInput.{group_input}
use Rattle.fj_namelist.specs.GroupText.{group_written}

-- INTEGER A, B(2) and CHARACTER(2) C: integers are 1, characters `##`
abbrev cells : List Cell
cells = map (λ at. record { place = record { var = at; index = 1 }; kind = Int4; value = value.Int (pos 1) }) (0 ∷ 1 ∷ 2 ∷ [])

abbrev all_cells : List Cell
all_cells = record { place = record { var = 3; index = 1 }; kind = Chars 2; value = value.Chars (codes "##") } ∷ cells

abbrev members : List GroupMember
members = record { name = codes "C"; kind = Chars 2; first = 0; count = 1; scalar = true } ∷ record { name = codes "A"; kind = Int4; first = 1; count = 1; scalar = true } ∷ record { name = codes "B"; kind = Int4; first = 2; count = 2; scalar = false } ∷ []

abbrev read : List (List ℕ) → Outcome
read lines = group_input false lines EndOfFile (codes "G") members all_cells

abbrev values : List (List ℕ) → List Value
values lines = map (λ (cell : Cell). cell.value) (read lines).cells

abbrev condition : List (List ℕ) → Condition
condition lines = (read lines).condition

abbrev with : List ℕ → ℕ → ℕ → ℕ → List Value
with c a b b' = value.Chars c ∷ value.Int (pos a) ∷ value.Int (pos b) ∷ value.Int (pos b') ∷ []

abbrev modes : EditModes
modes = record { blank_zero = false; comma = false; delim = Quote; pad = true; plus = false }

-- the definitions give what is worked out by hand
pub record AreRight : Type 0 where
  pub assigned : values (codes "&g a=5, B=2*7 c='x' /" ∷ []) ≡ with (codes "x ") 5 7 7
  pub from_the_second : values (codes "&G B(2)=7 /" ∷ []) ≡ with (codes "##") 1 1 7
  pub parted_subscript : values (codes "&G B" ∷ codes "(2) =7/" ∷ []) ≡ with (codes "##") 1 1 7
  pub null : values (codes "&G B=,3 A=/" ∷ []) ≡ with (codes "##") 1 1 3
  pub nulls : values (codes "&G B=2* A=4/" ∷ []) ≡ with (codes "##") 4 1 1
  pub comment : values (codes "! no/" ∷ codes "&G A= !x" ∷ codes "5 /" ∷ []) ≡ with (codes "##") 5 1 1
  pub over_records : values (codes "&G C='a" ∷ codes "b' /" ∷ []) ≡ with (codes "ab") 1 1 1
  pub behind_slash : (read (codes "&G A=5 / B=3" ∷ codes "next" ∷ [])).left ≡ codes "next" ∷ []
  pub fine : condition (codes "&G /" ∷ []) ≡ Fine
  pub no_comment : condition (codes "&G A=!x" ∷ codes "5 /" ∷ []) ≡ Error 13
  pub undelimited : condition (codes "&G C=x /" ∷ []) ≡ Error 13
  pub text_behind : condition (codes "&G C='x'y /" ∷ []) ≡ Error 13
  pub too_great : condition (codes "&G A=2147483648 /" ∷ []) ≡ Error 14
  pub misnamed : condition (codes "&H A=5 /" ∷ []) ≡ Error 22
  pub slash_behind_name : condition (codes "&G/" ∷ []) ≡ Error 22
  pub unknown : condition (codes "&G X=5 /" ∷ []) ≡ Error 23
  pub scalar_subscript : condition (codes "&G A(1)=5 /" ∷ []) ≡ Error 23
  pub past_subscript : condition (codes "&G B(3)=5 /" ∷ []) ≡ Error 23
  pub past_elements : condition (codes "&G B=1 2 3 /" ∷ []) ≡ Error 23
  pub past_nulls : condition (codes "&G A=1,,B=2 /" ∷ []) ≡ Error 23
  pub no_assignment : condition (codes "&G A 5 /" ∷ []) ≡ Error 24
  pub separator_first : condition (codes "&G ,A=1 /" ∷ []) ≡ Error 24
  pub no_slash : condition (codes "&G A=5" ∷ []) ≡ EndOfFile
  pub unclosed : condition (codes "&G C='x" ∷ []) ≡ EndOfFile
  pub written : group_written modes (codes "g") (take 1 members) all_cells ≡ codes " &G" ∷ codes " C=\"##\"" ∷ codes " /" ∷ []

pub are_right : AreRight
unfolding number_in
are_right = record { assigned = refl; from_the_second = refl; parted_subscript = refl; null = refl; nulls = refl; comment = refl; over_records = refl; behind_slash = refl; fine = refl; no_comment = refl; undelimited = refl; text_behind = refl; too_great = refl; misnamed = refl; slash_behind_name = refl; unknown = refl; scalar_subscript = refl; past_subscript = refl; past_elements = refl; past_nulls = refl; no_assignment = refl; separator_first = refl; no_slash = refl; unclosed = refl; written = refl }
