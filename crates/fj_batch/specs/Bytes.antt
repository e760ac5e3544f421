-- What a batch prints.
use Rattle.std.specs.Prelude.{ℕ, List, ◌++◌, length, codes, Bool, true, false, Option, Some}
use Rattle.std.specs.List.{flat_map, count_by}
use Rattle.std.specs.Fmt.{decimal}
use Rattle.fj_report.specs.declared.status.Status.{Status}
use Rattle.fj_report.specs.declared.status.Status.TheVariants.{Ended}
use Rattle.fj_batch.specs.declared.member.Member.{Member}

unfoldable pub usage_text : List ℕ
usage_text = codes "usage: fjob batch [--workers N] NAME..\n"

abbrev pub is_ended : Option Status → Bool
is_ended (Some Ended) = true
is_ended _ = false

module _ {R D : Type 0} where
  -- a line with a member's name, and its bytes
  abbrev pub member_text : Member R D → List ℕ
  member_text member = codes "% " ++ member.name ++ codes "\n" ++ member.out

  abbrev pub ended_count : List (Member R D) → ℕ
  ended_count members = count_by (λ member. is_ended member.status) members

  -- how many there are, and how many of them ended
  unfoldable pub last_line : List (Member R D) → List ℕ
  last_line members = codes "= batch " ++ decimal (length members) ++ codes " decks, " ++ decimal (ended_count members) ++ codes " ended\n"

  abbrev pub batch_text : List (Member R D) → List ℕ
  batch_text members = flat_map member_text members ++ last_line members
