-- Names that a deck may spell, names of scratch files and names by default stand apart.
use Rattle.std.specs.Prelude.{◌≡◌, ◌<◌, ◌^◌, ℕ, ℤ, true, List}
use Rattle.std.specs.Int.Signed.{mag}
use Rattle.std.specs.Str.{IsAscii}
use Rattle.fj_modes.specs.FileName.{is_disk_name, is_file_name, scratch_name, default_name}

pub record NamesStandApart : Type 0 where
  pub file_is_of_disk : (cs : List ℕ) → is_file_name cs ≡ true → is_disk_name cs ≡ true
  pub scratch_is_of_disk : (unit : ℤ) → mag unit < 2 ^ 63 → is_disk_name (scratch_name unit) ≡ true
  pub no_deck_spells_a_scratch : (cs : List ℕ) (unit : ℤ) → is_file_name cs ≡ true → cs ≡ scratch_name unit → ⊥
  pub a_scratch_for_each_unit : (y z : ℤ) → mag y < 2 ^ 63 → mag z < 2 ^ 63 → scratch_name y ≡ scratch_name z → y ≡ z
  pub default_is_spelled : (unit : ℕ) → unit < 2 ^ 32 → is_file_name (default_name unit) ≡ true
  pub a_default_for_each_unit : (m n : ℕ) → m < 2 ^ 32 → n < 2 ^ 32 → default_name m ≡ default_name n → m ≡ n
  pub ascii : (cs : List ℕ) → is_disk_name cs ≡ true → IsAscii cs
