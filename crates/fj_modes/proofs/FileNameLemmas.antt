-- What names of files are made of.
use Rattle.std.proofs.Common.{◌≡◌, ℕ, suc, ℤ, pos, negsuc, ◌+◌, ◌-◌, ◌*◌, ◌/◌, ◌%◌, ◌<◌, ◌≤◌, ◌^◌, Bool, true, false, not, ◌&&◌, leb, eqb, List, [], ◌∷◌, ◌++◌, length, drop, codes, refl, sym, ap, ◌∙◌, subst, arith}
use Rattle.std.specs.List.{list_all}
use Rattle.std.specs.Str.{IsAscii, IsUtf8}
use Rattle.std.proofs.lemmas.Str.{IsUtf8-from_ascii}
use Rattle.std.proofs.lemmas.Str.Ascii.{IsAscii-nil, IsAscii-cons}
use Rattle.std.proofs.lemmas.Bool.Decides.{nat_tests}
use Rattle.std.specs.Int.Signed.{mag}
use Rattle.std.specs.Fmt.{decimal, signed_decimal}
use Rattle.std.proofs.lemmas.Fmt.{decimal_by_steps, decimal_injective, signed_decimal_injective, length-decimal-le, length_signed_le}
use Rattle.std.proofs.lemmas.List.Folds.{list_all-append}
use Rattle.fj_modes.specs.NameLaws.{NamesStandApart}
use Rattle.fj_modes.specs.FileName.{is_file_byte, is_disk_name, is_file_name, scratch_name, default_name}

both : (a b : Bool) → (a && b) ≡ true → (a ≡ true) × (b ≡ true)
both true b h = (refl, h)
both false b h = cc

byte_ascii : (c : ℕ) → is_file_byte c ≡ true → c < 128
byte_ascii c h = grind (arith, nat_tests)

bytes_ascii : (cs : List ℕ) → list_all is_file_byte cs ≡ true → IsAscii cs
bytes_ascii [] h = IsAscii-nil
bytes_ascii (c ∷ cs) h = let parts = both _ _ h in IsAscii-cons c cs (byte_ascii c parts.0) (bytes_ascii cs parts.1)

pub disk_name_ascii : (cs : List ℕ) → is_disk_name cs ≡ true → IsAscii cs
unfolding is_disk_name
disk_name_ascii cs h = bytes_ascii cs (both _ _ (both _ _ (both _ _ h).1).1).0

pub file_name_of_disk : (cs : List ℕ) → is_file_name cs ≡ true → is_disk_name cs ≡ true
unfolding is_file_name
file_name_of_disk cs h = (both _ _ h).0

pub file_name_utf8 : (cs : List ℕ) → is_file_name cs ≡ true → IsUtf8 cs
file_name_utf8 cs h = IsUtf8-from_ascii cs (disk_name_ascii cs (file_name_of_disk cs h))

joined : (xs ys : List ℕ) → list_all is_file_byte xs ≡ true → list_all is_file_byte ys ≡ true → list_all is_file_byte (xs ++ ys) ≡ true
joined xs ys p q = list_all-append is_file_byte xs ys ∙ ap (λ b. b && list_all is_file_byte ys) p ∙ q

digit_byte : (n : ℕ) → n < 10 → list_all is_file_byte ((48 + n) ∷ []) ≡ true
digit_byte n h = grind (arith, nat_tests)

decimal_bytes : (n : ℕ) → n < 2 ^ 64 → list_all is_file_byte (decimal n) ≡ true
decimal_bytes =
    decimal_by_steps (λ _ ds. list_all is_file_byte ds ≡ true) digit_byte
    (λ n ds many before. joined ds ((48 + n % 10) ∷ []) before (digit_byte (n % 10) (omega arith)))

signed_bytes : (z : ℤ) → mag z < 2 ^ 63 → list_all is_file_byte (signed_decimal z) ≡ true
signed_bytes (pos n) h = decimal_bytes n (omega arith)
signed_bytes (negsuc n) h = decimal_bytes (suc n) (omega arith)

-- a name that begins so is one of the disk, where the rest is short and of such bytes
scratch_front : (ds : List ℕ) → length ds ≤ 56 → list_all is_file_byte ds ≡ true → is_disk_name (codes "SCRATCH." ++ ds) ≡ true
unfolding is_disk_name
scratch_front ds short bytes = grind (arith, nat_tests)

default_front : (ds : List ℕ) → length ds ≤ 56 → list_all is_file_byte ds ≡ true → is_file_name (codes "fort." ++ ds) ≡ true
unfolding is_disk_name is_file_name
default_front ds short bytes = grind (arith, nat_tests)

pub scratch_of_disk : (z : ℤ) → mag z < 2 ^ 63 → is_disk_name (scratch_name z) ≡ true
scratch_of_disk z h = scratch_front (signed_decimal z) (let short = length_signed_le 20 z (omega arith) h in omega arith) (signed_bytes z h)

pub default_spelled : (n : ℕ) → n < 2 ^ 32 → is_file_name (default_name n) ≡ true
default_spelled n h = default_front (decimal n) (let short = length-decimal-le 20 n (omega arith) (omega arith) (omega arith) in omega arith) (decimal_bytes n (omega arith))

pub default_of_disk : (n : ℕ) → n < 2 ^ 32 → is_disk_name (default_name n) ≡ true
default_of_disk n h = file_name_of_disk _ (default_spelled n h)

pub scratch_passed : (y z : ℤ) → mag z < 2 ^ 63 → y ≡ z → is_disk_name (scratch_name y) ≡ true
scratch_passed y z h same = subst (λ t. is_disk_name (scratch_name t) ≡ true) (sym same) (scratch_of_disk z h)

no_scratch : (ds : List ℕ) → is_file_name (codes "SCRATCH." ++ ds) ≡ true → ⊥
unfolding is_file_name
no_scratch ds h = let e : false ≡ true = (both _ _ h).1 in cc

tail_same : (c d : ℕ) (xs ys : List ℕ) → c ∷ xs ≡ d ∷ ys → xs ≡ ys
tail_same c d xs ys h = cc

pub names_apart : NamesStandApart
names_apart = record {
  file_is_of_disk = file_name_of_disk;
  scratch_is_of_disk = scratch_of_disk;
  no_deck_spells_a_scratch = λ cs unit spelled same. no_scratch (signed_decimal unit) (subst (λ t. is_file_name t ≡ true) same spelled);
  a_scratch_for_each_unit = λ y z p q same. signed_decimal_injective y z p q (ap (drop 8) same);
  default_is_spelled = default_spelled;
  a_default_for_each_unit = λ m n p q same. decimal_injective m n (omega arith) (omega arith) (ap (drop 5) same);
  ascii = disk_name_ascii;
}
