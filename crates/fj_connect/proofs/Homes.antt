-- What a disk holds after a file came out of it and went back, or was not made.
use Rattle.std.proofs.Common.{Bool, Err, List, Ok, Some, [], ap, arith, inl, inr, length, rules, true, ℕ, ◌<◌, ◌∙◌, ◌≡◌, ◌≤◌, ◌⊎◌}
use Rattle.std.specs.Cmp.Lexicographic.{nat_list_cmp_total}
use Rattle.std.specs.FinMap as map
use Rattle.std.specs.FinMap.{gets, slice_cmp-IsAntisymmetric, nat_cmp-IsAntisymmetric, same_map}
use Rattle.fj_modes.specs.declared.specifiers.FileStatus.{FileStatus}
use Rattle.fj_outside.specs.Holdings.{Holdings, Files, IsFree, out_of, given, without}
use Rattle.fj_outside.proofs.HoldingLaws.{files_back_same, in_use_back, hurt_back, files_given, files_without, in_use_without, hurt_without}
use Rattle.fj_value.specs.declared.condition.Condition.TheVariants.{Error}
use Rattle.fj_modes.specs.Limits.{longest_file}
use Rattle.fj_connect.specs.Opening.{bytes_opened, kept_bytes}
use Rattle.fj_connect.specs.Faults.{HoldsAsBefore, LeavesAtHome}

pub restored : (h h1 h2 : Holdings) (name bytes : List ℕ) → map.get h.files name ≡ Some bytes → IsFree h name → h1 ≡ out_of h name → h2 ≡ given h1 name bytes true → HoldsAsBefore h name h2
restored h h1 h2 name bytes there free out back = record {
  files = files_back_same h h1 h2 name bytes true there out back;
  in_use = in_use_back h h1 h2 name bytes true out back free;
  hurt = inr (hurt_back h h1 h2 name bytes true out back);
}

pub not_made : (status : FileStatus) (h h1 : Holdings) (name : List ℕ) → bytes_opened status (map.get h.files name) ≡ Ok [] → (h1 ≡ h) ⊎ (h1 ≡ without h name) → LeavesAtHome status h name h1
not_made status h h1 name made (inl e) = record { files = inl (ap (λ (x : Holdings). x.files) e); in_use = ap (λ (x : Holdings). x.in_use) e; hurt = inl (ap (λ (x : Holdings). x.hurt) e) }
not_made status h h1 name made (inr e) = record { files = inr (made, files_without h h1 name e); in_use = in_use_without h h1 name e; hurt = inl (hurt_without h h1 name e) }

pub too_long : (bytes : List ℕ) → longest_file < length bytes → kept_bytes bytes ≡ Err (Error 27)
too_long bytes long = grind arith

pub files_out : (h h1 : Holdings) (name : List ℕ) → h1 ≡ out_of h name → h1.files ≡ map.remove h.files name
unfolding out_of
files_out h h1 name e = ap (λ (x : Holdings). x.files) e

remove_put : (m : Files) (name bytes : List ℕ) → map.remove (map.insert m name bytes) name ≡ map.remove m name
remove_put m name bytes = same_map nat_list_cmp_total (slice_cmp-IsAntisymmetric nat_cmp-IsAntisymmetric) _ _ (λ q. grind (gets, rules))

-- a file that went back and was removed is gone
pub gone : (h h1 h2 : Holdings) (name bytes : List ℕ) (sound : Bool) → h1 ≡ given h name bytes sound → h2 ≡ without h1 name → h2.files ≡ map.remove h.files name
gone h h1 h2 name bytes sound back removed = files_without h1 h2 name removed ∙ ap (λ m. map.remove m name) (files_given h h1 name bytes sound back) ∙ remove_put h.files name bytes

pub short_enough : (bytes : List ℕ) → length bytes ≤ longest_file → kept_bytes bytes ≡ Ok bytes
short_enough bytes short = grind arith
