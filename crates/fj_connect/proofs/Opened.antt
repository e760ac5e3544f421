-- A file that came out of the disk, connected.
use Rattle.std.proofs.Common.{◌≡◌, ◌≤◌, ℕ, List, length, refl, arith, Ok, unwrap_or}
use Rattle.std.specs.FinMap as map
use Rattle.fj_modes.specs.declared.modes.Modes.{Modes}
use Rattle.fj_modes.specs.declared.specifiers.OpenSpec.{OpenSpec}
use Rattle.fj_modes.specs.declared.specifiers.FileStatus.TheVariants.{Unknown}
use Rattle.fj_modes.specs.declared.specifiers.Start.{Start}
use Rattle.fj_modes.specs.declared.specifiers.Start.TheVariants.{AsIs, Rewind, Append}
use Rattle.fj_outside.specs.Holdings.{Files}
use Rattle.fj_modes.specs.Limits.{longest_file}
use Rattle.fj_connect.specs.Spot.{IsPlaced}
use Rattle.fj_connect.specs.Linked.{Linked, connection_of}
use Rattle.fj_connect.specs.Opening.{opened, bytes_opened, first_place, first_spot}

first_within : (start : Start) (size : ℕ) → first_place start size ≤ size
first_within AsIs size = omega arith
first_within Rewind size = omega arith
first_within Append size = omega arith

pub first_placed : (modes : Modes) (size : ℕ) → size ≤ longest_file → IsPlaced modes size (first_spot (first_place modes.start size))
first_placed modes size short = record {
  short = short;
  in_file = first_within modes.start size;
  from_start = omega arith;
  between_records = λ _. refl;
  record_open = λ e. cc;
  at_end = λ e. cc;
  number = omega arith;
}

pub opens : {F : Type 0} (bytes : F → List ℕ) (c : Linked F) (files left : Files) (name there : List ℕ) (spec : OpenSpec) (modes : Modes)
    → bytes_opened (unwrap_or spec.status Unknown) (map.get files name) ≡ Ok there → c.modes ≡ modes → c.name ≡ name → bytes c.file ≡ there
    → c.spot ≡ first_spot (first_place modes.start (length there)) → left ≡ map.remove files name
    → opened files name spec modes ≡ Ok (connection_of bytes c, left)
opens bytes c files left name there spec modes e m n b s l = rw (e, m, n, b, s, l) refl
