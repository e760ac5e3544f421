-- Several records of direct access, one after another.
use Rattle.std.specs.Prelude.{ℕ, List}
use Rattle.std.specs.List.{flat_map}
use Rattle.fj_outside.specs.Bytes.{written}
use Rattle.fj_byterec.specs.Pieces.{filled_to}

-- texts as records of this size, each filled up
abbrev pub run_of : ℕ → ℕ → List (List ℕ) → List ℕ
run_of size fill texts = flat_map (λ text. filled_to text size fill) texts

-- bytes with a run of records at a place; the gap before it is filled where they end before it
abbrev pub with_run : List ℕ → ℕ → List ℕ → ℕ → List ℕ
with_run bytes start run fill = written (filled_to bytes start fill) start run
