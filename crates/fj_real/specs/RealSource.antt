-- The reader of a real source, and its count of faults.
use Rattle.std.specs.Prelude.{ℕ}
use Rattle.fj_real.specs.declared.source.RealSource.{RealSource}

abbrev pub reader_of : {R : Type 0} → RealSource R → R
reader_of source = source.inner

abbrev pub source_count : {R : Type 0} → RealSource R → ℕ
source_count source = source.faults
