-- The source that a kept one reads from.
use Rattle.fj_real.specs.declared.kept.Kept.{Kept}

abbrev pub source_in : {S : Type 0} → Kept S → S
source_in kept = kept.inner
