use Rattle.std.proofs.Common.{◌≢◌, take}
use Rattle.fj_format.specs.declared.place.FormatPlace.TheVariants.{Done}
use Rattle.fj_format.proofs.Scanned.{Stands}
use Rattle.fj_format.proofs.format.parse_items.Given as goal

abbrev pub invariant-loop-i : goal.invariant-loop-i
invariant-loop-i l = record { stands : Stands (take l.i l.text) l.scanner; not_done : l.scanner.reader.place ≢ Done }
