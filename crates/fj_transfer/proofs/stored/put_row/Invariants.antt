use Rattle.std.proofs.Common.{◌≡◌, ◌++◌, drop}
use Rattle.std.specs.List.{flat_map}
use Rattle.fj_unfrec.specs.Stored.{stored}
use Rattle.fj_transfer.proofs.stored.put_row.Given as goal

abbrev pub invariant-loop-value : goal.invariant-loop-value
invariant-loop-value l = l.initial.out ++ flat_map (stored l.kind) l.values ≡ l.out ++ flat_map (stored l.kind) (drop l.value-index l.values)
