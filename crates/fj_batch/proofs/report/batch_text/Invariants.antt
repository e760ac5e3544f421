use Rattle.std.proofs.Common.{◌≡◌, ◌++◌, drop}
use Rattle.std.specs.List.{flat_map}
use Rattle.fj_batch.specs.Bytes.{member_text}
use Rattle.fj_batch.proofs.report.batch_text.Given as goal

abbrev pub invariant-adding : goal.invariant-adding
invariant-adding g l = l.text ++ flat_map member_text (drop l.member-index l.members) ≡ flat_map member_text l.fn.members
