use Rattle.std.proofs.Common.{rules}
use Rattle.fj_modes.proofs.FileNameLemmas.{file_name_utf8, file_name_of_disk}
use Rattle.fj_modes.proofs.file_name.FileName.new.Goals as goal

pub unreachable-requires : goal.unreachable-requires
unreachable-requires c = c.in-Err.ensures.cases.0 (file_name_utf8 c.args.name.now c.requires)

pub invariant_of-result : goal.invariant_of-result
invariant_of-result c = search (rules, file_name_of_disk _ c.requires)
