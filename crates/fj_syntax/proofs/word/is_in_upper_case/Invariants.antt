use Rattle.std.proofs.Common.{◌≡◌, map, length}
use Rattle.std.specs.Char.{to_ascii_uppercase}
use Rattle.std.specs.Str.{bytes_eq}
use Rattle.fj_syntax.proofs.word.is_in_upper_case.Given as goal

-- what is left is alike exactly where all is
abbrev pub invariant-loop-rest : goal.invariant-loop-rest
invariant-loop-rest l = bytes_eq (map to_ascii_uppercase l.rest) l.other ≡ bytes_eq (map to_ascii_uppercase l.bytes) l.text

abbrev pub decreases-loop-rest : goal.decreases-loop-rest
decreases-loop-rest l = length l.rest
