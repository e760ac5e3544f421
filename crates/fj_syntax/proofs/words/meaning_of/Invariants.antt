use Rattle.std.proofs.Common.{◌≡◌, map, drop}
use Rattle.fj_syntax.specs.Words.{meaning_of}
use Rattle.fj_syntax.proofs.words.meaning_of.Given as goal

-- what is left of the words says what all of them say
abbrev pub invariant-loop-row : goal.invariant-loop-row
invariant-loop-row g l = meaning_of (map (λ row. (row.0.now, row.1)) (drop l.row-index l.words)) l.word ≡ meaning_of (map (λ row. (row.0.now, row.1)) l.words) l.word
