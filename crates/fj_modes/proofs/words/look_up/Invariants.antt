use Rattle.std.proofs.Common.{◌≡◌, map, drop}
use Rattle.fj_modes.specs.ModeWords.{mode_of}
use Rattle.fj_modes.proofs.words.look_up.Given as goal

-- what is left of the words says what all of them say
abbrev pub invariant-loop-word : goal.invariant-loop-word
invariant-loop-word g l = mode_of (map (λ word. (word.0.now, word.1)) (drop l.word-index l.words)) l.text ≡ mode_of (map (λ word. (word.0.now, word.1)) l.words) l.text
