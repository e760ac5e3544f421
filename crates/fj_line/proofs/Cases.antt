-- Worked cases of lines and of outputs, computed from the definitions.
use Rattle.std.proofs.Common.{◌≡◌, [], ◌∷◌, ◌++◌, Ok, Err, refl}
use Rattle.std.specs.Prelude.{codes}
use Rattle.fj_value.specs.declared.condition.Condition.TheVariants.{Error}
use Rattle.fj_line.specs.declared.moves.Move.TheVariants.{To, Back, Ahead}
use Rattle.fj_line.specs.Line.{empty_line, written, moved}
use Rattle.fj_line.specs.Actions.{put, end_record, meet, first_record, output}

-- T4, CD, T1, AB
pub back_to_the_limit : (written (codes "AB") (moved (To 1) (written (codes "CD") (moved (To 4) empty_line)))).text ≡ codes "AB CD"
back_to_the_limit = refl

-- 2X and no characters
pub nothing_behind_a_move : (written [] (moved (Ahead 2) empty_line)).text ≡ []
nothing_behind_a_move = refl

-- abc, TL9, X, TR4, YZ
pub over_and_behind : (written (codes "YZ") (moved (Ahead 4) (written (codes "X") (moved (Back 9) (written (codes "abc") empty_line))))).text ≡ codes "Xbc  YZ"
over_and_behind = refl

-- two records, the second of which is open; the first one had two characters
pub two_records : output (first_record 5 2) (put (codes "abc") ∷ end_record ∷ put (codes "abcde") ∷ []) ≡ Ok (codes "abc" ++ 10 ∷ codes "abcde")
two_records = refl

-- one character more
pub too_long : output (first_record 5 2) (put (codes "abc") ∷ end_record ∷ put (codes "abcdef") ∷ meet (Error 12) ∷ []) ≡ Err (Error 15)
too_long = refl

pub met_first : output (first_record 5 2) (meet (Error 12) ∷ put (codes "abcdef") ∷ []) ≡ Err (Error 12)
met_first = refl
