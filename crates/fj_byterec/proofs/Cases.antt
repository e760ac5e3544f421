-- Worked cases of records of direct access.
use Rattle.std.proofs.Common.{◌≡◌, [], ◌∷◌, None, Some, refl}
use Rattle.fj_byterec.specs.Pieces.{piece, with_record, bytes_from}

second_record : piece (1 ∷ 2 ∷ 3 ∷ 4 ∷ 5 ∷ []) 2 2 ≡ Some (3 ∷ 4 ∷ [])
second_record = refl

-- the last part is no record
no_third_record : piece (1 ∷ 2 ∷ 3 ∷ 4 ∷ 5 ∷ []) 2 3 ≡ None
no_third_record = refl

gap_filled : with_record (1 ∷ []) 2 3 (7 ∷ []) 32 ≡ 1 ∷ 32 ∷ 32 ∷ 32 ∷ 7 ∷ 32 ∷ []
gap_filled = refl

others_stay : with_record (1 ∷ 2 ∷ 3 ∷ 4 ∷ 5 ∷ []) 2 2 (7 ∷ []) 0 ≡ 1 ∷ 2 ∷ 7 ∷ 0 ∷ 5 ∷ []
others_stay = refl

up_to_the_end : bytes_from (1 ∷ 2 ∷ 3 ∷ []) 1 2 ≡ Some (2 ∷ 3 ∷ [])
up_to_the_end = refl

beyond_the_end : bytes_from (1 ∷ 2 ∷ 3 ∷ []) 2 2 ≡ None
beyond_the_end = refl
