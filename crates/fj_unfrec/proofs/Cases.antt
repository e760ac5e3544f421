-- Worked cases of frames and of stored values.
use Rattle.std.proofs.Common.{◌≡◌, [], ◌∷◌, true, false, None, Some, refl}
use Rattle.std.specs.Prelude.{negsuc}
use Rattle.fj_value.specs.declared.kind.Kind.TheVariants.{Int4, Int8, Logical}
use Rattle.fj_value.specs.declared.value.Value.TheVariants.{Int, Log}
use Rattle.fj_unfrec.specs.declared.read.FrameRead.TheVariants.{Frame, End, Broken, TooLong}
use Rattle.fj_unfrec.specs.Frames.{framed, frame, frame_before}
use Rattle.fj_unfrec.specs.Reading.{frame_at, frame_start}
use Rattle.fj_unfrec.specs.Stored.{stored, value_of}

-- the record of one INTEGER(4) of value 5
five : framed (5 ∷ 0 ∷ 0 ∷ 0 ∷ []) ≡ 4 ∷ 0 ∷ 0 ∷ 0 ∷ 5 ∷ 0 ∷ 0 ∷ 0 ∷ 4 ∷ 0 ∷ 0 ∷ 0 ∷ []
five = refl

five_begins : frame (4 ∷ 0 ∷ 0 ∷ 0 ∷ 5 ∷ 0 ∷ 0 ∷ 0 ∷ 4 ∷ 0 ∷ 0 ∷ 0 ∷ 7 ∷ []) ≡ Some (5 ∷ 0 ∷ 0 ∷ 0 ∷ [], 7 ∷ [])
five_begins = refl

five_ends : frame_before (7 ∷ 4 ∷ 0 ∷ 0 ∷ 0 ∷ 5 ∷ 0 ∷ 0 ∷ 0 ∷ 4 ∷ 0 ∷ 0 ∷ 0 ∷ []) ≡ Some (7 ∷ [], 5 ∷ 0 ∷ 0 ∷ 0 ∷ [])
five_ends = refl

unequal_lengths : frame (4 ∷ 0 ∷ 0 ∷ 0 ∷ 5 ∷ 0 ∷ 0 ∷ 0 ∷ 5 ∷ 0 ∷ 0 ∷ 0 ∷ []) ≡ None
unequal_lengths = refl

cut_off : frame (4 ∷ 0 ∷ 0 ∷ 0 ∷ 5 ∷ 0 ∷ 0 ∷ 0 ∷ 4 ∷ 0 ∷ 0 ∷ []) ≡ None
cut_off = refl

read_broken : frame_at (4 ∷ 0 ∷ 0 ∷ []) 0 9 ≡ Broken
read_broken = refl

read_empty : frame_at (0 ∷ 0 ∷ 0 ∷ 0 ∷ 0 ∷ 0 ∷ 0 ∷ 0 ∷ []) 0 0 ≡ Frame 8
read_empty = refl

read_too_long : frame_at (1 ∷ 0 ∷ 0 ∷ 0 ∷ 7 ∷ 1 ∷ 0 ∷ 0 ∷ 0 ∷ []) 0 0 ≡ TooLong
read_too_long = refl

read_at_the_end : frame_at (7 ∷ []) 1 9 ≡ End
read_at_the_end = refl

start_of_five : frame_start (7 ∷ 4 ∷ 0 ∷ 0 ∷ 0 ∷ 5 ∷ 0 ∷ 0 ∷ 0 ∷ 4 ∷ 0 ∷ 0 ∷ 0 ∷ []) ≡ Some 1
start_of_five = refl

start_of_none : frame_start (4 ∷ []) ≡ None
start_of_none = refl

start_of_nothing : frame_start [] ≡ Some 0
start_of_nothing = refl

stored_negative : stored Int8 (Int (negsuc 1)) ≡ 254 ∷ 255 ∷ 255 ∷ 255 ∷ 255 ∷ 255 ∷ 255 ∷ 255 ∷ []
stored_negative = refl

read_negative : value_of Int4 (255 ∷ 255 ∷ 255 ∷ 255 ∷ []) ≡ Int (negsuc 0)
read_negative = refl

other_words_are_true : value_of Logical (0 ∷ 2 ∷ 0 ∷ 0 ∷ []) ≡ Log true
other_words_are_true = refl

zero_is_false : value_of Logical (0 ∷ 0 ∷ 0 ∷ 0 ∷ []) ≡ Log false
zero_is_false = refl
