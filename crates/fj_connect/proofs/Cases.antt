-- Worked cases of opening, of positions and of motions.
use Rattle.std.proofs.Common.{◌≡◌, false, List, [], ◌∷◌, ℕ, Some, None, Ok, Err, refl}
use Rattle.fj_value.specs.declared.condition.Condition.TheVariants.{Fine, Error}
use Rattle.fj_modes.specs.declared.modes.Modes.{Modes}
use Rattle.fj_modes.specs.declared.specifiers.Access.TheVariants.{Direct, Stream}
use Rattle.fj_modes.specs.declared.specifiers.Action.TheVariants.{Read}
use Rattle.fj_modes.specs.declared.specifiers.FileStatus.TheVariants.{Old, New, Replace}
use Rattle.fj_modes.specs.declared.specifiers.Start.TheVariants.{Append}
use Rattle.fj_modes.specs.OpenSpec.{bare}
use Rattle.fj_modes.specs.Laws.{usual_modes}
use Rattle.fj_unfrec.specs.Frames.{framed}
use Rattle.fj_connect.specs.Connection.{Connection, between, in_record, past_record, past_end, rest_of_record, record_end, missing_feed, with_records, with_open_record, with_frame, with_direct, with_bytes}
use Rattle.fj_connect.specs.Opening.{connected, first_spot, opened_file}
use Rattle.fj_connect.specs.Positions.{ended, moved}
use Rattle.fj_connect.specs.declared.spot.Positioning.TheVariants.{Backspace, Rewind, Endfile}

-- `ab`, line feed, `c`
abbrev text : List ℕ
text = 97 ∷ 98 ∷ 10 ∷ 99 ∷ []

-- the name `X`
abbrev name : List ℕ
name = 88 ∷ []

abbrev of_text : Connection
of_text = connected usual_modes name text

abbrev append : Modes
append = record usual_modes { start = Append }

abbrev unformatted : Modes
unformatted = record usual_modes { formatted = false }

-- OPEN

old_is_there : opened_file (Some text) name (record bare { status = Some Old }) usual_modes ≡ Ok of_text
old_is_there = refl

old_is_missing : opened_file None name (record bare { status = Some Old }) usual_modes ≡ Err (Error 5)
old_is_missing = refl

new_is_there : opened_file (Some []) name (record bare { status = Some New }) usual_modes ≡ Err (Error 6)
new_is_there = refl

replaced : opened_file (Some text) name (record bare { status = Some Replace }) append ≡ Ok (connected append name [])
replaced = refl

unknown_is_made : opened_file None name bare usual_modes ≡ Ok (connected usual_modes name [])
unknown_is_made = refl

appended : opened_file (Some text) name bare append ≡ Ok (between (connected append name text) 4)
appended = refl

-- positions

rest_in_a_record : rest_of_record (in_record of_text 0 1) ≡ 98 ∷ []
rest_in_a_record = refl

behind_a_record : past_record (in_record of_text 0 1) ≡ between of_text 3
behind_a_record = refl

behind_the_last_record : record_end (between of_text 3) ≡ 4
behind_the_last_record = refl

feed_is_missing : missing_feed (between of_text 4) ≡ 10 ∷ []
feed_is_missing = refl

feed_is_there : missing_feed (between of_text 3) ≡ []
feed_is_there = refl

no_feed_at_the_start : missing_feed of_text ≡ []
no_feed_at_the_start = refl

no_feed_in_a_record : missing_feed (in_record of_text 0 1) ≡ []
no_feed_in_a_record = refl

-- output

rest_is_cut : with_records (in_record of_text 0 1) (122 ∷ 10 ∷ []) ≡ between (connected usual_modes name (97 ∷ 122 ∷ 10 ∷ [])) 3
rest_is_cut = refl

left_open : ended (with_open_record (in_record of_text 0 1) (122 ∷ []) 2) ≡ between (connected usual_modes name (97 ∷ 122 ∷ 10 ∷ [])) 3
left_open = refl

framed_byte : with_frame (connected unformatted name []) (7 ∷ [])
    ≡ between (connected unformatted name (1 ∷ 0 ∷ 0 ∷ 0 ∷ 7 ∷ 1 ∷ 0 ∷ 0 ∷ 0 ∷ [])) 9
framed_byte = refl

gap_is_filled : with_direct (connected (record usual_modes { access = Direct; recl = 2 }) name []) 2 (97 ∷ []) 32
    ≡ record (connected (record usual_modes { access = Direct; recl = 2 }) name (32 ∷ 32 ∷ 97 ∷ 32 ∷ [])) { spot = record (first_spot 0) { next_number = 3 } }
gap_is_filled = refl

bytes_behind_stay : with_bytes (connected (record unformatted { access = Stream }) name text) (120 ∷ [])
    ≡ between (connected (record unformatted { access = Stream }) name (120 ∷ 98 ∷ 10 ∷ 99 ∷ [])) 1
bytes_behind_stay = refl

-- BACKSPACE

back_from_the_end : moved (past_end (between of_text 4)) Backspace ≡ (between of_text 4, Fine)
back_from_the_end = refl

back_from_inside : moved (in_record of_text 0 1) Backspace ≡ (of_text, Fine)
back_from_inside = refl

back_over_the_last : moved (between of_text 4) Backspace ≡ (between of_text 3, Fine)
back_over_the_last = refl

back_over_the_first : moved (between of_text 3) Backspace ≡ (of_text, Fine)
back_over_the_first = refl

back_at_the_start : moved of_text Backspace ≡ (of_text, Fine)
back_at_the_start = refl

back_over_the_open_record : moved (with_open_record (between of_text 3) (122 ∷ []) 1) Backspace
    ≡ (between (connected usual_modes name (97 ∷ 98 ∷ 10 ∷ 122 ∷ 10 ∷ [])) 3, Fine)
back_over_the_open_record = refl

back_over_a_frame : moved (between (connected unformatted name (framed (7 ∷ []))) 9) Backspace ≡ (connected unformatted name (framed (7 ∷ [])), Fine)
back_over_a_frame = refl

no_frame_before : moved (between (connected unformatted name text) 4) Backspace ≡ (between (connected unformatted name text) 4, Error 18)
no_frame_before = refl

stream_goes_to_its_line : moved (between (connected (record usual_modes { access = Stream }) name text) 2) Backspace
    ≡ (connected (record usual_modes { access = Stream }) name text, Fine)
stream_goes_to_its_line = refl

unformatted_stream_has_none : moved (connected (record unformatted { access = Stream }) name text) Backspace
    ≡ (connected (record unformatted { access = Stream }) name text, Error 28)
unformatted_stream_has_none = refl

-- REWIND and ENDFILE

rewound_with_its_feed : moved (with_open_record of_text (122 ∷ []) 1) Rewind ≡ (connected usual_modes name (122 ∷ 10 ∷ []), Fine)
rewound_with_its_feed = refl

direct_has_none : moved (connected (record usual_modes { access = Direct; action = Read }) name text) Endfile
    ≡ (connected (record usual_modes { access = Direct; action = Read }) name text, Error 28)
direct_has_none = refl

cut_inside : moved (in_record of_text 0 1) Endfile ≡ (past_end (connected usual_modes name (97 ∷ [])), Fine)
cut_inside = refl

stream_is_cut : moved (between (connected (record usual_modes { access = Stream }) name text) 1) Endfile
    ≡ (between (connected (record usual_modes { access = Stream }) name (97 ∷ [])) 1, Fine)
stream_is_cut = refl

for_input_alone : moved (past_end (connected (record usual_modes { action = Read }) name text)) Endfile
    ≡ (past_end (connected (record usual_modes { action = Read }) name text), Error 10)
for_input_alone = refl

behind_the_endfile_record : moved (past_end of_text) Endfile ≡ (past_end of_text, Error 20)
behind_the_endfile_record = refl
