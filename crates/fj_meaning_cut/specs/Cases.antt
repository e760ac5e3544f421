-- Worked cases: a deck of two units, cut inside a statement that closes both, and inside one that opens another file.
use Rattle.std.specs.Prelude.{◌≡◌, ℕ, pos, true, false, List, [], ◌∷◌, map, codes, Option, Some, None}
use Rattle.fj_modes.specs.declared.motion.Motion.TheVariants.{Rewind, Endfile}
use Rattle.fj_meaning.specs.State.{Files}
use Rattle.fj_meaning.specs.Statement.{Stated}
use Rattle.fj_meaning.specs.DeckWords.{whole, no_files, file, lines_from, opening, plain_open, replacing, i_transfer, now, by_i, motion, close, «end», Written}
use Rattle.fj_meaning_jobs.specs.Core.{Connected}
use Rattle.fj_meaning_jobs.specs.Desks.{Desk, carry}
use Rattle.fj_meaning_jobs.specs.Doing.{Doing, finishes, gives, awaits, Desked}
use Rattle.fj_meaning_jobs.specs.Desking.{fresh}
use Rattle.fj_meaning_turns.specs.Inside.{does, walked, cut_desks}
use Rattle.fj_meaning_cut.specs.Others.{names_of, file_opened, file_about, core_now, left_now, has_file}

-- unit 10 has 'A' and unit 11 has 'B', each with a record; there is a file 'C'
abbrev pub two_units : Written → List Stated
two_units st = lines_from 1 (opening 10 (replacing (codes "A")) None ∷ opening 11 (replacing (codes "B")) None
    ∷ by_i 1 (now (i_transfer false 10 1 (whole (pos 5)))) ∷ by_i 1 (now (i_transfer false 11 1 (whole (pos 6)))) ∷ st ∷ [])

abbrev pub with_c : Files
with_c = file (codes "C") (55 ∷ [])

-- just before the fifth statement
abbrev pub fifth : Written → Option (Stated × Desked)
fifth st = cut_desks [] 4 (two_units st) (fresh [] with_c)

abbrev pub connected_in : Option (Stated × Desked) → List Connected
connected_in None = []
connected_in (Some x) = x.1.core.units

-- the files, were all units closed where the statement gave so many jobs
abbrev pub left_after : ℕ → Option (Stated × Desked) → Files
left_after jobs None = no_files
left_after jobs (Some x) = let point = walked jobs x.1.desks (does [] x.0 x.1) in left_now point.0 (core_now point.1)

-- and where it waits for one more
abbrev pub left_waiting : List Desk → Doing → Files
left_waiting desks (finishes core condition) = no_files
left_waiting desks (gives slot job core next) = no_files
left_waiting desks (awaits slot job core next) = left_now (carry desks slot job) core

abbrev pub left_out : ℕ → Option (Stated × Desked) → Files
left_out jobs None = no_files
left_out jobs (Some x) = let point = walked jobs x.1.desks (does [] x.0 x.1) in left_waiting point.0 point.1

-- of 'A', 'B' and 'C'
abbrev pub three : Files → List (Option (List ℕ))
three files = files (codes "A") ∷ files (codes "B") ∷ files (codes "C") ∷ []

-- END closes unit 10 and then unit 11: whichever of them it waits for, only the file of that one is not there as closing all units leaves it
abbrev pub EndLeavesOthers : Type 0
EndLeavesOthers =
    (three (left_after 0 (fifth «end»)) ≡ Some (53 ∷ 10 ∷ []) ∷ Some (54 ∷ 10 ∷ []) ∷ Some (55 ∷ []) ∷ [])
    × (three (left_out 0 (fifth «end»)) ≡ None ∷ Some (54 ∷ 10 ∷ []) ∷ Some (55 ∷ []) ∷ [])
    × (three (left_after 1 (fifth «end»)) ≡ Some (53 ∷ 10 ∷ []) ∷ Some (54 ∷ 10 ∷ []) ∷ Some (55 ∷ []) ∷ [])
    × (three (left_out 1 (fifth «end»)) ≡ Some (53 ∷ 10 ∷ []) ∷ None ∷ Some (55 ∷ []) ∷ [])
    × (three (left_after 2 (fifth «end»)) ≡ Some (53 ∷ 10 ∷ []) ∷ Some (54 ∷ 10 ∷ []) ∷ Some (55 ∷ []) ∷ [])

-- OPEN of 'C' on unit 10 closes 'A' first: once that is done only 'C' is not as before
abbrev pub opens_c : Written
opens_c = opening 10 (replacing (codes "C")) None

abbrev pub OpenLeavesOthers : Type 0
OpenLeavesOthers =
    (three (left_after 0 (fifth opens_c)) ≡ Some (53 ∷ 10 ∷ []) ∷ Some (54 ∷ 10 ∷ []) ∷ Some (55 ∷ []) ∷ [])
    × (three (left_out 0 (fifth opens_c)) ≡ None ∷ Some (54 ∷ 10 ∷ []) ∷ Some (55 ∷ []) ∷ [])
    × (three (left_after 1 (fifth opens_c)) ≡ Some (53 ∷ 10 ∷ []) ∷ Some (54 ∷ 10 ∷ []) ∷ None ∷ [])
    × (three (left_out 1 (fifth opens_c)) ≡ Some (53 ∷ 10 ∷ []) ∷ Some (54 ∷ 10 ∷ []) ∷ None ∷ [])
    × (three (left_after 2 (fifth opens_c)) ≡ Some (53 ∷ 10 ∷ []) ∷ Some (54 ∷ 10 ∷ []) ∷ Some [] ∷ [])

-- a WRITE on unit 11 changes 'B', and nothing before it is carried out
abbrev pub writes_b : Written
writes_b = by_i 1 (now (i_transfer false 11 1 (whole (pos 7))))

abbrev pub WriteLeavesOthers : Type 0
WriteLeavesOthers =
    (three (left_after 0 (fifth writes_b)) ≡ Some (53 ∷ 10 ∷ []) ∷ Some (54 ∷ 10 ∷ []) ∷ Some (55 ∷ []) ∷ [])
    × (three (left_after 1 (fifth writes_b)) ≡ Some (53 ∷ 10 ∷ []) ∷ Some (54 ∷ 10 ∷ 55 ∷ 10 ∷ []) ∷ Some (55 ∷ []) ∷ [])

-- ---- the files that statements are about, just before that statement

abbrev pub units_then : List Connected
units_then = connected_in (fifth «end»)

abbrev pub about : Written → Option (List ℕ)
about st = file_about (names_of units_then) st.0

abbrev pub opened : Written → Option (List ℕ)
opened st = file_opened (names_of units_then) st.0

-- only what may be changed, is removed or opened: not what is closed as ever, moved, or kept by OPEN
abbrev pub IsAboutOneFile : Type 0
IsAboutOneFile =
    (map about (writes_b ∷ opens_c ∷ close 10 (Some false) ∷ motion Endfile 11 ∷ []) ≡ Some (codes "B") ∷ Some (codes "C") ∷ Some (codes "A") ∷ Some (codes "B") ∷ [])
    × (map about («end» ∷ close 10 None ∷ close 10 (Some true) ∷ motion Rewind 11 ∷ opening 10 plain_open None ∷ []) ≡ None ∷ None ∷ None ∷ None ∷ None ∷ [])
    × (map opened (opens_c ∷ opening 10 plain_open None ∷ opening 12 (replacing (codes "D")) None ∷ writes_b ∷ []) ≡ Some (codes "C") ∷ None ∷ Some (codes "D") ∷ None ∷ [])

-- a file is at the slot of its unit alone
abbrev pub IsAtItsSlot : Type 0
IsAtItsSlot = map (λ slot. has_file units_then slot (codes "B")) (0 ∷ 1 ∷ 2 ∷ []) ≡ false ∷ true ∷ false ∷ []
