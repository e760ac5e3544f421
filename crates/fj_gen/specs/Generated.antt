-- The text of a deck that is made: WRITE statements on two units of one file each, asynchronous, with waits between them.
use Rattle.std.specs.Prelude.{ℕ, suc, ◌+◌, ◌*◌, ◌%◌, ◌==◌, ◌&&◌, nat_lt, List, [], ◌∷◌, ◌++◌, codes, if◌then◌else◌}
use Rattle.std.specs.Fmt.{decimal}
use Rattle.fj_gen.specs.Draws.{draws}

-- four elements, and units 10 and 11 open for asynchronous output
unfoldable pub opening_text : List ℕ
opening_text =
    codes "INTEGER V(4)\nOPEN(10,FILE='G10',STATUS='REPLACE',ASYNCHRONOUS='YES')\nOPEN(11,FILE='G11',STATUS='REPLACE',ASYNCHRONOUS='YES')\n"

unfoldable pub waits_text : List ℕ
waits_text = codes "WAIT(10)\nWAIT(11)\n"

unfoldable pub closing_text : List ℕ
closing_text = codes "CLOSE(10)\nCLOSE(11)\nEND\n"

-- after every four transfers both units are waited for, before the next one
abbrev pub waits_after : ℕ → List ℕ
waits_after count = if nat_lt 0 count && (count % 4 == 0) then waits_text else []

-- an element gets a value, and is written to a unit
unfoldable pub output_text : (element unit value : ℕ) → List ℕ
output_text element unit value =
    codes "V(" ++ decimal element ++ codes ") = " ++ decimal value ++ codes "\nWRITE(" ++ decimal unit ++ codes ",'(I6)',ASYNCHRONOUS='YES') V("
    ++ decimal element ++ codes ")\n"

-- the transfer behind `count` others, from two draws: the first gives the unit, the second the value; the elements take turns
abbrev pub transfer_text : (count first second : ℕ) → List ℕ
transfer_text count first second = waits_after count ++ output_text (count % 4 + 1) (10 + first % 2) (second % 1000)

-- the transfers behind `count` others, two draws each
unfoldable pub transfers_text : ℕ → List ℕ → List ℕ
transfers_text count (first ∷ second ∷ rest) = transfer_text count first second ++ transfers_text (suc count) rest
transfers_text count _ = []

-- the deck of so many transfers, with the draws from a seed on
unfoldable pub generated_text : (seed count : ℕ) → List ℕ
generated_text seed count = opening_text ++ transfers_text 0 (draws (2 * count) seed) ++ closing_text
