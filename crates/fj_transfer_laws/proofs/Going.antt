-- Input under parts and under parts behind them.
use Rattle.std.proofs.Common.{◌≡◌, ◌≢◌, ℕ, ◌==◌, Bool, true, false, List, [], ◌∷◌, ◌++◌, length, Result, Ok, Err, refl, ap}
use Rattle.fj_value.specs.declared.value.Value.{Value}
use Rattle.fj_value.specs.declared.value.Value.TheVariants.{Undefined}
use Rattle.fj_value.specs.declared.condition.Condition.{Condition}
use Rattle.fj_value.specs.declared.condition.Condition.TheVariants.{Fine}
use Rattle.fj_control.specs.Paired.{Part, item, string, move, slash, lacking}
use Rattle.fj_line.specs.Line.{position_behind}
use Rattle.fj_moved.specs.Cells.{with_value, kind_at}
use Rattle.fj_transfer.specs.AtHand.{AtHand, behind, next_record}
use Rattle.fj_transfer.specs.Input.{Progress, Ended, width_for, characters_for, with_field, field_read, with_record, carried_out}
use Rattle.fj_transfer_laws.proofs.Results.{result_for, result_never, next_never, outcome}

-- ---- it goes on behind the first parts

-- the same call followed by more
abbrev Follows : (Progress → Ended) → (Progress → Ended) → (Progress → Ended) → Type 0
Follows next all back = (q : Progress) → (next q).condition ≡ Fine → all q ≡ back (next q).progress

outcome_goes_on : (there advance pad : Bool) (p read left : Progress) (next all back : Progress → Ended) → Follows next all back → (outcome there advance pad p read left next).condition ≡ Fine
    → outcome there advance pad p read left all ≡ back (outcome there advance pad p read left next).progress
outcome_goes_on true advance pad p read left next all back h fine = h read fine
outcome_goes_on false true true p read left next all back h fine = h read fine
outcome_goes_on false true false p read left next all back h fine = cc
outcome_goes_on false false true p read left next all back h fine = cc
outcome_goes_on false false false p read left next all back h fine = cc

field_goes_on : (advance pad : Bool) (width : ℕ) (chars : List ℕ) (cell : ℕ) (r : Result Value Condition) (p : Progress) (next all back : Progress → Ended) → r ≢ Err Fine → Follows next all back
    → (field_read advance pad width chars cell r p next).condition ≡ Fine → field_read advance pad width chars cell r p all ≡ back (field_read advance pad width chars cell r p next).progress
field_goes_on advance pad width chars cell (Err condition) p next all back never h fine = absurd (never (ap (λ (k : Condition). Err k) fine))
field_goes_on advance pad width chars cell (Ok value) p next all back never h fine =
    outcome_goes_on (length chars == width) advance pad p (with_field width (length chars) cell value p) (record p { cells = with_value p.cells cell Undefined }) next all back h fine

record_goes_on : (r : Result AtHand Condition) (p : Progress) (next all back : Progress → Ended) → r ≢ Err Fine → Follows next all back → (with_record r p next).condition ≡ Fine → with_record r p all ≡ back (with_record r p next).progress
record_goes_on (Err condition) p next all back never h fine = absurd (never (ap (λ (k : Condition). Err k) fine))
record_goes_on (Ok hand) p next all back never h fine = h (record p { hand = hand; at = 0 }) fine

pub goes_on : (advance : Bool) (front rest : List (Part ℕ)) (p : Progress) → (carried_out advance front p).condition ≡ Fine → carried_out advance (front ++ rest) p ≡ carried_out advance rest (carried_out advance front p).progress
goes_on advance [] rest p fine = refl
goes_on advance (item modes e cell ∷ more) rest p fine =
    let kind = kind_at p.cells cell in
    let width = width_for e kind in
    let chars = characters_for width p in
    field_goes_on advance modes.pad width chars cell (result_for e modes kind width chars) p (carried_out advance more) (carried_out advance (more ++ rest)) (carried_out advance rest) (result_never e modes kind width chars)
    (λ q. goes_on advance more rest q) fine
goes_on advance (string s ∷ more) rest p fine = cc
goes_on advance (move m ∷ more) rest p fine = goes_on advance more rest (record p { at = position_behind m p.at }) fine
goes_on advance (slash ∷ more) rest p fine =
    record_goes_on (next_record (behind p.hand)) p (carried_out advance more) (carried_out advance (more ++ rest)) (carried_out advance rest) (next_never (behind p.hand)) (λ q. goes_on advance more rest q) fine
goes_on advance (lacking ∷ more) rest p fine = cc

-- ---- nonadvancing input that is fine is as advancing input

abbrev Agrees : (Progress → Ended) → (Progress → Ended) → Type 0
Agrees short long = (q : Progress) → (short q).condition ≡ Fine → long q ≡ short q

outcome_advances : (there pad : Bool) (p read left : Progress) (short long : Progress → Ended) → Agrees short long → (outcome there false pad p read left short).condition ≡ Fine
    → outcome there true pad p read left long ≡ outcome there false pad p read left short
outcome_advances true pad p read left short long h fine = h read fine
outcome_advances false true p read left short long h fine = cc
outcome_advances false false p read left short long h fine = cc

field_advances : (pad : Bool) (width : ℕ) (chars : List ℕ) (cell : ℕ) (r : Result Value Condition) (p : Progress) (short long : Progress → Ended) → Agrees short long
    → (field_read false pad width chars cell r p short).condition ≡ Fine → field_read true pad width chars cell r p long ≡ field_read false pad width chars cell r p short
field_advances pad width chars cell (Err condition) p short long h fine = refl
field_advances pad width chars cell (Ok value) p short long h fine =
    outcome_advances (length chars == width) pad p (with_field width (length chars) cell value p) (record p { cells = with_value p.cells cell Undefined }) short long h fine

record_advances : (r : Result AtHand Condition) (p : Progress) (short long : Progress → Ended) → Agrees short long → (with_record r p short).condition ≡ Fine → with_record r p long ≡ with_record r p short
record_advances (Err condition) p short long h fine = refl
record_advances (Ok hand) p short long h fine = h (record p { hand = hand; at = 0 }) fine

pub advances : (parts : List (Part ℕ)) (p : Progress) → (carried_out false parts p).condition ≡ Fine → carried_out true parts p ≡ carried_out false parts p
advances [] p fine = refl
advances (item modes e cell ∷ more) p fine =
    let kind = kind_at p.cells cell in
    let width = width_for e kind in
    let chars = characters_for width p in
    field_advances modes.pad width chars cell (result_for e modes kind width chars) p (carried_out false more) (carried_out true more) (λ q. advances more q) fine
advances (string s ∷ more) p fine = refl
advances (move m ∷ more) p fine = advances more (record p { at = position_behind m p.at }) fine
advances (slash ∷ more) p fine = record_advances (next_record (behind p.hand)) p (carried_out false more) (carried_out true more) (λ q. advances more q) fine
advances (lacking ∷ more) p fine = refl

pub advancing : (advance : Bool) (parts : List (Part ℕ)) (p : Progress) → (carried_out false parts p).condition ≡ Fine → carried_out advance parts p ≡ carried_out false parts p
advancing true parts p fine = advances parts p fine
advancing false parts p fine = refl
