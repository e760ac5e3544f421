-- An input in the middle of a record, and the same where a statement began there.
use Rattle.std.proofs.Common.{◌≡◌, ℕ, ◌+◌, ◌-◌, ◌≤◌, ◌==◌, min, Bool, true, false, cond, List, [], ◌∷◌, length, take, drop, Result, Ok, Err, refl, sym, ap, subst, ◌∙◌, inl, inr, arith}
use Rattle.std.proofs.lemmas.Bool.{cases_lt}
use Rattle.std.proofs.lemmas.List.{drop_all, drop-drop, length-drop}
use Rattle.fj_value.specs.declared.value.Value.{Value}
use Rattle.fj_value.specs.declared.value.Value.TheVariants.{Undefined}
use Rattle.fj_value.specs.declared.condition.Condition.{Condition}
use Rattle.fj_value.specs.declared.condition.Condition.TheVariants.{Fine, EndOfRecord, Error}
use Rattle.fj_modes.specs.declared.specifiers.Access.TheVariants.{Direct}
use Rattle.fj_modes.specs.Words.{same_access}
use Rattle.fj_line.specs.Line.{farthest, position_behind}
use Rattle.fj_line.specs.declared.moves.Move.TheVariants.{To, Back, Ahead}
use Rattle.fj_control.specs.Paired.{Part, item, string, move, slash, lacking}
use Rattle.fj_moved.specs.Cells.{with_value, kind_at}
use Rattle.fj_seqrec.specs.Lines.{first_line, behind_line}
use Rattle.fj_connect.specs.Connection.{Connection, bytes_behind, rest_of_record, in_record, past_record, between}
use Rattle.fj_connect.proofs.RestProofs.{rests}
use Rattle.fj_transfer.specs.AtHand.{AtHand, behind, next_record}
use Rattle.fj_transfer.specs.Input.{Progress, Ended, width_for, characters_for, stopped, with_field, field_read, with_record, carried_out, left_at}
use Rattle.fj_transfer_laws.proofs.Results.{result_for, outcome}
use Rattle.fj_transfer_laws.proofs.Split.{AreAhead}

-- ---- two ends that are one, but for what was counted before

pub record SameEnd (advance : Bool) (before : ℕ) (all last : Ended) : Type 0 where
  pub condition : last.condition ≡ all.condition
  pub cells : last.progress.cells ≡ all.progress.cells
  pub count : all.progress.count ≡ before + last.progress.count
  pub left : left_at advance last.progress ≡ left_at advance all.progress
  pub behind : behind last.progress.hand ≡ behind all.progress.hand

-- two calls that end so from each two progresses
abbrev Both : Bool → ℕ → (Progress → Progress → Type 0) → (Progress → Ended) → (Progress → Ended) → Type 0
Both advance before R all last = (p q : Progress) → R p q → SameEnd advance before (all p) (last q)

outcome_both : (advance : Bool) (before : ℕ) (R : Progress → Progress → Type 0) (all last : Progress → Ended) (there pad : Bool) (p read left p' read' left' : Progress)
    → ((c : Condition) (x y : Progress) → R x y → SameEnd advance before (stopped c x) (stopped c y)) → Both advance before R all last → R p p' → R read read' → R left left'
    → SameEnd advance before (outcome there advance pad p read left all) (outcome there advance pad p' read' left' last)
outcome_both advance before R all last true pad p read left p' read' left' ends h here more none = h read read' more
outcome_both true before R all last false true p read left p' read' left' ends h here more none = h read read' more
outcome_both true before R all last false false p read left p' read' left' ends h here more none = ends (Error 30) p p' here
outcome_both false before R all last false true p read left p' read' left' ends h here more none = ends EndOfRecord read read' more
outcome_both false before R all last false false p read left p' read' left' ends h here more none = ends EndOfRecord left left' none

-- ---- the same but for the count

abbrev counting : ℕ → Progress → Progress
counting n p = record p { count = n }

abbrev IsCounted : ℕ → Progress → Progress → Type 0
IsCounted before p q = (n : ℕ) × ((q ≡ counting n p) × (p.count ≡ before + n))

counted_end : (advance : Bool) (before : ℕ) (c : Condition) (p q : Progress) → IsCounted before p q → SameEnd advance before (stopped c p) (stopped c q)
counted_end advance before c p q (n, (is, sum)) =
    let P : Progress → Type 0 = λ x. SameEnd advance before (stopped c p) (stopped c x) in
    subst P (sym is) (record { condition = refl; cells = refl; count = sum; left = refl; behind = refl })

module _ (advance : Bool) (before : ℕ) where
  counted_field : (pad : Bool) (width : ℕ) (chars : List ℕ) (cell : ℕ) (r : Result Value Condition) (n : ℕ) (p : Progress) (next : Progress → Ended) → p.count ≡ before + n
      → Both advance before (IsCounted before) next next → SameEnd advance before (field_read advance pad width chars cell r p next) (field_read advance pad width chars cell r (counting n p) next)
  counted_field pad width chars cell (Err condition) n p next sum h = counted_end advance before condition p (counting n p) (n, (refl, sum))
  counted_field pad width chars cell (Ok value) n p next sum h =
      let q = counting n p in
      let read = with_field width (length chars) cell value p in
      let left : Progress = record p { cells = with_value p.cells cell Undefined } in
      outcome_both advance before (IsCounted before) next next (length chars == width) pad p read left q (with_field width (length chars) cell value q) (record q { cells = with_value p.cells cell Undefined })
      (counted_end advance before) h (n, (refl, sum)) (n + length chars, (refl, omega (arith, sum))) (n, (refl, sum))

  counted_record : (r : Result AtHand Condition) (n : ℕ) (p : Progress) (next : Progress → Ended) → p.count ≡ before + n → Both advance before (IsCounted before) next next
      → SameEnd advance before (with_record r p next) (with_record r (counting n p) next)
  counted_record (Err condition) n p next sum h = counted_end advance before condition p (counting n p) (n, (refl, sum))
  counted_record (Ok hand) n p next sum h = h (record p { hand = hand; at = 0 }) (record (counting n p) { hand = hand; at = 0 }) (n, (refl, sum))

counted_both : (advance : Bool) (before : ℕ) (parts : List (Part ℕ)) → ((n : ℕ) (p : Progress) → p.count ≡ before + n → SameEnd advance before (carried_out advance parts p) (carried_out advance parts (counting n p)))
    → Both advance before (IsCounted before) (carried_out advance parts) (carried_out advance parts)
counted_both advance before parts h p q (n, (is, sum)) =
    let P : Progress → Type 0 = λ x. SameEnd advance before (carried_out advance parts p) (carried_out advance parts x) in
    subst P (sym is) (h n p sum)

counted : (advance : Bool) (before : ℕ) (parts : List (Part ℕ)) (n : ℕ) (p : Progress) → p.count ≡ before + n → SameEnd advance before (carried_out advance parts p) (carried_out advance parts (counting n p))
counted advance before [] n p sum = counted_end advance before Fine p (counting n p) (n, (refl, sum))
counted advance before (item modes e cell ∷ more) n p sum =
    let kind = kind_at p.cells cell in
    let width = width_for e kind in
    let chars = characters_for width p in
    counted_field advance before modes.pad width chars cell (result_for e modes kind width chars) n p (carried_out advance more) sum (counted_both advance before more (λ m x. counted advance before more m x))
counted advance before (string s ∷ more) n p sum = counted_end advance before (Error 29) p (counting n p) (n, (refl, sum))
counted advance before (move m ∷ more) n p sum = counted advance before more n (record p { at = position_behind m p.at }) sum
counted advance before (slash ∷ more) n p sum =
    counted_record advance before (next_record (behind p.hand)) n p (carried_out advance more) sum (counted_both advance before more (λ m x. counted advance before more m x))
counted advance before (lacking ∷ more) n p sum = counted_end advance before (Error 11) p (counting n p) (n, (refl, sum))

-- ---- the same record from a place inside it on

abbrev pub shifted : Connection → ℕ → Connection
shifted c m = in_record c c.spot.start ((c.spot.at - c.spot.start) + m)

-- a progress where a statement began so many characters further, with its own position and count
abbrev pub piece_of : ℕ → ℕ → ℕ → Progress → Progress
piece_of m at n p = record { hand = record { connection = shifted p.hand.connection m; text = drop m p.hand.text }; at = at; cells = p.cells; count = n }

-- the record at hand, from its position on
pub record IsRest (h : AtHand) : Type 0 where
  pub sequential : same_access h.connection.modes.access Direct ≡ false
  pub line : h.text ≡ rest_of_record h.connection
  pub start : h.connection.spot.start ≤ h.connection.spot.at
  pub short : length h.text ≤ farthest

pub record Fits (before m at n : ℕ) (p : Progress) : Type 0 where
  pub rest : IsRest p.hand
  pub inside : m ≤ length p.hand.text
  pub place : min p.at (length p.hand.text) ≡ min (m + at) (length p.hand.text)
  pub count : p.count ≡ before + n

abbrev IsPiece : ℕ → ℕ → Progress → Progress → Type 0
IsPiece before m p q = (at : ℕ) × ((n : ℕ) × ((q ≡ piece_of m at n p) × Fits before m at n p))

behind_rest : (c : Connection) (text : List ℕ) → same_access c.modes.access Direct ≡ false → behind (record { connection = c; text = text }) ≡ past_record c
behind_rest c text is = ap (λ t. cond t c (past_record c)) is

pub place_shifted : (c : Connection) (m : ℕ) → c.spot.start ≤ c.spot.at → drop (c.spot.start + ((c.spot.at - c.spot.start) + m)) c.bytes ≡ drop m (bytes_behind c)
place_shifted c m start =
    let sum : c.spot.start + ((c.spot.at - c.spot.start) + m) ≡ c.spot.at + m = omega arith in
    ap (λ n. drop n c.bytes) sum ∙ sym (drop-drop m c.spot.at c.bytes)

past_shifted : (c : Connection) (m : ℕ) → c.spot.start ≤ c.spot.at → m ≤ length (rest_of_record c) → past_record (shifted c m) ≡ past_record c
past_shifted c m start inside = ap (λ b. between c (length c.bytes - length b)) (ap behind_line (place_shifted c m start) ∙ (rests (bytes_behind c) m inside).1)

pub rest_shifted : (c : Connection) (m : ℕ) → c.spot.start ≤ c.spot.at → m ≤ length (rest_of_record c) → rest_of_record (shifted c m) ≡ drop m (rest_of_record c)
rest_shifted c m start inside = ap first_line (place_shifted c m start) ∙ (rests (bytes_behind c) m inside).0

inside_line : (h : AtHand) (m : ℕ) → IsRest h → m ≤ length h.text → m ≤ length (rest_of_record h.connection)
inside_line h m rest inside = omega (arith, inside, ap length rest.line)

behind_piece : (before m at n : ℕ) (p : Progress) → Fits before m at n p → behind (piece_of m at n p).hand ≡ behind p.hand
behind_piece before m at n p fits =
    let c = p.hand.connection in
    behind_rest (shifted c m) (drop m p.hand.text) fits.rest.sequential
    ∙ past_shifted c m fits.rest.start (inside_line p.hand m fits.rest fits.inside)
    ∙ sym (behind_rest c p.hand.text fits.rest.sequential)

left_piece : (before m at n : ℕ) (p : Progress) (advance : Bool) → Fits before m at n p → left_at advance (piece_of m at n p) ≡ left_at advance p
left_piece before m at n p true fits = behind_piece before m at n p fits
left_piece before m at n p false fits =
    let c = p.hand.connection in
    let start = c.spot.start in
    let skip = c.spot.at - c.spot.start in
    let long = length p.hand.text in
    let sum : ((start + (skip + m)) - start) + min at (length (drop m p.hand.text)) ≡ skip + min p.at long = omega (arith, fits.place, fits.inside, length-drop m p.hand.text) in
    ap (λ k. in_record c start k) sum

piece_end : (advance : Bool) (before m : ℕ) (c : Condition) (p q : Progress) → IsPiece before m p q → SameEnd advance before (stopped c p) (stopped c q)
piece_end advance before m c p q (at, (n, (is, fits))) =
    let P : Progress → Type 0 = λ x. SameEnd advance before (stopped c p) (stopped c x) in
    subst P (sym is) (record { condition = refl; cells = refl; count = fits.count; left = left_piece before m at n p advance fits; behind = behind_piece before m at n p fits })

same_drop : (text : List ℕ) (a b : ℕ) → min a (length text) ≡ min b (length text) → drop a text ≡ drop b text
same_drop text a b same = elim (cases_lt a (length text)) [
  | inl inside ↦ let e : a ≡ b = omega (arith, inside, same) in ap (λ n. drop n text) e
  | inr past ↦ drop_all a text past ∙ sym (drop_all b text (omega (arith, past, same)))
]

same_characters : (before m at n width : ℕ) (p : Progress) → Fits before m at n p → characters_for width p ≡ characters_for width (piece_of m at n p)
same_characters before m at n width p fits =
    ap (take width) (same_drop p.hand.text p.at (m + at) fits.place ∙ sym (drop-drop at m p.hand.text))

same_place : (a b m long width : ℕ) → long ≤ farthest → min a long ≡ min (m + b) long → min (min (a + width) farthest) long ≡ min (m + min (b + width) farthest) long
same_place a b m long width short same = omega (arith, short, same)

module _ (advance : Bool) (before m : ℕ) where
  piece_field : (pad : Bool) (width : ℕ) (chars : List ℕ) (cell : ℕ) (r : Result Value Condition) (at n : ℕ) (p : Progress) (next : Progress → Ended) → Fits before m at n p
      → Both advance before (IsPiece before m) next next → SameEnd advance before (field_read advance pad width chars cell r p next) (field_read advance pad width chars cell r (piece_of m at n p) next)
  piece_field pad width chars cell (Err condition) at n p next fits h = piece_end advance before m condition p (piece_of m at n p) (at, (n, (refl, fits)))
  piece_field pad width chars cell (Ok value) at n p next fits h =
      let q = piece_of m at n p in
      let read = with_field width (length chars) cell value p in
      let left : Progress = record p { cells = with_value p.cells cell Undefined } in
      outcome_both advance before (IsPiece before m) next next (length chars == width) pad p read left q (with_field width (length chars) cell value q) (record q { cells = with_value p.cells cell Undefined })
      (piece_end advance before m) h (at, (n, (refl, fits))) (
        position_behind (Ahead width) at,
        (
          n + length chars,
          (
            refl,
            record {
              rest = fits.rest;
              inside = fits.inside;
              place = same_place p.at at m (length p.hand.text) width fits.rest.short fits.place;
              count = omega (arith, fits.count);
            },
          ),
        ),
      )
      (at, (n, (refl, record { rest = fits.rest; inside = fits.inside; place = fits.place; count = fits.count })))

  piece_record : (r : Result AtHand Condition) (at n : ℕ) (p : Progress) (parts : List (Part ℕ)) → Fits before m at n p
      → SameEnd advance before (with_record r p (carried_out advance parts)) (with_record r (piece_of m at n p) (carried_out advance parts))
  piece_record (Err condition) at n p parts fits = piece_end advance before m condition p (piece_of m at n p) (at, (n, (refl, fits)))
  piece_record (Ok hand) at n p parts fits = counted advance before parts n (record p { hand = hand; at = 0 }) fits.count

alike_both : (advance : Bool) (before m : ℕ) (parts : List (Part ℕ)) → ((at n : ℕ) (p : Progress) → Fits before m at n p → SameEnd advance before (carried_out advance parts p) (carried_out advance parts (piece_of m at n p)))
    → Both advance before (IsPiece before m) (carried_out advance parts) (carried_out advance parts)
alike_both advance before m parts h p q (at, (n, (is, fits))) =
    let P : Progress → Type 0 = λ x. SameEnd advance before (carried_out advance parts p) (carried_out advance parts x) in
    subst P (sym is) (h at n p fits)

pub alike : (advance : Bool) (before m : ℕ) (parts : List (Part ℕ)) (at n : ℕ) (p : Progress) → AreAhead parts → Fits before m at n p → SameEnd advance before (carried_out advance parts p) (carried_out advance parts (piece_of m at n p))
alike advance before m [] at n p ahead fits = piece_end advance before m Fine p (piece_of m at n p) (at, (n, (refl, fits)))
alike advance before m (item modes e cell ∷ more) at n p ahead fits =
    let kind = kind_at p.cells cell in
    let width = width_for e kind in
    let chars = characters_for width p in
    let P : List ℕ → Type 0 = λ l. SameEnd advance before (field_read advance modes.pad width chars cell (result_for e modes kind width chars) p (carried_out advance more))
    (field_read advance modes.pad width l cell (result_for e modes kind width l) (piece_of m at n p) (carried_out advance more)) in
    subst P (same_characters before m at n width p fits)
    (piece_field advance before m modes.pad width chars cell (result_for e modes kind width chars) at n p (carried_out advance more) fits (alike_both advance before m more (λ a k x. alike advance before m more a k x ahead)))
alike advance before m (string s ∷ more) at n p ahead fits = piece_end advance before m (Error 29) p (piece_of m at n p) (at, (n, (refl, fits)))
alike advance before m (move (Ahead k) ∷ more) at n p ahead fits =
    alike advance before m more (position_behind (Ahead k) at) n (record p { at = position_behind (Ahead k) p.at }) ahead
    (record { rest = fits.rest; inside = fits.inside; place = same_place p.at at m (length p.hand.text) k fits.rest.short fits.place; count = fits.count })
alike advance before m (move (To k) ∷ more) at n p ahead fits = absurd ahead
alike advance before m (move (Back k) ∷ more) at n p ahead fits = absurd ahead
alike advance before m (slash ∷ more) at n p ahead fits =
    let P : Connection → Type 0 = λ c. SameEnd advance before (with_record (next_record (behind p.hand)) p (carried_out advance more)) (with_record (next_record c) (piece_of m at n p) (carried_out advance more)) in
    subst P (sym (behind_piece before m at n p fits)) (piece_record advance before m (next_record (behind p.hand)) at n p more fits)
alike advance before m (lacking ∷ more) at n p ahead fits = piece_end advance before m (Error 11) p (piece_of m at n p) (at, (n, (refl, fits)))
