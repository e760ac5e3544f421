-- The texts of list-directed output are its records.
use Rattle.std.proofs.Common.{◌≡◌, ℕ, ◌+◌, ◌-◌, ◌≤◌, Bool, true, false, cond, List, [], ◌∷◌, ◌++◌, length, take, drop, Ok, Err, refl, sym, ap, ◌∙◌, arith, append_assoc, append-nil, length-append}
use Rattle.std.specs.Prelude.{replicate}
use Rattle.std.proofs.Math.Seq.{take-length}
use Rattle.std.proofs.Math.ListN.{drop_of_length-le}
use Rattle.fj_value.specs.declared.edit.EditModes.{EditModes}
use Rattle.fj_value.specs.declared.value.Value.{Value}
use Rattle.fj_line.specs.Line.{LineState, blank, empty_line, written, with_chars}
use Rattle.fj_value.specs.declared.condition.Condition.{Condition}
use Rattle.fj_line.specs.declared.page.Page.{Page}
use Rattle.fj_line.specs.Actions.{Action, put, end_record, AtHand, without_limit, carried_out, text_in, output}
use Rattle.fj_line.specs.Page.{at_hand}
use Rattle.fj_line.proofs.PageLemmas.{written_whole}
use Rattle.fj_line.proofs.RecordLaws.{nothing_is_too_long}
use Rattle.fj_line.specs.Records.{texts_from, texts_of, joined, MeetNone}
use Rattle.fj_list.specs.ListText.{shown, gap, is_characters, passes_columns, continued, listed, text_of}
use Rattle.fj_list.specs.Listing.{texts_behind, list_actions, RecordsAreListed}

-- a line with the position behind it
abbrev pub at_end : List ℕ → LineState
at_end line = record { at = length line; text = line }

abbrev last_end : List Action
last_end = end_record ∷ []

with_chars-end : (text chars : List ℕ) → with_chars text (length text) chars ≡ text ++ chars
with_chars-end text [] = sym (append-nil text)
with_chars-end text (c ∷ cs) =
    let none : length text - length text ≡ 0 = omega arith in
    ap (λ t. t ++ (replicate (length text - length text) blank ++ ((c ∷ cs) ++ drop (length text + length (c ∷ cs)) text))) (take-length text)
    ∙ ap (λ n. text ++ (replicate n blank ++ ((c ∷ cs) ++ drop (length text + length (c ∷ cs)) text))) none
    ∙ ap (λ t. text ++ ((c ∷ cs) ++ t)) (drop_of_length-le text (omega arith))
    ∙ ap (λ t. text ++ t) (append-nil (c ∷ cs))

pub longer_line : (line more : List ℕ) → written more (at_end line) ≡ at_end (line ++ more)
longer_line line more =
    ap (λ (t : List ℕ). record { at = length line + length more; text = t }) (with_chars-end line more)
    ∙ ap (λ (n : ℕ). record { at = n; text = line ++ more }) (sym (length-append line more))

first_line : (value : List ℕ) → written value (written (32 ∷ []) empty_line) ≡ at_end (32 ∷ value)
first_line value = longer_line (32 ∷ []) value

-- what values behind a line give
abbrev Texts : EditModes → Value → List Value → Type 0
Texts modes v vs = (line : List ℕ) → texts_from (at_end line) (texts_behind modes (length line) (is_characters v) vs ++ last_end) ≡ continued modes line v vs ++ [] ∷ []

abbrev whole : EditModes → Value → Value → List ℕ
whole modes v w = gap modes (is_characters v) (is_characters w) ++ shown modes w

-- where the next value begins a record or does not
abbrev actions_by : EditModes → Value → Value → List Value → ℕ → Bool → List Action
actions_by modes v w ws width b =
    (cond b (end_record ∷ put (32 ∷ []) ∷ put (shown modes w) ∷ []) (put (whole modes v w) ∷ [])
    ++ texts_behind modes (cond b (1 + length (shown modes w)) (width + length (whole modes v w))) (is_characters w) ws) ++ last_end

abbrev continued_by : EditModes → List ℕ → Value → Value → List Value → Bool → List (List ℕ)
continued_by modes line v w ws b = cond b (line ∷ continued modes (32 ∷ shown modes w) w ws) (continued modes (line ++ whole modes v w) w ws)

next_value : (modes : EditModes) (v w : Value) (ws : List Value) → Texts modes w ws → (b : Bool) (line : List ℕ) → texts_from (at_end line) (actions_by modes v w ws (length line) b) ≡ continued_by modes line v w ws b ++ [] ∷ []
next_value modes v w ws known true line =
    let text = shown modes w in
    let one_more : 1 + length text ≡ length (32 ∷ text) = omega arith in
    ap (λ (l : LineState). line ∷ texts_from l (texts_behind modes (1 + length text) (is_characters w) ws ++ last_end)) (first_line text)
    ∙ ap (λ n. line ∷ texts_from (at_end (32 ∷ text)) (texts_behind modes n (is_characters w) ws ++ last_end)) one_more
    ∙ ap (λ (ls : List (List ℕ)). line ∷ ls) (known (32 ∷ text))
next_value modes v w ws known false line =
    let more = whole modes v w in
    ap (λ (l : LineState). texts_from l (texts_behind modes (length line + length more) (is_characters w) ws ++ last_end)) (longer_line line more)
    ∙ ap (λ n. texts_from (at_end (line ++ more)) (texts_behind modes n (is_characters w) ws ++ last_end)) (sym (length-append line more))
    ∙ known (line ++ more)

texts : (modes : EditModes) (v : Value) (vs : List Value) → Texts modes v vs
texts modes v [] = λ line. refl
texts modes v (w ∷ ws) = λ line.
    let more = whole modes v w in
    next_value modes v w ws (texts modes w ws) (passes_columns (length line + length more)) line
    ∙ ap (λ n. continued_by modes line v w ws (passes_columns n) ++ [] ∷ []) (sym (length-append line more))

none_by : (modes : EditModes) (v w : Value) (ws : List Value) → ((width : ℕ) → MeetNone (texts_behind modes width (is_characters w) ws ++ last_end)) → (width : ℕ) (b : Bool) → MeetNone (actions_by modes v w ws width b)
none_by modes v w ws known width true = known (1 + length (shown modes w))
none_by modes v w ws known width false = known (width + length (whole modes v w))

none : (modes : EditModes) (v : Value) (vs : List Value) (width : ℕ) → MeetNone (texts_behind modes width (is_characters v) vs ++ last_end)
none modes v [] width = tt
none modes v (w ∷ ws) width = none_by modes v w ws (none modes w ws) width (passes_columns (width + length (whole modes v w)))

pub records_are_listed : RecordsAreListed
records_are_listed modes [] = (tt, refl)
records_are_listed modes (v ∷ vs) =
    let text = shown modes v in
    let one_more : 1 + length text ≡ length (32 ∷ text) = omega arith in (
      none modes v vs (1 + length text),
      ap (λ (l : LineState). texts_from l (texts_behind modes (1 + length text) (is_characters v) vs ++ last_end)) (first_line text)
          ∙ ap (λ n. texts_from (at_end (32 ∷ text)) (texts_behind modes n (is_characters v) vs ++ last_end)) one_more
          ∙ texts modes v vs (32 ∷ text),
    )

-- records that are all ended, as bytes
pub all_ended : (records : List (List ℕ)) → joined (records ++ [] ∷ []) ≡ text_of records
all_ended [] = refl
all_ended (t ∷ []) = sym (append-nil (t ++ 10 ∷ []))
all_ended (t ∷ u ∷ ts) = ap (λ l. t ++ (10 ∷ l)) (all_ended (u ∷ ts)) ∙ sym (append_assoc t (10 ∷ []) (text_of (u ∷ ts)))

-- ---- without a limit

-- no condition is met
pub never_met : (hand : AtHand) (modes : EditModes) (values : List Value) (condition : Condition) → hand ≡ without_limit → carried_out hand (list_actions modes values) ≡ Err condition → ⊥
never_met hand modes values condition is e =
    let actions = list_actions modes values in
    let met : output hand actions ≡ Err condition = ap text_in e in
    let all : output hand actions ≡ Ok (joined (texts_of actions)) = ap (λ h. output h actions) is ∙ nothing_is_too_long actions (records_are_listed modes values).0 in
    cc

-- the text is that of the records
pub all_listed : (hand : AtHand) (modes : EditModes) (values : List Value) (page : Page) (text : List ℕ) → hand ≡ without_limit → carried_out hand (list_actions modes values) ≡ Ok (at_hand page text)
    → page.begin ≡ 0 → page.begin ≤ page.line → page.line ≤ length text → text ≡ text_of (listed modes values)
all_listed hand modes values page text is e start low within =
    let actions = list_actions modes values in
    let w = written_whole hand actions page [] text e (ap (λ n. take n text) start) low within in
    let all : output hand actions ≡ Ok (joined (texts_of actions)) = ap (λ h. output h actions) is ∙ nothing_is_too_long actions (records_are_listed modes values).0 in
    let whole : output hand actions ≡ Ok w.whole = w.is in
    let same : w.whole ≡ joined (texts_of actions) = cc in
    w.behind ∙ same ∙ ap joined (records_are_listed modes values).1 ∙ all_ended (listed modes values)
