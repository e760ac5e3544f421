-- Records are the texts of maps; what fits is written; and when which condition is met.
use Rattle.std.proofs.Common.{◌≡◌, ℕ, ◌+◌, ◌≤◌, ◌<◌, ◌⊎◌, cond, nat_lt, List, [], ◌∷◌, ◌++◌, length, Option, Some, None, Ok, Err, inl, inr, refl, sym, ap, ◌∙◌, arith, append_assoc, length-append, length-drop}
use Rattle.std.proofs.lemmas.Bool.{cases_lt}
use Rattle.std.proofs.lemmas.Bool.Decides.{nat_tests}
use Rattle.std.proofs.lemmas.List.{length-take, length-replicate}
use Rattle.fj_value.specs.declared.condition.Condition.{Condition}
use Rattle.fj_value.specs.declared.condition.Condition.TheVariants.{Error}
use Rattle.fj_line.specs.declared.moves.Move.{Move}
use Rattle.fj_line.specs.Line.{Characters, no_characters, overwritten, IsTextOf, TextsAreOfMaps, LineState, most_bytes, empty_line, with_chars, written, moved}
use Rattle.fj_line.specs.Actions.{Action, put, move, end_record, meet, AtHand, first_record, behind, condition_in, unless, text_in, carried_out, output}
use Rattle.fj_line.specs.Records.{texts_from, lines_from, AreTextsOf, RecordsAreTexts, joined, Fit, MeetNone, AreFine, Meets, IsFirst, OutputIsExact, NothingIsTooLong}

-- ---- texts of maps

module _ (law : TextsAreOfMaps) where
  texts : (line : LineState) (map : Characters) (actions : List Action) → IsTextOf map line.text → AreTextsOf (lines_from line.at map actions) (texts_from line actions)
  texts line map [] is = (is, tt)
  texts line map (put chars ∷ more) is = texts (written chars line) (overwritten map line.at chars) more (law.written map line.text line.at chars is)
  texts line map (move how ∷ more) is = texts (moved how line) map more is
  texts line map (end_record ∷ more) is = (is, texts empty_line no_characters more law.empty)
  texts line map (meet condition ∷ more) is = texts line map more is

  pub records_are_texts : RecordsAreTexts
  records_are_texts actions = texts empty_line no_characters actions law.empty

-- ---- a line grows

grows : (text : List ℕ) (at : ℕ) (chars : List ℕ) → length text ≤ length (with_chars text at chars)
grows text at [] = omega arith
grows text at (c ∷ cs) = simp (length-append, length-take, length-replicate, length-drop) (omega arith)

-- how many characters the first record has
first_length : List (List ℕ) → ℕ
first_length [] = 0
first_length (t ∷ ts) = length t

no_shorter : (line : LineState) (actions : List Action) → length line.text ≤ first_length (texts_from line actions)
unfolding first_length
no_shorter line [] = omega arith
no_shorter line (put chars ∷ more) = omega (arith, grows line.text line.at chars, no_shorter (written chars line) more)
no_shorter line (move how ∷ more) = no_shorter (moved how line) more
no_shorter line (end_record ∷ more) = omega arith
no_shorter line (meet condition ∷ more) = no_shorter line more

joined_first : (texts : List (List ℕ)) → first_length texts ≤ length (joined texts)
unfolding first_length
joined_first [] = omega arith
joined_first (t ∷ []) = omega arith
joined_first (t ∷ u ∷ ts) = omega (arith, length-append t (10 ∷ joined (u ∷ ts)))

-- a record in front of others
some_text : (line : LineState) (actions : List Action) → (t : List ℕ) × (ts : List (List ℕ)) × (texts_from line actions ≡ t ∷ ts)
some_text line [] = (line.text, [], refl)
some_text line (put chars ∷ more) = some_text (written chars line) more
some_text line (move how ∷ more) = some_text (moved how line) more
some_text line (end_record ∷ more) = (line.text, texts_from empty_line more, refl)
some_text line (meet condition ∷ more) = some_text line more

first_fits : (limit start : ℕ) (line : LineState) (actions : List Action) → Fit limit start (texts_from line actions) → start + first_length (texts_from line actions) ≤ limit
unfolding first_length
first_fits limit start line [] fit = fit.0
first_fits limit start line (put chars ∷ more) fit = first_fits limit start (written chars line) more fit
first_fits limit start line (move how ∷ more) fit = first_fits limit start (moved how line) more fit
first_fits limit start line (end_record ∷ more) fit = fit.0
first_fits limit start line (meet condition ∷ more) fit = first_fits limit start line more fit

joined_more : (t : List ℕ) (line : LineState) (actions : List Action) → joined (t ∷ texts_from line actions) ≡ (t ++ 10 ∷ []) ++ joined (texts_from line actions)
joined_more t line actions =
    let s = some_text line actions in
    ap (λ ts. joined (t ∷ ts)) s.2 ∙ sym (append_assoc t (10 ∷ []) (joined (s.0 ∷ s.1))) ∙ ap (λ ts. (t ++ 10 ∷ []) ++ joined ts) (sym s.2)

-- ---- from any record at hand

abbrev hand_with : Option ℕ → ℕ → List ℕ → LineState → AtHand
hand_with limit start ended line = record { limit = limit; start = start; ended = ended; line = line }

-- without a limit
all_written : (start : ℕ) (ended : List ℕ) (line : LineState) (actions : List Action) → MeetNone actions → output (hand_with None start ended line) actions ≡ Ok (ended ++ joined (texts_from line actions))
all_written start ended line [] none = refl
all_written start ended line (put chars ∷ more) none = all_written start ended (written chars line) more none
all_written start ended line (move how ∷ more) none = all_written start ended (moved how line) more none
all_written start ended line (end_record ∷ more) none =
    all_written 0 (ended ++ (line.text ++ 10 ∷ [])) empty_line more none
    ∙ ap (λ t. Ok t) (append_assoc ended (line.text ++ 10 ∷ []) (joined (texts_from empty_line more)) ∙ ap (λ t. ended ++ t) (sym (joined_more line.text empty_line more)))
all_written start ended line (meet condition ∷ more) none = absurd none

pub nothing_is_too_long : NothingIsTooLong
nothing_is_too_long actions none = all_written 0 [] empty_line actions none

-- ---- within limits

-- what is fine from a record at hand on
record Fine (limit start : ℕ) (ended : List ℕ) (line : LineState) (actions : List Action) : Type 0 where
  none : MeetNone actions
  fit : Fit limit start (texts_from line actions)
  few : length ended + length (joined (texts_from line actions)) ≤ most_bytes

-- the record at hand is within its limits
record IsWithin (limit start : ℕ) (ended : List ℕ) (line : LineState) : Type 0 where
  fit : start + length line.text ≤ limit
  few : length ended + length line.text ≤ most_bytes

abbrev looked_at : ℕ → ℕ → ℕ → Option Condition
looked_at limit width bytes = cond (nat_lt limit width) (Some (Error 15)) (cond (nat_lt most_bytes bytes) (Some (Error 26)) None)

fine_there : (limit width bytes : ℕ) → width ≤ limit → bytes ≤ most_bytes → looked_at limit width bytes ≡ None
fine_there limit width bytes h k = grind (arith, nat_tests)

long_there : (limit width bytes : ℕ) → limit < width → looked_at limit width bytes ≡ Some (Error 15)
long_there limit width bytes h = grind (arith, nat_tests)

much_there : (limit width bytes : ℕ) → width ≤ limit → most_bytes < bytes → looked_at limit width bytes ≡ Some (Error 26)
much_there limit width bytes h k = grind (arith, nat_tests)

-- what is fine begins within the limits
begins_within : (limit start : ℕ) (ended : List ℕ) (line : LineState) (actions : List Action) → Fine limit start ended line actions → IsWithin limit start ended line
begins_within limit start ended line actions fine =
    let fit : start + first_length (texts_from line actions) ≤ limit = first_fits limit start line actions fine.fit in
    record {
      fit = omega (arith, no_shorter line actions, fit);
      few = omega (arith, no_shorter line actions, joined_first (texts_from line actions), fine.few);
    }

-- the bytes behind the end of a record
ended_bytes : (ended : List ℕ) (line : LineState) (actions : List Action) →
    length (ended ++ (line.text ++ 10 ∷ [])) + length (joined (texts_from empty_line actions)) ≡ length ended + length (joined (line.text ∷ texts_from empty_line actions))
ended_bytes ended line actions =
    let all = ap length (joined_more line.text empty_line actions) in
    omega (arith, all, length-append (line.text ++ 10 ∷ []) (joined (texts_from empty_line actions)), length-append ended (line.text ++ 10 ∷ []))

fine_behind_end : (limit start : ℕ) (ended : List ℕ) (line : LineState) (more : List Action) → Fine limit start ended line (end_record ∷ more) → Fine limit 0 (ended ++ (line.text ++ 10 ∷ [])) empty_line more
fine_behind_end limit start ended line more fine = record { none = fine.none; fit = fine.fit.1; few = omega (arith, ended_bytes ended line more, fine.few) }

-- what is fine is written
writes_from : (limit start : ℕ) (ended : List ℕ) (line : LineState) (actions : List Action) → Fine limit start ended line actions
    → output (hand_with (Some limit) start ended line) actions ≡ Ok (ended ++ joined (texts_from line actions))
writes_from limit start ended line [] fine = refl
writes_from limit start ended line (put chars ∷ more) fine =
    let next = written chars line in
    let fine' : Fine limit start ended next more = record { none = fine.none; fit = fine.fit; few = fine.few } in
    let is = begins_within limit start ended next more fine' in
    ap (λ c. text_in (unless c (carried_out (hand_with (Some limit) start ended next) more))) (fine_there limit (start + length next.text) (length ended + length next.text) is.fit is.few)
    ∙ writes_from limit start ended next more fine'
writes_from limit start ended line (move how ∷ more) fine = writes_from limit start ended (moved how line) more (record { none = fine.none; fit = fine.fit; few = fine.few })
writes_from limit start ended line (end_record ∷ more) fine =
    let all = ended ++ (line.text ++ 10 ∷ []) in
    let fine' = fine_behind_end limit start ended line more fine in
    let is = begins_within limit 0 all empty_line more fine' in
    ap (λ c. text_in (unless c (carried_out (hand_with (Some limit) 0 all empty_line) more))) (fine_there limit 0 (length all + 0) (omega arith) is.few)
    ∙ writes_from limit 0 all empty_line more fine'
    ∙ ap (λ t. Ok t) (append_assoc ended (line.text ++ 10 ∷ []) (joined (texts_from empty_line more)) ∙ ap (λ t. ended ++ t) (sym (joined_more line.text empty_line more)))
writes_from limit start ended line (meet condition ∷ more) fine = absurd fine.none

-- ---- the first condition

abbrev TooLong : ℕ → ℕ → List ℕ → LineState → List Action → Type 0
TooLong limit start ended line actions = Fit limit start (texts_from line actions) → ⊥

abbrev TooMuch : ℕ → ℕ → List ℕ → LineState → List Action → Type 0
TooMuch limit start ended line actions = Fit limit start (texts_from line actions) × (most_bytes < length ended + length (joined (texts_from line actions)))

abbrev MeetsFrom : ℕ → ℕ → List ℕ → LineState → List Action → Action → Condition → Type 0
MeetsFrom limit start ended line front action condition =
    (action ≡ meet condition)
    ⊎ ((TooLong limit start ended line (front ++ action ∷ []) × (condition ≡ Error 15)) ⊎ (TooMuch limit start ended line (front ++ action ∷ []) × (condition ≡ Error 26)))

-- one action meets its condition
meets_there : (limit start : ℕ) (ended : List ℕ) (line : LineState) (action : Action) (condition : Condition) → IsWithin limit start ended line → MeetsFrom limit start ended line [] action condition
    → condition_in action (hand_with (Some limit) start ended line) ≡ Some condition
meets_there limit start ended line (meet met) condition is (inl e) = let same : met ≡ condition = cc in ap (λ c. Some c) same
meets_there limit start ended line (meet met) condition is (inr (inl h)) = absurd (h.0 (is.fit, tt))
meets_there limit start ended line (meet met) condition is (inr (inr h)) = absurd (omega (arith, is.few, h.0.1))
meets_there limit start ended line (move how) condition is (inl e) = cc
meets_there limit start ended line (move how) condition is (inr (inl h)) = absurd (h.0 (is.fit, tt))
meets_there limit start ended line (move how) condition is (inr (inr h)) = absurd (omega (arith, is.few, h.0.1))
meets_there limit start ended line (put chars) condition is (inl e) = cc
meets_there limit start ended line (put chars) condition is (inr (inl h)) =
    let text = with_chars line.text line.at chars in
    let long : limit < start + length text = elim (cases_lt limit (start + length text)) [ inl past ↦ past | inr room ↦ absurd (h.0 (room, tt)) ] in
    long_there limit (start + length text) (length ended + length text) long ∙ ap (λ c. Some c) (sym h.1)
meets_there limit start ended line (put chars) condition is (inr (inr h)) =
    let text = with_chars line.text line.at chars in
    much_there limit (start + length text) (length ended + length text) h.0.0.0 h.0.1 ∙ ap (λ c. Some c) (sym h.1)
meets_there limit start ended line end_record condition is (inl e) = cc
meets_there limit start ended line end_record condition is (inr (inl h)) = absurd (h.0 (is.fit, (omega arith, tt)))
meets_there limit start ended line end_record condition is (inr (inr h)) =
    let all = ended ++ (line.text ++ 10 ∷ []) in
    much_there limit 0 (length all + 0) (omega arith) (omega (arith, h.0.1, length-append ended (line.text ++ 10 ∷ []))) ∙ ap (λ c. Some c) (sym h.1)

meets_behind_end : (limit start : ℕ) (ended : List ℕ) (line : LineState) (front : List Action) (action : Action) (condition : Condition) → IsWithin limit start ended line
    → MeetsFrom limit start ended line (end_record ∷ front) action condition → MeetsFrom limit 0 (ended ++ (line.text ++ 10 ∷ [])) empty_line front action condition
meets_behind_end limit start ended line front action condition is (inl e) = inl e
meets_behind_end limit start ended line front action condition is (inr (inl h)) = inr (inl (λ fit. h.0 (is.fit, fit), h.1))
meets_behind_end limit start ended line front action condition is (inr (inr h)) = inr (inr ((h.0.0.1, omega (arith, h.0.1, ended_bytes ended line (front ++ action ∷ []))), h.1))

fails_from : (limit start : ℕ) (ended : List ℕ) (line : LineState) (front : List Action) (action : Action) (back : List Action) (condition : Condition) → Fine limit start ended line front
    → MeetsFrom limit start ended line front action condition → carried_out (hand_with (Some limit) start ended line) (front ++ action ∷ back) ≡ Err condition
fails_from limit start ended line [] action back condition fine meets =
    let hand = hand_with (Some limit) start ended line in
    ap (λ c. unless c (carried_out (behind action hand) back)) (meets_there limit start ended line action condition (begins_within limit start ended line [] fine) meets)
fails_from limit start ended line (put chars ∷ front) action back condition fine meets =
    let next = written chars line in
    let fine' : Fine limit start ended next front = record { none = fine.none; fit = fine.fit; few = fine.few } in
    let is = begins_within limit start ended next front fine' in
    ap (λ c. unless c (carried_out (hand_with (Some limit) start ended next) (front ++ action ∷ back))) (fine_there limit (start + length next.text) (length ended + length next.text) is.fit is.few)
    ∙ fails_from limit start ended next front action back condition fine' meets
fails_from limit start ended line (move how ∷ front) action back condition fine meets =
    fails_from limit start ended (moved how line) front action back condition (record { none = fine.none; fit = fine.fit; few = fine.few }) meets
fails_from limit start ended line (end_record ∷ front) action back condition fine meets =
    let all = ended ++ (line.text ++ 10 ∷ []) in
    let fine' = fine_behind_end limit start ended line front fine in
    let is = begins_within limit 0 all empty_line front fine' in
    ap (λ c. unless c (carried_out (hand_with (Some limit) 0 all empty_line) (front ++ action ∷ back))) (fine_there limit 0 (length all + 0) (omega arith) is.few)
    ∙ fails_from limit 0 all empty_line front action back condition fine'
    (meets_behind_end limit start ended line front action condition (begins_within limit start ended line (end_record ∷ front) fine) meets)
fails_from limit start ended line (meet met ∷ front) action back condition fine meets = absurd fine.none

-- ---- one of the two

record Found (limit start : ℕ) (ended : List ℕ) (line : LineState) (actions : List Action) : Type 0 where
  condition : Condition
  front : List Action
  action : Action
  back : List Action
  parts : actions ≡ front ++ action ∷ back
  fine : Fine limit start ended line front
  meets : MeetsFrom limit start ended line front action condition

abbrev Either : ℕ → ℕ → List ℕ → LineState → List Action → Type 0
Either limit start ended line actions = Fine limit start ended line actions ⊎ Found limit start ended line actions

fine_none : (limit start : ℕ) (ended : List ℕ) (line : LineState) → IsWithin limit start ended line → Fine limit start ended line []
fine_none limit start ended line is = record { none = tt; fit = (is.fit, tt); few = is.few }

-- the first of the actions meets its condition
found_here : (limit start : ℕ) (ended : List ℕ) (line : LineState) (action : Action) (more : List Action) (condition : Condition) → IsWithin limit start ended line
    → MeetsFrom limit start ended line [] action condition → Found limit start ended line (action ∷ more)
found_here limit start ended line action more condition is meets =
    record { condition = condition; front = []; action = action; back = more; parts = refl; fine = fine_none limit start ended line is; meets = meets }

behind_put : (limit start : ℕ) (ended : List ℕ) (line : LineState) (chars : List ℕ) (more : List Action) → Either limit start ended (written chars line) more → Either limit start ended line (put chars ∷ more)
behind_put limit start ended line chars more (inl fine) = inl (record { none = fine.none; fit = fine.fit; few = fine.few })
behind_put limit start ended line chars more (inr f) = inr (record {
  condition = f.condition;
  front = put chars ∷ f.front;
  action = f.action;
  back = f.back;
  parts = ap (λ l. put chars ∷ l) f.parts;
  fine = record { none = f.fine.none; fit = f.fine.fit; few = f.fine.few };
  meets = f.meets;
})

behind_move : (limit start : ℕ) (ended : List ℕ) (line : LineState) (how : Move) (more : List Action) → Either limit start ended (moved how line) more → Either limit start ended line (move how ∷ more)
behind_move limit start ended line how more (inl fine) = inl (record { none = fine.none; fit = fine.fit; few = fine.few })
behind_move limit start ended line how more (inr f) = inr (record {
  condition = f.condition;
  front = move how ∷ f.front;
  action = f.action;
  back = f.back;
  parts = ap (λ l. move how ∷ l) f.parts;
  fine = record { none = f.fine.none; fit = f.fine.fit; few = f.fine.few };
  meets = f.meets;
})

fine_from_end : (limit start : ℕ) (ended : List ℕ) (line : LineState) (more : List Action) → IsWithin limit start ended line → Fine limit 0 (ended ++ (line.text ++ 10 ∷ [])) empty_line more → Fine limit start ended line (end_record ∷ more)
fine_from_end limit start ended line more is fine = record { none = fine.none; fit = (is.fit, fine.fit); few = omega (arith, ended_bytes ended line more, fine.few) }

meets_from_end : (limit start : ℕ) (ended : List ℕ) (line : LineState) (front : List Action) (action : Action) (condition : Condition) → IsWithin limit start ended line
    → MeetsFrom limit 0 (ended ++ (line.text ++ 10 ∷ [])) empty_line front action condition → MeetsFrom limit start ended line (end_record ∷ front) action condition
meets_from_end limit start ended line front action condition is (inl e) = inl e
meets_from_end limit start ended line front action condition is (inr (inl h)) = inr (inl (λ fit. h.0 fit.1, h.1))
meets_from_end limit start ended line front action condition is (inr (inr h)) = inr (inr (((is.fit, h.0.0), omega (arith, h.0.1, ended_bytes ended line (front ++ action ∷ []))), h.1))

behind_end : (limit start : ℕ) (ended : List ℕ) (line : LineState) (more : List Action) → IsWithin limit start ended line → Either limit 0 (ended ++ (line.text ++ 10 ∷ [])) empty_line more → Either limit start ended line (end_record ∷ more)
behind_end limit start ended line more is (inl fine) = inl (fine_from_end limit start ended line more is fine)
behind_end limit start ended line more is (inr f) = inr (record {
  condition = f.condition;
  front = end_record ∷ f.front;
  action = f.action;
  back = f.back;
  parts = ap (λ l. end_record ∷ l) f.parts;
  fine = fine_from_end limit start ended line f.front is f.fine;
  meets = meets_from_end limit start ended line f.front f.action f.condition is f.meets;
})

one_from : (limit start : ℕ) (ended : List ℕ) (line : LineState) (actions : List Action) → IsWithin limit start ended line → Either limit start ended line actions
one_from limit start ended line [] is = inl (fine_none limit start ended line is)
one_from limit start ended line (put chars ∷ more) is =
    let next = written chars line in
    elim (cases_lt limit (start + length next.text)) [
      | inl past ↦ inr (found_here limit start ended line (put chars) more (Error 15) is (inr (inl (λ fit. absurd (omega (arith, fit.0)), refl))))
      | inr room ↦ elim (cases_lt most_bytes (length ended + length next.text)) [
        | inl much ↦ inr (found_here limit start ended line (put chars) more (Error 26) is (inr (inr (((room, tt), much), refl))))
        | inr few ↦ behind_put limit start ended line chars more (one_from limit start ended next more (record { fit = room; few = few }))
      ]
    ]
one_from limit start ended line (move how ∷ more) is = behind_move limit start ended line how more (one_from limit start ended (moved how line) more (record { fit = is.fit; few = is.few }))
one_from limit start ended line (end_record ∷ more) is =
    let all = ended ++ (line.text ++ 10 ∷ []) in
    elim (cases_lt most_bytes (length all)) [
      | inl much ↦ inr (found_here limit start ended line end_record more (Error 26) is (inr (inr (((is.fit, (omega arith, tt)), omega (arith, much, length-append ended (line.text ++ 10 ∷ []))), refl))))
      | inr few ↦ behind_end limit start ended line more is (one_from limit 0 all empty_line more (record { fit = omega arith; few = omega (arith, few) }))
    ]
one_from limit start ended line (meet condition ∷ more) is = inr (found_here limit start ended line (meet condition) more condition is (inl refl))

-- ---- a statement that begins

fine_first : (limit start : ℕ) (actions : List Action) → AreFine limit start actions → Fine limit start [] empty_line actions
fine_first limit start actions fine = record { none = fine.none; fit = fine.fit; few = omega (arith, fine.few) }

meets_first : (limit start : ℕ) (front : List Action) (action : Action) (condition : Condition) → Meets limit start front action condition → MeetsFrom limit start [] empty_line front action condition
meets_first limit start front action condition (inl e) = inl e
meets_first limit start front action condition (inr (inl h)) = inr (inl h)
meets_first limit start front action condition (inr (inr h)) = inr (inr ((h.0.0, omega (arith, h.0.1)), h.1))

first_meets : (limit start : ℕ) (front : List Action) (action : Action) (condition : Condition) → MeetsFrom limit start [] empty_line front action condition → Meets limit start front action condition
first_meets limit start front action condition (inl e) = inl e
first_meets limit start front action condition (inr (inl h)) = inr (inl h)
first_meets limit start front action condition (inr (inr h)) = inr (inr ((h.0.0, omega (arith, h.0.1)), h.1))

one_first : (limit start : ℕ) (actions : List Action) → Either limit start [] empty_line actions → AreFine limit start actions ⊎ ((condition : Condition) × IsFirst limit start actions condition)
one_first limit start actions (inl fine) = inl (record { none = fine.none; fit = fine.fit; few = omega (arith, fine.few) })
one_first limit start actions (inr f) = inr (
  f.condition,
  record {
    front = f.front;
    action = f.action;
    back = f.back;
    parts = f.parts;
    fine = record { none = f.fine.none; fit = f.fine.fit; few = omega (arith, f.fine.few) };
    meets = first_meets limit start f.front f.action f.condition f.meets;
  },
)

pub output_is_exact : OutputIsExact
output_is_exact = record {
  writes = λ limit start actions low fine. writes_from limit start [] empty_line actions (fine_first limit start actions fine);
  fails = λ limit start actions condition low first.
      ap (λ l. output (first_record limit start) l) first.parts
      ∙ ap text_in (fails_from limit start [] empty_line first.front first.action first.back condition (fine_first limit start first.front first.fine) (meets_first limit start first.front first.action condition first.meets));
  one = λ limit start actions low. one_first limit start actions (one_from limit start [] empty_line actions (record { fit = omega arith; few = omega arith }));
}
