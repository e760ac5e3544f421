-- The record at hand at the end of a text.
use Rattle.std.proofs.Common.{◌≡◌, ◌≢◌, ℕ, ◌+◌, ◌-◌, ◌≤◌, ◌<◌, List, [], ◌∷◌, ◌++◌, length, take, drop, Option, Result, Ok, Err, refl, sym, ap, ◌∙◌, arith, append_assoc, length-drop, length-append}
use Rattle.std.specs.Prelude.{OnOk, replicate}
use Rattle.std.proofs.Math.Seq.{take-length, drop-length}
use Rattle.std.proofs.lemmas.List.{length-take, drop-take, drop-drop, take-append-drop, take-append-le, drop-append-le}
use Rattle.fj_line.specs.declared.page.Page.{Page}
use Rattle.fj_line.specs.declared.unwritten.Unwritten.{Unwritten}
use Rattle.fj_line.specs.declared.unwritten.Unwritten.TheVariants.{Met, Memory}
use Rattle.fj_line.specs.Line.{blank, with_chars}
use Rattle.fj_line.specs.Actions.{Action, end_record, AtHand, behind, condition_in, unless, excess_of, carried_out, text_at, text_in, output}
use Rattle.fj_line.specs.Page.{at_hand, Keeps, Carries, Tells}

-- one action alone
pub alone : (old : AtHand) (action : Action) (r : Result (Unit {0}) Unwritten) (new : AtHand) → Tells (condition_in action old) r → OnOk r (new ≡ behind action old) → Carries old (action ∷ []) r new
alone old action (Ok u) new told is = ap (λ c. unless c (Ok (behind action old))) told ∙ ap (λ h. Ok h) (sym is)
alone old action (Err (Met condition)) new told is = ap (λ c. unless c (Ok (behind action old))) told
alone old action (Err (Memory error)) new told is = tt

-- what stands before the line stays, and so what stands before the statement
pub front_kept : (old new : List ℕ) (begin line : ℕ) → begin ≤ line → line ≤ length old → take line new ≡ take line old → take begin new ≡ take begin old
front_kept old new begin line low within same =
    let long : line ≤ length new = omega (arith, ap length same, length-take line new, length-take line old) in
    let P : (xs : List ℕ) → line ≤ length xs → take begin xs ≡ take begin (take line xs) =
    λ xs h. ap (take begin) (sym (take-append-drop line xs)) ∙ take-append-le begin (take line xs) (drop line xs) (omega (arith, length-take line xs)) in
    P new long ∙ ap (take begin) same ∙ sym (P old within)

-- where a text only grew, also after want of memory
pub only_grew : (page : Page) (old new : List ℕ) → page.begin ≤ page.line → page.line ≤ length old → take (length old) new ≡ old → Keeps page old page new
only_grew page old new low within same = record {
  begin = refl;
  front = front_kept old new page.begin (length old) (omega (arith, low, within)) (omega arith) (same ∙ sym (take-length old));
}

pub length-ended : (text : List ℕ) (begin line : ℕ) → line ≤ length text → length (drop begin (take line text)) ≡ line - begin
length-ended text begin line h = omega (arith, length-drop begin (take line text), length-take line text)

-- the text with a record ended
ended_more : (text : List ℕ) (begin line : ℕ) → begin ≤ line → line ≤ length text → drop begin text ++ (10 ∷ []) ≡ drop begin (take line text) ++ (drop line text ++ 10 ∷ [])
ended_more text begin line h k =
    ap (λ t. drop begin t ++ (10 ∷ [])) (sym (take-append-drop line text))
    ∙ ap (λ t. t ++ (10 ∷ [])) (drop-append-le begin (take line text) (drop line text) (omega (arith, length-take line text)))
    ∙ append_assoc (drop begin (take line text)) (drop line text) (10 ∷ [])

-- the record at hand behind the end of a record
pub record_ended : (page new : Page) (text more : List ℕ) → page.begin ≤ page.line → page.line ≤ length text → more ≡ text ++ 10 ∷ [] → new.limit ≡ page.limit → new.start ≡ 0 → new.begin ≡ page.begin → new.line ≡ length more → new.at ≡ 0
    → at_hand new more ≡ behind end_record (at_hand page text)
record_ended page new text more low within grown limit start begin line at =
    let ended : drop new.begin (take new.line more) ≡ drop page.begin (take page.line text) ++ (drop page.line text ++ 10 ∷ []) =
    ap (λ n. drop n (take new.line more)) begin ∙ ap (λ n. drop page.begin (take n more)) line ∙ ap (drop page.begin) (take-length more) ∙ ap (drop page.begin) grown
    ∙ drop-append-le page.begin text (10 ∷ []) (omega (arith, low, within)) ∙ ended_more text page.begin page.line low within in
    let none : drop new.line more ≡ [] = ap (λ n. drop n more) line ∙ drop-length more in
    ap (λ (l : Option ℕ). record { limit = l; start = new.start; ended = drop new.begin (take new.line more); line = record { at = new.at; text = drop new.line more } }) limit
    ∙ ap (λ n. record { limit = page.limit; start = n; ended = drop new.begin (take new.line more); line = record { at = new.at; text = drop new.line more } }) start
    ∙ ap (λ t. record { limit = page.limit; start = 0; ended = t; line = record { at = new.at; text = drop new.line more } }) ended
    ∙ ap (λ n. record { limit = page.limit; start = 0; ended = drop page.begin (take page.line text) ++ (drop page.line text ++ 10 ∷ []); line = record { at = n; text = drop new.line more } }) at
    ∙ ap (λ t. record { limit = page.limit; start = 0; ended = drop page.begin (take page.line text) ++ (drop page.line text ++ 10 ∷ []); line = record { at = 0; text = t } }) none

-- where the end of a record is looked at, so is the record at hand behind it
pub end_looked_at : (page : Page) (text : List ℕ) → page.begin ≤ page.line → page.line ≤ length text → condition_in end_record (at_hand page text) ≡ excess_of page.limit 0 ((length text - page.begin) + 1)
end_looked_at page text low within =
    let size : length (drop page.begin (take page.line text) ++ (drop page.line text ++ 10 ∷ [])) ≡ (length text - page.begin) + 1 =
    omega (arith, ap length (ended_more text page.begin page.line low within), length-append (drop page.begin text) (10 ∷ []), length-drop page.begin text, low, within) in
    let no_more : (length text - page.begin) + 1 + 0 ≡ (length text - page.begin) + 1 = omega arith in
    ap (λ n. excess_of page.limit 0 (n + 0)) size ∙ ap (excess_of page.limit 0) no_more

-- ---- a whole statement

-- what the statement has written is the text behind what stood before it
text_behind : (page : Page) (text : List ℕ) → page.begin ≤ page.line → page.line ≤ length text → text_at (at_hand page text) ≡ drop page.begin text
text_behind page text low within =
    sym (drop-append-le page.begin (take page.line text) (drop page.line text) (omega (arith, length-take page.line text))) ∙ ap (drop page.begin) (take-append-drop page.line text)

-- the output of a statement stands behind what stood there before
pub record IsWhole (first : AtHand) (actions : List Action) (old text : List ℕ) : Type 0 where
  pub whole : List ℕ
  pub is : output first actions ≡ Ok whole
  pub behind : text ≡ old ++ whole

pub written_whole : (first : AtHand) (actions : List Action) (page : Page) (old text : List ℕ) → carried_out first actions ≡ Ok (at_hand page text) → take page.begin text ≡ old
    → page.begin ≤ page.line → page.line ≤ length text → IsWhole first actions old text
written_whole first actions page old text done front low within = record {
  whole = drop page.begin text;
  is = ap text_in done ∙ ap (λ t. Ok t) (text_behind page text low within);
  behind = sym (take-append-drop page.begin text) ∙ ap (λ t. t ++ drop page.begin text) front;
}

-- ---- characters in a line

no_more : (n m : ℕ) → m ≤ n → replicate (m - n) blank ≡ []
no_more n m h = let e : m - n ≡ 0 = omega arith in ap (λ k. replicate k blank) e

-- characters over others of a line that stands behind a front
pub written_within : (text chars : List ℕ) (line at : ℕ) → chars ≢ [] → line + at < length text → drop line (take (line + at) text ++ (chars ++ drop ((line + at) + length chars) text)) ≡ with_chars (drop line text) at chars
written_within text [] line at some h = absurd (some refl)
written_within text (c ∷ cs) line at some h =
    let cut : line ≤ length (take (line + at) text) = omega (arith, length-take (line + at) text) in
    let short : at ≤ length (drop line text) = omega (arith, length-drop line text) in
    let back : (line + at) + length (c ∷ cs) ≡ line + (at + length (c ∷ cs)) = omega arith in
    drop-append-le line (take (line + at) text) ((c ∷ cs) ++ drop ((line + at) + length (c ∷ cs)) text) cut
    ∙ ap (λ t. t ++ ((c ∷ cs) ++ drop ((line + at) + length (c ∷ cs)) text)) (drop-take line at text)
    ∙ ap (λ n. take at (drop line text) ++ ((c ∷ cs) ++ drop n text)) back
    ∙ ap (λ t. take at (drop line text) ++ ((c ∷ cs) ++ t)) (sym (drop-drop (at + length (c ∷ cs)) line text))
    ∙ ap (λ t. take at (drop line text) ++ (t ++ ((c ∷ cs) ++ drop (at + length (c ∷ cs)) (drop line text)))) (sym (no_more (length (drop line text)) at short))
