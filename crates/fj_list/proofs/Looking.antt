-- A statement looks at no more records than it needs.
use Rattle.std.proofs.Common.{◌≡◌, ℕ, zero, suc, ◌+◌, ◌-◌, ◌^◌, ◌<◌, Bool, true, false, ◌&&◌, cond, eqb, ltb, List, [], ◌∷◌, ◌++◌, length, take, drop, Option, Some, None, sym, ap, ◌∙◌, refl, arith, append_assoc, append-nil, length-append}
use Rattle.std.specs.List.{position_or_len}
use Rattle.fj_value.specs.Digits.{number_in}
use Rattle.fj_value.specs.declared.value.Cell.{Cell}
use Rattle.fj_value.specs.declared.condition.Condition.{Condition}
use Rattle.fj_value.specs.declared.condition.Condition.TheVariants.{Fine, EndOfFile, Error}
use Rattle.fj_list.specs.declared.constant.Form.{Form}
use Rattle.fj_list.specs.declared.constant.Form.TheVariants.{Null, Undelimited, Delimited}
use Rattle.fj_list.specs.declared.constant.Read.{Read}
use Rattle.fj_list.specs.declared.constant.Read.TheVariants as read
use Rattle.fj_list.specs.Stream.{Stream, stream, front, behind, is_blank, skipped}
use Rattle.fj_list.specs.Constant.{read_as}
use Rattle.fj_list.specs.ListInput.{Split, value, stopped, is_separator, ends_constant, is_mark, has_ended, with_front, delimited, closed, constant_at, repeated, counted, is_no_digit, token_at, value_at, past_separator, value_start, split, Outcome, served, served_from, items_read, list_input}
use Rattle.fj_moved.specs.Cells.{kind_at, with_value}
use Rattle.fj_list.specs.LookedAt.{MeetsEnd, Looks, at_the_first, to_the_end, RecordsAreLookedAtAsNeeded}
use Rattle.fj_list.proofs.StreamLaws.{records_behind-stream, records_behind-nil, front_is, behind_is}
use Rattle.fj_list.proofs.Tokens.{token_is}

-- what is left of the record at hand, and the records to come
abbrev from : List ℕ → List (List ℕ) → Stream
from r lines = stream (r ∷ lines)

-- records that are seen, and then others
joined : (lines seen left seen' left' : List (List ℕ)) → lines ≡ seen ++ left → left ≡ seen' ++ left' → lines ≡ (seen ++ seen') ++ left'
joined lines seen left seen' left' e e' = e ∙ ap (λ (ls : List (List ℕ)). seen ++ ls) e' ∙ sym (append_assoc seen seen' left')

-- A way on in the records: to their end, or to a place in one of them, whatever stands behind that one.
data Goes (F : Stream → Stream) (r : List ℕ) (lines : List (List ℕ)) : Type 0 where
  ends : F (from r lines) ≡ [] → Goes F r lines
  stops : (r' : List ℕ) (seen left : List (List ℕ)) → lines ≡ seen ++ left → ((more : List (List ℕ)) → F (from r (seen ++ more)) ≡ from r' more) → Goes F r lines

-- from the first of the records to come on
abbrev NextGoes : (Stream → Stream) → List (List ℕ) → Type 0
NextGoes F [] = Unit {0}
NextGoes F (l ∷ ls) = Goes F l ls

blank_goes : (b : Bool) (c : ℕ) (cs : List ℕ) (lines : List (List ℕ)) → is_blank c ≡ b → Goes skipped cs lines → Goes skipped (c ∷ cs) lines
blank_goes false c cs lines e on = stops (c ∷ cs) [] lines refl (λ more. ap (λ b. cond b (skipped (from cs more)) (Some c ∷ from cs more)) e)
blank_goes true c cs lines e (ends none) = ends (ap (λ b. cond b (skipped (from cs lines)) (Some c ∷ from cs lines)) e ∙ none)
blank_goes true c cs lines e (stops r' seen left whole on) = stops r' seen left whole (λ more. ap (λ b. cond b (skipped (from cs (seen ++ more))) (Some c ∷ from cs (seen ++ more))) e ∙ on more)

skipped_in : (lines : List (List ℕ)) → NextGoes skipped lines → (r : List ℕ) → Goes skipped r lines
skipped_in [] next [] = ends refl
skipped_in (l ∷ ls) (ends none) [] = ends none
skipped_in (l ∷ ls) (stops r' seen left whole on) [] = stops r' (l ∷ seen) left (ap (λ (x : List (List ℕ)). l ∷ x) whole) on
skipped_in lines next (c ∷ cs) = blank_goes (is_blank c) c cs lines refl (skipped_in lines next cs)

skipped_goes : (lines : List (List ℕ)) (r : List ℕ) → Goes skipped r lines
skipped_goes [] r = skipped_in [] tt r
skipped_goes (l ∷ ls) r = skipped_in (l ∷ ls) (skipped_goes ls l) r

past_goes : (comma : Bool) (lines : List (List ℕ)) (r : List ℕ) → Goes (past_separator comma) r lines
past_goes comma lines [] = stops [] [] lines refl (λ more. refl)
past_goes comma lines (c ∷ cs) = go (is_separator comma c) refl where
  go : (b : Bool) → is_separator comma c ≡ b → Goes (past_separator comma) (c ∷ cs) lines
  go true e = stops cs [] lines refl (λ more. ap (λ b. cond b (from cs more) (Some c ∷ from cs more)) e)
  go false e = stops (c ∷ cs) [] lines refl (λ more. ap (λ b. cond b (from cs more) (Some c ∷ from cs more)) e)

goes_on : (F G : Stream → Stream) (r : List ℕ) (lines : List (List ℕ)) → G [] ≡ [] → Goes F r lines → ((lines' : List (List ℕ)) (r' : List ℕ) → Goes G r' lines') → Goes (λ s. G (F s)) r lines
goes_on F G r lines none (ends e) next = ends (ap G e ∙ none)
goes_on F G r lines none (stops r' seen left whole on) next = go (next left r') where
  go : Goes G r' left → Goes (λ s. G (F s)) r lines
  go (ends e) = ends (ap (λ (ls : List (List ℕ)). G (F (from r ls))) whole ∙ ap G (on left) ∙ e)
  go (stops r'' seen' left' whole' on') =
      stops r'' (seen ++ seen') left' (joined lines seen left seen' left' whole whole')
      (λ more. ap (λ (ls : List (List ℕ)). G (F (from r ls))) (append_assoc seen seen' more) ∙ ap G (on (seen' ++ more)) ∙ on' more)

start_goes : (comma begins : Bool) (lines : List (List ℕ)) (r : List ℕ) → Goes (value_start comma begins) r lines
start_goes comma true lines r = skipped_goes lines r
start_goes comma false lines r =
    goes_on (λ s. past_separator comma (skipped s)) skipped r lines refl
    (goes_on skipped (past_separator comma) r lines refl (skipped_goes lines r) (past_goes comma))
    skipped_goes

-- what is split off: a value, or a condition
data Part : Type 0 where
  a_value : ℕ → Form → List ℕ → Part
  a_stop : Condition → Part

abbrev before : Part → Stream → Split
before (a_value n form cs) s = value n form cs s
before (a_stop condition) s = stopped condition s

-- It meets the end of the records, or gives the same whatever stands behind the record in which it stops.
data Splits (F : Condition → Stream → Split) (r : List ℕ) (lines : List (List ℕ)) : Type 0 where
  meets : ((e : Condition) → F e (from r lines) ≡ stopped e []) → Splits F r lines
  gives : (x : Part) (r' : List ℕ) (seen left : List (List ℕ)) → lines ≡ seen ++ left → ((more : List (List ℕ)) (e : Condition) → F e (from r (seen ++ more)) ≡ before x (from r' more)) → Splits F r lines

-- the same where the record at hand alone is looked at first
splits_as : (F G : Condition → Stream → Split) (r r' : List ℕ) (lines : List (List ℕ)) → ((more : List (List ℕ)) (e : Condition) → F e (from r more) ≡ G e (from r' more)) → Splits G r' lines → Splits F r lines
splits_as F G r r' lines same (meets h) = meets (λ e. same lines e ∙ h e)
splits_as F G r r' lines same (gives x r'' seen left whole h) = gives x r'' seen left whole (λ more e. same (seen ++ more) e ∙ h more e)

at_once : (F : Condition → Stream → Split) (x : Part) (r r' : List ℕ) (lines : List (List ℕ)) → ((more : List (List ℕ)) (e : Condition) → F e (from r more) ≡ before x (from r' more)) → Splits F r lines
at_once F x r r' lines same = gives x r' [] lines refl same

-- a delimited constant
data Closing (mark : ℕ) (b : Bool) (r : List ℕ) (lines : List (List ℕ)) : Type 0 where
  stays : delimited mark b (from r lines) ≡ None → Closing mark b r lines
  closes : (cs r' : List ℕ) (seen left : List (List ℕ)) → lines ≡ seen ++ left → ((more : List (List ℕ)) → delimited mark b (from r (seen ++ more)) ≡ Some (cs, from r' more)) → Closing mark b r lines

abbrev NextCloses : ℕ → List (List ℕ) → Type 0
NextCloses mark [] = Unit {0}
NextCloses mark (l ∷ ls) = Closing mark false l ls

-- with a character before it
closing_behind : (mark : ℕ) (b b' : Bool) (c : ℕ) (front_part cs : List ℕ) (lines : List (List ℕ)) → ((more : List (List ℕ)) → delimited mark b (from (c ∷ cs) more) ≡ with_front front_part (delimited mark b' (from cs more))) → Closing mark b' cs lines
    → Closing mark b (c ∷ cs) lines
closing_behind mark b b' c front_part cs lines same (stays none) = stays (same lines ∙ ap (with_front front_part) none)
closing_behind mark b b' c front_part cs lines same (closes ds r' seen left whole h) = closes (front_part ++ ds) r' seen left whole (λ more. same (seen ++ more) ∙ ap (with_front front_part) (h more))

with_nothing : (found : Option (List ℕ × Stream)) → found ≡ with_front [] found
with_nothing None = refl
with_nothing (Some p) = refl

closing_in : (mark : ℕ) (lines : List (List ℕ)) → NextCloses mark lines → (b : Bool) (r : List ℕ) → Closing mark b r lines
closing_in mark lines next true [] = closes [] [] [] lines refl (λ more. refl)
closing_in mark [] next false [] = stays refl
closing_in mark (l ∷ ls) (stays none) false [] = stays none
closing_in mark (l ∷ ls) (closes cs r' seen left whole h) false [] = closes cs r' (l ∷ seen) left (ap (λ (x : List (List ℕ)). l ∷ x) whole) h
closing_in mark lines next true (c ∷ cs) = go (eqb c mark) refl (closing_in mark lines next false cs) where
  go : (b : Bool) → eqb c mark ≡ b → Closing mark false cs lines → Closing mark true (c ∷ cs) lines
  go true e on = closing_behind mark true false c (mark ∷ []) cs lines (λ more. ap (λ b. cond b (with_front (mark ∷ []) (delimited mark false (from cs more))) (Some ([], Some c ∷ from cs more))) e) on
  go false e on = closes [] (c ∷ cs) [] lines refl (λ more. ap (λ b. cond b (with_front (mark ∷ []) (delimited mark false (from cs more))) (Some ([], Some c ∷ from cs more))) e)
closing_in mark lines next false (c ∷ cs) = go (eqb c mark) refl (closing_in mark lines next true cs) (closing_in mark lines next false cs) where
  go : (b : Bool) → eqb c mark ≡ b → Closing mark true cs lines → Closing mark false cs lines → Closing mark false (c ∷ cs) lines
  go true e on on' =
      closing_behind mark false true c [] cs lines
      (λ more. ap (λ b. cond b (delimited mark true (from cs more)) (with_front (c ∷ []) (delimited mark false (from cs more)))) e ∙ with_nothing (delimited mark true (from cs more))) on
  go false e on on' = closing_behind mark false false c (c ∷ []) cs lines (λ more. ap (λ b. cond b (delimited mark true (from cs more)) (with_front (c ∷ []) (delimited mark false (from cs more)))) e) on'

closing_of : (mark : ℕ) (lines : List (List ℕ)) (r : List ℕ) → Closing mark false r lines
closing_of mark [] r = closing_in mark [] tt false r
closing_of mark (l ∷ ls) r = closing_in mark (l ∷ ls) (closing_of mark ls l) false r

-- whether a constant has ended does not depend on the records to come
ended_here : (comma : Bool) (r : List ℕ) → (b : Bool) × ((more : List (List ℕ)) → has_ended comma (from r more) ≡ b)
ended_here comma [] = (true, λ more. refl)
ended_here comma (c ∷ cs) = (ends_constant comma c, λ more. refl)

closed_splits : (comma : Bool) (n mark : ℕ) (r : List ℕ) (lines : List (List ℕ)) → Closing mark false r lines → Splits (λ e s. closed comma e n (delimited mark false s)) r lines
closed_splits comma n mark r lines (stays none) = meets (λ e. ap (closed comma e n) none)
closed_splits comma n mark r lines (closes cs r' seen left whole h) = go (ended_here comma r') where
  go : ((b : Bool) × ((more : List (List ℕ)) → has_ended comma (from r' more) ≡ b)) → Splits (λ e s. closed comma e n (delimited mark false s)) r lines
  go (true, ended) = gives (a_value n Delimited cs) r' seen left whole (λ more e. ap (closed comma e n) (h more) ∙ ap (λ b. cond b (value n Delimited cs (from r' more)) (stopped (Error 13) (from r' more))) (ended more))
  go (false, ended) = gives (a_stop (Error 13)) r' seen left whole (λ more e. ap (closed comma e n) (h more) ∙ ap (λ b. cond b (value n Delimited cs (from r' more)) (stopped (Error 13) (from r' more))) (ended more))

constant_splits : (comma : Bool) (n : ℕ) (r : List ℕ) (lines : List (List ℕ)) → Splits (λ e s. constant_at comma e n s) r lines
constant_splits comma n [] lines = at_once (λ e s. constant_at comma e n s) (a_value n Undelimited []) [] [] lines (λ more e. refl)
constant_splits comma n (c ∷ cs) lines = go (is_mark c) refl where
  by : Condition → List (List ℕ) → Bool → Split
  by e more b = cond b (closed comma e n (delimited c false (from cs more))) (value n Undelimited (front (ends_constant comma) (from (c ∷ cs) more)) (behind (ends_constant comma) (from (c ∷ cs) more)))

  go : (b : Bool) → is_mark c ≡ b → Splits (λ e s. constant_at comma e n s) (c ∷ cs) lines
  go true e = splits_as (λ e s. constant_at comma e n s) (λ e s. closed comma e n (delimited c false s)) (c ∷ cs) cs lines (λ more ending. ap (by ending more) e) (closed_splits comma n c cs lines (closing_of c lines cs))
  go false e =
      at_once (λ e s. constant_at comma e n s) (a_value n Undelimited (take (position_or_len (ends_constant comma) (c ∷ cs)) (c ∷ cs))) (c ∷ cs) (drop (position_or_len (ends_constant comma) (c ∷ cs)) (c ∷ cs)) lines
      (λ more ending.
      ap (by ending more) e
      ∙ ap (λ (fs : List ℕ). value n Undelimited fs (behind (ends_constant comma) (from (c ∷ cs) more))) (front_is (ends_constant comma) (c ∷ cs) more)
      ∙ ap (λ (t : Stream). value n Undelimited (take (position_or_len (ends_constant comma) (c ∷ cs)) (c ∷ cs)) t) (behind_is (ends_constant comma) (c ∷ cs) more))

repeated_splits : (comma : Bool) (n : ℕ) (r : List ℕ) (lines : List (List ℕ)) → Splits (λ e s. repeated comma e n s) r lines
repeated_splits comma n r lines = go (ltb 0 n && ltb n (2 ^ 32)) refl (ended_here comma r) where
  by : Condition → List (List ℕ) → Bool → Bool → Split
  by e more b d = cond b (cond d (value n Null [] (from r more)) (constant_at comma e n (from r more))) (stopped (Error 13) (from r more))

  go : (b : Bool) → (ltb 0 n && ltb n (2 ^ 32)) ≡ b → ((d : Bool) × ((more : List (List ℕ)) → has_ended comma (from r more) ≡ d)) → Splits (λ e s. repeated comma e n s) r lines
  go false range ended = at_once (λ e s. repeated comma e n s) (a_stop (Error 13)) r r lines (λ more e. ap (λ b. by e more b (has_ended comma (from r more))) range)
  go true range (true, ended) = at_once (λ e s. repeated comma e n s) (a_value n Null []) r r lines (λ more e. ap (λ b. by e more b (has_ended comma (from r more))) range ∙ ap (by e more true) (ended more))
  go true range (false, ended) =
      splits_as (λ e s. repeated comma e n s) (λ e s. constant_at comma e n s) r r lines (λ more e. ap (λ b. by e more b (has_ended comma (from r more))) range ∙ ap (by e more true) (ended more)) (constant_splits comma n r lines)

token_splits : (comma : Bool) (r : List ℕ) (lines : List (List ℕ)) → Splits (λ e s. token_at comma e s) r lines
token_splits comma r lines = go (number_in 10 (take (position_or_len is_no_digit r) r)) (drop (position_or_len is_no_digit r) r) refl refl where
  by : (o : Option ℕ) (rest : List ℕ) → number_in 10 (take (position_or_len is_no_digit r) r) ≡ o → drop (position_or_len is_no_digit r) r ≡ rest → (more : List (List ℕ)) (e : Condition) → token_at comma e (from r more) ≡ counted comma e (from r more) o (from rest more)
  by o rest number left more e =
      token_is comma e r (position_or_len is_no_digit r) more refl
      ∙ ap (λ (p : Option ℕ). counted comma e (from r more) p (from (drop (position_or_len is_no_digit r) r) more)) number
      ∙ ap (λ (ds : List ℕ). counted comma e (from r more) o (from ds more)) left

  star : (n c : ℕ) (cs : List ℕ) (b : Bool) → number_in 10 (take (position_or_len is_no_digit r) r) ≡ Some n → drop (position_or_len is_no_digit r) r ≡ c ∷ cs → eqb c 42 ≡ b → Splits (λ e s. token_at comma e s) r lines
  star n c cs true number left e =
      splits_as (λ e s. token_at comma e s) (λ e s. repeated comma e n s) r cs lines
      (λ more ending. by (Some n) (c ∷ cs) number left more ending ∙ ap (λ b. cond b (repeated comma ending n (from cs more)) (constant_at comma ending 1 (from r more))) e) (repeated_splits comma n cs lines)
  star n c cs false number left e =
      splits_as (λ e s. token_at comma e s) (λ e s. constant_at comma e 1 s) r r lines
      (λ more ending. by (Some n) (c ∷ cs) number left more ending ∙ ap (λ b. cond b (repeated comma ending n (from cs more)) (constant_at comma ending 1 (from r more))) e) (constant_splits comma 1 r lines)

  go : (o : Option ℕ) (rest : List ℕ) → number_in 10 (take (position_or_len is_no_digit r) r) ≡ o → drop (position_or_len is_no_digit r) r ≡ rest → Splits (λ e s. token_at comma e s) r lines
  go None rest number left = splits_as (λ e s. token_at comma e s) (λ e s. constant_at comma e 1 s) r r lines (by None rest number left) (constant_splits comma 1 r lines)
  go (Some n) [] number left = splits_as (λ e s. token_at comma e s) (λ e s. constant_at comma e 1 s) r r lines (by (Some n) [] number left) (constant_splits comma 1 r lines)
  go (Some n) (c ∷ cs) number left = star n c cs (eqb c 42) number left refl

value_splits : (comma : Bool) (r : List ℕ) (lines : List (List ℕ)) → Splits (λ e s. value_at comma e s) r lines
value_splits comma [] lines = meets (λ e. refl)
value_splits comma (c ∷ cs) lines = go (eqb c 47) (is_separator comma c) refl refl where
  by : Condition → List (List ℕ) → Bool → Bool → Split
  by e more b d = cond b (stopped Fine (from (c ∷ cs) more)) (cond d (value 1 Null [] (from (c ∷ cs) more)) (token_at comma e (from (c ∷ cs) more)))

  go : (b d : Bool) → eqb c 47 ≡ b → is_separator comma c ≡ d → Splits (λ e s. value_at comma e s) (c ∷ cs) lines
  go true d slash separates = at_once (λ e s. value_at comma e s) (a_stop Fine) (c ∷ cs) (c ∷ cs) lines (λ more e. ap (λ b. by e more b (is_separator comma c)) slash)
  go false true slash separates = at_once (λ e s. value_at comma e s) (a_value 1 Null []) (c ∷ cs) (c ∷ cs) lines (λ more e. ap (λ b. by e more b (is_separator comma c)) slash ∙ ap (by e more false) separates)
  go false false slash separates =
      splits_as (λ e s. value_at comma e s) (λ e s. token_at comma e s) (c ∷ cs) (c ∷ cs) lines (λ more e. ap (λ b. by e more b (is_separator comma c)) slash ∙ ap (by e more false) separates) (token_splits comma (c ∷ cs) lines)

split_splits : (comma begins : Bool) (r : List ℕ) (lines : List (List ℕ)) → Splits (λ e s. split comma e begins s) r lines
split_splits comma begins r lines = go (start_goes comma begins lines r) where
  go : Goes (value_start comma begins) r lines → Splits (λ e s. split comma e begins s) r lines
  go (ends none) = meets (λ e. ap (value_at comma e) none)
  go (stops r' seen left whole on) = further (value_splits comma r' left) where
    further : Splits (λ e s. value_at comma e s) r' left → Splits (λ e s. split comma e begins s) r lines
    further (meets h) = meets (λ e. ap (λ (ls : List (List ℕ)). split comma e begins (from r ls)) whole ∙ ap (value_at comma e) (on left) ∙ h e)
    further (gives x r'' seen' left' whole' h) =
        gives x r'' (seen ++ seen') left' (joined lines seen left seen' left' whole whole')
        (λ more e. ap (λ (ls : List (List ℕ)). split comma e begins (from r ls)) (append_assoc seen seen' more) ∙ ap (value_at comma e) (on (seen' ++ more)) ∙ h more e)

-- a statement
data Reads (F : Condition → Stream → Outcome) (r : List ℕ) (lines : List (List ℕ)) : Type 0 where
  runs_out : (cells : List Cell) → ((e : Condition) → F e (from r lines) ≡ record { cells = cells; condition = e; left = [] }) → Reads F r lines
  comes_to : (cells : List Cell) (condition : Condition) (seen left : List (List ℕ)) → lines ≡ seen ++ left → ((more : List (List ℕ)) (e : Condition) → F e (from r (seen ++ more)) ≡ record { cells = cells; condition = condition; left = more }) → Reads F r lines

reads_after : (F G : Condition → Stream → Outcome) (r r' : List ℕ) (lines seen left : List (List ℕ)) → lines ≡ seen ++ left → ((more : List (List ℕ)) (e : Condition) → F e (from r (seen ++ more)) ≡ G e (from r' more)) → Reads G r' left → Reads F r lines
reads_after F G r r' lines seen left whole same (runs_out cells h) = runs_out cells (λ e. ap (λ (ls : List (List ℕ)). F e (from r ls)) whole ∙ same left e ∙ h e)
reads_after F G r r' lines seen left whole same (comes_to cells condition seen' left' whole' h) =
    comes_to cells condition (seen ++ seen') left' (joined lines seen left seen' left' whole whole')
    (λ more e. ap (λ (ls : List (List ℕ)). F e (from r ls)) (append_assoc seen seen' more) ∙ same (seen' ++ more) e ∙ h more e)

-- the items behind one that is served
abbrev Items : Bool → List ℕ → Type 0
Items comma order = (cells : List Cell) (begins : Bool) (n : ℕ) (form : Form) (cs r : List ℕ) (lines : List (List ℕ)) → Reads (λ e s. items_read comma e order cells begins n form cs s) r lines

served_reads : (comma : Bool) (order : List ℕ) → Items comma order → (got : Read) (cells : List Cell) (at n : ℕ) (form : Form) (cs r : List ℕ) (lines : List (List ℕ))
    → Reads (λ e s. served got cells at s (λ cells'. items_read comma e order cells' false n form cs s)) r lines
served_reads comma order on read.Null cells at n form cs r lines = on cells false n form cs r lines
served_reads comma order on (read.Defined v) cells at n form cs r lines = on (with_value cells at v) false n form cs r lines
served_reads comma order on (read.Wrong condition) cells at n form cs r lines =
    comes_to cells condition [] lines refl (λ more e. ap (λ (ls : List (List ℕ)). record { cells = cells; condition = condition; left = ls }) (records_behind-stream r more))

part_reads : (comma begins : Bool) (at : ℕ) (order : List ℕ) → Items comma order → (cells : List Cell) (form : Form) (cs r : List ℕ) (lines : List (List ℕ)) → Splits (λ e s. split comma e begins s) r lines
    → Reads (λ e s. items_read comma e (at ∷ order) cells begins 0 form cs s) r lines
part_reads comma begins at order on cells form cs r lines (meets h) =
    let next : Condition → ℕ → Form → List ℕ → Stream → List Cell → Outcome = λ e count' form' cs' s' cells'. items_read comma e order cells' false count' form' cs' s' in
    runs_out cells (λ e. ap (λ (sp : Split). served_from sp cells at (next e)) (h e) ∙ ap (λ (ls : List (List ℕ)). record { cells = cells; condition = e; left = ls }) records_behind-nil)
part_reads comma begins at order on cells form cs r lines (gives (a_stop condition) r' seen left whole h) =
    let next : Condition → ℕ → Form → List ℕ → Stream → List Cell → Outcome = λ e count' form' cs' s' cells'. items_read comma e order cells' false count' form' cs' s' in
    comes_to cells condition seen left whole (λ more e. ap (λ (sp : Split). served_from sp cells at (next e)) (h more e) ∙ ap (λ (ls : List (List ℕ)). record { cells = cells; condition = condition; left = ls }) (records_behind-stream r' more))
part_reads comma begins at order on cells form cs r lines (gives (a_value n form' cs') r' seen left whole h) =
    let next : Condition → ℕ → Form → List ℕ → Stream → List Cell → Outcome = λ e count'' form'' cs'' s' cells'. items_read comma e order cells' false count'' form'' cs'' s' in
    let got = read_as (kind_at cells at) form' cs' in
    reads_after (λ e s. items_read comma e (at ∷ order) cells begins 0 form cs s) (λ e s. served got cells at s (λ cells'. items_read comma e order cells' false (n - 1) form' cs' s)) r r' lines seen left whole
    (λ more e. ap (λ (sp : Split). served_from sp cells at (next e)) (h more e)) (served_reads comma order on got cells at (n - 1) form' cs' r' left)

items_look : (comma : Bool) (order : List ℕ) → Items comma order
items_look comma [] cells begins n form cs r lines = comes_to cells Fine [] lines refl (λ more e. ap (λ (ls : List (List ℕ)). record { cells = cells; condition = Fine; left = ls }) (records_behind-stream r more))
items_look comma (at ∷ order) cells begins zero form cs r lines = part_reads comma begins at order (items_look comma order) cells form cs r lines (split_splits comma begins r lines)
items_look comma (at ∷ order) cells begins (suc n) form cs r lines = served_reads comma order (items_look comma order) (read_as (kind_at cells at) form cs) cells at (suc n - 1) form cs r lines

-- a whole statement
data Takes (comma : Bool) (lines : List (List ℕ)) (cells : List Cell) (order : List ℕ) : Type 0 where
  all : MeetsEnd comma lines cells order → Takes comma lines cells order
  first_ones : (result : List Cell) (condition : Condition) (seen left : List (List ℕ)) → lines ≡ seen ++ left
      → ((more : List (List ℕ)) (e : Condition) → list_input comma (seen ++ more) e cells order ≡ record { cells = result; condition = condition; left = more }) → Takes comma lines cells order

takes : (comma : Bool) (lines : List (List ℕ)) (cells : List Cell) (order : List ℕ) → Takes comma lines cells order
takes comma [] cells order = all (record { result = cells; ends = λ e. refl })
takes comma (l ∷ ls) cells order = go (items_look comma order cells true 0 Null [] l ls) where
  go : Reads (λ e s. items_read comma e order cells true 0 Null [] s) l ls → Takes comma (l ∷ ls) cells order
  go (runs_out result h) = all (record { result = result; ends = h })
  go (comes_to result condition seen left whole h) = first_ones result condition (l ∷ seen) left (ap (λ (x : List (List ℕ)). l ∷ x) whole) h

no_more : (a b : Outcome) → a ≡ b → a.left ≡ b.left
no_more a b e = ap (λ (o : Outcome). o.left) e

with_fewer : (comma : Bool) (cells : List Cell) (order : List ℕ) (seen : List (List ℕ)) (result : List Cell) (condition : Condition)
    → ((more : List (List ℕ)) (e : Condition) → list_input comma (seen ++ more) e cells order ≡ record { cells = result; condition = condition; left = more })
    → (some others : List (List ℕ)) → seen ≡ some ++ others → 0 < length others → MeetsEnd comma some cells order
with_fewer comma cells order seen result condition same some others whole several = go (takes comma some cells order) where
  go : Takes comma some cells order → MeetsEnd comma some cells order
  go (all met) = met
  go (first_ones result' condition' seen' left' whole' same') =
      let mine = same [] EndOfFile in
      let other = same' (left' ++ others) EndOfFile in
      let lines : seen' ++ (left' ++ others) ≡ seen ++ [] =
      sym (append_assoc seen' left' others) ∙ ap (λ (ls : List (List ℕ)). ls ++ others) (sym whole') ∙ sym whole ∙ sym (append-nil seen) in
      let none : left' ++ others ≡ [] =
      no_more (record { cells = result'; condition = condition'; left = left' ++ others }) (record { cells = result; condition = condition; left = [] })
      (sym other ∙ ap (λ (ls : List (List ℕ)). list_input comma ls EndOfFile cells order) lines ∙ mine) in
      let count : length left' + length others ≡ 0 = sym (length-append left' others) ∙ ap length none in
      absurd (omega arith)

pub looked_at : RecordsAreLookedAtAsNeeded
looked_at comma lines cells order = go (takes comma lines cells order) where
  go : Takes comma lines cells order → Looks comma lines cells order
  go (all met) = to_the_end met
  go (first_ones result condition seen left whole same) = at_the_first seen left whole (record { result = result; condition = condition; same = same; fewer = with_fewer comma cells order seen result condition same })
