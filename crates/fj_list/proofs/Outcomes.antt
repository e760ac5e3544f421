-- What a scan's answers come to.
use Rattle.std.proofs.Common.{◌≡◌, ℕ, ◌+◌, ◌-◌, ◌<◌, ◌≤◌, Bool, true, false, List, [], ◌∷◌, length, get_or, drop, Option, Some, None, is_some, sym, ap, ◌∙◌, refl, subst, arith}
use Rattle.std.proofs.lemmas.Bool.{false≢true}
use Rattle.std.proofs.lemmas.List.{drop_more}
use Rattle.std.specs.List.{position_or_len}
use Rattle.fj_value.specs.declared.condition.Condition.{Condition}
use Rattle.fj_value.specs.declared.condition.Condition.TheVariants.{Fine, Error}
use Rattle.fj_value.specs.declared.value.Cell.{Cell}
use Rattle.fj_list.specs.declared.constant.Form.{Form}
use Rattle.fj_list.specs.declared.constant.Form.TheVariants.{Null, Undelimited, Delimited}
use Rattle.fj_list.specs.declared.constant.Read.{Read}
use Rattle.fj_list.specs.declared.constant.Read.TheVariants as read
use Rattle.fj_list.specs.declared.scan.Scan.{Scan}
use Rattle.fj_list.specs.Stream.{Stream, stream, records_in, records_behind, is_no_blank, skipped}
use Rattle.fj_list.specs.Constant.{read_as}
use Rattle.fj_list.specs.ListInput.{Split, value, stopped, closed, delimited, with_front, has_ended, value_at, value_start, split, supplied, Outcome, served, served_from, items_read, list_input}
use Rattle.fj_moved.specs.Cells.{kind_at}
use Rattle.fj_list.specs.Scan.{ahead, constant_of, Reaches, Closes, IsSplit, Serves, IsOutcome}
use Rattle.fj_list.proofs.StreamLaws.{skip_stops, records_in-stream, records_behind-stream, records_behind-nil}

-- a scan that stands at a character behind blanks
pub stops_by : (line line' : List ℕ) (at at' : ℕ) (lines : List (List ℕ)) (wanted : Stream) → line' ≡ line → at' ≡ at + position_or_len is_no_blank (drop at line) → at ≤ length line → at' < length line'
    → skipped (stream (drop at line ∷ lines)) ≡ wanted → stream (drop at' line' ∷ lines) ≡ wanted
stops_by line line' at at' lines wanted same is within there before =
    let long : length line' ≡ length line = ap length same in
    ap (λ (l : List ℕ). stream (drop at' l ∷ lines)) same
    ∙ ap (λ k. stream (drop k line ∷ lines)) is
    ∙ sym (skip_stops line at lines within (omega arith))
    ∙ before

-- the records end before what is wanted
pub reaches_end : (end : Option Condition) (first wanted found : Stream) (e e' : Condition) (lines : List (List ℕ)) → is_some end ≡ true → (first ≡ [] → wanted ≡ []) → e' ≡ e → Reaches end first found e' lines → Reaches end wanted found e lines
reaches_end None first wanted found e e' lines some none same h = absurd (false≢true some)
reaches_end (Some condition) first wanted found e e' lines some none same h = (none h.0, h.1 ∙ same, h.2)

pub reaches_next : (end : Option Condition) (first found : Stream) (e : Condition) (lines : List (List ℕ)) → is_some end ≡ false → Reaches end first found e lines → found ≡ first
reaches_next None first found e lines some h = h
reaches_next (Some condition) first found e lines some h = absurd (false≢true (sym some))

pub closes_end : (end : Option Condition) (first found : Stream) (wanted : Option (List ℕ × Stream)) (characters : List ℕ) (e e' : Condition) (lines : List (List ℕ)) → is_some end ≡ true → (first ≡ [] → wanted ≡ None) → e' ≡ e
    → Reaches end first found e' lines → Closes end wanted characters found e lines
closes_end None first found wanted characters e e' lines some none same h = absurd (false≢true some)
closes_end (Some condition) first found wanted characters e e' lines some none same h = (none h.0, h.1 ∙ same, h.2)

pub open_end : (mark : ℕ) (characters : List ℕ) (s : Stream) → s ≡ [] → with_front characters (delimited mark false s) ≡ None
open_end mark characters s e = ap (λ (t : Stream). with_front characters (delimited mark false t)) e

-- a statement ends
pub is_stopped : (condition : Condition) (wanted : Split) (s : Scan) (to_come : List (List ℕ)) → wanted ≡ stopped condition (ahead s to_come) → IsSplit (Some condition) wanted s to_come
is_stopped condition wanted s to_come e =
    let P : Split → Type 0 = λ w. IsSplit (Some condition) w s to_come in
    subst P (sym e) (refl, sym (records_behind-stream (drop s.at s.line) to_come))

pub is_missing : (condition ending : Condition) (wanted : Split) (s : Scan) (to_come : List (List ℕ)) → wanted ≡ stopped ending [] → condition ≡ ending → to_come ≡ [] → IsSplit (Some condition) wanted s to_come
is_missing condition ending wanted s to_come e same none =
    let P : Split → Type 0 = λ w. IsSplit (Some condition) w s to_come in
    subst P (sym e) (same, none ∙ sym records_behind-nil)

pub supplied_missing : (end : Option Condition) (comma first : Bool) (ending : Condition) (count : ℕ) (form : Form) (cs : List ℕ) (s found : Stream) (scan : Scan) (to_come : List (List ℕ)) → is_some end ≡ true → count ≡ 0
    → Reaches end (value_start comma first s) found ending to_come → IsSplit end (supplied count form cs s (split comma ending first s)) scan to_come
supplied_missing None comma first ending count form cs s found scan to_come some none h = absurd (false≢true some)
supplied_missing (Some condition) comma first ending count form cs s found scan to_come some none h =
    is_missing condition ending (supplied count form cs s (split comma ending first s)) scan to_come
    (ap (λ n. supplied n form cs s (split comma ending first s)) none ∙ ap (value_at comma ending) h.0) h.1 h.2

-- a delimited constant
pub closed_ended : (comma : Bool) (ending : Condition) (count : ℕ) (found : Option (List ℕ × Stream)) (cs : List ℕ) (s : Stream) → found ≡ Some (cs, s) → has_ended comma s ≡ true → closed comma ending count found ≡ value count Delimited cs s
closed_ended comma ending count found cs s is ended = ap (closed comma ending count) is ∙ go (has_ended comma s) ended where
  go : (b : Bool) → b ≡ true → Rattle.std.proofs.Common.cond b (value count Delimited cs s) (stopped (Error 13) s) ≡ value count Delimited cs s
  go true e = refl
  go false e = absurd (false≢true e)

pub closed_wrong : (comma : Bool) (ending : Condition) (count : ℕ) (found : Option (List ℕ × Stream)) (cs : List ℕ) (s : Stream) → found ≡ Some (cs, s) → has_ended comma s ≡ false → closed comma ending count found ≡ stopped (Error 13) s
closed_wrong comma ending count found cs s is ended = ap (closed comma ending count) is ∙ go (has_ended comma s) ended where
  go : (b : Bool) → b ≡ false → Rattle.std.proofs.Common.cond b (value count Delimited cs s) (stopped (Error 13) s) ≡ stopped (Error 13) s
  go false e = refl
  go true e = absurd (false≢true (sym e))

pub closed_missing : (comma : Bool) (ending : Condition) (count : ℕ) (found : Option (List ℕ × Stream)) → found ≡ None → closed comma ending count found ≡ stopped ending []
closed_missing comma ending count found is = ap (closed comma ending count) is

-- items
pub items_step : (comma : Bool) (ending : Condition) (order : List ℕ) (i : ℕ) (cells : List Cell) (first : Bool) (count : ℕ) (form : Form) (cs : List ℕ) (s : Stream) → i < length order
    → items_read comma ending (drop i order) cells first count form cs s
    ≡ served_from (supplied count form cs s (split comma ending first s)) cells (get_or order i 0) (λ count' form' cs' s' cells'. items_read comma ending (drop (i + 1) order) cells' false count' form' cs' s')
items_step comma ending order i cells first count form cs s within = ap (λ (os : List ℕ). items_read comma ending os cells first count form cs s) (drop_more order i 0 within)

pub outcome_stopped : (condition : Condition) (sp : Split) (scan : Scan) (to_come : List (List ℕ)) (cells : List Cell) (at : ℕ) (next : ℕ → Form → List ℕ → Stream → List Cell → Outcome)
    → IsSplit (Some condition) sp scan to_come → IsOutcome condition (served_from sp cells at next) cells to_come
outcome_stopped condition (stopped wanted rest) scan to_come cells at next h = record { condition_is = h.0; cells_are = refl; left_are = h.1 }
outcome_stopped condition (value count form cs rest) scan to_come cells at next h = absurd h

served_wrong : (condition : Condition) (r : Read) (cells cells' : List Cell) (at : ℕ) (s : Stream) (next : List Cell → Outcome) (left : List (List ℕ)) → left ≡ records_behind s → Serves (Some condition) r cells at cells'
    → IsOutcome condition (served r cells at s next) cells' left
served_wrong condition read.Null cells cells' at s next left is h = absurd h
served_wrong condition (read.Defined v) cells cells' at s next left is h = absurd h
served_wrong condition (read.Wrong e) cells cells' at s next left is h = record { condition_is = h.0; cells_are = h.1; left_are = is }

pub outcome_wrong : (condition : Condition) (sp : Split) (scan : Scan) (to_come : List (List ℕ)) (cells cells' : List Cell) (at : ℕ) (next : ℕ → Form → List ℕ → Stream → List Cell → Outcome)
    → IsSplit None sp scan to_come → Serves (Some condition) (read_as (kind_at cells at) scan.form (constant_of scan.form scan)) cells at cells'
    → IsOutcome condition (served_from sp cells at next) cells' to_come
outcome_wrong condition sp scan to_come cells cells' at next is h =
    let P : Split → Type 0 = λ w. IsOutcome condition (served_from w cells at next) cells' to_come in
    let s = ahead scan to_come in
    subst P (sym is) (served_wrong condition (read_as (kind_at cells at) scan.form (constant_of scan.form scan)) cells cells' at s (next (scan.count - 1) scan.form (constant_of scan.form scan) s) to_come
    (sym (records_behind-stream (drop scan.at scan.line) to_come)) h)

served_on : (r : Read) (cells cells' : List Cell) (at : ℕ) (s : Stream) (next : List Cell → Outcome) → Serves None r cells at cells' → served r cells at s next ≡ next cells'
served_on read.Null cells cells' at s next h = ap next (sym h)
served_on (read.Defined v) cells cells' at s next h = ap next (sym h)
served_on (read.Wrong e) cells cells' at s next h = absurd h

pub outcome_on : (sp : Split) (scan : Scan) (to_come : List (List ℕ)) (cells cells' : List Cell) (at : ℕ) (next : ℕ → Form → List ℕ → Stream → List Cell → Outcome)
    → IsSplit None sp scan to_come → Serves None (read_as (kind_at cells at) scan.form (constant_of scan.form scan)) cells at cells'
    → served_from sp cells at next ≡ next (scan.count - 1) scan.form (constant_of scan.form scan) (ahead scan to_come) cells'
outcome_on sp scan to_come cells cells' at next is h =
    let s = ahead scan to_come in
    ap (λ (w : Split). served_from w cells at next) is
    ∙ served_on (read_as (kind_at cells at) scan.form (constant_of scan.form scan)) cells cells' at s (next (scan.count - 1) scan.form (constant_of scan.form scan) s) h

-- the count makes no difference to the constant
pub constant_kept : (form : Form) (s : Scan) (n : ℕ) → constant_of form (record s { count = n }) ≡ constant_of form s
constant_kept Null s n = refl
constant_kept Undelimited s n = refl
constant_kept Delimited s n = refl

-- all items are served
pub outcome_fine : (comma : Bool) (ending : Condition) (order : List ℕ) (cells : List Cell) (first : Bool) (count : ℕ) (form : Form) (cs line : List ℕ) (to_come : List (List ℕ)) → order ≡ []
    → IsOutcome Fine (items_read comma ending order cells first count form cs (stream (line ∷ to_come))) cells to_come
outcome_fine comma ending order cells first count form cs line to_come none =
    let P : List ℕ → Type 0 = λ os. IsOutcome Fine (items_read comma ending os cells first count form cs (stream (line ∷ to_come))) cells to_come in
    subst P (sym none) (record { condition_is = refl; cells_are = refl; left_are = sym (records_behind-stream line to_come) })

pub outcome_same : (condition : Condition) (a b : Outcome) (cells : List Cell) (left : List (List ℕ)) → a ≡ b → IsOutcome condition a cells left → IsOutcome condition b cells left
outcome_same condition a b cells left e h = let P : Outcome → Type 0 = λ o. IsOutcome condition o cells left in subst P e h

-- the first record
no_records : (lines : List (List ℕ)) → stream lines ≡ [] → lines ≡ []
no_records lines e = sym (records_in-stream lines) ∙ ap records_in e ∙ records_in-stream []

pub input_none : (comma : Bool) (lines : List (List ℕ)) (ending condition : Condition) (cells : List Cell) (order : List ℕ) (left : List (List ℕ)) → stream lines ≡ [] → condition ≡ ending → left ≡ []
    → IsOutcome condition (list_input comma lines ending cells order) cells left
input_none comma lines ending condition cells order left none same gone =
    let P : List (List ℕ) → Type 0 = λ ls. IsOutcome condition (list_input comma ls ending cells order) cells left in
    subst P (sym (no_records lines none)) (record { condition_is = same; cells_are = refl; left_are = gone })

some_records : (line : List ℕ) (lines : List (List ℕ)) → stream (line ∷ lines) ≡ [] → ⊥
some_records line lines e = let none = no_records (line ∷ lines) e in cc

pub input_first : (comma : Bool) (lines : List (List ℕ)) (ending : Condition) (cells : List Cell) (order line : List ℕ) (to_come : List (List ℕ)) → stream (line ∷ to_come) ≡ stream lines
    → items_read comma ending order cells true 0 Null [] (stream (line ∷ to_come)) ≡ list_input comma lines ending cells order
input_first comma [] ending cells order line to_come e = absurd (some_records line to_come e)
input_first comma (l ∷ ls) ending cells order line to_come e = ap (items_read comma ending order cells true 0 Null []) e
