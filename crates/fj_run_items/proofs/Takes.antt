-- Items that are moved out of the variables.
use Rattle.std.proofs.Common.{◌≡◌, ℕ, ◌+◌, ◌<◌, ◌^◌, eqb, cond, not, Bool, true, false, List, [], ◌∷◌, ◌++◌, length, map, Option, Some, None, option_map, Result, Ok, Err, IfOk, refl, sym, ap, subst, ◌∙◌, inl, inr, arith, append-nil}
use Rattle.std.proofs.Math.Path.{fun_ext}
use Rattle.std.proofs.lemmas.Bool.{false≢true}
use Rattle.std.proofs.lemmas.Bool.Decides.{nat_tests}
use Rattle.std.specs.Prelude.{ℤ, unwrap_or}
use Rattle.std.specs.List.{position_or_len}
use Rattle.std.specs.Option.{option_map_or}
use Rattle.fj_value.specs.declared.place.Place.{Place}
use Rattle.fj_value.specs.declared.value.Cell.{Cell}
use Rattle.fj_value.specs.declared.value.Value.{Value}
use Rattle.fj_value.specs.declared.value.Value.TheVariants.{Undefined}
use Rattle.fj_bay.specs.Jobs.{Moving, items_for}
use Rattle.fj_control.specs.Steps.{Given}
use Rattle.fj_meaning_jobs.specs.Acting.{moving_of}
use Rattle.fj_moved.specs.declared.moved.Moved.{Moved}
use Rattle.fj_statement.specs.declared.deck.Variable.{Variable}
use Rattle.fj_statement.specs.declared.statement.Operand.{Operand}
use Rattle.fj_statement.specs.declared.statement.Control.{Control}
use Rattle.fj_statement.specs.declared.statement.Control.TheVariants as control
use Rattle.fj_statement.specs.declared.statement.Transfer.{Transfer as Stated}
use Rattle.fj_statement.specs.declared.statement.Statement.TheVariants.{Transfer}
use Rattle.fj_store.specs.declared.piece.Piece.TheVariants.{Places}
use Rattle.fj_store.specs.declared.run.Run.{Run}
use Rattle.fj_store.specs.Pieces.{cells_in, sizes}
use Rattle.fj_store.specs.Places.{same_place, places_of, places_in}
use Rattle.fj_store.specs.Storage.{Storage, cell_at, emptied, without, values_of}
use Rattle.fj_store.specs.Tables.{with_element, with_cells}
use Rattle.fj_store.specs.Variables.{Variables, is_at, undefined_at, with_item, moved_from, moved_of}
use Rattle.fj_store.proofs.PlaceLemmas.{length-counted_from}
use Rattle.fj_store.proofs.StoreLemmas.{cells_more}
use Rattle.fj_store.proofs.TableLemmas.{places_tell, mapped_with, with_twice, with_swap}
use Rattle.fj_transfer.specs.Printing.{control_of}
use Rattle.fj_transfer.specs.declared.change.EditChange.{EditChange}
use Rattle.fj_transfer.specs.declared.transfer.Layout.{Layout}
use Rattle.fj_meaning.specs.Items as plain
use Rattle.fj_meaning.specs.Needs.{number_given}
use Rattle.fj_meaning.specs.Statement.{control_by, control_in}
use Rattle.fj_meaning.specs.Transfers.{layout_of, moved_in}
use Rattle.fj_run_items.specs.Gathering.{ArePieces, IsGathered, IsNumbered, all_items}
use Rattle.fj_run_items.specs.Kinds.{kinds_of}
use Rattle.fj_run_items.specs.declared.collection.Gathered.{Gathered}
use Rattle.fj_run_items.proofs.Finds.{run_numbered}
use Rattle.fj_run_items.proofs.Gathers.{alone_is, cell_same, cells_are, run_cells_are, run_sizes}
use Rattle.fj_meaning.proofs.Stored.{shown}

-- ---- places that are made undefined, whether they stand twice or not

abbrev nothing : Cell → Value
nothing cell = Undefined

swapped : (rows : Variables) (p q : Place) → with_element (with_element rows q Undefined) p Undefined ≡ with_element (with_element rows p Undefined) q Undefined
swapped rows p q = elim (places_tell p q) [
  | inl same ↦
      let P : Place → Type 0 = λ z. with_element (with_element rows z Undefined) p Undefined ≡ with_element (with_element rows p Undefined) z Undefined in
      subst P same.1 refl
  | inr other ↦ sym (with_swap rows p q Undefined Undefined other.1)
]

put_first : (cells : List Cell) (rows : Variables) (p : Place) → with_element (with_cells nothing cells rows) p Undefined ≡ with_cells nothing cells (with_element rows p Undefined)
put_first [] rows p = refl
put_first (c ∷ cells) rows p = put_first cells (with_element rows c.place Undefined) p ∙ ap (with_cells nothing cells) (swapped rows p c.place)

shorter : (cells : List Cell) (c : Cell) (p : Place) (b : Bool) → b ≡ false → eqb (cond (not b) (1 + position_or_len (is_at p) cells) 0) (length (c ∷ cells)) ≡ false → eqb (position_or_len (is_at p) cells) (length cells) ≡ false
shorter cells c p true e h = absurd (false≢true (sym e))
shorter cells c p false e h = grind (arith, nat_tests)

put_again : (cells : List Cell) (rows : Variables) (p : Place) → eqb (position_or_len (is_at p) cells) (length cells) ≡ false → with_element (with_cells nothing cells rows) p Undefined ≡ with_cells nothing cells rows
put_again [] rows p e = absurd (false≢true (sym e))
put_again (c ∷ cells) rows p e = elim (places_tell p c.place) [
  | inl same ↦
      let P : Place → Type 0 = λ z. with_element (with_cells nothing cells (with_element rows z Undefined)) p Undefined ≡ with_cells nothing cells (with_element rows z Undefined) in
      subst P same.1 (put_first cells (with_element rows p Undefined) p ∙ ap (with_cells nothing cells) (with_twice rows p Undefined Undefined))
  | inr other ↦ put_again cells (with_element rows c.place Undefined) p (shorter cells c p (same_place p c.place) other.0 e)
]

item_undefined : (start rows : Variables) (moved : Moved) (c : Cell) → with_cells nothing moved.cells start ≡ rows → with_cells nothing (with_item moved c).cells start ≡ with_element rows c.place Undefined
item_undefined start rows moved c so_far =
    let go : (b : Bool) → eqb (position_or_len (is_at c.place) moved.cells) (length moved.cells) ≡ b → with_cells nothing (cond b (moved.cells ++ c ∷ []) moved.cells) start ≡ with_element rows c.place Undefined =
    λ b. elim b as (λ z. eqb (position_or_len (is_at c.place) moved.cells) (length moved.cells) ≡ z → with_cells nothing (cond z (moved.cells ++ c ∷ []) moved.cells) start ≡ with_element rows c.place Undefined) [
      | true ↦ λ e. cells_more nothing moved.cells c start ∙ ap (λ r. with_element r c.place Undefined) so_far
      | false ↦ λ e. sym (put_again moved.cells start c.place e) ∙ ap (λ r. with_element r c.place Undefined) so_far
    ] in
    go (eqb (position_or_len (is_at c.place) moved.cells) (length moved.cells)) refl

all_undefined : (cells : List Cell) (start rows : Variables) (moved : Moved) → with_cells nothing moved.cells start ≡ rows → with_cells nothing (moved_from moved cells).cells start ≡ with_cells nothing cells rows
all_undefined [] start rows moved so_far = so_far
all_undefined (c ∷ cells) start rows moved so_far = all_undefined cells start (with_element rows c.place Undefined) (with_item moved c) (item_undefined start rows moved c so_far)

-- the cells of items are undefined where each item is
pub once_undefined : (cells : List Cell) (rows : Variables) → undefined_at (moved_of cells).cells rows ≡ undefined_at cells rows
once_undefined cells rows = all_undefined cells rows rows (record { cells = []; order = [] }) refl

emptied_shown : (s : Storage) (places : List Place) (rows : List (List (Option Value))) → map (map shown) (emptied places rows) ≡ undefined_at (map (cell_at s) places) (map (map shown) rows)
emptied_shown s [] rows = refl
emptied_shown s (p ∷ places) rows = emptied_shown s places (with_element rows p None) ∙ ap (undefined_at (map (cell_at s) places)) (mapped_with shown rows p None)

taken_vars : (s : Storage) (places : List Place) → values_of (without places s) ≡ undefined_at (moved_of (map (cell_at s) places)).cells (values_of s)
taken_vars s places = emptied_shown s places s.values ∙ sym (once_undefined (map (cell_at s) places) (values_of s))

-- ---- the items of an input

run_moved : (variables : List Variable) (s : Storage) (t : Stated) (g : Gathered) (runs : List Run) → s.kinds ≡ kinds_of variables → IsGathered variables (all_items t) g → g.pieces.items ≡ map Places runs
    → moved_of (map (cell_at s) (places_in runs)) ≡ moved_in variables (values_of s) t
run_moved variables s t g runs kinds h e = ap moved_of (sym (run_cells_are s 1 runs) ∙ ap (cells_in s) (sym e) ∙ cells_are variables s t g kinds h)

pub runs_size : (variables : List Variable) (items : List Operand) (g : Gathered) (runs rs : List Run) → IsGathered variables items g → g.pieces.items ≡ map Places runs → rs ≡ runs → length (places_in rs) ≡ g.size
runs_size variables items g runs rs h e same = ap (λ x. length (places_in x)) same ∙ sym (run_sizes runs) ∙ sym (ap sizes e) ∙ h.size

pub taken_moved : (variables : List Variable) (s : Storage) (t : Stated) (g : Gathered) (runs rs : List Run) (moved : Moved) → s.kinds ≡ kinds_of variables → IsGathered variables (all_items t) g → g.pieces.items ≡ map Places runs → rs ≡ runs
    → moved ≡ moved_of (map (cell_at s) (places_in rs)) → moved ≡ moved_in variables (values_of s) t
taken_moved variables s t g runs rs moved kinds h e same made = made ∙ ap (λ x. moved_of (map (cell_at s) (places_in x))) same ∙ run_moved variables s t g runs kinds h e

pub taken_values : (variables : List Variable) (s new : Storage) (t : Stated) (g : Gathered) (runs rs : List Run) → s.kinds ≡ kinds_of variables → IsGathered variables (all_items t) g → g.pieces.items ≡ map Places runs → rs ≡ runs
    → new ≡ without (places_in rs) s → values_of new ≡ undefined_at (moved_in variables (values_of s) t).cells (values_of s)
taken_values variables s new t g runs rs kinds h e same put =
    ap values_of (put ∙ ap (λ x. without (places_in x) s) same) ∙ taken_vars s (places_in runs) ∙ ap (λ (m : Moved). undefined_at m.cells (values_of s)) (run_moved variables s t g runs kinds h e)

-- those of one run alone

one_run : (s : Storage) (run : Run) → moved_of (map (cell_at s) (places_in (run ∷ []))) ≡ moved_of (map (cell_at s) (places_of run))
one_run s run = ap (λ ps. moved_of (map (cell_at s) ps)) (append-nil (places_of run))

pub run_taken : (variables : List Variable) (s : Storage) (t : Stated) (run : Run) → s.kinds ≡ kinds_of variables → ArePieces variables (all_items t) (Places run ∷ [])
    → moved_of (map (cell_at s) (places_in (run ∷ []))) ≡ moved_in variables (values_of s) t
run_taken variables s t run kinds h = one_run s run ∙ alone_is variables s t run kinds h

pub run_values : (variables : List Variable) (s new : Storage) (t : Stated) (run : Run) → s.kinds ≡ kinds_of variables → ArePieces variables (all_items t) (Places run ∷ []) → new ≡ without (places_in (run ∷ [])) s
    → values_of new ≡ undefined_at (moved_in variables (values_of s) t).cells (values_of s)
run_values variables s new t run kinds h put =
    ap values_of put ∙ taken_vars s (places_in (run ∷ [])) ∙ ap (λ (m : Moved). undefined_at m.cells (values_of s)) (run_taken variables s t run kinds h)

pub run_counted : (s : Storage) (run : Run) (moved : Moved) → moved ≡ moved_of (map (cell_at s) (places_in (run ∷ []))) → run.count < 2 ^ 32 → IsNumbered moved
run_counted s run moved made few = run_numbered s run moved (made ∙ one_run s run) few

pub run_low : (run : Run) → run.count < 2 ^ 32 → length (places_in (run ∷ [])) < 2 ^ 32
run_low run few =
    let places : length (places_in (run ∷ [])) ≡ length (places_of run) = ap (λ (ps : List Place). length ps) (append-nil (places_of run)) in
    let count : length (places_of run) ≡ run.count = length-counted_from run.var run.first run.count in
    omega (arith, places, count, few)

-- ---- SIZE=

pub size_cell : (variables : List Variable) (s : Storage) (size : Option Place) (place : Place) (moved : Moved) → size ≡ Some place → s.kinds ≡ kinds_of variables → moved ≡ moved_of (cell_at s place ∷ [])
    → Some moved ≡ option_map (λ p. moved_of (plain.cell_at variables (values_of s) p ∷ [])) size
size_cell variables s size place moved e kinds made =
    ap (λ m. Some m) (made ∙ ap (λ c. moved_of (c ∷ [])) (cell_same variables s place kinds)) ∙ ap (option_map (λ p. moved_of (plain.cell_at variables (values_of s) p ∷ []))) (sym e)

pub one_cell : (variables : List Variable) (vars : Variables) (at : Option Place) (size : Option Moved) → size ≡ option_map (λ p. moved_of (plain.cell_at variables vars p ∷ [])) at
    → option_map_or (λ (m : Moved). length m.cells) size 1 ≡ 1
one_cell variables vars None size e = ap (λ o. option_map_or (λ (m : Moved). length m.cells) o 1) e
one_cell variables vars (Some p) size e = ap (λ o. option_map_or (λ (m : Moved). length m.cells) o 1) e

pub place_alone : (s : Storage) (run : Run) (place : Place) (moved : Moved) → places_of run ≡ place ∷ [] → moved ≡ moved_of (map (cell_at s) (places_of run)) → moved ≡ moved_of (cell_at s place ∷ [])
place_alone s run place moved e made = made ∙ ap (λ ps. moved_of (map (cell_at s) ps)) e

-- ---- the job

control_same : (variables : List Variable) (cells : List Cell) (c : Control) (n : ℕ) → control_of (layout_of variables cells c) n ≡ control_in c n
control_same variables cells control.Unformatted n = refl
control_same variables cells (control.Explicit f) n = refl
control_same variables cells control.Listed n = refl
control_same variables cells (control.Group name vars) n = refl

pub job_control : (variables : List Variable) (cells : List Cell) (t : Stated) (layout : Layout) → layout ≡ layout_of variables cells t.control → control_of layout ≡ control_by (Transfer t)
job_control variables cells t layout e = ap control_of e ∙ fun_ext (λ n. control_same variables cells t.control n)

abbrev pub job_parts : List Variable → ℕ → ℕ → Stated → Moved → Option Moved → Option ℤ → Option ℤ → Layout → EditChange → Bool → (ℕ → List Given) → Moving
job_parts variables line tag t moved size of_rec of_pos layout edit advance c = record {
  stmt = line;
  tag = tag;
  spec = record { input = t.input; layout = layout; advance = advance; rec = of_rec; pos = of_pos; edit = edit };
  control = c (items_for t.input moved);
  moved = moved;
  size = size;
  count = None;
}

pub if_more : {T E : Type 0} → (r : Result T E) (P Q : T → Type 0) → ((x : T) → P x → Q x) → IfOk r P → IfOk r Q
if_more (Ok x) P Q f h = f x h
if_more (Err e) P Q f h = tt

pub job_is : (variables : List Variable) (line tag : ℕ) (t : Stated) (moved : Moved) (size : Option Moved) (of_rec of_pos : Option ℤ) (layout : Layout) (edit : EditChange) (advance : Bool) → layout ≡ layout_of variables moved.cells t.control
    → edit ≡ record { blank_zero = t.blank_zero; comma = t.comma; delim = t.delim; pad = t.pad; plus = t.plus } → advance ≡ unwrap_or t.advance true
    → job_parts variables line tag t moved size of_rec of_pos layout edit advance (control_of layout)
    ≡ job_parts variables line tag t moved size of_rec of_pos (layout_of variables moved.cells t.control) (record { blank_zero = t.blank_zero; comma = t.comma; delim = t.delim; pad = t.pad; plus = t.plus }) (unwrap_or t.advance true) (control_by (Transfer t))
job_is variables line tag t moved size of_rec of_pos layout edit advance layout_is edit_is advance_is =
    let by : Layout → EditChange → Bool → (ℕ → List Given) → Moving = λ l x a c. job_parts variables line tag t moved size of_rec of_pos l x a c in
    ap (λ c. by layout edit advance c) (job_control variables moved.cells t layout layout_is)
    ∙ ap (λ l. by l edit advance (control_by (Transfer t))) layout_is
    ∙ ap (λ x. by (layout_of variables moved.cells t.control) x advance (control_by (Transfer t))) edit_is
    ∙ ap (λ a. by (layout_of variables moved.cells t.control) (record { blank_zero = t.blank_zero; comma = t.comma; delim = t.delim; pad = t.pad; plus = t.plus }) a (control_by (Transfer t))) advance_is

pub moving_is : (variables : List Variable) (vars : Variables) (line tag : ℕ) (t : Stated) (moved : Moved) (size : Option Moved) (of_rec of_pos : Option ℤ)
    → moved ≡ moved_in variables vars t → size ≡ option_map (λ p. moved_of (plain.cell_at variables vars p ∷ [])) t.size → of_rec ≡ number_given vars t.rec → of_pos ≡ number_given vars t.pos
    → job_parts variables line tag t moved size of_rec of_pos (layout_of variables moved.cells t.control) (record { blank_zero = t.blank_zero; comma = t.comma; delim = t.delim; pad = t.pad; plus = t.plus }) (unwrap_or t.advance true) (control_by (Transfer t))
    ≡ moving_of (control_by (Transfer t)) variables line tag vars t (moved_in variables vars t)
moving_is variables vars line tag t moved size of_rec of_pos moved_is size_is rec_is pos_is =
    let edit : EditChange = record { blank_zero = t.blank_zero; comma = t.comma; delim = t.delim; pad = t.pad; plus = t.plus } in
    let by : Moved → Option Moved → Option ℤ → Option ℤ → Moving = λ m s r p. job_parts variables line tag t m s r p (layout_of variables m.cells t.control) edit (unwrap_or t.advance true) (control_by (Transfer t)) in
    ap (λ m. by m size of_rec of_pos) moved_is
    ∙ ap (λ s. by (moved_in variables vars t) s of_rec of_pos) size_is
    ∙ ap (λ r. by (moved_in variables vars t) (option_map (λ p. moved_of (plain.cell_at variables vars p ∷ [])) t.size) r of_pos) rec_is
    ∙ ap (λ p. by (moved_in variables vars t) (option_map (λ p. moved_of (plain.cell_at variables vars p ∷ [])) t.size) (number_given vars t.rec) p) pos_is
