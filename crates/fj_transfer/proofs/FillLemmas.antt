-- Records that are filled up, as what is printed.
use Rattle.std.proofs.Common.{true, map, ◌≡◌, ℕ, ◌<◌, List, [], ◌∷◌, ◌++◌, length, Result, Ok, Err, refl, sym, ap, subst, ◌∙◌, arith}
use Rattle.std.specs.Prelude.{OnOk}
use Rattle.std.specs.declared.alloc.AllocError.{AllocError}
use Rattle.fj_value.specs.declared.condition.Condition.{Condition}
use Rattle.fj_value.specs.declared.edit.EditModes.{EditModes}
use Rattle.fj_value.specs.declared.value.Cell.{Cell}
use Rattle.fj_byterec.specs.Runs.{run_of}
use Rattle.fj_line.specs.declared.unwritten.Unwritten.{Unwritten}
use Rattle.fj_line.specs.declared.unwritten.Unwritten.TheVariants.{Met, Memory}
use Rattle.fj_line.specs.Line.{empty_line}
use Rattle.fj_line.specs.Actions.{Action, end_record, AtHand, first_record, carried_out}
use Rattle.fj_line.specs.Page.{at_hand, Carries}
use Rattle.fj_format.specs.declared.item.FormatItem.{FormatItem}
use Rattle.fj_control.specs.Steps as control
use Rattle.fj_control.specs.Paired.{parts, paired}
use Rattle.fj_control.specs.Walk as walk
use Rattle.fj_control.specs.Walk.{Walk, due}
use Rattle.fj_moved.specs.Items.{Output}
use Rattle.fj_line.specs.Records.{texts_from, texts_of}
use Rattle.fj_connect.specs.Connection.{Connection}
use Rattle.fj_transfer.specs.Explicit.{action_of, explicit_actions}
use Rattle.fj_transfer.specs.Printing.{Printed, printed_of, if_fine, printed_by}
use Rattle.fj_transfer.specs.Transfer.{told_with, output_done, with_pieces, pieces_written}
use Rattle.fj_transfer.specs.declared.writer.Writer.{Writer}
use Rattle.fj_transfer.specs.Writing.{items_of_writer, actions_left, texts_left, Fills, AreShort, HasPieces}
use Rattle.fj_transfer.proofs.PieceLemmas.{texts_ended, printed_ended, texts_there, are_short}

-- where format control is done nothing is left
pub nothing_left : (begun here : AtHand) (all : List Action) (w : Writer) (gs : List control.Given) → carried_out begun all ≡ carried_out here (actions_left w gs) → gs ≡ control.done ∷ [] → carried_out begun all ≡ Ok here
nothing_left begun here all w gs same is = same ∙ ap (λ l. carried_out here (actions_left w l)) is

records_are : (xs : List Action) → (printed_of (texts_of (xs ++ end_record ∷ []))).records ≡ texts_of xs
records_are xs = ap (λ (l : List (List ℕ)). (printed_of l).records) (texts_ended empty_line xs) ∙ printed_ended (texts_of xs)

memory_fills : (recl : ℕ) (printed : Result Printed Condition) (old new : List ℕ) (error : AllocError) → Fills recl printed old (Err (Memory error)) new
memory_fills recl (Ok p) old new error = tt
memory_fills recl (Err condition) old new error = tt

-- what a call filled that carried the actions out
pub fills : (recl begun : ℕ) (hand new : AtHand) (xs : List Action) (r : Result (Unit {0}) Unwritten) (old run : List ℕ) → hand ≡ first_record recl begun → Carries hand (xs ++ end_record ∷ []) r new
    → OnOk r (run ≡ old ++ run_of recl 32 (texts_from hand.line xs)) → Fills recl (printed_by recl begun (xs ++ end_record ∷ [])) old r run
fills recl begun hand new xs (Ok u) old run is done made =
    let acts = xs ++ end_record ∷ [] in
    let whole : carried_out (first_record recl begun) acts ≡ Ok new = ap (λ h. carried_out h acts) (sym is) ∙ done in
    let P : Result AtHand Condition → Type 0 = λ e. Fills recl (if_fine acts e) old (Ok u) run in
    subst P (sym whole) (made ∙ ap (λ (h : AtHand). old ++ run_of recl 32 (texts_from h.line xs)) is ∙ ap (λ l. old ++ run_of recl 32 l) (sym (records_are xs)))
fills recl begun hand new xs (Err (Met condition)) old run is done made =
    let acts = xs ++ end_record ∷ [] in
    let whole : carried_out (first_record recl begun) acts ≡ Err condition = ap (λ h. carried_out h acts) (sym is) ∙ done in
    let P : Result AtHand Condition → Type 0 = λ e. Fills recl (if_fine acts e) old (Err (Met condition)) run in
    subst P (sym whole) refl
fills recl begun hand new xs (Err (Memory error)) old run is done made = memory_fills recl (printed_by recl begun (xs ++ end_record ∷ [])) old run error

-- a writer of all items that a walk began with
pub fills_all : (recl begun : ℕ) (w : Writer) (cursor : Walk) (f : List FormatItem) (items : List Output) (text : List ℕ) (new : AtHand) (r : Result (Unit {0}) Unwritten) (old run : List ℕ) → at_hand w.page text ≡ first_record recl begun
    → cursor ≡ walk.begun f → items_of_writer w ≡ items → Carries (at_hand w.page text) (actions_left w (due cursor (length (items_of_writer w))) ++ end_record ∷ []) r new
    → OnOk r (run ≡ old ++ run_of recl 32 (texts_left text w (due cursor (length (items_of_writer w))))) → Fills recl (printed_by recl begun (explicit_actions w.modes true f items)) old r run
fills_all recl begun w cursor f items text new r old run hand is there carried made =
    let xs = actions_left w (due cursor (length (items_of_writer w))) in
    let same : xs ≡ map action_of (parts w.modes f items) =
    ap (λ (c : Walk). map action_of (paired w.modes (due c (length (items_of_writer w))) (items_of_writer w))) is
    ∙ ap (λ (l : List Output). map action_of (paired w.modes (due (walk.begun f) (length l)) l)) there in
    let P : List Action → Type 0 = λ l. Fills recl (printed_by recl begun (l ++ end_record ∷ [])) old r run in
    subst P same (fills recl begun (at_hand w.page text) new xs r old run hand carried made)

short_front : (limit : ℕ) (a b : List (List ℕ)) → AreShort limit (a ++ b) → AreShort limit a
short_front limit [] b h = tt
short_front limit (t ∷ a) b h = (h.0, short_front limit a b h.1)

-- the records of an output that was filled
pub record Filled (recl : ℕ) (printed : Result Printed Condition) (run : List ℕ) : Type 0 where
  pub p : Printed
  pub is : printed ≡ Ok p
  pub has : HasPieces recl p.records run

pub filled : (recl begun : ℕ) (xs : List Action) (run : List ℕ) → Fills recl (printed_by recl begun (xs ++ end_record ∷ [])) [] (Ok tt) run → Filled recl (printed_by recl begun (xs ++ end_record ∷ [])) run
filled recl begun xs run h = by (carried_out (first_record recl begun) (xs ++ end_record ∷ [])) refl
  where
    by : (r : Result AtHand Condition) → carried_out (first_record recl begun) (xs ++ end_record ∷ []) ≡ r → Filled recl (printed_by recl begun (xs ++ end_record ∷ [])) run
    by (Ok last) e =
        let acts = xs ++ end_record ∷ [] in
        let p = printed_of (texts_of acts) in
        let whole : printed_by recl begun acts ≡ Ok p = ap (if_fine acts) e in
        let P : Result Printed Condition → Type 0 = λ r. Fills recl r [] (Ok tt) run in
        let short : AreShort recl (texts_of acts) = are_short recl (first_record recl begun) last acts refl (omega arith) e in
        let Q : List (List ℕ) → Type 0 = AreShort recl in
        let same = records_are xs in
        record {
          p = p;
          is = whole;
          has = record {
            made = subst P whole h;
            some = subst (λ (l : List (List ℕ)). 0 < length l) (sym same) (texts_there empty_line xs);
            short = subst Q (sym same) (short_front recl (texts_of xs) ([] ∷ []) (subst Q (texts_ended empty_line xs) short));
          };
        }
    by (Err condition) e =
        let acts = xs ++ end_record ∷ [] in
        let whole : printed_by recl begun acts ≡ Err condition = ap (if_fine acts) e in
        let P : Result Printed Condition → Type 0 = λ r. Fills recl r [] (Ok tt) run in
        absurd (subst P whole h)

pub filled_as : (modes : EditModes) (f : List FormatItem) (recl recl' begun begun' : ℕ) (items items' : List Output) (old run run' : List ℕ) → recl ≡ recl' → begun ≡ begun' → items ≡ items' → old ≡ [] → run' ≡ run
    → Fills recl (printed_by recl begun (explicit_actions modes true f items)) old (Ok tt) run → Filled recl' (printed_by recl' begun' (explicit_actions modes true f items')) run'
filled_as modes f recl recl' begun begun' items items' old run run' limit before there none shown h =
    let P : ℕ → Type 0 = λ n. Fills n (printed_by n begun (explicit_actions modes true f items)) old (Ok tt) run in
    let Q : ℕ → Type 0 = λ n. Fills recl' (printed_by recl' n (explicit_actions modes true f items)) old (Ok tt) run in
    let R : List Output → Type 0 = λ l. Fills recl' (printed_by recl' begun' (explicit_actions modes true f l)) old (Ok tt) run in
    let S : List ℕ → Type 0 = λ l. Fills recl' (printed_by recl' begun' (explicit_actions modes true f items')) l (Ok tt) run in
    let T : List ℕ → Type 0 = λ l. Filled recl' (printed_by recl' begun' (explicit_actions modes true f items')) l in
    subst T (sym shown) (filled recl' begun' (map action_of (parts modes f items')) run (subst S none (subst R there (subst Q before (subst P limit h)))))

pub written_filled : (recl : ℕ) (printed : Result Printed Condition) (old c : Connection) (cells : List Cell) (run : List ℕ) (h : Filled recl printed run) → output_done old cells (with_pieces h.p.records c) 0 ≡ pieces_written old c cells printed
written_filled recl printed old c cells run h = ap (pieces_written old c cells) (sym h.is)

-- an output that met a condition
pub met_pieces : (recl : ℕ) (printed : Result Printed Condition) (old c : Connection) (cells : List Cell) (condition : Condition) (run : List ℕ) → Fills recl printed [] (Err (Met condition)) run
    → told_with old cells condition ≡ pieces_written old c cells printed
met_pieces recl (Ok p) old c cells condition run h = absurd h
met_pieces recl (Err other) old c cells condition run h = ap (told_with old cells) h
