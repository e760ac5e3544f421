-- Fields under one descriptor as actions on the record at hand.
use Rattle.std.proofs.Common.{◌≡◌, ◌≤◌, ℕ, zero, suc, ◌+◌, ◌-◌, Bool, List, [], ◌∷◌, ◌++◌, length, take, map, replicate, Option, Some, None, ℤ, refl, sym, ap, ◌∙◌, arith, append_assoc, length-append}
use Rattle.std.proofs.lemmas.List.{take-take, length-map, length-take-le, replicate-append-replicate}
use Rattle.fj_value.specs.declared.kind.Kind.{Kind}
use Rattle.fj_value.specs.declared.value.Value.{Value}
use Rattle.fj_value.specs.declared.edit.Edit.TheVariants as edit
use Rattle.fj_value.specs.declared.edit.EditModes.{EditModes}
use Rattle.fj_line.specs.Actions.{put}
use Rattle.fj_format.specs.Unfolding as step
use Rattle.fj_control.specs.Steps.{Given, gives}
use Rattle.fj_control.specs.Paired.{paired}
use Rattle.fj_edit_out.specs.Item.{integer_in, with_integer, integers_in}
use Rattle.fj_edit_out.specs.OutputField.{integer_field, field_of}
use Rattle.fj_moved.specs.Items.{Output, of_kind}
use Rattle.fj_transfer.specs.Explicit.{field_put, item_put, action_of}
use Rattle.fj_transfer.specs.Writing.{row_of}

-- ---- items under one descriptor

put_is : (plus : Bool) (w : ℕ) (kind : Kind) (v : Value) (n : ℤ) → integer_in kind v ≡ Some n → item_put plus (edit.Int w None) (kind, v) ≡ put (integer_field plus (w, None) n)
put_is plus w kind v n e = ap (λ o. field_put (field_of (integer_field plus) (Some (w, None)) o)) e

module _ (modes : EditModes) (w : ℕ) (more : List Given) (rest : List Output) (kind : Kind) where
  g : Given
  g = gives (step.edit (edit.Int w None))

  IsRow : List Value → ℕ → List ℤ → Type 0
  IsRow values k ns = map action_of (paired modes (replicate k g ++ more) (of_kind kind (take k values) ++ rest)) ≡ row_of modes.plus w (take k ns) ++ map action_of (paired modes more rest)

  one_more : (v : Value) (vs : List Value) (k : ℕ) (o : Option ℤ) → integer_in kind v ≡ o → (k ≤ length (integers_in kind vs) → IsRow vs k (integers_in kind vs))
      → suc k ≤ length (with_integer o (integers_in kind vs)) → IsRow (v ∷ vs) (suc k) (with_integer o (integers_in kind vs))
  unfolding g IsRow
  one_more v vs k None e go h = absurd (omega arith)
  one_more v vs k (Some n) e go h =
      ap (λ a. a ∷ map action_of (paired modes (replicate k g ++ more) (of_kind kind (take k vs) ++ rest))) (put_is modes.plus w kind v n e)
      ∙ ap (λ l. put (integer_field modes.plus (w, None) n) ∷ l) (go (omega arith))

  -- values as far as they are integers
  row_is : (values : List Value) (k : ℕ) → k ≤ length (integers_in kind values) → IsRow values k (integers_in kind values)
  unfolding g IsRow
  row_is values zero h = refl
  row_is [] (suc k) h = absurd (omega arith)
  row_is (v ∷ vs) (suc k) h = one_more v vs k (integer_in kind v) refl (row_is vs k) h

  pub row_actions : (items : List Output) (ahead : List Value) (count k : ℕ) → k ≤ length (integers_in kind (take count ahead)) → k ≤ count → items ≡ of_kind kind (take k ahead) ++ rest
      → map action_of (paired modes (replicate k (gives (step.edit (edit.Int w None))) ++ more) items) ≡ row_of modes.plus w (take k (integers_in kind (take count ahead))) ++ map action_of (paired modes more rest)
  unfolding g IsRow
  row_actions items ahead count k few within is =
      ap (λ l. map action_of (paired modes (replicate k g ++ more) l)) (is ∙ ap (λ l. of_kind kind l ++ rest) (sym (take-take k count ahead within)))
      ∙ row_is (take count ahead) k few

pub items_left_over : (items rest : List Output) (kind : Kind) (ahead : List Value) (k : ℕ) → k ≤ length ahead → items ≡ of_kind kind (take k ahead) ++ rest → length items ≡ k + length rest
items_left_over items rest kind ahead k h is =
    ap length is ∙ length-append (of_kind kind (take k ahead)) rest ∙ ap (λ n. n + length rest) (length-map {B = Output} (take k ahead) (λ v. (kind, v)) ∙ length-take-le k ahead h)

-- a part of a run
pub run_cut : (g : Given) (row left : ℕ) (more : List Given) → row ≤ left → replicate left g ++ more ≡ replicate row g ++ (replicate (left - row) g ++ more)
run_cut g row left more h =
    let whole : row + (left - row) ≡ left = omega arith in
    ap (λ n. replicate n g ++ more) (sym whole) ∙ ap (λ l. l ++ more) (sym (replicate-append-replicate row (left - row) g)) ∙ append_assoc (replicate row g) (replicate (left - row) g) more
