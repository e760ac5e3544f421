-- What one pass and the text of a format are, kind of item by kind of item.
use Rattle.std.specs.Prelude.{ℕ, ◌≡◌, List, [], ◌∷◌, ◌++◌, map, codes, decimal}
use Rattle.fj_value.specs.declared.edit.Edit.{Edit}
use Rattle.fj_format.specs.declared.item.ModeStep.{ModeStep}
use Rattle.fj_format.specs.declared.item.FormatItem.{FormatItem}
use Rattle.fj_format.specs.declared.item.FormatItem.TheVariants as item
use Rattle.fj_format.specs.Unfolding.{edit, string, tab, left, right, slash, colon, mode, repeated, pass}
use Rattle.fj_format.specs.Printing.{count_text, edit_text, mode_text, doubled, in_parentheses, item_text}

-- These equations leave no choice of `pass`.
pub record Unfolds : Type 0 where
  pub nothing : pass [] ≡ []
  pub field : (r : ℕ) (e : Edit) (more : List FormatItem) → pass (item.Field r e ∷ more) ≡ repeated r (edit e ∷ []) ++ pass more
  pub group : (r : ℕ) (items more : List FormatItem) → pass (item.Group r items ∷ more) ≡ repeated r (pass items) ++ pass more
  pub text : (s : List ℕ) (more : List FormatItem) → pass (item.Str s ∷ more) ≡ string s ∷ pass more
  pub to : (n : ℕ) (more : List FormatItem) → pass (item.Tab n ∷ more) ≡ tab n ∷ pass more
  pub back : (n : ℕ) (more : List FormatItem) → pass (item.Left n ∷ more) ≡ left n ∷ pass more
  pub ahead : (n : ℕ) (more : List FormatItem) → pass (item.Right n ∷ more) ≡ right n ∷ pass more
  pub skip : (n : ℕ) (more : List FormatItem) → pass (item.Skip n ∷ more) ≡ right n ∷ pass more
  pub records : (n : ℕ) (more : List FormatItem) → pass (item.Slash n ∷ more) ≡ repeated n (slash ∷ []) ++ pass more
  pub stop : (more : List FormatItem) → pass (item.Colon ∷ more) ≡ colon ∷ pass more
  pub change : (m : ModeStep) (more : List FormatItem) → pass (item.Mode m ∷ more) ≡ mode m ∷ pass more
  pub unlimited : (items more : List FormatItem) → pass (item.Unlimited items ∷ more) ≡ pass items ++ pass more

-- These equations leave no choice of `item_text`.
pub record Prints : Type 0 where
  pub field : (r : ℕ) (e : Edit) → item_text (item.Field r e) ≡ count_text r ++ edit_text e
  pub group : (r : ℕ) (items : List FormatItem) → item_text (item.Group r items) ≡ count_text r ++ in_parentheses (map item_text items)
  pub text : (s : List ℕ) → item_text (item.Str s) ≡ codes "'" ++ (doubled s ++ codes "'")
  pub to : (n : ℕ) → item_text (item.Tab n) ≡ codes "T" ++ decimal n
  pub back : (n : ℕ) → item_text (item.Left n) ≡ codes "TL" ++ decimal n
  pub ahead : (n : ℕ) → item_text (item.Right n) ≡ codes "TR" ++ decimal n
  pub skip : (n : ℕ) → item_text (item.Skip n) ≡ decimal n ++ codes "X"
  pub records : (n : ℕ) → item_text (item.Slash n) ≡ count_text n ++ codes "/"
  pub stop : item_text item.Colon ≡ codes ":"
  pub change : (m : ModeStep) → item_text (item.Mode m) ≡ mode_text m
  pub unlimited : (items : List FormatItem) → item_text (item.Unlimited items) ≡ codes "*" ++ in_parentheses (map item_text items)
