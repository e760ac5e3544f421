-- The text of each kind of item.
use Rattle.std.proofs.Common.{ℕ, ◌≡◌, List, ◌++◌, map, codes, decimal, sym, ap, ◌∙◌}
use Rattle.fj_value.specs.declared.edit.Edit.{Edit}
use Rattle.fj_format.specs.declared.item.ModeStep.{ModeStep}
use Rattle.fj_format.specs.declared.item.FormatItem.{FormatItem}
use Rattle.fj_format.specs.declared.item.FormatItem.TheVariants as item
use Rattle.fj_format.specs.declared.item.FormatItem.TheVariants.{rolls-Group, rolls-Field, rolls-Str, rolls-Tab, rolls-Left, rolls-Right, rolls-Skip, rolls-Slash, rolls-Colon, rolls-Mode, rolls-Unlimited}
use Rattle.fj_format.specs.declared.item.FormatItem.TheOpen.{FormatItem-F}
use Rattle.fj_format.specs.declared.item.FormatItem.TheFolds.{fold-roll-FormatItem}
use Rattle.fj_format.specs.Printing.{count_text, edit_text, mode_text, doubled, in_parentheses, item_text_step, item_text}

pub item_text-Field : (r : ℕ) (e : Edit) → item_text (item.Field r e) ≡ count_text r ++ edit_text e
item_text-Field r e = ap item_text (sym (rolls-Field r e)) ∙ fold-roll-FormatItem (List ℕ) item_text_step (FormatItem-F.Field r e)

pub item_text-Group : (r : ℕ) (xs : List FormatItem) → item_text (item.Group r xs) ≡ count_text r ++ in_parentheses (map item_text xs)
item_text-Group r xs = ap item_text (sym (rolls-Group r xs)) ∙ fold-roll-FormatItem (List ℕ) item_text_step (FormatItem-F.Group r xs)

pub item_text-Str : (s : List ℕ) → item_text (item.Str s) ≡ codes "'" ++ (doubled s ++ codes "'")
item_text-Str s = ap item_text (sym (rolls-Str s)) ∙ fold-roll-FormatItem (List ℕ) item_text_step (FormatItem-F.Str s)

pub item_text-Tab : (n : ℕ) → item_text (item.Tab n) ≡ codes "T" ++ decimal n
item_text-Tab n = ap item_text (sym (rolls-Tab n)) ∙ fold-roll-FormatItem (List ℕ) item_text_step (FormatItem-F.Tab n)

pub item_text-Left : (n : ℕ) → item_text (item.Left n) ≡ codes "TL" ++ decimal n
item_text-Left n = ap item_text (sym (rolls-Left n)) ∙ fold-roll-FormatItem (List ℕ) item_text_step (FormatItem-F.Left n)

pub item_text-Right : (n : ℕ) → item_text (item.Right n) ≡ codes "TR" ++ decimal n
item_text-Right n = ap item_text (sym (rolls-Right n)) ∙ fold-roll-FormatItem (List ℕ) item_text_step (FormatItem-F.Right n)

pub item_text-Skip : (n : ℕ) → item_text (item.Skip n) ≡ decimal n ++ codes "X"
item_text-Skip n = ap item_text (sym (rolls-Skip n)) ∙ fold-roll-FormatItem (List ℕ) item_text_step (FormatItem-F.Skip n)

pub item_text-Slash : (n : ℕ) → item_text (item.Slash n) ≡ count_text n ++ codes "/"
item_text-Slash n = ap item_text (sym (rolls-Slash n)) ∙ fold-roll-FormatItem (List ℕ) item_text_step (FormatItem-F.Slash n)

pub item_text-Colon : item_text item.Colon ≡ codes ":"
item_text-Colon = ap item_text (sym rolls-Colon) ∙ fold-roll-FormatItem (List ℕ) item_text_step FormatItem-F.Colon

pub item_text-Mode : (m : ModeStep) → item_text (item.Mode m) ≡ mode_text m
item_text-Mode m = ap item_text (sym (rolls-Mode m)) ∙ fold-roll-FormatItem (List ℕ) item_text_step (FormatItem-F.Mode m)

pub item_text-Unlimited : (xs : List FormatItem) → item_text (item.Unlimited xs) ≡ codes "*" ++ in_parentheses (map item_text xs)
item_text-Unlimited xs = ap item_text (sym (rolls-Unlimited xs)) ∙ fold-roll-FormatItem (List ℕ) item_text_step (FormatItem-F.Unlimited xs)
