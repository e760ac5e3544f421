-- The text of a format: upper case, no blanks, all commas, a repeat count only above 1, and `1X` for `X`.
use Rattle.std.specs.Prelude.{ℕ, ◌==◌, if◌then◌else◌, List, [], ◌∷◌, ◌++◌, map, Option, Some, None, codes, decimal}
use Rattle.std.specs.List.{join_with_byte}
use Rattle.fj_value.specs.declared.edit.Edit.{Edit}
use Rattle.fj_value.specs.declared.edit.Edit.TheVariants.{Int, Bits, Log, Chars, General}
use Rattle.fj_format.specs.declared.item.ModeStep.{ModeStep}
use Rattle.fj_format.specs.declared.item.ModeStep.TheVariants.{Plus, Suppress, Usual, BlankNull, BlankZero, Comma, Point}
use Rattle.fj_format.specs.declared.item.FormatItem.{FormatItem}
use Rattle.fj_format.specs.declared.item.FormatItem.TheOpen.{FormatItem-F}
use Rattle.fj_format.specs.declared.item.FormatItem.TheFolds.{fold-FormatItem}

-- a repeat count
abbrev pub count_text : ℕ → List ℕ
count_text r = if r == 1 then [] else decimal r

-- m behind a width
abbrev pub least_text : Option ℕ → List ℕ
least_text None = []
least_text (Some m) = codes "." ++ decimal m

-- the letter of the base 2, 8 or 16
abbrev pub base_text : ℕ → List ℕ
base_text base = if base == 2 then codes "B" else (if base == 8 then codes "O" else codes "Z")

-- .d behind a width, which G0 has not
abbrev pub decimals_text : ℕ → ℕ → List ℕ
decimals_text w d = if w == 0 then [] else codes "." ++ decimal d

abbrev pub edit_text : Edit → List ℕ
edit_text (Int w m) = codes "I" ++ (decimal w ++ least_text m)
edit_text (Bits base w m) = base_text base ++ (decimal w ++ least_text m)
edit_text (Log w) = codes "L" ++ decimal w
edit_text (Chars None) = codes "A"
edit_text (Chars (Some w)) = codes "A" ++ decimal w
edit_text (General w d) = codes "G" ++ (decimal w ++ decimals_text w d)

abbrev pub mode_text : ModeStep → List ℕ
mode_text Plus = codes "SP"
mode_text Suppress = codes "SS"
mode_text Usual = codes "S"
mode_text BlankNull = codes "BN"
mode_text BlankZero = codes "BZ"
mode_text Comma = codes "DC"
mode_text Point = codes "DP"

-- a string with its apostrophes doubled
abbrev pub doubled : List ℕ → List ℕ
doubled [] = []
doubled (c ∷ s) = if c == 39 then codes "''" ++ doubled s else c ∷ doubled s

-- the comma before the item with this index
abbrev pub separator : ℕ → List ℕ
separator i = if i == 0 then [] else codes ","

-- the texts of items, in parentheses
abbrev pub in_parentheses : List (List ℕ) → List ℕ
in_parentheses texts = codes "(" ++ (join_with_byte 44 texts ++ codes ")")

-- one item, each inner item a text already
abbrev pub item_text_step : FormatItem-F (List ℕ) → List ℕ
item_text_step (FormatItem-F.Field r e) = count_text r ++ edit_text e
item_text_step (FormatItem-F.Group r items) = count_text r ++ in_parentheses items
item_text_step (FormatItem-F.Str s) = codes "'" ++ (doubled s ++ codes "'")
item_text_step (FormatItem-F.Tab n) = codes "T" ++ decimal n
item_text_step (FormatItem-F.Left n) = codes "TL" ++ decimal n
item_text_step (FormatItem-F.Right n) = codes "TR" ++ decimal n
item_text_step (FormatItem-F.Skip n) = decimal n ++ codes "X"
item_text_step (FormatItem-F.Slash n) = count_text n ++ codes "/"
item_text_step FormatItem-F.Colon = codes ":"
item_text_step (FormatItem-F.Mode m) = mode_text m
item_text_step (FormatItem-F.Unlimited items) = codes "*" ++ in_parentheses items

abbrev pub item_text : FormatItem → List ℕ
item_text = fold-FormatItem (List ℕ) item_text_step

-- the text of a format
abbrev pub printed : List FormatItem → List ℕ
printed items = in_parentheses (map item_text items)
