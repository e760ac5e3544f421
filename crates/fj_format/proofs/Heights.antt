-- A format nests no deeper than the grammar allows.
use Rattle.std.proofs.Common.{ℕ, suc, ◌+◌, ◌≡◌, ◌≤◌, List, Option, Bool, Some, None, arith, lit≤}
use Rattle.fj_value.specs.declared.edit.Edit.TheVariants.{Log, Chars, General}
use Rattle.fj_format.specs.declared.item.FormatItem.{FormatItem}
use Rattle.fj_format.specs.declared.item.FormatItem.TheFolds.{fold-FormatItem}
use Rattle.fj_format.specs.declared.place.Tabbing.{Tabbing}
use Rattle.fj_format.specs.declared.place.Tabbing.TheVariants.{To, Left, Right}
use Rattle.fj_format.specs.Marks.{Marks}
use Rattle.fj_format.specs.Grammar.{times, integer_edit, moved, Item, plain, counted, Body, integer, logical, characters, general, general_alone, tab, skip, slash, colon, sign_mode, blank_mode, decimal_mode, quoted, group, Items, items, unlimited, More, none, some, IsFormatOf, empty, format}
use Rattle.fj_format.specs.Unfolding.{height, height_step}
use Rattle.fj_format.proofs.UnfoldingLaws.{height-Field, height-Group, height-Str, height-Tab, height-Left, height-Right, height-Skip, height-Slash, height-Colon, height-Mode, height-Unlimited}

height-moved : (direction : Tabbing) (n : ℕ) → fold-FormatItem ℕ height_step (moved direction n) ≡ 0
height-moved To n = height-Tab n
height-moved Left n = height-Left n
height-moved Right n = height-Right n

mutual
  item_low : (d : ℕ) (x : FormatItem) (free : Bool) (t u : Marks) → d ≤ 32 → Item d x free t u → fold-FormatItem ℕ height_step x + d ≤ 32
  item_low d x free t u h (plain b) = body_low d None x free t u h b
  item_low d x free _ u h (counted {r = r} {t = t} n b) = body_low d (Some r) x free t u h b

  body_low : (d : ℕ) (k : Option ℕ) (x : FormatItem) (free : Bool) (t u : Marks) → d ≤ 32 → Body d k x free t u → fold-FormatItem ℕ height_step x + d ≤ 32
  body_low d k _ _ _ u h (integer {w = w} {m = m} x n l) = omega (arith, height-Field (times k) (integer_edit x w m))
  body_low d k _ _ _ u h (logical {w = w} n) = omega (arith, height-Field (times k) (Log w))
  body_low d k _ _ _ u h (characters {w = w} n) = omega (arith, height-Field (times k) (Chars w))
  body_low d k _ _ _ u h (general {w = w} {n = n} a b e) = omega (arith, height-Field (times k) (General w n))
  body_low d k _ _ _ u h (general_alone n) = omega (arith, height-Field (times k) (General 0 0))
  body_low d _ _ _ _ u h (tab {n = n} direction turns a) = omega (arith, height-moved direction n)
  body_low d k _ _ _ u h skip = omega (arith, height-Skip (times k))
  body_low d k _ _ _ u h slash = omega (arith, height-Slash (times k))
  body_low d _ _ _ _ u h colon = omega (arith, height-Colon)
  body_low d _ _ _ _ u h (sign_mode {m = m} a) = omega (arith, height-Mode m)
  body_low d _ _ _ _ u h (blank_mode {m = m} a) = omega (arith, height-Mode m)
  body_low d _ _ _ _ u h (decimal_mode {m = m} a) = omega (arith, height-Mode m)
  body_low d _ _ _ _ u h (quoted s) = omega (arith, height-Str s)
  body_low d k _ _ _ u h (group {inner = inner} {t = t} deep i) = omega (arith, height-Group (times k) inner, items_low (suc d) inner t _ (omega arith) i)

  items_low : (d : ℕ) (xs : List FormatItem) (t u : Marks) → d ≤ 32 → Items d xs t u → height xs + d ≤ 32
  items_low d _ s u h (items {x = x} {free = free} {more = more} {t = t} i m) = omega (arith, item_low d x free s t h i, more_low d free more t u h m)
  items_low d _ _ u h (unlimited {inner = inner} {t = t} top i there) = omega (arith, height-Unlimited inner, items_low (suc d) inner t _ (omega arith) i)

  more_low : (d : ℕ) (before : Bool) (xs : List FormatItem) (t u : Marks) → d ≤ 32 → More d before xs t u → height xs + d ≤ 32
  more_low d before _ _ u h none = omega arith
  more_low d before xs s u h (some {t = t} p i) = items_low d xs t u h i

pub format_low : (xs : List FormatItem) (t : Marks) → IsFormatOf xs t → height xs ≤ 31
format_low _ _ empty = omega arith
format_low xs _ (format {t = t} i) = omega (arith, items_low 1 xs t _ (lit≤ tt) i)
