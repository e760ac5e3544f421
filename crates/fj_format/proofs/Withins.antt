-- The grammar allows no other numbers in the steps of a format.
use Rattle.std.proofs.Common.{ℕ, zero, suc, ◌≤◌, Bool, List, [], ◌∷◌, Option, Some, None, inl, inr, refl, sym, subst, lit≤}
use Rattle.std.specs.List.{All}
use Rattle.std.proofs.lemmas.List.Elements.{All-nil, All-cons, All-append}
use Rattle.fj_value.specs.declared.edit.Edit.{Edit}
use Rattle.fj_value.specs.declared.edit.Edit.TheVariants.{Log, Chars, General}
use Rattle.fj_format.specs.declared.item.FormatItem.{FormatItem}
use Rattle.fj_format.specs.declared.item.FormatItem.TheVariants as item
use Rattle.fj_format.specs.declared.place.Radix.{Radix}
use Rattle.fj_format.specs.declared.place.Radix.TheVariants.{Two, Eight, Ten, Sixteen}
use Rattle.fj_format.specs.declared.place.Tabbing.{Tabbing}
use Rattle.fj_format.specs.declared.place.Tabbing.TheVariants.{To, Left, Right}
use Rattle.fj_format.specs.declared.symbol.Symbol.TheVariants.{Close, Point}
use Rattle.fj_format.specs.Marks.{Marks, symbol}
use Rattle.fj_format.specs.Grammar.{Number, number, times, integer_edit, moved, Least, no_least, least, Width, no_width, width, Item, plain, counted, Body, integer, logical, characters, general, general_alone, tab, skip, slash, colon, sign_mode, blank_mode, decimal_mode, quoted, group, Items, items, unlimited, More, none, some, IsFormatOf, empty, format}
use Rattle.fj_format.specs.Unfolding.{Elementary, edit, Steps, repeated, written_out, pass}
use Rattle.fj_format.specs.Unfolding as step
use Rattle.fj_format.proofs.UnfoldingLaws.{written_out-Field, written_out-Group, written_out-Str, written_out-Tab, written_out-Left, written_out-Right, written_out-Skip, written_out-Slash, written_out-Colon, written_out-Mode, written_out-Unlimited}
use Rattle.fj_format.specs.Within.{IsPositive, IsLeastWithin, IsEditWithin, IsStepWithin}

abbrev AllWithin : Steps → Type 0
AllWithin steps = All IsStepWithin steps

alone : (e : Elementary) → IsStepWithin e → AllWithin (e ∷ [])
alone e h = All-cons IsStepWithin e [] h (All-nil IsStepWithin)

repeated_within : (n : ℕ) (steps : Steps) → AllWithin steps → AllWithin (repeated n steps)
repeated_within zero steps h = All-nil IsStepWithin
repeated_within (suc n) steps h = All-append IsStepWithin steps (repeated n steps) h (repeated_within n steps h)

-- the limits that a derivation tells
pub number_within : (smallest greatest n : ℕ) (t u : Marks) → Number smallest greatest n t u → (smallest ≤ n) × (n ≤ greatest)
number_within smallest greatest n _ u (number d more enough within) = (enough, within)

least_within : (w : ℕ) (m : Option ℕ) (t u : Marks) → Least w m t u → IsLeastWithin w m
least_within w _ t _ no_least = tt
least_within w _ _ u (least {m = m} {t = t} n) = (number_within _ _ m t u n).1

integer_within : (x : Radix) (w : ℕ) (m : Option ℕ) → w ≤ 65536 → IsLeastWithin w m → IsEditWithin (integer_edit x w m)
integer_within Two w m small l = (inl refl, small, l)
integer_within Eight w m small l = (inr (inl refl), small, l)
integer_within Ten w m small l = (small, l)
integer_within Sixteen w m small l = (inr (inr refl), small, l)

width_within : (w : Option ℕ) (t u : Marks) → Width w t u → IsEditWithin (Chars w)
width_within _ t _ no_width = tt
width_within _ t u (width {w = w} n) = number_within 1 65536 w t u n

field_within : (r : ℕ) (e : Edit) → IsEditWithin e → AllWithin (written_out (item.Field r e))
field_within r e h = subst AllWithin (sym (written_out-Field r e)) (repeated_within r (edit e ∷ []) (alone (edit e) h))

moved_within : (direction : Tabbing) (n : ℕ) → IsPositive n → AllWithin (written_out (moved direction n))
moved_within To n h = subst AllWithin (sym (written_out-Tab n)) (alone (step.tab n) h)
moved_within Left n h = subst AllWithin (sym (written_out-Left n)) (alone (step.left n) h)
moved_within Right n h = subst AllWithin (sym (written_out-Right n)) (alone (step.right n) h)

mutual
  item_within : (d : ℕ) (x : FormatItem) (free : Bool) (t u : Marks) → Item d x free t u → AllWithin (written_out x)
  item_within d x free t u (plain b) = body_within d None x free t u (lit≤ tt) (lit≤ tt) b
  item_within d x free _ u (counted {r = r} {s = s} {t = t} n b) =
      body_within d (Some r) x free t u (number_within 1 65536 r s t n).0 (number_within 1 65536 r s t n).1 b

  body_within : (d : ℕ) (k : Option ℕ) (x : FormatItem) (free : Bool) (t u : Marks) → 1 ≤ times k → times k ≤ 65536 → Body d k x free t u → AllWithin (written_out x)
  body_within d k _ _ _ u p q (integer {w = w} {m = m} {s = s} {t = t} x n l) =
      field_within (times k) (integer_edit x w m) (integer_within x w m (number_within 0 65536 w s t n).1 (least_within w m t u l))
  body_within d k _ _ _ u p q (logical {w = w} {t = t} n) = field_within (times k) (Log w) (number_within 1 65536 w t u n)
  body_within d k _ _ _ u p q (characters {w = w} {t = t} n) = field_within (times k) (Chars w) (width_within w t u n)
  body_within d k _ _ _ u p q (general {w = w} {n = n} {r = r} {s = s} {t = t} a b e) =
      field_within (times k) (General w n) (inl (number_within 1 65536 w r (symbol Point ∷ s) a, (number_within 0 65536 n s t b).1))
  body_within d k _ _ _ u p q (general_alone n) = field_within (times k) (General 0 0) (inr (refl, refl))
  body_within d _ _ _ _ u p q (tab {n = n} {t = t} direction turns a) = moved_within direction n (number_within 1 65536 n t u a)
  body_within d k _ _ _ u p q skip = subst AllWithin (sym (written_out-Skip (times k))) (alone (step.right (times k)) (p, q))
  body_within d k _ _ _ u p q slash = subst AllWithin (sym (written_out-Slash (times k))) (repeated_within (times k) (step.slash ∷ []) (alone step.slash tt))
  body_within d _ _ _ _ u p q colon = subst AllWithin (sym written_out-Colon) (alone step.colon tt)
  body_within d _ _ _ _ u p q (sign_mode {m = m} a) = subst AllWithin (sym (written_out-Mode m)) (alone (step.mode m) tt)
  body_within d _ _ _ _ u p q (blank_mode {m = m} a) = subst AllWithin (sym (written_out-Mode m)) (alone (step.mode m) tt)
  body_within d _ _ _ _ u p q (decimal_mode {m = m} a) = subst AllWithin (sym (written_out-Mode m)) (alone (step.mode m) tt)
  body_within d _ _ _ _ u p q (quoted s) = subst AllWithin (sym (written_out-Str s)) (alone (step.string s) tt)
  body_within d k _ _ _ u p q (group {inner = inner} {t = t} deep i) =
      subst AllWithin (sym (written_out-Group (times k) inner)) (repeated_within (times k) (pass inner) (items_within (suc d) inner t (symbol Close ∷ u) i))

  items_within : (d : ℕ) (xs : List FormatItem) (t u : Marks) → Items d xs t u → AllWithin (pass xs)
  items_within d _ s u (items {x = x} {free = free} {more = more} {t = t} i m) =
      All-append IsStepWithin (written_out x) (pass more) (item_within d x free s t i) (more_within d free more t u m)
  items_within d _ _ u (unlimited {inner = inner} {t = t} top i there) =
      All-append IsStepWithin (written_out (item.Unlimited inner)) [] (subst AllWithin (sym (written_out-Unlimited inner)) (items_within (suc d) inner t (symbol Close ∷ u) i)) (All-nil IsStepWithin)

  more_within : (d : ℕ) (before : Bool) (xs : List FormatItem) (t u : Marks) → More d before xs t u → AllWithin (pass xs)
  more_within d before _ _ u none = All-nil IsStepWithin
  more_within d before xs s u (some {t = t} p i) = items_within d xs t u i

pub format_within : (xs : List FormatItem) (t : Marks) → IsFormatOf xs t → All IsStepWithin (pass xs)
format_within _ _ empty = All-nil IsStepWithin
format_within xs _ (format {t = t} {u = u} i) = items_within 1 xs t (symbol Close ∷ u) i
