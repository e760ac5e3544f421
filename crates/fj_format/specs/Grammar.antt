-- The grammar of formats (ISO/IEC 1539-1:2004, 10.1 and 10.2; G0 and the unlimited item: ISO/IEC 1539-1:2010, 10.3), as a relation between a text and a list of items. Each
-- rule leads from a list of marks to what is left of it.
use Rattle.std.specs.Prelude.{ℕ, suc, ◌+◌, ◌*◌, ◌≡◌, ◌<◌, ◌≤◌, Bool, true, false, if◌then◌else◌, ◌==◌, List, [], ◌∷◌, ◌++◌, Option, Some, None}
use Rattle.fj_value.specs.declared.edit.Edit.{Edit}
use Rattle.fj_value.specs.declared.edit.Edit.TheVariants.{Int, Bits, Log, Chars, General}
use Rattle.fj_format.specs.declared.item.ModeStep.{ModeStep}
use Rattle.fj_format.specs.declared.item.ModeStep.TheVariants as step
use Rattle.fj_format.specs.declared.item.FormatItem.{FormatItem}
use Rattle.fj_format.specs.declared.item.FormatItem.TheVariants as item
use Rattle.fj_format.specs.declared.place.Radix.{Radix}
use Rattle.fj_format.specs.declared.place.Radix.TheVariants.{Two, Eight, Ten, Sixteen}
use Rattle.fj_format.specs.declared.place.Tabbing.{Tabbing}
use Rattle.fj_format.specs.declared.place.Tabbing.TheVariants.{To, Left, Right}
use Rattle.fj_format.specs.declared.symbol.Letter.{Letter}
use Rattle.fj_format.specs.declared.symbol.Letter.TheVariants.{A, B, C, D, E, G, I, L, N, O, P, R, S, T, X, Z}
use Rattle.fj_format.specs.declared.symbol.Symbol.TheVariants.{Digit, Open, Close, Comma, Point, Slash, Colon, Star}
use Rattle.fj_format.specs.declared.symbol.Symbol.TheVariants as symbol
use Rattle.fj_format.specs.Unfolding.{pass, has_data}
use Rattle.fj_format.specs.Marks.{Mark, Marks, symbol, string, outside}

abbrev pub letter : Letter → Mark
letter l = symbol (symbol.Letter l)

-- The numbers and the depth of parentheses have limits of this processor: 65,536 and 32.

-- the digits behind a number so far, and the whole number
pub data Digits : ℕ → ℕ → Marks → Marks → Type 0 where
  stop : {n : ℕ} {u : Marks} → Digits n n u u
  digit : {so_far n : ℕ} {t u : Marks} (d : ℕ) → Digits (10 * so_far + d) n t u → Digits so_far n (symbol (Digit d) ∷ t) u

-- a number from a smallest to a greatest one: one digit at least
pub data Number : ℕ → ℕ → ℕ → Marks → Marks → Type 0 where
  number : {smallest greatest n : ℕ} {t u : Marks} (d : ℕ) → Digits d n t u → smallest ≤ n → n ≤ greatest →
      Number smallest greatest n (symbol (Digit d) ∷ t) u

-- how often an item without a count stands
abbrev pub times : Option ℕ → ℕ
times None = 1
times (Some r) = r

-- I, B, O and Z
abbrev pub radix_letter : Radix → Letter
radix_letter Two = B
radix_letter Eight = O
radix_letter Ten = I
radix_letter Sixteen = Z

abbrev pub integer_edit : Radix → ℕ → Option ℕ → Edit
integer_edit Two w m = Bits 2 w m
integer_edit Eight w m = Bits 8 w m
integer_edit Ten w m = Int w m
integer_edit Sixteen w m = Bits 16 w m

-- the greatest m behind a width: the width, unless it is 0
abbrev pub most : ℕ → ℕ
most w = if w == 0 then 65536 else w

-- m behind a width, or nothing
pub data Least : ℕ → Option ℕ → Marks → Marks → Type 0 where
  no_least : {w : ℕ} {u : Marks} → Least w None u u
  least : {w m : ℕ} {t u : Marks} → Number 0 (most w) m t u → Least w (Some m) (symbol Point ∷ t) u

-- the width of A, or nothing
pub data Width : Option ℕ → Marks → Marks → Type 0 where
  no_width : {u : Marks} → Width None u u
  width : {w : ℕ} {t u : Marks} → Number 1 65536 w t u → Width (Some w) t u

-- Ee behind Gw.d, or nothing
pub data Exponent : Marks → Marks → Type 0 where
  no_exponent : {u : Marks} → Exponent u u
  exponent : {e : ℕ} {t u : Marks} → Number 1 65536 e t u → Exponent (letter E ∷ t) u

-- S, SP and SS behind the first letter
pub data Sign : ModeStep → Marks → Marks → Type 0 where
  sign_usual : {u : Marks} → Sign step.Usual u u
  sign_plus : {u : Marks} → Sign step.Plus (letter P ∷ u) u
  sign_suppress : {u : Marks} → Sign step.Suppress (letter S ∷ u) u

-- BN and BZ behind the first letter
pub data Blank : ModeStep → Marks → Marks → Type 0 where
  blank_null : {u : Marks} → Blank step.BlankNull (letter N ∷ u) u
  blank_zero : {u : Marks} → Blank step.BlankZero (letter Z ∷ u) u

-- DC and DP behind the first letter
pub data Decimal : ModeStep → Marks → Marks → Type 0 where
  decimal_comma : {u : Marks} → Decimal step.Comma (letter C ∷ u) u
  decimal_point : {u : Marks} → Decimal step.Point (letter P ∷ u) u

abbrev pub moved : Tabbing → ℕ → FormatItem
moved To n = item.Tab n
moved Left n = item.Left n
moved Right n = item.Right n

-- T, TL and TR behind the first letter
pub data Turn : Tabbing → Marks → Marks → Type 0 where
  turn_to : {u : Marks} → Turn To u u
  turn_left : {u : Marks} → Turn Left (letter L ∷ u) u
  turn_right : {u : Marks} → Turn Right (letter R ∷ u) u

-- A comma, which may be left out behind a slash or a colon, before a slash without a count, and
-- before a colon.
pub data Separator : Bool → Marks → Marks → Type 0 where
  comma : {before : Bool} {u : Marks} → Separator before (symbol Comma ∷ u) u
  behind_free : {u : Marks} → Separator true u u
  before_slash : {before : Bool} {u : Marks} → Separator before (symbol Slash ∷ u) (symbol Slash ∷ u)
  before_colon : {before : Bool} {u : Marks} → Separator before (symbol Colon ∷ u) (symbol Colon ∷ u)

-- The first number of each relation counts the open parentheses. The Bool of an item says that it is
-- a slash or a colon.
mutual
  -- one item
  pub data Item : ℕ → FormatItem → Bool → Marks → Marks → Type 0 where
    plain : {d : ℕ} {x : FormatItem} {free : Bool} {t u : Marks} → Body d None x free t u → Item d x free t u
    counted : {d r : ℕ} {x : FormatItem} {free : Bool} {s t u : Marks} → Number 1 65536 r s t → Body d (Some r) x free t u → Item d x free s u

  -- an item behind its count
  pub data Body : ℕ → Option ℕ → FormatItem → Bool → Marks → Marks → Type 0 where
    integer : {d w : ℕ} {k m : Option ℕ} {s t u : Marks} (x : Radix) → Number 0 65536 w s t → Least w m t u →
        Body d k (item.Field (times k) (integer_edit x w m)) false (letter (radix_letter x) ∷ s) u
    logical : {d w : ℕ} {k : Option ℕ} {t u : Marks} → Number 1 65536 w t u → Body d k (item.Field (times k) (Log w)) false (letter L ∷ t) u
    characters : {d : ℕ} {k w : Option ℕ} {t u : Marks} → Width w t u → Body d k (item.Field (times k) (Chars w)) false (letter A ∷ t) u
    general : {d w n : ℕ} {k : Option ℕ} {r s t u : Marks} → Number 1 65536 w r (symbol Point ∷ s) → Number 0 65536 n s t → Exponent t u →
        Body d k (item.Field (times k) (General w n)) false (letter G ∷ r) u
    general_alone : {d : ℕ} {k : Option ℕ} {t u : Marks} → Number 0 0 0 t u → Body d k (item.Field (times k) (General 0 0)) false (letter G ∷ t) u
    tab : {d n : ℕ} {s t u : Marks} (direction : Tabbing) → Turn direction s t → Number 1 65536 n t u →
        Body d None (moved direction n) false (letter T ∷ s) u
    skip : {d : ℕ} {k : Option ℕ} {u : Marks} → Body d k (item.Skip (times k)) false (letter X ∷ u) u
    slash : {d : ℕ} {k : Option ℕ} {u : Marks} → Body d k (item.Slash (times k)) true (symbol Slash ∷ u) u
    colon : {d : ℕ} {u : Marks} → Body d None item.Colon true (symbol Colon ∷ u) u
    sign_mode : {d : ℕ} {m : ModeStep} {t u : Marks} → Sign m t u → Body d None (item.Mode m) false (letter S ∷ t) u
    blank_mode : {d : ℕ} {m : ModeStep} {t u : Marks} → Blank m t u → Body d None (item.Mode m) false (letter B ∷ t) u
    decimal_mode : {d : ℕ} {m : ModeStep} {t u : Marks} → Decimal m t u → Body d None (item.Mode m) false (letter D ∷ t) u
    quoted : {d : ℕ} {u : Marks} (s : List ℕ) → Body d None (item.Str s) false (string s ∷ u) u
    group : {d : ℕ} {k : Option ℕ} {inner : List FormatItem} {t u : Marks} → d < 32 → Items (suc d) inner t (symbol Close ∷ u) →
        Body d k (item.Group (times k) inner) false (symbol Open ∷ t) u

  -- One item and more. The unlimited item stands last in the outermost parentheses, and has a data edit descriptor.
  pub data Items : ℕ → List FormatItem → Marks → Marks → Type 0 where
    items : {d : ℕ} {x : FormatItem} {free : Bool} {more : List FormatItem} {s t u : Marks} →
        Item d x free s t → More d free more t u → Items d (x ∷ more) s u
    unlimited : {d : ℕ} {inner : List FormatItem} {t u : Marks} → d ≡ 1 → Items (suc d) inner t (symbol Close ∷ u) → has_data (pass inner) ≡ true →
        Items d (item.Unlimited inner ∷ []) (symbol Star ∷ symbol Open ∷ t) u

  -- the items behind an item
  pub data More : ℕ → Bool → List FormatItem → Marks → Marks → Type 0 where
    none : {d : ℕ} {before : Bool} {u : Marks} → More d before [] u u
    some : {d : ℕ} {before : Bool} {xs : List FormatItem} {s t u : Marks} → Separator before s t → Items d xs t u → More d before xs s u

-- A format: parentheses around items, or around nothing, and anything behind.
pub data IsFormatOf : List FormatItem → Marks → Type 0 where
  empty : {u : Marks} → IsFormatOf [] (symbol Open ∷ symbol Close ∷ u)
  format : {xs : List FormatItem} {t u : Marks} → Items 1 xs t (symbol Close ∷ u) → IsFormatOf xs (symbol Open ∷ t)

-- The text is a format with these items.
abbrev pub IsFormat : List ℕ → List FormatItem → Type 0
IsFormat text xs = IsFormatOf xs (outside text)

-- The text begins a format.
abbrev pub BeginsFormat : List ℕ → Type 0
BeginsFormat text = (rest : List ℕ) × (xs : List FormatItem) × IsFormat (text ++ rest) xs

-- A text is one format at most.
abbrev pub IsUnambiguous : Type 0
IsUnambiguous = (text : List ℕ) (f g : List FormatItem) → IsFormat text f → IsFormat text g → f ≡ g
