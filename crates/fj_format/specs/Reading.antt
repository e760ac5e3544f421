-- The reader, one symbol at a time.
use Rattle.std.specs.Prelude.{ℕ, ◌≡◌, ◌+◌, ◌*◌, Bool, true, false, nat_le, nat_lt, if◌then◌else◌, List, [], ◌∷◌, ◌++◌, length, ◌==◌, Option, Some, None, Result, IfOk}
use Rattle.fj_value.specs.declared.edit.Edit.TheVariants.{Log, Chars, General}
use Rattle.fj_format.specs.declared.item.ModeStep.TheVariants as step
use Rattle.fj_format.specs.declared.item.FormatItem.{FormatItem}
use Rattle.fj_format.specs.declared.item.FormatItem.TheVariants as item
use Rattle.fj_format.specs.declared.level.Level.{Level}
use Rattle.fj_format.specs.declared.reader.Reader.{Reader}
use Rattle.fj_format.specs.declared.place.Radix.TheVariants.{Two, Eight, Ten, Sixteen}
use Rattle.fj_format.specs.declared.place.FieldKind.{FieldKind}
use Rattle.fj_format.specs.declared.place.FieldKind.TheVariants.{Integer, Logical, Characters, Generalized}
use Rattle.fj_format.specs.declared.place.Tabbing.TheVariants.{To, Left, Right}
use Rattle.fj_format.specs.declared.place.Purpose.{Purpose}
use Rattle.fj_format.specs.declared.place.Purpose.TheVariants.{Count, Width, LeastDigits, Decimals, ExponentDigits, Tabs}
use Rattle.fj_format.specs.declared.place.FormatPlace.{FormatPlace}
use Rattle.fj_format.specs.declared.place.FormatPlace.TheVariants.{Begin, Opened, Wanted, Behind, First, More, SignLetter, DecimalLetter, Starred, Closing, Done}
use Rattle.fj_format.specs.declared.symbol.Letter.{Letter}
use Rattle.fj_format.specs.declared.symbol.Letter.TheVariants.{A, B, C, D, E, G, I, L, N, O, P, R, S, T, X, Z}
use Rattle.fj_format.specs.declared.symbol.Symbol.{Symbol}
use Rattle.fj_format.specs.declared.symbol.Symbol.TheVariants.{Digit, Open, Close, Comma, Point, Slash, Colon, Star}
use Rattle.fj_format.specs.declared.symbol.Symbol.TheVariants as symbol
use Rattle.fj_format.specs.Unfolding.{pass, has_data}
use Rattle.fj_format.specs.Grammar.{times, integer_edit, moved, most}

-- the numbers that may stand for a purpose
abbrev pub smallest : Purpose → ℕ
smallest (Width k (Integer x)) = 0
smallest (Width k Generalized) = 0
smallest (LeastDigits r x w) = 0
smallest (Decimals r w) = 0
smallest _ = 1

abbrev pub greatest : Purpose → ℕ
greatest (LeastDigits r x w) = most w
greatest _ = 65536

abbrev pub at : List Level → List FormatItem → FormatPlace → Option Reader
at ls xs p = Some (record { levels = ls; items = xs; place = p })

-- what stands without a count alone
abbrev pub alone : Option ℕ → Option Reader → Option Reader
alone None s = s
alone (Some r) s = None

-- a number with this value so far
abbrev pub grown : Purpose → ℕ → List Level → List FormatItem → Option Reader
grown p n ls xs = if nat_le n (greatest p) then at ls xs (More p n) else None

-- inner parentheses; those of the unlimited item have no count
abbrev pub nested : List Level → List FormatItem → Option ℕ → Option Reader
nested ls xs r = at (record { r = r; items = xs } ∷ ls) [] Wanted

abbrev pub opens : List Level → List FormatItem → ℕ → Option Reader
opens ls xs r = if nat_lt (length ls) 31 then nested ls xs (Some r) else None

-- the star of the unlimited item, which stands in the outermost parentheses alone
abbrev pub stars : List Level → List FormatItem → Option Reader
stars ls xs = if length ls == 0 then at ls xs Starred else None

abbrev pub starred : List Level → List FormatItem → Symbol → Option Reader
starred ls xs Open = nested ls xs None
starred ls xs _ = None

-- the inner items have ended, behind those round them
abbrev pub closed_as : Option ℕ → List Level → List FormatItem → List FormatItem → Option Reader
closed_as (Some r) ls xs inner = at ls (xs ++ item.Group r inner ∷ []) (Behind false)
closed_as None ls xs inner = if has_data (pass inner) then at ls (xs ++ item.Unlimited inner ∷ []) Closing else None

abbrev pub closed : List Level → List FormatItem → Option Reader
closed [] xs = at [] xs Done
closed (l ∷ ls) xs = closed_as l.r ls l.items xs

-- behind the unlimited item
abbrev pub closing : List Level → List FormatItem → Symbol → Option Reader
closing ls xs Close = at ls xs Done
closing ls xs _ = None

-- a letter begins an item behind its count
abbrev pub by_letter : List Level → List FormatItem → Option ℕ → Letter → Option Reader
by_letter ls xs k A = at ls xs (First (Width k Characters))
by_letter ls xs k B = at ls xs (First (Width k (Integer Two)))
by_letter ls xs k D = alone k (at ls xs DecimalLetter)
by_letter ls xs k G = at ls xs (First (Width k Generalized))
by_letter ls xs k I = at ls xs (First (Width k (Integer Ten)))
by_letter ls xs k L = at ls xs (First (Width k Logical))
by_letter ls xs k O = at ls xs (First (Width k (Integer Eight)))
by_letter ls xs k S = alone k (at ls xs SignLetter)
by_letter ls xs k T = alone k (at ls xs (First (Tabs To)))
by_letter ls xs k X = at ls (xs ++ item.Skip (times k) ∷ []) (Behind false)
by_letter ls xs k Z = at ls xs (First (Width k (Integer Sixteen)))
by_letter ls xs k _ = None

-- an item has to come, behind its count
abbrev pub body : List Level → List FormatItem → Option ℕ → Symbol → Option Reader
body ls xs k (symbol.Letter letter) = by_letter ls xs k letter
body ls xs k Slash = at ls (xs ++ item.Slash (times k) ∷ []) (Behind true)
body ls xs k Open = opens ls xs (times k)
body ls xs k Colon = alone k (at ls (xs ++ item.Colon ∷ []) (Behind true))
body ls xs k _ = None

-- an item has to come
abbrev pub start : List Level → List FormatItem → Symbol → Option Reader
start ls xs (Digit d) = grown Count d ls xs
start ls xs Star = stars ls xs
start ls xs s = body ls xs None s

-- an item has ended; the Bool says that it is a slash or a colon
abbrev pub between : Bool → List Level → List FormatItem → Symbol → Option Reader
between free ls xs Comma = at ls xs Wanted
between free ls xs Close = closed ls xs
between free ls xs Slash = body ls xs None Slash
between free ls xs Colon = body ls xs None Colon
between free ls xs s = if free then start ls xs s else None

-- this item has ended before the symbol
abbrev pub ended : List Level → List FormatItem → FormatItem → Symbol → Option Reader
ended ls xs x s = between false ls (xs ++ x ∷ []) s

abbrev pub decimals_at : ℕ → ℕ → List Level → List FormatItem → Symbol → Option Reader
decimals_at r w ls xs Point = at ls xs (First (Decimals r w))
decimals_at r w ls xs _ = None

-- behind the width of G: d, or behind 0 nothing
abbrev pub behind_general : ℕ → ℕ → List Level → List FormatItem → Symbol → Option Reader
behind_general r w ls xs s = if w == 0 then ended ls xs (item.Field r (General w 0)) s else decimals_at r w ls xs s

-- behind a width
abbrev pub behind_width : Option ℕ → FieldKind → ℕ → List Level → List FormatItem → Symbol → Option Reader
behind_width k (Integer x) w ls xs Point = at ls xs (First (LeastDigits (times k) x w))
behind_width k (Integer x) w ls xs s = ended ls xs (item.Field (times k) (integer_edit x w None)) s
behind_width k Logical w ls xs s = ended ls xs (item.Field (times k) (Log w)) s
behind_width k Characters w ls xs s = ended ls xs (item.Field (times k) (Chars (Some w))) s
behind_width k Generalized w ls xs s = behind_general (times k) w ls xs s

-- behind Gw.d
abbrev pub behind_decimals : ℕ → ℕ → ℕ → List Level → List FormatItem → Symbol → Option Reader
behind_decimals r w d ls xs (symbol.Letter E) = at ls xs (First (ExponentDigits r w d))
behind_decimals r w d ls xs s = ended ls xs (item.Field r (General w d)) s

-- behind a number
abbrev pub behind : Purpose → ℕ → List Level → List FormatItem → Symbol → Option Reader
behind Count n ls xs s = body ls xs (Some n) s
behind (Width k kind) n ls xs s = behind_width k kind n ls xs s
behind (LeastDigits r x w) n ls xs s = ended ls xs (item.Field r (integer_edit x w (Some n))) s
behind (Decimals r w) n ls xs s = behind_decimals r w n ls xs s
behind (ExponentDigits r w d) n ls xs s = ended ls xs (item.Field r (General w d)) s
behind (Tabs direction) n ls xs s = ended ls xs (moved direction n) s

abbrev pub blank_letter : List Level → List FormatItem → Symbol → Option Reader
blank_letter ls xs (symbol.Letter N) = at ls (xs ++ item.Mode step.BlankNull ∷ []) (Behind false)
blank_letter ls xs (symbol.Letter Z) = at ls (xs ++ item.Mode step.BlankZero ∷ []) (Behind false)
blank_letter ls xs _ = None

abbrev pub tab_letter : List Level → List FormatItem → Symbol → Option Reader
tab_letter ls xs (symbol.Letter L) = at ls xs (First (Tabs Left))
tab_letter ls xs (symbol.Letter R) = at ls xs (First (Tabs Right))
tab_letter ls xs _ = None

-- what may stand in place of a width
abbrev pub instead_of_width : FieldKind → Option ℕ → List Level → List FormatItem → Symbol → Option Reader
instead_of_width Characters k ls xs s = ended ls xs (item.Field (times k) (Chars None)) s
instead_of_width (Integer Two) k ls xs s = alone k (blank_letter ls xs s)
instead_of_width _ k ls xs s = None

-- what may stand in place of a number
abbrev pub instead : Purpose → List Level → List FormatItem → Symbol → Option Reader
instead (Width k kind) ls xs s = instead_of_width kind k ls xs s
instead (Tabs To) ls xs s = tab_letter ls xs s
instead _ ls xs s = None

abbrev pub sign_letter : List Level → List FormatItem → Symbol → Option Reader
sign_letter ls xs (symbol.Letter P) = at ls (xs ++ item.Mode step.Plus ∷ []) (Behind false)
sign_letter ls xs (symbol.Letter S) = at ls (xs ++ item.Mode step.Suppress ∷ []) (Behind false)
sign_letter ls xs s = ended ls xs (item.Mode step.Usual) s

abbrev pub decimal_letter : List Level → List FormatItem → Symbol → Option Reader
decimal_letter ls xs (symbol.Letter C) = at ls (xs ++ item.Mode step.Comma ∷ []) (Behind false)
decimal_letter ls xs (symbol.Letter P) = at ls (xs ++ item.Mode step.Point ∷ []) (Behind false)
decimal_letter ls xs _ = None

abbrev pub next_at : FormatPlace → List Level → List FormatItem → Symbol → Option Reader
next_at Begin ls xs Open = at ls xs Opened
next_at Begin ls xs _ = None
next_at Opened ls xs Close = at ls xs Done
next_at Opened ls xs s = start ls xs s
next_at Wanted ls xs s = start ls xs s
next_at (Behind free) ls xs s = between free ls xs s
next_at (First p) ls xs (Digit d) = grown p d ls xs
next_at (First p) ls xs s = instead p ls xs s
next_at (More p n) ls xs (Digit d) = grown p (10 * n + d) ls xs
next_at (More p n) ls xs s = if nat_lt n (smallest p) then None else behind p n ls xs s
next_at SignLetter ls xs s = sign_letter ls xs s
next_at DecimalLetter ls xs s = decimal_letter ls xs s
next_at Starred ls xs s = starred ls xs s
next_at Closing ls xs s = closing ls xs s
next_at Done ls xs s = None

-- the reader behind one more symbol, or none where no format goes on so
unfoldable pub next : Reader → Symbol → Option Reader
next reader s = next_at reader.place reader.levels reader.items s

-- whether a string may come
abbrev pub takes_text : FormatPlace → Bool
takes_text Opened = true
takes_text Wanted = true
takes_text (Behind free) = free
takes_text _ = false

abbrev pub next_text_at : FormatPlace → List Level → List FormatItem → List ℕ → Option Reader
next_text_at p ls xs s = if takes_text p then at ls (xs ++ item.Str s ∷ []) (Behind false) else None

-- the reader behind a string
abbrev pub next_text : Reader → List ℕ → Option Reader
next_text reader s = next_text_at reader.place reader.levels reader.items s

-- what a call says that it did: what was wanted, or that there is nothing
abbrev pub Answers : {X : Type 0} → Option X → Bool → X → Type 0
Answers None ok new = ok ≡ false
Answers (Some x) ok new = (ok ≡ true) × (new ≡ x)

-- the same, unless it failed
abbrev pub Takes : {X E : Type 0} → Result Bool E → Option X → X → Type 0
Takes result wanted new = IfOk result (λ ok. Answers wanted ok new)
