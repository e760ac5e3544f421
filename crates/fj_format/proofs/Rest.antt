-- What is left to be read of a format, from each place of the reader.
use Rattle.std.proofs.Common.{ℕ, suc, ◌≡◌, ◌≤◌, Bool, true, false, List, [], ◌∷◌, ◌++◌, length, Option, Some, None, ◌⊎◌}
use Rattle.fj_value.specs.declared.edit.Edit.TheVariants.{Log, Chars, General}
use Rattle.fj_format.specs.declared.item.ModeStep.{ModeStep}
use Rattle.fj_format.specs.declared.item.FormatItem.{FormatItem}
use Rattle.fj_format.specs.declared.item.FormatItem.TheVariants as item
use Rattle.fj_format.specs.declared.level.Level.{Level}
use Rattle.fj_format.specs.declared.reader.Reader.{Reader}
use Rattle.fj_format.specs.declared.place.Radix.{Radix}
use Rattle.fj_format.specs.declared.place.Radix.TheVariants.{Two}
use Rattle.fj_format.specs.declared.place.FieldKind.{FieldKind}
use Rattle.fj_format.specs.declared.place.FieldKind.TheVariants.{Integer, Logical, Characters, Generalized}
use Rattle.fj_format.specs.declared.place.Tabbing.{Tabbing}
use Rattle.fj_format.specs.declared.place.Tabbing.TheVariants.{To}
use Rattle.fj_format.specs.declared.place.Purpose.{Purpose}
use Rattle.fj_format.specs.declared.place.Purpose.TheVariants as purpose
use Rattle.fj_format.specs.declared.place.FormatPlace.{FormatPlace}
use Rattle.fj_format.specs.declared.place.FormatPlace.TheVariants as place
use Rattle.fj_format.specs.declared.symbol.Symbol.TheVariants.{Open, Close, Point}
use Rattle.fj_format.specs.Marks.{Mark, Marks, symbol}
use Rattle.fj_format.specs.Grammar.{Digits, Number, times, integer_edit, moved, Least, Exponent, Sign, Blank, Decimal, Turn, Body, Items, More}
use Rattle.fj_format.specs.Unfolding.{pass, has_data}
use Rattle.fj_format.specs.Reading.{smallest, greatest}

abbrev pub Ends : List FormatItem → Marks → List FormatItem → Type 0
Ends xs t f = (u : Marks) × (t ≡ symbol Close ∷ u) × (f ≡ xs)

-- behind the parenthesis that ends inner items, which stand behind others; without a count they are the unlimited item
abbrev pub ClosesBy : (List FormatItem → Marks → Type 0) → ℕ → Option ℕ → List FormatItem → List FormatItem → Marks → List FormatItem → Type 0
ClosesBy closes d (Some r) before xs t f =
    (more : List FormatItem) × (v : Marks) × More d false more t (symbol Close ∷ v) × closes ((before ++ item.Group r xs ∷ []) ++ more) v
ClosesBy closes d None before xs t f = (has_data (pass xs) ≡ true) × Ends (before ++ item.Unlimited xs ∷ []) t f

-- behind the parenthesis that ends the innermost items, to the end of the format
abbrev pub Closes : List Level → List FormatItem → Marks → List FormatItem → Type 0
Closes [] xs t f = f ≡ xs
Closes (l ∷ ls) xs t f = ClosesBy (λ ys v. Closes ls ys v f) (suc (length ls)) l.r l.items xs t f

abbrev pub ClosesAs : Option ℕ → List Level → List FormatItem → List FormatItem → Marks → List FormatItem → Type 0
ClosesAs r ls before xs t f = ClosesBy (λ ys v. Closes ls ys v f) (suc (length ls)) r before xs t f

-- behind an item
pub record After (ls : List Level) (xs : List FormatItem) (before : Bool) (t : Marks) (f : List FormatItem) : Type 0 where
  pub more : List FormatItem
  pub rest : Marks
  pub reads : More (suc (length ls)) before more t (symbol Close ∷ rest)
  pub closes : Closes ls (xs ++ more) rest f

-- an item has to come
pub record Want (ls : List Level) (xs : List FormatItem) (t : Marks) (f : List FormatItem) : Type 0 where
  pub items : List FormatItem
  pub rest : Marks
  pub reads : Items (suc (length ls)) items t (symbol Close ∷ rest)
  pub closes : Closes ls (xs ++ items) rest f

-- an item has to come, behind its count
pub record WantBody (ls : List Level) (xs : List FormatItem) (k : Option ℕ) (t : Marks) (f : List FormatItem) : Type 0 where
  pub item : FormatItem
  pub free : Bool
  pub rest : Marks
  pub reads : Body (suc (length ls)) k item free t rest
  pub after : After ls (xs ++ item ∷ []) free rest f

-- behind the width of I, B, O or Z
pub record BehindInteger (k : Option ℕ) (x : Radix) (w : ℕ) (ls : List Level) (xs : List FormatItem) (t : Marks) (f : List FormatItem) : Type 0 where
  pub m : Option ℕ
  pub rest : Marks
  pub reads : Least w m t rest
  pub after : After ls (xs ++ item.Field (times k) (integer_edit x w m) ∷ []) false rest f

-- behind the width of G
pub record BehindGeneral (k : Option ℕ) (w : ℕ) (ls : List Level) (xs : List FormatItem) (t : Marks) (f : List FormatItem) : Type 0 where
  pub d : ℕ
  pub digits : Marks
  pub letter : Marks
  pub rest : Marks
  pub point : t ≡ symbol Point ∷ digits
  pub reads : Number 0 65536 d digits letter
  pub exponent : Exponent letter rest
  pub after : After ls (xs ++ item.Field (times k) (General w d) ∷ []) false rest f

-- behind Gw.d
pub record BehindDecimals (r w d : ℕ) (ls : List Level) (xs : List FormatItem) (t : Marks) (f : List FormatItem) : Type 0 where
  pub rest : Marks
  pub exponent : Exponent t rest
  pub after : After ls (xs ++ item.Field r (General w d) ∷ []) false rest f

abbrev pub BehindWidth : FieldKind → Option ℕ → ℕ → List Level → List FormatItem → Marks → List FormatItem → Type 0
BehindWidth (Integer x) k w ls xs t f = BehindInteger k x w ls xs t f
BehindWidth Logical k w ls xs t f = After ls (xs ++ item.Field (times k) (Log w) ∷ []) false t f
BehindWidth Characters k w ls xs t f = After ls (xs ++ item.Field (times k) (Chars (Some w)) ∷ []) false t f
BehindWidth Generalized k w ls xs t f = ((1 ≤ w) × BehindGeneral k w ls xs t f) ⊎ ((w ≡ 0) × After ls (xs ++ item.Field (times k) (General w 0) ∷ []) false t f)

-- behind the star
pub record InStar (ls : List Level) (xs : List FormatItem) (t : Marks) (f : List FormatItem) : Type 0 where
  pub inner : List FormatItem
  pub start : Marks
  pub rest : Marks
  pub opens : t ≡ symbol Open ∷ start
  pub reads : Items (suc (suc (length ls))) inner start (symbol Close ∷ symbol Close ∷ rest)
  pub data_there : has_data (pass inner) ≡ true
  pub is : f ≡ xs ++ item.Unlimited inner ∷ []

-- behind a number
abbrev pub BehindNumber : Purpose → ℕ → List Level → List FormatItem → Marks → List FormatItem → Type 0
BehindNumber purpose.Count n ls xs t f = WantBody ls xs (Some n) t f
BehindNumber (purpose.Width k kind) n ls xs t f = BehindWidth kind k n ls xs t f
BehindNumber (purpose.LeastDigits r x w) n ls xs t f = After ls (xs ++ item.Field r (integer_edit x w (Some n)) ∷ []) false t f
BehindNumber (purpose.Decimals r w) n ls xs t f = BehindDecimals r w n ls xs t f
BehindNumber (purpose.ExponentDigits r w d) n ls xs t f = After ls (xs ++ item.Field r (General w d) ∷ []) false t f
BehindNumber (purpose.Tabs direction) n ls xs t f = After ls (xs ++ moved direction n ∷ []) false t f

-- behind the first digits of a number
pub record InDigits (p : Purpose) (n : ℕ) (ls : List Level) (xs : List FormatItem) (t : Marks) (f : List FormatItem) : Type 0 where
  pub value : ℕ
  pub rest : Marks
  pub reads : Digits n value t rest
  pub enough : smallest p ≤ value
  pub within : value ≤ greatest p
  pub behind : BehindNumber p value ls xs rest f

-- a number has to come
pub record InNumber (p : Purpose) (ls : List Level) (xs : List FormatItem) (t : Marks) (f : List FormatItem) : Type 0 where
  pub value : ℕ
  pub rest : Marks
  pub reads : Number (smallest p) (greatest p) value t rest
  pub behind : BehindNumber p value ls xs rest f

-- behind the first letter of BN or BZ
pub record InBlank (ls : List Level) (xs : List FormatItem) (t : Marks) (f : List FormatItem) : Type 0 where
  pub mode : ModeStep
  pub rest : Marks
  pub reads : Blank mode t rest
  pub after : After ls (xs ++ item.Mode mode ∷ []) false rest f

-- behind the first letter of S, SP or SS
pub record InSign (ls : List Level) (xs : List FormatItem) (t : Marks) (f : List FormatItem) : Type 0 where
  pub mode : ModeStep
  pub rest : Marks
  pub reads : Sign mode t rest
  pub after : After ls (xs ++ item.Mode mode ∷ []) false rest f

-- behind the first letter of DC or DP
pub record InDecimal (ls : List Level) (xs : List FormatItem) (t : Marks) (f : List FormatItem) : Type 0 where
  pub mode : ModeStep
  pub rest : Marks
  pub reads : Decimal mode t rest
  pub after : After ls (xs ++ item.Mode mode ∷ []) false rest f

-- behind the first letter of T, TL or TR
pub record InTurn (ls : List Level) (xs : List FormatItem) (t : Marks) (f : List FormatItem) : Type 0 where
  pub direction : Tabbing
  pub digits : Marks
  pub turns : Turn direction t digits
  pub number : InNumber (purpose.Tabs direction) ls xs digits f

abbrev pub AloneBlank : Option ℕ → List Level → List FormatItem → Marks → List FormatItem → Type 0
AloneBlank None ls xs t f = InBlank ls xs t f
AloneBlank (Some r) ls xs t f = ⊥

abbrev pub InsteadOfWidth : FieldKind → Option ℕ → List Level → List FormatItem → Marks → List FormatItem → Type 0
InsteadOfWidth Characters k ls xs t f = After ls (xs ++ item.Field (times k) (Chars None) ∷ []) false t f
InsteadOfWidth (Integer Two) k ls xs t f = AloneBlank k ls xs t f
InsteadOfWidth _ k ls xs t f = ⊥

-- what may stand in place of a number
abbrev pub Instead : Purpose → List Level → List FormatItem → Marks → List FormatItem → Type 0
Instead (purpose.Width k kind) ls xs t f = InsteadOfWidth kind k ls xs t f
Instead (purpose.Tabs To) ls xs t f = InTurn ls xs t f
Instead _ ls xs t f = ⊥

-- what is left to be read, and the format that it gives
abbrev pub Rest : FormatPlace → List Level → List FormatItem → Marks → List FormatItem → Type 0
Rest place.Begin ls xs t f = (t' : Marks) × (t ≡ symbol Open ∷ t') × (Ends xs t' f ⊎ Want ls xs t' f)
Rest place.Opened ls xs t f = Ends xs t f ⊎ Want ls xs t f
Rest place.Wanted ls xs t f = Want ls xs t f
Rest (place.Behind free) ls xs t f = After ls xs free t f
Rest (place.First p) ls xs t f = InNumber p ls xs t f ⊎ Instead p ls xs t f
Rest (place.More p n) ls xs t f = InDigits p n ls xs t f
Rest place.SignLetter ls xs t f = InSign ls xs t f
Rest place.DecimalLetter ls xs t f = InDecimal ls xs t f
Rest place.Starred ls xs t f = InStar ls xs t f
Rest place.Closing ls xs t f = Ends xs t f
Rest place.Done ls xs t f = f ≡ xs

abbrev pub Moves : Option Reader → Marks → List FormatItem → Type 0
Moves None t f = ⊥
Moves (Some s) t f = Rest s.place s.levels s.items t f

-- the first mark is taken
abbrev pub MovesOn : (Mark → Option Reader) → Marks → List FormatItem → Type 0
MovesOn next [] f = ⊥
MovesOn next (m ∷ t) f = Moves (next m) t f
