-- The grammar of list-directed input (ISO/IEC 1539-1:2004, 10.9.1), as a relation between records and the values that
-- stand in them. Each rule leads from characters with record ends to what is left of them.
use Rattle.std.specs.Prelude.{◌≡◌, ◌≢◌, ℕ, ◌^◌, ◌<◌, ◌⊎◌, Bool, true, false, List, [], ◌∷◌, ◌++◌, map, Option, Some, None}
use Rattle.fj_value.specs.Digits.{number_in}
use Rattle.fj_list.specs.declared.constant.Form.{Form}
use Rattle.fj_list.specs.declared.constant.Form.TheVariants.{Null, Undelimited, Delimited}
use Rattle.fj_list.specs.Stream.{Stream}

-- what stands for items: so many times a constant, or so many null values
pub record Given : Type 0 where
  pub count : ℕ
  pub form : Form
  pub characters : List ℕ

abbrev pub given : ℕ → Form → List ℕ → Given
given count form characters = record { count = count; form = form; characters = characters }

-- a comma, or under DECIMAL='COMMA' a semicolon
abbrev pub separator_of : Bool → ℕ
separator_of true = 59
separator_of false = 44

-- a blank, a tab (own) or the end of a record
abbrev pub IsBlank : Option ℕ → Type 0
IsBlank None = Unit {0}
IsBlank (Some c) = (c ≡ 32) ⊎ (c ≡ 9)

-- some of them, or none
pub data Blanks : Stream → Stream → Type 0 where
  no_blank : {s : Stream} → Blanks s s
  blank : {s t : Stream} (x : Option ℕ) → IsBlank x → Blanks s t → Blanks (x ∷ s) t

-- a character that is no blank, no separator and no slash
pub record IsOrdinary (comma : Bool) (c : ℕ) : Type 0 where
  pub blank : c ≢ 32
  pub tab : c ≢ 9
  pub separator : c ≢ separator_of comma
  pub slash : c ≢ 47

-- a blank, a separator or a slash, or nothing more
abbrev pub Ends : Bool → Stream → Type 0
Ends comma [] = Unit {0}
Ends comma (None ∷ s) = Unit {0}
Ends comma (Some c ∷ s) = (IsBlank (Some c) ⊎ (c ≡ separator_of comma)) ⊎ (c ≡ 47)

-- the characters of a constant without delimiters, up to what ends it
pub data Characters (comma : Bool) : List ℕ → Stream → Stream → Type 0 where
  ended : {s : Stream} → Ends comma s → Characters comma [] s s
  character : {cs : List ℕ} {s t : Stream} (c : ℕ) → IsOrdinary comma c → Characters comma cs s t → Characters comma (c ∷ cs) (Some c ∷ s) t

-- an apostrophe or a quotation mark
abbrev pub IsMark : ℕ → Type 0
IsMark c = (c ≡ 39) ⊎ (c ≡ 34)

abbrev pub NoMark : ℕ → Stream → Type 0
NoMark mark [] = Unit {0}
NoMark mark (None ∷ s) = Unit {0}
NoMark mark (Some c ∷ s) = c ≢ mark

-- The characters of a delimited constant behind its opening mark, and what follows the closing one, where there is one.
-- A doubled mark is one character, and the end of a record is none; it stands anywhere but inside a doubled mark.
pub data Delimiting (mark : ℕ) : List ℕ → Stream → Option Stream → Type 0 where
  unended : Delimiting mark [] [] None
  closing : {s : Stream} (c : ℕ) → c ≡ mark → NoMark mark s → Delimiting mark [] (Some c ∷ s) (Some s)
  doubled : {cs : List ℕ} {s : Stream} {t : Option Stream} (c d : ℕ) → c ≡ mark → d ≡ mark → Delimiting mark cs s t → Delimiting mark (mark ∷ cs) (Some c ∷ Some d ∷ s) t
  inside : {cs : List ℕ} {s : Stream} {t : Option Stream} (c : ℕ) → c ≢ mark → Delimiting mark cs s t → Delimiting mark (c ∷ cs) (Some c ∷ s) t
  record_end : {cs : List ℕ} {s : Stream} {t : Option Stream} → Delimiting mark cs s t → Delimiting mark cs (None ∷ s) t

-- a constant
pub data Constant (comma : Bool) : Form → List ℕ → Stream → Stream → Type 0 where
  plain : {cs : List ℕ} {s t : Stream} (c : ℕ) → (IsMark c → ⊥) → Characters comma (c ∷ cs) (Some c ∷ s) t → Constant comma Undelimited (c ∷ cs) (Some c ∷ s) t
  delimited : {cs : List ℕ} {s t : Stream} (mark : ℕ) → IsMark mark → Delimiting mark cs s (Some t) → Ends comma t → Constant comma Delimited cs (Some mark ∷ s) t

-- a repeat count and its asterisk
pub record Counts (r : ℕ) (s t : Stream) : Type 0 where
  pub digits : List ℕ
  pub number : number_in 10 digits ≡ Some r
  pub whole : s ≡ map (λ (c : ℕ). Some c) digits ++ Some 42 ∷ t

abbrev pub IsNotCounted : Stream → Type 0
IsNotCounted s = (r : ℕ) (t : Stream) → Counts r s t → ⊥

-- repeat counts have a limit of this processor
abbrev pub IsRepeat : ℕ → Type 0
IsRepeat r = (0 < r) × (r < 2 ^ 32)

-- a constant, so many times a constant, or so many null values
pub data Item (comma : Bool) : Given → Stream → Stream → Type 0 where
  once : {form : Form} {cs : List ℕ} {s t : Stream} → IsNotCounted s → Constant comma form cs s t → Item comma (given 1 form cs) s t
  repeated : {form : Form} {cs : List ℕ} {s u t : Stream} (r : ℕ) → Counts r s u → IsRepeat r → Constant comma form cs u t → Item comma (given r form cs) s t
  nulls : {s t : Stream} (r : ℕ) → Counts r s t → IsRepeat r → Ends comma t → Item comma (given r Null []) s t

-- how the values end: with the records, with a slash, or with characters that are no value
pub data Finish : Type 0 where
  at_records_end : Finish
  at_slash : Finish
  at_no_value : Finish

-- characters from a mark on that are no delimited constant
pub data Unclosed (comma : Bool) : Stream → Finish → Type 0 where
  unclosed : {cs : List ℕ} {s : Stream} (mark : ℕ) → IsMark mark → Delimiting mark cs s None → Unclosed comma (Some mark ∷ s) at_records_end
  text_behind : {cs : List ℕ} {s t : Stream} (mark : ℕ) → IsMark mark → Delimiting mark cs s (Some t) → (Ends comma t → ⊥) → Unclosed comma (Some mark ∷ s) at_no_value

-- characters that are no value: such ones, maybe behind a repeat count, or a count out of range
pub data Wrong (comma : Bool) : Stream → Finish → Type 0 where
  not_closed : {s : Stream} {f : Finish} → Unclosed comma s f → Wrong comma s f
  repeated_not_closed : {s t : Stream} {f : Finish} (r : ℕ) → Counts r s t → IsRepeat r → Unclosed comma t f → Wrong comma s f
  count_out_of_range : {s t : Stream} (r : ℕ) → Counts r s t → (IsRepeat r → ⊥) → Wrong comma s at_no_value

-- The values of a text, from where one may begin, or (false) from behind one. Blanks part values, and so does one
-- separator with blanks on both sides or not; a separator without a value before it makes a null value. A slash ends
-- the values.
pub data IsListText (comma : Bool) : Bool → Stream → List Given → Finish → Type 0 where
  records_end : {begins : Bool} {s : Stream} → Blanks s [] → IsListText comma begins s [] at_records_end
  slash : {begins : Bool} {s t : Stream} → Blanks s (Some 47 ∷ t) → IsListText comma begins s [] at_slash
  no_value : {begins : Bool} {s t : Stream} {f : Finish} → Blanks s t → Wrong comma t f → IsListText comma begins s [] f
  value : {begins : Bool} {s t u : Stream} {g : Given} {gs : List Given} {f : Finish} → Blanks s t → Item comma g t u → IsListText comma false u gs f → IsListText comma begins s (g ∷ gs) f
  separator : {s t : Stream} {gs : List Given} {f : Finish} (c : ℕ) → c ≡ separator_of comma → Blanks s (Some c ∷ t) → IsListText comma true t gs f → IsListText comma false s gs f
  null_value : {s t : Stream} {gs : List Given} {f : Finish} (c : ℕ) → c ≡ separator_of comma → Blanks s (Some c ∷ t) → IsListText comma true t gs f → IsListText comma true s (given 1 Null [] ∷ gs) f
