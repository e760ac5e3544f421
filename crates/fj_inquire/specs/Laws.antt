-- What holds of every answer of INQUIRE, in the words of OPEN and of the other statements (ISO/IEC 1539-1:2004, 9.9.1).
use Rattle.std.specs.Prelude.{◌≡◌, ℕ, ℤ, Bool, true, false, List, Option, Some}
use Rattle.fj_modes.specs.declared.asked.Question.TheVariants as question
use Rattle.fj_modes.specs.ModeWords.{Table, mode_of, access_words, action_words, delim_words, form_words, blank_words, decimal_words, sign_words, answer_words}
use Rattle.fj_connect.specs.declared.spot.Look.{Look}
use Rattle.fj_inquire.specs.declared.connected.Connected.{Connected}
use Rattle.fj_inquire.specs.Inquiring.{Answer, word, undefined, connected_answer}

-- the answer is a word that OPEN reads as this mode
abbrev pub IsRead : {M : Type 0} → Table M → Answer → M → Type 0
IsRead words answer mode = (w : List ℕ) × (answer ≡ word w) × (mode_of words w ≡ Some mode)

-- the same of a mode of formatted editing, where there is one
abbrev pub IsReadWhere : {M : Type 0} → Bool → Table M → Answer → M → Type 0
IsReadWhere true words answer mode = IsRead words answer mode
IsReadWhere false words answer mode = answer ≡ undefined

-- each word of a connection is one that OPEN would give the same mode by
pub record TellsModes (u : ℤ) (c : Connected) (look : Option Look) (pending : Bool) : Type 0 where
  pub access : IsRead access_words (connected_answer u c look pending question.Access) c.modes.access
  pub form : IsRead form_words (connected_answer u c look pending question.Form) c.modes.formatted
  pub action : IsRead action_words (connected_answer u c look pending question.Action) c.modes.action
  pub asynchronous : IsRead answer_words (connected_answer u c look pending question.Asynchronous) c.modes.asynchronous
  pub blank : IsReadWhere c.modes.formatted blank_words (connected_answer u c look pending question.Blank) c.modes.edit.blank_zero
  pub delim : IsReadWhere c.modes.formatted delim_words (connected_answer u c look pending question.Delim) c.modes.edit.delim
  pub pad : IsReadWhere c.modes.formatted answer_words (connected_answer u c look pending question.Pad) c.modes.edit.pad
  pub decimal : IsReadWhere c.modes.formatted decimal_words (connected_answer u c look pending question.Decimal) c.modes.edit.comma
  pub sign : IsReadWhere c.modes.formatted sign_words (connected_answer u c look pending question.Sign) c.modes.edit.plus

abbrev pub WordsAreRead : Type 0
WordsAreRead = (u : ℤ) (c : Connected) (look : Option Look) (pending : Bool) → TellsModes u c look pending
