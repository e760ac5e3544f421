-- The words of modes are read as the modes.
use Rattle.std.proofs.Common.{◌≡◌, ℕ, List, Bool, true, false, refl, if◌then◌else◌, Some}
use Rattle.fj_value.specs.declared.edit.Delim.{Delim}
use Rattle.fj_value.specs.declared.edit.Delim.TheVariants.{Apostrophe, Quote, Plain}
use Rattle.fj_modes.specs.declared.specifiers.Access.{Access}
use Rattle.fj_modes.specs.declared.specifiers.Access.TheVariants.{Sequential, Direct, Stream}
use Rattle.fj_modes.specs.declared.specifiers.Action.{Action}
use Rattle.fj_modes.specs.declared.specifiers.Action.TheVariants.{Read, Write, ReadWrite}
use Rattle.fj_modes.specs.ModeWords.{Table, mode_of, access_words, access_word, action_words, action_word, delim_words, delim_word, form_words, form_word, blank_words, blank_word, decimal_words, decimal_word, sign_words, sign_word, answer_words, answer_word}
use Rattle.fj_inquire.specs.Inquiring.{word, undefined}
use Rattle.fj_inquire.specs.Laws.{IsReadWhere, WordsAreRead}

access_read : (mode : Access) → mode_of access_words (access_word mode) ≡ Some mode
access_read Sequential = refl
access_read Direct = refl
access_read Stream = refl

action_read : (mode : Action) → mode_of action_words (action_word mode) ≡ Some mode
action_read Read = refl
action_read Write = refl
action_read ReadWrite = refl

delim_read : (mode : Delim) → mode_of delim_words (delim_word mode) ≡ Some mode
delim_read Apostrophe = refl
delim_read Quote = refl
delim_read Plain = refl

form_read : (mode : Bool) → mode_of form_words (form_word mode) ≡ Some mode
form_read true = refl
form_read false = refl

blank_read : (mode : Bool) → mode_of blank_words (blank_word mode) ≡ Some mode
blank_read true = refl
blank_read false = refl

decimal_read : (mode : Bool) → mode_of decimal_words (decimal_word mode) ≡ Some mode
decimal_read true = refl
decimal_read false = refl

sign_read : (mode : Bool) → mode_of sign_words (sign_word mode) ≡ Some mode
sign_read true = refl
sign_read false = refl

answer_read : (mode : Bool) → mode_of answer_words (answer_word mode) ≡ Some mode
answer_read true = refl
answer_read false = refl

read_where : {M : Type 0} (formatted : Bool) (words : Table M) (w : List ℕ) (mode : M) → mode_of words w ≡ Some mode → IsReadWhere formatted words (if formatted then word w else undefined) mode
read_where true words w mode read = (w, refl, read)
read_where false words w mode read = refl

pub words_are_read : WordsAreRead
words_are_read u c look pending =
    let edit = c.modes.edit in
    record {
      access = (access_word c.modes.access, refl, access_read c.modes.access);
      form = (form_word c.modes.formatted, refl, form_read c.modes.formatted);
      action = (action_word c.modes.action, refl, action_read c.modes.action);
      asynchronous = (answer_word c.modes.asynchronous, refl, answer_read c.modes.asynchronous);
      blank = read_where c.modes.formatted blank_words (blank_word edit.blank_zero) edit.blank_zero (blank_read edit.blank_zero);
      delim = read_where c.modes.formatted delim_words (delim_word edit.delim) edit.delim (delim_read edit.delim);
      pad = read_where c.modes.formatted answer_words (answer_word edit.pad) edit.pad (answer_read edit.pad);
      decimal = read_where c.modes.formatted decimal_words (decimal_word edit.comma) edit.comma (decimal_read edit.comma);
      sign = read_where c.modes.formatted sign_words (sign_word edit.plus) edit.plus (sign_read edit.plus);
    }
