-- The modes of a connection: those that OPEN gives a new one, and those that a later OPEN changes.
use Rattle.std.specs.Prelude.{◌≡◌, ◌<◌, ◌≤◌, ◌||◌, ◌&&◌, Bool, true, false, nat_eq, not, if◌then◌else◌, Result, Ok, Err, unwrap_or}
use Rattle.std.specs.Bool.{beq}
use Rattle.fj_value.specs.declared.condition.Condition.{Condition}
use Rattle.fj_value.specs.declared.condition.Condition.TheVariants.{Error}
use Rattle.fj_value.specs.declared.edit.EditModes.{EditModes}
use Rattle.fj_value.specs.declared.edit.Delim.TheVariants.{Plain}
use Rattle.fj_modes.specs.declared.modes.Modes.{Modes}
use Rattle.fj_modes.specs.declared.specifiers.OpenSpec.{OpenSpec}
use Rattle.fj_modes.specs.declared.specifiers.Access.TheVariants.{Direct, Stream}
use Rattle.fj_modes.specs.declared.specifiers.Action.TheVariants.{ReadWrite}
use Rattle.fj_modes.specs.declared.specifiers.FileStatus.TheVariants.{Old}
use Rattle.fj_modes.specs.declared.specifiers.Start.TheVariants.{AsIs}
use Rattle.fj_modes.specs.Words.{same_access, same_action, is_old, is_as_is, is_scratch, given_and, differs, Differs, Agrees, TakesOrKeeps}
use Rattle.fj_modes.specs.OpenSpec.{access_asked, formatted_asked, record_limit, names_edit_mode, is_refused}

-- the modes of formatted editing without a specifier: BLANK='NULL', DECIMAL='POINT', DELIM='NONE', PAD='YES'
-- and SIGN='SUPPRESS' (9.4.5.4 to 9.4.5.14), the last for PROCESSOR_DEFINED
abbrev pub usual_edit : EditModes
usual_edit = record { blank_zero = false; comma = false; delim = Plain; pad = true; plus = false }

-- each mode of formatted editing as the statement gives it, else as it was
abbrev pub edit_asked : EditModes → OpenSpec → EditModes
edit_asked before spec = record {
  blank_zero = unwrap_or spec.blank_zero before.blank_zero;
  comma = unwrap_or spec.comma before.comma;
  delim = unwrap_or spec.delim before.delim;
  pad = unwrap_or spec.pad before.pad;
  plus = unwrap_or spec.plus before.plus;
}

-- each mode as the statement gives it, else by default; READWRITE by default is the choice of the processor (9.4.5.2)
abbrev pub modes_asked : OpenSpec → Modes
modes_asked spec = record {
  access = access_asked spec;
  formatted = formatted_asked spec;
  recl = unwrap_or spec.recl (record_limit (formatted_asked spec));
  action = unwrap_or spec.action ReadWrite;
  asynchronous = unwrap_or spec.asynchronous false;
  scratch = given_and is_scratch spec.status;
  start = unwrap_or spec.position AsIs;
  edit = edit_asked usual_edit spec;
}

-- the modes of a new connection, or error 3
abbrev pub settled : OpenSpec → Result Modes Condition
settled spec = if is_refused spec then Err (Error 3) else Ok (modes_asked spec)

-- ACCESS=, FORM=, RECL=, ACTION= or ASYNCHRONOUS= stands with another value than the one in effect
abbrev pub changes_fixed_mode : Modes → OpenSpec → Bool
changes_fixed_mode modes spec =
    differs (same_access modes.access) spec.access
    || differs (beq modes.formatted) spec.formatted
    || differs (nat_eq modes.recl) spec.recl
    || differs (same_action modes.action) spec.action
    || differs (beq modes.asynchronous) spec.asynchronous

-- STATUS= stands and is not OLD, or POSITION= stands and is not ASIS
abbrev pub asks_for_new_connection : OpenSpec → Bool
asks_for_new_connection spec = differs is_old spec.status || differs is_as_is spec.position

-- of a connected file only BLANK=, DECIMAL=, DELIM=, PAD= and SIGN= may change, and only where it is formatted (9.4.5)
abbrev pub is_conflict : Modes → OpenSpec → Bool
is_conflict modes spec =
    changes_fixed_mode modes spec
    || asks_for_new_connection spec
    || (not modes.formatted && names_edit_mode spec)

-- the modes of a connection after a later OPEN of its file, or error 8
abbrev pub changed : Modes → OpenSpec → Result Modes Condition
changed modes spec = if is_conflict modes spec then Err (Error 8) else Ok (record modes { edit = edit_asked modes.edit spec })

-- what error 8 of OPEN tells (9.4.5)
pub data IsConflict (modes : Modes) (spec : OpenSpec) : Type 0 where
  changes_access : Differs spec.access modes.access → IsConflict modes spec
  changes_form : Differs spec.formatted modes.formatted → IsConflict modes spec
  changes_length : Differs spec.recl modes.recl → IsConflict modes spec
  changes_action : Differs spec.action modes.action → IsConflict modes spec
  changes_asynchronous : Differs spec.asynchronous modes.asynchronous → IsConflict modes spec
  status_is_not_old : Differs spec.status Old → IsConflict modes spec
  position_is_not_as_is : Differs spec.position AsIs → IsConflict modes spec
  connection_has_no_edit_mode : modes.formatted ≡ false → names_edit_mode spec ≡ true → IsConflict modes spec

-- what holds of the modes of every connection
pub record IsConsistent (modes : Modes) : Type 0 where
  pub length_above_zero : 0 < modes.recl
  pub length_within_limit : modes.recl ≤ record_limit modes.formatted
  pub stream_length : modes.access ≡ Stream → modes.recl ≡ record_limit modes.formatted
  pub direct_start : modes.access ≡ Direct → modes.start ≡ AsIs
  pub unformatted_edit : modes.formatted ≡ false → modes.edit ≡ usual_edit

-- the statement names only what is in effect already
pub record IsInEffect (modes : Modes) (spec : OpenSpec) : Type 0 where
  pub access : Agrees spec.access modes.access
  pub form : Agrees spec.formatted modes.formatted
  pub length : Agrees spec.recl modes.recl
  pub action : Agrees spec.action modes.action
  pub asynchronous : Agrees spec.asynchronous modes.asynchronous
  pub status : Agrees spec.status Old
  pub position : Agrees spec.position AsIs
  pub blank_zero : Agrees spec.blank_zero modes.edit.blank_zero
  pub comma : Agrees spec.comma modes.edit.comma
  pub delim : Agrees spec.delim modes.edit.delim
  pub pad : Agrees spec.pad modes.edit.pad
  pub plus : Agrees spec.plus modes.edit.plus
  pub unformatted : modes.formatted ≡ false → names_edit_mode spec ≡ false

-- each mode of formatted editing is the one that is given, else the one before; nothing else changes
pub record IsChangeBy (before : Modes) (spec : OpenSpec) (after : Modes) : Type 0 where
  pub blank_zero : TakesOrKeeps spec.blank_zero before.edit.blank_zero after.edit.blank_zero
  pub comma : TakesOrKeeps spec.comma before.edit.comma after.edit.comma
  pub delim : TakesOrKeeps spec.delim before.edit.delim after.edit.delim
  pub pad : TakesOrKeeps spec.pad before.edit.pad after.edit.pad
  pub plus : TakesOrKeeps spec.plus before.edit.plus after.edit.plus
  pub others : after ≡ record before { edit = after.edit }
