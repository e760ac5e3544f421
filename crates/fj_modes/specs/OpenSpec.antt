-- What an OPEN statement asks for (ISO/IEC 1539-1:2004, 9.4.5), and when it is in error.
use Rattle.std.specs.Prelude.{◌≡◌, ◌==◌, ◌||◌, ◌&&◌, ◌<◌, ℕ, Bool, true, false, not, nat_lt, if◌then◌else◌, Some, None, IsSome, IsNone, IsSomeAnd, is_some, is_none, unwrap_or}
use Rattle.fj_modes.specs.declared.specifiers.OpenSpec.{OpenSpec}
use Rattle.fj_modes.specs.declared.specifiers.Access.{Access}
use Rattle.fj_modes.specs.declared.specifiers.Access.TheVariants.{Sequential, Direct, Stream}
use Rattle.fj_modes.specs.declared.specifiers.FileStatus.TheVariants.{Scratch}
use Rattle.fj_modes.specs.Limits.{longest_formatted, longest_unformatted}
use Rattle.fj_modes.specs.Words.{same_access, is_scratch, given_and}

-- no specifier stands
abbrev pub bare : OpenSpec
bare = record {
  file = None;
  status = None;
  access = None;
  formatted = None;
  recl = None;
  position = None;
  action = None;
  blank_zero = None;
  delim = None;
  pad = None;
  comma = None;
  plus = None;
  asynchronous = None;
}

-- sequential by default (9.4.5.1)
abbrev pub access_asked : OpenSpec → Access
access_asked spec = unwrap_or spec.access Sequential

-- by default formatted for sequential access, and unformatted for the others (9.4.5.9)
abbrev pub formatted_asked : OpenSpec → Bool
formatted_asked spec = unwrap_or spec.formatted (same_access (access_asked spec) Sequential)

-- the longest record of a form
abbrev pub record_limit : Bool → ℕ
record_limit formatted = if formatted then longest_formatted else longest_unformatted

-- BLANK=, DECIMAL=, DELIM=, PAD= or SIGN= stands
abbrev pub names_edit_mode : OpenSpec → Bool
names_edit_mode spec =
    is_some spec.blank_zero || is_some spec.comma || is_some spec.delim || is_some spec.pad || is_some spec.plus

-- RECL= stands, and is no length of a record of the form
abbrev pub length_is_out_of_range : OpenSpec → Bool
length_is_out_of_range spec = given_and (λ n. n == 0 || nat_lt (record_limit (formatted_asked spec)) n) spec.recl

-- direct access without RECL= or with POSITION=; stream access with RECL=; a record length out of range;
-- a mode of formatted editing with an unformatted form; a scratch file with FILE= (9.4.5)
abbrev pub is_refused : OpenSpec → Bool
is_refused spec =
    (same_access (access_asked spec) Direct && is_none spec.recl)
    || (same_access (access_asked spec) Stream && is_some spec.recl)
    || length_is_out_of_range spec
    || (same_access (access_asked spec) Direct && is_some spec.position)
    || (not (formatted_asked spec) && names_edit_mode spec)
    || (is_some spec.file && given_and is_scratch spec.status)

-- what error 3 of OPEN tells (9.4.5)
pub data IsRefused (spec : OpenSpec) : Type 0 where
  direct_lacks_length : access_asked spec ≡ Direct → IsNone spec.recl → IsRefused spec
  stream_has_length : access_asked spec ≡ Stream → IsSome spec.recl → IsRefused spec
  length_is_zero : spec.recl ≡ Some 0 → IsRefused spec
  length_is_above_limit : IsSomeAnd spec.recl (λ n. record_limit (formatted_asked spec) < n) → IsRefused spec
  direct_has_position : access_asked spec ≡ Direct → IsSome spec.position → IsRefused spec
  unformatted_has_edit_mode : formatted_asked spec ≡ false → names_edit_mode spec ≡ true → IsRefused spec
  scratch_has_name : spec.status ≡ Some Scratch → IsSome spec.file → IsRefused spec
