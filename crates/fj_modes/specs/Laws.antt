-- What `settled` gives by default, and what `settled` and `changed` have to do with each other.
use Rattle.std.specs.Prelude.{◌≡◌, true, false, Some, None, Ok}
use Rattle.fj_value.specs.declared.edit.Delim.TheVariants.{Plain}
use Rattle.fj_modes.specs.declared.modes.Modes.{Modes}
use Rattle.fj_modes.specs.declared.specifiers.OpenSpec.{OpenSpec}
use Rattle.fj_modes.specs.declared.specifiers.Access.TheVariants.{Sequential, Direct, Stream}
use Rattle.fj_modes.specs.declared.specifiers.Action.TheVariants.{ReadWrite}
use Rattle.fj_modes.specs.declared.specifiers.FileStatus.TheVariants.{Scratch}
use Rattle.fj_modes.specs.declared.specifiers.Start.TheVariants.{AsIs}
use Rattle.fj_modes.specs.OpenSpec.{bare}
use Rattle.fj_modes.specs.Modes.{settled, changed, IsConsistent, IsInEffect, IsChangeBy}

-- a formatted sequential connection, as OPEN without specifiers gives
abbrev pub usual_modes : Modes
usual_modes = record {
  access = Sequential;
  formatted = true;
  recl = 65536;
  action = ReadWrite;
  asynchronous = false;
  scratch = false;
  start = AsIs;
  edit = record { blank_zero = false; comma = false; delim = Plain; pad = true; plus = false };
}

-- what one or two specifiers give beside the defaults
pub record DefaultsAreUsual : Type 0 where
  pub no_specifier : settled bare ≡ Ok usual_modes
  pub unformatted : settled (record bare { formatted = Some false }) ≡ Ok (record usual_modes { formatted = false; recl = 16777216 })
  pub stream : settled (record bare { access = Some Stream }) ≡ Ok (record usual_modes { access = Stream; formatted = false; recl = 16777216 })
  pub formatted_stream : settled (record bare { access = Some Stream; formatted = Some true }) ≡ Ok (record usual_modes { access = Stream })
  pub direct : settled (record bare { access = Some Direct; recl = Some 80 }) ≡ Ok (record usual_modes { access = Direct; formatted = false; recl = 80 })
  pub formatted_direct : settled (record bare { access = Some Direct; recl = Some 80; formatted = Some true }) ≡ Ok (record usual_modes { access = Direct; recl = 80 })
  pub scratch : settled (record bare { status = Some Scratch }) ≡ Ok (record usual_modes { scratch = true })

-- an OPEN that is not refused gives consistent modes
abbrev pub SettledIsConsistent : Type 0
SettledIsConsistent = (spec : OpenSpec) (modes : Modes) → settled spec ≡ Ok modes → IsConsistent modes

-- consistent modes stay so
abbrev pub ChangedIsConsistent : Type 0
ChangedIsConsistent =
    (before : Modes) (spec : OpenSpec) (after : Modes) → IsConsistent before → changed before spec ≡ Ok after → IsConsistent after

-- what is in effect already changes nothing
abbrev pub InEffectStays : Type 0
InEffectStays = (modes : Modes) (spec : OpenSpec) → IsInEffect modes spec → changed modes spec ≡ Ok modes

-- the OPEN that made a connection, without STATUS= and POSITION=, changes nothing of it
abbrev pub OpenedAgainStays : Type 0
OpenedAgainStays =
    (spec : OpenSpec) (modes : Modes) → settled spec ≡ Ok modes → changed modes (record spec { status = None; position = None }) ≡ Ok modes

-- a change gives each mode that is named, and keeps the others
abbrev pub ChangedTakesOrKeeps : Type 0
ChangedTakesOrKeeps = (before : Modes) (spec : OpenSpec) (after : Modes) → changed before spec ≡ Ok after → IsChangeBy before spec after

-- a second change by the same statement changes nothing
abbrev pub ChangedTwiceStays : Type 0
ChangedTwiceStays = (before : Modes) (spec : OpenSpec) (after : Modes) → changed before spec ≡ Ok after → changed after spec ≡ Ok after
