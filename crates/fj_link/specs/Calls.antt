-- What each call does to a handle.
use Rattle.std.specs.Prelude.{◌≡◌, ◌≢◌, ℕ, ℤ, ◌+◌, ◌-◌, List, [], length, map, replicate, Bool, true, false, if◌then◌else◌, is_some, IsSome, option_map, Some, None, IfSome, Ok}
use Rattle.fj_value.specs.declared.kind.Kind.{Kind}
use Rattle.fj_value.specs.declared.kind.Kind.TheVariants.{Int4, Int8}
use Rattle.fj_value.specs.declared.value.Value.TheVariants.{Undefined, Int}
use Rattle.fj_format.specs.Parsing.{Parses}
use Rattle.fj_bay.specs.Jobs.{move, detach}
use Rattle.fj_bay.specs.Serving.{serve}
use Rattle.fj_value.specs.declared.condition.Condition.{Condition}
use Rattle.fj_value.specs.declared.condition.Condition.TheVariants.{Fine, EndOfFile, EndOfRecord, Error}
use Rattle.fj_modes.specs.Modes.{settled}
use Rattle.fj_modes.specs.declared.specifiers.OpenSpec.{OpenSpec}
use Rattle.fj_modes.specs.declared.specifiers.FileStatus.TheVariants.{Unknown}
use Rattle.fj_unit.specs.Program.{Program, waited_all, WaitsFor, LacksId, HasValues, MayEnd}
use Rattle.fj_unit.specs.Unit.{fresh, given}
use Rattle.fj_unit.specs.Statements.{moving, by_format, attached, connected_by, bytes_out, modes_of, refusal}
use Rattle.fj_link.specs.declared.handle.Handle.{Handle}

abbrev pub IsMade : Handle → Type 0
IsMade new = (new.session ≡ None) × (new.name ≡ None) × (new.format ≡ None) × (new.left ≡ None)

-- a refusal changes nothing
abbrev pub Named : Handle → List ℕ → Handle → ℕ → Type 0
Named old text new code = (code ≡ 0 → new ≡ record old { name = Some text }) × (code ≢ 0 → new ≡ old)

abbrev pub HasFormat : Handle → List ℕ → Handle → ℕ → Type 0
HasFormat old text new code =
    (code ≡ 0 → text ≡ [] → new ≡ record old { format = None })
    × (code ≡ 0 → text ≢ [] → IfSome new.format (λ format. Parses text (Ok format) × (new ≡ record old { format = Some format })))
    × (code ≡ 0 → text ≢ [] → IsSome new.format) × (code ≢ 0 → new ≡ old)

abbrev pub number_of : Condition → ℕ
number_of Fine = 0
number_of EndOfFile = 256
number_of EndOfRecord = 257
number_of (Error n) = n

-- the condition that the statement itself tells: 0 where the transfer is pending. 1001 and 1002 are calls that were not carried out.
abbrev pub IsRefusal : Handle → Bool → ℕ → Type 0
IsRefusal old input code =
    code ≢ 1001 → code ≢ 1002 → IfSome old.session (λ s. code ≡ number_of (refusal (modes_of s.unit.bay) input (by_format old.format)))

-- the transfer is pending behind all others, under the next identifier
abbrev pub Wrote : Handle → List ℤ → Handle → ℕ → Type 0
Wrote old numbers new code =
    (code ≡ 0 → IfSome old.session (λ s. new ≡ record old {
      session = Some (record s {
        unit = given s.unit (move (moving s.next false (by_format old.format) Int8 (map Int numbers)));
        next = s.next + 1;
      });
    }))
    × (code ≡ 0 → IsSome old.session) × (code ≢ 0 → new ≡ old) × IsRefusal old false code

abbrev pub WroteShort : Handle → List ℤ → Handle → ℕ → Type 0
WroteShort old numbers new code =
    (code ≡ 0 → IfSome old.session (λ s. new ≡ record old {
      session = Some (record s {
        unit = given s.unit (move (moving s.next false (by_format old.format) Int4 (map Int numbers)));
        next = s.next + 1;
      });
    }))
    × (code ≡ 0 → IsSome old.session) × (code ≢ 0 → new ≡ old) × IsRefusal old false code

abbrev pub Reads : Kind → Handle → ℕ → Handle → ℕ → Type 0
Reads kind old count new code =
    (code ≡ 0 → IfSome old.session (λ s. new ≡ record old {
      session = Some (record s {
        unit = given s.unit (move (moving s.next true (by_format old.format) kind (replicate count Undefined)));
        next = s.next + 1;
      });
    }))
    × (code ≡ 0 → IsSome old.session) × (code ≢ 0 → new ≡ old)

-- ---- OPEN

abbrev pub spec_asked : Bool → OpenSpec
spec_asked formatted = record {
  file = None;
  status = Some Unknown;
  access = None;
  formatted = Some formatted;
  recl = None;
  position = None;
  action = None;
  blank_zero = None;
  delim = None;
  pad = None;
  comma = None;
  plus = None;
  asynchronous = Some true;
}

-- a new unit is connected to a file of these bytes
abbrev pub IsConnected : List ℕ → List ℕ → Bool → Program → Type 0
IsConnected name found formatted s =
    ((s.unit, Fine) ≡ attached fresh (connected_by (Some found) name (spec_asked formatted) (settled (spec_asked formatted)))) × (s.next ≡ 1) × (s.told ≡ [])

abbrev pub Opened : Bool → Handle → List ℕ → Handle → ℕ → Type 0
Opened formatted old found new code =
    (code ≡ 0 → IfSome old.name (λ name. IfSome new.session (λ s. IsConnected name found formatted s × (new ≡ record old { session = Some s }))))
    × (code ≡ 0 → IsSome old.name × IsSome new.session) × (code ≢ 0 → new ≡ old)

-- the identifier of the transfer that was made pending last
abbrev pub Last : Handle → Handle → ℕ → Type 0
Last old new id = (new ≡ old) × (old.session ≡ None → id ≡ 0) × IfSome old.session (λ s. id ≡ s.next - 1)

-- ---- WAIT

-- want of memory stopped the unit
abbrev pub Stops : Program → Program → Type 0
Stops s t = MayEnd s.unit t.unit × (t.next ≡ s.next) × (t.told ≡ s.told)

abbrev pub IsStopped : Handle → Handle → Type 0
IsStopped old new = IsSome new.session × IfSome old.session (λ s. IfSome new.session (λ t. Stops s t × (new ≡ record old { session = Some t })))

-- 1001: the unit is not connected; 1002: want of memory stopped it
abbrev pub WaitedAll : Handle → Handle → ℕ → Type 0
WaitedAll old new code =
    (code ≡ 1001 → (new ≡ old) × (old.session ≡ None)) × (code ≢ 1001 → IsSome old.session) × (code ≡ 1002 → IsStopped old new)
    × (code ≢ 1001 → code ≢ 1002 → IfSome old.session (λ s. (new ≡ record old { session = Some (waited_all s).0 }) × (code ≡ number_of (waited_all s).1)))

pub record WaitsOne (s t : Program) (id code : ℕ) : Type 0 where
  pub condition : Condition
  pub waits : WaitsFor s t id condition
  pub number : code ≡ number_of condition

-- 1001: the unit is not connected, or no transfer of that identifier is pending
abbrev pub WaitedOne : Handle → ℕ → Handle → ℕ → Type 0
WaitedOne old id new code =
    (code ≡ 1001 → (new ≡ old) × IfSome old.session (λ s. LacksId s.unit.pending id)) × (code ≢ 1001 → IsSome old.session) × (code ≡ 1002 → IsStopped old new)
    × (code ≢ 1001 → code ≢ 1002 → IsSome new.session × IfSome old.session (λ s. IfSome new.session (λ t. WaitsOne s t id code × (new ≡ record old { session = Some t }))))

-- the values of a READ that the last WAIT told
abbrev pub Gives : Handle → ℕ → Handle → List ℤ → ℕ → Type 0
Gives old id new out code = (new ≡ old) × (code ≢ 0 → IsSome old.session × IfSome old.session (λ s. HasValues s.told id out))

-- ---- CLOSE

-- nothing was pending; what the file is to hold
abbrev pub Closed : Handle → Handle → ℕ → Type 0
Closed old new code =
    (code ≡ 0 → IfSome old.session (λ s. (s.unit.pending ≡ []) × (new.session ≡ None)
    × (option_map (λ v. v.items) new.left ≡ bytes_out (serve s.unit.bay (detach None)).job)))
    × (code ≡ 0 → IsSome old.session) × (code ≡ 1001 → new ≡ old)

abbrev pub Left : Handle → Handle → List ℕ → List ℕ → ℕ → Type 0
Left old new before after count =
    (new ≡ old) × (old.left ≡ None → count ≡ 0) × IfSome old.left (λ v. (count ≡ length v.items) × (length before ≡ length v.items → after ≡ v.items))

-- 1 where the unit was still connected
abbrev pub Ended : Handle → ℕ → Type 0
Ended old code = code ≡ (if is_some old.session then 1 else 0)

-- lent work leaves what the calls have come to
abbrev pub Worked : Handle → Handle → Type 0
Worked old new = new ≡ old
