-- The units that may have pending transfers, each with the lowest identifier that one may have.
use Rattle.std.specs.Prelude.{◌≡◌, ℕ, ◌==◌, nat_le, not, Bool, true, false, List, [], ◌∷◌, ◌++◌, All, filter, Option, if◌then◌else◌}
use Rattle.std.specs.List.{find}
use Rattle.std.specs.Option.{option_map, option_map_or}
use Rattle.fj_value.specs.declared.place.Tag.{Tag}
use Rattle.fj_run_pending.specs.declared.busy.Busy.{Busy}
use Rattle.fj_run_pending.specs.declared.held.Held.{Held}
use Rattle.fj_run_pending.specs.declared.pick.Pick.{Pick}
use Rattle.fj_run_pending.specs.declared.pick.Pick.TheVariants as pick

abbrev pub first_of : List Busy → ℕ → Option Tag
first_of busy unit = option_map (λ (b : Busy). b.first) (find (λ (b : Busy). b.unit == unit) busy)

-- a transfer of the unit may have the identifier
abbrev pub may_have : List Busy → ℕ → ℕ → Bool
may_have busy unit id = option_map_or (λ (first : Tag). nat_le first.0 id) (first_of busy unit) false

-- the unit of each transfer is one of them, and its identifier is not below the lowest one of the unit
abbrev pub AreBusy : List Busy → List Held → Type 0
AreBusy busy hs = All (λ (h : Held). may_have busy h.unit h.tag.0 ≡ true) hs

abbrev pub without_unit : ℕ → List Busy → List Busy
without_unit unit busy = filter (λ (b : Busy). not (b.unit == unit)) busy

-- with a transfer that they could not have
abbrev pub with_transfer : List Busy → ℕ → Tag → List Busy
with_transfer busy unit id = if may_have busy unit id.0 then busy else without_unit unit busy ++ record { unit = unit; first = id } ∷ []

-- without those of which all transfers are told
abbrev pub without_told : Pick → List Busy → List Busy
without_told pick.None busy = busy
without_told (pick.OfUnit u) busy = without_unit u busy
without_told (pick.One id) busy = busy
without_told pick.All busy = []
