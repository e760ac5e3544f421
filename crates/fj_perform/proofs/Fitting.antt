-- What holds of a transfer that goes together with its connection, and where it begins.
use Rattle.std.proofs.Common.{◌≡◌, ℕ, Bool, true, false, cond, not, ◌&&◌, ◌||◌, [], ◌∷◌, refl, sym, ap, ◌∙◌}
use Rattle.std.specs.Prelude.{is_some, if◌then◌else◌}
use Rattle.fj_value.specs.declared.condition.Condition.TheVariants.{Fine, Error}
use Rattle.fj_modes.specs.declared.modes.Modes.{Modes}
use Rattle.fj_modes.specs.declared.specifiers.Access.{Access}
use Rattle.fj_modes.specs.declared.specifiers.Access.TheVariants.{Sequential, Direct, Stream}
use Rattle.fj_modes.specs.Words.{same_access}
use Rattle.fj_connect.specs.Connection.{Connection, with_records}
use Rattle.fj_connect.specs.Positions.{ended}
use Rattle.fj_connect.specs.Spot.{is_writing}
use Rattle.fj_transfer.specs.Places.{at_place}
use Rattle.fj_transfer.specs.Transfer.{is_formatted, is_explicit, differ, needs_sequence, is_unfit, is_forbidden, unfit}
use Rattle.fj_transfer.specs.declared.transfer.TransferSpec.{TransferSpec}
use Rattle.fj_perform.specs.Front.{started, place_of, IsStart}
use Rattle.fj_perform.specs.declared.start.Start.{Start}
use Rattle.fj_perform.specs.declared.start.Start.TheVariants as start

-- what it takes to be fit
pub record IsFit (modes : Modes) (spec : TransferSpec) : Type 0 where
  pub formatted : modes.formatted ≡ is_formatted spec.layout
  pub number : is_some spec.rec ≡ same_access modes.access Direct
  pub place : (is_some spec.pos && not (same_access modes.access Stream)) ≡ false
  pub direct : (same_access modes.access Direct && needs_sequence spec.layout (is_explicit spec.layout && not spec.advance)) ≡ false

neither : (a b : Bool) → (a || b) ≡ false → (a ≡ false) × (b ≡ false)
neither true b e = cc
neither false b e = (refl, e)

same_of : (a b : Bool) → differ a b ≡ false → a ≡ b
same_of true true e = refl
same_of true false e = cc
same_of false true e = cc
same_of false false e = refl

no_error : (a b : Bool) → cond a (Error 16) (cond b (Error 10) Fine) ≡ Fine → a ≡ false
no_error true b e = cc
no_error false b e = refl

pub is_fit : (modes : Modes) (spec : TransferSpec) → unfit modes spec ≡ Fine → IsFit modes spec
is_fit modes spec e =
    let stays = is_explicit spec.layout && not spec.advance in
    let fits = no_error (is_unfit modes spec.layout stays (is_some spec.rec) (is_some spec.pos)) (is_forbidden modes.action spec.input) e in
    let A = differ modes.formatted (is_formatted spec.layout) in
    let B = differ (is_some spec.rec) (same_access modes.access Direct) in
    let C = is_some spec.pos && not (same_access modes.access Stream) in
    let D = same_access modes.access Direct && needs_sequence spec.layout stays in
    let last = neither (A || B || C) D fits in
    let third = neither (A || B) C last.0 in
    let first = neither A B third.0 in
    record { formatted = same_of modes.formatted (is_formatted spec.layout) first.0; number = same_of (is_some spec.rec) (same_access modes.access Direct) first.1; place = third.1; direct = last.1 }

pub is_direct : (access : Access) → same_access access Direct ≡ true → access ≡ Direct
is_direct Sequential e = cc
is_direct Direct e = refl
is_direct Stream e = cc

pub is_stream : (access : Access) → same_access access Stream ≡ true → access ≡ Stream
is_stream Sequential e = cc
is_stream Direct e = cc
is_stream Stream e = refl

-- the modes stay where it begins
pub started_modes : (start : Start) (c : Connection) → (started start c).modes ≡ c.modes
started_modes start.Here c = refl
started_modes (start.Byte place) c = refl
started_modes (start.Record number) c = refl

pub ended_modes : (c : Connection) → (ended c).modes ≡ c.modes
ended_modes c = by (is_writing c.spot.within)
  where
    by : (b : Bool) → (if b then with_records c (10 ∷ []) else c).modes ≡ c.modes
    by true = refl
    by false = refl

pub not_open : (c : Connection) → is_writing c.spot.within ≡ false → ended c ≡ c
not_open c e = ap (λ b. if b then with_records c (10 ∷ []) else c) e

and_left : (a b : Bool) → (a && b) ≡ false → b ≡ true → a ≡ false
and_left true b e h = cc
and_left false b e h = refl

-- list-directed and namelist transfers are not of direct access
pub in_sequence : (modes : Modes) (spec : TransferSpec) → unfit modes spec ≡ Fine → needs_sequence spec.layout (is_explicit spec.layout && not spec.advance) ≡ true → same_access modes.access Direct ≡ false
in_sequence modes spec fit needs =
    and_left (same_access modes.access Direct) (needs_sequence spec.layout (is_explicit spec.layout && not spec.advance)) (is_fit modes spec fit).direct needs

-- there a byte or the position begins them
pub begins_there : (start : Start) (access : Access) (size : ℕ) (c : Connection) → IsStart access size start → same_access access Direct ≡ false → at_place (place_of start) c ≡ started start c
begins_there start.Here access size c is sequence = refl
begins_there (start.Byte place) access size c is sequence = refl
begins_there (start.Record number) access size c is sequence =
    let h : true ≡ false = sym (ap (λ (a : Access). same_access a Direct) is.0) ∙ sequence in
    cc
