-- Where a script stood before the call by which it was over.
use Rattle.std.specs.Prelude.{◌≡◌, ◌≢◌, ◌⊎◌, ℕ, zero, suc, ◌+◌, ◌≤◌, true, false, List, [], ◌∷◌, ◌++◌, length, Option, Some, None, slice_get, slice_set}
use Rattle.fj_slot.specs.Ledger.{Ledger}
use Rattle.fj_slot.specs.Serving.{Meaning}
use Rattle.fj_slot.specs.Sound.{IsSound, outcome}
use Rattle.fj_world.specs.declared.ask.Ask.{Ask}
use Rattle.fj_world.specs.declared.ask.Ask.TheVariants.{Submit, Settle, Finished}
use Rattle.fj_world.specs.Conduct.{Conduct, Idle, IsDueAsk}
use Rattle.fj_world.specs.Leading.{LeadsTo}
use Rattle.fj_world.specs.Plain.{Plain, PlainSlot, asked_next, after}
use Rattle.fj_world.specs.Rack.{Rack}

-- each slot is sound for the jobs of the plain one, and has done those that were told
pub record SlotsHold {G J A P T R : Type 0} (m : Meaning G J A P T R) (qs : List (PlainSlot P T)) (rack : Rack G J A) : Type 0 where
  pub same : length qs ≡ length rack.slots
  pub each : (at : ℕ) (q : PlainSlot P T) (l : Ledger G J A) → slice_get qs at ≡ Some q → slice_get rack.slots at ≡ Some l → IsSound m q.start q.jobs l
  pub done : (at : ℕ) (q : PlainSlot P T) (l : Ledger G J A) → slice_get qs at ≡ Some q → slice_get rack.slots at ≡ Some l → q.told ≤ l.done

module _ {S G J A P T R : Type 0} (m : Meaning G J A P T R) (c : Conduct S T R) where
  -- a job is appended to its slot, and the script has its number
  abbrev pub given_number : Option (PlainSlot P T) → ℕ → T → Plain P c → c.State × List (PlainSlot P T)
  given_number None at t p = (p.script, p.slots)
  given_number (Some q) at t p = (c.took p.script (length q.jobs), slice_set p.slots at (record { start = q.start; jobs = q.jobs ++ t ∷ []; told = q.told }))

  -- the script has that answer of its slot
  abbrev pub given_reply : Option (T × R) → PlainSlot P T → ℕ → Plain P c → c.State × List (PlainSlot P T)
  given_reply None q at p = (p.script, p.slots)
  given_reply (Some reply) q at p = (c.told p.script reply, slice_set p.slots at (record { start = q.start; jobs = q.jobs; told = q.told + 1 }))

  abbrev pub given_outcome : Option (PlainSlot P T) → ℕ → Plain P c → c.State × List (PlainSlot P T)
  given_outcome None at p = (p.script, p.slots)
  given_outcome (Some q) at p = given_reply (outcome m q.start q.jobs q.told) q at p

  -- the script and its slots once its ask is answered, before it asks again
  abbrev pub answered : Ask T → Plain P c → c.State × List (PlainSlot P T)
  answered (Submit at t) p = given_number (slice_get p.slots at) at t p
  answered (Settle at) p = given_outcome (slice_get p.slots at) at p
  answered Finished p = (p.script, p.slots)

  -- the same before the ask of that number, counted from 0, of a script served alone
  abbrev pub before_ask : ℕ → c.State → List (PlainSlot P T) → c.State × List (PlainSlot P T)
  before_ask zero s qs = (s, qs)
  before_ask (suc n) s qs = answered (after m c n (asked_next m c s qs)).hand (after m c n (asked_next m c s qs))

  -- the ask in front of that one, if there is one, was not the end
  abbrev pub HasAsked : ℕ → c.State → List (PlainSlot P T) → Type 0
  HasAsked zero s qs = Unit {0}
  HasAsked (suc n) s qs = (after m c n (asked_next m c s qs)).hand ≢ Finished

  -- The script is over since one call. Before that call it stood before the ask of that number, none being due, or at it, that ask being due.
  pub record GaveUp (asks : ℕ) (s : c.State) (qs : List (PlainSlot P T)) (first last : S) : Type 0 where
    pub before : S
    pub gone : S
    pub led : LeadsTo c.leads first before
    pub going : c.over before ≡ false
    pub leads : c.leads before gone
    pub over : c.over gone ≡ true
    pub rests : LeadsTo c.leads gone last
    pub stood : (HasAsked asks s qs × (c.state before ≡ Some (before_ask asks s qs).0) × (c.due before ≡ Idle))
        ⊎ (((after m c asks (asked_next m c s qs)).hand ≢ Finished) × (c.state before ≡ Some (after m c asks (asked_next m c s qs)).script)
        × IsDueAsk (c.due before) (after m c asks (asked_next m c s qs)).hand)

  -- and each slot is sound for the jobs that were submitted until then
  pub record WasLost (s : c.State) (qs : List (PlainSlot P T)) (first last : S) (rack : Rack G J A) : Type 0 where
    pub asks : ℕ
    pub call : GaveUp asks s qs first last
    pub slots : SlotsHold m (before_ask asks s qs).1 rack
