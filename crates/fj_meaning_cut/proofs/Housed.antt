-- Units with their desks.
use Rattle.std.proofs.Common.{◌≡◌, ℕ, ◌<◌, List, [], ◌∷◌, length, Option, Some, None, slice_get, refl, sym, ap, ◌∙◌, subst, inl, inr}
use Rattle.std.specs.Prelude.{IfSome, IsSome}
use Rattle.std.proofs.lemmas.Bool.Decides.{eqb_tells}
use Rattle.fj_connect.specs.Connection.{Connection}
use Rattle.fj_world.proofs.Places.{slice_get_in}
use Rattle.fj_bay.specs.Bay.{Bay}
use Rattle.fj_bay.specs.Jobs.{Job, attach}
use Rattle.fj_meaning_jobs.specs.Core.{Connected}
use Rattle.fj_meaning_jobs.specs.Desks.{Desk, carry, carry_at}
use Rattle.fj_meaning_jobs.specs.Desking.{connection_at}
use Rattle.fj_meaning_jobs.specs.Forgetting.{bay_at}
use Rattle.fj_meaning_jobs.proofs.Apart.{Each, each_imp}
use Rattle.fj_meaning_jobs.proofs.Carrying.{carry_other, serves_at}
use Rattle.fj_meaning_cut.specs.Others.{IsHoused, AreHoused}
use Rattle.fj_meaning_cut.proofs.Carried.{there, named_there, brought_there}
use Rattle.fj_meaning_cut.proofs.Touching.{IsHome, home_same}

pub each_housed : (ds : List Desk) (us : List Connected) → Each (IsHoused ds) us → AreHoused ds us
each_housed ds [] h = tt
each_housed ds (u ∷ us) h = (h.0, each_housed ds us h.1)

-- ---- desks

bay_some : (o : Option Desk) (bay : Bay) → bay_at o ≡ Some bay → IsSome o
bay_some None bay e = cc
bay_some (Some d) bay e = refl

seat_after : (ds : List Desk) (slot : ℕ) (job : Job) (k : ℕ) → IsSome (slice_get ds k) → IsSome (slice_get (carry ds slot job) k)
seat_after ds slot job k h = by (slice_get ds slot) refl
  where
    by : (o : Option Desk) → slice_get ds slot ≡ o → IsSome (slice_get (carry ds slot job) k)
    by None f = subst (λ o. IsSome (slice_get (carry_at o ds slot job) k)) (sym f) h
    by (Some d) f = elim (eqb_tells k slot) [
      | inl a ↦ subst (λ j. IsSome (slice_get (carry ds slot job) j)) (sym a.1) (bay_some (slice_get (carry ds slot job) slot) _ (serves_at ds slot job d.bay (ap bay_at f)).reaches.here)
      | inr a ↦ subst (λ o. IsSome o) (sym (carry_other ds slot job k a.1)) h
    ]

seat_of : (o : Option Desk) (c : Connection) → connection_at o ≡ Some c → IsSome o
seat_of None c e = cc
seat_of (Some d) c e = refl

-- ---- units

pub home_housed : (ds : List Desk) (u : Connected) → IsHome ds u → IsHoused ds u
home_housed ds u h = (seat_of (slice_get ds u.slot) h.it h.is, subst (λ o. IfSome o (λ c. c.name ≡ u.name)) (sym h.is) (sym h.named))

-- behind a job at any slot
housed_behind : (ds : List Desk) (slot : ℕ) (job : Job) (u : Connected) → IsHome ds u → IsHoused (carry ds slot job) u
housed_behind ds slot job u h = elim (eqb_tells u.slot slot) [
  | inl a ↦ (
    seat_after ds slot job u.slot (seat_of (slice_get ds u.slot) h.it h.is),
    subst (λ k. IfSome (there (carry ds slot job) k) (λ c. c.name ≡ u.name)) (sym a.1) (named_there (λ n. n ≡ u.name) ds slot job h.it (ap (there ds) (sym a.1) ∙ h.is) (sym h.named)),
  )
  | inr a ↦ home_housed (carry ds slot job) u (home_same ds (carry ds slot job) u (ap connection_at (carry_other ds slot job u.slot a.1)) h)
]

pub each_behind : (ds : List Desk) (slot : ℕ) (job : Job) (us : List Connected) → Each (IsHome ds) us → Each (IsHoused (carry ds slot job)) us
each_behind ds slot job us h = each_imp (IsHome ds) (IsHoused (carry ds slot job)) us (λ u k. housed_behind ds slot job u k) h

-- behind one that leaves each connection
pub each_idle : (ds : List Desk) (slot : ℕ) (job : Job) (us : List Connected) → ((k : ℕ) → there (carry ds slot job) k ≡ there ds k) → Each (IsHoused ds) us → Each (IsHoused (carry ds slot job)) us
each_idle ds slot job us e h =
    each_imp (IsHoused ds) (IsHoused (carry ds slot job)) us (λ u k. (seat_after ds slot job u.slot k.0, subst (λ o. IfSome o (λ c. c.name ≡ u.name)) (sym (e u.slot)) k.1)) h

-- the unit of a connection that came
pub brought_housed : (ds : List Desk) (u : Connected) (c : Connection) → IsSome (slice_get ds u.slot) → there ds u.slot ≡ None → c.name ≡ u.name → IsHoused (carry ds u.slot (attach (Some c))) u
brought_housed ds u c seat empty named = (seat_after ds u.slot (attach (Some c)) u.slot seat, brought_there (λ n. n ≡ u.name) ds u.slot c empty named)

pub seat_in : (ds : List Desk) (k : ℕ) → k < length ds → IsSome (slice_get ds k)
seat_in ds k h = let found = slice_get_in ds k h in subst (λ o. IsSome o) (sym found.1) refl
