-- What remains of slots that hold desks.
use Rattle.std.proofs.Common.{◌≡◌, ◌||◌, IsSome, ℕ, zero, suc, Bool, true, false, List, [], ◌∷◌, ◌++◌, length, take, Some, None, Option, is_some, slice_get, option_map, IfSome, refl, sym, ap, ◌∙◌, subst, arith}
use Rattle.std.proofs.lemmas.List.{take_all, length-map}
use Rattle.fj_value.specs.declared.condition.Condition.{Condition}
use Rattle.fj_connect.specs.Connection.{Connection}
use Rattle.fj_connect.specs.Linked.{Linked, connection_of}
use Rattle.fj_slot.specs.declared.stop.Halt.{Halt}
use Rattle.fj_slot.specs.Ledger.{Ledger}
use Rattle.fj_slot.specs.Sound.{IsSound, served_by}
use Rattle.fj_world.specs.Rack.{Rack}
use Rattle.fj_bay.specs.Bay.{Bay as PlainBay}
use Rattle.fj_bay.specs.Plain.{place_of}
use Rattle.fj_bay.specs.Meaning.{bay_meaning}
use Rattle.fj_bay.specs.declared.bay.Bay.{Bay}
use Rattle.fj_bay.specs.declared.job.Job.{Job}
use Rattle.fj_bay.specs.declared.job.Answer.{Answer}
use Rattle.fj_meaning_jobs.specs.Both.{Both}
use Rattle.fj_meaning_jobs.specs.Core.{Connected}
use Rattle.fj_meaning_jobs.specs.Desks.{Desk}
use Rattle.fj_meaning_turns.specs.Executing.{HoldsDesk, HoldsDesks}
use Rattle.fj_run_end.specs.Finding.{OfEach}
use Rattle.fj_run_end.specs.Remains.{IsWhatRemains, AreOfDesks}
use Rattle.fj_run_end.specs.declared.remains.Remains.{Remains}

pub not_halted : (halt : Option Halt) → option_map (λ (h : Halt). h.stop) halt ≡ None → halt ≡ None
not_halted None e = refl
not_halted (Some h) e = absurd (cc)

pub some_is : {X : Type 0} → {x y : X} → Some x ≡ Some y → x ≡ y
some_is e = cc

pub some_in : {X : Type 0} → (o : Option X) → IsSome o → (x : X) × (o ≡ Some x)
some_in None e = absurd (cc)
some_in (Some x) e = (x, refl)

pub either : (a b : Bool) → (a || b) ≡ false → (a ≡ false) × (b ≡ false)
either true b e = cc
either false b e = (refl, e)

pub placed : {F : Type 0} → (told : F → Bool) (bytes : F → List ℕ) (c : Linked F) (place : Option Connection) → place_of told bytes (Some c) ≡ Some place
    → (told c.file ≡ true) × (place ≡ Some (connection_of bytes c))
placed told bytes c place e = by (told c.file) refl
  where
    by : (b : Bool) → told c.file ≡ b → (told c.file ≡ true) × (place ≡ Some (connection_of bytes c))
    by true t = (t, (let is = rw t at e in cc))
    by false t = absurd (let is = rw t at e in cc)

place_in : (place : Option (Option Connection)) (halt : Option Condition) (bay : PlainBay)
    → option_map (λ (p : Option Connection). record { connection = p; halt = halt }) place ≡ Some bay → place ≡ Some bay.connection
place_in None halt bay e = absurd (cc)
place_in (Some p) halt bay e =
    let is : record { connection = p; halt = halt } ≡ bay = cc in ap (λ (b : PlainBay). Some b.connection) is

module _ {F : Type 0} (told : F → Bool) (bytes : F → List ℕ) (count : F → ℕ) where
  -- the engine at home is what the jobs leave, once all are done
  pub at_home : (l : Ledger (Bay F) (Job F) Answer) (s : PlainBay) (ts : List _) (bay : Bay F) → IsSound (bay_meaning told bytes count) s ts l
      → l.halt ≡ None → l.done ≡ length l.jobs → l.home ≡ Some bay → (bay_meaning told bytes count).state bay ≡ Some (served_by (bay_meaning told bytes count) s ts)
  at_home l s ts bay sound running done home =
      let m = bay_meaning told bytes count in
      let is = subst (λ o. IfSome o (λ e. m.state e ≡ Some (served_by m s (take l.done ts)))) home (sound.home running) in
      let long : l.done ≡ length ts = done ∙ sym (length-map l.jobs m.task) ∙ ap length sound.jobs ∙ length-map ts Some in
      is ∙ ap (λ xs. Some (served_by m s xs)) (ap (λ n. take n ts) long ∙ take_all (length ts) ts (omega arith))

  pub of_desk : (l : Ledger (Bay F) (Job F) Answer) (it : Remains F) (d : Desk) → IsWhatRemains (bay_meaning told bytes count) l it → HoldsDesk (bay_meaning told bytes count) l d
      → it.stop ≡ None → place_of told bytes it.connection ≡ Some d.bay.connection
  of_desk l it d is holds running =
      let m = bay_meaning told bytes count in
      let going = not_halted is.ledger.halt (sym is.stop ∙ running) in
      let bay = at_home is.ledger holds.jobs.start holds.jobs.jobs is.bay (is.serves.sound holds.jobs.start holds.jobs.jobs holds.sound) going (is.finished going) is.home in
      ap (place_of told bytes) is.connection ∙ place_in (place_of told bytes is.bay.connection) is.bay.halt d.bay (bay ∙ ap (λ (x : Desk). Some x.bay) (sym holds.desk))

  pub of_both : (slots : List (Ledger (Bay F) (Job F) Answer)) (all : List (Remains F)) → Both (IsWhatRemains (bay_meaning told bytes count)) slots all
      → (at : ℕ) (it : Remains F) → slice_get all at ≡ Some it → (l : Ledger (Bay F) (Job F) Answer) × (slice_get slots at ≡ Some l) × IsWhatRemains (bay_meaning told bytes count) l it
  of_both [] [] b zero it e = absurd (cc)
  of_both [] [] b (suc at) it e = absurd (cc)
  of_both [] (y ∷ ys) b at it e = absurd b
  of_both (x ∷ xs) [] b at it e = absurd b
  of_both (x ∷ xs) (y ∷ ys) b zero it e = let is : y ≡ it = cc in (x, refl, subst (λ z. IsWhatRemains (bay_meaning told bytes count) x z) is b.0)
  of_both (x ∷ xs) (y ∷ ys) b (suc at) it e = of_both xs ys b.1 at it e

  pub with_both : (slots : List (Ledger (Bay F) (Job F) Answer)) (all : List (Remains F)) → Both (IsWhatRemains (bay_meaning told bytes count)) slots all
      → (at : ℕ) (l : Ledger (Bay F) (Job F) Answer) → slice_get slots at ≡ Some l → (it : Remains F) × (slice_get all at ≡ Some it) × IsWhatRemains (bay_meaning told bytes count) l it
  with_both [] all b at l e = cc
  with_both (x ∷ xs) [] b at l e = absurd b
  with_both (x ∷ xs) (y ∷ ys) b zero l e = let is : x ≡ l = cc in (y, refl, subst (λ z. IsWhatRemains (bay_meaning told bytes count) z y) is b.0)
  with_both (x ∷ xs) (y ∷ ys) b (suc at) l e = with_both xs ys b.1 at l e

  pub all_of_desks : (rack : Rack (Bay F) (Job F) Answer) (all : List (Remains F)) (desks : List Desk) → Both (IsWhatRemains (bay_meaning told bytes count)) rack.slots all
      → HoldsDesks (bay_meaning told bytes count) rack desks → AreOfDesks told bytes all desks
  all_of_desks rack all desks both holds at c d at_it at_d =
      let was = of_both rack.slots all both at _ at_it in
      placed told bytes c d.bay.connection (of_desk was.0 _ d was.2 (holds at was.0 d was.1 at_d) refl)

  -- of each unit, by what remains of its slot
  pub slots_each : (slots : List (Ledger (Bay F) (Job F) Answer)) (all : List (Remains F)) → Both (IsWhatRemains (bay_meaning told bytes count)) slots all
      → (P : Connected → Remains F → Type 0) (Q : Connected → Ledger (Bay F) (Job F) Answer → Type 0)
      → ((u : Connected) (l : Ledger (Bay F) (Job F) Answer) (it : Remains F) → IsWhatRemains (bay_meaning told bytes count) l it → P u it → Q u l)
      → (units : List Connected) → OfEach units all P → OfEach units slots Q
  slots_each slots all both P Q f [] h = tt
  slots_each slots all both P Q f (u ∷ us) h = (
    let it = h.0 in
        let was = of_both slots all both u.slot it.0 it.1 in
        (was.0, was.1, f u was.0 it.0 was.2 it.2),
    slots_each slots all both P Q f us h.1,
  )

  -- a slot did not stop of which what remains did not
  pub slot_runs : (l : Ledger (Bay F) (Job F) Answer) (it : Remains F) → IsWhatRemains (bay_meaning told bytes count) l it → it.stop ≡ None → l.halt ≡ None
  slot_runs l it is running = by l.halt (λ halted. ap (λ (k : Ledger (Bay F) (Job F) Answer). k.halt) (sym (is.stopped halted)) ∙ not_halted is.ledger.halt (sym is.stop ∙ running))
    where
      by : (o : Option Halt) → (is_some o ≡ true → o ≡ None) → o ≡ None
      by None f = refl
      by (Some h) f = f refl

-- one more on both sides
pub both_more : {X Y : Type 0} → (R : X → Y → Type 0) (xs : List X) (ys : List Y) (x : X) (y : Y) → Both R xs ys → R x y → Both R (xs ++ x ∷ []) (ys ++ y ∷ [])
both_more R [] [] x y b r = (r, tt)
both_more R [] (b' ∷ ys) x y b r = absurd b
both_more R (a ∷ xs) [] x y b r = absurd b
both_more R (a ∷ xs) (b' ∷ ys) x y b r = (b.0, both_more R xs ys x y b.1 r)

pub front_get : {X : Type 0} → (xs : List X) (x y : X) (k : ℕ) → slice_get xs k ≡ Some y → slice_get (xs ++ x ∷ []) k ≡ Some y
front_get [] x y zero e = absurd (cc)
front_get [] x y (suc k) e = absurd (cc)
front_get (z ∷ xs) x y zero e = e
front_get (z ∷ xs) x y (suc k) e = front_get xs x y k e

pub last_get : {X : Type 0} → (xs : List X) (x : X) → slice_get (xs ++ x ∷ []) (length xs) ≡ Some x
last_get [] x = refl
last_get (z ∷ xs) x = last_get xs x
