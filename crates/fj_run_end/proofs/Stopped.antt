-- A sound slot: the bay in which it stopped, and what remains of it once its jobs were performed.
use Rattle.std.proofs.Common.{◌≡◌, ℕ, ◌<◌, ◌≤◌, Bool, true, List, length, take, Some, None, Option, IsSome, IfSome, is_some, slice_get, option_map, refl, sym, ap, ◌∙◌, subst, arith}
use Rattle.std.proofs.lemmas.List.{take_all, length-map}
use Rattle.fj_outside.specs.declared.errors.Stop.{Stop}
use Rattle.fj_outside.specs.declared.errors.Stop.TheVariants.{Failed}
use Rattle.fj_connect.specs.Connection.{Connection}
use Rattle.fj_connect.specs.Linked.{Linked, connection_of}
use Rattle.fj_slot.specs.declared.stop.Halt.{Halt}
use Rattle.fj_slot.specs.Ledger.{Ledger}
use Rattle.fj_slot.specs.Serving.{Meaning}
use Rattle.fj_slot.specs.Sound.{IsSound, served_by}
use Rattle.fj_bay.specs.Bay.{Bay as PlainBay}
use Rattle.fj_bay.specs.Jobs.{Job as PlainJob, Answer as PlainAnswer}
use Rattle.fj_bay.specs.Meaning.{bay_meaning, file_faults}
use Rattle.fj_bay.specs.Plain.{place_of, state_of}
use Rattle.fj_bay.specs.Spoilt.{IsSpoilt}
use Rattle.fj_bay.specs.declared.bay.Bay.{Bay}
use Rattle.fj_bay.specs.declared.job.Job.{Job}
use Rattle.fj_bay.specs.declared.job.Answer.{Answer}
use Rattle.fj_bay.proofs.Behind.{behind_is}
use Rattle.fj_run_end.specs.Fitting.{CountsStop}
use Rattle.fj_run_end.specs.Holding.{name_behind}
use Rattle.fj_run_end.specs.Remains.{IsWhatRemains}
use Rattle.fj_run_end.specs.declared.remains.Remains.{Remains}
use Rattle.fj_run_end.proofs.Desking.{at_home, placed, some_in, some_is}
use Rattle.fj_run_end.proofs.Halted.{halted_at}

abbrev pub linked_name : {F : Type 0} → Option (Linked F) → Option (List ℕ)
linked_name o = option_map (λ c. c.name) o

abbrev plain_name : Option Connection → Option (List ℕ)
plain_name o = option_map (λ (c : Connection). c.name) o

module _ {F : Type 0} (told : F → Bool) (bytes : F → List ℕ) (count : F → ℕ) where
  abbrev m : Meaning (Bay F) (Job F) Answer PlainBay PlainJob PlainAnswer
  m = bay_meaning told bytes count

  -- what a bay that tells has
  place_there : (bay : Bay F) (p : PlainBay) → state_of told bytes bay ≡ Some p → place_of told bytes bay.connection ≡ Some p.connection
  place_there bay p is = by (place_of told bytes bay.connection) refl
    where
      by : (o : Option (Option Connection)) → place_of told bytes bay.connection ≡ o → place_of told bytes bay.connection ≡ Some p.connection
      by None e = absurd (let z : None ≡ Some p = sym (ap (option_map (λ place. record { connection = place; halt = bay.halt })) e) ∙ is in cc)
      by (Some place) e =
          let z : Some (record { connection = place; halt = bay.halt }) ≡ Some p = sym (ap (option_map (λ place. record { connection = place; halt = bay.halt })) e) ∙ is in
          e ∙ ap (λ (x : PlainBay). Some x.connection) (some_is z)

  -- so it is of a connection that it has
  pub holds_it : (bay : Bay F) (p : PlainBay) (c : Linked F) → bay.connection ≡ Some c → state_of told bytes bay ≡ Some p → (told c.file ≡ true) × (p.connection ≡ Some (connection_of bytes c))
  holds_it bay p c has is = placed told bytes c p.connection (ap (place_of told bytes) (sym has) ∙ place_there bay p is)

  same_name : (o : Option (Linked F)) (place : Option Connection) → place_of told bytes o ≡ Some place → linked_name o ≡ plain_name place
  same_name None place e = ap plain_name (some_is e)
  same_name (Some c) place e = ap plain_name (sym (placed told bytes c place e).1)

  -- ---- a slot that stopped

  -- the job in which it did, and the bay that this left
  pub record IsStopped (l : Ledger (Bay F) (Job F) Answer) (s : PlainBay) (ts : List PlainJob) (h : Halt) (bay : Bay F) : Type 0 where
    pub job : PlainJob
    pub at : slice_get ts l.done ≡ Some job
    pub left : PlainBay
    pub tells : state_of told bytes bay ≡ Some left
    pub spoilt : IsSpoilt (served_by m s (take l.done ts)) job h.stop left (file_faults count bay.connection)

  pub stopped_at : (l : Ledger (Bay F) (Job F) Answer) (s : PlainBay) (ts : List PlainJob) (h : Halt) (bay : Bay F) → IsSound m s ts l → l.halt ≡ Some h → l.home ≡ Some bay → IsStopped l s ts h bay
  stopped_at l s ts h bay sound halt home =
      let at = halted_at m s ts l h sound halt in
      let same : at.engine ≡ bay = some_is (sym at.home ∙ home) in
      let left = some_in (m.state bay) (subst (λ e. IsSome (m.state e)) same at.tells) in
      let spoilt = subst (m.spoilt (served_by m s (take l.done ts)) at.job h.stop) same at.spoilt in
      record {
        job = at.job;
        at = at.at;
        left = left.0;
        tells = left.1;
        spoilt = subst (λ o. IfSome o (λ new. IsSpoilt (served_by m s (take l.done ts)) at.job h.stop new (file_faults count bay.connection))) left.1 spoilt;
      }

  -- the bay in which it stopped had a connection, of that name
  spoilt_name : (old : PlainBay) (job : PlainJob) (stop : Stop) (new : PlainBay) (faults : ℕ) → IsSpoilt old job stop new faults → plain_name new.connection ≡ plain_name old.connection
  spoilt_name old job stop new faults is = ap plain_name is.keeps ∙ ap Some is.named ∙ sym (ap plain_name is.full)

  -- ---- what remains of a slot

  -- The connection has the name that so many jobs leave: all of them, or those in front of the one in which the slot stopped. Where a fault
  -- stopped it, the file counts it.
  pub record IsLeft (l : Ledger (Bay F) (Job F) Answer) (it : Remains F) (s : PlainBay) (ts : List PlainJob) : Type 0 where
    pub number : ℕ
    pub from : l.done ≤ number
    pub within : number ≤ length ts
    pub stopped : is_some l.halt ≡ true → number ≡ l.done
    pub named : linked_name it.connection ≡ name_behind s ts number
    pub counts : (c : Linked F) → it.connection ≡ Some c → CountsStop (count c.file) it.stop

  module _ (l : Ledger (Bay F) (Job F) Answer) (it : Remains F) (s : PlainBay) (ts : List PlainJob) (is : IsWhatRemains m l it) (sound : IsSound m s ts l) where
    served : IsSound m s ts is.ledger
    served = is.serves.sound s ts sound

    long : length is.ledger.jobs ≡ length ts
    long = sym (length-map is.ledger.jobs m.task) ∙ ap length served.jobs ∙ length-map ts Some

    named_by : (bay : PlainBay) (number : ℕ) → plain_name bay.connection ≡ plain_name (served_by m s (take number ts)).connection → state_of told bytes is.bay ≡ Some bay
        → linked_name it.connection ≡ name_behind s ts number
    named_by bay number name tells =
        ap linked_name is.connection ∙ same_name is.bay.connection bay.connection (place_there is.bay bay tells) ∙ name ∙ ap (λ (b : PlainBay). plain_name b.connection) (behind_is m refl s (take number ts))

    named_so : (o : Option Halt) → is.ledger.halt ≡ o → linked_name it.connection ≡ name_behind s ts is.ledger.done
    named_so None halt =
        let done = is.finished halt in
        let all : take is.ledger.done ts ≡ ts = ap (λ n. take n ts) (done ∙ long) ∙ take_all (length ts) ts (omega arith) in
        named_by (served_by m s ts) is.ledger.done (ap (λ xs. plain_name (served_by m s xs).connection) (sym all)) (at_home told bytes count is.ledger s ts is.bay served halt done is.home)
    named_so (Some h) halt =
        let at = stopped_at is.ledger s ts h is.bay served halt is.home in
        named_by at.left is.ledger.done (spoilt_name (served_by m s (take is.ledger.done ts)) at.job h.stop at.left (file_faults count is.bay.connection) at.spoilt) at.tells

    counted : (o : Option Halt) → is.ledger.halt ≡ o → (c : Linked F) → it.connection ≡ Some c → CountsStop (count c.file) it.stop
    counted None halt c has failed none = absurd (let z : None ≡ Some Failed = sym (is.stop ∙ ap (option_map (λ (h : Halt). h.stop)) halt) ∙ failed in cc)
    counted (Some h) halt c has failed none =
        let at = stopped_at is.ledger s ts h is.bay served halt is.home in
        let stop : h.stop ≡ Failed = some_is (sym (is.stop ∙ ap (option_map (λ (x : Halt). x.stop)) halt) ∙ failed) in
        let low : 0 < count c.file = subst (λ o. 0 < file_faults count o) (sym is.connection ∙ has) (at.spoilt.failed stop) in
        omega (arith, low, none)

    pub left_so : IsLeft l it s ts
    left_so = record {
      number = is.ledger.done;
      from = is.serves.done;
      within = (let within = served.counted.within in omega (arith, within, long));
      stopped = λ halted. ap (λ (k : Ledger (Bay F) (Job F) Answer). k.done) (is.stopped halted);
      named = named_so is.ledger.halt refl;
      counts = counted is.ledger.halt refl;
    }
