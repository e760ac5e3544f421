-- What is found of a file whose connection was closed.
use Rattle.std.proofs.Common.{◌≡◌, ◌⊎◌, inl, inr, ℕ, ◌≤◌, Bool, true, false, not, List, length, take, Some, None, Option, IsSome, IfSome, Result, Ok, Err, OnOk, OnErr, option_map, refl, sym, ap, ◌∙◌, subst, arith}
use Rattle.std.specs.Prelude.{if◌then◌else◌}
use Rattle.std.proofs.lemmas.List.{take_all, length-map}
use Rattle.std.proofs.lemmas.Slice.Eq.{bytes_eq-Decides}
use Rattle.fj_outside.specs.Faults.{Rose}
use Rattle.fj_outside.specs.Holdings.{Holdings, given, without}
use Rattle.fj_outside.specs.declared.errors.Stop.{Stop}
use Rattle.fj_outside.proofs.HoldingLaws.{steps}
use Rattle.fj_connect.specs.Connection.{Connection}
use Rattle.fj_connect.specs.Linked.{Linked, connection_of}
use Rattle.fj_connect.specs.Positions.{ended}
use Rattle.fj_slot.specs.Ledger.{Ledger}
use Rattle.fj_slot.specs.Serving.{Meaning}
use Rattle.fj_slot.specs.Sound.{IsSound, served_by}
use Rattle.fj_slot.specs.declared.stop.Halt.{Halt}
use Rattle.fj_bay.specs.Bay.{Bay as PlainBay}
use Rattle.fj_bay.specs.Jobs.{Job as PlainJob, Answer as PlainAnswer, detach}
use Rattle.fj_bay.specs.Meaning.{bay_meaning}
use Rattle.fj_bay.specs.Serving.{serve}
use Rattle.fj_bay.specs.Spoilt.{first_difference, first_change, AgreeBelow, MayLeave, behind, SomeMayLeave}
use Rattle.fj_bay.specs.declared.bay.Bay.{Bay}
use Rattle.fj_bay.specs.declared.job.Job.{Job}
use Rattle.fj_bay.specs.declared.job.Answer.{Answer}
use Rattle.fj_bay.proofs.Behind.{behind_is}
use Rattle.fj_bay.proofs.Performed.{agree}
use Rattle.fj_meaning_jobs.specs.Both.{Both}
use Rattle.fj_meaning_jobs.specs.Core.{Connected}
use Rattle.fj_meaning.specs.State.{Files}
use Rattle.fj_run_units.specs.Files.{files_of}
use Rattle.fj_run_units.specs.Returning.{returned, IsAsDue}
use Rattle.fj_run_end.specs.Finding.{IsEndedUpTo, IsFound, IsFoundOf, IsLeftBehind, OfEach}
use Rattle.fj_run_end.specs.Remains.{IsWhatRemains}
use Rattle.fj_run_end.specs.declared.remains.Remains.{Remains}
use Rattle.fj_run_end.proofs.Desking.{at_home, front_get, last_get, slots_each}
use Rattle.fj_run_end.proofs.Stopped.{holds_it, stopped_at}

-- ---- the end of a record

-- it was ended, or that was stopped
pub until_end : {T : Type 0} → (r : Result T Stop) (c : Connection) (new : Connection) → OnOk r (new ≡ ended c) → OnErr r ((n : ℕ) → take n (ended c).bytes ≡ take n c.bytes → take n new.bytes ≡ take n c.bytes)
    → IsEndedUpTo None c new.bytes
until_end (Ok x) c new is kept = agree c.bytes (ended c).bytes new.bytes (λ n e. ap (λ (d : Connection). take n d.bytes) is ∙ e) (first_difference c.bytes (ended c).bytes) refl
until_end (Err e) c new is kept = agree c.bytes (ended c).bytes new.bytes kept (first_difference c.bytes (ended c).bytes) refl

-- ---- a file that came back, and maybe was removed

-- one that was to be removed is as it was to be
gone_by : (keep : Bool) (n bytes : List ℕ) (old : Files) (found : Option (List ℕ)) (before now : ℕ) → IsAsDue before now found (returned n bytes keep old n) → keep ≡ false → (found ≡ None) ⊎ Rose before now
gone_by true n bytes old found before now due e = absurd (cc)
gone_by false n bytes old found before now due e =
    let none : returned n bytes false old n ≡ None = ap (λ b. if b then None else old n) ((bytes_eq-Decides n n).1 refl) in
    elim due [ inl is ↦ inl (is ∙ none) | inr rose ↦ inr rose.1 ]

found_there : (keep : Bool) (found : Option (List ℕ)) (bytes : List ℕ) (before now : ℕ) → (keep ≡ false → (found ≡ None) ⊎ Rose before now) → found ≡ Some bytes → IsFound keep found (λ b. b ≡ bytes) before now
found_there keep found bytes before now gone e =
    record { kept = λ k. subst (λ o. IsSome o) (sym e) refl; gone = gone; bytes = subst (λ o. IfSome o (λ b. b ≡ bytes)) (sym e) refl }

found_gone : (found : Option (List ℕ)) (bytes : List ℕ) (before now : ℕ) → found ≡ None → IsFound false found (λ b. b ≡ bytes) before now
found_gone found bytes before now e = record { kept = λ k. absurd (cc); gone = λ k. inl e; bytes = subst (λ o. IfSome o (λ b. b ≡ bytes)) (sym e) tt }

module _ (h new : Holdings) (n bytes : List ℕ) (sound : Bool) (before now : ℕ) where
  found_by : (keep : Bool) → IsAsDue before now (files_of new n) (returned n bytes keep (files_of h) n) → new ≡ (if keep then given h n bytes sound else without (given h n bytes sound) n)
      → IsFound keep (files_of new n) (λ b. b ≡ bytes) before now
  found_by true due is =
      found_there true (files_of new n) bytes before now (gone_by true n bytes (files_of h) (files_of new n) before now due) (ap (λ (z : Holdings). files_of z n) is ∙ (steps h n bytes sound).1.0)
  found_by false due is = found_gone (files_of new n) bytes before now (ap (λ (z : Holdings). files_of z n) is ∙ (steps (given h n bytes sound) n bytes sound).2.0)

  pub found_back : {A B : Type 0} → (keep : Bool) (result : Result A B) → OnOk result (new ≡ (if keep then given h n bytes sound else without (given h n bytes sound) n))
      → OnErr result (new ≡ given h n bytes sound) → IsAsDue before now (files_of new n) (returned n bytes keep (files_of h) n) → IsFound keep (files_of new n) (λ b. b ≡ bytes) before now
  found_back keep (Ok x) ok err due = found_by keep due ok
  found_back keep (Err x) ok err due =
      found_there keep (files_of new n) bytes before now (gone_by keep n bytes (files_of h) (files_of new n) before now due) (ap (λ (z : Holdings). files_of z n) err ∙ (steps h n bytes sound).1.0)

-- it has the bytes that its connection had then
pub found_so : (keep : Bool) (found : Option (List ℕ)) (bytes : List ℕ) (P : List ℕ → Type 0) (before now : ℕ) → IsFound keep found (λ b. b ≡ bytes) before now → P bytes → IsFound keep found P before now
found_so keep None bytes P before now f p = record { kept = f.kept; gone = f.gone; bytes = tt }
found_so keep (Some b) bytes P before now f p = record { kept = f.kept; gone = f.gone; bytes = subst P (sym f.bytes) p }

-- where the disk's own number rises before or behind
pub rose_wider : (a b c d : ℕ) → a ≤ b → c ≤ d → Rose b c → Rose a d
rose_wider a b c d l k rose = omega (arith, rose, l, k)

found_wider : (keep : Bool) (found : Option (List ℕ)) (P : List ℕ → Type 0) (a b c d : ℕ) → a ≤ b → c ≤ d → IsFound keep found P b c → IsFound keep found P a d
found_wider keep found P a b c d l k f = record { kept = f.kept; gone = λ e. elim (f.gone e) [ inl none ↦ inl none | inr rose ↦ inr (rose_wider a b c d l k rose) ]; bytes = f.bytes }

pub found_of_wider : {F : Type 0} → (told : F → Bool) (bytes : F → List ℕ) (it : Remains F) (name : List ℕ) (found : Option (List ℕ)) (a b c d : ℕ) → a ≤ b → c ≤ d
    → IsFoundOf told bytes it name found b c → IsFoundOf told bytes it name found a d
found_of_wider told bytes it name found a b c d l k f = record {
  connection = f.connection;
  has = f.has;
  named = f.named;
  file = λ t. found_wider (not f.connection.modes.scratch) found (IsEndedUpTo it.stop (connection_of bytes f.connection)) a b c d l k (f.file t);
}

-- ---- what remains of slots that are sound

-- what is found, where the bytes are those
as_found : (scratch : Bool) (found : Option (List ℕ)) (P Q : List ℕ → Type 0) (before now : ℕ) → ((b : List ℕ) → P b → Q b) → IsFound (not scratch) found P before now
    → IfSome found Q × (scratch ≡ false → IsSome found) × (scratch ≡ true → (found ≡ None) ⊎ Rose before now)
as_found scratch None P Q before now f is = (tt, λ e. is.kept (ap not e), λ e. inl refl)
as_found scratch (Some b) P Q before now f is = (f b is.bytes, λ e. refl, λ e. is.gone (ap not e))

-- the job behind all others takes the connection out
unfolding_ends : (bay : PlainBay) (c : Connection) → bay.connection ≡ Some c → first_change bay bay.connection (detach None) ≡ first_difference c.bytes (ended c).bytes
unfolding serve
unfolding_ends bay c full =
    subst (λ (o : Option Connection). first_change (record { connection = o; halt = bay.halt }) o (detach None) ≡ first_difference c.bytes (ended c).bytes) (sym full) refl

module _ {F : Type 0} (told : F → Bool) (bytes : F → List ℕ) (count : F → ℕ) where
  abbrev m : Meaning (Bay F) (Job F) Answer PlainBay PlainJob PlainAnswer
  m = bay_meaning told bytes count

  module _ (l : Ledger (Bay F) (Job F) Answer) (s : PlainBay) (ts : List PlainJob) (sound : IsSound m s ts l) (bay : Bay F) (home : l.home ≡ Some bay) (name : List ℕ) (found : Option (List ℕ))
      (before now : ℕ) (c : Linked F) (has : bay.connection ≡ Some c) (named : c.name ≡ name) where
    -- a job may leave it so, and a scratch file is gone
    abbrev LeavesSo : PlainBay → PlainJob → Type 0
    LeavesSo bay job = (y : MayLeave bay job name found) × (y.before.modes.scratch ≡ true → (found ≡ None) ⊎ Rose before now)

    -- so does the one of that number
    abbrev LeavesAt : ℕ → Type 0
    LeavesAt number = (x : SomeMayLeave s ts name found) × (x.number ≡ number) × (x.leaves.before.modes.scratch ≡ true → (found ≡ None) ⊎ Rose before now)

    long : length ts ≡ length l.jobs
    long = sym (sym (length-map l.jobs m.task) ∙ ap length sound.jobs ∙ length-map ts Some)

    -- the slot stopped in a job
    stopped_in : (h : Halt) → l.halt ≡ Some h → (told c.file ≡ true → IsFound (not c.modes.scratch) found (IsEndedUpTo (Some h.stop) (connection_of bytes c)) before now) → LeavesAt l.done
    stopped_in h halt file =
        let at = stopped_at told bytes count l s ts h bay sound halt home in
        let was = served_by m s (take l.done ts) in
        let spoilt = at.spoilt in
        let here = holds_it told bytes count bay at.left c has at.tells in
        let same : spoilt.after ≡ connection_of bytes c = (let z : Some spoilt.after ≡ Some (connection_of bytes c) = sym spoilt.keeps ∙ here.1 in cc) in
        let by = as_found c.modes.scratch found (IsEndedUpTo (Some h.stop) (connection_of bytes c)) (AgreeBelow (first_change was was.connection at.job) spoilt.before.bytes) before now
        (λ b e. subst (AgreeBelow (first_change was was.connection at.job) spoilt.before.bytes) (ap (λ (x : Connection). x.bytes) same ∙ sym e) spoilt.agrees) (file here.0) in
        let leaves = subst (λ b. LeavesSo b at.job) (behind_is m refl s (take l.done ts)) (
          record {
            before = spoilt.before;
            full = spoilt.full;
            named = sym spoilt.named ∙ ap (λ (x : Connection). x.name) same ∙ named;
            may = spoilt.may;
            agrees = by.0;
            kept = λ e. by.1 (ap (λ (x : Connection). x.modes.scratch) (sym same) ∙ ap (λ (x : _). x.scratch) spoilt.modes ∙ e);
          },
          λ e. by.2 (ap (λ (x : Connection). x.modes.scratch) (sym same) ∙ ap (λ (x : _). x.scratch) spoilt.modes ∙ e),
        ) in (record { number = l.done; job = at.job; at = front_get ts (detach None) at.job l.done at.at; leaves = leaves.0 }, refl, leaves.1)

    -- its jobs were all done
    ended_behind : l.halt ≡ None → l.done ≡ length l.jobs → (told c.file ≡ true → IsFound (not c.modes.scratch) found (IsEndedUpTo None (connection_of bytes c)) before now) → LeavesAt l.done
    ended_behind running done file =
        let is = at_home told bytes count l s ts bay sound running done home in
        let was = served_by m s ts in
        let here = holds_it told bytes count bay was c has is in
        let all : take (length ts) ts ≡ ts = take_all (length ts) ts (omega arith) in
        let first = unfolding_ends was (connection_of bytes c) here.1 in
        let by = as_found c.modes.scratch found (IsEndedUpTo None (connection_of bytes c)) (AgreeBelow (first_change was was.connection (detach None)) (bytes c.file)) before now
        (λ b e. subst (λ o. AgreeBelow o (bytes c.file) b) (sym first) e) (file here.0) in
        let leaves = subst (λ b. LeavesSo b (detach None)) (behind_is m refl s ts ∙ ap (behind s) (sym all)) (
          record { before = connection_of bytes c; full = here.1; named = named; may = tt; agrees = by.0; kept = by.1 },
          by.2,
        ) in (record { number = length ts; job = detach None; at = last_get ts (detach None); leaves = leaves.0 }, long ∙ sym done, leaves.1)

    pub leaves_by : (l.halt ≡ None → l.done ≡ length l.jobs) → (stop : Option Stop) → stop ≡ option_map (λ (h : Halt). h.stop) l.halt
        → (told c.file ≡ true → IsFound (not c.modes.scratch) found (IsEndedUpTo stop (connection_of bytes c)) before now) → LeavesAt l.done
    leaves_by finished stop is file = by l.halt refl
      where
        by : (o : Option Halt) → l.halt ≡ o → LeavesAt l.done
        by None e = ended_behind e (finished e) (subst (λ x. told c.file ≡ true → IsFound (not c.modes.scratch) found (IsEndedUpTo x (connection_of bytes c)) before now) (is ∙ ap (option_map (λ (h : Halt). h.stop)) e) file)
        by (Some h) e = stopped_in h e (subst (λ x. told c.file ≡ true → IsFound (not c.modes.scratch) found (IsEndedUpTo x (connection_of bytes c)) before now) (is ∙ ap (option_map (λ (h : Halt). h.stop)) e) file)

  slot_leaves : (l : Ledger (Bay F) (Job F) Answer) (it : Remains F) (name : List ℕ) (found : Option (List ℕ)) (before now : ℕ) → IsWhatRemains m l it → IsFoundOf told bytes it name found before now
      → (s : PlainBay) (ts : List PlainJob) → IsSound m s ts l → IsLeftBehind l s ts name found before now
  slot_leaves l it name found before now is file s ts sound =
      let it = leaves_by is.ledger s ts (is.serves.sound s ts sound) is.bay is.home name found before now file.connection (sym is.connection ∙ file.has) file.named is.finished it.stop is.stop file.file in
      record { some = it.0; from = omega (arith, is.serves.done, it.1); stopped = λ e. it.1 ∙ ap (λ (k : Ledger (Bay F) (Job F) Answer). k.done) (is.stopped e); gone = it.2 }

  pub slots_leave : (slots : List (Ledger (Bay F) (Job F) Answer)) (all : List (Remains F)) → Both (IsWhatRemains m) slots all → (files : Files) (before now : ℕ) (units : List Connected)
      → OfEach units all (λ u it. IsFoundOf told bytes it u.name (files u.name) before now)
      → OfEach units slots (λ u l. (s : PlainBay) (ts : List PlainJob) → IsSound m s ts l → IsLeftBehind l s ts u.name (files u.name) before now)
  slots_leave slots all both files before now =
      slots_each told bytes count slots all both (λ u it. IsFoundOf told bytes it u.name (files u.name) before now)
      (λ u l. (s : PlainBay) (ts : List PlainJob) → IsSound m s ts l → IsLeftBehind l s ts u.name (files u.name) before now)
      (λ u l it is file. slot_leaves l it u.name (files u.name) before now is file)
