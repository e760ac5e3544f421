-- Which bays a stop may leave.
use Rattle.std.specs.Prelude.{◌≡◌, ℕ, suc, false, ◌<◌, ◌==◌, List, [], ◌∷◌, ◌++◌, take, Option, Some, None, IsSome, IfSome, option_map, slice_get, if◌then◌else◌}
use Rattle.std.specs.Option.{option_or, option_map_or}
use Rattle.fj_outside.specs.declared.errors.Stop.{Stop}
use Rattle.fj_outside.specs.declared.errors.Stop.TheVariants.{Failed}
use Rattle.fj_connect.specs.Connection.{Connection}
use Rattle.fj_slot.specs.Serving.{Served}
use Rattle.fj_bay.specs.Bay.{Bay}
use Rattle.fj_bay.specs.Jobs.{Job, attach, detach, move, go, change, flush, look, resume, Answer}
use Rattle.fj_bay.specs.Serving.{serve}

-- the first place at which two lists differ, also where one ends before the other
abbrev pub first_difference : List ℕ → List ℕ → Option ℕ
first_difference [] [] = None
first_difference [] (y ∷ ys) = Some 0
first_difference (x ∷ xs) [] = Some 0
first_difference (x ∷ xs) (y ∷ ys) = if x == y then option_map (λ n. suc n) (first_difference xs ys) else Some 0

-- the connection that a job took out
abbrev pub taken_out : Job → Option Connection
taken_out (detach place) = place
taken_out _ = None

-- the bytes of the connection's file then, in the bay or in the job
abbrev pub bytes_left : Served Bay Job Answer → List ℕ
bytes_left s = option_map_or (λ (c : Connection). c.bytes) (option_or s.engine.connection (taken_out s.job)) []

-- the first byte of the file that a job changes
abbrev pub first_change : Bay → Option Connection → Job → Option ℕ
first_change bay None job = None
first_change bay (Some c) job = first_difference c.bytes (bytes_left (serve bay job))

-- the bytes are as before below the first one that is changed, and all of them where none is
abbrev pub AgreeBelow : Option ℕ → List ℕ → List ℕ → Type 0
AgreeBelow None old new = new ≡ old
AgreeBelow (Some first) old new = take first new ≡ take first old

-- a job that calls on the file; no other takes memory or fails
abbrev pub MayStop : Job → Type 0
MayStop (detach place) = Unit {0}
MayStop (move t) = Unit {0}
MayStop (go how) = Unit {0}
MayStop (attach brought) = ⊥
MayStop (change edit) = ⊥
MayStop flush = ⊥
MayStop (look place) = ⊥
MayStop resume = ⊥

-- What a stop in a job leaves: the connection under its name, with its modes and those bytes; after a failure of the outside the count
-- of faults of its file is not 0. Nothing stops on an empty bay.
pub record IsSpoilt (old : Bay) (job : Job) (stop : Stop) (new : Bay) (faults : ℕ) : Type 0 where
  pub before : Connection
  pub full : old.connection ≡ Some before
  pub may : MayStop job
  pub after : Connection
  pub keeps : new.connection ≡ Some after
  pub named : after.name ≡ before.name
  pub modes : after.modes ≡ before.modes
  pub agrees : AgreeBelow (first_change old old.connection job) before.bytes after.bytes
  pub failed : stop ≡ Failed → 0 < faults

-- ---- the file then

-- A file that is back under that name, if it is there: it is the one of the bay's connection, and the job was stopped in it. So its
-- bytes are as before below the first one that the job changes, and all of them where it changes none. Only a scratch file is gone.
pub record MayLeave (bay : Bay) (job : Job) (name : List ℕ) (found : Option (List ℕ)) : Type 0 where
  pub before : Connection
  pub full : bay.connection ≡ Some before
  pub named : before.name ≡ name
  pub may : MayStop job
  pub agrees : IfSome found (λ bytes. AgreeBelow (first_change bay bay.connection job) before.bytes bytes)
  pub kept : before.modes.scratch ≡ false → IsSome found

-- a bay behind these jobs
abbrev pub behind : Bay → List Job → Bay
behind bay [] = bay
behind bay (job ∷ jobs) = behind (serve bay job).engine jobs

-- so one of these jobs leaves it, behind those in front of it, or the one behind all of them that takes the connection out
pub record SomeMayLeave (bay : Bay) (jobs : List Job) (name : List ℕ) (found : Option (List ℕ)) : Type 0 where
  pub number : ℕ
  pub job : Job
  pub at : slice_get (jobs ++ detach None ∷ []) number ≡ Some job
  pub leaves : MayLeave (behind bay (take number jobs)) job name found
