-- What comes of a member.
use Rattle.std.specs.Prelude.{◌≡◌, ℕ, ◌<◌, [], ◌∷◌, List, length, map, max, false, Option, Some, None, slice_index_or}
use Rattle.std.specs.FinSet as set
use Rattle.fj_outside.specs.Holdings.{Holdings}
use Rattle.fj_report.specs.declared.status.Status.{Status}
use Rattle.fj_exit.specs.Status.{exit_status_of}
use Rattle.fj_job.specs.Answers.{HasRun}
use Rattle.fj_job.specs.Seen.{Seen, OnDisk, seen}
use Rattle.fj_job.specs.declared.task.Task.TheVariants.{Execute}
use Rattle.fj_batch.specs.declared.member.Member.{Member}

-- what a sink in memory took before and after
abbrev pub seen_taken : List ℕ → List ℕ → Seen (List ℕ)
seen_taken old new = seen (λ (taken : List ℕ). Unit {0}) (λ (taken : List ℕ). taken) (λ (taken : List ℕ). 0) old new

module _ {R D : Type 0} where
  abbrev pub names_of : List (Member R D) → List (List ℕ)
  names_of members = map (λ (member : Member R D). member.name) members

  -- it was not begun: it printed nothing and has no answer, and no file of its disk is in use
  pub record IsNew (tells : D → Type 0) (held : D → Holdings) (member : Member R D) : Type 0 where
    pub unanswered : member.status ≡ None
    pub silent : member.out ≡ []
    pub at_home : tells member.disk → (held member.disk).in_use ≡ set.empty

  -- A member was run by itself, with so many workers beside. Its bytes and its status are those of its own run.
  pub record HasCome (workers : ℕ) (old new : Member R D) (source : Seen (List ℕ)) (disk : Seen OnDisk) : Type 0 where
    pub name : new.name ≡ old.name
    pub status : Status
    pub answered : new.status ≡ Some status
    pub ran : HasRun (Execute workers false) status source (seen_taken old.out new.out) disk

-- each of the elements, and what stands at its place behind it
pub record EachBecomes {X : Type 0} (Becomes : X → X → Type 0) (old new : List X) : Type 0 where
  pub long : length new ≡ length old
  pub each : (i : ℕ) (d : X) → i < length old → Becomes (slice_index_or old i d) (slice_index_or new i d)

-- the exit status of a member that was not begun is 0
abbrev pub exit_of : Option Status → ℕ
exit_of None = 0
exit_of (Some status) = exit_status_of status

-- the greatest exit status of the members
abbrev pub greatest_exit : {R D : Type 0} → List (Member R D) → ℕ
greatest_exit [] = 0
greatest_exit (member ∷ members) = max (exit_of member.status) (greatest_exit members)
