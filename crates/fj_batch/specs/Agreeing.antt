-- When the replies to two members are one.
use Rattle.std.specs.Prelude.{◌≡◌, ℕ, List}
use Rattle.fj_job.specs.Answers.{IsAnswer}
use Rattle.fj_job.specs.Reply.{files_in}
use Rattle.fj_job.specs.Seen.{Seen, OnDisk}
use Rattle.fj_batch.specs.declared.member.Member.{Member}
use Rattle.fj_batch.specs.Members.{HasCome}

module _ {R D S E : Type 0} (old new : Member R D) (source : Seen (List ℕ)) (disk : Seen OnDisk) (old' new' : Member S E) (source' : Seen (List ℕ)) (disk' : Seen OnDisk) where
  -- both tell what they hold, and have the same text and the same files, and had printed as much
  pub record AgreeBefore : Type 0 where
    pub told : source.tells × disk.tells
    pub told' : source'.tells × disk'.tells
    pub text : source.before ≡ source'.before
    pub files : files_in disk.before.held.files ≡ files_in disk'.before.held.files
    pub printed : old.out ≡ old'.out

  -- both have the same answer and bytes, and left the same files
  pub record AgreeAfter : Type 0 where
    pub answer : new.status ≡ new'.status
    pub bytes : new.out ≡ new'.out
    pub files : files_in disk.after.held.files ≡ files_in disk'.after.held.files

  -- where neither met a fault nor want of memory
  abbrev pub AnswersAgree : Type 0
  AnswersAgree = (workers workers' : ℕ) (one : HasCome workers old new source disk) (other : HasCome workers' old' new' source' disk') → IsAnswer one.status → IsAnswer other.status
      → AgreeBefore → AgreeAfter
