-- What a batch answers, and what of its bytes a sink took.
use Rattle.std.specs.Prelude.{◌≡◌, ◌⊎◌, ℕ, List, ◌++◌, Option, Some, None}
use Rattle.fj_run_items.specs.Handing.{TakesFront, TakesPart}
use Rattle.fj_batch.specs.declared.batch.BatchStatus.{BatchStatus}
use Rattle.fj_batch.specs.declared.batch.BatchStatus.TheVariants.{Ran, Usage, WriteFault, Memory}
use Rattle.fj_batch.specs.declared.member.Member.{Member}
use Rattle.fj_batch.specs.Bytes.{usage_text, batch_text}

-- Where the words do not fit, the members are as they were. Where they do, each has run with so many workers; unless memory was wanting
-- before the first was begun.
abbrev pub IsServed : Option ℕ → BatchStatus → (ℕ → Type 0) → Type 0 → Type 0
IsServed None status Run Same = Same
IsServed (Some workers) Memory Run Same = Run workers ⊎ Same
IsServed (Some workers) status Run Same = Run workers

-- Words that do not fit, and they alone, are refused, unless the sink or memory fails. Else the answer is the greatest exit status.
abbrev pub IsAnswered : Option ℕ → BatchStatus → ℕ → Type 0
IsAnswered None (Ran exit) greatest = ⊥
IsAnswered (Some workers) Usage greatest = ⊥
IsAnswered (Some workers) (Ran exit) greatest = exit ≡ greatest
IsAnswered _ _ greatest = Unit {0}

-- what is to be printed
abbrev pub due : {R D : Type 0} → Option ℕ → List (Member R D) → List ℕ
due None members = usage_text
due (Some workers) members = batch_text members

-- The sink took all that is due; or it failed, and took a front of it, and not all; or memory was wanting, and it took a front.
abbrev pub Took : BatchStatus → List ℕ → List ℕ → List ℕ → Type 0
Took WriteFault old new text = TakesPart old new text
Took Memory old new text = TakesFront old new text
Took _ old new text = new ≡ old ++ text
