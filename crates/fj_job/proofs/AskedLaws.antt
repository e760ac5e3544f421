-- What a run tells, once it is known what was asked for.
use Rattle.std.proofs.Common.{◌≡◌, ℕ, Bool, List, inl, inr, sym, ◌∙◌, subst}
use Rattle.std.specs.FinSet as set
use Rattle.fj_outside.specs.Holdings.{Holdings}
use Rattle.fj_statement.specs.declared.deck.Deck.{Deck as Decked}
use Rattle.fj_report.specs.declared.status.Status.{Status}
use Rattle.fj_job.specs.Answers.{HasRun}
use Rattle.fj_job.specs.Asking.{IsAsked}
use Rattle.fj_job.specs.Cut.{Anywhere}
use Rattle.fj_job.specs.Executing.{IsExecuted}
use Rattle.fj_job.specs.Reply.{trace_of}
use Rattle.fj_job.specs.Seen.{Seen, OnDisk, seen, on_disk}
use Rattle.fj_job.specs.declared.task.Task.{Task}
use Rattle.fj_job.specs.declared.asked.Asked.TheVariants.{Answered, Deck}
use Rattle.fj_job.proofs.Fronts.{fault_more, write_by, write_at, want_by, want_at}
use Rattle.fj_job.proofs.RunLaws.{run_for, run_over, run_executed}

-- it is answered at once, and nothing is done with the disk
pub answered_told : (task other : Task) (status : Status) (source sink : Seen (List ℕ)) (disk : Seen OnDisk) → task ≡ other → IsAsked task source sink (Answered status) → disk.after ≡ disk.before
    → disk.same → disk.goes_on → (disk.tells → disk.before.held.in_use ≡ set.empty) → HasRun other status source sink disk
answered_told task other status source sink disk e asked is same goes_on empty =
    run_for task other status source sink disk e (run_over task status source sink disk is same goes_on empty (asked.told disk.before))

-- a deck was carried out
module _ {W D : Type 0} (tells_out : W → Type 0) (taken : W → List ℕ) (count_out : W → ℕ) (tells : D → Type 0) (held : D → Holdings) (count refusals : D → ℕ)
    (task other : Task) (same : task ≡ other) (source : Seen (List ℕ)) (out mid : W) (deck : Decked) (workers : ℕ) (trace : Bool)
    (asked : IsAsked task source (seen tells_out taken count_out out mid) (Deck deck workers trace)) (out' : W) (disk disk' : D) (status : Status)
    (done : IsExecuted tells_out taken count_out tells held count refusals deck (trace_of trace) Anywhere mid disk out' disk' status) where
  from_there : IsExecuted tells_out taken count_out tells held count refusals deck (trace_of trace) Anywhere out disk out' disk' status
  from_there = subst (λ (o : W). IsExecuted tells_out taken count_out tells held count refusals deck (trace_of trace) Anywhere o disk out' disk' status) asked.untold done

  pub executed_told : HasRun other status source (seen tells_out taken count_out out out') (seen tells (on_disk held refusals) count disk disk')
  executed_told =
      let it = from_there in
      run_for _ _ _ _ _ _ (sym asked.task_is ∙ same) (run_executed workers trace deck status source _ _ asked.is_deck it.replied (λ t. fault_more status _ _ (λ line cut. cut.0) (it.fault t))
      (λ t. write_by status _ (λ e. (write_at status _ (it.written t) e).0))
      (λ t. want_by status _ (λ e. elim (want_at status _ (it.memory t) e) [ inl none ↦ inl none | inr cut ↦ inr cut.0 ])) it.front it.of_run it.cause it.in_use
      (asked.goes_on.0, (it.telling_out, it.later_out), (it.telling, it.later)))
