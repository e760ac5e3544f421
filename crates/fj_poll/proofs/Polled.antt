-- What words for a run with looks come to.
use Rattle.std.proofs.Common.{◌≡◌, ◌⊎◌, ◌↔◌, ◌≤◌, ◌++◌, ℕ, List, Option, Some, None, refl, inl, inr, arith}
use Rattle.std.specs.FinSet as set
use Rattle.fj_outside.specs.Faults.{Rose}
use Rattle.fj_outside.specs.Holdings.{Holdings}
use Rattle.fj_run_items.specs.Handing.{TakesFront}
use Rattle.fj_report.specs.declared.status.Status.{Status}
use Rattle.fj_report.specs.declared.status.Status.TheVariants.{Memory, Usage}
use Rattle.fj_job.specs.Answers.{IsAnswer, IsLost, HasCause}
use Rattle.fj_job.proofs.Fronts.{front_of_same}
use Rattle.fj_job.proofs.RunLaws.{run_nothing}
use Rattle.fj_poll.specs.Answers.{HasPolled, usage_text}

-- there was no memory to read them
pub nothing_polled : {R W D : Type 0} (tells_in : R → Type 0) (left : R → List ℕ) (count_in : R → ℕ) (tells_out : W → Type 0) (taken : W → List ℕ) (count_out : W → ℕ)
    (tells : D → Type 0) (held : D → Holdings) (count refusals : D → ℕ) (words : Option ℕ) (source : R) (out : W) (disk : D) → (tells disk → (held disk).in_use ≡ set.empty)
    → HasPolled tells_in left count_in tells_out taken count_out tells held count refusals words source out disk Memory source out disk
nothing_polled tells_in left count_in tells_out taken count_out tells held count refusals None source out disk free = record {
  answer = inr tt;
  source_is = refl;
  disk_is = refl;
  output = λ a. absurd a;
  front = λ t. front_of_same (taken out) (taken out) usage_text refl;
  cause = tt;
  goes_on = ((λ t. t, λ t. t), omega arith);
}
nothing_polled tells_in left count_in tells_out taken count_out tells held count refusals (Some workers) source out disk free =
    inl (record {
      disk_is = refl;
      unread = record { is = inr (inl refl); taken = λ t w. inl refl };
      ran = run_nothing _ _ _ _ refl refl free refl refl refl (((λ t. t, λ t. t), omega arith), ((λ t. t, λ t. t), omega arith), ((λ t. t, λ t. t), omega arith));
    })

-- they are no form
pub refused_polled : {R W D : Type 0} (tells_in : R → Type 0) (left : R → List ℕ) (count_in : R → ℕ) (tells_out : W → Type 0) (taken : W → List ℕ) (count_out : W → ℕ)
    (tells : D → Type 0) (held : D → Holdings) (count refusals : D → ℕ) (source : R) (out : W) (disk : D) (status : Status) (out' : W) → (status ≡ Usage) ⊎ IsLost status
    → (IsAnswer status → tells_out out → taken out' ≡ taken out ++ usage_text) → (tells_out out → TakesFront (taken out) (taken out') usage_text) → HasCause ⊥ (Rose (count_out out) (count_out out')) ⊥ status
    → (tells_out out ↔ tells_out out') × (count_out out ≤ count_out out') → HasPolled tells_in left count_in tells_out taken count_out tells held count refusals None source out disk status source out' disk
refused_polled tells_in left count_in tells_out taken count_out tells held count refusals source out disk status out' usage output front cause goes_on =
    record { answer = usage; source_is = refl; disk_is = refl; output = output; front = front; cause = cause; goes_on = goes_on }
