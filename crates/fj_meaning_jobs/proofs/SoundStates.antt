-- The law for every deck: in sound states a halted unit has a pending transfer that tells of it.
use Rattle.std.proofs.Common.{◌≡◌, ℕ, Bool, true, false, List, [], ◌∷◌, Option, Some, None, refl, sym, subst, ◌∙◌, inl, inr, ◌&&◌, ◌||◌}
use Rattle.std.specs.Prelude.{◌==◌, if◌then◌else◌}
use Rattle.std.specs.List.{All}
use Rattle.std.proofs.lemmas.List.Elements.{All-head, All-tail}
use Rattle.fj_value.specs.declared.condition.Condition.{Condition}
use Rattle.fj_bay.specs.Halt.{halts}
use Rattle.fj_meaning.specs.State.{State, Entry, start}
use Rattle.fj_meaning.specs.State as plain
use Rattle.fj_meaning.specs.Telling.{tells_cause}
use Rattle.fj_meaning.specs.Statement.{stated}
use Rattle.fj_meaning.specs.Reaching.{cause_of}
use Rattle.fj_meaning.proofs.Sound.{Sound, sound_start}
use Rattle.fj_meaning.proofs.Reached.{sound_step}
use Rattle.fj_meaning_jobs.specs.Desking.{over_desks, desk_step, fresh}
use Rattle.fj_meaning_jobs.specs.Forgetting as law
use Rattle.fj_meaning_jobs.specs.Giving.{GivesJobs, JobsAreGiven, jobs}
use Rattle.fj_meaning_jobs.proofs.Apart.{Each}
use Rattle.fj_meaning_jobs.proofs.Steps.{Caused}
use Rattle.fj_meaning_jobs.proofs.Forgetting as forgetting
use Rattle.fj_meaning_jobs.proofs.Forgetting.{start_tied}
use Rattle.fj_meaning_jobs.proofs.Logged.{step_given}
use Rattle.fj_meaning.specs.Statement.{begun_in, executed}

cause_tells : (book : List Entry) (number : ℕ) (cause : Condition) → cause_of book number ≡ Some cause → tells_cause book number ≡ true
cause_tells [] number cause e = cc
cause_tells (x ∷ xs) number cause e = by ((x.unit == number) && halts x.condition) e (λ k. cause_tells xs number cause k)
  where
    by : (b : Bool) → (if b then Some x.condition else cause_of xs number) ≡ Some cause → (cause_of xs number ≡ Some cause → tells_cause xs number ≡ true) → (b || tells_cause xs number) ≡ true
    by true e f = refl
    by false e f = f e

one_caused : (book : List Entry) (v : plain.Unit) → v.halt ≡ cause_of book v.number → Caused book v
one_caused book v e = by (cause_of book v.number) refl
  where
    by : (o : Option Condition) → cause_of book v.number ≡ o → Caused book v
    by None q = inl (e ∙ q)
    by (Some c) q = inr (cause_tells book v.number c q)

all_caused : (book : List Entry) (vs : List plain.Unit) → All (λ (v : plain.Unit). v.halt ≡ cause_of book v.number) vs → Each (Caused book) vs
all_caused book [] h = tt
all_caused book (v ∷ vs) h = (
  one_caused book v (All-head (λ (w : plain.Unit). w.halt ≡ cause_of book w.number) v vs h),
  all_caused book vs (All-tail (λ (w : plain.Unit). w.halt ≡ cause_of book w.number) v vs h),
)

pub sound_caused : (s : State) → Sound s → Each (Caused s.book) s.units
sound_caused s h = all_caused s.book s.units h.halts

pub slots_forgotten : law.SlotsForgotten
slots_forgotten variables sts files = forgetting.slots_forgotten Sound sound_caused sound_step variables sts files (sound_start variables files)

pub results_agree : law.ResultsAgree
results_agree variables statements files =
    forgetting.results_same (over_desks variables (stated statements) (fresh variables files)) (executed variables (stated statements) (start variables files)) (slots_forgotten variables (stated statements) files)

pub jobs_are_given : JobsAreGiven
jobs_are_given variables sts st files =
    let reached = forgetting.reached_tied Sound sound_caused sound_step variables sts (fresh variables files) (start variables files) (start_tied variables files) (sound_start variables files) in
    let p = (over_desks variables sts (fresh variables files)).desked in
    let s = (executed variables sts (start variables files)).state in
    subst (λ y. GivesJobs p (desk_step variables y p).0 (jobs variables (begun_in s st) s)) (sym (forgetting.begun_same p s st reached.0))
    (step_given variables (begun_in s st) p s reached.0 (sound_caused s reached.1))
