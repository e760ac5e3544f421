-- What is reported where a run was cut.
use Rattle.std.proofs.Common.{◌≡◌, ℕ, ◌-◌, List, [], ◌++◌, length, drop, sym, ap, ◌∙◌, append_assoc, append-nil}
use Rattle.fj_outside.specs.Holdings.{Holdings}
use Rattle.fj_outside.specs.declared.outside.FileStore.{Ghosts}
use Rattle.fj_statement.specs.declared.deck.Deck.{Deck}
use Rattle.fj_slot.specs.Serving.{Meaning}
use Rattle.fj_world.specs.Rack.{Rack}
use Rattle.fj_bay.specs.Bay.{Bay}
use Rattle.fj_bay.specs.Jobs.{Job, Answer}
use Rattle.fj_meaning.specs.State.{Files, Output}
use Rattle.fj_run_items.specs.Handing.{whole_records}
use Rattle.fj_run_script.specs.declared.machine.Machine.{Machine}
use Rattle.fj_job.specs.Cut.{reached, ComesTo}
use Rattle.fj_job.specs.Cutting.{IsExact, IsOutputSoFar, TookFront}
use Rattle.fj_job.proofs.CutTexts.{records_front}

-- what the sink took is a front of the output so far
pub front_of_output : (old new : List ℕ) (deck : Deck) (files : Files) (comes : ComesTo deck files) (t : TookFront old new deck files comes)
    → (part rest : List ℕ) × IsOutputSoFar deck files (part ++ rest) × (new ≡ old ++ part)
front_of_output old new deck files comes t =
    let o : Output = (reached t.reach deck.variables comes.statement comes.before).output in
    let behind : List ℕ = drop (length o.text - o.begun) o.text in (
      t.part,
      t.rest ++ behind,
      record { comes = comes; reach = t.reach; output_is = sym (append_assoc t.part t.rest behind) ∙ ap (λ x. x ++ behind) (sym t.due) ∙ records_front o },
      t.taken,
    )

-- what is exact took all records that ended
pub front_of_exact : {E J A F : Type 0} {ghosts : Ghosts F} (meaning : Meaning E J A Bay Job Answer) (rack : Rack E J A) (held : Holdings) (before now : ℕ) (Tells : Type 0) (old new : List ℕ)
    (deck : Deck) (files : Files) (comes : ComesTo deck files) (m : Machine F ghosts) → IsExact meaning rack held before now Tells old new deck files comes m → Tells → TookFront old new deck files comes
front_of_exact meaning rack held before now Tells old new deck files comes m e tells =
    record { reach = e.reach; part = whole_records m.state.core.output; rest = []; due = ap whole_records (sym e.output) ∙ sym (append-nil _); taken = e.taken tells }
