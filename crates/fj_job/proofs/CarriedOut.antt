-- A deck that was carried out on slots of its own, and whose files went back.
use Rattle.std.proofs.Common.{◌≡◌, ◌⊎◌, inl, inr, ◌≤◌, ℕ, Bool, true, false, List, [], Result, Ok, Err, Some, None, IfOk, refl, ap, sym, ◌∙◌, subst, arith}
use Rattle.fj_outside.specs.Faults.{Rose}
use Rattle.std.specs.FinSet as set
use Rattle.fj_outside.specs.Holdings.{Holdings}
use Rattle.fj_outside.specs.declared.outside.FileStore.{Ghosts}
use Rattle.fj_statement.specs.Sound.{IsSound}
use Rattle.fj_statement.specs.declared.deck.Deck.{Deck}
use Rattle.fj_slot.specs.Serving.{Meaning}
use Rattle.fj_bay.specs.Bay.{Bay}
use Rattle.fj_bay.specs.Jobs.{Job, Answer}
use Rattle.fj_world.specs.Rack.{Rack}
use Rattle.fj_run_items.specs.Handing.{whole_records}
use Rattle.fj_run_items.specs.declared.lost.Lost.TheVariants.{Sink, Disk}
use Rattle.fj_run_units.specs.Files.{files_of}
use Rattle.fj_run_script.specs.Going.{IsGoing}
use Rattle.fj_run_script.specs.Leaving.{Leaves}
use Rattle.fj_run_script.specs.declared.ending.Ending.{Ending as Code}
use Rattle.fj_run_script.specs.declared.machine.Machine.{Machine}
use Rattle.fj_job.specs.Carrying.{HasNotBegun, HasRun, LeavesButDeck}
use Rattle.fj_report.specs.declared.status.Status.{Status}
use Rattle.fj_report.specs.declared.status.Status.TheVariants.{WriteFault, DiskFault, Memory}
use Rattle.fj_job.specs.Answers.{IsAnswer, HasCause}
use Rattle.fj_job.specs.Cut.{BeginsAt, BeginsWhere, CutByMemory}
use Rattle.fj_job.specs.Cutting.{IsCut, EndsHere, IsLeftAt, IsLeftBegun, TookSome}
use Rattle.fj_job.specs.Losing.{wants}
use Rattle.fj_job.specs.Executing.{IsSettled, IsCarriedOut, IsConcluded, IsExecuted}
use Rattle.fj_job.specs.Reply.{Lines}
use Rattle.fj_job.specs.declared.ending.Carried.{Carried}
use Rattle.fj_job.proofs.Executed.{came, replies, all_taken, nothing_written}
use Rattle.fj_job.proofs.Fronts.{fault_by, want_by, write_by, front_of_same, not_lost}
use Rattle.fj_job.proofs.Reported.{at_statement, left_at, left_begun, left_end, took_some, told_fault, report_of_fault, want_of_fault, part_of_end, want_of_end, part_of_run, write_of_begun, write_of_end, front_so_far}
use Rattle.fj_job.proofs.Wanting.{cut_by_memory}
use Rattle.fj_job.proofs.Leading.{but_deck, rose_later, rose_earlier, rose_of}
use Rattle.fj_job.proofs.RunLaws.{cause_more}
use Rattle.fj_job.proofs.Whole.{ended_fit}

cause_by : (P Q : Type 0) (a b c : ℕ) → a ≤ b → b ≤ c → (P → Q ⊎ Rose a b) → (Q → ⊥) → P ⊎ Rose b c → Rose a c
cause_by P Q a b c l k one none (inr rose) = rose_earlier a b c l rose
cause_by P Q a b c l k one none (inl p) = elim (one p) [ inl q ↦ absurd (none q) | inr rose ↦ rose_later a b c rose k ]

-- nothing is known of it
pub anywhere : {X E : Type 0} → (r : Result X E) → IfOk r (λ _. Unit {0})
anywhere (Ok it) = tt
anywhere (Err e) = tt

module _ {W D F : Type 0} (tells_out : W → Type 0) (taken : W → List ℕ) (count_out : W → ℕ) (tells : D → Type 0) (held : D → Holdings) (count refusals : D → ℕ) where
  pub carried_out : {ghosts : Ghosts F} {E J A X : Type 0} (meaning : Meaning E J A Bay Job Answer) (told : F → Bool) (bytes : F → List ℕ) (deck : Deck) (out : W) (disk : D) (out' : W) (disk' disk'' : D) (m m' : Machine F ghosts) (rack' : Rack E J A) (it : Carried F)
      → HasNotBegun told bytes m → LeavesButDeck tells_out taken count_out tells count refusals out disk m out' disk' m' → m'.deck ≡ deck
      → (tells disk → m'.tally.over ≡ false → HasRun meaning told bytes deck (files_of (held disk)) (files_of (held disk')) m' rack')
      → (tells disk → IsSound deck → m'.tally.over ≡ true → IsCut meaning rack' (held disk') (refusals disk) (refusals disk') (tells_out out) (taken out) (taken out') deck (files_of (held disk)) m')
      → (tells disk → m'.tally.over ≡ false → (ending : Code) → m'.state.ending ≡ Some ending → EndsHere deck (files_of (held disk)) m')
      → ∥ (m'.tally.over ≡ false → IsGoing m') ∥₁
      → IsSound deck → IsSettled tells held count refusals meaning m' rack' disk' disk'' it
      → (let r : Result (Carried F) X = Ok it in IsCarriedOut tells_out taken count_out tells held count refusals deck out disk out' disk'' r)
  carried_out meaning told bytes deck out disk out' disk' disk'' m m' rack' it begun leaves same ran cut ended on sound_deck settled =
      let sound : m.tally.lost ≡ None = begun.sound in
      let nothing : whole_records m.state.core.output ≡ [] = nothing_written told bytes (files_of (held disk)) m begun in
      let there = λ (t : tells disk).
      at_statement meaning told bytes deck (files_of (held disk)) (held disk') (refusals disk) (refusals disk') m' rack' (tells_out out) (taken out) (taken out') sound_deck (ran t)
      (λ going. ended_fit meaning told bytes deck (files_of (held disk)) (files_of (held disk')) m' rack' (ran t going) sound_deck on going) (ended t) (cut t sound_deck)
      (λ going w. all_taken _ _ m.state.core.output m'.state.core.output m'.state.core.output nothing (leaves.output w (inl (not_lost m'.tally.lost m'.tally.over m'.tally.lost_over going))) refl) in
      let closed = λ (t : tells disk). settled.closed (leaves.telling.0 t) (there t).fit in
      record {
        deck_is = settled.deck ∙ same;
        taken_is = λ w s. all_taken _ _ m.state.core.output m'.state.core.output it.left.core.output nothing
            (leaves.output w (elim s [ inl e ↦ inl (settled.nothing e) | inr e ↦ settled.alone e ])) (ap (λ k. k.output) settled.core);
        at_fault = λ t e.
            left_at meaning rack' (held disk') (held disk'') (refusals disk) (refusals disk') (refusals disk'') (tells_out out) (taken out) (taken out') deck (files_of (held disk)) m' it.left (there t)
            settled.at it.settled (closed t) (leaves.own t) (settled.own (leaves.telling.0 t)) (ap wants e) (settled.alone e) settled.core;
        at_write = λ t e.
            left_begun meaning rack' (held disk') (held disk'') (refusals disk) (refusals disk') (refusals disk'') (tells_out out) (taken out) (taken out') deck (files_of (held disk)) m' it.left (there t)
            settled.at it.settled (closed t) (leaves.own t) (settled.own (leaves.telling.0 t)) (ap wants e) (settled.sink e);
        at_end = λ t s going ending ends.
            left_end deck (files_of (held disk)) m' it.left (held disk'') (refusals disk) (refusals disk'') (ended t (sym settled.over ∙ going) ending (sym settled.ending ∙ ends)) settled.at
            (came meaning told bytes deck deck (files_of (held disk)) (files_of (held disk')) (files_of (held disk'')) m' rack' it.left
            (ran t (sym settled.over ∙ going)) refl settled.core settled.ending ((closed t).files s (none_kept going)));
        at_want = λ t lines.
            let cut =
            cut_by_memory meaning rack' (held disk') (held disk'') (refusals disk) (refusals disk') (refusals disk'') (tells_out out) (taken out) (taken out') deck (files_of (held disk)) m' sound_deck (there t)
            it.settled (closed t) (leaves.own t) (settled.own (leaves.telling.0 t)) lines in
            (cut.0, subst (BeginsAt cut.0.comes) (sym settled.at) cut.1);
        part = λ t w.
            took_some meaning rack' (held disk') (refusals disk) (refusals disk') (tells_out out) (taken out) (taken out') deck (files_of (held disk)) m' (there t) w;
        result_is = λ t s going. came meaning told bytes deck deck (files_of (held disk)) (files_of (held disk')) (files_of (held disk'')) m' rack' it.left
            (ran t (sym settled.over ∙ going)) refl settled.core settled.ending ((closed t).files s (none_kept going));
        sink = λ e. elim (leaves.of_sink (settled.sink e)) [ inl q ↦ absurd (let z : Some Sink ≡ None = sym q ∙ sound in cc) | inr rose ↦ rose ];
        of_disk = λ e. cause_by _ _ _ _ _ leaves.later settled.later leaves.of_disk (λ q. let z : Some Disk ≡ None = sym q ∙ sound in cc) (settled.of_disk e);
        in_use = λ t. (closed t).in_use;
        unbegun = tt;
        telling_out = leaves.telling_out;
        telling = (λ t. settled.telling.0 (leaves.telling.0 t), λ t. leaves.telling.1 (settled.telling.1 t));
        later_out = leaves.later_out;
        later = let a = leaves.later in let b = settled.later in omega (arith, a, b);
      }
    where
      none_kept : it.left.over ≡ false → m'.kept ≡ None
      none_kept going = not_lost m'.kept m'.tally.over m'.refused (sym settled.over ∙ going)

  -- where the deck stayed as it was
  pub carried_own : {ghosts : Ghosts F} {E J A X : Type 0} (meaning : Meaning E J A Bay Job Answer) (told : F → Bool) (bytes : F → List ℕ) (deck : Deck) (out : W) (disk : D) (out' : W) (disk' disk'' : D) (m m' : Machine F ghosts) (rack' : Rack E J A) (it : Carried F)
      → HasNotBegun told bytes m → m.deck ≡ deck → Leaves tells_out taken count_out tells count refusals out disk m out' disk' m'
      → (tells disk → m'.tally.over ≡ false → HasRun meaning told bytes m.deck (files_of (held disk)) (files_of (held disk')) m' rack')
      → (tells disk → IsSound m.deck → m'.tally.over ≡ true → IsCut meaning rack' (held disk') (refusals disk) (refusals disk') (tells_out out) (taken out) (taken out') m.deck (files_of (held disk)) m')
      → (tells disk → m'.tally.over ≡ false → (ending : Code) → m'.state.ending ≡ Some ending → EndsHere m.deck (files_of (held disk)) m')
      → ∥ (m'.tally.over ≡ false → IsGoing m') ∥₁
      → IsSound deck → IsSettled tells held count refusals meaning m' rack' disk' disk'' it
      → (let r : Result (Carried F) X = Ok it in IsCarriedOut tells_out taken count_out tells held count refusals deck out disk out' disk'' r)
  carried_own {X = X} meaning told bytes deck out disk out' disk' disk'' m m' rack' it begun same leaves ran cut ended on sound_deck settled =
      subst (λ (d : Deck). let r : Result (Carried F) X = Ok it in IsCarriedOut tells_out taken count_out tells held count refusals d out disk out' disk'' r) same
      (carried_out meaning told bytes m.deck out disk out' disk' disk'' m m' rack' it begun (but_deck tells_out taken count_out tells count refusals out out' disk disk' m m' leaves) leaves.deck ran cut ended on
      (subst IsSound (sym same) sound_deck) settled)

  conclude_ok : {X : Type 0} (deck : Deck) (lines : Lines) (Place : ℕ → Type 0) (out : W) (disk : D) (out' : W) (disk' : D) (out'' : W) (it : Carried F) (status : Status)
      → IsSound deck
      → (let r : Result (Carried F) X = Ok it in IsCarriedOut tells_out taken count_out tells held count refusals deck out disk out' disk' r)
      → (let r : Result (Carried F) X = Ok it in IsConcluded tells_out taken count_out lines r out' out'' status) → (tells disk → Place it.left.at)
      → IsExecuted tells_out taken count_out tells held count refusals deck lines Place out disk out'' disk' status
  conclude_ok deck lines Place out disk out' disk' out'' it status sound carried h known = record {
    replied = λ a t. let ended = h.ended a in let settled = h.settled a in
        replies deck lines it.left (held disk).files (held disk').files status (tells_out out) (tells_out out') _ _ _ carried.telling_out.0 carried.deck_is
        (carried.result_is t settled ended.going) ended (λ w. carried.taken_is w (inl settled));
    fault = λ t. fault_by status _ (λ line e. let told = h.fault line e in
        let cut = told_fault deck lines it (held disk).files (held disk').files (held disk') (refusals disk) (refusals disk') (taken out) (taken out') (taken out'') carried.deck_is line (tells_out out) (tells_out out') (Rose (count_out out') (count_out out''))
        (Rose (count_out out) (count_out out'')) carried.telling_out.0 (rose_earlier _ _ _ carried.later_out) (carried.at_fault t told.settled) told (λ w. carried.taken_is w (inr told.settled)) in (cut.0, (it.left.at, cut.1, known t)));
    written = λ t. write_by status _ (λ e. elim (h.written e) [
      | inl (settled, still) ↦ let cut = write_of_begun deck lines it (held disk).files (held disk').files (held disk') (refusals disk) (refusals disk') (taken out) (taken out') (taken out'') carried.deck_is (tells_out out) (carried.at_write t settled) still in (cut.0, (it.left.at, cut.1, known t))
      | inr f ↦ let x = carried.at_end t f.settled f.going f.ending f.ends in
          let cut = write_of_end deck lines it (held disk).files (held disk').files (held disk') (refusals disk) (refusals disk') (taken out) (taken out') (taken out'') carried.deck_is (tells_out out) (tells_out out') carried.telling_out.0 x.0 x.1
          (carried.result_is t f.settled f.going) f (λ w. carried.taken_is w (inl f.settled)) in (cut.0, (it.left.at, cut.1, known t))
    ]);
    memory = λ t. want_by status _ (λ e. inr (elim h.front [
      | inl still ↦ subst (λ (x : List ℕ). (cut : CutByMemory deck lines (files_of (held disk)) (tells_out out) (taken out) x (held disk') (refusals disk) (refusals disk')) × BeginsWhere Place cut.comes) (sym still)
          (let cut = carried.at_want t lines in (cut.0, (it.left.at, cut.1, known t)))
      | inr (inl f) ↦ let cut = want_of_fault deck lines it (held disk).files (held disk').files (held disk') (refusals disk) (refusals disk') (taken out) (taken out') (taken out'') carried.deck_is status (tells_out out) (tells_out out')
          carried.telling_out.0 (carried.at_fault t f.settled) f (λ w. carried.taken_is w (inr f.settled)) in (cut.0, (it.left.at, cut.1, known t))
      | inr (inr f) ↦ let x = carried.at_end t f.settled f.going f.ending f.ends in
          let cut = want_of_end deck lines it (held disk).files (held disk').files (held disk') (refusals disk) (refusals disk') (taken out) (taken out') (taken out'') carried.deck_is (tells_out out) (tells_out out') carried.telling_out.0
          x.0 x.1 (carried.result_is t f.settled f.going) f (λ w. carried.taken_is w (inl f.settled)) in (cut.0, (it.left.at, cut.1, known t))
    ]));
    front = λ t w. elim h.front [
      | inl e ↦ inl (part_of_run deck lines (files_of (held disk)) (taken out) (taken out'') sound
          (λ behind. front_so_far deck (files_of (held disk)) (taken out) (taken out'') behind (subst (λ (x : List ℕ). TookSome deck (files_of (held disk)) (taken out) x) (sym e) (carried.part t w))))
      | inr (inl f) ↦ inr (
        carried.of_disk f.settled,
        report_of_fault deck lines it (held disk).files (held disk').files (held disk') (refusals disk) (refusals disk') (taken out) (taken out') (taken out'') carried.deck_is status (tells_out out') (carried.telling_out.0 w)
            (carried.at_fault t f.settled) f (carried.taken_is w (inr f.settled)),
      )
      | inr (inr f) ↦ inl (part_of_end deck lines it (held disk).files (held disk').files (held disk') (refusals disk) (refusals disk') (taken out) (taken out') (taken out'') carried.deck_is (tells_out out') (carried.telling_out.0 w)
          (carried.result_is t f.settled f.going) f (carried.taken_is w (inl f.settled)))
    ];
    of_run = h.of_run;
    cause = cause_more status _ _ _ _ _ _ (λ x. x) (rose_of _ _ _ _ carried.later_out h.later_out carried.sink) carried.of_disk h.cause;
    in_use = carried.in_use;
    telling_out = (λ t. h.telling_out.0 (carried.telling_out.0 t), λ t. carried.telling_out.1 (h.telling_out.1 t));
    telling = carried.telling;
    later_out = let a = carried.later_out in let b = h.later_out in omega (arith, a, b);
    later = carried.later;
  }

  conclude_err : {X : Type 0} (deck : Deck) (lines : Lines) (Place : ℕ → Type 0) (out : W) (disk : D) (out' : W) (disk' : D) (out'' : W) (e : X) (status : Status)
      → IsSound deck → (tells disk → (held disk).in_use ≡ set.empty)
      → (let r : Result (Carried F) X = Err e in IsCarriedOut tells_out taken count_out tells held count refusals deck out disk out' disk' r)
      → (let r : Result (Carried F) X = Err e in IsConcluded tells_out taken count_out lines r out' out'' status)
      → IsExecuted tells_out taken count_out tells held count refusals deck lines Place out disk out'' disk' status
  conclude_err deck lines Place out disk out' disk' out'' e status sound free carried h = record {
    replied = λ a t. absurd (subst (λ (s : Status). IsAnswer s) h.begun a);
    fault = λ t. fault_by status _ (λ line f. absurd (let z : Memory ≡ DiskFault line = sym h.begun ∙ f in cc));
    written = λ t. write_by status _ (λ f. absurd (let z : Memory ≡ WriteFault = sym h.begun ∙ f in cc));
    memory = λ t. want_by status _ (λ f. inl (carried.unbegun.0, ap taken (h.silent ∙ carried.unbegun.1)));
    front = λ t w. inl (part_of_run deck lines (files_of (held disk)) (taken out) (taken out'') sound
        (λ behind. front_of_same (taken out) (taken out'') _ (ap taken (h.silent ∙ carried.unbegun.1))));
    of_run = h.of_run;
    cause = subst (λ (s : Status). HasCause ⊥ (Rose (count_out out) (count_out out'')) (Rose (count disk) (count disk')) s) (sym h.begun) tt;
    in_use = λ t. ap (λ (d : D). (held d).in_use) carried.unbegun.0 ∙ free t;
    telling_out = (λ t. h.telling_out.0 (carried.telling_out.0 t), λ t. carried.telling_out.1 (h.telling_out.1 t));
    telling = carried.telling;
    later_out = let a = carried.later_out in let b = h.later_out in omega (arith, a, b);
    later = carried.later;
  }

  pub executed : {X : Type 0} (deck : Deck) (lines : Lines) (Place : ℕ → Type 0) (out : W) (disk : D) (out' : W) (disk' : D) (out'' : W) (carried : Result (Carried F) X) (status : Status)
      → IsSound deck → (tells disk → (held disk).in_use ≡ set.empty) → IsCarriedOut tells_out taken count_out tells held count refusals deck out disk out' disk' carried → IsConcluded tells_out taken count_out lines carried out' out'' status
      → (tells disk → IfOk carried (λ it. Place it.left.at)) → IsExecuted tells_out taken count_out tells held count refusals deck lines Place out disk out'' disk' status
  executed deck lines Place out disk out' disk' out'' (Ok it) status sound free carried h known = conclude_ok deck lines Place out disk out' disk' out'' it status sound carried h known
  executed deck lines Place out disk out' disk' out'' (Err e) status sound free carried h known = conclude_err deck lines Place out disk out' disk' out'' e status sound free carried h

-- a run is reported
pub concluded : {W F X : Type 0} (tells_out : W → Type 0) (taken : W → List ℕ) (count_out : W → ℕ) (lines : Lines) (carried : Result (Carried F) X) (it : Carried F) (out out' : W) (status : Status) → carried ≡ Ok it
    → (let r : Result (Carried F) X = Ok it in IsConcluded tells_out taken count_out lines r out out' status) → IsConcluded tells_out taken count_out lines carried out out' status
concluded {F = F} {X = X} tells_out taken count_out lines carried it out out' status e h =
    subst (λ (r : Result (Carried F) X). IsConcluded tells_out taken count_out lines r out out' status) (sym e) h

-- with the same lines
pub concluded_with : {W F X : Type 0} (tells_out : W → Type 0) (taken : W → List ℕ) (count_out : W → ℕ) (lines other : Lines) (carried : Result (Carried F) X) (out out' : W) (status : Status) → lines ≡ other
    → IsConcluded tells_out taken count_out lines carried out out' status → IsConcluded tells_out taken count_out other carried out out' status
concluded_with tells_out taken count_out lines other carried out out' status same h = subst (λ (ls : Lines). IsConcluded tells_out taken count_out ls carried out out' status) same h

-- there was no memory for what is reported
pub unreported : {W F X : Type 0} (tells_out : W → Type 0) (taken : W → List ℕ) (count_out : W → ℕ) (lines : Lines) (carried : Result (Carried F) X) (out : W) → IsConcluded tells_out taken count_out lines carried out out Memory
unreported {F = F} tells_out taken count_out lines (Ok it) out = record {
  settled = λ a. absurd a;
  ended = λ a. absurd a;
  begun = tt;
  of_run = tt;
  fault = λ line e. absurd (let z : Memory ≡ DiskFault line = e in cc);
  written = λ e. absurd (let z : Memory ≡ WriteFault = e in cc);
  front = inl refl;
  silent = tt;
  cause = tt;
  telling_out = (λ t. t, λ t. t);
  later_out = omega arith;
}
unreported tells_out taken count_out lines (Err error) out = record {
  settled = λ a. tt;
  ended = λ a. tt;
  begun = refl;
  of_run = tt;
  fault = tt;
  written = λ e. tt;
  front = tt;
  silent = refl;
  cause = tt;
  telling_out = (λ t. t, λ t. t);
  later_out = omega arith;
}
