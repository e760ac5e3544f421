-- A deck that was carried out with looks, and reported.
use Rattle.std.proofs.Common.{◌≡◌, ◌≤◌, ℕ, ◌+◌, List, [], length, Result, Ok, Err, IfOk, false, true, refl, sym, subst, arith}
use Rattle.std.specs.FinSet as set
use Rattle.std.specs.Prelude.{IsErr}
use Rattle.fj_outside.specs.Holdings.{Holdings}
use Rattle.fj_statement.specs.Sound.{IsSound}
use Rattle.fj_statement.specs.declared.deck.Deck.{Deck}
use Rattle.fj_run_units.specs.Files.{files_of}
use Rattle.fj_report.specs.declared.status.Status.{Status}
use Rattle.fj_run_script.specs.declared.looking.Look.{Look}
use Rattle.fj_job.specs.Answers.{IsAnswer}
use Rattle.fj_job.specs.Executing.{IsConcluded}
use Rattle.fj_job.specs.Reply.{Lines}
use Rattle.fj_job.specs.declared.ending.Carried.{Carried}
use Rattle.fj_job.proofs.CarriedOut.{executed}
use Rattle.fj_poll.specs.Answers.{IsCarriedOutPolled, IsExecutedPolled, looks_left}
use Rattle.fj_poll.specs.Lines.{look_lines}
use Rattle.fj_poll.specs.Looks.{NoneLooks, NoneLooksBefore}

module _ {W D F : Type 0} (tells_out : W → Type 0) (taken : W → List ℕ) (count_out : W → ℕ) (tells : D → Type 0) (held : D → Holdings) (count refusals : D → ℕ) where
  -- there was no memory to begin
  pub not_begun : {X : Type 0} (deck : Deck) (out : W) (disk : D) (carried : Result (Carried F) X) → IsErr carried → IsSound deck
      → IsCarriedOutPolled tells_out taken count_out tells held count refusals deck out disk out disk carried
  not_begun deck out disk (Ok it) is sound = absurd (let z : false ≡ true = is in cc)
  not_begun deck out disk (Err e) is sound = record {
    polled = record { put = deck; looks = []; is_put = λ t. record { variables = refl; groups = refl; long = refl; are = λ place from to. refl }; sound = sound };
    looks = refl;
    none = λ t. tt;
    none_before = λ t. tt;
    carried = record {
      deck_is = tt;
      taken_is = λ w. tt;
      result_is = λ t. tt;
      at_fault = λ t. tt;
      at_write = λ t. tt;
      at_end = λ t. tt;
      at_want = λ t. tt;
      part = λ t w. tt;
      sink = tt;
      of_disk = tt;
      in_use = λ t. tt;
      unbegun = (refl, refl);
      telling_out = (λ t. t, λ t. t);
      telling = (λ t. t, λ t. t);
      later_out = omega arith;
      later = omega arith;
    };
  }

  -- it has no more variables than a deck
  pub few_variables : {X : Type 0} (deck : Deck) (out : W) (disk : D) (out' : W) (disk' : D) (carried : Result (Carried F) X) → IsCarriedOutPolled tells_out taken count_out tells held count refusals deck out disk out' disk' carried
      → IfOk carried (λ it. length it.left.deck.variables ≤ 4096)
  few_variables deck out disk out' disk' (Ok it) h = subst (λ (d : Deck). length d.variables ≤ 4096) (sym h.carried.deck_is) h.polled.sound.variables.variables
  few_variables deck out disk out' disk' (Err e) h = tt

  -- an answer is that of a run that ended
  none_of : {X : Type 0} (deck : Deck) (out : W) (disk : D) (out' : W) (disk' : D) (out'' : W) (lines : Lines) (carried : Result (Carried F) X) (status : Status)
      → (h : IsCarriedOutPolled tells_out taken count_out tells held count refusals deck out disk out' disk' carried) → IsConcluded tells_out taken count_out lines carried out' out'' status → IsAnswer status → tells disk
      → NoneLooks h.polled.put (files_of (held disk))
  none_of deck out disk out' disk' out'' lines (Ok it) status h k a t = h.none t (k.ended a).going
  none_of deck out disk out' disk' out'' lines (Err e) status h k a t = absurd (subst (λ (s : Status). IsAnswer s) k.begun a)

  pub executed_polled : {X : Type 0} (deck : Deck) (out : W) (disk : D) (out' : W) (disk' : D) (out'' : W) (carried : Result (Carried F) X) (status : Status) → (tells disk → (held disk).in_use ≡ set.empty)
      → IsCarriedOutPolled tells_out taken count_out tells held count refusals deck out disk out' disk' carried → IsConcluded tells_out taken count_out (look_lines (looks_left carried)) carried out' out'' status
      → IsExecutedPolled tells_out taken count_out tells held count refusals deck out disk out'' disk' status
  executed_polled deck out disk out' disk' out'' carried status free h k =
      let mine : IsConcluded tells_out taken count_out (look_lines h.polled.looks) carried out' out'' status =
      subst (λ (ls : List Look). IsConcluded tells_out taken count_out (look_lines ls) carried out' out'' status) (sym h.looks) k in
      record {
        polled = h.polled;
        none = λ a t. none_of deck out disk out' disk' out'' (look_lines (looks_left carried)) carried status h k a t;
        executed =
            executed tells_out taken count_out tells held count refusals h.polled.put (look_lines h.polled.looks) (λ place. NoneLooksBefore h.polled.put (files_of (held disk)) (place + 1)) out disk out' disk' out'' carried status
            h.polled.sound free h.carried mine h.none_before;
      }
