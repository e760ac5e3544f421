-- A statement fits that goes on with the number of its job, and that at hand of a sound deck does.
use Rattle.std.proofs.Common.{◌≡◌, ℕ, ◌+◌, ◌<◌, ◌^◌, true, List, length, get_or, sym, ap, ◌∙◌, subst, arith}
use Rattle.std.proofs.lemmas.List.Elements.{All-weaker, All-get_or}
use Rattle.fj_statement.specs.Sound.{IsSound, IsSoundStatement}
use Rattle.fj_statement.specs.declared.deck.Deck.{Deck}
use Rattle.fj_statement.specs.declared.deck.Lined.{Lined}
use Rattle.fj_meaning_jobs.specs.Desks.{most_slots}
use Rattle.fj_run_pending.specs.declared.held.Held.{Held}
use Rattle.fj_run_statements.specs.Fitting.{MayGoOn}
use Rattle.fj_run_statements.specs.declared.doing.Given.{Given}
use Rattle.fj_run_statements.specs.declared.doing.Given.TheVariants as given
use Rattle.fj_run_statements.specs.declared.state.Core.{Core}
use Rattle.fj_run_script.specs.Numbering.{AreNamed, IsLast, pends_by}
use Rattle.fj_run_script.proofs.Numbering.{at_itself, slot_given}

-- the transfer comes behind the pending ones
pub may_go_on : (sent : List ℕ) (next : Given) (number : ℕ) (core : Core) → length sent ≡ most_slots → AreNamed core.next core.pending
    → ((slot : ℕ) → pends_by slot number next number ≡ true → IsLast sent core.pending slot number) → core.next + 1 < 2 ^ 32 → MayGoOn core next number
may_go_on sent (given.Finishes condition) number core slots named own more = tt
may_go_on sent (given.Pends unit slot) number core slots named own more =
    let last = own slot (at_itself slot number) in
    record {
      next = λ h id slot_is number_is. record {
        id = All-weaker (λ (x : Held). x.tag.0 < core.next) (λ (x : Held). x.tag.0 < h.tag.0) (λ x low. omega (arith, low, id)) core.pending named;
        number = All-weaker (λ (x : Held). x.slot ≡ slot → x.number < number) (λ (x : Held). x.slot ≡ h.slot → x.number < h.number)
            (λ x low same. omega (arith, low (same ∙ slot_is), number_is)) core.pending last.1;
        slot = subst (λ k. k < most_slots) (sym slot_is) (slot_given sent slot number slots last.0);
      };
      more = more;
    }

-- the statement at hand of a sound deck is sound
pub sound_at_hand : (deck : Deck) (xs : List Lined) (at : ℕ) (l : Lined) → IsSound deck → xs ≡ deck.statements → at < length deck.statements → l ≡ get_or xs at l → IsSoundStatement deck.variables l.what
sound_at_hand deck xs at l sound same low is =
    subst (λ (x : Lined). IsSoundStatement deck.variables x.what) (sym (is ∙ ap (λ (ys : List Lined). get_or ys at l) same))
    (All-get_or (λ (x : Lined). IsSoundStatement deck.variables x.what) deck.statements at l low sound.statements)
