-- Statements that are carried out one after another, none of which asks.
use Rattle.std.proofs.Common.{◌≡◌, ℕ, ◌+◌, ◌≤◌, Bool, List, Option, Some, None, IfNone, refl, sym, subst, ◌∙◌, arith}
use Rattle.fj_outside.specs.Holdings.{Holdings}
use Rattle.fj_outside.specs.declared.outside.FileStore.{Ghosts}
use Rattle.fj_meaning_turns.specs.Run.{Run, Start}
use Rattle.fj_meaning_looks.specs.Inquiring.{look_due}
use Rattle.fj_meaning_looks.specs.Looking.{goes_until}
use Rattle.fj_meaning.specs.State.{Files}
use Rattle.fj_meaning.specs.Statement.{Stated}
use Rattle.fj_meaning_turns.specs.Passing.{passes, passed_on}
use Rattle.fj_run_units.specs.Files.{files_of}
use Rattle.fj_run_script.specs.Going.{IsAt}
use Rattle.fj_run_script.specs.Machine.{rest_of, run_at}
use Rattle.fj_run_script.specs.Stepping.{Steps}
use Rattle.fj_run_script.specs.declared.stage.Stage.TheVariants as stage
use Rattle.fj_run_script.specs.declared.machine.Machine.{Machine}
use Rattle.fj_run_script.proofs.GivingUp.{passes_both, passes_one}
use Rattle.fj_run_script.proofs.Stepping.{went, kept_steps, ok_steps, same_keeps, then_steps}

module _ {W D F : Type 0} {ghosts : Ghosts F} (looks : Stated → Run → Bool) (tells_out : W → Type 0) (taken : W → List ℕ) (count_out : W → ℕ) (tells : D → Type 0) (held : D → Holdings) (count refusals : D → ℕ) where
  -- what is asked from here on is what was to be asked
  pub record GoesOn (out : W) (disk : D) (m : Machine F ghosts) (out' : W) (disk' : D) (m' : Machine F ghosts) : Type 0 where
    pub steps : Steps tells_out taken count_out tells held count refusals out disk m.state.core (went (tt {0})) out' disk' m'.state.core
    pub goes : tells disk → m.state.stage ≡ stage.Start
        → (m'.state.stage ≡ stage.Start) × (goes_until looks (rest_of m) (run_at (files_of (held disk)) m Start) ≡ goes_until looks (rest_of m') (run_at (files_of (held disk')) m' Start))
    pub start : m.state.stage ≡ stage.Start → m'.state.stage ≡ stage.Start
    pub passed : tells disk → (count : ℕ) × (passes count (run_at (files_of (held disk)) m Start) ≡ Some (run_at (files_of (held disk')) m' Start))
    pub deck : m'.deck ≡ m.deck
    pub tally : m'.tally ≡ m.tally
    pub kept : m'.kept ≡ m.kept
    pub looks_are : m'.looks ≡ m.looks
    pub on : m.state.stage ≡ stage.Start → IsAt m → (m'.state.stage ≡ stage.Start) × IsAt m'
    pub sent : m'.state.sent ≡ m.state.sent
    pub heard : m'.state.told ≡ m.state.told
    pub at : m.at.place ≤ m'.at.place

  pub goes_none : (out : W) (disk : D) (m : Machine F ghosts) → GoesOn out disk m out disk m
  goes_none out disk m = record {
    steps = kept_steps out disk m.state.core m.state.core (tt {0}) (same_keeps m.state.core m.state.core refl);
    goes = λ t h. (h, refl);
    start = λ h. h;
    passed = λ t. (0, refl);
    deck = refl;
    tally = refl;
    kept = refl;
    looks_are = refl;
    on = λ h i. (h, i);
    sent = refl;
    heard = refl;
    at = omega arith;
  }

  pub goes_more : {X : Type 0} → (out mid out' : W) (disk between disk' : D) (m half m' : Machine F ghosts) (x : X) → GoesOn out disk m mid between half
      → Steps tells_out taken count_out tells held count refusals mid between half.state.core (went x) out' disk' m'.state.core
      → (tells between → (m'.state.stage ≡ stage.Start) × (goes_until looks (rest_of half) (run_at (files_of (held between)) half Start) ≡ goes_until looks (rest_of m') (run_at (files_of (held disk')) m' Start)))
      → m'.state.stage ≡ stage.Start → (tells between → passed_on (rest_of half) (run_at (files_of (held between)) half Start) ≡ Some (run_at (files_of (held disk')) m' Start))
      → m'.deck ≡ half.deck → m'.tally ≡ half.tally → m'.kept ≡ half.kept → m'.looks ≡ half.looks
      → (half.state.stage ≡ stage.Start → IsAt half → (m'.state.stage ≡ stage.Start) × IsAt m') → m'.state.sent ≡ half.state.sent → m'.state.told ≡ half.state.told
      → half.at.place ≤ m'.at.place → GoesOn out disk m out' disk' m'
  goes_more out mid out' disk between disk' m half m' x a b next start passed deck tally kept looks_are on sent heard at = record {
    steps = then_steps out mid out' disk between disk' m.state.core half.state.core m'.state.core (tt {0}) (went (tt {0})) a.steps
        (ok_steps mid out' between disk' half.state.core m'.state.core (went x) x (tt {0}) refl b);
    goes = λ t h. let k = next (a.steps.telling.0 t) in (k.0, (a.goes t h).1 ∙ k.1);
    start = λ h. start;
    passed = λ t.
        let p = a.passed t in
        let first = run_at (files_of (held disk)) m Start in
        let here = run_at (files_of (held between)) half Start in
        let there = run_at (files_of (held disk')) m' Start in
        (p.0 + 1, passes_both p.0 1 first here there p.1 (passes_one here there (passed (a.steps.telling.0 t))));
    deck = deck ∙ a.deck;
    tally = tally ∙ a.tally;
    kept = kept ∙ a.kept;
    looks_are = looks_are ∙ a.looks_are;
    on = λ h i. let k = a.on h i in on k.0 k.1;
    sent = sent ∙ a.sent;
    heard = heard ∙ a.heard;
    at = omega (arith, at, a.at);
  }

-- up to a machine that is the same
pub goes_same : {W D F : Type 0} {ghosts : Ghosts F} {looks : Stated → Run → Bool} {tells_out : W → Type 0} {taken : W → List ℕ} {count_out : W → ℕ} {tells : D → Type 0} {held : D → Holdings} {count refusals : D → ℕ}
    {out : W} {disk : D} {m : Machine F ghosts} {out' : W} {disk' : D} {half m' : Machine F ghosts} → m' ≡ half
    → GoesOn looks tells_out taken count_out tells held count refusals out disk m out' disk' half → GoesOn looks tells_out taken count_out tells held count refusals out disk m out' disk' m'
goes_same {looks = looks} {tells_out = tells_out} {taken = taken} {count_out = count_out} {tells = tells} {held = held} {count = count} {refusals = refusals} {out = out} {disk = disk} {m = m} {out' = out'} {disk' = disk'} same a =
    subst (GoesOn looks tells_out taken count_out tells held count refusals out disk m out' disk') (sym same) a

-- so a statement that does not look does not there
pub still_none : {F : Type 0} {ghosts : Ghosts F} → (looks : Stated → Run → Bool) (files : Files) (half m' : Machine F ghosts) (b : Bool) → m' ≡ half → b ≡ look_due looks (rest_of half) (run_at files half Start) → (value : Bool) → b ≡ value
    → look_due looks (rest_of m') (run_at files m' Start) ≡ value
still_none {F = F} {ghosts = ghosts} looks files half m' b same is value e = subst (λ (x : Machine F ghosts). look_due looks (rest_of x) (run_at files x Start) ≡ value) (sym same) (sym is ∙ e)

pub none_has : {X : Type 0} → (o : Option X) (P : Type 0) → o ≡ None → IfNone o P → P
none_has None P e p = p
none_has (Some x) P e p = cc
