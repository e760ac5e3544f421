-- The statement at hand as it goes on: as it begins its unit gets its number, and else it has it since then.
use Rattle.std.proofs.Common.{◌≡◌, ◌<◌, ℕ, zero, suc, length, get_or, arith, Bool, true, List, [], ◌∷◌, All, drop, slice_get, Option, Some, unwrap_or, refl, sym, ap, subst, ◌∙◌}
use Rattle.std.proofs.lemmas.List.Elements.{All-get_or}
use Rattle.std.specs.Option.{option_map_or}
use Rattle.fj_outside.specs.declared.outside.FileStore.{Ghosts}
use Rattle.fj_statement.specs.Sound.{IsSound, IsSoundStatement}
use Rattle.fj_statement.specs.declared.deck.Lined.{Lined}
use Rattle.fj_statement.specs.declared.statement.Statement.{Statement}
use Rattle.fj_meaning.specs.State.{Files}
use Rattle.fj_meaning.specs.Statement.{Stated, control_by, stated}
use Rattle.fj_meaning_turns.specs.Run.{Stage}
use Rattle.fj_meaning_turns.specs.Turns.{hand_at, turn, turn_on}
use Rattle.fj_run_statements.specs.State.{core_of}
use Rattle.fj_run_script.specs.Closing.{hand_may_be_at, may_be_at}
use Rattle.fj_run_script.specs.Going.{HaveAt}
use Rattle.fj_run_script.specs.Handing.{number_in_hand, put_in}
use Rattle.fj_run_script.specs.Machine.{numbered, rest_of, run_at, run_in, stage_at, stage_of}
use Rattle.fj_run_script.specs.declared.machine.Machine.{Machine}
use Rattle.fj_run_script.specs.declared.stage.Stage.{Stage as CodeStage}
use Rattle.fj_run_script.proofs.AtHand.{comes_on, hand_due, hand_put, hand_with, have_due, may_put, put_sound, stage_due}
use Rattle.fj_run_script.proofs.NextAsks.{at_hand_is, behind_at, hand_is}

inside : {X : Type 0} (xs : List X) (at : ℕ) (x : X) → slice_get xs at ≡ Some x → at < length xs
inside [] at x e = cc
inside (y ∷ ys) zero x e = omega arith
inside (y ∷ ys) (suc n) x e = let low = inside ys n x e in omega (arith, low)

got : {X : Type 0} (xs : List X) (at : ℕ) (x : X) → slice_get xs at ≡ Some x → get_or xs at x ≡ x
got [] at x e = cc
got (y ∷ ys) zero x e = ap (λ o. unwrap_or o y) e
got (y ∷ ys) (suc n) x e = got ys n x e

pub all_get : {X : Type 0} (P : X → Type 0) (xs : List X) (at : ℕ) (x : X) → slice_get xs at ≡ Some x → All P xs → P x
all_get P xs at x e all = subst P (got xs at x e) (All-get_or P xs at x (inside xs at x e) all)

module _ {F : Type 0} {ghosts : Ghosts F} (m : Machine F ghosts) (l : Lined) (item : slice_get m.deck.statements m.at.place ≡ Some l) where
  pub first_is : (st : Stated) (more : List Stated) → rest_of m ≡ st ∷ more → hand_with m.at.number l ≡ st
  first_is st more h = let both : hand_with m.at.number l ∷ behind_at m ≡ st ∷ more = sym (hand_is m l item) ∙ h in cc

  pub behind_is : (st : Stated) (more : List Stated) → rest_of m ≡ st ∷ more → behind_at m ≡ more
  behind_is st more h = let both : hand_with m.at.number l ∷ behind_at m ≡ st ∷ more = sym (hand_is m l item) ∙ h in cc

  module _ (o : Option ℕ) (o_is : o ≡ number_in_hand m.state m.at.number l.what) (w : Statement) (w_is : w ≡ put_in o l.what) where
    abbrev pub hand : Stated
    hand = (record l { what = w }, control_by w)

    hand_eq : hand_with (number_in_hand m.state m.at.number l.what) l ≡ hand
    hand_eq = ap (λ k. hand_with k l) (sym o_is) ∙ ap (λ x. (record l { what = x }, control_by x)) (sym w_is)

    -- it stands so once it has its number
    pub rest_begun : (sts : List Lined) → sts ≡ m.deck.statements → numbered o (drop m.at.place (stated sts)) ≡ hand ∷ behind_at m
    rest_begun sts same =
        ap (λ xs. numbered o (drop m.at.place (stated xs))) same ∙ ap (numbered o) (at_hand_is m.deck.statements m.at.place l item)
        ∙ hand_put o l (behind_at m) ∙ ap (λ x. (record l { what = x }, control_by x) ∷ behind_at m) (sym w_is)

    pub have_begun : (st : Stated) (more : List Stated) → rest_of m ≡ st ∷ more → HaveAt m.state.stage m.state.core.names m.state.core.units st.0.what → HaveAt m.state.stage m.state.core.names m.state.core.units w
    have_begun st more h have =
        let same : put_in (number_in_hand m.state m.at.number l.what) l.what ≡ w = ap (λ k. put_in k l.what) (sym o_is) ∙ sym w_is in
        subst (HaveAt m.state.stage m.state.core.names m.state.core.units) same
        (have_due m.state.stage m.state.core.names m.state.core.units _ m.at.number l (subst (λ (x : Stated). HaveAt m.state.stage m.state.core.names m.state.core.units x.0.what) (sym (first_is st more h)) have))

    pub sound_begun : IsSound m.deck → IsSoundStatement m.deck.variables w
    sound_begun sound =
        subst (IsSoundStatement m.deck.variables) (sym w_is) (put_sound m.deck.variables o l.what (all_get (λ (x : Lined). IsSoundStatement m.deck.variables x.what) m.deck.statements m.at.place l item sound.statements))

    -- what may wait for the end of a connection is by the statement, whatever its number
    pub may_begun : (s : CodeStage F) (sts : List Lined) → sts ≡ m.deck.statements → may_be_at w s ≡ true → hand_may_be_at sts m.at.place s ≡ true
    may_begun s sts same may =
        ap (λ xs. option_map_or (λ (x : Lined). may_be_at x.what s) (slice_get xs m.at.place) true) same
        ∙ ap (λ x. option_map_or (λ (x : Lined). may_be_at x.what s) x true) item
        ∙ sym (may_put o l.what s) ∙ ap (λ x. may_be_at x s) (sym w_is) ∙ may

    module _ (told : F → Bool) (bytes : F → List ℕ) (files : Files) (x : Stage) (known : stage_at told bytes files m ≡ Some x) where
      stage_first : stage_of told bytes m.deck.variables (hand_with m.at.number l ∷ behind_at m) (core_of files m.state.core) m.state.stage ≡ Some x
      stage_first = subst (λ rest. stage_of told bytes m.deck.variables rest (core_of files m.state.core) m.state.stage ≡ Some x) (hand_is m l item) known

      pub hand_begun : hand_at (hand_with m.at.number l) x (run_at files m x) ≡ hand
      hand_begun = hand_due told bytes m.deck.variables (core_of files m.state.core) l m.at.number (behind_at m) (run_at files m x) refl m.state.stage x stage_first ∙ hand_eq

      pub stage_begun : stage_of told bytes m.deck.variables (hand ∷ behind_at m) (core_of files m.state.core) m.state.stage ≡ Some x
      stage_begun = subst (λ y. stage_of told bytes m.deck.variables (y ∷ behind_at m) (core_of files m.state.core) m.state.stage ≡ Some x) hand_eq
          (stage_due told bytes m.deck.variables (core_of files m.state.core) l m.at.number (behind_at m) (run_at files m x) refl m.state.stage x stage_first)

      pub turn_begun_is : turn (hand_with m.at.number l) x (run_at files m x) ≡ turn_on hand x (run_in m.deck.variables (hand ∷ behind_at m) files m.state x)
      turn_begun_is = comes_on (hand_with m.at.number l) hand (behind_at m) x (run_at files m x) (hand_is m l item) hand_begun
