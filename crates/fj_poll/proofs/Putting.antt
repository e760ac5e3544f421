-- A look is put: the earlier ones stay right, and the execution comes to the same places before it.
use Rattle.std.proofs.Common.{◌≡◌, ℕ, zero, suc, ◌+◌, ◌<◌, ◌≤◌, List, [], ◌∷◌, ◌++◌, length, drop, Option, Some, None, refl, sym, ap, ◌∙◌, arith}
use Rattle.std.specs.Prelude.{slice_set}
use Rattle.fj_statement.specs.declared.deck.Lined.{Lined}
use Rattle.fj_statement.specs.declared.deck.Variable.{Variable}
use Rattle.fj_statement.specs.declared.deck.Deck.{Deck}
use Rattle.fj_world.proofs.Places.{set_other}
use Rattle.fj_meaning.specs.State.{Files}
use Rattle.fj_meaning.specs.Statement.{Stated, stated, control_by, Ending}
use Rattle.fj_meaning_jobs.specs.Doing.{Desked}
use Rattle.fj_meaning_jobs.specs.Desking.{begun_at, desk_step, fresh}
use Rattle.fj_meaning_turns.specs.Inside.{cut_desks}
use Rattle.fj_meaning_cut.specs.Stopping.{WasAwaited}
use Rattle.fj_run_script.specs.declared.looking.Look.{Look}
use Rattle.fj_poll.specs.Looks.{Asks, IsLook, AreSame, AreLooks}

-- behind these are those
pub drop_front : (front l : List Stated) → drop (length front) (front ++ l) ≡ l
drop_front [] l = refl
drop_front (x ∷ front) l = drop_front front l

-- ---- another statement at a place

-- as the statements of a deck
pub stated_set : (ls : List Lined) (place : ℕ) (l : Lined) → stated (slice_set ls place l) ≡ slice_set (stated ls) place (l, control_by l.what)
stated_set [] place l = refl
stated_set (x ∷ ls) zero l = refl
stated_set (x ∷ ls) (suc place) l = ap (λ k. (x, control_by x.what) ∷ k) (stated_set ls place l)

-- the execution comes to the same before it
pub cut_same : (variables : List Variable) (index place : ℕ) (sts : List Stated) (p : Desked) (st : Stated) → index < place → cut_desks variables index (slice_set sts place st) p ≡ cut_desks variables index sts p
cut_same variables index place [] p st low = refl
cut_same variables zero zero (x ∷ sts) p st low = absurd (omega (arith, low))
cut_same variables (suc index) zero (x ∷ sts) p st low = absurd (omega (arith, low))
cut_same variables zero (suc place) (x ∷ sts) p st low = refl
cut_same variables (suc index) (suc place) (x ∷ sts) p st low =
    by (desk_step variables (begun_at p x) p) (cut_same variables index place sts (desk_step variables (begun_at p x) p).0 st (omega (arith, low)))
  where
    by : (done : Desked × Option Ending) → cut_desks variables index (slice_set sts place st) done.0 ≡ cut_desks variables index sts done.0
        → elim done.1 as (λ _. Option (Stated × Desked)) [ None ↦ cut_desks variables index (slice_set sts place st) done.0 | Some e ↦ None ]
        ≡ elim done.1 as (λ _. Option (Stated × Desked)) [ None ↦ cut_desks variables index sts done.0 | Some e ↦ None ]
    by (later, None) same = same
    by (later, Some e) same = refl

-- ---- looks up to a bound

-- looks at places below a bound
abbrev pub LooksTo : Deck → Deck → Files → ℕ → ℕ → List Look → Type 0
LooksTo deck put files bound from [] = (from ≤ bound) × AreSame deck put from (length deck.statements)
LooksTo deck put files bound from (l ∷ ls) = (place : ℕ) × (from ≤ place) × AreSame deck put from place × IsLook deck put files place l × LooksTo deck put files bound (place + 1) ls

pub are_looks : (deck put : Deck) (files : Files) (bound from : ℕ) (ls : List Look) → LooksTo deck put files bound from ls → AreLooks deck put files from ls
are_looks deck put files bound from [] h = h.1
are_looks deck put files bound from (l ∷ ls) h = (h.0, h.1, h.2, h.3, are_looks deck put files bound (h.0 + 1) ls h.4)

within_bound : (deck put : Deck) (files : Files) (bound from : ℕ) (ls : List Look) → LooksTo deck put files bound from ls → from ≤ bound
within_bound deck put files bound from [] h = h.0
within_bound deck put files bound from (l ∷ ls) h = let rest = within_bound deck put files bound (h.0 + 1) ls h.4 in let low = h.1 in omega (arith, rest, low)

-- the deck with another statement at a place
abbrev pub with_at : Deck → ℕ → Lined → Deck
with_at put place l = record put { statements = slice_set put.statements place l }

module _ (deck put : Deck) (files : Files) (place : ℕ) (new : Lined) where
  cut_then : (index : ℕ) → index < place → cut_desks put.variables index (stated (with_at put place new).statements) (fresh put.variables files) ≡ cut_desks put.variables index (stated put.statements) (fresh put.variables files)
  cut_then index low =
      ap (λ sts. cut_desks put.variables index sts (fresh put.variables files)) (stated_set put.statements place new)
      ∙ cut_same put.variables index place (stated put.statements) (fresh put.variables files) (new, control_by new.what) low

  -- what asks at an earlier place did so before
  pub asked_before : (index : ℕ) (lined : Lined) → index < place → Asks (with_at put place new) files index lined → Asks put files index lined
  asked_before index lined low a = record { statement = a.statement; before = a.before; there = sym (cut_then index low) ∙ a.there; question = a.question; asks = a.asks }

  asks_then : (index : ℕ) (lined : Lined) → index < place → Asks put files index lined → Asks (with_at put place new) files index lined
  asks_then index lined low a = record { statement = a.statement; before = a.before; there = cut_then index low ∙ a.there; question = a.question; asks = a.asks }

  -- what was awaited before an earlier place was so before
  awaited_before : (index slot number : ℕ) → index < place → WasAwaited put.variables (stated (with_at put place new).statements) files index slot number → WasAwaited put.variables (stated put.statements) files index slot number
  awaited_before index slot number low w =
      let less : w.index < place = let earlier = w.earlier in omega (arith, earlier, low) in
      record { index = w.index; earlier = w.earlier; statement = w.statement; before = w.before; reached = sym (cut_then w.index less) ∙ w.reached; awaited = w.awaited }

  look_then : (index : ℕ) (l : Look) → index < place → IsLook deck put files index l → IsLook deck (with_at put place new) files index l
  unfolding asks_then
  look_then index l low x = record {
    lined = x.lined;
    is = x.is;
    put_is = set_other put.statements place index new (λ e. absurd (omega (arith, e, low))) ∙ x.put_is;
    line = x.line;
    right = record {
      asks = asks_then index x.lined low x.right.asks;
      unit = x.right.unit;
      answer = x.right.answer;
      told = λ number w. x.right.told number (awaited_before index x.right.asks.question.slot number low w);
      given = x.right.given;
    };
  }

  same_then : (from to : ℕ) → to ≤ place → AreSame deck put from to → AreSame deck (with_at put place new) from to
  same_then from to low h index first last = set_other put.statements place index new (λ e. absurd (omega (arith, e, last, low))) ∙ h index first last

  same_behind : (from to : ℕ) → AreSame deck put from to → from ≤ place → AreSame deck (with_at put place new) (place + 1) to
  same_behind from to h low index first last = set_other put.statements place index new (λ e. absurd (omega (arith, e, first))) ∙ h index (omega (arith, low, first)) last

  -- one more look, behind all of them
  pub looks_then : (bound from : ℕ) (ls : List Look) (l : Look) → place < length deck.statements → bound ≤ place → LooksTo deck put files bound from ls → IsLook deck (with_at put place new) files place l
      → LooksTo deck (with_at put place new) files (place + 1) from (ls ++ l ∷ [])
  looks_then bound from [] l inside low h x =
      let first : from ≤ place = let b = h.0 in omega (arith, b, low) in
      (place, first, (λ index a b. same_then from place (omega arith) (λ i u v. h.1 i u (omega (arith, v, inside))) index a b), x, (omega arith, same_behind from (length deck.statements) h.1 first))
  looks_then bound from (k ∷ ls) l inside low h x =
      let rest = within_bound deck put files bound (h.0 + 1) ls h.4 in
      let less : h.0 < place = omega (arith, rest, low) in
      (h.0, h.1, same_then from h.0 (omega (arith, less)) h.2, look_then h.0 k less h.3, looks_then bound (h.0 + 1) ls l inside low h.4 x)
