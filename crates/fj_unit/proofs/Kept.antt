-- Outcomes that stand in front of those of a unit.
use Rattle.std.proofs.Common.{◌≡◌, ◌≢◌, ◌⊎◌, inl, inr, ℕ, zero, suc, ◌+◌, ◌<◌, List, [], ◌∷◌, ◌++◌, length, map, take, drop, slice_get, true, false, Some, Result, Ok, Err, IfOk, IfSome, refl, sym, ap, ◌∙◌, subst, arith, if◌then◌else◌}
use Rattle.fj_value.specs.declared.condition.Condition.{Condition}
use Rattle.fj_bay.specs.Halt.{halts}
use Rattle.fj_connect.specs.Connection.{Connection}
use Rattle.fj_outside.specs.declared.errors.Stop.{Stop}
use Rattle.fj_unit.specs.declared.unit.Outcome as held
use Rattle.fj_unit.specs.Held.{task, reply}
use Rattle.fj_unit.specs.Statements.{attached}
use Rattle.fj_unit.specs.Unit.{Outcome, Unit}
use Rattle.fj_unit.specs.Program.{Program, outcome_of, behind, held_by, id_in, id_of, condition_in, waited_all, waited_alone, WaitsFor}

pub nothing_kept : {X Y : Type 0} → (f : X → Y) (kept : List X) (p : List Y) → map f kept ++ p ≡ [] → (kept ≡ []) × (p ≡ [])
nothing_kept f [] p e = (refl, e)
nothing_kept f (x ∷ xs) p e = absurd (cc)

-- nothing stands in front
pub behind_nothing : (kept : List held.Outcome) (u : Unit) → kept ≡ [] → behind (map outcome_of kept) u ≡ u
behind_nothing kept u e = ap (λ k. behind (map outcome_of k) u) e

pub weaken : {X E : Type 0} {P Q : X → Type 0} (r : Result X E) → ((x : X) → P x → Q x) → IfOk r P → IfOk r Q
weaken (Ok x) f p = f x p
weaken (Err e) f p = tt

pub opened_view : (x : Result Connection Condition) (r : Result Condition Stop) (kept : List held.Outcome) (old new u : Unit) → kept ≡ []
    → behind (map outcome_of kept) old ≡ u → IfOk r (λ condition. (new, condition) ≡ attached old x)
    → IfOk r (λ condition. (behind (map outcome_of kept) new, condition) ≡ attached u x)
opened_view x r kept old new u none is =
    weaken r (λ condition h. ap (λ v. (v, condition)) (behind_nothing kept new none) ∙ h ∙ ap (λ v. attached v x) (sym (behind_nothing kept old none) ∙ is))

-- ---- places

pub get_kept : {X Y : Type 0} → (f : X → Y) (kept : List X) (p : List Y) (k : ℕ) (x : X) → slice_get kept k ≡ Some x → slice_get (map f kept ++ p) k ≡ Some (f x)
get_kept f [] p k x e = absurd (cc)
get_kept f (y ∷ ys) p zero x e = let same : y ≡ x = cc in ap (λ z. Some (f z)) same
get_kept f (y ∷ ys) p (suc k) x e = get_kept f ys p k x e

pub get_mapped : {X Y : Type 0} → (f : X → Y) (xs : List X) (k : ℕ) (x : X) → slice_get xs k ≡ Some x → slice_get (map f xs) k ≡ Some (f x)
get_mapped f [] k x e = absurd (cc)
get_mapped f (y ∷ ys) zero x e = let same : y ≡ x = cc in ap (λ z. Some (f z)) same
get_mapped f (y ∷ ys) (suc k) x e = get_mapped f ys k x e

pub get_low : {X : Type 0} → (xs : List X) (k : ℕ) (x : X) → slice_get xs k ≡ Some x → k < length xs
get_low [] k x e = absurd (cc)
get_low (y ∷ ys) zero x e = omega arith
get_low (y ∷ ys) (suc k) x e = omega (arith, get_low ys k x e)

pub length_end : {X Y : Type 0} → (f : X → Y) (kept : List X) (p : List Y) → p ≡ [] → length (map f kept ++ p) ≡ length kept
length_end f [] p e = ap length e
length_end f (x ∷ xs) p e = ap suc (length_end f xs p e)

below_or : (j n : ℕ) → j < n + 1 → (j < n) ⊎ (j ≡ n)
below_or zero zero p = inr refl
below_or zero (suc n) p = inl (omega arith)
below_or (suc j) zero p = absurd (omega (arith, p))
below_or (suc j) (suc n) p = elim (below_or j n (omega (arith, p))) [ inl q ↦ inl (omega (arith, q)) | inr q ↦ inr (ap suc q) ]

-- none of the first ones has the identifier, and the next has another
pub passed_on : (os : List Outcome) (at id : ℕ) (here : Outcome) → slice_get os at ≡ Some here → id_of here ≢ id
    → ((k : ℕ) (o : Outcome) → k < at → slice_get os k ≡ Some o → id_of o ≢ id)
    → (k : ℕ) (o : Outcome) → k < at + 1 → slice_get os k ≡ Some o → id_of o ≢ id
passed_on os at id here get other passed k o less e is = elim (below_or k at less) [
  | inl low ↦ passed k o low e is
  | inr same ↦ let both : Some here ≡ Some o = sym get ∙ ap (λ n. slice_get os n) (sym same) ∙ e in let one : here ≡ o = cc in other (ap id_of one ∙ is)
]

removed : {X Y : Type 0} → (f : X → Y) (kept : List X) (p : List Y) (at : ℕ) → at < length kept
    → map f (take at kept ++ drop (at + 1) kept) ++ p ≡ take at (map f kept ++ p) ++ drop (at + 1) (map f kept ++ p)
removed f [] p at low = absurd (omega (arith, low))
removed f (x ∷ xs) p zero low = refl
removed f (x ∷ xs) p (suc at) low =
    let more : suc at + 1 ≡ suc (at + 1) = omega arith in
    ap (λ n. f x ∷ map f (take at xs ++ drop n (x ∷ xs)) ++ p) more ∙ ap (λ l. f x ∷ l) (removed f xs p at (omega (arith, low)))
    ∙ ap (λ n. f x ∷ take at (map f xs ++ p) ++ drop n (f x ∷ map f xs ++ p)) (sym more)

-- ---- WAIT with ID=

abbrev without : Unit → ℕ → Unit
without u at = record u { pending = take at u.pending ++ drop (at + 1) u.pending }

abbrev both : Unit → ℕ → List Outcome → Condition → Program × Condition
both u n told condition = (record { unit = u; next = n; told = told }, condition)

module _ (u0 u : Unit) (kept0 kept told0 : List held.Outcome) (id at : ℕ) (o : held.Outcome) (same : behind (map outcome_of kept) u ≡ behind (map outcome_of kept0) u0)
    (get : slice_get kept at ≡ Some o) (is : id_in (task o.job) ≡ id) where
  here : slice_get (behind (map outcome_of kept0) u0).pending at ≡ Some (outcome_of o)
  here = ap (λ (v : Unit). slice_get v.pending at) (sym same) ∙ get_kept outcome_of kept u.pending at o get

  pub waits_for_all : (n : ℕ) (u' : Unit) (kept' told' : List held.Outcome) (condition : Condition)
      → (held_by u' n kept' told', condition) ≡ waited_all (held_by u n kept told0) → halts (condition_in (reply o.answer)) ≡ true
      → WaitsFor (held_by u0 n kept0 told0) (held_by u' n kept' told') id condition
  waits_for_all n u' kept' told' condition e halting =
      let old = held_by u0 n kept0 told0 in record {
        at = at;
        outcome = outcome_of o;
        found = record { here = here; is = is };
        comes = e ∙ ap (λ (v : Unit). waited_all (record { unit = v; next = n; told = map outcome_of told0 })) same
            ∙ ap (λ b. if b then waited_all old else waited_alone old at (outcome_of o)) (sym halting);
      }

  pub waits_alone : (n : ℕ) (kept' told' : List held.Outcome) (condition : Condition) → kept' ≡ take at kept ++ drop (at + 1) kept
      → IfSome (slice_get kept at) (λ x. told' ≡ x ∷ []) → condition ≡ condition_in (reply o.answer) → halts (condition_in (reply o.answer)) ≡ false
      → WaitsFor (held_by u0 n kept0 told0) (held_by u n kept' told') id condition
  waits_alone n kept' told' condition left told conditioned running =
      let old = held_by u0 n kept0 told0 in
      let one : told' ≡ o ∷ [] = subst (λ r. IfSome r (λ x. told' ≡ x ∷ [])) get told in
      record {
        at = at;
        outcome = outcome_of o;
        found = record { here = here; is = is };
        comes = ap (λ k. both (behind (map outcome_of k) u) n (map outcome_of told') condition) left
            ∙ ap (λ p. both (record u { pending = p }) n (map outcome_of told') condition) (removed outcome_of kept u.pending at (get_low kept at o get))
            ∙ ap (λ v. both (without v at) n (map outcome_of told') condition) same
            ∙ ap (λ t. both (without (behind (map outcome_of kept0) u0) at) n (map outcome_of t) condition) one
            ∙ ap (λ x. both (without (behind (map outcome_of kept0) u0) at) n (outcome_of o ∷ []) x) conditioned
            ∙ ap (λ b. if b then waited_all old else waited_alone old at (outcome_of o)) (sym running);
      }
