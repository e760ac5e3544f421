-- What each step tells: of the step, the seat before, the number found and the seat after.
use Rattle.std.specs.Prelude.{◌≡◌, ◌≢◌, ℕ, ◌+◌, ◌*◌, ◌≤◌, true, false, [], ◌∷◌, Option, Some, None}
use Rattle.atomic_table.specs.Table.{Me, Step, rest}
use Rattle.fj_slot.specs.Serving.{Meaning}
use Rattle.fj_slot.specs.Ledger.{Ledger}
use Rattle.fj_queue.specs.Cell.{progress, submitted, told}
use Rattle.fj_slot.specs.Ledger.{IsSized}
use Rattle.fj_queue.specs.Cell.{IsFor}
use Rattle.fj_queue.specs.declared.view.View.{View}
use Rattle.fj_queue.specs.Cell.{stop_code}

-- what the seat has seen of the words are this cell's numbers
pub record Agrees {E J A T : Type 0} (v : View E T) (c : Ledger E J A) : Type 0 where
  pub jobs : (k : ℕ) → v.submissions ≡ Some k → submitted c ≡ k
  pub progress_is : (k : ℕ) → v.progress ≡ Some k → progress c ≡ k
  pub told_is : (k : ℕ) → v.tells ≡ Some k → told c ≡ k
  pub stop : (k : ℕ) → v.stop ≡ Some k → stop_code c.halt ≡ k

-- the view as a turn begins
abbrev pub turning : {E T : Type 0} → View E T → View E T
turning v = record v { holds = true; turns = v.turns + 1; submissions = None; progress = None; tells = None; stop = None }

abbrev pub Mine : (E J A T : Type 0) → Type 0
Mine E J A T = Me (Option (Ledger E J A)) (View E T)

-- the seat has this cell in hand, and nothing else
abbrev pub Carries : {E J A T : Type 0} → Mine E J A T → Ledger E J A → Type 0
Carries m c = m.1 ≡ (0, Some c) ∷ []

-- a view with this cell in hand
abbrev pub carrying : {E J A T : Type 0} → View E T → Ledger E J A → Mine E J A T
carrying v c = (v, (0, Some c) ∷ [])

abbrev pub At : (E J A : Type 0) → Type 0
At E J A = Step (Option (Ledger E J A))

module _ {E J A T : Type 0} where
  abbrev pub took_turn : At E J A → Mine E J A T → ℕ → Mine E J A T → Type 0
  took_turn st m n m' = (n ≡ 0 → m' ≡ (turning m.0, m.1)) × (n ≢ 0 → m' ≡ m)

  abbrev pub gave_turn : At E J A → Mine E J A T → ℕ → Mine E J A T → Type 0
  gave_turn st m n m' = m' ≡ (record m.0 { holds = false }, m.1)

  abbrev pub saw_submissions : At E J A → Mine E J A T → ℕ → Mine E J A T → Type 0
  saw_submissions st m n m' = (m' ≡ (record m.0 { submissions = Some n }, m.1)) × (m.0.sends ≡ true → n ≡ m.0.sent)

  abbrev pub saw_progress : At E J A → Mine E J A T → ℕ → Mine E J A T → Type 0
  saw_progress st m n m' = (m' ≡ (record m.0 { progress = Some n }, m.1)) × ((k : ℕ) → m.0.runs ≡ Some k → n ≡ 2 * k + 1)

  abbrev pub saw_tells : At E J A → Mine E J A T → ℕ → Mine E J A T → Type 0
  saw_tells st m n m' = (m' ≡ (record m.0 { tells = Some n }, m.1)) × (m.0.sends ≡ true → n ≡ m.0.heard)

  -- a seat that runs a job sees no stop
  abbrev pub saw_stop : At E J A → Mine E J A T → ℕ → Mine E J A T → Type 0
  saw_stop st m n m' = (m' ≡ (record m.0 { stop = Some n }, m.1)) × ((k : ℕ) → m.0.runs ≡ Some k → n ≡ 0)

  abbrev pub took_cell : {S R : Type 0} → Meaning E J A S T R → At E J A → Mine E J A T → ℕ → Mine E J A T → Type 0
  took_cell mean st m n m' = (c : Ledger E J A) × (m' ≡ (record m.0 { out = true }, (0, Some c) ∷ m.1)) × IsSized c × IsFor mean m.0.plan c × Agrees m.0 c

  abbrev pub put_cell : At E J A → Mine E J A T → ℕ → Mine E J A T → Type 0
  put_cell st m n m' = m' ≡ (record m.0 { out = false }, rest m.1)

  abbrev pub counted_submission : At E J A → Mine E J A T → ℕ → Mine E J A T → Type 0
  counted_submission st m n m' = (m' ≡ (record m.0 { submissions = Some (m.0.sent + 1); sent = m.0.sent + 1 }, m.1)) × (n ≡ m.0.sent)

  abbrev pub counted_tell : At E J A → Mine E J A T → ℕ → Mine E J A T → Type 0
  counted_tell st m n m' = m' ≡ (record m.0 { tells = Some (m.0.heard + 1); heard = m.0.heard + 1 }, m.1)

  -- the tell of a stop, which was seen
  abbrev pub counted_stop : At E J A → Mine E J A T → ℕ → Mine E J A T → Type 0
  counted_stop st m n m' = (h d : ℕ) → m.0.stop ≡ Some h → m.0.progress ≡ Some (2 * d + 2) → (m' ≡ (record m.0 { tells = Some (m.0.heard + 1); heard = m.0.heard + 1; answered = false; stopped = h; stopped_at = d }, m.1)) × (m.0.answered ≡ true → h ≢ 0 → m.0.heard ≤ d)

  abbrev pub began : At E J A → Mine E J A T → ℕ → Mine E J A T → Type 0
  began st m n m' = (k : ℕ) → m.0.progress ≡ Some (2 * k) → m' ≡ (record m.0 { runs = Some k; progress = Some (2 * k + 1) }, m.1)

  abbrev pub ended : At E J A → Mine E J A T → ℕ → Mine E J A T → Type 0
  ended st m n m' = (k : ℕ) → m.0.runs ≡ Some k → m' ≡ (record m.0 { runs = None; ended = m.0.ended + 1; progress = Some (2 * k + 2) }, m.1)

  abbrev pub set_stop : At E J A → Mine E J A T → ℕ → Mine E J A T → Type 0
  set_stop st m n m' = m' ≡ (record m.0 { stop = Some st.first }, m.1)
