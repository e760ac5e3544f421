-- What is read at a place.
use Rattle.std.proofs.Common.{◌≡◌, ◌≢◌, true, is_some, ℕ, zero, suc, ◌+◌, List, [], ◌∷◌, ◌++◌, length, Option, Some, None, get_or, slice_get, Result, Ok, Err, IfOk, IfErr, OnOk, OnErr, refl, ◌∙◌}
use Rattle.fj_slot.specs.declared.stop.Halt.{Halt}
use Rattle.fj_slot.specs.declared.told.Refused.{Refused}
use Rattle.fj_queue.specs.Cell.{stop_code}
use Rattle.fj_queue.specs.declared.view.View.{View}
use Rattle.fj_queue.specs.Tokens.{Keeps}
use Rattle.fj_crew.specs.Seats.{Sends}

pub same_read : {X : Type 0} → (xs : List X) (k : ℕ) (x s : X) → slice_get xs k ≡ Some s → x ≡ get_or xs k x → x ≡ s
same_read [] zero x s e r = cc
same_read [] (suc k) x s e r = cc
same_read (y ∷ xs) zero x s e r = let same : y ≡ s = cc in r ∙ same
same_read (y ∷ xs) (suc k) x s e r = same_read xs k x s e r

pub sends_of : {E J T : Type 0} → (v w : View E T) (result : Result ℕ (Refused J)) (job : J) → IfOk result (λ n. n ≡ v.sent) → OnOk result (Keeps v w (v.sent + 1) v.heard v.hands)
    → IfErr result (λ r. (r.job ≡ job) × Keeps v w v.sent v.heard v.hands) → Sends v result w
sends_of v w (Ok n) job number ok err = (number, ok)
sends_of v w (Err e) job number ok err = err.1

pub handed_back : {E J T : Type 0} → (v w : View E T) (result : Result ℕ (Refused J)) (job : J) → IfErr result (λ r. (r.job ≡ job) × Keeps v w v.sent v.heard v.hands) → IfErr result (λ r. r.job ≡ job)
handed_back v w (Ok n) job err = tt
handed_back v w (Err e) job err = err.0

-- what stands at the end of the first ones
pub get_at_end : {X : Type 0} → (xs us : List X) (t : X) → slice_get ((xs ++ t ∷ []) ++ us) (length xs) ≡ Some t
get_at_end [] us t = refl
get_at_end (x ∷ xs) us t = get_at_end xs us t

-- what holds where it is known how the call ended
pub on_ok : {A X Q : Type 0} → (r : Result A X) (a : A) → r ≡ Ok a → OnOk r Q → Q
on_ok (Ok b) a e q = q
on_ok (Err x) a e q = absurd (cc)

pub on_err : {A X Q : Type 0} → (r : Result A X) (x : X) → r ≡ Err x → OnErr r Q → Q
on_err (Ok b) x e q = absurd (cc)
on_err (Err y) x e q = q

-- a word for a stop is that of some stop
pub code_halts : (h : Option Halt) → stop_code h ≢ 0 → is_some h ≡ true
code_halts None some = absurd (some refl)
code_halts (Some h) some = refl
