-- An answer keeps it that the transfers before a place have answers.
use Rattle.std.proofs.Common.{◌≡◌, ℕ, zero, suc, ◌==◌, ◌&&◌, ◌||◌, Bool, true, false, cond, List, [], ◌∷◌, map, filter, take, Option, Some, None, is_none, if◌then◌else◌, refl, sym, ap, ◌∙◌}
use Rattle.std.specs.List.{list_any}
use Rattle.fj_meaning.specs.State.{Entry}
use Rattle.fj_meaning.specs.Telling.{tells_id}
use Rattle.fj_meaning_jobs.specs.Core.{Pending}
use Rattle.fj_meaning_jobs.specs.Desks.{Brought, entry_with}
use Rattle.fj_meaning_turns.specs.Run.{Held, known}
use Rattle.fj_meaning_turns.specs.Turns.{unsettled, with_answer, is_at}
use Rattle.fj_run_pending.specs.Plain.{held}
use Rattle.fj_run_pending.specs.Waits.{waited_of, widest}
use Rattle.fj_run_pending.specs.declared.held.Held as code
use Rattle.fj_run_pending.specs.declared.whose.Whose.{Whose}
use Rattle.fj_run_pending.specs.declared.whose.Whose.TheVariants as whose
use Rattle.fj_run_script.specs.Passing.{are_passed}

-- ---- an answer changes no identifier and no unit

abbrev given : Bool → Brought → Held → Held
given at it h = if at then record { pending = h.pending; answer = Some it } else h

id_known : (h : Held) (o : Option Brought) → (entry_with h.pending o).id ≡ h.pending.id
id_known h None = refl
id_known h (Some it) = refl

unit_known : (h : Held) (o : Option Brought) → (entry_with h.pending o).unit ≡ h.pending.unit
unit_known h None = refl
unit_known h (Some it) = refl

same_pending : (at : Bool) (it : Brought) (h : Held) → (given at it h).pending ≡ h.pending
same_pending true it h = refl
same_pending false it h = refl

id_given : (at : Bool) (it : Brought) (h : Held) → (known (given at it h)).id ≡ (known h).id
id_given at it h = id_known (given at it h) (given at it h).answer ∙ (ap (λ (e : Pending). e.id) (same_pending at it h) ∙ sym (id_known h h.answer))

unit_given : (at : Bool) (it : Brought) (h : Held) → (known (given at it h)).unit ≡ (known h).unit
unit_given at it h = unit_known (given at it h) (given at it h).answer ∙ (ap (λ (e : Pending). e.unit) (same_pending at it h) ∙ sym (unit_known h h.answer))

module _ (slot number : ℕ) (it : Brought) (id : ℕ) where
  all_same : (hs : List Held) → tells_id (map known (with_answer slot number it hs)) id ≡ tells_id (map known hs) id
  all_same [] = refl
  all_same (h ∷ hs) = ap (λ n. (n == id) || tells_id (map known (with_answer slot number it hs)) id) (id_given (is_at slot number h.pending) it h)
      ∙ ap (λ b. ((known h).id == id) || b) (all_same hs)

  among : (b : Bool) (x y : Entry) (xs ys : List Entry) → x.id ≡ y.id → tells_id xs id ≡ tells_id ys id → tells_id (cond b (x ∷ xs) xs) id ≡ tells_id (cond b (y ∷ ys) ys) id
  among true x y xs ys e more = ap (λ n. (n == id) || tells_id xs id) e ∙ ap (λ b. (y.id == id) || b) more
  among false x y xs ys e more = more

  unit_same : (u : ℕ) (hs : List Held)
      → tells_id (filter (λ (e : Entry). e.unit == u) (map known (with_answer slot number it hs))) id ≡ tells_id (filter (λ (e : Entry). e.unit == u) (map known hs)) id
  unit_same u [] = refl
  unit_same u (h ∷ hs) =
      let new = known (given (is_at slot number h.pending) it h) in
      let xs = filter (λ (e : Entry). e.unit == u) (map known (with_answer slot number it hs)) in
      ap (λ n. tells_id (cond (n == u) (new ∷ xs) xs) id) (unit_given (is_at slot number h.pending) it h)
      ∙ among ((known h).unit == u) new (known h) xs (filter (λ (e : Entry). e.unit == u) (map known hs)) (id_given (is_at slot number h.pending) it h) (unit_same u hs)

  waited_same : (w : Whose) (hs : List Held) → tells_id (waited_of (widest w) (map known (with_answer slot number it hs))) id ≡ tells_id (waited_of (widest w) (map known hs)) id
  waited_same whose.None hs = refl
  waited_same (whose.OfUnit u) hs = unit_same u hs
  waited_same (whose.OfId u i) hs = unit_same u hs
  waited_same whose.All hs = all_same hs

-- ---- so those that have answers are passed still

rest_none : (b : Bool) (n : ℕ) (o : Option ℕ) → is_none (cond b (Some n) o) ≡ true → is_none o ≡ true
rest_none true n o p = let e : false ≡ true = p in cc
rest_none false n o p = p

either_none : (b : Bool) (n m : ℕ) (o o' : Option ℕ) → (is_none o ≡ true → is_none o' ≡ true) → is_none (cond b (Some n) o) ≡ true → is_none (cond b (Some m) o') ≡ true
either_none true n m o o' go p = let e : false ≡ true = p in cc
either_none false n m o o' go p = go p

and_false : (b : Bool) → (b && false) ≡ false
and_false true = refl
and_false false = refl

head_kept : (at : Bool) (it : Brought) (h : Held) (f f' : ℕ → Bool) → ((id : ℕ) → f' id ≡ f id) → (o o' : Option ℕ) → (is_none o ≡ true → is_none o' ≡ true)
    → is_none (cond (f h.pending.id && is_none h.answer) (Some h.pending.slot) o) ≡ true
    → is_none (cond (f' (given at it h).pending.id && is_none (given at it h).answer) (Some (given at it h).pending.slot) o') ≡ true
head_kept true it h f f' same o o' go p =
    ap (λ b. is_none (cond b (Some h.pending.slot) o')) (and_false (f' h.pending.id)) ∙ go (rest_none (f h.pending.id && is_none h.answer) h.pending.slot o p)
head_kept false it h f f' same o o' go p =
    ap (λ b. is_none (cond (b && is_none h.answer) (Some h.pending.slot) o')) (same h.pending.id)
    ∙ either_none (f h.pending.id && is_none h.answer) h.pending.slot h.pending.slot o o' go p

unsettled_kept : (slot number : ℕ) (it : Brought) (es es' : List Entry) → ((id : ℕ) → tells_id es' id ≡ tells_id es id) → (n : ℕ) (hs : List Held)
    → is_none (unsettled es (take n hs)) ≡ true → is_none (unsettled es' (take n (with_answer slot number it hs))) ≡ true
unsettled_kept slot number it es es' same zero hs p = refl
unsettled_kept slot number it es es' same (suc n) [] p = refl
unsettled_kept slot number it es es' same (suc n) (h ∷ hs) p =
    head_kept (is_at slot number h.pending) it h (tells_id es) (tells_id es') same (unsettled es (take n hs)) (unsettled es' (take n (with_answer slot number it hs)))
    (unsettled_kept slot number it es es' same n hs) p

pub passed_kept : (slot number : ℕ) (it : Brought) (hs hs' : List code.Held) (w : Whose) (from : ℕ) → held hs' ≡ with_answer slot number it (held hs)
    → are_passed hs w from ≡ true → are_passed hs' w from ≡ true
passed_kept slot number it hs hs' w from e p =
    ap (λ (ps : List Held). is_none (unsettled (waited_of (widest w) (map known ps)) (take from ps))) e
    ∙ unsettled_kept slot number it (waited_of (widest w) (map known (held hs))) (waited_of (widest w) (map known (with_answer slot number it (held hs))))
    (λ id. waited_same slot number it id w (held hs)) from (held hs) p

-- ---- the transfers themselves are the same

pub answered_pendings : (slot number : ℕ) (it : Brought) (hs : List Held) → map (λ (h : Held). h.pending) (with_answer slot number it hs) ≡ map (λ (h : Held). h.pending) hs
answered_pendings slot number it [] = refl
answered_pendings slot number it (h ∷ hs) =
    ap (λ e. e ∷ map (λ (h : Held). h.pending) (with_answer slot number it hs)) (same_pending (is_at slot number h.pending) it h)
    ∙ ap (λ es. h.pending ∷ es) (answered_pendings slot number it hs)

-- where none has the number, nothing changes
unchanged : (at : Bool) (it : Brought) (h : Held) (hs hs' : List Held) (rest : Bool) → (at || rest) ≡ false → (rest ≡ false → hs' ≡ hs) → (given at it h ∷ hs') ≡ (h ∷ hs)
unchanged true it h hs hs' rest p go = let e : true ≡ false = p in cc
unchanged false it h hs hs' rest p go = ap (λ t. h ∷ t) (go p)

pub none_answered : (slot number : ℕ) (it : Brought) (hs : List Held) → list_any (λ (h : Held). is_at slot number h.pending) hs ≡ false → with_answer slot number it hs ≡ hs
none_answered slot number it [] p = refl
none_answered slot number it (h ∷ hs) p =
    unchanged (is_at slot number h.pending) it h hs (with_answer slot number it hs) (list_any (λ (h : Held). is_at slot number h.pending) hs) p (none_answered slot number it hs)
