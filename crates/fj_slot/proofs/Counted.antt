-- Each call of a slot keeps it counted.
use Rattle.std.proofs.Common.{◌≡◌, ℕ, ◌<◌, ◌≤◌, Bool, true, false, [], ◌∷◌, ◌++◌, length, Option, Some, None, IfSome, is_some, cond, Result, Ok, Err, IfOk, IfErr, refl, sym, ap, subst, arith}
use Rattle.std.proofs.lemmas.Grind.{common_steps}
use Rattle.std.proofs.lemmas.List.{length-append, length-drop}
use Rattle.fj_outside.specs.declared.errors.Stop.{Stop}
use Rattle.fj_slot.specs.Causes.{HasCause}
use Rattle.fj_slot.specs.Serving.{Meaning}
use Rattle.fj_slot.specs.Ledger.{Ledger, fresh, with_job, with_out, with_answer, with_halt, with_tell, can_begin, can_tell}
use Rattle.fj_slot.specs.Sound.{IsCounted}

-- a fact of the value that is there
pub IfSome_mapped : {X : Type 0} → (o : Option X) (P Q : X → Type 0) → ((x : X) → o ≡ Some x → P x → Q x) → IfSome o P → IfSome o Q
IfSome_mapped None P Q f h = h
IfSome_mapped (Some x) P Q f h = f x refl h

pub if_le : (b : Bool) (n x x' y : ℕ) → n ≤ cond b x y → x ≤ x' → n ≤ cond b x' y
if_le true n x x' y p q = omega arith
if_le false n x x' y p q = p

pub not_halted : {X : Type 0} → (o : Option X) → (is_some o ≡ true → ⊥) → o ≡ None
not_halted None f = refl
not_halted (Some x) f = absurd (f refl)

pub is_there : {X : Type 0} → (o : Option X) (x : X) → o ≡ Some x → is_some o ≡ true
is_there o x e = ap is_some e

-- what `begin` finds
pub record MayBegin {E J A : Type 0} (l : Ledger E J A) : Type 0 where
  pub running : l.halt ≡ None
  pub here : is_some l.home ≡ true
  pub waits : l.done < length l.jobs

pub may_begin : {E J A : Type 0} → (l : Ledger E J A) → can_begin l ≡ true → MayBegin l
may_begin l e = record { running = grind (arith, common_steps); here = grind (arith, common_steps); waits = grind (arith, common_steps) }

module _ {E J A S T R : Type 0} (m : Meaning E J A S T R) where
  pub counted_fresh : (engine : E) → IsCounted m (fresh {E = E} {J = J} {A = A} engine)
  counted_fresh engine = record {
    within = omega arith;
    away = λ q. absurd (cc);
    told = omega arith;
    kept = omega arith;
    count = omega arith;
    at_home = λ _. refl;
    below = λ q. absurd (cc);
    since = tt;
    rose = tt;
    until = tt;
  }

  pub counted_submit : (l : Ledger E J A) (job : J) → IsCounted m l → IsCounted m (with_job l job)
  counted_submit l job h =
      let longer = length-append l.jobs (job ∷ []) in
      record {
        within = omega (arith, longer, h.within);
        away = λ q. omega (arith, longer, h.away q);
        told = if_le (is_some l.halt) l.told (length l.jobs) (length (l.jobs ++ job ∷ [])) l.done h.told (omega arith);
        kept = h.kept;
        count = h.count;
        at_home = h.at_home;
        below = λ q. omega (arith, longer, h.below q);
        since = h.since;
        rose = h.rose;
        until = h.until;
      }

  pub counted_begin : (l : Ledger E J A) → IsCounted m l → can_begin l ≡ true → IsCounted m (with_out l)
  counted_begin l h e =
      let may = may_begin l e in
      record {
        within = h.within;
        away = λ _. may.waits;
        told = h.told;
        kept = h.kept;
        count = tt;
        at_home = λ q. absurd (let r = may.running in cc);
        below = h.below;
        since = h.since;
        rose = h.rose;
        until = rw may.running tt;
      }

  -- no slot with a job out has stopped
  pub runs_while_out : (l : Ledger E J A) → IsCounted m l → l.home ≡ None → l.halt ≡ None
  runs_while_out l h out = not_halted l.halt (λ q. let here = h.at_home q in let o = out in cc)

  pub counted_answer : (l : Ledger E J A) (engine : E) (job : J) (answer : A) → IsCounted m l → l.home ≡ None
      → m.faults l.start ≤ m.faults engine → IsCounted m (with_answer l engine job answer)
  counted_answer l engine job answer h out count =
      let runs = runs_while_out l h out in
      let inside = h.away out in
      let told : l.told ≤ l.done = rw runs at h.told in
      record {
        within = omega (arith, inside);
        away = λ q. absurd (cc);
        told = rw runs (omega arith);
        kept = omega (arith, told, h.kept, length-append l.answers ((job, answer) ∷ []));
        count = count;
        at_home = λ q. absurd (let r = runs in cc);
        below = λ q. absurd (let r = runs in cc);
        since = rw runs tt;
        rose = rw runs tt;
        until = rw runs tt;
      }

  pub counted_halt : (l : Ledger E J A) (engine : E) (stop : Stop) (before : ℕ) → IsCounted m l → l.home ≡ None
      → m.faults l.start ≤ before → HasCause {T = A} before (m.faults engine) (Err stop)
      → IsCounted m (with_halt l engine (record { stop = stop; before = before; after = m.faults engine }))
  counted_halt l engine stop before h out count cause =
      let runs = runs_while_out l h out in
      let inside = h.away out in
      let told : l.told ≤ l.done = rw runs at h.told in
      record {
        within = h.within;
        away = λ q. absurd (cc);
        told = omega (arith, told, h.within);
        kept = h.kept;
        count = omega (arith, count, cause.later);
        at_home = λ _. refl;
        below = λ _. inside;
        since = count;
        rose = (cause.later, λ failed. cause.failed (let f : Stop → Result A Stop = λ x. Err x in ap f failed));
        until = omega arith;
      }

  pub counted_tell : (l : Ledger E J A) → IsCounted m l → can_tell l ≡ true → IsCounted m (with_tell l)
  counted_tell l h can =
      let below : l.told < cond (is_some l.halt) (length l.jobs) l.done = grind (arith, common_steps) in
      record {
        within = h.within;
        away = h.away;
        told = omega (arith, below);
        kept = omega (arith, h.kept, length-drop 1 l.answers);
        count = h.count;
        at_home = h.at_home;
        below = h.below;
        since = h.since;
        rose = h.rose;
        until = h.until;
      }

  pub counted_end : (l new : Ledger E J A) (engine : E) (job : J) (got : Result A Stop) (before : ℕ) → IsCounted m l → l.home ≡ None
      → m.faults l.start ≤ before → HasCause before (m.faults engine) got
      → IfOk got (λ answer. new ≡ with_answer l engine job answer)
      → IfErr got (λ stop. new ≡ with_halt l engine (record { stop = stop; before = before; after = m.faults engine }))
      → IsCounted m new
  counted_end l new engine job (Ok answer) before h out count cause ok err =
      subst (λ n. IsCounted m n) (sym ok) (counted_answer l engine job answer h out (omega (arith, count, cause.later)))
  counted_end l new engine job (Err stop) before h out count cause ok err =
      subst (λ n. IsCounted m n) (sym err) (counted_halt l engine stop before h out count (record { later = cause.later; failed = cause.failed }))
