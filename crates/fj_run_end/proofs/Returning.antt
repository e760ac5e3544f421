-- What is answered of two steps, and units at their desks.
use Rattle.std.proofs.Common.{◌≡◌, true, false, List, [], ◌∷◌, Some, None, Option, IsSome, IfSome, slice_get, Result, Ok, Err, OnOk, IfErr, refl, sym, ap, ◌∙◌, subst}
use Rattle.fj_outside.specs.declared.errors.Stop.{Stop}
use Rattle.fj_outside.specs.declared.errors.Stop.TheVariants.{Failed, Memory}
use Rattle.fj_connect.specs.Connection.{Connection}
use Rattle.fj_bay.specs.Bay.{Bay as PlainBay}
use Rattle.fj_meaning.specs.State.{Unit as PlainUnit}
use Rattle.fj_meaning_jobs.specs.Both.{Both}
use Rattle.fj_meaning_jobs.specs.Core.{Connected}
use Rattle.fj_meaning_jobs.specs.Desks.{Desk}
use Rattle.fj_meaning_jobs.specs.Desking.{connection_at}
use Rattle.fj_meaning_jobs.specs.Forgetting.{IsSeen, bay_at}
use Rattle.fj_run_end.specs.Losing.{after, is_memory, may_want}
use Rattle.fj_run_end.specs.Closing.{AreSeated, AreNamed}

-- ---- two steps

pub on_ok : {T X Y : Type 0} → (r : Result T Stop) → (X → Y) → OnOk r X → OnOk r Y
on_ok (Ok x) f h = f h
on_ok (Err stop) f h = tt

ok_after : {T X Y Z : Type 0} → (a b : Result T Stop) → OnOk a X → OnOk b Y → (X → Y → Z) → OnOk (after a b) Z
ok_after (Ok x) (Ok y) p q f = f p q
ok_after (Ok x) (Err stop) p q f = tt
ok_after (Err Failed) (Ok y) p q f = tt
ok_after (Err Failed) (Err stop) p q f = tt
ok_after (Err (Memory error)) b p q f = tt

pub both_ok : {T X Y Z : Type 0} → (a b r : Result T Stop) → r ≡ after a b → OnOk a X → OnOk b Y → (X → Y → Z) → OnOk r Z
both_ok {Z = Z} a b r is p q f = subst (λ z. OnOk z Z) (sym is) (ok_after a b p q f)

-- want of memory is met in one of them
pub either_lacks : {T X : Type 0} → (a b r : Result T Stop) → r ≡ after a b → (is_memory a ≡ true → X) → (is_memory b ≡ true → X) → is_memory r ≡ true → X
either_lacks {T} {X} a b r is first other e = by a b (ap is_memory (sym is) ∙ e) first other
  where
    by : (a b : Result T Stop) → is_memory (after a b) ≡ true → (is_memory a ≡ true → X) → (is_memory b ≡ true → X) → X
    by (Ok x) b e first other = other e
    by (Err Failed) (Ok y) e first other = absurd (cc)
    by (Err Failed) (Err stop) e first other = other e
    by (Err (Memory error)) b e first other = first refl

-- or in neither
pub both_tell : {T : Type 0} → (a b r : Result T Stop) → r ≡ after a b → is_memory r ≡ false → (is_memory a ≡ false) × (is_memory b ≡ false)
both_tell {T} a b r is e = by a b (ap is_memory (sym is) ∙ e)
  where
    by : (a b : Result T Stop) → is_memory (after a b) ≡ false → (is_memory a ≡ false) × (is_memory b ≡ false)
    by (Ok x) b e = (refl, e)
    by (Err Failed) (Ok y) e = (refl, refl)
    by (Err Failed) (Err stop) e = (refl, e)
    by (Err (Memory error)) b e = absurd (cc)

-- a record whose end wanted memory is of a slot that no fault stopped
pub wanted : {T : Type 0} → (r : Result T Stop) (stop : Option Stop) → IfErr r (λ e. IfSome stop (λ s. e ≡ s)) → is_memory r ≡ true → may_want stop ≡ true
wanted (Ok x) stop same e = absurd (cc)
wanted (Err Failed) stop same e = absurd (cc)
wanted (Err (Memory error)) None same e = refl
wanted (Err (Memory error)) (Some Failed) same e = absurd (cc)
wanted (Err (Memory error)) (Some (Memory other)) same e = refl

-- ---- units

-- units that are seen have desks
pub seated : (desks : List Desk) (us : List Connected) (vs : List PlainUnit) → Both (IsSeen desks) us vs → AreSeated desks us
seated desks [] vs b = tt
seated desks (u ∷ us) [] b = absurd b
seated desks (u ∷ us) (v ∷ vs) b = (there (slice_get desks u.slot) _ b.0.bay, seated desks us vs b.1)
  where
    there : (o : Option Desk) (x : _) → bay_at o ≡ Some x → IsSome o
    there None x e = absurd (cc)
    there (Some d) x e = refl

-- and the connections there have their names
pub named : (desks : List Desk) (us : List Connected) (vs : List PlainUnit) → Both (IsSeen desks) us vs → AreNamed desks us
named desks [] vs b = tt
named desks (u ∷ us) [] b = absurd b
named desks (u ∷ us) (v ∷ vs) b = (there (slice_get desks u.slot) b.0.bay, named desks us vs b.1)
  where
    there : (o : Option Desk) → bay_at o ≡ Some (record { connection = Some v.connection; halt = v.halt }) → IfSome (connection_at o) (λ c. c.name ≡ u.name)
    there None e = tt
    there (Some d) e =
        let is : d.bay ≡ record { connection = Some v.connection; halt = v.halt } = cc in
        subst (λ (p : Option Connection). IfSome p (λ c. c.name ≡ u.name)) (sym (ap (λ (bay : PlainBay). bay.connection) is)) (sym b.0.name)
