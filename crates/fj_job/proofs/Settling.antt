-- Names of files that are out, and what was lost first.
use Rattle.std.proofs.Common.{◌≡◌, ◌⊎◌, inl, inr, ℕ, List, [], false, Option, Some, None, Result, Ok, Err, OnOk, OnErr, refl, ap, sym, ◌∙◌, subst}
use Rattle.std.specs.Ordering.{nat_cmp}
use Rattle.std.specs.Cmp.Lexicographic.{slice_cmp, nat_list_cmp_total}
use Rattle.std.specs.FinMap.{slice_cmp-IsAntisymmetric, nat_cmp-IsAntisymmetric}
use Rattle.std.specs.FinSet as set
use Rattle.fj_outside.specs.Holdings.{Names}
use Rattle.fj_outside.specs.declared.errors.Stop.{Stop}
use Rattle.fj_outside.specs.declared.errors.Stop.TheVariants as stop
use Rattle.fj_run_units.specs.Names.{stands, AreInUse}
use Rattle.fj_run_items.specs.declared.lost.Lost.{Lost}
use Rattle.fj_run_items.specs.declared.lost.Lost.TheVariants.{Sink, Disk}
use Rattle.fj_run_end.specs.Losing.{is_memory}
use Rattle.fj_job.specs.Losing.{first_lost, settled_by, wants}

-- no name stands: none is in use
pub none_in_use : (names : List (List ℕ)) (in_use : Names) → names ≡ [] → AreInUse names in_use → in_use ≡ set.empty
none_in_use names in_use e are = set.same_set nat_list_cmp_total (slice_cmp-IsAntisymmetric nat_cmp-IsAntisymmetric) _ _
    (λ q. are q ∙ ap (λ (ns : List (List ℕ)). stands ns q) e ∙ sym (set.contains-empty (slice_cmp nat_cmp) q))

pub in_use_none : (names : List (List ℕ)) (in_use : Names) → names ≡ [] → in_use ≡ set.empty → AreInUse names in_use
in_use_none names in_use e f = λ q. ap (λ (s : Names). set.contains s q) f ∙ set.contains-empty (slice_cmp nat_cmp) q ∙ ap (λ (ns : List (List ℕ)). stands ns q) (sym e)

-- ---- outcomes

pub where_ok : {X E : Type 0} (r : Result X E) (x : X) (P : Type 0) → r ≡ Ok x → OnOk r P → P
where_ok {X} {E} r x P e h = subst (λ (y : Result X E). OnOk y P) e h

pub where_err : {X E : Type 0} (r : Result X E) (error : E) (P : Type 0) → r ≡ Err error → OnErr r P → P
where_err {X} {E} r error P e h = subst (λ (y : Result X E). OnErr y P) e h

pub on_ok : {E : Type 0} (r : Result (Unit {0}) E) (P : Type 0) → (r ≡ Ok tt → P) → OnOk r P
on_ok (Ok x) P h = h refl
on_ok (Err error) P h = tt

-- ---- what was lost first

-- the same loss, where the machine has it
pub lost_then : {Q : Type 0} {was now lost : Option Lost} → now ≡ was → (now ≡ lost) ⊎ Q → (was ≡ lost) ⊎ Q
lost_then same (inl e) = inl (sym same ∙ e)
lost_then same (inr q) = inr q

none_first : (lost : Option Lost) (closed : Result (Unit {0}) Stop) → first_lost lost closed ≡ None → (lost ≡ None) × (closed ≡ Ok tt)
none_first lost (Ok x) e = (e, refl)
none_first lost (Err (stop.Memory error)) e = cc
none_first (Some first) (Err stop.Failed) e = cc
none_first None (Err stop.Failed) e = cc

sink_first : (lost : Option Lost) (closed : Result (Unit {0}) Stop) → first_lost lost closed ≡ Some Sink → lost ≡ Some Sink
sink_first lost (Ok x) e = e
sink_first lost (Err (stop.Memory error)) e = cc
sink_first (Some first) (Err stop.Failed) e = e
sink_first None (Err stop.Failed) e = cc

disk_first : (lost : Option Lost) (closed : Result (Unit {0}) Stop) → first_lost lost closed ≡ Some Disk → (lost ≡ Some Disk) ⊎ ((lost ≡ None) × (closed ≡ Err stop.Failed))
disk_first lost (Ok x) e = inl e
disk_first lost (Err (stop.Memory error)) e = cc
disk_first (Some first) (Err stop.Failed) e = inl e
disk_first None (Err stop.Failed) e = inr (refl, refl)

-- want of memory in closing is what was lost
want_first : (lost : Option Lost) (closed : Result (Unit {0}) Stop) → wants (settled_by (first_lost lost closed)) ≡ false → is_memory closed ≡ false
want_first lost (Ok x) e = refl
want_first lost (Err (stop.Memory error)) e = cc
want_first lost (Err stop.Failed) e = refl

want_before : (lost : Option Lost) (closed : Result (Unit {0}) Stop) → wants (settled_by (first_lost lost closed)) ≡ false → wants (settled_by lost) ≡ false
want_before lost (Ok x) e = e
want_before lost (Err (stop.Memory error)) e = cc
want_before (Some first) (Err stop.Failed) e = e
want_before None (Err stop.Failed) e = refl

settled_ok : (lost : Option Lost) → settled_by lost ≡ Ok tt → lost ≡ None
settled_ok None e = refl
settled_ok (Some lost) e = cc

settled_err : (lost : Option Lost) (error : Lost) → settled_by lost ≡ Err error → lost ≡ Some error
settled_err None error e = cc
settled_err (Some lost) error e = let same : lost ≡ error = cc in ap Some same

-- What is answered where something was lost before, or nothing, and then in closing, or where a connection that was kept went back.
pub record AnswersFirst (lost : Option Lost) (closed given : Result (Unit {0}) Stop) (result : Result (Unit {0}) Lost) : Type 0 where
  pub ok : result ≡ Ok tt → (lost ≡ None) × (closed ≡ Ok tt)
  pub sink : result ≡ Err Sink → lost ≡ Some Sink
  pub disk : result ≡ Err Disk → (lost ≡ Some Disk) ⊎ ((lost ≡ None) × ((closed ≡ Err stop.Failed) ⊎ (given ≡ Err stop.Failed)))
  pub want : wants result ≡ false → is_memory closed ≡ false

pub answers_first : (lost first last : Option Lost) (closed given : Result (Unit {0}) Stop) (result : Result (Unit {0}) Lost) → first ≡ first_lost lost closed → last ≡ first_lost first given → result ≡ settled_by last
    → AnswersFirst lost closed given result
answers_first lost first last closed given result one two three =
    subst (AnswersFirst lost closed given) (sym (three ∙ ap settled_by two ∙ ap (λ o. settled_by (first_lost o given)) one)) (record {
      ok = λ e. none_first lost closed (none_first inner given (settled_ok (first_lost inner given) e)).0;
      sink = λ e. sink_first lost closed (sink_first inner given (settled_err (first_lost inner given) Sink e));
      disk = λ e. elim (disk_first inner given (settled_err (first_lost inner given) Disk e)) [
        | inl before ↦ elim (disk_first lost closed before) [ inl was ↦ inl was | inr here ↦ inr (here.0, inl here.1) ]
        | inr (none, failed) ↦ inr ((none_first lost closed none).0, inr failed)
      ];
      want = λ e. want_first lost closed (want_before inner given e);
    })
  where
    inner : Option Lost
    inner = first_lost lost closed
