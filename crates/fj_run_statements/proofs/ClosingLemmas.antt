-- What closes connections, as jobs and how the statement goes on.
use Rattle.std.proofs.Common.{◌≡◌, ℕ, Bool, true, false, not, drop, inl, inr, ◌⊎◌, List, [], ◌∷◌, Option, Some, None, Ok, refl, sym, ap, subst, ◌∙◌}
use Rattle.std.specs.Prelude.{◌==◌, ◌&&◌, unwrap_or, slice_get, option_and_then, if◌then◌else◌}
use Rattle.std.proofs.Math.Path.{fun_ext}
use Rattle.fj_value.specs.declared.condition.Condition.{Condition}
use Rattle.fj_value.specs.declared.condition.Condition.TheVariants.{Fine, Error}
use Rattle.fj_modes.specs.Modes.{settled}
use Rattle.fj_modes.specs.declared.modes.Modes.{Modes}
use Rattle.fj_modes.specs.declared.specifiers.OpenSpec.{OpenSpec}
use Rattle.fj_statement.specs.declared.deck.Variable.{Variable}
use Rattle.fj_statement.specs.declared.statement.Statement.{Statement}
use Rattle.fj_statement.specs.declared.statement.Statement.TheVariants as statement
use Rattle.fj_bay.specs.Jobs.{detach}
use Rattle.fj_bay.specs.declared.job.Job.TheVariants as job
use Rattle.fj_meaning.specs.Statement.{Stated}
use Rattle.fj_meaning_jobs.specs.Core.{Core, Connected, connected_at, without_connected}
use Rattle.fj_meaning_jobs.specs.Doing.{Doing, finishes, awaits}
use Rattle.fj_meaning_jobs.specs.Acting.{came_out, detaches, disconnected, once_out, all_closed, closes, closes_anyway, unit_at, keeps, connects}
use Rattle.fj_run_units.specs.Units.{AreApart, AreOthers}
use Rattle.fj_run_statements.specs.Doing.{IsDoing, AsksToOpen, closed, connects_in, connects_by}
use Rattle.fj_run_statements.specs.declared.doing.After.TheVariants as after
use Rattle.fj_run_statements.specs.declared.doing.Then.TheVariants as then
use Rattle.fj_run_statements.specs.declared.doing.Doing.{Doing as Does}
use Rattle.fj_run_statements.specs.declared.doing.Doing.TheVariants as doing
use Rattle.std.proofs.lemmas.Bool.{eq-eqb, ne_eqb, eqb-true}

found_number_by : (v : Connected) (us : List Connected) (n : ℕ) (u : Connected) (b : Bool) → (v.number == n) ≡ b → (connected_at us n ≡ Some u → u.number ≡ n)
    → (if b then Some v else connected_at us n) ≡ Some u → u.number ≡ n
found_number_by v us n u true t rest e = let is : v ≡ u = cc in ap (λ (w : Connected). w.number) (sym is) ∙ eqb-true v.number n t
found_number_by v us n u false t rest e = rest e

pub found_number : (us : List Connected) (n : ℕ) (u : Connected) → connected_at us n ≡ Some u → u.number ≡ n
found_number [] n u e = absurd (let bad : ⊥ = cc in bad)
found_number (v ∷ us) n u e = found_number_by v us n u (v.number == n) refl (found_number us n u) e

pub found_again : (us : List Connected) (n : ℕ) (u : Connected) → connected_at us n ≡ Some u → connected_at us u.number ≡ Some u
found_again us n u e = ap (connected_at us) (found_number us n u e) ∙ e

-- ---- one connection is closed

pub closes_is : {F : Type 0} (told : F → Bool) (bytes : F → List ℕ) (variables : List Variable) (st : Stated) (core : Core) (u : Connected) (keep : Bool) (condition : Condition)
    → connected_at core.units u.number ≡ Some u
    → IsDoing told bytes variables st core (doing.Awaits u.slot (job.Detach None) (then.Closes u.number keep (after.Finishes condition))) (detaches core u keep (λ new. finishes new condition))
closes_is told bytes variables st core u keep condition found = record {
  task = detach None;
  is = refl;
  gives = ap (λ (x : Option Connected). awaits u.slot (detach None) core (closed core x keep (λ new. finishes new condition))) (sym found);
}

-- ---- all are closed

others_left : (n : ℕ) (us : List Connected) → AreOthers n us → without_connected n us ≡ us
others_left n [] h = refl
others_left n (u ∷ us) h =
    ap (λ b. if not b then u ∷ without_connected n us else without_connected n us) (ne_eqb u.number n h.0) ∙ ap (λ l. u ∷ l) (others_left n us h.1)

first_left : (u : Connected) (us : List Connected) → AreApart (u ∷ us) → without_connected u.number (u ∷ us) ≡ us
first_left u us h =
    ap (λ b. if not b then u ∷ without_connected u.number us else without_connected u.number us) (eq-eqb u.number u.number refl) ∙ others_left u.number us h.0

first_found : (u : Connected) (us : List Connected) → connected_at (u ∷ us) u.number ≡ Some u
first_found u us = ap (λ b. if b then Some u else connected_at us u.number) (eq-eqb u.number u.number refl)

pub closes_all_is : {F : Type 0} (told : F → Bool) (bytes : F → List ℕ) (variables : List Variable) (st : Stated) (core : Core) (u : Connected) (us : List Connected) (condition : Condition)
    → core.units ≡ u ∷ us → AreApart core.units
    → IsDoing told bytes variables st core (doing.Awaits u.slot (job.Detach None) (then.Closes u.number (keeps u) (after.ClosesAll condition))) (all_closed core.units core condition)
closes_all_is told bytes variables st core u us condition e apart = record {
  task = detach None;
  is = refl;
  gives =
      ap (λ l. all_closed l core condition) e
      ∙ ap (λ (l : List Connected). awaits u.slot (detach None) core (λ o. if came_out u o then all_closed l (disconnected core u (keeps u) o) condition else finishes core (Error 1)))
      (sym (ap (without_connected u.number) e ∙ first_left u us (subst AreApart e apart)))
      ∙ ap (λ (x : Option Connected). awaits u.slot (detach None) core (closed core x (keeps u) (λ new. all_closed new.units new condition)))
      (sym (ap (λ l. connected_at l u.number) e ∙ first_found u us));
}

-- ---- another file is connected then

pub connects_is : (what : Statement) (number : ℕ) (spec : OpenSpec) (modes : Modes) (core : Core) → AsksToOpen what spec → settled spec ≡ Ok modes → connects_in what number core ≡ connects number spec modes core
connects_is (statement.OpenUnit unit given iostat) number spec modes core asks e =
    ap (λ (s : OpenSpec). connects_by number s core (settled s)) asks ∙ ap (connects_by number spec core) e
connects_is (statement.Assign to from) number spec modes core asks e = absurd asks
connects_is (statement.CloseUnit unit keep iostat) number spec modes core asks e = absurd asks
connects_is (statement.WaitFor unit id iostat) number spec modes core asks e = absurd asks
connects_is (statement.Move how unit iostat) number spec modes core asks e = absurd asks
connects_is (statement.Inquire subject asked id iostat _) number spec modes core asks e = absurd asks
connects_is (statement.Transfer t) number spec modes core asks e = absurd asks
connects_is statement.End number spec modes core asks e = absurd asks

pub closes_first_is : {F : Type 0} (told : F → Bool) (bytes : F → List ℕ) (variables : List Variable) (st : Stated) (core : Core) (u : Connected) (keep : Bool) (spec : OpenSpec) (modes : Modes)
    → connected_at core.units u.number ≡ Some u → AsksToOpen st.0.what spec → settled spec ≡ Ok modes
    → IsDoing told bytes variables st core (doing.Awaits u.slot (job.Detach None) (then.Closes u.number keep (after.Connects u.number))) (detaches core u keep (connects u.number spec modes))
closes_first_is told bytes variables st core u keep spec modes found asks e = record {
  task = detach None;
  is = refl;
  gives =
      ap (λ (next : Core → Doing). awaits u.slot (detach None) core (once_out core u keep next)) (fun_ext (λ new. sym (connects_is st.0.what u.number spec modes new asks e)))
      ∙ ap (λ (x : Option Connected). awaits u.slot (detach None) core (closed core x keep (connects_in st.0.what u.number))) (sym found);
}

-- ---- CLOSE and END

found_at : (us : List Connected) (o : Option ℕ) (u : Connected) → Some u ≡ option_and_then (connected_at us) o → connected_at us u.number ≡ Some u
found_at us None u e = absurd (let bad : ⊥ = cc in bad)
found_at us (Some n) u e = found_again us n u (sym e)

-- what CLOSE does is an IsDoing of the plain statement that is the same
same_doing : {F : Type 0} (told : F → Bool) (bytes : F → List ℕ) (variables : List Variable) (st : Stated) (core : Core) (d x : Does F) (p q : Doing) → d ≡ x → p ≡ q
    → IsDoing told bytes variables st core x q → IsDoing told bytes variables st core d p
same_doing told bytes variables st core d x p q e f h =
    subst (λ y. IsDoing told bytes variables st core y p) (sym e) (subst (λ y. IsDoing told bytes variables st core x y) (sym f) h)

pub close_is : {F : Type 0} (told : F → Bool) (bytes : F → List ℕ) (variables : List Variable) (st : Stated) (core : Core) (keep : Option Bool) (o : Option ℕ) (u : Connected) (kept : Bool) (d : Does F)
    → Some u ≡ option_and_then (connected_at core.units) o → (unwrap_or keep false && u.modes.scratch) ≡ false → kept ≡ unwrap_or keep (keeps u)
    → d ≡ doing.Awaits u.slot (job.Detach None) (then.Closes u.number kept (after.Finishes Fine))
    → IsDoing told bytes variables st core d (closes core keep (unit_at core o))
close_is told bytes variables st core keep o u kept d at may is makes =
    same_doing told bytes variables st core d (doing.Awaits u.slot (job.Detach None) (then.Closes u.number kept (after.Finishes Fine))) (closes core keep (unit_at core o)) (detaches core u kept (λ new. finishes new Fine)) makes
    (sym (ap (closes core keep) at)
    ∙ ap (λ b. if b then finishes core (Error 4) else detaches core u (unwrap_or keep (keeps u)) (λ new. finishes new Fine)) may
    ∙ ap (λ b. detaches core u b (λ new. finishes new Fine)) (sym is))
    (closes_is told bytes variables st core u kept Fine (found_at core.units o u at))

pub close_anyway_is : {F : Type 0} (told : F → Bool) (bytes : F → List ℕ) (variables : List Variable) (st : Stated) (core : Core) (keep : Option Bool) (o : Option ℕ) (u : Connected) (kept : Bool) (condition : Condition) (d : Does F)
    → Some u ≡ option_and_then (connected_at core.units) o → kept ≡ (keeps u && unwrap_or keep true)
    → d ≡ doing.Awaits u.slot (job.Detach None) (then.Closes u.number kept (after.Finishes condition))
    → IsDoing told bytes variables st core d (closes_anyway core keep condition (unit_at core o))
close_anyway_is told bytes variables st core keep o u kept condition d at is makes =
    same_doing told bytes variables st core d (doing.Awaits u.slot (job.Detach None) (then.Closes u.number kept (after.Finishes condition))) (closes_anyway core keep condition (unit_at core o))
    (detaches core u kept (λ new. finishes new condition)) makes
    (sym (ap (closes_anyway core keep condition) at) ∙ ap (λ b. detaches core u b (λ new. finishes new condition)) (sym is))
    (closes_is told bytes variables st core u kept condition (found_at core.units o u at))

first_of : (us : List Connected) (u : Connected) → Some u ≡ slice_get us 0 → us ≡ u ∷ drop 1 us
first_of [] u e = absurd (let bad : ⊥ = cc in bad)
first_of (v ∷ us) u e = ap (λ w. w ∷ us) (let same : v ≡ u = cc in same)

none_of : (us : List Connected) → None ≡ slice_get us 0 → us ≡ []
none_of [] e = refl
none_of (v ∷ us) e = absurd (let bad : ⊥ = cc in bad)

pub close_all_is : {F : Type 0} (told : F → Bool) (bytes : F → List ℕ) (variables : List Variable) (st : Stated) (core : Core) (u : Connected) (condition : Condition) (d : Does F)
    → Some u ≡ slice_get core.units 0 → AreApart core.units → d ≡ doing.Awaits u.slot (job.Detach None) (then.Closes u.number (keeps u) (after.ClosesAll condition))
    → IsDoing told bytes variables st core d (all_closed core.units core condition)
close_all_is told bytes variables st core u condition d first apart makes =
    same_doing told bytes variables st core d (doing.Awaits u.slot (job.Detach None) (then.Closes u.number (keeps u) (after.ClosesAll condition))) (all_closed core.units core condition)
    (all_closed core.units core condition) makes refl (closes_all_is told bytes variables st core u (drop 1 core.units) condition (first_of core.units u first) apart)

pub close_none_is : (core : Core) (condition : Condition) → None ≡ slice_get core.units 0 → all_closed core.units core condition ≡ finishes core condition
close_none_is core condition e = ap (λ us. all_closed us core condition) (none_of core.units e)

-- the tests of CLOSE
pub may_close : (r a s : Bool) → r ≡ a → ((r ≡ true) × (s ≡ false)) ⊎ (r ≡ false) → (a && s) ≡ false
may_close true true s e (inl both) = both.1
may_close true true s e (inr none) = absurd (let bad : ⊥ = cc in bad)
may_close true false s e h = refl
may_close false true s e h = absurd (let bad : ⊥ = cc in bad)
may_close false false s e h = refl
