-- Units have the files that are out, where a statement closes one, and where OPEN connects one.
use Rattle.std.proofs.Common.{◌≡◌, ℕ, Bool, true, false, ◌||◌, List, [], ◌∷◌, ◌++◌, Option, Some, None, refl, sym, ap, subst, ◌∙◌}
use Rattle.std.specs.Str.{bytes_eq}
use Rattle.std.specs.Prelude.{option_and_then, option_map, slice_get, if◌then◌else◌, is_some}
use Rattle.std.proofs.lemmas.Bool.{eq-eqb}
use Rattle.std.proofs.lemmas.Slice.Eq.{bytes_eq-Decides}
use Rattle.fj_value.specs.declared.place.Place.{Place}
use Rattle.fj_modes.specs.declared.specifiers.OpenSpec.{OpenSpec}
use Rattle.fj_statement.specs.declared.unit.UnitRef.{UnitRef}
use Rattle.fj_statement.specs.declared.statement.Statement.{Statement}
use Rattle.fj_statement.specs.declared.statement.Statement.TheVariants as statement
use Rattle.fj_bay.specs.declared.job.Job.TheVariants as job
use Rattle.fj_meaning.specs.Connecting.{file_due}
use Rattle.fj_meaning.specs.Needs.{number_of}
use Rattle.fj_meaning_jobs.specs.Core.{Connected, connected_at, has_name, without_connected}
use Rattle.fj_run_units.specs.Having.{HaveFiles}
use Rattle.fj_run_units.specs.Names.{stands, left_of}
use Rattle.fj_run_units.specs.Units.{is_taken}
use Rattle.fj_run_units.proofs.Files.{any_append}
use Rattle.fj_run_units.proofs.Having.{found_has, free_without, gone_from, have_vain, without_none}
use Rattle.fj_run_statements.specs.Doing.{AsksToOpen}
use Rattle.fj_run_statements.specs.Having.{HaveBeside, HaveNext, IsFreeNext, IsToOpen, OpensAt}
use Rattle.fj_run_statements.specs.Steps.{is_due}
use Rattle.fj_run_statements.specs.declared.doing.After.{After}
use Rattle.fj_run_statements.specs.declared.doing.After.TheVariants as after
use Rattle.fj_run_statements.specs.declared.doing.Then.TheVariants as then
use Rattle.fj_run_statements.specs.declared.doing.Doing.{Doing}
use Rattle.fj_run_statements.specs.declared.doing.Doing.TheVariants as doing
use Rattle.fj_run_statements.proofs.ClosingLemmas.{found_again}

-- ---- a unit is closed

pub closing_has : {F : Type 0} → (result : Doing F) (slot : ℕ) (u : Connected) (keep : Bool) (next : After) (names : List (List ℕ)) (us : List Connected) (what : Statement)
    → result ≡ doing.Awaits slot (job.Detach None) (then.Closes u.number keep next) → connected_at us u.number ≡ Some u → IsFreeNext next what (without_connected u.number us)
    → HaveFiles names us → HaveNext result names us what
closing_has result slot u keep next names us what is found free have =
    subst (λ d. HaveNext d names us what) (sym is) ((have, ap is_some found, free), have)

-- that of a statement
pub found_at : (us : List Connected) (o : Option ℕ) (u : Connected) → option_and_then (connected_at us) o ≡ Some u → connected_at us u.number ≡ Some u
found_at us None u e = absurd (let bad : ⊥ = cc in bad)
found_at us (Some n) u e = found_again us n u e

-- the first one
pub found_first : (us : List Connected) (u : Connected) → slice_get us 0 ≡ Some u → connected_at us u.number ≡ Some u
found_first [] u e = absurd (let bad : ⊥ = cc in bad)
found_first (v ∷ us) u e =
    let is : v ≡ u = cc in
    ap (λ b. if b then Some v else connected_at us u.number) (eq-eqb v.number u.number (ap (λ (x : Connected). x.number) is)) ∙ ap Some is

-- its connection came out
pub due_unit : (found : Option Connected) (name : List ℕ) → is_due found name ≡ true → (u : Connected) × (found ≡ Some u) × (u.name ≡ name)
due_unit None name e = absurd (let bad : ⊥ = cc in bad)
due_unit (Some u) name e = (u, refl, sym ((bytes_eq-Decides name u.name).0 e))

-- ---- OPEN connects a unit

-- one that is not connected
pub free_there : (us : List Connected) (n : ℕ) (name : List ℕ) → connected_at us n ≡ None → is_taken us n name ≡ false → has_name us name ≡ false
free_there us n name none free = ap (λ l. has_name l name) (sym (without_none n us none)) ∙ free_without us n name free

pub opens_free : (what : Statement) (spec : OpenSpec) (n : ℕ) (us : List Connected) → OpensAt what (Some n) spec → connected_at us n ≡ None → has_name us (file_due spec n) ≡ false
    → IsFreeNext (after.Connects n) what us
opens_free (statement.OpenUnit u own iostat) spec n us opens none free = (opens.0, none, ap (λ (s : OpenSpec). has_name us (file_due s n)) opens.1 ∙ free)
opens_free (statement.Assign to from) spec n us opens none free = absurd opens
opens_free (statement.CloseUnit u keep iostat) spec n us opens none free = absurd opens
opens_free (statement.WaitFor u id iostat) spec n us opens none free = absurd opens
opens_free (statement.Move how u iostat) spec n us opens none free = absurd opens
opens_free (statement.Inquire about asked id iostat _) spec n us opens none free = absurd opens
opens_free (statement.Transfer t) spec n us opens none free = absurd opens
opens_free statement.End spec n us opens none free = absurd opens

-- it is that OPEN
pub opens_as : (what : Statement) (unit : UnitRef) (spec : OpenSpec) (iostat : Option Place) → what ≡ statement.OpenUnit unit spec iostat → OpensAt what (number_of unit) spec
opens_as what unit spec iostat e = subst (λ (s : Statement). OpensAt s (number_of unit) spec) (sym e) (refl, refl)

pub asks_by : (what : Statement) (number : Option ℕ) (spec : OpenSpec) → OpensAt what number spec → AsksToOpen what spec
asks_by (statement.OpenUnit u own iostat) number spec opens = opens.1
asks_by (statement.Assign to from) number spec opens = absurd opens
asks_by (statement.CloseUnit u keep iostat) number spec opens = absurd opens
asks_by (statement.WaitFor u id iostat) number spec opens = absurd opens
asks_by (statement.Move how u iostat) number spec opens = absurd opens
asks_by (statement.Inquire about asked id iostat _) number spec opens = absurd opens
asks_by (statement.Transfer t) number spec opens = absurd opens
asks_by statement.End number spec opens = absurd opens

-- the one that it closes first
pub opens_behind_free : (what : Statement) (spec : OpenSpec) (name : List ℕ) (m n : ℕ) (us : List Connected) → OpensAt what (Some n) spec → m ≡ n → name ≡ file_due spec n → is_taken us n name ≡ false
    → IsFreeNext (after.Connects n) what (without_connected m us)
opens_behind_free what spec name m n us opens same due free =
    subst (λ k. IsFreeNext (after.Connects n) what (without_connected k us)) (sym same)
    (opens_free what spec n (without_connected n us) opens (gone_from n us) (ap (has_name (without_connected n us)) (sym due) ∙ free_without us n name free))

-- what OPEN is to connect where it goes on
pub record IsFreeToOpen (what : Statement) (spec : OpenSpec) (n : ℕ) (us : List Connected) : Type 0 where
  pub none : connected_at us n ≡ None
  pub free : has_name us (file_due spec n) ≡ false
  pub opens : IsToOpen what us (file_due spec n)

pub free_of : (what : Statement) (spec : OpenSpec) (n : ℕ) (us : List Connected) → AsksToOpen what spec → IsFreeNext (after.Connects n) what us → IsFreeToOpen what spec n us
free_of (statement.OpenUnit u own iostat) spec n us asks f = record {
  none = f.1;
  free = ap (λ (s : OpenSpec). has_name us (file_due s n)) (sym asks) ∙ f.2;
  opens = (ap (option_map (file_due own)) f.0 ∙ ap (λ (s : OpenSpec). Some (file_due s n)) asks, ap (option_and_then (connected_at us)) f.0 ∙ f.1);
}
free_of (statement.Assign to from) spec n us asks f = absurd asks
free_of (statement.CloseUnit u keep iostat) spec n us asks f = absurd asks
free_of (statement.WaitFor u id iostat) spec n us asks f = absurd asks
free_of (statement.Move how u iostat) spec n us asks f = absurd asks
free_of (statement.Inquire about asked id iostat _) spec n us asks f = absurd asks
free_of (statement.Transfer t) spec n us asks f = absurd asks
free_of statement.End spec n us asks f = absurd asks

-- its file came out, and was named among those that are out
pub named_beside : (names : List (List ℕ)) (us : List Connected) (name given : List ℕ) (what : Statement) → given ≡ name → stands names name ≡ false → has_name us name ≡ false → IsToOpen what us name → HaveFiles names us
    → HaveBeside (Some given) (names ++ name ∷ []) us what
named_beside names us name given what is out free opens have =
    subst (λ n. HaveBeside (Some n) (names ++ name ∷ []) us what) (sym is) (
      record {
        out = any_append (λ (other : List ℕ). bytes_eq other name) names (name ∷ []) ∙ ap (λ b. stands names name || (b || false)) ((bytes_eq-Decides name name).1 refl) ∙ or_true (stands names name);
        free = free;
        others = have_vain names us name out have;
      },
      opens,
    )
  where
    or_true : (b : Bool) → (b || true) ≡ true
    or_true true = refl
    or_true false = refl

-- it did not, and the name is gone again
pub named_in_vain : (names more back : List (List ℕ)) (us : List Connected) (name : List ℕ) → stands names name ≡ false → more ≡ names ++ name ∷ [] → back ≡ left_of more name → HaveFiles names us → HaveFiles back us
named_in_vain names more back us name out is_more is_back have = subst (λ ns. HaveFiles ns us) (sym (is_back ∙ ap (λ ns. left_of ns name) is_more)) (have_vain names us name out have)

-- ---- a job came back

-- the connection of the unit came out, so its file is out
pub comes_due : (us : List Connected) (number : ℕ) (names : List (List ℕ)) (name : List ℕ) → HaveFiles names us → is_due (connected_at us number) name ≡ true → stands names name ≡ true
comes_due us number names name have due =
    let u = due_unit (connected_at us number) name due in
    have.0 name ∙ ap (has_name us) (sym u.2) ∙ found_has us number u.0 u.1

-- the unit is taken off
pub closed_has : (us us' : List Connected) (number : ℕ) (names names' : List (List ℕ)) (name : List ℕ)
    → is_due (connected_at us number) name ≡ true → names' ≡ left_of names name → HaveFiles names us
    → ((ns : List (List ℕ)) (u : Connected) → connected_at us number ≡ Some u → HaveFiles ns us → HaveFiles (left_of ns u.name) us') → HaveFiles names' us'
closed_has us us' number names names' name due is have files =
    let u = due_unit (connected_at us number) name due in
    subst (λ ns. HaveFiles ns us') (ap (left_of names) u.2 ∙ sym is) (files names u.0 u.1 have)
