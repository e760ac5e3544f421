-- What the tests of OPEN's words decide.
use Rattle.std.proofs.Common.{◌≡◌, ◌≢◌, Bool, not, Decides, refl, sym}
use Rattle.std.specs.Prelude.{Option, Some, None, IsSomeAnd, unwrap_or}
use Rattle.std.proofs.lemmas.Bool.Decides.{Decides-not, Decides-like}
use Rattle.fj_modes.specs.declared.specifiers.Access.{Access}
use Rattle.fj_modes.specs.declared.specifiers.Access.TheVariants.{Sequential, Direct, Stream}
use Rattle.fj_modes.specs.declared.specifiers.Action.{Action}
use Rattle.fj_modes.specs.declared.specifiers.Action.TheVariants.{Read, Write, ReadWrite}
use Rattle.fj_modes.specs.declared.specifiers.FileStatus.{FileStatus}
use Rattle.fj_modes.specs.declared.specifiers.FileStatus.TheVariants.{Old, New, Scratch, Replace, Unknown}
use Rattle.fj_modes.specs.declared.specifiers.Start.{Start}
use Rattle.fj_modes.specs.declared.specifiers.Start.TheVariants.{AsIs, Rewind, Append}
use Rattle.fj_modes.specs.Words.{same_access, same_action, is_old, is_scratch, is_as_is, given_and, differs, Differs, Agrees}

pub same_access-decides : (a b : Access) → Decides (same_access a b) (a ≡ b)
same_access-decides Sequential Sequential = (λ _. refl, λ _. refl)
same_access-decides Direct Direct = (λ _. refl, λ _. refl)
same_access-decides Stream Stream = (λ _. refl, λ _. refl)
same_access-decides Sequential Direct = (λ e. cc, λ e. cc)
same_access-decides Sequential Stream = (λ e. cc, λ e. cc)
same_access-decides Direct Sequential = (λ e. cc, λ e. cc)
same_access-decides Direct Stream = (λ e. cc, λ e. cc)
same_access-decides Stream Sequential = (λ e. cc, λ e. cc)
same_access-decides Stream Direct = (λ e. cc, λ e. cc)

pub same_action-decides : (a b : Action) → Decides (same_action a b) (a ≡ b)
same_action-decides Read Read = (λ _. refl, λ _. refl)
same_action-decides Write Write = (λ _. refl, λ _. refl)
same_action-decides ReadWrite ReadWrite = (λ _. refl, λ _. refl)
same_action-decides Read Write = (λ e. cc, λ e. cc)
same_action-decides Read ReadWrite = (λ e. cc, λ e. cc)
same_action-decides Write Read = (λ e. cc, λ e. cc)
same_action-decides Write ReadWrite = (λ e. cc, λ e. cc)
same_action-decides ReadWrite Read = (λ e. cc, λ e. cc)
same_action-decides ReadWrite Write = (λ e. cc, λ e. cc)

pub is_old-decides : (s : FileStatus) → Decides (is_old s) (Old ≡ s)
is_old-decides Old = (λ _. refl, λ _. refl)
is_old-decides New = (λ e. cc, λ e. cc)
is_old-decides Scratch = (λ e. cc, λ e. cc)
is_old-decides Replace = (λ e. cc, λ e. cc)
is_old-decides Unknown = (λ e. cc, λ e. cc)

pub is_scratch-decides : (s : FileStatus) → Decides (is_scratch s) (s ≡ Scratch)
is_scratch-decides Scratch = (λ _. refl, λ _. refl)
is_scratch-decides New = (λ e. cc, λ e. cc)
is_scratch-decides Old = (λ e. cc, λ e. cc)
is_scratch-decides Replace = (λ e. cc, λ e. cc)
is_scratch-decides Unknown = (λ e. cc, λ e. cc)

pub is_as_is-decides : (s : Start) → Decides (is_as_is s) (AsIs ≡ s)
is_as_is-decides AsIs = (λ _. refl, λ _. refl)
is_as_is-decides Rewind = (λ e. cc, λ e. cc)
is_as_is-decides Append = (λ e. cc, λ e. cc)

module _ {A : Type 0} where
  pub given_and-decides : (test : A → Bool) (P : A → Type 0) → ((x : A) → Decides (test x) (P x)) → (given : Option A) → Decides (given_and test given) (IsSomeAnd given P)
  given_and-decides test P each None = (λ e. cc, λ e. absurd e)
  given_and-decides test P each (Some x) = each x

  -- where the test tells equality with the value
  pub differs-decides : (same : A → Bool) (value : A) → ((x : A) → Decides (same x) (value ≡ x)) → (given : Option A) → Decides (differs same given) (Differs given value)
  differs-decides same value each given =
      given_and-decides (λ x. not (same x)) (λ x. x ≢ value) (λ x. Decides-not (same x) (Decides-like (same x) sym sym (each x))) given

  pub unwrap_or-agrees : (given : Option A) (value : A) → Agrees given value → unwrap_or given value ≡ value
  unwrap_or-agrees None value h = refl
  unwrap_or-agrees (Some x) value h = h
