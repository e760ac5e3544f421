-- Names that are taken off: those of units, and that of a connection beside them.
use Rattle.std.proofs.Common.{◌≡◌, ℕ, ◌&&◌, ◌||◌, not, Bool, true, false, List, [], ◌∷◌, refl, sym, ap, ◌∙◌}
use Rattle.std.specs.Str.{bytes_eq}
use Rattle.fj_meaning_jobs.specs.Core.{Connected, has_name}
use Rattle.fj_run_units.specs.Having.{HaveFiles}
use Rattle.fj_run_units.specs.Names.{stands, left_of}
use Rattle.fj_run_units.proofs.Files.{bytes_same, stands-left_of}
use Rattle.fj_run_units.proofs.Having.{bytes_back}
use Rattle.fj_run_end.specs.Closing.{names_left}
use Rattle.fj_run_end.specs.Fitting.{AllOut}

-- a name is left that no unit has
pub stands-names_left : (names : List (List ℕ)) (us : List Connected) (name : List ℕ) → stands (names_left us names) name ≡ (not (has_name us name) && stands names name)
stands-names_left names [] name = refl
stands-names_left names (u ∷ us) name =
    stands-names_left (left_of names u.name) us name
    ∙ ap (λ b. not (has_name us name) && b) (stands-left_of names u.name name ∙ ap (λ b. not b && stands names name) (bytes_back u.name name))
    ∙ turned (has_name us name) (bytes_eq name u.name) (stands names name)
  where
    turned : (a b c : Bool) → (not a && (not b && c)) ≡ (not (b || a) && c)
    turned true true c = refl
    turned true false c = refl
    turned false true c = refl
    turned false false c = refl

none_stand : (names : List (List ℕ)) → ((name : List ℕ) → stands names name ≡ false) → names ≡ []
none_stand [] none = refl
none_stand (x ∷ xs) none = absurd (let z : true ≡ false = sym (ap (λ b. b || stands xs x) (bytes_same x x refl)) ∙ none x in cc)

-- ---- all of them are units'

pub all_out : (names : List (List ℕ)) (us : List Connected) → HaveFiles names us → AllOut names us
all_out names us files = (λ name e. files.0 name ∙ e, files.1)

pub none_left : (names : List (List ℕ)) (us : List Connected) → HaveFiles names us → names_left us names ≡ []
none_left names us files = none_stand (names_left us names) (λ name. stands-names_left names us name ∙ ap (λ b. not (has_name us name) && b) (files.0 name) ∙ never (has_name us name))
  where
    never : (b : Bool) → (not b && b) ≡ false
    never true = refl
    never false = refl

-- ---- all but one of them

pub all_out_but : (names : List (List ℕ)) (n : List ℕ) (us : List Connected) → HaveFiles (left_of names n) us → AllOut names us
all_out_but names n us files = (λ name e. last (bytes_eq n name) (stands names name) (sym (stands-left_of names n name) ∙ files.0 name ∙ e), files.1)
  where
    last : (b c : Bool) → (not b && c) ≡ true → c ≡ true
    last true c e = cc
    last false c e = e

pub none_left_but : (names : List (List ℕ)) (n : List ℕ) (us : List Connected) → HaveFiles (left_of names n) us → left_of (names_left us names) n ≡ []
none_left_but names n us files =
    none_stand (left_of (names_left us names) n) (λ name.
    stands-left_of (names_left us names) n name
    ∙ ap (λ b. not (bytes_eq n name) && b) (stands-names_left names us name)
    ∙ ap (λ b. not (bytes_eq n name) && (not b && stands names name)) (sym (files.0 name) ∙ stands-left_of names n name)
    ∙ never (bytes_eq n name) (stands names name))
  where
    never : (b c : Bool) → (not b && (not (not b && c) && c)) ≡ false
    never true c = refl
    never false true = refl
    never false false = refl

pub still_stands : (names : List (List ℕ)) (us : List Connected) (n : List ℕ) → has_name us n ≡ false → stands (names_left us names) n ≡ stands names n
still_stands names us n none = stands-names_left names us n ∙ ap (λ b. not b && stands names n) none
