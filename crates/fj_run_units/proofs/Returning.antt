-- A file that came back to a disk, and maybe was removed.
use Rattle.std.proofs.Common.{◌≡◌, ℕ, ◌≤◌, Bool, true, false, not, List, [], ◌∷◌, filter, Some, None, Result, Ok, Err, OnOk, OnErr, is_err, if◌then◌else◌, inl, inr, refl, sym, ap, ◌∙◌, subst, arith}
use Rattle.std.specs.List.{list_any}
use Rattle.std.specs.Str.{bytes_eq}
use Rattle.fj_outside.specs.Refusals.{CountsFailure}
use Rattle.fj_outside.specs.Holdings.{Holdings, IsFree, given, without}
use Rattle.fj_meaning.specs.State.{with_file, without_file, Files}
use Rattle.fj_run_units.specs.Names.{stands, left_of, AreInUse}
use Rattle.fj_run_units.specs.Files.{files_of}
use Rattle.fj_run_units.specs.Returning.{returned, IsAsDue}
use Rattle.fj_run_units.proofs.Files.{files-given, files-gone, names-given, names-gone}

-- what the disk holds then
abbrev pub given_back : Bool → Holdings → List ℕ → List ℕ → Bool → Holdings
given_back keep h name bytes sound = let home = given h name bytes sound in if keep then home else without home name

-- ---- names

left_by_one : {X : Type 0} → (p : X → Bool) (x : X) (xs : List X) (a : Bool) → p x ≡ a → list_any p (filter (λ y. not (p y)) xs) ≡ false
    → list_any p (filter (λ y. not (p y)) (x ∷ xs)) ≡ false
left_by_one p x xs true pa rest = rw pa rest
left_by_one p x xs false pa rest = rw (pa, pa) rest

none_left : {X : Type 0} → (p : X → Bool) (xs : List X) → list_any p (filter (λ x. not (p x)) xs) ≡ false
none_left p [] = refl
none_left p (x ∷ xs) = left_by_one p x xs (p x) refl (none_left p xs)

pub name_off : (names : List (List ℕ)) (name : List ℕ) → stands (left_of names name) name ≡ false
name_off names name = none_left (λ (other : List ℕ). bytes_eq other name) names

given_names : (keep : Bool) (names : List (List ℕ)) (h : Holdings) (n bytes : List ℕ) (sound : Bool) → AreInUse names h.in_use → AreInUse (left_of names n) (given_back keep h n bytes sound).in_use
given_names true names h n bytes sound are = names-given names h n bytes sound are
given_names false names h n bytes sound are = names-gone names h n bytes sound are

back_by : {A B : Type 0} → (names : List (List ℕ)) (h new : Holdings) (n bytes : List ℕ) (sound keep : Bool) (result : Result A B)
    → OnOk result (new ≡ given_back keep h n bytes sound) → OnErr result (new ≡ given h n bytes sound) → AreInUse names h.in_use → AreInUse (left_of names n) new.in_use
back_by names h new n bytes sound keep (Ok x) ok err are = subst (λ (z : Holdings). AreInUse (left_of names n) z.in_use) (sym ok) (given_names keep names h n bytes sound are)
back_by names h new n bytes sound keep (Err x) ok err are = subst (λ (z : Holdings). AreInUse (left_of names n) z.in_use) (sym err) (names-given names h n bytes sound are)

pub names_back : {A B : Type 0} → (names fewer : List (List ℕ)) (h new : Holdings) (n bytes : List ℕ) (sound keep : Bool) (result : Result A B) → fewer ≡ left_of names n
    → OnOk result (new ≡ given_back keep h n bytes sound) → OnErr result (new ≡ given h n bytes sound) → AreInUse names h.in_use → AreInUse fewer new.in_use
names_back names fewer h new n bytes sound keep result is ok err are =
    subst (λ (l : List (List ℕ)). AreInUse l new.in_use) (sym is) (back_by names h new n bytes sound keep result ok err are)

pub name_freed : {A B : Type 0} → (names fewer : List (List ℕ)) (h new : Holdings) (n bytes : List ℕ) (sound keep : Bool) (result : Result A B) → fewer ≡ left_of names n
    → OnOk result (new ≡ given_back keep h n bytes sound) → OnErr result (new ≡ given h n bytes sound) → AreInUse names h.in_use → IsFree new n
name_freed names fewer h new n bytes sound keep result is ok err are =
    ap not (names_back names fewer h new n bytes sound keep result is ok err are n ∙ ap (λ l. stands l n) is ∙ name_off names n)

-- ---- files

pub given_files : (keep : Bool) (h : Holdings) (n bytes : List ℕ) (sound : Bool) → files_of (given_back keep h n bytes sound) ≡ returned n bytes keep (files_of h)
given_files true h n bytes sound = files-given h n bytes sound
given_files false h n bytes sound = files-gone h n bytes sound

pub files_back : {A B : Type 0} → (h new : Holdings) (n bytes : List ℕ) (sound keep : Bool) (result : Result A B)
    → OnOk result (new ≡ given_back keep h n bytes sound) → OnOk result (files_of new ≡ returned n bytes keep (files_of h))
files_back h new n bytes sound keep (Ok x) ok = ap files_of ok ∙ given_files keep h n bytes sound
files_back h new n bytes sound keep (Err x) ok = tt

module _ (h new : Holdings) (n bytes : List ℕ) (sound keep : Bool) where
  pub due_back : {A B : Type 0} → (result : Result A B) (before now : ℕ) → OnOk result (new ≡ given_back keep h n bytes sound)
      → OnErr result (new ≡ given h n bytes sound) → OnErr result (keep ≡ false) → CountsFailure (is_err result) before now
      → (name : List ℕ) → IsAsDue before now (files_of new name) (returned n bytes keep (files_of h) name)
  due_back {A} {B} (Ok x) before now ok err kept own name = inl (ap (λ (files : Files). files name) (files_back {A = A} {B = B} h new n bytes sound keep (Ok x) ok))
  due_back (Err x) before now ok err kept own name =
      subst (λ k. IsAsDue before now (files_of new name) (returned n bytes k (files_of h) name)) (sym kept)
      (by (bytes_eq name n) refl (ap (λ (files : Files). files name) (ap files_of err ∙ files-given h n bytes sound)))
    where
      by : (same : Bool) → bytes_eq name n ≡ same → files_of new name ≡ with_file n bytes (files_of h) name → IsAsDue before now (files_of new name) (without_file n (files_of h) name)
      by true e found = inr (ap (λ b. if b then None else files_of h name) e, own.1)
      by false e found = inl (found ∙ ap (λ b. if b then Some bytes else files_of h name) e ∙ sym (ap (λ b. if b then None else files_of h name) e))

pub never_falls : (failed : Bool) (before now : ℕ) → CountsFailure failed before now → before ≤ now
never_falls true before now own = own.0
never_falls false before now own = omega (arith, own)
