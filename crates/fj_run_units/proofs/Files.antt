-- What of a disk its files and the names in use are, name by name.
use Rattle.std.proofs.Common.{◌≡◌, ℕ, List, [], ◌∷◌, ◌++◌, Bool, true, false, not, ◌&&◌, ◌||◌, cond, refl, sym, ap, ◌∙◌, None, Some, Option, if◌then◌else◌}
use Rattle.std.proofs.Math.Path.{fun_ext}
use Rattle.std.specs.List.{list_any}
use Rattle.std.specs.Str.{bytes_eq}
use Rattle.std.specs.Ordering.{nat_cmp, eq_by_cmp}
use Rattle.std.specs.Cmp.Lexicographic.{slice_cmp, nat_list_cmp_total}
use Rattle.std.specs.FinMap as map
use Rattle.std.specs.FinSet as set
use Rattle.std.proofs.lemmas.Slice.Eq.{bytes_eq-Decides}
use Rattle.fj_outside.specs.Holdings.{Holdings, IsFree, IsInUse, out_of, given, without}
use Rattle.fj_outside.proofs.HoldingLaws.{itself, same_name}
use Rattle.fj_meaning.specs.State.{with_file, without_file}
use Rattle.fj_run_units.specs.Names.{stands, left_of, AreInUse}
use Rattle.fj_run_units.specs.Files.{files_of}

pub agree : (a b : Bool) → (a ≡ true → b ≡ true) → (b ≡ true → a ≡ true) → a ≡ b
agree true b f g = sym (f refl)
agree false true f g = g refl
agree false false f g = refl

pub bytes_same : (q n : List ℕ) → q ≡ n → bytes_eq q n ≡ true
bytes_same q n e = (bytes_eq-Decides q n).1 e

pub is_same : (q n : List ℕ) → bytes_eq q n ≡ true → q ≡ n
is_same q n e = (bytes_eq-Decides q n).0 e

tied : (q n : List ℕ) → q ≡ n → eq_by_cmp (slice_cmp nat_cmp) q n ≡ true
tied q n e = ap (λ x. eq_by_cmp (slice_cmp nat_cmp) q x) (sym e) ∙ itself q

tied_is : (q n : List ℕ) → eq_by_cmp (slice_cmp nat_cmp) q n ≡ bytes_eq q n
tied_is q n = agree _ _ (λ t. bytes_same q n (same_name q n t)) (λ b. tied q n (is_same q n b))

tied_back : (q n : List ℕ) → eq_by_cmp (slice_cmp nat_cmp) q n ≡ bytes_eq n q
tied_back q n = agree _ _ (λ t. bytes_same n q (sym (same_name q n t))) (λ b. tied q n (sym (is_same n q b)))

-- ---- files

pub files-out_of : (h : Holdings) (n : List ℕ) → files_of (out_of h n) ≡ without_file n (files_of h)
unfolding out_of
files-out_of h n = fun_ext (λ q. map.get-remove nat_list_cmp_total h.files n q ∙ ap (λ b. cond b None (map.get h.files q)) (tied_is q n))

pub files-given : (h : Holdings) (n bytes : List ℕ) (sound : Bool) → files_of (given h n bytes sound) ≡ with_file n bytes (files_of h)
unfolding given
files-given h n bytes sound = fun_ext (λ q. map.get-insert nat_list_cmp_total h.files n bytes q ∙ ap (λ b. cond b (Some bytes) (map.get h.files q)) (tied_is q n))

pub files-gone : (h : Holdings) (n bytes : List ℕ) (sound : Bool) → files_of (without (given h n bytes sound) n) ≡ without_file n (files_of h)
unfolding without given
files-gone h n bytes sound = fun_ext (λ q.
    map.get-remove nat_list_cmp_total (map.insert h.files n bytes) n q
    ∙ ap (cond (eq_by_cmp (slice_cmp nat_cmp) q n) None) (map.get-insert nat_list_cmp_total h.files n bytes q)
    ∙ twice (eq_by_cmp (slice_cmp nat_cmp) q n) (map.get h.files q)
    ∙ ap (λ b. cond b None (map.get h.files q)) (tied_is q n))
  where
    twice : (b : Bool) (x : Option (List ℕ)) → cond b None (cond b (Some bytes) x) ≡ cond b None x
    twice true x = refl
    twice false x = refl

-- ---- names

pub any_append : {X : Type 0} (p : X → Bool) (xs ys : List X) → list_any p (xs ++ ys) ≡ (list_any p xs || list_any p ys)
any_append p [] ys = refl
any_append p (x ∷ xs) ys = by (p x) (any_append p xs ys)
  where
    by : (b : Bool) → list_any p (xs ++ ys) ≡ (list_any p xs || list_any p ys) → (b || list_any p (xs ++ ys)) ≡ ((b || list_any p xs) || list_any p ys)
    by true e = refl
    by false e = e

clash : true ≡ false → ⊥
clash e = cc

not_true : (a : Bool) → (a ≡ true → ⊥) → a ≡ false
not_true true f = absurd (f refl)
not_true false f = refl

taken : (a s : Bool) → (not a && s) ≡ (not a && (a || s))
taken true s = refl
taken false s = refl

kept : (a s : Bool) → a ≡ false → s ≡ (not a && s)
kept true s e = absurd (clash e)
kept false s e = refl

stands_more : (o : List ℕ) (os : List (List ℕ)) (n q : List ℕ) (b : Bool) → bytes_eq o n ≡ b → (d : Bool) → bytes_eq o q ≡ d
    → stands (left_of os n) q ≡ (not (bytes_eq n q) && stands os q)
    → stands (if not b then o ∷ left_of os n else left_of os n) q ≡ (not (bytes_eq n q) && (bytes_eq o q || stands os q))
stands_more o os n q true e d f rest =
    rest ∙ taken (bytes_eq n q) (stands os q) ∙ ap (λ y. not (bytes_eq n q) && (bytes_eq y q || stands os q)) (sym (is_same o n e))
stands_more o os n q false e true f rest =
    ap (λ y. y || stands (left_of os n) q) f
    ∙ kept (bytes_eq n q) true (not_true (bytes_eq n q) (λ t. clash (sym (bytes_same o n (is_same o q f ∙ sym (is_same n q t))) ∙ e)))
    ∙ ap (λ y. not (bytes_eq n q) && (y || stands os q)) (sym f)
stands_more o os n q false e false f rest =
    ap (λ y. y || stands (left_of os n) q) f ∙ rest ∙ ap (λ y. not (bytes_eq n q) && (y || stands os q)) (sym f)

pub stands-left_of : (names : List (List ℕ)) (n q : List ℕ) → stands (left_of names n) q ≡ (not (bytes_eq n q) && stands names q)
stands-left_of [] n q = none (not (bytes_eq n q))
  where
    none : (b : Bool) → false ≡ (b && false)
    none true = refl
    none false = refl
stands-left_of (o ∷ os) n q = stands_more o os n q (bytes_eq o n) refl (bytes_eq o q) refl (stands-left_of os n q)

pub names-out_of : (names : List (List ℕ)) (h : Holdings) (n : List ℕ) → AreInUse names h.in_use → AreInUse (names ++ n ∷ []) (out_of h n).in_use
unfolding out_of
names-out_of names h n are q =
    set.contains-insert nat_list_cmp_total h.in_use n q
    ∙ ap (λ b. b || set.contains h.in_use q) (tied_back q n)
    ∙ ap (λ b. bytes_eq n q || b) (are q)
    ∙ turned (bytes_eq n q) (stands names q)
    ∙ sym (any_append (λ (other : List ℕ). bytes_eq other q) names (n ∷ []))
  where
    turned : (a b : Bool) → (a || b) ≡ (b || (a || false))
    turned true true = refl
    turned true false = refl
    turned false true = refl
    turned false false = refl

pub names-given : (names : List (List ℕ)) (h : Holdings) (n bytes : List ℕ) (sound : Bool) → AreInUse names h.in_use → AreInUse (left_of names n) (given h n bytes sound).in_use
unfolding given
names-given names h n bytes sound are q =
    set.contains-remove nat_list_cmp_total h.in_use n q
    ∙ ap (λ b. not b && set.contains h.in_use q) (tied_back q n)
    ∙ ap (λ b. not (bytes_eq n q) && b) (are q)
    ∙ sym (stands-left_of names n q)

pub names-gone : (names : List (List ℕ)) (h : Holdings) (n bytes : List ℕ) (sound : Bool) → AreInUse names h.in_use → AreInUse (left_of names n) (without (given h n bytes sound) n).in_use
unfolding without
names-gone names h n bytes sound are = names-given names h n bytes sound are

plain : (s : Bool) → s ≡ (s || false)
plain true = refl
plain false = refl

-- a name that was entered in vain
pub stands-vain : (names : List (List ℕ)) (n q : List ℕ) → stands names n ≡ false → stands names q ≡ stands (left_of (names ++ n ∷ []) n) q
stands-vain names n q free =
    by (bytes_eq n q) refl
    ∙ ap (λ b. not (bytes_eq n q) && b) (sym (any_append (λ (other : List ℕ). bytes_eq other q) names (n ∷ [])))
    ∙ sym (stands-left_of (names ++ n ∷ []) n q)
  where
    by : (b : Bool) → bytes_eq n q ≡ b → stands names q ≡ (not b && (stands names q || (b || false)))
    by true e = ap (stands names) (sym (is_same n q e)) ∙ free
    by false e = plain (stands names q)

pub names-vain : (names : List (List ℕ)) (h h' : Holdings) (n : List ℕ) → stands names n ≡ false → h'.in_use ≡ h.in_use → AreInUse names h.in_use → AreInUse (left_of (names ++ n ∷ []) n) h'.in_use
names-vain names h h' n free same are q = ap (λ s. set.contains s q) same ∙ are q ∙ stands-vain names n q free

pub free_name : (names : List (List ℕ)) (h : Holdings) (n : List ℕ) → stands names n ≡ false → AreInUse names h.in_use → IsFree h n
free_name names h n free are = ap not (are n ∙ free)

pub used_name : (names : List (List ℕ)) (h : Holdings) (n : List ℕ) → stands names n ≡ true → AreInUse names h.in_use → IsInUse h n
used_name names h n used are = are n ∙ used
