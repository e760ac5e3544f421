-- What a sequence of calls leaves of what a disk holds.
use Rattle.std.proofs.Common.{◌≡◌, ◌≢◌, ◌==◌, ℕ, ◌+◌, List, [], ◌++◌, length, Bool, true, false, refl, sym, ap, ◌∙◌, not, ◌||◌, ◌&&◌, rules, arith, cond, ◌⊎◌, inl, inr, if◌then◌else◌, Some, None}
use Rattle.std.specs.Ordering.{nat_cmp, eq_by_cmp, is_eq}
use Rattle.std.specs.declared.cmp.Ordering.{Ordering}
use Rattle.std.specs.declared.cmp.Ordering.TheVariants.{Less, Equal, Greater}
use Rattle.std.specs.Cmp.{tied_itself}
use Rattle.std.specs.Cmp.Lexicographic.{slice_cmp, nat_list_cmp_total}
use Rattle.std.specs.FinMap as map
use Rattle.std.specs.FinMap.{gets, slice_cmp-IsAntisymmetric, nat_cmp-IsAntisymmetric, same_map}
use Rattle.std.specs.FinSet as set
use Rattle.std.specs.FinSet.{same_set}
use Rattle.std.proofs.Math.Seq.{drop-nil}
use Rattle.std.proofs.lemmas.List.{append-nil}
use Rattle.fj_outside.specs.Bytes.{written}
use Rattle.fj_outside.specs.Holdings.{Holdings, Names, Files, Exists, IsInUse, IsFree, IsHurt, out_of, given, without, StepsChangeOneName}

pub itself : (n : List ℕ) → eq_by_cmp (slice_cmp nat_cmp) n n ≡ true
itself n = grind (arith, tied_itself, nat_list_cmp_total)

equal_ties : (r : Ordering) → is_eq r ≡ true → r ≡ Equal
equal_ties Less e = cc
equal_ties Equal e = refl
equal_ties Greater e = cc

-- names that tie are one
pub same_name : (q n : List ℕ) → eq_by_cmp (slice_cmp nat_cmp) q n ≡ true → q ≡ n
same_name q n e = slice_cmp-IsAntisymmetric nat_cmp-IsAntisymmetric q n (equal_ties _ e)

-- a name whose file is out is in use
out_of-in_use : (h : Holdings) (n : List ℕ) → IsInUse (out_of h n) n
unfolding out_of
out_of-in_use h n = rw (set.contains-insert nat_list_cmp_total h.in_use n n, itself n) refl

-- what comes back under a name that was out replaces what was there
files-given-out : (h : Holdings) (n b : List ℕ) (sound : Bool) → (given (out_of h n) n b sound).files ≡ map.insert h.files n b
unfolding out_of given
files-given-out h n b sound = same_map nat_list_cmp_total (slice_cmp-IsAntisymmetric nat_cmp-IsAntisymmetric) _ _ (λ q. grind (gets, rules))

-- where b says that q is the name
freed : (b c : Bool) → (b ≡ true → c ≡ false) → (not b && (b || c)) ≡ c
freed true c f = sym (f refl)
freed false c f = refl

unheld : (c : Bool) → not c ≡ true → c ≡ false
unheld true e = cc
unheld false e = refl

-- a free name is in use no longer once its file is back
in_use-given-out : (h : Holdings) (n b : List ℕ) (sound : Bool) → IsFree h n → (given (out_of h n) n b sound).in_use ≡ h.in_use
unfolding out_of given
in_use-given-out h n b sound free = same_set nat_list_cmp_total (slice_cmp-IsAntisymmetric nat_cmp-IsAntisymmetric) _ _ (λ q.
    set.contains-remove nat_list_cmp_total _ n q ∙ ap (λ v. not (eq_by_cmp (slice_cmp nat_cmp) q n) && v) (set.contains-insert nat_list_cmp_total h.in_use n q)
    ∙ freed (eq_by_cmp (slice_cmp nat_cmp) q n) (set.contains h.in_use q) (λ e. rw (same_name q n e) (unheld (set.contains h.in_use n) free)))

differ : (q n : List ℕ) → q ≢ n → eq_by_cmp (slice_cmp nat_cmp) q n ≡ false
differ q n d = elim (eq_by_cmp (slice_cmp nat_cmp) q n) as (λ b. (b ≡ true → q ≡ n) → b ≡ false) [ true ↦ λ same. absurd (d (same refl)) | false ↦ λ _. refl ] (same_name q n)

kept : {X : Type 0} (b : Bool) (x c : X) → (b ≡ true → x ≡ c) → cond b x c ≡ c
kept true x c f = f refl
kept false x c f = refl

-- to put a file where it is changes nothing
insert_same : (m : Files) (n b : List ℕ) → map.get m n ≡ Some b → map.insert m n b ≡ m
insert_same m n b e = same_map nat_list_cmp_total (slice_cmp-IsAntisymmetric nat_cmp-IsAntisymmetric) _ _ (λ q.
    map.get-insert nat_list_cmp_total m n b q ∙ kept (eq_by_cmp (slice_cmp nat_cmp) q n) (Some b) (map.get m q) (λ t. sym e ∙ ap (map.get m) (sym (same_name q n t))))

-- a file that was taken or made, and is back
pub files_back : (h h1 h2 : Holdings) (n b : List ℕ) (sound : Bool) → h1 ≡ out_of h n → h2 ≡ given h1 n b sound → h2.files ≡ map.insert h.files n b
files_back h h1 h2 n b sound e f = rw (f, e) (files-given-out h n b sound)

-- a file that was taken and is back as it was
pub files_back_same : (h h1 h2 : Holdings) (n b : List ℕ) (sound : Bool) → map.get h.files n ≡ Some b → h1 ≡ out_of h n → h2 ≡ given h1 n b sound → h2.files ≡ h.files
files_back_same h h1 h2 n b sound there e f = files_back h h1 h2 n b sound e f ∙ insert_same h.files n b there

pub in_use_back : (h h1 h2 : Holdings) (n b : List ℕ) (sound : Bool) → h1 ≡ out_of h n → h2 ≡ given h1 n b sound → IsFree h n → h2.in_use ≡ h.in_use
in_use_back h h1 h2 n b sound e f free = rw (f, e) (in_use-given-out h n b sound free)

pub hurt_back : (h h1 h2 : Holdings) (n b : List ℕ) (sound : Bool) → h1 ≡ out_of h n → h2 ≡ given h1 n b sound → h2.hurt ≡ (if sound then set.remove h.hurt n else set.insert h.hurt n)
unfolding out_of given
hurt_back h h1 h2 n b sound e f = rw (f, e) refl

pub in_use_after : (h h1 : Holdings) (n : List ℕ) → h1 ≡ out_of h n → IsInUse h1 n
in_use_after h h1 n e = rw e (out_of-in_use h n)

pub written-new : (p : List ℕ) → written [] 0 p ≡ p
written-new p = ap (λ ys. p ++ ys) (drop-nil (0 + length p)) ∙ append-nil p

-- a file that was made, written from its start and given back
pub files_made : (h h1 h2 : Holdings) (n b b1 p : List ℕ) (sound : Bool) → h1 ≡ out_of h n → b ≡ [] → b1 ≡ written b 0 p → h2 ≡ given h1 n b1 sound → h2.files ≡ map.insert h.files n p
files_made h h1 h2 n b b1 p sound e eb eb1 f = files_back h h1 h2 n b1 sound e f ∙ ap (map.insert h.files n) (rw (eb1, eb) (written-new p))

-- a refusal of `create` leaves the names in use and the names that are hurt
pub in_use_refused : (h h1 : Holdings) (n : List ℕ) → (h1 ≡ h) ⊎ (h1 ≡ without h n) → h1.in_use ≡ h.in_use
unfolding without
in_use_refused h h1 n (inl e) = ap (λ (x : Holdings). x.in_use) e
in_use_refused h h1 n (inr e) = ap (λ (x : Holdings). x.in_use) e

pub hurt_refused : (h h1 : Holdings) (n : List ℕ) → (h1 ≡ h) ⊎ (h1 ≡ without h n) → h1.hurt ≡ h.hurt
unfolding without
hurt_refused h h1 n (inl e) = ap (λ (x : Holdings). x.hurt) e
hurt_refused h h1 n (inr e) = ap (λ (x : Holdings). x.hurt) e

-- where no name is in use each is free
pub free_of_none : (used : Names) (n : List ℕ) → used ≡ set.empty → not (set.contains used n) ≡ true
free_of_none used n e = rw (e, set.contains-empty (slice_cmp nat_cmp) n) refl

pub free_of_empty : (h : Holdings) (n : List ℕ) → h.in_use ≡ set.empty → IsFree h n
free_of_empty h n e = rw (e, set.contains-empty (slice_cmp nat_cmp) n) refl

-- what is true of a disk after a file came back
pub files_given : (h h1 : Holdings) (n b : List ℕ) (sound : Bool) → h1 ≡ given h n b sound → h1.files ≡ map.insert h.files n b
unfolding given
files_given h h1 n b sound e = ap (λ (x : Holdings). x.files) e

pub free_given : (h h1 : Holdings) (n b : List ℕ) (sound : Bool) → h1 ≡ given h n b sound → IsFree h1 n
unfolding given
free_given h h1 n b sound e = rw (e, set.contains-remove nat_list_cmp_total h.in_use n n, itself n) refl

pub exists_given : (h h1 : Holdings) (n b : List ℕ) (sound : Bool) → h1 ≡ given h n b sound → Exists h1 n
unfolding given
exists_given h h1 n b sound e = rw (e, map.get-insert nat_list_cmp_total h.files n b n, itself n) refl

not_zero : (count : ℕ) → count ≢ 0 → (count == 0) ≡ false
not_zero count n = grind arith

-- a file that comes back with a count is told as hurt
pub hurt_given : (h h1 : Holdings) (n b : List ℕ) (count : ℕ) → h1 ≡ given h n b (count == 0) → count ≢ 0 → IsHurt h1 n
unfolding given
hurt_given h h1 n b count e c = rw (e, not_zero count c, set.contains-insert nat_list_cmp_total h.hurt n n, itself n) refl

-- a removal leaves the names in use and the names that are hurt
pub files_without : (h h1 : Holdings) (n : List ℕ) → h1 ≡ without h n → h1.files ≡ map.remove h.files n
unfolding without
files_without h h1 n e = ap (λ (x : Holdings). x.files) e

pub in_use_without : (h h1 : Holdings) (n : List ℕ) → h1 ≡ without h n → h1.in_use ≡ h.in_use
unfolding without
in_use_without h h1 n e = ap (λ (x : Holdings). x.in_use) e

pub hurt_without : (h h1 : Holdings) (n : List ℕ) → h1 ≡ without h n → h1.hurt ≡ h.hurt
unfolding without
hurt_without h h1 n e = ap (λ (x : Holdings). x.hurt) e

hurt-given : (hurt : Names) (n q : List ℕ) (sound : Bool) → q ≢ n → set.contains (if sound then set.remove hurt n else set.insert hurt n) q ≡ set.contains hurt q
hurt-given hurt n q true d = rw (set.contains-remove nat_list_cmp_total hurt n q, differ q n d) refl
hurt-given hurt n q false d = rw (set.contains-insert nat_list_cmp_total hurt n q, differ q n d) refl

hurt-given-same : (hurt : Names) (n : List ℕ) (sound : Bool) → set.contains (if sound then set.remove hurt n else set.insert hurt n) n ≡ not sound
hurt-given-same hurt n true = rw (set.contains-remove nat_list_cmp_total hurt n n, itself n) refl
hurt-given-same hurt n false = rw (set.contains-insert nat_list_cmp_total hurt n n, itself n) refl

get-remove-same : (m : Files) (n : List ℕ) → map.get (map.remove m n) n ≡ None
get-remove-same m n = rw (map.get-remove nat_list_cmp_total m n n, itself n) refl

get-insert-same : (m : Files) (n b : List ℕ) → map.get (map.insert m n b) n ≡ Some b
get-insert-same m n b = rw (map.get-insert nat_list_cmp_total m n b n, itself n) refl

get-remove-other : (m : Files) (n q : List ℕ) → q ≢ n → map.get (map.remove m n) q ≡ map.get m q
get-remove-other m n q d = rw (map.get-remove nat_list_cmp_total m n q, differ q n d) refl

get-insert-other : (m : Files) (n b q : List ℕ) → q ≢ n → map.get (map.insert m n b) q ≡ map.get m q
get-insert-other m n b q d = rw (map.get-insert nat_list_cmp_total m n b q, differ q n d) refl

contains-insert-other : (s : Names) (n q : List ℕ) → q ≢ n → set.contains (set.insert s n) q ≡ set.contains s q
contains-insert-other s n q d = rw (set.contains-insert nat_list_cmp_total s n q, differ q n d) refl

contains-remove-other : (s : Names) (n q : List ℕ) → q ≢ n → set.contains (set.remove s n) q ≡ set.contains s q
contains-remove-other s n q d = rw (set.contains-remove nat_list_cmp_total s n q, differ q n d) refl

contains-insert-same : (s : Names) (n : List ℕ) → set.contains (set.insert s n) n ≡ true
contains-insert-same s n = rw (set.contains-insert nat_list_cmp_total s n n, itself n) refl

contains-remove-same : (s : Names) (n : List ℕ) → set.contains (set.remove s n) n ≡ false
contains-remove-same s n = rw (set.contains-remove nat_list_cmp_total s n n, itself n) refl

pub steps : StepsChangeOneName
unfolding out_of given without
steps h n b sound = (
  (get-remove-same h.files n, contains-insert-same h.in_use n, refl),
  (get-insert-same h.files n b, contains-remove-same h.in_use n, hurt-given-same h.hurt n sound),
  (get-remove-same h.files n, refl, refl),
  λ q d. (
    (get-remove-other h.files n q d, contains-insert-other h.in_use n q d, refl),
    (get-insert-other h.files n b q d, contains-remove-other h.in_use n q d, hurt-given h.hurt n q sound d),
    (get-remove-other h.files n q d, refl, refl),
  ),
)
