-- OPEN of a file, by its specifiers.
use Rattle.std.proofs.Common.{◌≡◌, ◌≢◌, ℕ, List, [], length, take, drop, arith, refl, sym, ap, subst, ◌∙◌, inl, inr, rules, Option, Some, None, Result, Ok, Err, unwrap_or, cond, true, false}
use Rattle.std.specs.Result.{result_unwrap_or}
use Rattle.std.specs.Ordering.{nat_cmp, eq_by_cmp}
use Rattle.std.specs.Cmp.Lexicographic.{slice_cmp, nat_list_cmp_total}
use Rattle.std.specs.FinMap as map
use Rattle.std.specs.FinMap.{gets}
use Rattle.std.proofs.lemmas.Bool.{cases_lt}
use Rattle.std.proofs.lemmas.List.{take_all, drop_all}
use Rattle.fj_value.specs.declared.condition.Condition.{Condition}
use Rattle.fj_modes.specs.declared.modes.Modes.{Modes}
use Rattle.fj_modes.specs.declared.specifiers.OpenSpec.{OpenSpec}
use Rattle.fj_modes.specs.declared.specifiers.FileStatus.{FileStatus}
use Rattle.fj_modes.specs.declared.specifiers.FileStatus.TheVariants.{Old, New, Scratch, Replace, Unknown}
use Rattle.fj_modes.specs.declared.specifiers.Start.{Start}
use Rattle.fj_modes.specs.declared.specifiers.Start.TheVariants.{AsIs, Rewind, Append}
use Rattle.fj_outside.specs.Holdings.{Files}
use Rattle.fj_connect.specs.Connection.{Connection}
use Rattle.fj_modes.specs.Limits.{longest_file}
use Rattle.fj_connect.specs.Opening.{connected, connected_to, with_left, bytes_opened, kept_bytes, first_place}
use Rattle.fj_connect.specs.OpeningLaws.{Connects, old, old_is_long, old_is_missing, new, new_is_there, scratch, replaced, unknown_is_old, unknown_is_new, IsNew, OpensByStatus, StatusDecides}
use Rattle.fj_outside.proofs.HoldingLaws.{same_name}
use Rattle.fj_connect.proofs.Homes.{too_long, short_enough}

kept : (bytes : List ℕ) → Connects Old (Some bytes) (kept_bytes bytes)
kept bytes = elim (cases_lt longest_file (length bytes)) [
  | inl long ↦ subst (Connects Old (Some bytes)) (sym (too_long bytes long)) (old_is_long long)
  | inr short ↦ subst (Connects Old (Some bytes)) (sym (short_enough bytes short)) (old short)
]

connects : (status : FileStatus) (found : Option (List ℕ)) → Connects status found (bytes_opened status found)
connects Old None = old_is_missing
connects Old (Some bytes) = kept bytes
connects New None = new
connects New (Some bytes) = new_is_there
connects Scratch found = scratch
connects Replace found = replaced
connects Unknown None = unknown_is_new new
connects Unknown (Some bytes) = unknown_is_old (kept bytes)

only_answer : (status : FileStatus) (found : Option (List ℕ)) (answer : Result (List ℕ) Condition) → Connects status found answer → bytes_opened status found ≡ answer
only_answer _ _ _ (old {bytes = bytes} short) = short_enough bytes short
only_answer _ _ _ (old_is_long {bytes = bytes} long) = too_long bytes long
only_answer _ _ _ old_is_missing = refl
only_answer _ _ _ new = refl
only_answer _ _ _ new_is_there = refl
only_answer _ _ _ scratch = refl
only_answer _ _ _ replaced = refl
only_answer _ _ _ (unknown_is_old {bytes = bytes} {answer = answer} is) = only_answer Old (Some bytes) answer is
only_answer _ _ _ (unknown_is_new {answer = answer} is) = only_answer New None answer is

pub decides : StatusDecides
decides status found a b is also = sym (only_answer status found a is) ∙ only_answer status found b also

starts : (start : Start) (bytes : List ℕ) → start ≢ Append → take (first_place start (length bytes)) bytes ≡ []
starts AsIs bytes not = grind arith
starts Rewind bytes not = grind arith
starts Append bytes not = absurd (not refl)

ends : (start : Start) (bytes : List ℕ) → start ≡ Append → (take (first_place start (length bytes)) bytes ≡ bytes) × (drop (first_place start (length bytes)) bytes ≡ [])
ends start bytes is = rw is (take_all (length bytes) bytes (omega arith), drop_all (length bytes) bytes (omega arith))

other_stays : (files : Files) (name q : List ℕ) → q ≢ name → map.get (map.remove files name) q ≡ map.get files q
other_stays files name q other =
    map.get-remove nat_list_cmp_total files name q
    ∙ elim (eq_by_cmp (slice_cmp nat_cmp) q name) as (λ b. (b ≡ true → q ≡ name) → cond b None (map.get files q) ≡ map.get files q) [
      | true ↦ λ same. absurd (other (same refl))
      | false ↦ λ _. refl
    ] (same_name q name)

is_new : (files : Files) (name : List ℕ) (spec : OpenSpec) (modes : Modes) (bytes : List ℕ) → Connects (unwrap_or spec.status Unknown) (map.get files name) (Ok bytes)
    → IsNew files name spec modes (connected modes name bytes) (map.remove files name)
is_new files name spec modes bytes file = record {
  file = file;
  named = refl;
  settled = refl;
  at_start = starts modes.start bytes;
  at_end = ends modes.start bytes;
  between = (refl, refl, refl);
  first = refl;
  taken = grind (gets, rules);
  others = other_stays files name;
}

opens_new : (files : Files) (name : List ℕ) (spec : OpenSpec) (modes : Modes) (answer : Result (List ℕ) Condition) (c : Connection) (left : Files) → Connects (unwrap_or spec.status Unknown) (map.get files name) answer
    → with_left files (connected_to modes name answer) ≡ Ok (c, left) → IsNew files name spec modes c left
opens_new files name spec modes (Ok bytes) c left file is =
    let P : Connection × Files → Type 0 = λ p. IsNew files name spec modes p.0 p.1 in
    subst P (ap (λ r. result_unwrap_or r (c, left)) is) (is_new files name spec modes bytes file)
opens_new files name spec modes (Err condition) c left file is = cc

errs : (files : Files) (name : List ℕ) (spec : OpenSpec) (modes : Modes) (answer : Result (List ℕ) Condition) (condition : Condition) → Connects (unwrap_or spec.status Unknown) (map.get files name) answer
    → with_left files (connected_to modes name answer) ≡ Err condition → Connects (unwrap_or spec.status Unknown) (map.get files name) (Err condition)
errs files name spec modes (Ok bytes) condition file is = cc
errs files name spec modes (Err other) condition file is =
    let e : other ≡ condition = cc in
    subst (λ x. Connects (unwrap_or spec.status Unknown) (map.get files name) (Err x)) e file

pub opens : OpensByStatus
opens files name spec modes = (
  λ c left is. opens_new files name spec modes _ c left (connects (unwrap_or spec.status Unknown) (map.get files name)) is,
  λ condition is. errs files name spec modes _ condition (connects (unwrap_or spec.status Unknown) (map.get files name)) is,
)
