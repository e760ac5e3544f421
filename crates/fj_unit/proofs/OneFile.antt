-- A disk of one file.
use Rattle.std.proofs.Common.{◌≡◌, ℕ, List, Option, Some, None, Result, Ok, Err, cond, sym, ap, ◌∙◌}
use Rattle.std.specs.FinMap as map
use Rattle.std.specs.FinMap.{get-insert, get-empty}
use Rattle.std.specs.Ordering.{nat_cmp}
use Rattle.std.specs.Cmp.Lexicographic.{slice_cmp, nat_list_cmp_total}
use Rattle.fj_value.specs.declared.condition.Condition.{Condition}
use Rattle.fj_modes.specs.declared.modes.Modes.{Modes}
use Rattle.fj_modes.specs.declared.specifiers.OpenSpec.{OpenSpec}
use Rattle.fj_outside.specs.Holdings.{Files}
use Rattle.fj_outside.proofs.HoldingLaws.{itself}
use Rattle.fj_connect.specs.Connection.{Connection}
use Rattle.fj_connect.specs.Opening.{opened, opened_file, with_left}

pub holds_it : (new old : Files) (name bytes : List ℕ) → new ≡ map.insert old name bytes → map.get new name ≡ Some bytes
holds_it new old name bytes e = ap (λ m. map.get m name) e ∙ get-insert nat_list_cmp_total old name bytes name ∙ ap (λ b. cond b (Some bytes) (map.get old name)) (itself name)

first : Connection → Result (Connection × Files) Condition → Connection
first d (Ok p) = p.0
first d (Err x) = d

pub none_there : (files : Files) (name : List ℕ) → files ≡ map.empty → map.get files name ≡ None
none_there files name e = ap (λ m. map.get m name) e ∙ get-empty (slice_cmp nat_cmp) name

left_ok : (files left : Files) (r : Result Connection Condition) (c : Connection) → with_left files r ≡ Ok (c, left) → r ≡ Ok c
unfolding first
left_ok files left (Ok d) c e = ap Ok (ap (first d) e)
left_ok files left (Err x) c e = absurd (cc)

left_err : (files : Files) (r : Result Connection Condition) (x : Condition) → with_left files r ≡ Err x → r ≡ Err x
left_err files (Ok d) x e = absurd (cc)
left_err files (Err y) x e = let same : y ≡ x = cc in ap Err same

pub is_opened : (files left : Files) (found : Option (List ℕ)) (name : List ℕ) (spec : OpenSpec) (modes : Modes) (c : Connection)
    → map.get files name ≡ found → opened files name spec modes ≡ Ok (c, left) → opened_file found name spec modes ≡ Ok c
is_opened files left found name spec modes c is e = ap (λ o. opened_file o name spec modes) (sym is) ∙ left_ok files left (opened_file (map.get files name) name spec modes) c e

pub is_refused : (files : Files) (found : Option (List ℕ)) (name : List ℕ) (spec : OpenSpec) (modes : Modes) (x : Condition)
    → map.get files name ≡ found → opened files name spec modes ≡ Err x → opened_file found name spec modes ≡ Err x
is_refused files found name spec modes x is e = ap (λ o. opened_file o name spec modes) (sym is) ∙ left_err files (opened_file (map.get files name) name spec modes) x e
