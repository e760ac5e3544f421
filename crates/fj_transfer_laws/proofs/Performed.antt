-- A statement that is fine, step by step.
use Rattle.std.proofs.Common.{◌≡◌, ◌≢◌, ℕ, ℤ, pos, negsuc, ◌+◌, ◌-◌, ◌≤◌, ◌==◌, ◌||◌, Bool, true, false, cond, ltb, length, Option, Some, None, Result, Ok, Err, refl, sym, ap, subst, ◌∙◌, arith}
use Rattle.fj_value.specs.declared.value.Cell.{Cell}
use Rattle.fj_value.specs.declared.condition.Condition.{Condition}
use Rattle.fj_value.specs.declared.condition.Condition.TheVariants.{Fine, EndOfFile, EndOfRecord, Error}
use Rattle.fj_modes.specs.OpenSpec.{record_limit}
use Rattle.std.specs.Prelude.{List}
use Rattle.fj_control.specs.Steps.{Given}
use Rattle.fj_moved.specs.declared.moved.Moved.{Moved}
use Rattle.fj_connect.specs.Connection.{Connection, between}
use Rattle.fj_connect.specs.Positions.{ended}
use Rattle.fj_transfer.specs.declared.transfer.TransferSpec.{TransferSpec}
use Rattle.fj_transfer.specs.Places.{before_number}
use Rattle.fj_transfer.specs.Transfer.{Done, told_with, in_error, output_done, unfit, begins_at, placed, from_place, if_fit, transfer_by}

-- ---- tests of what fits

pub all_false : (a b s t f : Bool) → cond (a || b || s || t) (Error 16) (cond f (Error 10) Fine) ≡ Fine → (a ≡ false) × (b ≡ false) × (s ≡ false) × (t ≡ false) × (f ≡ false)
all_false false false false false false e = (refl, refl, refl, refl, refl)
all_false false false false false true e = cc
all_false false false false true f e = cc
all_false false false true t f e = cc
all_false false true s t f e = cc
all_false true b s t f e = cc

pub none_true : (a b s t f : Bool) → a ≡ false → b ≡ false → s ≡ false → t ≡ false → f ≡ false → cond (a || b || s || t) (Error 16) (cond f (Error 10) Fine) ≡ Fine
none_true false false false false false h i j k l = refl
none_true false false false false true h i j k l = cc
none_true false false false true f h i j k l = cc
none_true false false true t f h i j k l = cc
none_true false true s t f h i j k l = cc
none_true true b s t f h i j k l = cc

-- a test that did not tell its error
pub passed : (t : Bool) (x y : Done) (n : ℕ) → x.condition ≡ Error n → (cond t x y).condition ≡ Fine → (t ≡ false) × (cond t x y ≡ y)
passed true x y n is e = cc
passed false x y n is e = (refl, refl)

pub fits_in_file : (old new : Connection) (cells : List Cell) → (output_done old cells new 0).condition ≡ Fine → output_done old cells new 0 ≡ told_with new cells Fine
fits_in_file old new cells e = (passed (ltb 268435456 (length new.bytes + 0)) (in_error old false cells (Error 25)) (told_with new cells Fine) 25 refl e).1

-- no record is longer than this
pub longest : (formatted : Bool) (recl : ℕ) → recl ≤ record_limit formatted → recl ≤ 16777216
longest true recl h = omega (arith, h)
longest false recl h = omega (arith, h)

-- ---- where it begins

error_or_never : (t : Bool) (x : Connection) → cond t (Err (Error 21)) (Ok x) ≢ Err Fine
error_or_never true x e = cc
error_or_never false x e = cc

placed_never : (c : Connection) (number place : Option ℤ) → placed c number place ≢ Err Fine
placed_never c (Some (pos n)) place e = error_or_never (n == 0) (before_number c n) e
placed_never c (Some (negsuc n)) place e = cc
placed_never c None (Some (pos n)) e = error_or_never ((n == 0) || ltb (length c.bytes + 1) n) (between c (n - 1)) e
placed_never c None (Some (negsuc n)) e = cc
placed_never c None None e = cc

fit_fine : (control : ℕ → List Given) (c : Connection) (spec : TransferSpec) (moved : Moved) (condition : Condition) → (if_fit control c spec moved condition).condition ≡ Fine → condition ≡ Fine
fit_fine control c spec moved Fine e = refl
fit_fine control c spec moved EndOfFile e = e
fit_fine control c spec moved EndOfRecord e = e
fit_fine control c spec moved (Error n) e = e

not_behind : (control : ℕ → List Given) (c : Connection) (spec : TransferSpec) (moved : Moved) (t : Bool) (r : Result Connection Condition) → (from_place control c spec moved (cond t (Err (Error 20)) r)).condition ≡ Fine → t ≡ false
not_behind control c spec moved true r e = cc
not_behind control c spec moved false r e = refl

place_found : (control : ℕ → List Given) (c : Connection) (spec : TransferSpec) (moved : Moved) (r : Result Connection Condition) → r ≢ Err Fine → (from_place control c spec moved r).condition ≡ Fine → (b : Connection) × (r ≡ Ok b)
place_found control c spec moved (Err condition) never e = absurd (never (ap (λ (k : Condition). Err k) e))
place_found control c spec moved (Ok b) never e = (b, refl)

-- the connection as the statement finds it: a READ first ends a record that output left open
abbrev pub found_by : TransferSpec → Connection → Connection
found_by spec c = cond spec.input (ended c) c

pub record HasBegun (control : ℕ → List Given) (c : Connection) (spec : TransferSpec) (moved : Moved) : Type 0 where
  pub fit : unfit c.modes spec ≡ Fine
  pub not_behind : (found_by spec c).spot.after_end ≡ false
  pub b : Connection
  pub placed_is : placed (found_by spec c) spec.rec spec.pos ≡ Ok b
  pub begins : begins_at spec (found_by spec c) ≡ Ok b
  pub is : transfer_by control c spec moved ≡ from_place control c spec moved (Ok b)

pub has_begun : (control : ℕ → List Given) (c : Connection) (spec : TransferSpec) (moved : Moved) → (transfer_by control c spec moved).condition ≡ Fine → HasBegun control c spec moved
unfolding transfer_by
has_begun control c spec moved e =
    let here = found_by spec c in
    let fit = fit_fine control c spec moved (unfit c.modes spec) e in
    let from : transfer_by control c spec moved ≡ from_place control c spec moved (begins_at spec here) = ap (if_fit control c spec moved) fit in
    let fine : (from_place control c spec moved (begins_at spec here)).condition ≡ Fine = ap (λ (d : Done). d.condition) (sym from) ∙ e in
    let first = not_behind control c spec moved here.spot.after_end (placed here spec.rec spec.pos) fine in
    let same : begins_at spec here ≡ placed here spec.rec spec.pos = ap (λ t. cond t (Err (Error 20)) (placed here spec.rec spec.pos)) first in
    let P : Result Connection Condition → Type 0 = λ r. (from_place control c spec moved r).condition ≡ Fine in
    let found = place_found control c spec moved (placed here spec.rec spec.pos) (placed_never here spec.rec spec.pos) (subst P same fine) in
    record {
      fit = fit;
      not_behind = first;
      b = found.0;
      placed_is = found.1;
      begins = same ∙ found.1;
      is = from ∙ ap (from_place control c spec moved) (same ∙ found.1);
    }
