-- Where a transfer begins.
use Rattle.std.proofs.Common.{◌≡◌, ℕ, ◌+◌, ◌-◌, ◌==◌, Bool, true, false, not, ◌||◌, ltb, leb, [], ◌∷◌, length, take, Option, Some, None, Ok, Err, refl, sym, ap, ◌∙◌, arith, inl, inr}
use Rattle.std.specs.Prelude.{ℤ, pos, negsuc, if◌then◌else◌}
use Rattle.std.proofs.lemmas.Bool.{cases_lt, lt-ltb, le-ltb, le-leb, lt-leb}
use Rattle.std.proofs.lemmas.List.{length-append, length-take}
use Rattle.fj_value.specs.declared.condition.Condition.TheVariants.{Error}
use Rattle.fj_connect.specs.Connection.{Connection, between, with_records}
use Rattle.fj_connect.specs.Spot.{is_writing, IsPlaced, size_ended}
use Rattle.fj_connect.specs.declared.spot.Within.{Within}
use Rattle.fj_connect.specs.declared.spot.Within.TheVariants.{Outside, Reading, Writing}
use Rattle.fj_transfer.specs.Transfer.{at_byte, placed, begins_at}
use Rattle.fj_transfer.specs.declared.transfer.TransferSpec.{TransferSpec}
use Rattle.fj_perform.specs.Front.{counted, starts, follows, byte_within}
use Rattle.fj_perform.specs.declared.start.Start.TheVariants as start

is_open : (w : Within) → is_writing w ≡ true → w ≡ Writing
is_open Outside e = cc
is_open Reading e = cc
is_open Writing e = refl

abbrev ended_by : Bool → Connection → Connection
ended_by b c = if b then with_records c (10 ∷ []) else c

-- a record that is open is ended before the endfile record
pub after_same : (c : Connection) (size : ℕ) (input : Bool) → IsPlaced c.modes size c.spot → (follows input c).spot.after_end ≡ c.spot.after_end
after_same c size false placed = refl
after_same c size true placed = by (is_writing c.spot.within) refl c.spot.after_end refl
  where
    by : (b : Bool) → is_writing c.spot.within ≡ b → (a : Bool) → c.spot.after_end ≡ a → (ended_by b c).spot.after_end ≡ c.spot.after_end
    by false e a f = refl
    by true e false f = sym f
    by true e true f =
        let h : true ≡ false = sym e ∙ ap is_writing (placed.at_end f).2 in
        cc

-- how long the file is where an input begins
pub size_follows : (c : Connection) (size : ℕ) (input : Bool) → IsPlaced c.modes size c.spot → size ≡ length c.bytes → length (follows input c).bytes ≡ (if input then size_ended c.spot size else size)
size_follows c size false placed is = sym is
size_follows c size true placed is = by (is_writing c.spot.within) refl
  where
    by : (b : Bool) → is_writing c.spot.within ≡ b → length (ended_by b c).bytes ≡ (if b then size + 1 else size)
    by false e = sym is
    by true e =
        let at : c.spot.at ≡ size = (placed.record_open (is_open c.spot.within e)).2 in
        omega (arith, at, length-append (take c.spot.at c.bytes) (10 ∷ []), length-take c.spot.at c.bytes)

-- POS= as a number that counts from 1
pub byte_starts : (n : ℤ) (c : Connection) (size : ℕ) → length c.bytes ≡ size → starts c (byte_within size (counted n)) ≡ at_byte c n
byte_starts (negsuc n) c size is = refl
byte_starts (pos n) c size is = by (n == 0) ∙ ap (λ s. if (n == 0) || ltb (s + 1) n then Err (Error 21) else Ok (between c (n - 1))) (sym is)
  where
    tests : (b : Bool) → starts c (if b then Ok (start.Byte (n - 1)) else Err (Error 21)) ≡ (if not b then Err (Error 21) else Ok (between c (n - 1)))
    tests true = refl
    tests false = refl

    turned : not (leb n (size + 1)) ≡ ltb (size + 1) n
    turned = elim (cases_lt (size + 1) n) [
      | inl past ↦ ap not (lt-leb n (size + 1) past) ∙ sym (lt-ltb (size + 1) n past)
      | inr within ↦ ap not (le-leb n (size + 1) within) ∙ sym (le-ltb (size + 1) n within)
    ]

    by : (b : Bool) → starts c (byte_within size (if b then None else Some n)) ≡ (if b || ltb (size + 1) n then Err (Error 21) else Ok (between c (n - 1)))
    by true = refl
    by false = tests (leb n (size + 1)) ∙ ap (λ t. if t then Err (Error 21) else Ok (between c (n - 1))) turned

-- POS= where an input or output begins with it
pub begins_with_byte : (spec : TransferSpec) (old : Connection) (size : ℕ) (n : ℤ) → IsPlaced old.modes size old.spot → size ≡ length old.bytes → old.spot.after_end ≡ false → spec.rec ≡ None → spec.pos ≡ Some n
    → starts (follows spec.input old) (byte_within (if spec.input then size_ended old.spot size else size) (counted n)) ≡ begins_at spec (follows spec.input old)
begins_with_byte spec old size n there is before without named =
    byte_starts n (follows spec.input old) (if spec.input then size_ended old.spot size else size) (size_follows old size spec.input there is)
    ∙ ap (λ (r : Option ℤ). placed (follows spec.input old) r (Some n)) (sym without)
    ∙ ap (λ (p : Option ℤ). placed (follows spec.input old) spec.rec p) (sym named)
    ∙ ap (λ (b : Bool). if b then Err (Error 20) else placed (follows spec.input old) spec.rec spec.pos) (sym (after_same old size spec.input there ∙ before))
