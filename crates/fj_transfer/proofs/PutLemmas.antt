-- Records of direct access put into a file, answer by answer.
use Rattle.std.proofs.Common.{◌≡◌, ℕ, suc, ◌+◌, ◌-◌, ◌*◌, ◌/◌, ◌<◌, ◌≤◌, List, [], ◌∷◌, length, max, sym, ap, ◌∙◌, arith}
use Rattle.std.proofs.Math.Nat.{mul-div_cancel, mul-le-mul_left}
use Rattle.fj_value.specs.declared.value.Cell.{Cell}
use Rattle.fj_value.specs.declared.condition.Condition.TheVariants.{Fine, Error}
use Rattle.fj_span.specs.Change.{KeepsUpToChange}
use Rattle.fj_span.proofs.ChangeLaws.{kept_as}
use Rattle.fj_byterec.specs.Pieces.{record_start}
use Rattle.fj_connect.specs.Connection.{Connection}
use Rattle.fj_connect.specs.DirectRuns.{with_direct_run}
use Rattle.fj_transfer.specs.Places.{before_number}
use Rattle.fj_transfer.specs.Transfer.{Done, told_with, output_done, with_pieces}
use Rattle.fj_transfer.specs.Writing.{HasPieces}
use Rattle.fj_transfer.proofs.PieceLemmas.{pieces_as_run, run_long, run_size}
use Rattle.fj_transfer.proofs.UnformattedLemmas.{within, past_limit}

-- the number of the last record
last_is : (number many recl size : ℕ) → 0 < recl → size ≡ suc many * recl → number + size / recl - 1 ≡ number + many
last_is number many recl size some is =
    let quotient : size / recl ≡ suc many = ap (λ n. n / recl) is ∙ mul-div_cancel (suc many) some in
    omega (arith, quotient)

module _ (old : Connection) (number : ℕ) (run : List ℕ) where
  abbrev recl : ℕ
  recl = old.modes.recl

  abbrev start : ℕ
  start = record_start recl number

  abbrev due : List (List ℕ) → Connection
  due records = with_pieces records (before_number old number)

  -- the records as one run
  pub at_once : (records : List (List ℕ)) → 0 < number → 0 < recl → HasPieces recl records run → with_direct_run old start run (number + length run / recl - 1) 32 ≡ due records
  at_once [] some long has = absurd (omega (arith, has.some))
  at_once (t ∷ ts) some long has =
      let size : length run ≡ suc (length ts) * recl = ap length has.made ∙ run_size recl 32 (t ∷ ts) has.short in
      ap (λ n. with_direct_run old start run n 32) (last_is number (length ts) recl (length run) long size)
      ∙ ap (λ r. with_direct_run old start r (number + length ts) 32) has.made
      ∙ sym (pieces_as_run (before_number old number) t ts some has.short)

  bytes_long : (records : List (List ℕ)) → 0 < number → 0 < recl → HasPieces recl records run → length (due records).bytes ≡ max (length old.bytes) (start + length run)
  bytes_long records some long has =
      ap (λ (c : Connection). length c.bytes) (sym (at_once records some long has)) ∙ run_long old.bytes run start 32

  pub run_fine : (records : List (List ℕ)) (cells : List Cell) → 0 < number → 0 < recl → HasPieces recl records run → length old.bytes ≤ 268435456 → start + length run ≤ 268435456
      → told_with (with_direct_run old start run (number + length run / recl - 1) 32) cells Fine ≡ output_done old cells (due records) 0
  run_fine records cells some long has short fits =
      ap (λ c. told_with c cells Fine) (at_once records some long has)
      ∙ sym (within old (due records) cells 0 (omega (arith, bytes_long records some long has)))

  pub run_past : (records : List (List ℕ)) (cells : List Cell) → 0 < number → 0 < recl → HasPieces recl records run → 268435456 < start + length run
      → told_with old cells (Error 25) ≡ output_done old cells (due records) 0
  run_past records cells some long has past = sym (past_limit old (due records) cells 0 (omega (arith, bytes_long records some long has)))

  -- a record of a number behind the limit ends behind it
  pub far : (records : List (List ℕ)) → 0 < recl → HasPieces recl records run → 268435456 < number → 268435456 < start + length run
  far [] long has big = absurd (omega (arith, has.some))
  far (t ∷ ts) long has big =
      let size : length run ≡ suc (length ts) * recl = ap length has.made ∙ run_size recl 32 (t ∷ ts) has.short in
      let one : number - 1 ≤ start = let h : 1 ≤ recl = omega arith in omega (arith, mul-le-mul_left (number - 1) h) in
      let more : recl ≤ suc (length ts) * recl = omega arith in
      omega (arith, size, one, more)

  pub run_kept : (records : List (List ℕ)) (cells : List Cell) (new : List ℕ) → 0 < number → 0 < recl → HasPieces recl records run → length old.bytes ≤ 268435456 → start + length run ≤ 268435456
      → KeepsUpToChange old.bytes (with_direct_run old start run (number + length run / recl - 1) 32).bytes new → KeepsUpToChange old.bytes (output_done old cells (due records) 0).connection.bytes new
  run_kept records cells new some long has short fits kept =
      kept_as old.bytes (with_direct_run old start run (number + length run / recl - 1) 32).bytes (output_done old cells (due records) 0).connection.bytes new
      (ap (λ (d : Done). d.connection.bytes) (run_fine records cells some long has short fits)) kept
