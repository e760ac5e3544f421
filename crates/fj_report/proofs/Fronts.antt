-- What stands in front of a longer text.
use Rattle.std.proofs.Common.{ℕ, List, ◌++◌, ◌≤◌, length, take, arith, ◌∙◌, sym, ap}
use Rattle.std.proofs.Math.Seq.{take-append_seam}
use Rattle.std.proofs.lemmas.List.{take-take, length-append}
use Rattle.fj_report.specs.Lines.{KeepsFront}

-- what more was put behind keeps what was there before
pub KeepsFront_behind : (old piece new : List ℕ) → KeepsFront (old ++ piece) new → KeepsFront old new
KeepsFront_behind old piece new h =
    let shorter : length old ≤ length (old ++ piece) = omega (arith, length-append old piece) in
    sym (take-take (length old) (length (old ++ piece)) new shorter) ∙ ap (λ xs. take (length old) xs) h ∙ take-append_seam old piece
