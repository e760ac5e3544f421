use Rattle.std.proofs.Common.{◌≡◌, ◌++◌, drop}
use Rattle.std.specs.List.{flat_map}
use Rattle.fj_report.specs.Lines.{KeepsFront}
use Rattle.fj_report.proofs.pieces.append_pieces.Given as goal

abbrev pub invariant-loop-piece : goal.invariant-loop-piece
invariant-loop-piece l = record {
  appended : l.out ++ flat_map (λ piece. piece.now) (drop l.piece-index l.pieces) ≡ l.fn.out ++ flat_map (λ piece. piece.now) l.pieces;
  kept : KeepsFront l.fn.out l.out;
}
