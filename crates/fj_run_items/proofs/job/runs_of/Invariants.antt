use Rattle.std.proofs.Common.{◌≡◌, ◌++◌, map, length}
use Rattle.fj_store.specs.declared.piece.Piece.TheVariants.{Places}
use Rattle.fj_run_items.proofs.job.runs_of.Given as goal

abbrev pub invariant-taking : goal.invariant-taking
invariant-taking l = map Places l.runs ++ l.pieces.items ≡ l.initial.pieces.items

abbrev pub decreases-taking : goal.decreases-taking
decreases-taking l = length l.pieces.items
