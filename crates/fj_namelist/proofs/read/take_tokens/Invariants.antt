use Rattle.std.proofs.Common.{◌≡◌, drop, length}
use Rattle.fj_moved.specs.Cells.{places_of}
use Rattle.fj_namelist.specs.GroupInput.{tokens_taken}
use Rattle.fj_namelist.specs.declared.place.GroupPlace.TheVariants as place
use Rattle.fj_namelist.specs.Walker.{IsPlace}
use Rattle.fj_namelist.proofs.read.take_tokens.Given as goal

abbrev pub invariant-loop-i : goal.invariant-loop-i
invariant-loop-i l = record {
  taken : tokens_taken l.members l.place l.skip (drop l.i l.tokens) l.cells ≡ tokens_taken l.members place.Due 0 l.tokens l.fn.cells;
  there : IsPlace (length l.cells) l.place;
  places : places_of l.cells ≡ places_of l.fn.cells;
  count : length l.cells ≡ length l.fn.cells;
}
