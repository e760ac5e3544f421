use Rattle.std.proofs.Common.{Option, length, sym, subst}
use Rattle.fj_namelist.specs.declared.place.Begun.{Begun}
use Rattle.fj_namelist.specs.Walker.{MayBegin}
use Rattle.fj_namelist.proofs.Taking.{begun_within}
use Rattle.fj_namelist.proofs.read.take_at.Goals as goal

pub take_next-requires-clause-begun : goal.take_next-requires-clause-begun
take_next-requires-clause-begun c =
    subst (λ (b : Option Begun). MayBegin (length c.args.cells.now) b) (sym c.begun_at-begun.ensures) (begun_within (length c.args.cells.now) c.args.members.now _ c.requires.within)
