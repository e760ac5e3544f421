use Rattle.std.proofs.Common.{◌≡◌, drop}
use Rattle.fj_names.specs.Declaring.{with_all}
use Rattle.fj_names.proofs.names.Names.with_declaration.Given as goal

-- with the variables that are left all of them are there
abbrev pub invariant-loop-designator : goal.invariant-loop-designator
invariant-loop-designator l = with_all l.names l.line l.declaration.kind (drop l.designator-index l.designator-items) ≡ with_all l.fn.self l.line l.declaration.kind l.designator-items
