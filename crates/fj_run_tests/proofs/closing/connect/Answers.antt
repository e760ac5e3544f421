use Rattle.std.proofs.Common.{ℕ, List, sym, ap, ◌∙◌}
use Rattle.std.specs.FinSet as set
use Rattle.fj_outside.specs.Holdings.{Holdings}
use Rattle.fj_run_units.specs.Names.{stands}
use Rattle.fj_run_units.proofs.Files.{names-out_of}
use Rattle.fj_run_tests.proofs.closing.connect.Goals as goal

pub returns : goal.returns
returns c = λ q.
    ap (λ (h : Holdings). set.contains h.in_use q) (c.in-Ok-open_file.ensures.opened tt).2
    ∙ names-out_of c.args.names.now c.args.disk.now c.args.name.now c.requires q
    ∙ ap (λ (ns : List (List ℕ)). stands ns q) (sym c.in-Ok-add.ensures.ok)
