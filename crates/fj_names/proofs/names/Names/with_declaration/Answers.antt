use Rattle.std.proofs.Common.{◌≡◌, ◌+◌, ◌∷◌, drop, sym, ap, ◌∙◌}
use Rattle.std.proofs.lemmas.List.{drop_more}
use Rattle.fj_names.specs.Declaring.{with_all}
use Rattle.fj_names.proofs.NameLemmas.{with_all_step}
use Rattle.fj_names.proofs.names.Names.with_declaration.Goals as goal

pub loop-designator-preserved : goal.loop-designator-preserved
loop-designator-preserved c =
    let ds = c.as_slice-designator-items.result.now in
    let i = c.loop-designator.designator-index in
    let kind = c.args.declaration.now.kind in
    let e : drop i ds ≡ c.designator-item.result ∷ drop (i + 1) ds = drop_more ds i c.designator-item.result c.loop-designator-test.true ∙ ap (λ d. d ∷ drop (i + 1) ds) (sym c.designator-item.is) in
    sym (with_all_step c.loop-designator.names c.in_ok-names.names c.args.line kind c.designator-item.result (drop (i + 1) ds) c.in_ok-names.ensures)
    ∙ ap (with_all c.loop-designator.names c.args.line kind) (sym e) ∙ c.loop-designator.invariant
