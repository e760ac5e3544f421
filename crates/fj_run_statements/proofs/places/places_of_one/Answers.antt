use Rattle.std.proofs.Common.{ap, ◌∙◌, ◌∷◌, ◌++◌, []}
use Rattle.fj_run_statements.proofs.PlaceLemmas.{alone_once, alone_places}
use Rattle.fj_run_statements.proofs.places.places_of_one.Goals as goal

pub of_runs-requires : goal.of_runs-requires
of_runs-requires c = alone_once c.args.run c.push.new.self (c.in_ok-push.ensures.ok ∙ ap (λ rs. rs ++ c.args.run ∷ []) c.new-places.ensures)

pub returns : goal.returns
returns c = c.of_runs.ensures ∙ alone_places c.args.run c.push.new.self (c.in_ok-push.ensures.ok ∙ ap (λ rs. rs ++ c.args.run ∷ []) c.new-places.ensures)
