use Rattle.std.proofs.Common.{◌≡◌, List, Err, refl, ap, ◌∙◌}
use Rattle.fj_value.specs.declared.place.Place.{Place}
use Rattle.fj_statement.specs.declared.deck.Variable.{Variable}
use Rattle.fj_store.specs.Places.{places_in}
use Rattle.fj_meaning.specs.Transfers.{held_places}
use Rattle.fj_meaning_jobs.specs.Core.{Pending}
use Rattle.fj_run_items.specs.declared.lost.Lost.TheVariants as lost
use Rattle.fj_run_statements.specs.Holding.{pending_under}
use Rattle.fj_run_statements.proofs.StateLemmas.{held_is}
use Rattle.fj_run_statements.proofs.transfers.hold.Goals as goal

pub returns-in-Ok-clause-ok : goal.returns-in-Ok-clause-ok
returns-in-Ok-clause-ok c =
    let t = c.args.t.now in
    let with_places : List Place → Pending =
    λ ps. record { id = c.args.tag.0; unit = c.args.unit; input = t.input; places = ps; size = t.size; slot = c.args.slot; number = c.args.number } in
    let places : places_in c.in_ok-runs.runs ≡ held_places c.args.variables.now t =
    c.in_ok-runs.ensures ∙ ap (λ (vs : List Variable). held_places vs t) c.as_slice.ensures in
    held_is c.args.pending.now c.enter.new.self _ (pending_under c.args.variables.now c.args.tag.0 t c.args.unit c.args.slot c.args.number) c.in-Ok.ensures.ok (ap with_places places) refl

pub returns-in-Err-clause-fits : goal.returns-in-Err-clause-fits
returns-in-Err-clause-fits c = λ next unfit.
    let same : c.lost_by_entry.result ≡ lost.Unfit = cc in
    c.enter.ensures.fits (next _ refl refl refl) (c.in-Err.is ∙ ap Err (c.lost_by_entry.ensures.fits.0 same))
