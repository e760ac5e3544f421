use Rattle.std.proofs.Common.{◌≡◌, ◌+◌, ◌-◌, ◌++◌, sym, ap, append-nil, ◌∙◌, arith}
use Rattle.std.proofs.lemmas.Grind.{flat_map-append}
use Rattle.fj_store.specs.Places.{counted_from, places_of, places_in}
use Rattle.fj_run_statements.proofs.places.add_rest.Goals as goal

pub returns-then-skipped-run : goal.returns-then-skipped-run
returns-then-skipped-run c =
    let none : c.args.run.count - c.args.skipped ≡ 0 = omega arith in
    sym (ap (λ n. places_in c.args.places.now ++ counted_from c.args.run.var (c.args.run.first + c.args.skipped) n) none ∙ append-nil (places_in c.args.places.now))

pub returns : goal.returns
returns c =
    ap places_in c.in_ok-push.ensures.ok ∙ flat_map-append places_of c.args.places.now _
    ∙ ap (λ ps. places_in c.args.places.now ++ ps) (append-nil (counted_from c.args.run.var (c.args.run.first + c.args.skipped) (c.args.run.count - c.args.skipped)))
