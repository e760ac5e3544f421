use Rattle.std.proofs.Common.{◌≡◌, false, map, sym, ap, subst, ◌∙◌}
use Rattle.fj_meaning_jobs.specs.Core.{inserted}
use Rattle.fj_run_units.specs.Units.{StandApart, connected_of, has_slot}
use Rattle.fj_run_units.proofs.UnitLemmas.{inserted_is, inserted_apart}
use Rattle.fj_run_units.proofs.units.Units.insert.Goals as goal

pub invariant_of-self-2 : goal.invariant_of-self-2
invariant_of-self-2 c =
    let free = subst (λ us. has_slot us c.args.new.slot ≡ false) (sym c.self.view_is) c.requires in
    let is = inserted_is c.self.inside.list.items c.replace-old.result.items c.new-list.result.items c.new-above.result.items c.split.new.below.items c.split.new.above.items c.push.new.self.items c.append.new.list.items c.args.new
    (ap (λ v. v.items) c.replace-old.ensures.value) c.new-list.ensures.items c.new-above.ensures.items c.in_ok-split.ensures.below c.in_ok-split.ensures.above c.in_ok-push.ensures.items c.in_ok-append.ensures in
    subst StandApart (sym is) (inserted_apart (connected_of c.args.new) (map connected_of c.self.inside.list.items) free c.self.invariant)

pub returns : goal.returns
returns c =
    inserted_is c.self.inside.list.items c.replace-old.result.items c.new-list.result.items c.new-above.result.items c.split.new.below.items c.split.new.above.items c.push.new.self.items c.append.new.list.items c.args.new
    (ap (λ v. v.items) c.replace-old.ensures.value) c.new-list.ensures.items c.new-above.ensures.items c.in_ok-split.ensures.below c.in_ok-split.ensures.above c.in_ok-push.ensures.items c.in_ok-append.ensures
    ∙ ap (inserted (connected_of c.args.new)) c.self.view_is
