use Rattle.std.proofs.Common.{◌≡◌, ◌+◌, [], ◌∷◌, ◌++◌, arith, rules, length, slice_get, sym, ap, ◌∙◌, subst}
use Rattle.std.proofs.lemmas.List.{length_push}
use Rattle.fj_world.specs.Alone.{AllHome}
use Rattle.fj_bay.specs.Meaning.{bay_meaning}
use Rattle.fj_meaning_jobs.specs.Both.{Both}
use Rattle.fj_run_end.specs.Remains.{IsWhatRemains}
use Rattle.fj_run_end.proofs.Desking.{both_more, front_get, last_get}
use Rattle.fj_run_end.proofs.remains.+take_all.Goals as goal

pub returns-clause-each : goal.returns-clause-each
returns-clause-each g t c =
    let m = bay_meaning g.F.FileStore.told g.F.FileStore.bytes g.F.FileStore.count in
    subst (λ xs. Both (IsWhatRemains m) xs c.push_reserved.new.self.items) (sym c.in-Some.ensures.slots)
    (subst (λ ys. Both (IsWhatRemains m) (c.pop.new.self.slots ++ c.in-Some.slot ∷ []) ys) (sym c.push_reserved.ensures.items)
    (both_more (IsWhatRemains m) c.pop.new.self.slots c.take_all.new.all.items c.in-Some.slot c.remains_of.result c.take_all.ensures.each c.remains_of.ensures))

pub take_all-requires : goal.take_all-requires
take_all-requires g t c κs within =
    let fewer : length c.args.slots.now.slots ≡ length c.pop.new.self.slots + 1 = ap length c.in-Some.ensures.slots ∙ length_push c.pop.new.self.slots c.in-Some.slot in
    let home : AllHome c.pop.new.self = λ at l e. c.requires.home at l (ap (λ xs. slice_get xs at) c.in-Some.ensures.slots ∙ front_get c.pop.new.self.slots c.in-Some.slot l at e) in
    (search (rules, fewer), (within, (home, (c.requires.empty, omega (arith, fewer, c.requires.room)))))

pub remains_of-requires : goal.remains_of-requires
remains_of-requires g t c =
    record { home = c.requires.home (length c.pop.new.self.slots) c.in-Some.slot (ap (λ xs. slice_get xs (length c.pop.new.self.slots)) c.in-Some.ensures.slots ∙ last_get c.pop.new.self.slots c.in-Some.slot) }
