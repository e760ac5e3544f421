use Rattle.std.proofs.Common.{inl, inr, ap, sym, subst, arith}
use Rattle.fj_bay.specs.Meaning.{bay_meaning}
use Rattle.fj_job.specs.Executing.{AreClosed}
use Rattle.fj_job.specs.Fitting.{kept_name, AreOut}
use Rattle.fj_job.proofs.Leading.{rose_later, rose_earlier}
use Rattle.fj_job.proofs.Returning.{fits, names_gone, closes}
use Rattle.fj_job.proofs.Settling.{none_in_use, on_ok, where_err, AnswersFirst, answers_first}
use Rattle.fj_job.proofs.ending.give_all.Given
use Rattle.fj_job.proofs.ending.give_all.Goals as goal

pub give_kept-given-requires : goal.give_kept-given-requires
give_kept-given-requires g c = record { names = λ t. c.finish-closed.ensures.names (c.finish-closed.ensures.telling.1 t) }

-- what is answered
answer : (g : Given.Over) (c : goal.After-settled_by g) → AnswersFirst c.args.left.now.lost c.finish-closed.result c.give_kept-given.result c.settled_by.result
answer g c = answers_first _ _ _ _ _ _ c.first_lost-first.ensures c.first_lost-last.ensures c.settled_by.ensures

pub returns-clause-nothing : goal.returns-clause-nothing
returns-clause-nothing g c = on_ok c.settled_by.result _ (λ e. ((answer g c).ok e).0)

pub returns-clause-sink : goal.returns-clause-sink
returns-clause-sink g c = λ e. (answer g c).sink e

pub returns-clause-disk : goal.returns-clause-disk
returns-clause-disk g c = λ e. elim ((answer g c).disk e) [
  | inl was ↦ inl was
  | inr (none, inl closed) ↦ inr (rose_later _ _ _ (c.finish-closed.ensures.failed closed) c.give_kept-given.ensures.later)
  | inr (none, inr given) ↦ inr (rose_earlier _ _ _ c.finish-closed.ensures.later (where_err c.give_kept-given.result _ _ given c.give_kept-given.ensures.failed))
]

pub returns-clause-alone : goal.returns-clause-alone
returns-clause-alone g c = λ e. elim ((answer g c).disk e) [ inl was ↦ inr was | inr (none, failed) ↦ inl none ]

pub returns-clause-own : goal.returns-clause-own
returns-clause-own g c = λ t. let a = c.finish-closed.ensures.own t in let b = c.give_kept-given.ensures.own (c.finish-closed.ensures.telling.0 t) in omega (arith, a, b)

pub returns-clause-telling : goal.returns-clause-telling
returns-clause-telling g c =
    (λ t. c.give_kept-given.ensures.telling.0 (c.finish-closed.ensures.telling.0 t), λ t. c.finish-closed.ensures.telling.1 (c.give_kept-given.ensures.telling.1 t))

pub returns-clause-closed : goal.returns-clause-closed
returns-clause-closed g c = λ t held out.
    let meaning = bay_meaning g.D.File.FileStore.told g.D.File.FileStore.bytes g.D.File.FileStore.count in
    let core = c.args.left.now.core in
    let kept = c.take-kept.result in
    let there = c.finish-closed.ensures.telling.0 t in
    let them = subst (λ k. AreOut (kept_name k) core.names core.units) (sym c.take-kept.ensures.value) out in
    let fit = fits meaning c.args.slots core.names core.units kept held them in
    let gone = names_gone core.names c.finish-closed.new.names c.give_kept-given.new.names core.units kept them (c.finish-closed.ensures.off fit) (λ none. (c.give_kept-given.ensures.nothing none).0) c.give_kept-given.ensures.off in
    subst (λ k. AreClosed meaning c.args.slots core.units k (g.D.Disk.held c.args.disk.now) (g.D.Disk.held c.give_kept-given.new.disk) (g.D.Disk.refusals c.args.disk.now) (g.D.Disk.refusals c.give_kept-given.new.disk) c.settled_by.result)
    c.take-kept.ensures.value
    (closes meaning c.args.slots core.names core.units kept them (g.D.Disk.held c.args.disk.now) (g.D.Disk.held c.finish-closed.new.disk) (g.D.Disk.held c.give_kept-given.new.disk)
    (g.D.Disk.refusals c.args.disk.now) (g.D.Disk.refusals c.finish-closed.new.disk) (g.D.Disk.refusals c.give_kept-given.new.disk) (c.give_kept-given.ensures.own there)
    (c.give_kept-given.ensures.others there) (λ none. ap g.D.Disk.held (c.give_kept-given.ensures.nothing none).1) _ _ _ _ (answer g c)
    (none_in_use c.give_kept-given.new.names _ gone (c.give_kept-given.ensures.names there))
    (c.finish-closed.ensures.files t fit) (c.finish-closed.ensures.due t fit) (c.finish-closed.ensures.running t fit) (c.finish-closed.ensures.others fit) (c.finish-closed.ensures.found t fit) (c.finish-closed.ensures.spared t fit))
