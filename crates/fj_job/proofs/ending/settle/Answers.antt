use Rattle.std.proofs.Common.{◌≡◌, ◌⊎◌, Option, Some, None, ◌∙◌, ap, sym, subst}
use Rattle.fj_bay.specs.Meaning.{bay_meaning}
use Rattle.fj_run_items.specs.declared.lost.Lost.{Lost}
use Rattle.fj_run_items.specs.declared.lost.Lost.TheVariants.{Disk}
use Rattle.fj_run_statements.specs.declared.state.Core.{Core}
use Rattle.fj_run_units.specs.Names.{stands}
use Rattle.fj_run_end.specs.Holding.{HoldUnits}
use Rattle.fj_job.specs.Executing.{AreClosed}
use Rattle.fj_job.specs.Fitting.{kept_name, AreOut}
use Rattle.fj_job.proofs.Settling.{where_ok, lost_then}
use Rattle.fj_job.proofs.ending.settle.Goals as goal

pub give_all-settled-requires-clause-names : goal.give_all-settled-requires-clause-names
give_all-settled-requires-clause-names g c = λ t name. c.requires.names t name ∙ ap (λ (k : Core). stands k.names name) (sym c.into_left-left.ensures.core)

pub returns : goal.returns
returns g c = record {
  settled = record {
    deck = ap (λ l. l.deck) c.give_all-settled.ensures.left ∙ c.into_left-left.ensures.deck;
    core = ap (λ l. l.core) c.give_all-settled.ensures.left ∙ ap (λ (k : Core). record k { names = c.give_all-settled.new.left.core.names }) c.into_left-left.ensures.core;
    ending = ap (λ l. l.ending) c.give_all-settled.ensures.left ∙ c.into_left-left.ensures.ending;
    over = ap (λ l. l.over) c.give_all-settled.ensures.left ∙ c.into_left-left.ensures.over;
    at = ap (λ l. l.at) c.give_all-settled.ensures.left ∙ c.into_left-left.ensures.at;
    looks = ap (λ l. l.looks) c.give_all-settled.ensures.left ∙ c.into_left-left.ensures.looks;
    nothing = λ s. sym c.into_left-left.ensures.lost ∙ where_ok _ _ _ s c.give_all-settled.ensures.nothing;
    closed = λ t fit.
        let meaning = bay_meaning g.D.File.FileStore.told g.D.File.FileStore.bytes g.D.File.FileStore.count in
        let core = c.into_left-left.ensures.core in
        let kept = c.into_left-left.ensures.kept in
        let was = c.into_left-left.result in
        let out = subst (λ (k : Core). AreOut (kept_name was.kept) k.names k.units) (sym core) (subst (λ o. AreOut (kept_name o) c.args.machine.state.core.names c.args.machine.state.core.units) (sym kept) fit.out) in
        let all = c.give_all-settled.ensures.closed t (subst (λ (k : Core). HoldUnits meaning c.args.slots k.units) (sym core) fit.held) out in
        subst (λ o. AreClosed meaning c.args.slots c.args.machine.state.core.units o (g.D.Disk.held c.args.disk.now) (g.D.Disk.held c.give_all-settled.new.disk) (g.D.Disk.refusals c.args.disk.now)
        (g.D.Disk.refusals c.give_all-settled.new.disk) c.give_all-settled.result) kept
        (subst (λ (k : Core). AreClosed meaning c.args.slots k.units was.kept (g.D.Disk.held c.args.disk.now) (g.D.Disk.held c.give_all-settled.new.disk) (g.D.Disk.refusals c.args.disk.now)
        (g.D.Disk.refusals c.give_all-settled.new.disk) c.give_all-settled.result) core all);
    own = c.give_all-settled.ensures.own;
    sink = λ e. sym c.into_left-left.ensures.lost ∙ c.give_all-settled.ensures.sink e;
    of_disk = λ e. lost_then c.into_left-left.ensures.lost (c.give_all-settled.ensures.disk e);
    alone = λ e. subst (λ (o : Option Lost). (o ≡ None) ⊎ (o ≡ Some Disk)) c.into_left-left.ensures.lost (c.give_all-settled.ensures.alone e);
    telling = c.give_all-settled.ensures.telling;
    later = c.give_all-settled.ensures.later;
  };
}
