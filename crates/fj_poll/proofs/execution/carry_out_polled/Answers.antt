use Rattle.std.proofs.Common.{◌+◌, refl, sym, ap, ◌∙◌, subst}
use Rattle.std.specs.declared.alloc.Global.{Global}
use Rattle.std.specs.declared.vec.Vec.{Vec}
use Rattle.fj_bay.specs.Meaning.{bay_meaning}
use Rattle.fj_statement.specs.declared.deck.Deck.{Deck}
use Rattle.fj_run_units.specs.Files.{files_of}
use Rattle.fj_run_script.specs.declared.looking.Look.{Look}
use Rattle.fj_job.proofs.CarriedOut.{carried_out}
use Rattle.fj_job.proofs.Settling.{in_use_none}
use Rattle.fj_poll.specs.Looks.{IsPut, NoneLooksBefore}
use Rattle.fj_poll.proofs.Executed.{not_begun}
use Rattle.fj_poll.proofs.execution.carry_out_polled.Goals as goal

pub carry_polled-requires-clause-names : goal.carry_polled-requires-clause-names
carry_polled-requires-clause-names g c κs within = λ t. in_use_none _ _ c.in_ok-machine.ensures.begun.names (c.requires.free t)

pub returns-in_err-machine : goal.returns-in_err-machine
returns-in_err-machine g c = record {
  carried = not_begun g.W.Sink.tells g.W.Sink.taken g.W.Sink.count g.D.Disk.tells g.D.Disk.held g.D.Disk.count g.D.Disk.refusals c.args.deck c.args.out.now c.args.disk.now _ c.from_residual.ensures.0 c.requires.sound;
}

pub returns : goal.returns
returns g c =
    let it = c.carry_polled.ensures.carried in
    let settled = c.settle.ensures.settled in
    record {
      carried = record {
        polled = record {
          put = c.carry_polled.new.machine.deck;
          looks = c.carry_polled.new.machine.looks.items;
          is_put = λ t. subst (λ (d : Deck). IsPut d c.carry_polled.new.machine.deck (files_of (g.D.Disk.held c.args.disk.now)) c.carry_polled.new.machine.looks.items) c.in_ok-machine.ensures.deck (it.put t);
          sound = it.sound;
        };
        looks = sym (ap (λ (v : Vec Look Global). v.items) settled.looks);
        none = λ t going. it.none t (sym settled.over ∙ going);
        none_before = λ t. subst (λ place. NoneLooksBefore c.carry_polled.new.machine.deck (files_of (g.D.Disk.held c.args.disk.now)) (place + 1)) (sym settled.at) (it.none_before t);
        carried =
            carried_out g.W.Sink.tells g.W.Sink.taken g.W.Sink.count g.D.Disk.tells g.D.Disk.held g.D.Disk.count g.D.Disk.refusals
            (bay_meaning g.D.File.FileStore.told g.D.File.FileStore.bytes g.D.File.FileStore.count)
            g.D.File.FileStore.told g.D.File.FileStore.bytes c.carry_polled.new.machine.deck c.args.out.now c.args.disk.now _ _ _ _ _ _ _ c.in_ok-machine.ensures.begun
            it.leaves refl it.ran (λ t sound over. it.cut t over) it.ended c.carry_polled.ensures.on it.sound settled;
      };
    }
