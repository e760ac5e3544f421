-- A stretch may go to another thread, where the sink, the disk and the disk's files may.
use denote.RattleType.{RattleType}
use denote.Ref.{NamedLft}
use denote.Param.Send.{IsSend, sendable}
use denote.Param.SendFields.{as_row_send, declared_send}
use Rattle.std.proofs.Crossing.{crosses}
use Rattle.fj_outside.specs.declared.outside.Disk as disk
use Rattle.fj_outside.specs.declared.outside.FileStore as files
use Rattle.fj_outside.specs.declared.outside.Sink as sink
use Rattle.fj_run_script.specs.contracts.stretch.Stretch as Stretch
use Rattle.fj_job.proofs.Sends.{machine_sends}

module _ (a b c : NamedLft) (W D F : RattleType) (gW : sink.Ghosts W.Denot) (gD : disk.Ghosts D.Denot F.Denot) (g : files.Ghosts F.Denot) where
  pub stretch_sends : IsSend W → IsSend D → IsSend F → IsSend (Stretch.the_row a b c W D F gW gD g)
  stretch_sends w d s = declared_send (Stretch.the_type a b c W D F gW gD g) (search (as_row_send, machine_sends, crosses, sendable) depth 12)
