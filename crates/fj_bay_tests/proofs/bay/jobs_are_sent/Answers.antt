use denote.Exit.{no}
use denote.Param.Send.{param_send, arg_send}
use Rattle.fj_bay.proofs.Sends.{job_sends}
use Rattle.fj_bay_tests.proofs.bay.jobs_are_sent.Goals as goal

pub sent-requires-send-T : goal.sent-requires-send-T
sent-requires-send-T g c κs within = param_send 0 _ (arg_send _ no _ (job_sends _ _ c.type_bounds.send-F))
