use Rattle.clap.specs.Words.{found_of}
use Rattle.fj_report.proofs.GivenLemmas.{flag_none, flag_some}
use Rattle.fj_report.proofs.given.has_flag.Goals as goal

pub returns-in-Some : goal.returns-in-Some
returns-in-Some c = flag_some (found_of c.args.matches.now) c.args.name.now c.in-Some.value.now _ c.in-Some.ensures c.eq.ensures

pub returns-in-None : goal.returns-in-None
returns-in-None c = flag_none (found_of c.args.matches.now) c.args.name.now c.in-None.ensures
