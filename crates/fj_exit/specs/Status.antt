-- How the program ends.
use Rattle.std.specs.Prelude.{ℕ}
use Rattle.fj_report.specs.declared.status.Status.{Status}
use Rattle.fj_report.specs.declared.status.Status.TheVariants.{Ended, ErrorStop, Prohibited, DeckRefused, Usage, ReadFault, WriteFault, DiskFault, Memory}

-- the exit status of each answer
abbrev pub exit_status_of : Status → ℕ
exit_status_of Ended = 0
exit_status_of (ErrorStop stmt code) = 2
exit_status_of (Prohibited stmt rule) = 3
exit_status_of (DeckRefused line reason) = 4
exit_status_of Usage = 5
exit_status_of ReadFault = 6
exit_status_of WriteFault = 7
exit_status_of (DiskFault stmt) = 8
exit_status_of Memory = 9
