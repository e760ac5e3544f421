-- Statements that call the disk themselves: to open a file, to close one, or to ask whether there is one (ISO/IEC 1539-1:2004, 9.4.5, 9.4.6,
-- 9.9).
use Rattle.std.specs.Prelude.{Bool, true, false, is_some}
use Rattle.fj_statement.specs.declared.statement.Statement.{Statement}
use Rattle.fj_statement.specs.declared.statement.Statement.TheVariants as statement
use Rattle.fj_meaning.specs.Statement.{file_asked}
use Rattle.fj_run_statements.specs.declared.doing.Then.{Then}
use Rattle.fj_run_statements.specs.declared.doing.Then.TheVariants as then
use Rattle.fj_run_statements.specs.declared.doing.Doing.{Doing}
use Rattle.fj_run_statements.specs.declared.doing.Doing.TheVariants as doing

-- OPEN, CLOSE, and END, which closes all units
abbrev pub may_close : Statement → Bool
may_close (statement.OpenUnit u spec iostat) = true
may_close (statement.CloseUnit u keep iostat) = true
may_close statement.End = true
may_close _ = false

-- these, and INQUIRE with FILE=
abbrev pub calls_disk : Statement → Bool
calls_disk (statement.Inquire about asked id iostat _) = is_some (file_asked about)
calls_disk what = may_close what

-- ---- a statement waits for the end of a connection only if it may close one

abbrev pub may_await : Statement → Then → Bool
may_await what (then.Closes number keep next) = may_close what
may_await what _ = true

abbrev pub may_do : {F : Type 0} → Statement → Doing F → Bool
may_do what (doing.Awaits slot job next) = may_await what next
may_do what _ = true
