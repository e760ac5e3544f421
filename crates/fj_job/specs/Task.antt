-- What the words ask for.
use Rattle.std.specs.Prelude.{List, map, String, string_bytes}
use Rattle.fj_report.specs.Words.{form_of}
use Rattle.fj_report.specs.declared.form.Form.{Form}
use Rattle.fj_report.specs.declared.form.Form.TheVariants as form
use Rattle.fj_job.specs.declared.task.Task.{Task}
use Rattle.fj_job.specs.declared.task.Task.TheVariants.{Refuse, Check, Execute, Generate}

abbrev pub task_of : Form → Task
task_of (form.Run workers trace) = Execute workers trace
task_of (form.Alone trace) = Execute 0 trace
task_of form.Check = Check
task_of (form.Gen seed count text) = Generate seed count text
task_of form.Wrong = Refuse

-- where no worker may be started
abbrev pub alone_task : Form → Task
alone_task (form.Run workers trace) = Refuse
alone_task form = task_of form

-- what words ask of a run with workers
abbrev pub asked : {Z : Type 0} → List (String Z) → Task
asked words = task_of (form_of (map string_bytes words))

-- what they ask of a run on one thread
abbrev pub asked_alone : {Z : Type 0} → List (String Z) → Task
asked_alone words = alone_task (form_of (map string_bytes words))
