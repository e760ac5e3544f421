-- The lines of looks.
use Rattle.std.specs.Prelude.{ℕ, List}
use Rattle.std.specs.List.{flat_map}
use Rattle.fj_statement.specs.Units.{number_from_code}
use Rattle.fj_report.specs.Lines.{look_text}
use Rattle.fj_run_script.specs.declared.looking.Look.{Look}
use Rattle.fj_job.specs.Reply.{Lines}

abbrev pub line_of : Look → List ℕ
line_of l = look_text l.line (number_from_code l.unit) l.pending l.done

-- in their order, whatever was told
abbrev pub look_lines : List Look → Lines
look_lines looks tells = flat_map line_of looks
