-- The forms of the words behind the program's name.
use Rattle.std.specs.Prelude.{ℕ, true, false, List, [], ◌∷◌, length, codes, nat_le, Bool, Option, Some, None, option_and_then, if◌then◌else◌}
use Rattle.std.specs.Option.{option_map_or}
use Rattle.std.specs.Str.{bytes_eq}
use Rattle.clap.specs.Walk.{is_empty}
use Rattle.clap.specs.Words.{App, Row, Rule, Text, fault_of, first_of, matches_of, new_app, new_rule, with_rule}
use Rattle.clap.specs.Simple.{on_top}
use Rattle.clap.specs.declared.builder.ArgAction.TheVariants.{SetTrue}
use Rattle.fj_value.specs.Digits.{number_in}
use Rattle.fj_report.specs.declared.form.Form.{Form}
use Rattle.fj_report.specs.declared.form.Form.TheVariants.{Run, Alone, Check, Gen, Wrong}

-- ---- commands of `clap`

-- a command that is given the words behind its own, and has no flag for help
abbrev pub command_named : Text → App
command_named name = on_top (λ s. record s { no_binary_name = true; disable_help_flag = true }) (new_app name)

-- `--name value` and `--name=value`
abbrev pub option_named : Text → Rule
option_named name = record (new_rule name) { long = Some name }

-- `--name`
abbrev pub flag_named : Text → Rule
flag_named name = record (option_named name) { action = Some SetTrue }

-- without `--workers` there are four
abbrev pub workers_option : Rule
workers_option = record (option_named (codes "workers")) { defaults = codes "4" ∷ [] }

abbrev pub run_command : App
run_command = with_rule (with_rule (command_named (codes "run")) workers_option) (flag_named (codes "trace"))

abbrev pub alone_command : App
alone_command = with_rule (command_named (codes "alone")) (flag_named (codes "trace"))

abbrev pub check_command : App
check_command = command_named (codes "check")

abbrev pub gen_command : App
gen_command = with_rule (with_rule (with_rule (command_named (codes "gen")) (option_named (codes "seed"))) (option_named (codes "count"))) (flag_named (codes "text"))

abbrev pub poll_command : App
poll_command = with_rule (command_named (codes "poll")) workers_option

-- ---- what a command makes of words

-- a number of one to ten decimal digits that is not above `most`
unfoldable pub number_up_to : ℕ → Text → Option ℕ
number_up_to most text = if nat_le (length text) 10 then option_and_then (λ n. if nat_le n most then Some n else None) (number_in 10 text) else None

-- the number behind an option
abbrev pub number_behind : Text → ℕ → List Row → Option ℕ
number_behind name most rows = option_and_then (number_up_to most) (first_of name rows)

-- the flag is there, which makes its value `true`
abbrev pub has_flag : Text → List Row → Bool
has_flag name rows = option_map_or (λ value. bytes_eq value (codes "true")) (first_of name rows) false

-- ---- the forms

-- what the words give the options and flags of a command, where `clap` finds no fault with them
unfoldable pub given : App → List Text → Option (List Row)
given command words = if is_empty (fault_of command words) then Some (matches_of command words) else None

abbrev pub run_with : List Row → Form
run_with rows = option_map_or (λ workers. Run workers (has_flag (codes "trace") rows)) (number_behind (codes "workers") 64 rows) Wrong

abbrev pub alone_with : List Row → Form
alone_with rows = Alone (has_flag (codes "trace") rows)

abbrev pub gen_with : List Row → Form
gen_with rows =
    option_map_or (λ seed. option_map_or (λ count. Gen seed count (has_flag (codes "text") rows)) (number_behind (codes "count") 20000 rows) Wrong)
    (number_behind (codes "seed") 2147483647 rows) Wrong

-- the forms of the words behind the name of a command
unfoldable pub run_form : List Text → Form
run_form words = option_map_or run_with (given run_command words) Wrong

unfoldable pub alone_form : List Text → Form
alone_form words = option_map_or alone_with (given alone_command words) Wrong

unfoldable pub check_form : List Text → Form
check_form words = option_map_or (λ rows. Check) (given check_command words) Wrong

unfoldable pub gen_form : List Text → Form
gen_form words = option_map_or gen_with (given gen_command words) Wrong

-- the first word names a command, which takes the other words
unfoldable pub form_of : List Text → Form
form_of [] = Wrong
form_of (command ∷ words) =
    if bytes_eq command (codes "run") then run_form words
    else if bytes_eq command (codes "alone") then alone_form words
    else if bytes_eq command (codes "check") then check_form words
    else if bytes_eq command (codes "gen") then gen_form words
    else Wrong

-- the workers that the words behind `poll` ask for
unfoldable pub polled : List Text → Option ℕ
polled words = option_and_then (number_behind (codes "workers") 64) (given poll_command words)

-- of words for a run in which PENDING= is looked for
unfoldable pub polled_by : List Text → Option ℕ
polled_by [] = None
polled_by (command ∷ words) = if bytes_eq command (codes "poll") then polled words else None
