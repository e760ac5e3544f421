-- The execution of a deck over desks: the statements one after another, each by jobs at slots.
use Rattle.std.specs.Prelude.{ℕ, ◌++◌, not, List, [], ◌∷◌, map, filter, Option, Some, None, slice_get}
use Rattle.fj_value.specs.Condition.{code_of}
use Rattle.fj_value.specs.declared.condition.Condition.{Condition}
use Rattle.fj_value.specs.declared.condition.Rule.{Rule}
use Rattle.fj_control.specs.Steps.{Given}
use Rattle.fj_connect.specs.Connection.{Connection}
use Rattle.fj_statement.specs.declared.deck.Variable.{Variable}
use Rattle.fj_statement.specs.declared.deck.Lined.{Lined}
use Rattle.fj_statement.specs.declared.statement.Statement.{Statement}
use Rattle.fj_book.specs.Prohibitions.{prohibited}
use Rattle.fj_meaning.specs.Needs.{need_by}
use Rattle.fj_meaning.specs.State.{State, Files, Entry, start}
use Rattle.fj_meaning.specs.State as plain
use Rattle.fj_meaning.specs.Telling.{waited_in, condition_of, with_inputs, tells_id, tell_of}
use Rattle.fj_meaning.specs.Transfers.{with_number}
use Rattle.fj_meaning.specs.Statement.{Stated, stated, Ending, begins, prohibition, iostat_of, new_place, next_new, with_new_unit, ends, Result}
use Rattle.fj_meaning_jobs.specs.Core.{Core, Pending, Connected, pending_holders, unit_named}
use Rattle.fj_meaning_jobs.specs.Desks.{Desk, entry_of, resumed, fresh_desks}
use Rattle.fj_meaning_jobs.specs.Doing.{Desked, acted}
use Rattle.fj_meaning_jobs.specs.Acting.{doing}

-- ---- one statement, in the same order as ever: prohibitions, tells with the halts that they end, its own jobs, definitions

-- the pending transfers with what became of them
abbrev pub entries : Desked → List Entry
entries p = map (entry_of p.desks) p.core.book

abbrev pub told_core : List Variable → ℕ → List Entry → Core → Core
told_core variables line told core = record core {
  vars = with_inputs variables told core.vars;
  book = filter (λ (e : Pending). not (tells_id told e.id)) core.book;
  tells = core.tells ++ map (tell_of line) told;
}

abbrev pub acts : (ℕ → List Given) → List Variable → ℕ → Statement → Desked → List Entry → Desked × Condition
acts control variables line st p told =
    acted (resumed told p.core.units p.desks) (doing control variables line (told_core variables line told p.core) st (condition_of told))

abbrev pub defined : List Variable → Statement → Condition → Core → Core
defined variables st condition core = record core {
  vars = with_number variables (iostat_of st) (code_of condition) (with_new_unit variables st condition core.new_unit core.vars);
  new_unit = next_new (new_place st condition) core.new_unit;
}

abbrev pub completed : List Variable → ℕ → Statement → Desked × Condition → Desked × Option Ending
completed variables line st done = (
  record { core = defined variables st done.1 done.0.core; desks = done.0.desks },
  ends line st done.1,
)

abbrev pub goes_on : (ℕ → List Given) → List Variable → ℕ → Statement → Desked → Option Rule → Desked × Option Ending
goes_on control variables line st p (Some rule) = (p, Some (prohibition line rule))
goes_on control variables line st p None = completed variables line st (acts control variables line st p (waited_in (entries p) p.core.vars st))

-- a statement as it begins
abbrev pub begun_at : Desked → Stated → Stated
begun_at p st = begins p.core.vars p.core.new_unit st

unfoldable pub desk_step : List Variable → Stated → Desked → Desked × Option Ending
desk_step variables st p =
    goes_on st.1 variables st.0.line st.0.what p (prohibited p.core.vars (pending_holders p.core.book) (need_by variables p.core.vars (unit_named p.core.units) st.0.what))

-- ---- a deck

pub record DesksRan : Type 0 where
  pub desked : Desked
  pub ending : Option Ending

abbrev pub over_desks : List Variable → List Stated → Desked → DesksRan
over_desks variables [] p = record { desked = p; ending = None }
over_desks variables (st ∷ more) p =
    let done = desk_step variables (begun_at p st) p in
    elim done.1 as (λ _. DesksRan) [
      | None ↦ over_desks variables more done.0
      | Some e ↦ record { desked = done.0; ending = Some e }
    ]

abbrev pub fresh : List Variable → Files → Desked
fresh variables files = let s = start variables files in
    record { core = record { vars = s.vars; book = []; units = []; files = s.files; output = s.output; next = s.next; new_unit = s.new_unit; tells = s.tells }; desks = fresh_desks }

-- at the end the files of the connections are among the others again
abbrev pub connection_at : Option Desk → Option Connection
connection_at None = None
connection_at (Some d) = d.bay.connection

abbrev pub left_by : Option Connection → Files → Files
left_by None files = files
left_by (Some c) files = plain.left c (not c.modes.scratch) files

abbrev pub all_left : List Desk → List Connected → Files → Files
all_left desks [] files = files
all_left desks (u ∷ us) files = all_left desks us (left_by (connection_at (slice_get desks u.slot)) files)

abbrev pub desk_result : DesksRan → Result
desk_result r = record {
  ending = r.ending;
  output = r.desked.core.output;
  tells = r.desked.core.tells;
  vars = r.desked.core.vars;
  files = all_left r.desked.desks r.desked.core.units r.desked.core.files;
}

abbrev pub desk_execution : List Variable → List Stated → Files → Result
desk_execution variables sts files = desk_result (over_desks variables sts (fresh variables files))

abbrev pub execution_over_desks : List Variable → List Lined → Files → Result
execution_over_desks variables statements files = desk_execution variables (stated statements) files
