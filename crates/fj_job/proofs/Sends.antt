-- The script of a run may go to another thread, where the sink, the disk and the disk's files may.
-- A type that holds a format, or much else, is past the limits of one `search`. So each such type has a lemma here, from those of its parts.
use denote.RattleType.{RattleType}
use denote.Ref.{NamedLft}
use denote.Param.Send.{IsSend, IsSync, view_send, sendable}
use denote.Param.SendFields.{as_row_send, declared_send, variants_send}
use Rattle.std.proofs.Crossing.{crosses}
use Rattle.fj_bay.proofs.Sends.{text_sends, items_sends, value_sends, value_sync, elements_sends, file_name_sends, modes_sends, format_sends, load_sends, answer_sends, connection_sends, job_sends}
use Rattle.fj_job.proofs.RunsSend.{runs_sends}
use Rattle.fj_moved.specs.declared.elements.Element as element
use Rattle.fj_outside.specs.declared.outside.Disk as disk
use Rattle.fj_outside.specs.declared.outside.FileStore as files
use Rattle.fj_outside.specs.declared.outside.Sink as sink
use Rattle.fj_modes.specs.contracts.asked.Question as Question
use Rattle.fj_modes.specs.contracts.asked.Wanted as Wanted
use Rattle.fj_modes.specs.contracts.specifiers.OpenSpec as OpenSpec
use Rattle.fj_statement.specs.contracts.deck.Deck as Deck
use Rattle.fj_statement.specs.contracts.deck.Lined as Lined
use Rattle.fj_statement.specs.contracts.deck.Variable as Variable
use Rattle.fj_statement.specs.contracts.statement.Control as Control
use Rattle.fj_statement.specs.contracts.statement.Operand as Operand
use Rattle.fj_statement.specs.contracts.statement.Statement as Statement
use Rattle.fj_statement.specs.contracts.statement.Transfer as Transfer
use Rattle.fj_store.specs.contracts.slot.Mark as PlaceMark
use Rattle.fj_store.specs.contracts.slots.Slots as Slots
use Rattle.fj_store.specs.contracts.slots.Slots.TheInside as SlotsInside
use Rattle.fj_store.specs.contracts.store.Store as Store
use Rattle.fj_store.specs.contracts.table.Table as Table
use Rattle.fj_book.specs.contracts.book.Book as Book
use Rattle.fj_book.specs.contracts.pending.Pending as Pending
use Rattle.fj_book.specs.contracts.pending.Places as Places
use Rattle.fj_run_pending.specs.contracts.held.Held as Held
use Rattle.fj_run_pending.specs.contracts.held.Told as Told
use Rattle.fj_run_pending.specs.contracts.mark.Mark as Mark
use Rattle.fj_run_pending.specs.contracts.pendings.Pendings as Pendings
use Rattle.fj_run_pending.specs.contracts.tell.Tell as Tell
use Rattle.fj_run_items.specs.contracts.star.Output as Output
use Rattle.fj_run_units.specs.contracts.names.Names as Names
use Rattle.fj_run_units.specs.contracts.connected.Connected as Connected
use Rattle.fj_run_units.specs.contracts.units.Units as Units
use Rattle.fj_run_statements.specs.contracts.doing.Given as Given
use Rattle.fj_run_statements.specs.contracts.doing.Then as Then
use Rattle.fj_run_statements.specs.contracts.state.Core as Core
use Rattle.fj_run_script.specs.contracts.ending.Ending as Ending
use Rattle.fj_run_script.specs.contracts.looking.Look as Look
use Rattle.fj_run_script.specs.contracts.machine.Machine as Machine
use Rattle.fj_run_script.specs.contracts.script.Runner as Runner
use Rattle.fj_run_script.specs.contracts.stage.Stage as Stage
use Rattle.fj_run_script.specs.contracts.state.State as State
use Rattle.fj_run_script.specs.contracts.tally.Tally as Tally

-- ---- statements
operand_sends : IsSend Operand.the_row
operand_sends = variants_send Operand.enum (search (as_row_send, value_sends, crosses, sendable) depth 20)

control_sends : IsSend Control.the_row
control_sends = variants_send Control.enum (search (as_row_send, format_sends, text_sends, items_sends, crosses, sendable) depth 20)

transfer_sends : IsSend Transfer.the_row
transfer_sends = declared_send Transfer.the_type (search (as_row_send, control_sends, operand_sends, items_sends, crosses, sendable) depth 20)

open_spec_sends : IsSend OpenSpec.the_row
open_spec_sends = declared_send OpenSpec.the_type (search (as_row_send, file_name_sends, crosses, sendable) depth 20)

question_sends : IsSend Question.the_row
question_sends = variants_send Question.enum (search (crosses, sendable) depth 40)

wanted_sends : IsSend Wanted.the_row
wanted_sends = declared_send Wanted.the_type (search (as_row_send, question_sends, crosses, sendable) depth 20)

statement_sends : IsSend Statement.the_row
statement_sends = variants_send Statement.enum (search (as_row_send, operand_sends, open_spec_sends, file_name_sends, wanted_sends, items_sends, transfer_sends, crosses, sendable) depth 20)

lined_sends : IsSend Lined.the_row
lined_sends = declared_send Lined.the_type (search (as_row_send, statement_sends, crosses, sendable) depth 20)

variable_sends : IsSend Variable.the_row
variable_sends = declared_send Variable.the_type (search (as_row_send, text_sends, crosses, sendable) depth 20)

deck_sends : IsSend Deck.the_row
deck_sends = declared_send Deck.the_type (search (as_row_send, variable_sends, lined_sends, items_sends, crosses, sendable) depth 20)

-- ---- what a run keeps
table_sends : (T : RattleType) (g : element.Ghosts T.Denot) → IsSend T → IsSync T → IsSend (Table.the_row T g)
table_sends T g s y = search (elements_sends, crosses, sendable) depth 20

place_mark_sends : IsSend PlaceMark.the_row
place_mark_sends = variants_send PlaceMark.enum (search (as_row_send, crosses, sendable) depth 20)

place_mark_sync : IsSync PlaceMark.the_row
place_mark_sync = search (crosses, sendable) depth 20

inside_slots_sends : IsSend SlotsInside.the_row
inside_slots_sends = declared_send SlotsInside.the_type (search (as_row_send, place_mark_sends, place_mark_sync, value_sends, value_sync, table_sends, crosses, sendable) depth 20)

slots_sends : IsSend Slots.the_row
slots_sends = view_send _ _ _ _ _ inside_slots_sends

store_sends : IsSend Store.the_row
store_sends = search (slots_sends, crosses, sendable) depth 20

places_sends : IsSend Places.the_row
places_sends = search (runs_sends, crosses, sendable) depth 20

pending_sends : IsSend Pending.the_row
pending_sends = declared_send Pending.the_type (search (as_row_send, places_sends, crosses, sendable) depth 20)

book_sends : IsSend Book.the_row
book_sends = search (pending_sends, table_sends, crosses, sendable) depth 20

connected_sends : IsSend Connected.the_row
connected_sends = declared_send Connected.the_type (search (as_row_send, file_name_sends, modes_sends, crosses, sendable) depth 20)

units_sends : IsSend Units.the_row
units_sends = search (connected_sends, crosses, sendable) depth 20

names_sends : IsSend Names.the_row
names_sends = search (file_name_sends, crosses, sendable) depth 20

output_sends : IsSend Output.the_row
output_sends = search (text_sends, crosses, sendable) depth 20

tell_sends : IsSend Tell.the_row
tell_sends = declared_send Tell.the_type (search (as_row_send, crosses, sendable) depth 20)

told_sends : IsSend Told.the_row
told_sends = declared_send Told.the_type (search (as_row_send, load_sends, crosses, sendable) depth 20)

held_sends : IsSend Held.the_row
held_sends = declared_send Held.the_type (search (as_row_send, told_sends, runs_sends, crosses, sendable) depth 20)

mark_sends : IsSend Mark.the_row
mark_sends = declared_send Mark.the_type (search (as_row_send, crosses, sendable) depth 20)

pendings_sends : IsSend Pendings.the_row
pendings_sends = search (held_sends, book_sends, mark_sends, crosses, sendable) depth 20

core_sends : IsSend Core.the_row
core_sends = declared_send Core.the_type (search (as_row_send, store_sends, pendings_sends, units_sends, output_sends, tell_sends, items_sends, names_sends, crosses, sendable) depth 20)

-- ---- what a machine holds beside
given_sends : IsSend Given.the_row
given_sends = variants_send Given.enum (search (as_row_send, crosses, sendable) depth 20)

then_sends : IsSend Then.the_row
then_sends = variants_send Then.enum (search (as_row_send, connected_sends, modes_sends, crosses, sendable) depth 20)

ending_sends : IsSend Ending.the_row
ending_sends = variants_send Ending.enum (search (as_row_send, crosses, sendable) depth 20)

tally_sends : IsSend Tally.the_row
tally_sends = declared_send Tally.the_type (search (as_row_send, crosses, sendable) depth 20)

look_sends : IsSend Look.the_row
look_sends = declared_send Look.the_type (search (as_row_send, crosses, sendable) depth 20)

-- ---- over files
module _ (F : RattleType) (g : files.Ghosts F.Denot) (s : IsSend F) where
  stage_sends : IsSend (Stage.the_row F g)
  stage_sends = variants_send (Stage.enum F g) (search (as_row_send, given_sends, then_sends, job_sends, answer_sends, items_sends, crosses, sendable) depth 20)

  state_sends : IsSend (State.the_row F g)
  state_sends = declared_send (State.the_type F g) (search (as_row_send, core_sends, stage_sends, ending_sends, crosses, sendable) depth 20)

  pub machine_sends : IsSend (Machine.the_row F g)
  machine_sends = declared_send (Machine.the_type F g) (search (as_row_send, deck_sends, state_sends, tally_sends, connection_sends, look_sends, crosses, sendable) depth 20)

module _ (a b c : NamedLft) (W D F : RattleType) (gW : sink.Ghosts W.Denot) (gD : disk.Ghosts D.Denot F.Denot) (g : files.Ghosts F.Denot) where
  pub runner_sends : IsSend W → IsSend D → IsSend F → IsSend (Runner.the_row a b c W D F gW gD g)
  runner_sends w d s = declared_send (Runner.the_type a b c W D F gW gD g) (search (as_row_send, machine_sends, crosses, sendable) depth 12)
