-- What the pending transfers of a run are as plain data.
use Rattle.std.specs.Prelude.{List, [], map, Option}
use Rattle.std.specs.Option.{option_map, option_map_or}
use Rattle.fj_value.specs.declared.value.Cell.{Cell}
use Rattle.fj_moved.specs.declared.moved.Moved.{Moved}
use Rattle.fj_book.specs.Prohibitions.{Holder}
use Rattle.fj_store.specs.Places.{places_in}
use Rattle.fj_meaning.specs.State.{Entry, Tell as PlainTell}
use Rattle.fj_meaning_jobs.specs.Core.{Pending, pending_holders}
use Rattle.fj_meaning_jobs.specs.Desks.{Brought}
use Rattle.fj_meaning_turns.specs.Run.{Held as PlainHeld, known}
use Rattle.fj_run_pending.specs.declared.held.Held.{Held}
use Rattle.fj_run_pending.specs.declared.held.Told.{Told}
use Rattle.fj_run_pending.specs.declared.tell.Tell.{Tell}

-- the items of a job, where it was a transfer
abbrev pub cells_of : Option Moved → List Cell
cells_of moved = option_map_or (λ (m : Moved). m.cells) moved []

-- what the job of a transfer brought
abbrev pub brought_of : Told → Brought
brought_of it = record { cells = cells_of it.moved; count = it.count; condition = it.condition }

abbrev pub pending_of : Held → Pending
pending_of h = record { id = h.tag.0; unit = h.unit; input = h.input; places = places_in h.runs; size = h.size; slot = h.slot; number = h.number }

abbrev pub held_of : Held → PlainHeld
held_of h = record { pending = pending_of h; answer = option_map brought_of h.answer }

abbrev pub held : List Held → List PlainHeld
held hs = map held_of hs

-- with what is known of it
abbrev pub entry_of : Held → Entry
entry_of h = known (held_of h)

abbrev pub entries : List Held → List Entry
entries hs = map known (held hs)

-- as prohibitions see them
abbrev pub holders : List Held → List Holder
holders hs = pending_holders (map pending_of hs)

abbrev pub tell_of : Tell → PlainTell
tell_of t = record { line = t.line; unit = t.unit; id = t.id; condition = t.condition }

abbrev pub tells_of : List Tell → List PlainTell
tells_of ts = map tell_of ts
