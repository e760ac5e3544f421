-- Which pending transfers a statement waits for (ISO/IEC 1539-1:2004, 9.6), and how far it knows them told.
use Rattle.std.specs.Prelude.{◌≡◌, ℕ, ◌==◌, ◌&&◌, Bool, true, false, List, [], map, filter, take, Some, None, is_none}
use Rattle.fj_meaning.specs.State.{Entry, halts}
use Rattle.fj_meaning.specs.Telling.{of_unit, waited_by}
use Rattle.fj_meaning_turns.specs.Run.{Held as PlainHeld, known}
use Rattle.fj_meaning_turns.specs.Turns.{unsettled}
use Rattle.fj_run_pending.specs.declared.held.Held.{Held}
use Rattle.fj_run_pending.specs.Plain.{entry_of, entries}
use Rattle.fj_run_pending.specs.declared.whose.Whose.{Whose}
use Rattle.fj_run_pending.specs.declared.whose.Whose.TheVariants as whose
use Rattle.fj_run_pending.specs.declared.pick.Pick.{Pick}
use Rattle.fj_run_pending.specs.declared.pick.Pick.TheVariants as pick

abbrev pub waited_of : Whose → List Entry → List Entry
waited_of whose.None es = []
waited_of (whose.OfUnit u) es = of_unit es (Some u)
waited_of (whose.OfId u id) es = waited_by es (Some u) (Some id)
waited_of whose.All es = es

-- a wait by an identifier may come to be one for all of the unit
abbrev pub widest : Whose → Whose
widest (whose.OfId u id) = whose.OfUnit u
widest w = w

-- so many of the first ones have answers, as far as they are waited for however wide the wait gets
abbrev pub IsPassed : Whose → List PlainHeld → ℕ → Type 0
IsPassed w hs from = unsettled (waited_of (widest w) (map known hs)) (take from hs) ≡ None

-- ---- as the answers stand

abbrev pub picks : Pick → Held → Bool
picks pick.None h = false
picks (pick.OfUnit u) h = h.unit == u
picks (pick.One id) h = h.tag.0 == id
picks pick.All h = true

-- it is waited for, and has no answer
abbrev pub is_due : Pick → Held → Bool
is_due p h = picks p h && is_none h.answer

-- it is waited for, and its condition halted the unit
abbrev pub is_cause : Pick → ℕ → Held → Bool
is_cause p unit h = picks p h && ((h.unit == unit) && halts (entry_of h).condition)

-- more than one is picked: then all that are waited for however wide the wait gets
abbrev pub IsWide : List Entry → Pick → List Held → Type 0
IsWide es pick.None hs = Unit {0}
IsWide es (pick.OfUnit u) hs = es ≡ entries (filter (picks (pick.OfUnit u)) hs)
IsWide es (pick.One id) hs = Unit {0}
IsWide es pick.All hs = es ≡ entries (filter (picks pick.All) hs)
