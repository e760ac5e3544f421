-- How the parts of what is kept of pending transfers hang together.
use Rattle.std.specs.Prelude.{◌≡◌, ℕ, ◌<◌, ◌≤◌, min, max, true, List, [], ◌∷◌, length, All, AllPairs, get_or, slice_set, is_some}
use Rattle.fj_value.specs.declared.place.Place.{Place}
use Rattle.fj_store.specs.Places.{is_among, places_in}
use Rattle.fj_book.specs.declared.pending.Pending.{Pending}
use Rattle.fj_meaning_jobs.specs.Desks.{most_slots}
use Rattle.fj_run_pending.specs.declared.busy.Busy.{Busy}
use Rattle.fj_run_pending.specs.declared.held.Held.{Held}
use Rattle.fj_run_pending.specs.declared.mark.Mark.{Mark}
use Rattle.fj_run_pending.specs.Busy.{AreBusy}

abbrev pub IsAscending : List Held → Type 0
IsAscending hs = AllPairs (λ (a b : Held). a.tag.0 < b.tag.0) hs

-- at a slot the numbers of jobs rise
abbrev pub IsRising : List Held → Type 0
IsRising hs = AllPairs (λ (a b : Held). a.slot ≡ b.slot → a.number < b.number) hs

abbrev pub no_mark : Mark
no_mark = record { passed = 0; reached = 0; most = 0 }

abbrev pub mark_at : List Mark → ℕ → Mark
mark_at marks slot = get_or marks slot no_mark

-- the mark of its slot is true of a transfer
pub record IsMarked (marks : List Mark) (h : Held) : Type 0 where
  pub slot : h.slot < length marks
  pub passed : h.tag.0 < (mark_at marks h.slot).passed → is_some h.answer ≡ true
  pub reached : is_some h.answer ≡ true → h.number ≤ (mark_at marks h.slot).reached
  pub most : h.number ≤ (mark_at marks h.slot).most

-- one more is entered at its slot
abbrev pub entered_marks : List Mark → Held → List Mark
entered_marks marks h = let mark = mark_at marks h.slot in slice_set marks h.slot (record { passed = min mark.passed h.tag.0; reached = mark.reached; most = max mark.most h.number })

-- the one of a number at a slot has an answer
abbrev pub answered_marks : List Mark → ℕ → ℕ → List Mark
answered_marks marks slot number = let mark = mark_at marks slot in slice_set marks slot (record mark { reached = max mark.reached number })

-- the book has a transfer with the same places
pub record IsSame (e : Pending) (h : Held) : Type 0 where
  pub tag : e.tag.0 ≡ h.tag.0
  pub unit : e.unit ≡ h.unit
  pub input : e.input ≡ h.input
  pub places : (p : Place) → is_among e.places p ≡ is_among (places_in h.runs) p

abbrev pub AreSame : List Pending → List Held → Type 0
AreSame [] [] = Unit {0}
AreSame (e ∷ es) (h ∷ hs) = IsSame e h × AreSame es hs
AreSame es hs = ⊥

pub record IsTied (hs : List Held) (book : List Pending) (marks : List Mark) (units : List Busy) : Type 0 where
  pub ascending : IsAscending hs
  pub rising : IsRising hs
  pub same : AreSame book hs
  pub slots : length marks ≡ most_slots
  pub marked : All (IsMarked marks) hs
  pub busy : AreBusy units hs
