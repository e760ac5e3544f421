-- Stretches are one run: what stretches one after another come to, each up to a look, is what one run comes to of the deck in which other
-- statements stand in the places of those that looked.
use Rattle.std.specs.Prelude.{◌≡◌, ◌⊎◌, ℕ, Bool, true, List, [], ◌∷◌, ◌++◌, drop, Some, None, is_some, slice_set}
use Rattle.fj_slot.specs.Serving.{Meaning}
use Rattle.fj_world.specs.declared.ask.Ask.TheVariants.{Finished}
use Rattle.fj_world.specs.Losing.{before_ask, HasAsked}
use Rattle.fj_world.specs.Plain.{Plain, PlainSlot, asked_next, after}
use Rattle.fj_bay.specs.Bay.{Bay}
use Rattle.fj_bay.specs.Jobs.{Job, Answer}
use Rattle.fj_meaning.specs.Statement.{Stated}
use Rattle.fj_meaning_turns.specs.Passing.{passes}
use Rattle.fj_meaning_turns.specs.Run.{Run, Start}
use Rattle.fj_meaning_turns.specs.Serving.{over_bays, Shows, run_conduct}
use Rattle.fj_meaning_looks.specs.Looking.{stretch_conduct}

-- the same with these statements left
abbrev pub with_rest : List Stated → Run → Run
with_rest rest r = record r { rest = rest }

-- the deck ended, or no statement is left
abbrev pub IsOver : Run → Type 0
IsOver r = (is_some r.ending ≡ true) ⊎ (r.rest ≡ [])

-- it stands at a statement that looks, and nothing of that is done
pub record StandsAtLook (looks : Stated → Run → Bool) (r : Run) : Type 0 where
  pub statement : Stated
  pub behind : List Stated
  pub rest : r.rest ≡ statement ∷ behind
  pub looks_there : looks statement r ≡ true
  pub stage : r.stage ≡ Start
  pub ending : r.ending ≡ None

-- ---- the runner

module _ {E J A S : Type 0} (m : Meaning E J A Bay Job Answer) (s : Shows S) where
  -- after so many entries
  abbrev pub runs : ℕ → Run → List (PlainSlot Bay Job) → Plain Bay (run_conduct s)
  runs n r qs = after (over_bays m) (run_conduct s) n (asked_next (over_bays m) (run_conduct s) r qs)

  -- and before the ask of that number
  abbrev pub before : ℕ → Run → List (PlainSlot Bay Job) → Run × List (PlainSlot Bay Job)
  before n r qs = before_ask (over_bays m) (run_conduct s) n r qs

  -- After so many entries it asks what another run asks over these slots, to which it comes by passing statements.
  pub record Joins (n : ℕ) (r : Run) (qs : List (PlainSlot Bay Job)) (r' : Run) (qs' : List (PlainSlot Bay Job)) : Type 0 where
    pub asks : runs n r qs ≡ runs 0 r' qs'
    pub has_asked : HasAsked (over_bays m) (run_conduct s) n r qs
    pub count : ℕ
    pub passed : passes count (before n r qs).0 ≡ Some r'
    pub slots : (before n r qs).1 ≡ qs'

  -- these statements are gone, whatever is behind them
  abbrev pub Gone : List Stated → ℕ → Run → List (PlainSlot Bay Job) → Run → List (PlainSlot Bay Job) → Type 0
  Gone front n r qs r' qs' = (behind : List Stated) → Joins n (with_rest (front ++ behind) r) qs (with_rest behind r') qs'

  -- Between two stretches: of a deck, as it is put by now, some are gone, and the run is to go on with those left, over these slots.
  pub record Between (first : Run) (qs0 : List (PlainSlot Bay Job)) (deck : List Stated) (r : Run) (qs : List (PlainSlot Bay Job)) : Type 0 where
    pub front : List Stated
    pub whole : deck ≡ front ++ r.rest
    pub entries : ℕ
    pub gone : Gone front entries first qs0 r qs

module _ {E J A S : Type 0} (m : Meaning E J A Bay Job Answer) (s : Shows S) where
  -- before the first one nothing is gone
  abbrev pub StretchesBegin : Type 0
  StretchesBegin = (first : Run) (qs0 : List (PlainSlot Bay Job)) → Between m s first qs0 first.rest first qs0

-- ---- the one that stops at looks

module _ {E J A S : Type 0} (m : Meaning E J A Bay Job Answer) (s : Shows S) (looks : Stated → Run → Bool) where
  abbrev pub stretch : ℕ → Run → List (PlainSlot Bay Job) → Plain Bay (stretch_conduct looks s)
  stretch n r qs = after (over_bays m) (stretch_conduct looks s) n (asked_next (over_bays m) (stretch_conduct looks s) r qs)

  -- as of the runner itself
  abbrev pub as_run : Plain Bay (stretch_conduct looks s) → Plain Bay (run_conduct s)
  as_run x = record { script = x.script; hand = x.hand; slots = x.slots }

  -- it came to a look: the statements before it are gone, or it was there at first
  pub record ToLook (r : Run) (qs : List (PlainSlot Bay Job)) (x : Plain Bay (stretch_conduct looks s)) : Type 0 where
    pub finished : x.hand ≡ Finished
    pub look : StandsAtLook looks x.script
    pub front : List Stated
    pub rest : r.rest ≡ front ++ x.script.rest
    pub further : (x.script ≡ r) ⊎ ((first : Stated) × (others : List Stated) × (front ≡ first ∷ others))
    pub entries : ℕ
    pub gone : Gone m s front entries r qs x.script x.slots

  -- or it is the runner itself, and has finished only where the run is over
  pub record IsWhole (r : Run) (qs : List (PlainSlot Bay Job)) (n : ℕ) (x : Plain Bay (stretch_conduct looks s)) : Type 0 where
    pub same : runs m s n r qs ≡ as_run x
    pub over : x.hand ≡ Finished → IsOver x.script

  abbrev pub StretchGoesOn : Type 0
  StretchGoesOn = (r : Run) (qs : List (PlainSlot Bay Job)) (n : ℕ) → ToLook r qs (stretch n r qs) ⊎ IsWhole r qs n (stretch n r qs)

  -- A stretch that finished with statements left and no ending is at a look. Whatever statement is put in its place, the next stretch
  -- begins there, over the same slots.
  abbrev pub MarksGoOn : Type 0
  MarksGoOn = (first : Run) (qs0 : List (PlainSlot Bay Job)) (deck : List Stated) (r : Run) (qs : List (PlainSlot Bay Job)) → Between m s first qs0 deck r qs →
      (n place : ℕ) (st : Stated) (behind : List Stated) (mark : Stated) → let x = stretch n r qs in
      x.hand ≡ Finished → x.script.ending ≡ None → x.script.rest ≡ st ∷ behind → drop place deck ≡ st ∷ behind →
      let put = slice_set deck place mark in Between m s first qs0 put (with_rest (drop place put) x.script) x.slots

  -- it is at no look
  abbrev pub IsAtNone : Plain Bay (stretch_conduct looks s) → Type 0
  IsAtNone x = x.hand ≡ Finished → IsOver x.script

  -- Where the last one is at no look, all of them are the run of the deck.
  abbrev pub EndsAreWhole : Type 0
  EndsAreWhole = (first : Run) (qs0 : List (PlainSlot Bay Job)) (deck : List Stated) (r : Run) (qs : List (PlainSlot Bay Job)) → Between m s first qs0 deck r qs →
      (n : ℕ) → IsAtNone (stretch n r qs) → (entries : ℕ) × (runs m s entries (with_rest deck first) qs0 ≡ as_run (stretch n r qs))

  -- Before an ask of a stretch: the run of the deck comes there from before one of its own, by passing statements; and where that ask is
  -- at no look, it is the same.
  pub record Follows (first : Run) (qs0 : List (PlainSlot Bay Job)) (deck : List Stated) (r : Run) (qs : List (PlainSlot Bay Job)) (n : ℕ) : Type 0 where
    pub entries : ℕ
    pub has_asked : HasAsked (over_bays m) (run_conduct s) entries (with_rest deck first) qs0
    pub count : ℕ
    pub passed : passes count (before m s entries (with_rest deck first) qs0).0 ≡ Some (before_ask (over_bays m) (stretch_conduct looks s) n r qs).0
    pub slots : (before m s entries (with_rest deck first) qs0).1 ≡ (before_ask (over_bays m) (stretch_conduct looks s) n r qs).1
    pub asks : IsAtNone (stretch n r qs) → runs m s entries (with_rest deck first) qs0 ≡ as_run (stretch n r qs)

  abbrev pub AsksFollow : Type 0
  AsksFollow = (first : Run) (qs0 : List (PlainSlot Bay Job)) (deck : List Stated) (r : Run) (qs : List (PlainSlot Bay Job)) → Between m s first qs0 deck r qs →
      (n : ℕ) → HasAsked (over_bays m) (stretch_conduct looks s) n r qs → Follows first qs0 deck r qs n
