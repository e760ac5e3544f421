-- A deck as looks have put it (own): each INQUIRE that looked knows whether the transfers are done that PENDING= asks about, and its look is right.
use Rattle.std.specs.Option.{option_map_or}
use Rattle.std.specs.Prelude.{◌≡◌, ℕ, ◌+◌, ◌<◌, ◌≤◌, nat_lt, not, List, [], ◌∷◌, length, Some, slice_get}
use Rattle.fj_statement.specs.Units.{looked}
use Rattle.fj_statement.specs.declared.deck.Lined.{Lined}
use Rattle.fj_statement.specs.declared.deck.Deck.{Deck}
use Rattle.fj_meaning.specs.State.{Files}
use Rattle.fj_meaning.specs.Statement.{Stated, stated, control_by}
use Rattle.fj_meaning_jobs.specs.Desks.{Desk}
use Rattle.fj_meaning_jobs.specs.Doing.{Desked}
use Rattle.fj_meaning_jobs.specs.Desking.{begun_at, fresh}
use Rattle.fj_meaning_turns.specs.Inside.{cut_desks}
use Rattle.fj_meaning_cut.specs.Stopping.{WasAwaited}
use Rattle.fj_meaning_looks.specs.Inquiring.{Question, looks_for}
use Rattle.fj_run_script.specs.declared.looking.Look.{Look}

-- the statement that a look was told
abbrev pub told_by : Look → Lined → Lined
told_by l lined = record lined { what = looked l.unit (not l.pending) lined.what }

-- The execution of the deck, as it is put, comes to that place, and this statement would look there.
pub record Asks (put : Deck) (files : Files) (place : ℕ) (lined : Lined) : Type 0 where
  pub statement : Stated
  pub before : Desked
  pub there : cut_desks put.variables place (stated put.statements) (fresh put.variables files) ≡ Some (statement, before)
  pub question : Question
  pub asks : looks_for put.variables (begun_at before (lined, control_by lined.what)) before.core ≡ Some question

-- how many jobs a slot was given; none where there is no such slot
abbrev pub given_at : List Desk → ℕ → ℕ
given_at desks slot = option_map_or (λ (d : Desk). length d.log) (slice_get desks slot) 0

-- A look is right: so many jobs of the unit's slot may have been done there, all that earlier statements wait for among them, and
-- none that was not given; and the transfers that it asks about are pending just where the last one is not among these.
pub record IsRight (put : Deck) (files : Files) (place : ℕ) (lined : Lined) (l : Look) : Type 0 where
  pub asks : Asks put files place lined
  pub unit : l.unit ≡ asks.question.unit
  pub answer : l.pending ≡ not (nat_lt asks.question.last l.done)
  pub told : (number : ℕ) → WasAwaited put.variables (stated put.statements) files place asks.question.slot number → number < l.done
  pub given : l.done ≤ given_at asks.before.desks asks.question.slot

-- it is one at the statement of a place of the deck
pub record IsLook (deck put : Deck) (files : Files) (place : ℕ) (l : Look) : Type 0 where
  pub lined : Lined
  pub is : slice_get deck.statements place ≡ Some lined
  pub put_is : slice_get put.statements place ≡ Some (told_by l lined)
  pub line : l.line ≡ lined.line
  pub right : IsRight put files place lined l

-- the statements from one place on, up to another, are as they were
abbrev pub AreSame : Deck → Deck → ℕ → ℕ → Type 0
AreSame deck put from to = (place : ℕ) → from ≤ place → place < to → slice_get put.statements place ≡ slice_get deck.statements place

-- looks in the order of their places, from one on; all other statements are as they were
abbrev pub AreLooks : Deck → Deck → Files → ℕ → List Look → Type 0
AreLooks deck put files from [] = AreSame deck put from (length deck.statements)
AreLooks deck put files from (l ∷ ls) = (place : ℕ) × (from ≤ place) × AreSame deck put from place × IsLook deck put files place l × AreLooks deck put files (place + 1) ls

pub record IsPut (deck put : Deck) (files : Files) (looks : List Look) : Type 0 where
  pub variables : put.variables ≡ deck.variables
  pub groups : put.groups ≡ deck.groups
  pub long : length put.statements ≡ length deck.statements
  pub are : AreLooks deck put files 0 looks

-- no statement before that place, to which the execution comes, looks any more
abbrev pub NoneLooksBefore : Deck → Files → ℕ → Type 0
NoneLooksBefore put files place = (index : ℕ) (lined : Lined) → index < place → slice_get put.statements index ≡ Some lined → Asks put files index lined → ⊥

-- none at all does
abbrev pub NoneLooks : Deck → Files → Type 0
NoneLooks put files = (place : ℕ) (lined : Lined) → slice_get put.statements place ≡ Some lined → Asks put files place lined → ⊥
