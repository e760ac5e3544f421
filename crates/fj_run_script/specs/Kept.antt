-- Which units have the files that are out, where a job is asked for, and where a run is over.
use Rattle.std.specs.Prelude.{◌≡◌, ◌≢◌, ℕ, true, false, List, [], ◌∷◌, Option, Some, None, option_map, Result, Err, IfOk, OnOk, OnErr}
use Rattle.fj_outside.specs.declared.outside.FileStore.{Ghosts}
use Rattle.fj_connect.specs.Linked.{Linked}
use Rattle.fj_bay.specs.declared.job.Job.{Job}
use Rattle.fj_meaning.specs.Statement.{Stated}
use Rattle.fj_meaning_jobs.specs.Core.{Connected}
use Rattle.fj_meaning_cut.specs.Others.{file_opened, names_of}
use Rattle.fj_run_items.specs.declared.lost.Lost.{Lost}
use Rattle.fj_run_items.specs.declared.lost.Lost.TheVariants.{Unfit}
use Rattle.fj_run_units.specs.Having.{HaveFiles}
use Rattle.fj_run_statements.specs.Having.{HaveBut, name_brought}
use Rattle.fj_run_script.specs.Going.{HaveAt, IsAt}
use Rattle.fj_run_script.specs.Machine.{rest_of}
use Rattle.fj_run_script.specs.declared.hand.Hand.TheVariants.{Idle}
use Rattle.fj_run_script.specs.declared.machine.Machine.{Machine}

-- the statement at hand opens that file
abbrev pub IsOpened : List Stated → List Connected → List ℕ → Type 0
IsOpened [] us name = ⊥
IsOpened (st ∷ more) us name = file_opened (names_of us) st.0.what ≡ Some name

-- The files that are out are those of the units, and that of a connection of which no unit has the file, if there is one: the statement at
-- hand opens it.
abbrev pub HaveKept : Option (List ℕ) → List (List ℕ) → List Connected → List Stated → Type 0
HaveKept None names us rest = HaveFiles names us
HaveKept (Some name) names us rest = HaveBut name names us × IsOpened rest us name

module _ {F : Type 0} {ghosts : Ghosts F} where
  -- beside that connection
  abbrev pub HaveKeptAt : Option (List ℕ) → Machine F ghosts → Type 0
  HaveKeptAt name m = HaveKept name m.state.core.names m.state.core.units (rest_of m)

  -- a job that is asked for
  abbrev pub MayKeep : Machine F ghosts → Job F → Type 0
  MayKeep m job = HaveKeptAt (name_brought job) m

  -- What follows of what is asked next: the machine is at a statement and asks for such; or it gave up, and the units have the files that are
  -- out. If the deck is sound, it fits.
  pub record Follows {X : Type 0} (Asks : X → Type 0) (Sound : Type 0) (result : Result X Lost) (m : Machine F ghosts) : Type 0 where
    pub on : OnOk result (IsAt m)
    pub asks : IfOk result Asks
    pub vain : OnErr result (HaveKeptAt None m)
    pub fits : Sound → result ≢ Err Unfit

  -- A call by which it is over: it gave up, and where that was in an ask it keeps nothing; or a stop was told.
  pub record KeepsFiles (m m' : Machine F ghosts) : Type 0 where
    pub given_up : m.tally.over ≡ false → m'.tally.over ≡ true → m'.tally.stopped ≡ false → HaveKeptAt (option_map (λ (c : Linked F). c.name) m'.kept) m'
    pub asked : m.tally.over ≡ false → m.tally.hand ≡ Idle → m'.kept ≡ None
    pub none : m.tally.over ≡ false → m'.tally.stopped ≡ true → m'.kept ≡ None
    pub stopped : m.tally.over ≡ false → m'.tally.stopped ≡ true → (st : Stated) (more : List Stated) → rest_of m' ≡ st ∷ more → HaveAt m'.state.stage m'.state.core.names m'.state.core.units st.0.what
