-- The connection of a job that is refused, and the files that are out beside it.
use Rattle.std.proofs.Common.{◌≡◌, ℕ, true, false, List, [], ◌∷◌, Option, Some, None, IsSome, refl, ap, ◌∙◌, subst, sym}
use Rattle.std.specs.Prelude.{◌≢◌, option_and_then, option_map, Result, Ok, Err}
use Rattle.std.proofs.Props.{props}
use Rattle.fj_outside.specs.declared.outside.FileStore.{Ghosts}
use Rattle.fj_modes.specs.declared.specifiers.OpenSpec.{OpenSpec}
use Rattle.fj_statement.specs.declared.statement.Statement.{Statement}
use Rattle.fj_statement.specs.declared.statement.Statement.TheVariants as statement
use Rattle.fj_connect.specs.Linked.{Linked}
use Rattle.fj_bay.specs.declared.job.Job.{Job}
use Rattle.fj_bay.specs.declared.job.Job.TheVariants as job
use Rattle.fj_meaning.specs.Connecting.{file_due}
use Rattle.fj_meaning.specs.Needs.{number_of}
use Rattle.fj_meaning.specs.Statement.{Stated}
use Rattle.fj_meaning_jobs.specs.Core.{Connected, connected_at}
use Rattle.fj_meaning_cut.specs.Others.{file_opened, names_of, opens_on}
use Rattle.fj_world.specs.Giving.{GivesOf}
use Rattle.fj_world.specs.declared.ask.Ask.{Ask}
use Rattle.fj_world.specs.declared.ask.Ask.TheVariants as ask
use Rattle.fj_run_items.specs.declared.lost.Lost.{Lost}
use Rattle.fj_run_items.specs.declared.lost.Lost.TheVariants.{Unfit}
use Rattle.fj_run_units.specs.Having.{Differ, HaveFiles, same_file}
use Rattle.fj_run_statements.specs.Having.{HaveBeside, HaveThen, IsFreeNext, IsToOpen, name_brought}
use Rattle.fj_run_statements.specs.declared.doing.After.{After}
use Rattle.fj_run_statements.specs.declared.doing.After.TheVariants as after
use Rattle.fj_run_statements.specs.declared.doing.Then.{Then}
use Rattle.fj_run_statements.specs.declared.doing.Then.TheVariants as then
use Rattle.fj_run_script.specs.Going.{HaveAsked, HaveAt, IsAt}
use Rattle.fj_run_script.specs.Kept.{Follows, HaveKept, HaveKeptAt, IsOpened, MayKeep}
use Rattle.fj_run_script.specs.Machine.{rest_of}
use Rattle.fj_run_script.specs.Refused.{brought}
use Rattle.fj_run_script.specs.declared.machine.Machine.{Machine}
use Rattle.fj_run_script.specs.declared.stage.Stage.{Stage}
use Rattle.fj_run_script.specs.declared.stage.Stage.TheVariants as stage
use Rattle.fj_run_script.specs.declared.state.State.{State}
use Rattle.fj_run_script.proofs.AtHand.{rest_same}
use Rattle.fj_run_script.proofs.GivingUp.{lost_is}
use Rattle.fj_run_script.proofs.Tallies.{not_both}

-- ---- a job that is asked for

opened_by : (us : List Connected) (spec : OpenSpec) (name : List ℕ) (o : Option ℕ) → option_map (file_due spec) o ≡ Some name → option_and_then (connected_at us) o ≡ None
    → option_and_then (λ n. opens_on (names_of us n) spec n) o ≡ Some name
opened_by us spec name None due none = absurd (let bad : ⊥ = cc in bad)
opened_by us spec name (Some n) due none = ap (λ c. opens_on (option_map (λ (u : Connected). u.name) c) spec n) none ∙ due

opens_file : (what : Statement) (us : List Connected) (name : List ℕ) → IsToOpen what us name → file_opened (names_of us) what ≡ Some name
opens_file (statement.OpenUnit u spec iostat) us name opens = opened_by us spec name (number_of u) opens.0 opens.1
opens_file (statement.Assign to from) us name opens = absurd opens
opens_file (statement.CloseUnit u keep iostat) us name opens = absurd opens
opens_file (statement.WaitFor u id iostat) us name opens = absurd opens
opens_file (statement.Move how u iostat) us name opens = absurd opens
opens_file (statement.Inquire about asked id iostat _) us name opens = absurd opens
opens_file (statement.Transfer t) us name opens = absurd opens
opens_file statement.End us name opens = absurd opens

beside_kept : (o : Option (List ℕ)) (names : List (List ℕ)) (us : List Connected) (st : Stated) (more : List Stated) → HaveBeside o names us st.0.what → HaveKept o names us (st ∷ more)
beside_kept None names us st more have = have
beside_kept (Some name) names us st more have = (have.0, opens_file st.0.what us name have.1)

module _ {F : Type 0} {ghosts : Ghosts F} (m : Machine F ghosts) where
  pub gives_asked : (a : Ask (Job F)) (st : Stated) (more : List Stated) → rest_of m ≡ st ∷ more → HaveAsked a m.state.core.names m.state.core.units st.0.what → GivesOf MayKeep m a
  gives_asked (ask.Submit slot given) st more here have =
      subst (HaveKept (name_brought given) m.state.core.names m.state.core.units) (sym here) (beside_kept (name_brought given) m.state.core.names m.state.core.units st more have)
  gives_asked (ask.Settle slot) st more here have = tt
  gives_asked ask.Finished st more here have = tt

-- ---- what follows

-- something is asked, or nothing yet
pub follows_ok : {F X : Type 0} {ghosts : Ghosts F} → (Asks : X → Type 0) (Sound : Type 0) (result : Result X Lost) (m : Machine F ghosts) (x : X) → result ≡ Ok x → Follows Asks Sound result m → IsAt m × Asks x
follows_ok {F} {X} {ghosts} Asks Sound result m x is f = let g = subst (λ r. Follows Asks Sound r m) is f in (g.on, g.asks)

pub asks_on : {F X : Type 0} {ghosts : Ghosts F} → (Asks : X → Type 0) (Sound : Type 0) (m : Machine F ghosts) (x : X) → IsAt m → Asks x → Follows Asks Sound (Ok x) m
asks_on Asks Sound m x on asks = record { on = on; asks = asks; vain = tt; fits = λ sound e. let bad : ⊥ = cc in bad }

-- it gave up
pub gave_up : {F X : Type 0} {ghosts : Ghosts F} → (Asks : X → Type 0) (Sound : Type 0) (m : Machine F ghosts) (lost : Lost) → HaveFiles m.state.core.names m.state.core.units → (Sound → lost ≢ Unfit)
    → Follows Asks Sound (Err lost) m
gave_up Asks Sound m lost have fits = record { on = tt; asks = tt; vain = have; fits = λ sound e. fits sound (lost_is e) }

pub follows_err : {F X Y : Type 0} {ghosts : Ghosts F} → (Asks : X → Type 0) (Other : Y → Type 0) (Sound Same : Type 0) (result : Result X Lost) (m : Machine F ghosts) (lost : Lost) → result ≡ Err lost → (Same → Sound)
    → Follows Asks Sound result m → Follows Other Same (Err lost) m
follows_err Asks Other Sound Same result m lost is same f =
    let g = subst (λ r. Follows Asks Sound r m) is f in
    gave_up Other Same m lost g.vain (λ sound e. g.fits (same sound) (ap Err e))

pub follows_by : {F X : Type 0} {ghosts : Ghosts F} → (Asks : X → Type 0) (Sound Same : Type 0) (result : Result X Lost) (m : Machine F ghosts) → (Same → Sound) → Follows Asks Sound result m → Follows Asks Same result m
follows_by Asks Sound Same result m same f = record { on = f.on; asks = f.asks; vain = f.vain; fits = λ sound. f.fits (same sound) }

pub lost_files : {F X : Type 0} {ghosts : Ghosts F} → (Asks : X → Type 0) (Sound : Type 0) (result : Result X Lost) (m : Machine F ghosts) (lost : Lost) → result ≡ Err lost → Follows Asks Sound result m
    → HaveFiles m.state.core.names m.state.core.units
lost_files {F} {X} {ghosts} Asks Sound result m lost is f = (subst (λ r. Follows Asks Sound r m) is f).vain

module _ {F : Type 0} {ghosts : Ghosts F} (m m' : Machine F ghosts) where
  -- of the same state at the same statement
  pub keeps_same : (o : Option (List ℕ)) → m'.deck ≡ m.deck → m'.at ≡ m.at → m'.state ≡ m.state → HaveKeptAt o m → HaveKeptAt o m'
  keeps_same o deck at same have =
      subst (λ (s : State F ghosts). HaveKept o s.core.names s.core.units (rest_of m')) (sym same) (subst (HaveKept o m.state.core.names m.state.core.units) (sym (rest_same m m' deck at)) have)

  pub gives_same : (a : Ask (Job F)) → m'.deck ≡ m.deck → m'.at ≡ m.at → m'.state ≡ m.state → GivesOf MayKeep m a → GivesOf MayKeep m' a
  gives_same (ask.Submit slot given) deck at same have = keeps_same (name_brought given) deck at same have
  gives_same (ask.Settle slot) deck at same have = tt
  gives_same ask.Finished deck at same have = tt

  -- while it is not over no connection is kept
  pub none_kept : m'.kept ≡ m.kept → m.tally.over ≡ false → m'.kept ≡ None
  none_kept same going = same ∙ by m.kept m.refused
    where
      by : (o : Option (Linked F)) → (IsSome o → m.tally.over ≡ true) → o ≡ None
      by None over = refl
      by (Some k) over = absurd (not_both m.tally.over (over refl) going)

-- ---- a job that was refused

pub brought_name : {F : Type 0} → (given : Job F) → option_map (λ (c : Linked F). c.name) (brought given) ≡ name_brought given
brought_name (job.Attach connection) = refl
brought_name (job.Detach place) = refl
brought_name (job.Move transfer) = refl
brought_name (job.Go how) = refl
brought_name (job.Change edit) = refl
brought_name job.Flush = refl
brought_name (job.Look place) = refl
brought_name job.Resume = refl

-- ---- these facts are propositions

differ_prop : (us : List Connected) → IsProp (Differ same_file us)
differ_prop [] = hlevel props
differ_prop (u ∷ us) = hlevel (props, differ_prop us)

pub files_prop : (names : List (List ℕ)) (us : List Connected) → IsProp (HaveFiles names us)
files_prop names us = hlevel (props, differ_prop us)

opened_prop : (rest : List Stated) (us : List Connected) (name : List ℕ) → IsProp (IsOpened rest us name)
opened_prop [] us name = hlevel props
opened_prop (st ∷ more) us name = hlevel props

pub kept_prop : (o : Option (List ℕ)) (names : List (List ℕ)) (us : List Connected) (rest : List Stated) → IsProp (HaveKept o names us rest)
kept_prop None names us rest = files_prop names us
kept_prop (Some name) names us rest = hlevel (props, opened_prop rest us name, differ_prop us)

free_prop : (next : After) (what : Statement) (us : List Connected) → IsProp (IsFreeNext next what us)
free_prop (after.Finishes condition) what us = hlevel props
free_prop (after.ClosesAll condition) what us = hlevel props
free_prop (after.Connects number) (statement.OpenUnit u spec iostat) us = hlevel props
free_prop (after.Connects number) (statement.Assign to from) us = hlevel props
free_prop (after.Connects number) (statement.CloseUnit u keep iostat) us = hlevel props
free_prop (after.Connects number) (statement.WaitFor u id iostat) us = hlevel props
free_prop (after.Connects number) (statement.Move how u iostat) us = hlevel props
free_prop (after.Connects number) (statement.Inquire about asked id iostat _) us = hlevel props
free_prop (after.Connects number) (statement.Transfer t) us = hlevel props
free_prop (after.Connects number) statement.End us = hlevel props

then_prop : (next : Then) (names : List (List ℕ)) (us : List Connected) (what : Statement) → IsProp (HaveThen next names us what)
then_prop (then.Attaches more) names us what = files_prop names more
then_prop (then.Closes number keep next) names us what = hlevel (props, differ_prop us, free_prop next what)
then_prop then.Finishes names us what = files_prop names us
then_prop (then.Carries slot) names us what = files_prop names us
then_prop (then.Changes number modes) names us what = files_prop names us
then_prop then.Looks names us what = files_prop names us

pub have_at_prop : {F : Type 0} → (s : Stage F) (names : List (List ℕ)) (us : List Connected) (what : Statement) → IsProp (HaveAt s names us what)
have_at_prop (stage.Awaiting slot number next) names us what = then_prop next names us what
have_at_prop (stage.Answered next given answer) names us what = then_prop next names us what
have_at_prop stage.Start names us what = files_prop names us
have_at_prop (stage.Waiting whose from) names us what = files_prop names us
have_at_prop (stage.Resuming slots next condition) names us what = files_prop names us
have_at_prop (stage.Going next number) names us what = files_prop names us

pub gives_prop : {F : Type 0} {ghosts : Ghosts F} → (m : Machine F ghosts) (a : Ask (Job F)) → IsProp (GivesOf MayKeep m a)
gives_prop m (ask.Submit slot given) = kept_prop (name_brought given) m.state.core.names m.state.core.units (rest_of m)
gives_prop m (ask.Settle slot) = hlevel props
gives_prop m ask.Finished = hlevel props
