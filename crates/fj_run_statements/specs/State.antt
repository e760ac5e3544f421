-- What a run holds above its connections, as plain data.
use Rattle.std.specs.Prelude.{◌≡◌, map}
use Rattle.fj_store.specs.Storage.{values_of}
use Rattle.fj_meaning.specs.State.{Files}
use Rattle.fj_meaning_jobs.specs.Core.{Core as PlainCore}
use Rattle.fj_meaning_jobs.specs.Doing.{Doing as PlainDoing, finishes, gives, awaits}
use Rattle.fj_meaning_turns.specs.Run.{Held}
use Rattle.fj_meaning_turns.specs.Turns.{matched}
use Rattle.fj_run_pending.specs.Plain.{held, tells_of}
use Rattle.fj_run_statements.specs.declared.state.Core.{Core}

abbrev pub core_of : Files → Core → PlainCore
core_of files core = record {
  vars = values_of core.store;
  book = map (λ (h : Held). h.pending) (held core.pending);
  units = core.units;
  files = files;
  output = core.output;
  next = core.next;
  new_unit = core.new_unit;
  tells = tells_of core.tells;
}

-- the core at what a statement does next
abbrev pub core_at : PlainDoing → PlainCore
core_at (finishes core condition) = core
core_at (gives slot job core next) = core
core_at (awaits slot job core next) = core

-- the pending transfers keep the answers of their jobs, and one more has none
abbrev pub KeepsAnswers : Core → Core → Type 0
KeepsAnswers old new = held new.pending ≡ matched (map (λ (h : Held). h.pending) (held new.pending)) (held old.pending)

-- no transfer is made pending, and none is told
abbrev pub KeepsPending : Core → Core → Type 0
KeepsPending old new = (new.pending ≡ old.pending) × (new.next ≡ old.next)
