-- Turns that are given up.
use Rattle.std.proofs.Common.{◌≡◌, ◌≢◌, ℕ, true, List, Option, Some, None, Result, Ok, Err, OnErr, inl, inr, refl, sym, ap, ◌∙◌, subst}
use Rattle.std.specs.Prelude.{◌⊎◌}
use Rattle.fj_outside.specs.Faults.{Rose}
use Rattle.fj_outside.specs.Holdings.{Holdings}
use Rattle.fj_statement.specs.declared.statement.Statement.{Statement}
use Rattle.fj_statement.specs.declared.statement.Statement.TheVariants as statement
use Rattle.fj_run_items.specs.Handing.{HandsFront, HandsPart}
use Rattle.fj_run_items.specs.declared.lost.Lost.{Lost}
use Rattle.fj_run_items.specs.declared.lost.Lost.TheVariants.{Disk, Sink, Unfit}
use Rattle.fj_meaning.specs.State.{Output, Tell}
use Rattle.fj_meaning.specs.Statement.{Stated, Ending, ends}
use Rattle.fj_meaning_jobs.specs.Doing.{Doing as PlainDoing, finishes, gives, awaits}
use Rattle.fj_meaning_turns.specs.Run.{Run, Stage}
use Rattle.fj_meaning_turns.specs.Turns.{finish_by, turn_act, with_core, with_iostat}
use Rattle.fj_meaning_turns.specs.Passing.{output_of}
use Rattle.fj_run_pending.specs.Plain.{tells_of}
use Rattle.fj_run_statements.specs.Calling.{may_close, calls_disk}
use Rattle.fj_run_statements.specs.State.{core_at}
use Rattle.fj_run_statements.specs.declared.state.Core.{Core}
use Rattle.fj_run_script.specs.Failing.{AllFits, FailsTurn, FailsStage, StandsDoing, OfOutside}
use Rattle.fj_run_script.proofs.Stepping.{went}

on_err : {X : Type 0} → (r : Result X Lost) (P : Type 0) → P → OnErr r P
on_err (Ok it) P p = tt
on_err (Err lost) P p = p

-- ---- the output of what a statement does

finish_output : (o : Option Ending) (r : Run) → output_of (finish_by o r) ≡ r.core.output
finish_output None r = refl
finish_output (Some e) r = refl

pub act_output : (st : Stated) (does : PlainDoing) (r : Run) → output_of (turn_act st does r) ≡ (core_at does).output
act_output st (finishes core condition) r = finish_output (ends st.0.line st.0.what condition) (with_core (with_iostat st condition r core) r)
act_output st (gives slot job core next) r = refl
act_output st (awaits slot job core next) r = refl

-- ---- what is done with the disk

pub closing_calls : (what : Statement) → may_close what ≡ true → calls_disk what ≡ true
closing_calls (statement.Assign to from) e = e
closing_calls (statement.OpenUnit u spec iostat) e = e
closing_calls (statement.CloseUnit u keep iostat) e = e
closing_calls (statement.WaitFor u id iostat) e = e
closing_calls (statement.Move how u iostat) e = e
closing_calls (statement.Inquire about asked id iostat _) e = cc
closing_calls (statement.Transfer t) e = e
closing_calls statement.End e = e

-- ---- turns

neither : {X : Type 0} → {r : Result X Lost} {P : Type 0} → r ≢ Err Disk → r ≢ Err Sink → OfOutside (λ lost. r ≡ Err lost) → P
neither n s (inl e) = absurd (n e)
neither n s (inr e) = absurd (s e)

-- what the outside fails in fits
outside_fits : {X : Type 0} → (r : Result X Lost) → OfOutside (λ lost. r ≡ Err lost) → AllFits (λ lost. r ≡ Err lost)
outside_fits {X = X} r (inl d) u = let z : (let x : Result X Lost = Err Disk in x) ≡ Err Unfit = sym d ∙ u in cc
outside_fits {X = X} r (inr s) u = let z : (let x : Result X Lost = Err Sink in x) ≡ Err Unfit = sym s ∙ u in cc

outside_err : {X : Type 0} → (r : Result X Lost) (P : Type 0) → OnErr r P → OfOutside (λ lost. r ≡ Err lost) → P
outside_err (Ok it) P p (inl e) = cc
outside_err (Ok it) P p (inr e) = cc
outside_err (Err lost) P p o = p

pub on_err_by : {X : Type 0} → (r : Result X Lost) (P Q : Type 0) → (P → Q) → OnErr r P → OnErr r Q
on_err_by (Ok it) P Q go p = tt
on_err_by (Err lost) P Q go p = go p

module _ {W : Type 0} {tells_out : W → Type 0} {taken : W → List ℕ} {held : Holdings} {before now : ℕ} where
  -- it is not for the outside, and nothing is written
  pub fails_still : {X : Type 0} → (out : W) (core core' : Core) (r : Result X Lost) (due : Output) (Known : Type 0) (told : List Tell) {Still : Type 0} {does : Option PlainDoing} {Called : Type 0} → r ≢ Err Disk → r ≢ Err Sink
      → (AllFits (λ lost. r ≡ Err lost) → OnErr r (Still ⊎ (Known × StandsDoing does core' held before now))) → FailsTurn tells_out taken out core r out core' held before now due Still Known told does Called
  fails_still out core core' r due Known told n s w = record {
    fits = w;
    front = λ t. on_err r (HandsFront (taken out) (taken out) core.output due ⊎ (taken out ≡ taken out)) (inr refl);
    known = λ e. neither n s e;
    stands = λ e. neither n s e;
    output = λ e. absurd (n e);
    tells = λ e. absurd (n e);
    rose = λ e. absurd (n e);
    called = λ e. absurd (n e);
    begun = λ t e. absurd (s e);
  }

  -- it goes on
  pub fails_went : {X : Type 0} → (out out' : W) (core core' : Core) (x : X) (due : Output) (Known : Type 0) (told : List Tell) {Still : Type 0} {does : Option PlainDoing} {Called : Type 0}
      → FailsTurn tells_out taken out core (went x) out' core' held before now due Still Known told does Called
  fails_went out out' core core' x due Known told = record {
    fits = λ fits. tt;
    front = λ t. tt;
    known = λ e. neither (λ q. cc) (λ q. cc) e;
    stands = λ e. neither (λ q. cc) (λ q. cc) e;
    output = λ e. cc;
    tells = λ e. cc;
    rose = λ e. cc;
    called = λ e. cc;
    begun = λ t e. cc;
  }

  -- its own action is given up
  pub fails_begun : {X : Type 0} → (out out' : W) (core core' : Core) (r : Result X Lost) (due : Output) {Still : Type 0} {does : Option PlainDoing} {Called : Type 0} → (tells_out out → OnErr r (HandsFront (taken out) (taken out') core.output due))
      → (tells_out out → r ≡ Err Sink → HandsPart (taken out) (taken out') core.output due)
      → (r ≡ Err Disk → core'.output ≡ core.output) → core'.tells ≡ core.tells → OnErr r (StandsDoing does core' held before now) → (r ≡ Err Disk → Rose before now) → (r ≡ Err Disk → Called)
      → FailsTurn tells_out taken out core r out' core' held before now due Still (Unit {0}) (tells_of core.tells) does Called
  fails_begun out out' core core' r due {Still = Still} {does = does} h part o t f rose called = record {
    fits = λ fits. on_err_by r (StandsDoing does core' held before now) (Still ⊎ (Unit {0} × StandsDoing does core' held before now)) (λ d. inr (tt, d)) f;
    front = λ k. by r (h k);
    known = λ e. tt;
    stands = outside_err r (StandsDoing does core' held before now) f;
    output = o;
    tells = λ e. ap tells_of t;
    rose = rose;
    called = called;
    begun = part;
  }
    where
      by : {Y : Type 0} → (x : Result Y Lost) → OnErr x (HandsFront (taken out) (taken out') core.output due) → OnErr x (HandsFront (taken out) (taken out') core.output due ⊎ (taken out' ≡ taken out))
      by (Ok it) k = tt
      by (Err lost) k = inl k

  -- nothing is written, and what is told stays
  pub fails_quiet : {X : Type 0} → (out : W) (core core' : Core) (r : Result X Lost) (due : Output) {Still : Type 0} {does : Option PlainDoing} {Called : Type 0} → core'.output ≡ core.output → core'.tells ≡ core.tells
      → r ≢ Err Sink → (AllFits (λ lost. r ≡ Err lost) → OnErr r (StandsDoing does core' held before now)) → (r ≡ Err Disk → Rose before now) → (r ≡ Err Disk → Called)
      → FailsTurn tells_out taken out core r out core' held before now due Still (Unit {0}) (tells_of core.tells) does Called
  fails_quiet out core core' r due {Still = Still} {does = does} o t s f rose called = record {
    fits = λ fits. on_err_by r (StandsDoing does core' held before now) (Still ⊎ (Unit {0} × StandsDoing does core' held before now)) (λ d. inr (tt, d)) (f fits);
    front = λ k. on_err r (HandsFront (taken out) (taken out) core.output due ⊎ (taken out ≡ taken out)) (inr refl);
    known = λ e. tt;
    stands = λ e. outside_err r (StandsDoing does core' held before now) (f (outside_fits r e)) e;
    output = λ e. o;
    tells = λ e. ap tells_of t;
    rose = rose;
    called = called;
    begun = λ k e. absurd (s e);
  }

  -- by another word for what was due
  pub fails_from : {X : Type 0} → (out out' : W) (core half core' : Core) (r : Result X Lost) (due due' : Output) (Known Known' : Type 0) (told told' : List Tell) {Still Still' : Type 0} {does does' : Option PlainDoing} {Called : Type 0} → half.output ≡ core.output → due ≡ due' → (Still → Still') → (Known → Known')
      → told ≡ told' → does ≡ does' → FailsTurn tells_out taken out half r out' core' held before now due Still Known told does Called → FailsTurn tells_out taken out core r out' core' held before now due' Still' Known' told' does' Called
  fails_from out out' core half core' r due due' Known Known' told told' {Still = Still} {Still' = Still'} {does = does} {does' = does'} o d l k t w f = record {
    fits = λ fits. on_err_by r (Still ⊎ (Known × StandsDoing does core' held before now)) (Still' ⊎ (Known' × StandsDoing does' core' held before now)) by (f.fits fits);
    front = λ s. subst (λ x. OnErr r (HandsFront (taken out) (taken out') x due' ⊎ (taken out' ≡ taken out))) o
        (subst (λ x. OnErr r (HandsFront (taken out) (taken out') half.output x ⊎ (taken out' ≡ taken out))) d (f.front s));
    known = λ e. k (f.known e);
    stands = λ e. subst (λ x. StandsDoing x core' held before now) w (f.stands e);
    output = λ e. f.output e ∙ o;
    tells = λ e. f.tells e ∙ t;
    rose = f.rose;
    called = f.called;
    begun = λ s e. subst (λ x. HandsPart (taken out) (taken out') x due') o (subst (λ x. HandsPart (taken out) (taken out') half.output x) d (f.begun s e));
  }
    where
      by : Still ⊎ (Known × StandsDoing does core' held before now) → Still' ⊎ (Known' × StandsDoing does' core' held before now)
      by (inl x) = inl (l x)
      by (inr x) = inr (k x.0, subst (λ y. StandsDoing y core' held before now) w x.1)

  -- by another word for the stage
  pub fails_at : {X : Type 0} → (out out' : W) (core core' : Core) (r : Result X Lost) (st : Stated) (x y : Stage) (run : Run) → x ≡ y → FailsStage tells_out taken out core r out' core' held before now st x run → FailsStage tells_out taken out core r out' core' held before now st y run
  fails_at out out' core core' r st x y run e f = subst (λ z. FailsStage tells_out taken out core r out' core' held before now st z run) e f
