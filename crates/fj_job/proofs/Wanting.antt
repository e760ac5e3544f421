-- What was told and written where memory was wanting.
use Rattle.std.proofs.Common.{◌≡◌, inl, ℕ, ◌≤◌, List, ◌++◌, Option, Some, None, Result, refl, sym, ap, ◌∙◌, subst, append_assoc}
use Rattle.fj_outside.specs.declared.outside.FileStore.{Ghosts}
use Rattle.fj_outside.specs.Holdings.{Holdings}
use Rattle.fj_statement.specs.Sound.{IsSound}
use Rattle.fj_statement.specs.declared.deck.Deck.{Deck}
use Rattle.fj_statement.specs.declared.deck.Variable.{Variable}
use Rattle.fj_slot.specs.Serving.{Meaning}
use Rattle.fj_bay.specs.Bay.{Bay}
use Rattle.fj_bay.specs.Jobs.{Job, Answer}
use Rattle.fj_world.specs.Rack.{Rack}
use Rattle.fj_meaning.specs.State.{State, Files, Output}
use Rattle.fj_meaning.specs.Statement.{Stated, plain_execution, step}
use Rattle.fj_run_items.specs.Handing.{TakesFront, whole_records}
use Rattle.fj_run_items.specs.declared.lost.Lost.{Lost}
use Rattle.fj_run_script.specs.declared.machine.Machine.{Machine}
use Rattle.fj_job.specs.Cut.{Reach, Untold, Told, Carried as At, reached, MayReach, ComesTo, BeginsAt, IsNext, CutByMemory}
use Rattle.fj_job.specs.Cutting.{HoldsFiles, IsCut, TookFront}
use Rattle.fj_job.specs.Executing.{AreClosed}
use Rattle.fj_job.specs.Reply.{Reply, IsRunReply, open_feed, variable_lines, report_of, status_of, Lines}
use Rattle.fj_report.specs.Lines.{status_text}
use Rattle.fj_job.proofs.Closed.{Follows, follows_same, records_follow, step_follows}
use Rattle.fj_job.proofs.CutReports.{front_of_output}
use Rattle.fj_job.proofs.Fronts.{deck_ends}
use Rattle.fj_job.proofs.Reported.{cut_short, front_so_far, some_is}

-- the output goes on from there to the one that the statement leaves
next_follows : (variables : List Variable) (reach : Reach) (st : Stated) (s : State) → Follows (reached reach variables st s).output (step variables st s).0.output
next_follows variables Untold st s = step_follows variables st s
next_follows variables Told st s = step_follows variables st s
next_follows variables At st s = follows_same _ _ refl

-- what the sink took is a front of the records that the statement leaves
next_front : (old new : List ℕ) (deck : Deck) (files : Files) (comes : ComesTo deck files) → TookFront old new deck files comes → TakesFront old new (whole_records (step deck.variables comes.statement comes.before).0.output)
next_front old new deck files comes t =
    let o : Output = (step deck.variables comes.statement comes.before).0.output in
    let f = records_follow (reached t.reach deck.variables comes.statement comes.before).output o (next_follows deck.variables t.reach comes.statement comes.before) in
    (t.part, t.rest ++ f.0, f.1 ∙ ap (λ (x : List ℕ). x ++ f.0) t.due ∙ append_assoc t.part t.rest f.0, t.taken)

-- a deck that is carried out has a reply, whose output goes on from that of the execution
run_reply : (deck : Deck) (lines : Lines) (files : Files) → IsSound deck
    → (reply : Reply) × IsRunReply deck lines files reply × (more : List ℕ) × (reply.output ≡ (plain_execution deck.variables deck.statements files).output.text ++ more)
run_reply deck lines files sound =
    let r = plain_execution deck.variables deck.statements files in
    let ends = some_is r.ending (deck_ends deck files sound) in (
      record { status = status_of ends.0; output = report_of deck lines r ends.0; files = r.files },
      record { ending = ends.0; ends = ends.1; status = refl; output = refl; files_left = refl },
      open_feed r.output ++ (lines r.tells ++ (status_text (status_of ends.0) ++ variable_lines deck.variables r.vars)),
      refl,
    )

module _ {E J A F : Type 0} {ghosts : Ghosts F} (meaning : Meaning E J A Bay Job Answer) (rack : Rack E J A) (held last : Holdings) (before now end : ℕ) (Tells : Type 0) (old new : List ℕ)
    (deck : Deck) (files : Files) (m : Machine F ghosts) (sound : IsSound deck) (cut : IsCut meaning rack held before now Tells old new deck files m) (settled : Result (Unit {0}) Lost)
    (closed : AreClosed meaning rack m.state.core.units m.kept held last now end settled) (early : before ≤ now) (late : now ≤ end) (lines : Lines) where
  due_next : (reach : Reach) → (due : List ℕ) × IsNext reach deck lines files cut.comes due × (Tells → TakesFront old new due)
  due_next Untold = (whole_records (step deck.variables cut.comes.statement cut.comes.before).0.output, refl, λ t. next_front old new deck files cut.comes (cut.front t))
  due_next Told = (whole_records (step deck.variables cut.comes.statement cut.comes.before).0.output, refl, λ t. next_front old new deck files cut.comes (cut.front t))
  due_next At =
      let r = run_reply deck lines files sound in
      (r.0.output, (r.0, r.1, refl), λ t. subst (λ (x : List ℕ). TakesFront old new x) (sym r.3) (front_so_far deck files old new r.2 (front_of_output old new deck files cut.comes (cut.front t))))

  -- at the statement at hand
  abbrev IsCutThere : Type 0
  IsCutThere = (x : CutByMemory deck lines files Tells old new last before end) × BeginsAt x.comes m.at.place

  -- as far as the statement came
  cut_at : (reach : Reach) → MayReach reach deck.variables cut.comes.statement cut.comes.before → HoldsFiles meaning rack held before now deck files cut.comes reach m
      → IsCutThere
  cut_at reach may h =
      let d = due_next reach in (
        record {
          comes = cut.comes;
          reach = reach;
          may = may;
          due = d.0;
          written = inl d.1;
          taken = d.2;
          files_are = cut_short meaning rack held last before now end deck files m settled closed early late cut.comes reach h;
        },
        cut.at,
      )

  -- whatever was lost
  pub cut_by_memory : IsCutThere
  cut_by_memory = by m.tally.lost refl
    where
      by : (o : Option Lost) → m.tally.lost ≡ o → IsCutThere
      by None e = let x = cut.exact (inl e) in cut_at x.reach x.may x.files_are
      by (Some lost) e = cut_at Untold tt (cut.holds lost e)
