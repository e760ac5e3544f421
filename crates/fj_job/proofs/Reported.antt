-- What was told and written where a run met a fault, and what is reported then.
use Rattle.std.proofs.Common.{◌≡◌, ◌⊎◌, inl, inr, ℕ, ◌+◌, ◌≤◌, Bool, true, false, List, [], ◌++◌, Option, Some, None, IsSome, IfSome, Result, Ok, slice_get, refl, ap, sym, ◌∙◌, subst, append_assoc, is_some, ◌≢◌, arith}
use Rattle.std.specs.FinMap as map
use Rattle.std.specs.FinSet as set
use Rattle.std.specs.Option.{option_map}
use Rattle.fj_outside.specs.declared.outside.FileStore.{Ghosts}
use Rattle.fj_outside.specs.Holdings.{Holdings, Files as Held}
use Rattle.fj_statement.specs.Sound.{IsSound}
use Rattle.fj_statement.specs.declared.deck.Deck.{Deck}
use Rattle.fj_statement.specs.declared.statement.Statement.{Statement}
use Rattle.fj_statement.specs.declared.statement.Statement.TheVariants as statement
use Rattle.fj_connect.specs.Linked.{Linked}
use Rattle.fj_slot.specs.Ledger.{Ledger}
use Rattle.fj_slot.specs.Serving.{Meaning}
use Rattle.fj_bay.specs.Bay.{Bay}
use Rattle.fj_bay.specs.Jobs.{Job, Answer}
use Rattle.fj_world.specs.Rack.{Rack}
use Rattle.fj_meaning.specs.State.{State, Files, Output, Tell, all_closed, start}
use Rattle.fj_meaning.specs.Statement.{Stated, plain_execution, step, stated}
use Rattle.fj_meaning_jobs.specs.Core.{has_name}
use Rattle.fj_meaning_cut.specs.Others.{Names, names_in, file_opened, file_about, file_renewed, AreHoused}
use Rattle.fj_meaning_cut.specs.Stopping.{HoldsGiven, WasAwaited}
use Rattle.fj_meaning_cut.proofs.Connecting.{opened_about}
use Rattle.fj_run_pending.specs.Plain.{tells_of}
use Rattle.fj_run_items.specs.Handing.{TakesFront, TakesPart, whole_records, open_record}
use Rattle.fj_run_items.specs.declared.lost.Lost.{Lost}
use Rattle.fj_run_items.specs.declared.lost.Lost.TheVariants.{Sink, Disk}
use Rattle.fj_run_units.specs.Files.{files_of}
use Rattle.fj_run_units.specs.Returning.{IsAsDue}
use Rattle.fj_run_end.proofs.Due.{due_on}
use Rattle.fj_run_end.proofs.Finding.{rose_wider}
use Rattle.fj_report.specs.Lines.{status_text}
use Rattle.fj_report.specs.declared.status.Status.{Status}
use Rattle.fj_report.specs.declared.status.Status.TheVariants.{DiskFault}
use Rattle.fj_run_script.specs.Machine.{ending_of}
use Rattle.fj_run_script.specs.declared.ending.Ending.{Ending as Code}
use Rattle.fj_run_script.specs.declared.left.Left.{Left}
use Rattle.fj_run_script.specs.declared.machine.Machine.{Machine}
use Rattle.fj_run_statements.specs.declared.state.Core.{Core as Kept}
use Rattle.fj_job.specs.Carrying.{HasRun}
use Rattle.fj_job.specs.Concluding.{HasEnded, IsResult, run_text, fault_text}
use Rattle.fj_job.specs.Cut.{Reach, Untold, Carried as At, reached, ComesTo, BeginsAt, AreCutShort, AreLeft, IsLearnt, CutByMemory, fault_report, IsFaultReport, IsNext, TookRun, TookReport, TookBehind, CutByDisk, CutBySink}
use Rattle.fj_job.specs.Cutting.{HoldsFiles, IsCut, EndsHere, IsLeftAt, IsLeftBegun, TookSome, IsCause}
use Rattle.fj_job.specs.Fitting.{IsOther, LeavesFit}
use Rattle.fj_job.specs.Losing.{wants}
use Rattle.fj_job.specs.Executing.{AreClosed, IsFaultReported, IsFaultBegun, IsEndBegun}
use Rattle.fj_job.specs.Making.{HasMade, IsMadeFront, TookMade, made_text}
use Rattle.fj_job.specs.Reply.{Reply, IsRunReply, open_feed, variable_lines, report_of, made_lines, made_report, no_files, files_in, status_of, Lines}
use Rattle.fj_job.specs.declared.ending.Carried.{Carried}
use Rattle.fj_job.proofs.Cut.{lost_none}
use Rattle.fj_job.proofs.CutEnds.{ended_exact}
use Rattle.fj_job.proofs.CutReports.{front_of_output, front_of_exact}
use Rattle.fj_job.proofs.CutTexts.{text_and_feed, goes_on_behind}
use Rattle.fj_job.proofs.Leading.{rose_later}
use Rattle.fj_job.proofs.Leaving.{seated_of, named_of, housed_of, served_of, due_wider, within}
use Rattle.fj_job.proofs.Executed.{desks, ending_is, output_is, tells_are, files_are, holds, are_seated, are_named, replies, makes, none_there, taken_both, given_until}
use Rattle.fj_job.proofs.Fronts.{front_behind, part_behind, front_more, deck_ends, some_by, not_lost}
use Rattle.fj_job.proofs.Giving.{LeavesShort, not_left, left_short, stopped_short}

-- ---- where a run ended or was cut, at the statement at hand

module _ {E J A F : Type 0} {ghosts : Ghosts F} (meaning : Meaning E J A Bay Job Answer) (told : F → Bool) (bytes : F → List ℕ) (deck : Deck) (files : Files) (held : Holdings) (before now : ℕ)
    (m : Machine F ghosts) (rack : Rack E J A) (Tells : Type 0) (old new : List ℕ) where
  abbrev left : Files
  left = files_of held

  at_end : IsSound deck → m.tally.over ≡ false → HasRun meaning told bytes deck files left m rack → LeavesFit meaning rack m
      → ((ending : Code) → m.state.ending ≡ Some ending → EndsHere deck files m) → (Tells → new ≡ old ++ whole_records m.state.core.output) → IsCut meaning rack held before now Tells old new deck files m
  at_end sound going ran fit ended taken =
      let some : IsSome (option_map ending_of m.state.ending) = subst IsSome (ending_is meaning told bytes deck files left m rack ran) (deck_ends deck files sound) in
      let code = some_by ending_of m.state.ending some in
      let e = ended code.0 code.1 in
      let housed : AreHoused (desks meaning told bytes deck files left m rack ran) m.state.core.units =
      housed_of (desks meaning told bytes deck files left m rack ran) m.state.core.units (are_seated meaning told bytes deck files left m rack ran) (are_named meaning told bytes deck files left m rack ran) in
      let due = λ (name : List ℕ). sym (ap (λ (f : Files). f name) (files_are meaning told bytes deck files left m rack ran)) ∙ ap (λ (f : Files). f name) e.files_are in
      let holds : HoldsFiles meaning rack held before now deck files e.comes At m = record {
        desks = desks meaning told bytes deck files left m rack ran;
        slots = holds meaning told bytes deck files left m rack ran;
        units = housed;
        others = λ name served about. inl (due name);
        freed = λ name none new. inl (sym (not_left (desks meaning told bytes deck files left m rack ran) m.state.core.units left name housed none) ∙ due name);
        given = given_until meaning told bytes deck files left m rack ran some e.comes.index e.place
            (within deck.variables e.comes.index (stated deck.statements) (start deck.variables files) (e.comes.statement, e.comes.before) e.comes.there);
        kept = subst (λ (o : Option (Linked F)). IfSome o (λ c. file_opened (names_in e.comes.before.units) e.comes.statement.0.what ≡ Some c.name)) (sym (not_lost m.kept m.tally.over m.refused going)) tt;
      } in
      let exact = ended_exact meaning rack held before now Tells old new deck files m e holds (output_is meaning told bytes deck files left m rack ran) (tells_are meaning told bytes deck files left m rack ran) taken in
      let none = not_lost m.tally.lost m.tally.over m.tally.lost_over going in
      record {
        comes = e.comes;
        at = e.at;
        exact = λ _. exact;
        holds = λ lost some. lost_none none some;
        fit = fit;
        begun = λ t s. lost_none none s;
        front = λ t. front_of_exact meaning rack held before now Tells old new deck files e.comes m exact t;
      }

  at_hand_by : (over : Bool) → m.tally.over ≡ over → IsSound deck → (m.tally.over ≡ false → HasRun meaning told bytes deck files left m rack) → (m.tally.over ≡ false → LeavesFit meaning rack m)
      → (m.tally.over ≡ false → (ending : Code) → m.state.ending ≡ Some ending → EndsHere deck files m)
      → (m.tally.over ≡ true → IsCut meaning rack held before now Tells old new deck files m) → (m.tally.over ≡ false → Tells → new ≡ old ++ whole_records m.state.core.output) → IsCut meaning rack held before now Tells old new deck files m
  at_hand_by true e sound ran fit ended cut taken = cut e
  at_hand_by false e sound ran fit ended cut taken = at_end sound e (ran e) (fit e) (ended e) (taken e)

  -- the statement at hand is one to which the execution comes
  pub at_statement : IsSound deck → (m.tally.over ≡ false → HasRun meaning told bytes deck files left m rack) → (m.tally.over ≡ false → LeavesFit meaning rack m)
      → (m.tally.over ≡ false → (ending : Code) → m.state.ending ≡ Some ending → EndsHere deck files m)
      → (m.tally.over ≡ true → IsCut meaning rack held before now Tells old new deck files m) → (m.tally.over ≡ false → Tells → new ≡ old ++ whole_records m.state.core.output) → IsCut meaning rack held before now Tells old new deck files m
  at_statement sound ran fit ended cut taken = at_hand_by m.tally.over refl sound ran fit ended cut taken

-- ---- what is left there, once the files went back

-- what is opened is renewed
opened_renewed : (names : Names) (st : Statement) (name : List ℕ) → file_opened names st ≡ Some name → file_renewed names st ≡ Some name
opened_renewed names (statement.Assign to from) name e = cc
opened_renewed names (statement.OpenUnit u spec iostat) name e = e
opened_renewed names (statement.CloseUnit u keep iostat) name e = cc
opened_renewed names (statement.WaitFor u id iostat) name e = cc
opened_renewed names (statement.Move how u iostat) name e = cc
opened_renewed names (statement.Inquire subject asked id iostat _) name e = cc
opened_renewed names (statement.Transfer t) name e = cc
opened_renewed names statement.End name e = cc

-- a connection that was kept is of a file that has P; no other file is of it
other_by : {F : Type 0} (kept : Option (Linked F)) (Opened P : List ℕ → Type 0) → IfSome kept (λ c. Opened c.name) → ((name : List ℕ) → Opened name → P name) → (name : List ℕ) → (P name → ⊥) → IsOther kept name
other_by None Opened P is so name not = tt
other_by (Some c) Opened P is so name not = λ same. not (subst P same (so c.name is))

-- Once the files went back behind a run that was cut.
module _ {E J A F : Type 0} {ghosts : Ghosts F} (meaning : Meaning E J A Bay Job Answer) (rack : Rack E J A) (held last : Holdings) (before now end : ℕ)
    (deck : Deck) (files : Files) (m : Machine F ghosts) (settled : Result (Unit {0}) Lost) (closed : AreClosed meaning rack m.state.core.units m.kept held last now end settled) (early : before ≤ now) (late : now ≤ end) where
  -- each file that the statement neither opens nor removes
  pub cut_short : (comes : ComesTo deck files) (reach : Reach) → HoldsFiles meaning rack held before now deck files comes reach m → AreCutShort deck files comes reach last before end
  cut_short comes reach h = λ name new. by name new (has_name m.state.core.units name) refl
    where
      other : (name : List ℕ) → file_renewed (names_in comes.before.units) comes.statement.0.what ≢ Some name → IsOther m.kept name
      other = other_by m.kept (λ name. file_opened (names_in comes.before.units) comes.statement.0.what ≡ Some name) (λ name. file_renewed (names_in comes.before.units) comes.statement.0.what ≡ Some name) h.kept
          (λ name e. opened_renewed (names_in comes.before.units) comes.statement.0.what name e)

      by : (name : List ℕ) → file_renewed (names_in comes.before.units) comes.statement.0.what ≢ Some name → (b : Bool) → has_name m.state.core.units name ≡ b
          → LeavesShort deck.variables (stated deck.statements) files (files_of last) comes.index before end name
          ⊎ IsAsDue before end (files_of last name) ((all_closed (reached reach deck.variables comes.statement comes.before)).files name)
      by name new true e =
          let short = left_short meaning rack deck.variables (stated deck.statements) files (files_of last) comes.index now end name m.state.core.units closed.found h.given e in
          inl (short.0, λ s. elim (short.1 s) [ inl none ↦ inl none | inr rose ↦ inr (rose_wider before now end end early (omega arith) rose) ])
      by name new false e = inr (subst (λ (o : Option (List ℕ)). IsAsDue before end o ((all_closed (reached reach deck.variables comes.statement comes.before)).files name)) (sym (closed.spared name e (other name new)).0)
          (due_wider before before now end (files_of held name) _ (omega arith) late (h.freed name e new)))

  -- and where memory was not wanting, each one that is not hurt, and that it is not about
  pub files_left : wants settled ≡ false → (comes : ComesTo deck files) (reach : Reach) → HoldsFiles meaning rack held before now deck files comes reach m → AreLeft deck files comes reach last before end
  files_left told comes reach h = record {
    clear = λ name clear about.
        due_on before now end _ _ _ early late
        (closed.due told h.desks h.slots (seated_of h.desks m.state.core.units h.units) (named_of h.desks m.state.core.units h.units) name
        (other_by m.kept (λ other. file_opened (names_in comes.before.units) comes.statement.0.what ≡ Some other) (λ other. file_about (names_in comes.before.units) comes.statement.0.what ≡ Some other) h.kept
        (λ other e. opened_about (names_in comes.before.units) comes.statement.0.what other e) name about) clear)
        (h.others name (served_of rack last name m.state.core.units (closed.running told) clear) about);
    others = cut_short comes reach h;
  }

  -- a unit whose slot has stopped has a file that is hurt, and no other slot has stopped
  pub learnt_by : wants settled ≡ false → (comes : ComesTo deck files) → HoldsGiven deck.variables (stated deck.statements) files meaning rack comes.index
      → IsCause rack m.state.core.units deck files comes.index comes.statement comes.before before now → IsLearnt comes last before end
  learnt_by told comes given (inl it) =
      let short =
      stopped_short meaning rack deck.variables (stated deck.statements) files (files_of last) comes.index now end it.unit.name it.slot it.ledger m.state.core.units it.here it.halted closed.found given it.filed in
      inl (record {
        unit = it.unit;
        hurt = by (set.contains last.hurt it.unit.name) refl;
        stop = short.0;
        job = it.job;
        behind = (let at = short.2 in let behind = it.behind in omega (arith, at, behind));
        awaited = subst (λ k. WasAwaited deck.variables (stated deck.statements) files (comes.index + 1) k it.job) (sym short.1) it.awaited;
      })
    where
      halted : (l : Ledger E J A) → slice_get rack.slots it.slot ≡ Some l → l.halt ≡ None → ⊥
      halted l e none =
          let same : l ≡ it.ledger = (let z : Some l ≡ Some it.ledger = sym e ∙ it.here in cc) in
          let z : false ≡ true = sym (ap is_some none) ∙ ap (λ (k : Ledger E J A). is_some k.halt) same ∙ it.halted in
          cc

      by : (b : Bool) → set.contains last.hurt it.unit.name ≡ b → b ≡ true
      by true e = refl
      by false e = absurd (let served = served_of rack last it.unit.name m.state.core.units (closed.running told) e it.slot it.filed in halted served.0 served.1 served.2)
  learnt_by told comes given (inr (inl aside)) = absurd (let z : false ≡ true = sym (ap is_some (closed.others aside.slot aside.ledger aside.here aside.free)) ∙ aside.halted in cc)
  learnt_by told comes given (inr (inr (called, rose))) = inr (called, rose_later before now end rose late)

module _ {E J A F : Type 0} {ghosts : Ghosts F} (meaning : Meaning E J A Bay Job Answer) (rack : Rack E J A) (held last : Holdings) (before now end : ℕ) (Tells : Type 0) (old new : List ℕ)
    (deck : Deck) (files : Files) (m : Machine F ghosts) (l : Left F) (cut : IsCut meaning rack held before now Tells old new deck files m) (at : l.at ≡ m.at.place) (settled : Result (Unit {0}) Lost)
    (closed : AreClosed meaning rack m.state.core.units m.kept held last now end settled) (early : before ≤ now) (late : now ≤ end) (told : wants settled ≡ false) where
  hand : BeginsAt cut.comes l.at
  hand = subst (BeginsAt cut.comes) (sym at) cut.at

  -- where nothing was lost, or by the disk
  pub left_at : (m.tally.lost ≡ None) ⊎ (m.tally.lost ≡ Some Disk) → l.core ≡ record (m.state.core) { names = l.core.names } → IsLeftAt deck files l last before end
  left_at lost core =
      let x = cut.exact lost in
      record {
        comes = cut.comes;
        reach = x.reach;
        may = x.may;
        at = hand;
        output = ap (λ (k : Kept). k.output) core ∙ x.output;
        tells = ap (λ (k : Kept). tells_of k.tells) core ∙ x.tells;
        files_are = files_left meaning rack held last before now end deck files m settled closed early late told cut.comes x.reach x.files_are;
        learnt = elim x.cause [ inl e ↦ inl e | inr why ↦ inr (learnt_by meaning rack held last before now end deck files m settled closed early late told cut.comes x.files_are.given why) ];
      }

  -- where the sink failed
  pub left_begun : m.tally.lost ≡ Some Sink → IsLeftBegun deck files l Tells old new last before end
  left_begun lost = record { comes = cut.comes; at = hand; begun = λ t. cut.begun t lost; files_are = files_left meaning rack held last before now end deck files m settled closed early late told cut.comes Untold (cut.holds Sink lost) }

-- where the deck ended
pub left_end : {F : Type 0} {ghosts : Ghosts F} (deck : Deck) (files : Files) (m : Machine F ghosts) (l : Left F) (last : Holdings) (before end : ℕ) → EndsHere deck files m → l.at ≡ m.at.place
    → IsResult (plain_execution deck.variables deck.statements files) (files_of last) l → (x : IsLeftAt deck files l last before end) × (x.reach ≡ At)
left_end deck files m l last before end e at is = (
  record {
    comes = e.comes;
    reach = At;
    may = e.ends;
    at = subst (BeginsAt e.comes) (sym at) e.at;
    output = sym is.output ∙ e.output;
    tells = sym is.tells ∙ e.tells;
    files_are = record {
      clear = λ name clear about. inl (ap (λ (f : Files). f name) (sym is.files ∙ e.files_are));
      others = λ name new. inr (inl (ap (λ (f : Files). f name) (sym is.files ∙ e.files_are)));
    };
    learnt = inl refl;
  },
  refl,
)

-- and what the sink took until there
pub took_some : {E J A F : Type 0} {ghosts : Ghosts F} (meaning : Meaning E J A Bay Job Answer) (rack : Rack E J A) (held : Holdings) (before now : ℕ) (Tells : Type 0) (old new : List ℕ)
    (deck : Deck) (files : Files) (m : Machine F ghosts) → IsCut meaning rack held before now Tells old new deck files m → Tells → TookSome deck files old new
took_some meaning rack held before now Tells old new deck files m cut t = front_of_output old new deck files cut.comes (cut.front t)

-- ---- reports

-- the records that ended with that behind them are the report of a fault
pub fault_reported : {F : Type 0} (deck : Deck) (files : Files) (l : Left F) (held : Holdings) (before now : ℕ) (at : IsLeftAt deck files l held before now) (lines : Lines) (line : ℕ) → at.comes.statement.0.line ≡ line
    → IsFaultReport deck lines files line (whole_records l.core.output ++ fault_text lines line l.core.output (tells_of l.core.tells))
fault_reported deck files l held before now at lines line is =
    let s : State = reached at.reach deck.variables at.comes.statement at.comes.before in
    record {
      comes = at.comes;
      reach = at.reach;
      may = at.may;
      line_is = is;
      output_is = text_and_feed deck files at.comes at.reach l.core.output at.output (lines (tells_of l.core.tells) ++ status_text (DiskFault line))
          ∙ ap (λ (o : Output). o.text ++ (open_feed o ++ (lines (tells_of l.core.tells) ++ status_text (DiskFault line)))) at.output
          ∙ ap (λ (ts : List Tell). s.output.text ++ (open_feed s.output ++ (lines ts ++ status_text (DiskFault line)))) at.tells;
    }

module _ {F : Type 0} (deck : Deck) (lines : Lines) (it : Carried F) (before now : Held) (left : Holdings) (own own' : ℕ) (old mid new : List ℕ) (same : it.left.deck ≡ deck) where
  -- its line is that of the statement at hand
  line_by : (at : IsLeftAt deck (files_in before) it.left left own own') (line : ℕ) → ((lined : _) → slice_get it.left.deck.statements it.left.at ≡ Some lined → line ≡ lined.line) → at.comes.statement.0.line ≡ line
  line_by at line is = ap (λ (x : Stated). x.0.line) at.at.2 ∙ sym (is at.at.0 (ap (λ (d : Deck). slice_get d.statements it.left.at) same ∙ at.at.1))

  -- a fault that was told
  pub told_fault : (line : ℕ) (Tells Now Failed Failed' : Type 0) → (Tells → Now) → (Failed → Failed') → IsLeftAt deck (files_in before) it.left left own own'
      → IsFaultReported lines it line Now mid new Failed → (Tells → mid ≡ old ++ whole_records it.left.core.output) → (cut : CutByDisk deck lines (files_in before) line Tells old new Failed' left own own') × BeginsAt cut.1.comes it.left.at
  unfolding fault_reported
  told_fault line Tells Now Failed Failed' on later at fault one = (
    (
      whole_records it.left.core.output ++ fault_text lines line it.left.core.output (tells_of it.left.core.tells),
      fault_reported deck (files_in before) it.left left own own' at lines line (line_by at line fault.line_is),
      at.files_are,
      at.learnt,
      λ t. elim (fault.taken (on t)) [ inl e ↦ inl (taken_both old mid new _ _ (one t) e) | inr f ↦ inr (later f.0, part_behind old mid new _ _ (one t) f.1) ],
    ),
    at.at,
  )

  pub report_of_fault : (status : Status) (Tells : Type 0) → Tells → IsLeftAt deck (files_in before) it.left left own own' → IsFaultBegun lines it status Tells mid new → mid ≡ old ++ whole_records it.left.core.output
      → TookReport deck lines (files_in before) status old new
  report_of_fault status Tells t at fault one = (
    fault.line,
    fault.answer,
    whole_records it.left.core.output ++ fault_text lines fault.line it.left.core.output (tells_of it.left.core.tells),
    fault_reported deck (files_in before) it.left left own own' at lines fault.line (line_by at fault.line fault.line_is),
    front_behind old mid new _ _ one (fault.taken t),
  )

  -- memory was wanting in it
  pub want_of_fault : (status : Status) (Tells Now : Type 0) → (Tells → Now) → (at : IsLeftAt deck (files_in before) it.left left own own') → IsFaultBegun lines it status Now mid new
      → (Tells → mid ≡ old ++ whole_records it.left.core.output) → (cut : CutByMemory deck lines (files_in before) Tells old new left own own') × BeginsAt cut.comes it.left.at
  unfolding fault_reported
  want_of_fault status Tells Now on at fault one =
      let line = line_by at fault.line fault.line_is in
      let report = fault_reported deck (files_in before) it.left left own own' at lines fault.line line in (
        record {
          comes = at.comes;
          reach = at.reach;
          may = at.may;
          due = whole_records it.left.core.output ++ fault_text lines fault.line it.left.core.output (tells_of it.left.core.tells);
          written = inr (report.output_is ∙ ap (λ n. fault_report lines n (reached at.reach deck.variables at.comes.statement at.comes.before)) (sym line));
          taken = λ t. front_behind old mid new _ _ (one t) (fault.taken (on t));
          files_are = at.files_are.others;
        },
        at.at,
      )

  -- what is told where the deck ended: the records that ended, and the report behind them
  reply_of_end : (Took : List ℕ → Type 0) → IsResult (plain_execution deck.variables deck.statements (files_in before)) (files_in now) it.left → IsEndBegun lines it Took
      → (reply : Reply) × IsRunReply deck lines (files_in before) reply × (text : List ℕ) × (reply.output ≡ whole_records it.left.core.output ++ text) × Took text
  reply_of_end Took is ended =
      let whole : List ℕ = whole_records it.left.core.output in
      let text : List ℕ = open_record it.left.core.output ++ run_text it.left.deck.variables lines (ending_of ended.ending) it.left.core in
      let h : HasEnded lines it.left (status_of (ending_of ended.ending)) (Unit {0}) whole (whole ++ text) =
      record { going = ended.going; ending = ended.ending; ends = ended.ends; status_is = refl; output = λ _. refl } in
      let r = replies deck lines it.left before now (status_of (ending_of ended.ending)) (Unit {0}) (Unit {0}) [] whole (whole ++ text) (λ t. t) same is h (λ _. refl) in
      (r.reply, r.is, text, sym (r.output tt), ended.taken)

  pub part_of_end : (Tells : Type 0) → Tells → IsResult (plain_execution deck.variables deck.statements (files_in before)) (files_in now) it.left → IsEndBegun lines it (λ due. Tells → TakesFront mid new due)
      → mid ≡ old ++ whole_records it.left.core.output → TookRun deck lines (files_in before) old new
  part_of_end Tells t is ended one =
      let r = reply_of_end (λ due. Tells → TakesFront mid new due) is ended in
      (r.0, r.1, subst (λ (x : List ℕ). TakesFront old new x) (sym r.3) (front_behind old mid new _ r.2 one (r.4 t)))

  -- memory was wanting in the report
  pub want_of_end : (Tells Now : Type 0) → (Tells → Now) → (x : IsLeftAt deck (files_in before) it.left left own own') → x.reach ≡ At → IsResult (plain_execution deck.variables deck.statements (files_in before)) (files_in now) it.left
      → IsEndBegun lines it (λ due. Now → TakesFront mid new due) → (Tells → mid ≡ old ++ whole_records it.left.core.output) → (cut : CutByMemory deck lines (files_in before) Tells old new left own own') × BeginsAt cut.comes it.left.at
  want_of_end Tells Now on x reach is ended one =
      let r = reply_of_end (λ due. Now → TakesFront mid new due) is ended in (
        record {
          comes = x.comes;
          reach = x.reach;
          may = x.may;
          due = r.0.output;
          written = inl (subst (λ (k : Reach). IsNext k deck lines (files_in before) x.comes r.0.output) (sym reach) (r.0, r.1, refl));
          taken = λ t. subst (λ (y : List ℕ). TakesFront old new y) (sym r.3) (front_behind old mid new _ r.2 (one t) (r.4 (on t)));
          files_are = x.files_are.others;
        },
        x.at,
      )

  -- a fault of the sink in the report
  pub write_of_end : (Tells Now : Type 0) → (Tells → Now) → (x : IsLeftAt deck (files_in before) it.left left own own') → x.reach ≡ At → IsResult (plain_execution deck.variables deck.statements (files_in before)) (files_in now) it.left
      → IsEndBegun lines it (λ due. Now → TakesPart mid new due) → (Tells → mid ≡ old ++ whole_records it.left.core.output) → (cut : CutBySink deck lines (files_in before) Tells old new left own own') × BeginsAt cut.comes it.left.at
  write_of_end Tells Now on x reach is ended one =
      let r = reply_of_end (λ due. Now → TakesPart mid new due) is ended in (
        record {
          comes = x.comes;
          reach = x.reach;
          may = x.may;
          due = r.0.output;
          next = subst (λ (k : Reach). IsNext k deck lines (files_in before) x.comes r.0.output) (sym reach) (r.0, r.1, refl);
          taken = λ t. let k = r.4 (on t) in
              subst (λ (o : Output). TookBehind old new (whole_records o) r.0.output) x.output
              (k.0, k.1, k.2, r.3 ∙ ap (λ (y : List ℕ). whole_records it.left.core.output ++ y) k.3, taken_both old mid new _ _ (one t) k.4);
          files_are = x.files_are;
        },
        x.at,
      )

  -- a fault of the sink before it
  pub write_of_begun : (Tells : Type 0) → IsLeftBegun deck (files_in before) it.left Tells old mid left own own' → new ≡ mid → (cut : CutBySink deck lines (files_in before) Tells old new left own own') × BeginsAt cut.comes it.left.at
  write_of_begun Tells x still = (
    record {
      comes = x.comes;
      reach = Untold;
      may = tt;
      due = whole_records (step deck.variables x.comes.statement x.comes.before).0.output;
      next = refl;
      taken = λ t. let k = x.begun t in (k.0, k.1, k.2, k.3, still ∙ k.4 ∙ append_assoc old (whole_records x.comes.before.output) k.0);
      files_are = x.files_are;
    },
    x.at,
  )

-- ---- fronts of a reply

-- what a sink took of the output up to a statement is a front of the output of the whole execution
pub front_so_far : (deck : Deck) (files : Files) (old new behind : List ℕ) → TookSome deck files old new
    → TakesFront old new ((plain_execution deck.variables deck.statements files).output.text ++ behind)
front_so_far deck files old new behind (part, rest, so_far, taken) =
    let f = goes_on_behind deck files so_far.comes so_far.reach in
    let text : (plain_execution deck.variables deck.statements files).output.text ≡ (part ++ rest) ++ f.more = f.text ∙ ap (λ x. x ++ f.more) (sym so_far.output_is) in
    front_more old new _ behind (subst (λ (x : List ℕ). TakesFront old new x) (sym text) (front_more old new (part ++ rest) f.more (part, rest, refl, taken)))

pub some_is : {A : Type 0} (o : Option A) → IsSome o → (a : A) × (o ≡ Some a)
some_is None s = cc
some_is (Some a) s = (a, refl)

-- a deck that is carried out has a reply
pub part_of_run : (deck : Deck) (lines : Lines) (files : Files) (old new : List ℕ) → IsSound deck
    → ((behind : List ℕ) → TakesFront old new ((plain_execution deck.variables deck.statements files).output.text ++ behind)) → TookRun deck lines files old new
part_of_run deck lines files old new sound front =
    let r = plain_execution deck.variables deck.statements files in
    let ends = some_is r.ending (deck_ends deck files sound) in (
      record { status = status_of ends.0; output = report_of deck lines r ends.0; files = r.files },
      record { ending = ends.0; ends = ends.1; status = refl; output = refl; files_left = refl },
      front (open_feed r.output ++ (lines r.tells ++ (status_text (status_of ends.0) ++ variable_lines deck.variables r.vars))),
    )

-- and one that was made
pub part_of_made : (deck : Deck) (seed count : ℕ) (files : Files) (old new : List ℕ) → IsSound deck
    → ((behind : List ℕ) → TakesFront old new ((plain_execution deck.variables deck.statements no_files).output.text ++ behind)) → TookMade deck seed count files old new
part_of_made deck seed count files old new sound front =
    let r = plain_execution deck.variables deck.statements no_files in
    let ends = some_is r.ending (deck_ends deck no_files sound) in (
      record { status = status_of ends.0; output = made_report seed count deck r ends.0; files = files },
      record { ending = ends.0; ends = ends.1; status = refl; output = refl; files_left = refl },
      front (open_feed r.output ++ made_lines seed count deck r ends.0),
    )

-- what it took of the report of a deck that was made
pub made_front : {F : Type 0} (deck : Deck) (seed count : ℕ) (it : Carried F) (files now : Files) (before : Held) (old mid new : List ℕ) → IsSound deck → it.left.deck ≡ deck → before ≡ map.empty
    → TookSome deck (files_in before) old mid → (it.settled ≡ Ok tt → it.left.over ≡ false → IsResult (plain_execution deck.variables deck.statements (files_in before)) now it.left)
    → (it.settled ≡ Ok tt → mid ≡ old ++ whole_records it.left.core.output) → IsMadeFront seed count it now mid new → TookMade deck seed count files old new
made_front deck seed count it files now before old mid new sound same none some result whole_is (inl e) =
    part_of_made deck seed count files old new sound
    (λ behind. front_so_far deck no_files old new behind (subst (λ (x : List ℕ). TookSome deck no_files old x) (sym e) (subst (λ (f : Files). TookSome deck f old mid) (none_there before none) some)))
made_front deck seed count it files now before old mid new sound same none some result whole_is (inr m) =
    let whole : List ℕ = whole_records it.left.core.output in
    let text : List ℕ = open_record it.left.core.output ++ made_text seed count (ending_of m.ending) it.left now in
    let h : HasMade seed count it.left now (status_of (ending_of m.ending)) (Unit {0}) whole (whole ++ text) =
    record { going = m.going; ending = m.ending; ends = m.ends; status_is = refl; output = λ _. refl } in
    let r = makes deck seed count it.left files now before (status_of (ending_of m.ending)) (Unit {0}) (Unit {0}) [] whole (whole ++ text) (λ t. t) same none (result m.settled m.going) h (λ _. refl) in
    (r.reply, r.is, subst (λ (x : List ℕ). TakesFront old new x) (r.output tt) (front_behind old mid new whole text (whole_is m.settled) m.taken))
