-- What the program's bays, jobs and answers are as plain data before and behind each job.
use Rattle.std.proofs.Common.{◌≡◌, ℕ, ◌<◌, ◌↔◌, Bool, true, false, List, length, Option, Some, None, Ok, Err, IsTrue, IsSome, is_some, refl, sym, ap, ◌∙◌, subst, arith, if◌then◌else◌}
use Rattle.std.specs.Prelude.{IfSome, option_map}
use Rattle.fj_value.specs.declared.condition.Condition.{Condition}
use Rattle.fj_value.specs.declared.condition.Condition.TheVariants.{Fine, Error}
use Rattle.fj_outside.specs.Faults.{Rose}
use Rattle.fj_outside.specs.declared.errors.Stop.{Stop}
use Rattle.fj_outside.specs.declared.errors.Stop.TheVariants.{Failed}
use Rattle.fj_span.specs.Change.{KeepsUpToChange}
use Rattle.fj_span.proofs.KeptLemmas.{keeps_whole}
use Rattle.fj_connect.specs.Connection.{Connection}
use Rattle.fj_connect.specs.Linked.{Linked, connection_of}
use Rattle.fj_connect.specs.Positions.{ended, moved}
use Rattle.fj_connect.specs.declared.spot.Positioning.{Positioning}
use Rattle.fj_connect.specs.declared.spot.Look.{Look}
use Rattle.fj_value.specs.declared.edit.EditModes.{EditModes}
use Rattle.fj_transfer.specs.declared.transfer.Transfer.{Transfer}
use Rattle.fj_transfer.specs.Printing.{control_of}
use Rattle.fj_transfer.specs.Transfer.{in_error, transfer_by, transfer}
use Rattle.fj_transfer.specs.Performing.{comes_to, LeavesStatement}
use Rattle.fj_slot.specs.Serving.{Serves}
use Rattle.fj_bay.specs.Bay.{Bay as PlainBay}
use Rattle.fj_bay.specs.Halt.{halt_behind, unless_halted}
use Rattle.fj_bay.specs.Jobs.{items_for, Job as PlainJob, attach, detach, move, go, change, flush, look, resume, done, skipped}
use Rattle.fj_bay.specs.Serving.{serve, moved_so, with_done}
use Rattle.fj_bay.specs.Spoilt.{first_difference, first_change, bytes_left, AgreeBelow, MayStop, IsSpoilt}
use Rattle.fj_bay.specs.Plain.{place_of, state_of, moving_of, looked_of, task_of, reply_of}
use Rattle.fj_bay.specs.Meaning.{bay_meaning, file_faults}
use Rattle.fj_bay.specs.declared.bay.Bay.{Bay}
use Rattle.fj_bay.specs.declared.job.Job.{Job}
use Rattle.fj_bay.specs.declared.job.Job.TheVariants as job
use Rattle.fj_bay.specs.declared.job.Answer.{Answer}
use Rattle.fj_bay.specs.declared.job.Answer.TheVariants as answer
use Rattle.fj_bay.proofs.Controlled.{control_same, items_same}
use Rattle.fj_bay.proofs.Differences.{finds_first_difference}

-- what a stopped change leaves agrees below the first byte that was to change
pub agree : (old due new : List ℕ) → KeepsUpToChange old due new → (o : Option ℕ) → first_difference old due ≡ o → AgreeBelow o old new
agree old due new kept None e = keeps_whole old due new kept (sym ((finds_first_difference old due).0.0 e))
agree old due new kept (Some n) e = kept n (sym ((finds_first_difference old due).1 n e).0)

above : (before now : ℕ) → Rose before now → 0 < now
above before now rose = omega (arith, rose)

mapped : (f : Option Connection → PlainJob) (o : Option (Option Connection)) (t : PlainJob) → option_map f o ≡ Some t → (p : Option Connection) × (o ≡ Some p) × (f p ≡ t)
mapped f None t e = cc
mapped f (Some p) t e = let same : f p ≡ t = cc in (p, refl, same)

pub for_task : (P : PlainJob → Type 0) (t u : PlainJob) → Some t ≡ Some u → P t → P u
for_task P t u e h = let same : t ≡ u = cc in subst P same h

-- a transfer that was carried out or skipped, as plain data
moving_left : (old new : Transfer) → LeavesStatement old new → (c : Connection) (condition : Condition) → moving_of new ≡ with_done (moving_of old) (comes_to c new condition)
moving_left old new left c condition =
    let same : control_of new.spec.layout (items_for new.spec.input new.moved) ≡ control_of old.spec.layout (items_for old.spec.input old.moved) =
    ap (λ s. control_of s.layout (items_for s.input new.moved)) left.spec ∙ ap (control_of old.spec.layout) (items_same old.spec.input old.moved new.moved left.order left.places) in
    λ i. record {
      stmt = left.stmt i;
      tag = (left.tag i).0;
      spec = left.spec i;
      control = same i;
      moved = record { cells = new.moved.cells; order = left.order i };
      size = left.size i;
      count = new.count;
    }

module _ {F : Type 0} (told : F → Bool) (bytes : F → List ℕ) (count : F → ℕ) (tells : F → Type 0) (decided : (it : F) → (IsTrue (told it) → tells it) × (tells it → IsTrue (told it))) where
  -- as plain data
  abbrev pub plain : Bay F → Linked F → PlainBay
  plain bay c = record { connection = Some (connection_of bytes c); halt = bay.halt }

  abbrev pub plain_empty : Bay F → PlainBay
  plain_empty bay = record { connection = None; halt = bay.halt }

  pub empty_state : (bay : Bay F) (s : PlainBay) → bay.connection ≡ None → state_of told bytes bay ≡ Some s → plain_empty bay ≡ s
  empty_state bay s e st =
      let h : Some (plain_empty bay) ≡ Some s = ap (λ o. option_map (λ (p : Option Connection). record { connection = p; halt = bay.halt }) (place_of told bytes o)) (sym e) ∙ st in
      cc

  told_state : (bay : Bay F) (c : Linked F) (b : Bool) → told c.file ≡ b → (s : PlainBay)
      → option_map (λ (p : Option Connection). record { connection = p; halt = bay.halt }) (option_map Some (if b then Some (connection_of bytes c) else None)) ≡ Some s
      → tells c.file × (plain bay c ≡ s)
  told_state bay c true t s st = let same : plain bay c ≡ s = cc in ((decided c.file).0 t, same)
  told_state bay c false t s st = cc

  pub full_state : (bay : Bay F) (c : Linked F) (s : PlainBay) → bay.connection ≡ Some c → state_of told bytes bay ≡ Some s → tells c.file × (plain bay c ≡ s)
  full_state bay c s e st =
      told_state bay c (told c.file) refl s (ap (λ o. option_map (λ (p : Option Connection). record { connection = p; halt = bay.halt }) (place_of told bytes o)) (sym e) ∙ st)

  pub tells_state : (bay : Bay F) (c : Linked F) → tells c.file → bay.connection ≡ Some c → state_of told bytes bay ≡ Some (plain bay c)
  tells_state bay c t e =
      ap (λ o. option_map (λ (p : Option Connection). record { connection = p; halt = bay.halt }) (place_of told bytes o)) e
      ∙ ap (λ b. option_map (λ (p : Option Connection). record { connection = p; halt = bay.halt }) (option_map Some (if b then Some (connection_of bytes c) else None))) ((decided c.file).1 t)

  -- what a stop leaves
  pub stopped : (old new : Bay F) (c d : Linked F) (s : PlainBay) (t : PlainJob) (j : Job F) (stop : Stop) (due : List ℕ) → old.connection ≡ Some c → state_of told bytes old ≡ Some s → new.connection ≡ Some d
      → MayStop t → bytes_left (serve (plain old c) t) ≡ due → (tells c.file ↔ tells d.file) → (tells c.file → KeepsUpToChange (bytes c.file) due (bytes d.file)) → d.name ≡ c.name → d.modes ≡ c.modes
      → (stop ≡ Failed → Rose (count c.file) (count d.file)) → Serves (bay_meaning told bytes count) s t (Err stop) new j
  stopped old new c d s t j stop due full st after may left telling kept name modes rose =
      let two = full_state old c s full st in
      let is = tells_state new d (telling.0 two.0) after in
      subst (λ v. IsSome (state_of told bytes new) × IfSome (state_of told bytes new) (λ p. IsSpoilt v t stop p (file_faults count new.connection))) two.1
      (subst (λ o. IsSome o × IfSome o (λ p. IsSpoilt (plain old c) t stop p (file_faults count new.connection))) (sym is) (
        refl,
        record {
          before = connection_of bytes c;
          full = refl;
          may = may;
          after = connection_of bytes d;
          keeps = refl;
          named = name;
          modes = modes;
          agrees = agree (bytes c.file) (bytes_left (serve (plain old c) t)) (bytes d.file) (subst (λ l. KeepsUpToChange (bytes c.file) l (bytes d.file)) (sym left) (kept two.0)) (first_change (plain old c) (plain old c).connection t) refl;
          failed = λ e. subst (λ o. 0 < file_faults count o) (sym after) (above (count c.file) (count d.file) (rose e));
        },
      ))

  -- what is carried out on a connection
  pub served : (old new : Bay F) (c d : Linked F) (s : PlainBay) (t : PlainJob) (j : Job F) (a : Answer) → old.connection ≡ Some c → state_of told bytes old ≡ Some s → new.connection ≡ Some d → (tells c.file ↔ tells d.file)
      → (tells c.file → (plain new d ≡ (serve (plain old c) t).engine) × (task_of told bytes j ≡ Some (serve (plain old c) t).job) × (reply_of a ≡ (serve (plain old c) t).answer))
      → Serves (bay_meaning told bytes count) s t (Ok a) new j
  served old new c d s t j a full st after telling by =
      let two = full_state old c s full st in
      let got = by two.0 in
      subst (λ v. Serves (bay_meaning told bytes count) v t (Ok a) new j) two.1 (tells_state new d (telling.0 two.0) after ∙ ap Some got.0, got.1, got.2)

  -- what leaves an empty bay as it is
  pub served_empty : (bay : Bay F) (s : PlainBay) (t : PlainJob) (j : Job F) (a : Answer) → bay.connection ≡ None → state_of told bytes bay ≡ Some s
      → (plain_empty bay ≡ (serve (plain_empty bay) t).engine) × (task_of told bytes j ≡ Some (serve (plain_empty bay) t).job) × (reply_of a ≡ (serve (plain_empty bay) t).answer)
      → Serves (bay_meaning told bytes count) s t (Ok a) bay j
  served_empty bay s t j a none st got =
      let is = empty_state bay s none st in
      subst (λ v. Serves (bay_meaning told bytes count) v t (Ok a) bay j) is (st ∙ ap Some (sym is ∙ got.0), got.1, got.2)

  pub go_empty : (bay : Bay F) (s : PlainBay) (how : Positioning) → bay.connection ≡ None → state_of told bytes bay ≡ Some s → Serves (bay_meaning told bytes count) s (go how) (Ok (answer.Done (Error 1))) bay (job.Go how)
  unfolding serve
  go_empty bay s how none st = served_empty bay s (go how) (job.Go how) (answer.Done (Error 1)) none st (refl, refl, refl)

  pub go_full : (old new : Bay F) (c d : Linked F) (s : PlainBay) (how : Positioning) (condition : Condition) → old.connection ≡ Some c → state_of told bytes old ≡ Some s → new.connection ≡ Some d → new.halt ≡ old.halt → (tells c.file ↔ tells d.file)
      → (tells c.file → (connection_of bytes d, condition) ≡ moved (connection_of bytes c) how) → Serves (bay_meaning told bytes count) s (go how) (Ok (answer.Done condition)) new (job.Go how)
  unfolding serve
  go_full old new c d s how condition full st after halt telling by =
      served old new c d s (go how) (job.Go how) (answer.Done condition) full st after telling
      (λ tell. ((λ i. record { connection = Some (by tell i).0; halt = halt i }), refl, ap (λ two. done two.1) (by tell)))

  pub go_stopped : (old new : Bay F) (c d : Linked F) (s : PlainBay) (how : Positioning) (stop : Stop) → old.connection ≡ Some c → state_of told bytes old ≡ Some s → new.connection ≡ Some d → (tells c.file ↔ tells d.file)
      → (tells c.file → KeepsUpToChange (bytes c.file) (moved (connection_of bytes c) how).0.bytes (bytes d.file)) → d.name ≡ c.name → d.modes ≡ c.modes → (stop ≡ Failed → Rose (count c.file) (count d.file))
      → Serves (bay_meaning told bytes count) s (go how) (Err stop) new (job.Go how)
  unfolding serve
  go_stopped old new c d s how stop full st after telling kept name modes rose =
      stopped old new c d s (go how) (job.Go how) stop (moved (connection_of bytes c) how).0.bytes full st after tt refl telling kept name modes rose

  pub change_empty : (bay : Bay F) (s : PlainBay) (edit : EditModes) → bay.connection ≡ None → state_of told bytes bay ≡ Some s → Serves (bay_meaning told bytes count) s (change edit) (Ok (answer.Done (Error 1))) bay (job.Change edit)
  unfolding serve
  change_empty bay s edit none st = served_empty bay s (change edit) (job.Change edit) (answer.Done (Error 1)) none st (refl, refl, refl)

  pub change_full : (old new : Bay F) (c : Linked F) (s : PlainBay) (edit : EditModes) → old.connection ≡ Some c → state_of told bytes old ≡ Some s → new.connection ≡ Some (record c { modes = record c.modes { edit = edit } }) → new.halt ≡ old.halt
      → Serves (bay_meaning told bytes count) s (change edit) (Ok (answer.Done Fine)) new (job.Change edit)
  unfolding serve
  change_full old new c s edit full st after halt =
      served old new c (record c { modes = record c.modes { edit = edit } }) s (change edit) (job.Change edit) (answer.Done Fine) full st after (λ t. t, λ t. t)
      (λ tell. ((λ i. record { connection = Some (connection_of bytes (record c { modes = record c.modes { edit = edit } })); halt = halt i }), refl, refl))

  pub look_empty : (bay : Bay F) (s : PlainBay) (place : Option Look) → bay.connection ≡ None → state_of told bytes bay ≡ Some s
      → Serves (bay_meaning told bytes count) s (look (option_map looked_of place)) (Ok (answer.Done (Error 1))) bay (job.Look place)
  unfolding serve
  look_empty bay s place none st = served_empty bay s (look (option_map looked_of place)) (job.Look place) (answer.Done (Error 1)) none st (refl, refl, refl)

  pub look_full : (bay : Bay F) (c : Linked F) (s : PlainBay) (place : Option Look) (found : Look) → bay.connection ≡ Some c → state_of told bytes bay ≡ Some s → found.spot ≡ c.spot → (tells c.file → found.size ≡ length (bytes c.file))
      → Serves (bay_meaning told bytes count) s (look (option_map looked_of place)) (Ok (answer.Done Fine)) bay (job.Look (Some found))
  unfolding serve
  look_full bay c s place found full st spot size =
      served bay bay c c s (look (option_map looked_of place)) (job.Look (Some found)) (answer.Done Fine) full st full (λ t. t, λ t. t)
      (λ tell. (refl, (λ i. Some (look (Some (record { spot = spot i; size = size tell i })))), refl))

  pub detach_empty : (bay : Bay F) (s : PlainBay) (t : PlainJob) (place : Option (Linked F)) → bay.connection ≡ None → state_of told bytes bay ≡ Some s → task_of told bytes (job.Detach place) ≡ Some t
      → Serves (bay_meaning told bytes count) s t (Ok (answer.Done Fine)) bay (job.Detach place)
  unfolding serve
  detach_empty bay s t place none st e =
      let found = mapped detach (place_of told bytes place) t e in
      subst (λ u. Serves (bay_meaning told bytes count) s u (Ok (answer.Done Fine)) bay (job.Detach place)) found.2
      (served_empty bay s (detach found.0) (job.Detach place) (answer.Done Fine) none st (refl, ap (option_map detach) found.1, refl))

  pub detach_full : (old new : Bay F) (c d : Linked F) (s : PlainBay) (t : PlainJob) (place : Option (Linked F)) → old.connection ≡ Some c → state_of told bytes old ≡ Some s → task_of told bytes (job.Detach place) ≡ Some t
      → new.connection ≡ None → new.halt ≡ old.halt → (tells c.file ↔ tells d.file) → (tells c.file → connection_of bytes d ≡ ended (connection_of bytes c))
      → Serves (bay_meaning told bytes count) s t (Ok (answer.Done Fine)) new (job.Detach (Some d))
  unfolding serve
  detach_full old new c d s t place full st e after halt telling by =
      let found = mapped detach (place_of told bytes place) t e in
      let two = full_state old c s full st in
      subst (λ u. Serves (bay_meaning told bytes count) s u (Ok (answer.Done Fine)) new (job.Detach (Some d))) found.2
      (subst (λ v. Serves (bay_meaning told bytes count) v (detach found.0) (Ok (answer.Done Fine)) new (job.Detach (Some d))) two.1 (
        (λ i. option_map (λ (p : Option Connection). record { connection = p; halt = halt i }) (place_of told bytes (after i))),
        ap (λ b. option_map detach (option_map Some (if b then Some (connection_of bytes d) else None))) ((decided d.file).1 (telling.0 two.0))
            ∙ ap (λ x. Some (detach (Some x))) (by two.0),
        refl,
      ))

  pub detach_stopped : (old new : Bay F) (c d : Linked F) (s : PlainBay) (t : PlainJob) (place : Option (Linked F)) (stop : Stop) → old.connection ≡ Some c → state_of told bytes old ≡ Some s → task_of told bytes (job.Detach place) ≡ Some t
      → new.connection ≡ Some d → (tells c.file ↔ tells d.file) → (tells c.file → KeepsUpToChange (bytes c.file) (ended (connection_of bytes c)).bytes (bytes d.file)) → d.name ≡ c.name → d.modes ≡ c.modes → (stop ≡ Failed → Rose (count c.file) (count d.file))
      → Serves (bay_meaning told bytes count) s t (Err stop) new (job.Detach place)
  unfolding serve
  detach_stopped old new c d s t place stop full st e after telling kept name modes rose =
      let found = mapped detach (place_of told bytes place) t e in
      subst (λ u. Serves (bay_meaning told bytes count) s u (Err stop) new (job.Detach place)) found.2
      (stopped old new c d s (detach found.0) (job.Detach place) stop (ended (connection_of bytes c)).bytes full st after tt refl telling kept name modes rose)

  pub move_empty : (bay : Bay F) (s : PlainBay) (t : Transfer) → bay.connection ≡ None → state_of told bytes bay ≡ Some s → Serves (bay_meaning told bytes count) s (move (moving_of t)) (Ok (answer.Done (Error 1))) bay (job.Move t)
  unfolding serve
  move_empty bay s t none st = served_empty bay s (move (moving_of t)) (job.Move t) (answer.Done (Error 1)) none st (refl, refl, refl)

  -- skipped in a halt
  pub move_skipped : (bay : Bay F) (c : Linked F) (s : PlainBay) (t u : Transfer) (cause : Condition) → bay.connection ≡ Some c → bay.halt ≡ Some cause → state_of told bytes bay ≡ Some s
      → ((x : Connection) → comes_to x u cause ≡ in_error x t.spec.input t.moved.cells cause) → LeavesStatement t u → Serves (bay_meaning told bytes count) s (move (moving_of t)) (Ok (answer.Skipped cause)) bay (job.Move u)
  unfolding serve
  move_skipped bay c s t u cause full halt st undone left =
      let x = connection_of bytes c in
      let mv = moving_of t in
      served bay bay c c s (move mv) (job.Move u) (answer.Skipped cause) full st full (λ t. t, λ t. t)
      (λ tell. subst (λ h. let r = moved_so mv h (unless_halted h x t.spec.input t.moved.cells (transfer_by (λ n. mv.control) x t.spec t.moved)) in
      (record { connection = Some x; halt = h } ≡ r.engine) × (Some (move (moving_of u)) ≡ Some r.job) × (skipped cause ≡ r.answer)) (sym halt)
      (refl, ap (λ m. Some (move m)) (moving_left t u left x cause) ∙ ap (λ d. Some (move (with_done mv d))) (undone x), refl))

  -- carried out
  pub move_full : (old new : Bay F) (c d : Linked F) (s : PlainBay) (t u : Transfer) (condition : Condition) → old.connection ≡ Some c → old.halt ≡ None → state_of told bytes old ≡ Some s → new.connection ≡ Some d
      → new.halt ≡ halt_behind None condition → (tells c.file ↔ tells d.file) → (tells c.file → comes_to (connection_of bytes d) u condition ≡ transfer (connection_of bytes c) t.spec t.moved) → LeavesStatement t u
      → Serves (bay_meaning told bytes count) s (move (moving_of t)) (Ok (answer.Done condition)) new (job.Move u)
  unfolding serve
  move_full old new c d s t u condition full halt st after sets telling by left =
      let x = connection_of bytes c in
      let y = connection_of bytes d in
      let mv = moving_of t in
      served old new c d s (move mv) (job.Move u) (answer.Done condition) full st after telling
      (λ tell.
      let is : comes_to y u condition ≡ transfer_by (λ n. mv.control) x t.spec t.moved = by tell ∙ sym (control_same (control_of t.spec.layout) t.moved x t.spec) in
      subst (λ h. let r = moved_so mv h (unless_halted h x t.spec.input t.moved.cells (transfer_by (λ n. mv.control) x t.spec t.moved)) in
      (record { connection = Some y; halt = new.halt } ≡ r.engine) × (Some (move (moving_of u)) ≡ Some r.job) × (done condition ≡ r.answer)) (sym halt)
      (subst (λ z. let r = moved_so mv None z in (record { connection = Some y; halt = new.halt } ≡ r.engine) × (Some (move (moving_of u)) ≡ Some r.job) × (done condition ≡ r.answer)) is
      ((λ i. record { connection = Some y; halt = sets i }), ap (λ m. Some (move m)) (moving_left t u left y condition), refl)))

  pub move_stopped : (old new : Bay F) (c d : Linked F) (s : PlainBay) (t u : Transfer) (stop : Stop) → old.connection ≡ Some c → old.halt ≡ None → state_of told bytes old ≡ Some s → new.connection ≡ Some d
      → (tells c.file ↔ tells d.file) → (tells c.file → KeepsUpToChange (bytes c.file) (transfer (connection_of bytes c) t.spec t.moved).connection.bytes (bytes d.file)) → d.name ≡ c.name → d.modes ≡ c.modes
      → (stop ≡ Failed → Rose (count c.file) (count d.file)) → Serves (bay_meaning told bytes count) s (move (moving_of t)) (Err stop) new (job.Move u)
  unfolding serve
  move_stopped old new c d s t u stop full halt st after telling kept name modes rose =
      let x = connection_of bytes c in
      let mv = moving_of t in
      stopped old new c d s (move mv) (job.Move u) stop (transfer x t.spec t.moved).connection.bytes full st after tt
      (ap (λ h. (unless_halted h x t.spec.input t.moved.cells (transfer_by (λ n. mv.control) x t.spec t.moved)).connection.bytes) halt
      ∙ ap (λ z. z.connection.bytes) (control_same (control_of t.spec.layout) t.moved x t.spec))
      telling kept name modes rose

  pub attached : (old new : Bay F) (brought left : Option (Linked F)) (condition : Condition) → (IsSome old.connection → (new ≡ old) × (left ≡ brought) × (condition ≡ Error 7))
      → (old.connection ≡ None → (new ≡ record old { connection = brought }) × (left ≡ None) × (condition ≡ Fine)) → (s : PlainBay) (t : PlainJob) → state_of told bytes old ≡ Some s → task_of told bytes (job.Attach brought) ≡ Some t
      → Serves (bay_meaning told bytes count) s t (Ok (answer.Done condition)) new (job.Attach left)
  unfolding serve
  attached old new brought left condition refused taken s t st e =
      let found = mapped attach (place_of told bytes brought) t e in
      subst (λ u. Serves (bay_meaning told bytes count) s u (Ok (answer.Done condition)) new (job.Attach left)) found.2 (by found.0 found.1 old.connection refl)
    where
      by : (p : Option Connection) → place_of told bytes brought ≡ Some p → (o : Option (Linked F)) → old.connection ≡ o → Serves (bay_meaning told bytes count) s (attach p) (Ok (answer.Done condition)) new (job.Attach left)
      by p is (Some c) full =
          let got = refused (ap is_some full) in
          subst (λ b. Serves (bay_meaning told bytes count) s (attach p) (Ok (answer.Done condition)) b (job.Attach left)) (sym got.0)
          (subst (λ l. Serves (bay_meaning told bytes count) s (attach p) (Ok (answer.Done condition)) old (job.Attach l)) (sym got.1)
          (subst (λ a. Serves (bay_meaning told bytes count) s (attach p) (Ok (answer.Done a)) old (job.Attach brought)) (sym got.2)
          (served old old c c s (attach p) (job.Attach brought) (answer.Done (Error 7)) full st full (λ x. x, λ x. x) (λ tell. (refl, ap (option_map attach) is, refl)))))
      by p is None none =
          let got = taken none in
          subst (λ b. Serves (bay_meaning told bytes count) s (attach p) (Ok (answer.Done condition)) b (job.Attach left)) (sym got.0)
          (subst (λ l. Serves (bay_meaning told bytes count) s (attach p) (Ok (answer.Done condition)) (record old { connection = brought }) (job.Attach l)) (sym got.1)
          (subst (λ a. Serves (bay_meaning told bytes count) s (attach p) (Ok (answer.Done a)) (record old { connection = brought }) (job.Attach None)) (sym got.2)
          (subst (λ v. Serves (bay_meaning told bytes count) v (attach p) (Ok (answer.Done Fine)) (record old { connection = brought }) (job.Attach None)) (empty_state old s none st)
          (ap (option_map (λ (q : Option Connection). record { connection = q; halt = old.halt })) is, refl, refl))))

  pub flushed : (bay : Bay F) (s : PlainBay) (t : PlainJob) → state_of told bytes bay ≡ Some s → Some flush ≡ Some t → Serves (bay_meaning told bytes count) s t (Ok (answer.Done Fine)) bay job.Flush
  unfolding serve
  flushed bay s t st e = for_task (λ u. Serves (bay_meaning told bytes count) s u (Ok (answer.Done Fine)) bay job.Flush) flush t e (st, refl, refl)

  halt_ended : (halt : Option Condition) (o : Option (Option Connection)) (s : PlainBay) → option_map (λ (p : Option Connection). record { connection = p; halt = halt }) o ≡ Some s
      → option_map {U = PlainBay} (λ (p : Option Connection). record { connection = p; halt = None }) o ≡ Some (record s { halt = None })
  halt_ended halt None s e = cc
  halt_ended halt (Some p) s e = let same : ◌≡◌ {A = PlainBay} (record { connection = p; halt = halt }) s = cc in ap (λ (v : PlainBay). Some (record v { halt = None })) same

  pub resumed : (bay : Bay F) (s : PlainBay) (t : PlainJob) → state_of told bytes bay ≡ Some s → Some resume ≡ Some t → Serves (bay_meaning told bytes count) s t (Ok (answer.Done Fine)) (record bay { halt = None }) job.Resume
  unfolding serve
  resumed bay s t st e =
      for_task (λ u. Serves (bay_meaning told bytes count) s u (Ok (answer.Done Fine)) (record bay { halt = None }) job.Resume) resume t e
      (halt_ended bay.halt (place_of told bytes bay.connection) s st, refl, refl)
