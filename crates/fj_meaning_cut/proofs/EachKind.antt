-- Each kind of statement: a file that it is not about is as before after each of its jobs.
use Rattle.std.proofs.Common.{◌≡◌, ◌⊎◌, ℕ, ℤ, ◌<◌, arith, Bool, true, false, not, List, [], ◌∷◌, Option, Some, None, slice_get, refl, sym, ap, ◌∙◌, subst, inl, inr, ◌&&◌}
use Rattle.std.specs.Prelude.{◌==◌, ◌≢◌, if◌then◌else◌, filter, nat_lt, unwrap_or, option_map, option_and_then, Ok}
use Rattle.std.specs.List.{list_any}
use Rattle.std.proofs.lemmas.Bool.Decides.{eqb_tells}
use Rattle.fj_value.specs.declared.place.Place.{Place}
use Rattle.fj_value.specs.declared.condition.Condition.{Condition}
use Rattle.fj_value.specs.declared.condition.Condition.TheVariants.{Fine, Error}
use Rattle.fj_modes.specs.declared.modes.Modes.{Modes}
use Rattle.fj_modes.specs.declared.specifiers.OpenSpec.{OpenSpec}
use Rattle.fj_modes.specs.declared.specifiers.FileStatus.TheVariants.{Unknown}
use Rattle.fj_modes.specs.declared.asked.Wanted.{Wanted}
use Rattle.fj_modes.specs.declared.motion.Motion.{Motion}
use Rattle.fj_modes.specs.declared.motion.Motion.TheVariants as motion
use Rattle.fj_statement.specs.declared.unit.UnitRef.{UnitRef}
use Rattle.fj_statement.specs.declared.unit.UnitRef.TheVariants as unit
use Rattle.fj_moved.specs.declared.moved.Moved.{Moved}
use Rattle.fj_control.specs.Steps.{Given}
use Rattle.fj_connect.specs.Connection.{Connection}
use Rattle.fj_connect.specs.declared.spot.Positioning.TheVariants as positioning
use Rattle.fj_connect.specs.Opening.{bytes_opened}
use Rattle.fj_statement.specs.declared.deck.Variable.{Variable}
use Rattle.fj_statement.specs.declared.statement.Statement.{Statement}
use Rattle.fj_statement.specs.declared.statement.Statement.TheVariants as statement
use Rattle.fj_statement.specs.declared.statement.Transfer.{Transfer}
use Rattle.fj_bay.specs.Halt.{halts}
use Rattle.fj_bay.specs.Jobs.{Job, attach, detach, go, change, flush, look, resume}
use Rattle.fj_meaning.specs.Needs.{number_of, number_given, unit_about}
use Rattle.fj_meaning.specs.State.{Files, Entry, without_file}
use Rattle.fj_meaning.specs.Telling.{is_asynchronous, condition_of}
use Rattle.fj_meaning.specs.Transfers.{moved_in}
use Rattle.fj_meaning.specs.Connecting.{file_due}
use Rattle.fj_meaning.specs.Statement.{Stated, file_asked}
use Rattle.fj_meaning.proofs.Units.{bytes_differ}
use Rattle.fj_meaning_jobs.specs.Core.{Core, Connected, connected_at, unit_named, with_connected, inserted, without_connected}
use Rattle.fj_meaning_jobs.specs.Desks.{Desk, carry, log_length, most_slots}
use Rattle.fj_meaning_jobs.specs.Desks as desks
use Rattle.fj_meaning_jobs.specs.Desking.{connection_at, all_left, told_core}
use Rattle.fj_meaning_jobs.specs.Doing.{Doing, finishes, gives, awaits}
use Rattle.fj_meaning_jobs.specs.Acting.{finishes_behind, transferred, transfer_at, keeps, disconnected, detaches, closes, closes_anyway, all_closed, changes, attaches, connects, opens_unit, job_of, moves, asks_connection, inquires, if_numbered, unit_at, own, doing}
use Rattle.fj_meaning_jobs.proofs.Apart.{Each, each_append, each_both, each_filter, each_imp, each_map, Differs, Apart}
use Rattle.fj_meaning_jobs.proofs.Carrying.{carry_other, carry_later}
use Rattle.fj_meaning_jobs.proofs.Opening.{gone_differs}
use Rattle.fj_meaning_jobs.proofs.Walking.{either, unit_by, connects_by, open_by, doing_by}
use Rattle.fj_meaning_turns.specs.Turns.{halted_slots, ends_halts, doing_told}
use Rattle.fj_meaning_turns.proofs.Seated.{found_number}
use Rattle.fj_meaning_cut.specs.Others.{IsHoused, names_of, opens_on, file_opened, file_about}
use Rattle.fj_meaning_cut.proofs.Through.{through, through_map, through_same, one_same, between}
use Rattle.fj_meaning_cut.proofs.Units.{each_at, none_at, only, each_found, found_behind, apart_from}
use Rattle.fj_meaning_cut.proofs.Carried.{Idles, resume_idles, flush_idles, look_idles, idle_there}
use Rattle.fj_meaning_cut.proofs.Touching.{IsHome, touch, at, Other, all_is, still, at_slot, same_left, idle_at, change_idles, backspace_idles, rewind_idles, brought, Stand, stand_same}
use Rattle.fj_meaning_cut.proofs.Housed.{home_housed, each_behind, each_idle, brought_housed, seat_in}
use Rattle.fj_meaning_cut.proofs.Detached.{gone_out, gone_stand, gone_left}
use Rattle.fj_meaning_cut.proofs.Connecting.{named_due, opens_new, opens_other}

-- A file, and what it is to be; a fact by which the statement does not open it, and one by which the statement is not about it.
module _ (name : List ℕ) (due : Option (List ℕ)) (NotOpened NotAbout : Type 0) where
  abbrev pub IsDue : List Desk → Core → Type 0
  IsDue ds core = all_left ds core.units core.files name ≡ due

  -- at a point where no job is awaited
  pub record Point (ds : List Desk) (us : List Connected) (files : Files) : Type 0 where
    pub housed : Each (IsHoused ds) us
    pub is_due : NotAbout → all_left ds us files name ≡ due

  -- at a point where one is
  pub record AtWait (ds : List Desk) (core : Core) : Type 0 where
    pub homes : Each (IsHome ds) core.units
    pub is_due : NotOpened → IsDue ds core

  -- after each job
  abbrev pub Stays : List Desk → Doing → Type 0
  Stays ds (finishes core condition) = Point ds core.units core.files
  Stays ds (gives slot job core next) = Point ds core.units core.files × Stays (carry ds slot job) (next (log_length (slice_get ds slot)))
  Stays ds (awaits slot job core next) = AtWait ds core × Stays (carry ds slot job) (next (desks.outcome ds slot job))

  pub record Ready (ds : List Desk) (core : Core) : Type 0 where
    pub stand : Stand name ds core.units
    pub is_due : IsDue ds core

  ready_wait : (ds : List Desk) (core : Core) → Ready ds core → AtWait ds core
  ready_wait ds core r = record { homes = r.stand.homes; is_due = λ a. r.is_due }

  ready_point : (ds : List Desk) (core : Core) → Ready ds core → Point ds core.units core.files
  ready_point ds core r = record { housed = each_imp (IsHome ds) (IsHoused ds) core.units (home_housed ds) r.stand.homes; is_due = λ b. r.is_due }

  -- a job at the slot of a unit leaves each other file
  job_point : (ds : List Desk) (core : Core) (slot : ℕ) (job : Job) → Ready ds core → (NotAbout → Each (λ x. at name (carry ds slot job) x ≡ at name ds x) core.units) → Point (carry ds slot job) core.units core.files
  job_point ds core slot job r same = record { housed = each_behind ds slot job core.units r.stand.homes; is_due = λ b. same_left name ds (carry ds slot job) core.units core.files (same b) ∙ r.is_due }

  other_point : (ds : List Desk) (core : Core) (u : Connected) (job : Job) → Ready ds core → connected_at core.units u.number ≡ Some u → (NotAbout → Other name u.name) → Point (carry ds u.slot job) core.units core.files
  other_point ds core u job r found other =
      job_point ds core u.slot job r
      (λ b. still name ds u.slot job core.units r.stand.homes (at_slot name ds core.units u r.stand.homes (each_at (IsHome ds) core.units u.number u r.stand.homes found) (other b)))

  -- so does one that leaves all files
  idle_point : (ds : List Desk) (core : Core) (slot : ℕ) (job : Job) → Ready ds core → Idles (touch name) job → Point (carry ds slot job) core.units core.files
  idle_point ds core slot job r h = job_point ds core slot job r (λ b. idle_at name ds slot job core.units h)

  -- ---- READ and WRITE

  behind_stays : (ds : List Desk) (u : Connected) (core : Core) (condition : Condition) → Point ds core.units core.files → Stays ds (finishes_behind u core condition)
  behind_stays ds u core condition h =
      either (Stays ds) (halts condition) _ _ (
        h,
        record {
          housed = each_idle ds u.slot resume core.units (idle_there (λ o. o) ds u.slot resume (resume_idles (λ o. o))) h.housed;
          is_due = λ b. same_left name ds (carry ds u.slot resume) core.units core.files (idle_at name ds u.slot resume core.units (resume_idles (touch name))) ∙ h.is_due b;
        },
      ) h

  transferred_stays : (control : ℕ → List Given) (variables : List Variable) (line : ℕ) (ds : List Desk) (core : Core) (t : Transfer) (moved : Moved) (u : Connected) → Ready ds core
      → connected_at core.units u.number ≡ Some u → (NotAbout → Other name u.name) → Stays ds (transferred control variables line core t moved u)
  transferred_stays control variables line ds core t moved u r found other =
      either (Stays ds) (is_asynchronous t) _ _
      (ready_point ds core r, other_point ds core u _ r found other)
      (record { homes = r.stand.homes; is_due = λ a. r.is_due }, behind_stays (carry ds u.slot _) u _ _ (other_point ds core u _ r found other))

  -- the unit of a number, whose file the statement is about
  own_number : (us : List Connected) (n : ℕ) (u : Connected) → connected_at us n ≡ Some u → connected_at us u.number ≡ Some u
  own_number us n u e = subst (λ k. connected_at us k ≡ Some u) (sym (found_number us n u e)) e

  other_file : (us : List Connected) (n : ℕ) (u : Connected) → connected_at us n ≡ Some u → (NotAbout → names_of us n ≢ Some name) → NotAbout → Other name u.name
  other_file us n u e h b = bytes_differ name u.name (λ q. h b (ap (option_map (λ (x : Connected). x.name)) e ∙ ap Some (sym q)))

  transfer_stays : (control : ℕ → List Given) (variables : List Variable) (line : ℕ) (ds : List Desk) (core : Core) (t : Transfer) (moved : Moved) (to : UnitRef) → Ready ds core
      → (NotAbout → option_and_then (names_of core.units) (number_of to) ≢ Some name) → Stays ds (transfer_at control variables line core t moved to)
  transfer_stays control variables line ds core t moved unit.Star r h = ready_point ds core r
  transfer_stays control variables line ds core t moved (unit.Internal file) r h = ready_point ds core r
  transfer_stays control variables line ds core t moved (unit.Number n) r h =
      unit_by (Stays ds) control variables line core t moved (connected_at core.units n) (λ condition. ready_point ds core r)
      (λ u e. transferred_stays control variables line ds core t moved u r (own_number core.units n u e) (other_file core.units n u e h))
  transfer_stays control variables line ds core t moved (unit.Held place n) r h =
      unit_by (Stays ds) control variables line core t moved (connected_at core.units n) (λ condition. ready_point ds core r)
      (λ u e. transferred_stays control variables line ds core t moved u r (own_number core.units n u e) (other_file core.units n u e h))
  transfer_stays control variables line ds core t moved (unit.New place n) r h =
      unit_by (Stays ds) control variables line core t moved (connected_at core.units n) (λ condition. ready_point ds core r)
      (λ u e. transferred_stays control variables line ds core t moved u r (own_number core.units n u e) (other_file core.units n u e h))

  -- ---- CLOSE

  -- the last job
  detached_stays : (ds : List Desk) (core : Core) (u : Connected) (keep : Bool) (condition : Condition) → Ready ds core → connected_at core.units u.number ≡ Some u → (NotAbout → (keep ≡ keeps u) ⊎ Other name u.name)
      → Stays ds (detaches core u keep (λ new. finishes new condition))
  detached_stays ds core u keep condition r found h = (
    ready_wait ds core r,
    gone_out name ds core.units u r.stand found (Stays behind) core keep (λ new. finishes new condition) (record {
      housed = each_imp (IsHome behind) (IsHoused behind) (without_connected u.number core.units) (home_housed behind) (gone_stand name ds core.units u r.stand found).homes;
      is_due = λ b. gone_left name ds core.units u r.stand found core.files keep (h b) ∙ r.is_due;
    }),
  )
    where
      behind : List Desk
      behind = carry ds u.slot (detach None)

  -- more is done behind it
  detaches_stay : (ds : List Desk) (core : Core) (u : Connected) (next : Core → Doing) → Ready ds core → connected_at core.units u.number ≡ Some u
      → (let new : Core = disconnected core u (keeps u) (desks.outcome ds u.slot (detach None)) in Ready (carry ds u.slot (detach None)) new → Stays (carry ds u.slot (detach None)) (next new))
      → Stays ds (detaches core u (keeps u) next)
  detaches_stay ds core u next r found f = (
    ready_wait ds core r,
    gone_out name ds core.units u r.stand found (Stays (carry ds u.slot (detach None))) core (keeps u) next
        (f (record { stand = gone_stand name ds core.units u r.stand found; is_due = gone_left name ds core.units u r.stand found core.files (keeps u) (inl refl) ∙ r.is_due })),
  )

  close_stays : (ds : List Desk) (core : Core) (keep : Option Bool) (n : ℕ) (o : Option Connected) → Ready ds core → connected_at core.units n ≡ o
      → (keep ≡ Some false → NotAbout → names_of core.units n ≢ Some name) → Stays ds (closes core keep o)
  close_stays ds core keep n None r e h = ready_point ds core r
  close_stays ds core keep n (Some u) r e h = by keep u.modes.scratch refl h
    where
      found : connected_at core.units u.number ≡ Some u
      found = own_number core.units n u e

      by : (keep : Option Bool) (scratch : Bool) → u.modes.scratch ≡ scratch → (keep ≡ Some false → NotAbout → names_of core.units n ≢ Some name)
          → Stays ds (if unwrap_or keep false && scratch then finishes core (Error 4) else detaches core u (unwrap_or keep (keeps u)) (λ new. finishes new Fine))
      by None scratch k g = detached_stays ds core u (keeps u) Fine r found (λ b. inl refl)
      by (Some true) true k g = ready_point ds core r
      by (Some true) false k g = detached_stays ds core u true Fine r found (λ b. inl (sym (ap not k)))
      by (Some false) scratch k g = detached_stays ds core u false Fine r found (λ b. inr (other_file core.units n u e (g refl) b))

  anyway_stays : (ds : List Desk) (core : Core) (keep : Option Bool) (condition : Condition) (n : ℕ) (o : Option Connected) → Ready ds core → connected_at core.units n ≡ o
      → (keep ≡ Some false → NotAbout → names_of core.units n ≢ Some name) → Stays ds (closes_anyway core keep condition o)
  anyway_stays ds core keep condition n None r e h = ready_point ds core r
  anyway_stays ds core keep condition n (Some u) r e h = detached_stays ds core u (keeps u && unwrap_or keep true) condition r (own_number core.units n u e) (by keep h)
    where
      and_true : (x : Bool) → (x && true) ≡ x
      and_true true = refl
      and_true false = refl

      by : (keep : Option Bool) → (keep ≡ Some false → NotAbout → names_of core.units n ≢ Some name) → NotAbout → ((keeps u && unwrap_or keep true) ≡ keeps u) ⊎ Other name u.name
      by None g b = inl (and_true (keeps u))
      by (Some true) g b = inl (and_true (keeps u))
      by (Some false) g b = inr (other_file core.units n u e (g refl) b)

  -- ---- END

  all_stay : (us : List Connected) (ds : List Desk) (core : Core) (condition : Condition) → Ready ds core → Apart (λ (x : Connected). x.number) us → Each (λ (x : Connected). connected_at core.units x.number ≡ Some x) us
      → Stays ds (all_closed us core condition)
  all_stay [] ds core condition r apart found = ready_point ds core r
  all_stay (u ∷ us) ds core condition r apart found =
      detaches_stay ds core u (λ new. all_closed us new condition) r found.0
      (λ later. all_stay us (carry ds u.slot (detach None)) (disconnected core u (keeps u) (desks.outcome ds u.slot (detach None))) condition later apart.1
      (found_behind core.units u us apart.0 found.1))

  end_stays : (ds : List Desk) (core : Core) (condition : Condition) → Ready ds core → Stays ds (all_closed core.units core condition)
  end_stays ds core condition r = all_stay core.units ds core condition r r.stand.numbers (each_found core.units r.stand.numbers)

  -- ---- OPEN

  -- other modes: the unit keeps its slot
  changes_stay : (ds : List Desk) (core : Core) (u : Connected) (modes : Modes) → Ready ds core → connected_at core.units u.number ≡ Some u → Stays ds (changes core u (Ok modes))
  changes_stay ds core u modes r found = (ready_wait ds core r, record { housed = each_map (IsHoused behind) g core.units housed; is_due = left })
    where
      new : Connected
      new = record u { modes = modes }

      behind : List Desk
      behind = carry ds u.slot (change modes.edit)

      g : Connected → Connected
      g x = if x.number == new.number then new else x

      same : Each (λ (x : Connected). x.number ≡ u.number → x ≡ u) core.units
      same = only (λ x. x.number) core.units u.number u r.stand.numbers found

      -- what holds of slots and names
      as_before : (P : Connected → Type 0) → (P u → P new) → (x : Connected) → (x.number ≡ u.number → x ≡ u) → P x → P (g x)
      as_before P f x is h = elim (eqb_tells x.number u.number) [
        | inl a ↦ subst (λ b. P (if b then new else x)) (sym a.0) (f (subst P (is a.1) h))
        | inr a ↦ subst (λ b. P (if b then new else x)) (sym a.0) h
      ]

      point : Point behind core.units core.files
      point = idle_point ds core u.slot (change modes.edit) r (change_idles name modes.edit)

      housed : Each (λ x. IsHoused behind (g x)) core.units
      housed = each_both (λ (x : Connected). x.number ≡ u.number → x ≡ u) (IsHoused behind) (λ x. IsHoused behind (g x)) core.units (λ x is h. as_before (IsHoused behind) (λ k. k) x is h) same point.housed

      slots : Each (λ x. at name behind (g x) ≡ at name behind x) core.units
      slots =
          each_imp (λ (x : Connected). x.number ≡ u.number → x ≡ u) (λ x. at name behind (g x) ≡ at name behind x) core.units
          (λ x is. as_before (λ (y : Connected). at name behind y ≡ at name behind x) (λ k. k) x is refl) same

      left : NotAbout → all_left behind (with_connected new core.units) core.files name ≡ due
      left b =
          all_is name behind (with_connected new core.units) core.files
          ∙ through_map (at name behind) g core.units (core.files name)
          ∙ through_same (λ x. at name behind (g x)) (at name behind) core.units (core.files name) slots
          ∙ sym (all_is name behind core.units core.files)
          ∙ point.is_due b

  attach_stays : (ds : List Desk) (core : Core) (number slot : ℕ) (c : Connection) → Ready ds core → slot < most_slots → Differs (λ (x : Connected). x.slot) slot core.units → Differs (λ (x : Connected). x.number) number core.units
      → (NotOpened → Other name c.name) → (NotAbout → Other name c.name) → Stays ds (attaches core number slot (Ok c))
  attach_stays ds core number slot c r inside free lacks opened about = (
    record { homes = r.stand.homes; is_due = λ a. all_is name ds core.units files ∙ ap (through (at name ds) core.units) (file_is (opened a)) ∙ sym (all_is name ds core.units core.files) ∙ r.is_due },
    record { housed = housed; is_due = left },
  )
    where
      behind : List Desk
      behind = carry ds slot (attach (Some c))

      new : Connected
      new = record { number = number; slot = slot; name = c.name; modes = c.modes }

      files : Files
      files = without_file c.name core.files

      file_is : Other name c.name → files name ≡ core.files name
      file_is e = ap (λ b. if b then None else core.files name) e

      others : Each (λ x. at name behind x ≡ at name ds x) core.units
      others =
          each_imp (λ (x : Connected). x.slot ≡ slot → ⊥) (λ x. at name behind x ≡ at name ds x) core.units (λ x ne. ap (λ o. touch name (connection_at o)) (carry_other ds slot (attach (Some c)) x.slot ne)) free

      housed : Each (IsHoused behind) (inserted new core.units)
      housed =
          let all = each_behind ds slot (attach (Some c)) core.units r.stand.homes in
          each_append (IsHoused behind) (filter (λ (x : Connected). nat_lt x.number number) core.units) (new ∷ filter (λ (x : Connected). nat_lt number x.number) core.units)
          (each_filter (IsHoused behind) (λ (x : Connected). nat_lt x.number number) core.units all)
          (brought_housed ds new c (seat_in ds slot (omega (arith, inside, r.stand.sixteen))) (r.stand.empty slot free) refl, each_filter (IsHoused behind) (λ (x : Connected). nat_lt number x.number) core.units all)

      left : NotAbout → all_left behind (inserted new core.units) files name ≡ due
      left b =
          all_is name behind (inserted new core.units) files
          ∙ between (at name behind) (λ (x : Connected). nat_lt x.number number) (λ (x : Connected). nat_lt number x.number) core.units new (files name)
          (one_same (at name behind) (at name ds) core.units others r.stand.one)
          (each_imp (λ (x : Connected). x.number ≡ number → ⊥) (λ (x : Connected). nat_lt number x.number ≡ not (nat_lt x.number number)) core.units (λ x ne. apart_from x.number number ne) lacks)
          (brought name ds slot c (r.stand.empty slot free) (about b))
          ∙ through_same (at name behind) (at name ds) core.units (files name) others
          ∙ ap (through (at name ds) core.units) (file_is (about b)) ∙ sym (all_is name ds core.units core.files) ∙ r.is_due

  connects_stay : (ds : List Desk) (core : Core) (number : ℕ) (spec : OpenSpec) (modes : Modes) → Ready ds core → Differs (λ (x : Connected). x.number) number core.units
      → (NotOpened → Other name (file_due spec number)) → (NotAbout → Other name (file_due spec number)) → Stays ds (connects number spec modes core)
  connects_stay ds core number spec modes r lacks opened about =
      connects_by (Stays ds) core number spec modes (λ condition. ready_point ds core r)
      (λ slot c free e.
      let named : c.name ≡ file_due spec number = named_due modes (file_due spec number) (bytes_opened (unwrap_or spec.status Unknown) (core.files (file_due spec number))) c e in
      let inside : slot < most_slots = omega (arith, free.inside) in
      attach_stays ds core number slot c r inside free.differs lacks (λ a. subst (Other name) (sym named) (opened a)) (λ b. subst (Other name) (sym named) (about b)))

  open_stays : (ds : List Desk) (core : Core) (ref : UnitRef) (number : Option ℕ) (spec : OpenSpec) → Ready ds core
      → (NotOpened → option_and_then (λ n. opens_on (names_of core.units n) spec n) number ≢ Some name) → (NotAbout → option_and_then (λ n. opens_on (names_of core.units n) spec n) number ≢ Some name)
      → Stays ds (if_numbered core number (λ n. opens_unit core ref n spec (connected_at core.units n)))
  open_stays ds core ref number spec r opened about =
      open_by (Stays ds) core ref spec number (λ condition. ready_point ds core r)
      (λ n u modes is e. changes_stay ds core u modes r (own_number core.units n u e))
      (λ n modes is e. let due = opens_new core.units number spec n is e in
      connects_stay ds core n spec modes r (none_at core.units n e) (λ a. not_due n (opened a) due) (λ b. not_due n (about b) due))
      (λ n u modes is e other. let due = opens_other core.units number spec n u is e other in
      detaches_stay ds core u (connects n spec modes) r (own_number core.units n u e)
      (λ later. connects_stay (carry ds u.slot (detach None)) (disconnected core u (keeps u) (desks.outcome ds u.slot (detach None))) n spec modes later
      (subst (λ k. Differs (λ (x : Connected). x.number) k (without_connected u.number core.units)) (found_number core.units n u e) (gone_differs (λ (x : Connected). x.number) u.number core.units))
      (λ a. not_due n (opened a) due) (λ b. not_due n (about b) due)))
    where
      not_due : (n : ℕ) → option_and_then (λ m. opens_on (names_of core.units m) spec m) number ≢ Some name → option_and_then (λ m. opens_on (names_of core.units m) spec m) number ≡ Some (file_due spec n) → Other name (file_due spec n)
      not_due n other is = bytes_differ name (file_due spec n) (λ q. other (is ∙ ap Some (sym q)))

  -- ---- the motions, INQUIRE

  moved_point : (ds : List Desk) (core : Core) (u : Connected) (how : Motion) → Ready ds core → connected_at core.units u.number ≡ Some u → (how ≡ motion.Endfile → NotAbout → Other name u.name)
      → Point (carry ds u.slot (job_of how)) core.units core.files
  moved_point ds core u motion.Flush r found other = idle_point ds core u.slot flush r (flush_idles (touch name))
  moved_point ds core u motion.Backspace r found other = idle_point ds core u.slot (go positioning.Backspace) r (backspace_idles name)
  moved_point ds core u motion.Rewind r found other = idle_point ds core u.slot (go positioning.Rewind) r (rewind_idles name)
  moved_point ds core u motion.Endfile r found other = other_point ds core u (go positioning.Endfile) r found (other refl)

  moves_stay : (ds : List Desk) (core : Core) (how : Motion) (n : ℕ) (o : Option Connected) → Ready ds core → connected_at core.units n ≡ o → (how ≡ motion.Endfile → NotAbout → names_of core.units n ≢ Some name)
      → Stays ds (moves core how o)
  moves_stay ds core how n None r e h = ready_point ds core r
  moves_stay ds core how n (Some u) r e h = (ready_wait ds core r, moved_point ds core u how r (own_number core.units n u e) (λ is. other_file core.units n u e (h is)))

  inquires_stay : (variables : List Variable) (ds : List Desk) (core : Core) (number : Option ℕ) (file : Option (List ℕ)) (asked : List Wanted) (id : Option ℤ) (o : Option Connected) → Ready ds core → Stays ds (inquires variables core number file asked id o)
  inquires_stay variables ds core number file asked id None r = ready_point ds core r
  inquires_stay variables ds core number file asked id (Some u) r =
      either (Stays ds) (list_any (λ (w : Wanted). asks_connection w.what) asked) _ _
      (ready_wait ds core r, idle_point ds core u.slot (look None) r (look_idles (touch name) None)) (ready_point ds core r)

  -- ---- each kind of statement

  -- at the unit of a number, if there is one
  close_at : (ds : List Desk) (core : Core) (keep : Option Bool) (number : Option ℕ) → Ready ds core → (keep ≡ Some false → NotAbout → option_and_then (names_of core.units) number ≢ Some name)
      → Stays ds (closes core keep (unit_at core number))
  close_at ds core keep None r h = ready_point ds core r
  close_at ds core keep (Some n) r h = close_stays ds core keep n (connected_at core.units n) r refl h

  anyway_at : (ds : List Desk) (core : Core) (keep : Option Bool) (condition : Condition) (number : Option ℕ) → Ready ds core
      → (keep ≡ Some false → NotAbout → option_and_then (names_of core.units) number ≢ Some name) → Stays ds (closes_anyway core keep condition (unit_at core number))
  anyway_at ds core keep condition None r h = ready_point ds core r
  anyway_at ds core keep condition (Some n) r h = anyway_stays ds core keep condition n (connected_at core.units n) r refl h

  moves_at : (ds : List Desk) (core : Core) (how : Motion) (number : Option ℕ) → Ready ds core → (how ≡ motion.Endfile → NotAbout → option_and_then (names_of core.units) number ≢ Some name) → Stays ds (moves core how (unit_at core number))
  moves_at ds core how None r h = ready_point ds core r
  moves_at ds core how (Some n) r h = moves_stay ds core how n (connected_at core.units n) r refl h

  -- the file of CLOSE with STATUS='DELETE', and of ENDFILE
  deletes_about : (names : ℕ → Option (List ℕ)) (u : UnitRef) (keep : Option Bool) (iostat : Option Place) → (NotAbout → file_about names (statement.CloseUnit u keep iostat) ≢ Some name)
      → keep ≡ Some false → NotAbout → option_and_then names (number_of u) ≢ Some name
  deletes_about names u None iostat h e = cc
  deletes_about names u (Some true) iostat h e = cc
  deletes_about names u (Some false) iostat h e = h

  endfile_about : (names : ℕ → Option (List ℕ)) (how : Motion) (u : UnitRef) (iostat : Option Place) → (NotAbout → file_about names (statement.Move how u iostat) ≢ Some name)
      → how ≡ motion.Endfile → NotAbout → option_and_then names (number_of u) ≢ Some name
  endfile_about names motion.Backspace u iostat h e = cc
  endfile_about names motion.Rewind u iostat h e = cc
  endfile_about names motion.Flush u iostat h e = cc
  endfile_about names motion.Endfile u iostat h e = h

  module _ (control : ℕ → List Given) (variables : List Variable) (line : ℕ) (ds : List Desk) (core : Core) (r : Ready ds core) where
    own_stays : (st : Statement) → (NotOpened → file_opened (names_of core.units) st ≢ Some name) → (NotAbout → file_about (names_of core.units) st ≢ Some name) → Stays ds (own control variables line core st)
    own_stays (statement.Assign to from) opened about = ready_point ds core r
    own_stays (statement.OpenUnit u spec iostat) opened about = open_stays ds core u (number_of u) spec r opened about
    own_stays (statement.CloseUnit u keep iostat) opened about = close_at ds core keep (number_of u) r (deletes_about (names_of core.units) u keep iostat about)
    own_stays (statement.WaitFor u id iostat) opened about = ready_point ds core r
    own_stays (statement.Move how u iostat) opened about = moves_at ds core how (number_of u) r (endfile_about (names_of core.units) how u iostat about)
    own_stays (statement.Inquire subject asked id iostat _) opened about =
        let number = unit_about (unit_named core.units) subject in inquires_stay variables ds core number (file_asked subject) asked (number_given core.vars id) (unit_at core number) r
    own_stays (statement.Transfer t) opened about = transfer_stays control variables line ds core t (moved_in variables core.vars t) t.unit r about
    own_stays statement.End opened about = end_stays ds core Fine r

    doing_stays : (st : Statement) (condition : Condition) → (NotOpened → file_opened (names_of core.units) st ≢ Some name) → (NotAbout → file_about (names_of core.units) st ≢ Some name)
        → Stays ds (doing control variables line core st condition)
    doing_stays st condition opened about =
        doing_by (Stays ds) control variables line core st (own_stays st opened about) (λ vars condition. ready_point ds core r)
        (λ u keep iostat condition is. anyway_at ds core keep condition (number_of u) r
        (deletes_about (names_of core.units) u keep iostat (subst (λ s. NotAbout → file_about (names_of core.units) s ≢ Some name) is about)))
        (λ condition is. end_stays ds core condition r) condition

  -- ---- all that a statement does once its transfers are told

  halts_stay : (slots : List ℕ) (ds : List Desk) (core : Core) (next : Doing) → Ready ds core → ((behind : List Desk) → Ready behind core → Stays behind next) → Stays ds (ends_halts slots core next)
  halts_stay [] ds core next r f = f ds r
  halts_stay (slot ∷ slots) ds core next r f = (
    ready_point ds core r,
    halts_stay slots (carry ds slot resume) core next
        (record { stand = stand_same name ds (carry ds slot resume) core.units (carry_later ds slot resume).long (idle_there (λ o. o) ds slot resume (resume_idles (λ o. o))) r.stand; is_due = same_left name ds (carry ds slot resume) core.units core.files (idle_at name ds slot resume core.units (resume_idles (touch name))) ∙ r.is_due }) f,
  )

  pub told_stays : (variables : List Variable) (st : Stated) (told : List Entry) (ds : List Desk) (core : Core) → Ready ds core
      → (NotOpened → file_opened (names_of core.units) st.0.what ≢ Some name) → (NotAbout → file_about (names_of core.units) st.0.what ≢ Some name) → Stays ds (doing_told variables st told core)
  told_stays variables st told ds core r opened about =
      let new : Core = told_core variables st.0.line told core in
      halts_stay (halted_slots told core.units) ds new (doing st.1 variables st.0.line new st.0.what (condition_of told)) (record { stand = r.stand; is_due = r.is_due })
      (λ behind later. doing_stays st.1 variables st.0.line behind new later st.0.what (condition_of told) opened about)
