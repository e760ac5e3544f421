-- At each point of a statement its units are at slots that hold their connections, and it waits for each job by which one comes or goes.
use Rattle.std.proofs.Common.{◌≡◌, ℕ, ℤ, ◌<◌, Bool, true, false, ◌&&◌, List, [], ◌∷◌, Option, Some, None, refl, sym, ap, ◌∙◌, subst, arith}
use Rattle.std.specs.Prelude.{if◌then◌else◌, filter, unwrap_or}
use Rattle.std.specs.List.{list_any}
use Rattle.fj_value.specs.declared.condition.Condition.{Condition}
use Rattle.fj_value.specs.declared.condition.Condition.TheVariants.{Fine, Error}
use Rattle.fj_modes.specs.declared.modes.Modes.{Modes}
use Rattle.fj_modes.specs.declared.specifiers.OpenSpec.{OpenSpec}
use Rattle.fj_modes.specs.declared.asked.Wanted.{Wanted}
use Rattle.fj_modes.specs.declared.motion.Motion.{Motion}
use Rattle.fj_modes.specs.declared.motion.Motion.TheVariants as motion
use Rattle.fj_statement.specs.declared.unit.UnitRef.{UnitRef}
use Rattle.fj_statement.specs.declared.unit.UnitRef.TheVariants as unit
use Rattle.fj_moved.specs.declared.moved.Moved.{Moved}
use Rattle.fj_control.specs.Steps.{Given}
use Rattle.fj_connect.specs.Connection.{Connection}
use Rattle.fj_connect.specs.Positions.{ended}
use Rattle.fj_connect.specs.declared.spot.Positioning.TheVariants as positioning
use Rattle.fj_statement.specs.declared.deck.Variable.{Variable}
use Rattle.fj_statement.specs.declared.statement.Statement.{Statement}
use Rattle.fj_statement.specs.declared.statement.Statement.TheVariants as statement
use Rattle.fj_statement.specs.declared.statement.Transfer.{Transfer}
use Rattle.fj_bay.specs.Bay.{Bay}
use Rattle.fj_bay.specs.Halt.{halts}
use Rattle.fj_bay.specs.Jobs.{Job, attach, detach, move, go, change, flush, look, resume, done}
use Rattle.fj_bay.specs.Serving.{serve, detached}
use Rattle.fj_bay.proofs.Keeping.{ended_kept}
use Rattle.fj_meaning.specs.Needs.{number_of, number_given, unit_about}
use Rattle.fj_meaning.specs.State.{Entry}
use Rattle.fj_meaning.specs.Statement.{Stated, file_asked}
use Rattle.fj_meaning.specs.Telling.{is_asynchronous, condition_of, tells_cause}
use Rattle.fj_meaning.specs.Transfers.{moved_in}
use Rattle.fj_meaning_jobs.specs.Core.{Core, Connected, connected_at, unit_named, without_connected}
use Rattle.fj_meaning_jobs.specs.Desks.{Outcome, connection_in, condition_in, outcome_on, most_slots}
use Rattle.fj_meaning_jobs.specs.Doing.{Doing, finishes, gives, awaits}
use Rattle.fj_meaning_jobs.specs.Acting.{finishes_behind, transferred, transfer_at, keeps, disconnected, came_out, detaches, closes, closes_anyway, all_closed, opens_unit, moves, asks_connection, inquires, if_numbered, unit_at, own, doing}
use Rattle.fj_meaning_jobs.specs.Acting as acting
use Rattle.fj_meaning_jobs.specs.Desking.{told_core}
use Rattle.fj_meaning_jobs.proofs.Apart.{Each, each_filter, each_map, Differs, Apart}
use Rattle.fj_meaning_jobs.proofs.Closing.{comes_out}
use Rattle.fj_meaning_jobs.proofs.Opening.{gone_differs}
use Rattle.fj_meaning_jobs.proofs.Walking.{either, unit_by, closes_by, anyway_by, connects_by, open_by, doing_by}
use Rattle.fj_meaning_turns.specs.Turns.{halted_slots, ends_halts, doing_told}
use Rattle.fj_meaning_turns.proofs.Seated.{found_number}
use Rattle.fj_meaning_cut.specs.Others.{core_now}
use Rattle.fj_meaning_cut.proofs.Units.{each_found, found_behind, none_at}
use Rattle.fj_run_end.specs.Ended.{unit_names}
use Rattle.fj_run_end.proofs.Seating.{Table, name_in, connects, IsBehind, same_behind, Seated, seated_same, seated_low, seated_name, gone_seated, come_seated, modes_seated, modes_named}

-- ---- what is known of outcomes

abbrev ComesOut : Option (List ℕ) → Outcome → Type 0
ComesOut None o = Unit {0}
ComesOut (Some name) o = ((c : Connection) × (connection_in o.0 ≡ Some c) × (c.name ≡ name))

-- a connection that is taken out comes out under its name
abbrev pub IsOutcome : Job → Option (List ℕ) → Outcome → Type 0
IsOutcome (detach place) name o = ComesOut name o
IsOutcome _ name o = Unit {0}

pub outcome_is : (bay : Bay) (job : Job) → IsOutcome job (name_in bay.connection) (outcome_on bay job)
unfolding serve
outcome_is bay (detach place) = by bay.connection refl
  where
    by : (o : Option Connection) → bay.connection ≡ o → ComesOut (name_in o) (outcome_on bay (detach place))
    by None e = tt
    by (Some c) e = (ended c, ap (λ x. connection_in (detached bay x place).job) e, (ended_kept c).named)
outcome_is bay (attach brought) = tt
outcome_is bay (move t) = tt
outcome_is bay (go how) = tt
outcome_is bay (change edit) = tt
outcome_is bay flush = tt
outcome_is bay (look place) = tt
outcome_is bay resume = tt

-- ---- the points of a statement

-- a connection is brought to a slot that has none; of any other job some outcome leaves units of the same names
abbrev pub EmptyOrStays : Job → Option (List ℕ) → Core → (Outcome → Doing) → Type 0
EmptyOrStays (attach brought) name core next = name ≡ None
EmptyOrStays _ name core next = ((o : Outcome) × (unit_names (core_now (next o)).units ≡ unit_names core.units))

abbrev pub Sits : Table → Doing → Type 0
Sits names (finishes core condition) = Seated names core.units
Sits names (gives slot job core next) =
    Seated names core.units × (slot < most_slots) × (connects job ≡ false) × ((new : Table) (number : ℕ) → IsBehind names slot job new → Sits new (next number))
Sits names (awaits slot job core next) =
    Seated names core.units × (slot < most_slots) × EmptyOrStays job (names slot) core next × ((new : Table) (o : Outcome) → IsBehind names slot job new → IsOutcome job (names slot) o → Sits new (next o))

pub now_seated : (names : Table) (d : Doing) → Sits names d → Seated names (core_now d).units
now_seated names (finishes core condition) h = h
now_seated names (gives slot job core next) h = h.0
now_seated names (awaits slot job core next) h = h.0

-- an outcome by which nothing came out
abbrev some_outcome : Outcome
some_outcome = (resume, done Fine)

-- the unit of a number is that of its own
own_found : (core : Core) (number : Option ℕ) (u : Connected) → unit_at core number ≡ Some u → connected_at core.units u.number ≡ Some u
own_found core None u e = cc
own_found core (Some n) u e = ap (connected_at core.units) (found_number core.units n u e) ∙ e

-- ---- READ and WRITE

behind_sits : (names : Table) (u : Connected) (core : Core) (condition : Condition) → Seated names core.units → u.slot < most_slots → Sits names (finishes_behind u core condition)
behind_sits names u core condition s low =
    either (Sits names) (halts condition) _ _ (s, low, refl, λ new number b. seated_same names new core.units (same_behind names u.slot resume new refl b) s) s

module _ (control : ℕ → List Given) (variables : List Variable) (line : ℕ) (names : Table) (core : Core) (s : Seated names core.units) where
  transferred_sits : (t : Transfer) (moved : Moved) (u : Connected) → u.slot < most_slots → Sits names (transferred control variables line core t moved u)
  transferred_sits t moved u low =
      either (Sits names) (is_asynchronous t) _ _
      (s, low, refl, λ new number b. seated_same names new core.units (same_behind names u.slot (move _) new refl b) s)
      (s, low, (some_outcome, refl), λ new o b is. behind_sits new u _ _ (seated_same names new core.units (same_behind names u.slot (move _) new refl b) s) low)

  transfer_sits : (t : Transfer) (moved : Moved) (to : UnitRef) → Sits names (transfer_at control variables line core t moved to)
  transfer_sits t moved unit.Star = s
  transfer_sits t moved (unit.Internal file) = s
  transfer_sits t moved (unit.Number n) =
      unit_by (Sits names) control variables line core t moved (connected_at core.units n) (λ condition. s)
      (λ u e. transferred_sits t moved u (seated_low names core.units u s (own_found core (Some n) u e)))
  transfer_sits t moved (unit.Held place n) =
      unit_by (Sits names) control variables line core t moved (connected_at core.units n) (λ condition. s)
      (λ u e. transferred_sits t moved u (seated_low names core.units u s (own_found core (Some n) u e)))
  transfer_sits t moved (unit.New place n) =
      unit_by (Sits names) control variables line core t moved (connected_at core.units n) (λ condition. s)
      (λ u e. transferred_sits t moved u (seated_low names core.units u s (own_found core (Some n) u e)))

-- ---- CLOSE and END

detaches_sits : (names : Table) (core : Core) (u : Connected) (keep : Bool) (next : Core → Doing) → Seated names core.units → connected_at core.units u.number ≡ Some u
    → ((new : Table) (o : Outcome) → Seated new (without_connected u.number core.units) → Sits new (next (disconnected core u keep o))) → Sits names (detaches core u keep next)
detaches_sits names core u keep next s found f = (
  s,
  seated_low names core.units u s found,
  (some_outcome, refl),
  λ new o b is.
      let out : ComesOut (Some u.name) o = subst (λ n. ComesOut n o) (seated_name names core.units u s found) is in
      subst (λ k. Sits new (if k then next (disconnected core u keep o) else finishes core (Error 1))) (sym (comes_out u o out.0 out.1 out.2)) (f new o (gone_seated names new core.units u s found b)),
)

closes_sits : (names : Table) (core : Core) (keep : Option Bool) (number : Option ℕ) → Seated names core.units → Sits names (closes core keep (unit_at core number))
closes_sits names core keep number s =
    closes_by (Sits names) core keep (unit_at core number) (λ condition. s)
    (λ u e. detaches_sits names core u (unwrap_or keep (keeps u)) (λ new. finishes new Fine) s (own_found core number u e) (λ new o gone. gone))

anyway_sits : (names : Table) (core : Core) (keep : Option Bool) (condition : Condition) (number : Option ℕ) → Seated names core.units → Sits names (closes_anyway core keep condition (unit_at core number))
anyway_sits names core keep condition number s =
    anyway_by (Sits names) core keep condition (unit_at core number) s
    (λ u e. detaches_sits names core u (keeps u && unwrap_or keep true) (λ new. finishes new condition) s (own_found core number u e) (λ new o gone. gone))

all_sit : (us : List Connected) (names : Table) (core : Core) (condition : Condition) → Seated names core.units → Apart (λ (x : Connected). x.number) us → Each (λ (x : Connected). connected_at core.units x.number ≡ Some x) us
    → Sits names (all_closed us core condition)
all_sit [] names core condition s apart found = s
all_sit (u ∷ us) names core condition s apart found =
    detaches_sits names core u (keeps u) (λ new. all_closed us new condition) s found.0
    (λ new o gone. all_sit us new (disconnected core u (keeps u) o) condition gone apart.1 (found_behind core.units u us apart.0 found.1))

end_sits : (names : Table) (core : Core) (condition : Condition) → Seated names core.units → Sits names (all_closed core.units core condition)
end_sits names core condition s = all_sit core.units names core condition s s.numbers (each_found core.units s.numbers)

-- ---- OPEN

connects_sits : (names : Table) (core : Core) (number : ℕ) (spec : OpenSpec) (modes : Modes) → Seated names core.units → Differs (λ (x : Connected). x.number) number core.units → Sits names (acting.connects number spec modes core)
connects_sits names core number spec modes s lacks =
    connects_by (Sits names) core number spec modes (λ condition. s)
    (λ slot c free e.
    let low : slot < most_slots = omega (arith, free.inside) in
    let come : Connected = record { number = number; slot = slot; name = c.name; modes = c.modes } in
    (s, low, s.empty slot free.differs, λ new o b is. come_seated names new core.units come c s low free.differs lacks refl b))

open_sits : (names : Table) (core : Core) (ref : UnitRef) (spec : OpenSpec) (number : Option ℕ) → Seated names core.units → Sits names (if_numbered core number (λ n. opens_unit core ref n spec (connected_at core.units n)))
open_sits names core ref spec number s =
    open_by (Sits names) core ref spec number (λ condition. s)
    (λ n u modes is e.
    let found = own_found core (Some n) u e in (
      s,
      seated_low names core.units u s found,
      (some_outcome, modes_named names core.units u modes s found),
      λ new o b same. modes_seated new core.units u modes (seated_same names new core.units (same_behind names u.slot (change modes.edit) new refl b) s) found,
    ))
    (λ n modes is e. connects_sits names core n spec modes s (none_at core.units n e))
    (λ n u modes is e other. detaches_sits names core u (keeps u) (acting.connects n spec modes) s (own_found core (Some n) u e)
    (λ new o gone. connects_sits new (disconnected core u (keeps u) o) n spec modes gone
    (subst (λ k. Differs (λ (x : Connected). x.number) k (without_connected u.number core.units)) (found_number core.units n u e) (gone_differs (λ (x : Connected). x.number) u.number core.units))))

-- ---- the motions, INQUIRE

moves_sit : (names : Table) (core : Core) (how : Motion) (number : Option ℕ) → Seated names core.units → Sits names (moves core how (unit_at core number))
moves_sit names core how number s = by (unit_at core number) refl how
  where
    so : (u : Connected) (job : Job) → unit_at core number ≡ Some u → connects job ≡ false → EmptyOrStays job (names u.slot) core (λ o. finishes core (condition_in o.1)) → Sits names (awaits u.slot job core (λ o. finishes core (condition_in o.1)))
    so u job e still stays =
        (s, seated_low names core.units u s (own_found core number u e), stays, λ new o b is. seated_same names new core.units (same_behind names u.slot job new still b) s)

    by : (o : Option Connected) → unit_at core number ≡ o → (how : Motion) → Sits names (moves core how o)
    by None e how = s
    by (Some u) e motion.Flush = so u flush e refl (some_outcome, refl)
    by (Some u) e motion.Backspace = so u (go positioning.Backspace) e refl (some_outcome, refl)
    by (Some u) e motion.Rewind = so u (go positioning.Rewind) e refl (some_outcome, refl)
    by (Some u) e motion.Endfile = so u (go positioning.Endfile) e refl (some_outcome, refl)

inquires_sits : (variables : List Variable) (names : Table) (core : Core) (number : Option ℕ) (file : Option (List ℕ)) (asked : List Wanted) (id : Option ℤ) → Seated names core.units
    → Sits names (inquires variables core number file asked id (unit_at core number))
inquires_sits variables names core number file asked id s = by (unit_at core number) refl
  where
    by : (o : Option Connected) → unit_at core number ≡ o → Sits names (inquires variables core number file asked id o)
    by None e = s
    by (Some u) e =
        either (Sits names) (list_any (λ (w : Wanted). asks_connection w.what) asked) _ _ (
          s,
          seated_low names core.units u s (own_found core number u e),
          (some_outcome, refl),
          λ new o b is. seated_same names new core.units (same_behind names u.slot (look None) new refl b) s,
        ) s

-- ---- each kind of statement

module _ (control : ℕ → List Given) (variables : List Variable) (line : ℕ) (names : Table) (core : Core) (s : Seated names core.units) where
  own_sits : (st : Statement) → Sits names (own control variables line core st)
  own_sits (statement.Assign to from) = s
  own_sits (statement.OpenUnit u spec iostat) = open_sits names core u spec (number_of u) s
  own_sits (statement.CloseUnit u keep iostat) = closes_sits names core keep (number_of u) s
  own_sits (statement.WaitFor u id iostat) = s
  own_sits (statement.Move how u iostat) = moves_sit names core how (number_of u) s
  own_sits (statement.Inquire subject asked id iostat _) = inquires_sits variables names core (unit_about (unit_named core.units) subject) (file_asked subject) asked (number_given core.vars id) s
  own_sits (statement.Transfer t) = transfer_sits control variables line names core s t (moved_in variables core.vars t) t.unit
  own_sits statement.End = end_sits names core Fine s

  doing_sits : (st : Statement) (condition : Condition) → Sits names (doing control variables line core st condition)
  doing_sits st condition =
      doing_by (Sits names) control variables line core st (own_sits st) (λ vars condition. s) (λ u keep iostat condition is. anyway_sits names core keep condition (number_of u) s)
      (λ condition is. end_sits names core condition s) condition

halts_sit : (slots : List ℕ) (names : Table) (core : Core) (next : Doing) → Seated names core.units → Each (λ k. k < most_slots) slots → ((new : Table) → Seated new core.units → Sits new next) → Sits names (ends_halts slots core next)
halts_sit [] names core next s low f = f names s
halts_sit (slot ∷ slots) names core next s low f =
    (s, low.0, refl, λ new number b. halts_sit slots new core next (seated_same names new core.units (same_behind names slot resume new refl b) s) low.1 f)

-- what a statement does once its transfers are told
pub told_sits : (names : Table) (variables : List Variable) (st : Stated) (told : List Entry) (core : Core) → Seated names core.units → Sits names (doing_told variables st told core)
told_sits names variables st told core s =
    let now = told_core variables st.0.line told core in
    halts_sit (halted_slots told core.units) names now _ s
    (each_map (λ k. k < most_slots) (λ (u : Connected). u.slot) (filter (λ (u : Connected). tells_cause told u.number) core.units)
    (each_filter (λ (u : Connected). u.slot < most_slots) (λ (u : Connected). tells_cause told u.number) core.units s.low))
    (λ new seated. doing_sits st.1 variables st.0.line new now seated st.0.what (condition_of told))
