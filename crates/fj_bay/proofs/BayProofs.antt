-- The laws of bays.
use Rattle.std.proofs.Common.{◌≡◌, ◌≢◌, [], ◌∷◌, ◌++◌, map, length, take, Option, Some, None, refl, sym, ap, ◌∙◌, subst, if◌then◌else◌, arith}
use Rattle.std.proofs.lemmas.List.{take_all}
use Rattle.fj_value.specs.declared.condition.Condition.{Condition}
use Rattle.fj_value.specs.declared.condition.Condition.TheVariants.{Fine, EndOfFile, EndOfRecord, Error}
use Rattle.fj_connect.specs.Connection.{Connection, with_records}
use Rattle.fj_connect.specs.Positions.{ended, moved}
use Rattle.fj_connect.specs.Spot.{is_writing}
use Rattle.fj_value.specs.declared.value.Cell.{Cell}
use Rattle.fj_value.specs.declared.value.Value.TheVariants.{Undefined}
use Rattle.fj_connect.specs.declared.spot.Within.{Within}
use Rattle.fj_connect.specs.declared.spot.Within.TheVariants.{Outside, Reading, Writing}
use Rattle.fj_transfer.specs.Transfer.{transfer_by}
use Rattle.fj_bay.specs.Bay.{Bay}
use Rattle.fj_bay.specs.Halt.{halt_behind, unless_halted}
use Rattle.fj_bay.specs.Jobs.{Moving, Job, attach, detach, move, go, change, flush, look, resume, done, skipped}
use Rattle.fj_bay.specs.Serving.{serve, answered, attached, detached, moved_in, moved_so, gone, changed, looked}
use Rattle.fj_bay.specs.Spoilt.{first_difference, first_change, bytes_left, MayStop}
use Rattle.fj_bay.specs.BayLaws.{IsHalting, end_of_file, error, MeetsCondition, HaltsByTransfers, HaltsUntilResumed, SkipsInHalts, TransfersElse, LeavesBytes, MovesOn, DetachesEnded, IsEmptyOrTakes, StopsWhereBytesChange, KeepsConnection, KeepsItsConnection}
use Rattle.fj_bay.proofs.Differences.{no_difference}
use Rattle.fj_bay.proofs.Keeping.{Kept, kept_same, ended_kept, moved_kept, transfer_kept}

-- ---- halts

set_by : (condition cause : Condition) → halt_behind None condition ≡ Some cause → (condition ≡ cause) × IsHalting cause
set_by Fine cause e = cc
set_by EndOfRecord cause e = cc
set_by EndOfFile cause e = let same : EndOfFile ≡ cause = cc in (same, subst IsHalting same end_of_file)
set_by (Error n) cause e = let same : Error n ≡ cause = cc in (same, subst IsHalting same error)

sets : (condition : Condition) → IsHalting condition → halt_behind None condition ≡ Some condition
sets Fine h = elim h [ ]
sets EndOfRecord h = elim h [ ]
sets EndOfFile end_of_file = refl
sets (Error n) error = refl

-- the halt of a bay that is not halted, after a job
set_in : (bay : Bay) (job : Job) (cause : Condition) → bay.halt ≡ None → (serve bay job).engine.halt ≡ Some cause → MeetsCondition bay job cause
unfolding serve
set_in bay (attach brought) cause none e = absurd (by bay.connection e)
  where
    by : (o : Option Connection) → (attached bay o brought).engine.halt ≡ Some cause → ⊥
    by None e = let no : ◌≡◌ {A = Option Condition} None (Some cause) = sym none ∙ e in cc
    by (Some c) e = let no : ◌≡◌ {A = Option Condition} None (Some cause) = sym none ∙ e in cc
set_in bay (detach place) cause none e = absurd (by bay.connection e)
  where
    by : (o : Option Connection) → (detached bay o place).engine.halt ≡ Some cause → ⊥
    by None e = let no : ◌≡◌ {A = Option Condition} None (Some cause) = sym none ∙ e in cc
    by (Some c) e = let no : ◌≡◌ {A = Option Condition} None (Some cause) = sym none ∙ e in cc
set_in bay (move t) cause none e = by bay.connection refl e
  where
    on : (c : Connection) (h : Option Condition) → bay.connection ≡ Some c → h ≡ None → (moved_so t h (unless_halted h c t.spec.input t.moved.cells (transfer_by (λ n. t.control) c t.spec t.moved))).engine.halt ≡ Some cause
        → ((moved_so t h (unless_halted h c t.spec.input t.moved.cells (transfer_by (λ n. t.control) c t.spec t.moved))).answer ≡ done cause) × IsHalting cause
    on c (Some x) is n e = cc
    on c None is n e = let two = set_by (transfer_by (λ n. t.control) c t.spec t.moved).condition cause e in (ap done two.0, two.1)

    by : (o : Option Connection) → bay.connection ≡ o → (moved_in bay o t).engine.halt ≡ Some cause → ((c : Connection) × (s : Moving) × (o ≡ Some c) × (move t ≡ move s) × ((moved_in bay o t).answer ≡ done cause) × IsHalting cause)
    by None is e = absurd (no (sym none ∙ e))
      where
        no : ◌≡◌ {A = Option Condition} None (Some cause) → ⊥
        no e = cc
    by (Some c) is e = let two = on c bay.halt is none e in (c, t, refl, refl, two.0, two.1)
set_in bay (go how) cause none e = absurd (by bay.connection e)
  where
    by : (o : Option Connection) → (gone bay o how).engine.halt ≡ Some cause → ⊥
    by None e = let no : ◌≡◌ {A = Option Condition} None (Some cause) = sym none ∙ e in cc
    by (Some c) e = let no : ◌≡◌ {A = Option Condition} None (Some cause) = sym none ∙ e in cc
set_in bay (change edit) cause none e = absurd (by bay.connection e)
  where
    by : (o : Option Connection) → (changed bay o edit).engine.halt ≡ Some cause → ⊥
    by None e = let no : ◌≡◌ {A = Option Condition} None (Some cause) = sym none ∙ e in cc
    by (Some c) e = let no : ◌≡◌ {A = Option Condition} None (Some cause) = sym none ∙ e in cc
set_in bay flush cause none e = absurd (let no : ◌≡◌ {A = Option Condition} None (Some cause) = sym none ∙ e in cc)
set_in bay (look place) cause none e = absurd (by bay.connection e)
  where
    by : (o : Option Connection) → (looked bay o place).engine.halt ≡ Some cause → ⊥
    by None e = let no : ◌≡◌ {A = Option Condition} None (Some cause) = sym none ∙ e in cc
    by (Some c) e = let no : ◌≡◌ {A = Option Condition} None (Some cause) = sym none ∙ e in cc
set_in bay resume cause none e = cc

halt_is : (bay : Bay) (c : Connection) (t : Moving) (cause : Condition) (h : Option Condition) → h ≡ None → bay.halt ≡ h → bay.connection ≡ Some c
    → (serve bay (move t)).answer ≡ done cause → IsHalting cause → (serve bay (move t)).engine.halt ≡ Some cause
unfolding serve
halt_is bay c t cause (Some x) n is full e h = cc
halt_is bay c t cause None n is full e h = by bay.connection bay.halt full is e
  where
    by : (o : Option Connection) (g : Option Condition) → o ≡ Some c → g ≡ None → (moved_in (record bay { halt = g }) o t).answer ≡ done cause → (moved_in (record bay { halt = g }) o t).engine.halt ≡ Some cause
    by None g f is e = cc
    by (Some d) (Some x) f is e = cc
    by (Some d) None f is e =
        let same : (transfer_by (λ n. t.control) d t.spec t.moved).condition ≡ cause = cc in
        subst (λ k. halt_behind None k ≡ Some cause) (sym same) (sets cause h)

pub halts_by_transfers : HaltsByTransfers
halts_by_transfers bay job cause none = (
  (λ e. set_in bay job cause none e),
  (λ m. subst (λ j. (serve bay j).engine.halt ≡ Some cause) (sym m.3) (halt_is bay m.0 m.1 cause None refl none m.2 (subst (λ j. (serve bay j).answer ≡ done cause) m.3 m.4) m.5)),
)

stays : (bay : Bay) (job : Job) (cause : Condition) → bay.halt ≡ Some cause → job ≢ resume → (serve bay job).engine.halt ≡ Some cause
unfolding serve
stays bay (attach brought) cause is other = by bay.connection
  where
    by : (o : Option Connection) → (attached bay o brought).engine.halt ≡ Some cause
    by None = is
    by (Some c) = is
stays bay (detach place) cause is other = by bay.connection
  where
    by : (o : Option Connection) → (detached bay o place).engine.halt ≡ Some cause
    by None = is
    by (Some c) = is
stays bay (move t) cause is other = by bay.connection
  where
    by : (o : Option Connection) → (moved_in bay o t).engine.halt ≡ Some cause
    by None = is
    by (Some c) = subst (λ h. (moved_so t h (unless_halted h c t.spec.input t.moved.cells (transfer_by (λ n. t.control) c t.spec t.moved))).engine.halt ≡ Some cause) (sym is) refl
stays bay (go how) cause is other = by bay.connection
  where
    by : (o : Option Connection) → (gone bay o how).engine.halt ≡ Some cause
    by None = is
    by (Some c) = is
stays bay (change edit) cause is other = by bay.connection
  where
    by : (o : Option Connection) → (changed bay o edit).engine.halt ≡ Some cause
    by None = is
    by (Some c) = is
stays bay flush cause is other = is
stays bay (look place) cause is other = by bay.connection
  where
    by : (o : Option Connection) → (looked bay o place).engine.halt ≡ Some cause
    by None = is
    by (Some c) = is
stays bay resume cause is other = absurd (other refl)

pub halts_until_resumed : HaltsUntilResumed
unfolding serve
halts_until_resumed bay job cause is = ((λ e. subst (λ j. (serve bay j).engine.halt ≡ None) (sym e) refl), (λ other. stays bay job cause is other))

-- ---- what is skipped

skips : (bay : Bay) (c : Connection) (t : Moving) (cause : Condition) → bay.connection ≡ Some c → bay.halt ≡ Some cause
    → ((serve bay (move t)).engine ≡ bay) × ((serve bay (move t)).answer ≡ skipped cause)
    × ((serve bay (move t)).job ≡ move (record t { moved = record t.moved { cells = if t.spec.input then map (λ (cell : Cell). record cell { value = Undefined }) t.moved.cells else t.moved.cells }; count = None }))
unfolding serve
skips bay c t cause full is = by bay.connection bay.halt full is
  where
    by : (o : Option Connection) (h : Option Condition) → o ≡ Some c → h ≡ Some cause
        → ((moved_in (record { connection = o; halt = h }) o t).engine ≡ record { connection = o; halt = h }) × ((moved_in (record { connection = o; halt = h }) o t).answer ≡ skipped cause)
        × ((moved_in (record { connection = o; halt = h }) o t).job ≡ move (record t { moved = record t.moved { cells = if t.spec.input then map (λ (cell : Cell). record cell { value = Undefined }) t.moved.cells else t.moved.cells }; count = None }))
    by None h e f = cc
    by (Some d) None e f = cc
    by (Some d) (Some x) e f = let same : x ≡ cause = cc in (refl, ap skipped same, refl)

skipped_in : (bay : Bay) (job : Job) (cause : Condition) → (serve bay job).answer ≡ skipped cause → (bay.halt ≡ Some cause) × ((t : Moving) × (job ≡ move t))
unfolding serve
skipped_in bay (attach brought) cause e = absurd (by bay.connection e)
  where
    by : (o : Option Connection) → (attached bay o brought).answer ≡ skipped cause → ⊥
    by None e = cc
    by (Some c) e = cc
skipped_in bay (detach place) cause e = absurd (by bay.connection e)
  where
    by : (o : Option Connection) → (detached bay o place).answer ≡ skipped cause → ⊥
    by None e = cc
    by (Some c) e = cc
skipped_in bay (move t) cause e = (by bay.connection bay.halt e, (t, refl))
  where
    by : (o : Option Connection) (h : Option Condition) → (moved_in (record bay { halt = h }) o t).answer ≡ skipped cause → h ≡ Some cause
    by None h e = cc
    by (Some c) None e = cc
    by (Some c) (Some x) e = let same : x ≡ cause = cc in ap Some same
skipped_in bay (go how) cause e = absurd (by bay.connection e)
  where
    by : (o : Option Connection) → (gone bay o how).answer ≡ skipped cause → ⊥
    by None e = cc
    by (Some c) e = cc
skipped_in bay (change edit) cause e = absurd (by bay.connection e)
  where
    by : (o : Option Connection) → (changed bay o edit).answer ≡ skipped cause → ⊥
    by None e = cc
    by (Some c) e = cc
skipped_in bay flush cause e = cc
skipped_in bay (look place) cause e = absurd (by bay.connection e)
  where
    by : (o : Option Connection) → (looked bay o place).answer ≡ skipped cause → ⊥
    by None e = cc
    by (Some c) e = cc
skipped_in bay resume cause e = cc

pub skips_in_halts : SkipsInHalts
skips_in_halts = (skips, skipped_in)

pub transfers_else : TransfersElse
unfolding serve
transfers_else bay c t full none =
    subst (λ o. let s = moved_in bay o t in (s.engine.connection ≡ Some (transfer_by (λ n. t.control) c t.spec t.moved).connection) × (s.answer ≡ done (transfer_by (λ n. t.control) c t.spec t.moved).condition)
    × (s.job ≡ move (record t { moved = record t.moved { cells = (transfer_by (λ n. t.control) c t.spec t.moved).cells }; count = (transfer_by (λ n. t.control) c t.spec t.moved).count })))
    (sym full)
    (subst (λ h. let s = moved_so t h (unless_halted h c t.spec.input t.moved.cells (transfer_by (λ n. t.control) c t.spec t.moved)) in (s.engine.connection ≡ Some (transfer_by (λ n. t.control) c t.spec t.moved).connection) × (s.answer ≡ done (transfer_by (λ n. t.control) c t.spec t.moved).condition)
    × (s.job ≡ move (record t { moved = record t.moved { cells = (transfer_by (λ n. t.control) c t.spec t.moved).cells }; count = (transfer_by (λ n. t.control) c t.spec t.moved).count })))
    (sym none) (refl, refl, refl))

-- ---- the other jobs

pub leaves_bytes : LeavesBytes
unfolding serve
leaves_bytes bay c full = (
  refl,
  (λ place. (subst (λ o. (looked bay o place).engine ≡ bay) (sym full) refl, ap (λ o. (looked bay o place).job) full)),
  (λ edit. ap (λ o. (changed bay o edit).engine) full),
  (λ brought. ap (λ o. attached bay o brought) full),
)

pub moves_on : MovesOn
unfolding serve
moves_on bay c how full = ap (λ o. gone bay o how) full

not_open : (c : Connection) (within : Within) → c.spot.within ≡ within → (if is_writing within then with_records c (10 ∷ []) else c).spot.within ≢ Writing
not_open c Outside is e = let no : Outside ≡ Writing = sym is ∙ e in cc
not_open c Reading is e = let no : Reading ≡ Writing = sym is ∙ e in cc
not_open c Writing is e = cc

same_else : (c : Connection) (within : Within) → within ≢ Writing → (if is_writing within then with_records c (10 ∷ []) else c) ≡ c
same_else c Outside other = refl
same_else c Reading other = refl
same_else c Writing other = absurd (other refl)

pub detaches_ended : DetachesEnded
unfolding serve
detaches_ended bay c place full stands = (
  ap (λ o. (detached bay o place).engine) full,
  (
    ended c,
    ap (λ o. (detached bay o place).job) full,
    not_open c c.spot.within refl,
    (ended_kept c).named,
    (ended_kept c).modes,
    (λ is. ap (λ w. (if is_writing w then with_records c (10 ∷ []) else c).bytes) is ∙ ap (λ l. l ++ 10 ∷ []) (ap (λ n. take n c.bytes) (stands.record_open is).2 ∙ take_all (length c.bytes) c.bytes (omega arith))),
    (λ other. same_else c c.spot.within other),
  ),
)

pub empty_or_takes : IsEmptyOrTakes
unfolding serve
empty_or_takes bay none = (
  (λ brought. ap (λ o. attached bay o brought) none),
  (λ place. ap (λ o. detached bay o place) none),
  (λ t. ap (λ o. moved_in bay o t) none),
  (λ how. ap (λ o. gone bay o how) none),
  (λ edit. ap (λ o. changed bay o edit) none),
  refl,
  (λ place. ap (λ o. looked bay o place) none),
)

-- ---- bytes

pub stops_where_bytes_change : StopsWhereBytesChange
unfolding serve
stops_where_bytes_change bay job may = by bay.connection refl job may
  where
    by : (o : Option Connection) → bay.connection ≡ o → (job : Job) → (MayStop job → ⊥) → first_change bay o job ≡ None
    by None is job may = refl
    by (Some c) is (attach brought) may = ap (λ o. first_difference c.bytes (bytes_left (attached bay o brought))) is ∙ same is
      where
        same : bay.connection ≡ Some c → first_difference c.bytes (bytes_left (answered bay (attach brought) (Error 7))) ≡ None
        same is = ap (λ o. first_difference c.bytes (bytes_left (answered (record bay { connection = o }) (attach brought) (Error 7)))) is ∙ no_difference c.bytes
    by (Some c) is (detach place) may = absurd (may tt)
    by (Some c) is (move t) may = absurd (may tt)
    by (Some c) is (go how) may = absurd (may tt)
    by (Some c) is (change edit) may = ap (λ o. first_difference c.bytes (bytes_left (changed bay o edit))) is ∙ no_difference c.bytes
    by (Some c) is flush may = ap (λ o. first_difference c.bytes (bytes_left (answered (record bay { connection = o }) flush Fine))) is ∙ no_difference c.bytes
    by (Some c) is (look place) may =
        ap (λ o. first_difference c.bytes (bytes_left (looked (record bay { connection = o }) o place))) is ∙ no_difference c.bytes
    by (Some c) is resume may = ap (λ o. first_difference c.bytes (bytes_left (answered (record { connection = o; halt = None }) resume Fine))) is ∙ no_difference c.bytes

-- ---- the connection of a bay

kept_so : (bay : Bay) (c after : Connection) (job : Job) → (serve bay job).engine.connection ≡ Some after → Kept c after → KeepsConnection bay c job
kept_so bay c after job is k = record { after = after; there = is; named = k.named; modes = λ other. k.modes; others = k.modes ∙ ap (λ m. record c.modes { edit = m.edit }) (sym k.modes) }

pub keeps_its_connection : KeepsItsConnection
unfolding serve
keeps_its_connection bay c (attach brought) full in_ = kept_so bay c c (attach brought) (ap (λ o. (attached (record bay { connection = o }) o brought).engine.connection) full) (kept_same c)
keeps_its_connection bay c (detach place) full in_ = absurd (in_ place refl)
keeps_its_connection bay c (move t) full in_ =
    kept_so bay c (unless_halted bay.halt c t.spec.input t.moved.cells (transfer_by (λ n. t.control) c t.spec t.moved)).connection (move t) (ap (λ o. (moved_in bay o t).engine.connection) full) (by bay.halt)
  where
    by : (h : Option Condition) → Kept c (unless_halted h c t.spec.input t.moved.cells (transfer_by (λ n. t.control) c t.spec t.moved)).connection
    by None = transfer_kept (λ n. t.control) c t.spec t.moved
    by (Some cause) = kept_same c
keeps_its_connection bay c (go how) full in_ = kept_so bay c (moved c how).0 (go how) (ap (λ o. (gone bay o how).engine.connection) full) (moved_kept c how)
keeps_its_connection bay c (change edit) full in_ = record {
  after = record c { modes = record c.modes { edit = edit } };
  there = ap (λ o. (changed bay o edit).engine.connection) full;
  named = refl;
  modes = λ other. absurd (other edit refl);
  others = refl;
}
keeps_its_connection bay c flush full in_ = kept_so bay c c flush full (kept_same c)
keeps_its_connection bay c (look place) full in_ = kept_so bay c c (look place) (ap (λ o. (looked (record bay { connection = o }) o place).engine.connection) full) (kept_same c)
keeps_its_connection bay c resume full in_ = kept_so bay c c resume full (kept_same c)
