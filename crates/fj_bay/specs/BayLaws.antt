-- What holds of every bay and every job, in the words of connections and halts.
use Rattle.std.specs.Prelude.{◌≡◌, ◌≢◌, ◌↔◌, ℕ, List, [], ◌∷◌, ◌++◌, Option, Some, None, if◌then◌else◌, take, slice_get}
use Rattle.fj_value.specs.declared.condition.Condition.{Condition}
use Rattle.fj_value.specs.declared.condition.Condition.TheVariants.{Fine, EndOfFile, Error}
use Rattle.fj_value.specs.declared.edit.EditModes.{EditModes}
use Rattle.fj_connect.specs.Connection.{Connection, with_edit}
use Rattle.fj_connect.specs.PositionLaws.{Stands}
use Rattle.fj_connect.specs.Positions.{moved}
use Rattle.fj_connect.specs.declared.spot.Positioning.{Positioning}
use Rattle.fj_connect.specs.declared.spot.Within.TheVariants.{Writing}
use Rattle.fj_transfer.specs.Transfer.{with_undefined, transfer_by}
use Rattle.fj_bay.specs.Bay.{Bay}
use Rattle.fj_bay.specs.Jobs.{Moving, Looked, looked_at, Job, attach, detach, move, go, change, flush, look, resume, done, skipped}
use Rattle.fj_bay.specs.Serving.{serve, answered, with_done}
use Rattle.fj_bay.specs.Spoilt.{first_difference, first_change, MayStop}

pub data IsHalting : Condition → Type 0 where
  end_of_file : IsHalting EndOfFile
  error : {n : ℕ} → IsHalting (Error n)

-- a transfer that is carried out met an error or the end of the file
abbrev pub MeetsCondition : Bay → Job → Condition → Type 0
MeetsCondition bay job cause = ((c : Connection) × (t : Moving) × (bay.connection ≡ Some c) × (job ≡ move t) × ((serve bay job).answer ≡ done cause) × IsHalting cause)

-- a halt is set by an error or the end of the file that a transfer meets, and by nothing else
abbrev pub HaltsByTransfers : Type 0
HaltsByTransfers = (bay : Bay) (job : Job) (cause : Condition) → bay.halt ≡ None →
    ((serve bay job).engine.halt ≡ Some cause) ↔ MeetsCondition bay job cause

-- a halt is ended by a job of its own, and by nothing else
abbrev pub HaltsUntilResumed : Type 0
HaltsUntilResumed = (bay : Bay) (job : Job) (cause : Condition) → bay.halt ≡ Some cause →
    (job ≡ resume → (serve bay job).engine.halt ≡ None) × (job ≢ resume → (serve bay job).engine.halt ≡ Some cause)

-- the end of a halt changes nothing else
abbrev pub ResumesAlone : Type 0
ResumesAlone = (bay : Bay) → serve bay resume ≡ answered (record bay { halt = None }) resume Fine

-- in a halt a transfer changes nothing, leaves the cells of an input undefined, and tells the cause; only there is anything skipped
abbrev pub SkipsInHalts : Type 0
SkipsInHalts =
    ((bay : Bay) (c : Connection) (t : Moving) (cause : Condition) → bay.connection ≡ Some c → bay.halt ≡ Some cause →
    ((serve bay (move t)).engine ≡ bay) × ((serve bay (move t)).answer ≡ skipped cause)
    × ((serve bay (move t)).job ≡ move (record t { moved = record t.moved { cells = if t.spec.input then with_undefined t.moved.cells else t.moved.cells }; count = None })))
    × ((bay : Bay) (job : Job) (cause : Condition) → (serve bay job).answer ≡ skipped cause → (bay.halt ≡ Some cause) × ((t : Moving) × (job ≡ move t)))

-- without a halt a transfer comes to what READ and WRITE come to on the connection
abbrev pub TransfersElse : Type 0
TransfersElse = (bay : Bay) (c : Connection) (t : Moving) → bay.connection ≡ Some c → bay.halt ≡ None →
    let d = transfer_by (λ n. t.control) c t.spec t.moved in
    ((serve bay (move t)).engine.connection ≡ Some d.connection) × ((serve bay (move t)).answer ≡ done d.condition)
    × ((serve bay (move t)).job ≡ move (with_done t d))

-- what only looks, flushes, or changes modes, leaves every byte and the position; so does a connection that is brought to another one
abbrev pub LeavesBytes : Type 0
LeavesBytes = (bay : Bay) (c : Connection) → bay.connection ≡ Some c →
    ((serve bay flush).engine ≡ bay)
    × ((place : Option Looked) → ((serve bay (look place)).engine ≡ bay) × ((serve bay (look place)).job ≡ look (Some (looked_at c))))
    × ((edit : EditModes) → (serve bay (change edit)).engine ≡ record bay { connection = Some (with_edit c edit) })
    × ((brought : Option Connection) → serve bay (attach brought) ≡ answered bay (attach brought) (Error 7))

-- a motion is that of the connection, also in a halt
abbrev pub MovesOn : Type 0
MovesOn = (bay : Bay) (c : Connection) (how : Positioning) → bay.connection ≡ Some c →
    serve bay (go how) ≡ answered (record bay { connection = Some (moved c how).0 }) (go how) (moved c how).1

-- a connection that is taken out has no open record: one that was open has its line feed, and nothing else is different
abbrev pub DetachesEnded : Type 0
DetachesEnded = (bay : Bay) (c : Connection) (place : Option Connection) → bay.connection ≡ Some c → Stands c →
    ((serve bay (detach place)).engine ≡ record bay { connection = None })
    × ((out : Connection) × ((serve bay (detach place)).job ≡ detach (Some out)) × (out.spot.within ≢ Writing) × (out.name ≡ c.name) × (out.modes ≡ c.modes)
    × (c.spot.within ≡ Writing → out.bytes ≡ c.bytes ++ 10 ∷ []) × (c.spot.within ≢ Writing → out ≡ c))

-- an empty bay takes a connection in; to do anything on it is condition 1, and changes nothing
abbrev pub IsEmptyOrTakes : Type 0
IsEmptyOrTakes = (bay : Bay) → bay.connection ≡ None →
    ((brought : Option Connection) → serve bay (attach brought) ≡ answered (record bay { connection = brought }) (attach None) Fine)
    × ((place : Option Connection) → serve bay (detach place) ≡ answered bay (detach place) Fine)
    × ((t : Moving) → serve bay (move t) ≡ answered bay (move t) (Error 1))
    × ((how : Positioning) → serve bay (go how) ≡ answered bay (go how) (Error 1))
    × ((edit : EditModes) → serve bay (change edit) ≡ answered bay (change edit) (Error 1))
    × (serve bay flush ≡ answered bay flush Fine)
    × ((place : Option Looked) → serve bay (look place) ≡ answered bay (look place) (Error 1))

-- where two files differ first: all bytes before that place are the same, and there they are not; nowhere else is such a place
abbrev pub FindsFirstDifference : Type 0
FindsFirstDifference = (old new : List ℕ) →
    (first_difference old new ≡ None ↔ (old ≡ new))
    × ((n : ℕ) → first_difference old new ≡ Some n → (take n old ≡ take n new) × (slice_get old n ≢ slice_get new n))

-- a job that never stops changes no byte
abbrev pub StopsWhereBytesChange : Type 0
StopsWhereBytesChange = (bay : Bay) (job : Job) → (MayStop job → ⊥) → first_change bay bay.connection job ≡ None

-- it keeps the connection that it has, under its name and with its modes, but for those that change
pub record KeepsConnection (bay : Bay) (c : Connection) (job : Job) : Type 0 where
  pub after : Connection
  pub there : (serve bay job).engine.connection ≡ Some after
  pub named : after.name ≡ c.name
  pub modes : ((edit : EditModes) → job ≢ change edit) → after.modes ≡ c.modes
  pub others : after.modes ≡ record c.modes { edit = after.modes.edit }

abbrev pub KeepsItsConnection : Type 0
KeepsItsConnection = (bay : Bay) (c : Connection) (job : Job) → bay.connection ≡ Some c → ((place : Option Connection) → job ≢ detach place) → KeepsConnection bay c job
