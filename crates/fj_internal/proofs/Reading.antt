-- A READ on two connections that have the same lines ahead.
use Rattle.std.proofs.Common.{◌≡◌, ℕ, ◌||◌, ◌&&◌, not, Bool, true, false, cond, List, [], ◌∷◌, length, Option, Some, None, Result, Ok, Err, refl, sym, ap, ◌∙◌, is_some}
use Rattle.fj_value.specs.declared.edit.EditModes.{EditModes}
use Rattle.fj_value.specs.declared.value.Cell.{Cell}
use Rattle.fj_value.specs.declared.condition.Condition.{Condition}
use Rattle.fj_value.specs.declared.condition.Condition.TheVariants.{Fine, EndOfFile, EndOfRecord, Error}
use Rattle.fj_modes.specs.declared.specifiers.Access.{Access}
use Rattle.fj_modes.specs.declared.specifiers.Access.TheVariants.{Sequential, Direct, Stream}
use Rattle.fj_modes.specs.Words.{same_access}
use Rattle.fj_seqrec.specs.Lines.{lines}
use Rattle.fj_control.specs.Steps.{Given}
use Rattle.fj_control.specs.Paired.{paired}
use Rattle.fj_moved.specs.declared.moved.Moved.{Moved}
use Rattle.fj_list.specs.ListInput.{Outcome, list_input}
use Rattle.fj_namelist.specs.GroupInput.{group_input}
use Rattle.fj_connect.specs.Connection.{Connection, bytes_behind, past_record, rest_of_record, with_records}
use Rattle.fj_connect.specs.Positions.{ended}
use Rattle.fj_connect.specs.Spot.{is_reading, is_writing}
use Rattle.fj_connect.specs.declared.spot.Within.{Within}
use Rattle.fj_connect.specs.declared.spot.Within.TheVariants.{Outside}
use Rattle.fj_transfer.specs.AtHand.{AtHand, first_record, line_at, rest_at, record_numbered}
use Rattle.fj_transfer.specs.Change.{changed}
use Rattle.fj_transfer.specs.Transfer.{Ways, input_done, explicit_read, records_read, records_to_come, condition_to_come, up_to_excess, behind_them, rest_exceeds, read_by, written_by, from_place, placed, begins_at, in_error, if_fit, differ, is_formatted, is_explicit, is_forbidden, needs_sequence, unfit, transfer_by}
use Rattle.fj_transfer.specs.declared.transfer.TransferSpec.{TransferSpec}
use Rattle.fj_transfer.specs.declared.transfer.Layout.{Layout}
use Rattle.fj_transfer.specs.declared.transfer.Layout.TheVariants.{Unformatted, Explicit, Listed, Group}
use Rattle.fj_internal.specs.Internal.{taken_by, IsInput}
use Rattle.fj_internal.specs.InternalLaws.{StandsAtRecords}
use Rattle.fj_internal.proofs.Alike.{SameAhead, SameFound, line_same, input_same}

-- ---- what an input leaves of its cells does not depend on the connection

ways_alike : (u v : Ways) (cells : List Cell) (count : Option ℕ) (k : Condition) → taken_by (input_done u cells count k) ≡ taken_by (input_done v cells count k)
ways_alike u v cells count Fine = refl
ways_alike u v cells count EndOfFile = refl
ways_alike u v cells count EndOfRecord = refl
ways_alike u v cells count (Error n) = refl

ways_same : (u v : Ways) (cells cells' : List Cell) (count count' : Option ℕ) (k k' : Condition) → cells ≡ cells' → count ≡ count' → k ≡ k' → taken_by (input_done u cells count k) ≡ taken_by (input_done v cells' count' k')
ways_same u v cells cells' count count' k k' a b e =
    ap (λ x. taken_by (input_done u x count k)) a ∙ ap (λ x. taken_by (input_done u cells' x k)) b ∙ ap (λ x. taken_by (input_done u cells' count' x)) e ∙ ways_alike u v cells' count' k'

-- ---- by the layout

explicit_same : (c d : Connection) (advance : Bool) (modes : EditModes) (control : ℕ → List Given) (moved : Moved) (r r' : Result AtHand Condition) → SameFound r r'
    → taken_by (explicit_read c c advance modes control moved r) ≡ taken_by (explicit_read d d advance modes control moved r')
explicit_same c d advance modes control moved (Ok h) (Ok k) s =
    let e = input_same advance (paired modes (control (length moved.order)) moved.order) h k s 0 moved.cells 0 in
    ways_same _ _ _ _ _ _ _ _ e.cells (ap Some e.count) e.condition
explicit_same c d advance modes control moved (Err a) (Err b) s = ways_same _ _ moved.cells moved.cells None None a b refl refl s
explicit_same c d advance modes control moved (Ok h) (Err b) s = absurd s
explicit_same c d advance modes control moved (Err a) (Ok k) s = absurd s

pub first_is : (c : Connection) → c.modes.access ≡ Sequential → c.spot.within ≡ Outside → first_record c ≡ line_at c
first_is c access within =
    ap (λ (a : Access). cond (same_access a Direct) (record_numbered c c.spot.next_number) (cond (is_reading c.spot.within) (rest_at c) (line_at c))) access
    ∙ ap (λ (w : Within). cond (is_reading w) (rest_at c) (line_at c)) within

pub records_are : (c : Connection) → c.spot.within ≡ Outside → records_to_come c ≡ up_to_excess c.modes.recl (lines (bytes_behind c))
records_are c within =
    ap (λ (w : Within). cond (is_reading w) (cond (rest_exceeds c) [] (rest_of_record c ∷ up_to_excess c.modes.recl (lines (bytes_behind (past_record c))))) (up_to_excess c.modes.recl (lines (bytes_behind c)))) within

pub condition_is : (c : Connection) → c.spot.within ≡ Outside → condition_to_come c ≡ behind_them c.modes.recl (lines (bytes_behind c))
condition_is c within =
    ap (λ (w : Within). cond (is_reading w) (cond (rest_exceeds c) (Error 15) (behind_them c.modes.recl (lines (bytes_behind (past_record c))))) (behind_them c.modes.recl (lines (bytes_behind c)))) within

records_same : (c d : Connection) → SameAhead c d → c.spot.within ≡ Outside → d.spot.within ≡ Outside → records_to_come c ≡ records_to_come d
records_same c d s v w =
    records_are c v ∙ ap (λ n. up_to_excess n (lines (bytes_behind c))) s.limit ∙ ap (up_to_excess d.modes.recl) s.lines ∙ sym (records_are d w)

condition_same : (c d : Connection) → SameAhead c d → c.spot.within ≡ Outside → d.spot.within ≡ Outside → condition_to_come c ≡ condition_to_come d
condition_same c d s v w =
    condition_is c v ∙ ap (λ n. behind_them n (lines (bytes_behind c))) s.limit ∙ ap (behind_them d.modes.recl) s.lines ∙ sym (condition_is d w)

outcome_same : (c d : Connection) (cells cells' : List Cell) (o p : Outcome) → o ≡ p → taken_by (records_read c c cells o) ≡ taken_by (records_read d d cells' p)
outcome_same c d cells cells' o p e = ways_same _ _ _ _ None None _ _ (ap (λ (x : Outcome). x.cells) e) refl (ap (λ (x : Outcome). x.condition) e)

-- what is unformatted is in error on both
by_layout : (l : Layout) (control : ℕ → List Given) (c d : Connection) (spec : TransferSpec) (modes : EditModes) (moved : Moved) → SameAhead c d → c.spot.within ≡ Outside → d.spot.within ≡ Outside
    → taken_by (cond (differ true (is_formatted l)) (in_error c spec.input moved.cells (Error 16)) (read_by l control c c spec modes moved))
    ≡ taken_by (cond (differ true (is_formatted l)) (in_error d spec.input moved.cells (Error 16)) (read_by l control d d spec modes moved))
by_layout Unformatted control c d spec modes moved s v w = refl
by_layout (Explicit f) control c d spec modes moved s v w =
    ap (λ r. taken_by (explicit_read c c spec.advance modes control moved r)) (first_is c s.left v)
    ∙ explicit_same c d spec.advance modes control moved (line_at c) (line_at d) (line_same c d s)
    ∙ ap (λ r. taken_by (explicit_read d d spec.advance modes control moved r)) (sym (first_is d s.right w))
by_layout Listed control c d spec modes moved s v w =
    outcome_same c d moved.cells moved.cells _ _
    (ap (λ r. list_input modes.comma r (condition_to_come c) moved.cells moved.order) (records_same c d s v w)
    ∙ ap (λ k. list_input modes.comma (records_to_come d) k moved.cells moved.order) (condition_same c d s v w))
by_layout (Group name members) control c d spec modes moved s v w =
    outcome_same c d moved.cells moved.cells _ _
    (ap (λ r. group_input modes.comma r (condition_to_come c) name members moved.cells) (records_same c d s v w)
    ∙ ap (λ k. group_input modes.comma (records_to_come d) k name members moved.cells) (condition_same c d s v w))

-- ---- the statement

-- only the layout may not be for a formatted connection of sequential access
pub only_layout : (a b s t f : Bool) → b ≡ false → s ≡ false → t ≡ false → f ≡ false → cond (a || b || s || t) (Error 16) (cond f (Error 10) Fine) ≡ cond a (Error 16) Fine
only_layout true b s t f h i j k = refl
only_layout false false false false false h i j k = refl
only_layout false false false false true h i j k = cc
only_layout false false false true f h i j k = cc
only_layout false false true t f h i j k = cc
only_layout false true s t f h i j k = cc

pub unfit_is : (c : Connection) (spec : TransferSpec) → c.modes.access ≡ Sequential → c.modes.formatted ≡ true → is_forbidden c.modes.action spec.input ≡ false → spec.rec ≡ None → spec.pos ≡ None
    → unfit c.modes spec ≡ cond (differ true (is_formatted spec.layout)) (Error 16) Fine
unfit_is c spec access formatted allowed rec pos =
    let advance = is_explicit spec.layout && not spec.advance in
    let direct : same_access c.modes.access Direct ≡ false = ap (λ (a : Access). same_access a Direct) access in
    only_layout (differ c.modes.formatted (is_formatted spec.layout)) (differ (is_some spec.rec) (same_access c.modes.access Direct)) (is_some spec.pos && not (same_access c.modes.access Stream))
    (same_access c.modes.access Direct && needs_sequence spec.layout advance) (is_forbidden c.modes.action spec.input)
    (ap (λ r. differ (is_some r) (same_access c.modes.access Direct)) rec ∙ direct)
    (ap (λ r. is_some r && not (same_access c.modes.access Stream)) pos)
    (ap (λ b. b && needs_sequence spec.layout advance) direct) allowed
    ∙ ap (λ b. cond (differ b (is_formatted spec.layout)) (Error 16) Fine) formatted

pub fit_cond : (control : ℕ → List Given) (c : Connection) (spec : TransferSpec) (moved : Moved) (a : Bool)
    → if_fit control c spec moved (cond a (Error 16) Fine) ≡ cond a (in_error c spec.input moved.cells (Error 16)) (from_place control c spec moved (begins_at spec (cond spec.input (ended c) c)))
fit_cond control c spec moved true = refl
fit_cond control c spec moved false = refl

pub begins_here : (c : Connection) (spec : TransferSpec) → c.spot.after_end ≡ false → spec.rec ≡ None → spec.pos ≡ None → begins_at spec c ≡ Ok c
begins_here c spec after rec pos =
    ap (λ b. cond b (Err (Error 20)) (placed c spec.rec spec.pos)) after ∙ ap (λ r. placed c r spec.pos) rec ∙ ap (placed c None) pos

-- a READ by the lines ahead, of a connection that stands between records
pub read_is : (control : ℕ → List Given) (c : Connection) (spec : TransferSpec) (moved : Moved) → StandsAtRecords c → is_forbidden c.modes.action true ≡ false → IsInput spec
    → transfer_by control c spec moved ≡ cond (differ true (is_formatted spec.layout)) (in_error c spec.input moved.cells (Error 16)) (read_by spec.layout control c c spec (changed spec.edit c.modes.edit) moved)
unfolding transfer_by
read_is control c spec moved o allowed is =
    let a = differ true (is_formatted spec.layout) in
    let err = in_error c spec.input moved.cells (Error 16) in
    ap (if_fit control c spec moved) (unfit_is c spec o.access o.formatted (ap (is_forbidden c.modes.action) is.input ∙ allowed) is.rec is.pos)
    ∙ fit_cond control c spec moved (differ true (is_formatted spec.layout))
    ∙ ap (λ b. cond (differ true (is_formatted spec.layout)) (in_error c spec.input moved.cells (Error 16)) (from_place control c spec moved (begins_at spec (cond b (ended c) c)))) is.input
    ∙ ap (λ (w : Within). cond (differ true (is_formatted spec.layout)) (in_error c spec.input moved.cells (Error 16)) (from_place control c spec moved (begins_at spec (cond (is_writing w) (with_records c (10 ∷ [])) c)))) o.within
    ∙ ap (λ r. cond (differ true (is_formatted spec.layout)) (in_error c spec.input moved.cells (Error 16)) (from_place control c spec moved r)) (begins_here c spec o.after_end is.rec is.pos)
    ∙ ap (λ b. cond (differ true (is_formatted spec.layout)) (in_error c spec.input moved.cells (Error 16))
    (cond b (read_by spec.layout control c c spec (changed spec.edit c.modes.edit) moved) (written_by spec.layout control c c spec (changed spec.edit c.modes.edit) moved))) is.input

pub read_alike : (control : ℕ → List Given) (c d : Connection) (spec : TransferSpec) (moved : Moved) → StandsAtRecords c → StandsAtRecords d → is_forbidden c.modes.action true ≡ false → is_forbidden d.modes.action true ≡ false
    → c.modes.recl ≡ d.modes.recl → lines (bytes_behind c) ≡ lines (bytes_behind d) → IsInput spec → taken_by (transfer_by control c spec moved) ≡ taken_by (transfer_by control d spec moved)
read_alike control c d spec moved o p allowed permitted limit ahead is =
    let s : SameAhead c d = record { left = o.access; right = p.access; limit = limit; lines = ahead } in
    let edit : c.modes.edit ≡ d.modes.edit = o.edit ∙ sym p.edit in
    ap taken_by (read_is control c spec moved o allowed is)
    ∙ ap (λ (m : EditModes). taken_by (cond (differ true (is_formatted spec.layout)) (in_error c spec.input moved.cells (Error 16)) (read_by spec.layout control c c spec (changed spec.edit m) moved))) edit
    ∙ by_layout spec.layout control c d spec (changed spec.edit d.modes.edit) moved s o.within p.within
    ∙ sym (ap taken_by (read_is control d spec moved p permitted is))
