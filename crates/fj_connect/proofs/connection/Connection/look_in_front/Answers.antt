use Rattle.std.proofs.Common.{◌≡◌, ◌≢◌, ◌+◌, ◌<◌, length, List, ℕ, ◌∷◌, ◌++◌, [], sym, ◌∙◌}
use Rattle.std.specs.Str.Lines.{strip_carriage_return}
use Rattle.fj_seqrec.specs.declared.read.RecordRead.TheVariants.{Line}
use Rattle.fj_seqrec.proofs.ReadLaws.{IsRecord, at_line, at_long}
use Rattle.fj_connect.specs.declared.spot.Within.TheVariants.{Writing}
use Rattle.fj_connect.specs.Linked.{connection_of}
use Rattle.fj_connect.specs.Positions.{ended}
use Rattle.fj_connect.proofs.AheadProofs.{ended_bytes, fed_record, fed_read}
use Rattle.fj_connect.proofs.connection.Connection.look_in_front.Goals as goal
use Rattle.fj_connect.proofs.connection.Connection.look_in_front.Goals.{In_ok-read}

-- the place is before the last byte, and the bytes once the open record is ended
in_front : (g : _) (c : In_ok-read g) → g.F.FileStore.tells c.args.self.now.file → c.args.at < length (g.F.FileStore.bytes c.args.self.now.file)
in_front g c = λ t.
    let told = rw (← c.self.view_is) at t in
    rw (← c.self.view_is) (rw (← c.len.ensures.bytes told, c.len.ensures.size) (rw (← c.self.view_is) at c.requires.front))

are_ended : (g : _) (c : In_ok-read g) → g.F.FileStore.tells c.args.self.now.file
    → (ended (connection_of g.F.FileStore.bytes c.args.self.now)).bytes ≡ g.F.FileStore.bytes c.args.self.now.file ++ 10 ∷ []
are_ended g c = λ t.
    let told = rw (← c.self.view_is) at t in
    let writing : c.self.inside.spot.within ≡ Writing = rw (← c.self.view_is) at c.requires.writing in
    rw (← c.self.view_is) (ended_bytes _ writing ((c.self.invariant.placed.record_open writing).2 ∙ sym c.len.ensures.size ∙ c.len.ensures.bytes told))

-- what was found, once the open record is ended
is_record : (g : _) (c : In_ok-read g) (next behind : ℕ) (line : List ℕ) → g.F.FileStore.tells c.args.self.now.file → c.in_ok-read.read ≡ Line next
    → (next ≡ c.args.at + length c.read_record.new.into → (behind ≡ next + 1) × (line ≡ strip_carriage_return c.read_record.new.into))
    → (next ≢ c.args.at + length c.read_record.new.into → (behind ≡ next) × (line ≡ c.read_record.new.into))
    → IsRecord (ended (connection_of g.F.FileStore.bytes c.args.self.now)).bytes c.args.at line behind
is_record g c next behind line t is unfed fed =
    let told = rw (← c.self.view_is) at t in
    let read = rw is at (c.in_ok-read.ensures.answer told) in
    let held = rw is at (c.in_ok-read.ensures.text told) in
    rw (are_ended g c t, ← c.self.view_is) (fed_record _ _ line c.args.at _ next behind (rw (← c.self.view_is) at (in_front g c t)) read held unfed fed)

pub returns-in_default-clause-answer : goal.returns-in_default-clause-answer
returns-in_default-clause-answer g c = λ t.
    let before = (goal.at.returns-in_default-clause-answer g c).In_ok-read in
    let told = rw (← c.self.view_is) at t in
    rw (are_ended g before t, ← c.self.view_is)
    (fed_read _ c.args.at _ _ _ (rw (← c.self.view_is) at (in_front g before t)) c.in_default.not-Line (c.in_ok-read.ensures.answer told) (c.in_ok-read.ensures.text told)).0

pub returns-in_default-clause-text : goal.returns-in_default-clause-text
returns-in_default-clause-text g c = λ t.
    let before = (goal.at.returns-in_default-clause-text g c).In_ok-read in
    let told = rw (← c.self.view_is) at t in
    rw (are_ended g before t, ← c.self.view_is)
    (fed_read _ c.args.at _ _ _ (rw (← c.self.view_is) at (in_front g before t)) c.in_default.not-Line (c.in_ok-read.ensures.answer told) (c.in_ok-read.ensures.text told)).1

pub returns-then-len-limit-clause-answer : goal.returns-then-len-limit-clause-answer
returns-then-len-limit-clause-answer g c = λ t.
    let before = (goal.at.returns-then-len-limit-clause-answer g c).In_ok-read in
    let is = is_record g before c.in-Line.next c.with_feed-next.result c.with_feed-next.new.held t c.in-Line.is c.with_feed-next.ensures.unfed c.with_feed-next.ensures.fed in
    at_long _ c.args.at _ is.some (rw (is.first, ← c.self.view_is) (rw c.len-2.ensures at c.if-len-limit.true))

pub returns-clause-answer : goal.returns-clause-answer
returns-clause-answer g c = λ t.
    let before = (goal.at.returns-clause-answer g c).In_ok-read in
    let is = is_record g before c.in-Line.next c.with_feed-next.result c.with_feed-next.new.held t c.in-Line.is c.with_feed-next.ensures.unfed c.with_feed-next.ensures.fed in
    at_line _ c.args.at _ _ _ is (rw (← c.self.view_is) (rw c.len-2.ensures at c.if-len-limit.false))

pub returns-clause-text : goal.returns-clause-text
returns-clause-text g c = λ t.
    let before = (goal.at.returns-clause-text g c).In_ok-read in
    sym (is_record g before c.in-Line.next c.with_feed-next.result c.with_feed-next.new.held t c.in-Line.is c.with_feed-next.ensures.unfed c.with_feed-next.ensures.fed).first
