use Rattle.std.proofs.Common.{◌+◌, ◌-◌, ◌++◌, List, drop, ap, ◌∙◌, Ok, Err, arith}
use Rattle.std.proofs.lemmas.Result.{err_from_is_err_and}
use Rattle.fj_line.specs.Actions.{carried_out}
use Rattle.fj_line.specs.Page.{at_hand}
use Rattle.fj_line.proofs.Carrying.{kept_on}
use Rattle.fj_moved.specs.declared.moved.GroupMember.{GroupMember}
use Rattle.fj_namelist.specs.GroupText.{values_of, member_written, members_written}
use Rattle.fj_transfer.specs.Printing.{record_actions}
use Rattle.fj_transfer.proofs.GroupLemmas.{from_here, first_stops, carries_front, carries_member}
use Rattle.fj_transfer.proofs.group.put_members.Goals as goal

pub returns-in_err-put_member-clause-done : goal.returns-in_err-put_member-clause-done
returns-in_err-put_member-clause-done c =
    let p = err_from_is_err_and c.from_residual.result c.from_residual.ensures.1 in
    let begun = at_hand c.args.page.now c.args.text.now in
    let here = c.loop-member in
    let hand = at_hand here.page here.text in
    let new = at_hand c.put_member.new.page c.put_member.new.text in
    let members = c.args.members.now in
    let cells = c.args.cells.now in
    let m = c.member-item.result in
    let first = member_written c.args.modes m.name (values_of m cells) in
    let rest = members_written c.args.modes (drop (here.member-index + 1) members) cells in
    let next = from_here members here.member-index m c.loop-member-test.true c.member-item.is in
    let written = λ (left : List GroupMember). record_actions (members_written c.args.modes left cells) in
    rw (p.1, p.2) (first_stops begun hand new (written members) (written (drop here.member-index members)) (record_actions (first ++ rest)) (record_actions rest) c.in_err-put_member.field-0.0
    here.invariant.same (ap written next) (carries_front hand new first rest (Err c.in_err-put_member.field-0.0)
    (carries_member c.args.modes m cells c.bytes.result.now (m.first + m.count - m.first) hand new (Err c.in_err-put_member.field-0.0) c.bytes.ensures (omega arith) c.in_err-put_member.ensures.done)))

pub loop-member-preserved : goal.loop-member-preserved
loop-member-preserved c =
    let here = c.loop-member in
    let hand = at_hand here.page here.text in
    let new = at_hand c.put_member.new.page c.put_member.new.text in
    let members = c.args.members.now in
    let cells = c.args.cells.now in
    let m = c.member-item.result in
    let first = member_written c.args.modes m.name (values_of m cells) in
    let rest = members_written c.args.modes (drop (here.member-index + 1) members) cells in
    let next = from_here members here.member-index m c.loop-member-test.true c.member-item.is in
    record {
      within = c.in_ok-put_member.ensures.within;
      kept = kept_on _ _ _ _ _ _ here.invariant.kept c.put_member.ensures.kept;
      same = here.invariant.same ∙ ap (λ left. carried_out hand (record_actions (members_written c.args.modes left cells))) next ∙ carries_front hand new first rest (Ok tt)
          (carries_member c.args.modes m cells c.bytes.result.now (m.first + m.count - m.first) hand new (Ok tt) c.bytes.ensures (omega arith) c.in_ok-put_member.ensures.done);
    }
