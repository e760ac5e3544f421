use Rattle.std.proofs.Common.{◌<◌, ◌≤◌, length, refl, arith}
use Rattle.fj_namelist.specs.GroupText.{IsWithin}
use Rattle.fj_run_items.proofs.Gathers.{all_more, all_taken}
use Rattle.fj_run_items.proofs.layout.are_within.Goals as goal

pub loop-member-preserved : goal.loop-member-preserved
loop-member-preserved c =
    let low : c.loop-member.member-index < length c.args.members.now = omega arith in
    let within : IsWithin c.args.cells c.member-item.result = omega (arith, c.if-member-cells.false) in
    all_more (IsWithin c.args.cells) c.args.members.now c.loop-member.member-index c.member-item.result low c.member-item.is c.loop-member.invariant within

pub returns : goal.returns
returns c =
    let past : length c.args.members.now ≤ c.loop-member.member-index = omega arith in
    (λ _. all_taken (IsWithin c.args.cells) c.args.members.now c.loop-member.member-index past c.loop-member.invariant, λ _. refl)
