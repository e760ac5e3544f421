use Rattle.std.proofs.Common.{◌≡◌, true, false, eqb, get_or, arith}
use Rattle.std.proofs.lemmas.Bool.Decides.{nat_tests}
use Rattle.fj_list.proofs.Doubling.{other_more, mark_more, slice_is, take_grown}
use Rattle.fj_list.proofs.shown.push_doubled.Goals as goal
use Rattle.fj_list.proofs.shown.push_doubled.Goals.{then-c-mark+in_ok-push_all, else-c-mark}

pub loop-i-preserved : goal.loop-i-preserved
loop-i-preserved c =
    let kept = c.loop-i.invariant in
    let i = c.loop-i.i in
    let xs = c.args.characters.now in
    let mark = c.args.mark in
    elim c.if-c-mark.branch [
      | then-c-mark+in_ok-push_all w ↦
          let same : eqb (get_or xs i 0) mark ≡ true = grind (arith, nat_tests, w.if-c-mark.true) in
          record {
            within = omega (arith, w.start-is);
            inside = omega (arith, w.start-is);
            kept = rw (w.out-is, w.in_ok-push_all.ensures.ok) (take_grown c.args.out.now c.loop-i.out _ kept.kept);
            written = rw (w.out-is, w.start-is) (rw (w.in_ok-push_all.ensures.ok, slice_is xs c.loop-i.start i kept.within) (mark_more mark c.loop-i.start i xs c.loop-i.out c.args.out.now kept.within c.loop-i-test.true same kept.written));
          }
      | else-c-mark w ↦
          let other : eqb (get_or xs i 0) mark ≡ false = grind (arith, nat_tests, w.if-c-mark.false) in
          record {
            within = omega (arith, w.start-is);
            inside = omega (arith, w.start-is);
            kept = rw w.out-is kept.kept;
            written = rw (w.out-is, w.start-is) (other_more mark c.loop-i.start i xs c.loop-i.out c.args.out.now kept.within c.loop-i-test.true other kept.written);
          }
    ]
