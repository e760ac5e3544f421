use Rattle.std.proofs.Common.{sym, ◌∙◌, arith}
use Rattle.fj_namelist.proofs.Taking.{take_skipped}
use Rattle.fj_namelist.proofs.read.take_tokens.Goals as goal

pub loop-i-preserved-then-skip-gt0 : goal.loop-i-preserved-then-skip-gt0
loop-i-preserved-then-skip-gt0 c =
    let l = c.loop-i in
    record {
      taken = sym (take_skipped c.args.members.now c.args.tokens.now l.i l.skip l.place l.cells (omega arith) c.if-skip-gt0.true) ∙ l.invariant.taken;
      there = l.invariant.there;
      places = l.invariant.places;
      count = l.invariant.count;
    }
