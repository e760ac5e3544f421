use Rattle.std.proofs.Common.{◌+◌, ◌∷◌, [], length-append, arith}
use Rattle.fj_store.proofs.RowLemmas.{value_put}
use Rattle.fj_store.proofs.rows.put_values.Goals as goal

pub loop-value-preserved : goal.loop-value-preserved
loop-value-preserved c =
    let l = c.loop-value in
    let first = c.args.first in
    record {
      put = λ of.
          value_put c.args.kind of first (first.index + l.at) l.yielded c.args.marks.now l.marks c.put_home.new.marks c.args.values.now l.values c.put_home.new.values c.in-Some.value c.of_kind.result
          (let e = l.invariant.at in omega (arith, e)) c.of_kind.ensures c.put_home.ensures.marks c.put_home.ensures.values (l.invariant.put of);
      at = omega (arith, l.invariant.at, length-append l.yielded (c.in-Some.value ∷ []));
    }
