use Rattle.std.proofs.Common.{◌≡◌, ◌-◌, ◌++◌, length, take, drop, replicate, ap, ◌∙◌, arith}
use Rattle.std.proofs.lemmas.Int.{to_z-of_z}
use Rattle.std.proofs.lemmas.List.{take_rest}
use Rattle.fj_list.specs.ListText.{integer_shown}
use Rattle.fj_list.proofs.Integers.{fewer_blanks}
use Rattle.fj_list.proofs.shown.push_integer.Goals as goal

pub returns-clause-ok : goal.returns-clause-ok
returns-clause-ok c =
    let buffer = c.write_integer-start.new.buffer in
    let from = c.write_integer-start.result - c.args.blanks in
    let long : length buffer ≡ 24 = grind arith in
    let written : buffer ≡ replicate c.write_integer-start.result 32 ++ integer_shown c.args.plus c.args.n = grind (arith, to_z-of_z) in
    let e : take (24 - from) (drop from buffer) ≡ replicate c.args.blanks 32 ++ integer_shown c.args.plus c.args.n =
    rw (← long) (take_rest buffer from) ∙ ap (drop from) written ∙ fewer_blanks c.write_integer-start.result c.args.blanks _ (grind arith) in
    rw e at c.push_all.ensures.ok
