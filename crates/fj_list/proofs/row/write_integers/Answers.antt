use Rattle.std.proofs.Common.{◌≡◌, ◌∷◌, ◌++◌, take, refl, arith, ◌∙◌}
use Rattle.std.proofs.lemmas.Int.{to_z-of_z}
use Rattle.fj_list.specs.ListText.{integer_shown}
use Rattle.fj_list.proofs.Rows.{written_more, plain_more}
use Rattle.fj_list.proofs.row.write_integers.Goals as goal

pub loop-i-preserved : goal.loop-i-preserved
loop-i-preserved c =
    let l = c.loop-i in
    let values = c.args.values.now in
    let more : take c.in-Some.end c.write_behind_blank.new.row ≡ take l.at l.row ++ (32 ∷ integer_shown c.args.modes.plus c.in-Int.n) = grind (arith, to_z-of_z) in
    record {
      within = omega (arith, c.in-Some.ensures.within, c.in-Some.ensures.size);
      size = c.in-Some.ensures.size ∙ l.invariant.size;
      written = written_more c.args.modes values l.i _ _ c.in-Int.n c.loop-i-test.true c.index-values-i.is refl c.in-Int.is _ _ l.invariant.written more;
      plain = plain_more c.args.modes values l.i _ _ c.in-Int.n c.loop-i-test.true c.index-values-i.is refl c.in-Int.is l.invariant.plain;
    }
