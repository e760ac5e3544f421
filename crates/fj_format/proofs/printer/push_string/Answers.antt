use Rattle.fj_format.proofs.Texts.{string_more}
use Rattle.fj_format.proofs.printer.push_string.Goals as goal

pub loop-c-preserved : goal.loop-c-preserved
loop-c-preserved c =
    string_more c.args.string.now c.loop-c.c-index c.push_all.new.self c.loop-c.text c.push_character.new.text c.loop-c-test.true c.loop-c.invariant c.in_ok-push_character.ensures
