use Rattle.std.proofs.Common.{drop}
use Rattle.std.proofs.lemmas.List.{drop_all}
use Rattle.fj_namelist.proofs.Lexed.{so_far_more, so_far_end, if_ok}
use Rattle.fj_namelist.proofs.lexer.lex_line.Goals as goal

pub loop-c-preserved : goal.loop-c-preserved
loop-c-preserved c =
    so_far_more c.args.comma c.args.state c.loop-c.state c.in_ok-state.state c.args.line.now c.loop-c.c-index c.args.tokens.now c.loop-c.tokens c.step.new.tokens c.loop-c-test.true c.loop-c.invariant c.in_ok-state.ensures

pub returns : goal.returns
returns c =
    let rest = drop c.loop-c.c-index c.args.line.now in
    if_ok c.end_line.result _ _
    (λ next. so_far_end c.args.comma c.args.state c.loop-c.state next c.args.line.now rest c.args.tokens.now c.loop-c.tokens c.end_line.new.tokens (drop_all c.loop-c.c-index c.args.line.now c.loop-c-test.false) c.loop-c.invariant)
    c.end_line.ensures
