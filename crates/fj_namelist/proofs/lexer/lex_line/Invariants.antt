use Rattle.std.proofs.Common.{drop}
use Rattle.fj_namelist.proofs.Lexed.{SoFar}
use Rattle.fj_namelist.proofs.lexer.lex_line.Given as goal

abbrev pub invariant-loop-c : goal.invariant-loop-c
invariant-loop-c l = SoFar l.comma l.fn.state l.state l.line (drop l.c-index l.line) l.fn.tokens l.tokens
