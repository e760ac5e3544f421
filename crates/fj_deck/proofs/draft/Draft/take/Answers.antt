use Rattle.std.proofs.Common.{arith, sym, ◌∙◌}
use Rattle.std.proofs.lemmas.Result.{err_from_is_err_and}
use Rattle.fj_syntax.specs.Parsing.{IsBlankLine, IsOnlyStatement}
use Rattle.fj_deck.specs.Line.{Adds, LineIs}
use Rattle.fj_deck.specs.Seen.{begun_of}
use Rattle.fj_deck.proofs.LineLemmas.{line_refused, takes_as}
use Rattle.fj_deck.proofs.draft.Draft.take.Goals as goal

pub returns-then-line-gt-MAX_LINE : goal.returns-then-line-gt-MAX_LINE
returns-then-line-gt-MAX_LINE c = LineIs.long c.if-line-gt-MAX_LINE.true

pub returns-in_err-written : goal.returns-in_err-written
returns-in_err-written c =
    let p = err_from_is_err_and c.from_residual.result c.from_residual.ensures.1 in
    rw (p.1, p.2) (line_refused _ _ _ c.in_err-written.field-0.0 (omega arith) c.in_err-written.ensures)

pub returns-in_default : goal.returns-in_default
returns-in_default c =
    let blank : IsBlankLine c.args.line.now = rw c.in_default.is at c.in_ok-written.ensures in
    LineIs.blank (omega arith) blank

pub returns-then-is_misplaced : goal.returns-then-is_misplaced
returns-then-is_misplaced c =
    let only : IsOnlyStatement c.args.line.now c.in-Some.written = rw c.in-Some.is at c.in_ok-written.ensures in
    LineIs.misplaced c.in-Some.written (omega arith) only.is (sym c.is_misplaced.ensures ∙ c.if-is_misplaced.true)

pub returns : goal.returns
returns c =
    let only : IsOnlyStatement c.args.line.now c.in-Some.written = rw c.in-Some.is at c.in_ok-written.ensures in
    takes_as (Adds (begun_of c.args.self.now) c.args.number c.in-Some.written) (LineIs c.args.line.now c.args.number (begun_of c.args.self.now)) _ _
    (λ answer adds. LineIs.placed c.in-Some.written (omega arith) only.is (sym c.is_misplaced.ensures ∙ c.if-is_misplaced.false) adds)
    c.add.ensures
