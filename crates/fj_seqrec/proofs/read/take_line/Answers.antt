use Rattle.std.proofs.Common.{◌++◌, length, List, ℕ, sym, ap, ◌∙◌, arith}
use Rattle.std.proofs.lemmas.List.{take_all}
use Rattle.fj_seqrec.proofs.Positions.{line_feed_place, place_found, place_none}
use Rattle.fj_seqrec.proofs.read.take_line.Goals as goal

pub returns-in_ok-push_all-in-Some-clause-part : goal.returns-in_ok-push_all-in-Some-clause-part
returns-in_ok-push_all-in-Some-clause-part c = (c.in-Some.ensures.0.high, place_found _ _ c.in-Some.ensures, c.in_ok-push_all-in-Some.ensures.ok)

pub returns-in_ok-push_all-in-None-clause-part : goal.returns-in_ok-push_all-in-None-clause-part
returns-in_ok-push_all-in-None-clause-part c =
    let piece = c.args.piece.now in
    let whole = sym (take_all (length piece) piece (omega arith)) in
    (omega arith, place_none _ c.in-None.ensures ∙ ap line_feed_place whole, c.in_ok-push_all-in-None.ensures.ok ∙ ap (λ (s : List ℕ). c.args.into.now ++ s) whole)
