use Rattle.std.proofs.Common.{◌≡◌, ◌<◌, Ok, length, map, ◌++◌, slice_get, ap, refl, sym, ◌∙◌, arith}
use Rattle.std.proofs.lemmas.Option.{slice_get_read}
use Rattle.std.proofs.lemmas.Grind.{common_steps}
use Rattle.fj_unit.specs.Program.{outcome_of}
use Rattle.fj_unit.specs.Unit.{Unit}
use Rattle.fj_unit.proofs.Kept.{get_kept, get_low, length_end, passed_on}
use Rattle.fj_unit.proofs.waits.find.Goals as goal

pub loop-kept-preserved : goal.loop-kept-preserved
loop-kept-preserved c =
    let at = c.loop-kept.at in let kept = c.has_at.new.kept.items in
    let low : at < length kept = c.in_ok-has_at.ensures.yes (ap Ok c.if-branch.true) in
    let read = slice_get_read kept (length kept) at c.index.result.now refl low c.index.ensures in
    let same = c.has_at.ensures.same ∙ c.loop-kept.invariant.same in
    record {
      within = omega (arith, low);
      same = same;
      passed = passed_on (map outcome_of c.args.kept.now.items ++ c.args.unit.now.pending) at c.args.id (outcome_of c.index.result.now)
          (ap (λ (u : Unit). slice_get u.pending at) (sym same) ∙ get_kept outcome_of kept c.has_at.new.unit.pending at c.index.result.now read)
          (λ e. grind (arith, common_steps)) c.loop-kept.invariant.passed;
    }

pub returns-clause-none : goal.returns-clause-none
returns-clause-none c = λ k o get is.
    let end = c.in_ok-has_at.ensures.no (ap Ok c.if-branch.false) in
    let same = c.has_at.ensures.same ∙ c.loop-kept.invariant.same in
    let long : length (map outcome_of c.args.kept.now.items ++ c.args.unit.now.pending) ≡ c.loop-kept.at =
    ap (λ (u : Unit). length u.pending) (sym same) ∙ length_end outcome_of c.has_at.new.kept.items c.has_at.new.unit.pending end.0 ∙ end.1 in
    c.loop-kept.invariant.passed k o (omega (arith, get_low _ k o get, long)) get is
