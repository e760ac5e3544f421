use Rattle.std.proofs.Common.{ℕ, eqb, length, refl, sym, subst, ◌≤◌}
use Rattle.fj_list.proofs.Widths.{width_found, width-le}
use Rattle.fj_list.proofs.scan.width_before.Goals as goal

pub returns-clause-width : goal.returns-clause-width
returns-clause-width c = width_found (λ x. eqb x c.args.mark) c.args.chars.now c.args.chars.now _ _ c.mark_in-place.ensures c.width_to.ensures refl

pub returns-clause-within : goal.returns-clause-within
returns-clause-within c = subst (λ (n : ℕ). n ≤ length c.args.chars.now) (sym (returns-clause-width c)) (width-le (λ x. eqb x c.args.mark) c.args.chars.now)
