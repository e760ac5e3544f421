use Rattle.std.proofs.Common.{◌≤◌, subst}
use Rattle.std.specs.List.{All}
use Rattle.fj_format.specs.Marks.{outside}
use Rattle.fj_format.specs.Printing.{printed}
use Rattle.fj_format.specs.Unfolding.{height, pass}
use Rattle.fj_format.specs.Within.{IsStepWithin}
use Rattle.fj_format.proofs.Decided.{printed_is}
use Rattle.fj_format.proofs.Withins.{format_within}
use Rattle.fj_format.specs.Sound.{IsSound}
use Rattle.fj_format.proofs.format.Format.items.Goals as goal

pub returns-clause-sound : goal.returns-clause-sound
returns-clause-sound c = subst IsSound c.self.view_is c.self.invariant

pub returns-clause-low : goal.returns-clause-low
returns-clause-low c = subst (λ items. height items ≤ 31) c.self.view_is c.self.invariant.low

pub returns-clause-within : goal.returns-clause-within
returns-clause-within c =
    subst (λ items. All IsStepWithin (pass items)) c.self.view_is
    (format_within c.self.inside.items.value (outside (printed c.self.inside.items.value)) (printed_is c.self.inside.items.value c.self.invariant))
