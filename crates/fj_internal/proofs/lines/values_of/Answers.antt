use Rattle.std.proofs.Common.{◌≡◌, ◌<◌, ℕ, List, [], ◌∷◌, length, ap, ◌∙◌, arith, rules}
use Rattle.std.proofs.lemmas.Grind.{common_steps}
use Rattle.std.proofs.lemmas.List.{length-append}
use Rattle.fj_value.specs.Reading.{assigned_text}
use Rattle.fj_value.specs.declared.value.Value.{Value}
use Rattle.fj_value.specs.declared.value.Value.TheVariants.{Chars}
use Rattle.fj_internal.proofs.Cutting.{cut_more, some_left}
use Rattle.fj_internal.proofs.lines.values_of.Goals as goal

pub returns-then-len-most-clause-none : goal.returns-then-len-most-clause-none
returns-then-len-most-clause-none c =
    let some : 0 < length c.cutting.rest.now = first_of (omega arith, search rules, grind (arith, common_steps)) in
    let more = some_left c.args.size c.cutting.values.items c.cutting.rest.now c.args.bytes.now c.cutting.invariant.0 some in
    omega (arith, more)

pub cutting-preserved : goal.cutting-preserved
cutting-preserved c =
    let some : 0 < length c.cutting.rest.now = first_of (omega arith, search rules, grind (arith, common_steps)) in
    let value : c.in_ok-of_text.field-0 ≡ Chars (assigned_text c.args.size _) = c.in_ok-of_text.ensures ∙ ap (λ (t : List ℕ). Chars t) (c.in_ok-text.ensures ∙ ap (assigned_text c.args.size) c.first_line.ensures) in (
      cut_more c.args.size c.cutting.values.items c.push.new.self.items c.in_ok-of_text.field-0 c.cutting.rest.now c.args.bytes.now c.behind_line-rest.result.now c.cutting.invariant.0 some value c.behind_line-rest.ensures c.in_ok-push.ensures.items,
      omega (arith, ap (λ (l : List Value). length l) c.in_ok-push.ensures.items, length-append c.cutting.values.items (c.in_ok-of_text.field-0 ∷ [])),
    )
