use Rattle.std.proofs.Common.{ℕ, ◌++◌, ◌-◌, length, ap, ◌∙◌}
use Rattle.fj_namelist.specs.GroupText.{text_behind, values_in}
use Rattle.fj_namelist.proofs.Continued.{member_behind, on_ok}
use Rattle.fj_namelist.proofs.write.push_filled.Goals as goal

pub returns : goal.returns
returns c =
    let vs = values_in c.args.rest.now in
    let valued = c.push_value.new.out in
    on_ok c.push_rest.result _ _
    (λ h. member_behind c.args.modes c.args.name.now c.args.first.now.value vs c.args.out.now c.push_name.new.out valued c.push_rest.new.out c.in_ok-push_name.ensures c.in_ok-push_value.ensures.ok
    (h ∙ ap (λ (n : ℕ). valued ++ text_behind c.args.modes (length valued - n) vs) c.len-start.ensures))
    c.push_rest.ensures
