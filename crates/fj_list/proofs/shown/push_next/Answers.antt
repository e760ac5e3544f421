use Rattle.std.proofs.Common.{◌≡◌, ◌++◌, ap, ◌∙◌, append_assoc}
use Rattle.fj_list.specs.ListText.{shown, gap, is_characters}
use Rattle.fj_list.proofs.Doubling.{front_grown}
use Rattle.fj_list.proofs.shown.push_next.Goals as goal

pub returns : goal.returns
returns c =
    let modes = c.args.modes in
    let value = c.args.value.now in
    let front = c.in_ok-push_all.ensures.ok in
    let e : c.push_all.new.self ++ shown modes value ≡ c.args.out.now ++ (gap modes c.args.characters (is_characters value) ++ shown modes value) =
    ap (λ l. l ++ shown modes value) front ∙ append_assoc c.args.out.now c.gap.result.now (shown modes value)
    ∙ ap (λ l. c.args.out.now ++ (l ++ shown modes value)) (c.gap.ensures ∙ ap (gap modes c.args.characters) c.is_characters.ensures) in
    record { ok = rw e at c.push_value.ensures.ok; kept = front_grown c.args.out.now c.gap.result.now c.push_all.new.self c.push_value.new.out front c.push_value.ensures.kept }
