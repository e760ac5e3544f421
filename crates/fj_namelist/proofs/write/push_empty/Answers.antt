use Rattle.fj_namelist.proofs.Continued.{member_empty, on_ok}
use Rattle.fj_namelist.proofs.write.push_empty.Goals as goal

pub returns : goal.returns
returns c = on_ok c.push_all.result _ _ (λ h. member_empty c.args.modes c.args.name.now c.args.out.now c.push_name.new.out c.push_all.new.self c.in_ok-push_name.ensures h) c.push_all.ensures.ok
