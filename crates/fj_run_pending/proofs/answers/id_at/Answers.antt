use Rattle.std.proofs.Common.{arith}
use Rattle.fj_run_pending.proofs.Ids.{id_before}
use Rattle.fj_run_pending.specs.declared.held.Held.{Held}
use Rattle.fj_run_pending.proofs.answers.id_at.Goals as goal

pub returns-then-at-len : goal.returns-then-at-len
returns-then-at-len c = λ k h within lt.
    id_before (λ (x : Held). x.tag.0) c.args.helds.now.items c.args.at k c.index.result.now h c.requires (omega (arith, c.args.helds.now.ok)) c.index.ensures within (omega (arith, lt, c.from.ensures))
