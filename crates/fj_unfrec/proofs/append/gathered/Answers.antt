use Rattle.std.proofs.Common.{refl}
use Rattle.fj_unfrec.proofs.AppendLaws.{gathered_is}
use Rattle.fj_unfrec.proofs.append.gathered.Goals as goal

pub returns : goal.returns
returns c = gathered_is _ _ _ _ c.args.body.now _ _ c.to_le_bytes-width.ensures c.put.ensures c.put-2.ensures c.put-3.ensures refl
