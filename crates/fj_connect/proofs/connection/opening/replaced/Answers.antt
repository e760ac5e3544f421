use Rattle.std.proofs.Common.{refl}
use Rattle.fj_modes.specs.declared.specifiers.FileStatus.TheVariants.{Replace}
use Rattle.fj_connect.proofs.Homes.{not_made}
use Rattle.fj_connect.proofs.connection.opening.replaced.Goals as goal

pub returns-in-Err-clause-content : goal.returns-in-Err-clause-content
returns-in-Err-clause-content g c = λ t. record {
  opened = tt;
  refused = tt;
  stopped = not_made Replace _ _ c.args.name.now refl (rw c.as_str.ensures.text at (c.in-Err.ensures.err t));
}
