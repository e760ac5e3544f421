use Rattle.std.proofs.Common.{◌++◌, refl, ap}
use Rattle.fj_format.specs.Unfolding.{pass}
use Rattle.fj_format.proofs.UnfoldingLaws.{written_out-Field, written_out-Group, written_out-Str, written_out-Tab, written_out-Left, written_out-Right, written_out-Skip, written_out-Slash, written_out-Colon, written_out-Mode, written_out-Unlimited}
use Rattle.fj_format.proofs.laws.passes_unfold.Goals as goal

pub returns : goal.returns
returns c = record {
  nothing = refl;
  field = λ r e more. ap (λ l. l ++ pass more) (written_out-Field r e);
  group = λ r items more. ap (λ l. l ++ pass more) (written_out-Group r items);
  text = λ s more. ap (λ l. l ++ pass more) (written_out-Str s);
  to = λ n more. ap (λ l. l ++ pass more) (written_out-Tab n);
  back = λ n more. ap (λ l. l ++ pass more) (written_out-Left n);
  ahead = λ n more. ap (λ l. l ++ pass more) (written_out-Right n);
  skip = λ n more. ap (λ l. l ++ pass more) (written_out-Skip n);
  records = λ n more. ap (λ l. l ++ pass more) (written_out-Slash n);
  stop = λ more. ap (λ l. l ++ pass more) written_out-Colon;
  change = λ m more. ap (λ l. l ++ pass more) (written_out-Mode m);
  unlimited = λ items more. ap (λ l. l ++ pass more) (written_out-Unlimited items);
}
