use Rattle.std.proofs.Common.{refl}
use Rattle.fj_book.proofs.laws.each_is_told.Goals as goal

pub returns : goal.returns
returns c = record { none_broken = refl; reads_pending = refl; defines_held = refl; reads_undefined = refl; names_none = refl; defines_an_item = refl }
