-- One call more.
use Rattle.std.proofs.Common.{suc, refl}
use Rattle.fj_world.specs.Leading.{LeadsTo}

pub led : {S : Type 0} (R : S → S → Type 0) (first before last : S) → LeadsTo R first before → R before last → LeadsTo R first last
led R first before last path step = (suc path.0, (before, path.1, step))

pub led_twice : {S : Type 0} (R : S → S → Type 0) (first a b c : S) → LeadsTo R first a → R a b → R b c → LeadsTo R first c
led_twice R first a b c path one two = led R first b c (led R first a b path one) two

pub led_once : {S : Type 0} (R : S → S → Type 0) (a b : S) → R a b → LeadsTo R a b
led_once R a b one = led R a a b (0, refl) one
