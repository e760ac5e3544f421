use Rattle.std.proofs.Common.{arith}
use Rattle.std.proofs.lemmas.Map.Text.{text_keys}
use Rattle.fj_outside.proofs.plans.set_made.Goals as goal

pub returns-in-Some-clause-changed : goal.returns-in-Some-clause-changed
returns-in-Some-clause-changed c = λ h. record { changed = grind (arith, text_keys); others = λ q ne. grind (arith, text_keys); places = λ q t. grind (arith, text_keys) }
