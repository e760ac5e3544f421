use Rattle.std.proofs.Common.{◌≡◌, ◌==◌, ℕ, true, Some, ap, sym, ◌∙◌, arith}
use Rattle.std.proofs.lemmas.Bool.Decides.{nat_tests}
use Rattle.std.proofs.lemmas.Bool.{false≢true}
use Rattle.std.proofs.lemmas.Option.{same_Some, none-some}
use Rattle.fj_list.proofs.scan.stands_at.Goals as goal

equal : (c d : ℕ) → (c == d) ≡ true → c ≡ d
equal c d e = grind (arith, nat_tests)

same : (c d : ℕ) → c ≡ d → (c == d) ≡ true
same c d e = grind (arith, nat_tests)

pub returns-in-Some-clause-yes : goal.returns-in-Some-clause-yes
returns-in-Some-clause-yes c = λ e. sym c.in-Some.ensures ∙ ap (λ x. Some x) (equal c.in-Some.found c.args.c e)

pub returns-in-Some-clause-no : goal.returns-in-Some-clause-no
returns-in-Some-clause-no c = λ e q. absurd (false≢true (sym e ∙ same c.in-Some.found c.args.c (same_Some c.in-Some.found c.args.c (c.in-Some.ensures ∙ q))))

pub returns-in-None-clause-no : goal.returns-in-None-clause-no
returns-in-None-clause-no c = λ e q. none-some c.args.c (c.in-None.ensures ∙ q)
