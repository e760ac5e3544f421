-- The words by which a member is run ask that its deck be carried out.
use Rattle.std.proofs.Common.{◌≡◌, ℕ, zero, suc, ◌+◌, ◌≤◌, false, List, [], ◌∷◌, codes, ap, ◌∙◌, refl, arith}
use Rattle.std.proofs.lemmas.Fmt.{decimal_digit}
use Rattle.clap.proofs.OnLiterals.{clap_on_literals}
use Rattle.fj_value.specs.Digits.{number_in}
use Rattle.fj_report.specs.declared.form.Form.{Form}
use Rattle.fj_report.specs.declared.form.Form.TheVariants.{Run}
use Rattle.fj_report.specs.Words.{form_of, run_form, alone_form, check_form, gen_form, given, number_up_to}
use Rattle.fj_job.specs.Task.{task_of}
use Rattle.fj_job.specs.declared.task.Task.TheVariants.{Execute}
use Rattle.fj_batch.specs.Words.{run_words}

-- a number of one digit as words say it
form_with : ℕ → Form
form_with n = form_of (codes "run" ∷ codes "--workers" ∷ (n ∷ []) ∷ [])

none_asked : form_with 48 ≡ Run 0 false
unfolding form_with form_of run_form alone_form check_form gen_form given number_up_to number_in clap_on_literals
none_asked = refl

one_asked : form_with 49 ≡ Run 1 false
unfolding form_with form_of run_form alone_form check_form gen_form given number_up_to number_in clap_on_literals
one_asked = refl

two_asked : form_with 50 ≡ Run 2 false
unfolding form_with form_of run_form alone_form check_form gen_form given number_up_to number_in clap_on_literals
two_asked = refl

three_asked : form_with 51 ≡ Run 3 false
unfolding form_with form_of run_form alone_form check_form gen_form given number_up_to number_in clap_on_literals
three_asked = refl

four_asked : form_with 52 ≡ Run 4 false
unfolding form_with form_of run_form alone_form check_form gen_form given number_up_to number_in clap_on_literals
four_asked = refl

up_to_four : (P : ℕ → Type 0) → P 0 → P 1 → P 2 → P 3 → P 4 → (n : ℕ) → n ≤ 4 → P n
up_to_four P a b c d e zero h = a
up_to_four P a b c d e (suc zero) h = b
up_to_four P a b c d e (suc (suc zero)) h = c
up_to_four P a b c d e (suc (suc (suc zero))) h = d
up_to_four P a b c d e (suc (suc (suc (suc zero)))) h = e
up_to_four P a b c d e (suc (suc (suc (suc (suc n))))) h = absurd (omega arith)

digit_asked : (n : ℕ) → n ≤ 4 → form_with (48 + n) ≡ Run n false
digit_asked = up_to_four (λ n. form_with (48 + n) ≡ Run n false) none_asked one_asked two_asked three_asked four_asked

pub run_asked : (n : ℕ) → n ≤ 4 → form_of (run_words n) ≡ Run n false
unfolding form_with
run_asked n few = ap (λ (digits : List ℕ). form_of (codes "run" ∷ codes "--workers" ∷ digits ∷ [])) (decimal_digit n (omega arith)) ∙ digit_asked n few

-- so words that read like these do
pub execution_asked : (n : ℕ) (words : List (List ℕ)) → n ≤ 4 → words ≡ run_words n → task_of (form_of words) ≡ Execute n false
execution_asked n words few same = ap (λ w. task_of (form_of w)) same ∙ ap task_of (run_asked n few)
