-- The definitions computed at worked cases.
use Rattle.std.proofs.Common.{◌≡◌, true, false, [], ◌∷◌, Some, None, pos, negsuc, ◌+◌, ◌++◌, ◌∙◌, ap, arith, lit<, refl, codes}
use Rattle.std.specs.Fmt.{decimal}
use Rattle.std.proofs.lemmas.Fmt.{decimal_digit, decimal_step}
use Rattle.fj_value.specs.declared.value.Value.TheVariants as value
use Rattle.fj_value.specs.declared.condition.Rule.TheVariants.{P1}
use Rattle.fj_statement.specs.declared.reason.Reason.TheVariants.{Format, NoEnd}
use Rattle.fj_report.specs.declared.form.Form.TheVariants.{Run, Alone, Check, Gen, Wrong}
use Rattle.fj_report.specs.declared.status.Status.TheVariants.{Ended, ErrorStop, Prohibited, DeckRefused, Memory}
use Rattle.clap.proofs.OnLiterals.{clap_on_literals}
use Rattle.fj_value.specs.Digits.{number_in}
use Rattle.fj_report.specs.Words.{form_of, run_form, alone_form, check_form, gen_form, given, number_up_to}
use Rattle.fj_report.specs.Lines.{usage_text, status_text, check_text, trace_text, summary_text, variable_text}

pub record WordsAreRight : Type 0 where
  pub alone : form_of (codes "alone" ∷ []) ≡ Alone false
  pub traced : form_of (codes "alone" ∷ codes "--trace" ∷ codes "--" ∷ []) ≡ Alone true
  pub check : form_of (codes "check" ∷ []) ≡ Check
  pub four : form_of (codes "run" ∷ []) ≡ Run 4 false
  pub behind : form_of (codes "run" ∷ codes "--workers" ∷ codes "64" ∷ []) ≡ Run 64 false
  pub joined : form_of (codes "run" ∷ codes "--trace" ∷ codes "--workers=0" ∷ []) ≡ Run 0 true
  pub made : form_of (codes "gen" ∷ codes "--count" ∷ codes "0" ∷ codes "--text" ∷ codes "--seed=1" ∷ []) ≡ Gen 1 0 true
  pub beyond : form_of (codes "run" ∷ codes "--workers" ∷ codes "65" ∷ []) ≡ Wrong
  pub no_number : form_of (codes "run" ∷ codes "--workers" ∷ codes "x" ∷ []) ≡ Wrong
  pub eleven_digits : form_of (codes "run" ∷ codes "--workers" ∷ codes "00000000004" ∷ []) ≡ Wrong
  pub repeated : form_of (codes "run" ∷ codes "--trace" ∷ codes "--trace" ∷ []) ≡ Wrong
  pub no_value : form_of (codes "alone" ∷ codes "--trace=1" ∷ []) ≡ Wrong
  pub no_count : form_of (codes "gen" ∷ codes "--seed" ∷ codes "1" ∷ []) ≡ Wrong
  pub nothing : form_of [] ≡ Wrong

pub words_are_right : WordsAreRight
unfolding form_of run_form alone_form check_form gen_form given number_up_to number_in clap_on_literals
words_are_right = record {
  alone = refl;
  traced = refl;
  check = refl;
  four = refl;
  behind = refl;
  joined = refl;
  made = refl;
  beyond = refl;
  no_number = refl;
  eleven_digits = refl;
  repeated = refl;
  no_value = refl;
  no_count = refl;
  nothing = refl;
}

-- numbers of one digit
one_1 : decimal 1 ≡ (48 + 1) ∷ []
one_1 = decimal_digit 1 (lit< tt)

one_2 : decimal 2 ≡ (48 + 2) ∷ []
one_2 = decimal_digit 2 (lit< tt)

one_3 : decimal 3 ≡ (48 + 3) ∷ []
one_3 = decimal_digit 3 (lit< tt)

one_4 : decimal 4 ≡ (48 + 4) ∷ []
one_4 = decimal_digit 4 (lit< tt)

one_5 : decimal 5 ≡ (48 + 5) ∷ []
one_5 = decimal_digit 5 (lit< tt)

one_7 : decimal 7 ≡ (48 + 7) ∷ []
one_7 = decimal_digit 7 (lit< tt)

one_8 : decimal 8 ≡ (48 + 8) ∷ []
one_8 = decimal_digit 8 (lit< tt)

one_9 : decimal 9 ≡ (48 + 9) ∷ []
one_9 = decimal_digit 9 (lit< tt)

one_0 : decimal 0 ≡ (48 + 0) ∷ []
one_0 = decimal_digit 0 (lit< tt)

two_10 : decimal 10 ≡ 49 ∷ 48 ∷ []
two_10 = decimal_step 10 (omega arith) (omega arith) ∙ ap (λ xs. xs ++ 48 ∷ []) one_1

two_14 : decimal 14 ≡ 49 ∷ 52 ∷ []
two_14 = decimal_step 14 (omega arith) (omega arith) ∙ ap (λ xs. xs ++ 52 ∷ []) one_1

three_531 : decimal 531 ≡ 53 ∷ 51 ∷ 49 ∷ []
three_531 = decimal_step 531 (omega arith) (omega arith)
    ∙ ap (λ xs. xs ++ 49 ∷ []) (decimal_step 53 (omega arith) (omega arith) ∙ ap (λ xs. xs ++ 51 ∷ []) one_5)

pub record LinesAreRight : Type 0 where
  pub ended : status_text Ended ≡ codes "= ended\n"
  pub stopped : status_text (ErrorStop 7 (pos 1)) ≡ codes "= error stop at 7 with 1\n"
  pub end_of_file : status_text (ErrorStop 2 (negsuc 0)) ≡ codes "= error stop at 2 with -1\n"
  pub prohibited : status_text (Prohibited 4 P1) ≡ codes "= prohibited at 4 by P1\n"
  pub refused : status_text (DeckRefused 1 NoEnd) ≡ codes "= refused at 1: no end\n"
  pub format : status_text (DeckRefused 4 (Format 9)) ≡ codes "= refused at 4: format at 9\n"
  pub nothing : status_text Memory ≡ []
  pub check : check_text 2 ≡ codes "= deck of 2 statements\n"
  pub told : trace_text 8 (pos 5) 3 (negsuc 0) ≡ codes "~ 8 5 3 -1\n"
  pub told_of_new : trace_text 8 (negsuc 9) 3 (pos 0) ≡ codes "~ 8 -10 3 0\n"
  pub summed : summary_text (record { seed = 1; count = 2; statements = 9; tells = 2; conditions = 0; bytes = 14; sum = 531 })
      ≡ codes "= gen seed 1 count 2: 9 statements, 2 tells, 0 conditions, 14 bytes, sum 531\n"
  pub nothing_summed : summary_text (record { seed = 0; count = 0; statements = 5; tells = 0; conditions = 0; bytes = 0; sum = 0 })
      ≡ codes "= gen seed 0 count 0: 5 statements, 0 tells, 0 conditions, 0 bytes, sum 0\n"
  pub scalar : variable_text (codes "A") 0 (Some (value.Int (pos 5))) ≡ codes "A = 5\n"
  pub element : variable_text (codes "B") 2 (Some (value.Int (pos 7))) ≡ codes "B(2) = 7\n"
  pub truth : variable_text (codes "L") 0 (Some (value.Log true)) ≡ codes "L = T\n"
  pub apostrophe : variable_text (codes "C") 0 (Some (value.Chars (codes "it's"))) ≡ codes "C = 'it''s'\n"
  pub escaped : variable_text (codes "C") 0 (Some (value.Chars (92 ∷ 10 ∷ 126 ∷ 127 ∷ []))) ≡ codes "C = '\\5C\\0A~\\7F'\n"
  pub undefined : variable_text (codes "A") 0 (Some value.Undefined) ≡ codes "A = ?\n"
  pub missing : variable_text (codes "A") 0 None ≡ codes "A = ?\n"

pub lines_are_right : LinesAreRight
unfolding usage_text status_text check_text trace_text summary_text variable_text
lines_are_right = record {
  ended = refl;
  stopped = rw (one_7, one_1) refl;
  end_of_file = rw (one_2, one_1) refl;
  prohibited = rw one_4 refl;
  refused = rw one_1 refl;
  format = rw (one_4, one_9) refl;
  nothing = refl;
  check = rw one_2 refl;
  told = rw (one_8, one_5, one_3, one_1) refl;
  told_of_new = rw (one_8, two_10, one_3, one_0) refl;
  summed = rw (one_0, one_1, one_2, one_9, two_14, three_531) refl;
  nothing_summed = rw (one_0, one_5) refl;
  scalar = rw one_5 refl;
  element = rw (one_2, one_7) refl;
  truth = refl;
  apostrophe = refl;
  escaped = refl;
  undefined = refl;
  missing = refl;
}
