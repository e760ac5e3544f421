-- The words that are declared are names.
use Rattle.std.proofs.Common.{◌≡◌, ℕ, ◌≤◌, true, List, [], ◌∷◌, length, map, sym, subst, arith}
use Rattle.std.specs.Char.{is_ascii_alphabetic, to_ascii_uppercase, is_ascii_uppercase}
use Rattle.std.specs.List.{AllPass, All}
use Rattle.std.proofs.lemmas.Bool.Decides.{nat_tests}
use Rattle.std.proofs.lemmas.List.{length-map}
use Rattle.std.proofs.lemmas.List.Elements.{All-map, All-weaker}
use Rattle.fj_statement.specs.Sound.{IsName, begins_with_letter, is_in_name}
use Rattle.fj_syntax.specs.Class.{is_of}
use Rattle.fj_syntax.specs.declared.class.Class.TheVariants.{InWord}
use Rattle.fj_syntax.specs.declared.written.Written.{Written}
use Rattle.fj_syntax.specs.Parsing.{IsStatement, IsWord, names_given}
use Rattle.fj_syntax.specs.Tokens.{begins}
use Rattle.fj_syntax.proofs.NameLemmas.{names_words}

upper_letter : (c : ℕ) → is_ascii_alphabetic c ≡ true → is_ascii_uppercase (to_ascii_uppercase c) ≡ true
upper_letter c h = grind (arith, nat_tests)

upper_in_name : (c : ℕ) → is_of InWord c ≡ true → is_in_name (to_ascii_uppercase c) ≡ true
upper_in_name c h = grind (arith, nat_tests)

letter_first : (bytes : List ℕ) → begins is_ascii_alphabetic bytes ≡ true → begins_with_letter (map to_ascii_uppercase bytes) ≡ true
letter_first [] h = h
letter_first (c ∷ bytes) h = upper_letter c h

upper_is_name : (bytes : List ℕ) → begins is_ascii_alphabetic bytes ≡ true → AllPass (is_of InWord) bytes → length bytes ≤ 63 → IsName (map to_ascii_uppercase bytes)
upper_is_name bytes letter all short = record {
  letter = letter_first bytes letter;
  all = All-map (λ c. is_in_name c ≡ true) to_ascii_uppercase bytes (All-weaker (λ c. is_of InWord c ≡ true) (λ c. is_in_name (to_ascii_uppercase c) ≡ true) upper_in_name bytes all);
  short = omega (arith, length-map bytes to_ascii_uppercase);
}

word_is_name : (word : List ℕ) → IsWord word → IsName word
word_is_name word is = subst IsName (sym is.2.upper) (upper_is_name is.0 is.2.letter is.2.run.all is.2.run.short)

pub names_are : (line : List ℕ) (w : Written) → IsStatement line w → All IsName (names_given w)
names_are line w is = All-weaker IsWord IsName word_is_name (names_given w) (names_words.are_words line w is)
