-- Values as a statement gives them to its variables.
use Rattle.std.specs.Prelude.{ℕ, ℤ, List}
use Rattle.std.specs.Option.{option_map_or, option_and_then}
use Rattle.fj_value.specs.Kind.{integer_bits, text_length}
use Rattle.fj_value.specs.Reading.{in_range, assigned_text}
use Rattle.fj_value.specs.declared.kind.Kind.{Kind}
use Rattle.fj_value.specs.declared.value.Value.{Value}
use Rattle.fj_value.specs.declared.value.Value.TheVariants.{Undefined, Int, Chars}

-- a number for an integer variable; one that its kind does not have makes it undefined
abbrev pub number_for : Kind → ℤ → Value
number_for kind n = option_map_or Int (option_and_then (λ bits. in_range bits n) (integer_bits kind)) Undefined

-- a word for a character variable, as an assignment gives it: cut, or filled up with blanks
abbrev pub word_for : Kind → List ℕ → Value
word_for kind cs = option_map_or (λ n. Chars (assigned_text n cs)) (text_length kind) Undefined
