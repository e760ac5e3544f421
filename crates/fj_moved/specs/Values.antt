-- What a value is to the variable it stands in: undefined, or not; and whether a copy of it takes memory.
use Rattle.std.specs.Prelude.{Bool, true, false}
use Rattle.fj_value.specs.declared.value.Value.{Value}
use Rattle.fj_value.specs.declared.value.Value.TheVariants.{Undefined, Chars}

abbrev pub is_undefined : Value → Bool
is_undefined Undefined = true
is_undefined _ = false

abbrev pub takes_no_memory : Value → Bool
takes_no_memory (Chars text) = false
takes_no_memory _ = true
