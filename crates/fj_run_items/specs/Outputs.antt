-- What the program keeps of the output on unit `*`.
use Rattle.std.specs.Prelude.{◌++◌, length}
use Rattle.std.specs.List.{flat_map}
use Rattle.fj_meaning.specs.State.{Output as PlainOutput}
use Rattle.fj_run_items.specs.declared.star.Output.TheInside.{Inside}

-- the records that were handed on, and the characters of the open one
abbrev pub output_of : Inside → PlainOutput
output_of o = record { text = flat_map (λ piece. piece.value) o.handed.items ++ o.«open»; begun = length o.«open»; is_open = o.is_open }
