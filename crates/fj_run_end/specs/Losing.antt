-- Which of two stops is answered, and when that is want of memory.
use Rattle.std.specs.Prelude.{Bool, true, false, Option, Some, None, Result, Ok, Err}
use Rattle.fj_outside.specs.declared.errors.Stop.{Stop}
use Rattle.fj_outside.specs.declared.errors.Stop.TheVariants.{Failed, Memory}

-- what is answered of two steps: want of memory comes before a failure
abbrev pub after : {T : Type 0} → Result T Stop → Result T Stop → Result T Stop
after (Ok x) next = next
after (Err Failed) (Ok x) = Err Failed
after (Err Failed) (Err stop) = Err stop
after (Err (Memory error)) next = Err (Memory error)

-- want of memory is answered
abbrev pub is_memory : {T : Type 0} → Result T Stop → Bool
is_memory (Ok x) = false
is_memory (Err Failed) = false
is_memory (Err (Memory error)) = true

-- no fault stopped the slot: it stopped for want of memory, or may still meet it where its record is ended
abbrev pub may_want : Option Stop → Bool
may_want None = true
may_want (Some Failed) = false
may_want (Some (Memory error)) = true
