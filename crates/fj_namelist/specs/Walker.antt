-- Steps of namelist input, and where they lead.
use Rattle.std.specs.Prelude.{ℕ, ◌+◌, ◌≤◌, List, Option, Some, None}
use Rattle.fj_value.specs.declared.value.Cell.{Cell}
use Rattle.fj_value.specs.declared.condition.Condition.{Condition}
use Rattle.fj_namelist.specs.declared.place.Begun.{Begun}
use Rattle.fj_namelist.specs.declared.place.GroupPlace.{GroupPlace}
use Rattle.fj_namelist.specs.declared.place.GroupPlace.TheVariants as place
use Rattle.fj_namelist.specs.declared.place.Filled.{Filled}
use Rattle.fj_namelist.specs.declared.place.Filled.TheVariants as filled
use Rattle.fj_namelist.specs.declared.place.Taken.{Taken}
use Rattle.fj_namelist.specs.declared.place.Taken.TheVariants as taken
use Rattle.fj_namelist.specs.GroupInput.{Result, ended}

-- on with these cells, or the end in a condition
abbrev pub goes : Option Condition → List Cell → (List Cell → Result) → Result
goes None cells next = next cells
goes (Some condition) cells next = ended cells condition

abbrev pub fills : Filled → List Cell → (ℕ → List Cell → Result) → Result
fills (filled.To i) cells next = next i cells
fills (filled.Stopped condition) cells next = ended cells condition

abbrev pub takes : Taken → List Cell → (GroupPlace → List Cell → Result) → Result
takes (taken.On place) cells next = next place cells
takes (taken.Stopped condition) cells next = ended cells condition

-- the elements have cells among so many
abbrev pub IsPlace : ℕ → GroupPlace → Type 0
IsPlace cells place.Due = Unit {0}
IsPlace cells (place.At e i begins) = e.first + e.count ≤ cells

abbrev pub IsTaken : ℕ → Taken → Type 0
IsTaken cells (taken.On place) = IsPlace cells place
IsTaken cells (taken.Stopped condition) = Unit {0}

abbrev pub MayPlace : ℕ → Option GroupPlace → Type 0
MayPlace cells None = Unit {0}
MayPlace cells (Some place) = IsPlace cells place

abbrev pub MayBegin : ℕ → Option Begun → Type 0
MayBegin cells None = Unit {0}
MayBegin cells (Some b) = MayPlace cells b.place
