-- What is answered of a line is what it adds.
use Rattle.std.proofs.Common.{ℕ, ◌≤◌, List, length, Result, Ok, Err, refl}
use Rattle.fj_syntax.specs.Parsing.{Parses}
use Rattle.fj_syntax.specs.declared.fault.SyntaxFault.{SyntaxFault}
use Rattle.fj_syntax.specs.declared.fault.SyntaxFault.TheVariants as syntax
use Rattle.fj_syntax.specs.declared.written.Written.{Written}
use Rattle.fj_names.specs.Meaning.{Means}
use Rattle.fj_names.specs.declared.fault.Fault.{Fault}
use Rattle.fj_names.specs.declared.fault.Fault.TheVariants as meaning
use Rattle.fj_names.specs.declared.scope.Scope.{Scope}
use Rattle.fj_deck.specs.Faults.{of_syntax, of_meaning}
use Rattle.fj_deck.specs.Line.{Answer, Begun, Declaring, LineIs, Refuses, Stating, Takes}
use Rattle.fj_deck.specs.declared.fault.LineFault.{LineFault}
use Rattle.fj_deck.specs.declared.fault.LineFault.TheVariants.{Memory, Refused}

pub state_refused : (begun : Begun) (number : ℕ) (w : Written) (fault : Fault) → Means begun.names w (Err fault) → Refuses (Stating begun number w) (of_meaning fault)
state_refused begun number w (meaning.Memory error) means = tt
state_refused begun number w (meaning.Format at) means = Stating.refused (meaning.Format at) means refl
state_refused begun number w meaning.NoMeaning means = Stating.refused meaning.NoMeaning means refl
state_refused begun number w meaning.TooMany means = Stating.refused meaning.TooMany means refl

pub declaration_refused : (begun : Begun) (Declared : Result (Unit {0}) Fault → Scope → Type 0) (names : Scope) (fault : Fault) → Declared (Err fault) names → Refuses (Declaring begun Declared) (of_meaning fault)
declaration_refused begun Declared names (meaning.Memory error) is = tt
declaration_refused begun Declared names (meaning.Format at) is = Declaring.refused names (meaning.Format at) is refl
declaration_refused begun Declared names meaning.NoMeaning is = Declaring.refused names meaning.NoMeaning is refl
declaration_refused begun Declared names meaning.TooMany is = Declaring.refused names meaning.TooMany is refl

pub line_refused : (line : List ℕ) (number : ℕ) (begun : Begun) (fault : SyntaxFault) → length line ≤ 1000 → Parses line (Err fault) → Refuses (LineIs line number begun) (of_syntax fault)
line_refused line number begun (syntax.Memory error) short none = tt
line_refused line number begun syntax.NotAStatement short none = LineIs.garbled short none

-- what is an answer to one question is an answer to another
pub takes_as : (Is Becomes : Answer → Type 0) (new : Begun) (result : Result (Unit {0}) LineFault) → ((answer : Answer) → Is answer → Becomes answer) → Takes Is new result → Takes Becomes new result
takes_as Is Becomes new (Ok u) so is = so (Ok new) is
takes_as Is Becomes new (Err (Memory error)) so is = tt
takes_as Is Becomes new (Err (Refused reason)) so is = so (Err reason) is
