-- What the faults of the layers below are in a text.
use Rattle.std.specs.Prelude.{ℕ}
use Rattle.fj_statement.specs.declared.reason.Reason.TheVariants as reason
use Rattle.fj_syntax.specs.declared.fault.SyntaxFault.{SyntaxFault}
use Rattle.fj_syntax.specs.declared.fault.SyntaxFault.TheVariants as syntax
use Rattle.fj_names.specs.declared.fault.Fault.{Fault}
use Rattle.fj_names.specs.declared.fault.Fault.TheVariants as meaning
use Rattle.fj_deck.specs.declared.fault.DeckFault.{DeckFault}
use Rattle.fj_deck.specs.declared.fault.DeckFault.TheVariants as deck
use Rattle.fj_deck.specs.declared.fault.LineFault.{LineFault}
use Rattle.fj_deck.specs.declared.fault.LineFault.TheVariants.{Memory, Refused}

abbrev pub of_syntax : SyntaxFault → LineFault
of_syntax (syntax.Memory error) = Memory error
of_syntax syntax.NotAStatement = Refused reason.Syntax

abbrev pub of_meaning : Fault → LineFault
of_meaning (meaning.Memory error) = Memory error
of_meaning (meaning.Format at) = Refused (reason.Format at)
of_meaning meaning.NoMeaning = Refused reason.Meaning
of_meaning meaning.TooMany = Refused reason.TooMany

-- the fault of a line, with its number
abbrev pub at_line : ℕ → LineFault → DeckFault
at_line line (Memory error) = deck.Memory error
at_line line (Refused reason) = deck.Refused line reason
