-- A line adds one thing at most.
use Rattle.std.proofs.Common.{◌≡◌, ℕ, true, false, cond, List, Ok, Err, Option, Some, None, refl, sym, ap, ◌∙◌, subst, arith}
use Rattle.fj_statement.specs.declared.reason.Reason.{Reason}
use Rattle.fj_statement.specs.declared.reason.Reason.TheVariants as reasons
use Rattle.fj_syntax.specs.Parsing.{OneReading}
use Rattle.fj_syntax.specs.declared.written.Written.{Written}
use Rattle.fj_syntax.specs.declared.written.Written.TheVariants as written
use Rattle.fj_names.specs.Declaring.{Declares, Groups, with_declaration, with_group, is_within}
use Rattle.fj_names.specs.Meaning.{IsAnswer, OneMeaning}
use Rattle.fj_names.specs.declared.fault.Fault.{Fault}
use Rattle.fj_names.specs.declared.fault.Fault.TheVariants as fault
use Rattle.fj_names.specs.declared.scope.Scope.{Scope}
use Rattle.fj_deck.specs.Faults.{of_meaning}
use Rattle.fj_deck.specs.Line.{Adds, Answer, Begun, Declaring, LineIs, Stating, is_misplaced, with_names, with_statement}
use Rattle.fj_deck.specs.declared.fault.LineFault.TheVariants.{Refused}

-- ---- declarations

-- what a type declaration answers whose names are these, if any
abbrev declared : Begun → Option Scope → Answer
declared begun None = Err reasons.Meaning
declared begun (Some s) = cond (is_within s.variables) (Ok (with_names begun s)) (Err reasons.TooMany)

-- and one of a group
abbrev grouped : Begun → Option Scope → Answer
grouped begun None = Err reasons.Meaning
grouped begun (Some s) = Ok (with_names begun s)

refused_declared : (begun : Begun) (next : Option Scope) (names : Scope) (f : Fault) (reason : Reason) → Declares next (Err f) names → of_meaning f ≡ Refused reason → declared begun next ≡ Err reason
refused_declared begun next names (fault.Memory error) reason is e = cc
refused_declared begun next names (fault.Format at) reason is e = absurd is
refused_declared begun next names fault.NoMeaning reason is e = let same : reasons.Meaning ≡ reason = cc in rw (is, same) refl
refused_declared begun next names fault.TooMany reason is e = let same : reasons.TooMany ≡ reason = cc in rw (is.1, is.2, same) refl

is_declared : (begun : Begun) (next : Option Scope) (answer : Answer) → Declaring begun (Declares next) answer → declared begun next ≡ answer
is_declared begun next answer (Declaring.added names is) = rw (is.0, is.1) refl
is_declared begun next answer (Declaring.refused names f {reason} is e) = refused_declared begun next names f reason is e

refused_grouped : (begun : Begun) (next : Option Scope) (names : Scope) (f : Fault) (reason : Reason) → Groups next (Err f) names → of_meaning f ≡ Refused reason → grouped begun next ≡ Err reason
refused_grouped begun next names (fault.Memory error) reason is e = cc
refused_grouped begun next names (fault.Format at) reason is e = absurd is
refused_grouped begun next names fault.NoMeaning reason is e = let same : reasons.Meaning ≡ reason = cc in rw (is, same) refl
refused_grouped begun next names fault.TooMany reason is e = absurd is

is_grouped : (begun : Begun) (next : Option Scope) (answer : Answer) → Declaring begun (Groups next) answer → grouped begun next ≡ answer
is_grouped begun next answer (Declaring.added names is) = rw is refl
is_grouped begun next answer (Declaring.refused names f {reason} is e) = refused_grouped begun next names f reason is e

-- ---- statements

-- a reason is no want of memory
no_memory : (f : Fault) (reason : Reason) → of_meaning f ≡ Refused reason → IsAnswer (Err f)
no_memory (fault.Memory error) reason e = cc
no_memory (fault.Format at) reason e = tt
no_memory fault.NoMeaning reason e = tt
no_memory fault.TooMany reason e = tt

module _ (reading : OneReading) (meaning : OneMeaning) where
  stating_once : (begun : Begun) (number : ℕ) (w : Written) (a b : Answer) → Stating begun number w a → Stating begun number w b → a ≡ b
  stating_once begun number w a b (Stating.added s m few) (Stating.added t n little) =
      let same : Ok s ≡ Ok t = meaning begun.names w (Ok s) (Ok t) tt tt m n in let e : s ≡ t = cc in ap (λ x. Ok (with_statement begun number x)) e
  stating_once begun number w a b (Stating.added s m few) (Stating.full t n many) = absurd (omega arith)
  stating_once begun number w a b (Stating.added s m few) (Stating.refused f {reason} n e) =
      let same : Ok s ≡ Err f = meaning begun.names w (Ok s) (Err f) tt (no_memory f reason e) m n in cc
  stating_once begun number w a b (Stating.full s m many) (Stating.added t n few) = absurd (omega arith)
  stating_once begun number w a b (Stating.full s m many) (Stating.full t n much) = refl
  stating_once begun number w a b (Stating.full s m many) (Stating.refused f {reason} n e) =
      let same : Ok s ≡ Err f = meaning begun.names w (Ok s) (Err f) tt (no_memory f reason e) m n in cc
  stating_once begun number w a b (Stating.refused f {reason} m e) (Stating.added t n few) =
      let same : Err f ≡ Ok t = meaning begun.names w (Err f) (Ok t) (no_memory f reason e) tt m n in cc
  stating_once begun number w a b (Stating.refused f {reason} m e) (Stating.full t n many) =
      let same : Err f ≡ Ok t = meaning begun.names w (Err f) (Ok t) (no_memory f reason e) tt m n in cc
  stating_once begun number w a b (Stating.refused f {reason} m e) (Stating.refused g {reason = other} n d) =
      let same : Err f ≡ Err g = meaning begun.names w (Err f) (Err g) (no_memory f reason e) (no_memory g other d) m n in
      let alike : f ≡ g = cc in
      let reasons : Refused reason ≡ Refused other = sym e ∙ ap of_meaning alike ∙ d in cc

  adds_once : (begun : Begun) (number : ℕ) (w : Written) (a b : Answer) → Adds begun number w a → Adds begun number w b → a ≡ b
  adds_once begun number (written.Declaration d) a b m n =
      sym (is_declared begun (with_declaration begun.names number d) a m) ∙ is_declared begun (with_declaration begun.names number d) b n
  adds_once begun number (written.Group g) a b m n =
      sym (is_grouped begun (with_group begun.names number g) a m) ∙ is_grouped begun (with_group begun.names number g) b n
  adds_once begun number w a b m n = stating_once begun number w a b m n

  -- ---- lines

  pub line_once : (line : List ℕ) (number : ℕ) (begun : Begun) (a b : Answer) → LineIs line number begun a → LineIs line number begun b → a ≡ b
  line_once line number begun a b (LineIs.long l) (LineIs.long k) = refl
  line_once line number begun a b (LineIs.long l) (LineIs.blank s is) = absurd (omega arith)
  line_once line number begun a b (LineIs.long l) (LineIs.garbled s is) = absurd (omega arith)
  line_once line number begun a b (LineIs.long l) (LineIs.misplaced w s is t) = absurd (omega arith)
  line_once line number begun a b (LineIs.long l) (LineIs.placed w s is t adds) = absurd (omega arith)
  line_once line number begun a b (LineIs.blank s is) (LineIs.long l) = absurd (omega arith)
  line_once line number begun a b (LineIs.blank s is) (LineIs.blank r was) = refl
  line_once line number begun a b (LineIs.blank s is) (LineIs.garbled r was) = absurd (was.some is)
  line_once line number begun a b (LineIs.blank s is) (LineIs.misplaced w r was t) = absurd (reading.blank line w is was)
  line_once line number begun a b (LineIs.blank s is) (LineIs.placed w r was t adds) = absurd (reading.blank line w is was)
  line_once line number begun a b (LineIs.garbled s is) (LineIs.long l) = absurd (omega arith)
  line_once line number begun a b (LineIs.garbled s is) (LineIs.blank r was) = absurd (is.some was)
  line_once line number begun a b (LineIs.garbled s is) (LineIs.garbled r was) = refl
  line_once line number begun a b (LineIs.garbled s is) (LineIs.misplaced w r was t) = absurd (is.none w was)
  line_once line number begun a b (LineIs.garbled s is) (LineIs.placed w r was t adds) = absurd (is.none w was)
  line_once line number begun a b (LineIs.misplaced w s is t) (LineIs.long l) = absurd (omega arith)
  line_once line number begun a b (LineIs.misplaced w s is t) (LineIs.blank r was) = absurd (reading.blank line w was is)
  line_once line number begun a b (LineIs.misplaced w s is t) (LineIs.garbled r was) = absurd (was.none w is)
  line_once line number begun a b (LineIs.misplaced w s is t) (LineIs.misplaced v r was f) = refl
  line_once line number begun a b (LineIs.misplaced w s is t) (LineIs.placed v r was f adds) =
      let e : w ≡ v = reading.statement line w v is was in let clash : true ≡ false = sym t ∙ ap (is_misplaced begun) e ∙ f in cc
  line_once line number begun a b (LineIs.placed w s is f adds) (LineIs.long l) = absurd (omega arith)
  line_once line number begun a b (LineIs.placed w s is f adds) (LineIs.blank r was) = absurd (reading.blank line w was is)
  line_once line number begun a b (LineIs.placed w s is f adds) (LineIs.garbled r was) = absurd (was.none w is)
  line_once line number begun a b (LineIs.placed w s is f adds) (LineIs.misplaced v r was t) =
      let e : w ≡ v = reading.statement line w v is was in let clash : false ≡ true = sym f ∙ ap (is_misplaced begun) e ∙ t in cc
  line_once line number begun a b (LineIs.placed w s is f adds) (LineIs.placed v r was g also) =
      let e : w ≡ v = reading.statement line w v is was in adds_once begun number v a b (subst (λ x. Adds begun number x a) e adds) also
