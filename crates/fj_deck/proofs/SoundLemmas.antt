-- A deck is sound: what is kept from line to line.
use Rattle.std.proofs.Common.{◌≡◌, ℕ, ◌+◌, ◌<◌, ◌≤◌, Bool, true, false, List, [], ◌∷◌, ◌++◌, length, map, Result, Ok, Err, Some, ◌-◌, refl, sym, ap, ◌∙◌, subst, arith, length-append}
use Rattle.std.specs.Prelude.{All, nat_lt, slice_get}
use Rattle.std.specs.Str.Lines.{lines}
use Rattle.std.proofs.lemmas.Bool.{ltb-false, or_parts}
use Rattle.std.proofs.Math.Seq.{get_or-append_seam}
use Rattle.std.proofs.lemmas.Option.{slice_get-get_or}
use Rattle.std.proofs.lemmas.List.Elements.{All-append, All-nil, All-head, All-map, All-tail, All-same, All-push, All-weaker}
use Rattle.fj_statement.specs.Sound.{AreRising, HasNames, IsName, IsNotEnd, IsSound, IsSoundStatement, NamesGroup}
use Rattle.fj_statement.specs.declared.deck.Lined.{Lined}
use Rattle.fj_statement.specs.declared.statement.Statement.{Statement}
use Rattle.fj_statement.specs.declared.statement.Statement.TheVariants as statement
use Rattle.fj_syntax.specs.declared.written.Written.{Written}
use Rattle.fj_syntax.specs.declared.written.Written.TheVariants as written
use Rattle.fj_syntax.specs.Parsing.{names_given}
use Rattle.fj_names.specs.Declaring.{Declares, Groups, with_declaration, with_group}
use Rattle.fj_names.specs.Sound.{AreNamed, IsSoundScope, groups_of}
use Rattle.fj_names.specs.declared.fault.Fault.{Fault}
use Rattle.fj_names.specs.declared.scope.Scope.{Scope}
use Rattle.fj_names.proofs.NamesSound.{groups_declared, names_apart}
use Rattle.fj_names.proofs.ScopeSound.{empty_sound, declared_sound, grouped_sound}
use Rattle.fj_names.proofs.StatementSound.{meaning_sound}
use Rattle.fj_deck.specs.Deck.{AreGood, DecksAreSound}
use Rattle.fj_deck.specs.Line.{Adds, Answer, Begun, Declaring, LineIs, Stating, empty, has_ended, is_end, is_misplaced, with_names}
use Rattle.fj_deck.proofs.MemberLemmas.{HasFew, members_few}
use Rattle.fj_deck.proofs.NameLemmas.{names_are}

-- END is the last statement and no other is
record EndIsLast (ls : List Lined) : Type 0 where
  body : List Lined
  end_line : ℕ
  ends : ls ≡ body ++ record { line = end_line; what = statement.End } ∷ []
  only : All (λ l. IsNotEnd l.what) body

-- where END was read, and where it was not
abbrev HasEnd : Bool → List Lined → Type 0
HasEnd true ls = EndIsLast ls
HasEnd false ls = All (λ l. IsNotEnd l.what) ls

-- what holds of the deck so far before the line of this number
record IsSoundBegun (number : ℕ) (begun : Begun) : Type 0 where
  names : IsSoundScope begun.names
  statements : All (λ l. IsSoundStatement begun.names.variables l.what) begun.statements
  grouped : All (λ l. NamesGroup (groups_of begun.names) l.what) begun.statements
  few : length begun.statements ≤ 100000
  rising : AreRising 0 begun.statements
  before : All (λ l. l.line < number) begun.statements
  ends : HasEnd (has_ended begun.statements) begun.statements

-- of what a line makes of it
abbrev IsSoundAnswer : ℕ → Answer → Type 0
IsSoundAnswer number (Ok begun) = IsSoundBegun number begun
IsSoundAnswer number (Err reason) = Unit {0}

-- ---- lists of statements

rising_more : (above : ℕ) (ls : List Lined) (l : Lined) → AreRising above ls → above < l.line → All (λ k. k.line < l.line) ls → AreRising above (ls ++ l ∷ [])
rising_more above [] l rising less all = (less, tt)
rising_more above (k ∷ ls) l rising less all = (rising.0, rising_more k.line ls l rising.1 (All-head (λ k. k.line < l.line) k ls all) (All-tail (λ k. k.line < l.line) k ls all))

before_next : (number : ℕ) (ls : List Lined) → All (λ l. l.line < number) ls → All (λ l. l.line < number + 1) ls
before_next number ls before = All-weaker (λ l. l.line < number) (λ l. l.line < number + 1) (λ l less. omega arith) ls before

last_is : (ls : List Lined) (l : Lined) → has_ended (ls ++ l ∷ []) ≡ is_end l.what
last_is ls l =
    let at : length (ls ++ l ∷ []) - 1 ≡ length ls = omega (arith, length-append ls (l ∷ [])) in
    let there : slice_get (ls ++ l ∷ []) (length ls) ≡ Some l = slice_get-get_or (ls ++ l ∷ []) (length ls) l (omega (arith, length-append ls (l ∷ []))) ∙ ap (λ x. Some x) (get_or-append_seam ls l [] l) in
    rw (at, there) refl

end_more : (ls : List Lined) (number : ℕ) (s : Statement) → All (λ l. IsNotEnd l.what) ls → HasEnd (has_ended (ls ++ record { line = number; what = s } ∷ [])) (ls ++ record { line = number; what = s } ∷ [])
end_more ls number s only = rw (last_is ls (record { line = number; what = s })) (by s) where
  by : (s : Statement) → HasEnd (is_end s) (ls ++ record { line = number; what = s } ∷ [])
  by statement.End = record { body = ls; end_line = number; ends = refl; only = only }
  by s = All-push (λ l. IsNotEnd l.what) ls (record { line = number; what = s }) only tt

none_there : (ls : List Lined) → nat_lt 0 (length ls) ≡ false → ls ≡ []
none_there [] h = refl
none_there (l ∷ ls) h = absurd (omega (arith, ltb-false 0 (length (l ∷ ls)) h))

-- ---- where a statement stands

not_ended : (begun : Begun) (w : Written) → is_misplaced begun w ≡ false → has_ended begun.statements ≡ false
not_ended begun w h = (or_parts (has_ended begun.statements) _ h).0

-- ---- line after line

later : (number : ℕ) (begun : Begun) → IsSoundBegun number begun → IsSoundBegun (number + 1) begun
later number begun sound = record {
  names = sound.names;
  statements = sound.statements;
  grouped = sound.grouped;
  few = sound.few;
  rising = sound.rising;
  before = before_next number begun.statements sound.before;
  ends = sound.ends;
}

-- names are declared before the first statement
with_names_sound : (number : ℕ) (begun : Begun) (names : Scope) → begun.statements ≡ [] → IsSoundScope names → IsSoundBegun number (with_names begun names)
with_names_sound number begun names none sound = record {
  names = sound;
  statements = All-same (λ l. IsSoundStatement names.variables l.what) begun.statements [] none (All-nil (λ l. IsSoundStatement names.variables l.what));
  grouped = All-same (λ l. NamesGroup (groups_of names) l.what) begun.statements [] none (All-nil (λ l. NamesGroup (groups_of names) l.what));
  few = subst (λ ls. length ls ≤ 100000) (sym none) (omega arith);
  rising = subst (AreRising 0) (sym none) tt;
  before = All-same (λ l. l.line < number) begun.statements [] none (All-nil (λ l. l.line < number));
  ends = subst (λ ls. HasEnd (has_ended ls) ls) (sym none) (All-nil (λ l. IsNotEnd l.what));
}

declaration_sound : (number : ℕ) (begun : Begun) (Declared : Result (Unit {0}) Fault → Scope → Type 0) (answer : Answer) → begun.statements ≡ []
    → ((names : Scope) → Declared (Ok tt) names → IsSoundScope names) → Declaring begun Declared answer → IsSoundAnswer number answer
declaration_sound number begun Declared answer none so (Declaring.added names is) = with_names_sound number begun names none (so names is)
declaration_sound number begun Declared answer none so (Declaring.refused names fault is e) = tt

stated_sound : (number : ℕ) (begun : Begun) (w : Written) (answer : Answer) → 1 ≤ number → has_ended begun.statements ≡ false → IsSoundBegun number begun → Stating begun number w answer → IsSoundAnswer (number + 1) answer
stated_sound number begun w answer some open_end sound (Stating.added s means few) =
    let made : Lined = record { line = number; what = s } in
    record {
      names = sound.names;
      statements = All-push (λ l. IsSoundStatement begun.names.variables l.what) begun.statements made sound.statements (meaning_sound begun.names w s sound.names means);
      grouped = All-push (λ l. NamesGroup (groups_of begun.names) l.what) begun.statements made sound.grouped (groups_declared begun.names w s means);
      few = omega (arith, length-append begun.statements (made ∷ []));
      rising = rising_more 0 begun.statements made sound.rising (omega arith) sound.before;
      before = All-push (λ l. l.line < number + 1) begun.statements made (before_next number begun.statements sound.before) (omega arith);
      ends = end_more begun.statements number s (subst (λ b. HasEnd b begun.statements) open_end sound.ends);
    }
stated_sound number begun w answer some open_end sound (Stating.full s means many) = tt
stated_sound number begun w answer some open_end sound (Stating.refused fault means e) = tt

adds_sound : (number : ℕ) (begun : Begun) (w : Written) (answer : Answer) → 1 ≤ number → All IsName (names_given w) → HasFew 1000 w → is_misplaced begun w ≡ false → IsSoundBegun number begun → Adds begun number w answer → IsSoundAnswer (number + 1) answer
adds_sound number begun (written.Declaration d) answer some given few placed sound adds =
    let free = or_parts (has_ended begun.statements) (nat_lt 0 (length begun.statements)) placed in
    declaration_sound (number + 1) begun (Declares (with_declaration begun.names number d)) answer (none_there begun.statements free.1)
    (λ names is. declared_sound begun.names names number d sound.names given is.0 is.1) adds
adds_sound number begun (written.Group g) answer some given few placed sound adds =
    let free = or_parts (has_ended begun.statements) (nat_lt 0 (length begun.statements)) placed in
    declaration_sound (number + 1) begun (Groups (with_group begun.names number g)) answer (none_there begun.statements free.1)
    (λ names is. grouped_sound begun.names names number g sound.names (All-head IsName g.name [] given) few is) adds
adds_sound number begun w answer some given few placed sound adds = stated_sound number begun w answer some (not_ended begun w placed) sound adds

line_sound : (line : List ℕ) (number : ℕ) (begun : Begun) (answer : Answer) → 1 ≤ number → IsSoundBegun number begun → LineIs line number begun answer → IsSoundAnswer (number + 1) answer
line_sound line number begun answer some sound (LineIs.long l) = tt
line_sound line number begun answer some sound (LineIs.blank short is) = later number begun sound
line_sound line number begun answer some sound (LineIs.garbled short is) = tt
line_sound line number begun answer some sound (LineIs.misplaced w short is placed) = tt
line_sound line number begun answer some sound (LineIs.placed w short is placed adds) = adds_sound number begun w answer some (names_are line w is) (members_few line w 1000 short is) placed sound adds

lines_sound : (number : ℕ) (begun last : Begun) (text : List (List ℕ)) → 1 ≤ number → IsSoundBegun number begun → AreGood number begun text last → (behind : ℕ) × IsSoundBegun behind last
lines_sound number begun last [] some sound good = (number, subst (IsSoundBegun number) (sym good) sound)
lines_sound number begun last (line ∷ more) some sound good =
    lines_sound (number + 1) good.0 last more (omega arith) (line_sound line number begun (Ok good.0) some sound good.1) good.2

start_sound : IsSoundBegun 1 empty
start_sound = record {
  names = empty_sound;
  statements = All-nil (λ l. IsSoundStatement [] l.what);
  grouped = All-nil (λ l. NamesGroup [] l.what);
  few = omega arith;
  rising = tt;
  before = All-nil (λ l. l.line < 1);
  ends = All-nil (λ l. IsNotEnd l.what);
}

has_names : (s : Scope) (ls : List Lined) → AreNamed s → All (λ l. NamesGroup (groups_of s) l.what) ls → HasNames s.variables ls
has_names s ls are stand = record {
  groups = groups_of s;
  are = All-append IsName (map (λ v. v.name) s.variables) (map (λ g. g.0) (groups_of s)) (All-map IsName (λ v. v.name) s.variables are.variable_names)
      (All-map IsName (λ g. g.0) (groups_of s) (All-map (λ g. IsName g.0) (λ g. (g.name, g.vars)) s.groups are.group_names));
  apart = names_apart s are;
  stand = stand;
}

pub sound_deck : DecksAreSound
sound_deck text deck is =
    let sound = (lines_sound 1 empty is.last (lines text) (omega arith) start_sound is.good).1 in
    let end : EndIsLast is.last.statements = subst (λ b. HasEnd b is.last.statements) is.ended sound.ends in
    subst IsSound (sym is.is) (record {
      variables = sound.names.within;
      names = has_names is.last.names is.last.statements sound.names.names sound.grouped;
      statements = sound.statements;
      few = sound.few;
      rising = sound.rising;
      body = end.body;
      end_line = end.end_line;
      ends = end.ends;
      only = end.only;
    })
