-- Each text is a deck or is refused: what each layer answers, found by its definitions.
use Rattle.std.proofs.Common.{◌≡◌, ◌≢◌, ℕ, zero, suc, ◌+◌, ◌≤◌, true, false, List, [], ◌∷◌, ◌++◌, length, take, get_or, Ok, Err, Option, Some, None, ◌⊎◌, inl, inr, refl, sym, ap, subst, arith}
use Rattle.std.specs.Prelude.{IsSome, nat_lt}
use Rattle.std.specs.Str.Lines.{lines}
use Rattle.std.proofs.Math.Dec.{eqb-suc-zero}
use Rattle.std.proofs.lemmas.Bool.{ltb-true, ltb-false}
use Rattle.fj_format.specs.Grammar.{IsFormat}
use Rattle.fj_format.specs.Parsing.{IsNoFormat}
use Rattle.fj_format.specs.Reading.{Answers}
use Rattle.fj_format.specs.Scanning.{first, scan}
use Rattle.fj_format.specs.declared.item.FormatItem.{FormatItem}
use Rattle.fj_format.specs.declared.place.FormatPlace.{FormatPlace}
use Rattle.fj_format.specs.declared.place.FormatPlace.TheVariants.{Done}
use Rattle.fj_format.specs.declared.scanner.Scanner.{Scanner}
use Rattle.fj_format.proofs.Parsed.{done_items, refused, short, taken}
use Rattle.fj_format.proofs.Scanned.{Stands, stands_first}
use Rattle.fj_statement.specs.declared.deck.Deck.{Deck}
use Rattle.fj_statement.specs.declared.reason.Reason.{Reason}
use Rattle.fj_statement.specs.declared.reason.Reason.TheVariants as reasons
use Rattle.fj_statement.specs.declared.statement.Statement.{Statement}
use Rattle.fj_syntax.specs.declared.token.Token.{Token}
use Rattle.fj_syntax.specs.declared.written.Written.{Written}
use Rattle.fj_syntax.specs.declared.written.Written.TheVariants as written
use Rattle.fj_syntax.specs.Parsing.{IsBlankLine, IsNoStatement, IsStatement}
use Rattle.fj_syntax.specs.Statement.{written_of}
use Rattle.fj_syntax.specs.Tokens.{HasTokens}
use Rattle.fj_syntax.proofs.ParseLemmas.{statement_none, token_answer}
use Rattle.std.proofs.lemmas.Bool.{cases_Bool}
use Rattle.fj_names.specs.Declaring.{Declares, Groups, is_within, with_declaration, with_group}
use Rattle.fj_names.specs.Meaning.{HasMeaning, IsFormatOf, Means, format_text, is_within_limits, meaning}
use Rattle.fj_names.specs.declared.fault.Fault.{Fault}
use Rattle.fj_names.specs.declared.fault.Fault.TheVariants as fault
use Rattle.fj_names.specs.declared.scope.Scope.{Scope}
use Rattle.fj_deck.specs.Deck.{AreGood, IsDeck, IsRefused, SomeAnswer, deck_of}
use Rattle.fj_deck.specs.Faults.{of_meaning}
use Rattle.fj_deck.specs.Line.{Adds, Answer, Begun, Declaring, LineIs, Stating, empty, is_misplaced, with_names, with_statement, has_ended}
use Rattle.fj_deck.specs.declared.fault.LineFault.TheVariants.{Refused}

-- an option is none, or something
none_or : {A : Type 0} (o : Option A) → (o ≡ None) ⊎ ((x : A) × (o ≡ Some x))
none_or None = inl refl
none_or (Some x) = inr (x, refl)

-- ---- formats

abbrev FormatAnswer : List ℕ → Type 0
FormatAnswer text = ((items : List FormatItem) × IsFormat text items) ⊎ ((at : ℕ) × IsNoFormat text at)

is_done : (p : FormatPlace) → (p ≡ Done) ⊎ (p ≢ Done)
is_done Done = inl refl
is_done p = inr (λ e. cc)

format_from : (left : ℕ) (text : List ℕ) (i : ℕ) (s : Scanner) → i + left ≡ length text → Stands (take i text) s → FormatAnswer text
format_from zero text i s all st = elim (is_done s.reader.place) [
  | inl e ↦ inl (s.reader.items, (done_items text i s s.reader.items e st refl).is)
  | inr q ↦ inr (length text, short text i s (omega arith) q st)
]
format_from (suc left) text i s all st = elim (is_done s.reader.place) [
  | inl e ↦ inl (s.reader.items, (done_items text i s s.reader.items e st refl).is)
  | inr q ↦ elim (none_or (scan s (get_or text i 0))) [
    | inl e ↦ inr (i, refused text i s s false (omega arith) q st (subst (λ o. Answers o false s) (sym e) refl) refl)
    | inr n ↦ format_from left text (i + 1) n.0 (omega arith) (taken text i s n.0 true (omega arith) q st (subst (λ o. Answers o true n.0) (sym n.1) (refl, refl)) refl)
  ]
]

format_answer : (text : List ℕ) → FormatAnswer text
format_answer text = format_from (length text) text 0 first (omega arith) stands_first

-- ---- statements as they are written

abbrev ParseAnswer : List ℕ → Type 0
ParseAnswer line = IsBlankLine line ⊎ (((w : Written) × IsStatement line w) ⊎ IsNoStatement line)

parse_tokens : (line : List ℕ) (tokens : List Token) → HasTokens line tokens → ParseAnswer line
parse_tokens line [] has = inl has.is
parse_tokens line (t ∷ tokens) has = elim (none_or (written_of (t ∷ tokens))) [
  | inl n ↦ inr (inr (statement_none line (t ∷ tokens) has (eqb-suc-zero (length tokens)) n))
  | inr n ↦ inr (inl (n.0, (t ∷ tokens, has.is, n.1)))
]

parse_answer : (line : List ℕ) → ParseAnswer line
parse_answer line = elim (token_answer line) [
  | inl some ↦ parse_tokens line some.0 some.1
  | inr none ↦ inr (inr (record { some = none []; none = λ s is. none is.0 is.1 }))
]

-- ---- what statements mean

-- a fault that is a reason
record Reasoned (s : Scope) (w : Written) : Type 0 where
  fault : Fault
  reason : Reason
  is : of_meaning fault ≡ Refused reason
  means : Means s w (Err fault)

abbrev MeaningAnswer : Scope → Written → Type 0
MeaningAnswer s w = ((m : Statement) × HasMeaning s w m) ⊎ Reasoned s w

with_format : (s : Scope) (w : Written) (items : Option (List FormatItem)) → IsFormatOf (format_text w) items → MeaningAnswer s w
with_format s w items format = elim (none_or (meaning s items w)) [
  | inl n ↦ inr (record { fault = fault.NoMeaning; reason = reasons.Meaning; is = refl; means = record { items = items; format = format; none = n } })
  | inr m ↦ elim (cases_Bool (is_within_limits s items w)) [
    | inl e ↦ inl (m.0, record { items = items; format = format; is = m.1; within = e })
    | inr e ↦ inr (record {
      fault = fault.TooMany;
      reason = reasons.TooMany;
      is = refl;
      means = record { items = items; format = format; some = subst IsSome (sym m.1) refl; beyond = e };
    })
  ]
]

by_text : (s : Scope) (w : Written) (text : Option (List ℕ)) → format_text w ≡ text → MeaningAnswer s w
by_text s w None e = with_format s w None (subst (λ t. IsFormatOf t None) (sym e) tt)
by_text s w (Some text) e = elim (format_answer text) [
  | inl f ↦ with_format s w (Some f.0) (subst (λ t. IsFormatOf t (Some f.0)) (sym e) f.1)
  | inr n ↦ inr (record { fault = fault.Format n.0; reason = reasons.Format n.0; is = refl; means = record { text = text; stands = e; none = n.1 } })
]

meaning_answer : (s : Scope) (w : Written) → MeaningAnswer s w
meaning_answer s w = by_text s w (format_text w) refl

-- ---- what a line adds

stating : (begun : Begun) (number : ℕ) (w : Written) → (answer : Answer) × Stating begun number w answer
stating begun number w = elim (meaning_answer begun.names w) [
  | inl m ↦ elim (cases_Bool (nat_lt (length begun.statements) 100000)) [
    | inl few ↦ (Ok (with_statement begun number m.0), Stating.added m.0 m.1 (ltb-true (length begun.statements) 100000 few))
    | inr many ↦ (Err reasons.TooMany, Stating.full m.0 m.1 (ltb-false (length begun.statements) 100000 many))
  ]
  | inr r ↦ (Err r.reason, Stating.refused r.fault r.means r.is)
]

declaring : (begun : Begun) (next : Option Scope) → (answer : Answer) × Declaring begun (Declares next) answer
declaring begun next = elim (none_or next) [
  | inl n ↦ (Err reasons.Meaning, Declaring.refused begun.names fault.NoMeaning n refl)
  | inr s ↦ elim (cases_Bool (is_within s.0.variables)) [
    | inl e ↦ (Ok (with_names begun s.0), Declaring.added s.0 (s.1, e))
    | inr e ↦ (Err reasons.TooMany, Declaring.refused begun.names fault.TooMany (s.0, s.1, e) refl)
  ]
]

grouping : (begun : Begun) (next : Option Scope) → (answer : Answer) × Declaring begun (Groups next) answer
grouping begun next = elim (none_or next) [
  | inl n ↦ (Err reasons.Meaning, Declaring.refused begun.names fault.NoMeaning n refl)
  | inr s ↦ (Ok (with_names begun s.0), Declaring.added s.0 s.1)
]

adding : (begun : Begun) (number : ℕ) (w : Written) → (answer : Answer) × Adds begun number w answer
adding begun number (written.Declaration d) = declaring begun (with_declaration begun.names number d)
adding begun number (written.Group g) = grouping begun (with_group begun.names number g)
adding begun number w = stating begun number w

abbrev LineAnswer : List ℕ → ℕ → Begun → Type 0
LineAnswer line number begun = (answer : Answer) × LineIs line number begun answer

written_answer : (line : List ℕ) (number : ℕ) (begun : Begun) (w : Written) → length line ≤ 1000 → IsStatement line w → LineAnswer line number begun
written_answer line number begun w short is = elim (cases_Bool (is_misplaced begun w)) [
  | inl e ↦ (Err reasons.Syntax, LineIs.misplaced w short is e)
  | inr e ↦ let adds = adding begun number w in (adds.0, LineIs.placed w short is e adds.1)
]

short_answer : (line : List ℕ) (number : ℕ) (begun : Begun) → length line ≤ 1000 → LineAnswer line number begun
short_answer line number begun short = elim (parse_answer line) [
  | inl bare ↦ (Ok begun, LineIs.blank short bare)
  | inr some ↦ elim some [
    | inl w ↦ written_answer line number begun w.0 short w.1
    | inr none ↦ (Err reasons.Syntax, LineIs.garbled short none)
  ]
]

line_answer : (line : List ℕ) (number : ℕ) (begun : Begun) → LineAnswer line number begun
line_answer line number begun = elim (cases_Bool (nat_lt 1000 (length line))) [
  | inl e ↦ (Err reasons.LineTooLong, LineIs.long (ltb-true 1000 (length line) e))
  | inr e ↦ short_answer line number begun (ltb-false 1000 (length line) e)
]

-- ---- lines

-- the first line that is refused, behind those that are good
record IsBad (number : ℕ) (begun : Begun) (text : List (List ℕ)) : Type 0 where
  before : List (List ℕ)
  line : List ℕ
  behind : List (List ℕ)
  reached : Begun
  reason : Reason
  all : text ≡ before ++ line ∷ behind
  good : AreGood number begun before reached
  is : LineIs line (length before + number) reached (Err reason)

abbrev LinesAnswer : ℕ → Begun → List (List ℕ) → Type 0
LinesAnswer number begun text = ((last : Begun) × AreGood number begun text last) ⊎ IsBad number begun text

bad_behind : (line : List ℕ) (more : List (List ℕ)) (number : ℕ) (begun next : Begun) → LineIs line number begun (Ok next) → IsBad (number + 1) next more → IsBad number begun (line ∷ more)
bad_behind line more number begun next is bad = record {
  before = line ∷ bad.before;
  line = bad.line;
  behind = bad.behind;
  reached = bad.reached;
  reason = bad.reason;
  all = ap (λ l. line ∷ l) bad.all;
  good = (next, is, bad.good);
  is = subst (λ n. LineIs bad.line n bad.reached (Err bad.reason)) (omega arith) bad.is;
}

first_bad : (line : List ℕ) (more : List (List ℕ)) (number : ℕ) (begun : Begun) (reason : Reason) → LineIs line number begun (Err reason) → IsBad number begun (line ∷ more)
first_bad line more number begun reason is = record {
  before = [];
  line = line;
  behind = more;
  reached = begun;
  reason = reason;
  all = refl;
  good = refl;
  is = subst (λ n. LineIs line n begun (Err reason)) (omega arith) is;
}

behind_line : (line : List ℕ) (more : List (List ℕ)) (number : ℕ) (begun : Begun) (answer : Answer) → LineIs line number begun answer
    → ((next : Begun) → LinesAnswer (number + 1) next more) → LinesAnswer number begun (line ∷ more)
behind_line line more number begun (Err reason) is rest = inr (first_bad line more number begun reason is)
behind_line line more number begun (Ok next) is rest = elim (rest next) [
  | inl good ↦ inl (good.0, (next, is, good.1))
  | inr bad ↦ inr (bad_behind line more number begun next is bad)
]

lines_answer : (number : ℕ) (begun : Begun) (text : List (List ℕ)) → LinesAnswer number begun text
lines_answer number begun [] = inl (begun, refl)
lines_answer number begun (line ∷ more) =
    let here = line_answer line number begun in
    behind_line line more number begun here.0 here.1 (λ next. lines_answer (number + 1) next more)

-- ---- texts

abbrev TextAnswer : List ℕ → Type 0
TextAnswer text = ((deck : Deck) × IsDeck text deck) ⊎ ((line : ℕ) × (reason : Reason) × IsRefused text line reason)

short_text : (text : List ℕ) → length text ≤ 4194304 → TextAnswer text
short_text text short = elim (lines_answer 1 empty (lines text)) [
  | inl good ↦ elim (cases_Bool (has_ended good.0.statements)) [
    | inl e ↦ inl (deck_of good.0, record { short = short; last = good.0; good = good.1; ended = e; is = refl })
    | inr e ↦ inr (length (lines text) + 1, reasons.NoEnd, IsRefused.endless good.0 short good.1 e)
  ]
  | inr bad ↦ inr (length bad.before + 1, bad.reason, IsRefused.bad bad.before bad.line bad.behind short bad.all bad.good bad.is)
]

pub some_answer : SomeAnswer
some_answer text = elim (cases_Bool (nat_lt 4194304 (length text))) [
  | inl e ↦ inr (1, reasons.TextTooLong, IsRefused.long (ltb-true 4194304 (length text) e))
  | inr e ↦ short_text text (ltb-false 4194304 (length text) e)
]
