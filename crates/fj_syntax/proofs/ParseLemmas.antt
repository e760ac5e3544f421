-- Reading a line from the front: its tokens, and the statement that they are.
use Rattle.std.proofs.Common.{Bool, ◌⊎◌, ◌≡◌, ℕ, zero, suc, ◌<◌, ◌≤◌, true, false, List, [], ◌∷◌, ◌++◌, length, Some, None, refl, sym, ap, ◌∙◌, subst, inl, inr, arith, append_assoc, append-nil, length-append, Err, length-drop, eqb}
use Rattle.std.specs.List.{prefix_len}
use Rattle.std.proofs.lemmas.Bool.{eqb-true}
use Rattle.fj_syntax.specs.Class.{is_of, Blank}
use Rattle.fj_syntax.specs.FirstToken.{Found, first_token, mark_at}
use Rattle.fj_syntax.specs.Parsing.{IsBlankLine, IsOnlyStatement, IsNoStatement, Parses, OneReading}
use Rattle.fj_syntax.specs.Reading.{SyntaxFault, Memory, NotAStatement, Fails}
use Rattle.fj_syntax.specs.Statement.{Written, written_of}
use Rattle.fj_syntax.specs.Tokens.{Token, Word, Number, Literal, Truth, Mark, IsWritten, sign_bytes, AreTokens, end, token as first, behind_blanks, HasTokens, HasNoTokens, ends_line, Scanned}
use Rattle.fj_syntax.proofs.Holding.{none_and_some, some_is}
use Rattle.fj_syntax.proofs.TokenLemmas.{StandsFirst, first_is, first_again}

-- ---- what a line begins with

end_first : (line : List ℕ) → ends_line line ≡ true → first_token line ≡ None
unfolding first_token mark_at
end_first [] h = refl
end_first (c ∷ line) h = rw (eqb-true c 33 h) refl

-- what a line's tokens are, by the token that is read first
abbrev Step : List ℕ → Found → List Token → Type 0
Step line None tokens = (tokens ≡ []) × (ends_line (behind_blanks line) ≡ true)
Step line (Some x) tokens = (others : List Token) × (tokens ≡ x.0 ∷ others) × AreTokens x.1 others

step : (line : List ℕ) (tokens : List Token) → AreTokens line tokens → Step line (first_token (behind_blanks line)) tokens
step _ _ (end line is) = rw (end_first (behind_blanks line) is) (refl, is)
step _ _ (first line bytes rest {first = t} {tokens = ts} e written more) = rw (e, first_again t bytes rest written) (ts, refl, more)

token_is : (line rest : List ℕ) (t : Token) (us : List Token) → first_token (behind_blanks line) ≡ Some (t, rest) → AreTokens rest us → AreTokens line (t ∷ us)
token_is line rest t us h more = let stands : StandsFirst (behind_blanks line) (t, rest) = first_is (behind_blanks line) (t, rest) h in first line stands.0 rest stands.1 stands.2 more

-- ---- each token takes some bytes

written_some : (t : Token) (bytes line : List ℕ) → IsWritten t bytes line → 0 < length bytes
unfolding first_token
written_some t (c ∷ bytes) line w = omega arith
written_some (Word word) [] line w = w.run.some
written_some (Number sign amount) [] line w = omega (arith, ap length w.written, length-append (sign_bytes sign) w.digits, w.run.some)
written_some (Literal text) [] line w = omega (arith, ap length w.written)
written_some (Truth truth) [] line w = absurd (none_and_some None (Truth truth, []) refl (first_again (Truth truth) [] [] w))
written_some (Mark mark) [] line w = absurd (none_and_some None (Mark mark, []) refl (first_again (Mark mark) [] [] w))

pub shorter : (line rest : List ℕ) (t : Token) → first_token (behind_blanks line) ≡ Some (t, rest) → length rest < length line
shorter line rest t h =
    let stands : StandsFirst (behind_blanks line) (t, rest) = first_is (behind_blanks line) (t, rest) h in
    omega (arith, ap length stands.1, length-append stands.0 rest, written_some t stands.0 rest stands.2, length-drop (prefix_len (is_of Blank) line) line)

-- ---- the scanner's way along a line

-- the tokens of the line are those found and those of the rest
pub record Scans (line rest : List ℕ) (found : List Token) : Type 0 where
  pub is : (us : List Token) → AreTokens rest us → AreTokens line (found ++ us)
  pub only : (ts : List Token) → AreTokens line ts → (us : List Token) × (ts ≡ found ++ us) × AreTokens rest us

pub scans_token : (line rest behind : List ℕ) (t : Token) (found : List Token) → Scans line rest found → first_token (behind_blanks rest) ≡ Some (t, behind) → Scans line behind (found ++ t ∷ [])
scans_token line rest behind t found s h = record {
  is = λ us are. rw append_assoc (s.is (t ∷ us) (token_is rest behind t us h are));
  only = λ ts are.
      let o = s.only ts are in
      let f : Step rest (Some (t, behind)) o.0 = subst (λ read. Step rest read o.0) h (step rest o.0 o.2) in
      (f.0, o.1 ∙ ap (λ l. found ++ l) f.1 ∙ sym (append_assoc found (t ∷ []) f.0), f.2);
}

pub scans_done : (line rest : List ℕ) (found : List Token) → Scans line rest found → ends_line (behind_blanks rest) ≡ true → HasTokens line found
scans_done line rest found s h = record {
  is = subst (AreTokens line) (append-nil found) (s.is [] (end rest h));
  only = λ ts are.
      let o = s.only ts are in
      let f : Step rest None o.0 = subst (λ read. Step rest read o.0) (end_first (behind_blanks rest) h) (step rest o.0 o.2) in
      o.1 ∙ ap (λ l. found ++ l) f.0 ∙ append-nil found;
}

-- what a fault at the rest says of the line
pub scans_fault : {X : Type 0} (view : X → List Token) (line rest : List ℕ) (found : List Token) (e : SyntaxFault) → Scans line rest found
    → ends_line (behind_blanks rest) ≡ false → Fails e (first_token (behind_blanks rest)) → Scanned line (Err e) view
scans_fault view line rest found (Memory error) s no_end h = tt
scans_fault view line rest found NotAStatement s no_end h = λ ts are.
    let o = s.only ts are in
    let f : Step rest None o.0 = subst (λ read. Step rest read o.0) h (step rest o.0 o.2) in
    let no : true ≡ false = sym f.1 ∙ no_end in cc

-- ---- each line has its tokens once, or none

abbrev pub TokenAnswer : List ℕ → Type 0
TokenAnswer line = ((tokens : List Token) × HasTokens line tokens) ⊎ HasNoTokens line

answer_by : (line rest : List ℕ) (found : List Token) → Scans line rest found → (ends : Bool) (read : Found) → ends_line (behind_blanks rest) ≡ ends → first_token (behind_blanks rest) ≡ read
    → ((t : Token) (behind : List ℕ) → first_token (behind_blanks rest) ≡ Some (t, behind) → TokenAnswer line) → TokenAnswer line
answer_by line rest found s true read e h more = inl (found, scans_done line rest found s e)
answer_by line rest found s false None e h more = inr (scans_fault (λ tokens. tokens) line rest found NotAStatement s e h)
answer_by line rest found s false (Some (t, behind)) e h more = more t behind h

answer_from : (left : ℕ) (line rest : List ℕ) (found : List Token) → length rest ≤ left → Scans line rest found → TokenAnswer line
answer_from zero line rest found most s = answer_by line rest found s _ _ refl refl (λ t behind e. absurd (omega (arith, shorter rest behind t e)))
answer_from (suc left) line rest found most s =
    answer_by line rest found s _ _ refl refl
    (λ t behind e. answer_from left line behind (found ++ t ∷ []) (omega (arith, shorter rest behind t e)) (scans_token line rest behind t found s e))

pub token_answer : (line : List ℕ) → TokenAnswer line
token_answer line = answer_from (length line) line line [] (omega arith) (record { is = λ us are. are; only = λ ts are. (ts, refl, are) })

pub tokens_unique : (line : List ℕ) (ts us : List Token) → AreTokens line ts → AreTokens line us → us ≡ ts
tokens_unique line ts us are other = elim (token_answer line) [ inl d ↦ d.1.only us other ∙ sym (d.1.only ts are) | inr none ↦ absurd (none ts are) ]

-- ---- from the tokens of a line to its statement

not_blank : (line : List ℕ) (tokens : List Token) → HasTokens line tokens → eqb (length tokens) 0 ≡ false → IsBlankLine line → ⊥
not_blank line tokens has some empty =
    let none : [] ≡ tokens = has.only [] empty in
    let no : true ≡ false = ap (λ l. eqb (length l) 0) none ∙ some in cc

pub statement_is : (line : List ℕ) (tokens : List Token) (s : Written) → HasTokens line tokens → eqb (length tokens) 0 ≡ false → written_of tokens ≡ Some s → IsOnlyStatement line s
statement_is line tokens s has some w = record {
  is = (tokens, has.is, w);
  only = λ other is. some_is other s (sym is.2 ∙ ap written_of (has.only is.0 is.1) ∙ w);
  some = not_blank line tokens has some;
}

pub statement_none : (line : List ℕ) (tokens : List Token) → HasTokens line tokens → eqb (length tokens) 0 ≡ false → written_of tokens ≡ None → IsNoStatement line
statement_none line tokens has some w = record {
  some = not_blank line tokens has some;
  none = λ s is. none_and_some (written_of tokens) s w (sym (ap written_of (has.only is.0 is.1)) ∙ is.2);
}

pub fault_parses : (line : List ℕ) (tokens : List Token) (e : SyntaxFault) → HasTokens line tokens → eqb (length tokens) 0 ≡ false → Fails e (written_of tokens) → Parses line (Err e)
fault_parses line tokens (Memory error) has some h = tt
fault_parses line tokens NotAStatement has some h = statement_none line tokens has some h

pub once : OneReading
unfolding written_of
once = record {
  tokens = tokens_unique;
  statement = λ line s other is was. some_is s other (sym is.2 ∙ sym (ap written_of (tokens_unique line is.0 was.0 is.1 was.1)) ∙ was.2);
  blank = λ line s empty is. none_and_some (written_of is.0) s (ap written_of (tokens_unique line [] is.0 empty is.1)) is.2;
}
