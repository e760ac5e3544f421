-- Tokens that are added one after another.
use Rattle.std.proofs.Common.{◌≡◌, ℕ, ◌+◌, ◌<◌, Bool, List, [], ◌++◌, length, get_or, drop, Result, Ok, Err, sym, ap, ◌∙◌, append_assoc}
use Rattle.std.specs.Prelude.{IfOk}
use Rattle.fj_namelist.specs.declared.token.Token.{Token}
use Rattle.fj_namelist.specs.declared.token.State.{State}
use Rattle.fj_namelist.specs.Tokens.{Lexed, Adds, at_record_end, stepped, with_tokens, line_lexed}
use Rattle.std.proofs.lemmas.List.{drop_more}

-- a character of a record, and then the others
pub line_step : (comma : Bool) (state : State) (line : List ℕ) (i : ℕ) → i < length line
    → line_lexed comma state (drop i line) ≡ with_tokens (stepped comma state (get_or line i 0)).tokens (line_lexed comma (stepped comma state (get_or line i 0)).state (drop (i + 1) line))
line_step comma state line i h = ap (line_lexed comma state) (drop_more line i 0 h)

-- what is lexed so far, and what is to come
pub record SoFar (comma : Bool) (first state : State) (whole rest : List ℕ) (old now : List Token) : Type 0 where
  pub tokens : old ++ (line_lexed comma first whole).tokens ≡ now ++ (line_lexed comma state rest).tokens
  pub reached : (line_lexed comma first whole).state ≡ (line_lexed comma state rest).state

pub so_far_more : (comma : Bool) (first state state' : State) (whole : List ℕ) (i : ℕ) (old now now' : List Token) → i < length whole → SoFar comma first state whole (drop i whole) old now
    → Adds (stepped comma state (get_or whole i 0)) now now' state' → SoFar comma first state' whole (drop (i + 1) whole) old now'
so_far_more comma first state state' whole i old now now' within so_far adds =
    let l = stepped comma state (get_or whole i 0) in
    let step = line_step comma state whole i within in
    let rest : State → Lexed = λ st. line_lexed comma st (drop (i + 1) whole) in
    record {
      tokens = so_far.tokens ∙ ap (λ (x : Lexed). now ++ x.tokens) step ∙ sym (append_assoc now l.tokens (rest l.state).tokens)
          ∙ ap (λ (ts : List Token). ts ++ (rest l.state).tokens) (sym adds.0) ∙ ap (λ (st : State). now' ++ (rest st).tokens) (sym adds.1);
      reached = so_far.reached ∙ ap (λ (x : Lexed). x.state) step ∙ ap (λ (st : State). (rest st).state) (sym adds.1);
    }

pub so_far_end : (comma : Bool) (first state next : State) (whole rest : List ℕ) (old now now' : List Token) → rest ≡ [] → SoFar comma first state whole rest old now
    → Adds (at_record_end state) now now' next → Adds (line_lexed comma first whole) old now' next
so_far_end comma first state next whole rest old now now' none so_far adds =
    let ended = ap (line_lexed comma state) none in
    (adds.0 ∙ sym (so_far.tokens ∙ ap (λ (x : Lexed). now ++ x.tokens) ended), adds.1 ∙ sym (so_far.reached ∙ ap (λ (x : Lexed). x.state) ended))

pub if_ok : {T E : Type 0} (r : Result T E) (P Q : T → Type 0) → ((x : T) → P x → Q x) → IfOk r P → IfOk r Q
if_ok (Ok x) P Q f h = f x h
if_ok (Err e) P Q f h = h
