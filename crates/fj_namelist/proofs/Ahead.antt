-- Namelist input taken apart along one list of characters with record ends.
use Rattle.std.proofs.Common.{◌≡◌, ℕ, ◌⊎◌, Bool, true, false, List, [], ◌∷◌, ◌++◌, Option, Some, None, sym, ap, ◌∙◌, refl, inl, inr, append_assoc}
use Rattle.fj_value.specs.declared.condition.Condition.{Condition}
use Rattle.fj_list.specs.Stream.{Stream, stream, records_behind}
use Rattle.fj_list.proofs.StreamLaws.{records_behind-stream}
use Rattle.fj_namelist.specs.declared.token.Token.{Token}
use Rattle.fj_namelist.specs.declared.token.State.{State}
use Rattle.fj_namelist.specs.declared.token.State.TheVariants.{Between, Comment, InWord, Inside, Behind, Done}
use Rattle.fj_namelist.specs.Tokens.{Lexed, lexed, stepped, at_record_end, at_records_end, with_tokens, line_lexed, Group, lines_lexed, more_lexed, behind_line, is_done}

-- a character, or the end of a record
abbrev pub step : Bool → State → Option ℕ → Lexed
step comma st None = at_record_end st
step comma st (Some c) = stepped comma st c

abbrev pub prepended : List Token → Group → Group
prepended ts g = record { tokens = ts ++ g.tokens; left = g.left }

abbrev pub stop_or : Bool → Stream → Group → Group
stop_or true s more = record { tokens = []; left = records_behind s }
stop_or false s more = more

-- what is there from a state on
abbrev pub ahead : Bool → Condition → State → Stream → Group
ahead comma e st [] = stop_or (is_done st) [] (record { tokens = at_records_end e st ∷ []; left = [] })
ahead comma e st (x ∷ s) = stop_or (is_done st) (x ∷ s) (prepended (step comma st x).tokens (ahead comma e (step comma st x).state s))

done_or : (st : State) → (st ≡ Done) ⊎ (is_done st ≡ false)
done_or (Between fresh) = inr refl
done_or Comment = inr refl
done_or (InWord w) = inr refl
done_or (Inside d) = inr refl
done_or (Behind d) = inr refl
done_or Done = inl refl

done_line : (comma : Bool) (cs : List ℕ) → line_lexed comma Done cs ≡ lexed [] Done
done_line comma [] = refl
done_line comma (c ∷ cs) = ap (with_tokens []) (done_line comma cs)

-- records taken apart one after another
abbrev whole : Bool → Condition → Lexed → List (List ℕ) → Group
whole comma e l lines = behind_line l (more_lexed (is_done l.state) lines (lines_lexed comma e l.state lines))

done_ahead : (comma : Bool) (e : Condition) (line : List ℕ) (lines : List (List ℕ)) → whole comma e (line_lexed comma Done line) lines ≡ ahead comma e Done (stream (line ∷ lines))
done_ahead comma e line lines = ap (λ (l : Lexed). whole comma e l lines) (done_line comma line) ∙ go line where
  go : (line : List ℕ) → record { tokens = []; left = lines } ≡ ahead comma e Done (stream (line ∷ lines))
  go [] = ap (λ (ls : List (List ℕ)). record { tokens = []; left = ls }) (sym (records_behind-stream [] lines))
  go (c ∷ cs) = ap (λ (ls : List (List ℕ)). record { tokens = []; left = ls }) (sym (records_behind-stream (c ∷ cs) lines))

whole_front : (comma : Bool) (e : Condition) (ts : List Token) (l : Lexed) (lines : List (List ℕ)) → whole comma e (with_tokens ts l) lines ≡ prepended ts (whole comma e l lines)
whole_front comma e ts l lines =
    let more = more_lexed (is_done l.state) lines (lines_lexed comma e l.state lines) in
    ap (λ (us : List Token). record { tokens = us; left = more.left }) (append_assoc ts l.tokens more.tokens)

line_ahead : (comma : Bool) (e : Condition) (st : State) (line : List ℕ) (lines : List (List ℕ))
    → ((st' : State) → is_done st' ≡ false → lines_lexed comma e st' lines ≡ ahead comma e st' (stream lines)) → whole comma e (line_lexed comma st line) lines ≡ ahead comma e st (stream (line ∷ lines))
line_ahead comma e st [] lines on = go st where
  between : (ts : List Token) → whole comma e (lexed ts (Between true)) lines ≡ prepended ts (ahead comma e (Between true) (stream lines))
  between ts = ap (prepended ts) (on (Between true) refl)

  go : (st : State) → whole comma e (at_record_end st) lines ≡ ahead comma e st (stream ([] ∷ lines))
  go (Between fresh) = between []
  go Comment = between []
  go (InWord w) = between (Rattle.fj_namelist.specs.declared.token.Token.TheVariants.Word w ∷ [])
  go (Inside d) = ap (prepended []) (on (Inside d) refl)
  go (Behind d) = between (Rattle.fj_namelist.specs.declared.token.Token.TheVariants.Constant d.count d.characters ∷ [])
  go Done = done_ahead comma e [] lines
line_ahead comma e st (c ∷ cs) lines on = elim (done_or st) [
  | inl is ↦ ap (λ (x : State). whole comma e (line_lexed comma x (c ∷ cs)) lines) is ∙ done_ahead comma e (c ∷ cs) lines ∙ sym (ap (λ (x : State). ahead comma e x (stream ((c ∷ cs) ∷ lines))) is)
  | inr goes ↦
      let l = stepped comma st c in
      whole_front comma e l.tokens (line_lexed comma l.state cs) lines
      ∙ ap (prepended l.tokens) (line_ahead comma e l.state cs lines on)
      ∙ sym (ap (λ b. stop_or b (stream ((c ∷ cs) ∷ lines)) (prepended l.tokens (ahead comma e l.state (stream (cs ∷ lines))))) goes)
]

pub lines_ahead : (comma : Bool) (e : Condition) (st : State) (lines : List (List ℕ)) → is_done st ≡ false → lines_lexed comma e st lines ≡ ahead comma e st (stream lines)
lines_ahead comma e st [] goes = sym (ap (λ b. stop_or b [] (record { tokens = at_records_end e st ∷ []; left = [] })) goes)
lines_ahead comma e st (line ∷ lines) goes = line_ahead comma e st line lines (λ st' goes'. lines_ahead comma e st' lines goes')

-- characters lead from a state to another one, with these tokens
pub record Leads (comma : Bool) (st : State) (s : Stream) (ts : List Token) (st' : State) (s' : Stream) : Type 0 where
  pub lead : (e : Condition) → ahead comma e st s ≡ prepended ts (ahead comma e st' s')

pub leads_none : (comma : Bool) (st : State) (s : Stream) → Leads comma st s [] st s
leads_none comma st s = record { lead = λ e. refl }

pub leads_on : (comma : Bool) (st st' st'' : State) (s s' s'' : Stream) (ts us : List Token) → Leads comma st s ts st' s' → Leads comma st' s' us st'' s'' → Leads comma st s (ts ++ us) st'' s''
leads_on comma st st' st'' s s' s'' ts us one two = record {
  lead = λ e.
      let g = ahead comma e st'' s'' in
      one.lead e ∙ ap (prepended ts) (two.lead e) ∙ ap (λ (xs : List Token). record { tokens = xs; left = g.left }) (sym (append_assoc ts us g.tokens));
}

pub leads_step : (comma : Bool) (st st' : State) (x : Option ℕ) (s : Stream) (ts : List Token) → is_done st ≡ false → step comma st x ≡ lexed ts st' → Leads comma st (x ∷ s) ts st' s
leads_step comma st st' x s ts goes is = record {
  lead = λ e.
      ap (λ b. stop_or b (x ∷ s) (prepended (step comma st x).tokens (ahead comma e (step comma st x).state s))) goes
      ∙ ap (λ (l : Lexed). prepended l.tokens (ahead comma e l.state s)) is;
}

-- a character that ends a token leads on as it does behind it
pub leads_behind : (comma fresh : Bool) (st : State) (x : Option ℕ) (s : Stream) (t : Token) → is_done st ≡ false → step comma st x ≡ with_tokens (t ∷ []) (step comma (Between fresh) x) → Leads comma st (x ∷ s) (t ∷ []) (Between fresh) (x ∷ s)
leads_behind comma fresh st x s t goes is = record {
  lead = λ e.
      ap (λ b. stop_or b (x ∷ s) (prepended (step comma st x).tokens (ahead comma e (step comma st x).state s))) goes
      ∙ ap (λ (l : Lexed). prepended l.tokens (ahead comma e l.state s)) is;
}
