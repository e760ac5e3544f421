-- Records of a group, read one after another.
use Rattle.std.proofs.Common.{◌≡◌, ℕ, Bool, true, false, List, [], ◌∷◌, ◌++◌, sym, ap, ◌∙◌, append_assoc, append-nil}
use Rattle.fj_value.specs.declared.condition.Condition.{Condition}
use Rattle.fj_namelist.specs.declared.token.Token.{Token}
use Rattle.fj_namelist.specs.declared.token.State.{State}
use Rattle.fj_namelist.specs.declared.token.State.TheVariants.{Between}
use Rattle.fj_namelist.specs.Tokens.{Adds, Group, line_lexed, lines_lexed, more_lexed, is_done, at_records_end}

-- what is left of the group behind a record, in a state
abbrev pub left_of : Bool → Condition → State → List (List ℕ) → Group
left_of comma ending state lines = more_lexed (is_done state) lines (lines_lexed comma ending state lines)

-- the tokens so far and those of what is left are those of the whole
pub record Behind (comma : Bool) (ending : Condition) (whole : List (List ℕ)) (old : List Token) (state : State) (lines : List (List ℕ)) (now : List Token) : Type 0 where
  pub tokens : old ++ (lines_lexed comma ending (Between true) whole).tokens ≡ now ++ (left_of comma ending state lines).tokens
  pub left : (lines_lexed comma ending (Between true) whole).left ≡ (left_of comma ending state lines).left

-- a record
pub behind_first : (comma : Bool) (ending : Condition) (line : List ℕ) (lines : List (List ℕ)) (old now : List Token) (state : State) → Adds (line_lexed comma (Between true) line) old now state → Behind comma ending (line ∷ lines) old state lines now
behind_first comma ending line lines old now state adds =
    let l = line_lexed comma (Between true) line in
    let rest : State → Group = λ st. left_of comma ending st lines in
    record {
      tokens = sym (append_assoc old l.tokens (rest l.state).tokens) ∙ ap (λ (ts : List Token). ts ++ (rest l.state).tokens) (sym adds.0) ∙ ap (λ (st : State). now ++ (rest st).tokens) (sym adds.1);
      left = ap (λ (st : State). (rest st).left) (sym adds.1);
    }

goes_on : (comma : Bool) (ending : Condition) (state : State) (lines : List (List ℕ)) → is_done state ≡ false → left_of comma ending state lines ≡ lines_lexed comma ending state lines
goes_on comma ending state lines e = ap (λ b. more_lexed b lines (lines_lexed comma ending state lines)) e

pub behind_more : (comma : Bool) (ending : Condition) (whole lines lines' : List (List ℕ)) (line : List ℕ) (old now now' : List Token) (state state' : State) → is_done state ≡ false → lines ≡ line ∷ lines'
    → Behind comma ending whole old state lines now → Adds (line_lexed comma state line) now now' state' → Behind comma ending whole old state' lines' now'
behind_more comma ending whole lines lines' line old now now' state state' on is behind adds =
    let l = line_lexed comma state line in
    let rest : State → Group = λ st. left_of comma ending st lines' in
    let step = goes_on comma ending state lines on ∙ ap (lines_lexed comma ending state) is in
    record {
      tokens = behind.tokens ∙ ap (λ (g : Group). now ++ g.tokens) step ∙ sym (append_assoc now l.tokens (rest l.state).tokens)
          ∙ ap (λ (ts : List Token). ts ++ (rest l.state).tokens) (sym adds.0) ∙ ap (λ (st : State). now' ++ (rest st).tokens) (sym adds.1);
      left = behind.left ∙ ap (λ (g : Group). g.left) step ∙ ap (λ (st : State). (rest st).left) (sym adds.1);
    }

-- the group has ended
pub behind_done : (comma : Bool) (ending : Condition) (whole lines : List (List ℕ)) (old now : List Token) (state : State) → is_done state ≡ true → Behind comma ending whole old state lines now
    → (now ≡ old ++ (lines_lexed comma ending (Between true) whole).tokens) × (lines ≡ (lines_lexed comma ending (Between true) whole).left)
behind_done comma ending whole lines old now state done behind =
    let ended = ap (λ b. more_lexed b lines (lines_lexed comma ending state lines)) done in
    (sym (behind.tokens ∙ ap (λ (g : Group). now ++ g.tokens) ended ∙ append-nil now), sym (behind.left ∙ ap (λ (g : Group). g.left) ended))

-- the records have ended
pub behind_end : (comma : Bool) (ending condition : Condition) (whole lines lines' : List (List ℕ)) (old now now' : List Token) (state : State) → is_done state ≡ false → lines ≡ [] → lines' ≡ [] → condition ≡ ending
    → Behind comma ending whole old state lines now → now' ≡ now ++ at_records_end condition state ∷ []
    → (now' ≡ old ++ (lines_lexed comma ending (Between true) whole).tokens) × (lines' ≡ (lines_lexed comma ending (Between true) whole).left)
behind_end comma ending condition whole lines lines' old now now' state on none none' same behind pushed =
    let step = goes_on comma ending state lines on ∙ ap (lines_lexed comma ending state) none in
    (pushed ∙ ap (λ (e : Condition). now ++ at_records_end e state ∷ []) same ∙ sym (behind.tokens ∙ ap (λ (g : Group). now ++ g.tokens) step), none' ∙ sym (behind.left ∙ ap (λ (g : Group). g.left) step))
