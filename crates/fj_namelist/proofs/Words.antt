-- Words, constants and marks as they are written, taken apart.
use Rattle.std.proofs.Common.{◌≡◌, ℕ, zero, suc, ℤ, pos, negsuc, ◌+◌, ◌-◌, ◌^◌, ◌%◌, ◌<◌, ◌≤◌, Bool, true, false, ◌||◌, ◌&&◌, not, cond, eqb, ltb, List, [], ◌∷◌, ◌++◌, length, map, take, drop, Option, Some, None, is_some, sym, ap, subst, ◌∙◌, refl, inl, inr, arith, append_assoc, append-nil}
use Rattle.std.proofs.lemmas.Bool.{false≢true}
use Rattle.std.proofs.lemmas.Bool.Decides.{nat_tests}
use Rattle.std.proofs.lemmas.List.{take_all, drop_all}
use Rattle.std.proofs.lemmas.Fmt.{decimal_by_steps}
use Rattle.std.specs.Fmt.{decimal}
use Rattle.std.specs.Char.{to_ascii_uppercase, is_ascii_alphanumeric}
use Rattle.std.specs.List.{position_or_len, prefix_len, list_all}
use Rattle.std.specs.Str.{str_to_ascii_uppercase}
use Rattle.std.specs.Prelude.{unsigned_abs}
use Rattle.fj_value.specs.declared.edit.Delim.{Delim}
use Rattle.fj_value.specs.declared.edit.Delim.TheVariants.{Plain, Apostrophe, Quote}
use Rattle.fj_value.specs.declared.edit.EditModes.{EditModes}
use Rattle.fj_value.specs.declared.value.Value.{Value}
use Rattle.fj_value.specs.declared.value.Value.TheVariants as v
use Rattle.fj_list.specs.ListText.{mark_of, doubled, integer_shown}
use Rattle.fj_list.specs.ListInput.{ends_constant, is_mark, is_no_digit}
use Rattle.fj_namelist.specs.declared.token.Token.{Token}
use Rattle.fj_namelist.specs.declared.token.Token.TheVariants as token
use Rattle.fj_namelist.specs.declared.token.Delimited.{Delimited}
use Rattle.fj_namelist.specs.declared.token.State.{State}
use Rattle.fj_namelist.specs.declared.token.State.TheVariants.{Between, InWord, Inside, Behind, Done}
use Rattle.fj_namelist.specs.Names.{is_opening, designated, designator, subscript_in, starred, repeat_in}
use Rattle.fj_namelist.specs.Tokens.{Lexed, lexed, at_end, marked, stepped, at_record_end, with_tokens, line_lexed}
use Rattle.fj_namelist.specs.GroupReadAgain.{in_name}

-- characters lead from a state to another one, with these tokens
pub record Runs (comma : Bool) (st : State) (cs : List ℕ) (ts : List Token) (st' : State) : Type 0 where
  pub run : (more : List ℕ) → line_lexed comma st (cs ++ more) ≡ with_tokens ts (line_lexed comma st' more)

pub runs_none : (comma : Bool) (st : State) → Runs comma st [] [] st
runs_none comma st = record { run = λ more. refl }

pub runs_cons : (comma : Bool) (st st' st'' : State) (c : ℕ) (cs : List ℕ) (ts us : List Token) → stepped comma st c ≡ lexed ts st' → Runs comma st' cs us st'' → Runs comma st (c ∷ cs) (ts ++ us) st''
runs_cons comma st st' st'' c cs ts us step runs = record {
  run = λ more.
      ap (λ (l : Lexed). with_tokens l.tokens (line_lexed comma l.state (cs ++ more))) step
      ∙ ap (with_tokens ts) (runs.run more)
      ∙ ap (λ (xs : List Token). lexed xs (line_lexed comma st'' more).state) (sym (append_assoc ts us (line_lexed comma st'' more).tokens));
}

pub runs_append : (comma : Bool) (st st' st'' : State) (front bs : List ℕ) (ts us : List Token) → Runs comma st front ts st' → Runs comma st' bs us st'' → Runs comma st (front ++ bs) (ts ++ us) st''
runs_append comma st st' st'' front bs ts us one two = record {
  run = λ more.
      ap (line_lexed comma st) (append_assoc front bs more) ∙ one.run (bs ++ more) ∙ ap (with_tokens ts) (two.run more)
      ∙ ap (λ (xs : List Token). lexed xs (line_lexed comma st'' more).state) (sym (append_assoc ts us (line_lexed comma st'' more).tokens));
}

pub runs_whole : (comma : Bool) (st st' : State) (cs : List ℕ) (ts : List Token) → Runs comma st cs ts st' → line_lexed comma st cs ≡ with_tokens ts (at_record_end st')
runs_whole comma st st' cs ts runs = ap (line_lexed comma st) (sym (append-nil cs)) ∙ runs.run []

-- a character of a word
pub record IsIn (comma : Bool) (c : ℕ) : Type 0 where
  pub goes : ends_constant comma c ≡ false
  pub equals : eqb c 61 ≡ false
  pub mark : is_mark c ≡ false
  pub comment : eqb c 33 ≡ false
  pub opening : eqb c 40 ≡ false
  pub star : eqb c 42 ≡ false

abbrev pub AllIn : Bool → List ℕ → Type 0
AllIn comma [] = Unit {0}
AllIn comma (c ∷ cs) = IsIn comma c × AllIn comma cs

word_step : (comma : Bool) (w : List ℕ) (c : ℕ) → IsIn comma c → stepped comma (InWord w) c ≡ lexed [] (InWord (w ++ c ∷ []))
word_step comma w c is =
    let by : Bool → Bool → Bool → Lexed = λ a b d. cond a (at_end comma (token.Word w ∷ []) c) (cond (b && Rattle.fj_namelist.specs.Names.ends_at_equals w) (lexed (token.Word w ∷ token.Equals ∷ []) (Between false))
    (cond d (marked w c (repeat_in w) (Rattle.fj_namelist.specs.Names.behind_star w)) (lexed [] (InWord (w ++ c ∷ []))))) in
    ap (λ a. by a (eqb c 61) (is_mark c)) is.goes ∙ ap (λ b. by false b (is_mark c)) is.equals ∙ ap (by false false) is.mark

word_runs : (comma : Bool) (w cs : List ℕ) → AllIn comma cs → Runs comma (InWord w) cs [] (InWord (w ++ cs))
word_runs comma w [] all = subst (λ (x : List ℕ). Runs comma (InWord w) [] [] (InWord x)) (sym (append-nil w)) (runs_none comma (InWord w))
word_runs comma w (c ∷ cs) all =
    runs_cons comma (InWord w) (InWord (w ++ c ∷ [])) (InWord (w ++ (c ∷ cs))) c cs [] [] (word_step comma w c all.0)
    (subst (λ (x : List ℕ). Runs comma (InWord (w ++ c ∷ [])) cs [] (InWord x)) (append_assoc w (c ∷ []) cs) (word_runs comma (w ++ c ∷ []) cs all.1))

begin_step : (comma fresh : Bool) (c : ℕ) → IsIn comma c → stepped comma (Between fresh) c ≡ lexed [] (InWord (c ∷ []))
begin_step comma fresh c is = go fresh where
  by : Bool → Bool → Bool → Bool → Bool → Lexed
  by fresh a b d e = cond a (at_end comma [] c) (cond b (lexed (token.Equals ∷ []) (Between false)) (cond (fresh && d) (lexed [] Rattle.fj_namelist.specs.declared.token.State.TheVariants.Comment)
      (cond e (lexed [] (Inside (record { count = 1; mark = c; characters = [] }))) (lexed [] (InWord (c ∷ []))))))

  go : (fresh : Bool) → stepped comma (Between fresh) c ≡ lexed [] (InWord (c ∷ []))
  go true = ap (λ a. by true a (eqb c 61) (eqb c 33) (is_mark c)) is.goes ∙ ap (λ b. by true false b (eqb c 33) (is_mark c)) is.equals ∙ ap (λ d. by true false false d (is_mark c)) is.comment ∙ ap (by true false false false) is.mark
  go false = ap (λ a. by false a (eqb c 61) (eqb c 33) (is_mark c)) is.goes ∙ ap (λ b. by false false b (eqb c 33) (is_mark c)) is.equals ∙ ap (by false false false (eqb c 33)) is.mark

pub whole_word : (comma fresh : Bool) (c : ℕ) (cs : List ℕ) → AllIn comma (c ∷ cs) → Runs comma (Between fresh) (c ∷ cs) [] (InWord (c ∷ cs))
whole_word comma fresh c cs all = runs_cons comma (Between fresh) (InWord (c ∷ [])) (InWord (c ∷ cs)) c cs [] [] (begin_step comma fresh c all.0) (word_runs comma (c ∷ []) cs all.1)

-- words have no parenthesis and no repeat count
pub one_more : (n : ℕ) → 1 + n ≡ suc n
one_more n = omega arith

no_opening : (comma : Bool) (cs : List ℕ) → AllIn comma cs → position_or_len is_opening cs ≡ length cs
no_opening comma [] all = refl
no_opening comma (c ∷ cs) all =
    let n = prefix_len (λ x. not (is_opening x)) cs in
    ap (λ b. cond (not b) (1 + n) 0) all.0.opening ∙ one_more n ∙ ap suc (no_opening comma cs all.1)

pub word_designates : (comma : Bool) (c : ℕ) (cs : List ℕ) → AllIn comma (c ∷ cs) → designator (c ∷ cs) ≡ Some (record { name = c ∷ cs; subscript = None })
word_designates comma c cs all =
    let w = c ∷ cs in
    let n = no_opening comma w all in
    ap (λ k. designated (take k w) (drop k w)) n ∙ ap (λ (x : List ℕ). designated x (drop (length w) w)) (take_all (length w) w (omega arith)) ∙ ap (λ (x : List ℕ). designated w x) (drop_all (length w) w (omega arith))

pub no_subscript : (comma : Bool) (c : ℕ) (cs : List ℕ) → AllIn comma (c ∷ cs) → subscript_in (c ∷ cs) ≡ None
no_subscript comma c cs all = ap (λ b. cond b (Rattle.fj_namelist.specs.Names.closed_number cs (Rattle.std.proofs.Common.slice_get cs (length cs - 1))) None) all.0.opening

all_drop : (comma : Bool) (n : ℕ) (cs : List ℕ) → AllIn comma cs → AllIn comma (drop n cs)
all_drop comma zero cs all = all
all_drop comma (suc n) [] all = tt
all_drop comma (suc n) (c ∷ cs) all = all_drop comma n cs all.1

pub no_repeat : (comma : Bool) (w : List ℕ) → AllIn comma w → repeat_in w ≡ None
no_repeat comma w all = go (drop (position_or_len is_no_digit w) w) (all_drop comma (position_or_len is_no_digit w) w all) where
  go : (rest : List ℕ) → AllIn comma rest → starred (take (position_or_len is_no_digit w) w) rest ≡ None
  go [] h = refl
  go (c ∷ rest) h = ap (λ b. cond b (Rattle.std.specs.Option.option_map Rattle.fj_namelist.specs.Names.ranged (Rattle.fj_value.specs.Digits.number_in 10 (take (position_or_len is_no_digit w) w))) None) h.0.star

-- characters of names
upper_in : (comma : Bool) (c : ℕ) → in_name c ≡ true → IsIn comma (to_ascii_uppercase c)
upper_in true c e = record { goes = grind (arith, nat_tests); equals = grind (arith, nat_tests); mark = grind (arith, nat_tests); comment = grind (arith, nat_tests); opening = grind (arith, nat_tests); star = grind (arith, nat_tests) }
upper_in false c e = record { goes = grind (arith, nat_tests); equals = grind (arith, nat_tests); mark = grind (arith, nat_tests); comment = grind (arith, nat_tests); opening = grind (arith, nat_tests); star = grind (arith, nat_tests) }

and_both : (a b : Bool) → (a && b) ≡ true → (a ≡ true) × (b ≡ true)
and_both true true e = (refl, refl)
and_both true false e = absurd (false≢true e)
and_both false b e = absurd (false≢true e)

pub name_in : (comma : Bool) (name : List ℕ) → list_all in_name name ≡ true → AllIn comma (str_to_ascii_uppercase name)
name_in comma [] e = tt
name_in comma (c ∷ name) e = let p = and_both (in_name c) (list_all in_name name) e in (upper_in comma c p.0, name_in comma name p.1)

-- digits
digit_in : (comma : Bool) (d : ℕ) → d < 10 → IsIn comma (48 + d)
digit_in true d h = record { goes = grind (arith, nat_tests); equals = grind (arith, nat_tests); mark = grind (arith, nat_tests); comment = grind (arith, nat_tests); opening = grind (arith, nat_tests); star = grind (arith, nat_tests) }
digit_in false d h = record { goes = grind (arith, nat_tests); equals = grind (arith, nat_tests); mark = grind (arith, nat_tests); comment = grind (arith, nat_tests); opening = grind (arith, nat_tests); star = grind (arith, nat_tests) }

in_push : (comma : Bool) (cs : List ℕ) (c : ℕ) → AllIn comma cs → IsIn comma c → AllIn comma (cs ++ c ∷ [])
in_push comma [] c all h = (h, tt)
in_push comma (d ∷ cs) c all h = (all.0, in_push comma cs c all.1 h)

decimal_in : (comma : Bool) (n : ℕ) → n < 2 ^ 64 → AllIn comma (decimal n)
decimal_in comma = decimal_by_steps (λ n ds. AllIn comma ds) (λ n h. (digit_in comma n h, tt)) (λ n ds h before. in_push comma ds (48 + n % 10) before (digit_in comma (n % 10) (omega arith)))

sign_in : (comma : Bool) → IsIn comma 43 × IsIn comma 45
sign_in true = (record { goes = refl; equals = refl; mark = refl; comment = refl; opening = refl; star = refl }, record { goes = refl; equals = refl; mark = refl; comment = refl; opening = refl; star = refl })
sign_in false = (record { goes = refl; equals = refl; mark = refl; comment = refl; opening = refl; star = refl }, record { goes = refl; equals = refl; mark = refl; comment = refl; opening = refl; star = refl })

pub integer_is_in : (comma plus : Bool) (z : ℤ) → unsigned_abs z < 2 ^ 64 → AllIn comma (integer_shown plus z)
integer_is_in comma true (pos n) h = ((sign_in comma).0, decimal_in comma n h)
integer_is_in comma false (pos n) h = decimal_in comma n h
integer_is_in comma plus (negsuc n) h = ((sign_in comma).1, decimal_in comma (suc n) h)

pub letter_is_in : (comma truth : Bool) → IsIn comma (cond truth 84 70)
letter_is_in true true = record { goes = refl; equals = refl; mark = refl; comment = refl; opening = refl; star = refl }
letter_is_in true false = record { goes = refl; equals = refl; mark = refl; comment = refl; opening = refl; star = refl }
letter_is_in false true = record { goes = refl; equals = refl; mark = refl; comment = refl; opening = refl; star = refl }
letter_is_in false false = record { goes = refl; equals = refl; mark = refl; comment = refl; opening = refl; star = refl }

-- delimited constants
abbrev pub constant_so_far : ℕ → List ℕ → Delimited
constant_so_far mark cs = record { count = 1; mark = mark; characters = cs }

pub same_mark : (m : ℕ) → eqb m m ≡ true
same_mark m = grind (arith, nat_tests)

is_equal : (c d : ℕ) → eqb c d ≡ true → c ≡ d
is_equal c d e = grind (arith, nat_tests)

inside_mark : (comma : Bool) (mark : ℕ) (cs : List ℕ) → stepped comma (Inside (constant_so_far mark cs)) mark ≡ lexed [] (Behind (constant_so_far mark cs))
inside_mark comma mark cs = ap (λ b. lexed [] (cond b (Behind (constant_so_far mark cs)) (Inside (constant_so_far mark (cs ++ mark ∷ []))))) (same_mark mark)

inside_other : (comma : Bool) (mark c : ℕ) (cs : List ℕ) → eqb c mark ≡ false → stepped comma (Inside (constant_so_far mark cs)) c ≡ lexed [] (Inside (constant_so_far mark (cs ++ c ∷ [])))
inside_other comma mark c cs e = ap (λ b. lexed [] (cond b (Behind (constant_so_far mark cs)) (Inside (constant_so_far mark (cs ++ c ∷ []))))) e

behind_mark : (comma : Bool) (mark : ℕ) (cs : List ℕ) → stepped comma (Behind (constant_so_far mark cs)) mark ≡ lexed [] (Inside (constant_so_far mark (cs ++ mark ∷ [])))
behind_mark comma mark cs =
    ap (λ b. cond b (lexed [] (Inside (constant_so_far mark (cs ++ mark ∷ [])))) (cond (ends_constant comma mark) (at_end comma (token.Constant 1 cs ∷ []) mark) (lexed (token.Wrong ∷ []) Done))) (same_mark mark)

constant_runs : (comma : Bool) (mark : ℕ) (cs text : List ℕ) → Runs comma (Inside (constant_so_far mark cs)) (doubled mark text ++ mark ∷ []) [] (Behind (constant_so_far mark (cs ++ text)))
constant_runs comma mark cs [] =
    subst (λ (x : List ℕ). Runs comma (Inside (constant_so_far mark cs)) (mark ∷ []) [] (Behind (constant_so_far mark x))) (sym (append-nil cs))
    (runs_cons comma (Inside (constant_so_far mark cs)) (Behind (constant_so_far mark cs)) (Behind (constant_so_far mark cs)) mark [] [] [] (inside_mark comma mark cs) (runs_none comma (Behind (constant_so_far mark cs))))
constant_runs comma mark cs (c ∷ text) = go (eqb c mark) refl (subst (λ (x : List ℕ). Runs comma (Inside (constant_so_far mark (cs ++ c ∷ []))) (doubled mark text ++ mark ∷ []) [] (Behind (constant_so_far mark x))) (append_assoc cs (c ∷ []) text) (constant_runs comma mark (cs ++ c ∷ []) text)) where
  from : State
  from = Inside (constant_so_far mark cs)

  to : State
  to = Behind (constant_so_far mark (cs ++ (c ∷ text)))

  go : (b : Bool) → eqb c mark ≡ b → Runs comma (Inside (constant_so_far mark (cs ++ c ∷ []))) (doubled mark text ++ mark ∷ []) [] to
      → Runs comma from ((cond b (c ∷ c ∷ []) (c ∷ []) ++ doubled mark text) ++ mark ∷ []) [] to
  go true e on =
      let same = is_equal c mark e in
      subst (λ (x : ℕ). Runs comma from ((x ∷ x ∷ doubled mark text) ++ mark ∷ []) [] to) (sym same)
      (runs_cons comma from (Behind (constant_so_far mark cs)) to mark (mark ∷ (doubled mark text ++ mark ∷ [])) [] [] (inside_mark comma mark cs)
      (runs_cons comma (Behind (constant_so_far mark cs)) (Inside (constant_so_far mark (cs ++ mark ∷ []))) to mark (doubled mark text ++ mark ∷ []) [] [] (behind_mark comma mark cs)
      (subst (λ (x : ℕ). Runs comma (Inside (constant_so_far mark (cs ++ x ∷ []))) (doubled mark text ++ mark ∷ []) [] to) same on)))
  go false e on = runs_cons comma from (Inside (constant_so_far mark (cs ++ c ∷ []))) to c (doubled mark text ++ mark ∷ []) [] [] (inside_other comma mark c cs e) on

-- the mark of DELIM='APOSTROPHE' and 'QUOTE'
abbrev pub mark_number : Delim → ℕ
mark_number Plain = 0
mark_number Apostrophe = 39
mark_number Quote = 34

abbrev pub IsMarked : Delim → Type 0
IsMarked Plain = ⊥
IsMarked Apostrophe = Unit {0}
IsMarked Quote = Unit {0}

pub is_marked : (delim : Delim) (mark : ℕ) → mark_of delim ≡ Some mark → IsMarked delim
is_marked Plain mark e = absurd (cc)
is_marked Apostrophe mark e = tt
is_marked Quote mark e = tt

begin_constant : (comma fresh : Bool) (delim : Delim) → IsMarked delim → stepped comma (Between fresh) (mark_number delim) ≡ lexed [] (Inside (constant_so_far (mark_number delim) []))
begin_constant comma fresh Plain h = absurd h
begin_constant true true Apostrophe h = refl
begin_constant true false Apostrophe h = refl
begin_constant false true Apostrophe h = refl
begin_constant false false Apostrophe h = refl
begin_constant true true Quote h = refl
begin_constant true false Quote h = refl
begin_constant false true Quote h = refl
begin_constant false false Quote h = refl

pub whole_constant : (comma fresh : Bool) (delim : Delim) (text : List ℕ) → IsMarked delim
    → Runs comma (Between fresh) (mark_number delim ∷ (doubled (mark_number delim) text ++ mark_number delim ∷ [])) [] (Behind (constant_so_far (mark_number delim) text))
whole_constant comma fresh delim text h =
    let mark = mark_number delim in
    runs_cons comma (Between fresh) (Inside (constant_so_far mark [])) (Behind (constant_so_far mark text)) mark (doubled mark text ++ mark ∷ []) [] [] (begin_constant comma fresh delim h) (constant_runs comma mark [] text)

-- the token of a value, and the state behind its characters
abbrev pub token_of : EditModes → Value → Token
token_of modes (v.Int z) = token.Word (integer_shown modes.plus z)
token_of modes (v.Log truth) = token.Word (cond truth 84 70 ∷ [])
token_of modes (v.Chars text) = token.Constant 1 text
token_of modes v.Undefined = token.Wrong

abbrev pub state_of : Delim → Token → State
state_of delim (token.Word w) = InWord w
state_of delim (token.Constant n cs) = Behind (record { count = n; mark = mark_number delim; characters = cs })
state_of delim _ = Done
