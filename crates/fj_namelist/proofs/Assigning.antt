-- What assignments one after another are among the tokens of a group: taken in their order, and parsed as they stand.
use Rattle.std.proofs.Common.{◌≡◌, ℕ, zero, suc, ◌+◌, ◌-◌, ◌^◌, ◌<◌, ◌⊎◌, Bool, true, false, ◌||◌, ◌&&◌, not, cond, eqb, ltb, List, [], ◌∷◌, ◌++◌, length, take, drop, Option, Some, None, slice_get, sym, ap, subst, ◌∙◌, refl, inl, inr, arith, append_assoc, append-nil}
use Rattle.std.specs.Prelude.{min, is_some, replicate}
use Rattle.std.proofs.lemmas.Bool.{cases_lt, false≢true}
use Rattle.std.proofs.lemmas.Bool.Decides.{nat_tests}
use Rattle.std.proofs.Math.Seq.{take-append_seam, drop-append_seam}
use Rattle.std.proofs.lemmas.List.{length-append}
use Rattle.std.specs.List.{list_all, position_or_len, prefix_len}
use Rattle.std.specs.Option.{option_map}
use Rattle.fj_value.specs.Digits.{number_in}
use Rattle.fj_value.specs.declared.kind.Kind.{Kind}
use Rattle.fj_value.specs.declared.kind.Kind.TheVariants.{Int4, Int8, Logical, Chars}
use Rattle.fj_value.specs.declared.value.Cell.{Cell}
use Rattle.fj_value.specs.declared.condition.Condition.{Condition}
use Rattle.fj_value.specs.declared.condition.Condition.TheVariants.{Fine, Error}
use Rattle.fj_moved.specs.declared.moved.GroupMember.{GroupMember}
use Rattle.fj_list.specs.declared.constant.Form.{Form}
use Rattle.fj_list.specs.declared.constant.Form.TheVariants.{Null}
use Rattle.fj_list.specs.declared.constant.Read.{Read}
use Rattle.fj_list.specs.declared.constant.Read.TheVariants as read
use Rattle.fj_list.specs.Stream.{Stream, records_behind, is_blank}
use Rattle.fj_list.specs.ListInput.{is_mark}
use Rattle.fj_moved.specs.Cells.{with_value}
use Rattle.fj_list.specs.Grammar as grammar
use Rattle.fj_list.specs.Grammar.{Given, given, separator_of, IsBlank, Item, Finish, at_records_end, at_slash}
use Rattle.fj_list.specs.Understood.{Constant, constants, end_of}
use Rattle.fj_list.proofs.GrammarLaws.{blank_true, blank_or}
use Rattle.fj_list.proofs.StreamLaws.{records_behind-nil}
use Rattle.fj_namelist.specs.declared.token.Token.{Token}
use Rattle.fj_namelist.specs.declared.token.Token.TheVariants as token
use Rattle.fj_namelist.specs.declared.token.State.TheVariants.{Between, InWord, Done}
use Rattle.fj_namelist.specs.declared.place.Elements.{Elements}
use Rattle.fj_namelist.specs.declared.place.GroupPlace.{GroupPlace}
use Rattle.fj_namelist.specs.declared.place.GroupPlace.TheVariants as place
use Rattle.fj_namelist.specs.Names.{Designator, designated, designator, subscripted, with_subscript, subscript_in, closed_number, member_of, same_name, is_opening, ends_at_equals}
use Rattle.fj_namelist.specs.Tokens.{lexed, stepped}
use Rattle.fj_namelist.specs.GroupInput.{Result, ended, elements, element_of, place_of, constant_read, given_to, filled, Name, name_of, name_at, is_equals, begun_at, begun, either_taken, tokens_taken}
use Rattle.fj_namelist.specs.GroupReadAgain.{in_name, IsName}
use Rattle.fj_namelist.specs.Grammar as text
use Rattle.fj_list.specs.Cuts.{characters}
use Rattle.fj_namelist.specs.Grammar.{Gap, Named, Values, Assignment, Assignments, BeginsBlank, IsGroupText}
use Rattle.fj_namelist.specs.Understood.{all_given, assigned_at, all_assigned, AreCounted}
use Rattle.fj_namelist.proofs.Words.{one_more}
use Rattle.fj_namelist.proofs.Ahead.{step, ahead, prepended, Leads, leads_none, leads_on, leads_step}
use Rattle.fj_namelist.proofs.Pieces.{gap_leads, GoesOn, on_step, begun_word, Stays, stays_append, word_ends}
use Rattle.fj_namelist.proofs.Parts.{characters_append, item_token, IsValueToken, value_of}

-- tokens before which a word is no name
pub record Calm (ts : List Token) : Type 0 where
  pub equals : is_equals (slice_get ts 0) ≡ false
  pub quiet : (w : List ℕ) → name_at (token.Word w) (slice_get ts 0) (slice_get ts 1) ≡ None

third_calm : (w u : List ℕ) (third : Option Token) → is_equals third ≡ false → name_at (token.Word w) (Some (token.Word u)) third ≡ None
third_calm w u None h = refl
third_calm w u (Some (token.Word x)) h = refl
third_calm w u (Some (token.Constant n cs)) h = refl
third_calm w u (Some token.Equals) h = absurd (false≢true (sym h))
third_calm w u (Some token.Separator) h = refl
third_calm w u (Some token.Slash) h = refl
third_calm w u (Some token.Wrong) h = refl
third_calm w u (Some (token.Open condition)) h = refl
third_calm w u (Some (token.End condition)) h = refl

value_calm : (t : Token) (ts : List Token) → IsValueToken t → Calm ts → Calm (t ∷ ts)
value_calm (token.Word u) ts is calm = record { equals = refl; quiet = λ w. third_calm w u (slice_get ts 0) calm.equals }
value_calm (token.Constant n cs) ts is calm = record { equals = refl; quiet = λ w. refl }
value_calm _ ts is calm = absurd is

value_quiet : (t : Token) (ts : List Token) → IsValueToken t → Calm ts → name_at t (slice_get ts 0) (slice_get ts 1) ≡ None
value_quiet (token.Word u) ts is calm = calm.quiet u
value_quiet (token.Constant n cs) ts is calm = refl
value_quiet _ ts is calm = absurd is

no_subscript_calm : (d : Option Designator) → name_of 2 (with_subscript d None) ≡ None
no_subscript_calm None = refl
no_subscript_calm (Some d) = go d.subscript where
  go : (o : Option ℕ) → name_of 2 (subscripted d.name o None) ≡ None
  go None = refl
  go (Some n) = refl

-- what follows does the same from each place
abbrev pub Continues : List GroupMember → List Token → (List Cell → Result) → Type 0
Continues members ts next = (p : GroupPlace) (cells : List Cell) → tokens_taken members p 0 ts cells ≡ next cells

-- a constant for elements
given_same : (r : Read) (e : Elements) (i : ℕ) (cells : List Cell) (next next' : List Cell → Result) → ((cells' : List Cell) → next cells' ≡ next' cells') → given_to r e i cells next ≡ given_to r e i cells next'
given_same read.Null e i cells next next' same = same cells
given_same (read.Defined v) e i cells next next' same = same (with_value cells (e.first + i) v)
given_same (read.Wrong condition) e i cells next next' same = refl

filled_given : (e : Elements) (form : Form) (cs : List ℕ) (n i : ℕ) (more : List Constant) (cells : List Cell) (next : ℕ → List Cell → Result) (last : List Cell → Result)
    → ((i' : ℕ) (cells' : List Cell) → next i' cells' ≡ all_given e i' more cells' last) → filled e form cs n i cells next ≡ all_given e i (replicate n (form, cs) ++ more) cells last
filled_given e form cs zero i more cells next last same = same i cells
filled_given e form cs (suc n) i more cells next last same =
    ap (λ (r : Result). cond (ltb i e.count) r (ended cells (Error 23)))
    (given_same (constant_read e.kind form cs) e i cells (λ cells'. filled e form cs n (i + 1) cells' next) (λ cells'. all_given e (i + 1) (replicate n (form, cs) ++ more) cells' last)
    (λ cells'. filled_given e form cs n (i + 1) more cells' next last same))

null_read : (kind : Kind) → constant_read kind Null [] ≡ read.Null
null_read Int4 = refl
null_read Int8 = refl
null_read Logical = refl
null_read (Chars n) = refl

-- assignments among tokens, with the values that stand before the first of them
pub record Parsed : Type 0 where
  pub values : List Given
  pub all : List Assignment

abbrev nothing_parsed : Parsed
nothing_parsed = record { values = []; all = [] }

abbrev with_given : Given → Parsed → Parsed
with_given g r = record { values = g ∷ r.values; all = r.all }

-- the number between parentheses
abbrev number_of_word : List ℕ → Option ℕ
number_of_word [] = None
number_of_word (c ∷ cs) = number_in 10 (take (length cs - 1) cs)

abbrev assigned : List ℕ → Option ℕ → Parsed → Parsed
assigned name n r = record { values = []; all = record { name = name; subscript = n; values = r.values } ∷ r.all }

abbrev assignment_of : ℕ → Token → Option Token → Parsed → Parsed
assignment_of (suc zero) (token.Word w) second r = assigned (take (position_or_len is_opening w) w) (number_of_word (drop (position_or_len is_opening w) w)) r
assignment_of _ (token.Word w) (Some (token.Word u)) r = assigned w (number_of_word u) r
assignment_of _ _ _ r = r

abbrev token_parsed : Bool → Token → (Bool → Parsed) → Parsed
token_parsed true token.Separator next = with_given (given 1 Null []) (next true)
token_parsed false token.Separator next = next true
token_parsed begins (token.Word w) next = with_given (value_of (token.Word w)) (next false)
token_parsed begins (token.Constant n cs) next = with_given (value_of (token.Constant n cs)) (next false)
token_parsed begins _ next = nothing_parsed

abbrev either_parsed : Option Name → Bool → Token → Option Token → (ℕ → Bool → Parsed) → Parsed
either_parsed None begins t second next = token_parsed begins t (λ b. next 0 b)
either_parsed (Some name) begins t second next = assignment_of name.more t second (next name.more true)

abbrev pub parsed : ℕ → Bool → List Token → Parsed
parsed skip begins [] = nothing_parsed
parsed (suc skip) begins (t ∷ ts) = parsed skip begins ts
parsed zero begins (t ∷ ts) = either_parsed (name_at t (slice_get ts 0) (slice_get ts 1)) begins t (slice_get ts 0) (λ more b. parsed more b ts)

-- the tokens are these assignments, whatever stands before them
abbrev pub Parses : List Token → List Assignment → Type 0
Parses ts all = (begins : Bool) → parsed 0 begins ts ≡ record { values = []; all = all }

value_parsed : (t : Token) (begins : Bool) (next : Bool → Parsed) → IsValueToken t → token_parsed begins t next ≡ with_given (value_of t) (next false)
value_parsed (token.Word w) true next is = refl
value_parsed (token.Word w) false next is = refl
value_parsed (token.Constant n cs) true next is = refl
value_parsed (token.Constant n cs) false next is = refl
value_parsed _ begins next is = absurd is

-- how the tokens end
abbrev pub finish_of : List Token → Finish
finish_of [] = at_slash
finish_of (token.Slash ∷ ts) = at_slash
finish_of (token.End condition ∷ ts) = at_records_end
finish_of (_ ∷ ts) = finish_of ts

value_goes_on : (t : Token) (ts : List Token) → IsValueToken t → finish_of (t ∷ ts) ≡ finish_of ts
value_goes_on (token.Word w) ts is = refl
value_goes_on (token.Constant n cs) ts is = refl
value_goes_on _ ts is = absurd is

-- the values of an assignment
record Reads (comma fresh begins : Bool) (s : Stream) (gs : List Given) (fresh' : Bool) (t : Stream) : Type 0 where
  tokens : List Token
  leads : Leads comma (Between fresh) s tokens (Between fresh') t
  calm : (ts : List Token) → Calm ts → Calm (tokens ++ ts)
  takes : (members : List GroupMember) (ts : List Token) (next : List Cell → Result) → Calm ts → Continues members ts next → (e : Elements) (i : ℕ) (cells : List Cell)
      → tokens_taken members (place.At e i begins) 0 (tokens ++ ts) cells ≡ all_given e i (constants gs) cells next
  parses : (ts : List Token) (all : List Assignment) → Calm ts → Parses ts all → parsed 0 begins (tokens ++ ts) ≡ record { values = gs; all = all }
  finishes : (ts : List Token) → finish_of (tokens ++ ts) ≡ finish_of ts

separator_step : (comma fresh : Bool) (c : ℕ) → c ≡ separator_of comma → step comma (Between fresh) (Some c) ≡ lexed (token.Separator ∷ []) (Between true)
separator_step true fresh c is = ap (λ d. step true (Between fresh) (Some d)) is
separator_step false fresh c is = ap (λ d. step false (Between fresh) (Some d)) is

-- a gap and a separator
parted_leads : (comma fresh : Bool) (c : ℕ) (s t : Stream) → c ≡ separator_of comma → Gap fresh s (Some c ∷ t) → Leads comma (Between fresh) s (token.Separator ∷ []) (Between true) t
parted_leads comma fresh c s t is gap =
    let on = gap_leads comma fresh s (Some c ∷ t) gap in
    leads_on comma (Between fresh) (Between on.0) (Between true) s (Some c ∷ t) t [] (token.Separator ∷ []) on.1
    (leads_step comma (Between on.0) (Between true) (Some c) t (token.Separator ∷ []) refl (separator_step comma on.0 c is))

separator_calm : (ts : List Token) → Calm (token.Separator ∷ ts)
separator_calm ts = record { equals = refl; quiet = λ w. refl }

values_read : (comma fresh begins fresh' : Bool) (s : Stream) (gs : List Given) (w : Stream) → Values comma fresh begins s gs fresh' w → Reads comma fresh begins s gs fresh' w
values_read comma fresh begins _ s _ _ text.no_more = record {
  tokens = [];
  leads = leads_none comma (Between fresh) s;
  calm = λ ts calm. calm;
  takes = λ members ts next calm on e i cells. on (place.At e i begins) cells;
  parses = λ ts all calm h. h begins;
  finishes = λ ts. refl;
}
values_read comma fresh begins fresh' s _ w (text.value {t} {u} {g} {gs} gap item among some more) =
    let on = gap_leads comma fresh s t gap in
    let tok = item_token comma on.0 false g t u item among some in
    let rest = values_read comma false false fresh' u gs w more in
    record {
      tokens = tok.0 ∷ rest.tokens;
      leads = leads_on comma (Between fresh) (Between on.0) (Between fresh') s t w [] (tok.0 ∷ rest.tokens) on.1
          (leads_on comma (Between on.0) (Between false) (Between fresh') t u w (tok.0 ∷ []) rest.tokens tok.1.0.leads rest.leads);
      calm = λ ts calm. value_calm tok.0 (rest.tokens ++ ts) tok.1.1 (rest.calm ts calm);
      takes = λ members ts next calm follows e i cells.
          let others = rest.tokens ++ ts in
          ap (λ (o : Option Name). either_taken (begun_at members o) tok.0 (place.At e i begins) cells (λ p more' cells'. tokens_taken members p more' others cells')) (value_quiet tok.0 others tok.1.1 (rest.calm ts calm))
          ∙ tok.1.0.gives e i begins cells (λ p cells'. tokens_taken members p 0 others cells')
          ∙ filled_given e g.form g.characters g.count i (constants gs) cells (λ i' cells'. tokens_taken members (place.At e i' false) 0 others cells') next
          (λ i' cells'. rest.takes members ts next calm follows e i' cells');
      parses = λ ts all calm h.
          let others = rest.tokens ++ ts in
          let second = slice_get others 0 in
          ap (λ (o : Option Name). either_parsed o begins tok.0 second (λ more' b. parsed more' b others)) (value_quiet tok.0 others tok.1.1 (rest.calm ts calm))
          ∙ value_parsed tok.0 begins (λ b. parsed 0 b others) tok.1.1
          ∙ ap (λ (x : Given). with_given x (parsed 0 false others)) tok.1.0.is
          ∙ ap (with_given g) (rest.parses ts all calm h);
      finishes = λ ts. value_goes_on tok.0 (rest.tokens ++ ts) tok.1.1 ∙ rest.finishes ts;
    }
values_read comma fresh _ fresh' s gs w (text.separator {t} c is gap more) =
    let rest = values_read comma true true fresh' t gs w more in
    record {
      tokens = token.Separator ∷ rest.tokens;
      leads = leads_on comma (Between fresh) (Between true) (Between fresh') s t w (token.Separator ∷ []) rest.tokens (parted_leads comma fresh c s t is gap) rest.leads;
      calm = λ ts calm. separator_calm (rest.tokens ++ ts);
      takes = λ members ts next calm follows e i cells. rest.takes members ts next calm follows e i cells;
      parses = λ ts all calm h. rest.parses ts all calm h;
      finishes = λ ts. rest.finishes ts;
    }
values_read comma fresh _ fresh' s _ w (text.null_value {t} {gs} c is gap more) =
    let rest = values_read comma true true fresh' t gs w more in
    record {
      tokens = token.Separator ∷ rest.tokens;
      leads = leads_on comma (Between fresh) (Between true) (Between fresh') s t w (token.Separator ∷ []) rest.tokens (parted_leads comma fresh c s t is gap) rest.leads;
      calm = λ ts calm. separator_calm (rest.tokens ++ ts);
      takes = λ members ts next calm follows e i cells.
          ap (λ (r : Result). cond (ltb i e.count) r (ended cells (Error 23)))
          (rest.takes members ts next calm follows e (i + 1) cells
          ∙ sym (ap (λ (r : Read). given_to r e i cells (λ cells'. all_given e (i + 1) (constants gs) cells' next)) (null_read e.kind)));
      parses = λ ts all calm h. ap (with_given (given 1 Null [])) (rest.parses ts all calm h);
      finishes = λ ts. rest.finishes ts;
    }

-- an assignment begins
abbrev opened : Option GroupPlace → List Cell → (GroupPlace → Result) → Result
opened None cells next = ended cells (Error 23)
opened (Some p) cells next = next p

record Opens (comma fresh : Bool) (name : List ℕ) (n : Option ℕ) (s t : Stream) : Type 0 where
  tokens : List Token
  leads : Leads comma (Between fresh) s tokens (Between false) t
  calm : (ts : List Token) → Calm (tokens ++ ts)
  takes : (members : List GroupMember) (p : GroupPlace) (ts : List Token) (cells : List Cell) → AreCounted members
      → tokens_taken members p 0 (tokens ++ ts) cells ≡ opened (place_of (member_of members name) n) cells (λ p'. tokens_taken members p' 0 ts cells)
  parses : (ts : List Token) (begins : Bool) → parsed 0 begins (tokens ++ ts) ≡ assigned name n (parsed 0 true ts)
  finishes : (ts : List Token) → finish_of (tokens ++ ts) ≡ finish_of ts

-- letters, digits and underscores
pub record IsNameCharacter (comma : Bool) (c : ℕ) : Type 0 where
  pub goes : GoesOn comma c
  pub mark : is_mark c ≡ false
  pub comment : eqb c 33 ≡ false
  pub opening : is_opening c ≡ false
  pub blank : is_blank c ≡ false

pub name_character : (comma : Bool) (c : ℕ) → in_name c ≡ true → IsNameCharacter comma c
name_character true c e = record { goes = record { goes = grind (arith, nat_tests); equals = grind (arith, nat_tests) }; mark = grind (arith, nat_tests); comment = grind (arith, nat_tests); opening = grind (arith, nat_tests); blank = grind (arith, nat_tests) }
name_character false c e = record { goes = record { goes = grind (arith, nat_tests); equals = grind (arith, nat_tests) }; mark = grind (arith, nat_tests); comment = grind (arith, nat_tests); opening = grind (arith, nat_tests); blank = grind (arith, nat_tests) }

pub all_both : (c : ℕ) (cs : List ℕ) → list_all in_name (c ∷ cs) ≡ true → (in_name c ≡ true) × (list_all in_name cs ≡ true)
all_both c cs e = Rattle.fj_list.proofs.GrammarLaws.digit_first (in_name c) (list_all in_name cs) e

stays_name : (comma : Bool) (w cs : List ℕ) → list_all in_name cs ≡ true → Stays comma w cs
stays_name comma w [] e = tt
stays_name comma w (c ∷ cs) e =
    let p = all_both c cs e in
    let h = name_character comma c p.0 in
    (on_step comma w c h.goes (inl h.mark), stays_name comma (w ++ c ∷ []) cs p.1)

-- designators
name_width : (cs rest : List ℕ) → list_all in_name cs ≡ true → position_or_len is_opening (cs ++ 40 ∷ rest) ≡ length cs
name_width [] rest e = refl
name_width (c ∷ cs) rest e =
    let p = all_both c cs e in
    let n = prefix_len (λ x. not (is_opening x)) (cs ++ 40 ∷ rest) in
    ap (λ b. cond (not b) (1 + n) 0) (name_character true c p.0).opening ∙ one_more n ∙ ap suc (name_width cs rest p.1)

name_whole : (cs : List ℕ) → list_all in_name cs ≡ true → position_or_len is_opening cs ≡ length cs
name_whole [] e = refl
name_whole (c ∷ cs) e =
    let p = all_both c cs e in
    let n = prefix_len (λ x. not (is_opening x)) cs in
    ap (λ b. cond (not b) (1 + n) 0) (name_character true c p.0).opening ∙ one_more n ∙ ap suc (name_whole cs p.1)

all_taken : (w : List ℕ) → take (length w) w ≡ w
all_taken w = ap (take (length w)) (sym (append-nil w)) ∙ take-append_seam w []

none_left : (w : List ℕ) → drop (length w) w ≡ []
none_left w = ap (drop (length w)) (sym (append-nil w)) ∙ drop-append_seam w []

plain_designator : (c : ℕ) (cs : List ℕ) → list_all in_name (c ∷ cs) ≡ true → designator (c ∷ cs) ≡ Some (record { name = c ∷ cs; subscript = None })
plain_designator c cs e =
    let w = c ∷ cs in
    ap (λ k. designated (take k w) (drop k w)) (name_whole w e) ∙ ap (λ (x : List ℕ). designated x (drop (length w) w)) (all_taken w) ∙ ap (λ (x : List ℕ). designated w x) (none_left w)

-- the greatest subscript
abbrev bounded : ℕ → ℕ
bounded n = min n (2 ^ 64 - 1)

last_of : (ds : List ℕ) → slice_get (ds ++ 41 ∷ []) (length (ds ++ 41 ∷ []) - 1) ≡ Some 41
last_of ds = ap (λ k. slice_get (ds ++ 41 ∷ []) k) (width ds) ∙ there ds where
  width : (ds : List ℕ) → length (ds ++ 41 ∷ []) - 1 ≡ length ds
  width ds = omega (arith, length-append ds (41 ∷ []))

  there : (ds : List ℕ) → slice_get (ds ++ 41 ∷ []) (length ds) ≡ Some 41
  there [] = refl
  there (d ∷ ds) = there ds

in_parentheses : (ds : List ℕ) (n : ℕ) → number_in 10 ds ≡ Some n → subscript_in (40 ∷ (ds ++ 41 ∷ [])) ≡ Some (bounded n)
in_parentheses ds n e =
    let cs = ds ++ 41 ∷ [] in
    let width : length cs - 1 ≡ length ds = omega (arith, length-append ds (41 ∷ [])) in
    ap (closed_number cs) (last_of ds)
    ∙ ap (λ k. option_map bounded (number_in 10 (take k cs))) width
    ∙ ap (λ (xs : List ℕ). option_map bounded (number_in 10 xs)) (take-append_seam ds (41 ∷ []))
    ∙ ap (λ (o : Option ℕ). option_map bounded o) e

number_between : (ds : List ℕ) (n : ℕ) → number_in 10 ds ≡ Some n → number_of_word (40 ∷ (ds ++ 41 ∷ [])) ≡ Some n
number_between ds n e =
    let cs = ds ++ 41 ∷ [] in
    let width : length cs - 1 ≡ length ds = omega (arith, length-append ds (41 ∷ [])) in
    ap (λ k. number_in 10 (take k cs)) width ∙ ap (λ (xs : List ℕ). number_in 10 xs) (take-append_seam ds (41 ∷ [])) ∙ e

element_designator : (c : ℕ) (cs ds : List ℕ) (n : ℕ) → list_all in_name (c ∷ cs) ≡ true → number_in 10 ds ≡ Some n
    → designator ((c ∷ cs) ++ 40 ∷ (ds ++ 41 ∷ [])) ≡ Some (record { name = c ∷ cs; subscript = Some (bounded n) })
element_designator c cs ds n e number =
    let name = c ∷ cs in
    let rest = 40 ∷ (ds ++ 41 ∷ []) in
    let w = name ++ rest in
    ap (λ k. designated (take k w) (drop k w)) (name_width name (ds ++ 41 ∷ []) e)
    ∙ ap (λ (x : List ℕ). designated x (drop (length name) w)) (take-append_seam name rest)
    ∙ ap (λ (x : List ℕ). designated name x) (drop-append_seam name rest)
    ∙ ap (λ (o : Option ℕ). option_map (λ (k : ℕ). record { name = name; subscript = Some k }) o) (in_parentheses ds n number)

-- a greater subscript than each member can count
element_bounded : (m : GroupMember) (n greatest : ℕ) → m.count < greatest → element_of m (Some (min n greatest)) ≡ element_of m (Some n)
element_bounded m n greatest h = elim (cases_lt greatest n) [
  | inl past ↦
      let least : min n greatest ≡ greatest = omega arith in
      let beyond : ltb m.count greatest ≡ true = grind (arith, nat_tests) in
      let beyond' : ltb m.count n ≡ true = grind (arith, nat_tests) in
      ap (λ k. element_of m (Some k)) least ∙ none greatest beyond ∙ sym (none n beyond')
  | inr within ↦
      let least : min n greatest ≡ n = omega arith in
      ap (λ k. element_of m (Some k)) least
] where
  none : (k : ℕ) → ltb m.count k ≡ true → element_of m (Some k) ≡ None
  none k e = ap (λ b. cond (m.scalar || (eqb k 0 || b)) None (Some (place.At (elements m) (k - 1) true))) e ∙ go m.scalar (eqb k 0) where
    go : (a b : Bool) → cond (a || (b || true)) None (Some (place.At (elements m) (k - 1) true)) ≡ None
    go true b = refl
    go false true = refl
    go false false = refl

found_counted : (members : List GroupMember) (name : List ℕ) (m : GroupMember) → AreCounted members → member_of members name ≡ Some m → m.count < 2 ^ 32
found_counted [] name m counted e = absurd (cc)
found_counted (x ∷ members) name m counted e = go (same_name x.name name) e (λ e'. found_counted members name m counted.1 e') where
  go : (b : Bool) → cond b (Some x) (member_of members name) ≡ Some m → (member_of members name ≡ Some m → m.count < 2 ^ 32) → m.count < 2 ^ 32
  go true is more = let same : x ≡ m = cc in subst (λ (y : GroupMember). y.count < 2 ^ 32) same counted.0
  go false is more = more is

place_bounded : (members : List GroupMember) (name : List ℕ) (n : ℕ) → AreCounted members → place_of (member_of members name) (Some (bounded n)) ≡ place_of (member_of members name) (Some n)
place_bounded members name n counted = go (member_of members name) refl where
  go : (o : Option GroupMember) → member_of members name ≡ o → place_of o (Some (bounded n)) ≡ place_of o (Some n)
  go None e = refl
  go (Some m) e =
      let low = found_counted members name m counted e in
      let high : m.count < 2 ^ 64 - 1 = omega arith in
      element_bounded m n (2 ^ 64 - 1) high

-- `=` behind a name
equals_between : (comma fresh : Bool) → step comma (Between fresh) (Some 61) ≡ lexed (token.Equals ∷ []) (Between false)
equals_between true fresh = refl
equals_between false fresh = refl

equals_word : (comma : Bool) (w : List ℕ) → ends_at_equals w ≡ true → stepped comma (InWord w) 61 ≡ lexed (token.Word w ∷ token.Equals ∷ []) (Between false)
equals_word true w e = ap (λ b. cond (true && b) (lexed (token.Word w ∷ token.Equals ∷ []) (Between false)) (lexed [] (InWord (w ++ 61 ∷ [])))) e
equals_word false w e = ap (λ b. cond (true && b) (lexed (token.Word w ∷ token.Equals ∷ []) (Between false)) (lexed [] (InWord (w ++ 61 ∷ [])))) e

-- a word and what comes behind a gap
gap_or : (fresh : Bool) (s t : Stream) → Gap fresh s t → fresh ≡ false → (s ≡ t) ⊎ ((x : Option ℕ) × ((u : Stream) × ((s ≡ x ∷ u) × IsBlank x)))
gap_or fresh s _ text.nothing e = inl refl
gap_or fresh _ t (text.blank {s} x is more) e = inr (x, (s, (refl, is)))
gap_or _ _ t (text.comment c is comment more) e = absurd (false≢true (sym e))

blank_ends : (comma : Bool) (x : Option ℕ) (s : Stream) → IsBlank x → grammar.Ends comma (x ∷ s)
blank_ends comma None s is = tt
blank_ends comma (Some c) s is = inl (inl is)

-- behind a word: `=` directly, or behind a gap
word_equals : (comma : Bool) (w : List ℕ) (s t : Stream) → ends_at_equals w ≡ true → Gap false s (Some 61 ∷ t) → Leads comma (InWord w) s (token.Word w ∷ token.Equals ∷ []) (Between false) t
word_equals comma w s t e gap = go (gap_or false s (Some 61 ∷ t) gap refl) where
  go : (s ≡ Some 61 ∷ t) ⊎ ((x : Option ℕ) × ((u : Stream) × ((s ≡ x ∷ u) × IsBlank x))) → Leads comma (InWord w) s (token.Word w ∷ token.Equals ∷ []) (Between false) t
  go (inl is) = subst (λ (v : Stream). Leads comma (InWord w) v (token.Word w ∷ token.Equals ∷ []) (Between false) t) (sym is)
      (leads_step comma (InWord w) (Between false) (Some 61) t (token.Word w ∷ token.Equals ∷ []) refl (equals_word comma w e))
  go (inr found) =
      let x = found.0 in
      let u = found.1.0 in
      let is = found.1.1.0 in
      let ended_word = word_ends comma false w (x ∷ u) (blank_ends comma x u found.1.1.1) tt in
      let on = gap_leads comma false s (Some 61 ∷ t) gap in
      leads_on comma (InWord w) (Between false) (Between false) s s t (token.Word w ∷ []) (token.Equals ∷ [])
      (subst (λ (v : Stream). Leads comma (InWord w) v (token.Word w ∷ []) (Between false) v) (sym is) ended_word)
      (leads_on comma (Between false) (Between on.0) (Between false) s (Some 61 ∷ t) t [] (token.Equals ∷ []) on.1
      (leads_step comma (Between on.0) (Between false) (Some 61) t (token.Equals ∷ []) refl (equals_between comma on.0)))

name_leads : (comma fresh : Bool) (c : ℕ) (cs : List ℕ) (s : Stream) → list_all in_name (c ∷ cs) ≡ true → Leads comma (Between fresh) (characters (c ∷ cs) ++ s) [] (InWord (c ∷ cs)) s
name_leads comma fresh c cs s e =
    let p = all_both c cs e in
    let h = name_character comma c p.0 in
    begun_word comma fresh c cs s h.goes h.mark h.comment (stays_name comma (c ∷ []) cs p.1)

name_subscript : (c : ℕ) (cs rest : List ℕ) → in_name c ≡ true → subscript_in ((c ∷ cs) ++ rest) ≡ None
name_subscript c cs rest e = ap (λ b. cond b (closed_number (cs ++ rest) (slice_get (cs ++ rest) (length (cs ++ rest) - 1))) None) (name_character true c e).opening

name_calm : (c : ℕ) (cs rest : List ℕ) (ts : List Token) → in_name c ≡ true → Calm (token.Word ((c ∷ cs) ++ rest) ∷ token.Equals ∷ ts)
name_calm c cs rest ts e = record {
  equals = refl;
  quiet = λ w. ap (λ (o : Option ℕ). name_of 2 (with_subscript (designator w) o)) (name_subscript c cs rest e) ∙ no_subscript_calm (designator w);
}

whole_opens : (comma fresh : Bool) (name : List ℕ) (s t : Stream) → IsName name → Gap false s (Some 61 ∷ t) → Opens comma fresh name None (characters name ++ s) t
whole_opens comma fresh [] s t is gap = absurd (let some = is.some in omega arith)
whole_opens comma fresh (c ∷ cs) s t is gap =
    let w = c ∷ cs in
    let designates = plain_designator c cs is.all in
    let ends : ends_at_equals w ≡ true = ap (λ (d : Option Designator). is_some d || is_some (subscript_in w)) designates in
    let first = (all_both c cs is.all).0 in
    record {
      tokens = token.Word w ∷ token.Equals ∷ [];
      leads = leads_on comma (Between fresh) (InWord w) (Between false) (characters w ++ s) s t [] (token.Word w ∷ token.Equals ∷ []) (name_leads comma fresh c cs s is.all) (word_equals comma w s t ends gap);
      calm = λ ts. subst (λ (x : List ℕ). Calm (token.Word x ∷ token.Equals ∷ ts)) (append-nil w) (name_calm c cs [] ts first);
      takes = λ members p ts cells counted.
          ap (λ (d : Option Designator). either_taken (begun_at members (name_of 1 d)) (token.Word w) p cells (λ p' more cells'. tokens_taken members p' more (token.Equals ∷ ts) cells')) designates
          ∙ by members ts cells (place_of (member_of members w) None);
      parses = λ ts begins.
          let r = parsed 0 true ts in
          let word_parsed : Option Name → Parsed = λ o. either_parsed o begins (token.Word w) (Some token.Equals) (λ more b. parsed more b (token.Equals ∷ ts)) in
          ap (λ (d : Option Designator). word_parsed (name_of 1 d)) designates
          ∙ ap (λ k. assigned (take k w) (number_of_word (drop k w)) r) (name_whole w is.all)
          ∙ ap (λ (x : List ℕ). assigned x (number_of_word (drop (length w) w)) r) (all_taken w)
          ∙ ap (λ (x : List ℕ). assigned w (number_of_word x) r) (none_left w);
      finishes = λ ts. refl;
    } where
      by : (members : List GroupMember) (ts : List Token) (cells : List Cell) (o : Option GroupPlace)
          → begun (record { place = o; more = 1 }) cells o (λ p' more cells'. tokens_taken members p' more (token.Equals ∷ ts) cells') ≡ opened o cells (λ p'. tokens_taken members p' 0 ts cells)
      by members ts cells None = refl
      by members ts cells (Some p) = refl

-- a subscript directly behind its name, or behind a gap
begun_two : (members : List GroupMember) (ts : List Token) (cells : List Cell) (u : Token) (o : Option GroupPlace)
    → begun (record { place = o; more = 2 }) cells o (λ p' more cells'. tokens_taken members p' more (u ∷ token.Equals ∷ ts) cells') ≡ opened o cells (λ p'. tokens_taken members p' 0 ts cells)
begun_two members ts cells u None = refl
begun_two members ts cells u (Some p) = refl

begun_one : (members : List GroupMember) (ts : List Token) (cells : List Cell) (o : Option GroupPlace)
    → begun (record { place = o; more = 1 }) cells o (λ p' more cells'. tokens_taken members p' more (token.Equals ∷ ts) cells') ≡ opened o cells (λ p'. tokens_taken members p' 0 ts cells)
begun_one members ts cells None = refl
begun_one members ts cells (Some p) = refl

parenthesis_goes : (comma : Bool) → GoesOn comma 40 × GoesOn comma 41
parenthesis_goes true = (record { goes = refl; equals = refl }, record { goes = refl; equals = refl })
parenthesis_goes false = (record { goes = refl; equals = refl }, record { goes = refl; equals = refl })

stays_subscript : (comma : Bool) (w ds : List ℕ) (n : ℕ) → number_in 10 ds ≡ Some n → Stays comma w (40 ∷ (ds ++ 41 ∷ []))
stays_subscript comma w ds n number =
    let digits = Rattle.fj_list.proofs.GrammarLaws.all_digits ds n number in
    let p = parenthesis_goes comma in (
      on_step comma w 40 p.0 (inl refl),
      stays_append comma (w ++ 40 ∷ []) ds (41 ∷ []) (Rattle.fj_namelist.proofs.Parts.stays_digits comma (w ++ 40 ∷ []) ds digits) (on_step comma ((w ++ 40 ∷ []) ++ ds) 41 p.1 (inl refl), tt),
    )

element_opens : (comma fresh : Bool) (name ds : List ℕ) (n : ℕ) (s t u : Stream) → IsName name → number_in 10 ds ≡ Some n → Gap false s (characters (40 ∷ (ds ++ 41 ∷ [])) ++ t) → Gap false t (Some 61 ∷ u)
    → Opens comma fresh name (Some n) (characters name ++ s) u
element_opens comma fresh [] ds n s t u is number gap gap' = absurd (let some = is.some in omega arith)
element_opens comma fresh (c ∷ cs) ds n s t u is number gap gap' = go (gap_or false s (characters (40 ∷ (ds ++ 41 ∷ [])) ++ t) gap refl) where
  subscript : List ℕ
  subscript = 40 ∷ (ds ++ 41 ∷ [])

  go : (s ≡ characters (40 ∷ (ds ++ 41 ∷ [])) ++ t) ⊎ ((x : Option ℕ) × ((v : Stream) × ((s ≡ x ∷ v) × IsBlank x))) → Opens comma fresh (c ∷ cs) (Some n) (characters (c ∷ cs) ++ s) u
  go (inl same) =
      let name = c ∷ cs in
      let sub = 40 ∷ (ds ++ 41 ∷ []) in
      let w = name ++ sub in
      let p = all_both c cs is.all in
      let h = name_character comma c p.0 in
      let designates = element_designator c cs ds n is.all number in
      let ends : ends_at_equals w ≡ true = ap (λ (d : Option Designator). is_some d || is_some (subscript_in w)) designates in
      let whole : characters name ++ s ≡ characters w ++ t = ap (λ (x : Stream). characters name ++ x) same ∙ sym (characters_append name sub t) in
      let word = begun_word comma fresh c (cs ++ sub) t h.goes h.mark h.comment (stays_append comma (c ∷ []) cs sub (stays_name comma (c ∷ []) cs p.1) (stays_subscript comma ((c ∷ []) ++ cs) ds n number)) in
      let all = leads_on comma (Between fresh) (InWord w) (Between false) (characters w ++ t) t u [] (token.Word w ∷ token.Equals ∷ []) word (word_equals comma w t u ends gap') in
      record {
        tokens = token.Word w ∷ token.Equals ∷ [];
        leads = subst (λ (x : Stream). Leads comma (Between fresh) x (token.Word w ∷ token.Equals ∷ []) (Between false) u) (sym whole) all;
        calm = λ ts. name_calm c cs sub ts p.0;
        takes = λ members q ts cells counted.
            ap (λ (d : Option Designator). either_taken (begun_at members (name_of 1 d)) (token.Word w) q cells (λ p' more cells'. tokens_taken members p' more (token.Equals ∷ ts) cells')) designates
            ∙ begun_one members ts cells (place_of (member_of members name) (Some (bounded n)))
            ∙ ap (λ (o : Option GroupPlace). opened o cells (λ p'. tokens_taken members p' 0 ts cells)) (place_bounded members name n counted);
        parses = λ ts begins.
            let r = parsed 0 true ts in
            let word_parsed : Option Name → Parsed = λ o. either_parsed o begins (token.Word w) (Some token.Equals) (λ more b. parsed more b (token.Equals ∷ ts)) in
            ap (λ (d : Option Designator). word_parsed (name_of 1 d)) designates
            ∙ ap (λ k. assigned (take k w) (number_of_word (drop k w)) r) (name_width name (ds ++ 41 ∷ []) is.all)
            ∙ ap (λ (x : List ℕ). assigned x (number_of_word (drop (length name) w)) r) (take-append_seam name sub)
            ∙ ap (λ (x : List ℕ). assigned name (number_of_word x) r) (drop-append_seam name sub)
            ∙ ap (λ (o : Option ℕ). assigned name o r) (number_between ds n number);
        finishes = λ ts. refl;
      }
  go (inr found) =
      let name = c ∷ cs in
      let sub = 40 ∷ (ds ++ 41 ∷ []) in
      let x = found.0 in
      let v = found.1.0 in
      let same = found.1.1.0 in
      let p = all_both c cs is.all in
      let designates = plain_designator c cs is.all in
      let inside = in_parentheses ds n number in
      let on = gap_leads comma false s (characters sub ++ t) gap in
      let ends : ends_at_equals sub ≡ true = or_some (designator sub) (subscript_in sub) (bounded n) inside in
      let ended_word = subst (λ (y : Stream). Leads comma (InWord name) y (token.Word name ∷ []) (Between false) y) (sym same) (word_ends comma false name (x ∷ v) (blank_ends comma x v found.1.1.1) tt) in
      let q = parenthesis_goes comma in
      let sub_word = begun_word comma on.0 40 (ds ++ 41 ∷ []) t q.0 refl refl (stays_subscript comma [] ds n number).1 in
      let later = leads_on comma (Between on.0) (InWord sub) (Between false) (characters sub ++ t) t u [] (token.Word sub ∷ token.Equals ∷ []) sub_word (word_equals comma sub t u ends gap') in
      let middle = leads_on comma (Between false) (Between on.0) (Between false) s (characters sub ++ t) u [] (token.Word sub ∷ token.Equals ∷ []) on.1 later in
      record {
        tokens = token.Word name ∷ token.Word sub ∷ token.Equals ∷ [];
        leads = leads_on comma (Between fresh) (InWord name) (Between false) (characters name ++ s) s u [] (token.Word name ∷ token.Word sub ∷ token.Equals ∷ []) (name_leads comma fresh c cs s is.all)
            (leads_on comma (InWord name) (Between false) (Between false) s s u (token.Word name ∷ []) (token.Word sub ∷ token.Equals ∷ []) ended_word middle);
        calm = λ ts. record { equals = refl; quiet = λ w. refl };
        takes = λ members r ts cells counted.
            let place_there = place_of (member_of members name) (Some (bounded n)) in
            ap (λ (d : Option Designator). either_taken (begun_at members (name_of 2 (with_subscript d (subscript_in sub)))) (token.Word name) r cells (λ p' more cells'. tokens_taken members p' more (token.Word sub ∷ token.Equals ∷ ts) cells')) designates
            ∙ ap (λ (o : Option ℕ). either_taken (begun_at members (name_of 2 (subscripted name None o))) (token.Word name) r cells (λ p' more cells'. tokens_taken members p' more (token.Word sub ∷ token.Equals ∷ ts) cells')) inside
            ∙ begun_two members ts cells (token.Word sub) place_there
            ∙ ap (λ (o : Option GroupPlace). opened o cells (λ p'. tokens_taken members p' 0 ts cells)) (place_bounded members name n counted);
        parses = λ ts begins.
            let r = parsed 0 true ts in
            let word_parsed : Option Name → Parsed = λ o. either_parsed o begins (token.Word name) (Some (token.Word sub)) (λ more b. parsed more b (token.Word sub ∷ token.Equals ∷ ts)) in
            ap (λ (d : Option Designator). word_parsed (name_of 2 (with_subscript d (subscript_in sub)))) designates
            ∙ ap (λ (o : Option ℕ). word_parsed (name_of 2 (subscripted name None o))) inside
            ∙ ap (λ (o : Option ℕ). assigned name o r) (number_between ds n number);
        finishes = λ ts. refl;
      } where
        or_some : (d : Option Designator) (o : Option ℕ) (k : ℕ) → o ≡ Some k → (is_some d || is_some o) ≡ true
        or_some None o k e = ap is_some e
        or_some (Some d) o k e = refl

named_opens : (comma fresh : Bool) (name : List ℕ) (n : Option ℕ) (s t : Stream) → Named name n s t → Opens comma fresh name n s t
named_opens comma fresh _ _ _ t (text.whole {s} name is gap) = whole_opens comma fresh name s t is gap
named_opens comma fresh _ _ _ u (text.element {s} {t} name ds n is number gap gap') = element_opens comma fresh name ds n s t u is number gap gap'

-- where the values of an assignment go
opened_given : (o : Option GroupMember) (n : Option ℕ) (cs : List Constant) (cells : List Cell) (next : GroupPlace → Result) (last : List Cell → Result)
    → ((e : Elements) (i : ℕ) → next (place.At e i true) ≡ all_given e i cs cells last) → opened (place_of o n) cells next ≡ assigned_at (place_of o n) cs cells last
opened_given None n cs cells next last same = refl
opened_given (Some m) None cs cells next last same = same (elements m) 0
opened_given (Some m) (Some k) cs cells next last same = go (m.scalar || (eqb k 0 || ltb m.count k)) where
  go : (b : Bool) → opened (cond b None (Some (place.At (elements m) (k - 1) true))) cells next ≡ assigned_at (cond b None (Some (place.At (elements m) (k - 1) true))) cs cells last
  go true = refl
  go false = same (elements m) (k - 1)

-- assignments one after another
pub record Means (comma fresh : Bool) (s : Stream) (all : List Assignment) (f : Finish) (t : Stream) : Type 0 where
  pub tokens : Condition → List Token
  pub is_ahead : (e : Condition) → ahead comma e (Between fresh) s ≡ record { tokens = tokens e; left = records_behind t }
  pub calm : (e : Condition) → Calm (tokens e)
  pub takes : (members : List GroupMember) (e : Condition) → AreCounted members → Continues members (tokens e) (λ cells. all_assigned members (end_of f e) all cells)
  pub parses : (e : Condition) → Parses (tokens e) all
  pub finishes : (e : Condition) → finish_of (tokens e) ≡ f

slash_step : (comma fresh : Bool) → step comma (Between fresh) (Some 47) ≡ lexed (token.Slash ∷ []) Done
slash_step true fresh = refl
slash_step false fresh = refl

done_ahead : (comma : Bool) (e : Condition) (t : Stream) → ahead comma e Done t ≡ record { tokens = []; left = records_behind t }
done_ahead comma e [] = refl
done_ahead comma e (x ∷ t) = refl

pub assignments_mean : (comma fresh : Bool) (s : Stream) (all : List Assignment) (f : Finish) (t : Stream) → Assignments comma fresh s all f t → Means comma fresh s all f t
assignments_mean comma fresh s _ _ t (text.slash gap) =
    let on = gap_leads comma fresh s (Some 47 ∷ t) gap in
    let last = leads_on comma (Between fresh) (Between on.0) Done s (Some 47 ∷ t) t [] (token.Slash ∷ []) on.1 (leads_step comma (Between on.0) Done (Some 47) t (token.Slash ∷ []) refl (slash_step comma on.0)) in
    record {
      tokens = λ e. token.Slash ∷ [];
      is_ahead = λ e. last.lead e ∙ ap (prepended (token.Slash ∷ [])) (done_ahead comma e t);
      calm = λ e. record { equals = refl; quiet = λ w. refl };
      takes = λ members e counted p cells. slash_taken members p cells;
      parses = λ e begins. slash_parsed begins;
      finishes = λ e. refl;
    } where
      slash_parsed : (begins : Bool) → parsed 0 begins (token.Slash ∷ []) ≡ nothing_parsed
      slash_parsed true = refl
      slash_parsed false = refl

      slash_taken : (members : List GroupMember) (p : GroupPlace) (cells : List Cell) → tokens_taken members p 0 (token.Slash ∷ []) cells ≡ ended cells Fine
      slash_taken members place.Due cells = refl
      slash_taken members (place.At e i begins) cells = refl
assignments_mean comma fresh s _ _ _ (text.records_end gap) =
    let on = gap_leads comma fresh s [] gap in
    record {
      tokens = λ e. token.End e ∷ [];
      is_ahead = λ e. on.1.lead e ∙ ap (λ (ls : List (List ℕ)). record { tokens = token.End e ∷ []; left = ls }) (sym records_behind-nil);
      calm = λ e. record { equals = refl; quiet = λ w. refl };
      takes = λ members e counted p cells. end_taken members e p cells;
      parses = λ e begins. end_parsed e begins;
      finishes = λ e. refl;
    } where
      end_parsed : (e : Condition) (begins : Bool) → parsed 0 begins (token.End e ∷ []) ≡ nothing_parsed
      end_parsed e true = refl
      end_parsed e false = refl

      end_taken : (members : List GroupMember) (e : Condition) (p : GroupPlace) (cells : List Cell) → tokens_taken members p 0 (token.End e ∷ []) cells ≡ ended cells e
      end_taken members e place.Due cells = refl
      end_taken members e (place.At e' i begins) cells = refl
assignments_mean comma fresh s _ f w (text.assignment {fresh'} {t} {u} {v} {a} {rest} gap name values more) =
    let on = gap_leads comma fresh s t gap in
    let opens = named_opens comma on.0 a.name a.subscript t u name in
    let reads = values_read comma false true fresh' u a.values v values in
    let others = assignments_mean comma fresh' v rest f w more in
    let front = leads_on comma (Between fresh) (Between on.0) (Between fresh') s t v [] (opens.tokens ++ reads.tokens) on.1
    (leads_on comma (Between on.0) (Between false) (Between fresh') t u v opens.tokens reads.tokens opens.leads reads.leads) in
    record {
      tokens = λ e. opens.tokens ++ (reads.tokens ++ others.tokens e);
      is_ahead = λ e.
          front.lead e ∙ ap (prepended (opens.tokens ++ reads.tokens)) (others.is_ahead e)
          ∙ ap (λ (ts : List Token). record { tokens = ts; left = records_behind w }) (append_assoc opens.tokens reads.tokens (others.tokens e));
      calm = λ e. opens.calm (reads.tokens ++ others.tokens e);
      takes = λ members e counted p cells.
          opens.takes members p (reads.tokens ++ others.tokens e) cells counted
          ∙ opened_given (member_of members a.name) a.subscript (constants a.values) cells (λ p'. tokens_taken members p' 0 (reads.tokens ++ others.tokens e) cells) (λ cells'. all_assigned members (end_of f e) rest cells')
          (λ e' i. reads.takes members (others.tokens e) (λ cells'. all_assigned members (end_of f e) rest cells') (others.calm e) (others.takes members e counted) e' i cells);
      parses = λ e begins.
          opens.parses (reads.tokens ++ others.tokens e) begins
          ∙ ap (assigned a.name a.subscript) (reads.parses (others.tokens e) rest (others.calm e) (others.parses e));
      finishes = λ e. opens.finishes (reads.tokens ++ others.tokens e) ∙ reads.finishes (others.tokens e) ∙ others.finishes e;
    }
