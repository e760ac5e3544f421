-- What is written of a group is read again.
use Rattle.std.proofs.Common.{◌≡◌, ℕ, suc, ◌+◌, ◌<◌, ◌≤◌, Bool, true, false, ◌&&◌, not, cond, eqb, ltb, List, [], ◌∷◌, ◌++◌, length, take, drop, Option, Some, None, slice_get, sym, ap, ◌∙◌, refl, inl, inr, arith, append_assoc, append-nil, length-take}
use Rattle.std.specs.Prelude.{ℤ, unsigned_abs, ◌^◌, is_some, ◌||◌}
use Rattle.std.specs.Char.{to_ascii_uppercase, to_ascii_lowercase}
use Rattle.std.specs.Str.{str_to_ascii_uppercase, str_to_ascii_lowercase, bytes_eq}
use Rattle.fj_value.specs.Kind.{IsOfKind}
use Rattle.fj_value.specs.declared.kind.Kind.{Kind}
use Rattle.fj_value.specs.declared.kind.Kind.TheVariants.{Int4, Int8, Logical, Chars}
use Rattle.fj_value.specs.declared.edit.Delim.{Delim}
use Rattle.fj_value.specs.declared.edit.Delim.TheVariants.{Plain, Apostrophe, Quote}
use Rattle.fj_value.specs.declared.edit.EditModes.{EditModes}
use Rattle.fj_value.specs.declared.value.Cell.{Cell}
use Rattle.fj_value.specs.declared.value.Value.{Value}
use Rattle.fj_value.specs.declared.value.Value.TheVariants as v
use Rattle.fj_value.specs.declared.condition.Condition.{Condition}
use Rattle.fj_value.specs.declared.condition.Condition.TheVariants.{Fine}
use Rattle.fj_list.specs.ListText.{mark_of, characters_shown, integer_shown, shown}
use Rattle.std.specs.List.{find, position_or_len, prefix_len}
use Rattle.std.proofs.lemmas.List.{take_all, drop_all, length-map}
use Rattle.std.proofs.lemmas.Str.Ascii.{lowercase-uppercase}
use Rattle.fj_list.specs.Stream.{is_blank}
use Rattle.std.proofs.lemmas.Bool.{false≢true}
use Rattle.fj_list.specs.declared.constant.Form.{Form}
use Rattle.fj_list.specs.declared.constant.Form.TheVariants.{Undelimited, Delimited}
use Rattle.fj_list.specs.declared.constant.Read.{Read}
use Rattle.fj_list.specs.declared.constant.Read.TheVariants as read
use Rattle.fj_list.proofs.Plain.{magnitude, integer_plain, integer_again, assigned_whole}
use Rattle.fj_namelist.specs.declared.place.Elements.{Elements}
use Rattle.fj_namelist.specs.declared.place.GroupPlace.{GroupPlace}
use Rattle.fj_namelist.specs.declared.place.GroupPlace.TheVariants as place
use Rattle.fj_namelist.specs.GroupInput.{Result, ended, elements, constant_read, given_to, filled, word_given, value_taken, taken, Name, name_of, name_at, begun_at, begun, place_of, either_taken, tokens_taken, group_read}
use Rattle.fj_namelist.specs.Heading.{Heading, heading, heading_in, named}
use Rattle.fj_namelist.proofs.Filling.{fill_on}
use Rattle.fj_namelist.specs.declared.token.Token.{Token}
use Rattle.fj_namelist.specs.declared.token.Token.TheVariants as token
use Rattle.fj_namelist.specs.declared.token.State.TheVariants.{Between, InWord, Behind}
use Rattle.fj_namelist.specs.Tokens.{Lexed, lexed, stepped, at_record_end, with_tokens, line_lexed, Group, lines_lexed, more_lexed, behind_line, is_done, marked}
use Rattle.fj_moved.specs.declared.moved.GroupMember.{GroupMember}
use Rattle.fj_list.specs.ListInput.{is_separator, is_mark, Outcome}
use Rattle.fj_moved.specs.Cells.{with_value}
use Rattle.fj_namelist.specs.Names.{Designator, designator, subscript_in, with_subscript, member_of, same_name, repeat_in, behind_star}
use Rattle.fj_namelist.specs.GroupText.{parting, continued, name_shown, member_written, members_written, values_of}
use Rattle.fj_namelist.specs.GroupReadAgain.{IsName, AreOfKind, AreWritten, IsAmong, ShareCells, with_values_from, with_members, GroupsAreReadAgain}
use Rattle.fj_namelist.proofs.Words.{Runs, runs_none, runs_cons, runs_append, runs_whole, AllIn, whole_word, integer_is_in, letter_is_in, mark_number, IsMarked, is_marked, whole_constant, token_of, state_of, word_designates, name_in, no_subscript, no_repeat, same_mark, one_more}

-- a value's characters
nonempty_runs : (comma fresh : Bool) (w : List ℕ) → 0 < length w → AllIn comma w → Runs comma (Between fresh) w [] (InWord w)
nonempty_runs comma fresh [] some all = absurd (omega arith)
nonempty_runs comma fresh (c ∷ cs) some all = whole_word comma fresh c cs all

integer_runs : (modes : EditModes) (fresh : Bool) (z : ℤ) → unsigned_abs z < 2 ^ 64 → Runs modes.comma (Between fresh) (integer_shown modes.plus z) [] (InWord (integer_shown modes.plus z))
integer_runs modes fresh z h = nonempty_runs modes.comma fresh (integer_shown modes.plus z) (integer_plain modes.comma modes.plus z h).1 (integer_is_in modes.comma modes.plus z h)

characters_run : (comma fresh : Bool) (delim : Delim) (text : List ℕ) → IsMarked delim → Runs comma (Between fresh) (characters_shown (mark_of delim) text) [] (Behind (record { count = 1; mark = mark_number delim; characters = text }))
characters_run comma fresh Plain text h = absurd h
characters_run comma fresh Apostrophe text h = whole_constant comma fresh Apostrophe text h
characters_run comma fresh Quote text h = whole_constant comma fresh Quote text h

value_runs : (modes : EditModes) (fresh : Bool) (k : Kind) (w : Value) → IsMarked modes.delim → IsOfKind k w → Runs modes.comma (Between fresh) (shown modes w) [] (state_of modes.delim (token_of modes w))
value_runs modes fresh Int4 (v.Int z) h kind = integer_runs modes fresh z (magnitude 32 z (omega arith) kind).1
value_runs modes fresh Int8 (v.Int z) h kind = integer_runs modes fresh z (magnitude 64 z (omega arith) kind).1
value_runs modes fresh Logical (v.Log truth) h kind = whole_word modes.comma fresh (cond truth 84 70) [] (letter_is_in modes.comma truth, tt)
value_runs modes fresh (Chars n) (v.Chars text) h kind = characters_run modes.comma fresh modes.delim text h
value_runs modes fresh _ _ h kind = absurd kind

-- tokens of values
abbrev IsToken : Token → Type 0
IsToken (token.Word w) = Unit {0}
IsToken (token.Constant n cs) = Unit {0}
IsToken _ = ⊥

value_token : (modes : EditModes) (k : Kind) (w : Value) → IsOfKind k w → IsToken (token_of modes w)
value_token modes Int4 (v.Int z) kind = tt
value_token modes Int8 (v.Int z) kind = tt
value_token modes Logical (v.Log truth) kind = tt
value_token modes (Chars n) (v.Chars text) kind = tt
value_token modes _ _ kind = absurd kind

separator_step : (comma : Bool) (delim : Delim) (t : Token) → IsMarked delim → IsToken t → stepped comma (state_of delim t) (parting comma) ≡ lexed (t ∷ token.Separator ∷ []) (Between true)
separator_step true delim (token.Word w) h is = refl
separator_step false delim (token.Word w) h is = refl
separator_step comma Plain (token.Constant n cs) h is = absurd h
separator_step true Apostrophe (token.Constant n cs) h is = refl
separator_step false Apostrophe (token.Constant n cs) h is = refl
separator_step true Quote (token.Constant n cs) h is = refl
separator_step false Quote (token.Constant n cs) h is = refl
separator_step comma delim _ h is = absurd is

record_end_step : (delim : Delim) (t : Token) → IsToken t → at_record_end (state_of delim t) ≡ lexed (t ∷ []) (Between true)
record_end_step delim (token.Word w) is = refl
record_end_step delim (token.Constant n cs) is = refl
record_end_step delim _ is = absurd is

blank_step : (comma fresh : Bool) → stepped comma (Between fresh) 32 ≡ lexed [] (Between true)
blank_step true fresh = refl
blank_step false fresh = refl

abbrev value_tokens : EditModes → Value → List Value → List Token
value_tokens modes w [] = token_of modes w ∷ []
value_tokens modes w (x ∷ ws) = token_of modes w ∷ token.Separator ∷ value_tokens modes x ws

-- records in front of others
abbrev prepended : List Token → Group → Group
prepended ts g = record { tokens = ts ++ g.tokens; left = g.left }

prepended_twice : (a b : List Token) (g : Group) → prepended a (prepended b g) ≡ prepended (a ++ b) g
prepended_twice a b g = ap (λ (ts : List Token). record { tokens = ts; left = g.left }) (sym (append_assoc a b g.tokens))

lines_first : (comma : Bool) (e : Condition) (line : List ℕ) (ts : List Token) (lines : List (List ℕ)) → line_lexed comma (Between true) line ≡ lexed ts (Between true)
    → lines_lexed comma e (Between true) (line ∷ lines) ≡ prepended ts (lines_lexed comma e (Between true) lines)
lines_first comma e line ts lines is = ap (λ (l : Lexed). behind_line l (more_lexed (is_done l.state) lines (lines_lexed comma e l.state lines))) is

value_line : (modes : EditModes) (line : List ℕ) (ts : List Token) (t : Token) → IsToken t → Runs modes.comma (Between true) line ts (state_of modes.delim t) → line_lexed modes.comma (Between true) line ≡ lexed (ts ++ t ∷ []) (Between true)
value_line modes line ts t is runs = runs_whole modes.comma (Between true) (state_of modes.delim t) line ts runs ∙ ap (with_tokens ts) (record_end_step modes.delim t is)

parted_line : (modes : EditModes) (line : List ℕ) (ts : List Token) (t : Token) → IsMarked modes.delim → IsToken t → Runs modes.comma (Between true) line ts (state_of modes.delim t)
    → Runs modes.comma (Between true) (line ++ parting modes.comma ∷ []) (ts ++ t ∷ token.Separator ∷ []) (Between true)
parted_line modes line ts t h is runs =
    let sep = parting modes.comma in
    runs_append modes.comma (Between true) (state_of modes.delim t) (Between true) line (sep ∷ []) ts (t ∷ token.Separator ∷ []) runs
    (runs_cons modes.comma (state_of modes.delim t) (Between true) (Between true) sep [] (t ∷ token.Separator ∷ []) [] (separator_step modes.comma modes.delim t h is) (runs_none modes.comma (Between true)))

values_lexed : (modes : EditModes) (e : Condition) (k : Kind) (line : List ℕ) (ts : List Token) (w : Value) (ws : List Value) (lines : List (List ℕ)) → IsMarked modes.delim → IsOfKind k w → AreOfKind k ws
    → Runs modes.comma (Between true) line ts (state_of modes.delim (token_of modes w))
    → lines_lexed modes.comma e (Between true) (continued modes line ws ++ lines) ≡ prepended (ts ++ value_tokens modes w ws) (lines_lexed modes.comma e (Between true) lines)
values_lexed modes e k line ts w [] lines h kind kinds runs =
    lines_first modes.comma e line (ts ++ token_of modes w ∷ []) lines (value_line modes line ts (token_of modes w) (value_token modes k w kind) runs)
values_lexed modes e k line ts w (x ∷ ws) lines h kind kinds runs =
    let t = token_of modes w in
    let is = value_token modes k w kind in
    let sep = parting modes.comma in
    let parted = parted_line modes line ts t h is runs in
    let before = ts ++ t ∷ token.Separator ∷ [] in
    let later = lines_lexed modes.comma e (Between true) lines in
    let new = values_lexed modes e k (32 ∷ shown modes x) [] x ws lines h kinds.0 kinds.1
    (runs_cons modes.comma (Between true) (Between true) (state_of modes.delim (token_of modes x)) 32 (shown modes x) [] [] (blank_step modes.comma true) (value_runs modes true k x h kinds.0)) in
    let longer = runs_append modes.comma (Between true) (state_of modes.delim t) (state_of modes.delim (token_of modes x)) line (sep ∷ shown modes x) ts (t ∷ token.Separator ∷ []) runs
    (runs_cons modes.comma (state_of modes.delim t) (Between true) (state_of modes.delim (token_of modes x)) sep (shown modes x) (t ∷ token.Separator ∷ []) [] (separator_step modes.comma modes.delim t h is) (value_runs modes true k x h kinds.0)) in
    let on = values_lexed modes e k (line ++ (sep ∷ shown modes x)) before x ws lines h kinds.0 kinds.1 longer in
    let all = ap (λ (us : List Token). prepended us later) (append_assoc ts (t ∷ token.Separator ∷ []) (value_tokens modes x ws)) in
    either (ltb 80 (length (line ++ (sep ∷ shown modes x))))
    (lines_first modes.comma e (line ++ sep ∷ []) before (continued modes (32 ∷ shown modes x) ws ++ lines)
    (runs_whole modes.comma (Between true) (Between true) (line ++ sep ∷ []) before parted ∙ ap (λ (us : List Token). lexed us (Between true)) (append-nil before))
    ∙ ap (prepended before) new ∙ prepended_twice before (value_tokens modes x ws) later ∙ all)
    (on ∙ all) where
      a : List (List ℕ)
      a = (line ++ parting modes.comma ∷ []) ∷ continued modes (32 ∷ shown modes x) ws

      b : List (List ℕ)
      b = continued modes (line ++ (parting modes.comma ∷ shown modes x)) ws

      wanted : Group
      wanted = prepended (ts ++ value_tokens modes w (x ∷ ws)) (lines_lexed modes.comma e (Between true) lines)

      either : (c : Bool) → lines_lexed modes.comma e (Between true) (a ++ lines) ≡ wanted → lines_lexed modes.comma e (Between true) (b ++ lines) ≡ wanted → lines_lexed modes.comma e (Between true) (cond c a b ++ lines) ≡ wanted
      either true p q = p
      either false p q = q

-- a member
equals_step : (comma : Bool) (c : ℕ) (cs : List ℕ) → AllIn comma (c ∷ cs) → stepped comma (InWord (c ∷ cs)) 61 ≡ lexed (token.Word (c ∷ cs) ∷ token.Equals ∷ []) (Between false)
equals_step comma c cs all = go comma (ap is_some (word_designates comma c cs all)) where
  more : Lexed
  more = cond (is_mark 61) (marked (c ∷ cs) 61 (repeat_in (c ∷ cs)) (behind_star (c ∷ cs))) (lexed [] (InWord ((c ∷ cs) ++ 61 ∷ [])))

  go : (comma : Bool) → is_some (designator (c ∷ cs)) ≡ true → stepped comma (InWord (c ∷ cs)) 61 ≡ lexed (token.Word (c ∷ cs) ∷ token.Equals ∷ []) (Between false)
  go true e = ap (λ b. cond (true && (b || is_some (subscript_in (c ∷ cs)))) (lexed (token.Word (c ∷ cs) ∷ token.Equals ∷ []) (Between false)) more) e
  go false e = ap (λ b. cond (true && (b || is_some (subscript_in (c ∷ cs)))) (lexed (token.Word (c ∷ cs) ∷ token.Equals ∷ []) (Between false)) more) e

name_runs : (comma : Bool) (name : List ℕ) → IsName name → Runs comma (Between true) (name_shown name) (token.Word (str_to_ascii_uppercase name) ∷ token.Equals ∷ []) (Between false)
name_runs comma [] is = absurd (let some = is.some in omega arith)
name_runs comma (c ∷ cs) is =
    let n = str_to_ascii_uppercase (c ∷ cs) in
    let all = name_in comma (c ∷ cs) is.all in
    runs_cons comma (Between true) (Between true) (Between false) 32 (n ++ 61 ∷ []) [] (token.Word n ∷ token.Equals ∷ []) (blank_step comma true)
    (runs_append comma (Between true) (InWord n) (Between false) n (61 ∷ []) [] (token.Word n ∷ token.Equals ∷ []) (whole_word comma true (to_ascii_uppercase c) (str_to_ascii_uppercase cs) all)
    (runs_cons comma (InWord n) (Between false) (Between false) 61 [] (token.Word n ∷ token.Equals ∷ []) [] (equals_step comma (to_ascii_uppercase c) (str_to_ascii_uppercase cs) all) (runs_none comma (Between false))))

abbrev values_after : EditModes → List Value → List Token
values_after modes [] = []
values_after modes (w ∷ ws) = value_tokens modes w ws

abbrev member_tokens : EditModes → GroupMember → List Value → List Token
member_tokens modes m vs = token.Word (str_to_ascii_uppercase m.name) ∷ token.Equals ∷ values_after modes vs

member_lexed : (modes : EditModes) (e : Condition) (m : GroupMember) (vs : List Value) (lines : List (List ℕ)) → IsMarked modes.delim → IsName m.name → AreOfKind m.kind vs
    → lines_lexed modes.comma e (Between true) (member_written modes m.name vs ++ lines) ≡ prepended (member_tokens modes m vs) (lines_lexed modes.comma e (Between true) lines)
member_lexed modes e m [] lines h is kinds =
    lines_first modes.comma e (name_shown m.name) (member_tokens modes m []) lines (runs_whole modes.comma (Between true) (Between false) (name_shown m.name) (member_tokens modes m []) (name_runs modes.comma m.name is))
member_lexed modes e m (w ∷ ws) lines h is kinds =
    values_lexed modes e m.kind (name_shown m.name ++ shown modes w) (member_tokens modes m []) w ws lines h kinds.0 kinds.1
    (runs_append modes.comma (Between true) (Between false) (state_of modes.delim (token_of modes w)) (name_shown m.name) (shown modes w) (member_tokens modes m []) [] (name_runs modes.comma m.name is) (value_runs modes false m.kind w h kinds.0))

abbrev group_tokens : EditModes → List GroupMember → List Cell → List Token
group_tokens modes [] written = token.Slash ∷ []
group_tokens modes (m ∷ members) written = member_tokens modes m (values_of m written) ++ group_tokens modes members written

last_line : (comma : Bool) (e : Condition) → lines_lexed comma e (Between true) ((32 ∷ 47 ∷ []) ∷ []) ≡ record { tokens = token.Slash ∷ []; left = [] }
last_line true e = refl
last_line false e = refl

members_lexed : (modes : EditModes) (e : Condition) (members : List GroupMember) (written : List Cell) → IsMarked modes.delim → AreWritten written members
    → lines_lexed modes.comma e (Between true) (members_written modes members written ++ (32 ∷ 47 ∷ []) ∷ []) ≡ record { tokens = group_tokens modes members written; left = [] }
members_lexed modes e [] written h all = last_line modes.comma e
members_lexed modes e (m ∷ members) written h all =
    let last : List (List ℕ) = (32 ∷ 47 ∷ []) ∷ [] in
    let own = member_written modes m.name (values_of m written) in
    let others = members_written modes members written in
    ap (lines_lexed modes.comma e (Between true)) (append_assoc own others last)
    ∙ member_lexed modes e m (values_of m written) (others ++ last) h all.0.name all.0.kinds
    ∙ ap (prepended (member_tokens modes m (values_of m written))) (members_lexed modes e members written h all.1)

-- tokens before which a word is no name
abbrev Quiet : Bool → List Token → Type 0
Quiet comma ts = (c : ℕ) (cs : List ℕ) → AllIn comma (c ∷ cs) → name_at (token.Word (c ∷ cs)) (slice_get ts 0) (slice_get ts 1) ≡ None

name_quiet : (comma : Bool) (n : ℕ) (ns : List ℕ) (ts : List Token) → AllIn comma (n ∷ ns) → Quiet comma (token.Word (n ∷ ns) ∷ token.Equals ∷ ts)
name_quiet comma n ns ts name c cs all =
    ap (λ (o : Option ℕ). name_of 2 (with_subscript (designator (c ∷ cs)) o)) (no_subscript comma n ns name)
    ∙ ap (λ (d : Option Designator). name_of 2 (with_subscript d None)) (word_designates comma c cs all)

group_quiet : (modes : EditModes) (members : List GroupMember) (written : List Cell) → AreWritten written members → Quiet modes.comma (group_tokens modes members written)
group_quiet modes [] written all c cs word = refl
group_quiet modes (m ∷ members) written all c cs word = go m.name all.0.name (name_in modes.comma m.name all.0.name.all) where
  go : (name : List ℕ) → IsName name → AllIn modes.comma (str_to_ascii_uppercase name)
      → name_at (token.Word (c ∷ cs)) (Some (token.Word (str_to_ascii_uppercase name))) (Some token.Equals) ≡ None
  go [] is letters = absurd (let some = is.some in omega arith)
  go (n ∷ ns) is letters = name_quiet modes.comma (to_ascii_uppercase n) (str_to_ascii_uppercase ns) (values_after modes (values_of m written) ++ group_tokens modes members written) letters c cs word

-- what a value's token gives to an element
constant_given : (e : Elements) (form : Form) (cs : List ℕ) (i : ℕ) (cells : List Cell) (w : Value) (next : ℕ → List Cell → Result) → i < e.count → constant_read e.kind form cs ≡ read.Defined w
    → filled e form cs 1 i cells next ≡ next (i + 1) (with_value cells (e.first + i) w)
constant_given e form cs i cells w next there is =
    fill_on e form cs 1 0 i cells next refl there
    ∙ ap (λ (r : Read). given_to r e i cells (λ cells'. filled e form cs 0 (i + 1) cells' next)) is

word_given_to : (comma : Bool) (e : Elements) (word : List ℕ) (i : ℕ) (cells : List Cell) (w : Value) (next : ℕ → List Cell → Result) → AllIn comma word → i < e.count → constant_read e.kind Undelimited word ≡ read.Defined w
    → word_given (repeat_in word) (behind_star word) word e i cells next ≡ next (i + 1) (with_value cells (e.first + i) w)
word_given_to comma e word i cells w next all there is =
    ap (λ (o : Option (Option ℕ)). word_given o (behind_star word) word e i cells next) (no_repeat comma word all) ∙ constant_given e Undelimited word i cells w next there is

value_given : (modes : EditModes) (e : Elements) (k : Kind) (w : Value) (i : ℕ) (cells : List Cell) (next : GroupPlace → List Cell → Result) → IsMarked modes.delim → e.kind ≡ k → IsOfKind k w → i < e.count
    → value_taken (token_of modes w) e i true cells next ≡ next (place.At e (i + 1) false) (with_value cells (e.first + i) w)
value_given modes e Int4 (v.Int z) i cells next h same kind there =
    let m = magnitude 32 z (omega arith) kind in
    word_given_to modes.comma e (integer_shown modes.plus z) i cells (v.Int z) (λ i' cells'. next (place.At e i' false) cells') (integer_is_in modes.comma modes.plus z m.1) there
    (ap (λ (x : Kind). constant_read x Undelimited (integer_shown modes.plus z)) same ∙ integer_again 32 modes.plus z (omega arith) kind)
value_given modes e Int8 (v.Int z) i cells next h same kind there =
    let m = magnitude 64 z (omega arith) kind in
    word_given_to modes.comma e (integer_shown modes.plus z) i cells (v.Int z) (λ i' cells'. next (place.At e i' false) cells') (integer_is_in modes.comma modes.plus z m.1) there
    (ap (λ (x : Kind). constant_read x Undelimited (integer_shown modes.plus z)) same ∙ integer_again 64 modes.plus z (omega arith) kind)
value_given modes e Logical (v.Log true) i cells next h same kind there =
    word_given_to modes.comma e (84 ∷ []) i cells (v.Log true) (λ i' cells'. next (place.At e i' false) cells') (letter_is_in modes.comma true, tt) there
    (ap (λ (x : Kind). constant_read x Undelimited (84 ∷ [])) same)
value_given modes e Logical (v.Log false) i cells next h same kind there =
    word_given_to modes.comma e (70 ∷ []) i cells (v.Log false) (λ i' cells'. next (place.At e i' false) cells') (letter_is_in modes.comma false, tt) there
    (ap (λ (x : Kind). constant_read x Undelimited (70 ∷ [])) same)
value_given modes e (Chars n) (v.Chars text) i cells next h same kind there =
    constant_given e Delimited text i cells (v.Chars text) (λ i' cells'. next (place.At e i' false) cells') there
    (ap (λ (x : Kind). constant_read x Delimited text) same ∙ ap (λ (cs : List ℕ). read.Defined (v.Chars cs)) (assigned_whole n text kind))
value_given modes e _ _ i cells next h same kind there = absurd kind

integer_quiet : (modes : EditModes) (z : ℤ) (ts : List Token) → unsigned_abs z < 2 ^ 64 → Quiet modes.comma ts → name_at (token.Word (integer_shown modes.plus z)) (slice_get ts 0) (slice_get ts 1) ≡ None
integer_quiet modes z ts h quiet = go (integer_shown modes.plus z) (integer_plain modes.comma modes.plus z h).1 (integer_is_in modes.comma modes.plus z h) where
  go : (w : List ℕ) → 0 < length w → AllIn modes.comma w → name_at (token.Word w) (slice_get ts 0) (slice_get ts 1) ≡ None
  go [] some all = absurd (omega arith)
  go (c ∷ cs) some all = quiet c cs all

-- a value's token is no name
value_quiet : (modes : EditModes) (k : Kind) (w : Value) (ts : List Token) → IsOfKind k w → Quiet modes.comma ts → name_at (token_of modes w) (slice_get ts 0) (slice_get ts 1) ≡ None
value_quiet modes Int4 (v.Int z) ts kind quiet = integer_quiet modes z ts (magnitude 32 z (omega arith) kind).1 quiet
value_quiet modes Int8 (v.Int z) ts kind quiet = integer_quiet modes z ts (magnitude 64 z (omega arith) kind).1 quiet
value_quiet modes Logical (v.Log truth) ts kind quiet = quiet (cond truth 84 70) [] (letter_is_in modes.comma truth, tt)
value_quiet modes (Chars n) (v.Chars text) ts kind quiet = refl
value_quiet modes _ _ ts kind quiet = absurd kind

-- a value's token, and what follows it
value_taken_on : (modes : EditModes) (members : List GroupMember) (e : Elements) (k : Kind) (i : ℕ) (w : Value) (rest : List Token) (cells : List Cell) → IsMarked modes.delim → e.kind ≡ k → IsOfKind k w → i < e.count
    → taken (token_of modes w) (place.At e i true) cells (λ p cells'. tokens_taken members p 0 rest cells') ≡ tokens_taken members (place.At e (i + 1) false) 0 rest (with_value cells (e.first + i) w)
value_taken_on modes members e k i w rest cells h same kind there = value_given modes e k w i cells (λ p cells'. tokens_taken members p 0 rest cells') h same kind there

values_taken : (modes : EditModes) (members : List GroupMember) (e : Elements) (k : Kind) (i : ℕ) (w : Value) (ws : List Value) (rest : List Token) (cells : List Cell) → IsMarked modes.delim → e.kind ≡ k → IsOfKind k w → AreOfKind k ws → i + suc (length ws) ≤ e.count → Quiet modes.comma rest
    → (last : ℕ) × (tokens_taken members (place.At e i true) 0 (value_tokens modes w ws ++ rest) cells ≡ tokens_taken members (place.At e last false) 0 rest (with_values_from (e.first + i) (w ∷ ws) cells))
values_taken modes members e k i w [] rest cells h same kind kinds within quiet = (
  i + 1,
  ap (λ (o : Option Name). either_taken (begun_at members o) (token_of modes w) (place.At e i true) cells (λ p more cells'. tokens_taken members p more rest cells')) (value_quiet modes k w rest kind quiet)
      ∙ value_taken_on modes members e k i w rest cells h same kind (omega arith),
)
values_taken modes members e k i w (x ∷ ws) rest cells h same kind kinds within quiet =
    let others = value_tokens modes x ws ++ rest in
    let tail = token.Separator ∷ others in
    let now = with_value cells (e.first + i) w in
    let count : length (x ∷ ws) ≡ suc (length ws) = refl in
    let more = values_taken modes members e k (i + 1) x ws rest now h same kinds.0 kinds.1 (omega arith) quiet in
    let next : e.first + (i + 1) ≡ e.first + i + 1 = omega arith in (
      more.0,
      ap (λ (o : Option Name). either_taken (begun_at members o) (token_of modes w) (place.At e i true) cells (λ p n cells'. tokens_taken members p n tail cells')) (value_quiet modes k w tail kind (λ c cs all. refl))
          ∙ value_taken_on modes members e k i w tail cells h same kind (omega arith)
          ∙ more.1
          ∙ ap (λ (at : ℕ). tokens_taken members (place.At e more.0 false) 0 rest (with_values_from at (x ∷ ws) now)) next,
    )

-- the assignment of a member
found_in : (members : List GroupMember) (p : GroupMember → Bool) (m : GroupMember) → IsAmong m members → p m ≡ true → (x : GroupMember) × ((find p members ≡ Some x) × IsAmong x members × (p x ≡ true))
found_in [] p m among e = absurd among
found_in (y ∷ ys) p m among e = go (p y) refl among (λ h. found_in ys p m h e) where
  go : (b : Bool) → p y ≡ b → IsAmong m (y ∷ ys) → (IsAmong m ys → (x : GroupMember) × ((find p ys ≡ Some x) × IsAmong x ys × (p x ≡ true)))
      → (x : GroupMember) × ((cond (p y) (Some y) (find p ys) ≡ Some x) × IsAmong x (y ∷ ys) × (p x ≡ true))
  go true is among more = (y, (ap (λ b. cond b (Some y) (find p ys)) is, inl refl, is))
  go false is (inl same) more = absurd (false≢true (sym is ∙ ap p same ∙ e))
  go false is (inr there) more = let found = more there in (found.0, (ap (λ b. cond b (Some y) (find p ys)) is ∙ found.1.0, inr found.1.1, found.1.2))

-- names in upper case
lower_upper : (name : List ℕ) → str_to_ascii_lowercase (str_to_ascii_uppercase name) ≡ str_to_ascii_lowercase name
lower_upper [] = refl
lower_upper (c ∷ cs) = ap (λ d. d ∷ str_to_ascii_lowercase (str_to_ascii_uppercase cs)) (lowercase-uppercase c) ∙ ap (λ (ds : List ℕ). to_ascii_lowercase c ∷ ds) (lower_upper cs)

same_self : (xs : List ℕ) → bytes_eq xs xs ≡ true
same_self [] = refl
same_self (x ∷ xs) = ap (λ b. b && bytes_eq xs xs) (same_mark x) ∙ same_self xs

upper_same : (name : List ℕ) → same_name (str_to_ascii_uppercase name) name ≡ true
upper_same name = ap (λ (l : List ℕ). bytes_eq l (str_to_ascii_lowercase name)) (lower_upper name) ∙ same_self (str_to_ascii_lowercase name)

name_upper : (other name : List ℕ) → same_name other (str_to_ascii_uppercase name) ≡ same_name other name
name_upper other name = ap (λ (l : List ℕ). bytes_eq (str_to_ascii_lowercase other) l) (lower_upper name)

member_found : (members : List GroupMember) (m : GroupMember) → IsAmong m members → ShareCells members → (x : GroupMember) × ((member_of members (str_to_ascii_uppercase m.name) ≡ Some x) × (elements x ≡ elements m))
member_found members m among shared =
    let u = str_to_ascii_uppercase m.name in
    let found = found_in members (λ (y : GroupMember). same_name y.name u) m among (name_upper m.name m.name ∙ same_self (str_to_ascii_lowercase m.name)) in
    (found.0, (found.1.0, shared m found.0 among found.1.1 (sym (name_upper found.0.name m.name) ∙ found.1.2)))

name_taken : (modes : EditModes) (members : List GroupMember) (m : GroupMember) (p : GroupPlace) (ts : List Token) (cells : List Cell) → IsName m.name → IsAmong m members → ShareCells members
    → tokens_taken members p 0 (token.Word (str_to_ascii_uppercase m.name) ∷ token.Equals ∷ ts) cells ≡ tokens_taken members (place.At (elements m) 0 true) 0 ts cells
name_taken modes members m p ts cells is among shared =
    let u = str_to_ascii_uppercase m.name in
    let tail = token.Equals ∷ ts in
    let next : GroupPlace → ℕ → List Cell → Result = λ p' more cells'. tokens_taken members p' more tail cells' in
    let found = member_found members m among shared in
    ap (λ (d : Option Designator). either_taken (begun_at members (name_of 1 d)) (token.Word u) p cells next) (designates modes.comma m.name is)
    ∙ ap (λ (o : Option GroupMember). begun (record { place = place_of o None; more = 1 }) cells (place_of o None) next) found.1.0
    ∙ ap (λ (e : Elements). tokens_taken members (place.At e 0 true) 0 ts cells) found.1.1 where
      designates : (comma : Bool) (name : List ℕ) → IsName name → designator (str_to_ascii_uppercase name) ≡ Some (record { name = str_to_ascii_uppercase name; subscript = None })
      designates comma [] h = absurd (let some = h.some in omega arith)
      designates comma (c ∷ cs) h = word_designates comma (to_ascii_uppercase c) (str_to_ascii_uppercase cs) (name_in comma (c ∷ cs) h.all)

member_taken : (modes : EditModes) (members : List GroupMember) (m : GroupMember) (vs : List Value) (rest : List Token) (cells : List Cell) → IsMarked modes.delim → AreOfKind m.kind vs → length vs ≤ m.count → Quiet modes.comma rest
    → (p : GroupPlace) × (tokens_taken members (place.At (elements m) 0 true) 0 (values_after modes vs ++ rest) cells ≡ tokens_taken members p 0 rest (with_values_from m.first vs cells))
member_taken modes members m [] rest cells h kinds within quiet = (place.At (elements m) 0 true, refl)
member_taken modes members m (w ∷ ws) rest cells h kinds within quiet =
    let count : length (w ∷ ws) ≡ suc (length ws) = refl in
    let more = values_taken modes members (elements m) m.kind 0 w ws rest cells h refl kinds.0 kinds.1 (omega arith) quiet in
    let first : m.first + 0 ≡ m.first = omega arith in
    (place.At (elements m) more.0 false, more.1 ∙ ap (λ (at : ℕ). tokens_taken members (place.At (elements m) more.0 false) 0 rest (with_values_from at (w ∷ ws) cells)) first)

-- all members
abbrev AllAmong : List GroupMember → List GroupMember → Type 0
AllAmong [] members = Unit {0}
AllAmong (m ∷ ms) members = IsAmong m members × AllAmong ms members

all_among : (ms members : List GroupMember) → ((m : GroupMember) → IsAmong m ms → IsAmong m members) → AllAmong ms members
all_among [] members h = tt
all_among (m ∷ ms) members h = (h m (inl refl), all_among ms members (λ x among. h x (inr among)))

few_values : (m : GroupMember) (written : List Cell) → length (values_of m written) ≤ m.count
few_values m written = simp (length-map, length-take) (omega arith)

members_taken : (modes : EditModes) (members ms : List GroupMember) (written : List Cell) (p : GroupPlace) (cells : List Cell) → IsMarked modes.delim → AreWritten written ms → AllAmong ms members → ShareCells members
    → tokens_taken members p 0 (group_tokens modes ms written) cells ≡ ended (with_members ms written cells) Fine
members_taken modes members [] written place.Due cells h all among shared = refl
members_taken modes members [] written (place.At e i begins) cells h all among shared = refl
members_taken modes members (m ∷ ms) written p cells h all among shared =
    let vs = values_of m written in
    let rest = group_tokens modes ms written in
    let taken_all = member_taken modes members m vs rest cells h all.0.kinds (few_values m written) (group_quiet modes ms written all.1) in
    name_taken modes members m p (values_after modes vs ++ rest) cells all.0.name among.0 shared
    ∙ taken_all.1
    ∙ members_taken modes members ms written taken_all.0 (with_values_from m.first vs cells) h all.1 among.1 shared

-- the group's name
no_blank : (comma : Bool) (cs : List ℕ) → AllIn comma cs → position_or_len is_blank cs ≡ length cs
no_blank comma [] all = refl
no_blank comma (c ∷ cs) all =
    let n = prefix_len (λ x. not (is_blank x)) cs in
    ap (λ b. cond (not b) (1 + n) 0) (or_left (is_blank c) (is_separator comma c || eqb c 47) all.0.goes) ∙ one_more n ∙ ap suc (no_blank comma cs all.1) where
      or_left : (a b : Bool) → (a || b) ≡ false → a ≡ false
      or_left true b e = e
      or_left false b e = refl

heading_again : (comma : Bool) (group : List ℕ) (lines : List (List ℕ)) → IsName group → heading group ((32 ∷ 38 ∷ str_to_ascii_uppercase group) ∷ lines) ≡ named [] lines
heading_again comma group lines is =
    let u = str_to_ascii_uppercase group in
    let by : List ℕ → List ℕ → Heading = λ name rest. heading_in lines (cond (true && same_name name group) (Some rest) None) in
    ap (λ k. by (take k u) (drop k u)) (no_blank comma u (name_in comma group is.all))
    ∙ ap (λ (x : List ℕ). by x (drop (length u) u)) (take_all (length u) u (omega arith))
    ∙ ap (λ (x : List ℕ). by u x) (drop_all (length u) u (omega arith))
    ∙ ap (λ b. heading_in lines (cond (true && b) (Some []) None)) (upper_same group)

pub again : GroupsAreReadAgain
again modes group members written cells ending mark is name all shared =
    let h = is_marked modes.delim mark is in
    let lines = members_written modes members written ++ (32 ∷ 47 ∷ []) ∷ [] in
    ap (group_read modes.comma ending members cells) (heading_again modes.comma group lines name)
    ∙ ap (λ (g : Group). group_outcome g (tokens_taken members place.Due 0 g.tokens cells))
    (lines_first modes.comma ending [] [] lines refl ∙ members_lexed modes ending members written h all)
    ∙ ap (λ (r : Result). record { cells = r.cells; condition = r.condition; left = [] }) (members_taken modes members members written place.Due cells h all (all_among members members (λ m among. among)) shared) where
      group_outcome : Group → Result → Outcome
      group_outcome g r = record { cells = r.cells; condition = r.condition; left = g.left }
