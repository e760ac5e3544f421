-- What stands in the records of namelist input behind the group's name (ISO/IEC 1539-1:2004, 10.10.1): words, delimited
-- constants and marks, from the left to the right. Blanks, record ends and comments part them.
use Rattle.std.specs.Prelude.{◌≡◌, ℕ, Bool, true, false, ◌&&◌, ◌==◌, if◌then◌else◌, List, [], ◌∷◌, ◌++◌, Option, Some, None}
use Rattle.fj_value.specs.declared.condition.Condition.{Condition}
use Rattle.fj_list.specs.ListInput.{is_separator, ends_constant, is_mark}
use Rattle.fj_namelist.specs.declared.token.Token.{Token}
use Rattle.fj_namelist.specs.declared.token.Token.TheVariants as token
use Rattle.fj_namelist.specs.declared.token.Delimited.{Delimited}
use Rattle.fj_namelist.specs.declared.token.State.{State}
use Rattle.fj_namelist.specs.declared.token.State.TheVariants.{Between, Comment, InWord, Inside, Behind, Done}
use Rattle.fj_namelist.specs.Names.{ends_at_equals, repeat_in, behind_star}

-- tokens, and what is behind them
pub record Lexed : Type 0 where
  pub tokens : List Token
  pub state : State

abbrev pub lexed : List Token → State → Lexed
lexed tokens state = record { tokens = tokens; state = state }

-- these tokens are added, and this state is reached
abbrev pub Adds : Lexed → List Token → List Token → State → Type 0
Adds l old new state = (new ≡ old ++ l.tokens) × (state ≡ l.state)

-- behind a token: a comment may begin, a separator is a token too, and a slash ends the group
abbrev pub at_end : Bool → List Token → ℕ → Lexed
at_end comma before c = if c == 47 then lexed (before ++ token.Slash ∷ []) Done else (if is_separator comma c then lexed (before ++ token.Separator ∷ []) (Between true) else lexed before (Between true))

-- the first character of a token; directly behind `=` no comment begins
abbrev pub begun : Bool → ℕ → Lexed
begun fresh c =
    if c == 61 then lexed (token.Equals ∷ []) (Between false)
    else (if fresh && (c == 33) then lexed [] Comment
    else (if is_mark c then lexed [] (Inside (record { count = 1; mark = c; characters = [] })) else lexed [] (InWord (c ∷ []))))

-- a mark in a word: behind a repeat count alone it begins a delimited constant, else it is a character
abbrev pub marked : List ℕ → ℕ → Option (Option ℕ) → List ℕ → Lexed
marked cs mark (Some (Some count)) [] = lexed [] (Inside (record { count = count; mark = mark; characters = [] }))
marked cs mark (Some None) [] = lexed (token.Wrong ∷ []) Done
marked cs mark _ _ = lexed [] (InWord (cs ++ mark ∷ []))

-- one more character of a word
abbrev pub continued : List ℕ → ℕ → Lexed
continued cs c =
    if (c == 61) && ends_at_equals cs then lexed (token.Word cs ∷ token.Equals ∷ []) (Between false)
    else (if is_mark c then marked cs c (repeat_in cs) (behind_star cs) else lexed [] (InWord (cs ++ c ∷ [])))

abbrev pub with_character : Delimited → ℕ → Delimited
with_character d c = record d { characters = d.characters ++ c ∷ [] }

-- a character of a delimited constant
abbrev pub inside : Delimited → ℕ → State
inside d c = if c == d.mark then Behind d else Inside (with_character d c)

-- behind a mark: a doubled one is a character, else the constant has ended
abbrev pub behind : Bool → Delimited → ℕ → Lexed
behind comma d c =
    if c == d.mark then lexed [] (Inside (with_character d c))
    else (if ends_constant comma c then at_end comma (token.Constant d.count d.characters ∷ []) c else lexed (token.Wrong ∷ []) Done)

-- a character
abbrev pub stepped : Bool → State → ℕ → Lexed
stepped comma (Between fresh) c = if ends_constant comma c then at_end comma [] c else begun fresh c
stepped comma Comment c = lexed [] Comment
stepped comma (InWord cs) c = if ends_constant comma c then at_end comma (token.Word cs ∷ []) c else continued cs c
stepped comma (Inside d) c = lexed [] (inside d c)
stepped comma (Behind d) c = behind comma d c
stepped comma Done c = lexed [] Done

-- the end of a record
abbrev pub at_record_end : State → Lexed
at_record_end (Between fresh) = lexed [] (Between true)
at_record_end Comment = lexed [] (Between true)
at_record_end (InWord cs) = lexed (token.Word cs ∷ []) (Between true)
at_record_end (Inside d) = lexed [] (Inside d)
at_record_end (Behind d) = lexed (token.Constant d.count d.characters ∷ []) (Between true)
at_record_end Done = lexed [] Done

-- the end of the records
abbrev pub at_records_end : Condition → State → Token
at_records_end ending (Inside d) = token.Open ending
at_records_end ending _ = token.End ending

abbrev pub with_tokens : List Token → Lexed → Lexed
with_tokens before l = lexed (before ++ l.tokens) l.state

-- a record
abbrev pub line_lexed : Bool → State → List ℕ → Lexed
line_lexed comma state [] = at_record_end state
line_lexed comma state (c ∷ cs) = let l = stepped comma state c in with_tokens l.tokens (line_lexed comma l.state cs)

abbrev pub is_done : State → Bool
is_done Done = true
is_done _ = false

-- The tokens of records, up to a slash or to characters that are no constant, and the records behind those.
pub record Group : Type 0 where
  pub tokens : List Token
  pub left : List (List ℕ)

-- what follows a record: nothing where the group has ended in it
abbrev pub more_lexed : Bool → List (List ℕ) → Group → Group
more_lexed true lines more = record { tokens = []; left = lines }
more_lexed false lines more = more

abbrev pub behind_line : Lexed → Group → Group
behind_line l more = record { tokens = l.tokens ++ more.tokens; left = more.left }

abbrev pub lines_lexed : Bool → Condition → State → List (List ℕ) → Group
lines_lexed comma ending state [] = record { tokens = at_records_end ending state ∷ []; left = [] }
lines_lexed comma ending state (line ∷ lines) = let l = line_lexed comma state line in behind_line l (more_lexed (is_done l.state) lines (lines_lexed comma ending l.state lines))
