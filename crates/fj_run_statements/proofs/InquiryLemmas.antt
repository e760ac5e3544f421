-- Answers of INQUIRE, as the program and as plain data have them.
use Rattle.std.proofs.Common.{◌≡◌, map, ℕ, ◌<◌, Bool, true, false, List, [], ◌∷◌, ◌++◌, length, get_or, drop, Option, Some, None, refl, sym, ap, subst, ◌∙◌}
use Rattle.std.specs.Prelude.{ℤ, pos, ◌+◌, codes, filter, if◌then◌else◌, is_some}
use Rattle.std.proofs.lemmas.List.{at_drop_more}
use Rattle.std.specs.Option.{option_map, option_map_or}
use Rattle.fj_value.specs.Kind.{fits_bits}
use Rattle.fj_value.specs.declared.edit.Delim.{Delim}
use Rattle.fj_value.specs.declared.edit.Delim.TheVariants.{Plain, Apostrophe, Quote}
use Rattle.fj_value.specs.declared.kind.Kind.{Kind}
use Rattle.fj_value.specs.declared.kind.Kind.TheVariants.{Int4, Int8, Logical, Chars}
use Rattle.fj_value.specs.declared.value.Cell.{Cell}
use Rattle.fj_value.specs.declared.value.Value.TheVariants as value
use Rattle.fj_modes.specs.ModeWords as words
use Rattle.fj_modes.specs.Words.{same_access}
use Rattle.fj_modes.specs.declared.specifiers.Access.{Access}
use Rattle.fj_modes.specs.declared.specifiers.Access.TheVariants.{Sequential, Direct, Stream}
use Rattle.fj_modes.specs.declared.specifiers.Action.{Action}
use Rattle.fj_modes.specs.declared.specifiers.Action.TheVariants.{Read, Write, ReadWrite}
use Rattle.fj_modes.specs.declared.asked.Question.TheVariants as question
use Rattle.fj_modes.specs.declared.asked.Wanted.{Wanted}
use Rattle.fj_connect.specs.declared.spot.Look.{Look}
use Rattle.fj_statement.specs.declared.deck.Variable.{Variable}
use Rattle.fj_bay.specs.Jobs.{Looked}
use Rattle.fj_bay.specs.Plain.{looked_of, task_of}
use Rattle.fj_meaning.specs.Inquiring as plain
use Rattle.fj_meaning.specs.State.{Files}
use Rattle.fj_meaning.specs.Statement.{Stated, about_other, about_connected, file_asked, has_pending}
use Rattle.fj_inquire.specs.Inquiring as told
use Rattle.fj_inquire.specs.declared.connected.Connected.{Connected}
use Rattle.fj_run_items.proofs.Values.{cut_is}
use Rattle.std.proofs.Math.Path.{fun_ext}
use Rattle.std.specs.List.{list_any}
use Rattle.fj_value.specs.declared.condition.Condition.TheVariants.{Fine}
use Rattle.fj_statement.specs.Units.{number_from_code}
use Rattle.fj_statement.specs.declared.unit.Subject.{Subject}
use Rattle.fj_statement.specs.declared.statement.Operand.{Operand}
use Rattle.fj_statement.specs.declared.statement.Statement.{Statement}
use Rattle.fj_statement.specs.declared.statement.Statement.TheVariants as statement
use Rattle.fj_store.specs.Places.{places_in}
use Rattle.fj_store.specs.Storage.{Storage, with_value, values_of}
use Rattle.fj_store.specs.Variables.{Variables}
use Rattle.fj_meaning.specs.Items.{given_back}
use Rattle.fj_meaning.proofs.Stored.{set_is}
use Rattle.fj_run_items.specs.Kinds.{kinds_of}
use Rattle.fj_book.specs.Prohibitions.{Holder}
use Rattle.fj_bay.specs.Jobs as task
use Rattle.fj_bay.specs.declared.job.Job.TheVariants as job
use Rattle.fj_meaning.specs.Needs.{unit_about, number_given}
use Rattle.fj_meaning_jobs.specs.Core.{Core, Connected as PlainConnected, connected_at, unit_named, pending_holders}
use Rattle.fj_meaning_jobs.specs.Desks.{Outcome, look_in}
use Rattle.fj_meaning_jobs.specs.Doing.{Doing, finishes, awaits}
use Rattle.fj_meaning_jobs.specs.Acting.{answers, inquires, about_unit, asks_connection, unit_at}
use Rattle.fj_meaning_turns.specs.Run.{Held as PlainHeld}
use Rattle.fj_run_pending.specs.Plain.{held, holders}
use Rattle.fj_run_pending.specs.declared.held.Held.{Held}
use Rattle.fj_run_statements.specs.State.{core_of}
use Rattle.fj_run_statements.specs.Doing.{IsDoing, AsksAbout, looks, looks_at}
use Rattle.fj_run_statements.specs.declared.state.Core.{Core as Kept}
use Rattle.fj_run_statements.specs.declared.doing.Then.TheVariants as then
use Rattle.fj_run_statements.specs.declared.doing.Doing.TheVariants as doing
use Rattle.fj_run_statements.specs.Answers.{answer_of, AnswersAlike}

-- ---- the same answers

-- of a unit that is not connected
pub unit_alike : (files : Files) → AnswersAlike told.unit (about_other files None)
unit_alike files question.Exist = refl
unit_alike files question.Opened = refl
unit_alike files question.Number = refl
unit_alike files question.Named = refl
unit_alike files question.Name = refl
unit_alike files question.Access = refl
unit_alike files question.Form = refl
unit_alike files question.Recl = refl
unit_alike files question.Nextrec = refl
unit_alike files question.Pos = refl
unit_alike files question.Size = refl
unit_alike files question.Blank = refl
unit_alike files question.Delim = refl
unit_alike files question.Pad = refl
unit_alike files question.Decimal = refl
unit_alike files question.Sign = refl
unit_alike files question.Action = refl
unit_alike files question.Asynchronous = refl
unit_alike files question.Pending = refl

-- of a file that is not connected
pub file_alike : (files : Files) (name : List ℕ) (there : Bool) → there ≡ is_some (files name) → AnswersAlike (told.file name there) (about_other files (Some name))
file_alike files name there e question.Exist = ap plain.truth e
file_alike files name there e question.Opened = refl
file_alike files name there e question.Number = refl
file_alike files name there e question.Named = refl
file_alike files name there e question.Name = refl
file_alike files name there e question.Access = refl
file_alike files name there e question.Form = refl
file_alike files name there e question.Recl = refl
file_alike files name there e question.Nextrec = refl
file_alike files name there e question.Pos = refl
file_alike files name there e question.Size = refl
file_alike files name there e question.Blank = refl
file_alike files name there e question.Delim = refl
file_alike files name there e question.Pad = refl
file_alike files name there e question.Decimal = refl
file_alike files name there e question.Sign = refl
file_alike files name there e question.Action = refl
file_alike files name there e question.Asynchronous = refl
file_alike files name there e question.Pending = refl

named : (b : Bool) (name : List ℕ) → answer_of (if b then told.nothing else told.word name) ≡ (if b then plain.nothing else plain.word name)
named true name = refl
named false name = refl

access_named : (a : Access) → words.access_word a ≡ plain.access_word a
access_named Sequential = refl
access_named Direct = refl
access_named Stream = refl

action_named : (a : Action) → words.action_word a ≡ plain.action_word a
action_named Read = refl
action_named Write = refl
action_named ReadWrite = refl

delim_named : (d : Delim) → words.delim_word d ≡ plain.delim_word d
delim_named Plain = refl
delim_named Apostrophe = refl
delim_named Quote = refl

form_alike : (b : Bool) → answer_of (told.word (words.form_word b)) ≡ plain.word (if b then codes "FORMATTED" else codes "UNFORMATTED")
form_alike true = refl
form_alike false = refl

edit_alike : (b : Bool) (w v : List ℕ) → w ≡ v → answer_of (if b then told.word w else told.undefined) ≡ plain.word (if b then v else codes "UNDEFINED")
edit_alike true w v e = ap plain.word e
edit_alike false w v e = refl

blank_named : (b : Bool) → words.blank_word b ≡ (if b then codes "ZERO" else codes "NULL")
blank_named true = refl
blank_named false = refl

decimal_named : (b : Bool) → words.decimal_word b ≡ (if b then codes "COMMA" else codes "POINT")
decimal_named true = refl
decimal_named false = refl

sign_named : (b : Bool) → words.sign_word b ≡ (if b then codes "PLUS" else codes "SUPPRESS")
sign_named true = refl
sign_named false = refl

answer_named : (b : Bool) → words.answer_word b ≡ plain.yes_no b
answer_named true = refl
answer_named false = refl

length_alike : (a : Access) (n : ℕ) → answer_of (if same_access a Stream then told.nothing else told.number (pos n)) ≡ (if plain.is_stream a then plain.nothing else plain.number (pos n))
length_alike Sequential n = refl
length_alike Direct n = refl
length_alike Stream n = refl

next_alike : (a : Access) (look : Option Look) → answer_of (if same_access a Direct then told.looked look (λ l. told.number (pos l.spot.next_number)) else told.nothing)
    ≡ (if plain.is_direct a then plain.looked (option_map looked_of look) (λ l. plain.number (pos l.spot.next_number)) else plain.nothing)
next_alike Sequential look = refl
next_alike Direct None = refl
next_alike Direct (Some look) = refl
next_alike Stream look = refl

place_alike : (a : Access) (look : Option Look) → answer_of (if same_access a Stream then told.looked look (λ l. told.number (pos (l.spot.at + 1))) else told.nothing)
    ≡ (if plain.is_stream a then plain.looked (option_map looked_of look) (λ l. plain.number (pos (l.spot.at + 1))) else plain.nothing)
place_alike Sequential look = refl
place_alike Direct look = refl
place_alike Stream None = refl
place_alike Stream (Some look) = refl

size_alike : (look : Option Look) → answer_of (told.looked look (λ l. told.number (pos l.size))) ≡ plain.looked (option_map looked_of look) (λ l. plain.number (pos l.size))
size_alike None = refl
size_alike (Some look) = refl

-- of a connection
pub connection_alike : (n : ℕ) (file : Option (List ℕ)) (c : Connected) (look : Option Look) (pending : Bool)
    → AnswersAlike (told.connection (number_from_code n) c look pending) (about_connected n file c.name c.modes (option_map looked_of look) pending)
connection_alike n file c look pending question.Exist = refl
connection_alike n file c look pending question.Opened = refl
connection_alike n file c look pending question.Number = refl
connection_alike n file c look pending question.Named = refl
connection_alike n file c look pending question.Name = named c.modes.scratch c.name
connection_alike n file c look pending question.Access = ap plain.word (access_named c.modes.access)
connection_alike n file c look pending question.Form = form_alike c.modes.formatted
connection_alike n file c look pending question.Recl = length_alike c.modes.access c.modes.recl
connection_alike n file c look pending question.Nextrec = next_alike c.modes.access look
connection_alike n file c look pending question.Pos = place_alike c.modes.access look
connection_alike n file c look pending question.Size = size_alike look
connection_alike n file c look pending question.Blank = edit_alike c.modes.formatted (words.blank_word c.modes.edit.blank_zero) (if c.modes.edit.blank_zero then codes "ZERO" else codes "NULL") (blank_named c.modes.edit.blank_zero)
connection_alike n file c look pending question.Delim = edit_alike c.modes.formatted (words.delim_word c.modes.edit.delim) (plain.delim_word c.modes.edit.delim) (delim_named c.modes.edit.delim)
connection_alike n file c look pending question.Pad = edit_alike c.modes.formatted (words.answer_word c.modes.edit.pad) (plain.yes_no c.modes.edit.pad) (answer_named c.modes.edit.pad)
connection_alike n file c look pending question.Decimal = edit_alike c.modes.formatted (words.decimal_word c.modes.edit.comma) (if c.modes.edit.comma then codes "COMMA" else codes "POINT") (decimal_named c.modes.edit.comma)
connection_alike n file c look pending question.Sign = edit_alike c.modes.formatted (words.sign_word c.modes.edit.plus) (if c.modes.edit.plus then codes "PLUS" else codes "SUPPRESS") (sign_named c.modes.edit.plus)
connection_alike n file c look pending question.Action = ap plain.word (action_named c.modes.action)
connection_alike n file c look pending question.Asynchronous = ap plain.word (answer_named c.modes.asynchronous)
connection_alike n file c look pending question.Pending = refl

-- ---- values

number_by : (b : Bool) (n : ℤ) → option_map_or value.Int (let o : Option ℤ = if b then Some n else None in o) value.Undefined ≡ (if b then value.Int n else value.Undefined)
number_by true n = refl
number_by false n = refl

value_same : (kind : Kind) (a : told.Answer) → told.value_for kind a ≡ plain.value_for kind (answer_of a)
value_same kind (told.truth b) = refl
value_same kind told.nothing = refl
value_same Int4 (told.number n) = number_by (fits_bits 32 n) n
value_same Int8 (told.number n) = number_by (fits_bits 64 n) n
value_same Logical (told.number n) = refl
value_same (Chars k) (told.number n) = refl
value_same Int4 (told.word cs) = refl
value_same Int8 (told.word cs) = refl
value_same Logical (told.word cs) = refl
value_same (Chars k) (told.word cs) = ap value.Chars (sym (cut_is k cs))

-- ---- cells

cells_same : (about : told.About) (p : plain.About) (asked : List Wanted) → AnswersAlike about p → told.inquired about asked ≡ plain.inquired p asked
cells_same about p [] alike = refl
cells_same about p (w ∷ asked) alike =
    ap (λ v. (let cell : Cell = record { place = w.place; kind = w.kind; value = v } in cell) ∷ told.inquired about asked)
    (value_same w.kind (told.answer_to about w.what) ∙ ap (plain.value_for w.kind) (alike w.what))
    ∙ ap (λ cells. (let cell : Cell = record { place = w.place; kind = w.kind; value = plain.value_for w.kind (plain.answer_to p w.what) } in cell) ∷ cells)
    (cells_same about p asked alike)

-- they come behind none
pub alone : (out old due : List Cell) → out ≡ old ++ due → old ≡ [] → out ≡ due
alone out old due is none = is ∙ ap (λ cells. cells ++ due) none

-- ---- PENDING= is false, and nothing else is answered

-- one question more
module _ (variables : List Variable) (s new : Storage) (asked : List Wanted) (i : ℕ) (d : Wanted) (want : Variables) (low : i < length asked) where
  -- what is given back by whether it is PENDING=
  abbrev given_where : Bool → Variables
  given_where b =
      let rest : List Wanted = filter (λ (w : Wanted). plain.asks_pending w.what) (drop (i + 1) asked) in
      given_back variables (map (λ (w : Wanted). (let cell : Cell = record { place = w.place; kind = w.kind; value = value.Log false } in cell)) (if b then get_or asked i d ∷ rest else rest)) (values_of s)

  given_so_far : (b : Bool) → plain.asks_pending (get_or asked i d).what ≡ b → given_back variables (plain.none_pending (drop i asked)) (values_of s) ≡ want → given_where b ≡ want
  given_so_far b is so_far = sym (ap given_where is) ∙ sym (at_drop_more (λ ws. given_back variables (plain.none_pending ws) (values_of s)) asked i d low) ∙ so_far

  pub pending_given : plain.asks_pending (get_or asked i d).what ≡ true → s.kinds ≡ kinds_of variables → new ≡ with_value s (get_or asked i d).place (value.Log false)
      → given_back variables (plain.none_pending (drop i asked)) (values_of s) ≡ want → given_back variables (plain.none_pending (drop (i + 1) asked)) (values_of new) ≡ want
  pending_given is kinds put so_far =
      ap (given_back variables (plain.none_pending (drop (i + 1) asked))) (set_is variables s new (get_or asked i d).place (value.Log false) kinds put) ∙ given_so_far true is so_far

  pub other_given : plain.asks_pending (get_or asked i d).what ≡ false → new ≡ s
      → given_back variables (plain.none_pending (drop i asked)) (values_of s) ≡ want → given_back variables (plain.none_pending (drop (i + 1) asked)) (values_of new) ≡ want
  other_given is same so_far = ap (λ (x : Storage). given_back variables (plain.none_pending (drop (i + 1) asked)) (values_of x)) same ∙ given_so_far false is so_far

-- ---- pending transfers

book_is : (hs : List Held) → holders hs ≡ pending_holders (map (λ (h : PlainHeld). h.pending) (held hs))
book_is [] = refl
book_is (h ∷ hs) = ap (λ l. (let r : Holder = record { id = h.tag.0; unit = h.unit; input = h.input; places = places_in h.runs } in r) ∷ l) (book_is hs)

-- ---- what is done

pub answers_is : (variables : List Variable) (files : Files) (old : Kept) (new : Storage) (cells : List Cell) (asked : List Wanted) (about : told.About) (p : plain.About)
    → cells ≡ told.inquired about asked → AnswersAlike about p → values_of new ≡ given_back variables cells (values_of old.store)
    → answers variables (core_of files old) p asked ≡ finishes (record (core_of files old) { vars = values_of new }) Fine
answers_is variables files old new cells asked about p is alike back =
    let values : values_of new ≡ given_back variables (plain.inquired p asked) (values_of old.store) =
    back ∙ ap (λ cs. given_back variables cs (values_of old.store)) (is ∙ cells_same about p asked alike) in
    ap (λ v. finishes (record (core_of files old) { vars = v }) Fine) (sym values)

-- of a unit that is connected
pub unit_answers_alike : (files : Files) (old : Kept) (o : Option ℕ) (n : ℕ) (u : PlainConnected) (file : Option (List ℕ)) (id : Option ℤ) (look : Option Look) (c : Connected) (pending : Bool)
    → Some n ≡ o → u.number ≡ n → c.name ≡ u.name → c.modes ≡ u.modes → pending ≡ has_pending (holders old.pending) (Some n) id
    → AnswersAlike (told.connection (number_from_code n) c look pending) (about_unit (core_of files old) o file id u (option_map looked_of look))
unit_answers_alike files old o n u file id look c pending at number name modes is =
    let seen : Option Looked = option_map looked_of look in
    let here : List Holder = pending_holders (core_of files old).book in
    subst (λ p. AnswersAlike (told.connection (number_from_code n) c look pending) p)
    (ap (λ b. about_connected n file c.name c.modes seen b) (is ∙ ap (λ hs. has_pending hs (Some n) id) (book_is old.pending) ∙ ap (λ x. has_pending here x id) at)
    ∙ ap (λ m. about_connected n file c.name m seen (has_pending here o id)) modes
    ∙ ap (λ m. about_connected n file m u.modes seen (has_pending here o id)) name
    ∙ ap (λ m. about_connected m file u.name u.modes seen (has_pending here o id)) (sym number))
    (connection_alike n file c look pending)

pub look_none : (variables : List Variable) (core : Core) (o : Option ℕ) (file : Option (List ℕ)) (asked : List Wanted) (id : Option ℤ) (look : Option Looked) → None ≡ o
    → looks_at variables core o file asked id (unit_at core o) look ≡ finishes core Fine
look_none variables core o file asked id look e = ap (λ x. looks_at variables core x file asked id (unit_at core x) look) (sym e)

at_unit : (core : Core) (o : Option ℕ) (n : ℕ) (r : Option PlainConnected) → Some n ≡ o → r ≡ connected_at core.units n → unit_at core o ≡ r
at_unit core o n r at is = ap (unit_at core) (sym at) ∙ sym is

pub look_unknown : (variables : List Variable) (core : Core) (o : Option ℕ) (n : ℕ) (file : Option (List ℕ)) (asked : List Wanted) (id : Option ℤ) (look : Option Looked) → Some n ≡ o → None ≡ connected_at core.units n
    → looks_at variables core o file asked id (unit_at core o) look ≡ finishes core Fine
look_unknown variables core o n file asked id look at none = ap (λ r. looks_at variables core o file asked id r look) (at_unit core o n None at none)

pub look_known : (variables : List Variable) (core : Core) (o : Option ℕ) (n : ℕ) (u : PlainConnected) (file : Option (List ℕ)) (asked : List Wanted) (id : Option ℤ) (look : Option Looked) → Some n ≡ o → Some u ≡ connected_at core.units n
    → looks_at variables core o file asked id (unit_at core o) look ≡ answers variables core (about_unit core o file id u look) asked
look_known variables core o n u file asked id look at is = ap (λ r. looks_at variables core o file asked id r look) (at_unit core o n (Some u) at is)

-- ---- INQUIRE as a whole

pub inquires_none : (variables : List Variable) (core : Core) (o : Option ℕ) (file : Option (List ℕ)) (asked : List Wanted) (id : Option ℤ) → None ≡ o
    → inquires variables core o file asked id (unit_at core o) ≡ answers variables core (about_other core.files file) asked
inquires_none variables core o file asked id e = ap (λ x. inquires variables core x file asked id (unit_at core x)) (sym e)

pub inquires_unknown : (variables : List Variable) (core : Core) (o : Option ℕ) (n : ℕ) (file : Option (List ℕ)) (asked : List Wanted) (id : Option ℤ) → Some n ≡ o → None ≡ connected_at core.units n
    → inquires variables core o file asked id (unit_at core o) ≡ answers variables core (about_other core.files file) asked
inquires_unknown variables core o n file asked id at none = ap (λ r. inquires variables core o file asked id r) (at_unit core o n None at none)

abbrev either_way : List Variable → Core → Option ℕ → Option (List ℕ) → List Wanted → Option ℤ → PlainConnected → Bool → Doing
either_way variables core o file asked id u b =
    if b then awaits u.slot (task.look None) core (λ x. answers variables core (about_unit core o file id u (look_in x.0)) asked) else answers variables core (about_unit core o file id u None) asked

inquires_by : (variables : List Variable) (core : Core) (o : Option ℕ) (n : ℕ) (u : PlainConnected) (file : Option (List ℕ)) (asked : List Wanted) (id : Option ℤ) (b : Bool) → Some n ≡ o → Some u ≡ connected_at core.units n
    → b ≡ list_any (λ (w : Wanted). asks_connection w.what) asked → inquires variables core o file asked id (unit_at core o) ≡ either_way variables core o file asked id u b
inquires_by variables core o n u file asked id b at is needs =
    ap (λ r. inquires variables core o file asked id r) (at_unit core o n (Some u) at is) ∙ ap (either_way variables core o file asked id u) (sym needs)

-- the connection is not looked at
pub inquires_at_once : (variables : List Variable) (core : Core) (o : Option ℕ) (n : ℕ) (u : PlainConnected) (file : Option (List ℕ)) (asked : List Wanted) (id : Option ℤ) → Some n ≡ o → Some u ≡ connected_at core.units n
    → false ≡ list_any (λ (w : Wanted). asks_connection w.what) asked → inquires variables core o file asked id (unit_at core o) ≡ looks_at variables core o file asked id (unit_at core o) None
inquires_at_once variables core o n u file asked id at is needs = inquires_by variables core o n u file asked id false at is needs ∙ sym (look_known variables core o n u file asked id None at is)

looks_is : (variables : List Variable) (core : Core) (what : Statement) (subject : Subject) (asked : List Wanted) (id : Option Operand) (x : Outcome) → AsksAbout what subject asked id
    → looks variables core what x ≡ looks_at variables core (unit_about (unit_named core.units) subject) (file_asked subject) asked (number_given core.vars id) (unit_at core (unit_about (unit_named core.units) subject)) (look_in x.0)
looks_is variables core (statement.Inquire about wanted given iostat is_done) subject asked id x (same, wants, gives) =
    ap (λ (s : Subject). looks variables core (statement.Inquire s wanted given iostat is_done) x) same
    ∙ ap (λ (ws : List Wanted). looks variables core (statement.Inquire subject ws given iostat is_done) x) wants
    ∙ ap (λ (i : Option Operand). looks variables core (statement.Inquire subject asked i iostat is_done) x) gives
looks_is variables core (statement.Assign to from) subject asked id x asks = absurd asks
looks_is variables core (statement.OpenUnit unit spec iostat) subject asked id x asks = absurd asks
looks_is variables core (statement.CloseUnit unit keep iostat) subject asked id x asks = absurd asks
looks_is variables core (statement.WaitFor unit given iostat) subject asked id x asks = absurd asks
looks_is variables core (statement.Move how unit iostat) subject asked id x asks = absurd asks
looks_is variables core (statement.Transfer t) subject asked id x asks = absurd asks
looks_is variables core statement.End subject asked id x asks = absurd asks

-- the connection is looked at first
pub inquires_later : {F : Type 0} (reads : F → Bool) (bytes : F → List ℕ) (variables : List Variable) (st : Stated) (core : Core) (n : ℕ) (u : PlainConnected) (subject : Subject) (asked : List Wanted) (id : Option Operand) (place : Option Look)
    → Some n ≡ unit_about (unit_named core.units) subject → Some u ≡ connected_at core.units n → true ≡ list_any (λ (w : Wanted). asks_connection w.what) asked → AsksAbout st.0.what subject asked id → place ≡ None
    → IsDoing reads bytes variables st core (doing.Awaits u.slot (job.Look place) then.Looks)
    (inquires variables core (unit_about (unit_named core.units) subject) (file_asked subject) asked (number_given core.vars id) (unit_at core (unit_about (unit_named core.units) subject)))
inquires_later reads bytes variables st core n u subject asked id place at is needs asks empty =
    let o : Option ℕ = unit_about (unit_named core.units) subject in
    let given : Option ℤ = number_given core.vars id in
    record {
      task = task.look None;
      is = ap (λ (p : Option Look). task_of reads bytes (job.Look p)) empty;
      gives =
          inquires_by variables core o n u (file_asked subject) asked given true at is needs
          ∙ ap (awaits u.slot (task.look None) core)
          (fun_ext (λ x. sym (looks_is variables core st.0.what subject asked id x asks ∙ look_known variables core o n u (file_asked subject) asked given (look_in x.0) at is)));
    }
