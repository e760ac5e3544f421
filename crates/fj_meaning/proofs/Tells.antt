-- Waits and tells: those that are waited for are chosen from the pending ones, and the others stay.
use Rattle.std.proofs.Common.{◌≡◌, ℕ, ℤ, pos, ◌<◌, Bool, true, false, not, List, [], ◌∷◌, ◌++◌, map, get_or, Option, Some, None, refl, sym, ap, ◌∙◌, subst, ◌&&◌, ◌||◌, arith}
use Rattle.std.specs.Prelude.{◌==◌, if◌then◌else◌, filter}
use Rattle.std.specs.List.{All, AllPairs, list_any}
use Rattle.std.specs.Ordering.{int_eq}
use Rattle.std.proofs.lemmas.Bool.{eq-eqb, eqb-true, ne_eqb}
use Rattle.std.proofs.lemmas.List.Elements.{All-nil, All-cons, All-head, All-tail, All-filter, All-weaker}
use Rattle.std.proofs.lemmas.List.Folds.{list_any_none}
use Rattle.fj_value.specs.declared.condition.Condition.{Condition}
use Rattle.fj_value.specs.declared.condition.Condition.TheVariants.{Fine, EndOfFile, EndOfRecord, Error}
use Rattle.fj_statement.specs.declared.deck.Variable.{Variable}
use Rattle.fj_statement.specs.declared.statement.Statement.{Statement}
use Rattle.fj_statement.specs.declared.statement.Statement.TheVariants as statement
use Rattle.fj_meaning.specs.Needs.{number_of, number_of_subject, given_number}
use Rattle.fj_meaning.specs.Telling.{of_unit, of_id, graver, condition_of, waited_by, if_done, waited, is_asynchronous, is_told, after_tells}
use Rattle.fj_meaning.specs.State.{State, Unit, Entry, halts}
use Rattle.fj_meaning.specs.Reaching.{cause_of}
use Rattle.fj_meaning.specs.HaltLaws.{IsSkipped}
use Rattle.fj_meaning.proofs.Lists.{no, pairs_head, pairs_tail, all_both, filter_where, filter_true, filter_false, filter_two, all_passing, none_passes}

-- ---- nothing told changes nothing

append_none : {X : Type 0} (xs : List X) → xs ++ [] ≡ xs
append_none [] = refl
append_none (x ∷ xs) = ap (λ l. x ∷ l) (append_none xs)

map_same : {X : Type 0} (f : X → X) (xs : List X) → ((x : X) → f x ≡ x) → map f xs ≡ xs
map_same f [] h = refl
map_same f (x ∷ xs) h = ap (λ y. y ∷ map f xs) (h x) ∙ ap (λ l. x ∷ l) (map_same f xs h)

pub no_tells : (variables : List Variable) (line : ℕ) (s : State) → after_tells variables line [] s ≡ s
no_tells variables line s =
    ap (λ b. record s { book = b; units = map (λ (u : Unit). record u { halt = u.halt }) s.units; tells = s.tells ++ [] }) (filter_true s.book)
    ∙ ap (λ us. record s { units = us; tells = s.tells ++ [] }) (map_same (λ (u : Unit). record u { halt = u.halt }) s.units (λ u. refl))
    ∙ ap (λ ts. record s { tells = ts }) (append_none s.tells)

-- ---- the grave ones

graver_halts : (c d : Condition) → halts (graver c d) ≡ (halts c || halts d)
graver_halts Fine d = refl
graver_halts EndOfFile Fine = refl
graver_halts EndOfFile EndOfFile = refl
graver_halts EndOfFile EndOfRecord = refl
graver_halts EndOfFile (Error n) = refl
graver_halts EndOfRecord Fine = refl
graver_halts EndOfRecord EndOfFile = refl
graver_halts EndOfRecord EndOfRecord = refl
graver_halts EndOfRecord (Error n) = refl
graver_halts (Error n) d = refl

condition_halts : (es : List Entry) → halts (condition_of es) ≡ list_any (λ (e : Entry). halts e.condition) es
condition_halts [] = refl
condition_halts (e ∷ es) = graver_halts e.condition (condition_of es) ∙ ap (λ b. halts e.condition || b) (condition_halts es)

-- ---- chosen ones

abbrev pub rising : Entry → Entry → Type 0
rising a b = a.id < b.id

abbrev pub left : (Entry → Bool) → List Entry → List Entry
left q book = filter (λ e. not (q e)) book

not_told : (x : Entry) (q : Entry → Bool) (xs : List Entry) → All (λ (y : Entry). x.id < y.id) xs → is_told (filter q xs) x ≡ false
not_told x q xs h =
    list_any_none (λ (y : Entry). y.id == x.id) (filter q xs)
    (All-filter q (λ (y : Entry). (y.id == x.id) ≡ false) xs (All-weaker (λ (y : Entry). x.id < y.id) (λ (y : Entry). (y.id == x.id) ≡ false) (λ y lt. ne_eqb y.id x.id (λ e. absurd (omega (arith, lt, e)))) xs h))

-- those of a list that are told with its chosen ones are the chosen ones
told_chosen : (q : Entry → Bool) (xs : List Entry) → AllPairs rising xs → All (λ e. is_told (filter q xs) e ≡ q e) xs
told_chosen q [] h = All-nil (λ e. is_told (filter q []) e ≡ q e)
told_chosen q (x ∷ xs) h =
    All-cons (λ e. is_told (filter q (x ∷ xs)) e ≡ q e) x xs (head (q x) (not_told x q xs (pairs_head rising x xs h)))
    (all_both (λ (y : Entry). x.id < y.id) (λ e. is_told (filter q xs) e ≡ q e) (λ e. is_told (filter q (x ∷ xs)) e ≡ q e) xs (λ e lt k. rest e (q x) lt k) (pairs_head rising x xs h) (told_chosen q xs (pairs_tail rising x xs h)))
  where
    head : (b : Bool) → is_told (filter q xs) x ≡ false → is_told (if b then x ∷ filter q xs else filter q xs) x ≡ b
    head true e = ap (λ k. k || is_told (filter q xs) x) (eq-eqb x.id x.id refl)
    head false e = e

    rest : (e : Entry) (b : Bool) → x.id < e.id → is_told (filter q xs) e ≡ q e → is_told (if b then x ∷ filter q xs else filter q xs) e ≡ q e
    rest e true lt k = ap (λ j. j || is_told (filter q xs) e) (ne_eqb x.id e.id (λ i. absurd (omega (arith, lt, i)))) ∙ k
    rest e false lt k = k

pub left_over : (q : Entry → Bool) (xs : List Entry) → AllPairs rising xs → filter (λ e. not (is_told (filter q xs) e)) xs ≡ left q xs
left_over q xs h =
    filter_where (λ e. not (is_told (filter q xs) e)) (λ e. not (q e)) xs
    (All-weaker (λ e. is_told (filter q xs) e ≡ q e) (λ e. not (is_told (filter q xs) e) ≡ not (q e)) (λ e k. ap not k) xs (told_chosen q xs h))

-- where one that halts is told, so are all of its unit
abbrev pub Whole : (Entry → Bool) → List Entry → Type 0
Whole q book = All (λ (e : Entry). q e ≡ true → halts e.condition ≡ true → (f : Entry) → (f.unit == e.unit) ≡ true → q f ≡ true) book

-- the unit of which all pending transfers are waited for
abbrev pub emptied : Statement → Option ℕ
emptied (statement.OpenUnit u spec iostat) = number_of u
emptied (statement.CloseUnit u keep iostat) = number_of u
emptied (statement.Move how u iostat) = number_of u
emptied (statement.Transfer t) = if is_asynchronous t then None else number_of t.unit
emptied _ = None

-- Those that a statement waits for are chosen from the pending ones, and among them are all of the unit that it empties.
pub record Chosen (book es : List Entry) (number : Option ℕ) : Type 0 where
  pub q : Entry → Bool
  pub are : es ≡ filter q book
  pub whole : Whole q book
  pub unit : (n : ℕ) → number ≡ Some n → (e : Entry) → (e.unit == n) ≡ true → q e ≡ true

chosen_none : (book : List Entry) → Chosen book [] None
chosen_none book = record { q = λ _. false; are = sym (filter_false book); whole = λ k d within e. no e; unit = λ n e f k. cc }

whole_unit : (n : ℕ) (book : List Entry) → Whole (λ e. e.unit == n) book
whole_unit n book k d within q g f e = eq-eqb f.unit n (eqb-true f.unit (get_or book k d).unit e ∙ eqb-true (get_or book k d).unit n q)

chosen_by : (book : List Entry) (number : Option ℕ) → Chosen book (of_unit book number) number
chosen_by book None = chosen_none book
chosen_by book (Some n) = record { q = λ e. e.unit == n; are = refl; whole = whole_unit n book; unit = λ m e f k. let same : n ≡ m = cc in eq-eqb f.unit n (eqb-true f.unit m k ∙ sym same) }

of_all : {book es : List Entry} {number : Option ℕ} → Chosen book es number → Chosen book es None
of_all c = record { q = c.q; are = c.are; whole = c.whole; unit = λ n e f k. cc }

chosen_id : (book : List Entry) (number : Option ℕ) (id : ℤ) → halts (condition_of (of_id book number id)) ≡ false → Chosen book (of_id book number id) None
chosen_id book None id e = chosen_none book
chosen_id book (Some n) id e = record { q = both; are = two; whole = λ k d within q g f i. no (sym (mild k d within q) ∙ g); unit = λ m i f k. cc }
  where
    both : Entry → Bool
    both x = (x.unit == n) && int_eq (pos x.id) id

    two : of_id book (Some n) id ≡ filter both book
    two = filter_two (λ (x : Entry). int_eq (pos x.id) id) (λ (x : Entry). x.unit == n) book

    mild : All (λ (x : Entry). both x ≡ true → halts x.condition ≡ false) book
    mild =
        all_passing both (λ (x : Entry). halts x.condition ≡ false) book
        (subst (All (λ (x : Entry). halts x.condition ≡ false)) two
        (none_passes (λ (x : Entry). halts x.condition) (of_id book (Some n) id) (sym (condition_halts (of_id book (Some n) id)) ∙ e)))

chosen_wait : (book : List Entry) (number : Option ℕ) (id : Option ℤ) → Chosen book (waited_by book number id) None
chosen_wait book number None = of_all (chosen_by book number)
chosen_wait book number (Some id) = by (halts (condition_of (of_id book number id))) refl
  where
    by : (b : Bool) → halts (condition_of (of_id book number id)) ≡ b → Chosen book (if b then of_unit book number else of_id book number id) None
    by true e = of_all (chosen_by book number)
    by false e = chosen_id book number id e

chosen_done : (book es : List Entry) (done : Option Bool) → Chosen book es None → Chosen book (if_done done es) None
chosen_done book es (Some true) c = c
chosen_done book es (Some false) c = chosen_none book
chosen_done book es None c = chosen_none book

pub chosen : (s : State) (what : Statement) → Chosen s.book (waited s what) (emptied what)
chosen s (statement.Assign to from) = chosen_none s.book
chosen s (statement.OpenUnit u spec iostat) = chosen_by s.book (number_of u)
chosen s (statement.CloseUnit u keep iostat) = chosen_by s.book (number_of u)
chosen s (statement.WaitFor u id iostat) = chosen_wait s.book (number_of u) (given_number s id)
chosen s (statement.Move how u iostat) = chosen_by s.book (number_of u)
chosen s (statement.Inquire about asked id iostat done) =
    chosen_done s.book (waited_by s.book (number_of_subject about) (given_number s id)) done (chosen_wait s.book (number_of_subject about) (given_number s id))
chosen s (statement.Transfer t) = by (is_asynchronous t)
  where
    by : (b : Bool) → Chosen s.book (if b then [] else of_unit s.book (number_of t.unit)) (if b then None else number_of t.unit)
    by true = chosen_none s.book
    by false = chosen_by s.book (number_of t.unit)
chosen s statement.End = record { q = λ _. true; are = sym (filter_true s.book); whole = λ k d within e g f i. refl; unit = λ n e f k. refl }

-- END leaves none
pub none_left : (book : List Entry) → AllPairs rising book → filter (λ e. not (is_told book e)) book ≡ []
none_left book h = ap (λ es. filter (λ e. not (is_told es e)) book) (sym (filter_true book)) ∙ left_over (λ _. true) book h ∙ filter_false book

-- a statement that empties a unit leaves none of it
pub emptied_left : (q : Entry → Bool) (n : ℕ) (book : List Entry) → ((e : Entry) → (e.unit == n) ≡ true → q e ≡ true) → All (λ (e : Entry). (e.unit == n) ≡ false) (left q book)
emptied_left q n [] h = All-nil (λ (e : Entry). (e.unit == n) ≡ false)
emptied_left q n (x ∷ xs) h = by (q x) (x.unit == n) refl (h x) (emptied_left q n xs h)
  where
    by : (b c : Bool) → (x.unit == n) ≡ c → (c ≡ true → b ≡ true) → All (λ (e : Entry). (e.unit == n) ≡ false) (left q xs)
        → All (λ (e : Entry). (e.unit == n) ≡ false) (if not b then x ∷ left q xs else left q xs)
    by true c e f k = k
    by false true e f k = no (f refl)
    by false false e f k = All-cons (λ (y : Entry). (y.unit == n) ≡ false) x (left q xs) e k

-- ---- the cause of a halt

abbrev pub halting : ℕ → Entry → Bool
halting n e = (e.unit == n) && halts e.condition

pub no_cause : (n : ℕ) (book : List Entry) → All (λ (e : Entry). (e.unit == n) ≡ false) book → cause_of book n ≡ None
no_cause n [] h = refl
no_cause n (x ∷ xs) h =
    ap (λ b. if b && halts x.condition then Some x.condition else cause_of xs n) (All-head (λ (e : Entry). (e.unit == n) ≡ false) x xs h)
    ∙ no_cause n xs (All-tail (λ (e : Entry). (e.unit == n) ≡ false) x xs h)

cause_stays : (q : Entry → Bool) (n : ℕ) (book : List Entry) → list_any (halting n) (filter q book) ≡ false → cause_of book n ≡ cause_of (left q book) n
cause_stays q n [] h = refl
cause_stays q n (x ∷ xs) h = by (q x) (halting n x) refl h (cause_stays q n xs)
  where
    by : (b c : Bool) → halting n x ≡ c → list_any (halting n) (if b then x ∷ filter q xs else filter q xs) ≡ false → (list_any (halting n) (filter q xs) ≡ false → cause_of xs n ≡ cause_of (left q xs) n)
        → (if c then Some x.condition else cause_of xs n) ≡ cause_of (if not b then x ∷ left q xs else left q xs) n
    by true true e h f = no (sym (ap (λ k. k || list_any (halting n) (filter q xs)) (sym e) ∙ h))
    by true false e h f = f (ap (λ k. k || list_any (halting n) (filter q xs)) (sym e) ∙ h)
    by false true e h f = ap (λ k. if k then Some x.condition else cause_of (left q xs) n) (sym e)
    by false false e h f = f h ∙ ap (λ k. if k then Some x.condition else cause_of (left q xs) n) (sym e)

-- one that halts is told, so all of its unit are
all_of : (q : Entry → Bool) (n : ℕ) (xs : List Entry) → Whole q xs → list_any (halting n) (filter q xs) ≡ true → (f : Entry) → (f.unit == n) ≡ true → q f ≡ true
all_of q n [] w h f e = no h
all_of q n (x ∷ xs) w h f e =
    by (all_of q n xs (All-tail (λ (e : Entry). q e ≡ true → halts e.condition ≡ true → (g : Entry) → (g.unit == e.unit) ≡ true → q g ≡ true) x xs w)) (q x) (x.unit == n) (halts x.condition) refl refl refl h
  where
    first : q x ≡ true → (x.unit == n) ≡ true → halts x.condition ≡ true → q f ≡ true
    first a b c =
        All-head (λ (e : Entry). q e ≡ true → halts e.condition ≡ true → (g : Entry) → (g.unit == e.unit) ≡ true → q g ≡ true) x xs w a c f
        (eq-eqb f.unit x.unit (eqb-true f.unit n e ∙ sym (eqb-true x.unit n b)))

    by : (list_any (halting n) (filter q xs) ≡ true → (g : Entry) → (g.unit == n) ≡ true → q g ≡ true) → (a b c : Bool) → q x ≡ a → (x.unit == n) ≡ b → halts x.condition ≡ c → list_any (halting n) (if a then x ∷ filter q xs else filter q xs) ≡ true → q f ≡ true
    by later true true true i j k h = first i j k
    by later true true false i j k h = later (ap (λ p. p || list_any (halting n) (filter q xs)) (sym k) ∙ ap (λ p. (p && halts x.condition) || list_any (halting n) (filter q xs)) (sym j) ∙ h) f e
    by later true false c i j k h = later (ap (λ p. (p && halts x.condition) || list_any (halting n) (filter q xs)) (sym j) ∙ h) f e
    by later false b c i j k h = later h f e

-- the cause behind tells: none where one that halts was told, else the same
pub cause_told : (q : Entry → Bool) (n : ℕ) (book : List Entry) → Whole q book → (if list_any (halting n) (filter q book) then None else cause_of book n) ≡ cause_of (left q book) n
cause_told q n book w = by (list_any (halting n) (filter q book)) refl
  where
    by : (b : Bool) → list_any (halting n) (filter q book) ≡ b → (if b then None else cause_of book n) ≡ cause_of (left q book) n
    by true e = sym (no_cause n (left q book) (emptied_left q n book (all_of q n book w e)))
    by false e = cause_stays q n book e

-- and with one more pending transfer
pub cause_last : (n : ℕ) (book : List Entry) (e : Entry) (o : Option Condition) → cause_of book n ≡ o
    → cause_of (book ++ e ∷ []) n ≡ (elim o as (λ _. Option Condition) [ Some c ↦ Some c | None ↦ if halting n e then Some e.condition else None ])
cause_last n [] e (Some c) h = cc
cause_last n [] e None h = refl
cause_last n (x ∷ xs) e o h = by (halting n x) h (cause_last n xs e)
  where
    by : (b : Bool) → (if b then Some x.condition else cause_of xs n) ≡ o
        → ((p : Option Condition) → cause_of xs n ≡ p → cause_of (xs ++ e ∷ []) n ≡ (elim p as (λ _. Option Condition) [ Some c ↦ Some c | None ↦ if halting n e then Some e.condition else None ]))
        → (if b then Some x.condition else cause_of (xs ++ e ∷ []) n) ≡ (elim o as (λ _. Option Condition) [ Some c ↦ Some c | None ↦ if halting n e then Some e.condition else None ])
    by true k f = subst (λ p. Some x.condition ≡ (elim p as (λ _. Option Condition) [ Some c ↦ Some c | None ↦ if halting n e then Some e.condition else None ])) k refl
    by false k f = f o k

-- each that halts has the condition of the first one, where those behind it have it

pub same_cause : (n : ℕ) (book : List Entry) → AllPairs IsSkipped book → All (λ (a : Entry). a.unit ≡ n → halts a.condition ≡ true → cause_of book n ≡ Some a.condition) book
same_cause n [] h = All-nil (λ (a : Entry). a.unit ≡ n → halts a.condition ≡ true → cause_of [] n ≡ Some a.condition)
same_cause n (x ∷ xs) h = by (same_cause n xs (pairs_tail IsSkipped x xs h)) (x.unit == n) (halts x.condition) refl refl
  where
    goal : Bool → Entry → Type 0
    goal b a = a.unit ≡ n → halts a.condition ≡ true → (if b then Some x.condition else cause_of xs n) ≡ Some a.condition

    behind : x.unit ≡ n → halts x.condition ≡ true → (a : Entry) → IsSkipped x a → goal true a
    behind e g a s i j = ap (λ (c : Condition). Some c) (sym (s (e ∙ sym i) g).condition)

    by : All (λ (a : Entry). a.unit ≡ n → halts a.condition ≡ true → cause_of xs n ≡ Some a.condition) xs → (b c : Bool) → (x.unit == n) ≡ b → halts x.condition ≡ c → All (λ (a : Entry). a.unit ≡ n → halts a.condition ≡ true → (if b && c then Some x.condition else cause_of xs n) ≡ Some a.condition) (x ∷ xs)
    by rest true true e g = All-cons (λ a. a.unit ≡ n → halts a.condition ≡ true → Some x.condition ≡ Some a.condition) x xs (λ i j. refl)
        (All-weaker (IsSkipped x) (λ a. a.unit ≡ n → halts a.condition ≡ true → Some x.condition ≡ Some a.condition) (λ a s. behind (eqb-true x.unit n e) g a s) xs (pairs_head IsSkipped x xs h))
    by rest true false e g = All-cons (λ a. a.unit ≡ n → halts a.condition ≡ true → cause_of xs n ≡ Some a.condition) x xs (λ i j. no (sym g ∙ j)) rest
    by rest false c e g = All-cons (λ a. a.unit ≡ n → halts a.condition ≡ true → cause_of xs n ≡ Some a.condition) x xs (λ i j. no (sym e ∙ eq-eqb x.unit n i)) rest
