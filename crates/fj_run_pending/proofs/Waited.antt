-- The transfers that are waited for, among the entries and among what is kept.
use Rattle.std.proofs.Common.{◌≡◌, ◌≢◌, ℕ, zero, suc, ℤ, pos, negsuc, ◌<ℤ◌, ◌<◌, ◌&&◌, ◌||◌, cond, eqb, not, Bool, true, false, List, [], ◌∷◌, map, length, get_or, take, Option, Some, None, All, refl, sym, ap, subst, ◌∙◌, arith}
use Rattle.std.specs.Prelude.{if◌then◌else◌, filter, is_none, is_some, IfSome, OnOk, Result, Ok, Err, ◌==◌}
use Rattle.std.specs.Option.{option_map}
use Rattle.std.specs.List.{list_any, find}
use Rattle.std.specs.Ordering.{int_eq}
use Rattle.std.proofs.lemmas.Bool.{ne_eqb, eq-eqb}
use Rattle.std.proofs.lemmas.Bool.Decides.{same_from_decides, Decides-int_eq, Decides-eqb}
use Rattle.std.proofs.lemmas.Int.{ints}
use Rattle.std.proofs.lemmas.List.Elements.{All-nil, All-cons, All-head, All-tail, All-filter, All-weaker}
use Rattle.std.proofs.lemmas.List.Folds.{list_any_none}
use Rattle.fj_value.specs.declared.condition.Condition.{Condition}
use Rattle.fj_value.specs.declared.condition.Condition.TheVariants.{Fine, EndOfFile, EndOfRecord, Error}
use Rattle.fj_meaning.specs.State.{Entry, halts}
use Rattle.fj_meaning.specs.Telling.{of_unit, of_id, graver, condition_of, waited_by, tells_id, tells_cause}
use Rattle.fj_meaning.proofs.Lists.{pairs_head, pairs_tail, all_both, filter_where, filter_false, filter_true}
use Rattle.fj_meaning_jobs.specs.Core.{Pending}
use Rattle.fj_meaning_jobs.specs.Desks.{Brought, entry_with}
use Rattle.fj_meaning_turns.specs.Run.{Held as PlainHeld, known}
use Rattle.fj_meaning_turns.specs.Turns.{is_at, unsettled, with_answer}
use Rattle.fj_run_pending.specs.declared.held.Held.{Held}
use Rattle.fj_run_pending.specs.Plain.{held_of, held, pending_of, brought_of, entry_of, entries}
use Rattle.fj_run_pending.specs.Tied.{IsAscending}
use Rattle.fj_run_pending.specs.declared.pick.Pick.{Pick}
use Rattle.fj_run_pending.specs.declared.pick.Pick.TheVariants.{One}
use Rattle.fj_run_pending.specs.declared.whose.Whose.{Whose}
use Rattle.fj_run_pending.specs.declared.whose.Whose.TheVariants as whose
use Rattle.fj_run_pending.specs.Waits.{picks, is_due, is_cause, waited_of, widest, IsPassed}
use Rattle.fj_run_pending.proofs.Ids.{filter_absent, filter_one}

-- ---- where none is pending

none_waited : (w : Whose) → waited_of w [] ≡ []
none_waited whose.None = refl
none_waited (whose.OfUnit u) = refl
none_waited (whose.OfId u id) = refl
none_waited whose.All = refl

pub idle_waited : (w : Whose) (hs : List Held) → hs ≡ [] → waited_of w (entries hs) ≡ []
idle_waited w hs none = ap (λ xs. waited_of w (entries xs)) none ∙ none_waited w

-- ---- what is known of a transfer

with_unit : (p : Pending) (o : Option Brought) → (entry_with p o).unit ≡ p.unit
with_unit p None = refl
with_unit p (Some o) = refl

with_size : (p : Pending) (o : Option Brought) → (entry_with p o).size ≡ p.size
with_size p None = refl
with_size p (Some o) = refl

with_id : (p : Pending) (o : Option Brought) → (entry_with p o).id ≡ p.id
with_id p None = refl
with_id p (Some o) = refl

pub entry_unit : (h : Held) → (entry_of h).unit ≡ h.unit
entry_unit h = with_unit (pending_of h) (option_map brought_of h.answer)

pub entry_id : (h : Held) → (entry_of h).id ≡ h.tag.0
entry_id h = with_id (pending_of h) (option_map brought_of h.answer)

pub entry_size : (h : Held) → (entry_of h).size ≡ h.size
entry_size h = with_size (pending_of h) (option_map brought_of h.answer)

-- ---- filters and tests of entries

pub entries_filter : (q : Entry → Bool) (p : Held → Bool) (hs : List Held) → ((h : Held) → q (entry_of h) ≡ p h) → filter q (entries hs) ≡ entries (filter p hs)
entries_filter q p [] same = refl
entries_filter q p (h ∷ hs) same =
    ap (λ b. if b then entry_of h ∷ filter q (entries hs) else filter q (entries hs)) (same h)
    ∙ ap (λ es. if p h then entry_of h ∷ es else es) (entries_filter q p hs same)
    ∙ by (p h)
  where
    by : (b : Bool) → (if b then entry_of h ∷ entries (filter p hs) else entries (filter p hs)) ≡ entries (if b then h ∷ filter p hs else filter p hs)
    by true = refl
    by false = refl

pub entries_any : (q : Entry → Bool) (p : Held → Bool) (hs : List Held) → ((h : Held) → q (entry_of h) ≡ p h) → list_any q (entries hs) ≡ list_any p hs
entries_any q p [] same = refl
entries_any q p (h ∷ hs) same = ap (λ b. b || list_any q (entries hs)) (same h) ∙ ap (λ b. p h || b) (entries_any q p hs same)

pub any_filter : {X : Type 0} (q p : X → Bool) (xs : List X) → list_any q (filter p xs) ≡ list_any (λ x. p x && q x) xs
any_filter q p [] = refl
any_filter q p (x ∷ xs) = by (p x) (any_filter q p xs)
  where
    by : (b : Bool) → list_any q (filter p xs) ≡ list_any (λ y. p y && q y) xs → list_any q (if b then x ∷ filter p xs else filter p xs) ≡ ((b && q x) || list_any (λ y. p y && q y) xs)
    by true e = ap (λ c. q x || c) e
    by false e = e

filter_swap : {X : Type 0} (p q : X → Bool) (xs : List X) → filter p (filter q xs) ≡ filter q (filter p xs)
filter_swap p q [] = refl
filter_swap p q (x ∷ xs) = by (p x) (q x) refl refl (filter_swap p q xs)
  where
    by : (b c : Bool) → p x ≡ b → q x ≡ c → filter p (filter q xs) ≡ filter q (filter p xs)
        → filter p (if c then x ∷ filter q xs else filter q xs) ≡ filter q (if b then x ∷ filter p xs else filter p xs)
    by true true e f h =
        ap (λ z. if z then x ∷ filter p (filter q xs) else filter p (filter q xs)) e ∙ ap (λ l. x ∷ l) h
        ∙ sym (ap (λ z. if z then x ∷ filter q (filter p xs) else filter q (filter p xs)) f)
    by true false e f h = h ∙ sym (ap (λ z. if z then x ∷ filter q (filter p xs) else filter q (filter p xs)) f)
    by false true e f h = ap (λ z. if z then x ∷ filter p (filter q xs) else filter p (filter q xs)) e ∙ h
    by false false e f h = h

-- ---- the transfers of a unit, and the one of an identifier

pub unit_picked : (u : ℕ) (hs : List Held) → of_unit (entries hs) (Some u) ≡ entries (filter (λ (h : Held). h.unit == u) hs)
unit_picked u hs = entries_filter (λ (e : Entry). e.unit == u) (λ (h : Held). h.unit == u) hs (λ h. ap (λ n. n == u) (entry_unit h))

pos_same : (a b : ℕ) → pos a ≡ pos b → a ≡ b
pos_same a b e = cc

int_is : (a b : ℕ) → int_eq (pos a) (pos b) ≡ eqb a b
int_is a b = same_from_decides {P = a ≡ b} (int_eq (pos a) (pos b)) (eqb a b) ((λ e. pos_same a b ((Decides-int_eq (pos a) (pos b)).0 e)), (λ h. (Decides-int_eq (pos a) (pos b)).1 (ap pos h))) (Decides-eqb a b)

by_id : (u t : ℕ) (hs xs : List Held) → filter (λ (h : Held). h.tag.0 == t) hs ≡ xs → of_id (entries hs) (Some u) (pos t) ≡ entries (filter (λ (h : Held). h.unit == u) xs)
by_id u t hs xs is =
    ap (filter (λ (e : Entry). int_eq (pos e.id) (pos t))) (unit_picked u hs)
    ∙ entries_filter (λ (e : Entry). int_eq (pos e.id) (pos t)) (λ (h : Held). h.tag.0 == t) (filter (λ (h : Held). h.unit == u) hs) (λ h. ap (λ n. int_eq (pos n) (pos t)) (entry_id h) ∙ int_is h.tag.0 t)
    ∙ ap entries (filter_swap (λ (h : Held). h.tag.0 == t) (λ (h : Held). h.unit == u) hs ∙ ap (filter (λ (h : Held). h.unit == u)) is)

-- by an identifier that none has
nothing_of : (es : List Entry) (u : ℕ) (id : ℤ) → of_id es (Some u) id ≡ [] → waited_by es (Some u) (Some id) ≡ []
nothing_of es u id none = ap (λ (l : List Entry). if halts (condition_of l) then of_unit es (Some u) else l) none

pub negative_picked : (u : ℕ) (id : ℤ) (hs : List Held) → id <ℤ pos 0 → waited_by (entries hs) (Some u) (Some id) ≡ entries (filter (λ (h : Held). false) hs)
negative_picked u (pos n) hs low = absurd (omega (arith, ints, low))
negative_picked u (negsuc n) hs low = nothing_of (entries hs) u (negsuc n) (filter_false (of_unit (entries hs) (Some u))) ∙ sym (ap entries (filter_false hs))

pub absent_picked : (u t : ℕ) (hs : List Held) → All (λ (h : Held). h.tag.0 ≢ t) hs → waited_by (entries hs) (Some u) (Some (pos t)) ≡ entries (filter (λ (h : Held). false) hs)
absent_picked u t hs absent =
    nothing_of (entries hs) u (pos t) (by_id u t hs [] (filter_absent (λ (h : Held). h.tag.0) t hs absent)) ∙ sym (ap entries (filter_false hs))

module _ (u i : ℕ) (y : Held) (hs : List Held) (up : IsAscending hs) (low : i < length hs) (is : get_or hs i y ≡ y) where
  alone : filter (λ (h : Held). h.tag.0 == y.tag.0) hs ≡ y ∷ []
  alone = filter_one (λ (h : Held). h.tag.0) hs i y up low is

  pub other_unit_picked : y.unit ≢ u → waited_by (entries hs) (Some u) (Some (pos y.tag.0)) ≡ entries (filter (λ (h : Held). false) hs)
  other_unit_picked other =
      nothing_of (entries hs) u (pos y.tag.0) (by_id u y.tag.0 hs (y ∷ []) alone ∙ ap (λ b. entries (if b then y ∷ [] else [])) (ne_eqb y.unit u other))
      ∙ sym (ap entries (filter_false hs))

  of_it : y.unit ≡ u → of_id (entries hs) (Some u) (pos y.tag.0) ≡ entry_of y ∷ []
  of_it same = by_id u y.tag.0 hs (y ∷ []) alone ∙ ap (λ b. entries (if b then y ∷ [] else [])) (eq-eqb y.unit u same)

  halts_alone : (c : Condition) → halts (graver c Fine) ≡ halts c
  halts_alone Fine = refl
  halts_alone EndOfFile = refl
  halts_alone EndOfRecord = refl
  halts_alone (Error n) = refl

  by_halt : (b : Bool) → halts (entry_of y).condition ≡ b → y.unit ≡ u → waited_by (entries hs) (Some u) (Some (pos y.tag.0)) ≡ (if b then of_unit (entries hs) (Some u) else entry_of y ∷ [])
  by_halt b is_halt same =
      ap (λ (l : List Entry). if halts (condition_of l) then of_unit (entries hs) (Some u) else l) (of_it same)
      ∙ ap (λ c. if c then of_unit (entries hs) (Some u) else entry_of y ∷ []) (halts_alone (entry_of y).condition ∙ is_halt)

  pub halted_picked : halts (entry_of y).condition ≡ true → y.unit ≡ u → waited_by (entries hs) (Some u) (Some (pos y.tag.0)) ≡ entries (filter (λ (h : Held). h.unit == u) hs)
  halted_picked halt same = by_halt true halt same ∙ unit_picked u hs

  pub one_picked : halts (entry_of y).condition ≡ false → y.unit ≡ u → waited_by (entries hs) (Some u) (Some (pos y.tag.0)) ≡ entries (filter (λ (h : Held). h.tag.0 == y.tag.0) hs)
  one_picked halt same = by_halt false halt same ∙ sym (ap entries alone)

pub all_picked : (hs : List Held) → entries hs ≡ entries (filter (λ (h : Held). true) hs)
all_picked hs = sym (ap entries (filter_true hs))

pub none_picked : (hs : List Held) → [] ≡ entries (filter (λ (h : Held). false) hs)
none_picked hs = sym (ap entries (filter_false hs))

-- ---- those of ascending transfers that are told with the chosen ones are the chosen ones

pub told_any : (hs : List Held) (t : ℕ) → tells_id (entries hs) t ≡ list_any (λ (h : Held). h.tag.0 == t) hs
told_any hs t = entries_any (λ (e : Entry). e.id == t) (λ (h : Held). h.tag.0 == t) hs (λ h. ap (λ n. n == t) (entry_id h))

abbrev rising : Held → Held → Type 0
rising a b = a.tag.0 < b.tag.0

abbrev among : (Held → Bool) → List Held → Held → Bool
among q hs x = list_any (λ (h : Held). h.tag.0 == x.tag.0) (filter q hs)

not_among : (x : Held) (q : Held → Bool) (hs : List Held) → All (λ (y : Held). x.tag.0 < y.tag.0) hs → among q hs x ≡ false
not_among x q hs above =
    list_any_none (λ (y : Held). y.tag.0 == x.tag.0) (filter q hs)
    (All-filter q (λ (y : Held). (y.tag.0 == x.tag.0) ≡ false) hs (All-weaker (λ (y : Held). x.tag.0 < y.tag.0) (λ (y : Held). (y.tag.0 == x.tag.0) ≡ false) (λ y lt. ne_eqb y.tag.0 x.tag.0 (λ e. absurd (omega (arith, lt, e)))) hs above))

pub among_chosen : (q : Held → Bool) (hs : List Held) → IsAscending hs → All (λ h. among q hs h ≡ q h) hs
among_chosen q [] up = All-nil (λ h. among q [] h ≡ q h)
among_chosen q (x ∷ hs) up =
    All-cons (λ h. among q (x ∷ hs) h ≡ q h) x hs (head (q x) (not_among x q hs (pairs_head rising x hs up)))
    (all_both (λ (y : Held). x.tag.0 < y.tag.0) (λ h. among q hs h ≡ q h) (λ h. among q (x ∷ hs) h ≡ q h) hs (λ h lt k. rest h (q x) lt k) (pairs_head rising x hs up) (among_chosen q hs (pairs_tail rising x hs up)))
  where
    head : (b : Bool) → among q hs x ≡ false → list_any (λ (h : Held). h.tag.0 == x.tag.0) (if b then x ∷ filter q hs else filter q hs) ≡ b
    head true e = ap (λ k. k || among q hs x) (eq-eqb x.tag.0 x.tag.0 refl)
    head false e = e

    rest : (h : Held) (b : Bool) → x.tag.0 < h.tag.0 → among q hs h ≡ q h → list_any (λ (y : Held). y.tag.0 == h.tag.0) (if b then x ∷ filter q hs else filter q hs) ≡ q h
    rest h true lt k = ap (λ j. j || among q hs h) (ne_eqb x.tag.0 h.tag.0 (λ i. absurd (omega (arith, lt, i)))) ∙ k
    rest h false lt k = k

pub told_chosen : (q : Held → Bool) (hs : List Held) → IsAscending hs → All (λ (h : Held). tells_id (entries (filter q hs)) h.tag.0 ≡ q h) hs
told_chosen q hs up =
    All-weaker (λ h. among q hs h ≡ q h) (λ (h : Held). tells_id (entries (filter q hs)) h.tag.0 ≡ q h) (λ h k. told_any (filter q hs) h.tag.0 ∙ k) hs (among_chosen q hs up)

-- ---- those that are left

held_filter : (p : PlainHeld → Bool) (hs : List Held) → filter p (held hs) ≡ held (filter (λ h. p (held_of h)) hs)
held_filter p [] = refl
held_filter p (h ∷ hs) = ap (λ l. if p (held_of h) then held_of h ∷ l else l) (held_filter p hs) ∙ by (p (held_of h))
  where
    by : (b : Bool) → (if b then held_of h ∷ held (filter (λ x. p (held_of x)) hs) else held (filter (λ x. p (held_of x)) hs)) ≡ held (if b then h ∷ filter (λ x. p (held_of x)) hs else filter (λ x. p (held_of x)) hs)
    by true = refl
    by false = refl

pub left_is : (q : Held → Bool) (hs : List Held) (es : List Entry) → IsAscending hs → es ≡ entries (filter q hs)
    → filter (λ (h : PlainHeld). not (tells_id es h.pending.id)) (held hs) ≡ held (filter (λ h. not (q h)) hs)
left_is q hs es up is =
    ap (λ xs. filter (λ (h : PlainHeld). not (tells_id xs h.pending.id)) (held hs)) is
    ∙ held_filter (λ (h : PlainHeld). not (tells_id (entries (filter q hs)) h.pending.id)) hs
    ∙ ap held (filter_where (λ (h : Held). not (tells_id (entries (filter q hs)) h.tag.0)) (λ h. not (q h)) hs
    (All-weaker (λ (h : Held). tells_id (entries (filter q hs)) h.tag.0 ≡ q h) (λ (h : Held). not (tells_id (entries (filter q hs)) h.tag.0) ≡ not (q h)) (λ h k. ap not k) hs (told_chosen q hs up)))

pub when_done : {X E P : Type 0} (r : Result X E) → P → OnOk r P
when_done (Ok x) p = p
when_done (Err e) p = tt

-- ---- the first without an answer

none_mapped : {A B : Type 0} (f : A → B) (o : Option A) → is_none (option_map f o) ≡ is_none o
none_mapped f None = refl
none_mapped f (Some x) = refl

pub unsettled_is : (q : Held → Bool) (es : List Entry) (hs : List Held) → All (λ (h : Held). tells_id es h.tag.0 ≡ q h) hs
    → unsettled es (held hs) ≡ option_map (λ (h : Held). h.slot) (find (λ h. q h && is_none h.answer) hs)
unsettled_is q es [] all = refl
unsettled_is q es (h ∷ hs) all =
    ap (λ b. if b && is_none (option_map brought_of h.answer) then Some h.slot else unsettled es (held hs)) (All-head (λ (x : Held). tells_id es x.tag.0 ≡ q x) h hs all)
    ∙ ap (λ b. if q h && b then Some h.slot else unsettled es (held hs)) (none_mapped brought_of h.answer)
    ∙ ap (λ o. if q h && is_none h.answer then Some h.slot else o) (unsettled_is q es hs (All-tail (λ (x : Held). tells_id es x.tag.0 ≡ q x) h hs all))
    ∙ by (q h && is_none h.answer)
  where
    by : (b : Bool) → (if b then Some h.slot else option_map (λ (x : Held). x.slot) (find (λ x. q x && is_none x.answer) hs)) ≡ option_map (λ (x : Held). x.slot) (cond b (Some h) (find (λ x. q x && is_none x.answer) hs))
    by true = refl
    by false = refl

-- ---- whether all have answers

pub unsettled_nothing : (hs : List PlainHeld) → unsettled [] hs ≡ None
unsettled_nothing [] = refl
unsettled_nothing (h ∷ hs) = unsettled_nothing hs

all_told : (p : Pick) (hs : List Held) (es : List Entry) → IsAscending hs → es ≡ entries (filter (picks p) hs) → All (λ (h : Held). tells_id es h.tag.0 ≡ picks p h) hs
all_told p hs es up is = subst (λ (l : List Entry). All (λ (h : Held). tells_id l h.tag.0 ≡ picks p h) hs) (sym is) (told_chosen (picks p) hs up)

pub due_is : (p : Pick) (hs : List Held) (es : List Entry) → IsAscending hs → es ≡ entries (filter (picks p) hs) → unsettled es (held hs) ≡ option_map (λ (h : Held). h.slot) (find (is_due p) hs)
due_is p hs es up is = unsettled_is (picks p) es hs (all_told p hs es up is)

take_held : (n : ℕ) (hs : List Held) → take n (held hs) ≡ held (take n hs)
take_held zero hs = refl
take_held (suc n) [] = refl
take_held (suc n) (h ∷ hs) = ap (λ l. held_of h ∷ l) (take_held n hs)

all_take : (P : Held → Type 0) (n : ℕ) (hs : List Held) → All P hs → All P (take n hs)
all_take P zero hs all = All-nil P
all_take P (suc n) [] all = All-nil P
all_take P (suc n) (h ∷ hs) all = All-cons P h (take n hs) (All-head P h hs all) (all_take P n hs (All-tail P h hs all))

pub due_before : (p : Pick) (hs : List Held) (es : List Entry) (n : ℕ) → IsAscending hs → es ≡ entries (filter (picks p) hs) → unsettled es (take n (held hs)) ≡ option_map (λ (h : Held). h.slot) (find (is_due p) (take n hs))
due_before p hs es n up is = ap (unsettled es) (take_held n hs) ∙ unsettled_is (picks p) es (take n hs) (all_take (λ (h : Held). tells_id es h.tag.0 ≡ picks p h) n hs (all_told p hs es up is))

pub none_due : (o : Option Held) → option_map (λ (h : Held). h.slot) o ≡ None → o ≡ None
none_due None e = refl
none_due (Some h) e = cc

pub passed_is : (p : Pick) (hs : List Held) (es : List Entry) (n : ℕ) → IsAscending hs → es ≡ entries (filter (picks p) hs) → unsettled es (take n (held hs)) ≡ None → find (is_due p) (take n hs) ≡ None
passed_is p hs es n up is none = none_due (find (is_due p) (take n hs)) (sym (due_before p hs es n up is) ∙ none)

-- from where one may look on
pub passes_on : (p : Pick) (hs : List Held) (es : List Entry) (o : Option (ℕ × ℕ)) → IsAscending hs → es ≡ entries (filter (picks p) hs)
    → IfSome o (λ r. find (is_due p) (take r.0 hs) ≡ None) → IfSome o (λ r. unsettled es (take r.0 (held hs)) ≡ None)
passes_on p hs es None up is some = some
passes_on p hs es (Some r) up is some = due_before p hs es r.0 up is ∙ ap (option_map (λ (h : Held). h.slot)) some

pub passes_first : (hs : List PlainHeld) (es : List Entry) (o : Option (ℕ × ℕ)) → IfSome o (λ r. r.0 ≡ 0) → IfSome o (λ r. unsettled es (take r.0 hs) ≡ None)
passes_first hs es None some = some
passes_first hs es (Some r) some = ap (λ n. unsettled es (take n hs)) some

-- ---- the one of an identifier without an answer

pub find_filter : {X : Type 0} (p q : X → Bool) (xs : List X) → find (λ x. p x && q x) xs ≡ find q (filter p xs)
find_filter p q [] = refl
find_filter p q (x ∷ xs) = by (p x) (find_filter p q xs)
  where
    by : (b : Bool) → find (λ y. p y && q y) xs ≡ find q (filter p xs) → cond (b && q x) (Some x) (find (λ y. p y && q y) xs) ≡ find q (if b then x ∷ filter p xs else filter p xs)
    by true e = ap (λ o. cond (q x) (Some x) o) e
    by false e = e

pub absent_due : (t : ℕ) (hs : List Held) → All (λ (h : Held). h.tag.0 ≢ t) hs → find (is_due (One t)) hs ≡ None
absent_due t hs absent =
    find_filter (λ (h : Held). h.tag.0 == t) (λ (h : Held). is_none h.answer) hs ∙ ap (find (λ (h : Held). is_none h.answer)) (filter_absent (λ (h : Held). h.tag.0) t hs absent)

pub some_or_none : {X : Type 0} (o : Option X) (b : Bool) → is_some o ≡ b → is_none o ≡ not b
some_or_none None b e = ap not e
some_or_none (Some x) b e = ap not e

one_due : (hs : List Held) (i : ℕ) (y : Held) (b : Bool) → IsAscending hs → i < length hs → get_or hs i y ≡ y → is_some y.answer ≡ b → find (is_due (One y.tag.0)) hs ≡ cond (not b) (Some y) None
one_due hs i y b up low is has =
    find_filter (λ (h : Held). h.tag.0 == y.tag.0) (λ (h : Held). is_none h.answer) hs
    ∙ ap (find (λ (h : Held). is_none h.answer)) (filter_one (λ (h : Held). h.tag.0) hs i y up low is)
    ∙ ap (λ c. cond c (Some y) None) (some_or_none y.answer b has)

pub answered_due : (t : ℕ) (hs : List Held) (i : ℕ) (y : Held) → IsAscending hs → i < length hs → get_or hs i y ≡ y → y.tag.0 ≡ t → is_some y.answer ≡ true → find (is_due (One t)) hs ≡ None
answered_due t hs i y up low is same has = ap (λ n. find (is_due (One n)) hs) (sym same) ∙ one_due hs i y true up low is has

pub waiting_due : (t : ℕ) (hs : List Held) (i : ℕ) (y : Held) → IsAscending hs → i < length hs → get_or hs i y ≡ y → y.tag.0 ≡ t → is_some y.answer ≡ false → find (is_due (One t)) hs ≡ Some y
waiting_due t hs i y up low is same has = ap (λ n. find (is_due (One n)) hs) (sym same) ∙ one_due hs i y false up low is has

-- ---- what is passed stays passed when one more has its answer

module _ (slot number : ℕ) (it : Brought) where
  abbrev given : PlainHeld → PlainHeld
  given h = if is_at slot number h.pending then record { pending = h.pending; answer = Some it } else h

  given_pending : (h : PlainHeld) → (given h).pending ≡ h.pending
  given_pending h = by (is_at slot number h.pending)
    where
      by : (b : Bool) → (if b then record { pending = h.pending; answer = Some it } else h).pending ≡ h.pending
      by true = refl
      by false = refl

  known_unit : (h : PlainHeld) → (known h).unit ≡ h.pending.unit
  known_unit h = with_unit h.pending h.answer

  known_id : (h : PlainHeld) → (known h).id ≡ h.pending.id
  known_id h = with_id h.pending h.answer

  given_unit : (h : PlainHeld) → (known (given h)).unit ≡ (known h).unit
  given_unit h = known_unit (given h) ∙ ap (λ (p : Pending). p.unit) (given_pending h) ∙ sym (known_unit h)

  given_id : (h : PlainHeld) → (known (given h)).id ≡ (known h).id
  given_id h = known_id (given h) ∙ ap (λ (p : Pending). p.id) (given_pending h) ∙ sym (known_id h)

  any_given : (q : Entry → Bool) → ((h : PlainHeld) → q (known (given h)) ≡ q (known h)) → (hs : List PlainHeld) → list_any q (map known (with_answer slot number it hs)) ≡ list_any q (map known hs)
  any_given q same [] = refl
  any_given q same (h ∷ hs) = ap (λ b. b || list_any q (map known (with_answer slot number it hs))) (same h) ∙ ap (λ b. q (known h) || b) (any_given q same hs)

  tells_unit : (u t : ℕ) (hs : List PlainHeld) → tells_id (of_unit (map known (with_answer slot number it hs)) (Some u)) t ≡ tells_id (of_unit (map known hs) (Some u)) t
  tells_unit u t hs =
      any_filter (λ (e : Entry). e.id == t) (λ (e : Entry). e.unit == u) (map known (with_answer slot number it hs))
      ∙ any_given (λ (e : Entry). (e.unit == u) && (e.id == t)) (λ h. ap (λ n. (n == u) && ((known (given h)).id == t)) (given_unit h) ∙ ap (λ n. ((known h).unit == u) && (n == t)) (given_id h)) hs
      ∙ sym (any_filter (λ (e : Entry). e.id == t) (λ (e : Entry). e.unit == u) (map known hs))

  tells_same : (w : Whose) (t : ℕ) (hs : List PlainHeld) → tells_id (waited_of (widest w) (map known (with_answer slot number it hs))) t ≡ tells_id (waited_of (widest w) (map known hs)) t
  tells_same whose.None t hs = refl
  tells_same (whose.OfUnit u) t hs = tells_unit u t hs
  tells_same (whose.OfId u id) t hs = tells_unit u t hs
  tells_same whose.All t hs = any_given (λ (e : Entry). e.id == t) (λ h. ap (λ n. n == t) (given_id h)) hs

  still_none : (es es' : List Entry) → ((t : ℕ) → tells_id es' t ≡ tells_id es t) → (n : ℕ) (hs : List PlainHeld) → unsettled es (take n hs) ≡ None → unsettled es' (take n (with_answer slot number it hs)) ≡ None
  still_none es es' same zero hs none = refl
  still_none es es' same (suc n) [] none = refl
  still_none es es' same (suc n) (h ∷ hs) none =
      ap (λ b. if b && is_none (given h).answer then Some (given h).pending.slot else unsettled es' (take n (with_answer slot number it hs))) (same (given h).pending.id ∙ ap (λ (p : Pending). tells_id es p.id) (given_pending h))
      ∙ by (is_at slot number h.pending) (tells_id es h.pending.id) (unsettled es (take n hs)) (unsettled es' (take n (with_answer slot number it hs))) none (still_none es es' same n hs)
    where
      rest : (c : Bool) (r : Option ℕ) → (if c then Some h.pending.slot else r) ≡ None → r ≡ None
      rest true r e = (let never : Some h.pending.slot ≡ None = e in cc)
      rest false r e = e

      both : (c : Bool) (r r' : Option ℕ) → (if c then Some h.pending.slot else r) ≡ None → (r ≡ None → r' ≡ None) → (if c then Some h.pending.slot else r') ≡ None
      both true r r' e next = e
      both false r r' e next = next e

      by : (b k : Bool) (r r' : Option ℕ) → (if k && is_none h.answer then Some h.pending.slot else r) ≡ None → (r ≡ None → r' ≡ None)
          → (let z : PlainHeld = (if b then record { pending = h.pending; answer = Some it } else h) in if k && is_none z.answer then Some z.pending.slot else r') ≡ None
      by true true r r' e next = next (rest (is_none h.answer) r e)
      by true false r r' e next = next e
      by false true r r' e next = both (is_none h.answer) r r' e next
      by false false r r' e next = next e

  pub still_passed : (w : Whose) (hs : List PlainHeld) (from : ℕ) → IsPassed w hs from → IsPassed w (with_answer slot number it hs) from
  still_passed w hs from none = still_none (waited_of (widest w) (map known hs)) (waited_of (widest w) (map known (with_answer slot number it hs))) (λ t. tells_same w t hs) from hs none

-- whether the halt of a unit ends
pub cause_is : (p : Pick) (unit : ℕ) (hs : List Held) (es : List Entry) → es ≡ entries (filter (picks p) hs) → tells_cause es unit ≡ list_any (is_cause p unit) hs
cause_is p unit hs es is =
    ap (λ (l : List Entry). tells_cause l unit) is
    ∙ entries_any (λ (e : Entry). (e.unit == unit) && halts e.condition) (λ (h : Held). (h.unit == unit) && halts (entry_of h).condition) (filter (picks p) hs) (λ h. ap (λ n. (n == unit) && halts (entry_of h).condition) (entry_unit h))
    ∙ any_filter (λ (h : Held). (h.unit == unit) && halts (entry_of h).condition) (picks p) hs
