-- The transfers that a statement waits for: once all that are known to be waited for were told, they are those that it tells.
use Rattle.std.proofs.Common.{◌≡◌, ◌⊎◌, ℕ, ℤ, suc, Bool, true, false, List, [], ◌∷◌, map, Option, Some, None, is_none, slice_get, refl, sym, ap, ◌∙◌, subst, inl, inr, ◌&&◌, ◌||◌}
use Rattle.std.specs.Prelude.{pos, if◌then◌else◌, filter, ◌==◌}
use Rattle.std.specs.Ordering.{int_eq}
use Rattle.std.proofs.lemmas.Bool.{eq-eqb}
use Rattle.fj_value.specs.declared.condition.Condition.{Condition}
use Rattle.fj_value.specs.declared.condition.Condition.TheVariants.{Fine, EndOfFile, EndOfRecord, Error}
use Rattle.fj_statement.specs.declared.statement.Statement.{Statement}
use Rattle.fj_statement.specs.declared.statement.Statement.TheVariants as statement
use Rattle.fj_store.specs.Variables.{Variables}
use Rattle.fj_meaning.specs.Needs.{number_of, number_given, number_of_subject}
use Rattle.fj_meaning.specs.State.{Entry, halts}
use Rattle.fj_meaning.specs.Telling.{of_unit, of_id, graver, condition_of, waited_by, waited_in, is_asynchronous, tells_id}
use Rattle.fj_meaning_jobs.specs.Desks.{Brought, entry_with}
use Rattle.fj_meaning_jobs.proofs.Apart.{Each, each_imp, each_both}
use Rattle.fj_meaning_turns.specs.Run.{Held, known}
use Rattle.fj_meaning_turns.specs.Turns.{unsettled}

-- ---- lists of entries

pub filter_filter : {X : Type 0} → (p q : X → Bool) (xs : List X) → filter q (filter p xs) ≡ filter (λ x. p x && q x) xs
filter_filter p q [] = refl
filter_filter p q (x ∷ xs) = by (p x) (filter_filter p q xs)
  where
    by : (b : Bool) → filter q (filter p xs) ≡ filter (λ y. p y && q y) xs → filter q (if b then x ∷ filter p xs else filter p xs) ≡ (if b && q x then x ∷ filter (λ y. p y && q y) xs else filter (λ y. p y && q y) xs)
    by true e = ap (λ l. if q x then x ∷ l else l) e
    by false e = e

-- each that is chosen is among the chosen ones
pub chosen_tells : (f : Held → Entry) (q : Entry → Bool) (hs : List Held) → ((h : Held) → (f h).id ≡ h.pending.id)
    → Each (λ (h : Held). q (f h) ≡ true → tells_id (filter q (map f hs)) h.pending.id ≡ true) hs
chosen_tells f q [] ids = tt
chosen_tells f q (x ∷ hs) ids = (
  here (q (f x)),
  each_imp (λ h. q (f h) ≡ true → tells_id (filter q (map f hs)) h.pending.id ≡ true) (λ h. q (f h) ≡ true → tells_id (filter q (map f (x ∷ hs))) h.pending.id ≡ true) hs
      (λ h k e. further (q (f x)) h.pending.id (k e)) (chosen_tells f q hs ids),
)
  where
    here : (b : Bool) → b ≡ true → tells_id (if b then f x ∷ filter q (map f hs) else filter q (map f hs)) x.pending.id ≡ true
    here true e = ap (λ b. b || tells_id (filter q (map f hs)) x.pending.id) (eq-eqb (f x).id x.pending.id (ids x))
    here false e = cc

    also : (a b : Bool) → b ≡ true → (a || b) ≡ true
    also true b e = refl
    also false b e = e

    further : (b : Bool) (id : ℕ) → tells_id (filter q (map f hs)) id ≡ true → tells_id (if b then f x ∷ filter q (map f hs) else filter q (map f hs)) id ≡ true
    further true id e = also ((f x).id == id) (tells_id (filter q (map f hs)) id) e
    further false id e = e

-- two lists of entries have the same chosen ones, where those are the same
pub chosen_same : (f g : Held → Entry) (q : Entry → Bool) (hs : List Held) → ((h : Held) → q (f h) ≡ q (g h)) → Each (λ (h : Held). q (f h) ≡ true → f h ≡ g h) hs → filter q (map f hs) ≡ filter q (map g hs)
chosen_same f g q [] like same = refl
chosen_same f g q (x ∷ hs) like same =
    by (q (f x)) refl (chosen_same f g q hs like same.1)
    ∙ ap (λ b. if b then g x ∷ filter q (map g hs) else filter q (map g hs)) (like x)
  where
    by : (b : Bool) → q (f x) ≡ b → filter q (map f hs) ≡ filter q (map g hs) → (if q (f x) then f x ∷ filter q (map f hs) else filter q (map f hs)) ≡ (if q (f x) then g x ∷ filter q (map g hs) else filter q (map g hs))
    by true e r = ap (λ b. if b then f x ∷ filter q (map f hs) else filter q (map f hs)) e ∙ ap (λ y. y ∷ filter q (map f hs)) (same.0 e) ∙ ap (λ l. g x ∷ l) r ∙ sym (ap (λ b. if b then g x ∷ filter q (map g hs) else filter q (map g hs)) e)
    by false e r = ap (λ b. if b then f x ∷ filter q (map f hs) else filter q (map f hs)) e ∙ r ∙ sym (ap (λ b. if b then g x ∷ filter q (map g hs) else filter q (map g hs)) e)

-- ---- those that are waited for, with what is known and with what became of them

-- each that is among these has become what is known of it
abbrev pub AreKnown : (Held → Entry) → List Entry → List Held → Type 0
AreKnown g es hs = Each (λ (h : Held). tells_id es h.pending.id ≡ true → known h ≡ g h) hs

pub known_id : (h : Held) → (known h).id ≡ h.pending.id
known_id h = by h.answer
  where
    by : (o : Option Brought) → (entry_with h.pending o).id ≡ h.pending.id
    by None = refl
    by (Some o) = refl

known_unit : (h : Held) → (known h).unit ≡ h.pending.unit
known_unit h = by h.answer
  where
    by : (o : Option Brought) → (entry_with h.pending o).unit ≡ h.pending.unit
    by None = refl
    by (Some o) = refl

module _ (g : Held → Entry) (ids : (h : Held) → (g h).id ≡ h.pending.id) (units : (h : Held) → (g h).unit ≡ h.pending.unit) (hs : List Held) where
  pub like : (q : ℕ → ℕ → Bool) (h : Held) → q (known h).unit (known h).id ≡ q (g h).unit (g h).id
  like q h = ap (λ u. q u (known h).id) (known_unit h ∙ sym (units h)) ∙ ap (λ n. q (g h).unit n) (known_id h ∙ sym (ids h))

  -- chosen by unit and identifier
  chosen : (q : ℕ → ℕ → Bool) → AreKnown g (filter (λ (e : Entry). q e.unit e.id) (map known hs)) hs → filter (λ (e : Entry). q e.unit e.id) (map known hs) ≡ filter (λ (e : Entry). q e.unit e.id) (map g hs)
  chosen q same =
      let es : List Entry = filter (λ (e : Entry). q e.unit e.id) (map known hs) in
      chosen_same known g (λ e. q e.unit e.id) hs (like q)
      (each_both (λ h. tells_id es h.pending.id ≡ true → known h ≡ g h) (λ h. q (known h).unit (known h).id ≡ true → tells_id es h.pending.id ≡ true) (λ h. q (known h).unit (known h).id ≡ true → known h ≡ g h) hs
      (λ h a b e. a (b e)) same (chosen_tells known (λ e. q e.unit e.id) hs known_id))

  of_unit_same : (number : Option ℕ) → AreKnown g (of_unit (map known hs) number) hs → of_unit (map known hs) number ≡ of_unit (map g hs) number
  of_unit_same None same = refl
  of_unit_same (Some n) same = chosen (λ u id. u == n) same

  of_id_same : (number : Option ℕ) (id : ℤ) → AreKnown g (of_id (map known hs) number id) hs → of_id (map known hs) number id ≡ of_id (map g hs) number id
  of_id_same None id same = refl
  of_id_same (Some n) id same =
      let two = λ (xs : List Entry). filter_filter (λ (e : Entry). e.unit == n) (λ (e : Entry). int_eq (pos e.id) id) xs in
      two (map known hs) ∙ chosen (λ u k. (u == n) && int_eq (pos k) id) (subst (λ es. AreKnown g es hs) (two (map known hs)) same) ∙ sym (two (map g hs))

  waited_by_same : (number : Option ℕ) (id : Option ℤ) → AreKnown g (waited_by (map known hs) number id) hs → waited_by (map known hs) number id ≡ waited_by (map g hs) number id
  waited_by_same number None same = of_unit_same number same
  waited_by_same number (Some id) same = by (halts (condition_of (of_id (map known hs) number id))) refl
    where
      by : (b : Bool) → halts (condition_of (of_id (map known hs) number id)) ≡ b → waited_by (map known hs) number (Some id) ≡ waited_by (map g hs) number (Some id)
      by true e =
          let wide = ap (λ b. if b then of_unit (map known hs) number else of_id (map known hs) number id) e in
          let unit = of_unit_same number (subst (λ es. AreKnown g es hs) wide same) in
          let one : of_id (map known hs) number id ≡ of_id (map g hs) number id = ap (filter (λ (x : Entry). int_eq (pos x.id) id)) unit in
          wide ∙ unit ∙ sym (ap (λ b. if b then of_unit (map g hs) number else of_id (map g hs) number id) (sym (ap (λ es. halts (condition_of es)) one) ∙ e))
      by false e =
          let narrow = ap (λ b. if b then of_unit (map known hs) number else of_id (map known hs) number id) e in
          let one = of_id_same number id (subst (λ es. AreKnown g es hs) narrow same) in
          narrow ∙ one ∙ sym (ap (λ b. if b then of_unit (map g hs) number else of_id (map g hs) number id) (sym (ap (λ es. halts (condition_of es)) one) ∙ e))

  all_same : AreKnown g (map known hs) hs → map known hs ≡ map g hs
  all_same same = sym (everything (map known hs)) ∙ chosen (λ u id. true) (subst (λ es. AreKnown g es hs) (sym (everything (map known hs))) same) ∙ everything (map g hs)
    where
      everything : (es : List Entry) → filter (λ (e : Entry). true) es ≡ es
      everything [] = refl
      everything (e ∷ es) = ap (λ l. e ∷ l) (everything es)

  -- for each kind of statement
  pub waited_same : (vars : Variables) (st : Statement) → AreKnown g (waited_in (map known hs) vars st) hs → waited_in (map known hs) vars st ≡ waited_in (map g hs) vars st
  waited_same vars (statement.Assign to from) same = refl
  waited_same vars (statement.OpenUnit u spec iostat) same = of_unit_same (number_of u) same
  waited_same vars (statement.CloseUnit u keep iostat) same = of_unit_same (number_of u) same
  waited_same vars (statement.WaitFor u id iostat) same = waited_by_same (number_of u) (number_given vars id) same
  waited_same vars (statement.Move how u iostat) same = of_unit_same (number_of u) same
  waited_same vars (statement.Inquire about asked id iostat None) same = refl
  waited_same vars (statement.Inquire about asked id iostat (Some false)) same = refl
  waited_same vars (statement.Inquire about asked id iostat (Some true)) same = waited_by_same (number_of_subject about) (number_given vars id) same
  waited_same vars (statement.Transfer t) same = by (is_asynchronous t) refl
    where
      by : (b : Bool) → is_asynchronous t ≡ b → (if is_asynchronous t then [] else of_unit (map known hs) (number_of t.unit)) ≡ (if is_asynchronous t then [] else of_unit (map g hs) (number_of t.unit))
      by true e = ap (λ b. if b then [] else of_unit (map known hs) (number_of t.unit)) e ∙ sym (ap (λ b. if b then [] else of_unit (map g hs) (number_of t.unit)) e)
      by false e =
          let narrow = ap (λ b. if b then [] else of_unit (map known hs) (number_of t.unit)) e in
          narrow ∙ of_unit_same (number_of t.unit) (subst (λ es. AreKnown g es hs) narrow same) ∙ sym (ap (λ b. if b then [] else of_unit (map g hs) (number_of t.unit)) e)
  waited_same vars statement.End same = all_same same

-- where no job is left to be told, each is known
pub none_unsettled : (es : List Entry) (hs : List Held) → unsettled es hs ≡ None → Each (λ (h : Held). tells_id es h.pending.id ≡ true → is_none h.answer ≡ false) hs
none_unsettled es [] e = tt
none_unsettled es (h ∷ hs) e = by (tells_id es h.pending.id) (is_none h.answer) (λ z. none_unsettled es hs z) e
  where
    by : (a b : Bool) → (unsettled es hs ≡ None → Each (λ (h : Held). tells_id es h.pending.id ≡ true → is_none h.answer ≡ false) hs) → (if a && b then Some h.pending.slot else unsettled es hs) ≡ None
        → (a ≡ true → b ≡ false) × Each (λ (h : Held). tells_id es h.pending.id ≡ true → is_none h.answer ≡ false) hs
    by true true f e = cc
    by true false f e = ((λ _. refl), f e)
    by false b f e = ((λ x. cc), f e)

-- one whose job is not told, and where it stands
abbrev pub IsUnsettled : (Held → Type 0) → List Entry → List Held → ℕ → Held → Type 0
IsUnsettled P es hs slot h = ((k : ℕ) × (slice_get hs k ≡ Some h) × P h × (h.answer ≡ None) × (h.pending.slot ≡ slot) × (tells_id es h.pending.id ≡ true))

pub unsettled_found : (P : Held → Type 0) (es : List Entry) (hs : List Held) (slot : ℕ) → Each P hs → unsettled es hs ≡ Some slot → (h : Held) × IsUnsettled P es hs slot h
unsettled_found P es [] slot k e = cc
unsettled_found P es (h ∷ hs) slot k e = by (tells_id es h.pending.id) (h.answer) refl refl (λ z. unsettled_found P es hs slot k.1 z) e
  where
    further : (x : Held) × IsUnsettled P es hs slot x → (x : Held) × IsUnsettled P es (h ∷ hs) slot x
    further f = (f.0, (suc f.1.0, f.1.1, f.1.2, f.1.3, f.1.4, f.1.5))

    by : (a : Bool) (o : Option Brought) → tells_id es h.pending.id ≡ a → h.answer ≡ o → (unsettled es hs ≡ Some slot → (x : Held) × IsUnsettled P es hs slot x)
        → (if a && is_none o then Some h.pending.slot else unsettled es hs) ≡ Some slot → (x : Held) × IsUnsettled P es (h ∷ hs) slot x
    by true None a o f e = (h, (0, refl, k.0, o, cc, a))
    by true (Some x) a o f e = further (f e)
    by false o a x f e = further (f e)

-- ---- those that are known to be waited for are among those that it tells

-- a graver condition halts where one of the two does
pub halts_graver : (a b : Condition) → halts (graver a b) ≡ (halts a || halts b)
halts_graver Fine b = refl
halts_graver (Error n) b = refl
halts_graver EndOfFile Fine = refl
halts_graver EndOfFile EndOfFile = refl
halts_graver EndOfFile EndOfRecord = refl
halts_graver EndOfFile (Error n) = refl
halts_graver EndOfRecord Fine = refl
halts_graver EndOfRecord EndOfFile = refl
halts_graver EndOfRecord EndOfRecord = refl
halts_graver EndOfRecord (Error n) = refl

-- nothing is known of it, or what became of it
abbrev pub IsKnownOr : (Held → Entry) → Held → Type 0
IsKnownOr g h = (h.answer ≡ None) ⊎ (known h ≡ g h)

implied : (a b c d : Bool) → (a ≡ true → c ≡ true) → (b ≡ true → d ≡ true) → (a || b) ≡ true → (c || d) ≡ true
implied true b c d f g e = ap (λ x. x || d) (f refl)
implied false b true d f g e = refl
implied false b false d f g e = g e

module _ (g : Held → Entry) (ids : (h : Held) → (g h).id ≡ h.pending.id) (units : (h : Held) → (g h).unit ≡ h.pending.unit) where
  fine_known : (h : Held) → IsKnownOr g h → halts (known h).condition ≡ true → halts (g h).condition ≡ true
  fine_known h (inl none) e = absurd (let z : false ≡ true = sym (ap (λ o. halts (entry_with h.pending o).condition) none) ∙ e in cc)
  fine_known h (inr same) e = ap (λ x. halts x.condition) (sym same) ∙ e

  -- what is known of the chosen ones halts only where what became of them does
  chosen_halts : (q : ℕ → ℕ → Bool) (hs : List Held) → Each (IsKnownOr g) hs → halts (condition_of (filter (λ (e : Entry). q e.unit e.id) (map known hs))) ≡ true → halts (condition_of (filter (λ (e : Entry). q e.unit e.id) (map g hs))) ≡ true
  chosen_halts q [] k e = cc
  chosen_halts q (h ∷ hs) k e =
      by (q (known h).unit (known h).id) (q (g h).unit (g h).id) (like g ids units hs q h) (chosen_halts q hs k.1) e
    where
      by : (a b : Bool) → a ≡ b → (halts (condition_of (filter (λ (e : Entry). q e.unit e.id) (map known hs))) ≡ true → halts (condition_of (filter (λ (e : Entry). q e.unit e.id) (map g hs))) ≡ true)
          → halts (condition_of (if a then known h ∷ filter (λ (e : Entry). q e.unit e.id) (map known hs) else filter (λ (e : Entry). q e.unit e.id) (map known hs))) ≡ true
          → halts (condition_of (if b then g h ∷ filter (λ (e : Entry). q e.unit e.id) (map g hs) else filter (λ (e : Entry). q e.unit e.id) (map g hs))) ≡ true
      by true true same f e =
          halts_graver (g h).condition (condition_of (filter (λ (e : Entry). q e.unit e.id) (map g hs)))
          ∙ implied (halts (known h).condition) (halts (condition_of (filter (λ (e : Entry). q e.unit e.id) (map known hs)))) (halts (g h).condition) (halts (condition_of (filter (λ (e : Entry). q e.unit e.id) (map g hs))))
          (fine_known h k.0) f (sym (halts_graver (known h).condition (condition_of (filter (λ (e : Entry). q e.unit e.id) (map known hs)))) ∙ e)
      by true false same f e = cc
      by false true same f e = cc
      by false false same f e = f e

  chosen_ids : (q : ℕ → ℕ → Bool) (id : ℕ) (hs : List Held) → tells_id (filter (λ (e : Entry). q e.unit e.id) (map known hs)) id ≡ tells_id (filter (λ (e : Entry). q e.unit e.id) (map g hs)) id
  chosen_ids q id [] = refl
  chosen_ids q id (h ∷ hs) = by (q (known h).unit (known h).id) (q (g h).unit (g h).id) (like g ids units hs q h) (chosen_ids q id hs)
    where
      by : (a b : Bool) → a ≡ b → tells_id (filter (λ (e : Entry). q e.unit e.id) (map known hs)) id ≡ tells_id (filter (λ (e : Entry). q e.unit e.id) (map g hs)) id
          → tells_id (if a then known h ∷ filter (λ (e : Entry). q e.unit e.id) (map known hs) else filter (λ (e : Entry). q e.unit e.id) (map known hs)) id
          ≡ tells_id (if b then g h ∷ filter (λ (e : Entry). q e.unit e.id) (map g hs) else filter (λ (e : Entry). q e.unit e.id) (map g hs)) id
      by true true same e = ap (λ n. (n == id) || tells_id (filter (λ (e : Entry). q e.unit e.id) (map known hs)) id) (known_id h ∙ sym (ids h)) ∙ ap (λ b. ((g h).id == id) || b) e
      by true false same e = cc
      by false true same e = cc
      by false false same e = e

  unit_ids : (number : Option ℕ) (id : ℕ) (hs : List Held) → tells_id (of_unit (map known hs) number) id ≡ tells_id (of_unit (map g hs) number) id
  unit_ids None id hs = refl
  unit_ids (Some n) id hs = chosen_ids (λ u k. u == n) id hs

  id_halts : (number : Option ℕ) (which : ℤ) (hs : List Held) → Each (IsKnownOr g) hs → halts (condition_of (of_id (map known hs) number which)) ≡ true → halts (condition_of (of_id (map g hs) number which)) ≡ true
  id_halts None which hs k e = cc
  id_halts (Some n) which hs k e =
      let two = λ (xs : List Entry). ap (λ es. halts (condition_of es)) (filter_filter (λ (x : Entry). x.unit == n) (λ (x : Entry). int_eq (pos x.id) which) xs) in
      two (map g hs) ∙ chosen_halts (λ u j. (u == n) && int_eq (pos j) which) hs k (sym (two (map known hs)) ∙ e)

  id_ids : (number : Option ℕ) (which : ℤ) (id : ℕ) (hs : List Held) → tells_id (of_id (map known hs) number which) id ≡ tells_id (of_id (map g hs) number which) id
  id_ids None which id hs = refl
  id_ids (Some n) which id hs =
      let two = λ (xs : List Entry). ap (λ es. tells_id es id) (filter_filter (λ (x : Entry). x.unit == n) (λ (x : Entry). int_eq (pos x.id) which) xs) in
      two (map known hs) ∙ chosen_ids (λ u j. (u == n) && int_eq (pos j) which) id hs ∙ sym (two (map g hs))

  by_ids : (number : Option ℕ) (which : Option ℤ) (id : ℕ) (hs : List Held) → Each (IsKnownOr g) hs → tells_id (waited_by (map known hs) number which) id ≡ true → tells_id (waited_by (map g hs) number which) id ≡ true
  by_ids number None id hs k e = sym (unit_ids number id hs) ∙ e
  by_ids number (Some which) id hs k e =
      by (halts (condition_of (of_id (map known hs) number which))) (halts (condition_of (of_id (map g hs) number which))) (id_halts number which hs k) e
    where
      narrow : (es : List Entry) → tells_id (filter (λ (x : Entry). int_eq (pos x.id) which) es) id ≡ true → tells_id es id ≡ true
      narrow [] e = e
      narrow (x ∷ es) e = inner (int_eq (pos x.id) which) (narrow es) e
        where
          inner : (b : Bool) → (tells_id (filter (λ (x : Entry). int_eq (pos x.id) which) es) id ≡ true → tells_id es id ≡ true)
              → tells_id (if b then x ∷ filter (λ (x : Entry). int_eq (pos x.id) which) es else filter (λ (x : Entry). int_eq (pos x.id) which) es) id ≡ true → tells_id (x ∷ es) id ≡ true
          inner true f e = implied (x.id == id) (tells_id (filter (λ (x : Entry). int_eq (pos x.id) which) es) id) (x.id == id) (tells_id es id) (λ z. z) f e
          inner false f e = implied false true (x.id == id) (tells_id es id) (λ z. cc) (λ z. f e) refl

      by : (a b : Bool) → (a ≡ true → b ≡ true) → tells_id (if a then of_unit (map known hs) number else of_id (map known hs) number which) id ≡ true
          → tells_id (if b then of_unit (map g hs) number else of_id (map g hs) number which) id ≡ true
      by true b f e = ap (λ x. tells_id (if x then of_unit (map g hs) number else of_id (map g hs) number which) id) (f refl) ∙ sym (unit_ids number id hs) ∙ e
      by false true f e = narrow (of_unit (map g hs) number) (sym (id_ids number which id hs) ∙ e)
      by false false f e = sym (id_ids number which id hs) ∙ e

  -- for each kind of statement
  pub waited_among : (vars : Variables) (st : Statement) (id : ℕ) (hs : List Held) → Each (IsKnownOr g) hs → tells_id (waited_in (map known hs) vars st) id ≡ true → tells_id (waited_in (map g hs) vars st) id ≡ true
  waited_among vars (statement.Assign to from) id hs k e = e
  waited_among vars (statement.OpenUnit u spec iostat) id hs k e = sym (unit_ids (number_of u) id hs) ∙ e
  waited_among vars (statement.CloseUnit u keep iostat) id hs k e = sym (unit_ids (number_of u) id hs) ∙ e
  waited_among vars (statement.WaitFor u which iostat) id hs k e = by_ids (number_of u) (number_given vars which) id hs k e
  waited_among vars (statement.Move how u iostat) id hs k e = sym (unit_ids (number_of u) id hs) ∙ e
  waited_among vars (statement.Inquire about asked which iostat None) id hs k e = e
  waited_among vars (statement.Inquire about asked which iostat (Some false)) id hs k e = e
  waited_among vars (statement.Inquire about asked which iostat (Some true)) id hs k e = by_ids (number_of_subject about) (number_given vars which) id hs k e
  waited_among vars (statement.Transfer t) id hs k e = by (is_asynchronous t) e
    where
      by : (b : Bool) → tells_id (if b then [] else of_unit (map known hs) (number_of t.unit)) id ≡ true → tells_id (if b then [] else of_unit (map g hs) (number_of t.unit)) id ≡ true
      by true e = e
      by false e = sym (unit_ids (number_of t.unit) id hs) ∙ e
  waited_among vars statement.End id hs k e = all hs e
    where
      all : (xs : List Held) → tells_id (map known xs) id ≡ true → tells_id (map g xs) id ≡ true
      all [] e = e
      all (x ∷ xs) e = implied ((known x).id == id) (tells_id (map known xs) id) ((g x).id == id) (tells_id (map g xs) id) (λ z. ap (λ n. n == id) (ids x ∙ sym (known_id x)) ∙ z) (all xs) e
