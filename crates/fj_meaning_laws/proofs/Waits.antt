-- The transfers that a statement waits for, as a list and in words.
use Rattle.std.proofs.Common.{◌≡◌, ◌≢◌, ℕ, ℤ, pos, Bool, true, false, not, List, [], ◌∷◌, ◌++◌, map, get_or, Option, Some, None, unwrap_or, refl, sym, ap, ◌∙◌, subst, ◌⊎◌, inl, inr, ◌&&◌, ◌||◌}
use Rattle.std.specs.Prelude.{◌==◌, ◌↔◌, if◌then◌else◌, filter}
use Rattle.std.specs.List.{All, Contains, list_any}
use Rattle.std.specs.Ordering.{int_eq}
use Rattle.std.proofs.lemmas.Bool.{eq-eqb, eqb-true, and_from, and_parts}
use Rattle.std.proofs.lemmas.Bool.Decides.{Decides-int_eq}
use Rattle.std.proofs.lemmas.List.Elements.{All-contains, Contains-get_or, Contains-append_right}
use Rattle.fj_value.specs.declared.condition.Condition.{Condition}
use Rattle.fj_value.specs.declared.condition.Condition.TheVariants.{Fine, EndOfFile, EndOfRecord, Error}
use Rattle.fj_value.specs.declared.place.Place.{Place}
use Rattle.fj_value.specs.declared.value.Value.{Value}
use Rattle.fj_value.specs.declared.value.Value.TheVariants as value
use Rattle.fj_modes.specs.declared.asked.Wanted.{Wanted}
use Rattle.fj_statement.specs.declared.deck.Variable.{Variable}
use Rattle.fj_statement.specs.declared.unit.UnitRef.{UnitRef}
use Rattle.fj_statement.specs.declared.unit.Subject.{Subject}
use Rattle.fj_statement.specs.declared.unit.Subject.TheVariants as subject
use Rattle.fj_statement.specs.declared.statement.Operand.{Operand}
use Rattle.fj_statement.specs.declared.statement.Transfer.{Transfer}
use Rattle.fj_statement.specs.declared.statement.Statement.{Statement}
use Rattle.fj_statement.specs.declared.statement.Statement.TheVariants as statement
use Rattle.fj_statement.specs.Units.{number_of}
use Rattle.fj_book.specs.Prohibitions.{prohibited}
use Rattle.fj_meaning.specs.State.{State, Files, Entry, halts}
use Rattle.fj_meaning.specs.Items.{value_of, integer_of}
use Rattle.fj_meaning.specs.Needs.{need, holders, number_given, number_of_subject}
use Rattle.fj_meaning.specs.Telling.{of_unit, of_id, graver, condition_of, waited_by, if_done, is_asynchronous, waited, tell_of}
use Rattle.fj_meaning.specs.Statement.{Stated, step, unit_at}
use Rattle.fj_meaning.specs.Reaching.{reached, fits, becomes_pending}
use Rattle.fj_meaning.specs.PendingLaws.{Turns}
use Rattle.fj_meaning.proofs.Lists.{no, filter_true, filter_false, filter_two, none_passes}
use Rattle.fj_meaning.proofs.Sound.{Sound}
use Rattle.fj_meaning.proofs.Reached.{sound_reached}
use Rattle.fj_meaning.proofs.Turning.{turns}
use Rattle.fj_meaning_laws.specs.Awaiting.{WaitsForAll, by_open, by_close, by_motion, by_transfer, by_wait, by_question, WaitsForOne, by_wait_id, by_question_id, IsNamed, IsGrave, error, file_ended, Awaits, all_of_unit, the_one, beside_it, at_end}
use Rattle.fj_meaning_laws.specs.AwaitingLaws.{HasNumber, AwaitsExactly}
use Rattle.fj_meaning_laws.proofs.Membership.{nowhere, some_is, heads, tails, at_cons, map_from}

-- ---- elements that pass a test

module _ {X : Type 0} (p : X → Bool) where
  pub passing_in : (xs : List X) (x : X) → Contains (filter p xs) x → Contains xs x × (p x ≡ true)
  passing_in [] x at = nowhere x at
  passing_in (y ∷ ys) x at = by (p y) refl at (passing_in ys x)
    where
      one : p y ≡ true → (Contains (filter p ys) x → Contains ys x × (p x ≡ true)) → (y ≡ x) ⊎ Contains (filter p ys) x → Contains (y ∷ ys) x × (p x ≡ true)
      one e rest (inl same) = (heads y ys x same, sym (ap p same) ∙ e)
      one e rest (inr k) = let found = rest k in (tails y ys x found.0, found.1)

      by : (b : Bool) → p y ≡ b → Contains (if b then y ∷ filter p ys else filter p ys) x → (Contains (filter p ys) x → Contains ys x × (p x ≡ true)) → Contains (y ∷ ys) x × (p x ≡ true)
      by true e h rest = one e rest (at_cons y (filter p ys) x h)
      by false e h rest = let found = rest h in (tails y ys x found.0, found.1)

  pub in_passing : (xs : List X) (x : X) → Contains xs x → p x ≡ true → Contains (filter p xs) x
  in_passing [] x at h = nowhere x at
  in_passing (y ∷ ys) x at h = by (p y) refl (at_cons y ys x at) (in_passing ys x)
    where
      by : (b : Bool) → p y ≡ b → (y ≡ x) ⊎ Contains ys x → (Contains ys x → p x ≡ true → Contains (filter p ys) x) → Contains (if b then y ∷ filter p ys else filter p ys) x
      by true e (inl same) rest = heads y (filter p ys) x same
      by true e (inr k) rest = tails y (filter p ys) x (rest k h)
      by false e (inl same) rest = no (sym e ∙ ap p same ∙ h)
      by false e (inr k) rest = rest k h

  pub any_in : (xs : List X) → list_any p xs ≡ true → (x : X) × Contains xs x × (p x ≡ true)
  any_in [] h = no h
  any_in (y ∷ ys) h = by (p y) refl h (any_in ys)
    where
      by : (b : Bool) → p y ≡ b → (b || list_any p ys) ≡ true → (list_any p ys ≡ true → (x : X) × Contains ys x × (p x ≡ true)) → (x : X) × Contains (y ∷ ys) x × (p x ≡ true)
      by true e k rest = (y, heads y ys y refl, e)
      by false e k rest = let found = rest k in (found.0, tails y ys found.0 found.1, found.2)

-- ---- conditions

graver_halts : (c d : Condition) → halts (graver c d) ≡ (halts c || halts d)
graver_halts Fine d = refl
graver_halts EndOfFile Fine = refl
graver_halts EndOfFile EndOfFile = refl
graver_halts EndOfFile EndOfRecord = refl
graver_halts EndOfFile (Error n) = refl
graver_halts EndOfRecord Fine = refl
graver_halts EndOfRecord EndOfFile = refl
graver_halts EndOfRecord EndOfRecord = refl
graver_halts EndOfRecord (Error n) = refl
graver_halts (Error n) d = refl

condition_halts : (es : List Entry) → halts (condition_of es) ≡ list_any (λ (e : Entry). halts e.condition) es
condition_halts [] = refl
condition_halts (e ∷ es) = graver_halts e.condition (condition_of es) ∙ ap (λ b. halts e.condition || b) (condition_halts es)

grave : (c : Condition) → halts c ≡ true → IsGrave c
grave Fine h = no h
grave EndOfFile h = file_ended
grave EndOfRecord h = no h
grave (Error n) h = error

of_grave : (c : Condition) → IsGrave c → halts c ≡ true
of_grave _ error = refl
of_grave _ file_ended = refl

-- ---- the statements

pub not_later : (t : Transfer) → t.asynchronous ≢ Some true → is_asynchronous t ≡ false
not_later t h = by t.asynchronous h
  where
    by : (o : Option Bool) → o ≢ Some true → unwrap_or o false ≡ false
    by None ne = refl
    by (Some true) ne = absurd (ne refl)
    by (Some false) ne = refl

later_not : (t : Transfer) → is_asynchronous t ≡ false → t.asynchronous ≢ Some true
later_not t h e = no (sym h ∙ ap (λ o. unwrap_or o false) e)

abbrev is_end : Statement → Bool
is_end statement.End = true
is_end _ = false

abbrev ForAll : Statement → ℕ → Type 0
ForAll (statement.OpenUnit u spec status) n = number_of u ≡ Some n
ForAll (statement.CloseUnit u keep status) n = number_of u ≡ Some n
ForAll (statement.Move how u status) n = number_of u ≡ Some n
ForAll (statement.Transfer t) n = (is_asynchronous t ≡ false) × (number_of t.unit ≡ Some n)
ForAll (statement.WaitFor u None status) n = number_of u ≡ Some n
ForAll (statement.Inquire (subject.Unit u) asked None status (Some true)) n = number_of u ≡ Some n
ForAll _ n = ⊥

for_all : (st : Statement) (n : ℕ) → WaitsForAll st n → ForAll st n
for_all _ n (by_open e) = e
for_all _ n (by_close e) = e
for_all _ n (by_motion e) = e
for_all _ n (by_transfer {t = t} ne e) = (not_later t ne, e)
for_all _ n (by_wait e) = e
for_all _ n (by_question e) = e

abbrev ForOne : Statement → ℕ → Operand → Type 0
ForOne (statement.WaitFor u (Some i) status) n id = (number_of u ≡ Some n) × (i ≡ id)
ForOne (statement.Inquire (subject.Unit u) asked (Some i) status (Some true)) n id = (number_of u ≡ Some n) × (i ≡ id)
ForOne _ n id = ⊥

for_one : (st : Statement) (n : ℕ) (id : Operand) → WaitsForOne st n id → ForOne st n id
for_one _ n id (by_wait_id e) = (e, refl)
for_one _ n id (by_question_id e) = (e, refl)

-- why it is waited for
data Why (s : State) (st : Statement) (e : Entry) : Type 0 where
  with_all : (n : ℕ) → ForAll st n → e.unit ≡ n → Why s st e
  itself : (n : ℕ) (id : Operand) → ForOne st n id → IsNamed s n id e → Why s st e
  with_it : (n : ℕ) (id : Operand) (f : Entry) → ForOne st n id → Contains s.book f → IsNamed s n id f → IsGrave f.condition → e.unit ≡ n → Why s st e
  ends : st ≡ statement.End → Why s st e

why : (s : State) (st : Statement) (e : Entry) → Awaits s st e → Why s st e
why s _ e (all_of_unit {st = st} {n = n} h k) = with_all n (for_all st n h) k
why s _ e (the_one {st = st} {n = n} {id = id} h k) = itself n id (for_one st n id h) k
why s _ e (beside_it {st = st} {n = n} {id = id} {f = f} h at k g i) = with_it n id f (for_one st n id h) at k g i
why s _ e at_end = ends refl

abbrev Exactly : State → Statement → List Entry → Type 0
Exactly s st es = (q : Entry → Bool) × (es ≡ filter q s.book) × All (λ (e : Entry). (q e ≡ true) ↔ Awaits s st e) s.book

module _ (s : State) (st : Statement) (unended : st ≡ statement.End → ⊥) where
  -- it waits for none
  none_waited : ((n : ℕ) → ForAll st n → ⊥) → ((n : ℕ) (id : Operand) → ForOne st n id → ⊥) → Exactly s st []
  none_waited all one = (λ _. false, sym (filter_false s.book), λ k d within. (λ h. no h, λ a. absurd (by (get_or s.book k d) (why s st (get_or s.book k d) a))))
    where
      by : (e : Entry) → Why s st e → ⊥
      by e (with_all n h k) = all n h
      by e (itself n id h k) = one n id h
      by e (with_it n id f h at k g i) = one n id h
      by e (ends h) = unended h

  -- for all of a unit
  unit_waited : (o : Option ℕ) → ((n : ℕ) → o ≡ Some n → WaitsForAll st n) → ((n : ℕ) → ForAll st n → o ≡ Some n) → ((n : ℕ) (id : Operand) → ForOne st n id → ⊥)
      → Exactly s st (of_unit s.book o)
  unit_waited None all back one = none_waited (λ n h. let never : ◌≡◌ {A = Option ℕ} None (Some n) = back n h in cc) one
  unit_waited (Some m) all back one = (
    λ e. e.unit == m,
    refl,
    λ k d within.
        (λ h. all_of_unit (all m refl) (eqb-true (get_or s.book k d).unit m h), λ a. by (get_or s.book k d) (why s st (get_or s.book k d) a)),
  )
    where
      by : (e : Entry) → Why s st e → (e.unit == m) ≡ true
      by e (with_all n h k) = eq-eqb e.unit m (k ∙ sym (some_is m n (back n h)))
      by e (itself n id h k) = absurd (one n id h)
      by e (with_it n id f h at k g i) = absurd (one n id h)
      by e (ends h) = absurd (unended h)

  -- for the one that ID= names
  module _ (m : ℕ) (id : Operand) (number : ℤ) (is : value_of s.vars id ≡ value.Int number) (one : WaitsForOne st m id)
      (all : (n : ℕ) → ForAll st n → ⊥) (back : (n : ℕ) (i : Operand) → ForOne st n i → (Some m ≡ Some n) × (id ≡ i)) where
    abbrev both : Entry → Bool
    both x = (x.unit == m) && int_eq (pos x.id) number

    two : of_id s.book (Some m) number ≡ filter both s.book
    two = filter_two (λ (x : Entry). int_eq (pos x.id) number) (λ (x : Entry). x.unit == m) s.book

    abbrev int_part : Value → ℤ
    int_part (value.Int z) = z
    int_part _ = pos 0

    named : (e : Entry) → both e ≡ true → IsNamed s m id e
    named e h =
        let parts = and_parts (e.unit == m) (int_eq (pos e.id) number) h in
        (eqb-true e.unit m parts.0, is ∙ ap (λ z. value.Int z) (sym ((Decides-int_eq (pos e.id) number).0 parts.1)))

    is_named : (e : Entry) → IsNamed s m id e → both e ≡ true
    is_named e h =
        and_from (e.unit == m) (int_eq (pos e.id) number) (eq-eqb e.unit m h.0) ((Decides-int_eq (pos e.id) number).1 (sym (ap int_part (sym is ∙ h.1))))

    as_named : (n : ℕ) (i : Operand) (e : Entry) → ForOne st n i → IsNamed s n i e → IsNamed s m id e
    as_named n i e h k = let same = back n i h in (k.0 ∙ sym (some_is m n same.0), ap (value_of s.vars) same.1 ∙ k.1)

    -- which met an error or the end of the file, or did not
    grave_waited : halts (condition_of (of_id s.book (Some m) number)) ≡ true → Exactly s st (of_unit s.book (Some m))
    grave_waited h = (
      λ e. e.unit == m,
      refl,
      λ k d within.
          (λ i. beside_it one inside.0 (named found.0 inside.1) (grave found.0.condition found.2) (eqb-true (get_or s.book k d).unit m i), λ a. by (get_or s.book k d) (why s st (get_or s.book k d) a)),
    )
      where
        found : (x : Entry) × Contains (filter both s.book) x × (halts x.condition ≡ true)
        found = any_in (λ (x : Entry). halts x.condition) (filter both s.book) (ap (list_any (λ (x : Entry). halts x.condition)) (sym two) ∙ sym (condition_halts (of_id s.book (Some m) number)) ∙ h)

        inside : Contains s.book found.0 × (both found.0 ≡ true)
        inside = passing_in both s.book found.0 found.1

        by : (e : Entry) → Why s st e → (e.unit == m) ≡ true
        by e (with_all n a k) = absurd (all n a)
        by e (itself n i a k) = eq-eqb e.unit m (as_named n i e a k).0
        by e (with_it n i f a at k g same) = eq-eqb e.unit m (same ∙ sym (some_is m n (back n i a).0))
        by e (ends k) = absurd (unended k)

    mild_waited : halts (condition_of (of_id s.book (Some m) number)) ≡ false → Exactly s st (of_id s.book (Some m) number)
    mild_waited h = (both, two, λ k d within. (λ i. the_one one (named (get_or s.book k d) i), λ a. by (get_or s.book k d) (why s st (get_or s.book k d) a)))
      where
        mild : list_any (λ (x : Entry). halts x.condition) (filter both s.book) ≡ false
        mild = ap (list_any (λ (x : Entry). halts x.condition)) (sym two) ∙ sym (condition_halts (of_id s.book (Some m) number)) ∙ h

        never : (f : Entry) → Contains s.book f → both f ≡ true → halts f.condition ≡ true → ⊥
        never f at i g = no (sym (All-contains (λ (x : Entry). halts x.condition ≡ false) (filter both s.book) f (none_passes (λ (x : Entry). halts x.condition) (filter both s.book) mild) (in_passing both s.book f at i)) ∙ g)

        by : (e : Entry) → Why s st e → both e ≡ true
        by e (with_all n a k) = absurd (all n a)
        by e (itself n i a k) = is_named e (as_named n i e a k)
        by e (with_it n i f a at k g same) = absurd (never f at (is_named f (as_named n i f a k)) (of_grave f.condition g))
        by e (ends k) = absurd (unended k)

    one_waited : Exactly s st (waited_by s.book (Some m) (Some number))
    one_waited = by (halts (condition_of (of_id s.book (Some m) number))) refl
      where
        by : (b : Bool) → halts (condition_of (of_id s.book (Some m) number)) ≡ b → Exactly s st (if b then of_unit s.book (Some m) else of_id s.book (Some m) number)
        by true h = grave_waited h
        by false h = mild_waited h

no_unit_waited : (s : State) (x : Option ℤ) → waited_by s.book None x ≡ []
no_unit_waited s None = refl
no_unit_waited s (Some k) = refl

-- WAIT and INQUIRE, with ID= or without it
wait_id : (s : State) (u : UnitRef) (id : Operand) (status : Option Place) (o : Option ℕ) → number_of u ≡ o → HasNumber s (statement.WaitFor u (Some id) status)
    → Exactly s (statement.WaitFor u (Some id) status) (waited_by s.book o (number_given s.vars (Some id)))
wait_id s u id status None e has =
    subst (Exactly s (statement.WaitFor u (Some id) status)) (sym (no_unit_waited s (number_given s.vars (Some id))))
    (none_waited s (statement.WaitFor u (Some id) status) (λ h. no (ap is_end h)) (λ n h. h) (λ n i h. let never : ◌≡◌ {A = Option ℕ} None (Some n) = sym e ∙ h.0 in cc))
wait_id s u id status (Some m) e has =
    let found = has m id (by_wait_id e) in
    subst (λ x. Exactly s (statement.WaitFor u (Some id) status) (waited_by s.book (Some m) x)) (sym (ap integer_of found.1))
    (one_waited s (statement.WaitFor u (Some id) status) (λ h. no (ap is_end h)) m id found.0 found.1 (by_wait_id e) (λ n h. h) (λ n i h. (sym e ∙ h.0, h.1)))

question_id : (s : State) (u : UnitRef) (asked : List Wanted) (id : Operand) (status : Option Place) (o : Option ℕ) → number_of u ≡ o
    → HasNumber s (statement.Inquire (subject.Unit u) asked (Some id) status (Some true))
    → Exactly s (statement.Inquire (subject.Unit u) asked (Some id) status (Some true)) (waited_by s.book o (number_given s.vars (Some id)))
question_id s u asked id status None e has =
    subst (Exactly s (statement.Inquire (subject.Unit u) asked (Some id) status (Some true))) (sym (no_unit_waited s (number_given s.vars (Some id))))
    (none_waited s (statement.Inquire (subject.Unit u) asked (Some id) status (Some true)) (λ h. no (ap is_end h)) (λ n h. h) (λ n i h. let never : ◌≡◌ {A = Option ℕ} None (Some n) = sym e ∙ h.0 in cc))
question_id s u asked id status (Some m) e has =
    let found = has m id (by_question_id e) in
    subst (λ x. Exactly s (statement.Inquire (subject.Unit u) asked (Some id) status (Some true)) (waited_by s.book (Some m) x)) (sym (ap integer_of found.1))
    (one_waited s (statement.Inquire (subject.Unit u) asked (Some id) status (Some true)) (λ h. no (ap is_end h)) m id found.0 found.1 (by_question_id e) (λ n h. h) (λ n i h. (sym e ∙ h.0, h.1)))

-- INQUIRE to which nothing is known to be done
abbrev IsUnknown : Option Bool → Type 0
IsUnknown (Some true) = ⊥
IsUnknown _ = Unit {0}

unknown_all : (about : Subject) (asked : List Wanted) (id : Option Operand) (status : Option Place) (look : Option Bool) → IsUnknown look → (n : ℕ)
    → ForAll (statement.Inquire about asked id status look) n → ⊥
unknown_all (subject.File name) asked id status look h n a = a
unknown_all (subject.Unit u) asked (Some id) status look h n a = a
unknown_all (subject.Unit u) asked None status None h n a = a
unknown_all (subject.Unit u) asked None status (Some false) h n a = a
unknown_all (subject.Unit u) asked None status (Some true) h n a = h

unknown_one : (about : Subject) (asked : List Wanted) (id : Option Operand) (status : Option Place) (look : Option Bool) → IsUnknown look → (n : ℕ) (i : Operand)
    → ForOne (statement.Inquire about asked id status look) n i → ⊥
unknown_one (subject.File name) asked id status look h n i a = a
unknown_one (subject.Unit u) asked None status look h n i a = a
unknown_one (subject.Unit u) asked (Some id) status None h n i a = a
unknown_one (subject.Unit u) asked (Some id) status (Some false) h n i a = a
unknown_one (subject.Unit u) asked (Some id) status (Some true) h n i a = h

unknown_waited : (s : State) (about : Subject) (asked : List Wanted) (id : Option Operand) (status : Option Place) (look : Option Bool) → IsUnknown look
    → Exactly s (statement.Inquire about asked id status look) []
unknown_waited s about asked id status look h =
    none_waited s (statement.Inquire about asked id status look) (λ e. no (ap is_end e)) (unknown_all about asked id status look h) (unknown_one about asked id status look h)

transfer_waited : (s : State) (t : Transfer) (b : Bool) → is_asynchronous t ≡ b → Exactly s (statement.Transfer t) (if b then [] else of_unit s.book (number_of t.unit))
transfer_waited s t true e = none_waited s (statement.Transfer t) (λ h. no (ap is_end h)) (λ n h. no (sym h.0 ∙ e)) (λ n i h. h)
transfer_waited s t false e =
    unit_waited s (statement.Transfer t) (λ h. no (ap is_end h)) (number_of t.unit) (λ n h. by_transfer (later_not t e) h) (λ n h. h.1) (λ n i h. h)

pub awaits_exactly : AwaitsExactly
awaits_exactly s (statement.Assign to from) has = none_waited s (statement.Assign to from) (λ h. no (ap is_end h)) (λ n h. h) (λ n i h. h)
awaits_exactly s (statement.OpenUnit u spec status) has =
    unit_waited s (statement.OpenUnit u spec status) (λ h. no (ap is_end h)) (number_of u) (λ n h. by_open h) (λ n h. h) (λ n i h. h)
awaits_exactly s (statement.CloseUnit u keep status) has =
    unit_waited s (statement.CloseUnit u keep status) (λ h. no (ap is_end h)) (number_of u) (λ n h. by_close h) (λ n h. h) (λ n i h. h)
awaits_exactly s (statement.WaitFor u None status) has =
    unit_waited s (statement.WaitFor u None status) (λ h. no (ap is_end h)) (number_of u) (λ n h. by_wait h) (λ n h. h) (λ n i h. h)
awaits_exactly s (statement.WaitFor u (Some id) status) has = wait_id s u id status (number_of u) refl has
awaits_exactly s (statement.Move how u status) has =
    unit_waited s (statement.Move how u status) (λ h. no (ap is_end h)) (number_of u) (λ n h. by_motion h) (λ n h. h) (λ n i h. h)
awaits_exactly s (statement.Inquire about asked id status None) has = unknown_waited s about asked id status None tt
awaits_exactly s (statement.Inquire about asked id status (Some false)) has = unknown_waited s about asked id status (Some false) tt
awaits_exactly s (statement.Inquire (subject.File name) asked id status (Some true)) has =
    subst (Exactly s (statement.Inquire (subject.File name) asked id status (Some true))) (sym (no_unit_waited s (number_given s.vars id)))
    (none_waited s (statement.Inquire (subject.File name) asked id status (Some true)) (λ h. no (ap is_end h)) (λ n h. h) (λ n i h. h))
awaits_exactly s (statement.Inquire (subject.Unit u) asked None status (Some true)) has =
    unit_waited s (statement.Inquire (subject.Unit u) asked None status (Some true)) (λ h. no (ap is_end h)) (number_of u) (λ n h. by_question h) (λ n h. h) (λ n i h. h)
awaits_exactly s (statement.Inquire (subject.Unit u) asked (Some id) status (Some true)) has = question_id s u asked id status (number_of u) refl has
awaits_exactly s (statement.Transfer t) has = transfer_waited s t (is_asynchronous t) refl
awaits_exactly s statement.End has = (λ _. true, sym (filter_true s.book), λ k d within. (λ h. at_end, λ a. refl))

-- ---- where it waits for all of a unit

all_waited : (s : State) (st : Statement) (n : ℕ) → WaitsForAll st n → waited s st ≡ of_unit s.book (Some n)
all_waited s _ n (by_open e) = ap (of_unit s.book) e
all_waited s _ n (by_close e) = ap (of_unit s.book) e
all_waited s _ n (by_motion e) = ap (of_unit s.book) e
all_waited s _ n (by_transfer {t = t} ne e) = ap (λ b. if b then [] else of_unit s.book (number_of t.unit)) (not_later t ne) ∙ ap (of_unit s.book) e
all_waited s _ n (by_wait e) = ap (of_unit s.book) e
all_waited s _ n (by_question e) = ap (of_unit s.book) e

none_begins : (variables : List Variable) (s : State) (st : Statement) (n : ℕ) → WaitsForAll st n → becomes_pending variables s st ≡ false
none_begins variables s _ n (by_open e) = refl
none_begins variables s _ n (by_close e) = refl
none_begins variables s _ n (by_motion e) = refl
none_begins variables s _ n (by_transfer {t = t} ne e) = ap (λ b. b && fits variables s t (unit_at s (number_of t.unit))) (not_later t ne)
none_begins variables s _ n (by_wait e) = refl
none_begins variables s _ n (by_question e) = refl

module _ (variables : List Variable) (st : Stated) (s : State) (n : ℕ) (all : WaitsForAll st.0.what n) (done : Turns variables st s (step variables st s).0) where
  abbrev at_unit : Entry → Bool
  at_unit e = e.unit == n

  told_at : filter at_unit s.book ≡ filter done.told s.book
  told_at = sym (all_waited s st.0.what n all) ∙ done.are_waited

  told_one : (e : Entry) → Contains s.book e → e.unit ≡ n → done.told e ≡ true
  told_one e at same = (passing_in done.told s.book e (subst (λ es. Contains es e) told_at (in_passing at_unit s.book e at (eq-eqb e.unit n same)))).1

  pub none_stays : All (λ (e : Entry). e.unit ≢ n) (step variables st s).0.book
  none_stays =
      subst (All (λ (e : Entry). e.unit ≢ n)) (sym (done.stays (none_begins variables s st.0.what n all)).0)
      (λ k d within same.
      let rest = filter (λ e. not (done.told e)) s.book in
      let e = get_or rest k d in
      let left = passing_in (λ x. not (done.told x)) s.book e (Contains-get_or rest k d within) in
      no (sym (ap not (told_one e left.0 same)) ∙ left.1))

  pub each_told : (e : Entry) → Contains s.book e → e.unit ≡ n → Contains (step variables st s).0.tells (tell_of st.0.line e)
  each_told e at same =
      subst (λ l. Contains l (tell_of st.0.line e)) (sym done.tells)
      (Contains-append_right s.tells (map (tell_of st.0.line) (waited s st.0.what)) (tell_of st.0.line e)
      (map_from (tell_of st.0.line) (tell_of st.0.line e) (waited s st.0.what) e
      (subst (λ es. Contains es e) (sym (all_waited s st.0.what n all)) (in_passing at_unit s.book e at (eq-eqb e.unit n same))) refl))

pub none_pending : (variables : List Variable) (sts : List Stated) (files : Files) (st : Stated) (n : ℕ) →
    let s = reached variables sts files in
    let after = (step variables st s).0 in
    WaitsForAll st.0.what n → prohibited s.vars (holders s.book) (need variables s st.0.what) ≡ None →
    All (λ (e : Entry). e.unit ≢ n) after.book
    × ((e : Entry) → Contains s.book e → e.unit ≡ n → Contains after.tells (tell_of st.0.line e))
none_pending variables sts files st n all allowed =
    let s = reached variables sts files in
    let done = turns variables st s (sound_reached variables sts files).rise allowed in
    (none_stays variables st s n all done, each_told variables st s n all done)
