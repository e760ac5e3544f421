-- Statements that may look, and the one at hand.
use Rattle.std.proofs.Common.{◌≡◌, ℕ, zero, suc, ◌+◌, ◌<◌, ◌≤◌, Bool, true, false, cond, List, [], ◌∷◌, drop, length, get_or, slice_get, slice_set, Option, Some, None, is_some, is_none, ◌&&◌, if◌then◌else◌, refl, sym, ap, subst, ◌∙◌, arith}
use Rattle.std.proofs.lemmas.List.Sums.{sum_by-cons}
use Rattle.std.specs.Option.{option_map, option_map_or}
use Rattle.fj_outside.specs.declared.outside.FileStore.{Ghosts}
use Rattle.fj_value.specs.declared.condition.Rule.{Rule}
use Rattle.fj_statement.specs.Units.{looked, number_due, unit_of, with_number}
use Rattle.fj_statement.specs.declared.deck.Lined.{Lined}
use Rattle.fj_statement.specs.declared.deck.Variable.{Variable}
use Rattle.fj_statement.specs.declared.unit.Subject.TheVariants as subject
use Rattle.fj_statement.specs.declared.statement.Statement.{Statement}
use Rattle.fj_statement.specs.declared.statement.Statement.TheVariants as statement
use Rattle.fj_store.specs.Storage.{values_of}
use Rattle.fj_store.specs.Variables.{value_at}
use Rattle.fj_meaning.specs.State.{Files}
use Rattle.fj_meaning.specs.Statement.{Stated}
use Rattle.fj_meaning_jobs.specs.Core.{Core}
use Rattle.fj_meaning_turns.specs.Run.{Run, Start}
use Rattle.fj_meaning_turns.specs.Turns.{rule_of}
use Rattle.fj_meaning_looks.specs.Inquiring.{Question, asked_transfers, asks_whether, look_due, looks_by, looks_for, question_at, question_of}
use Rattle.fj_run_statements.specs.State.{core_of}
use Rattle.fj_run_script.specs.Machine.{rest_of, run_at}
use Rattle.fj_run_script.specs.Room.{looks_left}
use Rattle.fj_run_script.specs.declared.machine.Machine.{Machine}
use Rattle.fj_run_script.proofs.AtHand.{began, hand_with}
use Rattle.fj_run_script.proofs.NextAsks.{hand_is, some_same}

-- ---- how many are left

counted : (l : Lined) (sts : List Lined) → looks_left (l ∷ sts) ≡ cond (asks_whether l.what) 1 0 + looks_left sts
counted l sts = sum_by-cons (λ (x : Lined). cond (asks_whether x.what) 1 0) l sts

no_less : (a b n : ℕ) → n ≡ a + b → b ≤ n
no_less a b n e = omega (arith, e)

one_fewer : (a b c n more : ℕ) → n ≡ a + c → more ≡ b + c → b ≡ 1 → a ≡ 0 → n + 1 ≡ more
one_fewer a b c n more e f was is = omega (arith, e, f, was, is)

some_more : (b c more : ℕ) → more ≡ b + c → b ≡ 1 → 1 ≤ more
some_more b c more f was = omega (arith, f, was)

asking_one : (x l : Lined) → x ≡ l → asks_whether l.what ≡ true → cond {A = ℕ} (asks_whether x.what) 1 0 ≡ 1
asking_one x l e asks = ap (λ (y : Lined). cond (asks_whether y.what) 1 0) e ∙ ap (λ b. cond b 1 0) asks

left_next : (sts : List Lined) (at : ℕ) → looks_left (drop (suc at) sts) ≤ looks_left (drop at sts)
left_next [] zero = omega arith
left_next [] (suc n) = omega arith
left_next (l ∷ sts) zero = no_less (cond (asks_whether l.what) 1 0) (looks_left sts) (looks_left (l ∷ sts)) (counted l sts)
left_next (l ∷ sts) (suc n) = left_next sts n

drop_counted : (sts : List Lined) (i : ℕ) (d : Lined) → i < length sts → looks_left (drop i sts) ≡ cond {A = ℕ} (asks_whether (get_or sts i d).what) 1 0 + looks_left (drop (i + 1) sts)
drop_counted [] i d low = absurd (omega (arith, low))
drop_counted (x ∷ xs) zero d low = counted x xs
drop_counted (x ∷ xs) (suc n) d low =
    let less : n < length xs = omega (arith, low) in
    let one : suc (n + 1) ≡ suc n + 1 = omega arith in
    drop_counted xs n d less ∙ ap (λ k. cond {A = ℕ} (asks_whether (get_or xs n d).what) 1 0 + looks_left (drop k (x ∷ xs))) one

-- by one statement more
pub more_counted : (n n' : ℕ) (sts : List Lined) (i : ℕ) (d : Lined) → i < length sts → asks_whether (get_or sts i d).what ≡ true → n' ≡ n + 1 → n + looks_left (drop i sts) ≡ looks_left sts
    → n' + looks_left (drop (i + 1) sts) ≡ looks_left sts
more_counted n n' sts i d low asks more so_far =
    let e = drop_counted sts i d low in
    let one : cond {A = ℕ} (asks_whether (get_or sts i d).what) 1 0 ≡ 1 = ap (λ b. cond b 1 0) asks in
    omega (arith, e, one, more, so_far)

pub same_counted : (n n' : ℕ) (sts : List Lined) (i : ℕ) (d : Lined) → i < length sts → asks_whether (get_or sts i d).what ≡ false → n' ≡ n → n + looks_left (drop i sts) ≡ looks_left sts
    → n' + looks_left (drop (i + 1) sts) ≡ looks_left sts
same_counted n n' sts i d low asks same so_far =
    let e = drop_counted sts i d low in
    let none : cond {A = ℕ} (asks_whether (get_or sts i d).what) 1 0 ≡ 0 = ap (λ b. cond b 1 0) asks in
    omega (arith, e, none, same, so_far)

-- behind a statement there is room for as many
pub room_behind : (made most : ℕ) (sts : List Lined) (at : ℕ) → made + looks_left (drop at sts) ≤ most → made + looks_left (drop (at + 1) sts) ≤ most
room_behind made most sts at room =
    let one : suc at ≡ at + 1 = omega arith in
    let fewer : looks_left (drop (suc at) sts) ≤ looks_left (drop at sts) = left_next sts at in
    subst (λ k. made + looks_left (drop k sts) ≤ most) one (omega (arith, fewer, room))

-- one fewer, where one of them may look no more
left_set : (sts : List Lined) (at : ℕ) (l l' : Lined) → slice_get sts at ≡ Some l → asks_whether l.what ≡ true → asks_whether l'.what ≡ false → looks_left (drop at (slice_set sts at l')) + 1 ≡ looks_left (drop at sts)
left_set [] at l l' e asks known = cc
left_set (x ∷ xs) zero l l' e asks known =
    one_fewer (cond (asks_whether l'.what) 1 0) (cond (asks_whether x.what) 1 0) (looks_left xs) (looks_left (l' ∷ xs)) (looks_left (x ∷ xs)) (counted l' xs) (counted x xs)
    (asking_one x l (some_same x l e) asks) (ap (λ b. cond b 1 0) known)
left_set (x ∷ xs) (suc n) l l' e asks known = left_set xs n l l' e asks known

-- there is room for the look, and for those behind it
pub room_used : (made most : ℕ) (sts : List Lined) (at : ℕ) (l l' : Lined) → slice_get sts at ≡ Some l → asks_whether l.what ≡ true → asks_whether l'.what ≡ false → made + looks_left (drop at sts) ≤ most
    → (made + 1) + looks_left (drop at (slice_set sts at l')) ≤ most
room_used made most sts at l l' e asks known room = let fewer = left_set sts at l l' e asks known in omega (arith, fewer, room)

left_some : (sts : List Lined) (at : ℕ) (l : Lined) → slice_get sts at ≡ Some l → asks_whether l.what ≡ true → 1 ≤ looks_left (drop at sts)
left_some [] at l e asks = cc
left_some (x ∷ xs) zero l e asks = some_more (cond (asks_whether x.what) 1 0) (looks_left xs) (looks_left (x ∷ xs)) (counted x xs) (asking_one x l (some_same x l e) asks)
left_some (x ∷ xs) (suc n) l e asks = left_some xs n l e asks

pub room_left : (made most : ℕ) (sts : List Lined) (at : ℕ) (l : Lined) → slice_get sts at ≡ Some l → asks_whether l.what ≡ true → made + looks_left (drop at sts) ≤ most → made + 1 ≤ most
room_left made most sts at l e asks room = let some = left_some sts at l e asks in omega (arith, some, room)

-- ---- whatever its unit is

pub asks_with : (n : ℕ) (w : Statement) → asks_whether (with_number n w) ≡ asks_whether w
asks_with n (statement.Assign to from) = refl
asks_with n (statement.OpenUnit u spec iostat) = refl
asks_with n (statement.CloseUnit u keep iostat) = refl
asks_with n (statement.WaitFor u id iostat) = refl
asks_with n (statement.Move how u iostat) = refl
asks_with n (statement.Inquire (subject.Unit u) asked id iostat None) = refl
asks_with n (statement.Inquire (subject.Unit u) asked id iostat (Some b)) = refl
asks_with n (statement.Inquire (subject.File name) asked id iostat _) = refl
asks_with n (statement.Transfer t) = refl
asks_with n statement.End = refl

pub asks_looked : (n : ℕ) (b : Bool) (w : Statement) → asks_whether (looked n b w) ≡ false
asks_looked n b (statement.Assign to from) = refl
asks_looked n b (statement.OpenUnit u spec iostat) = refl
asks_looked n b (statement.CloseUnit u keep iostat) = refl
asks_looked n b (statement.WaitFor u id iostat) = refl
asks_looked n b (statement.Move how u iostat) = refl
asks_looked n b (statement.Inquire about asked id iostat _) = refl
asks_looked n b (statement.Transfer t) = refl
asks_looked n b statement.End = refl

-- ---- the statement at hand

-- it looks for what it asks
pub none_asked : (variables : List Variable) (st : Stated) (core : Core) → asks_whether st.0.what ≡ false → looks_for variables st core ≡ None
none_asked variables st core e = ap (λ b. if b && is_none (rule_of variables st core) then question_of (asked_transfers core st.0.what) else None) e

pub asked_free : (variables : List Variable) (st : Stated) (core : Core) → asks_whether st.0.what ≡ true → rule_of variables st core ≡ None → looks_for variables st core ≡ question_of (asked_transfers core st.0.what)
asked_free variables st core e free =
    ap (λ b. if b && is_none (rule_of variables st core) then question_of (asked_transfers core st.0.what) else None) e
    ∙ ap (λ o. if is_none o then question_of (asked_transfers core st.0.what) else None) free

pub asked_ruled : (variables : List Variable) (st : Stated) (core : Core) (rule : Rule) → rule_of variables st core ≡ Some rule → looks_for variables st core ≡ None
asked_ruled variables st core rule e = ap (λ o. if asks_whether st.0.what && is_none o then question_of (asked_transfers core st.0.what) else None) e ∙ by (asks_whether st.0.what)
  where
    by : (b : Bool) → (if b && false then question_of (asked_transfers core st.0.what) else None) ≡ None
    by true = refl
    by false = refl

module _ {F : Type 0} {ghosts : Ghosts F} (m : Machine F ghosts) (l : Lined) (item : slice_get m.deck.statements m.at.place ≡ Some l) (files : Files) where
  abbrev pub due : ℕ
  due = option_map_or (number_due (value_at (values_of m.state.core.store)) m.state.core.new_unit) (unit_of l.what) 0

  -- what it looks for, with its number
  pub question_hand : question_at (rest_of m) (run_at files m Start) ≡ looks_for m.deck.variables (hand_with (Some (option_map_or (number_due (value_at (values_of m.state.core.store)) m.state.core.new_unit) (unit_of l.what) 0)) l) (core_of files m.state.core)
  question_hand =
      ap (λ rest. question_at rest (run_at files m Start)) (hand_is m l item)
      ∙ ap (λ st. looks_for m.deck.variables st (core_of files m.state.core)) (began (core_of files m.state.core) l m.at.number (run_at files m Start) refl)

  pub question_none : asks_whether l.what ≡ false → question_at (rest_of m) (run_at files m Start) ≡ None
  question_none e = question_hand ∙ none_asked m.deck.variables (hand_with (Some due) l) (core_of files m.state.core) (asks_with due l.what ∙ e)

  -- where it looks for something, it asks
  pub question_some : (q : Question) → question_at (rest_of m) (run_at files m Start) ≡ Some q → asks_whether l.what ≡ true
  question_some q e = by (asks_whether l.what) refl
    where
      by : (b : Bool) → asks_whether l.what ≡ b → b ≡ true
      by true is = refl
      by false is = let z : None ≡ Some q = sym (question_none is) ∙ e in cc

-- ---- by whether it is to look

pub due_true : (rest : List Stated) (r : Run) → look_due (looks_by true) rest r ≡ is_some (question_at rest r)
due_true [] r = refl
due_true (st ∷ more) r = refl

pub due_false : (rest : List Stated) (r : Run) → look_due (looks_by false) rest r ≡ false
due_false [] r = refl
due_false (st ∷ more) r = refl

pub some_mapped : {X Y : Type 0} → (f : X → Y) (o : Option X) → is_some (option_map f o) ≡ is_some o
some_mapped f None = refl
some_mapped f (Some x) = refl
