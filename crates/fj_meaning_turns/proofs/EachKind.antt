-- What each kind of statement does keeps to slots, and leaves pending transfers alone, but for one that it starts.
use Rattle.std.proofs.Common.{◌≡◌, ◌⊎◌, ℕ, ℤ, ◌<◌, Bool, true, false, not, List, [], ◌∷◌, ◌++◌, Option, Some, None, refl, sym, ap, ◌∙◌, subst, inl, inr, ◌&&◌, arith}
use Rattle.std.specs.Prelude.{nat_lt, if◌then◌else◌, filter, ◌==◌, unwrap_or}
use Rattle.std.specs.List.{list_any}
use Rattle.std.proofs.lemmas.Bool.{cases_Bool}
use Rattle.fj_value.specs.declared.condition.Condition.{Condition}
use Rattle.fj_value.specs.declared.condition.Condition.TheVariants.{Fine}
use Rattle.fj_modes.specs.declared.modes.Modes.{Modes}
use Rattle.fj_modes.specs.declared.specifiers.OpenSpec.{OpenSpec}
use Rattle.fj_modes.specs.declared.asked.Wanted.{Wanted}
use Rattle.fj_modes.specs.declared.motion.Motion.{Motion}
use Rattle.fj_statement.specs.declared.unit.UnitRef.{UnitRef}
use Rattle.fj_statement.specs.declared.unit.UnitRef.TheVariants as unit
use Rattle.fj_moved.specs.declared.moved.Moved.{Moved}
use Rattle.fj_control.specs.Steps.{Given}
use Rattle.fj_statement.specs.declared.deck.Variable.{Variable}
use Rattle.fj_statement.specs.declared.statement.Statement.{Statement}
use Rattle.fj_statement.specs.declared.statement.Statement.TheVariants as statement
use Rattle.fj_statement.specs.declared.statement.Transfer.{Transfer}
use Rattle.fj_bay.specs.Halt.{halts}
use Rattle.fj_meaning.specs.Needs.{number_of, number_given, unit_about}
use Rattle.fj_meaning.specs.Telling.{is_asynchronous}
use Rattle.fj_meaning.specs.Transfers.{moved_in, without_values, with_cells}
use Rattle.fj_meaning.specs.Statement.{file_asked}
use Rattle.fj_meaning_jobs.specs.Core.{Core, Pending, Connected, connected_at, unit_named, with_connected, inserted, without_connected}
use Rattle.fj_meaning_jobs.specs.Desks.{Outcome, most_slots, cells_in, count_in, condition_in}
use Rattle.fj_meaning_jobs.specs.Doing.{Doing, finishes, gives, awaits}
use Rattle.fj_meaning_jobs.specs.Acting.{pending_of, finishes_behind, transferred, transfer_at, keeps, disconnected, came_out, detaches, closes, closes_anyway, all_closed, connects, opens_unit, moves, asks_connection, inquires, if_numbered, unit_at, own, doing}
use Rattle.fj_meaning_jobs.proofs.Apart.{Each, each_filter, each_append}
use Rattle.fj_meaning_jobs.proofs.Walking.{either, unit_by, closes_by, anyway_by, connects_by, open_by, doing_by}
use Rattle.fj_meaning_turns.specs.Turns.{ends_halts}

-- each unit has a slot
abbrev pub Housed : List Connected → Type 0
Housed us = Each (λ (u : Connected). u.slot < most_slots) us

-- the same pending transfers and tells
abbrev pub KeepsBook : Core → Core → Type 0
KeepsBook from core = (core.book ≡ from.book) × (core.tells ≡ from.tells) × Housed core.units

-- the job of that slot and number is pending
abbrev pub Starts : Core → ℕ → ℕ → Doing → Type 0
Starts from slot number (finishes core condition) =
    ((e : Pending) × (core.book ≡ from.book ++ e ∷ []) × (e.slot ≡ slot) × (e.number ≡ number) × Housed core.units)
Starts from slot number (gives at job core next) = ⊥
Starts from slot number (awaits at job core next) = ⊥

abbrev pub Keeps : Core → Doing → Type 0
Keeps from (finishes core condition) = KeepsBook from core
Keeps from (gives slot job core next) =
    (slot < most_slots) × KeepsBook from core × (((number : ℕ) → Keeps from (next number)) ⊎ ((number : ℕ) → Starts from slot number (next number)))
Keeps from (awaits slot job core next) = (slot < most_slots) × KeepsBook from core × ((o : Outcome) → Keeps from (next o))

-- ---- units

found_housed : (us : List Connected) (n : ℕ) (u : Connected) → Housed us → connected_at us n ≡ Some u → u.slot < most_slots
found_housed [] n u h e = cc
found_housed (x ∷ us) n u h e =
    elim (cases_Bool (x.number == n)) [
      | inl a ↦ let z : Some x ≡ Some u = ap (λ b. if b then Some x else connected_at us n) (sym a) ∙ e in let s : x ≡ u = cc in subst (λ v. v.slot < most_slots) s h.0
      | inr a ↦ found_housed us n u h.1 (ap (λ b. if b then Some x else connected_at us n) (sym a) ∙ e)
    ]

unit_housed : (core : Core) (number : Option ℕ) (u : Connected) → Housed core.units → unit_at core number ≡ Some u → u.slot < most_slots
unit_housed core None u h e = cc
unit_housed core (Some n) u h e = found_housed core.units n u h e

with_housed : (new : Connected) (us : List Connected) → new.slot < most_slots → Housed us → Housed (with_connected new us)
with_housed new [] n h = tt
with_housed new (u ∷ us) n h = (by (u.number == new.number), with_housed new us n h.1)
  where
    by : (b : Bool) → (if b then new else u).slot < most_slots
    by true = n
    by false = h.0

inserted_housed : (new : Connected) (us : List Connected) → new.slot < most_slots → Housed us → Housed (inserted new us)
inserted_housed new us n h =
    each_append (λ (u : Connected). u.slot < most_slots) (filter (λ (u : Connected). nat_lt u.number new.number) us) (new ∷ filter (λ (u : Connected). nat_lt new.number u.number) us)
    (each_filter (λ (u : Connected). u.slot < most_slots) (λ (u : Connected). nat_lt u.number new.number) us h)
    (n, each_filter (λ (u : Connected). u.slot < most_slots) (λ (u : Connected). nat_lt new.number u.number) us h)

without_housed : (number : ℕ) (us : List Connected) → Housed us → Housed (without_connected number us)
without_housed number us h = each_filter (λ (u : Connected). u.slot < most_slots) (λ (u : Connected). not (u.number == number)) us h

-- ---- READ and WRITE

behind_keeps : (from : Core) (u : Connected) (core : Core) (condition : Condition) → u.slot < most_slots → KeepsBook from core → Keeps from (finishes_behind u core condition)
behind_keeps from u core condition s k = either (Keeps from) (halts condition) _ _ (s, k, inl (λ number. k)) k

transferred_keeps : (control : ℕ → List Given) (variables : List Variable) (line : ℕ) (core : Core) (t : Transfer) (moved : Moved) (u : Connected) → Housed core.units → u.slot < most_slots
    → Keeps core (transferred control variables line core t moved u)
transferred_keeps control variables line core t moved u h s =
    either (Keeps core) (is_asynchronous t) _ _
    (s, (refl, refl, h), inr (λ number. (pending_of variables core t u number, refl, refl, refl, h)))
    (s, (refl, refl, h), (λ o. behind_keeps core u (record core { vars = with_cells variables t (cells_in o.0) (count_in o.0) (without_values variables t moved core.vars) }) (condition_in o.1) s (refl, refl, h)))

transfer_keeps : (control : ℕ → List Given) (variables : List Variable) (line : ℕ) (core : Core) (t : Transfer) (moved : Moved) (to : UnitRef) → Housed core.units → Keeps core (transfer_at control variables line core t moved to)
transfer_keeps control variables line core t moved unit.Star h = (refl, refl, h)
transfer_keeps control variables line core t moved (unit.Internal file) h = (refl, refl, h)
transfer_keeps control variables line core t moved (unit.Number n) h =
    unit_by (Keeps core) control variables line core t moved (connected_at core.units n) (λ condition. (refl, refl, h)) (λ u e. transferred_keeps control variables line core t moved u h (found_housed core.units n u h e))
transfer_keeps control variables line core t moved (unit.Held place n) h =
    unit_by (Keeps core) control variables line core t moved (connected_at core.units n) (λ condition. (refl, refl, h)) (λ u e. transferred_keeps control variables line core t moved u h (found_housed core.units n u h e))
transfer_keeps control variables line core t moved (unit.New place n) h =
    unit_by (Keeps core) control variables line core t moved (connected_at core.units n) (λ condition. (refl, refl, h)) (λ u e. transferred_keeps control variables line core t moved u h (found_housed core.units n u h e))

-- ---- CLOSE

detaches_keeps : (from core : Core) (u : Connected) (keep : Bool) (next : Core → Doing) → u.slot < most_slots → KeepsBook from core → ((new : Core) → KeepsBook from new → Keeps from (next new)) → Keeps from (detaches core u keep next)
detaches_keeps from core u keep next s k f =
    (s, k, (λ o. either (Keeps from) (came_out u o) _ _ (f (disconnected core u keep o) (k.0, k.1, without_housed u.number core.units k.2)) k))

closes_keeps : (core : Core) (keep : Option Bool) (number : Option ℕ) → Housed core.units → Keeps core (closes core keep (unit_at core number))
closes_keeps core keep number h =
    closes_by (Keeps core) core keep (unit_at core number) (λ condition. (refl, refl, h))
    (λ u e. detaches_keeps core core u (unwrap_or keep (keeps u)) (λ new. finishes new Fine) (unit_housed core number u h e) (refl, refl, h) (λ new k. k))

anyway_keeps : (core : Core) (keep : Option Bool) (condition : Condition) (number : Option ℕ) → Housed core.units → Keeps core (closes_anyway core keep condition (unit_at core number))
anyway_keeps core keep condition number h =
    anyway_by (Keeps core) core keep condition (unit_at core number) (refl, refl, h)
    (λ u e. detaches_keeps core core u (keeps u && unwrap_or keep true) (λ new. finishes new condition) (unit_housed core number u h e) (refl, refl, h) (λ new k. k))

all_keeps : (from : Core) (us : List Connected) (core : Core) (condition : Condition) → Housed us → KeepsBook from core → Keeps from (all_closed us core condition)
all_keeps from [] core condition h k = k
all_keeps from (u ∷ us) core condition h k = detaches_keeps from core u (keeps u) (λ new. all_closed us new condition) h.0 k (λ new n. all_keeps from us new condition h.1 n)

-- ---- OPEN

connects_keeps : (from core : Core) (number : ℕ) (spec : OpenSpec) (modes : Modes) → KeepsBook from core → Keeps from (connects number spec modes core)
connects_keeps from core number spec modes k =
    connects_by (Keeps from) core number spec modes (λ condition. k)
    (λ slot c free e. let inside : slot < most_slots = omega (arith, free.inside) in
    (inside, k, (λ o. (k.0, k.1, inserted_housed (record { number = number; slot = slot; name = c.name; modes = c.modes }) core.units inside k.2))))

open_keeps : (core : Core) (ref : UnitRef) (spec : OpenSpec) (number : Option ℕ) → Housed core.units → Keeps core (if_numbered core number (λ n. opens_unit core ref n spec (connected_at core.units n)))
open_keeps core ref spec number h =
    open_by (Keeps core) core ref spec number (λ condition. (refl, refl, h))
    (λ n u modes is e. let s = found_housed core.units n u h e in (s, (refl, refl, h), (λ o. (refl, refl, with_housed (record u { modes = modes }) core.units s h))))
    (λ n modes is e. connects_keeps core core n spec modes (refl, refl, h))
    (λ n u modes is e other. detaches_keeps core core u (keeps u) (connects n spec modes) (found_housed core.units n u h e) (refl, refl, h) (λ new k. connects_keeps core new n spec modes k))

-- ---- the motions, INQUIRE

moves_keeps : (core : Core) (how : Motion) (o : Option Connected) → Housed core.units → ((u : Connected) → o ≡ Some u → u.slot < most_slots) → Keeps core (moves core how o)
moves_keeps core how None h s = (refl, refl, h)
moves_keeps core how (Some u) h s = (s u refl, (refl, refl, h), (λ o. (refl, refl, h)))

inquires_keeps : (variables : List Variable) (core : Core) (number : Option ℕ) (file : Option (List ℕ)) (asked : List Wanted) (id : Option ℤ) (o : Option Connected) → Housed core.units → ((u : Connected) → o ≡ Some u → u.slot < most_slots)
    → Keeps core (inquires variables core number file asked id o)
inquires_keeps variables core number file asked id None h s = (refl, refl, h)
inquires_keeps variables core number file asked id (Some u) h s =
    either (Keeps core) (list_any (λ (w : Wanted). asks_connection w.what) asked) _ _ (s u refl, (refl, refl, h), (λ o. (refl, refl, h))) (refl, refl, h)

-- ---- each kind of statement

own_keeps : (control : ℕ → List Given) (variables : List Variable) (line : ℕ) (core : Core) (st : Statement) → Housed core.units → Keeps core (own control variables line core st)
own_keeps control variables line core (statement.Assign to from) h = (refl, refl, h)
own_keeps control variables line core (statement.OpenUnit u spec iostat) h = open_keeps core u spec (number_of u) h
own_keeps control variables line core (statement.CloseUnit u keep iostat) h = closes_keeps core keep (number_of u) h
own_keeps control variables line core (statement.WaitFor u id iostat) h = (refl, refl, h)
own_keeps control variables line core (statement.Move how u iostat) h = moves_keeps core how (unit_at core (number_of u)) h (λ v e. unit_housed core (number_of u) v h e)
own_keeps control variables line core (statement.Inquire subject asked id iostat done) h =
    let number = unit_about (unit_named core.units) subject in
    inquires_keeps variables core number (file_asked subject) asked (number_given core.vars id) (unit_at core number) h (λ v e. unit_housed core number v h e)
own_keeps control variables line core (statement.Transfer t) h = transfer_keeps control variables line core t (moved_in variables core.vars t) t.unit h
own_keeps control variables line core statement.End h = all_keeps core core.units core Fine h (refl, refl, h)

pub doing_keeps : (control : ℕ → List Given) (variables : List Variable) (line : ℕ) (core : Core) (st : Statement) (condition : Condition) → Housed core.units → Keeps core (doing control variables line core st condition)
doing_keeps control variables line core st condition h =
    doing_by (Keeps core) control variables line core st (own_keeps control variables line core st h) (λ vars condition. (refl, refl, h))
    (λ u keep iostat condition is. anyway_keeps core keep condition (number_of u) h) (λ condition is. all_keeps core core.units core condition h (refl, refl, h)) condition

-- the ends of halts before it
pub halts_keep : (slots : List ℕ) (core : Core) (next : Doing) → Housed core.units → Each (λ slot. slot < most_slots) slots → Keeps core next → Keeps core (ends_halts slots core next)
halts_keep [] core next h s k = k
halts_keep (slot ∷ slots) core next h s k = (s.0, (refl, refl, h), inl (λ number. halts_keep slots core next h s.1 k))
