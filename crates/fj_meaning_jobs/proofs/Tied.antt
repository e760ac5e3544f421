-- What ties the execution over desks to what a deck means.
use Rattle.std.proofs.Common.{◌≡◌, ℕ, ◌<◌, List, [], ◌∷◌, map, length, Option, Some, None, slice_get, refl, sym, ap, ◌∙◌, subst, inl, inr}
use Rattle.std.specs.Prelude.{◌==◌, if◌then◌else◌}
use Rattle.std.specs.Option.{option_map}
use Rattle.std.proofs.lemmas.Bool.{eq-eqb, ne_eqb}
use Rattle.std.proofs.lemmas.Bool.Decides.{eqb_tells}
use Rattle.fj_value.specs.declared.condition.Condition.{Condition}
use Rattle.fj_connect.specs.Connection.{Connection}
use Rattle.fj_bay.specs.Bay.{Bay}
use Rattle.fj_store.specs.Variables.{Variables}
use Rattle.fj_book.specs.Prohibitions.{Holder}
use Rattle.fj_meaning.specs.Needs.{holders}
use Rattle.fj_meaning.specs.State.{State, Entry, with_unit, Output}
use Rattle.fj_meaning.specs.State as plain
use Rattle.fj_meaning_jobs.specs.Core.{Pending, Connected, connected_at, pending_holders}
use Rattle.fj_meaning_jobs.specs.Desks.{Desk, Brought, brought_by, entry_with, entry_of, log_at, log_length, most_slots}
use Rattle.fj_meaning_jobs.specs.Doing.{Desked}
use Rattle.fj_meaning_jobs.specs.Forgetting.{IsSeen, Same, bay_at}
use Rattle.fj_meaning_jobs.proofs.Apart.{Each, Apart, Differs, each_imp, map_same}
use Rattle.fj_meaning_jobs.proofs.Carrying.{Later, Reaches, Placed}
use Rattle.fj_meaning_jobs.proofs.Seen.{Seen, At, both_at, both_same, slot_differs, Others}

-- a slot that no unit has is empty and not halted
abbrev pub Idle : List Desk → List Connected → Type 0
Idle desks us = (k : ℕ) → k < 16 → Differs (λ (u : Connected). u.slot) k us → bay_at (slice_get desks k) ≡ Some (record { connection = None; halt = None })

-- what is known of the slots alone
pub record Slots (p : Desked) : Type 0 where
  pub apart : Apart (λ (u : Connected). u.slot) p.core.units
  pub idle : Idle p.desks p.core.units
  pub sixteen : length p.desks ≡ most_slots
  pub placed : Placed p.desks p.core.book

pub record Tied (p : Desked) (s : State) : Type 0 where
  pub same : Same p s
  pub slots : Slots p
  pub numbers : Apart (λ (v : plain.Unit). v.number) s.units

-- the same condition, and the ties
abbrev pub ActTied : Desked × Condition → State × Condition → Type 0
ActTied a b = (a.1 ≡ b.1) × Tied a.0 b.0

-- the unit is not halted
abbrev pub Free : ℕ → List plain.Unit → Type 0
Free number vs = Each (λ (v : plain.Unit). v.number ≡ number → v.halt ≡ None) vs

-- ---- pending transfers

entry_later : (desks behind : List Desk) (e : Pending) → log_at (slice_get behind e.slot) e.number ≡ log_at (slice_get desks e.slot) e.number → entry_of behind e ≡ entry_of desks e
entry_later desks behind e k = ap (λ o. entry_with e (option_map brought_by o)) k

pub entries_later : (desks behind : List Desk) (book : List Pending) → Later desks behind → Placed desks book → map (entry_of behind) book ≡ map (entry_of desks) book
entries_later desks behind book l h =
    map_same (entry_of behind) (entry_of desks) book
    (each_imp (λ (e : Pending). e.number < log_length (slice_get desks e.slot)) (λ e. entry_of behind e ≡ entry_of desks e) book (λ e k. entry_later desks behind e (l.keeps e.slot e.number k)) h)

pub placed_later : (desks behind : List Desk) (book : List Pending) → Later desks behind → Placed desks book → Placed behind book
placed_later desks behind book l h =
    each_imp (λ (e : Pending). e.number < log_length (slice_get desks e.slot)) (λ (e : Pending). e.number < log_length (slice_get behind e.slot)) book (λ e k. l.grows e.slot e.number k) h

holder_same : (e : Pending) (o : Option Brought) → ◌≡◌ {A = Holder} (record { id = e.id; unit = e.unit; input = e.input; places = e.places })
    (record { id = (entry_with e o).id; unit = (entry_with e o).unit; input = (entry_with e o).input; places = (entry_with e o).places })
holder_same e None = refl
holder_same e (Some o) = refl

holders_with : (desks : List Desk) (book : List Pending) → pending_holders book ≡ holders (map (entry_of desks) book)
holders_with desks [] = refl
holders_with desks (e ∷ es) =
    ap (λ h. h ∷ pending_holders es) (holder_same e (option_map brought_by (log_at (slice_get desks e.slot) e.number)))
    ∙ ap (λ l. record { id = (entry_of desks e).id; unit = (entry_of desks e).unit; input = (entry_of desks e).input; places = (entry_of desks e).places } ∷ l) (holders_with desks es)

pub holders_same : (p : Desked) (s : State) → Same p s → pending_holders p.core.book ≡ holders s.book
holders_same p s h = holders_with p.desks p.core.book ∙ ap holders h.book

-- ---- a change of variables, or of the output

pub with_vars : (p : Desked) (s : State) (v w : Variables) → v ≡ w → Tied p s → Tied (record { core = record (p.core) { vars = v }; desks = p.desks }) (record s { vars = w })
with_vars p s v w e t = record {
  same = record { vars = e; book = t.same.book; units = t.same.units; files = t.same.files; output = t.same.output; next = t.same.next; new_unit = t.same.new_unit; tells = t.same.tells };
  slots = record { apart = t.slots.apart; idle = t.slots.idle; sixteen = t.slots.sixteen; placed = t.slots.placed };
  numbers = t.numbers;
}

-- or of the number that NEWUNIT= gives next
pub with_new : (p : Desked) (s : State) (m n : ℕ) → m ≡ n → Tied p s → Tied (record { core = record (p.core) { new_unit = m }; desks = p.desks }) (record s { new_unit = n })
with_new p s m n e t = record {
  same = record { vars = t.same.vars; book = t.same.book; units = t.same.units; files = t.same.files; output = t.same.output; next = t.same.next; new_unit = e; tells = t.same.tells };
  slots = record { apart = t.slots.apart; idle = t.slots.idle; sixteen = t.slots.sixteen; placed = t.slots.placed };
  numbers = t.numbers;
}

pub with_output : (p : Desked) (s : State) (v w : Output) → v ≡ w → Tied p s → Tied (record { core = record (p.core) { output = v }; desks = p.desks }) (record s { output = w })
with_output p s v w e t = record {
  same = record { vars = t.same.vars; book = t.same.book; units = t.same.units; files = t.same.files; output = e; next = t.same.next; new_unit = t.same.new_unit; tells = t.same.tells };
  slots = record { apart = t.slots.apart; idle = t.slots.idle; sixteen = t.slots.sixteen; placed = t.slots.placed };
  numbers = t.numbers;
}

-- ---- other desks with the same units

-- units, slots and connections, where the core's units stay
pub moved_desks : (p : Desked) (s : State) (behind : List Desk) (vs : List plain.Unit) → Tied p s → Later p.desks behind → Seen behind p.core.units vs → Idle behind p.core.units
    → Apart (λ (v : plain.Unit). v.number) vs → Tied (record { core = p.core; desks = behind }) (record s { units = vs })
moved_desks p s behind vs t l seen idle numbers = record {
  same = record { vars = t.same.vars; book = entries_later p.desks behind p.core.book l t.slots.placed ∙ t.same.book; units = seen; files = t.same.files; output = t.same.output; next = t.same.next; new_unit = t.same.new_unit; tells = t.same.tells };
  slots = record { apart = t.slots.apart; idle = idle; sixteen = l.long ∙ t.slots.sixteen; placed = placed_later p.desks behind p.core.book l t.slots.placed };
  numbers = numbers;
}

pub idle_else : (desks behind : List Desk) (us : List Connected) (number : ℕ) (u : Connected) → Idle desks us → connected_at us number ≡ Some u → Others desks behind u.slot → Idle behind us
idle_else desks behind us number u idle e o k l d = ap bay_at (o k (λ q. slot_differs us number u k d e (sym q))) ∙ idle k l d

abbrev pub bay_of : plain.Unit → Bay
bay_of v = record { connection = Some v.connection; halt = v.halt }

pub replaced_numbers : (new : plain.Unit) (vs : List plain.Unit) → Apart (λ (v : plain.Unit). v.number) vs → Apart (λ (v : plain.Unit). v.number) (with_unit new vs)
replaced_numbers new vs h = apart_replaced vs h
  where
    same_number : (v : plain.Unit) → (if v.number == new.number then new else v).number ≡ v.number
    same_number v = elim (eqb_tells v.number new.number) [
      | inl a ↦ ap (λ b. (if b then new else v).number) a.0 ∙ sym a.1
      | inr a ↦ ap (λ b. (if b then new else v).number) a.0
    ]

    differs : (n m : ℕ) (xs : List plain.Unit) → n ≡ m → Differs (λ (v : plain.Unit). v.number) m xs → Differs (λ (v : plain.Unit). v.number) n (with_unit new xs)
    differs n m [] e d = tt
    differs n m (x ∷ xs) e d = ((λ q. d.0 (sym (same_number x) ∙ q ∙ e)), differs n m xs e d.1)

    apart_replaced : (xs : List plain.Unit) → Apart (λ (v : plain.Unit). v.number) xs → Apart (λ (v : plain.Unit). v.number) (with_unit new xs)
    apart_replaced [] h = tt
    apart_replaced (x ∷ xs) h = (differs (if x.number == new.number then new else x).number x.number xs (same_number x) h.0, apart_replaced xs h.1)

map_itself : {X : Type 0} → (xs : List X) → map (λ x. x) xs ≡ xs
map_itself [] = refl
map_itself (x ∷ xs) = ap (λ l. x ∷ l) (map_itself xs)

-- jobs at the slot of a unit leave its connection and its halt so
pub unit_moves : (p : Desked) (s : State) (number : ℕ) (u : Connected) (at : At p.desks s.units number u) (behind : List Desk) (c : Connection) (halt : Option Condition)
    → Tied p s → connected_at p.core.units number ≡ Some u → Reaches p.desks behind u.slot (record { connection = Some c; halt = halt })
    → c.name ≡ at.it.connection.name → c.modes ≡ at.it.connection.modes
    → Tied (record { core = p.core; desks = behind }) (record s { units = with_unit (record (at.it) { connection = c; halt = halt }) s.units })
unit_moves p s number u at behind c halt t e r name modes =
    moved_desks p s behind (with_unit new s.units) t r.later
    (subst (λ us. Seen behind us (with_unit new s.units)) (map_itself p.core.units)
    (both_at p.desks behind p.core.units s.units number u (λ x. x) (λ v. if v.number == new.number then new else v) t.same.units t.slots.apart t.numbers e r.others
    (λ y is seen. subst (λ z. IsSeen behind u z) (sym (ap (λ b. if b then new else y) (eq-eqb y.number new.number (is ∙ sym at.number_is))))
    (record { number = at.own_number ∙ sym at.number_is; name = at.seen.name ∙ sym name; modes = at.seen.modes ∙ sym modes; bay = r.here }))
    (λ x ne. refl)
    (λ y ne. ap (λ b. if b then new else y) (ne_eqb y.number new.number (λ q. ne (q ∙ at.number_is))))))
    (idle_else p.desks behind p.core.units number u t.slots.idle e r.others)
    (replaced_numbers new s.units t.numbers)
  where
    new : plain.Unit
    new = record (at.it) { connection = c; halt = halt }

-- jobs that leave the bay as it was
pub unit_stays : (p : Desked) (s : State) (number : ℕ) (u : Connected) (behind : List Desk) (bay : Bay)
    → Tied p s → connected_at p.core.units number ≡ Some u → bay_at (slice_get p.desks u.slot) ≡ Some bay → Reaches p.desks behind u.slot bay
    → Tied (record { core = p.core; desks = behind }) s
unit_stays p s number u behind bay t e was r =
    moved_desks p s behind s.units t r.later (both_same p.desks behind u.slot p.core.units s.units r.others (r.here ∙ sym was) t.same.units)
    (idle_else p.desks behind p.core.units number u t.slots.idle e r.others) t.numbers

pub each_found : (P : plain.Unit → Type 0) (vs : List plain.Unit) (number : ℕ) (v : plain.Unit) → Each P vs → plain.found vs number ≡ Some v → P v
each_found P [] number v h e = cc
each_found P (x ∷ xs) number v h e =
    elim (eqb_tells x.number number) [
      | inl a ↦ let z : Some x ≡ Some v = ap (λ k. if k then Some x else plain.found xs number) (sym a.0) ∙ e in let same : x ≡ v = cc in subst P same h.0
      | inr a ↦ each_found P xs number v h.1 (ap (λ k. if k then Some x else plain.found xs number) (sym a.0) ∙ e)
    ]
