-- What the files are where a run was cut.
use Rattle.std.proofs.Common.{◌≡◌, inl, inr, ℕ, ◌-◌, ◌<◌, ◌≤◌, zero, suc, Bool, true, false, List, [], ◌∷◌, map, drop, length, Option, Some, None, is_some, slice_get, refl, ap, sym, ◌∙◌, subst, arith}
use Rattle.std.specs.Prelude.{◌==◌, ◌&&◌, ◌||◌, if◌then◌else◌}
use Rattle.std.specs.FinSet as set
use Rattle.std.specs.Str.{bytes_eq}
use Rattle.std.proofs.lemmas.Bool.Decides.{eqb_tells}
use Rattle.std.proofs.lemmas.Slice.Eq.{bytes_eq-Decides}
use Rattle.fj_outside.specs.Holdings.{Holdings}
use Rattle.fj_connect.specs.Connection.{Connection}
use Rattle.fj_statement.specs.declared.deck.Variable.{Variable}
use Rattle.fj_slot.specs.Ledger.{Ledger}
use Rattle.fj_slot.specs.Serving.{Meaning}
use Rattle.fj_slot.specs.declared.stop.Halt.{Halt}
use Rattle.fj_world.specs.Losing.{SlotsHold}
use Rattle.fj_world.specs.Plain.{PlainSlot}
use Rattle.fj_world.specs.Rack.{Rack}
use Rattle.fj_bay.specs.Bay.{Bay}
use Rattle.fj_bay.specs.Jobs.{Job, Answer, attach, detach, move, go, change, flush, look, resume}
use Rattle.fj_meaning.specs.State.{State, Files, Unit, files_closed, keeps, left, all_closed}
use Rattle.fj_meaning.specs.Statement.{Stated, Ending, begun_in, step, cut}
use Rattle.fj_meaning.specs.Telling.{waited, ends_halt}
use Rattle.fj_meaning_jobs.specs.Core.{Connected}
use Rattle.fj_meaning_jobs.specs.Desks.{Desk, Outcome}
use Rattle.fj_meaning_jobs.specs.Doing.{Doing, finishes, gives, awaits}
use Rattle.fj_meaning_turns.specs.Executing.{HoldsDesks}
use Rattle.fj_meaning_turns.specs.Serving.{over_bays, desks_of}
use Rattle.fj_meaning_turns.proofs.Finishing.{desk_from}
use Rattle.fj_meaning_cut.specs.Others.{has_file, core_now, AreHoused}
use Rattle.fj_run_statements.specs.Failing.{connected_next}
use Rattle.fj_run_statements.specs.State.{core_at}
use Rattle.fj_run_units.specs.Returning.{IsAsDue}
use Rattle.fj_run_end.specs.Closing.{AreSeated, AreNamed, IfClear}
use Rattle.fj_job.specs.Cut.{Told, reached}
use Rattle.fj_job.specs.Cutting.{IsServed}

-- ---- units and slots

-- each unit has its desk
pub seated_of : (desks : List Desk) (us : List Connected) → AreHoused desks us → AreSeated desks us
seated_of desks [] h = tt
seated_of desks (u ∷ us) h = (h.0.0, seated_of desks us h.1)

pub named_of : (desks : List Desk) (us : List Connected) → AreHoused desks us → AreNamed desks us
named_of desks [] h = tt
named_of desks (u ∷ us) h = (h.0.1, named_of desks us h.1)

pub housed_of : (desks : List Desk) (us : List Connected) → AreSeated desks us → AreNamed desks us → AreHoused desks us
housed_of desks [] s n = tt
housed_of desks (u ∷ us) s n = ((s.0, n.0), housed_of desks us s.1 n.1)

-- a file that is not hurt is at no slot that has stopped
pub served_of : {E J A : Type 0} (rack : Rack E J A) (held : Holdings) (name : List ℕ) (us : List Connected) → IfClear held us rack.slots (λ l. l.halt ≡ None) → set.contains held.hurt name ≡ false → IsServed rack us name
served_of rack held name [] clear e slot has = cc
served_of {E} {J} {A} rack held name (u ∷ us) clear e slot has = by (served_of rack held name us clear.1 e slot) ((u.slot == slot) && bytes_eq name u.name) refl has
  where
    split : (a b : Bool) → (a && b) ≡ true → (a ≡ true) × (b ≡ true)
    split true b h = (refl, h)
    split false b h = cc

    here : (u.slot == slot) ≡ true → bytes_eq name u.name ≡ true → (l : Ledger E J A) × (slice_get rack.slots slot ≡ Some l) × (l.halt ≡ None)
    here at named =
        let same : name ≡ u.name = (bytes_eq-Decides name u.name).0 named in
        let slot_is : u.slot ≡ slot = elim (eqb_tells u.slot slot) [ inl a ↦ a.1 | inr a ↦ absurd (let z : true ≡ false = sym at ∙ a.0 in cc) ] in
        subst (λ n. (l : Ledger E J A) × (slice_get rack.slots n ≡ Some l) × (l.halt ≡ None)) slot_is (clear.0.0, clear.0.1, clear.0.2 (sym (ap (set.contains held.hurt) same) ∙ e))

    by : (has_file us slot name ≡ true → (l : Ledger E J A) × (slice_get rack.slots slot ≡ Some l) × (l.halt ≡ None)) → (b : Bool) → ((u.slot == slot) && bytes_eq name u.name) ≡ b → (b || has_file us slot name) ≡ true
        → (l : Ledger E J A) × (slice_get rack.slots slot ≡ Some l) × (l.halt ≡ None)
    by later true is h = let both = split (u.slot == slot) (bytes_eq name u.name) is in here both.0 both.1
    by later false is h = later h

-- no unit has it at one that has
pub not_at : {E J A : Type 0} (rack : Rack E J A) (us : List Connected) (name : List ℕ) (slot : ℕ) → IsServed rack us name → ((l : Ledger E J A) → slice_get rack.slots slot ≡ Some l → is_some l.halt ≡ true) → has_file us slot name ≡ false
not_at rack us name slot served stopped = by (has_file us slot name) refl
  where
    halted : (o : Option Halt) → o ≡ None → is_some o ≡ true → ⊥
    halted o none some = let z : false ≡ true = sym (ap is_some none) ∙ some in cc

    by : (b : Bool) → has_file us slot name ≡ b → b ≡ false
    by false e = refl
    by true e = let it = served slot e in absurd (halted it.0.halt it.2 (stopped it.0 it.1))

-- slots that hold the jobs of plain ones hold their desks
pub slots_hold : {E J A : Type 0} (m : Meaning E J A Bay Job Answer) (qs : List (PlainSlot Bay Job)) (rack : Rack E J A) → SlotsHold (over_bays m) qs rack → HoldsDesks m rack (desks_of m qs)
slots_hold m qs rack h at l d found desk = let q = desk_from m qs at d desk in record { jobs = q.0; sound = h.each at q.0 l q.1 found; desk = q.2 }

-- ---- files that are due

-- where the disk's own number rises before or behind
pub due_wider : (a b c d : ℕ) (x y : Option (List ℕ)) → a ≤ b → c ≤ d → IsAsDue b c x y → IsAsDue a d x y
due_wider a b c d x y l k (inl e) = inl e
due_wider a b c d x y l k (inr r) = let rose = r.1 in inr (r.0, omega (arith, rose, l, k))

-- the core at a point is one
pub core_same : (d : Doing) → core_at d ≡ core_now d
core_same (finishes core condition) = refl
core_same (gives slot job core next) = refl
core_same (awaits slot job core next) = refl

-- the file that is to be connected next is the one of that connection
pub next_named : (d : Doing) (about : Option (List ℕ)) → ((slot : ℕ) (c : Connection) (core : _) (next : Outcome → Doing) → d ≡ awaits slot (attach (Some c)) core next → about ≡ Some c.name)
    → (name : List ℕ) → connected_next d ≡ Some name → about ≡ Some name
next_named (finishes core condition) about h name e = cc
next_named (gives slot job core next) about h name e = cc
next_named (awaits slot (attach None) core next) about h name e = cc
next_named (awaits slot (attach (Some c)) core next) about h name e = h slot c core next refl ∙ e
next_named (awaits slot (detach seen) core next) about h name e = cc
next_named (awaits slot (move moving) core next) about h name e = cc
next_named (awaits slot (go how) core next) about h name e = cc
next_named (awaits slot (change edit) core next) about h name e = cc
next_named (awaits slot flush core next) about h name e = cc
next_named (awaits slot (look seen) core next) about h name e = cc
next_named (awaits slot resume core next) about h name e = cc

-- ---- telling changes no file

halts_ended : (f : Unit → Unit) → ((u : Unit) → (f u).connection ≡ u.connection) → (us : List Unit) (files : Files) → files_closed (map f us) files ≡ files_closed us files
halts_ended f same [] files = refl
halts_ended f same (u ∷ us) files = halts_ended f same us (left (f u).connection (keeps (f u)) files) ∙ ap (λ c. files_closed us (left c (keeps (record u { connection = c })) files)) (same u)

pub told_files : (variables : List Variable) (st : Stated) (s : State) → (all_closed (reached Told variables st s)).files ≡ (all_closed s).files
told_files variables st s = halts_ended (λ (u : Unit). record u { halt = if ends_halt (waited s st.0.what) u then None else u.halt }) (λ u. refl) s.units s.files

-- ---- the same place in a deck

length_dropped : {X : Type 0} (k : ℕ) (xs : List X) → length (drop k xs) ≡ length xs - k
length_dropped zero xs = omega arith
length_dropped (suc k) [] = omega arith
length_dropped (suc k) (x ∷ xs) = length_dropped k xs ∙ omega arith

-- a statement that is come to is one of the deck
pub within : (variables : List Variable) (index : ℕ) (deck : List Stated) (s : State) (x : Stated × State) → cut variables index deck s ≡ Some x → index < length deck
within variables index [] s x e = cc
within variables zero (st ∷ more) s x e = omega arith
within variables (suc index) (st ∷ more) s x e = by (λ f. within variables index more (step variables (begun_in s st) s).0 x f) (step variables (begun_in s st) s).1 e
  where
    by : (cut variables index more (step variables (begun_in s st) s).0 ≡ Some x → index < length more) → (o : Option Ending)
        → elim o as (λ _. Option (Stated × State)) [ None ↦ cut variables index more (step variables (begun_in s st) s).0 | Some ending ↦ None ] ≡ Some x → suc index < length (st ∷ more)
    by later None e = let k = later e in omega (arith, k)
    by later (Some ending) e = let z : None ≡ Some x = e in cc

-- how much is left of the deck says where that is
pub same_index : {X : Type 0} (deck : List X) (i j : ℕ) → j < length deck → length (drop i deck) ≡ length (drop j deck) → i ≡ j
same_index deck i j q e =
    let lengths : length deck - i ≡ length deck - j = sym (length_dropped i deck) ∙ e ∙ length_dropped j deck in
    omega (arith, q, lengths)

pub one_index : {X : Type 0} (deck : List X) (i j : ℕ) → i < length deck → j < length deck → length (drop i deck) ≡ length (drop j deck) → i ≡ j
one_index deck i j p q e = same_index deck i j q e

pub one_place : (variables : List Variable) (deck : List Stated) (s : State) (i j : ℕ) (x y : Stated × State) → cut variables i deck s ≡ Some x → cut variables j deck s ≡ Some y → length (drop i deck) ≡ length (drop j deck) → x ≡ y
one_place variables deck s i j x y a b e =
    let same : i ≡ j = one_index deck i j (within variables i deck s x a) (within variables j deck s y b) e in
    let both : Some x ≡ Some y = sym a ∙ ap (λ n. cut variables n deck s) same ∙ b in cc
