-- The tells of a statement, and the halts that they end.
use Rattle.std.proofs.Common.{◌≡◌, ℕ, ◌<◌, Bool, true, false, not, List, [], ◌∷◌, ◌++◌, map, Option, Some, None, slice_get, refl, sym, ap, ◌∙◌, subst}
use Rattle.std.specs.Prelude.{if◌then◌else◌, filter}
use Rattle.std.specs.Option.{option_map}
use Rattle.fj_bay.specs.Jobs.{resume}
use Rattle.fj_bay.specs.Serving.{serve}
use Rattle.fj_statement.specs.declared.deck.Variable.{Variable}
use Rattle.fj_meaning.specs.State.{State, Entry}
use Rattle.fj_meaning.specs.State as plain
use Rattle.fj_meaning.specs.Telling.{tells_cause, tells_id, tell_of, with_inputs, after_tells}
use Rattle.fj_meaning_jobs.specs.Core.{Pending, Connected}
use Rattle.fj_meaning_jobs.specs.Desks.{Desk, Brought, brought_by, carry, resumed, entry_of, entry_with, log_at, log_length}
use Rattle.fj_meaning_jobs.specs.Doing.{Desked}
use Rattle.fj_meaning_jobs.specs.Desking.{told_core}
use Rattle.fj_meaning_jobs.specs.Forgetting.{IsSeen, bay_at}
use Rattle.fj_meaning_jobs.proofs.Apart.{Apart, Differs, apart_map, each_filter}
use Rattle.fj_meaning_jobs.proofs.Carrying.{Later, later_same, later_then, carry_other, carry_later, serves_at, Placed}
use Rattle.fj_meaning_jobs.proofs.Seen.{Seen, both_other}
use Rattle.fj_meaning_jobs.proofs.Tied.{Tied, entries_later, placed_later, bay_of}

-- the unit once such conditions were told
abbrev pub without_halt : List Entry → plain.Unit → plain.Unit
without_halt told v = record v { halt = if tells_cause told v.number then None else v.halt }

abbrev one : Bool → Connected → List Desk → List Desk
one b u desks = if b then carry desks u.slot resume else desks

one_other : (b : Bool) (u : Connected) (desks : List Desk) (k : ℕ) → (k ≡ u.slot → ⊥) → slice_get (one b u desks) k ≡ slice_get desks k
one_other true u desks k ne = carry_other desks u.slot resume k ne
one_other false u desks k ne = refl

one_later : (b : Bool) (u : Connected) (desks : List Desk) → Later desks (one b u desks)
one_later true u desks = carry_later desks u.slot resume
one_later false u desks = later_same desks

pub resumed_other : (told : List Entry) (us : List Connected) (desks : List Desk) (k : ℕ) → Differs (λ (u : Connected). u.slot) k us → slice_get (resumed told us desks) k ≡ slice_get desks k
resumed_other told [] desks k d = refl
resumed_other told (u ∷ us) desks k d =
    resumed_other told us (one (tells_cause told u.number) u desks) k d.1 ∙ one_other (tells_cause told u.number) u desks k (λ q. d.0 (sym q))

pub resumed_later : (told : List Entry) (us : List Connected) (desks : List Desk) → Later desks (resumed told us desks)
resumed_later told [] desks = later_same desks
resumed_later told (u ∷ us) desks =
    later_then desks (one (tells_cause told u.number) u desks) (resumed told us (one (tells_cause told u.number) u desks)) (one_later (tells_cause told u.number) u desks)
    (resumed_later told us (one (tells_cause told u.number) u desks))

seen_resumed : (b : Bool) (u : Connected) (v : plain.Unit) (desks : List Desk) → IsSeen desks u v → IsSeen (one b u desks) u (record v { halt = if b then None else v.halt })
unfolding serve
seen_resumed true u v desks s = record { number = s.number; name = s.name; modes = s.modes; bay = (serves_at desks u.slot resume (bay_of v) s.bay).reaches.here }
seen_resumed false u v desks s = s

pub both_resumed : (told : List Entry) (us : List Connected) (vs : List plain.Unit) (desks : List Desk) → Apart (λ (u : Connected). u.slot) us → Seen desks us vs
    → Seen (resumed told us desks) us (map (without_halt told) vs)
both_resumed told [] [] desks h b = tt
both_resumed told [] (v ∷ vs) desks h b = absurd b
both_resumed told (u ∷ us) [] desks h b = absurd b
both_resumed told (u ∷ us) (v ∷ vs) desks h b = (
  first,
  both_resumed told us vs then_ h.1 (both_other desks then_ u.slot us vs (λ k ne. one_other (tells_cause told u.number) u desks k ne) h.0 b.1),
)
  where
    then_ : List Desk
    then_ = one (tells_cause told u.number) u desks

    here : IsSeen then_ u (record v { halt = if tells_cause told v.number then None else v.halt })
    here = subst (λ n. IsSeen then_ u (record v { halt = if tells_cause told n then None else v.halt })) b.0.number (seen_resumed (tells_cause told u.number) u v desks b.0)

    first : IsSeen (resumed told us then_) u (record v { halt = if tells_cause told v.number then None else v.halt })
    first = record { number = here.number; name = here.name; modes = here.modes; bay = ap bay_at (resumed_other told us then_ u.slot h.0) ∙ here.bay }

id_same : (e : Pending) (o : Option Brought) → (entry_with e o).id ≡ e.id
id_same e None = refl
id_same e (Some o) = refl

-- those that are left
book_left : (desks : List Desk) (told : List Entry) (book : List Pending)
    → map (entry_of desks) (filter (λ (e : Pending). not (tells_id told e.id)) book) ≡ filter (λ (e : Entry). not (tells_id told e.id)) (map (entry_of desks) book)
book_left desks told [] = refl
book_left desks told (x ∷ xs) = by (tells_id told x.id) (tells_id told (entry_of desks x).id) (ap (tells_id told) (sym (id_same x (option_map brought_by (log_at (slice_get desks x.slot) x.number))))) (book_left desks told xs)
  where
    by : (a b : Bool) → a ≡ b → map (entry_of desks) (filter (λ (e : Pending). not (tells_id told e.id)) xs) ≡ filter (λ (e : Entry). not (tells_id told e.id)) (map (entry_of desks) xs)
        → map (entry_of desks) (if not a then x ∷ filter (λ (e : Pending). not (tells_id told e.id)) xs else filter (λ (e : Pending). not (tells_id told e.id)) xs)
        ≡ (if not b then entry_of desks x ∷ filter (λ (e : Entry). not (tells_id told e.id)) (map (entry_of desks) xs) else filter (λ (e : Entry). not (tells_id told e.id)) (map (entry_of desks) xs))
    by true true e h = h
    by true false e h = cc
    by false true e h = cc
    by false false e h = ap (λ l. entry_of desks x ∷ l) h

-- after the tells
pub tells_tied : (variables : List Variable) (line : ℕ) (told : List Entry) (p : Desked) (s : State) → Tied p s
    → Tied (record { core = told_core variables line told p.core; desks = resumed told p.core.units p.desks }) (after_tells variables line told s)
tells_tied variables line told p s t = record {
  same = record {
    vars = ap (with_inputs variables told) t.same.vars;
    book = entries_later p.desks (resumed told p.core.units p.desks) kept later placed ∙ book_left p.desks told p.core.book ∙ ap (λ l. filter (λ (e : Entry). not (tells_id told e.id)) l) t.same.book;
    units = both_resumed told p.core.units s.units p.desks t.slots.apart t.same.units;
    files = t.same.files;
    output = t.same.output;
    next = t.same.next;
    new_unit = t.same.new_unit;
    tells = ap (λ l. l ++ map (tell_of line) told) t.same.tells;
  };
  slots = record {
    apart = t.slots.apart;
    idle = λ k l d. ap bay_at (resumed_other told p.core.units p.desks k d) ∙ t.slots.idle k l d;
    sixteen = later.long ∙ t.slots.sixteen;
    placed = placed_later p.desks (resumed told p.core.units p.desks) kept later placed;
  };
  numbers = apart_map (λ (v : plain.Unit). v.number) (λ (v : plain.Unit). v.number) (without_halt told) s.units (λ v. refl) t.numbers;
}
  where
    kept : List Pending
    kept = filter (λ (e : Pending). not (tells_id told e.id)) p.core.book

    later : Later p.desks (resumed told p.core.units p.desks)
    later = resumed_later told p.core.units p.desks

    placed : Placed p.desks kept
    placed = each_filter (λ (e : Pending). e.number < log_length (slice_get p.desks e.slot)) (λ (e : Pending). not (tells_id told e.id)) p.core.book t.slots.placed
