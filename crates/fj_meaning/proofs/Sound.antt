-- What holds of each state that a deck reaches, and is kept by each change.
use Rattle.std.proofs.Common.{◌≡◌, ℕ, ◌+◌, ◌<◌, ◌≤◌, Bool, true, false, not, List, [], ◌∷◌, ◌++◌, map, length, get_or, Option, Some, None, refl, sym, ap, ◌∙◌, subst, inl, inr, ◌&&◌, arith}
use Rattle.std.specs.Prelude.{◌==◌, if◌then◌else◌, filter, nat_lt}
use Rattle.std.specs.List.{All, AllPairs}
use Rattle.std.proofs.lemmas.Bool.{eq-eqb, ne_eqb}
use Rattle.std.proofs.lemmas.Bool.Decides.{eqb_tells}
use Rattle.std.proofs.lemmas.List.Elements.{All-nil, All-filter, All-map, All-weaker, All-push}
use Rattle.std.proofs.lemmas.List.Kept.{AllPairs-filter}
use Rattle.std.proofs.lemmas.List.Quantifiers.{all_pairs_push}
use Rattle.fj_value.specs.declared.condition.Condition.{Condition}
use Rattle.fj_value.specs.declared.value.Cell.{Cell}
use Rattle.fj_connect.specs.Connection.{Connection}
use Rattle.fj_value.specs.declared.value.Value.TheVariants.{Undefined}
use Rattle.fj_transfer.specs.Transfer.{Done, with_undefined}
use Rattle.fj_statement.specs.declared.deck.Variable.{Variable}
use Rattle.fj_statement.specs.declared.statement.Transfer.{Transfer}
use Rattle.fj_statement.specs.declared.statement.Statement.TheVariants as statement
use Rattle.fj_store.specs.Variables.{Variables}
use Rattle.fj_book.specs.Prohibitions.{prohibited}
use Rattle.fj_meaning.specs.Needs.{need, holders}
use Rattle.fj_meaning.specs.Telling.{is_told, ends_halt, after_tells}
use Rattle.fj_meaning.specs.Transfers.{moved_by, made_pending, unless_halted, halt_behind, entry_of}
use Rattle.fj_meaning.specs.Connecting.{most_units}
use Rattle.fj_meaning.specs.State.{State, Files, Unit, Entry, found, with_unit, inserted, without_file, disconnected, all_closed, start, halts}
use Rattle.fj_meaning.specs.Reaching.{cause_of}
use Rattle.fj_meaning.specs.PendingLaws.{AreApart}
use Rattle.fj_meaning.specs.HaltLaws.{Skips, IsSkipped}
use Rattle.fj_meaning.specs.UnitLaws.{Ascends, OneUnit, Away, is_connected}
use Rattle.fj_meaning.proofs.Lists.{pairs_none, pairs_map, all_both, any_map, no_longer}
use Rattle.fj_meaning.proofs.Tells.{rising, Whole, left_over, no_cause, cause_told, cause_last, same_cause}
use Rattle.fj_meaning.proofs.Walk.{Missing, found_is}
use Rattle.fj_meaning.proofs.Places.{new_is_apart}
use Rattle.fj_meaning.proofs.Units.{found_all, found_connected, length_map, replaced_ascend, replaced_few, replaced_one, replaced_away, replaced_connected, gone_connected, gone_one, gone_away, all_inserted, come_connected, come_ascend, come_few, come_one, come_away}

abbrev pub caused : List Entry → Unit → Type 0
caused book u = u.halt ≡ cause_of book u.number

abbrev pub joined : List Unit → Entry → Type 0
joined units e = is_connected units e.unit ≡ true

pub record Sound (s : State) : Type 0 where
  pub rise : AllPairs rising s.book
  pub below : All (λ (e : Entry). e.id < s.next) s.book
  pub apart : AllPairs AreApart s.book
  pub skip : AllPairs IsSkipped s.book
  pub join : All (joined s.units) s.book
  pub halts : All (caused s.book) s.units
  pub ascend : Ascends s.units
  pub few : length s.units ≤ most_units
  pub one : OneUnit s.units
  pub away : Away s

-- ---- the start, and values

pub sound_start : (variables : List Variable) (files : Files) → Sound (start variables files)
sound_start variables files = record {
  rise = pairs_none rising;
  below = All-nil (λ (e : Entry). e.id < 1);
  apart = pairs_none AreApart;
  skip = pairs_none IsSkipped;
  join = All-nil (joined []);
  halts = All-nil (caused []);
  ascend = pairs_none (λ (u v : Unit). u.number < v.number);
  few = omega arith;
  one = All-nil (λ (u : Unit). All (λ (v : Unit). u.connection.name ≡ v.connection.name → u.number ≡ v.number) []);
  away = All-nil (λ (u : Unit). files u.connection.name ≡ None);
}

pub sound_defined : (s : State) (v : Variables) → Sound s → Sound (record s { vars = v })
sound_defined s v h = record { rise = h.rise; below = h.below; apart = h.apart; skip = h.skip; join = h.join; halts = h.halts; ascend = h.ascend; few = h.few; one = h.one; away = h.away }

pub sound_completed : (s : State) (v : Variables) (new : ℕ) → Sound s → Sound (record s { vars = v; new_unit = new })
sound_completed s v new h = record { rise = h.rise; below = h.below; apart = h.apart; skip = h.skip; join = h.join; halts = h.halts; ascend = h.ascend; few = h.few; one = h.one; away = h.away }

-- ---- tells

pub sound_tells : (variables : List Variable) (line : ℕ) (s : State) (q : Entry → Bool) → Whole q s.book → Sound s → Sound (after_tells variables line (filter q s.book) s)
sound_tells variables line s q whole h = record {
  rise = AllPairs-filter rising stays s.book h.rise;
  below = All-filter stays (λ (e : Entry). e.id < s.next) s.book h.below;
  apart = AllPairs-filter AreApart stays s.book h.apart;
  skip = AllPairs-filter IsSkipped stays s.book h.skip;
  join = All-filter stays (joined (map told s.units)) s.book (All-weaker (joined s.units) (joined (map told s.units)) (λ e k. any_map told (λ (u : Unit). u.number == e.unit) s.units ∙ k) s.book h.join);
  halts = All-map (caused (filter stays s.book)) told s.units (All-weaker (caused s.book) (λ u. caused (filter stays s.book) (told u)) (λ u k. cause u k) s.units h.halts);
  ascend = pairs_map (λ (u v : Unit). u.number < v.number) told s.units h.ascend;
  few = subst (λ k. k ≤ most_units) (sym (length_map told s.units)) h.few;
  one = All-map (λ (u : Unit). All (λ (v : Unit). u.connection.name ≡ v.connection.name → u.number ≡ v.number) (map told s.units)) told s.units
      (All-weaker (λ (u : Unit). All (λ (v : Unit). u.connection.name ≡ v.connection.name → u.number ≡ v.number) s.units) (λ (u : Unit). All (λ (v : Unit). u.connection.name ≡ v.connection.name → u.number ≡ v.number) (map told s.units))
      (λ u k. All-map (λ (v : Unit). u.connection.name ≡ v.connection.name → u.number ≡ v.number) told s.units k) s.units h.one);
  away = All-map (λ (u : Unit). s.files u.connection.name ≡ None) told s.units h.away;
}
  where
    stays : Entry → Bool
    stays e = not (is_told (filter q s.book) e)

    told : Unit → Unit
    told u = record u { halt = if ends_halt (filter q s.book) u then None else u.halt }

    cause : (u : Unit) → caused s.book u → caused (filter stays s.book) (told u)
    cause u k =
        ap (λ o. if ends_halt (filter q s.book) u then None else o) k ∙ cause_told q u.number s.book whole ∙ ap (λ l. cause_of l u.number) (sym (left_over q s.book h.rise))

-- ---- a connection changes

pub sound_moved : (s : State) (v : Variables) (n : ℕ) (u : Unit) (c : Connection) → found s.units n ≡ Some u → c.name ≡ u.connection.name → Sound s
    → Sound (record s { vars = v; units = with_unit (record u { connection = c }) s.units })
sound_moved s v n u c at name h = record {
  rise = h.rise;
  below = h.below;
  apart = h.apart;
  skip = h.skip;
  join = All-weaker (joined s.units) (joined (with_unit new s.units)) (λ e k. replaced_connected s.units new e.unit ∙ k) s.book h.join;
  halts = All-map (caused s.book) (λ (x : Unit). if x.number == new.number then new else x) s.units
      (All-weaker (caused s.book) (λ (x : Unit). caused s.book (if x.number == new.number then new else x)) (λ x k. either (x.number == new.number) x k) s.units h.halts);
  ascend = replaced_ascend s.units n u new h.ascend at refl name;
  few = replaced_few s.units n u new h.ascend at refl name h.few;
  one = replaced_one s.units n u new h.ascend at refl name h.one;
  away = replaced_away s.units n u new h.ascend at refl name s.files h.away;
}
  where
    new : Unit
    new = record u { connection = c }

    either : (b : Bool) (x : Unit) → caused s.book x → caused s.book (if b then new else x)
    either true x k = found_all (caused s.book) s.units n u h.halts at
    either false x k = k

-- ---- a unit is left, or connected

abbrev pub none_of : ℕ → List Entry → Type 0
none_of n book = All (λ (e : Entry). (e.unit == n) ≡ false) book

pub sound_left : (s : State) (n : ℕ) (u : Unit) (keep : Bool) → none_of n s.book → found s.units n ≡ Some u → Sound s → Sound (disconnected s u keep)
sound_left s n u keep none at h = record {
  rise = h.rise;
  below = h.below;
  apart = h.apart;
  skip = h.skip;
  join = all_both (λ (e : Entry). (e.unit == n) ≡ false) (joined s.units) (joined (filter other s.units)) s.book
      (λ e ne k. gone_connected s.units u.number e.unit (subst (λ m. (e.unit == m) ≡ false) (sym (found_is s.units n u at)) ne) k) none h.join;
  halts = All-filter other (caused s.book) s.units h.halts;
  ascend = AllPairs-filter (λ (a b : Unit). a.number < b.number) other s.units h.ascend;
  few = omega (arith, no_longer other s.units, h.few);
  one = gone_one s.units u.number h.one;
  away = gone_away s.units s.files n u keep at h.one h.away;
}
  where
    other : Unit → Bool
    other x = not (x.number == u.number)

pub sound_opened : (s : State) (n : ℕ) (c : Connection) → none_of n s.book → Missing n c.name s.units → nat_lt (length s.units) most_units ≡ true → Sound s
    → Sound (record s { units = inserted (record { number = n; connection = c; halt = None }) s.units; files = without_file c.name s.files })
sound_opened s n c none missing room h = record {
  rise = h.rise;
  below = h.below;
  apart = h.apart;
  skip = h.skip;
  join = all_both (λ (e : Entry). (e.unit == n) ≡ false) (joined s.units) (joined (inserted new s.units)) s.book (λ e ne k. come_connected s.units new e.unit ne k) none h.join;
  halts = all_inserted (caused s.book) new s.units (sym (no_cause n s.book none)) h.halts;
  ascend = come_ascend s.units new h.ascend;
  few = come_few s.units new room;
  one = come_one s.units new missing h.one;
  away = come_away s.units s.files new h.away;
}
  where
    new : Unit
    new = record { number = n; connection = c; halt = None }

pub sound_closed : (s : State) → s.book ≡ [] → Sound s → Sound (all_closed s)
sound_closed s none h = record {
  rise = h.rise;
  below = h.below;
  apart = h.apart;
  skip = h.skip;
  join = subst (All (joined [])) (sym none) (All-nil (joined []));
  halts = All-nil (caused s.book);
  ascend = pairs_none (λ (u v : Unit). u.number < v.number);
  few = omega arith;
  one = All-nil (λ (u : Unit). All (λ (v : Unit). u.connection.name ≡ v.connection.name → u.number ≡ v.number) []);
  away = All-nil (λ (u : Unit). (all_closed s).files u.connection.name ≡ None);
}

-- ---- a transfer becomes pending

skipped_has : (o : Option Condition) (cause : Condition) (c : Connection) (input : Bool) (cells : List Cell) (done : Done) → o ≡ Some cause → (unless_halted o c input cells done).condition ≡ cause
skipped_has None cause c input cells done e = cc
skipped_has (Some x) cause c input cells done e = cc

-- the cells of an entry
abbrev kept : Transfer → Done → List Cell
kept t done = if t.input then done.cells else []

skipped_values : (t : Transfer) (o : Option Condition) (cause : Condition) (c : Connection) (cells : List Cell) (done : Done) → o ≡ Some cause → All (λ (cell : Cell). cell.value ≡ Undefined) (kept t (unless_halted o c t.input cells done))
skipped_values t None cause c cells done e = cc
skipped_values t (Some x) cause c cells done e = by t.input
  where
    by : (b : Bool) → All (λ (cell : Cell). cell.value ≡ Undefined) (if b then (if b then with_undefined cells else cells) else [])
    by true = All-map (λ (cell : Cell). cell.value ≡ Undefined) (λ (cell : Cell). record cell { value = Undefined }) cells (λ k d within. refl)
    by false = All-nil (λ (cell : Cell). cell.value ≡ Undefined)

skipped_count : (o : Option Condition) (cause : Condition) (c : Connection) (input : Bool) (cells : List Cell) (done : Done) → o ≡ Some cause → (unless_halted o c input cells done).count ≡ None
skipped_count None cause c input cells done e = cc
skipped_count (Some x) cause c input cells done e = refl

skipped_is : (o : Option Condition) (c : Connection) (input : Bool) (cells : List Cell) (done : Done) → done.connection.name ≡ c.name → (unless_halted o c input cells done).connection.name ≡ c.name
skipped_is None c input cells done e = e
skipped_is (Some x) c input cells done e = refl

pub sound_begun : (variables : List Variable) (s : State) (t : Transfer) (n : ℕ) (u : Unit) (done : Done) → found s.units n ≡ Some u → done.connection.name ≡ u.connection.name
    → prohibited s.vars (holders s.book) (need variables s (statement.Transfer t)) ≡ None → Sound s → Sound (made_pending variables s t (moved_by variables s t) u done).0
sound_begun variables s t n u done at name allowed h = record {
  rise = all_pairs_push rising s.book e h.rise h.below;
  below = All-push (λ (x : Entry). x.id < s.next + 1) s.book e (All-weaker (λ (x : Entry). x.id < s.next) (λ (x : Entry). x.id < s.next + 1) (λ x lt. omega (arith, lt)) s.book h.below) (omega arith);
  apart = all_pairs_push AreApart s.book e h.apart (new_is_apart variables s t allowed e refl refl);
  skip = all_pairs_push IsSkipped s.book e h.skip (λ k d within same halting.
      skips (get_or s.book k d) (here ∙ same_cause u.number s.book h.skip k d within same halting));
  join = All-push (joined (with_unit new s.units)) s.book e (All-weaker (joined s.units) (joined (with_unit new s.units)) (λ x k. replaced_connected s.units new x.unit ∙ k) s.book h.join)
      (replaced_connected s.units new u.number ∙ ap (is_connected s.units) (found_is s.units n u at) ∙ found_connected s.units n u at);
  halts = All-map (caused (s.book ++ e ∷ [])) (λ (x : Unit). if x.number == u.number then new else x) s.units
      (All-weaker (caused s.book) (λ (x : Unit). caused (s.book ++ e ∷ []) (if x.number == u.number then new else x)) (λ x k. elim (eqb_tells x.number u.number) [
        | inl a ↦ subst (λ b. caused (s.book ++ e ∷ []) (if b then new else x)) (sym a.0) own
        | inr a ↦ subst (λ b. caused (s.book ++ e ∷ []) (if b then new else x)) (sym a.0) (other x (λ i. a.1 i) k)
      ]) s.units h.halts);
  ascend = replaced_ascend s.units n u new h.ascend at refl (skipped_is u.halt u.connection t.input (moved_by variables s t).cells done name);
  few = replaced_few s.units n u new h.ascend at refl (skipped_is u.halt u.connection t.input (moved_by variables s t).cells done name) h.few;
  one = replaced_one s.units n u new h.ascend at refl (skipped_is u.halt u.connection t.input (moved_by variables s t).cells done name) h.one;
  away = replaced_away s.units n u new h.ascend at refl (skipped_is u.halt u.connection t.input (moved_by variables s t).cells done name) s.files h.away;
}
  where
    met : Done
    met = unless_halted u.halt u.connection t.input (moved_by variables s t).cells done

    e : Entry
    e = entry_of variables s t u met

    new : Unit
    new = record u { connection = met.connection; halt = halt_behind u.halt met.condition }

    here : caused s.book u
    here = found_all (caused s.book) s.units n u h.halts at

    skips : (a : Entry) → u.halt ≡ Some a.condition → Skips a e
    skips a k = record {
      condition = skipped_has u.halt a.condition u.connection t.input (moved_by variables s t).cells done k;
      values = skipped_values t u.halt a.condition u.connection (moved_by variables s t).cells done k;
      count = skipped_count u.halt a.condition u.connection t.input (moved_by variables s t).cells done k;
    }

    behind : (o : Option Condition) (c : Condition) → (elim o as (λ _. Option Condition) [ Some x ↦ Some x | None ↦ if (u.number == u.number) && halts c then Some c else None ]) ≡ halt_behind o c
    behind (Some x) c = refl
    behind None c = ap (λ b. if b && halts c then Some c else None) (eq-eqb u.number u.number refl)

    own : caused (s.book ++ e ∷ []) new
    own = sym (cause_last u.number s.book e u.halt (sym here) ∙ behind u.halt met.condition)

    same : (o : Option Condition) (b : Bool) → b ≡ false → (elim o as (λ _. Option Condition) [ Some x ↦ Some x | None ↦ if b && halts met.condition then Some met.condition else None ]) ≡ o
    same (Some x) b k = refl
    same None b k = ap (λ p. if p && halts met.condition then Some met.condition else None) k

    other : (x : Unit) → (x.number ≡ u.number → ⊥) → caused s.book x → caused (s.book ++ e ∷ []) x
    other x ne k = sym (cause_last x.number s.book e x.halt (sym k) ∙ same x.halt (u.number == x.number) (ne_eqb u.number x.number (λ i. ne (sym i))))
