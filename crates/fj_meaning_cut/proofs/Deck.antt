-- Every deck, each statement that it comes to.
use Rattle.std.proofs.Common.{◌≡◌, ℕ, ◌<◌, Bool, true, false, List, [], ◌∷◌, take, Option, Some, None, slice_get, refl, sym, ap, ◌∙◌, subst, inl, inr, ◌&&◌}
use Rattle.std.specs.Prelude.{◌==◌, ◌≢◌}
use Rattle.std.specs.List.{All}
use Rattle.std.specs.Str.{bytes_eq}
use Rattle.std.proofs.lemmas.Bool.{eq-eqb}
use Rattle.std.proofs.lemmas.List.Elements.{All-head, All-tail, All-weaker}
use Rattle.std.proofs.lemmas.Option.{slice_get_within}
use Rattle.std.proofs.lemmas.Slice.Eq.{bytes_eq-Decides}
use Rattle.fj_connect.specs.Connection.{Connection}
use Rattle.fj_modes.specs.declared.modes.Modes.{Modes}
use Rattle.fj_statement.specs.declared.deck.Variable.{Variable}
use Rattle.fj_bay.specs.Jobs.{Job}
use Rattle.fj_meaning.specs.State.{State, Files, start}
use Rattle.fj_meaning.specs.State as plain
use Rattle.fj_meaning.specs.Statement.{begun_in, Stated, Ran, Ending, executed, cut}
use Rattle.fj_meaning.specs.CutLaws.{next_at}
use Rattle.fj_meaning.specs.UnitLaws.{OneUnit}
use Rattle.fj_meaning.proofs.Cutting.{cut_is}
use Rattle.fj_meaning.proofs.Reached.{sound_reached}
use Rattle.fj_meaning.proofs.Sound.{Sound}
use Rattle.fj_meaning.proofs.Units.{bytes_differ}
use Rattle.fj_meaning_jobs.specs.Core.{Core, Connected}
use Rattle.fj_meaning_jobs.specs.Desks.{Desk, Outcome, carry}
use Rattle.fj_meaning_jobs.specs.Doing.{Doing, finishes, gives, awaits, Desked}
use Rattle.fj_meaning_jobs.specs.Desking.{connection_at, fresh, all_left}
use Rattle.fj_meaning_jobs.proofs.Apart.{Each, each_imp, Differs, Apart}
use Rattle.fj_meaning_jobs.proofs.Seen.{Seen, numbers_apart}
use Rattle.fj_meaning_jobs.proofs.Tied.{Tied, bay_of}
use Rattle.fj_meaning_turns.specs.Inside.{waited_at, does, walked, cut_desks}
use Rattle.fj_meaning_turns.proofs.Meant.{CutTied, cut_of_deck}
use Rattle.fj_meaning_cut.specs.Others.{names_of, file_opened, file_about, core_now, has_file, IsHoused, AreHoused, IsAsBefore, OthersStay, KeepsDesks, UnitsKeepDesks}
use Rattle.fj_meaning_cut.proofs.Through.{AtMostOne}
use Rattle.fj_meaning_cut.proofs.Units.{none_any}
use Rattle.fj_meaning_cut.proofs.Carried.{there, connection_of_bay}
use Rattle.fj_meaning_cut.proofs.Touching.{IsHome, touch, at, Other, spared, still, same_left, Stand}
use Rattle.fj_meaning_cut.proofs.Housed.{each_housed, home_housed, each_behind}
use Rattle.fj_meaning_cut.proofs.Connecting.{opened_about}
use Rattle.fj_meaning_cut.proofs.Points.{at_point}
use Rattle.fj_meaning_cut.proofs.EachKind.{IsDue, AtWait, Stays, told_stays}

-- ---- units that are those of a state

homes_seen : (ds : List Desk) (us : List Connected) (vs : List plain.Unit) → Seen ds us vs → Each (IsHome ds) us
homes_seen ds [] vs b = tt
homes_seen ds (u ∷ us) [] b = absurd b
homes_seen ds (u ∷ us) (v ∷ vs) b = (
  record { it = v.connection; is = connection_of_bay (slice_get ds u.slot) (bay_of v) b.0.bay; named = b.0.name; scratch = ap (λ (m : Modes). m.scratch) b.0.modes },
  homes_seen ds us vs b.1,
)

abbrev NamesDiffer : List plain.Unit → Type 0
NamesDiffer [] = Unit {0}
NamesDiffer (v ∷ vs) = Each (λ (w : plain.Unit). v.connection.name ≡ w.connection.name → ⊥) vs × NamesDiffer vs

abbrev IsOneOf : plain.Unit → plain.Unit → Type 0
IsOneOf v w = v.connection.name ≡ w.connection.name → v.number ≡ w.number

names_differ : (vs : List plain.Unit) → Apart (λ (v : plain.Unit). v.number) vs → OneUnit vs → NamesDiffer vs
names_differ [] a o = tt
names_differ (v ∷ vs) a o = (
  heads vs a.0 (All-tail (IsOneOf v) v vs (All-head (λ x. All (IsOneOf x) (v ∷ vs)) v vs o)),
  names_differ vs a.1 (All-weaker (λ x. All (IsOneOf x) (v ∷ vs)) (λ x. All (IsOneOf x) vs) (λ x k. All-tail (IsOneOf x) v vs k) vs (All-tail (λ x. All (IsOneOf x) (v ∷ vs)) v vs o)),
)
  where
    heads : (ws : List plain.Unit) → Differs (λ (w : plain.Unit). w.number) v.number ws → All (IsOneOf v) ws → Each (λ (w : plain.Unit). v.connection.name ≡ w.connection.name → ⊥) ws
    heads [] d h = tt
    heads (w ∷ ws) d h = ((λ e. d.0 (sym (All-head (IsOneOf v) w ws h e))), heads ws d.1 (All-tail (IsOneOf v) w ws h))

module _ (name : List ℕ) where
  none_else : (ds : List Desk) (c : Connection) (us : List Connected) (vs : List plain.Unit) → name ≡ c.name → Each (IsHome ds) us → Seen ds us vs → Each (λ (w : plain.Unit). c.name ≡ w.connection.name → ⊥) vs
      → Each (λ x. at name ds x ≡ None) us
  none_else ds c [] vs e h b d = tt
  none_else ds c (u ∷ us) [] e h b d = absurd b
  none_else ds c (u ∷ us) (v ∷ vs) e h b d = (
    ap (touch name) h.0.is ∙ spared name h.0.it (bytes_differ name h.0.it.name (λ q. d.0 (sym e ∙ q ∙ sym h.0.named ∙ b.0.name))),
    none_else ds c us vs e h.1 b.1 d.1,
  )

  one_touches : (ds : List Desk) (us : List Connected) (vs : List plain.Unit) → Each (IsHome ds) us → Seen ds us vs → NamesDiffer vs → AtMostOne (at name ds) us
  one_touches ds [] vs h b d = tt
  one_touches ds (u ∷ us) [] h b d = absurd b
  one_touches ds (u ∷ us) (v ∷ vs) h b d = by (bytes_eq name v.connection.name) refl (one_touches ds us vs h.1 b.1 d.1)
    where
      by : (k : Bool) → bytes_eq name v.connection.name ≡ k → AtMostOne (at name ds) us → AtMostOne (at name ds) (u ∷ us)
      by true e rest = (inr (none_else ds v.connection us vs ((bytes_eq-Decides name v.connection.name).0 e) h.1 b.1 d.0), rest)
      by false e rest = (inl (ap (touch name) h.0.is ∙ spared name h.0.it (subst (Other name) (sym b.0.name ∙ h.0.named) e)), rest)

  tied_stand : (p : Desked) (s : State) → Tied p s → Sound s → Stand name p.desks p.core.units
  tied_stand p s t h = record {
    homes = homes_seen p.desks p.core.units s.units t.same.units;
    slots = t.slots.apart;
    numbers = numbers_apart p.desks p.core.units s.units t.same.units t.numbers;
    one = one_touches p.desks p.core.units s.units (homes_seen p.desks p.core.units s.units t.same.units) t.same.units (names_differ s.units t.numbers h.one);
    empty = λ k d. by k d (slice_get p.desks k) refl;
    sixteen = t.slots.sixteen;
  }
    where
      by : (k : ℕ) → Differs (λ (u : Connected). u.slot) k p.core.units → (o : Option Desk) → slice_get p.desks k ≡ o → there p.desks k ≡ None
      by k d None e = ap connection_at e
      by k d (Some x) e = connection_of_bay (slice_get p.desks k) (record { connection = None; halt = None }) (t.slots.idle k (subst (λ n. k < n) t.slots.sixteen (slice_get_within p.desks k x e)) d)

-- ---- after so many jobs

module _ (name : List ℕ) (due : Option (List ℕ)) (NotOpened NotAbout : Type 0) where
  walk : (k : ℕ) (ds : List Desk) (d : Doing) → Stays name due NotOpened NotAbout ds d → Stays name due NotOpened NotAbout (walked k ds d).0 (walked k ds d).1
  walk = at_point (Stays name due NotOpened NotAbout) (λ ds slot job core next h. h.1) (λ ds slot job core next h. h.1)

  now_due : (ds : List Desk) (d : Doing) → Stays name due NotOpened NotAbout ds d → (NotAbout → NotOpened) → NotAbout → IsDue name due NotOpened NotAbout ds (core_now d)
  now_due ds (finishes core condition) h f b = h.is_due b
  now_due ds (gives slot job core next) h f b = h.0.is_due b
  now_due ds (awaits slot job core next) h f b = h.0.is_due (f b)

  out_due : (ds : List Desk) (slot : ℕ) (job : Job) (core : Core) → AtWait name due NotOpened NotAbout ds core → NotOpened → has_file core.units slot name ≡ false → all_left (carry ds slot job) core.units core.files name ≡ due
  out_due ds slot job core w a e =
      same_left name ds (carry ds slot job) core.units core.files
      (still name ds slot job core.units w.homes
      (each_imp (λ (x : Connected). ((x.slot == slot) && bytes_eq name x.name) ≡ false) (λ (x : Connected). x.slot ≡ slot → Other name x.name) core.units (λ x h q. sym (ap (λ b. b && bytes_eq name x.name) (eq-eqb x.slot slot q)) ∙ h)
      (none_any (λ (x : Connected). (x.slot == slot) && bytes_eq name x.name) core.units e)))
      ∙ w.is_due a

  now_housed : (ds : List Desk) (d : Doing) → Stays name due NotOpened NotAbout ds d → AreHoused ds (core_now d).units
  now_housed ds (finishes core condition) h = each_housed ds core.units h.housed
  now_housed ds (gives slot job core next) h = each_housed ds core.units h.0.housed
  now_housed ds (awaits slot job core next) h = each_housed ds core.units (each_imp (IsHome ds) (IsHoused ds) core.units (home_housed ds) h.0.homes)

-- ---- the law

next_state : (ran : Ran) (o : Option Stated) (st : Stated) (state : State) → next_at ran o ≡ Some (st, state) → ran.state ≡ state
next_state ran None st state e = cc
next_state ran (Some x) st state e = by ran.ending e
  where
    by : (o : Option Ending) → (elim o as (λ _. Option (Stated × State)) [ None ↦ Some (begun_in ran.state x, ran.state) | Some y ↦ None ]) ≡ Some (st, state) → ran.state ≡ state
    by None e = ap (λ (o : Option (Stated × State)). elim o as (λ _. State) [ None ↦ ran.state | Some y ↦ y.1 ]) e
    by (Some y) e = cc

pub cut_sound : (variables : List Variable) (deck : List Stated) (files : Files) (index : ℕ) (st : Stated) (state : State) → cut variables index deck (start variables files) ≡ Some (st, state) → Sound state
cut_sound variables deck files index st state e =
    subst Sound (next_state (executed variables (take index deck) (start variables files)) (slice_get deck index) st state (sym (cut_is variables index deck (start variables files)) ∙ e))
    (sound_reached variables (take index deck) files)

module _ (variables : List Variable) (deck : List Stated) (files : Files) (index : ℕ) (statement : Stated) (before : Desked) (jobs : ℕ) (name : List ℕ) (e : cut_desks variables index deck (fresh variables files) ≡ Some (statement, before)) where
  abbrev due : Option (List ℕ)
  due = all_left before.desks before.core.units before.core.files name

  abbrev NotOpened : Type 0
  NotOpened = file_opened (names_of before.core.units) statement.0.what ≢ Some name

  abbrev NotAbout : Type 0
  NotAbout = file_about (names_of before.core.units) statement.0.what ≢ Some name

  abbrev point : List Desk × Doing
  point = walked jobs before.desks (does variables statement before)

  stays : Stays name due NotOpened NotAbout point.0 point.1
  stays =
      let it : CutTied variables deck index (start variables files) statement before = cut_of_deck variables deck files index statement before e in
      walk name due NotOpened NotAbout jobs before.desks (does variables statement before)
      (told_stays name due NotOpened NotAbout variables statement (waited_at statement before) before.desks before.core
      (record { stand = tied_stand name before it.state it.tied (cut_sound variables deck files index statement it.state it.cut_is); is_due = refl }) (λ a. a) (λ b. b))

  waits : (slot : ℕ) (job : Job) (core : Core) (onward : Outcome → Doing) → point.1 ≡ awaits slot job core onward → AtWait name due NotOpened NotAbout point.0 core
  waits slot job core onward is = (subst (Stays name due NotOpened NotAbout point.0) is stays).0

  is_as_before : IsAsBefore variables statement before jobs name
  is_as_before = record {
    inside = λ b. now_due name due NotOpened NotAbout point.0 point.1 stays (λ about opened. about (opened_about (names_of before.core.units) statement.0.what name opened)) b;
    awaited = λ slot job core onward a is. (waits slot job core onward is).is_due a;
    out = λ slot job core onward a is free. out_due name due NotOpened NotAbout point.0 slot job core (waits slot job core onward is) a free;
  }

  keeps_desks : KeepsDesks variables statement before jobs
  keeps_desks = record {
    inside = now_housed name due NotOpened NotAbout point.0 point.1 stays;
    out = λ slot job core onward is. each_housed (carry point.0 slot job) core.units (each_behind point.0 slot job core.units (waits slot job core onward is).homes);
  }

pub others_stay : OthersStay
others_stay variables deck files index statement before jobs name e = is_as_before variables deck files index statement before jobs name e

pub units_keep_desks : UnitsKeepDesks
units_keep_desks variables deck files index statement before jobs e = keeps_desks variables deck files index statement before jobs [] e

-- just before the statement, too
pub housed_before : (variables : List Variable) (deck : List Stated) (files : Files) (index : ℕ) (statement : Stated) (before : Desked) → cut_desks variables index deck (fresh variables files) ≡ Some (statement, before)
    → AreHoused before.desks before.core.units
housed_before variables deck files index statement before e =
    let it : CutTied variables deck index (start variables files) statement before = cut_of_deck variables deck files index statement before e in
    each_housed before.desks before.core.units (each_imp (IsHome before.desks) (IsHoused before.desks) before.core.units (home_housed before.desks) (homes_seen before.desks before.core.units it.state.units it.tied.same.units))
