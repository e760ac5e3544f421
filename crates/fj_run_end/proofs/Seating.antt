-- Units at slots of their own, whose connections have their names; and what a job makes of these names.
use Rattle.std.proofs.Common.{◌≡◌, ℕ, ◌<◌, Bool, true, false, not, List, [], ◌∷◌, ◌++◌, map, Option, Some, None, refl, sym, ap, ◌∙◌, subst, inl, inr}
use Rattle.std.specs.Prelude.{◌==◌, if◌then◌else◌, filter, nat_lt, option_map}
use Rattle.std.proofs.lemmas.Bool.Decides.{eqb_tells}
use Rattle.fj_modes.specs.declared.modes.Modes.{Modes}
use Rattle.fj_connect.specs.Connection.{Connection}
use Rattle.fj_bay.specs.Bay.{Bay}
use Rattle.fj_bay.specs.Jobs.{Job, attach, detach, move, go, change, flush, look, resume}
use Rattle.fj_bay.specs.Serving.{serve, attached, detached, moved_in, gone, changed, looked}
use Rattle.fj_bay.proofs.BayProofs.{keeps_its_connection}
use Rattle.fj_meaning_jobs.specs.Core.{Connected, connected_at, with_connected, inserted, without_connected}
use Rattle.fj_meaning_jobs.specs.Desks.{most_slots}
use Rattle.fj_meaning_jobs.proofs.Apart.{Each, each_filter, each_append, each_imp, each_both, each_map, Differs, Apart, apart_filter, apart_split, filter_each}
use Rattle.fj_meaning_cut.proofs.Units.{each_all, each_unfilter, each_at, only, others_differ, none_had, apart_from}
use Rattle.fj_run_end.specs.Ended.{unit_names}
use Rattle.fj_run_end.specs.Holding.{name_at}

-- ---- names by slot

-- the name of the connection at each slot
abbrev pub Table : Type 0
Table = ℕ → Option (List ℕ)

abbrev pub name_in : Option Connection → Option (List ℕ)
name_in o = option_map (λ (c : Connection). c.name) o

-- the job brings a connection or takes one out
abbrev pub connects : Job → Bool
connects (attach brought) = true
connects (detach place) = true
connects _ = false

abbrev brought_name : Option (List ℕ) → Option Connection → Option (List ℕ)
brought_name None brought = name_in brought
brought_name (Some name) brought = Some name

-- what it makes of the name
abbrev pub named_by : Job → Option (List ℕ) → Option (List ℕ)
named_by (attach brought) name = brought_name name brought
named_by (detach place) name = None
named_by _ name = name

pub named_still : (job : Job) (name : Option (List ℕ)) → connects job ≡ false → named_by job name ≡ name
named_still (attach brought) name e = cc
named_still (detach place) name e = cc
named_still (move t) name e = refl
named_still (go how) name e = refl
named_still (change edit) name e = refl
named_still flush name e = refl
named_still (look place) name e = refl
named_still resume name e = refl

-- so a bay does
pub serves_name : (bay : Bay) (job : Job) → name_in (serve bay job).engine.connection ≡ named_by job (name_in bay.connection)
unfolding serve
serves_name bay job = by bay.connection refl job
  where
    kept : (c : Connection) (job : Job) → bay.connection ≡ Some c → ((place : Option Connection) → job ≡ detach place → ⊥) → name_in (serve bay job).engine.connection ≡ Some c.name
    kept c job e in_ = let k = keeps_its_connection bay c job e in_ in ap name_in k.there ∙ ap Some k.named

    by : (o : Option Connection) → bay.connection ≡ o → (job : Job) → name_in (serve bay job).engine.connection ≡ named_by job (name_in bay.connection)
    by None e (attach brought) = ap (λ o. name_in (attached bay o brought).engine.connection) e ∙ ap (λ o. brought_name (name_in o) brought) (sym e)
    by None e (detach place) = ap (λ o. name_in (detached bay o place).engine.connection) e ∙ ap name_in e
    by None e (move t) = ap (λ o. name_in (moved_in bay o t).engine.connection) e
    by None e (go how) = ap (λ o. name_in (gone bay o how).engine.connection) e
    by None e (change edit) = ap (λ o. name_in (changed bay o edit).engine.connection) e
    by None e flush = refl
    by None e (look place) = ap (λ o. name_in (looked bay o place).engine.connection) e
    by None e resume = refl
    by (Some c) e (attach brought) = kept c (attach brought) e (λ place q. cc) ∙ ap (λ o. brought_name (name_in o) brought) (sym e)
    by (Some c) e (detach place) = ap (λ o. name_in (detached bay o place).engine.connection) e
    by (Some c) e (move t) = kept c (move t) e (λ place q. cc) ∙ ap name_in (sym e)
    by (Some c) e (go how) = kept c (go how) e (λ place q. cc) ∙ ap name_in (sym e)
    by (Some c) e (change edit) = kept c (change edit) e (λ place q. cc) ∙ ap name_in (sym e)
    by (Some c) e flush = refl
    by (Some c) e (look place) = kept c (look place) e (λ at q. cc) ∙ ap name_in (sym e)
    by (Some c) e resume = refl

-- the names behind a job at a slot
pub record IsBehind (old : Table) (slot : ℕ) (job : Job) (new : Table) : Type 0 where
  pub here : new slot ≡ named_by job (old slot)
  pub others : (at : ℕ) → (at ≡ slot → ⊥) → new at ≡ old at

pub same_behind : (old : Table) (slot : ℕ) (job : Job) (new : Table) → connects job ≡ false → IsBehind old slot job new → (at : ℕ) → new at ≡ old at
same_behind old slot job new still b at = elim (eqb_tells at slot) [
  | inl a ↦ ap new a.1 ∙ b.here ∙ named_still job (old slot) still ∙ ap old (sym a.1)
  | inr a ↦ b.others at a.1
]

-- ---- units

-- each unit has a number and a slot of its own, and its slot has its name; the others have none
pub record Seated (names : Table) (us : List Connected) : Type 0 where
  pub numbers : Apart (λ (u : Connected). u.number) us
  pub slots : Apart (λ (u : Connected). u.slot) us
  pub low : Each (λ (u : Connected). u.slot < most_slots) us
  pub named : Each (λ (u : Connected). names u.slot ≡ Some u.name) us
  pub empty : (at : ℕ) → Differs (λ (u : Connected). u.slot) at us → names at ≡ None

pub seated_same : (old new : Table) (us : List Connected) → ((at : ℕ) → new at ≡ old at) → Seated old us → Seated new us
seated_same old new us same s = record {
  numbers = s.numbers;
  slots = s.slots;
  low = s.low;
  named = each_imp (λ (u : Connected). old u.slot ≡ Some u.name) (λ (u : Connected). new u.slot ≡ Some u.name) us (λ u e. same u.slot ∙ e) s.named;
  empty = λ at d. same at ∙ s.empty at d;
}

pub seated_low : (names : Table) (us : List Connected) (u : Connected) → Seated names us → connected_at us u.number ≡ Some u → u.slot < most_slots
seated_low names us u s found = each_at (λ (x : Connected). x.slot < most_slots) us u.number u s.low found

pub seated_name : (names : Table) (us : List Connected) (u : Connected) → Seated names us → connected_at us u.number ≡ Some u → names u.slot ≡ Some u.name
seated_name names us u s found = each_at (λ (x : Connected). names x.slot ≡ Some x.name) us u.number u s.named found

-- the name at each slot is that of the unit there
pub name_is : (names : Table) (us : List Connected) (at : ℕ) → Each (λ (u : Connected). names u.slot ≡ Some u.name) us → (Differs (λ (u : Connected). u.slot) at us → names at ≡ None) → names at ≡ name_at us at
name_is names [] at named empty = empty tt
name_is names (u ∷ us) at named empty =
    elim (eqb_tells u.slot at) [
      | inl a ↦ ap names (sym a.1) ∙ named.0 ∙ sym (ap (λ b. if b then Some u.name else name_at us at) a.0)
      | inr a ↦ name_is names us at named.1 (λ d. empty (a.1, d)) ∙ sym (ap (λ b. if b then Some u.name else name_at us at) a.0)
    ]

-- ---- one of them goes

pub gone_seated : (old new : Table) (us : List Connected) (u : Connected) → Seated old us → connected_at us u.number ≡ Some u → IsBehind old u.slot (detach None) new → Seated new (without_connected u.number us)
gone_seated old new us u s found b = record {
  numbers = apart_filter (λ x. x.number) (λ (x : Connected). not (x.number == u.number)) us s.numbers;
  slots = apart_filter (λ x. x.slot) (λ (x : Connected). not (x.number == u.number)) us s.slots;
  low = each_filter (λ (x : Connected). x.slot < most_slots) (λ (x : Connected). not (x.number == u.number)) us s.low;
  named = each_both (λ (x : Connected). x.slot ≡ u.slot → ⊥) (λ (x : Connected). old x.slot ≡ Some x.name) (λ (x : Connected). new x.slot ≡ Some x.name) (without_connected u.number us)
      (λ x ne e. b.others x.slot ne ∙ e) (others_differ us u s.slots found) (each_filter (λ (x : Connected). old x.slot ≡ Some x.name) (λ (x : Connected). not (x.number == u.number)) us s.named);
  empty = λ at d. elim (eqb_tells at u.slot) [
    | inl a ↦ ap new a.1 ∙ b.here
    | inr a ↦ b.others at a.1 ∙ s.empty at (none_had us u s.numbers found at d a.1)
  ];
}

-- ---- a new one comes

each_front : {X : Type 0} → (P : X → Type 0) (xs ys : List X) → Each P (xs ++ ys) → Each P xs × Each P ys
each_front P [] ys h = (tt, h)
each_front P (x ∷ xs) ys h = let rest = each_front P xs ys h.1 in ((h.0, rest.0), rest.1)

each_parted : {X : Type 0} → (P : X → Type 0) (p : X → Bool) (xs : List X) → Each P (filter p xs) → Each P (filter (λ x. not (p x)) xs) → Each P xs
each_parted P p xs h k =
    each_unfilter P p xs h
    (each_unfilter (λ x. p x ≡ false → P x) (λ x. not (p x)) xs (each_imp P (λ x. p x ≡ false → P x) (filter (λ x. not (p x)) xs) (λ x a e. a) k)
    (each_all (λ x. not (p x) ≡ false → p x ≡ false → P x) xs (λ x a e. absurd (let z : true ≡ false = sym (ap not e) ∙ a in cc))))

pub come_seated : (old new : Table) (us : List Connected) (u : Connected) (c : Connection) → Seated old us → u.slot < most_slots → Differs (λ (x : Connected). x.slot) u.slot us → Differs (λ (x : Connected). x.number) u.number us
    → c.name ≡ u.name → IsBehind old u.slot (attach (Some c)) new → Seated new (inserted u us)
come_seated old new us u c s low free lacks named b = subst (λ l. Seated new (filter below us ++ u ∷ l)) (sym above) whole
  where
    below : Connected → Bool
    below x = nat_lt x.number u.number

    above : filter (λ (x : Connected). nat_lt u.number x.number) us ≡ filter (λ x. not (below x)) us
    above =
        filter_each (λ (x : Connected). nat_lt u.number x.number) (λ x. not (below x)) us
        (each_imp (λ (x : Connected). x.number ≡ u.number → ⊥) (λ (x : Connected). nat_lt u.number x.number ≡ not (below x)) us (λ x ne. apart_from x.number u.number ne) lacks)

    with_it : (P : Connected → Type 0) → Each P us → P u → Each P (filter below us ++ u ∷ filter (λ x. not (below x)) us)
    with_it P h k = each_append P (filter below us) (u ∷ filter (λ x. not (below x)) us) (each_filter P below us h) (k, each_filter P (λ x. not (below x)) us h)

    whole : Seated new (filter below us ++ u ∷ filter (λ x. not (below x)) us)
    whole = record {
      numbers = apart_split (λ x. x.number) below us u s.numbers lacks;
      slots = apart_split (λ x. x.slot) below us u s.slots free;
      low = with_it (λ x. x.slot < most_slots) s.low low;
      named = with_it (λ x. new x.slot ≡ Some x.name)
          (each_both (λ (x : Connected). x.slot ≡ u.slot → ⊥) (λ (x : Connected). old x.slot ≡ Some x.name) (λ (x : Connected). new x.slot ≡ Some x.name) us (λ x ne e. b.others x.slot ne ∙ e) free s.named)
          (b.here ∙ ap (λ o. brought_name o (Some c)) (s.empty u.slot free) ∙ ap Some named);
      empty = λ at d.
          let parts = each_front (λ (x : Connected). x.slot ≡ at → ⊥) (filter below us) (u ∷ filter (λ x. not (below x)) us) d in
          b.others at (λ e. parts.1.0 (sym e)) ∙ s.empty at (each_parted (λ (x : Connected). x.slot ≡ at → ⊥) below us parts.0 parts.1.1);
    }

-- ---- one of them gets other modes

each_unmap : {X Y : Type 0} → (P : Y → Type 0) (g : X → Y) (xs : List X) → Each P (map g xs) → Each (λ x. P (g x)) xs
each_unmap P g [] h = tt
each_unmap P g (x ∷ xs) h = (h.0, each_unmap P g xs h.1)

apart_each : {X : Type 0} → (f : X → ℕ) (g : X → X) (xs : List X) → Each (λ x. f (g x) ≡ f x) xs → Apart f xs → Apart f (map g xs)
apart_each f g [] e h = tt
apart_each f g (x ∷ xs) e h = (
  each_map (λ y. f y ≡ f (g x) → ⊥) g xs (each_both (λ y. f y ≡ f x → ⊥) (λ y. f (g y) ≡ f y) (λ y. f (g y) ≡ f (g x) → ⊥) xs (λ y ne same q. ne (sym same ∙ q ∙ e.0)) h.0 e.1),
  apart_each f g xs e.1 h.1,
)

names_each : (g : Connected → Connected) (us : List Connected) → Each (λ x. (g x).name ≡ x.name) us → unit_names (map g us) ≡ unit_names us
names_each g [] e = refl
names_each g (x ∷ us) e = ap (λ n. n ∷ unit_names (map g us)) e.0 ∙ ap (λ l. x.name ∷ l) (names_each g us e.1)

module _ (names : Table) (us : List Connected) (u : Connected) (modes : Modes) (s : Seated names us) (found : connected_at us u.number ≡ Some u) where
  abbrev new : Connected
  new = record u { modes = modes }

  abbrev g : Connected → Connected
  g x = if x.number == new.number then new else x

  abbrev IsAlike : Connected → Connected → Type 0
  IsAlike y x = (y.number ≡ x.number) × (y.slot ≡ x.slot) × (y.name ≡ x.name)

  alike : Each (λ x. IsAlike (g x) x) us
  alike = each_imp (λ (x : Connected). x.number ≡ u.number → x ≡ u) (λ x. IsAlike (g x) x) us one (only (λ x. x.number) us u.number u s.numbers found)
    where
      one : (x : Connected) → (x.number ≡ u.number → x ≡ u) → IsAlike (g x) x
      one x is = elim (eqb_tells x.number u.number) [
        | inl a ↦ subst (λ b. IsAlike (if b then new else x) x) (sym a.0) (subst (λ y. IsAlike new y) (sym (is a.1)) (refl, refl, refl))
        | inr a ↦ subst (λ b. IsAlike (if b then new else x) x) (sym a.0) (refl, refl, refl)
      ]

  pub modes_seated : Seated names (with_connected new us)
  modes_seated = record {
    numbers = apart_each (λ x. x.number) g us (each_imp (λ x. IsAlike (g x) x) (λ x. (g x).number ≡ x.number) us (λ x a. a.0) alike) s.numbers;
    slots = apart_each (λ x. x.slot) g us (each_imp (λ x. IsAlike (g x) x) (λ x. (g x).slot ≡ x.slot) us (λ x a. a.1) alike) s.slots;
    low = each_map (λ x. x.slot < most_slots) g us
        (each_both (λ x. IsAlike (g x) x) (λ (x : Connected). x.slot < most_slots) (λ x. (g x).slot < most_slots) us (λ x a h. subst (λ k. k < most_slots) (sym a.1) h) alike s.low);
    named = each_map (λ x. names x.slot ≡ Some x.name) g us
        (each_both (λ x. IsAlike (g x) x) (λ (x : Connected). names x.slot ≡ Some x.name) (λ x. names (g x).slot ≡ Some (g x).name) us (λ x a e. ap names a.1 ∙ e ∙ ap Some (sym a.2)) alike s.named);
    empty = λ at d. s.empty at
        (each_both (λ x. (g x).slot ≡ at → ⊥) (λ x. IsAlike (g x) x) (λ (x : Connected). x.slot ≡ at → ⊥) us (λ x ne a e. ne (a.1 ∙ e)) (each_unmap (λ (x : Connected). x.slot ≡ at → ⊥) g us d) alike);
  }

  pub modes_named : unit_names (with_connected new us) ≡ unit_names us
  modes_named = names_each g us (each_imp (λ x. IsAlike (g x) x) (λ x. (g x).name ≡ x.name) us (λ x a. a.2) alike)
