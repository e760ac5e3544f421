-- One unit is closed, and then the others.
use Rattle.std.proofs.Common.{◌≡◌, ◌≢◌, ◌&&◌, ℕ, ◌-◌, ◌≤◌, Bool, true, false, not, List, [], ◌∷◌, length, map, take, drop, get_or, Some, None, Option, is_some, IfSome, slice_get, Result, OnOk, inl, inr, refl, sym, ap, ◌∙◌, subst, arith}
use Rattle.std.specs.Prelude.{◌==◌}
use Rattle.std.proofs.lemmas.Bool.Decides.{eqb_tells}
use Rattle.std.proofs.lemmas.List.{take_all}
use Rattle.std.specs.FinSet as set
use Rattle.std.specs.Str.{bytes_eq}
use Rattle.fj_outside.specs.Holdings.{Holdings, SameAt}
use Rattle.fj_outside.specs.declared.errors.Stop.{Stop}
use Rattle.fj_connect.specs.Linked.{Linked, connection_of}
use Rattle.fj_meaning.specs.State.{Files}
use Rattle.fj_meaning_jobs.specs.Core.{Connected, has_name}
use Rattle.fj_meaning_jobs.specs.Desks.{Desk}
use Rattle.fj_meaning_jobs.specs.Desking.{all_left, connection_at, left_by}
use Rattle.fj_run_units.specs.Names.{stands, left_of}
use Rattle.fj_run_units.specs.Files.{files_of}
use Rattle.fj_run_units.specs.Returning.{IsAsDue}
use Rattle.fj_run_units.specs.Units.{has_slot}
use Rattle.fj_run_units.proofs.Files.{bytes_same, stands-left_of}
use Rattle.fj_run_end.specs.Closing.{IfClear, AreAsDue, AreSeated, AreNamed, SomeMayLack}
use Rattle.fj_run_end.specs.Finding.{IsEndedUpTo, IsFound, IsFoundOf, OfEach, AreSpared}
use Rattle.fj_run_end.specs.Fitting.{CountsStop, HasItsOwn, HaveTheirOwn}
use Rattle.fj_run_end.specs.Losing.{after, may_want}
use Rattle.fj_run_end.specs.Remains.{AreOfDesks}
use Rattle.fj_run_end.specs.declared.remains.Remains.{Remains}
use Rattle.fj_run_end.proofs.Desking.{either, some_in, some_is}
use Rattle.fj_run_end.proofs.Due.{all_due, clash, due_on, same_on}
use Rattle.fj_run_end.proofs.Finding.{found_of_wider}
use Rattle.fj_run_end.proofs.Returning.{both_ok}

-- units are one and others
pub parted : {X : Type 0} → (f : X → Connected) (units : List X) (unit : X) → 1 ≤ length units → unit ≡ get_or units 0 unit → map f units ≡ f unit ∷ map f (take (length units - 1) (drop 1 units))
parted f [] unit long item = absurd (omega (arith, long))
parted f (u ∷ us) unit long item =
    ap (λ x. f x ∷ map f us) (sym item) ∙ ap (λ xs. f unit ∷ map f xs) (sym (take_all (length (u ∷ us) - 1) us (omega arith)))

unlike : (a b : ℕ) → (a == b) ≡ false → a ≢ b
unlike a b e same = elim (eqb_tells a b) [ inl x ↦ clash (sym x.0 ∙ e) | inr x ↦ x.1 same ]

-- another unit has another file
pub has_other : (us : List Connected) (u : Connected) (name : List ℕ) → has_name (u ∷ us) name ≡ false → (name ≢ u.name) × (has_name us name ≡ false)
has_other us u name none =
    let both = either (bytes_eq name u.name) (has_name us name) none in
    (λ same. clash (sym (bytes_same name u.name same) ∙ both.0), both.1)

-- what a unit has is what is at its slot
pub own_is : {F : Type 0} → (count : F → ℕ) (names : List (List ℕ)) (all : List (Remains F)) (u : Connected) (c : Linked F) (stop : Option Stop) → HasItsOwn count names all u
    → slice_get all u.slot ≡ Some (record { connection = Some c; stop = stop }) → (c.name ≡ u.name) × CountsStop (count c.file) stop
own_is {F} count names all u c stop own here =
    let same = some_is (sym here ∙ own.here) in
    let is : c ≡ own.connection = some_is (ap (λ (r : Remains F). r.connection) same) in (
      ap (λ (l : Linked F). l.name) is ∙ own.named,
      subst (λ (l : Linked F). CountsStop (count l.file) stop) (sym is) (subst (CountsStop (count own.connection.file)) (ap (λ (r : Remains F). r.stop) (sym same)) own.counts),
    )

-- and its file is found so
pub found_at : {F : Type 0} → (told : F → Bool) (bytes : F → List ℕ) (c : Linked F) (stop : Option Stop) (name : List ℕ) (files : Files) (before now : ℕ) → c.name ≡ name
    → (told c.file ≡ true → IsFound (not c.modes.scratch) (files c.name) (IsEndedUpTo stop (connection_of bytes c)) before now)
    → IsFoundOf told bytes (record { connection = Some c; stop = stop }) name (files name) before now
found_at told bytes c stop name files before now same found = record {
  connection = c;
  has = refl;
  named = same;
  file = λ t. subst (λ n. IsFound (not c.modes.scratch) (files n) (IsEndedUpTo stop (connection_of bytes c)) before now) same (found t);
}

module _ {F : Type 0} (old new : List (Remains F)) (slot : ℕ) (others : (at : ℕ) → at ≢ slot → slice_get new at ≡ slice_get old at) where
  -- the others have their own
  pub own_rest : (count : F → ℕ) (names : List (List ℕ)) (name : List ℕ) (us : List Connected) → has_slot us slot ≡ false → has_name us name ≡ false
      → HaveTheirOwn count names old us → HaveTheirOwn count (left_of names name) new us
  own_rest count names name [] slots apart own = tt
  own_rest count names name (v ∷ vs) slots apart own =
      let s = either (v.slot == slot) (has_slot vs slot) slots in
      let n = either (bytes_eq name v.name) (has_name vs name) apart in
      let h = own.0 in (
        record {
          connection = h.connection;
          stop = h.stop;
          here = others v.slot (unlike v.slot slot s.0) ∙ h.here;
          named = h.named;
          out = stands-left_of names name v.name ∙ ap (λ b. not b && stands names v.name) n.0 ∙ h.out;
          counts = h.counts;
        },
        own.1,
        own.2,
        own_rest count names name vs s.1 n.1 own.3,
      )

  -- of each of them there is what there was
  pub of_rest : (P : Connected → Remains F → Type 0) (us : List Connected) → has_slot us slot ≡ false → OfEach us new P → OfEach us old P
  of_rest P [] slots h = tt
  of_rest P (v ∷ vs) slots h =
      let s = either (v.slot == slot) (has_slot vs slot) slots in
      let it = h.0 in
      ((it.0, sym (others v.slot (unlike v.slot slot s.0)) ∙ it.1, it.2), of_rest P vs s.1 h.1)

  module _ (gone : IfSome (slice_get new slot) (λ (it : Remains F). it.connection ≡ None)) where
    here_none : (at : ℕ) (it : Remains F) → at ≡ slot → slice_get new at ≡ Some it → it.connection ≡ None
    here_none at it same here = subst (λ o. IfSome o (λ (z : Remains F). z.connection ≡ None)) (ap (slice_get new) (sym same) ∙ here) gone

    pub desks_rest : (told : F → Bool) (bytes : F → List ℕ) (desks : List Desk) → AreOfDesks told bytes old desks → AreOfDesks told bytes new desks
    desks_rest told bytes desks are at c d here desk = elim (eqb_tells at slot) [
      | inl same ↦ absurd (let z : Some c ≡ None = here_none at _ same.1 here in cc)
      | inr other ↦ are at c d (sym (others at other.1) ∙ here) desk
    ]

    -- what lacks memory then did so before
    pub lack_rest : SomeMayLack new → SomeMayLack old
    lack_rest s = elim (eqb_tells s.at slot) [
      | inl same ↦ absurd (let none = here_none s.at s.it same.1 s.here in
          let z : false ≡ true = sym (ap (λ (o : Option (Linked F)). is_some o && may_want s.it.stop) none) ∙ s.lacks in cc)
      | inr other ↦ record { at = s.at; it = s.it; here = sym (others s.at other.1) ∙ s.here; lacks = s.lacks }
    ]

-- once the first of them is closed
pub own_then : {F : Type 0} → (old new : List (Remains F)) (count : F → ℕ) (names fewer : List (List ℕ)) (u : Connected) (us : List Connected)
    → ((at : ℕ) → at ≢ u.slot → slice_get new at ≡ slice_get old at) → HaveTheirOwn count names old (u ∷ us) → (HasItsOwn count names old u → fewer ≡ left_of names u.name)
    → HaveTheirOwn count fewer new us
own_then old new count names fewer u us others own off =
    subst (λ ns. HaveTheirOwn count ns new us) (sym (off own.0)) (own_rest old new u.slot others count names u.name us own.1 own.2 own.3)

-- of each unit, by another word
pub each_by : {Y : Type 0} → (all : List Y) (P Q : Connected → Y → Type 0) → ((u : Connected) (y : Y) → P u y → Q u y) → (us : List Connected) → OfEach us all P → OfEach us all Q
each_by all P Q f [] h = tt
each_by all P Q f (u ∷ us) h = (let it = h.0 in (it.0, it.1, f u it.0 it.2), each_by all P Q f us h.1)

-- a file that none of them has
pub spared_each : (u : Connected) (us : List Connected) (old mid new : Holdings) → ((name : List ℕ) → name ≢ u.name → SameAt old mid name) → AreSpared us mid new → AreSpared (u ∷ us) old new
spared_each u us old mid new first others name none =
    let apart = has_other us u name none in same_on old mid new name (first name apart.0) (others name apart.1)

-- what is due of each file
pub due_each : (u : Connected) (us : List Connected) (desks : List Desk) (old mid new : Holdings) (a b c : ℕ) → a ≤ b → b ≤ c → has_name us u.name ≡ false → AreSpared us mid new
    → AreSeated desks (u ∷ us) → AreNamed desks (u ∷ us)
    → ((d : Desk) → slice_get desks u.slot ≡ Some d → IfSome d.bay.connection (λ p. p.name ≡ u.name) → (name : List ℕ) → (name ≡ u.name → set.contains mid.hurt name ≡ false)
    → IsAsDue a b (files_of mid name) (left_by d.bay.connection (files_of old) name))
    → AreAsDue b c new (all_left desks us (files_of mid)) → AreAsDue a c new (all_left desks (u ∷ us) (files_of old))
due_each u us desks old mid new a b c ab bc apart spared seats named first others name clear =
    let at = some_in (slice_get desks u.slot) seats.0 in
    let its : IfSome at.0.bay.connection (λ p. p.name ≡ u.name) = subst (λ o. IfSome (connection_at o) (λ p. p.name ≡ u.name)) at.1 named.0 in
    let still : name ≡ u.name → set.contains mid.hurt name ≡ false = λ same. sym (spared name (ap (has_name us) same ∙ apart)).2 ∙ clear in
    subst (λ o. IsAsDue a c (files_of new name) (all_left desks us (left_by (connection_at o) (files_of old)) name)) (sym at.1)
    (due_on a b c (files_of new name) (all_left desks us (files_of mid) name) (all_left desks us (left_by at.0.bay.connection (files_of old)) name) ab bc (others name clear)
    (all_due a b desks us (files_of mid) (left_by at.0.bay.connection (files_of old)) name (first at.0 at.1 its name still)))

-- ---- what is said of each unit

module _ {F : Type 0} (old new : List (Remains F)) (u : Connected) (us : List Connected) (others : (at : ℕ) → at ≢ u.slot → slice_get new at ≡ slice_get old at)
    (slots : has_slot us u.slot ≡ false) (names : has_name us u.name ≡ false) (mid held : Holdings) (spared : AreSpared us mid held) where
  -- the slot of a unit whose name is not hurt did not stop
  pub clear_each : (P : Remains F → Type 0) → ((it : Remains F) × (slice_get old u.slot ≡ Some it) × (set.contains mid.hurt u.name ≡ false → P it)) → IfClear held us new P → IfClear held (u ∷ us) old P
  clear_each P first more = (
    (first.0, first.1, λ clear. first.2 (sym (spared u.name names).2 ∙ clear)),
    of_rest old new u.slot others (λ v it. set.contains held.hurt v.name ≡ false → P it) us slots more,
  )

  -- its file is found so
  pub found_each : (told : F → Bool) (bytes : F → List ℕ) (a b c : ℕ) → a ≤ b → b ≤ c
      → ((it : Remains F) × (slice_get old u.slot ≡ Some it) × IsFoundOf told bytes it u.name (files_of mid u.name) a b)
      → OfEach us new (λ v it. IsFoundOf told bytes it v.name (files_of held v.name) b c) → OfEach (u ∷ us) old (λ v it. IsFoundOf told bytes it v.name (files_of held v.name) a c)
  found_each told bytes a b c ab bc first more = (
    (
      first.0,
      first.1,
      found_of_wider told bytes first.0 u.name (files_of held u.name) a a b c (omega arith) bc
          (subst (λ o. IsFoundOf told bytes first.0 u.name o a b) (sym (spared u.name names).0) first.2),
    ),
    each_by old (λ v it. IsFoundOf told bytes it v.name (files_of held v.name) b c) (λ v it. IsFoundOf told bytes it v.name (files_of held v.name) a c)
        (λ v it f. found_of_wider told bytes it v.name (files_of held v.name) a b c c ab (omega arith) f) us
        (of_rest old new u.slot others (λ v it. IsFoundOf told bytes it v.name (files_of held v.name) b c) us slots more),
  )

-- what all files are where all went well
pub files_each : {T : Type 0} → (u : Connected) (us : List Connected) (desks : List Desk) (old mid new : Files) (a b r : Result T Stop) → r ≡ after a b → AreSeated desks (u ∷ us)
    → ((d : Desk) → slice_get desks u.slot ≡ Some d → OnOk a (mid ≡ left_by d.bay.connection old)) → OnOk b (new ≡ all_left desks us mid) → OnOk r (new ≡ all_left desks (u ∷ us) old)
files_each u us desks old mid new a b r is seats first others =
    let at = some_in (slice_get desks u.slot) seats.0 in
    both_ok a b r is (first at.0 at.1) others (λ p q. q ∙ ap (all_left desks us) (p ∙ ap (λ o. left_by (connection_at o) old) (sym at.1)))
