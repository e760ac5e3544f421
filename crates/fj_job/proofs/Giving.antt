-- The jobs of the slots, each with the statement that gives it, where a run was cut; and so what is found of files that closing met.
use Rattle.std.proofs.Common.{◌≡◌, ◌≢◌, ◌⊎◌, inl, inr, ℕ, ◌<◌, Bool, true, false, List, [], ◌∷◌, drop, length, Option, Some, None, is_some, slice_get, refl, ap, sym, ◌∙◌, subst, arith}
use Rattle.std.specs.Prelude.{◌||◌, ◌&&◌, ◌==◌}
use Rattle.std.specs.Str.{bytes_eq}
use Rattle.std.proofs.lemmas.Option.{slice_get_within}
use Rattle.std.proofs.lemmas.Bool.Decides.{eqb_tells}
use Rattle.std.proofs.lemmas.Slice.Eq.{bytes_eq-Decides}
use Rattle.fj_outside.specs.Faults.{Rose}
use Rattle.fj_statement.specs.declared.deck.Variable.{Variable}
use Rattle.fj_slot.specs.Ledger.{Ledger}
use Rattle.fj_slot.specs.Serving.{Meaning}
use Rattle.fj_slot.specs.Sound.{IsSound}
use Rattle.fj_world.specs.Losing.{SlotsHold}
use Rattle.fj_world.specs.Plain.{PlainSlot}
use Rattle.fj_world.specs.Rack.{Rack}
use Rattle.fj_world.proofs.Places.{slice_get_in}
use Rattle.fj_bay.specs.Bay.{Bay}
use Rattle.fj_bay.specs.Jobs.{Job, Answer}
use Rattle.fj_meaning.specs.State.{Files}
use Rattle.fj_meaning.specs.Statement.{Stated}
use Rattle.fj_meaning_jobs.specs.Core.{Connected, has_name}
use Rattle.fj_meaning_jobs.specs.Desks.{Desk}
use Rattle.fj_meaning_jobs.specs.Desking.{all_left, connection_at, left_by}
use Rattle.fj_meaning_turns.specs.Run.{Run}
use Rattle.fj_meaning_turns.specs.Serving.{over_bays}
use Rattle.fj_meaning_cut.specs.Others.{AreHoused, has_file}
use Rattle.fj_meaning_cut.specs.Stopping.{WereGiven, HoldsGiven, IsLeftShort}
use Rattle.fj_run_end.specs.Finding.{IsLeftBehind, OfEach}
use Rattle.fj_run_end.proofs.Due.{left_elsewhere}
use Rattle.fj_job.specs.Cutting.{IsServed}
use Rattle.fj_job.proofs.Leaving.{one_index}

-- slots that are sound for jobs that were given
holds_given : {E J A : Type 0} (m : Meaning E J A Bay Job Answer) (rack : Rack E J A) (variables : List Variable) (deck : List Stated) (files : Files) (run : Run) (qs : List (PlainSlot Bay Job))
    → SlotsHold (over_bays m) qs rack → (w : WereGiven variables deck files run qs) → HoldsGiven variables deck files m rack w.index
holds_given m rack variables deck files run qs h w at l found =
    let q = slice_get_in qs at (omega (arith, slice_get_within rack.slots at l found, h.same)) in
    (q.0, h.each at q.0 l q.1 found, w.each at q.0 q.1, λ number was. let told = w.told at q.0 q.1 number was in let done = h.done at q.0 l q.1 found in omega (arith, told, done))

-- the same at that place of the deck
pub given_at : {E J A : Type 0} (m : Meaning E J A Bay Job Answer) (rack : Rack E J A) (variables : List Variable) (deck : List Stated) (files : Files) (run : Run) (qs : List (PlainSlot Bay Job))
    → SlotsHold (over_bays m) qs rack → WereGiven variables deck files run qs → (index : ℕ) → length run.rest ≡ length (drop index deck) → index < length deck → HoldsGiven variables deck files m rack index
given_at m rack variables deck files run qs h w index place low =
    subst (HoldsGiven variables deck files m rack) (one_index deck w.index index w.within low (sym w.rest ∙ place)) (holds_given m rack variables deck files run qs h w)

-- ---- a file that no unit has

parted : (a b : Bool) → (a || b) ≡ false → (a ≡ false) × (b ≡ false)
parted true b e = cc
parted false b e = (refl, e)

-- closing all units leaves it as it is
pub not_left : (desks : List Desk) (us : List Connected) (files : Files) (name : List ℕ) → AreHoused desks us → has_name us name ≡ false → all_left desks us files name ≡ files name
not_left desks [] files name h e = refl
not_left desks (u ∷ us) files name h e =
    let both = parted (bytes_eq name u.name) (has_name us name) e in
    not_left desks us (left_by (connection_at (slice_get desks u.slot)) files) name h.1 both.1 ∙ left_elsewhere (connection_at (slice_get desks u.slot)) files name u.name h.0.1 both.0

-- it is at no slot
pub not_filed : (us : List Connected) (name : List ℕ) (slot : ℕ) → has_name us name ≡ false → has_file us slot name ≡ false
not_filed [] name slot e = refl
not_filed (u ∷ us) name slot e =
    let both = parted (bytes_eq name u.name) (has_name us name) e in
    rw (both.0, not_filed us name slot both.1) (by (u.slot == slot))
  where
    by : (b : Bool) → ((b && false) || false) ≡ false
    by true = refl
    by false = refl

pub no_slot : {E J A : Type 0} (rack : Rack E J A) (us : List Connected) (name : List ℕ) → has_name us name ≡ false → IsServed rack us name
no_slot rack us name none slot has = absurd (let z : true ≡ false = sym has ∙ not_filed us name slot none in cc)

-- ---- a file that a unit has

-- a job was stopped in it, and a scratch file is gone
abbrev pub LeavesShort : List Variable → List Stated → Files → Files → ℕ → ℕ → ℕ → List ℕ → Type 0
LeavesShort variables deck files left last before now name =
    (short : IsLeftShort variables deck files last name (left name)) × (short.leaves.before.modes.scratch ≡ true → (left name ≡ None) ⊎ Rose before now)

-- and of a unit it is a job of its slot; where that has stopped, the very one in which it did
unit_short : {E J A : Type 0} (m : Meaning E J A Bay Job Answer) (rack : Rack E J A) (variables : List Variable) (deck : List Stated) (files left : Files) (last : ℕ) (before now : ℕ) (u : Connected) (l : Ledger E J A)
    → slice_get rack.slots u.slot ≡ Some l → ((s : Bay) (ts : List Job) → IsSound (over_bays m) s ts l → IsLeftBehind l s ts u.name (left u.name) before now) → HoldsGiven variables deck files m rack last
    → (x : LeavesShort variables deck files left last before now u.name) × (x.0.slot ≡ u.slot) × (is_some l.halt ≡ true → x.0.number ≡ l.done)
unit_short m rack variables deck files left last before now u l at found given =
    let q = given u.slot l at in
    let short = found q.0.start q.0.jobs q.1 in
    let it = short.some in (
      (
        record {
          slot = u.slot;
          number = it.number;
          bay = _;
          job = it.job;
          gives = q.2 it.number it.job it.at;
          behind_them = λ other was. let done = q.3 other was in let from = short.from in omega (arith, done, from);
          leaves = it.leaves;
        },
        short.gone,
      ),
      refl,
      short.stopped,
    )

pub left_short : {E J A : Type 0} (m : Meaning E J A Bay Job Answer) (rack : Rack E J A) (variables : List Variable) (deck : List Stated) (files left : Files) (last : ℕ) (before now : ℕ) (name : List ℕ) (us : List Connected)
    → OfEach us rack.slots (λ u l. (s : Bay) (ts : List Job) → IsSound (over_bays m) s ts l → IsLeftBehind l s ts u.name (left u.name) before now) → HoldsGiven variables deck files m rack last → has_name us name ≡ true
    → LeavesShort variables deck files left last before now name
left_short m rack variables deck files left last before now name [] each given e = cc
left_short m rack variables deck files left last before now name (u ∷ us) each given e = by (bytes_eq name u.name) refl (λ h. left_short m rack variables deck files left last before now name us each.1 given h) e
  where
    here : name ≡ u.name → LeavesShort variables deck files left last before now name
    here same =
        let l = each.0 in
        subst (LeavesShort variables deck files left last before now) (sym same) (unit_short m rack variables deck files left last before now u l.0 l.1 l.2 given).0

    by : (b : Bool) → bytes_eq name u.name ≡ b → (has_name us name ≡ true → LeavesShort variables deck files left last before now name) → (b || has_name us name) ≡ true
        → LeavesShort variables deck files left last before now name
    by true is later h = here ((bytes_eq-Decides name u.name).0 is)
    by false is later h = later h

-- of a slot that has stopped, it is that job
abbrev pub StopsShort : List Variable → List Stated → Files → Files → ℕ → ℕ → ℕ → List ℕ → Type 0
StopsShort variables deck files left last slot number name = (short : IsLeftShort variables deck files last name (left name)) × (short.slot ≡ slot) × (short.number ≡ number)

pub stopped_short : {E J A : Type 0} (m : Meaning E J A Bay Job Answer) (rack : Rack E J A) (variables : List Variable) (deck : List Stated) (files left : Files) (last : ℕ) (before now : ℕ) (name : List ℕ) (slot : ℕ) (l : Ledger E J A)
    (us : List Connected) → slice_get rack.slots slot ≡ Some l → is_some l.halt ≡ true
    → OfEach us rack.slots (λ u l. (s : Bay) (ts : List Job) → IsSound (over_bays m) s ts l → IsLeftBehind l s ts u.name (left u.name) before now) → HoldsGiven variables deck files m rack last → has_file us slot name ≡ true
    → StopsShort variables deck files left last slot l.done name
stopped_short m rack variables deck files left last before now name slot l [] at halted each given e = cc
stopped_short {E} {J} {A} m rack variables deck files left last before now name slot l (u ∷ us) at halted each given e =
    by (u.slot == slot) (bytes_eq name u.name) refl refl (λ h. stopped_short m rack variables deck files left last before now name slot l us at halted each.1 given h) e
  where
    here : u.slot ≡ slot → name ≡ u.name → StopsShort variables deck files left last slot l.done name
    here there named =
        let k = each.0 in
        let same : k.0 ≡ l = (let e : Some k.0 ≡ Some l = sym k.1 ∙ ap (slice_get rack.slots) there ∙ at in cc) in
        let x = unit_short m rack variables deck files left last before now u k.0 k.1 k.2 given in
        subst (StopsShort variables deck files left last slot l.done) (sym named) (x.0.0, x.1 ∙ there, x.2 (ap (λ (y : Ledger E J A). is_some y.halt) same ∙ halted) ∙ ap (λ (y : Ledger E J A). y.done) same)

    by : (a b : Bool) → (u.slot == slot) ≡ a → bytes_eq name u.name ≡ b → (has_file us slot name ≡ true → StopsShort variables deck files left last slot l.done name) → ((a && b) || has_file us slot name) ≡ true
        → StopsShort variables deck files left last slot l.done name
    by true true there named later h =
        here (elim (eqb_tells u.slot slot) [ inl a ↦ a.1 | inr a ↦ absurd (let z : true ≡ false = sym there ∙ a.0 in cc) ]) ((bytes_eq-Decides name u.name).0 named)
    by true false there named later h = later h
    by false b there named later h = later h

-- ---- what the statement is about

-- it is about that file or not
pub about_or : (about : Option (List ℕ)) (name : List ℕ) → (about ≡ Some name) ⊎ (about ≢ Some name)
about_or None name = inr (λ e. cc)
about_or (Some n) name = by (bytes_eq n name) refl
  where
    by : (b : Bool) → bytes_eq n name ≡ b → (Some n ≡ Some name) ⊎ (Some n ≢ Some name)
    by true is = inl (ap Some ((bytes_eq-Decides n name).0 is))
    by false is = inr (λ e. let same : n ≡ name = cc in let z : false ≡ true = sym is ∙ (bytes_eq-Decides n name).1 same in cc)
