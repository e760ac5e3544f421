-- Slots that hold the connections of units: what remains of them is each unit's own, and the others did not stop.
use Rattle.std.proofs.Common.{◌≡◌, ◌||◌, ℕ, ◌<◌, Bool, true, false, List, [], ◌∷◌, length, take, All, Some, None, Option, is_some, option_map, refl, sym, ap, ◌∙◌, inl, inr, arith}
use Rattle.std.specs.Prelude.{◌==◌, if◌then◌else◌}
use Rattle.std.proofs.lemmas.Bool.Decides.{eqb_tells}
use Rattle.std.proofs.lemmas.List.{length-map}
use Rattle.std.proofs.lemmas.List.Elements.{All-head, All-tail}
use Rattle.std.specs.Str.{bytes_eq}
use Rattle.fj_connect.specs.Connection.{Connection}
use Rattle.fj_connect.specs.Linked.{Linked}
use Rattle.fj_slot.specs.declared.stop.Halt.{Halt}
use Rattle.fj_slot.specs.Serving.{Meaning}
use Rattle.fj_slot.proofs.Sound.{slice_get_inside}
use Rattle.fj_world.specs.Rack.{Rack}
use Rattle.fj_bay.specs.Bay.{Bay as PlainBay}
use Rattle.fj_bay.specs.Jobs.{Job as PlainJob, Answer as PlainAnswer}
use Rattle.fj_bay.specs.Meaning.{bay_meaning}
use Rattle.fj_bay.specs.declared.bay.Bay.{Bay}
use Rattle.fj_bay.specs.declared.job.Job.{Job}
use Rattle.fj_bay.specs.declared.job.Answer.{Answer}
use Rattle.fj_bay.proofs.Behind.{behind_is}
use Rattle.fj_meaning_jobs.specs.Both.{Both}
use Rattle.fj_meaning_jobs.specs.Core.{Connected, has_name}
use Rattle.fj_run_units.specs.Having.{Differ}
use Rattle.fj_run_units.specs.Names.{stands}
use Rattle.fj_run_units.specs.Units.{has_slot, same_slot}
use Rattle.fj_run_units.proofs.Files.{bytes_same}
use Rattle.fj_run_end.specs.Closing.{OthersRun}
use Rattle.fj_run_end.specs.Fitting.{AllOut, FitUnits, HasItsOwn, HaveTheirOwn}
use Rattle.fj_run_end.specs.Holding.{name_at, HoldUnits}
use Rattle.fj_run_end.specs.Remains.{IsWhatRemains}
use Rattle.fj_run_end.specs.declared.remains.Remains.{Remains}
use Rattle.fj_run_end.proofs.Desking.{either, some_in, with_both}
use Rattle.fj_run_end.proofs.Stopped.{linked_name, left_so, stopped_at}

-- ---- units at slots of their own

none_at : (us : List Connected) (at : ℕ) → has_slot us at ≡ false → name_at us at ≡ None
none_at [] at e = refl
none_at (u ∷ us) at e =
    let both = either (u.slot == at) (has_slot us at) e in
    ap (λ b. if b then Some u.name else name_at us at) both.0 ∙ none_at us at both.1

first_at : (u : Connected) (us : List Connected) → name_at (u ∷ us) u.slot ≡ Some u.name
first_at u us = elim (eqb_tells u.slot u.slot) [
  | inl same ↦ ap (λ b. if b then Some u.name else name_at us u.slot) same.0
  | inr other ↦ absurd (other.1 refl)
]

later_at : (u : Connected) (us : List Connected) (at : ℕ) (name : List ℕ) → has_slot us u.slot ≡ false → name_at us at ≡ Some name → name_at (u ∷ us) at ≡ Some name
later_at u us at name apart e = elim (eqb_tells u.slot at) [
  | inl same ↦ absurd (let z : None ≡ Some name = sym (none_at us u.slot apart) ∙ ap (name_at us) same.1 ∙ e in cc)
  | inr other ↦ ap (λ b. if b then Some u.name else name_at us at) other.0 ∙ e
]

there : {F : Type 0} → (o : Option (Linked F)) (name : List ℕ) → linked_name o ≡ Some name → (c : Linked F) × (o ≡ Some c) × (c.name ≡ name)
there None name e = absurd (cc)
there (Some c) name e = (c, refl, let z : Some c.name ≡ Some name = e in cc)

last_true : (b : Bool) → (b || true) ≡ true
last_true true = refl
last_true false = refl

module _ {F : Type 0} (told : F → Bool) (bytes : F → List ℕ) (count : F → ℕ) (rack : Rack (Bay F) (Job F) Answer) where
  abbrev m : Meaning (Bay F) (Job F) Answer PlainBay PlainJob PlainAnswer
  m = bay_meaning told bytes count

  module _ (all : List (Remains F)) (each : Both (IsWhatRemains m) rack.slots all) (units : List Connected) (hold : HoldUnits m rack units) (names : List (List ℕ)) where
    has_own : (u : Connected) → u.slot < length rack.slots → name_at units u.slot ≡ Some u.name → stands names u.name ≡ true → HasItsOwn count names all u
    has_own u within at out =
        let slot = slice_get_inside rack.slots u.slot within in
        let it = with_both told bytes count rack.slots all each u.slot slot.0 slot.1 in
        let holds = hold.holds u.slot slot.0 slot.1 in
        let left = left_so told bytes count slot.0 it.0 holds.start holds.jobs it.2 holds.sound in
        let named = left.named ∙ holds.left left.number left.from left.within left.stopped ∙ at in
        let own = there it.0.connection u.name named in
        record {
          connection = own.0;
          stop = it.0.stop;
          here = it.1 ∙ ap (λ (o : Option (Linked F)). Some (let r : Remains F = record { connection = o; stop = it.0.stop } in r)) own.1;
          named = own.2;
          out = out;
          counts = left.counts own.0 own.1;
        }

    have_own : (us : List Connected) → ((at : ℕ) (name : List ℕ) → name_at us at ≡ Some name → name_at units at ≡ Some name) → All (λ (u : Connected). u.slot < length rack.slots) us
        → Differ same_slot us → AllOut names us → HaveTheirOwn count names all us
    have_own [] find within apart out = tt
    have_own (u ∷ us) find within apart out = (
      has_own u (All-head (λ (v : Connected). v.slot < length rack.slots) u us within) (find u.slot u.name (first_at u us)) (out.0 u.name (ap (λ b. b || has_name us u.name) (bytes_same u.name u.name refl))),
      apart.0,
      out.1.0,
      have_own us (λ at name e. find at name (later_at u us at name apart.0 e)) (All-tail (λ (v : Connected). v.slot < length rack.slots) u us within) apart.1
          ((λ name e. out.0 name (ap (λ b. bytes_eq name u.name || b) e ∙ last_true (bytes_eq name u.name))), out.1.1),
    )

  pub units_own : (all : List (Remains F)) → Both (IsWhatRemains m) rack.slots all → (names : List (List ℕ)) (units : List Connected) → FitUnits m rack names units → HaveTheirOwn count names all units
  units_own all each names units fit = have_own all each units fit.held names units (λ at name e. e) fit.held.within fit.held.apart fit.out

  -- a slot that stopped has a connection
  pub others_run : (units : List Connected) → HoldUnits m rack units → OthersRun units rack.slots
  others_run units hold at l here none = by l.halt refl
    where
      by : (o : Option Halt) → l.halt ≡ o → o ≡ None
      by None e = refl
      by (Some h) e =
          let holds = hold.holds at l here in
          let bay = some_in l.home (holds.sound.counted.at_home (ap is_some e)) in
          let stop = stopped_at told bytes count l holds.start holds.jobs h bay.0 holds.sound e bay.1 in
          let within = holds.sound.counted.within in
          let long : length l.jobs ≡ length holds.jobs = sym (length-map l.jobs m.task) ∙ ap length holds.sound.jobs ∙ length-map holds.jobs Some in
          let name = holds.left l.done (omega arith) (omega (arith, within, long)) (λ halted. refl) ∙ none_at units at none in
          let full = ap (λ (b : PlainBay). b.connection) (sym (behind_is m refl holds.start (take l.done holds.jobs))) ∙ stop.spoilt.full in
          absurd (let z : None ≡ Some stop.spoilt.before.name = sym name ∙ ap (option_map (λ (c : Connection). c.name)) full in cc)
