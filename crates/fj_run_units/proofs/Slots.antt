-- Units at slots of their own.
use Rattle.std.proofs.Common.{◌≡◌, ℕ, zero, suc, ◌<◌, ◌≤◌, ◌||◌, List, [], ◌∷◌, map, length, get_or, refl, sym, ap, ◌∙◌, arith}
use Rattle.std.specs.Prelude.{◌==◌}
use Rattle.std.proofs.Math.ListN.{set}
use Rattle.std.proofs.lemmas.List.{length-map}
use Rattle.fj_meaning_jobs.proofs.Apart.{Apart, Each, any_map, differs_any}
use Rattle.fj_meaning_jobs.proofs.Counting.{no_longer}
use Rattle.fj_meaning_jobs.specs.Core.{Connected as PlainConnected}
use Rattle.fj_meaning_jobs.specs.Desks.{most_slots}
use Rattle.fj_run_units.specs.Having.{Differ}
use Rattle.fj_run_units.specs.Units.{connected_of, has_slot, same_slot}
use Rattle.fj_run_units.specs.declared.connected.Connected.{Connected}

-- ---- a unit in place of another, at its slot

slot_kept : (at : ℕ) (us : List PlainConnected) (d new : PlainConnected) (slot : ℕ) → new.slot ≡ (get_or us at d).slot → has_slot (set us at new) slot ≡ has_slot us slot
slot_kept at [] d new slot e = refl
slot_kept zero (u ∷ us) d new slot e = ap (λ n. (n == slot) || has_slot us slot) e
slot_kept (suc at) (u ∷ us) d new slot e = ap (λ b. (u.slot == slot) || b) (slot_kept at us d new slot e)

pub slots_kept : (at : ℕ) (us : List PlainConnected) (d new : PlainConnected) → new.slot ≡ (get_or us at d).slot → Differ same_slot us → Differ same_slot (set us at new)
slots_kept at [] d new e h = tt
slots_kept zero (u ∷ us) d new e h = (ap (has_slot us) e ∙ h.0, h.1)
slots_kept (suc at) (u ∷ us) d new e h = (slot_kept at us d new u.slot e ∙ h.0, slots_kept at us d new e h.1)

-- ---- there are no more than slots

placed : (xs : List Connected) → Each (λ n. n < most_slots) (map (λ (u : Connected). u.slot) xs)
placed [] = tt
placed (u ∷ xs) = (u.place, placed xs)

apart : (xs : List Connected) → Differ same_slot (map connected_of xs) → Apart (λ n. n) (map (λ (u : Connected). u.slot) xs)
apart [] h = tt
apart (u ∷ xs) h = (
  differs_any (λ n. n) u.slot (map (λ (v : Connected). v.slot) xs)
      (any_map (λ (v : Connected). v.slot) (λ n. n == u.slot) xs ∙ sym (any_map connected_of (λ (v : PlainConnected). v.slot == u.slot) xs) ∙ h.0),
  apart xs h.1,
)

pub few_units : (xs : List Connected) → Differ same_slot (map connected_of xs) → length (map connected_of xs) ≤ most_slots
few_units xs h =
    let few = no_longer most_slots (map (λ (u : Connected). u.slot) xs) (apart xs h) (placed xs) in
    omega (arith, few, length-map xs (λ (u : Connected). u.slot), length-map xs connected_of)
