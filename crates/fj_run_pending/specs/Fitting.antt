-- When a transfer that is entered fits.
use Rattle.std.specs.Prelude.{◌≡◌, ◌<◌, List, All}
use Rattle.fj_meaning_jobs.specs.Desks.{most_slots}
use Rattle.fj_run_pending.specs.declared.held.Held.{Held}

-- A transfer comes behind the pending ones.
pub record IsNext (hs : List Held) (h : Held) : Type 0 where
  -- they have lower identifiers
  pub id : All (λ (x : Held). x.tag.0 < h.tag.0) hs
  -- those of its slot have jobs of lower numbers
  pub number : All (λ (x : Held). x.slot ≡ h.slot → x.number < h.number) hs
  pub slot : h.slot < most_slots
