-- What many calls of a script, one after another, leave of it.
use Rattle.std.specs.Prelude.{◌≡◌, ℕ, zero, suc}

abbrev pub Led : {S : Type 0} → (S → S → Type 0) → ℕ → S → S → Type 0
Led leads zero first last = first ≡ last
Led {S} leads (suc n) first last = (before : S) × Led leads n first before × leads before last

-- so many calls, or none
abbrev pub LeadsTo : {S : Type 0} → (S → S → Type 0) → S → S → Type 0
LeadsTo leads first last = (n : ℕ) × Led leads n first last
