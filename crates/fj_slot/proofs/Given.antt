-- How many jobs a slot was given.
use Rattle.std.proofs.Common.{◌≡◌, length, sym, ◌∙◌}
use Rattle.std.proofs.lemmas.List.{length-map}
use Rattle.std.specs.Vec.{vec_len}
use Rattle.fj_slot.specs.Slot.{given_jobs}
use Rattle.fj_slot.specs.declared.slot.Slot.TheInside.{Inside}

pub length-given_jobs : {E J A S T R : Type 0} → (s : Inside E J A S T R) → length (given_jobs s) ≡ vec_len s.given
length-given_jobs s = length-map s.given.items (λ g. g.value) ∙ sym s.given.ok.0
