use Rattle.std.proofs.Common.{◌≡◌, List, [], ◌∷◌, map, None, refl, ap}
use Rattle.std.specs.Prelude.{if◌then◌else◌}
use Rattle.fj_meaning.specs.State.{Unit, Entry}
use Rattle.fj_meaning.specs.Telling.{ends_halt}
use Rattle.fj_meaning.specs.UnitLaws.{joined}
use Rattle.fj_meaning.proofs.unit_laws.telling_changes_no_file.Goals as goal

same : (told : List Entry) (us : List Unit) → map joined (map (λ (u : Unit). record u { halt = if ends_halt told u then None else u.halt }) us) ≡ map joined us
same told [] = refl
same told (u ∷ us) = ap (λ l. joined u ∷ l) (same told us)

pub returns : goal.returns
returns c variables line told s = (same told s.units, refl, refl, refl)
