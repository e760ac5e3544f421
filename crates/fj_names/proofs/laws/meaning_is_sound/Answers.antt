use Rattle.fj_names.proofs.NamesSound.{groups_declared, names_apart}
use Rattle.fj_names.proofs.ScopeSound.{empty_sound, declared_sound, grouped_sound}
use Rattle.fj_names.proofs.StatementSound.{meaning_sound}
use Rattle.fj_names.proofs.laws.meaning_is_sound.Goals as goal

pub returns : goal.returns
returns c = record { empty = empty_sound; declared = declared_sound; grouped = grouped_sound; apart = names_apart; meaning = meaning_sound; groups = groups_declared }
