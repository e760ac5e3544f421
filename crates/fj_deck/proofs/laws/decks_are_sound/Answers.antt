use Rattle.fj_deck.proofs.SoundLemmas.{sound_deck}
use Rattle.fj_deck.proofs.laws.decks_are_sound.Goals as goal

pub returns : goal.returns
returns c = sound_deck
