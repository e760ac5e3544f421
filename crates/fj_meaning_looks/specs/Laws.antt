-- The laws of stretches, for every script that shows a runner and whatever looks.
use Rattle.std.specs.Prelude.{Bool}
use Rattle.fj_meaning.specs.Statement.{Stated}
use Rattle.fj_meaning_turns.specs.Laws.{plain_bays, Seen, shown}
use Rattle.fj_meaning_turns.specs.Run.{Run}
use Rattle.fj_meaning_looks.specs.Losing.{LossesFollow}
use Rattle.fj_meaning_looks.specs.Meeting.{NextLookIsBehind}
use Rattle.fj_meaning_looks.specs.Stretches.{StretchesBegin, StretchGoesOn, MarksGoOn, EndsAreWhole, AsksFollow}
use Rattle.fj_meaning_looks.specs.Worlds.{WorldsGoOn, WorldsEnd, StretchesLeaveResults}

abbrev pub StretchesGoOn : Type 0
StretchesGoOn = (s : Seen Run) (looks : Stated → Run → Bool) → StretchGoesOn plain_bays (shown s) looks

abbrev pub AllBegin : Type 0
AllBegin = (s : Seen Run) → StretchesBegin plain_bays (shown s)

abbrev pub LooksArePut : Type 0
LooksArePut = (s : Seen Run) (looks : Stated → Run → Bool) → MarksGoOn plain_bays (shown s) looks

abbrev pub StretchesAreOne : Type 0
StretchesAreOne = (s : Seen Run) (looks : Stated → Run → Bool) → EndsAreWhole plain_bays (shown s) looks

abbrev pub StretchesFollow : Type 0
StretchesFollow = (s : Seen Run) (looks : Stated → Run → Bool) → AsksFollow plain_bays (shown s) looks

abbrev pub WorldsAreServed : Type 0
WorldsAreServed = (s : Seen Run) (looks : Stated → Run → Bool) → WorldsGoOn plain_bays (shown s) looks × WorldsEnd plain_bays (shown s) looks

abbrev pub LooksAreMetOnce : Type 0
LooksAreMetOnce = (s : Seen Run) (looks : Stated → Run → Bool) → NextLookIsBehind plain_bays (shown s) looks

abbrev pub StretchesAreMeant : Type 0
StretchesAreMeant = (s : Seen Run) (looks : Stated → Run → Bool) → StretchesLeaveResults plain_bays (shown s) looks

abbrev pub LossesAreFollowed : Type 0
LossesAreFollowed = (s : Seen Run) (looks : Stated → Run → Bool) → LossesFollow plain_bays (shown s) looks
