use Rattle.std.proofs.Common.{◌<◌, length}
use Rattle.fj_outside.proofs.HoldingLaws.{in_use_after}
use Rattle.fj_connect.proofs.Homes.{restored, too_long}
use Rattle.fj_connect.proofs.connection.opening.found.Goals as goal

pub give-requires : goal.give-requires
give-requires g c = λ t.
    let found = rw c.in-Ok-Some.field-0-is at (c.in-Ok-Some.ensures.some (c.take.ensures.telling.1 t)) in
    rw c.as_str-then-len-gt-LONGEST_FILE.ensures.text (in_use_after _ _ c.args.name.now (rw c.as_str.ensures.text at found.2))

pub returns-then-len-gt-LONGEST_FILE-clause-content : goal.returns-then-len-gt-LONGEST_FILE-clause-content
returns-then-len-gt-LONGEST_FILE-clause-content g c = λ t.
    let found = rw c.in-Ok-Some.field-0-is at (c.in-Ok-Some.ensures.some t) in
    let sound = rw c.in-Ok-Some.field-0-is at c.in-Ok-Some.ensures.sound in
    let long : 268435456 < length (g.D.File.FileStore.bytes c.in-Ok-Some.file) = rw (← c.len.ensures.bytes found.0) c.if-len-gt-LONGEST_FILE.true in
    record {
      found = tt;
      missing = tt;
      refused = (
        g.D.File.FileStore.bytes c.in-Ok-Some.file,
        rw c.as_str.ensures.text at found.1,
        too_long _ long,
        restored _ _ _ c.args.name.now (g.D.File.FileStore.bytes c.in-Ok-Some.file) (rw c.as_str.ensures.text at found.1) (c.requires t) (rw c.as_str.ensures.text at found.2)
            (rw (c.as_str-then-len-gt-LONGEST_FILE.ensures.text, sound) at (c.give.ensures.back (c.take.ensures.telling.0 t))),
      );
      stopped = tt;
    }
