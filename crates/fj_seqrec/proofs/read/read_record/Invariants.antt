use Rattle.std.proofs.Common.{◌-◌, ◌≡◌, ◌+◌, ◌≤◌, ◌++◌, length, drop, ◌↔◌}
use Rattle.fj_seqrec.proofs.Positions.{line_feed_place}
use Rattle.fj_seqrec.proofs.read.read_record.Given as goal

abbrev pub invariant-reading : goal.invariant-reading
invariant-reading g l =
    let tells = g.F.FileStore.tells in
    let bytes = g.F.FileStore.bytes in
    record {
      within : l.from ≤ l.len;
      place : l.at + length l.into ≡ l.from;
      short : length l.into ≤ l.limit + 1;
      telling : tells l.fn.file ↔ tells l.file;
      same : tells l.fn.file → bytes l.file ≡ bytes l.fn.file;
      rest : tells l.fn.file → drop l.at (bytes l.fn.file) ≡ l.into ++ drop l.from (bytes l.fn.file);
      none : tells l.fn.file → line_feed_place l.into ≡ length l.into;
      size : g.F.FileStore.size l.file ≡ g.F.FileStore.size l.fn.file;
      later : g.F.FileStore.count l.fn.file ≤ g.F.FileStore.count l.file;
    }

abbrev pub decreases-reading : goal.decreases-reading
decreases-reading g l = l.len - l.from
