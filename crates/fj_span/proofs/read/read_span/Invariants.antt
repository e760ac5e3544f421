use Rattle.std.proofs.Common.{◌-◌, ◌≡◌, ◌+◌, ◌≤◌, ◌++◌, length, take, drop, ◌↔◌}
use Rattle.fj_span.proofs.read.read_span.Given as goal

abbrev pub invariant-taking : goal.invariant-taking
invariant-taking g l =
    let tells = g.F.FileStore.tells in
    let bytes = g.F.FileStore.bytes in
    record {
      within : l.taken ≤ l.due;
      telling : tells l.fn.file ↔ tells l.file;
      same : tells l.fn.file → bytes l.file ≡ bytes l.fn.file;
      text : tells l.fn.file → l.into ≡ l.fn.into ++ take l.taken (drop l.at (bytes l.fn.file));
      longer : length l.into ≡ length l.fn.into + l.taken;
      size : g.F.FileStore.size l.file ≡ g.F.FileStore.size l.fn.file;
      later : g.F.FileStore.count l.fn.file ≤ g.F.FileStore.count l.file;
    }

abbrev pub decreases-taking : goal.decreases-taking
decreases-taking g l = l.due - l.taken
