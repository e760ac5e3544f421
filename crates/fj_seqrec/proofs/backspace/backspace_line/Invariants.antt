use Rattle.std.proofs.Common.{◌≡◌, ◌-◌, ◌≤◌, ◌↔◌}
use Rattle.fj_seqrec.proofs.BackspaceLaws.{IsClear}
use Rattle.fj_seqrec.proofs.backspace.backspace_line.Given as goal

abbrev pub invariant-looking : goal.invariant-looking
invariant-looking g l =
    let tells = g.F.FileStore.tells in
    let bytes = g.F.FileStore.bytes in
    record {
      below : l.end ≤ l.at - 1;
      telling : tells l.fn.file ↔ tells l.file;
      same : tells l.fn.file → bytes l.file ≡ bytes l.fn.file;
      clear : tells l.fn.file → IsClear (bytes l.fn.file) l.end l.at;
      size : g.F.FileStore.size l.file ≡ g.F.FileStore.size l.fn.file;
      later : g.F.FileStore.count l.fn.file ≤ g.F.FileStore.count l.file;
    }

abbrev pub decreases-looking : goal.decreases-looking
decreases-looking g l = l.end
