use Rattle.std.proofs.Common.{◌-◌, ◌≡◌, ◌≤◌, ◌↔◌, max}
use Rattle.fj_span.specs.Change.{IsChanged}
use Rattle.fj_byterec.proofs.CopyLaws.{copied}
use Rattle.fj_byterec.proofs.fill.write_copies.Given as goal

abbrev pub invariant-filling : goal.invariant-filling
invariant-filling g l =
    let tells = g.F.FileStore.tells in
    let bytes = g.F.FileStore.bytes in
    record {
      above : l.from ≤ l.place;
      below : l.place ≤ l.to;
      telling : tells l.fn.file ↔ tells l.file;
      changed : tells l.fn.file → IsChanged (bytes l.fn.file) (copied (bytes l.fn.file) l.from l.to l.fill) l.place (bytes l.file);
      size : g.F.FileStore.size l.file ≡ max (g.F.FileStore.size l.fn.file) l.place;
      later : g.F.FileStore.count l.fn.file ≤ g.F.FileStore.count l.file;
    }

abbrev pub decreases-filling : goal.decreases-filling
decreases-filling g l = l.to - l.place
