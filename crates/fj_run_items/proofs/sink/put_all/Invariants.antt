use Rattle.std.proofs.Common.{◌≡◌, ◌≤◌, ◌++◌, List, ℕ, length, ◌↔◌}
use Rattle.fj_run_items.proofs.sink.put_all.Given as goal

abbrev pub invariant-handing : goal.invariant-handing
invariant-handing g l =
    let tells = g.W.Sink.tells in
    let taken = g.W.Sink.taken in
    record {
      telling : tells l.fn.out ↔ tells l.out;
      taken : tells l.fn.out → (part : List ℕ) × (l.piece ≡ part ++ l.rest) × (taken l.out ≡ taken l.fn.out ++ part);
      later : g.W.Sink.count l.fn.out ≤ g.W.Sink.count l.out;
    }

abbrev pub decreases-handing : goal.decreases-handing
decreases-handing g l = length l.rest
