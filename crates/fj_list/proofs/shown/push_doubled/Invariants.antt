use Rattle.std.proofs.Common.{◌≡◌, ◌++◌, ◌≤◌, length, take, drop}
use Rattle.fj_list.specs.ListText.{doubled}
use Rattle.fj_list.proofs.shown.push_doubled.Given as goal

abbrev pub invariant-loop-i : goal.invariant-loop-i
invariant-loop-i l = record {
  within : l.start ≤ l.i;
  inside : l.start ≤ length l.characters;
  kept : take (length l.initial.out) l.out ≡ l.initial.out;
  written : l.out ++ drop l.start (take l.i l.characters) ≡ l.initial.out ++ doubled l.mark (take l.i l.characters);
}
