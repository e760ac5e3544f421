use Rattle.std.proofs.Common.{◌≡◌, ◌≤◌, All, length, take, flat_map}
use Rattle.fj_list.specs.Listing.{behind_blank, IsNoText}
use Rattle.fj_list.proofs.row.write_integers.Given as goal

abbrev pub invariant-loop-i : goal.invariant-loop-i
invariant-loop-i l = record {
  within : l.at ≤ length l.row;
  size : length l.row ≡ length l.initial.row;
  written : take l.at l.row ≡ flat_map (behind_blank l.modes) (take l.i l.values);
  plain : All IsNoText (take l.i l.values);
}
