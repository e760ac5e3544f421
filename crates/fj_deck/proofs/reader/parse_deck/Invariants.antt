use Rattle.std.proofs.Common.{◌≤◌, ◌+◌, length}
use Rattle.fj_deck.specs.Seen.{begun_of}
use Rattle.fj_deck.proofs.RunLemmas.{HasRead}
use Rattle.fj_deck.proofs.reader.parse_deck.Given as goal

abbrev pub decreases-reading : goal.decreases-reading
decreases-reading l = length l.rest

abbrev pub invariant-reading : goal.invariant-reading
invariant-reading l = record {
  read : HasRead l.text l.rest l.number (begun_of l.draft);
  small : l.number + length l.rest ≤ 4194305;
}
