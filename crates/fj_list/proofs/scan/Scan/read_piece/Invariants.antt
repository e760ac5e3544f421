use Rattle.std.proofs.Common.{◌≡◌, ◌-◌, length, false, ℕ, List}
use Rattle.fj_list.specs.ListInput.{delimited, with_front}
use Rattle.fj_list.specs.Scan.{IsSound, ahead}
use Rattle.fj_list.proofs.scan.Scan.read_piece.Given as goal

abbrev pub invariant-pieces : goal.invariant-pieces
invariant-pieces l = record {
  sound : IsSound l.self;
  count : l.self.count ≡ l.fn.self.count;
  form : l.self.form ≡ l.fn.self.form;
  kept : l.self ≡ record l.fn.self { at = l.self.at; characters = l.self.characters };
  piece : (to_come : List (List ℕ)) → with_front l.self.characters (delimited l.mark false (ahead l.self to_come)) ≡ with_front l.fn.self.characters (delimited l.mark false (ahead l.fn.self to_come));
}

abbrev pub decreases-pieces : goal.decreases-pieces
decreases-pieces l = length l.self.line - l.self.at
