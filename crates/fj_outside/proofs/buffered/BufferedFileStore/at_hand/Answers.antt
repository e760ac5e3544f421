use Rattle.std.proofs.Common.{◌≡◌, length, take, drop, subst, List, ℕ, sym}
use Rattle.fj_outside.proofs.WindowLaws.{lent_of}
use Rattle.fj_outside.proofs.buffered.BufferedFileStore.at_hand.Goals as goal

pub returns-clause-bytes : goal.returns-clause-bytes
returns-clause-bytes g c = λ t.
    let bytes = g.F.FileStore.bytes c.args.self.now.file in
    subst (λ (held : List ℕ). held ≡ take (length held) (drop c.args.at bytes)) (sym c.from.ensures) (lent_of bytes c.args.self.now.window c.args.at (c.args.self.now.of_file t))
