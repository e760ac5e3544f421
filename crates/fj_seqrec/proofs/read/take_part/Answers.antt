use Rattle.std.proofs.Common.{◌≡◌, ℕ, List, length, take, drop, ap, ◌∙◌}
use Rattle.fj_seqrec.proofs.ReadLaws.{part_of_front}
use Rattle.fj_seqrec.proofs.read.take_part.Goals as goal

pub returns-clause-part : goal.returns-clause-part
returns-clause-part g c = λ t.
    let filled = c.in_ok-fill.ensures in
    let hand = c.at_hand-hand.result.now in
    let bytes = g.F.FileStore.bytes c.args.file.now in
    let is : hand ≡ take (length hand) (drop c.args.from bytes) = c.at_hand-hand.ensures.bytes (filled.telling.0 t) ∙ ap (λ (held : List ℕ). take (length hand) (drop c.args.from held)) (filled.same t) in
    part_of_front (drop c.args.from bytes) hand c.args.into.now c.take_line.new.into c.in_ok-take_line.field-0 is c.in_ok-take_line.ensures.part
