use Rattle.std.proofs.Common.{◌≡◌, ℕ, List, length, take, drop, sym, ap, ◌∙◌, arith, refl}
use Rattle.std.proofs.lemmas.List.{length-take-le}
use Rattle.fj_span.proofs.PieceLaws.{piece_read}
use Rattle.fj_seqrec.proofs.ReadLaws.{part_of_front}
use Rattle.fj_seqrec.proofs.read.take_piece.Goals as goal

pub returns-clause-part : goal.returns-clause-part
returns-clause-part g c = λ t.
    let got = c.in_ok-count.ensures in
    let told = c.len.ensures in
    let count = c.in_ok-count.count in
    let piece = take count c.read_at.new.buf in
    let bytes = g.F.FileStore.bytes c.args.file.now in
    let long : length piece ≡ count = length-take-le count c.read_at.new.buf (omega (arith, got.amount, c.read_at.auto.buf)) in
    let front : piece ≡ take count (drop c.args.from bytes) = piece_read _ _ _ _ _ _ _ _ _ count refl refl told.size (told.bytes t) got.amount (got.bytes t) (omega arith) in
    let is : piece ≡ take (length piece) (drop c.args.from bytes) = front ∙ ap (λ (n : ℕ). take n (drop c.args.from bytes)) (sym long) in
    part_of_front (drop c.args.from bytes) piece c.args.into.now c.take_line.new.into c.in_ok-take_line.field-0 is c.in_ok-take_line.ensures.part
