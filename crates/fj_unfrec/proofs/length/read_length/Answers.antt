use Rattle.std.proofs.Common.{◌≡◌, length, refl, sym, ◌∙◌, arith, rules}
use Rattle.std.proofs.lemmas.List.{take_all}
use Rattle.fj_span.proofs.PieceLaws.{piece_read}
use Rattle.fj_unfrec.proofs.length.read_length.Goals as goal

pub returns-clause-length : goal.returns-clause-length
returns-clause-length g c = λ t.
    let got = c.in_ok-read_at.ensures in
    let told = c.len.ensures in
    let long : length c.read_at.new.buf ≡ 4 = search rules in
    let piece = piece_read _ _ _ _ c.args.at _ _ _ _ 4 refl refl told.size (told.bytes t) got.amount (got.bytes t) (omega (arith, got.amount, c.requires)) in
    c.number_of.ensures ∙ sym (take_all 4 c.read_at.new.buf (omega arith)) ∙ piece
