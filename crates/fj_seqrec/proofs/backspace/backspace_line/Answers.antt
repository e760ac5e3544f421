use Rattle.std.proofs.Common.{◌≡◌, ◌+◌, ◌-◌, ◌*◌, ◌/◌, ◌≤◌, length, take, drop, sym, ◌∙◌, rules, arith}
use Rattle.std.proofs.lemmas.List.{take_all, length-take}
use Rattle.fj_span.proofs.PieceLaws.{piece_read}
use Rattle.fj_seqrec.proofs.BackspaceLaws.{start_is, start_found, clear_more}
use Rattle.fj_seqrec.proofs.backspace.backspace_line.Goals as goal
use Rattle.fj_seqrec.proofs.backspace.backspace_line.Goals.{In_ok-read_at}

-- what was read into the buffer is the file's piece before the end
part_read : (g : _) (c : In_ok-read_at g) → g.F.FileStore.tells c.args.file.now
    → (c.read_at.new.buf ≡ take (c.looking.end - (c.looking.end - 1) / 8192 * 8192) (drop ((c.looking.end - 1) / 8192 * 8192) (g.F.FileStore.bytes c.args.file.now)))
    × (length c.read_at.new.buf ≡ c.looking.end - (c.looking.end - 1) / 8192 * 8192)
part_read g c = λ t.
    let kept = c.looking.invariant in
    let got = c.in_ok-read_at.ensures in
    let told = c.len.ensures in
    let start = (c.looking.end - 1) / 8192 * 8192 in
    let width = c.looking.end - start in
    let long : length c.read_at.new.buf ≡ width = omega (arith, c.read_at.auto.buf, length-take width c.looking.piece, c.looking-test.array_long) in (
      sym (take_all width c.read_at.new.buf (omega arith))
          ∙ piece_read _ _ _ _ start _ _ _ _ width (kept.same t) kept.size told.size (told.bytes t) got.amount (got.bytes (kept.telling.0 t)) (omega (arith, got.amount, told.size, kept.size)),
      long,
    )

pub returns-in-Some-clause-start : goal.returns-in-Some-clause-start
returns-in-Some-clause-start g c = λ t.
    let kept = c.looking.invariant in
    let told = c.len.ensures in
    let start = (c.looking.end - 1) / 8192 * 8192 in
    let part = part_read g (goal.at.returns-in-Some-clause-start g c).In_ok-read_at t in
    start_found _ _ start (c.looking.end - start) c.looking.end c.args.at c.in-Some.place part.0 part.1 (omega arith) kept.below (omega (arith, told.bytes t, told.size)) (kept.clear t) c.in-Some.ensures

pub looking-preserved : goal.looking-preserved
looking-preserved g c =
    let kept = c.looking.invariant in
    let start = (c.looking.end - 1) / 8192 * 8192 in
    record {
      below = omega arith;
      telling = search rules;
      same = search rules;
      clear = λ t.
          let part = part_read g (goal.at.looking-preserved g c).In_ok-read_at t in
          clear_more _ _ start (c.looking.end - start) c.looking.end c.args.at part.0 part.1 (omega arith) (kept.clear t) c.in-None.ensures;
      size = search rules;
      later = search rules;
    }

pub returns-clause-start : goal.returns-clause-start
returns-clause-start g c = λ t.
    let kept = c.looking.invariant in
    let told = c.len.ensures in
    let none : c.looking.end ≡ 0 = omega arith in
    start_is _ c.args.at 0 (omega (arith, told.bytes t, told.size)) (omega arith) (λ k low high. kept.clear t k (omega arith) high) (λ some. absurd (omega arith))
