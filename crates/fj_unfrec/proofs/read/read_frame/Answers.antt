use Rattle.std.proofs.Common.{◌≡◌, ◌+◌, ◌-◌, ◌≤◌, length, take, drop, Some, sym, ap, ◌∙◌, arith}
use Rattle.std.proofs.lemmas.List.{length-drop, length-take-le}
use Rattle.std.specs.Int.{w32, to_le_bytes}
use Rattle.fj_unfrec.specs.Frames.{frame}
use Rattle.fj_unfrec.proofs.ReadLaws.{tail_read, body_read, found, none_other, at_broken, at_long, at_frame, holds}
use Rattle.fj_unfrec.proofs.read.read_frame.Goals as goal
use Rattle.fj_unfrec.proofs.read.read_frame.Goals.{Else-again-width}

pub returns-then-again-width-clause-answer : goal.returns-then-again-width-clause-answer
returns-then-again-width-clause-answer g c = λ t.
    let head = c.in_ok-width.ensures in
    let tail = tail_read _ _ _ c.args.at c.in_ok-width.width c.from-long.result (head.same t) c.from-long.ensures (c.in_ok-again.ensures.length (head.telling.0 t)) in
    at_broken _ c.args.at c.args.limit (omega (arith, c.len.ensures.bytes t)) (none_other _ c.in_ok-width.width c.in_ok-again.again (omega arith) (omega arith) c.if-again-width.true (head.length t) tail)

-- the frame, where both lengths are equal
frame_is : (g : _) (c : Else-again-width g) → g.F.FileStore.tells c.args.file.now
    → frame (drop c.args.at (g.F.FileStore.bytes c.args.file.now))
    ≡ Some (take c.in_ok-width.width (drop 4 (drop c.args.at (g.F.FileStore.bytes c.args.file.now))), drop (c.in_ok-width.width + 8) (drop c.args.at (g.F.FileStore.bytes c.args.file.now)))
frame_is g c = λ t.
    let head = c.in_ok-width.ensures in
    let bytes = g.F.FileStore.bytes c.args.file.now in
    let tail = tail_read _ _ _ c.args.at c.in_ok-width.width c.from-long.result (head.same t) c.from-long.ensures (c.in_ok-again.ensures.length (head.telling.0 t)) in
    let fits : c.in_ok-width.width + 8 ≤ length (drop c.args.at bytes) = omega (arith, c.len.ensures.bytes t, length-drop c.args.at bytes, c.from-long.ensures) in
    found _ c.in_ok-width.width (omega arith) fits (head.length t) (ap (to_le_bytes w32) (sym c.if-again-width.false) ∙ tail)

-- the length of its body
width_is : (g : _) (c : Else-again-width g) → g.F.FileStore.tells c.args.file.now → length (take c.in_ok-width.width (drop 4 (drop c.args.at (g.F.FileStore.bytes c.args.file.now)))) ≡ c.in_ok-width.width
width_is g c = λ t.
    let bytes = g.F.FileStore.bytes c.args.file.now in
    length-take-le c.in_ok-width.width (drop 4 (drop c.args.at bytes))
    (omega (arith, c.len.ensures.bytes t, length-drop c.args.at bytes, length-drop 4 (drop c.args.at bytes), c.from-long.ensures))

pub returns-then-width-limit-clause-answer : goal.returns-then-width-limit-clause-answer
returns-then-width-limit-clause-answer g c = λ t.
    let at = (goal.at.returns-then-width-limit-clause-answer g c).Else-again-width in
    at_long _ _ _ c.args.at c.args.limit (omega (arith, c.len.ensures.bytes t)) (frame_is g at t) (omega (arith, width_is g at t))

pub returns-clause-answer : goal.returns-clause-answer
returns-clause-answer g c = λ t.
    let at = (goal.at.returns-clause-answer g c).Else-again-width in
    let bytes = g.F.FileStore.bytes c.args.file.now in
    let behind : length bytes - length (drop (c.in_ok-width.width + 8) (drop c.args.at bytes)) ≡ c.args.at + 8 + c.from-long.result =
    omega (arith, c.len.ensures.bytes t, length-drop c.args.at bytes, length-drop (c.in_ok-width.width + 8) (drop c.args.at bytes), c.from-long.ensures) in
    at_frame _ _ _ c.args.at c.args.limit _ (omega (arith, c.len.ensures.bytes t)) (frame_is g at t) (omega (arith, width_is g at t)) behind

pub returns-clause-text : goal.returns-clause-text
returns-clause-text g c = λ t.
    let head = c.in_ok-width.ensures in
    let again = c.in_ok-again.ensures in
    let body = body_read _ _ _ _ c.args.at c.in_ok-width.width c.from-long.result (again.same (head.telling.0 t) ∙ head.same t) c.from-long.ensures (c.in_ok-read_span.ensures.bytes (again.telling.0 (head.telling.0 t))) c.clear.ensures in
    holds _ _ _ _ c.args.at 0 (frame_is g (goal.at.returns-clause-text g c).Else-again-width t) body
