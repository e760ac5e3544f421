use Rattle.std.proofs.Common.{◌≡◌, ℕ, ◌-◌, ◌≤◌, List, length, take, drop, sym, ap, ◌∙◌, arith}
use Rattle.std.proofs.lemmas.List.{length-take-le}
use Rattle.std.specs.Int.{w32, to_le_bytes}
use Rattle.fj_unfrec.proofs.ReadLaws.{start_found, start_short, start_cut, start_other, four_before, last_four}
use Rattle.fj_unfrec.proofs.backspace.backspace_frame.Goals as goal
use Rattle.fj_unfrec.proofs.backspace.backspace_frame.Goals.{In_ok-width, In_ok-again}

-- the bytes before the place are as many as it says
before : (bytes : List ℕ) (at len size : ℕ) → at ≤ size → len ≡ size → len ≡ length bytes → length (take at bytes) ≡ at
before bytes at len size within told is = length-take-le at bytes (omega arith)

-- the length that they end with
tail_is : (g : _) (c : In_ok-width g) → g.F.FileStore.tells c.args.file.now
    → to_le_bytes w32 c.in_ok-width.width ≡ drop (length (take c.args.at (g.F.FileStore.bytes c.args.file.now)) - 4) (take c.args.at (g.F.FileStore.bytes c.args.file.now))
tail_is g c = λ t.
    c.in_ok-width.ensures.length t ∙ sym (last_four _ c.args.at (omega arith) (omega (arith, c.len.ensures.bytes t, c.len.ensures.size)))

-- the length that the frame would begin with
head_is : (g : _) (c : In_ok-again g) → g.F.FileStore.tells c.args.file.now
    → to_le_bytes w32 c.in_ok-again.again ≡ take 4 (drop (c.args.at - 8 - c.from-long.result) (take c.args.at (g.F.FileStore.bytes c.args.file.now)))
head_is g c = λ t.
    let head = c.in_ok-width.ensures in
    c.in_ok-again.ensures.length (head.telling.0 t) ∙ ap (λ b. take 4 (drop (c.args.at - 8 - c.from-long.result) b)) (head.same t)
    ∙ sym (four_before _ c.args.at (c.args.at - 8 - c.from-long.result) (omega arith))

pub returns-then-at-lt8-clause-start : goal.returns-then-at-lt8-clause-start
returns-then-at-lt8-clause-start g c = λ t.
    let long = before _ c.args.at _ _ c.requires c.len.ensures.size (c.len.ensures.bytes t) in
    start_short (take c.args.at (g.F.FileStore.bytes c.args.file.now)) (omega (arith, long)) (omega (arith, long))

pub returns-then-at-long-clause-start : goal.returns-then-at-long-clause-start
returns-then-at-long-clause-start g c = λ t.
    let long = before _ c.args.at _ _ c.requires c.len.ensures.size (c.len.ensures.bytes t) in
    let at = (goal.at.returns-then-at-long-clause-start g c).In_ok-width in
    start_cut (take c.args.at (g.F.FileStore.bytes c.args.file.now)) c.in_ok-width.width (omega (arith, long)) (omega arith) (omega (arith, long, c.from-long.ensures)) (tail_is g at t)

pub returns-then-again-width-clause-start : goal.returns-then-again-width-clause-start
returns-then-again-width-clause-start g c = λ t.
    let long = before _ c.args.at _ _ c.requires c.len.ensures.size (c.len.ensures.bytes t) in
    let at = goal.at.returns-then-again-width-clause-start g c in
    start_other (take c.args.at (g.F.FileStore.bytes c.args.file.now)) c.in_ok-width.width c.in_ok-again.again _ (omega (arith, long)) (omega arith) (omega arith) c.if-again-width.true (omega (arith, long, c.from-long.ensures)) (tail_is g at.In_ok-width t) (head_is g at.In_ok-again t)

pub returns-clause-start : goal.returns-clause-start
returns-clause-start g c = λ t.
    let long = before _ c.args.at _ _ c.requires c.len.ensures.size (c.len.ensures.bytes t) in
    let at = goal.at.returns-clause-start g c in
    start_found (take c.args.at (g.F.FileStore.bytes c.args.file.now)) c.in_ok-width.width _ (omega arith) (omega (arith, long, c.from-long.ensures)) (tail_is g at.In_ok-width t) (ap (to_le_bytes w32) (sym c.if-again-width.false) ∙ head_is g at.In_ok-again t)
