use Rattle.std.proofs.Common.{◌≢◌, ◌-◌, ◌<◌, length, get_or, drop, length-drop, ◌∙◌, arith}
use Rattle.std.proofs.lemmas.List.{take_all}
use Rattle.fj_edit_in.proofs.Trimmed.{drop_is_trimmed}
use Rattle.fj_edit_in.proofs.trim.skip_blanks.Goals as goal
use Rattle.fj_edit_in.proofs.trim.skip_blanks.Goals.{then-loop-start-test+else-chars-start-eq32, else-loop-start-test}

pub returns : goal.returns
returns c =
    let end : c.loop-start.start < length c.args.chars.now → get_or c.args.chars.now c.loop-start.start 0 ≢ 32 =
    elim c.loop-start-test.branch [ then-loop-start-test+else-chars-start-eq32 w ↦ λ h. w.if-chars-start-eq32.false | else-loop-start-test w ↦ λ h. absurd (omega arith) ] in
    take_all (length c.args.chars.now - c.loop-start.start) (drop c.loop-start.start c.args.chars.now) (simp length-drop (omega arith))
    ∙ drop_is_trimmed c.args.chars.now c.loop-start.start c.loop-start.invariant.within c.loop-start.invariant.blanks end
