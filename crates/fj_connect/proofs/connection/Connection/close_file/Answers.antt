use Rattle.std.proofs.lemmas.Result.{on_ok_weaker}
use Rattle.fj_outside.proofs.HoldingLaws.{exists_given, free_given, files_given}
use Rattle.fj_connect.proofs.Homes.{gone}
use Rattle.fj_connect.proofs.connection.Connection.close_file.Goals as goal

pub remove-requires-clause-exists : goal.remove-requires-clause-exists
remove-requires-clause-exists g c = λ t.
    rw c.as_str-2.ensures.text (exists_given _ _ _ _ _ (rw (c.as_str.ensures.text, c.into_inner.ensures) at (c.give.ensures.back (c.give.ensures.telling.1 t))))

pub remove-requires-clause-free : goal.remove-requires-clause-free
remove-requires-clause-free g c = λ t.
    rw c.as_str-2.ensures.text (free_given _ _ _ _ _ (rw (c.as_str.ensures.text, c.into_inner.ensures) at (c.give.ensures.back (c.give.ensures.telling.1 t))))

pub returns-then-keep-clause-files : goal.returns-then-keep-clause-files
returns-then-keep-clause-files g c = λ t. rw (← c.self.view_is, c.if-keep.true) (files_given _ _ _ _ _ (rw (c.as_str.ensures.text, c.into_inner.ensures) at (c.give.ensures.back t)))

pub returns-clause-files : goal.returns-clause-files
returns-clause-files g c = λ t.
    let back = rw (c.as_str.ensures.text, c.into_inner.ensures) at (c.give.ensures.back t) in
    rw (← c.self.view_is, c.if-keep.false) (on_ok_weaker c.remove.result (λ removed. gone _ _ _ _ _ _ back (rw c.as_str-2.ensures.text at removed)) (c.remove.ensures.ok (c.give.ensures.telling.0 t)))
