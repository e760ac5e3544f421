use Rattle.std.proofs.Common.{Some, ap, ◌∙◌}
use Rattle.fj_bay.specs.Plain.{reply_of}
use Rattle.fj_meaning_jobs.specs.Desks.{Outcome}
use Rattle.fj_meaning_turns.specs.Run.{Run}
use Rattle.fj_meaning_turns.specs.Turns.{told_of}
use Rattle.fj_run_script.specs.Machine.{rest_of, run_at, stage_at}
use Rattle.fj_run_script.proofs.NextAsks.{run_known, stands_run}
use Rattle.fj_run_script.proofs.machine.Machine.take_answer.Goals as goal

pub returns-clause-told : goal.returns-clause-told
returns-clause-told g c = λ files r task known t.
    let told = g.F.FileStore.told in
    let bytes = g.F.FileStore.bytes in
    let m = c.args.self.now in
    let it : Outcome = (task, reply_of c.args.answer) in
    let k = run_known (run_at files m) (stage_at told bytes files m) r known in
    stands_run told bytes m.deck.variables (rest_of m) files c.answer.new.self (told_of (run_at files m k.0) it) (c.answer.ensures.told m.deck.variables (rest_of m) files task k.0 t k.1) ∙ ap (λ (x : Run). Some (told_of x it)) k.2
