use Rattle.std.proofs.Common.{◌≤◌, Some, filter, length, map, sym, ap, arith}
use Rattle.fj_meaning_looks.specs.Inquiring.{is_asked, question_of}
use Rattle.fj_run_pending.specs.Plain.{pending_of}
use Rattle.fj_run_script.proofs.AskedAbout.{drop_whole}
use Rattle.fj_run_script.proofs.looking.asked_among.Goals as goal

pub loop-at-init : goal.loop-at-init
loop-at-init c =
    let helds = c.args.helds.now in
    let low : length helds.items ≤ c.len-at.result = omega (arith, helds.ok) in
    record {
      within = omega (arith, helds.ok);
      found = sym (ap (λ hs. question_of (filter (is_asked (Some c.args.unit) c.args.id) (map pending_of hs))) (drop_whole helds.items c.len-at.result low));
    }
