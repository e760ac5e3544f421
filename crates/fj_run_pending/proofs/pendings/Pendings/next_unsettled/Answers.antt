use Rattle.std.proofs.Common.{◌≡◌, subst}
use Rattle.std.specs.Prelude.{IfSome}
use Rattle.std.specs.Option.{option_map}
use Rattle.fj_meaning_turns.specs.Turns.{unsettled}
use Rattle.fj_run_pending.specs.Plain.{entries, held}
use Rattle.fj_run_pending.specs.Waits.{waited_of, IsPassed}
use Rattle.fj_run_pending.proofs.pendings.Pendings.next_unsettled.Goals as goal

pub returns-clause-slot : goal.returns-clause-slot
returns-clause-slot c =
    subst (λ hs. IsPassed c.args.whose (held hs) c.args.from → option_map (λ r. r.1) c.unsettled_in.result ≡ unsettled (waited_of c.args.whose (entries hs)) (held hs)) c.self.view_is c.unsettled_in.ensures.slot

pub returns-clause-passed : goal.returns-clause-passed
returns-clause-passed c =
    subst (λ hs. IsPassed c.args.whose (held hs) c.args.from → IfSome c.unsettled_in.result (λ r. IsPassed c.args.whose (held hs) r.0)) c.self.view_is c.unsettled_in.ensures.passed
