use Rattle.std.proofs.Common.{◌≡◌, ◌<◌, length, get_or, subst, sym, arith}
use Rattle.std.proofs.lemmas.List.{get_or_read}
use Rattle.fj_run_script.proofs.Spending.{sum_fewer}
use Rattle.fj_run_script.proofs.tally.Tally.settled.Goals as goal

pub index-owed-requires : goal.index-owed-requires
index-owed-requires c =
    let s = c.args.self.now in
    let may = s.settles c.in-Settling.slot c.in-Settling.is in
    omega (arith, may.1, s.sixteen, s.owed.ok.0)

pub returns-clause-sum : goal.returns-clause-sum
returns-clause-sum c =
    let s = c.args.self.now in
    let slot = c.in-Settling.slot in
    let may = s.settles slot c.in-Settling.is in
    let n = c.index-owed.result.now in
    let within : slot < length s.owed.items = omega (arith, may.1, s.sixteen) in
    let read : n ≡ get_or s.owed.items slot 0 = get_or_read s.owed.items slot n within c.index-owed.ensures 0 in
    sum_fewer s.owed.items slot n within read (subst (λ k. 0 < k) (sym read) may.3)
