use Rattle.std.proofs.Common.{◌≡◌, ◌≤◌, sym, arith}
use Rattle.fj_store.proofs.PlaceLemmas.{other_var, below_first, from_first}
use Rattle.fj_store.proofs.run.Run.holds.Goals as goal

pub returns-then-place-self : goal.returns-then-place-self
returns-then-place-self c = sym (other_var c.args.self.var c.args.self.first c.args.self.count c.args.place c.if-place-self.true)

pub returns-then-place-self-2 : goal.returns-then-place-self-2
returns-then-place-self-2 c = sym (below_first c.args.self.var c.args.self.first c.args.self.count c.args.place c.if-place-self-2.true)

pub returns : goal.returns
returns c =
    let same : c.args.place.var ≡ c.args.self.var = omega arith in
    let high : c.args.self.first ≤ c.args.place.index = omega arith in
    sym (from_first c.args.self.var c.args.self.first c.args.self.count c.args.place same high)
