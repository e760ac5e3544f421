use denote.Param.Always.{mut_next}
use Rattle.std.proofs.Common.{◌≡◌, ℕ, Bool, false, refl, subst, arith, rules}
use Rattle.fj_outside.specs.Looks.{AreInVain, none, one_more}
use Rattle.fj_outside.proofs.gate.opens_within.Goals as goal

pub loop-init : goal.loop-init
loop-init g c = record { callable = search rules; looked = none }

pub returns-then-look : goal.returns-then-look
returns-then-look g c = (c.loop.counter, c.loop.look, c.look.new.self, omega arith, c.loop.invariant.looked, c.if-look.ensures)

pub loop-preserved : goal.loop-preserved
loop-preserved g c = record {
  callable = mut_next g.L.FnMut c.loop.look tt false c.look.new.self c.look.new.self c.if-look.ensures refl c.loop.invariant.callable;
  looked = one_more c.loop.invariant.looked c.if-look.ensures;
}

all_turns : {L : Type 0} {answers : L → Bool → L → Type 0} {first last : L} (n turns : ℕ) → n ≡ turns → AreInVain answers first n last → AreInVain answers first turns last
all_turns {answers = answers} {first = first} {last = last} n turns e looked = subst (λ (k : ℕ). AreInVain answers first k last) e looked

pub returns : goal.returns
returns g c = (c.loop.look, all_turns c.loop.counter c.args.turns (omega arith) c.loop.invariant.looked)
