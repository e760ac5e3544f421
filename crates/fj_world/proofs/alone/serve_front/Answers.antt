use Rattle.std.proofs.Common.{◌≡◌, length, Some, IfErr, slice_get, set, sym, ap, ◌∙◌, subst, arith}
use Rattle.std.proofs.lemmas.Grind.{common_steps}
use Rattle.std.proofs.lemmas.List.{length-set}
use Rattle.fj_slot.specs.Ledger.{with_out, with_halt}
use Rattle.fj_world.proofs.Front.{front_serves}
use Rattle.fj_world.proofs.Places.{slice_get_in, same_some, set_same}
use Rattle.fj_world.proofs.alone.serve_front.Goals as goal

pub unreachable-requires : goal.unreachable-requires
unreachable-requires g c =
    let found = slice_get_in c.args.slots.now.slots c.args.at c.requires.within in
    let can = c.requires.begins found.0 found.1 in
    let none = c.begin.ensures.variant found.0 found.1 in
    grind (arith, common_steps)

pub end-requires-clause-within : goal.end-requires-clause-within
end-requires-clause-within g c =
    let found = slice_get_in c.args.slots.now.slots c.args.at c.requires.within in
    let out = c.in-Some.ensures.some found.0 found.1 in
    omega (arith, c.requires.within, ap length out, length-set c.args.slots.now.slots c.args.at (with_out found.0))

pub end-requires-clause-number : goal.end-requires-clause-number
end-requires-clause-number g c = λ l e.
    let found = slice_get_in c.args.slots.now.slots c.args.at c.requires.within in
    let out = c.in-Some.ensures.some found.0 found.1 in
    let is : with_out found.0 ≡ l = same_some (sym (set_same c.args.slots.now.slots c.args.at (with_out found.0) c.requires.within) ∙ sym (ap (λ xs. slice_get xs c.args.at) out) ∙ e) in
    c.in-Some.ensures.number found.0 found.1 ∙ ap (λ z. z.done) is

pub end-requires-clause-out : goal.end-requires-clause-out
end-requires-clause-out g c = λ l e.
    let found = slice_get_in c.args.slots.now.slots c.args.at c.requires.within in
    let out = c.in-Some.ensures.some found.0 found.1 in
    let is : with_out found.0 ≡ l = same_some (sym (set_same c.args.slots.now.slots c.args.at (with_out found.0) c.requires.within) ∙ sym (ap (λ xs. slice_get xs c.args.at) out) ∙ e) in
    ap (λ z. z.home) (sym is)

pub returns-clause-serves : goal.returns-clause-serves
returns-clause-serves g c = λ l e.
    let m = g.S.Gear.Engine.meaning in
    let out = c.in-Some.ensures.some l e in
    let there : slice_get c.begin.new.self.slots c.args.at ≡ Some (with_out l) = ap (λ xs. slice_get xs c.args.at) out ∙ set_same c.args.slots.now.slots c.args.at (with_out l) c.requires.within in
    let halted = subst (λ n. IfErr c.perform-got.result (λ stop. c.end.new.self.slots ≡ set c.begin.new.self.slots c.args.at
    (with_halt (with_out l) c.perform-got.new.self (record { stop = stop; before = n; after = m.faults c.perform-got.new.self })))) c.faults-before.ensures (c.end.ensures.err (with_out l) there) in
    front_serves m c.args.slots.now c.begin.new.self c.end.new.self c.args.at l
    c.in-Some.out.engine c.perform-got.new.self c.in-Some.out.job c.perform-got.new.job c.perform-got.result
    e out (c.requires.begins l e) (c.in-Some.ensures.engine l e) (c.in-Some.ensures.job l e)
    c.perform-got.ensures.serves c.perform-got.ensures.cause (c.end.ensures.ok (with_out l) there) halted
