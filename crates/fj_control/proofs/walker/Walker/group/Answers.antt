use Rattle.std.proofs.Common.{suc, ◌≡◌, ◌≤◌, ◌+◌, ◌-◌, ◌*◌, ◌++◌, subst, arith}
use Rattle.fj_format.specs.Unfolding.{repeated, pass, work}
use Rattle.fj_control.specs.Walker.{rest_of, work_of}
use Rattle.fj_control.proofs.Walks.{rest_entered, work_entered, sound_entered}
use Rattle.fj_control.proofs.walker.Walker.group.Goals as goal

pub returns-then-r-gt0-clause-rest : goal.returns-then-r-gt0-clause-rest
returns-then-r-gt0-clause-rest c =
    let e : suc (c.args.r - 1) ≡ c.args.r = omega arith in
    subst (λ n. rest_of c.enter.new.self ≡ repeated n (pass c.args.items.now) ++ rest_of c.args.self.now) e
    (rest_entered c.args.self.now c.enter.new.self c.args.items (c.args.r - 1) c.requires.times c.enter.ensures.times c.enter.ensures.top c.enter.ensures.outer)

pub returns-then-r-gt0-clause-work : goal.returns-then-r-gt0-clause-work
returns-then-r-gt0-clause-work c =
    let e : suc (c.args.r - 1) ≡ c.args.r = omega arith in
    subst (λ n. work_of c.enter.new.self ≤ n * (work c.args.items.now + 1) + work_of c.args.self.now) e
    (omega (arith, work_entered c.args.self.now c.enter.new.self c.args.items (c.args.r - 1) c.enter.ensures.top c.enter.ensures.outer))

pub returns-then-r-gt0-clause-sound : goal.returns-then-r-gt0-clause-sound
returns-then-r-gt0-clause-sound c =
    sound_entered c.args.self.now c.enter.new.self c.args.items (c.args.r - 1) c.requires.sound c.requires.room c.enter.ensures.top c.enter.ensures.outer c.enter.ensures.room
