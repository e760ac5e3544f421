use Rattle.std.proofs.Common.{◌≡◌, [], ◌∷◌, ◌++◌, ap, ◌∙◌}
use Rattle.fj_slot_tests.proofs.FreshSlots.{fresh_more}
use Rattle.fj_slot_tests.proofs.overlap.one_more.Goals as goal

pub returns-in-Ok-clause-new : goal.returns-in-Ok-clause-new
returns-in-Ok-clause-new c = fresh_more c.args.slots.slots c.push.new.self.slots c.args.slot.start (c.in-Ok.ensures.ok ∙ ap (λ z. c.args.slots.slots ++ z ∷ []) c.requires.fresh) c.requires.new
