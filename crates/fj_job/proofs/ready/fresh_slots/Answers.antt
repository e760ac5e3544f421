use Rattle.std.proofs.Common.{◌≡◌, ◌+◌, ◌∙◌, All, length, ap, sym, subst, arith}
use Rattle.std.proofs.lemmas.List.{length_push}
use Rattle.std.proofs.lemmas.List.Elements.{All-push}
use Rattle.fj_bay.specs.Meaning.{bay_meaning}
use Rattle.fj_job.specs.Carrying.{IsFresh}
use Rattle.fj_job.proofs.ready.fresh_slots.Goals as goal

pub filling-preserved : goal.filling-preserved
filling-preserved g c =
    let meaning = bay_meaning g.F.FileStore.told g.F.FileStore.bytes g.F.FileStore.count in
    let grown : length c.push.new.self.slots ≡ length c.filling.slots.slots + 1 = ap (λ ls. length ls) c.in-Ok.ensures.ok ∙ length_push c.filling.slots.slots c.in_ok-slot.slot in
    record {
      each = subst (λ ls. All (IsFresh meaning) ls) (sym c.in-Ok.ensures.ok) (All-push (IsFresh meaning) c.filling.slots.slots c.in_ok-slot.slot c.filling.invariant.each c.in_ok-slot.ensures);
      few = omega arith;
    }
