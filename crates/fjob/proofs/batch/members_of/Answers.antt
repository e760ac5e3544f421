use Rattle.std.proofs.Common.{All, subst, sym}
use Rattle.std.specs.FinMap as map
use Rattle.std.specs.FinSet as set
use Rattle.std.proofs.lemmas.List.Elements.{All-push}
use Rattle.fj_batch.specs.Members.{IsNew}
use Rattle.fjob.proofs.batch.members_of.Goals as goal

pub naming-preserved : goal.naming-preserved
naming-preserved c =
    subst (λ members. All (IsNew (λ _. ⊥) (λ _. record { files = map.empty; in_use = set.empty; hurt = set.empty })) members) (sym c.in_ok-push.ensures.ok)
    (All-push (IsNew (λ _. ⊥) (λ _. record { files = map.empty; in_use = set.empty; hurt = set.empty })) c.naming.members c.in_ok-member_of.field-0 c.naming.invariant c.in_ok-member_of.ensures)
