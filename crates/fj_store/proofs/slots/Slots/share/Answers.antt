use Rattle.std.proofs.Common.{◌≡◌, List, map, Some, sym, ap, subst, ◌∙◌}
use Rattle.std.specs.Prelude.{IfOk, IfSome}
use Rattle.fj_value.specs.declared.value.Value.{Value}
use Rattle.fj_store.specs.Places.{places_of}
use Rattle.fj_store.specs.Slots.{AreMarked, all_read, slots_of}
use Rattle.fj_store.specs.Tables.{element_at}
use Rattle.fj_store.proofs.slots.Slots.share.Goals as goal

pub invariant_of-self : goal.invariant_of-self
invariant_of-self c = subst (AreMarked c.self.inside.marks) (sym c.share.ensures.same) c.self.invariant

pub returns-clause-same : goal.returns-clause-same
returns-clause-same c = ap (slots_of c.self.inside.marks) c.share.ensures.same ∙ c.self.view_is

pub returns-clause-shared : goal.returns-clause-shared
returns-clause-shared c =
    let same : c.self.inside.values ≡ all_read c.args.self.now = sym c.self.invariant.read ∙ ap all_read c.self.view_is in
    let P : List (List Value) → Type 0 = λ rows. IfOk c.share.result (λ o. IfSome o (λ row. map Some row ≡ map (element_at rows) (places_of c.args.run))) in
    subst P same c.share.ensures.shared
