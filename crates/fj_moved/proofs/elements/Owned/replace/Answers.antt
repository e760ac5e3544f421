use Rattle.std.proofs.Common.{◌≡◌, true, false, sym, subst}
use Rattle.std.specs.List.{list_all, list_any}
use Rattle.fj_moved.proofs.ElementLemmas.{all_replaced, none_replaced}
use Rattle.fj_moved.proofs.elements.Owned.replace.Goals as goal

pub invariant_of-self : goal.invariant_of-self
invariant_of-self g c =
    let inside = c.self.inside in
    let set = sym c.replace.ensures.rest in (
      λ all. subst (λ xs. list_all g.T.Element.plain xs ≡ true) set (all_replaced g.T.Element.plain inside.items c.args.at c.args.item inside.plain c.is_plain.result c.self.invariant.0 c.is_plain.ensures all),
      λ none. subst (λ xs. list_any g.T.Element.undefined xs ≡ false) set (none_replaced g.T.Element.undefined inside.items c.args.at c.args.item inside.filled c.is_undefined.result c.self.invariant.1 c.is_undefined.ensures none),
    )
