use Rattle.std.proofs.Common.{◌≡◌, ◌≢◌, All, [], ◌∷◌, ◌++◌, subst, sym, ap, ◌∙◌}
use Rattle.fj_run_pending.specs.declared.held.Held.{Held}
use Rattle.fj_run_pending.proofs.Ids.{none_taken, one_taken}
use Rattle.fj_run_pending.proofs.removal.take_one.Goals as goal

pub returns-in_default-clause-told : goal.returns-in_default-clause-told
returns-in_default-clause-told c =
    let none : All (λ (h : Held). h.tag.0 ≢ c.args.id) c.args.helds.now.items = subst (λ t. All (λ (h : Held). h.tag.0 ≢ t) c.args.helds.now.items) c.from.ensures c.in_default.ensures.none in
    c.in_ok-told.ensures.items ∙ (none_taken (λ (h : Held). h.tag.0) c.args.id c.args.helds.now.items none).0

pub returns-in_default-clause-left : goal.returns-in_default-clause-left
returns-in_default-clause-left c =
    let none : All (λ (h : Held). h.tag.0 ≢ c.args.id) c.args.helds.now.items = subst (λ t. All (λ (h : Held). h.tag.0 ≢ t) c.args.helds.now.items) c.from.ensures c.in_default.ensures.none in
    (none_taken (λ (h : Held). h.tag.0) c.args.id c.args.helds.now.items none).1

pub returns-clause-told : goal.returns-clause-told
returns-clause-told c =
    let tag : c.in-Some-remove.held.tag.0 ≡ c.args.id = ap (λ (h : Held). h.tag.0) c.in-Some-remove.ensures.value ∙ c.in-Some.ensures.some.1 c.in-Some-remove.held ∙ c.from.ensures in
    c.push_back_reserved.ensures.items ∙ ap (λ l. l ++ c.in-Some-remove.held ∷ []) c.in_ok-told.ensures.items
    ∙ (one_taken (λ (h : Held). h.tag.0) c.args.id c.args.helds.now.items c.in-Some.at c.in-Some-remove.held c.requires c.in-Some.ensures.some.0 (sym c.in-Some-remove.ensures.value) tag).0

pub returns-clause-left : goal.returns-clause-left
returns-clause-left c =
    let tag : c.in-Some-remove.held.tag.0 ≡ c.args.id = ap (λ (h : Held). h.tag.0) c.in-Some-remove.ensures.value ∙ c.in-Some.ensures.some.1 c.in-Some-remove.held ∙ c.from.ensures in
    c.in-Some-remove.ensures.items
    ∙ (one_taken (λ (h : Held). h.tag.0) c.args.id c.args.helds.now.items c.in-Some.at c.in-Some-remove.held c.requires c.in-Some.ensures.some.0 (sym c.in-Some-remove.ensures.value) tag).1
