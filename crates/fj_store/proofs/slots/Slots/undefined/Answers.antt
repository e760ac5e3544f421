use Rattle.std.proofs.Common.{◌≡◌, ℕ, List, map, replicate, sym, ap, subst, ◌∙◌, arith}
use Rattle.fj_value.specs.declared.kind.Kind.{Kind}
use Rattle.fj_value.specs.declared.value.Value.TheVariants.{Undefined}
use Rattle.fj_store.specs.declared.slot.Mark.{Mark}
use Rattle.fj_store.specs.declared.slot.Mark.TheVariants as marked
use Rattle.fj_store.specs.Slots.{AreMarked, slots_of}
use Rattle.fj_store.proofs.StoreLemmas.{whole}
use Rattle.fj_store.proofs.SlotLemmas.{fresh, fresh_marked}
use Rattle.fj_store.proofs.slots.Slots.undefined.Goals as goal

pub invariant_of-result : goal.invariant_of-result
invariant_of-result c =
    let l = c.loop-count in
    let variables = c.args.variables.now in
    let all = whole variables l.count-index (omega arith) in
    let marks : l.marks ≡ map (λ (v : Kind × ℕ). replicate v.1 (marked.Home 0)) variables = l.invariant.marks ∙ ap (map (λ v. replicate v.1 (marked.Home 0))) all in
    let values : l.values ≡ map (λ (v : Kind × ℕ). replicate v.1 Undefined) variables = l.invariant.values ∙ ap (map (λ v. replicate v.1 Undefined)) all in
    subst (λ (ms : List (List Mark)). AreMarked ms l.values) (sym marks) (subst (AreMarked (map (λ (v : Kind × ℕ). replicate v.1 (marked.Home 0)) variables)) (sym values) (fresh_marked variables))

pub returns : goal.returns
returns c =
    let l = c.loop-count in
    let variables = c.args.variables.now in
    let all = whole variables l.count-index (omega arith) in
    let marks : l.marks ≡ map (λ (v : Kind × ℕ). replicate v.1 (marked.Home 0)) variables = l.invariant.marks ∙ ap (map (λ v. replicate v.1 (marked.Home 0))) all in
    let values : l.values ≡ map (λ (v : Kind × ℕ). replicate v.1 Undefined) variables = l.invariant.values ∙ ap (map (λ v. replicate v.1 Undefined)) all in
    ap (λ ms. slots_of ms l.values) marks ∙ ap (slots_of (map (λ (v : Kind × ℕ). replicate v.1 (marked.Home 0)) variables)) values ∙ fresh variables
