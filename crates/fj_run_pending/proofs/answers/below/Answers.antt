use Rattle.std.proofs.Common.{◌≡◌, ◌∙◌, ◌<◌, List, length, get_or, ltb, ap, sym, subst, arith, rules}
use Rattle.std.proofs.lemmas.List.Sorted.{IsPartitionPoint-from_clause}
use Rattle.fj_run_pending.specs.declared.held.Held.{Held}
use Rattle.fj_run_pending.proofs.Ids.{is_parted, parted_below, same_read}
use Rattle.fj_run_pending.proofs.answers.below.Goals as goal

pub returns-clause-low : goal.returns-clause-low
returns-clause-low c =
    let parted = IsPartitionPoint-from_clause (λ (h : Held). ltb h.tag.0 c.args.id) c.args.helds.now.items c.partition_point-at.result c.partition_point-at.ensures.partitioned (is_parted (λ (h : Held). h.tag.0) c.args.helds.now.items c.args.id c.requires) (λ a r f' called. search rules) in
    λ k h low. parted_below (λ (x : Held). x.tag.0) c.args.helds.now.items c.args.id c.partition_point-at.result parted k h low

pub returns-then-from-id-clause-low : goal.returns-then-from-id-clause-low
returns-then-from-id-clause-low c = λ k h low.
    let at = c.saturating_sub-ahead.result in
    let xs : List Held = c.args.helds.now.items in
    let it : Held = c.index.result.now in
    let within : at < length xs = omega (arith, c.if-ahead-len.true, c.len.ensures) in
    let there : (get_or xs at h).tag.0 ≡ c.args.id = ap (λ (x : Held). x.tag.0) (same_read xs at h it within ∙ sym c.index.ensures) ∙ sym c.from-then-ahead-len.ensures ∙ c.if-from-id.true in
    subst (λ t. (get_or xs k h).tag.0 < t) there (c.requires k at h low within)
