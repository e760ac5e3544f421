use Rattle.std.proofs.Common.{◌<◌, ◌≤◌, ltb, length, rules, ap, ◌∙◌, arith}
use Rattle.std.proofs.lemmas.List.Sorted.{IsPartitionPoint-from_clause}
use Rattle.fj_run_pending.specs.declared.held.Held.{Held}
use Rattle.fj_run_pending.proofs.Ids.{none_of, is_parted, parted_below, parted_from, same_read}
use Rattle.fj_run_pending.proofs.pick.place_of.Goals as goal

pub returns-then-at-len-clause-none : goal.returns-then-at-len-clause-none
returns-then-at-len-clause-none c =
    let parted = IsPartitionPoint-from_clause (λ (h : Held). ltb h.tag.0 c.args.id) c.args.helds.now.items c.partition_point-at.result c.partition_point-at.ensures.partitioned (is_parted (λ (h : Held). h.tag.0) c.args.helds.now.items c.args.id c.requires) (λ a r f' called. search rules) in
    let past : length c.args.helds.now.items ≤ c.partition_point-at.result = omega (arith, c.args.helds.now.ok) in
    none_of (λ (h : Held). h.tag.0) c.args.helds.now.items c.args.id c.partition_point-at.result c.requires
    (parted_below (λ (h : Held). h.tag.0) c.args.helds.now.items c.args.id c.partition_point-at.result parted) (parted_from (λ (h : Held). h.tag.0) c.args.helds.now.items c.args.id c.partition_point-at.result parted)
    (λ d within. absurd (omega (arith, past, within)))

pub returns-then-from-id-clause-none : goal.returns-then-from-id-clause-none
returns-then-from-id-clause-none c =
    let parted = IsPartitionPoint-from_clause (λ (h : Held). ltb h.tag.0 c.args.id) c.args.helds.now.items c.partition_point-at.result c.partition_point-at.ensures.partitioned (is_parted (λ (h : Held). h.tag.0) c.args.helds.now.items c.args.id c.requires) (λ a r f' called. search rules) in
    let here : c.partition_point-at.result < length c.args.helds.now.items = omega (arith, c.args.helds.now.ok) in
    none_of (λ (h : Held). h.tag.0) c.args.helds.now.items c.args.id c.partition_point-at.result c.requires
    (parted_below (λ (h : Held). h.tag.0) c.args.helds.now.items c.args.id c.partition_point-at.result parted) (parted_from (λ (h : Held). h.tag.0) c.args.helds.now.items c.args.id c.partition_point-at.result parted)
    (λ d within same. c.if-from-id.true (c.from.ensures ∙ ap (λ (h : Held). h.tag.0) (c.index.ensures ∙ same_read c.args.helds.now.items c.partition_point-at.result c.index.result.now d here) ∙ same))
