use Rattle.std.proofs.Common.{◌<◌, ◌≤◌, ltb, length, rules, ap, ◌∙◌, arith}
use Rattle.std.proofs.lemmas.List.Sorted.{IsPartitionPoint-from_clause}
use Rattle.fj_book.specs.declared.pending.Pending.{Pending}
use Rattle.fj_book.specs.Entries.{tag_of}
use Rattle.fj_book.proofs.BookLemmas.{none_of, is_parted, parted_below, parted_from, same_read}
use Rattle.fj_book.proofs.book.place_of.Goals as goal

pub returns-then-at-len-clause-none : goal.returns-then-at-len-clause-none
returns-then-at-len-clause-none c =
    let parted = IsPartitionPoint-from_clause (λ (e : Pending). ltb (tag_of e) c.args.id) c.args.entries.now.items c.partition_point-at.result c.partition_point-at.ensures.partitioned (is_parted c.args.entries.now.items c.args.id c.requires) (λ a r f' called. search rules) in
    let past : length c.args.entries.now.items ≤ c.partition_point-at.result = omega (arith, c.args.entries.now.ok) in
    none_of c.args.entries.now.items c.args.id c.partition_point-at.result c.requires
    (parted_below c.args.entries.now.items c.args.id c.partition_point-at.result parted) (parted_from c.args.entries.now.items c.args.id c.partition_point-at.result parted)
    (λ d within. absurd (omega (arith, past, within)))

pub returns-then-from-id-clause-none : goal.returns-then-from-id-clause-none
returns-then-from-id-clause-none c =
    let parted = IsPartitionPoint-from_clause (λ (e : Pending). ltb (tag_of e) c.args.id) c.args.entries.now.items c.partition_point-at.result c.partition_point-at.ensures.partitioned (is_parted c.args.entries.now.items c.args.id c.requires) (λ a r f' called. search rules) in
    let here : c.partition_point-at.result < length c.args.entries.now.items = omega (arith, c.args.entries.now.ok) in
    none_of c.args.entries.now.items c.args.id c.partition_point-at.result c.requires
    (parted_below c.args.entries.now.items c.args.id c.partition_point-at.result parted) (parted_from c.args.entries.now.items c.args.id c.partition_point-at.result parted)
    (λ d within same. c.if-from-id.true (c.from.ensures ∙ ap tag_of (c.index.ensures ∙ same_read c.args.entries.now.items c.partition_point-at.result c.index.result.now d here) ∙ same))
