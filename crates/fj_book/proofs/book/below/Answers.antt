use Rattle.std.proofs.Common.{ltb, rules}
use Rattle.std.proofs.lemmas.List.Sorted.{IsPartitionPoint-from_clause}
use Rattle.fj_book.specs.declared.pending.Pending.{Pending}
use Rattle.fj_book.specs.Entries.{tag_of}
use Rattle.fj_book.proofs.BookLemmas.{is_parted, parted_below, parted_from}
use Rattle.fj_book.proofs.book.below.Goals as goal

pub returns-clause-parted : goal.returns-clause-parted
returns-clause-parted c =
    let es = c.args.entries.now.items in
    let at = c.partition_point-at.result in
    let parted = IsPartitionPoint-from_clause (λ (e : Pending). ltb (tag_of e) c.args.id) es at c.partition_point-at.ensures.partitioned (is_parted es c.args.id c.requires) (λ a r f' called. search rules) in
    (λ k d within low. parted_below es c.args.id at parted k d low, λ k d high within. parted_from es c.args.id at parted k d high within)
