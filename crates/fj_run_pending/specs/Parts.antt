-- What a statement needs, by its parts.
use Rattle.fj_book.specs.Prohibitions.{Need}
use Rattle.fj_store.specs.Storage.{values_of}
use Rattle.fj_meaning.specs.Needs.{need_by}
use Rattle.fj_run_pending.specs.declared.needs.Parts.{Parts}

abbrev pub need_in : Parts → Need
need_in p = need_by p.variables.now (values_of p.store.now) (λ name. p.named) p.statement.now
