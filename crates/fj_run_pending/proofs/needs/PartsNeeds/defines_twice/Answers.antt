use Rattle.std.proofs.Common.{◌++◌, sym, ap, ◌∙◌}
use Rattle.fj_store.specs.Places.{has_twice}
use Rattle.fj_store.specs.Storage.{values_of}
use Rattle.fj_book.specs.Prohibitions.{defines_twice}
use Rattle.fj_meaning.specs.Needs.{need_by, if_given, wanted_places}
use Rattle.fj_run_pending.proofs.Meeting.{alone_twice}
use Rattle.fj_run_pending.proofs.needs.PartsNeeds.defines_twice.Goals as goal

pub returns-in-Inquire : goal.returns-in-Inquire
returns-in-Inquire c =
    let parts = c.args.self.now in
    let iostat = if_given c.in-Inquire.iostat in
    c.asks_twice.ensures ∙ ap (λ asked. has_twice (wanted_places asked ++ iostat)) c.as_slice.ensures ∙ alone_twice (wanted_places c.in-Inquire.asked ++ iostat)
    ∙ sym (ap (λ st. defines_twice (need_by parts.variables.now (values_of parts.store.now) (λ name. parts.named) st)) c.in-Inquire.is)
