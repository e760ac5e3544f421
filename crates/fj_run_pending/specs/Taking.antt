-- Pending transfers, and the book, without those that are told.
use Rattle.std.specs.Prelude.{◌≡◌, not, Bool, List, [], filter, Some}
use Rattle.std.specs.Option.{option_map_or}
use Rattle.fj_value.specs.declared.place.Tag.{Tag}
use Rattle.fj_book.specs.declared.pending.Pending.{Pending}
use Rattle.fj_book.specs.Entries.{has_tag, is_told}
use Rattle.fj_run_pending.specs.declared.busy.Busy.{Busy}
use Rattle.fj_run_pending.specs.declared.held.Held.{Held}
use Rattle.fj_run_pending.specs.declared.pick.Pick.{Pick}
use Rattle.fj_run_pending.specs.declared.pick.Pick.TheVariants as pick
use Rattle.fj_run_pending.specs.Busy.{first_of}

abbrev pub without : Pick → List Busy → List Pending → List Pending
without pick.None busy es = es
without (pick.OfUnit u) busy es = option_map_or (λ (first : Tag). filter (λ e. not (is_told (Some u) first.0 e)) es) (first_of busy u) es
without (pick.One id) busy es = filter (λ e. not (has_tag id e)) es
without pick.All busy es = []

-- some of them are left, as they were and in their order
abbrev pub LeavesSome : List Held → List Held → Type 0
LeavesSome old new = (keeps : Held → Bool) × (new ≡ filter keeps old)
