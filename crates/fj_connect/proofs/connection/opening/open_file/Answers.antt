use Rattle.std.proofs.Common.{◌∙◌, ap, length}
use Rattle.fj_modes.proofs.Reopening.{settled_is_consistent}
use Rattle.fj_outside.proofs.HoldingLaws.{in_use_after}
use Rattle.fj_connect.specs.Opening.{first_place, first_spot}
use Rattle.fj_connect.proofs.Homes.{files_out}
use Rattle.fj_connect.proofs.Opened.{opens}
use Rattle.fj_connect.proofs.connection.opening.open_file.Goals as goal

pub connected-requires-clause-length : goal.connected-requires-clause-length
connected-requires-clause-length g c =
    let modes = settled_is_consistent c.args.spec.now c.args.modes c.requires.modes in
    (modes.length_above_zero, modes.length_within_limit)

pub returns-clause-opened : goal.returns-clause-opened
returns-clause-opened g c = λ t.
    let given = rw c.unwrap_or-status.ensures at (c.in_ok-file.ensures.content t).opened in
    let file = c.connected.ensures.file ∙ c.new-windowed.ensures.file in (
      rw file given.0,
      opens g.D.File.FileStore.bytes c.connected.result _ _ c.args.name.now (g.D.File.FileStore.bytes c.in_ok-file.file) c.args.spec.now c.args.modes
          given.1 c.connected.ensures.modes (c.connected.ensures.name ∙ c.in_ok-kept.ensures) (ap g.D.File.FileStore.bytes file)
          (c.connected.ensures.told (rw c.new-windowed.ensures.file given.0) ∙ ap (λ f. first_spot (first_place c.args.modes.start (length (g.D.File.FileStore.bytes f)))) c.new-windowed.ensures.file)
          (files_out _ _ c.args.name.now given.2),
      given.2,
    )

pub returns-clause-used : goal.returns-clause-used
returns-clause-used g c = λ t.
    let given = (c.in_ok-file.ensures.content t).opened in
    rw (c.connected.ensures.name, c.in_ok-kept.ensures) (in_use_after _ _ c.args.name.now given.2)
