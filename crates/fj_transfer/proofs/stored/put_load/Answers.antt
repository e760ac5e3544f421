use Rattle.std.proofs.Common.{◌≡◌, ◌++◌, OnOk, ap, sym, subst, ◌∙◌}
use Rattle.std.specs.List.{flat_map}
use Rattle.fj_moved.specs.Load.{moved_by, moved_row}
use Rattle.fj_unfrec.specs.Stored.{stored}
use Rattle.fj_transfer.specs.Transfer.{body_of}
use Rattle.fj_transfer.proofs.StoredLemmas.{row_stored}
use Rattle.fj_transfer.proofs.stored.put_load.Goals as goal

pub returns-in-Row : goal.returns-in-Row
returns-in-Row c =
    let row = c.in-Row.row in
    let same : moved_row row ≡ c.args.moved.now = ap moved_by (sym c.in-Row.is) ∙ c.shape.ensures in
    let bytes : flat_map (stored row.kind) c.as_slice-in-Row.result.now ≡ body_of c.args.moved.now =
    ap (flat_map (stored row.kind)) c.as_slice-in-Row.ensures ∙ sym (row_stored row.first row.kind row.values) ∙ ap body_of same in
    subst (λ l. OnOk c.put_row.result (c.put_row.new.out ≡ c.args.out.now ++ l)) bytes c.put_row.ensures
