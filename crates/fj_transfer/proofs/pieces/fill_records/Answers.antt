use Rattle.std.proofs.Common.{refl}
use Rattle.fj_line.specs.Page.{at_hand}
use Rattle.fj_moved.specs.Items.{items_left}
use Rattle.fj_transfer.specs.declared.writer.Writer.{Writer}
use Rattle.fj_transfer.proofs.FillLemmas.{fills_all}
use Rattle.fj_transfer.proofs.pieces.fill_records.Goals as goal

pub returns : goal.returns
returns c =
    let writer : Writer = record { page = c.new-page.result; modes = c.args.modes; items = c.args.items; field = c.new.result } in
    fills_all c.args.recl c.args.begun writer c.in_ok-cursor.cursor c.args.format.now (items_left c.args.items) c.in_ok-text.text (at_hand c.write_pieces.new.self.page c.write_pieces.new.text)
    c.write_pieces.result c.args.run.now c.write_pieces.new.run c.new-page.ensures.hand c.in_ok-cursor.ensures.begun refl c.write_pieces.ensures.done c.write_pieces.ensures.run
