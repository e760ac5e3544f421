use Rattle.std.proofs.Common.{◌≡◌, ◌≤◌, ◌++◌, None, length, take, map, replicate, sym, ap, ◌∙◌, arith}
use Rattle.std.proofs.lemmas.List.{length-take}
use Rattle.fj_value.specs.declared.edit.Edit.{Edit}
use Rattle.fj_value.specs.declared.edit.Edit.TheVariants as edit
use Rattle.fj_format.specs.Unfolding as elementary
use Rattle.fj_line.specs.Actions.{carried_out}
use Rattle.fj_line.specs.Page.{at_hand}
use Rattle.fj_line.specs.Records.{texts_from}
use Rattle.fj_control.specs.Steps.{gives}
use Rattle.fj_control.specs.Paired.{paired}
use Rattle.fj_edit_out.proofs.Rows.{integers_few}
use Rattle.fj_moved.specs.Items.{of_kind, items_left, kind_ahead, values_ahead}
use Rattle.fj_transfer.specs.Explicit.{action_of}
use Rattle.fj_transfer.specs.Writing.{actions_left}
use Rattle.fj_transfer.proofs.RowLemmas.{row_actions, items_left_over}
use Rattle.fj_transfer.proofs.writer.Writer.put_row.Goals as goal

pub pass-requires : goal.pass-requires
pass-requires c =
    let few = c.in_ok-written.ensures.few in
    omega (arith, few, integers_few c.ahead-kind.result.0 (take c.min-count.result c.ahead-kind.result.1.now), length-take c.min-count.result c.ahead-kind.result.1.now, ap length c.ahead-kind.ensures.values)

pub returns-clause-few : goal.returns-clause-few
returns-clause-few c =
    let few = c.in_ok-written.ensures.few in
    grind (arith, few, integers_few c.ahead-kind.result.0 (take c.min-count.result c.ahead-kind.result.1.now), length-take c.min-count.result c.ahead-kind.result.1.now)

pub returns-clause-done : goal.returns-clause-done
returns-clause-done c = λ more.
    let w = c.args.self.now in
    let hand = at_hand w.page c.args.text.now in
    let width = c.in-Some.w in
    let k = c.in_ok-written.written in
    let ahead = c.ahead-kind.result.1.now in
    let kind = c.ahead-kind.result.0 in
    let count = c.min-count.result in
    let same : c.args.edit ≡ edit.Int width None = c.in-Some.ensures.0 in
    let over : items_left w.items ≡ of_kind kind (take k ahead) ++ items_left c.pass.new.self =
    c.pass.ensures ∙ ap (λ l. of_kind (kind_ahead w.items) (take k l) ++ items_left c.pass.new.self) (sym c.ahead-kind.ensures.values) ∙ ap (λ x. of_kind x (take k ahead) ++ items_left c.pass.new.self) (sym c.ahead-kind.ensures.kind) in
    let few = c.in_ok-written.ensures.few in
    let within : k ≤ count = omega (arith, few, integers_few kind (take count ahead), length-take count ahead) in
    ap (λ (e : Edit). carried_out hand (actions_left w (replicate k (gives (elementary.edit e)) ++ more))) same
    ∙ ap (carried_out hand) (row_actions w.modes width more (items_left c.pass.new.self) kind (items_left w.items) ahead count k few within over)
    ∙ c.in_ok-written.ensures.done (map action_of (paired w.modes more (items_left c.pass.new.self)))

pub returns-clause-texts : goal.returns-clause-texts
returns-clause-texts c = λ more.
    let w = c.args.self.now in
    let hand = at_hand w.page c.args.text.now in
    let width = c.in-Some.w in
    let k = c.in_ok-written.written in
    let ahead = c.ahead-kind.result.1.now in
    let kind = c.ahead-kind.result.0 in
    let count = c.min-count.result in
    let same : c.args.edit ≡ edit.Int width None = c.in-Some.ensures.0 in
    let over : items_left w.items ≡ of_kind kind (take k ahead) ++ items_left c.pass.new.self =
    c.pass.ensures ∙ ap (λ l. of_kind (kind_ahead w.items) (take k l) ++ items_left c.pass.new.self) (sym c.ahead-kind.ensures.values) ∙ ap (λ x. of_kind x (take k ahead) ++ items_left c.pass.new.self) (sym c.ahead-kind.ensures.kind) in
    let few = c.in_ok-written.ensures.few in
    let within : k ≤ count = omega (arith, few, integers_few kind (take count ahead), length-take count ahead) in
    ap (λ (e : Edit). texts_from hand.line (actions_left w (replicate k (gives (elementary.edit e)) ++ more))) same
    ∙ ap (texts_from hand.line) (row_actions w.modes width more (items_left c.pass.new.self) kind (items_left w.items) ahead count k few within over)
    ∙ c.in_ok-written.ensures.texts (map action_of (paired w.modes more (items_left c.pass.new.self)))

pub returns-clause-left : goal.returns-clause-left
returns-clause-left c =
    let k = c.in_ok-written.written in
    let ahead = values_ahead c.args.self.now.items in
    let few = c.in_ok-written.ensures.few in
    items_left_over (items_left c.args.self.now.items) (items_left c.pass.new.self) (kind_ahead c.args.self.now.items) ahead k
    (omega (arith, few, integers_few c.ahead-kind.result.0 (take c.min-count.result c.ahead-kind.result.1.now), length-take c.min-count.result c.ahead-kind.result.1.now, ap length c.ahead-kind.ensures.values)) c.pass.ensures
