use Rattle.std.proofs.Common.{◌≡◌, ◌++◌, [], ◌∷◌, List, ℕ, Ok, ap, subst, ◌∙◌}
use Rattle.std.specs.Str.{str_to_ascii_uppercase}
use Rattle.std.proofs.lemmas.Result.{err_from_is_err_and}
use Rattle.fj_line.specs.Actions.{carried_out}
use Rattle.fj_line.specs.Page.{at_hand}
use Rattle.fj_namelist.specs.GroupText.{members_written}
use Rattle.fj_transfer.specs.Printing.{record_actions}
use Rattle.fj_transfer.proofs.GroupLemmas.{middle_stops, last_ends}
use Rattle.fj_transfer.proofs.group.put_group.Goals as goal

pub returns-in_err-put_members-clause-done : goal.returns-in_err-put_members-clause-done
returns-in_err-put_members-clause-done c =
    let p = err_from_is_err_and c.from_residual-in_err-put_members.result c.from_residual-in_err-put_members.ensures.1 in
    let old = at_hand c.args.page.now c.args.text.now in
    let first = at_hand c.put_line.new.page c.put_line.new.text in
    let new = at_hand c.put_members.new.page c.put_members.new.text in
    let title = 32 ∷ 38 ∷ str_to_ascii_uppercase c.args.name.now in
    let shown : c.bytes.result.now ≡ title =
    c.bytes.ensures ∙ c.in_ok-push_upper.ensures
    ∙ ap (λ (l : List ℕ). l ++ str_to_ascii_uppercase c.args.name.now) (c.in_ok-push_all.ensures.ok ∙ ap (λ (l : List ℕ). l ++ 32 ∷ 38 ∷ []) c.new-line.ensures) in
    let P : List ℕ → Type 0 = λ l. carried_out old (record_actions (l ∷ [])) ≡ Ok first in
    rw (p.1, p.2) (middle_stops old first new title (members_written c.args.modes c.args.members.now c.args.cells.now) ((32 ∷ 47 ∷ []) ∷ []) c.in_err-put_members.field-0.0
    (subst P shown c.in_ok-put_line.ensures.done) c.in_err-put_members.ensures.done)

pub returns-clause-done : goal.returns-clause-done
returns-clause-done c =
    let old = at_hand c.args.page.now c.args.text.now in
    let first = at_hand c.put_line.new.page c.put_line.new.text in
    let behind = at_hand c.put_members.new.page c.put_members.new.text in
    let title = 32 ∷ 38 ∷ str_to_ascii_uppercase c.args.name.now in
    let shown : c.bytes.result.now ≡ title =
    c.bytes.ensures ∙ c.in_ok-push_upper.ensures
    ∙ ap (λ (l : List ℕ). l ++ str_to_ascii_uppercase c.args.name.now) (c.in_ok-push_all.ensures.ok ∙ ap (λ (l : List ℕ). l ++ 32 ∷ 38 ∷ []) c.new-line.ensures) in
    let P : List ℕ → Type 0 = λ l. carried_out old (record_actions (l ∷ [])) ≡ Ok first in
    last_ends old first behind (at_hand c.put_line-2.new.page c.put_line-2.new.text) title (members_written c.args.modes c.args.members.now c.args.cells.now) ((32 ∷ 47 ∷ []) ∷ []) c.put_line-2.result
    (subst P shown c.in_ok-put_line.ensures.done) c.in_ok-put_members.ensures.done c.put_line-2.ensures.done
