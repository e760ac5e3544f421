use Rattle.std.proofs.Common.{◌≡◌, ◌+◌, ◌≤◌, true, Some, drop, false, length, vec_capacity, refl, sym, ap, subst, ◌∙◌}
use Rattle.std.specs.Option.{option_map_or}
use Rattle.fj_statement.specs.declared.deck.Lined.{Lined}
use Rattle.fj_meaning_looks.specs.Inquiring.{asks_whether, looks_for}
use Rattle.fj_run_statements.specs.State.{core_of}
use Rattle.fj_run_script.specs.Closing.{hand_may_be_at}
use Rattle.fj_run_script.specs.Room.{looks_left}
use Rattle.fj_run_script.proofs.AtHand.{deck_back, hand_with}
use Rattle.fj_run_script.proofs.Looks.{question_hand, question_none}
use Rattle.fj_run_script.proofs.NextAsks.{some_at}
use Rattle.fj_run_script.proofs.Same.{same_deck}
use Rattle.fj_run_script.proofs.machine.Machine.look_at_hand.Goals as goal

pub invariant_of-self : goal.invariant_of-self
invariant_of-self g c =
    let m = c.args.self.now in
    let deck = deck_back m.deck.statements c.replace-lined.new.self c.put_back.new.statements m.at.place c.replace-lined.result _ (Some c.due_in-number.result) c.number_held-held.result c.put_in.new.what c.put_number.new.self
    c.replace-lined.ensures.item c.replace-lined.ensures.rest c.put_in.ensures c.number_held-held.ensures c.put_number.ensures c.put_back.ensures in
    record {
      kinds = m.kinds;
      hand = subst (λ sts. hand_may_be_at sts m.at.place m.state.stage ≡ true) (sym deck) m.hand;
      refused = m.refused;
      room = subst (λ sts. length m.looks.items + looks_left (drop m.at.place sts) ≤ vec_capacity m.looks) (sym deck) m.room;
    }

pub returns-clause-same : goal.returns-clause-same
returns-clause-same g c =
    let m = c.args.self.now in
    let deck = deck_back m.deck.statements c.replace-lined.new.self c.put_back.new.statements m.at.place c.replace-lined.result _ (Some c.due_in-number.result) c.number_held-held.result c.put_in.new.what c.put_number.new.self
    c.replace-lined.ensures.item c.replace-lined.ensures.rest c.put_in.ensures c.number_held-held.ensures c.put_number.ensures c.put_back.ensures in
    same_deck m _ (ap (λ sts. record m.deck { statements = sts }) deck) refl refl refl refl refl

pub returns-clause-question : goal.returns-clause-question
returns-clause-question g c = λ files.
    let m = c.args.self.now in
    let l = c.replace-lined.result in
    let number = c.due_in-number.result in
    c.look_in-found.ensures files (hand_with (Some number) l) (sym c.put_in.ensures)
    ∙ ap (λ n. looks_for m.deck.variables (hand_with (Some n) l) (core_of files m.state.core)) c.due_in-number.ensures
    ∙ sym (question_hand m l c.replace-lined.ensures.item files)

pub returns-then-not-may_look-clause-question : goal.returns-then-not-may_look-clause-question
returns-then-not-may_look-clause-question g c = λ files.
    let m = c.args.self.now in
    let l = some_at m.deck.statements m.at.place c.requires in
    let never : asks_whether l.0.what ≡ false = sym (ap (λ o. option_map_or (λ (x : Lined). asks_whether x.what) o false) l.1) ∙ sym c.may_look.ensures ∙ c.if-not-may_look.true in
    sym (question_none m l.0 l.1 files never)
