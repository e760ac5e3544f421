use Rattle.std.proofs.Common.{◌∷◌, ◌+◌, ◌≤◌, List, drop, length, vec_capacity, refl, sym, ap, subst, ◌∙◌}
use Rattle.fj_meaning.specs.State.{Files}
use Rattle.fj_meaning.specs.Statement.{Stated, stated}
use Rattle.fj_meaning_turns.specs.Run.{Run}
use Rattle.fj_meaning_turns.specs.Turns.{Turn, turn, turn_on}
use Rattle.fj_run_units.specs.Files.{files_of}
use Rattle.fj_run_script.specs.Machine.{numbered, run_at, run_in, stage_at}
use Rattle.fj_run_script.specs.Room.{looks_left}
use Rattle.fj_run_script.specs.Turned.{IsTurn}
use Rattle.fj_run_script.proofs.AtHand.{deck_back, hand_with}
use Rattle.fj_run_script.proofs.GivingUp.{fails_for, fails_run, fails_turn}
use Rattle.fj_run_script.proofs.Begun.{behind_is, first_is, hand, hand_begun, have_begun, may_begun, rest_begun, sound_begun, stage_begun, turn_begun_is}
use Rattle.fj_run_script.proofs.NextAsks.{behind_at, hand_is, run_known}
use Rattle.fj_run_script.proofs.machine.Machine.turn.Goals as goal

pub invariant_of-self : goal.invariant_of-self
invariant_of-self g c =
    let m = c.args.self.now in
    let l = c.replace-lined.result in
    let deck = deck_back m.deck.statements c.replace-lined.new.self c.put_back.new.statements m.at.place l _ c.number_in_hand-number.result c.number_held-held.result c.put_in.new.what c.put_number.new.self
    c.replace-lined.ensures.item c.replace-lined.ensures.rest c.put_in.ensures c.number_held-held.ensures c.put_number.ensures c.put_back.ensures in
    record {
      kinds = c.turn-turned.ensures.steps.kinds ∙ m.kinds;
      hand = may_begun m l c.replace-lined.ensures.item c.number_in_hand-number.result c.number_in_hand-number.ensures c.put_in.new.what c.put_in.ensures c.turn-turned.new.self.stage c.put_back.new.statements deck c.turn-turned.ensures.may;
      refused = m.refused;
      room = subst (λ sts. length m.looks.items + looks_left (drop m.at.place sts) ≤ vec_capacity m.looks) (sym deck) m.room;
    }

pub invariant_of-self-in-Err-1 : goal.invariant_of-self-in-Err-1
invariant_of-self-in-Err-1 g c =
    let m = c.args.self.now in
    let l = c.replace-lined.result in
    let deck = deck_back m.deck.statements c.replace-lined.new.self c.put_back.new.statements m.at.place l _ c.number_in_hand-number.result c.number_held-held.result c.put_in.new.what c.put_number.new.self
    c.replace-lined.ensures.item c.replace-lined.ensures.rest c.put_in.ensures c.number_held-held.ensures c.put_number.ensures c.put_back.ensures in
    record {
      kinds = c.turn-turned.ensures.steps.kinds ∙ m.kinds;
      hand = may_begun m l c.replace-lined.ensures.item c.number_in_hand-number.result c.number_in_hand-number.ensures c.put_in.new.what c.put_in.ensures c.turn-turned.new.self.stage c.put_back.new.statements deck c.turn-turned.ensures.may;
      refused = m.refused;
      room = subst (λ sts. length m.looks.items + looks_left (drop m.at.place sts) ≤ vec_capacity m.looks) (sym deck) m.room;
    }

pub returns-in-Ok-clause-deck : goal.returns-in-Ok-clause-deck
returns-in-Ok-clause-deck g c =
    let m = c.args.self.now in
    ap (λ sts. record m.deck { statements = sts })
    (deck_back m.deck.statements c.replace-lined.new.self c.put_back.new.statements m.at.place c.replace-lined.result _ c.number_in_hand-number.result c.number_held-held.result c.put_in.new.what c.put_number.new.self
    c.replace-lined.ensures.item c.replace-lined.ensures.rest c.put_in.ensures c.number_held-held.ensures c.put_number.ensures c.put_back.ensures)

pub returns-in-Err-clause-deck : goal.returns-in-Err-clause-deck
returns-in-Err-clause-deck g c =
    let m = c.args.self.now in
    ap (λ sts. record m.deck { statements = sts })
    (deck_back m.deck.statements c.replace-lined.new.self c.put_back.new.statements m.at.place c.replace-lined.result _ c.number_in_hand-number.result c.number_held-held.result c.put_in.new.what c.put_number.new.self
    c.replace-lined.ensures.item c.replace-lined.ensures.rest c.put_in.ensures c.number_held-held.ensures c.put_number.ensures c.put_back.ensures)

pub returns-in-Ok-clause-turn : goal.returns-in-Ok-clause-turn
returns-in-Ok-clause-turn g c = λ tells r st more known h.
    let told = g.F.FileStore.told in
    let bytes = g.F.FileStore.bytes in
    let m = c.args.self.now in
    let files : Files = files_of (g.D.Disk.held c.args.disk.now) in
    let after : Files = files_of (g.D.Disk.held c.turn-turned.new.disk) in
    let l = c.replace-lined.result in
    let o = c.number_in_hand-number.result in
    let w = c.put_in.new.what in
    let item = c.replace-lined.ensures.item in
    let o_is = c.number_in_hand-number.ensures in
    let w_is = c.put_in.ensures in
    let deck = deck_back m.deck.statements c.replace-lined.new.self c.put_back.new.statements m.at.place l _ o c.number_held-held.result w c.put_number.new.self
    item c.replace-lined.ensures.rest w_is c.number_held-held.ensures c.put_number.ensures c.put_back.ensures in
    let k = run_known (run_at files m) (stage_at told bytes files m) r known in
    let Comes : List Stated → Turn → Type 0 = λ rest t. IsTurn told bytes m.deck.variables rest after c.turn-turned.new.self c.in-Ok.turned t in
    let it = c.in-Ok.ensures.turn tells (behind_at m) k.0 (stage_begun m l item o o_is w w_is told bytes files k.0 k.1) in
    subst (λ (x : Run). Comes (numbered o (drop m.at.place (stated c.put_back.new.statements))) (turn st x.stage x)) k.2
    (subst (λ (y : Stated). Comes (numbered o (drop m.at.place (stated c.put_back.new.statements))) (turn y k.0 (run_at files m k.0))) (first_is m l item st more h)
    (subst (λ t. Comes (numbered o (drop m.at.place (stated c.put_back.new.statements))) t) (sym (turn_begun_is m l item o o_is w w_is told bytes files k.0 k.1))
    (subst (λ rest. Comes rest (turn_on (hand m l item o o_is w w_is) k.0 (run_in m.deck.variables (hand m l item o o_is w w_is ∷ behind_at m) files m.state k.0))) (sym (rest_begun m l item o o_is w w_is c.put_back.new.statements deck)) it)))

pub returns-in-Ok-clause-files : goal.returns-in-Ok-clause-files
returns-in-Ok-clause-files g c = λ st more h have.
    let m = c.args.self.now in
    let l = c.replace-lined.result in
    let o = c.number_in_hand-number.result in
    let w = c.put_in.new.what in
    let item = c.replace-lined.ensures.item in
    let o_is = c.number_in_hand-number.ensures in
    let w_is = c.put_in.ensures in
    let deck = deck_back m.deck.statements c.replace-lined.new.self c.put_back.new.statements m.at.place l _ o c.number_held-held.result w c.put_number.new.self
    item c.replace-lined.ensures.rest w_is c.number_held-held.ensures c.put_number.ensures c.put_back.ensures in
    (_, rest_begun m l item o o_is w w_is c.put_back.new.statements deck ∙ ap (λ (b : List Stated). hand m l item o o_is w w_is ∷ b) (behind_is m l item st more h), c.in-Ok.ensures.files (have_begun m l item o o_is w w_is st more h have))

pub returns-in-Err-clause-fits : goal.returns-in-Err-clause-fits
returns-in-Err-clause-fits g c = λ sound st more h have next kept.
    let m = c.args.self.now in
    let l = c.replace-lined.result in
    let o = c.number_in_hand-number.result in
    let w = c.put_in.new.what in
    let item = c.replace-lined.ensures.item in
    let o_is = c.number_in_hand-number.ensures in
    let w_is = c.put_in.ensures in
    c.in-Err.ensures.fits (sound_begun m l item o o_is w w_is sound) (have_begun m l item o o_is w w_is st more h have) next kept

pub returns-in-Err-clause-vain : goal.returns-in-Err-clause-vain
returns-in-Err-clause-vain g c = λ st more h have.
    c.in-Err.ensures.vain (have_begun c.args.self.now c.replace-lined.result c.replace-lined.ensures.item c.number_in_hand-number.result c.number_in_hand-number.ensures c.put_in.new.what c.put_in.ensures st more h have)

pub returns-in-Err-clause-fails : goal.returns-in-Err-clause-fails
returns-in-Err-clause-fails g c = λ tells r st more known h.
    let told = g.F.FileStore.told in
    let bytes = g.F.FileStore.bytes in
    let m = c.args.self.now in
    let files : Files = files_of (g.D.Disk.held c.args.disk.now) in
    let l = c.replace-lined.result in
    let o = c.number_in_hand-number.result in
    let w = c.put_in.new.what in
    let item = c.replace-lined.ensures.item in
    let o_is = c.number_in_hand-number.ensures in
    let w_is = c.put_in.ensures in
    let deck = deck_back m.deck.statements c.replace-lined.new.self c.put_back.new.statements m.at.place l _ o c.number_held-held.result w c.put_number.new.self
    item c.replace-lined.ensures.rest w_is c.number_held-held.ensures c.put_number.ensures c.put_back.ensures in
    let k = run_known (run_at files m) (stage_at told bytes files m) r known in
    let tells_out = g.W.Sink.tells in
    let taken = g.W.Sink.taken in
    let out = c.args.out.now in
    let out' = c.turn-turned.new.out in
    let f = c.turn-turned.ensures.fails tells (behind_at m) k.0 (stage_begun m l item o o_is w w_is told bytes files k.0 k.1) in
    fails_run _ (tells_out out) (taken out) (taken out') (run_at files m k.0) r m _ k.2
    (fails_for _ _ (tells_out out) (taken out) (taken out') (run_at files m k.0) m _ (λ lost e. cc (c.in-Err.is, e)) (λ e. cc (c.in-Err.is, e))
    (fails_turn tells_out taken out out' m _ c.turn-turned.result c.in-Err.lost (hand_with m.at.number l) _ (behind_at m) (run_at files m k.0) c.in-Err.is (hand_is m l item)
    (hand_begun m l item o o_is w w_is told bytes files k.0 k.1) refl (ap (λ sts. numbered m.at.number (drop m.at.place (stated sts))) deck) c.turn-turned.ensures.steps.still f))
