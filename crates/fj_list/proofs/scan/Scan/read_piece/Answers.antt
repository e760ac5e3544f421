use Rattle.std.proofs.Common.{◌≡◌, ◌+◌, ◌-◌, ◌∷◌, [], ◌++◌, eqb, take, drop, false, Some, slice_get, ap, sym, ◌∙◌, arith}
use Rattle.std.proofs.lemmas.List.{take_rest}
use Rattle.std.proofs.lemmas.Option.{slice_get_within}
use Rattle.fj_list.specs.declared.scan.Scan.{Scan}
use Rattle.fj_list.specs.Stream.{stream}
use Rattle.fj_list.specs.ListInput.{delimited, with_front}
use Rattle.fj_list.proofs.Widths.{width_found}
use Rattle.fj_list.proofs.Delimiting.{piece_open, piece_closed, piece_doubled}
use Rattle.fj_list.proofs.scan.Scan.read_piece.Goals as goal

pub returns-then-self-len-clause-piece : goal.returns-then-self-len-clause-piece
returns-then-self-len-clause-piece c = λ to_come.
    let s = c.pieces.self in
    let mark = c.args.mark in
    let w = c.width_to-width.result in
    let is = width_found (λ x. eqb x mark) (drop s.at s.line) _ _ _ c.mark_in.ensures c.width_to-width.ensures (take_rest c.bytes.result.now s.at ∙ ap (drop s.at) c.bytes.ensures) in
    let width : s.at + w - s.at ≡ w = omega arith in
    let pushed : c.push_all.new.self ≡ s.characters ++ take w (drop s.at s.line) =
    c.in_ok-push_all.ensures.ok ∙ ap (λ k. s.characters ++ take k (drop s.at c.bytes-in-pieces.result.now)) width ∙ ap (λ l. s.characters ++ take w (drop s.at l)) c.bytes-in-pieces.ensures in
    sym (c.pieces.invariant.piece to_come) ∙ piece_open mark s.line s.at w s.characters to_come is (omega arith) ∙ ap (λ cs. with_front cs (delimited mark false (stream to_come))) (sym pushed)

pub returns-then-not-stands_at-clause-piece : goal.returns-then-not-stands_at-clause-piece
returns-then-not-stands_at-clause-piece c = λ to_come.
    let s = c.pieces.self in
    let mark = c.args.mark in
    let w = c.width_to-width.result in
    let is = width_found (λ x. eqb x mark) (drop s.at s.line) _ _ _ c.mark_in.ensures c.width_to-width.ensures (take_rest c.bytes.result.now s.at ∙ ap (drop s.at) c.bytes.ensures) in
    let width : s.at + w - s.at ≡ w = omega arith in
    let pushed : c.push_all.new.self ≡ s.characters ++ take w (drop s.at s.line) =
    c.in_ok-push_all.ensures.ok ∙ ap (λ k. s.characters ++ take k (drop s.at c.bytes-in-pieces.result.now)) width ∙ ap (λ l. s.characters ++ take w (drop s.at l)) c.bytes-in-pieces.ensures in
    sym (c.pieces.invariant.piece to_come)
    ∙ piece_closed mark s.line s.at w s.characters to_come c.pieces.invariant.sound.at is (omega arith)
    (λ q. c.stands_at.ensures.no c.if-not-stands_at.true (ap (λ l. slice_get l (s.at + w + 1)) c.bytes-in-pieces-2.ensures ∙ q))
    ∙ ap (λ cs. Some (cs, stream (drop (s.at + w + 1) s.line ∷ to_come))) (sym pushed)

pub pieces-preserved : goal.pieces-preserved
pieces-preserved c =
    let s = c.pieces.self in
    let kept = c.pieces.invariant in
    let mark = c.args.mark in
    let w = c.width_to-width.result in
    let is = width_found (λ x. eqb x mark) (drop s.at s.line) _ _ _ c.mark_in.ensures c.width_to-width.ensures (take_rest c.bytes.result.now s.at ∙ ap (drop s.at) c.bytes.ensures) in
    let width : s.at + w - s.at ≡ w = omega arith in
    let pushed : c.push_all.new.self ≡ s.characters ++ take w (drop s.at s.line) =
    c.in_ok-push_all.ensures.ok ∙ ap (λ k. s.characters ++ take k (drop s.at c.bytes-in-pieces.result.now)) width ∙ ap (λ l. s.characters ++ take w (drop s.at l)) c.bytes-in-pieces.ensures in
    let star : slice_get s.line (s.at + w + 1) ≡ Some mark = sym (ap (λ l. slice_get l (s.at + w + 1)) c.bytes-in-pieces-2.ensures) ∙ c.stands_at.ensures.yes c.if-not-stands_at.false in
    let inside = slice_get_within s.line (s.at + w + 1) mark star in
    record {
      sound = record { at = omega arith; start = kept.sound.start; end = kept.sound.end };
      count = kept.count;
      form = kept.form;
      kept = ap {A = Scan} (λ t. record t { at = s.at + w + 1 + 1; characters = c.push_all-in-pieces.new.self }) kept.kept;
      piece = λ to_come.
          ap (λ cs. with_front cs (delimited mark false (stream (drop (s.at + w + 1 + 1) s.line ∷ to_come)))) (c.in_ok-push_all-2.ensures.ok ∙ ap (λ xs. xs ++ mark ∷ []) pushed)
          ∙ sym (piece_doubled mark s.line s.at w s.characters to_come kept.sound.at is (omega arith) star) ∙ kept.piece to_come;
    }
