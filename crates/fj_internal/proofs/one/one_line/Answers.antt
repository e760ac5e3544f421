use Rattle.std.proofs.Common.{◌≡◌, ℕ, ◌<◌, List, length, take, ap, ◌∙◌, sym, arith, rules}
use Rattle.std.proofs.lemmas.Grind.{common_steps}
use Rattle.fj_value.specs.Reading.{assigned_text}
use Rattle.fj_value.specs.declared.value.Value.TheVariants.{Chars}
use Rattle.fj_seqrec.proofs.Positions.{line_feed_place}
use Rattle.fj_internal.specs.Internal.{value_of}
use Rattle.fj_seqrec.specs.Lines.{first_line}
use Rattle.fj_internal.proofs.OneLine.{one_put, more_put}
use Rattle.fj_internal.proofs.one.one_line.Goals as goal

pub returns-then-place-len : goal.returns-then-place-len
returns-then-place-len c = λ cell long.
    let place : c.feed_place-place.result ≡ line_feed_place c.args.bytes = c.feed_place-place.ensures ∙ ap line_feed_place c.bytes-2.ensures in
    more_put c.args.bytes cell (omega (arith, place, c.len.ensures, c.if-place-len.true))

pub returns : goal.returns
returns c = λ cell long.
    let place : c.feed_place-place.result ≡ line_feed_place c.args.bytes = c.feed_place-place.ensures ∙ ap line_feed_place c.bytes-2.ensures in
    let some : 0 < length c.args.bytes = first_of (omega arith, search rules, grind (arith, common_steps)) in
    let cut : c.truncate.new.self ≡ first_line c.args.bytes = c.truncate.ensures ∙ ap (λ (b : List ℕ). take c.line_length-count.result b) (sym c.bytes-3.ensures) ∙ c.line_length-count.ensures ∙ ap first_line c.bytes-3.ensures in
    let value : c.in_ok-of_text.field-0 ≡ value_of c.args.size (first_line c.args.bytes) = c.in_ok-of_text.ensures ∙ ap (λ (t : List ℕ). Chars t) (c.in_ok-assign_length.ensures.ok ∙ ap (assigned_text c.args.size) cut) in
    one_put c.args.bytes cell c.args.size c.in_ok-of_text.field-0 some (omega (arith, place, c.len.ensures, c.if-place-len.false)) long value
