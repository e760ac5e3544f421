use Rattle.std.proofs.Common.{◌≡◌, ℕ, List, ◌+◌, ◌≤◌, ◌<◌, length, take, drop, rules, arith, ap, subst, refl, sym, ◌∙◌}
use Rattle.std.proofs.lemmas.List.{length-take-le}
use Rattle.fj_seqrec.specs.Reading.{record_at, HoldsRecord}
use Rattle.fj_seqrec.specs.Parts.{IsPartOf}
use Rattle.fj_seqrec.proofs.Positions.{line_feed_place, place_none_more}
use Rattle.fj_seqrec.proofs.ReadLaws.{record_found, record_longer, rest_more, at_long, fitted_answer}
use Rattle.fj_seqrec.proofs.read.read_record.Goals as goal
use Rattle.fj_seqrec.proofs.read.read_record.Goals.{In_ok-width, After-fitted}

-- the part of the line, in the file as it was
part_taken : (g : _) (c : In_ok-width g) → g.F.FileStore.tells c.args.file.now
    → IsPartOf (drop c.reading.from (g.F.FileStore.bytes c.args.file.now)) c.reading.into c.in_ok-width.field-0 c.take_part.new.into
part_taken g c = λ t.
    let kept = c.reading.invariant in
    subst (λ (held : List ℕ). IsPartOf (drop c.reading.from held) c.reading.into c.in_ok-width.field-0 c.take_part.new.into) (kept.same t) (c.in_ok-width.ensures.part (kept.telling.0 t))

-- the answer and the text where a line feed was found
found_record : (g : _) (c : After-fitted g) → g.F.FileStore.tells c.args.file.now
    → (c.fitted.result ≡ record_at (g.F.FileStore.bytes c.args.file.now) c.args.at c.args.limit) × HoldsRecord (g.F.FileStore.bytes c.args.file.now) c.args.at c.fitted.result c.fitted.new.line
found_record g c = λ t.
    let kept = c.reading.invariant in
    let part = rw c.in-Ended.is at (part_taken g (goal.at.returns-in-Ended-clause-answer g c).In_ok-width t) in
    let is = record_found _ _ _ _ c.args.at c.reading.from c.in-Ended.width (kept.rest t) (kept.none t) kept.place part.0 part.1 part.2 c.drop_return.ensures in
    fitted_answer _ _ c.args.limit _ _ _ _ is (record { whole = c.fitted.ensures.line; too_long = c.fitted.ensures.too_long })

pub returns-in-Ended-clause-answer : goal.returns-in-Ended-clause-answer
returns-in-Ended-clause-answer g c = λ t. (found_record g c t).0

pub returns-in-Ended-clause-text : goal.returns-in-Ended-clause-text
returns-in-Ended-clause-text g c = λ t. (found_record g c t).1

-- a part with no line feed has none, to its end
whole_part : (rest : List ℕ) (width : ℕ) → width ≤ length rest → width ≡ line_feed_place (take width rest) → length (take width rest) ≡ line_feed_place (take width rest)
whole_part rest width fits none = length-take-le width rest fits ∙ none

pub returns-then-len-limit-clause-answer : goal.returns-then-len-limit-clause-answer
returns-then-len-limit-clause-answer g c = λ t.
    let kept = c.reading.invariant in
    let part = rw c.in-Open.is at (part_taken g (goal.at.returns-then-len-limit-clause-answer g c).In_ok-width t) in
    let rest = rest_more _ _ _ _ c.args.at c.reading.from c.in-Open.width (kept.rest t) refl part.2 in
    let long = record_longer _ _ c.args.at (c.reading.from + c.in-Open.width) c.args.limit rest (place_none_more _ _ _ (kept.none t) (whole_part _ _ part.0 part.1) part.2) (omega arith) in
    at_long _ c.args.at c.args.limit long.0 long.1

pub reading-preserved : goal.reading-preserved
reading-preserved g c =
    let kept = c.reading.invariant in
    let within = rw c.in-Open.is at c.in_ok-width.ensures.within in
    record {
      within = omega (arith, within, kept.size, c.len-len.ensures.size);
      place = omega (arith, within);
      short = search rules;
      telling = search rules;
      same = search rules;
      rest = λ t.
          let part = rw c.in-Open.is at (part_taken g (goal.at.reading-preserved g c).In_ok-width t) in
          rest_more _ _ _ _ c.args.at c.reading.from c.in-Open.width (kept.rest t) refl part.2;
      none = λ t.
          let part = rw c.in-Open.is at (part_taken g (goal.at.reading-preserved g c).In_ok-width t) in
          place_none_more _ _ _ (kept.none t) (whole_part _ _ part.0 part.1) part.2;
      size = search rules;
      later = search rules;
    }
