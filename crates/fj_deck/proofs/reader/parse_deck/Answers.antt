use Rattle.std.proofs.Common.{◌≡◌, ◌<◌, ◌∷◌, sym, ◌∙◌, arith, length}
use Rattle.std.specs.Str.Lines.{lines}
use Rattle.fj_deck.specs.Deck.{IsRefused}
use Rattle.fj_deck.specs.Seen.{begun_of}
use Rattle.fj_deck.proofs.RunLemmas.{shorter, one_more, fault_at, with_end, without_end}
use Rattle.fj_deck.proofs.SoundLemmas.{sound_deck}
use Rattle.fj_deck.proofs.reader.parse_deck.Goals as goal

pub returns-then-text-gt-MAX_TEXT : goal.returns-then-text-gt-MAX_TEXT
returns-then-text-gt-MAX_TEXT c = record { answer = IsRefused.long c.if-text-gt-MAX_TEXT.true; sound = tt }

pub returns-in-Err : goal.returns-in-Err
returns-in-Err c =
    rw c.at.ensures
    (record {
      answer = fault_at c.args.text.now c.reading.rest.now c.in-Some.line.now c.in-Some.more.now c.reading.number (begun_of c.reading.draft) c.in-Err.fault (omega arith) c.in-Some.ensures.first c.reading.invariant.read c.in-Err.ensures;
      sound = tt;
    })

pub reading-preserved : goal.reading-preserved
reading-preserved c =
    let first : lines c.reading.rest.now ≡ c.in-Some.line.now ∷ lines c.in-Some.more.now = c.in-Some.ensures.first in
    let less : length c.in-Some.more.now < length c.reading.rest.now = shorter c.reading.rest.now c.in-Some.line.now c.in-Some.more.now first c.in-Some.ensures.behind in
    record {
      read = one_more c.args.text.now c.reading.rest.now c.in-Some.line.now c.in-Some.more.now c.reading.number (begun_of c.reading.draft) (begun_of c.take.new.self) first c.reading.invariant.read c.in_default-take.ensures;
      small = omega arith;
    }

pub returns-then-not-has_ended : goal.returns-then-not-has_ended
returns-then-not-has_ended c = record {
  answer = without_end c.args.text.now c.reading.rest.now c.reading.number (begun_of c.reading.draft) (omega arith) c.in_default.ensures.none c.reading.invariant.read (sym c.has_ended.ensures ∙ c.if-not-has_ended.true);
  sound = tt;
}

pub returns-clause-sound : goal.returns-clause-sound
returns-clause-sound c =
    sound_deck c.args.text.now c.into_deck.result
    (with_end c.args.text.now c.reading.rest.now c.reading.number (begun_of c.reading.draft) c.into_deck.result (omega arith) c.in_default.ensures.none c.reading.invariant.read (sym c.has_ended.ensures ∙ c.if-not-has_ended.false) c.into_deck.ensures)
