use Rattle.std.proofs.Common.{◌≡◌, ◌+◌, true, false, [], subst, refl, sym, ap, ◌∙◌, arith}
use Rattle.fj_format.specs.declared.place.FormatPlace.TheVariants.{Begin, Done}
use Rattle.fj_format.specs.declared.scanner.Scanner.{Scanner}
use Rattle.fj_format.proofs.Scanned.{Stands, stands_first}
use Rattle.fj_format.proofs.Parsed.{refused, taken, done_items, short}
use Rattle.fj_format.proofs.format.parse_items.Goals as goal

pub loop-i-init : goal.loop-i-init
loop-i-init c = record {
  stands = subst (Stands []) (sym c.new-scanner.ensures) stands_first;
  not_done = λ e. (let k : Begin ≡ Done = ap (λ (s : Scanner). s.reader.place) (sym c.new-scanner.ensures) ∙ e in cc);
}

pub returns-then-not-branch : goal.returns-then-not-branch
returns-then-not-branch c =
    refused c.args.text.now c.loop-i.i c.loop-i.scanner c.take.new.self c.in_ok-take.field-0 (omega arith) c.loop-i.invariant.not_done c.loop-i.invariant.stands c.in_ok-take.ensures c.if-not-branch.true

pub returns-then-is_done : goal.returns-then-is_done
returns-then-is_done c =
    done_items c.args.text.now (c.loop-i.i + 1) c.take.new.self c.into_items.result (c.if-is_done.ensures.0 refl)
    (taken c.args.text.now c.loop-i.i c.loop-i.scanner c.take.new.self c.in_ok-take.field-0 (omega arith) c.loop-i.invariant.not_done c.loop-i.invariant.stands c.in_ok-take.ensures c.if-not-branch.false)
    c.into_items.ensures

pub loop-i-preserved : goal.loop-i-preserved
loop-i-preserved c = record {
  stands = taken c.args.text.now c.loop-i.i c.loop-i.scanner c.take.new.self c.in_ok-take.field-0 (omega arith) c.loop-i.invariant.not_done c.loop-i.invariant.stands c.in_ok-take.ensures c.if-not-branch.false;
  not_done = λ e. (let k : false ≡ true = c.if-is_done.ensures.1 e in cc);
}

pub returns : goal.returns
returns c = short c.args.text.now c.loop-i.i c.loop-i.scanner (omega arith) c.loop-i.invariant.not_done c.loop-i.invariant.stands
