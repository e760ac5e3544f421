use Rattle.std.proofs.Common.{◌≡◌, Some, false, ◌∙◌, ap}
use Rattle.fj_store.specs.declared.slot.Slot.{Slot}
use Rattle.fj_store.proofs.CopyLemmas.{at_home, remarked, out_again}
use Rattle.fj_store.proofs.copied.copied_at.Goals as goal

pub returns-in-Some-Home-clause-same : goal.returns-in-Some-Home-clause-same
returns-in-Some-Home-clause-same c =
    (remarked c.args.slots.now c.replace.new.self c.put.new.self c.args.place c.replace.result c.in-Some-Home.field-0-0 c.args.at c.in-Some-Home.value c.replace.ensures.old
    (c.in-Some-Home.is ∙ ap (λ (x : Slot). Some x) c.in-Some-Home.field-0-is) c.replace.ensures.new c.put.ensures).0

pub returns-in-Some-Home-clause-marked : goal.returns-in-Some-Home-clause-marked
returns-in-Some-Home-clause-marked c =
    (remarked c.args.slots.now c.replace.new.self c.put.new.self c.args.place c.replace.result c.in-Some-Home.field-0-0 c.args.at c.in-Some-Home.value c.replace.ensures.old
    (c.in-Some-Home.is ∙ ap (λ (x : Slot). Some x) c.in-Some-Home.field-0-is) c.replace.ensures.new c.put.ensures).1

pub returns-in-Some-Out : goal.returns-in-Some-Out
returns-in-Some-Out c =
    let out : at_home c.replace.result ≡ false = ap at_home (c.in-Some-Out.is ∙ ap (λ (x : Slot). Some x) c.in-Some-Out.field-0-is) in
    let done = out_again c.args.slots.now c.replace.new.self c.args.place c.replace.result c.args.at c.replace.ensures.old out c.replace.ensures.new in
    record { value = done.2; same = done.0; marked = done.1 }

pub returns-in-None : goal.returns-in-None
returns-in-None c =
    let out : at_home c.replace.result ≡ false = ap at_home c.in-None.is in
    let done = out_again c.args.slots.now c.replace.new.self c.args.place c.replace.result c.args.at c.replace.ensures.old out c.replace.ensures.new in
    record { value = done.2; same = done.0; marked = done.1 }
