use Rattle.std.proofs.Common.{◌≡◌, ◌<◌, false, true, None, IsSome, length, refl, sym, ap, subst, ◌∙◌}
use Rattle.std.specs.Option.{option_map}
use Rattle.fj_meaning.specs.State.{Files}
use Rattle.fj_run_script.specs.Asking.{inquired_of}
use Rattle.fj_run_script.specs.Going.{IsGoing}
use Rattle.fj_run_script.specs.Looking.{HasLooked, question_in}
use Rattle.fj_run_script.proofs.machine.Machine.looked.Goals as goal

pub unreachable-requires : goal.unreachable-requires
unreachable-requires g c =
    let no_files : Files = λ name. None in
    let some = subst IsSome (sym (c.inquired.ensures.question no_files) ∙ ap (option_map inquired_of) c.in_default.is) (c.requires no_files) in
    let bad : false ≡ true = some in
    cc

pub keep_look-requires-clause-question : goal.keep_look-requires-clause-question
keep_look-requires-clause-question g c = λ files.
    ap (question_in files) c.inquired.ensures.same ∙ sym (c.inquired.ensures.question files) ∙ ap (option_map inquired_of) c.in-Some.is

pub keep_look-requires-clause-inside : goal.keep_look-requires-clause-inside
keep_look-requires-clause-inside g c =
    let inside = c.inquired.ensures.inside (subst IsSome (sym c.in-Some.is) refl) in
    subst (λ m. m.at.place < length m.deck.statements) (sym c.inquired.ensures.same) inside

pub returns-clause-looks : goal.returns-clause-looks
returns-clause-looks g c = subst (λ m. HasLooked g.F.FileStore.told g.F.FileStore.bytes c.args.done m c.keep_look.new.self) c.inquired.ensures.same c.keep_look.ensures.looks

pub returns-clause-on : goal.returns-clause-on
returns-clause-on g c = λ going. c.keep_look.ensures.on (subst IsGoing (sym c.inquired.ensures.same) going)
