use Rattle.std.proofs.Common.{sym, subst}
use Rattle.std.proofs.lemmas.Result.{err_from_is_err_and}
use Rattle.fj_names.specs.Declaring.{Declares, Groups, with_declaration, with_group}
use Rattle.fj_deck.specs.Faults.{of_meaning}
use Rattle.fj_deck.specs.Line.{Adds, Declaring, Refuses}
use Rattle.fj_deck.specs.Seen.{begun_of}
use Rattle.fj_deck.proofs.LineLemmas.{declaration_refused}
use Rattle.fj_deck.proofs.draft.Draft.add.Goals as goal

pub returns-in_err-declare-in-Declaration : goal.returns-in_err-declare-in-Declaration
returns-in_err-declare-in-Declaration c =
    let p = err_from_is_err_and c.from_residual.result c.from_residual.ensures.1 in
    rw (p.1, p.2)
    (subst (λ w. Refuses (Adds (begun_of c.args.self.now) c.args.number w) (of_meaning c.in_err-declare-in-Declaration.field-0.0)) (sym c.in-Declaration.is)
    (declaration_refused _ (Declares (with_declaration c.args.self.now.names c.args.number c.in-Declaration.declaration)) c.declare.new.self c.in_err-declare-in-Declaration.field-0.0 c.in_err-declare-in-Declaration.ensures))

pub returns-in_err-group-in-Group : goal.returns-in_err-group-in-Group
returns-in_err-group-in-Group c =
    let p = err_from_is_err_and c.from_residual-in_err-group-in-Group.result c.from_residual-in_err-group-in-Group.ensures.1 in
    rw (p.1, p.2)
    (subst (λ w. Refuses (Adds (begun_of c.args.self.now) c.args.number w) (of_meaning c.in_err-group-in-Group.field-0.0)) (sym c.in-Group.is)
    (declaration_refused _ (Groups (with_group c.args.self.now.names c.args.number c.in-Group.group)) c.group.new.self c.in_err-group-in-Group.field-0.0 c.in_err-group-in-Group.ensures))

pub returns-in_ok-declare-in-Declaration : goal.returns-in_ok-declare-in-Declaration
returns-in_ok-declare-in-Declaration c = rw c.in-Declaration.is (Declaring.added c.declare.new.self c.in_ok-declare-in-Declaration.ensures)

pub returns-in_ok-group-in-Group : goal.returns-in_ok-group-in-Group
returns-in_ok-group-in-Group c = rw c.in-Group.is (Declaring.added c.group.new.self c.in_ok-group-in-Group.ensures)
