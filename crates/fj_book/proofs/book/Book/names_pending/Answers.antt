use Rattle.std.proofs.Common.{◌≡◌, ℕ, ℤ, pos, ◌<ℤ◌, Option, Some, None, sym, ap, subst, ◌∙◌, rules}
use Rattle.std.proofs.lemmas.Int.{to_z-of_z}
use mir.Val.{to_z, of_z}
use mir.Syntax.{w64}
use Rattle.fj_book.specs.Entries.{holders, tag_of}
use Rattle.fj_book.specs.Prohibitions.{names_pending}
use Rattle.fj_book.proofs.BookLemmas.{ids_unitless, ids_low, ids_absent, ids_at}
use Rattle.fj_book.proofs.book.Book.names_pending.Goals as goal

pub returns-in_default-unit : goal.returns-in_default-unit
returns-in_default-unit c =
    sym (ap (λ (u : Option ℕ). names_pending (holders c.args.self.now) u c.args.id) c.in_default-unit.is ∙ ap (λ (i : Option ℤ). names_pending (holders c.args.self.now) None i) c.in-Some.is ∙ ids_unitless c.in-Some.id c.args.self.now)

pub returns-in_default-number_of : goal.returns-in_default-number_of
returns-in_default-number_of c =
    let same : to_z w64 (of_z w64 c.in-Some.id) ≡ c.in-Some.id = search (rules, to_z-of_z) in
    let low : c.in-Some.id <ℤ pos 0 = subst (λ z. z <ℤ pos 0) same c.in_default-number_of.ensures in
    sym (ap (λ (i : Option ℤ). names_pending (holders c.args.self.now) c.args.unit i) c.in-Some.is ∙ ids_low c.args.unit c.in-Some.id c.args.self.now low)

pub returns-in_default-place_of : goal.returns-in_default-place_of
returns-in_default-place_of c =
    let same : to_z w64 (of_z w64 c.in-Some.id) ≡ c.in-Some.id = search (rules, to_z-of_z) in
    sym (ap (λ (u : Option ℕ). names_pending (holders c.args.self.now) u c.args.id) c.in-Some-unit.is ∙ ap (λ (i : Option ℤ). names_pending (holders c.args.self.now) (Some c.in-Some-unit.unit) i) (c.in-Some.is ∙ ap (λ (z : ℤ). Some z) (sym same ∙ c.in-Some-number_of.ensures))
    ∙ ap (λ es. names_pending (holders es) (Some c.in-Some-unit.unit) (Some (pos c.in-Some-number_of.number))) (sym c.self.view_is)
    ∙ ids_absent c.in-Some-unit.unit c.in-Some-number_of.number c.self.inside.entries.items c.in_default-place_of.ensures.none)

pub returns : goal.returns
returns c =
    let same : to_z w64 (of_z w64 c.in-Some.id) ≡ c.in-Some.id = search (rules, to_z-of_z) in
    let tag : tag_of c.index.result.now ≡ c.in-Some-number_of.number = ap tag_of c.index.ensures ∙ c.in-Some-place_of.ensures.some.1 c.index.result.now in
    sym (ap (λ (u : Option ℕ). names_pending (holders c.args.self.now) u c.args.id) c.in-Some-unit.is
    ∙ ap (λ (i : Option ℤ). names_pending (holders c.args.self.now) (Some c.in-Some-unit.unit) i) (c.in-Some.is ∙ ap (λ (z : ℤ). Some z) (sym same ∙ c.in-Some-number_of.ensures ∙ ap pos (sym tag)))
    ∙ ap (λ es. names_pending (holders es) (Some c.in-Some-unit.unit) (Some (pos (tag_of c.index.result.now)))) (sym c.self.view_is)
    ∙ ids_at c.in-Some-unit.unit c.self.inside.entries.items c.in-Some-place_of.at c.index.result.now c.self.invariant.ascending c.in-Some-place_of.ensures.some.0 (sym c.index.ensures))
