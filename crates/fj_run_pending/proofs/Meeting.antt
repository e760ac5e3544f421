-- What a statement needs by the unit that is asked about, and where its specifiers define a place twice.
use Rattle.std.proofs.Common.{◌≡◌, ℕ, ◌||◌, Bool, true, false, List, [], Option, Some, None, refl, sym, ap, ◌∙◌}
use Rattle.std.specs.List.{list_any}
use Rattle.std.specs.Option.{option_map_or}
use Rattle.fj_value.specs.declared.place.Place.{Place}
use Rattle.fj_statement.specs.Units.{internal_of}
use Rattle.fj_statement.specs.declared.unit.InternalFile.{InternalFile}
use Rattle.fj_statement.specs.declared.unit.Subject.TheVariants as subject
use Rattle.fj_statement.specs.declared.unit.UnitRef.{UnitRef}
use Rattle.fj_statement.specs.declared.unit.UnitRef.TheVariants as unit
use Rattle.fj_statement.specs.declared.deck.Variable.{Variable}
use Rattle.fj_statement.specs.declared.statement.Statement.{Statement}
use Rattle.fj_statement.specs.declared.statement.Statement.TheVariants as statement
use Rattle.fj_store.specs.Places.{is_among, has_twice}
use Rattle.fj_store.specs.Variables.{Variables}
use Rattle.fj_book.proofs.AnyLemmas.{any_never}
use Rattle.fj_meaning.specs.Items.{file_places}
use Rattle.fj_meaning.specs.Needs.{need_by, inquiry_need, internal_places}
use Rattle.fj_run_pending.specs.Asks.{IsUnitAsked}

-- ---- the unit that is asked about

pub same_need : (variables : List Variable) (vars : Variables) (named : Option ℕ) (unit_named : List ℕ → Option ℕ) (st : Statement) → IsUnitAsked named unit_named st
    → need_by variables vars (λ name. named) st ≡ need_by variables vars unit_named st
same_need variables vars named unit_named (statement.Assign to from) asked = refl
same_need variables vars named unit_named (statement.OpenUnit u spec iostat) asked = refl
same_need variables vars named unit_named (statement.CloseUnit u keep iostat) asked = refl
same_need variables vars named unit_named (statement.WaitFor u id iostat) asked = refl
same_need variables vars named unit_named (statement.Move how u iostat) asked = refl
same_need variables vars named unit_named (statement.Inquire (subject.Unit u) asked id iostat _) is = refl
same_need variables vars named unit_named (statement.Inquire (subject.File name) asked id iostat _) is = ap (λ unit. inquiry_need variables vars unit [] asked id iostat) is
same_need variables vars named unit_named (statement.Transfer t) asked = refl
same_need variables vars named unit_named statement.End asked = refl

-- ---- specifiers that define a place twice

or_none : (b : Bool) → (b || false) ≡ b
or_none true = refl
or_none false = refl

-- where nothing is transferred
pub alone_twice : (s : List Place) → has_twice s ≡ (has_twice s || (list_any (is_among []) s || (list_any (is_among []) s || false)))
alone_twice s = sym (ap (λ b. has_twice s || (b || (b || false))) (any_never s) ∙ or_none (has_twice s))

-- ---- the elements of an internal file

pub elements_at : (variables : List Variable) (u : UnitRef) → internal_places variables u ≡ option_map_or (file_places variables) (internal_of u) []
elements_at variables unit.Star = refl
elements_at variables (unit.Number n) = refl
elements_at variables (unit.Held place n) = refl
elements_at variables (unit.New place n) = refl
elements_at variables (unit.Internal file) = refl

pub file_at : (variables : List Variable) (u : UnitRef) (file : InternalFile) → Some file ≡ internal_of u → file_places variables file ≡ internal_places variables u
file_at variables u file is = ap (λ (o : Option InternalFile). option_map_or (file_places variables) o []) is ∙ sym (elements_at variables u)

pub no_file : (variables : List Variable) (u : UnitRef) → None ≡ internal_of u → [] ≡ internal_places variables u
no_file variables u is = ap (λ (o : Option InternalFile). option_map_or (file_places variables) o []) is ∙ sym (elements_at variables u)

abbrev within : List Place → List Place → List Place → Bool
within internal s items = list_any (is_among internal) s || list_any (is_among internal) items

-- where no specifier is one of them: an item is
pub stands_in : (variables : List Variable) (u : UnitRef) (file : InternalFile) (internal s items : List Place) (one other : Bool) → Some file ≡ internal_of u → internal ≡ file_places variables file
    → one ≡ list_any (is_among internal) s → one ≡ false → other ≡ list_any (is_among internal) items
    → other ≡ (list_any (is_among (internal_places variables u)) s || list_any (is_among (internal_places variables u)) items)
stands_in variables u file internal s items one other is same one_is none other_is =
    other_is ∙ sym (ap (λ b. b || list_any (is_among internal) items) (sym one_is ∙ none)) ∙ ap (λ ps. within ps s items) (same ∙ file_at variables u file is)

-- none is one of no elements
pub stands_out : (variables : List Variable) (u : UnitRef) (s items : List Place) → None ≡ internal_of u
    → false ≡ (list_any (is_among (internal_places variables u)) s || list_any (is_among (internal_places variables u)) items)
stands_out variables u s items is = sym (ap (λ b. b || list_any (is_among []) items) (any_never s) ∙ any_never items) ∙ ap (λ ps. within ps s items) (no_file variables u is)
