-- The variables of a store as plain ones.
use Rattle.std.proofs.Common.{◌≡◌, ℕ, List, [], ◌∷◌, map, slice_get, Option, Some, None, refl, ap, ◌∙◌}
use Rattle.std.specs.Prelude.{unwrap_or}
use Rattle.std.specs.Option.{option_map, option_map_or}
use Rattle.std.proofs.lemmas.Option.{slice_get-map}
use Rattle.fj_value.specs.declared.kind.Kind.{Kind}
use Rattle.fj_value.specs.declared.kind.Kind.TheVariants.{Logical}
use Rattle.fj_value.specs.declared.place.Place.{Place}
use Rattle.fj_value.specs.declared.value.Cell.{Cell}
use Rattle.fj_value.specs.declared.value.Value.{Value}
use Rattle.fj_value.specs.declared.value.Value.TheVariants.{Undefined}
use Rattle.fj_statement.specs.declared.deck.Variable.{Variable}
use Rattle.fj_store.specs.Kinds.{kind_at, of_kind}
use Rattle.fj_store.specs.Tables.{with_element, with_cells}
use Rattle.fj_store.specs.Storage.{Storage, with_value, returned, given_back, values_of}
use Rattle.fj_store.specs.Variables as plain
use Rattle.fj_store.proofs.TableLemmas.{mapped_with}
use Rattle.fj_meaning.specs.Items.{kind_of}
use Rattle.fj_meaning.specs.Items as items

abbrev pub AreKinds : List Kind → List Variable → Type 0
AreKinds kinds variables = kinds ≡ map (λ (v : Variable). v.kind) variables

pub kind_is : (variables : List Variable) (kinds : List Kind) (var : ℕ) → AreKinds kinds variables → kind_at kinds var ≡ kind_of variables var
kind_is variables kinds var are =
    ap (λ ks. kind_at ks var) are ∙ ap (λ o. unwrap_or o Logical) (slice_get-map (λ (v : Variable). v.kind) variables var) ∙ go (slice_get variables var)
  where
    go : (o : Option Variable) → unwrap_or (option_map (λ (v : Variable). v.kind) o) Logical ≡ option_map_or (λ (v : Variable). v.kind) o Logical
    go None = refl
    go (Some v) = refl

abbrev pub shown : Option Value → Value
shown o = unwrap_or o Undefined

-- a place gets a value as its kind has it
pub set_is : (variables : List Variable) (s new : Storage) (p : Place) (v : Value) → AreKinds s.kinds variables → new ≡ with_value s p v
    → values_of new ≡ plain.with_value (values_of s) p (of_kind (kind_of variables p.var) v)
set_is variables s new p v are put =
    ap values_of put
    ∙ mapped_with shown s.values p (Some (of_kind (kind_at s.kinds p.var) v))
    ∙ ap (λ k. with_element (values_of s) p (of_kind k v)) (kind_is variables s.kinds p.var are)

-- cells come back
back_rows : (variables : List Variable) (kinds : List Kind) (cells : List Cell) (rows : List (List (Option Value))) → AreKinds kinds variables
    → map (map shown) (with_cells (returned kinds) cells rows) ≡ items.given_back variables cells (map (map shown) rows)
back_rows variables kinds [] rows are = refl
back_rows variables kinds (c ∷ cells) rows are =
    back_rows variables kinds cells (with_element rows c.place (returned kinds c)) are
    ∙ ap (items.given_back variables cells) (
    mapped_with shown rows c.place (returned kinds c)
    ∙ ap (λ k. with_element (map (map shown) rows) c.place (of_kind k c.value)) (kind_is variables kinds c.place.var are))

pub back_is : (variables : List Variable) (s new : Storage) (cells : List Cell) → AreKinds s.kinds variables → new ≡ given_back cells s
    → values_of new ≡ items.given_back variables cells (values_of s)
back_is variables s new cells are back = ap values_of back ∙ back_rows variables s.kinds cells s.values are
