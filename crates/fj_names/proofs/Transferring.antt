-- What the steps from a written transfer to its statement say of the answer.
use Rattle.std.proofs.Common.{◌≡◌, List, map, Bool, true, false, ◌&&◌, cond, Option, Some, None, Result, Ok, Err, refl, sym, ap, ◌∙◌}
use Rattle.std.specs.Prelude.{option_map}
use Rattle.std.specs.Option.{IsSome}
use Rattle.std.proofs.lemmas.Bool.{and_from, and_left}
use Rattle.fj_format.specs.declared.item.FormatItem.{FormatItem}
use Rattle.fj_statement.specs.declared.statement.Operand.{Operand}
use Rattle.fj_statement.specs.declared.statement.Statement.{Statement}
use Rattle.fj_statement.specs.declared.statement.Statement.TheVariants as statement
use Rattle.fj_syntax.specs.declared.written.Transfer.{Transfer}
use Rattle.fj_syntax.specs.declared.written.Written.TheVariants as written
use Rattle.fj_syntax.proofs.Holding.{mapped}
use Rattle.fj_names.specs.declared.fault.Fault.{Fault}
use Rattle.fj_names.specs.declared.fault.Fault.TheVariants as fault
use Rattle.fj_names.specs.declared.operand.Meant.{Meant}
use Rattle.fj_names.specs.declared.transfer.Parts.{Parts}
use Rattle.fj_names.specs.declared.scope.Scope.{Scope}
use Rattle.fj_names.specs.Giving.{◌>>=◌, each, Fails}
use Rattle.fj_names.specs.Operands.{meant}
use Rattle.fj_names.specs.Transfer.{are_few, parts, parts_with, is_allowed, is_short, of_items, assembled, transferred, fits}
use Rattle.fj_names.specs.Meaning.{literal_of, IsFormatOf, meaning, is_within_limits, HasNoMeaning, Means}
use Rattle.fj_names.specs.Assembling.{Assembles}

abbrev answer_of : Option (List FormatItem) → Transfer → Option Parts → Option Statement
answer_of items t read = read >>= (λ p. cond (is_allowed items t) (Some (statement.Transfer (assembled items t p))) None)

meaning_is : (s : Scope) (items : Option (List FormatItem)) (t : Transfer) → meaning s items (written.Transfer t) ≡ answer_of items t (parts s t)
unfolding meaning transferred
meaning_is s items t = refl

none_allowed : (items : Option (List FormatItem)) (t : Transfer) (read : Option Parts) → is_allowed items t ≡ false → answer_of items t read ≡ None
none_allowed items t None h = refl
none_allowed items t (Some p) h = rw h refl

pub not_allowed : (s : Scope) (items : Option (List FormatItem)) (t : Transfer) → IsFormatOf (literal_of t.format) items → is_allowed items t ≡ false →
    HasNoMeaning s (written.Transfer t)
not_allowed s items t f h = record { items = items; format = f; none = meaning_is s items t ∙ none_allowed items t (parts s t) h }

none_fails : (s : Scope) (items : Option (List FormatItem)) (t : Transfer) (error : Fault) → IsFormatOf (literal_of t.format) items → Fails error (parts s t) → Means s (written.Transfer t) (Err error)
none_fails s items t (fault.Memory e) f h = tt
none_fails s items t (fault.Format at) f h = absurd h
none_fails s items t fault.NoMeaning f h = record { items = items; format = f; none = meaning_is s items t ∙ ap (answer_of items t) h }
none_fails s items t fault.TooMany f h = absurd h

-- what the items of a statement mean as operands, and whether they are few
abbrev chosen : Scope → Transfer → Option (List Operand × Bool)
chosen s t = option_map (λ ms. (map (λ m. m.operand) ms, are_few ms)) (each (meant s) t.items)

pub items_fail : (s : Scope) (items : Option (List FormatItem)) (t : Transfer) (error : Fault) → IsFormatOf (literal_of t.format) items → Fails error (chosen s t) → Means s (written.Transfer t) (Err error)
unfolding parts
items_fail s items t error f h = none_fails s items t error f (by (each (meant s) t.items) error h) where
  by : (o : Option (List Meant)) (e : Fault) → Fails {A = List Operand × Bool} e (option_map (λ ms. (map (λ m. m.operand) ms, are_few ms)) o) → Fails e (o >>= (λ ms. parts_with s t (map (λ m. m.operand) ms)))
  by o (fault.Memory x) k = tt
  by o (fault.Format at) k = absurd k
  by None fault.NoMeaning k = refl
  by (Some ms) fault.NoMeaning k = cc
  by o fault.TooMany k = absurd k

-- with the operands chosen
record IsChosen (s : Scope) (t : Transfer) (operands : List Operand) (few : Bool) : Type 0 where
  parts_are : parts s t ≡ parts_with s t operands
  few_is : of_items (each (meant s) t.items) ≡ few

chosen_is : (s : Scope) (t : Transfer) (operands : List Operand) (few : Bool) (x : List Operand × Bool) → x ≡ (operands, few) → chosen s t ≡ Some x → IsChosen s t operands few
unfolding parts
chosen_is s t operands few x e h =
    let ms = mapped (λ ms. (map (λ m. m.operand) ms, are_few ms)) (each (meant s) t.items) x h in
    let items : map (λ m. m.operand) ms.0 ≡ operands = ap (λ y. y.0) (sym ms.2 ∙ e) in
    let is : are_few ms.0 ≡ few = ap (λ y. y.1) (sym ms.2 ∙ e) in
    record { parts_are = rw (ms.1, items) refl; few_is = rw ms.1 is }

pub parts_fail : (s : Scope) (items : Option (List FormatItem)) (t : Transfer) (error : Fault) (operands : List Operand) (few : Bool) → IsFormatOf (literal_of t.format) items
    → chosen s t ≡ Some (operands, few) → Fails error (parts_with s t operands) → Means s (written.Transfer t) (Err error)
parts_fail s items t error operands few f c h =
    let is : IsChosen s t operands few = chosen_is s t operands few (operands, few) refl c in none_fails s items t error f (rw is.parts_are h)

has_answer : (s : Scope) (items : Option (List FormatItem)) (t : Transfer) (p : Parts) → is_allowed items t ≡ true → parts s t ≡ Some p →
    meaning s items (written.Transfer t) ≡ Some (statement.Transfer (assembled items t p))
has_answer s items t p h k = meaning_is s items t ∙ rw (k, h) refl

is_some_from : (o : Option Statement) (m : Statement) → o ≡ Some m → IsSome o
is_some_from None m h = absurd (cc)
is_some_from (Some n) m h = refl

module _ (s : Scope) (items : Option (List FormatItem)) (t : Transfer) (f : IsFormatOf (literal_of t.format) items) (h : is_allowed items t ≡ true)
    (operands : List Operand) (few : Bool) (c : chosen s t ≡ Some (operands, few)) (p : Parts) (k : parts_with s t operands ≡ Some p) where
  limits_are : is_within_limits s items (written.Transfer t) ≡ (is_short items && few)
  unfolding is_within_limits fits
  limits_are = let is : IsChosen s t operands few = chosen_is s t operands few (operands, few) refl c in rw is.few_is refl

  answers : meaning s items (written.Transfer t) ≡ Some (statement.Transfer (assembled items t p))
  answers = let is : IsChosen s t operands few = chosen_is s t operands few (operands, few) refl c in has_answer s items t p h (is.parts_are ∙ k)

  pub beyond : (is_short items && few) ≡ false → Means s (written.Transfer t) (Err fault.TooMany)
  beyond e = record { items = items; format = f; some = is_some_from _ _ answers; beyond = limits_are ∙ e }

  pub assembles : few ≡ true → (result : Result Statement Fault) → Assembles items t p result → Means s (written.Transfer t) result
  assembles e (Ok m) a = record { items = items; format = f; is = answers ∙ ap (λ n. Some n) (sym a.0); within = limits_are ∙ and_from (is_short items) few a.1 e }
  assembles e (Err (fault.Memory x)) a = tt
  assembles e (Err (fault.Format at)) a = absurd a
  assembles e (Err fault.NoMeaning) a = absurd a
  assembles e (Err fault.TooMany) a = beyond (and_left (is_short items) few a)
