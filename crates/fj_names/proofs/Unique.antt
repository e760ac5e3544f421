-- A statement has one answer.
use Rattle.std.proofs.Common.{◌≡◌, ℕ, List, Bool, true, false, Option, Some, None, Result, Ok, Err, ◌⊎◌, inl, inr, refl, sym, ap, ◌∙◌, subst}
use Rattle.std.proofs.lemmas.Bool.{cases_order}
use Rattle.std.specs.Option.{IsSome}
use Rattle.fj_format.specs.declared.item.FormatItem.{FormatItem}
use Rattle.fj_format.specs.Grammar.{IsUnambiguous}
use Rattle.fj_format.specs.Parsing.{IsNoFormat}
use Rattle.fj_statement.specs.declared.statement.Statement.{Statement}
use Rattle.fj_syntax.specs.declared.written.Written.{Written}
use Rattle.fj_names.specs.declared.fault.Fault.{Fault}
use Rattle.fj_names.specs.declared.fault.Fault.TheVariants as fault
use Rattle.fj_names.specs.declared.scope.Scope.{Scope}
use Rattle.fj_names.specs.Meaning.{format_text, IsFormatOf, meaning, is_within_limits, HasNoFormat, Means, IsAnswer, OneMeaning}

-- what is answered on a statement of which the format is one
abbrev by_meaning : Option Statement → Bool → Result Statement Fault
by_meaning None within = Err fault.NoMeaning
by_meaning (Some m) true = Ok m
by_meaning (Some m) false = Err fault.TooMany

outcome : Scope → Option (List FormatItem) → Written → Result Statement Fault
outcome s items w = by_meaning (meaning s items w) (is_within_limits s items w)

record Settled (s : Scope) (w : Written) (r : Result Statement Fault) : Type 0 where
  items : Option (List FormatItem)
  format : IsFormatOf (format_text w) items
  is : outcome s items w ≡ r

record Refused (w : Written) (r : Result Statement Fault) : Type 0 where
  at : ℕ
  is : r ≡ Err (fault.Format at)
  none : HasNoFormat w at

meant : (o : Option Statement) (b : Bool) (m : Statement) → o ≡ Some m → b ≡ true → by_meaning o b ≡ Ok m
meant o b m h k = rw (h, k) refl

beyond : (o : Option Statement) (b : Bool) → IsSome o → b ≡ false → by_meaning o b ≡ Err fault.TooMany
beyond None b h k = absurd (let e : false ≡ true = h in cc)
beyond (Some m) b h k = rw k refl

settled : (s : Scope) (w : Written) (r : Result Statement Fault) → IsAnswer r → Means s w r → Settled s w r ⊎ Refused w r
unfolding outcome
settled s w (Ok m) i h = inl (record { items = h.items; format = h.format; is = meant _ _ m h.is h.within })
settled s w (Err (fault.Memory e)) i h = absurd i
settled s w (Err (fault.Format at)) i h = inr (record { at = at; is = refl; none = h })
settled s w (Err fault.NoMeaning) i h = inl (record { items = h.items; format = h.format; is = ap (λ o. by_meaning o (is_within_limits s h.items w)) h.none })
settled s w (Err fault.TooMany) i h = inl (record { items = h.items; format = h.format; is = beyond _ _ h.some h.beyond })

same_items : IsUnambiguous → (text : Option (List ℕ)) (f g : Option (List FormatItem)) → IsFormatOf text f → IsFormatOf text g → f ≡ g
same_items u None None None h k = refl
same_items u None None (Some g) h k = absurd k
same_items u None (Some f) g h k = absurd h
same_items u (Some text) None g h k = absurd h
same_items u (Some text) (Some f) None h k = absurd k
same_items u (Some text) (Some f) (Some g) h k = ap (λ x. Some x) (u text f g h k)

none_of : (text : List ℕ) (items : Option (List FormatItem)) (at : ℕ) → IsFormatOf (Some text) items → IsNoFormat text at → ⊥
none_of text None at h k = h
none_of text (Some items) at h k = k.none items h

apart : (w : Written) (items : Option (List FormatItem)) (at : ℕ) → IsFormatOf (format_text w) items → HasNoFormat w at → ⊥
apart w items at h k = none_of k.text items at (subst (λ text. IsFormatOf text items) k.stands h) k.none

same_place : (text : List ℕ) (a b : ℕ) → IsNoFormat text a → IsNoFormat text b → a ≡ b
same_place text a b h k = elim (cases_order a b) [
  | inl e ↦ e
  | inr d ↦ absurd (elim d [
    | inl lt ↦ h.longest b lt k.within k.begins
    | inr gt ↦ k.longest a gt h.within h.begins
  ])
]

same_refusal : (w : Written) (a b : ℕ) → HasNoFormat w a → HasNoFormat w b → a ≡ b
same_refusal w a b h k =
    let texts : h.text ≡ k.text = (let e : Some h.text ≡ Some k.text = sym h.stands ∙ k.stands in cc) in
    same_place h.text a b h.none (subst (λ text. IsNoFormat text b) (sym texts) k.none)

both : IsUnambiguous → (s : Scope) (w : Written) (a b : Result Statement Fault) → Settled s w a ⊎ Refused w a → Settled s w b ⊎ Refused w b → a ≡ b
both u s w a b (inl h) (inl k) = sym h.is ∙ ap (λ items. outcome s items w) (same_items u (format_text w) h.items k.items h.format k.format) ∙ k.is
both u s w a b (inl h) (inr k) = absurd (apart w h.items k.at h.format k.none)
both u s w a b (inr h) (inl k) = absurd (apart w k.items h.at k.format h.none)
both u s w a b (inr h) (inr k) = h.is ∙ ap (λ at. Err (fault.Format at)) (same_refusal w h.at k.at h.none k.none) ∙ sym k.is

pub once : IsUnambiguous → OneMeaning
once u s w a b i j h k = both u s w a b (settled s w a i h) (settled s w b j k)
