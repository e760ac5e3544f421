-- Each text is a format, and one format only, or none.
use Rattle.std.proofs.Common.{ℕ, ◌≡◌, ◌≢◌, List, [], ◌∷◌, ◌++◌, Option, Some, None, ◌⊎◌, inl, inr, refl, sym, subst, ◌∙◌, append_assoc, append-nil}
use Rattle.std.proofs.Math.Logic.{∥∥₁_elim}
use base.Stored.{Coded-set}
use Rattle.std.specs.Coded.{codes}
use Rattle.fj_format.specs.contracts.item.FormatItem as contract
use Rattle.fj_format.specs.declared.item.FormatItem.{FormatItem}
use Rattle.fj_format.specs.declared.place.FormatPlace.{FormatPlace}
use Rattle.fj_format.specs.declared.place.FormatPlace.TheVariants as place
use Rattle.fj_format.specs.declared.scanner.Scanner.{Scanner}
use Rattle.fj_format.specs.Marks.{outside}
use Rattle.fj_format.specs.Grammar.{IsFormat}
use Rattle.fj_format.specs.Scanning.{first, scan}
use Rattle.fj_format.specs.Parsing.{IsOnlyFormat}
use Rattle.fj_format.specs.Printing.{printed}
use Rattle.fj_format.specs.Sound.{IsSound}
use Rattle.fj_format.proofs.Scanned.{Stands, stands_first, stands_next, stands_refused, stands_short, stands_done, stands_only}
use Rattle.fj_format.proofs.Printed.{format_reads}

-- the one format that a text is
record One (text : List ℕ) : Type 0 where
  items : List FormatItem
  is : IsFormat text items
  only : (other : List FormatItem) → IsFormat text other → other ≡ items

abbrev Decision : List ℕ → Type 0
Decision text = One text ⊎ ((items : List FormatItem) → IsFormat text items → ⊥)

is_done : (p : FormatPlace) → (p ≡ place.Done) ⊎ (p ≢ place.Done)
is_done place.Done = inl refl
is_done place.Begin = inr (λ e. cc)
is_done place.Opened = inr (λ e. cc)
is_done place.Wanted = inr (λ e. cc)
is_done (place.Behind free) = inr (λ e. cc)
is_done (place.First p) = inr (λ e. cc)
is_done (place.More p n) = inr (λ e. cc)
is_done place.SignLetter = inr (λ e. cc)
is_done place.DecimalLetter = inr (λ e. cc)
is_done place.Starred = inr (λ e. cc)
is_done place.Closing = inr (λ e. cc)

refused : (front rest : List ℕ) (c : ℕ) (s : Scanner) → s.reader.place ≢ place.Done → Stands front s → scan s c ≡ None → Decision (front ++ c ∷ rest)
refused front rest c s q st e =
    inr (λ f h. stands_refused front s c q e st (rest, f, subst (λ l. IsFormat l f) (sym (append_assoc front (c ∷ []) rest)) h))

done : (front rest : List ℕ) (s : Scanner) → s.reader.place ≡ place.Done → Stands front s → Decision (front ++ rest)
done front rest s e st = inl (record { items = s.reader.items; is = stands_done front rest s e st; only = λ f h. stands_only front rest s f e st h })

by_step : (front rest : List ℕ) (c : ℕ) (s : Scanner) (o : Option Scanner) → scan s c ≡ o → s.reader.place ≢ place.Done → Stands front s →
    ((new : Scanner) → Stands (front ++ c ∷ []) new → Decision ((front ++ c ∷ []) ++ rest)) → Decision (front ++ c ∷ rest)
by_step front rest c s None e q st more = refused front rest c s q st e
by_step front rest c s (Some new) e q st more = subst Decision (append_assoc front (c ∷ []) rest) (more new (stands_next front s new c q e st))

decided : (rest front : List ℕ) (s : Scanner) → Stands front s → Decision (front ++ rest)
decided [] front s st =
    elim (is_done s.reader.place) [
      | inl e ↦ done front [] s e st
      | inr q ↦ inr (λ f h. stands_short front s f q st (subst (λ l. IsFormat l f) (append-nil front) h))
    ]
decided (c ∷ rest) front s st =
    elim (is_done s.reader.place) [
      | inl e ↦ done front (c ∷ rest) s e st
      | inr q ↦ by_step front rest c s (scan s c) refl q st (λ new stands. decided rest (front ++ c ∷ []) new stands)
    ]

decision : (text : List ℕ) → Decision text
decision text = decided text [] first stands_first

-- One text is one format.
pub same_format : (text : List ℕ) (f g : List FormatItem) → IsFormat text f → IsFormat text g → f ≡ g
same_format text f g h k =
    elim (decision text) [ inl o ↦ o.only f h ∙ sym (o.only g k) | inr none ↦ absurd (none f h) ]

one_proof : (f g : List FormatItem) (p q : f ≡ g) → p ≡ q
one_proof f g = Coded-set (hlevel (codes, contract.the_row.coded)) f g

pub printed_is : (items : List FormatItem) → IsSound items → IsFormat (printed items) items
printed_is items sound =
    elim (decision (printed items)) [
      | inl o ↦ subst (IsFormat (printed items))
          (∥∥₁_elim sound.written (one_proof o.items items) (λ w. sym (o.only items (format_reads items (outside w.0) w.1)))) o.is
      | inr none ↦ absurd (∥∥₁_elim sound.written (λ p q. absurd p) (λ w. none items (format_reads items (outside w.0) w.1)))
    ]

-- The text of a format is that format.
pub printed_is_only : (items : List FormatItem) → IsSound items → IsOnlyFormat (printed items) items
printed_is_only items sound =
    let is : IsFormat (printed items) items = printed_is items sound in
    record { is = is; only = λ f h. same_format (printed items) f items h is; short = sound.short }
