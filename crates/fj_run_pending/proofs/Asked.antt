-- Whether a transfer of an identifier is pending on a unit.
use Rattle.std.proofs.Common.{◌≡◌, ◌≢◌, ℕ, zero, suc, ℤ, pos, negsuc, ◌<ℤ◌, ◌<◌, ◌&&◌, ◌||◌, eqb, Bool, true, false, List, [], ◌∷◌, length, get_or, Some, All, refl, ap, ◌∙◌, arith}
use Rattle.std.specs.Prelude.{◌==◌}
use Rattle.std.specs.List.{list_any}
use Rattle.std.specs.Ordering.{int_eq}
use Rattle.std.proofs.lemmas.Bool.{ne_eqb, eq-eqb}
use Rattle.std.proofs.lemmas.Bool.Decides.{same_from_decides, Decides-int_eq, Decides-eqb}
use Rattle.std.proofs.lemmas.Int.{ints}
use Rattle.std.proofs.lemmas.List.Elements.{All-head, All-tail, All-weaker}
use Rattle.fj_book.specs.Prohibitions.{has_id}
use Rattle.fj_meaning.proofs.Lists.{pairs_head, pairs_tail}
use Rattle.fj_run_pending.specs.declared.held.Held.{Held}
use Rattle.fj_run_pending.specs.Plain.{holders}
use Rattle.fj_run_pending.specs.Tied.{IsAscending}

pos_same : (a b : ℕ) → pos a ≡ pos b → a ≡ b
pos_same a b e = cc

int_is : (a b : ℕ) → int_eq (pos a) (pos b) ≡ eqb a b
int_is a b = same_from_decides {P = a ≡ b} (int_eq (pos a) (pos b)) (eqb a b) ((λ e. pos_same a b ((Decides-int_eq (pos a) (pos b)).0 e)), (λ h. (Decides-int_eq (pos a) (pos b)).1 (ap pos h))) (Decides-eqb a b)

and_no : (b c : Bool) → ((b && false) || c) ≡ c
and_no true c = refl
and_no false c = refl

and_last : (b : Bool) → ((b && true) || false) ≡ b
and_last true = refl
and_last false = refl

pub id_absent : (u t : ℕ) (hs : List Held) → All (λ (h : Held). h.tag.0 ≢ t) hs → list_any (has_id (Some u) (pos t)) (holders hs) ≡ false
id_absent u t [] none = refl
id_absent u t (h ∷ hs) none =
    ap (λ b. ((h.unit == u) && b) || list_any (has_id (Some u) (pos t)) (holders hs)) (int_is h.tag.0 t ∙ ne_eqb h.tag.0 t (All-head (λ (x : Held). x.tag.0 ≢ t) h hs none))
    ∙ and_no (h.unit == u) (list_any (has_id (Some u) (pos t)) (holders hs)) ∙ id_absent u t hs (All-tail (λ (x : Held). x.tag.0 ≢ t) h hs none)

abbrev lower : Held → Held → Type 0
lower a b = a.tag.0 < b.tag.0

pub id_at : (u : ℕ) (hs : List Held) (i : ℕ) (x : Held) → IsAscending hs → i < length hs → get_or hs i x ≡ x → list_any (has_id (Some u) (pos x.tag.0)) (holders hs) ≡ (x.unit == u)
id_at u [] i x up low is = absurd (omega (arith, low))
id_at u (h ∷ hs) zero x up low is =
    let tag : h.tag.0 ≡ x.tag.0 = ap (λ (y : Held). y.tag.0) is in
    ap (λ b. ((h.unit == u) && b) || list_any (has_id (Some u) (pos x.tag.0)) (holders hs)) (int_is h.tag.0 x.tag.0 ∙ eq-eqb h.tag.0 x.tag.0 tag)
    ∙ ap (λ b. ((h.unit == u) && true) || b) (id_absent u x.tag.0 hs (All-weaker (lower h) (λ (y : Held). y.tag.0 ≢ x.tag.0) (λ y above same. absurd (omega (arith, above, same, tag))) hs (pairs_head lower h hs up)))
    ∙ and_last (h.unit == u) ∙ ap (λ (y : Held). y.unit == u) is
id_at u (h ∷ hs) (suc i) x up low is =
    let above : h.tag.0 < (get_or hs i x).tag.0 = pairs_head lower h hs up i x (omega (arith, low)) in
    let tag : (get_or hs i x).tag.0 ≡ x.tag.0 = ap (λ (y : Held). y.tag.0) is in
    ap (λ b. ((h.unit == u) && b) || list_any (has_id (Some u) (pos x.tag.0)) (holders hs)) (int_is h.tag.0 x.tag.0 ∙ ne_eqb h.tag.0 x.tag.0 (λ same. absurd (omega (arith, above, tag, same))))
    ∙ and_no (h.unit == u) (list_any (has_id (Some u) (pos x.tag.0)) (holders hs)) ∙ id_at u hs i x (pairs_tail lower h hs up) (omega (arith, low)) is

pub id_low : (u : ℕ) (id : ℤ) (hs : List Held) → id <ℤ pos 0 → list_any (has_id (Some u) id) (holders hs) ≡ false
id_low u (pos n) hs low = absurd (omega (arith, ints, low))
id_low u (negsuc n) [] low = refl
id_low u (negsuc n) (h ∷ hs) low = and_no (h.unit == u) (list_any (has_id (Some u) (negsuc n)) (holders hs)) ∙ id_low u (negsuc n) hs low
