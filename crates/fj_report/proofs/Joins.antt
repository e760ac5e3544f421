-- Pieces that are appended from the left to the right, or all at once.
use Rattle.std.proofs.Common.{◌≡◌, ℕ, ℤ, Bool, List, [], ◌∷◌, ◌++◌, append_assoc, append-nil, ◌∙◌, ap, refl}
use Rattle.std.specs.Prelude.{codes}
use Rattle.std.specs.Fmt.{decimal, signed_decimal}
use Rattle.fj_value.specs.Shown.{letter}
use Rattle.fj_report.specs.declared.summary.Summary.{Summary}
use Rattle.fj_report.specs.Lines.{trace_text, look_text, summary_text}

pub three : (a b c : List ℕ) → a ++ (b ++ (c ++ [])) ≡ a ++ b ++ c
three a b c = simp (append_assoc, append-nil)

pub five : (a b c d e : List ℕ) → a ++ (b ++ (c ++ (d ++ (e ++ [])))) ≡ a ++ b ++ c ++ d ++ e
five a b c d e = simp (append_assoc, append-nil)

pub six : (a b c d e f : List ℕ) → a ++ (b ++ (c ++ (d ++ (e ++ (f ++ []))))) ≡ a ++ b ++ c ++ d ++ e ++ f
six a b c d e f = simp (append_assoc, append-nil)

nine : (a b c d e f g h i : List ℕ) → a ++ (b ++ (c ++ (d ++ (e ++ (f ++ (g ++ (h ++ (i ++ [])))))))) ≡ a ++ b ++ c ++ d ++ e ++ f ++ g ++ h ++ i
nine a b c d e f g h i = simp (append_assoc, append-nil)

-- the line of a told transfer from its numbers
pub traced : (old line unit tag code : List ℕ) (s : ℕ) (u : ℤ) (t : ℕ) (k : ℤ) → line ≡ decimal s → unit ≡ signed_decimal u → tag ≡ decimal t → code ≡ signed_decimal k
    → old ++ (codes "~ " ++ (line ++ (codes " " ++ (unit ++ (codes " " ++ (tag ++ (codes " " ++ (code ++ (codes "\n" ++ []))))))))) ≡ old ++ trace_text s u t k
unfolding trace_text
traced old line unit tag code s u t k a b c d =
    ap (λ xs. old ++ xs) (nine (codes "~ ") line (codes " ") unit (codes " ") tag (codes " ") code (codes "\n") ∙ rw (a, b, c, d) refl)

-- the line of a look from its numbers
pub looked : (old line unit answer count : List ℕ) (s : ℕ) (u : ℤ) (pending : Bool) (n : ℕ) → line ≡ decimal s → unit ≡ signed_decimal u → answer ≡ letter pending ∷ [] → count ≡ decimal n
    → old ++ (codes "? " ++ (line ++ (codes " " ++ (unit ++ (codes " " ++ (answer ++ (codes " " ++ (count ++ (codes "\n" ++ []))))))))) ≡ old ++ look_text s u pending n
unfolding look_text
looked old line unit answer count s u pending n a b c d =
    ap (λ xs. old ++ xs) (nine (codes "? ") line (codes " ") unit (codes " ") answer (codes " ") count (codes "\n") ∙ rw (a, b, c, d) refl)

fifteen : (a b c d e f g h i j k l m n o : List ℕ) → a ++ (b ++ (c ++ (d ++ (e ++ (f ++ (g ++ (h ++ (i ++ (j ++ (k ++ (l ++ (m ++ (n ++ (o ++ []))))))))))))))
    ≡ a ++ b ++ c ++ d ++ e ++ f ++ g ++ h ++ i ++ j ++ k ++ l ++ m ++ n ++ o
fifteen a b c d e f g h i j k l m n o = simp (append_assoc, append-nil)

-- the line of a summary from its numbers
pub summed : (old : List ℕ) (summary : Summary) {seed count statements tells conditions bytes sum : List ℕ} → seed ≡ decimal summary.seed → count ≡ decimal summary.count
    → statements ≡ decimal summary.statements → tells ≡ decimal summary.tells → conditions ≡ decimal summary.conditions → bytes ≡ decimal summary.bytes
    → sum ≡ decimal summary.sum
    → old ++ (codes "= gen seed " ++ (seed ++ (codes " count " ++ (count ++ (codes ": " ++ (statements ++ (codes " statements, " ++ (tells ++ (codes " tells, " ++ (conditions
    ++ (codes " conditions, " ++ (bytes ++ (codes " bytes, sum " ++ (sum ++ (codes "\n" ++ []))))))))))))))) ≡ old ++ summary_text summary
unfolding summary_text
summed old summary {seed} {count} {statements} {tells} {conditions} {bytes} {sum} a b c d e f g =
    ap (λ xs. old ++ xs)
    (fifteen (codes "= gen seed ") seed (codes " count ") count (codes ": ") statements (codes " statements, ") tells (codes " tells, ") conditions (codes " conditions, ") bytes
    (codes " bytes, sum ") sum (codes "\n") ∙ rw (a, b, c, d, e, f, g) refl)
