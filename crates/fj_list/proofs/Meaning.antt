-- Whatever stands in records, it is a text of the grammar.
use Rattle.std.proofs.Common.{◌≡◌, ℕ, zero, suc, ◌+◌, ◌^◌, ◌<◌, ◌≤◌, ◌⊎◌, Bool, true, false, eqb, ltb, List, [], ◌∷◌, ◌++◌, length, Option, Some, None, sym, ap, ◌∙◌, refl, subst, inl, inr, arith, length-append}
use Rattle.std.proofs.lemmas.Bool.{cases_Bool, false≢true}
use Rattle.std.proofs.lemmas.Bool.Decides.{nat_tests}
use Rattle.fj_value.specs.Digits.{number_in}
use Rattle.fj_list.specs.declared.constant.Form.{Form}
use Rattle.fj_list.specs.declared.constant.Form.TheVariants.{Null, Undelimited, Delimited}
use Rattle.fj_list.specs.Stream.{Stream, stream, front, behind, is_blank}
use Rattle.fj_list.specs.ListInput.{ends_constant, is_mark, has_ended, is_no_digit}
use Rattle.fj_list.specs.Grammar as grammar
use Rattle.fj_list.specs.Grammar.{Given, given, separator_of, IsBlank, Blanks, IsOrdinary, Ends, Characters, IsMark, NoMark, Delimiting, Constant, Counts, IsNotCounted, IsRepeat, Item, Finish, Unclosed, Wrong, IsListText}
use Rattle.fj_list.specs.Understood.{TextHasAMeaning}
use Rattle.fj_list.proofs.GrammarLaws.{blank_true, blank_or, ends_true, ends_or, ended_or, opens_true, mark_or, digits_are, all_digits, front_whole}
use Rattle.fj_list.proofs.Plain.{chars}

-- what stands behind blanks
data Behind (s : Stream) : Type 0 where
  nothing : Blanks s [] → Behind s
  something : (c : ℕ) (t : Stream) → Blanks s (Some c ∷ t) → is_blank c ≡ false → length t < length s → Behind s

further : (x : Option ℕ) (s : Stream) → IsBlank x → Behind s → Behind (x ∷ s)
further x s is (nothing blanks) = nothing (grammar.blank x is blanks)
further x s is (something c t blanks other short) = something c t (grammar.blank x is blanks) other (omega arith)

behind_blanks : (s : Stream) → Behind s
behind_blanks [] = nothing grammar.no_blank
behind_blanks (None ∷ s) = further None s tt (behind_blanks s)
behind_blanks (Some c ∷ s) = go (is_blank c) refl (behind_blanks s) where
  go : (b : Bool) → is_blank c ≡ b → Behind s → Behind (Some c ∷ s)
  go true e on = further (Some c) s (blank_or c e) on
  go false e on = something c s grammar.no_blank e (omega arith)

-- a character ends a constant, or is ordinary
ordinary : (comma : Bool) (c : ℕ) → ends_constant comma c ≡ false → IsOrdinary comma c
ordinary true c e = record { blank = λ h. grind (arith, nat_tests); tab = λ h. grind (arith, nat_tests); separator = λ h. grind (arith, nat_tests); slash = λ h. grind (arith, nat_tests) }
ordinary false c e = record { blank = λ h. grind (arith, nat_tests); tab = λ h. grind (arith, nat_tests); separator = λ h. grind (arith, nat_tests); slash = λ h. grind (arith, nat_tests) }

-- the characters up to what ends a constant
record Run (comma : Bool) (s : Stream) : Type 0 where
  cs : List ℕ
  rest : Stream
  run : Characters comma cs s rest
  short : length rest ≤ length s

run_of : (comma : Bool) (s : Stream) → Run comma s
run_of comma [] = record { cs = []; rest = []; run = grammar.ended tt; short = omega arith }
run_of comma (None ∷ s) = record { cs = []; rest = None ∷ s; run = grammar.ended tt; short = omega arith }
run_of comma (Some c ∷ s) = go (ends_constant comma c) refl (run_of comma s) where
  go : (b : Bool) → ends_constant comma c ≡ b → Run comma s → Run comma (Some c ∷ s)
  go true e on = record { cs = []; rest = Some c ∷ s; run = grammar.ended (ends_or comma c s e); short = omega arith }
  go false e on = let below = on.short in record { cs = c ∷ on.cs; rest = on.rest; run = grammar.character c (ordinary comma c e) on.run; short = omega arith }

-- the characters behind an opening mark
data Closes (mark : ℕ) (s : Stream) : Type 0 where
  never : (cs : List ℕ) → Delimiting mark cs s None → Closes mark s
  with : (cs : List ℕ) (t : Stream) → Delimiting mark cs s (Some t) → length t < length s → Closes mark s

one_further : (mark c : ℕ) (s : Stream) → (c ≡ mark → ⊥) → Closes mark s → Closes mark (Some c ∷ s)
one_further mark c s other (never cs h) = never (c ∷ cs) (grammar.inside c other h)
one_further mark c s other (with cs t h short) = with (c ∷ cs) t (grammar.inside c other h) (omega arith)

two_further : (mark c d : ℕ) (s : Stream) → c ≡ mark → d ≡ mark → Closes mark s → Closes mark (Some c ∷ Some d ∷ s)
two_further mark c d s is is' (never cs h) = never (mark ∷ cs) (grammar.doubled c d is is' h)
two_further mark c d s is is' (with cs t h short) = with (mark ∷ cs) t (grammar.doubled c d is is' h) (omega arith)

record_further : (mark : ℕ) (s : Stream) → Closes mark s → Closes mark (None ∷ s)
record_further mark s (never cs h) = never cs (grammar.record_end h)
record_further mark s (with cs t h short) = with cs t (grammar.record_end h) (omega arith)

same_mark : (c mark : ℕ) → (c ≡ mark) ⊎ (c ≡ mark → ⊥)
same_mark c mark = elim (cases_Bool (eqb c mark)) [
  | inl e ↦ inl (grind (arith, nat_tests))
  | inr e ↦ inr (λ h. grind (arith, nat_tests))
]

closes_of : (mark : ℕ) (s : Stream) → Closes mark s
closes_of mark [] = never [] grammar.unended
closes_of mark (None ∷ s) = record_further mark s (closes_of mark s)
closes_of mark (Some c ∷ []) = go (same_mark c mark) where
  go : (c ≡ mark) ⊎ (c ≡ mark → ⊥) → Closes mark (Some c ∷ [])
  go (inl is) = with [] [] (grammar.closing c is tt) (omega arith)
  go (inr other) = never (c ∷ []) (grammar.inside c other grammar.unended)
closes_of mark (Some c ∷ None ∷ s) = go (same_mark c mark) (closes_of mark s) where
  go : (c ≡ mark) ⊎ (c ≡ mark → ⊥) → Closes mark s → Closes mark (Some c ∷ None ∷ s)
  go (inl is) on = with [] (None ∷ s) (grammar.closing c is tt) (omega arith)
  go (inr other) on = one_further mark c (None ∷ s) other (record_further mark s on)
closes_of mark (Some c ∷ Some d ∷ s) = go (same_mark c mark) (same_mark d mark) (closes_of mark s) (closes_of mark (Some d ∷ s)) where
  go : (c ≡ mark) ⊎ (c ≡ mark → ⊥) → (d ≡ mark) ⊎ (d ≡ mark → ⊥) → Closes mark s → Closes mark (Some d ∷ s) → Closes mark (Some c ∷ Some d ∷ s)
  go (inl is) (inl is') on on' = two_further mark c d s is is' on
  go (inl is) (inr other) on on' = with [] (Some d ∷ s) (grammar.closing c is other) (omega arith)
  go (inr other) is' on on' = one_further mark c (Some d ∷ s) other on'

-- a constant, or nothing, or characters from a mark on that are no constant
data Found (comma : Bool) (s : Stream) : Type 0 where
  empty : Ends comma s → Found comma s
  constant : (form : Form) (cs : List ℕ) (t : Stream) → Constant comma form cs s t → length t < length s → Found comma s
  unclosed : (f : Finish) → Unclosed comma s f → Found comma s

found_mark : (comma : Bool) (c : ℕ) (s : Stream) → IsMark c → Closes c s → Found comma (Some c ∷ s)
found_mark comma c s is (never cs h) = unclosed grammar.at_records_end (grammar.unclosed c is h)
found_mark comma c s is (with cs t h short) = go (has_ended comma t) refl where
  go : (b : Bool) → has_ended comma t ≡ b → Found comma (Some c ∷ s)
  go true e = constant Delimited cs t (grammar.delimited c is h (ended_or comma t e)) (omega arith)
  go false e = unclosed grammar.at_no_value (grammar.text_behind c is h (λ ends. false≢true (sym e ∙ ends_true comma t ends)))

found_of : (comma : Bool) (s : Stream) → Found comma s
found_of comma [] = empty tt
found_of comma (None ∷ s) = empty tt
found_of comma (Some c ∷ s) = go (ends_constant comma c) (is_mark c) refl refl where
  go : (b d : Bool) → ends_constant comma c ≡ b → is_mark c ≡ d → Found comma (Some c ∷ s)
  go true d e e' = empty (ends_or comma c s e)
  go false true e e' = found_mark comma c s (mark_or c e') (closes_of c s)
  go false false e e' =
      let run = run_of comma s in
      let below = run.short in
      constant Undelimited (c ∷ run.cs) run.rest (grammar.plain c (λ is. false≢true (sym e' ∙ opens_true c is)) (grammar.character c (ordinary comma c e) run.run)) (omega arith)

-- a repeat count, or none
data Counting (s : Stream) : Type 0 where
  counts : (r : ℕ) (t : Stream) → Counts r s t → length t < length s → Counting s
  no_count : IsNotCounted s → Counting s

shows : (r : ℕ) (s t : Stream) → Counts r s t → (number_in 10 (front is_no_digit s) ≡ Some r) × (behind is_no_digit s ≡ Some 42 ∷ t)
shows r s t h =
    let p = digits_are h.digits t (all_digits h.digits r h.number) in
    (ap (λ (u : Stream). number_in 10 (front is_no_digit u)) h.whole ∙ ap (number_in 10) p.0 ∙ h.number, ap (behind is_no_digit) h.whole ∙ p.1)

shorter : (r : ℕ) (s t : Stream) → Counts r s t → length t < length s
shorter r s t h =
    let count : length s ≡ length (chars h.digits) + length (Some 42 ∷ t) = ap length h.whole ∙ length-append (chars h.digits) (Some 42 ∷ t) in
    let more : length (Some 42 ∷ t) ≡ suc (length t) = refl in
    omega arith

counting_of : (s : Stream) → Counting s
counting_of s = go (number_in 10 (front is_no_digit s)) (behind is_no_digit s) refl refl where
  star : (r c : ℕ) (t : Stream) → number_in 10 (front is_no_digit s) ≡ Some r → behind is_no_digit s ≡ Some c ∷ t → (c ≡ 42) ⊎ (c ≡ 42 → ⊥) → Counting s
  star r c t number rest (inl is) =
      let h : Counts r s t = record { digits = front is_no_digit s; number = number; whole = front_whole is_no_digit s ∙ ap (λ (u : Stream). chars (front is_no_digit s) ++ u) (rest ∙ ap (λ (d : ℕ). Some d ∷ t) is) } in
      counts r t h (shorter r s t h)
  star r c t number rest (inr other) = no_count (λ r' t' h. let same : Some c ∷ t ≡ Some 42 ∷ t' = sym rest ∙ (shows r' s t' h).1 in other (cc))

  go : (o : Option ℕ) (rest : Stream) → number_in 10 (front is_no_digit s) ≡ o → behind is_no_digit s ≡ rest → Counting s
  go None rest number left = no_count (λ r t h. let same : None ≡ Some r = sym number ∙ (shows r s t h).0 in cc)
  go (Some n) [] number left = no_count (λ r t h. let same : [] ≡ Some 42 ∷ t = sym left ∙ (shows r s t h).1 in cc)
  go (Some n) (None ∷ u) number left = no_count (λ r t h. let same : None ∷ u ≡ Some 42 ∷ t = sym left ∙ (shows r s t h).1 in cc)
  go (Some n) (Some c ∷ u) number left = star n c u number left (same_mark c 42)

range_of : (r : ℕ) → IsRepeat r ⊎ (IsRepeat r → ⊥)
range_of r = go (ltb 0 r) (ltb r (2 ^ 32)) refl refl where
  go : (a b : Bool) → ltb 0 r ≡ a → ltb r (2 ^ 32) ≡ b → IsRepeat r ⊎ (IsRepeat r → ⊥)
  go true true e e' = inl (grind (arith, nat_tests), grind (arith, nat_tests))
  go true false e e' = inr (λ h. let high = h.1 in grind (arith, nat_tests))
  go false b e e' = inr (λ h. let low = h.0 in grind (arith, nat_tests))

-- what stands in the place of a value
data Got (comma : Bool) (s : Stream) : Type 0 where
  item : (g : Given) (t : Stream) → Item comma g s t → length t < length s → Got comma s
  wrong : (f : Finish) → Wrong comma s f → Got comma s

got_repeated : (comma : Bool) (r : ℕ) (s t : Stream) → Counts r s t → length t < length s → IsRepeat r → Found comma t → Got comma s
got_repeated comma r s t h short range (empty ends) = item (given r Null []) t (grammar.nulls r h range ends) short
got_repeated comma r s t h short range (constant form cs u is below) = item (given r form cs) u (grammar.repeated r h range is) (omega arith)
got_repeated comma r s t h short range (unclosed f is) = wrong f (grammar.repeated_not_closed r h range is)

got_of : (comma : Bool) (s : Stream) → (Ends comma s → ⊥) → Got comma s
got_of comma s goes = go (counting_of s) where
  plain : IsNotCounted s → Found comma s → Got comma s
  plain none (empty ends) = absurd (goes ends)
  plain none (constant form cs t is short) = item (given 1 form cs) t (grammar.once none is) short
  plain none (unclosed f is) = wrong f (grammar.not_closed is)

  ranged : (r : ℕ) (t : Stream) → Counts r s t → length t < length s → IsRepeat r ⊎ (IsRepeat r → ⊥) → Got comma s
  ranged r t h short (inl range) = got_repeated comma r s t h short range (found_of comma t)
  ranged r t h short (inr range) = wrong grammar.at_no_value (grammar.count_out_of_range r h range)

  go : Counting s → Got comma s
  go (counts r t h short) = ranged r t h short (range_of r)
  go (no_count none) = plain none (found_of comma s)

abbrev Meant : Bool → Bool → Stream → Type 0
Meant comma begins s = (gs : List Given) × ((f : Finish) × IsListText comma begins s gs f)

behind_separator : (comma begins : Bool) (c : ℕ) (s t : Stream) → c ≡ separator_of comma → Blanks s (Some c ∷ t) → Meant comma true t → Meant comma begins s
behind_separator comma true c s t is blanks more = (given 1 Null [] ∷ more.0, (more.1.0, grammar.null_value c is blanks more.1.1))
behind_separator comma false c s t is blanks more = (more.0, (more.1.0, grammar.separator c is blanks more.1.1))

-- where all shorter texts have one
abbrev Shorter : Bool → ℕ → Type 0
Shorter comma n = (begins : Bool) (u : Stream) → length u < n → Meant comma begins u

meant_value : (n : ℕ) (comma begins : Bool) (c : ℕ) (s t : Stream) → length s ≤ n → Shorter comma n → Blanks s (Some c ∷ t) → length t < length s → Got comma (Some c ∷ t) → Meant comma begins s
meant_value n comma begins c s t low on blanks short (item g u is below) =
    let long : length (Some c ∷ t) ≡ suc (length t) = refl in
    let more = on false u (omega arith) in
    (g ∷ more.0, (more.1.0, grammar.value blanks is more.1.1))
meant_value n comma begins c s t low on blanks short (wrong f is) = ([], (f, grammar.no_value blanks is))

not_ended : (comma : Bool) (c : ℕ) (t : Stream) → is_blank c ≡ false → (c ≡ 47 → ⊥) → (c ≡ separator_of comma → ⊥) → Ends comma (Some c ∷ t) → ⊥
not_ended comma c t other slash separates (inl (inl is)) = false≢true (sym other ∙ blank_true c is)
not_ended comma c t other slash separates (inl (inr is)) = separates is
not_ended comma c t other slash separates (inr is) = slash is

meant_at : (n : ℕ) (comma begins : Bool) (c : ℕ) (s t : Stream) → length s ≤ n → Shorter comma n → Blanks s (Some c ∷ t) → is_blank c ≡ false → length t < length s → (c ≡ 47) ⊎ (c ≡ 47 → ⊥) → (c ≡ separator_of comma) ⊎ (c ≡ separator_of comma → ⊥) → Meant comma begins s
meant_at n comma begins c s t low on blanks other short (inl is) separates = ([], (grammar.at_slash, grammar.slash (subst (λ (d : ℕ). Blanks s (Some d ∷ t)) is blanks)))
meant_at n comma begins c s t low on blanks other short (inr slash) (inl is) = behind_separator comma begins c s t is blanks (on true t (omega arith))
meant_at n comma begins c s t low on blanks other short (inr slash) (inr separates) = meant_value n comma begins c s t low on blanks short (got_of comma (Some c ∷ t) (not_ended comma c t other slash separates))

meant_from : (n : ℕ) (comma begins : Bool) (s : Stream) → length s ≤ n → Shorter comma n → Behind s → Meant comma begins s
meant_from n comma begins s low on (nothing blanks) = ([], (grammar.at_records_end, grammar.records_end blanks))
meant_from n comma begins s low on (something c t blanks other short) = meant_at n comma begins c s t low on blanks other short (same_mark c 47) (same_mark c (separator_of comma))

meant : (comma : Bool) (n : ℕ) → Shorter comma n
meant comma zero begins s h = absurd (omega arith)
meant comma (suc n) begins s h = meant_from n comma begins s (omega arith) (meant comma n) (behind_blanks s)

pub has_meaning : TextHasAMeaning
has_meaning comma lines = meant comma (suc (length (stream lines))) true (stream lines) (omega arith)
