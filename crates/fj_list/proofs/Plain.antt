-- Constants as they are written, split off and converted.
use Rattle.std.proofs.Common.{◌≡◌, ℕ, zero, suc, ℤ, pos, negsuc, ◌+◌, ◌-◌, ◌^◌, ◌<◌, ◌≤◌, ◌%◌, Bool, true, false, ◌||◌, cond, eqb, List, [], ◌∷◌, ◌++◌, length, map, take, replicate, Option, Some, None, sym, ap, subst, ◌∙◌, refl, inl, inr, arith, append-nil}
use Rattle.std.proofs.lemmas.Bool.{cases_Bool}
use Rattle.std.proofs.lemmas.Bool.Decides.{nat_tests}
use Rattle.std.proofs.lemmas.Int.{ints}
use Rattle.std.proofs.lemmas.List.{take_all}
use Rattle.std.proofs.lemmas.Fmt.{decimal_by_steps, decimal_nonempty, decimal_digit}
use Rattle.std.specs.Fmt.{decimal}
use Rattle.std.specs.Option.{option_map}
use Rattle.fj_value.specs.Digits.{number_in}
use Rattle.fj_value.proofs.DigitLaws.{number_in-numeral, numeral-decimal}
use Rattle.fj_value.specs.Kind.{FitsBits, fits_bits}
use Rattle.fj_value.specs.declared.value.Value.TheVariants as value'
use Rattle.fj_value.specs.declared.condition.Condition.{Condition}
use Rattle.fj_value.specs.declared.condition.Condition.TheVariants.{Fine, Error}
use Rattle.fj_list.specs.declared.constant.Form.TheVariants.{Null, Undelimited, Delimited}
use Rattle.fj_list.specs.declared.constant.Read.TheVariants as read
use Rattle.fj_list.specs.Stream.{Stream, front, behind, is_blank, skipped}
use Rattle.fj_list.specs.ListText.{doubled, integer_shown}
use Rattle.fj_value.specs.Reading.{with_sign, assigned_text}
use Rattle.fj_list.specs.Constant.{signed_number, integer_in, integer_read}
use Rattle.fj_list.specs.ListInput.{Split, value, stopped, is_separator, ends_constant, is_mark, has_ended, with_front, delimited, closed, constant_at, repeated, counted, is_no_digit, token_at, value_at, past_separator, value_start, split}
use Rattle.fj_list.proofs.Numbers.{half_small, number_in-nil}

abbrev pub chars : List ℕ → Stream
chars cs = map (λ (c : ℕ). Some c) cs

-- what may follow a constant that is written: a blank or the end of the record
abbrev pub Follows : Stream → Type 0
Follows [] = ⊥
Follows (None ∷ s) = Unit {0}
Follows (Some c ∷ s) = c ≡ 32

-- a character of a constant that is neither delimited nor repeated
pub record IsPlain (comma : Bool) (c : ℕ) : Type 0 where
  pub blank : is_blank c ≡ false
  pub separator : is_separator comma c ≡ false
  pub slash : eqb c 47 ≡ false
  pub star : eqb c 42 ≡ false
  pub mark : is_mark c ≡ false

abbrev pub AllPlain : Bool → List ℕ → Type 0
AllPlain comma [] = Unit {0}
AllPlain comma (c ∷ cs) = IsPlain comma c × AllPlain comma cs

goes_on : (comma : Bool) (c : ℕ) → IsPlain comma c → ends_constant comma c ≡ false
goes_on comma c h = ap (λ b. b || (is_separator comma c || eqb c 47)) h.blank ∙ ap (λ b. b || eqb c 47) h.separator ∙ h.slash

front_stop : (comma : Bool) (s : Stream) → Follows s → front (ends_constant comma) s ≡ []
front_stop comma [] h = refl
front_stop comma (None ∷ s) h = refl
front_stop comma (Some c ∷ s) h = ap (λ d. cond (ends_constant comma d) [] (d ∷ front (ends_constant comma) s)) h

behind_stop : (comma : Bool) (s : Stream) → Follows s → behind (ends_constant comma) s ≡ s
behind_stop comma [] h = refl
behind_stop comma (None ∷ s) h = refl
behind_stop comma (Some c ∷ s) h = ap (λ d. cond (ends_constant comma d) (Some d ∷ s) (behind (ends_constant comma) s)) h ∙ ap (λ d. Some d ∷ s) (sym h)

front_plain : (comma : Bool) (cs : List ℕ) (s : Stream) → AllPlain comma cs → Follows s → front (ends_constant comma) (chars cs ++ s) ≡ cs
front_plain comma [] s plain h = front_stop comma s h
front_plain comma (c ∷ cs) s plain h =
    ap (λ b. cond b [] (c ∷ front (ends_constant comma) (chars cs ++ s))) (goes_on comma c plain.0) ∙ ap (λ ds. c ∷ ds) (front_plain comma cs s plain.1 h)

behind_plain : (comma : Bool) (cs : List ℕ) (s : Stream) → AllPlain comma cs → Follows s → behind (ends_constant comma) (chars cs ++ s) ≡ s
behind_plain comma [] s plain h = behind_stop comma s h
behind_plain comma (c ∷ cs) s plain h =
    ap (λ b. cond b (Some c ∷ (chars cs ++ s)) (behind (ends_constant comma) (chars cs ++ s))) (goes_on comma c plain.0) ∙ behind_plain comma cs s plain.1 h

-- no asterisk comes first
abbrev NoStar : Stream → Type 0
NoStar [] = Unit {0}
NoStar (None ∷ s) = Unit {0}
NoStar (Some c ∷ s) = eqb c 42 ≡ false

no_star_cond : (b : Bool) (c : ℕ) (s t : Stream) → eqb c 42 ≡ false → NoStar t → NoStar (cond b (Some c ∷ s) t)
no_star_cond true c s t e h = e
no_star_cond false c s t e h = h

blank_no_star : (c : ℕ) → c ≡ 32 → eqb c 42 ≡ false
blank_no_star c e = grind (arith, nat_tests)

no_star_follows : (s : Stream) → Follows s → NoStar (behind is_no_digit s)
no_star_follows [] h = tt
no_star_follows (None ∷ s) h = tt
no_star_follows (Some c ∷ s) h = subst (λ (d : ℕ). NoStar (cond (is_no_digit d) (Some d ∷ s) (behind is_no_digit s))) (sym h) refl

no_star_plain : (comma : Bool) (cs : List ℕ) (s : Stream) → AllPlain comma cs → Follows s → NoStar (behind is_no_digit (chars cs ++ s))
no_star_plain comma [] s plain h = no_star_follows s h
no_star_plain comma (c ∷ cs) s plain h = no_star_cond (is_no_digit c) c (chars cs ++ s) (behind is_no_digit (chars cs ++ s)) plain.0.star (no_star_plain comma cs s plain.1 h)

counted_plain : (comma : Bool) (ending : Condition) (s : Stream) (o : Option ℕ) (t : Stream) → NoStar t → counted comma ending s o t ≡ constant_at comma ending 1 s
counted_plain comma ending s None t h = refl
counted_plain comma ending s (Some n) [] h = refl
counted_plain comma ending s (Some n) (None ∷ t) h = refl
counted_plain comma ending s (Some n) (Some c ∷ t) h = ap (λ b. cond b (repeated comma ending n t) (constant_at comma ending 1 s)) h

token_plain : (comma : Bool) (ending : Condition) (s : Stream) → NoStar (behind is_no_digit s) → token_at comma ending s ≡ constant_at comma ending 1 s
token_plain comma ending s h = counted_plain comma ending s (number_in 10 (front is_no_digit s)) (behind is_no_digit s) h

pub to_token : (comma : Bool) (ending : Condition) (c : ℕ) (s : Stream) → eqb c 47 ≡ false → is_separator comma c ≡ false → value_at comma ending (Some c ∷ s) ≡ token_at comma ending (Some c ∷ s)
to_token comma ending c s slash separator =
    let by : Bool → Bool → Split = λ b d. cond b (stopped Fine (Some c ∷ s)) (cond d (value 1 Null [] (Some c ∷ s)) (token_at comma ending (Some c ∷ s))) in
    ap (λ b. by b (is_separator comma c)) slash ∙ ap (by false) separator

-- where a value begins
pub skip_none : (c : ℕ) (s : Stream) → is_blank c ≡ false → skipped (Some c ∷ s) ≡ Some c ∷ s
skip_none c s e = ap (λ b. cond b (skipped s) (Some c ∷ s)) e

pub begins_at : (comma first : Bool) (c : ℕ) (s t : Stream) → is_blank c ≡ false → is_separator comma c ≡ false → skipped t ≡ skipped (Some c ∷ s) → value_start comma first t ≡ Some c ∷ s
begins_at comma true c s t blank separator e = e ∙ skip_none c s blank
begins_at comma false c s t blank separator e =
    ap (λ u. skipped (past_separator comma u)) (e ∙ skip_none c s blank)
    ∙ ap (λ b. skipped (cond b s (Some c ∷ s))) separator ∙ skip_none c s blank

pub undelimited_reads : (comma first : Bool) (ending : Condition) (cs : List ℕ) (s rest : Stream) → 0 < length cs → AllPlain comma cs → Follows rest → skipped s ≡ skipped (chars cs ++ rest)
    → split comma ending first s ≡ value 1 Undelimited cs rest
undelimited_reads comma first ending [] s rest some plain h e = absurd (omega arith)
undelimited_reads comma first ending (c ∷ cs) s rest some plain h e =
    let t = chars cs ++ rest in
    let ends = ends_constant comma in
    ap (value_at comma ending) (begins_at comma first c t s plain.0.blank plain.0.separator e)
    ∙ to_token comma ending c t plain.0.slash plain.0.separator
    ∙ token_plain comma ending (Some c ∷ t) (no_star_plain comma (c ∷ cs) rest plain h)
    ∙ ap (λ b. cond b (closed comma ending 1 (delimited c false t)) (value 1 Undelimited (front ends (Some c ∷ t)) (behind ends (Some c ∷ t)))) plain.0.mark
    ∙ ap (λ (ds : List ℕ). value 1 Undelimited ds (behind ends (Some c ∷ t))) (front_plain comma (c ∷ cs) rest plain h)
    ∙ ap (λ (u : Stream). value 1 Undelimited (c ∷ cs) u) (behind_plain comma (c ∷ cs) rest plain h)

-- an apostrophe or a quotation mark round characters
pub record IsDelimiter (comma : Bool) (mark : ℕ) : Type 0 where
  pub blank : is_blank mark ≡ false
  pub separator : is_separator comma mark ≡ false
  pub slash : eqb mark 47 ≡ false
  pub star : eqb mark 42 ≡ false
  pub digit : is_no_digit mark ≡ true
  pub opens : is_mark mark ≡ true
  pub same : eqb mark mark ≡ true
  pub other : eqb 32 mark ≡ false

pub apostrophe_is : (comma : Bool) → IsDelimiter comma 39
apostrophe_is true = record { blank = refl; separator = refl; slash = refl; star = refl; digit = refl; opens = refl; same = refl; other = refl }
apostrophe_is false = record { blank = refl; separator = refl; slash = refl; star = refl; digit = refl; opens = refl; same = refl; other = refl }

pub quotation_mark_is : (comma : Bool) → IsDelimiter comma 34
quotation_mark_is true = record { blank = refl; separator = refl; slash = refl; star = refl; digit = refl; opens = refl; same = refl; other = refl }
quotation_mark_is false = record { blank = refl; separator = refl; slash = refl; star = refl; digit = refl; opens = refl; same = refl; other = refl }

closes_before : (mark : ℕ) (s : Stream) → eqb 32 mark ≡ false → Follows s → delimited mark true s ≡ Some ([], s)
closes_before mark [] other h = refl
closes_before mark (None ∷ s) other h = refl
closes_before mark (Some c ∷ s) other h =
    let by : ℕ → Option (List ℕ × Stream) = λ d. cond (eqb d mark) (with_front (mark ∷ []) (delimited mark false s)) (Some ([], Some d ∷ s)) in
    ap by h ∙ ap (λ b. cond b (with_front (mark ∷ []) (delimited mark false s)) (Some ([], Some 32 ∷ s))) other ∙ ap (λ d. Some ([], Some d ∷ s)) (sym h)

is_equal : (c d : ℕ) → eqb c d ≡ true → c ≡ d
is_equal c d e = grind (arith, nat_tests)

-- doubled marks are read as the characters
spelled : (mark : ℕ) (text : List ℕ) (rest : Stream) → eqb mark mark ≡ true → eqb 32 mark ≡ false → Follows rest → delimited mark false (chars (doubled mark text ++ mark ∷ []) ++ rest) ≡ Some (text, rest)
spelled mark [] rest same other h =
    ap (λ b. cond b (delimited mark true rest) (with_front (mark ∷ []) (delimited mark false rest))) same ∙ closes_before mark rest other h
spelled mark (c ∷ text) rest same other h =
    let t = chars (doubled mark text ++ mark ∷ []) ++ rest in
    let begun : Bool → Stream = λ b. chars ((cond b (c ∷ c ∷ []) (c ∷ []) ++ doubled mark text) ++ mark ∷ []) ++ rest in
    let more = spelled mark text rest same other h in
    elim (cases_Bool (eqb c mark)) [
      | inl e ↦
          ap (λ b. delimited mark false (begun b)) e
          ∙ ap (λ b. cond b (delimited mark true (Some c ∷ t)) (with_front (c ∷ []) (delimited mark false (Some c ∷ t)))) e
          ∙ ap (λ b. cond b (with_front (mark ∷ []) (delimited mark false t)) (Some ([], Some c ∷ t))) e
          ∙ ap (with_front (mark ∷ [])) more
          ∙ ap (λ d. Some (d ∷ text, rest)) (sym (is_equal c mark e))
      | inr e ↦
          ap (λ b. delimited mark false (begun b)) e
          ∙ ap (λ b. cond b (delimited mark true t) (with_front (c ∷ []) (delimited mark false t))) e
          ∙ ap (with_front (c ∷ [])) more
    ]

ended_before : (comma : Bool) (s : Stream) → Follows s → has_ended comma s ≡ true
ended_before comma [] h = refl
ended_before comma (None ∷ s) h = refl
ended_before comma (Some c ∷ s) h = ap (ends_constant comma) h

pub delimited_reads : (comma first : Bool) (ending : Condition) (mark : ℕ) (text : List ℕ) (s rest : Stream) → IsDelimiter comma mark → Follows rest → skipped s ≡ skipped (chars (mark ∷ (doubled mark text ++ mark ∷ [])) ++ rest)
    → split comma ending first s ≡ value 1 Delimited text rest
delimited_reads comma first ending mark text s rest is h e =
    let t = chars (doubled mark text ++ mark ∷ []) ++ rest in
    let ends = ends_constant comma in
    ap (value_at comma ending) (begins_at comma first mark t s is.blank is.separator e)
    ∙ to_token comma ending mark t is.slash is.separator
    ∙ token_plain comma ending (Some mark ∷ t) (subst (λ (b : Bool). NoStar (cond b (Some mark ∷ t) (behind is_no_digit t))) (sym is.digit) is.star)
    ∙ ap (λ b. cond b (closed comma ending 1 (delimited mark false t)) (value 1 Undelimited (front ends (Some mark ∷ t)) (behind ends (Some mark ∷ t)))) is.opens
    ∙ ap (closed comma ending 1) (spelled mark text rest is.same is.other h)
    ∙ ap (λ b. cond b (value 1 Delimited text rest) (stopped (Error 13) rest)) (ended_before comma rest h)

-- integers
plain_push : (comma : Bool) (cs : List ℕ) (c : ℕ) → AllPlain comma cs → IsPlain comma c → AllPlain comma (cs ++ c ∷ [])
plain_push comma [] c plain h = (h, tt)
plain_push comma (d ∷ cs) c plain h = (plain.0, plain_push comma cs c plain.1 h)

digit_plain : (comma : Bool) (d : ℕ) → d < 10 → IsPlain comma (48 + d)
digit_plain true d h = record { blank = grind (arith, nat_tests); separator = grind (arith, nat_tests); slash = grind (arith, nat_tests); star = grind (arith, nat_tests); mark = grind (arith, nat_tests) }
digit_plain false d h = record { blank = grind (arith, nat_tests); separator = grind (arith, nat_tests); slash = grind (arith, nat_tests); star = grind (arith, nat_tests); mark = grind (arith, nat_tests) }

decimal_plain : (comma : Bool) (n : ℕ) → n < 2 ^ 64 → AllPlain comma (decimal n)
decimal_plain comma = decimal_by_steps (λ n ds. AllPlain comma ds) (λ n h. (digit_plain comma n h, tt)) (λ n ds h before. plain_push comma ds (48 + n % 10) before (digit_plain comma (n % 10) (omega arith)))

plus_plain : (comma : Bool) → IsPlain comma 43
plus_plain true = record { blank = refl; separator = refl; slash = refl; star = refl; mark = refl }
plus_plain false = record { blank = refl; separator = refl; slash = refl; star = refl; mark = refl }

minus_plain : (comma : Bool) → IsPlain comma 45
minus_plain true = record { blank = refl; separator = refl; slash = refl; star = refl; mark = refl }
minus_plain false = record { blank = refl; separator = refl; slash = refl; star = refl; mark = refl }

pub letter_plain : (comma truth : Bool) → IsPlain comma (cond truth 84 70)
letter_plain true true = record { blank = refl; separator = refl; slash = refl; star = refl; mark = refl }
letter_plain true false = record { blank = refl; separator = refl; slash = refl; star = refl; mark = refl }
letter_plain false true = record { blank = refl; separator = refl; slash = refl; star = refl; mark = refl }
letter_plain false false = record { blank = refl; separator = refl; slash = refl; star = refl; mark = refl }

pub magnitude : (bits : ℕ) (z : ℤ) → bits ≤ 64 → FitsBits bits z → (fits_bits bits z ≡ true) × (Rattle.std.specs.Prelude.unsigned_abs z < 2 ^ 64)
magnitude bits (pos n) few h = let low : n < 2 ^ (bits - 1) = omega (arith, ints, h.1) in (grind (arith, nat_tests), omega (arith, half_small bits few))
magnitude bits (negsuc n) few h = let low : n < 2 ^ (bits - 1) = omega (arith, ints, h.0) in (grind (arith, nat_tests), omega (arith, half_small bits few))

pub integer_plain : (comma plus : Bool) (z : ℤ) → Rattle.std.specs.Prelude.unsigned_abs z < 2 ^ 64 → AllPlain comma (integer_shown plus z) × (0 < length (integer_shown plus z))
integer_plain comma true (pos n) h = ((plus_plain comma, decimal_plain comma n h), omega arith)
integer_plain comma false (pos n) h = (decimal_plain comma n h, decimal_nonempty n h)
integer_plain comma plus (negsuc n) h = ((minus_plain comma, decimal_plain comma (suc n) h), omega arith)

number_in-zero : number_in 10 (48 ∷ []) ≡ Some 0
unfolding number_in
number_in-zero = refl

number_in-decimal : (n : ℕ) → n < 2 ^ 64 → number_in 10 (decimal n) ≡ Some n
number_in-decimal zero h = ap (number_in 10) (decimal_digit 0 (omega arith)) ∙ number_in-zero
number_in-decimal (suc n) h = ap (number_in 10) (sym (numeral-decimal (suc n) (omega arith) h)) ∙ number_in-numeral 10 (suc n) (omega arith) (omega arith) (omega arith)

-- digits without a sign
unsigned_digit : (d : ℕ) → d < 10 → (eqb (48 + d) 45 ≡ false) × (eqb (48 + d) 43 ≡ false)
unsigned_digit d h = (grind (arith, nat_tests), grind (arith, nat_tests))

abbrev pub NoSign : List ℕ → Type 0
NoSign [] = Unit {0}
NoSign (c ∷ cs) = (eqb c 45 ≡ false) × (eqb c 43 ≡ false)

no_sign_push : (ds : List ℕ) (c : ℕ) → NoSign ds → (eqb c 45 ≡ false) × (eqb c 43 ≡ false) → NoSign (ds ++ c ∷ [])
no_sign_push [] c h k = k
no_sign_push (d ∷ ds) c h k = h

decimal_no_sign : (n : ℕ) → n < 2 ^ 64 → NoSign (decimal n)
decimal_no_sign = decimal_by_steps (λ n ds. NoSign ds) (λ n h. unsigned_digit n h) (λ n ds h before. no_sign_push ds (48 + n % 10) before (unsigned_digit (n % 10) (omega arith)))

pub integer_unsigned : (ds : List ℕ) → NoSign ds → integer_in ds ≡ signed_number false ds
integer_unsigned [] h = sym (ap (option_map (with_sign false)) number_in-nil)
integer_unsigned (c ∷ cs) h =
    ap (λ b. cond b (signed_number true cs) (cond (eqb c 43) (signed_number false cs) (signed_number false (c ∷ cs)))) h.0
    ∙ ap (λ b. cond b (signed_number false cs) (signed_number false (c ∷ cs))) h.1

integer_in-shown : (plus : Bool) (z : ℤ) → Rattle.std.specs.Prelude.unsigned_abs z < 2 ^ 64 → integer_in (integer_shown plus z) ≡ Some z
integer_in-shown true (pos n) h = ap (option_map (with_sign false)) (number_in-decimal n h)
integer_in-shown false (pos n) h = integer_unsigned (decimal n) (decimal_no_sign n h) ∙ ap (option_map (with_sign false)) (number_in-decimal n h)
integer_in-shown plus (negsuc n) h = ap (option_map (with_sign true)) (number_in-decimal (suc n) h)

pub integer_again : (bits : ℕ) (plus : Bool) (z : ℤ) → bits ≤ 64 → FitsBits bits z → integer_read bits (integer_in (integer_shown plus z)) ≡ read.Defined (value'.Int z)
integer_again bits plus z few h =
    let m = magnitude bits z few h in
    ap (integer_read bits) (integer_in-shown plus z m.1)
    ∙ ap (λ b. cond b (read.Defined (value'.Int z)) (read.Wrong (Error 14))) m.0

-- characters of the right length
pub assigned_whole : (n : ℕ) (cs : List ℕ) → length cs ≡ n → assigned_text n cs ≡ cs
assigned_whole n cs e =
    let none : n - length cs ≡ 0 = omega arith in
    ap (λ k. take n cs ++ replicate k 32) none ∙ append-nil (take n cs) ∙ take_all n cs (omega arith)
