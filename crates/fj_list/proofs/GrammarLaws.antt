-- A text of the grammar is split off as its values.
use Rattle.std.proofs.Common.{◌≡◌, ℕ, ◌^◌, ◌<◌, Bool, true, false, not, ◌||◌, ◌&&◌, cond, eqb, ltb, List, [], ◌∷◌, ◌++◌, Option, Some, None, sym, ap, ◌∙◌, refl, subst, inl, inr, arith}
use Rattle.std.proofs.lemmas.Bool.{cases_Bool, false≢true}
use Rattle.std.proofs.lemmas.Bool.Decides.{nat_tests}
use Rattle.std.proofs.lemmas.Option.{none-some}
use Rattle.std.specs.Char.{is_digit, is_ascii_digit}
use Rattle.std.specs.List.{list_all}
use Rattle.fj_value.specs.Digits.{number_in}
use Rattle.fj_value.proofs.DigitLaws.{number_in-none}
use Rattle.fj_value.specs.declared.condition.Condition.{Condition}
use Rattle.fj_value.specs.declared.condition.Condition.TheVariants.{Fine, Error}
use Rattle.fj_list.specs.declared.constant.Form.{Form}
use Rattle.fj_list.specs.declared.constant.Form.TheVariants.{Null, Undelimited}
use Rattle.fj_list.specs.Stream.{Stream, front, behind, is_blank, skipped}
use Rattle.fj_list.specs.ListInput.{Split, value, stopped, is_separator, ends_constant, is_mark, has_ended, with_front, delimited, closed, constant_at, repeated, counted, is_no_digit, token_at, value_at, past_separator, value_start, split}
use Rattle.fj_list.specs.Grammar as grammar
use Rattle.fj_list.specs.Grammar.{Given, given, separator_of, IsBlank, Blanks, IsOrdinary, Ends, Characters, IsMark, NoMark, Delimiting, Constant, Counts, IsNotCounted, IsRepeat, Item, Finish, Unclosed, Wrong, IsListText}
use Rattle.fj_list.specs.Understood.{end_of}
use Rattle.fj_list.proofs.Numbers.{no_digit_is, number_in-nil}
use Rattle.fj_list.proofs.Outcomes.{closed_ended, closed_wrong, closed_missing}
use Rattle.fj_list.proofs.Plain.{chars, skip_none, begins_at, to_token}

-- characters under the tests of the definition
pub blank_true : (c : ℕ) → IsBlank (Some c) → is_blank c ≡ true
blank_true c (inl e) = grind (arith, nat_tests)
blank_true c (inr e) = grind (arith, nat_tests)

pub blank_or : (c : ℕ) → is_blank c ≡ true → IsBlank (Some c)
blank_or c e = grind (arith, nat_tests)

separator_true : (comma : Bool) (c : ℕ) → c ≡ separator_of comma → is_separator comma c ≡ true
separator_true true c e = grind (arith, nat_tests)
separator_true false c e = grind (arith, nat_tests)

pub separator_or : (comma : Bool) (c : ℕ) → is_separator comma c ≡ true → c ≡ separator_of comma
separator_or true c e = grind (arith, nat_tests)
separator_or false c e = grind (arith, nat_tests)

-- a separator is no blank and no slash
separator_shows : (comma : Bool) (c : ℕ) → c ≡ separator_of comma → (is_blank c ≡ false) × (eqb c 47 ≡ false)
separator_shows true c e = (grind (arith, nat_tests), grind (arith, nat_tests))
separator_shows false c e = (grind (arith, nat_tests), grind (arith, nat_tests))

pub ends_true : (comma : Bool) (s : Stream) → Ends comma s → has_ended comma s ≡ true
ends_true comma [] h = refl
ends_true comma (None ∷ s) h = refl
ends_true comma (Some c ∷ s) (inl (inl h)) = ap (λ b. b || (is_separator comma c || eqb c 47)) (blank_true c h)
ends_true comma (Some c ∷ s) (inl (inr h)) = ap (λ b. is_blank c || (b || eqb c 47)) (separator_true comma c h) ∙ or_true (is_blank c) where
  or_true : (b : Bool) → (b || true) ≡ true
  or_true true = refl
  or_true false = refl
ends_true comma (Some c ∷ s) (inr h) = ap (λ d. ends_constant comma d) h ∙ slash_ends comma where
  slash_ends : (comma : Bool) → ends_constant comma 47 ≡ true
  slash_ends true = refl
  slash_ends false = refl

pub ends_or : (comma : Bool) (c : ℕ) (s : Stream) → ends_constant comma c ≡ true → Ends comma (Some c ∷ s)
ends_or comma c s e = go (is_blank c) (is_separator comma c) (eqb c 47) refl refl refl e where
  go : (a b d : Bool) → is_blank c ≡ a → is_separator comma c ≡ b → eqb c 47 ≡ d → (a || (b || d)) ≡ true → Ends comma (Some c ∷ s)
  go true b d p q r h = inl (inl (blank_or c p))
  go false true d p q r h = inl (inr (separator_or comma c q))
  go false false true p q r h = let is : c ≡ 47 = grind (arith, nat_tests) in inr is
  go false false false p q r h = absurd (false≢true h)

pub ended_or : (comma : Bool) (s : Stream) → has_ended comma s ≡ true → Ends comma s
ended_or comma [] e = tt
ended_or comma (None ∷ s) e = tt
ended_or comma (Some c ∷ s) e = ends_or comma c s e

ends_false : (comma : Bool) (s : Stream) → (Ends comma s → ⊥) → has_ended comma s ≡ false
ends_false comma [] h = absurd (h tt)
ends_false comma (None ∷ s) h = absurd (h tt)
ends_false comma (Some c ∷ s) h = elim (cases_Bool (ends_constant comma c)) [
  | inl e ↦ absurd (h (ends_or comma c s e))
  | inr e ↦ e
]

-- where a value may start
pub record Starts (comma : Bool) (s : Stream) : Type 0 where
  pub c : ℕ
  pub rest : Stream
  pub is : s ≡ Some c ∷ rest
  pub blank : is_blank c ≡ false
  pub separator : is_separator comma c ≡ false
  pub slash : eqb c 47 ≡ false

starts_ends : (comma : Bool) (s : Stream) → Starts comma s → has_ended comma s ≡ false
starts_ends comma s h = ap (has_ended comma) h.is
    ∙ ap (λ b. b || (is_separator comma h.c || eqb h.c 47)) h.blank ∙ ap (λ b. b || eqb h.c 47) h.separator ∙ h.slash

ordinary_starts : (comma : Bool) (c : ℕ) → IsOrdinary comma c → (is_blank c ≡ false) × (is_separator comma c ≡ false) × (eqb c 47 ≡ false)
ordinary_starts true c h = (grind (arith, nat_tests, h.blank, h.tab), grind (arith, nat_tests, h.separator), grind (arith, nat_tests, h.slash))
ordinary_starts false c h = (grind (arith, nat_tests, h.blank, h.tab), grind (arith, nat_tests, h.separator), grind (arith, nat_tests, h.slash))

ordinary_goes_on : (comma : Bool) (c : ℕ) → IsOrdinary comma c → ends_constant comma c ≡ false
ordinary_goes_on comma c h =
    let p = ordinary_starts comma c h in
    ap (λ b. b || (is_separator comma c || eqb c 47)) p.0 ∙ ap (λ b. b || eqb c 47) p.1 ∙ p.2

-- constants without delimiters
front_ends : (comma : Bool) (s : Stream) → has_ended comma s ≡ true → (front (ends_constant comma) s ≡ []) × (behind (ends_constant comma) s ≡ s)
front_ends comma [] e = (refl, refl)
front_ends comma (None ∷ s) e = (refl, refl)
front_ends comma (Some c ∷ s) e = (ap (λ b. cond b [] (c ∷ front (ends_constant comma) s)) e, ap (λ b. cond b (Some c ∷ s) (behind (ends_constant comma) s)) e)

characters_are : (comma : Bool) (cs : List ℕ) (s t : Stream) → Characters comma cs s t → (front (ends_constant comma) s ≡ cs) × (behind (ends_constant comma) s ≡ t)
characters_are comma _ s _ (grammar.ended h) = front_ends comma s (ends_true comma s h)
characters_are comma _ _ t (grammar.character {cs} {s} c ordinary more) =
    let on = characters_are comma cs s t more in
    let goes = ordinary_goes_on comma c ordinary in
    (ap (λ b. cond b [] (c ∷ front (ends_constant comma) s)) goes ∙ ap (λ ds. c ∷ ds) on.0, ap (λ b. cond b (Some c ∷ s) (behind (ends_constant comma) s)) goes ∙ on.1)

-- delimited constants
pub mark_true : (c mark : ℕ) → c ≡ mark → eqb c mark ≡ true
mark_true c mark e = grind (arith, nat_tests)

mark_false : (c mark : ℕ) → (c ≡ mark → ⊥) → eqb c mark ≡ false
mark_false c mark h = grind (arith, nat_tests)

closes : (mark : ℕ) (s : Stream) → NoMark mark s → delimited mark true s ≡ Some ([], s)
closes mark [] h = refl
closes mark (None ∷ s) h = refl
closes mark (Some c ∷ s) h = ap (λ b. cond b (with_front (mark ∷ []) (delimited mark false s)) (Some ([], Some c ∷ s))) (mark_false c mark h)

-- characters and what follows them
abbrev found : List ℕ → Option Stream → Option (List ℕ × Stream)
found cs None = None
found cs (Some t) = Some (cs, t)

found_front : (c : ℕ) (cs : List ℕ) (t : Option Stream) → with_front (c ∷ []) (found cs t) ≡ found (c ∷ cs) t
found_front c cs None = refl
found_front c cs (Some t) = refl

delimiting_is : (mark : ℕ) (cs : List ℕ) (s : Stream) (t : Option Stream) → Delimiting mark cs s t → delimited mark false s ≡ found cs t
delimiting_is mark _ _ _ grammar.unended = refl
delimiting_is mark _ _ _ (grammar.closing {s} c is none) =
    ap (λ b. cond b (delimited mark true s) (with_front (c ∷ []) (delimited mark false s))) (mark_true c mark is) ∙ closes mark s none
delimiting_is mark _ _ t (grammar.doubled {cs} {s} c d is is' more) =
    ap (λ b. cond b (delimited mark true (Some d ∷ s)) (with_front (c ∷ []) (delimited mark false (Some d ∷ s)))) (mark_true c mark is)
    ∙ ap (λ b. cond b (with_front (mark ∷ []) (delimited mark false s)) (Some ([], Some d ∷ s))) (mark_true d mark is')
    ∙ ap (with_front (mark ∷ [])) (delimiting_is mark cs s t more)
    ∙ found_front mark cs t
delimiting_is mark _ _ t (grammar.inside {cs} {s} c other more) =
    ap (λ b. cond b (delimited mark true s) (with_front (c ∷ []) (delimited mark false s))) (mark_false c mark other)
    ∙ ap (with_front (c ∷ [])) (delimiting_is mark cs s t more)
    ∙ found_front c cs t
delimiting_is mark cs _ t (grammar.record_end {s} more) = delimiting_is mark cs s t more

pub opens_true : (c : ℕ) → IsMark c → is_mark c ≡ true
opens_true c (inl e) = grind (arith, nat_tests)
opens_true c (inr e) = grind (arith, nat_tests)

pub mark_or : (c : ℕ) → is_mark c ≡ true → IsMark c
mark_or c e = grind (arith, nat_tests)

opens_false : (c : ℕ) → (IsMark c → ⊥) → is_mark c ≡ false
opens_false c h = elim (cases_Bool (is_mark c)) [
  | inl e ↦ absurd (h (mark_or c e))
  | inr e ↦ e
]

mark_starts : (comma : Bool) (c : ℕ) (s : Stream) → IsMark c → Starts comma (Some c ∷ s)
mark_starts true c s (inl e) = record { c = c; rest = s; is = refl; blank = grind (arith, nat_tests); separator = grind (arith, nat_tests); slash = grind (arith, nat_tests) }
mark_starts true c s (inr e) = record { c = c; rest = s; is = refl; blank = grind (arith, nat_tests); separator = grind (arith, nat_tests); slash = grind (arith, nat_tests) }
mark_starts false c s (inl e) = record { c = c; rest = s; is = refl; blank = grind (arith, nat_tests); separator = grind (arith, nat_tests); slash = grind (arith, nat_tests) }
mark_starts false c s (inr e) = record { c = c; rest = s; is = refl; blank = grind (arith, nat_tests); separator = grind (arith, nat_tests); slash = grind (arith, nat_tests) }

-- a constant
first_ordinary : (comma : Bool) (c : ℕ) (cs ds : List ℕ) (s t : Stream) → Characters comma ds s t → ds ≡ c ∷ cs → IsOrdinary comma c
first_ordinary comma c cs _ s _ (grammar.ended h) e = absurd (cc)
first_ordinary comma c cs _ _ t (grammar.character d ordinary more) e = let same : d ≡ c = cc in subst (λ (x : ℕ). IsOrdinary comma x) same ordinary

constant_starts : (comma : Bool) (form : Form) (cs : List ℕ) (s t : Stream) → Constant comma form cs s t → Starts comma s
constant_starts comma _ _ _ t (grammar.plain {cs} {s} c no_mark h) =
    let p = ordinary_starts comma c (first_ordinary comma c cs (c ∷ cs) (Some c ∷ s) t h refl) in
    record { c = c; rest = s; is = refl; blank = p.0; separator = p.1; slash = p.2 }
constant_starts comma _ cs _ t (grammar.delimited {s} mark is h ends) = mark_starts comma mark s is

constant_reads : (comma : Bool) (ending : Condition) (n : ℕ) (form : Form) (cs : List ℕ) (s t : Stream) → Constant comma form cs s t → constant_at comma ending n s ≡ value n form cs t
constant_reads comma ending n _ _ _ t (grammar.plain {cs} {s} c no_mark h) =
    let ends = ends_constant comma in
    let p = characters_are comma (c ∷ cs) (Some c ∷ s) t h in
    ap (λ b. cond b (closed comma ending n (delimited c false s)) (value n Undelimited (front ends (Some c ∷ s)) (behind ends (Some c ∷ s)))) (opens_false c no_mark)
    ∙ ap (λ (ds : List ℕ). value n Undelimited ds (behind ends (Some c ∷ s))) p.0
    ∙ ap (λ (u : Stream). value n Undelimited (c ∷ cs) u) p.1
constant_reads comma ending n _ cs _ t (grammar.delimited {s} mark is h ends) =
    let stop = ends_constant comma in
    ap (λ b. cond b (closed comma ending n (delimited mark false s)) (value n Undelimited (front stop (Some mark ∷ s)) (behind stop (Some mark ∷ s)))) (opens_true mark is)
    ∙ closed_ended comma ending n (delimited mark false s) cs t (delimiting_is mark cs s (Some t) h) (ends_true comma t ends)

unclosed_starts : (comma : Bool) (s : Stream) (f : Finish) → Unclosed comma s f → Starts comma s
unclosed_starts comma _ _ (grammar.unclosed {cs} {s} mark is h) = mark_starts comma mark s is
unclosed_starts comma _ _ (grammar.text_behind {cs} {s} mark is h text) = mark_starts comma mark s is

-- the statement ends there, whatever stands behind the records
abbrev pub Stops : (Condition → Split) → Finish → Type 0
Stops of f = (rest : Stream) × ((ending : Condition) → of ending ≡ stopped (end_of f ending) rest)

unclosed_stops : (comma : Bool) (n : ℕ) (s : Stream) (f : Finish) → Unclosed comma s f → Stops (λ ending. constant_at comma ending n s) f
unclosed_stops comma n _ _ (grammar.unclosed {cs} {s} mark is h) =
    let stop = ends_constant comma in (
      [],
      λ ending.
          ap (λ b. cond b (closed comma ending n (delimited mark false s)) (value n Undelimited (front stop (Some mark ∷ s)) (behind stop (Some mark ∷ s)))) (opens_true mark is)
          ∙ closed_missing comma ending n (delimited mark false s) (delimiting_is mark cs s None h),
    )
unclosed_stops comma n _ _ (grammar.text_behind {cs} {s} {t} mark is h text) =
    let stop = ends_constant comma in (
      t,
      λ ending.
          ap (λ b. cond b (closed comma ending n (delimited mark false s)) (value n Undelimited (front stop (Some mark ∷ s)) (behind stop (Some mark ∷ s)))) (opens_true mark is)
          ∙ closed_wrong comma ending n (delimited mark false s) cs t (delimiting_is mark cs s (Some t) h) (ends_false comma t text),
    )

-- repeat counts
pub all_digits : (ds : List ℕ) (r : ℕ) → number_in 10 ds ≡ Some r → list_all (λ x. is_digit x 10) ds ≡ true
all_digits ds r e = elim (cases_Bool (list_all (λ x. is_digit x 10) ds)) [
  | inl h ↦ h
  | inr h ↦ absurd (none-some r (sym (number_in-none 10 ds h) ∙ e))
]

pub digit_first : (a b : Bool) → (a && b) ≡ true → (a ≡ true) × (b ≡ true)
digit_first true true e = (refl, refl)
digit_first true false e = absurd (false≢true e)
digit_first false b e = absurd (false≢true e)

pub is_digit_ascii : (c : ℕ) → is_digit c 10 ≡ true → is_no_digit c ≡ false
is_digit_ascii c e = elim (cases_Bool (is_ascii_digit c)) [
  | inl h ↦ ap not h
  | inr h ↦ absurd (false≢true (sym (no_digit_is c h) ∙ e))
]

pub digits_are : (ds : List ℕ) (t : Stream) → list_all (λ x. is_digit x 10) ds ≡ true → (front is_no_digit (chars ds ++ Some 42 ∷ t) ≡ ds) × (behind is_no_digit (chars ds ++ Some 42 ∷ t) ≡ Some 42 ∷ t)
digits_are [] t e = (refl, refl)
digits_are (d ∷ ds) t e =
    let p = digit_first (is_digit d 10) (list_all (λ x. is_digit x 10) ds) e in
    let on = digits_are ds t p.1 in
    let s = chars ds ++ Some 42 ∷ t in
    let digit = is_digit_ascii d p.0 in
    (ap (λ b. cond b [] (d ∷ front is_no_digit s)) digit ∙ ap (λ xs. d ∷ xs) on.0, ap (λ b. cond b (Some d ∷ s) (behind is_no_digit s)) digit ∙ on.1)

counts_reads : (comma : Bool) (ending : Condition) (r : ℕ) (s t : Stream) → Counts r s t → token_at comma ending s ≡ repeated comma ending r t
counts_reads comma ending r s t h =
    let p = digits_are h.digits t (all_digits h.digits r h.number) in
    let whole = chars h.digits ++ Some 42 ∷ t in
    ap (token_at comma ending) h.whole
    ∙ ap (λ (ds : List ℕ). counted comma ending whole (number_in 10 ds) (behind is_no_digit whole)) p.0
    ∙ ap (counted comma ending whole (number_in 10 h.digits)) p.1
    ∙ ap (λ (o : Option ℕ). counted comma ending whole o (Some 42 ∷ t)) h.number

digit_starts : (comma : Bool) (d : ℕ) (s : Stream) → is_digit d 10 ≡ true → Starts comma (Some d ∷ s)
digit_starts comma d s e = elim (cases_Bool (is_ascii_digit d)) [
  | inl h ↦ by comma h
  | inr h ↦ absurd (false≢true (sym (no_digit_is d h) ∙ e))
] where
  by : (comma : Bool) → is_ascii_digit d ≡ true → Starts comma (Some d ∷ s)
  by true h = record { c = d; rest = s; is = refl; blank = grind (arith, nat_tests); separator = grind (arith, nat_tests); slash = grind (arith, nat_tests) }
  by false h = record { c = d; rest = s; is = refl; blank = grind (arith, nat_tests); separator = grind (arith, nat_tests); slash = grind (arith, nat_tests) }

counts_starts : (comma : Bool) (r : ℕ) (s t : Stream) → Counts r s t → Starts comma s
counts_starts comma r s t h = go h.digits h.number h.whole where
  go : (ds : List ℕ) → number_in 10 ds ≡ Some r → s ≡ chars ds ++ Some 42 ∷ t → Starts comma s
  go [] number whole = absurd (none-some r (sym number_in-nil ∙ number))
  go (d ∷ ds) number whole =
      subst (Starts comma) (sym whole)
      (digit_starts comma d (chars ds ++ Some 42 ∷ t) (digit_first (is_digit d 10) (list_all (λ x. is_digit x 10) ds) (all_digits (d ∷ ds) r number)).0)

pub front_whole : (stops : ℕ → Bool) (s : Stream) → s ≡ chars (front stops s) ++ behind stops s
front_whole stops [] = refl
front_whole stops (None ∷ s) = refl
front_whole stops (Some c ∷ s) = go (stops c) (front_whole stops s) where
  go : (b : Bool) → s ≡ chars (front stops s) ++ behind stops s → Some c ∷ s ≡ chars (cond b [] (c ∷ front stops s)) ++ cond b (Some c ∷ s) (behind stops s)
  go true more = refl
  go false more = ap (λ (t : Stream). Some c ∷ t) more

pub star_is : (c : ℕ) → eqb c 42 ≡ true → c ≡ 42
star_is c e = grind (arith, nat_tests)

not_counted_reads : (comma : Bool) (ending : Condition) (s : Stream) → IsNotCounted s → token_at comma ending s ≡ constant_at comma ending 1 s
not_counted_reads comma ending s h = go (number_in 10 (front is_no_digit s)) (behind is_no_digit s) refl refl where
  go : (o : Option ℕ) (t : Stream) → number_in 10 (front is_no_digit s) ≡ o → behind is_no_digit s ≡ t → counted comma ending s o t ≡ constant_at comma ending 1 s
  go None t number rest = refl
  go (Some r) [] number rest = refl
  go (Some r) (None ∷ t) number rest = refl
  go (Some r) (Some c ∷ t) number rest = elim (cases_Bool (eqb c 42)) [
    | inl e ↦
        let star : Some c ∷ t ≡ Some 42 ∷ t = ap (λ (d : ℕ). Some d ∷ t) (star_is c e) in
        let counts : Counts r s t = record { digits = front is_no_digit s; number = number; whole = front_whole is_no_digit s ∙ ap (λ (u : Stream). chars (front is_no_digit s) ++ u) (rest ∙ star) } in
        absurd (h r t counts)
    | inr e ↦ ap (λ b. cond b (repeated comma ending r t) (constant_at comma ending 1 s)) e
  ]

in_range : (r : ℕ) → IsRepeat r → (ltb 0 r && ltb r (2 ^ 32)) ≡ true
in_range r h = let low = h.0 in let high = h.1 in grind (arith, nat_tests)

out_of_range : (r : ℕ) → (IsRepeat r → ⊥) → (ltb 0 r && ltb r (2 ^ 32)) ≡ false
out_of_range r h = elim (cases_Bool (ltb 0 r && ltb r (2 ^ 32))) [
  | inl e ↦
      let p = digit_first (ltb 0 r) (ltb r (2 ^ 32)) e in
      let low : 0 < r = grind (arith, nat_tests, p.0) in
      let high : r < 2 ^ 32 = grind (arith, nat_tests, p.1) in
      absurd (h (low, high))
  | inr e ↦ e
]

repeated_goes : (comma : Bool) (ending : Condition) (r : ℕ) (s : Stream) → IsRepeat r → has_ended comma s ≡ false → repeated comma ending r s ≡ constant_at comma ending r s
repeated_goes comma ending r s h e =
    ap (λ b. cond b (cond (has_ended comma s) (value r Null [] s) (constant_at comma ending r s)) (stopped (Error 13) s)) (in_range r h)
    ∙ ap (λ b. cond b (value r Null [] s) (constant_at comma ending r s)) e

repeated_ends : (comma : Bool) (ending : Condition) (r : ℕ) (s : Stream) → IsRepeat r → has_ended comma s ≡ true → repeated comma ending r s ≡ value r Null [] s
repeated_ends comma ending r s h e =
    ap (λ b. cond b (cond (has_ended comma s) (value r Null [] s) (constant_at comma ending r s)) (stopped (Error 13) s)) (in_range r h)
    ∙ ap (λ b. cond b (value r Null [] s) (constant_at comma ending r s)) e

-- from the first character of a value on
to_tokens : (comma : Bool) (ending : Condition) (s : Stream) → Starts comma s → value_at comma ending s ≡ token_at comma ending s
to_tokens comma ending s h =
    ap (value_at comma ending) h.is ∙ to_token comma ending h.c h.rest h.slash h.separator ∙ ap (token_at comma ending) (sym h.is)

pub item_starts : (comma : Bool) (g : Given) (s t : Stream) → Item comma g s t → Starts comma s
item_starts comma _ s t (grammar.once {form} {cs} none h) = constant_starts comma form cs s t h
item_starts comma _ s t (grammar.repeated {form} {cs} {u} r counts range h) = counts_starts comma r s u counts
item_starts comma _ s t (grammar.nulls r counts range ends) = counts_starts comma r s t counts

item_reads : (comma : Bool) (ending : Condition) (g : Given) (s t : Stream) → Item comma g s t → token_at comma ending s ≡ value g.count g.form g.characters t
item_reads comma ending _ s t (grammar.once {form} {cs} none h) = not_counted_reads comma ending s none ∙ constant_reads comma ending 1 form cs s t h
item_reads comma ending _ s t (grammar.repeated {form} {cs} {u} r counts range h) =
    counts_reads comma ending r s u counts ∙ repeated_goes comma ending r u range (starts_ends comma u (constant_starts comma form cs u t h)) ∙ constant_reads comma ending r form cs u t h
item_reads comma ending _ s t (grammar.nulls r counts range ends) = counts_reads comma ending r s t counts ∙ repeated_ends comma ending r t range (ends_true comma t ends)

pub item_some : (comma : Bool) (g : Given) (s t : Stream) → Item comma g s t → 0 < g.count
item_some comma _ s t (grammar.once none h) = omega arith
item_some comma _ s t (grammar.repeated r counts range h) = range.0
item_some comma _ s t (grammar.nulls r counts range ends) = range.0

wrong_starts : (comma : Bool) (s : Stream) (f : Finish) → Wrong comma s f → Starts comma s
wrong_starts comma s f (grammar.not_closed h) = unclosed_starts comma s f h
wrong_starts comma s f (grammar.repeated_not_closed {t} r counts range h) = counts_starts comma r s t counts
wrong_starts comma s _ (grammar.count_out_of_range {t} r counts range) = counts_starts comma r s t counts

-- characters from a mark on are no repeat count
mark_not_counted : (c : ℕ) (s : Stream) → IsMark c → IsNotCounted (Some c ∷ s)
mark_not_counted c s is r t h = go h.digits h.number h.whole where
  no_digit : (c : ℕ) → IsMark c → is_digit c 10 ≡ false
  no_digit c (inl e) = no_digit_is c (grind (arith, nat_tests))
  no_digit c (inr e) = no_digit_is c (grind (arith, nat_tests))

  go : (ds : List ℕ) → number_in 10 ds ≡ Some r → Some c ∷ s ≡ chars ds ++ Some 42 ∷ t → ⊥
  go [] number whole = none-some r (sym number_in-nil ∙ number)
  go (d ∷ ds) number whole =
      let same : c ≡ d = cc in
      false≢true (sym (no_digit c is) ∙ ap (λ x. is_digit x 10) same ∙ (digit_first (is_digit d 10) (list_all (λ x. is_digit x 10) ds) (all_digits (d ∷ ds) r number)).0)

unclosed_not_counted : (comma : Bool) (s : Stream) (f : Finish) → Unclosed comma s f → IsNotCounted s
unclosed_not_counted comma _ _ (grammar.unclosed {cs} {s} mark is h) = mark_not_counted mark s is
unclosed_not_counted comma _ _ (grammar.text_behind {cs} {s} mark is h text) = mark_not_counted mark s is

wrong_stops : (comma : Bool) (s : Stream) (f : Finish) → Wrong comma s f → Stops (λ ending. token_at comma ending s) f
wrong_stops comma s f (grammar.not_closed h) =
    let stops = unclosed_stops comma 1 s f h in
    (stops.0, λ ending. not_counted_reads comma ending s (unclosed_not_counted comma s f h) ∙ stops.1 ending)
wrong_stops comma s f (grammar.repeated_not_closed {t} r counts range h) =
    let stops = unclosed_stops comma r t f h in
    (stops.0, λ ending. counts_reads comma ending r s t counts ∙ repeated_goes comma ending r t range (starts_ends comma t (unclosed_starts comma t f h)) ∙ stops.1 ending)
wrong_stops comma s _ (grammar.count_out_of_range {t} r counts range) =
    (t, λ ending. counts_reads comma ending r s t counts ∙ ap (λ b. cond b (cond (has_ended comma t) (value r Null [] t) (constant_at comma ending r t)) (stopped (Error 13) t)) (out_of_range r range))

-- blanks are passed over
blanks_skipped : (s t : Stream) → Blanks s t → skipped s ≡ skipped t
blanks_skipped s _ grammar.no_blank = refl
blanks_skipped _ t (grammar.blank {s} None is more) = blanks_skipped s t more
blanks_skipped _ t (grammar.blank {s} (Some c) is more) = ap (λ b. cond b (skipped s) (Some c ∷ s)) (blank_true c is) ∙ blanks_skipped s t more

start_at : (comma begins : Bool) (s t : Stream) → Blanks s t → Starts comma t → value_start comma begins s ≡ t
start_at comma begins s t blanks h = begins_at comma begins h.c h.rest s h.blank h.separator (blanks_skipped s t blanks ∙ ap skipped h.is) ∙ sym h.is

start_none : (comma begins : Bool) (s : Stream) → skipped s ≡ [] → value_start comma begins s ≡ []
start_none comma true s e = e
start_none comma false s e = ap (λ (t : Stream). skipped (past_separator comma t)) e

slash_starts : (comma begins : Bool) (s t : Stream) → Blanks s (Some 47 ∷ t) → value_start comma begins s ≡ Some 47 ∷ t
slash_starts true begins s t blanks = begins_at true begins 47 t s refl refl (blanks_skipped s (Some 47 ∷ t) blanks)
slash_starts false begins s t blanks = begins_at false begins 47 t s refl refl (blanks_skipped s (Some 47 ∷ t) blanks)

separator_skipped : (comma : Bool) (c : ℕ) (s t : Stream) → c ≡ separator_of comma → Blanks s (Some c ∷ t) → skipped s ≡ Some c ∷ t
separator_skipped comma c s t is blanks = blanks_skipped s (Some c ∷ t) blanks ∙ skip_none c t (separator_shows comma c is).0

split_past : (comma : Bool) (ending : Condition) (c : ℕ) (s t : Stream) → c ≡ separator_of comma → Blanks s (Some c ∷ t) → split comma ending false s ≡ split comma ending true t
split_past comma ending c s t is blanks =
    ap (λ (u : Stream). value_at comma ending (skipped (past_separator comma u))) (separator_skipped comma c s t is blanks)
    ∙ ap (λ b. value_at comma ending (skipped (cond b t (Some c ∷ t)))) (separator_true comma c is)

split_null : (comma : Bool) (ending : Condition) (c : ℕ) (s t : Stream) → c ≡ separator_of comma → Blanks s (Some c ∷ t) → split comma ending true s ≡ value 1 Null [] (Some c ∷ t)
split_null comma ending c s t is blanks =
    let by : Bool → Bool → Split = λ b d. cond b (stopped Fine (Some c ∷ t)) (cond d (value 1 Null [] (Some c ∷ t)) (token_at comma ending (Some c ∷ t))) in
    ap (value_at comma ending) (separator_skipped comma c s t is blanks)
    ∙ ap (λ b. by b (is_separator comma c)) (separator_shows comma c is).1 ∙ ap (by false) (separator_true comma c is)

-- what is split off a text: its first value, and then the text of the others; or the statement ends there
pub record Next (comma begins : Bool) (s : Stream) (g : Given) (gs : List Given) (f : Finish) : Type 0 where
  pub rest : Stream
  pub reads : (ending : Condition) → split comma ending begins s ≡ value g.count g.form g.characters rest
  pub some : 0 < g.count
  pub text : IsListText comma false rest gs f

abbrev pub Step : Bool → Bool → Stream → List Given → Finish → Type 0
Step comma begins s [] f = Stops (λ ending. split comma ending begins s) f
Step comma begins s (g ∷ gs) f = Next comma begins s g gs f

step_past : (comma : Bool) (c : ℕ) (s t : Stream) (gs : List Given) (f : Finish) → c ≡ separator_of comma → Blanks s (Some c ∷ t) → Step comma true t gs f → Step comma false s gs f
step_past comma c s t [] f is blanks h = (h.0, λ ending. split_past comma ending c s t is blanks ∙ h.1 ending)
step_past comma c s t (g ∷ gs) f is blanks h = record { rest = h.rest; reads = λ ending. split_past comma ending c s t is blanks ∙ h.reads ending; some = h.some; text = h.text }

pub step_of : (comma begins : Bool) (s : Stream) (gs : List Given) (f : Finish) → IsListText comma begins s gs f → Step comma begins s gs f
step_of comma begins s _ _ (grammar.IsListText.records_end blanks) = ([], λ ending. ap (value_at comma ending) (start_none comma begins s (blanks_skipped s [] blanks)))
step_of comma begins s _ _ (grammar.IsListText.slash {t} blanks) = (Some 47 ∷ t, λ ending. ap (value_at comma ending) (slash_starts comma begins s t blanks))
step_of comma begins s _ f (grammar.IsListText.no_value {t} blanks wrong) =
    let starts = wrong_starts comma t f wrong in
    let stops = wrong_stops comma t f wrong in
    (stops.0, λ ending. ap (value_at comma ending) (start_at comma begins s t blanks starts) ∙ to_tokens comma ending t starts ∙ stops.1 ending)
step_of comma begins s _ f (grammar.IsListText.value {t} {u} {g} blanks item more) =
    let starts = item_starts comma g t u item in
    record {
      rest = u;
      reads = λ ending. ap (value_at comma ending) (start_at comma begins s t blanks starts) ∙ to_tokens comma ending t starts ∙ item_reads comma ending g t u item;
      some = item_some comma g t u item;
      text = more;
    }
step_of comma _ s gs f (grammar.IsListText.separator {t} c is blanks more) = step_past comma c s t gs f is blanks (step_of comma true t gs f more)
step_of comma _ s _ f (grammar.IsListText.null_value {t} c is blanks more) = record {
  rest = Some c ∷ t;
  reads = λ ending. split_null comma ending c s t is blanks;
  some = omega arith;
  text = grammar.IsListText.separator c is grammar.no_blank more;
}
