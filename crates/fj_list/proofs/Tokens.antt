-- Values within a record.
use Rattle.std.proofs.Common.{◌≡◌, ℕ, ◌+◌, ◌-◌, ◌^◌, ◌<◌, ◌≤◌, Bool, true, false, ◌&&◌, cond, eqb, ltb, min, List, [], ◌∷◌, length, get_or, take, drop, Option, Some, None, slice_get, sym, ap, ◌∙◌, refl, inl, inr, arith}
use Rattle.std.proofs.lemmas.Bool.{cases_lt}
use Rattle.std.proofs.lemmas.Bool.Decides.{nat_tests}
use Rattle.std.proofs.lemmas.List.{drop-drop}
use Rattle.std.specs.List.{position_or_len}
use Rattle.std.specs.Option.{option_map}
use Rattle.fj_value.specs.Digits.{number_in}
use Rattle.fj_value.specs.declared.condition.Condition.{Condition}
use Rattle.fj_value.specs.declared.condition.Condition.TheVariants.{Fine, Error}
use Rattle.fj_list.specs.declared.constant.Form.TheVariants.{Null, Undelimited}
use Rattle.fj_list.specs.Stream.{Stream, stream, front, behind}
use Rattle.fj_list.specs.ListInput.{Split, value, stopped, is_separator, ends_constant, is_mark, has_ended, delimited, closed, constant_at, repeated, counted, is_no_digit, token_at, value_at}
use Rattle.fj_list.specs.Scan.{IsCounted, IsNotCounted}
use Rattle.fj_list.proofs.Numbers.{map_some, map_none}
use Rattle.fj_list.proofs.StreamLaws.{stream_at, stream_end, stream_on, front_is, behind_is}

is_same : (c d : ℕ) → c ≡ d → eqb c d ≡ true
is_same c d e = grind (arith, nat_tests)

is_other : (c d : ℕ) → (c ≡ d → ⊥) → eqb c d ≡ false
is_other c d h = grind (arith, nat_tests)

-- a constant that begins with no mark
pub constant_undelimited : (comma : Bool) (ending : Condition) (count : ℕ) (line : List ℕ) (at width : ℕ) (lines : List (List ℕ)) → at < length line
    → is_mark (get_or line at 0) ≡ false → width ≡ position_or_len (ends_constant comma) (drop at line)
    → constant_at comma ending count (stream (drop at line ∷ lines)) ≡ value count Undelimited (take (at + width - at) (drop at line)) (stream (drop (at + width) line ∷ lines))
constant_undelimited comma ending count line at width lines there plain is =
    let c = get_or line at 0 in
    let cs = drop at line in
    let ends = ends_constant comma in
    let here = stream_on line at lines there in
    let rest = stream (drop (at + 1) line ∷ lines) in
    let n = position_or_len ends cs in
    let same : at + width - at ≡ n = omega arith in
    let next : at + width ≡ at + n = omega arith in
    ap (constant_at comma ending count) here
    ∙ ap (λ b. cond b (closed comma ending count (delimited c false rest)) (value count Undelimited (front ends (Some c ∷ rest)) (behind ends (Some c ∷ rest)))) plain
    ∙ ap (λ (t : Stream). value count Undelimited (front ends t) (behind ends t)) (sym here)
    ∙ ap (λ (fs : List ℕ). value count Undelimited fs (behind ends (stream (cs ∷ lines)))) (front_is ends cs lines)
    ∙ ap (λ (t : Stream). value count Undelimited (take n cs) t) (behind_is ends cs lines)
    ∙ ap (λ (ds : List ℕ). value count Undelimited (take n cs) (stream (ds ∷ lines))) (drop-drop n at line)
    ∙ ap (λ k. value count Undelimited (take k cs) (stream (drop (at + n) line ∷ lines))) (sym same)
    ∙ ap (λ k. value count Undelimited (take (at + width - at) cs) (stream (drop k line ∷ lines))) (sym next)

-- a constant that begins with a mark
pub constant_opened : (comma : Bool) (ending : Condition) (count : ℕ) (line : List ℕ) (at mark : ℕ) (lines : List (List ℕ)) → at < length line → get_or line at 0 ≡ mark → is_mark mark ≡ true
    → constant_at comma ending count (stream (drop at line ∷ lines)) ≡ closed comma ending count (delimited mark false (stream (drop (at + 1) line ∷ lines)))
constant_opened comma ending count line at mark lines there is opens =
    let ends = ends_constant comma in
    let rest = stream (drop (at + 1) line ∷ lines) in
    ap (constant_at comma ending count) (stream_on line at lines there ∙ ap (λ c. Some c ∷ rest) is)
    ∙ ap (λ b. cond b (closed comma ending count (delimited mark false rest)) (value count Undelimited (front ends (Some mark ∷ rest)) (behind ends (Some mark ∷ rest)))) opens

-- repeat counts
most_small : (n : ℕ) → n < 2 ^ 64 - 1 → min n (2 ^ 64 - 1) ≡ n
most_small n h = omega arith

too_great : (n : ℕ) → 2 ^ 32 ≤ n → (ltb 0 n && ltb n (2 ^ 32)) ≡ false
too_great n h = grind (arith, nat_tests)

pub repeated_most : (comma : Bool) (ending : Condition) (n : ℕ) (s : Stream) → repeated comma ending n s ≡ repeated comma ending (min n (2 ^ 64 - 1)) s
repeated_most comma ending n s =
    let outcome : Bool → ℕ → Split = λ b k. cond b (cond (has_ended comma s) (value k Null [] s) (constant_at comma ending k s)) (stopped (Error 13) s) in
    elim (cases_lt n (2 ^ 64 - 1)) [
      | inl h ↦ ap (λ k. repeated comma ending k s) (sym (most_small n h))
      | inr h ↦
          let m = min n (2 ^ 64 - 1) in
          let great : 2 ^ 32 ≤ m = omega arith in
          ap (λ b. outcome b n) (too_great n (omega arith)) ∙ sym (ap (λ b. outcome b m) (too_great m great))
    ]

pub token_is : (comma : Bool) (ending : Condition) (cs : List ℕ) (width : ℕ) (lines : List (List ℕ)) → width ≡ position_or_len is_no_digit cs
    → token_at comma ending (stream (cs ∷ lines)) ≡ counted comma ending (stream (cs ∷ lines)) (number_in 10 (take width cs)) (stream (drop width cs ∷ lines))
token_is comma ending cs width lines is =
    let s = stream (cs ∷ lines) in
    ap (λ (fs : List ℕ). counted comma ending s (number_in 10 fs) (behind is_no_digit s)) (front_is is_no_digit cs lines ∙ ap (λ k. take k cs) (sym is))
    ∙ ap (counted comma ending s (number_in 10 (take width cs))) (behind_is is_no_digit cs lines ∙ ap (λ k. stream (drop k cs ∷ lines)) (sym is))

pub is_counted : (cs : List ℕ) (width count : ℕ) (digits : List ℕ) → width ≡ position_or_len is_no_digit cs → Some count ≡ option_map (λ n. min n (2 ^ 64 - 1)) (number_in 10 digits) → digits ≡ take width cs → slice_get cs width ≡ Some 42
    → IsCounted cs count (width + 1)
is_counted cs width count digits is number same star = λ comma ending lines.
    let s = stream (cs ∷ lines) in
    let found = map_some (number_in 10 (take width cs)) count (number ∙ ap (λ (ds : List ℕ). option_map (λ n. min n (2 ^ 64 - 1)) (number_in 10 ds)) same) in
    let rest = stream (drop (width + 1) cs ∷ lines) in
    token_is comma ending cs width lines is
    ∙ ap (λ o. counted comma ending s o (stream (drop width cs ∷ lines))) found.1
    ∙ ap (counted comma ending s (Some found.0)) (stream_at cs width 42 lines star)
    ∙ repeated_most comma ending found.0 rest
    ∙ ap (λ k. repeated comma ending k rest) (sym found.2)

counted_none : (comma : Bool) (ending : Condition) (s t : Stream) (o : Option ℕ) → o ≡ None → counted comma ending s o t ≡ constant_at comma ending 1 s
counted_none comma ending s t o e = ap (λ p. counted comma ending s p t) e

pub no_number : (cs : List ℕ) (width : ℕ) (digits : List ℕ) → width ≡ position_or_len is_no_digit cs → None ≡ option_map (λ n. min n (2 ^ 64 - 1)) (number_in 10 digits) → digits ≡ take width cs → IsNotCounted cs
no_number cs width digits is number same = λ comma ending lines.
    token_is comma ending cs width lines is
    ∙ counted_none comma ending (stream (cs ∷ lines)) (stream (drop width cs ∷ lines)) (number_in 10 (take width cs))
    (map_none (number_in 10 (take width cs)) (number ∙ ap (λ (ds : List ℕ). option_map (λ n. min n (2 ^ 64 - 1)) (number_in 10 ds)) same))

counted_end : (comma : Bool) (ending : Condition) (s t : Stream) (o : Option ℕ) → counted comma ending s o (None ∷ t) ≡ constant_at comma ending 1 s
counted_end comma ending s t None = refl
counted_end comma ending s t (Some n) = refl

counted_other : (comma : Bool) (ending : Condition) (s t : Stream) (c : ℕ) (o : Option ℕ) → eqb c 42 ≡ false → counted comma ending s o (Some c ∷ t) ≡ constant_at comma ending 1 s
counted_other comma ending s t c None e = refl
counted_other comma ending s t c (Some n) e = ap (λ b. cond b (repeated comma ending n t) (constant_at comma ending 1 s)) e

no_star_is : (cs : List ℕ) (width : ℕ) (next : Option ℕ) → width ≡ position_or_len is_no_digit cs → slice_get cs width ≡ next → (next ≡ Some 42 → ⊥) → IsNotCounted cs
no_star_is cs width None is next other = λ comma ending lines.
    token_is comma ending cs width lines is
    ∙ ap (counted comma ending (stream (cs ∷ lines)) (number_in 10 (take width cs))) (stream_end cs width lines next)
    ∙ counted_end comma ending (stream (cs ∷ lines)) (stream lines) (number_in 10 (take width cs))
no_star_is cs width (Some c) is next other = λ comma ending lines.
    token_is comma ending cs width lines is
    ∙ ap (counted comma ending (stream (cs ∷ lines)) (number_in 10 (take width cs))) (stream_at cs width c lines next)
    ∙ counted_other comma ending (stream (cs ∷ lines)) (stream (drop (width + 1) cs ∷ lines)) c (number_in 10 (take width cs)) (is_other c 42 (λ e. other (ap (λ x. Some x) e)))

pub no_star : (cs : List ℕ) (width : ℕ) → width ≡ position_or_len is_no_digit cs → (slice_get cs width ≡ Some 42 → ⊥) → IsNotCounted cs
no_star cs width is other = no_star_is cs width (slice_get cs width) is refl other

-- a value from its first character on
pub value_slash : (comma : Bool) (ending : Condition) (line : List ℕ) (at : ℕ) (lines : List (List ℕ)) → at < length line → get_or line at 0 ≡ 47
    → value_at comma ending (stream (drop at line ∷ lines)) ≡ stopped Fine (stream (drop at line ∷ lines))
value_slash comma ending line at lines there is =
    let rest = stream (drop (at + 1) line ∷ lines) in
    let here : stream (drop at line ∷ lines) ≡ Some 47 ∷ rest = stream_on line at lines there ∙ ap (λ c. Some c ∷ rest) is in
    ap (value_at comma ending) here ∙ ap (λ (t : Stream). stopped Fine t) (sym here)

pub value_separator : (comma : Bool) (ending : Condition) (line : List ℕ) (at : ℕ) (lines : List (List ℕ)) → at < length line → (get_or line at 0 ≡ 47 → ⊥) → is_separator comma (get_or line at 0) ≡ true
    → value_at comma ending (stream (drop at line ∷ lines)) ≡ value 1 Null [] (stream (drop at line ∷ lines))
value_separator comma ending line at lines there slash separates =
    let c = get_or line at 0 in
    let rest = stream (drop (at + 1) line ∷ lines) in
    let here = stream_on line at lines there in
    let by : Bool → Bool → Split = λ b s. cond b (stopped Fine (Some c ∷ rest)) (cond s (value 1 Null [] (Some c ∷ rest)) (token_at comma ending (Some c ∷ rest))) in
    ap (value_at comma ending) here
    ∙ ap (λ b. by b (is_separator comma c)) (is_other c 47 slash) ∙ ap (by false) separates
    ∙ ap (λ (t : Stream). value 1 Null [] t) (sym here)

pub value_token : (comma : Bool) (ending : Condition) (line : List ℕ) (at : ℕ) (lines : List (List ℕ)) → at < length line → (get_or line at 0 ≡ 47 → ⊥) → is_separator comma (get_or line at 0) ≡ false
    → value_at comma ending (stream (drop at line ∷ lines)) ≡ token_at comma ending (stream (drop at line ∷ lines))
value_token comma ending line at lines there slash separates =
    let c = get_or line at 0 in
    let rest = stream (drop (at + 1) line ∷ lines) in
    let here = stream_on line at lines there in
    let by : Bool → Bool → Split = λ b s. cond b (stopped Fine (Some c ∷ rest)) (cond s (value 1 Null [] (Some c ∷ rest)) (token_at comma ending (Some c ∷ rest))) in
    ap (value_at comma ending) here
    ∙ ap (λ b. by b (is_separator comma c)) (is_other c 47 slash) ∙ ap (by false) separates
    ∙ ap (token_at comma ending) (sym here)

pub counted_on : (line rest : List ℕ) (at width count : ℕ) → rest ≡ drop at line → IsCounted rest count width → (comma : Bool) (ending : Condition) (lines : List (List ℕ))
    → token_at comma ending (stream (drop at line ∷ lines)) ≡ repeated comma ending count (stream (drop (at + width) line ∷ lines))
counted_on line rest at width count same is comma ending lines =
    ap (λ (cs : List ℕ). token_at comma ending (stream (cs ∷ lines))) (sym same)
    ∙ is comma ending lines
    ∙ ap (λ (cs : List ℕ). repeated comma ending count (stream (drop width cs ∷ lines))) same
    ∙ ap (λ (cs : List ℕ). repeated comma ending count (stream (cs ∷ lines))) (drop-drop width at line)

pub not_counted_on : (line rest : List ℕ) (at : ℕ) → rest ≡ drop at line → IsNotCounted rest → (comma : Bool) (ending : Condition) (lines : List (List ℕ))
    → token_at comma ending (stream (drop at line ∷ lines)) ≡ constant_at comma ending 1 (stream (drop at line ∷ lines))
not_counted_on line rest at same is comma ending lines =
    ap (λ (cs : List ℕ). token_at comma ending (stream (cs ∷ lines))) (sym same)
    ∙ is comma ending lines
    ∙ ap (λ (cs : List ℕ). constant_at comma ending 1 (stream (cs ∷ lines))) same
