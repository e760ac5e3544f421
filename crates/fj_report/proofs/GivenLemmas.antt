-- What words give a command, from what `clap` answers.
use Rattle.std.proofs.Common.{◌≡◌, ℕ, ◌-◌, ◌^◌, ◌<◌, ◌≤◌, Bool, true, false, ◌&&◌, List, [], ◌∷◌, length, Option, Some, None, option_map, min, nat_le, ap, sym, refl, ◌∙◌, inl, inr, codes, arith}
use Rattle.std.specs.Prelude.{option_and_then, if◌then◌else◌}
use Rattle.std.specs.Option.{option_map_or}
use Rattle.std.specs.Str.{bytes_eq}
use Rattle.std.proofs.lemmas.Bool.Decides.{nat_tests}
use Rattle.clap.specs.Walk.{is_empty}
use Rattle.clap.specs.Words.{App, Row, Text, HasKind, Kinds, fault_of, first_value, is_simple, is_simple_and_free, kind_of, matches_of, rows_of}
use Rattle.clap.specs.declared.error.Error.{Error}
use Rattle.clap.specs.declared.error.kind.ErrorKind.TheVariants.{OutOfMemory}
use Rattle.clap.specs.declared.parser.matches.Found.{Found}
use Rattle.clap.proofs.WalkLemmas.{first_value-rows}
use Rattle.fj_value.specs.Digits.{number_in}
use Rattle.fj_report.specs.declared.form.Form.{Form}
use Rattle.fj_report.specs.declared.form.Form.TheVariants.{Run, Alone, Check, Gen, Wrong}
use Rattle.fj_report.specs.Words.{given, has_flag, number_behind, number_up_to, run_command, alone_command, check_command, gen_command, poll_command, run_with, alone_with, gen_with, run_form, alone_form, check_form, gen_form, form_of, polled}

left_true : (a b : Bool) → (a && b) ≡ true → a ≡ true
left_true true b e = refl
left_true false b e = e

pub simple_of : (a : App) → is_simple_and_free a ≡ true → is_simple a ≡ true
simple_of a e = left_true (is_simple a) _ e

-- where it finds no fault, the matches are given
pub rows_given : (a : App) (words : List Text) (rows : List Row) → fault_of a words ≡ [] → rows ≡ matches_of a words → Some rows ≡ given a words
unfolding given
rows_given a words rows none is = sym (ap (λ faults. if is_empty faults then Some (matches_of a words) else None) none ∙ ap (λ r. Some r) (sym is))

among_some : (faults : Kinds) (e : Error) → HasKind faults e → (kind_of e ≡ OutOfMemory → ⊥) → is_empty faults ≡ false
among_some [] e (inl memory) other = absurd (other memory)
among_some [] e (inr among) other = absurd among
among_some (f ∷ fs) e h other = grind (arith, nat_tests)

-- where it finds one, nothing is
pub none_given : (a : App) (words : List Text) (e : Error) → HasKind (fault_of a words) e → (kind_of e ≡ OutOfMemory → ⊥) → None ≡ given a words
unfolding given
none_given a words e has other =
    sym (ap (λ (b : Bool). if b then Some (matches_of a words) else None) (among_some (fault_of a words) e has other))

-- ---- numbers

pub too_long : (most : ℕ) (text : Text) → 10 < length text → None ≡ number_up_to most text
unfolding number_up_to
too_long most text long =
    let e : nat_le (length text) 10 ≡ false = grind (arith, nat_tests) in
    sym (ap (λ b. if b then option_and_then (λ n. if nat_le n most then Some n else None) (number_in 10 text) else None) e)

abbrev up_to : ℕ → Option ℕ → Option ℕ
up_to most o = option_and_then (λ n. if nat_le n most then Some n else None) o

pub short_is : (most : ℕ) (text : Text) → length text ≤ 10 → up_to most (number_in 10 text) ≡ number_up_to most text
unfolding number_up_to
short_is most text short =
    let e : nat_le (length text) 10 ≡ true = grind (arith, nat_tests) in
    sym (ap (λ b. if b then up_to most (number_in 10 text) else None) e)

abbrev capped : Option ℕ → Option ℕ
capped o = option_map (λ n. min n (2 ^ 64 - 1)) o

none_capped : (most : ℕ) (o : Option ℕ) → None ≡ capped o → None ≡ up_to most o
none_capped most None e = refl
none_capped most (Some n) e = absurd (let z : None ≡ capped (Some n) = e in cc)

above_capped : (most k : ℕ) (o : Option ℕ) → Some k ≡ capped o → most < k → None ≡ up_to most o
above_capped most k None e above = absurd (let z : Some k ≡ capped None = e in cc)
above_capped most k (Some n) e above =
    let is : k ≡ min n (2 ^ 64 - 1) = ap (λ o. option_map_or (λ (x : ℕ). x) o 0) e in
    let test : nat_le n most ≡ false = grind (arith, nat_tests) in
    sym (ap (λ b. if b then Some n else None) test)

within_capped : (most k : ℕ) (o : Option ℕ) → Some k ≡ capped o → k ≤ most → most < 2 ^ 32 → Some k ≡ up_to most o
within_capped most k None e within small = absurd (let z : Some k ≡ capped None = e in cc)
within_capped most k (Some n) e within small =
    let is : k ≡ min n (2 ^ 64 - 1) = ap (λ o. option_map_or (λ (x : ℕ). x) o 0) e in
    let same : k ≡ n = omega arith in
    let test : nat_le n most ≡ true = grind (arith, nat_tests) in
    ap (λ x. Some x) same ∙ sym (ap (λ b. if b then Some n else None) test)

pub no_number : (most : ℕ) (text : Text) → length text ≤ 10 → None ≡ capped (number_in 10 text) → None ≡ number_up_to most text
no_number most text short e = none_capped most (number_in 10 text) e ∙ short_is most text short

pub number_above : (most k : ℕ) (text : Text) → length text ≤ 10 → Some k ≡ capped (number_in 10 text) → most < k → None ≡ number_up_to most text
number_above most k text short e above = above_capped most k (number_in 10 text) e above ∙ short_is most text short

pub number_within : (most k : ℕ) (text : Text) → length text ≤ 10 → Some k ≡ capped (number_in 10 text) → k ≤ most → most < 2 ^ 32 → Some k ≡ number_up_to most text
number_within most k text short e within small = within_capped most k (number_in 10 text) e within small ∙ short_is most text short

-- ---- options and flags

pub behind_none : (f : Found) (name : Text) (most : ℕ) → None ≡ first_value f name → None ≡ number_behind name most (rows_of f)
behind_none f name most e = ap (option_and_then (number_up_to most)) (e ∙ first_value-rows f name)

pub behind_some : (f : Found) (name text : Text) (most : ℕ) (r : Option ℕ) → Some text ≡ first_value f name → r ≡ number_up_to most text
    → r ≡ number_behind name most (rows_of f)
behind_some f name text most r e is = is ∙ ap (option_and_then (number_up_to most)) (e ∙ first_value-rows f name)

pub flag_none : (f : Found) (name : Text) → None ≡ first_value f name → false ≡ has_flag name (rows_of f)
flag_none f name e = ap (λ o. option_map_or (λ value. bytes_eq value (codes "true")) o false) (e ∙ first_value-rows f name)

pub flag_some : (f : Found) (name text : Text) (r : Bool) → Some text ≡ first_value f name → r ≡ bytes_eq text (codes "true") → r ≡ has_flag name (rows_of f)
flag_some f name text r e is = is ∙ ap (λ o. option_map_or (λ value. bytes_eq value (codes "true")) o false) (e ∙ first_value-rows f name)

-- ---- forms

module _ {M : Type 0} (rows : M → List Row) (m : Option M) (a command : App) (words : List Text) (is : option_map rows m ≡ given a words) (same : a ≡ command) where
  pub not_given : m ≡ None → None ≡ given command words
  not_given e = sym (ap (option_map rows) e) ∙ is ∙ ap (λ x. given x words) same

  pub is_given : (x : M) → m ≡ Some x → Some (rows x) ≡ given command words
  is_given x e = sym (ap (option_map rows) e) ∙ is ∙ ap (λ x. given x words) same

pub run_wrong : (words : List Text) → None ≡ given run_command words → Wrong ≡ run_form words
unfolding run_form
run_wrong words e = ap (λ o. option_map_or run_with o Wrong) e

pub run_without : (words : List Text) (rows : List Row) → Some rows ≡ given run_command words → None ≡ number_behind (codes "workers") 64 rows → Wrong ≡ run_form words
unfolding run_form
run_without words rows e none =
    ap (λ o. option_map_or (λ workers. Run workers (has_flag (codes "trace") rows)) o Wrong) none ∙ ap (λ o. option_map_or run_with o Wrong) e

pub run_is : (words : List Text) (rows : List Row) (workers : ℕ) (trace : Bool) → Some rows ≡ given run_command words
    → Some workers ≡ number_behind (codes "workers") 64 rows → trace ≡ has_flag (codes "trace") rows → Run workers trace ≡ run_form words
unfolding run_form
run_is words rows workers trace e some flag =
    ap (Run workers) flag ∙ ap (λ o. option_map_or (λ workers. Run workers (has_flag (codes "trace") rows)) o Wrong) some
    ∙ ap (λ o. option_map_or run_with o Wrong) e

pub alone_wrong : (words : List Text) → None ≡ given alone_command words → Wrong ≡ alone_form words
unfolding alone_form
alone_wrong words e = ap (λ o. option_map_or alone_with o Wrong) e

pub alone_is : (words : List Text) (rows : List Row) (trace : Bool) → Some rows ≡ given alone_command words → trace ≡ has_flag (codes "trace") rows → Alone trace ≡ alone_form words
unfolding alone_form
alone_is words rows trace e flag = ap Alone flag ∙ ap (λ o. option_map_or alone_with o Wrong) e

pub check_wrong : (words : List Text) → None ≡ given check_command words → Wrong ≡ check_form words
unfolding check_form
check_wrong words e = ap (λ o. option_map_or (λ (rows : List Row). Check) o Wrong) e

pub check_is : (words : List Text) (rows : List Row) → Some rows ≡ given check_command words → Check ≡ check_form words
unfolding check_form
check_is words rows e = ap (λ o. option_map_or (λ (rows : List Row). Check) o Wrong) e

pub gen_wrong : (words : List Text) → None ≡ given gen_command words → Wrong ≡ gen_form words
unfolding gen_form
gen_wrong words e = ap (λ o. option_map_or gen_with o Wrong) e

abbrev with_count : List Row → ℕ → Form
with_count rows seed = option_map_or (λ count. Gen seed count (has_flag (codes "text") rows)) (number_behind (codes "count") 20000 rows) Wrong

pub gen_without_seed : (words : List Text) (rows : List Row) → Some rows ≡ given gen_command words → None ≡ number_behind (codes "seed") 2147483647 rows → Wrong ≡ gen_form words
unfolding gen_form
gen_without_seed words rows e none = ap (λ o. option_map_or (with_count rows) o Wrong) none ∙ ap (λ o. option_map_or gen_with o Wrong) e

pub gen_without_count : (words : List Text) (rows : List Row) (seed : ℕ) → Some rows ≡ given gen_command words
    → Some seed ≡ number_behind (codes "seed") 2147483647 rows → None ≡ number_behind (codes "count") 20000 rows → Wrong ≡ gen_form words
unfolding gen_form
gen_without_count words rows seed e some none =
    ap (λ o. option_map_or (λ count. Gen seed count (has_flag (codes "text") rows)) o Wrong) none
    ∙ ap (λ o. option_map_or (with_count rows) o Wrong) some ∙ ap (λ o. option_map_or gen_with o Wrong) e

pub gen_is : (words : List Text) (rows : List Row) (seed count : ℕ) (text : Bool) → Some rows ≡ given gen_command words
    → Some seed ≡ number_behind (codes "seed") 2147483647 rows → Some count ≡ number_behind (codes "count") 20000 rows → text ≡ has_flag (codes "text") rows
    → Gen seed count text ≡ gen_form words
unfolding gen_form
gen_is words rows seed count text e some_seed some_count flag =
    ap (Gen seed count) flag ∙ ap (λ o. option_map_or (λ count. Gen seed count (has_flag (codes "text") rows)) o Wrong) some_count
    ∙ ap (λ o. option_map_or (with_count rows) o Wrong) some_seed ∙ ap (λ o. option_map_or gen_with o Wrong) e

pub polled_none : (words : List Text) → None ≡ given poll_command words → None ≡ polled words
unfolding polled
polled_none words e = ap (option_and_then (number_behind (codes "workers") 64)) e

pub polled_is : (words : List Text) (rows : List Row) (r : Option ℕ) → Some rows ≡ given poll_command words → r ≡ number_behind (codes "workers") 64 rows → r ≡ polled words
unfolding polled
polled_is words rows r e is = is ∙ ap (option_and_then (number_behind (codes "workers") 64)) e

-- ---- the name of a command

abbrev by_name : Bool → Bool → Bool → Bool → List Text → Form
by_name run alone check gen words =
    if run then run_form words else if alone then alone_form words else if check then check_form words else if gen then gen_form words else Wrong

module _ (name : Text) (words : List Text) (not_run : bytes_eq name (codes "run") ≡ false) where
  to_alone : form_of (name ∷ words) ≡ by_name false (bytes_eq name (codes "alone")) (bytes_eq name (codes "check")) (bytes_eq name (codes "gen")) words
  unfolding form_of
  to_alone = ap (λ b. by_name b (bytes_eq name (codes "alone")) (bytes_eq name (codes "check")) (bytes_eq name (codes "gen")) words) not_run

  pub named_alone : bytes_eq name (codes "alone") ≡ true → alone_form words ≡ form_of (name ∷ words)
  named_alone e = sym (to_alone ∙ ap (λ b. by_name false b (bytes_eq name (codes "check")) (bytes_eq name (codes "gen")) words) e)

  module _ (not_alone : bytes_eq name (codes "alone") ≡ false) where
    to_check : form_of (name ∷ words) ≡ by_name false false (bytes_eq name (codes "check")) (bytes_eq name (codes "gen")) words
    to_check = to_alone ∙ ap (λ b. by_name false b (bytes_eq name (codes "check")) (bytes_eq name (codes "gen")) words) not_alone

    pub named_check : bytes_eq name (codes "check") ≡ true → check_form words ≡ form_of (name ∷ words)
    named_check e = sym (to_check ∙ ap (λ b. by_name false false b (bytes_eq name (codes "gen")) words) e)

    module _ (not_check : bytes_eq name (codes "check") ≡ false) where
      to_gen : form_of (name ∷ words) ≡ by_name false false false (bytes_eq name (codes "gen")) words
      to_gen = to_check ∙ ap (λ b. by_name false false b (bytes_eq name (codes "gen")) words) not_check

      pub named_gen : bytes_eq name (codes "gen") ≡ true → gen_form words ≡ form_of (name ∷ words)
      named_gen e = sym (to_gen ∙ ap (λ b. by_name false false false b words) e)

      pub named_nothing : bytes_eq name (codes "gen") ≡ false → Wrong ≡ form_of (name ∷ words)
      named_nothing e = sym (to_gen ∙ ap (λ b. by_name false false false b words) e)

pub named_run : (name : Text) (words : List Text) → bytes_eq name (codes "run") ≡ true → run_form words ≡ form_of (name ∷ words)
unfolding form_of
named_run name words e = sym (ap (λ b. by_name b (bytes_eq name (codes "alone")) (bytes_eq name (codes "check")) (bytes_eq name (codes "gen")) words) e)
