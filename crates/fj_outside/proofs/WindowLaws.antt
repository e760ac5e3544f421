-- Windows of a file: what was read into one, and what it answers.
use Rattle.std.proofs.Common.{◌≡◌, ℕ, ◌+◌, ◌-◌, ◌<◌, ◌≤◌, List, [], ◌∷◌, ◌++◌, length, take, drop, min, map, Bool, true, false, ◌||◌, if◌then◌else◌, nat_le, nat_lt, refl, sym, ap, ◌∙◌, subst, arith, ◌⊎◌, inl, inr}
use Rattle.std.proofs.lemmas.Bool.{leb-true, le-leb, lt-leb, lt-ltb, le-ltb}
use Rattle.std.proofs.lemmas.List.{length-take, length-take-le, length-drop, drop-take, drop-drop, take_all, take-take}
use Rattle.std.proofs.Math.ListN.{drop_of_length-le}
use Rattle.fj_outside.specs.Windows.{Window, IsWindowOf, lent, window_at, due, serves, after_read, answer_through, Request, answers_through, ReadsAnswerAsTheFile, most_held}

split : (a b : ℕ) → (a ≤ b) ⊎ (b < a)
split a b = grind arith

-- the rest of a run of bytes is a run of them, further on
rest_of : (bytes held : List ℕ) (from k : ℕ) → held ≡ take (length held) (drop from bytes) → drop k held ≡ take (length (drop k held)) (drop (from + k) bytes)
rest_of bytes held from k is = elim (split k (length held)) [
  | inl within ↦
      let m = length held - k in
      let sum : k + m ≡ length held = omega arith in
      let front : held ≡ take (k + m) (drop from bytes) = is ∙ ap (λ n. take n (drop from bytes)) (sym sum) in
      let rest : drop k held ≡ take m (drop (from + k) bytes) = ap (drop k) front ∙ drop-take k m (drop from bytes) ∙ ap (take m) (drop-drop k from bytes) in
      rest ∙ ap (λ n. take n (drop (from + k) bytes)) (sym (length-drop k held))
  | inr behind ↦
      let none : drop k held ≡ [] = drop_of_length-le held (omega arith) in
      none ∙ sym (ap (λ s. take (length s) (drop (from + k) bytes)) none)
]

lent_by : (bytes : List ℕ) (window : Window) (at : ℕ) → IsWindowOf bytes window → (b : Bool) → nat_le window.at at ≡ b
    → let held = if b then drop (at - window.at) window.bytes else [] in held ≡ take (length held) (drop at bytes)
lent_by bytes window at is true e =
    let low : window.at ≤ at = leb-true window.at at e in
    let place : window.at + (at - window.at) ≡ at = omega arith in
    rest_of bytes window.bytes window.at (at - window.at) is ∙ ap (λ n. take (length (drop (at - window.at) window.bytes)) (drop n bytes)) place
lent_by bytes window at is false e = refl

-- what a window of a file holds from a place on are the file's bytes from there on
pub lent_of : (bytes : List ℕ) (window : Window) (at : ℕ) → IsWindowOf bytes window → lent window at ≡ take (length (lent window at)) (drop at bytes)
lent_of bytes window at is = lent_by bytes window at is (nat_le window.at at) refl

lent_within_by : (window : Window) (size at : ℕ) → length window.bytes ≤ size - window.at → (b : Bool) → nat_le window.at at ≡ b → length (if b then drop (at - window.at) window.bytes else []) ≤ size - at
lent_within_by window size at within true e = let low : window.at ≤ at = leb-true window.at at e in omega (arith, length-drop (at - window.at) window.bytes)
lent_within_by window size at within false e = omega arith

-- they lie in the file
pub lent_within : (window : Window) (size at : ℕ) → length window.bytes ≤ size - window.at → length (lent window at) ≤ size - at
lent_within window size at within = lent_within_by window size at within (nat_le window.at at) refl

-- the bytes that are due, out of the window
pub served : (bytes : List ℕ) (window : Window) (at count : ℕ) → IsWindowOf bytes window → count ≤ length (lent window at) → take count (lent window at) ≡ take count (drop at bytes)
served bytes window at count is fits = ap (take count) (lent_of bytes window at is) ∙ take-take count (length (lent window at)) (drop at bytes) fits

take_least : (most : ℕ) (xs : List ℕ) (n : ℕ) → n ≡ min most (length xs) → take n xs ≡ take most xs
take_least most xs n e = elim (split most (length xs)) [
  | inl within ↦ let same : n ≡ most = omega arith in ap (λ k. take k xs) same
  | inr beyond ↦ let whole : n ≡ length xs = omega arith in take_all n xs (omega arith) ∙ sym (take_all most xs (omega arith))
]

front_of : (most : ℕ) (xs : List ℕ) → take most xs ≡ take (length (take most xs)) xs
front_of most xs = sym (take_least most xs (length (take most xs)) (length-take most xs))

any_or : (b : Bool) {X : Type 0} (x y : X) → (if b || true then x else y) ≡ x
any_or true x y = refl
any_or false x y = refl

-- a window that was moved to a place of a file
moved_to : (window : Window) (bytes : List ℕ) (at : ℕ) → IsWindowOf bytes window → window.at ≡ at → length window.bytes ≡ min most_held (length bytes - at) → window ≡ window_at bytes at
moved_to window bytes at is place long =
    let front : window.bytes ≡ take (length window.bytes) (drop at bytes) = is ∙ ap (λ n. take (length window.bytes) (drop n bytes)) place in
    let whole : take (length window.bytes) (drop at bytes) ≡ take most_held (drop at bytes) = take_least most_held (drop at bytes) (length window.bytes) (omega (arith, length-drop at bytes)) in
    λ i. record { at = place i; bytes = (front ∙ whole) i }

-- the window after a read: it served, or more was asked for than it can hold, or it was moved
after_kept : (window : Window) (bytes : List ℕ) (at count : ℕ) → due (length bytes) at count ≤ length (lent window at) → after_read window bytes at count ≡ window
after_kept window bytes at count fits =
    let test : nat_le (due (length bytes) at count) (length (lent window at)) ≡ true = le-leb _ _ fits in
    ap (λ b. if b || nat_lt most_held (due (length bytes) at count) then window else window_at bytes at) test

after_direct : (window : Window) (bytes : List ℕ) (at count : ℕ) → most_held < due (length bytes) at count → after_read window bytes at count ≡ window
after_direct window bytes at count large =
    let test : nat_lt most_held (due (length bytes) at count) ≡ true = lt-ltb _ _ large in
    ap (λ b. if nat_le (due (length bytes) at count) (length (lent window at)) || b then window else window_at bytes at) test ∙ any_or (nat_le (due (length bytes) at count) (length (lent window at))) window (window_at bytes at)

after_moved : (window : Window) (bytes : List ℕ) (at count : ℕ) → length (lent window at) < due (length bytes) at count → due (length bytes) at count ≤ most_held → after_read window bytes at count ≡ window_at bytes at
after_moved window bytes at count beyond fits =
    let first : nat_le (due (length bytes) at count) (length (lent window at)) ≡ false = lt-leb _ _ beyond in
    let second : nat_lt most_held (due (length bytes) at count) ≡ false = le-ltb _ _ fits in
    ap (λ b. if b || nat_lt most_held (due (length bytes) at count) then window else window_at bytes at) first ∙ ap (λ b. if b then window else window_at bytes at) second

-- the window after a read that had its bytes at hand
pub after_ready : (window now : Window) (bytes : List ℕ) (at count need size : ℕ) → size ≡ length bytes → need ≡ min (size - at) count → (need ≤ length (lent window at) → now ≡ window) → (length (lent window at) < need → now.at ≡ at)
    → (length (lent window at) < need → length now.bytes ≡ min most_held (size - at)) → (length (lent window at) < need → need ≤ most_held) → IsWindowOf bytes now → now ≡ after_read window bytes at count
after_ready window now bytes at count need size told amount kept place long fits is = elim (split need (length (lent window at))) [
  | inl served ↦ let enough : due (length bytes) at count ≤ length (lent window at) = omega arith in kept served ∙ sym (after_kept window bytes at count enough)
  | inr beyond ↦
      let more : length (lent window at) < due (length bytes) at count = omega arith in
      let small : need ≤ most_held = fits beyond in
      let room : due (length bytes) at count ≤ most_held = omega arith in
      let whole : length now.bytes ≡ min most_held (length bytes - at) = long beyond ∙ ap (λ n. min most_held (n - at)) told in
      moved_to now bytes at is (place beyond) whole ∙ sym (after_moved window bytes at count more room)
]

-- the answer of a read, by where its bytes are
answered : (window : Window) (bytes : List ℕ) (at count : ℕ) → IsWindowOf bytes (after_read window bytes at count) → answer_through window bytes at count ≡ take count (drop at bytes)
answered window bytes at count is = answered_by (after_read window bytes at count) bytes at count is (serves (after_read window bytes at count) (length bytes) at count) refl
  where
    answered_by : (held : Window) (bytes : List ℕ) (at count : ℕ) → IsWindowOf bytes held → (b : Bool) → serves held (length bytes) at count ≡ b
        → (if b then take (due (length bytes) at count) (lent held at) else take count (drop at bytes)) ≡ take count (drop at bytes)
    answered_by held bytes at count is true e =
        let fits : due (length bytes) at count ≤ length (lent held at) = leb-true _ _ e in
        served bytes held at (due (length bytes) at count) is fits ∙ take_least count (drop at bytes) (due (length bytes) at count) (omega (arith, length-drop at bytes))
    answered_by held bytes at count is false e = refl

-- a read leaves a window of the file
kept_window : (window : Window) (bytes : List ℕ) (at : ℕ) → IsWindowOf bytes window → (b : Bool) → IsWindowOf bytes (if b then window else window_at bytes at)
kept_window window bytes at is true = is
kept_window window bytes at is false = front_of most_held (drop at bytes)

pub read_through : ReadsAnswerAsTheFile
read_through window bytes [] is = refl
read_through window bytes (asked ∷ more) is =
    let next : IsWindowOf bytes (after_read window bytes asked.at asked.count) =
    kept_window window bytes asked.at is (serves window (length bytes) asked.at asked.count || nat_lt most_held (due (length bytes) asked.at asked.count)) in
    let first : answer_through window bytes asked.at asked.count ≡ take asked.count (drop asked.at bytes) = answered window bytes asked.at asked.count next in
    let rest : answers_through (after_read window bytes asked.at asked.count) bytes more ≡ map (λ (a : Request). take a.count (drop a.at bytes)) more = read_through (after_read window bytes asked.at asked.count) bytes more next in
    ap (λ x. x ∷ answers_through (after_read window bytes asked.at asked.count) bytes more) first ∙ ap (λ xs. take asked.count (drop asked.at bytes) ∷ xs) rest
