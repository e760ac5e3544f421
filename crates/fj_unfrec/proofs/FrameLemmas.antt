-- Frames at the start and the end of bytes.
use Rattle.std.proofs.Common.{◌≡◌, ℕ, ◌+◌, ◌-◌, ◌<◌, ◌^◌, Bool, true, false, cond, ltb, ◌&&◌, List, ◌++◌, Option, None, Some, length, take, drop, refl, sym, ap, ◌∙◌, subst, arith, append_assoc}
use Rattle.std.proofs.lemmas.Bool.{lt-ltb, ltb-true, and_parts, and_from}
use Rattle.std.proofs.lemmas.List.{take_at, drop_at, length-append, drop-drop}
use Rattle.std.proofs.lemmas.Nat.{from_le_bytes-to_le_bytes_4}
use Rattle.std.proofs.lemmas.Slice.Eq.{bytes_eq-Decides}
use Rattle.std.specs.Int.{w32, to_le_bytes, from_le_bytes}
use Rattle.std.specs.Str.{bytes_eq}
use Rattle.fj_unfrec.specs.Frames.{framed, BeginsWithFrame, EndsWithFrame, frame, frame_before}

-- the four bytes of a length
abbrev pub length_bytes : ℕ → List ℕ
length_bytes width = to_le_bytes w32 width

pub width_of : (width : ℕ) → width < 2 ^ 32 → from_le_bytes w32 (length_bytes width) ≡ width
width_of width short = from_le_bytes-to_le_bytes_4 width short

pub same_width : (a b : ℕ) → a < 2 ^ 32 → b < 2 ^ 32 → length_bytes a ≡ length_bytes b → a ≡ b
same_width a b short short' same = sym (width_of a short) ∙ ap (from_le_bytes w32) same ∙ width_of b short'

-- the parts of bytes that begin with a frame
pub record Parts (bytes body rest : List ℕ) : Type 0 where
  pub head : take 4 bytes ≡ length_bytes (length body)
  pub inside : take (length body) (drop 4 bytes) ≡ body
  pub tail : take 4 (drop (4 + length body) bytes) ≡ length_bytes (length body)
  pub behind : drop (length body + 8) bytes ≡ rest
  pub long : length bytes ≡ length body + 8 + length rest

four_more : (a b : ℕ) → 4 + (a + (4 + b)) ≡ a + 8 + b
four_more a b = omega arith

eight_more : (a : ℕ) → 4 + a + 4 ≡ a + 8
eight_more a = omega arith

split_four : (head body tail rest : List ℕ) → head ++ body ++ tail ++ rest ≡ head ++ (body ++ (tail ++ rest))
split_four head body tail rest = append_assoc (head ++ body) tail rest ∙ append_assoc head body (tail ++ rest)

pub parts_of : (bytes body rest : List ℕ) → bytes ≡ framed body ++ rest → Parts bytes body rest
parts_of bytes body rest is =
    let head = length_bytes (length body) in
    let more = body ++ (head ++ rest) in
    let all : bytes ≡ head ++ more = is ∙ split_four head body head rest in
    let at4 : drop 4 bytes ≡ more = ap (drop 4) all ∙ drop_at head more 4 refl in
    let at_tail : drop (4 + length body) bytes ≡ head ++ rest = sym (drop-drop (length body) 4 bytes) ∙ ap (drop (length body)) at4 ∙ drop_at body (head ++ rest) (length body) refl in
    let sum : 4 + length body + 4 ≡ length body + 8 = omega arith in
    record {
      head = ap (take 4) all ∙ take_at head more 4 refl;
      inside = ap (take (length body)) at4 ∙ take_at body (head ++ rest) (length body) refl;
      tail = ap (take 4) at_tail ∙ take_at head rest 4 refl;
      behind = ap (λ n. drop n bytes) (sym sum) ∙ sym (drop-drop 4 (4 + length body) bytes) ∙ ap (drop 4) at_tail ∙ drop_at head rest 4 refl;
      long = ap length all ∙ length-append head more ∙ ap (λ n. 4 + n) (length-append body (head ++ rest) ∙ ap (λ n. length body + n) (length-append head rest)) ∙ four_more (length body) (length rest);
    }

-- the test of a frame
tested : (bytes whole body : List ℕ) → length body < 2 ^ 32 → bytes ≡ whole → (ltb (length body) (2 ^ 32) && bytes_eq bytes whole) ≡ true
tested bytes whole body short same = and_from _ _ (lt-ltb (length body) (2 ^ 32) short) ((bytes_eq-Decides bytes whole).1 same)

test_tells : (bytes whole body : List ℕ) → (ltb (length body) (2 ^ 32) && bytes_eq bytes whole) ≡ true → (length body < 2 ^ 32) × (bytes ≡ whole)
test_tells bytes whole body test =
    let parts = and_parts _ _ test in
    (ltb-true (length body) (2 ^ 32) parts.0, (bytes_eq-Decides bytes whole).0 parts.1)

-- the definition at a width
abbrev frame_with : ℕ → List ℕ → Option (List ℕ × List ℕ)
frame_with width bytes =
    let body = take width (drop 4 bytes) in
    let rest = drop (width + 8) bytes in
    cond (ltb (length body) (2 ^ 32) && bytes_eq bytes (framed body ++ rest)) (Some (body, rest)) None

pub frame_found : (bytes body rest : List ℕ) → BeginsWithFrame bytes body rest → frame bytes ≡ Some (body, rest)
frame_found bytes body rest is =
    let parts = parts_of bytes body rest is.joined in
    let width : from_le_bytes w32 (take 4 bytes) ≡ length body = ap (from_le_bytes w32) parts.head ∙ width_of (length body) is.short in
    ap (λ n. frame_with n bytes) width
    ∙ ap (λ b. cond (ltb (length b) (2 ^ 32) && bytes_eq bytes (framed b ++ drop (length body + 8) bytes)) (Some (b, drop (length body + 8) bytes)) None) parts.inside
    ∙ ap (λ r. cond (ltb (length body) (2 ^ 32) && bytes_eq bytes (framed body ++ r)) (Some (body, r)) None) parts.behind
    ∙ ap (λ t. cond t (Some (body, rest)) None) (tested bytes (framed body ++ rest) body is.short is.joined)

from_test : {A : Type 0} (t : Bool) (x y : A) → cond t (Some x) None ≡ Some y → (t ≡ true) × (x ≡ y)
from_test true x y is = (refl, cc)
from_test false x y is = cc

pub frame_is : (bytes body rest : List ℕ) → frame bytes ≡ Some (body, rest) → BeginsWithFrame bytes body rest
frame_is bytes body rest is =
    let width = from_le_bytes w32 (take 4 bytes) in
    let body' = take width (drop 4 bytes) in
    let rest' = drop (width + 8) bytes in
    let got = from_test (ltb (length body') (2 ^ 32) && bytes_eq bytes (framed body' ++ rest')) (body', rest') (body, rest) is in
    let told = test_tells bytes (framed body' ++ rest') body' got.0 in
    let same_body : body' ≡ body = ap (λ (p : List ℕ × List ℕ). p.0) got.1 in
    let same_rest : rest' ≡ rest = ap (λ (p : List ℕ × List ℕ). p.1) got.1 in
    record { short = subst (λ (b : List ℕ). length b < 2 ^ 32) same_body told.0; joined = told.1 ∙ ap (λ b. framed b ++ rest') same_body ∙ ap (λ r. framed body ++ r) same_rest }

some_of : {A : Type 0} (o : Option A) → ((x : A) → o ≡ Some x → ⊥) → o ≡ None
some_of None never = refl
some_of (Some x) never = absurd (never x refl)

pub frame_none : (bytes : List ℕ) → ((body rest : List ℕ) → BeginsWithFrame bytes body rest → ⊥) → frame bytes ≡ None
frame_none bytes never = some_of (frame bytes) (λ p is. never p.0 p.1 (frame_is bytes p.0 p.1 is))

-- the parts of bytes that end with a frame
pub record PartsBefore (bytes front body : List ℕ) : Type 0 where
  pub tail : drop (length bytes - 4) bytes ≡ length_bytes (length body)
  pub before : take (length bytes - (length body + 8)) bytes ≡ front
  pub inside : take (length body) (drop (length bytes - (length body + 4)) bytes) ≡ body
  pub head : take 4 (drop (length front) bytes) ≡ length_bytes (length body)
  pub long : length bytes ≡ length front + (length body + 8)

pub parts_before : (bytes front body : List ℕ) → bytes ≡ front ++ framed body → PartsBefore bytes front body
parts_before bytes front body is =
    let width = length_bytes (length body) in
    let long_frame : length (framed body) ≡ length body + 8 = length-append (width ++ body) width ∙ ap (λ n. n + 4) (length-append width body) ∙ eight_more (length body) in
    let long : length bytes ≡ length front + (length body + 8) = ap length is ∙ length-append front (framed body) ∙ ap (λ n. length front + n) long_frame in
    let near : length bytes - (length body + 8) ≡ length front = omega arith in
    let to_body : length bytes - (length body + 4) ≡ length front + 4 = omega arith in
    let to_tail : length bytes - 4 ≡ length front + (4 + length body) = omega arith in
    let frame_at : drop (length front) bytes ≡ framed body = ap (drop (length front)) is ∙ drop_at front (framed body) (length front) refl in
    let in_frame : framed body ≡ width ++ (body ++ width) = append_assoc width body width in
    let body_at : drop (length front + 4) bytes ≡ body ++ width = sym (drop-drop 4 (length front) bytes) ∙ ap (drop 4) (frame_at ∙ in_frame) ∙ drop_at width (body ++ width) 4 refl in
    let tail_at : drop (length front + (4 + length body)) bytes ≡ width =
    sym (drop-drop (4 + length body) (length front) bytes) ∙ ap (drop (4 + length body)) frame_at ∙ drop_at (width ++ body) width (4 + length body) (length-append width body) in
    record {
      tail = ap (λ n. drop n bytes) to_tail ∙ tail_at;
      before = ap (λ n. take n bytes) near ∙ ap (take (length front)) is ∙ take_at front (framed body) (length front) refl;
      inside = ap (λ n. take (length body) (drop n bytes)) to_body ∙ ap (take (length body)) body_at ∙ take_at body width (length body) refl;
      head = ap (take 4) (frame_at ∙ in_frame) ∙ take_at width (body ++ width) 4 refl;
      long = long;
    }

abbrev before_with : ℕ → List ℕ → Option (List ℕ × List ℕ)
before_with width bytes =
    let front = take (length bytes - (width + 8)) bytes in
    let body = take width (drop (length bytes - (width + 4)) bytes) in
    cond (ltb (length body) (2 ^ 32) && bytes_eq bytes (front ++ framed body)) (Some (front, body)) None

pub before_found : (bytes front body : List ℕ) → EndsWithFrame bytes front body → frame_before bytes ≡ Some (front, body)
before_found bytes front body is =
    let parts = parts_before bytes front body is.joined in
    let width : from_le_bytes w32 (drop (length bytes - 4) bytes) ≡ length body = ap (from_le_bytes w32) parts.tail ∙ width_of (length body) is.short in
    ap (λ n. before_with n bytes) width
    ∙ ap (λ b. cond (ltb (length b) (2 ^ 32) && bytes_eq bytes (take (length bytes - (length body + 8)) bytes ++ framed b)) (Some (take (length bytes - (length body + 8)) bytes, b)) None) parts.inside
    ∙ ap (λ f. cond (ltb (length body) (2 ^ 32) && bytes_eq bytes (f ++ framed body)) (Some (f, body)) None) parts.before
    ∙ ap (λ t. cond t (Some (front, body)) None) (tested bytes (front ++ framed body) body is.short is.joined)

pub before_is : (bytes front body : List ℕ) → frame_before bytes ≡ Some (front, body) → EndsWithFrame bytes front body
before_is bytes front body is =
    let width = from_le_bytes w32 (drop (length bytes - 4) bytes) in
    let front' = take (length bytes - (width + 8)) bytes in
    let body' = take width (drop (length bytes - (width + 4)) bytes) in
    let got = from_test (ltb (length body') (2 ^ 32) && bytes_eq bytes (front' ++ framed body')) (front', body') (front, body) is in
    let told = test_tells bytes (front' ++ framed body') body' got.0 in
    let same_front : front' ≡ front = ap (λ (p : List ℕ × List ℕ). p.0) got.1 in
    let same_body : body' ≡ body = ap (λ (p : List ℕ × List ℕ). p.1) got.1 in
    record { short = subst (λ (b : List ℕ). length b < 2 ^ 32) same_body told.0; joined = told.1 ∙ ap (λ b. front' ++ framed b) same_body ∙ ap (λ f. f ++ framed body) same_front }

pub before_none : (bytes : List ℕ) → ((front body : List ℕ) → EndsWithFrame bytes front body → ⊥) → frame_before bytes ≡ None
before_none bytes never = some_of (frame_before bytes) (λ p is. never p.0 p.1 (before_is bytes p.0 p.1 is))
