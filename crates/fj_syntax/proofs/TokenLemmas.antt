-- The token that is read first is the one that is written first.
use Rattle.std.proofs.Common.{◌≡◌, ℕ, ◌+◌, ◌-◌, ◌<◌, ◌≤◌, Bool, true, false, List, [], ◌∷◌, ◌++◌, length, length-append, take, drop, map, Option, Some, None, eqb, ltb, ◌||◌, refl, sym, ap, ◌∙◌, subst, inl, inr, arith, add_comm, add-one, append_assoc, cond, ◌&&◌, slice_index, codes}
use Rattle.std.specs.Prelude.{option_map}
use Rattle.std.specs.List.{AllPass, prefix_len}
use Rattle.std.specs.Char.{is_ascii_alphabetic, to_ascii_uppercase, is_ascii_digit, to_ascii_lowercase}
use Rattle.std.specs.Str.Parse.{digits_value}
use Rattle.std.proofs.Math.Seq.{take-append_seam, drop-append_seam}
use Rattle.std.proofs.lemmas.Bool.{cases_Bool, cond-true, cond-false, eqb-true, eq-eqb, and_parts, or_cases}
use Rattle.std.proofs.lemmas.Bool.Decides.{nat_tests}
use Rattle.std.proofs.lemmas.List.{take-append-drop, get_or-take, take-append-le, take-map, length-map}
use Rattle.std.proofs.lemmas.List.Elements.{All-cons, All-head, All-nil, All-tail}
use Rattle.std.proofs.lemmas.List.Folds.{length-prefix_len}
use Rattle.std.proofs.lemmas.List.Sums.{prefix_len_passes}
use Rattle.fj_syntax.specs.Class.{is_of, InWord, InLiteral, Digit}
use Rattle.fj_syntax.specs.FirstToken.{run_at, word_at, number_at, closed_by, behind_delimiter, literal_at, truth_at, mark_of, mark_at, first_token}
use Rattle.fj_syntax.specs.Tokens.{Token, Word, Number, Literal, Sign, begins, doubled, IsDelimiter, IsRun, IsWritten, sign_bytes, Truth, Mark, AMark, LeftParenthesis, RightParenthesis, Comma, Equals, Slash, Asterisk, DoubleColon, Unsigned, Plus, Minus, mark_bytes, truth_bytes}
use Rattle.fj_syntax.specs.Undoubled.{undoubled}
use Rattle.fj_syntax.proofs.Holding.{Holds, either_holds, map_holds, mapped, held}
use Rattle.fj_syntax.proofs.LiteralLemmas.{undoubled_again}
use Rattle.std.specs.Str.{bytes_eq, str_to_ascii_lowercase}
use Rattle.std.proofs.lemmas.Slice.Eq.{bytes_eq-Decides}

-- a token is written at the front of the line, and the rest is behind it
abbrev pub StandsFirst : List ℕ → Token × List ℕ → Type 0
StandsFirst line x = (bytes : List ℕ) × (line ≡ bytes ++ x.1) × IsWritten x.0 bytes x.1

-- ---- the longest front

pub part_passes : (p : ℕ → Bool) (xs front : List ℕ) (n : ℕ) → n ≡ prefix_len p xs → front ≡ take n xs → AllPass p front
part_passes p xs front n e f = rw (f, e) (λ k d below.
    let within : k < prefix_len p xs = omega (arith, below, length-prefix_len p xs) in rw (get_or-take (prefix_len p xs) xs k d within) (prefix_len_passes p xs k d within))

run_is : (p : ℕ → Bool) (front line : List ℕ) → AllPass p front → begins p line ≡ false → prefix_len p (front ++ line) ≡ length front
run_is p [] [] all ends = refl
run_is p [] (c ∷ line) all ends = cond-false (p c) _ _ ends
run_is p (c ∷ front) line all ends =
    let more = run_is p front line (All-tail (λ b. p b ≡ true) c front all) ends in
    cond-true (p c) _ _ (All-head (λ b. p b ≡ true) c front all) ∙ omega (arith, more)

-- what stands behind the longest front doesn't pass
run_ends : (p : ℕ → Bool) (line : List ℕ) → begins p (drop (prefix_len p line) line) ≡ false
run_ends p [] = refl
run_ends p (c ∷ line) = elim (cases_Bool (p c)) [
  | inl e ↦ rw (e, add_comm 1 (prefix_len p line), add-one) (run_ends p line)
  | inr e ↦ rw e e
]

run_holds : {X : Type 0} (p : ℕ → Bool) (most : ℕ) (read : List ℕ → X) (line : List ℕ) (P : X × List ℕ → Type 0)
    → ((front rest : List ℕ) → line ≡ front ++ rest → IsRun p most front rest → P (read front, rest)) → Holds P (run_at p most read line)
run_holds p most read line P of =
    let n = prefix_len p line in
    either_holds P (eqb n 0 || ltb most n) None (Some (read (take n line), drop n line)) (λ e. tt) (λ e.
    let some : 0 < n = grind (arith, nat_tests) in
    let short : n ≤ most = grind (arith, nat_tests) in
    of (take n line) (drop n line) (sym (take-append-drop n line)) (record {
      all = part_passes p line _ n refl refl;
      some = omega (arith, length-prefix_len p line);
      short = omega (arith, length-prefix_len p line);
      ends = run_ends p line;
    }))

pub run_again : {X : Type 0} (p : ℕ → Bool) (most : ℕ) (read : List ℕ → X) (front line : List ℕ) → IsRun p most front line → run_at p most read (front ++ line) ≡ Some (read front, line)
run_again p most read front line r =
    let n : prefix_len p (front ++ line) ≡ length front = run_is p front line r.all r.ends in
    let some : 0 < length front = r.some in
    let short : length front ≤ most = r.short in
    let test : (eqb (length front) 0 || ltb most (length front)) ≡ false = grind (arith, nat_tests) in
    rw (n, test, take-append_seam, drop-append_seam) refl

-- ---- words and numbers

-- what a line begins with, its front begins with
begins_front : (p : ℕ → Bool) (c : ℕ) (line front rest : List ℕ) → c ∷ line ≡ front ++ rest → 0 < length front → p c ≡ true → begins p front ≡ true
begins_front p c line [] rest e some h = absurd (omega arith)
begins_front p c line (d ∷ front) rest e some h = let same : c ≡ d = cc in subst (λ b. p b ≡ true) same h

pub word_is : (c : ℕ) (line : List ℕ) → is_ascii_alphabetic c ≡ true → Holds (StandsFirst (c ∷ line)) (word_at (c ∷ line))
word_is c line letter =
    run_holds (is_of InWord) 63 (λ run. Word (map to_ascii_uppercase run)) (c ∷ line) (StandsFirst (c ∷ line))
    (λ front rest e run. (front, e, record { letter = begins_front is_ascii_alphabetic c line front rest e run.some letter; run = run; upper = refl }))

pub number_is : (sign : Sign) (line : List ℕ) → Holds (StandsFirst (sign_bytes sign ++ line)) (number_at sign line)
number_is sign line =
    run_holds (is_of Digit) 19 (λ run. Number sign (digits_value 10 run)) line (StandsFirst (sign_bytes sign ++ line))
    (λ front rest e run. (sign_bytes sign ++ front, ap (λ l. sign_bytes sign ++ l) e ∙ sym (append_assoc (sign_bytes sign) front rest), record { digits = front; run = run; value = refl; written = refl }))

-- ---- literals

pub record Closes (q : ℕ) (text line rest : List ℕ) : Type 0 where
  pub written : line ≡ doubled q text ++ q ∷ rest
  pub all : AllPass (is_of InLiteral) text
  pub ends : begins (λ c. eqb c q) rest ≡ false

abbrev IsClosed : ℕ → List ℕ → List ℕ × List ℕ → Type 0
IsClosed q line x = Closes q x.0 line x.1

abbrev InText : ℕ → Type 0
InText c = is_of InLiteral c ≡ true

delimiter_in_literal : (q : ℕ) → IsDelimiter q → InText q
delimiter_in_literal q (inl e) = rw e refl
delimiter_in_literal q (inr e) = rw e refl

-- one character more in front of what is closed
closes_more : (q c : ℕ) (text line rest : List ℕ) → eqb c q ≡ false → InText c → Closes q text line rest → Closes q (c ∷ text) (c ∷ line) rest
closes_more q c text line rest e is closes = record { written = rw (e, ← closes.written) refl; all = All-cons InText c text is closes.all; ends = closes.ends }

closes_twice : (q : ℕ) (text line rest : List ℕ) → InText q → Closes q text line rest → Closes q (q ∷ text) (q ∷ q ∷ line) rest
closes_twice q text line rest is closes = record { written = rw (eq-eqb q q refl, ← closes.written) refl; all = All-cons InText q text is closes.all; ends = closes.ends }

mutual
  closed_is : (q : ℕ) (line : List ℕ) → IsDelimiter q → Holds (IsClosed q line) (closed_by q line)
  closed_is q [] is = tt
  closed_is q (c ∷ line) is =
      either_holds (IsClosed q (c ∷ line)) (eqb c q) _ _ (λ e. rw (eqb-true c q e) (behind_is q line is))
      (λ e. either_holds (IsClosed q (c ∷ line)) (is_of InLiteral c) _ None
      (λ f. map_holds (IsClosed q line) (IsClosed q (c ∷ line)) (λ r. (c ∷ r.0, r.1)) (closed_by q line) (closed_is q line is) (λ r closes. closes_more q c r.0 line r.1 e f closes)) (λ f. tt))

  behind_is : (q : ℕ) (line : List ℕ) → IsDelimiter q → Holds (IsClosed q (q ∷ line)) (behind_delimiter q line)
  behind_is q [] is = record { written = refl; all = All-nil InText; ends = refl }
  behind_is q (c ∷ line) is =
      either_holds (IsClosed q (q ∷ c ∷ line)) (eqb c q) _ _
      (λ e. rw (eqb-true c q e)
      (map_holds (IsClosed q line) (IsClosed q (q ∷ q ∷ line)) (λ r. (q ∷ r.0, r.1)) (closed_by q line) (closed_is q line is) (λ r closes. closes_twice q r.0 line r.1 (delimiter_in_literal q is) closes)))
      (λ e. record { written = refl; all = All-nil InText; ends = e })

-- a closing delimiter before what is no delimiter
closes_here : (q : ℕ) (rest : List ℕ) → begins (λ c. eqb c q) rest ≡ false → closed_by q (q ∷ rest) ≡ Some ([], rest)
closes_here q [] ends = rw (eq-eqb q q refl) refl
closes_here q (c ∷ rest) ends = rw (eq-eqb q q refl, ends) refl

closed_again : (q : ℕ) (text rest : List ℕ) → AllPass (is_of InLiteral) text → begins (λ c. eqb c q) rest ≡ false → closed_by q (doubled q text ++ q ∷ rest) ≡ Some (text, rest)
closed_again q [] rest all ends = closes_here q rest ends
closed_again q (c ∷ text) rest all ends =
    let more = closed_again q text rest (All-tail InText c text all) ends in
    elim (cases_Bool (eqb c q)) [
      | inl e ↦ rw (e, eq-eqb q q refl, more, eqb-true c q e) refl
      | inr e ↦ rw (e, e, All-head InText c text all, more) refl
    ]

pub literal_is : (q : ℕ) (line : List ℕ) → IsDelimiter q → Holds (StandsFirst (q ∷ line)) (literal_at q line)
literal_is q line is = map_holds (IsClosed q line) (StandsFirst (q ∷ line)) (λ r. (Literal r.0, r.1)) (closed_by q line) (closed_is q line is) (λ r closes. (
  q ∷ (doubled q r.0 ++ q ∷ []),
  ap (λ l. q ∷ l) (closes.written ∙ sym (append_assoc (doubled q r.0) (q ∷ []) r.1)),
  record { delimiter = q; is_delimiter = is; all = closes.all; written = refl; ends = closes.ends },
))

-- what stands between the delimiters, where this stands behind the closing one
pub record IsLiteral (q : ℕ) (line behind : List ℕ) : Type 0 where
  pub within : length behind + 1 ≤ length line
  pub is : closed_by q line ≡ Some (undoubled q (take (length line - length behind - 1) line), behind)

literal_with : (q : ℕ) (text line behind : List ℕ) → IsDelimiter q → closed_by q line ≡ Some (text, behind) → IsLiteral q line behind
literal_with q text line behind is h =
    let closes : Closes q text line behind = held (IsClosed q line) (closed_by q line) (text, behind) (closed_is q line is) h in
    let long : length line ≡ length (doubled q text) + (1 + length behind) = omega (arith, ap length closes.written, length-append (doubled q text) (q ∷ behind)) in
    let count : length line - length behind - 1 ≡ length (doubled q text) = omega (arith, long) in
    let inside : take (length line - length behind - 1) line ≡ doubled q text =
    ap (λ n. take n line) count ∙ ap (take (length (doubled q text))) closes.written ∙ take-append_seam (doubled q text) (q ∷ behind) in
    record {
      within = omega (arith, long);
      is = h ∙ ap (λ l. Some (l, behind)) (sym (ap (undoubled q) inside ∙ undoubled_again q text));
    }

pub literal_closed : (q : ℕ) (line behind : List ℕ) → IsDelimiter q → option_map (λ r. r.1) (closed_by q line) ≡ Some behind → IsLiteral q line behind
literal_closed q line behind is h = let m = mapped (λ r. r.1) (closed_by q line) behind h in subst (IsLiteral q line) (sym m.2) (literal_with q m.0.0 line m.0.1 is m.1)

-- ---- truth values

truth_is : (line : List ℕ) → Holds (StandsFirst line) (truth_at line)
truth_is line =
    either_holds (StandsFirst line) (bytes_eq (str_to_ascii_lowercase (take 6 line)) (codes ".true.")) _ _ (stands true 6)
    (λ e. either_holds (StandsFirst line) (bytes_eq (str_to_ascii_lowercase (take 7 line)) (codes ".false.")) _ None (stands false 7) (λ f. tt)) where
      stands : (truth : Bool) (n : ℕ) → bytes_eq (str_to_ascii_lowercase (take n line)) (truth_bytes truth) ≡ true → StandsFirst line (Truth truth, drop n line)
      stands truth n e = (take n line, sym (take-append-drop n line), (bytes_eq-Decides _ _).0 e)

-- the front of so many bytes, which are some of those written
front_is : (n : ℕ) (bytes line : List ℕ) (text : List ℕ) → n ≤ length bytes → str_to_ascii_lowercase bytes ≡ text → str_to_ascii_lowercase (take n (bytes ++ line)) ≡ take n text
front_is n bytes line text le h = ap str_to_ascii_lowercase (take-append-le n bytes line le) ∙ sym (take-map to_ascii_lowercase n bytes) ∙ ap (take n) h

truth_again : (truth : Bool) (bytes line : List ℕ) → str_to_ascii_lowercase bytes ≡ truth_bytes truth → truth_at (bytes ++ line) ≡ Some (Truth truth, line)
truth_again true bytes line h =
    let len : length bytes ≡ 6 = sym (length-map bytes to_ascii_lowercase) ∙ ap length h in
    rw (front_is 6 bytes line (codes ".true.") (omega arith) h) (ap (λ n. Some (Truth true, drop n (bytes ++ line))) (sym len) ∙ ap (λ l. Some (Truth true, l)) (drop-append_seam bytes line))
truth_again false bytes line h =
    let len : length bytes ≡ 7 = sym (length-map bytes to_ascii_lowercase) ∙ ap length h in
    rw (front_is 6 bytes line (codes ".false.") (omega arith) h, front_is 7 bytes line (codes ".false.") (omega arith) h)
    (ap (λ n. Some (Truth false, drop n (bytes ++ line))) (sym len) ∙ ap (λ l. Some (Truth false, l)) (drop-append_seam bytes line))

truth_first : (truth : Bool) (bytes line : List ℕ) → str_to_ascii_lowercase bytes ≡ truth_bytes truth → first_token (bytes ++ line) ≡ truth_at (bytes ++ line)
unfolding first_token
truth_first true [] line h = cc
truth_first false [] line h = cc
truth_first truth (c ∷ bytes) line h = let point : c ≡ 46 = is_point truth cc in rw point refl where
  is_point : (b : Bool) → to_ascii_lowercase c ∷ str_to_ascii_lowercase bytes ≡ truth_bytes b → c ≡ 46
  is_point true e = let lower : to_ascii_lowercase c ≡ 46 = cc in grind (arith, nat_tests)
  is_point false e = let lower : to_ascii_lowercase c ≡ 46 = cc in grind (arith, nat_tests)

-- ---- marks

abbrev IsByteOf : ℕ → AMark → Type 0
IsByteOf c m = c ∷ [] ≡ mark_bytes m

mark_byte : (c : ℕ) → Holds (IsByteOf c) (mark_of c)
mark_byte c =
    one 40 LeftParenthesis _ refl (one 41 RightParenthesis _ refl (one 44 Comma _ refl (one 61 Equals _ refl (one 47 Slash _ refl (one 42 Asterisk None refl tt))))) where
      one : (k : ℕ) (m : AMark) (o : Option AMark) → k ∷ [] ≡ mark_bytes m → Holds (IsByteOf c) o → Holds (IsByteOf c) (cond (eqb c k) (Some m) o)
      one k m o is more = either_holds (IsByteOf c) (eqb c k) (Some m) o (λ e. ap (λ b. b ∷ []) (eqb-true c k e) ∙ is) (λ e. more)

two_bytes : (c : ℕ) (line : List ℕ) → eqb c 58 ≡ true → eqb (slice_index line 0) 58 ≡ true → c ∷ line ≡ codes "::" ++ drop 1 line
two_bytes c [] h k = cc
two_bytes c (d ∷ line) h k = rw (eqb-true c 58 h, eqb-true d 58 k) refl

mark_is : (c : ℕ) (line : List ℕ) → Holds (StandsFirst (c ∷ line)) (mark_at (c ∷ line))
unfolding mark_at
mark_is c line =
    either_holds (StandsFirst (c ∷ line)) (eqb c 58 && eqb (slice_index line 0) 58) _ _
    (λ e. let h = and_parts _ _ e in (codes "::", two_bytes c line h.0 h.1, refl))
    (λ e. map_holds (IsByteOf c) (StandsFirst (c ∷ line)) (λ m. (Mark m, line)) (mark_of c) (mark_byte c) (λ m is. (c ∷ [], refl, is)))

mark_first : (m : AMark) (line : List ℕ) → first_token (mark_bytes m ++ line) ≡ Some (Mark m, line)
unfolding first_token mark_at
mark_first DoubleColon line = refl
mark_first m line = refl

-- ---- each kind by its first byte

delimiter_of : (c : ℕ) → (eqb c 39 || eqb c 34) ≡ true → IsDelimiter c
delimiter_of c h = elim (or_cases (eqb c 39) (eqb c 34) h) [ inl e ↦ inl (eqb-true c 39 e) | inr e ↦ inr (eqb-true c 34 e) ]

stands_first : (line : List ℕ) → Holds (StandsFirst line) (first_token line)
unfolding first_token
stands_first [] = tt
stands_first (c ∷ line) =
    by (is_ascii_alphabetic c) _ _ (word_is c line) (λ e. by (is_ascii_digit c) _ _ (λ e. number_is Unsigned (c ∷ line))
    (λ e. by (eqb c 43) _ _ (λ e. rw (eqb-true c 43 e) (number_is Plus line)) (λ e. by (eqb c 45) _ _ (λ e. rw (eqb-true c 45 e) (number_is Minus line))
    (λ e. by (eqb c 39 || eqb c 34) _ _ (λ e. literal_is c line (delimiter_of c e)) (λ e. by (eqb c 46) _ _ (λ e. truth_is (c ∷ line)) (λ e. mark_is c line)))))) where
      by : (b : Bool) (o r : Option (Token × List ℕ)) → (b ≡ true → Holds (StandsFirst (c ∷ line)) o) → (b ≡ false → Holds (StandsFirst (c ∷ line)) r) → Holds (StandsFirst (c ∷ line)) (cond b o r)
      by b o r f g = either_holds (StandsFirst (c ∷ line)) b o r f g

pub first_is : (line : List ℕ) (x : Token × List ℕ) → first_token line ≡ Some x → StandsFirst line x
first_is line x h = held (StandsFirst line) (first_token line) x (stands_first line) h

literal_first : (q : ℕ) (line : List ℕ) → IsDelimiter q → first_token (q ∷ line) ≡ literal_at q line
unfolding first_token
literal_first q line (inl e) = rw e refl
literal_first q line (inr e) = rw e refl

no_letter : (c : ℕ) → is_ascii_digit c ≡ true → is_ascii_alphabetic c ≡ false
no_letter c h = grind (arith, nat_tests)

number_first : (sign : Sign) (digits line : List ℕ) → 0 < length digits → AllPass is_ascii_digit digits → first_token ((sign_bytes sign ++ digits) ++ line) ≡ number_at sign (digits ++ line)
unfolding first_token
number_first Unsigned [] line some all = absurd (omega arith)
number_first Unsigned (c ∷ digits) line some all =
    let h = All-head (λ b. is_ascii_digit b ≡ true) c digits all in
    cond-false (is_ascii_alphabetic c) _ _ (no_letter c h) ∙ cond-true (is_ascii_digit c) _ _ h
number_first Plus digits line some all = refl
number_first Minus digits line some all = refl

word_first : (bytes line : List ℕ) → begins is_ascii_alphabetic bytes ≡ true → first_token (bytes ++ line) ≡ word_at (bytes ++ line)
unfolding first_token
word_first [] line h = let no : false ≡ true = h in cc
word_first (c ∷ bytes) line h = cond-true (is_ascii_alphabetic c) _ _ h

pub first_again : (t : Token) (bytes line : List ℕ) → IsWritten t bytes line → first_token (bytes ++ line) ≡ Some (t, line)
first_again (Word word) bytes line w = word_first bytes line w.letter ∙ run_again _ 63 (λ run. Word (map to_ascii_uppercase run)) bytes line w.run ∙ ap (λ l. Some (Word l, line)) (sym w.upper)
first_again (Number sign amount) bytes line w =
    rw (w.written, number_first sign w.digits line w.run.some w.run.all)
    (run_again _ 19 (λ run. Number sign (digits_value 10 run)) w.digits line w.run ∙ ap (λ n. Some (Number sign n, line)) (sym w.value))
first_again (Literal text) bytes line w =
    rw (w.written) (literal_first w.delimiter _ w.is_delimiter ∙ rw (append_assoc (doubled w.delimiter text) (w.delimiter ∷ []) line, closed_again w.delimiter text line w.all w.ends) refl)
first_again (Truth truth) bytes line w = truth_first truth bytes line w ∙ truth_again truth bytes line w
first_again (Mark mark) bytes line w = rw w (mark_first mark line)
