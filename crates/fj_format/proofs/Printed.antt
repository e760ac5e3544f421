-- The grammar reads the text of a format as that format.
use Rattle.std.proofs.Common.{ℕ, suc, ◌+◌, ◌-◌, ◌*◌, ◌/◌, ◌%◌, ◌^◌, ◌≡◌, ◌<◌, ◌≤◌, Bool, true, false, cond, eqb, List, [], ◌∷◌, ◌++◌, map, codes, decimal, Option, Some, None, refl, sym, subst, ap, ◌∙◌, arith, append_assoc, append-nil, lit≤}
use Rattle.std.proofs.lemmas.Bool.Decides.{nat_tests}
use Rattle.std.proofs.lemmas.Fmt.{decimal_by_steps}
use Rattle.std.specs.List.{join_with_byte}
use Rattle.fj_value.specs.declared.edit.Edit.{Edit}
use Rattle.fj_value.specs.declared.edit.Edit.TheVariants.{Log, Chars, General}
use Rattle.fj_format.specs.declared.item.ModeStep.{ModeStep}
use Rattle.fj_format.specs.declared.item.FormatItem.{FormatItem}
use Rattle.fj_format.specs.declared.item.FormatItem.TheVariants as item
use Rattle.fj_format.specs.declared.place.Radix.{Radix}
use Rattle.fj_format.specs.declared.place.Radix.TheVariants.{Two, Eight, Ten, Sixteen}
use Rattle.fj_format.specs.declared.place.Tabbing.{Tabbing}
use Rattle.fj_format.specs.declared.place.Tabbing.TheVariants.{To, Left, Right}
use Rattle.fj_format.specs.declared.symbol.Symbol.TheVariants.{Digit, Close, Point}
use Rattle.fj_format.specs.Symbols.{is_blank, is_quote, is_digit}
use Rattle.fj_format.specs.Marks.{Marks, symbol, string, outside, inside}
use Rattle.fj_format.specs.Grammar.{Digits, stop, digit, Number, number, times, integer_edit, moved, most, Least, no_least, least, Width, no_width, width, no_exponent, Sign, sign_usual, sign_plus, sign_suppress, Blank, blank_null, blank_zero, Decimal, decimal_comma, decimal_point, turn_to, turn_left, turn_right, comma, Item, plain, counted, Body, integer, logical, characters, general, general_alone, tab, skip, slash, colon, sign_mode, blank_mode, decimal_mode, quoted, group, Items, items, unlimited, More, none, some, IsFormatOf, empty, format}
use Rattle.fj_format.specs.Printing.{count_text, least_text, edit_text, mode_text, doubled, in_parentheses, item_text, printed}
use Rattle.fj_format.specs.PrintingLaws.{item_text-Field, item_text-Group, item_text-Str, item_text-Tab, item_text-Left, item_text-Right, item_text-Skip, item_text-Slash, item_text-Colon, item_text-Mode, item_text-Unlimited}
use Rattle.fj_format.proofs.Choices.{into_true, into_false, choose_by, positive_test}
use Rattle.fj_format.proofs.Withins.{number_within}

-- ---- numbers

-- a digit, and the marks behind it
record Started (value : ℕ) (t w : Marks) : Type 0 where
  d : ℕ
  rest : Marks
  is : t ≡ symbol (Digit d) ∷ rest
  reads : Digits d value rest w

digit_mark : (d : ℕ) (u : List ℕ) → d < 10 → outside ((48 + d) ∷ u) ≡ symbol (Digit d) ∷ outside u
digit_mark d u h =
    let P : Marks → Type 0 = λ l. l ≡ symbol (Digit d) ∷ outside u in
    into_false P (is_blank (48 + d)) _ _ (no_blank d h)
    (into_false P (is_quote (48 + d)) _ _ (no_quote d h)
    (ap (λ s. symbol s ∷ outside u) (into_true (λ s. s ≡ Digit d) (is_digit (48 + d)) _ _ (a_digit d h) (ap (λ n. Digit n) (value d)))))
  where
    no_blank : (d : ℕ) → d < 10 → is_blank (48 + d) ≡ false
    no_blank d h = grind (arith, nat_tests)

    no_quote : (d : ℕ) → d < 10 → is_quote (48 + d) ≡ false
    no_quote d h = grind (arith, nat_tests)

    a_digit : (d : ℕ) → d < 10 → is_digit (48 + d) ≡ true
    a_digit d h = grind (arith, nat_tests)

    value : (d : ℕ) → (48 + d) - 48 ≡ d
    value d = omega arith

-- what the digits of a number begin, whatever stands behind them
abbrev Reads : ℕ → List ℕ → Type 0
Reads n ds = (value : ℕ) (u : List ℕ) (w : Marks) → Digits n value (outside u) w → Started value (outside (ds ++ u)) w

decimal_reads : (n : ℕ) → n < 2 ^ 64 → Reads n (decimal n)
decimal_reads n h = decimal_by_steps Reads one more n h
  where
    one : (n : ℕ) → n < 10 → Reads n ((48 + n) ∷ [])
    one n h value u w reads = record { d = n; rest = outside u; is = digit_mark n u h; reads = reads }

    more : (n : ℕ) (ds : List ℕ) → 10 ≤ n → Reads (n / 10) ds → Reads n (ds ++ ((48 + n % 10) ∷ []))
    more n ds h first value u w reads =
        let small : n % 10 < 10 = omega arith in
        let whole : n ≡ 10 * (n / 10) + n % 10 = omega arith in
        subst (λ l. Started value (outside l) w) (sym (append_assoc ds ((48 + n % 10) ∷ []) u))
        (first value ((48 + n % 10) ∷ u) w
        (subst (λ t. Digits (n / 10) value t w) (sym (digit_mark (n % 10) u small)) (digit (n % 10) (subst (λ m. Digits m value (outside u) w) whole reads))))

number_reads : (smallest greatest n : ℕ) (rest : List ℕ) → smallest ≤ n → n ≤ greatest → greatest ≤ 65536 →
    Number smallest greatest n (outside (decimal n ++ rest)) (outside rest)
number_reads smallest greatest n rest enough within small =
    let s = decimal_reads n (omega arith) n rest (outside rest) stop in
    subst (λ t. Number smallest greatest n t (outside rest)) (sym s.is) (number s.d s.reads enough within)

-- the same, where more of the text stands behind the number
number_then : (smallest greatest n : ℕ) (more rest : List ℕ) → smallest ≤ n → n ≤ greatest → greatest ≤ 65536 →
    Number smallest greatest n (outside ((decimal n ++ more) ++ rest)) (outside (more ++ rest))
number_then smallest greatest n more rest enough within small =
    subst (λ l. Number smallest greatest n (outside l) (outside (more ++ rest))) (sym (append_assoc (decimal n) more rest))
    (number_reads smallest greatest n (more ++ rest) enough within small)

most_small : (w : ℕ) → w ≤ 65536 → most w ≤ 65536
most_small w h = grind (arith, nat_tests)

-- ---- strings

-- what stands behind an item begins with no apostrophe
abbrev IsEnd : List ℕ → Type 0
IsEnd [] = ⊥
IsEnd (c ∷ t) = eqb c 39 ≡ false

string_reads : (s before rest : List ℕ) → IsEnd rest → inside 39 before ((doubled s ++ 39 ∷ []) ++ rest) ≡ string (before ++ s) ∷ outside rest
string_reads [] before [] e = absurd e
string_reads [] before (c ∷ rest) e =
    into_false (λ l. l ≡ string (before ++ []) ∷ outside (c ∷ rest)) (eqb c 39) _ _ e (ap (λ l. string l ∷ outside (c ∷ rest)) (sym (append-nil before)))
string_reads (c ∷ s) before rest e =
    by_test (eqb c 39) refl (string_reads s (before ++ 39 ∷ []) rest e) (string_reads s (before ++ c ∷ []) rest e)
  where
    same : (c : ℕ) → eqb c 39 ≡ true → c ≡ 39
    same c h = grind (arith, nat_tests)

    longer : string ((before ++ c ∷ []) ++ s) ∷ outside rest ≡ string (before ++ (c ∷ s)) ∷ outside rest
    longer = ap (λ l. string l ∷ outside rest) (append_assoc before (c ∷ []) s)

    by_test : (b : Bool) → eqb c 39 ≡ b →
        inside 39 (before ++ 39 ∷ []) ((doubled s ++ 39 ∷ []) ++ rest) ≡ string ((before ++ 39 ∷ []) ++ s) ∷ outside rest →
        inside 39 (before ++ c ∷ []) ((doubled s ++ 39 ∷ []) ++ rest) ≡ string ((before ++ c ∷ []) ++ s) ∷ outside rest →
        inside 39 before ((cond b (codes "''" ++ doubled s) (c ∷ doubled s) ++ 39 ∷ []) ++ rest) ≡ string (before ++ (c ∷ s)) ∷ outside rest
    by_test true is twice once = twice ∙ ap (λ x. string ((before ++ x ∷ []) ++ s) ∷ outside rest) (sym (same c is)) ∙ longer
    by_test false is twice once = into_false (λ l. l ≡ string (before ++ (c ∷ s)) ∷ outside rest) (eqb c 39) _ _ is (once ∙ longer)

-- ---- items

-- A body that stands behind any count, or none, is an item behind the text of a count.
count_reads : (d r : ℕ) (make : ℕ → FormatItem) (free : Bool) (text rest : List ℕ) (u : Marks) → 1 ≤ r → r ≤ 65536 →
    ((k : Option ℕ) → Body d k (make (times k)) free (outside (text ++ rest)) u) → Item d (make r) free (outside ((count_text r ++ text) ++ rest)) u
count_reads d r make free text rest u positive within reads =
    choose_by (λ l. Item d (make r) free (outside ((l ++ text) ++ rest)) u) (eqb r 1) _ _
    (λ is. subst (λ n. Item d (make n) free (outside (text ++ rest)) u) (sym (one r is)) (plain (reads None)))
    (λ _. counted (number_then 1 65536 r text rest positive within (lit≤ tt)) (reads (Some r)))
  where
    one : (r : ℕ) → eqb r 1 ≡ true → r ≡ 1
    one r h = grind (arith, nat_tests)

least_reads : (w : ℕ) (m : Option ℕ) (t u : Marks) (rest : List ℕ) → w ≤ 65536 → Least w m t u → Least w m (outside (least_text m ++ rest)) (outside rest)
least_reads w _ t _ rest small no_least = no_least
least_reads w _ _ u rest small (least {m = m} {t = t} n) =
    least (number_reads 0 (most w) m rest (number_within 0 (most w) m t u n).0 (number_within 0 (most w) m t u n).1 (most_small w small))

integer_reads : (d : ℕ) (k : Option ℕ) (x : Radix) (w : ℕ) (m : Option ℕ) (rest : List ℕ) → w ≤ 65536 → Least w m (outside (least_text m ++ rest)) (outside rest) →
    Body d k (item.Field (times k) (integer_edit x w m)) false (outside (edit_text (integer_edit x w m) ++ rest)) (outside rest)
integer_reads d k Two w m rest small l = integer Two (number_then 0 65536 w (least_text m) rest (omega arith) small (lit≤ tt)) l
integer_reads d k Eight w m rest small l = integer Eight (number_then 0 65536 w (least_text m) rest (omega arith) small (lit≤ tt)) l
integer_reads d k Ten w m rest small l = integer Ten (number_then 0 65536 w (least_text m) rest (omega arith) small (lit≤ tt)) l
integer_reads d k Sixteen w m rest small l = integer Sixteen (number_then 0 65536 w (least_text m) rest (omega arith) small (lit≤ tt)) l

field_reads : (d r : ℕ) (e : Edit) (rest : List ℕ) → 1 ≤ r → r ≤ 65536 →
    ((k : Option ℕ) → Body d k (item.Field (times k) e) false (outside (edit_text e ++ rest)) (outside rest)) →
    Item d (item.Field r e) false (outside (item_text (item.Field r e) ++ rest)) (outside rest)
field_reads d r e rest positive within reads =
    subst (λ l. Item d (item.Field r e) false (outside (l ++ rest)) (outside rest)) (sym (item_text-Field r e))
    (count_reads d r (λ n. item.Field n e) false (edit_text e) rest (outside rest) positive within reads)

tab_reads : (d n : ℕ) (direction : Tabbing) (rest : List ℕ) → 1 ≤ n → n ≤ 65536 →
    Item d (moved direction n) false (outside (item_text (moved direction n) ++ rest)) (outside rest)
tab_reads d n To rest positive within =
    subst (λ l. Item d (item.Tab n) false (outside (l ++ rest)) (outside rest)) (sym (item_text-Tab n))
    (plain (tab To turn_to (number_reads 1 65536 n rest positive within (lit≤ tt))))
tab_reads d n Left rest positive within =
    subst (λ l. Item d (item.Left n) false (outside (l ++ rest)) (outside rest)) (sym (item_text-Left n))
    (plain (tab Left turn_left (number_reads 1 65536 n rest positive within (lit≤ tt))))
tab_reads d n Right rest positive within =
    subst (λ l. Item d (item.Right n) false (outside (l ++ rest)) (outside rest)) (sym (item_text-Right n))
    (plain (tab Right turn_right (number_reads 1 65536 n rest positive within (lit≤ tt))))

sign_reads : (m : ModeStep) (t u : Marks) (d : ℕ) (rest : List ℕ) → Sign m t u → Body d None (item.Mode m) false (outside (mode_text m ++ rest)) (outside rest)
sign_reads _ t _ d rest sign_usual = sign_mode sign_usual
sign_reads _ _ u d rest sign_plus = sign_mode sign_plus
sign_reads _ _ u d rest sign_suppress = sign_mode sign_suppress

blank_reads : (m : ModeStep) (t u : Marks) (d : ℕ) (rest : List ℕ) → Blank m t u → Body d None (item.Mode m) false (outside (mode_text m ++ rest)) (outside rest)
blank_reads _ _ u d rest blank_null = blank_mode blank_null
blank_reads _ _ u d rest blank_zero = blank_mode blank_zero

decimal_mode_reads : (m : ModeStep) (t u : Marks) (d : ℕ) (rest : List ℕ) → Decimal m t u → Body d None (item.Mode m) false (outside (mode_text m ++ rest)) (outside rest)
decimal_mode_reads _ _ u d rest decimal_comma = decimal_mode decimal_comma
decimal_mode_reads _ _ u d rest decimal_point = decimal_mode decimal_point

mode_reads : (d : ℕ) (m : ModeStep) (rest : List ℕ) → Body d None (item.Mode m) false (outside (mode_text m ++ rest)) (outside rest) →
    Item d (item.Mode m) false (outside (item_text (item.Mode m) ++ rest)) (outside rest)
mode_reads d m rest b = subst (λ l. Item d (item.Mode m) false (outside (l ++ rest)) (outside rest)) (sym (item_text-Mode m)) (plain b)

characters_reads : (d : ℕ) (k w : Option ℕ) (t u : Marks) (rest : List ℕ) → Width w t u →
    Body d k (item.Field (times k) (Chars w)) false (outside (edit_text (Chars w) ++ rest)) (outside rest)
characters_reads d k _ t _ rest no_width = characters no_width
characters_reads d k _ t u rest (width {w = w} n) =
    let limits = number_within 1 65536 w t u n in
    characters (width (number_reads 1 65536 w rest limits.0 limits.1 (lit≤ tt)))

general_reads : (d : ℕ) (k : Option ℕ) (w n : ℕ) (rest : List ℕ) → 1 ≤ w → w ≤ 65536 → n ≤ 65536 →
    Body d k (item.Field (times k) (General w n)) false (outside (edit_text (General w n) ++ rest)) (outside rest)
general_reads d k w n rest positive within small =
    let P : List ℕ → Type 0 = λ l. Body d k (item.Field (times k) (General w n)) false (outside ((codes "G" ++ (decimal w ++ l)) ++ rest)) (outside rest) in
    into_false P (eqb w 0) _ _ (positive_test w positive)
    (general (number_then 1 65536 w (codes "." ++ decimal n) rest positive within (lit≤ tt)) (number_reads 0 65536 n rest (omega arith) small (lit≤ tt)) no_exponent)

general_alone_reads : (d : ℕ) (k : Option ℕ) (rest : List ℕ) →
    Body d k (item.Field (times k) (General 0 0)) false (outside (edit_text (General 0 0) ++ rest)) (outside rest)
general_alone_reads d k rest = general_alone (number_then 0 0 0 [] rest (lit≤ tt) (lit≤ tt) (lit≤ tt))

-- ---- lists

-- the comma and the text of each of these items
abbrev behind : List (List ℕ) → List ℕ
behind [] = []
behind (t ∷ ts) = 44 ∷ (t ++ behind ts)

join_behind : (t : List ℕ) (ts : List (List ℕ)) → join_with_byte 44 (t ∷ ts) ≡ t ++ behind ts
join_behind t [] = sym (append-nil t)
join_behind t (s ∷ ts) = ap (λ l. t ++ 44 ∷ l) (join_behind s ts)

behind_is_end : (ts : List (List ℕ)) (rest : List ℕ) → IsEnd (behind ts ++ 41 ∷ rest)
behind_is_end [] rest = refl
behind_is_end (t ∷ ts) rest = refl

list_text : (t : List ℕ) (ts : List (List ℕ)) (rest : List ℕ) → (join_with_byte 44 (t ∷ ts) ++ codes ")") ++ rest ≡ t ++ (behind ts ++ 41 ∷ rest)
list_text t ts rest =
    ap (λ l. (l ++ codes ")") ++ rest) (join_behind t ts) ∙ append_assoc (t ++ behind ts) (codes ")") rest ∙ append_assoc t (behind ts) (41 ∷ rest)

-- a star and items in parentheses, before the last parenthesis
unlimited_text : (inner : List FormatItem) (rest : List ℕ) →
    (join_with_byte 44 (map item_text (item.Unlimited inner ∷ [])) ++ codes ")") ++ rest ≡ 42 ∷ 40 ∷ ((join_with_byte 44 (map item_text inner) ++ codes ")") ++ 41 ∷ rest)
unlimited_text inner rest =
    ap (λ l. (l ++ codes ")") ++ rest) (item_text-Unlimited inner)
    ∙ ap (λ l. 42 ∷ 40 ∷ l) (append_assoc (join_with_byte 44 (map item_text inner) ++ codes ")") (codes ")") rest)

-- one item and more, behind a comma
behind_text : (d : ℕ) (xs : List FormatItem) (t u : Marks) (rest : List ℕ) → Items d xs t u →
    behind (map item_text xs) ++ 41 ∷ rest ≡ 44 ∷ ((join_with_byte 44 (map item_text xs) ++ codes ")") ++ rest)
behind_text d _ s u rest (items {x = x} {more = more} i m) =
    ap (λ l. 44 ∷ l) (append_assoc (item_text x) (behind (map item_text more)) (41 ∷ rest) ∙ sym (list_text (item_text x) (map item_text more) rest))
behind_text d _ _ u rest (unlimited {inner = inner} top i there) =
    ap (λ l. 44 ∷ l) (append_assoc (item_text (item.Unlimited inner)) [] (41 ∷ rest) ∙ sym (list_text (item_text (item.Unlimited inner)) [] rest))

mutual
  item_reads : (d : ℕ) (x : FormatItem) (free : Bool) (t u : Marks) (rest : List ℕ) → IsEnd rest → Item d x free t u → Item d x free (outside (item_text x ++ rest)) (outside rest)
  item_reads d x free t u rest e (plain b) = body_reads d None x free t u rest e (lit≤ tt) (lit≤ tt) b
  item_reads d x free _ u rest e (counted {r = r} {s = s} {t = t} n b) =
      body_reads d (Some r) x free t u rest e (number_within 1 65536 r s t n).0 (number_within 1 65536 r s t n).1 b

  body_reads : (d : ℕ) (k : Option ℕ) (x : FormatItem) (free : Bool) (t u : Marks) (rest : List ℕ) → IsEnd rest → 1 ≤ times k → times k ≤ 65536 →
      Body d k x free t u → Item d x free (outside (item_text x ++ rest)) (outside rest)
  body_reads d k _ _ _ u rest e positive within (integer {w = w} {m = m} {s = s} {t = t} x n l) =
      field_reads d (times k) (integer_edit x w m) rest positive within
      (λ k. integer_reads d k x w m rest (number_within 0 65536 w s t n).1 (least_reads w m t u rest (number_within 0 65536 w s t n).1 l))
  body_reads d k _ _ _ u rest e positive within (logical {w = w} {t = t} n) =
      field_reads d (times k) (Log w) rest positive within
      (λ k. logical (number_reads 1 65536 w rest (number_within 1 65536 w t u n).0 (number_within 1 65536 w t u n).1 (lit≤ tt)))
  body_reads d k _ _ _ u rest e positive within (characters {w = w} {t = t} n) =
      field_reads d (times k) (Chars w) rest positive within (λ k. characters_reads d k w t u rest n)
  body_reads d k _ _ _ u rest e positive within (general {w = w} {n = n} {r = r} {s = s} {t = t} a b x) =
      field_reads d (times k) (General w n) rest positive within
      (λ k. general_reads d k w n rest (number_within 1 65536 w r (symbol Point ∷ s) a).0 (number_within 1 65536 w r (symbol Point ∷ s) a).1 (number_within 0 65536 n s t b).1)
  body_reads d k _ _ _ u rest e positive within (general_alone n) = field_reads d (times k) (General 0 0) rest positive within (λ k. general_alone_reads d k rest)
  body_reads d _ _ _ _ u rest e positive within (tab {n = n} {t = t} direction turns a) =
      tab_reads d n direction rest (number_within 1 65536 n t u a).0 (number_within 1 65536 n t u a).1
  body_reads d k _ _ _ u rest e positive within skip =
      subst (λ l. Item d (item.Skip (times k)) false (outside (l ++ rest)) (outside rest)) (sym (item_text-Skip (times k)))
      (counted (number_then 1 65536 (times k) (codes "X") rest positive within (lit≤ tt)) skip)
  body_reads d k _ _ _ u rest e positive within slash =
      subst (λ l. Item d (item.Slash (times k)) true (outside (l ++ rest)) (outside rest)) (sym (item_text-Slash (times k)))
      (count_reads d (times k) (λ n. item.Slash n) true (codes "/") rest (outside rest) positive within (λ k. slash))
  body_reads d _ _ _ _ u rest e positive within colon =
      subst (λ l. Item d item.Colon true (outside (l ++ rest)) (outside rest)) (sym item_text-Colon) (plain colon)
  body_reads d _ _ _ _ u rest e positive within (sign_mode {m = m} {t = t} a) = mode_reads d m rest (sign_reads m t u d rest a)
  body_reads d _ _ _ _ u rest e positive within (blank_mode {m = m} {t = t} a) = mode_reads d m rest (blank_reads m t u d rest a)
  body_reads d _ _ _ _ u rest e positive within (decimal_mode {m = m} {t = t} a) = mode_reads d m rest (decimal_mode_reads m t u d rest a)
  body_reads d _ _ _ _ u rest e positive within (quoted s) =
      subst (λ l. Item d (item.Str s) false (outside (l ++ rest)) (outside rest)) (sym (item_text-Str s))
      (subst (λ l. Item d (item.Str s) false l (outside rest)) (sym (string_reads s [] rest e)) (plain (quoted s)))
  body_reads d k _ _ _ u rest e positive within (group {inner = inner} {t = t} deep i) =
      subst (λ l. Item d (item.Group (times k) inner) false (outside (l ++ rest)) (outside rest)) (sym (item_text-Group (times k) inner))
      (count_reads d (times k) (λ n. item.Group n inner) false (in_parentheses (map item_text inner)) rest (outside rest) positive within
      (λ k. group deep (items_reads (suc d) inner t (symbol Close ∷ u) rest i)))

  items_reads : (d : ℕ) (xs : List FormatItem) (t u : Marks) (rest : List ℕ) → Items d xs t u →
      Items d xs (outside ((join_with_byte 44 (map item_text xs) ++ codes ")") ++ rest)) (symbol Close ∷ outside rest)
  items_reads d _ s u rest (items {x = x} {free = free} {more = more} {t = t} i m) =
      subst (λ l. Items d (x ∷ more) (outside l) (symbol Close ∷ outside rest)) (sym (list_text (item_text x) (map item_text more) rest))
      (items (item_reads d x free s t (behind (map item_text more) ++ 41 ∷ rest) (behind_is_end (map item_text more) rest) i) (more_reads d free more t u rest m))
  items_reads d _ _ u rest (unlimited {inner = inner} {t = t} top i there) =
      subst (λ l. Items d (item.Unlimited inner ∷ []) (outside l) (symbol Close ∷ outside rest)) (sym (unlimited_text inner rest))
      (unlimited top (items_reads (suc d) inner t (symbol Close ∷ u) (41 ∷ rest) i) there)

  more_reads : (d : ℕ) (before : Bool) (xs : List FormatItem) (t u : Marks) (rest : List ℕ) → More d before xs t u →
      More d before xs (outside (behind (map item_text xs) ++ 41 ∷ rest)) (symbol Close ∷ outside rest)
  more_reads d before _ _ u rest none = none
  more_reads d before xs s u rest (some {t = t} p i) =
      subst (λ l. More d before xs (outside l) (symbol Close ∷ outside rest)) (sym (behind_text d xs t u rest i)) (some comma (items_reads d xs t u rest i))

pub format_reads : (xs : List FormatItem) (t : Marks) → IsFormatOf xs t → IsFormatOf xs (outside (printed xs))
format_reads _ _ empty = empty
format_reads xs _ (format {t = t} {u = u} i) =
    format (subst (λ l. Items 1 xs (outside l) (symbol Close ∷ [])) (append-nil (join_with_byte 44 (map item_text xs) ++ codes ")")) (items_reads 1 xs t (symbol Close ∷ u) [] i))
