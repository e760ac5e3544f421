-- What is left to be read goes on by the reader's step.
use Rattle.std.proofs.Common.{ℕ, suc, ◌+◌, ◌*◌, ◌≡◌, ◌≢◌, ◌≤◌, Bool, true, false, List, [], ◌∷◌, ◌++◌, length, Option, Some, None, inl, inr, refl, sym, subst, arith, append_assoc, append-nil, nat_lt, nat_le, eqb, lit≤, if◌then◌else◌}
use Rattle.fj_value.specs.declared.edit.Edit.TheVariants.{Log, Chars, General}
use Rattle.fj_format.specs.declared.item.ModeStep.{ModeStep}
use Rattle.fj_format.specs.declared.item.ModeStep.TheVariants as step
use Rattle.fj_format.specs.declared.item.FormatItem.{FormatItem}
use Rattle.fj_format.specs.declared.item.FormatItem.TheVariants as item
use Rattle.fj_format.specs.declared.level.Level.{Level}
use Rattle.fj_format.specs.declared.reader.Reader.{Reader}
use Rattle.fj_format.specs.declared.place.Radix.{Radix}
use Rattle.fj_format.specs.declared.place.Radix.TheVariants.{Two, Eight, Ten, Sixteen}
use Rattle.fj_format.specs.declared.place.FieldKind.{FieldKind}
use Rattle.fj_format.specs.declared.place.FieldKind.TheVariants.{Integer, Logical, Characters, Generalized}
use Rattle.fj_format.specs.declared.place.Tabbing.{Tabbing}
use Rattle.fj_format.specs.declared.place.Tabbing.TheVariants.{To}
use Rattle.fj_format.specs.declared.place.Purpose.{Purpose}
use Rattle.fj_format.specs.declared.place.Purpose.TheVariants as purpose
use Rattle.fj_format.specs.declared.place.FormatPlace.{FormatPlace}
use Rattle.fj_format.specs.declared.place.FormatPlace.TheVariants as place
use Rattle.fj_format.specs.declared.symbol.Symbol.{Symbol}
use Rattle.fj_format.specs.declared.symbol.Symbol.TheVariants.{Digit, Open, Close, Comma, Point, Slash, Colon, Star}
use Rattle.fj_format.specs.Marks.{Mark, Marks, symbol, string}
use Rattle.fj_format.specs.Grammar.{Digits, stop, digit, Number, number, times, radix_letter, integer_edit, moved, most, Least, no_least, least, no_width, width, Exponent, no_exponent, exponent, Sign, sign_usual, sign_plus, sign_suppress, Blank, blank_null, blank_zero, Decimal, decimal_comma, decimal_point, Turn, turn_to, turn_left, turn_right, comma, behind_free, before_slash, before_colon, Item, plain, counted, Body, integer, logical, characters, general, general_alone, tab, skip, slash, colon, sign_mode, blank_mode, decimal_mode, quoted, group, Items, items, unlimited, More, none, some}
use Rattle.fj_format.specs.Grammar as grammar
use Rattle.fj_format.specs.declared.symbol.Symbol.TheVariants as character
use Rattle.fj_format.specs.Unfolding.{pass, has_data}
use Rattle.fj_format.specs.Reading.{smallest, greatest, at, alone, grown, closed_as, closed, body, start, between, behind, next_at, next_text_at}
use Rattle.fj_format.proofs.Choices.{into_true, into_false, either, within_test, not_below, below, zero_test, positive_test}
use Rattle.fj_format.proofs.Withins.{number_within}
use Rattle.fj_format.proofs.Rest.{Closes, ClosesAs, After, Want, InStar, Ends, BehindWidth, BehindNumber, InDigits, InNumber, InsteadOfWidth, Instead, Rest, Moves, MovesOn}

-- ---- numbers

digits_grow : (m n : ℕ) (t u : Marks) → Digits m n t u → m ≤ n
digits_grow m _ t _ stop = omega arith
digits_grow m n _ u (digit {t = t} d more) = let h : 10 * m + d ≤ n = digits_grow (10 * m + d) n t u more in omega arith

grown_forward : (p : Purpose) (n : ℕ) (ls : List Level) (xs : List FormatItem) (t : Marks) (f : List FormatItem) →
    InDigits p n ls xs t f → Moves (grown p n ls xs) t f
grown_forward p n ls xs t f i =
    let grows : n ≤ i.value = digits_grow n i.value t i.rest i.reads in
    let small : i.value ≤ greatest p = i.within in
    into_true (λ o. Moves o t f) (nat_le n (greatest p)) _ _ (within_test n (greatest p) (omega arith)) i

number_moves : (p : Purpose) (ls : List Level) (xs : List FormatItem) (value : ℕ) (t rest : Marks) (f : List FormatItem) (next : Mark → Option Reader) →
    ((d : ℕ) → next (symbol (Digit d)) ≡ grown p d ls xs) → Number (smallest p) (greatest p) value t rest → BehindNumber p value ls xs rest f → MovesOn next t f
number_moves p ls xs value _ rest f next e (number {t = t} d more enough within) behind =
    subst (λ o. Moves o t f) (sym (e d))
    (grown_forward p d ls xs t f (record { value = value; rest = rest; reads = more; enough = enough; within = within; behind = behind }))

number_forward : (p : Purpose) (ls : List Level) (xs : List FormatItem) (t : Marks) (f : List FormatItem) (next : Mark → Option Reader) →
    ((d : ℕ) → next (symbol (Digit d)) ≡ grown p d ls xs) → InNumber p ls xs t f → MovesOn next t f
number_forward p ls xs t f next e i = number_moves p ls xs i.value t i.rest f next e i.reads i.behind

-- ---- items

abbrev next_body : List Level → List FormatItem → Option ℕ → Mark → Option Reader
next_body ls xs k (symbol s) = body ls xs k s
next_body ls xs k (string s) = alone k (at ls (xs ++ item.Str s ∷ []) (place.Behind false))

abbrev next_start : List Level → List FormatItem → Mark → Option Reader
next_start ls xs (symbol s) = start ls xs s
next_start ls xs (string s) = at ls (xs ++ item.Str s ∷ []) (place.Behind false)

abbrev next_between : Bool → List Level → List FormatItem → Mark → Option Reader
next_between free ls xs (symbol s) = between free ls xs s
next_between free ls xs (string s) = if free then at ls (xs ++ item.Str s ∷ []) (place.Behind false) else None

begins_integer : (ls : List Level) (xs : List FormatItem) (k : Option ℕ) (x : Radix) (t : Marks) (f : List FormatItem) →
    InNumber (purpose.Width k (Integer x)) ls xs t f → Moves (body ls xs k (character.Letter (radix_letter x))) t f
begins_integer ls xs k Two t f i = inl i
begins_integer ls xs k Eight t f i = inl i
begins_integer ls xs k Ten t f i = inl i
begins_integer ls xs k Sixteen t f i = inl i

begins_characters : (ls : List Level) (xs : List FormatItem) (k w : Option ℕ) (t rest : Marks) (f : List FormatItem) →
    grammar.Width w t rest → After ls (xs ++ item.Field (times k) (Chars w) ∷ []) false rest f → Rest (place.First (purpose.Width k Characters)) ls xs t f
begins_characters ls xs k _ t _ f no_width after = inr after
begins_characters ls xs k _ t rest f (width {w = w} n) after = inl (record { value = w; rest = rest; reads = n; behind = after })

widened : (greatest n : ℕ) (t u : Marks) → Number 1 greatest n t u → Number 0 greatest n t u
widened greatest n _ u (number d more enough within) = number d more (omega arith) within

loosened : (t u : Marks) → Number 0 0 0 t u → Number 0 65536 0 t u
loosened _ u (number d more enough within) = number d more (lit≤ tt) (lit≤ tt)

body_forward : (ls : List Level) (xs : List FormatItem) (k : Option ℕ) (x : FormatItem) (free : Bool) (t rest : Marks) (f : List FormatItem) →
    Body (suc (length ls)) k x free t rest → After ls (xs ++ x ∷ []) free rest f → MovesOn (next_body ls xs k) t f
body_forward ls xs k _ _ _ rest f (integer {w = w} {m = m} {s = s} {t = t} x n l) after =
    begins_integer ls xs k x s f (record { value = w; rest = t; reads = n; behind = record { m = m; rest = rest; reads = l; after = after } })
body_forward ls xs k _ _ _ rest f (logical {w = w} n) after = inl (record { value = w; rest = rest; reads = n; behind = after })
body_forward ls xs k _ _ _ rest f (characters {w = w} {t = t} n) after = begins_characters ls xs k w t rest f n after
body_forward ls xs k _ _ _ rest f (general {w = w} {n = d} {r = r} {s = s} {t = t} n m e) after =
    inl (record {
      value = w;
      rest = symbol Point ∷ s;
      reads = widened 65536 w r (symbol Point ∷ s) n;
      behind = inl ((number_within 1 65536 w r (symbol Point ∷ s) n).0, record { d = d; digits = s; letter = t; rest = rest; point = refl; reads = m; exponent = e; after = after });
    })
body_forward ls xs k _ _ _ rest f (general_alone {t = t} n) after =
    inl (record { value = 0; rest = rest; reads = loosened t rest n; behind = inr (refl, after) })
body_forward ls xs _ _ _ _ rest f (tab {n = n} {t = t} direction turns reads) after =
    inr (record { direction = direction; digits = t; turns = turns; number = record { value = n; rest = rest; reads = reads; behind = after } })
body_forward ls xs k _ _ _ rest f skip after = after
body_forward ls xs k _ _ _ rest f slash after = after
body_forward ls xs _ _ _ _ rest f colon after = after
body_forward ls xs _ _ _ _ rest f (sign_mode {m = m} reads) after = record { mode = m; rest = rest; reads = reads; after = after }
body_forward ls xs _ _ _ _ rest f (blank_mode {m = m} reads) after = inr (record { mode = m; rest = rest; reads = reads; after = after })
body_forward ls xs _ _ _ _ rest f (decimal_mode {m = m} reads) after = record { mode = m; rest = rest; reads = reads; after = after }
body_forward ls xs _ _ _ _ rest f (quoted s) after = after
body_forward ls xs k _ _ _ rest f (group {inner = inner} {t = t} deep i) after =
    into_true (λ o. Moves o t f) (nat_lt (length ls) 31) _ _ (below (length ls) 31 (omega arith))
    (record { items = inner; rest = rest; reads = i; closes = (after.more, after.rest, after.reads, after.closes) })

-- no digit begins an item behind its count
start_of_body : (ls : List Level) (xs : List FormatItem) (t : Marks) (f : List FormatItem) → MovesOn (next_body ls xs None) t f → MovesOn (next_start ls xs) t f
start_of_body ls xs [] f h = h
start_of_body ls xs (symbol s ∷ t) f h = by_symbol ls xs s t f h
  where
    by_symbol : (ls : List Level) (xs : List FormatItem) (s : Symbol) (t : Marks) (f : List FormatItem) → Moves (body ls xs None s) t f → Moves (start ls xs s) t f
    by_symbol ls xs (Digit d) t f h = absurd h
    by_symbol ls xs Star t f h = absurd h
    by_symbol ls xs s t f h = h
start_of_body ls xs (string s ∷ t) f h = h

start_forward : (ls : List Level) (xs : List FormatItem) (x : FormatItem) (free : Bool) (t rest : Marks) (f : List FormatItem) →
    Item (suc (length ls)) x free t rest → After ls (xs ++ x ∷ []) free rest f → MovesOn (next_start ls xs) t f
start_forward ls xs x free t rest f (plain b) after = start_of_body ls xs t f (body_forward ls xs None x free t rest f b after)
start_forward ls xs x free s rest f (counted {r = r} {t = t} n b) after =
    number_forward purpose.Count ls xs s f (next_start ls xs) (λ d. refl)
    (record { value = r; rest = t; reads = n; behind = record { item = x; free = free; rest = rest; reads = b; after = after } })

after_one : (ls : List Level) (xs : List FormatItem) (x : FormatItem) (free : Bool) (more : List FormatItem) (t v : Marks) (f : List FormatItem) →
    More (suc (length ls)) free more t (symbol Close ∷ v) → Closes ls (xs ++ x ∷ more) v f → After ls (xs ++ x ∷ []) free t f
after_one ls xs x free more t v f m c =
    record { more = more; rest = v; reads = m; closes = subst (λ ys. Closes ls ys v f) (sym (append_assoc xs (x ∷ []) more)) c }

-- the unlimited item stands in the outermost parentheses
closes_last : (ls : List Level) (xs : List FormatItem) (v : Marks) (f : List FormatItem) → suc (length ls) ≡ 1 → Closes ls xs v f → f ≡ xs
closes_last [] xs v f d c = c
closes_last (l ∷ ls) xs v f d c = absurd (omega arith)

items_forward : (ls : List Level) (xs ys : List FormatItem) (t v : Marks) (f : List FormatItem) →
    Items (suc (length ls)) ys t (symbol Close ∷ v) → Closes ls (xs ++ ys) v f → MovesOn (next_start ls xs) t f
items_forward ls xs _ t v f (items {x = x} {free = free} {more = more} {t = behind} i m) c =
    start_forward ls xs x free t behind f i (after_one ls xs x free more behind v f m c)
items_forward ls xs _ _ v f (unlimited {inner = inner} {t = t} d i h) c =
    into_true (λ o. Moves o (symbol Open ∷ t) f) (eqb (length ls) 0) _ _ (zero_test (length ls) (omega arith))
    (record { inner = inner; start = t; rest = v; opens = refl; reads = i; data_there = h; is = closes_last ls (xs ++ item.Unlimited inner ∷ []) v f d c })

want_forward : (ls : List Level) (xs : List FormatItem) (t : Marks) (f : List FormatItem) → Want ls xs t f → MovesOn (next_start ls xs) t f
want_forward ls xs t f w = items_forward ls xs w.items t w.rest f w.reads w.closes

closed_forward : (ls : List Level) (xs : List FormatItem) (t : Marks) (f : List FormatItem) → Closes ls xs t f → Moves (closed ls xs) t f
closed_forward [] xs t f c = c
closed_forward (l ∷ ls) xs t f c = by_count l.r ls l.items xs t f c
  where
    by_count : (r : Option ℕ) (ls : List Level) (before xs : List FormatItem) (t : Marks) (f : List FormatItem) → ClosesAs r ls before xs t f → Moves (closed_as r ls before xs) t f
    by_count (Some r) ls before xs t f c = record { more = c.0; rest = c.1; reads = c.2; closes = c.3 }
    by_count None ls before xs t f c = into_true (λ o. Moves o t f) (has_data (pass xs)) _ _ c.0 c.1

-- what begins an item is no comma and no parenthesis that closes
free_forward : (ls : List Level) (xs : List FormatItem) (t : Marks) (f : List FormatItem) → MovesOn (next_start ls xs) t f → MovesOn (next_between true ls xs) t f
free_forward ls xs [] f h = h
free_forward ls xs (symbol s ∷ t) f h = by_symbol ls xs s t f h
  where
    by_symbol : (ls : List Level) (xs : List FormatItem) (s : Symbol) (t : Marks) (f : List FormatItem) → Moves (start ls xs s) t f → Moves (between true ls xs s) t f
    by_symbol ls xs Comma t f h = absurd h
    by_symbol ls xs Close t f h = absurd h
    by_symbol ls xs s t f h = h
free_forward ls xs (string s ∷ t) f h = h

more_forward : (ls : List Level) (xs : List FormatItem) (before : Bool) (more : List FormatItem) (t v : Marks) (f : List FormatItem) →
    More (suc (length ls)) before more t (symbol Close ∷ v) → Closes ls (xs ++ more) v f → MovesOn (next_between before ls xs) t f
more_forward ls xs before _ _ v f none c = closed_forward ls xs v f (subst (λ ys. Closes ls ys v f) (append-nil xs) c)
more_forward ls xs before _ _ v f (some {xs = ys} {t = t} comma i) c = record { items = ys; rest = v; reads = i; closes = c }
more_forward ls xs _ _ _ v f (some {xs = ys} {t = t} behind_free i) c = free_forward ls xs t f (items_forward ls xs ys t v f i c)
more_forward ls xs before _ _ v f (some {xs = ys} {t = t} before_slash i) c = items_forward ls xs ys t v f i c
more_forward ls xs before _ _ v f (some {xs = ys} {t = t} before_colon i) c = items_forward ls xs ys t v f i c

after_forward : (ls : List Level) (xs : List FormatItem) (before : Bool) (t : Marks) (f : List FormatItem) → After ls xs before t f → MovesOn (next_between before ls xs) t f
after_forward ls xs before t f a = more_forward ls xs before a.more t a.rest f a.reads a.closes

-- Behind an item that is no slash and no colon stands one of four symbols.
ended_forward : (ls : List Level) (ys : List FormatItem) (t : Marks) (f : List FormatItem) (next : Mark → Option Reader) →
    next (symbol Comma) ≡ between false ls ys Comma → next (symbol Close) ≡ between false ls ys Close →
    next (symbol Slash) ≡ between false ls ys Slash → next (symbol Colon) ≡ between false ls ys Colon →
    After ls ys false t f → MovesOn next t f
ended_forward ls ys t f next c p s d a = by_mark ls ys t f next c p s d (after_forward ls ys false t f a)
  where
    by_mark : (ls : List Level) (ys : List FormatItem) (t : Marks) (f : List FormatItem) (next : Mark → Option Reader) →
        next (symbol Comma) ≡ between false ls ys Comma → next (symbol Close) ≡ between false ls ys Close →
        next (symbol Slash) ≡ between false ls ys Slash → next (symbol Colon) ≡ between false ls ys Colon →
        MovesOn (next_between false ls ys) t f → MovesOn next t f
    by_mark ls ys [] f next c p s d h = h
    by_mark ls ys (symbol Comma ∷ t) f next c p s d h = subst (λ o. Moves o t f) (sym c) h
    by_mark ls ys (symbol Close ∷ t) f next c p s d h = subst (λ o. Moves o t f) (sym p) h
    by_mark ls ys (symbol Slash ∷ t) f next c p s d h = subst (λ o. Moves o t f) (sym s) h
    by_mark ls ys (symbol Colon ∷ t) f next c p s d h = subst (λ o. Moves o t f) (sym d) h
    by_mark ls ys (symbol _ ∷ t) f next c p s d h = absurd h
    by_mark ls ys (string _ ∷ t) f next c p s d h = absurd h

-- ---- behind a number

abbrev next_behind : Purpose → ℕ → List Level → List FormatItem → Mark → Option Reader
next_behind p n ls xs (symbol s) = behind p n ls xs s
next_behind p n ls xs (string s) = None

integer_behind : (k : Option ℕ) (x : Radix) (w : ℕ) (m : Option ℕ) (ls : List Level) (xs : List FormatItem) (t rest : Marks) (f : List FormatItem) →
    Least w m t rest → After ls (xs ++ item.Field (times k) (integer_edit x w m) ∷ []) false rest f →
    MovesOn (next_behind (purpose.Width k (Integer x)) w ls xs) t f
integer_behind k x w _ ls xs t _ f no_least after =
    ended_forward ls (xs ++ item.Field (times k) (integer_edit x w None) ∷ []) t f (next_behind (purpose.Width k (Integer x)) w ls xs) refl refl refl refl after
integer_behind k x w _ ls xs _ rest f (least {m = m} n) after = inl (record { value = m; rest = rest; reads = n; behind = after })

decimals_behind : (r w d : ℕ) (ls : List Level) (xs : List FormatItem) (t rest : Marks) (f : List FormatItem) →
    Exponent t rest → After ls (xs ++ item.Field r (General w d) ∷ []) false rest f → MovesOn (next_behind (purpose.Decimals r w) d ls xs) t f
decimals_behind r w d ls xs t _ f no_exponent after =
    ended_forward ls (xs ++ item.Field r (General w d) ∷ []) t f (next_behind (purpose.Decimals r w) d ls xs) refl refl refl refl after
decimals_behind r w d ls xs _ rest f (exponent {e = e} n) after = inl (record { value = e; rest = rest; reads = n; behind = after })

-- behind a count
count_behind : (n : ℕ) (ls : List Level) (xs : List FormatItem) (t : Marks) (f : List FormatItem) →
    MovesOn (next_body ls xs (Some n)) t f → MovesOn (next_behind purpose.Count n ls xs) t f
count_behind n ls xs [] f h = h
count_behind n ls xs (symbol s ∷ t) f h = h
count_behind n ls xs (string s ∷ t) f h = h

-- behind G0
zero_behind : (k : Option ℕ) (n : ℕ) (ls : List Level) (xs : List FormatItem) (t : Marks) (f : List FormatItem) → n ≡ 0 →
    After ls (xs ++ item.Field (times k) (General n 0) ∷ []) false t f → MovesOn (next_behind (purpose.Width k Generalized) n ls xs) t f
zero_behind k n ls xs t f is after =
    let P : ℕ → Type 0 = λ m. After ls (xs ++ item.Field (times k) (General m 0) ∷ []) false t f → MovesOn (next_behind (purpose.Width k Generalized) m ls xs) t f in
    subst P (sym is) (λ a. ended_forward ls (xs ++ item.Field (times k) (General 0 0) ∷ []) t f (next_behind (purpose.Width k Generalized) 0 ls xs) refl refl refl refl a) after

width_behind : (kind : FieldKind) (k : Option ℕ) (n : ℕ) (ls : List Level) (xs : List FormatItem) (t : Marks) (f : List FormatItem) →
    BehindWidth kind k n ls xs t f → MovesOn (next_behind (purpose.Width k kind) n ls xs) t f
width_behind (Integer x) k n ls xs t f h = integer_behind k x n h.m ls xs t h.rest f h.reads h.after
width_behind Logical k n ls xs t f h =
    ended_forward ls (xs ++ item.Field (times k) (Log n) ∷ []) t f (next_behind (purpose.Width k Logical) n ls xs) refl refl refl refl h
width_behind Characters k n ls xs t f h =
    ended_forward ls (xs ++ item.Field (times k) (Chars (Some n)) ∷ []) t f (next_behind (purpose.Width k Characters) n ls xs) refl refl refl refl h
width_behind Generalized k n ls xs t f (inl b) =
    let h = b.1 in
    let P : Marks → Type 0 = λ l. MovesOn (next_behind (purpose.Width k Generalized) n ls xs) l f in
    subst P (sym h.point)
    (into_false (λ o. Moves o h.digits f) (eqb n 0) _ _ (positive_test n b.0)
    (inl (record { value = h.d; rest = h.letter; reads = h.reads; behind = record { rest = h.rest; exponent = h.exponent; after = h.after } })))
width_behind Generalized k n ls xs t f (inr b) = zero_behind k n ls xs t f b.0 b.1

behind_forward : (p : Purpose) (n : ℕ) (ls : List Level) (xs : List FormatItem) (t : Marks) (f : List FormatItem) →
    BehindNumber p n ls xs t f → MovesOn (next_behind p n ls xs) t f
behind_forward purpose.Count n ls xs t f b = count_behind n ls xs t f (body_forward ls xs (Some n) b.item b.free t b.rest f b.reads b.after)
behind_forward (purpose.Width k kind) n ls xs t f b = width_behind kind k n ls xs t f b
behind_forward (purpose.LeastDigits r x w) n ls xs t f b =
    ended_forward ls (xs ++ item.Field r (integer_edit x w (Some n)) ∷ []) t f (next_behind (purpose.LeastDigits r x w) n ls xs) refl refl refl refl b
behind_forward (purpose.Decimals r w) n ls xs t f b = decimals_behind r w n ls xs t b.rest f b.exponent b.after
behind_forward (purpose.ExponentDigits r w d) n ls xs t f b =
    ended_forward ls (xs ++ item.Field r (General w d) ∷ []) t f (next_behind (purpose.ExponentDigits r w d) n ls xs) refl refl refl refl b
behind_forward (purpose.Tabs direction) n ls xs t f b =
    ended_forward ls (xs ++ moved direction n ∷ []) t f (next_behind (purpose.Tabs direction) n ls xs) refl refl refl refl b

-- no digit stands behind a number
no_digit : (p : Purpose) (n : ℕ) (ls : List Level) (xs : List FormatItem) (d : ℕ) (t : Marks) (f : List FormatItem) → Moves (behind p n ls xs (Digit d)) t f → ⊥
no_digit purpose.Count n ls xs d t f h = h
no_digit (purpose.Width k (Integer x)) n ls xs d t f h = h
no_digit (purpose.Width k Logical) n ls xs d t f h = h
no_digit (purpose.Width k Characters) n ls xs d t f h = h
no_digit (purpose.Width k Generalized) n ls xs d t f h = elim (either (λ o. Moves o t f) (eqb n 0) _ _ h) [ inl e ↦ e.1 | inr e ↦ e.1 ]
no_digit (purpose.LeastDigits r x w) n ls xs d t f h = h
no_digit (purpose.Decimals r w) n ls xs d t f h = h
no_digit (purpose.ExponentDigits r w e) n ls xs d t f h = h
no_digit (purpose.Tabs direction) n ls xs d t f h = h

-- ---- a step forward from each place

abbrev pub next_mark : FormatPlace → List Level → List FormatItem → Mark → Option Reader
next_mark p ls xs (symbol s) = next_at p ls xs s
next_mark p ls xs (string s) = next_text_at p ls xs s

number_ends : (p : Purpose) (n : ℕ) (ls : List Level) (xs : List FormatItem) (t : Marks) (f : List FormatItem) → smallest p ≤ n →
    MovesOn (next_behind p n ls xs) t f → MovesOn (next_mark (place.More p n) ls xs) t f
number_ends p n ls xs [] f e h = h
number_ends p n ls xs (symbol s ∷ t) f e h = by_symbol p n ls xs s t f e h
  where
    by_symbol : (p : Purpose) (n : ℕ) (ls : List Level) (xs : List FormatItem) (s : Symbol) (t : Marks) (f : List FormatItem) → smallest p ≤ n →
        Moves (behind p n ls xs s) t f → Moves (next_at (place.More p n) ls xs s) t f
    by_symbol p n ls xs (Digit d) t f e h = absurd (no_digit p n ls xs d t f h)
    by_symbol p n ls xs s t f e h = into_false (λ o. Moves o t f) (nat_lt n (smallest p)) _ _ (not_below n (smallest p) e) h
number_ends p n ls xs (string s ∷ t) f e h = absurd h

more_digits : (p : Purpose) (n value : ℕ) (ls : List Level) (xs : List FormatItem) (t rest : Marks) (f : List FormatItem) →
    Digits n value t rest → smallest p ≤ value → value ≤ greatest p → BehindNumber p value ls xs rest f → MovesOn (next_mark (place.More p n) ls xs) t f
more_digits p n _ ls xs t _ f stop enough within b = number_ends p n ls xs t f enough (behind_forward p n ls xs t f b)
more_digits p n value ls xs _ rest f (digit {t = t} d more) enough within b =
    grown_forward p (10 * n + d) ls xs t f (record { value = value; rest = rest; reads = more; enough = enough; within = within; behind = b })

blank_forward : (k : Option ℕ) (ls : List Level) (xs : List FormatItem) (m : ModeStep) (t rest : Marks) (f : List FormatItem) →
    Blank m t rest → After ls (xs ++ item.Mode m ∷ []) false rest f → MovesOn (next_mark (place.First (purpose.Width None (Integer Two))) ls xs) t f
blank_forward k ls xs _ _ rest f blank_null after = after
blank_forward k ls xs _ _ rest f blank_zero after = after

turn_forward : (ls : List Level) (xs : List FormatItem) (direction : Tabbing) (t digits : Marks) (f : List FormatItem) →
    Turn direction t digits → InNumber (purpose.Tabs direction) ls xs digits f → MovesOn (next_mark (place.First (purpose.Tabs To)) ls xs) t f
turn_forward ls xs _ t _ f turn_to i = number_forward (purpose.Tabs To) ls xs t f (next_mark (place.First (purpose.Tabs To)) ls xs) (λ d. refl) i
turn_forward ls xs _ _ digits f turn_left i = inl i
turn_forward ls xs _ _ digits f turn_right i = inl i

instead_of_width_forward : (kind : FieldKind) (k : Option ℕ) (ls : List Level) (xs : List FormatItem) (t : Marks) (f : List FormatItem) →
    InsteadOfWidth kind k ls xs t f → MovesOn (next_mark (place.First (purpose.Width k kind)) ls xs) t f
instead_of_width_forward Characters k ls xs t f h =
    ended_forward ls (xs ++ item.Field (times k) (Chars None) ∷ []) t f (next_mark (place.First (purpose.Width k Characters)) ls xs) refl refl refl refl h
instead_of_width_forward (Integer Two) None ls xs t f h = blank_forward None ls xs h.mode t h.rest f h.reads h.after
instead_of_width_forward (Integer Two) (Some r) ls xs t f h = absurd h
instead_of_width_forward _ k ls xs t f h = absurd h

instead_forward : (p : Purpose) (ls : List Level) (xs : List FormatItem) (t : Marks) (f : List FormatItem) →
    Instead p ls xs t f → MovesOn (next_mark (place.First p) ls xs) t f
instead_forward (purpose.Width k kind) ls xs t f h = instead_of_width_forward kind k ls xs t f h
instead_forward (purpose.Tabs To) ls xs t f h = turn_forward ls xs h.direction t h.digits f h.turns h.number
instead_forward _ ls xs t f h = absurd h

sign_forward : (ls : List Level) (xs : List FormatItem) (m : ModeStep) (t rest : Marks) (f : List FormatItem) →
    Sign m t rest → After ls (xs ++ item.Mode m ∷ []) false rest f → MovesOn (next_mark place.SignLetter ls xs) t f
sign_forward ls xs _ t _ f sign_usual after =
    ended_forward ls (xs ++ item.Mode step.Usual ∷ []) t f (next_mark place.SignLetter ls xs) refl refl refl refl after
sign_forward ls xs _ _ rest f sign_plus after = after
sign_forward ls xs _ _ rest f sign_suppress after = after

decimal_forward : (ls : List Level) (xs : List FormatItem) (m : ModeStep) (t rest : Marks) (f : List FormatItem) →
    Decimal m t rest → After ls (xs ++ item.Mode m ∷ []) false rest f → MovesOn (next_mark place.DecimalLetter ls xs) t f
decimal_forward ls xs _ _ rest f decimal_comma after = after
decimal_forward ls xs _ _ rest f decimal_point after = after

opened_forward : (ls : List Level) (xs : List FormatItem) (t : Marks) (f : List FormatItem) → MovesOn (next_start ls xs) t f → MovesOn (next_mark place.Opened ls xs) t f
opened_forward ls xs [] f h = h
opened_forward ls xs (symbol s ∷ t) f h = by_symbol ls xs s t f h
  where
    by_symbol : (ls : List Level) (xs : List FormatItem) (s : Symbol) (t : Marks) (f : List FormatItem) → Moves (start ls xs s) t f → Moves (next_at place.Opened ls xs s) t f
    by_symbol ls xs Close t f h = absurd h
    by_symbol ls xs s t f h = h
opened_forward ls xs (string s ∷ t) f h = h

wanted_forward : (ls : List Level) (xs : List FormatItem) (t : Marks) (f : List FormatItem) → MovesOn (next_start ls xs) t f → MovesOn (next_mark place.Wanted ls xs) t f
wanted_forward ls xs [] f h = h
wanted_forward ls xs (symbol s ∷ t) f h = h
wanted_forward ls xs (string s ∷ t) f h = h

behind_item_forward : (free : Bool) (ls : List Level) (xs : List FormatItem) (t : Marks) (f : List FormatItem) →
    MovesOn (next_between free ls xs) t f → MovesOn (next_mark (place.Behind free) ls xs) t f
behind_item_forward free ls xs [] f h = h
behind_item_forward free ls xs (symbol s ∷ t) f h = h
behind_item_forward free ls xs (string s ∷ t) f h = h

starred_forward : (ls : List Level) (xs : List FormatItem) (t : Marks) (f : List FormatItem) → InStar ls xs t f → MovesOn (next_mark place.Starred ls xs) t f
starred_forward ls xs t f i =
    let P : Marks → Type 0 = λ l. MovesOn (next_mark place.Starred ls xs) l f in
    subst P (sym i.opens) (record { items = i.inner; rest = symbol Close ∷ i.rest; reads = i.reads; closes = (i.data_there, (i.rest, refl, i.is)) })

closing_forward : (ls : List Level) (xs : List FormatItem) (t : Marks) (f : List FormatItem) → Ends xs t f → MovesOn (next_mark place.Closing ls xs) t f
closing_forward ls xs t f (u, e, is) = let P : Marks → Type 0 = λ l. MovesOn (next_mark place.Closing ls xs) l f in subst P (sym e) is

-- What is left to be read goes on by the reader's step. The place is not the last one.
pub forward : (p : FormatPlace) (ls : List Level) (xs : List FormatItem) (t : Marks) (f : List FormatItem) → Rest p ls xs t f → p ≢ place.Done → MovesOn (next_mark p ls xs) t f
forward place.Begin ls xs t f (t', e, h) q = let P : Marks → Type 0 = λ l. MovesOn (next_mark place.Begin ls xs) l f in subst P (sym e) h
forward place.Opened ls xs t f (inl (u, e, h)) q = let P : Marks → Type 0 = λ l. MovesOn (next_mark place.Opened ls xs) l f in subst P (sym e) h
forward place.Opened ls xs t f (inr w) q = opened_forward ls xs t f (want_forward ls xs t f w)
forward place.Wanted ls xs t f w q = wanted_forward ls xs t f (want_forward ls xs t f w)
forward (place.Behind free) ls xs t f a q = behind_item_forward free ls xs t f (after_forward ls xs free t f a)
forward (place.First p) ls xs t f (inl i) q = number_forward p ls xs t f (next_mark (place.First p) ls xs) (λ d. refl) i
forward (place.First p) ls xs t f (inr i) q = instead_forward p ls xs t f i
forward (place.More p n) ls xs t f i q = more_digits p n i.value ls xs t i.rest f i.reads i.enough i.within i.behind
forward place.SignLetter ls xs t f i q = sign_forward ls xs i.mode t i.rest f i.reads i.after
forward place.DecimalLetter ls xs t f i q = decimal_forward ls xs i.mode t i.rest f i.reads i.after
forward place.Starred ls xs t f i q = starred_forward ls xs t f i
forward place.Closing ls xs t f e q = closing_forward ls xs t f e
forward place.Done ls xs t f h q = absurd (q refl)
