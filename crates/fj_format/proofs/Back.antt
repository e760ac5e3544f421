-- The reader's step leads to what was left to be read before it.
use Rattle.std.proofs.Common.{ℕ, suc, ◌+◌, ◌*◌, ◌≡◌, ◌<◌, ◌≤◌, Bool, true, false, List, [], ◌∷◌, ◌++◌, length, Option, Some, None, inl, inr, refl, sym, subst, arith, append_assoc, append-nil, nat_lt, nat_le, eqb, lit≤}
use Rattle.fj_value.specs.declared.edit.Edit.TheVariants.{Log, Chars, General}
use Rattle.fj_format.specs.declared.item.ModeStep.TheVariants as step
use Rattle.fj_format.specs.declared.item.FormatItem.{FormatItem}
use Rattle.fj_format.specs.declared.item.FormatItem.TheVariants as item
use Rattle.fj_format.specs.declared.level.Level.{Level}
use Rattle.fj_format.specs.declared.place.Radix.{Radix}
use Rattle.fj_format.specs.declared.place.Radix.TheVariants.{Two, Eight, Ten, Sixteen}
use Rattle.fj_format.specs.declared.place.FieldKind.{FieldKind}
use Rattle.fj_format.specs.declared.place.FieldKind.TheVariants.{Integer, Logical, Characters, Generalized}
use Rattle.fj_format.specs.declared.place.Tabbing.TheVariants.{To, Left, Right}
use Rattle.fj_format.specs.declared.place.Purpose.{Purpose}
use Rattle.fj_format.specs.declared.place.Purpose.TheVariants as purpose
use Rattle.fj_format.specs.declared.place.FormatPlace.{FormatPlace}
use Rattle.fj_format.specs.declared.place.FormatPlace.TheVariants as place
use Rattle.fj_format.specs.declared.symbol.Letter.{Letter}
use Rattle.fj_format.specs.declared.symbol.Letter.TheVariants.{A, B, C, D, E, G, I, L, N, O, P, R, S, T, X, Z}
use Rattle.fj_format.specs.declared.symbol.Symbol.{Symbol}
use Rattle.fj_format.specs.declared.symbol.Symbol.TheVariants.{Digit, Open, Close, Comma, Point, Slash, Colon, Star}
use Rattle.fj_format.specs.declared.symbol.Symbol.TheVariants as character
use Rattle.fj_format.specs.Marks.{Marks, symbol, string}
use Rattle.fj_format.specs.Grammar.{stop, digit, Number, number, times, letter, radix_letter, integer_edit, moved, no_least, least, no_width, width, no_exponent, exponent, sign_usual, sign_plus, sign_suppress, blank_null, blank_zero, decimal_comma, decimal_point, turn_to, turn_left, turn_right, Separator, comma, behind_free, before_slash, before_colon, Item, Items, plain, counted, integer, logical, characters, general, general_alone, tab, skip, slash, colon, sign_mode, blank_mode, decimal_mode, quoted, group, items, unlimited, none, some}
use Rattle.fj_format.specs.Unfolding.{pass, has_data}
use Rattle.fj_format.specs.Reading.{smallest, greatest, at, alone, grown, opens, closed_as, closed, closing, stars, starred, by_letter, body, start, between, ended, decimals_at, behind_general, behind_width, behind_decimals, behind, blank_letter, tab_letter, instead_of_width, instead, sign_letter, decimal_letter, next_at, takes_text}
use Rattle.fj_format.proofs.Choices.{either, less, not_less, is_zero, not_zero}
use Rattle.fj_format.proofs.Rest.{Ends, Closes, ClosesAs, After, Want, WantBody, BehindGeneral, BehindWidth, BehindNumber, InDigits, InNumber, InBlank, InSign, InDecimal, InTurn, InStar, AloneBlank, Instead, Rest, Moves}

-- the numbers stay within their limits
abbrev pub IsValid : FormatPlace → Type 0
IsValid (place.More p n) = n ≤ greatest p
IsValid _ = Unit {0}

-- ---- numbers

grown_back : (p : Purpose) (n : ℕ) (ls : List Level) (xs : List FormatItem) (t : Marks) (f : List FormatItem) →
    Moves (grown p n ls xs) t f → InDigits p n ls xs t f
grown_back p n ls xs t f h = elim (either (λ o. Moves o t f) (nat_le n (greatest p)) _ _ h) [ inl e ↦ e.1 | inr e ↦ absurd e.1 ]

first_back : (p : Purpose) (d : ℕ) (ls : List Level) (xs : List FormatItem) (t : Marks) (f : List FormatItem) →
    Moves (grown p d ls xs) t f → InNumber p ls xs (symbol (Digit d) ∷ t) f
first_back p d ls xs t f h =
    let i = grown_back p d ls xs t f h in
    record { value = i.value; rest = i.rest; reads = number d i.reads i.enough i.within; behind = i.behind }

-- ---- items

integer_back : (x : Radix) (ls : List Level) (xs : List FormatItem) (k : Option ℕ) (t : Marks) (f : List FormatItem) →
    InNumber (purpose.Width k (Integer x)) ls xs t f → WantBody ls xs k (letter (radix_letter x) ∷ t) f
integer_back x ls xs k t f i =
    record { item = item.Field (times k) (integer_edit x i.value i.behind.m); free = false; rest = i.behind.rest; reads = integer x i.reads i.behind.reads; after = i.behind.after }

blank_back : (ls : List Level) (xs : List FormatItem) (k : Option ℕ) (t : Marks) (f : List FormatItem) →
    AloneBlank k ls xs t f → WantBody ls xs k (letter B ∷ t) f
blank_back ls xs None t f i = record { item = item.Mode i.mode; free = false; rest = i.rest; reads = blank_mode i.reads; after = i.after }
blank_back ls xs (Some r) t f i = absurd i

sign_back : (ls : List Level) (xs : List FormatItem) (k : Option ℕ) (t : Marks) (f : List FormatItem) →
    Moves (alone k (at ls xs place.SignLetter)) t f → WantBody ls xs k (letter S ∷ t) f
sign_back ls xs None t f i = record { item = item.Mode i.mode; free = false; rest = i.rest; reads = sign_mode i.reads; after = i.after }
sign_back ls xs (Some r) t f i = absurd i

decimal_back : (ls : List Level) (xs : List FormatItem) (k : Option ℕ) (t : Marks) (f : List FormatItem) →
    Moves (alone k (at ls xs place.DecimalLetter)) t f → WantBody ls xs k (letter D ∷ t) f
decimal_back ls xs None t f i = record { item = item.Mode i.mode; free = false; rest = i.rest; reads = decimal_mode i.reads; after = i.after }
decimal_back ls xs (Some r) t f i = absurd i

tab_back : (ls : List Level) (xs : List FormatItem) (k : Option ℕ) (t : Marks) (f : List FormatItem) →
    Moves (alone k (at ls xs (place.First (purpose.Tabs To)))) t f → WantBody ls xs k (letter T ∷ t) f
tab_back ls xs None t f (inl i) = record { item = item.Tab i.value; free = false; rest = i.rest; reads = tab To turn_to i.reads; after = i.behind }
tab_back ls xs None t f (inr i) =
    record { item = moved i.direction i.number.value; free = false; rest = i.number.rest; reads = tab i.direction i.turns i.number.reads; after = i.number.behind }
tab_back ls xs (Some r) t f i = absurd i

characters_back : (ls : List Level) (xs : List FormatItem) (k : Option ℕ) (t : Marks) (f : List FormatItem) →
    Rest (place.First (purpose.Width k Characters)) ls xs t f → WantBody ls xs k (letter A ∷ t) f
characters_back ls xs k t f (inl i) =
    record { item = item.Field (times k) (Chars (Some i.value)); free = false; rest = i.rest; reads = characters (width i.reads); after = i.behind }
characters_back ls xs k t f (inr a) = record { item = item.Field (times k) (Chars None); free = false; rest = t; reads = characters no_width; after = a }

narrowed : (greatest n : ℕ) (t u : Marks) → 1 ≤ n → Number 0 greatest n t u → Number 1 greatest n t u
narrowed greatest n _ u positive (number d more enough within) = number d more positive within

zeroed : (greatest n : ℕ) (t u : Marks) → n ≡ 0 → Number 0 greatest n t u → Number 0 0 0 t u
zeroed greatest n t u is reads = alone_zero greatest t u (subst (λ m. Number 0 greatest m t u) is reads)
  where
    alone_zero : (greatest : ℕ) (t u : Marks) → Number 0 greatest 0 t u → Number 0 0 0 t u
    alone_zero greatest _ u (number d more enough within) = number d more (lit≤ tt) (lit≤ tt)

general_back : (ls : List Level) (xs : List FormatItem) (k : Option ℕ) (t : Marks) (f : List FormatItem) →
    InNumber (purpose.Width k Generalized) ls xs t f → WantBody ls xs k (letter G ∷ t) f
general_back ls xs k t f i = by_width i.value i.rest i.reads i.behind
  where
    by_width : (w : ℕ) (v : Marks) → Number 0 65536 w t v → BehindWidth Generalized k w ls xs v f → WantBody ls xs k (letter G ∷ t) f
    by_width w v reads (inl b) = record {
      item = item.Field (times k) (General w b.1.d);
      free = false;
      rest = b.1.rest;
      reads = general (subst (λ l. Number 1 65536 w t l) b.1.point (narrowed 65536 w t v b.0 reads)) b.1.reads b.1.exponent;
      after = b.1.after;
    }
    by_width w v reads (inr b) = record {
      item = item.Field (times k) (General 0 0);
      free = false;
      rest = v;
      reads = general_alone (zeroed 65536 w t v b.0 reads);
      after = subst (λ n. After ls (xs ++ item.Field (times k) (General n 0) ∷ []) false v f) b.0 b.1;
    }

letter_back : (ls : List Level) (xs : List FormatItem) (k : Option ℕ) (l : Letter) (t : Marks) (f : List FormatItem) →
    Moves (by_letter ls xs k l) t f → WantBody ls xs k (letter l ∷ t) f
letter_back ls xs k A t f h = characters_back ls xs k t f h
letter_back ls xs k B t f (inl i) = integer_back Two ls xs k t f i
letter_back ls xs k B t f (inr i) = blank_back ls xs k t f i
letter_back ls xs k D t f h = decimal_back ls xs k t f h
letter_back ls xs k G t f (inl i) = general_back ls xs k t f i
letter_back ls xs k G t f (inr i) = absurd i
letter_back ls xs k I t f (inl i) = integer_back Ten ls xs k t f i
letter_back ls xs k I t f (inr i) = absurd i
letter_back ls xs k L t f (inl i) = record { item = item.Field (times k) (Log i.value); free = false; rest = i.rest; reads = logical i.reads; after = i.behind }
letter_back ls xs k L t f (inr i) = absurd i
letter_back ls xs k O t f (inl i) = integer_back Eight ls xs k t f i
letter_back ls xs k O t f (inr i) = absurd i
letter_back ls xs k S t f h = sign_back ls xs k t f h
letter_back ls xs k T t f h = tab_back ls xs k t f h
letter_back ls xs k X t f a = record { item = item.Skip (times k); free = false; rest = t; reads = skip; after = a }
letter_back ls xs k Z t f (inl i) = integer_back Sixteen ls xs k t f i
letter_back ls xs k Z t f (inr i) = absurd i
letter_back ls xs k _ t f h = absurd h

colon_back : (ls : List Level) (xs : List FormatItem) (k : Option ℕ) (t : Marks) (f : List FormatItem) →
    Moves (alone k (at ls (xs ++ item.Colon ∷ []) (place.Behind true))) t f → WantBody ls xs k (symbol Colon ∷ t) f
colon_back ls xs None t f a = record { item = item.Colon; free = true; rest = t; reads = colon; after = a }
colon_back ls xs (Some r) t f a = absurd a

group_back : (ls : List Level) (xs : List FormatItem) (k : Option ℕ) (t : Marks) (f : List FormatItem) →
    Moves (opens ls xs (times k)) t f → WantBody ls xs k (symbol Open ∷ t) f
group_back ls xs k t f h =
    elim (either (λ o. Moves o t f) (nat_lt (length ls) 31) _ _ h) [
      | inl p ↦
          let w : Want (record { r = Some (times k); items = xs } ∷ ls) [] t f = p.1 in
          let deep : suc (length ls) < 32 = (let l : length ls < 31 = less (length ls) 31 p.0 in omega arith) in
          record {
            item = item.Group (times k) w.items;
            free = false;
            rest = w.rest;
            reads = group deep w.reads;
            after = record { more = w.closes.0; rest = w.closes.1; reads = w.closes.2; closes = w.closes.3 };
          }
      | inr p ↦ absurd p.1
    ]

body_back : (ls : List Level) (xs : List FormatItem) (k : Option ℕ) (s : Symbol) (t : Marks) (f : List FormatItem) →
    Moves (body ls xs k s) t f → WantBody ls xs k (symbol s ∷ t) f
body_back ls xs k (character.Letter l) t f h = letter_back ls xs k l t f h
body_back ls xs k Slash t f a = record { item = item.Slash (times k); free = true; rest = t; reads = slash; after = a }
body_back ls xs k Open t f h = group_back ls xs k t f h
body_back ls xs k Colon t f h = colon_back ls xs k t f h
body_back ls xs k _ t f h = absurd h

want_of : (ls : List Level) (xs : List FormatItem) (x : FormatItem) (free : Bool) (t rest : Marks) (f : List FormatItem) →
    Item (suc (length ls)) x free t rest → After ls (xs ++ x ∷ []) free rest f → Want ls xs t f
want_of ls xs x free t rest f i after = record {
  items = x ∷ after.more;
  rest = after.rest;
  reads = items i after.reads;
  closes = subst (λ ys. Closes ls ys after.rest f) (append_assoc xs (x ∷ []) after.more) after.closes;
}

plain_back : (ls : List Level) (xs : List FormatItem) (t : Marks) (f : List FormatItem) → WantBody ls xs None t f → Want ls xs t f
plain_back ls xs t f b = want_of ls xs b.item b.free t b.rest f (plain b.reads) b.after

-- the unlimited item stands in the outermost parentheses
last_closes : (ls : List Level) (xs : List FormatItem) (v : Marks) (f : List FormatItem) → length ls ≡ 0 → f ≡ xs → Closes ls xs v f
last_closes [] xs v f top is = is
last_closes (l ∷ ls) xs v f top is = absurd (omega arith)

star_back : (ls : List Level) (xs : List FormatItem) (t : Marks) (f : List FormatItem) → length ls ≡ 0 → InStar ls xs t f → Want ls xs (symbol Star ∷ t) f
star_back ls xs t f top i = record {
  items = item.Unlimited i.inner ∷ [];
  rest = i.rest;
  reads = subst (λ l. Items (suc (length ls)) (item.Unlimited i.inner ∷ []) (symbol Star ∷ l) (symbol Close ∷ i.rest)) (sym i.opens) (unlimited (omega arith) i.reads i.data_there);
  closes = last_closes ls (xs ++ item.Unlimited i.inner ∷ []) i.rest f top i.is;
}

stars_back : (ls : List Level) (xs : List FormatItem) (t : Marks) (f : List FormatItem) → Moves (stars ls xs) t f → Want ls xs (symbol Star ∷ t) f
stars_back ls xs t f h =
    elim (either (λ o. Moves o t f) (eqb (length ls) 0) _ _ h) [ inl e ↦ star_back ls xs t f (is_zero (length ls) e.0) e.1 | inr e ↦ absurd e.1 ]

start_back : (ls : List Level) (xs : List FormatItem) (s : Symbol) (t : Marks) (f : List FormatItem) →
    Moves (start ls xs s) t f → Want ls xs (symbol s ∷ t) f
start_back ls xs (Digit d) t f h =
    let i = first_back purpose.Count d ls xs t f h in
    want_of ls xs i.behind.item i.behind.free (symbol (Digit d) ∷ t) i.behind.rest f (counted i.reads i.behind.reads) i.behind.after
start_back ls xs Star t f h = stars_back ls xs t f h
start_back ls xs s t f h = plain_back ls xs (symbol s ∷ t) f (body_back ls xs None s t f h)

closed_back : (ls : List Level) (xs : List FormatItem) (t : Marks) (f : List FormatItem) → Moves (closed ls xs) t f → Closes ls xs t f
closed_back [] xs t f c = c
closed_back (l ∷ ls) xs t f h = by_count l.r ls l.items xs t f h
  where
    by_count : (r : Option ℕ) (ls : List Level) (before xs : List FormatItem) (t : Marks) (f : List FormatItem) → Moves (closed_as r ls before xs) t f → ClosesAs r ls before xs t f
    by_count (Some r) ls before xs t f a = (a.more, a.rest, a.reads, a.closes)
    by_count None ls before xs t f h = elim (either (λ o. Moves o t f) (has_data (pass xs)) _ _ h) [ inl e ↦ e | inr e ↦ absurd e.1 ]

more_back : (ls : List Level) (xs : List FormatItem) (before : Bool) (t u : Marks) (f : List FormatItem) → Separator before t u → Want ls xs u f → After ls xs before t f
more_back ls xs before t u f s w = record { more = w.items; rest = w.rest; reads = some s w.reads; closes = w.closes }

between_back : (ls : List Level) (xs : List FormatItem) (before : Bool) (s : Symbol) (t : Marks) (f : List FormatItem) →
    Moves (between before ls xs s) t f → After ls xs before (symbol s ∷ t) f
between_back ls xs before Comma t f h = more_back ls xs before (symbol Comma ∷ t) t f comma h
between_back ls xs before Close t f h =
    record { more = []; rest = t; reads = none; closes = subst (λ ys. Closes ls ys t f) (sym (append-nil xs)) (closed_back ls xs t f h) }
between_back ls xs before Slash t f h = more_back ls xs before (symbol Slash ∷ t) (symbol Slash ∷ t) f before_slash (start_back ls xs Slash t f h)
between_back ls xs before Colon t f h = more_back ls xs before (symbol Colon ∷ t) (symbol Colon ∷ t) f before_colon (start_back ls xs Colon t f h)
between_back ls xs true s t f h = more_back ls xs true (symbol s ∷ t) (symbol s ∷ t) f behind_free (start_back ls xs s t f h)
between_back ls xs false s t f h = absurd h

ended_back : (ls : List Level) (xs : List FormatItem) (x : FormatItem) (s : Symbol) (t : Marks) (f : List FormatItem) →
    Moves (ended ls xs x s) t f → After ls (xs ++ x ∷ []) false (symbol s ∷ t) f
ended_back ls xs x s t f h = between_back ls (xs ++ x ∷ []) false s t f h

-- ---- behind a number

point_back : (k : Option ℕ) (x : Radix) (w : ℕ) (ls : List Level) (xs : List FormatItem) (t : Marks) (f : List FormatItem) →
    Rest (place.First (purpose.LeastDigits (times k) x w)) ls xs t f → BehindNumber (purpose.Width k (Integer x)) w ls xs (symbol Point ∷ t) f
point_back k x w ls xs t f (inl i) = record { m = Some i.value; rest = i.rest; reads = least i.reads; after = i.behind }
point_back k x w ls xs t f (inr i) = absurd i

decimals_at_back : (k : Option ℕ) (n : ℕ) (ls : List Level) (xs : List FormatItem) (s : Symbol) (t : Marks) (f : List FormatItem) →
    Moves (decimals_at (times k) n ls xs s) t f → BehindGeneral k n ls xs (symbol s ∷ t) f
decimals_at_back k n ls xs Point t f (inl i) =
    record { d = i.value; digits = t; letter = i.rest; rest = i.behind.rest; point = refl; reads = i.reads; exponent = i.behind.exponent; after = i.behind.after }
decimals_at_back k n ls xs Point t f (inr i) = absurd i
decimals_at_back k n ls xs _ t f h = absurd h

general_width_back : (k : Option ℕ) (n : ℕ) (ls : List Level) (xs : List FormatItem) (s : Symbol) (t : Marks) (f : List FormatItem) →
    Moves (behind_general (times k) n ls xs s) t f → BehindWidth Generalized k n ls xs (symbol s ∷ t) f
general_width_back k n ls xs s t f h =
    elim (either (λ o. Moves o t f) (eqb n 0) _ _ h) [
      | inl e ↦ inr (is_zero n e.0, ended_back ls xs (item.Field (times k) (General n 0)) s t f e.1)
      | inr e ↦ inl (not_zero n e.0, decimals_at_back k n ls xs s t f e.1)
    ]

width_back : (kind : FieldKind) (k : Option ℕ) (n : ℕ) (ls : List Level) (xs : List FormatItem) (s : Symbol) (t : Marks) (f : List FormatItem) →
    Moves (behind_width k kind n ls xs s) t f → BehindNumber (purpose.Width k kind) n ls xs (symbol s ∷ t) f
width_back (Integer x) k n ls xs Point t f h = point_back k x n ls xs t f h
width_back (Integer x) k n ls xs s t f h =
    record { m = None; rest = symbol s ∷ t; reads = no_least; after = ended_back ls xs (item.Field (times k) (integer_edit x n None)) s t f h }
width_back Logical k n ls xs s t f h = ended_back ls xs (item.Field (times k) (Log n)) s t f h
width_back Characters k n ls xs s t f h = ended_back ls xs (item.Field (times k) (Chars (Some n))) s t f h
width_back Generalized k n ls xs s t f h = general_width_back k n ls xs s t f h

exponent_back : (r w d : ℕ) (ls : List Level) (xs : List FormatItem) (t : Marks) (f : List FormatItem) →
    Rest (place.First (purpose.ExponentDigits r w d)) ls xs t f → BehindNumber (purpose.Decimals r w) d ls xs (letter E ∷ t) f
exponent_back r w d ls xs t f (inl i) = record { rest = i.rest; exponent = exponent i.reads; after = i.behind }
exponent_back r w d ls xs t f (inr i) = absurd i

decimals_back : (r w d : ℕ) (ls : List Level) (xs : List FormatItem) (s : Symbol) (t : Marks) (f : List FormatItem) →
    Moves (behind_decimals r w d ls xs s) t f → BehindNumber (purpose.Decimals r w) d ls xs (symbol s ∷ t) f
decimals_back r w d ls xs (character.Letter E) t f h = exponent_back r w d ls xs t f h
decimals_back r w d ls xs s t f h = record { rest = symbol s ∷ t; exponent = no_exponent; after = ended_back ls xs (item.Field r (General w d)) s t f h }

behind_back : (p : Purpose) (n : ℕ) (ls : List Level) (xs : List FormatItem) (s : Symbol) (t : Marks) (f : List FormatItem) →
    Moves (behind p n ls xs s) t f → BehindNumber p n ls xs (symbol s ∷ t) f
behind_back purpose.Count n ls xs s t f h = body_back ls xs (Some n) s t f h
behind_back (purpose.Width k kind) n ls xs s t f h = width_back kind k n ls xs s t f h
behind_back (purpose.LeastDigits r x w) n ls xs s t f h = ended_back ls xs (item.Field r (integer_edit x w (Some n))) s t f h
behind_back (purpose.Decimals r w) n ls xs s t f h = decimals_back r w n ls xs s t f h
behind_back (purpose.ExponentDigits r w d) n ls xs s t f h = ended_back ls xs (item.Field r (General w d)) s t f h
behind_back (purpose.Tabs direction) n ls xs s t f h = ended_back ls xs (moved direction n) s t f h

digit_back : (p : Purpose) (n d : ℕ) (ls : List Level) (xs : List FormatItem) (t : Marks) (f : List FormatItem) →
    Moves (grown p (10 * n + d) ls xs) t f → InDigits p n ls xs (symbol (Digit d) ∷ t) f
digit_back p n d ls xs t f h =
    let i = grown_back p (10 * n + d) ls xs t f h in
    record { value = i.value; rest = i.rest; reads = digit d i.reads; enough = i.enough; within = i.within; behind = i.behind }

number_back : (p : Purpose) (n : ℕ) (ls : List Level) (xs : List FormatItem) (s : Symbol) (t : Marks) (f : List FormatItem) → n ≤ greatest p →
    Moves (next_at (place.More p n) ls xs s) t f → InDigits p n ls xs (symbol s ∷ t) f
number_back p n ls xs (Digit d) t f within h = digit_back p n d ls xs t f h
number_back p n ls xs s t f within h =
    elim (either (λ o. Moves o t f) (nat_lt n (smallest p)) _ _ h) [
      | inl e ↦ absurd e.1
      | inr e ↦ record { value = n; rest = symbol s ∷ t; reads = stop; enough = not_less n (smallest p) e.0; within = within; behind = behind_back p n ls xs s t f e.1 }
    ]

-- ---- in place of a number

blank_letter_back : (ls : List Level) (xs : List FormatItem) (s : Symbol) (t : Marks) (f : List FormatItem) →
    Moves (blank_letter ls xs s) t f → InBlank ls xs (symbol s ∷ t) f
blank_letter_back ls xs (character.Letter N) t f a = record { mode = step.BlankNull; rest = t; reads = blank_null; after = a }
blank_letter_back ls xs (character.Letter Z) t f a = record { mode = step.BlankZero; rest = t; reads = blank_zero; after = a }
blank_letter_back ls xs _ t f a = absurd a

tab_letter_back : (ls : List Level) (xs : List FormatItem) (s : Symbol) (t : Marks) (f : List FormatItem) →
    Moves (tab_letter ls xs s) t f → InTurn ls xs (symbol s ∷ t) f
tab_letter_back ls xs (character.Letter L) t f (inl i) = record { direction = Left; digits = t; turns = turn_left; number = i }
tab_letter_back ls xs (character.Letter L) t f (inr i) = absurd i
tab_letter_back ls xs (character.Letter R) t f (inl i) = record { direction = Right; digits = t; turns = turn_right; number = i }
tab_letter_back ls xs (character.Letter R) t f (inr i) = absurd i
tab_letter_back ls xs _ t f i = absurd i

instead_of_width_back : (kind : FieldKind) (k : Option ℕ) (ls : List Level) (xs : List FormatItem) (s : Symbol) (t : Marks) (f : List FormatItem) →
    Moves (instead_of_width kind k ls xs s) t f → Instead (purpose.Width k kind) ls xs (symbol s ∷ t) f
instead_of_width_back Characters k ls xs s t f h = ended_back ls xs (item.Field (times k) (Chars None)) s t f h
instead_of_width_back (Integer Two) None ls xs s t f h = blank_letter_back ls xs s t f h
instead_of_width_back (Integer Two) (Some r) ls xs s t f h = absurd h
instead_of_width_back _ k ls xs s t f h = absurd h

instead_back : (p : Purpose) (ls : List Level) (xs : List FormatItem) (s : Symbol) (t : Marks) (f : List FormatItem) →
    Moves (instead p ls xs s) t f → Instead p ls xs (symbol s ∷ t) f
instead_back (purpose.Width k kind) ls xs s t f h = instead_of_width_back kind k ls xs s t f h
instead_back (purpose.Tabs To) ls xs s t f h = tab_letter_back ls xs s t f h
instead_back _ ls xs s t f h = absurd h

sign_letter_back : (ls : List Level) (xs : List FormatItem) (s : Symbol) (t : Marks) (f : List FormatItem) →
    Moves (sign_letter ls xs s) t f → InSign ls xs (symbol s ∷ t) f
sign_letter_back ls xs (character.Letter P) t f a = record { mode = step.Plus; rest = t; reads = sign_plus; after = a }
sign_letter_back ls xs (character.Letter S) t f a = record { mode = step.Suppress; rest = t; reads = sign_suppress; after = a }
sign_letter_back ls xs s t f h = record { mode = step.Usual; rest = symbol s ∷ t; reads = sign_usual; after = ended_back ls xs (item.Mode step.Usual) s t f h }

decimal_letter_back : (ls : List Level) (xs : List FormatItem) (s : Symbol) (t : Marks) (f : List FormatItem) →
    Moves (decimal_letter ls xs s) t f → InDecimal ls xs (symbol s ∷ t) f
decimal_letter_back ls xs (character.Letter C) t f a = record { mode = step.Comma; rest = t; reads = decimal_comma; after = a }
decimal_letter_back ls xs (character.Letter P) t f a = record { mode = step.Point; rest = t; reads = decimal_point; after = a }
decimal_letter_back ls xs _ t f a = absurd a

-- ---- from each place

first_mark_back : (p : Purpose) (ls : List Level) (xs : List FormatItem) (s : Symbol) (t : Marks) (f : List FormatItem) →
    Moves (next_at (place.First p) ls xs s) t f → Rest (place.First p) ls xs (symbol s ∷ t) f
first_mark_back p ls xs (Digit d) t f h = inl (first_back p d ls xs t f h)
first_mark_back p ls xs s t f h = inr (instead_back p ls xs s t f h)

opened_back : (ls : List Level) (xs : List FormatItem) (s : Symbol) (t : Marks) (f : List FormatItem) →
    Moves (next_at place.Opened ls xs s) t f → Rest place.Opened ls xs (symbol s ∷ t) f
opened_back ls xs Close t f h = inl (t, refl, h)
opened_back ls xs s t f h = inr (start_back ls xs s t f h)

begin_back : (ls : List Level) (xs : List FormatItem) (s : Symbol) (t : Marks) (f : List FormatItem) →
    Moves (next_at place.Begin ls xs s) t f → Rest place.Begin ls xs (symbol s ∷ t) f
begin_back ls xs Open t f h = (t, refl, h)
begin_back ls xs _ t f h = absurd h

starred_back : (ls : List Level) (xs : List FormatItem) (s : Symbol) (t : Marks) (f : List FormatItem) →
    Moves (starred ls xs s) t f → InStar ls xs (symbol s ∷ t) f
starred_back ls xs Open t f w = record {
  inner = w.items;
  start = t;
  rest = w.closes.1.0;
  opens = refl;
  reads = subst (λ l. Items (suc (suc (length ls))) w.items t (symbol Close ∷ l)) w.closes.1.1 w.reads;
  data_there = w.closes.0;
  is = w.closes.1.2;
}
starred_back ls xs _ t f h = absurd h

closing_back : (ls : List Level) (xs : List FormatItem) (s : Symbol) (t : Marks) (f : List FormatItem) → Moves (closing ls xs s) t f → Ends xs (symbol s ∷ t) f
closing_back ls xs Close t f h = (t, refl, h)
closing_back ls xs _ t f h = absurd h

-- The reader's step leads to what was left to be read before it.
pub back : (p : FormatPlace) (ls : List Level) (xs : List FormatItem) (s : Symbol) (t : Marks) (f : List FormatItem) → IsValid p →
    Moves (next_at p ls xs s) t f → Rest p ls xs (symbol s ∷ t) f
back place.Begin ls xs s t f v h = begin_back ls xs s t f h
back place.Opened ls xs s t f v h = opened_back ls xs s t f h
back place.Wanted ls xs s t f v h = start_back ls xs s t f h
back (place.Behind free) ls xs s t f v h = between_back ls xs free s t f h
back (place.First p) ls xs s t f v h = first_mark_back p ls xs s t f h
back (place.More p n) ls xs s t f v h = number_back p n ls xs s t f v h
back place.SignLetter ls xs s t f v h = sign_letter_back ls xs s t f h
back place.DecimalLetter ls xs s t f v h = decimal_letter_back ls xs s t f h
back place.Starred ls xs s t f v h = starred_back ls xs s t f h
back place.Closing ls xs s t f v h = closing_back ls xs s t f h
back place.Done ls xs s t f v h = absurd h

string_back : (ls : List Level) (xs : List FormatItem) (s : List ℕ) (t : Marks) (f : List FormatItem) →
    After ls (xs ++ item.Str s ∷ []) false t f → Want ls xs (string s ∷ t) f
string_back ls xs s t f a = want_of ls xs (item.Str s) false (string s ∷ t) t f (plain (quoted s)) a

-- the same of a string
pub back_string : (p : FormatPlace) (ls : List Level) (xs : List FormatItem) (s : List ℕ) (t : Marks) (f : List FormatItem) → takes_text p ≡ true →
    After ls (xs ++ item.Str s ∷ []) false t f → Rest p ls xs (string s ∷ t) f
back_string place.Opened ls xs s t f e a = inr (string_back ls xs s t f a)
back_string place.Wanted ls xs s t f e a = string_back ls xs s t f a
back_string (place.Behind true) ls xs s t f e a = more_back ls xs true (string s ∷ t) (string s ∷ t) f behind_free (string_back ls xs s t f a)
back_string (place.Behind false) ls xs s t f e a = cc
back_string place.Begin ls xs s t f e a = cc
back_string (place.First p) ls xs s t f e a = cc
back_string (place.More p n) ls xs s t f e a = cc
back_string place.SignLetter ls xs s t f e a = cc
back_string place.DecimalLetter ls xs s t f e a = cc
back_string place.Starred ls xs s t f e a = cc
back_string place.Closing ls xs s t f e a = cc
back_string place.Done ls xs s t f e a = cc
