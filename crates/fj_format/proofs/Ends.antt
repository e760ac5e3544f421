-- From each place some text ends the format.
use Rattle.std.proofs.Common.{ℕ, zero, suc, ◌+◌, ◌*◌, ◌≤◌, Bool, true, false, List, [], ◌∷◌, ◌++◌, length, Option, Some, None, inl, refl, arith, nat_lt, nat_le, lit≤, ◌≡◌, eqb, inr, ap}
use Rattle.std.proofs.lemmas.Bool.Decides.{nat_tests}
use Rattle.fj_value.specs.declared.edit.Edit.TheVariants.{Log, Chars, General}
use Rattle.fj_format.specs.declared.item.ModeStep.TheVariants as step
use Rattle.fj_format.specs.declared.item.FormatItem.{FormatItem}
use Rattle.fj_format.specs.declared.item.FormatItem.TheVariants as item
use Rattle.fj_format.specs.declared.level.Level.{Level}
use Rattle.fj_format.specs.declared.reader.Reader.{Reader}
use Rattle.fj_format.specs.declared.place.Radix.{Radix}
use Rattle.fj_format.specs.declared.place.Radix.TheVariants.{Two}
use Rattle.fj_format.specs.declared.place.Tabbing.TheVariants.{To}
use Rattle.fj_format.specs.declared.place.FieldKind.{FieldKind}
use Rattle.fj_format.specs.declared.place.FieldKind.TheVariants.{Integer, Logical, Characters, Generalized}
use Rattle.fj_format.specs.declared.place.Purpose.{Purpose}
use Rattle.fj_format.specs.declared.place.Purpose.TheVariants as purpose
use Rattle.fj_format.specs.declared.place.FormatPlace.{FormatPlace}
use Rattle.fj_format.specs.declared.place.FormatPlace.TheVariants as place
use Rattle.fj_format.specs.declared.symbol.Letter.{Letter}
use Rattle.fj_format.specs.declared.symbol.Letter.TheVariants.{A, C, D, E, N, P, S, T, L, R, Z}
use Rattle.fj_format.specs.declared.symbol.Symbol.{Symbol}
use Rattle.fj_format.specs.declared.symbol.Symbol.TheVariants.{Digit, Open, Close, Comma, Point, Slash, Colon, Star}
use Rattle.fj_format.specs.declared.symbol.Symbol.TheVariants as character
use Rattle.fj_format.specs.Marks.{Marks, symbol, outside}
use Rattle.fj_format.specs.Grammar.{stop, digit, number, times, integer_edit, moved, most, no_least, no_exponent, sign_usual, decimal_comma, letter, comma, Items, More, items, some, characters, no_width, plain, skip, none}
use Rattle.fj_format.specs.Unfolding.{pass, has_data}
use Rattle.fj_format.proofs.UnfoldingLaws.{written_out-Field}
use Rattle.fj_format.proofs.DataLemmas.{last_data}
use Rattle.fj_format.specs.Reading.{smallest, greatest, at, alone, grown, closed_as, closed, closing, starred, by_letter, body, start, between, ended, decimals_at, behind_width, behind_decimals, behind, blank_letter, instead_of_width, instead, sign_letter, decimal_letter, next_at}
use Rattle.fj_format.proofs.Choices.{choose_by, at_most}
use Rattle.fj_format.proofs.Rest.{Closes, ClosesAs, After, Want, WantBody, BehindWidth, BehindNumber, InDigits, InNumber, Rest}
use Rattle.fj_format.proofs.Back.{IsValid}

-- ---- the numbers stay within their limits

abbrev pub MovesValid : Option Reader → Type 0
MovesValid None = Unit {0}
MovesValid (Some s) = IsValid s.place

grown_valid : (p : Purpose) (n : ℕ) (ls : List Level) (xs : List FormatItem) → MovesValid (grown p n ls xs)
grown_valid p n ls xs = choose_by MovesValid (nat_le n (greatest p)) _ _ (λ e. at_most n (greatest p) e) (λ _. tt)

alone_valid : (k : Option ℕ) (s : Option Reader) → MovesValid s → MovesValid (alone k s)
alone_valid None s h = h
alone_valid (Some r) s h = tt

letter_valid : (ls : List Level) (xs : List FormatItem) (k : Option ℕ) (l : Letter) → MovesValid (by_letter ls xs k l)
letter_valid ls xs k D = alone_valid k (at ls xs place.DecimalLetter) tt
letter_valid ls xs k S = alone_valid k (at ls xs place.SignLetter) tt
letter_valid ls xs k T = alone_valid k (by_letter ls xs None T) tt
letter_valid ls xs k _ = tt

body_valid : (ls : List Level) (xs : List FormatItem) (k : Option ℕ) (s : Symbol) → MovesValid (body ls xs k s)
body_valid ls xs k (character.Letter l) = letter_valid ls xs k l
body_valid ls xs k Open = choose_by MovesValid (nat_lt (length ls) 31) _ _ (λ _. tt) (λ _. tt)
body_valid ls xs k Colon = alone_valid k (at ls (xs ++ item.Colon ∷ []) (place.Behind true)) tt
body_valid ls xs k _ = tt

start_valid : (ls : List Level) (xs : List FormatItem) (s : Symbol) → MovesValid (start ls xs s)
start_valid ls xs (Digit d) = grown_valid purpose.Count d ls xs
start_valid ls xs Star = choose_by MovesValid (eqb (length ls) 0) _ _ (λ _. tt) (λ _. tt)
start_valid ls xs s = body_valid ls xs None s

closed_valid : (ls : List Level) (xs : List FormatItem) → MovesValid (closed ls xs)
closed_valid [] xs = tt
closed_valid (l ∷ ls) xs = by_count l.r ls l.items xs
  where
    by_count : (r : Option ℕ) (ls : List Level) (before xs : List FormatItem) → MovesValid (closed_as r ls before xs)
    by_count (Some r) ls before xs = tt
    by_count None ls before xs = choose_by MovesValid (has_data (pass xs)) _ _ (λ _. tt) (λ _. tt)

starred_valid : (ls : List Level) (xs : List FormatItem) (s : Symbol) → MovesValid (starred ls xs s)
starred_valid ls xs Open = tt
starred_valid ls xs _ = tt

closing_valid : (ls : List Level) (xs : List FormatItem) (s : Symbol) → MovesValid (closing ls xs s)
closing_valid ls xs Close = tt
closing_valid ls xs _ = tt

between_valid : (free : Bool) (ls : List Level) (xs : List FormatItem) (s : Symbol) → MovesValid (between free ls xs s)
between_valid free ls xs Comma = tt
between_valid free ls xs Close = closed_valid ls xs
between_valid free ls xs Slash = tt
between_valid free ls xs Colon = tt
between_valid true ls xs s = start_valid ls xs s
between_valid false ls xs s = tt

ended_valid : (ls : List Level) (xs : List FormatItem) (x : FormatItem) (s : Symbol) → MovesValid (ended ls xs x s)
ended_valid ls xs x s = between_valid false ls (xs ++ x ∷ []) s

decimals_at_valid : (r w : ℕ) (ls : List Level) (xs : List FormatItem) (s : Symbol) → MovesValid (decimals_at r w ls xs s)
decimals_at_valid r w ls xs Point = tt
decimals_at_valid r w ls xs _ = tt

width_valid : (kind : FieldKind) (k : Option ℕ) (n : ℕ) (ls : List Level) (xs : List FormatItem) (s : Symbol) → MovesValid (behind_width k kind n ls xs s)
width_valid (Integer x) k n ls xs Point = tt
width_valid (Integer x) k n ls xs s = ended_valid ls xs (item.Field (times k) (integer_edit x n None)) s
width_valid Logical k n ls xs s = ended_valid ls xs (item.Field (times k) (Log n)) s
width_valid Characters k n ls xs s = ended_valid ls xs (item.Field (times k) (Chars (Some n))) s
width_valid Generalized k n ls xs s =
    choose_by MovesValid (eqb n 0) _ _ (λ _. ended_valid ls xs (item.Field (times k) (General n 0)) s) (λ _. decimals_at_valid (times k) n ls xs s)

decimals_valid : (r w d : ℕ) (ls : List Level) (xs : List FormatItem) (s : Symbol) → MovesValid (behind_decimals r w d ls xs s)
decimals_valid r w d ls xs (character.Letter E) = tt
decimals_valid r w d ls xs s = ended_valid ls xs (item.Field r (General w d)) s

behind_valid : (p : Purpose) (n : ℕ) (ls : List Level) (xs : List FormatItem) (s : Symbol) → MovesValid (behind p n ls xs s)
behind_valid purpose.Count n ls xs s = body_valid ls xs (Some n) s
behind_valid (purpose.Width k kind) n ls xs s = width_valid kind k n ls xs s
behind_valid (purpose.LeastDigits r x w) n ls xs s = ended_valid ls xs (item.Field r (integer_edit x w (Some n))) s
behind_valid (purpose.Decimals r w) n ls xs s = decimals_valid r w n ls xs s
behind_valid (purpose.ExponentDigits r w d) n ls xs s = ended_valid ls xs (item.Field r (General w d)) s
behind_valid (purpose.Tabs direction) n ls xs s = ended_valid ls xs (moved direction n) s

blank_valid : (ls : List Level) (xs : List FormatItem) (s : Symbol) → MovesValid (blank_letter ls xs s)
blank_valid ls xs (character.Letter N) = tt
blank_valid ls xs (character.Letter Z) = tt
blank_valid ls xs _ = tt

instead_valid : (p : Purpose) (ls : List Level) (xs : List FormatItem) (s : Symbol) → MovesValid (instead p ls xs s)
instead_valid (purpose.Width k kind) ls xs s = by_kind kind k ls xs s
  where
    by_kind : (kind : FieldKind) (k : Option ℕ) (ls : List Level) (xs : List FormatItem) (s : Symbol) → MovesValid (instead_of_width kind k ls xs s)
    by_kind Characters k ls xs s = ended_valid ls xs (item.Field (times k) (Chars None)) s
    by_kind (Integer x) k ls xs s = by_radix x k ls xs s
      where
        by_radix : (x : Radix) (k : Option ℕ) (ls : List Level) (xs : List FormatItem) (s : Symbol) → MovesValid (instead_of_width (Integer x) k ls xs s)
        by_radix Two k ls xs s = alone_valid k (blank_letter ls xs s) (blank_valid ls xs s)
        by_radix _ k ls xs s = tt
    by_kind _ k ls xs s = tt
instead_valid (purpose.Tabs To) ls xs (character.Letter L) = tt
instead_valid (purpose.Tabs To) ls xs (character.Letter R) = tt
instead_valid (purpose.Tabs To) ls xs _ = tt
instead_valid _ ls xs s = tt

sign_valid : (ls : List Level) (xs : List FormatItem) (s : Symbol) → MovesValid (sign_letter ls xs s)
sign_valid ls xs (character.Letter P) = tt
sign_valid ls xs (character.Letter S) = tt
sign_valid ls xs s = ended_valid ls xs (item.Mode step.Usual) s

decimal_valid : (ls : List Level) (xs : List FormatItem) (s : Symbol) → MovesValid (decimal_letter ls xs s)
decimal_valid ls xs (character.Letter C) = tt
decimal_valid ls xs (character.Letter P) = tt
decimal_valid ls xs _ = tt

number_valid : (p : Purpose) (n : ℕ) (ls : List Level) (xs : List FormatItem) (s : Symbol) → MovesValid (next_at (place.More p n) ls xs s)
number_valid p n ls xs (Digit d) = grown_valid p (10 * n + d) ls xs
number_valid p n ls xs s = choose_by MovesValid (nat_lt n (smallest p)) _ _ (λ _. tt) (λ _. behind_valid p n ls xs s)

first_valid : (p : Purpose) (ls : List Level) (xs : List FormatItem) (s : Symbol) → MovesValid (next_at (place.First p) ls xs s)
first_valid p ls xs (Digit d) = grown_valid p d ls xs
first_valid p ls xs s = instead_valid p ls xs s

opened_valid : (ls : List Level) (xs : List FormatItem) (s : Symbol) → MovesValid (next_at place.Opened ls xs s)
opened_valid ls xs Close = tt
opened_valid ls xs s = start_valid ls xs s

begin_valid : (ls : List Level) (xs : List FormatItem) (s : Symbol) → MovesValid (next_at place.Begin ls xs s)
begin_valid ls xs Open = tt
begin_valid ls xs _ = tt

pub valid : (p : FormatPlace) (ls : List Level) (xs : List FormatItem) (s : Symbol) → MovesValid (next_at p ls xs s)
valid place.Begin ls xs s = begin_valid ls xs s
valid place.Opened ls xs s = opened_valid ls xs s
valid place.Wanted ls xs s = start_valid ls xs s
valid (place.Behind free) ls xs s = between_valid free ls xs s
valid (place.First p) ls xs s = first_valid p ls xs s
valid (place.More p n) ls xs s = number_valid p n ls xs s
valid place.SignLetter ls xs s = sign_valid ls xs s
valid place.DecimalLetter ls xs s = decimal_valid ls xs s
valid place.Starred ls xs s = starred_valid ls xs s
valid place.Closing ls xs s = closing_valid ls xs s
valid place.Done ls xs s = tt

-- ---- each place can still lead to a format

-- some characters that end the format
pub record Ended (Left : Marks → List FormatItem → Type 0) : Type 0 where
  pub text : List ℕ
  pub items : List FormatItem
  pub ends : Left (outside text) items

-- A, which any parentheses may end with, those of the unlimited item too
abbrev pub a_field : List FormatItem
a_field = item.Field 1 (Chars None) ∷ []

a_field_reads : (d : ℕ) (u : Marks) → Items d a_field (letter A ∷ u) u
a_field_reads d u = items (plain (characters no_width)) none

pub a_field_more : (d : ℕ) (before : Bool) (u : Marks) → More d before a_field (symbol Comma ∷ letter A ∷ u) u
a_field_more d before u = some comma (a_field_reads d u)

pub a_field_data : (xs : List FormatItem) → has_data (pass (xs ++ a_field)) ≡ true
a_field_data xs = last_data xs (item.Field 1 (Chars None)) (ap has_data (written_out-Field 1 (Chars None)))

pub closes_ended : (ls : List Level) (xs : List FormatItem) → has_data (pass xs) ≡ true → Ended (Closes ls xs)
closes_ended [] xs h = record { text = []; items = xs; ends = refl }
closes_ended (l ∷ ls) xs h = by_count l.r ls l.items xs h (closes_ended ls ((l.items ++ item.Group (times l.r) xs ∷ []) ++ a_field) (a_field_data (l.items ++ item.Group (times l.r) xs ∷ [])))
  where
    by_count : (r : Option ℕ) (ls : List Level) (before xs : List FormatItem) → has_data (pass xs) ≡ true →
        Ended (Closes ls ((before ++ item.Group (times r) xs ∷ []) ++ a_field)) → Ended (ClosesAs r ls before xs)
    by_count (Some r) ls before xs h e =
        record { text = 44 ∷ 65 ∷ 41 ∷ e.text; items = e.items; ends = (a_field, outside e.text, a_field_more (suc (length ls)) false (symbol Close ∷ outside e.text), e.ends) }
    by_count None ls before xs h e = record { text = 41 ∷ []; items = before ++ item.Unlimited xs ∷ []; ends = (h, ([], refl, refl)) }

after_ended : (ls : List Level) (xs : List FormatItem) (free : Bool) → Ended (After ls xs free)
after_ended ls xs free =
    let e = closes_ended ls (xs ++ a_field) (a_field_data xs) in
    record {
      text = 44 ∷ 65 ∷ 41 ∷ e.text;
      items = e.items;
      ends = record { more = a_field; rest = outside e.text; reads = a_field_more (suc (length ls)) free (symbol Close ∷ outside e.text); closes = e.ends };
    }

want_ended : (ls : List Level) (xs : List FormatItem) → Ended (Want ls xs)
want_ended ls xs =
    let e = closes_ended ls (xs ++ a_field) (a_field_data xs) in
    record {
      text = 65 ∷ 41 ∷ e.text;
      items = e.items;
      ends = record { items = a_field; rest = outside e.text; reads = a_field_reads (suc (length ls)) (symbol Close ∷ outside e.text); closes = e.ends };
    }

want_body_ended : (ls : List Level) (xs : List FormatItem) (k : Option ℕ) → Ended (WantBody ls xs k)
want_body_ended ls xs k =
    let e = after_ended ls (xs ++ item.Skip (times k) ∷ []) false in
    record { text = 88 ∷ e.text; items = e.items; ends = record { item = item.Skip (times k); free = false; rest = outside e.text; reads = skip; after = e.ends } }

behind_width_ended : (kind : FieldKind) (k : Option ℕ) (n : ℕ) (ls : List Level) (xs : List FormatItem) → Ended (BehindWidth kind k n ls xs)
behind_width_ended (Integer x) k n ls xs =
    let e = after_ended ls (xs ++ item.Field (times k) (integer_edit x n None) ∷ []) false in
    record { text = e.text; items = e.items; ends = record { m = None; rest = outside e.text; reads = no_least; after = e.ends } }
behind_width_ended Logical k n ls xs = after_ended ls (xs ++ item.Field (times k) (Log n) ∷ []) false
behind_width_ended Characters k n ls xs = after_ended ls (xs ++ item.Field (times k) (Chars (Some n)) ∷ []) false
behind_width_ended Generalized k zero ls xs =
    let e = after_ended ls (xs ++ item.Field (times k) (General 0 0) ∷ []) false in
    record { text = e.text; items = e.items; ends = inr (refl, e.ends) }
behind_width_ended Generalized k (suc n) ls xs =
    let e = after_ended ls (xs ++ item.Field (times k) (General (suc n) 0) ∷ []) false in
    record {
      text = 46 ∷ 48 ∷ e.text;
      items = e.items;
      ends = inl (
        omega arith,
        record {
          d = 0;
          digits = symbol (Digit 0) ∷ outside e.text;
          letter = outside e.text;
          rest = outside e.text;
          point = refl;
          reads = number 0 stop (lit≤ tt) (lit≤ tt);
          exponent = no_exponent;
          after = e.ends;
        },
      );
    }

behind_ended : (p : Purpose) (n : ℕ) (ls : List Level) (xs : List FormatItem) → Ended (BehindNumber p n ls xs)
behind_ended purpose.Count n ls xs = want_body_ended ls xs (Some n)
behind_ended (purpose.Width k kind) n ls xs = behind_width_ended kind k n ls xs
behind_ended (purpose.LeastDigits r x w) n ls xs = after_ended ls (xs ++ item.Field r (integer_edit x w (Some n)) ∷ []) false
behind_ended (purpose.Decimals r w) n ls xs =
    let e = after_ended ls (xs ++ item.Field r (General w n) ∷ []) false in
    record { text = e.text; items = e.items; ends = record { rest = outside e.text; exponent = no_exponent; after = e.ends } }
behind_ended (purpose.ExponentDigits r w d) n ls xs = after_ended ls (xs ++ item.Field r (General w d) ∷ []) false
behind_ended (purpose.Tabs direction) n ls xs = after_ended ls (xs ++ moved direction n ∷ []) false

most_positive : (w : ℕ) → 1 ≤ most w
most_positive w = grind (arith, nat_tests)

one_is_enough : (p : Purpose) → smallest p ≤ 1
one_is_enough purpose.Count = lit≤ tt
one_is_enough (purpose.Width k (Integer x)) = lit≤ tt
one_is_enough (purpose.Width k Logical) = lit≤ tt
one_is_enough (purpose.Width k Characters) = lit≤ tt
one_is_enough (purpose.Width k Generalized) = lit≤ tt
one_is_enough (purpose.LeastDigits r x w) = lit≤ tt
one_is_enough (purpose.Decimals r w) = lit≤ tt
one_is_enough (purpose.ExponentDigits r w d) = lit≤ tt
one_is_enough (purpose.Tabs direction) = lit≤ tt

one_is_within : (p : Purpose) → 1 ≤ greatest p
one_is_within (purpose.LeastDigits r x w) = most_positive w
one_is_within _ = lit≤ tt

digits_ended : (p : Purpose) (n : ℕ) (ls : List Level) (xs : List FormatItem) → n ≤ greatest p → Ended (InDigits p n ls xs)
digits_ended p zero ls xs h =
    let e = behind_ended p 1 ls xs in
    record {
      text = 49 ∷ e.text;
      items = e.items;
      ends = record { value = 1; rest = outside e.text; reads = digit 1 stop; enough = one_is_enough p; within = one_is_within p; behind = e.ends };
    }
digits_ended p (suc n) ls xs h =
    let e = behind_ended p (suc n) ls xs in
    let small : smallest p ≤ 1 = one_is_enough p in
    record {
      text = e.text;
      items = e.items;
      ends = record { value = suc n; rest = outside e.text; reads = stop; enough = omega arith; within = h; behind = e.ends };
    }

number_ended : (p : Purpose) (ls : List Level) (xs : List FormatItem) → Ended (InNumber p ls xs)
number_ended p ls xs =
    let e = behind_ended p 1 ls xs in
    record {
      text = 49 ∷ e.text;
      items = e.items;
      ends = record { value = 1; rest = outside e.text; reads = number 1 stop (one_is_enough p) (one_is_within p); behind = e.ends };
    }

first_ended : (p : Purpose) (ls : List Level) (xs : List FormatItem) → Ended (Rest (place.First p) ls xs)
first_ended p ls xs = let e = number_ended p ls xs in record { text = e.text; items = e.items; ends = inl e.ends }

starred_ended : (ls : List Level) (xs : List FormatItem) → Ended (Rest place.Starred ls xs)
starred_ended ls xs = record {
  text = 40 ∷ 65 ∷ 41 ∷ 41 ∷ [];
  items = xs ++ item.Unlimited a_field ∷ [];
  ends = record {
    inner = a_field;
    start = letter A ∷ symbol Close ∷ symbol Close ∷ [];
    rest = [];
    opens = refl;
    reads = a_field_reads (suc (suc (length ls))) (symbol Close ∷ symbol Close ∷ []);
    data_there = a_field_data [];
    is = refl;
  };
}

pub place_ended : (p : FormatPlace) (ls : List Level) (xs : List FormatItem) → IsValid p → Ended (Rest p ls xs)
place_ended place.Begin ls xs v = record { text = 40 ∷ 41 ∷ []; items = xs; ends = (symbol Close ∷ [], refl, inl ([], refl, refl)) }
place_ended place.Opened ls xs v = record { text = 41 ∷ []; items = xs; ends = inl ([], refl, refl) }
place_ended place.Wanted ls xs v = want_ended ls xs
place_ended (place.Behind free) ls xs v = after_ended ls xs free
place_ended (place.First p) ls xs v = first_ended p ls xs
place_ended (place.More p n) ls xs v = digits_ended p n ls xs v
place_ended place.SignLetter ls xs v =
    let e = after_ended ls (xs ++ item.Mode step.Usual ∷ []) false in
    record { text = e.text; items = e.items; ends = record { mode = step.Usual; rest = outside e.text; reads = sign_usual; after = e.ends } }
place_ended place.DecimalLetter ls xs v =
    let e = after_ended ls (xs ++ item.Mode step.Comma ∷ []) false in
    record { text = 67 ∷ e.text; items = e.items; ends = record { mode = step.Comma; rest = outside e.text; reads = decimal_comma; after = e.ends } }
place_ended place.Starred ls xs v = starred_ended ls xs
place_ended place.Closing ls xs v = record { text = 41 ∷ []; items = xs; ends = ([], refl, refl) }
place_ended place.Done ls xs v = record { text = []; items = xs; ends = refl }
