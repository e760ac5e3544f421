-- What is left to be read of a text, from each state of the scanner.
use Rattle.std.proofs.Common.{ℕ, ◌≡◌, ◌≢◌, Bool, true, false, eqb, List, [], ◌∷◌, ◌++◌, length, suc, Option, Some, None, inl, inr, refl, sym, subst, ap, ◌∙◌, arith, append_assoc, nat_lt, append-nil}
use Rattle.std.proofs.lemmas.Bool.Decides.{nat_tests}
use Rattle.fj_format.specs.declared.item.FormatItem.{FormatItem}
use Rattle.fj_format.specs.declared.item.FormatItem.TheVariants.{Str}
use Rattle.fj_format.specs.declared.level.Level.{Level}
use Rattle.fj_format.specs.declared.reader.Reader.{Reader}
use Rattle.fj_format.specs.declared.place.FormatPlace.{FormatPlace}
use Rattle.fj_format.specs.declared.place.FormatPlace.TheVariants.{Done}
use Rattle.fj_format.specs.declared.place.FormatPlace.TheVariants as place
use Rattle.fj_format.specs.declared.place.Radix.TheVariants.{Two}
use Rattle.fj_format.specs.declared.place.Tabbing.TheVariants.{To}
use Rattle.fj_format.specs.declared.place.FieldKind.{FieldKind}
use Rattle.fj_format.specs.declared.place.FieldKind.TheVariants.{Integer, Logical, Characters, Generalized}
use Rattle.fj_format.specs.declared.place.Purpose.{Purpose}
use Rattle.fj_format.specs.declared.place.Purpose.TheVariants as purpose
use Rattle.fj_format.specs.declared.scanner.Quote.{Quote}
use Rattle.fj_format.specs.declared.scanner.Quote.TheVariants.{Outside, Inside, Ended}
use Rattle.fj_format.specs.declared.scanner.Scanner.{Scanner}
use Rattle.fj_format.specs.declared.symbol.Symbol.{Symbol}
use Rattle.fj_format.specs.declared.symbol.Symbol.TheVariants.{Open, Close, Comma, Other}
use Rattle.fj_format.specs.declared.symbol.Letter.TheVariants.{A}
use Rattle.fj_format.specs.Symbols.{is_blank, is_quote, symbol_of}
use Rattle.fj_format.specs.Marks.{Marks, symbol, string, outside, inside, closing}
use Rattle.fj_format.specs.Grammar.{letter, IsFormatOf, IsFormat, BeginsFormat, empty, format}
use Rattle.fj_format.specs.Reading.{smallest, behind, instead_of_width, next, next_at, next_text, takes_text}
use Rattle.fj_format.specs.Scanning.{first, outside_with, outside_char, outside_from, scan_at, scan, IsClear}
use Rattle.fj_format.proofs.Choices.{into_true, into_false, either, choose_by}
use Rattle.fj_format.proofs.Rest.{Rest, Moves, MovesOn}
use Rattle.fj_format.proofs.Forward.{next_mark, forward}
use Rattle.fj_format.proofs.Back.{IsValid, back, back_string}
use Rattle.fj_format.proofs.Ends.{MovesValid, valid, place_ended, closes_ended, a_field, a_field_more, a_field_data}

abbrev pub marks_at : Quote → List ℕ → List ℕ → Marks
marks_at Outside kept t = outside t
marks_at (Inside q) kept t = inside q kept t
marks_at (Ended q) kept t = closing q kept t

-- what is left to be read of a text, and the format that it gives
abbrev pub Left : Scanner → List ℕ → List FormatItem → Type 0
Left s t f = Rest s.reader.place s.reader.levels s.reader.items (marks_at s.quote s.string t) f

abbrev pub Goes : Option Scanner → List ℕ → List FormatItem → Type 0
Goes None t f = ⊥
Goes (Some s) t f = Left s t f

-- the reader's step, by its parts
next_by_place : (s : Reader) (x : Symbol) → next s x ≡ next_at s.place s.levels s.items x
unfolding next
next_by_place s x = refl

-- no format has a character that is no symbol
other_begins : (ls : List Level) (xs : List FormatItem) (kind : FieldKind) (k : Option ℕ) (t : Marks) (f : List FormatItem) → Moves (instead_of_width kind k ls xs Other) t f → ⊥
other_begins ls xs Characters k t f h = h
other_begins ls xs (Integer Two) None t f h = h
other_begins ls xs (Integer Two) (Some r) t f h = h
other_begins ls xs _ k t f h = h

other_behind : (p : Purpose) (n : ℕ) (ls : List Level) (xs : List FormatItem) (t : Marks) (f : List FormatItem) → Moves (behind p n ls xs Other) t f → ⊥
other_behind (purpose.Width k (Integer x)) n ls xs t f h = h
other_behind (purpose.Width k Logical) n ls xs t f h = h
other_behind (purpose.Width k Characters) n ls xs t f h = h
other_behind (purpose.Width k Generalized) n ls xs t f h = elim (either (λ o. Moves o t f) (eqb n 0) _ _ h) [ inl e ↦ e.1 | inr e ↦ e.1 ]
other_behind _ n ls xs t f h = h

no_other : (p : FormatPlace) (ls : List Level) (xs : List FormatItem) (t : Marks) (f : List FormatItem) → Moves (next_at p ls xs Other) t f → ⊥
no_other (place.Behind true) ls xs t f h = h
no_other (place.Behind false) ls xs t f h = h
no_other (place.First (purpose.Width k kind)) ls xs t f h = other_begins ls xs kind k t f h
no_other (place.First (purpose.Tabs To)) ls xs t f h = h
no_other (place.First _) ls xs t f h = h
no_other (place.More p n) ls xs t f h =
    elim (either (λ o. Moves o t f) (nat_lt n (smallest p)) _ _ h) [ inl e ↦ absurd e.1 | inr e ↦ other_behind p n ls xs t f e.1 ]
no_other _ ls xs t f h = h

-- ---- a string stands only where it may

string_may : (p : FormatPlace) (ls : List Level) (xs : List FormatItem) (s : List ℕ) (t : Marks) (f : List FormatItem) →
    Moves (next_mark p ls xs (string s)) t f → takes_text p ≡ true
string_may p ls xs s t f h = elim (either (λ o. Moves o t f) (takes_text p) _ _ h) [ inl e ↦ e.0 | inr e ↦ absurd e.1 ]

mutual
  inside_may : (p : FormatPlace) (ls : List Level) (xs : List FormatItem) (q : ℕ) (s t : List ℕ) (f : List FormatItem) →
      MovesOn (next_mark p ls xs) (inside q s t) f → takes_text p ≡ true
  inside_may p ls xs q s [] f h = absurd (no_other p ls xs [] f h)
  inside_may p ls xs q s (c ∷ t) f h =
      elim (either (λ l. MovesOn (next_mark p ls xs) l f) (eqb c q) _ _ h) [ inl e ↦ closing_may p ls xs q s t f e.1 | inr e ↦ inside_may p ls xs q (s ++ c ∷ []) t f e.1 ]

  closing_may : (p : FormatPlace) (ls : List Level) (xs : List FormatItem) (q : ℕ) (s t : List ℕ) (f : List FormatItem) →
      MovesOn (next_mark p ls xs) (closing q s t) f → takes_text p ≡ true
  closing_may p ls xs q s [] f h = string_may p ls xs s [] f h
  closing_may p ls xs q s (c ∷ t) f h =
      elim (either (λ l. MovesOn (next_mark p ls xs) l f) (eqb c q) _ _ h) [
        | inl e ↦ inside_may p ls xs q (s ++ q ∷ []) t f e.1
        | inr e ↦ string_may p ls xs s (outside (c ∷ t)) f e.1
      ]

-- ---- a step forward

outside_with_goes : (o : Option Reader) (t : List ℕ) (f : List FormatItem) → Moves o (outside t) f → Goes (outside_with o) t f
outside_with_goes None t f h = h
outside_with_goes (Some s) t f h = h

goes_outside_with : (o : Option Reader) (t : List ℕ) (f : List FormatItem) → Goes (outside_with o) t f → Moves o (outside t) f
goes_outside_with None t f h = h
goes_outside_with (Some s) t f h = h

outside_forward : (s : Reader) (c : ℕ) (t : List ℕ) (f : List FormatItem) → s.place ≢ Done →
    Rest s.place s.levels s.items (outside (c ∷ t)) f → Goes (outside_char s c) t f
outside_forward s c t f q h =
    let P : Option Scanner → Type 0 = λ o. Goes o t f in
    let R : Marks → Type 0 = λ l. Rest s.place s.levels s.items l f in
    elim (either R (is_blank c) _ _ h) [
      | inl e ↦ into_true P (is_blank c) _ _ e.0 e.1
      | inr e ↦ into_false P (is_blank c) _ _ e.0 (elim (either R (is_quote c) _ _ e.1) [
        | inl k ↦ into_true P (is_quote c) _ _ k.0
            (into_true P (takes_text s.place) _ _ (inside_may s.place s.levels s.items c [] t f (forward s.place s.levels s.items (inside c [] t) f k.1 q)) k.1)
        | inr k ↦ into_false P (is_quote c) _ _ k.0
            (outside_with_goes (next s (symbol_of c)) t f
            (subst (λ o. Moves o (outside t) f) (sym (next_by_place s (symbol_of c))) (forward s.place s.levels s.items (symbol (symbol_of c) ∷ outside t) f k.1 q)))
      ])
    ]

behind_is_not_done : (free : Bool) → place.Behind free ≢ Done
behind_is_not_done free e = cc

-- the reader behind a string
abbrev behind_string : Reader → List ℕ → Reader
behind_string s kept = record { levels = s.levels; items = s.items ++ Str kept ∷ []; place = place.Behind false }

string_goes : (s : Reader) (kept : List ℕ) (c : ℕ) (t : List ℕ) (f : List FormatItem) →
    Moves (next_text s kept) (outside (c ∷ t)) f → Goes (outside_from (next_text s kept) c) t f
string_goes s kept c t f h =
    elim (either (λ o. Moves o (outside (c ∷ t)) f) (takes_text s.place) _ _ h) [
      | inl e ↦ into_true (λ o. Goes (outside_from o c) t f) (takes_text s.place) _ _ e.0
          (outside_forward (behind_string s kept) c t f (behind_is_not_done false) e.1)
      | inr e ↦ absurd e.1
    ]

pub scan_forward : (s : Scanner) (c : ℕ) (t : List ℕ) (f : List FormatItem) → s.reader.place ≢ Done → Left s (c ∷ t) f → Goes (scan s c) t f
scan_forward s c t f q h = by_quote s.quote s.reader s.string c t f q h
  where
    by_quote : (k : Quote) (s : Reader) (kept : List ℕ) (c : ℕ) (t : List ℕ) (f : List FormatItem) → s.place ≢ Done →
        Rest s.place s.levels s.items (marks_at k kept (c ∷ t)) f → Goes (scan_at k s kept c) t f
    by_quote Outside s kept c t f q h = outside_forward s c t f q h
    by_quote (Inside k) s kept c t f q h =
        elim (either (λ l. Rest s.place s.levels s.items l f) (eqb c k) _ _ h) [
          | inl e ↦ into_true (λ o. Goes o t f) (eqb c k) _ _ e.0 e.1
          | inr e ↦ into_false (λ o. Goes o t f) (eqb c k) _ _ e.0 e.1
        ]
    by_quote (Ended k) s kept c t f q h =
        elim (either (λ l. Rest s.place s.levels s.items l f) (eqb c k) _ _ h) [
          | inl e ↦ into_true (λ o. Goes o t f) (eqb c k) _ _ e.0 e.1
          | inr e ↦ into_false (λ o. Goes o t f) (eqb c k) _ _ e.0
              (string_goes s kept c t f (forward s.place s.levels s.items (string kept ∷ outside (c ∷ t)) f e.1 q))
        ]

-- A format isn't whole before its last parenthesis.
pub scan_ends : (s : Scanner) (f : List FormatItem) → s.reader.place ≢ Done → Left s [] f → ⊥
scan_ends s f q h = by_quote s.quote s.reader s.string f q h
  where
    by_quote : (k : Quote) (s : Reader) (kept : List ℕ) (f : List FormatItem) → s.place ≢ Done → Rest s.place s.levels s.items (marks_at k kept []) f → ⊥
    by_quote Outside s kept f q h = forward s.place s.levels s.items [] f h q
    by_quote (Inside k) s kept f q h = no_other s.place s.levels s.items [] f (forward s.place s.levels s.items (symbol Other ∷ []) f h q)
    by_quote (Ended k) s kept f q h =
        elim (either (λ o. Moves o [] f) (takes_text s.place) _ _ (forward s.place s.levels s.items (string kept ∷ []) f h q)) [
          | inl e ↦ forward (place.Behind false) s.levels (s.items ++ Str kept ∷ []) [] f e.1 (behind_is_not_done false)
          | inr e ↦ absurd e.1
        ]

-- ---- a step back

outside_back : (s : Reader) (c : ℕ) (t : List ℕ) (f : List FormatItem) → IsValid s.place →
    Goes (outside_char s c) t f → Rest s.place s.levels s.items (outside (c ∷ t)) f
outside_back s c t f v h =
    let P : Option Scanner → Type 0 = λ o. Goes o t f in
    let R : Marks → Type 0 = λ l. Rest s.place s.levels s.items l f in
    elim (either P (is_blank c) _ _ h) [
      | inl e ↦ into_true R (is_blank c) _ _ e.0 e.1
      | inr e ↦ into_false R (is_blank c) _ _ e.0 (elim (either P (is_quote c) _ _ e.1) [
        | inl k ↦ into_true R (is_quote c) _ _ k.0 (elim (either P (takes_text s.place) _ _ k.1) [ inl w ↦ w.1 | inr w ↦ absurd w.1 ])
        | inr k ↦ into_false R (is_quote c) _ _ k.0
            (back s.place s.levels s.items (symbol_of c) (outside t) f v
            (subst (λ o. Moves o (outside t) f) (next_by_place s (symbol_of c)) (goes_outside_with (next s (symbol_of c)) t f k.1)))
      ])
    ]

pub scan_back : (s : Scanner) (c : ℕ) (t : List ℕ) (f : List FormatItem) → IsValid s.reader.place → Goes (scan s c) t f → Left s (c ∷ t) f
scan_back s c t f v h = by_quote s.quote s.reader s.string c t f v h
  where
    by_quote : (k : Quote) (s : Reader) (kept : List ℕ) (c : ℕ) (t : List ℕ) (f : List FormatItem) → IsValid s.place →
        Goes (scan_at k s kept c) t f → Rest s.place s.levels s.items (marks_at k kept (c ∷ t)) f
    by_quote Outside s kept c t f v h = outside_back s c t f v h
    by_quote (Inside k) s kept c t f v h =
        elim (either (λ o. Goes o t f) (eqb c k) _ _ h) [
          | inl e ↦ into_true (λ l. Rest s.place s.levels s.items l f) (eqb c k) _ _ e.0 e.1
          | inr e ↦ into_false (λ l. Rest s.place s.levels s.items l f) (eqb c k) _ _ e.0 e.1
        ]
    by_quote (Ended k) s kept c t f v h =
        elim (either (λ o. Goes o t f) (eqb c k) _ _ h) [
          | inl e ↦ into_true (λ l. Rest s.place s.levels s.items l f) (eqb c k) _ _ e.0 e.1
          | inr e ↦ into_false (λ l. Rest s.place s.levels s.items l f) (eqb c k) _ _ e.0 (elim (either (λ o. Goes (outside_from o c) t f) (takes_text s.place) _ _ e.1) [
            | inl w ↦ back_string s.place s.levels s.items kept (outside (c ∷ t)) f w.0 (outside_back (behind_string s kept) c t f tt w.1)
            | inr w ↦ absurd w.1
          ])
        ]

-- ---- what stays true of the scanner

abbrev pub IsQuoteValid : Quote → FormatPlace → Type 0
IsQuoteValid Outside p = Unit {0}
IsQuoteValid (Inside q) p = (takes_text p ≡ true) × (is_quote q ≡ true)
IsQuoteValid (Ended q) p = (takes_text p ≡ true) × (is_quote q ≡ true)

pub record IsScannerValid (s : Scanner) : Type 0 where
  pub place : IsValid s.reader.place
  pub quote : IsQuoteValid s.quote s.reader.place
  pub clear : IsClear s.quote s.string

abbrev pub GoesValid : Option Scanner → Type 0
GoesValid None = Unit {0}
GoesValid (Some s) = IsScannerValid s

outside_with_valid : (o : Option Reader) → MovesValid o → GoesValid (outside_with o)
outside_with_valid None h = h
outside_with_valid (Some s) h = record { place = h; quote = tt; clear = refl }

outside_valid : (s : Reader) (c : ℕ) → IsValid s.place → GoesValid (outside_char s c)
outside_valid s c v =
    choose_by GoesValid (is_blank c) _ _ (λ _. record { place = v; quote = tt; clear = refl })
    (λ _. choose_by GoesValid (is_quote c) _ _ (λ k. choose_by GoesValid (takes_text s.place) _ _ (λ w. record { place = v; quote = (w, k); clear = tt }) (λ _. tt))
    (λ _. outside_with_valid (next s (symbol_of c)) (subst MovesValid (sym (next_by_place s (symbol_of c))) (valid s.place s.levels s.items (symbol_of c)))))

pub scan_valid : (s : Scanner) (c : ℕ) → IsScannerValid s → GoesValid (scan s c)
scan_valid s c v = by_quote s.quote s.reader s.string c v.place v.quote
  where
    by_quote : (k : Quote) (s : Reader) (kept : List ℕ) (c : ℕ) → IsValid s.place → IsQuoteValid k s.place → GoesValid (scan_at k s kept c)
    by_quote Outside s kept c v w = outside_valid s c v
    by_quote (Inside k) s kept c v w = choose_by GoesValid (eqb c k) _ _ (λ _. record { place = v; quote = w; clear = tt }) (λ _. record { place = v; quote = w; clear = tt })
    by_quote (Ended k) s kept c v w =
        choose_by GoesValid (eqb c k) _ _ (λ _. record { place = v; quote = w; clear = tt })
        (λ _. choose_by (λ o. GoesValid (outside_from o c)) (takes_text s.place) _ _ (λ _. outside_valid (behind_string s kept) c tt) (λ _. tt))

-- ---- each state can still lead to a format

pub record CanEnd (s : Scanner) : Type 0 where
  pub text : List ℕ
  pub items : List FormatItem
  pub ends : Left s text items

no_comma : (q : ℕ) → is_quote q ≡ true → eqb 44 q ≡ false
no_comma q h = grind (arith, nat_tests)

is_itself : (q : ℕ) → eqb q q ≡ true
is_itself q = grind (arith, nat_tests)

-- behind a string that may stand here, a comma and more
string_ended : (s : Reader) (kept : List ℕ) → takes_text s.place ≡ true →
    (text : List ℕ) × (items : List FormatItem) × Rest s.place s.levels s.items (string kept ∷ symbol Comma ∷ outside text) items
string_ended s kept may =
    let e = closes_ended s.levels ((s.items ++ Str kept ∷ []) ++ a_field) (a_field_data (s.items ++ Str kept ∷ [])) in (
      65 ∷ 41 ∷ e.text,
      e.items,
      back_string s.place s.levels s.items kept (symbol Comma ∷ letter A ∷ symbol Close ∷ outside e.text) e.items may
          (record { more = a_field; rest = outside e.text; reads = a_field_more (suc (length s.levels)) false (symbol Close ∷ outside e.text); closes = e.ends }),
    )

pub scan_can_end : (s : Scanner) → IsScannerValid s → CanEnd s
scan_can_end s v = by_quote s.quote s.reader s.string v.place v.quote
  where
    by_quote : (k : Quote) (s : Reader) (kept : List ℕ) → IsValid s.place → IsQuoteValid k s.place → CanEnd (record { reader = s; quote = k; string = kept })
    by_quote Outside s kept v w =
        let e = place_ended s.place s.levels s.items v in
        record { text = e.text; items = e.items; ends = e.ends }
    by_quote (Ended q) s kept v w =
        let e = string_ended s kept w.0 in
        record { text = 44 ∷ e.0; items = e.1; ends = into_false (λ l. Rest s.place s.levels s.items l e.1) (eqb 44 q) _ _ (no_comma q w.1) e.2 }
    by_quote (Inside q) s kept v w =
        let e = string_ended s kept w.0 in
        record {
          text = q ∷ 44 ∷ e.0;
          items = e.1;
          ends = into_true (λ l. Rest s.place s.levels s.items l e.1) (eqb q q) _ _ (is_itself q)
              (into_false (λ l. Rest s.place s.levels s.items l e.1) (eqb 44 q) _ _ (no_comma q w.1) e.2);
        }

-- ---- from the front of the text

-- What was read leads to this state: a text with this front is a format just where the state can go on with the rest.
pub record Stands (front : List ℕ) (s : Scanner) : Type 0 where
  pub there : (rest : List ℕ) (f : List FormatItem) → IsFormat (front ++ rest) f → Left s rest f
  pub back : (rest : List ℕ) (f : List FormatItem) → Left s rest f → IsFormat (front ++ rest) f
  pub valid : IsScannerValid s

begin_there : (t : Marks) (f : List FormatItem) → IsFormatOf f t → Rest place.Begin [] [] t f
begin_there _ _ (empty {u = u}) = (symbol Close ∷ u, refl, inl (u, refl, refl))
begin_there _ _ (format {xs = xs} {t = t} {u = u} i) = (t, refl, inr (record { items = xs; rest = u; reads = i; closes = refl }))

begin_back : (t : Marks) (f : List FormatItem) → Rest place.Begin [] [] t f → IsFormatOf f t
begin_back t f (t', e, inl (u, k, n)) =
    subst (λ l. IsFormatOf f l) (sym (e ∙ ap (λ l. symbol Open ∷ l) k)) (subst (λ g. IsFormatOf g (symbol Open ∷ symbol Close ∷ u)) (sym n) empty)
begin_back t f (t', e, inr w) =
    subst (λ l. IsFormatOf f l) (sym e) (subst (λ g. IsFormatOf g (symbol Open ∷ t')) (sym w.closes) (format w.reads))

pub stands_first : Stands [] first
stands_first = record {
  there = λ rest f h. begin_there (outside rest) f h;
  back = λ rest f h. begin_back (outside rest) f h;
  valid = record { place = tt; quote = tt; clear = refl };
}

-- one more byte
pub stands_next : (front : List ℕ) (s s' : Scanner) (c : ℕ) → s.reader.place ≢ Done → scan s c ≡ Some s' → Stands front s → Stands (front ++ c ∷ []) s'
stands_next front s s' c q e h = record {
  there = λ rest f k. subst (λ o. Goes o rest f) e (scan_forward s c rest f q (h.there (c ∷ rest) f (subst (λ l. IsFormat l f) (append_assoc front (c ∷ []) rest) k)));
  back = λ rest f k.
      subst (λ l. IsFormat l f) (sym (append_assoc front (c ∷ []) rest))
      (h.back (c ∷ rest) f (scan_back s c rest f h.valid.place (subst (λ o. Goes o rest f) (sym e) k)));
  valid = subst GoesValid e (scan_valid s c h.valid);
}

pub stands_begins : (front : List ℕ) (s : Scanner) → Stands front s → BeginsFormat front
stands_begins front s h = let e = scan_can_end s h.valid in (e.text, e.items, h.back e.text e.items e.ends)

-- no format goes on so
pub stands_refused : (front : List ℕ) (s : Scanner) (c : ℕ) → s.reader.place ≢ Done → scan s c ≡ None → Stands front s → BeginsFormat (front ++ c ∷ []) → ⊥
stands_refused front s c q e h (rest, f, k) =
    subst (λ o. Goes o rest f) e (scan_forward s c rest f q (h.there (c ∷ rest) f (subst (λ l. IsFormat l f) (append_assoc front (c ∷ []) rest) k)))

-- the text ends too early
pub stands_short : (front : List ℕ) (s : Scanner) (f : List FormatItem) → s.reader.place ≢ Done → Stands front s → IsFormat front f → ⊥
stands_short front s f q h k = scan_ends s f q (h.there [] f (subst (λ l. IsFormat l f) (sym (append-nil front)) k))

-- at the last parenthesis
pub stands_done : (front rest : List ℕ) (s : Scanner) → s.reader.place ≡ Done → Stands front s → IsFormat (front ++ rest) s.reader.items
stands_done front rest s e h = h.back rest s.reader.items (subst (λ p. Rest p s.reader.levels s.reader.items (marks_at s.quote s.string rest) s.reader.items) (sym e) refl)

pub stands_only : (front rest : List ℕ) (s : Scanner) (f : List FormatItem) → s.reader.place ≡ Done → Stands front s → IsFormat (front ++ rest) f → f ≡ s.reader.items
stands_only front rest s f e h k =
    let P : FormatPlace → Type 0 = λ p. Rest p s.reader.levels s.reader.items (marks_at s.quote s.string rest) f in
    subst P e (h.there rest f k)
