-- The text of a line is that of a map.
use Rattle.std.proofs.Common.{ℕ, suc, ◌+◌, ◌-◌, ◌≡◌, ◌≢◌, ◌≤◌, ◌<◌, Bool, true, false, cond, ◌&&◌, nat_le, nat_lt, List, [], ◌∷◌, length, get_or, Option, Some, None, unwrap_or, refl, sym, subst, ap, ◌∙◌, arith, rules, ⊎_elim, length-append, length-drop}
use Rattle.std.specs.Prelude.{IsSome}
use Rattle.std.proofs.lemmas.Bool.{cases_lt}
use Rattle.std.proofs.lemmas.List.{places, length-take, length-replicate, ext_get_or}
use Rattle.std.proofs.lemmas.Bool.Decides.{nat_tests}
use Rattle.fj_line.specs.Line.{Characters, overwritten, IsTextOf, with_chars, TextsAreOfMaps}

length-with_chars : (text : List ℕ) (at c : ℕ) (cs : List ℕ) → length (with_chars text at (c ∷ cs)) ≡ (at + length (c ∷ cs)) + (length text - (at + length (c ∷ cs)))
length-with_chars text at c cs = simp (length-append, length-take, length-replicate, length-drop) (omega arith)

kept_before : (text : List ℕ) (at c : ℕ) (cs : List ℕ) (p : ℕ) → p < at → p < length text → get_or (with_chars text at (c ∷ cs)) p 0 ≡ get_or text p 0
kept_before text at c cs p h k = search (rules, places)

blank_before : (text : List ℕ) (at c : ℕ) (cs : List ℕ) (p : ℕ) → p < at → length text ≤ p → get_or (with_chars text at (c ∷ cs)) p 0 ≡ 32
blank_before text at c cs p h k = search (rules, places)

written_there : (text : List ℕ) (at c : ℕ) (cs : List ℕ) (p : ℕ) → at ≤ p → p < at + length (c ∷ cs) → get_or (with_chars text at (c ∷ cs)) p 0 ≡ get_or (c ∷ cs) (p - at) 0
written_there text at c cs p h k = search (rules, places)

kept_behind : (text : List ℕ) (at c : ℕ) (cs : List ℕ) (p : ℕ) → at + length (c ∷ cs) ≤ p → get_or (with_chars text at (c ∷ cs)) p 0 ≡ get_or text p 0
kept_behind text at c cs p h = search (rules, places)

-- ---- the map

before : (at p k : ℕ) → p < at → (nat_le at p && nat_lt p (at + k)) ≡ false
before at p k h = grind (arith, nat_tests)

there : (at p k : ℕ) → at ≤ p → p < at + k → (nat_le at p && nat_lt p (at + k)) ≡ true
there at p k h l = grind (arith, nat_tests)

beyond : (at p k : ℕ) → at + k ≤ p → (nat_le at p && nat_lt p (at + k)) ≡ false
beyond at p k h = grind (arith, nat_tests)

overwritten_by : (map : Characters) (at : ℕ) (cs : List ℕ) (p : ℕ) (b : Bool) → (nat_le at p && nat_lt p (at + length cs)) ≡ b → overwritten map at cs p ≡ cond b (Some (get_or cs (p - at) 0)) (map p)
overwritten_by map at cs p b e = ap (λ b. cond b (Some (get_or cs (p - at) 0)) (map p)) e

-- a place before the characters, in them or behind them
abbrev Where : ℕ → ℕ → ℕ → Type 0 → Type 0
Where at k p P = (p < at → P) × (at ≤ p → p < at + k → P) × (at + k ≤ p → P)

each_place : (at k p : ℕ) (P : Type 0) → Where at k p P → P
each_place at k p P h = ⊎_elim h.0 (λ l. ⊎_elim (h.1 l) h.2 (cases_lt p (at + k))) (cases_lt p at)

within_written : (map : Characters) (text : List ℕ) (at c : ℕ) (cs : List ℕ) → IsTextOf map text → (p : ℕ) → p < length (with_chars text at (c ∷ cs)) →
    get_or (with_chars text at (c ∷ cs)) p 0 ≡ unwrap_or (overwritten map at (c ∷ cs) p) 32
within_written map text at c cs is p l = each_place at (length (c ∷ cs)) p _ (
  (λ h. ⊎_elim
      (λ k. kept_before text at c cs p h k ∙ is.within p k ∙ sym (ap (λ o. unwrap_or o 32) (overwritten_by map at (c ∷ cs) p false (before at p (length (c ∷ cs)) h))))
      (λ k. blank_before text at c cs p h k ∙ sym (ap (λ o. unwrap_or o 32) (overwritten_by map at (c ∷ cs) p false (before at p (length (c ∷ cs)) h) ∙ is.behind p k)))
      (cases_lt p (length text))),
  (λ h k. written_there text at c cs p h k ∙ sym (ap (λ o. unwrap_or o 32) (overwritten_by map at (c ∷ cs) p true (there at p (length (c ∷ cs)) h k)))),
  (λ h. let k : p < length text = omega (arith, length-with_chars text at c cs) in
      kept_behind text at c cs p h ∙ is.within p k ∙ sym (ap (λ o. unwrap_or o 32) (overwritten_by map at (c ∷ cs) p false (beyond at p (length (c ∷ cs)) h)))),
)

greatest_written : (map : Characters) (text : List ℕ) (at c : ℕ) (cs : List ℕ) → IsTextOf map text → (p : ℕ) → suc p ≡ length (with_chars text at (c ∷ cs)) → IsSome (overwritten map at (c ∷ cs) p)
greatest_written map text at c cs is p e = ⊎_elim
    (λ k. subst IsSome (sym (overwritten_by map at (c ∷ cs) p true (there at p (length (c ∷ cs)) (omega (arith, length-with_chars text at c cs)) k))) refl)
    (λ k. let last : p ≡ length text - 1 = omega (arith, length-with_chars text at c cs) in
    let some : text ≢ [] = λ none. absurd (omega (arith, ap length none, length-with_chars text at c cs)) in
    subst IsSome (sym (overwritten_by map at (c ∷ cs) p false (beyond at p (length (c ∷ cs)) k))) (subst (λ q. IsSome (map q)) (sym last) (is.greatest some)))
    (cases_lt p (at + length (c ∷ cs)))

behind_written : (map : Characters) (text : List ℕ) (at c : ℕ) (cs : List ℕ) → IsTextOf map text → (p : ℕ) → length (with_chars text at (c ∷ cs)) ≤ p → overwritten map at (c ∷ cs) p ≡ None
behind_written map text at c cs is p h =
    overwritten_by map at (c ∷ cs) p false (beyond at p (length (c ∷ cs)) (omega (arith, length-with_chars text at c cs)))
    ∙ is.behind p (omega (arith, length-with_chars text at c cs))

nothing_written : (map : Characters) (at p : ℕ) → overwritten map at [] p ≡ map p
nothing_written map at p = ⊎_elim (λ h. overwritten_by map at [] p false (before at p 0 h)) (λ h. overwritten_by map at [] p false (beyond at p 0 (omega arith))) (cases_lt p at)

is_text_written : (map : Characters) (text : List ℕ) (at : ℕ) (chars : List ℕ) → IsTextOf map text → IsTextOf (overwritten map at chars) (with_chars text at chars)
is_text_written map text at [] is = record {
  within = λ p l. is.within p l ∙ sym (ap (λ o. unwrap_or o 32) (nothing_written map at p));
  greatest = λ some. subst IsSome (sym (nothing_written map at (length text - 1))) (is.greatest some);
  behind = λ p l. nothing_written map at p ∙ is.behind p l;
}
is_text_written map text at (c ∷ cs) is = record {
  within = within_written map text at c cs is;
  greatest = λ some. greatest_written map text at c cs is (length (with_chars text at (c ∷ cs)) - 1) (omega (arith, length-with_chars text at c cs));
  behind = behind_written map text at c cs is;
}

-- ---- one text

some_is_none : (o : Option ℕ) → o ≡ None → IsSome o → ⊥
some_is_none None e h = let k : false ≡ true = h in cc
some_is_none (Some x) e h = cc

not_longer : (map : Characters) (text other : List ℕ) → IsTextOf map text → IsTextOf map other → length text ≤ length other
not_longer map text other is is' = ⊎_elim
    (λ longer. let some : text ≢ [] = λ none. absurd (omega (arith, ap length none)) in
    let gone : map (length text - 1) ≡ None = is'.behind (length text - 1) (omega arith) in
    absurd (some_is_none (map (length text - 1)) gone (is.greatest some)))
    (λ fits. fits)
    (cases_lt (length other) (length text))

only_text : (map : Characters) (text other : List ℕ) → IsTextOf map text → IsTextOf map other → text ≡ other
only_text map text other is is' =
    let same : length text ≡ length other = omega (arith, not_longer map text other is is', not_longer map other text is' is) in
    ext_get_or 0 text other same (λ p l. is.within p l ∙ sym (is'.within p (omega arith)))

pub texts_are_of_maps : TextsAreOfMaps
texts_are_of_maps = record {
  empty = record { within = λ p l. absurd (omega arith); greatest = λ some. absurd (some refl); behind = λ p l. refl };
  written = is_text_written;
  only = only_text;
}
