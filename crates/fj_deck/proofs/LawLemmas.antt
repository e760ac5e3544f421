-- A text is one deck, or is refused at one line for one reason.
use Rattle.std.proofs.Common.{◌≡◌, ℕ, ◌+◌, true, false, List, [], ◌∷◌, ◌++◌, length, Ok, Err, refl, sym, ap, ◌∙◌, subst, arith}
use Rattle.std.specs.Str.Lines.{lines}
use Rattle.fj_statement.specs.declared.reason.Reason.{Reason}
use Rattle.fj_syntax.specs.Parsing.{OneReading}
use Rattle.fj_names.specs.Meaning.{OneMeaning}
use Rattle.fj_deck.specs.Deck.{AreGood, IsRefused, OneDeck, NoneIsBoth, OneRefusal, deck_of}
use Rattle.fj_deck.specs.Line.{Begun, LineIs, empty, has_ended}
use Rattle.fj_deck.proofs.DecidedLemmas.{line_once}

module _ (reading : OneReading) (meaning : OneMeaning) where
  next_once : (line : List ℕ) (number : ℕ) (begun next other : Begun) → LineIs line number begun (Ok next) → LineIs line number begun (Ok other) → next ≡ other
  next_once line number begun next other a b =
      let same : Ok next ≡ Ok other = line_once reading meaning line number begun (Ok next) (Ok other) a b in cc

  reason_once : (line : List ℕ) (number : ℕ) (begun : Begun) (reason other : Reason) → LineIs line number begun (Err reason) → LineIs line number begun (Err other) → reason ≡ other
  reason_once line number begun reason other a b =
      let same : Err reason ≡ Err other = line_once reading meaning line number begun (Err reason) (Err other) a b in cc

  good_or_bad : (line : List ℕ) (number : ℕ) (begun next : Begun) (reason : Reason) → LineIs line number begun (Ok next) → LineIs line number begun (Err reason) → ⊥
  good_or_bad line number begun next reason a b =
      let same : Ok next ≡ Err reason = line_once reading meaning line number begun (Ok next) (Err reason) a b in cc

  -- good lines lead to one begun
  good_once : (number : ℕ) (begun last other : Begun) (text : List (List ℕ)) → AreGood number begun text last → AreGood number begun text other → last ≡ other
  good_once number begun last other [] a b = a ∙ sym b
  good_once number begun last other (line ∷ more) a b =
      let same : a.0 ≡ b.0 = next_once line number begun a.0 b.0 a.1 b.1 in
      good_once (number + 1) b.0 last other more (subst (λ d. AreGood (number + 1) d more last) same a.2) b.2

  -- not all of them are good where one is not
  not_all_good : (number at : ℕ) (first begun last : Begun) (reason : Reason) (before : List (List ℕ)) (line : List ℕ) (behind : List (List ℕ))
      → AreGood number first before begun → at ≡ number + length before → LineIs line at begun (Err reason) → AreGood number first (before ++ line ∷ behind) last → ⊥
  not_all_good number at first begun last reason [] line behind good e bad all =
      let same : at ≡ number = omega arith in
      good_or_bad line number first all.0 reason all.1 (subst (λ n. LineIs line n first (Err reason)) same (subst (λ d. LineIs line at d (Err reason)) good bad))
  not_all_good number at first begun last reason (x ∷ before) line behind good e bad all =
      let same : all.0 ≡ good.0 = next_once x number first all.0 good.0 all.1 good.1 in
      not_all_good (number + 1) at good.0 begun last reason before line behind good.2 (omega arith) bad (subst (λ d. AreGood (number + 1) d (before ++ line ∷ behind) last) same all.2)

  -- the first of them that is not good is one
  bad_once : (number at there : ℕ) (first begun other : Begun) (reason why : Reason) (before : List (List ℕ)) (line : List ℕ) (behind front : List (List ℕ)) (bad : List ℕ) (rest : List (List ℕ))
      → before ++ line ∷ behind ≡ front ++ bad ∷ rest
      → AreGood number first before begun → at ≡ number + length before → LineIs line at begun (Err reason)
      → AreGood number first front other → there ≡ number + length front → LineIs bad there other (Err why)
      → (length before ≡ length front) × (reason ≡ why)
  bad_once number at there first begun other reason why [] line behind [] bad rest e good p is fine q was =
      let same : line ≡ bad = cc in
      let here : at ≡ there = omega arith in
      let drafts : begun ≡ other = good ∙ sym fine in
      (refl, reason_once bad there other reason why (subst (λ d. LineIs bad there d (Err reason)) drafts (subst (λ n. LineIs bad n begun (Err reason)) here (subst (λ l. LineIs l at begun (Err reason)) same is))) was)
  bad_once number at there first begun other reason why [] line behind (y ∷ front) bad rest e good p is fine q was =
      let same : line ≡ y = cc in
      let here : at ≡ number = omega arith in
      absurd (good_or_bad y number first fine.0 reason fine.1 (subst (λ d. LineIs y number d (Err reason)) good (subst (λ n. LineIs y n begun (Err reason)) here (subst (λ l. LineIs l at begun (Err reason)) same is))))
  bad_once number at there first begun other reason why (x ∷ before) line behind [] bad rest e good p is fine q was =
      let same : bad ≡ x = cc in
      let here : there ≡ number = omega arith in
      absurd (good_or_bad x number first good.0 why good.1 (subst (λ d. LineIs x number d (Err why)) fine (subst (λ n. LineIs x n other (Err why)) here (subst (λ l. LineIs l there other (Err why)) same was))))
  bad_once number at there first begun other reason why (x ∷ before) line behind (y ∷ front) bad rest e good p is fine q was =
      let same : x ≡ y = cc in
      let tails : before ++ line ∷ behind ≡ front ++ bad ∷ rest = cc in
      let next : good.0 ≡ fine.0 = next_once y number first good.0 fine.0 (subst (λ l. LineIs l number first (Ok good.0)) same good.1) fine.1 in
      let more = bad_once (number + 1) at there fine.0 begun other reason why before line behind front bad rest tails (subst (λ d. AreGood (number + 1) d before begun) next good.2) (omega arith) is fine.2 (omega arith) was in
      (omega arith, more.1)

  pub one_deck : OneDeck
  one_deck text deck other a b =
      a.is ∙ ap deck_of (good_once 1 empty a.last b.last (lines text) a.good b.good) ∙ sym b.is

  pub none_is_both : NoneIsBoth
  none_is_both text deck line reason a (IsRefused.long l) = let s = a.short in omega arith
  none_is_both text deck line reason a (IsRefused.bad before bad behind {begun} s e good is) =
      not_all_good 1 (length before + 1) empty begun a.last reason before bad behind good (omega arith) is (subst (λ l. AreGood 1 empty l a.last) e a.good)
  none_is_both text deck line reason a (IsRefused.endless last s good open_end) =
      let same : a.last ≡ last = good_once 1 empty a.last last (lines text) a.good good in
      let clash : true ≡ false = sym a.ended ∙ ap (λ (d : Begun). has_ended d.statements) same ∙ open_end in cc

  pub one_refusal : OneRefusal
  one_refusal text line another reason other (IsRefused.long l) (IsRefused.long k) = (refl, refl)
  one_refusal text line another reason other (IsRefused.long l) (IsRefused.bad before bad behind s e good is) = absurd (omega arith)
  one_refusal text line another reason other (IsRefused.long l) (IsRefused.endless last s good open_end) = absurd (omega arith)
  one_refusal text line another reason other (IsRefused.bad before bad behind s e good is) (IsRefused.long l) = absurd (omega arith)
  one_refusal text line another reason other (IsRefused.bad before bad behind {begun} s e good is) (IsRefused.bad front worse rest {begun = next} t d fine was) =
      let both = bad_once 1 (length before + 1) (length front + 1) empty begun next reason other before bad behind front worse rest (sym e ∙ d) good (omega arith) is fine (omega arith) was in
      (ap (λ n. n + 1) both.0, both.1)
  one_refusal text line another reason other (IsRefused.bad before bad behind {begun} s e good is) (IsRefused.endless last t all open_end) =
      absurd (not_all_good 1 (length before + 1) empty begun last reason before bad behind good (omega arith) is (subst (λ l. AreGood 1 empty l last) e all))
  one_refusal text line another reason other (IsRefused.endless last t all open_end) (IsRefused.long l) = absurd (omega arith)
  one_refusal text line another reason other (IsRefused.endless last t all open_end) (IsRefused.bad before bad behind {begun} s e good is) =
      absurd (not_all_good 1 (length before + 1) empty begun last other before bad behind good (omega arith) is (subst (λ l. AreGood 1 empty l last) e all))
  one_refusal text line another reason other (IsRefused.endless last t all open_end) (IsRefused.endless end s good still) = (refl, refl)
