-- The records of list-directed output, cut where they are full.
use Rattle.std.proofs.Common.{◌≡◌, ℕ, ◌<◌, ◌≤◌, ◌⊎◌, true, false, nat_lt, cond, List, [], ◌∷◌, ◌++◌, length, sym, ap, subst, ◌∙◌, refl, inl, inr, arith, append_assoc, append-nil, length-append}
use Rattle.std.proofs.lemmas.Bool.{cases_lt}
use Rattle.fj_value.specs.declared.edit.EditModes.{EditModes}
use Rattle.fj_value.specs.declared.value.Value.{Value}
use Rattle.fj_list.specs.ListText.{shown, gap, is_characters, continued}
use Rattle.fj_list.specs.Breaks.{Part, values_in, joined, line_of, lines_of, Fit, Full, RecordsBreakWhereFull, RecordsAreUnique}
use Rattle.std.proofs.lemmas.Bool.Decides.{nat_tests}

within_columns : (n : ℕ) → n ≤ 80 → nat_lt 80 n ≡ false
within_columns n h = grind (arith, nat_tests)

beyond_columns : (n : ℕ) → 80 < n → nat_lt 80 n ≡ true
beyond_columns n h = grind (arith, nat_tests)

last_of : Value → List Value → Value
last_of v [] = v
last_of v (w ∷ ws) = last_of w ws

module _ (modes : EditModes) where
  one_more : Value → Value → List ℕ
  one_more last w = gap modes (is_characters last) (is_characters w) ++ shown modes w

  last-push : (v w : Value) (ws : List Value) → last_of v (ws ++ w ∷ []) ≡ w
  unfolding last_of
  last-push v w [] = refl
  last-push v w (x ∷ ws) = last-push x w ws

  joined-push : (v w : Value) (ws : List Value) → joined modes v (ws ++ w ∷ []) ≡ joined modes v ws ++ one_more (last_of v ws) w
  unfolding last_of one_more
  joined-push v w [] = append-nil (one_more v w)
  joined-push v w (x ∷ ws) = ap (λ t. one_more v x ++ t) (joined-push x w ws) ∙ sym (append_assoc (one_more v x) (joined modes x ws) (one_more (last_of x ws) w))

  line-push : (v w : Value) (ws : List Value) → line_of modes v (ws ++ w ∷ []) ≡ line_of modes v ws ++ one_more (last_of v ws) w
  line-push v w ws = ap (λ t. (32 ∷ shown modes v) ++ t) (joined-push v w ws) ∙ sym (append_assoc (32 ∷ shown modes v) (joined modes v ws) (one_more (last_of v ws) w))

  -- what comes of a record so far and of more values
  record Found (v : Value) (done vs : List Value) (lines : List (List ℕ)) : Type 0 where
    others : List Value
    parts : List Part
    all : values_in ((v, others) ∷ parts) ≡ (v ∷ done) ++ vs
    fit : Fit modes ((v, others) ∷ parts)
    full : Full modes ((v, others) ∷ parts)
    lines_are : lines ≡ lines_of modes ((v, others) ∷ parts)

  found : (v : Value) (done vs : List Value) (line : List ℕ) (last : Value) → line ≡ line_of modes v done → last ≡ last_of v done → (length (line_of modes v done) ≤ 80) ⊎ (done ≡ []) → Found v done vs (continued modes line last vs)
  unfolding last_of one_more
  found v done [] line last is at fits = record { others = done; parts = []; all = refl; fit = (fits, tt); full = tt; lines_are = ap (λ (l : List ℕ). l ∷ []) is }
  found v done (w ∷ vs) line last is at fits =
      let longer = line ++ one_more last w in
      let new = continued modes (32 ∷ shown modes w) w vs in
      let on = continued modes longer w vs in
      let more : longer ≡ line_of modes v (done ++ w ∷ []) = ap (λ (l : List ℕ). l ++ one_more last w) is ∙ ap (λ x. line_of modes v done ++ one_more x w) at ∙ sym (line-push v w done) in
      elim (cases_lt 80 (length longer)) [
        | inl past ↦
            let r = found w [] vs (32 ∷ shown modes w) w (sym (append-nil (32 ∷ shown modes w))) refl (inr refl) in
            record {
              others = done;
              parts = (w, r.others) ∷ r.parts;
              all = ap (λ xs. (v ∷ done) ++ xs) r.all;
              fit = (fits, r.fit);
              full = (subst (λ (l : List ℕ). 80 < length l) more past, r.full);
              lines_are = ap (λ b. cond b (line ∷ new) on) (beyond_columns (length longer) past) ∙ ap (λ (l : List ℕ). l ∷ new) is ∙ ap (λ (ls : List (List ℕ)). line_of modes v done ∷ ls) r.lines_are;
            }
        | inr room ↦
            let r = found v (done ++ w ∷ []) vs longer w more (sym (last-push v w done)) (inl (subst (λ (l : List ℕ). length l ≤ 80) more room)) in
            record {
              others = r.others;
              parts = r.parts;
              all = r.all ∙ append_assoc (v ∷ done) (w ∷ []) vs;
              fit = r.fit;
              full = r.full;
              lines_are = ap (λ b. cond b (line ∷ new) on) (within_columns (length longer) room) ∙ r.lines_are;
            }
      ]

  -- more values make a record no shorter
  joined-append : (v : Value) (ws us : List Value) → joined modes v (ws ++ us) ≡ joined modes v ws ++ joined modes (last_of v ws) us
  unfolding last_of
  joined-append v [] us = refl
  joined-append v (x ∷ ws) us =
      let text = gap modes (is_characters v) (is_characters x) ++ shown modes x in
      ap (λ t. text ++ t) (joined-append x ws us) ∙ sym (append_assoc text (joined modes x ws) (joined modes (last_of x ws) us))

  no_shorter : (v : Value) (ws us : List Value) → length (line_of modes v ws) ≤ length (line_of modes v (ws ++ us))
  no_shorter v ws us =
      let first = 32 ∷ shown modes v in
      let more = joined modes (last_of v ws) us in
      let long = ap length (ap (λ t. first ++ t) (joined-append v ws us)) in
      omega (arith, long, length-append first (joined modes v ws), length-append first (joined modes v ws ++ more), length-append (joined modes v ws) more)

  some_more : (ws us : List Value) (w : Value) → ws ++ w ∷ us ≡ [] → ⊥
  some_more [] us w e = cc
  some_more (x ∷ ws) us w e = cc

  Fits : Value → List Value → Type 0
  Fits v ws = (length (line_of modes v ws) ≤ 80) ⊎ (ws ≡ [])

  fits_first : (v w : Value) (done others : List Value) → Fits v (done ++ (w ∷ others)) → length (line_of modes v (done ++ w ∷ [])) ≤ 80
  unfolding Fits
  fits_first v w done others (inl h) =
      let long = no_shorter v (done ++ w ∷ []) others in
      let same = ap (λ ws. length (line_of modes v ws)) (append_assoc done (w ∷ []) others) in
      omega (arith, long, same)
  fits_first v w done others (inr e) = absurd (some_more done others w e)

  -- the values of a record go into it
  walk : (v : Value) (done others rest : List Value) (line : List ℕ) (last : Value) → line ≡ line_of modes v done → last ≡ last_of v done → Fits v (done ++ others)
      → continued modes line last (others ++ rest) ≡ continued modes (line_of modes v (done ++ others)) (last_of v (done ++ others)) rest
  unfolding last_of one_more Fits
  walk v done [] rest line last is at fits =
      ap (λ (l : List ℕ). continued modes l last rest) is ∙ ap (λ x. continued modes (line_of modes v done) x rest) at
      ∙ sym (ap (λ ws. continued modes (line_of modes v ws) (last_of v ws) rest) (append-nil done))
  walk v done (w ∷ others) rest line last is at fits =
      let longer = line ++ one_more last w in
      let more : longer ≡ line_of modes v (done ++ w ∷ []) = ap (λ (l : List ℕ). l ++ one_more last w) is ∙ ap (λ x. line_of modes v done ++ one_more x w) at ∙ sym (line-push v w done) in
      let room : length longer ≤ 80 = omega (arith, ap length more, fits_first v w done others fits) in
      let again = append_assoc done (w ∷ []) others in
      ap (λ b. cond b (line ∷ continued modes (32 ∷ shown modes w) w (others ++ rest)) (continued modes longer w (others ++ rest))) (within_columns (length longer) room)
      ∙ walk v (done ++ w ∷ []) others rest longer w more (sym (last-push v w done)) (subst (λ ws. Fits v ws) (sym again) fits)
      ∙ ap (λ ws. continued modes (line_of modes v ws) (last_of v ws) rest) again

  begun : (v : Value) (others : List Value) (rest : List Value) → Fits v others → continued modes (32 ∷ shown modes v) v (others ++ rest) ≡ continued modes (line_of modes v others) (last_of v others) rest
  unfolding last_of
  begun v others rest fits = walk v [] others rest (32 ∷ shown modes v) v (sym (append-nil (32 ∷ shown modes v))) refl fits

  only : (v : Value) (others : List Value) (parts : List Part) → Fit modes ((v, others) ∷ parts) → Full modes ((v, others) ∷ parts)
      → continued modes (32 ∷ shown modes v) v (others ++ values_in parts) ≡ lines_of modes ((v, others) ∷ parts)
  unfolding one_more Fits
  only v others [] fit full = begun v others [] fit.0
  only v others ((w, ws) ∷ parts) fit full =
      let line = line_of modes v others in
      let rest = ws ++ values_in parts in
      let longer = line ++ one_more (last_of v others) w in
      let past : 80 < length longer = omega (arith, ap length (line-push v w others), full.0) in
      begun v others (w ∷ rest) fit.0
      ∙ ap (λ b. cond b (line ∷ continued modes (32 ∷ shown modes w) w rest) (continued modes longer w rest)) (beyond_columns (length longer) past)
      ∙ ap (λ (ls : List (List ℕ)). line ∷ ls) (only w ws parts fit.1 full.1)

pub break_where_full : RecordsBreakWhereFull
unfolding last_of
break_where_full modes v vs =
    let r = found modes v [] vs (32 ∷ shown modes v) v (sym (append-nil (32 ∷ shown modes v))) refl (inr refl) in
    ((v, r.others) ∷ r.parts, record { all = r.all; fit = r.fit; full = r.full; lines_are = r.lines_are })

pub records_unique : RecordsAreUnique
records_unique modes v vs lines [] h = absurd (let e = h.all in cc)
records_unique modes v vs lines ((w, others) ∷ parts) h =
    let first : w ≡ v = let e = h.all in cc in
    let same : others ++ values_in parts ≡ vs = let e = h.all in cc in
    h.lines_are ∙ sym (only modes w others parts h.fit h.full) ∙ ap (λ x. continued modes (32 ∷ shown modes x) x (others ++ values_in parts)) first ∙ ap (λ ws. continued modes (32 ∷ shown modes v) v ws) same
