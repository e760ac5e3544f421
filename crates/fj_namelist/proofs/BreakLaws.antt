-- The records of a member, cut where they are full.
use Rattle.std.proofs.Common.{◌≡◌, ℕ, ◌<◌, ◌≤◌, cond, List, [], ◌∷◌, ◌++◌, length, sym, ap, subst, ◌∙◌, refl, inl, inr, arith, append_assoc, append-nil, length-append, ltb}
use Rattle.std.proofs.lemmas.Bool.{cases_lt}
use Rattle.std.proofs.lemmas.List.Concat.{flat_map-append}
use Rattle.fj_value.specs.declared.edit.EditModes.{EditModes}
use Rattle.fj_value.specs.declared.value.Value.{Value}
use Rattle.fj_list.specs.ListText.{shown}
use Rattle.fj_list.specs.Breaks.{Part, values_in}
use Rattle.fj_namelist.specs.GroupText.{parting, name_shown, continued}
use Rattle.fj_namelist.specs.Breaks.{joined, line_of, lines_of, Fits, Fit, Full, MembersBreakWhereFull}
use Rattle.std.proofs.lemmas.Bool.Decides.{nat_tests}
use Rattle.std.proofs.Common.{true, false}

within_columns : (n : ℕ) → n ≤ 80 → ltb 80 n ≡ false
within_columns n h = grind (arith, nat_tests)

beyond_columns : (n : ℕ) → 80 < n → ltb 80 n ≡ true
beyond_columns n h = grind (arith, nat_tests)

module _ (modes : EditModes) where
  one_more : Value → List ℕ
  one_more w = parting modes.comma ∷ shown modes w

  line-push : (b : List ℕ) (v w : Value) (ws : List Value) → line_of modes b (v, ws ++ w ∷ []) ≡ line_of modes b (v, ws) ++ one_more w
  unfolding one_more
  line-push b v w ws =
      let front = b ++ shown modes v in
      let pushed : joined modes (ws ++ w ∷ []) ≡ joined modes ws ++ (parting modes.comma ∷ shown modes w) =
      flat_map-append (λ x. parting modes.comma ∷ shown modes x) ws (w ∷ []) ∙ ap (λ t. joined modes ws ++ t) (append-nil (parting modes.comma ∷ shown modes w)) in
      ap (λ t. front ++ t) pushed ∙ sym (append_assoc front (joined modes ws) (parting modes.comma ∷ shown modes w))

  -- what comes of a record so far and of more values
  record Found (b : List ℕ) (v : Value) (done vs : List Value) (lines : List (List ℕ)) : Type 0 where
    others : List Value
    parts : List Part
    all : values_in ((v, others) ∷ parts) ≡ (v ∷ done) ++ vs
    fit : Fit modes b (v, others) parts
    full : Full modes b (v, others) parts
    lines_are : lines ≡ lines_of modes b (v, others) parts

  begins : (w : Value) → 32 ∷ shown modes w ≡ line_of modes (32 ∷ []) (w, [])
  begins w = sym (append-nil (32 ∷ shown modes w))

  found : (b : List ℕ) (v : Value) (done vs : List Value) (line : List ℕ) → line ≡ line_of modes b (v, done) → Fits modes b (v, done) → Found b v done vs (continued modes line vs)
  unfolding one_more
  found b v done [] line is fits = record { others = done; parts = []; all = refl; fit = fits; full = tt; lines_are = ap (λ (l : List ℕ). l ∷ []) is }
  found b v done (w ∷ vs) line is fits =
      let sep = parting modes.comma ∷ [] in
      let longer = line ++ one_more w in
      let new = continued modes (32 ∷ shown modes w) vs in
      let on = continued modes longer vs in
      let more : longer ≡ line_of modes b (v, done ++ w ∷ []) = ap (λ (l : List ℕ). l ++ one_more w) is ∙ sym (line-push b v w done) in
      elim (cases_lt 80 (length longer)) [
        | inl past ↦
            let r = found (32 ∷ []) w [] vs (32 ∷ shown modes w) (begins w) (inr refl) in
            record {
              others = done;
              parts = (w, r.others) ∷ r.parts;
              all = ap (λ xs. (v ∷ done) ++ xs) r.all;
              fit = (fits, r.fit);
              full = (subst (λ (l : List ℕ). 80 < length l) more past, r.full);
              lines_are = ap (λ c. cond c ((line ++ sep) ∷ new) on) (beyond_columns (length longer) past) ∙ ap (λ (l : List ℕ). (l ++ sep) ∷ new) is ∙ ap (λ (ls : List (List ℕ)). (line_of modes b (v, done) ++ sep) ∷ ls) r.lines_are;
            }
        | inr room ↦
            let r = found b v (done ++ w ∷ []) vs longer more (inl (subst (λ (l : List ℕ). length l ≤ 80) more room)) in
            record {
              others = r.others;
              parts = r.parts;
              all = r.all ∙ append_assoc (v ∷ done) (w ∷ []) vs;
              fit = r.fit;
              full = r.full;
              lines_are = ap (λ c. cond c ((line ++ sep) ∷ new) on) (within_columns (length longer) room) ∙ r.lines_are;
            }
      ]

  -- more values make a record no shorter
  no_shorter : (b : List ℕ) (v : Value) (ws us : List Value) → length (line_of modes b (v, ws)) ≤ length (line_of modes b (v, ws ++ us))
  no_shorter b v ws us =
      let front = b ++ shown modes v in
      let long = ap length (ap (λ t. front ++ t) (flat_map-append (λ x. parting modes.comma ∷ shown modes x) ws us)) in
      omega (arith, long, length-append front (joined modes ws), length-append front (joined modes ws ++ joined modes us), length-append (joined modes ws) (joined modes us))

  some_more : (ws us : List Value) (w : Value) → ws ++ w ∷ us ≡ [] → ⊥
  some_more [] us w e = cc
  some_more (x ∷ ws) us w e = cc

  fits_first : (b : List ℕ) (v w : Value) (done others : List Value) → Fits modes b (v, done ++ (w ∷ others)) → length (line_of modes b (v, done ++ w ∷ [])) ≤ 80
  fits_first b v w done others (inl h) =
      let long = no_shorter b v (done ++ w ∷ []) others in
      let same = ap (λ ws. length (line_of modes b (v, ws))) (append_assoc done (w ∷ []) others) in
      omega (arith, long, same)
  fits_first b v w done others (inr e) = absurd (some_more done others w e)

  -- the values of a record go into it
  walk : (b : List ℕ) (v : Value) (done others rest : List Value) (line : List ℕ) → line ≡ line_of modes b (v, done) → Fits modes b (v, done ++ others)
      → continued modes line (others ++ rest) ≡ continued modes (line_of modes b (v, done ++ others)) rest
  unfolding one_more
  walk b v done [] rest line is fits =
      ap (λ (l : List ℕ). continued modes l rest) is ∙ sym (ap (λ ws. continued modes (line_of modes b (v, ws)) rest) (append-nil done))
  walk b v done (w ∷ others) rest line is fits =
      let sep = parting modes.comma ∷ [] in
      let longer = line ++ one_more w in
      let more : longer ≡ line_of modes b (v, done ++ w ∷ []) = ap (λ (l : List ℕ). l ++ one_more w) is ∙ sym (line-push b v w done) in
      let room : length longer ≤ 80 = omega (arith, ap length more, fits_first b v w done others fits) in
      let again = append_assoc done (w ∷ []) others in
      ap (λ c. cond c ((line ++ sep) ∷ continued modes (32 ∷ shown modes w) (others ++ rest)) (continued modes longer (others ++ rest))) (within_columns (length longer) room)
      ∙ walk b v (done ++ w ∷ []) others rest longer more (subst (λ ws. Fits modes b (v, ws)) (sym again) fits)
      ∙ ap (λ ws. continued modes (line_of modes b (v, ws)) rest) again

  only : (b : List ℕ) (v : Value) (others : List Value) (parts : List Part) → Fit modes b (v, others) parts → Full modes b (v, others) parts
      → continued modes (b ++ shown modes v) (others ++ values_in parts) ≡ lines_of modes b (v, others) parts
  unfolding one_more
  only b v others [] fit full = walk b v [] others [] (b ++ shown modes v) (sym (append-nil (b ++ shown modes v))) fit
  only b v others ((w, ws) ∷ parts) fit full =
      let sep = parting modes.comma ∷ [] in
      let line = line_of modes b (v, others) in
      let rest = ws ++ values_in parts in
      let longer = line ++ one_more w in
      let past : 80 < length longer = omega (arith, ap length (line-push b v w others), full.0) in
      walk b v [] others (w ∷ rest) (b ++ shown modes v) (sym (append-nil (b ++ shown modes v))) fit.0
      ∙ ap (λ c. cond c ((line ++ sep) ∷ continued modes (32 ∷ shown modes w) rest) (continued modes longer rest)) (beyond_columns (length longer) past)
      ∙ ap (λ (ls : List (List ℕ)). (line ++ sep) ∷ ls) (only (32 ∷ []) w ws parts fit.1 full.1)

pub break_where_full : MembersBreakWhereFull
break_where_full modes name v vs =
    let b = name_shown name in
    let r = found modes b v [] vs (b ++ shown modes v) (sym (append-nil (b ++ shown modes v))) (inr refl) in
    record {
      are = record { first = (v, r.others); others = r.parts; all = r.all; fit = r.fit; full = r.full; lines_are = r.lines_are };
      only = λ lines h.
          let first : h.first.0 ≡ v = let e = h.all in cc in
          let same : h.first.1 ++ values_in h.others ≡ vs = let e = h.all in cc in
          h.lines_are ∙ sym (only modes b h.first.0 h.first.1 h.others h.fit h.full)
          ∙ ap (λ x. continued modes (b ++ shown modes x) (h.first.1 ++ values_in h.others)) first ∙ ap (λ ws. continued modes (b ++ shown modes v) ws) same;
    }
