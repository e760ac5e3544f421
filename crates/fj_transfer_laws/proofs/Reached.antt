-- Motions behind records that were written.
use Rattle.std.proofs.Common.{◌≡◌, ◌≢◌, ℕ, ◌+◌, ◌-◌, ◌<◌, ◌≤◌, ◌&&◌, ◌||◌, not, Bool, true, false, cond, List, [], ◌∷◌, ◌++◌, length, take, get_or, Option, Some, None, refl, sym, ap, subst, ◌∙◌, inl, inr, ◌⊎◌, arith, append_assoc, append-nil, unwrap_or}
use Rattle.std.proofs.lemmas.List.{take_at, length-append, length-take, get_or_at, get_or-take, get_or-append-add}
use Rattle.std.specs.Option.{option_or}
use Rattle.fj_value.specs.declared.condition.Condition.TheVariants.{Fine}
use Rattle.fj_modes.specs.declared.specifiers.Access.TheVariants.{Direct, Stream}
use Rattle.fj_modes.specs.Words.{same_access}
use Rattle.fj_list.specs.ListText.{text_of}
use Rattle.fj_seqrec.specs.Lines.{last_line_start}
use Rattle.fj_seqrec.specs.LineLaws.{IsPlain}
use Rattle.fj_seqrec.proofs.LastLine.{only_start}
use Rattle.fj_unfrec.specs.Reading.{frame_start}
use Rattle.fj_connect.specs.Connection.{Connection, bytes_before, between, missing_feed, with_records}
use Rattle.fj_connect.specs.Positions.{record_before, motion_error, moved_unless, moved}
use Rattle.fj_connect.specs.declared.spot.Positioning.TheVariants.{Backspace, Rewind}
use Rattle.fj_connect.proofs.TransferProofs.{feeds}
use Rattle.fj_transfer.specs.Transfer.{Done}
use Rattle.fj_transfer_laws.specs.RoundTrip.{written_records, backspaces, RecordsAreReached}
use Rattle.fj_transfer_laws.proofs.LinesThere.{ArePlain}
use Rattle.fj_transfer_laws.proofs.UnformattedBack.{error_of}
use Rattle.fj_transfer_laws.proofs.WrittenBack.{fine_write, are_plain}

-- bytes behind which a record begins
abbrev IsFed : List ℕ → Type 0
IsFed front = (front ≡ []) ⊎ ((more : List ℕ) × (front ≡ more ++ 10 ∷ []))

fed_byte : (front behind : List ℕ) → IsFed front → 0 < length front → get_or (front ++ behind) (length front - 1) 0 ≡ 10
fed_byte front behind (inl none) some = absurd (omega (arith, ap length none, some))
fed_byte front behind (inr (more, is)) some =
    let last : length front - 1 ≡ length more = omega (arith, ap length is, length-append more (10 ∷ [])) in
    ap (λ n. get_or (front ++ behind) n 0) last
    ∙ ap (λ l. get_or l (length more) 0) (ap (λ l. l ++ behind) is ∙ append_assoc more (10 ∷ []) behind)
    ∙ get_or_at more 10 behind 0 (length more) refl

-- the last line of bytes that a record ends
last_start : (front t : List ℕ) → IsFed front → IsPlain t → last_line_start (front ++ (t ++ 10 ∷ [])) ≡ length front
last_start front t fed plain =
    let behind = t ++ 10 ∷ [] in
    let whole = front ++ behind in
    let long : length whole ≡ length front + (length t + 1) = length-append front behind ∙ ap (λ n. length front + n) (length-append t (10 ∷ [])) in
    sym (only_start whole (length front) (record {
      within = omega (arith, long);
      begins = λ some. fed_byte front behind fed some;
      clear = λ k low high. clear k low (omega (arith, high, long));
    }))
  where
    clear : (k : ℕ) → length front ≤ k → k < length front + length t → get_or (front ++ (t ++ 10 ∷ [])) k 0 ≢ 10
    clear k low high =
        let at : length front + (k - length front) ≡ k = omega (arith, low) in
        let inside : k - length front < length t = omega (arith, low, high) in
        let is : get_or (front ++ (t ++ 10 ∷ [])) k 0 ≡ get_or t (k - length front) 0 =
        ap (λ n. get_or (front ++ (t ++ 10 ∷ [])) n 0) (sym at)
        ∙ get_or-append-add front (t ++ 10 ∷ []) (k - length front) 0
        ∙ sym (get_or-take (length t) (t ++ 10 ∷ []) (k - length front) 0 inside)
        ∙ ap (λ l. get_or l (k - length front) 0) (take_at t (10 ∷ []) (length t) refl) in
        λ e. plain.0 (k - length front) 0 inside (sym is ∙ e)

module _ (x : Connection) (formatted : x.modes.formatted ≡ true) (serial : same_access x.modes.access Direct ≡ false) where
  no_error : (d s f : Bool) → d ≡ false → f ≡ true → cond {A = Option ℕ} (d || (s && not f)) (Some 28) None ≡ None
  no_error false true true h i = refl
  no_error false false true h i = refl
  no_error true s f h i = cc
  no_error false s false h i = cc

  -- one record back
  one_back : (front t behind : List ℕ) → IsFed front → IsPlain t → x.bytes ≡ front ++ ((t ++ 10 ∷ []) ++ behind) → (moved (between x (length (front ++ (t ++ 10 ∷ [])))) Backspace).0 ≡ between x (length front)
  one_back front t behind fed plain is =
      let whole = front ++ (t ++ 10 ∷ []) in
      let c = between x (length whole) in
      let before : bytes_before c ≡ whole = ap (take (length whole)) (is ∙ sym (append_assoc front (t ++ 10 ∷ []) behind)) ∙ take_at whole behind (length whole) refl in
      let start : record_before c ≡ Some (length front) =
      ap (λ b. cond b (Some (last_line_start (bytes_before c))) (frame_start (bytes_before c))) formatted
      ∙ ap (λ l. Some (last_line_start l)) before ∙ ap (λ n. Some n) (last_start front t fed plain) in
      let fine : motion_error c Backspace ≡ None =
      ap (error_of x.modes.access x.modes.formatted) start
      ∙ ap (λ o. option_or o None) (no_error (same_access x.modes.access Direct) (same_access x.modes.access Stream) x.modes.formatted serial formatted) in
      ap (λ o. (moved_unless o c Backspace).0) fine ∙ ap (λ o. between c (unwrap_or o c.spot.at)) start

  many_back : (records : List (List ℕ)) (front behind : List ℕ) → IsFed front → ArePlain records → x.bytes ≡ front ++ (text_of records ++ behind)
      → backspaces (length records) (between x (length (front ++ text_of records))) ≡ between x (length front)
  many_back [] front behind fed plain is = ap (λ l. between x (length l)) (append-nil front)
  many_back (t ∷ records) front behind fed plain is =
      let line = t ++ 10 ∷ [] in
      let next = front ++ line in
      let fed' : IsFed next = inr (front ++ t, sym (append_assoc front t (10 ∷ []))) in
      let is' : x.bytes ≡ front ++ (line ++ (text_of records ++ behind)) = is ∙ ap (λ l. front ++ l) (append_assoc line (text_of records) behind) in
      let more = many_back records next behind fed' plain.1 (is' ∙ sym (append_assoc front line (text_of records ++ behind))) in
      ap (λ l. (moved (backspaces (length records) (between x (length l))) Backspace).0) (sym (append_assoc front line (text_of records)))
      ∙ ap (λ c. (moved c Backspace).0) more
      ∙ one_back front t (text_of records ++ behind) fed plain.0 is'

pub are_reached : RecordsAreReached
are_reached c f edit from stands outside plain fine =
    let w = fine_write c f edit from fine in
    let records = written_records c edit f from in
    let feed = missing_feed c in
    let x = with_records c (feed ++ text_of records) in
    let front = bytes_before c ++ feed in
    let before : length (bytes_before c) ≡ c.spot.at = omega (arith, length-take c.spot.at c.bytes, stands.in_file) in
    let long : length front ≡ c.spot.at + length feed = length-append (bytes_before c) feed ∙ ap (λ n. n + length feed) before in
    let is : x.bytes ≡ front ++ (text_of records ++ []) = sym (append_assoc (bytes_before c) feed (text_of records)) ∙ ap (λ l. front ++ l) (sym (append-nil (text_of records))) in
    let end : length (front ++ text_of records) ≡ c.spot.at + length (feed ++ text_of records) =
    omega (arith, length-append front (text_of records), long, length-append feed (text_of records)) in
    let back = many_back x w.formatted w.sequential records front [] (feeds c stands outside).0 (are_plain records plain) is in
    let P : Done → Type 0 = λ d. (backspaces (length records) d.connection ≡ between d.connection (c.spot.at + length feed)) × (c.spot.at ≡ 0 → moved d.connection Rewind ≡ (between d.connection 0, Fine)) in
    subst P (sym w.is) (
      ap (λ n. backspaces (length records) (between x n)) (sym end) ∙ back ∙ ap (between x) long,
      λ first. ap (λ o. moved_unless o x Rewind) (ap (λ b. option_or (cond (b || false) (Some 28) None) None) w.sequential),
    )
