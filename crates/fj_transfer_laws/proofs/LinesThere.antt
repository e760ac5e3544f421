-- Records that were written as lines, at the end of a file.
use Rattle.std.proofs.Common.{◌≡◌, ◌≢◌, ℕ, ◌+◌, ◌-◌, ◌<◌, ◌≤◌, ◌==◌, false, cond, ltb, List, [], ◌∷◌, ◌++◌, length, take, drop, get_or, Ok, Err, refl, sym, ap, ◌∙◌, arith, append_assoc, append-nil, add-zero}
use Rattle.std.specs.Prelude.{All}
use Rattle.std.specs.Str.Lines.{strip_carriage_return}
use Rattle.std.proofs.lemmas.Bool.{ne_eqb, le-ltb}
use Rattle.std.proofs.lemmas.List.{drop-drop, drop_at, length-append, length-drop}
use Rattle.std.proofs.lemmas.List.Sums.{position_or_len_is}
use Rattle.fj_value.specs.declared.condition.Condition.TheVariants.{EndOfFile, Error}
use Rattle.fj_modes.specs.declared.modes.Modes.{Modes}
use Rattle.fj_modes.specs.declared.specifiers.Access.TheVariants.{Direct}
use Rattle.fj_modes.specs.Words.{same_access}
use Rattle.fj_list.specs.ListText.{text_of}
use Rattle.fj_seqrec.specs.Lines.{is_line_feed, first_line, behind_line}
use Rattle.fj_seqrec.specs.LineLaws.{IsPlain}
use Rattle.fj_seqrec.proofs.Positions.{line_feed_place}
use Rattle.fj_seqrec.proofs.LineLemmas.{fed_first, fed_behind}
use Rattle.fj_connect.specs.Connection.{Connection, bytes_behind, rest_of_record, in_record, past_record, between}
use Rattle.fj_connect.specs.declared.spot.Within.TheVariants.{Outside}
use Rattle.fj_transfer.specs.AtHand.{AtHand, behind, line_at, next_record, record_numbered}
use Rattle.fj_transfer.specs.Writing.{AreShort}
use Rattle.fj_transfer_laws.proofs.Begun.{SameFile}

-- ---- lines

plain_place : (line : List ℕ) → All (λ byte. byte ≢ 10) line → line_feed_place line ≡ length line
plain_place line plain =
    position_or_len_is is_line_feed line (length line) 0 (omega arith) (λ k low. ne_eqb (get_or line k 0) 10 (plain k 0 low)) (λ past. absurd (omega arith))

stripped_plain : (line : List ℕ) → get_or line (length line - 1) 0 ≢ 13 → strip_carriage_return line ≡ line
stripped_plain line is = ap (λ b. cond b (take (length line - 1) line) line) (ne_eqb (get_or line (length line - 1) 0) 13 is)

first_of : (t rest : List ℕ) → IsPlain t → first_line (t ++ 10 ∷ rest) ≡ t
first_of t rest plain = fed_first t rest (plain_place t plain.0) ∙ stripped_plain t plain.1

pub behind_first : (t rest : List ℕ) → IsPlain t → behind_line (t ++ 10 ∷ rest) ≡ rest
behind_first t rest plain = fed_behind t rest (plain_place t plain.0)

pub text_split : (t : List ℕ) (more : List (List ℕ)) → text_of (t ∷ more) ≡ t ++ 10 ∷ text_of more
text_split t more = append_assoc t (10 ∷ []) (text_of more)

-- ---- the record at hand and those behind it, at the end of a file

abbrev pub ArePlain : List (List ℕ) → Type 0
ArePlain [] = Unit {0}
ArePlain (t ∷ ts) = IsPlain t × ArePlain ts

pub record IsThere (c : Connection) (h : AtHand) (t : List ℕ) (more : List (List ℕ)) : Type 0 where
  pub file : SameFile c h.connection
  pub text : h.text ≡ t
  pub behind : bytes_behind h.connection ≡ text_of (t ∷ more)
  pub short : AreShort c.modes.recl (t ∷ more)
  pub plain : ArePlain (t ∷ more)

-- a record begins at the position
pub line_there : (c : Connection) (t : List ℕ) (more : List (List ℕ)) → bytes_behind c ≡ text_of (t ∷ more) → IsPlain t → length t ≤ c.modes.recl → line_at c ≡ Ok (record { connection = in_record c c.spot.at 0; text = t })
line_there c t more is plain short =
    let rest : rest_of_record c ≡ t = ap first_line (is ∙ text_split t more) ∙ first_of t (text_of more) plain in
    let some : (length (bytes_behind c) == 0) ≡ false = ne_eqb (length (bytes_behind c)) 0 (λ e. absurd (omega (arith, e, ap length (is ∙ text_split t more), length-append t (10 ∷ text_of more)))) in
    let hand : AtHand = record { connection = in_record c c.spot.at 0; text = rest_of_record c } in
    ap (λ b. cond b (Err EndOfFile) (cond (ltb c.modes.recl (length (rest_of_record c))) (Err (Error 15)) (Ok hand))) some
    ∙ ap (λ b. cond b (Err (Error 15)) (Ok hand)) (le-ltb c.modes.recl (length (rest_of_record c)) (omega (arith, short, ap length rest)))
    ∙ ap (λ l. Ok (record { connection = in_record c c.spot.at 0; text = l })) rest

pub there_first : (b c : Connection) (t : List ℕ) (more : List (List ℕ)) → SameFile b c → bytes_behind c ≡ text_of (t ∷ more) → AreShort b.modes.recl (t ∷ more) → ArePlain (t ∷ more)
    → IsThere b (record { connection = in_record c c.spot.at 0; text = t }) t more
there_first b c t more same is short plain = record {
  file = record { modes = same.modes; name = same.name; bytes = same.bytes; number = same.number };
  text = refl;
  behind = ap (λ n. drop n c.bytes) (add-zero c.spot.at) ∙ is;
  short = short;
  plain = plain;
}

-- behind a record and its line feed
pub behind_text : (bytes x y : List ℕ) (at : ℕ) → drop at bytes ≡ x ++ y → 0 < length x → drop (length bytes - length y) bytes ≡ y
behind_text bytes x y at is some =
    let sum : length bytes - length y ≡ at + length x = omega (arith, some, ap length is, length-append x y, length-drop at bytes) in
    ap (λ n. drop n bytes) sum ∙ sym (drop-drop (length x) at bytes) ∙ ap (drop (length x)) is ∙ drop_at x y (length x) refl

module _ (c : Connection) (serial : same_access c.modes.access Direct ≡ false) where
  serial_of : (x : Connection) → SameFile c x → same_access x.modes.access Direct ≡ false
  serial_of x same = ap (λ (m : Modes). same_access m.access Direct) same.modes ∙ serial

  abbrev behind_all : AtHand → List (List ℕ) → Connection
  behind_all h more = between h.connection (length h.connection.bytes - length (text_of more))

  past_hand : (h : AtHand) (t : List ℕ) (more : List (List ℕ)) → IsThere c h t more → behind h ≡ behind_all h more
  past_hand h t more there =
      ap (λ b. cond b h.connection (past_record h.connection)) (serial_of h.connection there.file)
      ∙ ap (λ l. between h.connection (length h.connection.bytes - length l)) (ap behind_line (there.behind ∙ text_split t more) ∙ behind_first t (text_of more) there.plain.0)

  pub next_line : (h : AtHand) (t u : List ℕ) (more : List (List ℕ)) → IsThere c h t (u ∷ more) → (n : AtHand) × ((next_record (behind h) ≡ Ok n) × IsThere c n u more)
  next_line h t u more there =
      let x = behind_all h (u ∷ more) in
      let same : SameFile c x = record { modes = there.file.modes; name = there.file.name; bytes = there.file.bytes; number = there.file.number } in
      let is : bytes_behind x ≡ text_of (u ∷ more) =
      behind_text h.connection.bytes (t ++ 10 ∷ []) (text_of (u ∷ more)) h.connection.spot.at there.behind (omega (arith, length-append t (10 ∷ []))) in
      let limit : c.modes.recl ≡ x.modes.recl = ap (λ (m : Modes). m.recl) (sym same.modes) in (
        record { connection = in_record x x.spot.at 0; text = u },
        (
          ap next_record (past_hand h t (u ∷ more) there)
              ∙ ap (λ b. cond b (record_numbered x x.spot.next_number) (line_at x)) (serial_of x same)
              ∙ line_there x u more is there.plain.1.0 (omega (arith, there.short.1.0, limit)),
          there_first c x u more same is there.short.1 there.plain.1,
        ),
      )

  between_of : Modes → List ℕ → List ℕ → ℕ → ℕ → Connection
  between_of modes name bytes number place = record {
    modes = modes;
    name = name;
    bytes = bytes;
    spot = record { at = place; start = place; within = Outside; after_end = false; next_number = number };
  }

  same_between : (x : Connection) (place : ℕ) → SameFile c x → between x place ≡ between c place
  unfolding between_of
  same_between x place same =
      ap (λ m. between_of m x.name x.bytes x.spot.next_number place) same.modes
      ∙ ap (λ l. between_of c.modes l x.bytes x.spot.next_number place) same.name
      ∙ ap (λ l. between_of c.modes c.name l x.spot.next_number place) same.bytes
      ∙ ap (λ n. between_of c.modes c.name c.bytes n place) same.number

  pub last_line : (h : AtHand) (t : List ℕ) → IsThere c h t [] → behind h ≡ between c (length c.bytes)
  last_line h t there =
      let none : length h.connection.bytes - 0 ≡ length c.bytes = omega (arith, ap length there.file.bytes) in
      past_hand h t [] there ∙ ap (between h.connection) none ∙ same_between h.connection (length c.bytes) there.file

  pub line_text : (h : AtHand) (t : List ℕ) (more : List (List ℕ)) → IsThere c h t more → (pad : List ℕ) × (h.text ≡ t ++ pad)
  line_text h t more there = ([], there.text ∙ sym (append-nil t))
