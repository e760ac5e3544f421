-- Where transfers stand, and what they put.
use Rattle.std.proofs.Common.{◌≡◌, ◌≢◌, ◌+◌, ◌-◌, ◌<◌, ◌≤◌, ◌==◌, ℕ, List, [], ◌∷◌, ◌++◌, length, take, drop, get_or, arith, refl, sym, ap, ◌∙◌, inl, inr, Bool, true, false, ◌&&◌, not, if◌then◌else◌, ◌⊎◌, ◌↔◌}
use Rattle.std.proofs.lemmas.Bool.{cases_lt, cases_eq, eq-eqb, ne_eqb}
use Rattle.std.proofs.lemmas.List.{take_all, drop_all, length-take, length-drop, length-append, take_at, drop_at, drop-drop, take_more, get_or_at, append-nil, get_or-take}
use Rattle.fj_modes.specs.declared.specifiers.Access.{Access}
use Rattle.fj_modes.specs.declared.specifiers.Access.TheVariants.{Sequential, Direct, Stream}
use Rattle.fj_seqrec.specs.Lines.{lines, behind_line}
use Rattle.fj_seqrec.proofs.LineLemmas.{lines_first}
use Rattle.fj_seqrec.proofs.Positions.{line_feed_place}
use Rattle.fj_unfrec.specs.Frames.{framed}
use Rattle.fj_connect.specs.Connection.{Connection, bytes_before, bytes_behind, rest_of_record, missing_feed, past_record, past_end, with_records, with_open_record, with_bytes}
use Rattle.fj_connect.specs.PositionLaws.{Stands}
use Rattle.fj_connect.specs.TransferLaws.{IsPut, PutsAtThePosition, PutsFrames, FeedsOnce, ReadsRecordByRecord}
use Rattle.fj_connect.specs.declared.spot.Within.TheVariants.{Outside}

before_long : (c : Connection) → Stands c → length (bytes_before c) ≡ c.spot.at
before_long c stands = omega (arith, length-take c.spot.at c.bytes, stands.in_file)

-- a text at the end of what stands before a place
last_before : (front text : List ℕ) (at : ℕ) → length front ≡ at → (take (at + length text) (front ++ text) ≡ front ++ text) × (drop (at + length text) (front ++ text) ≡ [])
last_before front text at long =
    let all : length (front ++ text) ≤ at + length text = omega (arith, long, length-append front text) in
    (take_all (at + length text) (front ++ text) all, drop_all (at + length text) (front ++ text) all)

put_last : (c : Connection) (text : List ℕ) → Stands c → IsPut c text (with_records c text)
put_last c text stands = record { before = (last_before (bytes_before c) text c.spot.at (before_long c stands)).0; at = refl; not_after_end = refl }

put_open : (c : Connection) (text : List ℕ) (count : ℕ) → Stands c → IsPut c text (with_open_record c text count)
put_open c text count stands = record { before = (last_before (bytes_before c) text c.spot.at (before_long c stands)).0; at = refl; not_after_end = refl }

put_over : (c : Connection) (text : List ℕ) → Stands c → IsPut c text (with_bytes c text)
put_over c text stands =
    let long : length (bytes_before c ++ text) ≡ c.spot.at + length text = omega (arith, before_long c stands, length-append (bytes_before c) text) in
    record { before = take_at (bytes_before c ++ text) (drop (c.spot.at + length text) c.bytes) (c.spot.at + length text) long; at = refl; not_after_end = refl }

behind_over : (c : Connection) (text : List ℕ) → Stands c → bytes_behind (with_bytes c text) ≡ drop (length text) (bytes_behind c)
behind_over c text stands =
    let long : length (bytes_before c ++ text) ≡ c.spot.at + length text = omega (arith, before_long c stands, length-append (bytes_before c) text) in
    drop_at (bytes_before c ++ text) (drop (c.spot.at + length text) c.bytes) (c.spot.at + length text) long ∙ sym (drop-drop (length text) c.spot.at c.bytes)

pub puts : PutsAtThePosition
puts c text stands = (
  (put_last c text stands, (last_before (bytes_before c) text c.spot.at (before_long c stands)).1, refl),
  λ count low. (put_open c text count stands, (last_before (bytes_before c) text c.spot.at (before_long c stands)).1, refl, omega arith),
  (put_over c text stands, behind_over c text stands),
)

pub puts_frames : PutsFrames
puts_frames c body stands short =
    let last = last_before (bytes_before c) (framed body) c.spot.at (before_long c stands) in
    (record { short = omega (arith, short); joined = last.0 }, last.1)

-- the byte before the position
last_byte : (c : Connection) → Stands c → 0 < c.spot.at → bytes_before c ≡ take (c.spot.at - 1) c.bytes ++ get_or c.bytes (c.spot.at - 1) 0 ∷ []
last_byte c stands some =
    let e : c.spot.at - 1 + 1 ≡ c.spot.at = omega arith in
    ap (λ n. take n c.bytes) (sym e) ∙ take_more c.bytes (c.spot.at - 1) 0 (omega (arith, stands.in_file))

abbrev feed : Bool → Bool → List ℕ
feed first fed = if true && not first && not fed then 10 ∷ [] else []

feed_is : (c : Connection) → c.spot.within ≡ Outside → missing_feed c ≡ feed (c.spot.at == 0) (get_or c.bytes (c.spot.at - 1) 0 == 10)
feed_is c w = rw w refl

none_behind_feed : (first : Bool) → feed first true ≡ []
none_behind_feed true = refl
none_behind_feed false = refl

none_first : (c : Connection) → c.spot.within ≡ Outside → c.spot.at ≡ 0 → missing_feed c ≡ []
none_first c w at = rw (w, at) refl

take_none : (c : Connection) → c.spot.at ≡ 0 → bytes_before c ≡ []
take_none c at = ap (λ n. take n c.bytes) at ∙ grind arith

none_fed : (c : Connection) → c.spot.within ≡ Outside → get_or c.bytes (c.spot.at - 1) 0 ≡ 10 → missing_feed c ≡ []
none_fed c w is = feed_is c w ∙ ap (feed (c.spot.at == 0)) (eq-eqb (get_or c.bytes (c.spot.at - 1) 0) 10 is) ∙ none_behind_feed (c.spot.at == 0)

one_missing : (c : Connection) → c.spot.within ≡ Outside → 0 < c.spot.at → get_or c.bytes (c.spot.at - 1) 0 ≢ 10 → missing_feed c ≡ 10 ∷ []
one_missing c w some other =
    feed_is c w
    ∙ ap (λ b. feed b (get_or c.bytes (c.spot.at - 1) 0 == 10)) (ne_eqb c.spot.at 0 (λ e. absurd (omega (arith, some, e))))
    ∙ ap (feed false) (ne_eqb (get_or c.bytes (c.spot.at - 1) 0) 10 other)

fed : (c : Connection) → Stands c → c.spot.within ≡ Outside → (bytes_before c ++ missing_feed c ≡ []) ⊎ ((front : List ℕ) × (bytes_before c ++ missing_feed c ≡ front ++ 10 ∷ []))
fed c stands w = elim (cases_lt 0 c.spot.at) [
  | inl some ↦ elim (cases_eq (get_or c.bytes (c.spot.at - 1) 0) 10) [
    | inl is ↦ inr (take (c.spot.at - 1) c.bytes, ap (λ m. bytes_before c ++ m) (none_fed c w is) ∙ append-nil (bytes_before c) ∙ last_byte c stands some ∙ ap (λ byte. take (c.spot.at - 1) c.bytes ++ byte ∷ []) is)
    | inr other ↦ inr (bytes_before c, ap (λ m. bytes_before c ++ m) (one_missing c w some other))
  ]
  | inr none ↦
      let at : c.spot.at ≡ 0 = omega arith in
      inl (ap (λ m. bytes_before c ++ m) (none_first c w at) ∙ append-nil (bytes_before c) ∙ take_none c at)
]

not_twice : (c : Connection) → Stands c → c.spot.within ≡ Outside → (front : List ℕ) → bytes_before c ≡ front ++ 10 ∷ [] → missing_feed c ≡ []
not_twice c stands w front is =
    let long : length front + 1 ≡ c.spot.at = omega (arith, before_long c stands, ap (λ s. length s) is, length-append front (10 ∷ [])) in
    let place : c.spot.at - 1 ≡ length front = omega (arith, long) in
    let below : c.spot.at - 1 < c.spot.at = omega (arith, long) in
    none_fed c w (sym (get_or-take c.spot.at c.bytes (c.spot.at - 1) 0 below) ∙ ap (λ s. get_or s (c.spot.at - 1) 0) is ∙ ap (λ n. get_or (front ++ 10 ∷ []) n 0) place ∙ get_or_at front 10 [] 0 (length front) refl)

pub feeds : FeedsOnce
feeds c stands w = (fed c stands w, not_twice c stands w)

-- a suffix is found by its length
by_length : (bytes : List ℕ) (place : ℕ) → drop (length bytes - length (drop place bytes)) bytes ≡ drop place bytes
by_length bytes place = elim (cases_lt (length bytes) place) [
  | inl past ↦
      let all : length bytes - length (drop place bytes) ≡ length bytes = omega (arith, length-drop place bytes) in
      ap (λ n. drop n bytes) all ∙ drop_all (length bytes) bytes (omega arith) ∙ sym (drop_all place bytes (omega (arith, past)))
  | inr within ↦
      let same : length bytes - length (drop place bytes) ≡ place = omega (arith, length-drop place bytes) in
      ap (λ n. drop n bytes) same
]

behind_end : (c : Connection) → bytes_behind (past_record c) ≡ behind_line (bytes_behind c)
behind_end c =
    let place = c.spot.at + (line_feed_place (bytes_behind c) + 1) in
    let behind : behind_line (bytes_behind c) ≡ drop (c.spot.at + (line_feed_place (bytes_behind c) + 1)) c.bytes = drop-drop (line_feed_place (bytes_behind c) + 1) c.spot.at c.bytes in
    ap (λ b. drop (length c.bytes - length b) c.bytes) behind ∙ by_length c.bytes (c.spot.at + (line_feed_place (bytes_behind c) + 1)) ∙ sym behind

is_sequential : (access : Access) (c : Connection) → c.modes.access ≡ access → ((past_end c).spot.after_end ≡ true ↔ (c.modes.access ≡ Sequential))
is_sequential Sequential c a = (λ _. a, λ _. rw a refl)
is_sequential Direct c a = (λ e. let no : ◌≡◌ {A = Bool} false true = rw a at e in cc, λ s. let no : Direct ≡ Sequential = sym a ∙ s in cc)
is_sequential Stream c a = (λ e. let no : ◌≡◌ {A = Bool} false true = rw a at e in cc, λ s. let no : Stream ≡ Sequential = sym a ∙ s in cc)

pub reads : ReadsRecordByRecord
reads c stands = (
  λ some. lines_first (bytes_behind c) some ∙ ap (λ b. rest_of_record c ∷ lines b) (sym (behind_end c)),
  drop_all (length c.bytes) c.bytes (omega arith),
  refl,
  is_sequential c.modes.access c refl,
)
