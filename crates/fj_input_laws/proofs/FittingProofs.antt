-- What does not fit a connection, and where a transfer begins.
use Rattle.std.proofs.Common.{◌≡◌, ◌≢◌, ℕ, zero, suc, ℤ, pos, negsuc, ◌+◌, ◌-◌, ◌<◌, ◌==◌, ◌&&◌, ◌||◌, not, Bool, true, false, cond, ltb, List, length, Option, Some, None, is_some, Result, Ok, Err, refl, sym, ap, subst, ◌∙◌, ◌⊎◌, ◌≤◌, inl, inr, arith, unwrap_or}
use Rattle.std.proofs.lemmas.Bool.{eq-eqb, ne_eqb, cases_lt, cases_Bool, lt-ltb, le-ltb}
use Rattle.fj_value.specs.declared.edit.EditModes.{EditModes}
use Rattle.fj_value.specs.declared.condition.Condition.{Condition}
use Rattle.fj_value.specs.declared.condition.Condition.TheVariants.{Fine, Error}
use Rattle.fj_modes.specs.declared.modes.Modes.{Modes}
use Rattle.fj_modes.specs.declared.specifiers.Access.{Access}
use Rattle.fj_modes.specs.declared.specifiers.Access.TheVariants.{Sequential, Direct, Stream}
use Rattle.fj_modes.specs.declared.specifiers.Action.{Action}
use Rattle.fj_modes.specs.declared.specifiers.Action.TheVariants.{Read, Write, ReadWrite}
use Rattle.fj_modes.specs.Words.{same_access, TakesOrKeeps}
use Rattle.fj_byterec.specs.Pieces.{piece}
use Rattle.fj_control.specs.Steps.{Given}
use Rattle.fj_moved.specs.declared.moved.Moved.{Moved}
use Rattle.fj_moved.specs.declared.moved.GroupMember.{GroupMember}
use Rattle.fj_connect.specs.Connection.{Connection, between}
use Rattle.fj_connect.specs.Positions.{ended}
use Rattle.fj_connect.specs.Spot.{is_reading}
use Rattle.fj_transfer.specs.declared.change.EditChange.{EditChange}
use Rattle.fj_transfer.specs.declared.transfer.TransferSpec.{TransferSpec}
use Rattle.fj_transfer.specs.declared.transfer.Layout.{Layout}
use Rattle.fj_transfer.specs.declared.transfer.Layout.TheVariants.{Unformatted, Explicit, Listed, Group}
use Rattle.fj_transfer.specs.AtHand.{AtHand, numbered, rest_at, line_at, first_record}
use Rattle.fj_transfer.specs.Change.{changed}
use Rattle.fj_transfer.specs.Printing.{control_of}
use Rattle.fj_transfer.specs.Transfer.{Done, told_with, with_undefined, in_error, is_formatted, is_explicit, differ, needs_sequence, is_unfit, is_forbidden, unfitness, unfit, begins_at, placed, unformatted_read, piece_read, explicit_read, read_by, written_by, from_place, if_fit, transfer_by, transfer}
use Rattle.fj_input_laws.specs.Fitting.{IsUnfit, connection_is_unformatted, connection_is_formatted, access_has_no_numbers, access_needs_a_number, access_has_no_bytes, direct_record_is_whole, direct_record_is_no_list, direct_record_is_no_group, IsForbidden, file_is_only_written, file_is_only_read, FitsExactly, IsBelowOne, IsNowhere, file_has_ended, number_is_below_one, byte_is_below_one, byte_is_beyond, IsAtPlace, found_by, Tells, Unfit, BeginsExactly, IsChangeBy, ChangesByName}

-- ---- 16

or_true : (a : Bool) → (a || true) ≡ true
or_true true = refl
or_true false = refl

or_first : (a b : Bool) → a ≡ true → (a || b) ≡ true
or_first true b e = refl
or_first false b e = let wrong : false ≡ true = e in cc

or_second : (a b : Bool) → b ≡ true → (a || b) ≡ true
or_second a b e = ap (λ x. a || x) e ∙ or_true a

some_format : (layout : Layout) → layout ≢ Unformatted → is_formatted layout ≡ true
some_format Unformatted other = absurd (other refl)
some_format (Explicit f) other = refl
some_format Listed other = refl
some_format (Group name members) other = refl

not_direct : (access : Access) → access ≢ Direct → same_access access Direct ≡ false
not_direct Sequential other = refl
not_direct Direct other = absurd (other refl)
not_direct Stream other = refl

not_stream : (access : Access) → access ≢ Stream → same_access access Stream ≡ false
not_stream Sequential other = refl
not_stream Direct other = refl
not_stream Stream other = absurd (other refl)

module _ (modes : Modes) (layout : Layout) (advance number byte : Bool) where
  abbrev by_form : Bool
  by_form = differ modes.formatted (is_formatted layout)

  abbrev by_number : Bool
  by_number = differ number (same_access modes.access Direct)

  abbrev by_byte : Bool
  by_byte = byte && not (same_access modes.access Stream)

  abbrev by_sequence : Bool
  by_sequence = same_access modes.access Direct && needs_sequence layout advance

  form : by_form ≡ true → is_unfit modes layout advance number byte ≡ true
  form e = or_first ((by_form || by_number) || by_byte) by_sequence (or_first (by_form || by_number) by_byte (or_first by_form by_number e))

  at_number : by_number ≡ true → is_unfit modes layout advance number byte ≡ true
  at_number e = or_first ((by_form || by_number) || by_byte) by_sequence (or_first (by_form || by_number) by_byte (or_second by_form by_number e))

  at_byte' : by_byte ≡ true → is_unfit modes layout advance number byte ≡ true
  at_byte' e = or_first ((by_form || by_number) || by_byte) by_sequence (or_second (by_form || by_number) by_byte e)

  sequence : by_sequence ≡ true → is_unfit modes layout advance number byte ≡ true
  sequence e = or_second ((by_form || by_number) || by_byte) by_sequence e

  is_true : IsUnfit modes layout advance number byte → is_unfit modes layout advance number byte ≡ true
  is_true (connection_is_unformatted f l) = form (ap (λ b. differ b (is_formatted layout)) f ∙ some_format layout l)
  is_true (connection_is_formatted f l) = form (ap (λ b. differ b (is_formatted layout)) f ∙ ap (λ x. not (is_formatted x)) l)
  is_true (access_has_no_numbers n a) = at_number (ap (λ b. differ b (same_access modes.access Direct)) n ∙ ap not (not_direct modes.access a))
  is_true (access_needs_a_number n a) = at_number (ap (λ b. differ b (same_access modes.access Direct)) n ∙ ap (λ x. same_access x Direct) a)
  is_true (access_has_no_bytes b a) = at_byte' (ap (λ x. x && not (same_access modes.access Stream)) b ∙ ap not (not_stream modes.access a))
  is_true (direct_record_is_whole d a) = sequence (ap (λ x. same_access x Direct && needs_sequence layout advance) a ∙ ap (λ x. needs_sequence layout x) d)
  is_true (direct_record_is_no_list l a) = sequence (ap (λ x. same_access x Direct && needs_sequence layout advance) a ∙ ap (λ x. needs_sequence x advance) l ∙ or_true advance)
  is_true (direct_record_is_no_group {name = name} {members = members} l a) =
      sequence (ap (λ x. same_access x Direct && needs_sequence layout advance) a ∙ ap (λ x. needs_sequence x advance) l ∙ or_true advance)

or_elim : (a b : Bool) → (a || b) ≡ true → (a ≡ true) ⊎ (b ≡ true)
or_elim true b e = inl refl
or_elim false b e = inr e

none_true : (b : Bool) → b ≡ true → b ≡ false → ⊥
none_true b t f = let wrong : true ≡ false = sym t ∙ f in cc

module _ (modes : Modes) where
  of_form : (layout : Layout) (advance number byte f : Bool) → modes.formatted ≡ f → differ f (is_formatted layout) ≡ true → IsUnfit modes layout advance number byte
  of_form Unformatted advance number byte true e h = connection_is_formatted e refl
  of_form Unformatted advance number byte false e h = absurd (none_true false h refl)
  of_form (Explicit g) advance number byte true e h = absurd (none_true false h refl)
  of_form (Explicit g) advance number byte false e h = connection_is_unformatted e (λ x. cc)
  of_form Listed advance number byte true e h = absurd (none_true false h refl)
  of_form Listed advance number byte false e h = connection_is_unformatted e (λ x. cc)
  of_form (Group name members) advance number byte true e h = absurd (none_true false h refl)
  of_form (Group name members) advance number byte false e h = connection_is_unformatted e (λ x. cc)

  module _ (layout : Layout) (advance byte : Bool) where
    of_number : (number : Bool) (access : Access) → modes.access ≡ access → differ number (same_access access Direct) ≡ true → IsUnfit modes layout advance number byte
    of_number true Sequential e h = access_has_no_numbers refl (λ x. let wrong : Sequential ≡ Direct = sym e ∙ x in cc)
    of_number true Stream e h = access_has_no_numbers refl (λ x. let wrong : Stream ≡ Direct = sym e ∙ x in cc)
    of_number true Direct e h = absurd (none_true false h refl)
    of_number false Direct e h = access_needs_a_number refl e
    of_number false Sequential e h = absurd (none_true false h refl)
    of_number false Stream e h = absurd (none_true false h refl)

  of_byte : (layout : Layout) (advance number byte : Bool) (access : Access) → modes.access ≡ access → (byte && not (same_access access Stream)) ≡ true → IsUnfit modes layout advance number byte
  of_byte layout advance number true Sequential e h = access_has_no_bytes refl (λ x. let wrong : Sequential ≡ Stream = sym e ∙ x in cc)
  of_byte layout advance number true Direct e h = access_has_no_bytes refl (λ x. let wrong : Direct ≡ Stream = sym e ∙ x in cc)
  of_byte layout advance number true Stream e h = absurd (none_true false h refl)
  of_byte layout advance number false access e h = absurd (none_true false h refl)

  of_sequence : (layout : Layout) (advance number byte : Bool) (access : Access) → modes.access ≡ access → (same_access access Direct && needs_sequence layout advance) ≡ true → IsUnfit modes layout advance number byte
  of_sequence layout true number byte Direct e h = direct_record_is_whole refl e
  of_sequence Unformatted false number byte Direct e h = absurd (none_true false h refl)
  of_sequence (Explicit f) false number byte Direct e h = absurd (none_true false h refl)
  of_sequence Listed false number byte Direct e h = direct_record_is_no_list refl e
  of_sequence (Group name members) false number byte Direct e h = direct_record_is_no_group refl e
  of_sequence layout advance number byte Sequential e h = absurd (none_true false h refl)
  of_sequence layout advance number byte Stream e h = absurd (none_true false h refl)

  of_true : (layout : Layout) (advance number byte : Bool) → is_unfit modes layout advance number byte ≡ true → IsUnfit modes layout advance number byte
  of_true layout advance number byte h =
      let f = differ modes.formatted (is_formatted layout) in
      let n = differ number (same_access modes.access Direct) in
      let b = byte && not (same_access modes.access Stream) in
      let s = same_access modes.access Direct && needs_sequence layout advance in
      elim (or_elim ((f || n) || b) s h) [
        | inr sequence' ↦ of_sequence layout advance number byte modes.access refl sequence'
        | inl before ↦ elim (or_elim (f || n) b before) [
          | inr byte' ↦ of_byte layout advance number byte modes.access refl byte'
          | inl first ↦ elim (or_elim f n first) [
            | inl form' ↦ of_form layout advance number byte modes.formatted refl form'
            | inr number' ↦ of_number layout advance byte number modes.access refl number'
          ]
        ]
      ]

  not_unfit : (layout : Layout) (advance number byte : Bool) → (IsUnfit modes layout advance number byte → ⊥) → is_unfit modes layout advance number byte ≡ false
  not_unfit layout advance number byte never = elim (cases_Bool (is_unfit modes layout advance number byte)) [
    | inl h ↦ absurd (never (of_true layout advance number byte h))
    | inr h ↦ h
  ]

-- ---- 10

forbidden_true : (action : Action) (input : Bool) → IsForbidden action input → is_forbidden action input ≡ true
forbidden_true action input (file_is_only_written a i) = ap (λ x. is_forbidden x input) a ∙ i
forbidden_true action input (file_is_only_read a i) = ap (λ x. is_forbidden x input) a ∙ ap not i

not_forbidden : (action : Action) (input : Bool) → (IsForbidden action input → ⊥) → is_forbidden action input ≡ false
not_forbidden Read true never = refl
not_forbidden Read false never = absurd (never (file_is_only_read refl refl))
not_forbidden Write true never = absurd (never (file_is_only_written refl refl))
not_forbidden Write false never = refl
not_forbidden ReadWrite input never = refl

abbrev of_tests : Bool → Bool → Condition
of_tests a b = cond a (Error 16) (cond b (Error 10) Fine)

pub fits_exactly : FitsExactly
fits_exactly = record {
  unfit = λ modes layout input advance number byte h. ap (λ a. of_tests a (is_forbidden modes.action input)) (is_true modes layout advance number byte h);
  forbidden = λ modes layout input advance number byte never h.
      ap (λ a. of_tests a (is_forbidden modes.action input)) (not_unfit modes layout advance number byte never) ∙ ap (of_tests false) (forbidden_true modes.action input h);
  fits = λ modes layout input advance number byte never allowed.
      ap (λ a. of_tests a (is_forbidden modes.action input)) (not_unfit modes layout advance number byte never) ∙ ap (of_tests false) (not_forbidden modes.action input allowed);
}

-- ---- where it begins

below_one : (n : ℕ) (x y : Result Connection Condition) → n ≡ 0 → cond (n == 0) x y ≡ x
below_one n x y e = ap (λ b. cond b x y) (eq-eqb n 0 e)

number_refused : (c : Connection) (n : ℤ) (byte : Option ℤ) → IsBelowOne n → placed c (Some n) byte ≡ Err (Error 21)
number_refused c (pos n) byte h = below_one n (Err (Error 21)) _ h
number_refused c (negsuc n) byte h = refl

byte_refused : (c : Connection) (n : ℤ) → IsBelowOne n → placed c None (Some n) ≡ Err (Error 21)
byte_refused c (pos n) h = ap (λ b. cond (b || ltb (length c.bytes + 1) n) (Err (Error 21)) (Ok (between c (n - 1)))) (eq-eqb n 0 h)
byte_refused c (negsuc n) h = refl

byte_beyond : (c : Connection) (n : ℕ) → length c.bytes + 1 < n → placed c None (Some (pos n)) ≡ Err (Error 21)
byte_beyond c n h = ap (λ b. cond b (Err (Error 21)) (Ok (between c (n - 1)))) (or_second (n == 0) (ltb (length c.bytes + 1) n) (lt-ltb (length c.bytes + 1) n h))

refused : (spec : TransferSpec) (c : Connection) (n : ℕ) → IsNowhere spec c n → begins_at spec c ≡ Err (Error n)
refused spec c _ (file_has_ended e) = ap (λ b. cond b (Err (Error 20)) (placed c spec.rec spec.pos)) e
refused spec c _ (number_is_below_one {n = n} e r h) =
    ap (λ b. cond b (Err (Error 20)) (placed c spec.rec spec.pos)) e ∙ ap (λ x. placed c x spec.pos) r ∙ number_refused c n spec.pos h
refused spec c _ (byte_is_below_one {n = n} e r p h) =
    ap (λ b. cond b (Err (Error 20)) (placed c spec.rec spec.pos)) e ∙ ap (λ x. placed c x spec.pos) r ∙ ap (placed c None) p ∙ byte_refused c n h
refused spec c _ (byte_is_beyond {n = n} e r p h) =
    ap (λ b. cond b (Err (Error 20)) (placed c spec.rec spec.pos)) e ∙ ap (λ x. placed c x spec.pos) r ∙ ap (placed c None) p ∙ byte_beyond c n h

abbrev Place : TransferSpec → Connection → Option ℤ → Option ℤ → Type 0
Place spec c number byte = (b : Connection) × (begins_at spec c ≡ Ok b) × IsAtPlace number byte c b

module _ (spec : TransferSpec) (c : Connection) (never : (n : ℕ) → IsNowhere spec c n → ⊥) where
  not_ended : c.spot.after_end ≡ false
  not_ended = elim (cases_Bool c.spot.after_end) [
    | inl h ↦ absurd (never 20 (file_has_ended h))
    | inr h ↦ h
  ]

  from_here : (number byte : Option ℤ) → spec.rec ≡ number → spec.pos ≡ byte → begins_at spec c ≡ placed c number byte
  from_here number byte r p = ap (λ b. cond b (Err (Error 20)) (placed c spec.rec spec.pos)) not_ended ∙ ap (λ x. placed c x spec.pos) r ∙ ap (placed c number) p

  found : (number byte : Option ℤ) → spec.rec ≡ number → spec.pos ≡ byte → Place spec c number byte
  found (Some (negsuc n)) byte r p = absurd (never 21 (number_is_below_one not_ended r tt))
  found (Some (pos n)) byte r p =
      let x : Connection = record c { spot = record c.spot { next_number = n } } in (
        x,
        from_here (Some (pos n)) byte r p ∙ ap (λ b. cond b (Err (Error 21)) (Ok x)) (ne_eqb n 0 (λ e. never 21 (number_is_below_one not_ended r e))),
        refl,
      )
  found None (Some (negsuc n)) r p = absurd (never 21 (byte_is_below_one not_ended r p tt))
  found None (Some (pos n)) r p =
      let x : Connection = between c (n - 1) in (
        x,
        from_here None (Some (pos n)) r p ∙ ap (λ b. cond (b || ltb (length c.bytes + 1) n) (Err (Error 21)) (Ok x)) (ne_eqb n 0 (λ e. never 21 (byte_is_below_one not_ended r p e)))
            ∙ ap (λ b. cond b (Err (Error 21)) (Ok x)) (le-ltb (length c.bytes + 1) n within),
        refl,
      )
    where
      within : n ≤ length c.bytes + 1
      within = elim (cases_lt (length c.bytes + 1) n) [
        | inl past ↦ absurd (never 21 (byte_is_beyond not_ended r p past))
        | inr low ↦ low
      ]
  found None None r p = (c, from_here None None r p, refl)

-- ---- the statement

module _ (c : Connection) (spec : TransferSpec) (moved : Moved) where
  abbrev control : ℕ → List Given
  control = control_of spec.layout

  abbrev fit : Condition
  fit = unfit c.modes spec

  by_fit : (n : ℕ) → fit ≡ Error n → Tells c spec moved n
  unfolding transfer_by
  by_fit n e = ap (if_fit control c spec moved) e

  by_place : fit ≡ Fine → (r : Result Connection Condition) → begins_at spec (found_by spec.input c) ≡ r → transfer c spec moved ≡ from_place control c spec moved r
  unfolding transfer_by
  by_place e r is = ap (if_fit control c spec moved) e ∙ ap (from_place control c spec moved) is

  it_fits : (Unfit c spec → ⊥) → (IsForbidden c.modes.action spec.input → ⊥) → fit ≡ Fine
  it_fits never allowed = fits_exactly.fits c.modes spec.layout spec.input (is_explicit spec.layout && not spec.advance) (is_some spec.rec) (is_some spec.pos) never allowed

-- a direct record that is not there
module _ (old b : Connection) (spec : TransferSpec) (modes : EditModes) (moved : Moved) (direct : b.modes.access ≡ Direct) (none : piece b.bytes b.modes.recl b.spot.next_number ≡ None) where
  no_unformatted : unformatted_read b.modes.access old b moved ≡ in_error old true moved.cells (Error 17)
  no_unformatted = ap (λ a. unformatted_read a old b moved) direct ∙ ap (piece_read old b b.spot.next_number moved) none

  no_first : first_record b ≡ Err (Error 17)
  no_first =
      ap (λ a. cond (same_access a Direct) (numbered b b.spot.next_number (piece b.bytes b.modes.recl b.spot.next_number)) (cond (is_reading b.spot.within) (rest_at b) (line_at b))) direct
      ∙ ap (numbered b b.spot.next_number) none

  missing : (layout : Layout) (control : ℕ → List Given) → layout ≢ Listed → ((name : List ℕ) (members : List GroupMember) → layout ≢ Group name members) → read_by layout control old b spec modes moved ≡ in_error old true moved.cells (Error 17)
  missing Unformatted control listed group = no_unformatted
  missing (Explicit f) control listed group = ap (explicit_read old b spec.advance modes control moved) no_first
  missing Listed control listed group = absurd (listed refl)
  missing (Group name members) control listed group = absurd (group name members refl)

pub begins_exactly : BeginsExactly
begins_exactly = record {
  unfit = λ c spec moved h. by_fit c spec moved 16 (fits_exactly.unfit c.modes spec.layout spec.input (is_explicit spec.layout && not spec.advance) (is_some spec.rec) (is_some spec.pos) h);
  forbidden = λ c spec moved never h. by_fit c spec moved 10 (fits_exactly.forbidden c.modes spec.layout spec.input (is_explicit spec.layout && not spec.advance) (is_some spec.rec) (is_some spec.pos) never h);
  nowhere = λ c spec moved never allowed n h. by_place c spec moved (it_fits c spec moved never allowed) (Err (Error n)) (refused spec (found_by spec.input c) n h);
  somewhere = λ c spec never. found spec (found_by spec.input c) never spec.rec spec.pos refl refl;
  no_record = λ c b spec moved never allowed input direct begins modes none. no_record_there c b spec moved never allowed input direct begins modes none;
}
  where
    no_record_there : (c b : Connection) (spec : TransferSpec) (moved : Moved) → (Unfit c spec → ⊥) → (IsForbidden c.modes.action spec.input → ⊥) → spec.input ≡ true → b.modes.access ≡ Direct
        → begins_at spec (ended c) ≡ Ok b → b.modes ≡ c.modes → piece b.bytes b.modes.recl b.spot.next_number ≡ None → Tells c spec moved 17
    no_record_there c b spec moved never allowed input direct begins modes none =
        let here : found_by spec.input c ≡ ended c = ap (λ i. cond i (ended c) c) input in
        let was : c.modes.access ≡ Direct = ap (λ (m : Modes). m.access) (sym modes) ∙ direct in
        let edit = changed spec.edit b.modes.edit in
        by_place c spec moved (it_fits c spec moved never allowed) (Ok b) (ap (begins_at spec) here ∙ begins)
        ∙ ap (λ i. cond i (read_by spec.layout (control_of spec.layout) c b spec edit moved) (written_by spec.layout (control_of spec.layout) c b spec edit moved)) input
        ∙ missing c b spec edit moved direct none spec.layout (control_of spec.layout) (λ l. never (direct_record_is_no_list l was)) (λ name members l. never (direct_record_is_no_group l was))
        ∙ ap (λ i. told_with c (cond i (with_undefined moved.cells) moved.cells) (Error 17)) (sym input)

-- ---- modes

taken : {A : Type 0} (given : Option A) (before : A) → TakesOrKeeps given before (unwrap_or given before)
taken None before = refl
taken (Some value) before = refl

pub changes_by_name : ChangesByName
changes_by_name change modes = record {
  blank_zero = taken change.blank_zero modes.blank_zero;
  comma = taken change.comma modes.comma;
  delim = taken change.delim modes.delim;
  pad = taken change.pad modes.pad;
  plus = taken change.plus modes.plus;
}
