-- What was written under a format, read again from the record at hand on.
use Rattle.std.proofs.Common.{◌≡◌, ℕ, ◌+◌, ◌≤◌, true, List, [], ◌∷◌, ◌++◌, length, map, take, drop, Option, Some, None, Ok, refl, sym, ap, subst, ◌∙◌, arith}
use Rattle.std.proofs.lemmas.Bool.{eq-eqb}
use Rattle.fj_value.specs.Kind.{IsOfKind}
use Rattle.fj_value.specs.declared.edit.Edit.{Edit}
use Rattle.fj_value.specs.declared.edit.EditModes.{EditModes}
use Rattle.fj_value.specs.declared.kind.Kind.{Kind}
use Rattle.fj_value.specs.declared.value.Cell.{Cell}
use Rattle.fj_value.specs.declared.value.Value.{Value}
use Rattle.fj_value.specs.declared.value.Value.TheVariants.{Undefined}
use Rattle.fj_value.specs.declared.condition.Condition.TheVariants.{Fine}
use Rattle.fj_format.specs.Unfolding as step
use Rattle.fj_format.specs.Unfolding.{Steps}
use Rattle.fj_control.specs.Steps.{control}
use Rattle.fj_control.specs.Paired as part
use Rattle.fj_control.specs.Paired.{Part, paired, modes_behind}
use Rattle.fj_line.specs.Line.{LineState, farthest, position_behind, empty_line, written, moved}
use Rattle.fj_line.specs.Actions.{Action, put, move, end_record, meet}
use Rattle.fj_line.specs.Records.{texts_from, MeetNone}
use Rattle.fj_line.specs.declared.moves.Move.TheVariants.{Ahead}
use Rattle.fj_edit_out.specs.OutputField.{output_field}
use Rattle.fj_edit_in.specs.InputField.{input_field}
use Rattle.fj_moved.specs.Items.{Output, values_in}
use Rattle.fj_moved.specs.Cells.{with_value, kind_at}
use Rattle.fj_list.specs.ReadAgain.{with_values}
use Rattle.fj_connect.specs.Connection.{Connection}
use Rattle.fj_transfer.specs.AtHand.{AtHand, behind, next_record}
use Rattle.fj_transfer.specs.Explicit.{field_put, action_of}
use Rattle.fj_transfer.specs.Input.{Progress, Ended, width_for, characters_for, with_field, field_read, field_from, with_record, carried_out}
use Rattle.fj_transfer.proofs.FieldLemmas.{all_there}
use Rattle.fj_transfer.proofs.StoredLemmas.{kind_kept}
use Rattle.fj_transfer_laws.specs.RoundTrip.{CanBeRead, characters_in}
use Rattle.fj_transfer_laws.proofs.Results.{result_for, outcome}
use Rattle.fj_transfer_laws.proofs.Fields.{width_taken, value_back}
use Rattle.fj_transfer_laws.proofs.Lines.{IsBehind, put_behind, put_near, longer, ahead_behind, grows, grows_more, stands_at}

-- ---- the items

abbrev pub AreItems : List Output → List Cell → List ℕ → Type 0
AreItems [] cells [] = Unit {0}
AreItems [] cells (at ∷ order) = ⊥
AreItems (x ∷ items) cells [] = ⊥
AreItems (x ∷ items) cells (at ∷ order) = (kind_at cells at ≡ x.0) × IsOfKind x.0 x.1 × AreItems items cells order

items_kept : (items : List Output) (cells : List Cell) (order : List ℕ) (at : ℕ) (v : Value) → AreItems items cells order → AreItems items (with_value cells at v) order
items_kept [] cells [] at v h = tt
items_kept [] cells (k ∷ order) at v h = h
items_kept (x ∷ items) cells [] at v h = h
items_kept (x ∷ items) cells (k ∷ order) at v h = (kind_kept cells at k v ∙ h.0, h.1, items_kept items cells order at v h.2)

-- ---- what an input comes to

pub record Back (last : Connection) (cells : List Cell) (order : List ℕ) (values : List Value) (count : ℕ) (parts : List (Part Output)) (e : Ended) : Type 0 where
  pub condition : e.condition ≡ Fine
  pub cells_are : e.progress.cells ≡ with_values cells order values
  pub count_is : e.progress.count ≡ count + characters_in parts
  pub behind : behind e.progress.hand ≡ last

-- the record at hand, with what was written of it, and the records behind it
abbrev pub Hands : Type 1
Hands = AtHand → List ℕ → List (List ℕ) → Type 0

pub record Ready (There : Hands) (parts : List (Part Output)) (items : List Output) (order : List ℕ) (line : LineState) (p : Progress) (t : List ℕ) (more : List (List ℕ)) : Type 0 where
  pub of_kinds : AreItems items p.cells order
  pub can : CanBeRead parts
  pub none : MeetNone (map action_of parts)
  pub texts : texts_from line (map action_of parts) ≡ t ∷ more
  pub behind : IsBehind line
  pub at : p.at ≡ line.at
  pub near : line.at ≤ farthest
  pub there : There p.hand t more

pub some_texts : (acts : List Action) (line : LineState) → (t : List ℕ) × ((ts : List (List ℕ)) × (texts_from line acts ≡ t ∷ ts))
some_texts [] line = (line.text, ([], refl))
some_texts (put chars ∷ more) line = some_texts more (written chars line)
some_texts (move how ∷ more) line = some_texts more (moved how line)
some_texts (end_record ∷ more) line = (line.text, (texts_from empty_line more, refl))
some_texts (meet condition ∷ more) line = some_texts more line

-- What is known of such records: the characters at hand are what was written, with blanks behind it or none; the next record, and
-- where the connection stands behind the last one.
pub record AreThere (There : Hands) (last : Connection) : Type 0 where
  pub text : (h : AtHand) (t : List ℕ) (more : List (List ℕ)) → There h t more → (pad : List ℕ) × (h.text ≡ t ++ pad)
  pub short : (h : AtHand) (t : List ℕ) (more : List (List ℕ)) → There h t more → length t ≤ farthest
  pub next : (h : AtHand) (t u : List ℕ) (more : List (List ℕ)) → There h t (u ∷ more) → (n : AtHand) × ((next_record (behind h) ≡ Ok n) × There n u more)
  pub end : (h : AtHand) (t : List ℕ) → There h t [] → behind h ≡ last

module _ (There : Hands) (last : Connection) (known : AreThere There last) where
  -- what is to be shown of a list of steps
  abbrev ReadsBack : Steps → Type 0
  ReadsBack s = (modes modes' : EditModes) (items : List Output) (order : List ℕ) (line : LineState) (p : Progress) (t : List ℕ) (more : List (List ℕ)) → Ready There (paired modes (control s (length items)) items) items order line p t more
      → Back last p.cells order (values_in items) p.count (paired modes (control s (length items)) items) (carried_out true (paired modes' (control s (length order)) order) p)

  at_end : (p : Progress) (line : LineState) (t : List ℕ) (more : List (List ℕ)) → Ready There [] [] [] line p t more → Back last p.cells [] [] p.count [] (carried_out true [] p)
  at_end p line t more ready =
      let none : more ≡ [] = let e = ready.texts in cc in
      record {
        condition = refl;
        cells_are = refl;
        count_is = omega arith;
        behind = known.end p.hand t (subst (There p.hand t) none ready.there);
      }

  -- the step over a field
  over_field : (e : Edit) (modes' : EditModes) (k : Kind) (v : Value) (at : ℕ) (field : List ℕ) (p : Progress) (next : Progress → Ended) → kind_at p.cells at ≡ k → characters_for (width_for e k) p ≡ field → length field ≡ width_for e k
      → input_field e k modes'.blank_zero field ≡ Ok v → field_from true e modes' (kind_at p.cells at) at p next ≡ next (with_field (width_for e k) (length field) at v p)
  over_field e modes' k v at field p next kind chars long value =
      let w = width_for e k in
      let result : result_for e modes' k w field ≡ Ok v = sym (all_there modes'.pad w field (input_field e k modes'.blank_zero) long) ∙ value in
      ap (λ q. field_from true e modes' q at p next) kind
      ∙ ap (λ l. field_read true modes'.pad w l at (result_for e modes' k w l) p next) chars
      ∙ ap (λ r. field_read true modes'.pad w field at r p next) result
      ∙ ap (λ b. outcome b true modes'.pad p (with_field w (length field) at v p) (record p { cells = with_value p.cells at Undefined }) next) (eq-eqb (length field) w long)

  item_back : (s : Steps) → ReadsBack s → (modes modes' : EditModes) (e : Edit) (x : Output) (items : List Output) (at : ℕ) (order : List ℕ) (line : LineState) (p : Progress) (t : List ℕ) (more : List (List ℕ)) (o : Option (List ℕ)) → output_field e x.1 x.0 modes.plus ≡ o
      → Ready There (part.item modes e x ∷ paired modes (control s (length items)) items) (x ∷ items) (at ∷ order) line p t more
      → MeetNone (field_put o ∷ map action_of (paired modes (control s (length items)) items)) → texts_from line (field_put o ∷ map action_of (paired modes (control s (length items)) items)) ≡ t ∷ more
      → Back last p.cells (at ∷ order) (x.1 ∷ values_in items) p.count (part.item modes e x ∷ paired modes (control s (length items)) items)
      (carried_out true (part.item modes' e at ∷ paired modes' (control s (length order)) order) p)
  item_back s h modes modes' e x items at order line p t more None is ready none texts = absurd none
  item_back s h modes modes' e x items at order line p t more (Some field) is ready none texts =
      let k = x.0 in
      let v = x.1 in
      let w = width_for e k in
      let parts = paired modes (control s (length items)) items in
      let rest = paired modes' (control s (length order)) order in
      let line' = written field line in
      let near : length t ≤ farthest = known.short p.hand t more ready.there in
      let whole = known.text p.hand t more ready.there in
      let long : length field ≡ w = width_taken e k v modes.plus field ready.of_kinds.1 ready.can.0 is in
      let value = value_back e k v modes.plus modes'.blank_zero field ready.of_kinds.1 ready.can.1 is in
      let grown = grows parts line' t more ready.can.2 (put_behind line field ready.behind) near texts in
      let end : line.at + length field ≤ farthest = put_near line field farthest ready.behind ready.near (omega (arith, near, longer (map action_of parts) line' t more texts)) in
      let chars : characters_for w p ≡ field =
      ap (λ n. take w (drop n p.hand.text)) ready.at ∙ ap (λ n. take n (drop line.at p.hand.text)) (sym long)
      ∙ ap (λ l. take (length field) (drop line.at l)) whole.1 ∙ stands_at line field (t ++ whole.0) ready.behind (grows_more line' t whole.0 grown) in
      let p' = with_field w (length field) at v p in
      let over : carried_out true (part.item modes' e at ∷ rest) p ≡ carried_out true rest p' = over_field e modes' k v at field p (carried_out true rest) ready.of_kinds.0 chars long value in
      let more' : Back last p'.cells order (values_in items) p'.count parts (carried_out true rest p') = h modes modes' items order line' p' t more (record {
        of_kinds = items_kept items p.cells order at v ready.of_kinds.2;
        can = ready.can.2;
        none = none;
        texts = texts;
        behind = put_behind line field ready.behind;
        at = omega (arith, ready.at, long, end);
        near = end;
        there = ready.there;
      }) in
      subst (Back last p.cells (at ∷ order) (v ∷ values_in items) p.count (part.item modes e x ∷ parts)) (sym over)
      (record { condition = more'.condition; cells_are = more'.cells_are; count_is = omega (arith, more'.count_is, long); behind = more'.behind })

  slash_back : (s : Steps) → ReadsBack s → (modes modes' : EditModes) (items : List Output) (order : List ℕ) (line : LineState) (p : Progress) (t : List ℕ) (more : List (List ℕ))
      → Ready There (part.slash ∷ paired modes (control s (length items)) items) items order line p t more
      → Back last p.cells order (values_in items) p.count (part.slash ∷ paired modes (control s (length items)) items) (carried_out true (part.slash ∷ paired modes' (control s (length order)) order) p)
  slash_back s h modes modes' items order line p t more ready =
      let parts = paired modes (control s (length items)) items in
      let rest = paired modes' (control s (length order)) order in
      let some = some_texts (map action_of parts) empty_line in
      let u = some.0 in
      let us = some.1.0 in
      let is : more ≡ u ∷ us = let e : line.text ∷ texts_from empty_line (map action_of parts) ≡ t ∷ more = ready.texts in let e' = some.1.1 in cc in
      let found = known.next p.hand t u us (subst (There p.hand t) is ready.there) in
      let p' : Progress = record p { hand = found.0; at = 0 } in
      let over : carried_out true (part.slash ∷ rest) p ≡ carried_out true rest p' = ap (λ r. with_record r p (carried_out true rest)) found.1.0 in
      let more' : Back last p'.cells order (values_in items) p'.count parts (carried_out true rest p') = h modes modes' items order empty_line p' u us (record {
        of_kinds = ready.of_kinds;
        can = ready.can;
        none = ready.none;
        texts = some.1.1;
        behind = omega arith;
        at = refl;
        near = omega arith;
        there = found.1.1;
      }) in
      subst (Back last p.cells order (values_in items) p.count (part.slash ∷ parts)) (sym over)
      (record { condition = more'.condition; cells_are = more'.cells_are; count_is = more'.count_is; behind = more'.behind })

  move_back : (s : Steps) → ReadsBack s → (n : ℕ) (modes modes' : EditModes) (items : List Output) (order : List ℕ) (line : LineState) (p : Progress) (t : List ℕ) (more : List (List ℕ))
      → Ready There (part.move (Ahead n) ∷ paired modes (control s (length items)) items) items order line p t more
      → Back last p.cells order (values_in items) p.count (part.move (Ahead n) ∷ paired modes (control s (length items)) items) (carried_out true (part.move (Ahead n) ∷ paired modes' (control s (length order)) order) p)
  move_back s h n modes modes' items order line p t more ready =
      let parts = paired modes (control s (length items)) items in
      let line' = moved (Ahead n) line in
      let near : length t ≤ farthest = known.short p.hand t more ready.there in
      let more' = h modes modes' items order line' (record p { at = position_behind (Ahead n) p.at }) t more (record {
        of_kinds = ready.of_kinds;
        can = ready.can;
        none = ready.none;
        texts = ready.texts;
        behind = ahead_behind n line ready.behind (omega (arith, near, longer (map action_of parts) line' t more ready.texts));
        at = ap (position_behind (Ahead n)) ready.at;
        near = omega arith;
        there = ready.there;
      }) in
      record { condition = more'.condition; cells_are = more'.cells_are; count_is = more'.count_is; behind = more'.behind }

  pub read_back : (s : Steps) → ReadsBack s
  read_back [] modes modes' [] [] line p t more ready = at_end p line t more ready
  read_back [] modes modes' [] (at ∷ order) line p t more ready = absurd ready.of_kinds
  read_back [] modes modes' (x ∷ items) order line p t more ready = absurd ready.can
  read_back (step.edit e ∷ s) modes modes' [] [] line p t more ready = at_end p line t more ready
  read_back (step.edit e ∷ s) modes modes' [] (at ∷ order) line p t more ready = absurd ready.of_kinds
  read_back (step.edit e ∷ s) modes modes' (x ∷ items) [] line p t more ready = absurd ready.of_kinds
  read_back (step.edit e ∷ s) modes modes' (x ∷ items) (at ∷ order) line p t more ready =
      item_back s (read_back s) modes modes' e x items at order line p t more (output_field e x.1 x.0 modes.plus) refl ready ready.none ready.texts
  read_back (step.colon ∷ s) modes modes' [] [] line p t more ready = at_end p line t more ready
  read_back (step.colon ∷ s) modes modes' [] (at ∷ order) line p t more ready = absurd ready.of_kinds
  read_back (step.colon ∷ s) modes modes' (x ∷ items) [] line p t more ready = absurd ready.of_kinds
  read_back (step.colon ∷ s) modes modes' (x ∷ items) (at ∷ order) line p t more ready = read_back s modes modes' (x ∷ items) (at ∷ order) line p t more ready
  read_back (step.string text ∷ s) modes modes' items order line p t more ready = absurd ready.can
  read_back (step.tab n ∷ s) modes modes' items order line p t more ready = absurd ready.can
  read_back (step.left n ∷ s) modes modes' items order line p t more ready = absurd ready.can
  read_back (step.right n ∷ s) modes modes' items order line p t more ready = move_back s (read_back s) n modes modes' items order line p t more ready
  read_back (step.slash ∷ s) modes modes' items order line p t more ready = slash_back s (read_back s) modes modes' items order line p t more ready
  read_back (step.mode m ∷ s) modes modes' items order line p t more ready = read_back s (modes_behind m modes) (modes_behind m modes') items order line p t more ready
