-- Namelist input keeps the kinds of cells.
use Rattle.std.proofs.Common.{◌≡◌, ℕ, zero, suc, ◌+◌, ◌-◌, ◌<◌, Bool, true, false, ◌||◌, cond, eqb, ltb, List, [], ◌∷◌, length, take, drop, get_or, Option, Some, None, refl, sym, ap, subst, ◌∙◌, inr, arith, length-drop, length-take}
use Rattle.std.specs.Prelude.{All, slice_get}
use Rattle.std.proofs.lemmas.Bool.Decides.{nat_tests}
use Rattle.std.proofs.lemmas.List.{get_or-take, get_or-drop}
use Rattle.std.proofs.lemmas.List.Elements.{All-head, All-tail}
use Rattle.std.proofs.lemmas.Option.{none-some, slice_get_within, get_or_from_slice_get}
use Rattle.fj_value.specs.Kind.{IsOfKind}
use Rattle.fj_value.specs.declared.kind.Kind.{Kind}
use Rattle.fj_value.specs.declared.kind.Kind.TheVariants.{Int4, Int8, Logical, Chars}
use Rattle.fj_value.specs.declared.place.Place.{Place as Home}
use Rattle.fj_value.specs.declared.value.Cell.{Cell}
use Rattle.fj_value.specs.declared.value.Value.{Value}
use Rattle.fj_value.specs.declared.condition.Condition.{Condition}
use Rattle.fj_value.specs.declared.condition.Condition.TheVariants.{Error}
use Rattle.fj_list.specs.ConstantLaws.{HaveKinds}
use Rattle.fj_list.specs.declared.constant.Form.{Form}
use Rattle.fj_list.specs.declared.constant.Form.TheVariants.{Null, Undelimited, Delimited}
use Rattle.fj_list.specs.declared.constant.Read.{Read}
use Rattle.fj_list.specs.declared.constant.Read.TheVariants as read
use Rattle.fj_moved.specs.declared.moved.GroupMember.{GroupMember}
use Rattle.fj_moved.specs.Cells.{with_value, places_of}
use Rattle.fj_list.proofs.Constants.{constants_of_kind}
use Rattle.fj_namelist.specs.declared.token.Token.{Token}
use Rattle.fj_namelist.specs.declared.token.Token.TheVariants as token
use Rattle.fj_namelist.specs.declared.token.State.TheVariants.{Between}
use Rattle.fj_namelist.specs.declared.place.Elements.{Elements}
use Rattle.fj_namelist.specs.declared.place.Begun.{Begun}
use Rattle.fj_namelist.specs.declared.place.GroupPlace.{GroupPlace}
use Rattle.fj_namelist.specs.declared.place.GroupPlace.TheVariants as place
use Rattle.fj_namelist.specs.Names.{same_name, member_of, repeat_in, behind_star}
use Rattle.fj_namelist.specs.Tokens.{lines_lexed}
use Rattle.fj_namelist.specs.Heading.{Heading, named, misnamed, missing, heading}
use Rattle.fj_namelist.specs.GroupInput.{Result, Name, elements, element_of, place_of, constant_read, given_to, filled, word_given, separated, value_taken, taken, name_at, begun_at, begun, either_taken, tokens_taken, group_read, group_input}
use Rattle.fj_transfer_laws.specs.Kinds.{HasItsKind, KeepKinds}
use Rattle.fj_transfer_laws.proofs.CellKinds.{cell_set, unchanged}

-- a constant gives a value of its kind
constant_kind : (kind : Kind) (form : Form) (cs : List ℕ) (v : Value) → constant_read kind form cs ≡ read.Defined v → IsOfKind kind v
constant_kind (Chars n) Undelimited cs v e = absurd (cc)
constant_kind (Chars n) Null cs v e = constants_of_kind (Chars n) Null cs v e
constant_kind (Chars n) Delimited cs v e = constants_of_kind (Chars n) Delimited cs v e
constant_kind Int4 form cs v e = constants_of_kind Int4 form cs v e
constant_kind Int8 form cs v e = constants_of_kind Int8 form cs v e
constant_kind Logical form cs v e = constants_of_kind Logical form cs v e

-- a cell has the kind that the cell of its place had
same_kind : (old cells : List Cell) (at : ℕ) (cell : Cell) → places_of cells ≡ places_of old → slice_get cells at ≡ Some cell → (x : Cell) × ((slice_get old at ≡ Some x) × (x.kind ≡ cell.kind))
same_kind old [] at cell e is = absurd (none-some cell is)
same_kind [] (c ∷ cells) at cell e is = absurd (cc)
same_kind (x ∷ old) (c ∷ cells) zero cell e is =
    let it : c ≡ cell = cc in
    let same : (c.place, c.kind) ≡ (x.place, x.kind) = cc in
    (x, (refl, sym (ap (λ (pair : Home × Kind). pair.1) same) ∙ ap (λ (d : Cell). d.kind) it))
same_kind (x ∷ old) (c ∷ cells) (suc at) cell e is = let rest : places_of cells ≡ places_of old = cc in same_kind old cells at cell rest is

module _ (old : List Cell) where
  -- elements are cells of their kind
  abbrev AreOfOneKind : Elements → Type 0
  AreOfOneKind e = (i : ℕ) (cell : Cell) → i < e.count → slice_get old (e.first + i) ≡ Some cell → cell.kind ≡ e.kind

  abbrev IsGood : GroupPlace → Type 0
  IsGood place.Due = Unit {0}
  IsGood (place.At e i begins) = AreOfOneKind e

  abbrev MayBeGood : Option GroupPlace → Type 0
  MayBeGood None = Unit {0}
  MayBeGood (Some p) = IsGood p

  abbrev BeginsGood : Option Begun → Type 0
  BeginsGood None = Unit {0}
  BeginsGood (Some b) = MayBeGood b.place

  abbrev Kept : Result → Type 0
  Kept r = KeepKinds old r.cells

  abbrev Keeps : (List Cell → Result) → Type 0
  Keeps next = (cells : List Cell) → KeepKinds old cells → Kept (next cells)

  -- ---- values

  given_keeps : (got : Read) (e : Elements) (i : ℕ) (next : List Cell → Result) → AreOfOneKind e → i < e.count → ((v : Value) → got ≡ read.Defined v → IsOfKind e.kind v) → Keeps next → Keeps (λ cells. given_to got e i cells next)
  given_keeps read.Null e i next of within is on cells h = on cells h
  given_keeps (read.Defined v) e i next of within is on cells h =
      on (with_value cells (e.first + i) v) (cell_set old cells (e.first + i) v (λ cell there. inr (of_cell cell there)) h) where
        of_cell : (cell : Cell) → slice_get cells (e.first + i) ≡ Some cell → IsOfKind cell.kind v
        of_cell cell there =
            let x = same_kind old cells (e.first + i) cell h.places there in
            subst (λ (kind : Kind). IsOfKind kind v) (sym (of i x.0 within x.1.0) ∙ x.1.1) (is v refl)
  given_keeps (read.Wrong condition) e i next of within is on cells h = h

  filled_keeps : (e : Elements) (form : Form) (cs : List ℕ) (n i : ℕ) (next : ℕ → List Cell → Result) → AreOfOneKind e → ((i' : ℕ) → Keeps (next i')) → Keeps (λ cells. filled e form cs n i cells next)
  filled_keeps e form cs zero i next of on cells h = on i cells h
  filled_keeps e form cs (suc n) i next of on cells h = go (ltb i e.count) refl (filled_keeps e form cs n (i + 1) next of on) where
    rest : List Cell → Result
    rest cells' = filled e form cs n (i + 1) cells' next

    go : (b : Bool) → ltb i e.count ≡ b → Keeps rest → Kept (cond b (given_to (constant_read e.kind form cs) e i cells rest) (record { cells = cells; condition = Error 23 }))
    go true is more = given_keeps (constant_read e.kind form cs) e i rest of (grind (arith, nat_tests)) (constant_kind e.kind form cs) more cells h
    go false is more = h

  word_keeps : (o : Option (Option ℕ)) (rest w : List ℕ) (e : Elements) (i : ℕ) (next : ℕ → List Cell → Result) → AreOfOneKind e → ((i' : ℕ) → Keeps (next i')) → Keeps (λ cells. word_given o rest w e i cells next)
  word_keeps None rest w e i next of on cells h = filled_keeps e Undelimited w 1 i next of on cells h
  word_keeps (Some None) rest w e i next of on cells h = h
  word_keeps (Some (Some n)) [] w e i next of on cells h = filled_keeps e Null [] n i next of on cells h
  word_keeps (Some (Some n)) (c ∷ cs) w e i next of on cells h = filled_keeps e Undelimited (c ∷ cs) n i next of on cells h

  -- ---- tokens

  abbrev KeepsFrom : (GroupPlace → List Cell → Result) → Type 0
  KeepsFrom next = (p : GroupPlace) → IsGood p → Keeps (next p)

  separated_keeps : (e : Elements) (i : ℕ) (begins : Bool) (next : GroupPlace → List Cell → Result) → AreOfOneKind e → KeepsFrom next → Keeps (λ cells. separated e i begins cells next)
  separated_keeps e i false next of on cells h = on (place.At e i true) of cells h
  separated_keeps e i true next of on cells h = go (ltb i e.count) where
    go : (b : Bool) → Kept (cond b (next (place.At e (i + 1) true) cells) (record { cells = cells; condition = Error 23 }))
    go true = on (place.At e (i + 1) true) of cells h
    go false = h

  value_keeps : (t : Token) (e : Elements) (i : ℕ) (begins : Bool) (next : GroupPlace → List Cell → Result) → AreOfOneKind e → KeepsFrom next → Keeps (λ cells. value_taken t e i begins cells next)
  value_keeps token.Separator e i begins next of on cells h = separated_keeps e i begins next of on cells h
  value_keeps (token.Word w) e i begins next of on cells h = word_keeps (repeat_in w) (behind_star w) w e i (λ i' cells'. next (place.At e i' false) cells') of (λ i'. on (place.At e i' false) of) cells h
  value_keeps (token.Constant n cs) e i begins next of on cells h = filled_keeps e Delimited cs n i (λ i' cells'. next (place.At e i' false) cells') of (λ i'. on (place.At e i' false) of) cells h
  value_keeps token.Equals e i begins next of on cells h = h
  value_keeps token.Wrong e i begins next of on cells h = h
  value_keeps (token.Open condition) e i begins next of on cells h = h
  value_keeps (token.End condition) e i begins next of on cells h = h
  value_keeps token.Slash e i begins next of on cells h = h

  taken_keeps : (t : Token) (p : GroupPlace) (next : GroupPlace → List Cell → Result) → IsGood p → KeepsFrom next → Keeps (λ cells. taken t p cells next)
  taken_keeps t place.Due next good on cells h = h
  taken_keeps t (place.At e i begins) next good on cells h = value_keeps t e i begins next good on cells h

  begun_keeps : (b : Begun) (o : Option GroupPlace) (next : GroupPlace → ℕ → List Cell → Result) → MayBeGood o → ((more : ℕ) → KeepsFrom (λ p cells. next p more cells)) → Keeps (λ cells. begun b cells o next)
  begun_keeps b None next good on cells h = h
  begun_keeps b (Some p) next good on cells h = on b.more p good cells h

  either_keeps : (o : Option Begun) (t : Token) (p : GroupPlace) (next : GroupPlace → ℕ → List Cell → Result) → BeginsGood o → IsGood p → ((more : ℕ) → KeepsFrom (λ p' cells. next p' more cells)) → Keeps (λ cells. either_taken o t p cells next)
  either_keeps (Some b) t p next begins good on cells h = begun_keeps b b.place next begins on cells h
  either_keeps None t p next begins good on cells h = taken_keeps t p (λ p' cells'. next p' 0 cells') good (on 0) cells h

  -- ---- members

  member_good : (m : GroupMember) → HasItsKind old m → AreOfOneKind (elements m)
  member_good m is i cell within there =
      let inside : m.first + i < length old = slice_get_within old (m.first + i) cell there in
      let short : i < length (take m.count (drop m.first old)) = omega (arith, inside, within, length-take m.count (drop m.first old), length-drop m.first old) in
      let at : get_or (take m.count (drop m.first old)) i cell ≡ cell =
      get_or-take m.count (drop m.first old) i cell within ∙ get_or-drop m.first old i cell ∙ get_or_from_slice_get old (m.first + i) cell cell there in
      subst (λ (x : Cell). x.kind ≡ m.kind) at (is i cell short)

  abbrev MayBeMember : Option GroupMember → Type 0
  MayBeMember None = Unit {0}
  MayBeMember (Some m) = HasItsKind old m

  found_good : (name : List ℕ) (members : List GroupMember) → All (HasItsKind old) members → MayBeMember (member_of members name)
  found_good name [] h = tt
  found_good name (m ∷ members) h = go (same_name m.name name) (All-head (HasItsKind old) m members h) (found_good name members (All-tail (HasItsKind old) m members h)) where
    go : (b : Bool) → HasItsKind old m → MayBeMember (member_of members name) → MayBeMember (cond b (Some m) (member_of members name))
    go true here more = here
    go false here more = more

  element_good : (m : GroupMember) (n : Option ℕ) → HasItsKind old m → MayBeGood (element_of m n)
  element_good m None h = member_good m h
  element_good m (Some n) h = go (m.scalar || (eqb n 0 || ltb m.count n)) where
    go : (b : Bool) → MayBeGood (cond b None (Some (place.At (elements m) (n - 1) true)))
    go true = tt
    go false = member_good m h

  place_good : (o : Option GroupMember) (n : Option ℕ) → MayBeMember o → MayBeGood (place_of o n)
  place_good None n h = tt
  place_good (Some m) n h = element_good m n h

  begun_good : (members : List GroupMember) (o : Option Name) → All (HasItsKind old) members → BeginsGood (begun_at members o)
  begun_good members None h = tt
  begun_good members (Some name) h = place_good (member_of members name.designator.name) name.designator.subscript (found_good name.designator.name members h)

  tokens_keep : (members : List GroupMember) (skip : ℕ) (ts : List Token) (p : GroupPlace) → All (HasItsKind old) members → IsGood p → Keeps (λ cells. tokens_taken members p skip ts cells)
  tokens_keep members skip [] p are good cells h = h
  tokens_keep members (suc skip) (t ∷ ts) p are good cells h = tokens_keep members skip ts p are good cells h
  tokens_keep members zero (t ∷ ts) p are good cells h =
      let o = begun_at members (name_at t (slice_get ts 0) (slice_get ts 1)) in
      either_keeps o t p (λ p' more cells'. tokens_taken members p' more ts cells') (begun_good members (name_at t (slice_get ts 0) (slice_get ts 1)) are) good (λ more p' good'. tokens_keep members more ts p' are good') cells h

-- ---- the group

read_kept : (comma : Bool) (ending : Condition) (members : List GroupMember) (cells : List Cell) (head : Heading) → All (HasItsKind cells) members → HaveKinds cells → KeepKinds cells (group_read comma ending members cells head).cells
read_kept comma ending members cells missing are h = unchanged cells h
read_kept comma ending members cells (misnamed lines) are h = unchanged cells h
read_kept comma ending members cells (named rest lines) are h = tokens_keep cells members 0 (lines_lexed comma ending (Between true) (rest ∷ lines)).tokens place.Due are tt cells (unchanged cells h)

pub group_kept : (comma : Bool) (lines : List (List ℕ)) (ending : Condition) (group : List ℕ) (members : List GroupMember) (cells : List Cell) → All (HasItsKind cells) members → HaveKinds cells
    → KeepKinds cells (group_input comma lines ending group members cells).cells
group_kept comma lines ending group members cells are h = read_kept comma ending members cells (heading group lines) are h
