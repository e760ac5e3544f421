-- Tokens taken one after another.
use Rattle.std.proofs.Common.{◌≡◌, ℕ, zero, suc, ◌+◌, ◌-◌, ◌<◌, Bool, true, false, ◌||◌, cond, eqb, ltb, List, [], ◌∷◌, length, drop, get_or, Option, Some, None, slice_get, sym, ap, ◌∙◌, arith}
use Rattle.std.specs.Prelude.{All}
use Rattle.std.proofs.lemmas.List.{drop_more}
use Rattle.fj_value.specs.declared.value.Cell.{Cell}
use Rattle.fj_moved.specs.declared.moved.GroupMember.{GroupMember}
use Rattle.fj_namelist.specs.declared.token.Token.{Token}
use Rattle.fj_namelist.specs.declared.token.Token.TheVariants as token
use Rattle.fj_namelist.specs.declared.place.GroupPlace.{GroupPlace}
use Rattle.fj_namelist.specs.declared.place.GroupPlace.TheVariants as place
use Rattle.fj_namelist.specs.Names.{same_name, member_of}
use Rattle.fj_namelist.specs.GroupText.{IsWithin}
use Rattle.fj_namelist.specs.GroupInput.{Name, element_of, place_of, name_at, begun_at, either_taken, tokens_taken}
use Rattle.fj_namelist.specs.Walker.{MayPlace, MayBegin}

-- a member that is found is one of them
abbrev MayBeWithin : ℕ → Option GroupMember → Type 0
MayBeWithin cells None = Unit {0}
MayBeWithin cells (Some m) = IsWithin cells m

found_within : (cells : ℕ) (name : List ℕ) (members : List GroupMember) → All (IsWithin cells) members → MayBeWithin cells (member_of members name)
found_within cells name [] h = tt
found_within cells name (m ∷ members) h = go (same_name m.name name) (h 0 m (omega arith)) (found_within cells name members (λ k d below. h (suc k) d (omega arith))) where
  go : (b : Bool) → IsWithin cells m → MayBeWithin cells (member_of members name) → MayBeWithin cells (cond b (Some m) (member_of members name))
  go true here more = here
  go false here more = more

element_within : (cells : ℕ) (m : GroupMember) (n : Option ℕ) → IsWithin cells m → MayPlace cells (element_of m n)
element_within cells m None h = h
element_within cells m (Some n) h = go (m.scalar || (eqb n 0 || ltb m.count n)) where
  go : (b : Bool) → MayPlace cells (cond b None (Some (place.At (record { kind = m.kind; first = m.first; count = m.count }) (n - 1) true)))
  go true = tt
  go false = h

place_within : (cells : ℕ) (o : Option GroupMember) (n : Option ℕ) → MayBeWithin cells o → MayPlace cells (place_of o n)
place_within cells None n h = tt
place_within cells (Some m) n h = element_within cells m n h

pub begun_within : (cells : ℕ) (members : List GroupMember) (o : Option Name) → All (IsWithin cells) members → MayBegin cells (begun_at members o)
begun_within cells members None h = tt
begun_within cells members (Some name) h = place_within cells (member_of members name.designator.name) name.designator.subscript (found_within cells name.designator.name members h)

-- a token, and then the others
pub take_first : (members : List GroupMember) (tokens : List Token) (i : ℕ) (t : Token) (p : GroupPlace) (cells : List Cell) → i < length tokens → t ≡ get_or tokens i t
    → tokens_taken members p 0 (drop i tokens) cells
    ≡ either_taken (begun_at members (name_at t (slice_get (drop (i + 1) tokens) 0) (slice_get (drop (i + 1) tokens) 1))) t p cells (λ p' more cells'. tokens_taken members p' more (drop (i + 1) tokens) cells')
take_first members tokens i t p cells within is =
    ap (λ (ts : List Token). tokens_taken members p 0 ts cells) (drop_more tokens i t within ∙ ap (λ (x : Token). x ∷ drop (i + 1) tokens) (sym is))

-- a token that was taken with another one
pub take_skipped : (members : List GroupMember) (tokens : List Token) (i skip : ℕ) (p : GroupPlace) (cells : List Cell) → i < length tokens → 0 < skip
    → tokens_taken members p skip (drop i tokens) cells ≡ tokens_taken members p (skip - 1) (drop (i + 1) tokens) cells
take_skipped members tokens i skip p cells within some = go skip some where
  go : (n : ℕ) → 0 < n → tokens_taken members p n (drop i tokens) cells ≡ tokens_taken members p (n - 1) (drop (i + 1) tokens) cells
  go zero h = absurd (omega arith)
  go (suc n) h =
      let less : n ≡ suc n - 1 = omega arith in
      ap (λ (ts : List Token). tokens_taken members p (suc n) ts cells) (drop_more tokens i token.Slash within) ∙ ap (λ k. tokens_taken members p k (drop (i + 1) tokens) cells) less
