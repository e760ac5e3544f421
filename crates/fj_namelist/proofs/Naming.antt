-- What the names of assignments name.
use Rattle.std.proofs.Common.{◌≡◌, ℕ, ◌+◌, ◌-◌, ◌<◌, ◌≤◌, Bool, true, false, ◌||◌, cond, eqb, ltb, List, [], ◌∷◌, Some, None, sym, ap, subst, ◌∙◌, refl, inl, inr, arith}
use Rattle.std.proofs.lemmas.Bool.Decides.{nat_tests}
use Rattle.std.proofs.lemmas.Option.{none-some}
use Rattle.fj_moved.specs.declared.moved.GroupMember.{GroupMember}
use Rattle.fj_namelist.specs.declared.place.GroupPlace.TheVariants as place
use Rattle.fj_namelist.specs.Names.{same_name, member_of}
use Rattle.fj_namelist.specs.GroupInput.{elements, element_of}
use Rattle.fj_namelist.specs.GroupReadAgain.{IsAmong}
use Rattle.fj_namelist.specs.Naming.{IsFirst, here, later, ElementsAreNamed}

-- by the three tests
by_tests : (m : GroupMember) (n : ℕ) (a b c : Bool) → m.scalar ≡ a → eqb n 0 ≡ b → ltb m.count n ≡ c → element_of m (Some n) ≡ cond (a || (b || c)) None (Some (place.At (elements m) (n - 1) true))
by_tests m n a b c e e' e'' =
    let there = Some (place.At (elements m) (n - 1) true) in
    ap (λ x. cond (x || (eqb n 0 || ltb m.count n)) None there) e ∙ ap (λ x. cond (a || (x || ltb m.count n)) None there) e' ∙ ap (λ x. cond (a || (b || x)) None there) e''

there : (m : GroupMember) (n i : ℕ) → m.scalar ≡ false → i + 1 ≡ n → n ≤ m.count → element_of m (Some n) ≡ Some (place.At (elements m) i true)
there m n i array is within =
    let some : eqb n 0 ≡ false = grind (arith, nat_tests) in
    let inside : ltb m.count n ≡ false = grind (arith, nat_tests) in
    let before : n - 1 ≡ i = omega arith in
    by_tests m n false false false array some inside ∙ ap (λ k. Some (place.At (elements m) k true)) before

below : (m : GroupMember) (n : ℕ) → n ≡ 0 → element_of m (Some n) ≡ None
below m n is = go m.scalar refl (grind (arith, nat_tests)) where
  go : (a : Bool) → m.scalar ≡ a → eqb n 0 ≡ true → element_of m (Some n) ≡ None
  go true e e' = by_tests m n true true (ltb m.count n) e e' refl
  go false e e' = by_tests m n false true (ltb m.count n) e e' refl

beyond : (m : GroupMember) (n : ℕ) → m.count < n → element_of m (Some n) ≡ None
beyond m n past = go m.scalar (eqb n 0) refl refl (grind (arith, nat_tests)) where
  go : (a b : Bool) → m.scalar ≡ a → eqb n 0 ≡ b → ltb m.count n ≡ true → element_of m (Some n) ≡ None
  go true b e e' e'' = by_tests m n true b true e e' e''
  go false true e e' e'' = by_tests m n false true true e e' e''
  go false false e e' e'' = by_tests m n false false true e e' e''

found : (members : List GroupMember) (name : List ℕ) (m : GroupMember) → member_of members name ≡ Some m → IsFirst name m members
found [] name m e = absurd (none-some m e)
found (x ∷ members) name m e = go (same_name x.name name) refl e (λ e'. found members name m e') where
  go : (b : Bool) → same_name x.name name ≡ b → cond b (Some x) (member_of members name) ≡ Some m → (member_of members name ≡ Some m → IsFirst name m members) → IsFirst name m (x ∷ members)
  go true same is more = let it : x ≡ m = cc in subst (λ (y : GroupMember). IsFirst name y (x ∷ members)) it (here same)
  go false same is more = later same (more is)

missing : (members : List GroupMember) (name : List ℕ) → member_of members name ≡ None → (m : GroupMember) → IsAmong m members → same_name m.name name ≡ false
missing [] name e m among = absurd among
missing (x ∷ members) name e m among = go (same_name x.name name) refl e among (λ e' among'. missing members name e' m among') where
  go : (b : Bool) → same_name x.name name ≡ b → cond b (Some x) (member_of members name) ≡ None → IsAmong m (x ∷ members) → (member_of members name ≡ None → IsAmong m members → same_name m.name name ≡ false) → same_name m.name name ≡ false
  go true same is among more = absurd (none-some x (sym is))
  go false same is (inl it) more = ap (λ (y : GroupMember). same_name y.name name) (sym it) ∙ same
  go false same is (inr among') more = more is among'

pub elements_named : ElementsAreNamed
elements_named members name m = record {
  member = record { found = found members name; none = missing members name };
  first = refl;
  element = λ n. record {
    there = λ i array is within. there m n i array is within;
    scalar = λ e. by_tests m n true (eqb n 0) (ltb m.count n) e refl refl;
    below = below m n;
    beyond = beyond m n;
  };
}
