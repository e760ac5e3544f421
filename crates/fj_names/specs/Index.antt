-- The index of names, and the sums that go with it.
use Rattle.std.specs.Prelude.{◌≡◌, ℕ, List, min}
use Rattle.std.specs.List.{sum_by}
use Rattle.std.specs.BTreeMap.{BTreeMap, get_by}
use Rattle.std.specs.Cmp.Lexicographic.{slice_cmp}
use Rattle.std.specs.Ordering.{nat_cmp}
use Rattle.std.specs.declared.alloc.Global.{Global}
use Rattle.std.specs.declared.vec.Vec.{Vec}
use Rattle.fj_names.specs.declared.scope.Named.{Named}
use Rattle.fj_names.specs.declared.scope.Scope.{Scope}
use Rattle.fj_names.specs.Declaring.{places, characters}
use Rattle.fj_names.specs.Scope.{named}

-- the index finds what each name stands for, and the sums are those of the variables, up to one more than allowed
pub record IsIndexed (s : Scope) (index : BTreeMap (Vec ℕ Global) Named) (place_count character_count : ℕ) : Type 0 where
  pub finds : (name : List ℕ) → get_by (λ k. slice_cmp nat_cmp name k.items) index ≡ named s name
  pub places_are : place_count ≡ min (sum_by places s.variables) 1000001
  pub characters_are : character_count ≡ min (sum_by characters s.variables) 16777217
