-- Plans by file name.
use Rattle.std.specs.Prelude.{◌≡◌, ◌≢◌, ℕ, List, [], String, IsTrue, is_some, unwrap_or}
use Rattle.std.specs.BTreeMap.{BTreeMap, get_by_text}
use Rattle.std.specs.declared.alloc.Global.{Global}
use Rattle.fj_outside.specs.Plan.{Calls, planned}

abbrev pub Plans : Type 0
Plans = BTreeMap (String Global) Calls

-- the plan of a name; where none has a place, no call was made and none fails
abbrev pub plan_under : Plans → List ℕ → Calls
plan_under plans name = unwrap_or (get_by_text plans name) (planned [])

abbrev pub HasPlace : Plans → List ℕ → Type 0
HasPlace plans name = IsTrue (is_some (get_by_text plans name))

-- each name has the plan that it had, and its place
pub record KeepsPlans (old new : Plans) : Type 0 where
  pub plans : (q : List ℕ) → plan_under new q ≡ plan_under old q
  pub places : (q : List ℕ) → HasPlace old q → HasPlace new q

-- one name got this plan, and all others have the plan that they had
pub record ChangesPlan (old new : Plans) (name : List ℕ) (plan : Calls) : Type 0 where
  pub changed : plan_under new name ≡ plan
  pub others : (q : List ℕ) → q ≢ name → plan_under new q ≡ plan_under old q
  pub places : (q : List ℕ) → HasPlace old q → HasPlace new q
