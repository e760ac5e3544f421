-- What a disk holds, and what its calls do to it.
use Rattle.std.specs.Prelude.{◌≡◌, ◌≢◌, ℕ, Bool, true, false, ◌||◌, List, Option, Some, None, if◌then◌else◌, IsTrue, not, refl}
use Rattle.std.specs.Ordering.{nat_cmp}
use Rattle.std.specs.Cmp.Lexicographic.{slice_cmp}
use Rattle.std.specs.FinMap as map
use Rattle.std.specs.FinSet as set
use Rattle.std.specs.Coded.{Coded, code_by, coded×, coded_list, coded_ℕ}

-- file names, in the order of their bytes
abbrev pub Names : Type 0
Names = set.FinSet (slice_cmp nat_cmp)

-- bytes by file name
abbrev pub Files : Type 0
Files = map.FinMap (slice_cmp nat_cmp) (List ℕ)

pub record Holdings : Type 0 where
  -- the files at home
  pub files : Files
  -- the names whose file is out
  pub in_use : Names
  -- the names whose file was last given back with a count that is not 0
  pub hurt : Names

abbrev pub Exists : Holdings → List ℕ → Type 0
Exists h name = IsTrue (map.contains_key h.files name || set.contains h.in_use name)

abbrev pub IsInUse : Holdings → List ℕ → Type 0
IsInUse h name = IsTrue (set.contains h.in_use name)

abbrev pub IsFree : Holdings → List ℕ → Type 0
IsFree h name = IsTrue (not (set.contains h.in_use name))

abbrev pub IsHurt : Holdings → List ℕ → Type 0
IsHurt h name = IsTrue (set.contains h.hurt name)

-- the file of that name, there before or not, is out
unfoldable pub out_of : Holdings → List ℕ → Holdings
out_of h name = record h { files = map.remove h.files name; in_use = set.insert h.in_use name }

-- a file is back under its name; it was hurt where its count is not 0
unfoldable pub given : Holdings → List ℕ → List ℕ → Bool → Holdings
given h name bytes sound = record {
  files = map.insert h.files name bytes;
  in_use = set.remove h.in_use name;
  hurt = if sound then set.remove h.hurt name else set.insert h.hurt name;
}

unfoldable pub without : Holdings → List ℕ → Holdings
without h name = record h { files = map.remove h.files name }

abbrev coded_name : Coded (List ℕ)
coded_name = coded_list coded_ℕ

-- holdings are stored as the triple of their parts
abbrev pub holdings_code : Coded Holdings
holdings_code = code_by (Files × (Names × Names)) (coded× (map.code coded_name (coded_list coded_ℕ)) (coded× (set.code coded_name) (set.code coded_name)))
    (λ h. (h.files, (h.in_use, h.hurt))) (λ p. record { files = p.0; in_use = p.1.0; hurt = p.1.1 }) (λ _. refl)

-- what is told of a name: its file at home, whether it is in use, and whether it is hurt
abbrev pub Shows : Holdings → List ℕ → Option (List ℕ) → Bool → Bool → Type 0
Shows h name file in_use hurt = (map.get h.files name ≡ file) × (set.contains h.in_use name ≡ in_use) × (set.contains h.hurt name ≡ hurt)

-- of a name the same is told as before
abbrev pub SameAt : Holdings → Holdings → List ℕ → Type 0
SameAt old new name = Shows new name (map.get old.files name) (set.contains old.in_use name) (set.contains old.hurt name)

-- the steps, name by name: a file that is out is not at home and its name is in use; one that came back is at home with its
-- bytes, and hurt where it was not sound; one that was removed is gone. A name stays hurt until its file comes back sound.
-- Of all other names the same is told as before
abbrev pub StepsChangeOneName : Type 0
StepsChangeOneName = (h : Holdings) (name bytes : List ℕ) (sound : Bool) →
    Shows (out_of h name) name None true (set.contains h.hurt name)
    × Shows (given h name bytes sound) name (Some bytes) false (not sound)
    × Shows (without h name) name None (set.contains h.in_use name) (set.contains h.hurt name)
    × ((q : List ℕ) → q ≢ name → SameAt h (out_of h name) q × SameAt h (given h name bytes sound) q × SameAt h (without h name) q)
