-- Records as one list of characters, with a mark at each record's end.
use Rattle.std.specs.Prelude.{ℕ, Bool, not, ◌||◌, ◌==◌, if◌then◌else◌, List, [], ◌∷◌, ◌++◌, map, drop, Option, Some, None}

-- characters, and none at a record's end
abbrev pub Stream : Type 0
Stream = List (Option ℕ)

abbrev pub stream : List (List ℕ) → Stream
stream [] = []
stream (line ∷ lines) = map (λ (c : ℕ). Some c) line ++ None ∷ stream lines

abbrev pub with_first : ℕ → List (List ℕ) → List (List ℕ)
with_first c [] = (c ∷ []) ∷ []
with_first c (line ∷ lines) = (c ∷ line) ∷ lines

-- the records of such a list, the first of which may be the rest of one
unfoldable pub records_in : Stream → List (List ℕ)
records_in [] = []
records_in (None ∷ s) = [] ∷ records_in s
records_in (Some c ∷ s) = with_first c (records_in s)

-- the records behind the one at hand
unfoldable pub records_behind : Stream → List (List ℕ)
records_behind s = drop 1 (records_in s)

-- the characters of a record up to one that stops them, or to its end
abbrev pub front : (ℕ → Bool) → Stream → List ℕ
front stops [] = []
front stops (None ∷ s) = []
front stops (Some c ∷ s) = if stops c then [] else c ∷ front stops s

-- what follows them
abbrev pub behind : (ℕ → Bool) → Stream → Stream
behind stops [] = []
behind stops (None ∷ s) = None ∷ s
behind stops (Some c ∷ s) = if stops c then Some c ∷ s else behind stops s

-- a blank or a tab
abbrev pub is_blank : ℕ → Bool
is_blank c = (c == 32) || (c == 9)

abbrev pub is_no_blank : ℕ → Bool
is_no_blank c = not (is_blank c)

-- from the first character on that is no blank; the end of a record counts as one
abbrev pub skipped : Stream → Stream
skipped [] = []
skipped (None ∷ s) = skipped s
skipped (Some c ∷ s) = if is_blank c then skipped s else Some c ∷ s
