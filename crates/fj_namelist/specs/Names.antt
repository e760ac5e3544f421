-- Names of a namelist group and of its members, and subscripts behind them.
use Rattle.std.specs.Prelude.{ℕ, ◌+◌, ◌-◌, ◌^◌, Bool, ◌||◌, ◌&&◌, ◌==◌, nat_lt, min, is_some, if◌then◌else◌, List, [], ◌∷◌, length, take, drop, Option, Some, None, slice_get}
use Rattle.std.specs.List.{find, position_or_len}
use Rattle.std.specs.Option.{option_map}
use Rattle.std.specs.Str.{str_eq_ignore_ascii_case}
use Rattle.fj_value.specs.Digits.{number_in}
use Rattle.fj_list.specs.ListInput.{is_no_digit}
use Rattle.fj_moved.specs.declared.moved.GroupMember.{GroupMember}

-- names are equal but for the case of letters
abbrev pub same_name : List ℕ → List ℕ → Bool
same_name a b = str_eq_ignore_ascii_case a b

-- the first member of a name
abbrev pub member_of : List GroupMember → List ℕ → Option GroupMember
member_of members name = find (λ (m : GroupMember). same_name m.name name) members

-- a name, and a subscript or none
pub record Designator : Type 0 where
  pub name : List ℕ
  pub subscript : Option ℕ

abbrev pub is_opening : ℕ → Bool
is_opening c = c == 40

-- digits before a right parenthesis that comes last; a number of more than 64 bits counts as the greatest one
abbrev pub closed_number : List ℕ → Option ℕ → Option ℕ
closed_number cs None = None
closed_number cs (Some c) = if c == 41 then option_map (λ n. min n (2 ^ 64 - 1)) (number_in 10 (take (length cs - 1) cs)) else None

-- the number of digits between parentheses
abbrev pub subscript_in : List ℕ → Option ℕ
subscript_in [] = None
subscript_in (c ∷ cs) = if is_opening c then closed_number cs (slice_get cs (length cs - 1)) else None

-- a name, or a name with a subscript
abbrev pub designated : List ℕ → List ℕ → Option Designator
designated [] rest = None
designated (c ∷ name) [] = Some (record { name = c ∷ name; subscript = None })
designated (c ∷ name) (d ∷ rest) = option_map (λ n. record { name = c ∷ name; subscript = Some n }) (subscript_in (d ∷ rest))

abbrev pub designator : List ℕ → Option Designator
designator cs = designated (take (position_or_len is_opening cs) cs) (drop (position_or_len is_opening cs) cs)

-- a subscript that is parted from its name by blanks
abbrev pub subscripted : List ℕ → Option ℕ → Option ℕ → Option Designator
subscripted name None (Some n) = Some (record { name = name; subscript = Some n })
subscripted name _ _ = None

abbrev pub with_subscript : Option Designator → Option ℕ → Option Designator
with_subscript None n = None
with_subscript (Some d) n = subscripted d.name d.subscript n

-- what `=` ends: a name, or the subscript of one
abbrev pub ends_at_equals : List ℕ → Bool
ends_at_equals cs = is_some (designator cs) || is_some (subscript_in cs)

-- a count of 1 to 4,294,967,295
abbrev pub ranged : ℕ → Option ℕ
ranged n = if nat_lt 0 n && nat_lt n (2 ^ 32) then Some n else None

abbrev pub starred : List ℕ → List ℕ → Option (Option ℕ)
starred digits [] = None
starred digits (c ∷ cs) = if c == 42 then option_map ranged (number_in 10 digits) else None

-- the repeat count that a word begins with, or that it is out of range; or none
abbrev pub repeat_in : List ℕ → Option (Option ℕ)
repeat_in w = starred (take (position_or_len is_no_digit w) w) (drop (position_or_len is_no_digit w) w)

-- what is repeated
abbrev pub behind_star : List ℕ → List ℕ
behind_star w = drop (position_or_len is_no_digit w + 1) w
