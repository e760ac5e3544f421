-- Which calls on an object fail, and how many there were.
use Rattle.std.specs.Prelude.{ℕ, ◌+◌, ◌-◌, ◌^◌, List, min, Contains, refl}
use Rattle.std.specs.Coded.{Coded, code_by, coded×, coded_list, coded_ℕ}

pub record Calls : Type 0 where
  -- the numbers of the calls that fail; the first call has number 1
  pub fails : List ℕ
  -- how many calls there were
  pub made : ℕ

-- they are stored as the pair of their parts
abbrev pub calls_code : Coded Calls
calls_code = code_by (List ℕ × ℕ) (coded× (coded_list coded_ℕ) coded_ℕ) (λ c. (c.fails, c.made)) (λ p. record { fails = p.0; made = p.1 }) (λ _. refl)

-- no call was made, and these fail
abbrev pub planned : List ℕ → Calls
planned fails = record { fails = fails; made = 0 }

-- the number of the next call, which stays at the end of u64
abbrev pub next_call : Calls → ℕ
next_call calls = min (calls.made + 1) (2 ^ 64 - 1)

abbrev pub FailsNext : Calls → Type 0
FailsNext calls = Contains calls.fails (next_call calls)

abbrev pub after_call : Calls → Calls
after_call calls = record calls { made = next_call calls }
