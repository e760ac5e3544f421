-- The limits that the standard leaves to the processor.
use Rattle.std.specs.Prelude.{ℕ}

-- the longest formatted record, in characters; 9.4.5.12 leaves the choice to the processor
abbrev pub longest_formatted : ℕ
longest_formatted = 65536

-- the longest unformatted record, in bytes
abbrev pub longest_unformatted : ℕ
longest_unformatted = 16777216

-- the longest file, in bytes
abbrev pub longest_file : ℕ
longest_file = 268435456
