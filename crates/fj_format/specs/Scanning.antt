-- The scanner, one byte at a time.
use Rattle.std.specs.Prelude.{ℕ, ◌≡◌, ◌==◌, if◌then◌else◌, List, [], ◌∷◌, ◌++◌, Option, Some, None}
use Rattle.fj_format.specs.declared.reader.Reader.{Reader}
use Rattle.fj_format.specs.declared.place.FormatPlace.TheVariants.{Begin}
use Rattle.fj_format.specs.declared.scanner.Quote.{Quote}
use Rattle.fj_format.specs.declared.scanner.Quote.TheVariants.{Outside, Inside, Ended}
use Rattle.fj_format.specs.declared.scanner.Scanner.{Scanner}
use Rattle.fj_format.specs.Symbols.{is_blank, is_quote, symbol_of}
use Rattle.fj_format.specs.Reading.{next, next_text, takes_text}

abbrev pub in_quote : Reader → Quote → List ℕ → Scanner
in_quote s q string = record { reader = s; quote = q; string = string }

abbrev pub first : Scanner
first = in_quote (record { levels = []; items = []; place = Begin }) Outside []

abbrev pub outside_with : Option Reader → Option Scanner
outside_with None = None
outside_with (Some s) = Some (in_quote s Outside [])

abbrev pub outside_char : Reader → ℕ → Option Scanner
outside_char s c =
    if is_blank c then Some (in_quote s Outside [])
    else (if is_quote c then (if takes_text s.place then Some (in_quote s (Inside c) []) else None)
    else outside_with (next s (symbol_of c)))

abbrev pub outside_from : Option Reader → ℕ → Option Scanner
outside_from None c = None
outside_from (Some s) c = outside_char s c

abbrev pub scan_at : Quote → Reader → List ℕ → ℕ → Option Scanner
scan_at Outside s string c = outside_char s c
scan_at (Inside q) s string c = if c == q then Some (in_quote s (Ended q) string) else Some (in_quote s (Inside q) (string ++ c ∷ []))
scan_at (Ended q) s string c = if c == q then Some (in_quote s (Inside q) (string ++ q ∷ [])) else outside_from (next_text s string) c

-- the scanner behind one more byte, or none where no format goes on so
abbrev pub scan : Scanner → ℕ → Option Scanner
scan s c = scan_at s.quote s.reader s.string c

-- Outside a string nothing of one is kept.
abbrev pub IsClear : Quote → List ℕ → Type 0
IsClear Outside string = string ≡ []
IsClear (Inside q) string = Unit {0}
IsClear (Ended q) string = Unit {0}
