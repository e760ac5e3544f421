-- The words of a batch.
use Rattle.std.specs.Prelude.{ℕ, ◌&&◌, not, nat_le, Bool, true, List, [], ◌∷◌, length, take, drop, codes, Option, Some, None, option_and_then, if◌then◌else◌}
use Rattle.std.specs.Char.{is_ascii_alphanumeric}
use Rattle.std.specs.List.{list_all, list_any}
use Rattle.std.specs.Str.{bytes_eq}
use Rattle.std.specs.Fmt.{decimal}
use lib.Pointwise.{pointwise}
use Rattle.fj_report.specs.Words.{number_up_to}

abbrev pub Word : Type 0
Word = List ℕ

-- a name has 1 to 16 letters or digits
abbrev pub is_name : Word → Bool
is_name word = nat_le 1 (length word) && (nat_le (length word) 16 && list_all is_ascii_alphanumeric word)

-- no word stands twice
abbrev pub are_apart : List Word → Bool
are_apart [] = true
are_apart (word ∷ words) = not (list_any (bytes_eq word) words) && are_apart words

-- there are 1 to 64 names, and no name twice
unfoldable pub are_names : List Word → Bool
are_names words = nat_le 1 (length words) && (nat_le (length words) 64 && (list_all is_name words && are_apart words))

-- how many workers are beside each member, and the names
abbrev pub Batch : Type 0
Batch = ℕ × List Word

abbrev pub batch_with : ℕ → List Word → Option Batch
batch_with workers words = if are_names words then Some (workers, words) else None

-- the number of workers is 0 to 4
abbrev pub batch_for : Word → List Word → Option Batch
batch_for number words = option_and_then (λ workers. batch_with workers words) (number_up_to 4 number)

-- the words behind `--workers`
abbrev pub behind_workers : List Word → Option Batch
behind_workers [] = None
behind_workers (number ∷ words) = batch_for number words

-- the words behind `batch`: without `--workers` there is one
unfoldable pub behind_batch : List Word → Option Batch
behind_batch [] = None
behind_batch (word ∷ words) =
    if bytes_eq word (codes "--workers") then behind_workers words
    else if bytes_eq (take 10 word) (codes "--workers=") then batch_for (drop 10 word) words
    else batch_with 1 (word ∷ words)

unfoldable pub batch_of : List Word → Option Batch
batch_of [] = None
batch_of (command ∷ words) = if bytes_eq command (codes "batch") then behind_batch words else None

-- how many workers the words ask for beside each member, where its names are these in order
abbrev pub batch_over : List Word → Option Batch → Option ℕ
batch_over names batch = option_and_then (λ it. if pointwise bytes_eq it.1 names then Some it.0 else None) batch

abbrev pub workers_for : List Word → List Word → Option ℕ
workers_for words names = batch_over names (batch_of words)

-- the words by which a deck is run with so many workers beside
abbrev pub run_words : ℕ → List Word
run_words workers = codes "run" ∷ codes "--workers" ∷ decimal workers ∷ []
