-- What a statement's condition is where it tells transfers (ISO/IEC 1539-1:2004, 9.10).
use Rattle.std.specs.Prelude.{◌≡◌, ◌≢◌, ℕ, List, ◌∷◌, ◌++◌}
use Rattle.std.specs.List.{All, Contains}
use Rattle.fj_value.specs.declared.condition.Condition.TheVariants.{Fine, EndOfFile, EndOfRecord, Error}
use Rattle.fj_meaning.specs.State.{Entry}
use Rattle.fj_meaning.specs.Telling.{condition_of}

abbrev pub IsNoError : Entry → Type 0
IsNoError e = (n : ℕ) → e.condition ≢ Error n

abbrev pub IsNoEnd : Entry → Type 0
IsNoEnd e = e.condition ≢ EndOfFile

-- the first error; without one the end of the file, where it was told; without that end-of-record; else fine
pub record IsGravest (told : List Entry) : Type 0 where
  pub first_error : (before after : List Entry) (e : Entry) (n : ℕ) → told ≡ before ++ e ∷ after → All IsNoError before → e.condition ≡ Error n → condition_of told ≡ Error n
  pub file_ends : (e : Entry) → All IsNoError told → Contains told e → e.condition ≡ EndOfFile → condition_of told ≡ EndOfFile
  pub record_ends : (e : Entry) → All IsNoError told → All IsNoEnd told → Contains told e → e.condition ≡ EndOfRecord → condition_of told ≡ EndOfRecord
  pub all_fine : All (λ (e : Entry). e.condition ≡ Fine) told → condition_of told ≡ Fine

abbrev pub GravestIsTold : Type 0
GravestIsTold = (told : List Entry) → IsGravest told
