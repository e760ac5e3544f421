use Rattle.std.proofs.Common.{◌≡◌, ◌≢◌, ◌⊎◌, ℕ, zero, suc, List, [], ◌∷◌, ◌++◌, refl, ap, ◌∙◌, inl, inr, arith}
use Rattle.std.specs.List.{All, Contains}
use Rattle.std.proofs.lemmas.List.Elements.{All-head, All-tail}
use Rattle.fj_value.specs.declared.condition.Condition.{Condition}
use Rattle.fj_value.specs.declared.condition.Condition.TheVariants.{Fine, EndOfFile, EndOfRecord, Error}
use Rattle.fj_meaning.specs.State.{Entry}
use Rattle.fj_meaning.specs.Telling.{condition_of, graver}
use Rattle.fj_meaning.specs.TellingLaws.{IsNoError, IsNoEnd}
use Rattle.fj_meaning.proofs.telling_laws.gravest_is_told.Goals as goal

in_cases : (x : Entry) (xs : List Entry) (e : Entry) → Contains (x ∷ xs) e → (x ≡ e) ⊎ Contains xs e
in_cases x xs e (zero, within, at) = inl at
in_cases x xs e (suc k, within, at) = inr (k, omega arith, at)

in_none : {P : Type 0} (e : Entry) → Contains [] e → P
in_none e at = absurd (omega (arith, at.1))

-- ---- errors

first_error : (before after : List Entry) (e : Entry) (n : ℕ) → All IsNoError before → e.condition ≡ Error n → condition_of (before ++ e ∷ after) ≡ Error n
first_error [] after e n h k = ap (λ c. graver c (condition_of after)) k
first_error (x ∷ before) after e n h k =
    ap (graver x.condition) (first_error before after e n (All-tail IsNoError x before h) k) ∙ by x.condition (All-head IsNoError x before h)
  where
    by : (c : Condition) → ((m : ℕ) → c ≢ Error m) → graver c (Error n) ≡ Error n
    by Fine f = refl
    by EndOfFile f = refl
    by EndOfRecord f = refl
    by (Error m) f = absurd (f m refl)

either_error : (c d : Condition) (n : ℕ) → graver c d ≡ Error n → (c ≡ Error n) ⊎ (d ≡ Error n)
either_error Fine d n e = inr e
either_error (Error m) d n e = inl e
either_error EndOfFile Fine n e = cc
either_error EndOfFile EndOfFile n e = cc
either_error EndOfFile EndOfRecord n e = cc
either_error EndOfFile (Error m) n e = inr e
either_error EndOfRecord Fine n e = cc
either_error EndOfRecord EndOfFile n e = cc
either_error EndOfRecord EndOfRecord n e = cc
either_error EndOfRecord (Error m) n e = inr e

no_error : (es : List Entry) → All IsNoError es → (n : ℕ) → condition_of es ≢ Error n
no_error [] h n e = cc
no_error (x ∷ xs) h n e = by (no_error xs (All-tail IsNoError x xs h) n) (either_error x.condition (condition_of xs) n e)
  where
    by : condition_of xs ≢ Error n → (x.condition ≡ Error n) ⊎ (condition_of xs ≡ Error n) → ⊥
    by rest (inl k) = All-head IsNoError x xs h n k
    by rest (inr k) = rest k

-- ---- the end of the file

graver_end : (d : Condition) → ((n : ℕ) → d ≢ Error n) → graver EndOfFile d ≡ EndOfFile
graver_end Fine f = refl
graver_end EndOfFile f = refl
graver_end EndOfRecord f = refl
graver_end (Error n) f = absurd (f n refl)

file_ends : (es : List Entry) (e : Entry) → All IsNoError es → Contains es e → e.condition ≡ EndOfFile → condition_of es ≡ EndOfFile
file_ends [] e h at k = in_none e at
file_ends (x ∷ xs) e h at k = by (in_cases x xs e at) (λ i. file_ends xs e (All-tail IsNoError x xs h) i k) x.condition refl
  where
    rest : (n : ℕ) → condition_of xs ≢ Error n
    rest = no_error xs (All-tail IsNoError x xs h)

    here : x ≡ e → graver x.condition (condition_of xs) ≡ EndOfFile
    here i = ap (λ c. graver c (condition_of xs)) (ap (λ (y : Entry). y.condition) i ∙ k) ∙ graver_end (condition_of xs) rest

    behind : condition_of xs ≡ EndOfFile → (c : Condition) → x.condition ≡ c → graver c (condition_of xs) ≡ EndOfFile
    behind i Fine j = i
    behind i EndOfFile j = graver_end (condition_of xs) rest
    behind i EndOfRecord j = ap (graver EndOfRecord) i
    behind i (Error n) j = absurd (All-head IsNoError x xs h n j)

    by : (x ≡ e) ⊎ Contains xs e → (Contains xs e → condition_of xs ≡ EndOfFile) → (c : Condition) → x.condition ≡ c → graver x.condition (condition_of xs) ≡ EndOfFile
    by (inl i) f c j = here i
    by (inr i) f c j = ap (λ d. graver d (condition_of xs)) j ∙ behind (f i) c j

-- ---- end-of-record

either_end : (c d : Condition) → graver c d ≡ EndOfFile → (c ≡ EndOfFile) ⊎ (d ≡ EndOfFile)
either_end Fine d e = inr e
either_end (Error m) d e = cc
either_end EndOfFile d e = inl refl
either_end EndOfRecord Fine e = cc
either_end EndOfRecord EndOfFile e = inr refl
either_end EndOfRecord EndOfRecord e = cc
either_end EndOfRecord (Error m) e = cc

no_end : (es : List Entry) → All IsNoEnd es → condition_of es ≢ EndOfFile
no_end [] h e = cc
no_end (x ∷ xs) h e = by (no_end xs (All-tail IsNoEnd x xs h)) (either_end x.condition (condition_of xs) e)
  where
    by : condition_of xs ≢ EndOfFile → (x.condition ≡ EndOfFile) ⊎ (condition_of xs ≡ EndOfFile) → ⊥
    by rest (inl k) = All-head IsNoEnd x xs h k
    by rest (inr k) = rest k

graver_record : (d : Condition) → ((n : ℕ) → d ≢ Error n) → d ≢ EndOfFile → graver EndOfRecord d ≡ EndOfRecord
graver_record Fine f g = refl
graver_record EndOfFile f g = absurd (g refl)
graver_record EndOfRecord f g = refl
graver_record (Error n) f g = absurd (f n refl)

record_ends : (es : List Entry) (e : Entry) → All IsNoError es → All IsNoEnd es → Contains es e → e.condition ≡ EndOfRecord → condition_of es ≡ EndOfRecord
record_ends [] e h g at k = in_none e at
record_ends (x ∷ xs) e h g at k = by (in_cases x xs e at) (λ i. record_ends xs e (All-tail IsNoError x xs h) (All-tail IsNoEnd x xs g) i k) x.condition refl
  where
    fit : graver EndOfRecord (condition_of xs) ≡ EndOfRecord
    fit = graver_record (condition_of xs) (no_error xs (All-tail IsNoError x xs h)) (no_end xs (All-tail IsNoEnd x xs g))

    here : x ≡ e → graver x.condition (condition_of xs) ≡ EndOfRecord
    here i = ap (λ c. graver c (condition_of xs)) (ap (λ (y : Entry). y.condition) i ∙ k) ∙ fit

    behind : condition_of xs ≡ EndOfRecord → (c : Condition) → x.condition ≡ c → graver c (condition_of xs) ≡ EndOfRecord
    behind i Fine j = i
    behind i EndOfFile j = absurd (All-head IsNoEnd x xs g j)
    behind i EndOfRecord j = fit
    behind i (Error n) j = absurd (All-head IsNoError x xs h n j)

    by : (x ≡ e) ⊎ Contains xs e → (Contains xs e → condition_of xs ≡ EndOfRecord) → (c : Condition) → x.condition ≡ c → graver x.condition (condition_of xs) ≡ EndOfRecord
    by (inl i) f c j = here i
    by (inr i) f c j = ap (λ d. graver d (condition_of xs)) j ∙ behind (f i) c j

all_fine : (es : List Entry) → All (λ (e : Entry). e.condition ≡ Fine) es → condition_of es ≡ Fine
all_fine [] h = refl
all_fine (x ∷ xs) h =
    ap (λ c. graver c (condition_of xs)) (All-head (λ (e : Entry). e.condition ≡ Fine) x xs h) ∙ all_fine xs (All-tail (λ (e : Entry). e.condition ≡ Fine) x xs h)

pub returns : goal.returns
returns c told = record {
  first_error = λ before after e n is h k. ap condition_of is ∙ first_error before after e n h k;
  file_ends = λ e h at k. file_ends told e h at k;
  record_ends = λ e h g at k. record_ends told e h g at k;
  all_fine = λ h. all_fine told h;
}
