-- Control over lists, and the steps that are due.
use Rattle.std.specs.Prelude.{replicate, Option, Some, None, IfSome}
use Rattle.fj_value.specs.declared.edit.Edit.{Edit}
use Rattle.std.proofs.Common.{ℕ, zero, suc, ◌+◌, ◌-◌, ◌≡◌, ◌≤◌, Bool, true, false, cond, ◌<◌, ◌||◌, unwrap_or, List, [], ◌∷◌, ◌++◌, refl, sym, ap, ◌∙◌, arith, append_assoc, append-nil}
use Rattle.std.proofs.lemmas.List.Folds.{list_any-append}
use Rattle.fj_format.specs.declared.item.FormatItem.{FormatItem}
use Rattle.fj_format.specs.declared.item.FormatItem.TheVariants as item
use Rattle.fj_format.specs.Unfolding as step
use Rattle.fj_format.specs.Unfolding.{Elementary, Steps, repeated, pass, again, written_out, has_data, has_unlimited, is_unlimited}
use Rattle.fj_format.proofs.UnfoldingLaws.{written_out-Unlimited, is_unlimited-Unlimited}
use Rattle.fj_control.proofs.Reversion.{again_unlimited}
use Rattle.fj_control.specs.Steps.{Given, gives, done, control, round_of, round, rounds, RoundsAreEnough, GoesOnInTheRecord}
use Rattle.fj_control.specs.Walk.{Position, walking, ended, lacking, Walk, next_from, next_none, next_again, next_at, next_of, begun, due, due_at, is_left, is_end, items_behind, GivesWhatIsDue, IsRun, GivesTheSteps}

-- how many data descriptors a list has
abbrev data_count : Steps → ℕ
data_count [] = 0
data_count (step.edit e ∷ xs) = suc (data_count xs)
data_count (_ ∷ xs) = data_count xs

data_count-append : (a b : Steps) → data_count (a ++ b) ≡ data_count a + data_count b
data_count-append [] b = omega arith
data_count-append (step.edit e ∷ a) b = omega (arith, data_count-append a b)
data_count-append (step.string s ∷ a) b = data_count-append a b
data_count-append (step.tab n ∷ a) b = data_count-append a b
data_count-append (step.left n ∷ a) b = data_count-append a b
data_count-append (step.right n ∷ a) b = data_count-append a b
data_count-append (step.slash ∷ a) b = data_count-append a b
data_count-append (step.colon ∷ a) b = data_count-append a b
data_count-append (step.mode m ∷ a) b = data_count-append a b

data_count-positive : (a : Steps) → has_data a ≡ true → 1 ≤ data_count a
data_count-positive [] h = cc
data_count-positive (step.edit e ∷ a) h = omega arith
data_count-positive (step.string s ∷ a) h = data_count-positive a h
data_count-positive (step.tab n ∷ a) h = data_count-positive a h
data_count-positive (step.left n ∷ a) h = data_count-positive a h
data_count-positive (step.right n ∷ a) h = data_count-positive a h
data_count-positive (step.slash ∷ a) h = data_count-positive a h
data_count-positive (step.colon ∷ a) h = data_count-positive a h
data_count-positive (step.mode m ∷ a) h = data_count-positive a h

-- what follows a colon behind n data descriptors is not reached with n items
control_cut : (a : Steps) (n : ℕ) (b : Steps) → n ≤ data_count a → control (a ++ step.colon ∷ b) n ≡ control a n
control_cut [] zero b h = refl
control_cut [] (suc n) b h = absurd (omega arith)
control_cut (step.edit e ∷ a) zero b h = refl
control_cut (step.edit e ∷ a) (suc n) b h = ap (λ l. gives (step.edit e) ∷ l) (control_cut a n b (omega arith))
control_cut (step.colon ∷ a) zero b h = refl
control_cut (step.colon ∷ a) (suc n) b h = control_cut a (suc n) b h
control_cut (step.string s ∷ a) n b h = ap (λ l. gives (step.string s) ∷ l) (control_cut a n b h)
control_cut (step.tab k ∷ a) n b h = ap (λ l. gives (step.tab k) ∷ l) (control_cut a n b h)
control_cut (step.left k ∷ a) n b h = ap (λ l. gives (step.left k) ∷ l) (control_cut a n b h)
control_cut (step.right k ∷ a) n b h = ap (λ l. gives (step.right k) ∷ l) (control_cut a n b h)
control_cut (step.slash ∷ a) n b h = ap (λ l. gives step.slash ∷ l) (control_cut a n b h)
control_cut (step.mode m ∷ a) n b h = ap (λ l. gives (step.mode m) ∷ l) (control_cut a n b h)

-- what follows more data descriptors than there are items is not reached
control_end : (a : Steps) (n : ℕ) (b : Steps) → n < data_count a → control (a ++ b) n ≡ control a n
control_end [] n b h = absurd (omega arith)
control_end (step.edit e ∷ a) zero b h = refl
control_end (step.edit e ∷ a) (suc n) b h = ap (λ l. gives (step.edit e) ∷ l) (control_end a n b (omega arith))
control_end (step.colon ∷ a) zero b h = refl
control_end (step.colon ∷ a) (suc n) b h = control_end a (suc n) b h
control_end (step.string s ∷ a) n b h = ap (λ l. gives (step.string s) ∷ l) (control_end a n b h)
control_end (step.tab k ∷ a) n b h = ap (λ l. gives (step.tab k) ∷ l) (control_end a n b h)
control_end (step.left k ∷ a) n b h = ap (λ l. gives (step.left k) ∷ l) (control_end a n b h)
control_end (step.right k ∷ a) n b h = ap (λ l. gives (step.right k) ∷ l) (control_end a n b h)
control_end (step.slash ∷ a) n b h = ap (λ l. gives step.slash ∷ l) (control_end a n b h)
control_end (step.mode m ∷ a) n b h = ap (λ l. gives (step.mode m) ∷ l) (control_end a n b h)

-- ---- rounds

repeated_last : (n : ℕ) (s : Steps) → s ++ repeated n s ≡ repeated n s ++ s
repeated_last zero s = append-nil s
repeated_last (suc n) s = ap (λ l. s ++ l) (repeated_last n s) ∙ sym (append_assoc s (repeated n s) s)

data_count-rounds : (n : ℕ) (more : Steps) → has_data more ≡ true → n ≤ data_count (repeated n more)
data_count-rounds zero more h = omega arith
data_count-rounds (suc n) more h = omega (arith, data_count-append more (repeated n more), data_count-positive more h, data_count-rounds n more h)

one_last : (a more : Steps) (k : ℕ) → a ++ repeated (suc k) more ≡ (a ++ repeated k more) ++ more
one_last a more k = ap (λ l. a ++ l) (repeated_last k more) ∙ sym (append_assoc a (repeated k more) more)

-- one round more, where there are enough
one_more : (a more : Steps) (k n : ℕ) → n < data_count (a ++ repeated k more) → control (a ++ repeated (suc k) more) n ≡ control (a ++ repeated k more) n
one_more a more k n h = ap (λ l. control l n) (one_last a more k) ∙ control_end (a ++ repeated k more) n more h

enough_above : (a more : Steps) (n d : ℕ) → has_data more ≡ true → control (a ++ repeated (d + suc n) more) n ≡ control (a ++ repeated (suc n) more) n
enough_above a more n zero h = let e : 0 + suc n ≡ suc n = omega arith in ap (λ k. control (a ++ repeated k more) n) e
enough_above a more n (suc d) h =
    let e : suc d + suc n ≡ suc (d + suc n) = omega arith in
    ap (λ k. control (a ++ repeated k more) n) e
    ∙ one_more a more (d + suc n) n (omega (arith, data_count-append a (repeated (d + suc n) more), data_count-rounds (d + suc n) more h))
    ∙ enough_above a more n d h

-- more rounds than items are enough
pub enough : (a more : Steps) (n k : ℕ) → has_data more ≡ true → n < k → control (a ++ repeated k more) n ≡ control (a ++ repeated (suc n) more) n
enough a more n k h above =
    let e : (k - suc n) + suc n ≡ k = omega arith in ap (λ m. control (a ++ repeated m more) n) (sym e) ∙ enough_above a more n (k - suc n) h

-- as many rounds as items are enough where each begins with a colon
as_many : (a more : Steps) (n : ℕ) → has_data more ≡ true → control (a ++ repeated (suc n) (step.colon ∷ more)) n ≡ control (a ++ repeated n (step.colon ∷ more)) n
as_many a more n h =
    let all = repeated n (step.colon ∷ more) in
    ap (λ l. control l n) (one_last a (step.colon ∷ more) n)
    ∙ control_cut (a ++ all) n more (omega (arith, data_count-append a all, data_count-rounds n (step.colon ∷ more) h))

pub enough_colons : (a more : Steps) (n k : ℕ) → has_data more ≡ true → n ≤ k → control (a ++ repeated k (step.colon ∷ more)) n ≡ control (a ++ repeated (suc n) (step.colon ∷ more)) n
enough_colons a more n k h within = by_amount (k - n) k refl within
  where
    by_amount : (d k : ℕ) → k - n ≡ d → n ≤ k → control (a ++ repeated k (step.colon ∷ more)) n ≡ control (a ++ repeated (suc n) (step.colon ∷ more)) n
    by_amount zero k e le = let same : k ≡ n = omega arith in ap (λ m. control (a ++ repeated m (step.colon ∷ more)) n) same ∙ sym (as_many a more n h)
    by_amount (suc d) k e le = enough a (step.colon ∷ more) n k h (omega arith)

pub rounds_with_data : (n : ℕ) (more : Steps) → has_data more ≡ true → rounds n more ≡ repeated (suc n) more
rounds_with_data n more h = ap (λ b. cond b (repeated (suc n) more) []) h

pub rounds_without_data : (n : ℕ) (more : Steps) → has_data more ≡ false → rounds n more ≡ []
rounds_without_data n more h = ap (λ b. cond b (repeated (suc n) more) []) h

pub rounds_are_enough : RoundsAreEnough
rounds_are_enough f n k none h le =
    let is : round f ≡ step.colon ∷ step.slash ∷ again f = ap (λ b. round_of b (again f)) none in
    enough_colons (pass f) (step.slash ∷ again f) n k h le
    ∙ ap (λ l. control (pass f ++ l) n) (sym (rounds_with_data n (step.colon ∷ step.slash ∷ again f) h))
    ∙ ap (λ m. control (pass f ++ rounds n m) n) (sym is)

-- ---- behind an unlimited item

pass-append : (f g : List FormatItem) → pass (f ++ g) ≡ pass f ++ pass g
pass-append [] g = refl
pass-append (x ∷ f) g = ap (λ l. written_out x ++ l) (pass-append f g) ∙ sym (append_assoc (written_out x) (pass f) (pass g))

or_true : (b : Bool) → (b || true) ≡ true
or_true true = refl
or_true false = refl

unlimited_there : (front inner : List FormatItem) → has_unlimited (front ++ item.Unlimited inner ∷ []) ≡ true
unlimited_there front inner =
    list_any-append is_unlimited front (item.Unlimited inner ∷ []) ∙ ap (λ b. has_unlimited front || (b || false)) (is_unlimited-Unlimited inner) ∙ or_true (has_unlimited front)

pub goes_on_in_the_record : GoesOnInTheRecord
goes_on_in_the_record front inner n k h above =
    let f = front ++ item.Unlimited inner ∷ [] in
    let is : round f ≡ pass inner = ap (λ b. round_of b (again f)) (unlimited_there front inner) ∙ again_unlimited front inner in
    let first : pass f ≡ pass front ++ pass inner =
    pass-append front (item.Unlimited inner ∷ []) ∙ ap (λ l. pass front ++ l) (append-nil (written_out (item.Unlimited inner)) ∙ written_out-Unlimited inner) in
    ap (λ m. control (pass f ++ rounds n m) n) is
    ∙ ap (λ l. control (pass f ++ l) n) (rounds_with_data n (pass inner) h)
    ∙ ap (λ l. control (l ++ repeated (suc n) (pass inner)) n) first
    ∙ ap (λ l. control l n) (append_assoc (pass front) (pass inner) (repeated (suc n) (pass inner)))
    ∙ enough (pass front) (pass inner) n (suc (suc n)) h (omega arith)
    ∙ sym (enough (pass front) (pass inner) n k h above)

-- ---- one step

-- a step and what is due behind it
abbrev with_rest : Steps → ℕ → Given → Position → List Given
with_rest more n g at = g ∷ cond (is_end g) [] (due_at more at (items_behind g n))

abbrev StepIsDue : Steps → ℕ → List Given → Given × Position → Type 0
StepIsDue more n out o = out ≡ with_rest more n o.0 o.1

fewer_rounds : (a more : Steps) (n : ℕ) (b : Bool) → has_data more ≡ b → control (a ++ rounds (suc n) more) n ≡ control (a ++ rounds n more) n
fewer_rounds a more n true e =
    ap (λ l. control (a ++ l) n) (rounds_with_data (suc n) more e)
    ∙ enough a more n (suc (suc n)) e (omega arith)
    ∙ sym (ap (λ l. control (a ++ l) n) (rounds_with_data n more e))
fewer_rounds a more n false e = ap (λ l. control (a ++ l) n) (rounds_without_data (suc n) more e ∙ sym (rounds_without_data n more e))

-- in a round, behind which as many follow as there are items
round_goes : (more rest : Steps) (n : ℕ) → has_data more ≡ true → has_data rest ≡ true → control (rest ++ repeated n more) n ≡ control (rest ++ rounds n more) n
round_goes more rest n h there =
    sym (ap (λ l. control (rest ++ l) n) (rounds_with_data n more h)
    ∙ one_more rest more n n (omega (arith, data_count-append rest (repeated n more), data_count-positive rest there, data_count-rounds n more h)))

step_of_round : (more rest : Steps) (n : ℕ) → has_data more ≡ true → has_data rest ≡ true →
    StepIsDue more n (control (rest ++ repeated n more) n) (unwrap_or (next_from (is_left n) rest) (done, ended))
step_of_round more [] n h there = absurd (let no : false ≡ true = there in cc)
step_of_round more (step.edit e ∷ rest) zero h there = refl
step_of_round more (step.edit e ∷ rest) (suc n) h there = ap (λ l. gives (step.edit e) ∷ control (rest ++ l) n) (sym (rounds_with_data n more h))
step_of_round more (step.colon ∷ rest) zero h there = refl
step_of_round more (step.colon ∷ rest) (suc n) h there = step_of_round more rest (suc n) h there
step_of_round more (step.string s ∷ rest) n h there = ap (λ l. gives (step.string s) ∷ l) (round_goes more rest n h there)
step_of_round more (step.tab k ∷ rest) n h there = ap (λ l. gives (step.tab k) ∷ l) (round_goes more rest n h there)
step_of_round more (step.left k ∷ rest) n h there = ap (λ l. gives (step.left k) ∷ l) (round_goes more rest n h there)
step_of_round more (step.right k ∷ rest) n h there = ap (λ l. gives (step.right k) ∷ l) (round_goes more rest n h there)
step_of_round more (step.slash ∷ rest) n h there = ap (λ l. gives step.slash ∷ l) (round_goes more rest n h there)
step_of_round more (step.mode m ∷ rest) n h there = ap (λ l. gives (step.mode m) ∷ l) (round_goes more rest n h there)

none_left : (more : Steps) (n : ℕ) → StepIsDue more n (control [] n) (next_none (is_left n))
none_left more zero = refl
none_left more (suc n) = refl

at_the_end : (more : Steps) (n : ℕ) (b : Bool) → has_data more ≡ b → StepIsDue more n (control (rounds n more) n) (next_again more (is_left n))
at_the_end more n true e =
    let at = unwrap_or (next_from (is_left n) more) (done, ended) in
    let next : next_again more (is_left n) ≡ at = ap (λ b. cond b at (next_none (is_left n))) e in
    ap (λ l. control l n) (rounds_with_data n more e) ∙ step_of_round more more n e e
    ∙ ap (λ (o : Given × Position). with_rest more n o.0 o.1) (sym next)
at_the_end more n false e =
    let at = unwrap_or (next_from (is_left n) more) (done, ended) in
    let next : next_again more (is_left n) ≡ next_none (is_left n) = ap (λ b. cond b at (next_none (is_left n))) e in
    ap (λ l. control l n) (rounds_without_data n more e) ∙ none_left more n ∙ ap (λ (o : Given × Position). with_rest more n o.0 o.1) (sym next)

step_in : (more rest : Steps) (n : ℕ) → StepIsDue more n (control (rest ++ rounds n more) n) (unwrap_or (next_from (is_left n) rest) (next_again more (is_left n)))
step_in more [] n = at_the_end more n (has_data more) refl
step_in more (step.edit e ∷ rest) zero = refl
step_in more (step.edit e ∷ rest) (suc n) = ap (λ l. gives (step.edit e) ∷ l) (fewer_rounds rest more n (has_data more) refl)
step_in more (step.colon ∷ rest) zero = refl
step_in more (step.colon ∷ rest) (suc n) = step_in more rest (suc n)
step_in more (step.string s ∷ rest) n = refl
step_in more (step.tab k ∷ rest) n = refl
step_in more (step.left k ∷ rest) n = refl
step_in more (step.right k ∷ rest) n = refl
step_in more (step.slash ∷ rest) n = refl
step_in more (step.mode m ∷ rest) n = refl

step_at : (more : Steps) (at : Position) (n : ℕ) → StepIsDue more n (due_at more at n) (next_at more (is_left n) at)
step_at more (walking rest) n = step_in more rest n
step_at more ended n = refl
step_at more lacking n = refl

pub gives_what_is_due : (old new : Walk) (left : Bool) (g : Given) → g ≡ (next_of old left).0 → new ≡ (next_of old left).1 → GivesWhatIsDue old left g new
gives_what_is_due old new left g is goes n e =
    step_at old.again old.at n
    ∙ ap (λ l. with_rest old.again n (next_of old l).0 (next_of old l).1.at) (sym e)
    ∙ ap (λ x. with_rest old.again n x (next_of old left).1.at) (sym is)
    ∙ ap (λ (w : Walk). with_rest w.again n g w.at) (sym goes)

-- ---- whole runs

run_is_due : (walk : Walk) (n : ℕ) (out : List Given) → IsRun walk n out → out ≡ due walk n
run_is_due walk n [] h = absurd h
run_is_due walk n (g ∷ []) h =
    let w = (next_of walk (is_left n)).1 in
    sym (step_at walk.again walk.at n ∙ ap (λ x. with_rest walk.again n x w.at) (sym h.0) ∙ ap (λ b. g ∷ cond b [] (due w (items_behind g n))) h.1)
run_is_due walk n (g ∷ x ∷ rest) h =
    let w = (next_of walk (is_left n)).1 in
    sym (step_at walk.again walk.at n ∙ ap (λ y. with_rest walk.again n y w.at) (sym h.0) ∙ ap (λ b. g ∷ cond b [] (due w (items_behind g n))) h.1
    ∙ ap (λ l. g ∷ l) (sym (run_is_due w (items_behind g n) (x ∷ rest) h.2)))

due_is_run : (walk : Walk) (n : ℕ) (out : List Given) → out ≡ due walk n → IsRun walk n out
due_is_run walk n [] e = let k : [] ≡ with_rest walk.again n _ _ = e ∙ step_at walk.again walk.at n in cc
due_is_run walk n (g ∷ []) e =
    let w = (next_of walk (is_left n)).1 in
    let k : g ∷ [] ≡ with_rest walk.again n (next_of walk (is_left n)).0 w.at = e ∙ step_at walk.again walk.at n in
    let same : g ≡ (next_of walk (is_left n)).0 = cc in
    (same, ends (is_end g) refl (k ∙ ap (λ y. with_rest walk.again n y w.at) (sym same)))
  where
    ends : (b : Bool) → is_end g ≡ b → g ∷ [] ≡ with_rest walk.again n g (next_of walk (is_left n)).1.at → is_end g ≡ true
    ends true is k = is
    ends false is k =
        let w = (next_of walk (is_left n)).1 in
        let m = items_behind g n in
        let o = next_of w (is_left m) in
        let j : g ∷ [] ≡ g ∷ with_rest w.again m o.0 o.1.at = k ∙ ap (λ b. g ∷ cond b [] (due w m)) is ∙ ap (λ l. g ∷ l) (step_at w.again w.at m) in
        cc
due_is_run walk n (g ∷ x ∷ rest) e =
    let w = (next_of walk (is_left n)).1 in
    let k : g ∷ x ∷ rest ≡ with_rest walk.again n (next_of walk (is_left n)).0 w.at = e ∙ step_at walk.again walk.at n in
    let same : g ≡ (next_of walk (is_left n)).0 = cc in
    let is = goes (is_end g) refl (k ∙ ap (λ y. with_rest walk.again n y w.at) (sym same)) in
    (same, is.0, due_is_run w (items_behind g n) (x ∷ rest) is.1)
  where
    goes : (b : Bool) → is_end g ≡ b → g ∷ x ∷ rest ≡ with_rest walk.again n g (next_of walk (is_left n)).1.at →
        (is_end g ≡ false) × (x ∷ rest ≡ due (next_of walk (is_left n)).1 (items_behind g n))
    goes true is k =
        let j : g ∷ x ∷ rest ≡ g ∷ [] = k ∙ ap (λ b. g ∷ cond b [] (due (next_of walk (is_left n)).1 (items_behind g n))) is in
        cc
    goes false is k =
        let j : g ∷ x ∷ rest ≡ g ∷ due (next_of walk (is_left n)).1 (items_behind g n) =
        k ∙ ap (λ b. g ∷ cond b [] (due (next_of walk (is_left n)).1 (items_behind g n))) is in
        (is, cc)

pub gives_the_steps : GivesTheSteps
gives_the_steps f n out = (run_is_due (begun f) n out, due_is_run (begun f) n out)

-- ---- a data descriptor that comes again

pub repeats_are_due : (more : Steps) (e : Edit) (count : ℕ) (rest : Steps) (n : ℕ) → count ≤ n
    → control ((repeated count (step.edit e ∷ []) ++ rest) ++ rounds n more) n ≡ replicate count (gives (step.edit e)) ++ control (rest ++ rounds (n - count) more) (n - count)
repeats_are_due more e zero rest n h = let same : n - 0 ≡ n = omega arith in ap (λ k. control (rest ++ rounds k more) k) (sym same)
repeats_are_due more e (suc count) rest zero h = absurd (omega arith)
repeats_are_due more e (suc count) rest (suc n) h =
    let all = repeated count (step.edit e ∷ []) ++ rest in
    let same : suc n - suc count ≡ n - count = omega arith in
    ap (λ l. gives (step.edit e) ∷ l)
    (fewer_rounds all more n (has_data more) refl ∙ repeats_are_due more e count rest n (omega arith)
    ∙ ap (λ k. replicate count (gives (step.edit e)) ++ control (rest ++ rounds k more) k) (sym same))

pub runs_are_due : (r : Option (Edit × ℕ)) (walk next : Walk) (old new more : Steps) → walk ≡ record { at = walking old; again = more } → next ≡ record { at = walking new; again = more }
    → IfSome r (λ (run : Edit × ℕ). old ≡ repeated run.1 (step.edit run.0 ∷ []) ++ new)
    → IfSome r (λ (run : Edit × ℕ). (n : ℕ) → run.1 ≤ n → due walk n ≡ replicate run.1 (gives (step.edit run.0)) ++ due next (n - run.1))
runs_are_due None walk next old new more is is' e = tt
runs_are_due (Some run) walk next old new more is is' e =
    λ n h. ap (λ (w : Walk). due w n) is ∙ ap (λ l. control (l ++ rounds n more) n) e ∙ repeats_are_due more run.0 run.1 new n h
    ∙ ap (λ (w : Walk). replicate run.1 (gives (step.edit run.0)) ++ due w (n - run.1)) (sym is')
