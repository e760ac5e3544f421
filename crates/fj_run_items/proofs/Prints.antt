-- What the output on `*` grows by.
use Rattle.std.proofs.Common.{◌≡◌, ℕ, zero, suc, ◌+◌, ◌-◌, ◌≤◌, eqb, cond, not, ◌||◌, Bool, true, false, List, [], ◌∷◌, ◌++◌, length, take, drop, Result, Ok, Err, OnErr, refl, sym, ap, subst, ◌∙◌, arith, append_assoc, append-nil, length-append}
use Rattle.std.proofs.lemmas.List.{take-append-le}
use Rattle.std.proofs.lemmas.Bool.Decides.{nat_tests}
use Rattle.std.specs.List.{flat_map}
use Rattle.std.specs.Prelude.{unwrap_or}
use Rattle.fj_value.specs.declared.condition.Condition.{Condition}
use Rattle.fj_value.specs.declared.condition.Condition.TheVariants.{Fine, Error}
use Rattle.fj_value.specs.declared.edit.EditModes.{EditModes}
use Rattle.fj_control.specs.Steps.{Given}
use Rattle.fj_list.specs.ListText.{text_of}
use Rattle.fj_moved.specs.declared.moved.Moved.{Moved}
use Rattle.fj_modes.specs.Modes.{usual_edit}
use Rattle.fj_statement.specs.declared.deck.Variable.{Variable}
use Rattle.fj_statement.specs.declared.statement.Transfer.{Transfer as Stated}
use Rattle.fj_statement.specs.declared.statement.Statement.TheVariants.{Transfer}
use Rattle.fj_store.specs.Variables.{Variables}
use Rattle.fj_transfer.specs.Change.{changed}
use Rattle.fj_transfer.specs.declared.change.EditChange.{EditChange}
use Rattle.fj_transfer.specs.declared.transfer.Layout.{Layout}
use Rattle.fj_transfer.specs.declared.transfer.TransferSpec.{TransferSpec}
use Rattle.fj_transfer.specs.Printing.{Printed, open_count, actions_by, control_of, printed_by}
use Rattle.fj_transfer.specs.Transfer.{is_explicit, is_formatted, ends_record}
use Rattle.fj_transfer.specs.Writing.{Prints}
use Rattle.fj_meaning.specs.State.{Output}
use Rattle.fj_meaning.specs.Statement.{control_by}
use Rattle.fj_meaning.specs.Telling.{is_asynchronous}
use Rattle.fj_meaning.specs.Transfers.{layout_of, spec_in, moved_in, printed_to, star_printed}
use Rattle.fj_run_items.specs.Outputs.{output_of}
use Rattle.fj_run_items.specs.declared.star.Output.TheInside.{Inside}
use Rattle.fj_run_items.proofs.Takes.{job_control}
use Rattle.fj_run_items.specs.Handing.{whole_records, ended_part, printed_on, HandsOver, HandsFront, HandsPart, TakesFront, TakesPart}

take_both : (k j : ℕ) (xs : List ℕ) → take (k + j) xs ≡ take k xs ++ take j (drop k xs)
take_both zero j xs = let e : zero + j ≡ j = omega arith in ap (λ n. take n xs) e
take_both (suc k) zero [] = let e : suc k + zero ≡ suc k = omega arith in ap (λ n. take n (let none : List ℕ = [] in none)) e
take_both (suc k) (suc j) [] = let e : suc k + suc j ≡ suc (k + suc j) = omega arith in ap (λ n. take n (let none : List ℕ = [] in none)) e
take_both (suc k) j (x ∷ xs) = let e : suc k + j ≡ suc (k + j) = omega arith in ap (λ n. take n (x ∷ xs)) e ∙ ap (λ ys. x ∷ ys) (take_both k j xs)

-- the records that end where characters are added and so many stay open
part_is : (t x : List ℕ) (b count : ℕ) → b ≤ length t → count ≤ b + length x
    → take (length (t ++ x) - count) (t ++ x) ≡ take (length t - b) t ++ take ((b + length x) - count) (drop (length (t ++ x) - (b + length x)) (t ++ x))
part_is t x b count low few =
    let k : ℕ = length t - b in
    let j : ℕ = (b + length x) - count in
    let long : length (t ++ x) ≡ length t + length x = length-append t x in
    let whole : length (t ++ x) - count ≡ k + j = omega (arith, long, low, few) in
    let front : length (t ++ x) - (b + length x) ≡ k = omega (arith, long, low) in
    let in_old : k ≤ length t = omega arith in
    ap (λ n. take n (t ++ x)) whole
    ∙ take_both k j (t ++ x)
    ∙ ap (λ ys. ys ++ take j (drop k (t ++ x))) (take-append-le k t x in_old)
    ∙ sym (ap (λ n. take k t ++ take j (drop n (t ++ x))) front)

abbrev grown : Output → List ℕ → ℕ → Output
grown o x count = record { text = o.text ++ x; begun = count; is_open = o.is_open }

-- its last record then ends, or stays open
abbrev closing : Bool → Output → Output
closing ends o = record o { is_open = not ends }

whole_is : (o : Output) (x : List ℕ) (count : ℕ) → o.begun ≤ length o.text → count ≤ o.begun + length x
    → whole_records (grown o x count) ≡ whole_records o ++ ended_part (grown o x (o.begun + length x)) count
whole_is o x count low few = part_is o.text x o.begun count low few

count_by : (b a : ℕ) (records : List (List ℕ)) → cond (eqb (length records) 0) b 0 + a ≤ b + (length (text_of records) + a)
count_by b a [] = omega arith
count_by b a (r ∷ records) =
    let some : eqb (length (r ∷ records)) 0 ≡ false = grind (arith, nat_tests) in
    let low : 0 + a ≤ b + (length (text_of (r ∷ records)) + a) = omega arith in
    rw some low

count_low : (b : ℕ) (p : Printed) → open_count b p ≤ b + length (text_of p.records ++ p.«open»)
count_low b p =
    let h : open_count b p ≤ b + (length (text_of p.records) + length p.«open») = count_by b (length p.«open») p.records in
    let long : length (text_of p.records ++ p.«open») ≡ length (text_of p.records) + length p.«open» = length-append (text_of p.records) p.«open» in
    omega (arith, h, long)

-- ---- what was printed

abbrev Printing : Result Printed Condition → ℕ → List ℕ → ℕ → List ℕ → Type 0
Printing r b old count new = (p : Printed) × (r ≡ Ok p) × (count ≡ open_count b p) × (new ≡ old ++ (text_of p.records ++ p.«open»))

fine_by : (b : ℕ) (r : Result Printed Condition) (old : List ℕ) (count : ℕ) (new : List ℕ) → Prints b r old (Ok count) new → Printing r b old count new
fine_by b (Ok p) old count new h = (p, refl, h.0, h.1)
fine_by b (Err c) old count new h = absurd h

-- what is added, as one
all_one : (e : Bool) (o : Output) (p : Printed) → printed_to e o (Ok p) ≡ (closing e (grown o (text_of p.records ++ p.«open») (open_count o.begun p)), Fine)
all_one e o p = ap (λ t. (let z : Output = record { text = t; begun = open_count o.begun p; is_open = not e } in z, Fine)) (append_assoc o.text (text_of p.records) p.«open»)

abbrev pub seen : Bool → List ℕ → List ℕ → Output
seen is_open flat kept = record { text = flat ++ kept; begun = length kept; is_open = is_open }

-- where it was fine
pub record Went (e : Bool) (r : Result Printed Condition) (o mid : Output) (count : ℕ) : Type 0 where
  x : List ℕ
  mid_is : mid ≡ grown o x (o.begun + length x)
  few : count ≤ o.begun + length x
  due : printed_to e o r ≡ (closing e (grown o x count), Fine)

went_at : (e w : Bool) (r : Result Printed Condition) (flat kept kept' : List ℕ) (count : ℕ) → Prints (length kept) r kept (Ok count) kept' → Went e r (seen w flat kept) (seen w flat kept') count
went_at e w r flat kept kept' count h =
    let f : Printing r (length kept) kept count kept' = fine_by (length kept) r kept count kept' h in
    let p : Printed = f.0 in
    let x : List ℕ = text_of p.records ++ p.«open» in
    record {
      x = x;
      mid_is =
          ap (seen w flat) f.3
          ∙ ap (λ t. let z : Output = record { text = t; begun = length (kept ++ x); is_open = w } in z) (sym (append_assoc flat kept x))
          ∙ ap (λ n. let z : Output = record { text = (flat ++ kept) ++ x; begun = n; is_open = w } in z) (length-append kept x);
      few = let low = count_low (length kept) p in let same : count ≡ open_count (length kept) p = f.2 in omega (arith, low, same);
      due = ap (printed_to e (seen w flat kept)) f.1 ∙ all_one e (seen w flat kept) p ∙ ap (λ n. (closing e (grown (seen w flat kept) x n), Fine)) (sym f.2);
    }

pub went : (e w : Bool) (R : ℕ → Result Printed Condition) (o mid : Output) (flat kept kept' : List ℕ) (begun count : ℕ) → seen w flat kept ≡ o → seen w flat kept' ≡ mid → begun ≡ length kept → Prints begun (R begun) kept (Ok count) kept'
    → Went e (R o.begun) o mid count
went e w R o mid flat kept kept' begun count view after same h =
    let P : ℕ → Type 0 = λ b. Prints b (R b) kept (Ok count) kept' in
    let Q : Output → Type 0 = λ z. Went e (R z.begun) z mid count in
    let M : Output → Type 0 = λ m. Went e (R (length kept)) (seen w flat kept) m count in
    subst Q view (subst M after (went_at e w (R (length kept)) flat kept kept' count (subst P same h)))

pub went_over : (e : Bool) (r : Result Printed Condition) (o mid new : Output) (count : ℕ) (taken taken' : List ℕ) → Went e r o mid count → o.begun ≤ length o.text → new ≡ closing e (record mid { begun = count })
    → taken' ≡ taken ++ ended_part mid count → HandsOver taken taken' o new
went_over e r o mid new count taken taken' w low put gave =
    let part : List ℕ = ended_part (grown o w.x (o.begun + length w.x)) count in (
      part,
      ap whole_records (put ∙ ap (λ (m : Output). let z : Output = record m { begun = count } in closing e z) w.mid_is) ∙ whole_is o w.x count low w.few,
      gave ∙ ap (λ m. taken ++ ended_part m count) w.mid_is,
    )

-- what is left of it, by the parts
pub left_is : (e b : Bool) (mid handed new : Output) (count : ℕ) → handed ≡ record mid { begun = count } → b ≡ e → new ≡ record handed { is_open = not b } → new ≡ closing e (record mid { begun = count })
left_is e b mid handed new count h same n = n ∙ ap (λ (x : Bool). let z : Output = record handed { is_open = not x } in z) same ∙ ap (λ (m : Output). closing e m) h

pub went_printed : (e : Bool) (r : Result Printed Condition) (o mid new : Output) (count : ℕ) → Went e r o mid count → new ≡ closing e (record mid { begun = count })
    → (let d : Output × Condition = (new, Fine) in d) ≡ printed_to e o r
went_printed e r o mid new count w put =
    ap (λ (z : Output). (let d : Output × Condition = (z, Fine) in d)) (put ∙ ap (λ (m : Output). let z : Output = record m { begun = count } in closing e z) w.mid_is) ∙ sym w.due

-- the records that are to end are those that the characters that are kept end
went_whole : (e : Bool) (r : Result Printed Condition) (o mid : Output) (count : ℕ) (due : List ℕ) → Went e r o mid count → o.begun ≤ length o.text → ended_part mid count ≡ due
    → whole_records (printed_to e o r).0 ≡ whole_records o ++ due
went_whole e r o mid count due w low is =
    ap (λ d. whole_records d.0) w.due ∙ whole_is o w.x count low w.few ∙ ap (λ m. whole_records o ++ ended_part m count) (sym w.mid_is) ∙ ap (λ ys. whole_records o ++ ys) is

pub went_front : (e : Bool) (r : Result Printed Condition) (o mid : Output) (count : ℕ) (taken taken' : List ℕ) → Went e r o mid count → o.begun ≤ length o.text → TakesFront taken taken' (ended_part mid count)
    → HandsFront taken taken' o (printed_to e o r).0
went_front e r o mid count taken taken' w low (part, rest, due, is) = (part, rest, went_whole e r o mid count (part ++ rest) w low due, is)

pub went_part : (e : Bool) (r : Result Printed Condition) (o mid : Output) (count : ℕ) (taken taken' : List ℕ) → Went e r o mid count → o.begun ≤ length o.text → TakesPart taken taken' (ended_part mid count)
    → HandsPart taken taken' o (printed_to e o r).0
went_part e r o mid count taken taken' w low (part, rest, some, due, is) = (part, rest, some, went_whole e r o mid count (part ++ rest) w low due, is)

-- ---- nothing was taken

abbrev Grows : Output → Output → Type 0
Grows old due = (rest : List ℕ) × (whole_records due ≡ whole_records old ++ rest)

grows : (e : Bool) (r : Result Printed Condition) (o : Output) → o.begun ≤ length o.text → Grows o (printed_to e o r).0
grows e (Err c) o low = ([], sym (append-nil (whole_records o)))
grows e (Ok p) o low =
    let x : List ℕ = text_of p.records ++ p.«open» in
    (ended_part (grown o x (o.begun + length x)) (open_count o.begun p), ap (λ d. whole_records d.0) (all_one e o p) ∙ whole_is o x (open_count o.begun p) low (count_low o.begun p))

none_of : (o due : Output) (taken taken' : List ℕ) → Grows o due → taken' ≡ taken → HandsFront taken taken' o due
none_of o due taken taken' g same = ([], g.0, g.1, same ∙ sym (append-nil taken))

pub none_taken : (e : Bool) (r : Result Printed Condition) (o : Output) (taken taken' : List ℕ) → o.begun ≤ length o.text → taken' ≡ taken → HandsFront taken taken' o (printed_to e o r).0
none_taken e r o taken taken' low same = none_of o (printed_to e o r).0 taken taken' (grows e r o low) same

-- ---- the statement

by_tests : (a b e : Bool) (r : Result Printed Condition) (o : Output) → o.begun ≤ length o.text → Grows o (cond a (o, Error 2) (cond b (o, Error 16) (printed_to e o r))).0
by_tests true b e r o low = ([], sym (append-nil (whole_records o)))
by_tests false true e r o low = ([], sym (append-nil (whole_records o)))
by_tests false false e r o low = grows e r o low

pub nothing_printed : (variables : List Variable) (vars : Variables) (t : Stated) (o : Output) (taken taken' : List ℕ) → o.begun ≤ length o.text → taken' ≡ taken
    → HandsFront taken taken' o (printed_on variables vars t o).0
nothing_printed variables vars t o taken taken' low same =
    let moved : Moved = moved_in variables vars t in
    let spec = spec_in variables vars t moved.cells in
    none_of o (printed_on variables vars t o).0 taken taken'
    (by_tests (is_asynchronous t) (not (is_formatted spec.layout)) (ends_record spec) (printed_by 65536 o.begun (actions_by spec.layout (control_by (Transfer t)) (changed spec.edit usual_edit) spec.advance moved)) o low) same

-- what a layout prints on `*`
abbrev pub by_layout : Layout → EditModes → Bool → Moved → Output → Output × Condition
by_layout layout modes advance moved o = printed_to (advance || not (is_explicit layout)) o (printed_by 65536 o.begun (actions_by layout (control_of layout) modes advance moved))

-- what is printed by the layout of the items is what the statement prints
pub star_is : (variables : List Variable) (vars : Variables) (t : Stated) (o : Output) (moved : Moved) (layout : Layout) (edit : EditChange) (usual modes : EditModes) (advance : Bool)
    → is_asynchronous t ≡ false → is_formatted (layout_of variables moved.cells t.control) ≡ true → moved ≡ moved_in variables vars t → layout ≡ layout_of variables moved.cells t.control
    → edit ≡ (spec_in variables vars t moved.cells).edit → usual ≡ usual_edit → modes ≡ changed edit usual → advance ≡ unwrap_or t.advance true
    → by_layout layout modes advance moved o ≡ printed_on variables vars t o
star_is variables vars t o moved layout edit usual modes advance sync formatted moved_is layout_is edit_is usual_is modes_is advance_is =
    let spec : TransferSpec = spec_in variables vars t moved.cells in
    let control : ℕ → List Given = control_by (Transfer t) in
    let F : Layout → (ℕ → List Given) → EditModes → Bool → Output × Condition = λ l c m a. printed_to (a || not (is_explicit l)) o (printed_by 65536 o.begun (actions_by l c m a moved)) in
    let due : Output × Condition = F spec.layout control (changed spec.edit usual_edit) spec.advance in
    ap (λ l. F l (control_of layout) modes advance) layout_is
    ∙ ap (λ c. F spec.layout c modes advance) (job_control variables moved.cells t layout layout_is)
    ∙ ap (λ m. F spec.layout control m advance) (modes_is ∙ ap (λ e. changed e usual) edit_is ∙ ap (changed spec.edit) usual_is)
    ∙ ap (λ a. F spec.layout control (changed spec.edit usual_edit) a) advance_is
    ∙ sym (ap (λ b. cond b (o, Error 2) (cond (not (is_formatted spec.layout)) (o, Error 16) due)) sync ∙ ap (λ b. cond (not b) (o, Error 16) due) formatted)
    ∙ ap (λ m. star_printed control o t m (spec_in variables vars t m.cells)) moved_is

-- ---- of what the program keeps

pub on_err : {A E : Type 0} → (r : Result A E) (X : Type 0) → X → OnErr r X
on_err (Ok a) X x = tt
on_err (Err e) X x = x

abbrev pub flat_of : Inside → List ℕ
flat_of i = flat_map (λ piece. piece.value) i.handed.items

pub kept_low : (i : Inside) (o : Output) → output_of i ≡ o → o.begun ≤ length o.text
kept_low i o view =
    let P : Output → Type 0 = λ z. z.begun ≤ length z.text in
    let long : length (flat_of i ++ i.«open») ≡ length (flat_of i) + length i.«open» = length-append (flat_of i) i.«open» in
    let low : length i.«open» ≤ length (flat_of i ++ i.«open») = omega (arith, long) in
    subst P view low

pub went_on : (e : Bool) (R : ℕ → Result Printed Condition) (o : Output) (i : Inside) (kept : List ℕ) (begun count : ℕ) → output_of i ≡ o → begun ≡ length i.«open» → Prints begun (R begun) i.«open» (Ok count) kept
    → Went e (R o.begun) o (seen i.is_open (flat_of i) kept) count
went_on e R o i kept begun count view same h = went e i.is_open R o (seen i.is_open (flat_of i) kept) (flat_of i) i.«open» kept begun count view refl same h
