-- A text of the grammar is read as its values, and has one meaning.
use Rattle.std.proofs.Common.{◌≡◌, ℕ, zero, suc, ◌-◌, ◌<◌, Bool, true, false, List, [], ◌∷◌, ◌++◌, replicate, sym, ap, ◌∙◌, refl, subst, arith}
use Rattle.fj_value.specs.declared.value.Cell.{Cell}
use Rattle.fj_value.specs.declared.condition.Condition.{Condition}
use Rattle.fj_value.specs.declared.condition.Condition.TheVariants.{EndOfFile}
use Rattle.fj_list.specs.declared.constant.Form.{Form}
use Rattle.fj_list.specs.declared.constant.Form.TheVariants.{Null}
use Rattle.fj_list.specs.declared.constant.Read.{Read}
use Rattle.fj_list.specs.declared.constant.Read.TheVariants as read
use Rattle.fj_list.specs.Stream.{Stream, stream}
use Rattle.fj_list.specs.Constant.{read_as}
use Rattle.fj_list.specs.ListInput.{Split, value, stopped, Outcome, split, served, served_from, items_read}
use Rattle.fj_moved.specs.Cells.{kind_at, with_value}
use Rattle.fj_list.specs.Grammar.{Given, given, Finish, at_records_end, at_slash, at_no_value, IsListText}
use Rattle.fj_list.specs.Understood.{Constant, constants, end_of, Result, taken, all_taken, TextIsReadAsItsValues, TextHasOneMeaning}
use Rattle.fj_list.proofs.GrammarLaws.{Step, step_of}

-- the cells and the condition are these
record Is (outcome : Outcome) (wanted : Result) : Type 0 where
  cells : outcome.cells ≡ wanted.cells
  condition : outcome.condition ≡ wanted.condition

served_is : (r : Read) (cells : List Cell) (at : ℕ) (s : Stream) (next : List Cell → Outcome) (wanted : List Cell → Result) → ((cells' : List Cell) → Is (next cells') (wanted cells')) → Is (served r cells at s next) (taken r cells at wanted)
served_is read.Null cells at s next wanted h = h cells
served_is (read.Defined v) cells at s next wanted h = h (with_value cells at v)
served_is (read.Wrong condition) cells at s next wanted h = record { cells = refl; condition = refl }

-- the constants still to come: those that are left of a value, and those of the text
abbrev to_come : ℕ → Form → List ℕ → List Given → List Constant
to_come n form cs gs = replicate n (form, cs) ++ constants gs

-- whatever is left of the values, the items get it
abbrev Rest : Bool → Condition → List ℕ → Type 0
Rest comma ending order = (cells : List Cell) (n : ℕ) (form : Form) (cs : List ℕ) (s : Stream) (gs : List Given) (f : Finish) → IsListText comma false s gs f
    → Is (items_read comma ending order cells false n form cs s) (all_taken (end_of f ending) (to_come n form cs gs) cells order)

-- one more of a constant
more_are : (comma : Bool) (ending : Condition) (at : ℕ) (order : List ℕ) (cells : List Cell) (n k : ℕ) (form : Form) (cs : List ℕ) (s : Stream) (gs : List Given) (f : Finish) → Rest comma ending order → k ≡ n → IsListText comma false s gs f
    → Is (served (read_as (kind_at cells at) form cs) cells at s (λ cells'. items_read comma ending order cells' false k form cs s)) (all_taken (end_of f ending) (to_come (suc n) form cs gs) cells (at ∷ order))
more_are comma ending at order cells n k form cs s gs f on is text =
    served_is (read_as (kind_at cells at) form cs) cells at s (λ cells'. items_read comma ending order cells' false k form cs s) (λ cells'. all_taken (end_of f ending) (to_come n form cs gs) cells' order)
    (λ cells'. subst (λ (m : ℕ). Is (items_read comma ending order cells' false m form cs s) (all_taken (end_of f ending) (to_come n form cs gs) cells' order)) (sym is) (on cells' n form cs s gs f text))

is_same : (outcome outcome' : Outcome) (wanted : Result) → outcome ≡ outcome' → Is outcome' wanted → Is outcome wanted
is_same outcome outcome' wanted e h = subst (λ (o : Outcome). Is o wanted) (sym e) h

some_are : (comma : Bool) (ending : Condition) (at : ℕ) (order : List ℕ) (cells : List Cell) (n : ℕ) (form : Form) (cs : List ℕ) (s : Stream) (gs : List Given) (f : Finish) → Rest comma ending order → 0 < n → IsListText comma false s gs f
    → Is (served (read_as (kind_at cells at) form cs) cells at s (λ cells'. items_read comma ending order cells' false (n - 1) form cs s)) (all_taken (end_of f ending) (to_come n form cs gs) cells (at ∷ order))
some_are comma ending at order cells zero form cs s gs f on some text = absurd (omega arith)
some_are comma ending at order cells (suc n) form cs s gs f on some text = more_are comma ending at order cells n (suc n - 1) form cs s gs f on (omega arith) text

step_are : (comma : Bool) (ending : Condition) (at : ℕ) (order : List ℕ) (cells : List Cell) (begins : Bool) (form : Form) (cs : List ℕ) (s : Stream) (gs : List Given) (f : Finish) → Rest comma ending order → Step comma begins s gs f
    → Is (items_read comma ending (at ∷ order) cells begins 0 form cs s) (all_taken (end_of f ending) (constants gs) cells (at ∷ order))
step_are comma ending at order cells begins form cs s [] f on step =
    let next : ℕ → Form → List ℕ → Stream → List Cell → Outcome = λ count' form' cs' s' cells'. items_read comma ending order cells' false count' form' cs' s' in
    is_same (served_from (split comma ending begins s) cells at next) (served_from (stopped (end_of f ending) step.0) cells at next) (record { cells = cells; condition = end_of f ending })
    (ap (λ (sp : Split). served_from sp cells at next) (step.1 ending)) (record { cells = refl; condition = refl })
step_are comma ending at order cells begins form cs s (g ∷ gs) f on step =
    let next : ℕ → Form → List ℕ → Stream → List Cell → Outcome = λ count' form' cs' s' cells'. items_read comma ending order cells' false count' form' cs' s' in
    is_same (served_from (split comma ending begins s) cells at next) (served_from (value g.count g.form g.characters step.rest) cells at next) (all_taken (end_of f ending) (to_come g.count g.form g.characters gs) cells (at ∷ order))
    (ap (λ (sp : Split). served_from sp cells at next) (step.reads ending))
    (some_are comma ending at order cells g.count g.form g.characters step.rest gs f on step.some step.text)

items_are : (comma : Bool) (ending : Condition) (order : List ℕ) → Rest comma ending order
items_are comma ending [] cells n form cs s gs f text = record { cells = refl; condition = refl }
items_are comma ending (at ∷ order) cells zero form cs s gs f text = step_are comma ending at order cells false form cs s gs f (items_are comma ending order) (step_of comma false s gs f text)
items_are comma ending (at ∷ order) cells (suc n) form cs s gs f text = some_are comma ending at order cells (suc n) form cs s gs f (items_are comma ending order) (omega arith) text

input_is : (comma : Bool) (ending : Condition) (order : List ℕ) (cells : List Cell) (s : Stream) (gs : List Given) (f : Finish) → IsListText comma true s gs f
    → Is (items_read comma ending order cells true 0 Null [] s) (all_taken (end_of f ending) (constants gs) cells order)
input_is comma ending [] cells s gs f text = record { cells = refl; condition = refl }
input_is comma ending (at ∷ order) cells s gs f text = step_are comma ending at order cells true Null [] s gs f (items_are comma ending order) (step_of comma true s gs f text)

pub read_as_values : TextIsReadAsItsValues
read_as_values comma line lines values finish text ending cells order =
    let is = input_is comma ending order cells (stream (line ∷ lines)) values finish text in
    (is.cells, is.condition)

-- one meaning
ends_once : (f f' : Finish) → end_of f EndOfFile ≡ end_of f' EndOfFile → f ≡ f'
ends_once at_records_end at_records_end e = refl
ends_once at_slash at_slash e = refl
ends_once at_no_value at_no_value e = refl
ends_once at_records_end at_slash e = absurd (cc)
ends_once at_records_end at_no_value e = absurd (cc)
ends_once at_slash at_records_end e = absurd (cc)
ends_once at_slash at_no_value e = absurd (cc)
ends_once at_no_value at_records_end e = absurd (cc)
ends_once at_no_value at_slash e = absurd (cc)

same_stop : (a b : Condition) (s t : Stream) → stopped a s ≡ stopped b t → a ≡ b
same_stop a b s t e = cc

no_stop : (n : ℕ) (form : Form) (cs : List ℕ) (s t : Stream) (a : Condition) → value n form cs s ≡ stopped a t → ⊥
no_stop n form cs s t a e = cc

record Same (g g' : Given) (s s' : Stream) : Type 0 where
  value : g ≡ g'
  rest : s ≡ s'

same_value : (g g' : Given) (s s' : Stream) → value g.count g.form g.characters s ≡ value g'.count g'.form g'.characters s' → Same g g' s s'
same_value g g' s s' e =
    let count : g.count ≡ g'.count = cc in
    let form : g.form ≡ g'.form = cc in
    let characters : g.characters ≡ g'.characters = cc in
    record {
      value = ap (λ n. given n g.form g.characters) count ∙ ap (λ (x : Form). given g'.count x g.characters) form ∙ ap (λ (cs : List ℕ). given g'.count g'.form cs) characters;
      rest = cc;
    }

one : (comma begins : Bool) (s : Stream) (gs gs' : List Given) (f f' : Finish) → Step comma begins s gs f → Step comma begins s gs' f' → (gs ≡ gs') × (f ≡ f')
one comma begins s [] [] f f' h k = (refl, ends_once f f' (same_stop (end_of f EndOfFile) (end_of f' EndOfFile) h.0 k.0 (sym (h.1 EndOfFile) ∙ k.1 EndOfFile)))
one comma begins s [] (g ∷ gs) f f' h k = absurd (no_stop g.count g.form g.characters k.rest h.0 (end_of f EndOfFile) (sym (k.reads EndOfFile) ∙ h.1 EndOfFile))
one comma begins s (g ∷ gs) [] f f' h k = absurd (no_stop g.count g.form g.characters h.rest k.0 (end_of f' EndOfFile) (sym (h.reads EndOfFile) ∙ k.1 EndOfFile))
one comma begins s (g ∷ gs) (g' ∷ gs') f f' h k =
    let same = same_value g g' h.rest k.rest (sym (h.reads EndOfFile) ∙ k.reads EndOfFile) in
    let text : IsListText comma false k.rest gs f = subst (λ (t : Stream). IsListText comma false t gs f) same.rest h.text in
    let more = one comma false k.rest gs gs' f f' (step_of comma false k.rest gs f text) (step_of comma false k.rest gs' f' k.text) in
    (ap (λ (x : Given). x ∷ gs) same.value ∙ ap (λ (xs : List Given). g' ∷ xs) more.0, more.1)

pub one_meaning : TextHasOneMeaning
one_meaning comma lines values values' finish finish' text text' =
    let s = stream lines in
    one comma true s values values' finish finish' (step_of comma true s values finish text) (step_of comma true s values' finish' text')
