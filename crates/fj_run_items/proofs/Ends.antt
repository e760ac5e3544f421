-- What the calls end with.
use Rattle.std.proofs.Common.{◌≡◌, ℕ, ◌+◌, ◌-◌, ◌<◌, cond, Bool, true, List, ◌++◌, take, replicate, Option, Some, Result, IfOk, sym, ap, subst, ◌∙◌}
use Rattle.std.specs.Prelude.{ℤ}
use Rattle.std.specs.declared.alloc.AllocError.{AllocError}
use Rattle.fj_value.specs.Reading.{assigned_text}
use Rattle.fj_value.specs.declared.kind.Kind.{Kind}
use Rattle.fj_value.specs.declared.place.Place.{Place}
use Rattle.fj_value.specs.declared.value.Cell.{Cell}
use Rattle.fj_value.specs.declared.value.Value.{Value}
use Rattle.fj_value.specs.declared.value.Value.TheVariants as value
use Rattle.fj_statement.specs.declared.deck.Variable.{Variable}
use Rattle.fj_store.specs.Kinds.{of_kind}
use Rattle.fj_store.specs.Places.{counted_from}
use Rattle.fj_store.specs.Storage.{Storage, with_value, values_of}
use Rattle.fj_store.specs.Tables.{with_element}
use Rattle.fj_store.specs.Variables as plain
use Rattle.fj_meaning.specs.Items.{kind_of, given_back}
use Rattle.fj_meaning.specs.Telling.{count_for, with_size}
use Rattle.fj_meaning.specs.Transfers.{with_number}
use Rattle.fj_meaning.specs.Statement.{converted, assigned}
use Rattle.fj_run_items.specs.Kinds.{kinds_of}
use Rattle.fj_meaning.proofs.Stored.{set_is}
use Rattle.fj_run_items.proofs.Values.{cut_is, places_left}

-- ---- cells

pub given_is : (variables : List Variable) (vars mid new : plain.Variables) (input : Bool) (size : Option Place) (count : Option ℕ) (cells : List Cell) → input ≡ true
    → mid ≡ given_back variables cells vars → new ≡ with_size variables size count mid
    → new ≡ cond input (with_size variables size count (given_back variables cells vars)) vars
given_is variables vars mid new input size count cells is_input back sized =
    sized ∙ ap (with_size variables size count) back ∙ sym (ap (λ b. cond b (with_size variables size count (given_back variables cells vars)) vars) is_input)

-- ---- numbers

pub size_set : (variables : List Variable) (s new : Storage) (size : Option Place) (p : Place) (count : Option ℕ) (v : Value) → size ≡ Some p → s.kinds ≡ kinds_of variables
    → of_kind (kind_of variables p.var) v ≡ count_for variables p count → new ≡ with_value s p v → values_of new ≡ with_size variables size count (values_of s)
size_set variables s new size p count v e kinds made put =
    set_is variables s new p v kinds put ∙ ap (with_element (values_of s) p) made ∙ sym (ap (λ o. with_size variables o count (values_of s)) e)

pub number_set : (variables : List Variable) (s new : Storage) (o : Option Place) (p : Place) (n : ℤ) (v : Value) → o ≡ Some p → s.kinds ≡ kinds_of variables → v ≡ value.Int n → new ≡ with_value s p v
    → values_of new ≡ with_number variables o n (values_of s)
number_set variables s new o p n v e kinds made put =
    set_is variables s new p v kinds put ∙ ap (λ x. with_element (values_of s) p (of_kind (kind_of variables p.var) x)) made ∙ sym (ap (λ x. with_number variables x n (values_of s)) e)

-- ---- assignment

pub ok_cut : (r : Result Value AllocError) (text : List ℕ) (n : ℕ) (cs : List ℕ) → IfOk r (λ v. v ≡ value.Chars text) → text ≡ assigned_text n cs → IfOk r (λ v. v ≡ value.Chars (take n (cs ++ replicate n 32)))
ok_cut r text n cs h e = let Q : List ℕ → Type 0 = λ t. IfOk r (λ v. v ≡ value.Chars t) in subst Q (e ∙ sym (cut_is n cs)) h

pub place_set : (variables : List Variable) (s new : Storage) (p : Place) (from v : Value) (kind : Kind) → s.kinds ≡ kinds_of variables → kind ≡ kind_of variables p.var → of_kind kind v ≡ converted kind from
    → new ≡ with_value s p v → values_of new ≡ plain.with_value (values_of s) p (converted (kind_of variables p.var) from)
place_set variables s new p from v kind kinds kind_is made put =
    set_is variables s new p v kinds put ∙ ap (with_element (values_of s) p) (sym (ap (λ k. of_kind k v) kind_is) ∙ made ∙ ap (λ k. converted k from) kind_is)

pub array_step : (variables : List Variable) (var i n : ℕ) (v : Value) (s next : Storage) (want : plain.Variables) → i < n
    → values_of next ≡ plain.with_value (values_of s) (record { var = var; index = i + 1 }) (converted (kind_of variables var) v)
    → assigned variables (counted_from var (i + 1) (n - i)) v (values_of s) ≡ want → assigned variables (counted_from var ((i + 1) + 1) (n - (i + 1))) v (values_of next) ≡ want
array_step variables var i n v s next want low step so_far =
    ap (λ vs. assigned variables (counted_from var ((i + 1) + 1) (n - (i + 1))) v vs) step
    ∙ sym (ap (λ ps. assigned variables ps v (values_of s)) (places_left var i n low))
    ∙ so_far
