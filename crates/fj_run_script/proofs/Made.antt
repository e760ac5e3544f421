-- What a run begins with.
use Rattle.std.proofs.Common.{◌≡◌, ℕ, zero, suc, ◌≤◌, false, List, [], ◌∷◌, map, replicate, unwrap_or, Option, Some, None, refl, sym, ap, subst, ◌∙◌, arith}
use Rattle.fj_value.specs.declared.kind.Kind.{Kind}
use Rattle.fj_value.specs.declared.value.Value.{Value}
use Rattle.fj_value.specs.declared.value.Value.TheVariants.{Undefined}
use Rattle.fj_statement.specs.Units.{first_new_code}
use Rattle.fj_statement.specs.declared.deck.Variable.{Variable}
use Rattle.fj_store.specs.Storage.{Storage, all_undefined, values_of}
use Rattle.fj_store.specs.Variables.{Variables}
use Rattle.fj_run_items.specs.Kinds.{kinds_of}
use Rattle.fj_meaning.specs.Transfers.{star_limit}
use Rattle.fj_meaning.specs.State.{Files, Output, Tell, elements}
use Rattle.fj_meaning.specs.Statement.{Stated}
use Rattle.fj_meaning_jobs.specs.Core.{Core, Pending, Connected}
use Rattle.fj_meaning_jobs.specs.Desking.{fresh}
use Rattle.fj_meaning_turns.specs.Run.{Run, Held, Start}
use Rattle.fj_meaning_turns.specs.Serving.{first_run}
use Rattle.fj_run_pending.specs.Plain.{held, tells_of}
use Rattle.fj_run_pending.specs.declared.held.Held as code_held
use Rattle.fj_run_pending.specs.declared.tell.Tell as code_tell
use Rattle.fj_run_statements.specs.Fitting.{IsKept}
use Rattle.fj_run_statements.specs.State.{core_of}
use Rattle.fj_run_statements.specs.declared.state.Core as code
use Rattle.fj_run_script.specs.Making.{shape_of}

-- the kinds of shapes are those of the variables
pub shape_kinds : (variables : List Variable) → map (λ (s : Kind × ℕ). s.0) (map shape_of variables) ≡ kinds_of variables
shape_kinds [] = refl
shape_kinds (v ∷ vs) = ap (λ ks. v.kind ∷ ks) (shape_kinds vs)

undefined_all : (n : ℕ) → map (λ (o : Option Value). unwrap_or o Undefined) (replicate n (Some Undefined)) ≡ replicate n Undefined
undefined_all zero = refl
undefined_all (suc n) = ap (λ vs. Undefined ∷ vs) (undefined_all n)

values_are : (variables : List Variable) → values_of (all_undefined (map shape_of variables)) ≡ map (λ (v : Variable). replicate (elements v) Undefined) variables
values_are [] = refl
values_are (v ∷ vs) =
    ap (λ row. row ∷ values_of (all_undefined (map shape_of vs))) (undefined_all (elements v))
    ∙ ap (λ rows. replicate (elements v) Undefined ∷ rows) (values_are vs)

abbrev none_written : Output
none_written = record { text = []; begun = 0; is_open = false }

abbrev made : Files → Variables → List Pending → List Connected → Output → List Tell → Core
made files vars book units output tells = record { vars = vars; book = book; units = units; files = files; output = output; next = 1; new_unit = first_new_code; tells = tells }

pub core_made : (files : Files) (variables : List Variable) (store : Storage) (pending : List code_held.Held) (units : List Connected) (output : Output) (tells : List code_tell.Tell)
    → store ≡ all_undefined (map shape_of variables) → pending ≡ [] → units ≡ [] → output ≡ none_written → tells ≡ []
    → made files (values_of store) (map (λ (h : Held). h.pending) (held pending)) units output (tells_of tells) ≡ (fresh variables files).core
core_made files variables store pending units output tells s p u o t =
    ap (λ x. made files (values_of x) (map (λ (h : Held). h.pending) (held pending)) units output (tells_of tells)) s
    ∙ ap (λ x. made files x (map (λ (h : Held). h.pending) (held pending)) units output (tells_of tells)) (values_are variables)
    ∙ ap (λ (x : List code_held.Held). made files (map (λ (v : Variable). replicate (elements v) Undefined) variables) (map (λ (h : Held). h.pending) (held x)) units output (tells_of tells)) p
    ∙ ap (λ x. made files (map (λ (v : Variable). replicate (elements v) Undefined) variables) [] x output (tells_of tells)) u
    ∙ ap (λ x. made files (map (λ (v : Variable). replicate (elements v) Undefined) variables) [] [] x (tells_of tells)) o
    ∙ ap (λ (x : List code_tell.Tell). made files (map (λ (v : Variable). replicate (elements v) Undefined) variables) [] [] none_written (tells_of x)) t

abbrev begun : List Variable → List Stated → Core → List Held → List ℕ → List ℕ → Run
begun variables deck core book sent told =
    record { variables = variables; core = core; book = book; rest = deck; sent = sent; told = told; stage = Start; due = 0; ending = None }

pub run_made : (variables : List Variable) (deck : List Stated) (files : Files) (core : Core) (pending : List code_held.Held) (sent told : List ℕ)
    → core ≡ (fresh variables files).core → pending ≡ [] → sent ≡ replicate 16 0 → told ≡ replicate 16 0
    → begun variables deck core (held pending) sent told ≡ first_run variables deck files
run_made variables deck files core pending sent told c p s t =
    ap (λ x. begun variables deck x (held pending) sent told) c
    ∙ ap (λ (x : List code_held.Held). begun variables deck (fresh variables files).core (held x) sent told) p
    ∙ ap (λ x. begun variables deck (fresh variables files).core [] x told) s
    ∙ ap (λ x. begun variables deck (fresh variables files).core [] (replicate 16 0) x) t

-- no record of `*` is begun
pub core_kept : (variables : List Variable) (core : code.Core) (files : Files) → core_of files core ≡ (fresh variables files).core → IsKept core
core_kept variables core files is =
    let none : core.output.begun ≡ 0 = ap (λ (k : Core). k.output.begun) is in
    subst (λ n. n ≤ star_limit) (sym none) (omega arith)
