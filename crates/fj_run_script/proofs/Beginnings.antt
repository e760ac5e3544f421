-- How a statement begins, as plain data.
use Rattle.std.proofs.Common.{◌≡◌, ℕ, true, false, not, List, [], ◌∷◌, ◌++◌, map, filter, Option, Some, None, Result, Ok, Err, OnOk, is_none, refl, sym, ap, ◌∙◌}
use Rattle.std.proofs.lemmas.List.{append-nil}
use Rattle.fj_value.specs.declared.condition.Condition.{Condition}
use Rattle.fj_value.specs.declared.condition.Rule.{Rule}
use Rattle.fj_statement.specs.declared.deck.Variable.{Variable}
use Rattle.fj_store.specs.Storage.{Storage, values_of}
use Rattle.fj_book.specs.Prohibitions.{prohibited}
use Rattle.fj_meaning.specs.Needs.{need_by}
use Rattle.fj_meaning.proofs.Lists.{filter_true}
use Rattle.fj_meaning.specs.State.{Entry, Files}
use Rattle.fj_meaning.specs.Statement.{Stated, prohibition}
use Rattle.fj_meaning.specs.Telling.{condition_of, tells_id, tell_of, with_inputs}
use Rattle.fj_meaning_jobs.specs.Acting.{doing}
use Rattle.fj_meaning_jobs.specs.Core.{Core, Pending, Connected, pending_holders, unit_named}
use Rattle.fj_meaning_jobs.specs.Desking.{told_core}
use Rattle.fj_meaning_turns.specs.Run.{Run, Held, Waiting}
use Rattle.fj_meaning_turns.specs.Turns.{doing_told, turn_act, turn_tell, turn_wait, turn_begun, with_tells, ends_halts, halted_slots, wait_by, waited_now, unsettled, settles, start_by, finish_by, rule_of}
use Rattle.fj_run_pending.specs.Asks.{IsUnitAsked}
use Rattle.fj_run_pending.specs.Plain.{held, holders, tells_of}
use Rattle.fj_run_pending.specs.declared.held.Held as code_held
use Rattle.fj_run_pending.specs.declared.tell.Tell as code_tell
use Rattle.fj_run_statements.specs.State.{core_of}
use Rattle.fj_run_statements.specs.declared.state.Core as code
use Rattle.fj_run_script.proofs.Runs.{pendings_are, told_book}

-- ---- the transfers that it waits for are told

pub told_run : (st : Stated) (told : List Entry) (r : Run) (core : Core) (book : List Held) → core ≡ told_core r.variables st.0.line told r.core
    → book ≡ filter (λ (h : Held). not (tells_id told h.pending.id)) r.book → record r { core = core; book = book } ≡ with_tells st told r
told_run st told r core book c b =
    ap (λ k. record r { core = k; book = book }) c ∙ ap (λ hs. record r { core = told_core r.variables st.0.line told r.core; book = hs }) b

pub tells_turn : (st : Stated) (told : List Entry) (r r' : Run) (slots : List ℕ) (condition : Condition) → r' ≡ with_tells st told r → slots ≡ halted_slots told r.core.units → condition ≡ condition_of told
    → turn_act st (ends_halts slots r'.core (doing st.1 r'.variables st.0.line r'.core st.0.what condition)) r' ≡ turn_tell st told r
tells_turn st told r r' slots condition e s c =
    let new : Run = with_tells st told r in
    ap (λ (x : Run). turn_act st (ends_halts slots x.core (doing st.1 x.variables st.0.line x.core st.0.what condition)) x) e
    ∙ ap (λ xs. turn_act st (ends_halts xs new.core (doing st.1 r.variables st.0.line new.core st.0.what condition)) new) s
    ∙ ap (λ x. turn_act st (ends_halts (halted_slots told r.core.units) new.core (doing st.1 r.variables st.0.line new.core st.0.what x)) new) c

-- so what it does is that
pub tells_doing : (st : Stated) (told : List Entry) (r : Run) (slots : List ℕ) (condition : Condition) (core : Core) → core ≡ told_core r.variables st.0.line told r.core → slots ≡ halted_slots told r.core.units
    → condition ≡ condition_of told → ends_halts slots core (doing st.1 r.variables st.0.line core st.0.what condition) ≡ doing_told r.variables st told r.core
tells_doing st told r slots condition core e s c =
    let new : Core = told_core r.variables st.0.line told r.core in
    ap (λ (k : Core). ends_halts slots k (doing st.1 r.variables st.0.line k st.0.what condition)) e
    ∙ ap (λ xs. ends_halts xs new (doing st.1 r.variables st.0.line new st.0.what condition)) s
    ∙ ap (λ x. ends_halts (halted_slots told r.core.units) new (doing st.1 r.variables st.0.line new st.0.what x)) c

told_core_is : (files : Files) (variables : List Variable) (line : ℕ) (told : List Entry) (old : code.Core) (store : Storage) (pending : List code_held.Held) (tells : List code_tell.Tell)
    → values_of store ≡ with_inputs variables told (values_of old.store) → held pending ≡ filter (λ (h : Held). not (tells_id told h.pending.id)) (held old.pending)
    → tells_of tells ≡ tells_of old.tells ++ map (tell_of line) told
    → core_of files (record old { store = store; pending = pending; tells = tells }) ≡ told_core variables line told (core_of files old)
told_core_is files variables line told old store pending tells v b t =
    ap (λ vs. record (core_of files old) { vars = vs; book = map (λ (h : Held). h.pending) (held pending); tells = tells_of tells }) v
    ∙ ap (λ es. record (core_of files old) { vars = with_inputs variables told (values_of old.store); book = es; tells = tells_of tells }) (ap (map (λ (h : Held). h.pending)) b ∙ told_book told (held old.pending))
    ∙ ap (λ ts. record (told_core variables line told (core_of files old)) { tells = ts }) t

-- where it is done
pub told_core_of : {X E : Type 0} → (r : Result X E) (files : Files) (variables : List Variable) (line : ℕ) (told : List Entry) (old : code.Core) (store : Storage) (pending : List code_held.Held) (tells : List code_tell.Tell)
    → OnOk r (values_of store ≡ with_inputs variables told (values_of old.store)) → OnOk r (held pending ≡ filter (λ (h : Held). not (tells_id told h.pending.id)) (held old.pending))
    → OnOk r (tells_of tells ≡ tells_of old.tells ++ map (tell_of line) told)
    → OnOk r (core_of files (record old { store = store; pending = pending; tells = tells }) ≡ told_core variables line told (core_of files old))
told_core_of (Ok x) files variables line told old store pending tells v b t = told_core_is files variables line told old store pending tells v b t
told_core_of (Err e) files variables line told old store pending tells v b t = tt

-- where none is told
pub told_nothing : (variables : List Variable) (line : ℕ) (told : List Entry) (core : Core) → told ≡ [] → core ≡ told_core variables line told core
told_nothing variables line told core none =
    sym (ap (λ es. told_core variables line es core) none ∙ ap (λ b. record core { book = b; tells = core.tells ++ [] }) (filter_true core.book)
    ∙ ap (λ ts. record core { tells = ts }) (append-nil core.tells))

pub left_all : (told : List Entry) (hs : List Held) → told ≡ [] → hs ≡ filter (λ (h : Held). not (tells_id told h.pending.id)) hs
left_all told hs none = sym (ap (λ es. filter (λ (h : Held). not (tells_id es h.pending.id)) hs) none ∙ filter_true hs)

none_halted : (units : List Connected) → [] ≡ halted_slots [] units
none_halted [] = refl
none_halted (u ∷ units) = none_halted units

pub no_halts : (told : List Entry) (units : List Connected) → told ≡ [] → [] ≡ halted_slots told units
no_halts told units none = none_halted units ∙ ap (λ es. halted_slots es units) (sym none)

-- ---- it waits

pub is_none_of : (o : Option ℕ) → o ≡ None → is_none o ≡ true
is_none_of o e = ap (λ (x : Option ℕ). is_none x) e

pub none_of : (o : Option ℕ) → is_none o ≡ true → o ≡ None
none_of None e = refl
none_of (Some n) e = let f : false ≡ true = e in cc

pub waits_more : (st : Stated) (r : Run) (es : List Entry) (slot : ℕ) → waited_now st r ≡ es → unsettled es r.book ≡ Some slot → turn_wait st r ≡ settles slot Waiting r
waits_more st r es slot e u = ap (λ xs. wait_by st xs (unsettled xs r.book) r) e ∙ ap (λ o. wait_by st es o r) u

pub waits_none : (st : Stated) (r : Run) (es : List Entry) → waited_now st r ≡ es → unsettled es r.book ≡ None → turn_wait st r ≡ turn_tell st es r
waits_none st r es e u = ap (λ xs. wait_by st xs (unsettled xs r.book) r) e ∙ ap (λ o. wait_by st es o r) u

-- ---- prohibitions

pub rule_is : (variables : List Variable) (st : Stated) (files : Files) (core : code.Core) (o : Option Rule)
    → o ≡ prohibited (values_of core.store) (holders core.pending) (need_by variables (values_of core.store) (unit_named core.units) st.0.what) → rule_of variables st (core_of files core) ≡ o
rule_is variables st files core o e =
    ap (λ (ps : List Pending). prohibited (values_of core.store) (pending_holders ps) (need_by variables (values_of core.store) (unit_named core.units) st.0.what)) (pendings_are core.pending) ∙ sym e

pub starts_ruled : (st : Stated) (r : Run) (rule : Rule) → rule_of r.variables st r.core ≡ Some rule → turn_begun st r ≡ finish_by (Some (prohibition st.0.line rule)) r
starts_ruled st r rule e = ap (λ o. start_by st o r) e

pub starts_free : (st : Stated) (r : Run) → rule_of r.variables st r.core ≡ None → turn_begun st r ≡ turn_wait st r
starts_free st r e = ap (λ o. start_by st o r) e

-- as it was looked up
pub rule_by : (variables vs : List Variable) (st : Stated) (files : Files) (core : code.Core) (named : Option ℕ) (o o' : Option Rule) → vs ≡ variables
    → ((unit_of : List ℕ → Option ℕ) → IsUnitAsked named unit_of st.0.what → o ≡ prohibited (values_of core.store) (holders core.pending) (need_by vs (values_of core.store) unit_of st.0.what))
    → o ≡ o' → IsUnitAsked named (unit_named core.units) st.0.what → rule_of variables st (core_of files core) ≡ o'
rule_by variables vs st files core named o o' v is found asked =
    rule_is variables st files core o
    (is (unit_named core.units) asked ∙ ap (λ (xs : List Variable). prohibited (values_of core.store) (holders core.pending) (need_by xs (values_of core.store) (unit_named core.units) st.0.what)) v)
    ∙ found
