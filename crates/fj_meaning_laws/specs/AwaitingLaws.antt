-- Each statement waits for just the transfers that it is to wait for, and of a unit for which it waits none stays pending
-- (ISO/IEC 1539-1:2004, 9.5.1.4, 9.6.2).
use Rattle.std.specs.Prelude.{◌≡◌, ◌≢◌, ◌↔◌, ℕ, ℤ, Bool, true, List, filter, None}
use Rattle.std.specs.List.{All, Contains}
use Rattle.fj_value.specs.declared.value.Value.TheVariants as value
use Rattle.fj_statement.specs.declared.deck.Variable.{Variable}
use Rattle.fj_statement.specs.declared.statement.Operand.{Operand}
use Rattle.fj_statement.specs.declared.statement.Statement.{Statement}
use Rattle.fj_book.specs.Prohibitions.{prohibited}
use Rattle.fj_meaning.specs.Items.{value_of}
use Rattle.fj_meaning.specs.Needs.{need, holders}
use Rattle.fj_meaning.specs.State.{State, Files, Entry}
use Rattle.fj_meaning.specs.Telling.{waited, tell_of}
use Rattle.fj_meaning.specs.Statement.{Stated, step}
use Rattle.fj_meaning.specs.Reaching.{reached}
use Rattle.fj_meaning_laws.specs.Awaiting.{WaitsForAll, WaitsForOne, Awaits}

-- what ID= names is an integer
abbrev pub HasNumber : State → Statement → Type 0
HasNumber s st = (n : ℕ) (id : Operand) → WaitsForOne st n id → (k : ℤ) × (value_of s.vars id ≡ value.Int k)

-- of the pending transfers, in their order, those that it is to wait for
abbrev pub AwaitsExactly : Type 0
AwaitsExactly = (s : State) (st : Statement) → HasNumber s st →
    (q : Entry → Bool) × (waited s st ≡ filter q s.book) × All (λ (e : Entry). (q e ≡ true) ↔ Awaits s st e) s.book

-- a statement that waits for all of a unit, and is not prohibited, tells each of them, and leaves none of that unit pending
abbrev pub NoneStaysPending : Type 0
NoneStaysPending = (variables : List Variable) (sts : List Stated) (files : Files) (st : Stated) (n : ℕ) →
    let s = reached variables sts files in
    let after = (step variables st s).0 in
    WaitsForAll st.0.what n → prohibited s.vars (holders s.book) (need variables s st.0.what) ≡ None →
    All (λ (e : Entry). e.unit ≢ n) after.book
    × ((e : Entry) → Contains s.book e → e.unit ≡ n → Contains after.tells (tell_of st.0.line e))
