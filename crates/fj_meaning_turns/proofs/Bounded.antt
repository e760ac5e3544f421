-- The bound on asks, whatever is answered.
use Rattle.std.proofs.Common.{◌≡◌, ℕ, zero, suc, ◌+◌, ◌-◌, ◌*◌, ◌≤◌, List, [], ◌∷◌, length, is_some, refl, sym, ap, ◌∙◌, subst, arith}
use Rattle.std.specs.Prelude.{if◌then◌else◌}
use Rattle.fj_statement.specs.declared.deck.Variable.{Variable}
use Rattle.fj_world.specs.declared.ask.Ask.{Ask}
use Rattle.fj_world.specs.declared.ask.Ask.TheVariants.{Submit, Settle, Finished}
use Rattle.fj_bay.specs.Jobs.{Job}
use Rattle.fj_meaning.specs.State.{Files}
use Rattle.fj_meaning.specs.Statement.{Stated}
use Rattle.fj_meaning_jobs.specs.Desks.{Outcome}
use Rattle.fj_meaning_turns.specs.Run.{Start, Run}
use Rattle.fj_meaning_turns.specs.Turns.{Turn, Pauses, Passes, Stops, Asked, begun_for, hand_at, turn_start, turn, goes, by_turn, asked_on, asked, told_of}
use Rattle.fj_meaning_turns.specs.Serving.{first_run}
use Rattle.fj_meaning_turns.specs.Few.{most_jobs}
use Rattle.fj_meaning_turns.specs.Bounds.{served_by, answered, most_asks, KeepsToSlots, AsksKeepToSlots, AsksEnd}
use Rattle.fj_meaning_turns.proofs.Counts.{left_over}
use Rattle.fj_meaning_turns.proofs.Steady.{Sound, Steady, AskSteady, TurnSteady, weight, turn_steady}
use Rattle.fj_meaning_turns.proofs.Decks.{goes_is_turn}

-- so many asks are left at most
abbrev pub IsLeft : ℕ → Ask Job → Run → Type 0
IsLeft n (Submit slot job) run = ((st : Stated) × (rest : List Stated) × AskSteady st rest n (Submit slot job) run)
IsLeft n (Settle slot) run = ((st : Stated) × (rest : List Stated) × AskSteady st rest n (Settle slot) run)
IsLeft n Finished run = Unit {0}

turned_left : (st : Stated) (rest : List Stated) (n : ℕ) (t : Turn) → TurnSteady st rest n t
    → ((run : Run) → Sound run → 2 * weight rest + left_over run.sent run.told ≤ n → IsLeft n (goes rest run).ask (goes rest run).run) → IsLeft n (by_turn rest t).ask (by_turn rest t).run
turned_left st rest n (Pauses (Submit slot job) run) h later = (st, rest, h)
turned_left st rest n (Pauses (Settle slot) run) h later = (st, rest, h)
turned_left st rest n (Pauses Finished run) h later = absurd h
turned_left st rest n (Passes run) h later = later run h.sound h.enough
turned_left st rest n (Stops run) h later = tt

goes_left : (rest : List Stated) (n : ℕ) (run : Run) → Sound run → 2 * weight rest + left_over run.sent run.told ≤ n → IsLeft n (goes rest run).ask (goes rest run).run
goes_left [] n run t e = tt
goes_left (st ∷ rest) n run t e =
    let r : Run = record run { rest = st ∷ rest } in
    let sound : Sound r = record { seated = t.seated; sent = t.sent; told = t.told; within = t.within; same = t.same; open_ones = t.open_ones; ending = t.ending } in
    subst (λ a. IsLeft n a.ask a.run) (sym (goes_is_turn st rest run))
    (turned_left (begun_for r st) rest n (turn_start st r) (turn_steady st rest most_jobs n r sound refl e Start (omega (arith))) (λ run' t' e'. goes_left rest n run' t' e'))

asked_left : (st : Stated) (rest : List Stated) (n : ℕ) (r : Run) → Steady st rest n r → IsLeft n (asked r).ask (asked r).run
asked_left st rest n r s =
    let is : asked r ≡ by_turn rest (turn st r.stage r) =
    ap (λ e. if is_some e then record { ask = Finished; run = r } else asked_on r.rest r) s.sound.ending ∙ ap (λ l. asked_on l r) s.rest_is in
    subst (λ a. IsLeft n a.ask a.run) (sym is)
    (turned_left (hand_at st r.stage r) rest n (turn st r.stage r) (turn_steady st rest s.jobs n r s.sound s.rest_is s.enough r.stage s.stage) (λ run t e. goes_left rest n run t e))

served_left : (n : ℕ) (ask : Ask Job) (run : Run) (o : Outcome) → IsLeft n ask run → IsLeft (n - 1) (served_by ask run o).ask (served_by ask run o).run
served_left n (Submit slot job) run o (st, rest, h) =
    let same : h.left ≡ n - 1 = omega (arith, h.fewer) in subst (λ k. IsLeft k (asked run).ask (asked run).run) same (asked_left st rest h.left run h.steady)
served_left n (Settle slot) run o (st, rest, h) =
    let same : h.left ≡ n - 1 = omega (arith, h.fewer) in
    subst (λ k. IsLeft k (asked (told_of run o)).ask (asked (told_of run o)).run) same (asked_left st rest h.left (told_of run o) (h.steady o))
served_left n Finished run o h = tt

answered_left : (k n : ℕ) (answers : ℕ → Outcome) (a : Asked) → IsLeft n a.ask a.run → IsLeft (n - k) (answered k answers a).ask (answered k answers a).run
answered_left zero n answers a h = let same : n ≡ n - 0 = omega (arith) in subst (λ j. IsLeft j a.ask a.run) same h
answered_left (suc k) n answers a h =
    let b : Asked = served_by a.ask a.run (answers 0) in
    let same : (n - 1) - k ≡ n - suc k = omega (arith) in
    subst (λ j. IsLeft j (answered k (λ i. answers (suc i)) b).ask (answered k (λ i. answers (suc i)) b).run) same
    (answered_left k (n - 1) (λ i. answers (suc i)) b (served_left n a.ask a.run (answers 0) h))

weight_is : (deck : List Stated) → weight deck ≡ most_jobs * length deck
weight_is [] = refl
weight_is (st ∷ more) = omega (arith, weight_is more)

first_left : (variables : List Variable) (deck : List Stated) (files : Files) → IsLeft (most_asks deck) (asked (first_run variables deck files)).ask (asked (first_run variables deck files)).run
first_left variables [] files = tt
first_left variables (st ∷ more) files =
    let r : Run = first_run variables (st ∷ more) files in
    let none : left_over r.sent r.told ≡ 0 = refl in
    let all : weight (st ∷ more) ≡ most_jobs * length (st ∷ more) = weight_is (st ∷ more) in
    let sound : Sound r = record { seated = record { inside = tt; slots = tt; numbers = tt }; sent = refl; told = refl; within = λ slot. omega (arith); same = refl; open_ones = tt; ending = refl } in
    turned_left (begun_for r st) more (most_asks (st ∷ more)) (turn_start st r) (turn_steady st more most_jobs (most_asks (st ∷ more)) r sound refl (omega (arith, none, all)) Start (omega (arith)))
    (λ run t e. goes_left more (most_asks (st ∷ more)) run t e)

keeps_left : (n : ℕ) (ask : Ask Job) (run : Run) → IsLeft n ask run → KeepsToSlots ask run
keeps_left n (Submit slot job) run (st, rest, h) = h.inside
keeps_left n (Settle slot) run (st, rest, h) = (h.inside, h.owed)
keeps_left n Finished run h = tt

none_left : (ask : Ask Job) (run : Run) → IsLeft 0 ask run → ask ≡ Finished
none_left (Submit slot job) run (st, rest, h) = absurd (omega (arith, h.fewer))
none_left (Settle slot) run (st, rest, h) = absurd (omega (arith, h.fewer))
none_left Finished run h = refl

pub asks_keep_to_slots : AsksKeepToSlots
asks_keep_to_slots variables deck files answers n =
    let first : Asked = asked (first_run variables deck files) in
    let a : Asked = answered n answers first in
    keeps_left (most_asks deck - n) a.ask a.run (answered_left n (most_asks deck) answers first (first_left variables deck files))

pub asks_end : AsksEnd
asks_end variables deck files answers =
    let first : Asked = asked (first_run variables deck files) in
    let a : Asked = answered (most_asks deck) answers first in
    let same : most_asks deck - most_asks deck ≡ 0 = omega (arith) in
    none_left a.ask a.run (subst (λ j. IsLeft j a.ask a.run) same (answered_left (most_asks deck) (most_asks deck) answers first (first_left variables deck files)))
