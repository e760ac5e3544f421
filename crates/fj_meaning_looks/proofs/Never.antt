-- A runner that never looks is the runner itself.
use Rattle.std.proofs.Common.{◌≡◌, Bool, false, List, [], ◌∷◌, is_some, refl, sym, ap, ◌∙◌}
use Rattle.std.specs.Prelude.{if◌then◌else◌}
use Rattle.fj_world.specs.declared.ask.Ask.TheVariants.{Finished}
use Rattle.fj_meaning.specs.Statement.{Stated}
use Rattle.fj_meaning_turns.specs.Run.{Stage, Start, Waiting, Acting, Awaiting, Run}
use Rattle.fj_meaning_turns.specs.Turns.{Turn, Pauses, Passes, Stops, turn_start, turn, Asked, goes, by_turn, asked_on, asked}
use Rattle.fj_meaning_turns.proofs.Decks.{goes_is_turn}
use Rattle.fj_meaning_looks.specs.Looking.{goes_until, turn_until, on_until, stage_until, asked_until}
use Rattle.fj_meaning_looks.specs.Stretches.{with_rest}
use Rattle.fj_meaning_looks.proofs.Coming.{by_look, on_turn_is}

abbrev pub never : Stated → Run → Bool
never st r = false

turned_never : (rest : List Stated) (t : Turn) → ((run : Run) → goes_until never rest run ≡ goes rest run) → turn_until never rest t ≡ by_turn rest t
turned_never rest (Pauses ask run) same = refl
turned_never rest (Passes run) same = same run
turned_never rest (Stops run) same = refl

pub goes_never : (l : List Stated) (r : Run) → goes_until never l r ≡ goes l r
goes_never [] r = refl
goes_never (st ∷ rest) r =
    let t : Turn = turn_start st (with_rest (st ∷ rest) r) in
    by_look never st rest r false refl ∙ on_turn_is never rest t ∙ turned_never rest t (goes_never rest) ∙ sym (goes_is_turn st rest r)

pub turn_never : (rest : List Stated) (t : Turn) → turn_until never rest t ≡ by_turn rest t
turn_never rest t = turned_never rest t (goes_never rest)

on_never : (l : List Stated) (r : Run) → on_until never l r ≡ asked_on l r
on_never [] r = refl
on_never (st ∷ rest) r = turn_never rest (turn st r.stage r)

start_on : (l : List Stated) (r : Run) → r.rest ≡ l → r.stage ≡ Start → goes l r ≡ asked_on l r
start_on [] r is at = ap (λ l. record { ask = Finished; run = with_rest l r }) (sym is)
start_on (st ∷ rest) r is at =
    goes_is_turn st rest r ∙ ap (λ l. by_turn rest (turn_start st (with_rest l r))) (sym is) ∙ ap (λ z. by_turn rest (turn st z r)) (sym at)

stage_never : (stage : Stage) (r : Run) → r.stage ≡ stage → stage_until never stage r ≡ asked_on r.rest r
stage_never Start r at = goes_never r.rest r ∙ start_on r.rest r refl at
stage_never Waiting r at = on_never r.rest r
stage_never (Acting d) r at = on_never r.rest r
stage_never (Awaiting slot number next) r at = on_never r.rest r

pub asked_never : (r : Run) → asked_until never r ≡ asked r
asked_never r = ap (λ (a : Asked). if is_some r.ending then record { ask = Finished; run = r } else a) (stage_never r.stage r refl)
