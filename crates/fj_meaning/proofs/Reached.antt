-- Each statement of a deck keeps what holds of its states.
use Rattle.std.proofs.Common.{◌≡◌, ℕ, true, not, List, [], ◌∷◌, Option, Some, None, refl, sym, ap, ◌∙◌, subst}
use Rattle.std.specs.Prelude.{if◌then◌else◌, filter}
use Rattle.std.specs.List.{AllPairs}
use Rattle.fj_value.specs.declared.condition.Rule.{Rule}
use Rattle.fj_statement.specs.declared.deck.Variable.{Variable}
use Rattle.fj_statement.specs.declared.statement.Transfer.{Transfer}
use Rattle.fj_statement.specs.declared.statement.Statement.{Statement}
use Rattle.fj_statement.specs.declared.statement.Statement.TheVariants as statement
use Rattle.fj_book.specs.Prohibitions.{prohibited}
use Rattle.fj_meaning.specs.Needs.{need, holders, number_of}
use Rattle.fj_meaning.specs.Telling.{waited, condition_of, is_asynchronous, is_told, of_unit, after_tells}
use Rattle.fj_meaning.specs.State.{State, Files, start}
use Rattle.fj_meaning.specs.Statement.{Stated, Ran, Ending, begun_in, step, acts, goes_on, executed, completed}
use Rattle.fj_meaning.specs.Reaching.{reached}
use Rattle.fj_meaning.proofs.Tells.{rising, Chosen, chosen, emptied, emptied_left, left, left_over, none_left, no_tells}
use Rattle.fj_meaning.proofs.Walk.{Ways, acts_walk}
use Rattle.fj_meaning.proofs.Sound.{Sound, none_of, sound_start, sound_completed, sound_defined, sound_tells, sound_moved, sound_left, sound_opened, sound_closed, sound_begun}

-- the state in which a statement acts
abbrev pub told : List Variable → ℕ → Statement → State → State
told variables line what s = after_tells variables line (waited s what) s

pub sound_told : (variables : List Variable) (line : ℕ) (what : Statement) (s : State) → Sound s → Sound (told variables line what s)
sound_told variables line what s h =
    let c : Chosen s.book (waited s what) (emptied what) = chosen s what in
    subst (λ es. Sound (after_tells variables line es s)) (sym c.are) (sound_tells variables line s c.q c.whole h)

pub told_book : (variables : List Variable) (line : ℕ) (what : Statement) (s : State) → AllPairs rising s.book → (told variables line what s).book ≡ left (chosen s what).q s.book
told_book variables line what s h = ap (λ es. filter (λ e. not (is_told es e)) s.book) (chosen s what).are ∙ left_over (chosen s what).q s.book h

told_none : (variables : List Variable) (line n : ℕ) (what : Statement) (s : State) → AllPairs rising s.book → emptied what ≡ Some n → none_of n (told variables line what s).book
told_none variables line n what s h e = subst (none_of n) (sym (told_book variables line what s h)) (emptied_left (chosen s what).q n s.book ((chosen s what).unit n e))

told_end : (variables : List Variable) (line : ℕ) (what : Statement) (s : State) → AllPairs rising s.book → what ≡ statement.End → (told variables line what s).book ≡ []
told_end variables line what s h e = ap (λ st. (told variables line st s).book) e ∙ none_left s.book h

-- a transfer that becomes pending waits for none
pub later_waits : (s : State) (t : Transfer) → is_asynchronous t ≡ true → waited s (statement.Transfer t) ≡ []
later_waits s t e = ap (λ b. if b then [] else of_unit s.book (number_of t.unit)) e

pub later_told : (variables : List Variable) (line : ℕ) (t : Transfer) (s : State) → is_asynchronous t ≡ true → told variables line (statement.Transfer t) s ≡ s
later_told variables line t s e = ap (λ es. after_tells variables line es s) (later_waits s t e) ∙ no_tells variables line s

allowed_then : (variables : List Variable) (line : ℕ) (what : Statement) (t : Transfer) (s : State) → what ≡ statement.Transfer t → is_asynchronous t ≡ true
    → prohibited s.vars (holders s.book) (need variables s what) ≡ None
    → prohibited (told variables line what s).vars (holders (told variables line what s).book) (need variables (told variables line what s) (statement.Transfer t)) ≡ None
allowed_then variables line what t s is later h =
    subst (λ st. prohibited (told variables line st s).vars (holders (told variables line st s).book) (need variables (told variables line st s) (statement.Transfer t)) ≡ None) (sym is)
    (subst (λ x. prohibited x.vars (holders x.book) (need variables x (statement.Transfer t)) ≡ None) (sym (later_told variables line t s later))
    (subst (λ st. prohibited s.vars (holders s.book) (need variables s st) ≡ None) is h))

sound_ways : (variables : List Variable) (line : ℕ) (what : Statement) (s : State) → prohibited s.vars (holders s.book) (need variables s what) ≡ None → Sound s
    → Ways variables what (told variables line what s) Sound
sound_ways variables line what s allowed h = record {
  same = now;
  defines = sound_defined;
  prints = λ o. record { rise = now.rise; below = now.below; apart = now.apart; skip = now.skip; join = now.join; halts = now.halts; ascend = now.ascend; few = now.few; one = now.one; away = now.away };
  moves = λ v n u c at name. sound_moved (told variables line what s) v n u c at name now;
  leaves = λ n u keep e at. sound_left (told variables line what s) n u keep (told_none variables line n what s h.rise e) at now;
  opens = λ t n c p book e missing room. sound_opened t n c (subst (none_of n) (sym book) (told_none variables line n what s h.rise e)) missing room p;
  pends = λ t n u done is later at name. sound_begun variables (told variables line what s) t n u done at name (allowed_then variables line what t s is later allowed) now;
  closes = λ e. sound_closed (told variables line what s) (told_end variables line what s h.rise e) now;
}
  where
    now : Sound (told variables line what s)
    now = sound_told variables line what s h

pub sound_step : (variables : List Variable) (st : Stated) (s : State) → Sound s → Sound (step variables st s).0
unfolding step
sound_step variables st s h = by (prohibited s.vars (holders s.book) (need variables s st.0.what)) refl
  where
    by : (o : Option Rule) → prohibited s.vars (holders s.book) (need variables s st.0.what) ≡ o → Sound (goes_on st.1 variables st.0.line st.0.what s o).0
    by (Some rule) e = h
    by None e =
        let done = acts st.1 variables (told variables st.0.line st.0.what s) st.0.what (condition_of (waited s st.0.what)) in
        sound_completed done.0 (completed variables st.0.line st.0.what done).0.vars (completed variables st.0.line st.0.what done).0.new_unit
        (acts_walk st.1 variables st.0.what (told variables st.0.line st.0.what s) Sound (condition_of (waited s st.0.what)) (sound_ways variables st.0.line st.0.what s e h))

pub sound_executed : (variables : List Variable) (sts : List Stated) (s : State) → Sound s → Sound (executed variables sts s).state
sound_executed variables [] s h = h
sound_executed variables (st ∷ more) s h = by (sound_executed variables more after (sound_step variables (begun_in s st) s h)) (step variables (begun_in s st) s).1
  where
    after : State
    after = (step variables (begun_in s st) s).0

    by : Sound (executed variables more after).state → (o : Option Ending) → Sound (elim o as (λ _. Ran) [ None ↦ executed variables more after | Some e ↦ record { state = after; ending = Some e } ]).state
    by rest None = rest
    by rest (Some e) = sound_step variables (begun_in s st) s h

pub sound_reached : (variables : List Variable) (sts : List Stated) (files : Files) → Sound (reached variables sts files)
sound_reached variables sts files = sound_executed variables sts (start variables files) (sound_start variables files)
