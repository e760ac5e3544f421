-- What a statement does to the halt of a unit.
use Rattle.std.proofs.Common.{◌≡◌, ◌⊎◌, ℕ, Bool, true, false, List, [], ◌∷◌, ◌++◌, Option, Some, None, refl, sym, ap, ◌∙◌, inl, inr, ◌&&◌}
use Rattle.std.specs.Prelude.{◌==◌, if◌then◌else◌, filter}
use Rattle.std.specs.List.{list_any}
use Rattle.std.proofs.lemmas.Bool.{eqb-true}
use Rattle.fj_value.specs.declared.condition.Condition.{Condition}
use Rattle.fj_value.specs.declared.condition.Rule.{Rule}
use Rattle.fj_statement.specs.declared.deck.Variable.{Variable}
use Rattle.fj_book.specs.Prohibitions.{prohibited}
use Rattle.fj_meaning.specs.Needs.{need, holders}
use Rattle.fj_meaning.specs.Telling.{waited}
use Rattle.fj_meaning.specs.State.{State, Unit, Entry, found, halts}
use Rattle.fj_meaning.specs.Statement.{Stated, step}
use Rattle.fj_meaning.specs.Reaching.{cause_of, becomes_pending}
use Rattle.fj_meaning.specs.HaltLaws.{Begins, Ends}
use Rattle.fj_meaning.proofs.Tells.{chosen, left, halting, cause_told, cause_last}
use Rattle.fj_meaning.proofs.Walk.{found_is}
use Rattle.fj_meaning.proofs.Units.{found_all}
use Rattle.fj_meaning.proofs.Sound.{Sound, caused}
use Rattle.fj_meaning.proofs.Reached.{sound_step}
use Rattle.fj_meaning.proofs.Turning.{stays, stopped}

abbrev pub Change : List Variable → Stated → State → State → Unit → Unit → Type 0
Change variables st s new u after = (after.halt ≡ u.halt) ⊎ Begins u after s new ⊎ Ends u after (waited s st.0.what)

module _ (variables : List Variable) (st : Stated) (s new : State) (u after : Unit) (here : caused s.book u) (there : after.halt ≡ cause_of new.book u.number) where
  -- one transfer more
  more : (e : Entry) → new.book ≡ s.book ++ e ∷ [] → Change variables st s new u after
  more e book = by u.halt refl (e.unit == u.number) (halts e.condition) refl refl
    where
      last : (o : Option Condition) → u.halt ≡ o → after.halt ≡ (elim o as (λ _. Option Condition) [ Some c ↦ Some c | None ↦ if halting u.number e then Some e.condition else None ])
      last o k = there ∙ ap (λ l. cause_of l u.number) book ∙ cause_last u.number s.book e o (sym here ∙ k)

      by : (o : Option Condition) → u.halt ≡ o → (a b : Bool) → (e.unit == u.number) ≡ a → halts e.condition ≡ b → Change variables st s new u after
      by (Some c) k a b i j = inl (last (Some c) k ∙ sym k)
      by None k true true i j =
          inr (inl (record {
            none = k;
            entry = e;
            last = book;
            own = eqb-true e.unit u.number i;
            halting = j;
            cause = last None k ∙ ap (λ p. if p && halts e.condition then Some e.condition else None) i ∙ ap (λ p. if p then Some e.condition else None) j;
          }))
      by None k true false i j = inl (last None k ∙ ap (λ p. if p && halts e.condition then Some e.condition else None) i ∙ ap (λ p. if p then Some e.condition else None) j ∙ sym k)
      by None k false b i j = inl (last None k ∙ ap (λ p. if p && halts e.condition then Some e.condition else None) i ∙ sym k)

  -- those that were told are gone
  fewer : new.book ≡ left (chosen s st.0.what).q s.book → Change variables st s new u after
  fewer book = by (list_any (halting u.number) (filter (chosen s st.0.what).q s.book)) refl
    where
      then_is : (b : Bool) → list_any (halting u.number) (filter (chosen s st.0.what).q s.book) ≡ b → after.halt ≡ (if b then None else cause_of s.book u.number)
      then_is b k =
          there ∙ ap (λ l. cause_of l u.number) book ∙ sym (cause_told (chosen s st.0.what).q u.number s.book (chosen s st.0.what).whole)
          ∙ ap (λ p. if p then None else cause_of s.book u.number) k

      by : (b : Bool) → list_any (halting u.number) (filter (chosen s st.0.what).q s.book) ≡ b → Change variables st s new u after
      by true k = inr (inr (record { tells = ap (list_any (halting u.number)) (chosen s st.0.what).are ∙ k; none = then_is true k }))
      by false k = inl (then_is false k ∙ sym here)

pub halt_changes : (variables : List Variable) (st : Stated) (s : State) (n : ℕ) (u after : Unit) → Sound s → found s.units n ≡ Some u → found (step variables st s).0.units n ≡ Some after
    → Change variables st s (step variables st s).0 u after
halt_changes variables st s n u after h at then_at = by (prohibited s.vars (holders s.book) (need variables s st.0.what)) refl (becomes_pending variables s st.0.what) refl
  where
    new : State
    new = (step variables st s).0

    here : caused s.book u
    here = found_all (caused s.book) s.units n u h.halts at

    there : after.halt ≡ cause_of new.book u.number
    there = found_all (caused new.book) new.units n after (sound_step variables st s h).halts then_at ∙ ap (cause_of new.book) (found_is new.units n after then_at ∙ sym (found_is s.units n u at))

    by : (o : Option Rule) → prohibited s.vars (holders s.book) (need variables s st.0.what) ≡ o → (b : Bool) → becomes_pending variables s st.0.what ≡ b → Change variables st s new u after
    by (Some rule) e b k = inl (there ∙ ap (λ (x : State). cause_of x.book u.number) (stopped variables st s rule e) ∙ sym here)
    by None e true k = let begun = (stays variables st s h.rise e).2 k in more variables st s new u after here there begun.0 begun.2
    by None e false k = fewer variables st s new u after here there ((stays variables st s h.rise e).1 k).0
