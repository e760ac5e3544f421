-- A machine of the same parts is the same.
use Rattle.std.proofs.Common.{◌≡◌, ◌≤◌, ◌+◌, true, length, drop, Option, IsSome, vec_capacity, ap, ◌∙◌, subst}
use Rattle.std.proofs.Props.{props}
use Rattle.std.specs.declared.alloc.Global.{Global}
use Rattle.std.specs.declared.vec.Vec.{Vec}
use Rattle.fj_connect.specs.Linked.{Linked}
use Rattle.fj_outside.specs.declared.outside.FileStore.{Ghosts}
use Rattle.fj_statement.specs.declared.deck.Deck.{Deck}
use Rattle.fj_run_items.specs.Kinds.{kinds_of}
use Rattle.fj_run_script.specs.Closing.{hand_may_be_at}
use Rattle.fj_run_script.specs.Room.{looks_left}
use Rattle.fj_run_script.specs.declared.looking.Look.{Look}
use Rattle.fj_run_script.specs.declared.machine.AtHand.{AtHand}
use Rattle.fj_run_script.specs.declared.machine.Machine.{Machine}
use Rattle.fj_run_script.specs.declared.state.State.{State}
use Rattle.fj_run_script.specs.declared.tally.Tally.{Tally}

record Parts (F : Type 0) (ghosts : Ghosts F) : Type 0 where
  pub deck : Deck
  pub state : State F ghosts
  pub at : AtHand
  pub tally : Tally
  pub kept : Option (Linked F)
  pub looks : Vec Look Global

module _ {F : Type 0} {ghosts : Ghosts F} where
  abbrev Hold : Parts F ghosts → Type 0
  Hold p = (p.state.core.store.kinds ≡ kinds_of p.deck.variables) × (hand_may_be_at p.deck.statements p.at.place p.state.stage ≡ true) × (IsSome p.kept → p.tally.over ≡ true)
      × (length p.looks.items + looks_left (drop p.at.place p.deck.statements) ≤ vec_capacity p.looks)

  abbrev made : (p : Parts F ghosts) → Hold p → Machine F ghosts
  made p h = record { deck = p.deck; state = p.state; at = p.at; tally = p.tally; kept = p.kept; looks = p.looks; kinds = h.0; hand = h.1; refused = h.2; room = h.3 }

  abbrev parts : Machine F ghosts → Parts F ghosts
  parts m = record { deck = m.deck; state = m.state; at = m.at; tally = m.tally; kept = m.kept; looks = m.looks }

  hold_prop : (p : Parts F ghosts) → IsProp (Hold p)
  hold_prop p = hlevel props

  same_made : (p p' : Parts F ghosts) → p' ≡ p → (h : Hold p) (h' : Hold p') → made p' h' ≡ made p h
  same_made p p' e h h' = subst (λ q. (k : Hold q) → made p' h' ≡ made q k) e (λ k. ap (made p') (hold_prop p' h' k)) h

  -- with another deck, which is the same
  pub same_deck : (m m' : Machine F ghosts) → m'.deck ≡ m.deck → m'.state ≡ m.state → m'.at ≡ m.at → m'.tally ≡ m.tally → m'.kept ≡ m.kept → m'.looks ≡ m.looks → m' ≡ m
  same_deck m m' deck state at tally kept looks =
      same_made (parts m) (parts m') (
      ap (λ x. record (parts m') { deck = x }) deck ∙ ap (λ x. record (parts m') { deck = m.deck; state = x }) state
      ∙ ap (λ x. record (parts m) { at = x; tally = m'.tally; kept = m'.kept; looks = m'.looks }) at ∙ ap (λ x. record (parts m) { tally = x; kept = m'.kept; looks = m'.looks }) tally
      ∙ ap (λ x. record (parts m) { kept = x; looks = m'.looks }) kept ∙ ap (λ x. record (parts m) { looks = x }) looks
      ) (m.kinds, m.hand, m.refused, m.room) (m'.kinds, m'.hand, m'.refused, m'.room)
