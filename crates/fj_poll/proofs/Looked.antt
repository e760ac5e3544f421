-- A look is right, and the deck goes on with it.
use Rattle.std.proofs.Common.{◌≡◌, ℕ, ◌+◌, ◌<◌, ◌≤◌, true, false, List, [], ◌∷◌, ◌++◌, length, drop, get_or, None, Option, Some, slice_get, refl, sym, ap, ◌∙◌, subst, inl, inr, arith}
use Rattle.std.proofs.Math.Bool.{not-not}
use Rattle.std.specs.Option.{option_map_or}
use Rattle.std.proofs.lemmas.Bool.{cases_lt}
use Rattle.std.proofs.lemmas.Option.{slice_get_within}
use Rattle.fj_statement.specs.Units.{looked}
use Rattle.fj_statement.specs.declared.deck.Lined.{Lined}
use Rattle.fj_statement.specs.declared.deck.Deck.{Deck}
use Rattle.fj_slot.specs.Ledger.{Ledger}
use Rattle.fj_slot.specs.Serving.{Meaning}
use Rattle.fj_slot.proofs.Serving.{length-outcomes}
use Rattle.fj_slot.proofs.Sound.{length_mapped as jobs_long}
use Rattle.fj_world.specs.Fits.{SlotsFit}
use Rattle.fj_world.specs.Plain.{PlainSlot}
use Rattle.fj_world.specs.Rack.{Rack}
use Rattle.fj_world.proofs.Places.{set_other, set_same, slice_get_in}
use Rattle.fj_bay.specs.Bay.{Bay}
use Rattle.fj_bay.specs.Jobs.{Job, Answer}
use Rattle.fj_meaning.specs.State.{Files}
use Rattle.fj_meaning.specs.Statement.{Stated, stated, control_by, begins}
use Rattle.fj_meaning_jobs.specs.Core.{Core}
use Rattle.fj_meaning_jobs.specs.Desks.{Desk}
use Rattle.fj_meaning_jobs.specs.Desking.{fresh}
use Rattle.fj_meaning_turns.specs.Inside.{cut_desks}
use Rattle.fj_meaning_turns.specs.Run.{Run, Start}
use Rattle.fj_meaning_turns.specs.Serving.{over_bays, desk_of, desks_of}
use Rattle.fj_meaning_turns.proofs.Passed.{At, long_at, counts_at}
use Rattle.fj_meaning_turns.proofs.Slots.{same_some, count_at, map_get, length_mapped, length_set}
use Rattle.fj_meaning_turns.proofs.Stages.{AtStage}
use Rattle.fj_meaning_turns.proofs.Ties.{Ties}
use Rattle.fj_meaning_cut.specs.Stopping.{WasAwaited}
use Rattle.fj_meaning_looks.specs.Inquiring.{Question, asks_whether, looks_for}
use Rattle.fj_run_script.specs.Looking.{are_done, known_at, look_at}
use Rattle.fj_run_script.specs.declared.looking.Look.{Look}
use Rattle.fj_job.proofs.Leaving.{same_index}
use Rattle.fj_run_script.proofs.Looks.{asks_looked}
use Rattle.fj_poll.specs.Looks.{given_at, Asks, IsLook, AreSame, IsPut, NoneLooks, NoneLooksBefore}
use Rattle.fj_poll.proofs.Putting.{LooksTo, are_looks, with_at, asked_before, looks_then}

-- ---- a deck with looks up to a place

-- Its looks are at places up to this one, and no statement before it looks any more; nor does the one there, where a look is at it.
pub record IsPutTo (deck put : Deck) (files : Files) (place : ℕ) (looks : List Look) : Type 0 where
  pub variables : put.variables ≡ deck.variables
  pub groups : put.groups ≡ deck.groups
  pub long : length put.statements ≡ length deck.statements
  pub bound : ℕ
  pub low : bound ≤ place + 1
  pub knows : place < bound → (lined : Lined) → slice_get put.statements place ≡ Some lined → asks_whether lined.what ≡ false
  pub looks_are : LooksTo deck put files bound 0 looks
  pub none : NoneLooksBefore put files place

pub is_put : (deck put : Deck) (files : Files) (place : ℕ) (looks : List Look) → IsPutTo deck put files place looks → IsPut deck put files looks
is_put deck put files place looks h = record { variables = h.variables; groups = h.groups; long = h.long; are = are_looks deck put files h.bound 0 looks h.looks_are }

-- behind its looks it is as it was
same_behind : (deck put : Deck) (files : Files) (bound from : ℕ) (ls : List Look) → LooksTo deck put files bound from ls → AreSame deck put bound (length deck.statements)
same_behind deck put files bound from [] h index first last = let low = h.0 in h.1 index (omega (arith, first, low)) last
same_behind deck put files bound from (l ∷ ls) h index first last = same_behind deck put files bound (h.0 + 1) ls h.4 index first last

module _ (deck put : Deck) (files : Files) (was place : ℕ) (looks : List Look) (h : IsPutTo deck put files was looks) (onward : was ≤ place) (lined : Lined) (item : slice_get put.statements place ≡ Some lined) (asks : asks_whether lined.what ≡ true) where
  inside : place < length deck.statements
  inside = let low = slice_get_within put.statements place lined item in let long = h.long in omega (arith, low, long)

  -- the look is behind all others
  behind_all : h.bound ≤ place
  behind_all = elim (cases_lt place h.bound) [
    | inr low ↦ low
    | inl more ↦
        let low = h.low in
        let same : place ≡ was = omega (arith, more, low, onward) in
        absurd (let z : true ≡ false = sym asks ∙ h.knows (subst (λ n. n < h.bound) same more) lined (ap (slice_get put.statements) (sym same) ∙ item) in cc)
  ]

  -- the statement is that of the deck
  pub item_is : slice_get deck.statements place ≡ Some lined
  item_is = sym (same_behind deck put files h.bound 0 looks h.looks_are place behind_all inside) ∙ item

  pub put_on : (q : Question) (done : ℕ) → ((index : ℕ) (l : Lined) → was ≤ index → index < place → slice_get put.statements index ≡ Some l → Asks put files index l → ⊥)
      → IsLook deck (with_at put place (known_at q done lined)) files place (look_at q done lined)
      → IsPutTo deck (with_at put place (known_at q done lined)) files place (looks ++ look_at q done lined ∷ [])
  put_on q done between x =
      let new : Lined = known_at q done lined in
      record {
        variables = h.variables;
        groups = h.groups;
        long = length_set put.statements place new ∙ h.long;
        bound = place + 1;
        low = omega arith;
        knows = λ low l e.
            let same : new ≡ l = same_some (sym (set_same put.statements place new (slice_get_within put.statements place lined item)) ∙ e) in
            ap (λ (y : Lined). asks_whether y.what) (sym same) ∙ asks_looked q.unit (are_done q done) lined.what;
        looks_are = looks_then deck put files place new h.bound 0 looks (look_at q done lined) inside behind_all h.looks_are x;
        none = λ index l low e a.
            let before : slice_get put.statements index ≡ Some l = sym (set_other put.statements place index new (λ same. absurd (omega (arith, same, low)))) ∙ e in
            let asked : Asks put files index l = asked_before deck put files place new index l low a in
            elim (cases_lt index was) [ inl earlier ↦ h.none index l earlier before asked | inr later ↦ between index l later low before asked ];
      }

-- at the end none looks
pub none_looks : (deck put : Deck) (files : Files) (place : ℕ) (looks : List Look) → IsPutTo deck put files place looks
    → ((index : ℕ) (l : Lined) → place ≤ index → slice_get put.statements index ≡ Some l → Asks put files index l → ⊥) → NoneLooks put files
none_looks deck put files place looks h behind index l item asks = elim (cases_lt index place) [ inl earlier ↦ h.none index l earlier item asks | inr later ↦ behind index l later item asks ]

-- ---- a look is right

desk_found : {E J A : Type 0} (m : Meaning E J A Bay Job Answer) (qs : List (PlainSlot Bay Job)) (slot : ℕ) (desk : Desk) → slice_get (desks_of m qs) slot ≡ Some desk → (q : PlainSlot Bay Job) × (slice_get qs slot ≡ Some q) × (desk_of m q ≡ desk)
desk_found m qs slot desk e =
    let low : slot < length qs = subst (λ n. slot < n) (length_mapped (desk_of m) qs) (slice_get_within (desks_of m qs) slot desk e) in
    let q = slice_get_in qs slot low in
    (q.0, q.1, same_some (sym (map_get (desk_of m) qs slot q.0 q.1) ∙ e))

-- The execution of the deck, as it is put with the look, comes to the run that goes on there.
module _ {E J A : Type 0} (m : Meaning E J A Bay Job Answer) (deck put : Deck) (files : Files) (place : ℕ) (lined : Lined) (item : slice_get put.statements place ≡ Some lined) (is : slice_get deck.statements place ≡ Some lined)
    (q : Question) (done : ℕ) (r : Run) (qs : List (PlainSlot Bay Job)) (start : r.stage ≡ Start)
    (x : At m put.variables (stated (with_at put place (known_at q done lined)).statements) (fresh put.variables files) r qs)
    (left : length r.rest ≡ length (drop place (stated (with_at put place (known_at q done lined)).statements)))
    (looks : looks_for r.variables (begins r.core.vars r.core.new_unit (lined, control_by lined.what)) r.core ≡ Some q)
    (rack : Rack E J A) (fit : SlotsFit (over_bays m) qs rack) (found : (l : Ledger E J A) → slice_get rack.slots q.slot ≡ Some l → done ≡ l.done)
    (unfound : slice_get rack.slots q.slot ≡ None → done ≡ 0) where
  low : place < length (stated (with_at put place (known_at q done lined)).statements)
  low =
      let one = length_set put.statements place (known_at q done lined) in
      let more = length_mapped {Y = Stated} (λ (l : Lined). (l, control_by l.what)) (with_at put place (known_at q done lined)).statements in
      let inside = slice_get_within put.statements place lined item in
      omega (arith, one, more, inside)

  at : x.index ≡ place
  at = same_index (stated (with_at put place (known_at q done lined)).statements) x.index place low (sym (long_at m put.variables (stated (with_at put place (known_at q done lined)).statements) (fresh put.variables files) r qs x) ∙ left)

  ties : Ties m r qs x.before
  ties = subst (AtStage m put.variables x.statement x.before r qs) start x.stands

  -- the ledger of a slot
  ledger : (slot : ℕ) (p : PlainSlot Bay Job) → slice_get qs slot ≡ Some p → (l : Ledger E J A) × (slice_get rack.slots slot ≡ Some l)
  ledger slot p e = slice_get_in rack.slots slot (subst (λ n. slot < n) fit.same (slice_get_within qs slot p e))

  told_less : (number : ℕ) → WasAwaited put.variables (stated (with_at put place (known_at q done lined)).statements) files place q.slot number → number < done
  told_less number w =
      let was : number < get_or r.told q.slot 0 =
      x.earlier q.slot number (subst (λ n. WasAwaited put.variables (stated (with_at put place (known_at q done lined)).statements) files n q.slot number) (sym at) w) in
      let counts = counts_at m put.variables (stated (with_at put place (known_at q done lined)).statements) (fresh put.variables files) r qs x in
      let p = count_at (λ (p : PlainSlot Bay Job). p.told) qs q.slot number (subst (λ ts. number < get_or ts q.slot 0) counts was) in
      let l = ledger q.slot p.0 p.1 in
      let told = (fit.each q.slot p.0 l.0 p.1 l.1).done in
      let is_done = found l.0 l.1 in
      let count : get_or r.told q.slot 0 ≡ p.0.told = ap (λ ts. get_or ts q.slot 0) counts ∙ p.2 in
      omega (arith, was, count, told, is_done)

  given_some : (desk : Desk) → slice_get x.before.desks q.slot ≡ Some desk → done ≤ length desk.log
  given_some desk e =
      let p = desk_found m qs q.slot desk (ap (λ ds. slice_get ds q.slot) ties.desks ∙ e) in
      let l = ledger q.slot p.0 p.1 in
      let sound = (fit.each q.slot p.0 l.0 p.1 l.1).sound in
      let within = sound.counted.within in
      let jobs : length l.0.jobs ≡ length p.0.jobs = jobs_long l.0.jobs p.0.jobs m.task sound.jobs in
      let log : length desk.log ≡ length p.0.jobs = ap (λ (d : Desk). length d.log) (sym p.2) ∙ length-outcomes (over_bays m) p.0.start p.0.jobs in
      let is_done = found l.0 l.1 in
      omega (arith, within, jobs, log, is_done)

  -- where there is no desk there is no slot
  no_desk : slice_get x.before.desks q.slot ≡ None → (l : Ledger E J A) → slice_get rack.slots q.slot ≡ Some l → ⊥
  no_desk e l f =
      let p = slice_get_in qs q.slot (subst (λ n. q.slot < n) (sym fit.same) (slice_get_within rack.slots q.slot l f)) in
      let z : ◌≡◌ {A = Option Desk} None (Some (desk_of m p.0)) = sym e ∙ sym (ap (λ ds. slice_get ds q.slot) ties.desks) ∙ map_get (desk_of m) qs q.slot p.0 p.1 in
      cc

  given_most : done ≤ given_at x.before.desks q.slot
  given_most = by (slice_get x.before.desks q.slot) refl (slice_get rack.slots q.slot) refl
    where
      by : (o : Option Desk) → slice_get x.before.desks q.slot ≡ o → (k : Option (Ledger E J A)) → slice_get rack.slots q.slot ≡ k → done ≤ option_map_or (λ (d : Desk). length d.log) o 0
      by (Some desk) e k f = given_some desk e
      by None e None f = let nothing = unfound f in omega (arith, nothing)
      by None e (Some l) f = absurd (no_desk e l f)

  pub is_look : IsLook deck (with_at put place (known_at q done lined)) files place (look_at q done lined)
  is_look =
      let there : Asks (with_at put place (known_at q done lined)) files place lined = record {
        statement = x.statement;
        before = x.before;
        there = ap (λ n. cut_desks put.variables n (stated (with_at put place (known_at q done lined)).statements) (fresh put.variables files)) (sym at) ∙ x.reached;
        question = q;
        asks = ap (λ (k : Core). looks_for put.variables (begins k.vars k.new_unit (lined, control_by lined.what)) k) (sym ties.core)
            ∙ ap (λ vs. looks_for vs (begins r.core.vars r.core.new_unit (lined, control_by lined.what)) r.core) (sym x.variables_are) ∙ looks;
      } in record {
        lined = lined;
        is = is;
        put_is = set_same put.statements place (known_at q done lined) (slice_get_within put.statements place lined item)
            ∙ ap (λ b. Some (let y : Lined = record lined { what = looked q.unit b lined.what } in y)) (sym (not-not (are_done q done)));
        line = refl;
        right = record { asks = there; unit = refl; answer = refl; told = told_less; given = given_most };
      }
