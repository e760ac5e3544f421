-- The runner before each of its asks, served alone.
use Rattle.std.proofs.Common.{◌≡◌, ◌⊎◌, ℕ, zero, suc, ◌+◌, true, false, List, [], ◌∷◌, map, set, get_or, slice_get, length, drop, Option, Some, None, is_some, refl, sym, ap, ◌∙◌, subst, inl, inr, arith}
use Rattle.fj_statement.specs.declared.deck.Variable.{Variable}
use Rattle.fj_slot.specs.Serving.{Meaning}
use Rattle.fj_slot.specs.Sound.{outcome}
use Rattle.fj_world.specs.declared.ask.Ask.{Ask}
use Rattle.fj_world.specs.declared.ask.Ask.TheVariants.{Submit, Settle, Finished}
use Rattle.fj_world.specs.Conduct.{Conduct}
use Rattle.fj_world.specs.Losing.{given_number, given_reply, given_outcome, answered, before_ask}
use Rattle.fj_world.proofs.Places.{set_itself}
use Rattle.fj_world.specs.Plain.{Plain, PlainSlot, asked_next, submitted_to, told_from, settled_from, served, next, after}
use Rattle.fj_bay.specs.Bay.{Bay}
use Rattle.fj_bay.specs.Jobs.{Job, Answer}
use Rattle.fj_meaning.specs.State.{Files}
use Rattle.fj_meaning.specs.Statement.{Stated}
use Rattle.fj_meaning_jobs.specs.Desks.{Outcome}
use Rattle.fj_meaning_jobs.specs.Doing.{Desked}
use Rattle.fj_meaning_jobs.specs.Desking.{begun_at, fresh}
use Rattle.fj_meaning.proofs.Begun.{begins_twice}
use Rattle.fj_meaning_turns.specs.Run.{Run}
use Rattle.fj_meaning_turns.specs.Turns.{asked, told_of}
use Rattle.fj_meaning_turns.specs.Serving.{over_bays, Shows, run_conduct, desks_of, first_run, fresh_slots, begins}
use Rattle.fj_meaning_turns.specs.Inside.{cut_desks}
use Rattle.fj_meaning_turns.specs.Awaiting.{AwaitedAreTold, HasAwaited, EachAwaited}
use Rattle.fj_meaning_turns.specs.Passing.{passes, StandsAt, EachStands, AsksAt, EachAsks}
use Rattle.fj_meaning_turns.proofs.Awaited.{IsDueAt, asked_told}
use Rattle.fj_meaning_turns.proofs.Slots.{get_mapped, map_get, map_set}
use Rattle.fj_meaning_turns.proofs.Ties.{more, given}
use Rattle.fj_meaning_turns.proofs.Decks.{first_ties}
use Rattle.fj_meaning_turns.proofs.Passed.{passes_none, At, Over, long_at, passes_stand, tells_at, output_at, stands_at, AtAsk, Led, asked_leads}

module _ {S G J A P T R : Type 0} (mean : Meaning G J A P T R) (c : Conduct S T R) where
  -- one entry more
  pub after_next : (n : ℕ) (x : Plain P c) → after mean c (suc n) x ≡ next mean c (after mean c n x)
  after_next zero x = refl
  after_next (suc n) x = after_next n (next mean c x)

module _ {E J A S : Type 0} (m : Meaning E J A Bay Job Answer) (s : Shows S) (variables : List Variable) (deck : List Stated) (first : Desked) where
  abbrev c : Conduct S Job Answer
  c = run_conduct s

  -- what it was before an ask, and with the ask at hand: it stands inside a statement, or has finished
  abbrev pub Fares : Plain Bay c → Run × List (PlainSlot Bay Job) → Type 0
  Fares x b =
      ((x ≡ asked_next (over_bays m) c b.0 b.1) × At m variables deck first b.0 b.1)
      ⊎ ((x.hand ≡ Finished) × Over m variables deck first x.script × Over m variables deck first b.0)

  asks_at : {told : List ℕ} (run : Run) (qs : List (PlainSlot Bay Job)) → AtAsk m variables deck first told run qs → AsksAt variables deck first run
  asks_at run qs y = record {
    index = y.stands.index;
    statement = y.stands.statement;
    before = y.stands.before;
    reached = y.stands.reached;
    rest = long_at m variables deck first run qs y.stands;
    output = output_at m variables deck first run qs y.stands;
    due = sym y.leaves ∙ output_at m variables deck first run qs y.stands;
    tells = tells_at m variables deck first run qs y.stands;
  }

  -- an answer changes neither output nor tells
  told_asks : {told : List ℕ} (run : Run) (qs : List (PlainSlot Bay Job)) (o : Outcome) → AtAsk m variables deck first told (told_of run o) qs → AsksAt variables deck first run
  told_asks run qs o y =
      let z = asks_at (told_of run o) qs y in
      record { index = z.index; statement = z.statement; before = z.before; reached = z.reached; rest = z.rest; output = z.output; due = z.due; tells = z.tells }

  -- the ask is answered, and the next one taken
  fares_led : (ask : Ask Job) (run : Run) (qs : List (PlainSlot Bay Job)) → Led m variables deck first ask run qs
      → let x : Plain Bay c = record { script = run; hand = ask; slots = qs } in Fares (next (over_bays m) c x) (answered (over_bays m) c ask x)
  fares_led (Submit slot job) run qs (q, at, y) =
      let x : Plain Bay c = record { script = run; hand = Submit slot job; slots = qs } in
      subst (Fares (next (over_bays m) c x)) (sym (ap (λ z. given_number (over_bays m) c z slot job x) at)) (inl (ap (λ z. submitted_to (over_bays m) c z slot job x) at, y.stands))
  fares_led (Settle slot) run qs (q, at, o, out, y) =
      let x : Plain Bay c = record { script = run; hand = Settle slot; slots = qs } in
      subst (Fares (next (over_bays m) c x)) (sym (ap (λ z. given_outcome (over_bays m) c z slot x) at ∙ ap (λ z. given_reply (over_bays m) c z q slot x) out))
      (inl (ap (λ z. settled_from (over_bays m) c z slot x) at ∙ ap (λ z. told_from (over_bays m) c z q slot x) out, y.stands))
  fares_led Finished run qs over = inr (refl, over, over)

  fares_on : (x : Plain Bay c) (b : Run × List (PlainSlot Bay Job)) → Fares x b → Fares (next (over_bays m) c x) (answered (over_bays m) c x.hand x)
  fares_on x b (inl (e, y)) =
      subst (λ z. Fares (next (over_bays m) c z) (answered (over_bays m) c z.hand z)) (sym e)
      (fares_led (asked b.0).ask (asked b.0).run b.1 (asked_leads m variables deck first b.0 b.1 y))
  fares_on x b (inr (h, over, was)) =
      let same : next (over_bays m) c x ≡ x = ap (λ a. served (over_bays m) c a x) h in
      let kept : answered (over_bays m) c x.hand x ≡ (x.script, x.slots) = ap (λ a. answered (over_bays m) c a x) h in
      subst (λ z. Fares z (answered (over_bays m) c x.hand x)) (sym same) (subst (Fares x) (sym kept) (inr (h, over, over)))

  pub fares_before : (n : ℕ) (r : Run) (qs : List (PlainSlot Bay Job)) → Fares (asked_next (over_bays m) c r qs) (r, qs)
      → Fares (after (over_bays m) c n (asked_next (over_bays m) c r qs)) (before_ask (over_bays m) c n r qs)
  fares_before zero r qs h = h
  fares_before (suc n) r qs h =
      let x : Plain Bay c = after (over_bays m) c n (asked_next (over_bays m) c r qs) in
      subst (λ z. Fares z (answered (over_bays m) c x.hand x)) (sym (after_next (over_bays m) c n (asked_next (over_bays m) c r qs)))
      (fares_on x (before_ask (over_bays m) c n r qs) (fares_before n r qs h))

  -- at an ask it stands at a statement, unless it has finished
  asks_led : (ask : Ask Job) (run : Run) (qs : List (PlainSlot Bay Job)) → Led m variables deck first ask run qs → (ask ≡ Finished) ⊎ AsksAt variables deck first run
  asks_led (Submit slot job) run qs (q, at, y) = inr (asks_at run (set qs slot (given q job)) y)
  asks_led (Settle slot) run qs (q, at, o, out, y) = inr (told_asks run (set qs slot (more q)) o y)
  asks_led Finished run qs over = inl refl

  pub asks_before : (x : Plain Bay c) (b : Run × List (PlainSlot Bay Job)) → Fares x b → (x.hand ≡ Finished) ⊎ AsksAt variables deck first x.script
  asks_before x b (inl (e, y)) =
      subst (λ (z : Plain Bay c). (z.hand ≡ Finished) ⊎ AsksAt variables deck first z.script) (sym e) (asks_led (asked b.0).ask (asked b.0).run b.1 (asked_leads m variables deck first b.0 b.1 y))
  asks_before x b (inr (h, over, was)) = inl h

  -- at an ask, and where the deck ended, each job that earlier statements wait for was told
  awaited_led : (files : Files) → fresh variables files ≡ first → (ask : Ask Job) (run : Run) (qs : List (PlainSlot Bay Job)) → Led m variables deck first ask run qs
      → ((ask ≡ Finished) × (run.ending ≡ None)) ⊎ HasAwaited variables deck files run
  awaited_led files same ask run qs led = by ask led
    where
      there : (index : ℕ) (statement : Stated) (before : Desked) → cut_desks variables index deck first ≡ Some (statement, before) → length run.rest ≡ length (drop index deck) → AwaitedAreTold variables deck first index run.told
          → HasAwaited variables deck files run
      there index statement before reached rest told = record {
        index = index;
        statement = statement;
        before = before;
        reached = ap (cut_desks variables index deck) same ∙ reached;
        rest = rest;
        told = subst (λ f. AwaitedAreTold variables deck f index run.told) (sym same) told;
      }

      by : (a : Ask Job) → Led m variables deck first a run qs → ((a ≡ Finished) × (run.ending ≡ None)) ⊎ HasAwaited variables deck files run
      by (Submit slot job) (q, at, y) = inr (there y.stands.index y.stands.statement y.stands.before y.stands.reached (long_at m variables deck first run (set qs slot (given q job)) y.stands) y.before_it)
      by (Settle slot) (q, at, o, out, y) = inr (there y.stands.index y.stands.statement y.stands.before y.stands.reached (long_at m variables deck first (told_of run o) (set qs slot (more q)) y.stands) y.before_it)
      by Finished (inl (left, none)) = inl (refl, none)
      by Finished (inr x) = inr (there x.index x.statement x.before x.reached x.place x.earlier)

  pub awaited_before : (files : Files) → fresh variables files ≡ first → (x : Plain Bay c) (b : Run × List (PlainSlot Bay Job)) → Fares x b
      → ((x.hand ≡ Finished) × (x.script.ending ≡ None)) ⊎ HasAwaited variables deck files x.script
  awaited_before files same x b (inl (e, y)) =
      subst (λ (z : Plain Bay c). ((z.hand ≡ Finished) × (z.script.ending ≡ None)) ⊎ HasAwaited variables deck files z.script) (sym e)
      (awaited_led files same (asked b.0).ask (asked b.0).run b.1 (asked_leads m variables deck first b.0 b.1 y))
  awaited_before files same x b (inr (h, over, was)) =
      subst (λ a. ((a ≡ Finished) × (x.script.ending ≡ None)) ⊎ HasAwaited variables deck files x.script) (sym h) (awaited_led files same Finished x.script x.slots over)

  -- where it has finished, no statement is left, or the deck ended
  pub over_at : (x : Plain Bay c) (b : Run × List (PlainSlot Bay Job)) → Fares x b → x.hand ≡ Finished → Over m variables deck first x.script
  over_at x b (inl (e, y)) h =
      let led : Led m variables deck first x.hand x.script x.slots = subst (λ (z : Plain Bay c). Led m variables deck first z.hand z.script z.slots) (sym e) (asked_leads m variables deck first b.0 b.1 y) in
      subst (λ a. Led m variables deck first a x.script x.slots) h led
  over_at x b (inr (f, over, was)) h = over

-- ---- the runner counts the jobs that were told

module _ {E J A S : Type 0} (m : Meaning E J A Bay Job Answer) (s : Shows S) where
  abbrev conduct : Conduct S Job Answer
  conduct = run_conduct s

  abbrev Counts : Run → List (PlainSlot Bay Job) → Type 0
  Counts run qs = run.told ≡ map (λ (q : PlainSlot Bay Job). q.told) qs

  counts_submitted : (slot : ℕ) (job : Job) (o : Option (PlainSlot Bay Job)) (x : Plain Bay conduct) → slice_get x.slots slot ≡ o → Counts x.script x.slots
      → let y = submitted_to (over_bays m) conduct o slot job x in Counts y.script y.slots
  counts_submitted slot job None x e h = h
  counts_submitted slot job (Some q) x e h =
      (asked_told x.script).0 ∙ h
      ∙ sym (map_set (λ (z : PlainSlot Bay Job). z.told) x.slots slot (given q job) ∙ set_itself (map (λ (z : PlainSlot Bay Job). z.told) x.slots) slot q.told (map_get (λ (z : PlainSlot Bay Job). z.told) x.slots slot q e))

  counts_told : (slot : ℕ) (o : Option Outcome) (q : PlainSlot Bay Job) (x : Plain Bay conduct) → slice_get x.slots slot ≡ Some q → x.script.due ≡ slot → Counts x.script x.slots
      → let y = told_from (over_bays m) conduct o q slot x in Counts y.script y.slots
  counts_told slot None q x e due h = h
  counts_told slot (Some reply) q x e due h =
      (asked_told (told_of x.script reply)).0 ∙ ap (λ k. set x.script.told k (get_or x.script.told k 0 + 1)) due
      ∙ ap (λ ts. set ts slot (get_or ts slot 0 + 1)) h
      ∙ ap (λ n. set (map (λ (z : PlainSlot Bay Job). z.told) x.slots) slot (n + 1)) (get_mapped (λ (z : PlainSlot Bay Job). z.told) x.slots slot q e)
      ∙ sym (map_set (λ (z : PlainSlot Bay Job). z.told) x.slots slot (more q))

  counts_settled : (slot : ℕ) (o : Option (PlainSlot Bay Job)) (x : Plain Bay conduct) → slice_get x.slots slot ≡ o → x.script.due ≡ slot → Counts x.script x.slots
      → let y = settled_from (over_bays m) conduct o slot x in Counts y.script y.slots
  counts_settled slot None x e due h = h
  counts_settled slot (Some q) x e due h = counts_told slot (outcome (over_bays m) q.start q.jobs q.told) q x e due h

  counts_served : (ask : Ask Job) (x : Plain Bay conduct) → IsDueAt ask x.script.due → Counts x.script x.slots → let y = served (over_bays m) conduct ask x in Counts y.script y.slots
  counts_served (Submit slot job) x due h = counts_submitted slot job (slice_get x.slots slot) x refl h
  counts_served (Settle slot) x due h = counts_settled slot (slice_get x.slots slot) x refl due h
  counts_served Finished x due h = h

  counts_next : (variables : List Variable) (deck : List Stated) (first : Desked) (x : Plain Bay conduct) (b : Run × List (PlainSlot Bay Job)) → Fares m s variables deck first x b → Counts x.script x.slots
      → let y = next (over_bays m) conduct x in Counts y.script y.slots
  counts_next variables deck first x b (inl (e, y)) h =
      counts_served x.hand x (subst (λ (z : Plain Bay conduct). IsDueAt z.hand z.script.due) (sym e) (asked_told b.0).1) h
  counts_next variables deck first x b (inr (f, over, was)) h = counts_served x.hand x (subst (λ a. IsDueAt a x.script.due) (sym f) tt) h

module _ {E J A S : Type 0} (m : Meaning E J A Bay Job Answer) (s : Shows S) where
  abbrev runs : Conduct S Job Answer
  runs = run_conduct s

  first_fares : (variables : List Variable) (deck : List Stated) (files : Files)
      → Fares m s variables deck (fresh variables files) (asked_next (over_bays m) runs (first_run variables deck files) fresh_slots) (first_run variables deck files, fresh_slots)
  first_fares variables [] files = inr (refl, inl (refl, refl), inl (refl, refl))
  first_fares variables (st ∷ more) files = inl (
    refl,
    record {
      index = 0;
      statement = begun_at (fresh variables files) st;
      behind = more;
      before = fresh variables files;
      reached = refl;
      at_hand = st;
      here = refl;
      hand = refl;
      fixed = begins_twice (fresh variables files).core.vars (fresh variables files).core.new_unit st;
      place = refl;
      variables_are = refl;
      going = refl;
      stands = first_ties m variables (st ∷ more) files;
      earlier = λ slot number x. absurd (let low = x.earlier in omega (arith, low));
    },
  )

  -- after any number of entries
  pub fares_after : (variables : List Variable) (deck : List Stated) (files : Files) (n : ℕ)
      → Fares m s variables deck (fresh variables files) (after (over_bays m) runs n (begins m s variables deck files)) (before_ask (over_bays m) runs n (first_run variables deck files) fresh_slots)
  fares_after variables deck files n = fares_before m s variables deck (fresh variables files) n (first_run variables deck files) fresh_slots (first_fares variables deck files)

  -- after any number of entries it has counted the jobs that were told
  pub counts_after : (variables : List Variable) (deck : List Stated) (files : Files) (n : ℕ)
      → let x = after (over_bays m) runs n (begins m s variables deck files) in x.script.told ≡ map (λ (q : PlainSlot Bay Job). q.told) x.slots
  counts_after variables deck files zero = (asked_told (first_run variables deck files)).0
  counts_after variables deck files (suc n) =
      subst (λ (x : Plain Bay runs). x.script.told ≡ map (λ (q : PlainSlot Bay Job). q.told) x.slots) (sym (after_next (over_bays m) runs n (begins m s variables deck files)))
      (counts_next m s variables deck (fresh variables files) (after (over_bays m) runs n (begins m s variables deck files)) (before_ask (over_bays m) runs n (first_run variables deck files) fresh_slots)
      (fares_after variables deck files n) (counts_after variables deck files n))

  pub each_awaited : EachAwaited m s
  each_awaited variables deck files n =
      awaited_before m s variables deck (fresh variables files) files refl (after (over_bays m) runs n (begins m s variables deck files)) (before_ask (over_bays m) runs n (first_run variables deck files) fresh_slots)
      (fares_after variables deck files n)

  pub each_asks : EachAsks m s
  each_asks variables deck files n =
      asks_before m s variables deck (fresh variables files) (after (over_bays m) runs n (begins m s variables deck files)) (before_ask (over_bays m) runs n (first_run variables deck files) fresh_slots)
      (fares_after variables deck files n)

  pub each_stands : EachStands m s
  each_stands variables deck files n count run going passed =
      by (before_ask (over_bays m) runs n (first_run variables deck files) fresh_slots) (fares_after variables deck files n) going passed
    where
      by : (b : Run × List (PlainSlot Bay Job)) → Fares m s variables deck (fresh variables files) (after (over_bays m) runs n (begins m s variables deck files)) b → b.0.ending ≡ None → passes count b.0 ≡ Some run
          → (run.rest ≡ []) ⊎ StandsAt variables deck (fresh variables files) run (desks_of m b.1)
      by b (inl (e, y)) none p =
          elim (passes_stand m variables deck (fresh variables files) count b.0 b.1 y run p) [
            | inl left ↦ inl left
            | inr z ↦ inr (stands_at m variables deck (fresh variables files) run b.1 z)
          ]
      by b (inr (h, over, inl (left, f))) none p = inl (passes_none count b.0 run left p)
      by b (inr (h, over, inr ended)) none p = absurd (let z : true ≡ false = sym ended.some ∙ ap is_some none in cc)
