-- Between two asks: the slots have the connections of units, and each job by which one comes or goes was told, or is awaited.
use Rattle.std.proofs.Common.{◌≡◌, ◌⊎◌, ℕ, zero, suc, ◌+◌, ◌<◌, ◌&&◌, Bool, true, false, List, [], ◌∷◌, ◌++◌, map, length, take, Option, Some, None, is_some, slice_get, set, get_or, refl, sym, ap, ◌∙◌, subst, inl, inr, arith}
use Rattle.std.specs.Prelude.{if◌then◌else◌, ◌==◌, nat_lt, IsSome, option_and_then}
use Rattle.std.proofs.lemmas.Bool.{cases_Bool, eqb-true, ltb-true, ltb-false}
use Rattle.std.proofs.lemmas.Bool.Decides.{eqb_tells}
use Rattle.std.proofs.lemmas.List.{length-append}
use Rattle.std.proofs.lemmas.Option.{slice_get_within}
use Rattle.fj_value.specs.declared.condition.Rule.{Rule}
use Rattle.fj_statement.specs.declared.deck.Variable.{Variable}
use Rattle.fj_slot.specs.Serving.{Meaning}
use Rattle.fj_slot.specs.Sound.{outcome, outcomes}
use Rattle.fj_slot.proofs.Serving.{outcomes-append, length-outcomes}
use Rattle.fj_slot.proofs.Sound.{slice_get_front}
use Rattle.fj_world.specs.declared.ask.Ask.{Ask}
use Rattle.fj_world.specs.declared.ask.Ask.TheVariants.{Submit, Settle, Finished}
use Rattle.fj_world.specs.Conduct.{Conduct}
use Rattle.fj_world.specs.Losing.{given_number, given_reply, given_outcome, answered, before_ask}
use Rattle.fj_world.specs.Plain.{Plain, PlainSlot, submitted_to, told_from, settled_from, served, next, after}
use Rattle.fj_world.proofs.Places.{slice_get_set, slice_get_in, set_other, set_itself}
use Rattle.fj_bay.specs.Bay.{Bay}
use Rattle.fj_bay.specs.Jobs.{Job, Answer}
use Rattle.fj_bay.specs.Serving.{serve}
use Rattle.fj_bay.specs.Spoilt.{behind}
use Rattle.fj_bay.proofs.Behind.{behind_is}
use Rattle.fj_meaning.specs.State.{Entry, Files}
use Rattle.fj_meaning.specs.Statement.{Stated, Ending, ends, prohibition}
use Rattle.fj_meaning_jobs.specs.Core.{Core}
use Rattle.fj_meaning_jobs.specs.Desks.{Outcome, outcome_on, most_slots}
use Rattle.fj_meaning_jobs.specs.Doing.{Doing, finishes, gives, awaits}
use Rattle.fj_meaning_turns.specs.Run.{Stage, Start, Waiting, Acting, Awaiting, Run}
use Rattle.fj_meaning_turns.specs.Turns.{Turn, Pauses, Passes, Stops, unsettled, bump, waited_now, with_core, with_iostat, with_tells, finish_by, turn_act, doing_told, wait_by, start_by, rule_of, begun_for, with_hand, turn_start, turn, Asked, goes, by_turn, asked_on, asked, told_of}
use Rattle.fj_meaning_turns.specs.Passing.{passed_by, passed_on, passes}
use Rattle.fj_meaning_turns.specs.Serving.{over_bays, Shows, run_conduct, first_run, fresh_slots, begins}
use Rattle.fj_meaning_turns.proofs.Slots.{and_true, same_some, each_at, each_replicate, get_mapped, map_get, map_set, get_last, length_set, set_found}
use Rattle.fj_meaning_turns.proofs.Ties.{more, given}
use Rattle.fj_run_end.proofs.Seating.{Table, name_in, connects, named_by, serves_name, IsBehind, Seated, seated_same}
use Rattle.fj_run_end.proofs.Walk.{IsOutcome, outcome_is, EmptyOrStays, Sits, told_sits}

-- ---- the names that the jobs of slots leave

abbrev pub left_in : Option (PlainSlot Bay Job) → Option (List ℕ)
left_in None = None
left_in (Some q) = name_in (behind q.start q.jobs).connection

abbrev pub slot_names : List (PlainSlot Bay Job) → Table
slot_names qs = λ at. left_in (slice_get qs at)

pub behind_more : (bay : Bay) (jobs : List Job) (job : Job) → behind bay (jobs ++ job ∷ []) ≡ (serve (behind bay jobs) job).engine
behind_more bay [] job = refl
behind_more bay (x ∷ jobs) job = behind_more (serve bay x).engine jobs job

take_front : {X : Type 0} → (xs ys : List X) → take (length xs) (xs ++ ys) ≡ xs
take_front [] ys = refl
take_front (x ∷ xs) ys = ap (λ l. x ∷ l) (take_front xs ys)

-- ---- what is known between two asks

-- the statement waits for that job
abbrev pub IsWaited : Stage → ℕ → ℕ → Type 0
IsWaited Start at k = ⊥
IsWaited Waiting at k = ⊥
IsWaited (Acting d) at k = ⊥
IsWaited (Awaiting slot number next) at k = (at ≡ slot) × (k ≡ number)

-- of each job by which a connection comes or goes, by its slot
abbrev pub EachMoved : (PlainSlot Bay Job → ℕ → ℕ → Type 0) → List (PlainSlot Bay Job) → Type 0
EachMoved P qs = (at : ℕ) (q : PlainSlot Bay Job) (k : ℕ) (job : Job) → slice_get qs at ≡ Some q → slice_get q.jobs k ≡ Some job → connects job ≡ true → P q at k

-- it was told
abbrev pub AllTold : List (PlainSlot Bay Job) → Type 0
AllTold qs = EachMoved (λ q at k. k < q.told) qs

-- or the statement waits for it
abbrev pub ToldOr : Stage → List (PlainSlot Bay Job) → Type 0
ToldOr stage qs = EachMoved (λ q at k. (k < q.told) ⊎ IsWaited stage at k) qs

-- the runner counts the jobs
pub record CountsJobs (sent told : List ℕ) (ending : Option Ending) (qs : List (PlainSlot Bay Job)) : Type 0 where
  pub sent_is : sent ≡ map (λ (q : PlainSlot Bay Job). length q.jobs) qs
  pub told_is : told ≡ map (λ (q : PlainSlot Bay Job). q.told) qs
  pub long : length qs ≡ most_slots
  pub going : ending ≡ None

abbrev pub Counts : Run → List (PlainSlot Bay Job) → Type 0
Counts r qs = CountsJobs r.sent r.told r.ending qs

module _ {E J A : Type 0} (m : Meaning E J A Bay Job Answer) where
  -- The last job of that slot is out, and the statement waits for it: the units are those of before it.
  pub record IsOut (core : Core) (qs : List (PlainSlot Bay Job)) (slot number : ℕ) (onward : Outcome → Doing) : Type 0 where
    pub old : Table
    pub seated : Seated old core.units
    pub own : PlainSlot Bay Job
    pub here : slice_get qs slot ≡ Some own
    pub last : length own.jobs ≡ number + 1
    pub before : name_in (behind own.start (take number own.jobs)).connection ≡ old slot
    pub job : Job
    pub job_is : slice_get own.jobs number ≡ Some job
    pub stays : EmptyOrStays job (old slot) core onward
    pub leaves : IsBehind old slot job (slot_names qs)
    pub comes : (o : Outcome) → outcome (over_bays m) own.start own.jobs number ≡ Some o → IsOutcome job (old slot) o
    pub later : (new : Table) (o : Outcome) → IsBehind old slot job new → IsOutcome job (old slot) o → Sits new (onward o)

  abbrev pub DoesSo : Core → List (PlainSlot Bay Job) → Stage → Type 0
  DoesSo core qs Start = Seated (slot_names qs) core.units
  DoesSo core qs Waiting = Seated (slot_names qs) core.units
  DoesSo core qs (Acting d) = Sits (slot_names qs) d
  DoesSo core qs (Awaiting slot number next) = IsOut core qs slot number next

  pub record Goes (r : Run) (qs : List (PlainSlot Bay Job)) : Type 0 where
    pub counts : Counts r qs
    pub does : DoesSo r.core qs r.stage
    pub out : ToldOr r.stage qs

  -- where the deck ended
  pub record HasEnded (r : Run) (qs : List (PlainSlot Bay Job)) : Type 0 where
    pub some : IsSome r.ending
    pub start : r.stage ≡ Start
    pub long : length qs ≡ most_slots
    pub seated : Seated (slot_names qs) r.core.units
    pub told : AllTold qs

  -- a job is submitted
  pub record Submits (slot : ℕ) (job : Job) (r : Run) (qs : List (PlainSlot Bay Job)) : Type 0 where
    pub low : slot < most_slots
    pub long : length qs ≡ most_slots
    pub seated : Seated (slot_names qs) r.core.units
    pub told : AllTold qs
    pub later : (q : PlainSlot Bay Job) → slice_get qs slot ≡ Some q → Goes r (set qs slot (given q job))

  -- that slot is the one at which it waits
  abbrev pub SettlesAt : ℕ → Stage → Type 0
  SettlesAt slot Start = ⊥
  SettlesAt slot Waiting = Unit {0}
  SettlesAt slot (Acting d) = ⊥
  SettlesAt slot (Awaiting own number next) = own ≡ slot

  -- the ask at hand, by its answer
  abbrev pub AskGoes : List (PlainSlot Bay Job) → Ask Job → Run → Type 0
  AskGoes qs (Submit slot job) run = Submits slot job run qs
  AskGoes qs (Settle slot) run = Goes run qs × SettlesAt slot run.stage
      × ((q : PlainSlot Bay Job) (o : Outcome) → slice_get qs slot ≡ Some q → outcome (over_bays m) q.start q.jobs q.told ≡ Some o → Goes (told_of run o) (set qs slot (more q)))
  AskGoes qs Finished run = Goes run qs ⊎ HasEnded run qs

  abbrev TurnGoes : List (PlainSlot Bay Job) → Turn → Type 0
  TurnGoes qs (Pauses ask run) = AskGoes qs ask run
  TurnGoes qs (Passes run) = Goes run qs × (run.stage ≡ Start)
  TurnGoes qs (Stops run) = HasEnded run qs

  -- ---- a job more, and one more told

  -- one behind a list
  last_or : (xs : List Job) (x y : Job) (k : ℕ) → slice_get (xs ++ x ∷ []) k ≡ Some y → (slice_get xs k ≡ Some y) ⊎ ((x ≡ y) × (k ≡ length xs))
  last_or xs x y k e = elim (cases_Bool (nat_lt k (length xs))) [
    | inl low ↦ inl (sym (slice_get_front xs (x ∷ []) k (ltb-true k (length xs) low)) ∙ e)
    | inr high ↦
        let within = slice_get_within (xs ++ x ∷ []) k y e in
        let here : k ≡ length xs = omega (arith, within, length-append xs (x ∷ []), ltb-false k (length xs) high) in
        inr ((let z : Some x ≡ Some y = sym (get_last xs x) ∙ ap (slice_get (xs ++ x ∷ [])) (sym here) ∙ e in cc), here)
  ]

  module _ (qs : List (PlainSlot Bay Job)) (slot : ℕ) (q : PlainSlot Bay Job) (found : slice_get qs slot ≡ Some q) where
    counts_given : (r : Run) (stage : Stage) (job : Job) → Counts r qs → Counts (record r { sent = bump r.sent slot; stage = stage }) (set qs slot (given q job))
    counts_given r stage job b =
        let f : PlainSlot Bay Job → ℕ = λ z. length z.jobs in
        let g : PlainSlot Bay Job → ℕ = λ z. z.told in
        record {
          sent_is = ap (λ l. set l slot (get_or l slot 0 + 1)) b.sent_is ∙ ap (λ n. set (map f qs) slot (n + 1)) (get_mapped f qs slot q found) ∙ ap (set (map f qs) slot) (sym (length-append q.jobs (job ∷ [])))
              ∙ sym (map_set f qs slot (given q job));
          told_is = b.told_is ∙ sym (map_set g qs slot (given q job) ∙ set_itself (map g qs) slot q.told (map_get g qs slot q found));
          long = length_set qs slot (given q job) ∙ b.long;
          going = b.going;
        }

    counts_told : (r : Run) (o : Outcome) (stage : Stage) → Counts r qs → Counts (told_of (record r { stage = stage; due = slot }) o) (set qs slot (more q))
    counts_told r o stage b =
        let f : PlainSlot Bay Job → ℕ = λ z. length z.jobs in
        let g : PlainSlot Bay Job → ℕ = λ z. z.told in
        record {
          sent_is = b.sent_is ∙ sym (map_set f qs slot (more q) ∙ set_itself (map f qs) slot (length q.jobs) (map_get f qs slot q found));
          told_is = ap (λ l. set l slot (get_or l slot 0 + 1)) b.told_is ∙ ap (λ n. set (map g qs) slot (n + 1)) (get_mapped g qs slot q found) ∙ sym (map_set g qs slot (more q));
          long = length_set qs slot (more q) ∙ b.long;
          going = b.going;
        }

    given_out : (job : Job) (P : ℕ → ℕ → Type 0) → AllTold qs → (connects job ≡ true → P slot (length q.jobs)) → EachMoved (λ p at k. (k < p.told) ⊎ P at k) (set qs slot (given q job))
    given_out job P all last at p k moved e f c = elim (slice_get_set qs slot at (given q job) p e) [
      | inr other ↦ inl (all at p k moved other.1 f c)
      | inl here ↦
          let jobs : p.jobs ≡ q.jobs ++ job ∷ [] = ap (λ (z : PlainSlot Bay Job). z.jobs) here.1 in
          let told : p.told ≡ q.told = ap (λ (z : PlainSlot Bay Job). z.told) here.1 in
          elim (last_or q.jobs job moved k (sym (ap (λ l. slice_get l k) jobs) ∙ f)) [
            | inl old ↦ inl (subst (λ n. k < n) (sym told) (all slot q k moved found old c))
            | inr new ↦ inr (subst (λ n. P at n) (sym new.1) (subst (λ n. P n (length q.jobs)) (sym here.0) (last (ap connects new.0 ∙ c))))
          ]
    ]

    more_out : (P R : ℕ → ℕ → Type 0) → EachMoved (λ p at k. (k < p.told) ⊎ P at k) qs → ((at k : ℕ) → P at k → (k < q.told + 1) × (at ≡ slot) ⊎ R at k) → EachMoved (λ p at k. (k < p.told) ⊎ R at k) (set qs slot (more q))
    more_out P R out turned at p k moved e f c = elim (slice_get_set qs slot at (more q) p e) [
      | inr other ↦ elim (out at p k moved other.1 f c) [
        | inl low ↦ inl low
        | inr h ↦ elim (turned at k h) [ inl same ↦ absurd (other.0 same.1) | inr r ↦ inr r ]
      ]
      | inl here ↦
          let jobs : p.jobs ≡ q.jobs = ap (λ (z : PlainSlot Bay Job). z.jobs) here.1 in
          let told : p.told ≡ q.told + 1 = ap (λ (z : PlainSlot Bay Job). z.told) here.1 in
          elim (out slot q k moved found (sym (ap (λ l. slice_get l k) jobs) ∙ f) c) [
            | inl low ↦ inl (omega (arith, low, told))
            | inr h ↦ elim (turned at k (subst (λ n. P n k) (sym here.0) h)) [ inl same ↦ (let low = same.0 in inl (omega (arith, low, told))) | inr r ↦ inr r ]
          ]
    ]

    names_given : (job : Job) → IsBehind (slot_names qs) slot job (slot_names (set qs slot (given q job)))
    names_given job = record {
      here = ap left_in (set_found qs slot (given q job) q found) ∙ ap (λ (b : Bay). name_in b.connection) (behind_more q.start q.jobs job)
          ∙ serves_name (behind q.start q.jobs) job ∙ ap (named_by job) (sym (ap left_in found));
      others = λ at ne. ap left_in (set_other qs slot at (given q job) ne);
    }

    names_more : (at : ℕ) → slot_names (set qs slot (more q)) at ≡ slot_names qs at
    names_more at = elim (eqb_tells at slot) [
      | inl a ↦ ap (slot_names (set qs slot (more q))) a.1 ∙ ap left_in (set_found qs slot (more q) q found) ∙ sym (ap left_in found) ∙ ap (slot_names qs) (sym a.1)
      | inr a ↦ ap left_in (set_other qs slot at (more q) a.1)
    ]

    behind_told : (old : Table) (own : ℕ) (job : Job) → IsBehind old own job (slot_names qs) → IsBehind old own job (slot_names (set qs slot (more q)))
    behind_told old own job b = record { here = names_more own ∙ b.here; others = λ at ne. names_more at ∙ b.others at ne }

    -- the job that is given is the last of its slot
    given_last : (core : Core) (job : Job) (number : ℕ) (onward : Outcome → Doing) → number ≡ length q.jobs → Seated (slot_names qs) core.units → EmptyOrStays job (slot_names qs slot) core onward
        → ((new : Table) (o : Outcome) → IsBehind (slot_names qs) slot job new → IsOutcome job (slot_names qs slot) o → Sits new (onward o)) → IsOut core (set qs slot (given q job)) slot number onward
    given_last core job number onward is s stays f = record {
      old = slot_names qs;
      seated = s;
      own = given q job;
      here = set_found qs slot (given q job) q found;
      last = length-append q.jobs (job ∷ []) ∙ ap (λ n. n + 1) (sym is);
      before = ap (λ n. name_in (behind q.start (take n (q.jobs ++ job ∷ []))).connection) is ∙ ap (λ l. name_in (behind q.start l).connection) (take_front q.jobs (job ∷ [])) ∙ sym (ap left_in found);
      job = job;
      job_is = ap (slice_get (q.jobs ++ job ∷ [])) is ∙ get_last q.jobs job;
      stays = stays;
      leaves = names_given job;
      comes = λ o e. subst (λ x. IsOutcome job (slot_names qs slot) x) (same_some (sym (ap (outcome (over_bays m) q.start (q.jobs ++ job ∷ [])) is ∙ its_outcome) ∙ e))
          (subst (λ n. IsOutcome job n (outcome_on (behind q.start q.jobs) job)) (sym (ap left_in found)) (outcome_is (behind q.start q.jobs) job));
      later = f;
    }
      where
        its_outcome : outcome (over_bays m) q.start (q.jobs ++ job ∷ []) (length q.jobs) ≡ Some (outcome_on (behind q.start q.jobs) job)
        its_outcome =
            ap (λ l. slice_get l (length q.jobs)) (outcomes-append (over_bays m) q.start q.jobs (job ∷ []))
            ∙ ap (λ (b : Bay). slice_get (outcomes (over_bays m) q.start q.jobs ++ outcome_on b job ∷ []) (length q.jobs)) (behind_is (over_bays m) refl q.start q.jobs)
            ∙ ap (slice_get (outcomes (over_bays m) q.start q.jobs ++ outcome_on (behind q.start q.jobs) job ∷ [])) (sym (length-outcomes (over_bays m) q.start q.jobs))
            ∙ get_last (outcomes (over_bays m) q.start q.jobs) (outcome_on (behind q.start q.jobs) job)

  -- ---- turns

  module _ (qs : List (PlainSlot Bay Job)) where
    finish_goes : (o : Option Ending) (r : Run) → Counts r qs → AllTold qs → Seated (slot_names qs) r.core.units → TurnGoes qs (finish_by o r)
    finish_goes None r b all s = (record { counts = b; does = s; out = λ at q k job e f c. inl (all at q k job e f c) }, refl)
    finish_goes (Some x) r b all s = record { some = refl; start = refl; long = b.long; seated = s; told = all }

    act_goes : (st : Stated) (d : Doing) (r : Run) → Counts r qs → AllTold qs → Sits (slot_names qs) d → TurnGoes qs (turn_act st d r)
    act_goes st (finishes core condition) r b all w =
        finish_goes (ends st.0.line st.0.what condition) (with_core (with_iostat st condition r core) r) b all w
    act_goes st (gives slot job core next) r b all w = record {
      low = w.1;
      long = b.long;
      seated = w.0;
      told = all;
      later = λ q e. record {
        counts = counts_given qs slot q e (with_core core r) (Acting (next (get_or r.sent slot 0))) job b;
        does = w.3 (slot_names (set qs slot (given q job))) (get_or r.sent slot 0) (names_given qs slot q e job);
        out = given_out qs slot q e job (λ at k. ⊥) all (λ c. let z : false ≡ true = sym w.2 ∙ c in cc);
      };
    }
    act_goes st (awaits slot job core next) r b all w = record {
      low = w.1;
      long = b.long;
      seated = w.0;
      told = all;
      later = λ q e.
          let is : get_or r.sent slot 0 ≡ length q.jobs = ap (λ l. get_or l slot 0) b.sent_is ∙ get_mapped (λ (z : PlainSlot Bay Job). length z.jobs) qs slot q e in
          record {
            counts = counts_given qs slot q e (with_core core r) (Awaiting slot (get_or r.sent slot 0) next) job b;
            does = given_last qs slot q e core job (get_or r.sent slot 0) next is w.0 w.2 w.3;
            out = given_out qs slot q e job (λ at k. (at ≡ slot) × (k ≡ get_or r.sent slot 0)) all (λ c. (refl, sym is));
          };
    }

    wait_goes : (st : Stated) (waited : List Entry) (o : Option ℕ) (r : Run) → Counts r qs → AllTold qs → Seated (slot_names qs) r.core.units → TurnGoes qs (wait_by st waited o r)
    wait_goes st waited None r b all s =
        act_goes st (doing_told r.variables st waited r.core) (with_tells st waited r) b all
        (told_sits (slot_names qs) r.variables st waited r.core s)
    wait_goes st waited (Some slot) r b all s = (
      record { counts = b; does = s; out = λ at p k job e f c. inl (all at p k job e f c) },
      tt,
      λ q o e f. record {
        counts = counts_told qs slot q e r o Waiting b;
        does = seated_same (slot_names qs) (slot_names (set qs slot (more q))) r.core.units (names_more qs slot q e) s;
        out = more_out qs slot q e (λ at k. ⊥) (λ at k. ⊥) (λ at p k job g h c. inl (all at p k job g h c)) (λ at k never. absurd never);
      },
    )

    start_goes : (st : Stated) (o : Option Rule) (r : Run) → Counts r qs → AllTold qs → Seated (slot_names qs) r.core.units → TurnGoes qs (start_by st o r)
    start_goes st (Some rule) r b all s = finish_goes (Some (prohibition st.0.line rule)) r b all s
    start_goes st None r b all s = wait_goes st (waited_now st r) (unsettled (waited_now st r) r.book) r b all s

    -- the statement's own job
    own_goes : (own last : ℕ) (onward : Outcome → Doing) (r : Run) (q : PlainSlot Bay Job) (o : Outcome) → Counts r qs → IsOut r.core qs own last onward → ToldOr (Awaiting own last onward) qs
        → slice_get qs own ≡ Some q → outcome (over_bays m) q.start q.jobs q.told ≡ Some o → Goes (told_of (record r { stage = Awaiting own last onward; due = own }) o) (set qs own (more q))
    own_goes own last onward r q o b w out e came = by ((own == own) && (last == get_or r.told own 0)) refl
      where
        told_is : get_or r.told own 0 ≡ q.told
        told_is = ap (λ l. get_or l own 0) b.told_is ∙ get_mapped (λ (z : PlainSlot Bay Job). z.told) qs own q e

        counted : Counts (told_of (record r { stage = Awaiting own last onward; due = own }) o) (set qs own (more q))
        counted = counts_told qs own q e r o (Awaiting own last onward) b

        same : w.own ≡ q
        same = same_some (sym w.here ∙ e)

        at_last : (b : Bool) → ((own == own) && (last == get_or r.told own 0)) ≡ b → b ≡ true → last ≡ q.told
        at_last b f g = eqb-true last (get_or r.told own 0) (and_true (own == own) (last == get_or r.told own 0) (f ∙ g)).1 ∙ told_is

        comes : last ≡ q.told → IsOutcome w.job (w.old own) o
        comes is = w.comes o (ap (outcome (over_bays m) w.own.start w.own.jobs) is ∙ ap (λ (p : PlainSlot Bay Job). outcome (over_bays m) p.start p.jobs q.told) same ∙ came)

        does_if : (b : Bool) → ((own == own) && (last == get_or r.told own 0)) ≡ b → DoesSo r.core (set qs own (more q)) (if b then Acting (onward o) else Awaiting own last onward)
        does_if true f = w.later (slot_names (set qs own (more q))) o (behind_told qs own q e w.old own w.job w.leaves) (comes (at_last true f refl))
        does_if false f = record {
          old = w.old;
          seated = w.seated;
          own = more q;
          here = set_found qs own (more q) q e;
          last = sym (ap (λ (p : PlainSlot Bay Job). length p.jobs) same) ∙ w.last;
          before = sym (ap (λ (p : PlainSlot Bay Job). name_in (behind p.start (take last p.jobs)).connection) same) ∙ w.before;
          job = w.job;
          job_is = sym (ap (λ (p : PlainSlot Bay Job). slice_get p.jobs last) same) ∙ w.job_is;
          stays = w.stays;
          leaves = behind_told qs own q e w.old own w.job w.leaves;
          comes = λ x f. w.comes x (ap (λ (p : PlainSlot Bay Job). outcome (over_bays m) p.start p.jobs last) same ∙ f);
          later = w.later;
        }

        out_if : (b : Bool) → ((own == own) && (last == get_or r.told own 0)) ≡ b → ToldOr (if b then Acting (onward o) else Awaiting own last onward) (set qs own (more q))
        out_if true f =
            let is = at_last true f refl in
            more_out qs own q e (λ at k. (at ≡ own) × (k ≡ last)) (λ at k. ⊥) out (λ at k h. let k_is = h.1 in inl (omega (arith, is, k_is), h.0))
        out_if false f = more_out qs own q e (λ at k. (at ≡ own) × (k ≡ last)) (λ at k. (at ≡ own) × (k ≡ last)) out (λ at k h. inr h)

        by : (b : Bool) → ((own == own) && (last == get_or r.told own 0)) ≡ b → Goes (told_of (record r { stage = Awaiting own last onward; due = own }) o) (set qs own (more q))
        by b f = record {
          counts = counted;
          does = subst (λ c. DoesSo r.core (set qs own (more q)) (if c then Acting (onward o) else Awaiting own last onward)) (sym f) (does_if b f);
          out = subst (λ c. ToldOr (if c then Acting (onward o) else Awaiting own last onward) (set qs own (more q))) (sym f) (out_if b f);
        }

    all_of : (stage : Stage) → ((at k : ℕ) → IsWaited stage at k → ⊥) → ToldOr stage qs → AllTold qs
    all_of stage none out at q k job e f c = elim (out at q k job e f c) [ inl low ↦ low | inr waited ↦ absurd (none at k waited) ]

    turn_goes : (st : Stated) (stage : Stage) (r : Run) → Counts r qs → DoesSo r.core qs stage → ToldOr stage qs → TurnGoes qs (turn st stage r)
    turn_goes st Start r b w out =
        let hand = begun_for r st in
        start_goes hand (rule_of r.variables hand r.core) (with_hand hand r) b (all_of Start (λ at k never. never) out) w
    turn_goes st Waiting r b w out = wait_goes st (waited_now st r) (unsettled (waited_now st r) r.book) r b (all_of Waiting (λ at k never. never) out) w
    turn_goes st (Acting d) r b w out = act_goes st d r b (all_of (Acting d) (λ at k never. never) out) w
    turn_goes st (Awaiting own last onward) r b w out =
        (record { counts = b; does = w; out = out }, refl, λ q o e f. own_goes own last onward r q o b w out e f)

    -- ---- asks

    start_all : (r : Run) → Goes r qs → r.stage ≡ Start → AllTold qs
    start_all r h start = all_of Start (λ at k never. never) (subst (λ s. ToldOr s qs) start h.out)

    start_seated : (r : Run) → Goes r qs → r.stage ≡ Start → Seated (slot_names qs) r.core.units
    start_seated r h start = subst (λ s. DoesSo r.core qs s) start h.does

    goes_so : (sts : List Stated) (r : Run) → Goes r qs → r.stage ≡ Start → let a = goes sts r in AskGoes qs a.ask a.run
    goes_so [] r h start = inl (record { counts = h.counts; does = h.does; out = h.out })
    goes_so (st ∷ rest) r h start =
        by (turn_start st (record r { rest = st ∷ rest }))
        (let hand = begun_for r st in start_goes hand (rule_of r.variables hand r.core) (record r { rest = hand ∷ rest }) h.counts (start_all r h start) (start_seated r h start))
        (λ run. goes_so rest run)
      where
        by : (t : Turn) → TurnGoes qs t → ((run : Run) → Goes run qs → run.stage ≡ Start → let a = goes rest run in AskGoes qs a.ask a.run)
            → let a = elim t as (λ _. Asked) [ Pauses ask run ↦ record { ask = ask; run = run } | Passes run ↦ goes rest run | Stops run ↦ record { ask = Finished; run = run } ] in AskGoes qs a.ask a.run
        by (Pauses ask run) k later = k
        by (Passes run) k later = later run k.0 k.1
        by (Stops run) k later = inr k

    on_so : (sts : List Stated) (r : Run) → Goes r qs → let a = asked_on sts r in AskGoes qs a.ask a.run
    on_so [] r h = inl h
    on_so (st ∷ rest) r h = by (turn st r.stage r) (turn_goes st r.stage r h.counts h.does h.out)
      where
        by : (t : Turn) → TurnGoes qs t → let a = by_turn rest t in AskGoes qs a.ask a.run
        by (Pauses ask run) k = k
        by (Passes run) k = goes_so rest run k.0 k.1
        by (Stops run) k = inr k

    asked_so : (r : Run) → Goes r qs → AskGoes qs (asked r).ask (asked r).run
    asked_so r h =
        subst (λ (a : Asked). AskGoes qs a.ask a.run) (sym (ap (λ o. if is_some o then record { ask = Finished; run = r } else asked_on r.rest r) h.counts.going)) (on_so r.rest r h)

    -- ---- statements that are passed

    passed_goes : (sts : List Stated) (r run : Run) → Goes r qs → passed_on sts r ≡ Some run → Goes run qs
    passed_goes [] r run h e = cc
    passed_goes (st ∷ rest) r run h e = by (turn st r.stage r) (turn_goes st r.stage r h.counts h.does h.out) e
      where
        by : (t : Turn) → TurnGoes qs t → passed_by rest t ≡ Some run → Goes run qs
        by (Pauses ask on) k f = cc
        by (Passes on) k f =
            subst (λ x. Goes x qs) (same_some f) (record { counts = k.0.counts; does = k.0.does; out = k.0.out })
        by (Stops on) k f = cc

    pub passes_goes : (count : ℕ) (r run : Run) → Goes r qs → passes count r ≡ Some run → Goes run qs
    passes_goes zero r run h e = subst (λ x. Goes x qs) (same_some e) h
    passes_goes (suc n) r run h e = by (passed_on r.rest r) refl e (λ on. passes_goes n on run)
      where
        by : (o : Option Run) → passed_on r.rest r ≡ o → option_and_then (passes n) o ≡ Some run → ((on : Run) → Goes on qs → passes n on ≡ Some run → Goes run qs) → Goes run qs
        by None f g more = cc
        by (Some on) f g more = more on (passed_goes r.rest r on h f) g

-- ---- the runner served alone

module _ {E J A S : Type 0} (m : Meaning E J A Bay Job Answer) (s : Shows S) where
  abbrev c : Conduct S Job Answer
  c = run_conduct s

  abbrev GoesSo : Plain Bay c → Type 0
  GoesSo x = AskGoes m x.slots x.hand x.script

  told_so : (slot : ℕ) (o : Option Outcome) (q : PlainSlot Bay Job) (x : Plain Bay c) → slice_get x.slots slot ≡ Some q → outcome (over_bays m) q.start q.jobs q.told ≡ o → AskGoes m x.slots (Settle slot) x.script → GoesSo x
      → GoesSo (told_from (over_bays m) c o q slot x)
  told_so slot None q x e f k h = h
  told_so slot (Some reply) q x e f k h = asked_so m (set x.slots slot (more q)) (told_of x.script reply) (k.2 q reply e f)

  settled_so : (slot : ℕ) (o : Option (PlainSlot Bay Job)) (x : Plain Bay c) → slice_get x.slots slot ≡ o → AskGoes m x.slots (Settle slot) x.script → GoesSo x → GoesSo (settled_from (over_bays m) c o slot x)
  settled_so slot None x e k h = h
  settled_so slot (Some q) x e k h = told_so slot (outcome (over_bays m) q.start q.jobs q.told) q x e refl k h

  submitted_so : (slot : ℕ) (job : Job) (o : Option (PlainSlot Bay Job)) (x : Plain Bay c) → slice_get x.slots slot ≡ o → AskGoes m x.slots (Submit slot job) x.script → GoesSo x → GoesSo (submitted_to (over_bays m) c o slot job x)
  submitted_so slot job None x e k h = h
  submitted_so slot job (Some q) x e k h = asked_so m (set x.slots slot (given q job)) x.script (k.later q e)

  served_so : (ask : Ask Job) (x : Plain Bay c) → x.hand ≡ ask → GoesSo x → GoesSo (served (over_bays m) c ask x)
  served_so (Submit slot job) x e h = submitted_so slot job (slice_get x.slots slot) x refl (subst (λ a. AskGoes m x.slots a x.script) e h) h
  served_so (Settle slot) x e h = settled_so slot (slice_get x.slots slot) x refl (subst (λ a. AskGoes m x.slots a x.script) e h) h
  served_so Finished x e h = h

  after_so : (n : ℕ) (x : Plain Bay c) → GoesSo x → GoesSo (after (over_bays m) c n x)
  after_so zero x h = h
  after_so (suc n) x h = after_so n (next (over_bays m) c x) (served_so x.hand x refl h)

  -- before an ask
  abbrev pub Before : Run × List (PlainSlot Bay Job) → Type 0
  Before b = Goes m b.0 b.1 ⊎ HasEnded m b.0 b.1

  reply_so : (slot : ℕ) (o : Option Outcome) (q : PlainSlot Bay Job) (x : Plain Bay c) → slice_get x.slots slot ≡ Some q → outcome (over_bays m) q.start q.jobs q.told ≡ o → AskGoes m x.slots (Settle slot) x.script
      → Before (given_reply (over_bays m) c o q slot x)
  reply_so slot None q x e f k = inl k.0
  reply_so slot (Some reply) q x e f k = inl (k.2 q reply e f)

  outcome_so : (slot : ℕ) (o : Option (PlainSlot Bay Job)) (x : Plain Bay c) → slice_get x.slots slot ≡ o → AskGoes m x.slots (Settle slot) x.script → Before (given_outcome (over_bays m) c o slot x)
  outcome_so slot None x e k = inl k.0
  outcome_so slot (Some q) x e k = reply_so slot (outcome (over_bays m) q.start q.jobs q.told) q x e refl k

  answered_so : (ask : Ask Job) (x : Plain Bay c) → AskGoes m x.slots ask x.script → Before (answered (over_bays m) c ask x)
  answered_so (Submit slot job) x k =
      let low = k.low in
      let long = k.long in
      let q = slice_get_in x.slots slot (omega (arith, low, long)) in
      subst (λ o. Before (given_number (over_bays m) c o slot job x)) (sym q.1) (inl (k.later q.0 q.1))
  answered_so (Settle slot) x k = outcome_so slot (slice_get x.slots slot) x refl k
  answered_so Finished x k = k

  no_job : {X : Type 0} → (js : List Job) (k : ℕ) (job : Job) → js ≡ [] → slice_get js k ≡ Some job → X
  no_job js k job none e = absurd (let within = slice_get_within js k job e in omega (arith, within, ap length none))

  first_goes : (variables : List Variable) (deck : List Stated) (files : Files) → Goes m (first_run variables deck files) fresh_slots
  first_goes variables deck files = record {
    counts = record { sent_is = refl; told_is = refl; long = refl; going = refl };
    does = record { numbers = tt; slots = tt; low = tt; named = tt; empty = λ at d. none_yet at };
    out = λ at q k job e f c. no_job q.jobs k job (each_at (λ (z : PlainSlot Bay Job). z.jobs ≡ []) fresh_slots at q (each_replicate (λ (z : PlainSlot Bay Job). z.jobs ≡ []) most_slots empty refl) e) f;
  }
    where
      empty : PlainSlot Bay Job
      empty = record { start = record { connection = None; halt = None }; jobs = []; told = 0 }

      none_yet : (at : ℕ) → slot_names fresh_slots at ≡ None
      none_yet at = by (slice_get fresh_slots at) refl
        where
          by : (o : Option (PlainSlot Bay Job)) → slice_get fresh_slots at ≡ o → left_in o ≡ None
          by None e = refl
          by (Some z) e = each_at (λ (z : PlainSlot Bay Job). left_in (Some z) ≡ None) fresh_slots at z (each_replicate (λ (z : PlainSlot Bay Job). left_in (Some z) ≡ None) most_slots empty refl) e

  module _ (variables : List Variable) (deck : List Stated) (files : Files) where
    -- after any number of entries
    pub stands_so : (n : ℕ) → let x = after (over_bays m) c n (begins m s variables deck files) in AskGoes m x.slots x.hand x.script
    stands_so n = after_so n (begins m s variables deck files) (asked_so m fresh_slots (first_run variables deck files) (first_goes variables deck files))

    -- and before each ask
    pub before_so : (n : ℕ) → Before (before_ask (over_bays m) c n (first_run variables deck files) fresh_slots)
    before_so zero = inl (first_goes variables deck files)
    before_so (suc n) = let x = after (over_bays m) c n (begins m s variables deck files) in answered_so x.hand x (stands_so n)
