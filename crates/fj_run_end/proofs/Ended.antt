-- At each end of a run the slots hold the connections of its units.
use Rattle.std.proofs.Common.{◌≡◌, ℕ, zero, suc, ◌<◌, ◌≤◌, Bool, true, false, List, [], ◌∷◌, All, length, take, Option, Some, None, slice_get, refl, sym, ap, ◌∙◌, subst, inl, inr, arith}
use Rattle.std.specs.Prelude.{◌||◌, IsSome, IfSome}
use Rattle.std.proofs.lemmas.Bool.{cases_Bool, ne_eqb}
use Rattle.std.proofs.lemmas.Bool.Decides.{eqb_tells}
use Rattle.std.proofs.lemmas.List.{take_all}
use Rattle.std.proofs.lemmas.List.Elements.{All-nil, All-cons}
use Rattle.std.proofs.lemmas.List.{length-map}
use Rattle.std.proofs.lemmas.Option.{slice_get_within}
use Rattle.fj_connect.specs.Connection.{Connection}
use Rattle.fj_statement.specs.declared.deck.Variable.{Variable}
use Rattle.fj_slot.specs.Ledger.{Ledger}
use Rattle.fj_slot.specs.Serving.{Meaning}
use Rattle.fj_slot.specs.Sound.{served_by}
use Rattle.fj_slot.proofs.Sound.{slice_get_inside}
use Rattle.fj_world.specs.declared.ask.Ask.TheVariants.{Submit, Settle, Finished}
use Rattle.fj_world.specs.Losing.{SlotsHold, before_ask}
use Rattle.fj_world.specs.Plain.{Plain, PlainSlot, after}
use Rattle.fj_world.specs.Rack.{Rack}
use Rattle.fj_bay.specs.Bay.{Bay}
use Rattle.fj_bay.specs.Jobs.{Job, Answer, attach, detach, move, go, change, flush, look, resume}
use Rattle.fj_bay.specs.Spoilt.{IsSpoilt, behind}
use Rattle.fj_bay.specs.Plain.{state_of}
use Rattle.fj_bay.specs.Meaning.{bay_meaning, file_faults}
use Rattle.fj_bay.specs.Serving.{serve}
use Rattle.fj_bay.proofs.Behind.{behind_is}
use Rattle.fj_meaning.specs.Statement.{Stated}
use Rattle.fj_meaning.specs.State.{Files}
use Rattle.fj_meaning_jobs.specs.Core.{Connected}
use Rattle.fj_meaning_jobs.specs.Desks.{most_slots}
use Rattle.fj_meaning_jobs.specs.Doing.{Doing}
use Rattle.fj_meaning_jobs.proofs.Apart.{Each, Differs, Apart}
use Rattle.fj_meaning_turns.specs.Laws.{plain_bays}
use Rattle.fj_meaning_turns.specs.Run.{Stage, Start, Waiting, Acting, Awaiting, Run}
use Rattle.fj_meaning_turns.specs.Serving.{over_bays, Shows, run_conduct, first_run, fresh_slots, begins}
use Rattle.fj_meaning_turns.specs.Turns.{begun_for, waited_now}
use Rattle.fj_meaning_turns.proofs.Before.{fares_after}
use Rattle.fj_meaning_turns.proofs.Finishing.{asks_no_more}
use Rattle.fj_meaning_turns.proofs.Slots.{same_some}
use Rattle.fj_meaning_cut.specs.Others.{core_now}
use Rattle.fj_meaning_cut.specs.Turning.{IsUnbegun, doing_at, doing_due}
use Rattle.fj_run_units.specs.Having.{Differ}
use Rattle.fj_run_units.specs.Units.{has_slot, same_slot}
use Rattle.fj_run_end.specs.Ended.{HasStoppedAt, LeavesNames, BringsNone, StopSpares, TurnHolds, StopsFull, EndsWithUnits, EachStopHolds, EachStopSpares, EachTurnHolds, EachSubmitHolds}
use Rattle.fj_run_end.specs.Holding.{name_behind, HoldsName, HoldUnits}
use Rattle.fj_run_end.proofs.Desking.{some_in}
use Rattle.fj_run_end.proofs.Halted.{halted_at}
use Rattle.fj_run_end.proofs.Seating.{Table, name_in, connects, named_still, serves_name, Seated, name_is}
use Rattle.fj_run_end.proofs.Standing.{left_in, slot_names, IsWaited, AllTold, ToldOr, IsOut, DoesSo, Goes, Submits, SettlesAt, AskGoes, passes_goes, stands_so, before_so}
use Rattle.fj_run_end.proofs.Walk.{EmptyOrStays, Sits, now_seated, told_sits}

-- ---- jobs by which no connection comes or goes leave its name

-- behind so many jobs, and so many more of which none is such
steady : (jobs : List Job) (start : Bay) (low high : ℕ) → low ≤ high → ((k : ℕ) (job : Job) → low ≤ k → k < high → slice_get jobs k ≡ Some job → connects job ≡ false) → name_behind start jobs high ≡ name_behind start jobs low
steady [] start zero zero below still = refl
steady [] start zero (suc high) below still = refl
steady [] start (suc low) zero below still = absurd (omega (arith, below))
steady [] start (suc low) (suc high) below still = refl
steady (job ∷ jobs) start zero zero below still = refl
steady (job ∷ jobs) start zero (suc high) below still =
    steady jobs (serve start job).engine zero high (omega arith) (λ k x over under e. still (suc k) x (omega arith) (omega (arith, under)) e)
    ∙ serves_name start job ∙ named_still job (name_in start.connection) (still zero job (omega arith) (omega arith) refl)
steady (job ∷ jobs) start (suc low) zero below still = absurd (omega (arith, below))
steady (job ∷ jobs) start (suc low) (suc high) below still = steady jobs (serve start job).engine low high (omega (arith, below)) (λ k x over under e. still (suc k) x (omega (arith, over)) (omega (arith, under)) e)

-- ---- units

all_of : (P : Connected → Type 0) (us : List Connected) → Each P us → All P us
all_of P [] h = All-nil P
all_of P (u ∷ us) h = All-cons P u us h.0 (all_of P us h.1)

none_there : (us : List Connected) (k : ℕ) → Differs (λ (u : Connected). u.slot) k us → has_slot us k ≡ false
none_there [] k d = refl
none_there (u ∷ us) k d = ap (λ b. b || has_slot us k) (ne_eqb u.slot k d.0) ∙ none_there us k d.1

slots_differ : (us : List Connected) → Apart (λ (u : Connected). u.slot) us → Differ same_slot us
slots_differ [] apart = tt
slots_differ (u ∷ us) apart = (none_there us u.slot apart.0, slots_differ us apart.1)

-- ---- slots

module _ {E J A : Type 0} (m : Meaning E J A Bay Job Answer) (rack : Rack E J A) (qs : List (PlainSlot Bay Job)) (hold : SlotsHold (over_bays m) qs rack) (long : length qs ≡ most_slots) where
  -- the slot holds a name, whatever it may still do
  slot_holds : (at : ℕ) (q : PlainSlot Bay Job) (l : Ledger E J A) (name : Option (List ℕ)) → slice_get qs at ≡ Some q → slice_get rack.slots at ≡ Some l
      → ((k : ℕ) (job : Job) → slice_get q.jobs k ≡ Some job → connects job ≡ true → k < q.told) → name_in (behind q.start q.jobs).connection ≡ name → HoldsName m l name
  slot_holds at q l name e f told is = record {
    start = q.start;
    jobs = q.jobs;
    sound = hold.each at q l e f;
    left = λ number low high one.
        sym (steady q.jobs q.start number (length q.jobs) high
        (λ k job over under g. elim (cases_Bool (connects job)) [ inl moved ↦ absurd (let less = told k job g moved in let done = hold.done at q l e f in omega (arith, less, done, low, over)) | inr idle ↦ idle ]))
        ∙ ap (λ js. name_in (behind q.start js).connection) (take_all (length q.jobs) q.jobs (omega arith)) ∙ is;
  }

  -- all of them hold the names of units
  units_held : (names : Table) (us : List Connected) → Seated names us → ((at : ℕ) (q : PlainSlot Bay Job) (l : Ledger E J A) → slice_get qs at ≡ Some q → slice_get rack.slots at ≡ Some l → HoldsName m l (names at)) → HoldUnits m rack us
  units_held names us s each = record {
    within = subst (λ n. All (λ (u : Connected). u.slot < n) us) (sym long ∙ hold.same) (all_of (λ (u : Connected). u.slot < most_slots) us s.low);
    apart = slots_differ us s.slots;
    holds = λ at l f.
        let within = slice_get_within rack.slots at l f in
        let q = slice_get_inside qs at (omega (arith, within, hold.same)) in
        subst (HoldsName m l) (name_is names us at s.named (s.empty at)) (each at q.0 l q.1 f);
  }

  pub told_held : (us : List Connected) → Seated (slot_names qs) us → AllTold qs → HoldUnits m rack us
  told_held us s told = units_held (slot_names qs) us s (λ at q l e f. slot_holds at q l (slot_names qs at) e f (λ k job g moved. told at q k job e g moved) (sym (ap left_in e)))

  -- ---- where a stop was told

  module _ (r : Run) (slot number : ℕ) (onward : _) (w : IsOut m r.core qs slot number onward) (out : ToldOr (Awaiting slot number onward) qs) (stop : HasStoppedAt slot rack) where
    -- the slot stopped at the job that is awaited, or before it
    not_behind : (l : Ledger E J A) → slice_get rack.slots slot ≡ Some l → l.done ≤ number
    not_behind l f =
        let sound = hold.each slot w.own l w.here f in
        let below = sound.counted.below (stop l f) in
        let many : length l.jobs ≡ length w.own.jobs = sym (length-map l.jobs m.task) ∙ ap length sound.jobs ∙ length-map w.own.jobs Some in
        omega (arith, below, many, w.last)

    -- the jobs between are none by which a connection comes or goes
    before_stop : (l : Ledger E J A) → slice_get rack.slots slot ≡ Some l → name_behind w.own.start w.own.jobs l.done ≡ w.old slot
    before_stop l f =
        sym (steady w.own.jobs w.own.start l.done number (not_behind l f)
        (λ k job over under e. elim (cases_Bool (connects job)) [
          | inl moved ↦ absurd (elim (out slot w.own k job w.here e moved) [
            | inl told ↦ (let done = hold.done slot w.own l w.here f in omega (arith, told, done, over))
            | inr waited ↦ (let is = waited.1 in omega (arith, is, under))
          ])
          | inr idle ↦ idle
        ]))
        ∙ w.before

    own_holds : (l : Ledger E J A) → slice_get rack.slots slot ≡ Some l → HoldsName m l (w.old slot)
    own_holds l f = record {
      start = w.own.start;
      jobs = w.own.jobs;
      sound = hold.each slot w.own l w.here f;
      left = λ n low high one. ap (name_behind w.own.start w.own.jobs) (one (stop l f)) ∙ before_stop l f;
    }

    out_held : HoldUnits m rack r.core.units
    out_held = units_held w.old r.core.units w.seated
        (λ at q l e f. elim (eqb_tells at slot) [
          | inl a ↦ subst (λ k. HoldsName m l (w.old k)) (sym a.1) (own_holds l (ap (slice_get rack.slots) (sym a.1) ∙ f))
          | inr a ↦ slot_holds at q l (w.old at) e f
              (λ k job g moved. elim (out at q k job e g moved) [ inl told ↦ told | inr waited ↦ absurd (a.1 waited.0) ])
              (sym (ap left_in e) ∙ w.leaves.others at a.1)
        ])

    -- the bay on which it stopped is not empty
    stopped_full : StopsFull m → IsSome (w.old slot)
    stopped_full full =
        let l = slice_get_inside rack.slots slot (let within = slice_get_within qs slot w.own w.here in omega (arith, within, hold.same)) in
        let h = some_in l.0.halt (stop l.0 l.1) in
        let at = halted_at (over_bays m) w.own.start w.own.jobs l.0 h.0 (hold.each slot w.own l.0 w.here l.1) h.1 in
        let bay = served_by (over_bays m) w.own.start (take l.0.done w.own.jobs) in
        let c = some_in bay.connection (full bay at.job h.0.stop at.engine at.tells at.spoilt) in
        subst IsSome (ap (λ (b : Bay). name_in b.connection) (behind_is (over_bays m) refl w.own.start (take l.0.done w.own.jobs)) ∙ before_stop l.0 l.1) (subst (λ o. IsSome (name_in o)) (sym c.1) refl)

    -- no connection is about to come
    spared : StopsFull m → ((brought : Option Connection) → w.job ≡ attach brought → ⊥) × LeavesNames (Awaiting slot number onward) r.core.units
    spared full = by w.job w.stays
      where
        by : (job : Job) → EmptyOrStays job (w.old slot) r.core onward → ((brought : Option Connection) → job ≡ attach brought → ⊥) × LeavesNames (Awaiting slot number onward) r.core.units
        by (attach brought) empty = absurd (let z : false ≡ true = subst IsSome empty (stopped_full full) in cc)
        by (detach place) some = ((λ brought q. cc), some)
        by (move t) some = ((λ brought q. cc), some)
        by (go how) some = ((λ brought q. cc), some)
        by (change edit) some = ((λ brought q. cc), some)
        by flush some = ((λ brought q. cc), some)
        by (look place) some = ((λ brought q. cc), some)
        by resume some = ((λ brought q. cc), some)

  stage_held : (r : Run) (slot : ℕ) → Goes m r qs → SettlesAt m slot r.stage → HasStoppedAt slot rack → HoldUnits m rack r.core.units
  stage_held r slot h at stop = by r.stage h.does h.out at
    where
      by : (stage : Stage) → DoesSo m r.core qs stage → ToldOr stage qs → SettlesAt m slot stage → HoldUnits m rack r.core.units
      by Start does out at = absurd at
      by Waiting does out at = told_held r.core.units does (λ i q k job e f c. elim (out i q k job e f c) [ inl told ↦ told | inr never ↦ absurd never ])
      by (Acting d) does out at = absurd at
      by (Awaiting own number onward) does out at = out_held r own number onward does out (subst (λ k. HasStoppedAt k rack) (sym at) stop)

  stage_spares : StopsFull m → (r : Run) (slot : ℕ) → Goes m r qs → SettlesAt m slot r.stage → HasStoppedAt slot rack → StopSpares slot qs r
  stage_spares full r slot h at stop = record { names = names r.stage h.does h.out at; none_comes = none r.stage h.does h.out at }
    where
      names : (stage : Stage) → DoesSo m r.core qs stage → ToldOr stage qs → SettlesAt m slot stage → LeavesNames stage r.core.units
      names Start does out at = tt
      names Waiting does out at = tt
      names (Acting d) does out at = tt
      names (Awaiting own number onward) does out at = (spared r own number onward does out (subst (λ k. HasStoppedAt k rack) (sym at) stop) full).1

      none : (stage : Stage) → DoesSo m r.core qs stage → ToldOr stage qs → SettlesAt m slot stage → BringsNone slot qs
      none Start does out at q k brought e low f = absurd at
      none Waiting does out at q k brought e low f = elim (out slot q k (attach brought) e f refl) [ inl told ↦ omega (arith, told, low) | inr never ↦ never ]
      none (Acting d) does out at q k brought e low f = absurd at
      none (Awaiting own number onward) does out at q k brought e low f = elim (out slot q k (attach brought) e f refl) [
        | inl told ↦ omega (arith, told, low)
        | inr waited ↦
            (spared r own number onward does out (subst (λ k. HasStoppedAt k rack) (sym at) stop) full).0 brought
            (same_some (sym does.job_is ∙ ap (slice_get does.own.jobs) (sym waited.1) ∙ ap (λ (p : PlainSlot Bay Job). slice_get p.jobs k) (same_some (sym does.here ∙ ap (slice_get qs) at ∙ e)) ∙ f))
      ]

  -- ---- in a turn

  turn_held : (r : Run) → Goes m r qs → TurnHolds m rack r
  turn_held r h = record { unbegun = begun r.stage h.does h.out; now = λ d e. due r.rest d e }
    where
      told : (stage : Stage) → ((at k : ℕ) → IsWaited stage at k → ⊥) → ToldOr stage qs → AllTold qs
      told stage none out at q k job e f c = elim (out at q k job e f c) [ inl low ↦ low | inr waited ↦ absurd (none at k waited) ]

      begun : (stage : Stage) → DoesSo m r.core qs stage → ToldOr stage qs → IsUnbegun stage → HoldUnits m rack r.core.units
      begun Start does out un = told_held r.core.units does (told Start (λ at k never. never) out)
      begun Waiting does out un = told_held r.core.units does (told Waiting (λ at k never. never) out)
      begun (Acting d) does out un = absurd un
      begun (Awaiting slot number next) does out un = absurd un

      at_stage : (st : Stated) (d : Doing) (stage : Stage) → DoesSo m r.core qs stage → ToldOr stage qs → doing_at st stage r ≡ Some d → HoldUnits m rack (core_now d).units
      at_stage st d Start does out e =
          told_held (core_now d).units (now_seated (slot_names qs) d (subst (Sits (slot_names qs)) (same_some e) (told_sits (slot_names qs) r.variables (begun_for r st) (waited_now (begun_for r st) r) r.core does))) (told Start (λ at k never. never) out)
      at_stage st d Waiting does out e =
          told_held (core_now d).units (now_seated (slot_names qs) d (subst (Sits (slot_names qs)) (same_some e) (told_sits (slot_names qs) r.variables st (waited_now st r) r.core does))) (told Waiting (λ at k never. never) out)
      at_stage st d (Acting next) does out e = told_held (core_now d).units (now_seated (slot_names qs) d (subst (Sits (slot_names qs)) (same_some e) does)) (told (Acting next) (λ at k never. never) out)
      at_stage st d (Awaiting slot number next) does out e = cc

      due : (rest : List Stated) (d : Doing) → doing_due rest r ≡ Some d → HoldUnits m rack (core_now d).units
      due [] d e = cc
      due (st ∷ rest) d e = at_stage st d r.stage h.does h.out e

-- ---- a runner served alone

module _ {E J A S : Type 0} (m : Meaning E J A Bay Job Answer) (s : Shows S) where
  no_ending : {X : Type 0} → (r : Run) → r.ending ≡ None → IsSome r.ending → X
  no_ending r none some = absurd (let z : false ≡ true = subst IsSome none some in cc)

  pub ends_with_units : EndsWithUnits m s
  ends_with_units variables deck files script rack run alone going is some =
      let at : Plain Bay (run_conduct s) = after (over_bays m) (run_conduct s) alone.entries (begins m s variables deck files) in
      let shows = alone.fits.script going in
      let done : at.hand ≡ Finished = asks_no_more (over_bays m) (run_conduct s) at.hand shows.1 in
      let run_is : run ≡ at.script = same_some (sym is ∙ shows.0) in
      elim (subst (λ a. AskGoes m at.slots a at.script) done (stands_so m s variables deck files alone.entries)) [
        | inl h ↦ no_ending at.script h.counts.going (subst (λ (r : Run). IsSome r.ending) run_is some)
        | inr ended ↦ (
          subst (λ (r : Run). HoldUnits m rack r.core.units) (sym run_is)
              (told_held m rack at.slots (record { same = alone.fits.same_slots; each = λ i q l e f. (alone.fits.slots i q l e f).sound; done = λ i q l e f. (alone.fits.slots i q l e f).done }) ended.long at.script.core.units
              ended.seated ended.told),
          ap (λ (r : Run). r.stage) run_is ∙ ended.start,
        )
      ]

  settles : (variables : List Variable) (deck : List Stated) (files : Files) (n slot : ℕ)
      → let x = after (over_bays m) (run_conduct s) n (begins m s variables deck files) in x.hand ≡ Settle slot → AskGoes m x.slots (Settle slot) x.script
  settles variables deck files n slot hand =
      let x : Plain Bay (run_conduct s) = after (over_bays m) (run_conduct s) n (begins m s variables deck files) in
      subst (λ a. AskGoes m x.slots a x.script) hand (stands_so m s variables deck files n)

  pub each_stop_holds : EachStopHolds m s
  each_stop_holds variables deck files n slot rack hand hold stop =
      let x : Plain Bay (run_conduct s) = after (over_bays m) (run_conduct s) n (begins m s variables deck files) in
      let h = settles variables deck files n slot hand in
      stage_held m rack x.slots hold h.0.counts.long x.script slot h.0 h.1 stop

  pub each_stop_spares : StopsFull m → EachStopSpares m s
  each_stop_spares full variables deck files n slot rack hand hold stop =
      let x : Plain Bay (run_conduct s) = after (over_bays m) (run_conduct s) n (begins m s variables deck files) in
      let h = settles variables deck files n slot hand in
      stage_spares m rack x.slots hold h.0.counts.long full x.script slot h.0 h.1 stop

  pub each_turn_holds : EachTurnHolds m s
  each_turn_holds variables deck files n count run rack going passed hold =
      let b : Run × List (PlainSlot Bay Job) = before_ask (over_bays m) (run_conduct s) n (first_run variables deck files) fresh_slots in
      elim (before_so m s variables deck files n) [
        | inl h ↦ let goes = passes_goes m b.1 count b.0 run h passed in turn_held m rack b.1 hold goes.counts.long run goes
        | inr ended ↦ no_ending b.0 going ended.some
      ]

  pub each_submit_holds : EachSubmitHolds m s
  each_submit_holds variables deck files n slot job rack hand hold =
      let x : Plain Bay (run_conduct s) = after (over_bays m) (run_conduct s) n (begins m s variables deck files) in
      let b : Run × List (PlainSlot Bay Job) = before_ask (over_bays m) (run_conduct s) n (first_run variables deck files) fresh_slots in
      let h : Submits m slot job x.script x.slots = subst (λ a. AskGoes m x.slots a x.script) hand (stands_so m s variables deck files n) in
      elim (fares_after m s variables deck files n) [
        | inl (e, y) ↦
            let same : x.slots ≡ b.1 = ap (λ (z : Plain Bay (run_conduct s)). z.slots) e in
            told_held m rack x.slots (subst (λ qs. SlotsHold (over_bays m) qs rack) (sym same) hold) h.long x.script.core.units h.seated h.told
        | inr (over, after, was) ↦ absurd (let z : Submit slot job ≡ Finished = sym hand ∙ over in cc)
      ]

-- ---- nothing stops on an empty bay

pub plain_full : StopsFull plain_bays
plain_full bay job stop e tells spoilt = subst IsSome (sym spoilt.full) refl

pub bays_full : {F : Type 0} → (told : F → Bool) (bytes : F → List ℕ) (count : F → ℕ) → StopsFull (bay_meaning told bytes count)
bays_full {F} told bytes count bay job stop e tells spoilt = by (state_of told bytes e) tells spoilt
  where
    by : (o : Option Bay) → IsSome o → IfSome o (λ new. IsSpoilt bay job stop new (file_faults count e.connection)) → IsSome bay.connection
    by None h k = absurd (cc)
    by (Some new) h k = subst IsSome (sym k.full) refl
