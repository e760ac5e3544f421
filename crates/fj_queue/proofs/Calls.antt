-- What the calls owe between their steps.
use Rattle.std.proofs.lemmas.Grind.{common_steps}
use Rattle.std.proofs.Common.{◌&&◌, is_some, is_none, nat_lt, Result, IfOk, IfErr, ◌≡◌, ◌≢◌, ◌⊎◌, ℕ, ◌+◌, ◌*◌, ◌%◌, ◌^◌, ◌<◌, ◌≤◌, Bool, true, false, List, [], ◌∷◌, ◌||◌, refl, sym, ap, ◌∙◌, subst, inl, inr, arith, Option, Some, None, slice_get, length-append}
use mathlib.Core.Option.{none}
use Rattle.atomic_table.specs.Table.{rest, step, Allows}
use Rattle.fj_queue.specs.declared.view.Agenda.{Agenda}
use Rattle.fj_outside.specs.declared.errors.Stop.{Stop}
use Rattle.fj_slot.specs.Serving.{Meaning}
use Rattle.fj_slot.specs.Ledger.{Ledger}
use Rattle.fj_queue.specs.Cell.{out_of, stops_of, submitted, told, progress, stop_code, code_of}
use Rattle.fj_slot.specs.Ledger.{IsSized}
use Rattle.fj_queue.specs.Cell.{IsFor, IsDueAt, IsDueFor, IsNext}
use Rattle.fj_slot.specs.Causes.{HasCause}
use Rattle.fj_slot.specs.declared.stop.Halt.{Halt}
use Rattle.fj_slot.specs.Ledger.{with_job, with_out, with_answer, with_halt, with_tell, can_begin, can_tell}
use Rattle.fj_slot.specs.Serving.{Serves}
use Rattle.fj_slot.specs.Sound.{IsOutcome, TellsOutcome}
use Rattle.fj_slot.specs.Telling as telling
use Rattle.fj_slot.proofs.Counted.{may_begin}
use Rattle.fj_queue.proofs.Cells.{sized_submit, sized_begin, sized_end, sized_halt, sized_tell, sound_submit, sound_begin, sound_end, sound_tell, due, told_is, behind_is, since_is}
use Rattle.fj_slot.specs.declared.told.Told.{Told}
use Rattle.fj_slot.specs.declared.told.Told.TheVariants.{Done, Stopped}
use Rattle.fj_queue.specs.declared.view.View.{View}
use Rattle.fj_queue.specs.Rule.{Ruled, first_view}
use Rattle.fj_queue.specs.declared.view.Start.{Start}
use Rattle.fj_queue.specs.Steps.{Mine, put_cell, Carries, carrying}
use Rattle.fj_queue.proofs.Moves.{puts_cell}
use Rattle.fj_queue.proofs.Counts.{code_some, stops_one}
use Rattle.fj_queue.specs.Tokens.{Begins, IsLast}
use Rattle.fj_queue.specs.Answers.{NothingToBegin, IsStop, KnowsStop, Settles}
use Rattle.fj_queue.specs.Inside.{TellsOne, IsInside, Began, IsRunning, entered, left, running, ending}

module _ {E J A T : Type 0} where
  pub at_view : (x y : Mine E J A T) → x ≡ y → x.0 ≡ y.0
  at_view x y e = ap (λ (m : Mine E J A T). m.0) e

  pub at_holds : (x y : Mine E J A T) → x ≡ y → x.0.holds ≡ y.0.holds
  at_holds x y e = ap (λ (m : Mine E J A T). m.0.holds) e

  pub at_out : (x y : Mine E J A T) → x ≡ y → x.0.out ≡ y.0.out
  at_out x y e = ap (λ (m : Mine E J A T). m.0.out) e

  pub at_runs : (x y : Mine E J A T) → x ≡ y → x.0.runs ≡ y.0.runs
  at_runs x y e = ap (λ (m : Mine E J A T). m.0.runs) e

  pub at_plan : (x y : Mine E J A T) → x ≡ y → x.0.plan ≡ y.0.plan
  at_plan x y e = ap (λ (m : Mine E J A T). m.0.plan) e

  pub at_sends : (x y : Mine E J A T) → x ≡ y → x.0.sends ≡ y.0.sends
  at_sends x y e = ap (λ (m : Mine E J A T). m.0.sends) e

  pub at_sent : (x y : Mine E J A T) → x ≡ y → x.0.sent ≡ y.0.sent
  at_sent x y e = ap (λ (m : Mine E J A T). m.0.sent) e

  pub at_heard : (x y : Mine E J A T) → x ≡ y → x.0.heard ≡ y.0.heard
  at_heard x y e = ap (λ (m : Mine E J A T). m.0.heard) e

  pub at_stopped : (x y : Mine E J A T) → x ≡ y → (x.0.stopped ≡ y.0.stopped) × (x.0.stopped_at ≡ y.0.stopped_at)
  at_stopped x y e = (ap (λ (m : Mine E J A T). m.0.stopped) e, ap (λ (m : Mine E J A T). m.0.stopped_at) e)

  pub at_answered : (x y : Mine E J A T) → x ≡ y → x.0.answered ≡ y.0.answered
  at_answered x y e = ap (λ (m : Mine E J A T). m.0.answered) e

  pub at_tells : (x y : Mine E J A T) → x ≡ y → x.0.tells ≡ y.0.tells
  at_tells x y e = ap (λ (m : Mine E J A T). m.0.tells) e

  pub at_stop : (x y : Mine E J A T) → x ≡ y → x.0.stop ≡ y.0.stop
  at_stop x y e = ap (λ (m : Mine E J A T). m.0.stop) e

  pub at_progress : (x y : Mine E J A T) → x ≡ y → x.0.progress ≡ y.0.progress
  at_progress x y e = ap (λ (m : Mine E J A T). m.0.progress) e

  -- a slot that was taken may be looked at
  pub carries : (x : Mine E J A T) (v : View E T) (cs : List (ℕ × Option (Ledger E J A))) (o : Option (Ledger E J A)) → x ≡ (v, (0, o) ∷ cs) → (p : Option (Ledger E J A)) × (x.1 ≡ (0, p) ∷ rest x.1)
  carries x v cs o e = let is : x.1 ≡ (0, o) ∷ cs = ap (λ (m : Mine E J A T). m.1) e in (o, is ∙ ap (λ ds. (0, o) ∷ rest ds) (sym is))

  -- a slot in hand may be written
  pub lends : (x : Mine E J A T) (c : Ledger E J A) → Carries x c → (p : Option (Ledger E J A)) × (x.1 ≡ (0, p) ∷ rest x.1)
  lends x c is = (Some c, is ∙ ap (λ ds. (0, Some c) ∷ rest ds) (sym is))

  pub at_list : (x : Mine E J A T) (v : View E T) (cs : List (ℕ × Option (Ledger E J A))) → x ≡ (v, cs) → x.1 ≡ cs
  at_list x v cs e = ap (λ (m : Mine E J A T). m.1) e

  -- the same cell is in hand with a view that is the same
  pub reviewed : (x : Mine E J A T) (v w : View E T) (c : Ledger E J A) → x ≡ carrying v c → v ≡ w → x ≡ carrying w c
  reviewed x v w c e f = e ∙ ap (λ (u : View E T). carrying u c) f

  -- the same view has the same cell in hand
  pub recarried : (x : Mine E J A T) (v : View E T) (c d : Ledger E J A) → x ≡ carrying v c → c ≡ d → x ≡ carrying v d
  recarried x v c d e f = e ∙ ap (carrying v) f

module _ {E J A S T R : Type 0} (mean : Meaning E J A S T R) (key : Option (Agenda E T)) where
  -- the seat that had the cell in hand gives it back
  pub puts_back : (slots id : ℕ) (x : Mine E J A T) (c : Ledger E J A) → IsInside mean x c → Allows (Ruled mean key) slots id x 1 (λ n. n) (put_cell (step slots 1 0 0 none) x)
  puts_back slots id x c i = puts_cell mean key slots id x c i.holds i.carried i.sized i.sound i.submissions i.progress_is i.tells i.stop

stop_none : (o : Option Halt) → stop_code o ≡ 0 → o ≡ None
stop_none None e = refl
stop_none (Some h) e = absurd (code_some h.stop e)

out_odd : {E : Type 0} (o : Option E) (n k : ℕ) → 2 * n + out_of o ≡ 2 * k + 1 → (o ≡ None) × (n ≡ k)
out_odd None n k e = (refl, omega arith)
out_odd (Some a) n k e = absurd (omega arith)

module _ {E J A : Type 0} where
  -- where the progress is odd and no stop is set, the job after those done is out
  pub job_out : (c : Ledger E J A) (k : ℕ) → progress c ≡ 2 * k + 1 → stop_code c.halt ≡ 0 → (c.home ≡ None) × (c.halt ≡ None) × (c.done ≡ k)
  job_out c k e z = let o = out_odd c.home (c.done + stops_of c.halt) k e in let going = stop_none c.halt z in let s : stops_of c.halt ≡ 0 = ap stops_of going in let n = o.1 in (o.0, going, omega arith)

  pub due_small : (c : Ledger E J A) → IsSized c → c.home ≡ None → c.done < 2 ^ 62
  due_small c s e = omega (arith, s.away e, s.few)

module _ {E J A S T R : Type 0} (mean : Meaning E J A S T R) where
  -- the cell that was taken out while its job runs
  pub runs_on : (v : View E T) (m : Mine E J A T) (c : Ledger E J A) (k : ℕ) → m ≡ carrying (entered v c) c → v.sends || v.works ≡ true → v.runs ≡ Some k → IsSized c → IsFor mean v.plan c
      → (progress c ≡ 2 * k + 1) × (stop_code c.halt ≡ 0) → IsRunning mean m c × (c.done ≡ k)
  runs_on v m c k is live runs sized sound odd = let o = job_out c k odd.0 odd.1 in (
    subst (λ z. IsRunning mean z c) (sym is) record {
      carried = refl;
      live = live;
      holds = refl;
      out = refl;
      submissions = refl;
      tells = refl;
      stop = ap (λ z. Some z) odd.1;
      runs = runs ∙ ap (λ z. Some z) (sym o.2);
      is_out = o.0;
      going = o.1;
      sized = sized;
      sound = sound;
    },
    o.2,
  )

  -- the cell in which the job was counted as begun may be put back
  pub started : (m n : Mine E J A T) (c : Ledger E J A) → Began mean m c → n ≡ (running m.0 c.done, m.1) → IsInside mean n c
  started m n c b is = let o : out_of c.home ≡ 1 = ap out_of b.begun in let s : stops_of c.halt ≡ 0 = ap stops_of b.going in subst (λ z. IsInside mean z c) (sym is) record {
    carried = b.carried;
    holds = b.holds;
    out = b.out;
    submissions = b.submissions;
    progress_is = let p : 2 * c.done + 1 ≡ progress c = omega arith in ap (λ z. Some z) p;
    tells = b.tells;
    stop = b.stop ∙ ap (λ z. Some (stop_code z)) (sym b.going);
    sized = b.sized;
    sound = b.sound;
  }

  -- what performing the job leaves is sound
  pub performed : (m : Mine E J A T) (c new : Ledger E J A) (e e' : E) (j j' : J) (got : Result A Stop) → IsRunning mean m c → IsDueFor mean m.0.plan c.done e j
      → ((s : S) (t : T) → mean.state e ≡ Some s → mean.task j ≡ Some t → Serves mean s t got e' j')
      → HasCause (mean.faults e) (mean.faults e') got
      → new.start ≡ c.start → new.jobs ≡ c.jobs
      → IfOk got (λ answer. new ≡ with_answer c e' j' answer)
      → IfErr got (λ stop. new ≡ with_halt c e' (record { stop = stop; before = mean.faults e; after = mean.faults e' }))
      → IsFor mean m.0.plan new
  performed m c new e e' j j' got r d serves cause start jobs ok err = sound_end mean m.0.plan c new e e' j j' got r.sound r.sized r.is_out d serves cause start jobs ok err

  -- the cell with the answer may be put back
  pub finishes : (m n : Mine E J A T) (c d : Ledger E J A) (e : E) (j : J) (a : A) → IsRunning mean m c → IsFor mean m.0.plan (with_answer c e j a) → n ≡ carrying (ending m.0 c.done) d → d ≡ with_answer c e j a → IsInside mean n d
  finishes m n c d e j a r sound is after = let b : Ledger E J A = with_answer c e j a in let s : stops_of c.halt ≡ 0 = ap stops_of r.going in
      let P : Mine E J A T × Ledger E J A → Type 0 = λ z. IsInside mean z.0 z.1 in subst P (λ i. (sym (recarried _ _ _ _ is after) i, sym after i)) record {
        carried = refl;
        holds = r.holds;
        out = r.out;
        submissions = r.submissions;
        progress_is = let eq : 2 * c.done + 2 ≡ progress b = omega arith in ap (λ z. Some z) eq;
        tells = r.tells;
        stop = r.stop ∙ ap (λ z. Some (stop_code z)) (sym r.going);
        sized = sized_end c e j a r.sized r.is_out;
        sound = sound;
      }

  -- the cell with the stop may be put back
  pub halts : (m n : Mine E J A T) (c d : Ledger E J A) (e : E) (h : Halt) → IsRunning mean m c → IsFor mean m.0.plan (with_halt c e h) → n ≡ carrying (record (ending m.0 c.done) { stop = Some (code_of h.stop) }) d → d ≡ with_halt c e h → IsInside mean n d
  halts m n c d e h r sound is after = let b : Ledger E J A = with_halt c e h in
      let P : Mine E J A T × Ledger E J A → Type 0 = λ z. IsInside mean z.0 z.1 in subst P (λ i. (sym (recarried _ _ _ _ is after) i, sym after i)) record {
        carried = refl;
        holds = r.holds;
        out = r.out;
        submissions = r.submissions;
        progress_is = let eq : 2 * c.done + 2 ≡ progress b = omega arith in ap (λ z. Some z) eq;
        tells = r.tells;
        stop = refl;
        sized = sized_halt c e h r.sized r.is_out;
        sound = sound;
      }

  -- the cell with one job more may be put back
  pub appends : (v : View E T) (m : Mine E J A T) (c c' : Ledger E J A) (j : J) → m ≡ carrying (record (entered v c) { submissions = Some (v.sent + 1); sent = v.sent + 1 }) c' → IsSized c → IsFor mean v.plan c
      → submitted c ≡ v.sent → v.sent < 2 ^ 62 → IsNext mean v.plan v.sent j → c' ≡ with_job c j → IsInside mean m c'
  appends v m c c' j is sized sound sent small next after = let d : Ledger E J A = with_job c j in let P : Mine E J A T × Ledger E J A → Type 0 = λ z. IsInside mean z.0 z.1 in
      subst P (λ i. (sym (recarried _ _ _ _ is after) i, sym after i)) record {
        carried = refl;
        holds = refl;
        out = refl;
        submissions = let more : v.sent + 1 ≡ submitted d = omega (arith, length-append c.jobs (j ∷ []), sent) in ap (λ z. Some z) more;
        progress_is = refl;
        tells = refl;
        stop = refl;
        sized = sized_submit c j sized (omega (arith, sent));
        sound = sound_submit mean v.plan c j sound (subst (λ z. IsNext mean v.plan z j) (sym sent) next);
      }

  -- the cell whose first job was begun
  pub begins : (v : View E T) (m : Mine E J A T) (c d : Ledger E J A) (e : E) (j : J) (n : ℕ) → m ≡ carrying (entered v c) d → v.sends || v.works ≡ true → IsSized c → IsFor mean v.plan c
      → can_begin c ≡ true → c.home ≡ Some e → slice_get c.jobs c.done ≡ Some j → d ≡ with_out c → n ≡ c.done → Began mean m d × IsDueFor mean m.0.plan d.done e j × (n ≡ d.done)
  begins v m c d e j n is live sized sound can home first after number = let may = may_begin c can in let o : out_of c.home ≡ 0 = ap out_of home in let s : stops_of c.halt ≡ 0 = ap stops_of may.running in let b : Ledger E J A = with_out c in
      let P : Mine E J A T × Ledger E J A → Type 0 = λ z. Began mean z.0 z.1 × IsDueFor mean z.0.0.plan z.1.done e j × (n ≡ z.1.done) in subst P (λ i. (sym (recarried _ _ _ _ is after) i, sym after i)) (
        record {
          carried = refl;
          live = live;
          holds = refl;
          out = refl;
          submissions = refl;
          progress_is = let eq : progress c ≡ 2 * b.done = omega arith in ap (λ z. Some z) eq;
          tells = refl;
          stop = ap (λ o. Some (stop_code o)) may.running;
          begun = refl;
          going = may.running;
          sized = sized_begin c sized can;
          sound = sound_begin mean v.plan c sound can;
        },
        due mean v.plan c e j sound can home first,
        number,
      )

-- the seat after a job was ended, and a stop set
pub ended_then : {E J A T : Type 0} (x y z : Mine E J A T) (k t : ℕ) {u : ℕ} → y ≡ (ending x.0 k, x.1) → z ≡ (record y.0 { stop = Some u }, y.1) → u ≡ t → z ≡ (record (ending x.0 k) { stop = Some t }, x.1)
ended_then {E} {J} {A} {T} x y z k t {u} e f is = f ∙ (λ i. let m : Mine E J A T = e i in let w : Mine E J A T = (record m.0 { stop = Some (is i) }, m.1) in w)

-- where no job is out, the progress is even
pub out_none : {X : Type 0} (o : Option X) → is_some o ≡ true → out_of o ≡ 0
out_none None e = absurd (cc)
out_none (Some x) e = refl

pub even_home : {E J A : Type 0} (c : Ledger E J A) → is_some c.home ≡ true → progress c % 2 ≡ 0
even_home c e = let o = out_none c.home e in omega arith

code_pos : (o : Option Halt) → stops_of o ≡ 1 → stop_code o ≢ 0
code_pos None e z = absurd (omega arith)
code_pos (Some h) e z = code_some h.stop z

-- why nothing can be begun: a job is out, all were begun, or there is a stop
pub because : {E : Type 0} (home : Option E) (halt : Option Halt) (done n : ℕ) {p : ℕ} → p ≡ 2 * (done + stops_of halt) + out_of home → is_none halt && (is_some home && nat_lt done n) ≡ false → done ≤ n
    → ((q : ℕ) × (p ≡ 2 * q + 1)) ⊎ ((p ≡ 2 * n) ⊎ (stop_code halt ≢ 0))
because home (Some h) done n e not le = inr (inr (code_pos (Some h) refl))
because None None done n e not le = inl (done, omega (arith, e))
because (Some x) None done n e not le = let same : n ≤ done = grind (arith, common_steps) in inr (inl (omega (arith, e)))

module _ {E J A T : Type 0} where
  -- the seat after a submission was counted
  pub counted_then : (x y : Mine E J A T) (v : View E T) (cs : List (ℕ × Option (Ledger E J A))) → x ≡ (v, cs) → y ≡ (record x.0 { submissions = Some (x.0.sent + 1); sent = x.0.sent + 1 }, x.1) → y ≡ (record v { submissions = Some (v.sent + 1); sent = v.sent + 1 }, cs)
  counted_then x y v cs e f = f ∙ (λ i. let m : Mine E J A T = e i in let w : Mine E J A T = (record m.0 { submissions = Some (m.0.sent + 1); sent = m.0.sent + 1 }, m.1) in w)

  -- a slot of which nothing can be begun
  pub nothing : (v w : View E T) (c : Ledger E J A) → IsSized c → w ≡ left (entered v c) → can_begin c ≡ false → NothingToBegin w
  nothing v w c sized is not = subst NothingToBegin (sym is) (submitted c, progress c, stop_code c.halt, refl, refl, refl, because c.home c.halt c.done (submitted c) refl not sized.within)

pub fits_still : (a b : ℕ) → a ≡ b → b < 2 ^ 62 → a < 2 ^ 62
fits_still a b e h = omega arith

pub at_live : {E J A T : Type 0} (x y : Mine E J A T) → x ≡ y → x.0.sends || x.0.works ≡ y.0.sends || y.0.works
at_live {E} {J} {A} {T} x y e = ap (λ (m : Mine E J A T). m.0.sends || m.0.works) e

pub or_right : (a b : Bool) → b ≡ true → a || b ≡ true
or_right true b e = refl
or_right false b e = e

pub due_moves : {E J A S T R : Type 0} (mean : Meaning E J A S T R) (q q' : Option (Agenda E T)) (k k' : ℕ) (e : E) (j : J) → q' ≡ q → k' ≡ k → IsDueFor mean q k e j → IsDueFor mean q' k' e j
due_moves {E} {J} {A} {S} {T} {R} mean q q' k k' e j same at d p is = let it = d p (sym same ∙ is) in (it.0, λ s js named st. subst (λ n. IsDueAt mean s js n e j) (sym at) (it.1 s js named st))

pub left_then : {E J A T : Type 0} (x y : Mine E J A T) (v : View E T) (cs : List (ℕ × Option (Ledger E J A))) → x ≡ (v, cs) → y ≡ (left x.0, []) → y.0 ≡ left v
left_then {E} {J} {A} {T} x y v cs e f = at_view y (left x.0, []) f ∙ (λ i. let m : Mine E J A T = e i in left m.0)

module _ {E J A S T R : Type 0} (mean : Meaning E J A S T R) where
  -- the cell with one answer more told may be put back
  pub tells_one : (m n : Mine E J A T) (c d : Ledger E J A) → IsInside mean m c → told c ≡ m.0.heard → can_tell c ≡ true → d ≡ with_tell c
      → n ≡ carrying (record m.0 { tells = Some (m.0.heard + 1); heard = m.0.heard + 1 }) d → IsInside mean n d
  tells_one m n c d i heard can after is = let b : Ledger E J A = with_tell c in
      let P : Mine E J A T × Ledger E J A → Type 0 = λ z. IsInside mean z.0 z.1 in subst P (λ k. (sym (recarried _ _ _ _ is after) k, sym after k)) record {
        carried = refl;
        holds = i.holds;
        out = i.out;
        submissions = i.submissions;
        progress_is = i.progress_is;
        tells = let eq : m.0.heard + 1 ≡ told b = omega (arith, heard) in ap (λ z. Some z) eq;
        stop = i.stop;
        sized = sized_tell c i.sized can;
        sound = sound_tell mean m.0.plan c i.sound can;
      }

  -- the cell with one stop more told may be put back
  pub tells_stop : (m n : Mine E J A T) (c d : Ledger E J A) (u v : ℕ) → IsInside mean m c → told c ≡ m.0.heard → can_tell c ≡ true → d ≡ with_tell c
      → n ≡ carrying (record m.0 { tells = Some (m.0.heard + 1); heard = m.0.heard + 1; answered = false; stopped = u; stopped_at = v }) d → IsInside mean n d
  tells_stop m n c d u v i heard can after is = let b : Ledger E J A = with_tell c in
      let P : Mine E J A T × Ledger E J A → Type 0 = λ z. IsInside mean z.0 z.1 in subst P (λ k. (sym (recarried _ _ _ _ is after) k, sym after k)) record {
        carried = refl;
        holds = i.holds;
        out = i.out;
        submissions = i.submissions;
        progress_is = i.progress_is;
        tells = let eq : m.0.heard + 1 ≡ told b = omega (arith, heard) in ap (λ z. Some z) eq;
        stop = i.stop;
        sized = sized_tell c i.sized can;
        sound = sound_tell mean m.0.plan c i.sound can;
      }

  -- where an answer is told, one more told is still done
  pub level_told : (m : Mine E J A T) (c : Ledger E J A) → told c ≡ m.0.heard → c.told < c.done → (2 * (m.0.heard + 1) ≤ progress c) × (stop_code c.halt ≢ 0 → 2 * (m.0.heard + 1) + 2 ≤ progress c)
  level_told m c heard below = (omega arith, λ z. let one = stops_one c.halt z in omega arith)

  -- where a stop is set and no job is out, its progress
  pub stop_progress : (m : Mine E J A T) (c : Ledger E J A) (h : Halt) → IsInside mean m c → c.halt ≡ Some h → (m.0.progress ≡ Some (2 * c.done + 2)) × (m.0.stop ≡ Some (code_of h.stop))
  stop_progress m c h i stopped = let one : stops_of c.halt ≡ 1 = ap stops_of stopped in let home = out_none c.home (i.sized.home (ap is_some stopped)) in let p : progress c ≡ 2 * c.done + 2 = omega arith in
      (i.progress_is ∙ ap (λ z. Some z) p, i.stop ∙ ap (λ z. Some (stop_code z)) stopped)

  -- what settle answers
  pub settled : (v w : View E T) (m : Mine E J A T) (c : Ledger E J A) (it : Told E J A S T R) → IsInside mean m c → m.0 ≡ v → told c ≡ v.heard → TellsOutcome mean c it → KnowsStop mean v w it → Settles mean v w it
  settled v w m c it i is heard tells stop = record {
    outcome = λ p s js at named st. subst (λ k. IsOutcome mean s js k it) heard (told_is mean m.0.plan c it i.sound tells p s js (ap (λ (z : View E T). z.plan) is ∙ at) named st);
    stop = stop;
  }

  -- the stop that settle answers
  pub stop_told : (m : Mine E J A T) (w : View E T) (c : Ledger E J A) (j : J) (u : Stop) (before after : ℕ) → IsInside mean m c → told c ≡ m.0.heard → telling.Tells {S = S} {T = T} {R = R} c (Stopped j u before after)
      → (w.stopped ≡ code_of u) × (w.stopped_at ≡ c.done) → (m.0.answered ≡ true → code_of u ≢ 0 → m.0.heard ≤ c.done) → IsStop mean m.0 w j u before after
  stop_told m w c j u before after i heard t is exact = let place = is.1 in record {
    kind = is.0;
    place = omega (arith, t.0, heard, place);
    exact = λ a. let le = exact a (code_some u) in omega arith;
    rose = t.2;
    since = λ p at. since_is mean m.0.plan c (record { stop = u; before = before; after = after }) i.sound t.1 p at;
    behind = λ lt p s js at named st. behind_is mean m.0.plan c m.0.heard j i.sound (subst (λ k. slice_get c.jobs k ≡ Some j) heard (t.3 (omega (arith, heard, place)))) p s js at named st;
  }

module _ {E J A T : Type 0} where
  -- the seat after a tell was counted
  pub told_at : (x y : Mine E J A T) (v : View E T) (d : Ledger E J A) → x ≡ carrying v d → y ≡ (record x.0 { tells = Some (x.0.heard + 1); heard = x.0.heard + 1 }, x.1) → y ≡ carrying (record v { tells = Some (v.heard + 1); heard = v.heard + 1 }) d
  told_at x y v d e f = f ∙ (λ i. let m : Mine E J A T = e i in let w : Mine E J A T = (record m.0 { tells = Some (m.0.heard + 1); heard = m.0.heard + 1 }, m.1) in w)

  -- the seat after the tell of a stop was counted
  pub stopped_at : (x y : Mine E J A T) (v : View E T) (d : Ledger E J A) (h k : ℕ) → x ≡ carrying v d → y ≡ (record x.0 { tells = Some (x.0.heard + 1); heard = x.0.heard + 1; answered = false; stopped = h; stopped_at = k }, x.1)
      → y ≡ carrying (record v { tells = Some (v.heard + 1); heard = v.heard + 1; answered = false; stopped = h; stopped_at = k }) d
  stopped_at x y v d h k e f = f ∙ (λ i. let m : Mine E J A T = e i in let w : Mine E J A T = (record m.0 { tells = Some (m.0.heard + 1); heard = m.0.heard + 1; answered = false; stopped = h; stopped_at = k }, m.1) in w)

  -- what it learned then of the jobs told before
  pub exact_at : (x : Mine E J A T) (v : View E T) (d : Ledger E J A) (h k : ℕ) → x ≡ carrying v d → (x.0.answered ≡ true → h ≢ 0 → x.0.heard ≤ k) → v.answered ≡ true → h ≢ 0 → v.heard ≤ k
  exact_at x v d h k e f a z = subst (λ n. n ≤ k) (at_heard _ _ e) (f (at_answered _ _ e ∙ a) z)

-- the seat after an answer was told
pub told_then : {E J A T : Type 0} (x y z : Mine E J A T) (d : Ledger E J A) → y ≡ carrying (record x.0 { tells = Some (x.0.heard + 1); heard = x.0.heard + 1 }) d → z ≡ (left y.0, []) → TellsOne x z × ((z.0.stopped ≡ x.0.stopped) × (z.0.stopped_at ≡ x.0.stopped_at) × (z.0.answered ≡ x.0.answered))
told_then {E} {J} {A} {T} x y z d e f = let P : Mine E J A T → Type 0 = λ w. TellsOne x w × ((w.0.stopped ≡ x.0.stopped) × (w.0.stopped_at ≡ x.0.stopped_at) × (w.0.answered ≡ x.0.answered)) in
    subst P (sym (f ∙ (λ i. let m : Mine E J A T = e i in let w : Mine E J A T = (left m.0, []) in w))) (record { empty = refl; same = (refl, refl, refl, refl, refl, refl); rests = refl; home = refl; heard = refl }, (refl, refl, refl))

-- the seat after a stop was told
pub stopped_then : {E J A T : Type 0} (x y z : Mine E J A T) (d : Ledger E J A) (u v : ℕ) → y ≡ carrying (record x.0 { tells = Some (x.0.heard + 1); heard = x.0.heard + 1; answered = false; stopped = u; stopped_at = v }) d → z ≡ (left y.0, [])
    → TellsOne x z × ((z.0.stopped ≡ u) × (z.0.stopped_at ≡ v))
stopped_then {E} {J} {A} {T} x y z d u v e f = let P : Mine E J A T → Type 0 = λ w. TellsOne x w × ((w.0.stopped ≡ u) × (w.0.stopped_at ≡ v)) in
    subst P (sym (f ∙ (λ i. let m : Mine E J A T = e i in let w : Mine E J A T = (left m.0, []) in w))) (record { empty = refl; same = (refl, refl, refl, refl, refl, refl); rests = refl; home = refl; heard = refl }, (refl, refl))

-- the seat that has just taken the cell out
pub inside_is : {E J A S T R : Type 0} (mean : Meaning E J A S T R) (v : View E T) (m : Mine E J A T) (c : Ledger E J A) → m ≡ carrying (entered v c) c → IsSized c → IsFor mean v.plan c → IsInside mean m c
inside_is mean v m c is sized sound = subst (λ z. IsInside mean z c) (sym is) record { carried = refl; holds = refl; out = refl; submissions = refl; progress_is = refl; tells = refl; stop = refl; sized = sized; sound = sound }

-- the view before may be another that agrees
pub settles_too : {E J A S T R : Type 0} (mean : Meaning E J A S T R) (v v' w : View E T) (it : Told E J A S T R) → v'.plan ≡ v.plan → v'.heard ≡ v.heard → v'.stopped ≡ v.stopped → v'.stopped_at ≡ v.stopped_at → v'.answered ≡ v.answered → Settles mean v w it → Settles mean v' w it
settles_too {E} {J} {A} {S} {T} {R} mean v v' w it plan heard stopped stopped_at answered s = record {
  outcome = λ p x js at named st. subst (λ k. IsOutcome mean x js k it) (sym heard) (s.outcome p x js (sym plan ∙ at) named st);
  stop = knows it s.stop;
}
  where
    knows : (it : Told E J A S T R) → KnowsStop mean v w it → KnowsStop mean v' w it
    knows (Done j a) k = (k.0 ∙ sym stopped, k.1 ∙ sym stopped_at, k.2 ∙ sym answered)
    knows (Stopped job u before after) k = record {
      kind = k.kind;
      place = subst (λ n. w.stopped_at ≤ n) (sym heard) k.place;
      exact = λ a. subst (λ n. n ≤ w.stopped_at) (sym heard) (k.exact (sym answered ∙ a));
      rose = k.rose;
      since = λ p at. k.since p (sym plan ∙ at);
      behind = λ lt p x js at named st. subst (λ n. (t : T) × (slice_get js n ≡ Some t) × (mean.task job ≡ Some t)) (sym heard) (k.behind (subst (λ n. w.stopped_at < n) heard lt) p x js (sym plan ∙ at) named st);
    }

pub or_left : (a b : Bool) → a ≡ true → a || b ≡ true
or_left true b e = refl
or_left false b e = let no : false ≡ true = e in cc

pub at_hands : {E J A T : Type 0} (x y : Mine E J A T) → x ≡ y → x.0.hands ≡ y.0.hands
at_hands {E} {J} {A} {T} x y e = ap (λ (m : Mine E J A T). m.0.hands) e

pub last_too : {E J A S T R : Type 0} (mean : Meaning E J A S T R) (v w : View E T) (c : Ledger E J A) → v ≡ w → IsLast mean v c → IsLast mean w c
last_too mean v w c e l = subst (λ z. IsLast mean z c) e l

-- the submitter's view as the queue begins
pub begins_with : {E J A T : Type 0} (plan : Option (Agenda E T)) (c : Ledger E J A) (about : Start E T) (me : Mine E J A T) → me ≡ (first_view about, []) → about.plan.value ≡ plan → about.sent ≡ submitted c → about.heard ≡ told c
    → (told c ≤ c.done → about.answered ≡ true) → Begins plan c me.0
begins_with {E} {J} {A} {T} plan c about me is named sent heard answered = subst (λ (v : View E T). Begins plan c v) (sym (at_view me (first_view about, []) is))
    record { plan = named; sent_is = sent; heard_is = heard; hands_is = refl; answered = answered; stopped = refl }
