-- Another statement is put in the place of a look, and the stretches end.
use Rattle.std.proofs.Common.{◌≡◌, ◌⊎◌, ℕ, zero, suc, ◌+◌, Bool, true, false, List, [], ◌∷◌, ◌++◌, Option, Some, None, is_some, length, drop, slice_get, refl, sym, ap, ◌∙◌, subst, inl, inr, arith, append_assoc, length-append, length-drop}
use Rattle.std.specs.Prelude.{slice_set}
use Rattle.fj_slot.specs.Serving.{Meaning}
use Rattle.fj_slot.specs.Sound.{outcome}
use Rattle.fj_world.specs.declared.ask.Ask.{Ask}
use Rattle.fj_world.specs.declared.ask.Ask.TheVariants.{Submit, Settle, Finished}
use Rattle.fj_world.specs.Losing.{given_number, given_reply, given_outcome, answered, before_ask}
use Rattle.fj_world.specs.Plain.{Plain, PlainSlot}
use Rattle.fj_bay.specs.Bay.{Bay}
use Rattle.fj_bay.specs.Jobs.{Job, Answer}
use Rattle.fj_meaning.specs.Statement.{Stated}
use Rattle.fj_meaning_jobs.specs.Desks.{Outcome}
use Rattle.fj_meaning_turns.specs.Run.{Run}
use Rattle.fj_meaning_turns.specs.Serving.{over_bays, Shows, run_conduct}
use Rattle.fj_meaning_looks.specs.Looking.{stretch_conduct}
use Rattle.fj_meaning_looks.specs.Stretches.{with_rest, IsOver, runs, before, Joins, Between, StretchesBegin, stretch, as_run, ToLook, IsWhole, MarksGoOn, IsAtNone, EndsAreWhole, AsksFollow}
use Rattle.fj_meaning_looks.proofs.Entries.{runs_join, before_join, asked_join, joins_then, each}

-- with statements left and no ending it is not over
going : (r : Run) (st : Stated) (behind : List Stated) → r.ending ≡ None → r.rest ≡ st ∷ behind → IsOver r → ⊥
going r st behind none rest (inl e) = let z : true ≡ false = sym e ∙ ap is_some none in cc
going r st behind none rest (inr e) = let z : [] ≡ st ∷ behind = sym e ∙ rest in cc

-- the place of the first one behind these
place_is : (front : List Stated) (st : Stated) (behind : List Stated) (place : ℕ) → drop place (front ++ st ∷ behind) ≡ st ∷ behind → place ≡ length front
place_is front st behind place e =
    let long : length (drop place (front ++ st ∷ behind)) ≡ length (st ∷ behind) = ap length e in
    omega (arith, long, length-drop place (front ++ st ∷ behind), length-append front (st ∷ behind))

put_is : (front : List Stated) (st : Stated) (behind : List Stated) (mark : Stated) → slice_set (front ++ st ∷ behind) (length front) mark ≡ front ++ mark ∷ behind
put_is [] st behind mark = refl
put_is (x ∷ front) st behind mark = ap (λ k. x ∷ k) (put_is front st behind mark)

drop_is : (front l : List Stated) → drop (length front) (front ++ l) ≡ l
drop_is [] l = refl
drop_is (x ∷ front) l = drop_is front l

pub stretches_begin : {E J A S : Type 0} (m : Meaning E J A Bay Job Answer) (s : Shows S) → StretchesBegin m s
stretches_begin m s first qs0 = record { front = []; whole = refl; entries = 0; gone = λ k. record { asks = refl; has_asked = tt; count = 0; passed = refl; slots = refl } }

module _ {E J A S : Type 0} (m : Meaning E J A Bay Job Answer) (s : Shows S) (looks : Stated → Run → Bool) where
  pub marks_go_on : MarksGoOn m s looks
  marks_go_on first qs0 deck r qs b n place st behind mark finished none rest at = by (each m s looks r qs n)
    where
      by : ToLook m s looks r qs (stretch m s looks n r qs) ⊎ IsWhole m s looks r qs n (stretch m s looks n r qs)
          → let x = stretch m s looks n r qs in let put = slice_set deck place mark in Between m s first qs0 put (with_rest (drop place put) x.script) x.slots
      by (inr w) = absurd (going (stretch m s looks n r qs).script st behind none rest (w.over finished))
      by (inl g) =
          let x = stretch m s looks n r qs in
          let front : List Stated = b.front ++ g.front in
          let deck_is : deck ≡ front ++ st ∷ behind = b.whole ∙ ap (λ k. b.front ++ k) (g.rest ∙ ap (λ k. g.front ++ k) rest) ∙ sym (append_assoc b.front g.front (st ∷ behind)) in
          let here : place ≡ length front = place_is front st behind place (ap (drop place) (sym deck_is) ∙ at) in
          let put : slice_set deck place mark ≡ front ++ mark ∷ behind = ap (λ k. slice_set k place mark) deck_is ∙ ap (λ i. slice_set (front ++ st ∷ behind) i mark) here ∙ put_is front st behind mark in
          record {
            front = front;
            whole = put ∙ ap (λ k. front ++ k) (sym (ap (drop place) put ∙ ap (λ i. drop i (front ++ mark ∷ behind)) here ∙ drop_is front (mark ∷ behind)));
            entries = b.entries + g.entries;
            gone = λ k.
                subst (λ l. Joins m s (b.entries + g.entries) (with_rest l first) qs0 (with_rest k x.script) x.slots) (sym (append_assoc b.front g.front k))
                (joins_then m s b.entries g.entries (with_rest (b.front ++ (g.front ++ k)) first) (with_rest (g.front ++ k) r) (with_rest k x.script) qs0 qs x.slots (b.gone (g.front ++ k)) (g.gone k));
          }

  -- where it is at no look it is the runner itself
  whole_at : (r : Run) (qs : List (PlainSlot Bay Job)) (n : ℕ) → IsAtNone m s looks (stretch m s looks n r qs) → runs m s n r qs ≡ as_run m s looks (stretch m s looks n r qs)
  whole_at r qs n over = by (each m s looks r qs n)
    where
      by : ToLook m s looks r qs (stretch m s looks n r qs) ⊎ IsWhole m s looks r qs n (stretch m s looks n r qs) → runs m s n r qs ≡ as_run m s looks (stretch m s looks n r qs)
      by (inl g) = absurd (going (stretch m s looks n r qs).script g.look.statement g.look.behind g.look.ending g.look.rest (over g.finished))
      by (inr w) = w.same

  -- all that is gone, and what is left
  joined : (first : Run) (qs0 : List (PlainSlot Bay Job)) (deck : List Stated) (r : Run) (qs : List (PlainSlot Bay Job)) → (b : Between m s first qs0 deck r qs) → Joins m s b.entries (with_rest deck first) qs0 r qs
  joined first qs0 deck r qs b = subst (λ l. Joins m s b.entries (with_rest l first) qs0 r qs) (sym b.whole) (b.gone r.rest)

  pub ends_are_whole : EndsAreWhole m s looks
  ends_are_whole first qs0 deck r qs b n over = (b.entries + n, runs_join m s b.entries n (with_rest deck first) r qs0 qs (joined first qs0 deck r qs b).asks ∙ whole_at r qs n over)

  -- the same answer to both
  answered_both : (ask : Ask Job) (x : Plain Bay (stretch_conduct looks s)) → answered (over_bays m) (run_conduct s) ask (as_run m s looks x) ≡ answered (over_bays m) (stretch_conduct looks s) ask x
  answered_both Finished x = refl
  answered_both (Submit slot job) x = by (slice_get x.slots slot)
    where
      by : (o : Option (PlainSlot Bay Job)) → given_number (over_bays m) (run_conduct s) o slot job (as_run m s looks x) ≡ given_number (over_bays m) (stretch_conduct looks s) o slot job x
      by None = refl
      by (Some q) = refl
  answered_both (Settle slot) x = by (slice_get x.slots slot)
    where
      told : (o : Option Outcome) (q : PlainSlot Bay Job) → given_reply (over_bays m) (run_conduct s) o q slot (as_run m s looks x) ≡ given_reply (over_bays m) (stretch_conduct looks s) o q slot x
      told None q = refl
      told (Some o) q = refl

      by : (o : Option (PlainSlot Bay Job)) → given_outcome (over_bays m) (run_conduct s) o slot (as_run m s looks x) ≡ given_outcome (over_bays m) (stretch_conduct looks s) o slot x
      by None = refl
      by (Some q) = told (outcome (over_bays m) q.start q.jobs q.told) q

  pub asks_follow : AsksFollow m s looks
  asks_follow first qs0 deck r qs b zero asked =
      let j = joined first qs0 deck r qs b in
      record { entries = b.entries; has_asked = j.has_asked; count = j.count; passed = j.passed; slots = j.slots; asks = λ over. j.asks ∙ whole_at r qs 0 over }
  asks_follow first qs0 deck r qs b (suc n) asked =
      let j = joined first qs0 deck r qs b in
      let x = stretch m s looks n r qs in
      let whole = whole_at r qs n (λ e. absurd (asked e)) in
      let same : before m s (b.entries + suc n) (with_rest deck first) qs0 ≡ before_ask (over_bays m) (stretch_conduct looks s) (suc n) r qs =
      before_join m s b.entries n (with_rest deck first) r qs0 qs j.asks ∙ ap (λ y. answered (over_bays m) (run_conduct s) y.hand y) whole ∙ answered_both x.hand x in
      record {
        entries = b.entries + suc n;
        has_asked = asked_join m s b.entries n (with_rest deck first) r qs0 qs j.asks (λ f. asked (sym (ap (λ (y : Plain Bay (run_conduct s)). y.hand) whole) ∙ f));
        count = 0;
        passed = ap (λ y. Some y.0) same;
        slots = ap (λ y. y.1) same;
        asks = λ over. runs_join m s b.entries (suc n) (with_rest deck first) r qs0 qs j.asks ∙ whole_at r qs (suc n) over;
      }
