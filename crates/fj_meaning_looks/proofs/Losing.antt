-- Where a script stood in the run of the deck that was over in a stretch.
use Rattle.std.proofs.Common.{◌≡◌, ◌⊎◌, ℕ, zero, suc, Bool, List, Some, refl, sym, ap, ◌∙◌, subst, inl, inr}
use Rattle.std.specs.Prelude.{◌≢◌}
use Rattle.fj_slot.specs.Serving.{Meaning}
use Rattle.fj_world.specs.declared.ask.Ask.TheVariants.{Finished}
use Rattle.fj_world.specs.Conduct.{Conduct, Idle, IsDueAsk}
use Rattle.fj_world.specs.Losing.{SlotsHold, HasAsked, WasLost, before_ask}
use Rattle.fj_world.specs.Rack.{Rack}
use Rattle.fj_world.specs.Plain.{Plain, PlainSlot, asked_next, served, after}
use Rattle.fj_world.proofs.Runs.{after_next}
use Rattle.fj_bay.specs.Bay.{Bay}
use Rattle.fj_bay.specs.Jobs.{Job, Answer}
use Rattle.fj_meaning.specs.Statement.{Stated}
use Rattle.fj_meaning_turns.specs.Run.{Run}
use Rattle.fj_meaning_turns.specs.Serving.{over_bays, Shows, run_conduct}
use Rattle.fj_meaning_looks.specs.Looking.{stretch_conduct}
use Rattle.fj_meaning_looks.specs.Losing.{WasLostIn, LossesFollow}
use Rattle.fj_meaning_looks.specs.Stretches.{with_rest, stretch, Follows}
use Rattle.fj_meaning_looks.proofs.Putting.{asks_follow}

module _ {S G J A P T R : Type 0} (m : Meaning G J A P T R) (c : Conduct S T R) where
  -- what has not finished has asked before
  has_asked : (n : ℕ) (s : c.State) (qs : List (PlainSlot P T)) → (after m c n (asked_next m c s qs)).hand ≢ Finished → HasAsked m c n s qs
  has_asked zero s qs some = tt
  has_asked (suc n) s qs some = λ e.
      let p : Plain P c = after m c n (asked_next m c s qs) in
      some (ap (λ (q : Plain P c). q.hand) (after_next m c n (asked_next m c s qs) ∙ ap (λ a. served m c a p) e) ∙ e)

-- where a script was over in the run itself, no statement is passed before
pub lost_at : {E J A S : Type 0} (m : Meaning E J A Bay Job Answer) (s : Shows S) (first : Run) (qs0 : List (PlainSlot Bay Job)) (deck : List Stated) (began last : S) (rack : Rack E J A)
    → WasLost (over_bays m) (run_conduct s) (with_rest deck first) qs0 began last rack → WasLostIn m s first qs0 deck began last rack
lost_at m s first qs0 deck began last rack w = record {
  script = w.call.before;
  gone = w.call.gone;
  led = w.call.led;
  going = w.call.going;
  leads = w.call.leads;
  over = w.call.over;
  rests = w.call.rests;
  asks = w.asks;
  at = (before_ask (over_bays m) (run_conduct s) w.asks (with_rest deck first) qs0).0;
  count = 0;
  passed = refl;
  stood = w.call.stood;
  slots = w.slots;
}

module _ {E J A S : Type 0} (m : Meaning E J A Bay Job Answer) (s : Shows S) (looks : Stated → Run → Bool) where
  pub losses_follow : LossesFollow m s looks
  losses_follow first qs0 deck r qs began last rack b w = by w.call.stood
    where
      lost : Follows m s looks first qs0 deck r qs w.asks
          → (((s.state w.call.before ≡ Some (before_ask (over_bays m) (stretch_conduct looks s) w.asks r qs).0) × (s.due w.call.before ≡ Idle))
          ⊎ (((stretch m s looks w.asks r qs).hand ≢ Finished) × (s.state w.call.before ≡ Some (stretch m s looks w.asks r qs).script) × IsDueAsk (s.due w.call.before) (stretch m s looks w.asks r qs).hand))
          → WasLostIn m s first qs0 deck began last rack
      lost f stood = record {
        script = w.call.before;
        gone = w.call.gone;
        led = w.call.led;
        going = w.call.going;
        leads = w.call.leads;
        over = w.call.over;
        rests = w.call.rests;
        asks = f.entries;
        at = (before_ask (over_bays m) (stretch_conduct looks s) w.asks r qs).0;
        count = f.count;
        passed = f.passed;
        stood = elim stood [
          | inl y ↦ inl (f.has_asked, y.0, y.1)
          | inr y ↦ inr (subst (λ (x : Plain Bay (run_conduct s)). (x.hand ≢ Finished) × (s.state w.call.before ≡ Some x.script) × IsDueAsk (s.due w.call.before) x.hand) (sym (f.asks (λ e. absurd (y.0 e)))) y)
        ];
        slots = subst (λ l. SlotsHold (over_bays m) l rack) (sym f.slots) w.slots;
      }

      by : ((HasAsked (over_bays m) (stretch_conduct looks s) w.asks r qs × (s.state w.call.before ≡ Some (before_ask (over_bays m) (stretch_conduct looks s) w.asks r qs).0) × (s.due w.call.before ≡ Idle))
          ⊎ (((stretch m s looks w.asks r qs).hand ≢ Finished) × (s.state w.call.before ≡ Some (stretch m s looks w.asks r qs).script) × IsDueAsk (s.due w.call.before) (stretch m s looks w.asks r qs).hand))
          → WasLostIn m s first qs0 deck began last rack
      by (inl y) = lost (asks_follow m s looks first qs0 deck r qs b w.asks y.0) (inl (y.1, y.2))
      by (inr y) = lost (asks_follow m s looks first qs0 deck r qs b w.asks (has_asked (over_bays m) (stretch_conduct looks s) w.asks r qs y.0)) (inr y)
