use Rattle.std.proofs.Common.{◌≡◌, [], ◌∷◌, ◌++◌, map, append_assoc, sym, ap, ◌∙◌}
use Rattle.fj_store.specs.Storage.{values_of}
use Rattle.fj_meaning.specs.Telling.{with_inputs, condition_of, graver, tell_of}
use Rattle.fj_run_pending.specs.Plain.{entry_of, entries, tells_of}
use Rattle.fj_run_pending.proofs.Giving.{graver_joins}
use Rattle.fj_run_pending.proofs.deliver.deliver.Goals as goal

pub loop-held-preserved : goal.loop-held-preserved
loop-held-preserved c =
    let popped : c.loop-held.left.items ≡ c.in-Some.held ∷ c.pop_front.new.self.items = c.in-Some.ensures.items in
    record {
      kinds = c.in_ok-next.ensures.kinds ∙ c.loop-held.invariant.kinds;
      values = λ variables are.
          ap (with_inputs variables (entries c.pop_front.new.self.items)) (c.in_ok-next.ensures.values variables (c.loop-held.invariant.kinds ∙ are))
          ∙ ap (λ l. with_inputs variables (entries l) (values_of c.loop-held.store)) (sym popped) ∙ c.loop-held.invariant.values variables are;
      condition = ap (λ k. graver k (condition_of (entries c.pop_front.new.self.items))) (c.graver-condition.ensures ∙ ap (graver c.loop-held.condition) c.in_ok-next.ensures.condition)
          ∙ graver_joins c.loop-held.condition (entry_of c.in-Some.held).condition (condition_of (entries c.pop_front.new.self.items))
          ∙ ap (λ l. graver c.loop-held.condition (condition_of (entries l))) (sym popped) ∙ c.loop-held.invariant.condition;
      tells = ap (λ l. l ++ map (tell_of c.args.line) (entries c.pop_front.new.self.items)) c.in_ok-next.ensures.tells
          ∙ append_assoc (tells_of c.loop-held.tells) (tell_of c.args.line (entry_of c.in-Some.held) ∷ []) (map (tell_of c.args.line) (entries c.pop_front.new.self.items))
          ∙ ap (λ l. tells_of c.loop-held.tells ++ map (tell_of c.args.line) (entries l)) (sym popped) ∙ c.loop-held.invariant.tells;
    }
