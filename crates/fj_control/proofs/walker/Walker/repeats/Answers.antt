use Rattle.std.proofs.Common.{◌≡◌, ℕ, zero, suc, ◌-◌, ◌≤◌, [], ◌∷◌, ◌++◌, sym, ap, ◌∙◌, arith, append_assoc}
use Rattle.fj_format.specs.Unfolding.{Steps, repeated}
use Rattle.fj_control.specs.Walker.{repeated_step, frame_rest, outer_rest, stack}
use Rattle.fj_control.proofs.walker.Walker.repeats.Goals as goal

cut : (s : Steps) (k n : ℕ) → k ≤ n → repeated n s ≡ repeated k s ++ repeated (n - k) s
cut s zero n h = let same : n - 0 ≡ n = omega arith in ap (λ m. repeated m s) (sym same)
cut s (suc k) zero h = absurd (omega arith)
cut s (suc k) (suc n) h =
    let same : suc n - suc k ≡ n - k = omega arith in
    ap (λ l. s ++ l) (cut s k n (omega arith)) ∙ sym (append_assoc s (repeated k s) (repeated (n - k) s)) ∙ ap (λ m. (s ++ repeated k s) ++ repeated m s) (sym same)

pub returns-in-Edit-clause-some : goal.returns-in-Edit-clause-some
returns-in-Edit-clause-some c =
    let w = c.args.self.now in
    let rest = frame_rest w.top ++ outer_rest (stack w) in
    let count = c.min-count.result in
    let few : count ≤ w.times = omega arith in
    let step = repeated_step w.repeat in
    ap (λ l. l ++ rest) (cut (step ∷ []) count w.times few)
    ∙ append_assoc (repeated count (step ∷ [])) (repeated (w.times - count) (step ∷ [])) rest
    ∙ ap (λ x. repeated count (x ∷ []) ++ (repeated (w.times - count) (step ∷ []) ++ rest)) (ap repeated_step c.in-Edit.is)
