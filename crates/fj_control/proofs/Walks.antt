-- The walker's turns.
use Rattle.std.proofs.Common.{ℕ, zero, suc, ◌+◌, ◌-◌, ◌*◌, ◌≡◌, ◌≤◌, ◌<◌, List, [], ◌∷◌, ◌++◌, length, drop, get_or, refl, sym, subst, ap, ◌∙◌, arith, append_assoc, append-nil, add-one, vec_capacity}
use Rattle.std.proofs.lemmas.List.{drop_all, length-append}
use Rattle.fj_format.specs.declared.item.FormatItem.{FormatItem}
use Rattle.fj_format.specs.Unfolding.{Elementary, Steps, repeated, pass, written_out, height, height_step, work, work_step}
use Rattle.fj_format.proofs.UnfoldingLaws.{written_out-Group, written_out-Unlimited, height-Group, height-Unlimited, work-Group, work-Unlimited, work-positive}
use Rattle.fj_format.proofs.DataLemmas.{pass-drop}
use Rattle.fj_format.specs.declared.item.FormatItem.TheVariants as item
use Rattle.fj_control.specs.declared.walker.Repeat.{Repeat}
use Rattle.fj_format.specs.declared.item.FormatItem.TheFolds.{fold-FormatItem}
use Rattle.fj_control.specs.declared.walker.Frame.{Frame}
use Rattle.fj_control.specs.Walker.{frame_rest, outer_rest, frame_work, outer_work, HaveRoom, stack, rest_of, work_of, repeated_step, IsSound, KeepsRoom, Moved}
use Rattle.fj_control.specs.declared.walker.Walker.{Walker}
use Rattle.std.proofs.Common.{Bor}

-- ---- the outer lists

pub outer_rest-snoc : (fs : List Frame) (f : Frame) → outer_rest (fs ++ f ∷ []) ≡ frame_rest f ++ outer_rest fs
outer_rest-snoc [] f = sym (append-nil (frame_rest f))
outer_rest-snoc (g ∷ gs) f = ap (λ l. l ++ frame_rest g) (outer_rest-snoc gs f) ∙ append_assoc (frame_rest f) (outer_rest gs) (frame_rest g)

pub outer_work-snoc : (fs : List Frame) (f : Frame) → outer_work (fs ++ f ∷ []) ≡ frame_work f + outer_work fs
outer_work-snoc [] f = omega arith
outer_work-snoc (g ∷ gs) f = omega (arith, outer_work-snoc gs f)

pub HaveRoom-snoc : (most n : ℕ) (fs : List Frame) (f : Frame) → HaveRoom most n fs → (n + length fs) + height f.items.now ≤ most → HaveRoom most n (fs ++ f ∷ [])
HaveRoom-snoc most n [] f h e = (omega arith, tt)
HaveRoom-snoc most n (g ∷ gs) f h e = (h.0, HaveRoom-snoc most (suc n) gs f h.1 (omega arith))

pub HaveRoom-front : (most n : ℕ) (fs : List Frame) (f : Frame) → HaveRoom most n (fs ++ f ∷ []) → HaveRoom most n fs × ((n + length fs) + height f.items.now ≤ most)
HaveRoom-front most n [] f h = (tt, omega (arith, h.0))
HaveRoom-front most n (g ∷ gs) f h = let k = HaveRoom-front most (suc n) gs f h.1 in ((h.0, k.0), omega (arith, k.1))

-- ---- one list

work-drop_suc : (at : ℕ) (xs : List FormatItem) (x : FormatItem) → at < length xs → x ≡ get_or xs at x → work (drop at xs) ≡ fold-FormatItem ℕ work_step x + work (drop (suc at) xs)
work-drop_suc zero [] x h e = absurd (omega arith)
work-drop_suc zero (y ∷ xs) x h e = ap (λ z. fold-FormatItem ℕ work_step z + work xs) (sym e)
work-drop_suc (suc n) [] x h e = absurd (omega arith)
work-drop_suc (suc n) (y ∷ xs) x h e = work-drop_suc n xs x (omega arith) e

pub height-at : (at : ℕ) (xs : List FormatItem) (x : FormatItem) → at < length xs → x ≡ get_or xs at x → fold-FormatItem ℕ height_step x ≤ height xs
height-at zero [] x h e = absurd (omega arith)
height-at zero (y ∷ xs) x h e = let k : fold-FormatItem ℕ height_step x ≡ fold-FormatItem ℕ height_step y = ap (fold-FormatItem ℕ height_step) e in omega arith
height-at (suc n) [] x h e = absurd (omega arith)
height-at (suc n) (y ∷ xs) x h e = let k : fold-FormatItem ℕ height_step x ≤ height xs = height-at n xs x (omega arith) e in omega arith

pub work-drop : (at : ℕ) (xs : List FormatItem) (x : FormatItem) → at < length xs → x ≡ get_or xs at x → work (drop at xs) ≡ fold-FormatItem ℕ work_step x + work (drop (at + 1) xs)
work-drop at xs x h e = subst (λ n. work (drop at xs) ≡ fold-FormatItem ℕ work_step x + work (drop n xs)) (sym (add-one at)) (work-drop_suc at xs x h e)

-- ---- the walker

abbrev in_order : Frame → List Frame → Steps
in_order f fs = frame_rest f ++ outer_rest fs

rest_at_item : (w : Walker) → w.times ≡ 0 → rest_of w ≡ in_order w.top (stack w)
rest_at_item w e = ap (λ n. repeated n (repeated_step w.repeat ∷ []) ++ in_order w.top (stack w)) e

pub rest_entered : (w w' : Walker) (items : Bor (List FormatItem)) (left : ℕ) → w.times ≡ 0 → w'.times ≡ w.times →
    w'.top ≡ record { items = items; at = 0; left = left } → stack w' ≡ stack w ++ w.top ∷ [] →
    rest_of w' ≡ repeated (suc left) (pass items.now) ++ rest_of w
rest_entered w w' items left z t f o =
    rest_at_item w' (t ∙ z) ∙ ap (λ g. in_order g (stack w')) f
    ∙ ap (λ l. (pass items.now ++ repeated left (pass items.now)) ++ l)
    (ap outer_rest o ∙ outer_rest-snoc (stack w) w.top ∙ sym (rest_at_item w z))

pub work_entered : (w w' : Walker) (items : Bor (List FormatItem)) (left : ℕ) →
    w'.top ≡ record { items = items; at = 0; left = left } → stack w' ≡ stack w ++ w.top ∷ [] →
    work_of w' ≡ (suc left) * (work items.now + 1) + work_of w
work_entered w w' items left f o =
    let e : work_of w' ≡ ((work items.now + left * (work items.now + 1)) + 1) + (frame_work w.top + outer_work (stack w)) =
    ap (λ g. frame_work g + outer_work (stack w')) f
    ∙ ap (λ n. ((work items.now + left * (work items.now + 1)) + 1) + n) (ap outer_work o ∙ outer_work-snoc (stack w) w.top) in
    omega arith

pub sound_entered : (w w' : Walker) (items : Bor (List FormatItem)) (left : ℕ) → IsSound w → (length (stack w) + 1) + height items.now ≤ vec_capacity w.outer →
    w'.top ≡ record { items = items; at = 0; left = left } → stack w' ≡ stack w ++ w.top ∷ [] → KeepsRoom w w' → IsSound w'
sound_entered w w' items left s room f o same = record {
  top =
      (let e : height w'.top.items.now ≡ height items.now = ap (λ (g : Frame). height g.items.now) f in
      let n : length (stack w') ≡ length (stack w) + 1 = ap length o ∙ length-append (stack w) (w.top ∷ []) in
      omega (arith, e, n, same, room));
  outer = subst (λ n. HaveRoom n 0 (stack w')) (sym same) (subst (HaveRoom (vec_capacity w.outer) 0) (sym o)
      (HaveRoom-snoc (vec_capacity w.outer) 0 (stack w) w.top s.outer (omega (arith, s.top))));
}

-- the walker behind its item
abbrev pub behind : Walker → Walker
behind w = record { times = w.times; repeat = w.repeat; top = record { items = w.top.items; at = w.top.at + 1; left = w.top.left }; outer = w.outer }

-- what is known of the item at hand
pub record IsAt (w : Walker) (x : FormatItem) : Type 0 where
  pub times : w.times ≡ 0
  pub within : w.top.at < length w.top.items.now
  pub here : x ≡ get_or w.top.items.now w.top.at x

rest_at : (w : Walker) (x : FormatItem) → IsAt w x → rest_of w ≡ written_out x ++ in_order (behind w).top (stack w)
rest_at w x h =
    let a = written_out x in
    let b = pass (drop (w.top.at + 1) w.top.items.now) in
    let c = repeated w.top.left (pass w.top.items.now) in
    let d = outer_rest (stack w) in
    rest_at_item w h.times ∙ ap (λ l. (l ++ c) ++ d) (pass-drop w.top.at w.top.items.now x h.within h.here)
    ∙ ap (λ l. l ++ d) (append_assoc a b c) ∙ append_assoc a (b ++ c) d

pub work_at : (w : Walker) (x : FormatItem) → IsAt w x → work_of w ≡ fold-FormatItem ℕ work_step x + work_of (behind w)
work_at w x h = omega (arith, work-drop w.top.at w.top.items.now x h.within h.here)

pub one_step : (w : Walker) (x y : FormatItem) (e : Elementary) → IsAt w x → x ≡ y → written_out y ≡ e ∷ [] → rest_of w ≡ e ∷ rest_of (behind w)
one_step w x y e h k o =
    rest_at w x h ∙ ap (λ l. l ++ in_order (behind w).top (stack w)) (ap written_out k ∙ o) ∙ ap (λ l. e ∷ l) (sym (rest_at_item (behind w) h.times))

pub many_steps : (w : Walker) (x y : FormatItem) (r : ℕ) (q : Repeat) → IsAt w x → x ≡ y → written_out y ≡ repeated r (repeated_step q ∷ []) →
    (rest_of (record (behind w) { times = r; repeat = q }) ≡ rest_of w) × (work_of (record (behind w) { times = r; repeat = q }) < work_of w)
many_steps w x y r q h k o = (
  sym (rest_at w x h ∙ ap (λ l. l ++ in_order (behind w).top (stack w)) (ap written_out k ∙ o)),
  (let e = work_at w x h in let p = work-positive x in omega (arith, e, p)),
)

pub group_room : (w : Walker) (x : FormatItem) (r : ℕ) (xs : List FormatItem) → IsSound w → IsAt w x → x ≡ item.Group r xs → (length (stack w) + 1) + height xs ≤ vec_capacity w.outer
group_room w x r xs s h k =
    let e : fold-FormatItem ℕ height_step x ≡ height xs + 1 = ap (fold-FormatItem ℕ height_step) k ∙ height-Group r xs in
    omega (arith, s.top, height-at w.top.at w.top.items.now x h.within h.here)

pub group_moved : (w w' : Walker) (x : FormatItem) (r : ℕ) (xs : List FormatItem) → IsAt w x → x ≡ item.Group r xs →
    rest_of w' ≡ repeated r (pass xs) ++ rest_of (behind w) → work_of w' ≤ r * (work xs + 1) + work_of (behind w) →
    (rest_of w' ≡ rest_of w) × (work_of w' < work_of w)
group_moved w w' x r xs h k a b = (
  a ∙ ap (λ l. repeated r (pass xs) ++ l) (rest_at_item (behind w) h.times) ∙ sym (rest_at w x h ∙ ap (λ l. l ++ in_order (behind w).top (stack w)) (ap written_out k ∙ written_out-Group r xs)),
  (let e : fold-FormatItem ℕ work_step x ≡ 1 + r * (work xs + 1) = ap (fold-FormatItem ℕ work_step) k ∙ work-Group r xs in
      let f = work_at w x h in omega (arith, e, f, b)),
)

-- the unlimited item is walked as a group that stands once
pub unlimited_room : (w : Walker) (x : FormatItem) (xs : List FormatItem) → IsSound w → IsAt w x → x ≡ item.Unlimited xs → (length (stack w) + 1) + height xs ≤ vec_capacity w.outer
unlimited_room w x xs s h k =
    let e : fold-FormatItem ℕ height_step x ≡ height xs + 1 = ap (fold-FormatItem ℕ height_step) k ∙ height-Unlimited xs in
    omega (arith, s.top, height-at w.top.at w.top.items.now x h.within h.here)

pub unlimited_moved : (w w' : Walker) (x : FormatItem) (xs : List FormatItem) → IsAt w x → x ≡ item.Unlimited xs →
    rest_of w' ≡ repeated 1 (pass xs) ++ rest_of (behind w) → work_of w' ≤ 1 * (work xs + 1) + work_of (behind w) →
    (rest_of w' ≡ rest_of w) × (work_of w' < work_of w)
unlimited_moved w w' x xs h k a b = (
  a ∙ ap (λ l. (l ++ rest_of (behind w))) (append-nil (pass xs)) ∙ ap (λ l. pass xs ++ l) (rest_at_item (behind w) h.times)
      ∙ sym (rest_at w x h ∙ ap (λ l. l ++ in_order (behind w).top (stack w)) (ap written_out k ∙ written_out-Unlimited xs)),
  (let e : fold-FormatItem ℕ work_step x ≡ 1 + (work xs + 1) = ap (fold-FormatItem ℕ work_step) k ∙ work-Unlimited xs in
      let f = work_at w x h in omega (arith, e, f, b)),
)

pub sound_behind : (w : Walker) → IsSound w → IsSound (behind w)
sound_behind w s = record { top = s.top; outer = s.outer }

-- ---- at the end of a list

-- the walker at the start of its list again
abbrev pub anew : Walker → Walker
anew w = record { times = w.times; repeat = w.repeat; top = record { items = w.top.items; at = 0; left = w.top.left - 1 }; outer = w.outer }

repeated-less : (n : ℕ) (s : Steps) → 0 < n → repeated n s ≡ s ++ repeated (n - 1) s
repeated-less zero s h = absurd (omega arith)
repeated-less (suc n) s h = ap (λ m. s ++ repeated m s) (let e : n ≡ suc n - 1 = omega arith in e)

pub again_moved : (w : Walker) → IsSound w → w.times ≡ 0 → length w.top.items.now ≤ w.top.at → 0 < w.top.left → Moved w (anew w)
again_moved w s z e l =
    let gone : drop w.top.at w.top.items.now ≡ [] = drop_all w.top.at w.top.items.now e in
    record {
      rest = rest_at_item (anew w) z ∙ ap (λ l. l ++ outer_rest (stack w)) (sym (repeated-less w.top.left (pass w.top.items.now) l))
          ∙ sym (rest_at_item w z ∙ ap (λ xs. (pass xs ++ repeated w.top.left (pass w.top.items.now)) ++ outer_rest (stack w)) gone);
      work =
          (let f : work (drop w.top.at w.top.items.now) ≡ 0 = ap work gone in
          let g : w.top.left * (work w.top.items.now + 1) ≡ (work w.top.items.now + 1) + (w.top.left - 1) * (work w.top.items.now + 1) = times_less w.top.left (work w.top.items.now + 1) l in
          omega (arith, f, g));
      sound = record { top = s.top; outer = s.outer };
      times = z;
      room = refl;
    }
  where
    times_less : (n k : ℕ) → 0 < n → n * k ≡ k + (n - 1) * k
    times_less zero k h = absurd (omega arith)
    times_less (suc n) k h = (let e : suc n - 1 ≡ n = omega arith in rw e (omega arith))

pub above_moved : (w w' : Walker) (f : Frame) → IsSound w → w.times ≡ 0 → length w.top.items.now ≤ w.top.at → w.top.left ≡ 0 →
    w'.times ≡ w.times → w'.top ≡ f → stack w ≡ stack w' ++ f ∷ [] → KeepsRoom w w' → Moved w w'
above_moved w w' f s z e l t up st same =
    let gone : drop w.top.at w.top.items.now ≡ [] = drop_all w.top.at w.top.items.now e in
    let most = vec_capacity w.outer in
    let room = HaveRoom-front most 0 (stack w') f (subst (HaveRoom most 0) st s.outer) in
    record {
      rest = rest_at_item w' (t ∙ z) ∙ ap (λ g. in_order g (stack w')) up ∙ sym (
          rest_at_item w z
          ∙ ap (λ xs. (pass xs ++ repeated w.top.left (pass w.top.items.now)) ++ outer_rest (stack w)) gone
          ∙ ap (λ n. repeated n (pass w.top.items.now) ++ outer_rest (stack w)) l
          ∙ ap outer_rest st ∙ outer_rest-snoc (stack w') f);
      work =
          (let a : work (drop w.top.at w.top.items.now) ≡ 0 = ap work gone in
          let b : outer_work (stack w) ≡ frame_work f + outer_work (stack w') = ap outer_work st ∙ outer_work-snoc (stack w') f in
          let d : frame_work w'.top ≡ frame_work f = ap frame_work up in
          omega (arith, a, b, d));
      sound = record {
        top = (let d : height w'.top.items.now ≡ height f.items.now = ap (λ (g : Frame). height g.items.now) up in omega (arith, d, same, room.1));
        outer = subst (λ n. HaveRoom n 0 (stack w')) (sym same) room.0;
      };
      times = t ∙ z;
      room = same;
    }
