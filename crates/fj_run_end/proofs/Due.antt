-- What is due of each file, where something may be lost.
use Rattle.std.proofs.Common.{◌≡◌, ◌≢◌, ◌⊎◌, ℕ, ◌==◌, ◌≤◌, Bool, true, false, not, List, [], ◌∷◌, nat_lt, Some, None, Option, IfSome, slice_get, Result, Ok, Err, OnOk, OnErr, IsOk, if◌then◌else◌, inl, inr, refl, sym, ap, ◌∙◌, subst, arith}
use Rattle.std.proofs.lemmas.Grind.{common_steps}
use Rattle.std.proofs.lemmas.Slice.Eq.{bytes_eq-Decides}
use Rattle.std.specs.FinSet as set
use Rattle.std.specs.Str.{bytes_eq}
use Rattle.fj_outside.specs.Holdings.{Holdings, given, without, SameAt}
use Rattle.fj_outside.specs.declared.errors.Stop.{Stop}
use Rattle.fj_outside.specs.declared.errors.Stop.TheVariants.{Failed, Memory}
use Rattle.fj_outside.proofs.HoldingLaws.{steps}
use Rattle.fj_connect.specs.Connection.{Connection}
use Rattle.fj_connect.specs.Linked.{Linked, connection_of}
use Rattle.fj_connect.specs.Positions.{ended}
use Rattle.fj_meaning.specs.State.{Files, left}
use Rattle.fj_meaning_jobs.specs.Core.{Connected}
use Rattle.fj_meaning_jobs.specs.Desks.{Desk}
use Rattle.fj_meaning_jobs.specs.Desking.{all_left, connection_at, left_by}
use Rattle.fj_run_units.specs.Files.{files_of}
use Rattle.fj_run_units.specs.Returning.{returned, IsAsDue}
use Rattle.fj_run_end.specs.Losing.{is_memory}
use Rattle.fj_run_end.specs.Remains.{AreOfDesks}
use Rattle.fj_run_end.specs.declared.remains.Remains.{Remains}

pub clash : true ≡ false → ⊥
clash e = cc

-- ---- what the disk tells of other names

pub same_on : (x y z : Holdings) (name : List ℕ) → SameAt x y name → SameAt y z name → SameAt x z name
same_on x y z name p q = (q.0 ∙ p.0, q.1 ∙ p.1, q.2 ∙ p.2)

-- ---- a file that came back, and maybe was removed: its name, and other names

module _ (h new : Holdings) (n bytes : List ℕ) (sound keep : Bool) where
  gone_others : (k : Bool) → new ≡ (if k then given h n bytes sound else without (given h n bytes sound) n) → (name : List ℕ) → name ≢ n → SameAt h new name
  gone_others true is name d = subst (λ z. SameAt h z name) (sym is) ((steps h n bytes sound).3 name d).1
  gone_others false is name d =
      let home = given h n bytes sound in
      subst (λ z. SameAt h z name) (sym is) (same_on h home (without home n) name ((steps h n bytes sound).3 name d).1 ((steps home n bytes sound).3 name d).2)

  pub others_back : {A B : Type 0} → (result : Result A B) → OnOk result (new ≡ (if keep then given h n bytes sound else without (given h n bytes sound) n))
      → OnErr result (new ≡ given h n bytes sound) → (name : List ℕ) → name ≢ n → SameAt h new name
  others_back (Ok x) ok err = gone_others keep ok
  others_back (Err x) ok err = gone_others true err

  gone_hurt : (k : Bool) → new ≡ (if k then given h n bytes sound else without (given h n bytes sound) n) → set.contains new.hurt n ≡ not sound
  gone_hurt true is = ap (λ (z : Holdings). set.contains z.hurt n) is ∙ (steps h n bytes sound).1.2
  gone_hurt false is = ap (λ (z : Holdings). set.contains z.hurt n) is ∙ (steps (given h n bytes sound) n bytes sound).2.2 ∙ (steps h n bytes sound).1.2

  pub hurt_back : {A B : Type 0} → (result : Result A B) → OnOk result (new ≡ (if keep then given h n bytes sound else without (given h n bytes sound) n))
      → OnErr result (new ≡ given h n bytes sound) → set.contains new.hurt n ≡ not sound
  hurt_back (Ok x) ok err = gone_hurt keep ok
  hurt_back (Err x) ok err = gone_hurt true err

-- ---- one connection

ok_in : {T E : Type 0} → (r : Result T E) → IsOk r → (x : T) × (r ≡ Ok x)
ok_in (Ok x) ok = (x, refl)
ok_in (Err e) ok = absurd (cc)

pub when_ok : {T E X : Type 0} → (r : Result T E) → IsOk r → OnOk r X → X
when_ok (Ok x) ok h = h
when_ok (Err e) ok h = absurd (cc)

-- a stop that its file counts
pub counts_hurt : {T : Type 0} → (r : Result T Stop) (faults count : ℕ) → faults ≡ count → (r ≡ Err Failed → count ≢ 0) → r ≡ Err Failed → nat_lt 0 faults ≡ true
counts_hurt r faults count same some e = let more = some e in grind (arith, common_steps)

pub told_of : {T : Type 0} → (r : Result T Stop) (hurt : Bool) → (r ≡ Err Failed → hurt ≡ true) → is_memory r ≡ false → (hurt ≡ true) ⊎ IsOk r
told_of (Ok x) hurt counts e = inr refl
told_of (Err Failed) hurt counts e = inl (counts refl)
told_of (Err (Memory error)) hurt counts e = absurd (cc)

counted : (faults count : ℕ) → faults ≡ count → nat_lt 0 faults ≡ true → not (count == 0) ≡ true
counted faults count is more = grind (arith, common_steps)

-- it has the bytes that are due
left_with : (c : Connection) (name bytes : List ℕ) (keep : Bool) (old new : Files) → name ≡ c.name → bytes ≡ (ended c).bytes
    → new ≡ returned name bytes keep old → new ≡ left c keep old
left_with c name bytes keep old new named same is = is ∙ ap (λ n. returned n bytes keep old) named ∙ ap (λ b. returned c.name b keep old) same

module _ {F T : Type 0} (told : F → Bool) (bytes : F → List ℕ) (c c' : Linked F) (r : Result T Stop) (stop : Option Stop) (keep : Bool) (old : Files) (named : c'.name ≡ c.name)
    (was : told c.file ≡ true → OnOk r (connection_of bytes c' ≡ ended (connection_of bytes c))) (running : OnOk r (stop ≡ None)) (keeps : keep ≡ not c.modes.scratch) where
  due_is : (x : T) → r ≡ Ok x → told c.file ≡ true → returned c'.name (bytes c'.file) keep old ≡ left_by (Some (connection_of bytes c)) old
  due_is x ok t =
      let is = subst (λ z. OnOk z (connection_of bytes c' ≡ ended (connection_of bytes c))) ok (was t) in
      left_with (connection_of bytes c) c'.name (bytes c'.file) keep old (returned c'.name (bytes c'.file) keep old) named (ap (λ (x : Connection). x.bytes) is) refl
      ∙ ap (λ k. left (connection_of bytes c) k old) keeps

  -- a file that is not hurt had its record ended, and its slot had not stopped
  pub due_closed : (faults count before now : ℕ) (held : Holdings) → faults ≡ count → set.contains held.hurt c'.name ≡ not (count == 0)
      → ((name : List ℕ) → IsAsDue before now (files_of held name) (returned c'.name (bytes c'.file) keep old name))
      → (nat_lt 0 faults ≡ true) ⊎ IsOk r → set.contains held.hurt c.name ≡ false
      → (stop ≡ None) × (told c.file ≡ true → (name : List ℕ) → IsAsDue before now (files_of held name) (left_by (Some (connection_of bytes c)) old name))
  due_closed faults count before now held same is_hurt due (inl faulty) clear =
      absurd (clash (sym (counted faults count same faulty) ∙ sym is_hurt ∙ ap (set.contains held.hurt) named ∙ clear))
  due_closed faults count before now held same is_hurt due (inr ok) clear =
      let it = ok_in r ok in (
        subst (λ z. OnOk z (stop ≡ None)) it.1 running,
        λ t name. subst (λ (files : Files). IsAsDue before now (files_of held name) (files name)) (due_is it.0 it.1 t) (due name),
      )

  -- where all went well
  pub left_closed : (new : Files) → IsOk r → new ≡ returned c'.name (bytes c'.file) keep old → (stop ≡ None) × (told c.file ≡ true → new ≡ left_by (Some (connection_of bytes c)) old)
  left_closed new ok is =
      let it = ok_in r ok in (subst (λ z. OnOk z (stop ≡ None)) it.1 running, λ t. is ∙ due_is it.0 it.1 t)

pub left_elsewhere : (o : Option Connection) (files : Files) (name n : List ℕ) → IfSome o (λ p. p.name ≡ n) → bytes_eq name n ≡ false → left_by o files name ≡ files name
left_elsewhere None files name n named e = refl
left_elsewhere (Some p) files name n named e = by (not p.modes.scratch) (ap (bytes_eq name) named ∙ e)
  where
    by : (keep : Bool) → bytes_eq name p.name ≡ false → left p keep files name ≡ files name
    by true other = ap (λ b. if b then Some (ended p).bytes else files name) other
    by false other = ap (λ b. if b then None else files name) other

-- the connection of a unit's desk was closed
pub due_at_desk : {F : Type 0} → (told : F → Bool) (bytes : F → List ℕ) (all : List (Remains F)) (desks : List Desk) (at : ℕ) (c : Linked F) (stop : Option Stop) (d : Desk)
    (n : List ℕ) (before now : ℕ) (old held : Holdings) → AreOfDesks told bytes all desks → slice_get desks at ≡ Some d
    → slice_get all at ≡ Some (record { connection = Some c; stop = stop }) → IfSome d.bay.connection (λ p. p.name ≡ n) → c.name ≡ n
    → ((name : List ℕ) → name ≢ c.name → SameAt old held name)
    → (set.contains held.hurt c.name ≡ false → (stop ≡ None) × (told c.file ≡ true → (name : List ℕ) → IsAsDue before now (files_of held name) (left_by (Some (connection_of bytes c)) (files_of old) name)))
    → (name : List ℕ) → (name ≡ n → set.contains held.hurt name ≡ false) → IsAsDue before now (files_of held name) (left_by d.bay.connection (files_of old) name)
due_at_desk {F} told bytes all desks at c stop d n before now old held are at_d here named same others closed name clear = by (bytes_eq name c.name) refl
  where
    by : (own : Bool) → bytes_eq name c.name ≡ own → IsAsDue before now (files_of held name) (left_by d.bay.connection (files_of old) name)
    by true e =
        let is_own : name ≡ c.name = (bytes_eq-Decides name c.name).0 e in
        let sound = closed (sym (ap (set.contains held.hurt) is_own) ∙ clear (is_own ∙ same)) in
        let is = are at c d (here ∙ ap (λ o. Some (let r : Remains F = record { connection = Some c; stop = o } in r)) sound.0) at_d in
        subst (λ o. IsAsDue before now (files_of held name) (left_by o (files_of old) name)) (sym is.1) (sound.1 is.0 name)
    by false e = inl ((others name (λ own. clash (sym ((bytes_eq-Decides name c.name).1 own) ∙ e))).0
        ∙ sym (left_elsewhere d.bay.connection (files_of old) name n named (sym (ap (bytes_eq name) same) ∙ e)))

-- where all went well
pub left_at_desk : {F : Type 0} → (told : F → Bool) (bytes : F → List ℕ) (all : List (Remains F)) (desks : List Desk) (at : ℕ) (c : Linked F) (stop : Option Stop) (d : Desk) (old new : Files)
    → AreOfDesks told bytes all desks → slice_get desks at ≡ Some d → slice_get all at ≡ Some (record { connection = Some c; stop = stop })
    → (stop ≡ None) × (told c.file ≡ true → new ≡ left_by (Some (connection_of bytes c)) old) → new ≡ left_by d.bay.connection old
left_at_desk {F} told bytes all desks at c stop d old new are at_d here closed =
    let is = are at c d (here ∙ ap (λ o. Some (let r : Remains F = record { connection = Some c; stop = o } in r)) closed.0) at_d in
    closed.1 is.0 ∙ ap (λ o. left_by o old) (sym is.1)

-- ---- one step and then another

pub due_on : (a b c : ℕ) (x y z : Option (List ℕ)) → a ≤ b → b ≤ c → IsAsDue b c x y → IsAsDue a b y z → IsAsDue a c x z
due_on a b c x y z ab bc (inl p) (inl q) = inl (p ∙ q)
due_on a b c x y z ab bc (inl p) (inr q) = let r = q.1 in inr (q.0, omega (arith, r, bc))
due_on a b c x y z ab bc (inr p) (inl q) = let r = p.1 in inr (sym q ∙ p.0, omega (arith, r, ab))
due_on a b c x y z ab bc (inr p) (inr q) = let r = q.1 in inr (q.0, omega (arith, r, bc))

module _ (before now : ℕ) where
  one_due : (o : Option Connection) (f g : Files) (name : List ℕ) → IsAsDue before now (f name) (g name) → IsAsDue before now (left_by o f name) (left_by o g name)
  one_due None f g name h = h
  one_due (Some p) f g name h = by (not p.modes.scratch)
    where
      put : (x : Option (List ℕ)) (b : Bool) → IsAsDue before now (if b then x else f name) (if b then x else g name)
      put x true = inl refl
      put x false = h

      by : (keep : Bool) → IsAsDue before now (left p keep f name) (left p keep g name)
      by true = put (Some (ended p).bytes) (bytes_eq name p.name)
      by false = put None (bytes_eq name p.name)

  pub all_due : (desks : List Desk) (us : List Connected) (f g : Files) (name : List ℕ) → IsAsDue before now (f name) (g name) → IsAsDue before now (all_left desks us f name) (all_left desks us g name)
  all_due desks [] f g name h = h
  all_due desks (u ∷ us) f g name h =
      let o = connection_at (slice_get desks u.slot) in all_due desks us (left_by o f) (left_by o g) name (one_due o f g name h)
