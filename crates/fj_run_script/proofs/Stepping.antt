-- Steps of a statement, one after another.
use Rattle.std.proofs.Common.{◌≡◌, ◌↔◌, ℕ, ◌≤◌, List, ◌++◌, Result, Ok, Err, OnOk, OnErr, refl, sym, ap, ◌∙◌, subst, arith, append_assoc}
use Rattle.fj_outside.specs.Faults.{Rose}
use Rattle.fj_outside.specs.Holdings.{Holdings, Names}
use Rattle.fj_meaning.specs.State.{Output}
use Rattle.fj_run_items.specs.Handing.{HandsOver, HandsFront, whole_records}
use Rattle.fj_run_items.specs.declared.lost.Lost.{Lost}
use Rattle.fj_run_items.specs.declared.lost.Lost.TheVariants.{Disk, Sink}
use Rattle.fj_run_units.specs.Names.{AreInUse}
use Rattle.fj_run_statements.specs.declared.state.Core.{Core}
use Rattle.fj_run_script.specs.Taking.{TakesMore}
use Rattle.fj_run_script.specs.Stepping.{Keeps, Steps}
use Rattle.fj_run_script.proofs.Runs.{hands_none, takes_none}

abbrev pub went : {X : Type 0} → X → Result X Lost
went x = Ok x

abbrev pub given_up : {X : Type 0} → Lost → Result X Lost
given_up lost = Err lost

-- ---- what a sink took

pub hands_both : (a b c : List ℕ) (x y z : Output) → HandsOver a b x y → HandsOver b c y z → HandsOver a c x z
hands_both a b c x y z h k = (
  h.0 ++ k.0,
  k.1 ∙ ap (λ w. w ++ k.0) h.1 ∙ append_assoc (whole_records x) h.0 k.0,
  k.2 ∙ ap (λ w. w ++ k.0) h.2 ∙ append_assoc a h.0 k.0,
)

takes_both : (a b c : List ℕ) → TakesMore a b → TakesMore b c → TakesMore a c
takes_both a b c h k = (h.0 ++ k.0, k.1 ∙ ap (λ w. w ++ k.0) h.1 ∙ append_assoc a h.0 k.0)

takes_over : (a b : List ℕ) (x y : Output) → HandsOver a b x y → TakesMore a b
takes_over a b x y h = (h.0, h.2)

pub takes_front : (a b : List ℕ) (x due : Output) → HandsFront a b x due → TakesMore a b
takes_front a b x due h = (h.0, h.3)

-- by what it comes to
pub takes_by : {X : Type 0} → (r : Result X Lost) (a b : List ℕ) (x y due : Output) → OnOk r (HandsOver a b x y) → OnErr r (HandsFront a b x due) → TakesMore a b
takes_by (Ok it) a b x y due h k = takes_over a b x y h
takes_by (Err lost) a b x y due h k = takes_front a b x due k

pub on_ok : {X : Type 0} → (r : Result X Lost) (P Q : Type 0) → (P → Q) → OnOk r P → OnOk r Q
on_ok (Ok it) P Q go p = go p
on_ok (Err lost) P Q go p = tt

-- ---- faults

pub rose_before : (a b c : ℕ) → a ≤ b → Rose b c → Rose a c
rose_before a b c h r = omega arith

pub rose_behind : (a b c : ℕ) → b ≤ c → Rose a b → Rose a c
rose_behind a b c h r = omega arith

-- ---- names

in_use_still : (names names' : List (List ℕ)) (in_use : Names) → names' ≡ names → AreInUse names in_use → AreInUse names' in_use
in_use_still names names' in_use e h = subst (λ ns. AreInUse ns in_use) (sym e) h

-- ---- steps

pub same_keeps : (core core' : Core) → core' ≡ core → Keeps core core'
same_keeps core core' e = record {
  kinds = ap (λ (c : Core). c.store.kinds) e;
  names = ap (λ (c : Core). c.names) e;
  output = ap (λ (c : Core). c.output) e;
}

module _ {W D : Type 0} {tells_out : W → Type 0} {taken : W → List ℕ} {count_out : W → ℕ} {tells : D → Type 0} {held : D → Holdings} {count refusals : D → ℕ} where
  -- it calls nothing of the outside
  pub kept_steps : {X : Type 0} → (out : W) (disk : D) (core core' : Core) (x : X) → Keeps core core' → Steps tells_out taken count_out tells held count refusals out disk core (went x) out disk core'
  kept_steps out disk core core' x k = record {
    kinds = k.kinds;
    names = λ t. in_use_still core.names core'.names (held disk).in_use k.names;
    telling = (λ t. t, λ t. t);
    later = omega arith;
    own = λ t. omega arith;
    failed = λ e. cc;
    telling_out = (λ t. t, λ t. t);
    later_out = omega arith;
    failed_out = λ e. cc;
    still = λ t e. cc;
    output = λ t. hands_none (taken out) (taken out) core.output core'.output refl k.output;
    front = λ t. takes_none (taken out) (taken out) refl;
  }

  -- two in a row are one
  pub then_steps : {X Y : Type 0} → (out mid out' : W) (disk between disk' : D) (core half core' : Core) (x : X) (r : Result Y Lost)
      → Steps tells_out taken count_out tells held count refusals out disk core (went x) mid between half → Steps tells_out taken count_out tells held count refusals mid between half r out' disk' core'
      → Steps tells_out taken count_out tells held count refusals out disk core r out' disk' core'
  then_steps out mid out' disk between disk' core half core' x r a b = record {
    kinds = b.kinds ∙ a.kinds;
    names = λ t n. b.names (a.telling.0 t) (a.names t n);
    telling = (λ t. b.telling.0 (a.telling.0 t), λ t. a.telling.1 (b.telling.1 t));
    later = let p = a.later in let q = b.later in omega arith;
    own = λ t. let p = a.own t in let q = b.own (a.telling.0 t) in omega arith;
    failed = λ e. rose_before (count disk) (count between) (count disk') a.later (b.failed e);
    telling_out = (λ t. b.telling_out.0 (a.telling_out.0 t), λ t. a.telling_out.1 (b.telling_out.1 t));
    later_out = let p = a.later_out in let q = b.later_out in omega arith;
    failed_out = λ e. rose_before (count_out out) (count_out mid) (count_out out') a.later_out (b.failed_out e);
    output = λ t. on_ok r (HandsOver (taken mid) (taken out') half.output core'.output) (HandsOver (taken out) (taken out') core.output core'.output)
        (hands_both (taken out) (taken mid) (taken out') core.output half.output core'.output (a.output t)) (b.output (a.telling_out.0 t));
    still = λ t e. hands_both (taken out) (taken mid) (taken out') core.output half.output core'.output (a.output t) (b.still (a.telling_out.0 t) e);
    front = λ t. takes_both (taken out) (taken mid) (taken out') (a.front t) (b.front (a.telling_out.0 t));
  }

  -- the same, where what it comes to is another word for it
  pub err_steps : {X Y : Type 0} → (out out' : W) (disk disk' : D) (core core' : Core) (r : Result X Lost) (lost : Lost) → r ≡ Err lost
      → Steps tells_out taken count_out tells held count refusals out disk core r out' disk' core' → Steps tells_out taken count_out tells held count refusals out disk core (given_up {X = Y} lost) out' disk' core'
  err_steps out out' disk disk' core core' r lost is a = record {
    kinds = a.kinds;
    names = a.names;
    telling = a.telling;
    later = a.later;
    own = a.own;
    failed = λ e. a.failed (cc (is, e));
    telling_out = a.telling_out;
    later_out = a.later_out;
    failed_out = λ e. a.failed_out (cc (is, e));
    output = λ t. tt;
    still = λ t e. a.still t (cc (is, e));
    front = a.front;
  }

  pub ok_steps : {X Y : Type 0} → (out out' : W) (disk disk' : D) (core core' : Core) (r : Result X Lost) (x : X) (y : Y) → r ≡ Ok x
      → Steps tells_out taken count_out tells held count refusals out disk core r out' disk' core' → Steps tells_out taken count_out tells held count refusals out disk core (went y) out' disk' core'
  ok_steps {X = X} out out' disk disk' core core' r x y is a = record {
    kinds = a.kinds;
    names = a.names;
    telling = a.telling;
    later = a.later;
    own = a.own;
    failed = λ e. cc;
    telling_out = a.telling_out;
    later_out = a.later_out;
    failed_out = λ e. cc;
    output = λ t. subst (λ (s : Result X Lost). OnOk s (HandsOver (taken out) (taken out') core.output core'.output)) is (a.output t);
    still = λ t e. cc;
    front = a.front;
  }

  -- its own action is given up
  pub begun_steps : {X Y : Type 0} → (out out' : W) (disk disk' : D) (core core' : Core) (r : Result X Lost) (lost : Lost) (due : Output) → r ≡ Err lost → core'.store.kinds ≡ core.store.kinds → (tells disk → AreInUse core'.names (held disk').in_use)
      → (tells disk ↔ tells disk') → count disk ≤ count disk' → (tells disk → refusals disk ≤ refusals disk') → (r ≡ Err Disk → Rose (count disk) (count disk')) → (tells_out out ↔ tells_out out') → count_out out ≤ count_out out' → (r ≡ Err Sink → Rose (count_out out) (count_out out'))
      → (tells_out out → OnErr r (HandsFront (taken out) (taken out') core.output due)) → (r ≡ Err Disk → (out' ≡ out) × (core'.output ≡ core.output))
      → Steps tells_out taken count_out tells held count refusals out disk core (given_up {X = Y} lost) out' disk' core'
  begun_steps {X = X} out out' disk disk' core core' r lost due is kinds names telling later own failed telling_out later_out failed_out front still = record {
    kinds = kinds;
    names = λ t _. names t;
    telling = telling;
    later = later;
    own = own;
    failed = λ e. failed (cc (is, e));
    telling_out = telling_out;
    later_out = later_out;
    failed_out = λ e. failed_out (cc (is, e));
    output = λ t. tt;
    still = λ t e. let k = still (cc (is, e)) in hands_none (taken out) (taken out') core.output core'.output (ap taken k.0) k.1;
    front = λ t. takes_front (taken out) (taken out') core.output due (subst (λ (x : Result X Lost). OnErr x (HandsFront (taken out) (taken out') core.output due)) is (front t));
  }

  -- it calls the disk alone
  pub disk_steps : {X : Type 0} → (out : W) (disk disk' : D) (core core' : Core) (x : X) → core'.store.kinds ≡ core.store.kinds → (tells disk → AreInUse core'.names (held disk').in_use)
      → core'.output ≡ core.output → (tells disk ↔ tells disk') → count disk ≤ count disk' → (tells disk → refusals disk ≤ refusals disk') → Steps tells_out taken count_out tells held count refusals out disk core (went x) out disk' core'
  disk_steps out disk disk' core core' x kinds names output telling later own = record {
    kinds = kinds;
    names = λ t _. names t;
    telling = telling;
    later = later;
    own = own;
    failed = λ e. cc;
    telling_out = (λ t. t, λ t. t);
    later_out = omega arith;
    failed_out = λ e. cc;
    output = λ t. hands_none (taken out) (taken out) core.output core'.output refl output;
    still = λ t e. cc;
    front = λ t. takes_none (taken out) (taken out) refl;
  }
