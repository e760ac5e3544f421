-- What many calls of the runner leave is what one call may leave.
use Rattle.std.proofs.Common.{◌≡◌, ◌⊎◌, inl, inr, ℕ, zero, suc, ◌≤◌, List, [], ◌++◌, Option, Some, None, IsSome, refl, ap, sym, ◌∙◌, subst, append_assoc, arith}
use Rattle.std.proofs.lemmas.List.{append-nil}
use Rattle.fj_outside.specs.Faults.{Rose}
use Rattle.fj_outside.specs.declared.outside.FileStore.{Ghosts}
use Rattle.fj_run_items.specs.Handing.{HandsOver, whole_records}
use Rattle.fj_run_items.specs.declared.lost.Lost.{Lost}
use Rattle.fj_run_items.specs.declared.lost.Lost.TheVariants.{Disk}
use Rattle.fj_meaning.specs.State.{Output}
use Rattle.fj_world.specs.Leading.{Led, LeadsTo}
use Rattle.fj_run_script.specs.Leaving.{Leaves}
use Rattle.fj_run_script.specs.Taking.{TakesMore}
use Rattle.fj_run_script.specs.declared.machine.Machine.{Machine}
use Rattle.fj_job.specs.Carrying.{LeavesButDeck}

-- ---- a relation that composes

led : {S : Type 0} (leads rests : S → S → Type 0) → ((a b : S) → leads a b → rests a b) → ((s : S) → rests s s) → ((a b c : S) → rests a b → rests b c → rests a c)
    → (n : ℕ) (first last : S) → Led leads n first last → rests first last
led leads rests one r t zero first last e = subst (λ s. rests first s) e (r first)
led leads rests one r t (suc n) first last (before, many, call) = t first before last (led leads rests one r t n first before many) (one before last call)

pub led_to : {S : Type 0} (leads rests : S → S → Type 0) → ((a b : S) → leads a b → rests a b) → ((s : S) → rests s s) → ((a b c : S) → rests a b → rests b c → rests a c)
    → (first last : S) → LeadsTo leads first last → rests first last
led_to leads rests one r t first last (n, many) = led leads rests one r t n first last many

-- ---- what one call leaves composes

hands_same : (taken : List ℕ) (o : Output) → HandsOver taken taken o o
hands_same taken o = ([], sym (append-nil _), sym (append-nil _))

hands_on : (a b c : List ℕ) (o p q : Output) → HandsOver a b o p → HandsOver b c p q → HandsOver a c o q
hands_on a b c o p q (one, is, taken) (two, is', taken') =
    (one ++ two, is' ∙ ap (λ x. x ++ two) is ∙ append_assoc (whole_records o) one two, taken' ∙ ap (λ x. x ++ two) taken ∙ append_assoc a one two)

more_on : (a b c : List ℕ) → TakesMore a b → TakesMore b c → TakesMore a c
more_on a b c (one, is) (two, is') = (one ++ two, is' ∙ ap (λ x. x ++ two) is ∙ append_assoc a one two)

pub rose_later : (a b c : ℕ) → Rose a b → b ≤ c → Rose a c
rose_later a b c r l = omega (arith, r, l)

pub rose_earlier : (a b c : ℕ) → a ≤ b → Rose b c → Rose a c
rose_earlier a b c l r = omega (arith, r, l)

-- nothing but by the disk was lost before, where nothing else is lost
fine_before : (was now : Option Lost) → (IsSome was → now ≡ was) → (now ≡ None) ⊎ (now ≡ Some Disk) → (was ≡ None) ⊎ (was ≡ Some Disk)
fine_before None now first e = inl refl
fine_before (Some lost) now first (inl e) = let same = first refl in cc
fine_before (Some lost) now first (inr e) = inr (sym (first refl) ∙ e)

first_on : (a b c : Option Lost) → (IsSome a → b ≡ a) → (IsSome b → c ≡ b) → IsSome a → c ≡ a
first_on a b c one two s = two (subst (λ (o : Option Lost). IsSome o) (sym (one s)) s) ∙ one s

cause_on : (P Q : Type 0) (a b c : ℕ) → a ≤ b → b ≤ c → (P → Q ⊎ Rose a b) → P ⊎ Rose b c → Q ⊎ Rose a c
cause_on P Q a b c l k one (inr rose) = inr (rose_earlier a b c l rose)
cause_on P Q a b c l k one (inl p) = elim (one p) [ inl q ↦ inl q | inr rose ↦ inr (rose_later a b c rose k) ]

module _ {W D F : Type 0} {ghosts : Ghosts F} (tells_out : W → Type 0) (taken : W → List ℕ) (count_out : W → ℕ) (tells : D → Type 0) (count refusals : D → ℕ) where
  pub leaves_same : (w : W) (d : D) (m : Machine F ghosts) → Leaves tells_out taken count_out tells count refusals w d m w d m
  leaves_same w d m = record {
    telling = ((λ t. t), (λ t. t));
    later = omega arith;
    own = λ t. omega arith;
    telling_out = ((λ t. t), (λ t. t));
    later_out = omega arith;
    output = λ t e. hands_same (taken w) m.state.core.output;
    front = λ t. ([], sym (append-nil _));
    of_disk = λ e. inl e;
    of_sink = λ e. inl e;
    first = λ s. refl;
    deck = refl;
    looks = refl;
  }

  pub but_deck : (w w' : W) (d d' : D) (m m' : Machine F ghosts) → Leaves tells_out taken count_out tells count refusals w d m w' d' m' → LeavesButDeck tells_out taken count_out tells count refusals w d m w' d' m'
  but_deck w w' d d' m m' l = record {
    telling = l.telling;
    later = l.later;
    own = l.own;
    telling_out = l.telling_out;
    later_out = l.later_out;
    output = l.output;
    front = l.front;
    of_disk = l.of_disk;
    of_sink = l.of_sink;
    first = l.first;
  }

  pub but_on : (w w' w'' : W) (d d' d'' : D) (m m' m'' : Machine F ghosts) → LeavesButDeck tells_out taken count_out tells count refusals w d m w' d' m'
      → LeavesButDeck tells_out taken count_out tells count refusals w' d' m' w'' d'' m'' → LeavesButDeck tells_out taken count_out tells count refusals w d m w'' d'' m''
  but_on w w' w'' d d' d'' m m' m'' a b = record {
    telling = ((λ t. b.telling.0 (a.telling.0 t)), (λ t. a.telling.1 (b.telling.1 t)));
    later = let x = a.later in let y = b.later in omega (arith, x, y);
    own = λ t. let x = a.own t in let y = b.own (a.telling.0 t) in omega (arith, x, y);
    telling_out = ((λ t. b.telling_out.0 (a.telling_out.0 t)), (λ t. a.telling_out.1 (b.telling_out.1 t)));
    later_out = let x = a.later_out in let y = b.later_out in omega (arith, x, y);
    output = λ t e. hands_on _ _ _ m.state.core.output m'.state.core.output m''.state.core.output (a.output t (fine_before _ _ b.first e)) (b.output (a.telling_out.0 t) e);
    front = λ t. more_on _ _ _ (a.front t) (b.front (a.telling_out.0 t));
    of_disk = λ e. cause_on _ _ _ _ _ a.later b.later a.of_disk (b.of_disk e);
    of_sink = λ e. cause_on _ _ _ _ _ a.later_out b.later_out a.of_sink (b.of_sink e);
    first = first_on _ _ _ a.first b.first;
  }

  pub leaves_on : (w w' w'' : W) (d d' d'' : D) (m m' m'' : Machine F ghosts) → Leaves tells_out taken count_out tells count refusals w d m w' d' m'
      → Leaves tells_out taken count_out tells count refusals w' d' m' w'' d'' m'' → Leaves tells_out taken count_out tells count refusals w d m w'' d'' m''
  leaves_on w w' w'' d d' d'' m m' m'' a b =
      let l = but_on w w' w'' d d' d'' m m' m'' (but_deck w w' d d' m m' a) (but_deck w' w'' d' d'' m' m'' b) in
      record {
        telling = l.telling;
        later = l.later;
        own = l.own;
        telling_out = l.telling_out;
        later_out = l.later_out;
        output = l.output;
        front = l.front;
        of_disk = l.of_disk;
        of_sink = l.of_sink;
        first = l.first;
        deck = b.deck ∙ a.deck;
        looks = b.looks ∙ a.looks;
      }

-- a cause that was there before, or came behind it
pub rose_of : (P : Type 0) (a b c : ℕ) → a ≤ b → b ≤ c → (P → Rose a b) → P ⊎ Rose b c → Rose a c
rose_of P a b c l k one (inl p) = rose_later a b c (one p) k
rose_of P a b c l k one (inr rose) = rose_earlier a b c l rose

-- ---- many calls of a runner

-- the same sink, disk and machine by name, and what is left of them
pub record Rested {N : Type 0} (out disk machine out' disk' machine' : N) (left_so : Type 0) : Type 0 where
  pub same_out : out' ≡ out
  pub same_disk : disk' ≡ disk
  pub same_machine : machine' ≡ machine
  pub leaves : left_so

module _ {S N W D F : Type 0} {ghosts : Ghosts F} (tells_out : W → Type 0) (taken : W → List ℕ) (count_out : W → ℕ) (tells : D → Type 0) (count refusals : D → ℕ)
    (out_name disk_name machine_name : S → N) (out : S → W) (disk : S → D) (machine : S → Machine F ghosts) where
  abbrev pub Rests : S → S → Type 0
  Rests a b = Rested (out_name a) (disk_name a) (machine_name a) (out_name b) (disk_name b) (machine_name b)
      (Leaves tells_out taken count_out tells count refusals (out a) (disk a) (machine a) (out b) (disk b) (machine b))

  rests_same : (s : S) → Rests s s
  rests_same s = record { same_out = refl; same_disk = refl; same_machine = refl; leaves = leaves_same tells_out taken count_out tells count refusals (out s) (disk s) (machine s) }

  rests_on : (a b c : S) → Rests a b → Rests b c → Rests a c
  rests_on a b c one two = record {
    same_out = two.same_out ∙ one.same_out;
    same_disk = two.same_disk ∙ one.same_disk;
    same_machine = two.same_machine ∙ one.same_machine;
    leaves = leaves_on tells_out taken count_out tells count refusals (out a) (out b) (out c) (disk a) (disk b) (disk c) (machine a) (machine b) (machine c) one.leaves two.leaves;
  }

  pub runner_rests : (leads : S → S → Type 0) → ((a b : S) → leads a b → Rests a b) → (first last : S) → LeadsTo leads first last → Rests first last
  runner_rests leads one first last many = led_to leads Rests one rests_same rests_on first last many
