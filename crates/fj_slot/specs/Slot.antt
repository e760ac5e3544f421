-- What the fields of a slot keep.
use Rattle.std.specs.Prelude.{◌≡◌, ℕ, ◌+◌, ◌<◌, ◌≤◌, ◌^◌, true, List, map, drop, Option, None, IfSome, is_some, if◌then◌else◌}
use Rattle.std.specs.VecDeque.{deque_len, deque_capacity}
use Rattle.std.specs.Vec.{vec_len}
use Rattle.fj_outside.specs.Faults.{Rose}
use Rattle.fj_outside.specs.declared.errors.Stop.TheVariants.{Failed}
use Rattle.fj_slot.specs.declared.stop.Halt.{Halt}
use Rattle.fj_slot.specs.declared.slot.Slot.TheInside.{Inside}

-- 1 where a job is out
abbrev pub count_out : {E : Type 0} → Option E → ℕ
count_out home = if is_some home then 0 else 1

-- the jobs, as they were submitted
abbrev pub given_jobs : {E J A S T R : Type 0} → Inside E J A S T R → List J
given_jobs s = map (λ g. g.value) s.given.items

-- a stop keeps counts of which the second rose above the first, where something of the outside failed
abbrev pub HasRisen : Halt → Type 0
HasRisen h = h.stop ≡ Failed → Rose h.before h.after

pub record IsWhole {E J A S T R : Type 0} (s : Inside E J A S T R) : Type 0 where
  -- each submitted job was told, is done, is out or waits
  pub total : s.told + deque_len s.finished + count_out s.home + deque_len s.waiting ≡ vec_len s.given
  pub few : vec_len s.given ≤ 2 ^ 62
  -- there is room for the answers to come, and for the job that stops the slot
  pub room : deque_len s.finished + count_out s.home + deque_len s.waiting ≤ deque_capacity s.finished
  pub place : deque_len s.waiting + count_out s.home ≤ deque_capacity s.waiting
  pub reached : s.done ≤ s.told + deque_len s.finished
  pub in_order : 0 < deque_len s.finished → s.told + deque_len s.finished ≡ s.done
  -- while the slot runs, the waiting jobs are as they were submitted
  pub running : s.halt ≡ None → s.told + deque_len s.finished ≡ s.done
  pub waiting : s.halt ≡ None → s.waiting.items ≡ drop (s.done + count_out s.home) (given_jobs s)
  -- after a stop no job is out
  pub stopped : is_some s.halt ≡ true → count_out s.home ≡ 0
  pub below : is_some s.halt ≡ true → s.done < vec_len s.given
  -- those behind the stop are as they were submitted
  pub behind : is_some s.halt ≡ true → s.done < s.told → s.waiting.items ≡ drop s.told (given_jobs s)
  pub after_stop : is_some s.halt ≡ true → s.told ≤ s.done → drop 1 s.waiting.items ≡ drop (s.done + 1) (given_jobs s)
  pub rose : IfSome s.halt HasRisen
