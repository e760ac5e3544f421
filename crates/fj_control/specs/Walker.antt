-- What the code's walk of a list of items has still to give, and how much work that is.
use Rattle.std.specs.Prelude.{ℕ, suc, ◌+◌, ◌*◌, ◌≡◌, ◌≤◌, ◌<◌, Bool, List, [], ◌∷◌, ◌++◌, length, drop, vec_capacity, Option, Some, None}
use Rattle.fj_format.specs.Unfolding as step
use Rattle.fj_format.specs.Unfolding.{Elementary, Steps, repeated, pass, height, work}
use Rattle.fj_control.specs.declared.walker.Frame.{Frame}
use Rattle.fj_control.specs.declared.walker.Walker.{Walker}
use Rattle.fj_control.specs.declared.walker.Repeat.{Repeat}
use Rattle.fj_control.specs.declared.walker.Repeat.TheVariants as repeat
use Rattle.fj_control.specs.declared.walker.Walked.{Walked}
use Rattle.fj_control.specs.declared.walker.Walked.TheVariants.{Gave, Stopped, Ended}
use Rattle.fj_control.specs.declared.walker.Piece.{Piece}
use Rattle.fj_control.specs.declared.walker.Piece.TheVariants as piece
use Rattle.fj_control.specs.Steps.{done}
use Rattle.fj_control.specs.Walk.{given, walking, ended, next_from}

abbrev pub step_of : Piece → Elementary
step_of (piece.Edit e) = step.edit e
step_of piece.Slash = step.slash
step_of piece.Colon = step.colon
step_of (piece.Str s) = step.string s.now
step_of (piece.Tab n) = step.tab n
step_of (piece.Left n) = step.left n
step_of (piece.Right n) = step.right n
step_of (piece.Mode m) = step.mode m

abbrev pub repeated_step : Repeat → Elementary
repeated_step (repeat.Edit e) = step.edit e
repeated_step repeat.Slash = step.slash

-- what one list has still to give
abbrev pub frame_rest : Frame → Steps
frame_rest f = pass (drop f.at f.items.now) ++ repeated f.left (pass f.items.now)

-- what the outer lists have still to give, the outermost first in the list
abbrev pub outer_rest : List Frame → Steps
outer_rest [] = []
outer_rest (f ∷ fs) = outer_rest fs ++ frame_rest f

abbrev pub stack : Walker → List Frame
stack w = w.outer.items

abbrev pub rest_of : Walker → Steps
rest_of w = repeated w.times (repeated_step w.repeat ∷ []) ++ (frame_rest w.top ++ outer_rest (stack w))

-- how many turns are left
abbrev pub frame_work : Frame → ℕ
frame_work f = (work (drop f.at f.items.now) + f.left * (work f.items.now + 1)) + 1

abbrev pub outer_work : List Frame → ℕ
outer_work [] = 0
outer_work (f ∷ fs) = outer_work fs + frame_work f

abbrev pub work_of : Walker → ℕ
work_of w = frame_work w.top + outer_work (stack w)

-- each list is no deeper than the room for lists above it, of so many in all
abbrev pub HaveRoom : ℕ → ℕ → List Frame → Type 0
HaveRoom most n [] = Unit {0}
HaveRoom most n (f ∷ fs) = (n + height f.items.now ≤ most) × HaveRoom most (suc n) fs

pub record IsSound (w : Walker) : Type 0 where
  pub top : length (stack w) + height w.top.items.now ≤ vec_capacity w.outer
  pub outer : HaveRoom (vec_capacity w.outer) 0 (stack w)

-- the walker gave this and goes on behind it, or gave nothing and is nearer to its end
abbrev pub GaveOrMoved : Walker → Option Piece → Walker → Type 0
GaveOrMoved old (Some p) new = rest_of old ≡ step_of p ∷ rest_of new
GaveOrMoved old None new = (rest_of new ≡ rest_of old) × (work_of new < work_of old)

-- the walker gave this and goes on behind it, or there was no more
abbrev pub GaveOrEnded : Walker → Option Piece → Walker → Type 0
GaveOrEnded old (Some p) new = rest_of old ≡ step_of p ∷ rest_of new
GaveOrEnded old None new = rest_of old ≡ []

-- there is room for as many lists as before
abbrev pub KeepsRoom : Walker → Walker → Type 0
KeepsRoom w w' = vec_capacity w'.outer ≡ vec_capacity w.outer

-- the walker has the same to give, and is nearer to its end
pub record Moved (w w' : Walker) : Type 0 where
  pub rest : rest_of w' ≡ rest_of w
  pub work : work_of w' < work_of w
  pub sound : IsSound w'
  pub times : w'.times ≡ 0
  pub room : KeepsRoom w w'

-- the walk gave a step, stopped, or came to the end of the list
abbrev pub CameTo : Bool → Steps → Walked → Steps → Type 0
CameTo left old (Gave s) new = next_from left old ≡ Some (given s, walking new)
CameTo left old Stopped new = next_from left old ≡ Some (done, ended)
CameTo left old Ended new = next_from left old ≡ None
