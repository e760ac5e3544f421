-- The files that closing all units leaves.
use Rattle.std.proofs.Common.{◌≡◌, ◌≢◌, ℕ, ◌<◌, Bool, true, false, not, List, [], ◌∷◌, Some, None, refl, sym, ap, ◌∙◌, arith}
use Rattle.std.specs.Prelude.{if◌then◌else◌}
use Rattle.std.specs.List.{All}
use Rattle.std.specs.Str.{bytes_eq}
use Rattle.std.proofs.lemmas.List.Elements.{All-nil, All-cons, All-head, All-tail, All-weaker}
use Rattle.fj_connect.specs.Connection.{Connection}
use Rattle.fj_connect.specs.Positions.{ended}
use Rattle.fj_meaning.specs.State.{Files, Unit, left, keeps, files_closed}
use Rattle.fj_meaning.specs.UnitLaws.{Ascends, OneUnit}
use Rattle.fj_meaning.proofs.Lists.{pairs_head, pairs_tail, all_both}
use Rattle.fj_meaning.proofs.Units.{bytes_are, bytes_differ}

left_other : (c : Connection) (keep : Bool) (files : Files) (name : List ℕ) → bytes_eq name c.name ≡ false → (left c keep files) name ≡ files name
left_other c true files name e = ap (λ b. if b then Some (ended c).bytes else files name) e
left_other c false files name e = ap (λ b. if b then None else files name) e

left_own : (c : Connection) (scratch : Bool) (files : Files) → (left c (not scratch) files) c.name ≡ (if scratch then None else Some (ended c).bytes)
left_own c true files = ap (λ b. if b then None else files c.name) (bytes_are c.name c.name refl)
left_own c false files = ap (λ b. if b then Some (ended c).bytes else files c.name) (bytes_are c.name c.name refl)

other_closed : (us : List Unit) (files : Files) (name : List ℕ) → All (λ (u : Unit). bytes_eq name u.connection.name ≡ false) us → files_closed us files name ≡ files name
other_closed [] files name h = refl
other_closed (u ∷ us) files name h =
    other_closed us (left u.connection (keeps u) files) name (All-tail (λ (x : Unit). bytes_eq name x.connection.name ≡ false) u us h)
    ∙ left_other u.connection (keeps u) files name (All-head (λ (x : Unit). bytes_eq name x.connection.name ≡ false) u us h)

pub others_stay : (us : List Unit) (files : Files) (name : List ℕ) → All (λ (u : Unit). u.connection.name ≢ name) us → files_closed us files name ≡ files name
others_stay us files name h =
    other_closed us files name (All-weaker (λ (u : Unit). u.connection.name ≢ name) (λ (u : Unit). bytes_eq name u.connection.name ≡ false) (λ u ne. bytes_differ name u.connection.name (λ e. ne (sym e))) us h)

abbrev LeftSo : Files → Unit → Type 0
LeftSo files u = files u.connection.name ≡ (if u.connection.modes.scratch then None else Some (ended u.connection).bytes)

pub each_left : (us : List Unit) (files : Files) → Ascends us → OneUnit us → All (LeftSo (files_closed us files)) us
each_left [] files a o = All-nil (LeftSo files)
each_left (u ∷ us) files a o =
    All-cons (LeftSo (files_closed (u ∷ us) files)) u us
    (other_closed us (left u.connection (keeps u) files) u.connection.name apart ∙ left_own u.connection u.connection.modes.scratch files)
    (each_left us (left u.connection (keeps u) files) (pairs_tail (λ (x y : Unit). x.number < y.number) u us a) one)
  where
    same : Unit → Unit → Type 0
    same x y = x.connection.name ≡ y.connection.name → x.number ≡ y.number

    differ : (x : Unit) → u.number < x.number → same u x → bytes_eq u.connection.name x.connection.name ≡ false
    differ x lt f = bytes_differ u.connection.name x.connection.name (λ e. absurd (omega (arith, lt, f e)))

    apart : All (λ (x : Unit). bytes_eq u.connection.name x.connection.name ≡ false) us
    apart =
        all_both (λ (x : Unit). u.number < x.number) (same u) (λ (x : Unit). bytes_eq u.connection.name x.connection.name ≡ false) us (λ x lt f. differ x lt f)
        (pairs_head (λ (x y : Unit). x.number < y.number) u us a) (All-tail (same u) u us (All-head (λ x. All (same x) (u ∷ us)) u us o))

    one : OneUnit us
    one = All-weaker (λ x. All (same x) (u ∷ us)) (λ x. All (same x) us) (λ x k. All-tail (same x) u us k) us (All-tail (λ x. All (same x) (u ∷ us)) u us o)
