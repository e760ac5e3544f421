-- What a stopped change keeps, byte by byte.
use Rattle.std.proofs.Common.{◌≡◌, ℕ, ◌+◌, ◌<◌, ◌≤◌, List, length, take, get_or, sym, ap, ◌∙◌, arith}
use Rattle.std.proofs.lemmas.List.{take_all, length-take, length-take-le, get_or-take}
use Rattle.std.proofs.lemmas.Grind.{same_number_lists}
use Rattle.fj_span.specs.Change.{KeepsUpToChange}
use Rattle.fj_span.specs.ChangeLaw.{KeepsWhatWasToStay}

same_front : (due old : List ℕ) (count : ℕ) → count ≤ length old → count ≤ length due → ((k : ℕ) → k < count → get_or due k 0 ≡ get_or old k 0) → take count due ≡ take count old
same_front due old count in_old in_due same =
    let long : length (take count due) ≡ count = length-take-le count due in_due in
    same_number_lists (take count due) (take count old) (long ∙ sym (length-take-le count old in_old))
    (λ k low. let below : k < count = omega (arith, long) in get_or-take count due k 0 below ∙ same k below ∙ sym (get_or-take count old k 0 below))

pub keeps_bytes : (old due new : List ℕ) → KeepsUpToChange old due new → (count : ℕ) → count ≤ length old → count ≤ length due → ((k : ℕ) → k < count → get_or due k 0 ≡ get_or old k 0)
    → (count ≤ length new) × ((k : ℕ) → k < count → get_or new k 0 ≡ get_or old k 0)
keeps_bytes old due new kept count in_old in_due same =
    let front : take count new ≡ take count old = kept count (same_front due old count in_old in_due same) in (
      omega (arith, ap length front, length-take count new, length-take-le count old in_old),
      λ k low. sym (get_or-take count new k 0 low) ∙ ap (λ s. get_or s k 0) front ∙ get_or-take count old k 0 low,
    )

pub keeps_whole : (old due new : List ℕ) → KeepsUpToChange old due new → due ≡ old → new ≡ old
keeps_whole old due new kept same =
    let count = length old + length new in
    sym (take_all count new (omega arith)) ∙ kept count (ap (take count) same) ∙ take_all count old (omega arith)

pub keeps : KeepsWhatWasToStay
keeps old due new kept = (keeps_bytes old due new kept, keeps_whole old due new kept)
