-- What a stopped write or cut keeps.
use Rattle.std.proofs.Common.{◌≡◌, ℕ, ◌+◌, ◌≤◌, Bool, true, false, List, ◌++◌, length, take, drop, refl, sym, ap, subst, ◌∙◌, arith, inl, inr, append_assoc, Ok, Err}
use Rattle.std.proofs.lemmas.List.{drop-drop, take-take, take-append-drop, take-append-le, take_at, drop_at, length-take-le, length-append, take_all}
use Rattle.std.proofs.lemmas.Bool.{cases_lt}
use Rattle.std.proofs.Math.Seq.{take-append-add, take-add}
use Rattle.std.specs.Prelude.{Result, OnErr}
use Rattle.fj_outside.specs.Bytes.{written, IsPartlyWritten}
use Rattle.fj_span.specs.Change.{with_piece, KeepsUpToChange, IsChanged}
use Rattle.fj_span.specs.ChangeLaw.{WritesInTurnKeepWhatWasToStay}

same_below : (old due new : List ℕ) (m n : ℕ) → take m new ≡ take m due → n ≤ m → take n due ≡ take n old → take n new ≡ take n old
same_below old due new m n front below same = sym (take-take n m new below) ∙ ap (take n) front ∙ take-take n m due below ∙ same

same_whole : (old due new : List ℕ) (m n : ℕ) → take m new ≡ take m due → drop m new ≡ drop m old → m ≤ n → take n due ≡ take n old → new ≡ old
same_whole old due new m n front rest above same =
    let start : take m new ≡ take m old = front ∙ sym (take-take m n due above) ∙ ap (take m) same ∙ take-take m n old above in
    sym (take-append-drop m new) ∙ ap (λ s. s ++ drop m new) start ∙ ap (λ s. take m old ++ s) rest ∙ take-append-drop m old

-- what holds anyway holds of a refusal
pub on_any_err : {T E P : Type 0} (r : Result T E) → P → OnErr r P
on_any_err (Ok x) p = tt
on_any_err (Err e) p = p

-- a file that is due up to a place, and old from there on
pub kept_by_front : (old due new : List ℕ) (m : ℕ) → take m new ≡ take m due → drop m new ≡ drop m old → KeepsUpToChange old due new
kept_by_front old due new m front rest n same =
    elim (cases_lt n m) [
      | inl below ↦ same_below old due new m n front (omega arith) same
      | inr above ↦ ap (take n) (same_whole old due new m n front rest above same)
    ]

take_two : (p q r : List ℕ) (m k : ℕ) → length p + k ≡ m → k ≤ length q → take m (p ++ q ++ r) ≡ p ++ take k q
take_two p q r m k e fits = rw (← e) (rw (append_assoc, take-append-add) (ap (λ s. p ++ s) (take-append-le k q r fits)))

take_front : (old piece : List ℕ) (at k : ℕ) (shorten : Bool) → at ≤ length old → k ≤ length piece → take (at + k) (with_piece old at piece shorten) ≡ take at old ++ take k piece
take_front old piece at k true within fits =
    let e : length (take at old) ≡ at = length-take-le at old within in
    rw (← ap (λ n. n + k) e) (take-append-add (take at old) piece k)
take_front old piece at k false within fits =
    let e : length (take at old) ≡ at = length-take-le at old within in
    take_two (take at old) piece (drop (at + length piece) old) (at + k) k (omega arith) fits

part_front : (old piece : List ℕ) (at k : ℕ) → at ≤ length old → k ≤ length piece → take (at + k) (written old at (take k piece)) ≡ take at old ++ take k piece
part_front old piece at k within fits =
    let e : length (take at old ++ take k piece) ≡ at + k = length-append (take at old) (take k piece) ∙ ap (λ n. n + length (take k piece)) (length-take-le at old within) ∙ ap (λ n. at + n) (length-take-le k piece fits) in
    take_at (take at old ++ take k piece) (drop (at + length (take k piece)) old) (at + k) e

part_rest : (old piece : List ℕ) (at k : ℕ) → at ≤ length old → k ≤ length piece → drop (at + k) (written old at (take k piece)) ≡ drop (at + k) old
part_rest old piece at k within fits =
    let p : length (take k piece) ≡ k = length-take-le k piece fits in
    let e : length (take at old ++ take k piece) ≡ at + k = length-append (take at old) (take k piece) ∙ ap (λ n. n + length (take k piece)) (length-take-le at old within) ∙ ap (λ n. at + n) p in
    drop_at (take at old ++ take k piece) (drop (at + length (take k piece)) old) (at + k) e ∙ ap (λ n. drop (at + n) old) p

-- after a write that was stopped
pub kept_by_part : (old piece new : List ℕ) (at size len : ℕ) (shorten : Bool) → at ≤ size → len ≡ size → len ≡ length old → IsPartlyWritten old at piece new → KeepsUpToChange old (with_piece old at piece shorten) new
kept_by_part old piece new at size len shorten place told is (k, fits, made) =
    let within : at ≤ length old = omega arith in
    kept_by_front old (with_piece old at piece shorten) new (at + k)
    (ap (take (at + k)) made ∙ part_front old piece at k within fits ∙ sym (take_front old piece at k shorten within fits))
    (ap (drop (at + k)) made ∙ part_rest old piece at k within fits)

-- after a write whose cut was stopped
pub kept_by_write : (old piece new : List ℕ) (at size len : ℕ) (shorten : Bool) → at ≤ size → len ≡ size → len ≡ length old → new ≡ written old at piece → KeepsUpToChange old (with_piece old at piece shorten) new
kept_by_write old piece new at size len shorten place told is made =
    kept_by_part old piece new at size len shorten place told is (length piece, omega arith, made ∙ ap (written old at) (sym (take_all (length piece) piece (omega arith))))

-- so much of due is the next piece
pub changed_more : (old due now piece : List ℕ) (place : ℕ) → IsChanged old due place now → piece ≡ take (length piece) (drop place due) → IsChanged old due (place + length piece) (with_piece now place piece false)
changed_more old due now piece place is next =
    let here : length (take place now) ≡ place = length-take-le place now is.within in
    let both : length (take place now ++ piece) ≡ place + length piece = length-append (take place now) piece ∙ ap (λ n. n + length piece) here in
    let tail = drop (place + length piece) now in
    record {
      front = take_at (take place now ++ piece) tail (place + length piece) both ∙ ap (λ s. s ++ piece) is.front ∙ ap (λ s. take place due ++ s) next ∙ sym (take-add place (length piece) due);
      rest = drop_at (take place now ++ piece) tail (place + length piece) both ∙ sym (drop-drop (length piece) place now) ∙ ap (drop (length piece)) is.rest ∙ drop-drop (length piece) place old;
      within = omega (arith, both, length-append (take place now ++ piece) tail);
    }

-- stopped on the way
pub kept_through : (old due now due' new : List ℕ) → KeepsUpToChange old due now → KeepsUpToChange old due due' → KeepsUpToChange now due' new → KeepsUpToChange old due new
kept_through old due now due' new before after stopped n same =
    let was : take n now ≡ take n old = before n same in
    stopped n (after n same ∙ sym was) ∙ was

pub kept_on_the_way : (old due now : List ℕ) (place : ℕ) → IsChanged old due place now → KeepsUpToChange old due now
kept_on_the_way old due now place is = kept_by_front old due now place is.front is.rest

-- stopped in the next piece
pub kept_at_piece : (old due now piece new : List ℕ) (place : ℕ) → IsChanged old due place now → piece ≡ take (length piece) (drop place due) → KeepsUpToChange now (with_piece now place piece false) new → KeepsUpToChange old due new
kept_at_piece old due now piece new place is next stopped =
    kept_through old due now (with_piece now place piece false) new (kept_on_the_way old due now place is)
    (kept_on_the_way old due (with_piece now place piece false) (place + length piece) (changed_more old due now piece place is next)) stopped

-- stopped in the last piece, behind which the file is cut
pub kept_at_end : (old due now piece new : List ℕ) (place : ℕ) → IsChanged old due place now → drop place due ≡ piece → KeepsUpToChange now (with_piece now place piece true) new → KeepsUpToChange old due new
kept_at_end old due now piece new place is next stopped =
    let made : with_piece now place piece true ≡ due = ap (λ s. s ++ piece) is.front ∙ ap (λ s. take place due ++ s) (sym next) ∙ take-append-drop place due in
    kept_through old due now due new (kept_on_the_way old due now place is) (λ n same. same) (subst (λ (d : List ℕ). KeepsUpToChange now d new) made stopped)

-- made whole by the last piece
pub made_at_end : (old due now piece new : List ℕ) (place : ℕ) → IsChanged old due place now → drop place due ≡ piece → new ≡ with_piece now place piece true → new ≡ due
made_at_end old due now piece new place is next made = made ∙ ap (λ s. s ++ piece) is.front ∙ ap (λ s. take place due ++ s) (sym next) ∙ take-append-drop place due

-- changed up to a place behind which due is old
pub made_whole : (old due now : List ℕ) (place : ℕ) → IsChanged old due place now → drop place due ≡ drop place old → now ≡ due
made_whole old due now place is same =
    sym (take-append-drop place now) ∙ ap (λ s. s ++ drop place now) is.front ∙ ap (λ s. take place due ++ s) (is.rest ∙ sym same) ∙ take-append-drop place due

-- before any change
pub changed_none : (old due : List ℕ) (place : ℕ) → place ≤ length old → take place due ≡ take place old → IsChanged old due place old
changed_none old due place within same = record { front = sym same; rest = refl; within = within }

-- changed by the next piece, up to its end
pub changed_next : (old due now piece new : List ℕ) (place behind : ℕ) → IsChanged old due place now → piece ≡ take (length piece) (drop place due) → new ≡ with_piece now place piece false → place + length piece ≡ behind
    → IsChanged old due behind new
changed_next old due now piece new place behind is next made end =
    subst (λ (n : ℕ). IsChanged old due n new) end (subst (IsChanged old due (place + length piece)) (sym made) (changed_more old due now piece place is next))

-- said of what is due in another form
pub kept_as : (old due due' new : List ℕ) → due ≡ due' → KeepsUpToChange old due new → KeepsUpToChange old due' new
kept_as old due due' new same kept = subst (λ (d : List ℕ). KeepsUpToChange old d new) same kept

pub made_as : (due due' new : List ℕ) → due ≡ due' → new ≡ due → new ≡ due'
made_as due due' new same made = made ∙ same

pub in_turn : WritesInTurnKeepWhatWasToStay
in_turn old due = (
  changed_none old due,
  λ place now piece is next. (changed_more old due now piece place is next, λ new stopped. kept_at_piece old due now piece new place is next stopped),
  λ place now piece is last. (
    made_at_end old due now piece (with_piece now place piece true) place is (sym last) refl,
    λ new stopped. kept_at_end old due now piece new place is (sym last) stopped,
  ),
)
