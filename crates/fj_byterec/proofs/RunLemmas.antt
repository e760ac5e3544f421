-- A run of records put into a file.
use Rattle.std.proofs.Common.{◌≡◌, ℕ, ◌+◌, ◌-◌, false, List, ◌++◌, length, take, drop, replicate, min, refl, sym, ap, subst, ◌∙◌, arith, append_assoc}
use Rattle.std.proofs.lemmas.List.{take_at, drop_at, length-append, length-take-le, length-replicate}
use Rattle.fj_outside.specs.Bytes.{written}
use Rattle.fj_span.specs.Change.{with_piece, KeepsUpToChange, IsChanged}
use Rattle.fj_span.proofs.ChangeLaws.{changed_none, changed_next, kept_at_piece, made_whole}
use Rattle.fj_byterec.specs.Pieces.{filled_to}
use Rattle.fj_byterec.specs.Runs.{with_run}
use Rattle.fj_byterec.proofs.RecordLaws.{gap, next_piece, before_record, behind_record}

module _ (old run : List ℕ) (start fill : ℕ) where
  abbrev due : List ℕ
  due = with_run old start run fill

  abbrev low : ℕ
  low = min start (length old)

  abbrev front : List ℕ
  front = take low old

  abbrev hole : List ℕ
  hole = gap old start fill

  abbrev behind : List ℕ
  behind = drop (start + length run) old

  parts : due ≡ front ++ (hole ++ (run ++ behind))
  parts =
      ap (λ s. s ++ run ++ drop (start + length run) (filled_to old start fill)) (before_record old start fill)
      ∙ ap (λ s. front ++ hole ++ run ++ s) (behind_record old start fill (start + length run) (omega arith))
      ∙ append_assoc (front ++ hole) run behind
      ∙ append_assoc front hole (run ++ behind)

  front_long : length front ≡ low
  front_long = length-take-le low old (omega arith)

  hole_long : length hole ≡ start - low
  hole_long = length-replicate (start - low) fill

  begun : IsChanged old due low old
  begun = changed_none old due low (omega arith) (ap (take low) parts ∙ take_at front (hole ++ (run ++ behind)) low front_long)

  next_gap : hole ≡ take (length hole) (drop low due)
  next_gap = next_piece due front hole (run ++ behind) low parts front_long

  next_run : run ≡ take (length run) (drop start due)
  next_run =
      next_piece due (front ++ hole) run behind start (parts ∙ sym (append_assoc front hole (run ++ behind)))
      (length-append front hole ∙ omega (arith, front_long, hole_long))

  same_behind : drop (start + length run) due ≡ drop (start + length run) old
  same_behind =
      ap (drop (start + length run)) (parts ∙ sym (append_assoc front hole (run ++ behind)) ∙ sym (append_assoc (front ++ hole) run behind))
      ∙ drop_at (front ++ hole ++ run) behind (start + length run)
      (omega (arith, length-append (front ++ hole) run, length-append front hole, front_long, hole_long))

-- the gap, and the run behind it: stopped in each, and after each
pub kept_in_hole : (old run new : List ℕ) (start fill low' len : ℕ) → low' ≡ min start len → len ≡ length old
    → KeepsUpToChange old (written old low' (replicate (start - low') fill)) new → KeepsUpToChange old (with_run old start run fill) new
kept_in_hole old run new start fill low' len least is stopped =
    let place : low' ≡ min start (length old) = omega arith in
    kept_at_piece old (with_run old start run fill) old (gap old start fill) new (min start (length old)) (begun old run start fill) (next_gap old run start fill)
    (subst (λ (n : ℕ). KeepsUpToChange old (written old n (replicate (start - n) fill)) new) place stopped)

pub after_hole : (old run now : List ℕ) (start fill low' len : ℕ) → low' ≡ min start len → len ≡ length old
    → now ≡ written old low' (replicate (start - low') fill) → IsChanged old (with_run old start run fill) start now
after_hole old run now start fill low' len least is made =
    let place : low' ≡ min start (length old) = omega arith in
    let made' : now ≡ written old (min start (length old)) (gap old start fill) = made ∙ ap (λ n. written old n (replicate (start - n) fill)) place in
    let end : min start (length old) + length (gap old start fill) ≡ start = omega (arith, length-replicate (start - min start (length old)) fill) in
    changed_next old (with_run old start run fill) old (gap old start fill) now (min start (length old)) start (begun old run start fill) (next_gap old run start fill) made' end

pub kept_in_run : (old run now new : List ℕ) (start fill : ℕ) → IsChanged old (with_run old start run fill) start now → KeepsUpToChange now (with_piece now start run false) new
    → KeepsUpToChange old (with_run old start run fill) new
kept_in_run old run now new start fill is stopped = kept_at_piece old (with_run old start run fill) now run new start is (next_run old run start fill) stopped

pub after_run : (old run now new : List ℕ) (start fill : ℕ) → IsChanged old (with_run old start run fill) start now → new ≡ with_piece now start run false → new ≡ with_run old start run fill
after_run old run now new start fill is made =
    let due = with_run old start run fill in
    made_whole old due new (start + length run) (changed_next old due now run new start (start + length run) is (next_run old run start fill) made refl) (same_behind old run start fill)
