-- The motions and INQUIRE over desks.
use Rattle.std.proofs.Common.{◌≡◌, ℕ, ℤ, Bool, true, false, List, [], ◌∷◌, Option, Some, None, refl, sym, ap, ◌∙◌, subst, ◌||◌}
use Rattle.std.specs.Prelude.{if◌then◌else◌}
use Rattle.std.specs.List.{list_any}
use Rattle.fj_value.specs.declared.condition.Condition.TheVariants.{Fine, Error}
use Rattle.fj_value.specs.declared.value.Cell.{Cell}
use Rattle.fj_modes.specs.declared.modes.Modes.{Modes}
use Rattle.fj_modes.specs.declared.asked.Question.{Question}
use Rattle.fj_modes.specs.declared.asked.Question.TheVariants as question
use Rattle.fj_modes.specs.declared.asked.Wanted.{Wanted}
use Rattle.fj_statement.specs.declared.unit.Subject.{Subject}
use Rattle.fj_statement.specs.declared.unit.Subject.TheVariants as subject
use Rattle.fj_modes.specs.declared.motion.Motion.{Motion}
use Rattle.fj_modes.specs.declared.motion.Motion.TheVariants as motion
use Rattle.fj_connect.specs.Positions as position
use Rattle.fj_connect.specs.declared.spot.Positioning.{Positioning}
use Rattle.fj_connect.specs.declared.spot.Positioning.TheVariants as positioning
use Rattle.fj_statement.specs.declared.deck.Variable.{Variable}
use Rattle.fj_statement.specs.declared.statement.Operand.{Operand}
use Rattle.fj_bay.specs.Jobs.{Looked, looked_at, go, flush, look}
use Rattle.fj_bay.specs.Serving.{serve}
use Rattle.fj_bay.proofs.Keeping.{moved_kept}
use Rattle.fj_meaning.specs.Items.{given_back}
use Rattle.fj_meaning.specs.Needs.{number_given, unit_about, unit_of_file, holders}
use Rattle.fj_meaning.specs.State.{State, found, with_unit}
use Rattle.fj_meaning.specs.Connecting as plainly
use Rattle.fj_meaning.specs.Inquiring.{answer_to, value_for, inquired}
use Rattle.fj_meaning.specs.Statement as meant
use Rattle.fj_meaning.specs.Statement.{has_pending, about_other, about_connected, file_asked}
use Rattle.fj_meaning_jobs.specs.Core.{Connected, connected_at, pending_holders, unit_named}
use Rattle.fj_meaning_jobs.specs.Desks.{carry, look_in, condition_in}
use Rattle.fj_meaning_jobs.specs.Doing.{Desked, acted, finishes, awaits}
use Rattle.fj_meaning_jobs.specs.Acting.{moves, job_of, asks_connection, answers, about_unit, inquires, unit_at}
use Rattle.fj_meaning_jobs.proofs.Carrying.{Serves, serves_at}
use Rattle.fj_meaning_jobs.proofs.Seen.{At, at_unit, not_at_unit, named_same}
use Rattle.fj_meaning_jobs.proofs.Tied.{Tied, ActTied, bay_of, unit_moves, unit_stays, with_vars, holders_same}

-- ---- motions

motion_tied : (p : Desked) (s : State) (how : Motion) (number : ℕ) (u : Connected) (at : At p.desks s.units number u) → Tied p s → connected_at p.core.units number ≡ Some u
    → ActTied (acted p.desks (moves p.core how (Some u))) (plainly.moves s how (Some at.it))
unfolding serve
motion_tied p s how number u at t e =
    subst (λ o. ActTied (acted (carry p.desks u.slot (job_of how)) (finishes p.core (condition_in o.1))) (plainly.moves s how (Some at.it))) (sym (job how).outcome_is) (by how)
  where
    job : (how : Motion) → Serves p.desks u.slot (job_of how) (bay_of at.it)
    job how = serves_at p.desks u.slot (job_of how) (bay_of at.it) at.seen.bay

    goes : (how : Positioning) → ActTied (record { core = p.core; desks = carry p.desks u.slot (go how) }, (position.moved at.it.connection how).1)
        (record s { units = with_unit (record (at.it) { connection = (position.moved at.it.connection how).0 }) s.units }, (position.moved at.it.connection how).1)
    goes how = (
      refl,
      unit_moves p s number u at (carry p.desks u.slot (go how)) (position.moved at.it.connection how).0 at.it.halt t e (serves_at p.desks u.slot (go how) (bay_of at.it) at.seen.bay).reaches
          (moved_kept at.it.connection how).named (moved_kept at.it.connection how).modes,
    )

    by : (how : Motion) → ActTied (record { core = p.core; desks = carry p.desks u.slot (job_of how) }, condition_in (serve (bay_of at.it) (job_of how)).answer) (plainly.moves s how (Some at.it))
    by motion.Flush = (refl, unit_stays p s number u (carry p.desks u.slot flush) (bay_of at.it) t e at.seen.bay (job motion.Flush).reaches)
    by motion.Backspace = goes positioning.Backspace
    by motion.Rewind = goes positioning.Rewind
    by motion.Endfile = goes positioning.Endfile

pub moves_tied : (p : Desked) (s : State) (how : Motion) (number : Option ℕ) → Tied p s → ActTied (acted p.desks (moves p.core how (unit_at p.core number))) (plainly.moves s how (meant.unit_at s number))
moves_tied p s how None t = (refl, t)
moves_tied p s how (Some number) t = by (connected_at p.core.units number) refl
  where
    by : (o : Option Connected) → connected_at p.core.units number ≡ o → ActTied (acted p.desks (moves p.core how o)) (plainly.moves s how (found s.units number))
    by None e = subst (λ o. ActTied (p, Error 1) (plainly.moves s how o)) (sym (not_at_unit p.desks p.core.units s.units number t.same.units e).0) (refl, t)
    by (Some u) e = let at = at_unit p.desks p.core.units s.units number u t.same.units e in
        subst (λ o. ActTied (acted p.desks (moves p.core how (Some u))) (plainly.moves s how o)) (sym at.found_is) (motion_tied p s how number u at t e)

-- ---- INQUIRE

-- an answer that does not look at the connection
asks_less : (number : ℕ) (file : Option (List ℕ)) (name : List ℕ) (modes : Modes) (pending : Bool) (looked : Looked) (q : Question) → asks_connection q ≡ false
    → answer_to (about_connected number file name modes None pending) q ≡ answer_to (about_connected number file name modes (Some looked) pending) q
asks_less number file name modes pending looked question.Exist e = refl
asks_less number file name modes pending looked question.Opened e = refl
asks_less number file name modes pending looked question.Number e = refl
asks_less number file name modes pending looked question.Named e = refl
asks_less number file name modes pending looked question.Name e = refl
asks_less number file name modes pending looked question.Access e = refl
asks_less number file name modes pending looked question.Form e = refl
asks_less number file name modes pending looked question.Recl e = refl
asks_less number file name modes pending looked question.Nextrec e = cc
asks_less number file name modes pending looked question.Pos e = cc
asks_less number file name modes pending looked question.Size e = cc
asks_less number file name modes pending looked question.Blank e = refl
asks_less number file name modes pending looked question.Delim e = refl
asks_less number file name modes pending looked question.Pad e = refl
asks_less number file name modes pending looked question.Decimal e = refl
asks_less number file name modes pending looked question.Sign e = refl
asks_less number file name modes pending looked question.Action e = refl
asks_less number file name modes pending looked question.Asynchronous e = refl
asks_less number file name modes pending looked question.Pending e = refl

all_less : (number : ℕ) (file : Option (List ℕ)) (name : List ℕ) (modes : Modes) (pending : Bool) (looked : Looked) (asked : List Wanted) → list_any (λ (w : Wanted). asks_connection w.what) asked ≡ false
    → inquired (about_connected number file name modes None pending) asked ≡ inquired (about_connected number file name modes (Some looked) pending) asked
all_less number file name modes pending looked [] e = refl
all_less number file name modes pending looked (w ∷ ws) e = by (asks_connection w.what) refl e (λ q. all_less number file name modes pending looked ws q)
  where
    by : (b : Bool) → asks_connection w.what ≡ b → (b || list_any (λ (x : Wanted). asks_connection x.what) ws) ≡ false
        → (list_any (λ (x : Wanted). asks_connection x.what) ws ≡ false → inquired (about_connected number file name modes None pending) ws ≡ inquired (about_connected number file name modes (Some looked) pending) ws)
        → inquired (about_connected number file name modes None pending) (w ∷ ws) ≡ inquired (about_connected number file name modes (Some looked) pending) (w ∷ ws)
    by true q e f = cc
    by false q e f =
        ap (λ a. let cell : Cell = record { place = w.place; kind = w.kind; value = value_for w.kind a } in cell ∷ inquired (about_connected number file name modes None pending) ws) (asks_less number file name modes pending looked w.what q)
        ∙ ap (λ l. let cell : Cell = record { place = w.place; kind = w.kind; value = value_for w.kind (answer_to (about_connected number file name modes (Some looked) pending) w.what) } in cell ∷ l) (f e)

found_inquires : (variables : List Variable) (p : Desked) (s : State) (number : ℕ) (file : Option (List ℕ)) (asked : List Wanted) (id : Option ℤ) (u : Connected) (at : At p.desks s.units number u) → Tied p s → connected_at p.core.units number ≡ Some u
    → ActTied (acted p.desks (inquires variables p.core (Some number) file asked id (Some u)))
    (record s { vars = given_back variables (inquired (about_connected at.it.number file at.it.connection.name at.it.connection.modes (Some (looked_at at.it.connection)) (has_pending (holders s.book) (Some number) id)) asked) s.vars }, Fine)
unfolding serve
found_inquires variables p s number file asked id u at t e = by (list_any (λ (w : Wanted). asks_connection w.what) asked) refl
  where
    abouts : (looked : Option Looked) → about_unit p.core (Some number) file id u looked
        ≡ about_connected at.it.number file at.it.connection.name at.it.connection.modes looked (has_pending (holders s.book) (Some number) id)
    abouts looked =
        ap (λ n. about_connected n file u.name u.modes looked (has_pending (pending_holders p.core.book) (Some number) id)) at.seen.number
        ∙ ap (λ n. about_connected at.it.number file n u.modes looked (has_pending (pending_holders p.core.book) (Some number) id)) at.seen.name
        ∙ ap (λ m. about_connected at.it.number file at.it.connection.name m looked (has_pending (pending_holders p.core.book) (Some number) id)) at.seen.modes
        ∙ ap (λ h. about_connected at.it.number file at.it.connection.name at.it.connection.modes looked (has_pending h (Some number) id)) (holders_same p s t.same)

    cells : List Cell
    cells = inquired (about_connected at.it.number file at.it.connection.name at.it.connection.modes (Some (looked_at at.it.connection)) (has_pending (holders s.book) (Some number) id)) asked

    by : (b : Bool) → list_any (λ (w : Wanted). asks_connection w.what) asked ≡ b
        → ActTied (acted p.desks (if b then awaits u.slot (look None) p.core (λ o. answers variables p.core (about_unit p.core (Some number) file id u (look_in o.0)) asked) else answers variables p.core (about_unit p.core (Some number) file id u None) asked))
        (record s { vars = given_back variables cells s.vars }, Fine)
    by true q =
        let job = serves_at p.desks u.slot (look None) (bay_of at.it) at.seen.bay in
        subst (λ o. ActTied (acted (carry p.desks u.slot (look None)) (answers variables p.core (about_unit p.core (Some number) file id u (look_in o.0)) asked)) (record s { vars = given_back variables cells s.vars }, Fine)) (sym job.outcome_is) (
          refl,
          with_vars (record { core = p.core; desks = carry p.desks u.slot (look None) }) s (given_back variables (inquired (about_unit p.core (Some number) file id u (Some (looked_at at.it.connection))) asked) p.core.vars) (given_back variables cells s.vars)
              (ap (λ a. given_back variables (inquired a asked) p.core.vars) (abouts (Some (looked_at at.it.connection))) ∙ ap (given_back variables cells) t.same.vars)
              (unit_stays p s number u (carry p.desks u.slot (look None)) (bay_of at.it) t e at.seen.bay job.reaches),
        )
    by false q = (
      refl,
      with_vars p s (given_back variables (inquired (about_unit p.core (Some number) file id u None) asked) p.core.vars) (given_back variables cells s.vars)
          (ap (λ a. given_back variables (inquired a asked) p.core.vars) (abouts None)
          ∙ ap (λ l. given_back variables l p.core.vars) (all_less at.it.number file at.it.connection.name at.it.connection.modes (has_pending (holders s.book) (Some number) id) (looked_at at.it.connection) asked q)
          ∙ ap (given_back variables cells) t.same.vars) t,
    )

none_inquires : (variables : List Variable) (p : Desked) (s : State) (number : Option ℕ) (file : Option (List ℕ)) (asked : List Wanted) (id : Option ℤ) → Tied p s
    → ActTied (acted p.desks (inquires variables p.core number file asked id None)) (record s { vars = given_back variables (inquired (meant.about s number file id None) asked) s.vars }, Fine)
none_inquires variables p s number file asked id t = (
  refl,
  with_vars p s (given_back variables (inquired (about_other p.core.files file) asked) p.core.vars) (given_back variables (inquired (about_other s.files file) asked) s.vars)
      (ap (λ f. given_back variables (inquired (about_other f file) asked) p.core.vars) t.same.files ∙ ap (given_back variables (inquired (about_other s.files file) asked)) t.same.vars) t,
)

unit_inquires : (variables : List Variable) (p : Desked) (s : State) (number : Option ℕ) (file : Option (List ℕ)) (asked : List Wanted) (id : Option ℤ) → Tied p s
    → ActTied (acted p.desks (inquires variables p.core number file asked id (unit_at p.core number))) (record s { vars = given_back variables (inquired (meant.about s number file id (meant.unit_at s number)) asked) s.vars }, Fine)
unit_inquires variables p s None file asked id t = none_inquires variables p s None file asked id t
unit_inquires variables p s (Some number) file asked id t = by (connected_at p.core.units number) refl
  where
    by : (o : Option Connected) → connected_at p.core.units number ≡ o
        → ActTied (acted p.desks (inquires variables p.core (Some number) file asked id o)) (record s { vars = given_back variables (inquired (meant.about s (Some number) file id (found s.units number)) asked) s.vars }, Fine)
    by None e =
        subst (λ o. ActTied (acted p.desks (inquires variables p.core (Some number) file asked id None)) (record s { vars = given_back variables (inquired (meant.about s (Some number) file id o) asked) s.vars }, Fine))
        (sym (not_at_unit p.desks p.core.units s.units number t.same.units e).0) (none_inquires variables p s (Some number) file asked id t)
    by (Some u) e =
        let at = at_unit p.desks p.core.units s.units number u t.same.units e in
        subst (λ o. ActTied (acted p.desks (inquires variables p.core (Some number) file asked id (Some u))) (record s { vars = given_back variables (inquired (meant.about s (Some number) file id o) asked) s.vars }, Fine))
        (sym at.found_is) (found_inquires variables p s number file asked id u at t e)

pub inquires_tied : (variables : List Variable) (p : Desked) (s : State) (about : Subject) (asked : List Wanted) (id : Option Operand) → Tied p s
    → ActTied (acted p.desks (inquires variables p.core (unit_about (unit_named p.core.units) about) (file_asked about) asked (number_given p.core.vars id) (unit_at p.core (unit_about (unit_named p.core.units) about))))
    (meant.inquires variables s (unit_about (unit_of_file s.units) about) (file_asked about) asked id)
inquires_tied variables p s about asked id t =
    subst (λ n. ActTied (acted p.desks (inquires variables p.core n (file_asked about) asked (number_given p.core.vars id) (unit_at p.core n))) (meant.inquires variables s (unit_about (unit_of_file s.units) about) (file_asked about) asked id)) (sym (asked_same about))
    (subst (λ v. ActTied (acted p.desks (inquires variables p.core number (file_asked about) asked (number_given v id) (unit_at p.core number))) (meant.inquires variables s number (file_asked about) asked id)) (sym t.same.vars)
    (unit_inquires variables p s number (file_asked about) asked (number_given s.vars id) t))
  where
    number : Option ℕ
    number = unit_about (unit_of_file s.units) about

    asked_same : (about : Subject) → unit_about (unit_named p.core.units) about ≡ unit_about (unit_of_file s.units) about
    asked_same (subject.Unit ref) = refl
    asked_same (subject.File name) = named_same p.desks p.core.units s.units name t.same.units
