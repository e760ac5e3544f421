-- A statement waits for the transfers that WAIT at its unit waits for.
use Rattle.std.proofs.Common.{◌≡◌, Bool, true, false, [], inl, inr, refl, sym, ap, ◌∙◌}
use Rattle.std.specs.Prelude.{if◌then◌else◌}
use Rattle.fj_statement.specs.declared.statement.Statement.TheVariants as statement
use Rattle.fj_meaning.specs.Needs.{number_of, number_of_subject, number_given}
use Rattle.fj_meaning.specs.Telling.{of_unit, waited_by, if_done}
use Rattle.fj_meaning_cut.specs.Awaiting.{WaitsAsWait}

pub waits_as_wait : WaitsAsWait
waits_as_wait s (statement.Assign to from) n other look w = absurd w
waits_as_wait s (statement.OpenUnit u spec iostat) n other look w = ap (of_unit s.book) w
waits_as_wait s (statement.CloseUnit u keep iostat) n other look w = ap (of_unit s.book) w
waits_as_wait s (statement.WaitFor u id iostat) n other look w = ap (λ number. waited_by s.book number (number_given s.vars id)) w
waits_as_wait s (statement.Move how u iostat) n other look w = ap (of_unit s.book) w
waits_as_wait s (statement.Inquire about asked id iostat _) n other look (inl w) = absurd (let z : false ≡ true = sym look ∙ w.0 in cc)
waits_as_wait s (statement.Inquire about asked id iostat _) n other look (inr w) =
    ap (λ d. if_done d (waited_by s.book (number_of_subject about) (number_given s.vars id))) w.0 ∙ ap (λ number. waited_by s.book number (number_given s.vars id)) w.1
waits_as_wait s (statement.Transfer t) n other look w = ap (λ (b : Bool). if b then [] else of_unit s.book (number_of t.unit)) w.0 ∙ ap (of_unit s.book) w.1
waits_as_wait s statement.End n other look w = absurd (other refl)
