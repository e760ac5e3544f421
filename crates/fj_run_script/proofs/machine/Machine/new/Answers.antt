use Rattle.std.proofs.Common.{◌≡◌, Some, length, replicate, ap, ◌∙◌, rules, None, sym, subst, arith, ◌-◌}
use Rattle.std.specs.Prelude.{◌*◌, ◌^◌, min}
use Rattle.fj_meaning_jobs.specs.Core.{Core as PlainCore}
use Rattle.fj_meaning_jobs.specs.Desking.{fresh}
use Rattle.fj_meaning.specs.Statement.{stated}
use Rattle.fj_run_script.proofs.Made.{core_kept, run_made}
use Rattle.std.specs.List.{sum}
use Rattle.fj_run_script.specs.Going.{CanCount, asked_for}
use Rattle.fj_run_script.specs.Spending.{asks_for}
use Rattle.fj_run_script.proofs.Spending.{first_asks, none_owed}
use Rattle.fj_run_script.proofs.Counting.{first_can, first_files, first_owes, none_awaited}
use Rattle.fj_run_script.proofs.machine.Machine.new.Goals as goal

pub returns-clause-run : goal.returns-clause-run
returns-clause-run g c = λ files.
    let sent : c.in_ok-vec.field-0.items ≡ replicate 16 0 = search rules in
    let told : c.in_ok-vec-2.field-0.items ≡ replicate 16 0 = search rules in
    ap Some (run_made c.args.deck.variables (stated c.args.deck.statements) files _ c.in_ok-core.core.pending c.in_ok-vec.field-0.items c.in_ok-vec-2.field-0.items
    (c.in_ok-core.ensures.core files ∙ ap (λ vs. (fresh vs files).core) c.as_slice.ensures) c.in_ok-core.ensures.pending sent told)

pub returns-clause-on : goal.returns-clause-on
returns-clause-on g c = λ sound.
    let sent : c.in_ok-vec.field-0.items ≡ replicate 16 0 = search rules in
    let told : c.in_ok-vec-2.field-0.items ≡ replicate 16 0 = search rules in
    let core = c.in_ok-core.ensures.core (λ name. None) in
    let next : c.in_ok-core.core.next ≡ 1 = ap (λ (k : PlainCore). k.next) core in
    let t = c.in_ok-tally.ensures in
    let tally = c.in_ok-tally.tally in
    let files = first_files c.in_ok-core.core.names c.in_ok-core.core.units c.in_ok-core.ensures.names (ap (λ (k : PlainCore). k.units) core) in
    record {
      sound = sound;
      at = record {
        files = λ st more e. files;
        few = λ none. omega (arith, next);
        kept = core_kept c.as_slice.result.now c.in_ok-core.core (λ name. None) core;
      };
      sent = subst (CanCount c.in_ok-vec.field-0.items tally.left) (sym (ap asked_for t.0)) (first_can tally c.in_ok-vec.field-0.items t.5 sent);
      told = first_can tally c.in_ok-vec-2.field-0.items t.5 told;
      owes = first_owes tally.hand tally.owed.items c.in_ok-vec.field-0.items c.in_ok-vec-2.field-0.items t.0 t.5 sent told;
      awaited = none_awaited tally.hand _ t.0;
      asks = λ none low. first_asks (length c.args.deck.statements) (sum tally.owed.items) (asks_for tally.hand) tally.left sound.few low (none_owed tally.owed.items t.5) (ap asks_for t.0) (t.4 ∙ ap (λ n. min (64 * n) (2 ^ 62 - 1)) c.len.ensures);
    }
