use Rattle.std.proofs.Common.{length, refl, sym, ◌∙◌}
use Rattle.std.proofs.lemmas.Option.{slice_get_read}
use Rattle.fj_unit.specs.Program.{outcome_of}
use Rattle.fj_unit.proofs.Kept.{get_mapped}
use Rattle.fj_unit.proofs.waits.copy_told.Goals as goal

pub returns-then-id_in-id : goal.returns-then-id_in-id
returns-then-id_in-id c = λ yes.
    let o = c.index-told-at.result in let told = c.args.told.now in let at = c.loop-at.at in
    record {
      at = at;
      outcome = outcome_of o;
      found = record {
        here = get_mapped outcome_of told at o (slice_get_read told (length told) at o refl c.loop-at-test.true c.index-told-at.is);
        is = sym c.id_in.ensures ∙ c.if-id_in-id.true;
      };
      values = c.copy_read.ensures yes;
    }
