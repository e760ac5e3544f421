use Rattle.std.proofs.Common.{rules, not, ap, ◌∙◌}
use Rattle.std.specs.Str.{bytes_eq}
use Rattle.std.proofs.lemmas.Fn.{filter_same}
use Rattle.fj_run_units.specs.Names.{left_of}
use Rattle.fj_run_units.proofs.names.Names.remove.Goals as goal

pub returns : goal.returns
returns c =
    filter_same _ (λ other. not (bytes_eq other c.args.name.now)) _ (λ x b f' k. search rules) _ _ c.retain.ensures.filtered
    ∙ ap (λ names. left_of names c.args.name.now) c.self.view_is
