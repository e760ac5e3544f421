use Rattle.std.proofs.Common.{◌≡◌, ◌++◌, ◌∷◌, [], length, false, None, rules}
use Rattle.std.specs.Option.{is_some}
use Rattle.std.specs.BTreeMap.{insert_entry}
use Rattle.fj_names.specs.declared.scope.Namelist.{Namelist}
use Rattle.fj_names.specs.declared.scope.Named.TheVariants as stands_for
use Rattle.fj_names.specs.Scope.{named}
use Rattle.fj_names.proofs.NameLemmas.{vec_cmp}
use Rattle.fj_names.proofs.IndexLemmas.{group_indexed, none_from}
use Rattle.fj_names.proofs.names.Names.with_group.Goals as goal

pub invariant_of-result : goal.invariant_of-result
invariant_of-result c =
    let s = c.self.inside.scope in
    let g : Namelist = record { name = c.args.group.name; vars = c.in_ok-vars.vars } in
    let same : g.name ≡ c.bytes.result.now = search rules in
    let nothing : is_some c.named.result ≡ false = search rules in
    let none : named s g.name ≡ None = none_from s c.args.self c.bytes.result.now g.name c.named.result c.self.view_is same c.named.ensures nothing in
    let key : c.in_ok-key.key.items ≡ g.name = search rules in
    let number : c.in_ok-number.number ≡ length s.groups = search rules in
    let entries : c.insert.new.self.entries ≡ insert_entry vec_cmp c.self.inside.index.entries c.in_ok-key.key (stands_for.Group c.in_ok-number.number) = search rules in
    let more : c.push.new.self ≡ s.groups ++ g ∷ [] = search rules in
    let lines : c.push-2.new.self ≡ s.lines ++ c.args.line ∷ [] = search rules in
    group_indexed s c.self.inside.index c.insert.new.self c.self.inside.places c.self.inside.characters c.in_ok-key.key g c.in_ok-number.number c.args.line
    c.push.new.self c.push-2.new.self c.self.invariant none key number entries more lines
