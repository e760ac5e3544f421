use Rattle.std.proofs.Common.{◌≡◌, ◌+◌, ◌*◌, ◌++◌, ◌∷◌, [], length, min, false, None, rules}
use Rattle.std.specs.Option.{is_some}
use Rattle.std.specs.BTreeMap.{insert_entry}
use Rattle.fj_statement.specs.declared.deck.Variable.{Variable}
use Rattle.fj_names.specs.declared.scope.Named.TheVariants as stands_for
use Rattle.fj_names.specs.Scope.{named}
use Rattle.fj_names.specs.Declaring.{places, characters}
use Rattle.fj_names.proofs.NameLemmas.{vec_cmp}
use Rattle.fj_names.proofs.IndexLemmas.{variable_indexed, none_from}
use Rattle.fj_names.proofs.names.Names.with_variable.Goals as goal

pub invariant_of-result : goal.invariant_of-result
invariant_of-result c =
    let s = c.self.inside.scope in
    let v : Variable = record { name = c.in_ok-name.name; kind = c.args.kind; count = c.unwrap_or-count.result; line = c.args.line } in
    let copied : c.in_ok-name.name ≡ c.bytes.result.now = search rules in
    let no : is_some c.named.result ≡ false = search rules in
    let none : named s v.name ≡ None = none_from s c.args.self c.bytes.result.now v.name c.named.result c.self.view_is copied c.named.ensures no in
    let key : c.in_ok-key.key.items ≡ v.name = search rules in
    let number : c.in_ok-var.var ≡ length s.variables = search rules in
    let entries : c.insert.new.self.entries ≡ insert_entry vec_cmp c.self.inside.index.entries c.in_ok-key.key (stands_for.Variable c.in_ok-var.var) = search rules in
    let more : c.push.new.self ≡ s.variables ++ v ∷ [] = search rules in
    let p : c.capped-places.result ≡ min (c.self.inside.places + places v * 1) 1000001 = search rules in
    let q : c.capped-characters.result ≡ min (c.self.inside.characters + characters v) 16777217 = search rules in
    variable_indexed s c.self.inside.index c.insert.new.self c.self.inside.places c.self.inside.characters c.capped-places.result c.capped-characters.result c.in_ok-key.key v
    c.in_ok-var.var c.push.new.self c.self.invariant none key number entries more p q
