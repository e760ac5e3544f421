-- What is declared is sound.
use Rattle.std.proofs.Common.{◌≡◌, ℕ, ◌<◌, ◌≤◌, true, List, [], ◌∷◌, ◌++◌, length, map, Some, refl, sym, subst, arith, leb, ◌&&◌, length-append}
use Rattle.std.specs.Prelude.{All}
use Rattle.std.specs.List.{sum_by}
use Rattle.std.proofs.lemmas.Bool.{and_parts, leb-true}
use Rattle.std.proofs.lemmas.List.Elements.{All-nil, All-cons, All-append}
use Rattle.std.proofs.lemmas.Option.{slice_get_within}
use Rattle.fj_statement.specs.declared.deck.Variable.{Variable}
use Rattle.fj_statement.specs.Sound.{AreWithin}
use Rattle.fj_names.specs.declared.scope.Namelist.{Namelist}
use Rattle.fj_names.specs.declared.scope.Scope.{Scope}
use Rattle.fj_names.specs.Declaring.{is_free, are_new, variable, with_variables, with_declaration, number_of, with_group, places, characters, is_within}
use Rattle.fj_names.specs.Giving.{each}
use Rattle.fj_names.specs.Scope.{empty, found}
use Rattle.fj_names.specs.Sound.{AreNamed, IsSoundScope, EmptyIsSound, DeclaredIsSound, GroupedIsSound}
use Rattle.fj_syntax.proofs.Holding.{bound, passed, some_is}
use Rattle.fj_names.proofs.SoundLemmas.{FoundIs, found_is}
use Rattle.fj_names.proofs.NameLemmas.{free_is_none}
use Rattle.fj_names.proofs.NamesSound.{group_more, nothing_named, variables_more}
use Rattle.fj_names.proofs.StatementSound.{each_is, each_length}

within_is : (vs : List Variable) → is_within vs ≡ true → AreWithin vs
within_is vs h =
    let b = and_parts (leb (length vs) 4096) (leb (sum_by places vs) 1000000 && leb (sum_by characters vs) 16777216) h in
    let c = and_parts (leb (sum_by places vs) 1000000) (leb (sum_by characters vs) 16777216) b.1 in
    record {
      variables = leb-true (length vs) 4096 b.0;
      places = leb-true (sum_by places vs) 1000000 c.0;
      characters = leb-true (sum_by characters vs) 16777216 c.1;
    }

abbrev HasMembers : Scope → Namelist → Type 0
HasMembers s g = All (λ var. var < length s.variables) g.vars

abbrev HasFew : Namelist → Type 0
HasFew g = length g.vars ≤ 1000

pub empty_sound : EmptyIsSound
empty_sound = record { within = within_is [] refl; members = All-nil (HasMembers empty); few = All-nil HasFew; names = nothing_named }

pub declared_sound : DeclaredIsSound
unfolding with_declaration
declared_sound s next line d sound names h limits =
    let p = passed (are_new s (map (λ e. e.name) d.entities)) (Some (with_variables s line d.kind d.entities)) next h in
    let same : with_variables s line d.kind d.entities ≡ next = some_is (with_variables s line d.kind d.entities) next p.1 in
    let vs = s.variables ++ map (variable line d.kind) d.entities in
    let more : length s.variables ≤ length vs = omega (arith, length-append s.variables (map (variable line d.kind) d.entities)) in
    record {
      within = within_is next.variables limits;
      members = subst (λ n. All (λ g. All (λ var. var < length n.variables) g.vars) n.groups) same
          (λ k e le i x lt. let low : _ < length s.variables = sound.members k e le i x lt in omega arith);
      few = subst (λ n. All HasFew n.groups) same sound.few;
      names = subst AreNamed same (variables_more s line d.kind d.entities sound.names names p.0);
    }

number_is : (s : Scope) (name : List ℕ) (n : ℕ) → number_of s name ≡ Some n → n < length s.variables
number_is s name n h =
    let f = bound (found s name) (λ f. Some f.var) n h in
    let is : FoundIs s f.0 = found_is s name f.0 f.1 in
    subst (λ k. k < length s.variables) (some_is f.0.var n f.2) (slice_get_within s.variables f.0.var is.variable is.is)

pub grouped_sound : GroupedIsSound
unfolding with_group
grouped_sound s next line g sound name few h =
    let p = passed (is_free s g.name) _ next h in
    let vars = bound (each (number_of s) g.members) _ next p.1 in
    let made : Namelist = record { name = g.name; vars = vars.0 } in
    let counted : HasFew made = subst (λ n. n ≤ 1000) (sym (each_length (number_of s) g.members vars.0 vars.1)) few in
    subst IsSoundScope (some_is _ next vars.2) (record {
      within = sound.within;
      members = All-append (HasMembers s) s.groups (made ∷ []) sound.members (All-cons (HasMembers s) made [] (each_is (number_of s) (λ var. var < length s.variables) (number_is s) g.members vars.0 vars.1) (All-nil (HasMembers s)));
      few = All-append HasFew s.groups (made ∷ []) sound.few (All-cons HasFew made [] counted (All-nil HasFew));
      names = group_more s made line sound.names (free_is_none s g.name p.0) name;
    })
