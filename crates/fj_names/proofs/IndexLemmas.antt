-- The index of names once another variable or group is declared.
use Rattle.std.proofs.Common.{ℕ, ◌≡◌, ◌+◌, ◌*◌, true, false, cond, List, [], ◌∷◌, ◌++◌, length, min, Option, Some, None, refl, sym, ap, ◌∙◌, subst, arith}
use Rattle.std.specs.List.{sum_by}
use Rattle.std.specs.Option.{is_some}
use Rattle.std.specs.BTreeMap.{BTreeMap, insert_entry, is_at, get_by}
use Rattle.std.specs.Map.{lookup}
use Rattle.std.specs.Str.{bytes_eq}
use Rattle.std.specs.Cmp.Lexicographic.{slice_cmp}
use Rattle.std.specs.Ordering.{nat_cmp}
use Rattle.std.specs.declared.alloc.Global.{Global}
use Rattle.std.specs.declared.vec.Vec.{Vec}
use Rattle.std.proofs.lemmas.List.Sums.{sum_by_push}
use Rattle.fj_statement.specs.declared.deck.Variable.{Variable}
use Rattle.fj_names.specs.declared.scope.Namelist.{Namelist}
use Rattle.fj_names.specs.declared.scope.Named.{Named}
use Rattle.fj_names.specs.declared.scope.Named.TheVariants as stands_for
use Rattle.fj_names.specs.declared.scope.Scope.{Scope}
use Rattle.fj_names.specs.Scope.{named}
use Rattle.fj_names.specs.Declaring.{places, characters}
use Rattle.fj_names.specs.Index.{IsIndexed}
use Rattle.fj_names.proofs.NameLemmas.{at_inserted, named_variable, named_group, more_variables, more_groups, vec_cmp}

nothing_found : (name : List ℕ) (vs : List Variable) (gs : List Namelist) (ls : List ℕ) → vs ≡ [] → gs ≡ [] → named (record { variables = vs; groups = gs; lines = ls }) name ≡ None
unfolding named
nothing_found name vs gs ls v g = rw (v, g) refl

pub nothing_indexed : (vs : List Variable) (gs : List Namelist) (ls : List ℕ) (index : BTreeMap (Vec ℕ Global) Named) → vs ≡ [] → gs ≡ [] → index.entries ≡ [] →
    IsIndexed (record { variables = vs; groups = gs; lines = ls }) index 0 0
nothing_indexed vs gs ls index v g e = record {
  finds = λ name. ap (λ es. lookup (is_at (λ k. slice_cmp nat_cmp name k.items)) es) e ∙ sym (nothing_found name vs gs ls v g);
  places_are = ap (λ us. min (sum_by places us) 1000001) (sym v);
  characters_are = ap (λ us. min (sum_by characters us) 16777217) (sym v);
}

finds_more : (s t : Scope) (index new : BTreeMap (Vec ℕ Global) Named) (key : Vec ℕ Global) (new_name : List ℕ) (n : Named) →
    ((name : List ℕ) → get_by (λ k. slice_cmp nat_cmp name k.items) index ≡ named s name) → key.items ≡ new_name →
    new.entries ≡ insert_entry vec_cmp index.entries key n → ((name : List ℕ) → named t name ≡ cond (bytes_eq name new_name) (Some n) (named s name)) →
    (name : List ℕ) → get_by (λ k. slice_cmp nat_cmp name k.items) new ≡ named t name
finds_more s t index new key new_name n finds is entries more name =
    ap (λ es. lookup (is_at (λ k. slice_cmp nat_cmp name k.items)) es) entries ∙ at_inserted name key n index.entries
    ∙ ap (λ l. cond (bytes_eq name l) (Some n) (get_by (λ k. slice_cmp nat_cmp name k.items) index)) is
    ∙ ap (λ o. cond (bytes_eq name new_name) (Some n) o) (finds name) ∙ sym (more name)

-- the sum of one more
sum_more : (f : Variable → ℕ) (vs : List Variable) (v : Variable) (n most : ℕ) → n ≡ min (sum_by f vs) (most + 1) →
    min (n + f v) (most + 1) ≡ min (sum_by f (vs ++ v ∷ [])) (most + 1)
sum_more f vs v n most h = omega (arith, sum_by_push f vs v)

pub variable_indexed : (s : Scope) (index new : BTreeMap (Vec ℕ Global) Named) (p c p_new c_new : ℕ) (key : Vec ℕ Global) (v : Variable) (n : ℕ) (vs : List Variable) →
    IsIndexed s index p c → named s v.name ≡ None → key.items ≡ v.name → n ≡ length s.variables → new.entries ≡ insert_entry vec_cmp index.entries key (stands_for.Variable n) →
    vs ≡ s.variables ++ v ∷ [] → p_new ≡ min (p + places v * 1) 1000001 → c_new ≡ min (c + characters v) 16777217 →
    IsIndexed (record { variables = vs; groups = s.groups; lines = s.lines }) new p_new c_new
variable_indexed s index new p c p_new c_new key v n vs h none is number entries more p_is c_is =
    let index_more : new.entries ≡ insert_entry vec_cmp index.entries key (stands_for.Variable (length s.variables)) =
    entries ∙ ap (λ m. insert_entry vec_cmp index.entries key (stands_for.Variable m)) number in
    subst (λ (us : List Variable). let t : Scope = record { variables = us; groups = s.groups; lines = s.lines } in IsIndexed t new p_new c_new) (sym more)
    (record {
      finds = finds_more s (more_variables s v) index new key v.name (stands_for.Variable (length s.variables)) h.finds is index_more (λ name. named_variable s v name none);
      places_are = (let e : min (p + places v) 1000001 ≡ min (sum_by places (s.variables ++ v ∷ [])) 1000001 = sum_more places s.variables v p 1000000 h.places_are in omega arith);
      characters_are = c_is ∙ sum_more characters s.variables v c 16777216 h.characters_are;
    })

pub group_indexed : (s : Scope) (index new : BTreeMap (Vec ℕ Global) Named) (p c : ℕ) (key : Vec ℕ Global) (g : Namelist) (n line : ℕ) (gs : List Namelist) (ls : List ℕ) →
    IsIndexed s index p c → named s g.name ≡ None → key.items ≡ g.name → n ≡ length s.groups → new.entries ≡ insert_entry vec_cmp index.entries key (stands_for.Group n) →
    gs ≡ s.groups ++ g ∷ [] → ls ≡ s.lines ++ line ∷ [] →
    IsIndexed (record { variables = s.variables; groups = gs; lines = ls }) new p c
group_indexed s index new p c key g n line gs ls h none is number entries more lines =
    let index_more : new.entries ≡ insert_entry vec_cmp index.entries key (stands_for.Group (length s.groups)) =
    entries ∙ ap (λ m. insert_entry vec_cmp index.entries key (stands_for.Group m)) number in
    subst (λ (hs : List Namelist). let t : Scope = record { variables = s.variables; groups = hs; lines = ls } in IsIndexed t new p c) (sym more)
    (subst (λ (ks : List ℕ). let t : Scope = record { variables = s.variables; groups = s.groups ++ g ∷ []; lines = ks } in IsIndexed t new p c) (sym lines)
    (record {
      finds = finds_more s (more_groups s g line) index new key g.name (stands_for.Group (length s.groups)) h.finds is index_more (λ name. named_group s g line name none);
      places_are = h.places_are;
      characters_are = h.characters_are;
    }))

-- a name that stood for nothing when it was looked for
pub none_from : (s t : Scope) (name copy : List ℕ) (r : Option Named) → s ≡ t → copy ≡ name → r ≡ named t name → is_some r ≡ false → named s copy ≡ None
none_from s t name copy None same_scope same_name is gone = ap (λ u. named u copy) same_scope ∙ ap (named t) same_name ∙ sym is
none_from s t name copy (Some x) same_scope same_name is gone = absurd (let e : true ≡ false = gone in cc)
