-- Each variable and group has a name of its own.
use Rattle.std.proofs.Common.{◌≡◌, ℕ, zero, suc, ◌+◌, Bool, true, cond, List, [], ◌∷◌, ◌++◌, length, map, Option, Some, None, refl, sym, ap, ◌∙◌, subst, ◌⊎◌, inl, inr, arith, append-nil}
use Rattle.std.specs.Prelude.{All, option_map, slice_get}
use Rattle.std.specs.List.{Contains, list_all, position, position_from}
use Rattle.std.specs.Option.{option_or}
use Rattle.std.specs.Str.{bytes_eq}
use Rattle.std.proofs.lemmas.Bool.{and_parts, cases_Bool}
use Rattle.std.proofs.lemmas.Iterator.Adapters.{position_from-zero}
use Rattle.std.proofs.lemmas.List.{length-map}
use Rattle.std.proofs.lemmas.List.Elements.{All-head, All-nil, All-push, All-tail}
use Rattle.std.proofs.lemmas.Option.{get_or_from_slice_get, slice_get-map, slice_get_within}
use Rattle.std.proofs.lemmas.Slice.Eq.{bytes_eq-Decides}
use Rattle.fj_value.specs.declared.kind.Kind.{Kind}
use Rattle.fj_format.specs.declared.item.FormatItem.{FormatItem}
use Rattle.fj_statement.specs.declared.deck.Variable.{Variable}
use Rattle.fj_statement.specs.declared.statement.Statement.{Statement}
use Rattle.fj_statement.specs.declared.statement.Statement.TheVariants as statement
use Rattle.fj_statement.specs.Sound.{HasGroup, IsName, NamesGroup, names_of}
use Rattle.fj_syntax.specs.declared.operand.Designator.{Designator}
use Rattle.fj_syntax.specs.declared.written.Format.{Format}
use Rattle.fj_syntax.specs.declared.written.Written.{Written}
use Rattle.fj_syntax.specs.declared.written.Written.TheVariants as written
use Rattle.fj_names.specs.declared.scope.Namelist.{Namelist}
use Rattle.fj_names.specs.declared.scope.Named.{Named}
use Rattle.fj_names.specs.declared.scope.Named.TheVariants as stands_for
use Rattle.fj_names.specs.declared.scope.Scope.{Scope}
use Rattle.fj_names.specs.Calls.{assigned, opened, closed, awaited, moved, inquired, goes_to, wanted}
use Rattle.fj_names.specs.Declaring.{are_apart, are_new, is_free, variable, with_variables}
use Rattle.fj_names.specs.Giving.{optional, each}
use Rattle.fj_names.specs.Units.{has_file, subject_meant, unit_meant}
use Rattle.fj_names.specs.Meaning.{meaning}
use Rattle.fj_names.specs.Operands.{integer_place, integer_operand, variable_meant, meant}
use Rattle.fj_names.specs.Scope.{empty, group_at, is_group, is_variable, members, named}
use Rattle.fj_names.specs.Sound.{AreNamed, GroupsAreDeclared, NamesAreApart, groups_of}
use Rattle.fj_names.specs.Transfer.{assembled, control_of, is_allowed, parts, transferred}
use Rattle.fj_names.proofs.NameLemmas.{are_new_more, free_is_none, more_groups, more_variables, named_group, named_variable, none_at, with_more}
use Rattle.fj_syntax.proofs.Holding.{bound, passed, some_is}
use Rattle.fj_names.proofs.SoundLemmas.{chosen}
use Rattle.fj_names.proofs.StatementSound.{made_is}

-- ---- lists

-- one of two lists has it
get_either : {X : Type 0} (xs ys : List X) (k : ℕ) (x : X) → slice_get (xs ++ ys) k ≡ Some x → (slice_get xs k ≡ Some x) ⊎ ((j : ℕ) × (k ≡ length xs + j) × (slice_get ys j ≡ Some x))
get_either [] ys k x e = inr (k, omega arith, e)
get_either (z ∷ xs) ys zero x e = inl e
get_either (z ∷ xs) ys (suc k) x e = elim (get_either xs ys k x e) [ inl a ↦ inl a | inr b ↦ inr (b.0, omega (arith, b.1), b.2) ]

get_one : {X : Type 0} (y x : X) (j : ℕ) → slice_get (y ∷ []) j ≡ Some x → (j ≡ 0) × (x ≡ y)
get_one y x zero e = (refl, cc)
get_one y x (suc j) e = cc

mapped_from : {A B : Type 0} (f : A → B) (o : Option A) (x : B) → option_map f o ≡ Some x → (y : A) × (o ≡ Some y) × (x ≡ f y)
mapped_from f None x h = cc
mapped_from f (Some y) x h = (y, refl, cc)

get_mapped : {A B : Type 0} (f : A → B) (xs : List A) (k : ℕ) (x : B) → slice_get (map f xs) k ≡ Some x → (y : A) × (slice_get xs k ≡ Some y) × (x ≡ f y)
get_mapped f xs k x e = mapped_from f (slice_get xs k) x (sym (slice_get-map f xs k) ∙ e)

-- ---- one name more

-- what a name stands for where one more stands for this
abbrev IsMore : Scope → Scope → List ℕ → Named → Type 0
IsMore s t new n = (name : List ℕ) → named t name ≡ cond (bytes_eq name new) (Some n) (named s name)

stands_still : (s t : Scope) (new name : List ℕ) (n x : Named) → IsMore s t new n → named s new ≡ None → named s name ≡ Some x → named t name ≡ Some x
stands_still s t new name n x more none is = elim (cases_Bool (bytes_eq name new)) [
  | inl e ↦ absurd (let no : None ≡ Some x = sym (none_at s name new none e) ∙ is in cc)
  | inr e ↦ more name ∙ ap (λ b. cond b (Some n) (named s name)) e ∙ is
]

stands_new : (s t : Scope) (new : List ℕ) (n : Named) → IsMore s t new n → named t new ≡ Some n
stands_new s t new n more = more new ∙ ap (λ b. cond b (Some n) (named s new)) ((bytes_eq-Decides new new).1 refl)

-- the last of a list, by what it is known by
last_named : {X : Type 0} (t : Scope) (name : X → List ℕ) (of : ℕ → Named) (xs : List X) (y x : X) (k : ℕ) → named t (name y) ≡ Some (of (length xs))
    → ((j : ℕ) × (k ≡ length xs + j) × (slice_get (y ∷ []) j ≡ Some x)) → named t (name x) ≡ Some (of k)
last_named t name of xs y x k is at =
    let one = get_one y x at.0 at.2 in
    let same : k ≡ length xs = omega (arith, at.1, one.0) in
    ap (λ z. named t (name z)) one.1 ∙ is ∙ ap (λ n. Some (of n)) (sym same)

variable_more : (s : Scope) (v : Variable) → AreNamed s → named s v.name ≡ None → IsName v.name → AreNamed (more_variables s v)
variable_more s v are none name =
    let t = more_variables s v in
    let n = stands_for.Variable (length s.variables) in
    let more : IsMore s t v.name n = λ other. named_variable s v other none in
    record {
      variable_names = All-push (λ w. IsName w.name) s.variables v are.variable_names name;
      group_names = are.group_names;
      variables = λ k w at. elim (get_either s.variables (v ∷ []) k w at) [
        | inl old ↦ stands_still s t v.name w.name n (stands_for.Variable k) more none (are.variables k w old)
        | inr new ↦ last_named t (λ u. u.name) stands_for.Variable s.variables v w k (stands_new s t v.name n more) new
      ];
      groups = λ k g at. stands_still s t v.name g.name n (stands_for.Group k) more none (are.groups k g at);
    }

pub group_more : (s : Scope) (g : Namelist) (line : ℕ) → AreNamed s → named s g.name ≡ None → IsName g.name → AreNamed (more_groups s g line)
group_more s g line are none name =
    let t = more_groups s g line in
    let n = stands_for.Group (length s.groups) in
    let more : IsMore s t g.name n = λ other. named_group s g line other none in
    record {
      variable_names = are.variable_names;
      group_names = All-push (λ h. IsName h.name) s.groups g are.group_names name;
      variables = λ k v at. stands_still s t g.name v.name n (stands_for.Variable k) more none (are.variables k v at);
      groups = λ k h at. elim (get_either s.groups (g ∷ []) k h at) [
        | inl old ↦ stands_still s t g.name h.name n (stands_for.Group k) more none (are.groups k h old)
        | inr new ↦ last_named t (λ u. u.name) stands_for.Group s.groups g h k (stands_new s t g.name n more) new
      ];
    }

pub variables_more : (s : Scope) (line : ℕ) (kind : Kind) (ds : List Designator) → AreNamed s → All IsName (map (λ d. d.name) ds) → are_new s (map (λ d. d.name) ds) ≡ true
    → AreNamed (with_variables s line kind ds)
variables_more s line kind [] are names new = subst (λ (vs : List Variable). let t : Scope = record s { variables = vs } in AreNamed t) (sym (append-nil s.variables)) are
variables_more s line kind (d ∷ ds) are names new =
    let others = map (λ d. d.name) ds in
    let free = and_parts (is_free s d.name) (list_all (is_free s) others) (and_parts (list_all (is_free s) (d.name ∷ others)) (are_apart (d.name ∷ others)) new).0 in
    let v = variable line kind d in
    subst AreNamed (sym (with_more s line kind d ds))
    (variables_more (more_variables s v) line kind ds
    (variable_more s v are (free_is_none s d.name free.0) (All-head IsName d.name others names)) (All-tail IsName d.name others names)
    (sym (are_new_more s v others free.0) ∙ new))

pub nothing_named : AreNamed empty
nothing_named = record {
  variable_names = All-nil (λ v. IsName v.name);
  group_names = All-nil (λ g. IsName g.name);
  variables = λ n v at. cc;
  groups = λ n g at. cc;
}

-- ---- no name stands twice

-- the place of what a name stands for among all names
place : Scope → Option Named → ℕ
place s None = 0
place s (Some (stands_for.Variable n)) = n
place s (Some (stands_for.Group n)) = length s.variables + n

at_place : (s : Scope) → AreNamed s → (i : ℕ) (name : List ℕ) → slice_get (names_of s.variables (groups_of s)) i ≡ Some name → i ≡ place s (named s name)
unfolding place
at_place s are i name at = elim (get_either (map (λ v. v.name) s.variables) (map (λ g. g.0) (groups_of s)) i name at) [
  | inl front ↦
      let v = get_mapped (λ v. v.name) s.variables i name front in
      sym (ap (λ x. place s (named s x)) v.2 ∙ ap (place s) (are.variables i v.0 v.1))
  | inr behind ↦
      let p = get_mapped (λ g. g.0) (groups_of s) behind.0 name behind.2 in
      let g = get_mapped (λ g. (g.name, g.vars)) s.groups behind.0 p.0 p.1 in
      let same : name ≡ g.0.name = p.2 ∙ ap (λ x. x.0) g.2 in
      let many : length (map (λ v. v.name) s.variables) ≡ length s.variables = length-map s.variables (λ v. v.name) in
      behind.1 ∙ ap (λ n. n + behind.0) many ∙ sym (ap (λ x. place s (named s x)) same ∙ ap (place s) (are.groups behind.0 g.0 g.1))
]

pub names_apart : NamesAreApart
names_apart s are i j name at there = at_place s are i name at ∙ sym (at_place s are j name there)

-- ---- the group of a transfer

found_from : {X : Type 0} (p : X → Bool) (i : ℕ) (xs : List X) (k : ℕ) → position_from p i xs ≡ Some k → (j : ℕ) × (k ≡ i + j) × ((x : X) × (slice_get xs j ≡ Some x) × (p x ≡ true))
found_from p i [] k h = cc
found_from p i (x ∷ xs) k h = elim (chosen (p x) (Some i) (position_from p (i + 1) xs) (Some k) h) [
  | inl here ↦ (0, (let same : i ≡ k = some_is i k here.1 in omega arith), (x, refl, here.0))
  | inr later ↦ let more = found_from p (i + 1) xs k later.1 in (suc more.0, omega (arith, more.1), more.2)
]

group_place : (variables groups : Option ℕ) (k : ℕ) → option_or (option_map stands_for.Variable variables) (option_map stands_for.Group groups) ≡ Some (stands_for.Group k) → groups ≡ Some k
group_place (Some n) groups k h = cc
group_place None None k h = cc
group_place None (Some n) k h = cc

-- the group that a name stands for has this name
group_found : (s : Scope) (name : List ℕ) (k : ℕ) → named s name ≡ Some (stands_for.Group k) → (g : Namelist) × (slice_get s.groups k ≡ Some g) × (name ≡ g.name)
unfolding named
group_found s name k h =
    let at = group_place (position (is_variable name) s.variables) (position (is_group name) s.groups) k h in
    let f = found_from (is_group name) 0 s.groups k (sym (position_from-zero (is_group name) s.groups) ∙ at) in
    let same : f.0 ≡ k = omega (arith, f.1) in
    (f.2.0, subst (λ n. slice_get s.groups n ≡ Some f.2.0) same f.2.1, (bytes_eq-Decides name f.2.0.name).0 f.2.2)

group_stands : (s : Scope) (name vars : List ℕ) (n : Named) → named s name ≡ Some n → group_at s n ≡ Some vars → Contains (groups_of s) (name, vars)
group_stands s name vars (stands_for.Variable k) is at = cc
group_stands s name vars (stands_for.Group k) is at =
    let g = group_found s name k is in
    let v = bound (slice_get s.groups k) (λ g. Some g.vars) vars at in
    let one : g.0 ≡ v.0 = some_is g.0 v.0 (sym g.1 ∙ v.1) in
    let pair : (g.0.name, g.0.vars) ≡ (name, vars) = (let vars_are : g.0.vars ≡ vars = ap (λ x. x.vars) one ∙ some_is v.0.vars vars v.2 in cc) in
    let there : slice_get (groups_of s) k ≡ Some (name, vars) = slice_get-map (λ g. (g.name, g.vars)) s.groups k ∙ ap (option_map (λ g. (g.name, g.vars))) g.1 ∙ ap (λ x. Some x) pair in
    (k, slice_get_within (groups_of s) k (name, vars) there, get_or_from_slice_get (groups_of s) k (name, vars) (name, vars) there)

has_group : (s : Scope) (g vars : Option (List ℕ)) (f : Option Format) (items : Option (List FormatItem)) → optional (members s) g ≡ Some vars → HasGroup (groups_of s) (control_of g vars f items)
unfolding members
has_group s (Some name) (Some vars) f items h =
    let m = bound (members s name) (λ y. Some (Some y)) (Some vars) h in
    let same : m.0 ≡ vars = (let e : Some (Some m.0) ≡ Some (Some vars) = m.2 in cc) in
    let n = bound (named s name) (group_at s) m.0 m.1 in
    group_stands s name vars n.0 n.1 (n.2 ∙ ap (λ x. Some x) same)
has_group s (Some name) None f (Some items) h = tt
has_group s (Some name) None (Some f) None h = tt
has_group s (Some name) None None None h = tt
has_group s None vars f (Some items) h = tt
has_group s None vars (Some f) None h = tt
has_group s None vars None None h = tt

names_group : (s : Scope) (items : Option (List FormatItem)) (w : Written) (m : Statement) → meaning s items w ≡ Some m → NamesGroup (groups_of s) m
unfolding meaning assigned opened closed awaited moved inquired transferred
names_group s items (written.Assignment a) m h =
    let to = bound (variable_meant s a.to) _ m h in
    let from = bound (meant s a.from) _ m to.2 in
    let p = passed (goes_to to.0 from.0) _ m from.2 in
    subst (NamesGroup (groups_of s)) (some_is _ m p.1) tt
names_group s items (written.Open o) m h =
    let u = bound (unit_meant s o.unit) _ m h in
    let told = bound (optional (integer_place s) o.iostat) _ m u.2 in
    let p = passed (has_file o.unit o.what) (Some (statement.OpenUnit u.0 o.what told.0)) m told.2 in
    subst (NamesGroup (groups_of s)) (some_is (statement.OpenUnit u.0 o.what told.0) m p.1) tt
names_group s items (written.Close c) m h =
    let u = bound (unit_meant s c.unit) _ m h in
    let told = bound (optional (integer_place s) c.iostat) _ m u.2 in
    subst (NamesGroup (groups_of s)) (some_is _ m told.2) tt
names_group s items (written.Wait w) m h =
    let u = bound (unit_meant s w.unit) _ m h in
    let id = bound (optional (integer_operand s) w.what) _ m u.2 in
    let told = bound (optional (integer_place s) w.iostat) _ m id.2 in
    subst (NamesGroup (groups_of s)) (some_is _ m told.2) tt
names_group s items (written.Move how) m h =
    let u = bound (unit_meant s how.unit) _ m h in
    let told = bound (optional (integer_place s) how.iostat) _ m u.2 in
    subst (NamesGroup (groups_of s)) (some_is _ m told.2) tt
names_group s items (written.Inquire i) m h =
    let about = bound (subject_meant s i.about) _ m h in
    let asked = bound (each (wanted s) i.asked) _ m about.2 in
    let id = bound (optional (integer_operand s) i.id) _ m asked.2 in
    let told = bound (optional (integer_place s) i.iostat) _ m id.2 in
    subst (NamesGroup (groups_of s)) (some_is _ m told.2) tt
names_group s items (written.Transfer t) m h =
    let p = bound (parts s t) _ m h in
    let r = passed (is_allowed items t) (Some (statement.Transfer (assembled items t p.0))) m p.2 in
    subst (NamesGroup (groups_of s)) (some_is (statement.Transfer (assembled items t p.0)) m r.1) (has_group s t.group p.0.group t.format items (made_is s t p.0 p.1).1.group)
names_group s items written.End m h = subst (NamesGroup (groups_of s)) (some_is statement.End m h) tt
names_group s items (written.Declaration d) m h = cc
names_group s items (written.Group g) m h = cc

pub groups_declared : GroupsAreDeclared
groups_declared s w m has = names_group s has.items w m has.is
