-- What a name stands for once another variable or group is declared.
use Rattle.std.proofs.Common.{ℕ, suc, ◌≡◌, ◌+◌, Bool, true, false, cond, not, ◌&&◌, ◌||◌, List, [], ◌∷◌, ◌++◌, length, map, Option, Some, None, Ordering, refl, sym, ap, ◌∙◌, subst, inl, inr, arith, append_assoc}
use Rattle.std.specs.Option.{option_map, option_or, is_none}
use Rattle.std.specs.List.{position, position_from, list_any, list_all}
use Rattle.std.specs.Map.{lookup}
use Rattle.std.specs.BTreeMap.{insert_entry, is_at}
use Rattle.std.specs.Str.{bytes_eq}
use Rattle.std.specs.Cmp.Lexicographic.{slice_cmp}
use Rattle.std.specs.Ordering.{nat_cmp, match_ordering, is_eq}
use Rattle.std.specs.declared.cmp.Ordering.TheVariants.{Less, Equal, Greater}
use Rattle.std.specs.declared.alloc.Global.{Global}
use Rattle.std.specs.declared.vec.Vec.{Vec}
use Rattle.std.proofs.lemmas.Iterator.Adapters.{position_from-zero}
use Rattle.std.proofs.lemmas.Bool.{cases_Bool, false≢true}
use Rattle.std.proofs.lemmas.Slice.Eq.{bytes_eq-Decides}
use Rattle.std.proofs.lemmas.Map.Text.{is_eq-slice_cmp}
use Rattle.fj_value.specs.declared.kind.Kind.{Kind}
use Rattle.fj_statement.specs.declared.deck.Variable.{Variable}
use Rattle.fj_syntax.specs.declared.operand.Designator.{Designator}
use Rattle.fj_names.specs.declared.scope.Namelist.{Namelist}
use Rattle.fj_names.specs.declared.scope.Named.{Named}
use Rattle.fj_names.specs.declared.scope.Named.TheVariants as stands_for
use Rattle.fj_names.specs.declared.scope.Scope.{Scope}
use Rattle.fj_names.specs.Scope.{named, is_variable, is_group}
use Rattle.fj_names.specs.Declaring.{is_free, are_apart, are_new, variable, with_variables, with_all}

-- ---- the index

abbrev Keyed : Type 0 → Type 0
Keyed X = List (Vec ℕ Global × X)

abbrev at_name : {X : Type 0} → List ℕ → Keyed X → Option X
at_name name es = lookup (is_at (λ k. slice_cmp nat_cmp name k.items)) es

abbrev pub vec_cmp : Vec ℕ Global → Vec ℕ Global → Ordering
vec_cmp k q = slice_cmp nat_cmp k.items q.items

same : (xs ys : List ℕ) → bytes_eq xs ys ≡ true → xs ≡ ys
same xs ys h = (bytes_eq-Decides xs ys).0 h

equal_is_same : (k e : List ℕ) → slice_cmp nat_cmp k e ≡ Equal → k ≡ e
equal_is_same k e h = same k e (sym (is_eq-slice_cmp k e) ∙ ap is_eq h)

at_less : {X : Type 0} (name k e : List ℕ) (v w : X) (rest : Option X) →
    cond (is_eq (slice_cmp nat_cmp name k)) (Some v) (cond (is_eq (slice_cmp nat_cmp name e)) (Some w) rest)
    ≡ cond (bytes_eq name k) (Some v) (cond (is_eq (slice_cmp nat_cmp name e)) (Some w) rest)
at_less name k e v w rest = ap (λ b. cond b (Some v) (cond (is_eq (slice_cmp nat_cmp name e)) (Some w) rest)) (is_eq-slice_cmp name k)

at_equal : {X : Type 0} (name k e : List ℕ) (v w : X) (rest : Option X) → k ≡ e →
    cond (is_eq (slice_cmp nat_cmp name e)) (Some v) rest ≡ cond (bytes_eq name k) (Some v) (cond (is_eq (slice_cmp nat_cmp name e)) (Some w) rest)
at_equal name k e v w rest h =
    let b : is_eq (slice_cmp nat_cmp name e) ≡ bytes_eq name k = is_eq-slice_cmp name e ∙ ap (bytes_eq name) (sym h) in
    elim (cases_Bool (bytes_eq name k)) [
      | inl t ↦ rw (b, t) refl
      | inr f ↦ rw (b, f) refl
    ]

at_greater : {X : Type 0} (name k e : List ℕ) (v w : X) (rest more : Option X) → slice_cmp nat_cmp k e ≡ Greater → more ≡ cond (bytes_eq name k) (Some v) rest →
    cond (is_eq (slice_cmp nat_cmp name e)) (Some w) more ≡ cond (bytes_eq name k) (Some v) (cond (is_eq (slice_cmp nat_cmp name e)) (Some w) rest)
at_greater name k e v w rest more g h = elim (cases_Bool (bytes_eq name k)) [
  | inl t ↦
      let apart : is_eq (slice_cmp nat_cmp name e) ≡ false = ap (λ n. is_eq (slice_cmp nat_cmp n e)) (same name k t) ∙ ap is_eq g in
      rw (apart, h, t) refl
  | inr f ↦ rw (h, f) refl
]

at_ordered : {X : Type 0} (name : List ℕ) (k : Vec ℕ Global) (v : X) (e : Vec ℕ Global × X) (es more : Keyed X) (o : Ordering) →
    vec_cmp k e.0 ≡ o → at_name name more ≡ cond (bytes_eq name k.items) (Some v) (at_name name es) →
    at_name name (match_ordering o ((k, v) ∷ e ∷ es) ((e.0, v) ∷ es) (e ∷ more)) ≡ cond (bytes_eq name k.items) (Some v) (at_name name (e ∷ es))
at_ordered name k v e es more Less c h = at_less name k.items e.0.items v e.1 (at_name name es)
at_ordered name k v e es more Equal c h = at_equal name k.items e.0.items v e.1 (at_name name es) (equal_is_same k.items e.0.items c)
at_ordered name k v e es more Greater c h = at_greater name k.items e.0.items v e.1 (at_name name es) (at_name name more) c h

-- a look-up after an insertion
pub at_inserted : {X : Type 0} (name : List ℕ) (k : Vec ℕ Global) (v : X) (es : Keyed X) →
    at_name name (insert_entry vec_cmp es k v) ≡ cond (bytes_eq name k.items) (Some v) (at_name name es)
at_inserted name k v [] = ap (λ b. cond b (Some v) None) (is_eq-slice_cmp name k.items)
at_inserted name k v (e ∷ es) = at_ordered name k v e es (insert_entry vec_cmp es k v) (vec_cmp k e.0) refl (at_inserted name k v es)

-- ---- places

abbrev only_if : {A : Type 0} → Bool → A → Option A
only_if b x = cond b (Some x) None

from_push : {X : Type 0} (p : X → Bool) (i : ℕ) (xs : List X) (y : X) →
    position_from p i (xs ++ y ∷ []) ≡ option_or (position_from p i xs) (only_if (p y) (i + length xs))
from_push p i [] y = ap (only_if (p y)) (omega arith)
from_push p i (x ∷ xs) y =
    let e : i + 1 + length xs ≡ i + suc (length xs) = omega arith in
    let h : position_from p (i + 1) (xs ++ y ∷ []) ≡ option_or (position_from p (i + 1) xs) (only_if (p y) (i + suc (length xs))) =
    from_push p (i + 1) xs y ∙ ap (λ n. option_or (position_from p (i + 1) xs) (only_if (p y) n)) e in
    elim (cases_Bool (p x)) [ inl t ↦ rw t refl | inr f ↦ rw f h ]

position_push : {X : Type 0} (p : X → Bool) (xs : List X) (y : X) → position p (xs ++ y ∷ []) ≡ option_or (position p xs) (only_if (p y) (length xs))
position_push p xs y =
    position_from-zero p (xs ++ y ∷ []) ∙ from_push p 0 xs y ∙ ap (λ o. option_or o (only_if (p y) (0 + length xs))) (sym (position_from-zero p xs))
    ∙ ap (λ n. option_or (position p xs) (only_if (p y) n)) (omega arith)

-- ---- another variable

abbrev pub more_variables : Scope → Variable → Scope
more_variables s v = record s { variables = s.variables ++ v ∷ [] }

either_new : (was : Option ℕ) (groups : Option Named) (b : Bool) (n : ℕ) → (b ≡ true → option_or (option_map stands_for.Variable was) groups ≡ None) →
    option_or (option_map stands_for.Variable (option_or was (only_if b n))) groups ≡ cond b (Some (stands_for.Variable n)) (option_or (option_map stands_for.Variable was) groups)
either_new None groups true n h = refl
either_new None groups false n h = refl
either_new (Some m) groups true n h = absurd (let e : Some (stands_for.Variable m) ≡ None = h refl in cc)
either_new (Some m) groups false n h = refl

pub none_at : (s : Scope) (name other : List ℕ) → named s other ≡ None → bytes_eq name other ≡ true → named s name ≡ None
none_at s name other h e = ap (named s) (same name other e) ∙ h

pub named_variable : (s : Scope) (v : Variable) (name : List ℕ) → named s v.name ≡ None →
    named (more_variables s v) name ≡ cond (bytes_eq name v.name) (Some (stands_for.Variable (length s.variables))) (named s name)
unfolding named
named_variable s v name h =
    let groups = option_map stands_for.Group (position (is_group name) s.groups) in
    ap (λ o. option_or (option_map stands_for.Variable o) groups) (position_push (is_variable name) s.variables v)
    ∙ either_new (position (is_variable name) s.variables) groups (bytes_eq name v.name) (length s.variables) (none_at s name v.name h)

-- ---- another group

abbrev pub more_groups : Scope → Namelist → ℕ → Scope
more_groups s g line = record { variables = s.variables; groups = s.groups ++ g ∷ []; lines = s.lines ++ line ∷ [] }

or_new : (variables : Option Named) (was : Option ℕ) (b : Bool) (n : ℕ) → (b ≡ true → option_or variables (option_map stands_for.Group was) ≡ None) →
    option_or variables (option_map stands_for.Group (option_or was (only_if b n))) ≡ cond b (Some (stands_for.Group n)) (option_or variables (option_map stands_for.Group was))
or_new None None true n h = refl
or_new None None false n h = refl
or_new None (Some m) true n h = absurd (let e : Some (stands_for.Group m) ≡ None = h refl in cc)
or_new None (Some m) false n h = refl
or_new (Some m) was true n h = absurd (let e : Some m ≡ None = h refl in cc)
or_new (Some m) was false n h = refl

pub named_group : (s : Scope) (g : Namelist) (line : ℕ) (name : List ℕ) → named s g.name ≡ None →
    named (more_groups s g line) name ≡ cond (bytes_eq name g.name) (Some (stands_for.Group (length s.groups))) (named s name)
unfolding named
named_group s g line name h =
    let vs = option_map stands_for.Variable (position (is_variable name) s.variables) in
    ap (λ o. option_or vs (option_map stands_for.Group o)) (position_push (is_group name) s.groups g)
    ∙ or_new vs (position (is_group name) s.groups) (bytes_eq name g.name) (length s.groups) (none_at s name g.name h)

-- ---- a list of variables

is_none-None : {A : Type 0} (o : Option A) → is_none o ≡ true → o ≡ None
is_none-None None h = refl
is_none-None (Some x) h = absurd (false≢true h)

pub free_is_none : (s : Scope) (name : List ℕ) → is_free s name ≡ true → named s name ≡ None
free_is_none s name h = is_none-None (named s name) h

none_of_cond : {A : Type 0} (b : Bool) (x : A) (o : Option A) → is_none (cond b (Some x) o) ≡ (is_none o && not b)
none_of_cond true x None = refl
none_of_cond true x (Some y) = refl
none_of_cond false x None = refl
none_of_cond false x (Some y) = refl

free_more : (s : Scope) (v : Variable) (name : List ℕ) → named s v.name ≡ None → is_free (more_variables s v) name ≡ (is_free s name && not (bytes_eq name v.name))
free_more s v name h = ap is_none (named_variable s v name h) ∙ none_of_cond (bytes_eq name v.name) (stands_for.Variable (length s.variables)) (named s name)

and_swap : (a b c d : Bool) → ((a && not b) && (c && not d)) ≡ ((a && c) && not (b || d))
and_swap true true true d = refl
and_swap true true false d = refl
and_swap true false c d = refl
and_swap false b c d = refl

all_free_more : (s : Scope) (v : Variable) (names : List (List ℕ)) → named s v.name ≡ None →
    list_all (is_free (more_variables s v)) names ≡ (list_all (is_free s) names && not (list_any (λ other. bytes_eq other v.name) names))
all_free_more s v [] h = refl
all_free_more s v (name ∷ names) h =
    ap (λ b. b && list_all (is_free (more_variables s v)) names) (free_more s v name h)
    ∙ ap (λ b. (is_free s name && not (bytes_eq name v.name)) && b) (all_free_more s v names h)
    ∙ and_swap (is_free s name) (bytes_eq name v.name) (list_all (is_free s) names) (list_any (λ other. bytes_eq other v.name) names)

and_moves : (a b c : Bool) → (a && (b && c)) ≡ ((a && b) && c)
and_moves true b c = refl
and_moves false b c = refl

pub are_new_more : (s : Scope) (v : Variable) (names : List (List ℕ)) → is_free s v.name ≡ true → are_new s (v.name ∷ names) ≡ are_new (more_variables s v) names
are_new_more s v names h =
    let apart = list_any (λ other. bytes_eq other v.name) names in
    ap (λ b. (b && list_all (is_free s) names) && (not apart && are_apart names)) h
    ∙ and_moves (list_all (is_free s) names) (not apart) (are_apart names)
    ∙ ap (λ b. b && are_apart names) (sym (all_free_more s v names (free_is_none s v.name h)))

pub with_more : (s : Scope) (line : ℕ) (kind : Kind) (d : Designator) (ds : List Designator) →
    with_variables s line kind (d ∷ ds) ≡ with_variables (more_variables s (variable line kind d)) line kind ds
with_more s line kind d ds =
    ap (λ (vs : List Variable). let t : Scope = record s { variables = vs } in t) (sym (append_assoc s.variables (variable line kind d ∷ []) (map (variable line kind) ds)))

one_is_free : (s : Scope) (name : List ℕ) → are_new s (name ∷ []) ≡ is_free s name
one_is_free s name = elim (cases_Bool (is_free s name)) [ inl t ↦ rw t refl | inr f ↦ rw f refl ]

cond_ap : {A : Type 0} (b c : Bool) (x y : A) → b ≡ c → x ≡ y → cond b (Some x) None ≡ cond c (Some y) None
cond_ap b c x y h k = cc

-- what was added first makes the others what is added to that
pub with_all_step : (s t : Scope) (line : ℕ) (kind : Kind) (d : Designator) (ds : List Designator) → with_all s line kind (d ∷ []) ≡ Some t →
    with_all s line kind (d ∷ ds) ≡ with_all t line kind ds
with_all_step s t line kind d ds h = elim (cases_Bool (is_free s d.name)) [
  | inl f ↦
      let e : cond (is_free s d.name) (Some (more_variables s (variable line kind d))) None ≡ Some t = sym (ap (λ b. cond b (Some (more_variables s (variable line kind d))) None) (one_is_free s d.name)) ∙ h in
      let is : more_variables s (variable line kind d) ≡ t = (let k : Some (more_variables s (variable line kind d)) ≡ Some t = rw f at e in cc) in
      subst (λ u. with_all s line kind (d ∷ ds) ≡ with_all u line kind ds) is
      (cond_ap _ _ _ _ (are_new_more s (variable line kind d) (map (λ d. d.name) ds) f) (with_more s line kind d ds))
  | inr f ↦ absurd (
      let e : cond (are_new s (d.name ∷ [])) (Some (with_variables s line kind (d ∷ []))) None ≡ Some t = h in
      let k : are_new s (d.name ∷ []) ≡ false = one_is_free s d.name ∙ f in
      let none : None ≡ Some t = rw k at e in cc)
]

pub with_all_fails : (s : Scope) (line : ℕ) (kind : Kind) (d : Designator) (ds : List Designator) → with_all s line kind (d ∷ []) ≡ None → with_all s line kind (d ∷ ds) ≡ None
with_all_fails s line kind d ds h = elim (cases_Bool (is_free s d.name)) [
  | inl f ↦ absurd (
      let e : cond (are_new s (d.name ∷ [])) (Some (with_variables s line kind (d ∷ []))) None ≡ None = h in
      let k : are_new s (d.name ∷ []) ≡ true = one_is_free s d.name ∙ f in
      let some : Some (with_variables s line kind (d ∷ [])) ≡ None = rw k at e in cc)
  | inr f ↦
      let k : are_new s (d.name ∷ map (λ d. d.name) ds) ≡ false = ap (λ b. (b && list_all (is_free s) (map (λ d. d.name) ds)) && are_apart (d.name ∷ map (λ d. d.name) ds)) f in
      ap (λ b. cond b (Some (with_variables s line kind (d ∷ ds))) None) k
]
