-- A transfer that keeps the rules passes the test.
use Rattle.std.proofs.Common.{◌≡◌, ℕ, Bool, true, false, not, ◌&&◌, ◌||◌, List, [], ◌∷◌, length, map, Option, Some, None, refl, sym, ap, ◌∙◌, subst, eqb, is_some}
use Rattle.std.proofs.lemmas.Bool.{and_parts}
use Rattle.std.specs.Prelude.{All}
use Rattle.std.specs.List.{list_all}
use Rattle.std.proofs.lemmas.List.Elements.{All-head, All-tail}
use Rattle.fj_statement.specs.declared.unit.UnitRef.{UnitRef}
use Rattle.fj_statement.specs.declared.unit.UnitRef.TheVariants.{Star}
use Rattle.fj_format.specs.declared.item.FormatItem.{FormatItem}
use Rattle.fj_format.specs.Unfolding.{has_width_zero}
use Rattle.fj_statement.specs.Sound.{HasNoItems, HasNoZeroWidth, IsAllowed, IsExplicit, IsFormatted, IsVariable, MayHaveRecord}
use Rattle.fj_syntax.specs.declared.operand.Operand.{Operand}
use Rattle.fj_syntax.specs.declared.operand.Operand.TheVariants as operand
use Rattle.fj_syntax.specs.declared.written.Format.{Format}
use Rattle.fj_syntax.specs.declared.written.Format.TheVariants as format
use Rattle.fj_syntax.specs.declared.written.Transfer.{Transfer}
use Rattle.fj_syntax.specs.declared.written.Unit.{Unit}
use Rattle.fj_syntax.specs.declared.written.Unit.TheVariants as unit
use Rattle.fj_names.specs.declared.operand.Meant.{Meant}
use Rattle.fj_names.specs.declared.transfer.Parts.{Parts}
use Rattle.fj_names.specs.declared.scope.Scope.{Scope}
use Rattle.fj_names.specs.Giving.{◌>>=◌, each}
use Rattle.fj_names.specs.Meaning.{IsFormatOf, literal_of}
use Rattle.fj_names.specs.Operands.{integer_operand, integer_place, meant, number, number_kind, signed}
use Rattle.fj_names.specs.Scope.{members}
use Rattle.fj_names.specs.Sound.{HasOneForm, KeepsRules, RulesAreDecided}
use Rattle.fj_names.specs.Units.{unit_meant, unit_named}
use Rattle.fj_names.specs.Transfer.{◌implies◌, assembled, can_be_read, changes_some, control_of, given, goes_together, is_allowed, is_explicit, is_list_directed, is_place, is_star, is_true, stands_alone}
use Rattle.fj_syntax.proofs.Holding.{bound, some_is}
use Rattle.fj_names.proofs.SoundLemmas.{given_same, no_is}
use Rattle.fj_names.proofs.StatementSound.{IsMade, allowed_is, implied, made_is, what}

-- ---- tests

all_true : (a b : Bool) → a ≡ true → b ≡ true → (a && b) ≡ true
all_true true b h k = k
all_true false b h k = cc

implies_true : (a b : Bool) → (a ≡ true → b ≡ true) → (a implies b) ≡ true
implies_true true b h = h refl
implies_true false b h = refl

either_gives : (a b : Bool) (P : Type 0) → (a ≡ true → P) → (b ≡ true → P) → (a || b) ≡ true → P
either_gives true b P f g h = f refl
either_gives false b P f g h = g h

neither_is : (a b : Bool) → a ≡ false → b ≡ false → not (a || b) ≡ true
neither_is true b h k = cc
neither_is false b h k = ap not k

none_given : {A B : Type 0} (o : Option A) (r : Option B) → is_some r ≡ is_some o → r ≡ None → is_some o ≡ false
none_given o r same none = sym same ∙ ap is_some none

-- ---- forms

explicit_from : (g vars : Option (List ℕ)) (f : Option Format) (items : Option (List FormatItem)) → IsFormatOf (literal_of f) items → IsExplicit (control_of g vars f items) → is_explicit f ≡ true
explicit_from (Some name) (Some vars) f items is e = absurd e
explicit_from (Some name) None (Some (format.Literal text)) items is e = refl
explicit_from (Some name) None (Some format.Asterisk) (Some items) is e = absurd is
explicit_from (Some name) None (Some format.Asterisk) None is e = absurd e
explicit_from (Some name) None None (Some items) is e = absurd is
explicit_from (Some name) None None None is e = absurd e
explicit_from None vars (Some (format.Literal text)) items is e = refl
explicit_from None vars (Some format.Asterisk) (Some items) is e = absurd is
explicit_from None vars (Some format.Asterisk) None is e = absurd e
explicit_from None vars None (Some items) is e = absurd is
explicit_from None vars None None is e = absurd e

formatted_from : (g vars : Option (List ℕ)) (f : Option Format) (items : Option (List FormatItem)) → IsFormatOf (literal_of f) items → IsFormatted (control_of g vars f items) → (given f || given g) ≡ true
formatted_from g vars (Some f) items is e = refl
formatted_from (Some name) vars None items is e = refl
formatted_from None vars None (Some items) is e = absurd is
formatted_from None vars None None is e = absurd e

record_from : (g vars : Option (List ℕ)) (f : Option Format) (items : Option (List FormatItem)) → IsFormatOf (literal_of f) items → is_some vars ≡ is_some g → MayHaveRecord (control_of g vars f items)
    → (is_list_directed f || given g) ≡ false
record_from (Some name) (Some vars) f items is same e = absurd e
record_from (Some name) None f items is same e = cc
record_from None vars (Some format.Asterisk) (Some items) is same e = absurd is
record_from None vars (Some format.Asterisk) None is same e = absurd e
record_from None vars (Some (format.Literal text)) items is same e = refl
record_from None vars None items is same e = refl

width_from : (g vars : Option (List ℕ)) (f : Option Format) (items : List FormatItem) → IsFormatOf (literal_of f) (Some items) → ((is_some g ≡ true) → f ≡ None)
    → HasNoZeroWidth (control_of g vars f (Some items)) → not (has_width_zero items) ≡ true
width_from (Some name) vars f items is one e = absurd (subst (λ k. IsFormatOf (literal_of k) (Some items)) (one refl) is)
width_from None vars f items is one e = ap not e

-- ---- items

none_from : (s : Scope) (os : List Operand) (ms : List Meant) → each (meant s) os ≡ Some ms → map what ms ≡ [] → eqb (length os) 0 ≡ true
none_from s [] ms h e = refl
none_from s (o ∷ os) ms h e =
    let m = bound (meant s o) _ ms h in
    let more = bound (each (meant s) os) _ ms m.2 in
    let some : map what (m.0 ∷ more.0) ≡ [] = ap (map what) (some_is (m.0 ∷ more.0) ms more.2) ∙ e in
    cc

group_from : (s : Scope) (os : List Operand) (ms : List Meant) (g vars : Option (List ℕ)) (f : Option Format) (items : Option (List FormatItem)) → each (meant s) os ≡ Some ms → is_some vars ≡ is_some g
    → is_some g ≡ true → HasNoItems (control_of g vars f items) (map what ms) → eqb (length os) 0 ≡ true
group_from s os ms (Some name) (Some vars) f items h same some e = none_from s os ms h e
group_from s os ms (Some name) None f items h same some e = cc
group_from s os ms None vars f items h same some e = cc

literal_only : {A : Type 0} (o : Option A) (f : A → Meant) (m : Meant) → ((x : A) → IsVariable (f x).operand → ⊥) → (o >>= (λ x. Some (f x))) ≡ Some m → IsVariable m.operand → ⊥
literal_only o f m never h v = let x = bound o (λ x. Some (f x)) m h in never x.0 (subst (λ n. IsVariable n.operand) (sym (some_is (f x.0) m x.2)) v)

place_from : (s : Scope) (o : Operand) (m : Meant) → meant s o ≡ Some m → IsVariable m.operand → is_place o ≡ true
unfolding meant number
place_from s (operand.Place d) m h v = refl
place_from s (operand.Number sign amount) m h v = absurd (literal_only (number_kind (signed sign amount)) _ m (λ x n. n) h v)
place_from s (operand.Truth truth) m h v = absurd (subst (λ n. IsVariable n.operand) (sym (some_is _ m h)) v)
place_from s (operand.Literal text) m h v = absurd (subst (λ n. IsVariable n.operand) (sym (some_is _ m h)) v)

places_from : (s : Scope) (os : List Operand) (ms : List Meant) → each (meant s) os ≡ Some ms → All IsVariable (map what ms) → list_all is_place os ≡ true
places_from s [] ms h all = refl
places_from s (o ∷ os) ms h all =
    let m = bound (meant s o) _ ms h in
    let more = bound (each (meant s) os) _ ms m.2 in
    let of_ms : All IsVariable (map what (m.0 ∷ more.0)) = subst (λ l. All IsVariable (map what l)) (sym (some_is (m.0 ∷ more.0) ms more.2)) all in
    all_true (is_place o) (list_all is_place os) (place_from s o m.0 m.1 (All-head IsVariable m.0.operand (map what more.0) of_ms))
    (places_from s os more.0 more.1 (All-tail IsVariable m.0.operand (map what more.0) of_ms))

read_from : (g vars : Option (List ℕ)) (f : Option Format) (items : Option (List FormatItem)) (os : List Operand) → IsFormatOf (literal_of f) items → ((is_some g ≡ true) → f ≡ None)
    → list_all is_place os ≡ true → HasNoZeroWidth (control_of g vars f items) → can_be_read items os ≡ true
read_from g vars f None os is one places e = places
read_from g vars f (Some items) os is one places e = all_true (list_all is_place os) (not (has_width_zero items)) places (width_from g vars f items is one e)

star_from : (s : Scope) (u : Unit) (named : UnitRef) → unit_named s u ≡ Some named → is_star u ≡ true → named ≡ Star
unfolding unit_meant unit_named
star_from s unit.Star named is h = sym (some_is Star named is)
star_from s u named is h = cc

-- ---- the rules

together_from : (s : Scope) (items : Option (List FormatItem)) (t : Transfer) (p : Parts) (ms : List Meant) → IsMade s t p ms → IsFormatOf (literal_of t.format) items → IsAllowed (assembled items t p)
    → goes_together t ≡ true
together_from s items t p ms made is a =
    let P : Type 0 = (given t.format || given t.group) ≡ true in
    let form = λ (h : IsFormatted (control_of t.group p.group t.format items)). formatted_from t.group p.group t.format items is h in
    let modes : changes_some t ≡ true → P =
    either_gives (given t.blank_zero) _ P (λ h. form (a.blank_needs_format h)) (either_gives (given t.comma) _ P (λ h. form (a.decimal_needs_format h)) (either_gives (given t.delim) _ P (λ h. form (a.delim_needs_format h))
    (either_gives (given t.pad) _ P (λ h. form (a.pad_needs_format h)) (λ h. form (a.sign_needs_format h))))) in
    all_true (given t.id implies is_true t.asynchronous) _
    (implies_true (given t.id) _ (λ h. ap is_true (a.id_needs_asynchronous (given_same (integer_place s) t.id p.id made.id ∙ h))))
    (all_true (given t.size implies given t.advance) _ (implies_true (given t.size) _ (λ h. a.size_needs_advance (given_same (integer_place s) t.size p.size made.size ∙ h)))
    (all_true (given t.advance implies is_explicit t.format) _
    (implies_true (given t.advance) _ (λ h. explicit_from t.group p.group t.format items is (a.advance_needs_format h)))
    (implies_true (changes_some t) _ modes)))

alone_from : (s : Scope) (items : Option (List FormatItem)) (t : Transfer) (p : Parts) (ms : List Meant) → IsMade s t p ms → IsFormatOf (literal_of t.format) items → KeepsRules items t p → stands_alone t ≡ true
alone_from s items t p ms made is keeps =
    let a = keeps.allowed in
    let same_rec = given_same (integer_operand s) t.rec p.rec made.rec in
    let same_pos = given_same (integer_operand s) t.pos p.pos made.pos in
    let same_group = given_same (members s) t.group p.group made.group in
    let no_group = λ (h : given t.group ≡ true). group_from s t.items ms t.group p.group t.format items made.each_is same_group h
    (subst (λ l. HasNoItems (control_of t.group p.group t.format items) l) (sym made.items) a.group_excludes_items) in
    all_true (given t.rec implies not (given t.pos || (is_list_directed t.format || given t.group))) _
    (implies_true (given t.rec) _ (λ h.
    let has : is_some p.rec ≡ true = same_rec ∙ h in
    neither_is (given t.pos) _ (none_given t.pos p.pos same_pos (a.record_excludes_position has)) (record_from t.group p.group t.format items is same_group (a.record_excludes_lists has))))
    (all_true (given t.group implies (not (given t.format) && eqb (length t.items) 0)) _
    (implies_true (given t.group) _ (λ h. all_true (not (given t.format)) _ (ap (λ f. not (is_some f)) (keeps.form h)) (no_group h)))
    (implies_true (is_star t.unit) _ (λ h.
    let star = star_from s t.unit p.unit made.unit h in
    neither_is (given t.rec) (given t.pos) (none_given t.rec p.rec same_rec (a.star_has_no_record star)) (none_given t.pos p.pos same_pos (a.star_has_no_position star)))))

allowed_from : (s : Scope) (items : Option (List FormatItem)) (t : Transfer) (p : Parts) (ms : List Meant) → IsMade s t p ms → IsFormatOf (literal_of t.format) items → KeepsRules items t p → is_allowed items t ≡ true
unfolding is_allowed
allowed_from s items t p ms made is keeps =
    let a = keeps.allowed in
    all_true (goes_together t) _ (together_from s items t p ms made is a)
    (all_true (stands_alone t) _ (alone_from s items t p ms made is keeps)
    (implies_true t.input _ (λ h. read_from t.group p.group t.format items t.items is keeps.form
    (places_from s t.items ms made.each_is (subst (All IsVariable) (sym made.items) (a.read_has_places h))) (a.read_has_widths h))))

one_form : (items : Option (List FormatItem)) (t : Transfer) → is_allowed items t ≡ true → HasOneForm t
unfolding is_allowed
one_form items t rules given_group =
    let alone = (and_parts (stands_alone t) _ (and_parts (goes_together t) _ rules).1).0 in
    let group = (and_parts (given t.group implies (not (given t.format) && eqb (length t.items) 0)) _ (and_parts (given t.rec implies not (given t.pos || (is_list_directed t.format || given t.group))) _ alone).1).0 in
    no_format t.format (no_is (given t.format) (and_parts (not (given t.format)) _ (implied (given t.group) _ group given_group)).0) where
      no_format : (f : Option Format) → is_some f ≡ false → f ≡ None
      no_format None h = refl
      no_format (Some f) h = cc

pub decided : RulesAreDecided
decided s items t p is h =
    let made = made_is s t p h in
    (λ rules. record { allowed = allowed_is s items t p made.0 made.1 is rules; form = one_form items t rules }, allowed_from s items t p made.0 made.1 is)
