-- What a statement means is sound.
use Rattle.std.proofs.Common.{◌≡◌, ℕ, ◌+◌, ◌*◌, ◌<◌, ◌≤◌, Bool, true, false, not, ◌&&◌, ◌||◌, cond, List, [], ◌∷◌, length, map, Option, Some, None, refl, sym, ap, ◌∙◌, subst, arith, eqb, leb, is_some}
use Rattle.std.specs.Prelude.{All, IsSome, slice_get}
use Rattle.std.proofs.lemmas.Option.{slice_get_within, get_or_from_slice_get}
use Rattle.std.specs.List.{sum_by, list_all, fold}
use Rattle.std.proofs.lemmas.Bool.{and_parts, leb-true, eqb-true}
use Rattle.std.proofs.lemmas.List.Elements.{All-nil, All-cons}
use Rattle.fj_value.specs.declared.kind.Kind.{Kind}
use Rattle.fj_value.specs.declared.kind.Kind.TheVariants.{Int4, Int8, Logical, Chars}
use Rattle.fj_value.specs.Kind.{integer_bits, text_length}
use Rattle.fj_modes.specs.declared.asked.Question.{Question}
use Rattle.fj_modes.specs.declared.asked.Question.TheVariants as question
use Rattle.fj_modes.specs.declared.asked.Wanted.{Wanted}
use Rattle.fj_statement.specs.declared.unit.UnitRef.{UnitRef}
use Rattle.fj_statement.specs.declared.unit.UnitRef.TheVariants.{Star}
use Rattle.fj_statement.specs.declared.unit.UnitRef.TheVariants as named_as
use Rattle.fj_statement.specs.Units.{internal_of}
use Rattle.fj_syntax.specs.declared.written.Unit.{Unit}
use Rattle.fj_syntax.specs.declared.written.Unit.TheVariants as unit_as
use Rattle.fj_format.specs.declared.item.FormatItem.{FormatItem}
use Rattle.fj_format.specs.Unfolding.{has_width_zero}
use Rattle.fj_statement.specs.declared.deck.Variable.{Variable}
use Rattle.fj_statement.specs.declared.statement.Operand as operands
use Rattle.fj_statement.specs.declared.statement.Operand.TheVariants.{Literal, One, Whole}
use Rattle.fj_statement.specs.declared.statement.Statement.{Statement}
use Rattle.fj_statement.specs.declared.statement.Statement.TheVariants as statement
use Rattle.fj_statement.specs.Sound.{bytes_of, IsIntegerPlace, IsIntegerOperand, IsVariable, Takes, TakesLiteral, Fits, IsAnswerKind, IsAsked, IsExplicit, IsFormatted, MayHaveRecord, IsListedOrExplicit, HasNoZeroWidth, AreMembers, members_of, HasNoItems, AreItems, IsList, IsGiven, IsAllowed, IsSoundStatement}
use Rattle.fj_statement.proofs.Naming.{members_few}
use Rattle.fj_syntax.specs.declared.operand.Designator.{Designator}
use Rattle.fj_syntax.specs.declared.operand.Operand.{Operand}
use Rattle.fj_syntax.specs.declared.operand.Operand.TheVariants as operand
use Rattle.fj_syntax.specs.declared.written.Assignment.{Assignment}
use Rattle.fj_syntax.specs.declared.written.Asking.{Asking}
use Rattle.fj_syntax.specs.declared.written.Inquire.{Inquire}
use Rattle.fj_syntax.specs.declared.written.Format.{Format}
use Rattle.fj_syntax.specs.declared.written.Format.TheVariants as format
use Rattle.fj_syntax.specs.declared.written.Transfer.{Transfer}
use Rattle.fj_syntax.specs.declared.written.Written.{Written}
use Rattle.fj_syntax.specs.declared.written.Written.TheVariants as written
use Rattle.fj_names.specs.declared.operand.Meant.{Meant}
use Rattle.fj_names.specs.declared.transfer.Parts.{Parts}
use Rattle.fj_names.specs.declared.scope.Found.{Found}
use Rattle.fj_names.specs.declared.scope.Named.{Named}
use Rattle.fj_names.specs.declared.scope.Named.TheVariants as stands_for
use Rattle.fj_names.specs.declared.scope.Scope.{Scope}
use Rattle.fj_names.specs.Giving.{optional, each}
use Rattle.fj_names.specs.Units.{has_file, subject_meant, suits_unit, transfer_unit, unit_meant, unit_named}
use Rattle.fj_names.specs.Operands.{is_whole, placed, integer_place, element, whole, part, variable_meant, meant, integer_operand}
use Rattle.fj_names.specs.Calls.{takes, takes_literal, goes_from, goes_to, assigned, opened, closed, awaited, moved, is_logical, is_characters, suits, wanted, inquired}
use Rattle.fj_names.specs.Transfer.{◌implies◌, given, is_true, is_list_directed, is_explicit, is_place, is_star, changes_some, goes_together, stands_alone, can_be_read, is_allowed, size_of, elements, bytes, are_few, parts, parts_with, control_of, assembled, transferred, is_short, of_items, fits}
use Rattle.fj_names.specs.Meaning.{literal_of, IsFormatOf, meaning, is_within_limits, format_text}
use Rattle.fj_names.specs.Scope.{found, members, group_at, named}
use Rattle.fj_names.specs.Sound.{IsSoundScope, MeaningIsSound}
use Rattle.fj_syntax.proofs.Holding.{bound, passed, some_is}
use Rattle.fj_names.proofs.SoundLemmas.{unit_is, named_is, variable_names, IsNamed, subject_is, no_is, is_there, placed_is, integer_place_is, variable_is, meant_is, integer_operand_is, given_is, given_same}

-- ---- assignments

part_variable : (f : Found) (n : Option ℕ) (m : Meant) → part f n ≡ Some m → IsVariable m.operand
part_variable f None m h = subst (λ x. IsVariable x.operand) (some_is _ m h) (either (eqb f.count 0)) where
  either : (b : Bool) → IsVariable (cond b (element f 1) (whole f)).operand
  either true = tt
  either false = tt
part_variable f (Some n) m h = let i = bound _ (λ i. Some (element f i)) m h in subst (λ x. IsVariable x.operand) (some_is _ m i.2) tt

variable_only : (s : Scope) (d : Designator) (m : Meant) → variable_meant s d ≡ Some m → IsVariable m.operand
unfolding variable_meant
variable_only s d m h = let f = bound (found s d.name) (λ f. part f d.number) m h in part_variable f.0 d.number m f.2

takes_is : (to from : Kind) → takes to from ≡ true → Takes to from
takes_is Int4 Int4 h = refl
takes_is Int8 Int8 h = refl
takes_is Logical Logical h = refl
takes_is (Chars to) (Chars from) h = tt
takes_is to from h = cc

takes_literal_is : (to from : Kind) → takes_literal to from ≡ true → TakesLiteral to from
takes_literal_is Int8 Int4 h = tt
takes_literal_is to from h = takes_is to from h

fits_is : (from to : operands.Operand) (from_meant to_meant : Meant) → to_meant.operand ≡ to → IsVariable to → goes_from from to_meant from_meant ≡ true → Fits from to from_meant.kind to_meant.kind
fits_is (Literal kind value) to from_meant to_meant e v h = takes_literal_is to_meant.kind from_meant.kind h
fits_is (One place) (Literal kind value) from_meant to_meant e v h = absurd v
fits_is (One place) (One to) from_meant to_meant e v h = takes_is to_meant.kind from_meant.kind (and_parts (not (is_whole to_meant.operand)) (takes to_meant.kind from_meant.kind) h).1
fits_is (One place) (Whole var) from_meant to_meant e v h =
    let differs : false ≡ true = ap (λ o. not (is_whole o)) (sym e) ∙ (and_parts (not (is_whole to_meant.operand)) (takes to_meant.kind from_meant.kind) h).0 in cc
fits_is (Whole var) to from_meant to_meant e v h = cc

assigned_is : (s : Scope) (a : Assignment) (m : Statement) → assigned s a ≡ Some m → IsSoundStatement s.variables m
unfolding assigned
assigned_is s a m h =
    let to = bound (variable_meant s a.to) _ m h in
    let from = bound (meant s a.from) _ m to.2 in
    let p = passed (goes_to to.0 from.0) (Some (statement.Assign to.0.operand from.0.operand)) m from.2 in
    let only = variable_only s a.to to.0 to.1 in
    subst (IsSoundStatement s.variables) (some_is (statement.Assign to.0.operand from.0.operand) m p.1) (record {
      to_kind = to.0.kind;
      to_count = to.0.count;
      from_kind = from.0.kind;
      from_count = from.0.count;
      to_is = variable_is s a.to to.0 to.1;
      from_is = meant_is s a.from from.0 from.1;
      variable = only;
      fits = fits_is from.0.operand to.0.operand from.0 to.0 refl only p.0;
    })

-- ---- INQUIRE

logical_is : (kind : Kind) → is_logical kind ≡ true → kind ≡ Logical
logical_is Logical h = refl
logical_is kind h = cc

characters_is : (kind : Kind) → is_characters kind ≡ true → IsSome (text_length kind)
characters_is (Chars n) h = refl
characters_is kind h = cc

suits_is : (what : Question) (kind : Kind) → suits what kind ≡ true → IsAnswerKind what kind
suits_is question.Exist kind h = logical_is kind h
suits_is question.Opened kind h = logical_is kind h
suits_is question.Named kind h = logical_is kind h
suits_is question.Pending kind h = logical_is kind h
suits_is question.Number kind h = is_there (integer_bits kind) h
suits_is question.Recl kind h = is_there (integer_bits kind) h
suits_is question.Nextrec kind h = is_there (integer_bits kind) h
suits_is question.Pos kind h = is_there (integer_bits kind) h
suits_is question.Size kind h = is_there (integer_bits kind) h
suits_is what kind h = characters_is kind h

wanted_is : (s : Scope) (a : Asking) (w : Wanted) → wanted s a ≡ Some w → IsAsked s.variables w
unfolding wanted
wanted_is s a w h =
    let p = bound (placed s a.place) _ w h in
    let t = passed (suits a.what p.0.kind) (Some (record { what = a.what; place = p.0.place; kind = p.0.kind })) w p.2 in
    subst (IsAsked s.variables) (some_is _ w t.1) (record { place = placed_is s a.place p.0 p.1; suits = suits_is a.what p.0.kind t.0 })

-- what holds of each part holds of all
pub each_is : {A B : Type 0} (f : A → Option B) (P : B → Type 0) → ((a : A) (b : B) → f a ≡ Some b → P b) → (xs : List A) (ys : List B) → each f xs ≡ Some ys → All P ys
each_is f P is [] ys h = subst (All P) (some_is [] ys h) (All-nil P)
each_is f P is (x ∷ xs) ys h =
    let y = bound (f x) _ ys h in
    let more = bound (each f xs) _ ys y.2 in
    subst (All P) (some_is (y.0 ∷ more.0) ys more.2) (All-cons P y.0 more.0 (is x y.0 y.1) (each_is f P is xs more.0 more.1))

-- as many
pub each_length : {A B : Type 0} (f : A → Option B) (xs : List A) (ys : List B) → each f xs ≡ Some ys → length ys ≡ length xs
each_length f [] ys h = ap length (sym (some_is [] ys h))
each_length f (x ∷ xs) ys h =
    let y = bound (f x) _ ys h in
    let more = bound (each f xs) _ ys y.2 in
    let same = each_length f xs more.0 more.1 in
    omega (arith, ap length (some_is (y.0 ∷ more.0) ys more.2))

inquired_is : (s : Scope) (i : Inquire) (m : Statement) → inquired s i ≡ Some m → IsSoundStatement s.variables m
unfolding inquired
inquired_is s i m h =
    let about = bound (subject_meant s i.about) _ m h in
    let asked = bound (each (wanted s) i.asked) _ m about.2 in
    let id = bound (optional (integer_operand s) i.id) _ m asked.2 in
    let told = bound (optional (integer_place s) i.iostat) _ m id.2 in
    subst (IsSoundStatement s.variables) (some_is (statement.Inquire about.0 asked.0 id.0 told.0 None) m told.2) (record {
      subject_is = subject_is s i.about about.0 about.1;
      questions = each_is (wanted s) (IsAsked s.variables) (wanted_is s) i.asked asked.0 asked.1;
      id_is = given_is (integer_operand s) (IsIntegerOperand s.variables) (integer_operand_is s) i.id id.0 id.1;
      iostat_is = given_is (integer_place s) (IsIntegerPlace s.variables) (integer_place_is s) i.iostat told.0 told.1;
    })

-- ---- items

abbrev shape : Meant → Kind × ℕ
shape m = (m.kind, m.count)

abbrev pub what : Meant → operands.Operand
what m = m.operand

are_items : (s : Scope) (os : List Operand) (ms : List Meant) → each (meant s) os ≡ Some ms → AreItems s.variables (map what ms) (map shape ms)
are_items s [] ms h = subst (λ l. AreItems s.variables (map what l) (map shape l)) (some_is [] ms h) tt
are_items s (o ∷ os) ms h =
    let m = bound (meant s o) _ ms h in
    let more = bound (each (meant s) os) _ ms m.2 in
    subst (λ l. AreItems s.variables (map what l) (map shape l)) (some_is (m.0 ∷ more.0) ms more.2) (meant_is s o m.0 m.1, are_items s os more.0 more.1)

same_size : (kind : Kind) → size_of kind ≡ bytes_of kind
same_size Int4 = refl
same_size Int8 = refl
same_size Logical = refl
same_size (Chars n) = refl

-- a sum over what each one is seen as
same_sum : {A B : Type 0} (f : A → ℕ) (g : B → ℕ) (view : A → B) → ((a : A) → f a ≡ g (view a)) → (n : ℕ) (xs : List A) → fold (λ sum x. sum + f x) n xs ≡ fold (λ sum x. sum + g x) n (map view xs)
same_sum f g view same n [] = refl
same_sum f g view same n (x ∷ xs) = ap (λ k. fold (λ sum x. sum + f x) (n + k) xs) (same x) ∙ same_sum f g view same (n + g (view x)) xs

same_elements : (ms : List Meant) → elements ms ≡ sum_by (λ s. s.1) (map shape ms)
same_elements ms = same_sum (λ m. m.count) (λ s. s.1) shape (λ m. refl) 0 ms

same_bytes : (ms : List Meant) → bytes ms ≡ sum_by (λ s. s.1 * bytes_of s.0) (map shape ms)
same_bytes ms = same_sum (λ m. m.count * size_of m.kind) (λ s. s.1 * bytes_of s.0) shape (λ m. ap (λ k. m.count * k) (same_size m.kind)) 0 ms

list_is : (s : Scope) (os : List Operand) (ms : List Meant) → each (meant s) os ≡ Some ms → are_few ms ≡ true → IsList s.variables (map what ms)
unfolding are_few
list_is s os ms h few =
    let b = and_parts (leb (elements ms) 1000000) (leb (bytes ms) 16777216) few in
    record {
      shapes = map shape ms;
      are = are_items s os ms h;
      elements = subst (λ n. n ≤ 1000000) (same_elements ms) (leb-true (elements ms) 1000000 b.0);
      bytes = subst (λ n. n ≤ 16777216) (same_bytes ms) (leb-true (bytes ms) 16777216 b.1);
    }

place_only : (s : Scope) (o : Operand) (m : Meant) → meant s o ≡ Some m → is_place o ≡ true → IsVariable m.operand
unfolding meant
place_only s (operand.Place d) m h e = variable_only s d m h
place_only s (operand.Number sign amount) m h e = cc
place_only s (operand.Truth truth) m h e = cc
place_only s (operand.Literal text) m h e = cc

are_variables : (s : Scope) (os : List Operand) (ms : List Meant) → each (meant s) os ≡ Some ms → list_all is_place os ≡ true → All IsVariable (map what ms)
are_variables s [] ms h all = subst (λ l. All IsVariable (map what l)) (some_is [] ms h) (All-nil IsVariable)
are_variables s (o ∷ os) ms h all =
    let b = and_parts (is_place o) (list_all is_place os) all in
    let m = bound (meant s o) _ ms h in
    let more = bound (each (meant s) os) _ ms m.2 in
    subst (λ l. All IsVariable (map what l)) (some_is (m.0 ∷ more.0) ms more.2) (All-cons IsVariable m.0.operand (map what more.0) (place_only s o m.0 m.1 b.0) (are_variables s os more.0 more.1 b.1))

-- ---- the rules

pub implied : (a b : Bool) → (a implies b) ≡ true → a ≡ true → b ≡ true
implied true b h e = h
implied false b h e = cc

some_true : {A : Type 0} (o : Option A) → IsSome o → is_some o ≡ true
some_true o h = h

none_is : {A : Type 0} (o : Option A) → is_some o ≡ false → o ≡ None
none_is None h = refl
none_is (Some x) h = cc

none_of : (a b : Bool) → (a || b) ≡ false → (a ≡ false) × (b ≡ false)
none_of true b h = cc
none_of false b h = (refl, h)

neither : (a b : Bool) → not (a || b) ≡ true → (a ≡ false) × (b ≡ false)
neither true b h = cc
neither false b h = (refl, no_is b h)

true_is : (o : Option Bool) → is_true o ≡ true → o ≡ Some true
true_is None h = cc
true_is (Some b) h = ap Some h

explicit_is : (g : Option (List ℕ)) (vars : Option (List ℕ)) (f : Option Format) (items : Option (List FormatItem)) (few : Bool) → IsFormatOf (literal_of f) items
    → (given g implies (not (given f) && few)) ≡ true → is_explicit f ≡ true → IsExplicit (control_of g vars f items)
explicit_is g vars None items few is rule e = cc
explicit_is g vars (Some format.Asterisk) items few is rule e = cc
explicit_is (Some name) vars (Some (format.Literal text)) items few is rule e = cc
explicit_is None vars (Some (format.Literal text)) None few is rule e = absurd is
explicit_is None vars (Some (format.Literal text)) (Some items) few is rule e = tt

formatted_is : (g : Option (List ℕ)) (vars : Option (List ℕ)) (f : Option Format) (items : Option (List FormatItem)) → IsFormatOf (literal_of f) items
    → is_some vars ≡ is_some g → (given f || given g) ≡ true → IsFormatted (control_of g vars f items)
formatted_is (Some name) None f items is same e = cc
formatted_is (Some name) (Some vars) f items is same e = tt
formatted_is None vars None items is same e = cc
formatted_is None vars (Some format.Asterisk) None is same e = tt
formatted_is None vars (Some format.Asterisk) (Some items) is same e = tt
formatted_is None vars (Some (format.Literal text)) None is same e = absurd is
formatted_is None vars (Some (format.Literal text)) (Some items) is same e = tt

record_is : (g : Option (List ℕ)) (vars : Option (List ℕ)) (f : Option Format) (items : Option (List FormatItem)) → is_list_directed f ≡ false → given g ≡ false → IsFormatOf (literal_of f) items
    → MayHaveRecord (control_of g vars f items)
record_is (Some name) vars f items listed single is = cc
record_is None vars None None listed single is = tt
record_is None vars None (Some items) listed single is = tt
record_is None vars (Some format.Asterisk) items listed single is = cc
record_is None vars (Some (format.Literal text)) None listed single is = absurd is
record_is None vars (Some (format.Literal text)) (Some items) listed single is = tt

width_is : (g : Option (List ℕ)) (vars : Option (List ℕ)) (f : Option Format) (items : Option (List FormatItem)) (os : List Operand) → can_be_read items os ≡ true → HasNoZeroWidth (control_of g vars f items)
width_is (Some name) (Some vars) f items os h = tt
width_is (Some name) None f (Some items) os h = no_is (has_width_zero items) (and_parts (list_all is_place os) (not (has_width_zero items)) h).1
width_is (Some name) None (Some f) None os h = tt
width_is (Some name) None None None os h = tt
width_is None vars f (Some items) os h = no_is (has_width_zero items) (and_parts (list_all is_place os) (not (has_width_zero items)) h).1
width_is None vars (Some f) None os h = tt
width_is None vars None None os h = tt

places_read : (items : Option (List FormatItem)) (os : List Operand) → can_be_read items os ≡ true → list_all is_place os ≡ true
places_read None os h = h
places_read (Some items) os h = (and_parts (list_all is_place os) (not (has_width_zero items)) h).0

no_items : (s : Scope) (os : List Operand) (ms : List Meant) → each (meant s) os ≡ Some ms → eqb (length os) 0 ≡ true → map what ms ≡ []
no_items s [] ms h e = ap (map what) (sym (some_is [] ms h))
no_items s (o ∷ os) ms h e = let none : length (o ∷ os) ≡ 0 = eqb-true (length (o ∷ os)) 0 e in absurd (omega arith)

group_is : (s : Scope) (os : List Operand) (ms : List Meant) (g : Option (List ℕ)) (vars : Option (List ℕ)) (f : Option Format) (items : Option (List FormatItem)) → each (meant s) os ≡ Some ms
    → (given g implies (not (given f) && eqb (length os) 0)) ≡ true → HasNoItems (control_of g vars f items) (map what ms)
group_is s os ms (Some name) (Some vars) f items h rule = no_items s os ms h (and_parts (not (given f)) (eqb (length os) 0) rule).1
group_is s os ms (Some name) None f (Some items) h rule = tt
group_is s os ms (Some name) None (Some f) None h rule = tt
group_is s os ms (Some name) None None None h rule = tt
group_is s os ms None vars f (Some items) h rule = tt
group_is s os ms None vars (Some f) None h rule = tt
group_is s os ms None vars None None h rule = tt

star_is : (s : Scope) (u : Unit) (named : UnitRef) → unit_named s u ≡ Some named → named ≡ Star → is_star u ≡ true
unfolding unit_meant unit_named
star_is s unit_as.Star named h e = refl
star_is s (unit_as.Number n) named h e = cc
star_is s (unit_as.Place d) named h e = absurd (subst (IsNamed s) e (variable_names s d named h))
star_is s (unit_as.New d) named h e = let p = bound (integer_place s d) _ named h in let new = p.2 in cc

-- ---- internal files

-- where a format is given, no group is
form_is : (g : Option (List ℕ)) (vars : Option (List ℕ)) (f : Option Format) (items : Option (List FormatItem)) (few : Bool) → (given g implies (not (given f) && few)) ≡ true → given f ≡ true
    → IsListedOrExplicit (control_of g vars f items)
form_is g vars None items few rule e = cc
form_is (Some name) vars (Some f) items few rule e = cc
form_is None vars (Some f) None few rule e = tt
form_is None vars (Some f) (Some items) few rule e = tt

-- what goes with an internal file, as it is written
record SuitsFile (t : Transfer) : Type 0 where
  format : given t.format ≡ true
  advance : given t.advance ≡ false
  asynchronous : given t.asynchronous ≡ false
  rec : given t.rec ≡ false
  pos : given t.pos ≡ false

suits_file : (u : UnitRef) (t : Transfer) → IsGiven (internal_of u) → suits_unit u t ≡ true → SuitsFile t
suits_file (named_as.Internal f) t h e =
    let form = and_parts (given t.format) _ e in
    let advance = neither (given t.advance) _ form.1 in
    let at_once = none_of (given t.asynchronous) _ advance.1 in
    let place = none_of (given t.rec) (given t.pos) at_once.1 in
    record { format = form.0; advance = advance.0; asynchronous = at_once.0; rec = place.0; pos = place.1 }
suits_file named_as.Star t h e = cc
suits_file (named_as.Number n) t h e = cc
suits_file (named_as.Held place n) t h e = cc
suits_file (named_as.New place n) t h e = cc

all_at : {A : Type 0} (P : A → Type 0) (xs : List A) (n : ℕ) (x : A) → All P xs → slice_get xs n ≡ Some x → P x
all_at P xs n x all h = subst P (get_or_from_slice_get xs n x x h) (all n x (slice_get_within xs n x h))

group_members : (s : Scope) → IsSoundScope s → (n : Named) (vars : List ℕ) → group_at s n ≡ Some vars → AreMembers s.variables vars
group_members s sound (stands_for.Variable k) vars h = cc
group_members s sound (stands_for.Group k) vars h =
    let g = bound (slice_get s.groups k) (λ g. Some g.vars) vars h in
    let there = all_at (λ g. All (λ var. var < length s.variables) g.vars) s.groups k g.0 sound.members g.1 in
    let few = all_at (λ g. length g.vars ≤ 1000) s.groups k g.0 sound.few g.1 in
    subst (AreMembers s.variables) (some_is g.0.vars vars g.2) (members_few s.variables g.0.vars sound.within there few)

members_is : (s : Scope) → IsSoundScope s → (name vars : List ℕ) → members s name ≡ Some vars → AreMembers s.variables vars
unfolding members
members_is s sound name vars h = let n = bound (named s name) (group_at s) vars h in group_members s sound n.0 vars n.2

no_members : (vs : List Variable) → AreMembers vs []
no_members vs = record { there = All-nil (λ var. var < length vs); few = omega arith }

has_members : (s : Scope) → IsSoundScope s → (g : Option (List ℕ)) (vars : Option (List ℕ)) (f : Option Format) (items : Option (List FormatItem)) → optional (members s) g ≡ Some vars
    → AreMembers s.variables (members_of (control_of g vars f items))
has_members s sound (Some name) (Some vars) f items h =
    let b = bound (members s name) (λ y. Some (Some y)) (Some vars) h in
    members_is s sound name vars (b.1 ∙ (let e : Some (Some b.0) ≡ Some (Some vars) = b.2 in cc))
has_members s sound (Some name) None f (Some items) h = no_members s.variables
has_members s sound (Some name) None (Some f) None h = no_members s.variables
has_members s sound (Some name) None None None h = no_members s.variables
has_members s sound None vars f (Some items) h = no_members s.variables
has_members s sound None vars (Some f) None h = no_members s.variables
has_members s sound None vars None None h = no_members s.variables

-- ---- READ and WRITE

-- what a transfer is made of
pub record IsMade (s : Scope) (t : Transfer) (p : Parts) (ms : List Meant) : Type 0 where
  pub unit : unit_named s t.unit ≡ Some p.unit
  pub suited : suits_unit p.unit t ≡ true
  pub group : optional (members s) t.group ≡ Some p.group
  pub each_is : each (meant s) t.items ≡ Some ms
  pub items : map what ms ≡ p.items
  pub rec : optional (integer_operand s) t.rec ≡ Some p.rec
  pub pos : optional (integer_operand s) t.pos ≡ Some p.pos
  pub id : optional (integer_place s) t.id ≡ Some p.id
  pub size : optional (integer_place s) t.size ≡ Some p.size
  pub iostat : optional (integer_place s) t.iostat ≡ Some p.iostat

pub made_is : (s : Scope) (t : Transfer) (p : Parts) → parts s t ≡ Some p → (ms : List Meant) × IsMade s t p ms
unfolding parts parts_with transfer_unit
made_is s t p h =
    let ms = bound (each (meant s) t.items) _ p h in
    let u = bound (transfer_unit s t) _ p ms.2 in
    let named = bound (unit_named s t.unit) _ u.0 u.1 in
    let suited = passed (suits_unit named.0 t) (Some named.0) u.0 named.2 in
    let same = some_is named.0 u.0 suited.1 in
    let g = bound (optional (members s) t.group) _ p u.2 in
    let rec = bound (optional (integer_operand s) t.rec) _ p g.2 in
    let pos = bound (optional (integer_operand s) t.pos) _ p rec.2 in
    let id = bound (optional (integer_place s) t.id) _ p pos.2 in
    let size = bound (optional (integer_place s) t.size) _ p id.2 in
    let told = bound (optional (integer_place s) t.iostat) _ p size.2 in
    let made : record { unit = u.0; group = g.0; items = map what ms.0; rec = rec.0; pos = pos.0; id = id.0; size = size.0; iostat = told.0 } ≡ p = some_is _ p told.2 in (
      ms.0,
      subst (λ q. IsMade s t q ms.0) made (record {
        unit = subst (λ x. unit_named s t.unit ≡ Some x) same named.1;
        suited = subst (λ x. suits_unit x t ≡ true) same suited.0;
        group = g.1;
        each_is = ms.1;
        items = refl;
        rec = rec.1;
        pos = pos.1;
        id = id.1;
        size = size.1;
        iostat = told.1;
      }),
    )

pub allowed_is : (s : Scope) (items : Option (List FormatItem)) (t : Transfer) (p : Parts) (ms : List Meant) → IsMade s t p ms → IsFormatOf (literal_of t.format) items → is_allowed items t ≡ true
    → IsAllowed (assembled items t p)
unfolding is_allowed
allowed_is s items t p ms made is rules =
    let a = and_parts (goes_together t) (stands_alone t && (t.input implies can_be_read items t.items)) rules in
    let b = and_parts (stands_alone t) (t.input implies can_be_read items t.items) a.1 in
    let g = t.group in
    let f = t.format in
    let id_rule = and_parts (given t.id implies is_true t.asynchronous) _ a.0 in
    let size_rule = and_parts (given t.size implies given t.advance) _ id_rule.1 in
    let advance_rule = and_parts (given t.advance implies is_explicit f) (changes_some t implies (given f || given g)) size_rule.1 in
    let rec_rule = and_parts (given t.rec implies not (given t.pos || (is_list_directed f || given g))) _ b.0 in
    let group_rule = and_parts (given g implies (not (given f) && eqb (length t.items) 0)) (is_star t.unit implies not (given t.rec || given t.pos)) rec_rule.1 in
    let same_rec : is_some p.rec ≡ is_some t.rec = given_same (integer_operand s) t.rec p.rec made.rec in
    let same_pos : is_some p.pos ≡ is_some t.pos = given_same (integer_operand s) t.pos p.pos made.pos in
    let same_group : is_some p.group ≡ is_some g = given_same (members s) g p.group made.group in
    let mode = λ (x : changes_some t ≡ true). formatted_is g p.group f items is same_group (implied (changes_some t) (given f || given g) advance_rule.1 x) in
    let alone = λ (h : IsSome p.rec). neither (given t.pos) (is_list_directed f || given g) (implied (given t.rec) _ rec_rule.0 (sym same_rec ∙ some_true p.rec h)) in
    let star = λ (h : p.unit ≡ Star). neither (given t.rec) (given t.pos) (implied (is_star t.unit) _ group_rule.1 (star_is s t.unit p.unit made.unit h)) in
    let file = λ (h : IsGiven (internal_of p.unit)). suits_file p.unit t h made.suited in
    let read = λ (h : t.input ≡ true). implied t.input (can_be_read items t.items) b.1 h in
    record {
      id_needs_asynchronous = λ h. true_is t.asynchronous (implied (given t.id) _ id_rule.0 (sym (given_same (integer_place s) t.id p.id made.id) ∙ some_true p.id h));
      size_needs_advance = λ h. is_there t.advance (implied (given t.size) _ size_rule.0 (sym (given_same (integer_place s) t.size p.size made.size) ∙ some_true p.size h));
      advance_needs_format = λ h. explicit_is g p.group f items (eqb (length t.items) 0) is group_rule.0 (implied (given t.advance) (is_explicit f) advance_rule.0 (some_true t.advance h));
      blank_needs_format = λ h. mode (some_of (given t.blank_zero) _ (some_true t.blank_zero h));
      decimal_needs_format = λ h. mode (later (given t.blank_zero) _ (some_of (given t.comma) _ (some_true t.comma h)));
      delim_needs_format = λ h. mode (later (given t.blank_zero) _ (later (given t.comma) _ (some_of (given t.delim) _ (some_true t.delim h))));
      pad_needs_format = λ h. mode (later (given t.blank_zero) _ (later (given t.comma) _ (later (given t.delim) _ (some_of (given t.pad) _ (some_true t.pad h)))));
      sign_needs_format = λ h. mode (later (given t.blank_zero) _ (later (given t.comma) _ (later (given t.delim) _ (later (given t.pad) _ (some_true t.plus h)))));
      record_excludes_position = λ h. none_is p.pos (same_pos ∙ (alone h).0);
      record_excludes_lists = λ h. let n = none_of (is_list_directed f) (given g) (alone h).1 in record_is g p.group f items n.0 n.1 is;
      group_excludes_items = subst (λ l. HasNoItems (control_of g p.group f items) l) made.items (group_is s t.items ms g p.group f items made.each_is group_rule.0);
      star_has_no_record = λ h. none_is p.rec (same_rec ∙ (star h).0);
      star_has_no_position = λ h. none_is p.pos (same_pos ∙ (star h).1);
      internal = λ h. record {
        has_format = form_is g p.group f items (eqb (length t.items) 0) group_rule.0 (file h).format;
        has_no_record = none_is p.rec (same_rec ∙ (file h).rec);
        has_no_position = none_is p.pos (same_pos ∙ (file h).pos);
        has_no_advance = none_is t.advance (file h).advance;
        is_at_once = none_is t.asynchronous (file h).asynchronous;
      };
      read_has_places = λ h. subst (All IsVariable) made.items (are_variables s t.items ms made.each_is (places_read items t.items (read h)));
      read_has_widths = λ h. width_is g p.group f items t.items (read h);
    } where
      some_of : (a b : Bool) → a ≡ true → (a || b) ≡ true
      some_of true b h = refl
      some_of false b h = cc

      later : (a b : Bool) → b ≡ true → (a || b) ≡ true
      later true b h = refl
      later false b h = h

transferred_is : (s : Scope) → IsSoundScope s → (items : Option (List FormatItem)) (t : Transfer) (m : Statement) → IsFormatOf (literal_of t.format) items → transferred s items t ≡ Some m → fits s items t ≡ true
    → IsSoundStatement s.variables m
unfolding transferred fits
transferred_is s sound items t m is h limits =
    let p = bound (parts s t) _ m h in
    let r = passed (is_allowed items t) (Some (statement.Transfer (assembled items t p.0))) m p.2 in
    let made = made_is s t p.0 p.1 in
    let unit = named_is s t.unit p.0.unit made.1.unit in
    let few : are_few made.0 ≡ true = sym (ap of_items made.1.each_is) ∙ (and_parts (is_short items) (of_items (each (meant s) t.items)) limits).1 in
    subst (IsSoundStatement s.variables) (some_is (statement.Transfer (assembled items t p.0)) m r.1) (record {
      unit_is = unit.unit;
      file_is = unit.file;
      allowed = allowed_is s items t p.0 made.0 made.1 is r.0;
      items = subst (IsList s.variables) made.1.items (list_is s t.items made.0 made.1.each_is few);
      members = has_members s sound t.group p.0.group t.format items made.1.group;
      rec = given_is (integer_operand s) (IsIntegerOperand s.variables) (integer_operand_is s) t.rec p.0.rec made.1.rec;
      pos = given_is (integer_operand s) (IsIntegerOperand s.variables) (integer_operand_is s) t.pos p.0.pos made.1.pos;
      id = given_is (integer_place s) (IsIntegerPlace s.variables) (integer_place_is s) t.id p.0.id made.1.id;
      size = given_is (integer_place s) (IsIntegerPlace s.variables) (integer_place_is s) t.size p.0.size made.1.size;
      iostat = given_is (integer_place s) (IsIntegerPlace s.variables) (integer_place_is s) t.iostat p.0.iostat made.1.iostat;
    })

-- ---- all statements

meant_sound : (s : Scope) → IsSoundScope s → (items : Option (List FormatItem)) (w : Written) (m : Statement) → IsFormatOf (format_text w) items → meaning s items w ≡ Some m
    → is_within_limits s items w ≡ true → IsSoundStatement s.variables m
unfolding meaning is_within_limits opened closed awaited moved
meant_sound s sound items (written.Assignment a) m is h limits = assigned_is s a m h
meant_sound s sound items (written.Open o) m is h limits =
    let u = bound (unit_meant s o.unit) _ m h in
    let told = bound (optional (integer_place s) o.iostat) _ m u.2 in
    let p = passed (has_file o.unit o.what) (Some (statement.OpenUnit u.0 o.what told.0)) m told.2 in
    subst (IsSoundStatement s.variables) (some_is (statement.OpenUnit u.0 o.what told.0) m p.1)
    (unit_is s o.unit u.0 u.1, given_is (integer_place s) (IsIntegerPlace s.variables) (integer_place_is s) o.iostat told.0 told.1)
meant_sound s sound items (written.Close c) m is h limits =
    let u = bound (unit_meant s c.unit) _ m h in
    let told = bound (optional (integer_place s) c.iostat) _ m u.2 in
    subst (IsSoundStatement s.variables) (some_is _ m told.2)
    (unit_is s c.unit u.0 u.1, given_is (integer_place s) (IsIntegerPlace s.variables) (integer_place_is s) c.iostat told.0 told.1)
meant_sound s sound items (written.Wait w) m is h limits =
    let u = bound (unit_meant s w.unit) _ m h in
    let id = bound (optional (integer_operand s) w.what) _ m u.2 in
    let told = bound (optional (integer_place s) w.iostat) _ m id.2 in
    subst (IsSoundStatement s.variables) (some_is _ m told.2)
    (unit_is s w.unit u.0 u.1, given_is (integer_operand s) (IsIntegerOperand s.variables) (integer_operand_is s) w.what id.0 id.1, given_is (integer_place s) (IsIntegerPlace s.variables) (integer_place_is s) w.iostat told.0 told.1)
meant_sound s sound items (written.Move how) m is h limits =
    let u = bound (unit_meant s how.unit) _ m h in
    let told = bound (optional (integer_place s) how.iostat) _ m u.2 in
    subst (IsSoundStatement s.variables) (some_is _ m told.2)
    (unit_is s how.unit u.0 u.1, given_is (integer_place s) (IsIntegerPlace s.variables) (integer_place_is s) how.iostat told.0 told.1)
meant_sound s sound items (written.Inquire i) m is h limits = inquired_is s i m h
meant_sound s sound items (written.Transfer t) m is h limits = transferred_is s sound items t m is h limits
meant_sound s sound items written.End m is h limits = subst (IsSoundStatement s.variables) (some_is statement.End m h) tt
meant_sound s sound items (written.Declaration d) m is h limits = cc
meant_sound s sound items (written.Group g) m is h limits = cc

pub meaning_sound : MeaningIsSound
meaning_sound s w m sound has = meant_sound s sound has.items w m has.format has.is has.within
