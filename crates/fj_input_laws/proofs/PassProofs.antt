-- A part passes, or meets a condition.
use Rattle.std.proofs.Common.{◌≡◌, ◌≢◌, ℕ, suc, ◌<◌, Bool, true, false, List, [], ◌∷◌, ◌++◌, length, Option, Some, None, Result, Ok, Err, refl, sym, ap, subst, ◌⊎◌, inl, inr, arith}
use Rattle.std.proofs.lemmas.Bool.{cases_lt, cases_Bool}
use Rattle.fj_value.specs.declared.edit.Edit.{Edit}
use Rattle.fj_value.specs.declared.edit.EditModes.{EditModes}
use Rattle.fj_value.specs.declared.value.Value.{Value}
use Rattle.fj_value.specs.declared.condition.Condition.{Condition}
use Rattle.fj_value.specs.declared.condition.Condition.TheVariants.{Fine, EndOfFile, EndOfRecord, Error}
use Rattle.fj_control.specs.Paired.{Part, item, string, move, slash, lacking}
use Rattle.fj_input_laws.specs.Fields.{IsFor, field_width}
use Rattle.fj_input_laws.specs.Source.{Source, Place}
use Rattle.fj_input_laws.specs.Explicit.{place_past, place_behind, characters, IsShort, field, Meets, descriptor_is_wanting, string_is_met, records_have_ended, descriptor_is_for_others, record_is_short, record_has_ended, field_has_no_value, record_ends_in_field, AllPass, IsFirst}
use Rattle.fj_input_laws.proofs.FieldProofs.{is_for}

abbrev pub Passes : Source → Place → Part ℕ → Type 0
Passes s place (item modes e cell) = IsFor e (s.kinds cell) × ((v : Value) × (field s place modes e cell ≡ Ok v)) × (IsShort s place e cell → (modes.pad ≡ true) × (s.advance ≡ true))
Passes s place (string text) = ⊥
Passes s place (move how) = Unit {0}
Passes s place slash = (text : List ℕ) × (s.record_text (suc place.number) ≡ Some text)
Passes s place lacking = ⊥

abbrev pub MeetsOne : Source → Place → Part ℕ → Type 0
MeetsOne s place part = (condition : Condition) × Meets s place part condition

-- ---- one of the two

module _ (s : Source) (place : Place) (modes : EditModes) (e : Edit) (cell : ℕ) where
  short_item : IsFor e (s.kinds cell) → IsShort s place e cell → (pad : Bool) → modes.pad ≡ pad → (advance : Bool) → s.advance ≡ advance → (r : Result Value Condition) → field s place modes e cell ≡ r
      → MeetsOne s place (item modes e cell) ⊎ Passes s place (item modes e cell)
  short_item right short false p true a r is = inl (Error 30, record_is_short right short p a)
  short_item right short false p false a r is = inl (EndOfRecord, record_has_ended right short p a)
  short_item right short true p advance a (Err condition) is = inl (condition, field_has_no_value right (λ h. p) is)
  short_item right short true p true a (Ok v) is = inr (right, (v, is), λ h. (p, a))
  short_item right short true p false a (Ok v) is = inl (EndOfRecord, record_ends_in_field right short p a is)

  whole_item : IsFor e (s.kinds cell) → (IsShort s place e cell → ⊥) → (r : Result Value Condition) → field s place modes e cell ≡ r → MeetsOne s place (item modes e cell) ⊎ Passes s place (item modes e cell)
  whole_item right whole (Err condition) is = inl (condition, field_has_no_value right (λ h. absurd (whole h)) is)
  whole_item right whole (Ok v) is = inr (right, (v, is), λ h. absurd (whole h))

  either_item : MeetsOne s place (item modes e cell) ⊎ Passes s place (item modes e cell)
  either_item = elim (is_for e (s.kinds cell)) [
    | inr never ↦ inl (Error 12, descriptor_is_for_others never)
    | inl right ↦ elim (cases_lt (length (characters s place e cell)) (field_width e (s.kinds cell))) [
      | inl short ↦ short_item right short modes.pad refl s.advance refl (field s place modes e cell) refl
      | inr whole ↦ whole_item right (λ short. absurd (omega (arith, short, whole))) (field s place modes e cell) refl
    ]
  ]

slash_either : (s : Source) (place : Place) (o : Option (List ℕ)) → s.record_text (suc place.number) ≡ o → MeetsOne s place slash ⊎ Passes s place slash
slash_either s place None is = inl (s.behind, records_have_ended is)
slash_either s place (Some text) is = inr (text, is)

pub either : (s : Source) (place : Place) (part : Part ℕ) → MeetsOne s place part ⊎ Passes s place part
either s place (item modes e cell) = either_item s place modes e cell
either s place (string text) = inl (Error 29, string_is_met)
either s place (move how) = inr tt
either s place slash = slash_either s place (s.record_text (suc place.number)) refl
either s place lacking = inl (Error 11, descriptor_is_wanting)

-- ---- and not both

ok_err : (r : Result Value Condition) (v : Value) (c : Condition) → r ≡ Ok v → r ≡ Err c → ⊥
ok_err r v c a b = let wrong : Ok v ≡ Err c = cc in cc

both_bools : (b : Bool) → b ≡ true → b ≡ false → ⊥
both_bools b t f = let wrong : true ≡ false = cc in cc

some_none : (o : Option (List ℕ)) (t : List ℕ) → o ≡ Some t → o ≡ None → ⊥
some_none o t a b = let wrong : Some t ≡ None = cc in cc

pub not_both : (s : Source) (place : Place) (part : Part ℕ) (condition : Condition) → Meets s place part condition → Passes s place part → ⊥
not_both s place _ _ descriptor_is_wanting p = p
not_both s place _ _ string_is_met p = p
not_both s place _ _ (records_have_ended none) p = some_none (s.record_text (suc place.number)) p.0 p.1 none
not_both s place _ _ (descriptor_is_for_others never) p = never p.0
not_both s place _ _ (record_is_short {modes = modes} right short pad advance) p = both_bools modes.pad (p.2 short).0 pad
not_both s place _ _ (record_has_ended {modes = modes} right short pad advance) p = both_bools modes.pad (p.2 short).0 pad
not_both s place _ _ (field_has_no_value {modes = modes} {e = e} {cell = cell} {condition = condition} right padded is) p = ok_err (field s place modes e cell) p.1.0 condition p.1.1 is
not_both s place _ _ (record_ends_in_field right short pad advance is) p = both_bools s.advance (p.2 short).1 advance

-- ---- parts one by one

pub no_split : (front : List (Part ℕ)) (part : Part ℕ) (back : List (Part ℕ)) → [] ≡ front ++ part ∷ back → ⊥
no_split [] part back is = cc
no_split (x ∷ front) part back is = cc

pub none_pass : (s : Source) (place : Place) → AllPass s [] place
none_pass s place front part back condition is meets = no_split front part back is

all_from : (s : Source) (place : Place) (part : Part ℕ) (more : List (Part ℕ)) → Passes s place part → AllPass s more (place_past s part place) → AllPass s (part ∷ more) place
all_from s place part more passes all [] part' back condition is meets =
    let same : part' ≡ part = cc in
    not_both s place part condition (subst (λ (x : Part ℕ). Meets s place x condition) same meets) passes
all_from s place part more passes all (x ∷ front) part' back condition is meets =
    let same : x ≡ part = cc in
    let rest : more ≡ front ++ part' ∷ back = cc in
    all front part' back condition rest (subst (λ (y : Part ℕ). Meets s (place_behind s front (place_past s y place)) part' condition) same meets)

pub passes_first : (s : Source) (place : Place) (part : Part ℕ) (more : List (Part ℕ)) → AllPass s (part ∷ more) place → Passes s place part
passes_first s place part more all = elim (either s place part) [
  | inl meets ↦ absurd (all [] part more meets.0 refl meets.1)
  | inr passes ↦ passes
]

pub all_behind : (s : Source) (place : Place) (part : Part ℕ) (more : List (Part ℕ)) → AllPass s (part ∷ more) place → AllPass s more (place_past s part place)
all_behind s place part more all front part' back condition is meets = all (part ∷ front) part' back condition (ap (λ l. part ∷ l) is) meets

abbrev One : Source → List (Part ℕ) → Place → Type 0
One s parts place = AllPass s parts place ⊎ ((condition : Condition) × IsFirst s parts place condition)

one_behind : (s : Source) (part : Part ℕ) (more : List (Part ℕ)) (place : Place) → Passes s place part → One s more (place_past s part place) → One s (part ∷ more) place
one_behind s part more place passes (inl all) = inl (all_from s place part more passes all)
one_behind s part more place passes (inr (condition, first)) = inr (
  condition,
  record {
    front = part ∷ first.front;
    part = first.part;
    back = first.back;
    split = ap (λ l. part ∷ l) first.split;
    pass = all_from s place part first.front passes first.pass;
    meets = first.meets;
  },
)

pub one : (s : Source) (parts : List (Part ℕ)) (place : Place) → One s parts place
one s [] place = inl (none_pass s place)
one s (part ∷ more) place = elim (either s place part) [
  | inl meets ↦ inr (meets.0, record { front = []; part = part; back = more; split = refl; pass = none_pass s place; meets = meets.1 })
  | inr passes ↦ one_behind s part more place passes (one s more (place_past s part place))
]
