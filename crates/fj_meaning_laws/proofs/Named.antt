-- Each place and each array that stands in a statement is referenced or defined.
use Rattle.std.proofs.Common.{◌≡◌, ℕ, Bool, true, false, List, [], ◌∷◌, ◌++◌, map, Option, Some, None, refl, sym, ap, ◌∙◌, subst, ◌⊎◌, inl, inr}
use Rattle.std.specs.List.{Contains, flat_map}
use Rattle.fj_value.specs.declared.place.Place.{Place}
use Rattle.fj_modes.specs.declared.asked.Wanted.{Wanted}
use Rattle.fj_statement.specs.declared.deck.Variable.{Variable}
use Rattle.fj_statement.specs.declared.unit.UnitRef.{UnitRef}
use Rattle.fj_statement.specs.declared.unit.UnitRef.TheVariants as unit
use Rattle.fj_statement.specs.declared.unit.Subject.{Subject}
use Rattle.fj_statement.specs.declared.unit.Subject.TheVariants as subject
use Rattle.fj_statement.specs.declared.statement.Operand.{Operand}
use Rattle.fj_statement.specs.declared.statement.Operand.TheVariants as operand
use Rattle.fj_statement.specs.declared.statement.Control.{Control}
use Rattle.fj_statement.specs.declared.statement.Control.TheVariants as control
use Rattle.fj_statement.specs.declared.statement.Transfer.{Transfer}
use Rattle.fj_statement.specs.declared.statement.Statement.{Statement}
use Rattle.fj_statement.specs.declared.statement.Statement.TheVariants as statement
use Rattle.fj_statement.specs.Units.{unit_of, place_held, place_new}
use Rattle.fj_statement.specs.Sound.{members_of}
use Rattle.fj_statement.specs.Naming.{if_given, place_of, place_given, transfer_places, unit_places, subject_places, named_places, array_of, named_variables}
use Rattle.fj_meaning_laws.specs.Naming.{IsElement, IsOf, the_place, an_element, IsItem, of_item, of_member, References, right_side, written_item, place_of_unit, by_rec, by_pos, id_of_wait, id_of_inquire, HasStatus, of_open, of_close, of_wait, of_motion, of_inquire, of_transfer, Specifies, status, by_size, by_id, new_unit, answer, Defines, specified, left_side, read_item}
use Rattle.fj_meaning_laws.specs.NamingLaws.{IsOpen, HasNewUnitAsOpen}
use Rattle.fj_meaning_laws.proofs.Membership.{nowhere, only, heads, flat_to, map_to}
use Rattle.fj_meaning_laws.proofs.Needed.{either, held_is, new_is}

given_is : {X : Type 0} (o : Option X) (x : X) → Contains (if_given o) x → o ≡ Some x
given_is None x at = nowhere x at
given_is (Some y) x at = ap (λ z. Some z) (only y x at)

module _ (variables : List Variable) where
  place_is : (o : Operand) (p : Place) → Contains (place_of o) p → IsOf variables o p
  place_is (operand.Literal kind value) p at = nowhere p at
  place_is (operand.One place) p at = subst (λ q. IsOf variables (operand.One place) q) (only place p at) the_place
  place_is (operand.Whole var) p at = nowhere p at

  operand_is : (o : Option Operand) (p : Place) → Contains (place_given o) p → (x : Operand) × (o ≡ Some x) × IsOf variables x p
  operand_is None p at = nowhere p at
  operand_is (Some x) p at = (x, refl, place_is x p at)

  array_is : (o : Operand) (var : ℕ) (p : Place) → Contains (array_of o) var → IsElement variables var p → IsOf variables o p
  array_is (operand.Literal kind value) var p at h = nowhere var at
  array_is (operand.One place) var p at h = nowhere var at
  array_is (operand.Whole v) var p at h = an_element (subst (λ k. IsElement variables k p) (sym (only v var at)) h)

  member_is : (t : Transfer) (c : Control) (var : ℕ) (p : Place) → t.control ≡ c → Contains (members_of c) var → IsElement variables var p → IsItem variables t p
  member_is t control.Unformatted var p e at h = nowhere var at
  member_is t (control.Explicit f) var p e at h = nowhere var at
  member_is t control.Listed var p e at h = nowhere var at
  member_is t (control.Group name vars) var p e at h = of_member e at h

  abbrev Needed : Statement → Place → Type 0
  Needed st p = References variables st p ⊎ Defines variables st p

  item_is : (t : Transfer) (b : Bool) (p : Place) → t.input ≡ b → IsItem variables t p → Needed (statement.Transfer t) p
  item_is t true p e h = inr (read_item e h)
  item_is t false p e h = inl (written_item e h)

  unit_is : (st : Statement) (u : UnitRef) (p : Place) → unit_of st ≡ Some u → HasNewUnitAsOpen st → (IsOpen st → place_new u ≡ Some p → Defines variables st p)
      → Contains (unit_places u) p → Needed st p
  unit_is st u p e opens new at =
      either (if_given (place_held u)) (if_given (place_new u)) p at
      (λ h. let found = held_is u p (given_is (place_held u) p h) in inl (place_of_unit (e ∙ ap (λ x. Some x) found.1)))
      (λ h. let found = new_is u p (given_is (place_new u) p h) in inr (new (opens p found.0 (e ∙ ap (λ x. Some x) found.1)) (given_is (place_new u) p h)))

  status_is : (st : Option Place → Statement) (iostat : Option Place) (p : Place) → HasStatus (st (Some p)) p → Contains (if_given iostat) p → Needed (st iostat) p
  status_is st iostat p h at = inr (specified (subst (λ o. Specifies (st o) p) (sym (given_is iostat p at)) (status h)))

  transfer_is : (t : Transfer) (p : Place) → Contains (transfer_places t) p → Needed (statement.Transfer t) p
  transfer_is t p at =
      let items = flat_map place_of t.items in
      let rec = place_given t.rec in
      let pos = place_given t.pos in
      let id = if_given t.id in
      let size = if_given t.size in
      either ((((items ++ rec) ++ pos) ++ id) ++ size) (if_given t.iostat) p at
      (λ a. either (((items ++ rec) ++ pos) ++ id) size p a
      (λ b. either ((items ++ rec) ++ pos) id p b
      (λ c. either (items ++ rec) pos p c
      (λ d. either items rec p d
      (λ e. let found = flat_to place_of p t.items e in item_is t t.input p refl (of_item found.1 (place_is found.0 p found.2)))
      (λ e. let found = operand_is t.rec p e in inl (by_rec found.1 found.2)))
      (λ d. let found = operand_is t.pos p d in inl (by_pos found.1 found.2)))
      (λ c. inr (specified (by_id (given_is t.id p c)))))
      (λ b. inr (specified (by_size (given_is t.size p b)))))
      (λ a. inr (specified (status (of_transfer (given_is t.iostat p a)))))

  about_is : (about : Subject) (asked : List Wanted) (id : Option Operand) (iostat : Option Place) (look : Option Bool) (p : Place)
      → HasNewUnitAsOpen (statement.Inquire about asked id iostat look) → Contains (subject_places about) p → Needed (statement.Inquire about asked id iostat look) p
  about_is (subject.Unit u) asked id iostat look p opens at = unit_is (statement.Inquire (subject.Unit u) asked id iostat look) u p refl opens (λ h e. absurd h) at
  about_is (subject.File name) asked id iostat look p opens at = nowhere p at

  wait_id : (u : UnitRef) (id : Option Operand) (iostat : Option Place) (p : Place) → Contains (place_given id) p → Needed (statement.WaitFor u id iostat) p
  wait_id u None iostat p at = nowhere p at
  wait_id u (Some id) iostat p at = inl (id_of_wait (place_is id p at))

  inquire_id : (about : Subject) (asked : List Wanted) (id : Option Operand) (iostat : Option Place) (look : Option Bool) (p : Place)
      → Contains (place_given id) p → Needed (statement.Inquire about asked id iostat look) p
  inquire_id about asked None iostat look p at = nowhere p at
  inquire_id about asked (Some id) iostat look p at = inl (id_of_inquire (place_is id p at))

  pub places_named : (st : Statement) (p : Place) → HasNewUnitAsOpen st → Contains (named_places st) p → Needed st p
  places_named (statement.Assign to from) p opens at =
      either (place_of to) (place_of from) p at (λ h. inr (left_side (place_is to p h))) (λ h. inl (right_side (place_is from p h)))
  places_named (statement.OpenUnit u spec iostat) p opens at =
      either (unit_places u) (if_given iostat) p at
      (unit_is (statement.OpenUnit u spec iostat) u p refl opens (λ h e. let found = new_is u p e in specified (subst (λ x. Specifies (statement.OpenUnit x spec iostat) p) (sym found.1) new_unit)))
      (status_is (λ o. statement.OpenUnit u spec o) iostat p of_open)
  places_named (statement.CloseUnit u keep iostat) p opens at =
      either (unit_places u) (if_given iostat) p at (unit_is (statement.CloseUnit u keep iostat) u p refl opens (λ h e. absurd h)) (status_is (λ o. statement.CloseUnit u keep o) iostat p of_close)
  places_named (statement.WaitFor u id iostat) p opens at =
      either (unit_places u ++ place_given id) (if_given iostat) p at
      (λ a. either (unit_places u) (place_given id) p a (unit_is (statement.WaitFor u id iostat) u p refl opens (λ h e. absurd h)) (wait_id u id iostat p))
      (status_is (λ o. statement.WaitFor u id o) iostat p of_wait)
  places_named (statement.Move how u iostat) p opens at =
      either (unit_places u) (if_given iostat) p at (unit_is (statement.Move how u iostat) u p refl opens (λ h e. absurd h)) (status_is (λ o. statement.Move how u o) iostat p of_motion)
  places_named (statement.Inquire about asked id iostat look) p opens at =
      let answers = map (λ (w : Wanted). w.place) asked in
      either ((subject_places about ++ answers) ++ place_given id) (if_given iostat) p at
      (λ a. either (subject_places about ++ answers) (place_given id) p a
      (λ b. either (subject_places about) answers p b (about_is about asked id iostat look p opens)
      (λ c. let found = map_to (λ (w : Wanted). w.place) p asked c in inr (specified (answer found.1 found.2))))
      (inquire_id about asked id iostat look p))
      (status_is (λ o. statement.Inquire about asked id o look) iostat p of_inquire)
  places_named (statement.Transfer t) p opens at =
      either (unit_places t.unit) (transfer_places t) p at (unit_is (statement.Transfer t) t.unit p refl opens (λ h e. absurd h)) (transfer_is t p)
  places_named statement.End p opens at = nowhere p at

  pub arrays_named : (st : Statement) (p : Place) (var : ℕ) → Contains (named_variables st) var → IsElement variables var p → Needed st p
  arrays_named (statement.Assign to from) p var at h =
      either (array_of to) (array_of from) var at (λ a. inr (left_side (array_is to var p a h))) (λ a. inl (right_side (array_is from var p a h)))
  arrays_named (statement.OpenUnit u spec iostat) p var at h = nowhere var at
  arrays_named (statement.CloseUnit u keep iostat) p var at h = nowhere var at
  arrays_named (statement.WaitFor u id iostat) p var at h = nowhere var at
  arrays_named (statement.Move how u iostat) p var at h = nowhere var at
  arrays_named (statement.Inquire about asked id iostat look) p var at h = nowhere var at
  arrays_named (statement.Transfer t) p var at h =
      either (flat_map array_of t.items) (members_of t.control) var at
      (λ a. let found = flat_to array_of var t.items a in item_is t t.input p refl (of_item found.1 (array_is found.0 var p found.2 h)))
      (λ a. item_is t t.input p refl (member_is t t.control var p refl a h))
  arrays_named statement.End p var at h = nowhere var at
