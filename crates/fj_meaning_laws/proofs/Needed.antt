-- The lists that prohibitions look at have just the places that a statement references, defines and specifies.
use Rattle.std.proofs.Common.{◌≡◌, ℕ, Bool, true, false, List, [], ◌∷◌, ◌++◌, map, Option, Some, None, refl, sym, ap, ◌∙◌, subst, ◌⊎◌, inl, inr, arith}
use Rattle.std.specs.Prelude.{if◌then◌else◌}
use Rattle.std.specs.List.{Contains}
use Rattle.std.proofs.lemmas.List.Elements.{Contains-append_left, Contains-append_right, Contains-append_cases}
use Rattle.fj_value.specs.declared.place.Place.{Place}
use Rattle.fj_modes.specs.declared.asked.Wanted.{Wanted}
use Rattle.fj_statement.specs.declared.deck.Variable.{Variable}
use Rattle.fj_statement.specs.declared.unit.UnitRef.{UnitRef}
use Rattle.fj_statement.specs.declared.unit.UnitRef.TheVariants as unit
use Rattle.fj_statement.specs.declared.unit.Subject.{Subject}
use Rattle.fj_statement.specs.declared.unit.Subject.TheVariants as subject
use Rattle.fj_statement.specs.declared.statement.Operand.{Operand}
use Rattle.fj_statement.specs.declared.statement.Transfer.{Transfer}
use Rattle.fj_statement.specs.declared.statement.Statement.{Statement}
use Rattle.fj_statement.specs.declared.statement.Statement.TheVariants as statement
use Rattle.fj_statement.specs.Units.{unit_of, place_held, place_new}
use Rattle.fj_meaning.specs.State.{State}
use Rattle.fj_meaning.specs.Needs.{need, if_given, given_places, unit_places, subject_places, transfer_places, internal_places, wanted_places}
use Rattle.fj_meaning_laws.specs.Naming.{IsOf, IsItem, IsInside, References, right_side, written_item, file_read, place_of_unit, by_rec, by_pos, id_of_wait, id_of_inquire, HasStatus, of_open, of_close, of_wait, of_motion, of_inquire, of_transfer, Specifies, status, by_size, by_id, new_unit, answer, Defines, specified, left_side, read_item, file_written}
use Rattle.fj_meaning_laws.specs.NamingLaws.{Moves, moves_item, Enters, enters_file, IsNeeded}
use Rattle.fj_meaning_laws.proofs.Membership.{nowhere, some_is, heads, only, map_to, map_from}
use Rattle.fj_meaning_laws.proofs.Elements.{given_to, given_from, of_to, of_from, operand_to, operand_from, item_to, item_from, inside_to, inside_from}

-- of two lists one behind the other
pub either : {X Q : Type 0} (xs ys : List X) (x : X) → Contains (xs ++ ys) x → (Contains xs x → Q) → (Contains ys x → Q) → Q
either {X = X} {Q = Q} xs ys x at f g = by (Contains-append_cases xs ys x at)
  where
    by : Contains xs x ⊎ Contains ys x → Q
    by (inl h) = f h
    by (inr h) = g h

pub held_is : (u : UnitRef) (p : Place) → place_held u ≡ Some p → (n : ℕ) × (u ≡ unit.Held p n)
held_is unit.Star p e = absurd (let never : ◌≡◌ {A = Option Place} None (Some p) = e in cc)
held_is (unit.Number n) p e = absurd (let never : ◌≡◌ {A = Option Place} None (Some p) = e in cc)
held_is (unit.Held q n) p e = (n, ap (λ x. unit.Held x n) (some_is q p e))
held_is (unit.New q n) p e = absurd (let never : ◌≡◌ {A = Option Place} None (Some p) = e in cc)
held_is (unit.Internal f) p e = absurd (let never : ◌≡◌ {A = Option Place} None (Some p) = e in cc)

pub new_is : (u : UnitRef) (p : Place) → place_new u ≡ Some p → (n : ℕ) × (u ≡ unit.New p n)
new_is unit.Star p e = absurd (let never : ◌≡◌ {A = Option Place} None (Some p) = e in cc)
new_is (unit.Number n) p e = absurd (let never : ◌≡◌ {A = Option Place} None (Some p) = e in cc)
new_is (unit.Held q n) p e = absurd (let never : ◌≡◌ {A = Option Place} None (Some p) = e in cc)
new_is (unit.New q n) p e = (n, ap (λ x. unit.New x n) (some_is q p e))
new_is (unit.Internal f) p e = absurd (let never : ◌≡◌ {A = Option Place} None (Some p) = e in cc)

unit_in : (u : UnitRef) (p : Place) (n : ℕ) → ◌≡◌ {A = Option UnitRef} (Some u) (Some (unit.Held p n)) → Contains (unit_places u) p
unit_in u p n e = subst (λ x. Contains (unit_places x) p) (sym (some_is u (unit.Held p n) e)) (heads p [] p refl)

module _ (variables : List Variable) (s : State) where
  unit_to : (st : Statement) (u : UnitRef) (p : Place) → unit_of st ≡ Some u → Contains (unit_places u) p → References variables st p
  unit_to st u p e at = let found = held_is u p (given_to (place_held u) p at) in place_of_unit (e ∙ ap (λ x. Some x) found.1)

  about_to : (about : Subject) (asked : List Wanted) (id : Option Operand) (iostat : Option Place) (look : Option Bool) (p : Place)
      → Contains (subject_places about) p → References variables (statement.Inquire about asked id iostat look) p
  about_to (subject.Unit u) asked id iostat look p at = unit_to (statement.Inquire (subject.Unit u) asked id iostat look) u p refl at
  about_to (subject.File name) asked id iostat look p at = nowhere p at

  moved_to : (t : Transfer) (b : Bool) (p : Place) → t.input ≡ b → Contains (if b then internal_places variables t.unit else transfer_places variables t) p
      → References variables (statement.Transfer t) p
  moved_to t true p e at = file_read e (inside_to variables t t.unit p refl at)
  moved_to t false p e at = written_item e (item_to variables t p at)

  transfer_to : (t : Transfer) (p : Place) → Contains (need variables s (statement.Transfer t)).references p → References variables (statement.Transfer t) p
  transfer_to t p at =
      let unit = unit_places t.unit in
      let rec = given_places variables t.rec in
      let pos = given_places variables t.pos in
      either ((unit ++ rec) ++ pos) (if t.input then internal_places variables t.unit else transfer_places variables t) p at
      (λ h. either (unit ++ rec) pos p h
      (λ g. either unit rec p g
      (λ k. unit_to (statement.Transfer t) t.unit p refl k)
      (λ k. let found = operand_to variables t.rec p k in by_rec found.1 found.2))
      (λ g. let found = operand_to variables t.pos p g in by_pos found.1 found.2))
      (λ h. moved_to t t.input p refl h)

  pub references_to : (st : Statement) (p : Place) → Contains (need variables s st).references p → References variables st p
  references_to (statement.Assign to from) p at = right_side (of_to variables from p at)
  references_to (statement.OpenUnit u spec iostat) p at = unit_to (statement.OpenUnit u spec iostat) u p refl at
  references_to (statement.CloseUnit u keep iostat) p at = unit_to (statement.CloseUnit u keep iostat) u p refl at
  references_to (statement.WaitFor u None iostat) p at =
      either (unit_places u) [] p at (λ h. unit_to (statement.WaitFor u None iostat) u p refl h) (λ h. nowhere p h)
  references_to (statement.WaitFor u (Some id) iostat) p at =
      either (unit_places u) (given_places variables (Some id)) p at (λ h. unit_to (statement.WaitFor u (Some id) iostat) u p refl h) (λ h. id_of_wait (of_to variables id p h))
  references_to (statement.Move how u iostat) p at = unit_to (statement.Move how u iostat) u p refl at
  references_to (statement.Inquire about asked None iostat look) p at =
      either (subject_places about) [] p at (λ h. about_to about asked None iostat look p h) (λ h. nowhere p h)
  references_to (statement.Inquire about asked (Some id) iostat look) p at =
      either (subject_places about) (given_places variables (Some id)) p at (λ h. about_to about asked (Some id) iostat look p h) (λ h. id_of_inquire (of_to variables id p h))
  references_to (statement.Transfer t) p at = transfer_to t p at
  references_to statement.End p at = nowhere p at

  unit_from : (st : Statement) (p : Place) (n : ℕ) → unit_of st ≡ Some (unit.Held p n) → Contains (need variables s st).references p
  unit_from (statement.Assign to from) p n e = absurd (let never : ◌≡◌ {A = Option UnitRef} None (Some (unit.Held p n)) = e in cc)
  unit_from (statement.OpenUnit u spec iostat) p n e = unit_in u p n e
  unit_from (statement.CloseUnit u keep iostat) p n e = unit_in u p n e
  unit_from (statement.WaitFor u id iostat) p n e = Contains-append_left (unit_places u) (given_places variables id) p (unit_in u p n e)
  unit_from (statement.Move how u iostat) p n e = unit_in u p n e
  unit_from (statement.Inquire (subject.Unit u) asked id iostat look) p n e = Contains-append_left (unit_places u) (given_places variables id) p (unit_in u p n e)
  unit_from (statement.Inquire (subject.File name) asked id iostat look) p n e = absurd (let never : ◌≡◌ {A = Option UnitRef} None (Some (unit.Held p n)) = e in cc)
  unit_from (statement.Transfer t) p n e =
      let pos = given_places variables t.pos in
      let moved = if t.input then internal_places variables t.unit else transfer_places variables t in
      Contains-append_left ((unit_places t.unit ++ given_places variables t.rec) ++ pos) moved p
      (Contains-append_left (unit_places t.unit ++ given_places variables t.rec) pos p (Contains-append_left (unit_places t.unit) (given_places variables t.rec) p (unit_in t.unit p n e)))
  unit_from statement.End p n e = absurd (let never : ◌≡◌ {A = Option UnitRef} None (Some (unit.Held p n)) = e in cc)

  moved_from : (t : Transfer) (p : Place) → Contains (if t.input then internal_places variables t.unit else transfer_places variables t) p → Contains (need variables s (statement.Transfer t)).references p
  moved_from t p at =
      Contains-append_right ((unit_places t.unit ++ given_places variables t.rec) ++ given_places variables t.pos) (if t.input then internal_places variables t.unit else transfer_places variables t) p at

  pub references_from : (st : Statement) (p : Place) → References variables st p → Contains (need variables s st).references p
  references_from _ p (right_side {from = from} h) = of_from variables from p h
  references_from _ p (written_item {t = t} e h) = moved_from t p (subst (λ b. Contains (if b then internal_places variables t.unit else transfer_places variables t) p) (sym e) (item_from variables t p h))
  references_from _ p (file_read {t = t} e h) = moved_from t p (subst (λ b. Contains (if b then internal_places variables t.unit else transfer_places variables t) p) (sym e) (inside_from variables t p h))
  references_from _ p (place_of_unit {st = st} {n = n} e) = unit_from st p n e
  references_from _ p (by_rec {t = t} {o = o} e h) =
      let unit = unit_places t.unit in
      let rec = given_places variables t.rec in
      let pos = given_places variables t.pos in
      Contains-append_left ((unit ++ rec) ++ pos) (if t.input then internal_places variables t.unit else transfer_places variables t) p
      (Contains-append_left (unit ++ rec) pos p (Contains-append_right unit rec p (operand_from variables t.rec o p e h)))
  references_from _ p (by_pos {t = t} {o = o} e h) =
      let unit = unit_places t.unit in
      let rec = given_places variables t.rec in
      let pos = given_places variables t.pos in
      Contains-append_left ((unit ++ rec) ++ pos) (if t.input then internal_places variables t.unit else transfer_places variables t) p
      (Contains-append_right (unit ++ rec) pos p (operand_from variables t.pos o p e h))
  references_from _ p (id_of_wait {u = u} {id = id} h) = Contains-append_right (unit_places u) (given_places variables (Some id)) p (of_from variables id p h)
  references_from _ p (id_of_inquire {about = about} {id = id} h) = Contains-append_right (subject_places about) (given_places variables (Some id)) p (of_from variables id p h)

  -- ---- specifiers

  transfer_specifies : (t : Transfer) (p : Place) → Contains ((if_given t.id ++ if_given t.size) ++ if_given t.iostat) p → Specifies (statement.Transfer t) p
  transfer_specifies t p at =
      either (if_given t.id ++ if_given t.size) (if_given t.iostat) p at
      (λ h. either (if_given t.id) (if_given t.size) p h (λ g. by_id (given_to t.id p g)) (λ g. by_size (given_to t.size p g)))
      (λ h. status (of_transfer (given_to t.iostat p h)))

  pub specifiers_to : (st : Statement) (p : Place) → Contains (need variables s st).specifiers p → Specifies st p
  specifiers_to (statement.Assign to from) p at = nowhere p at
  specifiers_to (statement.OpenUnit u spec iostat) p at =
      either (if_given (place_new u)) (if_given iostat) p at
      (λ h. let found = new_is u p (given_to (place_new u) p h) in subst (λ x. Specifies (statement.OpenUnit x spec iostat) p) (sym found.1) new_unit)
      (λ h. subst (λ o. Specifies (statement.OpenUnit u spec o) p) (sym (given_to iostat p h)) (status of_open))
  specifiers_to (statement.CloseUnit u keep iostat) p at = subst (λ o. Specifies (statement.CloseUnit u keep o) p) (sym (given_to iostat p at)) (status of_close)
  specifiers_to (statement.WaitFor u id iostat) p at = subst (λ o. Specifies (statement.WaitFor u id o) p) (sym (given_to iostat p at)) (status of_wait)
  specifiers_to (statement.Move how u iostat) p at = subst (λ o. Specifies (statement.Move how u o) p) (sym (given_to iostat p at)) (status of_motion)
  specifiers_to (statement.Inquire about asked id iostat look) p at =
      either (wanted_places asked) (if_given iostat) p at
      (λ h. let found = map_to (λ (w : Wanted). w.place) p asked h in answer found.1 found.2)
      (λ h. subst (λ o. Specifies (statement.Inquire about asked id o look) p) (sym (given_to iostat p h)) (status of_inquire))
  specifiers_to (statement.Transfer t) p at = transfer_specifies t p at
  specifiers_to statement.End p at = nowhere p at

  status_from : (st : Statement) (p : Place) → HasStatus st p → Contains (need variables s st).specifiers p
  status_from _ p (of_open {u = u}) = Contains-append_right (if_given (place_new u)) (p ∷ []) p (heads p [] p refl)
  status_from _ p of_close = heads p [] p refl
  status_from _ p of_wait = heads p [] p refl
  status_from _ p of_motion = heads p [] p refl
  status_from _ p (of_inquire {asked = asked}) = Contains-append_right (wanted_places asked) (p ∷ []) p (heads p [] p refl)
  status_from _ p (of_transfer {t = t} e) = Contains-append_right (if_given t.id ++ if_given t.size) (if_given t.iostat) p (given_from t.iostat p e)

  pub specifiers_from : (st : Statement) (p : Place) → Specifies st p → Contains (need variables s st).specifiers p
  specifiers_from _ p (status {st = st} h) = status_from st p h
  specifiers_from _ p (by_size {t = t} e) =
      Contains-append_left (if_given t.id ++ if_given t.size) (if_given t.iostat) p (Contains-append_right (if_given t.id) (if_given t.size) p (given_from t.size p e))
  specifiers_from _ p (by_id {t = t} e) =
      Contains-append_left (if_given t.id ++ if_given t.size) (if_given t.iostat) p (Contains-append_left (if_given t.id) (if_given t.size) p (given_from t.id p e))
  specifiers_from _ p (new_unit {status = iostat}) = Contains-append_left (p ∷ []) (if_given iostat) p (heads p [] p refl)
  specifiers_from _ p (answer {asked = asked} {status = iostat} {w = w} at e) =
      Contains-append_left (wanted_places asked) (if_given iostat) p (map_from (λ (x : Wanted). x.place) p asked w at e)

  -- ---- definitions

  defined_to : (t : Transfer) (b : Bool) (p : Place) → t.input ≡ b → Contains (if b then transfer_places variables t else internal_places variables t.unit) p
      → Defines variables (statement.Transfer t) p
  defined_to t true p e at = read_item e (item_to variables t p at)
  defined_to t false p e at = file_written e (inside_to variables t t.unit p refl at)

  pub defines_to : (st : Statement) (p : Place) → Contains (need variables s st).defines p → Defines variables st p
  defines_to (statement.Assign to from) p at = left_side (of_to variables to p at)
  defines_to (statement.OpenUnit u spec iostat) p at = specified (specifiers_to (statement.OpenUnit u spec iostat) p at)
  defines_to (statement.CloseUnit u keep iostat) p at = specified (specifiers_to (statement.CloseUnit u keep iostat) p at)
  defines_to (statement.WaitFor u id iostat) p at = specified (specifiers_to (statement.WaitFor u id iostat) p at)
  defines_to (statement.Move how u iostat) p at = specified (specifiers_to (statement.Move how u iostat) p at)
  defines_to (statement.Inquire about asked id iostat look) p at = specified (specifiers_to (statement.Inquire about asked id iostat look) p at)
  defines_to (statement.Transfer t) p at =
      either ((if_given t.id ++ if_given t.size) ++ if_given t.iostat) (if t.input then transfer_places variables t else internal_places variables t.unit) p at
      (λ h. specified (transfer_specifies t p h)) (λ h. defined_to t t.input p refl h)
  defines_to statement.End p at = nowhere p at

  specified_from : (st : Statement) (p : Place) → Contains (need variables s st).specifiers p → Contains (need variables s st).defines p
  specified_from (statement.Assign to from) p at = nowhere p at
  specified_from (statement.OpenUnit u spec iostat) p at = at
  specified_from (statement.CloseUnit u keep iostat) p at = at
  specified_from (statement.WaitFor u id iostat) p at = at
  specified_from (statement.Move how u iostat) p at = at
  specified_from (statement.Inquire about asked id iostat look) p at = at
  specified_from (statement.Transfer t) p at =
      Contains-append_left ((if_given t.id ++ if_given t.size) ++ if_given t.iostat) (if t.input then transfer_places variables t else internal_places variables t.unit) p at
  specified_from statement.End p at = at

  read_from : (t : Transfer) (p : Place) → Contains (if t.input then transfer_places variables t else internal_places variables t.unit) p → Contains (need variables s (statement.Transfer t)).defines p
  read_from t p at =
      Contains-append_right ((if_given t.id ++ if_given t.size) ++ if_given t.iostat) (if t.input then transfer_places variables t else internal_places variables t.unit) p at

  pub defines_from : (st : Statement) (p : Place) → Defines variables st p → Contains (need variables s st).defines p
  defines_from _ p (specified {st = st} h) = specified_from st p (specifiers_from st p h)
  defines_from _ p (left_side {to = to} h) = of_from variables to p h
  defines_from _ p (read_item {t = t} e h) = read_from t p (subst (λ b. Contains (if b then transfer_places variables t else internal_places variables t.unit) p) (sym e) (item_from variables t p h))
  defines_from _ p (file_written {t = t} e h) = read_from t p (subst (λ b. Contains (if b then transfer_places variables t else internal_places variables t.unit) p) (sym e) (inside_from variables t p h))

  -- ---- items and the internal file

  items_to : (st : Statement) (p : Place) → Contains (need variables s st).items p → Moves variables st p
  items_to (statement.Assign to from) p at = nowhere p at
  items_to (statement.OpenUnit u spec iostat) p at = nowhere p at
  items_to (statement.CloseUnit u keep iostat) p at = nowhere p at
  items_to (statement.WaitFor u id iostat) p at = nowhere p at
  items_to (statement.Move how u iostat) p at = nowhere p at
  items_to (statement.Inquire about asked id iostat look) p at = nowhere p at
  items_to (statement.Transfer t) p at = moves_item (item_to variables t p at)
  items_to statement.End p at = nowhere p at

  items_from : (st : Statement) (p : Place) → Moves variables st p → Contains (need variables s st).items p
  items_from _ p (moves_item {t = t} h) = item_from variables t p h

  internal_to : (st : Statement) (p : Place) → Contains (need variables s st).internal p → Enters variables st p
  internal_to (statement.Assign to from) p at = nowhere p at
  internal_to (statement.OpenUnit u spec iostat) p at = nowhere p at
  internal_to (statement.CloseUnit u keep iostat) p at = nowhere p at
  internal_to (statement.WaitFor u id iostat) p at = nowhere p at
  internal_to (statement.Move how u iostat) p at = nowhere p at
  internal_to (statement.Inquire about asked id iostat look) p at = nowhere p at
  internal_to (statement.Transfer t) p at = enters_file (inside_to variables t t.unit p refl at)
  internal_to statement.End p at = nowhere p at

  internal_from : (st : Statement) (p : Place) → Enters variables st p → Contains (need variables s st).internal p
  internal_from _ p (enters_file {t = t} h) = inside_from variables t p h

  pub is_needed : (st : Statement) (p : Place) → IsNeeded variables s st p
  is_needed st p = record {
    references = (references_to st p, references_from st p);
    defines = (defines_to st p, defines_from st p);
    specifiers = (specifiers_to st p, specifiers_from st p);
    items = (items_to st p, items_from st p);
    internal = (internal_to st p, internal_from st p);
  }
