-- A transfer that is not prohibited has no place of a pending input, and an input none of any pending transfer.
use Rattle.std.proofs.Common.{◌≡◌, Bool, true, false, List, [], ◌++◌, get_or, Option, Some, None, refl, sym, ap, ◌∙◌, subst, ◌⊎◌, inl, inr, ◌&&◌, ◌||◌, arith}
use Rattle.std.specs.Prelude.{◌==◌, if◌then◌else◌}
use Rattle.std.specs.List.{All, Contains, list_any}
use Rattle.std.proofs.lemmas.Bool.{eq-eqb, and_from}
use Rattle.std.proofs.lemmas.List.Elements.{All-contains, Contains-append_left, Contains-append_right, Contains-append_cases}
use Rattle.std.proofs.lemmas.List.Folds.{list_any_at}
use Rattle.fj_value.specs.declared.place.Place.{Place}
use Rattle.fj_value.specs.declared.condition.Rule.{Rule}
use Rattle.fj_value.specs.declared.condition.Rule.TheVariants.{P1, P2}
use Rattle.fj_statement.specs.declared.deck.Variable.{Variable}
use Rattle.fj_statement.specs.declared.statement.Transfer.{Transfer}
use Rattle.fj_statement.specs.declared.statement.Statement.TheVariants as statement
use Rattle.fj_store.specs.Places.{same_place}
use Rattle.fj_book.specs.Prohibitions.{Holder, is_read, is_held, prohibited}
use Rattle.fj_store.specs.Places.{is_among}
use Rattle.fj_meaning.specs.Needs.{need, holders, transfer_places, given_places, if_given, internal_places, unit_places}
use Rattle.fj_meaning.specs.State.{State, Entry}
use Rattle.fj_meaning.specs.PendingLaws.{AreApart}
use Rattle.fj_meaning.proofs.Lists.{no, none_passes, any_map}

first_two : (a b : Bool) (rest : Option Rule) → (if a then Some P1 else (if b then Some P2 else rest)) ≡ None → (a ≡ false) × (b ≡ false)
first_two true b rest e = cc
first_two false true rest e = cc
first_two false false rest e = (refl, refl)

same_itself : (p : Place) → same_place p p ≡ true
same_itself p = and_from (p.var == p.var) (p.index == p.index) (eq-eqb p.var p.var refl) (eq-eqb p.index p.index refl)

among_them : (places : List Place) (p : Place) → Contains places p → is_among places p ≡ true
among_them places p at = list_any_at (same_place p) places at.0 p at.1 (ap (same_place p) at.2 ∙ same_itself p)

module _ (book : List Entry) (places : List Place) (p : Place) (at : Contains places p) where
  held_by_none : list_any (is_held (holders book)) places ≡ false → All (λ (a : Entry). is_among a.places p ≡ false) book
  held_by_none h =
      none_passes (λ (a : Entry). is_among a.places p) book
      (sym (any_map (λ (e : Entry). record { id = e.id; unit = e.unit; input = e.input; places = e.places }) (λ (h : Holder). is_among h.places p) book)
      ∙ All-contains (λ q. is_held (holders book) q ≡ false) places p (none_passes (is_held (holders book)) places h) at)

  read_by_none : list_any (is_read (holders book)) places ≡ false → All (λ (a : Entry). (a.input && is_among a.places p) ≡ false) book
  read_by_none h =
      none_passes (λ (a : Entry). a.input && is_among a.places p) book
      (sym (any_map (λ (e : Entry). record { id = e.id; unit = e.unit; input = e.input; places = e.places }) (λ (h : Holder). h.input && is_among h.places p) book)
      ∙ All-contains (λ q. is_read (holders book) q ≡ false) places p (none_passes (is_read (holders book)) places h) at)

not_in_none : {P : Type 0} (p : Place) → Contains [] p → P
not_in_none p at = absurd (omega (arith, at.1))

clash : {P : Type 0} (a : Entry) (p : Place) → Contains a.places p → is_among a.places p ≡ false → P
clash a p at h = no (sym h ∙ among_them a.places p at)

apart_for : (b : Bool) (book : List Entry) (places internal ids size iostat unit rec pos : List Place)
    → list_any (is_read (holders book)) (((unit ++ rec) ++ pos) ++ (if b then internal else places)) ≡ false
    → list_any (is_held (holders book)) (((ids ++ size) ++ iostat) ++ (if b then places else internal)) ≡ false
    → (new : Entry) → new.input ≡ b → new.places ≡ places ++ (if b then size else []) → All (λ a. AreApart a new) book
apart_for true book places internal ids size iostat unit rec pos h g new e f k d within either p first second = by (Contains-append_cases places size p (subst (λ l. Contains l p) f second))
  where
    held : Contains (((ids ++ size) ++ iostat) ++ places) p → ⊥
    held at = clash (get_or book k d) p first (held_by_none book (((ids ++ size) ++ iostat) ++ places) p at g k d within)

    by : Contains places p ⊎ Contains size p → ⊥
    by (inl at) = held (Contains-append_right ((ids ++ size) ++ iostat) places p at)
    by (inr at) = held (Contains-append_left ((ids ++ size) ++ iostat) places p (Contains-append_left (ids ++ size) iostat p (Contains-append_right ids size p at)))
apart_for false book places internal ids size iostat unit rec pos h g new e f k d within either p first second = by (Contains-append_cases places [] p (subst (λ l. Contains l p) f second))
  where
    input : (b c : Bool) → c ≡ false → (b || c) ≡ true → b ≡ true
    input true c i j = refl
    input false c i j = sym i ∙ j

    input_is : (b c : Bool) → b ≡ true → (b && c) ≡ false → c ≡ false
    input_is true c i j = j
    input_is false c i j = no i

    by : Contains places p ⊎ Contains [] p → ⊥
    by (inl at) =
        clash (get_or book k d) p first
        (input_is (get_or book k d).input (is_among (get_or book k d).places p) (input (get_or book k d).input new.input e either)
        (read_by_none book (((unit ++ rec) ++ pos) ++ places) p (Contains-append_right ((unit ++ rec) ++ pos) places p at) h k d within))
    by (inr at) = not_in_none p at

pub new_is_apart : (variables : List Variable) (s : State) (t : Transfer) → prohibited s.vars (holders s.book) (need variables s (statement.Transfer t)) ≡ None
    → (new : Entry) → new.input ≡ t.input → new.places ≡ transfer_places variables t ++ (if t.input then if_given t.size else []) → All (λ a. AreApart a new) s.book
new_is_apart variables s t h new e f =
    let two = first_two (list_any (is_read (holders s.book)) (need variables s (statement.Transfer t)).references) (list_any (is_held (holders s.book)) (need variables s (statement.Transfer t)).defines) _ h in
    apart_for t.input s.book (transfer_places variables t) (internal_places variables t.unit) (if_given t.id) (if_given t.size) (if_given t.iostat) (unit_places t.unit) (given_places variables t.rec) (given_places variables t.pos) two.0 two.1 new e f
