-- No transfer is of a unit that may have none, and none before the lowest identifier of a unit is of it; and the units stay those that
-- transfers are of.
use Rattle.std.proofs.Common.{◌≡◌, ◌≢◌, ℕ, ◌<◌, ◌≤◌, ◌&&◌, ◌||◌, cond, not, Bool, true, false, List, [], ◌∷◌, ◌++◌, length, length-take, get_or, take, drop, Option, None, Some, All, refl, sym, ap, subst, ◌∙◌, inl, inr, arith}
use Rattle.std.specs.Prelude.{if◌then◌else◌, filter, is_none, is_some, nat_le, max, ◌==◌}
use Rattle.std.specs.Option.{option_map, option_map_or, option_or}
use Rattle.std.specs.List.{list_any, find}
use Rattle.std.proofs.lemmas.Bool.{ne_eqb, eq-eqb, le-leb, leb-true, cases_lt}
use Rattle.std.proofs.lemmas.Bool.Decides.{eqb_tells, nat_tests}
use Rattle.std.proofs.lemmas.List.{get_or-take, take-append-drop}
use Rattle.std.proofs.lemmas.List.Elements.{All-nil, All-cons, All-head, All-tail, All-weaker, All-append, All-filter, filter_passes, filter-append}
use Rattle.std.proofs.lemmas.List.Folds.{find-append, list_any_none, list_any-append}
use Rattle.fj_value.specs.declared.place.Tag.{Tag}
use Rattle.fj_meaning.specs.State.{halts}
use Rattle.fj_meaning.specs.Statement.{has_pending}
use Rattle.fj_meaning.proofs.Lists.{all_both, filter_false, pairs_head, pairs_tail}
use Rattle.fj_run_pending.specs.declared.busy.Busy.{Busy}
use Rattle.fj_run_pending.specs.declared.held.Held.{Held}
use Rattle.fj_run_pending.specs.declared.pick.Pick.{Pick}
use Rattle.fj_run_pending.specs.declared.pick.Pick.TheVariants as pick
use Rattle.fj_run_pending.specs.Busy.{first_of, may_have, AreBusy, without_unit, with_transfer, without_told}
use Rattle.fj_run_pending.specs.Plain.{entry_of, holders}
use Rattle.fj_run_pending.specs.Tied.{IsAscending}
use Rattle.fj_run_pending.specs.Waits.{picks, is_due, is_cause}
use Rattle.fj_run_pending.proofs.Ids.{filter_absent, filter_one, none_taken}
use Rattle.fj_run_pending.proofs.Waited.{any_filter, find_filter}

-- ---- where no transfer of a unit stands

abbrev pub AreOthers : ℕ → List Held → Type 0
AreOthers u hs = All (λ (h : Held). h.unit ≢ u) hs

pub idle_absent : (busy : List Busy) (u : ℕ) (hs : List Held) → AreBusy busy hs → first_of busy u ≡ None → AreOthers u hs
idle_absent busy u hs all idle =
    All-weaker (λ (h : Held). may_have busy h.unit h.tag.0 ≡ true) (λ (h : Held). h.unit ≢ u)
    (λ h k same. let never : false ≡ true = sym (ap (λ o. option_map_or (λ (first : Tag). nat_le first.0 h.tag.0) o false) (ap (first_of busy) same ∙ idle)) ∙ k in cc) hs all

pub low_absent : (busy : List Busy) (u : ℕ) (first : Tag) (hs : List Held) (at : ℕ) → AreBusy busy hs → first_of busy u ≡ Some first → ((k : ℕ) (h : Held) → k < at → (get_or hs k h).tag.0 < first.0) → AreOthers u (take at hs)
low_absent busy u first hs at all is low k d within = λ same.
    let cut = length-take at hs in
    let early : k < at = omega (arith, within, cut) in
    let h : Held = get_or hs k d in
    let of_it : h.unit ≡ u = ap (λ (x : Held). x.unit) (sym (get_or-take at hs k d early)) ∙ same in
    let has : nat_le first.0 h.tag.0 ≡ true = sym (ap (λ o. option_map_or (λ (f : Tag). nat_le f.0 h.tag.0) o false) (ap (first_of busy) of_it ∙ is)) ∙ all k d (omega (arith, within, cut)) in
    absurd (omega (arith, leb-true first.0 h.tag.0 has, low k d early))

pub others_due : (u : ℕ) (hs : List Held) → AreOthers u hs → find (is_due (pick.OfUnit u)) hs ≡ None
others_due u hs others =
    find_filter (λ (h : Held). h.unit == u) (λ (h : Held). is_none h.answer) hs
    ∙ ap (find (λ (h : Held). is_none h.answer)) (filter_absent (λ (h : Held). h.unit) u hs others)

pub at_later : (P : ℕ → Type 0) (a b : ℕ) → P a → P b → P (max a b)
at_later P a b pa pb = elim (cases_lt a b) [
  | inl lt ↦ let is : max a b ≡ b = omega (arith, lt) in subst P (sym is) pb
  | inr ge ↦ let is : max a b ≡ a = omega (arith, ge) in subst P (sym is) pa
]

pub idle_taken : (busy : List Busy) (u : ℕ) (hs : List Held) → AreBusy busy hs → first_of busy u ≡ None
    → ([] ≡ filter (picks (pick.OfUnit u)) hs) × (hs ≡ filter (λ h. not (picks (pick.OfUnit u) h)) hs)
idle_taken busy u hs all idle = none_taken (λ (h : Held). h.unit) u hs (idle_absent busy u hs all idle)

-- before a place no transfer of a unit stands
module _ (u at : ℕ) (hs : List Held) (others : AreOthers u (take at hs)) where
  pub own_behind : filter (picks (pick.OfUnit u)) (drop at hs) ≡ filter (picks (pick.OfUnit u)) hs
  own_behind =
      sym (ap (filter (picks (pick.OfUnit u))) (sym (take-append-drop at hs)) ∙ filter-append (picks (pick.OfUnit u)) (take at hs) (drop at hs)
      ∙ ap (λ l. l ++ filter (picks (pick.OfUnit u)) (drop at hs)) (filter_absent (λ (h : Held). h.unit) u (take at hs) others))

  pub others_behind : take at hs ++ filter (λ h. not (picks (pick.OfUnit u) h)) (drop at hs) ≡ filter (λ h. not (picks (pick.OfUnit u) h)) hs
  others_behind =
      let other : Held → Bool = λ h. not (picks (pick.OfUnit u) h) in
      sym (ap (filter other) (sym (take-append-drop at hs)) ∙ filter-append other (take at hs) (drop at hs)
      ∙ ap (λ l. l ++ filter other (drop at hs)) (sym (none_taken (λ (h : Held). h.unit) u (take at hs) others).1))

-- ---- which transfers can have halted a unit

and_false : (b c d : Bool) → c ≡ false → (b && (c && d)) ≡ false
and_false true c d e = ap (λ x. x && d) e
and_false false c d e = refl

pub others_cause : (p : Pick) (u : ℕ) (hs : List Held) → AreOthers u hs → list_any (is_cause p u) hs ≡ false
others_cause p u hs others =
    list_any_none (is_cause p u) hs
    (All-weaker (λ (h : Held). h.unit ≢ u) (λ (h : Held). is_cause p u h ≡ false) (λ h other. and_false (picks p h) (h.unit == u) (halts (entry_of h).condition) (ne_eqb h.unit u other)) hs others)

pub any_behind : {X : Type 0} (f : X → Bool) (xs : List X) (at : ℕ) → list_any f (take at xs) ≡ false → list_any f (drop at xs) ≡ list_any f xs
any_behind f xs at none =
    sym (ap (list_any f) (sym (take-append-drop at xs)) ∙ list_any-append f (take at xs) (drop at xs) ∙ ap (λ b. b || list_any f (drop at xs)) none)

pub none_causes : (u : ℕ) (hs : List Held) → list_any (is_cause pick.None u) hs ≡ false
none_causes u [] = refl
none_causes u (h ∷ hs) = none_causes u hs

pub other_causes : (t u : ℕ) (hs : List Held) → t ≢ u → list_any (is_cause (pick.OfUnit t) u) hs ≡ false
other_causes t u [] other = refl
other_causes t u (h ∷ hs) other = ap (λ b. b || list_any (is_cause (pick.OfUnit t) u) hs) this ∙ other_causes t u hs other
  where
    this : is_cause (pick.OfUnit t) u h ≡ false
    this = elim (eqb_tells h.unit t) [
      | inl same ↦ and_false (h.unit == t) (h.unit == u) (halts (entry_of h).condition) (ne_eqb h.unit u (λ e. other (sym same.1 ∙ e)))
      | inr apart ↦ ap (λ b. b && ((h.unit == u) && halts (entry_of h).condition)) apart.0
    ]

pub absent_causes : (t u : ℕ) (hs : List Held) → All (λ (h : Held). h.tag.0 ≢ t) hs → list_any (is_cause (pick.One t) u) hs ≡ false
absent_causes t u hs absent =
    sym (any_filter (λ (h : Held). (h.unit == u) && halts (entry_of h).condition) (λ (h : Held). h.tag.0 == t) hs)
    ∙ ap (list_any (λ (h : Held). (h.unit == u) && halts (entry_of h).condition)) (filter_absent (λ (h : Held). h.tag.0) t hs absent)

or_false : (b : Bool) → (b || false) ≡ b
or_false true = refl
or_false false = refl

pub one_causes : (t u : ℕ) (hs : List Held) (i : ℕ) (y : Held) → IsAscending hs → i < length hs → get_or hs i y ≡ y → y.tag.0 ≡ t → is_cause (pick.One t) u y ≡ list_any (is_cause (pick.One t) u) hs
one_causes t u hs i y up low is same =
    let halted : Held → Bool = λ h. (h.unit == u) && halts (entry_of h).condition in
    ap (λ b. b && halted y) (eq-eqb y.tag.0 t same)
    ∙ sym (or_false (halted y))
    ∙ sym (ap (list_any halted) (ap (λ n. filter (λ (h : Held). h.tag.0 == n) hs) (sym same) ∙ filter_one (λ (h : Held). h.tag.0) hs i y up low is))
    ∙ any_filter halted (λ (h : Held). h.tag.0 == t) hs

-- ---- the lowest identifiers of units that are added and taken off

first_cons : (b : Busy) (xs ys : List Busy) (n : ℕ) → first_of xs n ≡ first_of ys n → first_of (b ∷ xs) n ≡ first_of (b ∷ ys) n
first_cons b xs ys n same = by (b.unit == n)
  where
    by : (c : Bool) → option_map (λ (x : Busy). x.first) (cond c (Some b) (find (λ (x : Busy). x.unit == n) xs)) ≡ option_map (λ (x : Busy). x.first) (cond c (Some b) (find (λ (x : Busy). x.unit == n) ys))
    by true = refl
    by false = same

first_skipped : (b : Busy) (xs : List Busy) (n : ℕ) → b.unit ≢ n → first_of (b ∷ xs) n ≡ first_of xs n
first_skipped b xs n other = ap (λ c. option_map (λ (x : Busy). x.first) (cond c (Some b) (find (λ (x : Busy). x.unit == n) xs))) (ne_eqb b.unit n other)

first_others : (u n : ℕ) (busy : List Busy) → n ≢ u → first_of (without_unit u busy) n ≡ first_of busy n
first_others u n [] other = refl
first_others u n (b ∷ busy) other = elim (eqb_tells b.unit u) [
  | inl same ↦
      ap (λ c. first_of (if not c then b ∷ without_unit u busy else without_unit u busy) n) same.0 ∙ first_others u n busy other
      ∙ sym (first_skipped b busy n (λ e. other (sym e ∙ same.1)))
  | inr apart ↦
      ap (λ c. first_of (if not c then b ∷ without_unit u busy else without_unit u busy) n) apart.0 ∙ first_cons b (without_unit u busy) busy n (first_others u n busy other)
]

first_gone : (u : ℕ) (busy : List Busy) → first_of (without_unit u busy) u ≡ None
first_gone u [] = refl
first_gone u (b ∷ busy) = elim (eqb_tells b.unit u) [
  | inl same ↦ ap (λ c. first_of (if not c then b ∷ without_unit u busy else without_unit u busy) u) same.0 ∙ first_gone u busy
  | inr apart ↦
      ap (λ c. first_of (if not c then b ∷ without_unit u busy else without_unit u busy) u) apart.0 ∙ first_skipped b (without_unit u busy) u apart.1 ∙ first_gone u busy
]

-- with one more behind them
first_pushed : (busy : List Busy) (b : Busy) (n : ℕ) → first_of (busy ++ b ∷ []) n ≡ option_or (first_of busy n) (first_of (b ∷ []) n)
first_pushed busy b n = ap (option_map (λ (x : Busy). x.first)) (find-append (λ (x : Busy). x.unit == n) busy (b ∷ [])) ∙ by (find (λ (x : Busy). x.unit == n) busy)
  where
    by : (o : Option Busy) → option_map (λ (x : Busy). x.first) (option_or o (find (λ (x : Busy). x.unit == n) (b ∷ []))) ≡ option_or (option_map (λ (x : Busy). x.first) o) (first_of (b ∷ []) n)
    by None = refl
    by (Some x) = refl

or_none : {X : Type 0} (o : Option X) → option_or o None ≡ o
or_none None = refl
or_none (Some x) = refl

module _ (busy : List Busy) (u : ℕ) (id : Tag) where
  abbrev here : Busy
  here = record { unit = u; first = id }

  own_first : first_of (without_unit u busy ++ here ∷ []) u ≡ Some id
  own_first =
      first_pushed (without_unit u busy) here u ∙ ap (λ o. option_or o (first_of (here ∷ []) u)) (first_gone u busy)
      ∙ ap (λ c. option_map (λ (x : Busy). x.first) (cond c (Some here) None)) (eq-eqb u u refl)

  other_first : (n : ℕ) → n ≢ u → first_of (without_unit u busy ++ here ∷ []) n ≡ first_of busy n
  other_first n other =
      first_pushed (without_unit u busy) here n ∙ ap (option_or (first_of (without_unit u busy) n)) (first_skipped here [] n (λ e. other (sym e)))
      ∙ or_none (first_of (without_unit u busy) n) ∙ first_others u n busy other

  has_it : may_have (with_transfer busy u id) u id.0 ≡ true
  has_it = by (may_have busy u id.0) refl
    where
      by : (b : Bool) → may_have busy u id.0 ≡ b → may_have (if b then busy else without_unit u busy ++ here ∷ []) u id.0 ≡ true
      by true e = e
      by false e = ap (λ o. option_map_or (λ (first : Tag). nat_le first.0 id.0) o false) own_first ∙ le-leb id.0 id.0 (omega arith)

  above : (m : ℕ) (o : Option Tag) → option_map_or (λ (first : Tag). nat_le first.0 id.0) o false ≡ false → option_map_or (λ (first : Tag). nat_le first.0 m) o false ≡ true → nat_le id.0 m ≡ true
  above m None e f = (let never : false ≡ true = f in cc)
  above m (Some first) e f = grind (arith, nat_tests)

  keeps_it : (n m : ℕ) → may_have busy n m ≡ true → may_have (with_transfer busy u id) n m ≡ true
  keeps_it n m has = by (may_have busy u id.0) refl
    where
      by : (b : Bool) → may_have busy u id.0 ≡ b → may_have (if b then busy else without_unit u busy ++ here ∷ []) n m ≡ true
      by true e = has
      by false e = elim (eqb_tells n u) [
        | inl same ↦
            ap (λ k. may_have (without_unit u busy ++ here ∷ []) k m) same.1 ∙ ap (λ o. option_map_or (λ (first : Tag). nat_le first.0 m) o false) own_first
            ∙ above m (first_of busy u) e (ap (λ k. may_have busy k m) (sym same.1) ∙ has)
        | inr other ↦ ap (λ o. option_map_or (λ (first : Tag). nat_le first.0 m) o false) (other_first n other.1) ∙ has
      ]

-- ---- one more, and those that are left

pub busy_entered : (busy : List Busy) (hs : List Held) (h : Held) → AreBusy busy hs → AreBusy (with_transfer busy h.unit h.tag) (hs ++ h ∷ [])
busy_entered busy hs h all =
    let P : Held → Type 0 = λ x. may_have (with_transfer busy h.unit h.tag) x.unit x.tag.0 ≡ true in
    All-append P hs (h ∷ []) (All-weaker (λ (x : Held). may_have busy x.unit x.tag.0 ≡ true) P (λ x k. keeps_it busy h.unit h.tag x.unit x.tag.0 k) hs all) (All-cons P h [] (has_it busy h.unit h.tag) (All-nil P))

stays : (busy : List Busy) (u n m : ℕ) → not (n == u) ≡ true → may_have busy n m ≡ true → may_have (without_unit u busy) n m ≡ true
stays busy u n m apart has =
    ap (λ o. option_map_or (λ (first : Tag). nat_le first.0 m) o false) (first_others u n busy (λ same. let never : false ≡ true = ap not (sym (eq-eqb n u same)) ∙ apart in cc)) ∙ has

pub busy_left : (p : Pick) (busy : List Busy) (hs : List Held) → AreBusy busy hs → AreBusy (without_told p busy) (filter (λ h. not (picks p h)) hs)
busy_left pick.None busy hs all = All-filter (λ (h : Held). true) (λ (h : Held). may_have busy h.unit h.tag.0 ≡ true) hs all
busy_left (pick.OfUnit u) busy hs all =
    all_both (λ (h : Held). not (h.unit == u) ≡ true) (λ (h : Held). may_have busy h.unit h.tag.0 ≡ true) (λ (h : Held). may_have (without_unit u busy) h.unit h.tag.0 ≡ true) (filter (λ (h : Held). not (h.unit == u)) hs)
    (λ h apart k. stays busy u h.unit h.tag.0 apart k) (filter_passes (λ (h : Held). not (h.unit == u)) hs)
    (All-filter (λ (h : Held). not (h.unit == u)) (λ (h : Held). may_have busy h.unit h.tag.0 ≡ true) hs all)
busy_left (pick.One id) busy hs all = All-filter (λ (h : Held). not (h.tag.0 == id)) (λ (h : Held). may_have busy h.unit h.tag.0 ≡ true) hs all
busy_left pick.All busy hs all = subst (AreBusy []) (sym (filter_false hs)) (All-nil (λ (h : Held). may_have [] h.unit h.tag.0 ≡ true))

-- ---- the first transfer of a unit

some_same : {X : Type 0} (a b : X) → Some a ≡ Some b → a ≡ b
some_same a b e = cc

abbrev is_own : ℕ → Held → Bool
is_own u h = h.unit == u

none_found : (u : ℕ) (hs : List Held) → AreOthers u hs → find (is_own u) hs ≡ None
none_found u [] others = refl
none_found u (h ∷ hs) others =
    ap (λ b. cond b (Some h) (find (is_own u) hs)) (ne_eqb h.unit u (All-head (λ (x : Held). x.unit ≢ u) h hs others)) ∙ none_found u hs (All-tail (λ (x : Held). x.unit ≢ u) h hs others)

pub idle_found : (u : ℕ) (hs : List Held) → AreOthers u hs → option_map (λ (h : Held). h.tag) (find (is_own u) hs) ≡ None
idle_found u hs others = ap (option_map (λ (h : Held). h.tag)) (none_found u hs others)

pub found_behind : (u : ℕ) (hs : List Held) (at : ℕ) → AreOthers u (take at hs) → find (is_own u) (drop at hs) ≡ find (is_own u) hs
found_behind u hs at others =
    sym (ap (find (is_own u)) (sym (take-append-drop at hs)) ∙ find-append (is_own u) (take at hs) (drop at hs) ∙ ap (λ o. option_or o (find (is_own u) (drop at hs))) (none_found u (take at hs) others))

abbrev IsLow : ℕ → Tag → Held → Type 0
IsLow u t h = h.unit ≡ u → t.0 ≤ h.tag.0

first_low : (u : ℕ) (hs : List Held) (e : Held) → IsAscending hs → find (is_own u) hs ≡ Some e → All (IsLow u e.tag) hs
first_low u [] e up is = All-nil (IsLow u e.tag)
first_low u (h ∷ hs) e up is = elim (eqb_tells h.unit u) [
  | inl same ↦
      let here : h ≡ e = some_same h e (sym (ap (λ b. cond b (Some h) (find (is_own u) hs)) same.0) ∙ is) in
      let tag : h.tag.0 ≡ e.tag.0 = ap (λ (x : Held). x.tag.0) here in
      All-cons (IsLow u e.tag) h hs (λ own. omega (arith, tag))
      (All-weaker (λ (x : Held). h.tag.0 < x.tag.0) (IsLow u e.tag) (λ x above own. omega (arith, tag, above)) hs (pairs_head (λ (a b : Held). a.tag.0 < b.tag.0) h hs up))
  | inr apart ↦
      All-cons (IsLow u e.tag) h hs (λ own. absurd (apart.1 own))
      (first_low u hs e (pairs_tail (λ (a b : Held). a.tag.0 < b.tag.0) h hs up) (sym (ap (λ b. cond b (Some h) (find (is_own u) hs)) apart.0) ∙ is))
]

-- an identifier that is the first one's is not above those of the unit
pub found_low : (u : ℕ) (hs : List Held) (t : Tag) → IsAscending hs → option_map (λ (h : Held). h.tag) (find (is_own u) hs) ≡ Some t → All (IsLow u t) hs
found_low u hs t up is = by (find (is_own u) hs) refl is
  where
    by : (o : Option Held) → find (is_own u) hs ≡ o → option_map (λ (h : Held). h.tag) o ≡ Some t → All (IsLow u t) hs
    by None e f = (let never : None ≡ Some t = f in cc)
    by (Some h) e f = subst (λ x. All (IsLow u x) hs) (some_same h.tag t f) (first_low u hs h up e)

-- where no first one is found
pub none_own : (u : ℕ) (hs : List Held) → option_map (λ (h : Held). h.tag) (find (is_own u) hs) ≡ None → AreOthers u hs
none_own u [] is = All-nil (λ (h : Held). h.unit ≢ u)
none_own u (h ∷ hs) is = elim (eqb_tells h.unit u) [
  | inl same ↦ (let never : Some h.tag ≡ None = sym (ap (λ b. option_map (λ (x : Held). x.tag) (cond b (Some h) (find (is_own u) hs))) same.0) ∙ is in cc)
  | inr apart ↦
      All-cons (λ (x : Held). x.unit ≢ u) h hs apart.1
      (none_own u hs (sym (ap (λ b. option_map (λ (x : Held). x.tag) (cond b (Some h) (find (is_own u) hs))) apart.0) ∙ is))
]

-- ---- a lowest identifier that is raised to the first one's

may_later : (busy : List Busy) (n a b : ℕ) → may_have busy n a ≡ true → a ≤ b → may_have busy n b ≡ true
may_later busy n a b has low = by (first_of busy n) has low
  where
    by : (o : Option Tag) → option_map_or (λ (first : Tag). nat_le first.0 a) o false ≡ true → a ≤ b → option_map_or (λ (first : Tag). nat_le first.0 b) o false ≡ true
    by None e le = e
    by (Some first) e le = grind (arith, nat_tests)

pub busy_raised : (busy : List Busy) (u : ℕ) (t : Tag) (hs : List Held) → AreBusy busy hs → All (IsLow u t) hs → AreBusy (with_transfer (without_unit u busy) u t) hs
busy_raised busy u t hs all low k d within =
    let h : Held = get_or hs k d in
    elim (eqb_tells h.unit u) [
      | inl same ↦
          ap (λ n. may_have (with_transfer (without_unit u busy) u t) n h.tag.0) same.1
          ∙ may_later (with_transfer (without_unit u busy) u t) u t.0 h.tag.0 (has_it (without_unit u busy) u t) (low k d within same.1)
      | inr other ↦ keeps_it (without_unit u busy) u t h.unit h.tag.0 (stays busy u h.unit h.tag.0 (ap not other.0) (all k d within))
    ]

pub busy_gone : (busy : List Busy) (u : ℕ) (hs : List Held) → AreBusy busy hs → AreOthers u hs → AreBusy (without_unit u busy) hs
busy_gone busy u hs all others k d within = stays busy u (get_or hs k d).unit (get_or hs k d).tag.0 (ap not (ne_eqb (get_or hs k d).unit u (others k d within))) (all k d within)

-- ---- whether a transfer of a unit is pending

own_or : (u : ℕ) (h : Held) (hs : List Held) (b c : Bool) → is_some (option_map (λ (x : Held). x.tag) (find (is_own u) hs)) ≡ c → is_some (option_map (λ (x : Held). x.tag) (cond b (Some h) (find (is_own u) hs))) ≡ (b || c)
own_or u h hs true c e = refl
own_or u h hs false c e = e

pub own_is : (u : ℕ) (hs : List Held) → is_some (option_map (λ (h : Held). h.tag) (find (is_own u) hs)) ≡ has_pending (holders hs) (Some u) None
own_is u [] = refl
own_is u (h ∷ hs) = own_or u h hs (h.unit == u) (has_pending (holders hs) (Some u) None) (own_is u hs)
