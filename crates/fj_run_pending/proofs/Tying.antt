-- What is kept of pending transfers hangs together, also after one is entered, answered or taken off.
use Rattle.std.proofs.Common.{◌≡◌, ◌≢◌, ℕ, ◌<◌, ◌≤◌, ◌&&◌, ◌||◌, not, Bool, true, false, List, [], ◌∷◌, ◌++◌, length, set, int_eq, pos, ℤ, Option, Some, None, All, refl, sym, ap, subst, ◌∙◌, inl, inr, arith}
use Rattle.std.specs.Prelude.{if◌then◌else◌, filter, is_some, nat_le, ◌==◌, min, max}
use Rattle.std.specs.Option.{option_map_or}
use Rattle.std.specs.List.{list_any}
use Rattle.std.proofs.lemmas.Bool.{le-leb}
use Rattle.std.proofs.lemmas.Bool.Decides.{eqb_tells}
use Rattle.std.proofs.lemmas.List.{get_or-set_same, get_or-set_other, length-set}
use Rattle.std.proofs.lemmas.List.Elements.{All-nil, All-cons, All-head, All-tail, All-weaker, All-append, All-filter}
use Rattle.std.proofs.lemmas.List.Kept.{AllPairs-filter}
use Rattle.std.proofs.lemmas.List.Quantifiers.{all_pairs_push}
use Rattle.fj_value.specs.declared.place.Place.{Place}
use Rattle.fj_value.specs.declared.place.Tag.{Tag}
use Rattle.fj_value.specs.declared.condition.Rule.{Rule}
use Rattle.fj_value.specs.declared.condition.Rule.TheVariants.{P1, P2, P3, P4, P5}
use Rattle.fj_store.specs.Places.{is_among, places_in}
use Rattle.fj_store.specs.Variables.{Variables, value_at, is_undefined}
use Rattle.fj_book.specs.declared.pending.Pending.{Pending}
use Rattle.fj_book.specs.Entries.{tag_of, has_tag, is_told}
use Rattle.fj_book.specs.Entries as book
use Rattle.fj_book.specs.Prohibitions.{Need, is_read, is_held, has_id, names_pending, defines_twice, prohibited}
use Rattle.fj_meaning.proofs.Lists.{any_same, filter_true, filter_false}
use Rattle.fj_run_pending.specs.declared.busy.Busy.{Busy}
use Rattle.fj_run_pending.specs.declared.held.Held.{Held}
use Rattle.fj_run_pending.specs.declared.mark.Mark.{Mark}
use Rattle.fj_run_pending.specs.declared.pick.Pick.{Pick}
use Rattle.fj_run_pending.specs.declared.pick.Pick.TheVariants as pick
use Rattle.fj_run_pending.specs.Busy.{first_of, may_have, AreBusy, with_transfer, without_told}
use Rattle.fj_run_pending.specs.Fitting.{IsNext}
use Rattle.fj_run_pending.specs.Plain.{holders}
use Rattle.fj_run_pending.specs.Taking.{without}
use Rattle.fj_run_pending.specs.Tied.{IsMarked, IsSame, AreSame, IsTied, mark_at, no_mark, entered_marks}
use Rattle.fj_run_pending.specs.Waits.{picks}
use Rattle.fj_run_pending.proofs.Idle.{busy_entered, busy_left, idle_taken}

-- ---- the book prohibits what the transfers prohibit

read_same : (p : Place) (es : List Pending) (hs : List Held) → AreSame es hs → is_read (book.holders es) p ≡ is_read (holders hs) p
read_same p [] [] s = refl
read_same p [] (h ∷ hs) s = absurd s
read_same p (e ∷ es) [] s = absurd s
read_same p (e ∷ es) (h ∷ hs) s =
    ap (λ b. (b && is_among e.places p) || is_read (book.holders es) p) s.0.input
    ∙ ap (λ b. (h.input && b) || is_read (book.holders es) p) (s.0.places p)
    ∙ ap (λ b. (h.input && is_among (places_in h.runs) p) || b) (read_same p es hs s.1)

held_same : (p : Place) (es : List Pending) (hs : List Held) → AreSame es hs → is_held (book.holders es) p ≡ is_held (holders hs) p
held_same p [] [] s = refl
held_same p [] (h ∷ hs) s = absurd s
held_same p (e ∷ es) [] s = absurd s
held_same p (e ∷ es) (h ∷ hs) s =
    ap (λ b. b || is_held (book.holders es) p) (s.0.places p)
    ∙ ap (λ b. is_among (places_in h.runs) p || b) (held_same p es hs s.1)

ids_same : (unit : Option ℕ) (id : ℤ) (es : List Pending) (hs : List Held) → AreSame es hs → list_any (has_id unit id) (book.holders es) ≡ list_any (has_id unit id) (holders hs)
ids_same unit id [] [] s = refl
ids_same unit id [] (h ∷ hs) s = absurd s
ids_same unit id (e ∷ es) [] s = absurd s
ids_same None id (e ∷ es) (h ∷ hs) s = ids_same None id es hs s.1
ids_same (Some u) id (e ∷ es) (h ∷ hs) s =
    ap (λ n. ((n == u) && int_eq (pos (tag_of e)) id) || list_any (has_id (Some u) id) (book.holders es)) s.0.unit
    ∙ ap (λ n. ((h.unit == u) && int_eq (pos n) id) || list_any (has_id (Some u) id) (book.holders es)) s.0.tag
    ∙ ap (λ b. ((h.unit == u) && int_eq (pos h.tag.0) id) || b) (ids_same (Some u) id es hs s.1)

names_same : (unit : Option ℕ) (id : Option ℤ) (es : List Pending) (hs : List Held) → AreSame es hs → names_pending (book.holders es) unit id ≡ names_pending (holders hs) unit id
names_same unit None es hs s = refl
names_same unit (Some id) es hs s = ids_same unit id es hs s

abbrev lowest : Variables → Need → Bool → Bool → Bool → Option Rule
lowest vars n reads defines names =
    if reads then Some P1
    else (if defines then Some P2
    else (if list_any (λ place. is_undefined (value_at vars place)) n.references then Some P3
    else (if not names then Some P4
    else (if defines_twice n then Some P5 else None))))

pub same_rule : (vars : Variables) (n : Need) (es : List Pending) (hs : List Held) → AreSame es hs → prohibited vars (book.holders es) n ≡ prohibited vars (holders hs) n
same_rule vars n es hs s =
    ap (λ b. lowest vars n b (list_any (is_held (book.holders es)) n.defines) (names_pending (book.holders es) n.unit n.id)) (any_same (is_read (book.holders es)) (is_read (holders hs)) n.references (λ p. read_same p es hs s))
    ∙ ap (λ b. lowest vars n (list_any (is_read (holders hs)) n.references) b (names_pending (book.holders es) n.unit n.id)) (any_same (is_held (book.holders es)) (is_held (holders hs)) n.defines (λ p. held_same p es hs s))
    ∙ ap (lowest vars n (list_any (is_read (holders hs)) n.references) (list_any (is_held (holders hs)) n.defines)) (names_same n.unit n.id es hs s)

-- ---- one more

same_push : (es : List Pending) (hs : List Held) (e : Pending) (h : Held) → AreSame es hs → IsSame e h → AreSame (es ++ e ∷ []) (hs ++ h ∷ [])
same_push [] [] e h s this = (this, tt)
same_push [] (x ∷ hs) e h s this = absurd s
same_push (x ∷ es) [] e h s this = absurd s
same_push (x ∷ es) (y ∷ hs) e h s this = (s.0, same_push es hs e h s.1 this)

-- identifiers below those of all transfers are below those of the book
pub book_below : (es : List Pending) (hs : List Held) (n : ℕ) → AreSame es hs → All (λ (h : Held). h.tag.0 < n) hs → All (λ (e : Pending). tag_of e < n) es
book_below [] [] n s below = All-nil (λ (e : Pending). tag_of e < n)
book_below [] (h ∷ hs) n s below = absurd s
book_below (e ∷ es) [] n s below = absurd s
book_below (e ∷ es) (h ∷ hs) n s below =
    All-cons (λ (x : Pending). tag_of x < n) e es (let low = All-head (λ (x : Held). x.tag.0 < n) h hs below in let same = s.0.tag in omega arith)
    (book_below es hs n s.1 (All-tail (λ (x : Held). x.tag.0 < n) h hs below))

mark_here : (marks : List Mark) (slot t : ℕ) (m : Mark) → slot < length marks → t ≡ slot → mark_at (set marks slot m) t ≡ m
mark_here marks slot t m low same = ap (mark_at (set marks slot m)) same ∙ get_or-set_same marks slot m no_mark low

mark_other : (marks : List Mark) (slot t : ℕ) (m : Mark) → t ≢ slot → mark_at (set marks slot m) t ≡ mark_at marks t
mark_other marks slot t m other = get_or-set_other marks slot t m no_mark other

pub own_marked : (marks : List Mark) (slot : ℕ) (m : Mark) (h : Held) → slot < length marks → h.slot ≡ slot
    → (h.tag.0 < m.passed → is_some h.answer ≡ true) → (is_some h.answer ≡ true → h.number ≤ m.reached) → h.number ≤ m.most → IsMarked (set marks slot m) h
own_marked marks slot m h low same passed reached most =
    let is = mark_here marks slot h.slot m low same in record {
      slot = omega (arith, low, same, length-set marks slot m);
      passed = λ lt. passed (subst (λ (k : Mark). h.tag.0 < k.passed) is lt);
      reached = λ some. subst (λ (k : Mark). h.number ≤ k.reached) (sym is) (reached some);
      most = subst (λ (k : Mark). h.number ≤ k.most) (sym is) most;
    }

-- a mark that is put is true of the transfers of the slot, and the others keep theirs
pub remarked : (marks : List Mark) (slot : ℕ) (m : Mark) (h : Held) → IsMarked marks h
    → (h.slot ≡ slot → (h.tag.0 < m.passed → is_some h.answer ≡ true) × (is_some h.answer ≡ true → h.number ≤ m.reached) × (h.number ≤ m.most)) → IsMarked (set marks slot m) h
remarked marks slot m h old new = elim (eqb_tells h.slot slot) [
  | inl here ↦ let facts = new here.1 in own_marked marks slot m h (subst (λ n. n < length marks) here.1 old.slot) here.1 facts.0 facts.1 facts.2
  | inr other ↦ let is = mark_other marks slot h.slot m other.1 in record {
    slot = omega (arith, old.slot, length-set marks slot m);
    passed = λ lt. old.passed (subst (λ (k : Mark). h.tag.0 < k.passed) is lt);
    reached = λ some. subst (λ (k : Mark). h.number ≤ k.reached) (sym is) (old.reached some);
    most = subst (λ (k : Mark). h.number ≤ k.most) (sym is) old.most;
  }
]

all_one : {X : Type 0} (P : X → Type 0) (x : X) → P x → All P (x ∷ [])
all_one P x h = All-cons P x [] h (All-nil P)

pub entered_is : (hs : List Held) (es : List Pending) (marks : List Mark) (units : List Busy) (h : Held) (e : Pending) → IsTied hs es marks units → h.answer ≡ None → IsSame e h → IsNext hs h
    → IsTied (hs ++ h ∷ []) (es ++ e ∷ []) (entered_marks marks h) (with_transfer units h.unit h.tag)
entered_is hs es marks units h e t none this next =
    let m : Mark = record { passed = min (mark_at marks h.slot).passed h.tag.0; reached = (mark_at marks h.slot).reached; most = max (mark_at marks h.slot).most h.number } in
    let unanswered : is_some h.answer ≡ false = ap is_some none in
    record {
      ascending = all_pairs_push (λ (a b : Held). a.tag.0 < b.tag.0) hs h t.ascending next.id;
      rising = all_pairs_push (λ (a b : Held). a.slot ≡ b.slot → a.number < b.number) hs h t.rising next.number;
      same = same_push es hs e h t.same this;
      slots = length-set marks h.slot m ∙ t.slots;
      marked = All-append (IsMarked (entered_marks marks h)) hs (h ∷ [])
          (All-weaker (IsMarked marks) (IsMarked (set marks h.slot m)) (λ x k. remarked marks h.slot m x k (λ here. before x k here m refl)) hs t.marked)
          (all_one (IsMarked (set marks h.slot m)) h (fresh m unanswered refl));
      busy = busy_entered units hs h t.busy;
    }
  where
    before : (x : Held) → IsMarked marks x → x.slot ≡ h.slot → (m : Mark) → m ≡ record { passed = min (mark_at marks h.slot).passed h.tag.0; reached = (mark_at marks h.slot).reached; most = max (mark_at marks h.slot).most h.number }
        → (x.tag.0 < m.passed → is_some x.answer ≡ true) × (is_some x.answer ≡ true → x.number ≤ m.reached) × (x.number ≤ m.most)
    before x k here m is =
        let passed : m.passed ≡ min (mark_at marks h.slot).passed h.tag.0 = ap (λ (y : Mark). y.passed) is in
        let reached : m.reached ≡ (mark_at marks h.slot).reached = ap (λ (y : Mark). y.reached) is in
        let most : m.most ≡ max (mark_at marks h.slot).most h.number = ap (λ (y : Mark). y.most) is in
        let below : x.number ≤ (mark_at marks h.slot).most = subst (λ n. x.number ≤ (mark_at marks n).most) here k.most in (
          (λ lt. k.passed (subst (λ n. x.tag.0 < (mark_at marks n).passed) (sym here) (omega arith))),
          (λ some. let far : x.number ≤ (mark_at marks h.slot).reached = subst (λ n. x.number ≤ (mark_at marks n).reached) here (k.reached some) in omega arith),
          omega arith,
        )

    fresh : (m : Mark) → is_some h.answer ≡ false → m ≡ record { passed = min (mark_at marks h.slot).passed h.tag.0; reached = (mark_at marks h.slot).reached; most = max (mark_at marks h.slot).most h.number } → IsMarked (set marks h.slot m) h
    fresh m unanswered is =
        let low : h.slot < length marks = omega (arith, next.slot, t.slots) in
        let passed : m.passed ≡ min (mark_at marks h.slot).passed h.tag.0 = ap (λ (y : Mark). y.passed) is in
        let most : m.most ≡ max (mark_at marks h.slot).most h.number = ap (λ (y : Mark). y.most) is in
        own_marked marks h.slot m h low refl (λ lt. absurd (omega arith)) (λ some. (let never : false ≡ true = sym unanswered ∙ some in cc)) (omega arith)

pub tied_as : (hs hs' : List Held) (es es' : List Pending) (ms ms' : List Mark) (us us' : List Busy) → hs' ≡ hs → es' ≡ es → ms' ≡ ms → us' ≡ us → IsTied hs es ms us → IsTied hs' es' ms' us'
tied_as hs hs' es es' ms ms' us us' a b m u t =
    subst (λ l. IsTied l es' ms' us') (sym a) (subst (λ l. IsTied hs l ms' us') (sym b) (subst (λ l. IsTied hs es l us') (sym m) (subst (IsTied hs es ms) (sym u) t)))

-- with other units that the transfers may be of
pub kept_tied : (hs : List Held) (es : List Pending) (marks : List Mark) (us us' : List Busy) → AreBusy us' hs → IsTied hs es marks us → IsTied hs es marks us'
kept_tied hs es marks us us' busy t = record { ascending = t.ascending; rising = t.rising; same = t.same; slots = t.slots; marked = t.marked; busy = busy }

-- ---- taken off

same_filter : (f : Pending → Bool) (g : Held → Bool) (es : List Pending) (hs : List Held) → AreSame es hs
    → All (λ (h : Held). (e : Pending) → IsSame e h → f e ≡ g h) hs → AreSame (filter f es) (filter g hs)
same_filter f g [] [] s agree = tt
same_filter f g [] (h ∷ hs) s agree = absurd s
same_filter f g (e ∷ es) [] s agree = absurd s
same_filter f g (e ∷ es) (h ∷ hs) s agree =
    by (f e) (g h) (All-head (λ (x : Held). (y : Pending) → IsSame y x → f y ≡ g x) h hs agree e s.0)
    (same_filter f g es hs s.1 (All-tail (λ (x : Held). (y : Pending) → IsSame y x → f y ≡ g x) h hs agree))
  where
    by : (b c : Bool) → b ≡ c → AreSame (filter f es) (filter g hs) → AreSame (if b then e ∷ filter f es else filter f es) (if c then h ∷ filter g hs else filter g hs)
    by true true k rest = (s.0, rest)
    by true false k rest = (let never : true ≡ false = k in cc)
    by false true k rest = (let never : false ≡ true = k in cc)
    by false false k rest = rest

-- of all units from the first identifier on
pub none_left : (es : List Pending) → filter (λ e. not (is_told None 0 e)) es ≡ []
none_left [] = refl
none_left (e ∷ es) = ap (λ b. if not (b && true) then e ∷ filter (λ x. not (is_told None 0 x)) es else filter (λ x. not (is_told None 0 x)) es) (le-leb 0 (tag_of e) (omega arith)) ∙ none_left es

and_false : (b : Bool) → (b && false) ≡ false
and_false true = refl
and_false false = refl

-- of a unit no transfer is below its lowest identifier
told_of_unit : (units : List Busy) (u : ℕ) (first : Tag) (h : Held) (e : Pending) → first_of units u ≡ Some first → may_have units h.unit h.tag.0 ≡ true → IsSame e h → is_told (Some u) first.0 e ≡ (h.unit == u)
told_of_unit units u first h e is has s =
    ap (λ n. nat_le first.0 n && (e.unit == u)) s.tag ∙ ap (λ n. nat_le first.0 h.tag.0 && (n == u)) s.unit
    ∙ elim (eqb_tells h.unit u) [
      | inl same ↦ ap (λ b. b && (h.unit == u)) (sym (ap (λ o. option_map_or (λ (f : Tag). nat_le f.0 h.tag.0) o false) (ap (first_of units) same.1 ∙ is)) ∙ has)
      | inr apart ↦ ap (λ b. nat_le first.0 h.tag.0 && b) apart.0 ∙ and_false (nat_le first.0 h.tag.0) ∙ sym apart.0
    ]

unit_taken : (u : ℕ) (units : List Busy) (hs : List Held) (es : List Pending) → AreBusy units hs → AreSame es hs → (o : Option Tag) → first_of units u ≡ o
    → AreSame (option_map_or (λ (first : Tag). filter (λ e. not (is_told (Some u) first.0 e)) es) o es) (filter (λ (h : Held). not (h.unit == u)) hs)
unit_taken u units hs es all s None is = subst (AreSame es) (idle_taken units u hs all is).1 s
unit_taken u units hs es all s (Some first) is =
    same_filter (λ e. not (is_told (Some u) first.0 e)) (λ (h : Held). not (h.unit == u)) es hs s
    (All-weaker (λ (h : Held). may_have units h.unit h.tag.0 ≡ true) (λ (h : Held). (e : Pending) → IsSame e h → not (is_told (Some u) first.0 e) ≡ not (h.unit == u))
    (λ h has e same. ap not (told_of_unit units u first h e is has same)) hs all)

taken_same : (p : Pick) (units : List Busy) (hs : List Held) (es : List Pending) → AreBusy units hs → AreSame es hs → AreSame (without p units es) (filter (λ h. not (picks p h)) hs)
taken_same pick.None units hs es all s = subst (AreSame es) (sym (filter_true hs)) s
taken_same (pick.OfUnit u) units hs es all s = unit_taken u units hs es all s (first_of units u) refl
taken_same (pick.One id) units hs es all s =
    same_filter (λ e. not (has_tag id e)) (λ (h : Held). not (h.tag.0 == id)) es hs s
    (All-weaker (λ (h : Held). may_have units h.unit h.tag.0 ≡ true) (λ (h : Held). (e : Pending) → IsSame e h → not (has_tag id e) ≡ not (h.tag.0 == id)) (λ h has e same. ap (λ n. not (n == id)) same.tag) hs all)
taken_same pick.All units hs es all s = subst (AreSame []) (sym (filter_false hs)) tt

pub taken_is : (p : Pick) (hs : List Held) (es : List Pending) (marks : List Mark) (units : List Busy) → IsTied hs es marks units
    → IsTied (filter (λ h. not (picks p h)) hs) (without p units es) marks (without_told p units)
taken_is p hs es marks units t = record {
  ascending = AllPairs-filter (λ (a b : Held). a.tag.0 < b.tag.0) (λ h. not (picks p h)) hs t.ascending;
  rising = AllPairs-filter (λ (a b : Held). a.slot ≡ b.slot → a.number < b.number) (λ h. not (picks p h)) hs t.rising;
  same = taken_same p units hs es t.busy t.same;
  slots = t.slots;
  marked = All-filter (λ h. not (picks p h)) (IsMarked marks) hs t.marked;
  busy = busy_left p units hs t.busy;
}
