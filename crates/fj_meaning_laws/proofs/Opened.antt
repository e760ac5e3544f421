-- OPEN of a file that its unit does not have.
use Rattle.std.proofs.Common.{◌≡◌, ◌≢◌, ℕ, ◌<◌, ◌≤◌, Bool, true, false, not, codes, List, [], ◌∷◌, ◌++◌, length, get_or, Option, Some, None, unwrap_or, is_none, is_some, MatchOption, Result, Ok, Err, refl, sym, ap, ◌∙◌, subst, ◌⊎◌, inl, inr, ◌&&◌, arith}
use Rattle.std.specs.Prelude.{◌==◌, ◌↔◌, if◌then◌else◌, nat_lt}
use Rattle.std.specs.Fmt.{decimal, signed_decimal}
use Rattle.std.specs.List.{All, Contains, list_any}
use Rattle.std.specs.Str.{bytes_eq}
use Rattle.std.proofs.lemmas.Bool.{eq-eqb, eqb-true, eqb-false, ne_eqb, and_parts, and_from, lt-ltb, le-ltb, ltb-true, cases_lt}
use Rattle.std.proofs.lemmas.List.Folds.{list_any_at}
use Rattle.std.proofs.lemmas.Slice.Eq.{bytes_eq-Decides}
use Rattle.fj_value.specs.declared.condition.Condition.{Condition}
use Rattle.fj_value.specs.declared.condition.Condition.TheVariants.{Fine, Error}
use Rattle.fj_value.specs.declared.place.Place.{Place}
use Rattle.fj_modes.specs.Limits.{longest_file}
use Rattle.fj_modes.specs.Modes.{settled, modes_asked, usual_edit}
use Rattle.fj_modes.specs.Modes as mode
use Rattle.fj_modes.specs.OpenSpec.{IsRefused, is_refused, access_asked, formatted_asked}
use Rattle.fj_modes.specs.Words.{TakesOrKeeps, given_and, is_scratch, same_access}
use Rattle.fj_modes.specs.declared.modes.Modes.{Modes}
use Rattle.fj_modes.specs.declared.specifiers.OpenSpec.{OpenSpec}
use Rattle.fj_modes.specs.declared.specifiers.Access.{Access}
use Rattle.fj_modes.specs.declared.specifiers.Access.TheVariants.{Sequential, Direct, Stream}
use Rattle.fj_modes.specs.declared.specifiers.FileStatus.{FileStatus}
use Rattle.fj_modes.specs.declared.specifiers.FileStatus.TheVariants.{Old, New, Scratch, Replace, Unknown}
use Rattle.fj_modes.specs.declared.specifiers.Start.{Start}
use Rattle.fj_modes.specs.declared.specifiers.Start.TheVariants.{AsIs, Rewind, Append}
use Rattle.fj_modes.proofs.Refusals.{is_refused-decides}
use Rattle.fj_connect.specs.Connection.{Connection}
use Rattle.fj_connect.specs.Opening.{bytes_opened, kept_bytes, connected_to, opened_file, connected, first_place}
use Rattle.fj_connect.specs.OpeningLaws.{Connects, old, old_is_long, old_is_missing, new, new_is_there, scratch, replaced, unknown_is_old, unknown_is_new}
use Rattle.fj_connect.proofs.OpeningProofs.{decides}
use Rattle.fj_connect.proofs.Homes.{too_long, short_enough}
use Rattle.fj_control.specs.Steps.{Given}
use Rattle.fj_statement.specs.Units.{number_of, number_from_code, is_outside}
use Rattle.fj_statement.specs.declared.deck.Variable.{Variable}
use Rattle.fj_statement.specs.declared.unit.UnitRef.{UnitRef}
use Rattle.fj_statement.specs.declared.unit.UnitRef.TheVariants as unit
use Rattle.fj_statement.specs.declared.statement.Statement.TheVariants as statement
use Rattle.fj_meaning.specs.State.{State, Unit, found, without_file, disconnected, keeps}
use Rattle.fj_meaning.specs.Connecting.{file_due, keeps_name, keeps_file, with_modes, is_taken, most_units, with_opened, connects, without_old, opens_with, opens, opens_unit}
use Rattle.fj_meaning.specs.Statement.{own, if_numbered}
use Rattle.fj_meaning.proofs.Lists.{no}
use Rattle.fj_meaning.proofs.Units.{bytes_are, bytes_differ}
use Rattle.fj_meaning_laws.specs.ConnectionLaws.{Reopens, names_no_file, names_its_file, Deletes, is_scratch as of_scratch_file, is_no_scratch, IsClosed}
use Rattle.fj_meaning_laws.specs.OpenLaws.{IsDue, of_scratch, of_file, of_none, IsNoNumber, written, held, HasTaken, ErrsFirst, number_is_none, is_refused as refuses, is_taken as takes_file, ErrsThen, units_are_many, file_is_not_so, IsLeft, without_file as none_left, with_file as one_left, AreOf, IsNew, Opens, OpensInOrder}
use Rattle.fj_meaning_laws.proofs.Membership.{some_is}
use Rattle.fj_meaning_laws.proofs.Waits.{any_in}
use Rattle.fj_meaning_laws.proofs.Connected.{closed_by}

-- ---- tests

is_scratch_so : (o : Option FileStatus) → given_and is_scratch o ≡ true → o ≡ Some Scratch
is_scratch_so None e = no e
is_scratch_so (Some Old) e = no e
is_scratch_so (Some New) e = no e
is_scratch_so (Some Scratch) e = refl
is_scratch_so (Some Replace) e = no e
is_scratch_so (Some Unknown) e = no e

no_scratch : (o : Option FileStatus) → o ≢ Some Scratch → given_and is_scratch o ≡ false
no_scratch o other = by (given_and is_scratch o) refl
  where
    by : (b : Bool) → given_and is_scratch o ≡ b → given_and is_scratch o ≡ false
    by true e = absurd (other (is_scratch_so o e))
    by false e = e

due : (spec : OpenSpec) (n : ℕ) (name : List ℕ) → IsDue spec n name → file_due spec n ≡ name
due spec n _ (of_scratch e) = ap (λ o. if given_and is_scratch o then codes "SCRATCH." ++ signed_decimal (number_from_code n) else unwrap_or spec.file (codes "fort." ++ decimal n)) e
due spec n name (of_file other e) =
    ap (λ b. if b then codes "SCRATCH." ++ signed_decimal (number_from_code n) else unwrap_or spec.file (codes "fort." ++ decimal n)) (no_scratch spec.status other)
    ∙ ap (λ o. unwrap_or o (codes "fort." ++ decimal n)) e
due spec n _ (of_none other e) =
    ap (λ b. if b then codes "SCRATCH." ++ signed_decimal (number_from_code n) else unwrap_or spec.file (codes "fort." ++ decimal n)) (no_scratch spec.status other)
    ∙ ap (λ o. unwrap_or o (codes "fort." ++ decimal n)) e

not_true : (b : Bool) → (b ≡ true → ⊥) → b ≡ false
not_true true never = absurd (never refl)
not_true false never = refl

reopens : (u : Unit) (spec : OpenSpec) → keeps_file u spec spec.file ≡ true → Reopens u spec
reopens u spec h = by spec.file refl h
  where
    by : (o : Option (List ℕ)) → spec.file ≡ o → keeps_name u.connection.name spec o ≡ true → Reopens u spec
    by None e k = names_no_file e (λ s. no (sym (ap (λ o. not (given_and is_scratch o)) s) ∙ k))
    by (Some name) e k = names_its_file (e ∙ ap (λ x. Some x) ((bytes_eq-Decides name u.connection.name).0 k))

large : (n : ℕ) → not (nat_lt n 2147483648) ≡ true → 2147483648 ≤ n
large n h = elim (cases_lt n 2147483648) [
  | inl lt ↦ no (sym (ap not (lt-ltb n 2147483648 lt)) ∙ h)
  | inr le ↦ le
]

outside : (ref : UnitRef) → is_outside ref ≡ true → IsNoNumber ref
outside unit.Star e = no e
outside (unit.Number n) e = written (large n e)
outside (unit.Held place n) e = held (large n e)
outside (unit.New place n) e = no e
outside (unit.Internal file) e = no e

is_outside_so : (ref : UnitRef) → IsNoNumber ref → is_outside ref ≡ true
is_outside_so _ (written {n = n} le) = ap not (le-ltb n 2147483648 le)
is_outside_so _ (held {n = n} le) = ap not (le-ltb n 2147483648 le)

taken : (s : State) (n : ℕ) (name : List ℕ) → is_taken s n name ≡ true → HasTaken s n name
taken s n name h =
    let found = any_in (λ (u : Unit). not (u.number == n) && bytes_eq u.connection.name name) s.units h in
    let parts = and_parts (not (found.0.number == n)) (bytes_eq found.0.connection.name name) found.2 in
    record {
      unit = found.0;
      connected = found.1;
      other = λ e. no (sym (ap not (eq-eqb found.0.number n e)) ∙ parts.0);
      named = (bytes_eq-Decides found.0.connection.name name).0 parts.1;
    }

taken_so : (s : State) (n : ℕ) (name : List ℕ) → HasTaken s n name → is_taken s n name ≡ true
taken_so s n name h =
    list_any_at (λ (u : Unit). not (u.number == n) && bytes_eq u.connection.name name) s.units h.connected.0 h.unit h.connected.1
    (ap (λ (u : Unit). not (u.number == n) && bytes_eq u.connection.name name) h.connected.2
    ∙ and_from (not (h.unit.number == n)) (bytes_eq h.unit.connection.name name) (ap not (ne_eqb h.unit.number n h.other)) ((bytes_eq-Decides h.unit.connection.name name).1 h.named))

-- ---- STATUS= and the file

kept : (bytes : List ℕ) → Connects Old (Some bytes) (kept_bytes bytes)
kept bytes = elim (cases_lt longest_file (length bytes)) [
  | inl long ↦ subst (Connects Old (Some bytes)) (sym (too_long bytes long)) (old_is_long long)
  | inr short ↦ subst (Connects Old (Some bytes)) (sym (short_enough bytes short)) (old short)
]

connects_so : (status : FileStatus) (there : Option (List ℕ)) → Connects status there (bytes_opened status there)
connects_so Old None = old_is_missing
connects_so Old (Some bytes) = kept bytes
connects_so New None = new
connects_so New (Some bytes) = new_is_there
connects_so Scratch there = scratch
connects_so Replace there = replaced
connects_so Unknown None = unknown_is_new new
connects_so Unknown (Some bytes) = unknown_is_old (kept bytes)

-- each error has a number
numbered : (status : FileStatus) (there : Option (List ℕ)) (condition : Condition) → Connects status there (Err condition) → (k : ℕ) × (condition ≡ Error k)
numbered status there condition h = by status there (decides status there (bytes_opened status there) (Err condition) (connects_so status there) h)
  where
    same : (k : ℕ) → ◌≡◌ {A = Result (List ℕ) Condition} (Err (Error k)) (Err condition) → (k : ℕ) × (condition ≡ Error k)
    same k e = (k, let is : Error k ≡ condition = cc in sym is)

    never : {Q : Type 0} (bytes : List ℕ) → ◌≡◌ {A = Result (List ℕ) Condition} (Ok bytes) (Err condition) → Q
    never bytes e = absurd (let wrong : ◌≡◌ {A = Result (List ℕ) Condition} (Ok bytes) (Err condition) = e in cc)

    long : (bytes : List ℕ) (b : Bool) → (if b then Err (Error 27) else Ok bytes) ≡ Err condition → (k : ℕ) × (condition ≡ Error k)
    long bytes true e = same 27 e
    long bytes false e = never bytes e

    by : (status : FileStatus) (there : Option (List ℕ)) → bytes_opened status there ≡ Err condition → (k : ℕ) × (condition ≡ Error k)
    by Old None e = same 5 e
    by Old (Some bytes) e = long bytes (nat_lt longest_file (length bytes)) e
    by New None e = never [] e
    by New (Some bytes) e = same 6 e
    by Scratch there e = never [] e
    by Replace there e = never [] e
    by Unknown None e = never [] e
    by Unknown (Some bytes) e = long bytes (nat_lt longest_file (length bytes)) e

-- ---- the modes

takes : {A : Type 0} (given : Option A) (before : A) → TakesOrKeeps given before (unwrap_or given before)
takes None before = refl
takes (Some x) before = refl

is_sequential : (access : Access) → (same_access access Sequential ≡ true) ↔ (access ≡ Sequential)
is_sequential Sequential = (λ h. refl, λ h. refl)
is_sequential Direct = (λ h. no h, λ h. cc)
is_sequential Stream = (λ h. no h, λ h. cc)

forms : (given : Option Bool) (access : Access) → MatchOption given ((unwrap_or given (same_access access Sequential) ≡ true) ↔ (access ≡ Sequential)) (λ told. unwrap_or given (same_access access Sequential) ≡ told)
forms None access = is_sequential access
forms (Some b) access = refl

are_asked : (spec : OpenSpec) → AreOf spec (modes_asked spec)
are_asked spec = record {
  access = takes spec.access Sequential;
  form = forms spec.formatted (access_asked spec);
  length = takes spec.recl (if formatted_asked spec then 65536 else 16777216);
  action = takes spec.action _;
  asynchronous = takes spec.asynchronous false;
  scratch = (is_scratch_so spec.status, λ e. ap (given_and is_scratch) e);
  blank = takes spec.blank_zero false;
  decimal = takes spec.comma false;
  delim = takes spec.delim _;
  pad = takes spec.pad true;
  sign = takes spec.plus false;
}

at_end_so : (size : ℕ) (o : Option Start) → o ≡ Some Append → first_place (unwrap_or o AsIs) size ≡ size
at_end_so size o e = ap (λ x. first_place (unwrap_or x AsIs) size) e

at_start_so : (size : ℕ) (o : Option Start) → o ≢ Some Append → first_place (unwrap_or o AsIs) size ≡ 0
at_start_so size None other = refl
at_start_so size (Some AsIs) other = refl
at_start_so size (Some Rewind) other = refl
at_start_so size (Some Append) other = absurd (other refl)

-- ---- the connection

module _ (base : State) (n : ℕ) (spec : OpenSpec) (name : List ℕ) where
  abbrev status : FileStatus
  status = unwrap_or spec.status Unknown

  abbrev of_file_there : State × Condition
  of_file_there = with_opened base n (opened_file (base.files name) name spec (modes_asked spec))

  abbrev tried : Bool → State × Condition
  tried few = if few then of_file_there else (base, Error 9)

  few_is : length base.units < 16 → nat_lt (length base.units) most_units ≡ true
  few_is lt = lt-ltb (length base.units) 16 lt

  many_is : 16 ≤ length base.units → nat_lt (length base.units) most_units ≡ false
  many_is le = le-ltb (length base.units) 16 le

  answered : (answer : Result (List ℕ) Condition) → Connects status (base.files name) answer → of_file_there ≡ with_opened base n (connected_to (modes_asked spec) name answer)
  answered answer h =
      ap (λ r. with_opened base n (connected_to (modes_asked spec) name r)) (decides status (base.files name) (bytes_opened status (base.files name)) answer (connects_so status (base.files name)) h)

  errs_then : (k : ℕ) → ErrsThen base spec name k → tried (nat_lt (length base.units) most_units) ≡ (base, Error k)
  errs_then _ (units_are_many le) = ap tried (many_is le)
  errs_then k (file_is_not_so lt h) = ap tried (few_is lt) ∙ answered (Err (Error k)) h

  opens_by : (bytes : List ℕ) → Connects status (base.files name) (Ok bytes) → (done : State × Condition)
      → done ≡ with_opened base n (Ok (connected (modes_asked spec) name bytes)) → Opens base n spec name done.0 × (done.1 ≡ Fine)
  opens_by bytes h done is = (
    subst (λ (x : State × Condition). Opens base n spec name x.0) (sym is) (record {
      connection = connected (modes_asked spec) name bytes;
      new = record {
        named = refl;
        bytes = h;
        modes = are_asked spec;
        at_end = at_end_so (length bytes) spec.position;
        at_start = at_start_so (length bytes) spec.position;
        between = (refl, refl, refl, refl);
      };
      others = refl;
      away = ap (λ b. if b then None else base.files name) (bytes_are name name refl);
      files = λ other differs. ap (λ b. if b then None else base.files other) (bytes_differ other name differs);
    }),
    ap (λ (x : State × Condition). x.1) is,
  )

  opens_then : ((k : ℕ) → ErrsThen base spec name k → ⊥) → Opens base n spec name (tried (nat_lt (length base.units) most_units)).0 × ((tried (nat_lt (length base.units) most_units)).1 ≡ Fine)
  opens_then none = elim (cases_lt (length base.units) 16) [
    | inl lt ↦ by lt (bytes_opened status (base.files name)) (connects_so status (base.files name))
    | inr le ↦ absurd (none 9 (units_are_many le))
  ]
    where
      by : length base.units < 16 → (answer : Result (List ℕ) Condition) → Connects status (base.files name) answer
          → Opens base n spec name (tried (nat_lt (length base.units) most_units)).0 × ((tried (nat_lt (length base.units) most_units)).1 ≡ Fine)
      by lt (Ok bytes) h = opens_by bytes h (tried (nat_lt (length base.units) most_units)) (ap tried (few_is lt) ∙ answered (Ok bytes) h)
      by lt (Err condition) h =
          let k = numbered status (base.files name) condition h in
          absurd (none k.0 (file_is_not_so lt (subst (λ c. Connects status (base.files name) (Err c)) k.1 h)))

-- ---- the statement

module _ (control : ℕ → List Given) (variables : List Variable) (s : State) (ref : UnitRef) (spec : OpenSpec) (io : Option Place) (n : ℕ) (name : List ℕ)
    (is : number_of ref ≡ Some n) (others : (u : Unit) → found s.units n ≡ Some u → Reopens u spec → ⊥) (named : file_due spec n ≡ name) where
  abbrev done : State × Condition
  done = own control variables s (statement.OpenUnit ref spec io)

  abbrev tested : Option Unit → Bool → State × Condition
  tested had refused = opens_with s n spec had (if refused then Err (Error 3) else Ok (modes_asked spec))

  abbrev sought : Option Unit → Bool → State × Condition
  sought had has = if has then (s, Error 7) else connects (without_old s had) n spec (modes_asked spec)

  with_none : found s.units n ≡ None → done ≡ (if is_outside ref then (s, Error 3) else tested None (is_refused spec))
  with_none e = ap (λ o. if_numbered s o (λ m. opens_unit s ref m spec (found s.units m))) is ∙ ap (opens_unit s ref n spec) e

  with_one : (u : Unit) → found s.units n ≡ Some u → done ≡ tested (Some u) (is_refused spec)
  with_one u e =
      ap (λ o. if_numbered s o (λ m. opens_unit s ref m spec (found s.units m))) is
      ∙ ap (opens_unit s ref n spec) e
      ∙ ap (λ b. if b then with_modes s u (mode.changed u.connection.modes spec) else opens_with s n spec (Some u) (settled spec)) (not_true (keeps_file u spec spec.file) (λ h. others u e (reopens u spec h)))

  -- where its number is one, the specifiers are looked at
  reaches : (had : Option Unit) → found s.units n ≡ had → (found s.units n ≡ None → IsNoNumber ref → ⊥) → done ≡ tested had (is_refused spec)
  reaches None e number = with_none e ∙ ap (λ b. if b then (s, Error 3) else tested None (is_refused spec)) (not_true (is_outside ref) (λ h. number e (outside ref h)))
  reaches (Some u) e number = with_one u e

  seeks : (had : Option Unit) → found s.units n ≡ had → (found s.units n ≡ None → IsNoNumber ref → ⊥) → (IsRefused spec → ⊥) → done ≡ sought had (is_taken s n name)
  seeks had e number allowed =
      reaches had e number ∙ ap (tested had) (not_true (is_refused spec) (λ h. allowed ((is_refused-decides spec).0 h))) ∙ ap (λ (file : List ℕ). sought had (is_taken s n file)) named

  errs_first : (k : ℕ) → ErrsFirst s ref n spec name k → done ≡ (s, Error k)
  errs_first _ (number_is_none e h) = with_none e ∙ ap (λ b. if b then (s, Error 3) else tested None (is_refused spec)) (is_outside_so ref h)
  errs_first _ (refuses number h) = reaches (found s.units n) refl number ∙ ap (tested (found s.units n)) ((is_refused-decides spec).1 h)
  errs_first _ (takes_file number allowed h) = seeks (found s.units n) refl number allowed ∙ ap (sought (found s.units n)) (taken_so s n name h)

  module _ (none : (k : ℕ) → ErrsFirst s ref n spec name k → ⊥) where
    number_is : found s.units n ≡ None → IsNoNumber ref → ⊥
    number_is e h = none 3 (number_is_none e h)

    allowed_is : IsRefused spec → ⊥
    allowed_is h = none 3 (refuses number_is h)

    comes : (had : Option Unit) → found s.units n ≡ had → done ≡ tried (without_old s had) n spec name (nat_lt (length (without_old s had).units) most_units)
    comes had e =
        seeks had e number_is allowed_is
        ∙ ap (sought had) (not_true (is_taken s n name) (λ h. none 7 (takes_file number_is allowed_is (taken s n name h))))
        ∙ ap (λ (file : List ℕ). if nat_lt (length (without_old s had).units) most_units then with_opened (without_old s had) n (opened_file ((without_old s had).files file) file spec (modes_asked spec)) else (without_old s had, Error 9)) named

    left_one : (u : Unit) → found s.units n ≡ Some u → IsLeft s n (disconnected s u (keeps u))
    left_one u e = by u.connection.modes.scratch refl
      where
        by : (b : Bool) → u.connection.modes.scratch ≡ b → IsLeft s n (disconnected s u (keeps u))
        by true h = one_left e (of_scratch_file h) (closed_by s u false (disconnected s u (keeps u), Fine) (ap (λ k. (disconnected s u (not k), Fine)) h)).0
        by false h = one_left e (is_no_scratch h) (closed_by s u true (disconnected s u (keeps u), Fine) (ap (λ k. (disconnected s u (not k), Fine)) h)).0

    is_left : (had : Option Unit) → found s.units n ≡ had → IsLeft s n (without_old s had)
    is_left None e = none_left e
    is_left (Some u) e = left_one u e

    pub goes_on : (base : State) × IsLeft s n base × ((k : ℕ) → ErrsThen base spec name k → done ≡ (base, Error k))
        × (((k : ℕ) → ErrsThen base spec name k → ⊥) → Opens base n spec name done.0 × (done.1 ≡ Fine))
    goes_on =
        let base = without_old s (found s.units n) in
        let is_so = comes (found s.units n) refl in (
          base,
          is_left (found s.units n) refl,
          λ k h. is_so ∙ errs_then base n spec name k h,
          λ fine. subst (λ (x : State × Condition). Opens base n spec name x.0 × (x.1 ≡ Fine)) (sym is_so) (opens_then base n spec name fine),
        )

pub opens_in_order : OpensInOrder
opens_in_order control variables s ref spec status n name is others due_so =
    (errs_first control variables s ref spec status n name is others (due spec n name due_so), goes_on control variables s ref spec status n name is others (due spec n name due_so))
