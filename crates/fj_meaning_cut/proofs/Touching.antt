-- One file, were all units closed: at most one connection has it, which writes or removes it.
use Rattle.std.proofs.Common.{◌≡◌, ℕ, Bool, true, false, not, List, [], ◌∷◌, length, Option, Some, None, refl, sym, ap, ◌∙◌, subst, inl, inr}
use Rattle.std.specs.Prelude.{if◌then◌else◌}
use Rattle.std.specs.Str.{bytes_eq}
use Rattle.std.proofs.lemmas.Bool.Decides.{eqb_tells}
use Rattle.fj_value.specs.declared.edit.EditModes.{EditModes}
use Rattle.fj_modes.specs.declared.modes.Modes.{Modes}
use Rattle.fj_connect.specs.Connection.{Connection, with_edit, with_records}
use Rattle.fj_connect.specs.Positions.{ended, moved, moved_unless, motion_error}
use Rattle.fj_connect.specs.Spot.{is_writing}
use Rattle.fj_connect.specs.declared.spot.Positioning.{Positioning}
use Rattle.fj_connect.specs.declared.spot.Positioning.TheVariants.{Backspace, Rewind}
use Rattle.fj_bay.specs.Jobs.{Job, attach, change, go}
use Rattle.fj_bay.specs.Serving.{serve, changed, gone}
use Rattle.fj_bay.proofs.Keeping.{Kept, moved_kept}
use Rattle.fj_meaning.specs.State.{Files}
use Rattle.fj_meaning.specs.State as plain
use Rattle.fj_meaning_jobs.specs.Core.{Connected}
use Rattle.fj_meaning_jobs.specs.Desks.{Desk, carry, most_slots}
use Rattle.fj_meaning_jobs.specs.Desking.{connection_at, left_by, all_left}
use Rattle.fj_meaning_jobs.proofs.Apart.{Each, each_both, each_imp, Differs, Apart}
use Rattle.fj_meaning_jobs.proofs.Carrying.{carry_other}
use Rattle.fj_meaning_cut.proofs.Through.{over, through, through_same, AtMostOne, one_same}
use Rattle.fj_meaning_cut.proofs.Units.{each_all}
use Rattle.fj_meaning_cut.proofs.Carried.{there, Idles, idle_there, IfThere, named_there, brought_there}

-- its slot has a connection of its name
pub record IsHome (ds : List Desk) (u : Connected) : Type 0 where
  pub it : Connection
  pub is : there ds u.slot ≡ Some it
  pub named : u.name ≡ it.name
  pub scratch : u.modes.scratch ≡ it.modes.scratch

pub home_same : (ds behind : List Desk) (u : Connected) → there behind u.slot ≡ there ds u.slot → IsHome ds u → IsHome behind u
home_same ds behind u e h = record { it = h.it; is = e ∙ h.is; named = h.named; scratch = h.scratch }

module _ (name : List ℕ) where
  -- what becomes of the file as a connection is left; nothing, where the connection has another one
  abbrev pub touch : Option Connection → Option (Option (List ℕ))
  touch None = None
  touch (Some c) = if bytes_eq name c.name then Some (if c.modes.scratch then None else Some (ended c).bytes) else None

  abbrev pub at : List Desk → Connected → Option (Option (List ℕ))
  at ds u = touch (there ds u.slot)

  -- another file
  abbrev pub Other : List ℕ → Type 0
  Other n = bytes_eq name n ≡ false

  pub spared : (c : Connection) → Other c.name → touch (Some c) ≡ None
  spared c e = ap (λ b. if b then Some (if c.modes.scratch then None else Some (ended c).bytes) else None) e

  pub spared_if : (o : Option Connection) → IfThere Other o → touch o ≡ None
  spared_if None h = refl
  spared_if (Some c) h = spared c h

  pub left_is : (o : Option Connection) (files : Files) → left_by o files name ≡ over (touch o) (files name)
  left_is None files = refl
  left_is (Some c) files = by c.modes.scratch
    where
      put : (b : Bool) (v : Option (List ℕ)) → (if b then v else files name) ≡ over (if b then Some v else None) (files name)
      put true v = refl
      put false v = refl

      by : (s : Bool) → plain.left c (not s) files name ≡ over (if bytes_eq name c.name then Some (if s then None else Some (ended c).bytes) else None) (files name)
      by true = put (bytes_eq name c.name) None
      by false = put (bytes_eq name c.name) (Some (ended c).bytes)

  pub all_is : (ds : List Desk) (us : List Connected) (files : Files) → all_left ds us files name ≡ through (at ds) us (files name)
  all_is ds [] files = refl
  all_is ds (u ∷ us) files = all_is ds us (left_by (there ds u.slot) files) ∙ ap (through (at ds) us) (left_is (there ds u.slot) files)

  -- ---- a job at a slot where no unit has the file

  pub still : (ds : List Desk) (slot : ℕ) (job : Job) (us : List Connected) → Each (IsHome ds) us → Each (λ (x : Connected). x.slot ≡ slot → Other x.name) us
      → Each (λ x. at (carry ds slot job) x ≡ at ds x) us
  still ds slot job us homes others =
      each_both (IsHome ds) (λ (x : Connected). x.slot ≡ slot → Other x.name) (λ x. at (carry ds slot job) x ≡ at ds x) us
      (λ x h f. elim (eqb_tells x.slot slot) [ inl a ↦ one x h a.1 (f a.1) | inr a ↦ ap (λ o. touch (connection_at o)) (carry_other ds slot job x.slot a.1) ]) homes others
    where
      one : (x : Connected) → IsHome ds x → x.slot ≡ slot → Other x.name → at (carry ds slot job) x ≡ at ds x
      one x h e other =
          let its : Other h.it.name = subst Other h.named other in
          ap (λ k. touch (there (carry ds slot job) k)) e
          ∙ spared_if (there (carry ds slot job) slot) (named_there Other ds slot job h.it (ap (there ds) (sym e) ∙ h.is) its)
          ∙ sym (ap touch h.is ∙ spared h.it its)

  -- the slot of a unit that has another file
  pub at_slot : (ds : List Desk) (us : List Connected) (u : Connected) → Each (IsHome ds) us → IsHome ds u → Other u.name → Each (λ (x : Connected). x.slot ≡ u.slot → Other x.name) us
  at_slot ds us u homes home other = each_imp (IsHome ds) (λ (x : Connected). x.slot ≡ u.slot → Other x.name) us (λ x h e. one x h e) homes
    where
      one : (x : Connected) → IsHome ds x → x.slot ≡ u.slot → Other x.name
      one x h e =
          let both : Some h.it ≡ Some home.it = sym h.is ∙ ap (there ds) e ∙ home.is in
          let same : h.it ≡ home.it = cc in
          subst Other (home.named ∙ sym (ap (λ (c : Connection). c.name) same) ∙ sym h.named) other

  pub brought : (ds : List Desk) (slot : ℕ) (c : Connection) → there ds slot ≡ None → Other c.name → touch (there (carry ds slot (attach (Some c))) slot) ≡ None
  brought ds slot c e other = spared_if (there (carry ds slot (attach (Some c))) slot) (brought_there Other ds slot c e other)

  pub same_left : (ds behind : List Desk) (us : List Connected) (files : Files) → Each (λ x. at behind x ≡ at ds x) us → all_left behind us files name ≡ all_left ds us files name
  same_left ds behind us files e = all_is behind us files ∙ through_same (at behind) (at ds) us (files name) e ∙ sym (all_is ds us files)

  -- ---- jobs that leave the file as closing all units does

  pub idle_at : (ds : List Desk) (slot : ℕ) (job : Job) (us : List Connected) → Idles touch job → Each (λ x. at (carry ds slot job) x ≡ at ds x) us
  idle_at ds slot job us h = each_all (λ x. at (carry ds slot job) x ≡ at ds x) us (λ x. idle_there touch ds slot job h x.slot)

  touch_same : (old new : Connection) → Kept old new → (ended new).bytes ≡ (ended old).bytes → touch (Some new) ≡ touch (Some old)
  touch_same old new k e =
      ap (λ n. if bytes_eq name n then Some (if new.modes.scratch then None else Some (ended new).bytes) else None) k.named
      ∙ ap (λ (m : Modes). if bytes_eq name old.name then Some (if m.scratch then None else Some (ended new).bytes) else None) k.modes
      ∙ ap (λ bytes. if bytes_eq name old.name then Some (if old.modes.scratch then None else Some bytes) else None) e

  pub change_idles : (edit : EditModes) → Idles touch (change edit)
  unfolding serve
  change_idles edit bay = by bay.connection refl
    where
      written : (c : Connection) (b : Bool) → (if b then with_records (with_edit c edit) (10 ∷ []) else with_edit c edit).bytes ≡ (if b then with_records c (10 ∷ []) else c).bytes
      written c true = refl
      written c false = refl

      by : (o : Option Connection) → bay.connection ≡ o → touch (changed bay o edit).engine.connection ≡ touch bay.connection
      by None e = refl
      by (Some c) e = ap (λ bytes. if bytes_eq name c.name then Some (if c.modes.scratch then None else Some bytes) else None) (written c (is_writing c.spot.within)) ∙ sym (ap touch e)

  -- but for ENDFILE
  positioned_idles : (how : Positioning) → ((c : Connection) (o : Option ℕ) → (ended (moved_unless o c how).0).bytes ≡ (ended c).bytes) → Idles touch (go how)
  unfolding serve
  positioned_idles how h bay = by bay.connection refl
    where
      by : (o : Option Connection) → bay.connection ≡ o → touch (gone bay o how).engine.connection ≡ touch bay.connection
      by None e = refl
      by (Some c) e = touch_same c (moved c how).0 (moved_kept c how) (h c (motion_error c how)) ∙ sym (ap touch e)

  pub backspace_idles : Idles touch (go Backspace)
  backspace_idles = positioned_idles Backspace by
    where
      by : (c : Connection) (o : Option ℕ) → (ended (moved_unless o c Backspace).0).bytes ≡ (ended c).bytes
      by c None = refl
      by c (Some n) = refl

  pub rewind_idles : Idles touch (go Rewind)
  rewind_idles = positioned_idles Rewind by
    where
      by : (c : Connection) (o : Option ℕ) → (ended (moved_unless o c Rewind).0).bytes ≡ (ended c).bytes
      by c None = refl
      by c (Some n) = refl

  -- ---- units with their slots

  pub record Stand (ds : List Desk) (us : List Connected) : Type 0 where
    pub homes : Each (IsHome ds) us
    pub slots : Apart (λ (u : Connected). u.slot) us
    pub numbers : Apart (λ (u : Connected). u.number) us
    pub one : AtMostOne (at ds) us
    -- a slot that no unit has is empty
    pub empty : (k : ℕ) → Differs (λ (u : Connected). u.slot) k us → there ds k ≡ None
    pub sixteen : length ds ≡ most_slots

  pub stand_same : (ds behind : List Desk) (us : List Connected) → length behind ≡ length ds → ((k : ℕ) → there behind k ≡ there ds k) → Stand ds us → Stand behind us
  stand_same ds behind us long e s = record {
    homes = each_imp (IsHome ds) (IsHome behind) us (λ u h. home_same ds behind u (e u.slot) h) s.homes;
    slots = s.slots;
    numbers = s.numbers;
    one = one_same (at behind) (at ds) us (each_all (λ u. at behind u ≡ at ds u) us (λ u. ap touch (e u.slot))) s.one;
    empty = λ k d. e k ∙ s.empty k d;
    sixteen = long ∙ s.sixteen;
  }
