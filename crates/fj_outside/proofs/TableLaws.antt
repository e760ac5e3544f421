-- What a table of entries holds after a change of one entry.
use Rattle.std.proofs.Common.{◌≡◌, ℕ, List, [], ◌∷◌, Bool, true, false, refl, sym, ap, ◌∙◌, IsTrue, not, ◌||◌, ◌&&◌, cond, Some, None, Option, string_bytes, is_some, option_map, if◌then◌else◌, ◌↔◌, ◌⊎◌, inl, inr}
use Rattle.std.specs.Ordering.{nat_cmp, eq_by_cmp}
use Rattle.std.specs.Cmp.Lexicographic.{slice_cmp, nat_list_cmp_total}
use Rattle.std.specs.Cmp.{eq_by_cmp_equiv}
use Rattle.std.specs.Str.{bytes_eq}
use Rattle.std.proofs.lemmas.Map.Text.{is_eq-slice_cmp}
use Rattle.std.specs.FinMap as map
use Rattle.std.specs.FinMap.{slice_cmp-IsAntisymmetric, nat_cmp-IsAntisymmetric, same_map}
use Rattle.std.specs.FinSet as set
use Rattle.std.specs.FinSet.{same_set}
use Rattle.fj_outside.specs.Holdings.{Names, Files, IsFree, Exists, IsInUse, out_of, given, without}
use Rattle.fj_outside.specs.Table.{Entries, entry_at, file_in, is_out, file_of, in_use_by, hurt_by, set_file, set_name, files_of, in_use_of, hurt_of, held_of, Puts}
use Rattle.fj_outside.specs.declared.table.Slot.{Slot}
use Rattle.fj_outside.specs.declared.table.Slot.TheVariants.{Home, InUse, Gone}
use Rattle.fj_outside.specs.declared.table.Entry.{Entry}
use Rattle.fj_outside.proofs.HoldingLaws.{same_name}

abbrev tied : List ℕ → List ℕ → Bool
tied = eq_by_cmp (slice_cmp nat_cmp)

same_files : (m n : Files) → ((q : List ℕ) → map.get m q ≡ map.get n q) → m ≡ n
same_files m n each = same_map nat_list_cmp_total (slice_cmp-IsAntisymmetric nat_cmp-IsAntisymmetric) m n each

same_names : (m n : Names) → ((q : List ℕ) → set.contains m q ≡ set.contains n q) → m ≡ n
same_names m n each = same_set nat_list_cmp_total (slice_cmp-IsAntisymmetric nat_cmp-IsAntisymmetric) m n each

get-set_file : (m : Files) (n : List ℕ) (o : Option (List ℕ)) (q : List ℕ) → map.get (set_file m n o) q ≡ cond (tied q n) o (map.get m q)
get-set_file m n None q = map.get-remove nat_list_cmp_total m n q
get-set_file m n (Some b) q = map.get-insert nat_list_cmp_total m n b q

or_cond : (b c : Bool) → (b || c) ≡ cond b true c
or_cond true c = refl
or_cond false c = refl

and_cond : (b c : Bool) → (not b && c) ≡ cond b false c
and_cond true c = refl
and_cond false c = refl

contains-set_name : (s : Names) (n : List ℕ) (b : Bool) (q : List ℕ) → set.contains (set_name s n b) q ≡ cond (tied q n) b (set.contains s q)
contains-set_name s n true q = set.contains-insert nat_list_cmp_total s n q ∙ or_cond (tied q n) (set.contains s q)
contains-set_name s n false q = set.contains-remove nat_list_cmp_total s n q ∙ and_cond (tied q n) (set.contains s q)

through : {X Y : Type 0} (f : X → Y) (b : Bool) (x y : X) → cond b (f x) (f y) ≡ f (cond b x y)
through f true x y = refl
through f false x y = refl

-- what a table holds under a name is what the entry there says
pub get-files_of : (es : Entries) (q : List ℕ) → map.get (files_of es) q ≡ file_of (entry_at es q)
get-files_of [] q = map.get-empty _ q
get-files_of (e ∷ es) q = get-set_file (files_of es) (string_bytes e.0) (file_in e.1.slot) q ∙ ap (cond (tied q (string_bytes e.0)) (file_in e.1.slot)) (get-files_of es q)
    ∙ through file_of (tied q (string_bytes e.0)) (Some e.1) (entry_at es q)

pub contains-in_use_of : (es : Entries) (q : List ℕ) → set.contains (in_use_of es) q ≡ in_use_by (entry_at es q)
contains-in_use_of [] q = set.contains-empty _ q
contains-in_use_of (e ∷ es) q = contains-set_name (in_use_of es) (string_bytes e.0) (is_out e.1.slot) q ∙ ap (cond (tied q (string_bytes e.0)) (is_out e.1.slot)) (contains-in_use_of es q)
    ∙ through in_use_by (tied q (string_bytes e.0)) (Some e.1) (entry_at es q)

pub contains-hurt_of : (es : Entries) (q : List ℕ) → set.contains (hurt_of es) q ≡ hurt_by (entry_at es q)
contains-hurt_of [] q = set.contains-empty _ q
contains-hurt_of (e ∷ es) q = contains-set_name (hurt_of es) (string_bytes e.0) e.1.hurt q ∙ ap (cond (tied q (string_bytes e.0)) e.1.hurt) (contains-hurt_of es q)
    ∙ through hurt_by (tied q (string_bytes e.0)) (Some e.1) (entry_at es q)

tied_bytes : (n q : List ℕ) → bytes_eq n q ≡ tied q n
tied_bytes n q = sym (is_eq-slice_cmp n q) ∙ (eq_by_cmp_equiv nat_list_cmp_total).symm n q

module _ (old new : Entries) (n : List ℕ) (w : Entry) (p : Puts old new n w) where
  put : (q : List ℕ) → entry_at new q ≡ cond (tied q n) (Some w) (entry_at old q)
  put q = p.each q ∙ ap (λ b. cond b (Some w) (entry_at old q)) (tied_bytes n q)

  files_put : files_of new ≡ set_file (files_of old) n (file_in w.slot)
  files_put = same_files _ _ (λ q. get-files_of new q ∙ ap file_of (put q) ∙ sym (through file_of (tied q n) (Some w) (entry_at old q))
      ∙ sym (get-set_file (files_of old) n (file_in w.slot) q ∙ ap (cond (tied q n) (file_in w.slot)) (get-files_of old q)))

  in_use_put : in_use_of new ≡ set_name (in_use_of old) n (is_out w.slot)
  in_use_put = same_names _ _ (λ q. contains-in_use_of new q ∙ ap in_use_by (put q) ∙ sym (through in_use_by (tied q n) (Some w) (entry_at old q))
      ∙ sym (contains-set_name (in_use_of old) n (is_out w.slot) q ∙ ap (cond (tied q n) (is_out w.slot)) (contains-in_use_of old q)))

  hurt_put : hurt_of new ≡ set_name (hurt_of old) n w.hurt
  hurt_put = same_names _ _ (λ q. contains-hurt_of new q ∙ ap hurt_by (put q) ∙ sym (through hurt_by (tied q n) (Some w) (entry_at old q))
      ∙ sym (contains-set_name (hurt_of old) n w.hurt q ∙ ap (cond (tied q n) w.hurt) (contains-hurt_of old q)))

kept : {X : Type 0} (b : Bool) (x c : X) → (b ≡ true → x ≡ c) → cond b x c ≡ c
kept true x c f = f refl
kept false x c f = refl

-- to set a name as it is changes nothing
set_name_same : (s : Names) (n : List ℕ) (b : Bool) → b ≡ set.contains s n → set_name s n b ≡ s
set_name_same s n b e = same_names _ _ (λ q. contains-set_name s n b q ∙ kept (tied q n) b (set.contains s q) (λ t. e ∙ ap (set.contains s) (sym (same_name q n t))))

unheld : (c : Bool) → not c ≡ true → c ≡ false
unheld true e = cc
unheld false e = refl

-- the names that are hurt are the same, and so are the names in use
module _ (old new : Entries) (n : List ℕ) (w : Entry) (p : Puts old new n w) where
  hurt_same : w.hurt ≡ hurt_by (entry_at old n) → hurt_of new ≡ hurt_of old
  hurt_same e = hurt_put old new n w p ∙ set_name_same (hurt_of old) n w.hurt (e ∙ sym (contains-hurt_of old n))

  in_use_same : IsFree (held_of old) n → is_out w.slot ≡ false → in_use_of new ≡ in_use_of old
  in_use_same free e = in_use_put old new n w p ∙ set_name_same (in_use_of old) n (is_out w.slot) (e ∙ sym (unheld (set.contains (in_use_of old) n) free))

-- the calls of a disk
pub made_out : (old new : Entries) (n : List ℕ) (hurt : Bool) → Puts old new n (record { slot = InUse; hurt = hurt }) → hurt ≡ hurt_by (entry_at old n) → held_of new ≡ out_of (held_of old) n
unfolding out_of
made_out old new n hurt p e =
    let same : hurt_of new ≡ hurt_of old = hurt_same old new n _ p e in
    λ i. record { files = files_put old new n _ p i; in_use = in_use_put old new n _ p i; hurt = same i }

turned : (ns : Names) (n : List ℕ) (sound : Bool) → set_name ns n (not sound) ≡ (if sound then set.remove ns n else set.insert ns n)
turned ns n true = refl
turned ns n false = refl

pub given_back : (old new : Entries) (n v : List ℕ) (sound : Bool) → Puts old new n (record { slot = Home v; hurt = not sound }) → held_of new ≡ given (held_of old) n v sound
unfolding given
given_back old new n v sound p =
    λ i. record { files = files_put old new n _ p i; in_use = in_use_put old new n _ p i; hurt = (hurt_put old new n _ p ∙ turned (hurt_of old) n sound) i }

pub removed : (old new : Entries) (n : List ℕ) (hurt : Bool) → Puts old new n (record { slot = Gone; hurt = hurt }) → hurt ≡ hurt_by (entry_at old n) → IsFree (held_of old) n → held_of new ≡ without (held_of old) n
unfolding without
removed old new n hurt p e free =
    let names : in_use_of new ≡ in_use_of old = in_use_same old new n _ p free refl in
    let same : hurt_of new ≡ hurt_of old = hurt_same old new n _ p e in
    λ i. record { files = files_put old new n _ p i; in_use = names i; hurt = same i }

pub added : (old new : Entries) (n v : List ℕ) (hurt : Bool) → Puts old new n (record { slot = Home v; hurt = hurt }) → hurt ≡ hurt_by (entry_at old n) → IsFree (held_of old) n
    → held_of new ≡ record (held_of old) { files = map.insert (files_of old) n v }
added old new n v hurt p e free =
    let names : in_use_of new ≡ in_use_of old = in_use_same old new n _ p free refl in
    let same : hurt_of new ≡ hurt_of old = hurt_same old new n _ p e in
    λ i. record { files = files_put old new n _ p i; in_use = names i; hurt = same i }

none_out : (o : Option Entry) → o ≡ None → in_use_by o ≡ true → ⊥
none_out None e u = cc
none_out (Some x) e u = cc

none_there : (o : Option Entry) → o ≡ None → (is_some (file_of o) || in_use_by o) ≡ true → ⊥
none_there None e t = cc
none_there (Some x) e t = cc

-- a name in use has an entry, and so has one that exists
pub in_use_entry : (es : Entries) (n : List ℕ) → IsInUse (held_of es) n → entry_at es n ≡ None → ⊥
in_use_entry es n used e = none_out (entry_at es n) e (sym (contains-in_use_of es n) ∙ used)

pub exists_entry : (es : Entries) (n : List ℕ) → Exists (held_of es) n → entry_at es n ≡ None → ⊥
exists_entry es n there e = none_there (entry_at es n) e (rw (← get-files_of es n, ← contains-in_use_of es n) there)

-- a name whose file is out is not free
pub free_entry : (es : Entries) (n : List ℕ) → IsFree (held_of es) n → in_use_by (entry_at es n) ≡ true → ⊥
free_entry es n free e =
    let used : set.contains (in_use_of es) n ≡ true = contains-in_use_of es n ∙ e in
    let not_used : set.contains (in_use_of es) n ≡ false = unheld (set.contains (in_use_of es) n) free in cc

-- whether a name exists, by what stands there
there : (es : Entries) (n : List ℕ) → (is_some (map.get (files_of es) n) || set.contains (in_use_of es) n) ≡ (is_some (file_of (entry_at es n)) || in_use_by (entry_at es n))
there es n = rw (get-files_of es n, contains-in_use_of es n) refl

pub exists_by : (es : Entries) (n : List ℕ) (e : Entry) (s : Slot) (b : Bool) → Some e ≡ entry_at es n → e.slot ≡ s → (is_some (file_in s) || is_out s) ≡ b → IsTrue b ↔ Exists (held_of es) n
exists_by es n e s b at stands is =
    let t : (is_some (map.get (files_of es) n) || set.contains (in_use_of es) n) ≡ b = there es n ∙ ap (λ (o : Option Entry). is_some (file_of o) || in_use_by o) (sym at) ∙ ap (λ (x : Slot). is_some (file_in x) || is_out x) stands ∙ is in
    (λ h. t ∙ h, λ h. sym t ∙ h)

pub absent_by : (es : Entries) (n : List ℕ) → None ≡ entry_at es n → IsTrue false ↔ Exists (held_of es) n
absent_by es n at =
    let t : (is_some (map.get (files_of es) n) || set.contains (in_use_of es) n) ≡ false = there es n ∙ ap (λ (o : Option Entry). is_some (file_of o) || in_use_by o) (sym at) in
    (λ h. t ∙ h, λ h. sym t ∙ h)

-- the file of a name, by what stands there
pub file_by : (es : Entries) (n : List ℕ) (e : Entry) (s : Slot) → Some e ≡ entry_at es n → e.slot ≡ s → file_in s ≡ map.get (files_of es) n
file_by es n e s at stands = sym (get-files_of es n ∙ ap file_of (sym at) ∙ ap file_in stands)

pub no_file_by : (es : Entries) (n : List ℕ) → None ≡ entry_at es n → None ≡ map.get (files_of es) n
no_file_by es n at = sym (get-files_of es n ∙ ap file_of (sym at))

pub not_home : (s : Slot) → (s ≡ InUse) ⊎ (s ≡ Gone) → file_in s ≡ None
not_home s (inl e) = ap file_in e
not_home s (inr e) = ap file_in e

-- what stands under a name whose file is at home
pub home_entry : (es : Entries) (n : List ℕ) (e : Entry) (s : Slot) → is_some (map.get (files_of es) n) ≡ true → Some e ≡ entry_at es n → e.slot ≡ s → is_some (file_in s) ≡ true
home_entry es n e s home at stands = ap is_some (file_by es n e s at stands) ∙ home

pub not_absent : (es : Entries) (n : List ℕ) → is_some (map.get (files_of es) n) ≡ true → None ≡ entry_at es n → ⊥
not_absent es n home at = let none : is_some (map.get (files_of es) n) ≡ false = ap is_some (sym (no_file_by es n at)) in cc

pub home_slot : (s : Slot) → (s ≡ InUse) ⊎ (s ≡ Gone) → is_some (file_in s) ≡ true → ⊥
home_slot s out home = let none : is_some (file_in s) ≡ false = ap is_some (not_home s out) in cc

pub some_copied : {X Y : Type 0} (f : X → Y) (o : Option X) (m : Option Y) → option_map f o ≡ m → is_some o ≡ true → is_some m ≡ true
some_copied f None m e t = cc
some_copied f (Some x) m e t = sym (ap is_some e)
