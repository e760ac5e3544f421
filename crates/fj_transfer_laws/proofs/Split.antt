-- The parts of two formats, one behind the other.
use Rattle.std.proofs.Common.{inl, inr, Option, Some, None, IsSome, unwrap_or, length-append, ◌≡◌, ℕ, zero, suc, ◌≤◌, Bool, true, false, cond, List, [], ◌∷◌, ◌++◌, ◌||◌, ◌⊎◌, length, refl, sym, subst, ap, ◌∙◌, arith, append_assoc}
use Rattle.std.proofs.lemmas.List.Folds.{list_any-append}
use Rattle.fj_value.specs.declared.edit.EditModes.{EditModes}
use Rattle.fj_format.specs.declared.item.FormatItem.{FormatItem, out-FormatItem}
use Rattle.fj_format.specs.declared.item.FormatItem.TheOpen.{FormatItem-F}
use Rattle.fj_format.specs.declared.item.FormatItem.TheFolds.{fold_out-FormatItem, map-FormatItem}
use Rattle.fj_format.specs.Unfolding as step
use Rattle.fj_format.specs.Unfolding.{Steps, repeated, pass, again, again_items, written_out, is_group, group_step, is_unlimited, unlimited_step, has_unlimited, has_data, first_some, from_last_group}
use Rattle.fj_control.specs.Steps.{Given, gives, done, control, round_of, round, rounds, steps}
use Rattle.fj_control.specs.Paired.{Part, item, string, move, slash, paired, modes_behind}
use Rattle.fj_line.specs.declared.moves.Move.TheVariants.{To, Back, Ahead}
use Rattle.fj_transfer_laws.specs.Pieces.{data_count, AreAlone, GoAhead, IsEnough}
use Rattle.fj_control.proofs.Control.{rounds_with_data, rounds_without_data}
use Rattle.fj_control.proofs.Control as controls

pub pass-append : (f g : List FormatItem) → pass (f ++ g) ≡ pass f ++ pass g
pass-append [] g = refl
pass-append (x ∷ f) g = ap (λ l. written_out x ++ l) (pass-append f g) ∙ sym (append_assoc (written_out x) (pass f) (pass g))

-- where no item is left a format without an unlimited item is not used again
rounds_end : (n : ℕ) (more : Steps) → control (rounds n (step.colon ∷ step.slash ∷ more)) 0 ≡ done ∷ []
rounds_end n more = by (has_data more)
  where
    by : (b : Bool) → control (cond b (repeated (suc n) (step.colon ∷ step.slash ∷ more)) []) 0 ≡ done ∷ []
    by true = refl
    by false = refl

round_ends : (f : List FormatItem) (n : ℕ) → has_unlimited f ≡ false → control (rounds n (round f)) 0 ≡ done ∷ []
round_ends f n limited = ap (λ b. control (rounds n (round_of b (again f))) 0) limited ∙ rounds_end n (again f)

-- what follows enough data descriptors has no part in it
enough : (ys a b : Steps) (n : ℕ) → n ≤ data_count ys → control a 0 ≡ done ∷ [] → control b 0 ≡ done ∷ [] → control (ys ++ a) n ≡ control (ys ++ b) n
enough [] a b zero h ends ends' = ends ∙ sym ends'
enough [] a b (suc n) h ends ends' = absurd (omega arith)
enough (step.edit e ∷ ys) a b zero h ends ends' = refl
enough (step.edit e ∷ ys) a b (suc n) h ends ends' = ap (λ l. gives (step.edit e) ∷ l) (enough ys a b n (omega arith) ends ends')
enough (step.colon ∷ ys) a b zero h ends ends' = refl
enough (step.colon ∷ ys) a b (suc n) h ends ends' = enough ys a b (suc n) h ends ends'
enough (step.string s ∷ ys) a b n h ends ends' = ap (λ l. gives (step.string s) ∷ l) (enough ys a b n h ends ends')
enough (step.tab k ∷ ys) a b n h ends ends' = ap (λ l. gives (step.tab k) ∷ l) (enough ys a b n h ends ends')
enough (step.left k ∷ ys) a b n h ends ends' = ap (λ l. gives (step.left k) ∷ l) (enough ys a b n h ends ends')
enough (step.right k ∷ ys) a b n h ends ends' = ap (λ l. gives (step.right k) ∷ l) (enough ys a b n h ends ends')
enough (step.slash ∷ ys) a b n h ends ends' = ap (λ l. gives step.slash ∷ l) (enough ys a b n h ends ends')
enough (step.mode m ∷ ys) a b n h ends ends' = ap (λ l. gives (step.mode m) ∷ l) (enough ys a b n h ends ends')

-- steps that have a data descriptor for each of the first items
first_items : (xs zs r : Steps) (modes : EditModes) (order more : List ℕ) → AreAlone xs → data_count xs ≡ length order → control r 0 ≡ done ∷ []
    → paired modes (control (xs ++ zs) (length (order ++ more))) (order ++ more) ≡ paired modes (control (xs ++ r) (length order)) order ++ paired modes (control zs (length more)) more
first_items [] zs r modes [] more alone count ends = ap (λ (l : List Given). paired modes l [] ++ paired modes (control zs (length more)) more) (sym ends)
first_items [] zs r modes (x ∷ order) more alone count ends = absurd (omega arith)
first_items (step.edit e ∷ xs) zs r modes [] more alone count ends = absurd (omega arith)
first_items (step.edit e ∷ xs) zs r modes (x ∷ order) more alone count ends = ap (λ l. item modes e x ∷ l) (first_items xs zs r modes order more alone (omega arith) ends)
first_items (step.colon ∷ xs) zs r modes order more alone count ends = absurd alone
first_items (step.mode m ∷ xs) zs r modes order more alone count ends = absurd alone
first_items (step.string s ∷ xs) zs r modes order more alone count ends = ap (λ l. string s ∷ l) (first_items xs zs r modes order more alone count ends)
first_items (step.tab k ∷ xs) zs r modes order more alone count ends = ap (λ l. move (To k) ∷ l) (first_items xs zs r modes order more alone count ends)
first_items (step.left k ∷ xs) zs r modes order more alone count ends = ap (λ l. move (Back k) ∷ l) (first_items xs zs r modes order more alone count ends)
first_items (step.right k ∷ xs) zs r modes order more alone count ends = ap (λ l. move (Ahead k) ∷ l) (first_items xs zs r modes order more alone count ends)
first_items (step.slash ∷ xs) zs r modes order more alone count ends = ap (λ l. slash ∷ l) (first_items xs zs r modes order more alone count ends)

-- a format with a group is used again from the last one on, whatever stands before it
group_stays : (f g found : List FormatItem) → from_last_group g ≡ Some found → from_last_group (f ++ g) ≡ Some found
group_stays [] g found is = is
group_stays (x ∷ f) g found is = ap (λ o. first_some o (cond (is_group x) (Some (x ∷ (f ++ g))) None)) (group_stays f g found is)

again_stays : (f g : List FormatItem) (o : Option (List FormatItem)) → from_last_group g ≡ o → IsSome o → again (f ++ g) ≡ again g
again_stays f g None is some = cc
again_stays f g (Some found) is some =
    ap (λ o. pass (unwrap_or o (f ++ g))) (group_stays f g found is) ∙ sym (ap (λ o. pass (unwrap_or o g)) is)

group_layer : (d : FormatItem-F FormatItem) → unlimited_step (map-FormatItem FormatItem Bool is_unlimited d) ≡ true → group_step (map-FormatItem FormatItem Bool is_group d) ≡ true
group_layer (FormatItem-F.Field r e) h = cc
group_layer (FormatItem-F.Group r items) h = refl
group_layer (FormatItem-F.Str s) h = cc
group_layer (FormatItem-F.Tab n) h = cc
group_layer (FormatItem-F.Left n) h = cc
group_layer (FormatItem-F.Right n) h = cc
group_layer (FormatItem-F.Skip n) h = cc
group_layer (FormatItem-F.Slash n) h = cc
group_layer FormatItem-F.Colon h = cc
group_layer (FormatItem-F.Mode m) h = cc
group_layer (FormatItem-F.Unlimited items) h = refl

group_of_unlimited : (x : FormatItem) → is_unlimited x ≡ true → is_group x ≡ true
group_of_unlimited x h = fold_out-FormatItem Bool group_step x ∙ group_layer (out-FormatItem x) (sym (fold_out-FormatItem Bool unlimited_step x) ∙ h)

-- a format with an unlimited item has a group
some_group : (g : List FormatItem) → has_unlimited g ≡ true → IsSome (from_last_group g)
some_group [] h = cc
some_group (x ∷ g) h = by (is_unlimited x) refl (from_last_group g) (λ is. some_group g is)
  where
    in_more : (b : Bool) → is_unlimited x ≡ b → b ≡ false → has_unlimited g ≡ true
    in_more b is other = sym (ap (λ c. c || has_unlimited g) (is ∙ other)) ∙ h

    by : (b : Bool) → is_unlimited x ≡ b → (o : Option (List FormatItem)) → (has_unlimited g ≡ true → IsSome o) → IsSome (first_some o (cond (is_group x) (Some (x ∷ g)) None))
    by b is (Some found) more = refl
    by true is None more = let P : Bool → Type 0 = λ c. IsSome (cond c (Some (x ∷ g)) None) in subst P (sym (group_of_unlimited x is)) refl
    by false is None more = absurd (let wrong : false ≡ true = more (in_more false is refl) in cc)

-- more rounds than there are items change nothing
more_rounds : (a r : Steps) (n all : ℕ) (b : Bool) → has_data r ≡ b → n ≤ all → control (a ++ rounds all r) n ≡ control (a ++ rounds n r) n
more_rounds a r n all true is low =
    ap (λ l. control (a ++ l) n) (rounds_with_data all r is) ∙ controls.enough a r n (suc all) is (omega arith) ∙ sym (ap (λ l. control (a ++ l) n) (rounds_with_data n r is))
more_rounds a r n all false is low = ap (λ l. control (a ++ l) n) (rounds_without_data all r is ∙ sym (rounds_without_data n r is))

unlimited_behind : (f g : List FormatItem) → has_unlimited f ≡ false → has_unlimited (f ++ g) ≡ has_unlimited g
unlimited_behind f g limited = list_any-append is_unlimited f g ∙ ap (λ b. b || has_unlimited g) limited

second_steps : (f g : List FormatItem) (n all : ℕ) → n ≤ all → has_unlimited f ≡ false → IsEnough g n → control (pass g ++ rounds all (round (f ++ g))) n ≡ steps g n
second_steps f g n all low limited many = by_enough many
  where
    by_group : IsSome (from_last_group g) → control (pass g ++ rounds all (round (f ++ g))) n ≡ steps g n
    by_group some =
        ap (λ b. control (pass g ++ rounds all (round_of b (again (f ++ g)))) n) (unlimited_behind f g limited)
        ∙ ap (λ l. control (pass g ++ rounds all (round_of (has_unlimited g) l)) n) (again_stays f g (from_last_group g) refl some)
        ∙ more_rounds (pass g) (round g) n all (has_data (round g)) refl low

    by_unlimited : (b : Bool) → has_unlimited g ≡ b → n ≤ data_count (pass g) → control (pass g ++ rounds all (round (f ++ g))) n ≡ steps g n
    by_unlimited true is few = by_group (some_group g is)
    by_unlimited false is few =
        enough (pass g) (rounds all (round (f ++ g))) (rounds n (round g)) n few (round_ends (f ++ g) all (unlimited_behind f g limited ∙ is)) (round_ends g n is)

    by_enough : IsEnough g n → control (pass g ++ rounds all (round (f ++ g))) n ≡ steps g n
    by_enough (inl few) = by_unlimited (has_unlimited g) refl few
    by_enough (inr some) = by_group some

pub parts_split : (f g : List FormatItem) (modes : EditModes) (order more : List ℕ) → has_unlimited f ≡ false → AreAlone (pass f) → data_count (pass f) ≡ length order → IsEnough g (length more)
    → paired modes (steps (f ++ g) (length (order ++ more))) (order ++ more) ≡ paired modes (steps f (length order)) order ++ paired modes (steps g (length more)) more
parts_split f g modes order more limited alone count many =
    let all = length (order ++ more) in
    let again' = rounds all (round (f ++ g)) in
    let one : pass (f ++ g) ++ again' ≡ pass f ++ (pass g ++ again') = ap (λ l. l ++ again') (pass-append f g) ∙ append_assoc (pass f) (pass g) again' in
    ap (λ (l : Steps). paired modes (control l all) (order ++ more)) one
    ∙ first_items (pass f) (pass g ++ again') (rounds (length order) (round f)) modes order more alone count (round_ends f (length order) limited)
    ∙ ap (λ (l : List Given). paired modes (steps f (length order)) order ++ paired modes l more)
    (second_steps f g (length more) all (omega (arith, length-append order more)) limited many)

-- ---- up to the first slash nothing goes back

abbrev pub AreAhead : List (Part ℕ) → Type 0
AreAhead [] = Unit {0}
AreAhead (move (Ahead n) ∷ more) = AreAhead more
AreAhead (move (To n) ∷ more) = ⊥
AreAhead (move (Back n) ∷ more) = ⊥
AreAhead (item modes e x ∷ more) = AreAhead more
AreAhead (_ ∷ more) = Unit {0}

ahead : (ys : Steps) (modes : EditModes) (order : List ℕ) → GoAhead ys → AreAhead (paired modes (control ys (length order)) order)
ahead [] modes [] go = tt
ahead [] modes (x ∷ order) go = tt
ahead (step.edit e ∷ ys) modes [] go = tt
ahead (step.edit e ∷ ys) modes (x ∷ order) go = ahead ys modes order go
ahead (step.colon ∷ ys) modes [] go = tt
ahead (step.colon ∷ ys) modes (x ∷ order) go = ahead ys modes (x ∷ order) go
ahead (step.string s ∷ ys) modes order go = tt
ahead (step.tab n ∷ ys) modes order go = absurd go
ahead (step.left n ∷ ys) modes order go = absurd go
ahead (step.right n ∷ ys) modes order go = ahead ys modes order go
ahead (step.slash ∷ ys) modes order go = tt
ahead (step.mode m ∷ ys) modes order go = ahead ys (modes_behind m modes) order go

go_behind : (a b : Steps) → GoAhead a → GoAhead b → GoAhead (a ++ b)
go_behind [] b go more = more
go_behind (step.edit e ∷ a) b go more = go_behind a b go more
go_behind (step.string s ∷ a) b go more = go_behind a b go more
go_behind (step.tab n ∷ a) b go more = absurd go
go_behind (step.left n ∷ a) b go more = absurd go
go_behind (step.right n ∷ a) b go more = go_behind a b go more
go_behind (step.slash ∷ a) b go more = tt
go_behind (step.colon ∷ a) b go more = go_behind a b go more
go_behind (step.mode m ∷ a) b go more = go_behind a b go more

-- neither T nor TL, and no slash
abbrev AreFree : Steps → Type 0
AreFree [] = Unit {0}
AreFree (step.tab n ∷ more) = ⊥
AreFree (step.left n ∷ more) = ⊥
AreFree (step.slash ∷ more) = ⊥
AreFree (_ ∷ more) = AreFree more

-- up to a slash, or all along
slash_or_free : (a : Steps) → GoAhead a → ((b : Steps) → GoAhead (a ++ b)) ⊎ AreFree a
slash_or_free [] go = inr tt
slash_or_free (step.edit e ∷ a) go = slash_or_free a go
slash_or_free (step.string s ∷ a) go = slash_or_free a go
slash_or_free (step.tab n ∷ a) go = absurd go
slash_or_free (step.left n ∷ a) go = absurd go
slash_or_free (step.right n ∷ a) go = slash_or_free a go
slash_or_free (step.slash ∷ a) go = inl (λ b. tt)
slash_or_free (step.colon ∷ a) go = slash_or_free a go
slash_or_free (step.mode m ∷ a) go = slash_or_free a go

free_end : (a b : Steps) → AreFree (a ++ b) → AreFree b
free_end [] b h = h
free_end (step.edit e ∷ a) b h = free_end a b h
free_end (step.string s ∷ a) b h = free_end a b h
free_end (step.tab n ∷ a) b h = absurd h
free_end (step.left n ∷ a) b h = absurd h
free_end (step.right n ∷ a) b h = free_end a b h
free_end (step.slash ∷ a) b h = absurd h
free_end (step.colon ∷ a) b h = free_end a b h
free_end (step.mode m ∷ a) b h = free_end a b h

free_goes : (a : Steps) → AreFree a → GoAhead a
free_goes [] h = tt
free_goes (step.edit e ∷ a) h = free_goes a h
free_goes (step.string s ∷ a) h = free_goes a h
free_goes (step.tab n ∷ a) h = absurd h
free_goes (step.left n ∷ a) h = absurd h
free_goes (step.right n ∷ a) h = free_goes a h
free_goes (step.slash ∷ a) h = absurd h
free_goes (step.colon ∷ a) h = free_goes a h
free_goes (step.mode m ∷ a) h = free_goes a h

repeated_goes : (n : ℕ) (a : Steps) → GoAhead a → GoAhead (repeated n a)
repeated_goes zero a go = tt
repeated_goes (suc n) a go = go_behind a (repeated n a) go (repeated_goes n a go)

some_rounds : (P : Steps → Type 0) (n : ℕ) (r : Steps) → P (repeated (suc n) r) → P [] → P (rounds n r)
some_rounds P n r p q = by (has_data r)
  where
    by : (b : Bool) → P (cond b (repeated (suc n) r) [])
    by true = p
    by false = q

-- the end of a list that goes ahead goes on so however often it comes again
round_goes : (a b : Steps) (n : ℕ) → GoAhead (a ++ b) → GoAhead ((a ++ b) ++ rounds n b)
round_goes a b n go =
    elim (slash_or_free (a ++ b) go) [
      | inl all ↦ all (rounds n b)
      | inr free ↦ go_behind (a ++ b) (rounds n b) go (some_rounds GoAhead n b (repeated_goes (suc n) b (free_goes b (free_end a b free))) tt)
    ]

-- what is used again is the end of a pass
found_behind : (g found : List FormatItem) → from_last_group g ≡ Some found → (front : List FormatItem) × (g ≡ front ++ found)
found_behind [] found e = cc
found_behind (x ∷ g) found e = by (from_last_group g) refl (is_group x) (λ is. found_behind g found is) e
  where
    by : (o : Option (List FormatItem)) → from_last_group g ≡ o → (b : Bool) → (from_last_group g ≡ Some found → (front : List FormatItem) × (g ≡ front ++ found))
        → first_some o (cond b (Some (x ∷ g)) None) ≡ Some found → (front : List FormatItem) × (x ∷ g ≡ front ++ found)
    by (Some ys) is b behind e = let more = behind (is ∙ e) in (x ∷ more.0, ap (λ l. x ∷ l) more.1)
    by None is true behind e = ([], (let same : x ∷ g ≡ found = cc in same))
    by None is false behind e = cc

front_of : (g : List FormatItem) → (front : List FormatItem) × (g ≡ front ++ again_items g)
front_of g = by (from_last_group g) refl
  where
    by : (o : Option (List FormatItem)) → from_last_group g ≡ o → (front : List FormatItem) × (g ≡ front ++ again_items g)
    by None is = ([], sym (ap (λ o. unwrap_or o g) is))
    by (Some found) is = let front = found_behind g found is in (front.0, front.1 ∙ ap (λ l. front.0 ++ l) (sym (ap (λ o. unwrap_or o g) is)))

goes_again : (g : List FormatItem) (n : ℕ) → GoAhead (pass g) → GoAhead (pass g ++ rounds n (round g))
goes_again g n go = by (has_unlimited g) refl
  where
    front : List FormatItem
    front = (front_of g).0

    whole : pass g ≡ pass front ++ again g
    whole = ap pass (front_of g).1 ∙ pass-append front (again_items g)

    by : (b : Bool) → has_unlimited g ≡ b → GoAhead (pass g ++ rounds n (round_of b (again g)))
    by true is = subst (λ l. GoAhead (l ++ rounds n (again g))) (sym whole) (round_goes (pass front) (again g) n (subst GoAhead whole go))
    by false is = go_behind (pass g) (rounds n (step.colon ∷ step.slash ∷ again g)) go (some_rounds GoAhead n (step.colon ∷ step.slash ∷ again g) tt tt)

pub parts_ahead : (g : List FormatItem) (modes : EditModes) (more : List ℕ) → GoAhead (pass g) → AreAhead (paired modes (steps g (length more)) more)
parts_ahead g modes more go = ahead (pass g ++ rounds (length more) (round g)) modes more (goes_again g (length more) go)
