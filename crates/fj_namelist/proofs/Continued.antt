-- Namelist output as a text that grows behind a column.
use Rattle.std.proofs.Common.{◌≡◌, ℕ, ◌+◌, ◌-◌, ◌<◌, Bool, true, false, cond, ltb, List, [], ◌∷◌, ◌++◌, length, take, get_or, Result, Ok, Err, sym, ap, ◌∙◌, refl, arith, append_assoc, append-nil, length-append}
use Rattle.std.specs.Prelude.{OnOk}
use Rattle.std.proofs.lemmas.List.{take_more, map-append}
use Rattle.std.proofs.lemmas.List.Concat.{flat_map-append}
use Rattle.std.specs.List.{flat_map}
use Rattle.std.specs.Char.{to_ascii_uppercase}
use Rattle.std.specs.Str.{str_to_ascii_uppercase}
use Rattle.fj_value.specs.declared.edit.EditModes.{EditModes}
use Rattle.fj_value.specs.declared.value.Cell.{Cell}
use Rattle.fj_value.specs.declared.value.Value.{Value}
use Rattle.fj_moved.specs.declared.moved.GroupMember.{GroupMember}
use Rattle.fj_list.specs.ListText.{shown, text_of}
use Rattle.fj_namelist.specs.GroupText.{parting, continued, text_behind, name_shown, member_written, members_written, values_of}

pub text_append : (a b : List (List ℕ)) → text_of (a ++ b) ≡ text_of a ++ text_of b
text_append a b = flat_map-append (λ (line : List ℕ). line ++ 10 ∷ []) a b

-- records put together as a text
pub text_continued : (modes : EditModes) (line : List ℕ) (vs : List Value) → text_of (continued modes line vs) ≡ line ++ text_behind modes (length line) vs
text_continued modes line [] = append-nil (line ++ 10 ∷ [])
text_continued modes line (v ∷ vs) =
    let more = parting modes.comma ∷ shown modes v in
    let longer = line ++ more in
    let long : length longer ≡ length line + length more = length-append line more in
    go (ltb 80 (length longer)) refl (ap (λ n. ltb 80 n) (sym long)) long (text_continued modes (32 ∷ shown modes v) vs) (text_continued modes (line ++ (parting modes.comma ∷ shown modes v)) vs) where
      go : (b : Bool) → ltb 80 (length (line ++ (parting modes.comma ∷ shown modes v))) ≡ b → ltb 80 (length line + length (parting modes.comma ∷ shown modes v)) ≡ ltb 80 (length (line ++ (parting modes.comma ∷ shown modes v)))
          → length (line ++ (parting modes.comma ∷ shown modes v)) ≡ length line + length (parting modes.comma ∷ shown modes v)
          → text_of (continued modes (32 ∷ shown modes v) vs) ≡ (32 ∷ shown modes v) ++ text_behind modes (length (32 ∷ shown modes v)) vs
          → text_of (continued modes (line ++ (parting modes.comma ∷ shown modes v)) vs) ≡ (line ++ (parting modes.comma ∷ shown modes v)) ++ text_behind modes (length (line ++ (parting modes.comma ∷ shown modes v))) vs
          → text_of (continued modes line (v ∷ vs)) ≡ line ++ text_behind modes (length line) (v ∷ vs)
      go true e same long new on =
          let sep = parting modes.comma in
          let text = shown modes v in
          let rest = text_behind modes (length (32 ∷ text)) vs in
          let a : List (List ℕ) = (line ++ sep ∷ []) ∷ continued modes (32 ∷ text) vs in
          let b : List (List ℕ) = continued modes (line ++ (sep ∷ text)) vs in
          let c : List ℕ = (sep ∷ 10 ∷ 32 ∷ text) ++ rest in
          let d : List ℕ = (sep ∷ text) ++ text_behind modes (length line + length (sep ∷ text)) vs in
          let put : ((line ++ sep ∷ []) ++ 10 ∷ []) ++ ((32 ∷ text) ++ rest) ≡ line ++ ((sep ∷ 10 ∷ 32 ∷ text) ++ rest) =
          append_assoc (line ++ sep ∷ []) (10 ∷ []) ((32 ∷ text) ++ rest) ∙ append_assoc line (sep ∷ []) (10 ∷ ((32 ∷ text) ++ rest)) in
          ap (λ x. text_of (cond x a b)) e ∙ ap (λ (t : List ℕ). ((line ++ sep ∷ []) ++ 10 ∷ []) ++ t) new ∙ put ∙ sym (ap (λ x. line ++ cond x c d) (same ∙ e))
      go false e same long new on =
          let sep = parting modes.comma in
          let text = shown modes v in
          let a : List (List ℕ) = (line ++ sep ∷ []) ∷ continued modes (32 ∷ text) vs in
          let b : List (List ℕ) = continued modes (line ++ (sep ∷ text)) vs in
          let c : List ℕ = (sep ∷ 10 ∷ 32 ∷ text) ++ text_behind modes (length (32 ∷ text)) vs in
          let d : List ℕ = (sep ∷ text) ++ text_behind modes (length line + length (sep ∷ text)) vs in
          ap (λ x. text_of (cond x a b)) e ∙ on ∙ ap (λ n. (line ++ (sep ∷ text)) ++ text_behind modes n vs) long
          ∙ append_assoc line (sep ∷ text) (text_behind modes (length line + length (sep ∷ text)) vs) ∙ sym (ap (λ x. line ++ cond x c d) (same ∙ e))

-- a member with a value behind what was written before it
pub member_behind : (modes : EditModes) (name : List ℕ) (v : Value) (vs : List Value) (old named valued new : List ℕ) → named ≡ old ++ name_shown name → valued ≡ named ++ shown modes v
    → new ≡ valued ++ text_behind modes (length valued - length old) vs → new ≡ old ++ text_of (member_written modes name (v ∷ vs))
member_behind modes name v vs old named valued new is is' is'' =
    let line = name_shown name ++ shown modes v in
    let all : valued ≡ old ++ line = is' ∙ ap (λ (t : List ℕ). t ++ shown modes v) is ∙ append_assoc old (name_shown name) (shown modes v) in
    let long : length valued ≡ length old + length line = ap (λ (t : List ℕ). length t) all ∙ length-append old line in
    let wide : length valued - length old ≡ length line = omega arith in
    is'' ∙ ap (λ n. valued ++ text_behind modes n vs) wide ∙ ap (λ (t : List ℕ). t ++ text_behind modes (length line) vs) all ∙ append_assoc old line (text_behind modes (length line) vs)
    ∙ ap (λ (t : List ℕ). old ++ t) (sym (text_continued modes line vs))

pub member_empty : (modes : EditModes) (name old named new : List ℕ) → named ≡ old ++ name_shown name → new ≡ named ++ 10 ∷ [] → new ≡ old ++ text_of (member_written modes name [])
member_empty modes name old named new is is' =
    is' ∙ ap (λ (t : List ℕ). t ++ 10 ∷ []) is ∙ append_assoc old (name_shown name) (10 ∷ []) ∙ ap (λ (t : List ℕ). old ++ t) (sym (append-nil (name_shown name ++ 10 ∷ [])))

-- one member more
pub members_more : (modes : EditModes) (members : List GroupMember) (i : ℕ) (m : GroupMember) (cells : List Cell) (old before new : List ℕ) → i < length members → m ≡ get_or members i m
    → before ≡ old ++ text_of (members_written modes (take i members) cells) → new ≡ before ++ text_of (member_written modes m.name (values_of m cells))
    → new ≡ old ++ text_of (members_written modes (take (i + 1) members) cells)
members_more modes members i m cells old before new within is is' is'' =
    let write : GroupMember → List (List ℕ) = λ x. member_written modes x.name (values_of x cells) in
    let first = take i members in
    let more : take (i + 1) members ≡ first ++ m ∷ [] = take_more members i m within ∙ ap (λ (x : GroupMember). first ++ x ∷ []) (sym is) in
    let written : members_written modes (first ++ m ∷ []) cells ≡ members_written modes first cells ++ write m = flat_map-append write first (m ∷ []) ∙ ap (λ (ls : List (List ℕ)). flat_map write first ++ ls) (append-nil (write m)) in
    is'' ∙ ap (λ (t : List ℕ). t ++ text_of (write m)) is' ∙ append_assoc old (text_of (members_written modes first cells)) (text_of (write m))
    ∙ ap (λ (t : List ℕ). old ++ t) (sym (text_append (members_written modes first cells) (write m)) ∙ ap text_of (sym written) ∙ ap (λ (ms : List GroupMember). text_of (members_written modes ms cells)) (sym more))

-- a name, letter after letter
pub upper_more : (name : List ℕ) (i : ℕ) (old before new : List ℕ) → i < length name → before ≡ old ++ str_to_ascii_uppercase (take i name) → new ≡ before ++ to_ascii_uppercase (get_or name i 0) ∷ []
    → new ≡ old ++ str_to_ascii_uppercase (take (i + 1) name)
upper_more name i old before new within is is' =
    is' ∙ ap (λ (t : List ℕ). t ++ to_ascii_uppercase (get_or name i 0) ∷ []) is ∙ append_assoc old (str_to_ascii_uppercase (take i name)) (to_ascii_uppercase (get_or name i 0) ∷ [])
    ∙ ap (λ (t : List ℕ). old ++ t) (sym (map-append to_ascii_uppercase (take i name) (get_or name i 0 ∷ [])) ∙ ap str_to_ascii_uppercase (sym (take_more name i 0 within)))

pub on_ok : {T E : Type 0} (r : Result T E) (P Q : Type 0) → (P → Q) → OnOk r P → OnOk r Q
on_ok (Ok x) P Q f h = f h
on_ok (Err e) P Q f h = h
