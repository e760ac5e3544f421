-- What is written with delimiters is read again.
use Rattle.std.proofs.Common.{◌≡◌, ℕ, zero, suc, ◌<◌, Bool, true, false, ◌&&◌, cond, ltb, List, [], ◌∷◌, ◌++◌, length, Option, Some, None, sym, ap, subst, ◌∙◌, refl, arith, append_assoc}
use Rattle.std.proofs.lemmas.List.{map-append}
use Rattle.fj_value.specs.Kind.{IsOfKind}
use Rattle.fj_value.specs.declared.kind.Kind.{Kind}
use Rattle.fj_value.specs.declared.kind.Kind.TheVariants.{Int4, Int8, Logical, Chars}
use Rattle.fj_value.specs.declared.edit.Delim.{Delim}
use Rattle.fj_value.specs.declared.edit.Delim.TheVariants.{Plain, Apostrophe, Quote}
use Rattle.fj_value.specs.declared.edit.EditModes.{EditModes}
use Rattle.fj_value.specs.declared.value.Cell.{Cell}
use Rattle.fj_value.specs.declared.value.Value.{Value}
use Rattle.fj_value.specs.declared.value.Value.TheVariants as v
use Rattle.fj_value.specs.declared.condition.Condition.{Condition}
use Rattle.fj_value.specs.declared.condition.Condition.TheVariants.{Fine}
use Rattle.fj_list.specs.declared.constant.Form.{Form}
use Rattle.fj_list.specs.declared.constant.Form.TheVariants.{Null, Undelimited, Delimited}
use Rattle.fj_list.specs.declared.constant.Read.{Read}
use Rattle.fj_list.specs.declared.constant.Read.TheVariants as read
use Rattle.fj_list.specs.Stream.{Stream, stream, records_behind, skipped}
use Rattle.fj_list.specs.ListText.{mark_of, characters_shown, integer_shown, shown, is_characters, gap, continued}
use Rattle.fj_list.specs.Constant.{read_as}
use Rattle.fj_list.specs.ListInput.{Split, value, Outcome, split, served, served_from, items_read, list_input}
use Rattle.fj_moved.specs.Cells.{kind_at, with_value}
use Rattle.fj_list.specs.ReadAgain.{AreOfKinds, with_values, ValuesAreReadAgain}
use Rattle.fj_list.proofs.StreamLaws.{records_behind-stream}
use Rattle.fj_list.proofs.Plain.{chars, Follows, undelimited_reads, IsDelimiter, apostrophe_is, quotation_mark_is, delimited_reads, letter_plain, magnitude, integer_plain, integer_again, assigned_whole}

-- the marks of DELIM=
delimiter_is : (comma : Bool) (delim : Delim) (mark : ℕ) → mark_of delim ≡ Some mark → IsDelimiter comma mark
delimiter_is comma Plain mark e = absurd (cc)
delimiter_is comma Apostrophe mark e = let is : 39 ≡ mark = cc in subst (IsDelimiter comma) is (apostrophe_is comma)
delimiter_is comma Quote mark e = let is : 34 ≡ mark = cc in subst (IsDelimiter comma) is (quotation_mark_is comma)

-- how a value is split off and converted
abbrev ReadsAs : Bool → Condition → Bool → Kind → Value → Stream → Stream → Type 0
ReadsAs comma ending first k w s rest = (form : Form) × ((cs : List ℕ) × (split comma ending first s ≡ value 1 form cs rest) × (read_as k form cs ≡ read.Defined w))

value_reads : (modes : EditModes) (mark : ℕ) (ending : Condition) (first : Bool) (k : Kind) (w : Value) (s rest : Stream) → mark_of modes.delim ≡ Some mark → IsOfKind k w → Follows rest
    → skipped s ≡ skipped (chars (shown modes w) ++ rest) → ReadsAs modes.comma ending first k w s rest
value_reads modes mark ending first Int4 (v.Int z) s rest is kind h e =
    let m = magnitude 32 z (omega arith) kind in
    let p = integer_plain modes.comma modes.plus z m.1 in
    (Undelimited, (integer_shown modes.plus z, undelimited_reads modes.comma first ending (integer_shown modes.plus z) s rest p.1 p.0 h e, integer_again 32 modes.plus z (omega arith) kind))
value_reads modes mark ending first Int8 (v.Int z) s rest is kind h e =
    let m = magnitude 64 z (omega arith) kind in
    let p = integer_plain modes.comma modes.plus z m.1 in
    (Undelimited, (integer_shown modes.plus z, undelimited_reads modes.comma first ending (integer_shown modes.plus z) s rest p.1 p.0 h e, integer_again 64 modes.plus z (omega arith) kind))
value_reads modes mark ending first Logical (v.Log true) s rest is kind h e =
    (Undelimited, (84 ∷ [], undelimited_reads modes.comma first ending (84 ∷ []) s rest (omega arith) (letter_plain modes.comma true, tt) h e, refl))
value_reads modes mark ending first Logical (v.Log false) s rest is kind h e =
    (Undelimited, (70 ∷ [], undelimited_reads modes.comma first ending (70 ∷ []) s rest (omega arith) (letter_plain modes.comma false, tt) h e, refl))
value_reads modes mark ending first (Chars n) (v.Chars text) s rest is kind h e = (
  Delimited,
  (
    text,
    delimited_reads modes.comma first ending mark text s rest (delimiter_is modes.comma modes.delim mark is) h (e ∙ ap (λ (o : Option ℕ). skipped (chars (characters_shown o text) ++ rest)) is),
    ap (λ cs. read.Defined (v.Chars cs)) (assigned_whole n text kind),
  ),
)
value_reads modes mark ending first _ _ s rest is kind h e = absurd kind

-- what is ahead behind a value: the values to come, each behind a blank or the end of a record
abbrev Tail : EditModes → List Value → Stream → Type 0
Tail modes [] s = s ≡ None ∷ []
Tail modes (w ∷ ws) s = Follows s × ((rest : Stream) × (skipped s ≡ skipped (chars (shown modes w) ++ rest)) × Tail modes ws rest)

tail_follows : (modes : EditModes) (ws : List Value) (s : Stream) → Tail modes ws s → Follows s
tail_follows modes [] s h = subst Follows (sym h) tt
tail_follows modes (w ∷ ws) s h = h.0

kind_kept : (cells : List Cell) (at k : ℕ) (w : Value) → kind_at (with_value cells at w) k ≡ kind_at cells k
kind_kept [] at k w = refl
kind_kept (c ∷ cells) zero zero w = refl
kind_kept (c ∷ cells) zero (suc k) w = refl
kind_kept (c ∷ cells) (suc at) zero w = refl
kind_kept (c ∷ cells) (suc at) (suc k) w = kind_kept cells at k w

kinds_kept : (cells : List Cell) (at : ℕ) (w : Value) (order : List ℕ) (ws : List Value) → AreOfKinds cells order ws → AreOfKinds (with_value cells at w) order ws
kinds_kept cells at w [] [] h = tt
kinds_kept cells at w [] (x ∷ ws) h = h
kinds_kept cells at w (k ∷ order) [] h = h
kinds_kept cells at w (k ∷ order) (x ∷ ws) h = (subst (λ (kind : Kind). IsOfKind kind x) (sym (kind_kept cells at k w)) h.0, kinds_kept cells at w order ws h.1)

items_again : (modes : EditModes) (mark : ℕ) (ending : Condition) (ws : List Value) (order : List ℕ) (cells : List Cell) (first : Bool) (form : Form) (cs : List ℕ) (s : Stream) → mark_of modes.delim ≡ Some mark → AreOfKinds cells order ws → Tail modes ws s
    → items_read modes.comma ending order cells first 0 form cs s ≡ record { cells = with_values cells order ws; condition = Fine; left = [] }
items_again modes mark ending [] [] cells first form cs s is kinds tail =
    ap (λ (ls : List (List ℕ)). record { cells = cells; condition = Fine; left = ls }) (ap records_behind tail ∙ records_behind-stream [] [])
items_again modes mark ending [] (at ∷ order) cells first form cs s is kinds tail = absurd kinds
items_again modes mark ending (w ∷ ws) [] cells first form cs s is kinds tail = absurd kinds
items_again modes mark ending (w ∷ ws) (at ∷ order) cells first form cs s is kinds tail =
    let rest = tail.1.0 in
    let reads = value_reads modes mark ending first (kind_at cells at) w s rest is kinds.0 (tail_follows modes ws rest tail.1.2) tail.1.1 in
    let next : ℕ → Form → List ℕ → Stream → List Cell → Outcome = λ count' form' cs' s' cells'. items_read modes.comma ending order cells' false count' form' cs' s' in
    ap (λ (sp : Split). served_from sp cells at next) reads.1.1
    ∙ ap (λ (r : Read). served r cells at rest (next 0 reads.0 reads.1.0 rest)) reads.1.2
    ∙ items_again modes mark ending ws order (with_value cells at w) false reads.0 reads.1.0 rest is (kinds_kept cells at w order ws kinds.1) tail.1.2

-- one blank stands between values
gap_is : (modes : EditModes) (mark : ℕ) (a b : Bool) → mark_of modes.delim ≡ Some mark → gap modes a b ≡ 32 ∷ []
gap_is modes mark a b is = ap (λ (o : Option ℕ). cond {A = List ℕ} ((a && b) && Rattle.std.specs.Prelude.is_none o) [] (32 ∷ [])) is ∙ go (a && b) where
  go : (x : Bool) → cond {A = List ℕ} (x && false) [] (32 ∷ []) ≡ 32 ∷ []
  go true = refl
  go false = refl

abbrev Goes : EditModes → List Value → List ℕ → List (List ℕ) → Type 0
Goes modes ws line lines = (t : Stream) × (stream lines ≡ chars line ++ t) × Tail modes ws t

goes_if : (modes : EditModes) (ws : List Value) (line : List ℕ) (b : Bool) (xs ys : List (List ℕ)) → Goes modes ws line xs → Goes modes ws line ys → Goes modes ws line (cond b xs ys)
goes_if modes ws line true xs ys h k = h
goes_if modes ws line false xs ys h k = k

continued_goes : (modes : EditModes) (mark : ℕ) (line : List ℕ) (last : Value) (ws : List Value) → mark_of modes.delim ≡ Some mark → Goes modes ws line (continued modes line last ws)
continued_goes modes mark line last [] is = (None ∷ [], refl, refl)
continued_goes modes mark line last (w ∷ ws) is =
    let before = gap modes (is_characters last) (is_characters w) in
    let text = shown modes w in
    let longer = line ++ (before ++ text) in
    let new = continued_goes modes mark (32 ∷ text) w ws is in
    let on = continued_goes modes mark longer w ws is in
    let blank = gap_is modes mark (is_characters last) (is_characters w) is in
    let split_up : chars longer ≡ chars line ++ (Some 32 ∷ chars text) =
    map-append (λ (c : ℕ). Some c) line (before ++ text) ∙ ap (λ (b : List ℕ). chars line ++ chars (b ++ text)) blank in
    goes_if modes (w ∷ ws) line (ltb 80 (length longer)) (line ∷ continued modes (32 ∷ text) w ws) (continued modes longer w ws)
    (None ∷ Some 32 ∷ (chars text ++ new.0), ap (λ (u : Stream). chars line ++ None ∷ u) new.1, (tt, (new.0, refl, new.2)))
    (Some 32 ∷ (chars text ++ on.0), on.1 ∙ ap (λ (u : Stream). u ++ on.0) split_up ∙ append_assoc (chars line) (Some 32 ∷ chars text) on.0, (refl, (on.0, refl, on.2)))

-- there is a record
some_if : (b : Bool) (xs ys : List (List ℕ)) → 0 < length xs → 0 < length ys → 0 < length (cond b xs ys)
some_if true xs ys h k = h
some_if false xs ys h k = k

continued_some : (modes : EditModes) (line : List ℕ) (last : Value) (ws : List Value) → 0 < length (continued modes line last ws)
continued_some modes line last [] = omega arith
continued_some modes line last (w ∷ ws) =
    let longer = line ++ (gap modes (is_characters last) (is_characters w) ++ shown modes w) in
    some_if (ltb 80 (length longer)) (line ∷ continued modes (32 ∷ shown modes w) w ws) (continued modes longer w ws) (omega arith) (continued_some modes longer w ws)

input_some : (comma : Bool) (lines : List (List ℕ)) (ending : Condition) (cells : List Cell) (order : List ℕ) → 0 < length lines → list_input comma lines ending cells order ≡ items_read comma ending order cells true 0 Null [] (stream lines)
input_some comma [] ending cells order h = absurd (omega arith)
input_some comma (l ∷ ls) ending cells order h = refl

pub values_again : ValuesAreReadAgain
values_again modes [] ending cells [] mark is kinds = ap (λ (ls : List (List ℕ)). record { cells = cells; condition = Fine; left = ls }) (records_behind-stream (32 ∷ []) [])
values_again modes [] ending cells (at ∷ order) mark is kinds = absurd kinds
values_again modes (w ∷ ws) ending cells order mark is kinds =
    let lines = continued modes (32 ∷ shown modes w) w ws in
    let goes = continued_goes modes mark (32 ∷ shown modes w) w ws is in
    let follows : Follows (stream lines) = subst Follows (sym goes.1) refl in
    input_some modes.comma lines ending cells order (continued_some modes (32 ∷ shown modes w) w ws)
    ∙ items_again modes mark ending (w ∷ ws) order cells true Null [] (stream lines) is kinds (follows, (goes.0, ap skipped goes.1, goes.2))
