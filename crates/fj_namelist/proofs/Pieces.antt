-- Blanks, words and constants of the grammar, taken apart into tokens.
use Rattle.std.proofs.Common.{◌≡◌, ◌≢◌, ℕ, ◌⊎◌, Bool, true, false, ◌&&◌, cond, eqb, List, [], ◌∷◌, ◌++◌, Option, Some, None, sym, ap, subst, ◌∙◌, refl, inl, inr, arith, append_assoc, append-nil}
use Rattle.std.proofs.lemmas.Bool.{cases_Bool}
use Rattle.std.proofs.lemmas.Bool.Decides.{nat_tests}
use Rattle.fj_list.specs.Stream.{Stream}
use Rattle.fj_list.specs.ListInput.{is_separator, ends_constant, is_mark}
use Rattle.fj_list.specs.Grammar as grammar
use Rattle.fj_list.specs.Grammar.{Given, separator_of, IsBlank, IsOrdinary, Ends, Characters, IsMark, NoMark, Delimiting, Constant, Counts, IsNotCounted, IsRepeat, Item}
use Rattle.fj_list.proofs.GrammarLaws.{ends_true, mark_true}
use Rattle.fj_namelist.specs.declared.token.Token.{Token}
use Rattle.fj_namelist.specs.declared.token.Token.TheVariants as token
use Rattle.fj_namelist.specs.declared.token.Delimited.{Delimited}
use Rattle.fj_namelist.specs.declared.token.State.TheVariants.{Between, Comment, InWord, Inside, Behind, Done}
use Rattle.fj_namelist.specs.Names.{ends_at_equals, repeat_in, behind_star}
use Rattle.fj_namelist.specs.Tokens.{Lexed, lexed, at_end, marked, stepped, at_record_end, with_tokens, is_done}
use Rattle.fj_namelist.specs.Grammar as text
use Rattle.fj_list.specs.Cuts.{characters}
use Rattle.fj_namelist.specs.Grammar.{Gap, Lacks, BeginsWithNo, Follows}
use Rattle.fj_namelist.proofs.Ahead.{step, Leads, leads_none, leads_on, leads_step, leads_behind}

-- blanks, record ends and comments
pub end_step : (comma fresh : Bool) (x : Option ℕ) → IsBlank x → step comma (Between fresh) x ≡ lexed [] (Between true)
end_step comma fresh None is = refl
end_step true fresh (Some c) (inl is) = ap (λ d. step true (Between fresh) (Some d)) is
end_step true fresh (Some c) (inr is) = ap (λ d. step true (Between fresh) (Some d)) is
end_step false fresh (Some c) (inl is) = ap (λ d. step false (Between fresh) (Some d)) is
end_step false fresh (Some c) (inr is) = ap (λ d. step false (Between fresh) (Some d)) is

comment_step : (comma : Bool) (c : ℕ) → c ≡ 33 → step comma (Between true) (Some c) ≡ lexed [] Comment
comment_step true c is = ap (λ d. step true (Between true) (Some d)) is
comment_step false c is = ap (λ d. step false (Between true) (Some d)) is

comment_leads : (comma : Bool) (s t : Stream) → text.Comment s t → Leads comma Comment s [] (Between true) t
comment_leads comma _ t text.ends = leads_step comma Comment (Between true) None t [] refl refl
comment_leads comma _ t (text.goes_on {s} c more) = leads_on comma Comment Comment (Between true) (Some c ∷ s) s t [] [] (leads_step comma Comment Comment (Some c) s [] refl refl) (comment_leads comma s t more)

pub gap_leads : (comma fresh : Bool) (s t : Stream) → Gap fresh s t → (fresh' : Bool) × Leads comma (Between fresh) s [] (Between fresh') t
gap_leads comma fresh s _ text.nothing = (fresh, leads_none comma (Between fresh) s)
gap_leads comma fresh _ t (text.blank {s} x is more) =
    let on = gap_leads comma true s t more in
    (on.0, leads_on comma (Between fresh) (Between true) (Between on.0) (x ∷ s) s t [] [] (leads_step comma (Between fresh) (Between true) x s [] refl (end_step comma fresh x is)) on.1)
gap_leads comma _ _ u (text.comment {s} {t} c is comment more) =
    let on = gap_leads comma true t u more in (
      on.0,
      leads_on comma (Between true) (Between true) (Between on.0) (Some c ∷ s) t u [] []
          (leads_on comma (Between true) Comment (Between true) (Some c ∷ s) s t [] [] (leads_step comma (Between true) Comment (Some c) s [] refl (comment_step comma c is)) (comment_leads comma s t comment)) on.1,
    )

-- what ends a token
at_end_front : (comma : Bool) (t : Token) (c : ℕ) → at_end comma (t ∷ []) c ≡ with_tokens (t ∷ []) (at_end comma [] c)
at_end_front comma t c = go (eqb c 47) (is_separator comma c) where
  go : (a b : Bool) → cond a (lexed (t ∷ token.Slash ∷ []) Done) (cond b (lexed (t ∷ token.Separator ∷ []) (Between true)) (lexed (t ∷ []) (Between true)))
      ≡ with_tokens (t ∷ []) (cond a (lexed (token.Slash ∷ []) Done) (cond b (lexed (token.Separator ∷ []) (Between true)) (lexed [] (Between true))))
  go true b = refl
  go false true = refl
  go false false = refl

between_end : (comma fresh : Bool) (c : ℕ) → ends_constant comma c ≡ true → stepped comma (Between fresh) c ≡ at_end comma [] c
between_end comma fresh c e = ap (λ b. cond b (at_end comma [] c) (Rattle.fj_namelist.specs.Tokens.begun fresh c)) e

word_end : (comma fresh : Bool) (w : List ℕ) (x : Option ℕ) (s : Stream) → Ends comma (x ∷ s) → step comma (InWord w) x ≡ with_tokens (token.Word w ∷ []) (step comma (Between fresh) x)
word_end comma fresh w None s h = refl
word_end comma fresh w (Some c) s h =
    let e = ends_true comma (Some c ∷ s) h in
    ap (λ b. cond b (at_end comma (token.Word w ∷ []) c) (Rattle.fj_namelist.specs.Tokens.continued w c)) e
    ∙ at_end_front comma (token.Word w) c ∙ ap (with_tokens (token.Word w ∷ [])) (sym (between_end comma fresh c e))

pub word_ends : (comma fresh : Bool) (w : List ℕ) (s : Stream) → Ends comma s → Follows s → Leads comma (InWord w) s (token.Word w ∷ []) (Between fresh) s
word_ends comma fresh w [] h some = absurd some
word_ends comma fresh w (x ∷ s) h some = leads_behind comma fresh (InWord w) x s (token.Word w) refl (word_end comma fresh w x s h)

-- no mark ends a constant
no_mark : (comma : Bool) (c mark : ℕ) → IsMark mark → ends_constant comma c ≡ true → eqb c mark ≡ false
no_mark true c mark (inl e) h = grind (arith, nat_tests)
no_mark true c mark (inr e) h = grind (arith, nat_tests)
no_mark false c mark (inl e) h = grind (arith, nat_tests)
no_mark false c mark (inr e) h = grind (arith, nat_tests)

constant_end : (comma fresh : Bool) (d : Delimited) (x : Option ℕ) (s : Stream) → IsMark d.mark → Ends comma (x ∷ s) → step comma (Behind d) x ≡ with_tokens (token.Constant d.count d.characters ∷ []) (step comma (Between fresh) x)
constant_end comma fresh d None s is h = refl
constant_end comma fresh d (Some c) s is h =
    let e = ends_true comma (Some c ∷ s) h in
    let t = token.Constant d.count d.characters in
    let wrong = lexed (token.Wrong ∷ []) Done in
    let again = lexed [] (Inside (Rattle.fj_namelist.specs.Tokens.with_character d c)) in
    ap (λ b. cond b again (cond (ends_constant comma c) (at_end comma (t ∷ []) c) wrong)) (no_mark comma c d.mark is e)
    ∙ ap (λ b. cond b (at_end comma (t ∷ []) c) wrong) e
    ∙ at_end_front comma t c ∙ ap (with_tokens (t ∷ [])) (sym (between_end comma fresh c e))

constant_ends : (comma fresh : Bool) (d : Delimited) (s : Stream) → IsMark d.mark → Ends comma s → Follows s → Leads comma (Behind d) s (token.Constant d.count d.characters ∷ []) (Between fresh) s
constant_ends comma fresh d [] is h some = absurd some
constant_ends comma fresh d (x ∷ s) is h some = leads_behind comma fresh (Behind d) x s (token.Constant d.count d.characters) refl (constant_end comma fresh d x s is h)

-- the characters of a word: each one makes it longer
abbrev pub Stays : Bool → List ℕ → List ℕ → Type 0
Stays comma w [] = Unit {0}
Stays comma w (c ∷ cs) = (stepped comma (InWord w) c ≡ lexed [] (InWord (w ++ c ∷ []))) × Stays comma (w ++ c ∷ []) cs

pub word_leads : (comma : Bool) (w cs : List ℕ) (s : Stream) → Stays comma w cs → Leads comma (InWord w) (characters cs ++ s) [] (InWord (w ++ cs)) s
word_leads comma w [] s stays = subst (λ (x : List ℕ). Leads comma (InWord w) s [] (InWord x) s) (sym (append-nil w)) (leads_none comma (InWord w) s)
word_leads comma w (c ∷ cs) s stays =
    leads_on comma (InWord w) (InWord (w ++ c ∷ [])) (InWord (w ++ (c ∷ cs))) (Some c ∷ (characters cs ++ s)) (characters cs ++ s) s [] []
    (leads_step comma (InWord w) (InWord (w ++ c ∷ [])) (Some c) (characters cs ++ s) [] refl stays.0)
    (subst (λ (x : List ℕ). Leads comma (InWord (w ++ c ∷ [])) (characters cs ++ s) [] (InWord x) s) (append_assoc w (c ∷ []) cs) (word_leads comma (w ++ c ∷ []) cs s stays.1))

pub stays_append : (comma : Bool) (w front others : List ℕ) → Stays comma w front → Stays comma (w ++ front) others → Stays comma w (front ++ others)
stays_append comma w [] others one two = subst (λ (x : List ℕ). Stays comma x others) (append-nil w) two
stays_append comma w (c ∷ front) others one two = (one.0, stays_append comma (w ++ c ∷ []) front others one.1 (subst (λ (x : List ℕ). Stays comma x others) (sym (append_assoc w (c ∷ []) front)) two))

-- a character that neither ends a word nor is `=`, and is no mark behind a repeat count alone
pub record GoesOn (comma : Bool) (c : ℕ) : Type 0 where
  pub goes : ends_constant comma c ≡ false
  pub equals : eqb c 61 ≡ false

abbrev pub IsLonger : List ℕ → ℕ → Type 0
IsLonger w c = (is_mark c ≡ false) ⊎ (marked w c (repeat_in w) (behind_star w) ≡ lexed [] (InWord (w ++ c ∷ [])))

pub on_step : (comma : Bool) (w : List ℕ) (c : ℕ) → GoesOn comma c → IsLonger w c → stepped comma (InWord w) c ≡ lexed [] (InWord (w ++ c ∷ []))
on_step comma w c h longer =
    let by : Bool → Bool → Bool → Lexed = λ a b d. cond a (at_end comma (token.Word w ∷ []) c) (cond (b && ends_at_equals w) (lexed (token.Word w ∷ token.Equals ∷ []) (Between false))
    (cond d (marked w c (repeat_in w) (behind_star w)) (lexed [] (InWord (w ++ c ∷ []))))) in
    ap (λ a. by a (eqb c 61) (is_mark c)) h.goes ∙ ap (λ b. by false b (is_mark c)) h.equals ∙ last longer where
      last : IsLonger w c → cond (is_mark c) (marked w c (repeat_in w) (behind_star w)) (lexed [] (InWord (w ++ c ∷ []))) ≡ lexed [] (InWord (w ++ c ∷ []))
      last (inl e) = ap (λ d. cond d (marked w c (repeat_in w) (behind_star w)) (lexed [] (InWord (w ++ c ∷ [])))) e
      last (inr e) = elim (cases_Bool (is_mark c)) [
        | inl m ↦ ap (λ d. cond d (marked w c (repeat_in w) (behind_star w)) (lexed [] (InWord (w ++ c ∷ [])))) m ∙ e
        | inr m ↦ ap (λ d. cond d (marked w c (repeat_in w) (behind_star w)) (lexed [] (InWord (w ++ c ∷ [])))) m
      ]

pub first_step : (comma fresh : Bool) (c : ℕ) → GoesOn comma c → is_mark c ≡ false → eqb c 33 ≡ false → stepped comma (Between fresh) c ≡ lexed [] (InWord (c ∷ []))
first_step comma fresh c h mark comment =
    let by : Bool → Bool → Bool → Bool → Lexed = λ a b d e. cond a (at_end comma [] c) (cond b (lexed (token.Equals ∷ []) (Between false)) (cond (fresh && d) (lexed [] Comment)
    (cond e (lexed [] (Inside (record { count = 1; mark = c; characters = [] }))) (lexed [] (InWord (c ∷ [])))))) in
    ap (λ a. by a (eqb c 61) (eqb c 33) (is_mark c)) h.goes ∙ ap (λ b. by false b (eqb c 33) (is_mark c)) h.equals ∙ ap (λ d. by false false d (is_mark c)) comment ∙ and_false fresh (is_mark c) ∙ ap (λ e. cond e (lexed [] (Inside (record { count = 1; mark = c; characters = [] }))) (lexed [] (InWord (c ∷ [])))) mark where
      and_false : (f e : Bool) → cond (f && false) (lexed [] Comment) (cond e (lexed [] (Inside (record { count = 1; mark = c; characters = [] }))) (lexed [] (InWord (c ∷ []))))
          ≡ cond e (lexed [] (Inside (record { count = 1; mark = c; characters = [] }))) (lexed [] (InWord (c ∷ [])))
      and_false true e = refl
      and_false false e = refl

-- a whole word
pub begun_word : (comma fresh : Bool) (c : ℕ) (cs : List ℕ) (s : Stream) → GoesOn comma c → is_mark c ≡ false → eqb c 33 ≡ false → Stays comma (c ∷ []) cs
    → Leads comma (Between fresh) (characters (c ∷ cs) ++ s) [] (InWord (c ∷ cs)) s
begun_word comma fresh c cs s goes mark comment stays =
    leads_on comma (Between fresh) (InWord (c ∷ [])) (InWord (c ∷ cs)) (Some c ∷ (characters cs ++ s)) (characters cs ++ s) s [] []
    (leads_step comma (Between fresh) (InWord (c ∷ [])) (Some c) (characters cs ++ s) [] refl (first_step comma fresh c goes mark comment)) (word_leads comma (c ∷ []) cs s stays)

-- delimited constants
mark_step : (comma : Bool) (d : Delimited) (c : ℕ) → c ≡ d.mark → stepped comma (Inside d) c ≡ lexed [] (Behind d)
mark_step comma d c is = ap (λ b. lexed [] (cond b (Behind d) (Inside (Rattle.fj_namelist.specs.Tokens.with_character d c)))) (mark_true c d.mark is)

other_false : (c mark : ℕ) → c ≢ mark → eqb c mark ≡ false
other_false c mark h = grind (arith, nat_tests)

other_step : (comma : Bool) (d : Delimited) (c : ℕ) → c ≢ d.mark → stepped comma (Inside d) c ≡ lexed [] (Inside (Rattle.fj_namelist.specs.Tokens.with_character d c))
other_step comma d c other = ap (λ b. lexed [] (cond b (Behind d) (Inside (Rattle.fj_namelist.specs.Tokens.with_character d c)))) (other_false c d.mark other)

again_step : (comma : Bool) (d : Delimited) (c : ℕ) → c ≡ d.mark → stepped comma (Behind d) c ≡ lexed [] (Inside (Rattle.fj_namelist.specs.Tokens.with_character d c))
again_step comma d c is =
    ap (λ b. cond b (lexed [] (Inside (Rattle.fj_namelist.specs.Tokens.with_character d c))) (cond (ends_constant comma c) (at_end comma (token.Constant d.count d.characters ∷ []) c) (lexed (token.Wrong ∷ []) Done))) (mark_true c d.mark is)

abbrev pub so_far : ℕ → ℕ → List ℕ → Delimited
so_far n mark cs = record { count = n; mark = mark; characters = cs }

delimiting_leads : (comma : Bool) (n mark : ℕ) (before cs : List ℕ) (s : Stream) (o : Option Stream) (t : Stream) → o ≡ Some t → Delimiting mark cs s o → Leads comma (Inside (so_far n mark before)) s [] (Behind (so_far n mark (before ++ cs))) t
delimiting_leads comma n mark before _ _ _ t e grammar.unended = absurd (cc)
delimiting_leads comma n mark before _ _ _ t e (grammar.closing {s} c is none) =
    let same : s ≡ t = cc in
    subst (λ (u : Stream). Leads comma (Inside (so_far n mark before)) (Some c ∷ s) [] (Behind (so_far n mark (before ++ []))) u) same
    (subst (λ (x : List ℕ). Leads comma (Inside (so_far n mark before)) (Some c ∷ s) [] (Behind (so_far n mark x)) s) (sym (append-nil before))
    (leads_step comma (Inside (so_far n mark before)) (Behind (so_far n mark before)) (Some c) s [] refl (mark_step comma (so_far n mark before) c is)))
delimiting_leads comma n mark before _ _ o t e (grammar.doubled {cs} {s} c d is is' more) =
    let longer = before ++ d ∷ [] in
    let on = delimiting_leads comma n mark longer cs s o t e more in
    let whole : longer ++ cs ≡ before ++ (mark ∷ cs) = append_assoc before (d ∷ []) cs ∙ ap (λ x. before ++ (x ∷ cs)) is' in
    leads_on comma (Inside (so_far n mark before)) (Behind (so_far n mark before)) (Behind (so_far n mark (before ++ (mark ∷ cs)))) (Some c ∷ Some d ∷ s) (Some d ∷ s) t [] []
    (leads_step comma (Inside (so_far n mark before)) (Behind (so_far n mark before)) (Some c) (Some d ∷ s) [] refl (mark_step comma (so_far n mark before) c is))
    (leads_on comma (Behind (so_far n mark before)) (Inside (so_far n mark longer)) (Behind (so_far n mark (before ++ (mark ∷ cs)))) (Some d ∷ s) s t [] []
    (leads_step comma (Behind (so_far n mark before)) (Inside (so_far n mark longer)) (Some d) s [] refl (again_step comma (so_far n mark before) d is'))
    (subst (λ (x : List ℕ). Leads comma (Inside (so_far n mark longer)) s [] (Behind (so_far n mark x)) t) whole on))
delimiting_leads comma n mark before _ _ o t e (grammar.inside {cs} {s} c other more) =
    let longer = before ++ c ∷ [] in
    let on = delimiting_leads comma n mark longer cs s o t e more in
    leads_on comma (Inside (so_far n mark before)) (Inside (so_far n mark longer)) (Behind (so_far n mark (before ++ (c ∷ cs)))) (Some c ∷ s) s t [] []
    (leads_step comma (Inside (so_far n mark before)) (Inside (so_far n mark longer)) (Some c) s [] refl (other_step comma (so_far n mark before) c other))
    (subst (λ (x : List ℕ). Leads comma (Inside (so_far n mark longer)) s [] (Behind (so_far n mark x)) t) (append_assoc before (c ∷ []) cs) on)
delimiting_leads comma n mark before cs _ o t e (grammar.record_end {s} more) =
    leads_on comma (Inside (so_far n mark before)) (Inside (so_far n mark before)) (Behind (so_far n mark (before ++ cs))) (None ∷ s) s t [] []
    (leads_step comma (Inside (so_far n mark before)) (Inside (so_far n mark before)) None s [] refl refl) (delimiting_leads comma n mark before cs s o t e more)

-- behind its opening mark, with what ends it
pub constant_leads : (comma fresh : Bool) (n mark : ℕ) (cs : List ℕ) (s t : Stream) → IsMark mark → Delimiting mark cs s (Some t) → Ends comma t → Follows t
    → Leads comma (Inside (so_far n mark [])) s (token.Constant n cs ∷ []) (Between fresh) t
constant_leads comma fresh n mark cs s t is h ends some =
    leads_on comma (Inside (so_far n mark [])) (Behind (so_far n mark cs)) (Between fresh) s t t [] (token.Constant n cs ∷ [])
    (delimiting_leads comma n mark [] cs s (Some t) t refl h) (constant_ends comma fresh (so_far n mark cs) t is ends some)

-- the mark itself
mark_goes : (comma fresh : Bool) (mark : ℕ) → IsMark mark → stepped comma (Between fresh) mark ≡ lexed [] (Inside (so_far 1 mark []))
mark_goes true true mark (inl e) = ap (λ m. stepped true (Between true) m) e ∙ ap (λ m. lexed [] (Inside (so_far 1 m []))) (sym e)
mark_goes true true mark (inr e) = ap (λ m. stepped true (Between true) m) e ∙ ap (λ m. lexed [] (Inside (so_far 1 m []))) (sym e)
mark_goes true false mark (inl e) = ap (λ m. stepped true (Between false) m) e ∙ ap (λ m. lexed [] (Inside (so_far 1 m []))) (sym e)
mark_goes true false mark (inr e) = ap (λ m. stepped true (Between false) m) e ∙ ap (λ m. lexed [] (Inside (so_far 1 m []))) (sym e)
mark_goes false true mark (inl e) = ap (λ m. stepped false (Between true) m) e ∙ ap (λ m. lexed [] (Inside (so_far 1 m []))) (sym e)
mark_goes false true mark (inr e) = ap (λ m. stepped false (Between true) m) e ∙ ap (λ m. lexed [] (Inside (so_far 1 m []))) (sym e)
mark_goes false false mark (inl e) = ap (λ m. stepped false (Between false) m) e ∙ ap (λ m. lexed [] (Inside (so_far 1 m []))) (sym e)
mark_goes false false mark (inr e) = ap (λ m. stepped false (Between false) m) e ∙ ap (λ m. lexed [] (Inside (so_far 1 m []))) (sym e)

pub opened_constant : (comma fresh fresh' : Bool) (mark : ℕ) (cs : List ℕ) (s t : Stream) → IsMark mark → Delimiting mark cs s (Some t) → Ends comma t → Follows t
    → Leads comma (Between fresh) (Some mark ∷ s) (token.Constant 1 cs ∷ []) (Between fresh') t
opened_constant comma fresh fresh' mark cs s t is h ends some =
    leads_on comma (Between fresh) (Inside (so_far 1 mark [])) (Between fresh') (Some mark ∷ s) s t [] (token.Constant 1 cs ∷ [])
    (leads_step comma (Between fresh) (Inside (so_far 1 mark [])) (Some mark) s [] refl (mark_goes comma fresh mark is)) (constant_leads comma fresh' 1 mark cs s t is h ends some)
