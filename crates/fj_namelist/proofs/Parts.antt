-- Values and names of the grammar, taken apart into tokens.
use Rattle.std.proofs.Common.{◌≡◌, ◌≢◌, ℕ, suc, ◌+◌, ◌^◌, Bool, true, false, ◌&&◌, not, cond, eqb, ltb, List, [], ◌∷◌, ◌++◌, length, take, drop, Option, Some, None, sym, ap, subst, ◌∙◌, refl, inl, inr, arith, append_assoc}
use Rattle.std.proofs.lemmas.Bool.{cases_Bool, false≢true}
use Rattle.std.proofs.lemmas.Bool.Decides.{nat_tests}
use Rattle.std.proofs.Math.Seq.{take-append_seam, drop-append_seam}
use Rattle.std.proofs.lemmas.List.{map-append, take-append-drop}
use Rattle.std.proofs.lemmas.Option.{none-some}
use Rattle.std.specs.List.{list_all, position_or_len, prefix_len}
use Rattle.std.specs.Char.{is_digit, is_ascii_digit}
use Rattle.std.specs.Option.{option_map}
use Rattle.fj_value.specs.Digits.{number_in}
use Rattle.fj_value.specs.declared.value.Cell.{Cell}
use Rattle.fj_list.specs.declared.constant.Form.{Form}
use Rattle.fj_list.specs.declared.constant.Form.TheVariants.{Null, Undelimited, Delimited}
use Rattle.fj_list.specs.Stream.{Stream}
use Rattle.fj_list.specs.ListInput.{is_mark, is_no_digit}
use Rattle.fj_list.specs.Grammar as grammar
use Rattle.fj_list.specs.Grammar.{Given, given, separator_of, IsOrdinary, Ends, Characters, IsMark, Delimiting, Constant, Counts, IsNotCounted, IsRepeat, Item}
use Rattle.fj_list.proofs.Numbers.{no_digit_is, number_in-nil}
use Rattle.fj_list.proofs.GrammarLaws.{all_digits, digit_first, is_digit_ascii, star_is, opens_true}
use Rattle.fj_namelist.specs.declared.token.Token.{Token}
use Rattle.fj_namelist.specs.declared.token.Token.TheVariants as token
use Rattle.fj_namelist.specs.declared.token.State.TheVariants.{Between, InWord, Inside}
use Rattle.fj_namelist.specs.declared.place.Elements.{Elements}
use Rattle.fj_namelist.specs.declared.place.GroupPlace.{GroupPlace}
use Rattle.fj_namelist.specs.declared.place.GroupPlace.TheVariants as place
use Rattle.fj_namelist.specs.Names.{starred, ranged, repeat_in, behind_star}
use Rattle.fj_namelist.specs.Tokens.{lexed, marked, stepped}
use Rattle.fj_namelist.specs.GroupInput.{Result, filled, word_given, value_taken}
use Rattle.fj_list.specs.Cuts.{characters}
use Rattle.fj_namelist.specs.Grammar.{Lacks, IsAmongValues, Follows}
use Rattle.fj_namelist.proofs.Words.{one_more}
use Rattle.fj_namelist.proofs.Ahead.{Leads, leads_on, leads_step}
use Rattle.fj_namelist.proofs.Pieces.{word_ends, constant_leads, Stays, stays_append, GoesOn, on_step, begun_word, so_far, opened_constant}

-- characters in front of others
pub characters_append : (xs ys : List ℕ) (s : Stream) → characters (xs ++ ys) ++ s ≡ characters xs ++ (characters ys ++ s)
characters_append xs ys s = ap (λ (t : Stream). t ++ s) (map-append (λ (c : ℕ). Some c) xs ys) ∙ append_assoc (characters xs) (characters ys) s

-- a repeat count that a word begins with
count_width : (ds cs : List ℕ) → list_all (λ x. is_digit x 10) ds ≡ true → position_or_len is_no_digit (ds ++ 42 ∷ cs) ≡ length ds
count_width [] cs e = refl
count_width (d ∷ ds) cs e =
    let p = digit_first (is_digit d 10) (list_all (λ x. is_digit x 10) ds) e in
    let n = prefix_len (λ x. not (is_no_digit x)) (ds ++ 42 ∷ cs) in
    ap (λ b. cond (not b) (1 + n) 0) (is_digit_ascii d p.0) ∙ one_more n ∙ ap suc (count_width ds cs p.1)

repeat_counted : (ds cs : List ℕ) (r : ℕ) → number_in 10 ds ≡ Some r → repeat_in (ds ++ 42 ∷ cs) ≡ Some (ranged r)
repeat_counted ds cs r e =
    let w = ds ++ 42 ∷ cs in
    ap (λ k. starred (take k w) (drop k w)) (count_width ds cs (all_digits ds r e))
    ∙ ap (λ (xs : List ℕ). starred xs (drop (length ds) w)) (take-append_seam ds (42 ∷ cs))
    ∙ ap (λ (ys : List ℕ). starred ds ys) (drop-append_seam ds (42 ∷ cs))
    ∙ ap (λ (o : Option ℕ). option_map ranged o) e

drop_past : (ds cs : List ℕ) → drop (length ds + 1) (ds ++ 42 ∷ cs) ≡ cs
drop_past [] cs = refl
drop_past (d ∷ ds) cs =
    let e : length (d ∷ ds) + 1 ≡ suc (length ds + 1) = omega arith in
    ap (λ k. drop k (d ∷ (ds ++ 42 ∷ cs))) e ∙ drop_past ds cs

behind_counted : (ds cs : List ℕ) → list_all (λ x. is_digit x 10) ds ≡ true → behind_star (ds ++ 42 ∷ cs) ≡ cs
behind_counted ds cs e = ap (λ k. drop (k + 1) (ds ++ 42 ∷ cs)) (count_width ds cs e) ∙ drop_past ds cs

-- a word that begins with none
not_counted_front : (w : List ℕ) (more : Stream) → IsNotCounted (characters w ++ more) → repeat_in w ≡ None
not_counted_front w more h = go (drop n w) (take-append-drop n w) where
  n : ℕ
  n = position_or_len is_no_digit w

  front : List ℕ
  front = take (position_or_len is_no_digit w) w

  number : (o : Option ℕ) (c : ℕ) (rest : List ℕ) → number_in 10 (take (position_or_len is_no_digit w) w) ≡ o → eqb c 42 ≡ true → take (position_or_len is_no_digit w) w ++ (c ∷ rest) ≡ w → option_map ranged o ≡ None
  number None c rest e star whole = refl
  number (Some r) c rest e star whole =
      let xs = take (position_or_len is_no_digit w) w in
      let is : characters w ++ more ≡ characters xs ++ Some 42 ∷ (characters rest ++ more) =
      ap (λ (x : List ℕ). characters x ++ more) (sym whole) ∙ characters_append xs (c ∷ rest) more ∙ ap (λ d. characters xs ++ (Some d ∷ (characters rest ++ more))) (star_is c star) in
      absurd (h r (characters rest ++ more) (record { digits = xs; number = e; whole = is }))

  go : (rest : List ℕ) → take (position_or_len is_no_digit w) w ++ rest ≡ w → starred (take (position_or_len is_no_digit w) w) rest ≡ None
  go [] whole = refl
  go (c ∷ rest) whole = elim (cases_Bool (eqb c 42)) [
    | inl e ↦
        let xs = take (position_or_len is_no_digit w) w in
        ap (λ b. cond b (option_map ranged (number_in 10 xs)) None) e ∙ number (number_in 10 xs) c rest refl e whole
    | inr e ↦ ap (λ b. cond b (option_map ranged (number_in 10 (take (position_or_len is_no_digit w) w))) None) e
  ]

-- characters that make a word longer
abbrev pub AllGoOn : Bool → List ℕ → Type 0
AllGoOn comma [] = Unit {0}
AllGoOn comma (c ∷ cs) = GoesOn comma c × AllGoOn comma cs

ordinary_goes : (comma : Bool) (c : ℕ) → IsOrdinary comma c → c ≢ 61 → GoesOn comma c
ordinary_goes true c h other = record { goes = grind (arith, nat_tests, h.blank, h.tab, h.separator, h.slash); equals = grind (arith, nat_tests, other) }
ordinary_goes false c h other = record { goes = grind (arith, nat_tests, h.blank, h.tab, h.separator, h.slash); equals = grind (arith, nat_tests, other) }

-- what a constant without delimiters is
record IsPlainText (comma : Bool) (cs : List ℕ) (s t : Stream) : Type 0 where
  is : s ≡ characters cs ++ t
  all : AllGoOn comma cs
  ends : Ends comma t

plain_text : (comma : Bool) (cs : List ℕ) (s t : Stream) → Lacks 61 cs → Characters comma cs s t → IsPlainText comma cs s t
plain_text comma _ s _ lacks (grammar.ended h) = record { is = refl; all = tt; ends = h }
plain_text comma _ _ t lacks (grammar.character {cs} {s} c ordinary more) =
    let on = plain_text comma cs s t lacks.1 more in
    record { is = ap (λ (u : Stream). Some c ∷ u) on.is; all = (ordinary_goes comma c ordinary lacks.0, on.all); ends = on.ends }

stays_plain : (comma : Bool) (w cs : List ℕ) (more : Stream) → AllGoOn comma cs → IsNotCounted (characters (w ++ cs) ++ more) → Stays comma w cs
stays_plain comma w [] more all h = tt
stays_plain comma w (c ∷ cs) more all h =
    let none = not_counted_front w (characters (c ∷ cs) ++ more) (subst (λ (s : Stream). IsNotCounted s) (characters_append w (c ∷ cs) more) h) in (
      on_step comma w c all.0 (inr (ap (λ (o : Option (Option ℕ)). marked w c o (behind_star w)) none)),
      stays_plain comma (w ++ c ∷ []) cs more all.1 (subst (λ (x : List ℕ). IsNotCounted (characters x ++ more)) (sym (append_assoc w (c ∷ []) cs)) h),
    )

behind_marked : (w : List ℕ) (c x : ℕ) (xs : List ℕ) (o : Option (Option ℕ)) → marked w c o (x ∷ xs) ≡ lexed [] (InWord (w ++ c ∷ []))
behind_marked w c x xs None = refl
behind_marked w c x xs (Some None) = refl
behind_marked w c x xs (Some (Some n)) = refl

stays_repeated : (comma : Bool) (ds : List ℕ) (x : ℕ) (xs cs : List ℕ) → list_all (λ d. is_digit d 10) ds ≡ true → AllGoOn comma cs → Stays comma (ds ++ 42 ∷ (x ∷ xs)) cs
stays_repeated comma ds x xs [] digits all = tt
stays_repeated comma ds x xs (c ∷ cs) digits all =
    let w = ds ++ 42 ∷ (x ∷ xs) in
    let longer : marked w c (repeat_in w) (behind_star w) ≡ lexed [] (InWord (w ++ c ∷ [])) =
    ap (λ (b : List ℕ). marked w c (repeat_in w) b) (behind_counted ds (x ∷ xs) digits) ∙ behind_marked w c x xs (repeat_in w) in
    (on_step comma w c all.0 (inr longer), subst (λ (y : List ℕ). Stays comma y cs) (sym (append_assoc ds (42 ∷ (x ∷ xs)) (c ∷ []))) (stays_repeated comma ds x (xs ++ c ∷ []) cs digits all.1))

-- digits
record IsCountDigit (comma : Bool) (d : ℕ) : Type 0 where
  goes : GoesOn comma d
  mark : is_mark d ≡ false
  comment : eqb d 33 ≡ false

digit_goes : (comma : Bool) (d : ℕ) → is_digit d 10 ≡ true → IsCountDigit comma d
digit_goes comma d e = elim (cases_Bool (is_ascii_digit d)) [
  | inl h ↦ by comma h
  | inr h ↦ absurd (false≢true (sym (no_digit_is d h) ∙ e))
] where
  by : (comma : Bool) → is_ascii_digit d ≡ true → IsCountDigit comma d
  by true h = record { goes = record { goes = grind (arith, nat_tests); equals = grind (arith, nat_tests) }; mark = grind (arith, nat_tests); comment = grind (arith, nat_tests) }
  by false h = record { goes = record { goes = grind (arith, nat_tests); equals = grind (arith, nat_tests) }; mark = grind (arith, nat_tests); comment = grind (arith, nat_tests) }

pub stays_digits : (comma : Bool) (w ds : List ℕ) → list_all (λ x. is_digit x 10) ds ≡ true → Stays comma w ds
stays_digits comma w [] e = tt
stays_digits comma w (d ∷ ds) e =
    let p = digit_first (is_digit d 10) (list_all (λ x. is_digit x 10) ds) e in
    let h = digit_goes comma d p.0 in
    (on_step comma w d h.goes (inl h.mark), stays_digits comma (w ++ d ∷ []) ds p.1)

star_goes : (comma : Bool) → GoesOn comma 42
star_goes true = record { goes = refl; equals = refl }
star_goes false = record { goes = refl; equals = refl }

-- a count and its asterisk
count_leads : (comma fresh : Bool) (ds : List ℕ) (r : ℕ) (cs : List ℕ) (s : Stream) → number_in 10 ds ≡ Some r → Stays comma (ds ++ 42 ∷ []) cs
    → Leads comma (Between fresh) (characters (ds ++ 42 ∷ cs) ++ s) [] (InWord (ds ++ 42 ∷ cs)) s
count_leads comma fresh [] r cs s number stays = absurd (none-some r (sym number_in-nil ∙ number))
count_leads comma fresh (d ∷ ds) r cs s number stays =
    let digits = all_digits (d ∷ ds) r number in
    let p = digit_first (is_digit d 10) (list_all (λ x. is_digit x 10) ds) digits in
    let first = digit_goes comma d p.0 in
    let star : Stays comma (d ∷ ds) (42 ∷ []) = (on_step comma (d ∷ ds) 42 (star_goes comma) (inl refl), tt) in
    let front : Stays comma (d ∷ []) (ds ++ 42 ∷ []) = stays_append comma (d ∷ []) ds (42 ∷ []) (stays_digits comma (d ∷ []) ds p.1) star in
    let all : Stays comma (d ∷ []) ((ds ++ 42 ∷ []) ++ cs) = stays_append comma (d ∷ []) (ds ++ 42 ∷ []) cs front stays in
    begun_word comma fresh d (ds ++ 42 ∷ cs) s first.goes first.mark first.comment (subst (λ (x : List ℕ). Stays comma (d ∷ []) x) (append_assoc ds (42 ∷ []) cs) all)

in_range : (r : ℕ) → IsRepeat r → ranged r ≡ Some r
in_range r h =
    let low = h.0 in
    let high = h.1 in
    let both : (ltb 0 r && ltb r (2 ^ 32)) ≡ true = grind (arith, nat_tests) in
    ap (λ b. cond b (Some r) None) both

counted_in_range : (ds cs : List ℕ) (r : ℕ) → number_in 10 ds ≡ Some r → IsRepeat r → repeat_in (ds ++ 42 ∷ cs) ≡ Some (Some r)
counted_in_range ds cs r number range = repeat_counted ds cs r number ∙ ap (λ (o : Option ℕ). Some o) (in_range r range)

-- the value that a token is
abbrev word_value : Option (Option ℕ) → List ℕ → List ℕ → Given
word_value None rest w = given 1 Undelimited w
word_value (Some None) rest w = given 1 Undelimited w
word_value (Some (Some n)) [] w = given n Null []
word_value (Some (Some n)) (c ∷ cs) w = given n Undelimited (c ∷ cs)

abbrev pub value_of : Token → Given
value_of (token.Word w) = word_value (repeat_in w) (behind_star w) w
value_of (token.Constant n cs) = given n Delimited cs
value_of _ = given 1 Null []

-- the token of a value, and what it gives
pub record IsToken (comma fresh fresh' : Bool) (g : Given) (s t : Stream) (tok : Token) : Type 0 where
  pub leads : Leads comma (Between fresh) s (tok ∷ []) (Between fresh') t
  pub is : value_of tok ≡ g
  pub gives : (e : Elements) (i : ℕ) (begins : Bool) (cells : List Cell) (next : GroupPlace → List Cell → Result) → value_taken tok e i begins cells next ≡ filled e g.form g.characters g.count i cells (λ i' cells'. next (place.At e i' false) cells')

-- a word or a constant
abbrev pub IsValueToken : Token → Type 0
IsValueToken (token.Word w) = Unit {0}
IsValueToken (token.Constant n cs) = Unit {0}
IsValueToken _ = ⊥

abbrev pub TokenOf : Bool → Bool → Bool → Given → Stream → Stream → Type 0
TokenOf comma fresh fresh' g s t = (tok : Token) × (IsToken comma fresh fresh' g s t tok × IsValueToken tok)

word_token : (comma fresh fresh' : Bool) (g : Given) (w : List ℕ) (s t : Stream) → Leads comma (Between fresh) s [] (InWord w) t → Ends comma t → Follows t → value_of (token.Word w) ≡ g
    → ((e : Elements) (i : ℕ) (cells : List Cell) (next : ℕ → List Cell → Result) → word_given (repeat_in w) (behind_star w) w e i cells next ≡ filled e g.form g.characters g.count i cells next) → TokenOf comma fresh fresh' g s t
word_token comma fresh fresh' g w s t leads ends some is gives = (
  token.Word w,
  (
    record {
      leads = leads_on comma (Between fresh) (InWord w) (Between fresh') s t t [] (token.Word w ∷ []) leads (word_ends comma fresh' w t ends some);
      is = is;
      gives = λ e i begins cells next. gives e i cells (λ i' cells'. next (place.At e i' false) cells');
    },
    tt,
  ),
)

once_token : (comma fresh fresh' : Bool) (form : Form) (cs : List ℕ) (s t : Stream) → IsNotCounted s → Constant comma form cs s t → IsAmongValues form cs → Follows t → TokenOf comma fresh fresh' (given 1 form cs) s t
once_token comma fresh fresh' _ _ _ t none (grammar.plain {cs} {s} c no_mark h) among some =
    let p = plain_text comma (c ∷ cs) (Some c ∷ s) t among.0 h in
    let not_counted : IsNotCounted (characters (c ∷ cs) ++ t) = subst (λ (u : Stream). IsNotCounted u) p.is none in
    let stays = stays_plain comma (c ∷ []) cs t p.all.1 not_counted in
    let leads = begun_word comma fresh c cs t p.all.0 (mark_false c no_mark) (comment_false c among.1) stays in
    word_token comma fresh fresh' (given 1 Undelimited (c ∷ cs)) (c ∷ cs) (Some c ∷ s) t (subst (λ (u : Stream). Leads comma (Between fresh) u [] (InWord (c ∷ cs)) t) (sym p.is) leads) p.ends some (ap (λ (o : Option (Option ℕ)). word_value o (behind_star (c ∷ cs)) (c ∷ cs)) (not_counted_front (c ∷ cs) t not_counted))
    (λ e i cells next. ap (λ (o : Option (Option ℕ)). word_given o (behind_star (c ∷ cs)) (c ∷ cs) e i cells next) (not_counted_front (c ∷ cs) t not_counted)) where
      mark_false : (c : ℕ) → (IsMark c → ⊥) → is_mark c ≡ false
      mark_false c h = elim (cases_Bool (is_mark c)) [
        | inl e ↦ absurd (h (Rattle.fj_list.proofs.GrammarLaws.mark_or c e))
        | inr e ↦ e
      ]

      comment_false : (c : ℕ) → c ≢ 33 → eqb c 33 ≡ false
      comment_false c h = grind (arith, nat_tests)
once_token comma fresh fresh' _ cs _ t none (grammar.delimited {s} mark is h ends) among some = (
  token.Constant 1 cs,
  (record { leads = opened_constant comma fresh fresh' mark cs s t is h ends some; is = refl; gives = λ e i begins cells next. refl }, tt),
)

mark_behind : (comma : Bool) (ds : List ℕ) (r mark : ℕ) → number_in 10 ds ≡ Some r → IsRepeat r → IsMark mark → stepped comma (InWord (ds ++ 42 ∷ [])) mark ≡ lexed [] (Inside (so_far r mark []))
mark_behind comma ds r mark number range is =
    let w = ds ++ 42 ∷ [] in
    on comma mark is
    ∙ ap (λ (o : Option (Option ℕ)). marked w mark o (behind_star w)) (counted_in_range ds [] r number range)
    ∙ ap (λ (b : List ℕ). marked w mark (Some (Some r)) b) (behind_counted ds [] (all_digits ds r number)) where
      on : (comma : Bool) (mark : ℕ) → IsMark mark → stepped comma (InWord (ds ++ 42 ∷ [])) mark ≡ marked (ds ++ 42 ∷ []) mark (repeat_in (ds ++ 42 ∷ [])) (behind_star (ds ++ 42 ∷ []))
      on true mark (inl e) = ap (λ m. stepped true (InWord (ds ++ 42 ∷ [])) m) e ∙ sym (ap (λ m. marked (ds ++ 42 ∷ []) m (repeat_in (ds ++ 42 ∷ [])) (behind_star (ds ++ 42 ∷ []))) e)
      on true mark (inr e) = ap (λ m. stepped true (InWord (ds ++ 42 ∷ [])) m) e ∙ sym (ap (λ m. marked (ds ++ 42 ∷ []) m (repeat_in (ds ++ 42 ∷ [])) (behind_star (ds ++ 42 ∷ []))) e)
      on false mark (inl e) = ap (λ m. stepped false (InWord (ds ++ 42 ∷ [])) m) e ∙ sym (ap (λ m. marked (ds ++ 42 ∷ []) m (repeat_in (ds ++ 42 ∷ [])) (behind_star (ds ++ 42 ∷ []))) e)
      on false mark (inr e) = ap (λ m. stepped false (InWord (ds ++ 42 ∷ [])) m) e ∙ sym (ap (λ m. marked (ds ++ 42 ∷ []) m (repeat_in (ds ++ 42 ∷ [])) (behind_star (ds ++ 42 ∷ []))) e)

repeated_token : (comma fresh fresh' : Bool) (form : Form) (r : ℕ) (cs : List ℕ) (s u t : Stream) → Counts r s u → IsRepeat r → Constant comma form cs u t → IsAmongValues form cs → Follows t → TokenOf comma fresh fresh' (given r form cs) s t
repeated_token comma fresh fresh' _ r _ s _ t counts range (grammar.plain {cs} {s = u} c no_mark h) among some =
    let ds = counts.digits in
    let digits = all_digits ds r counts.number in
    let p = plain_text comma (c ∷ cs) (Some c ∷ u) t among.0 h in
    let w = ds ++ 42 ∷ (c ∷ cs) in
    let first : Stays comma (ds ++ 42 ∷ []) (c ∷ []) = (on_step comma (ds ++ 42 ∷ []) c p.all.0 (inl (mark_false c no_mark)), tt) in
    let others : Stays comma ((ds ++ 42 ∷ []) ++ c ∷ []) cs = subst (λ (x : List ℕ). Stays comma x cs) (sym (append_assoc ds (42 ∷ []) (c ∷ []))) (stays_repeated comma ds c [] cs digits p.all.1) in
    let leads = count_leads comma fresh ds r (c ∷ cs) t counts.number (stays_append comma (ds ++ 42 ∷ []) (c ∷ []) cs first others) in
    let whole : s ≡ characters w ++ t = counts.whole ∙ ap (λ (x : Stream). characters ds ++ (Some 42 ∷ x)) p.is ∙ sym (characters_append ds (42 ∷ (c ∷ cs)) t) in
    word_token comma fresh fresh' (given r Undelimited (c ∷ cs)) w s t (subst (λ (x : Stream). Leads comma (Between fresh) x [] (InWord w) t) (sym whole) leads) p.ends some
    (ap (λ (o : Option (Option ℕ)). word_value o (behind_star w) w) (counted_in_range ds (c ∷ cs) r counts.number range) ∙ ap (λ (b : List ℕ). word_value (Some (Some r)) b w) (behind_counted ds (c ∷ cs) digits))
    (λ e i cells next.
    ap (λ (o : Option (Option ℕ)). word_given o (behind_star w) w e i cells next) (counted_in_range ds (c ∷ cs) r counts.number range)
    ∙ ap (λ (b : List ℕ). word_given (Some (Some r)) b w e i cells next) (behind_counted ds (c ∷ cs) digits)) where
      mark_false : (c : ℕ) → (IsMark c → ⊥) → is_mark c ≡ false
      mark_false c h = elim (cases_Bool (is_mark c)) [
        | inl e ↦ absurd (h (Rattle.fj_list.proofs.GrammarLaws.mark_or c e))
        | inr e ↦ e
      ]
repeated_token comma fresh fresh' _ r cs s _ t counts range (grammar.delimited {s = u} mark is h ends) among some =
    let ds = counts.digits in
    let w = ds ++ 42 ∷ [] in
    let more = Some mark ∷ u in
    let whole : s ≡ characters w ++ more = counts.whole ∙ sym (characters_append ds (42 ∷ []) more) in
    let front = count_leads comma fresh ds r [] more counts.number tt in
    let open_constant = leads_on comma (InWord w) (Inside (so_far r mark [])) (Between fresh') more u t [] (token.Constant r cs ∷ [])
    (leads_step comma (InWord w) (Inside (so_far r mark [])) (Some mark) u [] refl (mark_behind comma ds r mark counts.number range is)) (constant_leads comma fresh' r mark cs u t is h ends some) in
    let all = leads_on comma (Between fresh) (InWord w) (Between fresh') (characters w ++ more) more t [] (token.Constant r cs ∷ []) front open_constant in (
      token.Constant r cs,
      (record { leads = subst (λ (x : Stream). Leads comma (Between fresh) x (token.Constant r cs ∷ []) (Between fresh') t) (sym whole) all; is = refl; gives = λ e i begins cells next. refl }, tt),
    )

pub item_token : (comma fresh fresh' : Bool) (g : Given) (s t : Stream) → Item comma g s t → IsAmongValues g.form g.characters → Follows t → TokenOf comma fresh fresh' g s t
item_token comma fresh fresh' _ s t (grammar.once {form} {cs} none h) among some = once_token comma fresh fresh' form cs s t none h among some
item_token comma fresh fresh' _ s t (grammar.repeated {form} {cs} {u} r counts range h) among some = repeated_token comma fresh fresh' form r cs s u t counts range h among some
item_token comma fresh fresh' _ s t (grammar.nulls r counts range ends) among some =
    let ds = counts.digits in
    let w = ds ++ 42 ∷ [] in
    let whole : s ≡ characters w ++ t = counts.whole ∙ sym (characters_append ds (42 ∷ []) t) in
    let leads = count_leads comma fresh ds r [] t counts.number tt in
    word_token comma fresh fresh' (given r Null []) w s t (subst (λ (x : Stream). Leads comma (Between fresh) x [] (InWord w) t) (sym whole) leads) ends some
    (ap (λ (o : Option (Option ℕ)). word_value o (behind_star w) w) (counted_in_range ds [] r counts.number range) ∙ ap (λ (b : List ℕ). word_value (Some (Some r)) b w) (behind_counted ds [] (all_digits ds r counts.number)))
    (λ e i cells next.
    ap (λ (o : Option (Option ℕ)). word_given o (behind_star w) w e i cells next) (counted_in_range ds [] r counts.number range)
    ∙ ap (λ (b : List ℕ). word_given (Some (Some r)) b w e i cells next) (behind_counted ds [] (all_digits ds r counts.number)))
