-- Texts one after another in a record.
use Rattle.std.proofs.Common.{◌≡◌, ◌≤◌, ◌<◌, ◌^◌, ◌/◌, ◌%◌, ◌*◌, ℕ, zero, suc, ◌+◌, ◌&&◌, ◌==◌, Bool, true, false, List, [], ◌∷◌, ◌++◌, length, take, drop, set, map, flat_map, All, Option, Some, None, Ok, Err, ℤ, get_or, unsigned_abs, refl, sym, ap, subst, ◌∙◌, arith, append_assoc, append-nil, length-append}
use Rattle.std.specs.Fmt.{decimal}
use Rattle.std.proofs.Math.Nat.{pow-le-pow_right}
use Rattle.std.proofs.lemmas.Bool.Decides.{nat_tests}
use Rattle.std.proofs.lemmas.Fmt.{length-decimal-le, decimal_nonempty, decimal_digit, decimal_step}
use Rattle.std.proofs.Math.Seq.{take-add, take-append_seam}
use Rattle.std.proofs.lemmas.Grind.{flat_map-append}
use Rattle.std.proofs.lemmas.List.{take_more, take_more_set, length-set, map-append}
use Rattle.std.proofs.lemmas.List.Elements.{All-head, All-tail, All-push}
use Rattle.fj_value.specs.Shown.{sign}
use Rattle.fj_value.specs.declared.condition.Condition.{Condition}
use Rattle.fj_value.specs.declared.edit.EditModes.{EditModes}
use Rattle.fj_value.specs.declared.kind.Kind.{Kind}
use Rattle.fj_value.specs.declared.value.Value.{Value}
use Rattle.fj_value.specs.declared.value.Value.TheVariants as value
use Rattle.fj_line.specs.Line.{LineState}
use Rattle.fj_line.specs.Actions.{Action, put, AtHand, behind, excess_of, excess, unless, carried_out}
use Rattle.fj_line.specs.Records.{texts_from}
use Rattle.fj_moved.specs.Items.{Output, of_kind, values_in}
use Rattle.fj_list.specs.ListText.{gap, shown, integer_shown, passes_columns}
use Rattle.fj_list.specs.Listing.{texts_behind, next_text, width_behind, behind_blank, IsNoText}
use Rattle.fj_list.proofs.ListLaws.{at_end, longer_line}

-- ---- the number of digits

at_least : (k n : ℕ) → n < 2 ^ 64 → 10 ^ k ≤ n → k + 1 ≤ length (decimal n)
at_least zero n h l = omega (arith, decimal_nonempty n h)
at_least (suc k) n h l =
    let least : 0 ≤ k = omega arith in
    let one : 10 ^ 0 ≤ 10 ^ k = pow-le-pow_right {n = 10} (omega arith) least in
    let step : length (decimal n) ≡ length (decimal (n / 10)) + 1 = ap length (decimal_step n (omega (arith, one, l)) h) ∙ length-append (decimal (n / 10)) ((48 + n % 10) ∷ []) in
    omega (arith, step, at_least k (n / 10) (omega (arith, h)) (omega (arith, l)))

pub digits_are : (k n : ℕ) → n < 2 ^ 64 → 10 ^ k ≤ n → n < 10 * 10 ^ k → length (decimal n) ≡ k + 1
digits_are k n h l g =
    let most : length (decimal n) ≤ suc k = length-decimal-le (suc k) n (omega arith) (omega (arith, g)) h in
    omega (arith, most, at_least k n h l)

-- ---- characters at the end of the record, piece by piece

less_excess : (limit : Option ℕ) (a b c d : ℕ) → c ≤ a → d ≤ b → excess_of limit a b ≡ None → excess_of limit c d ≡ None
less_excess None a b c d h k none = refl
less_excess (Some limit) a b c d h k none = grind (arith, nat_tests)

module _ {A : Type 0} (limit : Option ℕ) (start : ℕ) (ended : List ℕ) (f : A → List ℕ) where
  hand : List ℕ → AtHand
  hand text = record { limit = limit; start = start; ended = ended; line = at_end text }

  goes_on : (ns : List A) (text : List ℕ) (more : List Action) → excess (hand (text ++ flat_map f ns)) ≡ None → carried_out (hand text) (map (λ n. put (f n)) ns ++ more) ≡ carried_out (hand (text ++ flat_map f ns)) more
  unfolding hand
  goes_on [] text more h = ap (λ t. carried_out (hand t) more) (sym (append-nil text))
  goes_on (n ∷ ns) text more h =
      let whole : (text ++ f n) ++ flat_map f ns ≡ text ++ (f n ++ flat_map f ns) = append_assoc text (f n) (flat_map f ns) in
      let longer : behind (put (f n)) (hand text) ≡ hand (text ++ f n) = ap (λ (l : LineState). record { limit = limit; start = start; ended = ended; line = l }) (longer_line text (f n)) in
      let size : length (text ++ f n) ≤ length (text ++ (f n ++ flat_map f ns)) = omega (arith, ap length whole, length-append (text ++ f n) (flat_map f ns)) in
      let none : excess (behind (put (f n)) (hand text)) ≡ None =
      ap excess longer ∙ less_excess limit (start + length (text ++ (f n ++ flat_map f ns))) (length ended + length (text ++ (f n ++ flat_map f ns))) _ _ (omega (arith, size)) (omega (arith, size)) h in
      let rest = map (λ n. put (f n)) ns ++ more in
      ap (λ c. unless c (carried_out (behind (put (f n)) (hand text)) rest)) none
      ∙ ap (λ x. carried_out x rest) longer
      ∙ goes_on ns (text ++ f n) more (ap (λ t. excess (hand t)) whole ∙ h)
      ∙ ap (λ t. carried_out (hand t) more) whole

texts_on : {A : Type 0} → (f : A → List ℕ) (ns : List A) (text : List ℕ) (more : List Action) → texts_from (at_end text) (map (λ n. put (f n)) ns ++ more) ≡ texts_from (at_end (text ++ flat_map f ns)) more
texts_on f [] text more = ap (λ t. texts_from (at_end t) more) (sym (append-nil text))
texts_on f (n ∷ ns) text more =
    ap (λ l. texts_from l (map (λ n. put (f n)) ns ++ more)) (longer_line text (f n))
    ∙ texts_on f ns (text ++ f n) more
    ∙ ap (λ t. texts_from (at_end t) more) (append_assoc text (f n) (flat_map f ns))

-- where they all fit at once, they fit one after another
module _ {A : Type 0} (f : A → List ℕ) (ns : List A) (old new : AtHand) (end : old.line.at ≡ length old.line.text) (done : carried_out old (put (flat_map f ns) ∷ []) ≡ Ok new) where
  record Whole : Type 0 where
    fits : excess (behind (put (flat_map f ns)) old) ≡ None
    is : behind (put (flat_map f ns)) old ≡ new

  whole : Whole
  whole = by (excess (behind (put (flat_map f ns)) old)) refl
    where
      by : (c : Option Condition) → excess (behind (put (flat_map f ns)) old) ≡ c → Whole
      by None e = let same : Ok (behind (put (flat_map f ns)) old) ≡ Ok new = ap (λ x. unless x (Ok (behind (put (flat_map f ns)) old))) (sym e) ∙ done in record { fits = e; is = cc }
      by (Some condition) e = let same : Err condition ≡ Ok new = ap (λ x. unless x (Ok (behind (put (flat_map f ns)) old))) (sym e) ∙ done in cc

  line_is : old.line ≡ at_end old.line.text
  line_is = ap (λ (n : ℕ). record { at = n; text = old.line.text }) end

  longer : behind (put (flat_map f ns)) old ≡ record old { line = at_end (old.line.text ++ flat_map f ns) }
  longer = ap (λ (l : LineState). behind (put (flat_map f ns)) (record old { line = l })) line_is ∙ ap (λ (l : LineState). record old { line = l }) (longer_line old.line.text (flat_map f ns))

  pub row_done : (more : List Action) → carried_out old (map (λ n. put (f n)) ns ++ more) ≡ carried_out new more
  unfolding hand
  row_done more =
      ap (λ (l : LineState). carried_out (record old { line = l }) (map (λ n. put (f n)) ns ++ more)) line_is
      ∙ goes_on old.limit old.start old.ended f ns old.line.text more (ap excess (sym longer) ∙ whole.fits)
      ∙ ap (λ x. carried_out x more) (sym longer ∙ whole.is)

  pub row_texts : (more : List Action) → texts_from old.line (map (λ n. put (f n)) ns ++ more) ≡ texts_from new.line more
  row_texts more =
      ap (λ (l : LineState). texts_from l (map (λ n. put (f n)) ns ++ more)) line_is
      ∙ texts_on f ns old.line.text more
      ∙ ap (λ (x : AtHand). texts_from x.line more) (sym longer ∙ whole.is)

-- ---- values that the record has room for

gap_is : (modes : EditModes) (characters : Bool) → gap modes characters false ≡ 32 ∷ []
gap_is modes true = refl
gap_is modes false = refl

-- the first of them, which is not of type CHARACTER
one_behind : (modes : EditModes) (characters is : Bool) (v : Value) (vs : List Value) (width : ℕ) → is ≡ false → width + length (behind_blank modes v) ≤ 80
    → next_text width (gap modes characters is) (shown modes v) ++ texts_behind modes (width_behind width (gap modes characters is) (shown modes v)) is vs
    ≡ put (behind_blank modes v) ∷ texts_behind modes (width + length (behind_blank modes v)) false vs
one_behind modes characters is v vs width none h =
    let fits : passes_columns (width + length (behind_blank modes v)) ≡ false = grind (arith, nat_tests) in
    ap (λ b. next_text width (gap modes characters b) (shown modes v) ++ texts_behind modes (width_behind width (gap modes characters b) (shown modes v)) b vs) none
    ∙ ap (λ g. next_text width g (shown modes v) ++ texts_behind modes (width_behind width g (shown modes v)) false vs) (gap_is modes characters)
    ∙ rw fits refl

pub row_behind : (modes : EditModes) (characters : Bool) (vs more : List Value) (width : ℕ) → All IsNoText vs → width + length (flat_map (behind_blank modes) vs) ≤ 80
    → texts_behind modes width characters (vs ++ more)
    ≡ map (λ v. put (behind_blank modes v)) vs ++ texts_behind modes (width + length (flat_map (behind_blank modes) vs)) (characters && (length vs == 0)) more
row_behind modes true [] more width plain h = let e : width + 0 ≡ width = omega arith in ap (λ n. texts_behind modes n true more) (sym e)
row_behind modes false [] more width plain h = let e : width + 0 ≡ width = omega arith in ap (λ n. texts_behind modes n false more) (sym e)
row_behind modes characters (v ∷ vs) more width plain h =
    let size : length (flat_map (behind_blank modes) (v ∷ vs)) ≡ length (behind_blank modes v) + length (flat_map (behind_blank modes) vs) = length-append (behind_blank modes v) (flat_map (behind_blank modes) vs) in
    let far : (width + length (behind_blank modes v)) + length (flat_map (behind_blank modes) vs) ≡ width + length (flat_map (behind_blank modes) (v ∷ vs)) = omega (arith, size) in
    one_behind modes characters _ v (vs ++ more) width (All-head IsNoText v vs plain) (omega (arith, size, h))
    ∙ ap (λ l. put (behind_blank modes v) ∷ l)
    (row_behind modes false vs more (width + length (behind_blank modes v)) (All-tail IsNoText v vs plain) (omega (arith, size, h))
    ∙ ap (λ n. map (λ x. put (behind_blank modes x)) vs ++ texts_behind modes n false more) far
    ∙ ap (λ b. map (λ x. put (behind_blank modes x)) vs ++ texts_behind modes (width + length (flat_map (behind_blank modes) (v ∷ vs))) b more) (none_left characters (length vs)))
  where
    none_left : (c : Bool) (k : ℕ) → false ≡ (c && (suc k == 0))
    none_left true k = grind (arith, nat_tests)
    none_left false k = refl

-- ---- one integer more

module _ (modes : EditModes) (values : List Value) (i : ℕ) (v x : Value) (n : ℤ) (low : i < length values) (there : x ≡ get_or values i x) (same : x ≡ v) (is : v ≡ value.Int n) where
  next : take (i + 1) values ≡ take i values ++ value.Int n ∷ []
  next = take_more values i x low ∙ ap (λ y. take i values ++ y ∷ []) (sym there ∙ same ∙ is)

  pub written_more : (before after : List ℕ) → before ≡ flat_map (behind_blank modes) (take i values) → after ≡ before ++ (32 ∷ integer_shown modes.plus n) → after ≡ flat_map (behind_blank modes) (take (i + 1) values)
  written_more before after so_far step =
      step ∙ ap (λ l. l ++ (32 ∷ integer_shown modes.plus n)) so_far
      ∙ ap (λ l. flat_map (behind_blank modes) (take i values) ++ l) (sym (append-nil (32 ∷ integer_shown modes.plus n)))
      ∙ sym (ap (flat_map (behind_blank modes)) next ∙ flat_map-append (behind_blank modes) (take i values) (value.Int n ∷ []))

  pub plain_more : All IsNoText (take i values) → All IsNoText (take (i + 1) values)
  plain_more plain = subst (All IsNoText) (sym next) (All-push IsNoText (take i values) (value.Int n) plain refl)

-- digits behind what stands in front of them
pub digits_behind : (front old new ds : List ℕ) (start end : ℕ) → take start old ≡ front → start + length ds ≡ end → drop start new ≡ ds ++ drop end old → take start new ≡ take start old → take end new ≡ front ++ ds
digits_behind front old new ds start end is far written before =
    ap (λ k. take k new) (sym far) ∙ take-add start (length ds) new
    ∙ ap (λ l. l ++ take (length ds) (drop start new)) (before ∙ is)
    ∙ ap (λ l. front ++ l) (ap (take (length ds)) written ∙ take-append_seam ds (drop end old))

-- what stands in front of the digits: a blank, and a sign or none
pub front_plain : (s row : List ℕ) (at start : ℕ) → length s ≡ 0 → at < length row → start ≡ at + 1 + length s → take start (set row at 32) ≡ take at row ++ 32 ∷ s
front_plain [] row at start none low e = let k : start ≡ at + 1 = omega (arith, e) in ap (λ n. take n (set row at 32)) k ∙ take_more_set row at 32 low
front_plain (x ∷ s) row at start none low e = absurd (omega (arith, none))

pub front_signed : (s row : List ℕ) (at start : ℕ) → length s ≤ 1 → 0 < length s → at + 1 < length row → start ≡ at + 1 + length s → take start (set (set row at 32) (at + 1) (get_or s 0 0)) ≡ take at row ++ 32 ∷ s
front_signed [] row at start short one low e = absurd (omega (arith, one))
front_signed (x ∷ []) row at start short one low e =
    let k : start ≡ (at + 1) + 1 = omega (arith, e) in
    ap (λ n. take n (set (set row at 32) (at + 1) x)) k
    ∙ take_more_set (set row at 32) (at + 1) x (omega (arith, length-set row at 32, low))
    ∙ ap (λ l. l ++ x ∷ []) (take_more_set row at 32 (omega (arith, low)))
    ∙ append_assoc (take at row) (32 ∷ []) (x ∷ [])
front_signed (x ∷ y ∷ s) row at start short one low e = absurd (omega (arith, short))

pub integer_behind : (plus : Bool) (n : ℤ) (s : List ℕ) (a : ℕ) (row old new : List ℕ) (at start end : ℕ) → s ≡ sign plus n → a ≡ unsigned_abs n → take start old ≡ take at row ++ 32 ∷ s → start + length (decimal a) ≡ end
    → drop start new ≡ decimal a ++ drop end old → take start new ≡ take start old → take end new ≡ take at row ++ (32 ∷ integer_shown plus n)
integer_behind plus n s a row old new at start end is amount front far written before =
    digits_behind (take at row ++ 32 ∷ s) old new (decimal a) start end front far written before
    ∙ append_assoc (take at row) (32 ∷ s) (decimal a)
    ∙ ap (λ l. take at row ++ (32 ∷ (l ++ decimal a))) is
    ∙ ap (λ k. take at row ++ (32 ∷ (sign plus n ++ decimal k))) amount

pub no_digits : (n : ℕ) → n ≡ 0 → length (decimal n) ≡ 1
no_digits n e = rw e (ap length (decimal_digit 0 (omega arith)))

-- ---- items that were taken

of_one : (kind : Kind) (vs : List Value) → values_in (of_kind kind vs) ≡ vs
of_one kind [] = refl
of_one kind (v ∷ vs) = ap (λ l. v ∷ l) (of_one kind vs)

pub values_passed : (kind : Kind) (ahead vs : List Value) (count : ℕ) (items rest : List Output) → vs ≡ ahead → items ≡ of_kind kind (take count ahead) ++ rest → values_in items ≡ take count vs ++ values_in rest
values_passed kind ahead vs count items rest same is =
    ap values_in is ∙ map-append (λ (item : Output). item.1) (of_kind kind (take count ahead)) rest
    ∙ ap (λ l. l ++ values_in rest) (of_one kind (take count ahead) ∙ ap (take count) (sym same))
