-- What the scanner's states say of the answers of `parse`.
use Rattle.std.proofs.Common.{ℕ, zero, suc, ◌+◌, ◌≡◌, ◌≢◌, ◌<◌, ◌≤◌, Bool, true, false, List, [], ◌∷◌, ◌++◌, length, take, drop, get_or, Option, Some, None, refl, sym, subst, ap, ◌∙◌, arith, append_assoc}
use Rattle.std.proofs.lemmas.List.{take_more, take-append-drop}
use Rattle.fj_format.specs.declared.item.FormatItem.{FormatItem}
use Rattle.fj_format.specs.declared.place.FormatPlace.TheVariants.{Done}
use Rattle.fj_format.specs.declared.scanner.Scanner.{Scanner}
use Rattle.fj_format.specs.Marks.{outside}
use Rattle.fj_format.specs.Grammar.{IsFormat, BeginsFormat}
use Rattle.fj_format.specs.Scanning.{scan}
use Rattle.fj_format.specs.Reading.{Answers}
use Rattle.fj_format.specs.Parsing.{AreOnlyItems, IsNoFormat}
use Rattle.fj_format.proofs.Heights.{format_low}
use Rattle.fj_format.proofs.Scanned.{Stands, stands_next, stands_begins, stands_refused, stands_short, stands_done, stands_only}

take-take : (m n : ℕ) (l : List ℕ) → m ≤ n → take m (take n l) ≡ take m l
take-take zero n l h = refl
take-take (suc m) zero l h = absurd (omega arith)
take-take (suc m) (suc n) [] h = refl
take-take (suc m) (suc n) (x ∷ l) h = ap (λ t. x ∷ t) (take-take m n l (omega arith))

begins_front : (front more : List ℕ) → BeginsFormat (front ++ more) → BeginsFormat front
begins_front front more (rest, f, h) = (more ++ rest, f, subst (λ l. IsFormat l f) (append_assoc front more rest) h)

begins_take : (text : List ℕ) (m n : ℕ) → m ≤ n → BeginsFormat (take n text) → BeginsFormat (take m text)
begins_take text m n h b =
    begins_front (take m text) (drop m (take n text))
    (subst BeginsFormat (sym (take-append-drop m (take n text)) ∙ ap (λ l. l ++ drop m (take n text)) (take-take m n text h)) b)

begins_whole : (text : List ℕ) (m : ℕ) (f : List FormatItem) → IsFormat text f → BeginsFormat (take m text)
begins_whole text m f h = (drop m text, f, subst (λ l. IsFormat l f) (sym (take-append-drop m text)) h)

answers_none : (o : Option Scanner) (ok : Bool) (s : Scanner) → Answers o ok s → ok ≡ false → o ≡ None
answers_none None ok s h e = refl
answers_none (Some t) ok s h e = absurd (let k : true ≡ false = sym h.0 ∙ e in cc)

answers_some : (o : Option Scanner) (ok : Bool) (s : Scanner) → Answers o ok s → ok ≡ true → o ≡ Some s
answers_some None ok s h e = absurd (let k : true ≡ false = sym e ∙ h in cc)
answers_some (Some t) ok s h e = ap (λ x. Some x) (sym h.1)

pub refused : (text : List ℕ) (i : ℕ) (s new : Scanner) (ok : Bool) → i < length text → s.reader.place ≢ Done → Stands (take i text) s →
    Answers (scan s (get_or text i 0)) ok new → ok ≡ false → IsNoFormat text i
refused text i s new ok lt q st r e =
    let no = stands_refused (take i text) s (get_or text i 0) q (answers_none (scan s (get_or text i 0)) ok new r e) st in
    let none : BeginsFormat (take (i + 1) text) → ⊥ = λ b. no (subst BeginsFormat (take_more text i 0 lt) b) in
    record {
      none = λ f h. none (begins_whole text (i + 1) f h);
      within = omega arith;
      begins = stands_begins (take i text) s st;
      longest = λ n above within b. none (begins_take text (i + 1) n (omega arith) b);
    }

pub taken : (text : List ℕ) (i : ℕ) (s new : Scanner) (ok : Bool) → i < length text → s.reader.place ≢ Done → Stands (take i text) s →
    Answers (scan s (get_or text i 0)) ok new → ok ≡ true → Stands (take (i + 1) text) new
taken text i s new ok lt q st r e =
    subst (λ l. Stands l new) (sym (take_more text i 0 lt)) (stands_next (take i text) s new (get_or text i 0) q (answers_some (scan s (get_or text i 0)) ok new r e) st)

done : (text : List ℕ) (i : ℕ) (s : Scanner) → s.reader.place ≡ Done → Stands (take i text) s → IsFormat text s.reader.items
done text i s e st = subst (λ l. IsFormat l s.reader.items) (take-append-drop i text) (stands_done (take i text) (drop i text) s e st)

pub done_items : (text : List ℕ) (i : ℕ) (s : Scanner) (items : List FormatItem) → s.reader.place ≡ Done → Stands (take i text) s →
    items ≡ s.reader.items → AreOnlyItems text items
done_items text i s items e st is =
    let h : IsFormat text items = subst (IsFormat text) (sym is) (done text i s e st) in
    record {
      is = h;
      only = λ f g. stands_only (take i text) (drop i text) s f e st (subst (λ l. IsFormat l f) (sym (take-append-drop i text)) g) ∙ sym is;
      sound = record { written = ∣ (text, h) ∣₁; low = format_low items (outside text) h };
    }

take_whole : (l : List ℕ) → take (length l) l ≡ l
take_whole [] = refl
take_whole (x ∷ l) = ap (λ t. x ∷ t) (take_whole l)

pub short : (text : List ℕ) (i : ℕ) (s : Scanner) → i ≡ length text → s.reader.place ≢ Done → Stands (take i text) s → IsNoFormat text (length text)
short text i s e q taken_all =
    let st : Stands text s = subst (λ l. Stands l s) (ap (λ n. take n text) e ∙ take_whole text) taken_all in
    record {
      none = λ f h. stands_short text s f q st h;
      within = omega arith;
      begins = subst BeginsFormat (sym (take_whole text)) (stands_begins text s st);
      longest = λ n above within b. absurd (omega arith);
    }
