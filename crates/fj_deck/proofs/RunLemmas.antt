-- The lines of a text, read one after another.
use Rattle.std.proofs.Common.{◌≡◌, ℕ, ◌+◌, ◌<◌, ◌≤◌, true, false, List, [], ◌∷◌, ◌++◌, ◌==◌, length, drop, Ok, Err, refl, sym, ap, ◌∙◌, subst, arith, append_assoc, append-nil, length-append, length-drop}
use Rattle.std.specs.List.{after_first, position_or_len}
use Rattle.std.specs.Str.Lines.{lines}
use Rattle.fj_statement.specs.declared.deck.Deck.{Deck}
use Rattle.fj_statement.specs.declared.reason.Reason.{Reason}
use Rattle.fj_statement.specs.declared.reason.Reason.TheVariants.{NoEnd}
use Rattle.fj_deck.specs.Deck.{AreGood, IsDeck, IsRefused, Reads, deck_of}
use Rattle.fj_deck.specs.Faults.{at_line}
use Rattle.fj_deck.specs.Line.{Begun, LineIs, Refuses, empty, has_ended}
use Rattle.fj_deck.specs.declared.fault.LineFault.{LineFault}
use Rattle.fj_deck.specs.declared.fault.LineFault.TheVariants.{Memory, Refused}

-- so far
pub record HasRead (text rest : List ℕ) (number : ℕ) (begun : Begun) : Type 0 where
  pub done : List (List ℕ)
  pub all : lines text ≡ done ++ lines rest
  pub good : AreGood 1 empty done begun
  pub counted : number ≡ length done + 1

pub nothing_read : (text : List ℕ) → HasRead text text 1 empty
nothing_read text = record { done = []; all = refl; good = refl; counted = refl }

-- one more line is good
good_more : (number at : ℕ) (first begun next : Begun) (done : List (List ℕ)) (line : List ℕ)
    → AreGood number first done begun → at ≡ number + length done → LineIs line at begun (Ok next) → AreGood number first (done ++ line ∷ []) next
good_more number at first begun next [] line good e is =
    let same : at ≡ number = omega arith in
    (next, subst (λ n. LineIs line n first (Ok next)) same (subst (λ d. LineIs line at d (Ok next)) good is), refl)
good_more number at first begun next (x ∷ done) line good e is =
    (good.0, good.1, good_more (number + 1) at good.0 begun next done line good.2 (omega arith) is)

-- the text behind a line is shorter
pub shorter : (text line more : List ℕ) → lines text ≡ line ∷ lines more → more ≡ after_first (λ b. b == 10) text → length more < length text
shorter [] line more first behind = cc
shorter (x ∷ text) line more first behind =
    let e : length more ≡ length (drop (position_or_len (λ b. b == 10) (x ∷ text) + 1) (x ∷ text)) = ap length behind in
    omega (arith, length-drop (position_or_len (λ b. b == 10) (x ∷ text) + 1) (x ∷ text))

pub one_more : (text rest line more : List ℕ) (number : ℕ) (begun next : Begun) → lines rest ≡ line ∷ lines more → HasRead text rest number begun → LineIs line number begun (Ok next) → HasRead text more (number + 1) next
one_more text rest line more number begun next first read is = record {
  done = read.done ++ line ∷ [];
  all = read.all ∙ ap (λ l. read.done ++ l) first ∙ sym (append_assoc read.done (line ∷ []) (lines more));
  good = good_more 1 number empty begun next read.done line read.good (let e = read.counted in omega arith) is;
  counted = let e = read.counted in omega (arith, length-append read.done (line ∷ []));
}

-- a line is refused
refused_at : (text rest line more : List ℕ) (number : ℕ) (begun : Begun) (reason : Reason) → length text ≤ 4194304 → lines rest ≡ line ∷ lines more → HasRead text rest number begun → LineIs line number begun (Err reason) → IsRefused text number reason
refused_at text rest line more number begun reason short first read is =
    subst (λ n. IsRefused text n reason) (sym read.counted)
    (IsRefused.bad read.done line (lines more) short (read.all ∙ ap (λ l. read.done ++ l) first) read.good (subst (λ n. LineIs line n begun (Err reason)) read.counted is))

pub fault_at : (text rest line more : List ℕ) (number : ℕ) (begun : Begun) (fault : LineFault) → length text ≤ 4194304 → lines rest ≡ line ∷ lines more → HasRead text rest number begun → Refuses (LineIs line number begun) fault → Reads text (Err (at_line number fault))
fault_at text rest line more number begun (Memory error) short first read is = tt
fault_at text rest line more number begun (Refused reason) short first read is = refused_at text rest line more number begun reason short first read is

-- no line is left
all_read : (text rest : List ℕ) (number : ℕ) (begun : Begun) → rest ≡ [] → (read : HasRead text rest number begun) → lines text ≡ read.done
all_read text rest number begun none read = read.all ∙ ap (λ r. read.done ++ lines r) none ∙ append-nil read.done

pub without_end : (text rest : List ℕ) (number : ℕ) (begun : Begun) → length text ≤ 4194304 → rest ≡ [] → HasRead text rest number begun → has_ended begun.statements ≡ false → IsRefused text number NoEnd
without_end text rest number begun short none read open_end =
    let all = all_read text rest number begun none read in
    subst (λ n. IsRefused text n NoEnd) (ap (λ l. length l + 1) all ∙ sym read.counted)
    (IsRefused.endless begun short (subst (λ l. AreGood 1 empty l begun) (sym all) read.good) open_end)

pub with_end : (text rest : List ℕ) (number : ℕ) (begun : Begun) (deck : Deck) → length text ≤ 4194304 → rest ≡ [] → HasRead text rest number begun → has_ended begun.statements ≡ true → deck ≡ deck_of begun → IsDeck text deck
with_end text rest number begun deck short none read ended is = record {
  short = short;
  last = begun;
  good = subst (λ l. AreGood 1 empty l begun) (sym (all_read text rest number begun none read)) read.good;
  ended = ended;
  is = is;
}
