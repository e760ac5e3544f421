-- The names that a declaration gives are words of its line.
use Rattle.std.proofs.Common.{ℕ, ◌+◌, Bool, true, false, cond, List, [], ◌∷◌, take, drop, Option, Some, None, codes}
use Rattle.std.specs.Prelude.{All, option_map, position}
use Rattle.std.specs.List.{onto_first}
use Rattle.std.specs.Str.{bytes_eq}
use Rattle.std.proofs.lemmas.List.Elements.{All-cons, All-drop, All-head, All-map, All-nil, All-tail}
use Rattle.fj_value.specs.declared.kind.Kind.{Kind}
use Rattle.fj_value.specs.declared.kind.Kind.TheVariants.{Logical}
use Rattle.fj_modes.specs.declared.motion.Motion.{Motion}
use Rattle.fj_modes.specs.declared.motion.Motion.TheVariants.{Endfile}
use Rattle.fj_syntax.specs.Arguments.{call_of}
use Rattle.fj_syntax.specs.Calls.{open_of, close_of, wait_of, move_of, inquire_of, transfer_of}
use Rattle.fj_syntax.specs.Given.{bare_unit}
use Rattle.fj_syntax.specs.Parsing.{IsWord, NamesAreWords, names_given}
use Rattle.fj_syntax.specs.Parts.{Tokens, Designator, cut, designator_of, is_from_to, is_mark, is_name, list_of, name_of, named, operand_of, parted}
use Rattle.fj_syntax.specs.Reading.{each}
use Rattle.fj_syntax.specs.Statement.{Written, begun, begun_by, behind_colons, character_kind, declaration_of, group_of, integer_kind, items_of, motion_from, number_in, value_of, written_of}
use Rattle.fj_syntax.specs.Tokens.{Token, Word, Number, Mark, AMark, LeftParenthesis, RightParenthesis, Comma, Equals, Slash, DoubleColon, Unsigned, AreTokens, IsWritten, end, token}
use Rattle.fj_syntax.specs.Words.{Keyword, keyword_of}
use Rattle.fj_syntax.specs.declared.words.Keyword.TheVariants as keyword
use Rattle.fj_syntax.specs.declared.written.Written.TheVariants as written
use Rattle.fj_syntax.proofs.Holding.{Holds, held, then_any, then_holds, where_holds}

-- ---- words among tokens

-- a word of the line, where it is a word
abbrev IsOfLine : Token → Type 0
IsOfLine (Word w) = IsWord w
IsOfLine t = Unit {0}

abbrev AreOfLine : Tokens → Type 0
AreOfLine ts = All IsOfLine ts

written_is : (t : Token) (bytes line : List ℕ) → IsWritten t bytes line → IsOfLine t
written_is (Word w) bytes line is = (bytes, line, is)
written_is t bytes line is = tt

are_of_line : (line : List ℕ) (ts : Tokens) → AreTokens line ts → AreOfLine ts
are_of_line _ _ (end line is) = All-nil IsOfLine
are_of_line _ _ (token line bytes rest {first = t} {tokens = ts} e is more) = All-cons IsOfLine t ts (written_is t bytes rest is) (are_of_line rest ts more)

parts_are : (ts : Tokens) → AreOfLine ts → All AreOfLine (cut ts)
parts_are [] all = All-cons AreOfLine [] [] (All-nil IsOfLine) (All-nil AreOfLine)
parts_are (t ∷ ts) all =
    by (is_mark Comma t) (cut ts) (All-head IsOfLine t ts all) (parts_are ts (All-tail IsOfLine t ts all)) where
      by : (b : Bool) (ps : List Tokens) → IsOfLine t → All AreOfLine ps → All AreOfLine (cond b ([] ∷ ps) (onto_first t ps))
      by true ps is more = All-cons AreOfLine [] ps (All-nil IsOfLine) more
      by false [] is more = All-cons AreOfLine (t ∷ []) [] (All-cons IsOfLine t [] is (All-nil IsOfLine)) (All-nil AreOfLine)
      by false (p ∷ ps) is more = All-cons AreOfLine (t ∷ p) ps (All-cons IsOfLine t p is (All-head AreOfLine p ps more)) (All-tail AreOfLine p ps more)

-- what holds of each part holds of all
each_holds : {B : Type 0} (P : B → Type 0) (f : Tokens → Option B) → ((ts : Tokens) → AreOfLine ts → Holds P (f ts)) → (ps : List Tokens) → All AreOfLine ps → Holds (All P) (each f ps)
each_holds P f is [] all = All-nil P
each_holds P f is (p ∷ ps) all =
    then_holds P (All P) (f p) _ (is p (All-head AreOfLine p ps all))
    (λ y one. then_holds (All P) (All P) (each f ps) _ (each_holds P f is ps (All-tail AreOfLine p ps all)) (λ ys more. All-cons P y ys one more))

-- ---- declarations

abbrev HasWord : Designator → Type 0
HasWord d = IsWord d.name

named_word : (w : List ℕ) (n : Option ℕ) (ts : Tokens) → AreOfLine (Word w ∷ ts) → Holds HasWord (named w n)
named_word w n ts all = where_holds HasWord (is_name w) (Some (record { name = w; number = n })) (All-head IsOfLine (Word w) ts all)

designator_word : (ts : Tokens) → AreOfLine ts → Holds HasWord (designator_of ts)
designator_word (Word w ∷ []) all = named_word w None [] all
designator_word (Word w ∷ Mark LeftParenthesis ∷ Number Unsigned n ∷ Mark RightParenthesis ∷ []) all =
    where_holds HasWord (is_from_to 1 1000000 n) _ (named_word w (Some n) (Mark LeftParenthesis ∷ Number Unsigned n ∷ Mark RightParenthesis ∷ []) all)
designator_word ts all = tt

behind_colons_are : (ts : Tokens) → AreOfLine ts → AreOfLine (behind_colons ts)
behind_colons_are (Mark DoubleColon ∷ ts) all = All-tail IsOfLine (Mark DoubleColon) ts all
behind_colons_are (Mark Comma ∷ Word w ∷ Mark DoubleColon ∷ ts) all = either (bytes_eq w (codes "ASYNCHRONOUS")) where
  either : (b : Bool) → AreOfLine (cond b ts (Mark Comma ∷ Word w ∷ Mark DoubleColon ∷ ts))
  either true = All-drop IsOfLine 3 (Mark Comma ∷ Word w ∷ Mark DoubleColon ∷ ts) all
  either false = all
behind_colons_are ts all = all

-- the tokens that are left are of the line
abbrev LeavesOfLine : {A : Type 0} → A × Tokens → Type 0
LeavesOfLine x = AreOfLine x.1

parted_are : (m : AMark) (ts : Tokens) → AreOfLine ts → Holds LeavesOfLine (parted m ts)
parted_are m ts all = by (position (is_mark m) ts) where
  by : (o : Option ℕ) → Holds LeavesOfLine (option_map (λ n. (take n ts, drop (n + 1) ts)) o)
  by None = tt
  by (Some n) = All-drop IsOfLine (n + 1) ts all

number_are : (word : List ℕ) (default : ℕ) (ts : Tokens) → AreOfLine ts → Holds LeavesOfLine (number_in word default ts)
number_are word default (Mark LeftParenthesis ∷ ts) all =
    then_holds LeavesOfLine LeavesOfLine (parted RightParenthesis ts) _ (parted_are RightParenthesis ts (All-tail IsOfLine (Mark LeftParenthesis) ts all))
    (λ sides are. then_any LeavesOfLine (value_of word sides.0) _ (λ n. are))
number_are word default ts all = all

abbrev GivesWords : Written → Type 0
GivesWords s = All IsWord (names_given s)

declaration_words : (kind : Option Kind) (ts : Tokens) → AreOfLine ts → Holds GivesWords (declaration_of kind ts)
declaration_words kind ts all =
    let names = each_holds HasWord designator_of designator_word (cut (behind_colons ts)) (parts_are (behind_colons ts) (behind_colons_are ts all)) in
    then_any GivesWords kind _ (λ k. then_holds (All HasWord) GivesWords (list_of designator_of (behind_colons ts)) _ names (λ es are. All-map IsWord (λ e. e.name) es are))

group_words : (ts : Tokens) → AreOfLine ts → Holds GivesWords (group_of ts)
group_words (Mark Slash ∷ Word name ∷ Mark Slash ∷ ts) all =
    let word : IsWord name = All-head IsOfLine (Word name) (Mark Slash ∷ ts) (All-tail IsOfLine (Mark Slash) (Word name ∷ Mark Slash ∷ ts) all) in
    where_holds GivesWords (is_name name) _ (then_any GivesWords (list_of name_of ts) _ (λ members. All-cons IsWord name [] word (All-nil IsWord)))
group_words ts all = tt

-- ---- each statement by its keyword

-- a motion gives no names
motion_words : (how : Motion) (ts : Tokens) → Holds GivesWords (motion_from how ts)
motion_words how (Mark LeftParenthesis ∷ ts) = then_any GivesWords (move_of how (Mark LeftParenthesis ∷ ts)) (λ m. Some (written.Move m)) (λ m. All-nil IsWord)
motion_words how ts = then_any GivesWords (bare_unit ts) (λ u. Some (written.Move (record { unit = u; what = how; iostat = None }))) (λ u. All-nil IsWord)

begun_words : (k : Keyword) (ts : Tokens) → AreOfLine ts → Holds GivesWords (begun_by k ts)
unfolding begun_by
begun_words keyword.Integer ts all = then_holds LeavesOfLine GivesWords (number_in (codes "KIND") 4 ts) _ (number_are (codes "KIND") 4 ts all) (λ n are. declaration_words (integer_kind n.0) n.1 are)
begun_words keyword.Logical ts all = declaration_words (Some Logical) ts all
begun_words keyword.Character ts all = then_holds LeavesOfLine GivesWords (number_in (codes "LEN") 1 ts) _ (number_are (codes "LEN") 1 ts all) (λ n are. declaration_words (character_kind n.0) n.1 are)
begun_words keyword.Namelist ts all = group_words ts all
begun_words keyword.Open ts all = then_any GivesWords (open_of ts) _ (λ o. All-nil IsWord)
begun_words keyword.Close ts all = then_any GivesWords (close_of ts) _ (λ c. All-nil IsWord)
begun_words (keyword.Transfer input) ts all =
    then_any GivesWords (call_of (keyword.Transfer input) ts) _ (λ c. then_any GivesWords (items_of c.1) _ (λ items. then_any GivesWords (transfer_of input c.0 items) _ (λ t. All-nil IsWord)))
begun_words keyword.Wait ts all = then_any GivesWords (wait_of ts) _ (λ w. All-nil IsWord)
begun_words (keyword.Move how) ts all = motion_words how ts
begun_words keyword.Inquire ts all = then_any GivesWords (inquire_of ts) _ (λ i. All-nil IsWord)
begun_words keyword.End [] all = All-nil IsWord
begun_words keyword.End (Word w ∷ ts) all = where_holds GivesWords (bytes_eq w (codes "FILE")) _ (motion_words Endfile ts)
begun_words keyword.End ts all = tt

statement_words : (ts : Tokens) → AreOfLine ts → Holds GivesWords (written_of ts)
unfolding written_of
statement_words (Word w ∷ ts) all = by (keyword_of w) where
  by : (k : Option Keyword) → Holds GivesWords (begun k (Word w ∷ ts) ts)
  by (Some k) = begun_words k ts (All-tail IsOfLine (Word w) ts all)
  by None =
      then_any GivesWords (parted Equals (Word w ∷ ts)) _
      (λ sides. then_any GivesWords (designator_of sides.0) _ (λ to. then_any GivesWords (operand_of sides.1) _ (λ from. All-nil IsWord)))
statement_words ts all = tt

pub names_words : NamesAreWords
names_words = record { are_words = λ line s is. held GivesWords (written_of is.0) s (statement_words is.0 (are_of_line line is.0 is.1)) is.2 }
