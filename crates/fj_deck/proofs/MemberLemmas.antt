-- A group has no more members than its line has bytes.
use Rattle.std.proofs.Common.{◌≡◌, ℕ, ◌+◌, ◌≤◌, List, [], ◌∷◌, length, Option, Some, None, refl, ap, ◌∙◌, arith, codes}
use Rattle.std.specs.Str.{bytes_eq}
use Rattle.std.proofs.lemmas.List.Splits.{length-slice_split}
use Rattle.std.proofs.lemmas.List.Sums.{count_by-le-length}
use Rattle.fj_value.specs.declared.kind.Kind.{Kind}
use Rattle.fj_value.specs.declared.kind.Kind.TheVariants.{Logical}
use Rattle.fj_modes.specs.declared.motion.Motion.{Motion}
use Rattle.fj_modes.specs.declared.motion.Motion.TheVariants.{Endfile}
use Rattle.fj_syntax.specs.Arguments.{call_of}
use Rattle.fj_syntax.specs.Calls.{open_of, close_of, wait_of, move_of, inquire_of, transfer_of}
use Rattle.fj_syntax.specs.FirstToken.{first_token}
use Rattle.fj_syntax.specs.Given.{bare_unit}
use Rattle.fj_syntax.specs.Parsing.{IsStatement}
use Rattle.fj_syntax.specs.Parts.{Tokens, cut, designator_of, is_mark, is_name, list_of, name_of, operand_of, parted}
use Rattle.fj_syntax.specs.Reading.{◌>>=◌}
use Rattle.fj_syntax.specs.Statement.{begun, begun_by, behind_colons, character_kind, declaration_of, group_of, integer_kind, items_of, motion_from, number_in, written_of}
use Rattle.fj_syntax.specs.Tokens.{AreTokens, end, token}
use Rattle.fj_syntax.specs.Words.{keyword_of}
use Rattle.fj_syntax.specs.declared.token.Mark.TheVariants.{Comma, Equals, LeftParenthesis, Slash}
use Rattle.fj_syntax.specs.declared.token.Token.TheVariants.{Word, Mark}
use Rattle.fj_syntax.specs.declared.words.Keyword.{Keyword}
use Rattle.fj_syntax.specs.declared.words.Keyword.TheVariants as keyword
use Rattle.fj_syntax.specs.declared.written.Written.{Written}
use Rattle.fj_syntax.specs.declared.written.Written.TheVariants as written
use Rattle.fj_syntax.proofs.Holding.{Holds, held, then_any, where_holds}
use Rattle.fj_syntax.proofs.ParseLemmas.{shorter}
use Rattle.fj_syntax.proofs.TokenLemmas.{first_again}
use Rattle.fj_names.proofs.StatementSound.{each_length}

-- ---- a line has no more tokens than bytes

tokens_few : (line : List ℕ) (ts : Tokens) → AreTokens line ts → length ts ≤ length line
tokens_few _ _ (end line is) = omega arith
tokens_few _ _ (token line bytes rest {first = t} {tokens = ts} e is more) =
    let less = shorter line rest t (ap first_token e ∙ first_again t bytes rest is) in
    let few = tokens_few rest ts more in
    omega arith

-- ---- a group has no more members than its declaration has tokens

-- no more members than so many, where it is a group
abbrev pub HasFew : ℕ → Written → Type 0
HasFew most (written.Group g) = length g.members ≤ most
HasFew most w = Unit {0}

names_few : (ts : Tokens) (names : List (List ℕ)) → list_of name_of ts ≡ Some names → length names ≤ length ts + 1
names_few ts names h = omega (arith, each_length name_of (cut ts) names h, length-slice_split (is_mark Comma) ts, count_by-le-length (is_mark Comma) ts)

group_few : (most : ℕ) (ts : Tokens) → length ts ≤ most → Holds (HasFew most) (group_of ts)
group_few most (Mark Slash ∷ Word name ∷ Mark Slash ∷ ts) short = where_holds (HasFew most) (is_name name) _ (by (list_of name_of ts) refl) where
  by : (o : Option (List (List ℕ))) → list_of name_of ts ≡ o → Holds (HasFew most) (o >>= (λ names. Some (written.Group (record { name = name; members = names }))))
  by None h = tt
  by (Some names) h = let few = names_few ts names h in omega arith
group_few most ts short = tt

-- what is no group

declaration_few : (most : ℕ) (kind : Option Kind) (ts : Tokens) → Holds (HasFew most) (declaration_of kind ts)
declaration_few most kind ts = then_any (HasFew most) kind _ (λ k. then_any (HasFew most) (list_of designator_of (behind_colons ts)) _ (λ entities. tt))

motion_few : (most : ℕ) (how : Motion) (ts : Tokens) → Holds (HasFew most) (motion_from how ts)
motion_few most how (Mark LeftParenthesis ∷ ts) = then_any (HasFew most) (move_of how (Mark LeftParenthesis ∷ ts)) (λ m. Some (written.Move m)) (λ m. tt)
motion_few most how ts = then_any (HasFew most) (bare_unit ts) (λ u. Some (written.Move (record { unit = u; what = how; iostat = None }))) (λ u. tt)

-- ---- each statement by its keyword

begun_few : (most : ℕ) (k : Keyword) (ts : Tokens) → length ts ≤ most → Holds (HasFew most) (begun_by k ts)
unfolding begun_by
begun_few most keyword.Integer ts short = then_any (HasFew most) (number_in (codes "KIND") 4 ts) _ (λ n. declaration_few most (integer_kind n.0) n.1)
begun_few most keyword.Logical ts short = declaration_few most (Some Logical) ts
begun_few most keyword.Character ts short = then_any (HasFew most) (number_in (codes "LEN") 1 ts) _ (λ n. declaration_few most (character_kind n.0) n.1)
begun_few most keyword.Namelist ts short = group_few most ts short
begun_few most keyword.Open ts short = then_any (HasFew most) (open_of ts) _ (λ o. tt)
begun_few most keyword.Close ts short = then_any (HasFew most) (close_of ts) _ (λ c. tt)
begun_few most (keyword.Transfer input) ts short =
    then_any (HasFew most) (call_of (keyword.Transfer input) ts) _ (λ c. then_any (HasFew most) (items_of c.1) _ (λ items. then_any (HasFew most) (transfer_of input c.0 items) _ (λ t. tt)))
begun_few most keyword.Wait ts short = then_any (HasFew most) (wait_of ts) _ (λ w. tt)
begun_few most (keyword.Move how) ts short = motion_few most how ts
begun_few most keyword.Inquire ts short = then_any (HasFew most) (inquire_of ts) _ (λ i. tt)
begun_few most keyword.End [] short = tt
begun_few most keyword.End (Word w ∷ ts) short = where_holds (HasFew most) (bytes_eq w (codes "FILE")) _ (motion_few most Endfile ts)
begun_few most keyword.End ts short = tt

statement_few : (most : ℕ) (ts : Tokens) → length ts ≤ most → Holds (HasFew most) (written_of ts)
unfolding written_of
statement_few most (Word w ∷ ts) short = by (keyword_of w) where
  by : (k : Option Keyword) → Holds (HasFew most) (begun k (Word w ∷ ts) ts)
  by (Some k) = begun_few most k ts (omega arith)
  by None =
      then_any (HasFew most) (parted Equals (Word w ∷ ts)) _
      (λ sides. then_any (HasFew most) (designator_of sides.0) _ (λ to. then_any (HasFew most) (operand_of sides.1) _ (λ from. tt)))
statement_few most ts short = tt

pub members_few : (line : List ℕ) (w : Written) (most : ℕ) → length line ≤ most → IsStatement line w → HasFew most w
members_few line w most short is =
    let few = tokens_few line is.0 is.1 in
    held (HasFew most) (written_of is.0) w (statement_few most is.0 (omega arith)) is.2
