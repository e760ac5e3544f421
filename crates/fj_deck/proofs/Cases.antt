-- The definitions at worked cases.
use Rattle.std.proofs.Common.{◌≡◌, true, false, [], ◌∷◌, ◌++◌, Ok, None, refl, codes, replicate, rules, lit<, lit≤}
use Rattle.fj_statement.specs.declared.reason.Reason.TheVariants.{LineTooLong, NoEnd}
use Rattle.fj_modes.specs.declared.motion.Motion.TheVariants.{Rewind}
use Rattle.fj_statement.specs.declared.unit.UnitRef.TheVariants.{Number}
use Rattle.fj_statement.specs.declared.statement.Statement.TheVariants.{End, Move}
use Rattle.fj_syntax.specs.Parsing.{IsStatement}
use Rattle.fj_syntax.specs.Statement.{written_of, begun_by}
use Rattle.fj_syntax.specs.Words.{keyword_of}
use Rattle.fj_syntax.specs.Tokens.{AreTokens}
use Rattle.fj_syntax.specs.declared.token.Token.TheVariants as token
use Rattle.fj_syntax.specs.declared.written.Written.TheVariants as written
use Rattle.fj_names.specs.Meaning.{Means, meaning, is_within_limits}
use Rattle.fj_deck.specs.Deck.{IsDeck, IsRefused}
use Rattle.fj_deck.specs.Line.{empty, is_misplaced, with_statement, LineIs, Stating}

-- no line, and two lines without a statement
pub nothing : IsRefused [] 1 NoEnd
nothing = IsRefused.endless empty (lit≤ tt) refl refl

pub no_statements : IsRefused (33 ∷ 120 ∷ 10 ∷ 32 ∷ 10 ∷ []) 3 NoEnd
no_statements =
    IsRefused.endless empty (lit≤ tt)
    (empty, LineIs.blank (lit≤ tt) (AreTokens.end (33 ∷ 120 ∷ []) refl), (empty, LineIs.blank (lit≤ tt) (AreTokens.end (32 ∷ []) refl), refl)) refl

-- `end`
is_end : IsStatement (codes "end") written.End
unfolding written_of keyword_of begun_by
is_end = (
  token.Word (codes "END") ∷ [],
  AreTokens.token (codes "end") (codes "end") [] refl (record { letter = refl; run = record { all = search rules; some = lit< tt; short = lit≤ tt; ends = refl }; upper = refl }) (AreTokens.end [] refl),
  refl,
)

end_means : Means empty.names written.End (Ok End)
unfolding meaning is_within_limits
end_means = record { items = None; format = tt; is = refl; within = refl }

pub an_end : IsDeck (codes "end") (record { variables = []; groups = []; statements = record { line = 1; what = End } ∷ [] })
an_end = record {
  short = lit≤ tt;
  last = with_statement empty 1 End;
  good = (with_statement empty 1 End, LineIs.placed written.End (lit≤ tt) is_end refl (Stating.added End end_means (lit< tt)), refl);
  ended = refl;
  is = refl;
}

-- a comment, and a line of 1,001 blanks, which is the first that is refused, whatever is behind it
pub a_long_line : IsRefused (33 ∷ 10 ∷ (replicate 1001 32 ++ 10 ∷ 63 ∷ [])) 2 LineTooLong
a_long_line =
    IsRefused.bad ((33 ∷ []) ∷ []) (replicate 1001 32) ((63 ∷ []) ∷ []) (lit≤ tt) refl (empty, LineIs.blank (lit≤ tt) (AreTokens.end (33 ∷ []) refl), refl) (LineIs.long (lit< tt))

-- END behind END, and NAMELIST behind a statement and before it
pub an_end_behind_end : is_misplaced (with_statement empty 1 End) written.End ≡ true
an_end_behind_end = refl

pub a_group_behind_a_statement : is_misplaced (with_statement empty 1 (Move Rewind (Number 10) None)) (written.Group (record { name = codes "G"; members = [] })) ≡ true
a_group_behind_a_statement = refl

pub a_group : is_misplaced empty (written.Group (record { name = codes "G"; members = [] })) ≡ false
a_group = refl

pub a_statement_behind_another : is_misplaced (with_statement empty 1 (Move Rewind (Number 10) None)) written.End ≡ false
a_statement_behind_another = refl
