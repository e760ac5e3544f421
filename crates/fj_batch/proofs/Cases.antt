-- The definitions computed at worked cases.
use Rattle.std.proofs.Common.{◌≡◌, ◌+◌, List, [], ◌∷◌, Some, None, lit<, refl, codes}
use Rattle.std.specs.Fmt.{decimal}
use Rattle.std.proofs.lemmas.Fmt.{decimal_digit}
use Rattle.fj_value.specs.Digits.{number_in}
use Rattle.fj_statement.specs.declared.reason.Reason.TheVariants.{Meaning}
use Rattle.fj_report.specs.declared.status.Status.TheVariants.{Ended, DeckRefused}
use Rattle.fj_report.specs.Words.{number_up_to}
use Rattle.fj_batch.specs.declared.member.Member.{Member}
use Rattle.fj_batch.specs.Words.{batch_of, behind_batch, are_names, workers_for}
use Rattle.fj_batch.specs.Bytes.{batch_text, last_line}
use Rattle.fj_batch.specs.Members.{greatest_exit}

pub record WordsAreRight : Type 0 where
  pub one : batch_of (codes "batch" ∷ codes "A" ∷ []) ≡ Some (1, codes "A" ∷ [])
  pub behind : batch_of (codes "batch" ∷ codes "--workers" ∷ codes "4" ∷ codes "A" ∷ codes "a" ∷ []) ≡ Some (4, codes "A" ∷ codes "a" ∷ [])
  pub joined : batch_of (codes "batch" ∷ codes "--workers=0" ∷ codes "07" ∷ []) ≡ Some (0, codes "07" ∷ [])
  pub sixteen : batch_of (codes "batch" ∷ codes "abcdefghijklmnop" ∷ []) ≡ Some (1, codes "abcdefghijklmnop" ∷ [])
  pub seventeen : batch_of (codes "batch" ∷ codes "abcdefghijklmnopq" ∷ []) ≡ None
  pub no_letter : batch_of (codes "batch" ∷ codes "a_b" ∷ []) ≡ None
  pub empty : batch_of (codes "batch" ∷ codes "A" ∷ [] ∷ []) ≡ None
  pub twice : batch_of (codes "batch" ∷ codes "A" ∷ codes "B" ∷ codes "A" ∷ []) ≡ None
  pub five : batch_of (codes "batch" ∷ codes "--workers" ∷ codes "5" ∷ codes "A" ∷ []) ≡ None
  pub no_number : batch_of (codes "batch" ∷ codes "--workers=" ∷ codes "A" ∷ []) ≡ None
  pub last : batch_of (codes "batch" ∷ codes "A" ∷ codes "--workers=1" ∷ []) ≡ None
  pub nobody : batch_of (codes "batch" ∷ codes "--workers" ∷ codes "1" ∷ []) ≡ None
  pub other : batch_of (codes "run" ∷ codes "A" ∷ []) ≡ None
  pub named : workers_for (codes "batch" ∷ codes "--workers=3" ∷ codes "A" ∷ codes "B" ∷ []) (codes "A" ∷ codes "B" ∷ []) ≡ Some 3
  pub in_order : workers_for (codes "batch" ∷ codes "A" ∷ codes "B" ∷ []) (codes "B" ∷ codes "A" ∷ []) ≡ None
  pub fewer : workers_for (codes "batch" ∷ codes "A" ∷ codes "B" ∷ []) (codes "A" ∷ []) ≡ None

pub words_are_right : WordsAreRight
unfolding batch_of behind_batch are_names number_up_to number_in
words_are_right = record {
  one = refl;
  behind = refl;
  joined = refl;
  sixteen = refl;
  seventeen = refl;
  no_letter = refl;
  empty = refl;
  twice = refl;
  five = refl;
  no_number = refl;
  last = refl;
  nobody = refl;
  other = refl;
  named = refl;
  in_order = refl;
  fewer = refl;
}

one_1 : decimal 1 ≡ (48 + 1) ∷ []
one_1 = decimal_digit 1 (lit< tt)

one_2 : decimal 2 ≡ (48 + 2) ∷ []
one_2 = decimal_digit 2 (lit< tt)

abbrev two_members : List (Member (Unit {0}) (Unit {0}))
two_members =
    record { name = codes "A"; deck = tt; disk = tt; out = codes "= ended\n"; status = Some Ended }
    ∷ record { name = codes "B"; deck = tt; disk = tt; out = codes "= refused at 1: meaning\n"; status = Some (DeckRefused 1 Meaning) } ∷ []

pub record BytesAreRight : Type 0 where
  pub printed : batch_text two_members ≡ codes "% A\n= ended\n% B\n= refused at 1: meaning\n= batch 2 decks, 1 ended\n"
  pub greatest : greatest_exit two_members ≡ 4

pub bytes_are_right : BytesAreRight
unfolding last_line
bytes_are_right = record {
  printed = rw (one_2, one_1) refl;
  greatest = refl;
}
