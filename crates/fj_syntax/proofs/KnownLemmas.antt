-- The arguments of each statement, computed, and specifiers as they are compared.
use Rattle.std.proofs.Common.{◌≡◌, refl}
use Rattle.fj_modes.specs.FileName.{is_disk_name, is_file_name}
use Rattle.fj_syntax.specs.Calls.{inquire_of, open_of, transfer_of}
use Rattle.fj_syntax.specs.Given.{given_at, mode_at}
use Rattle.fj_syntax.specs.KnownLaws.{ArgumentsAreTaken}
use Rattle.fj_syntax.specs.Statement.{begun_by, written_of}
use Rattle.fj_syntax.specs.Words.{Specifier, keyword_of, same_specifier, specifier_of}
use Rattle.fj_syntax.specs.contracts.words.SpecifierPartialEq.TheImpl.{ghosts}
use Rattle.fj_syntax.specs.declared.words.Specifier.TheVariants.{Unit, Property}

pub taken : ArgumentsAreTaken
unfolding begun_by given_at inquire_of is_disk_name is_file_name keyword_of mode_at open_of specifier_of transfer_of written_of
taken = record { unit = refl; new_unit = refl; file = refl; rows_are = refl }

pub same_is : (a b : Specifier) → ghosts.eq a b ≡ same_specifier a b
same_is (Property p) (Property q) = refl
same_is a Unit = refl
same_is a b = refl
