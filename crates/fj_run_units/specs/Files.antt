-- The files of a disk that are at home.
use Rattle.std.specs.FinMap as files
use Rattle.fj_outside.specs.Holdings.{Holdings}
use Rattle.fj_meaning.specs.State.{Files}

abbrev pub files_of : Holdings → Files
files_of held = λ name. files.get held.files name
