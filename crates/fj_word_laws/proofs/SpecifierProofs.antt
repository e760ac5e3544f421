-- Each specifier of each statement, computed.
use Rattle.std.proofs.Common.{refl}
use Rattle.fj_modes.specs.FileName.{is_disk_name, is_file_name}
use Rattle.fj_syntax.specs.Calls.{inquire_of, open_of, transfer_of}
use Rattle.fj_syntax.specs.Given.{given_at, mode_at}
use Rattle.fj_syntax.specs.Words.{keyword_of, specifier_of}
use Rattle.fj_word_laws.specs.Specifiers.{OpenGives, ReadGives, WriteGives, CloseGives, InquireAsks}

pub open_gives : OpenGives
unfolding given_at inquire_of is_disk_name is_file_name keyword_of mode_at open_of specifier_of transfer_of
open_gives = record { status = refl; access = refl; form = refl; position = refl; action = refl; blank = refl; decimal = refl; delim = refl; pad = refl; sign = refl; asynchronous = refl; file = refl; recl = refl }

pub read_gives : ReadGives
unfolding given_at inquire_of is_disk_name is_file_name keyword_of mode_at open_of specifier_of transfer_of
read_gives = record { blank = refl; pad = refl; size = refl; decimal = refl; advance = refl; asynchronous = refl; rec_number = refl; rec_place = refl; pos_number = refl; pos_place = refl; id = refl; iostat = refl; group = refl; format = refl }

pub write_gives : WriteGives
unfolding given_at inquire_of is_disk_name is_file_name keyword_of mode_at open_of specifier_of transfer_of
write_gives = record { delim = refl; sign = refl; decimal = refl; advance = refl; asynchronous = refl; rec_number = refl; rec_place = refl; pos_number = refl; pos_place = refl; id = refl; iostat = refl; group = refl; format = refl }

pub close_gives : CloseGives
unfolding given_at inquire_of is_disk_name is_file_name keyword_of mode_at open_of specifier_of transfer_of
close_gives = refl

pub inquire_asks : InquireAsks
unfolding given_at inquire_of is_disk_name is_file_name keyword_of mode_at open_of specifier_of transfer_of
inquire_asks = record { exist = refl; opened = refl; number = refl; named = refl; name = refl; access = refl; form = refl; recl = refl; nextrec = refl; pos = refl; size = refl; blank = refl; delim = refl; pad = refl; decimal = refl; sign = refl; action = refl; asynchronous = refl; pending = refl }
