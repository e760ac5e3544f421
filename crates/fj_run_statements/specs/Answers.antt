-- Answers of INQUIRE, as the program and as plain data have them.
use Rattle.std.specs.Prelude.{◌≡◌}
use Rattle.fj_modes.specs.declared.asked.Question.{Question}
use Rattle.fj_inquire.specs.Inquiring as told
use Rattle.fj_meaning.specs.Inquiring.{About, Answer, truth, number, word, nothing, answer_to}

abbrev pub answer_of : told.Answer → Answer
answer_of (told.truth b) = truth b
answer_of (told.number n) = number n
answer_of (told.word cs) = word cs
answer_of told.nothing = nothing

-- each question has the same answer
abbrev pub AnswersAlike : told.About → About → Type 0
AnswersAlike about plain = (q : Question) → answer_of (told.answer_to about q) ≡ answer_to plain q
