-- The line of a command.
use Rattle.std.specs.Prelude.{ℕ, List, ◌∷◌, ◌++◌, Some, None, Option, codes, decimal}
use Rattle.script.specs.Commands.{Form, code, form_of}
use Rattle.script.specs.Answers.{answer_text}
use Rattle.script.specs.declared.answer.Answer.{Answer}

-- a letter that no command has is listed as a question mark
abbrev pub letter_byte_of : Option Form → ℕ → ℕ
letter_byte_of None letter = code (codes "?")
letter_byte_of (Some form) letter = letter

abbrev pub letter_byte : ℕ → ℕ
letter_byte letter = letter_byte_of (form_of letter) letter

-- the line of a command: its number, its letter, its answer
abbrev pub line_of : ℕ → ℕ → Answer → List ℕ
line_of number letter answer =
    decimal number ++ codes " " ++ letter_byte letter ∷ codes " " ++ answer_text answer ++ codes "\n"
