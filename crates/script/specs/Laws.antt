-- The law of a listing: what commands answer, one after the other.
use Rattle.std.specs.Prelude.{◌≡◌, ℕ, ◌+◌, ◌≤◌, List, [], ◌∷◌, ◌++◌, length, map, All}
use Rattle.std.specs.Prelude.{Some, None, Ok, Err, Option, Result}
use Rattle.std.specs.List.{concat}
use Rattle.stamps.specs.declared.refusal.Refusal.{Refusal}
use Rattle.stamps.specs.declared.refusal.Refusal.TheVariants.{ShortCommand, UnknownLetter}
use Rattle.script.specs.declared.command.Command.{Command}
use Rattle.script.specs.declared.answer.Answer.{Answer}
use Rattle.script.specs.declared.answer.Answer.TheVariants.{Refused}
use Rattle.script.specs.Commands.{Form, code, form_of}
use Rattle.script.specs.Writing.{OperandsFit, bytes_of}
use Rattle.script.specs.Lines.{line_of}
use Rattle.script.specs.Scripts.{script_of}
use Rattle.script.specs.ScriptGroups.{ScriptGroup, no_group, obey}

-- the code of a command's letter
abbrev pub letter_of : Command → ℕ
letter_of command = code (bytes_of command)

-- why no command is read at a letter: no command has it, or too few bytes are left
abbrev pub reading_refusal : Option Form → Refusal
reading_refusal None = UnknownLetter
reading_refusal (Some form) = ShortCommand

-- what a rest answers that begins no command
abbrev pub rest_answers : List ℕ → List (ℕ × Answer)
rest_answers [] = []
rest_answers (letter ∷ bytes) = (letter, Refused (reading_refusal (form_of letter))) ∷ []

-- an answer, and those after it; a refusal that ends the listing is the last
abbrev pub answers_from : ℕ → (ScriptGroup → List (ℕ × Answer))
    → Result Answer Refusal × ScriptGroup → List (ℕ × Answer)
answers_from letter more (Ok answer, after) = (letter, answer) ∷ more after
answers_from letter more (Err why, after) = (letter, Refused why) ∷ []

-- what commands and a rest answer, one after the other, each with the code of its letter
abbrev pub answers : ScriptGroup → List Command → List ℕ → List (ℕ × Answer)
answers group [] rest = rest_answers rest
answers group (command ∷ commands) rest =
    answers_from (letter_of command) (λ after. answers after commands rest) (obey group command)

-- the lines of answers, numbered from a number on
abbrev pub answer_lines : ℕ → List (ℕ × Answer) → List (List ℕ)
answer_lines number [] = []
answer_lines number ((letter, answer) ∷ more) = line_of number letter answer ∷ answer_lines (number + 1) more

-- the lines of a script that is commands and a rest
abbrev pub lines_for : List Command → List ℕ → List (List ℕ)
lines_for commands rest = answer_lines 1 (answers no_group commands rest)

abbrev pub IsShort : List ℕ → Type 0
IsShort line = length line ≤ 96

-- A script that is commands whose operands fit, one after the other, and a rest that begins no command.
pub record IsScript (script : List ℕ) (commands : List Command) (rest : List ℕ) : Type 0 where
  pub fits : All OperandsFit commands
  pub bytes : script ≡ concat (map bytes_of commands) ++ rest
  pub ends : (command : Command) (after : List ℕ) → OperandsFit command → rest ≡ bytes_of command ++ after → ⊥

-- A text is the listing of bytes, of which the first 65,535 are a script.
pub record IsListing (bytes text : List ℕ) : Type 0 where
  -- every script is commands and a rest
  pub every : (commands : List Command) × (rest : List ℕ) × IsScript (script_of bytes) commands rest
  -- the text is the lines of their answers, and each of these lines is short
  pub lines : (commands : List Command) (rest : List ℕ) → IsScript (script_of bytes) commands rest
      → (text ≡ concat (lines_for commands rest)) × All IsShort (lines_for commands rest)
