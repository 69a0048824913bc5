-- The law of the reader.
use Rattle.std.specs.Prelude.{◌≡◌, ℕ, List, ◌++◌, All, Ok, Result}
use Rattle.stamps.specs.declared.refusal.Refusal.{Refusal}
use Rattle.script.specs.declared.command.Command.{Command}
use Rattle.script.specs.Writing.{IsByte, OperandsFit, bytes_of}

-- The reader answers a command and a rest exactly where the script is the bytes of this command, followed by this rest.
pub record AnswersFirstCommand (script : List ℕ) (answer : Result (Command × List ℕ) Refusal) : Type 0 where
  -- what is read was written
  pub accepts : (command : Command) (rest : List ℕ) → answer ≡ Ok (command, rest)
      → OperandsFit command × (script ≡ bytes_of command ++ rest)
  -- what was written is read
  pub reads : (command : Command) (rest : List ℕ) → OperandsFit command → script ≡ bytes_of command ++ rest
      → answer ≡ Ok (command, rest)
  -- what is written is bytes
  pub bytes : (command : Command) → OperandsFit command → All IsByte (bytes_of command)
