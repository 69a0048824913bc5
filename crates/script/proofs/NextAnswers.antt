-- Steps of a script, over whatever obeys its commands.
use Rattle.std.proofs.Common.{◌≡◌, ℕ, ◌<◌, ◌≤◌, List, [], ◌∷◌, length, get_or, Some, Ok, Err, Result, sym, refl, ap}
use Rattle.std.proofs.Common.{◌∙◌, arith}
use Rattle.std.proofs.lemmas.List.{length-take}
use Rattle.stamps.specs.declared.refusal.Refusal.{Refusal}
use Rattle.script.specs.declared.command.Command.{Command}
use Rattle.script.specs.Commands.{read_command}
use Rattle.script.specs.declared.answer.Answer.{Answer}
use Rattle.script.specs.Scripts.{Obey, ScriptState, new_script, next, next_at, counted_line, next_answer, after_read}
use Rattle.script.specs.Scripts.{after_obey}

module _ {S : Type 0} (act : Obey S) (s : ScriptState S) where
  -- a command that was read and obeyed is the step
  pub read_obeyed : (command : Command) (rest : List ℕ) (outcome : Result Answer Refusal × S)
      → Ok (command, rest) ≡ read_command s.rest → outcome ≡ act s.group command
      → after_obey s rest outcome ≡ next_answer act s
  read_obeyed command rest outcome reads obeys = ap (after_obey s rest) obeys ∙ ap (after_read act s) reads

  -- a step counts no line
  pub next_answer_lines : (next_answer act s).1.lines ≡ s.lines
  next_answer_lines = by_read (read_command s.rest)
    where
      by_outcome : (rest : List ℕ) (outcome : Result Answer Refusal × S) → (after_obey s rest outcome).1.lines ≡ s.lines
      by_outcome rest (Ok answer, g) = refl
      by_outcome rest (Err why, g) = refl

      by_read : (r : Result (Command × List ℕ) Refusal) → (after_read act s r).1.lines ≡ s.lines
      by_read (Err why) = refl
      by_read (Ok (command, rest)) = by_outcome rest (act s.group command)

  -- where bytes are left, the next line is that of the step
  pub next_is : (letter : ℕ) → 0 < length s.rest → get_or s.rest 0 0 ≡ letter
      → Some (counted_line letter (next_answer act s)) ≡ next act s
  next_is letter some first = go s.rest some first
    where
      go : (bytes : List ℕ) → 0 < length bytes → get_or bytes 0 0 ≡ letter
          → Some (counted_line letter (next_answer act s)) ≡ next_at act s bytes
      go [] h e = absurd (omega arith)
      go (b ∷ bytes) h e = ap (λ l. Some (counted_line l (next_answer act s))) (sym e)

-- a script has at most 65,535 bytes
pub length-new_script : (bytes : List ℕ) → length (new_script bytes).rest ≤ 65535
length-new_script bytes = let e = length-take 65535 bytes in omega arith

pub new_script_within : (bytes : List ℕ) → length (new_script bytes).rest ≤ length bytes
new_script_within bytes = let e = length-take 65535 bytes in omega arith
