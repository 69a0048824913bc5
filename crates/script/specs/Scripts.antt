-- A script, command by command, over whatever obeys its commands; and the listing of a whole one.
use Rattle.std.specs.Prelude.{ℕ, zero, suc, ◌+◌, ◌*◌, if◌then◌else◌, List, [], ◌∷◌, ◌++◌, length, take, drop}
use Rattle.std.specs.Prelude.{Some, None, Ok, Err, Option, Result, nat_lt}
use Rattle.std.specs.List.{concat}
use Rattle.stamps.specs.declared.refusal.Refusal.{Refusal}
use Rattle.stamps.specs.declared.refusal.Refusal.TheVariants.{ShortBuffer}
use Rattle.script.specs.declared.command.Command.{Command}
use Rattle.script.specs.declared.answer.Answer.{Answer}
use Rattle.script.specs.declared.answer.Answer.TheVariants.{Refused}
use Rattle.script.specs.Commands.{read_command}
use Rattle.script.specs.declared.script.ScriptOver.{ScriptOver}
use Rattle.script.specs.Lines.{line_of}
use Rattle.script.specs.ScriptGroups.{ScriptGroup, no_group, obey}

-- from a state and a command: the answer, or the refusal that ends the listing, and the state after it
abbrev pub Obey : Type 0 → Type 0
Obey S = S → Command → Result Answer Refusal × S

pub record ScriptState (S : Type 0) : Type 0 where
  -- what is left of the script
  pub rest : List ℕ
  -- how many lines there were
  pub lines : ℕ
  -- what obeys its commands
  pub group : S

abbrev pub script_state : {G S : Type 0} → (G → S) → ScriptOver G → ScriptState S
script_state state s = record { rest = s.rest.now; lines = s.lines; group = state s.group }

-- the bytes that are a script's: those past the first 65,535 are no part of it
abbrev pub script_of : List ℕ → List ℕ
script_of bytes = take 65535 bytes

-- a script as it begins
abbrev pub new_script : List ℕ → ScriptState ScriptGroup
new_script bytes = record { rest = script_of bytes; lines = 0; group = no_group }

-- a refusal that ends the listing is its last answer, and leaves no rest
abbrev pub end_with : {S : Type 0} → ScriptState S → Refusal → Answer × ScriptState S
end_with s why = (Refused why, record s { rest = [] })

-- a command was obeyed, or has ended the listing
abbrev pub after_obey : {S : Type 0} → ScriptState S → List ℕ → Result Answer Refusal × S → Answer × ScriptState S
after_obey s rest (Ok answer, g) = (answer, record s { rest = rest; group = g })
after_obey s rest (Err why, g) = end_with (record s { group = g }) why

abbrev pub after_read : {S : Type 0} → Obey S → ScriptState S → Result (Command × List ℕ) Refusal
    → Answer × ScriptState S
after_read act s (Err why) = end_with s why
after_read act s (Ok (command, rest)) = after_obey s rest (act s.group command)

-- what the next command answers, and the script after it
abbrev pub next_answer : {S : Type 0} → Obey S → ScriptState S → Answer × ScriptState S
next_answer act s = after_read act s (read_command s.rest)

-- an answer as the next line, and the script with this line counted
abbrev pub counted_line : {S : Type 0} → ℕ → Answer × ScriptState S → List ℕ × ScriptState S
counted_line letter (answer, s) = (line_of (s.lines + 1) letter answer, record s { lines = s.lines + 1 })

abbrev pub next_at : {S : Type 0} → Obey S → ScriptState S → List ℕ → Option (List ℕ × ScriptState S)
next_at act s [] = None
next_at act s (letter ∷ bytes) = Some (counted_line letter (next_answer act s))

-- the next line and the script after it, if bytes are left
abbrev pub next : {S : Type 0} → Obey S → ScriptState S → Option (List ℕ × ScriptState S)
next act s = next_at act s s.rest

-- a line goes to the start of a buffer, and the bytes past it stay; with no line nothing changes
abbrev pub line_into : {S : Type 0} → S → List ℕ → Option (List ℕ × S) → Result (Option ℕ) Refusal × S × List ℕ
line_into s buffer None = (Ok None, s, buffer)
line_into s buffer (Some (line, after)) = (Ok (Some (length line)), after, line ++ drop (length line) buffer)

-- the next line into a buffer; one under 96 bytes is refused before anything is done
abbrev pub next_line : {S : Type 0} → Obey S → ScriptState S → List ℕ
    → Result (Option ℕ) Refusal × ScriptState S × List ℕ
next_line act s buffer =
    if nat_lt (length buffer) 96 then (Err ShortBuffer, s, buffer) else line_into s buffer (next act s)

-- a line, if there is one, and more lines after it
abbrev pub lines_after : {S : Type 0} → (S → List (List ℕ)) → Option (List ℕ × S) → List (List ℕ)
lines_after more None = []
lines_after more (Some (line, s)) = line ∷ more s

-- the lines that follow, at most n of them
abbrev pub lines_from : ℕ → ScriptState ScriptGroup → List (List ℕ)
lines_from zero s = []
lines_from (suc n) s = lines_after (lines_from n) (next obey s)

-- the lines of a script: a command takes at least one byte, so there are at most as many as there are bytes
abbrev pub lines_of : List ℕ → List (List ℕ)
lines_of bytes = lines_from (length bytes) (new_script bytes)

-- the whole listing of a script
abbrev pub listing : List ℕ → List ℕ
listing bytes = concat (lines_of bytes)

-- the listing goes to the start of a buffer of at least 96 bytes for each line, and the bytes past it stay
abbrev pub listing_into : List ℕ → List ℕ → Result ℕ Refusal × List ℕ
listing_into bytes buffer =
    if nat_lt (length buffer) (96 * length (lines_of bytes)) then (Err ShortBuffer, buffer)
    else (Ok (length (listing bytes)), listing bytes ++ drop (length (listing bytes)) buffer)
