-- Where a listing ends: the commands alone decide it, whatever a group answers. For functions inside the crate.
use Rattle.std.specs.Prelude.{ℕ, Bool, true, false, if◌then◌else◌, List, [], Ok, Err, Result, is_ok}
use Rattle.stamps.specs.declared.refusal.Refusal.{Refusal}
use Rattle.script.specs.declared.command.Command.{Command}
use Rattle.script.specs.declared.command.Command.TheVariants.{Layout}
use Rattle.script.specs.Commands.{read_command}
use Rattle.script.specs.ScriptGroups.{make_group}

-- whether the listing goes on after a command, by whether a group was made before it
abbrev pub goes_on : Bool → Command → Bool
goes_on false command = is_ok (make_group command)
goes_on true (Layout sites partitions clock marks) = false
goes_on true command = true

-- what is left after the next command was read: nothing if it ends the listing
abbrev pub rest_of_read : Bool → Result (Command × List ℕ) Refusal → List ℕ
rest_of_read has_group (Err why) = []
rest_of_read has_group (Ok (command, rest)) = if goes_on has_group command then rest else []

abbrev pub rest_after : Bool → List ℕ → List ℕ
rest_after has_group bytes = rest_of_read has_group (read_command bytes)
