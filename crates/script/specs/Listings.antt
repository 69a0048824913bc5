-- A script over a group that the caller made, of any clock rule and kind of mark; a whole one goes on so after its
-- layout.
use Rattle.std.specs.Prelude.{◌≡◌, ℕ, List, ◌++◌, take, Some, Ok, Option, codes}
use Rattle.std.specs.Option.{option_map}
use Rattle.group.specs.Model.Groups.{GroupState}
use Rattle.script.specs.declared.command.Command.TheVariants.{Layout}
use Rattle.script.specs.declared.answer.Answer.TheVariants.{Done}
use Rattle.script.specs.Commands.{code}
use Rattle.script.specs.Writing.{OperandsFit, bytes_of}
use Rattle.script.specs.declared.choice.Clock.{Clock}
use Rattle.script.specs.declared.choice.Marks.{Marks}
use Rattle.script.specs.Lines.{line_of}
use Rattle.script.specs.Scripts.{ScriptState, new_script, next}
use Rattle.script.specs.CommandCalls.{perform}
use Rattle.script.specs.ScriptGroups.{ScriptGroup, some_group, clock_rule_of, mark_kind_of, make_group, obey}

-- the commands after a layout: its line was the first, and its five bytes count among the 65,535 of a script
abbrev pub after_layout : GroupState → List ℕ → ScriptState GroupState
after_layout g bytes = record { rest = take 65530 bytes; lines = 1; group = g }

-- a listing over a group of a built clock rule and kind of mark, as the script that has made this group
abbrev pub as_script : Clock → Marks → ScriptState GroupState → ScriptState ScriptGroup
as_script clock marks s = record { rest = s.rest; lines = s.lines; group = some_group clock marks s.group }

-- the same of a next line and the script after it
abbrev pub line_as_script : Clock → Marks → Option (List ℕ × ScriptState GroupState)
    → Option (List ℕ × ScriptState ScriptGroup)
line_as_script clock marks = option_map (λ came. (came.0, as_script clock marks came.1))

-- A script whose layout makes a group is that layout and then the listing over this group.
pub record GoesOnAsScript : Type 0 where
  -- after its layout it stands where that listing begins
  pub begins : (sites partitions clock_letter marks_letter : ℕ) (bytes : List ℕ)
      (clock : Clock) (marks : Marks) (g : GroupState) →
      let layout = Layout sites partitions clock_letter marks_letter in
      OperandsFit layout → make_group layout ≡ Ok (some_group clock marks g)
      → next obey (new_script (bytes_of layout ++ bytes))
      ≡ Some (line_of 1 (code (codes "L")) Done, as_script clock marks (after_layout g bytes))
  -- then they go on alike
  pub then_alike : (clock : Clock) (marks : Marks) (s : ScriptState GroupState)
      → next obey (as_script clock marks s)
      ≡ line_as_script clock marks (next (perform (clock_rule_of clock) (mark_kind_of marks)) s)
