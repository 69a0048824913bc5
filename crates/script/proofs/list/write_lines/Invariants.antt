use Rattle.std.proofs.Common.{◌≡◌, ◌+◌, ◌*◌, ◌≤◌, ◌++◌, length, take, drop}
use Rattle.std.specs.List.{All, concat}
use Rattle.script.specs.Laws.{IsShort}
use Rattle.script.specs.Scripts.{script_state}
use Rattle.script.specs.ScriptGroups.{script_group}
use Rattle.script.proofs.LinesLeft.{lines_left}
use Rattle.script.proofs.list.write_lines.Given as goal

-- what is written, with the lines still to come, is the whole listing; what lies behind it is as it was, and there is
-- room for the lines to come; where these are short, all are
abbrev pub invariant-lines : goal.invariant-lines
invariant-lines l =
    record {
      written : take l.end l.buffer ++ concat (lines_left (script_state script_group l.script))
          ≡ concat (lines_left (script_state script_group l.initial.script));
      behind : drop l.end l.buffer ≡ drop l.end l.initial.buffer;
      room : l.end + 96 * length (lines_left (script_state script_group l.script)) ≤ length l.buffer;
      each : All IsShort (lines_left (script_state script_group l.script))
          → All IsShort (lines_left (script_state script_group l.initial.script));
      short : l.end + 96 * length (lines_left (script_state script_group l.script)) ≤ 96 * length
          (lines_left (script_state script_group l.initial.script));
    }

abbrev pub decreases-lines : goal.decreases-lines
decreases-lines l = length l.script.rest.now
