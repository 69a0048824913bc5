use Rattle.std.proofs.Common.{◌≡◌, ◌+◌, false, length}
use Rattle.std.specs.Prelude.{nat_lt}
use Rattle.script.proofs.Counts.{count_from}
use Rattle.script.proofs.list.count_lines.Given as goal

-- the lines so far, with those still to come, are those of the whole script
abbrev pub invariant-lines : goal.invariant-lines
invariant-lines l = l.count + count_from (length l.rest) (nat_lt 0 l.count) l.rest
    ≡ count_from (length l.initial.rest) false l.initial.rest

abbrev pub decreases-lines : goal.decreases-lines
decreases-lines l = length l.rest
