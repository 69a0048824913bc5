use Rattle.std.proofs.Common.{◌≡◌}
use Rattle.group.specs.Model.Groups.{tabulate}
use Rattle.group.specs.Parts.{view}
use Rattle.group.proofs.group_parts.GroupParts.stable_rows.Given as goal

-- the rows of the partitions so far
abbrev pub invariant-loop-server : goal.invariant-loop-server
invariant-loop-server g l =
    l.rows.items ≡ tabulate (λ n. ((view l.self).server l.fn.site n).marks.stable) l.server-index
