use Rattle.std.proofs.Common.{◌≡◌, ◌≤◌, length, take}
use Rattle.std.specs.List.{AllByRecursion}
use Rattle.stamps.specs.Rows.{HasStamps}
use Rattle.stamps.specs.CommonFloors.{common_floor}
use Rattle.stamps.proofs.common_floor.meet_all.Given as goal

abbrev pub invariant-loop-row : goal.invariant-loop-row
invariant-loop-row g l =
    record {
      within : l.row-index ≤ length l.rows;
      stamps : AllByRecursion HasStamps (take l.row-index l.rows);
      value : g.K.MarkKind.meaning l.mark ≡ common_floor g.K.MarkKind.kind (take l.row-index l.rows);
    }
