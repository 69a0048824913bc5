use Rattle.std.proofs.Common.{◌≡◌, ◌+◌, ◌≤◌, ◌++◌, length, drop}
use Rattle.group.specs.Model.Groups.{stable_at, cuts_at, cuts_of}
use Rattle.group.specs.Parts.{view}
use Rattle.group.proofs.group_parts.GroupParts.safe_rows.Given as goal

-- the rows so far and the cuts of the seats that are left, and there is room for a row for each
abbrev pub invariant-loop-seat : goal.invariant-loop-seat
invariant-loop-seat g l =
    (l.rows.items ++ cuts_of (view l.self) l.site (drop l.seat-index l.self.seats.places)
    ≡ stable_at (view l.self) l.site ++ cuts_at (view l.self) l.site)
    × (length l.rows.items ≤ 4 + l.seat-index)
