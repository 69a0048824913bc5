use Rattle.std.proofs.Common.{◌≡◌, length, drop}
use Rattle.servers.specs.Tables.{latest, latest_from}
use Rattle.servers.proofs.Seeking.{standing, within, nothing}
use Rattle.servers.proofs.table.VersionTable.latest.Given as goal

-- what is left leads from what was found to the answer
abbrev pub invariant-loop-i : goal.invariant-loop-i
invariant-loop-i g l =
    let test = g.T.VersionTest.passes l.test in
    let vs = l.versions in
    within l.found (length l.versions)
    × (latest_from test l.key (standing nothing vs l.found) (drop l.i vs) ≡ latest test l.key vs)
