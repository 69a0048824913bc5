use Rattle.std.proofs.Common.{◌≡◌}
use Rattle.stamps.proofs.Greatest.{up_to}
use Rattle.stamps.proofs.row.Row.greatest.Given as goal

abbrev pub invariant-loop-entry : goal.invariant-loop-entry
invariant-loop-entry l = l.best ≡ up_to l.self l.entry-index
