use Rattle.std.proofs.Common.{arith}
use Rattle.script.proofs.Counts.{lines_most}
use Rattle.script.proofs.list.list_into.Goals as goal

pub returns-clause-few : goal.returns-clause-few
returns-clause-few c = omega (arith, c.write_lines.ensures.short, lines_most c.args.bytes.now)
