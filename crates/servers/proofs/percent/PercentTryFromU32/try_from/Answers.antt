use Rattle.servers.proofs.CheckedPercents.{checked_fits}
use Rattle.servers.proofs.percent.PercentTryFromU32.try_from.Goals as goal

pub returns : goal.returns
returns c = checked_fits c.args.hundredths _
