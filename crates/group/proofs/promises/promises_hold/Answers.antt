use Rattle.group.proofs.Model.Theorem.{keeps_promises}
use Rattle.group.proofs.promises.promises_hold.Goals as goal

pub returns : goal.returns
returns g c =
    keeps_promises g.met.K.MarkKind.lawful g.C.ClockRule.answer g.met.C.ClockRule.lawful c.args.sites c.args.partitions
