use Rattle.group.specs.Model.Events.{report}
use Rattle.group.proofs.Model.Reached.{still_reached}
use Rattle.group.proofs.group.Group.report.Goals as goal

pub invariant_of-self : goal.invariant_of-self
invariant_of-self g c = still_reached (report c.args.site c.args.partition) c.report.ensures.step c.self.invariant
