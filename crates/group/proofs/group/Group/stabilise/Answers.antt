use Rattle.group.specs.Model.Events.{stabilise}
use Rattle.group.proofs.Model.Reached.{still_reached}
use Rattle.group.proofs.group.Group.stabilise.Goals as goal

pub invariant_of-self : goal.invariant_of-self
invariant_of-self g c = still_reached (stabilise c.args.site c.args.partition) c.stabilise.ensures.step c.self.invariant
