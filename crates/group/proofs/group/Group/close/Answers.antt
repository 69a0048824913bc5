use Rattle.group.specs.Model.Events.{close}
use Rattle.group.proofs.Model.Reached.{still_reached}
use Rattle.group.proofs.group.Group.close.Goals as goal

pub invariant_of-self : goal.invariant_of-self
invariant_of-self g c = still_reached (close c.args.ticket) c.close.ensures.step c.self.invariant
