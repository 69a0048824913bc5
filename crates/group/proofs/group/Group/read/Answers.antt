use Rattle.group.specs.Model.Events.{read}
use Rattle.group.proofs.Model.Reached.{still_reached}
use Rattle.group.proofs.group.Group.read.Goals as goal

pub invariant_of-self : goal.invariant_of-self
invariant_of-self g c = still_reached (read c.args.ticket.now c.args.key) c.read.ensures.step c.self.invariant
