use Rattle.group.specs.Model.Events.{heartbeat}
use Rattle.group.proofs.Model.Reached.{still_reached}
use Rattle.group.proofs.group.Group.heartbeat.Goals as goal

pub invariant_of-self : goal.invariant_of-self
invariant_of-self g c = still_reached (heartbeat c.args.site c.args.partition) c.heartbeat.ensures.step c.self.invariant
