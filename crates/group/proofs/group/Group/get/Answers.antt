use Rattle.group.specs.Model.Events.{get}
use Rattle.group.proofs.Model.Reached.{still_reached}
use Rattle.group.proofs.group.Group.get.Goals as goal

pub invariant_of-self : goal.invariant_of-self
invariant_of-self g c = still_reached (get c.args.session c.args.key) c.get.ensures.step c.self.invariant
