use Rattle.group.specs.Model.Events.{tell}
use Rattle.group.proofs.Model.Reached.{still_reached}
use Rattle.group.proofs.group.Group.tell.Goals as goal

pub invariant_of-self : goal.invariant_of-self
invariant_of-self g c =
    still_reached (tell c.args.site c.args.partition c.args.time) c.tell.ensures.step c.self.invariant
