use Rattle.group.specs.Model.Events.{open_session}
use Rattle.group.proofs.Model.Reached.{still_reached}
use Rattle.group.proofs.group.Group.open_session.Goals as goal

pub invariant_of-self : goal.invariant_of-self
invariant_of-self g c = still_reached (open_session c.args.site) c.open_session.ensures.step c.self.invariant
