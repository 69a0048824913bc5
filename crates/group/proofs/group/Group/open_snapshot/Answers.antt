use Rattle.group.specs.Model.Events.{open_snapshot}
use Rattle.group.proofs.Model.Reached.{still_reached}
use Rattle.group.proofs.group.Group.open_snapshot.Goals as goal

pub invariant_of-self : goal.invariant_of-self
invariant_of-self g c =
    still_reached (open_snapshot c.args.session c.args.partition) c.open_snapshot.ensures.step c.self.invariant
