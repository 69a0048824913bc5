use Rattle.group.specs.Model.Events.{deliver}
use Rattle.group.proofs.Model.Reached.{still_reached}
use Rattle.group.proofs.group.Group.deliver.Goals as goal

pub invariant_of-self : goal.invariant_of-self
invariant_of-self g c =
    still_reached (deliver c.args.from c.args.to c.args.partition) c.deliver.ensures.step c.self.invariant
