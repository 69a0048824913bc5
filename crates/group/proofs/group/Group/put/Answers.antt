use Rattle.group.specs.Model.Events.{put}
use Rattle.group.proofs.Model.Reached.{still_reached}
use Rattle.group.proofs.group.Group.put.Goals as goal

pub invariant_of-self : goal.invariant_of-self
invariant_of-self g c =
    still_reached (put c.args.session c.args.key c.args.kind c.args.amount) c.put.ensures.step c.self.invariant
