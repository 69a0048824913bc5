use Rattle.std.proofs.Common.{subst}
use Rattle.std.proofs.Math.Logic.{∥∥₁_map}
use Rattle.group.specs.Groups.{view}
use Rattle.group.specs.Model.Reached.{StillKeeps}
use Rattle.group.proofs.Model.Reached.{reached_keeps}
use Rattle.group.proofs.group.Group.promises.Goals as goal

pub returns : goal.returns
returns g c =
    subst (λ h. ∥ StillKeeps g.C.ClockRule.answer g.K.MarkKind.kind (view h) ∥₁) c.self.view_is
    (∥∥₁_map c.self.invariant (reached_keeps g.met.K.MarkKind.lawful g.met.C.ClockRule.lawful))
