use Rattle.std.proofs.Common.{◌≡◌, subst, OnErr}
use Rattle.group.specs.Groups.{GroupRecord, view}
use Rattle.group.specs.Parts.{view as parts_view}
use Rattle.group.specs.Model.Calls.{step}
use Rattle.group.specs.Model.Events.{tidy}
use Rattle.group.proofs.Model.Reached.{still_reached}
use Rattle.group.proofs.group.Group.tidy.Goals as goal

pub invariant_of-self : goal.invariant_of-self
invariant_of-self g c = still_reached (tidy c.args.site c.args.partition) c.tidy.ensures.step c.self.invariant

pub returns : goal.returns
returns g c =
    let after = parts_view c.tidy.new.self in
    record {
      step = subst (λ (h : GroupRecord). (c.tidy.result, after)
          ≡ step g.C.ClockRule.answer g.K.MarkKind.kind (view h) (tidy c.args.site c.args.partition)) c.self.view_is
          c.tidy.ensures.step;
      keeps = subst (λ (h : GroupRecord). OnErr c.tidy.result (after ≡ view h)) c.self.view_is c.tidy.ensures.keeps;
    }
