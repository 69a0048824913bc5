use Rattle.std.proofs.Common.{Some, None, Ok, slice_get, sym, refl, ap, ◌∙◌}
use Rattle.servers.specs.Servers.{ServerState, view as server_view}
use Rattle.group.specs.Model.Groups.{session_at}
use Rattle.group.specs.Model.Calls.{show}
use Rattle.group.specs.Parts.{view}
use Rattle.group.proofs.Views.{at_numbers}
use Rattle.group.proofs.Sessions.{gets}
use Rattle.group.proofs.group_parts.GroupParts.get.Goals as goal

pub returns : goal.returns
returns g c =
    let before = view c.args.self.now in
    let mid = view c.learn-place.new.self in
    let k = g.K.MarkKind.kind in
    let p = c.partition_of-partition.result in
    let s = server_view c.server.result.now in
    let index = c.in-Some.index in
    record {
      step =
          gets k before mid (view c.show.new.self) c.args.session c.args.key p s (slice_get s.held index)
          (Ok (Some c.show.result)) (sym c.if-not-has_session.ensures) c.partition_of-partition.ensures
          c.learn-place.ensures.state
          (c.server.ensures ∙ at_numbers mid c.learn-place.result (session_at before c.args.session).site p
          c.learn-place.ensures.place)
          c.in-Some.ensures.value
          (c.show.ensures ∙ ap (λ (t : ServerState). show k mid c.args.session (slice_get t.held index))
          (sym c.server.ensures));
      keeps = tt;
    }

pub returns-in_default : goal.returns-in_default
returns-in_default g c =
    let before = view c.args.self.now in
    let mid = view c.learn-place.new.self in
    let k = g.K.MarkKind.kind in
    let p = c.partition_of-partition.result in
    record {
      step =
          gets k before mid mid c.args.session c.args.key p (server_view c.server.result.now) None
          (Ok None) (sym c.if-not-has_session.ensures) c.partition_of-partition.ensures c.learn-place.ensures.state
          (c.server.ensures ∙ at_numbers mid c.learn-place.result (session_at before c.args.session).site p
          c.learn-place.ensures.place)
          c.in_default.ensures.value refl;
      keeps = tt;
    }
