use Rattle.std.proofs.Common.{arith}
use Rattle.servers.specs.Servers.{server_heartbeat}
use Rattle.group.specs.Parts.{view}
use Rattle.group.proofs.Views.{rest_of, on_server_lem, on_server_keeps}
use Rattle.group.proofs.group_parts.GroupParts.heartbeat.Goals as goal

pub returns : goal.returns
returns g c =
    let self = c.args.self.now in
    let rule = g.C.ClockRule.answer in
    let step =
    on_server_lem (rest_of self) self.servers c.args.site c.args.partition c.in_ok-place.place c.index.result
    c.index-self-index.result c.heartbeat.new.self (c.heartbeat.result)
    (server_heartbeat rule) c.in_ok-place.ensures.value (omega arith) (omega arith, omega arith) c.index.ensures
    c.heartbeat.ensures.step c.heartbeat.ensures.keeps
    in
    record {
      step = step;
      keeps = on_server_keeps (view self) _ c.args.site c.args.partition c.heartbeat.result (server_heartbeat rule)
          step;
    }
