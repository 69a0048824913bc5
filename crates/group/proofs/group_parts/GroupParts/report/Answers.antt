use Rattle.std.proofs.Common.{Ok, ap, arith}
use Rattle.servers.specs.Servers.{server_report}
use Rattle.group.proofs.Views.{rest_of, on_server_lem}
use Rattle.group.proofs.group_parts.GroupParts.report.Goals as goal

pub returns-clause-step : goal.returns-clause-step
returns-clause-step g c =
    let self = c.args.self.now in
    on_server_lem (rest_of self) self.servers c.args.site c.args.partition c.in_ok-place.place c.index.result
    c.index-self-index.result c.report.new.self (Ok tt)
    (λ s. (Ok tt, server_report g.K.MarkKind.kind s)) c.in_ok-place.ensures.value (omega arith)
    (omega arith, omega arith) c.index.ensures (ap (λ s. (Ok tt, s)) c.report.ensures) tt
