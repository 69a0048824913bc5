use Rattle.std.proofs.Common.{arith}
use Rattle.std.proofs.Common.{Ok, ap}
use Rattle.servers.specs.Servers.{server_tidy}
use Rattle.group.specs.Model.Calls.{with_ok}
use Rattle.group.proofs.Views.{rest_of, call_server}
use Rattle.group.proofs.group_parts.GroupParts.drop_outdated.Goals as goal

pub returns : goal.returns
returns g c =
    let self = c.args.self.now in
    call_server (rest_of self) self.servers c.args.place c.index.result c.index-self-index.result c.tidy.new.self
    (Ok c.tidy.result)
    (λ s. with_ok (server_tidy g.K.MarkKind.kind s (g.K.MarkKind.meaning c.args.safe)))
    (omega arith) (omega arith, omega arith, c.requires) c.index.ensures (ap with_ok c.tidy.ensures.step) (tt)
