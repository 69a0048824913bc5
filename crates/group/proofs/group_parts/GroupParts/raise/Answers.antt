use Rattle.std.proofs.Common.{arith}
use Rattle.servers.specs.Servers.{server_raise}
use Rattle.group.proofs.Views.{rest_of, change_server_lem}
use Rattle.group.proofs.group_parts.GroupParts.raise.Goals as goal

pub returns : goal.returns
returns g c =
    let self = c.args.self.now in
    change_server_lem (rest_of self) self.servers c.args.place c.index.result c.index-self-index.result c.raise.new.self
    (λ s. server_raise g.K.MarkKind.kind s (g.K.MarkKind.meaning c.args.mark)) (omega arith)
    (omega arith, omega arith, c.requires) c.index.ensures c.raise.ensures
