use Rattle.std.proofs.Common.{arith}
use Rattle.servers.specs.Servers.{server_put}
use Rattle.group.proofs.Views.{rest_of, call_server}
use Rattle.group.proofs.group_parts.GroupParts.write.Goals as goal

pub returns : goal.returns
returns g c =
    let self = c.args.self.now in
    call_server (rest_of self) self.servers c.args.place c.index.result c.index-self-index.result c.put.new.self
    (c.put.result)
    (λ s. server_put g.C.ClockRule.answer g.K.MarkKind.kind s c.args.key c.args.value
    (g.K.MarkKind.meaning c.args.depends) (g.K.MarkKind.meaning c.args.knows))
    (omega arith) (omega arith, omega arith, c.requires) c.index.ensures (c.put.ensures.step) c.put.ensures.keeps
