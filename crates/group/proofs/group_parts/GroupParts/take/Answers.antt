use Rattle.std.proofs.Common.{arith}
use Rattle.servers.specs.Servers.{server_take}
use Rattle.group.proofs.Views.{rest_of, call_server}
use Rattle.group.proofs.group_parts.GroupParts.take.Goals as goal

pub returns : goal.returns
returns g c =
    let self = c.args.self.now in
    call_server (rest_of self) self.servers c.args.place c.index.result c.index-self-index.result c.take.new.self
    (c.take.result)
    (λ s. server_take s c.args.from c.args.entry)
    (omega arith) (omega arith, omega arith, c.requires) c.index.ensures (c.take.ensures.step) (c.take.ensures.keeps)
