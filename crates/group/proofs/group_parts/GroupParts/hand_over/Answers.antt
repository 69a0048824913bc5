use Rattle.std.proofs.Common.{arith}
use Rattle.servers.specs.Servers.{server_hand_over}
use Rattle.group.proofs.Views.{rest_of, change_server_lem}
use Rattle.group.proofs.group_parts.GroupParts.hand_over.Goals as goal

pub returns : goal.returns
returns g c =
    let self = c.args.self.now in
    change_server_lem (rest_of self) self.servers c.args.place c.index.result c.index-self-index.result
    c.hand_over.new.self (λ s. server_hand_over s c.args.to) (omega arith) (omega arith, omega arith, c.requires)
    c.index.ensures c.hand_over.ensures
