use Rattle.std.proofs.Common.{arith}
use Rattle.group.proofs.Views.{quarter}
use Rattle.group.proofs.group_parts.GroupParts.servers_of.Goals as goal

pub returns-clause-servers : goal.returns-clause-servers
returns-clause-servers g c =
    let self = c.args.self.now in
    quarter self.layout.sites self.servers c.args.site self.layout.partitions _ _ (omega arith) (omega arith) c.requires
    c.partitions.ensures.bounded.few_partitions (omega (arith, c.index-first.ensures))
    (omega (arith, c.partitions.ensures.value))
