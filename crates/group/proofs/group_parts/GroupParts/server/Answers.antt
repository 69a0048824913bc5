use Rattle.std.proofs.Common.{sym, arith}
use Rattle.group.proofs.Views.{at_place}
use Rattle.group.proofs.group_parts.GroupParts.server.Goals as goal

pub returns : goal.returns
returns g c =
    let self = c.args.self.now in
    let place = c.args.place in
    sym (at_place self.layout.sites self.servers place.0 place.1 c.index.result c.index-self-index.result (omega arith)
    (omega arith) (omega arith) c.requires c.index.ensures)
