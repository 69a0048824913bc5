use Rattle.std.proofs.Common.{arith}
use Rattle.std.proofs.lemmas.Bool.Decides.{nat_tests}
use Rattle.servers.proofs.Queues.{full_is}
use Rattle.servers.proofs.outbox.Outbox.is_full.Goals as goal

pub returns : goal.returns
returns c =
    let o = c.args.self.now in
    let full = full_is o.peers.own o.peers.sites o.entries.items o.left o.others o.needed in
    grind (arith, nat_tests, full, c.is_full.ensures.fits)
