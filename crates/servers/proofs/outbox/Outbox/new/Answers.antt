use Rattle.std.proofs.Common.{refl, arith, rules}
use Rattle.servers.proofs.Traffic.{queue_law}
use Rattle.servers.proofs.outbox.Outbox.new.Goals as goal

pub returns : goal.returns
returns c = record {
  empty = search rules;
  law = queue_law c.args.peers.own c.args.peers.sites (omega arith);
  peers = refl;
}
