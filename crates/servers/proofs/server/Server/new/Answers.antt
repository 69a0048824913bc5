use Rattle.std.proofs.Common.{arith}
use Rattle.servers.proofs.Rising.{rising_law}
use Rattle.servers.proofs.server.Server.new.Goals as goal

pub returns-clause-rising : goal.returns-clause-rising
returns-clause-rising g c =
    let within = c.sites.ensures.layout in
    rising_law g.C.ClockRule.answer g.met.C.ClockRule.lawful g.K.MarkKind.kind c.args.peers.own
    (omega (arith, within.inside, within.few)) c.args.peers.sites within.inside
