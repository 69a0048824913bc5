use Rattle.std.proofs.Common.{ap}
use Rattle.std.specs.Prelude.{is_ok}
use Rattle.group.specs.Groups.{view}
use Rattle.script.proofs.FourCalls.{four_calls, stays_open, closes}
use Rattle.script.proofs.perform.view_both.Goals as goal

-- the snapshot stays open over both reads, so its close is done
pub unwrap-requires : goal.unwrap-requires
unwrap-requires g c =
    let rule = g.C.ClockRule.answer in
    let kind = g.K.MarkKind.kind in
    let ticket = c.in-Ok.ticket in
    let once = stays_open rule kind _ _ ticket ticket _ _ c.read-first.ensures.step c.in-Ok.ensures.open in
    let twice = stays_open rule kind _ _ ticket ticket _ _ c.read-second.ensures.step once in
    ap is_ok (closes rule kind _ _ ticket _ c.close.ensures.step twice)

pub returns : goal.returns
returns g c =
    four_calls g.C.ClockRule.answer g.K.MarkKind.kind (view c.args.group.now) (view c.open_snapshot.new.self)
    (view c.read-first.new.self) (view c.read-second.new.self)
    (view c.close.new.self) c.args.session c.args.partition c.args.first c.args.second c.in-Ok.ticket
    c.read-first.result
    c.read-second.result c.close.result c.in-Ok.ensures.step c.read-first.ensures.step c.read-second.ensures.step
    c.close.ensures.step
