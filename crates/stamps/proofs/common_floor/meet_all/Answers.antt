use Rattle.std.proofs.Common.{◌≡◌, sym, ap, subst, arith, take_all}
use Rattle.std.specs.List.{AllByRecursion}
use Rattle.stamps.specs.Rows.{HasStamps}
use Rattle.stamps.specs.CommonFloors.{common_floor, IsGreatestCommon}
use Rattle.stamps.proofs.CommonFloors.{all_stamps-take, common_floor-take, common_floor_greatest}
use Rattle.stamps.proofs.common_floor.meet_all.Goals as goal

pub loop-row-init : goal.loop-row-init
loop-row-init g c = record { within = omega arith; stamps = tt; value = c.requires }

pub loop-row-preserved : goal.loop-row-preserved
loop-row-preserved g c =
    let k = g.K.MarkKind.kind in
    let rows = c.args.rows.now in
    let i = c.loop-row.row-index in
    let row = c.row-item.result in
    let before = c.loop-row.invariant in
    let next = common_floor-take k rows i row c.loop-row-test.true c.row-item.is in
    let stamps = c.floor.ensures.stamps in
    record {
      within = omega arith;
      stamps = all_stamps-take rows i row c.loop-row-test.true c.row-item.is before.stamps stamps;
      value = cc next;
    }

pub returns : goal.returns
returns g c =
    let k = g.K.MarkKind.kind in
    let rows = c.args.rows.now in
    let every = take_all c.loop-row.row-index rows c.loop-row-test.false in
    let all = ap (λ rs. common_floor k rs) every in
    let is : g.K.MarkKind.meaning c.loop-row.mark ≡ common_floor k rows = cc in
    let stamps = subst (AllByRecursion HasStamps) every c.loop-row.invariant.stamps in
    let greatest = common_floor_greatest k g.met.K.MarkKind.lawful rows stamps in
    record { value = is; greatest = subst (IsGreatestCommon k rows) (sym is) greatest }
