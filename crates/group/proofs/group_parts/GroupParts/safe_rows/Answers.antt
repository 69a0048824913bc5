use Rattle.std.proofs.Common.{◌≡◌, ◌+◌, ◌<◌, ◌≤◌, ◌++◌, None, length, get_or, drop, sym, ap, ◌∙◌, subst, arith}
use Rattle.arrayvec.specs.ArrayVec.{ArrayVec}
use Rattle.stamps.specs.declared.row.Row.{Row}
use Rattle.group.specs.Model.Groups.{cuts_at, cuts_of, stable_at}
use Rattle.group.specs.Parts.{view}
use Rattle.group.specs.Sessions.{cut_in}
use Rattle.group.proofs.Cuts.{cut_more, cut_none, seat_of_place}
use Rattle.group.proofs.group_parts.GroupParts.safe_rows.Goals as goal
use Rattle.group.proofs.group_parts.GroupParts.safe_rows.Goals.{in-Some, in_default}

pub loop-seat-init : goal.loop-seat-init
loop-seat-init g c =
    let before = view c.args.self.now in
    let site = c.args.site in
    (ap (λ t. t ++ cuts_at before site) c.stable_rows-rows.ensures.rows, c.stable_rows-rows.ensures.few)

-- an open snapshot is of a session that was opened
pub cut_of-requires : goal.cut_of-requires
cut_of-requires g c = (
  omega arith,
  λ y is.
      c.args.self.now.opened c.loop-seat.seat-index y
      (seat_of_place c.args.self.now.seats.places c.as_slice-seat-items.result.now c.loop-seat.seat-index
      c.seat-item.result c.as_slice-seat-items.ensures c.seat-item.is c.loop-seat-test.true ∙ is),
)

pub loop-seat-preserved : goal.loop-seat-preserved
loop-seat-preserved g c =
    let before = view c.args.self.now in
    let site = c.args.site in
    let seats = c.args.self.now.seats.places in
    let i = c.loop-seat.seat-index in
    let xs = c.loop-seat.rows.items in
    let all = stable_at before site ++ cuts_at before site in
    let Collected : ArrayVec Row → Type 0 =
    λ rows. (rows.items ++ cuts_of before site (drop (i + 1) seats) ≡ all) × (length rows.items ≤ 4 + (i + 1)) in
    let here : i < length seats = omega (arith, c.args.self.now.seats.sized, ap length c.as_slice-seat-items.ensures) in
    let seat : get_or seats i None ≡ c.seat-item.result =
    seat_of_place seats c.as_slice-seat-items.result.now i c.seat-item.result c.as_slice-seat-items.ensures
    c.seat-item.is (omega arith)
    in
    let few : length xs ≤ 4 + i = c.loop-seat.invariant.1 in
    let four : length seats ≡ 4 = c.args.self.now.seats.sized in
    let room : length xs < 8 = omega arith in
    elim c.match-cut_of.branch [
      | in-Some w ↦
          subst Collected (sym w.rows-is) (
            cut_more before site seats i xs w.push.new.self.items w.in-Some.cut all here
                (ap (cut_in before site) seat ∙ sym c.cut_of.ensures ∙ w.in-Some.is) w.push.ensures.items
                c.loop-seat.invariant.0,
            omega (arith, w.push.ensures.len),
          )
      | in_default w ↦
          subst Collected (sym w.rows-is) (
            cut_none before site seats i xs all here
                (ap (cut_in before site) seat ∙ sym c.cut_of.ensures ∙ w.in_default.is) c.loop-seat.invariant.0,
            omega arith,
          )
    ]
