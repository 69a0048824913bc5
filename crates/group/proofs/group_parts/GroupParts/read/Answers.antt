use Rattle.std.proofs.Common.{Some, None, Ok, slice_get, sym, refl, ap, ◌∙◌}
use Rattle.servers.specs.Servers.{ServerState, view as server_view}
use Rattle.group.specs.Model.Calls.{show}
use Rattle.group.specs.Model.Groups.{SeatState, SessionState, seat_at}
use Rattle.group.specs.Parts.{view}
use Rattle.group.proofs.Sessions.{reads, opens}
use Rattle.group.proofs.group_parts.GroupParts.read.Goals as goal

pub returns : goal.returns
returns g c =
    let before = view c.args.self.now in
    let mid = view c.raise.new.self in
    let k = g.K.MarkKind.kind in
    let y : SeatState =
    record { session = c.seat.inside.session; serial = c.seat.inside.serial; cut = c.seat.inside.cut } in
    let ticket = c.args.ticket.now in
    let s = server_view c.server.result.now in
    let index = c.in-Some.index in
    record {
      step =
          reads k before mid (view c.show.new.self) y c.args.key c.partition_of.result c.place.inside.site
          (g.K.MarkKind.meaning c.floor-cut.result)
          s (slice_get s.held index) (Ok (Some c.show.result))
          (ap (λ (x : SessionState). x.site) (c.place.view_is ∙ c.session_at.ensures.value)) c.partition_of.ensures
          c.floor-cut.ensures.value c.raise.ensures c.server.ensures
          c.in-Some.ensures.value
          (c.show.ensures ∙ ap (λ (t : ServerState). show k mid y.session (slice_get t.held index))
          (sym c.server.ensures))
          ∙ sym (opens before ticket.serial (seat_at before ticket.seat) y _
          (sym c.open_seat.ensures ∙ c.in_ok-seat.was ∙ ap Ok (sym c.seat.view_is)));
      keeps = tt;
    }

pub returns-in_default : goal.returns-in_default
returns-in_default g c =
    let before = view c.args.self.now in
    let mid = view c.raise.new.self in
    let k = g.K.MarkKind.kind in
    let y : SeatState =
    record { session = c.seat.inside.session; serial = c.seat.inside.serial; cut = c.seat.inside.cut } in
    let ticket = c.args.ticket.now in
    record {
      step =
          reads k before mid mid y c.args.key c.partition_of.result c.place.inside.site
          (g.K.MarkKind.meaning c.floor-cut.result)
          (server_view c.server.result.now) None (Ok None)
          (ap (λ (x : SessionState). x.site) (c.place.view_is ∙ c.session_at.ensures.value)) c.partition_of.ensures
          c.floor-cut.ensures.value c.raise.ensures c.server.ensures
          c.in_default.ensures.value refl
          ∙ sym (opens before ticket.serial (seat_at before ticket.seat) y _
          (sym c.open_seat.ensures ∙ c.in_ok-seat.was ∙ ap Ok (sym c.seat.view_is)));
      keeps = tt;
    }
