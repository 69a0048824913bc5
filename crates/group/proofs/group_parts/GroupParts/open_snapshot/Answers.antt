use Rattle.std.proofs.Common.{◌<◌, ltb, subst, sym, ap, ◌∙◌, arith}
use Rattle.servers.specs.Servers.{ServerState}
use Rattle.group.specs.Model.Groups.{session_at}
use Rattle.group.specs.Model.Calls.{learn}
use Rattle.group.specs.Parts.{view}
use Rattle.group.proofs.Views.{at_numbers, passed}
use Rattle.group.proofs.Cuts.{found_free}
use Rattle.group.proofs.Sessions.{has_open, seats_it}
use Rattle.group.proofs.group_parts.GroupParts.open_snapshot.Goals as goal

pub returns-clause-step : goal.returns-clause-step
returns-clause-step g c =
    let self = c.args.self.now in
    let before = view c.args.self.now in
    let mid = view c.learn-place.new.self in
    let k = g.K.MarkKind.kind in
    let p = c.args.partition in
    let is = passed (ltb p before.partitions) c.in_ok-partition.partition p c.in_ok-partition.ensures in
    seats_it k before mid (view c.take_seat.new.self) c.args.session p c.in-Some.number c.stable-cut.result
    c.take_seat.result.seat c.take_seat.result.serial
    is.0 (sym c.if-not-has_session.ensures) (sym c.lowest_free.ensures ∙ c.in-Some.is) self.seats.sized (omega arith)
    (c.learn-place.ensures.state ∙ ap (λ q. learn k before c.args.session (session_at before c.args.session) q) is.1)
    (c.stable-cut.ensures ∙ ap (λ (s : ServerState). s.marks.stable)
    (c.server.ensures ∙ at_numbers mid c.learn-place.result (session_at before c.args.session).site p
    (c.learn-place.ensures.place ∙ ap (λ n. ((session_at before c.args.session).site, n)) is.1)))
    c.take_seat.ensures.ticket.0 c.take_seat.ensures.ticket.1 c.take_seat.ensures.seated

pub returns-clause-open : goal.returns-clause-open
returns-clause-open g c =
    let self = c.args.self.now in
    let free = found_free self.seats.places c.in-Some.number (sym c.lowest_free.ensures ∙ c.in-Some.is) in
    let inside = subst (λ n. c.in-Some.number < n) (self.seats.sized ∙ sym c.learn-place.new.self.seats.sized) free.1 in
    has_open (view c.learn-place.new.self) (view c.take_seat.new.self) _ _ _ c.take_seat.result inside
    c.take_seat.ensures.ticket.0 c.take_seat.ensures.ticket.1 c.take_seat.ensures.seated
