use Rattle.std.proofs.Common.{ℕ, Ok, ap, ◌∙◌}
use Rattle.stamps.specs.Rows.{PerSite}
use Rattle.stamps.specs.CommonFloors.{common_floor}
use Rattle.group.specs.Model.Groups.{reported_at}
use Rattle.servers.specs.Servers.{server_raise}
use Rattle.group.specs.Model.Calls.{has_server}
use Rattle.group.specs.Parts.{call_server_at, view}
use Rattle.group.proofs.Views.{by_numbers, on_place, passed}
use Rattle.group.proofs.group_parts.GroupParts.stabilise.Goals as goal

pub returns-clause-step : goal.returns-clause-step
returns-clause-step g c =
    let before = view c.args.self.now in
    let place = c.in_ok-place.place in
    let k = g.K.MarkKind.kind in
    let site : ℕ × ℕ → ℕ = λ p. p.0 in
    let is = passed (has_server before c.args.site c.args.partition) (place) (c.args.site, c.args.partition)
    c.in_ok-place.ensures.value in
    let floor =
    c.common_floor-floor.ensures.value ∙ ap (λ rows. common_floor k rows) c.as_slice.ensures.value
    ∙ ap (common_floor k) c.reported_rows-rows.ensures
    ∙ ap (λ n. common_floor k (reported_at before n)) (ap site c.place-2.view_is)
    ∙ by_numbers (λ site partition. common_floor k (reported_at before site)) c.args.site c.args.partition place is.1
    in
    ap (λ t. (Ok tt, t)) c.raise.ensures
    ∙ ap (λ (mark : PerSite). call_server_at before place (λ s. (Ok tt, server_raise k s mark))) floor
    ∙ on_place before c.args.site c.args.partition place
    (λ s. (Ok tt, server_raise k s (common_floor k (reported_at before c.args.site)))) c.in_ok-place.ensures.value
