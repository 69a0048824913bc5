use Rattle.std.proofs.Common.{◌≡◌, ℕ, Err, ap, ◌∙◌, rules}
use Rattle.stamps.specs.Rows.{PerSite}
use Rattle.stamps.specs.CommonFloors.{common_floor}
use Rattle.group.specs.Model.Calls.{with_ok, safe_mark}
use Rattle.servers.specs.Servers.{server_tidy}
use Rattle.group.specs.Model.Calls.{has_server}
use Rattle.group.specs.Parts.{call_server_at, view}
use Rattle.group.proofs.Views.{by_numbers, on_no_place, on_place, passed}
use Rattle.group.proofs.group_parts.GroupParts.tidy.Goals as goal

pub returns-in_err-place-clause-step : goal.returns-in_err-place-clause-step
returns-in_err-place-clause-step g c =
    let before = view c.args.self.now in
    let k = g.K.MarkKind.kind in
    let why = c.in_err-place.field-0.0 in
    let refused : c.from_residual.result ≡ Err why = search rules in
    ap (λ r. (r, before)) refused
    ∙ on_no_place before c.args.site c.args.partition why
    (λ s. with_ok (server_tidy k s (safe_mark k before c.args.site))) c.in_err-place.ensures.value

pub returns-clause-step : goal.returns-clause-step
returns-clause-step g c =
    let before = view c.args.self.now in
    let place = c.in_ok-place.place in
    let site : ℕ × ℕ → ℕ = λ p. p.0 in
    let k = g.K.MarkKind.kind in
    let is = passed (has_server before c.args.site c.args.partition) (place) (c.args.site, c.args.partition)
    c.in_ok-place.ensures.value in
    let safe =
    c.common_floor-safe.ensures.value ∙ ap (λ rows. common_floor k rows) c.as_slice.ensures.value
    ∙ ap (common_floor k) c.safe_rows-rows.ensures ∙ ap (safe_mark k before) (ap site c.place-2.view_is)
    ∙ by_numbers (λ site partition. safe_mark k before site) c.args.site c.args.partition place is.1
    in
    c.drop_outdated.ensures
    ∙ ap (λ (mark : PerSite). call_server_at before place (λ s. with_ok (server_tidy k s mark))) safe
    ∙ on_place before c.args.site c.args.partition place
    (λ s. with_ok (server_tidy k s (safe_mark k before c.args.site))) c.in_ok-place.ensures.value
