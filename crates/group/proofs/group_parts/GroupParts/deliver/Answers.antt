use Rattle.std.proofs.Common.{◌≡◌, ℕ, Err, Result, sym, ap, ◌∙◌, subst, rules, OnErr}
use Rattle.stamps.specs.declared.refusal.Refusal.{Refusal}
use Rattle.servers.specs.Outboxes.{next_for}
use Rattle.servers.specs.Servers.{ServerState, server_hand_over, server_take, view as server_view}
use Rattle.group.specs.Parts.{call_server_at, server_at, view, with_server_at}
use Rattle.group.proofs.Delivery.{deliver_done, deliver_not}
use Rattle.group.proofs.Views.{refused_same}
use Rattle.group.proofs.group_parts.GroupParts.deliver.Goals as goal

pub returns-clause-step : goal.returns-clause-step
returns-clause-step g c =
    let from = c.in_ok-from.from in
    let to = c.in_ok-from.to in
    let site : ℕ × ℕ → ℕ = λ p. p.0 in
    deliver_done (view c.args.self.now) (view c.take.new.self) (view c.hand_over.new.self) c.args.from c.args.to
    c.args.partition from to
    c.take.result c.next_for.result c.in-Some.entry c.in_ok-from.ensures.value
    (c.next_for.ensures ∙ ap (next_for (server_view c.server.result.now).waiting) (ap site c.to.view_is)
    ∙ ap (λ (s : ServerState). next_for s.waiting to.0) c.server.ensures) c.in-Some.is
    (c.take.ensures ∙ ap (λ n. call_server_at (view c.args.self.now) to (λ s. server_take s n c.in-Some.entry))
    (ap site c.from.view_is)) c.in_ok-take.was
    (c.hand_over.ensures ∙ ap (λ n. with_server_at (view c.take.new.self) from
    (server_hand_over (server_at (view c.take.new.self) from) n)) (ap site c.to-2.view_is))

pub returns-in_err-take : goal.returns-in_err-take
returns-in_err-take g c =
    let before = view c.args.self.now in
    let mid = view c.take.new.self in
    let from = c.in_ok-from.from in
    let to = c.in_ok-from.to in
    let site : ℕ × ℕ → ℕ = λ p. p.0 in
    let entry = c.in-Some.entry in
    let why = c.in_err-take.field-0.0 in
    let refused : c.from_residual-in_err-take.result ≡ Err why = search rules in
    let took : (Err why, mid) ≡ call_server_at before to (λ s. server_take s from.0 entry) =
    ap (λ (r : Result (Unit {0}) Refusal). (r, mid)) (sym c.in_err-take.was) ∙ c.take.ensures
    ∙ ap (λ n. call_server_at before to (λ s. server_take s n entry)) (ap site c.from.view_is)
    in
    record {
      step =
          ap (λ (r : Result (Unit {0}) Refusal). (r, mid)) refused
          ∙ deliver_not before mid c.args.from c.args.to c.args.partition from to why c.next_for.result entry
          c.in_ok-from.ensures.value
          (c.next_for.ensures ∙ ap (next_for (server_view c.server.result.now).waiting) (ap site c.to.view_is)
          ∙ ap (λ (s : ServerState). next_for s.waiting to.0) c.server.ensures) c.in-Some.is took;
      keeps =
          subst (λ r. OnErr r (mid ≡ before)) (sym refused)
          (refused_same before mid to.0 to.1 why (server_take (server_at before to) from.0 entry) took);
    }
