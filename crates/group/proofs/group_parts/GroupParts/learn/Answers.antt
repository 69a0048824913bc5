use Rattle.std.proofs.Common.{ap, ◌∙◌}
use Rattle.servers.specs.Servers.{ServerState}
use Rattle.group.specs.Model.Groups.{SessionState}
use Rattle.group.specs.Model.Calls.{learn}
use Rattle.group.specs.Parts.{view}
use Rattle.group.proofs.Sessions.{learns}
use Rattle.group.proofs.group_parts.GroupParts.learn.Goals as goal

pub returns-clause-state : goal.returns-clause-state
returns-clause-state g c =
    let before = view c.args.self.now in
    let k = g.K.MarkKind.kind in
    let p = c.args.partition in
    let x : SessionState =
    record { site = c.session.inside.site; depends = c.session.inside.depends; knows = c.session.inside.knows } in
    learns k before (view c.raise.new.self) (view c.set_session.new.self) c.args.number p x
    (g.K.MarkKind.meaning c.floor.result) (c.stable-knows.result) c.raise.ensures c.floor.ensures.value
    (c.stable-knows.ensures ∙ ap (λ (s : ServerState). s.marks.stable) c.server.ensures) c.set_session.ensures
    ∙ ap (λ x. learn k before c.args.number x p) (c.session.view_is ∙ c.session_at-session.ensures.value)
