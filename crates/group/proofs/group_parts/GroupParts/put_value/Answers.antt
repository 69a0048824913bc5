use Rattle.std.proofs.Common.{◌≡◌, ◌<◌, List, length, Ok, Err, Result, sym, ap, ◌∙◌, subst, arith, rules, OnErr}
use Rattle.stamps.specs.declared.refusal.Refusal.{Refusal}
use Rattle.servers.specs.Servers.{server_put}
use Rattle.servers.specs.declared.version.Version.{Version}
use Rattle.group.specs.Model.Groups.{SessionState, partition_of}
use Rattle.group.specs.Model.Calls.{put_value}
use Rattle.group.specs.Parts.{view}
use Rattle.group.proofs.Views.{refused_same, sessions_left}
use Rattle.group.proofs.Sessions.{puts, puts_not, writes}
use Rattle.group.proofs.group_parts.GroupParts.put_value.Goals as goal

pub depend-requires : goal.depend-requires
depend-requires g c =
    let same = sessions_left (view c.args.self.now) (view c.write.new.self) _ _ _ _ c.write.ensures in
    (omega arith, subst (λ (xs : List SessionState). c.args.number < length xs) (sym same) c.requires)

pub returns-in_err-version : goal.returns-in_err-version
returns-in_err-version g c =
    let before = view c.args.self.now in
    let mid = view c.write.new.self in
    let rule = g.C.ClockRule.answer in
    let k = g.K.MarkKind.kind in
    let x : SessionState =
    record { site = c.session.inside.site; depends = c.session.inside.depends; knows = c.session.inside.knows } in
    let value = c.args.value in
    let p = partition_of before c.args.key in
    let why = c.in_err-version.field-0.0 in
    let refused : c.from_residual.result ≡ Err why = search rules in
    let t = server_put rule k (before.server x.site p) c.args.key value (k.floor x.depends) (k.floor x.knows) in
    let wrote =
    writes rule k before mid x.site c.args.key c.partition_of.result p value
    (g.K.MarkKind.meaning c.floor-depends.result) (k.floor x.depends)
    (g.K.MarkKind.meaning c.floor.result) (k.floor x.knows) (Err why) c.partition_of.ensures
    c.floor-depends.ensures.value c.floor.ensures.value
    (ap (λ (r : Result Version Refusal). (r, mid)) (sym c.in_err-version.was) ∙ c.write.ensures)
    in
    record {
      step =
          ap (λ r. (r, mid)) refused ∙ puts_not k before mid c.args.number c.args.key why x t wrote
          ∙ ap (λ s. put_value rule k before c.args.number c.args.key s (Ok value))
          (c.session.view_is ∙ c.session_at-session.ensures.value);
      keeps = subst (λ r. OnErr r (mid ≡ before)) (sym refused) (refused_same before mid x.site p why t wrote);
    }

pub returns : goal.returns
returns g c =
    let before = view c.args.self.now in
    let mid = view c.write.new.self in
    let after = view c.depend.new.self in
    let rule = g.C.ClockRule.answer in
    let k = g.K.MarkKind.kind in
    let x : SessionState =
    record { site = c.session.inside.site; depends = c.session.inside.depends; knows = c.session.inside.knows } in
    let value = c.args.value in
    let p = partition_of before c.args.key in
    let version = c.in_ok-version.version in
    let t = server_put rule k (before.server x.site p) c.args.key value (k.floor x.depends) (k.floor x.knows) in
    let wrote =
    writes rule k before mid x.site c.args.key c.partition_of.result p value
    (g.K.MarkKind.meaning c.floor-depends.result) (k.floor x.depends)
    (g.K.MarkKind.meaning c.floor.result) (k.floor x.knows) (Ok version) c.partition_of.ensures
    c.floor-depends.ensures.value c.floor.ensures.value
    (ap (λ (r : Result Version Refusal). (r, mid)) (sym c.in_ok-version.was) ∙ c.write.ensures)
    in
    record {
      step =
          ap (λ n. (Ok n, after)) c.stamp.ensures
          ∙ puts k before mid after c.args.number c.args.key x version t wrote c.depend.ensures
          ∙ ap (λ s. put_value rule k before c.args.number c.args.key s (Ok value))
          (c.session.view_is ∙ c.session_at-session.ensures.value);
      keeps = tt;
    }
