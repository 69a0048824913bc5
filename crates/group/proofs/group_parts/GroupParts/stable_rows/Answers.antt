use Rattle.std.proofs.Common.{◌≡◌, ℕ, ◌<◌, length, ap, ◌∙◌, arith}
use Rattle.stamps.specs.Rows.{PerSite}
use Rattle.servers.specs.Servers.{ServerState}
use Rattle.group.specs.Model.Groups.{tabulate}
use Rattle.group.specs.Parts.{view}
use Rattle.group.proofs.Rows.{item_of, length_first, row_more}
use Rattle.group.proofs.group_parts.GroupParts.stable_rows.Goals as goal

-- there is room: a site has at most four servers
pub push-requires : goal.push-requires
push-requires g c =
    let f : ℕ → PerSite = λ n. ((view c.args.self.now).server c.args.site n).marks.stable in (
      omega arith,
      omega (
        arith,
        ap length c.loop-server.invariant,
        length_first f c.loop-server.server-index,
        c.loop-server-test.true,
        c.servers_of-server-items.ensures.few,
      ),
    )

pub loop-server-preserved : goal.loop-server-preserved
loop-server-preserved g c =
    let i = c.loop-server.server-index in
    let server = c.server-item.result in
    let servers = c.servers_of-server-items.result.now in
    let here : i < length servers = omega arith in
    row_more (λ n. ((view c.args.self.now).server c.args.site n).marks.stable) i c.loop-server.rows.items
    c.push.new.self.items c.stable.result
    c.push.ensures.items c.loop-server.invariant
    (c.stable.ensures ∙ ap (λ (s : ServerState). s.marks.stable)
    (item_of servers i server here c.server-item.is c.servers_of-server-items.ensures.servers.1))

-- a row for each of the partitions
pub returns-clause-rows : goal.returns-clause-rows
returns-clause-rows g c =
    let f : ℕ → PerSite = λ n. ((view c.args.self.now).server c.args.site n).marks.stable in
    let whole : c.loop-server.server-index ≡ (view c.args.self.now).partitions =
    omega (
      arith,
      c.loop-server.auto.server-index-end,
      c.loop-server-test.false,
      c.servers_of-server-items.ensures.servers.0,
    )
    in
    c.loop-server.invariant ∙ ap (tabulate f) whole

pub returns-clause-few : goal.returns-clause-few
returns-clause-few g c =
    let f : ℕ → PerSite = λ n. ((view c.args.self.now).server c.args.site n).marks.stable in
    omega (
      arith,
      ap length c.loop-server.invariant,
      length_first f c.loop-server.server-index,
      c.loop-server.auto.server-index-end,
      c.servers_of-server-items.ensures.few,
    )
