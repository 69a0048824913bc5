use Rattle.std.proofs.Common.{◌≡◌, ◌-◌, ◌<◌, length, get_or, Some, sym, ap, ◌∙◌, arith}
use Rattle.stamps.specs.Rows.{at}
use Rattle.servers.proofs.Queues.{left_within, next_none, next_some}
use Rattle.servers.proofs.outbox.Outbox.next_for.Goals as goal

pub returns-then-left-eq0 : goal.returns-then-left-eq0
returns-then-left-eq0 c =
    let o = c.args.self.now in
    next_none (o.entries.items) o.left c.args.site (omega arith) (sym c.at-left.ensures ∙ c.if-left-eq0.true)

pub returns : goal.returns
returns c =
    let o = c.args.self.now in
    let es = o.entries.items in
    let i = c.args.site in
    let x = c.index-entries-entries.result in
    let within = left_within o.left (length es) i o.needed in
    let some : 0 < at o.left i = omega arith in
    let place : length es - at o.left i ≡ length c.as_slice-entries.result.now - c.at-left.result =
    omega (arith, ap length c.as_slice-entries.ensures.value) in
    let is : x ≡ get_or es (length c.as_slice-entries.result.now - c.at-left.result) x = c.index-entries-entries.is
    ∙ ap (λ xs. get_or xs (length c.as_slice-entries.result.now - c.at-left.result) x)
    c.as_slice-entries.ensures.value in
    ap Some (is ∙ ap (λ k. get_or es k x) (sym place)) ∙ next_some es o.left i x (omega arith) some (omega arith)
