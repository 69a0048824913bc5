use Rattle.std.proofs.Common.{◌≡◌, ◌-◌, ◌≤◌, length, drop, sym, refl, ap, ◌∙◌, subst, arith}
use Rattle.std.proofs.lemmas.List.{length-drop}
use Rattle.stamps.specs.Rows.{greatest}
use Rattle.servers.specs.Others.{IsOthersOnly}
use Rattle.servers.specs.Outboxes.{last_for}
use Rattle.servers.proofs.Queues.{fewer_counts, kept_queues, take_queues}
use Rattle.servers.proofs.outbox.Outbox.take.Goals as goal

pub invariant_of-self : goal.invariant_of-self
invariant_of-self c =
    let o = c.args.self.now in
    let es = o.entries.items in
    let after = fewer_counts o.peers.own o.peers.sites c.args.site o.left (length es) (omega arith) o.others o.needed in
    let left = c.one_less-left.ensures in
    let most = ap greatest left in
    let kept = ap length c.keep_last.ensures ∙ length-drop (length es - c.greatest.result) es in
    record {
      layout = o.layout;
      others = subst (IsOthersOnly o.peers.own o.peers.sites) (sym left) after.0;
      needed = omega (arith, c.greatest.ensures, most, kept, after.1);
    }

-- at most one entry is gone
pub keep_last-requires : goal.keep_last-requires
keep_last-requires c =
    let o = c.args.self.now in
    let after = fewer_counts o.peers.own o.peers.sites c.args.site o.left (length o.entries.items) (omega arith)
    o.others o.needed in
    omega (arith, c.greatest.ensures, ap greatest c.one_less-left.ensures, after.2)

pub returns : goal.returns
returns c =
    let o = c.args.self.now in
    let es = o.entries.items in
    let left = c.one_less-left.result in
    let after = fewer_counts o.peers.own o.peers.sites c.args.site o.left (length es) (omega arith) o.others o.needed in
    let few : greatest left ≤ length es = omega (arith, ap greatest c.one_less-left.ensures, after.1) in
    record {
      queues =
          ap (λ xs. last_for xs left) (c.keep_last.ensures ∙ ap (λ n. drop (length es - n) es) c.greatest.ensures)
          ∙ kept_queues es left few
          ∙ ap (last_for es) c.one_less-left.ensures
          ∙ take_queues c.args.site es o.left (omega arith) o.needed;
      peers = refl;
    }
