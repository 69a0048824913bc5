use Rattle.std.proofs.Common.{[], ◌∷◌, ◌++◌, length, sym, refl, ap, ◌∙◌, subst, arith}
use Rattle.std.proofs.lemmas.List.{length-append}
use Rattle.std.proofs.lemmas.Bool.{leb-false}
use Rattle.stamps.specs.Rows.{greatest}
use Rattle.servers.specs.Others.{IsOthersOnly}
use Rattle.servers.specs.Outboxes.{last_for}
use Rattle.servers.proofs.Queues.{issue_queues, issue_counts, full_is}
use Rattle.servers.proofs.outbox.Outbox.issue.Goals as goal

-- there is room
pub push-requires : goal.push-requires
push-requires c =
    let o = c.args.self.now in (
      omega arith,
      leb-false 16 (length o.entries.items)
          (full_is o.peers.own o.peers.sites o.entries.items o.left o.others o.needed ∙ c.requires),
    )

pub invariant_of-self : goal.invariant_of-self
invariant_of-self c =
    let o = c.args.self.now in
    let n = length o.entries.items in
    let after = issue_counts o.peers.own o.peers.sites o.left n o.layout.some o.others o.needed in
    let long = ap length c.push.ensures.items ∙ length-append o.entries.items (c.args.entry ∷ []) in
    record {
      layout = o.layout;
      others = subst (IsOthersOnly o.peers.own o.peers.sites) (sym c.one_more-self.ensures) after.0;
      needed = ap greatest c.one_more-self.ensures ∙ after.1 ∙ sym long;
    }

pub returns : goal.returns
returns c =
    let o = c.args.self.now in
    let es = o.entries.items in
    let e = c.args.entry in
    record {
      queues =
          ap (λ xs. last_for xs c.one_more-self.result) c.push.ensures.items
          ∙ ap (last_for (es ++ e ∷ [])) c.one_more-self.ensures
          ∙ issue_queues o.peers.own o.peers.sites es e o.left o.layout.few o.others o.needed;
      peers = refl;
    }
