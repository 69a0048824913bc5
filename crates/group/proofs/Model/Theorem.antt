-- A group keeps its promises, for every clock rule and every kind of mark that show their meaning.
use Rattle.std.proofs.Common.{ℕ, ◌<◌, [], Contains, Some, None, sym, refl, subst}
use Rattle.stamps.specs.Clocks.{Rule, IsLawfulRule}
use Rattle.stamps.specs.Kinds.{Kind, IsLawfulKind}
use Rattle.group.specs.Model.Groups.{new_group}
use Rattle.group.specs.Model.GroupStore.{IsLayoutBounded, GroupKeepsPromises, group_store, versions_at}
use Rattle.group.specs.Model.Promises.{Promises, ShowsAsLate}
use Rattle.group.specs.Model.Stores.{Run, history}
use Rattle.group.proofs.Model.Invariant.{Ghost}
use Rattle.group.proofs.Model.Histories.{Inv}
use Rattle.group.proofs.Model.Runs.{begins, no_ghost, ran}
use Rattle.group.proofs.Model.SessionLines.{put_later, get_answer, shows_past, shows_put, none_seen, some_seen}
use Rattle.group.proofs.Model.SessionLines.{get_open, get_found, put_new}
use Rattle.group.proofs.Model.SnapshotLines.{read_honest, stays, whole}
use Rattle.group.proofs.Model.Agreement.{agree}
use Rattle.group.proofs.Model.Ranges.{bounded}

-- the promises after a run whose state has the invariant
promises : {k : Kind} (law : IsLawfulKind k) (rule : Rule) (clock : IsLawfulRule rule) (sites : ℕ)
    (r : Run (group_store rule k sites)) (G : Ghost) →
    Inv k sites (history (group_store rule k sites) r) r.state G → Promises (group_store rule k sites) r
promises {k} law rule clock sites r G v = record {
  put_later = λ p q past _. put_later law v p q past;
  get_shows_past = λ i p past.
      let l = v.core.pasts.open_only i p past in
      subst (λ a. ShowsAsLate p.key a p) (sym (get_answer law v i p.key l rule))
      (shows_past law v i p.key l p refl past);
  snapshot_stays = stays law rule clock sites r G v;
  snapshot_whole = whole law v;
  sites_agree = λ quiet s t key ls lt a b. agree v quiet s t key (inside ls) (inside lt) a b;
  put_new = put_new law v rule clock;
  get_honest = λ i key u e. let l = get_open law v rule i key (Some u) e in
      shows_put law v i key l u (get_found law v rule i key l (Some u) e);
  read_honest = read_honest law v rule;
  get_answers = λ i key o. (_, get_answer law v i key (v.hist.opened_known i o) rule);
  get_none = λ i key e w held.
      let l = get_open law v rule i key None e in
      none_seen law v i key l (get_found law v rule i key l None e) w
      (subst (λ (z : ℕ). Contains (versions_at r.state z) w) (v.hist.sites_known i l) held);
  get_some = λ i key u e.
      let l = get_open law v rule i key (Some u) e in
      let s = some_seen law v i key l u (get_found law v rule i key l (Some u) e) in
      (s.0, subst (λ (z : ℕ). Contains (versions_at r.state z) s.0) (sym (v.hist.sites_known i l)) s.1, s.2, s.3);
  bounded = bounded v;
}
  where
    inside : {s : ℕ} → s < sites → s < r.state.sites
    inside {s} l = subst (λ (z : ℕ). s < z) (sym v.layout) l

pub keeps_promises : {k : Kind} → IsLawfulKind k → (rule : Rule) → IsLawfulRule rule → (sites partitions : ℕ)
    → IsLayoutBounded sites partitions → GroupKeepsPromises rule k sites partitions
keeps_promises law rule clock sites partitions layout calls =
    let end = ran law rule clock sites (record { events = []; state = new_group sites partitions }) no_ghost
    (begins law sites partitions layout) calls in
    promises law rule clock sites _ end.ghost end.inv
