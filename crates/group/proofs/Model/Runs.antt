-- The invariant of the group as it is made, and after any calls.
use Rattle.std.proofs.Common.{◌≡◌, ℕ, ◌^◌, ◌<◌, ltb, List, [], ◌∷◌, get_or, ℤ, None, Ok, Err, Option, Result, sym, refl}
use Rattle.std.proofs.Common.{◌∙◌, arith, lit<, lit≤}
use Rattle.std.proofs.lemmas.Bool.{cond_both}
use Rattle.stamps.specs.declared.refusal.Refusal.{Refusal}
use Rattle.stamps.specs.declared.refusal.Refusal.TheVariants.{NotInLayout}
use Rattle.stamps.specs.Clocks.{Rule, IsLawfulRule}
use Rattle.stamps.specs.Rows.{HasStamps, same}
use Rattle.stamps.specs.Stamps.{top_stamp}
use Rattle.stamps.specs.Kinds.{Kind, IsLawfulKind}
use Rattle.servers.specs.Servers.{first_entry, first_received, lead_of}
use Rattle.servers.proofs.RowEntries.{by_site}
use Rattle.group.specs.Model.Calls.{step, has_server}
use Rattle.group.specs.Model.Events.{Call, open_session, tell, put, get, heartbeat, deliver, report, stabilise}
use Rattle.group.specs.Model.Events.{open_snapshot, read, close, tidy, lead, what_is_told, nothing, History}
use Rattle.group.specs.Model.Groups.{GroupState, SeatState, new_group}
use Rattle.group.specs.Model.GroupStore.{IsLayoutBounded, group_store}
use Rattle.group.specs.Model.Stores.{Run, then, then_all, history}
use Rattle.group.proofs.Model.Rows.{covers_zero, zero_mark}
use Rattle.group.proofs.Model.Invariant.{Ghost}
use Rattle.group.proofs.Model.Seating.{not_some}
use Rattle.group.proofs.Model.Histories.{Inv, Grows, grows_same, grows_on, Kept, refused_kept}
use Rattle.group.proofs.Model.ServerSteps.{keeps_tell, keeps_heartbeat, keeps_deliver, keeps_report, keeps_stabilise}
use Rattle.group.proofs.Model.ServerSteps.{keeps_tidy}
use Rattle.group.proofs.Model.SessionSteps.{keeps_open, keeps_put, keeps_get}
use Rattle.group.proofs.Model.SnapshotSteps.{keeps_snapshot, keeps_read, keeps_close}

-- every call keeps the invariant
pub keeps : {k : Kind} → IsLawfulKind k → (rule : Rule) → IsLawfulRule rule
    → {sites : ℕ} {h : History} {g : GroupState} {G : Ghost} → Inv k sites h g G →
    (call : Call) → Kept k sites h g G (what_is_told call (step rule k g call).0) (step rule k g call).1
keeps law rule clock v (open_session site) = keeps_open law v site
keeps law rule clock v (tell site partition time) = keeps_tell law v site partition time
keeps law rule clock v (put session key kind amount) = keeps_put law v rule clock session key kind amount
keeps law rule clock v (get session key) = keeps_get law v session key
keeps law rule clock v (heartbeat site partition) = keeps_heartbeat law v rule clock site partition
keeps law rule clock v (deliver from to partition) = keeps_deliver law v from to partition
keeps law rule clock v (report site partition) = keeps_report law v site partition
keeps law rule clock v (stabilise site partition) = keeps_stabilise law v site partition
keeps law rule clock v (open_snapshot session partition) = keeps_snapshot law v session partition
keeps law rule clock v (read ticket key) = keeps_read law v ticket key
keeps law rule clock v (close ticket) = keeps_close law v ticket
keeps law rule clock v (tidy site partition) = keeps_tidy law v site partition
keeps {k} law rule clock {sites} {h} {g} {G} v (lead site partition) =
    cond_both {A = Result ℤ Refusal × GroupState} (has_server g site partition)
    (Ok (lead_of (g.server site partition)), g) (Err NotInLayout, g) (λ r. Kept k sites h g G nothing r.1)
    (λ _. refused_kept v) (λ _. refused_kept v)

-- nothing is remembered yet
abbrev pub no_ghost : Ghost
no_ghost = record { log = []; cut_of = λ q. same 0; snap_site = λ q. 0 }

first_stamps : (sites : ℕ) → HasStamps (first_received sites)
first_stamps sites = (one 0, one 1, one 2, one 3)
  where
    one : (site : ℕ) → first_entry sites site < 2 ^ 63
    one site = cond_both (ltb site sites) 0 top_stamp (λ x. x < 2 ^ 63) (λ _. lit< tt) (λ _. lit< tt)

free_seats : (a : ℕ) → get_or {A = Option SeatState} (None ∷ None ∷ None ∷ None ∷ []) a None ≡ None
free_seats = by_site (λ a. get_or {A = Option SeatState} (None ∷ None ∷ None ∷ None ∷ []) a None ≡ None) refl refl refl
    refl (λ m. refl)

pub begins : {k : Kind} → IsLawfulKind k → (sites partitions : ℕ) → IsLayoutBounded sites partitions
    → Inv k sites [] (new_group sites partitions) no_ghost
begins {k} law sites partitions layout = record {
  frame = record {
    layout = layout;
    servers = λ s n. record {
      site_is = refl;
      sites_is = refl;
      versions = lit≤ tt;
      entries = λ site. lit≤ tt;
      reading = lit< tt;
    };
    sessions = lit≤ tt;
    seats = refl;
    serials = lit< tt;
  };
  layout = refl;
  core = record {
    logs = record {
      source = λ v i. absurd i;
      stamped = λ v i. absurd i;
      small = λ v i. absurd i;
      marked = λ v i. absurd i;
      above = λ v i. absurd i;
      unique = λ v w i j e. absurd i;
    };
    queues = record {
      chain = λ j s n lj ls ne. refl;
      pending = λ v j s n lj ls ne i. absurd i;
      reach = λ v s i l ne. absurd i;
    };
    holds = record { had = λ v s n i. absurd i; kept = λ v s l i h. absurd i };
    marks = record {
      received_stamps = λ s n. first_stamps sites;
      reported_mark = λ s n. zero_mark law;
      reported_below = λ s n. covers_zero (first_received sites);
      stable_mark = λ s n. zero_mark law;
      stable_below = λ s n n' l. covers_zero (first_received sites);
    };
    sessions = λ i l. absurd (omega arith);
    seats = λ a y e. absurd (not_some (sym (free_seats a) ∙ e));
    cuts = record {
      cut_mark = λ q l. absurd (omega arith);
      cut_below = λ q l. absurd (omega arith);
      cut_site = λ q l. absurd (omega arith);
    };
    pasts = record {
      open_only = λ i p q. absurd q;
      of_session_lem = λ i p q. absurd q;
      of_put_lem = λ u p q. absurd q;
    };
  };
  hist = record {
    opened_known = λ i o. absurd o;
    sites_known = λ i l. absurd (omega arith);
    readers_known = λ a y e. absurd (not_some (sym (free_seats a) ∙ e));
    open_known = λ t o. absurd o;
  };
  reads = λ t key o i. absurd i;
  written = λ v i. absurd i;
  logged = λ p x w. absurd w;
}

-- after any calls
pub record Ran (rule : Rule) (k : Kind) (sites next : ℕ) (G : Ghost) (r : Run (group_store rule k sites)) : Type 0 where
  pub ghost : Ghost
  pub inv : Inv k sites (history (group_store rule k sites) r) r.state ghost
  pub grows : Grows k next r.state.next_serial G ghost

pub ran : {k : Kind} → IsLawfulKind k → (rule : Rule) → IsLawfulRule rule
    → (sites : ℕ) (r : Run (group_store rule k sites)) (G : Ghost) →
    Inv k sites (history (group_store rule k sites) r) r.state G → (calls : List Call)
    → Ran rule k sites r.state.next_serial G (then_all (group_store rule k sites) r calls)
ran {k} law rule clock sites r G v [] = record { ghost = G; inv = v; grows = grows_same k r.state.next_serial G }
ran {k} law rule clock sites r G v (call ∷ calls) =
    let one = keeps law rule clock v call in
    let rest = ran law rule clock sites (then (group_store rule k sites) r call) one.ghost one.inv calls in
    record { ghost = rest.ghost; inv = rest.inv; grows = grows_on one.grows rest.grows }
