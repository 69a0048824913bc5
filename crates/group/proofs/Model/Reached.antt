-- The groups that calls lead to keep the promises, and each call leads from one to another.
use Rattle.std.proofs.Common.{◌≡◌, ℕ, ◌-◌, ◌^◌, Bool, cond, ltb, leb, eqb, length, List, [], ◌∷◌, ◌++◌, None, Some, Ok}
use Rattle.std.proofs.Common.{Err, Option, Result, sym, refl, ap, ◌∙◌, subst}
use Rattle.std.proofs.Math.Logic.{∥∥₁_map}
use Rattle.std.proofs.lemmas.Bool.{cond_both}
use Rattle.stamps.specs.declared.refusal.Refusal.{Refusal}
use Rattle.stamps.specs.declared.refusal.Refusal.TheVariants.{NotInLayout, NoSession, NoneFree, NothingWaits, NotOpen}
use Rattle.stamps.specs.declared.refusal.Refusal.TheVariants.{End}
use Rattle.stamps.specs.Clocks.{Rule, IsLawfulRule}
use Rattle.stamps.specs.Kinds.{Kind, IsLawfulKind}
use Rattle.servers.specs.declared.version.Version.{Version}
use Rattle.servers.specs.declared.entry.Entry.{Entry}
use Rattle.servers.specs.declared.value.Value.{Value}
use Rattle.servers.specs.Outboxes.{next_for}
use Rattle.servers.specs.Values.{value_from}
use Rattle.stamps.specs.CommonFloors.{common_floor}
use Rattle.servers.specs.Servers.{ServerState, server_tell, server_heartbeat, server_report, server_raise, server_tidy}
use Rattle.servers.specs.Servers.{lead_of, latest_visible}
use Rattle.group.specs.Model.Calls.{step, has_server, server_left, on_server, on_session, on_seat_of, put_left}
use Rattle.group.specs.Model.Calls.{put_value, informed_server, learn, open_snapshot_at, show, deliver_entry}
use Rattle.group.specs.Model.Calls.{deliver_left, with_ok, safe_mark}
use Rattle.group.specs.Model.Events.{Call, Answer, Done, open_session, tell, put, get, heartbeat, deliver, report}
use Rattle.group.specs.Model.Events.{stabilise, open_snapshot, read, close, tidy, lead}
use Rattle.group.specs.Model.Groups.{GroupState, SessionState, SeatState, new_group, new_session, partition_of}
use Rattle.group.specs.Model.Groups.{session_at, seat_at, with_seat, with_sessions, is_line, lowest_free, reported_at}
use Rattle.group.specs.Model.GroupStore.{IsLayoutBounded, group_store}
use Rattle.group.specs.Model.Promises.{Promises}
use Rattle.group.specs.Model.Reached.{IsReached, StillKeeps, run_of}
use Rattle.group.specs.Model.Stores.{Store, Run, then, then_all}
use Rattle.group.proofs.Model.Theorem.{keeps_promises}

-- calls after others are one list of calls
then_append : (S : Store) (r : Run S) (calls more : List Call)
    → then_all S r (calls ++ more) ≡ then_all S (then_all S r calls) more
then_append S r [] more = refl
then_append S r (call ∷ calls) more = then_append S (then S r call) calls more

-- the layout stays
record SameLayout {A : Type 0} (g : GroupState) (r : A × GroupState) : Type 0 where
  sites : r.1.sites ≡ g.sites
  partitions : r.1.partitions ≡ g.partitions

stays : {A : Type 0} (g : GroupState) (x : A) → SameLayout {A = A} g (x, g)
stays g x = record { sites = refl; partitions = refl }

both_same : {A : Type 0} (g : GroupState) (b : Bool) (x y : A × GroupState) → SameLayout g x → SameLayout g y
    → SameLayout g (cond b x y)
both_same {A} g b x y p q = cond_both {A = A × GroupState} b x y (SameLayout g) (λ _. p) (λ _. q)

-- a test, or a refusal
test_same : {A : Type 0} (g : GroupState) (b : Bool) (x : Result A Refusal × GroupState) (why : Refusal)
    → SameLayout g x → SameLayout g (cond b x (Err why, g))
test_same g b x why p = both_same g b x (Err why, g) p (stays g (Err why))

server_same : {A : Type 0} (g : GroupState) (s n : ℕ) (r : Result A Refusal × ServerState)
    → SameLayout g (server_left g s n r)
server_same g s n (Ok x, t) = record { sites = refl; partitions = refl }
server_same g s n (Err why, t) = stays g (Err why)

on_server_same : {A : Type 0} (g : GroupState) (s n : ℕ) (act : ServerState → Result A Refusal × ServerState)
    → SameLayout g (on_server g s n act)
on_server_same g s n act = test_same g (has_server g s n) (server_left g s n (act (g.server s n))) NotInLayout
    (server_same g s n (act (g.server s n)))

on_session_same : {A : Type 0} (g : GroupState) (i : ℕ) (act : SessionState → Result A Refusal × GroupState)
    → SameLayout g (act (session_at g i)) →
    SameLayout g (on_session g i act)
on_session_same g i act p = test_same g (ltb i (length g.sessions)) (act (session_at g i)) NoSession p

seat_same : {A : Type 0} (g : GroupState) (serial : ℕ) (y : Option SeatState)
    (act : SeatState → Result A Refusal × GroupState) →
    ((y : SeatState) → SameLayout g (act y)) → SameLayout g (on_seat_of g serial y act)
seat_same g serial None act p = stays g (Err NotOpen)
seat_same g serial (Some y) act p = test_same g (eqb y.serial serial) (act y) NotOpen (p y)

put_same : (k : Kind) (g : GroupState) (i : ℕ) (x : SessionState) (key : ℕ) (r : Result Version Refusal × ServerState)
    → SameLayout g (put_left k g i x key r)
put_same k g i x key (Ok w, s) = record { sites = refl; partitions = refl }
put_same k g i x key (Err why, s) = stays g (Err why)

put_value_same : (rule : Rule) (k : Kind) (g : GroupState) (i key : ℕ) (x : SessionState) (v : Result Value Refusal)
    → SameLayout g (put_value rule k g i key x v)
put_value_same rule k g i key x (Err why) = stays g (Err why)
put_value_same rule k g i key x (Ok value) = put_same k g i x key _

show_same : (k : Kind) (g h : GroupState) (i : ℕ) (v : Option Version) → h.sites ≡ g.sites → h.partitions ≡ g.partitions
    → SameLayout g (show k h i v)
show_same k g h i None p q = record { sites = p; partitions = q }
show_same k g h i (Some v) p q = record { sites = p; partitions = q }

seated_same : (k : Kind) (g : GroupState) (i : ℕ) (x : SessionState) (partition seat : ℕ)
    → SameLayout g (open_snapshot_at k g i x partition seat)
seated_same k g i x partition seat =
    both_same g (leb 4 seat) (Err NoneFree, g) _ (stays g (Err NoneFree))
    (both_same g (leb (2 ^ 32 - 1) g.next_serial) (Err End, g) (_, with_seat (learn k g i x partition) seat _ _)
    (stays g (Err End)) (record { sites = refl; partitions = refl }))

took_same : (g : GroupState) (from to partition : ℕ) (r : Result Done Refusal × ServerState)
    → SameLayout g (deliver_left g from to partition r)
took_same g from to partition (Ok done, s) = record { sites = refl; partitions = refl }
took_same g from to partition (Err why, s) = stays g (Err why)

delivered_same : (g : GroupState) (from to partition : ℕ) (e : Option Entry)
    → SameLayout g (deliver_entry g from to partition e)
delivered_same g from to partition None = stays g (Err NothingWaits)
delivered_same g from to partition (Some e) = took_same g from to partition _

step_same : (rule : Rule) (k : Kind) (g : GroupState) (call : Call) → SameLayout g (step rule k g call)
step_same rule k g (open_session site) =
    test_same g (ltb site g.sites) _ NotInLayout
    (both_same g (leb 8 (length g.sessions)) (Err NoneFree, g)
    (Ok (length g.sessions), with_sessions g (g.sessions ++ (new_session site ∷ []))) (stays g (Err NoneFree))
    (record { sites = refl; partitions = refl }))
step_same rule k g (tell site partition time) = on_server_same g site partition (λ s. server_tell s time)
step_same rule k g (put i key kind amount) =
    on_session_same g i (λ x. put_value rule k g i key x (value_from kind amount)) (put_value_same rule k g i key _ _)
step_same rule k g (get i key) = on_session_same g i
    (λ x. show k (learn k g i x (partition_of g key)) i
    (latest_visible k (informed_server k g x (partition_of g key)) key)) (show_same k g _ i _ refl refl)
step_same rule k g (heartbeat site partition) = on_server_same g site partition (server_heartbeat rule)
step_same rule k g (deliver from to partition) =
    test_same g (is_line g.sites g.partitions from to partition) _ NotInLayout
    (delivered_same g from to partition (next_for (g.server from partition).waiting to))
step_same rule k g (report site partition) = on_server_same g site partition (λ s. (Ok tt, server_report k s))
step_same rule k g (stabilise site partition) =
    on_server_same g site partition (λ s. (Ok tt, server_raise k s (common_floor k (reported_at g site))))
step_same rule k g (open_snapshot i partition) =
    test_same g (ltb partition g.partitions) _ NotInLayout
    (on_session_same g i (λ x. open_snapshot_at k g i x partition (lowest_free g.seats))
    (seated_same k g i _ partition (lowest_free g.seats)))
step_same rule k g (read ticket key) =
    seat_same g ticket.serial (seat_at g ticket.seat) _ (λ y. show_same k g _ y.session _ refl refl)
step_same rule k g (close ticket) = seat_same g ticket.serial (seat_at g ticket.seat)
    (λ y. (Ok tt, with_seat g ticket.seat None g.next_serial)) (λ y. record { sites = refl; partitions = refl })
step_same rule k g (tidy site partition) =
    on_server_same g site partition (λ s. with_ok (server_tidy k s (safe_mark k g site)))
step_same rule k g (lead site partition) =
    test_same g (has_server g site partition) (Ok (lead_of (g.server site partition)), g) NotInLayout
    (stays g (Ok (lead_of (g.server site partition))))

-- a group as it is made is reached by no calls
pub reached_made : (rule : Rule) (k : Kind) (g : GroupState) → g ≡ new_group g.sites g.partitions
    → IsLayoutBounded g.sites g.partitions → IsReached rule k g
reached_made rule k g is layout = record { layout = layout; calls = []; leads = sym is }

-- and each call leads from a reached one to a reached one
pub reached_after : {rule : Rule} {k : Kind} {g : GroupState} (call : Call) → IsReached rule k g
    → IsReached rule k (step rule k g call).1
reached_after {rule} {k} {g} call r =
    let h = (step rule k g call).1 in
    let same = step_same rule k g call in
    let Leads : ℕ → ℕ → Type 0 =
    λ sites partitions. (run_of rule k sites partitions (r.calls ++ call ∷ [])).state ≡ h in
    let S = group_store rule k g.sites in
    let leads : Leads g.sites g.partitions =
    ap (λ (t : Run S). t.state) (then_append S (record { events = []; state = new_group g.sites g.partitions }) r.calls
    (call ∷ []))
    ∙ ap (λ t. (step rule k t call).1) r.leads
    in
    record {
      layout = subst (λ s. IsLayoutBounded s h.partitions) (sym same.sites)
          (subst (IsLayoutBounded g.sites) (sym same.partitions) r.layout);
      calls = r.calls ++ call ∷ [];
      leads = subst (λ s. Leads s h.partitions) (sym same.sites) (subst (Leads g.sites) (sym same.partitions) leads);
    }

-- so is the group that a call has left, whatever it has answered
pub reached_next : {rule : Rule} {k : Kind} {g h : GroupState} (call : Call) {a : Answer call}
    → (a, h) ≡ step rule k g call → IsReached rule k g → IsReached rule k h
reached_next {rule} {k} call is r = subst (IsReached rule k) (sym (ap (λ t. t.1) is)) (reached_after call r)

-- a reached group keeps the promises
pub reached_keeps : {rule : Rule} {k : Kind} {g : GroupState} → IsLawfulKind k → IsLawfulRule rule → IsReached rule k g
    → StillKeeps rule k g
reached_keeps {rule} {k} {g} law clock r =
    let S = group_store rule k g.sites in
    record {
      reached = r;
      promises = λ more. subst (Promises S) (then_append S
          (record { events = []; state = new_group g.sites g.partitions }) r.calls more)
          (keeps_promises law rule clock g.sites g.partitions r.layout (r.calls ++ more));
    }

-- the same, where it is only known that calls lead there
pub still_reached : {rule : Rule} {k : Kind} {g h : GroupState} (call : Call) {a : Answer call}
    → (a, h) ≡ step rule k g call → ∥ IsReached rule k g ∥₁ → ∥ IsReached rule k h ∥₁
still_reached call is r = ∥∥₁_map r (reached_next call is)
