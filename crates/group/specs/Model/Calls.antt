-- What each call of a group answers, and the group after it. Refusals stand in the order in which they are checked.
use Rattle.std.specs.Prelude.{◌≡◌, ℕ, suc, ◌-◌, ◌^◌, Bool, if◌then◌else◌, [], ◌∷◌, ◌++◌, length, ◌==◌, nat_le, nat_lt}
use Rattle.std.specs.Prelude.{Some, None, Ok, Err, Option, Result}
use Rattle.stamps.specs.declared.refusal.Refusal.{Refusal}
use Rattle.stamps.specs.declared.refusal.Refusal.TheVariants.{NotInLayout, NoSession, NoneFree, NothingWaits}
use Rattle.stamps.specs.declared.refusal.Refusal.TheVariants.{NotOpen, End}
use Rattle.stamps.specs.Rows.{PerSite, join}
use Rattle.stamps.specs.Kinds.{Kind}
use Rattle.servers.specs.declared.entry.Entry.{Entry}
use Rattle.servers.specs.Outboxes.{next_for}
use Rattle.servers.specs.Servers.{ServerState, server_tell, server_heartbeat, server_put}
use Rattle.stamps.specs.Clocks.{Rule}
use Rattle.servers.specs.Servers.{server_take, server_hand_over, lead_of, server_raise, server_report, latest_visible}
use Rattle.servers.specs.Servers.{latest_covered, server_tidy}
use Rattle.servers.specs.Values.{value_from}
use Rattle.servers.specs.declared.value.Value.{Value}
use Rattle.servers.specs.Versions.{full_mark}
use Rattle.servers.specs.declared.version.Version.{Version}
use Rattle.group.specs.Model.Events.{Done, Shown, Ticket, Call, open_session, tell, put, get, heartbeat, deliver}
use Rattle.group.specs.Model.Events.{report, stabilise, open_snapshot, read, close, tidy, lead, Answer}
use Rattle.stamps.specs.CommonFloors.{common_floor}
use Rattle.group.specs.Model.Groups.{GroupState, SessionState, SeatState, new_session, partition_of, session_at}
use Rattle.group.specs.Model.Groups.{seat_at, with_server, with_sessions, with_session, with_seat, is_line, is_server}
use Rattle.group.specs.Model.Groups.{lowest_free, reported_at, stable_at, cuts_at}

abbrev pub has_server : GroupState → ℕ → ℕ → Bool
has_server g = is_server g.sites g.partitions

-- what a server has answered and left, as the group's; a refusal leaves the group as it was
abbrev pub server_left : {A : Type 0}
    → GroupState → ℕ → ℕ → Result A Refusal × ServerState → Result A Refusal × GroupState
server_left g site partition (Ok x, s) = (Ok x, with_server g site partition s)
server_left g site partition (Err why, s) = (Err why, g)

-- a call of one server: refused if the layout lacks it
abbrev pub on_server : {A : Type 0}
    → GroupState → ℕ → ℕ → (ServerState → Result A Refusal × ServerState) → Result A Refusal × GroupState
on_server g site partition act =
    if has_server g site partition
    then server_left g site partition (act (g.server site partition))
    else (Err NotInLayout, g)

-- the same, of what is never refused
abbrev pub change_server : GroupState → ℕ → ℕ → (ServerState → ServerState) → Result Done Refusal × GroupState
change_server g site partition change = on_server g site partition (λ s. (Ok tt, change s))

-- a call of a session: refused if it was not opened
abbrev pub on_session : {A : Type 0}
    → GroupState → ℕ → (SessionState → Result A Refusal × GroupState) → Result A Refusal × GroupState
on_session g i act = if nat_lt i (length g.sessions) then act (session_at g i) else (Err NoSession, g)

-- the snapshot of a ticket is open: one is at its seat, under its serial number
pub record HasOpen (g : GroupState) (ticket : Ticket) : Type 0 where
  pub snapshot : SeatState
  pub there : seat_at g ticket.seat ≡ Some snapshot
  pub serial : snapshot.serial ≡ ticket.serial

-- a call of an open snapshot: refused if its seat is not open under its serial number
abbrev pub on_seat_of : {A : Type 0}
    → GroupState → ℕ → Option SeatState → (SeatState → Result A Refusal × GroupState) → Result A Refusal × GroupState
on_seat_of g serial None act = (Err NotOpen, g)
on_seat_of g serial (Some y) act = if y.serial == serial then act y else (Err NotOpen, g)

abbrev pub on_seat : {A : Type 0}
    → GroupState → Ticket → (SeatState → Result A Refusal × GroupState) → Result A Refusal × GroupState
on_seat g ticket act = on_seat_of g ticket.serial (seat_at g ticket.seat) act

-- open session
abbrev pub open_session_step : GroupState → ℕ → Result ℕ Refusal × GroupState
open_session_step g site =
    if nat_lt site g.sites
    then if nat_le 8 (length g.sessions)
    then (Err NoneFree, g)
    else (Ok (length g.sessions), with_sessions g (g.sessions ++ (new_session site ∷ [])))
    else (Err NotInLayout, g)

-- a session depends on this mark from then on
abbrev pub with_depends : SessionState → PerSite → SessionState
with_depends x depends = record x { depends = depends }

-- what is shown of a version
abbrev pub shown_of : Version → Shown
shown_of v = record { value = v.value; stamp = v.stamp; source = v.source }

-- a session depends on a version from then on; after its own put this is the version's full mark, which covers all that
-- the session depended on before
abbrev pub depend : Kind → GroupState → ℕ → Version → GroupState
depend k g i v =
    let x = session_at g i in
    with_session g i (with_depends x (join (k.floor x.depends) (full_mark k v)))

-- put: the stamp of the new version is answered, and the session depends on the version from then on
abbrev pub put_left :
    Kind → GroupState → ℕ → SessionState → ℕ → Result Version Refusal × ServerState → Result ℕ Refusal × GroupState
put_left k g i x key (Err why, s) = (Err why, g)
put_left k g i x key (Ok v, s) = (Ok v.stamp, depend k (with_server g x.site (partition_of g key) s) i v)

abbrev pub put_value :
    Rule → Kind → GroupState → ℕ → ℕ → SessionState → Result Value Refusal → Result ℕ Refusal × GroupState
put_value rule k g i key x (Err why) = (Err why, g)
put_value rule k g i key x (Ok value) =
    let s = g.server x.site (partition_of g key) in
    put_left k g i x key (server_put rule k s key value (k.floor x.depends) (k.floor x.knows))

-- a session was shown a version, or none: it depends on the version from then on
abbrev pub show : Kind → GroupState → ℕ → Option Version → Result (Option Shown) Refusal × GroupState
show k g i None = (Ok None, g)
show k g i (Some v) = (Ok (Some (shown_of v)), depend k g i v)

-- a session's server hears what the session knows, and the session knows its stable mark from then on
abbrev pub informed_server : Kind → GroupState → SessionState → ℕ → ServerState
informed_server k g x partition = server_raise k (g.server x.site partition) (k.floor x.knows)

abbrev pub learn : Kind → GroupState → ℕ → SessionState → ℕ → GroupState
learn k g i x partition =
    let s = informed_server k g x partition in
    with_session (with_server g x.site partition s) i (record x { knows = s.marks.stable })

-- open snapshot: the seat is the lowest free one
abbrev pub open_snapshot_at : Kind → GroupState → ℕ → SessionState → ℕ → ℕ → Result Ticket Refusal × GroupState
open_snapshot_at k g i x partition seat =
    let cut = (informed_server k g x partition).marks.stable in
    if nat_le 4 seat then (Err NoneFree, g) else if nat_le (2 ^ 32 - 1) g.next_serial then (Err End, g) else (
      Ok (record { seat = seat; serial = g.next_serial }),
      with_seat (learn k g i x partition) seat
          (Some (record { session = i; serial = g.next_serial; cut = cut })) (suc g.next_serial),
    )

-- deliver: the next entry that waits, if there is one, is taken, and then it is taken out of the outbox
abbrev pub deliver_left :
    GroupState → ℕ → ℕ → ℕ → Result Done Refusal × ServerState → Result Done Refusal × GroupState
deliver_left g from to partition (Err why, s) = (Err why, g)
deliver_left g from to partition (Ok done, s) =
    (Ok done, with_server (with_server g to partition s) from partition (server_hand_over (g.server from partition) to))

abbrev pub deliver_entry : GroupState → ℕ → ℕ → ℕ → Option Entry → Result Done Refusal × GroupState
deliver_entry g from to partition None = (Err NothingWaits, g)
deliver_entry g from to partition (Some e) =
    deliver_left g from to partition (server_take (g.server to partition) from e)

-- tidy: what no snapshot of the site, open or yet to be opened, can need is dropped
abbrev pub safe_mark : Kind → GroupState → ℕ → PerSite
safe_mark k g site = common_floor k (stable_at g site ++ cuts_at g site)

abbrev pub with_ok : {A : Type 0} → A × ServerState → Result A Refusal × ServerState
with_ok (n, s) = (Ok n, s)

abbrev pub step : Rule → Kind → GroupState → (call : Call) → Answer call × GroupState
step rule k g (open_session site) = open_session_step g site
step rule k g (tell site partition time) = on_server g site partition (λ s. server_tell s time)
step rule k g (put i key kind amount) = on_session g i (λ x. put_value rule k g i key x (value_from kind amount))
step rule k g (get i key) =
    on_session g i (λ x.
    let s = informed_server k g x (partition_of g key) in
    show k (learn k g i x (partition_of g key)) i (latest_visible k s key))
step rule k g (heartbeat site partition) = on_server g site partition (server_heartbeat rule)
step rule k g (deliver from to partition) =
    if is_line g.sites g.partitions from to partition
    then deliver_entry g from to partition (next_for (g.server from partition).waiting to)
    else (Err NotInLayout, g)
step rule k g (report site partition) = change_server g site partition (server_report k)
step rule k g (stabilise site partition) =
    change_server g site partition (λ s. server_raise k s (common_floor k (reported_at g site)))
step rule k g (open_snapshot i partition) =
    if nat_lt partition g.partitions
    then on_session g i (λ x. open_snapshot_at k g i x partition (lowest_free g.seats))
    else (Err NotInLayout, g)
step rule k g (read ticket key) =
    on_seat g ticket (λ y.
    let x = session_at g y.session in
    let s = server_raise k (g.server x.site (partition_of g key)) (k.floor y.cut) in
    show k (with_server g x.site (partition_of g key) s) y.session (latest_covered k s key (k.floor y.cut)))
step rule k g (close ticket) = on_seat g ticket (λ y. (Ok tt, with_seat g ticket.seat None g.next_serial))
step rule k g (tidy site partition) = on_server g site partition (λ s. with_ok (server_tidy k s (safe_mark k g site)))
step rule k g (lead site partition) =
    if has_server g site partition then (Ok (lead_of (g.server site partition)), g) else (Err NotInLayout, g)

-- the call has this answer, and leaves the group in this state
abbrev pub IsStep : Rule → Kind → GroupState → (call : Call) → Answer call → GroupState → Type 0
IsStep rule kind before call answer after = (answer, after) ≡ step rule kind before call
