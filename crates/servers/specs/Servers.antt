-- One server: its state as plain data, and its part of each call.
use Rattle.std.specs.Prelude.{ℕ, Bool, if◌then◌else◌, List, [], ◌∷◌, ◌++◌, ℤ, pos, ◌-ℤ◌, Ok, Err, Option, Result}
use Rattle.std.specs.Prelude.{nat_lt}
use Rattle.stamps.specs.declared.refusal.Refusal.{Refusal}
use Rattle.stamps.specs.declared.refusal.Refusal.TheVariants.{NotInLayout, ReadingBehind, TableFull, OutboxFull}
use Rattle.stamps.specs.Checks.{checked_reading}
use Rattle.stamps.specs.Clocks.{Rule}
use Rattle.stamps.specs.Kinds.{Kind}
use Rattle.stamps.specs.Rows.{PerSite, at, greatest, join, same, with_entry}
use Rattle.stamps.specs.Stamps.{top_stamp, time_of}
use Rattle.servers.specs.Entries.{entry_stamp}
use Rattle.servers.specs.declared.entry.Entry.{Entry}
use Rattle.servers.specs.declared.entry.Entry.TheVariants.{Heartbeat, Update}
use Rattle.servers.specs.Others.{is_other}
use Rattle.servers.specs.Outboxes.{Queues, issue_entry, empty_queues, is_outbox_full, take_entry, last_for}
use Rattle.servers.specs.Tables.{is_covered, latest, is_table_full, table_tidy, is_visible}
use Rattle.servers.specs.declared.value.Value.{Value}
use Rattle.servers.specs.declared.version.Version.{Version}

-- the marks, as their rows
pub record MarksState : Type 0 where
  -- how far the server has received from each site; its own entry is its last stamp
  pub received : PerSite
  pub reported : PerSite
  pub stable : PerSite

pub record ServerState : Type 0 where
  pub site : ℕ
  -- how many sites the layout has
  pub sites : ℕ
  pub reading : ℕ
  pub marks : MarksState
  -- the versions, in order of arrival
  pub held : List Version
  -- the outbox: what each other site has still to take
  pub waiting : Queues

-- what clauses see of a server, as plain data: what each other site has still to take are the last entries, as many as
-- it has left
pub record ServerRecord : Type 0 where
  pub site : ℕ
  pub sites : ℕ
  pub reading : ℕ
  pub received : PerSite
  pub reported : PerSite
  pub stable : PerSite
  pub versions : List Version
  pub entries : List Entry
  pub left : PerSite

abbrev pub view : ServerRecord → ServerState
view s =
    record {
      site = s.site;
      sites = s.sites;
      reading = s.reading;
      marks = record { received = s.received; reported = s.reported; stable = s.stable };
      held = s.versions;
      waiting = last_for s.entries s.left;
    }

-- nothing was received yet; a site that the layout lacks never sends anything
abbrev pub first_entry : ℕ → ℕ → ℕ
first_entry sites site = if nat_lt site sites then 0 else top_stamp

abbrev pub first_received : ℕ → PerSite
first_received sites =
    record {
      site0 = first_entry sites 0;
      site1 = first_entry sites 1;
      site2 = first_entry sites 2;
      site3 = first_entry sites 3;
    }

abbrev pub new_server : ℕ → ℕ → ServerState
new_server site sites =
    record {
      site = site;
      sites = sites;
      reading = 0;
      marks = record { received = first_received sites; reported = same 0; stable = same 0 };
      held = [];
      waiting = empty_queues;
    }

-- the server's last stamp
abbrev pub last_of : ServerState → ℕ
last_of s = at s.marks.received s.site

abbrev pub with_received : MarksState → ℕ → ℕ → MarksState
with_received m site stamp = record m { received = with_entry m.received site stamp }

abbrev pub with_stable : MarksState → PerSite → MarksState
with_stable m stable = record m { stable = stable }

abbrev pub with_marks : ServerState → MarksState → ServerState
with_marks s marks = record s { marks = marks }

-- tell: a reading outside its range is refused before one that is behind
abbrev pub server_tell_checked : ServerState → Result ℕ Refusal → Result (Unit {0}) Refusal × ServerState
server_tell_checked s (Err why) = (Err why, s)
server_tell_checked s (Ok time) =
    if nat_lt time s.reading then (Err ReadingBehind, s) else (Ok tt, record s { reading = time })

abbrev pub server_tell : ServerState → ℕ → Result (Unit {0}) Refusal × ServerState
server_tell s time = server_tell_checked s (checked_reading time)

-- an entry is issued: its stamp is the last one, and every other site has it to take
abbrev pub server_issue : ServerState → Entry → ServerState
server_issue s e =
    record s { marks = with_received s.marks s.site (entry_stamp e); waiting = issue_entry s.site s.sites s.waiting e }

-- heartbeat: a full outbox is refused before the rule is asked
abbrev pub server_heartbeat_with : ServerState → Result ℕ Refusal → Result ℕ Refusal × ServerState
server_heartbeat_with s (Err why) = (Err why, s)
server_heartbeat_with s (Ok stamp) = (Ok stamp, server_issue s (Heartbeat stamp))

abbrev pub server_heartbeat : Rule → ServerState → Result ℕ Refusal × ServerState
server_heartbeat rule s =
    if is_outbox_full s.site s.sites s.waiting
    then (Err OutboxFull, s)
    else server_heartbeat_with s (rule (last_of s) s.reading 0)

-- the time of the last stamp less the reading
abbrev pub lead_of : ServerState → ℤ
lead_of s = pos (time_of (last_of s)) -ℤ pos s.reading

-- a mark is joined into the stable mark, which is taken as a mark by the kind's floor
abbrev pub server_raise : Kind → ServerState → PerSite → ServerState
server_raise k s mark = with_marks s (with_stable s.marks (join (k.floor s.marks.stable) mark))

-- the reported mark is the floor of the received row
abbrev pub server_report : Kind → ServerState → ServerState
server_report k s = with_marks s (record s.marks { reported = k.floor s.marks.received })

-- put: the version that is made
abbrev pub put_version : ServerState → ℕ → Value → PerSite → ℕ → Version
put_version s key value depends stamp =
    record { key = key; value = value; stamp = stamp; source = s.site; mark = depends }

-- the version is kept, at the end
abbrev pub server_keep : ServerState → Version → ServerState
server_keep s v = record s { held = s.held ++ v ∷ [] }

-- with a stamp, the version is kept, issued and answered, and the stable mark is raised by what the session knows
abbrev pub server_put_with : Kind → ServerState → ℕ → Value → PerSite → PerSite → Result ℕ Refusal
    → Result Version Refusal × ServerState
server_put_with k s key value depends knows (Err why) = (Err why, s)
server_put_with k s key value depends knows (Ok stamp) =
    let v = put_version s key value depends stamp in
    (Ok v, server_raise k (server_issue (server_keep s v) (Update v)) knows)

-- a full table is refused before a full outbox, and that before the rule is asked; the dependency is the greatest
-- entry of what the session depends on
abbrev pub server_put : Rule → Kind → ServerState → ℕ → Value → PerSite → PerSite → Result Version Refusal × ServerState
server_put rule k s key value depends knows =
    if is_table_full s.held then (Err TableFull, s)
    else if is_outbox_full s.site s.sites s.waiting then (Err OutboxFull, s)
    else server_put_with k s key value depends knows (rule (last_of s) s.reading (greatest depends))

-- an entry of this stamp was taken from a site
abbrev pub server_receive : ServerState → ℕ → ℕ → ServerState
server_receive s from stamp = with_marks s (with_received s.marks from stamp)

-- an entry of another site of the layout is taken: a full table refuses an update
abbrev pub server_take_other : ServerState → ℕ → Entry → Result (Unit {0}) Refusal × ServerState
server_take_other s from (Heartbeat stamp) = (Ok tt, server_receive s from stamp)
server_take_other s from (Update v) =
    if is_table_full s.held then (Err TableFull, s) else (Ok tt, server_receive (server_keep s v) from v.stamp)

-- take: an entry of any other origin is refused before anything else
abbrev pub server_take : ServerState → ℕ → Entry → Result (Unit {0}) Refusal × ServerState
server_take s from e = if is_other s.site s.sites from then server_take_other s from e else (Err NotInLayout, s)

-- a site has taken its next entry
abbrev pub server_hand_over : ServerState → ℕ → ServerState
server_hand_over s site = record s { waiting = take_entry s.waiting site }

-- whether a version is visible at the server
abbrev pub sees : Kind → ServerState → Version → Bool
sees k s = is_visible k s.site (k.floor s.marks.stable)

-- the latest version of a key that is visible
abbrev pub latest_visible : Kind → ServerState → ℕ → Option Version
latest_visible k s key = latest (sees k s) key s.held

-- the latest version of a key that a cut covers
abbrev pub latest_covered : Kind → ServerState → ℕ → PerSite → Option Version
latest_covered k s key cut = latest (is_covered k cut) key s.held

-- tidying under a safe mark: how many versions are dropped
abbrev pub server_tidy : Kind → ServerState → PerSite → ℕ × ServerState
server_tidy k s safe =
    let t = table_tidy k safe s.held in
    (t.0, record s { held = t.1 })
