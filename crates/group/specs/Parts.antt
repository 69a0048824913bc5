-- The parts of a group: what contracts see of them, and one server of them.
use Rattle.std.specs.Prelude.{◌≡◌, ℕ, ◌<◌, List, length, Result, slice_index_or}
use Rattle.servers.specs.Servers.{ServerRecord, ServerState, view as server_view}
use Rattle.stamps.specs.declared.refusal.Refusal.{Refusal}
use Rattle.group.specs.Model.Groups.{GroupState, with_server}
use Rattle.group.specs.Model.Calls.{server_left}
use Rattle.group.specs.declared.group_parts.GroupParts.{GroupParts}
use Rattle.group.specs.declared.place.Place.{Place}
use Rattle.group.specs.Groups.{GroupRecord, view as view_of}

-- what contracts see of a group
abbrev pub group_record : {C K Mark : Type 0} {rule : _} {kind : _} → GroupParts C K Mark rule kind → GroupRecord
group_record g =
    record {
      sites = g.layout.sites;
      partitions = g.layout.partitions;
      servers = g.servers;
      sessions = g.sessions.items;
      seats = g.seats.places;
      next_serial = g.next_serial;
    }

-- the group in plain numbers
abbrev pub view : {C K Mark : Type 0} {rule : _} {kind : _} → GroupParts C K Mark rule kind → GroupState
view g = view_of (group_record g)

-- the server at a place
abbrev pub server_at : GroupState → Place → ServerState
server_at g place = g.server place.0 place.1

-- the group with another server at a place
abbrev pub with_server_at : GroupState → Place → ServerState → GroupState
with_server_at g place s = with_server g place.0 place.1 s

-- what a call of the server at a place answers, and the group after it
abbrev pub call_server_at : {A : Type 0}
    → GroupState → Place → (ServerState → Result A Refusal × ServerState) → Result A Refusal × GroupState
call_server_at g place act = server_left g place.0 place.1 (act (server_at g place))

-- the servers of a site, by partition
abbrev pub IsServerList : {C K Mark : Type 0} {rule : _} {kind : _}
    → GroupParts C K Mark rule kind → ℕ → List ServerRecord → Type 0
IsServerList g site servers =
    (length servers ≡ g.layout.partitions)
    × ((n : ℕ) (d : _) → n < length servers → server_view (slice_index_or servers n d) ≡ (view g).server site n)
