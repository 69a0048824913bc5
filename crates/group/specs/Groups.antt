-- What contracts see of a group, and its state in plain numbers.
use Rattle.std.specs.Prelude.{ℕ, if◌then◌else◌, ◌&&◌, List, map, Option, nat_lt, slice_index_or}
use Rattle.servers.specs.Servers.{ServerRecord, ServerState, new_server, view as server_view}
use Rattle.group.specs.Model.Groups.{GroupState, SessionState, SeatState}
use Rattle.group.specs.Places.{place_of}

pub record GroupRecord : Type 0 where
  pub sites : ℕ
  pub partitions : ℕ
  -- site by site, four to a site; those in the places of sites and partitions that the layout lacks are never used
  pub servers : List ServerRecord
  pub sessions : List SessionState
  pub seats : List (Option SeatState)
  pub next_serial : ℕ

-- the server of a site and a partition; at a site that the layout lacks, a server as it is made
abbrev pub server_from : ℕ → List ServerState → ℕ → ℕ → ServerState
server_from sites servers site partition =
    if nat_lt site sites && nat_lt partition 4
    then slice_index_or servers (place_of site partition) (new_server site sites)
    else new_server site sites

-- the group in plain numbers
abbrev pub view : GroupRecord → GroupState
view g =
    record {
      sites = g.sites;
      partitions = g.partitions;
      server = server_from g.sites (map server_view g.servers);
      sessions = g.sessions;
      seats = g.seats;
      next_serial = g.next_serial;
    }
