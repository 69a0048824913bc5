-- A group in plain numbers: its servers, its sessions and its open snapshots.
use Rattle.std.specs.Prelude.{ℕ, zero, suc, ◌%◌, Bool, if◌then◌else◌, not, ◌&&◌, List, [], ◌∷◌, ◌++◌, ◌==◌, nat_lt}
use Rattle.std.specs.Prelude.{Some, None, Option, slice_index_or, slice_set}
use Rattle.stamps.specs.Rows.{PerSite, same}
use Rattle.servers.specs.Servers.{ServerState, new_server}

-- The marks of a session are kept as their rows. Depends stands for what it has put and was shown, knows for the stable
-- marks that it has met.
pub record SessionState : Type 0 where
  pub site : ℕ
  pub depends : PerSite
  pub knows : PerSite

-- an open snapshot: its session, its serial number, and the row of its cut
pub record SeatState : Type 0 where
  pub session : ℕ
  pub serial : ℕ
  pub cut : PerSite

pub record GroupState : Type 0 where
  pub sites : ℕ
  pub partitions : ℕ
  -- by site and partition
  pub server : ℕ → ℕ → ServerState
  -- in order of opening; a session's number is its place
  pub sessions : List SessionState
  -- the four seats
  pub seats : List (Option SeatState)
  pub next_serial : ℕ

-- a session as it is opened
abbrev pub new_session : ℕ → SessionState
new_session site = record { site = site; depends = same 0; knows = same 0 }

-- a group as it is made
abbrev pub new_group : ℕ → ℕ → GroupState
new_group sites partitions =
    record {
      sites = sites;
      partitions = partitions;
      server = λ site partition. new_server site sites;
      sessions = [];
      seats = None ∷ None ∷ None ∷ None ∷ [];
      next_serial = 0;
    }

-- every site has every partition, and such a pair is a server
abbrev pub is_server : ℕ → ℕ → ℕ → ℕ → Bool
is_server sites partitions site partition = nat_lt site sites && nat_lt partition partitions

-- the servers of a partition at two sites have a line between them
abbrev pub is_line : ℕ → ℕ → ℕ → ℕ → ℕ → Bool
is_line sites partitions from to partition =
    is_server sites partitions from partition && (is_server sites partitions to partition && not (from == to))

-- the partition of a key
abbrev pub partition_of : GroupState → ℕ → ℕ
partition_of g key = key % g.partitions

-- the session of a number below their count
abbrev pub session_at : GroupState → ℕ → SessionState
session_at g i = slice_index_or g.sessions i (new_session 0)

-- the open snapshot at a seat, if there is one
abbrev pub seat_at : GroupState → ℕ → Option SeatState
seat_at g a = slice_index_or g.seats a None

-- one server or one session replaced
abbrev pub with_server : GroupState → ℕ → ℕ → ServerState → GroupState
with_server g site partition s =
    record g { server = λ i n. if i == site && n == partition then s else g.server i n }

abbrev pub with_sessions : GroupState → List SessionState → GroupState
with_sessions g sessions = record g { sessions = sessions }

abbrev pub with_session : GroupState → ℕ → SessionState → GroupState
with_session g i x = with_sessions g (slice_set g.sessions i x)

-- one seat replaced, and the next serial number from then on
abbrev pub with_seat : GroupState → ℕ → Option SeatState → ℕ → GroupState
with_seat g a y next = record g { seats = slice_set g.seats a y; next_serial = next }

-- the lowest free seat; their number if none is free
abbrev pub lowest_free : List (Option SeatState) → ℕ
lowest_free [] = 0
lowest_free (None ∷ ys) = 0
lowest_free (Some y ∷ ys) = suc (lowest_free ys)

-- f 0, f 1, and so on, the first n of them
abbrev pub tabulate : {A : Type 0} → (ℕ → A) → ℕ → List A
tabulate f zero = []
tabulate f (suc n) = tabulate f n ++ (f n ∷ [])

-- the reported and the stable marks of a site's servers
abbrev pub reported_at : GroupState → ℕ → List PerSite
reported_at g site = tabulate (λ n. (g.server site n).marks.reported) g.partitions

abbrev pub stable_at : GroupState → ℕ → List PerSite
stable_at g site = tabulate (λ n. (g.server site n).marks.stable) g.partitions

-- the cuts of the open snapshots of a site's sessions
abbrev pub cuts_of : GroupState → ℕ → List (Option SeatState) → List PerSite
cuts_of g site [] = []
cuts_of g site (None ∷ ys) = cuts_of g site ys
cuts_of g site (Some y ∷ ys) =
    if (session_at g y.session).site == site then y.cut ∷ cuts_of g site ys else cuts_of g site ys

abbrev pub cuts_at : GroupState → ℕ → List PerSite
cuts_at g site = cuts_of g site g.seats
