-- A group as a store, and the theorem about it.
use Rattle.std.specs.Prelude.{◌≡◌, ℕ, ◌^◌, ◌<◌, ◌≤◌, ◌≢◌, Bool, List, [], length, Contains, Some}
use Rattle.std.specs.List.{flat_map}
use Rattle.stamps.specs.Rows.{HasStamps}
use Rattle.stamps.specs.Kinds.{Kind, IsMark}
use Rattle.servers.specs.declared.entry.Entry.{Entry}
use Rattle.servers.specs.declared.entry.Entry.TheVariants.{Update, Heartbeat}
use Rattle.servers.specs.Servers.{ServerState, sees}
use Rattle.stamps.specs.Clocks.{Rule}
use Rattle.servers.specs.declared.value.Value.{Value}
use Rattle.servers.specs.declared.value.Value.TheVariants.{Gone, Price, Percent, Basis}
use Rattle.servers.specs.declared.value.Basis.TheVariants.{Part, Sheet}
use Rattle.servers.specs.declared.version.Version.{Version}
use Rattle.group.specs.Model.Calls.{step, informed_server}
use Rattle.group.specs.Model.Groups.{GroupState, SessionState, SeatState, new_group, partition_of, session_at, seat_at}
use Rattle.group.specs.Model.Groups.{tabulate}
use Rattle.group.specs.Model.Promises.{KeepsPromises}
use Rattle.group.specs.Model.Stores.{Store}

-- the versions of all servers of a site
abbrev pub versions_at : GroupState → ℕ → List Version
versions_at g site = flat_map (λ s. s.held) (tabulate (g.server site) g.partitions)

-- every outbox is empty
abbrev pub HasEmptyOutboxes : GroupState → Type 0
HasEmptyOutboxes g =
    (from to partition : ℕ) → from < g.sites → to < g.sites → partition < g.partitions
    → (g.server from partition).waiting to ≡ []

-- the session's server, once it has heard what the session knows, shows the version
abbrev pub may_see : Kind → GroupState → ℕ → Version → Bool
may_see k g i v = sees k (informed_server k g (session_at g i) (partition_of g v.key)) v

-- a price is an amount of 32 bits, a percentage at most 10,000 hundredths
abbrev pub IsInRange : Value → Type 0
IsInRange Gone = Unit {0}
IsInRange (Price cents) = cents < 2 ^ 32
IsInRange (Percent percent) = percent.hundredths ≤ 10000
IsInRange (Basis Part) = Unit {0}
IsInRange (Basis Sheet) = Unit {0}

-- Of a key nothing is asked here: its 16 bits are its type's in the code, and a call may be made with any. The range of
-- a percentage is its type's too.
pub record IsVersionBounded (k : Kind) (sites : ℕ) (v : Version) : Type 0 where
  pub value : IsInRange v.value
  pub stamp : v.stamp < 2 ^ 63
  pub source : v.source < sites
  pub mark : IsMark k v.mark

abbrev pub IsEntryBounded : Kind → ℕ → Entry → Type 0
IsEntryBounded k sites (Update v) = IsVersionBounded k sites v
IsEntryBounded k sites (Heartbeat stamp) = stamp < 2 ^ 63

-- A server of a site holds at most 32 versions and keeps at most 16 entries for another site. What it keeps of a mark
-- is the row of a mark of the kind, so the kind's floor gives the mark back.
pub record IsServerBounded (k : Kind) (sites site : ℕ) (s : ServerState) : Type 0 where
  pub few_versions : length s.held ≤ 32
  pub few_entries : (to : ℕ) → length (s.waiting to) ≤ 16
  pub versions : (v : Version) → Contains s.held v → IsVersionBounded k sites v
  pub entries : (to : ℕ) → to < sites → to ≢ site → (e : Entry) → Contains (s.waiting to) e → IsEntryBounded k sites e
  pub reading : s.reading < 2 ^ 47
  pub received : HasStamps s.marks.received
  pub reported : IsMark k s.marks.reported
  pub stable : IsMark k s.marks.stable

pub record IsSessionBounded (k : Kind) (sites : ℕ) (x : SessionState) : Type 0 where
  pub site : x.site < sites
  pub depends : IsMark k x.depends
  pub knows : IsMark k x.knows

pub record IsSeatBounded (k : Kind) (sessions next : ℕ) (y : SeatState) : Type 0 where
  pub session : y.session < sessions
  pub serial : y.serial < next
  pub cut : IsMark k y.cut

-- 2 to 4 sites and 1 to 4 partitions
pub record IsLayoutBounded (sites partitions : ℕ) : Type 0 where
  pub some_sites : 2 ≤ sites
  pub few_sites : sites ≤ 4
  pub some_partitions : 1 ≤ partitions
  pub few_partitions : partitions ≤ 4

-- A group has at most 8 sessions, and 4 seats. A serial number that was given is below the next one, so below 2^32 - 1.
pub record IsGroupBounded (k : Kind) (g : GroupState) : Type 0 where
  pub layout : IsLayoutBounded g.sites g.partitions
  pub servers : (site partition : ℕ) → site < g.sites → partition < g.partitions
      → IsServerBounded k g.sites site (g.server site partition)
  pub few_sessions : length g.sessions ≤ 8
  pub sessions : (i : ℕ) → i < length g.sessions → IsSessionBounded k g.sites (session_at g i)
  pub four_seats : length g.seats ≡ 4
  pub seats : (a : ℕ) (y : SeatState) → seat_at g a ≡ Some y → IsSeatBounded k (length g.sessions) g.next_serial y
  pub serials : g.next_serial < 2 ^ 32

abbrev pub group_store : Rule → Kind → ℕ → Store
group_store rule k sites =
    record {
      State = GroupState;
      sites = sites;
      ask = step rule k;
      IsQuiet = HasEmptyOutboxes;
      holds = versions_at;
      may_see = may_see k;
      IsBounded = IsGroupBounded k;
    }

-- A group with this clock rule and this kind of mark keeps the promises from its making on.
abbrev pub GroupKeepsPromises : Rule → Kind → ℕ → ℕ → Type 0
GroupKeepsPromises rule k sites partitions = KeepsPromises (group_store rule k sites) (new_group sites partitions)
