-- The invariant: what holds of a group after any calls. Its parts speak of the tables that they need and of no others,
-- so that a call which leaves these alone keeps the part as it is.
use Rattle.std.proofs.Common.{◌≡◌, ℕ, ◌%◌, ◌^◌, ◌<◌, ◌≤◌, ◌⊎◌, List, [], ◌∷◌, length, Some, Option}
use Rattle.stamps.specs.Rows.{PerSite, HasStamps, Covers, at, greatest}
use Rattle.stamps.specs.Kinds.{Kind, IsMark}
use Rattle.servers.specs.Entries.{entry_stamp}
use Rattle.servers.specs.declared.entry.Entry.{Entry}
use Rattle.servers.specs.declared.entry.Entry.TheVariants.{Update}
use Rattle.servers.specs.Versions.{full_mark}
use Rattle.servers.specs.declared.version.Version.{Version}
use Rattle.servers.proofs.Elements.{InList}
use Rattle.group.specs.Model.Calls.{safe_mark}
use Rattle.group.specs.Model.Events.{Put, IsLater}
use Rattle.group.specs.Model.Groups.{GroupState, SessionState, SeatState, session_at, seat_at}
use Rattle.group.specs.Model.Pasts.{Pasts, of_session, of_put}

-- How many sites and partitions there are.
pub record Shape : Type 0 where
  pub sites : ℕ
  pub parts : ℕ
  pub sites_four : sites ≤ 4
  pub parts_some : 1 ≤ parts

abbrev pub part : Shape → ℕ → ℕ
part L key = key % L.parts

-- What the proof remembers beside the group: every version ever put, and of each snapshot ever opened, by its serial
-- number, the cut and the site.
pub record Ghost : Type 0 where
  pub log : List Version
  pub cut_of : ℕ → PerSite
  pub snap_site : ℕ → ℕ

-- The group as a table for each thing: by site and partition, by session number, by seat.
pub record Tables : Type 0 where
  pub held : ℕ → ℕ → List Version
  pub received : ℕ → ℕ → PerSite
  pub reported : ℕ → ℕ → PerSite
  pub stable : ℕ → ℕ → PerSite
  -- by source, partition and taker
  pub waits : ℕ → ℕ → ℕ → List Entry
  pub opened : ℕ
  pub session : ℕ → SessionState
  pub seat : ℕ → Option SeatState
  pub next : ℕ
  -- the safe mark of tidying, by site
  pub safe : ℕ → PerSite

abbrev pub tables : Kind → GroupState → Tables
tables k g = record {
  held = λ s n. (g.server s n).held;
  received = λ s n. (g.server s n).marks.received;
  reported = λ s n. (g.server s n).marks.reported;
  stable = λ s n. (g.server s n).marks.stable;
  waits = λ s n. (g.server s n).waiting;
  opened = length g.sessions;
  session = session_at g;
  seat = seat_at g;
  next = g.next_serial;
  safe = safe_mark k g;
}

abbrev pub name_of : Version → Put
name_of v = record { key = v.key; stamp = v.stamp; source = v.source }

-- the last stamp of a server is its own entry of its received row
abbrev pub last : (ℕ → ℕ → PerSite) → ℕ → ℕ → ℕ
last received s n = at (received s n) s

-- Entries in strictly rising stamps, all above low, the last of them high; if there are none, low is high.
abbrev pub Chain : ℕ → List Entry → ℕ → Type 0
Chain low [] high = low ≡ high
Chain low (e ∷ es) high = (low < entry_stamp e) × Chain (entry_stamp e) es high

-- Site s has got v from its source, or made it itself.
abbrev pub Had : Shape → (ℕ → ℕ → PerSite) → ℕ → Version → Type 0
Had L received s v = v.stamp ≤ at (received s (part L v.key)) v.source

-- Every server of site s has received all that m stands for.
abbrev pub Below : Shape → (ℕ → ℕ → PerSite) → ℕ → PerSite → Type 0
Below L received s m = (n : ℕ) → n < L.parts → Covers (received s n) m

-- The log: every version ever put.
pub record LogInv (k : Kind) (L : Shape) (received : ℕ → ℕ → PerSite) (log : List Version) : Type 0 where
  pub source : (v : Version) → InList v log → v.source < L.sites
  pub stamped : (v : Version) → InList v log → v.stamp ≤ last received v.source (part L v.key)
  pub small : (v : Version) → InList v log → v.stamp < 2 ^ 63
  pub marked : (v : Version) → InList v log → IsMark k v.mark
  pub above : (v : Version) → InList v log → greatest v.mark < v.stamp
  pub unique : (v w : Version) → InList v log → InList w log → name_of v ≡ name_of w → v ≡ w

-- What is under way: it comes in rising stamps, and a version of the log has arrived at a site or is under way to it.
pub record QueueInv (L : Shape) (received : ℕ → ℕ → PerSite) (waits : ℕ → ℕ → ℕ → List Entry)
    (log : List Version) : Type 0 where
  pub chain : (j s n : ℕ) → j < L.sites → s < L.sites → (s ≡ j → ⊥)
      → Chain (at (received s n) j) (waits j n s) (last received j n)
  pub pending : (v : Version) (j s n : ℕ) → j < L.sites → s < L.sites → (s ≡ j → ⊥) → InList (Update v) (waits j n s)
      → InList v log × (v.source ≡ j) × (part L v.key ≡ n)
  pub reach : (v : Version) (s : ℕ) → InList v log → s < L.sites → (s ≡ v.source → ⊥) →
      Had L received s v ⊎ InList (Update v) (waits v.source (part L v.key) s)

-- A version is held, or a later one of its key that the safe mark covers stands in for it.
pub record StandsIn (k : Kind) (vs : List Version) (safe : PerSite) (v : Version) : Type 0 where
  pub other : Version
  pub there : InList other vs
  pub same_key : other.key ≡ v.key
  pub how : (other ≡ v) ⊎ (IsLater (name_of other) (name_of v) × Covers safe (full_mark k other))

-- What is held was had, and what was had is held or stood in for.
pub record HeldInv (k : Kind) (L : Shape) (received : ℕ → ℕ → PerSite) (held : ℕ → ℕ → List Version)
    (safe : ℕ → PerSite) (log : List Version) : Type 0 where
  pub had : (v : Version) (s n : ℕ) → InList v (held s n) → InList v log × (part L v.key ≡ n) × Had L received s v
  pub kept : (v : Version) (s : ℕ) → s < L.sites → InList v log → Had L received s v
      → StandsIn k (held s (part L v.key)) (safe s) v

-- The marks of the servers: marks of the kind, and below what was received.
pub record ServerMarks (k : Kind) (L : Shape) (received reported stable : ℕ → ℕ → PerSite) : Type 0 where
  pub received_stamps : (s n : ℕ) → HasStamps (received s n)
  pub reported_mark : (s n : ℕ) → IsMark k (reported s n)
  pub reported_below : (s n : ℕ) → Covers (received s n) (reported s n)
  pub stable_mark : (s n : ℕ) → IsMark k (stable s n)
  pub stable_below : (s n : ℕ) → Below L received s (stable s n)

-- A session
pub record SessionInv (k : Kind) (L : Shape) (received : ℕ → ℕ → PerSite) (x : SessionState) : Type 0 where
  pub inside : x.site < L.sites
  pub depends_mark : IsMark k x.depends
  pub knows_mark : IsMark k x.knows
  pub knows_below : Below L received x.site x.knows

-- An open snapshot
pub record SeatInv (opened : ℕ) (session : ℕ → SessionState) (next : ℕ) (cut_of : ℕ → PerSite) (snap_site : ℕ → ℕ)
    (y : SeatState) : Type 0 where
  pub known : y.session < opened
  pub covered : Covers (session y.session).knows y.cut
  pub issued : y.serial < next
  pub its_cut : y.cut ≡ cut_of y.serial
  pub its_site : (session y.session).site ≡ snap_site y.serial

-- Every snapshot ever opened, closed since or not
pub record CutInv (k : Kind) (L : Shape) (received : ℕ → ℕ → PerSite) (next : ℕ) (cut_of : ℕ → PerSite)
    (snap_site : ℕ → ℕ) : Type 0 where
  pub cut_mark : (q : ℕ) → q < next → IsMark k (cut_of q)
  pub cut_below : (q : ℕ) → q < next → Below L received (snap_site q) (cut_of q)
  pub cut_site : (q : ℕ) → q < next → snap_site q < L.sites

-- Put p was made; `mark` covers its full mark; site s had it, and it is its own or `clear` covers its full mark.
pub record Reached (k : Kind) (L : Shape) (received : ℕ → ℕ → PerSite) (log : List Version) (s : ℕ)
    (mark clear : PerSite) (p : Put) : Type 0 where
  pub version : Version
  pub logged : InList version log
  pub named : name_of version ≡ p
  pub covered : Covers mark (full_mark k version)
  pub here : Had L received s version
  pub seen : (version.source ≡ s) ⊎ Covers clear (full_mark k version)

-- Put p stands in the past of put u.
pub record Before (k : Kind) (L : Shape) (received stable : ℕ → ℕ → PerSite) (log : List Version) (u p : Put) : Type
    0 where
  pub writer : Version
  pub logged : InList writer log
  pub named : name_of writer ≡ u
  pub reached : Reached k L received log writer.source writer.mark (stable writer.source (part L writer.key)) p

pub record PastInv (k : Kind) (L : Shape) (P : Pasts) (received stable : ℕ → ℕ → PerSite) (opened : ℕ)
    (session : ℕ → SessionState) (log : List Version) : Type 0 where
  pub open_only : (i : ℕ) (p : Put) → P (of_session i) p → i < opened
  pub of_session_lem : (i : ℕ) (p : Put) → P (of_session i) p
      → Reached k L received log (session i).site (session i).depends (session i).knows p
  pub of_put_lem : (u p : Put) → P (of_put u) p → Before k L received stable log u p

-- All of the above, for pasts P.
pub record Core (k : Kind) (L : Shape) (P : Pasts) (T : Tables) (G : Ghost) : Type 0 where
  pub logs : LogInv k L T.received G.log
  pub queues : QueueInv L T.received T.waits G.log
  pub holds : HeldInv k L T.received T.held T.safe G.log
  pub marks : ServerMarks k L T.received T.reported T.stable
  pub sessions : (i : ℕ) → i < T.opened → SessionInv k L T.received (T.session i)
  pub seats : (a : ℕ) (y : SeatState) → T.seat a ≡ Some y → SeatInv T.opened T.session T.next G.cut_of G.snap_site y
  pub cuts : CutInv k L T.received T.next G.cut_of G.snap_site
  pub pasts : PastInv k L P T.received T.stable T.opened T.session G.log
