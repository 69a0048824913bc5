-- Open snapshots.
use Rattle.std.specs.Prelude.{◌≡◌, ℕ, ◌<◌, if◌then◌else◌, List, length, slice_index_or, ◌==◌, nat_lt}
use Rattle.std.specs.Prelude.{Some, None, Ok, Err, Option, Result}
use Rattle.stamps.specs.declared.refusal.Refusal.{Refusal}
use Rattle.stamps.specs.declared.refusal.Refusal.TheVariants.{NotOpen}
use Rattle.stamps.specs.Rows.{PerSite}
use Rattle.group.specs.Model.Groups.{GroupState, SeatState, SessionState, lowest_free, new_session, session_at}

-- the lowest free seat, if one is free
abbrev pub free_seat : List (Option SeatState) → Option ℕ
free_seat ys = if nat_lt (lowest_free ys) (length ys) then Some (lowest_free ys) else None

-- the cut of an open snapshot of a site's session
abbrev pub cut_in : GroupState → ℕ → Option SeatState → Option PerSite
cut_in g site None = None
cut_in g site (Some y) = if (session_at g y.session).site == site then Some y.cut else None

-- the open snapshot at a seat, if it is open under a serial number
abbrev pub open_at : ℕ → Option SeatState → Result SeatState Refusal
open_at serial None = Err NotOpen
open_at serial (Some y) = if y.serial == serial then Ok y else Err NotOpen

-- each open snapshot is of one of so many sessions
abbrev pub HasSessionsOf : ℕ → List (Option SeatState) → Type 0
HasSessionsOf sessions seats =
    (seat : ℕ) (y : SeatState) → slice_index_or seats seat None ≡ Some y → y.session < sessions

-- each session stands at one of so many sites
abbrev pub HasSitesBelow : ℕ → List SessionState → Type 0
HasSitesBelow sites sessions =
    (i : ℕ) → i < length sessions → (slice_index_or sessions i (new_session 0)).site < sites
