-- Calls, their answers, and what a call and its answer tell. Nothing here says how the store works.
use Rattle.std.specs.Prelude.{◌≡◌, ℕ, ◌<◌, ◌≤◌, List, [], ◌∷◌, ℤ, Ok, Option, Result}
use Rattle.stamps.specs.declared.refusal.Refusal.{Refusal}
use Rattle.servers.specs.declared.value.Value.{Value}

-- A put is named by its key, its stamp and its source, the site where it was made.
pub record Put : Type 0 where
  pub key : ℕ
  pub stamp : ℕ
  pub source : ℕ

-- p is at least as late as q: q is not later
abbrev pub IsAsLate : Put → Put → Type 0
IsAsLate p q = (q.stamp ≤ p.stamp) × (q.stamp ≡ p.stamp → q.source ≤ p.source)

-- p is later than q: a higher stamp, or at equal stamps a higher source
abbrev pub IsLater : Put → Put → Type 0
IsLater p q = (q.stamp ≤ p.stamp) × (q.stamp ≡ p.stamp → q.source < p.source)

-- What a get or a read shows of its key.
pub record Shown : Type 0 where
  pub value : Value
  pub stamp : ℕ
  pub source : ℕ

-- the put that is shown of a key
abbrev pub put_shown : ℕ → Shown → Put
put_shown key v = record { key = key; stamp = v.stamp; source = v.source }

-- What an open snapshot is asked by.
pub record Ticket : Type 0 where
  pub seat : ℕ
  pub serial : ℕ

pub data Call : Type 0 where
  open_session : (site : ℕ) → Call
  tell : (site partition time : ℕ) → Call
  -- a value is given by its kind and its amount
  put : (session key kind amount : ℕ) → Call
  get : (session key : ℕ) → Call
  heartbeat : (site partition : ℕ) → Call
  deliver : (from to partition : ℕ) → Call
  report : (site partition : ℕ) → Call
  stabilise : (site partition : ℕ) → Call
  open_snapshot : (session partition : ℕ) → Call
  read : Ticket → (key : ℕ) → Call
  close : Ticket → Call
  tidy : (site partition : ℕ) → Call
  lead : (site partition : ℕ) → Call

-- the answer of a call that has only been done
abbrev pub Done : Type 0
Done = Unit {0}

-- The answer to a call that is not refused: a session's number, a stamp, none or what is shown, a ticket, how many
-- versions were dropped, how far the last stamp is ahead of the clock; or only that it is done.
abbrev pub Outcome : Call → Type 0
Outcome (open_session site) = ℕ
Outcome (put session key kind amount) = ℕ
Outcome (get session key) = Option Shown
Outcome (heartbeat site partition) = ℕ
Outcome (open_snapshot session partition) = Ticket
Outcome (read ticket key) = Option Shown
Outcome (tidy site partition) = ℕ
Outcome (lead site partition) = ℤ
Outcome call = Done

abbrev pub Answer : Call → Type 0
Answer call = Result (Outcome call) Refusal

pub record Event : Type 0 where
  pub call : Call
  pub answer : Answer call

-- What a call that was done tells of sessions, puts and snapshots. A refused call tells nothing, and neither do the
-- calls that concern no session.
pub data Told : Type 0 where
  session_opened : (session site : ℕ) → Told
  wrote : (session key kind amount stamp : ℕ) → Told
  got : (session key : ℕ) → Option Shown → Told
  snapshot_opened : (session : ℕ) → Ticket → Told
  read_by : Ticket → (key : ℕ) → Option Shown → Told
  snapshot_closed : Ticket → Told
  nothing : Told

abbrev pub what_is_told : (call : Call) → Answer call → Told
what_is_told (open_session site) (Ok session) = session_opened session site
what_is_told (put session key kind amount) (Ok stamp) = wrote session key kind amount stamp
what_is_told (get session key) (Ok v) = got session key v
what_is_told (open_snapshot session partition) (Ok ticket) = snapshot_opened session ticket
what_is_told (read ticket key) (Ok v) = read_by ticket key v
what_is_told (close ticket) (Ok done) = snapshot_closed ticket
what_is_told call answer = nothing

-- A history, by what its calls and their answers told, the newest first.
abbrev pub History : Type 0
History = List Told

abbrev pub history_of : List Event → History
history_of [] = []
history_of (e ∷ es) = what_is_told e.call e.answer ∷ history_of es
