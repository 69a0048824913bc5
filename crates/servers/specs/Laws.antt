-- Laws of one server, in the words of the subject.
use Rattle.std.specs.Prelude.{◌≡◌, ℕ, ◌+◌, ◌^◌, ◌<◌, ◌≤◌, Bool, true, false, if◌then◌else◌, ◌⊎◌}
use Rattle.std.specs.Prelude.{List, [], ◌∷◌, ◌++◌, length, Contains, Some, None, Ok, Err, Option, Result, ◌==◌}
use Rattle.std.specs.Option.{option_to_list}
use Rattle.stamps.specs.declared.refusal.Refusal.{Refusal}
use Rattle.stamps.specs.Kinds.{Kind}
use Rattle.stamps.specs.Rows.{PerSite, HasStamps}
use Rattle.servers.specs.declared.entry.Entry.{Entry}
use Rattle.servers.specs.Others.{is_other}
use Rattle.servers.specs.Outboxes.{Queues, first, issue_entry, empty_queues, is_outbox_full, take_entry}
use Rattle.servers.specs.Servers.{ServerState, server_heartbeat, new_server, server_hand_over, last_of, server_put}
use Rattle.servers.specs.Servers.{server_raise, server_report, server_take, server_tidy, server_tell}
use Rattle.stamps.specs.Clocks.{Rule}
use Rattle.servers.specs.Tables.{is_covered}
use Rattle.servers.specs.Versions.{stamp_answered}
use Rattle.servers.specs.declared.value.Value.{Value}
use Rattle.servers.specs.declared.version.Version.{Version}

-- v is at least as late as w: w is not later
abbrev pub IsAsLateVersion : Version → Version → Type 0
IsAsLateVersion v w = (w.stamp ≤ v.stamp) × (w.stamp ≡ v.stamp → w.source ≤ v.source)

-- v is later than w
abbrev pub IsLaterVersion : Version → Version → Type 0
IsLaterVersion v w = (w.stamp ≤ v.stamp) × (w.stamp ≡ v.stamp → w.source < v.source)

-- a version of the key that passes a test
abbrev pub Passes : (Version → Bool) → ℕ → Version → Type 0
Passes test key v = (v.key ≡ key) × (test v ≡ true)

-- The latest under a test is held and passes, and nothing held that passes is later; there is none exactly when nothing
-- held passes.
abbrev pub IsLatest : (Version → Bool) → ℕ → List Version → Option Version → Type 0
IsLatest test key vs None = (v : Version) → Contains vs v → Passes test key v → ⊥
IsLatest test key vs (Some b) =
    Contains vs b × Passes test key b × ((v : Version) → Contains vs v → Passes test key v → IsAsLateVersion b v)

-- Tidying under a safe mark.
pub record IsTidied (k : Kind) (safe : PerSite) (before after : List Version) (count : ℕ) : Type 0 where
  -- nothing comes in
  pub held : (v : Version) → Contains after v → Contains before v
  -- what is older than a version of its key that the safe mark covers is dropped
  pub gone : (v w : Version) → Contains before w → w.key ≡ v.key → is_covered k safe w ≡ true → IsLaterVersion w v
      → Contains after v → ⊥
  -- what is dropped is older than such a version that stays; so the latest of these stays, and all that is not older
  pub drops : (v : Version) → Contains before v
      → Contains after v
      ⊎ ((w : Version) × Contains after w × (w.key ≡ v.key) × (is_covered k safe w ≡ true) × IsLaterVersion w v)
  pub counts : length after + count ≡ length before

-- A stamp that a server answers is above its last one.
abbrev pub IsAbove : ℕ → Result ℕ Refusal → Type 0
IsAbove last (Ok stamp) = last < stamp
IsAbove last (Err why) = Unit {0}

-- What is done with an outbox: an entry is issued, or a site takes its next one.
pub data Move : Type 0 where
  issue : Entry → Move
  take : ℕ → Move

-- what was issued since the outbox was made, and what each site has taken
pub record Traffic : Type 0 where
  pub queues : Queues
  pub sent : List Entry
  pub taken : ℕ → List Entry

-- with an outbox that is full nothing is issued
abbrev pub traffic_after : ℕ → ℕ → Traffic → Move → Traffic
traffic_after own sites t (issue e) =
    if is_outbox_full own sites t.queues
    then t
    else record { queues = issue_entry own sites t.queues e; sent = t.sent ++ e ∷ []; taken = t.taken }
traffic_after own sites t (take site) =
    record {
      queues = take_entry t.queues site;
      sent = t.sent;
      taken = λ i. if i == site then t.taken i ++ option_to_list (first (t.queues i)) else t.taken i;
    }

abbrev pub traffic : ℕ → ℕ → List Move → Traffic
traffic own sites [] = record { queues = empty_queues; sent = []; taken = λ i. [] }
traffic own sites (m ∷ ms) = traffic_after own sites (traffic own sites ms) m

-- After any moves, the newest first: what another site has taken, followed by what it has still to take, is what was
-- issued, in order, nothing lost and nothing twice; so nothing waits for it exactly when it has taken all that was
-- issued; and it has at most 16 entries still to take. No other site has any.
pub record IsQueue (own sites : ℕ) (t : Traffic) : Type 0 where
  pub whole : (site : ℕ) → is_other own sites site ≡ true → t.taken site ++ t.queues site ≡ t.sent
  pub done : (site : ℕ) → is_other own sites site ≡ true →
      (t.queues site ≡ [] → t.taken site ≡ t.sent) × (t.taken site ≡ t.sent → t.queues site ≡ [])
  pub short : (site : ℕ) → is_other own sites site ≡ true → length (t.queues site) ≤ 16
  pub none : (site : ℕ) → is_other own sites site ≡ false → t.queues site ≡ []

abbrev pub StaysQueue : ℕ → ℕ → Type 0
StaysQueue own sites = (moves : List Move) → IsQueue own sites (traffic own sites moves)

-- The calls that change a server, as plain data.
pub data ServerCall : Type 0 where
  -- the reading
  tell : ℕ → ServerCall
  beat : ServerCall
  -- the key, the value, and the rows of what the session depends on and of what it knows
  put : ℕ → Value → PerSite → PerSite → ServerCall
  -- the site that the entry comes from
  take_from : ℕ → Entry → ServerCall
  -- the site that has taken its next entry
  hand_over : ℕ → ServerCall
  report : ServerCall
  raise : PerSite → ServerCall
  -- the safe mark
  tidy : PerSite → ServerCall

-- What a put depends on is a row of stamps, as the row of every mark is. Of the other numbers nothing is asked.
abbrev pub HasStampMarks : ServerCall → Type 0
HasStampMarks (put key value depends knows) = HasStamps depends
HasStampMarks call = Unit {0}

-- a server, and the stamps that its own puts and heartbeats were answered, the newest first
pub record ServerRun : Type 0 where
  pub server : ServerState
  pub made : List ℕ

-- after a call that makes no stamp
abbrev pub run_without_stamp : ServerRun → ServerState → ServerRun
run_without_stamp l after = record { server = after; made = l.made }

-- after a call that was answered a stamp, or a refusal
abbrev pub run_with_stamp : ServerRun → Result ℕ Refusal → ServerState → ServerRun
run_with_stamp l (Ok stamp) after = record { server = after; made = stamp ∷ l.made }
run_with_stamp l (Err why) after = run_without_stamp l after

abbrev pub run_after : Rule → Kind → ServerRun → ServerCall → ServerRun
run_after rule k l (tell time) = run_without_stamp l (server_tell l.server time).1
run_after rule k l beat = let r = server_heartbeat rule l.server in run_with_stamp l r.0 r.1
run_after rule k l (put key value depends knows) =
    let r = server_put rule k l.server key value depends knows in
    run_with_stamp l (stamp_answered r.0) r.1
run_after rule k l (take_from from e) = run_without_stamp l (server_take l.server from e).1
run_after rule k l (hand_over site) = run_without_stamp l (server_hand_over l.server site)
run_after rule k l report = run_without_stamp l (server_report k l.server)
run_after rule k l (raise mark) = run_without_stamp l (server_raise k l.server mark)
run_after rule k l (tidy safe) = run_without_stamp l (server_tidy k l.server safe).1

-- from the server as it is made; the newest call comes first
abbrev pub server_run : Rule → Kind → ℕ → ℕ → List ServerCall → ServerRun
server_run rule k site sites [] = record { server = new_server site sites; made = [] }
server_run rule k site sites (c ∷ cs) = run_after rule k (server_run rule k site sites cs) c

-- the newest of some stamps, or 0
abbrev pub newest : List ℕ → ℕ
newest [] = 0
newest (s ∷ ss) = s

-- each stamp is above the one made before it, and below 2^63
abbrev pub IsRising : List ℕ → Type 0
IsRising [] = Unit {0}
IsRising (s ∷ ss) = (newest ss < s) × (s < 2 ^ 63) × IsRising ss

-- After any calls, the stamps that a server of the layout has made rise, and the newest of them is its last stamp.
abbrev pub StampsRise : Rule → Kind → ℕ → ℕ → Type 0
StampsRise rule k site sites =
    (calls : List ServerCall) → ((c : ServerCall) → Contains calls c → HasStampMarks c)
    → let run = server_run rule k site sites calls in
    IsRising run.made × (last_of run.server ≡ newest run.made)
