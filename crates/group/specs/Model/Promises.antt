-- The promises, for every store and every run of it.
use Rattle.std.specs.Prelude.{◌≡◌, ℕ, ◌<◌, Bool, true, ◌⊎◌, ◌≢◌}
use Rattle.std.specs.Prelude.{List, [], ◌∷◌, Contains, Some, None, Ok, Option, Result}
use Rattle.stamps.specs.declared.refusal.Refusal.{Refusal}
use Rattle.servers.specs.Laws.{IsLatest}
use Rattle.servers.specs.Values.{value_from}
use Rattle.servers.specs.declared.value.Value.{Value}
use Rattle.servers.specs.declared.version.Version.{Version}
use Rattle.group.specs.Model.Events.{Put, IsAsLate, IsLater, Shown, put_shown, Ticket, Call, put, get}
use Rattle.group.specs.Model.Events.{open_snapshot, read, History, session_opened, wrote}
use Rattle.group.specs.Model.Events.{snapshot_opened, read_by, snapshot_closed}
use Rattle.group.specs.Model.Pasts.{site_of, of_session, of_put, HasInPast}
use Rattle.group.specs.Model.Stores.{Store, Run, answer, then, then_all, history}

-- What is shown of a key is put p or a later one; none is older than every put, and so is a refusal.
abbrev pub ShowsAsLate : ℕ → Result (Option Shown) Refusal → Put → Type 0
ShowsAsLate key (Ok (Some v)) p = IsAsLate (put_shown key v) p
ShowsAsLate key other p = ⊥

-- Two answers to a read that are the same, and no refusal.
abbrev pub IsSameAnswer : Result (Option Shown) Refusal → Result (Option Shown) Refusal → Type 0
IsSameAnswer a b = (o : Option Shown) × (a ≡ Ok o) × (b ≡ Ok o)

-- A session was opened.
abbrev pub WasOpened : ℕ → History → Type 0
WasOpened session [] = ⊥
WasOpened session (session_opened i site ∷ h) = (session ≡ i) ⊎ WasOpened session h
WasOpened session (other ∷ h) = WasOpened session h

-- A snapshot was opened, and not closed since.
abbrev pub IsOpen : Ticket → History → Type 0
IsOpen ticket [] = ⊥
IsOpen ticket (snapshot_opened i opened ∷ h) = (ticket ≡ opened) ⊎ IsOpen ticket h
IsOpen ticket (snapshot_closed closed ∷ h) = (ticket ≢ closed) × IsOpen ticket h
IsOpen ticket (other ∷ h) = IsOpen ticket h

-- The history has a done put of this name and this value. Its source is the site of its session then.
abbrev pub WasPut : History → Put → Value → Type 0
WasPut [] p x = ⊥
WasPut (wrote i key kind amount stamp ∷ h) p x =
    WasPut h p x ⊎ ((p ≡ record { key = key; stamp = stamp; source = site_of h i }) × (value_from kind amount ≡ Ok x))
WasPut (other ∷ h) p x = WasPut h p x

-- a version of any kind
abbrev pub any_version : Version → Bool
any_version v = true

module _ (S : Store) where
  -- What holds after a run.
  pub record Promises (r : Run S) : Type 0 where
    -- (a) a put is later than each put of its key in its past
    pub put_later : (p q : Put) → HasInPast (history S r) (of_put p) q → q.key ≡ p.key → IsLater p q
    -- for each put in a session's past, a get of that key would now show the session this put or a later one
    pub get_shows_past : (session : ℕ) (p : Put) → HasInPast (history S r) (of_session session) p
        → ShowsAsLate p.key (answer S r (get session p.key)) p
    -- (b) an open snapshot would now answer a read of each key as right after its opening, and does not refuse it
    pub snapshot_stays : (session partition : ℕ) (ticket : Ticket)
        → answer S r (open_snapshot session partition) ≡ Ok ticket → (calls : List Call) →
        let opened = then S r (open_snapshot session partition) in
        let now = then_all S opened calls in
        IsOpen ticket (history S now) → (key : ℕ)
        → IsSameAnswer (answer S now (read ticket key)) (answer S opened (read ticket key))
    -- of one snapshot's answers, not one is older than a put of its key in the past of any of them
    pub snapshot_whole : (ticket : Ticket) (key other : ℕ) (o : Option Shown) (v : Shown) (p : Put) →
        Contains (history S r) (read_by ticket key o) → Contains (history S r) (read_by ticket other (Some v)) →
        HasInPast (history S r) (of_put (put_shown other v)) p → p.key ≡ key → ShowsAsLate key (Ok o) p
    -- (c) with every outbox empty, any two sites hold the same latest version of each key, or neither holds one
    pub sites_agree : S.IsQuiet r.state → (site other key : ℕ) → site < S.sites → other < S.sites
        → (v w : Option Version) → IsLatest any_version key (S.holds r.state site) v
        → IsLatest any_version key (S.holds r.state other) w → v ≡ w
    -- no two puts have one name
    pub put_new : (session key kind amount stamp : ℕ) (x : Value)
        → answer S r (put session key kind amount) ≡ Ok stamp
        → WasPut (history S r) (record { key = key; stamp = stamp; source = site_of (history S r) session }) x → ⊥
    -- what is shown of a key was put, with that key, value, stamp and source
    pub get_honest : (session key : ℕ) (v : Shown) → answer S r (get session key) ≡ Ok (Some v) →
        WasPut (history S r) (put_shown key v) v.value
    pub read_honest : (ticket : Ticket) (key : ℕ) (v : Shown) → answer S r (read ticket key) ≡ Ok (Some v) →
        WasPut (history S r) (put_shown key v) v.value
    -- A get of a session that was opened is answered: none exactly when the site holds no version of that key that the
    -- session may see.
    pub get_answers : (session key : ℕ) → WasOpened session (history S r)
        → (o : Option Shown) × (answer S r (get session key) ≡ Ok o)
    pub get_none : (session key : ℕ) → answer S r (get session key) ≡ Ok None
        → (v : Version) → Contains (S.holds r.state (site_of (history S r) session)) v → v.key ≡ key
        → S.may_see r.state session v ≢ true
    pub get_some : (session key : ℕ) (v : Shown) → answer S r (get session key) ≡ Ok (Some v)
        → (w : Version) × Contains (S.holds r.state (site_of (history S r) session)) w × (w.key ≡ key)
        × (S.may_see r.state session w ≡ true)
    -- the capacities and ranges hold
    pub bounded : S.IsBounded r.state

  -- The promises hold right after the making and after every list of calls.
  abbrev pub KeepsPromises : S.State → Type 0
  KeepsPromises made = (calls : List Call) → Promises (then_all S (record { events = []; state = made }) calls)
